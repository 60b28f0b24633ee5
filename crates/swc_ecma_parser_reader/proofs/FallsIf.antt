-- `if` takes a token at least, and so does each link of its chain.
use Rattle.swc_ecma_parser_reader.specs.State.{State, Reader, moved, within, labelled, labelled_as, expect}
use Rattle.swc_ecma_parser_reader.specs.Reader.{Link, goes_on, condition, alternative, link_from, link, behind_link, links, if_stmt}
use Rattle.swc_ecma_parser_grammar.specs.language.Contexts.{with_in}
use Rattle.std.proofs.Common.{◌≢◌, ℕ, zero, suc, length, arith}
use Rattle.swc_ecma_parser_common.specs.declared.span.Span.{Span}
use Rattle.swc_ecma_parser_token.specs.declared.kind.TokenKind.TheVariants as kind
use Rattle.swc_ecma_parser_input.specs.Place.{after}
use Rattle.swc_ecma_parser_model.specs.Tree.{Tree}
use Rattle.swc_ecma_parser_grammar.specs.Looks.{kind_at, sees, span_at}
use Rattle.swc_ecma_parser_reader.proofs.Takes.{Falls, labelled_falls, falls_then, falls_last, falls_if, less, falls_past, falls_moved, expect_falls}
use Rattle.swc_ecma_parser_reader.proofs.FallsHeads.{whole_falls}

module _ (inner : Reader Tree) (h : (s : State) → Falls 1 (length s.at.left) (inner s)) where
  condition_falls : (s : State) → Falls 0 (length s.at.left) (condition inner s)
  unfolding condition labelled
  condition_falls s = falls_then 0 0 (length s.at.left) (expect kind.LParen s) _ (expect_falls kind.LParen s) (λ _ t.
      falls_then 0 0 (length t.at.left) (labelled_as (within with_in inner t)) _
      (labelled_falls 0 (length t.at.left) (within with_in inner t) (less (length t.at.left) (within with_in inner t) (whole_falls inner h t))) (λ x u.
      falls_last 0 (length u.at.left) (expect kind.RParen u) _ (expect_falls kind.RParen u)))

module _ (inner : Reader Tree) (h : (s : State) → Falls 1 (length s.at.left) (inner s)) (inner_expr : Reader Tree) (g : (s : State) → Falls 1 (length s.at.left) (inner_expr s)) where
  link_from_falls : (start : Span) (s : State) → Falls 0 (length s.at.left) (link_from inner inner_expr start s)
  unfolding link_from
  link_from_falls start s = falls_then 0 0 (length s.at.left) (condition inner_expr s) _ (condition_falls inner_expr g s) (λ x t.
      falls_last 0 (length t.at.left) (inner t) _ (less (length t.at.left) (inner t) (h t)))

  pub link_falls : (s : State) → Falls 0 (length s.at.left) (link inner inner_expr s)
  unfolding link
  link_falls s = falls_moved 0 s _ (link_from_falls (span_at s.at) (moved s))

  pub alternative_falls : (s : State) → Falls 0 (length s.at.left) (alternative inner s)
  unfolding alternative
  alternative_falls s = falls_if 0 (length s.at.left) (sees kind.Else s.at) _ _ (falls_moved 0 s (inner (moved s)) (less (length (after s.at).left) (inner (moved s)) (h (moved s)))) (omega arith)

  behind_falls : (rest : Reader Tree) → ((s : State) → Falls 0 (length s.at.left) (rest s)) → (l : Link) (s : State) → Falls 0 (length s.at.left) (behind_link inner inner_expr rest l s)
  behind_falls rest i l s = falls_if 0 (length s.at.left) (goes_on s.at) _ _ (falls_moved 0 s _ (falls_last 0 (length (after s.at).left) (rest (moved s)) _ (i (moved s))))
      (falls_last 0 (length s.at.left) (alternative inner s) _ (alternative_falls s))

  pub links_fall : (n : ℕ) (s : State) → Falls 0 (length s.at.left) (links inner inner_expr n s)
  unfolding links
  links_fall zero s = tt
  links_fall (suc n) s = falls_then 0 0 (length s.at.left) (link inner inner_expr s) _ (link_falls s) (λ l t. behind_falls (links inner inner_expr n) (links_fall n) l t)

  pub if_falls : (s : State) → kind_at s.at ≢ kind.End → Falls 1 (length s.at.left) (if_stmt inner inner_expr s)
  unfolding if_stmt links link
  if_falls s e = falls_then 1 0 (length s.at.left) (link inner inner_expr s) _ (falls_past s _ e (link_from_falls (span_at s.at) (moved s))) (λ l t.
      behind_falls (links inner inner_expr (length s.at.left)) (links_fall (length s.at.left)) l t)
