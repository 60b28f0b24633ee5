-- `with` takes a token at least.
use Rattle.swc_ecma_parser_reader.specs.State.{State, Reader, moved, coded, within}
use Rattle.swc_ecma_parser_reader.specs.Reader.{note_with, with_stmt, head}
use Rattle.swc_ecma_parser_grammar.specs.language.Contexts.{in_with}
use Rattle.std.proofs.Common.{◌≢◌, length}
use Rattle.swc_ecma_parser_token.specs.declared.kind.TokenKind.TheVariants as kind
use Rattle.swc_ecma_parser_input.specs.Place.{after}
use Rattle.swc_ecma_parser_model.specs.Tree.{Tree}
use Rattle.swc_ecma_parser_grammar.specs.Looks.{kind_at, span_at}
use Rattle.swc_ecma_parser_reader.proofs.Takes.{Falls, falls_then, falls_last, falls_coded, less, falls_past, note_with_falls}
use Rattle.swc_ecma_parser_reader.proofs.FallsHeads.{head_falls}

module _ (inner : Reader Tree) (h : (s : State) → Falls 1 (length s.at.left) (inner s)) (inner_expr : Reader Tree) (g : (s : State) → Falls 1 (length s.at.left) (inner_expr s)) where
  pub with_falls : (s : State) → kind_at s.at ≢ kind.End → Falls 1 (length s.at.left) (with_stmt inner inner_expr s)
  unfolding with_stmt
  with_falls s e = falls_past s _ e (falls_then 0 0 (length (after s.at).left) (note_with (span_at s.at) (moved s)) _ (note_with_falls (span_at s.at) (moved s)) (λ _ t.
      falls_then 0 0 (length t.at.left) (head inner_expr t) _ (head_falls inner_expr g t) (λ x u.
      falls_last 0 (length u.at.left) (within in_with inner u) _
      (falls_coded 0 (length u.at.left) (inner (coded (in_with u.code) u)) _ _ (less (length u.at.left) (inner (coded (in_with u.code) u)) (h (coded (in_with u.code) u)))))))
