-- `if` loses nothing, and neither does any link of its chain.
use Rattle.swc_ecma_parser_reader.proofs.KeepsParts.{labelled_keeps}
use Rattle.swc_ecma_parser_reader.specs.Reader.{goes_on, condition, alternative, link_from, link, links}
use Rattle.swc_ecma_parser_model.specs.Tree.{Tree}
use Rattle.swc_ecma_parser_reader.specs.State.{State, Reader, moved, coded, within, fault_at, labelled, labelled_as, expect}
use Rattle.swc_ecma_parser_grammar.specs.language.Items.{sub_statement}
use Rattle.swc_ecma_parser_grammar.specs.language.Contexts.{with_in}
use Rattle.std.proofs.Common.{◌≡◌, ℕ, zero, suc, refl}
use Rattle.swc_ecma_parser_error.specs.Kind as faults
use Rattle.swc_ecma_parser_token.specs.declared.kind.TokenKind.TheVariants as kind
use Rattle.swc_ecma_parser_grammar.specs.declared.position.Position.{Position}
use Rattle.swc_ecma_parser_grammar.specs.Looks.{kind_at, sees}
use Rattle.swc_ecma_parser_grammar.specs.language.Goals.{Class, expression}
use Rattle.swc_ecma_parser_reader.proofs.Meets.{Answers, answers_then, answers_if}
use Rattle.swc_ecma_parser_reader.proofs.Behind.{NothingLost, Kept, Lost, Passes, flagged_kept, lost, behind_after, behind_seen, expect_keeps}
use Rattle.swc_ecma_parser_reader.proofs.Opens.{chain_goes}

-- the links of a chain
module _ (inner : Position → Reader Tree) (inner_expr : Class → Reader Tree)
    (below_stmt : (at : Position) → Passes (inner at)) (below_expr : (class : Class) → Passes (inner_expr class)) where
  link_keeps : (b : State) → (s : State) → NothingLost b (moved s) → Answers (Kept b) (Lost b) (link (inner sub_statement) (inner_expr expression) s)
  unfolding link link_from condition labelled
  link_keeps b s g = answers_then (Kept b) _ (condition (inner_expr expression) (moved s)) _
      (answers_then _ _ (expect kind.LParen (moved s)) _ (expect_keeps b (moved s) g kind.LParen refl) (λ _ u j.
      answers_then _ _ (labelled_as (within with_in (inner_expr expression) u)) _
      (labelled_keeps b (Kept b) (within with_in (inner_expr expression) u)
      (answers_then (Kept b) _ (inner_expr expression (coded (with_in u.code) u)) _ (below_expr expression b (coded (with_in u.code) u) j) (λ x v k. flagged_kept b u v j k))) (λ x v k.
      answers_then _ _ (expect kind.RParen v) _ (expect_keeps b v k kind.RParen refl) (λ _ w z. z)))) (λ x t k.
      answers_then _ _ (inner sub_statement t) _ (below_stmt sub_statement b t k) (λ y u z. z))

  alternative_keeps : (b : State) → (s : State) → NothingLost b s → Answers (Kept b) (Lost b) (alternative (inner sub_statement) s)
  unfolding alternative
  alternative_keeps b s g = answers_if _ _ (sees kind.Else s.at) _ _ (λ seen. below_stmt sub_statement b (moved s) (behind_seen b s kind.Else seen refl g)) (λ _. g)

  pub links_keeps : (l : ℕ) (b s : State) → kind_at s.at ≡ kind.If → NothingLost b s → Answers (Kept b) (Lost b) (links (inner sub_statement) (inner_expr expression) l s)
  unfolding links
  links_keeps zero b s e f = lost b (fault_at s.at.last faults.OutOfMemory) s f
  links_keeps (suc l) b s e f =
      let g = behind_after b s e refl f in
      answers_then (Kept b) _ (link (inner sub_statement) (inner_expr expression) s) _ (link_keeps b s g) (λ x t j.
      answers_if _ _ (goes_on t.at) _ _
      (λ o. answers_then (Kept b) _ (links (inner sub_statement) (inner_expr expression) l (moved t)) _
      (links_keeps l b (moved t) (chain_goes t.at o).1 (behind_after b t (chain_goes t.at o).0 refl j)) (λ y u z. z))
      (λ _. answers_then (Kept b) _ (alternative (inner sub_statement) t) _ (alternative_keeps b t j) (λ y u z. z)))
