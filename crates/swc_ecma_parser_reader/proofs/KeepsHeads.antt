-- The expression in parentheses behind the word of a statement loses nothing.
use Rattle.swc_ecma_parser_reader.specs.Reader.{head}
use Rattle.swc_ecma_parser_reader.specs.State.{State, coded, within, expect}
use Rattle.swc_ecma_parser_grammar.specs.language.Contexts.{with_in}
use Rattle.std.proofs.Common.{refl}
use Rattle.swc_ecma_parser_token.specs.declared.kind.TokenKind.TheVariants as kind
use Rattle.swc_ecma_parser_grammar.specs.language.Goals.{expression}
use Rattle.swc_ecma_parser_reader.proofs.Meets.{Answers, answers_then}
use Rattle.swc_ecma_parser_reader.proofs.Behind.{NothingLost, Kept, Lost, flagged_kept, expect_keeps}
use Rattle.swc_ecma_parser_reader.proofs.KeepsBelow.{KeepsBelow}

module _ (known : KeepsBelow) (b : State) where
  pub head_keeps : (t : State) → NothingLost b t → Answers (Kept b) (Lost b) (head (known.inner_expr expression) t)
  unfolding head
  head_keeps t g = answers_then _ _ (expect kind.LParen t) _ (expect_keeps b t g kind.LParen refl) (λ _ u j.
      answers_then _ _ (within with_in (known.inner_expr expression) u) _
      (answers_then (Kept b) _ (known.inner_expr expression (coded (with_in u.code) u)) _ (known.below_expr expression b (coded (with_in u.code) u) j) (λ x v k. flagged_kept b u v j k)) (λ x v k.
      answers_then _ _ (expect kind.RParen v) _ (expect_keeps b v k kind.RParen refl) (λ _ w z. z)))
