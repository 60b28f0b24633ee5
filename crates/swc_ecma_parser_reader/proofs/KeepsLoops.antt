-- `while` and `do` lose nothing, and neither does the body of any loop.
use Rattle.swc_ecma_parser_reader.proofs.KeepsParts.{optional_end_keeps}
use Rattle.swc_ecma_parser_reader.specs.Reader.{optional_end, head, while_stmt, do_while}
use Rattle.swc_ecma_parser_reader.specs.State.{State, moved, coded, within, expect}
use Rattle.swc_ecma_parser_grammar.specs.language.Items.{sub_statement}
use Rattle.swc_ecma_parser_grammar.specs.language.Contexts.{in_loop}
use Rattle.std.proofs.Common.{◌≡◌, refl}
use Rattle.swc_ecma_parser_token.specs.declared.kind.TokenKind.TheVariants as kind
use Rattle.swc_ecma_parser_grammar.specs.Looks.{kind_at}
use Rattle.swc_ecma_parser_grammar.specs.language.Goals.{expression}
use Rattle.swc_ecma_parser_reader.proofs.Meets.{Answers, answers_then}
use Rattle.swc_ecma_parser_reader.proofs.Behind.{NothingLost, Kept, Lost, flagged_kept, behind_after, expect_keeps}
use Rattle.swc_ecma_parser_reader.proofs.KeepsBelow.{KeepsBelow}
use Rattle.swc_ecma_parser_reader.proofs.KeepsHeads.{head_keeps}

module _ (known : KeepsBelow) (b : State) (s : State) (f : NothingLost b s) where
  -- the body of a loop
  pub looped_keeps : (t : State) → NothingLost b t → Answers (Kept b) (Lost b) (within in_loop (known.inner sub_statement) t)
  looped_keeps t g = answers_then (Kept b) _ (known.inner sub_statement (coded (in_loop t.code) t)) _ (known.below_stmt sub_statement b (coded (in_loop t.code) t) g) (λ x u k. flagged_kept b t u g k)

  pub while_keeps : kind_at s.at ≡ kind.While → Answers (Kept b) (Lost b) (while_stmt (known.inner sub_statement) (known.inner_expr expression) s)
  unfolding while_stmt
  while_keeps e =
      let g = behind_after b s e refl f in
      answers_then _ _ (head (known.inner_expr expression) (moved s)) _ (head_keeps known b (moved s) g) (λ x t k.
      answers_then _ _ (within in_loop (known.inner sub_statement) t) _ (looped_keeps t k) (λ y u j. j))

  pub do_while_keeps : kind_at s.at ≡ kind.Do → Answers (Kept b) (Lost b) (do_while (known.inner sub_statement) (known.inner_expr expression) s)
  unfolding do_while
  do_while_keeps e =
      let g = behind_after b s e refl f in
      answers_then _ _ (within in_loop (known.inner sub_statement) (moved s)) _ (looped_keeps (moved s) g) (λ y t k.
      answers_then _ _ (expect kind.While t) _ (expect_keeps b t k kind.While refl) (λ _ u j.
      answers_then _ _ (head (known.inner_expr expression) u) _ (head_keeps known b u j) (λ x v z.
      answers_then _ _ (optional_end v) _ (optional_end_keeps b v z) (λ _ b a. a))))
