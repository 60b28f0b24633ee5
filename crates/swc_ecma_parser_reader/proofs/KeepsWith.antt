-- `with` loses nothing.
use Rattle.swc_ecma_parser_reader.proofs.KeepsParts.{note_with_keeps}
use Rattle.swc_ecma_parser_reader.specs.Reader.{note_with, with_stmt, head}
use Rattle.swc_ecma_parser_reader.specs.State.{State, moved, coded, within}
use Rattle.swc_ecma_parser_grammar.specs.language.Items.{sub_statement}
use Rattle.swc_ecma_parser_grammar.specs.language.Contexts.{in_with}
use Rattle.std.proofs.Common.{◌≡◌, refl}
use Rattle.swc_ecma_parser_token.specs.declared.kind.TokenKind.TheVariants as kind
use Rattle.swc_ecma_parser_grammar.specs.Looks.{kind_at, span_at}
use Rattle.swc_ecma_parser_grammar.specs.language.Goals.{expression}
use Rattle.swc_ecma_parser_reader.proofs.Meets.{Answers, answers_then}
use Rattle.swc_ecma_parser_reader.proofs.Behind.{NothingLost, Kept, Lost, flagged_kept, behind_after}
use Rattle.swc_ecma_parser_reader.proofs.KeepsBelow.{KeepsBelow}
use Rattle.swc_ecma_parser_reader.proofs.KeepsHeads.{head_keeps}

module _ (known : KeepsBelow) (b : State) (s : State) (f : NothingLost b s) where
  pub with_keeps : kind_at s.at ≡ kind.With → Answers (Kept b) (Lost b) (with_stmt (known.inner sub_statement) (known.inner_expr expression) s)
  unfolding with_stmt
  with_keeps e =
      let g = behind_after b s e refl f in
      answers_then (Kept b) _ (note_with (span_at s.at) (moved s)) _ (note_with_keeps b (span_at s.at) (moved s) g) (λ _ r o.
      answers_then _ _ (head (known.inner_expr expression) r) _ (head_keeps known b r o) (λ x t k.
      answers_then _ _ (within in_with (known.inner sub_statement) t) _
      (answers_then (Kept b) _ (known.inner sub_statement (coded (in_with t.code) t)) _ (known.below_stmt sub_statement b (coded (in_with t.code) t) k) (λ y u j. flagged_kept b t u k j))
      (λ y u j. j)))
