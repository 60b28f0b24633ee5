-- A labelled statement loses nothing, and neither does a statement that no word begins.
use Rattle.swc_ecma_parser_reader.proofs.expressions.KeepSteps.{told_keeps}
use Rattle.swc_ecma_parser_reader.specs.Reader.{begins_label, relabels, labelled_body, labeled_stmt, other_stmt}
use Rattle.swc_ecma_parser_model.specs.Tree.{Text}
use Rattle.swc_ecma_parser_reader.specs.State.{below, below_label, reference, State, coded, expect}
use Rattle.swc_ecma_parser_grammar.specs.language.Items.{labelled_item}
use Rattle.swc_ecma_parser_grammar.specs.language.Contexts.{in_breakable}
use Rattle.std.proofs.Common.{refl}
use Rattle.swc_ecma_parser_error.specs.Kind as faults
use Rattle.swc_ecma_parser_token.specs.declared.kind.TokenKind.TheVariants as kind
use Rattle.swc_ecma_parser_model.specs.Tree as tree
use Rattle.swc_ecma_parser_grammar.specs.declared.position.Position.{Position}
use Rattle.swc_ecma_parser_grammar.specs.language.Goals.{expression}
use Rattle.swc_ecma_parser_reader.proofs.Meets.{Answers, answers_then, answers_if}
use Rattle.swc_ecma_parser_reader.proofs.Behind.{NothingLost, Kept, Lost, flagged_kept, expect_keeps, reference_keeps}
use Rattle.swc_ecma_parser_reader.proofs.KeepsBelow.{KeepsBelow}
use Rattle.swc_ecma_parser_reader.proofs.KeepsSimple.{expr_stmt_at_keeps}

module _ (known : KeepsBelow) (at : Position) (b : State) (s : State) (f : NothingLost b s) where
  labelled_body_keeps : (text : Text) (t : State) → NothingLost b t → Answers (Kept b) (Lost b) (labelled_body known.inner text t)
  unfolding labelled_body
  labelled_body_keeps text t g = answers_then (Kept b) _ (below_label text (known.inner (labelled_item t.at)) (coded (in_breakable t.code) t)) _
      (answers_then (Kept b) _ (known.inner (labelled_item t.at) (below text (coded (in_breakable t.code) t))) _ (known.below_stmt (labelled_item t.at) b (below text (coded (in_breakable t.code) t)) g) (λ x u k. k))
      (λ x u k. flagged_kept b t u g k)

  labeled_keeps : Answers (Kept b) (Lost b) (labeled_stmt known.inner s)
  unfolding labeled_stmt relabels
  labeled_keeps = answers_then (Kept b) _ (reference faults.ExpectedIdent s) _ (reference_keeps b s f faults.ExpectedIdent) (λ x t k.
      answers_then (Kept b) _ (expect kind.Colon t) _ (expect_keeps b t k kind.Colon refl) (λ _ u g.
      answers_then (Kept b) _ (labelled_body known.inner x.sym u) _ (labelled_body_keeps x.sym u g) (λ y v j.
      answers_then (Kept b) _ (relabels (tree.ident x.span x.sym) y v) _ (told_keeps b _ v (j)) (λ _ b a. a))))

  pub other_keeps : Answers (Kept b) (Lost b) (other_stmt known.inner (known.inner_expr expression) known.inner_operators at s)
  unfolding other_stmt
  other_keeps = answers_if _ _ (begins_label s.code s.at) _ _ (λ _. labeled_keeps) (λ _. expr_stmt_at_keeps known at b s f)
