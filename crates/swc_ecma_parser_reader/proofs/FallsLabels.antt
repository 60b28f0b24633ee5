-- A statement behind a label takes a token at least, and so does a statement that no word begins.
use Rattle.swc_ecma_parser_reader.specs.State.{Scope, and_then, below, relabelled, below_label, reference, State, Outcome, Reader, coded, expect}
use Rattle.swc_ecma_parser_grammar.specs.language.Items.{labelled_item}
use Rattle.swc_ecma_parser_reader.specs.Reader.{begins_label, relabels, labelled_body, labeled_stmt, other_stmt}
use Rattle.swc_ecma_parser_grammar.specs.language.Contexts.{in_breakable}
use Rattle.std.proofs.Common.{ℕ, length, Ok, Err}
use Rattle.swc_ecma_parser_common.specs.declared.span.Span.{Span}
use Rattle.swc_ecma_parser_error.specs.Kind as faults
use Rattle.swc_ecma_parser_token.specs.declared.kind.TokenKind.TheVariants as kind
use Rattle.swc_ecma_parser_model.specs.Tree as tree
use Rattle.swc_ecma_parser_model.specs.Tree.{Tree, Text}
use Rattle.swc_ecma_parser_grammar.specs.declared.position.Position.{Position}
use Rattle.swc_ecma_parser_reader.proofs.Takes.{Falls, falls_then, falls_last, falls_coded, falls_if, less, falls_next, expect_falls, reference_falls}
use Rattle.swc_ecma_parser_reader.proofs.Behind.{Passes}
use Rattle.swc_ecma_parser_reader.proofs.expressions.Falls.{told_falls}
use Rattle.swc_ecma_parser_reader.proofs.FallsSimple.{expr_stmt_at_falls}

relabelled_falls : {A : Type 0} (j n : ℕ) (w : Scope) (o : Outcome A) → Falls j n o → Falls j n (and_then o (λ a t. Ok (a, relabelled w t)))
relabelled_falls j n w (Ok p) h = h
relabelled_falls j n w (Err e) h = h

module _ (inner : Position → Reader Tree) (h : (at : Position) (s : State) → Falls 1 (length s.at.left) (inner at s)) where
  labelled_body_falls : (text : Text) (s : State) → Falls 0 (length s.at.left) (labelled_body inner text s)
  unfolding labelled_body
  labelled_body_falls text s =
      let t = below text (coded (in_breakable s.code) s) in
      falls_coded 0 (length s.at.left) (below_label text (inner (labelled_item s.at)) (coded (in_breakable s.code) s)) _ _
      (relabelled_falls 0 (length s.at.left) s.scope (inner (labelled_item s.at) t) (less (length s.at.left) (inner (labelled_item s.at) t) (h (labelled_item s.at) t)))

  labeled_falls : (s : State) → Falls 1 (length s.at.left) (labeled_stmt inner s)
  unfolding labeled_stmt relabels
  labeled_falls s = falls_next (length s.at.left) (reference faults.ExpectedIdent s) _ (reference_falls faults.ExpectedIdent s) (λ i t.
      falls_then 0 0 (length t.at.left) (expect kind.Colon t) _ (expect_falls kind.Colon t) (λ _ u.
      falls_then 0 0 (length u.at.left) (labelled_body inner i.sym u) _ (labelled_body_falls i.sym u) (λ y v.
      falls_last 0 (length v.at.left) (relabels (tree.ident i.span i.sym) y v) _ (told_falls _ v))))

  pub other_falls : (inner_expr : Reader Tree) → ((s : State) → Falls 1 (length s.at.left) (inner_expr s)) → (operators : Span → Tree → Reader Tree) → ((start : Span) (x : Tree) → Passes (operators start x))
      → (at : Position) (s : State) → Falls 1 (length s.at.left) (other_stmt inner inner_expr operators at s)
  unfolding other_stmt
  other_falls inner_expr g operators p at s = falls_if 1 (length s.at.left) (begins_label s.code s.at) _ _ (labeled_falls s) (expr_stmt_at_falls inner_expr g operators p at s)
