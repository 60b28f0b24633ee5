-- A statement that holds no other loses nothing: `debugger`, and an expression.
use Rattle.swc_ecma_parser_reader.proofs.KeepsParts.{module_fault_keeps}
use Rattle.swc_ecma_parser_reader.specs.Reader.{debugger, note_statement, no_label, stmt_end, expr_stmt, expr_stmt_at, import_stmt_at}
use Rattle.swc_ecma_parser_reader.specs.State.{State, moved, coded, within, fault_at, end}
use Rattle.swc_ecma_parser_grammar.specs.language.Contexts.{with_in}
use Rattle.swc_ecma_parser_grammar.specs.Follows.{may_begin_expression_statement, begins_import_expression}
use Rattle.std.proofs.Common.{◌≡◌, refl}
use Rattle.std.specs.Prelude.{◌&&◌, codes}
use Rattle.swc_ecma_parser_error.specs.Kind as faults
use Rattle.swc_ecma_parser_token.specs.declared.kind.TokenKind.TheVariants as kind
use Rattle.swc_ecma_parser_model.specs.Forms.{is_ident, is_ident_named, span_of}
use Rattle.swc_ecma_parser_grammar.specs.declared.position.Position.{Position}
use Rattle.swc_ecma_parser_grammar.specs.Looks.{kind_at, sees, span_at}
use Rattle.swc_ecma_parser_grammar.specs.language.Goals.{expression}
use Rattle.swc_ecma_parser_reader.proofs.Meets.{Answers, answers_then, answers_if}
use Rattle.swc_ecma_parser_reader.proofs.StatementEnds.{stmt_end_keeps}
use Rattle.swc_ecma_parser_reader.proofs.Behind.{NothingLost, Kept, Lost, flagged_kept, behind_after, wanted_keeps, refuse_keeps, end_keeps}
use Rattle.swc_ecma_parser_reader.proofs.KeepsBelow.{KeepsBelow}

module _ (known : KeepsBelow) (at : Position) (b : State) (s : State) (f : NothingLost b s) where
  pub debugger_keeps : kind_at s.at ≡ kind.Debugger → Answers (Kept b) (Lost b) (debugger s)
  unfolding debugger
  debugger_keeps e = answers_then _ _ (end faults.Expected (moved s)) _ (end_keeps b (moved s) (behind_after b s e refl f) faults.Expected) (λ _ t g. g)

  -- no token stands before a statement's expression, which is why there is one level more
  whole_keeps : Answers (Kept b) (Lost b) (within with_in (known.inner_expr expression) s)
  whole_keeps = answers_then (Kept b) _ (known.inner_expr expression (coded (with_in s.code) s)) _ (known.below_expr expression b (coded (with_in s.code) s) f) (λ x t k. flagged_kept b s t f k)

  expr_stmt_keeps : Answers (Kept b) (Lost b) (expr_stmt (known.inner_expr expression) known.inner_operators s)
  unfolding expr_stmt no_label note_statement
  expr_stmt_keeps = answers_then _ _ (within with_in (known.inner_expr expression) s) _ whole_keeps (λ x t k.
      answers_then _ _ (no_label x t) _ (answers_if (Kept b) _ (is_ident x && sees kind.Colon t.at) _ _ (λ _. wanted_keeps _ faults.Unexpected b t k) (λ _. k)) (λ _ u j.
      answers_then _ _ (note_statement x u) _ (answers_if (Kept b) _ (is_ident_named (codes "interface") x) _ _
      (λ _. module_fault_keeps b (fault_at (span_of x) faults.InvalidIdentInStrict) u refl j) (λ _. j)) (λ _ v g.
      answers_then _ _ (stmt_end known.inner_operators (span_at s.at) x v) _ (stmt_end_keeps known.inner_operators known.below_operators (span_at s.at) x b v g) (λ _ w z. z))))

  pub expr_stmt_at_keeps : Answers (Kept b) (Lost b) (expr_stmt_at (known.inner_expr expression) known.inner_operators at s)
  unfolding expr_stmt_at
  expr_stmt_at_keeps = answers_if _ _ (may_begin_expression_statement at s.at) _ _ (λ _. expr_stmt_keeps) (λ _. wanted_keeps _ faults.Unexpected b s f)

  pub import_stmt_at_keeps : Answers (Kept b) (Lost b) (import_stmt_at (known.inner_expr expression) known.inner_operators s)
  unfolding import_stmt_at
  import_stmt_at_keeps = answers_if _ _ (begins_import_expression s.at) _ _ (λ _. expr_stmt_keeps) (λ _. refuse_keeps _ faults.ImportExportInScript b s f)
