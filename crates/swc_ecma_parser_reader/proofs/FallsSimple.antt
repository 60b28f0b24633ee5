-- A statement that holds no other takes a token at least: the empty one, `debugger`, and an expression.
use Rattle.swc_ecma_parser_reader.specs.State.{State, Reader, moved, within, end}
use Rattle.swc_ecma_parser_reader.specs.Reader.{empty, debugger, note_statement, no_label, stmt_end, expr_stmt, expr_stmt_at, import_stmt_at}
use Rattle.swc_ecma_parser_grammar.specs.language.Contexts.{with_in}
use Rattle.std.proofs.Common.{◌≢◌, length, arith}
use Rattle.std.specs.Prelude.{◌&&◌}
use Rattle.swc_ecma_parser_common.specs.declared.span.Span.{Span}
use Rattle.swc_ecma_parser_error.specs.Kind as faults
use Rattle.swc_ecma_parser_token.specs.declared.kind.TokenKind.TheVariants as kind
use Rattle.swc_ecma_parser_input.specs.Place.{after}
use Rattle.swc_ecma_parser_model.specs.Tree.{Tree}
use Rattle.swc_ecma_parser_model.specs.Forms.{is_ident}
use Rattle.swc_ecma_parser_grammar.specs.declared.position.Position.{Position}
use Rattle.swc_ecma_parser_grammar.specs.Looks.{kind_at, sees, span_at}
use Rattle.swc_ecma_parser_grammar.specs.Follows.{may_begin_expression_statement, begins_import_expression}
use Rattle.swc_ecma_parser_reader.proofs.Takes.{Falls, falls_then, falls_last, falls_if, falls_next, takes, falls_past, wanted_falls, refuse_falls, end_falls, note_falls}
use Rattle.swc_ecma_parser_reader.proofs.StatementEnds.{stmt_end_falls}
use Rattle.swc_ecma_parser_reader.proofs.Behind.{Passes}
use Rattle.swc_ecma_parser_reader.proofs.FallsHeads.{whole_falls}

pub empty_falls : (s : State) → kind_at s.at ≢ kind.End → Falls 1 (length s.at.left) (empty s)
unfolding empty
empty_falls s h = takes s.at h

pub debugger_falls : (s : State) → kind_at s.at ≢ kind.End → Falls 1 (length s.at.left) (debugger s)
unfolding debugger
debugger_falls s h = falls_past s _ h (falls_last 0 (length (after s.at).left) (end faults.Expected (moved s)) _ (end_falls faults.Expected (moved s)))

module _ (inner : Reader Tree) (h : (s : State) → Falls 1 (length s.at.left) (inner s)) where
  no_label_falls : (x : Tree) (s : State) → Falls 0 (length s.at.left) (no_label x s)
  unfolding no_label
  no_label_falls x s = falls_if 0 (length s.at.left) (is_ident x && sees kind.Colon s.at) _ _ (wanted_falls (Unit {0}) 0 (length s.at.left) faults.Unexpected s) (omega arith)

  expr_stmt_falls : (operators : Span → Tree → Reader Tree) → ((start : Span) (x : Tree) → Passes (operators start x)) → (s : State) → Falls 1 (length s.at.left) (expr_stmt inner operators s)
  unfolding expr_stmt
  expr_stmt_falls operators p s = falls_next (length s.at.left) (within with_in inner s) _ (whole_falls inner h s) (λ x t.
      falls_then 0 0 (length t.at.left) (no_label x t) _ (no_label_falls x t) (λ _ u.
      falls_then 0 0 (length u.at.left) (note_statement x u) _ (note_falls x u) (λ _ v.
      falls_last 0 (length v.at.left) (stmt_end operators (span_at s.at) x v) _ (stmt_end_falls operators p (span_at s.at) x v))))

  pub expr_stmt_at_falls : (operators : Span → Tree → Reader Tree) → ((start : Span) (x : Tree) → Passes (operators start x)) → (at : Position) (s : State) → Falls 1 (length s.at.left) (expr_stmt_at inner operators at s)
  unfolding expr_stmt_at
  expr_stmt_at_falls operators p at s = falls_if 1 (length s.at.left) (may_begin_expression_statement at s.at) _ _ (expr_stmt_falls operators p s) (wanted_falls Tree 1 (length s.at.left) faults.Unexpected s)

  pub import_stmt_at_falls : (operators : Span → Tree → Reader Tree) → ((start : Span) (x : Tree) → Passes (operators start x)) → (s : State) → Falls 1 (length s.at.left) (import_stmt_at inner operators s)
  unfolding import_stmt_at
  import_stmt_at_falls operators p s = falls_if 1 (length s.at.left) (begins_import_expression s.at) _ _ (expr_stmt_falls operators p s)
      (refuse_falls Tree 1 (length s.at.left) faults.ImportExportInScript s)
