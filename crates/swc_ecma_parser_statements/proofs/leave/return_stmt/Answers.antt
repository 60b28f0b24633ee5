use Rattle.std.proofs.Common.{◌≡◌, ap, sym, ◌∙◌}
use Rattle.std.proofs.lemmas.Result.{err_from_is_err_and}
use Rattle.swc_ecma_parser_error.specs.Kind.{fault_of}
use Rattle.swc_ecma_parser_grammar.specs.language.Goals.{expression}
use Rattle.swc_ecma_parser_reader.specs.Reader.{expr, return_stmt}
use Rattle.swc_ecma_parser_reader.specs.State.{moved}
use Rattle.swc_ecma_parser_statements.proofs.AwaitStmt.{was_taken}
use Rattle.swc_ecma_parser_statements.proofs.Returned.{handed_on, answered, told, refuses}
use Rattle.swc_ecma_parser_statements.proofs.leave.return_stmt.Goals as goal

pub returns-in_ok-misplaced-in-Ok : goal.returns-in_ok-misplaced-in-Ok
returns-in_ok-misplaced-in-Ok g c =
    let s = g.P.Cursor.seen c.args.p.now in
    let u = g.P.Cursor.seen c.skip.new.self in
    let v = g.P.Cursor.seen c.returned.new.p in
    let e = expr (g.G.Readers.depth c.args.g.now) expression in
    answered g.T.Trees.stmt_of e s u v c.span-start.result c.may_return-is_allowed.result c.span-start.ensures (was_taken s u c.in_ok-skip.field-0 c.in_ok-skip.ensures) c.may_return-is_allowed.ensures _
    c.returned.ensures c.in-Ok.stmt _ _ c.in-Ok.is c.in_ok-misplaced-in-Ok.ensures

pub returns-in_err-misplaced-in-Ok : goal.returns-in_err-misplaced-in-Ok
returns-in_err-misplaced-in-Ok g c =
    let r = c.from_residual-in_err-misplaced-in-Ok in
    let p = err_from_is_err_and r.result r.ensures.1 in
    let s = g.P.Cursor.seen c.args.p.now in
    let u = g.P.Cursor.seen c.skip.new.self in
    let v = g.P.Cursor.seen c.returned.new.p in
    let e = expr (g.G.Readers.depth c.args.g.now) expression in
    handed_on g.T.Trees.stmt_of (return_stmt e s) r.result p.0 c.in_err-misplaced-in-Ok.field-0.0 (g.P.Cursor.seen c.misplaced.new.p) p.1 p.2
    (λ h. told g.T.Trees.stmt_of e s u v c.span-start.result c.may_return-is_allowed.result c.span-start.ensures (was_taken s u c.in_ok-skip.field-0 c.in_ok-skip.ensures) c.may_return-is_allowed.ensures _
    c.returned.ensures c.in-Ok.stmt _ _ c.in-Ok.is (c.in_err-misplaced-in-Ok.ensures h))

pub returns-in-Err : goal.returns-in-Err
returns-in-Err g c =
    let s = g.P.Cursor.seen c.args.p.now in
    let u = g.P.Cursor.seen c.skip.new.self in
    let v = g.P.Cursor.seen c.returned.new.p in
    let e = expr (g.G.Readers.depth c.args.g.now) expression in
    λ h. refuses g.T.Trees.stmt_of e s u v c.span-start.result c.may_return-is_allowed.result c.span-start.ensures (was_taken s u c.in_ok-skip.field-0 c.in_ok-skip.ensures) c.may_return-is_allowed.ensures _
    c.returned.ensures c.in-Err.error _ _ c.in-Err.is (c.refused.ensures.memory h) (c.refused.ensures.gives h)
