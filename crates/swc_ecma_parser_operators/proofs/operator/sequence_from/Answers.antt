use Rattle.std.proofs.Common.{◌<◌, length, map, refl, sym, subst, ◌∙◌}
use Rattle.std.proofs.lemmas.Result.{err_from_is_err_and}
use Rattle.swc_ecma_parser_error.specs.Kind.{Fault, fault_of}
use Rattle.swc_ecma_parser_reader.specs.State.{State}
use Rattle.swc_ecma_parser_reader.specs.Expressions.{assignment_expr, sequence_from}
use Rattle.swc_ecma_parser_reader.specs.Reader.{expr, cover, function}
use Rattle.swc_ecma_parser_reader.proofs.expressions.Loops.{sequence_err, sequence_shorter}
use Rattle.swc_ecma_parser_operators.proofs.Behind.{after_skip}
use Rattle.swc_ecma_parser_operators.proofs.operator.sequence_from.Goals as goal

pub returns-in_err-part : goal.returns-in_err-part
unfolding sequence_from
returns-in_err-part g c =
    let p = err_from_is_err_and c.from_residual-in_err-part.result c.from_residual-in_err-part.ensures.1 in
    let e : Fault × State = (fault_of c.in_err-part.field-0.0, g.P.Cursor.seen c.assignment_expr.new.p) in
    rw (p.1, p.2) (λ h. rw (c.sequence.invariant ∙ sequence_err (g.G.Readers.depth c.args.g.now) (map g.T.Trees.expr_of c.sequence.found.items) (g.P.Cursor.seen c.sequence.p) e (after_skip (assignment_expr (expr (g.G.Readers.depth c.args.g.now)) (cover (g.G.Readers.depth c.args.g.now)) (function (g.G.Readers.depth c.args.g.now))) (g.P.Cursor.seen c.sequence.p) _ _ c.in_ok-skip.ensures (c.in_err-part.ensures h))) refl)

pub sequence-smaller : goal.sequence-smaller
sequence-smaller g c =
    let s = g.P.Cursor.seen c.sequence.p in
    subst (λ u. length u.at.left < length s.at.left) (sym c.in_ok-pushed-2.ensures.state)
    (sequence_shorter (g.G.Readers.depth c.args.g.now) s _ (g.P.Cursor.seen c.assignment_expr.new.p) (after_skip (assignment_expr (expr (g.G.Readers.depth c.args.g.now)) (cover (g.G.Readers.depth c.args.g.now)) (function (g.G.Readers.depth c.args.g.now))) s _ _ c.in_ok-skip.ensures c.in_ok-part.ensures))
