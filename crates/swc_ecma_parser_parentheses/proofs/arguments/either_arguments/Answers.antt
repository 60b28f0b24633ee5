use Rattle.std.proofs.Common.{◌<◌, length, map, sym, subst, ◌∙◌}
use Rattle.std.proofs.lemmas.List.{map_push}
use Rattle.std.proofs.lemmas.Result.{err_from_is_err_and}
use Rattle.swc_ecma_parser_error.specs.Kind.{Fault, fault_of}
use Rattle.swc_ecma_parser_reader.specs.State.{State}
use Rattle.swc_ecma_parser_reader.proofs.expressions.Loops.{either_err, either_more, either_comma_err, argument_shorter, eithers_shorter}
use Rattle.swc_ecma_parser_parentheses.specs.Groups.{argument_of}
use Rattle.swc_ecma_parser_parentheses.proofs.arguments.either_arguments.Goals as goal

pub returns-in_err-argument : goal.returns-in_err-argument
returns-in_err-argument g c =
    let p = err_from_is_err_and c.from_residual-in_err-argument.result c.from_residual-in_err-argument.ensures.1 in
    rw (p.1, p.2) (λ h. c.arguments.invariant ∙ either_err (g.G.Readers.depth c.args.g.now) (map (argument_of g.T.Trees.expr_of) c.arguments.found.items) (g.P.Cursor.seen c.arguments.p) _
    (sym c.if-sees.ensures) (c.in_err-argument.ensures h))

pub arguments-smaller-in-Continue-branch-4 : goal.arguments-smaller-in-Continue-branch-4
arguments-smaller-in-Continue-branch-4 g c = subst (λ u. length u.at.left < length (g.P.Cursor.seen c.arguments.p).at.left) (sym c.in_ok-pushed.ensures.state)
    (argument_shorter (g.G.Readers.depth c.args.g.now) (g.P.Cursor.seen c.arguments.p) _ (g.P.Cursor.seen c.one_argument.new.p) c.in_ok-argument.ensures)

pub returns-in_err-expect : goal.returns-in_err-expect
returns-in_err-expect g c =
    let p = err_from_is_err_and c.from_residual-in_err-expect.result c.from_residual-in_err-expect.ensures.1 in
    let e : Fault × State = (fault_of c.in_err-expect.field-0.0, g.P.Cursor.seen c.expect.new.self) in
    rw (p.1, p.2) (λ h. c.arguments.invariant ∙ either_comma_err (g.G.Readers.depth c.args.g.now) (map (argument_of g.T.Trees.expr_of) c.arguments.found.items) (g.P.Cursor.seen c.arguments.p)
    _ (g.P.Cursor.seen c.one_argument.new.p) e (sym c.if-sees.ensures) c.in_ok-argument.ensures (sym c.if-sees-2.ensures) (c.in_err-expect.ensures h))

pub arguments-smaller : goal.arguments-smaller
arguments-smaller g c = subst (λ u. length u.at.left < length (g.P.Cursor.seen c.arguments.p).at.left) (sym c.in_ok-pushed-2.ensures.state)
    (eithers_shorter (g.G.Readers.depth c.args.g.now) (g.P.Cursor.seen c.arguments.p) _ (g.P.Cursor.seen c.one_argument.new.p) c.in_ok-argument.ensures (g.P.Cursor.seen c.expect.new.self) c.in_ok-expect.ensures)

-- behind a comma
pub arguments-preserved : goal.arguments-preserved
arguments-preserved g c = rw (c.in_ok-pushed-2.ensures.items, map_push, c.followed.ensures, c.in_ok-pushed-2.ensures.state) (c.arguments.invariant
    ∙ either_more (g.G.Readers.depth c.args.g.now) (map (argument_of g.T.Trees.expr_of) c.arguments.found.items) (g.P.Cursor.seen c.arguments.p) _ (g.P.Cursor.seen c.one_argument.new.p) (g.P.Cursor.seen c.expect.new.self)
    (sym c.if-sees.ensures) c.in_ok-argument.ensures (sym c.if-sees-2.ensures) c.in_ok-expect.ensures)
