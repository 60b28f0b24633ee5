use Rattle.std.proofs.Common.{◌≡◌, false, Ok, Err, map, sym, subst, ◌∙◌}
use Rattle.std.proofs.lemmas.Result.{err_from_is_err_and}
use Rattle.swc_ecma_parser_error.specs.Kind as faults
use Rattle.swc_ecma_parser_error.specs.Kind.{Fault, fault_of}
use Rattle.swc_ecma_parser_token.specs.declared.kind.TokenKind.TheVariants as kind
use Rattle.swc_ecma_parser_grammar.specs.Looks.{sees}
use Rattle.swc_ecma_parser_reader.specs.State.{State, fault, fault_at, expect}
use Rattle.swc_ecma_parser_reader.proofs.expressions.Loops.{arguments_err, arguments_note_err, arguments_comma_err, arguments_shorter, arguments_noted_shorter}
use Rattle.swc_ecma_parser_left_sides.proofs.access.arguments.Goals as goal

pub returns-in_err-argument : goal.returns-in_err-argument
returns-in_err-argument g c =
    let p = err_from_is_err_and c.from_residual-in_err-argument.result c.from_residual-in_err-argument.ensures.1 in
    rw (p.1, p.2) (λ h. c.arguments.invariant ∙ arguments_err (g.G.Readers.depth c.args.g.now) c.args.commas (map g.T.BuildsCall.arg_of c.arguments.found.items) (g.P.Cursor.seen c.arguments.p) _
    (sym c.sees.ensures ∙ c.if-sees.false) (c.in_err-argument.ensures h))

pub returns-in_err-expect : goal.returns-in_err-expect
returns-in_err-expect g c =
    let p = err_from_is_err_and c.from_residual-in_err-expect.result c.from_residual-in_err-expect.ensures.1 in
    let same = c.in_ok-pushed.ensures.state in
    let e : Fault × State = (fault_of c.in_err-expect.field-0.0, g.P.Cursor.seen c.expect.new.self) in
    rw (p.1, p.2) (λ h. c.arguments.invariant ∙ arguments_comma_err (g.G.Readers.depth c.args.g.now) c.args.commas (map g.T.BuildsCall.arg_of c.arguments.found.items) (g.P.Cursor.seen c.arguments.p)
    _ (g.P.Cursor.seen c.element.new.p) e (sym c.sees.ensures ∙ c.if-sees.false) c.in_ok-argument.ensures
    (subst (λ u. sees kind.RParen u.at ≡ false) same (sym c.if-not-sees.ensures)) (subst (λ u. expect kind.Comma u ≡ Err e) same (c.in_err-expect.ensures h)))

pub returns-in_err-fault : goal.returns-in_err-fault
returns-in_err-fault g c =
    let p = err_from_is_err_and c.from_residual-in_err-fault.result c.from_residual-in_err-fault.ensures.1 in
    let same = c.in_ok-pushed.ensures.state in
    let u = g.P.Cursor.seen c.expect.new.self in
    let e : Fault × State = (fault_of c.in_err-fault.field-0.0, g.P.Cursor.seen c.fault.new.self) in
    rw (p.1, p.2) (λ h. c.arguments.invariant ∙ arguments_note_err (g.G.Readers.depth c.args.g.now) c.args.commas (map g.T.BuildsCall.arg_of c.arguments.found.items) (g.P.Cursor.seen c.arguments.p)
    _ (g.P.Cursor.seen c.element.new.p) u (sym c.sees.ensures ∙ c.if-sees.false) c.in_ok-argument.ensures
    (subst (λ t. sees kind.RParen t.at ≡ false) same (sym c.if-not-sees.ensures)) (subst (λ t. expect kind.Comma t ≡ Ok (tt, u)) same c.in_ok-expect.ensures)
    (sym c.ends_behind_comma.ensures ∙ c.if-ends_behind_comma.true) e
    (subst (λ span. fault (fault_at span faults.TrailingCommaInsideImport) u ≡ Err e) c.last_span-comma.ensures (c.in_err-fault.ensures h)))

-- behind a comma that is recorded
pub arguments-smaller-in-Continue-branch-6 : goal.arguments-smaller-in-Continue-branch-6
arguments-smaller-in-Continue-branch-6 g c =
    let u = g.P.Cursor.seen c.expect.new.self in
    arguments_noted_shorter (g.G.Readers.depth c.args.g.now) (g.P.Cursor.seen c.arguments.p) _ (g.P.Cursor.seen c.element.new.p) c.in_ok-argument.ensures u (g.P.Cursor.seen c.fault.new.self) _
    (subst (λ t. expect kind.Comma t ≡ Ok (tt, u)) c.in_ok-pushed.ensures.state c.in_ok-expect.ensures) c.in_ok-fault.ensures

-- behind one that may stand there
pub arguments-smaller-else-ends_behind_comma : goal.arguments-smaller-else-ends_behind_comma
arguments-smaller-else-ends_behind_comma g c =
    let u = g.P.Cursor.seen c.expect.new.self in
    arguments_shorter (g.G.Readers.depth c.args.g.now) (g.P.Cursor.seen c.arguments.p) _ (g.P.Cursor.seen c.element.new.p) c.in_ok-argument.ensures u
    (subst (λ t. expect kind.Comma t ≡ Ok (tt, u)) c.in_ok-pushed.ensures.state c.in_ok-expect.ensures)
