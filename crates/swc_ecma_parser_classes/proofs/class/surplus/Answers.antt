use Rattle.std.proofs.Common.{◌≡◌, Err, sym, subst}
use Rattle.std.proofs.lemmas.Result.{err_from_is_err_and}
use Rattle.swc_ecma_parser_error.specs.Kind as faults
use Rattle.swc_ecma_parser_error.specs.Kind.{Fault, fault_of}
use Rattle.swc_ecma_parser_reader.specs.State.{State, fault, fault_at}
use Rattle.swc_ecma_parser_classes.proofs.Surplus.{surplus_err}
use Rattle.swc_ecma_parser_classes.proofs.class.surplus.Goals as goal

pub returns-in_err-fault : goal.returns-in_err-fault
returns-in_err-fault g c =
    let p = err_from_is_err_and c.from_residual-in_err-fault.result c.from_residual-in_err-fault.ensures.1 in
    let m = g.P.Cursor.seen c.skip.new.self in
    let e : Fault × State = (fault_of c.in_err-fault.field-0.0, g.P.Cursor.seen c.fault.new.self) in
    rw (p.1, p.2) (λ h. surplus_err _ _ (g.P.Cursor.seen c.args.p.now) m _ (sym c.if-not-sees.ensures) c.in_ok-skip.ensures e
    (subst (λ word. fault (fault_at word faults.TS1172) m ≡ Err e) c.span-word.ensures (c.in_err-fault.ensures h)))
