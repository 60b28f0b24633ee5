use Rattle.std.proofs.Common.{map, sym, ap, ◌∙◌}
use Rattle.std.proofs.lemmas.Result.{err_from_is_err_and}
use Rattle.swc_ecma_parser_error.specs.Kind as faults
use Rattle.swc_ecma_parser_reader.specs.Reader.{missing_at}
use Rattle.swc_ecma_parser_reader.specs.State.{fault, fault_at}
use Rattle.swc_ecma_parser_reader.proofs.Loops.{declarators_err, declarators_miss_err}
use Rattle.swc_ecma_parser_statements.proofs.variables.declarators.Goals as goal

pub returns-in_err-declarator : goal.returns-in_err-declarator
returns-in_err-declarator g c =
    let p = err_from_is_err_and c.from_residual-in_err-declarator.result c.from_residual-in_err-declarator.ensures.1 in
    rw (p.1, p.2) (λ h. c.declarators.invariant ∙ declarators_err (g.G.Readers.depth c.args.g.now) c.args.in_head c.args.word (map g.T.BuildsVariables.declarator_of c.declarators.found.items) (g.P.Cursor.seen c.declarators.p) _
    (sym c.if-ends_declarators.ensures) (c.in_err-declarator.ensures h))

-- the fault is where the declarators so far say
pub returns-in_err-fault : goal.returns-in_err-fault
returns-in_err-fault g c =
    let p = err_from_is_err_and c.from_residual.result c.from_residual.ensures.1 in
    let s = g.P.Cursor.seen c.declarators.p in
    let e = c.missing_at-span.ensures ∙ ap (λ z. missing_at (map g.T.BuildsVariables.declarator_of z) s.at) c.as_slice.ensures.value in
    rw (p.1, p.2) (λ h. c.declarators.invariant ∙ declarators_miss_err (g.G.Readers.depth c.args.g.now) c.args.in_head c.args.word (map g.T.BuildsVariables.declarator_of c.declarators.found.items) s _
    (sym c.if-ends_declarators.ensures) (ap (λ z. fault (fault_at z faults.TS1009) s) (sym e) ∙ c.in_err-fault.ensures h))
