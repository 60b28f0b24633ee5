use Rattle.std.proofs.Common.{map, sym, ◌∙◌}
use Rattle.std.specs.Prelude.{is_some}
use Rattle.std.proofs.lemmas.List.{map_push}
use Rattle.std.proofs.lemmas.Result.{err_from_is_err_and}
use Rattle.swc_ecma_parser_reader.proofs.Loops.{clauses_err, clause_shorter}
use Rattle.swc_ecma_parser_control.proofs.Clauses.{none_more, one_now, clauses_on}
use Rattle.swc_ecma_parser_control.proofs.switch.clauses.Goals as goal

pub returns-in_err-clause : goal.returns-in_err-clause
returns-in_err-clause g c =
    let p = err_from_is_err_and c.from_residual.result c.from_residual.ensures.1 in
    rw (p.1, p.2) (λ h. c.clauses.invariant
    ∙ clauses_err (g.G.Readers.depth c.args.g.now) (record { found = map g.T.BuildsSwitch.case_of c.clauses.found.items; has_default = is_some c.clauses.previous }) (g.P.Cursor.seen c.clauses.p) _ (sym c.begins_clause.ensures ∙ c.clauses-test.true) (c.in_err-clause.ensures h))

pub clauses-smaller : goal.clauses-smaller
clauses-smaller g c = rw (c.in_ok-pushed.ensures.state) (clause_shorter (g.G.Readers.depth c.args.g.now) (record { found = map g.T.BuildsSwitch.case_of c.clauses.found.items; has_default = is_some c.clauses.previous }) (g.P.Cursor.seen c.clauses.p) _ _ (sym c.begins_clause.ensures ∙ c.clauses-test.true) c.in_ok-clause.ensures)

pub clauses-preserved : goal.clauses-preserved
clauses-preserved g c =
    rw (c.in_ok-pushed.ensures.items, map_push, c.in_ok-pushed.ensures.state) (c.clauses.invariant
    ∙ clauses_on (g.G.Readers.depth c.args.g.now) (record { found = map g.T.BuildsSwitch.case_of c.clauses.found.items; has_default = is_some c.clauses.previous }) (g.P.Cursor.seen c.clauses.p) _ _ _ (sym c.begins_clause.ensures ∙ c.clauses-test.true) c.in_ok-clause.ensures (none_more _ _ c.if-is_default.ensures))

pub clauses-smaller-then-is_default : goal.clauses-smaller-then-is_default
clauses-smaller-then-is_default g c = rw (c.in_ok-pushed.ensures.state) (clause_shorter (g.G.Readers.depth c.args.g.now) (record { found = map g.T.BuildsSwitch.case_of c.clauses.found.items; has_default = is_some c.clauses.previous }) (g.P.Cursor.seen c.clauses.p) _ _ (sym c.begins_clause.ensures ∙ c.clauses-test.true) c.in_ok-clause.ensures)

pub clauses-preserved-then-is_default : goal.clauses-preserved-then-is_default
clauses-preserved-then-is_default g c =
    rw (c.in_ok-pushed.ensures.items, map_push, c.in_ok-pushed.ensures.state) (c.clauses.invariant
    ∙ clauses_on (g.G.Readers.depth c.args.g.now) (record { found = map g.T.BuildsSwitch.case_of c.clauses.found.items; has_default = is_some c.clauses.previous }) (g.P.Cursor.seen c.clauses.p) _ _ _ (sym c.begins_clause.ensures ∙ c.clauses-test.true) c.in_ok-clause.ensures (one_now _ _ c.if-is_default.ensures))
