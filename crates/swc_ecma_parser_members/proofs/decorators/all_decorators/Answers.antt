use Rattle.std.proofs.Common.{map, sym, ◌∙◌}
use Rattle.std.proofs.lemmas.List.{map_push}
use Rattle.std.proofs.lemmas.Result.{err_from_is_err_and}
use Rattle.swc_ecma_parser_reader.proofs.decorators.Loops.{decorators_more, decorators_err, decorator_shorter}
use Rattle.swc_ecma_parser_members.proofs.decorators.all_decorators.Goals as goal

pub returns-in_err-item : goal.returns-in_err-item
returns-in_err-item g c =
    let p = err_from_is_err_and c.from_residual.result c.from_residual.ensures.1 in
    rw (p.1, p.2) (λ h. c.decorators.invariant
    ∙ decorators_err (g.G.Readers.depth c.args.g.now) (map g.T.BuildsFunction.decorator_of c.decorators.found.items) (g.P.Cursor.seen c.decorators.p) _
    (sym c.sees.ensures ∙ c.decorators-test.true) (c.in_err-item.ensures h))

pub decorators-smaller : goal.decorators-smaller
decorators-smaller g c = rw (c.in_ok-pushed.ensures.state) (decorator_shorter (g.G.Readers.depth c.args.g.now) (g.P.Cursor.seen c.decorators.p) _ _ c.in_ok-item.ensures)

pub decorators-preserved : goal.decorators-preserved
decorators-preserved g c =
    rw (c.in_ok-pushed.ensures.items, map_push, c.in_ok-pushed.ensures.state) (c.decorators.invariant
    ∙ decorators_more (g.G.Readers.depth c.args.g.now) (map g.T.BuildsFunction.decorator_of c.decorators.found.items) (g.P.Cursor.seen c.decorators.p) _ _
    (sym c.sees.ensures ∙ c.decorators-test.true) c.in_ok-item.ensures)
