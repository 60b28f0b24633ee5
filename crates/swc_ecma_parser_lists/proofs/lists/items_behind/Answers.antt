use Rattle.std.proofs.Common.{map, sym, ◌∙◌}
use Rattle.std.proofs.lemmas.List.{map_push}
use Rattle.std.proofs.lemmas.Result.{err_from_is_err_and}
use Rattle.swc_ecma_parser_reader.proofs.Loops.{items_err, items_stop}
use Rattle.swc_ecma_parser_reader.proofs.Empty.{never_more}
use Rattle.swc_ecma_parser_bodies.proofs.Items.{body_more, body_next}
use Rattle.swc_ecma_parser_lists.specs.Ends.{ends_at}
use Rattle.swc_ecma_parser_lists.proofs.Stops.{not_ended}
use Rattle.swc_ecma_parser_lists.proofs.lists.items_behind.Goals as goal

pub returns-in_err-item-clause-gives : goal.returns-in_err-item-clause-gives
returns-in_err-item-clause-gives g c =
    let p = err_from_is_err_and c.from_residual.result c.from_residual.ensures.1 in
    λ first k. rw (p.1, p.2) (λ h. c.items.invariant.0 first k
    ∙ items_err (g.L.Listed.item c.args.limit c.args.at) (ends_at c.args.end) first (map g.L.Listed.held c.items.found.items) (g.P.Cursor.seen c.items.p) _ (sym c.ends.ensures ∙ c.items-test.true) (c.in_err-item.ensures h))

pub returns-in_err-item-clause-outright : goal.returns-in_err-item-clause-outright
returns-in_err-item-clause-outright g c = λ h. never_more (g.P.Cursor.seen c.items.p).at (c.items.invariant.1 h) (not_ended c.args.end (g.P.Cursor.seen c.items.p).at (sym c.ends.ensures ∙ c.items-test.true))

pub returns-in_err-pushed-clause-outright : goal.returns-in_err-pushed-clause-outright
returns-in_err-pushed-clause-outright g c = λ h. never_more (g.P.Cursor.seen c.items.p).at (c.items.invariant.1 h) (not_ended c.args.end (g.P.Cursor.seen c.items.p).at (sym c.ends.ensures ∙ c.items-test.true))

pub items-preserved : goal.items-preserved
items-preserved g c =
    let item = g.L.Listed.item c.args.limit c.args.at in
    let s = g.P.Cursor.seen c.items.p in
    let found = map g.L.Listed.held c.items.found.items in (
      λ first k. rw (c.in_ok-pushed.ensures.items, map_push, c.in_ok-pushed.ensures.state, c.direct-directives.ensures.state) (c.items.invariant.0 first k
          ∙ body_more item (ends_at c.args.end) first found c.items.directives s _ _ (c.items.invariant.2 first k) (sym c.ends.ensures ∙ c.items-test.true) c.in_ok-item.ensures (g.met.L.Listed.takes c.args.limit c.args.at s _ _ c.in_ok-item.ensures)),
      λ h. never_more s.at (c.items.invariant.1 h) (not_ended c.args.end s.at (sym c.ends.ensures ∙ c.items-test.true)),
      λ first k. rw (c.in_ok-pushed.ensures.items, map_push, c.direct-directives.ensures.next) (body_next first found c.items.directives _ (c.items.invariant.2 first k)),
    )

pub items-smaller : goal.items-smaller
items-smaller g c = rw (c.in_ok-pushed.ensures.state, c.direct-directives.ensures.state) (g.met.L.Listed.takes c.args.limit c.args.at (g.P.Cursor.seen c.items.p) _ _ c.in_ok-item.ensures)

pub returns-clause-gives : goal.returns-clause-gives
returns-clause-gives g c = λ first k. c.items.invariant.0 first k ∙ items_stop (g.L.Listed.item c.args.limit c.args.at) (ends_at c.args.end) first (map g.L.Listed.held c.items.found.items) (g.P.Cursor.seen c.items.p) (sym c.ends.ensures ∙ c.items-test.false)
