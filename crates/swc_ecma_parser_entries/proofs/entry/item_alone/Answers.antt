use Rattle.std.proofs.Common.{sym, ◌∙◌}
use Rattle.std.proofs.lemmas.Result.{err_from_is_err_and}
use Rattle.swc_ecma_parser_entries.proofs.ItemAlone.{plain_alone, deep_alone, refused_alone, list_alone}
use Rattle.swc_ecma_parser_entries.proofs.entry.item_alone.Goals as goal

pub returns-then-not-begins_decorators : goal.returns-then-not-begins_decorators
returns-then-not-begins_decorators g c =
    let (recorded, noted, begun) = c.begin_item.ensures in
    plain_alone g.T.BuildsItem.item_of c.args.limit c.args.call.now (sym c.begins_decorators.ensures ∙ c.if-not-begins_decorators.true) recorded noted _ begun _ _ c.module_item.ensures

pub returns-then-limit-eq0 : goal.returns-then-limit-eq0
returns-then-limit-eq0 g c =
    deep_alone g.T.BuildsItem.item_of c.args.limit c.args.call.now (sym c.begins_decorators.ensures ∙ c.if-not-begins_decorators.false) c.if-limit-eq0.true _ _ (λ m. c.too_deep.ensures m)

pub returns-in_err-list : goal.returns-in_err-list
returns-in_err-list g c =
    let p = err_from_is_err_and c.from_residual.result c.from_residual.ensures.1 in
    rw (p.1, p.2) (refused_alone g.T.BuildsItem.item_of c.args.limit c.args.call.now (sym c.begins_decorators.ensures ∙ c.if-not-begins_decorators.false) c.if-limit-eq0.false _ _
    (λ m. c.in_err-list.ensures m))

pub returns : goal.returns
returns g c =
    let (recorded, noted, begun) = c.begin_item-2.ensures in
    list_alone g.T.BuildsItem.item_of c.args.limit c.args.call.now (sym c.begins_decorators.ensures ∙ c.if-not-begins_decorators.false) c.if-limit-eq0.false
    _ _ c.in_ok-list.ensures recorded noted _ begun _ _ c.item_behind.ensures
