use Rattle.std.proofs.Common.{◌≡◌, true, ◌∷◌, ◌++◌, [], map, sym, ◌∙◌, ap, subst}
use Rattle.std.specs.Prelude.{◌==◌}
use Rattle.std.proofs.lemmas.List.{length-map}
use Rattle.std.proofs.lemmas.Result.{err_from_is_err_and}
use Rattle.swc_ecma_parser_members.specs.Leading.{leading_of}
use Rattle.swc_ecma_parser_reader.specs.Decorators.{has_any}
use Rattle.swc_ecma_parser_reader.specs.Reader.{directs}
use Rattle.swc_ecma_parser_reader.specs.State.{GivesAs}
use Rattle.swc_ecma_parser_module_items.proofs.BehindFront.{any_of, led_refused, led_read}
use Rattle.swc_ecma_parser_module_items.proofs.programs.behind_front.Goals as goal

pub returns-in_err-first-clause-gives : goal.returns-in_err-first-clause-gives
returns-in_err-first-clause-gives g c =
    let v = leading_of g.T.BuildsFunction.decorator_of c.args.list in
    let any : has_any v.found ≡ true = any_of v.found
    (sym (c.is_empty.ensures ∙ ap (λ n. n == 0) (c.args.list.found.ok.0 ∙ sym (length-map c.args.list.found.items g.T.BuildsFunction.decorator_of))) ∙ c.if-is_empty.false) in
    let p = err_from_is_err_and c.from_residual.result c.from_residual.ensures.1 in
    rw (p.1, p.2) (λ h. led_refused c.args.limit v (g.P.Cursor.seen c.args.p.now) any _ (c.in_err-first.ensures h))

pub returns-clause-gives : goal.returns-clause-gives
returns-clause-gives g c =
    let v = leading_of g.T.BuildsFunction.decorator_of c.args.list in
    let any : has_any v.found ≡ true = any_of v.found
    (sym (c.is_empty.ensures ∙ ap (λ n. n == 0) (c.args.list.found.ok.0 ∙ sym (length-map c.args.list.found.items g.T.BuildsFunction.decorator_of))) ∙ c.if-is_empty.false) in
    let items : map g.T.BuildsItem.item_of c.pushed.new.items.items ≡ g.T.BuildsItem.item_of c.in_ok-first.first ∷ [] =
    ap (map g.T.BuildsItem.item_of) (c.in_ok-pushed.ensures.items ∙ ap (λ xs. xs ++ c.in_ok-first.first ∷ []) c.new-found.ensures.items) in
    subst (λ o. GivesAs (λ found. map g.T.BuildsItem.item_of found.items) o c.items_behind.result (g.P.Cursor.seen c.items_behind.new.p))
    (sym (led_read c.args.limit v (g.P.Cursor.seen c.args.p.now) any _ _ c.in_ok-first.ensures _ items _ c.in_ok-pushed.ensures.state)) (c.items_behind.ensures.gives (c.is_string_item-directives.ensures ∙ ap (directs true) (sym items)))
