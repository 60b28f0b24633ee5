-- The first property, and those behind it.
use Rattle.std.proofs.Common.{◌≡◌, ◌||◌, ◌∙◌}
use Rattle.ecma_event_exprs.proofs.Firsts.{first_property, seen_before, seen_here}
use Rattle.ecma_event_exprs.specs.Events.{is_proto}
use Rattle.swc_ecma_parser_ast.specs.View.{view_prop_or_spread}
use Rattle.ecma_event_exprs.proofs.objects.properties.Goals as goal
use Rattle.ecma_event_exprs.proofs.objects.properties.Goals.{then-seen, else-seen}

pub returns-in_ok-two-in-Some : goal.returns-in_ok-two-in-Some
returns-in_ok-two-in-Some c =
    let x = c.in-Some.x.now in
    let is_seen = c.if-seen.following in
    let told : is_seen ≡ (c.args.seen || is_proto (view_prop_or_spread x)) =
    elim c.if-seen.branch [
      | then-seen w ↦ seen_before c.args.seen is_seen (is_proto (view_prop_or_spread x)) w.if-seen.true w.following-is
      | else-seen w ↦ seen_here c.args.seen is_seen (is_proto (view_prop_or_spread x)) w.if-seen.false (w.following-is ∙ w.is_proto.ensures)
    ] in
    first_property view_prop_or_spread c.second_proto.result _ c.args.walk.now _ c.args.seen is_seen x c.in-Some.rest.now c.args.parts.now c.in-Some.ensures.cases.0 told c.in_ok-two-in-Some.ensures c.second_proto.ensures
