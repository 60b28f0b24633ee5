-- What is spread, or a property.
use Rattle.std.proofs.Common.{ap, sym, ◌∙◌}
use Rattle.ecma_event_exprs.proofs.Arms.{arm}
use Rattle.ecma_event_exprs.specs.Events.{used}
use Rattle.swc_ecma_parser_ast.specs.View.{view_prop, view_prop_or_spread}
use Rattle.ecma_event_exprs.proofs.objects.property.Goals as goal

pub returns-in-Spread : goal.returns-in-Spread
returns-in-Spread c = arm c.push.result _ c.args.walk.now used (view_prop_or_spread c.args.x.now) _ (ap view_prop_or_spread c.in-Spread.is) c.push.ensures

pub returns-in-Prop : goal.returns-in-Prop
returns-in-Prop c = arm c.prop.result _ c.args.walk.now used (view_prop_or_spread c.args.x.now) _ (ap view_prop_or_spread c.in-Prop.is ∙ ap view_prop (sym c.deref.ensures)) c.prop.ensures
