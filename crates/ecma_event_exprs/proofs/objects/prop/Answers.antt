-- Each kind of property.
use Rattle.std.proofs.Common.{ap}
use Rattle.ecma_event_exprs.proofs.Arms.{arm}
use Rattle.ecma_event_exprs.proofs.Holders.{method_prop}
use Rattle.ecma_event_exprs.specs.Events.{used}
use Rattle.swc_ecma_parser_ast.specs.View.{view_function, view_prop, view_prop_name}
use Rattle.ecma_event_exprs.proofs.objects.prop.Goals as goal

pub returns-in-Shorthand : goal.returns-in-Shorthand
returns-in-Shorthand c = arm c.name.result _ c.args.walk.now used (view_prop c.args.x.now) _ (ap view_prop c.in-Shorthand.is) c.name.ensures

pub returns-in-KeyValue : goal.returns-in-KeyValue
returns-in-KeyValue c = arm c.two.result _ c.args.walk.now used (view_prop c.args.x.now) _ (ap view_prop c.in-KeyValue.is) c.two.ensures

pub returns-in-Assign : goal.returns-in-Assign
returns-in-Assign c = arm c.push.result _ c.args.walk.now used (view_prop c.args.x.now) _ (ap view_prop c.in-Assign.is) c.push.ensures

pub returns-in-Getter : goal.returns-in-Getter
returns-in-Getter c = arm c.getter.result _ c.args.walk.now used (view_prop c.args.x.now) _ (ap view_prop c.in-Getter.is) c.getter.ensures

pub returns-in-Setter : goal.returns-in-Setter
returns-in-Setter c = arm c.setter.result _ c.args.walk.now used (view_prop c.args.x.now) _ (ap view_prop c.in-Setter.is) c.setter.ensures

pub returns-in-Method : goal.returns-in-Method
returns-in-Method c =
    let x = c.in-Method.x in
    arm c.method_prop.result _ c.args.walk.now used (view_prop c.args.x.now) _ (ap view_prop c.in-Method.is) (method_prop c.method_prop.result _ c.args.walk.now used x.span (view_prop_name x.key) (view_function x.function.value) c.method_prop.ensures)
