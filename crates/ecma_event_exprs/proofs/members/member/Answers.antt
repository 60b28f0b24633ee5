-- Each kind of member.
use Rattle.std.proofs.Common.{ap, sym, ◌∙◌}
use Rattle.ecma_event_exprs.proofs.Arms.{arm}
use Rattle.ecma_event_exprs.proofs.Holders.{method, private_method}
use Rattle.ecma_event_exprs.specs.Events.{used}
use Rattle.swc_ecma_parser_ast.specs.View.{view_auto_accessor, view_class_member, view_class_method, view_class_prop, view_constructor, view_function, view_private_method, view_private_prop, view_prop_name}
use Rattle.ecma_event_exprs.proofs.members.member.Goals as goal

pub returns-in-Constructor : goal.returns-in-Constructor
returns-in-Constructor c = arm c.constructor.result _ c.args.walk.now used (view_class_member c.args.x.now) _ (ap view_class_member c.in-Constructor.is ∙ ap view_constructor (sym c.deref.ensures)) c.constructor.ensures

pub returns-in-Method : goal.returns-in-Method
returns-in-Method c =
    let x = c.deref-in-Method.result.now in
    arm c.class_method.result _ c.args.walk.now used (view_class_member c.args.x.now) _ (ap view_class_member c.in-Method.is ∙ ap view_class_method (sym c.deref-in-Method.ensures)) (method c.class_method.result _ c.args.walk.now used x.span (view_prop_name x.key) (view_function x.function.value) x.kind x.is_static c.class_method.ensures)

pub returns-in-PrivateMethod : goal.returns-in-PrivateMethod
returns-in-PrivateMethod c =
    let x = c.deref-in-PrivateMethod.result.now in
    arm c.private_method.result _ c.args.walk.now used (view_class_member c.args.x.now) _ (ap view_class_member c.in-PrivateMethod.is ∙ ap view_private_method (sym c.deref-in-PrivateMethod.ensures)) (private_method c.private_method.result _ c.args.walk.now used x.span x.key.span x.key.id.span x.key.id.sym (view_function x.function.value) x.kind x.is_static c.private_method.ensures)

pub returns-in-ClassProp : goal.returns-in-ClassProp
returns-in-ClassProp c = arm c.class_prop.result _ c.args.walk.now used (view_class_member c.args.x.now) _ (ap view_class_member c.in-ClassProp.is ∙ ap view_class_prop (sym c.deref-in-ClassProp.ensures)) c.class_prop.ensures

pub returns-in-PrivateProp : goal.returns-in-PrivateProp
returns-in-PrivateProp c = arm c.private_prop.result _ c.args.walk.now used (view_class_member c.args.x.now) _ (ap view_class_member c.in-PrivateProp.is ∙ ap view_private_prop (sym c.deref-in-PrivateProp.ensures)) c.private_prop.ensures

pub returns-in-StaticBlock : goal.returns-in-StaticBlock
returns-in-StaticBlock c = arm c.static_block.result _ c.args.walk.now used (view_class_member c.args.x.now) _ (ap view_class_member c.in-StaticBlock.is) c.static_block.ensures

pub returns-in-AutoAccessor : goal.returns-in-AutoAccessor
returns-in-AutoAccessor c = arm c.auto_accessor.result _ c.args.walk.now used (view_class_member c.args.x.now) _ (ap view_class_member c.in-AutoAccessor.is ∙ ap view_auto_accessor (sym c.deref-in-AutoAccessor.ensures)) c.auto_accessor.ensures
