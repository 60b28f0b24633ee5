-- The key before the method, and what it must not be before that.
use Rattle.std.proofs.Common.{ap, ◌∙◌}
use Rattle.ecma_event_exprs.proofs.After.{after}
use Rattle.ecma_event_exprs.specs.Events.{key_events, prototype}
use Rattle.swc_ecma_parser_ast.specs.View.{view_prop_name}
use Rattle.ecma_event_exprs.proofs.members.class_method.Goals as goal

pub returns : goal.returns
returns c =
    let name = view_prop_name c.args.x.now.key in
    rw (← c.deref.ensures) (after c.prototype.result _ (λ l. prototype c.args.x.now.is_static name l) _ _ (c.in_ok-key.ensures ∙ ap (λ l. key_events name l) c.in_ok-method.ensures) c.prototype.ensures)
