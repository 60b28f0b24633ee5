-- The key before the method.
use Rattle.ecma_event_exprs.proofs.After.{after}
use Rattle.ecma_event_exprs.specs.Events.{key_events}
use Rattle.swc_ecma_parser_ast.specs.View.{view_prop_name}
use Rattle.ecma_event_exprs.proofs.objects.method_prop.Goals as goal

pub returns : goal.returns
returns c = rw (← c.deref.ensures) (after c.key.result _ (λ l. key_events (view_prop_name c.args.x.now.key) l) _ _ c.in_ok-method.ensures c.key.ensures)
