-- The name before the method.
use Rattle.std.proofs.Common.{◌∷◌}
use Rattle.ecma_event_exprs.proofs.After.{after}
use Rattle.ecma_events.specs.Event as event
use Rattle.ecma_event_exprs.proofs.members.private_method.Goals as goal

pub returns : goal.returns
returns c =
    let x = c.args.x.now in
    rw (← c.deref.ensures) (after c.event.result _ (λ l. event.private_member x.kind x.is_static x.key.span x.key.id.sym ∷ l) _ _ c.in_ok-method.ensures c.event.ensures)
