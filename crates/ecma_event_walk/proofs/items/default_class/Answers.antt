-- The name before the class.
use Rattle.ecma_event_exprs.proofs.After.{after}
use Rattle.ecma_event_exprs.specs.Events.{declared, named}
use Rattle.ecma_events.specs.declared.event.Binding.TheVariants as binding
use Rattle.swc_ecma_parser_ast.specs.Parts.{view_option}
use Rattle.swc_ecma_parser_ast.specs.View.{view_ident}
use Rattle.ecma_event_walk.proofs.items.default_class.Goals as goal

pub returns : goal.returns
returns c =
    rw (← c.deref.ensures) (after c.optional_name.result _ (λ l. named (declared binding.Class) (view_option view_ident c.args.x.now.ident) l) _ _ c.in_ok-class.ensures c.optional_name.ensures)
