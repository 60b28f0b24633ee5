-- The name before the class.
use Rattle.ecma_event_exprs.proofs.After.{after}
use Rattle.ecma_event_exprs.specs.Events.{named}
use Rattle.ecma_events.specs.declared.event.Binding.TheVariants as binding
use Rattle.ecma_events.specs.declared.event.Role.TheVariants as role
use Rattle.swc_ecma_parser_ast.specs.View.{view_ident}
use Rattle.ecma_event_walk.proofs.stmts.class_decl.Goals as goal

pub returns : goal.returns
returns c =
    rw (← c.deref.ensures) (after c.name.result _ (λ l. named (role.Declared binding.Class c.args.is_exported) (view_ident c.args.x.now.ident) l) _ _ c.in_ok-named_class.ensures c.name.ensures)
