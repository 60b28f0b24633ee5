-- The name before the function.
use Rattle.ecma_event_exprs.proofs.After.{after}
use Rattle.ecma_event_exprs.specs.Events.{declared, named}
use Rattle.swc_ecma_parser_ast.specs.Parts.{view_option}
use Rattle.swc_ecma_parser_ast.specs.View.{view_ident}
use Rattle.ecma_event_walk.proofs.items.default_fn.Goals as goal

pub returns : goal.returns
returns c =
    rw (← c.deref-code.ensures, ← c.function_binding-binding.ensures) (after c.optional_name.result _ (λ l. named (declared c.function_binding-binding.result) (view_option view_ident c.args.x.now.ident) l) _ _ c.in_ok-function.ensures c.optional_name.ensures)
