-- The first part, and those behind it.
use Rattle.ecma_event_exprs.proofs.Firsts.{first_part}
use Rattle.ecma_event_exprs.specs.Events.{declared}
use Rattle.ecma_events.specs.declared.event.Binding.TheVariants as binding
use Rattle.swc_ecma_parser_ast.specs.View.{view_import_specifier}
use Rattle.ecma_event_walk.proofs.lists.imports.Goals as goal

pub returns-in-Some : goal.returns-in-Some
returns-in-Some c = first_part view_import_specifier c.two.result _ c.args.walk.now (declared binding.Import) c.in-Some.x.now c.in-Some.rest.now c.args.parts.now c.in-Some.ensures.cases.0 c.two.ensures
