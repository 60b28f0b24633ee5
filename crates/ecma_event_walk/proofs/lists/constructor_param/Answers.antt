-- The parameter itself, and those behind it.
use Rattle.std.proofs.Common.{map, sym}
use Rattle.ecma_event_exprs.proofs.Arms.{arm}
use Rattle.ecma_event_exprs.specs.Events.{all_events, declared}
use Rattle.ecma_events.specs.declared.event.Binding.TheVariants as binding
use Rattle.swc_ecma_parser_ast.specs.View.{view_param_or_ts_param_prop}
use Rattle.swc_ecma_parser_model.specs.Tree.{trees}
use Rattle.ecma_event_walk.proofs.lists.constructor_param.Goals as goal

pub returns : goal.returns
returns c = arm c.two.result _ (all_events (declared binding.Parameter) (trees (map view_param_or_ts_param_prop c.args.rest.now)) c.args.walk.now) (declared binding.Parameter) (view_param_or_ts_param_prop c.args.x.now) _ (sym c.as_param.ensures) c.two.ensures
