use Rattle.swc_ecma_parser_module_span_order.proofs.Follows.{modules_follow, programs_follow, single_items_follow}
use Rattle.swc_ecma_parser_module_span_order.proofs.items_follow.Goals as goal

pub returns : goal.returns
returns c = record { modules = modules_follow; programs = programs_follow; items = single_items_follow }
