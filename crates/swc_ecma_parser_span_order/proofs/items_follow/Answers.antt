use Rattle.swc_ecma_parser_span_order.proofs.Follows.{statements_follow, scripts_follow}
use Rattle.swc_ecma_parser_span_order.proofs.items_follow.Goals as goal

pub returns : goal.returns
returns c = record { statements = statements_follow; scripts = scripts_follow }
