use Rattle.swc_ecma_parser_span_order.proofs.Entries.{statements_run_forward, scripts_run_forward}
use Rattle.swc_ecma_parser_span_order.proofs.runs_forward.Goals as goal

pub returns : goal.returns
returns c = record { statements = statements_run_forward; scripts = scripts_run_forward }
