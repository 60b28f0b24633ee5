use Rattle.swc_ecma_parser_module_span_order.proofs.Entries.{modules_run_forward, programs_run_forward, items_run_forward}
use Rattle.swc_ecma_parser_module_span_order.proofs.runs_forward.Goals as goal

pub returns : goal.returns
returns c = record { modules = modules_run_forward; programs = programs_run_forward; items = items_run_forward }
