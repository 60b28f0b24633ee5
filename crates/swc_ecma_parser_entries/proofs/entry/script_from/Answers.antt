use Rattle.std.proofs.Common.{ap}
use Rattle.swc_ecma_parser_grammar.specs.language.Programs as programs
use Rattle.swc_ecma_parser_reader.specs.Entry.{unmarked}
use Rattle.swc_ecma_parser_state.specs.Contents.{seen}
use Rattle.swc_ecma_parser_entries.proofs.Ended.{ended_ok, ended_memory, ended_restored, script_ended, refuses_ended}
use Rattle.swc_ecma_parser_entries.proofs.entry.script_from.Goals as goal

pub returns-clause-answers : goal.returns-clause-answers
returns-clause-answers g c =
    script_ended c.flags-outer.result c.found_module_item-found_module_item.result c.script_in-read.new.call (seen c.ended.result.0) g.T.BuildsScript.script_of c.args.limit (unmarked (seen c.args.state)) _ _ c.ended.ensures.ends (c.script_in-read.ensures.answers (seen c.args.state) c.begin-call.ensures)

pub returns-clause-outright : goal.returns-clause-outright
returns-clause-outright g c = λ h. ended_ok c.flags-outer.result c.found_module_item-found_module_item.result c.script_in-read.new.call (seen c.ended.result.0) _ _ c.ended.ensures.ends (c.script_in-read.ensures.outright (seen c.args.state) c.begin-call.ensures h)

pub returns-clause-refused : goal.returns-clause-refused
returns-clause-refused g c = ended_restored c.flags-outer.result c.found_module_item-found_module_item.result c.script_in-read.new.call (seen c.ended.result.0) (seen c.args.state) c.flags-outer.ensures c.found_module_item-found_module_item.ensures _ _ c.ended.ensures.ends

pub returns-clause-ahead : goal.returns-clause-ahead
returns-clause-ahead g c = λ h. ended_memory c.flags-outer.result c.found_module_item-found_module_item.result c.script_in-read.new.call (seen c.ended.result.0) _ _ c.ended.ensures.ends (c.script_in-read.ensures.ahead (seen c.args.state) c.begin-call.ensures h)

pub returns-clause-refuses : goal.returns-clause-refuses
returns-clause-refuses g c = refuses_ended c.flags-outer.result c.found_module_item-found_module_item.result c.script_in-read.new.call (seen c.ended.result.0) programs.script c.args.limit (unmarked (seen c.args.state)) _ _ c.ended.ensures.ends (c.script_in-read.ensures.refuses (seen c.args.state) c.begin-call.ensures) _ (ap (λ k. k.«module») c.flags-outer.ensures)
