use Rattle.std.proofs.Common.{ap}
use Rattle.swc_ecma_parser_reader.specs.Entry.{unmarked, statement_entry}
use Rattle.swc_ecma_parser_state.specs.Contents.{seen}
use Rattle.swc_ecma_parser_entries.proofs.Ended.{ended_fault, ended_memory, ended_restored, statement_ended, refuses_ended}
use Rattle.swc_ecma_parser_entries.proofs.entry.statement_from.Goals as goal

pub returns-clause-answers : goal.returns-clause-answers
returns-clause-answers g c =
    statement_ended c.flags-outer.result c.found_module_item-found_module_item.result c.statement_in-read.new.call (seen c.ended.result.0) g.T.Trees.stmt_of c.args.limit (unmarked (seen c.args.state)) c.args.at.include_decl c.args.at.top_level _ _ c.ended.ensures.ends (c.statement_in-read.ensures.answers (seen c.args.state) c.begin-call.ensures)

pub returns-clause-refused : goal.returns-clause-refused
returns-clause-refused g c = ended_restored c.flags-outer.result c.found_module_item-found_module_item.result c.statement_in-read.new.call (seen c.ended.result.0) (seen c.args.state) c.flags-outer.ensures c.found_module_item-found_module_item.ensures _ _ c.ended.ensures.ends

pub returns-clause-ahead : goal.returns-clause-ahead
returns-clause-ahead g c = λ h. ended_memory c.flags-outer.result c.found_module_item-found_module_item.result c.statement_in-read.new.call (seen c.ended.result.0) _ _ c.ended.ensures.ends (c.statement_in-read.ensures.ahead (seen c.args.state) c.begin-call.ensures h)

pub returns-clause-at_end : goal.returns-clause-at_end
returns-clause-at_end g c = λ h. let p = c.statement_in-read.ensures.at_end (seen c.args.state) c.begin-call.ensures h in
    ended_fault c.flags-outer.result c.found_module_item-found_module_item.result c.statement_in-read.new.call (seen c.ended.result.0) _ _ _ c.ended.ensures.ends p.0 p.1

pub returns-clause-refuses : goal.returns-clause-refuses
returns-clause-refuses g c = refuses_ended c.flags-outer.result c.found_module_item-found_module_item.result c.statement_in-read.new.call (seen c.ended.result.0) (statement_entry c.args.at.include_decl c.args.at.top_level) c.args.limit (unmarked (seen c.args.state)) _ _ c.ended.ensures.ends (c.statement_in-read.ensures.refuses (seen c.args.state) c.begin-call.ensures) _ (ap (λ k. k.«module») c.flags-outer.ensures)
