use Rattle.std.proofs.Common.{sym, ap, ◌∙◌, subst, true≢false}
use Rattle.swc_ecma_parser_reader.specs.Entry.{unmarked}
use Rattle.swc_ecma_parser_reader.specs.Reader.{whole_stmt}
use Rattle.swc_ecma_parser_reader.specs.State.{GivesAs}
use Rattle.swc_ecma_parser_entries.proofs.Begun.{begun_unmarked, begun_empty}
use Rattle.swc_ecma_parser_entries.proofs.Read.{sees_end, none_left, statement_read, statement_ended, statement_refuses, statement_ended_refuses}
use Rattle.swc_ecma_parser_entries.proofs.entry.statement_in.Goals as goal

pub returns-then-sees-clause-answers : goal.returns-then-sees-clause-answers
returns-then-sees-clause-answers g c = λ s is.
    let e = begun_unmarked s c.args.call.now is (sym c.is_marked.ensures ∙ c.if-is_marked.false) in
    let l = none_left c.args.call.now.at (sym c.sees.ensures ∙ c.if-sees.true) in
    statement_ended g.T.Trees.stmt_of c.args.limit c.args.call.now (unmarked s) _ e (ap (λ z. z.at.left) (sym e) ∙ l) c.eof.ensures c.args.at.include_decl c.args.at.top_level

pub returns-clause-answers : goal.returns-clause-answers
returns-clause-answers g c = λ s is.
    let e = begun_unmarked s c.args.call.now is (sym c.is_marked.ensures ∙ c.if-is_marked.false) in
    statement_read g.T.Trees.stmt_of c.args.limit c.whole_stmt-read.new.p c.args.at.include_decl c.args.at.top_level (unmarked s) c.whole_stmt-read.result
    (subst (λ z. GivesAs g.T.Trees.stmt_of (whole_stmt c.args.limit c.args.at z) c.whole_stmt-read.result c.whole_stmt-read.new.p) e c.whole_stmt-read.ensures)

pub returns-clause-at_end : goal.returns-clause-at_end
returns-clause-at_end g c = λ s is l.
    absurd (true≢false (sym (sees_end c.args.call.now.at (ap (λ z. z.at.left) (begun_empty s c.args.call.now is l) ∙ l)) ∙ sym c.sees.ensures ∙ c.if-sees.false))

pub returns-then-sees-clause-refuses : goal.returns-then-sees-clause-refuses
returns-then-sees-clause-refuses g c = λ s is.
    let e = begun_unmarked s c.args.call.now is (sym c.is_marked.ensures ∙ c.if-is_marked.false) in
    let l = none_left c.args.call.now.at (sym c.sees.ensures ∙ c.if-sees.true) in
    statement_ended_refuses g.T.Trees.stmt_of c.args.limit c.args.call.now (unmarked s) _ e (ap (λ z. z.at.left) (sym e) ∙ l) c.eof.ensures c.args.at.include_decl c.args.at.top_level

pub returns-clause-refuses : goal.returns-clause-refuses
returns-clause-refuses g c = λ s is.
    let e = begun_unmarked s c.args.call.now is (sym c.is_marked.ensures ∙ c.if-is_marked.false) in
    statement_refuses g.T.Trees.stmt_of c.args.limit c.whole_stmt-read.new.p c.args.at.include_decl c.args.at.top_level (unmarked s) c.whole_stmt-read.result
    (subst (λ z. GivesAs g.T.Trees.stmt_of (whole_stmt c.args.limit c.args.at z) c.whole_stmt-read.result c.whole_stmt-read.new.p) e c.whole_stmt-read.ensures)
