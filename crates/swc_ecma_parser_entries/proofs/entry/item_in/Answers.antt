use Rattle.std.proofs.Common.{◌≡◌, ◌≢◌, map, sym, ap, ◌∙◌, subst, true≢false}
use Rattle.std.specs.Prelude.{IfErr}
use Rattle.swc_ecma_parser_error.specs.Kind.{OutOfMemory, kind_of}
use Rattle.swc_ecma_parser_entries.specs.Refusals.{item_held}
use Rattle.swc_ecma_parser_grammar.specs.Notes.{as_note}
use Rattle.swc_ecma_parser_reader.specs.Entry.{unmarked}
use Rattle.swc_ecma_parser_reader.specs.State.{GivesAs}
use Rattle.swc_ecma_parser_module_reader.specs.Items.{item_whole}
use Rattle.swc_ecma_parser_entries.proofs.Begun.{begun_unmarked, begun_empty}
use Rattle.swc_ecma_parser_entries.proofs.Read.{sees_end, none_left, item_read, item_ended, item_refuses, item_ended_refuses}
use Rattle.swc_ecma_parser_entries.proofs.entry.item_in.Goals as goal

pub returns-then-sees-clause-answers : goal.returns-then-sees-clause-answers
returns-then-sees-clause-answers g c = λ s is.
    let e = begun_unmarked s c.args.call.now is (sym c.is_marked.ensures ∙ c.if-is_marked.false) in
    let l = none_left c.args.call.now.at (sym c.sees.ensures ∙ c.if-sees.true) in
    item_ended g.T.BuildsItem.item_of c.args.limit c.args.call.now (unmarked s) _ e (ap (λ z. z.at.left) (sym e) ∙ l) c.eof.ensures

pub returns-clause-answers : goal.returns-clause-answers
returns-clause-answers g c = λ s is.
    let e = begun_unmarked s c.args.call.now is (sym c.is_marked.ensures ∙ c.if-is_marked.false) in
    let (recorded, gives, held) = c.item_alone-read.ensures in
    item_read g.T.BuildsItem.item_of c.args.limit c.item_alone-read.new.call (unmarked s) recorded c.item_alone-read.result
    (subst (λ z. GivesAs (λ x. (g.T.BuildsItem.item_of x, map as_note recorded)) (item_whole c.args.limit recorded z) c.item_alone-read.result c.item_alone-read.new.call) e gives)

pub returns-clause-at_end : goal.returns-clause-at_end
returns-clause-at_end g c = λ s is l.
    absurd (true≢false (sym (sees_end c.args.call.now.at (ap (λ z. z.at.left) (begun_empty s c.args.call.now is l) ∙ l)) ∙ sym c.sees.ensures ∙ c.if-sees.false))

pub returns-then-sees-clause-refuses : goal.returns-then-sees-clause-refuses
returns-then-sees-clause-refuses g c = λ s is.
    let e = begun_unmarked s c.args.call.now is (sym c.is_marked.ensures ∙ c.if-is_marked.false) in
    let l = none_left c.args.call.now.at (sym c.sees.ensures ∙ c.if-sees.true) in
    item_ended_refuses g.T.BuildsItem.item_of c.args.limit c.args.call.now (unmarked s) _ e (ap (λ z. z.at.left) (sym e) ∙ l) c.eof.ensures

pub returns-clause-refuses : goal.returns-clause-refuses
returns-clause-refuses g c = λ s is.
    let e = begun_unmarked s c.args.call.now is (sym c.is_marked.ensures ∙ c.if-is_marked.false) in
    let (recorded, gives, held) = c.item_alone-read.ensures in
    item_refuses g.T.BuildsItem.item_of c.args.limit c.item_alone-read.new.call (unmarked s) recorded c.item_alone-read.result
    (subst (λ z. GivesAs (λ x. (g.T.BuildsItem.item_of x, map as_note recorded)) (item_whole c.args.limit recorded z) c.item_alone-read.result c.item_alone-read.new.call) e gives)
    (subst (λ z. IfErr c.item_alone-read.result (λ d. kind_of d.kind ≢ OutOfMemory → map as_note recorded ≡ item_held c.args.limit z)) e held)
