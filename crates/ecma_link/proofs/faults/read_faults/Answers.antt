-- What was found, and what is told of it.
use Rattle.std.proofs.Common.{◌≡◌, ◌∙◌, ◌+◌, ap, arith, length}
use Rattle.ecma_answers.specs.Capped.{left_out}
use Rattle.ecma_link.proofs.Reasons.{called_faults}
use Rattle.ecma_link.proofs.faults.read_faults.Goals as goal

pub returns-clause-found : goal.returns-clause-found
returns-clause-found c =
    let text = c.in_ok-text in
    let it = c.in_ok-listed.field-0 in
    let most = c.in_ok-options.options.max_faults in
    let found = c.in_ok-found.found in
    let count : c.len.result + c.len-2.result ≡ length found.reading.faults.items + length found.early.items = omega (arith, c.len.ensures, c.len-2.ensures) in
    called_faults c.args.options.now c.args.text.now text.text.now c.in_ok-options.options found it.outcome c.in_ok-told.field-0.items c.as_slice.result.now it.faults.items it.words.items it.more
    c.in_ok-options.ensures text.ensures.text.0 text.ensures.text.1 c.in_ok-found.ensures (c.in_ok-listed.ensures.outcome ∙ c.outcome-outcome.ensures)
    c.in_ok-told.ensures c.as_slice.ensures.value c.in_ok-listed.ensures.faults c.in_ok-listed.ensures.words (c.in_ok-listed.ensures.more ∙ c.left_out-more.ensures ∙ ap (left_out most) count)
