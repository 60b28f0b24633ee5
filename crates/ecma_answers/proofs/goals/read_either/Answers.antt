-- The script, where it is clean; else one of two readings.
use Rattle.std.proofs.Common.{◌∙◌, false, refl, sym, true}
use Rattle.ecma_answers.proofs.Deciding.{either_read, where_ok}
use Rattle.ecma_answers.proofs.goals.read_either.Goals as goal

pub returns-then-is_clean : goal.returns-then-is_clean
returns-then-is_clean c =
    let it = c.in_ok-script in
    either_read c.args.options c.args.text.now it.script _ true it.script c.script_tokens_of-tokens.ensures it.ensures (sym c.if-is_clean.true ∙ c.is_clean.ensures) refl

pub returns : goal.returns
returns c =
    let it = c.in_ok-script in
    where_ok c.read_again.result c.read_again.ensures
    (λ r h. either_read c.args.options c.args.text.now it.script _ false r c.script_tokens_of-tokens.ensures it.ensures (sym c.if-is_clean.false ∙ c.is_clean.ensures) h)
