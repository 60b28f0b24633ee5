-- The first reading, or one with the tokens of a module.
use Rattle.std.proofs.Common.{◌∙◌, false, refl, sym, true}
use Rattle.ecma_answers.proofs.Deciding.{program_turned, where_ok}
use Rattle.ecma_answers.proofs.goals.read_whole_program.Goals as goal

pub returns-then-is_clean_module : goal.returns-then-is_clean_module
returns-then-is_clean_module c =
    let it = c.in_ok-first in
    where_ok c.read_anew.result c.read_anew.ensures
    (λ r h. program_turned c.args.options c.args.text.now it.first _ true r c.tokens_of-tokens.ensures it.ensures (sym c.if-is_clean_module.true ∙ c.is_clean_module.ensures) h)

pub returns : goal.returns
returns c =
    let it = c.in_ok-first in
    program_turned c.args.options c.args.text.now it.first _ false it.first c.tokens_of-tokens.ensures it.ensures (sym c.if-is_clean_module.false ∙ c.is_clean_module.ensures) refl
