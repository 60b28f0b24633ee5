-- A reading with the tokens of a module.
use Rattle.ecma_answers.proofs.Deciding.{turned_read, where_ok}
use Rattle.ecma_answers.proofs.goals.read_anew.Goals as goal

pub returns : goal.returns
returns c =
    where_ok c.as_program.result c.as_program.ensures (λ r h. turned_read c.args.options c.args.text.now c.args.first r _ c.tokens_of-tokens.ensures h)
