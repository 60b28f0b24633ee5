-- One of the two readings.
use Rattle.ecma_answers.proofs.Deciding.{again_read}
use Rattle.ecma_answers.proofs.goals.read_again.Goals as goal

pub returns-in-Ok : goal.returns-in-Ok
returns-in-Ok c =
    again_read c.args.options c.args.text.now c.args.script c.in-Ok.other c.chosen.result _ c.as_module.result c.tokens_of-tokens.ensures c.in-Ok.is c.as_module.ensures c.chosen.ensures
