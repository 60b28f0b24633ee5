-- What was read with the goal that is asked for.
use Rattle.ecma_answers.proofs.Deciding.{either_decided, module_decided, program_decided, script_decided, where_ok}
use Rattle.ecma_answers.proofs.goals.read.Goals as goal

pub returns-in-Script : goal.returns-in-Script
returns-in-Script c =
    where_ok c.as_script.result c.as_script.ensures (λ r h. script_decided c.args.options c.args.text.now _ r c.tokens_of.ensures c.in-Script.is h)

pub returns-in-Module : goal.returns-in-Module
returns-in-Module c =
    where_ok c.as_module.result c.as_module.ensures (λ r h. module_decided c.args.options c.args.text.now _ r c.tokens_of-in-Module.ensures c.in-Module.is h)

pub returns-in-Program : goal.returns-in-Program
returns-in-Program c =
    where_ok c.read_as_program.result c.read_as_program.ensures (λ r h. program_decided c.args.options c.args.text.now r c.in-Program.is h)

pub returns-in-Auto : goal.returns-in-Auto
returns-in-Auto c =
    where_ok c.read_either.result c.read_either.ensures (λ r h. either_decided c.args.options c.args.text.now r c.in-Auto.is h)
