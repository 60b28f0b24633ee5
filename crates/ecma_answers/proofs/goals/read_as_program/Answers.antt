-- A program in either language.
use Rattle.ecma_answers.proofs.Deciding.{plain_program, where_ok, whole_program}
use Rattle.ecma_answers.proofs.goals.read_as_program.Goals as goal

pub returns-in-Whole : goal.returns-in-Whole
returns-in-Whole c =
    where_ok c.read_whole_program.result c.read_whole_program.ensures (λ r h. whole_program c.args.options.language c.args.options.limit _ _ r c.in-Whole.is h)

pub returns-in-Plain : goal.returns-in-Plain
returns-in-Plain c =
    where_ok c.as_program.result c.as_program.ensures (λ r h. plain_program c.args.options c.args.text.now _ r c.in-Plain.is c.tokens_of-tokens.ensures h)
