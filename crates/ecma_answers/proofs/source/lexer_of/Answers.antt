-- The lexer begins at the text.
use Rattle.ecma_answers.proofs.Drawing.{plain_begins, whole_begins}
use Rattle.ecma_answers.proofs.source.lexer_of.Goals as goal

pub returns-in-Plain : goal.returns-in-Plain
returns-in-Plain c =
    let input = c.input_of-input in
    plain_begins c.args.language c.args.goal c.args.syntax input.result.start input.result.src.now c.args.text.now _ c.in-Plain.is c.new.ensures.source input.ensures.start input.ensures.src

pub returns-in-Whole : goal.returns-in-Whole
returns-in-Whole c =
    let input = c.input_of-input in
    whole_begins c.args.language c.args.goal c.args.syntax c.with_attributes-syntax.result input.result.start input.result.src.now c.args.text.now _ c.in-Whole.is c.new-in-Whole.ensures.source
    c.with_attributes-syntax.ensures input.ensures.start input.ensures.src
