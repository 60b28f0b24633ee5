-- The fields in the language that is asked for; or none, where neither comments nor tokens are.
use Rattle.ecma_answers.specs.declared.options.Language.TheVariants as language
use Rattle.ecma_answers.specs.Spelled.{view_tree}
use Rattle.ecma_answers.proofs.Drawing.{fields_none, in_language, of_plain}
use Rattle.ecma_answers.proofs.tree.fields_of.Goals as goal

pub returns-then-not-options-2 : goal.returns-then-not-options-2
returns-then-not-options-2 c =
    fields_none c.args.options c.args.places.now.text (view_tree c.args.tree.now) c.if-not-options.true c.if-not-options-2.true c.new.result.items c.new.ensures.items

pub returns-in-Plain : goal.returns-in-Plain
returns-in-Plain c =
    of_plain (λ y. y.items) c.plain_fields.result c.args.options.language c.args.options c.args.places.now.text (view_tree c.args.tree.now) c.in-Plain.is c.plain_fields.ensures

pub returns-in-Whole : goal.returns-in-Whole
returns-in-Whole c =
    in_language (λ y. y.items) c.whole_fields.result c.args.options.language language.Whole c.args.options c.args.places.now.text (view_tree c.args.tree.now) c.in-Whole.is c.whole_fields.ensures
