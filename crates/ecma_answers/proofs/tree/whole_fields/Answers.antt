-- The tokens and comments of a lexer of the whole language at the start of the text.
use Rattle.std.proofs.Common.{◌∙◌, ap, refl}
use Rattle.swc_ecma_parser_input.specs.TokenSource.{TokenSource}
use Rattle.ecma_answers.specs.declared.options.Language.TheVariants as language
use Rattle.ecma_answers.specs.Spelled.{view_tree}
use Rattle.ecma_answers.proofs.Drawing.{fields_drawn, whole_begins, whole_comments_drawn, whole_tokens}
use Rattle.ecma_answers.proofs.tree.whole_fields.Goals as goal

pub returns : goal.returns
returns c =
    let o = c.args.options in
    let text = c.args.places.now.text in
    let x = view_tree c.args.tree.now in
    let input = c.input_of-input in
    let lexer = c.new-lexer in
    let given = input.ensures.src ∙ c.text.ensures in
    let source = whole_begins language.Whole c.code_goal.result o.syntax c.with_attributes-syntax.result input.result.start input.result.src.now text _ refl lexer.ensures.source
    c.with_attributes-syntax.ensures input.ensures.start given in
    let tokens = whole_tokens o text x c.code_goal.result _ c.as_slice-2.result.now source c.code_goal.ensures (c.as_slice-2.ensures.value ∙ c.in_ok-tokens.ensures.tokens) in
    let comments = whole_comments_drawn o x c.code_goal.result input.result.start input.result.src.now text lexer.result.lexer.comments _ _ _ c.as_slice.result.now
    c.code_goal.ensures input.ensures.start given lexer.ensures.comments c.in_ok-tokens.ensures.comments (c.as_slice.ensures.value ∙ c.in_ok-comments.ensures.comments) c.in_ok-comments.ensures.lossy c.in_ok-tokens.ensures.ended in
    fields_drawn (λ y. y.items) c.written_fields.result language.Whole o text x c.args.places.now c.as_slice.result.now c.as_slice-2.result.now c.requires.places tokens comments c.written_fields.ensures
