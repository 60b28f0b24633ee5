-- The tokens and comments of a lexer at the start of the text.
use Rattle.std.proofs.Common.{◌∙◌, ap}
use Rattle.swc_ecma_parser_input.specs.TokenSource.{TokenSource}
use Rattle.swc_ecma_parser_model.specs.Tree.{Tree}
use Rattle.ecma_answers.proofs.Drawing.{begins, comments_drawn, plain_drawn}
use Rattle.ecma_answers.proofs.tree.plain_fields.Goals as goal

pub returns : goal.returns
returns c =
    let o = c.args.options in
    let text = c.args.places.now.text in
    let input = c.input_of-input in
    let lexer = c.new-lexer in
    let given = input.ensures.src ∙ c.text.ensures in
    let source = lexer.ensures.source ∙ begins o.syntax input.result.start input.result.src.now text input.ensures.start given in
    let tokens = c.as_slice-2.ensures.value ∙ (c.in_ok-tokens.ensures.tokens ∙ ap (λ (s : TokenSource). s.left) source) in
    let comments = λ (x : Tree). comments_drawn o x input.result.start input.result.src.now text lexer.result.comments _ lexer.result.place _ c.as_slice.result.now
    input.ensures.start given lexer.ensures.comments c.in_ok-tokens.ensures.comments (c.as_slice.ensures.value ∙ c.in_ok-comments.ensures.comments) c.in_ok-comments.ensures.lossy c.in_ok-tokens.ensures.ended in
    plain_drawn (λ y. y.items) c.written_fields.result o text c.args.places.now c.as_slice.result.now c.as_slice-2.result.now c.requires.places tokens comments c.written_fields.ensures
