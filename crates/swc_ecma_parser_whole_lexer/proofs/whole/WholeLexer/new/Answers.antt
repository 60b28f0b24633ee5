use Rattle.std.proofs.Common.{ap, false, ◌∙◌}
use Rattle.swc_ecma_parser_nesting.specs.declared.nest.Nest.{Nest}
use Rattle.swc_ecma_parser_nesting.specs.Nesting.{outset}
use Rattle.swc_ecma_parser_whole_lexer.specs.Comments.{collected, comments_at}
use Rattle.swc_ecma_parser_whole_lexer.specs.Source.{source_of}
use Rattle.swc_ecma_parser_whole_lexer.proofs.Commented.{comments-at-outset}
use Rattle.swc_ecma_parser_whole_lexer.proofs.Source.{at-outset}
use Rattle.swc_ecma_parser_whole_lexer.proofs.whole.WholeLexer.new.Goals as goal

pub returns-clause-source : goal.returns-clause-source
returns-clause-source c =
    let lexer = c.new.result in
    ap (λ (n : Nest). source_of c.args.goal n false lexer.place lexer.context lexer.syntax lexer.faults) c.new-2.ensures
    ∙ at-outset c.args.goal lexer.place lexer.context lexer.syntax c.args.syntax lexer.faults c.args.input.start c.args.input.src.now
    c.new.ensures.source c.new.ensures.start c.new.ensures.at c.new.ensures.had_line_break c.new.ensures.rest

pub returns-clause-comments : goal.returns-clause-comments
returns-clause-comments c =
    let lexer = c.new.result in
    ap (λ (n : Nest). collected lexer.comments (comments_at c.args.goal n false lexer.place)) c.new-2.ensures
    ∙ comments-at-outset c.args.goal outset lexer.comments lexer.place c.args.input.start c.args.input.src.now c.args.comments
    c.new.ensures.start c.new.ensures.at c.new.ensures.had_line_break c.new.ensures.rest c.new.ensures.none_yet c.new.ensures.wanted
