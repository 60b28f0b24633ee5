-- The tokens so far, and those that are left.
use Rattle.std.proofs.Common.{◌≡◌, ◌++◌, length}
use Rattle.swc_ecma_parser_whole_lexer.specs.Comments.{IsReadOn, comments_at}
use Rattle.swc_ecma_parser_whole_lexer.specs.Whole.{tokens_at}
use Rattle.ecma_answers.proofs.tree.whole_tokens_of.Given as goal

abbrev pub invariant-loop-token : goal.invariant-loop-token
invariant-loop-token l = record {
  tokens : tokens_at l.fn.lexer.goal l.fn.lexer.nest l.fn.lexer.has_begun l.fn.lexer.lexer.place ≡ l.tokens.items ++ tokens_at l.lexer.goal l.lexer.nest l.lexer.has_begun l.lexer.lexer.place;
  comments : IsReadOn l.fn.lexer.lexer.comments (comments_at l.fn.lexer.goal l.fn.lexer.nest l.fn.lexer.has_begun l.fn.lexer.lexer.place)
      l.lexer.lexer.comments (comments_at l.lexer.goal l.lexer.nest l.lexer.has_begun l.lexer.lexer.place);
}

abbrev pub decreases-loop-token : goal.decreases-loop-token
decreases-loop-token l = length (tokens_at l.lexer.goal l.lexer.nest l.lexer.has_begun l.lexer.lexer.place)
