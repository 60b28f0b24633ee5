-- The tokens so far, and those that are left.
use Rattle.std.proofs.Common.{◌≡◌, ◌++◌, length}
use Rattle.swc_ecma_parser_lexer.specs.Collected.{IsReadOn}
use Rattle.swc_ecma_parser_lexer.specs.Tokens.{tokens_at}
use Rattle.ecma_answers.proofs.tree.tokens_of.Given as goal

abbrev pub invariant-loop-token : goal.invariant-loop-token
invariant-loop-token l = record {
  tokens : tokens_at l.fn.lexer.place ≡ l.tokens.items ++ tokens_at l.lexer.place;
  comments : IsReadOn l.fn.lexer.comments l.fn.lexer.place l.lexer.comments l.lexer.place;
}

abbrev pub decreases-loop-token : goal.decreases-loop-token
decreases-loop-token l = length (tokens_at l.lexer.place)
