use Rattle.std.proofs.Common.{◌≡◌, length}
use Rattle.swc_ecma_parser_whole_lexer.specs.Comments.{IsReadOn, comments_at}
use Rattle.swc_ecma_parser_whole_lexer.specs.Source.{source_of}
use Rattle.swc_ecma_parser_whole_lexer.proofs.whole.WholeLexerTokens.next.Given as goal

abbrev pub invariant-loop-found : goal.invariant-loop-found
invariant-loop-found l = record {
  source : source_of l.initial.self.goal l.initial.self.nest l.initial.self.has_begun l.initial.self.lexer.place l.initial.self.lexer.context l.initial.self.lexer.syntax l.initial.self.lexer.faults
      ≡ source_of l.self.goal l.self.nest l.self.has_begun l.self.lexer.place l.self.lexer.context l.self.lexer.syntax l.self.lexer.faults;
  comments : IsReadOn l.initial.self.lexer.comments (comments_at l.initial.self.goal l.initial.self.nest l.initial.self.has_begun l.initial.self.lexer.place)
      l.self.lexer.comments (comments_at l.self.goal l.self.nest l.self.has_begun l.self.lexer.place);
}

abbrev pub decreases-loop-found : goal.decreases-loop-found
decreases-loop-found l = length l.self.lexer.place.rest.now
