-- Each token is taken from those that are left, up to the last.
use Rattle.std.proofs.Common.{◌∙◌, ◌++◌, ap, sym}
use Rattle.swc_ecma_parser_whole_lexer.specs.Comments.{comments_at}
use Rattle.swc_ecma_parser_whole_lexer.specs.Whole.{tokens_at}
use Rattle.swc_ecma_parser_whole_lexer.proofs.Commented.{read-none, read-twice}
use Rattle.ecma_answers.proofs.Drawing.{drawn_all, drawn_more, ended_none, fewer}
use Rattle.ecma_answers.proofs.tree.whole_tokens_of.Goals as goal

pub loop-token-init : goal.loop-token-init
loop-token-init c =
    let lexer = c.args.lexer.now in
    record {
      tokens = ap (λ r. r ++ tokens_at lexer.goal lexer.nest lexer.has_begun lexer.lexer.place) (sym c.new-tokens.ensures.items);
      comments = read-none lexer.lexer.comments (comments_at lexer.goal lexer.nest lexer.has_begun lexer.lexer.place);
    }

pub loop-token-smaller : goal.loop-token-smaller
loop-token-smaller c =
    let lexer = c.next.new.self in
    fewer _ (tokens_at lexer.goal lexer.nest lexer.has_begun lexer.lexer.place) c.next.result c.in-Some.token c.next.ensures.drawn.draws c.in-Some.is

pub loop-token-preserved : goal.loop-token-preserved
loop-token-preserved c =
    let inv = c.loop-token.invariant in
    let memory = sym c.is_out_of_memory.ensures ∙ c.if-is_out_of_memory.false in
    let first = c.args.lexer.now in
    let lexer = c.next.new.self in
    let left = tokens_at lexer.goal lexer.nest lexer.has_begun lexer.lexer.place in
    record {
      tokens = drawn_more (tokens_at first.goal first.nest first.has_begun first.lexer.place) c.loop-token.tokens.items _ left c.next.result c.in-Some.token inv.tokens c.next.ensures.drawn.draws c.in-Some.is memory
          ∙ ap (λ r. r ++ left) (sym c.in_ok-push.ensures.items);
      comments = read-twice _ _ _ _ _ _ inv.comments c.next.ensures.comments;
    }

pub returns-clause-tokens : goal.returns-clause-tokens
returns-clause-tokens c =
    let first = c.args.lexer.now in
    let lexer = c.next.new.self in
    drawn_all (tokens_at first.goal first.nest first.has_begun first.lexer.place) c.loop-token.tokens.items _ (tokens_at lexer.goal lexer.nest lexer.has_begun lexer.lexer.place) c.next.result
    c.loop-token.invariant.tokens c.next.ensures.drawn.draws c.in_default.not-Some

pub returns-clause-comments : goal.returns-clause-comments
returns-clause-comments c = read-twice _ _ _ _ _ _ c.loop-token.invariant.comments c.next.ensures.comments

pub returns-clause-ended : goal.returns-clause-ended
returns-clause-ended c = ended_none c.next.result c.next.ensures.ended c.in_default.not-Some
