-- Each token is taken from those that are left, up to the last.
use Rattle.std.proofs.Common.{◌∙◌, ◌++◌, ap, sym}
use Rattle.swc_ecma_parser_lexer.specs.Tokens.{tokens_at}
use Rattle.swc_ecma_parser_lexer.proofs.Collections.{reads-none}
use Rattle.ecma_answers.proofs.Drawing.{drawn_all, drawn_more, ended_none, fewer, reads_on}
use Rattle.ecma_answers.proofs.tree.tokens_of.Goals as goal

pub loop-token-init : goal.loop-token-init
loop-token-init c =
    record { tokens = ap (λ r. r ++ tokens_at c.args.lexer.now.place) (sym c.new-tokens.ensures.items); comments = reads-none c.args.lexer.now.comments c.args.lexer.now.place }

pub loop-token-smaller : goal.loop-token-smaller
loop-token-smaller c = fewer _ (tokens_at c.next.new.self.place) c.next.result c.in-Some.token c.next.ensures.drawn.draws c.in-Some.is

pub loop-token-preserved : goal.loop-token-preserved
loop-token-preserved c =
    let inv = c.loop-token.invariant in
    let memory = sym c.is_out_of_memory.ensures ∙ c.if-is_out_of_memory.false in
    let left = tokens_at c.next.new.self.place in
    record {
      tokens = drawn_more (tokens_at c.args.lexer.now.place) c.loop-token.tokens.items _ left c.next.result c.in-Some.token inv.tokens c.next.ensures.drawn.draws c.in-Some.is memory
          ∙ ap (λ r. r ++ left) (sym c.in_ok-push.ensures.items);
      comments = reads_on _ _ _ _ _ _ inv.comments c.next.ensures.comments;
    }

pub returns-clause-tokens : goal.returns-clause-tokens
returns-clause-tokens c =
    drawn_all (tokens_at c.args.lexer.now.place) c.loop-token.tokens.items _ (tokens_at c.next.new.self.place) c.next.result
    c.loop-token.invariant.tokens c.next.ensures.drawn.draws c.in_default.not-Some

pub returns-clause-comments : goal.returns-clause-comments
returns-clause-comments c = reads_on _ _ _ _ _ _ c.loop-token.invariant.comments c.next.ensures.comments

pub returns-clause-ended : goal.returns-clause-ended
returns-clause-ended c = ended_none c.next.result c.next.ensures.ended c.in_default.not-Some
