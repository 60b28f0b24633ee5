use Rattle.std.proofs.Common.{length, ap, sym, ◌∙◌, arith}
use Rattle.swc_ecma_parser_lexer.proofs.Collections.{reads-noted, reads-blanks, reads-none, no-comments-left}
use Rattle.swc_ecma_parser_lexer.proofs.Texts.{alike-on, alike-past, alike-tokens, behind-on, behind-past, nothing-left, piece-longer}
use Rattle.swc_ecma_parser_lexer.proofs.place.find.Goals as goal

pub loop-piece-init : goal.loop-piece-init
loop-piece-init c =
    let over = c.past_blanks-place.ensures in
    record {
      tokens = alike-tokens c.args.first c.past_blanks-place.result over.alike over.start;
      alike = over.alike;
      behind = over.behind;
      start = over.start;
      fits = over.fits;
      comments = reads-blanks _ _ _ _ _ (reads-none c.args.comments.now c.args.first) over.comments;
    }

pub loop-piece-smaller : goal.loop-piece-smaller
loop-piece-smaller c =
    let h = piece-longer _ _ _ c.in-Some.ensures in
    omega (arith, h, ap length c.past.ensures.rest, c.past_blanks-place-in-Some.ensures.shorter)

pub loop-piece-preserved : goal.loop-piece-preserved
loop-piece-preserved c =
    let skipped = sym c.is_skipped.ensures ∙ c.if-not-is_skipped.false in
    let over = c.past_blanks-place-in-Some.ensures in
    let past = alike-past c.loop-piece.place c.in-Some.piece c.past.result c.in-Some.ensures c.past.ensures skipped in
    record {
      tokens = c.loop-piece.invariant.tokens ∙ alike-tokens c.loop-piece.place c.past.result past c.past.ensures.start
          ∙ alike-tokens c.past.result c.past_blanks-place-in-Some.result over.alike over.start;
      alike = alike-on c.args.first c.past.result c.past_blanks-place-in-Some.result
          (alike-on c.args.first c.loop-piece.place c.past.result c.loop-piece.invariant.alike past) over.alike;
      behind = behind-on _ _ _ (
          behind-on _ _ _ c.loop-piece.invariant.behind (behind-past c.loop-piece.place c.in-Some.piece c.past.result c.in-Some.ensures c.past.ensures)
          ) over.behind;
      start = over.start ∙ c.past.ensures.start ∙ c.loop-piece.invariant.start;
      fits = over.fits;
      comments = reads-blanks _ _ _ _ _ (
          reads-noted _ _ _ _ c.loop-piece.place c.past.result c.in-Some.piece c.span_of.result c.loop-piece.invariant.comments c.in-Some.ensures
          c.past.ensures c.span_of.ensures c.note.ensures
          ) over.comments;
    }

pub returns-clause-piece : goal.returns-clause-piece
returns-clause-piece c = let h = c.in_default.ensures in nothing-left c.loop-piece.place h

pub returns-clause-ended : goal.returns-clause-ended
returns-clause-ended c = let h = c.in_default.ensures in no-comments-left c.loop-piece.place h
