use Rattle.std.proofs.Common.{◌≡◌, ◌+◌, ◌||◌, true, length, length-drop, get_or, drop, ap, sym, ◌∙◌, arith}
use Rattle.std.specs.Str.{chars}
use Rattle.std.proofs.lemmas.Str.{IsCharBoundary-from_drop}
use Rattle.swc_ecma_parser_lexer.specs.Blanks.{is_blank, is_break}
use Rattle.swc_ecma_parser_lexer.specs.Collected.{comments}
use Rattle.swc_ecma_parser_lexer.proofs.Blanks.{blind-blank, comments-blank, over-blank}
use Rattle.swc_ecma_parser_lexer.proofs.blank.blanks.Goals as goal

pub loop-at-init : goal.loop-at-init
loop-at-init c = record {
  within = omega arith;
  utf8 = c.utf8.text;
  skipped = λ f blind n. ap (λ k. f k c.args.broken (chars c.args.text.now)) {x = n} {y = n + 0} (omega arith);
  comments = λ start n. ap (λ k. comments start k (chars c.args.text.now)) {x = n} {y = n + 0} (omega arith);
}

pub loop-at-preserved : goal.loop-at-preserved
loop-at-preserved c =
    let text = c.args.text.now in
    let at = c.loop-at.at in
    let b = get_or text at 0 in
    let same = c.as_bytes-bytes.ensures.value in
    let blank : is_blank b ≡ true = ap (λ bs. is_blank (get_or bs at 0)) (sym same) ∙ sym c.is_blank.ensures ∙ c.if-is_blank.true in
    let o = over-blank text at c.loop-at.invariant.utf8 (omega arith) blank in
    let had = c.loop-at.had_line_break in
    let behind = chars (drop (at + 1) text) in
    let after : is_break b ≡ c.is_break-had_line_break.result = ap (λ bs. is_break (get_or bs at 0)) (sym same) ∙ sym c.is_break-had_line_break.ensures in
    record {
      within = omega arith;
      utf8 = o.0;
      skipped = λ f blind n.
          c.loop-at.invariant.skipped f blind n ∙ ap (f (n + at) had) o.1 ∙ blind-blank f blind (n + at) had b behind blank
          ∙ ap (λ k. f k (had || is_break b) behind) {x = n + at + 1} {y = n + (at + 1)} (omega arith)
          ∙ ap (λ v. f (n + (at + 1)) (had || v) behind) after;
      comments = λ start n.
          c.loop-at.invariant.comments start n ∙ ap (comments start (n + at)) o.1 ∙ comments-blank start (n + at) b behind blank
          ∙ ap (λ k. comments start k behind) {x = n + at + 1} {y = n + (at + 1)} (omega arith);
    }

pub range_from-requires : goal.range_from-requires
range_from-requires c = λ _. IsCharBoundary-from_drop c.args.text.now c.loop-at.at c.loop-at.invariant.within c.loop-at.invariant.utf8

pub returns-clause-skipped : goal.returns-clause-skipped
returns-clause-skipped c =
    λ f blind n. c.loop-at.invariant.skipped f blind n ∙ ap (λ xs. f (n + c.loop-at.at) c.loop-at.had_line_break (chars xs)) (sym c.range_from.ensures.value)

pub returns-clause-comments : goal.returns-clause-comments
returns-clause-comments c =
    λ start n. c.loop-at.invariant.comments start n ∙ ap (λ xs. comments start (n + c.loop-at.at) (chars xs)) (sym c.range_from.ensures.value)

pub returns-clause-size : goal.returns-clause-size
returns-clause-size c = omega (arith, c.loop-at.invariant.within, ap length c.range_from.ensures.value, length-drop c.loop-at.at c.args.text.now)

pub returns-clause-rest : goal.returns-clause-rest
returns-clause-rest c = c.range_from.ensures.value
