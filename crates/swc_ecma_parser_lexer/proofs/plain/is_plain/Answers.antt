use Rattle.std.proofs.Common.{◌≡◌, ℕ, ◌+◌, ◌<◌, ◌≤◌, true, false, ◌||◌, ◌==◌, cond, List, length, get_or, drop, ap, sym, ◌∙◌, arith}
use Rattle.std.proofs.lemmas.List.{at_drop_more, at_drop_all}
use Rattle.swc_ecma_parser_lexer.specs.Plain.{is_plain}
use Rattle.swc_ecma_parser_lexer.proofs.plain.is_plain.Goals as goal

more : (quote : ℕ) (bs : List ℕ) (n : ℕ) → n < length bs → is_plain quote (drop n bs) ≡ cond ((get_or bs n 0 == quote) || (get_or bs n 0 == 92)) false (is_plain quote (drop (n + 1) bs))
unfolding is_plain
more quote bs n h = at_drop_more (is_plain quote) bs n 0 h

done : (quote : ℕ) (bs : List ℕ) (n : ℕ) → length bs ≤ n → is_plain quote (drop n bs) ≡ true
unfolding is_plain
done quote bs n h = at_drop_all (is_plain quote) bs n h

pub returns-then-byte-quote : goal.returns-then-byte-quote
returns-then-byte-quote c =
    let quote = c.args.quote in
    let bytes = c.args.bytes.now in
    let n = c.loop-byte.byte-index in
    sym (c.loop-byte.invariant ∙ more quote bytes n (omega arith) ∙ ap (λ x. cond x false (is_plain quote (drop (n + 1) bytes))) c.if-byte-quote.true)

pub loop-byte-preserved : goal.loop-byte-preserved
loop-byte-preserved c =
    let quote = c.args.quote in
    let bytes = c.args.bytes.now in
    let n = c.loop-byte.byte-index in
    c.loop-byte.invariant ∙ more quote bytes n (omega arith) ∙ ap (λ x. cond x false (is_plain quote (drop (n + 1) bytes))) c.if-byte-quote.false

pub returns : goal.returns
returns c = sym (c.loop-byte.invariant ∙ done c.args.quote c.args.bytes.now c.loop-byte.byte-index (omega arith))
