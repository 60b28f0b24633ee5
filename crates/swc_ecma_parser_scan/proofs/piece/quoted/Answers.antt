use Rattle.std.proofs.Common.{◌≡◌, ◌<◌, ◌==◌, ◌||◌, Bool, true, length, get_or, ap, sym, ◌∙◌, arith}
use Rattle.std.specs.Str.{chars}
use Rattle.std.proofs.lemmas.Str.{IsCharBoundary-after_ascii}
use Rattle.swc_ecma_parser_scan.proofs.Lone.{quote-ascii, string-whole}
use Rattle.swc_ecma_parser_scan.proofs.piece.quoted.Goals as goal

pub range_from-requires : goal.range_from-requires
range_from-requires c =
    let text = c.past_run-rest.result.now in
    let same = c.as_bytes-bytes.ensures.value in
    let quote : ((c.args.c == 39) || (c.args.c == 34)) ≡ true = sym c.is_quote.ensures ∙ c.if-not-is_quote.false in
    let first : get_or text 0 0 ≡ c.args.c = ap (λ bs. get_or bs 0 0) (sym same) ∙ c.if-bytes-c.false in
    let some : 0 < length text = omega (arith, c.if-bytes-eq0.false, ap length same) in
    λ _. IsCharBoundary-after_ascii text 0 c.past_run-rest.utf8 some (omega (arith, first, quote-ascii c.args.c quote))

pub returns : goal.returns
returns c =
    let run = c.past_run-rest in
    let text = run.result.now in
    let same = c.as_bytes-bytes.ensures.value in
    let quote : ((c.args.c == 39) || (c.args.c == 34)) ≡ true = sym c.is_quote.ensures ∙ c.if-not-is_quote.false in
    let first : get_or text 0 0 ≡ c.args.c = ap (λ bs. get_or bs 0 0) (sym same) ∙ c.if-bytes-c.false in
    let some : 0 < length text = omega (arith, c.if-bytes-eq0.false, ap length same) in
    let whole = λ (f : Bool). string-whole f c.args.c (chars c.args.behind.now) text quote run.utf8 some first run.ensures.state run.ensures.left in
    record {
      state = λ f. (whole f).0;
      rest = λ f. ap chars c.range_from.ensures.value ∙ (whole f).1;
      utf8 = c.range_from.utf8;
    }
