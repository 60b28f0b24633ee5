use Rattle.std.proofs.Common.{◌≡◌, ◌++◌, length, arith, length-append, ap, sym, ◌∙◌}
use Rattle.std.specs.Char.{encode_utf8}
use Rattle.std.proofs.lemmas.Str.{chars_past_char, length-encode, len_utf8_bounds}
use Rattle.swc_ecma_parser_scan.proofs.chars.first_char.Goals as goal

pub returns : goal.returns
returns c =
    let first = c.in_ok-first.first in
    let e : c.args.text.now ≡ encode_utf8 first ++ c.as_str.result.now = sym c.chars-characters.ensures.rest ∙ c.in_ok-first.ensures.steps.0 ∙ ap (λ r. encode_utf8 first ++ r) (sym c.as_str.ensures) in
    record {
      begins = chars_past_char _ _ _ c.utf8.text e;
      shorter = omega (arith, ap length e, length-append (encode_utf8 first) c.as_str.result.now, length-encode first, len_utf8_bounds first);
      utf8 = c.as_str.utf8;
    }
