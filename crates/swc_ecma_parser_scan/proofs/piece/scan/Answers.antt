use Rattle.std.proofs.Common.{◌∷◌, ℕ, List, ap, sym, ◌∙◌}
use Rattle.std.specs.Str.{chars}
use Rattle.swc_ecma_parser_scan.proofs.Scans.{piece-splits, piece-chars}
use Rattle.swc_ecma_parser_scan.specs.Splits.{scan-splits}
use Rattle.swc_ecma_parser_scan.proofs.piece.scan.Goals as goal

pub before-requires : goal.before-requires
before-requires c =
    let first = c.in_ok-c.c in
    let cs = chars c.in_ok-c.behind.now in
    let begins = c.in_ok-c.ensures.begins ∙ ap (λ (xs : List ℕ). first ∷ xs) (sym (scan-splits c.args.is_first first cs)) in
    let whole = c.whole-munched in
    (_, piece-splits c.args.text.now whole.result.rest.now first _ _ c.utf8.text whole.ensures.utf8 begins whole.ensures.rest)

pub returns : goal.returns
returns c =
    let first = c.in_ok-c.c in
    let cs = chars c.in_ok-c.behind.now in
    let begins = c.in_ok-c.ensures.begins ∙ ap (λ (xs : List ℕ). first ∷ xs) (sym (scan-splits c.args.is_first first cs)) in
    let whole = c.whole-munched in
    record {
      first = first;
      behind = cs;
      begins = c.in_ok-c.ensures.begins;
      state = whole.ensures.state;
      taken = piece-chars c.args.text.now c.before-2.result.now whole.result.rest.now first _ _ c.before-2.utf8 c.before-2.ensures begins whole.ensures.rest;
      left = whole.ensures.rest;
      utf8 = c.before-2.utf8;
      rest_utf8 = whole.ensures.utf8;
      parts = c.before-2.ensures;
    }
