use Rattle.std.proofs.Common.{◌≡◌, ◌-◌, length, arith, length-append, ap, subst}
use Rattle.std.specs.Str.{IsCharBoundary}
use Rattle.std.proofs.lemmas.Str.{IsCharBoundary-at_seam}
use Rattle.swc_ecma_parser_scan.proofs.piece.before.Goals as goal

pub range-requires-clause-end_boundary : goal.range-requires-clause-end_boundary
range-requires-clause-end_boundary c =
    let text = c.args.text.now in
    let rest = c.args.rest.now in
    let e : length c.requires.0 ≡ length text - length rest = omega (arith, ap length c.requires.1, length-append c.requires.0 rest) in
    subst (λ n. IsCharBoundary text n) e (IsCharBoundary-at_seam text c.requires.0 rest c.requires.1 c.utf8.rest)
