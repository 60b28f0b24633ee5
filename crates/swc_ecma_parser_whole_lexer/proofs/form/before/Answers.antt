use Rattle.std.proofs.Common.{◌≡◌, ◌-◌, length, length-append, ap, arith}
use Rattle.std.proofs.lemmas.Str.{IsCharBoundary-at_seam}
use Rattle.swc_ecma_parser_whole_lexer.proofs.form.before.Goals as goal

pub range-requires-clause-end_boundary : goal.range-requires-clause-end_boundary
range-requires-clause-end_boundary c =
    let taken = c.requires.0 in
    let rest = c.args.rest.now in
    let size : length c.args.text.now - length rest ≡ length taken = omega (arith, ap length c.requires.1, length-append taken rest) in
    rw size (IsCharBoundary-at_seam c.args.text.now taken rest c.requires.1 c.utf8.rest)
