use Rattle.std.proofs.Common.{◌≡◌, length, get_or, ap, sym, ◌∙◌, arith}
use Rattle.std.proofs.lemmas.Str.{IsCharBoundary-after_ascii}
use Rattle.swc_ecma_parser_lexer.proofs.plain.between.Goals as goal

pub range-requires-clause-start_boundary : goal.range-requires-clause-start_boundary
range-requires-clause-start_boundary c some =
    let text = c.args.text.now in
    let same = c.as_bytes-bytes.ensures.value in
    let first : get_or text 0 0 ≡ c.args.mark = ap (λ bs. get_or bs 0 0) (sym same) ∙ c.if-first-mark.false in
    IsCharBoundary-after_ascii text 0 c.utf8.text (omega (arith, c.if-bytes-lt2.false, ap length same)) (omega (arith, first, c.requires))
