use Rattle.std.proofs.Common.{length, ap, arith}
use Rattle.std.proofs.lemmas.Option.{IfSome_then}
use Rattle.swc_ecma_parser_scan.proofs.Lone.{at-text}
use Rattle.swc_ecma_parser_scan.proofs.piece.mark_at.Goals as goal

pub returns-else-bytes-eq0 : goal.returns-else-bytes-eq0
returns-else-bytes-eq0 c =
    let text = c.args.behind.now in
    IfSome_then c.mark_before.result c.mark_before.ensures
    (λ s h. at-text c.args.c text s c.utf8.behind (omega (arith, c.if-bytes-eq0.false, ap length c.as_bytes-bytes.ensures.value)) (rw c.as_bytes-bytes.ensures.value at h))
