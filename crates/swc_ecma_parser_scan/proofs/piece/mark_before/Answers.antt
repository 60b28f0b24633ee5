use Rattle.std.proofs.Common.{arith}
use Rattle.swc_ecma_parser_scan.proofs.Lone.{dot-before}
use Rattle.swc_ecma_parser_scan.proofs.piece.mark_before.Goals as goal

pub returns-then-next-lt128 : goal.returns-then-next-lt128
returns-then-next-lt128 c = record {
  ascii = omega arith;
  alone = λ cs. rw c.if-c-eq46.true (dot-before c.args.next (omega arith) cs);
}

pub returns-then-next-eq32 : goal.returns-then-next-eq32
returns-then-next-eq32 c = rw c.if-next-eq32.true c.operator.ensures
