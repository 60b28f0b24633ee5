use Rattle.std.proofs.Common.{arith}
use Rattle.swc_ecma_parser_scan.proofs.Bytes.{is_space-ascii}
use Rattle.swc_ecma_parser_scan.proofs.chars.is_space.Goals as goal

pub returns-then-c-lt128 : goal.returns-then-c-lt128
returns-then-c-lt128 c = is_space-ascii c.args.c (omega arith)
