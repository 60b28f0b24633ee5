use Rattle.std.proofs.Common.{◌||◌, ◌==◌, ap, ◌∙◌, arith}
use Rattle.swc_ecma_parser_scan.proofs.Bytes.{is_name_start-ascii}
use Rattle.swc_ecma_parser_scan.proofs.chars.is_name_start.Goals as goal

pub returns-then-c-lt128 : goal.returns-then-c-lt128
returns-then-c-lt128 c =
    ap (λ x. (c.args.c == 36) || (c.args.c == 95) || x) c.is_ascii_alphabetic.ensures.value ∙ is_name_start-ascii c.args.c (omega arith)
