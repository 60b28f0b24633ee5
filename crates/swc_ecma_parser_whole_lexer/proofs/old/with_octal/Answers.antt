use Rattle.std.proofs.Common.{arith}
use Rattle.swc_ecma_parser_whole_lexer.proofs.Octals.{octal-small}
use Rattle.swc_ecma_parser_whole_lexer.proofs.old.with_octal.Goals as goal

pub overflow_add-result : goal.overflow_add-result
overflow_add-result c = omega (arith, octal-small c.args.c, c.octal_value.ensures, c.if-value-lt256.true)
