use Rattle.std.proofs.Common.{◌≡◌, drop}
use Rattle.swc_ecma_parser_lexer.specs.Plain as plain
use Rattle.swc_ecma_parser_lexer.proofs.plain.is_plain.Given as goal

abbrev pub invariant-loop-byte : goal.invariant-loop-byte
invariant-loop-byte l = plain.is_plain l.quote l.bytes ≡ plain.is_plain l.quote (drop l.byte-index l.bytes)
