-- A catch and a finally that are dropped lose nothing.
use Rattle.std.proofs.Common.{ℕ}
use Rattle.swc_ecma_parser_grammar.specs.language.Items.{nested_item}
use Rattle.swc_ecma_parser_reader.specs.Reader.{stmt, pattern, handler, finalizer}
use Rattle.swc_ecma_parser_reader.proofs.Behind.{Passes}
use Rattle.swc_ecma_parser_reader.proofs.Keeps.{stmt_keeps, pattern_keeps}
use Rattle.swc_ecma_parser_reader.proofs.KeepsTry.{handler_keeps, finalizer_keeps}

pub handler_passes : (n : ℕ) → Passes (handler (stmt n nested_item) (pattern n))
handler_passes n = handler_keeps (stmt n nested_item) (stmt_keeps n nested_item) (pattern n) (pattern_keeps n)

pub finalizer_passes : (n : ℕ) → Passes (finalizer (stmt n nested_item))
finalizer_passes n = finalizer_keeps (stmt n nested_item) (stmt_keeps n nested_item)
