-- What stands before module code begins, and one turn of its loop, as the reader has them.
use Rattle.std.specs.Prelude.{map}
use Rattle.swc_ecma_parser_model.specs.Tree.{Tree}
use Rattle.swc_ecma_parser_members.specs.Leading.{leading_of}
use Rattle.swc_ecma_parser_module_reader.specs.Programs as reader
use Rattle.swc_ecma_parser_module_reader.specs.Turns.{Turn, Statement, Word}
use Rattle.swc_ecma_parser_module_items.specs.declared.programs.Front.{Front}
use Rattle.swc_ecma_parser_module_items.specs.declared.programs.Led.{Led}
use Rattle.swc_ecma_parser_module_items.specs.declared.programs.Led.TheVariants as led

abbrev pub front_of : {S D : Type 0} → (S → Tree) → (D → Tree) → Front S D → reader.Front
front_of stmt decorator w = record { before = map stmt w.before.items; list = leading_of decorator w.list }

abbrev pub turn_of : {S D : Type 0} → (S → Tree) → (D → Tree) → Led S D → Turn
turn_of stmt decorator (led.Statement x) = Statement (stmt x)
turn_of stmt decorator (led.Word v) = Word (leading_of decorator v)
