-- The right operands of operators, as the reader knows them.
use Rattle.std.specs.Prelude.{ℕ}
use Rattle.swc_ecma_parser_model.specs.Tree.{Tree}
use Rattle.swc_ecma_parser_grammar.specs.language.Goals.{Class}
use Rattle.swc_ecma_parser_reader.specs.Reader as rules
use Rattle.swc_ecma_parser_reader.specs.State.{Reader}
use Rattle.swc_ecma_parser_shared.specs.declared.operators.Operands.{Operands}
use Rattle.swc_ecma_parser_shared.specs.declared.operators.Operands.TheVariants as operands

abbrev pub right : ℕ → Operands → Class → Reader Tree
right n operands.Nested = rules.expr n
right n operands.Further = rules.right_operand n
