-- One turn of the loop over the statements of a program, alone: a statement, or the decorators of an import or export.
use Rattle.std.specs.Prelude.{ℕ, zero, suc, if◌then◌else◌, Ok}
use Rattle.swc_ecma_parser_model.specs.Tree.{Tree}
use Rattle.swc_ecma_parser_grammar.specs.language.Items.{top_item}
use Rattle.swc_ecma_parser_reader.specs.DecoratedStatements.{stmt_behind}
use Rattle.swc_ecma_parser_reader.specs.DecoratorLevels.{decorated_in}
use Rattle.swc_ecma_parser_reader.specs.Decorators.{Leading, leading}
use Rattle.swc_ecma_parser_reader.specs.Reader.{whole_stmt, plain_stmt}
use Rattle.swc_ecma_parser_reader.specs.State.{Reader, ◌>>=◌, pure, too_deep}
use Rattle.swc_ecma_parser_module_reader.specs.Decorated.{begins_decorators}
use Rattle.swc_ecma_parser_module_reader.specs.Programs.{begins_module}

pub data Turn : Type 0 where
  Statement : Tree → Turn
  Word : Leading → Turn

abbrev pub as_statement : Tree → Reader Turn
as_statement x = pure (Statement x)

unfoldable pub behind_list : ℕ → Leading → Reader Turn
behind_list n v = λ s. if begins_module s.at then Ok (Word v, s) else (stmt_behind (plain_stmt n) top_item v >>= as_statement) s

unfoldable pub decorated_turn : ℕ → Reader Turn
decorated_turn zero = too_deep
decorated_turn (suc n) = leading (decorated_in n) >>= behind_list n

unfoldable pub turn : ℕ → Reader Turn
turn n = λ s. if begins_decorators s.code s.at then decorated_turn n s else (whole_stmt n top_item >>= as_statement) s
