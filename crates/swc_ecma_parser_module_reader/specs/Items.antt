-- The reader of one item of a module by itself, behind which anything may stand: ECMA-262, section 16.2.
use Rattle.std.specs.Prelude.{ℕ, zero, suc, List, [], ◌++◌, if◌then◌else◌}
use Rattle.swc_ecma_parser_error.specs.Kind.{Fault}
use Rattle.swc_ecma_parser_model.specs.Tree.{Tree}
use Rattle.swc_ecma_parser_grammar.specs.language.Contexts.{in_module}
use Rattle.swc_ecma_parser_reader.specs.DecoratorLevels.{decorated_in}
use Rattle.swc_ecma_parser_reader.specs.Decorators.{leading}
use Rattle.swc_ecma_parser_reader.specs.State.{State, Reader, ◌>>=◌, pure, too_deep}
use Rattle.swc_ecma_parser_module_reader.specs.Decorated.{begins_decorators}
use Rattle.swc_ecma_parser_module_reader.specs.Modules.{item_behind, module_item}
use Rattle.swc_ecma_parser_module_reader.specs.Programs.{begins_module}

-- the code becomes a module's, and what was held back is recorded, as these faults
abbrev pub turned : List Fault → State → State
turned recorded s = record s { code = in_module s.code; faults = s.faults ++ recorded; notes = record s.notes { held_back = [] } }

-- as an item begins: an import and an export make module code of what they are part of and of what follows, a statement does not
unfoldable pub begun_item : List Fault → State → State
begun_item recorded s = if begins_module s.at then turned recorded s else s

-- what had been held back where an import or an export begins, which records it
abbrev pub held_at : State → List Fault
held_at s = if begins_module s.at then s.notes.held_back else []

unfoldable pub begun : List Fault → Reader Tree → Reader (Tree × List Fault)
begun recorded p = λ s. (do
  x ← p
  pure (x, held_at s)) (begun_item recorded s)

-- decorators before it are read as the code around
unfoldable pub decorated_alone : ℕ → List Fault → Reader (Tree × List Fault)
decorated_alone zero recorded = too_deep
decorated_alone (suc n) recorded = leading (decorated_in n) >>= λ v. begun recorded (item_behind n v)

-- an item, and what it records of what had been held back; nothing of a statement
unfoldable pub item_whole : ℕ → List Fault → Reader (Tree × List Fault)
item_whole n recorded = λ s. if begins_decorators s.code s.at then decorated_alone n recorded s else begun recorded (module_item n) s
