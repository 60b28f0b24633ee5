-- The reader of programs, which turn out to be scripts or modules: ECMA-262, sections 16.1 and 16.2.
use Rattle.std.specs.Prelude.{ℕ, zero, suc, Bool, true, not, ◌&&◌, ◌||◌, if◌then◌else◌, List, [], ◌∷◌, ◌++◌, Option, Ok}
use Rattle.swc_ecma_parser_error.specs.Kind.{Fault}
use Rattle.swc_ecma_parser_token.specs.declared.kind.TokenKind.TheVariants as kind
use Rattle.swc_ecma_parser_input.specs.Place.{Place}
use Rattle.swc_ecma_parser_model.specs.Tree as tree
use Rattle.swc_ecma_parser_model.specs.Tree.{Tree, Text, listed}
use Rattle.swc_ecma_parser_grammar.specs.Looks.{sees}
use Rattle.swc_ecma_parser_grammar.specs.Names.{Code}
use Rattle.swc_ecma_parser_grammar.specs.language.Items.{directed, top_item}
use Rattle.swc_ecma_parser_grammar.specs.language.Programs.{entry_code, program, code_behind}
use Rattle.swc_ecma_parser_reader.specs.Reader.{items, at_end, whole_stmt, shebang, directs, items_turn, plain_stmt}
use Rattle.swc_ecma_parser_reader.specs.State.{State, Reader, ◌>>=◌, ◌>>◌, pure, here, whole_from, coded, flagged, too_deep, Step, More, Done, loop}
use Rattle.swc_ecma_parser_module_reader.specs.Modules.{begins_import, module_code, module_item, item_behind}
use Rattle.swc_ecma_parser_reader.specs.DecoratedStatements.{stmt_behind}
use Rattle.swc_ecma_parser_reader.specs.DecoratorLevels.{decorated_in}
use Rattle.swc_ecma_parser_reader.specs.Decorators.{Leading, leading, has_any}
use Rattle.swc_ecma_parser_module_reader.specs.Decorated.{begins_decorators, no_leading}

-- an import or an export stands there, from which on the code is a module's
unfoldable pub begins_module : Place → Bool
begins_module c = begins_import c || sees kind.Export c

-- where the statements before one end
unfoldable pub before_module : Place → Bool
before_module c = at_end c || begins_module c

-- the code of a program
abbrev pub program_code : Code → Code
program_code k = entry_code program k

-- module code begins, and what was held back is recorded, as these faults
abbrev pub entered : List Fault → State → State
entered recorded s = record s { code = module_code s.code; faults = s.faults ++ recorded; notes = record s.notes { held_back = [] } }

abbrev pub enter : List Fault → Reader (Unit {0})
enter recorded = λ s. Ok (tt, entered recorded s)

-- ---- the statements before the first import or export

-- these, and decorators behind them before the import or the export, if any stand there
pub record Front : Type 0 where
  pub before : List Tree
  pub list : Leading

-- one statement more
abbrev pub front_item : List Tree → Tree → Reader (Step (List Tree) Front)
front_item found x = λ s. Ok (More (found ++ x ∷ []), coded (directed s.code (directs true found) x) s)

-- behind decorators a statement goes on, or an import or an export ends them
unfoldable pub front_behind : ℕ → List Tree → Leading → Reader (Step (List Tree) Front)
front_behind n found v = λ s.
    if begins_module s.at then Ok (Done (record { before = found; list = v }), s) else (stmt_behind (plain_stmt n) top_item v >>= front_item found) s

unfoldable pub front_decorated : ℕ → List Tree → Reader (Step (List Tree) Front)
front_decorated zero found = too_deep
front_decorated (suc n) found = leading (decorated_in n) >>= front_behind n found

unfoldable pub front_turn : ℕ → List Tree → Reader (Step (List Tree) Front)
front_turn n found = λ s.
    if before_module s.at then Ok (Done (record { before = found; list = no_leading s }), s)
    else if begins_decorators s.code s.at then front_decorated n found s
    else (whole_stmt n top_item >>= front_item found) s

unfoldable pub front : ℕ → Reader Front
front n = loop (front_turn n) []

-- ---- the items from there on

-- the import or the export behind decorators
unfoldable pub first_behind : ℕ → Leading → Reader Tree
first_behind zero v = too_deep
first_behind (suc n) v = item_behind n v

unfoldable pub behind_front : ℕ → Leading → Reader (List Tree)
behind_front n v = λ s.
    if has_any v.found then (first_behind n v >>= λ x. loop (items_turn (module_item n) at_end true) (x ∷ [])) s else items (module_item n) at_end true s

-- items of a module behind these statements
abbrev pub items_from : ℕ → Front → Reader (List Tree)
items_from n w = do
  behind ← behind_front n w.list
  pure (w.before ++ behind)

-- ---- a program, and what was held back where module code began; nothing in a script

unfoldable pub as_script : Place → List Tree → Option Text → Reader (Tree × List Fault)
as_script start body first = do
  span ← whole_from start
  pure (tree.script span (listed body) first, [])

unfoldable pub as_module : ℕ → List Fault → Place → Front → Option Text → Reader (Tree × List Fault)
as_module n recorded start w first = λ s. (do
  enter recorded
  behind ← behind_front n w.list
  span ← whole_from start
  pure (tree.module_program span (listed (w.before ++ behind)) first, s.notes.held_back)) s

-- Statements up to an import, an export or the end; a script where the end comes first and nothing was read that makes it a module.
unfoldable pub program_body : ℕ → List Fault → Reader (Tree × List Fault)
program_body n recorded = do
  start ← here
  first ← shebang
  w ← front n
  λ s. if at_end s.at && not s.notes.found_module_item then as_script start w.before first s else as_module n recorded start w first s

unfoldable pub program_whole : ℕ → List Fault → Reader (Tree × List Fault)
program_whole n recorded = λ s. (do
  p ← program_body n recorded
  λ t. Ok (p, flagged (code_behind program s.code p.0) t)) (coded (program_code s.code) s)
