-- The reader of modules: ECMA-262, section 16.2.
use Rattle.std.specs.Prelude.{ℕ, zero, suc, Bool, true, not, ◌&&◌, if◌then◌else◌, Ok}
use Rattle.swc_ecma_parser_token.specs.declared.kind.TokenKind.TheVariants as kind
use Rattle.swc_ecma_parser_input.specs.Place.{Place}
use Rattle.swc_ecma_parser_model.specs.Tree as tree
use Rattle.swc_ecma_parser_model.specs.Tree.{Tree, listed}
use Rattle.swc_ecma_parser_grammar.specs.Looks.{sees}
use Rattle.swc_ecma_parser_grammar.specs.Names.{Code}
use Rattle.swc_ecma_parser_grammar.specs.Follows.{begins_import_expression}
use Rattle.swc_ecma_parser_grammar.specs.language.Items.{nested_item, top_item}
use Rattle.swc_ecma_parser_grammar.specs.language.Programs.{entry_code, «module»}
use Rattle.swc_ecma_parser_reader.specs.DecoratedStatements.{stmt_behind}
use Rattle.swc_ecma_parser_reader.specs.DecoratorLevels.{decorated_in}
use Rattle.swc_ecma_parser_reader.specs.Decorators.{Leading, leading, misplaced}
use Rattle.swc_ecma_parser_reader.specs.Reader.{expr, pattern, member, stmt, parameters, object_alone, items, at_end, whole_stmt, shebang, plain_stmt}
use Rattle.swc_ecma_parser_reader.specs.State.{Reader, ◌>>=◌, pure, here, whole_from, coded, flagged, too_deep, ◌>>◌}
use Rattle.swc_ecma_parser_module_reader.specs.Imports.{import_decl}
use Rattle.swc_ecma_parser_module_reader.specs.Decorated.{begins_decorators, export_item, export_with}

-- `import` that begins no expression
unfoldable pub begins_import : Place → Bool
begins_import c = sees kind.Import c && not (begins_import_expression c)

unfoldable pub import_in : ℕ → Reader Tree
import_in zero = too_deep
import_in (suc n) = import_decl (object_alone n)

unfoldable pub export_in : ℕ → Reader Tree
export_in zero = too_deep
export_in (suc n) = export_item (stmt n nested_item) (expr n) (pattern n) (parameters n) (member n) (object_alone n) (decorated_in n)

-- An item behind decorators that were read before it is known what they belong to: before an import they are dropped, an export may
-- have them, and a statement has them as anywhere.
abbrev pub import_behind : ℕ → Leading → Reader Tree
import_behind n v = misplaced v >> import_decl (object_alone n)

abbrev pub export_behind : ℕ → Leading → Reader Tree
export_behind n v = export_with (stmt n nested_item) (expr n) (pattern n) (parameters n) (member n) (object_alone n) (decorated_in n) v

unfoldable pub item_behind : ℕ → Leading → Reader Tree
item_behind n v = λ s.
    if begins_import s.at then import_behind n v s
    else if sees kind.Export s.at then export_behind n v s
    else stmt_behind (plain_stmt n) top_item v s

unfoldable pub decorated_item : ℕ → Reader Tree
decorated_item zero = too_deep
decorated_item (suc n) = leading (decorated_in n) >>= item_behind n

-- an item of a module, in so many levels: an import, an export or a statement, with decorators before it or without
unfoldable pub module_item : ℕ → Reader Tree
module_item n = λ s.
    if begins_import s.at then import_in n s
    else if sees kind.Export s.at then export_in n s
    else if begins_decorators s.code s.at then decorated_item n s
    else whole_stmt n top_item s

-- ---- a module

-- the code of a module
abbrev pub module_code : Code → Code
module_code k = entry_code «module» k

unfoldable pub module_body : ℕ → Reader Tree
module_body n = do
  start ← here
  first ← shebang
  body ← items (module_item n) at_end true
  span ← whole_from start
  pure (tree.module_program span (listed body) first)

unfoldable pub module_whole : ℕ → Reader Tree
module_whole n = λ s. (do
  x ← module_body n
  λ t. Ok (x, flagged (module_code s.code) t)) (coded (module_code s.code) s)
