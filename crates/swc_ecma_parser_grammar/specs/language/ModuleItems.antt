-- Items of a module: ECMA-262, section 16.2.
use Rattle.std.specs.Prelude.{◌≡◌, Bool, false, not, ◌&&◌, ◌||◌, if◌then◌else◌, List, [], ◌∷◌}
use Rattle.swc_ecma_parser_token.specs.declared.kind.TokenKind.TheVariants as kind
use Rattle.swc_ecma_parser_input.specs.Place.{Place}
use Rattle.swc_ecma_parser_model.specs.Tree.{Tree}
use Rattle.swc_ecma_parser_model.specs.Kinds.{is_module_decl}
use Rattle.swc_ecma_parser_grammar.specs.Looks.{sees}
use Rattle.swc_ecma_parser_grammar.specs.Names.{Code}
use Rattle.swc_ecma_parser_grammar.specs.language.Goals.{Goal, item_goal}
use Rattle.swc_ecma_parser_grammar.specs.language.Contexts.{in_module}
use Rattle.swc_ecma_parser_grammar.specs.language.Items.{top_item, directed, directs_on}
use Rattle.swc_ecma_parser_grammar.specs.language.Statements.{StmtRule}
use Rattle.swc_ecma_parser_grammar.specs.language.Imports.{ImportRule}
use Rattle.swc_ecma_parser_grammar.specs.language.Exports.{ExportRule}

-- ModuleItem
pub data ItemRule (In : Goal → Type 0) (k : Code) (x : Tree) (c d : Place) : Type 0 where
  statement_rule : StmtRule In k top_item x c d → ItemRule In k x c d
  import_item_rule : ImportRule In (in_module k) x c d → ItemRule In k x c d
  export_item_rule : ExportRule In k x c d → ItemRule In k x c d

-- the code behind an item: an import or an export makes module code of all that follows it
abbrev pub behind_item : Code → Tree → Code
behind_item k x = if is_module_decl x then in_module k else k

-- a statement of its own that begins with `await`; decorators and `export` stand before no such word
abbrev pub begins_with_await : Tree → Place → Bool
begins_with_await x c = not (is_module_decl x) && sees kind.Await c

-- ModuleItemList, and whether one of its statements begins with `await`
abbrev pub ModuleItemsRule : (Goal → Type 0) → Code → (directives : Bool) → List Tree → (awaits : Bool) → Place → Place → Type 0
ModuleItemsRule In k directives [] awaits c d = (d ≡ c) × (awaits ≡ false)
ModuleItemsRule In k directives (x ∷ xs) awaits c d =
    (m : Place) × (others : Bool) × In (item_goal k x c m) × ModuleItemsRule In (behind_item (directed k directives x) x) (directs_on directives x) xs others m d
    × (awaits ≡ begins_with_await x c || others)
