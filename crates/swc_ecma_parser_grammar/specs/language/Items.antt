-- Statements one behind another, with directives or without, and in braces: ECMA-262, sections 14.2 and 11.2.1.
use Rattle.std.specs.Prelude.{◌≡◌, Bool, true, false, ◌&&◌, if◌then◌else◌, List, [], ◌∷◌}
use Rattle.swc_ecma_parser_token.specs.declared.kind.TokenKind.TheVariants as kind
use Rattle.swc_ecma_parser_input.specs.Place.{Place, after}
use Rattle.swc_ecma_parser_model.specs.Tree as tree
use Rattle.swc_ecma_parser_model.specs.Tree.{Tree, listed}
use Rattle.swc_ecma_parser_model.specs.Directive.{is_string_statement, is_use_strict}
use Rattle.swc_ecma_parser_grammar.specs.declared.position.Position.{Position}
use Rattle.swc_ecma_parser_grammar.specs.Looks.{kind_at, sees, spanned}
use Rattle.swc_ecma_parser_grammar.specs.Names.{Code}
use Rattle.swc_ecma_parser_grammar.specs.language.Goals.{Goal, stmt_goal}
use Rattle.swc_ecma_parser_grammar.specs.language.Contexts.{in_strict}

-- ---- where a statement stands

-- an item of a script or a module
abbrev pub top_item : Position
top_item = record { include_decl = true; top_level = true }

-- an item of a block or of a body: StatementListItem
abbrev pub nested_item : Position
nested_item = record { include_decl = true; top_level = false }

-- a part of another statement, which is no declaration: Statement
abbrev pub sub_statement : Position
sub_statement = record { include_decl = false; top_level = false }

-- What stands behind a label: LabelledItem, section 14.13. A function that begins with its word is a declaration there.
abbrev pub labelled_item : Place → Position
labelled_item c = record { include_decl = sees kind.Function c; top_level = false }

-- ---- directives

-- In a body with directives, what stands behind each directive that says so is strict.
abbrev pub directed : Code → Bool → Tree → Code
directed k directives x = if directives && is_use_strict x then in_strict k else k

-- Whether what stands behind an item can be a directive still: the strings that stand first in a body are its directives.
abbrev pub directs_on : Bool → Tree → Bool
directs_on directives x = directives && is_string_statement x

-- ---- StatementList, section 14.2

-- each in the code that those before it leave
abbrev pub ItemsRule : (Goal → Type 0) → Code → Bool → Position → List Tree → Place → Place → Type 0
ItemsRule In k directives at [] c d = d ≡ c
ItemsRule In k directives at (x ∷ xs) c d = (m : Place) × In (stmt_goal k at x c m) × ItemsRule In (directed k directives x) (directs_on directives x) at xs m d

-- Block of section 14.2, and the body of a function: what stands in it is one level further in than what the braces belong to.
pub record BlockRule (In : Goal → Type 0) (k : Code) (directives : Bool) (x : Tree) (c d : Place) : Type 0 where
  pub items : List Tree
  pub close : Place
  pub opens : kind_at c ≡ kind.LBrace
  pub reads_items : ItemsRule In k directives nested_item items (after c) close
  pub closes : kind_at close ≡ kind.RBrace
  pub next : d ≡ after close
  pub is : x ≡ tree.block (spanned c d) (listed items)
