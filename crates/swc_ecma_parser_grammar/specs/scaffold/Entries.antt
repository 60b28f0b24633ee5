-- Scripts in the small relation: ECMA-262, section 16.1.
use Rattle.std.specs.Prelude.{◌≡◌, ℕ, Bool, true, false, ◌||◌, List, [], ◌∷◌, Option, Some, None}
use Rattle.swc_ecma_parser_common.specs.declared.span.Span.{Span}
use Rattle.swc_ecma_parser_token.specs.declared.kind.TokenKind.TheVariants as kind
use Rattle.swc_ecma_parser_token.specs.declared.token.Token.TheVariants as token
use Rattle.swc_ecma_parser_input.specs.Place.{Place}
use Rattle.swc_ecma_parser_model.specs.Tree as tree
use Rattle.swc_ecma_parser_model.specs.Tree.{Tree, Text, listed}
use Rattle.swc_ecma_parser_grammar.specs.Looks.{kind_at, sees, whole_span}
use Rattle.swc_ecma_parser_grammar.specs.Names.{Code}
use Rattle.swc_ecma_parser_grammar.specs.scaffold.Reads.{ReadsItems}
use Rattle.swc_ecma_parser_grammar.specs.language.Contexts.{script_code}
use Rattle.swc_ecma_parser_grammar.specs.language.Items.{directed, directs_on, top_item}
use Rattle.swc_ecma_parser_grammar.specs.language.Parts.{ReadsToken}
use Rattle.swc_ecma_parser_grammar.specs.scaffold.ReadsSupported.{ReadsTop}

-- a first line that begins with `#!`: section 12.5
pub data ReadsShebang (c d : Place) : Option Text → Type 0 where
  some_shebang : (text : Text) (s : Span) → ReadsToken (token.Shebang text) s c d → ReadsShebang c d (Some text)
  no_shebang : sees kind.Shebang c ≡ false → d ≡ c → ReadsShebang c d None

-- whether one of the statements begins with `await`
abbrev pub small_items_await : (Item : Code → Tree → Place → Place → Type 0) (k : Code) (directives : Bool) (xs : List Tree) (c d : Place) → ReadsItems Item k directives xs c d → Bool
small_items_await Item k directives [] c d r = false
small_items_await Item k directives (x ∷ xs) c d (m, r, rs) = sees kind.Await c || small_items_await Item (directed k directives x) (directs_on directives x) xs m d rs

-- a script within so many levels, which takes the whole list
pub record ReadsScript (n : ℕ) (k : Code) (x : Tree) (c d : Place) : Type 0 where
  pub shebang : Option Text
  pub first : Place
  pub reads_shebang : ReadsShebang c first shebang
  pub items : List Tree
  pub reads_items : ReadsItems (λ j. ReadsTop n j top_item) (script_code k) true items first d
  pub whole : kind_at d ≡ kind.End
  pub is : x ≡ tree.script (whole_span c d) (listed items) shebang

-- whether one of its own statements begins with `await`
abbrev pub small_script_awaits : (n : ℕ) (k : Code) (x : Tree) (c d : Place) → ReadsScript n k x c d → Bool
small_script_awaits n k x c d r = small_items_await (λ j. ReadsTop n j top_item) (script_code k) true r.items r.first d r.reads_items
