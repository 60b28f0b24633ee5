-- What a list of tokens spells, by what is asked of it: ECMA-262, sections 16.1 and 16.2.
use Rattle.std.specs.Prelude.{◌≡◌, ℕ, Bool, true, false, ◌||◌, if◌then◌else◌, List, [], ◌∷◌, Option, Some, None}
use Rattle.std.specs.List.{list_any}
use Rattle.swc_ecma_parser_common.specs.declared.span.Span.{Span}
use Rattle.swc_ecma_parser_token.specs.declared.kind.TokenKind.TheVariants as kind
use Rattle.swc_ecma_parser_token.specs.declared.token.Token.TheVariants as token
use Rattle.swc_ecma_parser_input.specs.Place.{Place}
use Rattle.swc_ecma_parser_model.specs.Tree as tree
use Rattle.swc_ecma_parser_model.specs.Tree.{Tree, Text, listed}
use Rattle.swc_ecma_parser_model.specs.Kinds.{is_module_decl}
use Rattle.swc_ecma_parser_grammar.specs.declared.position.Position.{Position}
use Rattle.swc_ecma_parser_grammar.specs.Looks.{kind_at, sees, whole_span}
use Rattle.swc_ecma_parser_grammar.specs.Names.{Code}
use Rattle.swc_ecma_parser_grammar.specs.Notes.{notes}
use Rattle.swc_ecma_parser_grammar.specs.Walk.{walk, env_of}
use Rattle.swc_ecma_parser_grammar.specs.language.Parts.{ReadsToken}
use Rattle.swc_ecma_parser_grammar.specs.language.Goals.{Goal, stmt_goal, item_goal}
use Rattle.swc_ecma_parser_grammar.specs.language.Items.{top_item, directed, directs_on, ItemsRule}
use Rattle.swc_ecma_parser_grammar.specs.language.ModuleItems.{ModuleItemsRule, behind_item}
use Rattle.swc_ecma_parser_grammar.specs.language.Noted.{has_meta}
use Rattle.swc_ecma_parser_grammar.specs.language.Reads.{Reads}

-- what can be asked for: a whole, which takes the whole list, or one item, behind which anything may stand
pub data Entry : Type 0 where
  script : Entry
  «module» : Entry
  -- a module or a script, whichever it turns out to be
  program : Entry
  module_item : Entry
  -- a statement, and one that may be a declaration; at the top level or not
  stmt : (top_level : Bool) → Entry
  stmt_list_item : (top_level : Bool) → Entry

-- the code that it is read as
abbrev pub entry_code : Entry → Code → Code
entry_code script k = record k { flags = record k.flags { «module» = false } }
entry_code «module» k = record k { flags = record k.flags { «module» = true; can_be_module = true; strict = true } }
entry_code program k = record k { flags = record k.flags { can_be_module = true } }
entry_code _ k = k

-- ---- wholes

-- a first line that begins with `#!`: section 12.5
pub data ShebangRule (c d : Place) : Option Text → Type 0 where
  some_shebang : (text : Text) (s : Span) → ReadsToken (token.Shebang text) s c d → ShebangRule c d (Some text)
  no_shebang : sees kind.Shebang c ≡ false → d ≡ c → ShebangRule c d None

pub record ScriptRule (In : Goal → Type 0) (k : Code) (x : Tree) (c d : Place) : Type 0 where
  pub shebang : Option Text
  pub first : Place
  pub items : List Tree
  pub reads_shebang : ShebangRule c first shebang
  pub reads_items : ItemsRule In k true top_item items first d
  pub to_the_end : kind_at d ≡ kind.End
  pub is : x ≡ tree.script (whole_span c d) (listed items) shebang

-- A program is a module where an import or an export stands in it, where a statement of its own begins with `await`, and where
-- `import.meta` stands in it outside the bodies of functions.
abbrev pub is_module_body : List Tree → (awaits : Bool) → Bool
is_module_body items awaits = list_any is_module_decl items || (awaits || list_any has_meta items)

abbrev pub whole : (is_module : Bool) → Span → (body : Tree) → Option Text → Tree
whole true = tree.module_program
whole false = tree.script

-- a whole that is a module for certain, or that turns out to be one
pub record ModuleRule (In : Goal → Type 0) (is_certain : Bool) (k : Code) (x : Tree) (c d : Place) : Type 0 where
  pub shebang : Option Text
  pub first : Place
  pub items : List Tree
  pub awaits : Bool
  pub reads_shebang : ShebangRule c first shebang
  pub reads_items : ModuleItemsRule In k true items awaits first d
  pub to_the_end : kind_at d ≡ kind.End
  pub is : x ≡ whole (is_certain || is_module_body items awaits) (whole_span c d) (listed items) shebang

-- ---- entries

abbrev pub at_top : (include_decl top_level : Bool) → Position
at_top include_decl top_level = record { include_decl = include_decl; top_level = top_level }

abbrev pub EntryRule : (Goal → Type 0) → Entry → Code → Tree → Place → Place → Type 0
EntryRule In script k x c d = ScriptRule In k x c d
EntryRule In «module» k x c d = ModuleRule In true k x c d
EntryRule In program k x c d = ModuleRule In false k x c d
EntryRule In module_item k x c d = In (item_goal k x c d)
EntryRule In (stmt top_level) k x c d = In (stmt_goal k (at_top false top_level) x c d)
EntryRule In (stmt_list_item top_level) k x c d = In (stmt_goal k (at_top true top_level) x c d)

abbrev pub is_module_program : Tree → Bool
is_module_program (tree.module_program s body shebang) = true
is_module_program _ = false

-- whether it was read as module code, or turned out to be a module
abbrev pub is_module_code : Code → Tree → Bool
is_module_code k x = (behind_item k x).flags.«module» || is_module_program x

-- within so many levels; no `with` and no bare name `interface` is a statement of module code
abbrev pub ReadsEntry : ℕ → Entry → Code → Tree → Place → Place → Type 0
ReadsEntry n entry k x c d = EntryRule (Reads n) entry (entry_code entry k) x c d × (is_module_code (entry_code entry k) x ≡ true → notes x ≡ [])

-- whether one of the statements of a list begins with `await`, which is told by the tokens
abbrev pub items_await : (In : Goal → Type 0) (k : Code) (directives : Bool) (at : Position) (xs : List Tree) (c d : Place) → ItemsRule In k directives at xs c d → Bool
items_await In k directives at [] c d r = false
items_await In k directives at (x ∷ xs) c d (m, r, rs) = sees kind.Await c || items_await In (directed k directives x) (directs_on directives x) at xs m d rs

-- whether one of its own statements makes a module of what is read as a script: in what may be a module's code alone
abbrev pub script_awaits : (n : ℕ) (k : Code) (x : Tree) (c d : Place) → ReadsEntry n script k x c d → Bool
script_awaits n k x c d r = items_await (Reads n) (entry_code script k) true top_item r.0.items r.0.first d r.0.reads_items

-- it is read, and the walk finds nothing, with these labels around
abbrev pub Spells : ℕ → Entry → Code → (labels : List Text) → Tree → Place → Place → Type 0
Spells n entry k labels x c d = ReadsEntry n entry k x c d × (walk (env_of (entry_code entry k) labels) x ≡ [])

-- the code behind what an entry answers: a module leaves module code behind it
abbrev pub code_behind : Entry → Code → Tree → Code
code_behind script k x = entry_code script k
code_behind «module» k x = entry_code «module» k
code_behind program k x = if is_module_program x then entry_code «module» k else k
code_behind _ k x = behind_item k x
