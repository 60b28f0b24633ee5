-- What the language reads is supported.
use Rattle.std.specs.Prelude.{◌≡◌, ℕ, Bool, true, false, not, ◌||◌}
use Rattle.swc_ecma_parser_common.specs.declared.span.Span.{Span}
use Rattle.swc_ecma_parser_input.specs.Place.{Place}
use Rattle.swc_ecma_parser_input.specs.TokenSource.{ordered_from}
use Rattle.swc_ecma_parser_model.specs.Tree as tree
use Rattle.swc_ecma_parser_model.specs.Tree.{Tree, Trees, none, also}
use Rattle.swc_ecma_parser_grammar.specs.Names.{Code}
use Rattle.swc_ecma_parser_grammar.specs.language.Goals.{Goal, expr_goal, callee_goal, pattern_goal, element_goal, stmt_goal, member_goal, decorator_goal, using_goal, attributes_goal, item_goal}
use Rattle.swc_ecma_parser_grammar.specs.language.Programs as programs
use Rattle.swc_ecma_parser_grammar.specs.language.Programs.{Entry, EntryRule, entry_code, ModuleRule}
use Rattle.swc_ecma_parser_grammar.specs.language.Reads.{Reads}
use Rattle.swc_ecma_parser_grammar.specs.scaffold.Supported.{supported}
use Rattle.swc_ecma_parser_module_reader.specs.Supported.{on_one_side, supported_item, supported_module, supported_program, is_led}

abbrev pub Whole : Tree → Type 0
Whole x = supported x ≡ true

-- tokens one behind another from a position on, which they are if each was spelled in its place
abbrev pub Ordered : ℕ → Place → Type 0
Ordered at c = ordered_from at c.left ≡ true

-- ---- exports of which the order of the tokens says where their decorators stand

-- whether decorators stand on both sides of a place, which they do not in tokens in order
abbrev pub is_astride : Span → Tree → Bool
is_astride s (tree.list ds) = not (on_one_side s ds)
is_astride s _ = false

abbrev pub has_astride : Span → Tree → Bool
has_astride s (tree.class t decorators body base) = is_astride s decorators
has_astride s (tree.function t decorators params body is_async is_generator) = is_astride s decorators
has_astride s _ = false

-- an export with decorators on both sides of its first word
abbrev pub is_split : Tree → Bool
is_split (tree.export_decl s (tree.class_decl name x)) = has_astride s x
is_split (tree.export_decl s (tree.fn_decl name x)) = has_astride s x
is_split (tree.export_default_decl s (tree.fn_expr t name x)) = has_astride s x
is_split (tree.export_default_decl s (tree.class_expr t name x)) = has_astride s x
is_split _ = false

-- an export that begins behind decorators, or has some on both sides
abbrev pub needs_order : Tree → Bool
needs_order x = is_led x || is_split x

abbrev pub any_needs_order : Trees → Bool
any_needs_order none = false
any_needs_order (also t ts) = needs_order t || any_needs_order ts

abbrev pub needs_order_in : Tree → Bool
needs_order_in (tree.script s (tree.list ts) shebang) = any_needs_order ts
needs_order_in (tree.module_program s (tree.list ts) shebang) = any_needs_order ts
needs_order_in _ = false

-- ---- what is supported

-- What a goal asks for; an export of which it must be known where its decorators stand, where the tokens are in order.
abbrev pub WholeGoal : Goal → Type 0
WholeGoal (expr_goal class k x c d) = Whole x
WholeGoal (callee_goal k x c d) = Whole x
WholeGoal (pattern_goal p k x c d) = Whole x
WholeGoal (element_goal p k x c d) = Whole x
WholeGoal (stmt_goal k at x c d) = Whole x
WholeGoal (member_goal k x c d) = Whole x
WholeGoal (decorator_goal k x c d) = Whole x
WholeGoal (using_goal k x c d) = Whole x
WholeGoal (attributes_goal k x c d) = Whole x
WholeGoal (item_goal k x c d) = (from : ℕ) → (needs_order x ≡ true → Ordered from c) → supported_item x ≡ true

-- whatever the whole language reads
abbrev pub ReadIsSupported : Type 0
ReadIsSupported = (n : ℕ) (g : Goal) → Reads n g → WholeGoal g

-- ---- entries

-- what is supported of the answer of an entry
abbrev pub supported_entry : Entry → Tree → Bool
supported_entry programs.script x = supported x
supported_entry programs.«module» x = supported_module x
supported_entry programs.program x = supported_program x
supported_entry programs.module_item x = supported_item x
supported_entry (programs.stmt top_level) x = supported x
supported_entry (programs.stmt_list_item top_level) x = supported x

-- whether it is an export of which the order says where its decorators stand, or holds one
abbrev pub ordered_entry : Entry → Tree → Bool
ordered_entry programs.«module» x = needs_order_in x
ordered_entry programs.program x = needs_order_in x
ordered_entry programs.module_item x = needs_order x
ordered_entry _ x = false

-- whatever any entry reads of tokens, which are in order where an export asks for it
abbrev pub ReadEntryIsSupported : Type 0
ReadEntryIsSupported = (n : ℕ) (entry : Entry) (k : Code) (x : Tree) (c d : Place) (from : ℕ) → (ordered_entry entry x ≡ true → Ordered from c)
    → EntryRule (Reads n) entry (entry_code entry k) x c d → supported_entry entry x ≡ true

-- a program that is a module for certain, where something had made it one before, or not
abbrev pub ReadProgramIsSupported : Type 0
ReadProgramIsSupported = (n : ℕ) (is_certain : Bool) (k : Code) (x : Tree) (c d : Place) (from : ℕ) → (needs_order_in x ≡ true → Ordered from c)
    → ModuleRule (Reads n) is_certain k x c d → supported_program x ≡ true
