-- What the texts of statements and items have in common, beside `Spelling`: look-aheads, wholes, and the statements that stand in
-- most of them.
use Rattle.std.proofs.Common.{◌≡◌, ℕ, Bool, true, false, not, ◌&&◌, ◌||◌, List, [], None, refl}
use Rattle.swc_ecma_parser_common.specs.declared.span.Span.{Span}
use Rattle.swc_ecma_parser_token.specs.declared.kind.TokenKind.TheVariants as kind
use Rattle.swc_ecma_parser_token.specs.declared.token.Token.TheVariants as token
use Rattle.swc_ecma_parser_token.specs.declared.token.Word.{Word}
use Rattle.swc_ecma_parser_token.specs.declared.token.TokenAndSpan.{TokenAndSpan}
use Rattle.swc_ecma_parser_token.specs.Text.{word_text}
use Rattle.swc_ecma_parser_input.specs.Place.{Place}
use Rattle.swc_ecma_parser_model.specs.Tree as tree
use Rattle.swc_ecma_parser_model.specs.Tree.{Tree, Text, listed}
use Rattle.swc_ecma_parser_grammar.specs.Looks.{kind_at, sees, whole_span}
use Rattle.swc_ecma_parser_grammar.specs.Names.{Code}
use Rattle.swc_ecma_parser_grammar.specs.Ends.{ends_at}
use Rattle.swc_ecma_parser_grammar.specs.Follows.{is_let_declaration, may_begin_expression_statement, begins_import_expression}
use Rattle.swc_ecma_parser_grammar.specs.Walk.{walk, env_of}
use Rattle.swc_ecma_parser_grammar.specs.language.Goals.{Goal}
use Rattle.swc_ecma_parser_grammar.specs.language.Items.{top_item, ItemsRule}
use Rattle.swc_ecma_parser_grammar.specs.language.Declarations.{is_using_declaration}
use Rattle.swc_ecma_parser_grammar.specs.Follows.{is_async_of}
use Rattle.swc_ecma_parser_grammar.specs.Follows.{may_begin_head}
use Rattle.swc_ecma_parser_grammar.specs.language.Statements.{may_begin_at_top}
use Rattle.swc_ecma_parser_grammar.specs.language.ModuleParts.{begins_attributes}
use Rattle.swc_ecma_parser_grammar.specs.language.Imports.{follows_phase, begins_phase}
use Rattle.swc_ecma_parser_grammar.specs.language.Exports.{may_begin_default}
use Rattle.swc_ecma_parser_grammar.specs.language.ModuleItems.{ModuleItemsRule}
use Rattle.swc_ecma_parser_grammar.specs.language.Expressions.{ExpressionRule, assignment_rule}
use Rattle.swc_ecma_parser_grammar.specs.language.Reads.{Reads}
use Rattle.swc_ecma_parser_grammar.specs.language.Programs.{script, entry_code, no_shebang, is_module_body, whole, ModuleRule, ReadsEntry, Spells}
use Rattle.swc_ecma_parser_grammar.proofs.Spelling.{at, looks, before, past, is_value, name_value}

-- a name that is all of an expression
unfoldable pub is_expression : Code → Word → Span → (c d : Place) → Bool
is_expression k w s c d = is_value k w s c d && not (sees kind.Comma d)

-- all that is asked of the tokens at a place where a statement or an item may stand
unfoldable pub sights : ℕ
unfolding looks ends_at is_let_declaration may_begin_expression_statement is_using_declaration may_begin_head is_async_of may_begin_at_top begins_import_expression begins_attributes follows_phase begins_phase may_begin_default is_expression
sights = 0

both : (a b : Bool) → a && b ≡ true → (a ≡ true) × (b ≡ true)
both true true h = (refl, refl)
both true false h = cc
both false b h = cc

unless : (b : Bool) → not b ≡ true → b ≡ false
unless true h = cc
unless false h = refl

pub name_expression : {In : Goal → Type 0} {k : Code} {w : Word} {b : Bool} {s last : Span} {rest : List TokenAndSpan}
    → is_expression k w s (before (token.Word w) b s last rest) (past s rest) ≡ true
    → ExpressionRule In k (tree.ident s (word_text w)) (before (token.Word w) b s last rest) (past s rest)
unfolding is_expression
name_expression h = let (f, g) = both _ _ h in assignment_rule (name_value f) (unless _ g)

-- ---- trees

abbrev pub id : ℕ → ℕ → Text → Tree
id lo hi text = tree.ident (at lo hi) text

abbrev pub bound : ℕ → ℕ → Text → Tree
bound lo hi text = tree.ident_pat (at lo hi) text

abbrev pub expr_stmt : ℕ → ℕ → Tree → Tree
expr_stmt lo hi e = tree.expr_stmt (at lo hi) e

abbrev pub block : ℕ → ℕ → List Tree → Tree
block lo hi xs = tree.block (at lo hi) (listed xs)

abbrev pub script_of : ℕ → ℕ → List Tree → Tree
script_of lo hi xs = tree.script (at lo hi) (listed xs) None

abbrev pub module_of : ℕ → ℕ → List Tree → Tree
module_of lo hi xs = tree.module_program (at lo hi) (listed xs) None

-- ---- wholes

pub script_read : (n : ℕ) (k : Code) (items : List Tree) (c d : Place) → sees kind.Shebang c ≡ false → ItemsRule (Reads n) (entry_code script k) true top_item items c d
    → kind_at d ≡ kind.End → ReadsEntry n script k (tree.script (whole_span c d) (listed items) None) c d
script_read n k items c d h r e =
    (record { shebang = None; first = c; items = items; reads_shebang = no_shebang h refl; reads_items = r; to_the_end = e; is = refl }, λ i. cc)

-- one that the walk finds nothing in
pub whole_script : (n : ℕ) (k : Code) (items : List Tree) (c d : Place) → sees kind.Shebang c ≡ false → ItemsRule (Reads n) (entry_code script k) true top_item items c d
    → kind_at d ≡ kind.End → walk (env_of (entry_code script k) []) (tree.script (whole_span c d) (listed items) None) ≡ []
    → Spells n script k [] (tree.script (whole_span c d) (listed items) None) c d
whole_script n k items c d h r e w = (script_read n k items c d h r e, w)

pub whole_items : (n : ℕ) (is_certain : Bool) (k : Code) (items : List Tree) (awaits : Bool) (c d : Place) → sees kind.Shebang c ≡ false
    → ModuleItemsRule (Reads n) k true items awaits c d → kind_at d ≡ kind.End
    → ModuleRule (Reads n) is_certain k (whole (is_certain || is_module_body items awaits) (whole_span c d) (listed items) None) c d
whole_items n is_certain k items awaits c d h r e =
    record { shebang = None; first = c; items = items; awaits = awaits; reads_shebang = no_shebang h refl; reads_items = r; to_the_end = e; is = refl }
