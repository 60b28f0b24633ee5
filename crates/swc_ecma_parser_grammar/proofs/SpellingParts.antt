-- What the texts of patterns, functions and classes have in common, beside `Spelling`: lists, names as patterns, and parameters.
use Rattle.std.proofs.Common.{◌≡◌, ℕ, Bool, true, false, List, [], ◌∷◌, refl}
use Rattle.swc_ecma_parser_common.specs.declared.span.Span.{Span}
use Rattle.swc_ecma_parser_token.specs.declared.kind.TokenKind.TheVariants as kind
use Rattle.swc_ecma_parser_token.specs.declared.token.Token.TheVariants as token
use Rattle.swc_ecma_parser_token.specs.declared.token.Word.{Word}
use Rattle.swc_ecma_parser_token.specs.declared.token.TokenAndSpan.{TokenAndSpan}
use Rattle.swc_ecma_parser_token.specs.Text.{word_text}
use Rattle.swc_ecma_parser_input.specs.Place.{Place, after}
use Rattle.swc_ecma_parser_model.specs.Tree as tree
use Rattle.swc_ecma_parser_model.specs.Tree.{Tree, Text, listed}
use Rattle.swc_ecma_parser_grammar.specs.Looks.{kind_at, spanned}
use Rattle.swc_ecma_parser_grammar.specs.Names.{Code, is_clean_name}
use Rattle.swc_ecma_parser_grammar.specs.language.Goals.{Goal, binding, assigning}
use Rattle.swc_ecma_parser_grammar.specs.language.Begins.{awaits}
use Rattle.swc_ecma_parser_grammar.specs.language.Lists.{Elements, no_comma, last_element}
use Rattle.swc_ecma_parser_grammar.specs.language.Items.{BlockRule}
use Rattle.swc_ecma_parser_grammar.specs.language.Functions.{ParametersRule, FunctionParts}
use Rattle.swc_ecma_parser_grammar.specs.language.Patterns.{PatternRule, binding_name_rule, target_name_rule}
use Rattle.swc_ecma_parser_grammar.proofs.Spelling.{at, before, past, a_name}

abbrev pub variable : ℕ → ℕ → Text → Tree
variable lo hi text = tree.ident (at lo hi) text

abbrev pub leaf : ℕ → ℕ → Text → Tree
leaf lo hi text = tree.ident_pat (at lo hi) text

-- ---- lists

-- one element alone
pub single : {R : Tree → Place → Place → Type 0} {x : Tree} {c d : Place} → R x c d → Elements R (x ∷ []) c d
single r = last_element _ _ r (no_comma refl) refl

-- ---- names as patterns

module _ {In : Goal → Type 0} {k : Code} where
  pub bound : {w : Word} {b : Bool} {s last : Span} {rest : List TokenAndSpan} → is_clean_name k.flags (word_text w) ≡ true
      → PatternRule In binding k (tree.ident_pat s (word_text w)) (before (token.Word w) b s last rest) (past s rest)
  bound h = binding_name_rule _ _ refl (a_name h) refl

  pub target : {w : Word} {b : Bool} {s last : Span} {rest : List TokenAndSpan} → awaits k.flags (before (token.Word w) b s last rest) ≡ false
      → is_clean_name k.flags (word_text w) ≡ true → PatternRule In assigning k (tree.ident_pat s (word_text w)) (before (token.Word w) b s last rest) (past s rest)
  target f h = target_name_rule _ _ refl f (a_name h) refl

-- ---- `() {}`

abbrev pub empty_block : (c : Place) → Tree
empty_block c = tree.block (spanned c (after (after c))) (listed [])

pub empty_body : {In : Goal → Type 0} {k : Code} {directives : Bool} (c : Place) → kind_at c ≡ kind.LBrace → kind_at (after c) ≡ kind.RBrace
    → BlockRule In k directives (empty_block c) c (after (after c))
empty_body c e f = record { items = []; close = after c; opens = e; reads_items = refl; closes = f; next = refl; is = refl }

pub no_parameters : {In : Goal → Type 0} {k : Code} (c : Place) → kind_at c ≡ kind.LParen → kind_at (after c) ≡ kind.RParen → ParametersRule In k [] c (after (after c))
no_parameters c e f = record { close = after c; opens = e; reads_patterns = refl; closes = f; next = refl }

pub empty_parts : {In : Goal → Type 0} {k : Code} {is_async is_generator : Bool} (c : Place) → kind_at c ≡ kind.LParen → kind_at (after c) ≡ kind.RParen
    → kind_at (after (after c)) ≡ kind.LBrace → kind_at (after (after (after c))) ≡ kind.RBrace
    → FunctionParts In k is_async is_generator [] (empty_block (after (after c))) c (after (after (after (after c))))
empty_parts c e f g h = record { middle = after (after c); reads_parameters = no_parameters c e f; reads_body = empty_body (after (after c)) g h }
