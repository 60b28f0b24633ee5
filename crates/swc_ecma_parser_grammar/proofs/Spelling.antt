-- Lists of tokens written by hand, the places in them, and the readings that most of them begin with.
use Rattle.std.proofs.Common.{◌≡◌, ℕ, zero, suc, Bool, true, false, not, ◌&&◌, List, ◌∷◌, refl}
use Rattle.swc_ecma_parser_common.specs.declared.span.Span.{Span}
use Rattle.swc_ecma_parser_token.specs.declared.keyword.Keyword.{Keyword}
use Rattle.swc_ecma_parser_token.specs.declared.operator.BinOpToken.{BinOpToken}
use Rattle.swc_ecma_parser_token.specs.declared.operator.AssignOp.TheVariants as assign
use Rattle.swc_ecma_parser_token.specs.declared.token.Token.{Token}
use Rattle.swc_ecma_parser_token.specs.declared.token.Token.TheVariants as token
use Rattle.swc_ecma_parser_token.specs.declared.token.Word.{Word}
use Rattle.swc_ecma_parser_token.specs.declared.token.Word.TheVariants as word
use Rattle.swc_ecma_parser_token.specs.declared.token.TokenAndSpan.{TokenAndSpan}
use Rattle.swc_ecma_parser_token.specs.Text.{word_text}
use Rattle.swc_ecma_parser_input.specs.Place.{Place, after}
use Rattle.swc_ecma_parser_model.specs.Tree as tree
use Rattle.swc_ecma_parser_model.specs.Tree.{Tree, Text}
use Rattle.swc_ecma_parser_grammar.specs.Looks.{kind_at, breaks_at, span_at, same_kind, spanned, start_at, whole_span}
use Rattle.swc_ecma_parser_grammar.specs.Names.{Code, is_reserved, is_identifier, is_clean_name, identifier_at}
use Rattle.swc_ecma_parser_grammar.specs.Ends.{can_end}
use Rattle.swc_ecma_parser_grammar.specs.Follows.{word_at, is_async_function, continues_left_side}
use Rattle.swc_ecma_parser_grammar.specs.language.Goals.{Goal}
use Rattle.swc_ecma_parser_grammar.specs.language.Contexts.{may_await}
use Rattle.swc_ecma_parser_grammar.specs.language.Begins.{awaits, begins_unary, begins_expression}
use Rattle.swc_ecma_parser_grammar.specs.language.Continues.{continues_callee, continues_unary, continues_operand, continues_head, continues_conditional, continues_assignment, continues_yield}
use Rattle.swc_ecma_parser_grammar.specs.language.Parts.{ReadsName, ReadsWord, ReadsToken}
use Rattle.swc_ecma_parser_grammar.specs.language.Classes.{ends_key, is_static_word, is_accessor_word, is_accessor_key}
use Rattle.swc_ecma_parser_grammar.specs.language.LeftSides.{primary_rule, name_rule, OperandRule}
use Rattle.swc_ecma_parser_grammar.specs.language.Expressions.{BinaryRule, single_rule, operand_rule, AssignmentRule, operators_rule}

-- ---- tokens

abbrev pub at : ℕ → ℕ → Span
at lo hi = record { lo = record { 0 = lo }; hi = record { 0 = hi } }

-- a token with its span, on the line of the one before it
abbrev pub t : Token → ℕ → ℕ → TokenAndSpan
t what lo hi = record { token = what; had_line_break = false; span = at lo hi }

-- a token behind a line break
abbrev pub below : Token → ℕ → ℕ → TokenAndSpan
below what lo hi = record { token = what; had_line_break = true; span = at lo hi }

abbrev pub named : Text → Token
named text = token.Word (word.Ident text)

abbrev pub keyword : Keyword → Token
keyword k = token.Word (word.Keyword k)

abbrev pub operator : BinOpToken → Token
operator = token.BinOp

abbrev pub equals : Token
equals = token.AssignOp assign.Assign

-- ---- places

abbrev pub start : List TokenAndSpan → Place
start ts = record { last = at 0 0; left = ts }

-- behind so many tokens
abbrev pub behind : ℕ → Place → Place
behind zero c = c
behind (suc i) c = behind i (after c)

-- ---- codes

abbrev pub plain : Code
plain = record {
  flags = record { «module» = false; can_be_module = false; strict = false; in_async = false; in_generator = false; in_function = false; in_parameters = false; in_class = false; in_static_block = false; is_break_allowed = false; is_continue_allowed = false; include_in_expr = false };
  setting = record { decorators = false; decorators_before_export = false; export_default_from = false; import_attributes = false; allow_return_outside_function = false; auto_accessors = false; explicit_resource_management = false };
}

-- a name that is an operand, and one that nothing goes on with
unfoldable pub is_operand : Code → Word → Place → Bool
is_operand k w c = is_clean_name k.flags (word_text w) && (not (is_async_function c) && not (awaits k.flags c))

unfoldable pub is_value : Code → Word → Span → (c d : Place) → Bool
is_value k w s c d = is_operand k w c && not (continues_assignment k (tree.ident s (word_text w)) c d)

-- all that is asked of the tokens at a place
unfoldable pub looks : ℕ
unfolding kind_at breaks_at span_at same_kind spanned start_at whole_span after is_reserved is_identifier is_clean_name identifier_at can_end word_at is_async_function continues_left_side may_await awaits begins_unary begins_expression continues_callee continues_unary continues_operand continues_head continues_conditional continues_assignment continues_yield ends_key is_static_word is_accessor_word is_accessor_key is_operand is_value
looks = 0

-- ---- one token

-- the place before a token, and the one behind it
abbrev pub before : Token → Bool → Span → Span → List TokenAndSpan → Place
before what had_line_break span last rest = record { last = last; left = record { token = what; had_line_break = had_line_break; span = span } ∷ rest }

abbrev pub past : Span → List TokenAndSpan → Place
past span rest = record { last = span; left = rest }

pub a_token : {what : Token} {b : Bool} {s last : Span} {rest : List TokenAndSpan} → ReadsToken what s (before what b s last rest) (past s rest)
unfolding after
a_token {b = b} {rest = rest} = record { had_line_break = b; rest = rest; is = refl; next = refl }

pub a_word : {w : Word} {b : Bool} {s last : Span} {rest : List TokenAndSpan} → ReadsWord (word_text w) s (before (token.Word w) b s last rest) (past s rest)
a_word {w = w} = record { word = w; reads_word = a_token; is_text = refl }

pub a_name : {k : Code} {w : Word} {b : Bool} {s last : Span} {rest : List TokenAndSpan} → is_clean_name k.flags (word_text w) ≡ true
    → ReadsName k (word_text w) s (before (token.Word w) b s last rest) (past s rest)
a_name {w = w} h = record { word = w; reads_word = a_token; is_text = refl; is_name = h }

-- ---- a name as an expression

both : (a b : Bool) → a && b ≡ true → (a ≡ true) × (b ≡ true)
both true true h = (refl, refl)
both true false h = cc
both false b h = cc

unless : (b : Bool) → not b ≡ true → b ≡ false
unless true h = cc
unless false h = refl

module _ {In : Goal → Type 0} {k : Code} where
  pub operand : {w : Word} {b : Bool} {s last : Span} {rest : List TokenAndSpan} → is_operand k w (before (token.Word w) b s last rest) ≡ true
      → OperandRule In k (tree.ident s (word_text w)) (before (token.Word w) b s last rest) (past s rest)
  unfolding is_operand
  operand h = let (f, g) = both _ _ h in let (i, j) = both _ _ g in (primary_rule (name_rule _ _ (a_name f) (unless _ i) refl), unless _ j)

  pub one : {n : ℕ} {x : Tree} {c d : Place} → OperandRule In k x c d → BinaryRule In k n x c d
  one h = single_rule (operand_rule h)

  pub value : {x : Tree} {c d : Place} → OperandRule In k x c d → continues_assignment k x c d ≡ false → AssignmentRule In k x c d
  value h e = operators_rule (one h) e

  pub name_value : {w : Word} {b : Bool} {s last : Span} {rest : List TokenAndSpan} → is_value k w s (before (token.Word w) b s last rest) (past s rest) ≡ true
      → AssignmentRule In k (tree.ident s (word_text w)) (before (token.Word w) b s last rest) (past s rest)
  unfolding is_value
  name_value h = let (f, g) = both _ _ h in value (operand f) (unless _ g)
