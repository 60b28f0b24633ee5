-- The parts that expressions, patterns, objects and classes share: tokens, names, keys, accesses and arguments.
use Rattle.std.specs.Prelude.{◌≡◌, Bool, true, false, List, ◌∷◌, Some, None}
use Rattle.swc_ecma_parser_common.specs.declared.span.Span.{Span}
use Rattle.swc_ecma_parser_token.specs.declared.kind.TokenKind.TheVariants as kind
use Rattle.swc_ecma_parser_token.specs.declared.token.Token.{Token}
use Rattle.swc_ecma_parser_token.specs.declared.token.Token.TheVariants as token
use Rattle.swc_ecma_parser_token.specs.declared.token.TokenAndSpan.{TokenAndSpan}
use Rattle.swc_ecma_parser_token.specs.declared.token.Word.{Word}
use Rattle.swc_ecma_parser_token.specs.Text.{word_text}
use Rattle.swc_ecma_parser_input.specs.Place.{Place, after}
use Rattle.swc_ecma_parser_model.specs.Tree as tree
use Rattle.swc_ecma_parser_model.specs.Tree.{Tree, Text, listed}
use Rattle.swc_ecma_parser_grammar.specs.Looks.{kind_at, span_at, spanned}
use Rattle.swc_ecma_parser_grammar.specs.Names.{Code, is_clean_name}
use Rattle.swc_ecma_parser_grammar.specs.language.Contexts.{with_in}
use Rattle.swc_ecma_parser_grammar.specs.language.Goals.{Goal, expr_goal, expression, assignment}
use Rattle.swc_ecma_parser_grammar.specs.language.Lists.{ReadsListed}

-- ---- tokens

-- this token, with what it says
pub record ReadsToken (t : Token) (span : Span) (c d : Place) : Type 0 where
  pub had_line_break : Bool
  pub rest : List TokenAndSpan
  pub is : c.left ≡ record { token = t; had_line_break = had_line_break; span = span } ∷ rest
  pub next : d ≡ after c

-- ---- names: section 13.1

-- IdentifierReference, BindingIdentifier, LabelIdentifier
pub record ReadsName (k : Code) (text : Text) (s : Span) (c d : Place) : Type 0 where
  pub word : Word
  pub reads_word : ReadsToken (token.Word word) s c d
  pub is_text : text ≡ word_text word
  pub is_name : is_clean_name k.flags text ≡ true

-- IdentifierName: any word, reserved ones too
pub record ReadsWord (text : Text) (s : Span) (c d : Place) : Type 0 where
  pub word : Word
  pub reads_word : ReadsToken (token.Word word) s c d
  pub is_text : text ≡ word_text word

-- the name of a function or a class, or none
pub data OptionalName (k : Code) (x : Tree) (c d : Place) : Type 0 where
  no_name : d ≡ c → x ≡ tree.absent → OptionalName k x c d
  a_name : (text : Text) (s : Span) → ReadsName k text s c d → x ≡ tree.ident s text → OptionalName k x c d

-- PrivateIdentifier, section 12.7: `#` touches its word
pub record PrivateRule (x : Tree) (c d : Place) : Type 0 where
  pub text : Text
  pub span : Span
  pub hash : kind_at c ≡ kind.Hash
  pub reads_word : ReadsWord text span (after c) d
  pub touches : (span_at c).hi ≡ span.lo
  pub is : x ≡ tree.private_name (spanned c d) span text

-- the same where it is the left operand of `in`
pub record PrivateOperandRule (x : Tree) (c d : Place) : Type 0 where
  pub text : Text
  pub span : Span
  pub hash : kind_at c ≡ kind.HashIn
  pub reads_word : ReadsWord text span (after c) d
  pub touches : (span_at c).hi ≡ span.lo
  pub is : x ≡ tree.private_name (spanned c d) span text

-- ---- keys: PropertyName of section 13.2.5

-- an expression in brackets: ComputedPropertyName
pub record ComputedRule (In : Goal → Type 0) (k : Code) (x : Tree) (c d : Place) : Type 0 where
  pub key : Tree
  pub close : Place
  pub opens : kind_at c ≡ kind.LBracket
  pub reads_key : In (expr_goal assignment (with_in k) key (after c) close)
  pub closes : kind_at close ≡ kind.RBracket
  pub next : d ≡ after close
  pub is : x ≡ tree.computed (spanned c d) key

pub data KeyRule (In : Goal → Type 0) (k : Code) (x : Tree) (c d : Place) : Type 0 where
  word_key : (text : Text) (s : Span) → ReadsWord text s c d → x ≡ tree.ident s text → KeyRule In k x c d
  string_key : (value raw : Text) (s : Span) → ReadsToken (token.Str value raw) s c d → x ≡ tree.str s value raw → KeyRule In k x c d
  number_key : (raw : Text) (s : Span) → ReadsToken (token.Num raw) s c d → x ≡ tree.num s raw → KeyRule In k x c d
  big_int_key : (raw : Text) (s : Span) → ReadsToken (token.BigInt raw) s c d → x ≡ tree.big_int s raw → KeyRule In k x c d
  computed_key : ComputedRule In k x c d → KeyRule In k x c d

-- ---- accesses: section 13.3.2

-- what stands behind an object, from `.` or `[` on
pub data AccessRule (In : Goal → Type 0) (k : Code) (x : Tree) (c d : Place) : Type 0 where
  word_access : (text : Text) (s : Span) → kind_at c ≡ kind.Dot → ReadsWord text s (after c) d → x ≡ tree.ident s text → AccessRule In k x c d
  private_access : kind_at c ≡ kind.Dot → PrivateRule x (after c) d → AccessRule In k x c d
  bracket_access : (e : Tree) (m : Place) → kind_at c ≡ kind.LBracket → In (expr_goal expression (with_in k) e (after c) m) → kind_at m ≡ kind.RBracket → d ≡ after m
      → x ≡ tree.computed (spanned c d) e → AccessRule In k x c d

abbrev pub is_private : Tree → Bool
is_private (tree.private_name s word text) = true
is_private _ = false

-- ---- elements and arguments: sections 13.2.4 and 13.3.8

-- an expression, or a spread one, whose dots are kept
pub data ElementRule (In : Goal → Type 0) (k : Code) (x : Tree) (c d : Place) : Type 0 where
  plain_element : (e : Tree) → In (expr_goal assignment (with_in k) e c d) → x ≡ tree.element None e → ElementRule In k x c d
  spread_element : (e : Tree) → kind_at c ≡ kind.DotDotDot → In (expr_goal assignment (with_in k) e (after c) d) → x ≡ tree.element (Some (span_at c)) e
      → ElementRule In k x c d

-- Arguments; a comma may stand behind the last
pub record ArgumentsRule (In : Goal → Type 0) (k : Code) (commas : Bool) (x : Tree) (c d : Place) : Type 0 where
  pub elements : List Tree
  pub close : Place
  pub opens : kind_at c ≡ kind.LParen
  pub reads_elements : ReadsListed commas (ElementRule In k) elements (after c) close
  pub closes : kind_at close ≡ kind.RParen
  pub next : d ≡ after close
  pub is : x ≡ listed elements
