-- What a token that `Lexer` makes is read anew as, by the nest that it stands in and the text from it on.
use Rattle.std.specs.Prelude.{◌≡◌, ℕ, ◌-◌, ◌≤◌, ⊤, Bool, true, false, not, ◌&&◌, if◌then◌else◌, List, [], ◌∷◌, Option, Some, None, drop, take, length}
use Rattle.std.specs.Str.{chars, encode_utf8_all, IsCharBoundary, IsUtf8}
use Rattle.swc_ecma_parser_common.specs.declared.span.Span.{Span}
use Rattle.swc_ecma_parser_error.specs.declared.kind.SyntaxError.{SyntaxError}
use Rattle.swc_ecma_parser_error.specs.declared.kind.SyntaxError.TheVariants as kind
use Rattle.swc_ecma_parser_token.specs.declared.kind.TokenKind.{TokenKind}
use Rattle.swc_ecma_parser_token.specs.declared.kind.TokenKind.TheVariants as kinds
use Rattle.swc_ecma_parser_token.specs.declared.operator.AssignOp.TheVariants as assign
use Rattle.swc_ecma_parser_token.specs.declared.operator.BinOpToken.TheVariants as bin
use Rattle.swc_ecma_parser_token.specs.declared.token.Token.{Token}
use Rattle.swc_ecma_parser_token.specs.declared.token.Token.TheVariants as token
use Rattle.swc_ecma_parser_token.specs.declared.token.Word.TheVariants as word
use Rattle.swc_ecma_parser_scan.specs.declared.state.State.{State}
use Rattle.swc_ecma_parser_scan.specs.declared.state.State.TheVariants as state
use Rattle.swc_ecma_parser_lexer.specs.declared.escape.Escape.TheVariants as escape
use Rattle.swc_ecma_parser_lexer.specs.Make.{fault}
use Rattle.swc_ecma_parser_nesting.specs.declared.nest.Nest.{Nest}
use Rattle.swc_ecma_parser_nesting.specs.Nesting.{begins_private_operand, begins_regex, ends_substitution, is_behind_new}
use Rattle.swc_ecma_parser_whole_lexer.specs.declared.form.Anew.{Anew}
use Rattle.swc_ecma_parser_whole_lexer.specs.declared.form.Form.{Form}
use Rattle.swc_ecma_parser_whole_lexer.specs.declared.form.Form.TheVariants as form
use Rattle.swc_ecma_parser_whole_lexer.specs.declared.form.Goal.{Goal}
use Rattle.swc_ecma_parser_whole_lexer.specs.declared.form.Goal.TheVariants as goal
use Rattle.swc_ecma_parser_whole_lexer.specs.declared.old.Old.TheVariants as old
use Rattle.swc_ecma_parser_whole_lexer.specs.Names as names
use Rattle.swc_ecma_parser_whole_lexer.specs.Old.{is_old_string, old_value_of, past_old_number}
use Rattle.swc_ecma_parser_whole_lexer.specs.Regex.{past_body}
use Rattle.swc_ecma_parser_whole_lexer.specs.declared.run.Class.TheVariants as class
use Rattle.swc_ecma_parser_whole_lexer.specs.Runs.{begins_with, behind, is_ahead, past}
use Rattle.swc_ecma_parser_whole_lexer.specs.declared.regex.Body.TheVariants as body
use Rattle.swc_ecma_parser_whole_lexer.specs.Templates.{End, part, past_part}

-- a form, and the characters behind it
pub record Reading : Type 0 where
  pub form : Form
  pub left : List ℕ

-- the same with a text in bytes
pub record IsRead (r : Reading) (a : Anew) : Type 0 where
  pub form : a.form ≡ r.form
  pub left : chars a.rest.now ≡ r.left
  pub utf8 : IsUtf8 a.rest.now

-- Below, `cs` are the characters from the token on, and `left` those behind it as `Lexer` has it.

abbrev pub kept : List ℕ → Reading
kept left = record { form = form.Kept; left = left }

unfoldable pub only : Bool → Form → List ℕ → Reading
only is_so f left = record { form = if is_so then f else form.Kept; left = left }

abbrev pub regex_to : List ℕ → Option (List ℕ) → List ℕ → Reading
regex_to body (Some end) left = record {
  form = form.Regex (length (encode_utf8_all body) - length (encode_utf8_all end));
  left = past class.NamePart (behind end);
}
regex_to body None left = record { form = form.OpenRegex; left = left }

unfoldable pub regex : List ℕ → List ℕ → Reading
regex cs left = regex_to (behind cs) (past_body body.Open (behind cs)) left

abbrev pub part_to : Bool → Option End → List ℕ → Reading
part_to is_first (Some e) left = record {
  form = form.Part is_first e.is_last;
  left = if e.is_last then behind e.left else behind (behind e.left);
}
part_to is_first None left = record { form = form.OpenPart; left = left }

unfoldable pub template : Bool → List ℕ → List ℕ → Reading
template is_first cs left = part_to is_first (past_part false (behind cs)) left

abbrev pub ended_at : Form → Option (List ℕ) → List ℕ → Reading
ended_at f (Some end) left = record { form = f; left = end }
ended_at f None left = kept left

unfoldable pub name : List ℕ → List ℕ → Reading
name cs left = ended_at form.EscapedName (names.past_name true escape.Text cs) left

unfoldable pub old_number : List ℕ → List ℕ → Reading
old_number cs left = ended_at form.OldNumber (past_old_number cs) left

-- the quote that a literal begins with
abbrev pub first_of : List ℕ → ℕ
first_of [] = 34
first_of (c ∷ cs) = c

unfoldable pub old_string : List ℕ → List ℕ → Reading
old_string cs left =
    let quote = first_of cs in
    if is_old_string quote (old.Plain escape.Text) (take (length cs - length left) cs)
    then record { form = form.OldString quote; left = left } else kept left

-- a comment to the end of its line
unfoldable pub comment : Bool → List ℕ → Reading
comment is_so left = if is_so then record { form = form.Comment; left = past class.Line left } else kept left

-- `?.` before no digit
unfoldable pub question_dot : List ℕ → Reading
question_dot left =
    if begins_with 46 left && not (is_ahead class.Digit (behind left))
    then record { form = form.QuestionDot; left = behind left } else kept left

unfoldable pub fault_anew : SyntaxError → List ℕ → List ℕ → Reading
fault_anew kind.UnexpectedChar cs left =
    if begins_with 96 cs then template true cs left else
    if begins_with 92 cs then name cs left else kept left
fault_anew kind.InvalidNumber cs left = old_number cs left
fault_anew kind.InvalidStrEscape cs left = old_string cs left
fault_anew _ cs left = kept left

-- `!--`
unfoldable pub opens_comment : List ℕ → Bool
opens_comment left = begins_with 33 left && begins_with 45 (behind left) && begins_with 45 (behind (behind left))

unfoldable pub is_script : Goal → Bool
is_script goal.Script = true
is_script goal.Module = false

-- `begins_line`: only white space and comments stand before it on its line, or a comment that a line ends in
unfoldable pub anew : Goal → Nest → Bool → Token → List ℕ → List ℕ → Reading
anew g n begins_line (token.BinOp bin.Div) cs left = if begins_regex n then regex cs left else kept left
anew g n begins_line (token.AssignOp assign.DivAssign) cs left = if begins_regex n then regex cs left else kept left
anew g n begins_line token.RBrace cs left = if ends_substitution n then template false cs left else kept left
anew g n begins_line token.QuestionMark cs left = question_dot left
anew g n begins_line token.Dot cs left = only (is_behind_new n) form.NewDot left
anew g n begins_line token.Hash cs left = only (begins_private_operand n) form.HashIn left
anew g n begins_line (token.BinOp bin.Lt) cs left = comment (is_script g && opens_comment left) left
anew g n begins_line token.MinusMinus cs left = comment (is_script g && begins_line && begins_with 62 left) left
anew g n begins_line (token.Word w) cs left = if begins_with 92 left then name cs left else kept left
anew g n begins_line (token.Error e) cs left = fault_anew e.kind cs left
anew g n begins_line _ cs left = kept left

-- a piece for whose token there was no memory
unfoldable pub lost_anew : State → List ℕ → List ℕ → Reading
lost_anew state.Name cs left = if begins_with 92 left then name cs left else kept left
lost_anew _ cs left = kept left

unfoldable pub is_comment : Form → Bool
is_comment form.Comment = true
is_comment _ = false

unfoldable pub is_kept : Form → Bool
is_kept form.Kept = true
is_kept _ = false

-- Below, `inner` are the bytes behind the first mark.

-- the bytes behind the first character of others
abbrev pub behind_first : List ℕ → List ℕ
behind_first text = encode_utf8_all (behind (chars text))

abbrev pub regex_token : ℕ → List ℕ → Token
regex_token body inner = token.Regex (take body inner) (behind_first (drop body inner))

unfoldable pub before_mark : Bool → List ℕ → List ℕ
before_mark is_last inner = take (length inner - (if is_last then 1 else 2)) inner

-- the token that the bytes of a text are, read anew as a form, if it has one of its own
unfoldable pub token_anew : Form → List ℕ → Span → Option Token
token_anew form.Kept text span = None
token_anew form.Comment text span = None
token_anew (form.Regex body) text span = Some (regex_token body (behind_first text))
token_anew form.OpenRegex text span = Some (fault kind.UnterminatedRegxp span)
token_anew (form.Part is_first is_last) text span = Some (part is_first is_last (before_mark is_last (behind_first text)))
token_anew form.OpenPart text span = Some (fault kind.UnterminatedTpl span)
token_anew form.QuestionDot text span = Some token.QuestionDot
token_anew form.NewDot text span = Some token.NewDot
token_anew form.HashIn text span = Some token.HashIn
token_anew form.EscapedName text span = Some (token.Word (word.Escaped (names.name_said escape.Text (chars text))))
token_anew form.OldNumber text span = Some (token.Num text)
token_anew (form.OldString quote) text span = Some (token.Str (old_value_of quote (old.Plain escape.Text) None (chars text)) text)

unfoldable pub part_kind : Bool → Bool → TokenKind
part_kind true true = kinds.Template
part_kind true false = kinds.TemplateHead
part_kind false true = kinds.TemplateTail
part_kind false false = kinds.TemplateMiddle

-- the kind of that token
unfoldable pub kind_anew : Form → TokenKind
kind_anew form.Kept = kinds.Error
kind_anew form.Comment = kinds.Error
kind_anew (form.Regex body) = kinds.Regex
kind_anew form.OpenRegex = kinds.Error
kind_anew (form.Part is_first is_last) = part_kind is_first is_last
kind_anew form.OpenPart = kinds.Error
kind_anew form.QuestionDot = kinds.QuestionDot
kind_anew form.NewDot = kinds.NewDot
kind_anew form.HashIn = kinds.HashIn
kind_anew form.EscapedName = kinds.Escaped
kind_anew form.OldNumber = kinds.Num
kind_anew (form.OldString quote) = kinds.Str

-- the body of a regular expression ends in what stands behind its first mark
pub record FitsRegex (body : ℕ) (inner : List ℕ) : Type 0 where
  pub size : body ≤ length inner
  pub end : IsCharBoundary inner body

-- a part of a template, before the mark that ends it
pub record FitsPart (is_last : Bool) (inner : List ℕ) : Type 0 where
  pub size : (if is_last then 1 else 2) ≤ length inner
  pub end : IsCharBoundary inner (length inner - (if is_last then 1 else 2))

-- the marks that a form has in a text stand there
abbrev pub Fits : Form → List ℕ → Type 0
Fits (form.Regex body) text = FitsRegex body (behind_first text)
Fits (form.Part is_first is_last) text = FitsPart is_last (behind_first text)
Fits form.Kept text = ⊤
Fits form.Comment text = ⊤
Fits form.OpenRegex text = ⊤
Fits form.OpenPart text = ⊤
Fits form.QuestionDot text = ⊤
Fits form.NewDot text = ⊤
Fits form.HashIn text = ⊤
Fits form.EscapedName text = ⊤
Fits form.OldNumber text = ⊤
Fits (form.OldString quote) text = ⊤
