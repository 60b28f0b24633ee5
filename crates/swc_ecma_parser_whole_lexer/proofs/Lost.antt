-- A token for which there was no memory: what it reads as, and what it opens.
use Rattle.std.proofs.Common.{◌≡◌, ℕ, Bool, true, false, cond, List, [], Option, Some, None, refl, ap, sym, ◌∙◌, subst}
use Rattle.std.proofs.lemmas.Bool.{true≢false}
use Rattle.std.specs.Prelude.{codes}
use Rattle.std.specs.Str.{bytes_eq, chars}
use Rattle.swc_ecma_parser_common.specs.declared.span.Span.{Span}
use Rattle.swc_ecma_parser_error.specs.declared.kind.SyntaxError.{SyntaxError}
use Rattle.swc_ecma_parser_token.specs.declared.keyword.Keyword.{Keyword}
use Rattle.swc_ecma_parser_token.specs.declared.token.Token.{Token}
use Rattle.swc_ecma_parser_token.specs.declared.token.Token.TheVariants as token
use Rattle.swc_ecma_parser_token.specs.declared.token.Word.{Word}
use Rattle.swc_ecma_parser_token.specs.declared.token.Word.TheVariants as word
use Rattle.swc_ecma_parser_token.specs.Kind.{token_kind}
use Rattle.swc_ecma_parser_scan.specs.declared.state.Mark.{Mark}
use Rattle.swc_ecma_parser_scan.specs.declared.state.Mark.TheVariants as marks
use Rattle.swc_ecma_parser_scan.specs.declared.state.Number.{Number}
use Rattle.swc_ecma_parser_scan.specs.declared.state.State.{State}
use Rattle.swc_ecma_parser_scan.specs.declared.state.State.TheVariants as state
use Rattle.swc_ecma_parser_lexer.specs.declared.escape.Escape.TheVariants as escape
use Rattle.swc_ecma_parser_lexer.specs.Make.{fault, is_big_int, is_number, keyword_in, keyword_or, keywords, mark_token, number_token, string_token, token_of, word_of}
use Rattle.swc_ecma_parser_lexer.specs.Strings.{is_well_escaped}
use Rattle.swc_ecma_parser_lexer.specs.Tokens.{has_text}
use Rattle.swc_ecma_parser_nesting.specs.declared.nest.Nest.{Nest}
use Rattle.swc_ecma_parser_nesting.specs.Nesting.{behind_literal, behind_mark, is_declaring_keyword, is_operand_keyword, is_plain_word, is_statement_keyword, is_word, mark, pass}
use Rattle.swc_ecma_parser_whole_lexer.specs.declared.form.Goal.{Goal}
use Rattle.swc_ecma_parser_whole_lexer.specs.declared.form.Form.{Form}
use Rattle.swc_ecma_parser_whole_lexer.specs.declared.form.Form.TheVariants as form
use Rattle.swc_ecma_parser_whole_lexer.specs.Forms.{anew, ended_at, kept, kind_anew, lost_anew, name, part_kind, token_anew}
use Rattle.swc_ecma_parser_whole_lexer.specs.Names as names
use Rattle.swc_ecma_parser_whole_lexer.specs.Runs.{begins_with}
use Rattle.swc_ecma_parser_whole_lexer.specs.Templates.{part, part_token}
use Rattle.swc_ecma_parser_whole_lexer.specs.Whole.{kind_of, lost_name, name_of, nest_behind}

-- the tokens that have a text of their own

fault-silent : (k : SyntaxError) (span : Span) → has_text (fault k span) ≡ false
unfolding has_text fault
fault-silent k span = refl

word-choice : (v : Bool) (w x : Word) → has_text (token.Word (cond v w x)) ≡ true → has_text (token.Word w) ≡ false → cond v w x ≡ x
word-choice true w x e f = absurd (true≢false (sym e ∙ f))
word-choice false w x e f = refl

-- a word that is lost is a name
keyword-name : (o : Option Keyword) (name : List ℕ) → has_text (token.Word (keyword_or o name)) ≡ true → keyword_or o name ≡ word.Ident name
unfolding has_text
keyword-name (Some k) name e = absurd (true≢false (sym e))
keyword-name None name e =
    let first = word-choice (bytes_eq name (codes "null")) word.Null _ e refl in
    let e1 = sym (ap (λ w. has_text (token.Word w)) first) ∙ e in
    let second = word-choice (bytes_eq name (codes "true")) word.True _ e1 refl in
    let e2 = sym (ap (λ w. has_text (token.Word w)) second) ∙ e1 in
    first ∙ second ∙ word-choice (bytes_eq name (codes "false")) word.False (word.Ident name) e2 refl

name-of-word : (name : List ℕ) → has_text (token.Word (word_of name)) ≡ true → word_of name ≡ word.Ident name
unfolding word_of
name-of-word name e = keyword-name (keyword_in keywords name) name e

mark-silent : (m : Mark) → has_text (mark_token m) ≡ false
unfolding has_text mark_token
mark-silent marks.FirstHash = refl
mark-silent m = refl

-- What it is read anew as, and what it opens: told by its piece.
pub record IsLostAs (g : Goal) (n : Nest) (b : Bool) (cs : List ℕ) (left : List ℕ) (text : List ℕ) (s : State) (t : Token) : Type 0 where
  pub read : anew g n b t cs left ≡ lost_anew s cs left
  pub nest : nest_behind n t ≡ pass n (kind_of s) (lost_name s text)

choice : (P : Token → Type 0) (v : Bool) (s t : Token) → has_text (cond v s t) ≡ true → P s → (has_text t ≡ true → P t) → P (cond v s t)
choice P true s t e f g = f
choice P false s t e f g = g e

silent : (P : Token → Type 0) (t : Token) → has_text t ≡ true → has_text t ≡ false → P t
silent P t e f = absurd (true≢false (sym e ∙ f))

lost-name : (g : Goal) (n : Nest) (b : Bool) (cs left text : List ℕ) → IsLostAs g n b cs left text state.Name (token.Word (word.Ident text))
unfolding anew lost_anew kind_of lost_name
lost-name g n b cs left text = record { read = refl; nest = refl }

lost-big : (g : Goal) (n : Nest) (b : Bool) (cs left text : List ℕ) (num : Number) → IsLostAs g n b cs left text (state.Number num) (token.BigInt text)
unfolding anew lost_anew kind_of lost_name pass is_word is_plain_word is_operand_keyword is_declaring_keyword is_statement_keyword mark behind_mark behind_literal
lost-big g n b cs left text num = record { read = refl; nest = refl }

lost-number : (g : Goal) (n : Nest) (b : Bool) (cs left text : List ℕ) (num : Number) → IsLostAs g n b cs left text (state.Number num) (token.Num text)
unfolding anew lost_anew kind_of lost_name
lost-number g n b cs left text num = record { read = refl; nest = refl }

lost-string : (g : Goal) (n : Nest) (b : Bool) (cs left text value : List ℕ) (quote : ℕ) → IsLostAs g n b cs left text (state.StrEnd quote) (token.Str value text)
unfolding anew lost_anew kind_of lost_name
lost-string g n b cs left text value quote = record { read = refl; nest = refl }

lost-shebang : (g : Goal) (n : Nest) (b : Bool) (cs left text line : List ℕ) → IsLostAs g n b cs left text state.Shebang (token.Shebang line)
unfolding anew lost_anew kind_of lost_name pass is_word is_plain_word is_operand_keyword is_declaring_keyword is_statement_keyword mark behind_mark behind_literal
lost-shebang g n b cs left text line = record { read = refl; nest = refl }

pub lost-as : (g : Goal) (n : Nest) (b : Bool) (cs left : List ℕ) (s : State) (text : List ℕ) (span : Span) → has_text (token_of s text span) ≡ true → IsLostAs g n b cs left text s (token_of s text span)
unfolding token_of number_token string_token has_text
lost-as g n b cs left state.Name text span e =
    subst (λ w. IsLostAs g n b cs left text state.Name (token.Word w)) (sym (name-of-word text e)) (lost-name g n b cs left text)
lost-as g n b cs left (state.Number num) text span e =
    choice (IsLostAs g n b cs left text (state.Number num)) (is_big_int num) (token.BigInt text) _ e (lost-big g n b cs left text num)
    (λ f. choice (IsLostAs g n b cs left text (state.Number num)) (is_number num) (token.Num text) _ f (lost-number g n b cs left text num)
    (λ h. silent (IsLostAs g n b cs left text (state.Number num)) _ h (fault-silent _ span)))
lost-as g n b cs left (state.StrEnd quote) text span e =
    choice (IsLostAs g n b cs left text (state.StrEnd quote)) (is_well_escaped quote escape.Text (chars text)) _ _ e (lost-string g n b cs left text _ quote)
    (λ h. silent (IsLostAs g n b cs left text (state.StrEnd quote)) _ h (fault-silent _ span))
lost-as g n b cs left state.Shebang text span e = lost-shebang g n b cs left text _
lost-as g n b cs left (state.Mark m) text span e = silent (IsLostAs g n b cs left text (state.Mark m)) _ e (mark-silent m)
lost-as g n b cs left (state.BinOp op) text span e = absurd (true≢false (sym e))
lost-as g n b cs left (state.AssignOp op) text span e = absurd (true≢false (sym e))
lost-as g n b cs left s text span e = silent (IsLostAs g n b cs left text s) _ e (fault-silent _ span)

ended-stays : (o : Option (List ℕ)) (left : List ℕ) → (ended_at form.EscapedName o left).form ≡ form.Kept → ended_at form.EscapedName o left ≡ kept left
ended-stays (Some end) left e = absurd (cc e)
ended-stays None left e = refl

name-stays : (v : Bool) (cs left : List ℕ) → (cond v (name cs left) (kept left)).form ≡ form.Kept → cond v (name cs left) (kept left) ≡ kept left
unfolding name
name-stays true cs left e = ended-stays (names.past_name true escape.Text cs) left e
name-stays false cs left e = refl

-- a piece that stays behind such a token
pub lost-stays : (s : State) (cs left : List ℕ) → (lost_anew s cs left).form ≡ form.Kept → lost_anew s cs left ≡ kept left
unfolding lost_anew
lost-stays state.Name cs left e = name-stays (begins_with 92 left) cs left e
lost-stays s cs left e = refl

-- the kind of a token that is read anew
pub record IsKindOf (f : Form) (t : Token) : Type 0 where
  pub kind : token_kind t ≡ kind_anew f
  pub says : name_of t ≡ []

part-kind : (is_first is_last : Bool) (raw : List ℕ) (said : Option (List ℕ)) → IsKindOf (form.Part is_first is_last) (part_token is_first is_last raw said)
unfolding kind_anew part_kind part_token
part-kind true true raw said = record { kind = refl; says = refl }
part-kind true false raw said = record { kind = refl; says = refl }
part-kind false true raw said = record { kind = refl; says = refl }
part-kind false false raw said = record { kind = refl; says = refl }

token-same : (t u : Token) → Some t ≡ Some u → t ≡ u
token-same t u e = cc

pub kind-of-anew : (f : Form) (text : List ℕ) (span : Span) (t : Token) → token_anew f text span ≡ Some t → IsKindOf f t
unfolding token_anew kind_anew part fault
kind-of-anew form.Kept text span t e = absurd (cc e)
kind-of-anew form.Comment text span t e = absurd (cc e)
kind-of-anew (form.Part is_first is_last) text span t e = subst (IsKindOf (form.Part is_first is_last)) (token-same _ t e) (part-kind is_first is_last _ _)
kind-of-anew f text span t e = subst (IsKindOf f) (token-same _ t e) (record { kind = refl; says = refl })
