-- Names, literals, regular expressions, texts of templates and shebangs, by the token that stands first.
use Rattle.std.proofs.Common.{◌≡◌, Bool, true, false, List, [], ◌∷◌, Option, Some, None, Ok, refl, ap, ◌∙◌, sym}
use Rattle.std.specs.Prelude.{not, ◌&&◌, ◌||◌, is_none, is_some}
use Rattle.swc_ecma_parser_common.specs.declared.span.Span.{Span}
use Rattle.swc_ecma_parser_error.specs.Kind as faults
use Rattle.swc_ecma_parser_error.specs.Kind.{Kind}
use Rattle.swc_ecma_parser_token.specs.declared.token.Token.{Token}
use Rattle.swc_ecma_parser_token.specs.declared.token.Token.TheVariants as token
use Rattle.swc_ecma_parser_token.specs.declared.token.Word.{Word}
use Rattle.swc_ecma_parser_token.specs.declared.token.Word.TheVariants as word
use Rattle.swc_ecma_parser_token.specs.declared.token.TokenAndSpan.{TokenAndSpan}
use Rattle.swc_ecma_parser_token.specs.Text.{word_text}
use Rattle.swc_ecma_parser_input.specs.declared.context.Context.{Context}
use Rattle.swc_ecma_parser_input.specs.Place.{first}
use Rattle.swc_ecma_parser_grammar.specs.Names.{is_name, is_clean_name, is_identifier, token_is_identifier, first_is_identifier, identifier_at, name_at, may_bind_await}
use Rattle.swc_ecma_parser_model.specs.Tree.{Tree, Text}
use Rattle.swc_ecma_parser_model.specs.declared.leaves.Ident.{Ident}
use Rattle.swc_ecma_parser_model.specs.declared.leaves.TplElement.{TplElement}
use Rattle.swc_ecma_parser_model.specs.Tree as tree
use Rattle.swc_ecma_parser_cursor.specs.Literals.{quasi_tree}
use Rattle.swc_ecma_parser_reader.specs.State.{State, Outcome, and_then, moved, fault, fault_at, name, name_in, name_by, unclean_name, wanted, reject}
use Rattle.swc_ecma_parser_reader.specs.Expressions.{literal, literal_in, literal_of, regex, regex_in, regex_of, template_text, text_in, text_of}
use Rattle.swc_ecma_parser_reader.specs.Words.{any_word, word_by, word_in}
use Rattle.swc_ecma_parser_reader.specs.Reader.{shebang, shebang_in, shebang_of}
use Rattle.swc_ecma_parser_state.specs.Taken.{token_is_clean, clean_first, is_literal, literal_first, is_regex, regex_first, is_text, text_first, is_shebang, shebang_first}

-- ---- names

none_by : (k : Kind) (s : State) (t : Token) (span : Span) → token_is_identifier s.code.flags t ≡ false → name_by k s t span ≡ wanted k s
unfolding is_name is_clean_name
none_by k s (token.Word w) span h = rw h refl
none_by k s _ span h = refl

none_in : (k : Kind) (s : State) (ts : List TokenAndSpan) → first_is_identifier s.code.flags ts ≡ false → name_in k s ts ≡ wanted k s
none_in k s [] h = refl
none_in k s (t ∷ ts) h = none_by k s t.token t.span h

pub name_none : (k : Kind) (s : State) → name_at s.code.flags s.at ≡ false → name k s ≡ wanted k s
unfolding name identifier_at
name_none k s h = none_in k s s.at.left h

-- a clean name is any word
clean_by : (k : Kind) (s : State) (t : Token) (span : Span) → token_is_clean s.code.flags t ≡ true → name_by k s t span ≡ word_by s t span
clean_by k s (token.Word w) span h = rw h refl
clean_by k s _ span h = cc

clean_in : (k : Kind) (s : State) (ts : List TokenAndSpan) → clean_first s.code.flags ts ≡ true → name_in k s ts ≡ word_in s ts
clean_in k s [] h = cc
clean_in k s (t ∷ ts) h = clean_by k s t.token t.span h

pub name_clean : (k : Kind) (s : State) → clean_first s.code.flags s.at.left ≡ true → name k s ≡ any_word s
unfolding name any_word
name_clean k s h = clean_in k s s.at.left h

-- `await` where it is no clean name

unclean_by : (k : Kind) (s : State) (t : Token) (span : Span) (w : Word) → t ≡ token.Word w → token_is_identifier s.code.flags t ≡ true → token_is_clean s.code.flags t ≡ false
    → name_by k s t span ≡ unclean_name (record { span = span; sym = word_text w }) s
unclean_by k s t span w e h g =
    let i : is_identifier s.code.flags (word_text w) ≡ true = ap (token_is_identifier s.code.flags) (sym e) ∙ h in
    let c : is_name s.code.flags (word_text w) ≡ false = ap (token_is_clean s.code.flags) (sym e) ∙ g in rw (e, c, i) refl

-- where it is a fault it is any word too, and the fault is recorded behind it
abbrev told : Outcome Ident → Outcome Ident
told o = and_then o (λ i u. and_then (fault (fault_at i.span faults.InvalidIdentInAsync) u) (λ _ v. Ok (i, v)))

told_by : (k : Kind) (s : State) (t : Token) (span : Span) → token_is_identifier s.code.flags t ≡ true → token_is_clean s.code.flags t ≡ false → may_bind_await s.code.flags ≡ true
    → name_by k s t span ≡ told (word_by s t span)
unfolding unclean_name
told_by k s (token.Word w) span h g b = rw (g, h, b) refl
told_by k s _ span h g b = cc

told_in : (k : Kind) (s : State) (ts : List TokenAndSpan) → first_is_identifier s.code.flags ts ≡ true → clean_first s.code.flags ts ≡ false → may_bind_await s.code.flags ≡ true
    → name_in k s ts ≡ told (word_in s ts)
told_in k s [] h g b = cc
told_in k s (t ∷ ts) h g b = told_by k s t.token t.span h g b

pub name_unclean : (k : Kind) (s : State) → name_at s.code.flags s.at ≡ true → clean_first s.code.flags s.at.left ≡ false → may_bind_await s.code.flags ≡ true
    → name k s ≡ and_then (any_word s) (λ i u. and_then (fault (fault_at i.span faults.InvalidIdentInAsync) u) (λ _ v. Ok (i, v)))
unfolding name any_word identifier_at
name_unclean k s h g b = told_in k s s.at.left h g b

-- an identifier is a word
is_a_word : (f : Context) (t : Token) → token_is_identifier f t ≡ true → (w : Word) × (t ≡ token.Word w)
is_a_word f (token.Word w) h = (w, refl)
is_a_word f _ h = cc

refused_in : (k : Kind) (s : State) (ts : List TokenAndSpan) → first_is_identifier s.code.flags ts ≡ true → clean_first s.code.flags ts ≡ false → may_bind_await s.code.flags ≡ false
    → name_in k s ts ≡ wanted faults.ExpectedIdent s
unfolding unclean_name
refused_in k s [] h g b = cc
refused_in k s (t ∷ ts) h g b = let (w, e) = is_a_word s.code.flags t.token h in unclean_by k s t.token t.span w e h g ∙ rw b refl

pub name_refused : (k : Kind) (s : State) → name_at s.code.flags s.at ≡ true → clean_first s.code.flags s.at.left ≡ false → may_bind_await s.code.flags ≡ false → name k s ≡ wanted faults.ExpectedIdent s
unfolding name identifier_at
name_refused k s h g b = refused_in k s s.at.left h g b

-- ---- literals

no_literal_of : (span : Span) (t : Token) → is_literal t ≡ false → literal_of span t ≡ None
no_literal_of span (token.Str value raw) h = cc
no_literal_of span (token.Num raw) h = cc
no_literal_of span (token.BigInt raw) h = cc
no_literal_of span (token.Word word.Null) h = cc
no_literal_of span (token.Word word.True) h = cc
no_literal_of span (token.Word word.False) h = cc
no_literal_of span _ h = refl

no_literal_in : (ts : List TokenAndSpan) → literal_first ts ≡ false → literal_in ts ≡ None
no_literal_in [] h = refl
no_literal_in (t ∷ ts) h = no_literal_of t.span t.token h

pub literal_none : (s : State) → literal_first s.at.left ≡ false → literal s ≡ Ok (None, s)
unfolding literal
literal_none s h = rw (no_literal_in s.at.left h) refl

literal_taken_in : (ts : List TokenAndSpan) (t : TokenAndSpan) (x : Tree) → Some t ≡ first ts → literal_of t.span t.token ≡ Some x → literal_in ts ≡ Some x
literal_taken_in [] t x f h = cc
literal_taken_in (u ∷ us) t x f h = let g : t ≡ u = cc in rw (← g) h

pub literal_some : (s : State) (t : TokenAndSpan) (x : Tree) → Some t ≡ first s.at.left → literal_of t.span t.token ≡ Some x → literal s ≡ Ok (Some x, moved s)
unfolding literal
literal_some s t x f h = rw (literal_taken_in s.at.left t x f h) refl

-- ---- regular expressions

no_regex_of : (span : Span) (t : Token) → is_regex t ≡ false → regex_of span t ≡ None
no_regex_of span (token.Regex exp flags) h = cc
no_regex_of span _ h = refl

no_regex_in : (ts : List TokenAndSpan) → regex_first ts ≡ false → regex_in ts ≡ None
no_regex_in [] h = refl
no_regex_in (t ∷ ts) h = no_regex_of t.span t.token h

pub regex_none : (s : State) → regex_first s.at.left ≡ false → regex s ≡ wanted faults.Unexpected s
unfolding regex
regex_none s h = rw (no_regex_in s.at.left h) refl

regex_taken_in : (ts : List TokenAndSpan) (t : TokenAndSpan) (exp flags : Text) → Some t ≡ first ts → t.token ≡ token.Regex exp flags → regex_in ts ≡ Some (tree.regex t.span exp flags)
regex_taken_in [] t exp flags f h = cc
regex_taken_in (u ∷ us) t exp flags f h = let g : t ≡ u = cc in rw (← g, h) refl

pub regex_some : (s : State) (t : TokenAndSpan) (exp flags : Text) → Some t ≡ first s.at.left → t.token ≡ token.Regex exp flags → regex s ≡ Ok (tree.regex t.span exp flags, moved s)
unfolding regex
regex_some s t exp flags f h = rw (regex_taken_in s.at.left t exp flags f h) refl

-- ---- texts of templates

no_text_of : (span : Span) (t : Token) → is_text t ≡ false → text_of span t ≡ None
no_text_of span (token.Template raw cooked) h = cc
no_text_of span (token.TemplateHead raw cooked) h = cc
no_text_of span (token.TemplateMiddle raw cooked) h = cc
no_text_of span (token.TemplateTail raw cooked) h = cc
no_text_of span _ h = refl

no_text_in : (ts : List TokenAndSpan) → text_first ts ≡ false → text_in ts ≡ None
no_text_in [] h = refl
no_text_in (t ∷ ts) h = no_text_of t.span t.token h

pub text_none : (tagged : Bool) (s : State) → text_first s.at.left ≡ false → template_text tagged s ≡ wanted faults.Unexpected s
unfolding template_text
text_none tagged s h = rw (no_text_in s.at.left h) refl

text_taken_in : (ts : List TokenAndSpan) (t : TokenAndSpan) (x : Tree) → Some t ≡ first ts → text_of t.span t.token ≡ Some x → text_in ts ≡ Some x
text_taken_in [] t x f h = cc
text_taken_in (u ∷ us) t x f h = let g : t ≡ u = cc in rw (← g) h

-- a tag stands before it, or each escape in it is one
cooked : (tagged : Bool) (text : Option Text) → (not tagged && is_none text) ≡ false → (tagged || is_some text) ≡ true
cooked true text h = refl
cooked false (Some text) h = refl
cooked false None h = cc

uncooked : (tagged : Bool) (text : Option Text) → (not tagged && is_none text) ≡ true → (tagged || is_some text) ≡ false
uncooked true text h = cc
uncooked false (Some text) h = cc
uncooked false None h = refl

module _ (tagged : Bool) (s : State) (t : TokenAndSpan) (q : TplElement) (stands : Some t ≡ first s.at.left) (found : text_of t.span t.token ≡ Some (quasi_tree q)) where
  pub text_some : (not tagged && is_none q.cooked) ≡ false → template_text tagged s ≡ Ok (quasi_tree q, moved s)
  unfolding template_text
  text_some h = rw (text_taken_in s.at.left t (quasi_tree q) stands found, cooked tagged q.cooked h) refl

  pub text_refused : (not tagged && is_none q.cooked) ≡ true → template_text tagged s ≡ reject (fault_at q.span faults.InvalidStrEscape) (moved s)
  unfolding template_text
  text_refused h = rw (text_taken_in s.at.left t (quasi_tree q) stands found, uncooked tagged q.cooked h) refl

-- ---- shebangs

no_shebang_of : (t : Token) → is_shebang t ≡ false → shebang_of t ≡ None
no_shebang_of (token.Shebang text) h = cc
no_shebang_of _ h = refl

no_shebang_in : (ts : List TokenAndSpan) → shebang_first ts ≡ false → shebang_in ts ≡ None
no_shebang_in [] h = refl
no_shebang_in (t ∷ ts) h = no_shebang_of t.token h

pub shebang_none : (s : State) → shebang_first s.at.left ≡ false → shebang s ≡ Ok (None, s)
unfolding shebang
shebang_none s h = rw (no_shebang_in s.at.left h) refl

shebang_some_in : (ts : List TokenAndSpan) (t : TokenAndSpan) (text : Text) → Some t ≡ first ts → t.token ≡ token.Shebang text → shebang_in ts ≡ Some text
shebang_some_in [] t text f h = cc
shebang_some_in (u ∷ us) t text f h = let g : t ≡ u = cc in rw (← g, h) refl

pub shebang_some : (s : State) (t : TokenAndSpan) (text : Text) → Some t ≡ first s.at.left → t.token ≡ token.Shebang text → shebang s ≡ Ok (Some text, moved s)
unfolding shebang
shebang_some s t text f h = rw (shebang_some_in s.at.left t text f h) refl
