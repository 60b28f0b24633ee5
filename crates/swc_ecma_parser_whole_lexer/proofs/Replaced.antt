-- A token that a form has of its own, in the place of another.
use Rattle.std.proofs.Common.{◌≡◌, ℕ, Bool, true, length, List, [], Option, Some, None, refl, ap, sym, ◌∙◌, subst}
use Rattle.std.proofs.lemmas.Bool.{true≢false}
use Rattle.std.specs.Option.{unwrap_or, IsSome}
use Rattle.swc_ecma_parser_token.specs.declared.token.Token.{Token}
use Rattle.swc_ecma_parser_token.specs.declared.token.TokenAndSpan.{TokenAndSpan}
use Rattle.swc_ecma_parser_input.specs.TokenSource.{is_out_of_memory}
use Rattle.swc_ecma_parser_lexer.specs.Tokens.{span_at}
use Rattle.swc_ecma_parser_nesting.specs.declared.nest.Nest.{Nest}
use Rattle.swc_ecma_parser_nesting.specs.Nesting.{pass}
use Rattle.swc_ecma_parser_whole_lexer.specs.declared.form.Form.{Form}
use Rattle.swc_ecma_parser_whole_lexer.specs.Forms.{kind_anew, token_anew}
use Rattle.swc_ecma_parser_whole_lexer.specs.Whole.{name_of, nest_behind, nest_settled, settled, token_at, IsSettled}
use Rattle.swc_ecma_parser_whole_lexer.proofs.Lost.{kind-of-anew}
use Rattle.swc_ecma_parser_whole_lexer.proofs.Readings.{settled-at}

made-at : ℕ → Bool → List ℕ → Token → Option Token → TokenAndSpan
made-at low b u plain o = record { token = unwrap_or o plain; had_line_break = b; span = span_at low (length u) }

pub some-at : (low : ℕ) (b : Bool) (f : Form) (u : List ℕ) (plain tok : Token) → token_anew f u (span_at low (length u)) ≡ Some tok
    → token_at low b f u plain ≡ record { token = tok; had_line_break = b; span = span_at low (length u) }
unfolding token_at made-at
some-at low b f u plain tok e = ap (made-at low b u plain) e

pub none-at : (low : ℕ) (b : Bool) (f : Form) (u : List ℕ) (plain : Token) → token_anew f u (span_at low (length u)) ≡ None
    → token_at low b f u plain ≡ record { token = plain; had_line_break = b; span = span_at low (length u) }
unfolding token_at made-at
none-at low b f u plain e = ap (made-at low b u plain) e

-- what it opens is told by the form
pub opens-as : (n : Nest) (low : ℕ) (b : Bool) (f : Form) (u : List ℕ) (plain tok : Token) → token_anew f u (span_at low (length u)) ≡ Some tok
    → nest_behind n (token_at low b f u plain).token ≡ pass n (kind_anew f) []
opens-as n low b f u plain tok e =
    let k = kind-of-anew f u (span_at low (length u)) tok e in
    ap (λ (x : TokenAndSpan). nest_behind n x.token) (some-at low b f u plain tok e)
    ∙ ap (λ kind. pass n kind (name_of tok)) k.kind ∙ ap (pass n (kind_anew f)) k.says

-- Each outcome, told by what the calls ensure.

pub some-found : (n : Nest) (low : ℕ) (b : Bool) (f : Form) (u : List ℕ) (plain tok : Token) (out : TokenAndSpan) → token_anew f u (span_at low (length u)) ≡ Some tok
    → out ≡ settled (nest_behind n tok) (record { token = tok; had_line_break = b; span = span_at low (length u) })
    → IsSettled (nest_behind n (token_at low b f u plain).token) (token_at low b f u plain) out
some-found n low b f u plain tok out e h =
    let it : TokenAndSpan = record { token = tok; had_line_break = b; span = span_at low (length u) } in
    subst (λ (x : TokenAndSpan). IsSettled (nest_behind n x.token) x out) (sym (some-at low b f u plain tok e))
    (subst (λ (o : TokenAndSpan). IsSettled (nest_behind n tok) it o) (sym h) (settled-at (nest_behind n tok) it))

pub some-nest : (n : Nest) (low : ℕ) (b : Bool) (f : Form) (u : List ℕ) (plain tok : Token) (m : Nest) → token_anew f u (span_at low (length u)) ≡ Some tok
    → m ≡ nest_settled (nest_behind n tok) → m ≡ nest_settled (nest_behind n (token_at low b f u plain).token)
some-nest n low b f u plain tok m e h =
    h ∙ ap (λ (x : TokenAndSpan). nest_settled (nest_behind n x.token)) (sym (some-at low b f u plain tok e))

pub none-found : (n : Nest) (low : ℕ) (b : Bool) (f : Form) (u : List ℕ) (plain : Token) (out : TokenAndSpan) → token_anew f u (span_at low (length u)) ≡ None
    → out ≡ settled (nest_behind n plain) (record { token = plain; had_line_break = b; span = span_at low (length u) })
    → IsSettled (nest_behind n (token_at low b f u plain).token) (token_at low b f u plain) out
none-found n low b f u plain out e h =
    let it : TokenAndSpan = record { token = plain; had_line_break = b; span = span_at low (length u) } in
    subst (λ (x : TokenAndSpan). IsSettled (nest_behind n x.token) x out) (sym (none-at low b f u plain e))
    (subst (λ (o : TokenAndSpan). IsSettled (nest_behind n plain) it o) (sym h) (settled-at (nest_behind n plain) it))

pub none-nest : (n : Nest) (low : ℕ) (b : Bool) (f : Form) (u : List ℕ) (plain : Token) (m : Nest) → token_anew f u (span_at low (length u)) ≡ None
    → m ≡ nest_settled (nest_behind n plain) → m ≡ nest_settled (nest_behind n (token_at low b f u plain).token)
none-nest n low b f u plain m e h =
    h ∙ ap (λ (x : TokenAndSpan). nest_settled (nest_behind n x.token)) (sym (none-at low b f u plain e))

pub lost-found : (n : Nest) (low : ℕ) (b : Bool) (f : Form) (u : List ℕ) (plain : Token) (out : TokenAndSpan) → out.span ≡ span_at low (length u) → out.had_line_break ≡ b → is_out_of_memory out.token ≡ true
    → IsSettled (nest_behind n (token_at low b f u plain).token) (token_at low b f u plain) out
unfolding token_at
lost-found n low b f u plain out s k lost = record {
  span = s;
  had_line_break = k;
  same = λ e. absurd (true≢false (sym lost ∙ e));
}

is-some : (o : Option Token) → IsSome o → (t : Token) × (o ≡ Some t)
is-some (Some t) h = (t, refl)
is-some None h = absurd (cc h)

pub lost-nest : (n : Nest) (low : ℕ) (b : Bool) (f : Form) (u : List ℕ) (plain : Token) (m : Nest) → IsSome (token_anew f u (span_at low (length u)))
    → m ≡ nest_settled (pass n (kind_anew f) []) → m ≡ nest_settled (nest_behind n (token_at low b f u plain).token)
lost-nest n low b f u plain m h e =
    let is = is-some (token_anew f u (span_at low (length u))) h in
    e ∙ ap nest_settled (sym (opens-as n low b f u plain is.0 is.1))
