-- A token that is read anew, or stays, from what the steps of a turn ensure.
use Rattle.std.proofs.Common.{◌≡◌, ℕ, ◌+◌, ◌<◌, Bool, true, false, not, nat_eq, ◌||◌, length, take, List, [], ◌∷◌, ◌++◌, refl, ap, sym, ◌∙◌, subst, arith, length-append}
use Rattle.std.proofs.lemmas.Bool.{true≢false}
use Rattle.std.proofs.lemmas.Str.{encodes-chars, length-le-encodes}
use Rattle.std.specs.Str.{chars, encode_utf8_all, IsUtf8}
use Rattle.swc_ecma_parser_token.specs.declared.token.Token.{Token}
use Rattle.swc_ecma_parser_token.specs.declared.token.TokenAndSpan.{TokenAndSpan}
use Rattle.swc_ecma_parser_input.specs.TokenSource.{IsDrawn, is_out_of_memory}
use Rattle.swc_ecma_parser_scan.specs.declared.piece.Piece.{Piece}
use Rattle.swc_ecma_parser_scan.specs.declared.state.State.{State}
use Rattle.swc_ecma_parser_scan.specs.Scan.{Munched, scan, IsFirstPiece}
use Rattle.swc_ecma_parser_lexer.specs.declared.place.Place.{Place}
use Rattle.swc_ecma_parser_lexer.specs.Tokens.{span_at}
use Rattle.swc_ecma_parser_nesting.specs.declared.nest.Nest.{Nest}
use Rattle.swc_ecma_parser_nesting.specs.Nesting.{pass}
use Rattle.swc_ecma_parser_whole_lexer.specs.declared.form.Form.{Form}
use Rattle.swc_ecma_parser_whole_lexer.specs.declared.form.Form.TheVariants as form
use Rattle.swc_ecma_parser_whole_lexer.specs.declared.form.Goal.{Goal}
use Rattle.swc_ecma_parser_whole_lexer.specs.Forms.{Reading, anew, is_comment, is_kept, kept, lost_anew, token_anew, Fits}
use Rattle.swc_ecma_parser_whole_lexer.specs.Whole.{kind_of, lost_name, nest_behind, nest_settled, token_at, tokens_at, tokens_from, IsFound, IsPlaceBehind, IsSettled}
use Rattle.swc_ecma_parser_whole_lexer.proofs.Lists.{size_of}
use Rattle.swc_ecma_parser_whole_lexer.proofs.Lost.{lost-as, lost-stays}
use Rattle.swc_ecma_parser_whole_lexer.proofs.Readings.{chars-text, comes, drawn, low-span, made, reading, text-parts, unlost-made}
use Rattle.swc_ecma_parser_whole_lexer.proofs.Turned.{anew-splits, found-marks, is-first, left-of, lost-silent, lost-token, turned, IsSamePiece, first-same, later-same}

-- What stands before a rest.

-- characters, one or more, of which so many bytes are made, and what is left behind them
pub record IsBefore (text : List ℕ) (end : List ℕ) : Type 0 where
  pub taken : List ℕ
  pub parts : text ≡ taken ++ end
  pub begun : 0 < length taken

pub anew-before : (g : Goal) (n : Nest) (b : Bool) (tok : Token) (text rest end : List ℕ) (t : TokenAndSpan) (q : Place) (h : IsFound text rest t q)
    → IsUtf8 text → IsUtf8 end → chars end ≡ left-of g n b tok text rest → IsBefore text end
anew-before g n b tok text rest end t q h utf8 end_utf8 e =
    let c = h.stands.first.first in
    let cs = take (size_of h.stands.first.behind (left-of g n b tok text rest)) h.stands.first.behind in
    record {
      taken = encode_utf8_all (c ∷ cs);
      parts = anew-splits g n b tok text rest end t q h utf8 end_utf8 e;
      begun = omega (arith, length-le-encodes (c ∷ cs));
    }

pub before-shorter : (text end : List ℕ) → IsBefore text end → length end < length text
before-shorter text end h = omega (arith, ap length h.parts, length-append h.taken end, h.begun)

pub part-long : (text u end : List ℕ) (low most : ℕ) → text ≡ u ++ end → low + length text < most → low + length u < most
part-long text u end low most e h = omega (arith, h, ap length e, length-append u end)

-- A token that memory was found for.

-- what it is read anew as, given the token itself
abbrev pub seen-as : {text rest : List ℕ} {q : Place} → Goal → Nest → Bool → (t : TokenAndSpan) → IsFound text rest t q → Reading
seen-as {text} {rest} g n k t h = anew g n (t.had_line_break || not k) t.token (chars text) (chars rest)

pub seen : (g : Goal) (n : Nest) (k : Bool) (text rest : List ℕ) (t : TokenAndSpan) (q : Place) (h : IsFound text rest t q) → is_out_of_memory t.token ≡ false → reading g n k t h ≡ seen-as g n k t h
seen g n k text rest t q h lost = ap (λ (x : Token). anew g n (t.had_line_break || not k) x (chars text) (chars rest)) (unlost-made text rest t q h lost)

pub commented : (g j : Goal) (n m : Nest) (k i : Bool) (text rest end : List ℕ) (t : TokenAndSpan) (q p z : Place) (h : IsFound text rest t q) (f : Form)
    → is_out_of_memory t.token ≡ false → IsUtf8 text → IsUtf8 end → f ≡ (seen-as g n k t h).form → chars end ≡ (seen-as g n k t h).left → is_comment f ≡ true
    → IsPlaceBehind q.start t.span.lo t.had_line_break text end p → j ≡ g → m ≡ n → i ≡ k → z ≡ p
    → tokens_from g n k q.start t text ≡ tokens_at j m i z
commented g j n m k i text rest end t q p z h f lost utf8 end_utf8 ef el comment place jg mn ik zp =
    let before = anew-before g n (t.had_line_break || not k) t.token text rest end t q h utf8 end_utf8 el in
    comes g n k text rest before.taken end t q p h (seen-as g n k t h) (seen g n k text rest t q h lost) utf8 end_utf8 before.parts el (ap is_comment (sym ef) ∙ comment) place
    ∙ ap (λ (x : Goal). tokens_at x n k p) (sym jg) ∙ ap (λ (x : Nest). tokens_at j x k p) (sym mn) ∙ ap (λ (v : Bool). tokens_at j m v p) (sym ik) ∙ ap (tokens_at j m i) (sym zp)

pub changed : (g j : Goal) (n o m : Nest) (k i : Bool) (text rest u end : List ℕ) (t out : TokenAndSpan) (q p z : Place) (h : IsFound text rest t q) (f : Form)
    → is_out_of_memory t.token ≡ false → IsUtf8 text → IsUtf8 end → text ≡ u ++ end → f ≡ (seen-as g n k t h).form → chars end ≡ (seen-as g n k t h).left → is_comment f ≡ false
    → IsPlaceBehind q.start t.span.lo false text end p → o ≡ n
    → m ≡ nest_settled (nest_behind o (token_at t.span.lo.0 t.had_line_break f u t.token).token)
    → IsSettled (nest_behind o (token_at t.span.lo.0 t.had_line_break f u t.token).token) (token_at t.span.lo.0 t.had_line_break f u t.token) out
    → j ≡ g → i ≡ true → z ≡ p
    → IsDrawn (tokens_from g n k q.start t text) out (tokens_at j m i z)
changed g j n o m k i text rest u end t out q p z h f lost utf8 end_utf8 parts ef el comment place on nest s jg it zp =
    let r = seen-as g n k t h in
    let low = t.span.lo.0 in
    let b = t.had_line_break in
    turned g j n m k i text rest u end t out t.token q p z h r (seen g n k text rest t q h lost) utf8 end_utf8 parts el (ap is_comment (sym ef) ∙ comment) place
    (ap (token_at low b r.form u) (unlost-made text rest t q h lost))
    (nest ∙ ap (λ (x : Nest). nest_settled (nest_behind x (token_at low b f u t.token).token)) on ∙ ap (λ (x : Form). nest_settled (nest_behind n (token_at low b x u t.token).token)) ef)
    (subst (λ (x : Form). IsSettled (nest_behind n (token_at low b x u t.token).token) (token_at low b x u t.token) out) ef
    (subst (λ (x : Nest). IsSettled (nest_behind x (token_at low b f u t.token).token) (token_at low b f u t.token) out) on s))
    jg it zp

-- A token for which there was no memory.

pub same-piece : (text rest : List ℕ) (t : TokenAndSpan) (q : Place) (h : IsFound text rest t q) (first : Bool) (piece : Piece) → first ≡ nat_eq t.span.lo.0 q.start.0 → IsFirstPiece first text piece → IsSamePiece piece h.piece
same-piece text rest t q h first piece e f =
    let c = f.first in
    let cs = f.behind in
    let d = h.stands.first.first in
    let ds = h.stands.first.behind in
    let v = nat_eq h.place.at 0 in
    let all : c ∷ cs ≡ d ∷ ds = sym f.begins ∙ chars-text text rest t q h in
    let head : c ≡ d = first-same c d cs ds all in
    let s : scan first c cs ≡ scan v d ds =
    ap (λ (x : Bool). scan x c cs) (e ∙ is-first text rest t q h) ∙ ap (λ (x : ℕ). scan v x cs) head ∙ ap (scan v d) (later-same c d cs ds all) in
    record {
      state = f.state ∙ ap (λ (x : Munched). x.state) s ∙ sym h.stands.first.state;
      text =
          sym (encodes-chars piece.text.now f.utf8)
          ∙ ap encode_utf8_all (f.taken ∙ ap (λ (x : ℕ). x ∷ (scan first c cs).taken) head ∙ ap (λ (x : Munched). d ∷ x.taken) s ∙ sym h.stands.first.taken)
          ∙ encodes-chars h.piece.text.now h.stands.first.utf8;
    }

-- what it is read anew as, given its piece
abbrev pub lost-as-piece : {text rest : List ℕ} {q : Place} → (t : TokenAndSpan) → IsFound text rest t q → Piece → Reading
lost-as-piece {text} {rest} t h piece = lost_anew piece.state (chars text) (chars rest)

pub lost-read : (g : Goal) (n : Nest) (k : Bool) (text rest : List ℕ) (t : TokenAndSpan) (q : Place) (h : IsFound text rest t q) (piece : Piece) → is_out_of_memory t.token ≡ true → IsSamePiece piece h.piece
    → reading g n k t h ≡ lost-as-piece t h piece
lost-read g n k text rest t q h piece lost s =
    (lost-as g n (t.had_line_break || not k) (chars text) (chars rest) h.piece.state h.piece.text.now t.span (h.lost lost)).read
    ∙ ap (λ (x : State). lost_anew x (chars text) (chars rest)) (sym s.state)

lost-left : (g : Goal) (n : Nest) (k : Bool) (text rest end : List ℕ) (t : TokenAndSpan) (q : Place) (h : IsFound text rest t q) (piece : Piece) → is_out_of_memory t.token ≡ true → IsSamePiece piece h.piece
    → chars end ≡ (lost-as-piece t h piece).left → chars end ≡ (reading g n k t h).left
lost-left g n k text rest end t q h piece lost s e = e ∙ ap (λ (x : Reading). x.left) (sym (lost-read g n k text rest t q h piece lost s))

pub lost-before : (g : Goal) (n : Nest) (text rest end : List ℕ) (t : TokenAndSpan) (q : Place) (h : IsFound text rest t q) (piece : Piece) → is_out_of_memory t.token ≡ true → IsSamePiece piece h.piece
    → IsUtf8 text → IsUtf8 end → chars end ≡ (lost-as-piece t h piece).left → IsBefore text end
lost-before g n text rest end t q h piece lost s utf8 end_utf8 e =
    anew-before g n (t.had_line_break || not false) (made t h) text rest end t q h utf8 end_utf8 (lost-left g n false text rest end t q h piece lost s e)

pub lost-marks : (g : Goal) (n : Nest) (text rest u end : List ℕ) (f : Form) (t : TokenAndSpan) (q : Place) (h : IsFound text rest t q) (piece : Piece) → is_out_of_memory t.token ≡ true → IsSamePiece piece h.piece
    → IsUtf8 u → text ≡ u ++ end → chars end ≡ (lost-as-piece t h piece).left → f ≡ (lost-as-piece t h piece).form → Fits f u
lost-marks g n text rest u end f t q h piece lost s utf8 parts e k =
    found-marks g n (t.had_line_break || not false) (made t h) text rest u end f t q h utf8 parts (lost-left g n false text rest end t q h piece lost s e)
    (k ∙ ap (λ (x : Reading). x.form) (sym (lost-read g n false text rest t q h piece lost s)))

pub lost-changed : (g j : Goal) (n o m : Nest) (k i : Bool) (text rest u end : List ℕ) (t out : TokenAndSpan) (q p z : Place) (h : IsFound text rest t q) (piece : Piece) (f : Form)
    → is_out_of_memory t.token ≡ true → IsSamePiece piece h.piece → IsUtf8 text → IsUtf8 end → text ≡ u ++ end → f ≡ (lost-as-piece t h piece).form → chars end ≡ (lost-as-piece t h piece).left → is_kept f ≡ false
    → IsPlaceBehind q.start t.span.lo false text end p → o ≡ n
    → m ≡ nest_settled (nest_behind o (token_at t.span.lo.0 t.had_line_break f u t.token).token)
    → IsSettled (nest_behind o (token_at t.span.lo.0 t.had_line_break f u t.token).token) (token_at t.span.lo.0 t.had_line_break f u t.token) out
    → j ≡ g → i ≡ true → z ≡ p
    → IsDrawn (tokens_from g n k q.start t text) out (tokens_at j m i z)
lost-changed g j n o m k i text rest u end t out q p z h piece f lost same utf8 end_utf8 parts ef el own place on nest s jg it zp =
    let r = lost-as-piece t h piece in
    let low = t.span.lo.0 in
    let b = t.had_line_break in
    turned g j n m k i text rest u end t out t.token q p z h r (lost-read g n k text rest t q h piece lost same) utf8 end_utf8 parts el (lost-silent piece.state (chars text) (chars rest)) place
    (lost-token piece.state (chars text) (chars rest) b low u (made t h) t.token (ap is_kept (sym ef) ∙ own))
    (nest ∙ ap (λ (x : Nest). nest_settled (nest_behind x (token_at low b f u t.token).token)) on ∙ ap (λ (x : Form). nest_settled (nest_behind n (token_at low b x u t.token).token)) ef)
    (subst (λ (x : Form). IsSettled (nest_behind n (token_at low b x u t.token).token) (token_at low b x u t.token) out) ef
    (subst (λ (x : Nest). IsSettled (nest_behind x (token_at low b f u t.token).token) (token_at low b f u t.token) out) on s))
    jg it zp

pub kept-form : (f : Form) → is_kept f ≡ true → f ≡ form.Kept
unfolding is_kept
kept-form form.Kept e = refl
kept-form f e = absurd (true≢false (sym e))

-- texts of the same characters
pub same-bytes : (xs ys : List ℕ) → IsUtf8 xs → IsUtf8 ys → chars xs ≡ chars ys → xs ≡ ys
same-bytes xs ys h k e = sym (encodes-chars xs h) ∙ ap encode_utf8_all e ∙ encodes-chars ys k

lost-settled : (n : Nest) (t : TokenAndSpan) (u : List ℕ) (plain : Token) → t.span ≡ span_at t.span.lo.0 (length u) → is_out_of_memory t.token ≡ true
    → IsSettled (nest_behind n (token_at t.span.lo.0 t.had_line_break form.Kept u plain).token) (token_at t.span.lo.0 t.had_line_break form.Kept u plain) t
unfolding token_at
lost-settled n t u plain e lost = record {
  span = e;
  had_line_break = refl;
  same = λ f. absurd (true≢false (sym lost ∙ f));
}

pub lost-nest : (n : Nest) (low : ℕ) (b : Bool) (u : List ℕ) (plain : Token) (passed : Nest) → nest_behind n plain ≡ passed → nest_behind n (token_at low b form.Kept u plain).token ≡ passed
unfolding token_at token_anew
lost-nest n low b u plain passed e = e

pub kept-comment : (left : List ℕ) → is_comment (kept left).form ≡ false
unfolding is_comment
kept-comment left = refl

pub lost-kept : (g j : Goal) (n o m : Nest) (k i : Bool) (text rest end : List ℕ) (t : TokenAndSpan) (q p z : Place) (h : IsFound text rest t q) (piece : Piece) (f : Form)
    → is_out_of_memory t.token ≡ true → IsSamePiece piece h.piece → IsUtf8 text → IsUtf8 rest → IsUtf8 end → f ≡ (lost-as-piece t h piece).form → chars end ≡ (lost-as-piece t h piece).left → is_kept f ≡ true
    → IsPlaceBehind q.start t.span.lo false text end p → o ≡ n
    → m ≡ nest_settled (pass o (kind_of piece.state) (lost_name piece.state piece.text.now))
    → j ≡ g → i ≡ true → z ≡ p
    → IsDrawn (tokens_from g n k q.start t text) t (tokens_at j m i z)
lost-kept g j n o m k i text rest end t q p z h piece f lost same utf8 rest_utf8 end_utf8 ef el own place on nest jg it zp =
    let u = h.piece.text.now in
    let low = t.span.lo.0 in
    let b = t.had_line_break in
    let known = lost-as g n (b || not k) (chars text) (chars rest) h.piece.state u t.span (h.lost lost) in
    let stays : lost-as-piece t h piece ≡ kept (chars rest) = lost-stays piece.state (chars text) (chars rest) (sym ef ∙ kept-form f own) in
    let ends : chars end ≡ chars rest = el ∙ ap (λ (x : Reading). x.left) stays in
    let parts : text ≡ u ++ end = text-parts text rest t q h ∙ ap (λ xs. u ++ xs) (sym (same-bytes end rest end_utf8 rest_utf8 ends)) in
    let passed : pass o (kind_of piece.state) (lost_name piece.state piece.text.now) ≡ nest_behind n (made t h) =
    ap (λ (x : Nest). pass x (kind_of piece.state) (lost_name piece.state piece.text.now)) on
    ∙ ap (λ (x : State). pass n (kind_of x) (lost_name x piece.text.now)) same.state
    ∙ ap (λ xs. pass n (kind_of h.piece.state) (lost_name h.piece.state xs)) same.text ∙ sym known.nest in
    let back : tokens_at g m true p ≡ tokens_at j m i z =
    ap (λ (x : Goal). tokens_at x m true p) (sym jg) ∙ ap (λ (v : Bool). tokens_at j m v p) (sym it) ∙ ap (tokens_at j m i) (sym zp) in
    subst (λ ts. IsDrawn (tokens_from g n k q.start t text) t ts) back
    (drawn g n m k text rest u end t t q p h (kept (chars rest)) (lost-read g n k text rest t q h piece lost same ∙ stays) utf8 end_utf8 parts ends (kept-comment (chars rest)) place
    (nest ∙ ap nest_settled (passed ∙ sym (lost-nest n low b u (made t h) (nest_behind n (made t h)) refl)))
    (lost-settled n t u (made t h) (low-span t (h.place.start.0 + h.place.at) (length u) h.span) lost))

nothing-begins : (c : ℕ) (cs : List ℕ) → c ∷ cs ≡ [] → ⊥
nothing-begins c cs e = cc e

-- no piece stands at the end of a text alone
pub lost-nothing : (text rest : List ℕ) (t : TokenAndSpan) (q : Place) (h : IsFound text rest t q) → chars text ≡ [] → ⊥
lost-nothing text rest t q h e = nothing-begins h.stands.first.first h.stands.first.behind (sym (chars-text text rest t q h) ∙ e)
