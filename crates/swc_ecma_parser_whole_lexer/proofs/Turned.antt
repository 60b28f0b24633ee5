-- One turn of the source, from what its steps ensure.
use Rattle.std.proofs.Common.{◌≡◌, ℕ, ◌+◌, ◌≤◌, ◌<◌, Bool, true, false, nat_eq, cond, length, take, List, ◌∷◌, ◌++◌, Option, Some, None, refl, ap, sym, ◌∙◌, subst, arith}
use Rattle.std.proofs.lemmas.Bool.{true≢false}
use Rattle.std.proofs.lemmas.Bool.Decides.{nat_tests}
use Rattle.std.specs.Str.{chars, encode_utf8_all, IsUtf8}
use Rattle.swc_ecma_parser_common.specs.declared.span.BytePos.{BytePos}
use Rattle.swc_ecma_parser_common.specs.declared.span.Span.{Span}
use Rattle.swc_ecma_parser_token.specs.declared.token.Token.{Token}
use Rattle.swc_ecma_parser_token.specs.declared.token.TokenAndSpan.{TokenAndSpan}
use Rattle.swc_ecma_parser_input.specs.TokenSource.{IsDrawn}
use Rattle.swc_ecma_parser_scan.specs.declared.piece.Piece.{Piece}
use Rattle.swc_ecma_parser_scan.specs.declared.state.State.{State}
use Rattle.swc_ecma_parser_scan.specs.declared.state.State.TheVariants as state
use Rattle.swc_ecma_parser_scan.proofs.Scans.{piece-chars, piece-splits}
use Rattle.swc_ecma_parser_lexer.specs.declared.place.Place.{Place}
use Rattle.swc_ecma_parser_nesting.specs.declared.nest.Nest.{Nest}
use Rattle.swc_ecma_parser_whole_lexer.specs.declared.form.Form.{Form}
use Rattle.swc_ecma_parser_whole_lexer.specs.declared.form.Form.TheVariants as form
use Rattle.swc_ecma_parser_whole_lexer.specs.declared.form.Goal.{Goal}
use Rattle.swc_ecma_parser_whole_lexer.specs.Forms.{Reading, anew, ended_at, is_comment, is_kept, kept, lost_anew, name, token_anew, Fits}
use Rattle.swc_ecma_parser_whole_lexer.specs.Names as names
use Rattle.swc_ecma_parser_whole_lexer.specs.Runs.{begins_with}
use Rattle.swc_ecma_parser_lexer.specs.declared.escape.Escape.TheVariants as escape
use Rattle.swc_ecma_parser_whole_lexer.specs.Whole.{nest_behind, nest_settled, token_at, tokens_at, tokens_from, IsFound, IsPlaceBehind, IsSettled}
use Rattle.swc_ecma_parser_whole_lexer.proofs.Lists.{size_of, suffix-taken}
use Rattle.swc_ecma_parser_whole_lexer.proofs.Marks.{anew-marks}
use Rattle.swc_ecma_parser_whole_lexer.proofs.Readings.{chars-text, drawn, made, reading, reading-suffix}
use Rattle.swc_ecma_parser_whole_lexer.proofs.Suffixes.{IsSuffix}

-- the characters before a rest
parted : (cs left : List ℕ) → IsSuffix left cs → cs ≡ take (size_of cs left) cs ++ left
parted cs left h = h.parts ∙ ap (λ xs. xs ++ left) (sym (suffix-taken left cs h))

-- what is left when a token is read anew
abbrev pub left-of : Goal → Nest → Bool → Token → List ℕ → List ℕ → List ℕ
left-of g n b tok text rest = (anew g n b tok (chars text) (chars rest)).left

anew-parted : (g : Goal) (n : Nest) (b : Bool) (tok : Token) (text rest : List ℕ) (t : TokenAndSpan) (q : Place) (h : IsFound text rest t q)
    → h.stands.first.behind ≡ take (size_of h.stands.first.behind (left-of g n b tok text rest)) h.stands.first.behind ++ left-of g n b tok text rest
anew-parted g n b tok text rest t q h =
    let suffix = reading-suffix g n b text rest t q h tok in
    parted h.stands.first.behind (left-of g n b tok text rest)
    (subst (λ xs. IsSuffix (anew g n b tok xs (chars rest)).left h.stands.first.behind) (sym (chars-text text rest t q h)) suffix)

-- what is read anew stands before the rest
pub anew-splits : (g : Goal) (n : Nest) (b : Bool) (tok : Token) (text rest end : List ℕ) (t : TokenAndSpan) (q : Place) (h : IsFound text rest t q)
    → IsUtf8 text → IsUtf8 end → chars end ≡ left-of g n b tok text rest
    → text ≡ encode_utf8_all (h.stands.first.first ∷ take (size_of h.stands.first.behind (left-of g n b tok text rest)) h.stands.first.behind) ++ end
anew-splits g n b tok text rest end t q h utf8 end_utf8 e =
    piece-splits text end h.stands.first.first (take (size_of h.stands.first.behind (left-of g n b tok text rest)) h.stands.first.behind) (left-of g n b tok text rest) utf8 end_utf8
    (chars-text text rest t q h ∙ ap (λ xs. h.stands.first.first ∷ xs) (anew-parted g n b tok text rest t q h)) e

-- and has the marks of its form
pub found-marks : (g : Goal) (n : Nest) (b : Bool) (tok : Token) (text rest u end : List ℕ) (f : Form) (t : TokenAndSpan) (q : Place) (h : IsFound text rest t q)
    → IsUtf8 u → text ≡ u ++ end → chars end ≡ left-of g n b tok text rest → f ≡ (anew g n b tok (chars text) (chars rest)).form → Fits f u
found-marks g n b tok text rest u end f t q h utf8 parts e k =
    let c = h.stands.first.first in
    let cs = h.stands.first.behind in
    let is : chars text ≡ c ∷ cs = chars-text text rest t q h in
    let words : chars u ≡ c ∷ take (size_of cs (left-of g n b tok text rest)) cs =
    piece-chars text u end c (take (size_of cs (left-of g n b tok text rest)) cs) (left-of g n b tok text rest) utf8 parts
    (is ∙ ap (λ xs. c ∷ xs) (anew-parted g n b tok text rest t q h)) e in
    subst (λ (x : Form). Fits x u) (sym k)
    (subst (λ xs. chars u ≡ c ∷ take (size_of cs (anew g n b tok xs (chars rest)).left) cs → Fits (anew g n b tok xs (chars rest)).form u) (sym is) (anew-marks g n b tok u c cs (chars rest)) words)

-- what a text is long
pub found-long : (text rest : List ℕ) (t : TokenAndSpan) (q : Place) (h : IsFound text rest t q) → t.span.lo.0 + length text < 4294967296
found-long text rest t q h =
    let low : t.span.lo.0 ≡ h.place.start.0 + h.place.at = ap (λ (s : Span). s.lo.0) h.span in
    omega (arith, low, h.fits, ap length h.text)

pub found-low : (text rest : List ℕ) (t : TokenAndSpan) (q : Place) (h : IsFound text rest t q) → q.start.0 ≤ t.span.lo.0
found-low text rest t q h =
    let low : t.span.lo.0 ≡ h.place.start.0 + h.place.at = ap (λ (s : Span). s.lo.0) h.span in
    let same : q.start.0 ≡ h.place.start.0 = ap (λ (b : BytePos). b.0) h.past.start in
    omega (arith, low, same)

-- a token of its own, told by what a call left
pub turned : (g j : Goal) (n m : Nest) (k i : Bool) (text rest u end : List ℕ) (t out : TokenAndSpan) (tok : Token) (q p z : Place) (h : IsFound text rest t q) (r : Reading) → reading g n k t h ≡ r
    → IsUtf8 text → IsUtf8 end → text ≡ u ++ end → chars end ≡ r.left → is_comment r.form ≡ false → IsPlaceBehind q.start t.span.lo false text end p
    → token_at t.span.lo.0 t.had_line_break r.form u (made t h) ≡ token_at t.span.lo.0 t.had_line_break r.form u tok
    → m ≡ nest_settled (nest_behind n (token_at t.span.lo.0 t.had_line_break r.form u tok).token)
    → IsSettled (nest_behind n (token_at t.span.lo.0 t.had_line_break r.form u tok).token) (token_at t.span.lo.0 t.had_line_break r.form u tok) out
    → j ≡ g → i ≡ true → z ≡ p
    → IsDrawn (tokens_from g n k q.start t text) out (tokens_at j m i z)
turned g j n m k i text rest u end t out tok q p z h r same utf8 end_utf8 parts left e place token nest s jg it zp =
    let back : tokens_at g m true p ≡ tokens_at j m i z =
    ap (λ (x : Goal). tokens_at x m true p) (sym jg) ∙ ap (λ v. tokens_at j m v p) (sym it) ∙ ap (tokens_at j m i) (sym zp) in
    subst (λ ts. IsDrawn (tokens_from g n k q.start t text) out ts) back
    (drawn g n m k text rest u end t out q p h r same utf8 end_utf8 parts left e place
    (nest ∙ ap (λ (x : TokenAndSpan). nest_settled (nest_behind n x.token)) (sym token))
    (subst (λ (x : TokenAndSpan). IsSettled (nest_behind n x.token) x out) (sym token) s))

-- A token for which there was no memory.

-- its piece is the one that was found
pub record IsSamePiece (a : Piece) (b : Piece) : Type 0 where
  pub state : a.state ≡ b.state
  pub text : a.text.now ≡ b.text.now

pub first-same : (c d : ℕ) (xs ys : List ℕ) → c ∷ xs ≡ d ∷ ys → c ≡ d
first-same c d xs ys e = cc

pub later-same : (c d : ℕ) (xs ys : List ℕ) → c ∷ xs ≡ d ∷ ys → xs ≡ ys
later-same c d xs ys e = cc

pub is-first : (text rest : List ℕ) (t : TokenAndSpan) (q : Place) (h : IsFound text rest t q) → nat_eq t.span.lo.0 q.start.0 ≡ nat_eq h.place.at 0
is-first text rest t q h =
    let low : t.span.lo.0 ≡ h.place.start.0 + h.place.at = ap (λ (s : Span). s.lo.0) h.span in
    let same : q.start.0 ≡ h.place.start.0 = ap (λ (b : BytePos). b.0) h.past.start in
    grind (arith, nat_tests)

-- such a form has a token of its own
lost-choice : (v : Bool) (r s : Reading) (b : Bool) (low : ℕ) (u : List ℕ) (x y : Token)
    → (is_kept r.form ≡ false → token_at low b r.form u x ≡ token_at low b r.form u y) → is_kept s.form ≡ true → is_kept (cond v r s).form ≡ false
    → token_at low b (cond v r s).form u x ≡ token_at low b (cond v r s).form u y
lost-choice true r s b low u x y f g e = f e
lost-choice false r s b low u x y f g e = absurd (true≢false (sym g ∙ e))

named-token : (o : Option (List ℕ)) (left : List ℕ) (b : Bool) (low : ℕ) (u : List ℕ) (x y : Token) → is_kept (ended_at form.EscapedName o left).form ≡ false
    → token_at low b (ended_at form.EscapedName o left).form u x ≡ token_at low b (ended_at form.EscapedName o left).form u y
unfolding token_at token_anew is_kept
named-token (Some end) left b low u x y e = refl
named-token None left b low u x y e = absurd (true≢false e)

kept-is : (left : List ℕ) → is_kept (kept left).form ≡ true
unfolding is_kept
kept-is left = refl

-- a form that a lost token has of its own makes the same token whatever stood there
pub lost-token : (s : State) (cs left : List ℕ) (b : Bool) (low : ℕ) (u : List ℕ) (x y : Token) → is_kept (lost_anew s cs left).form ≡ false
    → token_at low b (lost_anew s cs left).form u x ≡ token_at low b (lost_anew s cs left).form u y
unfolding lost_anew name
lost-token state.Name cs left b low u x y e =
    lost-choice (begins_with 92 left) (name cs left) (kept left) b low u x y (named-token (names.past_name true escape.Text cs) left b low u x y) (kept-is left) e
lost-token s cs left b low u x y e = absurd (true≢false (sym (kept-is left) ∙ e))

comment-choice : (v : Bool) (r s : Reading) → is_comment r.form ≡ false → is_comment s.form ≡ false → is_comment (cond v r s).form ≡ false
comment-choice true r s f g = f
comment-choice false r s f g = g

named-silent : (o : Option (List ℕ)) (left : List ℕ) → is_comment (ended_at form.EscapedName o left).form ≡ false
unfolding is_comment
named-silent (Some end) left = refl
named-silent None left = refl

kept-silent : (left : List ℕ) → is_comment (kept left).form ≡ false
unfolding is_comment
kept-silent left = refl

-- it is no comment
pub lost-silent : (s : State) (cs left : List ℕ) → is_comment (lost_anew s cs left).form ≡ false
unfolding lost_anew name
lost-silent state.Name cs left =
    comment-choice (begins_with 92 left) (name cs left) (kept left) (named-silent (names.past_name true escape.Text cs) left) (kept-silent left)
lost-silent s cs left = kept-silent left
