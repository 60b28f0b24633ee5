-- What is read at a token of `Lexer`: the tokens from there on, before and behind it.
use Rattle.std.proofs.Common.{◌≡◌, ℕ, ◌+◌, ◌-◌, Bool, true, false, not, nat_eq, ◌&&◌, ◌||◌, cond, length, take, List, ◌∷◌, ◌++◌, refl, ap, sym, ◌∙◌, subst, arith, length-append}
use Rattle.std.proofs.lemmas.List.{append_cancel_right}
use Rattle.std.proofs.lemmas.Str.{encodes-chars}
use Rattle.std.specs.Char.{encode_utf8}
use Rattle.std.specs.Str.{chars, encode_utf8_all, IsUtf8}
use Rattle.swc_ecma_parser_common.specs.declared.span.BytePos.{BytePos}
use Rattle.swc_ecma_parser_common.specs.declared.span.Span.{Span}
use Rattle.swc_ecma_parser_token.specs.declared.token.Token.{Token}
use Rattle.swc_ecma_parser_token.specs.declared.token.TokenAndSpan.{TokenAndSpan}
use Rattle.swc_ecma_parser_input.specs.TokenSource.{IsDrawn, is_out_of_memory}
use Rattle.swc_ecma_parser_scan.specs.declared.state.State.{State}
use Rattle.swc_ecma_parser_scan.specs.Scan.{scan}
use Rattle.swc_ecma_parser_scan.proofs.Scans.{piece-splits}
use Rattle.swc_ecma_parser_lexer.specs.declared.place.Place.{Place}
use Rattle.swc_ecma_parser_lexer.specs.Make.{token_of}
use Rattle.swc_ecma_parser_lexer.specs.Tokens.{breaks, is_skipped, span_at, IsBlind}
use Rattle.swc_ecma_parser_nesting.specs.declared.nest.Nest.{Nest}
use Rattle.swc_ecma_parser_nesting.specs.Nesting.{is_too_deep}
use Rattle.swc_ecma_parser_whole_lexer.specs.declared.form.Form.TheVariants as form
use Rattle.swc_ecma_parser_whole_lexer.specs.declared.form.Goal.{Goal}
use Rattle.swc_ecma_parser_whole_lexer.specs.Forms.{Reading, anew, is_comment, kept, token_anew}
use Rattle.swc_ecma_parser_whole_lexer.specs.Whole.{may_change, nest_behind, nest_settled, settled, token_at, tokens, tokens_at, tokens_behind, tokens_from, IsFound, IsPlaceBehind, IsSettled}
use Rattle.swc_ecma_parser_whole_lexer.proofs.Anew.{anew-suffix, unchanged, unlost}
use Rattle.swc_ecma_parser_whole_lexer.proofs.Lists.{size_of, suffix-size, suffix-taken, to-end}
use Rattle.swc_ecma_parser_whole_lexer.proofs.Suffixes.{IsSuffix, scan-suffix}
use Rattle.swc_ecma_parser_scan.specs.Splits.{scan-splits}

-- the tokens from a character on that a token begins, which reads as `r`
from_token : Goal → ℕ → ℕ → Bool → Bool → Nest → ℕ → List ℕ → Token → Reading → List TokenAndSpan
from_token g start at b k n c cs made r =
    let text = encode_utf8_all (c ∷ take (size_of cs r.left) cs) in
    let t = token_at (start + at) b r.form text made in
    let passed = nest_behind n t.token in
    cond (is_comment r.form) (tokens g start (at + length text) b k n r.left)
    (settled passed t ∷ tokens g start (at + length text) false true (nest_settled passed) r.left)

-- the same, with what follows from behind the first character on
unended : Goal → ℕ → ℕ → Bool → Bool → Nest → ℕ → List ℕ → Token → Reading → List TokenAndSpan
unended g start at b k n c cs made r =
    let behind = at + length (encode_utf8 c) in
    let size = length cs - length r.left in
    let t = token_at (start + at) b r.form (encode_utf8_all (c ∷ take size cs)) made in
    let passed = nest_behind n t.token in
    cond (is_comment r.form) (tokens_behind g start size behind b k n cs)
    (settled passed t ∷ tokens_behind g start size behind false true (nest_settled passed) cs)

ended : (g : Goal) (start at : ℕ) (b k : Bool) (n : Nest) (c : ℕ) (cs : List ℕ) (made : Token) (r : Reading) → IsSuffix r.left cs
    → unended g start at b k n c cs made r ≡ from_token g start at b k n c cs made r
unfolding unended from_token size_of
ended g start at b k n c cs made r h =
    let behind = at + length (encode_utf8 c) in
    let size = length cs - length r.left in
    let t = token_at (start + at) b r.form (encode_utf8_all (c ∷ take size cs)) made in
    let passed = nest_behind n t.token in
    ap (λ ts. cond (is_comment r.form) ts (settled passed t ∷ tokens_behind g start size behind false true (nest_settled passed) cs))
    (to-end g start at b k n c cs r.left h)
    ∙ ap (λ ts. cond (is_comment r.form) (tokens g start (at + length (encode_utf8_all (c ∷ take size cs))) b k n r.left) (settled passed t ∷ ts))
    (to-end g start at false true (nest_settled passed) c cs r.left h)

-- from a piece on that is a token
begun : Goal → ℕ → ℕ → Bool → Bool → Nest → ℕ → List ℕ → State → List ℕ → Span → List ℕ → List TokenAndSpan
begun g start at b k n c cs s text span left =
    unended g start at b k n c cs (token_of s text span) (anew g n (b || not k) (token_of s text span) (c ∷ cs) left)

unfoldable pub text_of : ℕ → ℕ → List ℕ → List ℕ
text_of at c cs = encode_utf8_all (c ∷ (scan (nat_eq at 0) c cs).taken)

begins : (g : Goal) (start at : ℕ) (b k : Bool) (n : Nest) (c : ℕ) (cs : List ℕ) → is_skipped (scan (nat_eq at 0) c cs).state ≡ false
    → tokens g start at b k n (c ∷ cs) ≡ begun g start at b k n c cs (scan (nat_eq at 0) c cs).state (text_of at c cs) (span_at (start + at) (length (text_of at c cs))) (scan (nat_eq at 0) c cs).left
unfolding tokens_behind begun unended text_of
begins g start at b k n c cs e =
    let piece = scan (nat_eq at 0) c cs in
    ap (λ v. cond v (tokens_behind g start (length piece.taken) (at + length (encode_utf8 c)) (b || breaks piece.state) k n cs)
    (begun g start at b k n c cs piece.state (text_of at c cs) (span_at (start + at) (length (text_of at c cs))) piece.left)) e

-- a piece that is none
pub blind : (g : Goal) (start : ℕ) (k : Bool) (n : Nest) → IsBlind (λ at b cs. tokens g start at b k n cs)
unfolding tokens_behind begun unended text_of
blind g start k n = record {
  skips = λ at b c cs e.
      let piece = scan (nat_eq at 0) c cs in
      let behind = at + length (encode_utf8 c) in
      let h : IsSuffix piece.left cs = record { taken = piece.taken; parts = sym (scan-splits (nat_eq at 0) c cs) } in
      ap (λ v. cond v (tokens_behind g start (length piece.taken) behind (b || breaks piece.state) k n cs)
      (begun g start at b k n c cs piece.state (text_of at c cs) (span_at (start + at) (length (text_of at c cs))) piece.left)) e
      ∙ ap (λ m. tokens_behind g start m behind (b || breaks piece.state) k n cs) (sym (suffix-size piece.left cs h))
      ∙ to-end g start at (b || breaks piece.state) k n c cs piece.left h
      ∙ ap (λ xs. tokens g start (at + length (encode_utf8_all (c ∷ xs))) (b || breaks piece.state) k n piece.left) (suffix-taken piece.left cs h);
}

-- the token that was found, were there memory for it
abbrev pub made : {text rest : List ℕ} {q : Place} (t : TokenAndSpan) → IsFound text rest t q → Token
made t h = token_of h.piece.state h.piece.text.now t.span

-- what it is read anew as
abbrev pub reading : {text rest : List ℕ} {q : Place} → Goal → Nest → Bool → (t : TokenAndSpan) → IsFound text rest t q → Reading
reading {text} {rest} g n k t h = anew g n (t.had_line_break || not k) (made t h) (chars text) (chars rest)

pub low-at : (text rest : List ℕ) (t : TokenAndSpan) (q : Place) (h : IsFound text rest t q) → t.span.lo.0 - q.start.0 ≡ h.place.at
low-at text rest t q h =
    let low : t.span.lo.0 ≡ h.place.start.0 + h.place.at = ap (λ (s : Span). s.lo.0) h.span in
    let same : q.start.0 ≡ h.place.start.0 = ap (λ (b : BytePos). b.0) h.past.start in
    omega (arith, low, same)

pub chars-text : (text rest : List ℕ) (t : TokenAndSpan) (q : Place) (h : IsFound text rest t q) → chars text ≡ h.stands.first.first ∷ h.stands.first.behind
chars-text text rest t q h = ap chars (sym h.text) ∙ h.stands.first.begins

pub left-suffix : (text rest : List ℕ) (t : TokenAndSpan) (q : Place) (h : IsFound text rest t q) → chars rest ≡ (scan (nat_eq h.place.at 0) h.stands.first.first h.stands.first.behind).left
left-suffix text rest t q h = ap chars (sym h.rest) ∙ h.stands.first.left

pub text-of : (text rest : List ℕ) (t : TokenAndSpan) (q : Place) (h : IsFound text rest t q) → text_of h.place.at h.stands.first.first h.stands.first.behind ≡ h.piece.text.now
unfolding text_of
text-of text rest t q h = ap encode_utf8_all (sym h.stands.first.taken) ∙ encodes-chars h.piece.text.now h.stands.first.utf8

found-begins : (g : Goal) (n : Nest) (k : Bool) (text rest : List ℕ) (t : TokenAndSpan) (q : Place) (h : IsFound text rest t q)
    → tokens_from g n k q.start t text ≡ begun g q.start.0 h.place.at t.had_line_break k n h.stands.first.first h.stands.first.behind h.piece.state h.piece.text.now t.span (chars rest)
found-begins g n k text rest t q h =
    let c = h.stands.first.first in
    let cs = h.stands.first.behind in
    let at = h.place.at in
    let b = t.had_line_break in
    let piece = scan (nat_eq at 0) c cs in
    let words = text_of at c cs in
    let same : q.start.0 ≡ h.place.start.0 = ap (λ (x : BytePos). x.0) h.past.start in
    let span : span_at (q.start.0 + at) (length words) ≡ t.span =
    ap (λ x. span_at (x + at) (length words)) same ∙ ap (λ xs. span_at (h.place.start.0 + at) (length xs)) (text-of text rest t q h) ∙ sym h.span in
    ap (λ m. tokens g q.start.0 m b k n (chars text)) (low-at text rest t q h)
    ∙ ap (tokens g q.start.0 at b k n) (chars-text text rest t q h)
    ∙ begins g q.start.0 at b k n c cs (sym (ap is_skipped h.stands.first.state) ∙ h.stands.kept)
    ∙ ap (λ s. begun g q.start.0 at b k n c cs s words (span_at (q.start.0 + at) (length words)) piece.left) (sym h.stands.first.state)
    ∙ ap (λ x. begun g q.start.0 at b k n c cs h.piece.state words x piece.left) span
    ∙ ap (λ xs. begun g q.start.0 at b k n c cs h.piece.state xs t.span piece.left) (text-of text rest t q h)
    ∙ ap (begun g q.start.0 at b k n c cs h.piece.state h.piece.text.now t.span) (sym (left-suffix text rest t q h))

pub reading-suffix : (g : Goal) (n : Nest) (b : Bool) (text rest : List ℕ) (t : TokenAndSpan) (q : Place) (h : IsFound text rest t q) (tok : Token)
    → IsSuffix (anew g n b tok (h.stands.first.first ∷ h.stands.first.behind) (chars rest)).left h.stands.first.behind
reading-suffix g n b text rest t q h tok =
    let c = h.stands.first.first in
    let cs = h.stands.first.behind in
    let e = left-suffix text rest t q h in
    anew-suffix g n b tok c cs (chars rest) (subst (λ xs. IsSuffix xs cs) (sym e) (scan-suffix (nat_eq h.place.at 0) c cs))

-- the bytes before a rest of a text
pub used : (text u rest : List ℕ) (c : ℕ) (cs left : List ℕ) → IsSuffix left cs → IsUtf8 text → IsUtf8 rest → chars text ≡ c ∷ cs → chars rest ≡ left → text ≡ u ++ rest
    → encode_utf8_all (c ∷ take (size_of cs left) cs) ≡ u
used text u rest c cs left h utf8 rest_utf8 begins e parts =
    let size = size_of cs left in
    let split : cs ≡ take size cs ++ left = h.parts ∙ ap (λ xs. xs ++ left) (sym (suffix-taken left cs h)) in
    append_cancel_right _ u rest (sym (piece-splits text rest c (take size cs) left utf8 rest_utf8 (begins ∙ ap (λ xs. c ∷ xs) split) e) ∙ parts)

abbrev at_reading : Goal → Bool → Nest → ℕ → ℕ → ℕ → Bool → Token → Reading → List ℕ → List TokenAndSpan
at_reading g k n start at low b tok r u =
    let x = token_at low b r.form u tok in
    let passed = nest_behind n x.token in
    cond (is_comment r.form) (tokens g start (at + length u) b k n r.left)
    (settled passed x ∷ tokens g start (at + length u) false true (nest_settled passed) r.left)

-- the tokens from a token on that reads as `r`, of the bytes `u`, before `left`
abbrev pub from_reading : Goal → Bool → Nest → BytePos → TokenAndSpan → Token → Reading → List ℕ → List TokenAndSpan
from_reading g k n start t tok r u =
    let x = token_at t.span.lo.0 t.had_line_break r.form u tok in
    let passed = nest_behind n x.token in
    let at = t.span.lo.0 - start.0 + length u in
    cond (is_comment r.form) (tokens g start.0 at t.had_line_break k n r.left)
    (settled passed x ∷ tokens g start.0 at false true (nest_settled passed) r.left)

reads : (g : Goal) (n : Nest) (k : Bool) (text rest u end : List ℕ) (t : TokenAndSpan) (q : Place) (h : IsFound text rest t q)
    → IsUtf8 text → IsUtf8 end → text ≡ u ++ end → chars end ≡ (reading g n k t h).left
    → tokens_from g n k q.start t text ≡ from_reading g k n q.start t (made t h) (reading g n k t h) u
unfolding begun from_token
reads g n k text rest u end t q h utf8 end_utf8 parts left =
    let c = h.stands.first.first in
    let cs = h.stands.first.behind in
    let b = t.had_line_break in
    let tok = made t h in
    let r = anew g n (b || not k) tok (c ∷ cs) (chars rest) in
    let same : reading g n k t h ≡ r = ap (λ xs. anew g n (b || not k) tok xs (chars rest)) (chars-text text rest t q h) in
    let suffix = reading-suffix g n (b || not k) text rest t q h tok in
    let low : q.start.0 + h.place.at ≡ t.span.lo.0 = ap (λ (x : BytePos). x.0 + h.place.at) h.past.start ∙ sym (ap (λ (s : Span). s.lo.0) h.span) in
    let words = used text u end c cs r.left suffix utf8 end_utf8 (chars-text text rest t q h) (left ∙ ap (λ (x : Reading). x.left) same) parts in
    found-begins g n k text rest t q h
    ∙ ended g q.start.0 h.place.at b k n c cs tok r suffix
    ∙ ap (λ xs. at_reading g k n q.start.0 h.place.at (q.start.0 + h.place.at) b tok r xs) words
    ∙ ap (λ m. at_reading g k n q.start.0 m (q.start.0 + h.place.at) b tok r u) (sym (low-at text rest t q h))
    ∙ ap (λ m. at_reading g k n q.start.0 (t.span.lo.0 - q.start.0) m b tok r u) low
    ∙ ap (λ (x : Reading). from_reading g k n q.start t tok x u) (sym same)

place-of : (g : Goal) (n : Nest) (k b : Bool) (start low : BytePos) (text u end : List ℕ) (q : Place) → text ≡ u ++ end → IsPlaceBehind start low b text end q
    → tokens_at g n k q ≡ tokens g start.0 (low.0 - start.0 + length u) b k n (chars end)
place-of g n k b start low text u end q parts h =
    let size : length text - length end ≡ length u = omega (arith, ap length parts, length-append u end) in
    ap (λ (s : BytePos). tokens g s.0 q.at q.had_line_break k n (chars q.rest.now)) h.start
    ∙ ap (λ m. tokens g start.0 m q.had_line_break k n (chars q.rest.now)) (h.at ∙ ap (λ m. low.0 - start.0 + m) size)
    ∙ ap (λ v. tokens g start.0 (low.0 - start.0 + length u) v k n (chars q.rest.now)) h.had_line_break
    ∙ ap (λ xs. tokens g start.0 (low.0 - start.0 + length u) b k n (chars xs)) h.rest

settled-span : (v : Bool) (t u : TokenAndSpan) → t.span ≡ u.span → (cond v t u).span ≡ u.span
settled-span true t u e = e
settled-span false t u e = refl

settled-break : (v : Bool) (t u : TokenAndSpan) → t.had_line_break ≡ u.had_line_break → (cond v t u).had_line_break ≡ u.had_line_break
settled-break true t u e = e
settled-break false t u e = refl

span-settled : (n : Nest) (t : TokenAndSpan) → (settled n t).span ≡ t.span
unfolding settled
span-settled n t = settled-span (is_too_deep n) _ t refl

break-settled : (n : Nest) (t : TokenAndSpan) → (settled n t).had_line_break ≡ t.had_line_break
unfolding settled
break-settled n t = settled-break (is_too_deep n) _ t refl

-- a token that reads as a comment
pub comes : (g : Goal) (n : Nest) (k : Bool) (text rest u end : List ℕ) (t : TokenAndSpan) (q p : Place) (h : IsFound text rest t q) (r : Reading) → reading g n k t h ≡ r
    → IsUtf8 text → IsUtf8 end → text ≡ u ++ end → chars end ≡ r.left → is_comment r.form ≡ true → IsPlaceBehind q.start t.span.lo t.had_line_break text end p
    → tokens_from g n k q.start t text ≡ tokens_at g n k p
comes g n k text rest u end t q p h r same utf8 end_utf8 parts left e place =
    let at = t.span.lo.0 - q.start.0 + length u in
    let x = token_at t.span.lo.0 t.had_line_break r.form u (made t h) in
    let passed = nest_behind n x.token in
    reads g n k text rest u end t q h utf8 end_utf8 parts (left ∙ ap (λ (y : Reading). y.left) (sym same))
    ∙ ap (λ y. from_reading g k n q.start t (made t h) y u) same
    ∙ ap (λ v. cond v (tokens g q.start.0 at t.had_line_break k n r.left) (settled passed x ∷ tokens g q.start.0 at false true (nest_settled passed) r.left)) e
    ∙ ap (tokens g q.start.0 at t.had_line_break k n) (sym left)
    ∙ sym (place-of g n k t.had_line_break q.start t.span.lo text u end p parts place)

-- a token that reads as one
pub drawn : (g : Goal) (n m : Nest) (k : Bool) (text rest u end : List ℕ) (t out : TokenAndSpan) (q p : Place) (h : IsFound text rest t q) (r : Reading) → reading g n k t h ≡ r
    → IsUtf8 text → IsUtf8 end → text ≡ u ++ end → chars end ≡ r.left → is_comment r.form ≡ false → IsPlaceBehind q.start t.span.lo false text end p
    → m ≡ nest_settled (nest_behind n (token_at t.span.lo.0 t.had_line_break r.form u (made t h)).token)
    → IsSettled (nest_behind n (token_at t.span.lo.0 t.had_line_break r.form u (made t h)).token) (token_at t.span.lo.0 t.had_line_break r.form u (made t h)) out
    → IsDrawn (tokens_from g n k q.start t text) out (tokens_at g m true p)
drawn g n m k text rest u end t out q p h r same utf8 end_utf8 parts left e place nest s =
    let at = t.span.lo.0 - q.start.0 + length u in
    let x = token_at t.span.lo.0 t.had_line_break r.form u (made t h) in
    let passed = nest_behind n x.token in
    record {
      first = settled passed x;
      list =
          reads g n k text rest u end t q h utf8 end_utf8 parts (left ∙ ap (λ (y : Reading). y.left) (sym same))
          ∙ ap (λ y. from_reading g k n q.start t (made t h) y u) same
          ∙ ap (λ v. cond v (tokens g q.start.0 at t.had_line_break k n r.left) (settled passed x ∷ tokens g q.start.0 at false true (nest_settled passed) r.left)) e
          ∙ ap (λ xs. settled passed x ∷ tokens g q.start.0 at false true (nest_settled passed) xs) (sym left)
          ∙ ap (λ y. settled passed x ∷ tokens g q.start.0 at false true y (chars end)) (sym nest)
          ∙ ap (λ ts. settled passed x ∷ ts) (sym (place-of g m true false q.start t.span.lo text u end p parts place));
      span = s.span ∙ sym (span-settled passed x);
      had_line_break = s.had_line_break ∙ sym (break-settled passed x);
      same = s.same;
    }

-- where memory was found for it, it is the token that was found
pub unlost-made : (text rest : List ℕ) (t : TokenAndSpan) (q : Place) (h : IsFound text rest t q) → is_out_of_memory t.token ≡ false → made t h ≡ t.token
unlost-made text rest t q h e = sym (h.same e)

-- the place behind a token that stays
pub stays-behind : (text rest : List ℕ) (t : TokenAndSpan) (q : Place) (h : IsFound text rest t q) → IsPlaceBehind q.start t.span.lo false text rest q
stays-behind text rest t q h =
    let parts : text ≡ h.piece.text.now ++ rest = sym h.text ∙ h.stands.first.parts ∙ ap (λ xs. h.piece.text.now ++ xs) h.rest in
    record {
      start = refl;
      at = omega (arith, h.past.at, low-at text rest t q h, ap length parts, length-append h.piece.text.now rest);
      had_line_break = h.past.had_line_break ∙ ap (λ v. v && (h.place.had_line_break || breaks h.piece.state)) h.stands.kept;
      rest = h.past.rest ∙ h.rest;
    }

pub text-parts : (text rest : List ℕ) (t : TokenAndSpan) (q : Place) (h : IsFound text rest t q) → text ≡ h.piece.text.now ++ rest
text-parts text rest t q h = sym h.text ∙ h.stands.first.parts ∙ ap (λ xs. h.piece.text.now ++ xs) h.rest

found-same : (t u : TokenAndSpan) → t.token ≡ u.token → t.had_line_break ≡ u.had_line_break → t.span ≡ u.span → t ≡ u
found-same t u e f g =
    ap (λ (x : Token). record { token = x; had_line_break = t.had_line_break; span = t.span }) e
    ∙ ap (λ (v : Bool). record { token = u.token; had_line_break = v; span = t.span }) f
    ∙ ap (λ (s : Span). record { token = u.token; had_line_break = u.had_line_break; span = s }) g

pub low-span : (t : TokenAndSpan) (low size : ℕ) → t.span ≡ span_at low size → t.span ≡ span_at t.span.lo.0 size
low-span t low size e = e ∙ ap (λ (s : Span). span_at s.lo.0 size) (sym e)

-- a token that stays is read as itself
pub kept-token : (text rest : List ℕ) (t : TokenAndSpan) (q : Place) (h : IsFound text rest t q) → is_out_of_memory t.token ≡ false → token_at t.span.lo.0 t.had_line_break form.Kept h.piece.text.now (made t h) ≡ t
unfolding token_at token_anew
kept-token text rest t q h e =
    found-same _ t (unlost-made text rest t q h e) refl (sym (low-span t (h.place.start.0 + h.place.at) (length h.piece.text.now) h.span))

pub settled-at : (n : Nest) (it : TokenAndSpan) → IsSettled n it (settled n it)
settled-at n it = record { span = span-settled n it; had_line_break = break-settled n it; same = λ e. refl }

-- a token that cannot change
pub stays : (g : Goal) (n : Nest) (k : Bool) (text rest : List ℕ) (t : TokenAndSpan) (q : Place) (h : IsFound text rest t q) → IsUtf8 text → IsUtf8 rest → may_change n t.token (chars rest) ≡ false
    → IsDrawn (tokens_from g n k q.start t text) (settled (nest_behind n t.token) t) (tokens_at g (nest_settled (nest_behind n t.token)) true q)
unfolding is_comment
stays g n k text rest t q h utf8 rest_utf8 e =
    let u = h.piece.text.now in
    let lossless = unlost n t.token (chars rest) e in
    let itself = kept-token text rest t q h lossless in
    let same : reading g n k t h ≡ kept (chars rest) =
    ap (λ x. anew g n (t.had_line_break || not k) x (chars text) (chars rest)) (unlost-made text rest t q h lossless) ∙ unchanged g n (t.had_line_break || not k) t.token (chars text) (chars rest) e in
    drawn g n (nest_settled (nest_behind n t.token)) k text rest u rest t (settled (nest_behind n t.token) t) q q h (kept (chars rest)) same utf8 rest_utf8 (text-parts text rest t q h) refl refl
    (stays-behind text rest t q h)
    (ap (λ (x : TokenAndSpan). nest_settled (nest_behind n x.token)) (sym itself))
    (subst (λ (x : TokenAndSpan). IsSettled (nest_behind n x.token) x (settled (nest_behind n t.token) t)) (sym itself) (settled-at (nest_behind n t.token) t))
