-- What the list of tokens of a text comes to.
use Rattle.std.proofs.Common.{◌≡◌, ℕ, ◌+◌, ◌<◌, Bool, true, false, nat_eq, ◌&&◌, ◌||◌, cond, length, List, [], ◌∷◌, ◌++◌, ap, sym, ◌∙◌, arith, append_assoc, length-append}
use Rattle.std.specs.Char.{encode_utf8}
use Rattle.std.specs.Str.{chars, encode_utf8_all}
use Rattle.std.proofs.lemmas.Str.{encode_ascii, encodes-chars, length-encode, len_utf8_bounds}
use Rattle.swc_ecma_parser_common.specs.declared.span.BytePos.{BytePos}
use Rattle.swc_ecma_parser_token.specs.declared.token.TokenAndSpan.{TokenAndSpan}
use Rattle.swc_ecma_parser_lexer.specs.declared.place.Place.{Place}
use Rattle.swc_ecma_parser_scan.specs.declared.piece.Piece.{Piece}
use Rattle.swc_ecma_parser_scan.specs.declared.state.State.{State}
use Rattle.swc_ecma_parser_scan.specs.Scan.{Munched, scan, IsFirstPiece}
use Rattle.swc_ecma_parser_lexer.specs.Tokens.{is_skipped, breaks, token_at, tokens_behind, tokens, tokens_at, AreAlike, IsBehind, IsBlind, IsPast}
use Rattle.swc_ecma_parser_lexer.specs.Ordered.{length-encodes}
use Rattle.swc_ecma_parser_scan.specs.Splits.{scan-splits}

skip-all : (start : ℕ) (xs ys : List ℕ) (at : ℕ) (b : Bool) → tokens_behind start (length xs) at b (xs ++ ys) ≡ tokens_behind start 0 (at + length (encode_utf8_all xs)) b ys
unfolding tokens_behind
skip-all start [] ys at b = ap (λ n. tokens_behind start 0 n b ys) (omega arith)
skip-all start (c ∷ xs) ys at b =
    skip-all start xs ys (at + length (encode_utf8 c)) b ∙ ap (λ n. tokens_behind start 0 n b ys) (omega (arith, length-encodes c xs))

-- from behind the first character of a piece to behind the piece
to-end : (start at : ℕ) (b : Bool) (is_first : Bool) (c : ℕ) (cs : List ℕ) → tokens_behind start (length (scan is_first c cs).taken) (at + length (encode_utf8 c)) b cs ≡ tokens start (at + length (encode_utf8_all (c ∷ (scan is_first c cs).taken))) b (scan is_first c cs).left
to-end start at b is_first c cs =
    let p = scan is_first c cs in
    ap (λ ys. tokens_behind start (length p.taken) (at + length (encode_utf8 c)) b ys) (sym (scan-splits is_first c cs))
    ∙ skip-all start p.taken p.left (at + length (encode_utf8 c)) b
    ∙ ap (λ n. tokens_behind start 0 n b p.left) (omega (arith, length-encodes c p.taken))

-- the tokens from a piece on
from_piece : ℕ → ℕ → Bool → State → List ℕ → List ℕ → List TokenAndSpan
from_piece start at b s text left =
    cond (is_skipped s) (tokens start (at + length text) (b || breaks s) left) (token_at (start + at) b s text ∷ tokens start (at + length text) false left)

begins : (start at : ℕ) (b : Bool) (c : ℕ) (cs : List ℕ) → tokens start at b (c ∷ cs) ≡ from_piece start at b (scan (nat_eq at 0) c cs).state (encode_utf8_all (c ∷ (scan (nat_eq at 0) c cs).taken)) (scan (nat_eq at 0) c cs).left
unfolding tokens_behind from_piece
begins start at b c cs =
    let p = scan (nat_eq at 0) c cs in
    let text = encode_utf8_all (c ∷ p.taken) in
    ap (λ ts. cond (is_skipped p.state) ts (token_at (start + at) b p.state text ∷ tokens_behind start (length p.taken) (at + length (encode_utf8 c)) false cs)) (to-end start at (b || breaks p.state) (nat_eq at 0) c cs)
    ∙ ap (λ ts. cond (is_skipped p.state) (tokens start (at + length text) (b || breaks p.state) p.left) (token_at (start + at) b p.state text ∷ ts)) (to-end start at false (nat_eq at 0) c cs)

by-piece : (start at : ℕ) (b : Bool) (text : List ℕ) (piece : Piece) → IsFirstPiece (nat_eq at 0) text piece → tokens start at b (chars text) ≡ from_piece start at b piece.state piece.text.now (chars piece.rest.now)
by-piece start at b text piece h =
    let p = scan (nat_eq at 0) h.first h.behind in
    let same : encode_utf8_all (h.first ∷ p.taken) ≡ piece.text.now = ap encode_utf8_all (sym h.taken) ∙ encodes-chars piece.text.now h.utf8 in
    ap (tokens start at b) h.begins ∙ begins start at b h.first h.behind
    ∙ ap (λ s. from_piece start at b s (encode_utf8_all (h.first ∷ p.taken)) p.left) (sym h.state)
    ∙ ap (λ xs. from_piece start at b piece.state xs p.left) same
    ∙ ap (λ xs. from_piece start at b piece.state piece.text.now xs) (sym h.left)

-- a piece of one ASCII character that is no token adds none
pub past-one : (f : ℕ → Bool → List ℕ → List TokenAndSpan) → IsBlind f → (at : ℕ) (b : Bool) (c : ℕ) (cs : List ℕ) (s : State) → c < 128 → scan (nat_eq at 0) c cs ≡ record { taken = []; left = cs; state = s } → is_skipped s ≡ true → f at b (c ∷ cs) ≡ f (at + 1) (b || breaks s) cs
past-one f h at b c cs s lt e k =
    let text = encode_utf8_all (c ∷ []) in
    let one : at + length text ≡ at + 1 = omega (arith, length-encodes c [], ap length (encode_ascii c lt)) in
    h.skips at b c cs (ap (λ (p : Munched). is_skipped p.state) e ∙ k)
    ∙ ap (λ (p : Munched). f (at + length (encode_utf8_all (c ∷ p.taken))) (b || breaks p.state) p.left) e
    ∙ ap (λ n. f n (b || breaks s) cs) one

-- the list of tokens
pub tokens-blind : (start : ℕ) → IsBlind (λ at b cs. tokens start at b cs)
unfolding from_piece
tokens-blind start = record {
  skips = λ at b c cs e.
      let p = scan (nat_eq at 0) c cs in
      let text = encode_utf8_all (c ∷ p.taken) in
      begins start at b c cs
      ∙ ap (λ v. cond v (tokens start (at + length text) (b || breaks p.state) p.left) (token_at (start + at) b p.state text ∷ tokens start (at + length text) false p.left)) e;
}

-- the tokens from two places on
pub alike-tokens : (p q : Place) → AreAlike p q → q.start ≡ p.start → tokens_at p ≡ tokens_at q
alike-tokens p q h e =
    h (λ at b cs. tokens p.start.0 at b cs) (tokens-blind p.start.0)
    ∙ ap (λ (s : BytePos). tokens s.0 q.at q.had_line_break (chars q.rest.now)) (sym e)

tokens-same : (s t a b : ℕ) (x y : Bool) (cs ds : List ℕ) → s ≡ t → a ≡ b → x ≡ y → cs ≡ ds → tokens s a x cs ≡ tokens t b y ds
tokens-same s t a b x y cs ds e f g h =
    ap (λ n. tokens n a x cs) e ∙ ap (λ n. tokens t n x cs) f ∙ ap (λ v. tokens t b v cs) g ∙ ap (λ ys. tokens t b y ys) h

blind-same : (f : ℕ → Bool → List ℕ → List TokenAndSpan) (a b : ℕ) (x y : Bool) (cs ds : List ℕ) → a ≡ b → x ≡ y → cs ≡ ds → f a x cs ≡ f b y ds
blind-same f a b x y cs ds e g h = ap (λ n. f n x cs) e ∙ ap (λ v. f b v cs) g ∙ ap (λ ys. f b y ys) h

-- a piece that is no token is of no matter
pub alike-past : (p : Place) (piece : Piece) (q : Place) → IsFirstPiece (nat_eq p.at 0) p.rest.now piece → IsPast p piece q → is_skipped piece.state ≡ true → AreAlike p q
alike-past p piece q h k e =
    let s = scan (nat_eq p.at 0) h.first h.behind in
    let text = encode_utf8_all (h.first ∷ s.taken) in
    let same : text ≡ piece.text.now = ap encode_utf8_all (sym h.taken) ∙ encodes-chars piece.text.now h.utf8 in
    λ f blind.
    ap (f p.at p.had_line_break) h.begins
    ∙ blind.skips p.at p.had_line_break h.first h.behind (ap is_skipped (sym h.state) ∙ e)
    ∙ blind-same f (p.at + length text) q.at (p.had_line_break || breaks s.state) q.had_line_break s.left (chars q.rest.now)
    (omega (arith, ap length same, k.at))
    (ap (λ x. p.had_line_break || breaks x) (sym h.state) ∙ sym (k.had_line_break ∙ ap (λ v. v && (p.had_line_break || breaks piece.state)) e))
    (sym h.left ∙ ap chars (sym k.rest))

-- it stands between two places
pub behind-past : (p : Place) (piece : Piece) (q : Place) → IsFirstPiece (nat_eq p.at 0) p.rest.now piece → IsPast p piece q → IsBehind p q
behind-past p piece q h k = record {
  between = piece.text.now;
  parts = h.parts ∙ ap (λ xs. piece.text.now ++ xs) (sym k.rest);
  at = k.at;
}

pub behind-on : (p q r : Place) → IsBehind p q → IsBehind q r → IsBehind p r
behind-on p q r h k = record {
  between = h.between ++ k.between;
  parts = h.parts ∙ ap (λ xs. h.between ++ xs) k.parts ∙ sym (append_assoc h.between k.between r.rest.now);
  at = omega (arith, h.at, k.at, length-append h.between k.between);
}

pub alike-on : (p q r : Place) → AreAlike p q → AreAlike q r → AreAlike p r
alike-on p q r h k = λ f blind. h f blind ∙ k f blind

-- a token stands before those behind it
pub past-token : (p : Place) (piece : Piece) (q : Place) → IsFirstPiece (nat_eq p.at 0) p.rest.now piece → IsPast p piece q → is_skipped piece.state ≡ false → tokens_at p ≡ token_at (p.start.0 + p.at) p.had_line_break piece.state piece.text.now ∷ tokens_at q
unfolding from_piece
past-token p piece q h k e =
    let text = piece.text.now in
    let left = chars piece.rest.now in
    let has_break = p.had_line_break || breaks piece.state in
    let t = token_at (p.start.0 + p.at) p.had_line_break piece.state text in
    by-piece p.start.0 p.at p.had_line_break p.rest.now piece h
    ∙ ap (λ v. cond v (tokens p.start.0 (p.at + length text) has_break left) (t ∷ tokens p.start.0 (p.at + length text) false left)) e
    ∙ ap (λ ts. t ∷ ts) (tokens-same p.start.0 q.start.0 (p.at + length text) q.at false q.had_line_break left (chars q.rest.now)
    (ap (λ (b : BytePos). b.0) (sym k.start)) (sym k.at) (sym (k.had_line_break ∙ ap (λ v. v && has_break) e)) (ap chars (sym k.rest)))

pub nothing-left : (p : Place) → chars p.rest.now ≡ [] → tokens_at p ≡ []
unfolding tokens_behind
nothing-left p e = ap (λ cs. tokens p.start.0 p.at p.had_line_break cs) e

-- a piece has a byte or more
pub piece-longer : (is_first : Bool) (text : List ℕ) (piece : Piece) → IsFirstPiece is_first text piece → length piece.rest.now < length text
piece-longer is_first text piece h =
    let taken = (scan is_first h.first h.behind).taken in
    let same : encode_utf8_all (h.first ∷ taken) ≡ piece.text.now = ap encode_utf8_all (sym h.taken) ∙ encodes-chars piece.text.now h.utf8 in
    omega (arith, ap length same, length-encodes h.first taken, length-encode h.first, len_utf8_bounds h.first, ap length h.parts, length-append piece.text.now piece.rest.now)
