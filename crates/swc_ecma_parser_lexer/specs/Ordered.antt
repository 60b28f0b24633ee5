-- The tokens of a text stand one behind another.
use Rattle.std.proofs.Common.{◌≡◌, ℕ, zero, suc, ◌+◌, ◌≤◌, Bool, true, false, nat_eq, ◌&&◌, ◌||◌, cond, length, take, List, [], ◌∷◌, refl, ap, sym, ◌∙◌, arith, length-append, nat_le}
use Rattle.std.specs.Char.{encode_utf8}
use Rattle.std.specs.Str.{encode_utf8_all}
use Rattle.std.proofs.Math.Seq.{take-append_seam}
use Rattle.std.proofs.lemmas.Bool.Decides.{nat_tests}
use Rattle.swc_ecma_parser_token.specs.declared.token.TokenAndSpan.{TokenAndSpan}
use Rattle.swc_ecma_parser_input.specs.TokenSource.{ordered_from}
use Rattle.swc_ecma_parser_scan.specs.declared.state.State.{State}
use Rattle.swc_ecma_parser_scan.specs.Scan.{scan}
use Rattle.swc_ecma_parser_lexer.specs.Tokens.{is_skipped, breaks, token_at, tokens_behind, tokens}
use Rattle.swc_ecma_parser_scan.specs.Splits.{scan-splits}

pub length-encodes : (c : ℕ) (cs : List ℕ) → length (encode_utf8_all (c ∷ cs)) ≡ length (encode_utf8 c) + length (encode_utf8_all cs)
length-encodes c cs = length-append (encode_utf8 c) (encode_utf8_all cs)

le-true : (a b : ℕ) → a ≤ b → nat_le a b ≡ true
le-true a b h = grind (arith, nat_tests)

token-ordered : (p low : ℕ) (b : Bool) (s : State) (text : List ℕ) (ts : List TokenAndSpan) → p ≤ low → ordered_from (low + length text) ts ≡ true → ordered_from p (token_at low b s text ∷ ts) ≡ true
unfolding token_at
token-ordered p low b s text ts h k =
    ap (λ x. x && (nat_le low (low + length text) && ordered_from (low + length text) ts)) (le-true p low h)
    ∙ ap (λ x. x && ordered_from (low + length text) ts) (le-true low (low + length text) (omega arith)) ∙ k

choice-ordered : (p : ℕ) (v : Bool) (xs ys : List TokenAndSpan) → ordered_from p xs ≡ true → ordered_from p ys ≡ true → ordered_from p (cond v xs ys) ≡ true
choice-ordered p true xs ys h k = h
choice-ordered p false xs ys h k = k

-- so many bytes belong to the piece before
abbrev reach : ℕ → List ℕ → ℕ
reach skip cs = length (encode_utf8_all (take skip cs))

reach-none : (cs : List ℕ) → reach 0 cs ≡ 0
reach-none cs = refl

-- the rest of a piece reaches to its end
piece-reach : (is_first : Bool) (c : ℕ) (cs : List ℕ) → length (encode_utf8_all (c ∷ (scan is_first c cs).taken)) ≡ length (encode_utf8 c) + reach (length (scan is_first c cs).taken) cs
piece-reach is_first c cs =
    let p = scan is_first c cs in
    length-encodes c p.taken
    ∙ ap (λ xs. length (encode_utf8 c) + length (encode_utf8_all xs)) (sym (take-append_seam p.taken p.left) ∙ ap (λ xs. take (length p.taken) xs) (scan-splits is_first c cs))

ordered_behind : (start skip at p : ℕ) (b : Bool) (cs : List ℕ) → p ≤ start + at + reach skip cs → ordered_from p (tokens_behind start skip at b cs) ≡ true
unfolding tokens_behind
ordered_behind start skip at p b [] h = refl
ordered_behind start (suc skip) at p b (c ∷ cs) h =
    ordered_behind start skip (at + length (encode_utf8 c)) p b cs (omega (arith, h, length-encodes c (take skip cs)))
ordered_behind start zero at p b (c ∷ cs) h =
    let q = scan (nat_eq at 0) c cs in
    let text = encode_utf8_all (c ∷ q.taken) in
    let le : p ≤ start + at = omega (arith, h, reach-none (c ∷ cs)) in
    choice-ordered p (is_skipped q.state) _ _
    (ordered_behind start (length q.taken) (at + length (encode_utf8 c)) p (b || breaks q.state) cs (omega arith))
    (token-ordered p (start + at) b q.state text _ (omega arith)
    (ordered_behind start (length q.taken) (at + length (encode_utf8 c)) (start + at + length text) false cs (omega (arith, piece-reach (nat_eq at 0) c cs))))

pub ordered : (start at : ℕ) (b : Bool) (cs : List ℕ) → ordered_from start (tokens start at b cs) ≡ true
ordered start at b cs = ordered_behind start 0 at start b cs (omega arith)
