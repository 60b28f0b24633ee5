-- The tokens of a text stand one behind another.
use Rattle.std.proofs.Common.{◌≡◌, ℕ, zero, suc, ◌+◌, ◌-◌, ◌≤◌, Bool, true, false, not, nat_eq, ◌&&◌, ◌||◌, cond, length, take, List, [], ◌∷◌, refl, ap, ◌∙◌, arith, nat_le}
use Rattle.std.specs.Char.{encode_utf8}
use Rattle.std.specs.Str.{encode_utf8_all}
use Rattle.std.proofs.lemmas.Bool.Decides.{nat_tests}
use Rattle.swc_ecma_parser_token.specs.declared.token.TokenAndSpan.{TokenAndSpan}
use Rattle.swc_ecma_parser_input.specs.TokenSource.{ordered_from}
use Rattle.swc_ecma_parser_scan.specs.Scan.{scan}
use Rattle.swc_ecma_parser_lexer.specs.Make.{token_of}
use Rattle.swc_ecma_parser_lexer.specs.Ordered.{length-encodes}
use Rattle.swc_ecma_parser_lexer.specs.Tokens.{breaks, is_skipped, span_at}
use Rattle.swc_ecma_parser_nesting.specs.declared.nest.Nest.{Nest}
use Rattle.swc_ecma_parser_nesting.specs.Nesting.{is_too_deep}
use Rattle.swc_ecma_parser_whole_lexer.specs.declared.form.Goal.{Goal}
use Rattle.swc_ecma_parser_whole_lexer.specs.Forms.{anew, is_comment}
use Rattle.swc_ecma_parser_whole_lexer.specs.Whole.{nest_behind, nest_settled, settled, token_at, tokens, tokens_behind}

le-true : (a b : ℕ) → a ≤ b → nat_le a b ≡ true
le-true a b h = grind (arith, nat_tests)

-- a token of so many bytes, and those behind it
step-ordered : (p low size : ℕ) (t : TokenAndSpan) (ts : List TokenAndSpan) → t.span ≡ span_at low size → p ≤ low → ordered_from (low + size) ts ≡ true → ordered_from p (t ∷ ts) ≡ true
step-ordered p low size t ts e h k =
    ap (λ s. nat_le p s.lo.0 && (nat_le s.lo.0 s.hi.0 && ordered_from s.hi.0 ts)) e
    ∙ ap (λ x. x && (nat_le low (low + size) && ordered_from (low + size) ts)) (le-true p low h)
    ∙ ap (λ x. x && ordered_from (low + size) ts) (le-true low (low + size) (omega arith)) ∙ k

settled-span : (v : Bool) (t u : TokenAndSpan) → t.span ≡ u.span → (cond v t u).span ≡ u.span
settled-span true t u e = e
settled-span false t u e = refl

choice-ordered : (p : ℕ) (v : Bool) (xs ys : List TokenAndSpan) → ordered_from p xs ≡ true → ordered_from p ys ≡ true → ordered_from p (cond v xs ys) ≡ true
choice-ordered p true xs ys h k = h
choice-ordered p false xs ys h k = k

-- so many bytes belong to the piece before
abbrev reach : ℕ → List ℕ → ℕ
reach skip cs = length (encode_utf8_all (take skip cs))

ordered_behind : (g : Goal) (start skip at p : ℕ) (b k : Bool) (n : Nest) (cs : List ℕ) → p ≤ start + at + reach skip cs → ordered_from p (tokens_behind g start skip at b k n cs) ≡ true
unfolding tokens_behind settled token_at
ordered_behind g start skip at p b k n [] h = refl
ordered_behind g start (suc skip) at p b k n (c ∷ cs) h =
    ordered_behind g start skip (at + length (encode_utf8 c)) p b k n cs (omega (arith, h, length-encodes c (take skip cs)))
ordered_behind g start zero at p b k n (c ∷ cs) h =
    let piece = scan (nat_eq at 0) c cs in
    let behind = at + length (encode_utf8 c) in
    let short = encode_utf8_all (c ∷ piece.taken) in
    let plain = token_of piece.state short (span_at (start + at) (length short)) in
    let read = anew g n (b || not k) plain (c ∷ cs) piece.left in
    let size = length cs - length read.left in
    let text = encode_utf8_all (c ∷ take size cs) in
    let t = token_at (start + at) b read.form text plain in
    let passed = nest_behind n t.token in
    let low : p ≤ start + at = omega (arith, h) in
    choice-ordered p (is_skipped piece.state) _ _
    (ordered_behind g start (length piece.taken) behind p (b || breaks piece.state) k n cs (omega arith))
    (choice-ordered p (is_comment read.form) _ _ (ordered_behind g start size behind p b k n cs (omega arith))
    (step-ordered p (start + at) (length text) (settled passed t) _ (settled-span (is_too_deep passed) _ t refl) low
    (ordered_behind g start size behind (start + at + length text) false true (nest_settled passed) cs (omega (arith, length-encodes c (take size cs))))))

pub ordered : (g : Goal) (start at : ℕ) (b k : Bool) (n : Nest) (cs : List ℕ) → ordered_from start (tokens g start at b k n cs) ≡ true
ordered g start at b k n cs = ordered_behind g start 0 at start b k n cs (omega arith)
