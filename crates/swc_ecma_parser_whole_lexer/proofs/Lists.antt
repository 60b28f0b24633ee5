-- What the list of tokens of a text comes to.
use Rattle.std.proofs.Common.{◌≡◌, ℕ, ◌+◌, ◌-◌, Bool, length, take, List, [], ◌∷◌, ◌++◌, ap, sym, ◌∙◌, arith, length-append}
use Rattle.std.specs.Char.{encode_utf8}
use Rattle.std.specs.Str.{encode_utf8_all}
use Rattle.std.proofs.Math.Seq.{take-append_seam}
use Rattle.swc_ecma_parser_lexer.specs.Ordered.{length-encodes}
use Rattle.swc_ecma_parser_nesting.specs.declared.nest.Nest.{Nest}
use Rattle.swc_ecma_parser_whole_lexer.specs.declared.form.Goal.{Goal}
use Rattle.swc_ecma_parser_whole_lexer.specs.Whole.{tokens, tokens_behind}
use Rattle.swc_ecma_parser_whole_lexer.proofs.Suffixes.{IsSuffix}

pub skip-all : (g : Goal) (start : ℕ) (k : Bool) (n : Nest) (xs ys : List ℕ) (at : ℕ) (b : Bool) → tokens_behind g start (length xs) at b k n (xs ++ ys) ≡ tokens g start (at + length (encode_utf8_all xs)) b k n ys
unfolding tokens_behind
skip-all g start k n [] ys at b = ap (λ m. tokens g start m b k n ys) (omega arith)
skip-all g start k n (c ∷ xs) ys at b =
    skip-all g start k n xs ys (at + length (encode_utf8 c)) b ∙ ap (λ m. tokens g start m b k n ys) (omega (arith, length-encodes c xs))

-- how many characters of a text stand before a rest of it
unfoldable pub size_of : List ℕ → List ℕ → ℕ
size_of cs left = length cs - length left

-- the characters before the rest
pub suffix-size : (left cs : List ℕ) (h : IsSuffix left cs) → size_of cs left ≡ length h.taken
unfolding size_of
suffix-size left cs h = omega (arith, ap length h.parts, length-append h.taken left)

pub suffix-taken : (left cs : List ℕ) (h : IsSuffix left cs) → take (size_of cs left) cs ≡ h.taken
suffix-taken left cs h =
    ap (λ m. take m cs) (suffix-size left cs h) ∙ ap (take (length h.taken)) h.parts ∙ take-append_seam h.taken left

-- from behind the first character of a token to a rest of the text
pub to-end : (g : Goal) (start at : ℕ) (b k : Bool) (n : Nest) (c : ℕ) (cs left : List ℕ) → IsSuffix left cs
    → tokens_behind g start (size_of cs left) (at + length (encode_utf8 c)) b k n cs ≡ tokens g start (at + length (encode_utf8_all (c ∷ take (size_of cs left) cs))) b k n left
to-end g start at b k n c cs left h =
    ap (λ m. tokens_behind g start m (at + length (encode_utf8 c)) b k n cs) (suffix-size left cs h)
    ∙ ap (tokens_behind g start (length h.taken) (at + length (encode_utf8 c)) b k n) h.parts
    ∙ skip-all g start k n h.taken left (at + length (encode_utf8 c)) b
    ∙ ap (λ m. tokens g start m b k n left) (omega (arith, length-encodes c h.taken))
    ∙ ap (λ xs. tokens g start (at + length (encode_utf8_all (c ∷ xs))) b k n left) (sym (suffix-taken left cs h))
