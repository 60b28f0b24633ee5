-- The text before a last character.
use Rattle.std.proofs.Common.{◌≡◌, ℕ, ◌-◌, List, [], ◌∷◌, ◌++◌, length, take, ap, sym, ◌∙◌, arith, length-append, append-nil}
use Rattle.std.specs.Char.{encode_utf8}
use Rattle.std.specs.Str.{chars, IsUtf8, encode_utf8_all}
use Rattle.std.proofs.lemmas.Str.{chars-nil, chars_from_encodes, encodes-append, encodes-chars}
use Rattle.std.proofs.lemmas.List.{nil_from_length}
use Rattle.std.proofs.Math.Seq.{take-append_seam}
use Rattle.swc_ecma_parser_lexer.specs.Comments.{before_last}

pub before_last-push : (text rest : List ℕ) (c : ℕ) → IsUtf8 text → IsUtf8 rest → text ≡ rest ++ encode_utf8 c → before_last text ≡ rest
unfolding before_last
before_last-push text rest c u v e =
    let xs = chars rest in
    let spelled : encode_utf8_all (xs ++ c ∷ []) ≡ text =
    encodes-append xs (c ∷ []) ∙ ap (λ r. r ++ encode_utf8_all (c ∷ [])) (encodes-chars rest v) ∙ ap (λ r. rest ++ r) (append-nil (encode_utf8 c)) ∙ sym e in
    let all : chars text ≡ xs ++ c ∷ [] = sym (chars_from_encodes (xs ++ c ∷ []) text u spelled) in
    let n : length (chars text) - 1 ≡ length xs = omega (arith, ap length all, length-append xs (c ∷ [])) in
    ap encode_utf8_all (ap (λ k. take k (chars text)) n ∙ ap (take (length xs)) all ∙ take-append_seam xs (c ∷ [])) ∙ encodes-chars rest v

pub before_last-nil : (text : List ℕ) → length text ≡ 0 → before_last text ≡ text
unfolding before_last
before_last-nil text h =
    let e = nil_from_length text h in
    ap before_last e ∙ ap (λ cs. encode_utf8_all (take (length cs - 1) cs)) chars-nil ∙ sym e
