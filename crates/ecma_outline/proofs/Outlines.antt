-- What is read of a text, with one byte more and at its end.
use Rattle.std.proofs.Common.{◌≡◌, ℕ, List, [], ◌∷◌, ◌++◌, ◌+◌, ◌≤◌, ◌<◌, arith, refl, ap, sym, ◌∙◌, get_or, take, length}
use Rattle.std.proofs.lemmas.List.{get_or_past, get_or_read, take_all, take_more}
use Rattle.ecma_outline.specs.Outline.{IsOutline, Scanned, count_at, empty_at, finish, lexeme_at, no_lexeme, no_open, open_at, outlined, scan, scanned, start, step}
use Rattle.ecma_outline.specs.declared.outline.Lexeme.{Lexeme}
use Rattle.ecma_outline.specs.declared.outline.Open.{Open}
use Rattle.ecma_outline.specs.declared.outline.Outline.{Outline}
use Rattle.ecma_outline.specs.declared.outline.State.{State}

scan_push : (r : Scanned) (bs : List ℕ) (b : ℕ) → scan r (bs ++ b ∷ []) ≡ step (scan r bs) b
scan_push r [] b = refl
scan_push r (x ∷ xs) b = scan_push (step r x) xs b

pub scan_more : (text : List ℕ) (i : ℕ) (r : Scanned) → i < length text → r ≡ scan start (take i text)
    → step r (get_or text i 0) ≡ scan start (take (i + 1) text)
scan_more text i r h e = ap (λ q. step q (get_or text i 0)) e ∙ sym (scan_push start (take i text) (get_or text i 0)) ∙ ap (scan start) (sym (take_more text i 0 h))

pub scan_all : (text : List ℕ) (i : ℕ) (r : Scanned) → length text ≤ i → r ≡ scan start (take i text) → r ≡ scan start text
scan_all text i r h e = e ∙ ap (scan start) (take_all i text h)

-- what is kept at the end
pub finished : (text : List ℕ) (s t : State) (o p q : Outline) → scanned s o ≡ scan start text → scanned t p ≡ step (scanned s o) 10
    → q.lexemes.items ≡ p.lexemes.items ++ empty_at t ∷ [] → q.opens ≡ p.opens → q.counts ≡ p.counts → IsOutline text q
unfolding outlined scanned
finished text s t o p q read last lexemes opens counts =
    let all : scanned t p ≡ step (scan start text) 10 = last ∙ ap (λ r. step r 10) read in
    record {
      lexemes = lexemes ∙ ap (λ r. (finish r).lexemes) all;
      opens = ap (λ v. v.items) opens ∙ ap (λ r. (finish r).opens) all;
      counts = ap (λ v. v.items) counts ∙ ap (λ r. (finish r).counts) all;
    }

-- an element of a list, and none
pub open_in : (xs : List Open) (n : ℕ) (x : Open) → n < length xs → x ≡ get_or xs n x → x ≡ open_at xs n
open_in xs n x h e = get_or_read xs n x h e no_open

pub open_past : (xs : List Open) (n : ℕ) → length xs ≤ n → open_at xs n ≡ no_open
open_past xs n h = get_or_past xs n no_open h

pub lexeme_in : (xs : List Lexeme) (n : ℕ) (x : Lexeme) → n < length xs → x ≡ get_or xs n x → x ≡ lexeme_at xs n
lexeme_in xs n x h e = get_or_read xs n x h e no_lexeme

pub lexeme_past : (xs : List Lexeme) (n : ℕ) → length xs ≤ n → lexeme_at xs n ≡ no_lexeme
lexeme_past xs n h = get_or_past xs n no_lexeme h

pub count_in : (xs : List ℕ) (n x : ℕ) → n < length xs → x ≡ get_or xs n x → x ≡ count_at xs n
count_in xs n x h e = get_or_read xs n x h e 0

pub count_past : (xs : List ℕ) (n : ℕ) → length xs ≤ n → count_at xs n ≡ 0
count_past xs n h = get_or_past xs n 0 h
