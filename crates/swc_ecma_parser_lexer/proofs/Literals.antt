-- Turns of the loops over a string literal.
use Rattle.std.proofs.Common.{◌≡◌, ℕ, List, [], ◌∷◌, ◌++◌, Option, ap, sym, ◌∙◌, append_assoc}
use Rattle.swc_ecma_parser_lexer.specs.declared.escape.Escape.{Escape}
use Rattle.swc_ecma_parser_lexer.specs.declared.escape.Turn.{Turn}
use Rattle.swc_ecma_parser_lexer.specs.Strings.{is_well_escaped, is_right, escaped, value_of, said, said_last}

pub is_well_escaped-past : (quote : ℕ) (s : Escape) (xs : List ℕ) (c : ℕ) (cs : List ℕ) (e : Turn) → xs ≡ c ∷ cs → e ≡ escaped quote s c → is_well_escaped quote s xs ≡ is_well_escaped quote e.state cs
unfolding is_well_escaped
is_well_escaped-past quote s xs c cs e f g = ap (is_well_escaped quote s) f ∙ ap (λ (x : Turn). is_well_escaped quote x.state cs) (sym g)

pub is_well_escaped-end : (quote : ℕ) (s : Escape) (xs : List ℕ) → xs ≡ [] → is_well_escaped quote s xs ≡ is_right s
unfolding is_well_escaped
is_well_escaped-end quote s xs f = ap (is_well_escaped quote s) f

pub value_of-past : (quote : ℕ) (s : Escape) (waiting : Option ℕ) (xs : List ℕ) (c : ℕ) (cs : List ℕ) (e : Turn) → xs ≡ c ∷ cs → e ≡ escaped quote s c → value_of quote s waiting xs ≡ (said waiting e.unit).bytes ++ value_of quote e.state (said waiting e.unit).waiting cs
unfolding value_of
value_of-past quote s waiting xs c cs e f g = ap (value_of quote s waiting) f ∙ ap (λ (x : Turn). (said waiting x.unit).bytes ++ value_of quote x.state (said waiting x.unit).waiting cs) (sym g)

pub value_of-end : (quote : ℕ) (s : Escape) (waiting : Option ℕ) (xs : List ℕ) → xs ≡ [] → value_of quote s waiting xs ≡ said_last waiting
unfolding value_of
value_of-end quote s waiting xs f = ap (value_of quote s waiting) f

-- what is appended comes off the rest
pub appended : (all before rest bytes tail after same_tail : List ℕ) → all ≡ before ++ rest → rest ≡ bytes ++ tail → after ≡ before ++ bytes → same_tail ≡ tail → all ≡ after ++ same_tail
appended all before rest bytes tail after same_tail e f g h =
    e ∙ ap (λ xs. before ++ xs) f ∙ sym (append_assoc before bytes tail) ∙ ap (λ xs. xs ++ tail) (sym g) ∙ ap (λ xs. after ++ xs) (sym h)
