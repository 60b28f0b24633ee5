-- Tokens one behind another stay so where the first is taken.
use Rattle.std.proofs.Common.{◌≡◌, ◌∙◌, subst, ap, arith, IsTrue, ℕ, List, [], ◌∷◌, ◌++◌, Option, Some, None, reverse, option_to_list}
use Rattle.std.proofs.lemmas.List.{append-nil, reverse-append}
use Rattle.std.proofs.lemmas.Grind.{common_steps}
use Rattle.swc_ecma_parser_token.specs.declared.token.TokenAndSpan.{TokenAndSpan}
use Rattle.swc_ecma_parser_input.specs.TokenSource.{ordered_from}

pub ordered_rest : (at : ℕ) (t : TokenAndSpan) (ts : List TokenAndSpan) → IsTrue (ordered_from at (t ∷ ts)) → IsTrue (ordered_from at ts)
ordered_rest at t [] h = grind (arith, common_steps)
ordered_rest at t (u ∷ us) h = grind (arith, common_steps)

pub ordered_popped : (at : ℕ) (old new : List TokenAndSpan) (o : Option TokenAndSpan) →
    old ≡ new ++ option_to_list o → IsTrue (ordered_from at (reverse old)) → IsTrue (ordered_from at (reverse new))
ordered_popped at old new None e h =
    let P : List TokenAndSpan → Type 0 = λ l. IsTrue (ordered_from at (reverse l)) in subst P (e ∙ append-nil new) h
ordered_popped at old new (Some t) e h =
    let P : List TokenAndSpan → Type 0 = λ l. IsTrue (ordered_from at l) in
    ordered_rest at t (reverse new) (subst P (ap reverse e ∙ reverse-append new (t ∷ [])) h)
