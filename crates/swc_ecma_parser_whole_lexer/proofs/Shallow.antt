-- No more is open than may be.
use Rattle.std.proofs.Common.{◌≡◌, ℕ, ◌≤◌, Bool, true, false, cond, List, [], ◌∷◌, length, refl, arith, nat_lt}
use Rattle.std.proofs.lemmas.Bool.Decides.{nat_tests}
use Rattle.swc_ecma_parser_nesting.specs.declared.nest.Nest.{Nest}
use Rattle.swc_ecma_parser_nesting.specs.declared.stack.Open.{Open}
use Rattle.swc_ecma_parser_nesting.specs.Nesting.{is_too_deep, taken_back}
use Rattle.swc_ecma_parser_nesting.specs.Stacked.{below_top}
use Rattle.swc_ecma_parser_whole_lexer.specs.Whole.{nest_settled}

not-more : (n : ℕ) → nat_lt 4096 n ≡ false → n ≤ 4096
not-more n e = grind (arith, nat_tests)

fewer : (os : List Open) → length os ≤ 4097 → length (below_top os) ≤ 4096
fewer [] h = omega arith
fewer (o ∷ os) h = omega (arith, h)

choice-fits : (v : Bool) (n : Nest) → (v ≡ false → length n.stack ≤ 4096) → length n.stack ≤ 4097 → length (cond v (taken_back n) n).stack ≤ 4096
choice-fits true n f h = fewer n.stack h
choice-fits false n f h = f refl

pub settled-fits : (n : Nest) → length n.stack ≤ 4097 → length (nest_settled n).stack ≤ 4096
unfolding nest_settled is_too_deep
settled-fits n h = choice-fits (nat_lt 4096 (length n.stack)) n (not-more (length n.stack)) h

pub shallow-fits : (n : Nest) → is_too_deep n ≡ false → length n.stack ≤ 4096
unfolding is_too_deep
shallow-fits n e = not-more (length n.stack) e
