-- Octal digits are small.
use Rattle.std.proofs.Common.{◌≡◌, ℕ, ◌-◌, ◌≤◌, Bool, true, false, ◌&&◌, cond, refl, arith, nat_le}
use Rattle.std.proofs.lemmas.Bool.Decides.{nat_tests}
use Rattle.swc_ecma_parser_whole_lexer.specs.Old.{octal_value}
use Rattle.swc_ecma_parser_whole_lexer.specs.Runs.{is_of}
use Rattle.swc_ecma_parser_whole_lexer.specs.declared.run.Class.TheVariants as class

right : (a b : Bool) → (a && b) ≡ true → b ≡ true
right true b e = e
right false b e = absurd (cc e)

most : (c : ℕ) → nat_le c 55 ≡ true → c ≤ 55
most c e = grind (arith, nat_tests)

digit-small : (c : ℕ) → is_of class.Octal c ≡ true → c - 48 ≤ 7
unfolding is_of
digit-small c e = omega (arith, most c (right (nat_le 48 c) (nat_le c 55) e))

choice-small : (v : Bool) (c : ℕ) → (v ≡ true → c - 48 ≤ 7) → cond v (c - 48) 0 ≤ 7
choice-small true c f = f refl
choice-small false c f = omega arith

pub octal-small : (c : ℕ) → octal_value c ≤ 7
unfolding octal_value
octal-small c = choice-small (is_of class.Octal c) c (digit-small c)
