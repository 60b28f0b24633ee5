-- What is read behind a token, is read there.
use Rattle.std.proofs.Common.{◌≡◌, Ok, Err, sym, ap, subst}
use Rattle.swc_ecma_parser_reader.specs.State.{State, Outcome, Reader, moved}

abbrev behind : State → Outcome (Unit {0}) → State
behind s (Ok p) = p.1
behind s (Err e) = s

pub after_skip : {A : Type 0} (read : Reader A) (s t : State) (o : Outcome A) → ◌≡◌ {A = Outcome (Unit {0})} (Ok (tt, moved s)) (Ok (tt, t)) → read t ≡ o → read (moved s) ≡ o
after_skip read s t o h g = subst (λ u. read u ≡ o) (sym (ap (behind s) h)) g
