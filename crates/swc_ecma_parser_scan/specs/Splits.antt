-- A piece and what is left are the characters that were there.
use Rattle.std.proofs.Common.{◌≡◌, ℕ, Bool, List, [], ◌∷◌, ◌++◌, Option, Some, None, refl, ap}
use Rattle.swc_ecma_parser_scan.specs.declared.state.State.{State}
use Rattle.swc_ecma_parser_scan.specs.declared.state.State.TheVariants as state
use Rattle.swc_ecma_parser_scan.specs.declared.state.Mark.TheVariants as mark
use Rattle.swc_ecma_parser_scan.specs.Step.{begin, step}
use Rattle.swc_ecma_parser_scan.specs.Scan.{Munched, munch, settled, settled_at, scan}

pub munch-end : (s : State) → munch s [] ≡ record { taken = []; left = []; state = s }
unfolding munch
munch-end s = refl

pub munch-stop : (s : State) (c : ℕ) (cs : List ℕ) → step s c ≡ None → munch s (c ∷ cs) ≡ record { taken = []; left = c ∷ cs; state = s }
unfolding munch
munch-stop s c cs e = rw (e, munch) refl

pub munch-more : (s t : State) (c : ℕ) (cs : List ℕ) → step s c ≡ Some t → munch s (c ∷ cs) ≡ record { taken = c ∷ (munch t cs).taken; left = (munch t cs).left; state = (munch t cs).state }
unfolding munch
munch-more s t c cs e = rw (e, munch) refl

munch-turn : (s : State) (c : ℕ) (cs : List ℕ) (o : Option State) → step s c ≡ o → ((t : State) → (munch t cs).taken ++ (munch t cs).left ≡ cs) → (munch s (c ∷ cs)).taken ++ (munch s (c ∷ cs)).left ≡ c ∷ cs
munch-turn s c cs None e h = rw (munch-stop s c cs e) refl
munch-turn s c cs (Some t) e h = rw (munch-more s t c cs e) (ap (λ xs. c ∷ xs) (h t))

pub munch-splits : (s : State) (cs : List ℕ) → (munch s cs).taken ++ (munch s cs).left ≡ cs
munch-splits s [] = rw (munch-end s) refl
munch-splits s (c ∷ cs) = munch-turn s c cs (step s c) refl (λ t. munch-splits t cs)

settled_at-splits : (s : State) (cs : List ℕ) (m : Munched) → m.taken ++ m.left ≡ cs → (settled_at s cs m).taken ++ (settled_at s cs m).left ≡ cs
settled_at-splits (state.Mark mark.DotDot) cs m e = refl
settled_at-splits (state.Mark k) cs m e = e
settled_at-splits s cs m e = e

pub scan-splits : (is_first : Bool) (c : ℕ) (cs : List ℕ) → (scan is_first c cs).taken ++ (scan is_first c cs).left ≡ cs
unfolding scan settled
scan-splits is_first c cs =
    let m = munch (begin is_first c) cs in
    settled_at-splits m.state cs m (munch-splits (begin is_first c) cs)
