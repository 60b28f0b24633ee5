-- The status of a run.
use Rattle.std.proofs.Common.{◌≡◌, ℕ, List, Option, Some, None, Result, Ok, Err, refl, ap, ◌⊎◌, inl, inr}
use Rattle.std.specs.Prelude.{IfOk, IsOkAnd, IsErr, IfSome}
use Rattle.ecma_report.specs.declared.answer.Verdict.{Verdict}
use Rattle.ecma_report.specs.declared.answer.Verdict.TheVariants as verdict

-- where it is known what there is to read
pub where_known : {P Q : List ℕ → Type 0} (o : Option (List ℕ)) → IfSome o P → ((xs : List ℕ) → P xs → Q xs) → IfSome o Q
where_known (Some xs) h f = f xs h
where_known None h f = tt

-- where there are words
pub where_ok : {X E : Type 0} {P Q : X → Type 0} (r : Result X E) → IfOk r P → ((x : X) → P x → Q x) → IfOk r Q
where_ok (Ok x) h f = f x h
where_ok (Err e) h f = tt

-- there are words, of which more holds
pub more_of : {X E : Type 0} {P Q : X → Type 0} (r : Result X E) → IsOkAnd r P → ((x : X) → P x → Q x) → IsOkAnd r Q
more_of (Ok x) h f = f x h
more_of (Err e) h f = h

-- what an answer holds
abbrev value_or : {X E : Type 0} → X → Result X E → X
value_or d (Ok x) = x
value_or d (Err e) = d

-- two equal answers hold the same
pub same_ok : {X E : Type 0} (x y : X) → ◌≡◌ {A = Result X E} (Ok x) (Ok y) → x ≡ y
same_ok x y h = ap (value_or x) h

-- an outcome that can only be clean ends with 0, or with the status of a fault
pub ends : {E : Type 0} (o : Result Verdict E) (n : ℕ) → (o ≡ Ok verdict.Clean → n ≡ 0) → (IsErr o → n ≡ 3) → IfOk o (λ v. v ≡ verdict.Clean) → (n ≡ 0) ⊎ (n ≡ 3)
ends (Ok v) n z t h = inl (z (ap Ok h))
ends (Err e) n z t h = inr (t refl)
