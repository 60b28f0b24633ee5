-- What a step lays before the work of an earlier one, where that work is known.
use Rattle.std.proofs.Common.{◌≡◌, List, Result, OnOk, subst}
use Rattle.ecma_events.specs.Event.{Event}

pub after : {X E : Type 0} (res : Result X E) (q : List Event) (f : List Event → List Event) (a b : List Event) → a ≡ b → OnOk res (q ≡ f a) → OnOk res (q ≡ f b)
after res q f a b e h = subst (λ l. OnOk res (q ≡ f l)) e h
