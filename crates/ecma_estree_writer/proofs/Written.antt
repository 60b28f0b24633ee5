-- Steps of writing.
use Rattle.std.proofs.Common.{◌≡◌, ℕ, List, Result, Ok, Err, ◌++◌, ap, ◌∙◌, append_assoc, OnOk}
use Rattle.ecma_estree_writer.specs.Writing.{Writing, Appends, Pushes, Writes}

-- what is written is no longer to be written
pub appended : (a b : Writing) (xs : List ℕ) → Appends a b xs → Writes a b xs
appended a b xs h = (h.0, ap (λ r. r ++ b.pending) h.1 ∙ ap (λ r. (a.written ++ xs) ++ r) h.2 ∙ append_assoc a.written xs a.pending)

pub appended_on_ok : {X E : Type 0} (r : Result X E) (a b : Writing) (xs : List ℕ) → OnOk r (Appends a b xs) → OnOk r (Writes a b xs)
appended_on_ok (Ok x) a b xs h = appended a b xs h
appended_on_ok (Err e) a b xs h = tt

pub pushed : (a b : Writing) (xs : List ℕ) → Pushes a b xs → Writes a b xs
pushed a b xs h = (h.0, ap (λ r. r ++ b.pending) h.1 ∙ ap (λ r. a.written ++ r) h.2)

pub pushed_on_ok : {X E : Type 0} (r : Result X E) (a b : Writing) (xs : List ℕ) → OnOk r (Pushes a b xs) → OnOk r (Writes a b xs)
pushed_on_ok (Ok x) a b xs h = pushed a b xs h
pushed_on_ok (Err e) a b xs h = tt
