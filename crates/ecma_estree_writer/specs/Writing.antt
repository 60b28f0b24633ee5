-- What a writer has written, and what it has yet to write.
use Rattle.std.specs.Prelude.{◌≡◌, ℕ, List, ◌++◌}
use Rattle.ecma_estree_writer.specs.Source.{Source}

pub record Writing : Type 0 where
  -- what the tree was read from
  pub source : Source
  pub written : List ℕ
  pub pending : List ℕ

-- it has written more
abbrev pub Appends : Writing → Writing → List ℕ → Type 0
Appends a b xs = (b.source ≡ a.source) × (b.written ≡ a.written ++ xs) × (b.pending ≡ a.pending)

-- it has more to write, before what it had
abbrev pub Pushes : Writing → Writing → List ℕ → Type 0
Pushes a b xs = (b.source ≡ a.source) × (b.written ≡ a.written) × (b.pending ≡ xs ++ a.pending)

-- it has written more, or has more to write
abbrev pub Writes : Writing → Writing → List ℕ → Type 0
Writes a b xs = (b.source ≡ a.source) × (b.written ++ b.pending ≡ a.written ++ (xs ++ a.pending))
