-- What a tree is written from besides itself.
use Rattle.std.specs.Prelude.{ℕ, List}
use Rattle.ecma_estree_text.specs.Places.{Placed}

pub record Source : Type 0 where
  -- the text that it was read from, and what is written of its places
  pub places : Placed
  -- fields of the whole behind its others, as text
  pub fields : List ℕ

abbrev pub source_of : Placed → List ℕ → Source
source_of places fields = record { places = places; fields = fields }
