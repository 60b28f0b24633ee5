-- What stands one behind another, and with commas between.
use Rattle.std.specs.Prelude.{◌≡◌, Bool, true, false, not, ◌&&◌, List, [], ◌∷◌}
use Rattle.swc_ecma_parser_token.specs.declared.kind.TokenKind.TheVariants as kind
use Rattle.swc_ecma_parser_input.specs.Place.{Place, after}
use Rattle.swc_ecma_parser_model.specs.Tree as tree
use Rattle.swc_ecma_parser_model.specs.Tree.{Tree}
use Rattle.swc_ecma_parser_model.specs.Forms.{is_rest}
use Rattle.swc_ecma_parser_grammar.specs.Looks.{kind_at, sees}

-- any number, with nothing between
abbrev pub ReadsEach : (Tree → Place → Place → Type 0) → List Tree → Place → Place → Type 0
ReadsEach Reads [] c d = d ≡ c
ReadsEach Reads (x ∷ xs) c d = (m : Place) × Reads x c m × ReadsEach Reads xs m d

-- at least one, with commas between and none behind
abbrev pub ReadsSeparated : (Tree → Place → Place → Type 0) → List Tree → Place → Place → Type 0
ReadsSeparated Reads [] c d = ⊥
ReadsSeparated Reads (x ∷ []) c d = Reads x c d × (sees kind.Comma d ≡ false)
ReadsSeparated Reads (x ∷ y ∷ ys) c d = (m : Place) × Reads x c m × (kind_at m ≡ kind.Comma) × ReadsSeparated Reads (y ∷ ys) (after m) d

-- Behind the last of a list, before what closes it: nothing, or a comma where one may stand. None stands behind a rest.
pub data LastComma (commas : Bool) (x : Tree) (c d : Place) : Type 0 where
  no_comma : d ≡ c → LastComma commas x c d
  last_comma : commas && not (is_rest x) ≡ true → kind_at c ≡ kind.Comma → d ≡ after c → LastComma commas x c d

-- Any number, with commas between, before what closes the list. A rest is the last.
abbrev pub ReadsListed : Bool → (Tree → Place → Place → Type 0) → List Tree → Place → Place → Type 0
ReadsListed commas Reads [] c d = d ≡ c
ReadsListed commas Reads (x ∷ []) c d = (m : Place) × Reads x c m × LastComma commas x m d
ReadsListed commas Reads (x ∷ y ∷ ys) c d = (m : Place) × Reads x c m × (is_rest x ≡ false) × (kind_at m ≡ kind.Comma) × ReadsListed commas Reads (y ∷ ys) (after m) d

-- The elements of an array, sections 13.2.4 and 14.3.3, where a comma with nothing before it makes a hole.
pub data Elements (Reads : Tree → Place → Place → Type 0) : List Tree → Place → Place → Type 0 where
  no_elements : {xs : List Tree} {c d : Place} → xs ≡ [] → d ≡ c → Elements Reads xs c d
  hole : {xs : List Tree} {c d : Place} (ys : List Tree) → kind_at c ≡ kind.Comma → Elements Reads ys (after c) d → xs ≡ tree.absent ∷ ys → Elements Reads xs c d
  last_element : {xs : List Tree} {c d : Place} (y : Tree) (m : Place) → Reads y c m → LastComma true y m d → xs ≡ y ∷ [] → Elements Reads xs c d
  more_elements : {xs : List Tree} {c d : Place} (y z : Tree) (zs : List Tree) (m : Place) → Reads y c m → is_rest y ≡ false → kind_at m ≡ kind.Comma
      → Elements Reads (z ∷ zs) (after m) d → xs ≡ y ∷ z ∷ zs → Elements Reads xs c d
