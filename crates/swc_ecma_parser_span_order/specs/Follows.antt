-- Whether what is answered stands one behind another, on what was read.
use Rattle.std.specs.Prelude.{◌≡◌, ℕ, Bool, true, ◌&&◌, nat_le, Result, Ok, Err}
use Rattle.swc_ecma_parser_error.specs.declared.error.Error.{Error}
use Rattle.swc_ecma_parser_input.specs.Place.{Place}
use Rattle.swc_ecma_parser_model.specs.Tree as tree
use Rattle.swc_ecma_parser_model.specs.Tree.{Tree, Trees, none, also}
use Rattle.swc_ecma_parser_model.specs.Forms.{span_of}

-- Each of these trees ends at or before the next begins, the first begins at or behind one byte offset, and the last ends at or before
-- another.
abbrev pub follow : (from : ℕ) → Trees → (to : ℕ) → Bool
follow from none to = nat_le from to
follow from (also x xs) to = nat_le from (span_of x).lo.0 && follow (span_of x).hi.0 xs to

-- the same from the end of what was read last at one place to that at another
abbrev pub follow_between : Place → Trees → Place → Bool
follow_between c xs d = follow c.last.hi.0 xs d.last.hi.0

-- the items of a script or a module
abbrev pub items_in : Tree → Trees
items_in (tree.script s (tree.list ts) shebang) = ts
items_in (tree.module_program s (tree.list ts) shebang) = ts
items_in _ = none

-- An item that is answered begins at or behind the end of what was read last before the call, and ends at or before the end of what
-- was read last behind it.
abbrev pub ItemInOrder : {X : Type 0} → (X → Tree) → Place → Result X Error → Place → Type 0
ItemInOrder view c (Ok x) d = follow_between c (also (view x) none) d ≡ true
ItemInOrder view c (Err e) d = Unit {0}

-- So does a whole, and its items do, one behind another.
abbrev pub ItemsInOrder : {X : Type 0} → (X → Tree) → Place → Result X Error → Place → Type 0
ItemsInOrder view c (Ok x) d = (follow_between c (also (view x) none) d ≡ true) × (follow_between c (items_in (view x)) d ≡ true)
ItemsInOrder view c (Err e) d = Unit {0}
