-- Notes one behind another.
use Rattle.std.proofs.Common.{◌≡◌, Bool, true, false, ◌||◌, refl, append_assoc, append-nil}
use Rattle.swc_ecma_parser_reader.specs.Notes.{Notes, no_notes, ◌⊕◌}

pub or_nil : (b : Bool) → (b || false) ≡ b
or_nil true = refl
or_nil false = refl

pub or_true : (b : Bool) → (b || true) ≡ true
or_true true = refl
or_true false = refl

pub or_assoc : (a b c : Bool) → ((a || b) || c) ≡ (a || (b || c))
or_assoc true b c = refl
or_assoc false b c = refl

pub notes_nil : (n : Notes) → n ⊕ no_notes ≡ n
notes_nil n = λ i. record { held_back = append-nil n.held_back i; found_module_item = or_nil n.found_module_item i }

pub notes_assoc : (l m n : Notes) → (l ⊕ m) ⊕ n ≡ l ⊕ (m ⊕ n)
notes_assoc l m n = λ i. record {
  held_back = append_assoc l.held_back m.held_back n.held_back i;
  found_module_item = or_assoc l.found_module_item m.found_module_item n.found_module_item i;
}
