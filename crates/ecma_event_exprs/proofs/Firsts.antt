-- The first part of a list, and those behind it.
use Rattle.std.proofs.Common.{◌≡◌, Bool, true, false, ◌||◌, List, ◌∷◌, Result, OnOk, map, ap, subst, sym, ◌∙◌}
use Rattle.ecma_events.specs.Event.{Event}
use Rattle.ecma_events.specs.declared.event.Role.{Role}
use Rattle.ecma_event_exprs.specs.Events.{all_events, events, is_proto, property_events, second_proto, used}
use Rattle.swc_ecma_parser_model.specs.Tree.{Tree, trees}

pub first_part : {X E P : Type 0} (view : P → Tree) (res : Result X E) (q rest : List Event) (r : Role) (p : P) (ps all : List P)
    → all ≡ p ∷ ps → OnOk res (q ≡ events r (view p) (all_events r (trees (map view ps)) rest)) → OnOk res (q ≡ all_events r (trees (map view all)) rest)
first_part view res q rest r p ps all e h = subst (λ xs. OnOk res (q ≡ all_events r (trees (map view xs)) rest)) (sym e) h

pub seen_before : (seen is_seen b : Bool) → seen ≡ true → is_seen ≡ seen → is_seen ≡ (seen || b)
seen_before seen is_seen b e f = f ∙ (e ∙ sym (ap (λ s. s || b) e))

pub seen_here : (seen is_seen b : Bool) → seen ≡ false → is_seen ≡ b → is_seen ≡ (seen || b)
seen_here seen is_seen b e f = f ∙ sym (ap (λ s. s || b) e)

-- the first property of an object
pub first_property : {X E P : Type 0} (view : P → Tree) (res : Result X E) (q rest middle : List Event) (seen is_seen : Bool) (p : P) (ps all : List P)
    → all ≡ p ∷ ps → is_seen ≡ (seen || is_proto (view p)) → middle ≡ events used (view p) (property_events is_seen (trees (map view ps)) rest)
    → OnOk res (q ≡ second_proto seen (view p) middle) → OnOk res (q ≡ property_events seen (trees (map view all)) rest)
first_property view res q rest middle seen is_seen p ps all e f g h =
    subst (λ xs. OnOk res (q ≡ property_events seen (trees (map view xs)) rest)) (sym e)
    (subst (λ b. OnOk res (q ≡ second_proto seen (view p) (events used (view p) (property_events b (trees (map view ps)) rest)))) f
    (subst (λ m. OnOk res (q ≡ second_proto seen (view p) m)) g h))
