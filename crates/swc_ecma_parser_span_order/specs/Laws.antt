-- Of ordered tokens, what the reader answers runs forward, whatever it records, and what is left stands in order behind it.
use Rattle.std.specs.Prelude.{◌≡◌, ℕ, true, Ok}
use Rattle.swc_ecma_parser_model.specs.Tree.{Tree, none, also}
use Rattle.swc_ecma_parser_grammar.specs.declared.position.Position.{Position}
use Rattle.swc_ecma_parser_reader.specs.Reader.{whole_stmt, script}
use Rattle.swc_ecma_parser_reader.specs.State.{State}
use Rattle.swc_ecma_parser_span_order.specs.Forward.{in_order, forward}
use Rattle.swc_ecma_parser_span_order.specs.Follows.{follow_between, items_in}

abbrev pub StatementsRunForward : Type 0
StatementsRunForward = (limit : ℕ) (at : Position) (s t : State) (x : Tree) → in_order s.at ≡ true → whole_stmt limit at s ≡ Ok (x, t)
    → (forward x ≡ true) × (in_order t.at ≡ true)

abbrev pub ScriptsRunForward : Type 0
ScriptsRunForward = (limit : ℕ) (s t : State) (x : Tree) → in_order s.at ≡ true → script limit s ≡ Ok (x, t)
    → (forward x ≡ true) × (in_order t.at ≡ true)

-- and stands on what was read, as its items do, one behind another
abbrev pub StatementsFollow : Type 0
StatementsFollow = (limit : ℕ) (at : Position) (s t : State) (x : Tree) → in_order s.at ≡ true → whole_stmt limit at s ≡ Ok (x, t)
    → follow_between s.at (also x none) t.at ≡ true

abbrev pub ScriptsFollow : Type 0
ScriptsFollow = (limit : ℕ) (s t : State) (x : Tree) → in_order s.at ≡ true → script limit s ≡ Ok (x, t)
    → (follow_between s.at (also x none) t.at ≡ true) × (follow_between s.at (items_in x) t.at ≡ true)
