-- Of ordered tokens, what the reader of modules answers runs forward, whatever it records, and what is left stands in order behind it.
use Rattle.std.specs.Prelude.{◌≡◌, ℕ, true, List, Ok}
use Rattle.swc_ecma_parser_error.specs.Kind.{Fault}
use Rattle.swc_ecma_parser_model.specs.Tree.{Tree, none, also}
use Rattle.swc_ecma_parser_reader.specs.State.{State}
use Rattle.swc_ecma_parser_module_reader.specs.Modules.{module_whole}
use Rattle.swc_ecma_parser_module_reader.specs.Programs.{program_whole}
use Rattle.swc_ecma_parser_module_reader.specs.Items.{item_whole}
use Rattle.swc_ecma_parser_span_order.specs.Forward.{in_order, forward}
use Rattle.swc_ecma_parser_span_order.specs.Follows.{follow_between, items_in}

abbrev pub ModulesRunForward : Type 0
ModulesRunForward = (limit : ℕ) (s t : State) (x : Tree) → in_order s.at ≡ true → module_whole limit s ≡ Ok (x, t)
    → (forward x ≡ true) × (in_order t.at ≡ true)

-- with what is recorded of what was held back, and what still is
abbrev pub ProgramsRunForward : Type 0
ProgramsRunForward = (limit : ℕ) (recorded held : List Fault) (s t : State) (x : Tree) → in_order s.at ≡ true → program_whole limit recorded s ≡ Ok ((x, held), t)
    → (forward x ≡ true) × (in_order t.at ≡ true)

abbrev pub ItemsRunForward : Type 0
ItemsRunForward = (limit : ℕ) (recorded held : List Fault) (s t : State) (x : Tree) → in_order s.at ≡ true → item_whole limit recorded s ≡ Ok ((x, held), t)
    → (forward x ≡ true) × (in_order t.at ≡ true)

-- and stands on what was read, as its items do, one behind another
abbrev pub ModulesFollow : Type 0
ModulesFollow = (limit : ℕ) (s t : State) (x : Tree) → in_order s.at ≡ true → module_whole limit s ≡ Ok (x, t)
    → (follow_between s.at (also x none) t.at ≡ true) × (follow_between s.at (items_in x) t.at ≡ true)

abbrev pub ProgramsFollow : Type 0
ProgramsFollow = (limit : ℕ) (recorded held : List Fault) (s t : State) (x : Tree) → in_order s.at ≡ true → program_whole limit recorded s ≡ Ok ((x, held), t)
    → (follow_between s.at (also x none) t.at ≡ true) × (follow_between s.at (items_in x) t.at ≡ true)

abbrev pub ItemsFollow : Type 0
ItemsFollow = (limit : ℕ) (recorded held : List Fault) (s t : State) (x : Tree) → in_order s.at ≡ true → item_whole limit recorded s ≡ Ok ((x, held), t)
    → follow_between s.at (also x none) t.at ≡ true
