-- Which faults an answer adds, of the kinds that the walk finds: the tree's walk, whatever other faults come with it.
use Rattle.std.specs.Prelude.{◌≡◌, false, List, [], ◌++◌, Result, Ok, Err}
use Rattle.swc_ecma_parser_error.specs.declared.error.Error.{Error}
use Rattle.swc_ecma_parser_error.specs.Kind.{Fault}
use Rattle.swc_ecma_parser_model.specs.Tree.{Tree}
use Rattle.swc_ecma_parser_grammar.specs.Walk.{tabled, drops, walk, env_of}
use Rattle.swc_ecma_parser_reader.specs.Entry.{error_tokens}
use Rattle.swc_ecma_parser_reader.specs.State.{State}
use Rattle.swc_ecma_parser_module_reader.specs.Modules.{module_code}

-- the walk of a module read in a state, before its code is a module's
abbrev pub whole_module_walk : State → Tree → List Fault
whole_module_walk s x = walk (env_of (module_code s.code) s.scope.labels) x

-- Where nothing had been held back, no error token was read and nothing was dropped: the faults of the table among those that the
-- call added are the walk.
abbrev pub Walked : {X : Type 0} → (X → Tree) → (walk : Tree → List Fault) → State → Result X Error → State → Type 0
Walked view walk s (Ok x) t =
    (added : List Fault) → t.faults ≡ s.faults ++ added → s.notes.held_back ≡ [] → error_tokens s.at.left ≡ error_tokens t.at.left → drops added ≡ false → tabled added ≡ walk (view x)
Walked view walk s (Err e) t = Unit {0}
