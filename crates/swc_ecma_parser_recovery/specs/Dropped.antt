-- What is read and dropped, as its code meets it.
use Rattle.std.specs.Prelude.{Bool, List, Result, Ok, Err, ◌||◌, is_some, if◌then◌else◌}
use Rattle.swc_ecma_parser_error.specs.declared.error.Error.{Error}
use Rattle.swc_ecma_parser_error.specs.Kind.{fault_of}
use Rattle.swc_ecma_parser_input.specs.declared.context.Context.{Context}
use Rattle.swc_ecma_parser_model.specs.Tree.{Text}
use Rattle.swc_ecma_parser_reader.specs.State.{State, Outcome, says_out_of_memory}
use Rattle.swc_ecma_parser_reader.proofs.Recovered.{set_back}

-- how the reading ended, without what was read
abbrev pub ended : {A : Type 0} → Result A Error → State → Outcome (Unit {0})
ended (Ok x) u = Ok (tt, u)
ended (Err e) u = Err (fault_of e, u)

-- An answer is dropped, and so is a refusal, but where memory ran out or the state is marked; this stands around again.
abbrev pub dropped_in : List Text → Bool → Context → Outcome (Unit {0}) → Outcome (Unit {0})
dropped_in labels found flags (Ok p) = Ok (tt, set_back p.1 labels found flags)
dropped_in labels found flags (Err e) = if is_some e.1.scope.mark || says_out_of_memory e.0.kind then Err e else Ok (tt, set_back e.1 labels found flags)
