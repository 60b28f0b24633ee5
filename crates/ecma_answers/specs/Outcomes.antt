-- How a text comes out.
use Rattle.std.specs.Prelude.{Bool, true, false, if◌then◌else◌, List, [], ◌∷◌, Result, Ok, Err}
use Rattle.swc_ecma_parser_error.specs.declared.error.Error.{Error}
use Rattle.swc_ecma_parser_error.specs.Kind.{Kind, kind_of}
use Rattle.swc_ecma_parser_error.specs.Kind as kind
use Rattle.ecma_answers.specs.declared.outcome.Outcome.{Outcome}
use Rattle.ecma_answers.specs.declared.outcome.Outcome.TheVariants as outcome

abbrev pub is_too_deep : Kind → Bool
is_too_deep kind.TooDeep = true
is_too_deep _ = false

abbrev pub is_out_of_memory : Kind → Bool
is_out_of_memory kind.OutOfMemory = true
is_out_of_memory _ = false

abbrev pub outcome_of : {X K : Type 0} → Result X Error → List Error → List K → Outcome
outcome_of (Ok x) [] [] = outcome.Clean
outcome_of (Ok x) [] (k ∷ ks) = outcome.Faulty
outcome_of (Ok x) (f ∷ fs) ks = outcome.Faulty
outcome_of (Err e) fs ks = if is_too_deep (kind_of e.kind) then outcome.TooDeep else outcome.Refused
