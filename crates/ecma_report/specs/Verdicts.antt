-- How a parse ends, by its answer and the faults beside it.
use Rattle.std.specs.Prelude.{List, [], ◌∷◌, Result, Ok, Err}
use Rattle.swc_ecma_parser_error.specs.Kind.{Fault}
use Rattle.swc_ecma_parser_model.specs.Tree.{Tree}
use Rattle.ecma_report.specs.declared.answer.Verdict.{Verdict}
use Rattle.ecma_report.specs.declared.answer.Verdict.TheVariants as verdict

abbrev pub verdict_of : Result Tree Fault → List Fault → Verdict
verdict_of (Ok x) [] = verdict.Clean
verdict_of (Ok x) (f ∷ fs) = verdict.Faulty
verdict_of (Err f) fs = verdict.Refused
