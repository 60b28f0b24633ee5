-- The faults so far.
use Rattle.std.proofs.Common.{◌≡◌, take}
use Rattle.swc_ecma_parser_error.specs.Kind.{faults_of}
use Rattle.ecma_answers.specs.Chosen.{has_module_fault}
use Rattle.ecma_answers.proofs.choice.has_module_fault.Given as goal

abbrev pub invariant-loop-fault : goal.invariant-loop-fault
invariant-loop-fault l = l.found ≡ has_module_fault (faults_of (take l.fault-index l.faults))
