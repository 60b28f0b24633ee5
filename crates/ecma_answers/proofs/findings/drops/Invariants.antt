-- The faults so far.
use Rattle.std.proofs.Common.{◌≡◌, take}
use Rattle.swc_ecma_parser_error.specs.Kind.{faults_of}
use Rattle.swc_ecma_parser_grammar.specs.Walk as walk
use Rattle.ecma_answers.proofs.findings.drops.Given as goal

abbrev pub invariant-loop-fault : goal.invariant-loop-fault
invariant-loop-fault l = l.found ≡ walk.drops (faults_of (take l.fault-index l.faults))
