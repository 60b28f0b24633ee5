-- The lines of the faults so far.
use Rattle.std.proofs.Common.{◌≡◌, ◌++◌, take, string_bytes, codes}
use Rattle.std.specs.List.{flat_map}
use Rattle.swc_ecma_parser_error.specs.Kind.{fault_of}
use Rattle.ecma_report.specs.Lines.{fault_line}
use Rattle.ecma_report.proofs.lines.write_faults.Given as goal

abbrev pub invariant-loop-fault : goal.invariant-loop-fault
invariant-loop-fault l = string_bytes l.out ≡ string_bytes l.initial.out ++ flat_map (λ e. fault_line (codes "fault") (fault_of e)) (take l.fault-index l.faults)
