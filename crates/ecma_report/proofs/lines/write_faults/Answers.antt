-- The lines of the faults are those of what contracts see of them.
use Rattle.std.proofs.Common.{arith, ◌≡◌, ◌++◌, codes, string_bytes, sym, subst}
use Rattle.swc_ecma_parser_error.specs.Kind.{fault_of}
use Rattle.ecma_report.specs.Lines.{fault_line}
use Rattle.std.proofs.lemmas.Grind.{common_steps}
use Rattle.ecma_report.proofs.Joined.{flat_map_map}
use Rattle.ecma_report.proofs.lines.write_faults.Goals as goal

pub returns : goal.returns
returns c = subst (λ l. string_bytes c.loop-fault.out ≡ string_bytes c.args.out.now ++ l) (sym (flat_map_map (fault_line (codes "fault")) fault_of c.args.faults.now)) (grind (arith, common_steps))
