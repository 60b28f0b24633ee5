-- The lines of the items are those of what contracts see of them.
use Rattle.std.proofs.Common.{arith, ◌≡◌, ◌++◌, string_bytes, sym, subst}
use Rattle.std.proofs.lemmas.Grind.{common_steps}
use Rattle.ecma_report.proofs.Joined.{module_lines_listed}
use Rattle.ecma_report.proofs.modules.write_items.Goals as goal

pub returns : goal.returns
returns c = subst (λ l. string_bytes c.loop-item.out ≡ string_bytes c.args.out.now ++ l) (sym (module_lines_listed c.args.items.now)) (grind (arith, common_steps))
