-- The lines of an item by itself are its own line.
use Rattle.std.proofs.Common.{◌≡◌, ◌++◌, string_bytes, sym, subst}
use Rattle.std.specs.Prelude.{OnOk}
use Rattle.ecma_report.proofs.ItemLines.{own_line}
use Rattle.ecma_report.proofs.items.ModuleItemWhole.write.Goals as goal

pub returns : goal.returns
returns c = subst (λ l. OnOk c.write_item.result (string_bytes c.write_item.new.out ≡ string_bytes c.args.out.now ++ l)) (sym (own_line c.args.self.now)) c.write_item.ensures
