-- The lines of the items so far.
use Rattle.std.proofs.Common.{◌≡◌, ◌++◌, take, string_bytes}
use Rattle.std.specs.List.{flat_map}
use Rattle.swc_ecma_parser_ast.specs.View.{view_module_item}
use Rattle.ecma_report.specs.Lines.{item_line}
use Rattle.ecma_report.proofs.modules.write_items.Given as goal

abbrev pub invariant-loop-item : goal.invariant-loop-item
invariant-loop-item l = string_bytes l.out ≡ string_bytes l.initial.out ++ flat_map (λ item. item_line (view_module_item item)) (take l.item-index l.items)
