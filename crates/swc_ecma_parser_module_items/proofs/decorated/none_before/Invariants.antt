use Rattle.std.proofs.Common.{◌≡◌, map, drop}
use Rattle.swc_ecma_parser_model.specs.Tree.{trees}
use Rattle.swc_ecma_parser_module_reader.specs.Decorated as decorated
use Rattle.swc_ecma_parser_module_items.proofs.decorated.none_before.Given as goal

-- what is said of all of them is what is said of the rest of them
abbrev pub invariant-loop-item : goal.invariant-loop-item
invariant-loop-item g l =
    decorated.none_before l.at (trees (map g.T.BuildsFunction.decorator_of l.list)) ≡ decorated.none_before l.at (trees (map g.T.BuildsFunction.decorator_of (drop l.item-index l.list)))
