use Rattle.std.proofs.Common.{◌≡◌, map, drop}
use Rattle.swc_ecma_parser_model.specs.Tree.{trees}
use Rattle.swc_ecma_parser_grammar.specs.language.Exports.{all_before}
use Rattle.swc_ecma_parser_module_items.proofs.decorated.begin_before.Given as goal

-- what is said of all of them is what is said of the rest of them
abbrev pub invariant-loop-item : goal.invariant-loop-item
invariant-loop-item g l =
    all_before l.word (trees (map g.T.BuildsFunction.decorator_of l.list)) ≡ all_before l.word (trees (map g.T.BuildsFunction.decorator_of (drop l.item-index l.list)))
