-- The end of the last of the decorators that are left is that of all.
use Rattle.std.proofs.Common.{◌≡◌, drop, map}
use Rattle.ecma_estree_writer.specs.Parts.{last_end}
use Rattle.swc_ecma_parser_ast.specs.View.{view_decorator}
use Rattle.swc_ecma_parser_model.specs.Tree.{trees}
use Rattle.ecma_estree_exprs.proofs.classes.end_of_last.Given as goal

abbrev pub invariant-loop-x : goal.invariant-loop-x
invariant-loop-x l = last_end l.end (trees (map view_decorator (drop l.x-index l.decorators))) ≡ last_end l.initial.end (trees (map view_decorator l.decorators))
