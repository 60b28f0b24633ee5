-- What is asked of all statements is asked of those that are left.
use Rattle.std.proofs.Common.{◌≡◌, drop, map}
use Rattle.ecma_event_exprs.specs.Events.{directed}
use Rattle.swc_ecma_parser_ast.specs.View.{view_stmt}
use Rattle.swc_ecma_parser_model.specs.Tree.{trees}
use Rattle.ecma_event_exprs.proofs.directives.are_directed.Given as goal

abbrev pub invariant-loop-stmt : goal.invariant-loop-stmt
invariant-loop-stmt l = directed (trees (map view_stmt (drop l.stmt-index l.stmts))) ≡ directed (trees (map view_stmt l.stmts))
