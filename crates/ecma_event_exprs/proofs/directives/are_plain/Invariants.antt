-- What is asked of all parameters is asked of those that are left.
use Rattle.std.proofs.Common.{◌≡◌, drop, map}
use Rattle.swc_ecma_parser_ast.specs.View.{view_param}
use Rattle.swc_ecma_parser_model.specs.Forms.{are_plain_params}
use Rattle.swc_ecma_parser_model.specs.Tree.{trees}
use Rattle.ecma_event_exprs.proofs.directives.are_plain.Given as goal

abbrev pub invariant-loop-param : goal.invariant-loop-param
invariant-loop-param l = are_plain_params (trees (map view_param (drop l.param-index l.params))) ≡ are_plain_params (trees (map view_param l.params))
