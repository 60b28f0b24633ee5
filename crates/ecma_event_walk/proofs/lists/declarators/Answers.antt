-- The first part, and those behind it.
use Rattle.ecma_event_exprs.proofs.Firsts.{first_part}
use Rattle.swc_ecma_parser_ast.specs.View.{view_declarator}
use Rattle.ecma_event_walk.proofs.lists.declarators.Goals as goal

pub returns-in-Some : goal.returns-in-Some
returns-in-Some c = first_part view_declarator c.two.result _ c.args.walk.now c.args.role c.in-Some.x.now c.in-Some.rest.now c.args.parts.now c.in-Some.ensures.cases.0 c.two.ensures
