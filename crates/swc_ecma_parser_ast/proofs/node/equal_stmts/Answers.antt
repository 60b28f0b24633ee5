use Rattle.std.proofs.Common.{◌∙◌}
use Rattle.swc_ecma_parser_ast.proofs.Derived.{derived_stmts}
use Rattle.swc_ecma_parser_ast.proofs.node.equal_stmts.Goals as goal

pub returns : goal.returns
returns g c = c.eq.ensures ∙ derived_stmts g.row.N g.N.PartialEq g.N.PartialEq-dict c.args.a.now.value.items c.args.b.now.value.items
