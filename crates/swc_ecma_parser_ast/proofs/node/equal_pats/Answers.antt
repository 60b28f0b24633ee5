use Rattle.std.proofs.Common.{◌∙◌}
use Rattle.swc_ecma_parser_ast.proofs.Derived.{derived_pat}
use Rattle.swc_ecma_parser_ast.proofs.node.equal_pats.Goals as goal

pub returns : goal.returns
returns g c = c.eq.ensures ∙ derived_pat g.row.N g.N.PartialEq g.N.PartialEq-dict c.args.a.now.value c.args.b.now.value
