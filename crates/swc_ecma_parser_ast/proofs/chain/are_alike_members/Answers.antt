use Rattle.std.proofs.Common.{◌∙◌, ◌&&◌, sym}
use Rattle.swc_ecma_parser_ast.specs.Equal.{equal_member_prop}
use Rattle.swc_ecma_parser_ast.proofs.Derived.{derived_member_prop}
use Rattle.swc_ecma_parser_ast.proofs.chain.are_alike_members.Goals as goal

pub returns-then-eq : goal.returns-then-eq
returns-then-eq g c =
    let is_span = sym c.eq.ensures ∙ c.if-eq.true in
    let prop = derived_member_prop g.row.N g.N.PartialEq g.N.PartialEq-dict c.args.a.now.prop c.args.b.now.prop in
    c.eq-then-eq.ensures ∙ (prop ∙ sym (λ i. is_span i && equal_member_prop g.N.PartialEq.eq c.args.a.now.prop c.args.b.now.prop))
