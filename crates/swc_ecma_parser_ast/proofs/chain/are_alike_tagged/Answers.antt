use Rattle.std.proofs.Common.{◌∙◌, ◌&&◌, sym}
use Rattle.swc_ecma_parser_ast.specs.Equal.{equal_tpl}
use Rattle.swc_ecma_parser_ast.proofs.Derived.{derived_tpl}
use Rattle.swc_ecma_parser_ast.proofs.chain.are_alike_tagged.Goals as goal

pub returns-then-eq : goal.returns-then-eq
returns-then-eq g c =
    let is_span = sym c.eq.ensures ∙ c.if-eq.true in
    let a = c.args.a.now.tpl.value in
    let b = c.args.b.now.tpl.value in
    let tpl = derived_tpl g.row.N g.N.PartialEq g.N.PartialEq-dict a b in
    c.eq-then-eq.ensures ∙ (tpl ∙ sym (λ i. is_span i && equal_tpl g.N.PartialEq.eq a b))
