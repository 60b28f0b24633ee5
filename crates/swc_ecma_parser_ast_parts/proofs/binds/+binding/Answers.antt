use Rattle.std.proofs.Common.{arith, sym}
use Rattle.swc_ecma_parser_ast.specs.Parts.{view_option}
use Rattle.swc_ecma_parser_ast.specs.View.{view_object_pat_prop}
use Rattle.swc_ecma_parser_ast_parts.proofs.Binding.{other_binds, part_at_falls}
use Rattle.swc_ecma_parser_ast_parts.proofs.binds.+binding.Goals as goal

pub part_binds-returns-in-None : goal.part_binds-returns-in-None
part_binds-returns-in-None t c = sym (other_binds c.args.part.now.node.tree c.in-None.ensures.other)

pub elements_bind-element_binds-requires : goal.elements_bind-element_binds-requires
elements_bind-element_binds-requires t c =
    let at = c.loop-elem in
    let h = part_at_falls (view_option (λ b. b.node.tree)) c.args.elems.now at.elem-index c.elem-item.result c.loop-elem-test.true c.elem-item.is in
    (omega (arith, h, c.decreases), tt)

pub properties_bind-property_binds-requires : goal.properties_bind-property_binds-requires
properties_bind-property_binds-requires t c =
    let at = c.loop-prop in
    let h = part_at_falls view_object_pat_prop c.args.props.now at.prop-index c.prop-item.result c.loop-prop-test.true c.prop-item.is in
    (omega (arith, h, c.decreases), tt)
