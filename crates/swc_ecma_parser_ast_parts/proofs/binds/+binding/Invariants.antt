-- A part is smaller than the whole; of a list, the parts so far bind, and the others are to come.
use Rattle.std.proofs.Common.{◌≡◌, ◌+◌, ◌*◌, drop, map}
use Rattle.swc_ecma_parser_ast.specs.Parts.{view_option}
use Rattle.swc_ecma_parser_ast.specs.View.{view_object_pat_prop, view_pat}
use Rattle.swc_ecma_parser_model.specs.Size.{tree_size, trees_size}
use Rattle.swc_ecma_parser_model.specs.Targets.{all_bind}
use Rattle.swc_ecma_parser_model.specs.Tree.{trees}
use Rattle.swc_ecma_parser_ast_parts.proofs.binds.+binding.Given as goal

abbrev pub decreases-binds : goal.decreases-binds
decreases-binds l = 3 * tree_size (view_pat l.pat.now)

abbrev pub decreases-part_binds : goal.decreases-part_binds
decreases-part_binds l = 3 * tree_size l.part.now.node.tree + 1

abbrev pub decreases-elements_bind : goal.decreases-elements_bind
decreases-elements_bind l = 3 * trees_size (trees (map (view_option (λ b. b.node.tree)) l.elems.now))

abbrev pub decreases-element_binds : goal.decreases-element_binds
decreases-element_binds l = 3 * tree_size (view_option (λ b. b.node.tree) l.elem.now) + 2

abbrev pub decreases-properties_bind : goal.decreases-properties_bind
decreases-properties_bind l = 3 * trees_size (trees (map view_object_pat_prop l.props.now))

abbrev pub decreases-property_binds : goal.decreases-property_binds
decreases-property_binds l = 3 * tree_size (view_object_pat_prop l.prop.now)

abbrev pub invariant-elements_bind-loop-elem : goal.invariant-elements_bind-loop-elem
invariant-elements_bind-loop-elem l =
    all_bind (trees (map (view_option (λ b. b.node.tree)) l.elems)) ≡ all_bind (trees (map (view_option (λ b. b.node.tree)) (drop l.elem-index l.elems)))

abbrev pub invariant-properties_bind-loop-prop : goal.invariant-properties_bind-loop-prop
invariant-properties_bind-loop-prop l =
    all_bind (trees (map view_object_pat_prop l.props)) ≡ all_bind (trees (map view_object_pat_prop (drop l.prop-index l.props)))
