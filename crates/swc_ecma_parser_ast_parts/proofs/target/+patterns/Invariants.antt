-- A part is smaller than the whole; of a list, the parts so far were turned and the others are to come.
use Rattle.std.proofs.Common.{◌≡◌, ◌+◌, ◌*◌, ◌++◌, length, map}
use Rattle.std.specs.Vec.Iter.{into_iter_items, into_iter_len}
use Rattle.swc_ecma_parser_ast.specs.Parts.{view_option}
use Rattle.swc_ecma_parser_ast.specs.View.{view_expr, view_expr_or_spread, view_object_pat_prop, view_prop, view_prop_or_spread}
use Rattle.swc_ecma_parser_model.specs.Size.{tree_size, trees_size}
use Rattle.swc_ecma_parser_model.specs.Targets.{as_elements, as_properties}
use Rattle.swc_ecma_parser_model.specs.Tree.{trees}
use Rattle.swc_ecma_parser_ast_parts.proofs.Turned.{Turning}
use Rattle.swc_ecma_parser_ast_parts.proofs.target.+patterns.Given as goal

abbrev pub decreases-as_pattern : goal.decreases-as_pattern
decreases-as_pattern l = 3 * tree_size (view_expr l.expr)

abbrev pub decreases-part : goal.decreases-part
decreases-part l = 3 * tree_size l.expr.node.tree + 1

abbrev pub decreases-rest : goal.decreases-rest
decreases-rest l = 3 * tree_size l.expr.node.tree + 1

abbrev pub decreases-element : goal.decreases-element
decreases-element l = 3 * tree_size (view_option view_expr_or_spread l.elem)

abbrev pub decreases-elements : goal.decreases-elements
decreases-elements l = 3 * trees_size (trees (map (view_option view_expr_or_spread) l.elems.items))

abbrev pub decreases-plain_property : goal.decreases-plain_property
decreases-plain_property l = 3 * tree_size (view_prop l.prop)

abbrev pub decreases-property : goal.decreases-property
decreases-property l = 3 * tree_size (view_prop_or_spread l.prop) + 1

abbrev pub decreases-properties : goal.decreases-properties
decreases-properties l = 3 * trees_size (trees (map view_prop_or_spread l.props.items))

abbrev pub invariant-elements-loop-elem : goal.invariant-elements-loop-elem
invariant-elements-loop-elem l =
    let rest = into_iter_items l.elem-iterator in
    Turning (view_option view_expr_or_spread) (view_option (λ b. b.node.tree)) as_elements l.fn.elems.items l.found.items rest
    × (l.yielded ++ rest ≡ l.fn.elems.items) × (l.left ≡ length rest) × (into_iter_len l.elem-iterator ≡ length rest)

abbrev pub invariant-properties-loop-prop : goal.invariant-properties-loop-prop
invariant-properties-loop-prop l =
    let rest = into_iter_items l.prop-iterator in
    Turning view_prop_or_spread view_object_pat_prop as_properties l.fn.props.items l.found.items rest
    × (l.yielded ++ rest ≡ l.fn.props.items) × (l.left ≡ length rest) × (into_iter_len l.prop-iterator ≡ length rest)
