use Rattle.std.proofs.Common.{arith, length, ◌≡◌, ◌∙◌, Option, IfOk, option_map, ap, refl, subst, sym}
use Rattle.std.specs.Vec.Iter.{into_iter_items, into_iter_len}
use Rattle.swc_ecma_parser_model.specs.Held.{Held}
use Rattle.swc_ecma_parser_model.specs.Targets.{as_elements, as_pattern, as_properties, as_property}
use Rattle.swc_ecma_parser_model.specs.Tree.{Tree}
use Rattle.swc_ecma_parser_ast.specs.Parts.{view_option}
use Rattle.swc_ecma_parser_ast.specs.View.{view_expr, view_expr_or_spread, view_object_pat_prop, view_pat, view_prop, view_prop_or_spread}
use Rattle.swc_ecma_parser_ast.specs.declared.call.ExprOrSpread.{ExprOrSpread}
use Rattle.swc_ecma_parser_ast.specs.declared.node.PatBox.{PatBox}
use Rattle.swc_ecma_parser_ast_parts.specs.Targets.{as_element_at, as_property_at}
use Rattle.swc_ecma_parser_ast_parts.proofs.Turned.{elements_step, left_less, other_pattern, part_falls, passed_more, properties_step, property_anywhere, turned_all, turned_fails, turned_more}
use Rattle.swc_ecma_parser_ast_parts.proofs.target.+patterns.Goals as goal

abbrev from_element : Option (ExprOrSpread Held) → Tree
from_element = view_option view_expr_or_spread

abbrev to_element : Option (PatBox Held) → Tree
to_element = view_option (λ b. b.node.tree)

pub as_pattern-returns-in-Assign : goal.as_pattern-returns-in-Assign
as_pattern-returns-in-Assign t c =
    subst (λ (o : Option Tree). IfOk c.assignment.result (λ x. o ≡ option_map view_pat x)) (sym (ap (λ e. as_pattern c.args.defaults (view_expr e)) c.in-Assign.is)) c.assignment.ensures

pub as_pattern-returns-in_default : goal.as_pattern-returns-in_default
as_pattern-returns-in_default t c =
    let d = c.in_default in
    subst (λ (o : Option Tree). IfOk c.simple.result (λ x. o ≡ option_map view_pat x))
    (sym (other_pattern c.args.defaults c.args.expr d.not-Array d.not-Object d.not-Assign)) c.simple.ensures

pub elements-element-requires : goal.elements-element-requires
elements-element-requires t c =
    let at = c.loop-elem in
    let h = part_falls from_element c.args.elems.items at.yielded (into_iter_items at.elem-iterator) c.in-Some.elem (into_iter_items c.next.new.self) at.invariant.1 c.in-Some.ensures.steps.0 in
    (omega (arith, h, c.decreases), tt)

pub elements-loop-elem-preserved : goal.elements-loop-elem-preserved
elements-loop-elem-preserved t c =
    let at = c.loop-elem in
    let rest = into_iter_items at.elem-iterator in
    let later = into_iter_items c.next.new.self in
    let step = c.in-Some.ensures.steps in (
      turned_more from_element to_element as_elements as_element_at elements_step c.args.elems.items at.found.items rest at.left c.in-Some.elem later
          at.invariant.0 at.invariant.2 step.0 c.in-Some-2.x (c.in_ok-x.ensures ∙ ap (option_map to_element) c.in-Some-2.is) c.push.new.self.items c.in_ok-push-in-Some-2.ensures.items,
      passed_more c.args.elems.items at.yielded rest c.in-Some.elem later at.invariant.1 step.0,
      left_less rest at.left c.in-Some.elem later at.invariant.2 step.0,
      let was = at.invariant.3 in
          let gone = step.1 in
          let short = ap length step.0 in
          omega arith,
    )

pub elements-returns-in-None-2 : goal.elements-returns-in-None-2
elements-returns-in-None-2 t c =
    let at = c.loop-elem in
    turned_fails from_element to_element as_elements as_element_at elements_step c.args.elems.items at.found.items (into_iter_items at.elem-iterator) at.left c.in-Some.elem (into_iter_items c.next.new.self)
    at.invariant.0 at.invariant.2 c.in-Some.ensures.steps.0 (c.in_ok-x.ensures ∙ ap (option_map to_element) c.in-None-2.is)

pub elements-returns : goal.elements-returns
elements-returns t c =
    let at = c.loop-elem in
    turned_all from_element to_element as_elements refl c.args.elems.items at.found.items (into_iter_items at.elem-iterator) (into_iter_len at.elem-iterator) at.invariant.0 at.invariant.3 c.in-None.ensures.steps.0

pub properties-property-requires : goal.properties-property-requires
properties-property-requires t c =
    let at = c.loop-prop in
    let h = part_falls view_prop_or_spread c.args.props.items at.yielded (into_iter_items at.prop-iterator) c.in-Some.prop (into_iter_items c.next.new.self) at.invariant.1 c.in-Some.ensures.steps.0 in
    (omega (arith, h, c.decreases), tt)

pub properties-loop-prop-preserved : goal.properties-loop-prop-preserved
properties-loop-prop-preserved t c =
    let at = c.loop-prop in
    let rest = into_iter_items at.prop-iterator in
    let later = into_iter_items c.next.new.self in
    let step = c.in-Some.ensures.steps in (
      turned_more view_prop_or_spread view_object_pat_prop as_properties as_property_at properties_step c.args.props.items at.found.items rest at.left c.in-Some.prop later
          at.invariant.0 at.invariant.2 step.0 c.in-Some-2.x (c.in_ok-x.ensures ∙ ap (option_map view_object_pat_prop) c.in-Some-2.is) c.push.new.self.items c.in_ok-push-in-Some-2.ensures.items,
      passed_more c.args.props.items at.yielded rest c.in-Some.prop later at.invariant.1 step.0,
      left_less rest at.left c.in-Some.prop later at.invariant.2 step.0,
      let was = at.invariant.3 in
          let gone = step.1 in
          let short = ap length step.0 in
          omega arith,
    )

pub properties-returns-in-None-2 : goal.properties-returns-in-None-2
properties-returns-in-None-2 t c =
    let at = c.loop-prop in
    turned_fails view_prop_or_spread view_object_pat_prop as_properties as_property_at properties_step c.args.props.items at.found.items (into_iter_items at.prop-iterator) at.left c.in-Some.prop (into_iter_items c.next.new.self)
    at.invariant.0 at.invariant.2 c.in-Some.ensures.steps.0 (c.in_ok-x.ensures ∙ ap (option_map view_object_pat_prop) c.in-None-2.is)

pub properties-returns : goal.properties-returns
properties-returns t c =
    let at = c.loop-prop in
    turned_all view_prop_or_spread view_object_pat_prop as_properties refl c.args.props.items at.found.items (into_iter_items at.prop-iterator) (into_iter_len at.prop-iterator) at.invariant.0 at.invariant.3 c.in-None.ensures.steps.0

pub property-returns-in-Prop : goal.property-returns-in-Prop
property-returns-in-Prop t c =
    subst (λ (o : Option Tree). IfOk c.plain_property.result (λ x. o ≡ option_map view_object_pat_prop x))
    (sym (ap (λ p. as_property_at c.args.last (view_prop_or_spread p)) c.in-Prop.is ∙ (property_anywhere c.args.last c.in-Prop.x.value ∙ ap (λ p. as_property (view_prop p)) (sym c.into_inner.ensures)))) c.plain_property.ensures
