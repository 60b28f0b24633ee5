-- Expressions and patterns: what they ask of their parts, and that they are one deeper than these.
use Rattle.std.proofs.Common.{◌≡◌, ℕ, suc, max, Bool, true, List, [], ◌∷◌, refl, ap, arith, ◌∙◌}
use Rattle.swc_ecma_parser_input.specs.Place.{Place, after}
use Rattle.swc_ecma_parser_model.specs.declared.operators.BinaryOp.TheVariants as binary
use Rattle.swc_ecma_parser_model.specs.Tree.{Tree, trees}
use Rattle.swc_ecma_parser_grammar.specs.Names.{Code}
use Rattle.swc_ecma_parser_grammar.specs.Depth.{depth, depths}
use Rattle.swc_ecma_parser_grammar.specs.language.PatternItems.{PatternItemRule}
use Rattle.swc_ecma_parser_grammar.specs.language.Lists.{ReadsSeparated}
use Rattle.swc_ecma_parser_grammar.specs.language.Goals.{Goal, Class, Purpose, binding, expression, assignment, operator, unary, left_side, callee, expr_goal, callee_goal, pattern_goal, element_goal}
use Rattle.swc_ecma_parser_grammar.specs.language.Contexts.{in_arrow, with_in}
use Rattle.swc_ecma_parser_grammar.specs.language.Operators.{precedence}
use Rattle.swc_ecma_parser_grammar.specs.language.Parts.{ElementRule}
use Rattle.swc_ecma_parser_grammar.specs.Parameters.{parameters}
use Rattle.swc_ecma_parser_grammar.specs.language.Objects as objects
use Rattle.swc_ecma_parser_grammar.specs.language.Objects.{PropertyRule}
use Rattle.swc_ecma_parser_grammar.specs.language.LeftSides as left
use Rattle.swc_ecma_parser_grammar.specs.language.LeftSides.{PrimaryRule, LeftSideRule}
use Rattle.swc_ecma_parser_grammar.specs.language.Patterns as patterns
use Rattle.swc_ecma_parser_grammar.specs.language.Patterns.{PatternPropertyRule, PatternRule, PatternElementRule}
use Rattle.swc_ecma_parser_grammar.specs.language.Expressions as expressions
use Rattle.swc_ecma_parser_grammar.specs.language.Expressions.{UnaryRule, BinaryRule, ArrowHeadRule, ArrowBodyRule, AssignmentRule, ExpressionRule, ExprRule}
use Rattle.swc_ecma_parser_grammar.specs.language.Decorators as decorators
use Rattle.swc_ecma_parser_grammar.specs.language.Decorators.{ChainRule, GroupRule, DecoratedRule}
use Rattle.swc_ecma_parser_grammar.proofs.language.Asked.{Inside, Level, Fitting, whole_body, nothing, part, joined, both, turned, sized, leaf, over, beside, aligned, same, raised}
use Rattle.swc_ecma_parser_grammar.proofs.language.Parts.{key_depth, body_depth, listed_inside, elements_inside, key_inside, access_inside, element_inside, arguments_inside, block_inside, pattern_item_inside, patterns_inside, function_level, method_inside, class_level, template_inside, link_inside}

-- a list of at least one form, at the level of these, is as deep as they are
separated_level : {In Out : Goal → Type 0} (Reads Other : Tree → Place → Place → Type 0) (inner : (x : Tree) (c d : Place) → Reads x c d → Level In Out (Other x c d) (depth x))
    (xs : List Tree) (c d : Place) → ReadsSeparated Reads xs c d → Level In Out (ReadsSeparated Other xs c d) (depths (trees xs))
separated_level Reads Other inner [] c d r = absurd r
separated_level Reads Other inner (x ∷ []) c d (r, e) = same (inner x c d r) (λ h. (h, e)) (omega arith)
separated_level Reads Other inner (x ∷ y ∷ ys) c d (m, r, e, rs) = aligned (inner x c m r) (separated_level Reads Other inner (y ∷ ys) (after m) d rs) (λ h hs. (m, h, e, hs)) refl

module _ (In Out : Goal → Type 0) (fitting : (g : Goal) → In g → Fitting g) where
  -- ---- objects

  property_inside : (k : Code) (x : Tree) (c d : Place) → PropertyRule In k x c d → Inside In Out (PropertyRule Out k x c d) (depth x)
  property_inside k x c d (objects.spread_rule e h r i) = sized (part (expr_goal assignment (with_in k) e (after c) d) r (λ o. objects.spread_rule e h o i)) (ap depth i)
  property_inside k x c d (objects.shorthand_rule text s r i) = sized (nothing (objects.shorthand_rule text s r i)) (ap depth i)
  property_inside k x c d (objects.key_value_rule key value m r h s i) =
      sized (joined (key_inside In Out fitting r) (part (expr_goal assignment (with_in k) value (after m) d) s (λ o. o)) (λ o w. objects.key_value_rule key value m o h w i)) (ap depth i)
  property_inside k x c d (objects.getter_rule key body r i) =
      let e : depth x ≡ max (key_depth key) (body_depth body) = ap depth i in
      sized (turned (method_inside In Out fitting (λ y a b. key_inside In Out fitting) r) (λ o. objects.getter_rule key body o i)) (omega arith)
  property_inside k x c d (objects.setter_rule key p body r i) =
      let e : depth x ≡ max (key_depth key) (max (depth p) (body_depth body)) = ap depth i in
      sized (turned (method_inside In Out fitting (λ y a b. key_inside In Out fitting) r) (λ o. objects.setter_rule key p body o i)) (omega arith)
  property_inside k x c d (objects.method_rule is_async is_generator key ps body r i) =
      let e : depth x ≡ max (key_depth key) (max 0 (max (depth (parameters ps)) (body_depth body))) = ap depth i in
      sized (turned (method_inside In Out fitting (λ y a b. key_inside In Out fitting) r) (λ o. objects.method_rule is_async is_generator key ps body o i)) (omega arith)

  -- ---- primary and left-hand-side expressions

  pub primary_level : {k : Code} {x : Tree} {c d : Place} → PrimaryRule In k x c d → Level In Out (PrimaryRule Out k x c d) (depth x)
  primary_level (left.name_rule text s r h e) = leaf (left.name_rule text s r h e) (ap depth e)
  primary_level (left.string_rule value raw s r e) = leaf (left.string_rule value raw s r e) (ap depth e)
  primary_level (left.true_rule s r e) = leaf (left.true_rule s r e) (ap depth e)
  primary_level (left.false_rule s r e) = leaf (left.false_rule s r e) (ap depth e)
  primary_level (left.null_rule s r e) = leaf (left.null_rule s r e) (ap depth e)
  primary_level (left.number_rule raw s r e) = leaf (left.number_rule raw s r e) (ap depth e)
  primary_level (left.big_int_rule raw s r e) = leaf (left.big_int_rule raw s r e) (ap depth e)
  primary_level (left.regex_rule exp flags s r e) = leaf (left.regex_rule exp flags s r e) (ap depth e)
  primary_level (left.template_rule es qs r e) = over (template_inside In Out fitting r) (λ o. left.template_rule es qs o e) (ap depth e)
  primary_level (left.this_rule h g e) = leaf (left.this_rule h g e) (ap depth e)
  primary_level {k = k} {c = c} (left.array_rule xs m h r i g e) =
      over (elements_inside (ElementRule In k) (ElementRule Out k) (element_inside In Out fitting k) r) (λ o. left.array_rule xs m h o i g e) (ap depth e)
  primary_level {k = k} {c = c} (left.object_rule xs m h r i g e) =
      over (listed_inside (PropertyRule In k) (PropertyRule Out k) (property_inside k) true xs (after c) m r) (λ o. left.object_rule xs m h o i g e) (ap depth e)
  primary_level (left.function_rule name fn r e) = same (function_level In Out fitting (nothing {W = Unit {0}} tt) r) (λ o. left.function_rule name fn o.1 e) (ap depth e)
  primary_level (left.class_rule name body r e) = same (class_level In Out fitting (nothing {W = Unit {0}} tt) r) (λ o. left.class_rule name body o.1 e) (ap depth e)
  primary_level {k = k} {c = c} (left.paren_rule y m h r i g e) = over (part (expr_goal expression (with_in k) y (after c) m) r (λ o. o)) (λ o. left.paren_rule y m h o i g e) (ap depth e)

  pub left_level : {k : Code} {x : Tree} {c d : Place} → LeftSideRule In k x c d → Level In Out (LeftSideRule Out k x c d) (depth x)
  left_level (left.primary_rule r) = same (primary_level r) left.primary_rule refl
  left_level (left.import_meta_rule h i j g o e) = leaf (left.import_meta_rule h i j g o e) (ap depth e)
  left_level (left.new_target_rule h i j g e) = leaf (left.new_target_rule h i j g e) (ap depth e)
  left_level (left.member_rule obj property m r n s e) = beside (left_level r) (access_inside In Out fitting s) (λ o w. left.member_rule obj property m o n w e) (ap depth e)
  left_level (left.super_property_rule property h r i e) = over (access_inside In Out fitting r) (λ o. left.super_property_rule property h o i e) (ap depth e)
  left_level (left.call_rule called args m r n s e) = beside (left_level r) (arguments_inside In Out fitting s) (λ o w. left.call_rule called args m o n w e) (ap depth e)
  left_level (left.tagged_rule t es qs m r n q e) = beside (left_level r) (template_inside In Out fitting q) (λ v w. left.tagged_rule t es qs m v n w e) (ap depth e)
  left_level (left.chain_rule o b m r h q e) = let a = link_inside In Out fitting q in beside (left_level r) a.inside (λ v w. left.chain_rule o b m v h w e) (ap depth e ∙ a.base_depth)
  left_level (left.linked_rule o b m r n q e) = let a = link_inside In Out fitting q in beside (left_level r) a.inside (λ v w. left.linked_rule o b m v n w e) (ap depth e ∙ a.base_depth)
  left_level {x = x} (left.super_call_rule args h r e) =
      let g : depth x ≡ max 0 (suc (depth args)) = ap depth e in over (arguments_inside In Out fitting r) (λ o. left.super_call_rule args h o e) (omega arith)
  left_level {x = x} (left.import_call_rule args h r e) =
      let g : depth x ≡ max 0 (suc (depth args)) = ap depth e in over (arguments_inside In Out fitting r) (λ o. left.import_call_rule args h o e) (omega arith)
  left_level {k = k} {c = c} (left.new_rule called args m h r s e) =
      over (both (part (callee_goal k called (after c) m) r (λ o. o)) (arguments_inside In Out fitting s)) (λ o. left.new_rule called args m h o.0 o.1 e) (ap depth e)
  left_level {k = k} {x = x} {c = c} {d = d} (left.bare_new_rule called h r e) =
      let g : depth x ≡ suc (max (depth called) 0) = ap depth e in
      over (part (expr_goal callee k called (after c) d) r (λ o. o)) (λ o. left.bare_new_rule called h o e) (omega arith)

  -- ---- patterns

  pattern_property_inside : (p : Purpose) (k : Code) (x : Tree) (c d : Place) → PatternPropertyRule In p k x c d → Inside In Out (PatternPropertyRule Out p k x c d) (depth x)
  pattern_property_inside p k x c d (patterns.key_value_rule key value m r h s i) =
      sized (joined (key_inside In Out fitting r) (part (element_goal p (with_in k) value (after m) d) s (λ o. o)) (λ o w. patterns.key_value_rule key value m o h w i)) (ap depth i)
  pattern_property_inside p k x c d (patterns.shorthand_rule text s r h i) = sized (nothing (patterns.shorthand_rule text s r h i)) (ap depth i)
  pattern_property_inside p k x c d (patterns.default_rule text s value m r h o i) =
      sized (part (expr_goal assignment (with_in k) value (after m) d) o (λ w. patterns.default_rule text s value m r h w i)) (ap depth i)
  pattern_property_inside p k x c d (patterns.rest_rule y h r j e) =
      let g : depth x ≡ max 1 (depth y) = ap depth e in
      let f = (fitting (pattern_goal p k y (after c) d) r).1 in
      sized (part (pattern_goal p k y (after c) d) r (λ o. patterns.rest_rule y h o j e)) (omega arith)

  pub pattern_level : {p : Purpose} {k : Code} {x : Tree} {c d : Place} → PatternRule In p k x c d → Level In Out (PatternRule Out p k x c d) (depth x)
  pattern_level (patterns.binding_name_rule text s h r e) = leaf (patterns.binding_name_rule text s h r e) (ap depth e)
  pattern_level (patterns.target_name_rule text s h i r e) = leaf (patterns.target_name_rule text s h i r e) (ap depth e)
  pattern_level (patterns.target_rule y h r i j e) = same (left_level r.0) (λ o. patterns.target_rule y h (o, r.1) i j e) (ap depth e)
  pattern_level {p = p} {k = k} (patterns.array_rule xs m h r i g e) =
      over (elements_inside (PatternItemRule In p (with_in k)) (PatternItemRule Out p (with_in k)) (pattern_item_inside In Out fitting p (with_in k)) r)
      (λ o. patterns.array_rule xs m h o i g e) (ap depth e)
  pattern_level {p = p} {k = k} {c = c} (patterns.object_rule xs m h r i g e) =
      over (listed_inside (PatternPropertyRule In p (with_in k)) (PatternPropertyRule Out p (with_in k)) (pattern_property_inside p (with_in k)) true xs (after c) m r)
      (λ o. patterns.object_rule xs m h o i g e) (ap depth e)

  pub pattern_element_level : {p : Purpose} {k : Code} {x : Tree} {c d : Place} → PatternElementRule In p k x c d → Level In Out (PatternElementRule Out p k x c d) (depth x)
  pattern_element_level (patterns.bare_rule r h) = same (pattern_level r) (λ o. patterns.bare_rule o h) refl
  pattern_element_level {k = k} {d = d} (patterns.initialized_rule left right m r h s e) =
      beside (pattern_level r) (part (expr_goal assignment (with_in k) right (after m) d) s (λ o. o)) (λ o w. patterns.initialized_rule left right m o h w e) (ap depth e)

  -- ---- operators

  pub unary_level : {k : Code} {x : Tree} {c d : Place} → UnaryRule In k x c d → Level In Out (UnaryRule Out k x c d) (depth x)
  unary_level (expressions.operand_rule r) = same (left_level r.0) (λ o. expressions.operand_rule (o, r.1)) refl
  unary_level {k = k} {c = c} {d = d} (expressions.unary_rule op y h r e) = over (part (expr_goal unary k y (after c) d) r (λ o. o)) (λ o. expressions.unary_rule op y h o e) (ap depth e)
  unary_level {k = k} {x = x} {c = c} {d = d} (expressions.prefix_rule op y h r i e) =
      let g : depth x ≡ max 1 (suc (depth y)) = ap depth e in over (part (expr_goal unary k y (after c) d) r (λ o. o)) (λ o. expressions.prefix_rule op y h o i e) (omega arith)
  unary_level {k = k} {x = x} (expressions.postfix_rule op y m r h i j g e) =
      raised (left_level r.0) (λ o. expressions.postfix_rule op y m (o, r.1) h i j g e) (ap depth e)
  unary_level {k = k} {c = c} {d = d} (expressions.await_rule y h i r e) = over (part (expr_goal unary k y (after c) d) r (λ o. o)) (λ o. expressions.await_rule y h i o e) (ap depth e)

  pub binary_level : {k : Code} {n : ℕ} {x : Tree} {c d : Place} → BinaryRule In k n x c d → Level In Out (BinaryRule Out k n x c d) (depth x)
  binary_level (expressions.single_rule r) = same (unary_level r) expressions.single_rule refl
  binary_level {k = k} {d = d} (expressions.left_rule op left right m h i j r o s a b e) =
      beside (binary_level r) (part (expr_goal (operator (suc (precedence op))) k right (after m) d) s (λ w. w)) (λ v w. expressions.left_rule op left right m h i j v o w a b e) (ap depth e)
  binary_level {k = k} {d = d} (expressions.power_rule left right m h r i j s e) =
      beside (unary_level r) (part (expr_goal (operator (precedence binary.Exp)) k right (after m) d) s (λ w. w)) (λ v w. expressions.power_rule left right m h v i j w e) (ap depth e)
  binary_level {k = k} {x = x} {d = d} (expressions.private_in_rule name right m l b r h s e) =
      let g : depth x ≡ max (depth name) (suc (depth right)) = ap depth e in
      let i : depth name ≡ 0 = ap depth r.is in
      over (part (expr_goal (operator (suc (precedence binary.In))) k right (after m) d) s (λ o. o)) (λ o. expressions.private_in_rule name right m l b r h o e) (omega arith)

  -- ---- arrows and assignments

  head_inside : {k : Code} {ps : List Tree} {c d : Place} → ArrowHeadRule In k ps c d → Inside In Out (ArrowHeadRule Out k ps c d) (depths (trees ps))
  head_inside {k = k} {ps = ps} {c = c} {d = d} (expressions.name_head p r h e) =
      let g : depths (trees ps) ≡ max (depth p) 0 = ap (λ l. depths (trees l)) e in
      sized (part (pattern_goal binding k p c d) r (λ o. expressions.name_head p o h e)) (omega arith)
  head_inside (expressions.parameters_head r) = turned (patterns_inside In Out fitting r) expressions.parameters_head

  arrow_body_inside : {k : Code} {is_async : Bool} {x : Tree} {c d : Place} → ArrowBodyRule In k is_async x c d → Inside In Out (ArrowBodyRule Out k is_async x c d) (body_depth x)
  arrow_body_inside (expressions.block_body r) = turned (block_inside In Out fitting r) expressions.block_body
  arrow_body_inside {k = k} {is_async = is_async} {x = x} {c = c} {d = d} (expressions.expression_body h r) =
      sized (part (expr_goal assignment (in_arrow k is_async) x c d) r (λ o. expressions.expression_body h o)) (whole_body x (fitting (expr_goal assignment (in_arrow k is_async) x c d) r))

  pub assignment_level : (k : Code) (x : Tree) (c d : Place) → AssignmentRule In k x c d → Level In Out (AssignmentRule Out k x c d) (depth x)
  assignment_level k x c d (expressions.operators_rule r h) = same (binary_level r) (λ o. expressions.operators_rule o h) refl
  assignment_level k x c d (expressions.conditional_rule test yes_case no_case i j r h s g t o e) =
      beside (binary_level r) (both (part (expr_goal assignment (with_in k) yes_case (after i) j) s (λ w. w)) (part (expr_goal assignment k no_case (after j) d) t (λ w. w)))
      (λ v w. expressions.conditional_rule test yes_case no_case i j v h w.0 g w.1 o e) (ap depth e)
  assignment_level k x c d (expressions.assign_rule op left right m r h i s e) =
      beside (left_level r.0) (part (expr_goal assignment k right (after m) d) s (λ w. w)) (λ v w. expressions.assign_rule op left right m (v, r.1) h i w e) (ap depth e)
  assignment_level k x c d (expressions.destructuring_rule left right m r h i s e) =
      beside (pattern_level r) (part (expr_goal assignment k right (after m) d) s (λ w. w)) (λ v w. expressions.destructuring_rule left right m v h i w e) (ap depth e)
  assignment_level k x c d (expressions.arrow_rule is_async ps body i j a r h g s e) =
      over (both (head_inside r) (arrow_body_inside s)) (λ w. expressions.arrow_rule is_async ps body i j a w.0 h g w.1 e) (ap depth e)
  assignment_level k x c d (expressions.bare_yield_rule h i g j e) = leaf (expressions.bare_yield_rule h i g j e) (ap depth e)
  assignment_level k x c d (expressions.yield_rule y h i g j r e) =
      over (part (expr_goal assignment k y (after c) d) r (λ w. w)) (λ w. expressions.yield_rule y h i g j w e) (ap depth e)
  assignment_level k x c d (expressions.delegate_rule y h i g j r e) =
      over (part (expr_goal assignment k y (after (after c)) d) r (λ w. w)) (λ w. expressions.delegate_rule y h i g j w e) (ap depth e)

  pub expression_level : (k : Code) (x : Tree) (c d : Place) → ExpressionRule In k x c d → Level In Out (ExpressionRule Out k x c d) (depth x)
  expression_level k x c d (expressions.assignment_rule r h) = same (assignment_level k x c d r) (λ o. expressions.assignment_rule o h) refl
  expression_level k x c d (expressions.sequence_rule a b es r e) =
      raised (separated_level (AssignmentRule In k) (AssignmentRule Out k) (assignment_level k) (a ∷ b ∷ es) c d r) (λ o. expressions.sequence_rule a b es o e) (ap depth e)

  pub expr_level : (class : Class) (k : Code) (x : Tree) (c d : Place) → ExprRule In class k x c d → Level In Out (ExprRule Out class k x c d) (depth x)
  expr_level expression k x c d r = expression_level k x c d r
  expr_level assignment k x c d r = assignment_level k x c d r
  expr_level (operator n) k x c d r = same (binary_level r.0) (λ o. (o, r.1)) refl
  expr_level unary k x c d r = same (unary_level r.0) (λ o. (o, r.1)) refl
  expr_level left_side k x c d r = same (left_level r.0) (λ o. (o, r.1)) refl
  expr_level callee k x c d r = same (left_level r.0.0) (λ o. ((o, r.0.1), r.1)) refl

  -- ---- decorators

  chain_level : {k : Code} {x : Tree} {c d : Place} → ChainRule In k x c d → Level In Out (ChainRule Out k x c d) (depth x)
  chain_level (decorators.name_rule text s r e) = leaf (decorators.name_rule text s r e) (ap depth e)
  chain_level (decorators.member_rule obj property m r s h e) = beside (chain_level r) (access_inside In Out fitting s) (λ o w. decorators.member_rule obj property m o w h e) (ap depth e)
  chain_level (decorators.call_rule called args m r s e) = beside (chain_level r) (arguments_inside In Out fitting s) (λ o w. decorators.call_rule called args m o w e) (ap depth e)

  group_level : {k : Code} {x : Tree} {c d : Place} → GroupRule In k x c d → Level In Out (GroupRule Out k x c d) (depth x)
  group_level {k = k} {x = x} {c = c} r =
      same (expression_level (with_in k) x (after c) r.close r.reads_expression) (λ o. record { close = r.close; opens = r.opens; reads_expression = o; closes = r.closes; next = r.next }) refl

  pub decorated_level : {k : Code} {x : Tree} {c d : Place} → DecoratedRule In k x c d → Level In Out (DecoratedRule Out k x c d) (depth x)
  decorated_level (decorators.group_rule r h) = same (group_level r) (λ o. decorators.group_rule o h) refl
  decorated_level (decorators.group_call_rule y args m r s e) =
      beside (group_level r) (arguments_inside In Out fitting s) (λ o w. decorators.group_call_rule y args m o w e) (ap depth e)
  decorated_level (decorators.chain_rule r h i) = same (chain_level r) (λ o. decorators.chain_rule o h i) refl
