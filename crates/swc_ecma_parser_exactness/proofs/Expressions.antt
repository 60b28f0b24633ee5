-- Expressions and patterns are supported.
use Rattle.std.proofs.Common.{ℕ, suc, Bool, true, false, List, [], ◌∷◌, refl, ap}
use Rattle.swc_ecma_parser_common.specs.declared.span.Span.{Span}
use Rattle.swc_ecma_parser_input.specs.Place.{Place, after}
use Rattle.swc_ecma_parser_model.specs.declared.operators.BinaryOp.TheVariants as binary
use Rattle.swc_ecma_parser_model.specs.declared.operators.AssignOp.TheVariants as assign
use Rattle.swc_ecma_parser_model.specs.Tree as tree
use Rattle.swc_ecma_parser_model.specs.Tree.{Tree, listed}
use Rattle.swc_ecma_parser_grammar.specs.Looks.{span_at, spanned}
use Rattle.swc_ecma_parser_grammar.specs.Names.{Code}
use Rattle.swc_ecma_parser_grammar.specs.Parameters.{parameters}
use Rattle.swc_ecma_parser_grammar.specs.language.PatternItems.{PatternItemRule}
use Rattle.swc_ecma_parser_grammar.specs.language.Goals.{Goal, Class, Purpose, binding, expression, assignment, operator, unary, left_side, callee, expr_goal, callee_goal, pattern_goal, element_goal}
use Rattle.swc_ecma_parser_grammar.specs.language.Contexts.{in_arrow, with_in}
use Rattle.swc_ecma_parser_grammar.specs.language.Operators.{precedence}
use Rattle.swc_ecma_parser_grammar.specs.language.Parts.{ElementRule}
use Rattle.swc_ecma_parser_grammar.specs.language.Objects as objects
use Rattle.swc_ecma_parser_grammar.specs.language.Objects.{PropertyRule}
use Rattle.swc_ecma_parser_grammar.specs.language.Templates.{TemplateRest, last_text, more_texts, TemplateRule, only_text, first_text}
use Rattle.swc_ecma_parser_grammar.specs.language.Links.{LinkRule, name_link, private_link, access_link, arguments_link}
use Rattle.swc_ecma_parser_grammar.specs.language.LeftSides as left
use Rattle.swc_ecma_parser_grammar.specs.language.LeftSides.{PrimaryRule, LeftSideRule}
use Rattle.swc_ecma_parser_grammar.specs.language.Patterns as patterns
use Rattle.swc_ecma_parser_grammar.specs.language.Patterns.{PatternPropertyRule, PatternRule, PatternElementRule}
use Rattle.swc_ecma_parser_grammar.specs.language.Expressions as expressions
use Rattle.swc_ecma_parser_grammar.specs.language.Expressions.{UnaryRule, BinaryRule, ArrowHeadRule, ArrowBodyRule, AssignmentRule, ExpressionRule, ExprRule}
use Rattle.swc_ecma_parser_grammar.specs.language.Decorators as decorators
use Rattle.swc_ecma_parser_grammar.specs.language.Decorators.{ChainRule, GroupRule, DecoratedRule}
use Rattle.swc_ecma_parser_grammar.proofs.Tests.{and_both}
use Rattle.swc_ecma_parser_grammar.specs.scaffold.Supported.{supported, is_supported_property_in}
use Rattle.swc_ecma_parser_exactness.specs.Supports.{Whole, WholeGoal}
use Rattle.swc_ecma_parser_exactness.proofs.Wholes.{as_form, both, three, WholeKey, EachWhole, each_as, list_whole, parameters_whole, listed_whole, separated_whole, elements_whole}
use Rattle.swc_ecma_parser_exactness.proofs.Parts.{name_supported, WholeParts, key_whole, access_whole, element_whole, arguments_whole, block_whole, pattern_item_whole, patterns_whole, function_parts, function_whole, class_whole}

module _ (In : Goal → Type 0) (small : (g : Goal) → In g → WholeGoal g) where
  -- ---- objects

  getter_whole : (s : Span) (key body : Tree) → WholeKey key → Whole body → Whole (tree.getter_prop s key body)
  getter_whole s key body f b = and_both _ _ f (and_both (supported body) true b refl)

  setter_whole : (s : Span) (key p body : Tree) → WholeKey key → Whole p → Whole body → Whole (tree.setter_prop s key p body)
  setter_whole s key p body f w b = and_both _ _ f (and_both _ true (both p body w b) refl)

  method_whole : (s : Span) (key : Tree) (ps : List Tree) (body : Tree) (a g : Bool) → WholeKey key → WholeParts ps body
      → Whole (tree.method_prop s key (tree.function s (listed []) (parameters ps) body a g))
  method_whole s key ps body a g f p = and_both _ _ f (and_both _ true (both (parameters ps) body (parameters_whole ps p.each) p.inside) refl)

  property_whole : (k : Code) (x : Tree) (c d : Place) → PropertyRule In k x c d → Whole x
  property_whole k x c d (objects.spread_rule e h r i) = as_form x (tree.spread_prop (span_at c) e) i (small (expr_goal assignment (with_in k) e (after c) d) r)
  property_whole k x c d (objects.shorthand_rule text s r i) = ap supported i
  property_whole k x c d (objects.key_value_rule key value m r h s i) =
      as_form x (tree.key_value_prop (spanned c d) key value) i
      (and_both _ _ (key_whole In small k key c m r) (small (expr_goal assignment (with_in k) value (after m) d) s))
  property_whole k x c d (objects.getter_rule key body r i) =
      as_form x (tree.getter_prop (spanned c d) key body) i
      (getter_whole (spanned c d) key body (key_whole In small k key r.behind_head r.behind_key r.reads_key) (function_parts In small r.reads_parts).inside)
  property_whole k x c d (objects.setter_rule key p body r i) =
      let w = function_parts In small r.reads_parts in
      as_form x (tree.setter_prop (spanned c d) key p body) i
      (setter_whole (spanned c d) key p body (key_whole In small k key r.behind_head r.behind_key r.reads_key) w.each.0 w.inside)
  property_whole k x c d (objects.method_rule is_async is_generator key ps body r i) =
      as_form x (tree.method_prop (spanned c d) key (tree.function (spanned c d) (listed []) (parameters ps) body is_async is_generator)) i
      (method_whole (spanned c d) key ps body is_async is_generator (key_whole In small k key r.behind_head r.behind_key r.reads_key) (function_parts In small r.reads_parts))

  -- ---- templates, and links of optional chains

  rest_whole : {tagged : Bool} {k : Code} {es qs : List Tree} {c d : Place} → TemplateRest In tagged k es qs c d → EachWhole es
  rest_whole {k = k} {c = c} (last_text e q m r t i j) = each_as (e ∷ []) i (small (expr_goal expression (with_in k) e c m) r, tt)
  rest_whole {k = k} {c = c} (more_texts e q es qs m n r t rest i j) = each_as (e ∷ es) i (small (expr_goal expression (with_in k) e c m) r, rest_whole rest)

  template_whole : {tagged : Bool} {k : Code} {es qs : List Tree} {c d : Place} → TemplateRule In tagged k es qs c d → EachWhole es
  template_whole (only_text q t i j) = each_as [] i tt
  template_whole (first_text q qs m t rest i) = rest_whole rest

  link_whole : {k : Code} {behind_question : Bool} {whole : Span} {object base : Tree} {c d : Place} → LinkRule In k behind_question whole object base c d → Whole object → Whole base
  link_whole {whole = whole} {object = o} {base = base} (name_link text s h r e) w = as_form base (tree.member whole o (tree.ident s text)) e (and_both _ true w refl)
  link_whole {whole = whole} {object = o} {base = base} (private_link name h r e) w = as_form base (tree.member whole o name) e (and_both _ _ w (ap (is_supported_property_in false) r.is))
  link_whole {whole = whole} {object = o} {base = base} (access_link property h r e) w = as_form base (tree.member whole o property) e (and_both _ _ w (access_whole In small r))
  link_whole {whole = whole} {object = o} {base = base} (arguments_link args r e) w = as_form base (tree.call whole o args) e (both o args w (arguments_whole In small r))

  -- ---- primary and left-hand-side expressions

  no_decorators : Whole (listed [])
  no_decorators = list_whole [] tt

  pub primary_whole : {k : Code} {x : Tree} {c d : Place} → PrimaryRule In k x c d → Whole x
  primary_whole {x = x} (left.name_rule text s r h e) = ap supported e
  primary_whole {x = x} (left.string_rule value raw s r e) = ap supported e
  primary_whole {x = x} (left.true_rule s r e) = ap supported e
  primary_whole {x = x} (left.false_rule s r e) = ap supported e
  primary_whole {x = x} (left.null_rule s r e) = ap supported e
  primary_whole {x = x} (left.number_rule raw s r e) = ap supported e
  primary_whole {x = x} (left.big_int_rule raw s r e) = ap supported e
  primary_whole {x = x} (left.regex_rule exp flags s r e) = ap supported e
  primary_whole {x = x} {c = c} {d = d} (left.template_rule es qs r e) = as_form x (tree.tpl (spanned c d) (listed es) (listed qs)) e (list_whole es (template_whole r))
  primary_whole {x = x} {c = c} {d = d} (left.this_rule h g e) = ap supported e
  primary_whole {k = k} {x = x} {c = c} {d = d} (left.array_rule xs m h r i g e) =
      as_form x (tree.array (spanned c d) (listed xs)) e (list_whole xs (elements_whole (ElementRule In k) (element_whole In small k) r))
  primary_whole {k = k} {x = x} {c = c} {d = d} (left.object_rule xs m h r i g e) =
      as_form x (tree.object (spanned c d) (listed xs)) e (list_whole xs (listed_whole (PropertyRule In k) (property_whole k) true xs (after c) m r))
  primary_whole {x = x} {c = c} {d = d} (left.function_rule name fn r e) =
      as_form x (tree.fn_expr (spanned c d) name fn) e
      (and_both _ _ (name_supported r.reads_name) (and_both _ true (function_whole In small no_decorators r) refl))
  primary_whole {x = x} {c = c} {d = d} (left.class_rule name body r e) =
      as_form x (tree.class_expr (spanned c d) name body) e (both name body (name_supported r.reads_name) (class_whole In small no_decorators r))
  primary_whole {k = k} {x = x} {c = c} {d = d} (left.paren_rule y m h r i g e) = as_form x (tree.paren (spanned c d) y) e (small (expr_goal expression (with_in k) y (after c) m) r)

  pub left_whole : {k : Code} {x : Tree} {c d : Place} → LeftSideRule In k x c d → Whole x
  left_whole (left.primary_rule r) = primary_whole r
  left_whole {x = x} {c = c} {d = d} (left.import_meta_rule h i j g o e) = ap supported e
  left_whole {x = x} {c = c} {d = d} (left.new_target_rule h i j g e) = ap supported e
  left_whole {x = x} {c = c} {d = d} (left.tagged_rule tag es qs m r n s e) =
      let tpl = tree.tpl (spanned m d) (listed es) (listed qs) in
      as_form x (tree.tagged_tpl (spanned c d) tag tpl) e (both tag tpl (left_whole r) (list_whole es (template_whole s)))
  left_whole {x = x} {c = c} {d = d} (left.chain_rule obj base m r h l e) = as_form x (tree.opt_chain (spanned c d) true base) e (link_whole l (left_whole r))
  left_whole {x = x} {c = c} {d = d} (left.linked_rule obj base m r n l e) = as_form x (tree.opt_chain (spanned c d) false base) e (link_whole l (left_whole r))
  left_whole {x = x} {c = c} {d = d} (left.member_rule obj property m r n s e) =
      as_form x (tree.member (spanned c d) obj property) e (and_both _ _ (left_whole r) (access_whole In small s))
  left_whole {x = x} {c = c} {d = d} (left.super_property_rule property h r i e) = as_form x (tree.super_prop (spanned c d) (span_at c) property) e (access_whole In small r)
  left_whole {x = x} {c = c} {d = d} (left.call_rule called args m r n s e) = as_form x (tree.call (spanned c d) called args) e (both called args (left_whole r) (arguments_whole In small s))
  left_whole {x = x} {c = c} {d = d} (left.super_call_rule args h r e) = as_form x (tree.call (spanned c d) (tree.super_callee (span_at c)) args) e (arguments_whole In small r)
  left_whole {x = x} {c = c} {d = d} (left.import_call_rule args h r e) = as_form x (tree.call (spanned c d) (tree.import_callee (span_at c)) args) e (arguments_whole In small r)
  left_whole {k = k} {x = x} {c = c} {d = d} (left.new_rule called args m h r s e) =
      as_form x (tree.new (spanned c d) called args) e (both called args (small (callee_goal k called (after c) m) r) (arguments_whole In small s))
  left_whole {k = k} {x = x} {c = c} {d = d} (left.bare_new_rule called h r e) =
      as_form x (tree.new (spanned c d) called tree.absent) e (both called tree.absent (small (expr_goal callee k called (after c) d) r) refl)

  -- ---- patterns

  pattern_property_whole : (p : Purpose) (k : Code) (x : Tree) (c d : Place) → PatternPropertyRule In p k x c d → Whole x
  pattern_property_whole p k x c d (patterns.key_value_rule key value m r h s i) =
      as_form x (tree.key_value_pat_prop (spanned c d) key value) i
      (and_both _ _ (key_whole In small k key c m r) (small (element_goal p (with_in k) value (after m) d) s))
  pattern_property_whole p k x c d (patterns.shorthand_rule text s r h i) =
      ap supported i
  pattern_property_whole p k x c d (patterns.default_rule text s value m r h o i) =
      as_form x (tree.assign_pat_prop (spanned c d) (tree.ident_pat s text) value) i (small (expr_goal assignment (with_in k) value (after m) d) o)
  pattern_property_whole p k x c d (patterns.rest_rule y h r j e) = as_form x (tree.rest_pat (spanned c d) y) e (small (pattern_goal p k y (after c) d) r)

  pub pattern_whole : {p : Purpose} {k : Code} {x : Tree} {c d : Place} → PatternRule In p k x c d → Whole x
  pattern_whole {x = x} (patterns.binding_name_rule text s h r e) = ap supported e
  pattern_whole {x = x} (patterns.target_name_rule text s h i r e) = ap supported e
  pattern_whole {x = x} (patterns.target_rule y h r i j e) = as_form x (tree.expr_pat y) e (left_whole r.0)
  pattern_whole {p = p} {k = k} {x = x} {c = c} {d = d} (patterns.array_rule xs m h r i g e) =
      as_form x (tree.array_pat (spanned c d) (listed xs)) e (list_whole xs (elements_whole (PatternItemRule In p (with_in k)) (pattern_item_whole In small p (with_in k)) r))
  pattern_whole {p = p} {k = k} {x = x} {c = c} {d = d} (patterns.object_rule xs m h r i g e) =
      as_form x (tree.object_pat (spanned c d) (listed xs)) e
      (list_whole xs (listed_whole (PatternPropertyRule In p (with_in k)) (pattern_property_whole p (with_in k)) true xs (after c) m r))

  pub pattern_element_whole : {p : Purpose} {k : Code} {x : Tree} {c d : Place} → PatternElementRule In p k x c d → Whole x
  pattern_element_whole (patterns.bare_rule r h) = pattern_whole r
  pattern_element_whole {k = k} {x = x} {c = c} {d = d} (patterns.initialized_rule left right m r h s e) =
      as_form x (tree.assign_pat (spanned c d) left right) e (both left right (pattern_whole r) (small (expr_goal assignment (with_in k) right (after m) d) s))

  -- ---- operators

  pub unary_whole : {k : Code} {x : Tree} {c d : Place} → UnaryRule In k x c d → Whole x
  unary_whole (expressions.operand_rule r) = left_whole r.0
  unary_whole {k = k} {x = x} {c = c} {d = d} (expressions.unary_rule op y h r e) = as_form x (tree.unary (spanned c d) op y) e (small (expr_goal unary k y (after c) d) r)
  unary_whole {k = k} {x = x} {c = c} {d = d} (expressions.prefix_rule op y h r i e) = as_form x (tree.update (spanned c d) op true y) e (small (expr_goal unary k y (after c) d) r)
  unary_whole {x = x} {c = c} {d = d} (expressions.postfix_rule op y m r h i j g e) = as_form x (tree.update (spanned c d) op false y) e (left_whole r.0)
  unary_whole {k = k} {x = x} {c = c} {d = d} (expressions.await_rule y h i r e) = as_form x (tree.await (spanned c d) y) e (small (expr_goal unary k y (after c) d) r)

  pub binary_whole : {k : Code} {n : ℕ} {x : Tree} {c d : Place} → BinaryRule In k n x c d → Whole x
  binary_whole (expressions.single_rule r) = unary_whole r
  binary_whole {k = k} {x = x} {c = c} {d = d} (expressions.left_rule op left right m h i j r o s a b e) =
      as_form x (tree.bin (spanned c d) op left right) e (both left right (binary_whole r) (small (expr_goal (operator (suc (precedence op))) k right (after m) d) s))
  binary_whole {k = k} {x = x} {c = c} {d = d} (expressions.power_rule left right m h r i j s e) =
      as_form x (tree.bin (spanned c d) binary.Exp left right) e (both left right (unary_whole r) (small (expr_goal (operator (precedence binary.Exp)) k right (after m) d) s))
  binary_whole {k = k} {x = x} {c = c} {d = d} (expressions.private_in_rule name right m h i r o s e) =
      as_form x (tree.bin (spanned c d) binary.In name right) e (both name right (ap supported r.is) (small (expr_goal (operator (suc (precedence binary.In))) k right (after m) d) s))

  -- ---- arrows and assignments

  head_whole : {k : Code} {ps : List Tree} {c d : Place} → ArrowHeadRule In k ps c d → EachWhole ps
  head_whole {k = k} {c = c} {d = d} (expressions.name_head p r h e) = each_as (p ∷ []) e (small (pattern_goal binding k p c d) r, tt)
  head_whole (expressions.parameters_head r) = patterns_whole In small r

  arrow_body_whole : {k : Code} {is_async : Bool} {x : Tree} {c d : Place} → ArrowBodyRule In k is_async x c d → Whole x
  arrow_body_whole (expressions.block_body r) = block_whole In small r
  arrow_body_whole {k = k} {is_async = is_async} {x = x} {c = c} {d = d} (expressions.expression_body h r) = small (expr_goal assignment (in_arrow k is_async) x c d) r

  arrow_whole : (s : Span) (ps : List Tree) (body : Tree) (is_async : Bool) → EachWhole ps → Whole body → Whole (tree.arrow s (listed ps) body is_async)
  arrow_whole s ps body is_async p b = and_both _ true (both (listed ps) body (list_whole ps p) b) refl

  pub assignment_whole : (k : Code) (x : Tree) (c d : Place) → AssignmentRule In k x c d → Whole x
  assignment_whole k x c d (expressions.operators_rule r h) = binary_whole r
  assignment_whole k x c d (expressions.conditional_rule test yes_case no_case i j r h s g t o e) =
      as_form x (tree.cond (spanned c d) test yes_case no_case) e
      (three test yes_case no_case (binary_whole r) (small (expr_goal assignment (with_in k) yes_case (after i) j) s) (small (expr_goal assignment k no_case (after j) d) t))
  assignment_whole k x c d (expressions.assign_rule op left right m r h i s e) =
      as_form x (tree.assign (spanned c d) op left right) e (both left right (left_whole r.0) (small (expr_goal assignment k right (after m) d) s))
  assignment_whole k x c d (expressions.destructuring_rule left right m r h i s e) =
      as_form x (tree.assign (spanned c d) assign.Assign left right) e (both left right (pattern_whole r) (small (expr_goal assignment k right (after m) d) s))
  assignment_whole k x c d (expressions.arrow_rule is_async ps body i j a r h g s e) =
      as_form x (tree.arrow (spanned c d) (listed ps) body is_async) e (arrow_whole (spanned c d) ps body is_async (head_whole r) (arrow_body_whole s))
  assignment_whole k x c d (expressions.bare_yield_rule h i g j e) = ap supported e
  assignment_whole k x c d (expressions.yield_rule y h i g j r e) = as_form x (tree.yield (spanned c d) y false) e (small (expr_goal assignment k y (after c) d) r)
  assignment_whole k x c d (expressions.delegate_rule y h i g j r e) = as_form x (tree.yield (spanned c d) y true) e (small (expr_goal assignment k y (after (after c)) d) r)

  pub expression_whole : (k : Code) (x : Tree) (c d : Place) → ExpressionRule In k x c d → Whole x
  expression_whole k x c d (expressions.assignment_rule r h) = assignment_whole k x c d r
  expression_whole k x c d (expressions.sequence_rule a b es r e) =
      as_form x (tree.seq (spanned c d) (listed (a ∷ b ∷ es))) e (list_whole (a ∷ b ∷ es) (separated_whole (AssignmentRule In k) (assignment_whole k) (a ∷ b ∷ es) c d r))

  pub expr_whole : (class : Class) (k : Code) (x : Tree) (c d : Place) → ExprRule In class k x c d → Whole x
  expr_whole expression k x c d r = expression_whole k x c d r
  expr_whole assignment k x c d r = assignment_whole k x c d r
  expr_whole (operator n) k x c d r = binary_whole r.0
  expr_whole unary k x c d r = unary_whole r.0
  expr_whole left_side k x c d r = left_whole r.0
  expr_whole callee k x c d r = left_whole r.0.0

  -- ---- decorators

  chain_whole : {k : Code} {x : Tree} {c d : Place} → ChainRule In k x c d → Whole x
  chain_whole {x = x} (decorators.name_rule text s r e) = ap supported e
  chain_whole {x = x} {c = c} {d = d} (decorators.member_rule obj property m r s h e) =
      as_form x (tree.member (spanned c d) obj property) e (and_both _ _ (chain_whole r) (access_whole In small s))
  chain_whole {x = x} {c = c} {d = d} (decorators.call_rule called args m r s e) =
      as_form x (tree.call (spanned c d) called args) e (both called args (chain_whole r) (arguments_whole In small s))

  group_whole : {k : Code} {x : Tree} {c d : Place} → GroupRule In k x c d → Whole x
  group_whole {k = k} {x = x} {c = c} r = expression_whole (with_in k) x (after c) r.close r.reads_expression

  pub decorated_whole : {k : Code} {x : Tree} {c d : Place} → DecoratedRule In k x c d → Whole x
  decorated_whole (decorators.group_rule r h) = group_whole r
  decorated_whole {x = x} {c = c} {d = d} (decorators.group_call_rule y args m r s e) =
      as_form x (tree.call (spanned (after c) d) y args) e (both y args (group_whole r) (arguments_whole In small s))
  decorated_whole (decorators.chain_rule r h i) = chain_whole r
