-- Of a list without tokens of the new forms no expression, pattern, function or class has one.
use Rattle.std.proofs.Common.{◌≡◌, ℕ, Bool, true, false, List, [], ◌∷◌, if◌then◌else◌, ap, refl, ◌∙◌}
use Rattle.std.specs.Prelude.{◌||◌}
use Rattle.swc_ecma_parser_common.specs.declared.span.Span.{Span}
use Rattle.swc_ecma_parser_input.specs.Place.{Place, after}
use Rattle.swc_ecma_parser_model.specs.declared.leaves.MethodKind.{MethodKind}
use Rattle.swc_ecma_parser_model.specs.Tree as tree
use Rattle.swc_ecma_parser_model.specs.Tree.{Tree, trees}
use Rattle.swc_ecma_parser_model.specs.Forms.{is_chain}
use Rattle.swc_ecma_parser_grammar.specs.declared.position.Position.{Position}
use Rattle.swc_ecma_parser_grammar.specs.Names.{Code}
use Rattle.swc_ecma_parser_grammar.specs.Parameters.{parameters}
use Rattle.swc_ecma_parser_grammar.specs.language.Goals.{Goal, member_goal, binding, Class, expression, assignment, operator, unary, left_side, callee, Purpose}
use Rattle.swc_ecma_parser_grammar.specs.language.Contexts.{in_class, with_in}
use Rattle.swc_ecma_parser_grammar.specs.language.Parts as parts
use Rattle.swc_ecma_parser_grammar.specs.language.Parts.{OptionalName, ComputedRule, KeyRule, AccessRule, ElementRule, ArgumentsRule, is_private}
use Rattle.swc_ecma_parser_grammar.specs.language.Items.{nested_item, directed, directs_on, ItemsRule, BlockRule}
use Rattle.swc_ecma_parser_grammar.specs.language.PatternItems as pattern_items
use Rattle.swc_ecma_parser_grammar.specs.language.PatternItems.{PatternItemRule}
use Rattle.swc_ecma_parser_grammar.specs.language.Functions.{ParametersRule, FunctionParts, FunctionRule, MethodRule}
use Rattle.swc_ecma_parser_grammar.specs.language.Classes as classes
use Rattle.swc_ecma_parser_grammar.specs.language.Classes.{DecoratorRule, DecoratorsRule, MemberKeyRule, method_member, field_member, FieldValueRule, CoreRule, has_accessor, is_static_word, MemberRule, HeritageRule, ClassRule}
use Rattle.swc_ecma_parser_grammar.specs.language.Objects as objects
use Rattle.swc_ecma_parser_grammar.specs.language.Objects.{PropertyRule}
use Rattle.swc_ecma_parser_grammar.specs.language.Templates.{TemplateRule, only_text, first_text}
use Rattle.swc_ecma_parser_grammar.specs.language.LeftSides as sides
use Rattle.swc_ecma_parser_grammar.specs.language.LeftSides.{PrimaryRule, LeftSideRule}
use Rattle.swc_ecma_parser_grammar.specs.language.Patterns as patterns
use Rattle.swc_ecma_parser_grammar.specs.language.Patterns.{PatternPropertyRule, PatternRule, PatternElementRule}
use Rattle.swc_ecma_parser_grammar.specs.language.Expressions as exprs
use Rattle.swc_ecma_parser_grammar.specs.language.Expressions.{UnaryRule, BinaryRule, ArrowHeadRule, ArrowBodyRule, AssignmentRule, ExpressionRule, ExprRule}
use Rattle.swc_ecma_parser_grammar.specs.language.Decorators as chains
use Rattle.swc_ecma_parser_grammar.specs.language.Decorators.{ChainRule, GroupRule, DecoratedRule}
use Rattle.swc_ecma_parser_grammar.specs.language.Laws.{Advances, begin, end}
use Rattle.swc_ecma_parser_grammar.specs.language.Plain.{has_new_form, any_has_new_form}
use Rattle.swc_ecma_parser_grammar.proofs.language.progress.Steps.{◌▹▹◌, any_token}
use Rattle.swc_ecma_parser_grammar.proofs.language.progress.Expressions as p
use Rattle.swc_ecma_parser_grammar.proofs.language.plain.Steps.{Plain, Old, AllOld, tree_of, behind, on, next, no_token, no_kind, each_old, listed_old, separated_old, elements_old, parameters_old}

-- ---- members, whatever their key

method_is_old : (b : Bool) (s : Span) (key fn : Tree) (form : MethodKind) (is_static : Bool) → Old key → Old fn
    → Old (if b then tree.private_method s key fn form is_static else tree.method s key fn form is_static)
method_is_old true s key fn form is_static e f = rw (e, f) refl
method_is_old false s key fn form is_static e f = rw (e, f) refl

field_is_old : (b : Bool) (s : Span) (key value : Tree) (is_static : Bool) (ds : Tree) → Old key → Old value → Old ds
    → Old (if b then tree.private_prop s key value is_static ds else tree.class_prop s key value is_static ds)
field_is_old true s key value is_static ds e f g = rw (g, e, f) refl
field_is_old false s key value is_static ds e f g = rw (g, e, f) refl

field_old : (s : Span) (key value : Tree) (is_static is_accessor : Bool) (ds : Tree) → Old key → Old value → Old ds → Old (field_member s key value is_static is_accessor ds)
field_old s key value is_static true ds e f g = rw (g, e, f) refl
field_old s key value is_static false ds e f g = field_is_old (is_private key) s key value is_static ds e f g

name_old : {k : Code} {x : Tree} {c d : Place} → OptionalName k x c d → Old x
name_old (parts.no_name n e) = ap has_new_form e
name_old (parts.a_name text s r e) = ap has_new_form e

-- what is read so is no private name
abbrev pub Public : Tree → Type 0
Public x = is_private x ≡ false

module _ (In : Goal → Type 0) (go : (g : Goal) → In g → Advances (begin g) (end g)) (small : (g : Goal) → In g → Plain (begin g) → Old (tree_of g)) where
  inner : {g : Goal} → In g → Plain (begin g) → Old (tree_of g)
  inner {g} r h = small g r h

  -- ---- keys, accesses, arguments

  computed_old : {k : Code} {x : Tree} {c d : Place} → ComputedRule In k x c d → Plain c → Old x
  computed_old r h = ap has_new_form r.is ∙ inner r.reads_key (next h)

  pub key_old : (k : Code) (x : Tree) (c d : Place) → KeyRule In k x c d → Plain c → Old x
  key_old k x c d (parts.word_key text s r e) h = ap has_new_form e
  key_old k x c d (parts.string_key v w s r e) h = ap has_new_form e
  key_old k x c d (parts.number_key w s r e) h = ap has_new_form e
  key_old k x c d (parts.big_int_key w s r e) h = ap has_new_form e
  key_old k x c d (parts.computed_key r) h = computed_old r h

  access_old : {k : Code} {x : Tree} {c d : Place} → AccessRule In k x c d → Plain c → Old x
  access_old (parts.word_access text s i r e) h = ap has_new_form e
  access_old (parts.private_access i r) h = ap has_new_form r.is
  access_old (parts.bracket_access y m i r j n e) h = ap has_new_form e ∙ inner r (next h)

  element_old : (k : Code) (x : Tree) (c d : Place) → ElementRule In k x c d → Plain c → Old x
  element_old k x c d (parts.plain_element y r e) h = ap has_new_form e ∙ inner r h
  element_old k x c d (parts.spread_element y i r e) h = ap has_new_form e ∙ inner r (next h)

  arguments_old : {k : Code} {commas : Bool} {x : Tree} {c d : Place} → ArgumentsRule In k commas x c d → Plain c → Old x
  arguments_old {k} {commas} {c = c} r h =
      ap has_new_form r.is ∙ listed_old (ElementRule In k) (λ y i j q. p.element In go q) (element_old k) commas r.elements (after c) r.close r.reads_elements (next h)

  -- ---- statements in braces

  pub items_old : (k : Code) (directives : Bool) (at : Position) (xs : List Tree) (c d : Place) → ItemsRule In k directives at xs c d → Plain c → AllOld xs
  items_old k directives at [] c d e h = refl
  items_old k directives at (x ∷ xs) c d (m, r, rs) h =
      rw (inner r h) (items_old (directed k directives x) (directs_on directives x) at xs m d rs (behind (go _ r) h))

  pub block_old : {k : Code} {directives : Bool} {x : Tree} {c d : Place} → BlockRule In k directives x c d → Plain c → Old x
  block_old {k} {directives} {c = c} r h = ap has_new_form r.is ∙ items_old k directives nested_item r.items (after c) r.close r.reads_items (next h)

  -- ---- functions and methods

  pub pattern_item_old : (q : Purpose) (k : Code) (x : Tree) (c d : Place) → PatternItemRule In q k x c d → Plain c → Old x
  pattern_item_old q k x c d (pattern_items.element_rule r) h = inner r h
  pattern_item_old q k x c d (pattern_items.rest_rule y i r e) h = ap has_new_form e ∙ inner r (next h)

  patterns_old : {k : Code} {ps : List Tree} {c d : Place} → ParametersRule In k ps c d → Plain c → AllOld ps
  patterns_old {k} {ps} {c} r h =
      listed_old (PatternItemRule In binding (with_in k)) (λ y i j q. p.pattern_item In go q) (pattern_item_old binding (with_in k)) true ps (after c) r.close r.reads_patterns (next h)

  parts_old : {k : Code} {is_async is_generator : Bool} {ps : List Tree} {body : Tree} {c d : Place} → FunctionParts In k is_async is_generator ps body c d → Plain c
      → (AllOld ps) × (Old body)
  parts_old r h = (patterns_old r.reads_parameters h, block_old r.reads_body (behind (p.parameters In go r.reads_parameters) h))

  pub function_old : {is_expression : Bool} {k : Code} {ds n x : Tree} {c d : Place} → FunctionRule In is_expression k ds n x c d → Plain c → Old ds → (Old n) × (Old x)
  function_old r h o =
      let q = parts_old r.reads_parts (on (p.async_word r.reads_async ▹▹ any_token ▹▹ p.star r.reads_star ▹▹ p.optional_name r.reads_name) h) in
      (name_old r.reads_name, ap has_new_form r.is ∙ rw (o, parameters_old r.patterns q.0, q.1) refl)

  method_old : (Key : Tree → Place → Place → Type 0) (reads : (x : Tree) (c d : Place) → Key x c d → Advances c d) (old : (x : Tree) (c d : Place) → Key x c d → Plain c → Old x)
      {k : Code} {form : MethodKind} {is_async is_generator : Bool} {y : Tree} {ps : List Tree} {body : Tree} {c d : Place} → MethodRule In Key k form is_async is_generator y ps body c d
      → Plain c → (Old y) × (AllOld ps) × (Old body)
  method_old Key reads old {y = y} r h =
      let i = on (p.method_head r.reads_head) h in
      let q = parts_old r.reads_parts (behind (reads y r.behind_head r.behind_key r.reads_key) i) in
      (old y r.behind_head r.behind_key r.reads_key i, q.0, q.1)

  -- ---- classes

  decorator_old : (k : Code) (x : Tree) (c d : Place) → DecoratorRule In k x c d → Plain c → Old x
  decorator_old k x c d (classes.decorator_rule y i r e) h = ap has_new_form e ∙ inner r (next h)

  pub decorators_old : {k : Code} {x : Tree} {c d : Place} → DecoratorsRule In k x c d → Plain c → Old x
  decorators_old (classes.no_decorators i e) h = ap has_new_form e
  decorators_old {k} {c = c} {d = d} (classes.some_decorators y ys a rs e) h =
      ap has_new_form e ∙ each_old (DecoratorRule In k) (λ x i j q. p.decorator In go q) (decorator_old k) (y ∷ ys) c d rs h

  member_key_old : (k : Code) (x : Tree) (c d : Place) → MemberKeyRule In k x c d → Plain c → Old x
  member_key_old k x c d (classes.member_key r) h = key_old k x c d r h
  member_key_old k x c d (classes.private_key s w text r e f) h = ap has_new_form e

  value_old : {k : Code} {start : Place} {x : Tree} {c d : Place} → FieldValueRule In k start x c d → Plain c → Old x
  value_old (classes.no_value a b f i e) h = ap has_new_form e
  value_old (classes.a_value i r) h = inner r (next h)

  core_old : {k : Code} {is_static is_accessor : Bool} {ds x : Tree} {c m d : Place} → CoreRule In k is_static is_accessor ds x c m d → Plain m → Old ds → Old x
  core_old {k} {m = m} (classes.constructor_rule y ps body i j a b e r f q s g) h o =
      let l = behind (p.key In go r) h in
      ap has_new_form g ∙ rw (key_old k y m i r h, parameters_old ps (patterns_old q l), block_old s (behind (p.parameters In go q) l)) refl
  core_old {k} {is_static} {ds = ds} {c = c} {m = m} {d = d} (classes.method_rule form is_async is_generator y ps body a r b e) h o =
      let q = method_old (MemberKeyRule In k) (λ x i j s. p.member_key In go s) (member_key_old k) r h in
      ap has_new_form e ∙ method_is_old (is_private y) _ y (tree.function _ ds (parameters ps) body is_async is_generator) form is_static q.0 (rw (o, parameters_old ps q.1, q.2) refl)
  core_old {k} {is_static} {is_accessor} {ds = ds} {m = m} (classes.field_rule y v i j r a q s e) h o =
      ap has_new_form e ∙ field_old _ y v is_static is_accessor ds (member_key_old k y m i r h) (value_old q (behind (p.member_key In go r) h)) o
  core_old (classes.static_block_rule body a b e r f) h o = ap has_new_form f ∙ block_old r h

  pub member_old : {k : Code} {x : Tree} {c d : Place} → MemberRule In k x c d → Plain c → Old x
  member_old (classes.empty_rule i n e) h = ap has_new_form e
  member_old {k} (classes.member_rule ds m r q) h =
      core_old q (on (p.decorators In go r ▹▹ p.modifier (is_static_word m) ▹▹ p.modifier (has_accessor k m)) h) (decorators_old r h)

  heritage_old : {k : Code} {x : Tree} {c d : Place} → HeritageRule In k x c d → Plain c → Old x
  heritage_old (classes.no_heritage i e) h = ap has_new_form e
  heritage_old (classes.heritage_rule i r) h = inner r (next h)

  pub class_old : {k : Code} {start : Place} {ds n x : Tree} {c d : Place} → ClassRule In k start ds n x c d → Plain c → Old ds → (Old n) × (Old x)
  class_old {k} r h o =
      let i = on (any_token ▹▹ p.optional_name r.reads_name) h in
      let j = next (on (p.heritage In go r.reads_heritage) i) in (
        name_old r.reads_name,
        ap has_new_form r.is
            ∙ rw (o, heritage_old r.reads_heritage i, each_old (λ y a b. In (member_goal (with_in (in_class k)) y a b)) (λ y a b q. go _ q) (λ y a b q l. inner q l) r.members (after r.opening) r.close r.reads_members j) refl,
      )

  -- ---- objects

  property_old : (k : Code) (x : Tree) (c d : Place) → PropertyRule In k x c d → Plain c → Old x
  property_old k x c d (objects.spread_rule y i r e) h = ap has_new_form e ∙ inner r (next h)
  property_old k x c d (objects.shorthand_rule text s r e) h = ap has_new_form e
  property_old k x c d (objects.key_value_rule y v m r i q e) h = ap has_new_form e ∙ rw (key_old k y c m r h, inner q (next (behind (p.key In go r) h))) refl
  property_old k x c d (objects.getter_rule y body r e) h =
      let q = method_old (KeyRule In k) (λ z i j s. p.key In go s) (key_old k) r h in ap has_new_form e ∙ rw (q.0, q.2) refl
  property_old k x c d (objects.setter_rule y z body r e) h =
      let q = method_old (KeyRule In k) (λ w i j s. p.key In go s) (key_old k) r h in
      let l : Old z = sole (has_new_form z) q.1 in ap has_new_form e ∙ rw (q.0, l, q.2) refl
    where
      sole : (a : Bool) → (a || false) ≡ false → a ≡ false
      sole true i = i
      sole false i = i
  property_old k x c d (objects.method_rule is_async is_generator y ps body r e) h =
      let q = method_old (KeyRule In k) (λ z i j s. p.key In go s) (key_old k) r h in ap has_new_form e ∙ rw (q.0, parameters_old ps q.1, q.2) refl

  -- ---- primary and left-hand-side expressions

  template_old : {X : Type 0} {tagged : Bool} {k : Code} {es qs : List Tree} {c d : Place} → TemplateRule In tagged k es qs c d → Plain c → X
  template_old (only_text q t e i) h = no_token t.reads_text refl h
  template_old (first_text q qs m t r i) h = no_token t.reads_text refl h

  pub primary_old : {k : Code} {x : Tree} {c d : Place} → PrimaryRule In k x c d → Plain c → (Old x) × (Public x)
  primary_old (sides.name_rule text s r a e) h = (ap has_new_form e, ap is_private e)
  primary_old (sides.string_rule v w s r e) h = (ap has_new_form e, ap is_private e)
  primary_old (sides.true_rule s r e) h = (ap has_new_form e, ap is_private e)
  primary_old (sides.false_rule s r e) h = (ap has_new_form e, ap is_private e)
  primary_old (sides.null_rule s r e) h = (ap has_new_form e, ap is_private e)
  primary_old (sides.number_rule w s r e) h = (ap has_new_form e, ap is_private e)
  primary_old (sides.big_int_rule w s r e) h = (ap has_new_form e, ap is_private e)
  primary_old (sides.regex_rule w f s r e) h = no_token r refl h
  primary_old (sides.template_rule es qs r e) h = template_old r h
  primary_old (sides.this_rule i n e) h = (ap has_new_form e, ap is_private e)
  primary_old {k} (sides.array_rule es m i r j n e) h =
      (ap has_new_form e ∙ elements_old (ElementRule In k) (λ y a b q. p.element In go q) (element_old k) r (next h), ap is_private e)
  primary_old {k} {c = c} (sides.object_rule ps m i r j n e) h =
      (ap has_new_form e ∙ listed_old (PropertyRule In k) (λ y a b q. p.property In go q) (property_old k) true ps (after c) m r (next h), ap is_private e)
  primary_old (sides.function_rule n f r e) h = let q = function_old r h refl in (ap has_new_form e ∙ rw (q.0, q.1) refl, ap is_private e)
  primary_old (sides.class_rule n f r e) h = let q = class_old r h refl in (ap has_new_form e ∙ rw (q.0, q.1) refl, ap is_private e)
  primary_old (sides.paren_rule y m i r j n e) h = (ap has_new_form e ∙ inner r (next h), ap is_private e)

  pub left_old : {k : Code} {x : Tree} {c d : Place} → LeftSideRule In k x c d → Plain c → (Old x) × (Public x)
  left_old (sides.primary_rule r) h = primary_old r h
  left_old (sides.import_meta_rule i j w n m e) h = (ap has_new_form e, ap is_private e)
  left_old (sides.new_target_rule i j w n e) h = no_kind j refl (next h)
  left_old (sides.member_rule o q m r n s e) h = (ap has_new_form e ∙ rw ((left_old r h).0, access_old s (behind (p.left_side_rule In go r) h)) refl, ap is_private e)
  left_old (sides.super_property_rule q i s j e) h = (ap has_new_form e ∙ access_old s (next h), ap is_private e)
  left_old (sides.call_rule f xs m r n s e) h = (ap has_new_form e ∙ rw ((left_old r h).0, arguments_old s (behind (p.left_side_rule In go r) h)) refl, ap is_private e)
  left_old (sides.tagged_rule t es qs m r n s e) h = template_old s (behind (p.left_side_rule In go r) h)
  left_old (sides.chain_rule o b m r i s e) h = no_kind i refl (behind (p.left_side_rule In go r) h)
  left_old (sides.linked_rule o b m r n s e) h = absurd (no_chain o (left_old r h).0 n)
    where
      no_chain : (y : Tree) → Old y → is_chain y ≡ true → ⊥
      no_chain (tree.opt_chain w optional base) i j = cc
      no_chain y i j = cc
  left_old (sides.super_call_rule xs i s e) h = (ap has_new_form e ∙ arguments_old s (next h), ap is_private e)
  left_old (sides.import_call_rule xs i s e) h = (ap has_new_form e ∙ arguments_old s (next h), ap is_private e)
  left_old (sides.new_rule f xs m i r s e) h = (ap has_new_form e ∙ rw (inner r (next h), arguments_old s (behind (go _ r) (next h))) refl, ap is_private e)
  left_old (sides.bare_new_rule f i r e) h = (ap has_new_form e ∙ rw (inner r (next h)) refl, ap is_private e)

  -- ---- patterns

  pattern_property_old : (q : Purpose) (k : Code) (x : Tree) (c d : Place) → PatternPropertyRule In q k x c d → Plain c → Old x
  pattern_property_old q k x c d (patterns.key_value_rule y v m r i s e) h = ap has_new_form e ∙ rw (key_old k y c m r h, inner s (next (behind (p.key In go r) h))) refl
  pattern_property_old q k x c d (patterns.shorthand_rule text s r i e) h = ap has_new_form e
  pattern_property_old q k x c d (patterns.default_rule text s v m r i t e) h = ap has_new_form e ∙ inner t (next (behind (p.name r) h))
  pattern_property_old q k x c d (patterns.rest_rule y i r j e) h = ap has_new_form e ∙ inner r (next h)

  pub pattern_old : {q : Purpose} {k : Code} {x : Tree} {c d : Place} → PatternRule In q k x c d → Plain c → (Old x) × (Public x)
  pattern_old (patterns.binding_name_rule text s i r e) h = (ap has_new_form e, ap is_private e)
  pattern_old (patterns.target_name_rule text s i a r e) h = (ap has_new_form e, ap is_private e)
  pattern_old (patterns.target_rule y i r t j e) h = (ap has_new_form e ∙ (left_old r.0 h).0, ap is_private e)
  pattern_old {q} {k} (patterns.array_rule es m i r j n e) h =
      (ap has_new_form e ∙ elements_old (PatternItemRule In q (with_in k)) (λ y a b s. p.pattern_item In go s) (pattern_item_old q (with_in k)) r (next h), ap is_private e)
  pattern_old {q} {k} {c = c} (patterns.object_rule ps m i r j n e) h =
      (ap has_new_form e ∙ listed_old (PatternPropertyRule In q (with_in k)) (λ y a b s. p.pattern_property In go s) (pattern_property_old q (with_in k)) true ps (after c) m r (next h), ap is_private e)

  pub pattern_element_old : {q : Purpose} {k : Code} {x : Tree} {c d : Place} → PatternElementRule In q k x c d → Plain c → Old x
  pattern_element_old (patterns.bare_rule r i) h = (pattern_old r h).0
  pattern_element_old (patterns.initialized_rule y v m r i s e) h = ap has_new_form e ∙ rw ((pattern_old r h).0, inner s (next (behind (p.pattern_rule In go r) h))) refl

  -- ---- operators and assignments

  unary_old : {k : Code} {x : Tree} {c d : Place} → UnaryRule In k x c d → Plain c → (Old x) × (Public x)
  unary_old (exprs.operand_rule r) h = left_old r.0 h
  unary_old (exprs.unary_rule op y i r e) h = (ap has_new_form e ∙ inner r (next h), ap is_private e)
  unary_old (exprs.prefix_rule op y i r t e) h = (ap has_new_form e ∙ inner r (next h), ap is_private e)
  unary_old (exprs.postfix_rule op y m r t b i n e) h = (ap has_new_form e ∙ (left_old r.0 h).0, ap is_private e)
  unary_old (exprs.await_rule y a m r e) h = (ap has_new_form e ∙ inner r (next h), ap is_private e)

  binary_old : {k : Code} {n : ℕ} {x : Tree} {c d : Place} → BinaryRule In k n x c d → Plain c → (Old x) × (Public x)
  binary_old (exprs.single_rule r) h = unary_old r h
  binary_old (exprs.left_rule op y z m l a b r i s f g e) h =
      let q = binary_old r h in (ap has_new_form e ∙ rw (q.1, q.0, inner s (next (behind (p.binary_rule In go r) h))) refl, ap is_private e)
  binary_old (exprs.power_rule y z m l r a i s e) h =
      let q = unary_old r h in (ap has_new_form e ∙ rw (q.1, q.0, inner s (next (behind (p.unary_rule In go r) h))) refl, ap is_private e)
  binary_old (exprs.private_in_rule y z m l a r i s e) h = no_kind r.hash refl h

  head_old : {k : Code} {ps : List Tree} {c d : Place} → ArrowHeadRule In k ps c d → Plain c → AllOld ps
  head_old (exprs.name_head q r a e) h = ap (λ l. any_has_new_form (trees l)) e ∙ rw (inner r h) refl
  head_old (exprs.parameters_head r) h = patterns_old r h

  arrow_body_old : {k : Code} {is_async : Bool} {x : Tree} {c d : Place} → ArrowBodyRule In k is_async x c d → Plain c → Old x
  arrow_body_old (exprs.block_body r) h = block_old r h
  arrow_body_old (exprs.expression_body a r) h = inner r h

  assignment_old : (k : Code) (x : Tree) (c d : Place) → AssignmentRule In k x c d → Plain c → Old x
  assignment_old k x c d (exprs.operators_rule r a) h = (binary_old r h).0
  assignment_old k x c d (exprs.conditional_rule t y z i j r f q g s u e) h =
      let a = next (behind (p.binary_rule In go r) h) in
      ap has_new_form e ∙ rw ((binary_old r h).0, inner q a, inner s (next (behind (go _ q) a))) refl
  assignment_old k x c d (exprs.assign_rule op y z m r t a s e) h = ap has_new_form e ∙ rw ((left_old r.0 h).0, inner s (next (behind (p.left_side_rule In go r.0) h))) refl
  assignment_old k x c d (exprs.destructuring_rule y z m r t a s e) h = ap has_new_form e ∙ rw ((pattern_old r h).0, inner s (next (behind (p.pattern_rule In go r) h))) refl
  assignment_old k x c d (exprs.arrow_rule is_async ps body i j w r a b s e) h =
      let f = on (p.async_word w) h in ap has_new_form e ∙ rw (head_old r f, arrow_body_old s (next (behind (p.arrow_head In go r) f))) refl
  assignment_old k x c d (exprs.bare_yield_rule g i n s e) h = ap has_new_form e
  assignment_old k x c d (exprs.yield_rule y g i b s r e) h = ap has_new_form e ∙ inner r (next h)
  assignment_old k x c d (exprs.delegate_rule y g i b s r e) h = ap has_new_form e ∙ inner r (next (next h))

  expression_old : {k : Code} {x : Tree} {c d : Place} → ExpressionRule In k x c d → Plain c → Old x
  expression_old {k} {x} {c} {d} (exprs.assignment_rule r a) h = assignment_old k x c d r h
  expression_old {k} {c = c} {d = d} (exprs.sequence_rule y z es r e) h =
      ap has_new_form e ∙ separated_old (AssignmentRule In k) (λ w i j q. p.assignment_rule In go q) (assignment_old k) (y ∷ z ∷ es) c d r h

  pub expr_old : (class : Class) (k : Code) (x : Tree) (c d : Place) → ExprRule In class k x c d → Plain c → Old x
  expr_old expression k x c d r h = expression_old r h
  expr_old assignment k x c d r h = assignment_old k x c d r h
  expr_old (operator n) k x c d r h = (binary_old r.0 h).0
  expr_old unary k x c d r h = (unary_old r.0 h).0
  expr_old left_side k x c d r h = (left_old r.0 h).0
  expr_old callee k x c d r h = (left_old r.0.0 h).0

  -- ---- decorators

  chain_old : {k : Code} {x : Tree} {c d : Place} → ChainRule In k x c d → Plain c → Old x
  chain_old (chains.name_rule text s r e) h = ap has_new_form e
  chain_old (chains.member_rule o q m r s a e) h = ap has_new_form e ∙ rw (chain_old r h, access_old s (behind (p.chain In go r) h)) refl
  chain_old (chains.call_rule f xs m r s e) h = ap has_new_form e ∙ rw (chain_old r h, arguments_old s (behind (p.chain In go r) h)) refl

  group_old : {k : Code} {x : Tree} {c d : Place} → GroupRule In k x c d → Plain c → Old x
  group_old r h = expression_old r.reads_expression (next h)

  pub decorated_old : {k : Code} {x : Tree} {c d : Place} → DecoratedRule In k x c d → Plain c → Old x
  decorated_old (chains.group_rule r a) h = group_old r h
  decorated_old (chains.group_call_rule y xs m r s e) h = ap has_new_form e ∙ rw (group_old r h, arguments_old s (behind (p.group In go r) h)) refl
  decorated_old (chains.chain_rule r a b) h = chain_old r h
