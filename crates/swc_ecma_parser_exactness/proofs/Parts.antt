-- Keys, accesses, arguments, blocks, functions and classes are supported.
use Rattle.std.proofs.Common.{◌≡◌, Bool, true, false, true≢false, List, [], ◌∷◌, refl, sym, ap}
use Rattle.std.specs.Prelude.{◌&&◌, ◌||◌, if◌then◌else◌}
use Rattle.swc_ecma_parser_common.specs.declared.span.Span.{Span}
use Rattle.swc_ecma_parser_input.specs.Place.{Place, after}
use Rattle.swc_ecma_parser_model.specs.declared.leaves.MethodKind.{MethodKind}
use Rattle.swc_ecma_parser_model.specs.Tree as tree
use Rattle.swc_ecma_parser_model.specs.Tree.{Tree, listed}
use Rattle.swc_ecma_parser_grammar.specs.declared.position.Position.{Position}
use Rattle.swc_ecma_parser_grammar.specs.Looks.{spanned}
use Rattle.swc_ecma_parser_grammar.specs.Names.{Code}
use Rattle.swc_ecma_parser_grammar.specs.Parameters.{parameters}
use Rattle.swc_ecma_parser_grammar.specs.language.PatternItems.{PatternItemRule}
use Rattle.swc_ecma_parser_grammar.specs.language.Contexts.{with_in}
use Rattle.swc_ecma_parser_grammar.specs.language.Goals.{Goal, Purpose, binding, expression, assignment, left_side, expr_goal, pattern_goal, element_goal, stmt_goal, member_goal, decorator_goal}
use Rattle.swc_ecma_parser_grammar.specs.language.Contexts as contexts
use Rattle.swc_ecma_parser_grammar.specs.language.Parts as parts
use Rattle.swc_ecma_parser_grammar.specs.language.Parts.{OptionalName, KeyRule, AccessRule, ElementRule, ArgumentsRule, is_private}
use Rattle.swc_ecma_parser_grammar.specs.language.Items.{nested_item, directed, directs_on, ItemsRule, BlockRule}
use Rattle.swc_ecma_parser_grammar.specs.language.PatternItems as pattern_items
use Rattle.swc_ecma_parser_grammar.specs.language.Functions.{ParametersRule, FunctionParts, FunctionRule}
use Rattle.swc_ecma_parser_grammar.specs.language.Classes as classes
use Rattle.swc_ecma_parser_grammar.specs.language.Classes.{DecoratorRule, DecoratorsRule, MemberKeyRule, method_member, field_member, FieldValueRule, CoreRule, MemberRule, HeritageRule, ClassRule}
use Rattle.swc_ecma_parser_grammar.proofs.Tests.{and_both}
use Rattle.swc_ecma_parser_grammar.specs.scaffold.Supported.{supported, is_supported_key_in, is_supported_property_in, is_supported_method_in}
use Rattle.swc_ecma_parser_exactness.specs.Supports.{Whole, WholeGoal}
use Rattle.swc_ecma_parser_exactness.proofs.Wholes.{as_form, three, WholeKey, WholeProperty, key_as, property_as, EachWhole, list_whole, parameters_whole, each_whole, listed_whole}

-- ---- names and keys

pub name_supported : {k : Code} {x : Tree} {c d : Place} → OptionalName k x c d → supported x ≡ true
name_supported (parts.no_name h e) = ap supported e
name_supported (parts.a_name text s r e) = ap supported e

-- a key of objects is not private
key_is_public : {In : Goal → Type 0} {k : Code} {x : Tree} {c d : Place} → KeyRule In k x c d → is_private x ≡ false
key_is_public (parts.word_key text s r e) = ap is_private e
key_is_public (parts.string_key value raw s r e) = ap is_private e
key_is_public (parts.number_key raw s r e) = ap is_private e
key_is_public (parts.big_int_key raw s r e) = ap is_private e
key_is_public (parts.computed_key r) = ap is_private r.is

-- ---- members by their keys

-- a key of a member: one of objects, or a private one
pub data WholeMemberKey (x : Tree) : Type 0 where
  open_key : is_private x ≡ false → WholeKey x → WholeMemberKey x
  hidden_key : is_private x ≡ true → WholeProperty x → WholeMemberKey x

-- what a choice by a test is, where that is known
chosen_yes : (b : Bool) (x y : Tree) → b ≡ true → (if b then x else y) ≡ x
chosen_yes true x y e = refl
chosen_yes false x y e = absurd (true≢false (sym e))

chosen_no : (b : Bool) (x y : Tree) → b ≡ false → (if b then x else y) ≡ y
chosen_no true x y e = absurd (true≢false e)
chosen_no false x y e = refl

either_key : (a b : Bool) → b ≡ true → (a || b) ≡ true
either_key true b e = refl
either_key false b e = e

first_key : (a b : Bool) → a ≡ true → (a || b) ≡ true
first_key true b e = refl
first_key false b e = absurd (true≢false (sym e))

-- ---- what is known of a list, of a function and of a class by their parts

pub record WholeList (x : Tree) : Type 0 where
  pub items : List Tree
  pub each : EachWhole items
  pub is : x ≡ listed items

pub record WholeParts (patterns : List Tree) (body : Tree) : Type 0 where
  pub each : EachWhole patterns
  pub inside : Whole body

pub record WholeClass (members : List Tree) (heritage : Tree) : Type 0 where
  pub each : EachWhole members
  pub base : Whole heritage

module _ (In : Goal → Type 0) (small : (g : Goal) → In g → WholeGoal g) where
  -- ---- keys, accesses, arguments

  pub key_whole : (k : Code) (x : Tree) (c d : Place) → KeyRule In k x c d → WholeKey x
  key_whole k x c d (parts.word_key text s r e) = ap (is_supported_key_in false) e
  key_whole k x c d (parts.string_key value raw s r e) = ap (is_supported_key_in false) e
  key_whole k x c d (parts.number_key raw s r e) = ap (is_supported_key_in false) e
  key_whole k x c d (parts.big_int_key raw s r e) = ap (is_supported_key_in false) e
  key_whole k x c d (parts.computed_key r) =
      key_as x (tree.computed (spanned c d) r.key) r.is (small (expr_goal assignment (with_in k) r.key (after c) r.close) r.reads_key)

  pub access_whole : {k : Code} {x : Tree} {c d : Place} → AccessRule In k x c d → WholeProperty x
  access_whole (parts.word_access text s h r e) = ap (is_supported_property_in false) e
  access_whole (parts.private_access h r) = ap (is_supported_property_in false) r.is
  access_whole {k = k} {x = x} {c = c} {d = d} (parts.bracket_access e m h r i g j) =
      property_as x (tree.computed (spanned c d) e) j (small (expr_goal expression (with_in k) e (after c) m) r)

  pub element_whole : (k : Code) (x : Tree) (c d : Place) → ElementRule In k x c d → Whole x
  element_whole k x c d (parts.plain_element e r i) = as_form x (tree.element _ e) i (small (expr_goal assignment (with_in k) e c d) r)
  element_whole k x c d (parts.spread_element e h r i) = as_form x (tree.element _ e) i (small (expr_goal assignment (with_in k) e (after c) d) r)

  pub arguments_whole : {k : Code} {commas : Bool} {x : Tree} {c d : Place} → ArgumentsRule In k commas x c d → Whole x
  arguments_whole {k = k} {commas = commas} {x = x} {c = c} r =
      as_form x (listed r.elements) r.is (list_whole r.elements (listed_whole (ElementRule In k) (element_whole k) commas r.elements (after c) r.close r.reads_elements))

  -- ---- statements one behind another

  pub items_whole : (k : Code) (directives : Bool) (at : Position) (xs : List Tree) (c d : Place) → ItemsRule In k directives at xs c d → EachWhole xs
  items_whole k directives at [] c d r = tt
  items_whole k directives at (x ∷ xs) c d (m, r, rs) =
      (small (stmt_goal k at x c m) r, items_whole (directed k directives x) (directs_on directives x) at xs m d rs)

  pub block_whole : {k : Code} {directives : Bool} {x : Tree} {c d : Place} → BlockRule In k directives x c d → Whole x
  block_whole {k = k} {directives = directives} {x = x} {c = c} {d = d} r =
      as_form x (tree.block (spanned c d) (listed r.items)) r.is (list_whole r.items (items_whole k directives nested_item r.items (after c) r.close r.reads_items))

  -- ---- functions

  pub pattern_item_whole : (p : Purpose) (k : Code) (x : Tree) (c d : Place) → PatternItemRule In p k x c d → Whole x
  pattern_item_whole p k x c d (pattern_items.element_rule r) = small (element_goal p k x c d) r
  pattern_item_whole p k x c d (pattern_items.rest_rule y h r e) = as_form x (tree.rest_pat (spanned c d) y) e (small (pattern_goal p k y (after c) d) r)

  pub patterns_whole : {k : Code} {ps : List Tree} {c d : Place} → ParametersRule In k ps c d → EachWhole ps
  patterns_whole {k = k} {ps = ps} {c = c} r =
      listed_whole (PatternItemRule In binding (with_in k)) (pattern_item_whole binding (with_in k)) true ps (after c) r.close r.reads_patterns

  pub function_parts : {k : Code} {is_async is_generator : Bool} {ps : List Tree} {body : Tree} {c d : Place} → FunctionParts In k is_async is_generator ps body c d → WholeParts ps body
  function_parts r = record { each = patterns_whole r.reads_parameters; inside = block_whole r.reads_body }

  function_of : (s : Span) (ds : Tree) (ps : List Tree) (body : Tree) (a g : Bool) → Whole ds → WholeParts ps body → Whole (tree.function s ds (parameters ps) body a g)
  function_of s ds ps body a g w p = three ds (parameters ps) body w (parameters_whole ps p.each) p.inside

  pub function_whole : {is_expression : Bool} {k : Code} {decorators name x : Tree} {c d : Place} → Whole decorators → FunctionRule In is_expression k decorators name x c d → Whole x
  function_whole {decorators = ds} {x = x} {c = c} {d = d} w r =
      as_form x (tree.function (spanned c d) ds (parameters r.patterns) r.body r.is_async r.is_generator) r.is
      (function_of (spanned c d) ds r.patterns r.body r.is_async r.is_generator w (function_parts r.reads_parts))

  -- ---- classes

  pub decorator_whole : (k : Code) (x : Tree) (c d : Place) → DecoratorRule In k x c d → Whole x
  decorator_whole k x c d (classes.decorator_rule e h r i) = as_form x (tree.decorator (spanned c d) e) i (small (decorator_goal k e (after c) d) r)

  pub decorators_list : {k : Code} {x : Tree} {c d : Place} → DecoratorsRule In k x c d → WholeList x
  decorators_list (classes.no_decorators h e) = record { items = []; each = tt; is = e }
  decorators_list {k = k} {c = c} {d = d} (classes.some_decorators y ys h rs e) =
      record { items = y ∷ ys; each = each_whole (DecoratorRule In k) (decorator_whole k) (y ∷ ys) c d rs; is = e }

  pub decorators_whole : {k : Code} {x : Tree} {c d : Place} → DecoratorsRule In k x c d → Whole x
  decorators_whole {x = x} r = let l = decorators_list r in as_form x (listed l.items) l.is (list_whole l.items l.each)

  member_key_whole : (k : Code) (x : Tree) (c d : Place) → MemberKeyRule In k x c d → WholeMemberKey x
  member_key_whole k x c d (classes.member_key r) = open_key (key_is_public r) (key_whole k x c d r)
  member_key_whole k x c d (classes.private_key s word text r e h) = hidden_key (ap is_private e) (ap (is_supported_property_in false) e)

  value_whole : {k : Code} {start : Place} {x : Tree} {c d : Place} → FieldValueRule In k start x c d → Whole x
  value_whole {x = x} (classes.no_value h i j g e) = ap supported e
  value_whole {k = k} {x = x} {c = c} {d = d} (classes.a_value h r) = small (expr_goal assignment (with_in k) x (after c) d) r

  heritage_whole : {k : Code} {x : Tree} {c d : Place} → HeritageRule In k x c d → Whole x
  heritage_whole {x = x} (classes.no_heritage h e) = ap supported e
  heritage_whole {k = k} {x = x} {c = c} {d = d} (classes.heritage_rule h r) = small (expr_goal left_side k x (after c) d) r

  -- the key of a method, and its function
  method_supported : (b : Bool) → b ≡ true → (s : Span) (ds : Tree) (ps : List Tree) (body : Tree) (a g : Bool) → Whole ds → WholeParts ps body
      → (b && (is_supported_method_in false (tree.function s ds (parameters ps) body a g) && true)) ≡ true
  method_supported b f s ds ps body a g w p = and_both b _ f (and_both _ true (three ds (parameters ps) body w (parameters_whole ps p.each) p.inside) refl)

  method_whole : (s : Span) (key ds : Tree) (ps : List Tree) (body : Tree) (a g : Bool) (form : MethodKind) (is_static : Bool) → WholeMemberKey key → Whole ds → WholeParts ps body
      → Whole (method_member s key (tree.function s ds (parameters ps) body a g) form is_static)
  method_whole s key ds ps body a g form is_static (open_key e f) w p =
      let fn = tree.function s ds (parameters ps) body a g in
      as_form _ (tree.method s key fn form is_static) (chosen_no (is_private key) (tree.private_method s key fn form is_static) (tree.method s key fn form is_static) e)
      (method_supported (is_supported_key_in false key) f s ds ps body a g w p)
  method_whole s key ds ps body a g form is_static (hidden_key e f) w p =
      let fn = tree.function s ds (parameters ps) body a g in
      as_form _ (tree.private_method s key fn form is_static) (chosen_yes (is_private key) (tree.private_method s key fn form is_static) (tree.method s key fn form is_static) e)
      (method_supported (is_supported_property_in false key) f s ds ps body a g w p)

  accessor_key : (key : Tree) → WholeMemberKey key → (is_supported_key_in false key || is_private key) ≡ true
  accessor_key key (open_key e f) = first_key (is_supported_key_in false key) (is_private key) f
  accessor_key key (hidden_key e f) = either_key (is_supported_key_in false key) (is_private key) e

  field_whole : (s : Span) (key value : Tree) (is_static is_accessor : Bool) (ds : Tree) → WholeMemberKey key → Whole value → Whole ds
      → Whole (field_member s key value is_static is_accessor ds)
  field_whole s key value is_static true ds m v w = and_both _ _ w (and_both _ _ (accessor_key key m) v)
  field_whole s key value is_static false ds (open_key e f) v w =
      as_form _ (tree.class_prop s key value is_static ds) (chosen_no (is_private key) (tree.private_prop s key value is_static ds) (tree.class_prop s key value is_static ds) e)
      (and_both _ _ w (and_both _ _ f v))
  field_whole s key value is_static false ds (hidden_key e f) v w =
      as_form _ (tree.private_prop s key value is_static ds) (chosen_yes (is_private key) (tree.private_prop s key value is_static ds) (tree.class_prop s key value is_static ds) e)
      (and_both _ _ w (and_both _ _ f v))

  constructor_whole : (s : Span) (key : Tree) (ps : List Tree) (body : Tree) → WholeKey key → EachWhole ps → Whole body → Whole (tree.constructor s key (parameters ps) body)
  constructor_whole s key ps body f p b = and_both _ _ f (and_both _ true (and_both _ _ (parameters_whole ps p) b) refl)

  core_whole : {k : Code} {is_static is_accessor : Bool} {decorators x : Tree} {c m d : Place} → Whole decorators → CoreRule In k is_static is_accessor decorators x c m d → Whole x
  core_whole {k = k} {x = x} {c = c} {m = m} {d = d} w (classes.constructor_rule key ps body i j f g e r h s t is) =
      as_form x (tree.constructor (spanned c d) key (parameters ps) body) is (constructor_whole (spanned c d) key ps body (key_whole k key m i r) (patterns_whole s) (block_whole t))
  core_whole {k = k} {is_static = is_static} {decorators = ds} {x = x} {c = c} {d = d} w (classes.method_rule form is_async is_generator key ps body f r h is) =
      as_form x (method_member (spanned c d) key (tree.function (spanned c d) ds (parameters ps) body is_async is_generator) form is_static) is
      (method_whole (spanned c d) key ds ps body is_async is_generator form is_static (member_key_whole k key r.behind_head r.behind_key r.reads_key) w (function_parts r.reads_parts))
  core_whole {k = k} {is_static = is_static} {is_accessor = is_accessor} {decorators = ds} {x = x} {c = c} {m = m} {d = d} w (classes.field_rule key value i j r h v e is) =
      as_form x (field_member (spanned c d) key value is_static is_accessor ds) is
      (field_whole (spanned c d) key value is_static is_accessor ds (member_key_whole k key m i r) (value_whole v) w)
  core_whole {x = x} {c = c} {d = d} w (classes.static_block_rule body f g e r is) =
      as_form x (tree.static_block (spanned c d) body) is (and_both (supported body) true (block_whole r) refl)

  pub member_whole : {k : Code} {x : Tree} {c d : Place} → MemberRule In k x c d → Whole x
  member_whole {x = x} {c = c} {d = d} (classes.empty_rule h g e) = ap supported e
  member_whole (classes.member_rule decorators m r s) = core_whole (decorators_whole r) s

  pub class_parts : {k : Code} {start : Place} {decorators name x : Tree} {c d : Place} (r : ClassRule In k start decorators name x c d) → WholeClass r.members r.heritage
  class_parts {k = k} r = record {
    each = each_whole (λ y i j. In (member_goal (with_in (contexts.in_class k)) y i j)) (λ y i j h. small (member_goal (with_in (contexts.in_class k)) y i j) h) r.members (after r.opening) r.close r.reads_members;
    base = heritage_whole r.reads_heritage;
  }

  class_of : (s : Span) (ds : Tree) (members : List Tree) (heritage : Tree) → Whole ds → WholeClass members heritage → Whole (tree.class s ds (listed members) heritage)
  class_of s ds members heritage w p = three ds heritage (listed members) w p.base (list_whole members p.each)

  pub class_whole : {k : Code} {start : Place} {decorators name x : Tree} {c d : Place} → Whole decorators → ClassRule In k start decorators name x c d → Whole x
  class_whole {start = start} {decorators = ds} {x = x} {d = d} w r =
      as_form x (tree.class (spanned start d) ds (listed r.members) r.heritage) r.is (class_of (spanned start d) ds r.members r.heritage w (class_parts r))
