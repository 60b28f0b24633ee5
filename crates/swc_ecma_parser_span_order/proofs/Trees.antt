-- Trees that run forward: lists of them, their spans, and what an expression is where it is assigned to.
use Rattle.std.proofs.Common.{◌≡◌, ℕ, Bool, true, false, cond, List, [], ◌∷◌, ◌++◌, Option, Some, None, refl}
use Rattle.swc_ecma_parser_common.specs.declared.span.Span.{Span}
use Rattle.swc_ecma_parser_input.specs.Place.{Place}
use Rattle.swc_ecma_parser_model.specs.declared.leaves.MethodKind.{MethodKind}
use Rattle.swc_ecma_parser_model.specs.declared.operators.AssignOp.TheVariants as assign
use Rattle.swc_ecma_parser_model.specs.Forms.{span_of, is_simple_target}
use Rattle.swc_ecma_parser_model.specs.Targets.{leaf, left_pattern, simple_target, rest_of, array_of, object_of, key_value_of, before, alone, as_pattern, as_elements, as_item, as_properties, as_property, as_target, as_element, binds, if_binds, as_parameter}
use Rattle.swc_ecma_parser_model.specs.Tree as tree
use Rattle.swc_ecma_parser_model.specs.Tree.{Tree, Trees, none, also, trees}
use Rattle.swc_ecma_parser_grammar.specs.Parameters.{parameters}
use Rattle.swc_ecma_parser_grammar.specs.language.Classes.{method_member, field_member}
use Rattle.swc_ecma_parser_grammar.specs.language.Parts.{is_private}
use Rattle.swc_ecma_parser_grammar.proofs.Tests.{and_yes}
use Rattle.swc_ecma_parser_span_order.specs.Forward.{is_forward, forward, all_forward}
use Rattle.swc_ecma_parser_span_order.proofs.Places.{both, Part, Many}

-- ---- lists

pub appended : (xs : List Tree) (x : Tree) → all_forward (trees xs) ≡ true → forward x ≡ true → all_forward (trees (xs ++ x ∷ [])) ≡ true
appended [] x h g = both g refl
appended (y ∷ ys) x h g = let p = and_yes (forward y) _ h in both p.0 (appended ys x p.1 g)

pub one_more : {m n : ℕ} {xs : List Tree} {x : Tree} {c d : Place} → Many n xs d → Part m x c → Many m (xs ++ x ∷ []) c
one_more {xs} {x} h g = record { straight = appended xs x h.straight g.straight; place = g.place }

pub joined : (xs ys : List Tree) → all_forward (trees xs) ≡ true → all_forward (trees ys) ≡ true → all_forward (trees (xs ++ ys)) ≡ true
joined [] ys h g = g
joined (x ∷ xs) ys h g = let p = and_yes (forward x) _ h in both p.0 (joined xs ys p.1 g)

-- ---- the span of a tree

pub own_forward : (x : Tree) → forward x ≡ true → is_forward (span_of x) ≡ true
own_forward tree.absent h = refl
own_forward (tree.list ts) h = refl
own_forward (tree.ident s text) h = h
own_forward (tree.str s value raw) h = h
own_forward (tree.bool s b) h = h
own_forward (tree.null s) h = h
own_forward (tree.num s raw) h = h
own_forward (tree.big_int s raw) h = h
own_forward (tree.regex s exp flags) h = h
own_forward (tree.quasi s tail cooked raw) h = h
own_forward (tree.this s) h = h
own_forward (tree.meta_prop s kind) h = h
own_forward (tree.invalid s) h = h
own_forward (tree.super_callee s) h = h
own_forward (tree.import_callee s) h = h
own_forward (tree.shorthand_prop s text) h = h
own_forward (tree.ident_pat s text) h = h
own_forward (tree.invalid_pat s) h = h
own_forward (tree.empty_member s) h = h
own_forward (tree.empty s) h = h
own_forward (tree.debugger s) h = h
own_forward (tree.element spread e) h = (and_yes _ _ (and_yes _ _ h).1).0
own_forward (tree.spread_prop dots e) h = (and_yes _ _ (and_yes _ _ h).1).0
own_forward (tree.expr_pat e) h = own_forward e h
own_forward (tree.export_default e) h = own_forward e h
own_forward (tree.class_decl name body) h = own_forward body (and_yes _ _ h).1
own_forward (tree.fn_decl name fn) h = own_forward fn (and_yes _ _ h).1
own_forward x h = (and_yes _ _ h).0

-- ---- what an expression is where it is assigned to

-- if it is something, it runs forward
abbrev pub ForwardIf : Option Tree → Type 0
ForwardIf (Some x) = forward x ≡ true
ForwardIf None = Unit {0}

abbrev pub AllForwardIf : Option Trees → Type 0
AllForwardIf (Some xs) = all_forward xs ≡ true
AllForwardIf None = Unit {0}

leaf_forward : (x : Tree) → forward x ≡ true → forward (leaf x) ≡ true
leaf_forward (tree.ident s text) h = h
leaf_forward x h = h

left_forward : (x : Tree) → forward x ≡ true → forward (left_pattern x) ≡ true
left_forward (tree.array_pat s elems) h = h
left_forward (tree.object_pat s props) h = h
left_forward x h = leaf_forward x h

some_if : (b : Bool) (x : Tree) → forward x ≡ true → ForwardIf (cond b (Some x) None)
some_if true x h = h
some_if false x h = tt

simple_forward : (x : Tree) → forward x ≡ true → ForwardIf (simple_target x)
simple_forward x h = some_if (is_simple_target x) (leaf x) (leaf_forward x h)

rest_forward : (dots : Span) (x : Tree) (o : Option Tree) → is_forward (span_of (tree.element (Some dots) x)) ≡ true → ForwardIf o → ForwardIf (rest_of dots x o)
rest_forward dots x (Some p) h g = both h g
rest_forward dots x None h g = tt

array_forward : (s : Span) (o : Option Trees) → is_forward s ≡ true → AllForwardIf o → ForwardIf (array_of s o)
array_forward s (Some xs) h g = both h g
array_forward s None h g = tt

object_forward : (s : Span) (o : Option Trees) → is_forward s ≡ true → AllForwardIf o → ForwardIf (object_of s o)
object_forward s (Some xs) h g = both h g
object_forward s None h g = tt

key_value_forward : (s : Span) (key : Tree) (o : Option Tree) → is_forward s ≡ true → forward key ≡ true → ForwardIf o → ForwardIf (key_value_of s key o)
key_value_forward s key (Some p) h k g = both h (both k g)
key_value_forward s key None h k g = tt

before_forward : (o : Option Tree) (os : Option Trees) → ForwardIf o → AllForwardIf os → AllForwardIf (before o os)
before_forward (Some x) (Some xs) h g = both h g
before_forward None (Some xs) h g = tt
before_forward None None h g = tt
before_forward (Some x) None h g = tt

alone_forward : (o : Option Tree) → ForwardIf o → AllForwardIf (alone o)
alone_forward (Some x) h = both h refl
alone_forward None h = tt

mutual
  pub pattern_forward : (defaults : Bool) (x : Tree) → forward x ≡ true → ForwardIf (as_pattern defaults x)
  pattern_forward true (tree.assign s assign.Assign left right) h = let p = and_yes (is_forward s) _ h in let q = and_yes (forward left) _ p.1 in both p.0 (both (left_forward left q.0) q.1)
  pattern_forward true (tree.array s (tree.list xs)) h = let p = and_yes (is_forward s) _ h in array_forward s (as_elements xs) p.0 (elements_forward xs p.1)
  pattern_forward true (tree.object s (tree.list xs)) h = let p = and_yes (is_forward s) _ h in object_forward s (as_properties xs) p.0 (properties_forward xs p.1)
  pattern_forward false (tree.array s (tree.list xs)) h = let p = and_yes (is_forward s) _ h in array_forward s (as_elements xs) p.0 (elements_forward xs p.1)
  pattern_forward false (tree.object s (tree.list xs)) h = let p = and_yes (is_forward s) _ h in object_forward s (as_properties xs) p.0 (properties_forward xs p.1)
  pattern_forward true x h = simple_forward x h
  pattern_forward false x h = simple_forward x h

  elements_forward : (xs : Trees) → all_forward xs ≡ true → AllForwardIf (as_elements xs)
  elements_forward none h = refl
  elements_forward (also (tree.element (Some dots) x) none) h = let p = and_yes (forward (tree.element (Some dots) x)) _ h in let q = and_yes (is_forward dots) _ p.0 in
      let r = and_yes (is_forward (span_of (tree.element (Some dots) x))) _ q.1 in alone_forward (rest_of dots x (as_pattern false x)) (rest_forward dots x (as_pattern false x) r.0 (pattern_forward false x r.1))
  elements_forward (also x xs) h = let p = and_yes (forward x) _ h in before_forward (as_item x) (as_elements xs) (item_forward x p.0) (elements_forward xs p.1)

  item_forward : (x : Tree) → forward x ≡ true → ForwardIf (as_item x)
  item_forward tree.absent h = refl
  item_forward (tree.element None x) h = pattern_forward true x (and_yes (is_forward (span_of x)) _ h).1
  item_forward _ h = tt

  properties_forward : (xs : Trees) → all_forward xs ≡ true → AllForwardIf (as_properties xs)
  properties_forward none h = refl
  properties_forward (also (tree.spread_prop dots x) none) h = let p = and_yes (forward (tree.spread_prop dots x)) _ h in let q = and_yes (is_forward dots) _ p.0 in
      let r = and_yes (is_forward (span_of (tree.spread_prop dots x))) _ q.1 in alone_forward (rest_of dots x (simple_target x)) (rest_forward dots x (simple_target x) r.0 (simple_forward x r.1))
  properties_forward (also x xs) h = let p = and_yes (forward x) _ h in before_forward (as_property x) (as_properties xs) (property_forward x p.0) (properties_forward xs p.1)

  property_forward : (x : Tree) → forward x ≡ true → ForwardIf (as_property x)
  property_forward (tree.key_value_prop s key value) h = let p = and_yes (is_forward s) _ h in let q = and_yes (forward key) _ p.1 in
      key_value_forward s key (as_pattern true value) p.0 q.0 (pattern_forward true value q.1)
  property_forward (tree.shorthand_prop s text) h = both h (both h refl)
  property_forward (tree.assign_prop s (tree.ident i text) value) h = let p = and_yes (is_forward s) _ h in let q = and_yes (is_forward i) _ p.1 in both p.0 (both q.0 q.1)
  property_forward _ h = tt

if_binds_forward : (o : Option Tree) → ForwardIf o → ForwardIf (if_binds o)
if_binds_forward (Some p) h = some_if (binds p) p h
if_binds_forward None h = tt

pub target_forward : (x : Tree) → forward x ≡ true → ForwardIf (as_target x)
target_forward x h = pattern_forward false x h

pub parameter_forward : (x : Tree) → forward x ≡ true → ForwardIf (as_parameter x)
parameter_forward x h = if_binds_forward (as_element x) (pattern_forward true x h)

-- a rest from its dots on
pub rest_parameter_forward : (dots : Span) (x : Tree) → is_forward (span_of (tree.element (Some dots) x)) ≡ true → forward x ≡ true → ForwardIf (if_binds (rest_of dots x (as_target x)))
rest_parameter_forward dots x h g = if_binds_forward (rest_of dots x (as_target x)) (rest_forward dots x (as_target x) h (target_forward x g))

-- unless a comma stands behind a spread
pub unless_forward : (b : Bool) (o : Option Tree) → ForwardIf o → ForwardIf (cond b None o)
unless_forward true o h = tt
unless_forward false o h = h

-- ---- parameters and members

pub parameters_forward : (ps : List Tree) → all_forward (trees ps) ≡ true → forward (parameters ps) ≡ true
parameters_forward [] h = refl
parameters_forward (p ∷ ps) h = let q = and_yes (forward p) _ h in both (both (own_forward p q.0) q.0) (parameters_forward ps q.1)

private_or : (b : Bool) (x y : Tree) → forward x ≡ true → forward y ≡ true → forward (cond b x y) ≡ true
private_or true x y h g = h
private_or false x y h g = g

pub method_forward : (s : Span) (key fn : Tree) (form : MethodKind) (is_static : Bool) → is_forward s ≡ true → forward key ≡ true → forward fn ≡ true → forward (method_member s key fn form is_static) ≡ true
method_forward s key fn form is_static h k g = private_or (is_private key) (tree.private_method s key fn form is_static) (tree.method s key fn form is_static) (both h (both k g)) (both h (both k g))

pub field_forward : (s : Span) (key value : Tree) (is_static is_accessor : Bool) (ds : Tree) → is_forward s ≡ true → forward key ≡ true → forward value ≡ true → forward ds ≡ true
    → forward (field_member s key value is_static is_accessor ds) ≡ true
field_forward s key value is_static true ds h k v g = both h (both k (both v g))
field_forward s key value is_static false ds h k v g = private_or (is_private key) (tree.private_prop s key value is_static ds) (tree.class_prop s key value is_static ds)
    (both h (both k (both v g))) (both h (both k (both v g)))
