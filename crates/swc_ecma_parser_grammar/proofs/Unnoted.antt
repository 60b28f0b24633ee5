-- Notes are of statements alone: no supported expression and no supported pattern has any, and none that begins with `import` is a
-- bare name.
use Rattle.std.proofs.Common.{◌≡◌, ℕ, zero, suc, Bool, true, false, true≢false, List, [], ◌∷◌, ◌++◌, refl, sym, ◌∙◌, ap, subst}
use Rattle.std.specs.Prelude.{◌&&◌, ◌||◌, if◌then◌else◌, None, Some}
use Rattle.swc_ecma_parser_common.specs.declared.span.Span.{Span}
use Rattle.swc_ecma_parser_error.specs.Kind.{Fault}
use Rattle.swc_ecma_parser_token.specs.declared.kind.TokenKind.TheVariants as kind
use Rattle.swc_ecma_parser_input.specs.Place.{Place, after}
use Rattle.swc_ecma_parser_model.specs.declared.operators.AssignOp.TheVariants as assign
use Rattle.swc_ecma_parser_model.specs.declared.operators.BinaryOp.TheVariants as binary
use Rattle.swc_ecma_parser_model.specs.Tree as tree
use Rattle.swc_ecma_parser_model.specs.declared.leaves.MethodKind.{MethodKind}
use Rattle.swc_ecma_parser_model.specs.Tree.{Tree, trees, listed}
use Rattle.swc_ecma_parser_model.specs.Forms.{is_ident}
use Rattle.swc_ecma_parser_model.specs.Kinds.{is_function}
use Rattle.swc_ecma_parser_grammar.specs.Looks.{sees, span_at, spanned}
use Rattle.swc_ecma_parser_grammar.specs.Names.{Code}
use Rattle.swc_ecma_parser_grammar.specs.Parameters.{parameters}
use Rattle.swc_ecma_parser_grammar.specs.Follows.{begins_import_expression}
use Rattle.swc_ecma_parser_grammar.specs.Notes.{notes, method_notes, all_notes, statement_note}
use Rattle.swc_ecma_parser_grammar.specs.scaffold.Supported.{supported_in, all_supported_in, is_supported_key_in, is_supported_property_in, has_no_note, is_clean, is_supported_method_in}
use Rattle.swc_ecma_parser_grammar.specs.scaffold.ReadsSupported.{ReadsClass}
use Rattle.swc_ecma_parser_grammar.specs.language.PatternItems.{PatternItemRule}
use Rattle.swc_ecma_parser_grammar.specs.language.Goals.{Goal, Class, Purpose, binding, expression, assignment, operator, unary, left_side, callee, expr_goal, callee_goal, pattern_goal, element_goal, stmt_goal, member_goal, decorator_goal, using_goal, attributes_goal, item_goal}
use Rattle.swc_ecma_parser_grammar.specs.language.Lists.{ReadsEach, ReadsListed, Elements, no_elements, hole, last_element, more_elements, ReadsSeparated}
use Rattle.swc_ecma_parser_grammar.specs.language.Parts as parts
use Rattle.swc_ecma_parser_grammar.specs.language.Parts.{KeyRule, AccessRule, is_private, ElementRule, ArgumentsRule}
use Rattle.swc_ecma_parser_grammar.specs.language.Functions as functions
use Rattle.swc_ecma_parser_grammar.specs.language.PatternItems as pattern_items
use Rattle.swc_ecma_parser_grammar.specs.language.Contexts.{in_class, with_in}
use Rattle.swc_ecma_parser_grammar.specs.language.Templates as templates
use Rattle.swc_ecma_parser_grammar.specs.language.Templates.{TemplateRest, TemplateRule}
use Rattle.swc_ecma_parser_grammar.specs.language.Links as links
use Rattle.swc_ecma_parser_grammar.specs.language.Links.{LinkRule}
use Rattle.swc_ecma_parser_grammar.specs.language.Classes as classes
use Rattle.swc_ecma_parser_grammar.specs.language.Classes.{DecoratorRule, DecoratorsRule, MemberKeyRule, method_member, field_member, FieldValueRule, CoreRule, MemberRule, HeritageRule, ClassRule}
use Rattle.swc_ecma_parser_grammar.specs.language.Objects as objects
use Rattle.swc_ecma_parser_grammar.specs.language.Objects.{PropertyRule}
use Rattle.swc_ecma_parser_grammar.specs.language.Patterns as patterns
use Rattle.swc_ecma_parser_grammar.specs.language.Patterns.{PatternPropertyRule, PatternRule, PatternElementRule}
use Rattle.swc_ecma_parser_grammar.specs.language.Decorators as decorators
use Rattle.swc_ecma_parser_grammar.specs.language.Decorators.{ChainRule, DecoratedRule}
use Rattle.swc_ecma_parser_grammar.specs.language.LeftSides as sides
use Rattle.swc_ecma_parser_grammar.specs.language.LeftSides.{PrimaryRule, LeftSideRule}
use Rattle.swc_ecma_parser_grammar.specs.language.Expressions as expressions
use Rattle.swc_ecma_parser_grammar.specs.language.Expressions.{UnaryRule, BinaryRule, ArrowHeadRule, AssignmentRule, ExpressionRule, ExprRule}
use Rattle.swc_ecma_parser_grammar.specs.language.Reads.{Reads}
use Rattle.swc_ecma_parser_grammar.proofs.Tests.{and_yes}
use Rattle.swc_ecma_parser_grammar.proofs.Naming.{name_is_name}
use Rattle.swc_ecma_parser_grammar.proofs.SupportedBegins.{supported_as, name_begins}
use Rattle.swc_ecma_parser_grammar.proofs.SupportedIn.{method_is_function}

-- ---- notes, joined

pub joined : (es fs : List Fault) → es ≡ [] → fs ≡ [] → es ++ fs ≡ []
joined es fs e h = ap (λ z. z ++ fs) e ∙ h

nil_split : (es fs : List Fault) → es ++ fs ≡ [] → (es ≡ []) × (fs ≡ [])
nil_split [] fs e = (refl, e)
nil_split (x ∷ es) fs e = (cc, cc)

-- a list that is tested to be empty
pub clean_is : (es : List Fault) → is_clean es ≡ true → es ≡ []
clean_is [] h = refl
clean_is (x ∷ es) h = cc

-- none in module code
abbrev pub Quiet : Code → List Fault → Type 0
Quiet k es = k.flags.module ≡ true → es ≡ []

pub quiet_first : (k : Code) (es fs : List Fault) → Quiet k (es ++ fs) → Quiet k es
quiet_first k es fs q m = (nil_split es fs (q m)).0

pub quiet_last : (k : Code) (es fs : List Fault) → Quiet k (es ++ fs) → Quiet k fs
quiet_last k es fs q m = (nil_split es fs (q m)).1

-- the form of a tree has its notes
pub quiet_as : (k : Code) (x y : Tree) → x ≡ y → Quiet k (notes x) → Quiet k (notes y)
quiet_as k x y e q m = sym (ap notes e) ∙ q m

-- a tree that has none where it is supported
abbrev Silent : Tree → Type 0
Silent x = supported_in true x ≡ true → notes x ≡ []

abbrev AllSilent : List Tree → Type 0
AllSilent xs = all_supported_in true (trees xs) ≡ true → all_notes (trees xs) ≡ []

both_silent : (x y : Tree) → Silent x → Silent y → supported_in true x && supported_in true y ≡ true → notes x ++ notes y ≡ []
both_silent x y s t h = let g = and_yes (supported_in true x) _ h in joined (notes x) (notes y) (s g.0) (t g.1)

abbrev SilentGoal : Goal → Type 0
SilentGoal (expr_goal class k x c d) = Silent x
SilentGoal (callee_goal k x c d) = Silent x
SilentGoal (pattern_goal p k x c d) = Silent x
SilentGoal (element_goal p k x c d) = Silent x
SilentGoal (stmt_goal k at x c d) = Unit {0}
SilentGoal (member_goal k x c d) = Silent x
SilentGoal (decorator_goal k x c d) = Silent x
SilentGoal (using_goal k x c d) = Unit {0}
SilentGoal (attributes_goal k x c d) = Unit {0}
SilentGoal (item_goal k x c d) = Unit {0}

method_joined : (key : List Fault) (fn : Tree) → is_function fn ≡ true → key ≡ [] → notes fn ≡ [] → method_notes key fn ≡ []
method_joined key (tree.function s ds ps body a g) f e o =
    let n = nil_split (notes ds ++ notes ps) (notes body) o in
    let l = nil_split (notes ds) (notes ps) n.0 in
    joined (notes ds ++ key ++ notes ps) (notes body) (joined (notes ds ++ key) (notes ps) (joined (notes ds) key l.0 e) l.1) n.1
method_joined key _ f e o = absurd (true≢false (sym f))

-- the form that a tree is
silent_as : (x y : Tree) → x ≡ y → Silent y → Silent x
silent_as x y e s h = ap notes e ∙ s (supported_as _ x y e h)

-- ---- lists

module _ (Rule : Tree → Place → Place → Type 0) (small : (x : Tree) (c d : Place) → Rule x c d → Silent x) where
  listed_silent : (commas : Bool) (xs : List Tree) (c d : Place) → ReadsListed commas Rule xs c d → AllSilent xs
  listed_silent commas [] c d r h = refl
  listed_silent commas (x ∷ []) c d (m, r, l) h = joined (notes x) [] (small x c m r (and_yes (supported_in true x) _ h).0) refl
  listed_silent commas (x ∷ y ∷ ys) c d (m, r, i, e, rs) h =
      let g = and_yes (supported_in true x) _ h in joined (notes x) _ (small x c m r g.0) (listed_silent commas (y ∷ ys) (after m) d rs g.1)

  separated_silent : (xs : List Tree) (c d : Place) → ReadsSeparated Rule xs c d → AllSilent xs
  separated_silent [] c d r h = refl
  separated_silent (x ∷ []) c d (r, e) h = joined (notes x) [] (small x c d r (and_yes (supported_in true x) _ h).0) refl
  separated_silent (x ∷ y ∷ ys) c d (m, r, e, rs) h =
      let g = and_yes (supported_in true x) _ h in joined (notes x) _ (small x c m r g.0) (separated_silent (y ∷ ys) (after m) d rs g.1)

  all_as : (xs ys : List Tree) → xs ≡ ys → AllSilent ys → AllSilent xs
  all_as xs ys e s h = ap (λ l. all_notes (trees l)) e ∙ s (sym (ap (λ l. all_supported_in true (trees l)) e) ∙ h)

  elements_silent : {xs : List Tree} {c d : Place} → Elements Rule xs c d → AllSilent xs
  elements_silent {xs = xs} (no_elements e n) h = all_as xs [] e (λ _. refl) h
  elements_silent {xs = xs} (hole ys i rs e) h = all_as xs (tree.absent ∷ ys) e (elements_silent rs) h
  elements_silent {xs = xs} {c = c} (last_element y m r l e) h =
      all_as xs (y ∷ []) e (λ g. joined (notes y) [] (small y c m r (and_yes (supported_in true y) _ g).0) refl) h
  elements_silent {xs = xs} {c = c} (more_elements y z zs m r i j rs e) h =
      all_as xs (y ∷ z ∷ zs) e (λ g. let f = and_yes (supported_in true y) _ g in joined (notes y) _ (small y c m r f.0) (elements_silent rs f.1)) h

-- ---- expressions and patterns

module _ (In : Goal → Type 0) (small : (g : Goal) → In g → SilentGoal g) where
  key_silent : {k : Code} {x : Tree} {c d : Place} → KeyRule In k x c d → is_supported_key_in true x ≡ true → notes x ≡ []
  key_silent (parts.word_key text s r e) h = ap notes e
  key_silent (parts.string_key value raw s r e) h = ap notes e
  key_silent (parts.number_key raw s r e) h = ap notes e
  key_silent (parts.big_int_key raw s r e) h = ap notes e
  key_silent {k = k} {c = c} (parts.computed_key r) h =
      ap notes r.is ∙ small (expr_goal assignment (with_in k) r.key (after c) r.close) r.reads_key (sym (ap (is_supported_key_in true) r.is) ∙ h)

  access_silent : {k : Code} {x : Tree} {c d : Place} → AccessRule In k x c d → is_supported_property_in true x ≡ true → notes x ≡ []
  access_silent (parts.word_access text s i r e) h = ap notes e
  access_silent (parts.private_access i r) h = ap notes r.is
  access_silent {k = k} {c = c} (parts.bracket_access y m i r j n e) h =
      ap notes e ∙ small (expr_goal expression (with_in k) y (after c) m) r (sym (ap (is_supported_property_in true) e) ∙ h)

  element_silent : (k : Code) (x : Tree) (c d : Place) → ElementRule In k x c d → Silent x
  element_silent k x c d (parts.plain_element y r e) = silent_as x (tree.element None y) e (small (expr_goal assignment (with_in k) y c d) r)
  element_silent k x c d (parts.spread_element y i r e) = silent_as x (tree.element (Some (span_at c)) y) e (small (expr_goal assignment (with_in k) y (after c) d) r)

  arguments_silent : {k : Code} {commas : Bool} {x : Tree} {c d : Place} → ArgumentsRule In k commas x c d → Silent x
  arguments_silent {k = k} {commas = commas} {x = x} {c = c} r =
      silent_as x (listed r.elements) r.is (listed_silent (ElementRule In k) (element_silent k) commas r.elements (after c) r.close r.reads_elements)

  rest_silent : {tagged : Bool} {k : Code} {es qs : List Tree} {c d : Place} → TemplateRest In tagged k es qs c d → AllSilent es
  rest_silent {k = k} {es = es} {c = c} (templates.last_text y q m r t e i) h =
      let g = and_yes (supported_in true y) _ (sym (ap (λ l. all_supported_in true (trees l)) e) ∙ h) in
      ap (λ l. all_notes (trees l)) e ∙ joined (notes y) [] (small (expr_goal expression (with_in k) y c m) r g.0) refl
  rest_silent {k = k} {es = es} {c = c} (templates.more_texts y q ys qs m n r t rs e i) h =
      let g = and_yes (supported_in true y) _ (sym (ap (λ l. all_supported_in true (trees l)) e) ∙ h) in
      ap (λ l. all_notes (trees l)) e ∙ joined (notes y) _ (small (expr_goal expression (with_in k) y c m) r g.0) (rest_silent rs g.1)

  template_silent : {tagged : Bool} {k : Code} {es qs : List Tree} {c d : Place} → TemplateRule In tagged k es qs c d → AllSilent es
  template_silent (templates.only_text q t e i) h = ap (λ l. all_notes (trees l)) e
  template_silent (templates.first_text q qs m t r i) h = rest_silent r h

  link_silent : {k : Code} {behind_question : Bool} {s : Span} (o b : Tree) {c d : Place} → Silent o → LinkRule In k behind_question s o b c d → Silent b
  link_silent {s = s} o b f (links.name_link text w i r e) = silent_as b (tree.member s o (tree.ident w text)) e (λ h.
      let g = and_yes (supported_in true o) _ h in joined (notes o) [] (f g.0) refl)
  link_silent {s = s} o b f (links.private_link name i r e) = silent_as b (tree.member s o name) e (λ h.
      let g = and_yes (supported_in true o) _ h in joined (notes o) (notes name) (f g.0) (ap notes r.is))
  link_silent {s = s} o b f (links.access_link property i r e) = silent_as b (tree.member s o property) e (λ h.
      let g = and_yes (supported_in true o) _ h in joined (notes o) (notes property) (f g.0) (access_silent r g.1))
  link_silent {s = s} o b f (links.arguments_link arguments r e) = silent_as b (tree.call s o arguments) e (both_silent o arguments f (arguments_silent r))

  property_silent : (k : Code) (x : Tree) (c d : Place) → PropertyRule In k x c d → Silent x
  property_silent k x c d (objects.spread_rule y i r e) = silent_as x (tree.spread_prop (span_at c) y) e (small (expr_goal assignment (with_in k) y (after c) d) r)
  property_silent k x c d (objects.shorthand_rule text s r e) = λ h. ap notes e
  property_silent k x c d (objects.key_value_rule key value m r i s e) = silent_as x (tree.key_value_prop (spanned c d) key value) e (λ h.
      let g = and_yes (is_supported_key_in true key) _ h in joined (notes key) (notes value) (key_silent r g.0) (small (expr_goal assignment (with_in k) value (after m) d) s g.1))
  property_silent k x c d (objects.getter_rule key body r e) = λ h.
      let g = and_yes (is_supported_key_in true key) _ (supported_as _ x (tree.getter_prop (spanned c d) key body) e h) in
      ap notes e ∙ joined (notes key) (notes body) (key_silent r.reads_key g.0) (clean_is (notes body) (and_yes (supported_in true body) _ g.1).1)
  property_silent k x c d (objects.setter_rule key p body r e) = λ h.
      let g = and_yes (is_supported_key_in true key) _ (supported_as _ x (tree.setter_prop (spanned c d) key p body) e h) in
      let i = (and_yes (supported_in true p && supported_in true body) _ g.1).1 in
      let j = and_yes (has_no_note p) (has_no_note body) i in
      ap notes e ∙ joined (notes key ++ notes p) (notes body) (joined (notes key) (notes p) (key_silent r.reads_key g.0) (clean_is (notes p) j.0)) (clean_is (notes body) j.1)
  property_silent k x c d (objects.method_rule a g key ps body r e) = λ h.
      let fn = tree.function (spanned c d) (listed []) (parameters ps) body a g in
      let i = and_yes (is_supported_key_in true key) _ (supported_as _ x (tree.method_prop (spanned c d) key fn) e h) in
      let j = (and_yes (supported_in true fn) _ i.1).1 in
      ap notes e ∙ joined (notes key) (notes fn) (key_silent r.reads_key i.0) (clean_is (notes fn) j)

  -- a name has none
  name_silent : {k : Code} {x : Tree} {c d : Place} → parts.OptionalName k x c d → notes x ≡ []
  name_silent (parts.no_name n e) = ap notes e
  name_silent (parts.a_name text s r e) = ap notes e

  -- nor has a function in module code
  function_silent : {k : Code} {name y x : Tree} {s : Span} {c d : Place} → functions.FunctionRule In true k (listed []) name y c d → x ≡ tree.fn_expr s name y → Silent x
  function_silent {name = name} {y = y} {x = x} {s = s} r e h =
      let g = and_yes (supported_in true name) _ (supported_as _ x (tree.fn_expr s name y) e h) in
      let i = (and_yes (supported_in true y) _ g.1).1 in
      ap notes e ∙ joined (notes name) (notes y) (name_silent r.reads_name) (clean_is (notes y) i)

  -- the members of a class, one behind another
  members_silent : (k : Code) (xs : List Tree) (c d : Place) → ReadsEach (λ y i j. In (member_goal k y i j)) xs c d → AllSilent xs
  members_silent k [] c d r h = refl
  members_silent k (x ∷ xs) c d (m, r, rs) h =
      let g = and_yes (supported_in true x) _ h in joined (notes x) _ (small (member_goal k x c m) r g.0) (members_silent k xs m d rs g.1)

  heritage_silent : {k : Code} {x : Tree} {c d : Place} → HeritageRule In k x c d → Silent x
  heritage_silent (classes.no_heritage n e) h = ap notes e
  heritage_silent {k = k} {x = x} {c = c} {d = d} (classes.heritage_rule i r) h = small (expr_goal left_side k x (after c) d) r h

  -- a class has none in module code
  named_class_silent : {k : Code} {b : Place} {name x : Tree} {c d : Place} → ClassRule In k b (listed []) name x c d → supported_in true name && supported_in true x ≡ true → notes name ++ notes x ≡ []
  named_class_silent {k = k} {b = b} {name = name} {x = x} {d = d} r h =
      let f = and_yes (supported_in true r.heritage) _ (supported_as _ x (tree.class (spanned b d) (listed []) (listed r.members) r.heritage) r.is (and_yes (supported_in true name) _ h).1) in
      joined (notes name) (notes x) (name_silent r.reads_name)
      (ap notes r.is ∙ joined (notes r.heritage) _ (heritage_silent r.reads_heritage f.0) (members_silent (with_in (in_class k)) r.members (after r.opening) r.close r.reads_members f.1))

  primary_silent : (k : Code) (x : Tree) (c d : Place) → PrimaryRule In k x c d → Silent x
  primary_silent k x c d (sides.name_rule text s r i e) h = ap notes e
  primary_silent k x c d (sides.string_rule value raw s r e) h = ap notes e
  primary_silent k x c d (sides.true_rule s r e) h = ap notes e
  primary_silent k x c d (sides.false_rule s r e) h = ap notes e
  primary_silent k x c d (sides.null_rule s r e) h = ap notes e
  primary_silent k x c d (sides.number_rule raw s r e) h = ap notes e
  primary_silent k x c d (sides.big_int_rule raw s r e) h = ap notes e
  primary_silent k x c d (sides.regex_rule exp flags s r e) h = ap notes e
  primary_silent k x c d (sides.template_rule es qs r e) h = silent_as x (tree.tpl (spanned c d) (listed es) (listed qs)) e (template_silent r) h
  primary_silent k x c d (sides.this_rule i n e) h = ap notes e
  primary_silent k x c d (sides.array_rule xs m i r j n e) h = silent_as x (tree.array (spanned c d) (listed xs)) e (elements_silent (ElementRule In k) (element_silent k) r) h
  primary_silent k x c d (sides.object_rule xs m i r j n e) h =
      silent_as x (tree.object (spanned c d) (listed xs)) e (listed_silent (PropertyRule In k) (property_silent k) true xs (after c) m r) h
  primary_silent k x c d (sides.function_rule name y r e) h = function_silent r e h
  primary_silent k x c d (sides.class_rule name y r e) h = silent_as x (tree.class_expr (spanned c d) name y) e (named_class_silent r) h
  primary_silent k x c d (sides.paren_rule y m i r j n e) h = silent_as x (tree.paren (spanned c d) y) e (small (expr_goal expression (with_in k) y (after c) m) r) h

  left_silent : {k : Code} {x : Tree} {c d : Place} → LeftSideRule In k x c d → Silent x
  left_silent {k = k} {x = x} {c = c} {d = d} (sides.primary_rule r) = primary_silent k x c d r
  left_silent (sides.import_meta_rule i j w n m e) = λ h. ap notes e
  left_silent (sides.new_target_rule H G W N e) = λ h. ap notes e
  left_silent {x = x} {c = c} {d = d} (sides.member_rule y p m r n a e) = silent_as x (tree.member (spanned c d) y p) e (λ h.
      let g = and_yes (supported_in true y) _ h in joined (notes y) (notes p) (left_silent r g.0) (access_silent a g.1))
  left_silent {x = x} {c = c} {d = d} (sides.super_property_rule p i a j e) = silent_as x (tree.super_prop (spanned c d) (span_at c) p) e (access_silent a)
  left_silent {x = x} {c = c} {d = d} (sides.call_rule y z m r n a e) = silent_as x (tree.call (spanned c d) y z) e (both_silent y z (left_silent r) (arguments_silent a))
  left_silent {x = x} {c = c} {d = d} (sides.tagged_rule t es qs m r n q e) = let tpl = tree.tpl (spanned m d) (listed es) (listed qs) in silent_as x (tree.tagged_tpl (spanned c d) t tpl) e (both_silent t tpl (left_silent r) (template_silent q))
  left_silent {x = x} {c = c} {d = d} (sides.chain_rule o b m r i q e) = silent_as x (tree.opt_chain (spanned c d) true b) e (link_silent o b (left_silent r) q)
  left_silent {x = x} {c = c} {d = d} (sides.linked_rule o b m r n q e) = silent_as x (tree.opt_chain (spanned c d) false b) e (link_silent o b (left_silent r) q)
  left_silent {x = x} {c = c} {d = d} (sides.super_call_rule z i a e) = silent_as x (tree.call (spanned c d) (tree.super_callee (span_at c)) z) e (arguments_silent a)
  left_silent {x = x} {c = c} {d = d} (sides.import_call_rule z i a e) = silent_as x (tree.call (spanned c d) (tree.import_callee (span_at c)) z) e (arguments_silent a)
  left_silent {k = k} {x = x} {c = c} {d = d} (sides.new_rule y z m i r a e) =
      silent_as x (tree.new (spanned c d) y z) e (both_silent y z (small (callee_goal k y (after c) m) r) (arguments_silent a))
  left_silent {k = k} {x = x} {c = c} {d = d} (sides.bare_new_rule y i r e) =
      silent_as x (tree.new (spanned c d) y tree.absent) e (both_silent y tree.absent (small (expr_goal callee k y (after c) d) r) (λ _. refl))

  pattern_item_silent : (p : Purpose) (k : Code) (x : Tree) (c d : Place) → PatternItemRule In p k x c d → Silent x
  pattern_item_silent p k x c d (pattern_items.element_rule r) = small (element_goal p k x c d) r
  pattern_item_silent p k x c d (pattern_items.rest_rule y i r e) = silent_as x (tree.rest_pat (spanned c d) y) e (small (pattern_goal p k y (after c) d) r)

  pattern_property_silent : (p : Purpose) (k : Code) (x : Tree) (c d : Place) → PatternPropertyRule In p k x c d → Silent x
  pattern_property_silent p k x c d (patterns.key_value_rule key value m r i s e) = silent_as x (tree.key_value_pat_prop (spanned c d) key value) e (λ h.
      let g = and_yes (is_supported_key_in true key) _ h in joined (notes key) (notes value) (key_silent r g.0) (small (element_goal p (with_in k) value (after m) d) s g.1))
  pattern_property_silent p k x c d (patterns.shorthand_rule text s r i e) = λ h. ap notes e
  pattern_property_silent p k x c d (patterns.default_rule text s value m r i v e) = silent_as x (tree.assign_pat_prop (spanned c d) (tree.ident_pat s text) value) e (λ h.
      small (expr_goal assignment (with_in k) value (after m) d) v (and_yes (supported_in true (tree.ident_pat s text)) _ h).1)
  pattern_property_silent p k x c d (patterns.rest_rule y i r j e) = silent_as x (tree.rest_pat (spanned c d) y) e (small (pattern_goal p k y (after c) d) r)

  pattern_silent : {p : Purpose} {k : Code} {x : Tree} {c d : Place} → PatternRule In p k x c d → Silent x
  pattern_silent (patterns.binding_name_rule text s i r e) = λ h. ap notes e
  pattern_silent (patterns.target_name_rule text s i a r e) = λ h. ap notes e
  pattern_silent {x = x} (patterns.target_rule y i r t j e) = silent_as x (tree.expr_pat y) e (left_silent r.0)
  pattern_silent {p = p} {k = k} {x = x} {c = c} {d = d} (patterns.array_rule xs m i r j n e) =
      silent_as x (tree.array_pat (spanned c d) (listed xs)) e (elements_silent (PatternItemRule In p (with_in k)) (pattern_item_silent p (with_in k)) r)
  pattern_silent {p = p} {k = k} {x = x} {c = c} {d = d} (patterns.object_rule xs m i r j n e) =
      silent_as x (tree.object_pat (spanned c d) (listed xs)) e (listed_silent (PatternPropertyRule In p (with_in k)) (pattern_property_silent p (with_in k)) true xs (after c) m r)

  pattern_element_silent : {p : Purpose} {k : Code} {x : Tree} {c d : Place} → PatternElementRule In p k x c d → Silent x
  pattern_element_silent (patterns.bare_rule r i) = pattern_silent r
  pattern_element_silent {k = k} {x = x} {c = c} {d = d} (patterns.initialized_rule y z m r i s e) =
      silent_as x (tree.assign_pat (spanned c d) y z) e (both_silent y z (pattern_silent r) (small (expr_goal assignment (with_in k) z (after m) d) s))

  unary_silent : (k : Code) (x : Tree) (c d : Place) → UnaryRule In k x c d → Silent x
  unary_silent k x c d (expressions.operand_rule r) = left_silent r.0
  unary_silent k x c d (expressions.unary_rule op y i r e) = silent_as x (tree.unary (spanned c d) op y) e (small (expr_goal unary k y (after c) d) r)
  unary_silent k x c d (expressions.prefix_rule op y i r t e) = silent_as x (tree.update (spanned c d) op true y) e (small (expr_goal unary k y (after c) d) r)
  unary_silent k x c d (expressions.postfix_rule op y m r t b i n e) = silent_as x (tree.update (spanned c d) op false y) e (left_silent r.0)
  unary_silent k x c d (expressions.await_rule y a m r e) = silent_as x (tree.await (spanned c d) y) e (small (expr_goal unary k y (after c) d) r)

  binary_silent : {k : Code} {n : ℕ} {x : Tree} {c d : Place} → BinaryRule In k n x c d → Silent x
  binary_silent {k = k} {x = x} {c = c} {d = d} (expressions.single_rule r) = unary_silent k x c d r
  binary_silent {k = k} {x = x} {c = c} {d = d} (expressions.left_rule op y z m b g i r o s u v e) =
      silent_as x (tree.bin (spanned c d) op y z) e (both_silent y z (binary_silent r) (small _ s))
  binary_silent {k = k} {x = x} {c = c} {d = d} (expressions.power_rule y z m b r u i s e) =
      silent_as x (tree.bin (spanned c d) binary.Exp y z) e (both_silent y z (unary_silent k y c m r) (small _ s))
  binary_silent {k = k} {x = x} {c = c} {d = d} (expressions.private_in_rule y z m b g r i s e) = silent_as x (tree.bin (spanned c d) binary.In y z) e (both_silent y z (λ _. ap notes r.is) (small _ s))

  -- the parameters of an arrow, and the whole, whose body has none in module code
  arrow_head_silent : (k : Code) (ps : List Tree) (c d : Place) → ArrowHeadRule In k ps c d → AllSilent ps
  arrow_head_silent k ps c d (expressions.name_head p r i e) h =
      let g = sym (ap (λ l. all_supported_in true (trees l)) e) ∙ h in
      ap (λ l. all_notes (trees l)) e ∙ joined (notes p) [] (small (pattern_goal binding k p c d) r (and_yes (supported_in true p) _ g).0) refl
  arrow_head_silent k ps c d (expressions.parameters_head r) h =
      listed_silent (PatternItemRule In binding (with_in k)) (pattern_item_silent binding (with_in k)) true ps (after c) r.close r.reads_patterns h

  arrow_silent : (k : Code) (a : Bool) (ps : List Tree) (y : Tree) (s : Span) (c d : Place) → ArrowHeadRule In k ps c d → Silent (tree.arrow s (listed ps) y a)
  arrow_silent k a ps y s c d r h =
      let g = and_yes (supported_in true (listed ps) && supported_in true y) _ h in
      joined (notes (listed ps)) (notes y) (arrow_head_silent k ps c d r (and_yes (supported_in true (listed ps)) _ g.0).0)
      (clean_is (notes y) g.1)

  -- ---- members of classes: their functions and blocks have none in module code

  key_is_public : {k : Code} {x : Tree} {c d : Place} → KeyRule In k x c d → is_private x ≡ false
  key_is_public (parts.word_key text s r e) = ap is_private e
  key_is_public (parts.string_key value raw s r e) = ap is_private e
  key_is_public (parts.number_key raw s r e) = ap is_private e
  key_is_public (parts.big_int_key raw s r e) = ap is_private e
  key_is_public (parts.computed_key r) = ap is_private r.is

  method_is_silent : (key fn : Tree) (b : Bool) → (b ≡ true → notes key ≡ []) → b && (is_supported_method_in true fn && has_no_note fn) ≡ true → method_notes (notes key) fn ≡ []
  method_is_silent key fn b q h =
      let i = and_yes (is_supported_method_in true fn) _ (and_yes b _ h).1 in method_joined (notes key) fn (method_is_function true fn i.0) (q (and_yes b _ h).0) (clean_is (notes fn) i.1)

  method_silent : {k : Code} (s : Span) (key fn : Tree) (form : MethodKind) (st : Bool) {c d : Place} → MemberKeyRule In k key c d → Silent (method_member s key fn form st)
  method_silent s key fn form st (classes.member_key r) =
      silent_as _ (tree.method s key fn form st) (ap (λ b. if b then tree.private_method s key fn form st else tree.method s key fn form st) (key_is_public r))
      (method_is_silent key fn (is_supported_key_in true key) (key_silent r))
  method_silent s key fn form st (classes.private_key t word text r e i) =
      silent_as _ (tree.private_method s key fn form st) (ap (λ b. if b then tree.private_method s key fn form st else tree.method s key fn form st) (ap is_private e))
      (method_is_silent key fn (is_supported_property_in true key) (λ _. ap notes e))

  sole : (a b : Bool) → b ≡ false → (a || b) ≡ true → a ≡ true
  sole true b e h = refl
  sole false b e h = sym e ∙ h

  field_is_silent : (ds key value : Tree) (b : Bool) → (b ≡ true → notes key ≡ []) → Silent ds → Silent value → supported_in true ds && (b && supported_in true value) ≡ true → notes ds ++ notes key ++ notes value ≡ []
  field_is_silent ds key value b q u v h =
      let g = and_yes (supported_in true ds) _ h in
      let i = and_yes b _ g.1 in
      joined (notes ds ++ notes key) (notes value) (joined (notes ds) (notes key) (u g.0) (q i.0)) (v i.1)

  field_silent : {k : Code} (s : Span) (key value : Tree) (st accessor : Bool) (ds : Tree) {c d : Place} → MemberKeyRule In k key c d → Silent ds → Silent value → Silent (field_member s key value st accessor ds)
  field_silent s key value st true ds (classes.member_key r) u v h =
      field_is_silent ds key value (is_supported_key_in true key || is_private key) (λ i. key_silent r (sole (is_supported_key_in true key) (is_private key) (key_is_public r) i)) u v h
  field_silent s key value st true ds (classes.private_key t word text r e i) u v h =
      field_is_silent ds key value (is_supported_key_in true key || is_private key) (λ _. ap notes e) u v h
  field_silent s key value st false ds (classes.member_key r) u v h =
      silent_as _ (tree.class_prop s key value st ds) (ap (λ b. if b then tree.private_prop s key value st ds else tree.class_prop s key value st ds) (key_is_public r))
      (field_is_silent ds key value (is_supported_key_in true key) (key_silent r) u v) h
  field_silent s key value st false ds (classes.private_key t word text r e i) u v h =
      silent_as _ (tree.private_prop s key value st ds) (ap (λ b. if b then tree.private_prop s key value st ds else tree.class_prop s key value st ds) (ap is_private e))
      (field_is_silent ds key value (is_supported_property_in true key) (λ _. ap notes e) u v) h

  value_silent : {k : Code} {start : Place} {x : Tree} {c d : Place} → FieldValueRule In k start x c d → Silent x
  value_silent (classes.no_value a b i n e) h = ap notes e
  value_silent {k = k} {x = x} {c = c} {d = d} (classes.a_value i r) h = small (expr_goal assignment (with_in k) x (after c) d) r h

  assignment_silent : (k : Code) (x : Tree) (c d : Place) → AssignmentRule In k x c d → Silent x
  assignment_silent k x c d (expressions.operators_rule r s) = binary_silent r
  assignment_silent k x c d (expressions.conditional_rule t y z i j r q a b s u e) = silent_as x (tree.cond (spanned c d) t y z) e (λ h.
      let g = and_yes (supported_in true t) _ h in
      let f = and_yes (supported_in true y) _ g.1 in
      joined (notes t ++ notes y) (notes z) (joined (notes t) (notes y) (binary_silent r g.0) (small (expr_goal assignment (with_in k) y (after i) j) a f.0))
      (small (expr_goal assignment k z (after j) d) s f.1))
  assignment_silent k x c d (expressions.assign_rule op y z m r t a s e) =
      silent_as x (tree.assign (spanned c d) op y z) e (both_silent y z (left_silent r.0) (small (expr_goal assignment k z (after m) d) s))
  assignment_silent k x c d (expressions.destructuring_rule y z m r t a s e) =
      silent_as x (tree.assign (spanned c d) assign.Assign y z) e (both_silent y z (pattern_silent r) (small (expr_goal assignment k z (after m) d) s))
  assignment_silent k x c d (expressions.arrow_rule a ps y i j r s t b u e) = silent_as x (tree.arrow (spanned c d) (listed ps) y a) e (arrow_silent k a ps y (spanned c d) i j s)
  assignment_silent k x c d (expressions.bare_yield_rule g i n s e) = λ h. ap notes e
  assignment_silent k x c d (expressions.yield_rule y g i b s r e) = silent_as x (tree.yield (spanned c d) y false) e (small (expr_goal assignment k y (after c) d) r)
  assignment_silent k x c d (expressions.delegate_rule y g i b m r e) = silent_as x (tree.yield (spanned c d) y true) e (small (expr_goal assignment k y (after (after c)) d) r)

  expression_silent : (k : Code) (x : Tree) (c d : Place) → ExpressionRule In k x c d → Silent x
  expression_silent k x c d (expressions.assignment_rule r comma) = assignment_silent k x c d r
  expression_silent k x c d (expressions.sequence_rule y z zs rs e) =
      silent_as x (tree.seq (spanned c d) (listed (y ∷ z ∷ zs))) e (separated_silent (AssignmentRule In k) (assignment_silent k) (y ∷ z ∷ zs) c d rs)

  -- ---- decorators

  chain_silent : {k : Code} {x : Tree} {c d : Place} → ChainRule In k x c d → Silent x
  chain_silent (decorators.name_rule text s r e) = λ h. ap notes e
  chain_silent {x = x} {c = c} {d = d} (decorators.member_rule y p m r a i e) = silent_as x (tree.member (spanned c d) y p) e (λ h.
      let g = and_yes (supported_in true y) _ h in joined (notes y) (notes p) (chain_silent r g.0) (access_silent a g.1))
  chain_silent {x = x} {c = c} {d = d} (decorators.call_rule y z m r a e) = silent_as x (tree.call (spanned c d) y z) e (both_silent y z (chain_silent r) (arguments_silent a))

  decorated_silent : {k : Code} {x : Tree} {c d : Place} → DecoratedRule In k x c d → Silent x
  decorated_silent {k = k} {x = x} {c = c} (decorators.group_rule r i) = expression_silent (with_in k) x (after c) r.close r.reads_expression
  decorated_silent {k = k} {x = x} {c = c} {d = d} (decorators.group_call_rule y z m r a e) =
      silent_as x (tree.call (spanned (after c) d) y z) e (both_silent y z (expression_silent (with_in k) y (after c) r.close r.reads_expression) (arguments_silent a))
  decorated_silent (decorators.chain_rule r i j) = chain_silent r

  decorator_silent : (k : Code) (x : Tree) (c d : Place) → DecoratorRule In k x c d → Silent x
  decorator_silent k x c d (classes.decorator_rule y i r e) = silent_as x (tree.decorator (spanned c d) y) e (small (decorator_goal k y (after c) d) r)

  each_decorator_silent : (k : Code) (xs : List Tree) (c d : Place) → ReadsEach (DecoratorRule In k) xs c d → AllSilent xs
  each_decorator_silent k [] c d r h = refl
  each_decorator_silent k (x ∷ xs) c d (m, r, rs) h =
      let g = and_yes (supported_in true x) _ h in joined (notes x) _ (decorator_silent k x c m r g.0) (each_decorator_silent k xs m d rs g.1)

  decorators_silent : {k : Code} {x : Tree} {c d : Place} → DecoratorsRule In k x c d → Silent x
  decorators_silent (classes.no_decorators n e) = λ h. ap notes e
  decorators_silent {k = k} {x = x} {c = c} {d = d} (classes.some_decorators y ys s r e) = silent_as x (listed (y ∷ ys)) e (each_decorator_silent k (y ∷ ys) c d r)

  -- ---- members, and the decorators before them

  core_silent : {k : Code} {st accessor : Bool} {ds x : Tree} {c m d : Place} → CoreRule In k st accessor ds x c m d → Silent ds → Silent x
  core_silent {x = x} {c = c} {d = d} (classes.constructor_rule key ps body i j f a n r b p q e) u = silent_as x (tree.constructor (spanned c d) key (parameters ps) body) e (λ h.
      let g = and_yes (is_supported_key_in true key) _ h in
      let l = and_yes (has_no_note (parameters ps)) (has_no_note body) (and_yes (supported_in true (parameters ps) && supported_in true body) _ g.1).1 in
      joined (notes key ++ notes (parameters ps)) (notes body) (joined (notes key) (notes (parameters ps)) (key_silent r g.0) (clean_is (notes (parameters ps)) l.0)) (clean_is (notes body) l.1))
  core_silent {st = st} {ds = ds} {x = x} {c = c} {d = d} (classes.method_rule form a g key ps body b r i e) u =
      silent_as x _ e (method_silent (spanned c d) key (tree.function (spanned c d) ds (parameters ps) body a g) form st r.reads_key)
  core_silent {st = st} {accessor = accessor} {ds = ds} {x = x} {c = c} {d = d} (classes.field_rule key value i j r b v g e) u =
      silent_as x _ e (field_silent (spanned c d) key value st accessor ds r u (value_silent v))
  core_silent {x = x} {c = c} {d = d} (classes.static_block_rule body f a n r e) u = silent_as x (tree.static_block (spanned c d) body) e (λ h. clean_is (notes body) (and_yes (supported_in true body) _ h).1)

  member_silent : (k : Code) (x : Tree) (c d : Place) → MemberRule In k x c d → Silent x
  member_silent k x c d (classes.empty_rule i n e) h = ap notes e
  member_silent k x c d (classes.member_rule ds m r s) h = core_silent s (decorators_silent r) h

  class_silent : (class : Class) (k : Code) (x : Tree) (c d : Place) → ExprRule In class k x c d → Silent x
  class_silent expression k x c d r = expression_silent k x c d r
  class_silent assignment k x c d r = assignment_silent k x c d r
  class_silent (operator n) k x c d r = binary_silent r.0
  class_silent unary k x c d r = unary_silent k x c d r.0
  class_silent left_side k x c d r = left_silent r.0
  class_silent callee k x c d r = left_silent r.0.0

silent : (n : ℕ) (g : Goal) → Reads n g → SilentGoal g
silent zero g r = absurd r
silent (suc n) (expr_goal class k x c d) r = class_silent (Reads n) (silent n) class k x c d r
silent (suc n) (callee_goal k x c d) r = left_silent (Reads n) (silent n) r.0
silent (suc n) (pattern_goal p k x c d) r = pattern_silent (Reads n) (silent n) r
silent (suc n) (element_goal p k x c d) r = pattern_element_silent (Reads n) (silent n) r
silent (suc n) (stmt_goal k at x c d) r = tt
silent (suc n) (member_goal k x c d) r = member_silent (Reads n) (silent n) k x c d r
silent (suc n) (decorator_goal k x c d) r = decorated_silent (Reads n) (silent n) r
silent (suc n) (using_goal k x c d) r = tt
silent (suc n) (attributes_goal k x c d) r = tt
silent (suc n) (item_goal k x c d) r = tt

in_module : {m : Bool} (x : Tree) → m ≡ true → supported_in m x ≡ true → supported_in true x ≡ true
in_module x o h = subst (λ b. supported_in b x ≡ true) o h

pub expr_unnoted : (n : ℕ) (class : Class) (k : Code) (x : Tree) (c d : Place) → k.flags.module ≡ true → Reads n (expr_goal class k x c d) → supported_in k.flags.module x ≡ true → notes x ≡ []
expr_unnoted n class k x c d o r h = silent n (expr_goal class k x c d) r (in_module x o h)

pub pattern_unnoted : (n : ℕ) (p : Purpose) (k : Code) (x : Tree) (c d : Place) → k.flags.module ≡ true → Reads n (pattern_goal p k x c d) → supported_in k.flags.module x ≡ true → notes x ≡ []
pattern_unnoted n p k x c d o r h = silent n (pattern_goal p k x c d) r (in_module x o h)

pub parameter_unnoted : (n : ℕ) (k : Code) (x : Tree) (c d : Place) → k.flags.module ≡ true → PatternItemRule (Reads n) binding k x c d → supported_in k.flags.module x ≡ true → notes x ≡ []
parameter_unnoted n k x c d o (pattern_items.element_rule r) h = silent n (element_goal binding k x c d) r (in_module x o h)
parameter_unnoted n k x c d o (pattern_items.rest_rule y i r e) h = ap notes e ∙ silent n (pattern_goal binding k y (after c) d) r (supported_as _ x (tree.rest_pat (spanned c d) y) e (in_module x o h))

-- an object that stands as the attributes of an import
pub attributes_unnoted : (n : ℕ) (k : Code) (x : Tree) (c d : Place) → k.flags.module ≡ true → Reads n (attributes_goal k x c d) → supported_in k.flags.module x ≡ true → notes x ≡ []
attributes_unnoted zero k x c d o r h = absurd r
attributes_unnoted (suc n) k x c d o r h = primary_silent (Reads n) (silent n) k x c d r.0 (in_module x o h)

-- a class, with its name
pub class_unnoted : (n : ℕ) (k : Code) (name x : Tree) (c d : Place) → k.flags.module ≡ true → ClassRule (Reads n) k c (listed []) name x c d → supported_in k.flags.module (tree.class_decl name x) ≡ true
    → notes name ++ notes x ≡ []
class_unnoted n k name x c d o r h = named_class_silent (Reads n) (silent n) r (in_module (tree.class_decl name x) o h)

-- decorators
pub decorators_unnoted : (n : ℕ) (k : Code) (x : Tree) (c d : Place) → k.flags.module ≡ true → DecoratorsRule (Reads n) k x c d → supported_in k.flags.module x ≡ true → notes x ≡ []
decorators_unnoted n k x c d o r h = decorators_silent (Reads n) (silent n) r (in_module x o h)

-- ---- an expression that begins with `import`

module _ (In : Goal → Type 0) where
  left_unnamed : {k : Code} {x : Tree} {c d : Place} → LeftSideRule In k x c d → supported_in k.flags.module x ≡ true → sees kind.Import c ≡ true → is_ident x ≡ false
  left_unnamed {k = k} {x = x} {c = c} {d = d} (sides.primary_rule (sides.name_rule text s r j e)) h i =
      absurd (true≢false (sym i ∙ name_begins k.flags r.word s c d r.reads_word (name_is_name k text s c d r)))
  left_unnamed (sides.primary_rule (sides.string_rule value raw s r e)) h i = ap is_ident e
  left_unnamed (sides.primary_rule (sides.true_rule s r e)) h i = ap is_ident e
  left_unnamed (sides.primary_rule (sides.false_rule s r e)) h i = ap is_ident e
  left_unnamed (sides.primary_rule (sides.null_rule s r e)) h i = ap is_ident e
  left_unnamed (sides.primary_rule (sides.number_rule raw s r e)) h i = ap is_ident e
  left_unnamed (sides.primary_rule (sides.big_int_rule raw s r e)) h i = ap is_ident e
  left_unnamed (sides.primary_rule (sides.regex_rule exp flags s r e)) h i = ap is_ident e
  left_unnamed (sides.primary_rule (sides.template_rule es qs r e)) h i = ap is_ident e
  left_unnamed (sides.primary_rule (sides.this_rule j n e)) h i = ap is_ident e
  left_unnamed (sides.primary_rule (sides.array_rule xs m j r l n e)) h i = ap is_ident e
  left_unnamed (sides.primary_rule (sides.object_rule xs m j r l n e)) h i = ap is_ident e
  left_unnamed (sides.primary_rule (sides.function_rule name y r e)) h i = ap is_ident e
  left_unnamed (sides.primary_rule (sides.class_rule name y r e)) h i = ap is_ident e
  left_unnamed (sides.primary_rule (sides.paren_rule y m j r l n e)) h i = ap is_ident e
  left_unnamed (sides.import_meta_rule a j w n m e) h i = ap is_ident e
  left_unnamed (sides.new_target_rule H G W N e) h i = ap is_ident e
  left_unnamed (sides.member_rule y p m r n a e) h i = ap is_ident e
  left_unnamed (sides.super_property_rule p a r j e) h i = ap is_ident e
  left_unnamed (sides.call_rule y z m r n a e) h i = ap is_ident e
  left_unnamed (sides.tagged_rule t es qs m r N q e) h i = ap is_ident e
  left_unnamed (sides.chain_rule o b m r H q e) h i = ap is_ident e
  left_unnamed (sides.linked_rule o b m r N q e) h i = ap is_ident e
  left_unnamed (sides.super_call_rule z a r e) h i = ap is_ident e
  left_unnamed (sides.import_call_rule z a r e) h i = ap is_ident e
  left_unnamed (sides.new_rule y z m a r b e) h i = ap is_ident e
  left_unnamed (sides.bare_new_rule y a r e) h i = ap is_ident e

  unary_unnamed : {k : Code} {x : Tree} {c d : Place} → UnaryRule In k x c d → supported_in k.flags.module x ≡ true → sees kind.Import c ≡ true → is_ident x ≡ false
  unary_unnamed (expressions.operand_rule r) h i = left_unnamed r.0 h i
  unary_unnamed (expressions.unary_rule op y a r e) h i = ap is_ident e
  unary_unnamed (expressions.prefix_rule op y a r t e) h i = ap is_ident e
  unary_unnamed (expressions.postfix_rule op y m r t b a n e) h i = ap is_ident e
  unary_unnamed (expressions.await_rule y a m r e) h i = ap is_ident e

  binary_unnamed : {k : Code} {n : ℕ} {x : Tree} {c d : Place} → BinaryRule In k n x c d → supported_in k.flags.module x ≡ true → sees kind.Import c ≡ true → is_ident x ≡ false
  binary_unnamed (expressions.single_rule r) h i = unary_unnamed r h i
  binary_unnamed (expressions.left_rule op y z m b g a r o s u v e) h i = ap is_ident e
  binary_unnamed (expressions.power_rule y z m b r u a s e) h i = ap is_ident e
  binary_unnamed (expressions.private_in_rule y z m l b r H q e) h i = ap is_ident e

  assignment_unnamed : {k : Code} {x : Tree} {c d : Place} → AssignmentRule In k x c d → supported_in k.flags.module x ≡ true → sees kind.Import c ≡ true → is_ident x ≡ false
  assignment_unnamed (expressions.operators_rule r s) h i = binary_unnamed r h i
  assignment_unnamed (expressions.conditional_rule t y z a j r q o b s u e) h i = ap is_ident e
  assignment_unnamed (expressions.assign_rule op y z m r t a b e) h i = ap is_ident e
  assignment_unnamed (expressions.destructuring_rule y z m r t a b e) h i = ap is_ident e
  assignment_unnamed (expressions.arrow_rule a ps y o j r s t b u e) h i = ap is_ident e
  assignment_unnamed (expressions.bare_yield_rule g a n s e) h i = ap is_ident e
  assignment_unnamed (expressions.yield_rule y g a b s r e) h i = ap is_ident e
  assignment_unnamed (expressions.delegate_rule y g a b m r e) h i = ap is_ident e

  expression_unnamed : {k : Code} {x : Tree} {c d : Place} → ExpressionRule In k x c d → supported_in k.flags.module x ≡ true → sees kind.Import c ≡ true → is_ident x ≡ false
  expression_unnamed (expressions.assignment_rule r e) h i = assignment_unnamed r h i
  expression_unnamed (expressions.sequence_rule y z zs r e) h i = ap is_ident e

pub import_unnamed : (n : ℕ) (k : Code) (x : Tree) (c d : Place) → ReadsClass n expression k x c d → sees kind.Import c ≡ true → is_ident x ≡ false
import_unnamed zero k x c d r i = absurd r.0
import_unnamed (suc n) k x c d r i = expression_unnamed (Reads n) r.0 r.1 i

-- what is no bare name is not noted
unnamed_unnoted : (x : Tree) → is_ident x ≡ false → statement_note x ≡ []
unnamed_unnoted (tree.ident s text) h = cc
unnamed_unnoted _ h = refl

pub import_unnoted : (n : ℕ) (k : Code) (x : Tree) (c d : Place) → ReadsClass n expression k x c d → begins_import_expression c ≡ true → statement_note x ≡ []
unfolding begins_import_expression
import_unnoted n k x c d r h = unnamed_unnoted x (import_unnamed n k x c d r (and_yes (sees kind.Import c) _ h).0)
