-- Lists, keys, accesses, arguments, blocks, functions and classes: what they ask of their parts, and that they are as deep as these.
use Rattle.std.proofs.Common.{◌≡◌, ℕ, suc, max, Bool, true, false, List, [], ◌∷◌, map, if◌then◌else◌, refl, ap, ◌∙◌, arith}
use Rattle.swc_ecma_parser_common.specs.declared.span.Span.{Span}
use Rattle.swc_ecma_parser_input.specs.Place.{Place, after}
use Rattle.swc_ecma_parser_model.specs.declared.leaves.MethodKind.{MethodKind}
use Rattle.swc_ecma_parser_model.specs.Tree as tree
use Rattle.swc_ecma_parser_model.specs.Tree.{Tree, trees}
use Rattle.swc_ecma_parser_model.specs.Kinds.{is_block, is_computed}
use Rattle.swc_ecma_parser_grammar.specs.Looks.{spanned}
use Rattle.swc_ecma_parser_grammar.specs.Names.{Code}
use Rattle.swc_ecma_parser_grammar.specs.Depth.{depth, depths, counted, flat}
use Rattle.swc_ecma_parser_grammar.specs.declared.position.Position.{Position}
use Rattle.swc_ecma_parser_grammar.specs.language.PatternItems.{PatternItemRule}
use Rattle.swc_ecma_parser_grammar.specs.language.Goals.{Goal, Purpose, binding, expr_goal, expression, assignment, left_side, pattern_goal, element_goal, stmt_goal, member_goal, decorator_goal}
use Rattle.swc_ecma_parser_grammar.specs.language.Contexts.{in_class, with_in}
use Rattle.swc_ecma_parser_grammar.specs.language.Lists.{ReadsEach, ReadsListed, Elements, no_elements, hole, last_element, more_elements, ReadsSeparated}
use Rattle.swc_ecma_parser_grammar.specs.language.Parts as parts
use Rattle.swc_ecma_parser_grammar.specs.language.Parts.{KeyRule, AccessRule, ElementRule, ArgumentsRule, is_private}
use Rattle.swc_ecma_parser_grammar.specs.language.Items.{nested_item, directed, directs_on, ItemsRule, BlockRule}
use Rattle.swc_ecma_parser_grammar.specs.language.PatternItems as pattern_items
use Rattle.swc_ecma_parser_grammar.specs.Parameters.{parameter, parameters}
use Rattle.swc_ecma_parser_grammar.specs.language.Functions.{ParametersRule, FunctionParts, FunctionRule, MethodRule}
use Rattle.swc_ecma_parser_grammar.specs.language.Templates as templates
use Rattle.swc_ecma_parser_grammar.specs.language.Templates.{TemplateRest, TemplateRule}
use Rattle.swc_ecma_parser_grammar.specs.language.Links as links
use Rattle.swc_ecma_parser_grammar.specs.language.Links.{LinkRule}
use Rattle.swc_ecma_parser_grammar.specs.language.Classes as classes
use Rattle.swc_ecma_parser_grammar.specs.language.Classes.{DecoratorRule, DecoratorsRule, MemberKeyRule, method_member, field_member, FieldValueRule, CoreRule, MemberRule, HeritageRule, ClassRule}
use Rattle.swc_ecma_parser_grammar.proofs.language.Asked.{Inside, Level, Fitting, nothing, part, joined, both, turned, sized, leaf, over, same}

-- a key, and what stands behind an object, count only in brackets
abbrev pub key_depth : Tree → ℕ
key_depth x = counted (is_computed x) (depth x)

-- a block in the place of a body
abbrev pub body_depth : Tree → ℕ
body_depth x = flat (is_block x) (depth x)

-- a link of an optional chain, which is as deep as its object, or one deeper than what stands in it
pub record LinkInside (In Out : Goal → Type 0) (k : Code) (behind_question : Bool) (whole : Span) (object base : Tree) (c d : Place) : Type 0 where
  pub within : ℕ
  pub inside : Inside In Out (LinkRule Out k behind_question whole object base c d) within
  pub base_depth : depth base ≡ max (depth object) (suc within)

-- ---- lists

module _ {In Out : Goal → Type 0} (Reads Other : Tree → Place → Place → Type 0) (inner : (x : Tree) (c d : Place) → Reads x c d → Inside In Out (Other x c d) (depth x)) where
  pub each_inside : (xs : List Tree) (c d : Place) → ReadsEach Reads xs c d → Inside In Out (ReadsEach Other xs c d) (depths (trees xs))
  each_inside [] c d r = nothing r
  each_inside (x ∷ xs) c d (m, r, rs) = joined (inner x c m r) (each_inside xs m d rs) (λ h hs. (m, h, hs))

  pub listed_inside : (commas : Bool) (xs : List Tree) (c d : Place) → ReadsListed commas Reads xs c d → Inside In Out (ReadsListed commas Other xs c d) (depths (trees xs))
  listed_inside commas [] c d r = nothing r
  listed_inside commas (x ∷ []) c d (m, r, l) = sized (turned (inner x c m r) (λ h. (m, h, l))) (omega arith)
  listed_inside commas (x ∷ y ∷ ys) c d (m, r, i, e, rs) = joined (inner x c m r) (listed_inside commas (y ∷ ys) (after m) d rs) (λ h hs. (m, h, i, e, hs))

  pub separated_inside : (xs : List Tree) (c d : Place) → ReadsSeparated Reads xs c d → Inside In Out (ReadsSeparated Other xs c d) (depths (trees xs))
  separated_inside [] c d r = absurd r
  separated_inside (x ∷ []) c d (r, e) = sized (turned (inner x c d r) (λ h. (h, e))) (omega arith)
  separated_inside (x ∷ y ∷ ys) c d (m, r, e, rs) = joined (inner x c m r) (separated_inside (y ∷ ys) (after m) d rs) (λ h hs. (m, h, e, hs))

  pub elements_inside : {xs : List Tree} {c d : Place} → Elements Reads xs c d → Inside In Out (Elements Other xs c d) (depths (trees xs))
  elements_inside (no_elements e g) = sized (nothing (no_elements e g)) (ap (λ l. depths (trees l)) e)
  elements_inside {xs = xs} {c = c} {d = d} (hole ys h r e) =
      let g : depths (trees xs) ≡ max 0 (depths (trees ys)) = ap (λ l. depths (trees l)) e in
      sized (turned (elements_inside r) (λ i. hole ys h i e)) (omega arith)
  elements_inside {xs = xs} {c = c} {d = d} (last_element y m r l e) =
      let g : depths (trees xs) ≡ max (depth y) 0 = ap (λ l. depths (trees l)) e in
      sized (turned (inner y c m r) (λ h. last_element y m h l e)) (omega arith)
  elements_inside {xs = xs} {c = c} {d = d} (more_elements y z zs m r i h rs e) =
      sized (joined (inner y c m r) (elements_inside rs) (λ j js. more_elements y z zs m j i h js e)) (ap (λ l. depths (trees l)) e)

-- parameters are as deep as their patterns
pub parameters_depth : (ps : List Tree) → depth (parameters ps) ≡ depths (trees ps)
parameters_depth [] = refl
parameters_depth (p ∷ ps) = let e : depths (trees (map parameter ps)) ≡ depths (trees ps) = parameters_depth ps in omega arith

-- a private member is as deep as another
method_depth : (s : Span) (key fn : Tree) (form : MethodKind) (is_static : Bool) → depth (method_member s key fn form is_static) ≡ max (suc (key_depth key)) (depth fn)
method_depth s key fn form is_static = by_key (is_private key)
  where
    by_key : (b : Bool) → depth (if b then tree.private_method s key fn form is_static else tree.method s key fn form is_static) ≡ max (suc (key_depth key)) (depth fn)
    by_key true = refl
    by_key false = refl

field_depth : (s : Span) (key value : Tree) (is_static is_accessor : Bool) (decorators : Tree)
    → depth (field_member s key value is_static is_accessor decorators) ≡ suc (max (depth decorators) (max (key_depth key) (depth value)))
field_depth s key value is_static true decorators = refl
field_depth s key value is_static false decorators = by_key (is_private key)
  where
    by_key : (b : Bool) → depth (if b then tree.private_prop s key value is_static decorators else tree.class_prop s key value is_static decorators)
        ≡ suc (max (depth decorators) (max (key_depth key) (depth value)))
    by_key true = refl
    by_key false = refl

module _ (In Out : Goal → Type 0) (fitting : (g : Goal) → In g → Fitting g) where
  -- ---- keys, accesses, arguments

  pub key_inside : {k : Code} {x : Tree} {c d : Place} → KeyRule In k x c d → Inside In Out (KeyRule Out k x c d) (key_depth x)
  key_inside (parts.word_key text s r e) = sized (nothing (parts.word_key text s r e)) (ap key_depth e)
  key_inside (parts.string_key value raw s r e) = sized (nothing (parts.string_key value raw s r e)) (ap key_depth e)
  key_inside (parts.number_key raw s r e) = sized (nothing (parts.number_key raw s r e)) (ap key_depth e)
  key_inside (parts.big_int_key raw s r e) = sized (nothing (parts.big_int_key raw s r e)) (ap key_depth e)
  key_inside {k = k} {c = c} (parts.computed_key r) =
      sized
      (part (expr_goal assignment (with_in k) r.key (after c) r.close) r.reads_key
      (λ h. parts.computed_key (record { key = r.key; close = r.close; opens = r.opens; reads_key = h; closes = r.closes; next = r.next; is = r.is })))
      (ap key_depth r.is)

  pub access_inside : {k : Code} {x : Tree} {c d : Place} → AccessRule In k x c d → Inside In Out (AccessRule Out k x c d) (key_depth x)
  access_inside (parts.word_access text s h r e) = sized (nothing (parts.word_access text s h r e)) (ap key_depth e)
  access_inside (parts.private_access h r) = sized (nothing (parts.private_access h r)) (ap key_depth r.is)
  access_inside {k = k} {c = c} (parts.bracket_access e m h r i g j) =
      sized (part (expr_goal expression (with_in k) e (after c) m) r (λ o. parts.bracket_access e m h o i g j)) (ap key_depth j)

  pub element_inside : (k : Code) (x : Tree) (c d : Place) → ElementRule In k x c d → Inside In Out (ElementRule Out k x c d) (depth x)
  element_inside k x c d (parts.plain_element e r i) = sized (part (expr_goal assignment (with_in k) e c d) r (λ o. parts.plain_element e o i)) (ap depth i)
  element_inside k x c d (parts.spread_element e h r i) = sized (part (expr_goal assignment (with_in k) e (after c) d) r (λ o. parts.spread_element e h o i)) (ap depth i)

  pub arguments_inside : {k : Code} {commas : Bool} {x : Tree} {c d : Place} → ArgumentsRule In k commas x c d → Inside In Out (ArgumentsRule Out k commas x c d) (depth x)
  arguments_inside {k = k} {commas = commas} {c = c} r =
      sized
      (turned (listed_inside (ElementRule In k) (ElementRule Out k) (element_inside k) commas r.elements (after c) r.close r.reads_elements)
      (λ h. record { elements = r.elements; close = r.close; opens = r.opens; reads_elements = h; closes = r.closes; next = r.next; is = r.is }))
      (ap depth r.is)

  -- ---- statements one behind another

  pub items_inside : (k : Code) (directives : Bool) (at : Position) (xs : List Tree) (c d : Place) → ItemsRule In k directives at xs c d
      → Inside In Out (ItemsRule Out k directives at xs c d) (depths (trees xs))
  items_inside k directives at [] c d r = nothing r
  items_inside k directives at (x ∷ xs) c d (m, r, rs) =
      joined (part (stmt_goal k at x c m) r (λ o. o)) (items_inside (directed k directives x) (directs_on directives x) at xs m d rs) (λ h hs. (m, h, hs))

  -- a block as a body is as deep as its statements, and one deeper as a statement
  block_items : {k : Code} {directives : Bool} {x : Tree} {c d : Place} (r : BlockRule In k directives x c d) → Inside In Out (BlockRule Out k directives x c d) (depths (trees r.items))
  block_items {k = k} {directives = directives} {c = c} r =
      turned (items_inside k directives nested_item r.items (after c) r.close r.reads_items)
      (λ h. record { items = r.items; close = r.close; opens = r.opens; reads_items = h; closes = r.closes; next = r.next; is = r.is })

  pub block_inside : {k : Code} {directives : Bool} {x : Tree} {c d : Place} → BlockRule In k directives x c d → Inside In Out (BlockRule Out k directives x c d) (body_depth x)
  block_inside r = sized (block_items r) (ap body_depth r.is)

  pub block_level : {k : Code} {directives : Bool} {x : Tree} {c d : Place} → BlockRule In k directives x c d → Level In Out (BlockRule Out k directives x c d) (depth x)
  block_level r = over (block_items r) (λ b. b) (ap depth r.is)

  -- ---- templates and links

  rest_inside : {tagged : Bool} {k : Code} {es qs : List Tree} {c d : Place} → TemplateRest In tagged k es qs c d → Inside In Out (TemplateRest Out tagged k es qs c d) (depths (trees es))
  rest_inside {k = k} {es = es} {c = c} (templates.last_text y q m r t e i) =
      let g : depths (trees es) ≡ max (depth y) 0 = ap (λ l. depths (trees l)) e in
      sized (part (expr_goal expression (with_in k) y c m) r (λ o. templates.last_text y q m o t e i)) (omega arith)
  rest_inside {k = k} {c = c} (templates.more_texts y q ys qs m n r t rs e i) =
      sized (joined (part (expr_goal expression (with_in k) y c m) r (λ o. o)) (rest_inside rs) (λ o os. templates.more_texts y q ys qs m n o t os e i)) (ap (λ l. depths (trees l)) e)

  pub template_inside : {tagged : Bool} {k : Code} {es qs : List Tree} {c d : Place} → TemplateRule In tagged k es qs c d → Inside In Out (TemplateRule Out tagged k es qs c d) (depths (trees es))
  template_inside (templates.only_text q t e i) = sized (nothing (templates.only_text q t e i)) (ap (λ l. depths (trees l)) e)
  template_inside (templates.first_text q qs m t r i) = turned (rest_inside r) (λ o. templates.first_text q qs m t o i)

  pub link_inside : {k : Code} {behind_question : Bool} {s : Span} {object base : Tree} {c d : Place} → LinkRule In k behind_question s object base c d
      → LinkInside In Out k behind_question s object base c d
  link_inside (links.name_link text w h r e) = record { within = 0; inside = nothing (links.name_link text w h r e); base_depth = ap depth e }
  link_inside (links.private_link name h r e) =
      record { within = key_depth name; inside = sized (nothing (links.private_link name h r e)) (ap key_depth r.is); base_depth = ap depth e }
  link_inside (links.access_link property h r e) =
      record { within = key_depth property; inside = turned (access_inside r) (λ o. links.access_link property h o e); base_depth = ap depth e }
  link_inside (links.arguments_link args r e) = record { within = depth args; inside = turned (arguments_inside r) (λ o. links.arguments_link args o e); base_depth = ap depth e }

  -- ---- functions

  pub pattern_item_inside : (p : Purpose) (k : Code) (x : Tree) (c d : Place) → PatternItemRule In p k x c d → Inside In Out (PatternItemRule Out p k x c d) (depth x)
  pattern_item_inside p k x c d (pattern_items.element_rule r) = part (element_goal p k x c d) r pattern_items.element_rule
  pattern_item_inside p k x c d (pattern_items.rest_rule y h r e) =
      let g : depth x ≡ max 1 (depth y) = ap depth e in
      let f = (fitting (pattern_goal p k y (after c) d) r).1 in
      sized (part (pattern_goal p k y (after c) d) r (λ o. pattern_items.rest_rule y h o e)) (omega arith)

  pub patterns_inside : {k : Code} {ps : List Tree} {c d : Place} → ParametersRule In k ps c d → Inside In Out (ParametersRule Out k ps c d) (depths (trees ps))
  patterns_inside {k = k} {ps = ps} {c = c} r =
      turned (listed_inside (PatternItemRule In binding (with_in k)) (PatternItemRule Out binding (with_in k)) (pattern_item_inside binding (with_in k)) true ps (after c) r.close r.reads_patterns)
      (λ h. record { close = r.close; opens = r.opens; reads_patterns = h; closes = r.closes; next = r.next })

  pub function_parts : {k : Code} {is_async is_generator : Bool} {ps : List Tree} {body : Tree} {c d : Place} → FunctionParts In k is_async is_generator ps body c d
      → Inside In Out (FunctionParts Out k is_async is_generator ps body c d) (max (depth (parameters ps)) (body_depth body))
  function_parts {ps = ps} r =
      joined (sized (patterns_inside r.reads_parameters) (parameters_depth ps)) (block_inside r.reads_body) (λ p b. record { middle = r.middle; reads_parameters = p; reads_body = b })

  -- the decorators of a function and of a class are read before it
  pub function_level : {Before : Type 0} {is_expression : Bool} {k : Code} {decorators name x : Tree} {c d : Place} → Inside In Out Before (depth decorators)
      → FunctionRule In is_expression k decorators name x c d → Level In Out (Before × FunctionRule Out is_expression k decorators name x c d) (depth x)
  function_level b r =
      over (both b (function_parts r.reads_parts)) (λ w. (
        w.0,
        record {
          is_async = r.is_async;
          is_generator = r.is_generator;
          patterns = r.patterns;
          body = r.body;
          word = r.word;
          behind_word = r.behind_word;
          behind_name = r.behind_name;
          reads_async = r.reads_async;
          is_function = r.is_function;
          reads_star = r.reads_star;
          reads_name = r.reads_name;
          reads_parts = w.1;
          is = r.is;
        },
      )) (ap depth r.is)

  pub method_inside : {Key Other : Tree → Place → Place → Type 0} {k : Code} {form : MethodKind} {is_async is_generator : Bool} {key : Tree} {ps : List Tree} {body : Tree} {c d : Place}
      → ((x : Tree) (i j : Place) → Key x i j → Inside In Out (Other x i j) (key_depth x)) → MethodRule In Key k form is_async is_generator key ps body c d
      → Inside In Out (MethodRule Out Other k form is_async is_generator key ps body c d) (max (key_depth key) (max (depth (parameters ps)) (body_depth body)))
  method_inside {key = key} keys r =
      joined (keys key r.behind_head r.behind_key r.reads_key) (function_parts r.reads_parts)
      (λ i p. record { behind_head = r.behind_head; behind_key = r.behind_key; reads_head = r.reads_head; reads_key = i; reads_parts = p; arity = r.arity })

  -- ---- classes

  decorator_inside : (k : Code) (x : Tree) (c d : Place) → DecoratorRule In k x c d → Inside In Out (DecoratorRule Out k x c d) (depth x)
  decorator_inside k x c d (classes.decorator_rule e h r i) = sized (part (decorator_goal k e (after c) d) r (λ o. classes.decorator_rule e h o i)) (ap depth i)

  pub decorators_inside : {k : Code} {x : Tree} {c d : Place} → DecoratorsRule In k x c d → Inside In Out (DecoratorsRule Out k x c d) (depth x)
  decorators_inside (classes.no_decorators h e) = sized (nothing (classes.no_decorators h e)) (ap depth e)
  decorators_inside {k = k} {c = c} {d = d} (classes.some_decorators y ys h rs e) =
      sized (turned (each_inside (DecoratorRule In k) (DecoratorRule Out k) (decorator_inside k) (y ∷ ys) c d rs) (λ o. classes.some_decorators y ys h o e)) (ap depth e)

  member_key_inside : (k : Code) (x : Tree) (c d : Place) → MemberKeyRule In k x c d → Inside In Out (MemberKeyRule Out k x c d) (key_depth x)
  member_key_inside k x c d (classes.member_key r) = turned (key_inside r) classes.member_key
  member_key_inside k x c d (classes.private_key s word text r e h) = sized (nothing (classes.private_key s word text r e h)) (ap key_depth e)

  value_inside : {k : Code} {start : Place} {x : Tree} {c d : Place} → FieldValueRule In k start x c d → Inside In Out (FieldValueRule Out k start x c d) (depth x)
  value_inside (classes.no_value h i j g e) = sized (nothing (classes.no_value h i j g e)) (ap depth e)
  value_inside {k = k} {x = x} {c = c} {d = d} (classes.a_value h r) = part (expr_goal assignment (with_in k) x (after c) d) r (classes.a_value h)

  heritage_inside : {k : Code} {x : Tree} {c d : Place} → HeritageRule In k x c d → Inside In Out (HeritageRule Out k x c d) (depth x)
  heritage_inside (classes.no_heritage h e) = sized (nothing (classes.no_heritage h e)) (ap depth e)
  heritage_inside {k = k} {x = x} {c = c} {d = d} (classes.heritage_rule h r) = part (expr_goal left_side k x (after c) d) r (classes.heritage_rule h)

  members_inside : (k : Code) (xs : List Tree) (c d : Place) → ReadsEach (λ y i j. In (member_goal k y i j)) xs c d
      → Inside In Out (ReadsEach (λ y i j. Out (member_goal k y i j)) xs c d) (depths (trees xs))
  members_inside k = each_inside (λ y i j. In (member_goal k y i j)) (λ y i j. Out (member_goal k y i j)) (λ y i j h. part (member_goal k y i j) h (λ o. o))

  pub class_level : {Before : Type 0} {k : Code} {start : Place} {decorators name x : Tree} {c d : Place} → Inside In Out Before (depth decorators)
      → ClassRule In k start decorators name x c d → Level In Out (Before × ClassRule Out k start decorators name x c d) (depth x)
  class_level {k = k} b r =
      over (both b (both (heritage_inside r.reads_heritage) (members_inside (with_in (in_class k)) r.members (after r.opening) r.close r.reads_members))) (λ w. (
        w.0,
        record {
          heritage = r.heritage;
          members = r.members;
          behind_name = r.behind_name;
          opening = r.opening;
          close = r.close;
          is_class = r.is_class;
          reads_name = r.reads_name;
          reads_heritage = w.1.0;
          opens = r.opens;
          reads_members = w.1.1;
          closes = r.closes;
          next = r.next;
          is = r.is;
        },
      )) (ap depth r.is)

  core_level : {Before : Type 0} {k : Code} {is_static is_accessor : Bool} {decorators x : Tree} {c m d : Place} → Inside In Out Before (depth decorators)
      → CoreRule In k is_static is_accessor decorators x c m d → Level In Out (Before × CoreRule Out k is_static is_accessor decorators x c m d) (depth x)
  core_level {decorators = decorators} {x = x} b (classes.constructor_rule key ps body i j f g e r h s t is) =
      let n : depth decorators ≡ 0 = ap depth e in
      let l = parameters_depth ps in
      let o : depth x ≡ suc (max (key_depth key) (max (depth (parameters ps)) (body_depth body))) = ap depth is in
      over (both b (both (key_inside r) (both (patterns_inside s) (block_inside t)))) (λ w. (w.0, classes.constructor_rule key ps body i j f g e w.1.0 h w.1.1.0 w.1.1.1 is)) (omega arith)
  core_level {k = k} {is_static = is_static} {decorators = decorators} {x = x} {c = c} {d = d} b (classes.method_rule form is_async is_generator key ps body f r h is) =
      let o : depth x ≡ max (suc (key_depth key)) (suc (max (depth decorators) (max (depth (parameters ps)) (body_depth body)))) =
      ap depth is ∙ method_depth (spanned c d) key (tree.function (spanned c d) decorators (parameters ps) body is_async is_generator) form is_static in
      over (both b (method_inside (member_key_inside k) r)) (λ w. (w.0, classes.method_rule form is_async is_generator key ps body f w.1 h is)) (omega arith)
  core_level {k = k} {is_static = is_static} {is_accessor = is_accessor} {decorators = decorators} {x = x} {c = c} {m = m} {d = d} b (classes.field_rule key value i j r h v e is) =
      over (both b (both (member_key_inside k key m i r) (value_inside v))) (λ w. (w.0, classes.field_rule key value i j w.1.0 h w.1.1 e is))
      (ap depth is ∙ field_depth (spanned c d) key value is_static is_accessor decorators)
  core_level {decorators = decorators} {x = x} b (classes.static_block_rule body f g e r is) =
      let n : depth decorators ≡ 0 = ap depth e in
      let o : depth x ≡ suc (body_depth body) = ap depth is in
      over (both b (block_inside r)) (λ w. (w.0, classes.static_block_rule body f g e w.1 is)) (omega arith)

  pub member_level : {k : Code} {x : Tree} {c d : Place} → MemberRule In k x c d → Level In Out (MemberRule Out k x c d) (depth x)
  member_level (classes.empty_rule h g e) = leaf (classes.empty_rule h g e) (ap depth e)
  member_level (classes.member_rule decorators m r s) = same (core_level (decorators_inside r) s) (λ w. classes.member_rule decorators m w.0 w.1) refl
