-- Whatever is read takes at least one token: expressions, patterns, functions, classes and decorators, from the parts on.
use Rattle.std.proofs.Common.{ℕ, Bool, true, false, List, [], ◌∷◌, refl}
use Rattle.swc_ecma_parser_common.specs.declared.span.Span.{Span}
use Rattle.swc_ecma_parser_input.specs.Place.{Place, after}
use Rattle.swc_ecma_parser_model.specs.declared.leaves.MethodKind.{MethodKind}
use Rattle.swc_ecma_parser_model.specs.Tree.{Tree, Text}
use Rattle.swc_ecma_parser_grammar.specs.declared.position.Position.{Position}
use Rattle.swc_ecma_parser_grammar.specs.Names.{Code}
use Rattle.swc_ecma_parser_grammar.specs.language.PatternItems.{PatternItemRule}
use Rattle.swc_ecma_parser_grammar.specs.language.Goals.{Goal, member_goal, binding, Class, expression, assignment, operator, unary, left_side, callee, Purpose}
use Rattle.swc_ecma_parser_grammar.specs.language.Contexts.{in_class, with_in}
use Rattle.swc_ecma_parser_grammar.specs.language.Lists as lists
use Rattle.swc_ecma_parser_grammar.specs.language.Lists.{ReadsEach, LastComma, ReadsListed, Elements, ReadsSeparated}
use Rattle.swc_ecma_parser_grammar.specs.language.Parts as parts
use Rattle.swc_ecma_parser_grammar.specs.language.Parts.{ReadsName, ReadsWord, OptionalName, PrivateRule, PrivateOperandRule, ComputedRule, KeyRule, AccessRule, ElementRule, ArgumentsRule}
use Rattle.swc_ecma_parser_grammar.specs.language.Items.{nested_item, directed, directs_on, ItemsRule, BlockRule}
use Rattle.swc_ecma_parser_grammar.specs.Follows as follows
use Rattle.swc_ecma_parser_grammar.specs.Follows.{Star, AsyncWord}
use Rattle.swc_ecma_parser_grammar.specs.language.Functions as functions
use Rattle.swc_ecma_parser_grammar.specs.language.PatternItems as pattern_items
use Rattle.swc_ecma_parser_grammar.specs.language.Functions.{ParametersRule, FunctionParts, FunctionRule, MethodHead, MethodRule}
use Rattle.swc_ecma_parser_grammar.specs.language.Classes as classes
use Rattle.swc_ecma_parser_grammar.specs.language.Classes.{DecoratorRule, DecoratorsRule, behind_modifier, MemberKeyRule, FieldValueRule, CoreRule, has_accessor, is_static_word, MemberRule, HeritageRule, ClassRule}
use Rattle.swc_ecma_parser_grammar.specs.language.Objects as objects
use Rattle.swc_ecma_parser_grammar.specs.language.Objects.{PropertyRule}
use Rattle.swc_ecma_parser_grammar.specs.language.Templates as templates
use Rattle.swc_ecma_parser_grammar.specs.language.Templates.{TemplateRest, TemplateRule}
use Rattle.swc_ecma_parser_grammar.specs.language.Links as links
use Rattle.swc_ecma_parser_grammar.specs.language.Links.{LinkRule}
use Rattle.swc_ecma_parser_grammar.specs.language.LeftSides as sides
use Rattle.swc_ecma_parser_grammar.specs.language.LeftSides.{PrimaryRule, LeftSideRule}
use Rattle.swc_ecma_parser_grammar.specs.language.Patterns as patterns
use Rattle.swc_ecma_parser_grammar.specs.language.Patterns.{PatternPropertyRule, PatternRule, PatternElementRule}
use Rattle.swc_ecma_parser_grammar.specs.language.Expressions as exprs
use Rattle.swc_ecma_parser_grammar.specs.language.Expressions.{UnaryRule, BinaryRule, ArrowHeadRule, ArrowBodyRule, AssignmentRule, ExpressionRule, ExprRule}
use Rattle.swc_ecma_parser_grammar.specs.language.Decorators as chains
use Rattle.swc_ecma_parser_grammar.specs.language.Decorators.{ChainRule, GroupRule, DecoratedRule}
use Rattle.swc_ecma_parser_grammar.specs.language.Laws.{Advances, begin, end}
use Rattle.swc_ecma_parser_grammar.proofs.language.progress.Steps.{Onward, stays, goes, ◌▸▸◌, ◌▸▹◌, ◌▹▸◌, ◌▹▹◌, token, token_to, any_token, any_token_to, one, ends}

-- ---- lists

pub last_comma : {commas : Bool} {x : Tree} {c d : Place} → LastComma commas x c d → Onward c d
last_comma (lists.no_comma e) = stays e
last_comma (lists.last_comma a h e) = any_token_to e

module _ (Reads : Tree → Place → Place → Type 0) (go : (x : Tree) (c d : Place) → Reads x c d → Advances c d) where
  pub each : (xs : List Tree) (c d : Place) → ReadsEach Reads xs c d → Onward c d
  each [] c d e = stays e
  each (x ∷ xs) c d (m, r, rs) = goes (go x c m r ▸▹ each xs m d rs)

  pub listed : (commas : Bool) (xs : List Tree) (c d : Place) → ReadsListed commas Reads xs c d → Onward c d
  listed commas [] c d e = stays e
  listed commas (x ∷ []) c d (m, r, l) = goes (go x c m r ▸▹ last_comma l)
  listed commas (x ∷ y ∷ ys) c d (m, r, a, h, rs) = goes (go x c m r ▸▹ any_token ▹▹ listed commas (y ∷ ys) (after m) d rs)

  pub separated : (xs : List Tree) (c d : Place) → ReadsSeparated Reads xs c d → Advances c d
  separated [] c d h = absurd h
  separated (x ∷ []) c d (r, a) = go x c d r
  separated (x ∷ y ∷ ys) c d (m, r, h, rs) = go x c m r ▸▹ any_token ▹▹ goes (separated (y ∷ ys) (after m) d rs)

  pub elements : {xs : List Tree} {c d : Place} → Elements Reads xs c d → Onward c d
  elements (lists.no_elements a e) = stays e
  elements (lists.hole ys h r a) = any_token ▹▹ elements r
  elements {c = c} (lists.last_element y m r l a) = goes (go y c m r ▸▹ last_comma l)
  elements {c = c} (lists.more_elements y z zs m r a h rs b) = goes (go y c m r ▸▹ any_token ▹▹ elements rs)

-- ---- names, words and what stands before a key

pub name : {k : Code} {text : Text} {s : _} {c d : Place} → ReadsName k text s c d → Advances c d
name r = one r.reads_word

pub word : {text : Text} {s : _} {c d : Place} → ReadsWord text s c d → Advances c d
word r = one r.reads_word

pub optional_name : {k : Code} {x : Tree} {c d : Place} → OptionalName k x c d → Onward c d
optional_name (parts.no_name e a) = stays e
optional_name (parts.a_name text s r a) = goes (name r)

pub private_name : {x : Tree} {c d : Place} → PrivateRule x c d → Advances c d
private_name r = token r.hash refl ▸▸ word r.reads_word

pub private_operand : {x : Tree} {c d : Place} → PrivateOperandRule x c d → Advances c d
private_operand r = token r.hash refl ▸▸ word r.reads_word

pub async_word : {is_async : Bool} {c d : Place} → AsyncWord is_async c d → Onward c d
async_word (follows.not_async a e) = stays e
async_word (follows.async_word a b e h) = any_token_to e

pub star : {is_generator : Bool} {c d : Place} → Star is_generator c d → Onward c d
star (follows.no_star a e) = stays e
star (follows.star a h e) = any_token_to e

pub method_head : {form : _} {is_async is_generator : Bool} {c d : Place} → MethodHead form is_async is_generator c d → Onward c d
method_head (functions.method_head m a r q) = async_word r ▹▹ star q
method_head (functions.getter_head a b e h i) = any_token_to i
method_head (functions.setter_head a b e h i) = any_token_to i

pub modifier : (b : Bool) {c : Place} → Onward c (behind_modifier b c)
modifier true = any_token
modifier false = stays refl

module _ (In : Goal → Type 0) (go : (g : Goal) → In g → Advances (begin g) (end g)) where
  inner : {g : Goal} → In g → Advances (begin g) (end g)
  inner {g} r = go g r

  -- ---- keys, accesses, arguments

  pub computed : {k : Code} {x : Tree} {c d : Place} → ComputedRule In k x c d → Advances c d
  computed r = token r.opens refl ▸▸ inner r.reads_key ▸▹ any_token_to r.next

  pub key : {k : Code} {x : Tree} {c d : Place} → KeyRule In k x c d → Advances c d
  key (parts.word_key text s r a) = word r
  key (parts.string_key v w s r a) = one r
  key (parts.number_key w s r a) = one r
  key (parts.big_int_key w s r a) = one r
  key (parts.computed_key r) = computed r

  pub access : {k : Code} {x : Tree} {c d : Place} → AccessRule In k x c d → Advances c d
  access (parts.word_access text s h r a) = any_token ▹▸ word r
  access (parts.private_access h r) = any_token ▹▸ private_name r
  access (parts.bracket_access e m h r i j a) = any_token ▹▸ inner r ▸▹ any_token_to j

  pub element : {k : Code} {x : Tree} {c d : Place} → ElementRule In k x c d → Advances c d
  element (parts.plain_element e r a) = inner r
  element (parts.spread_element e h r a) = any_token ▹▸ inner r

  pub arguments : {k : Code} {commas : Bool} {x : Tree} {c d : Place} → ArgumentsRule In k commas x c d → Advances c d
  arguments {k} {commas} {c = c} r = token r.opens refl ▸▹ listed (ElementRule In k) (λ x m n q. element q) commas r.elements (after c) r.close r.reads_elements ▹▹ any_token_to r.next

  -- ---- statements in braces

  pub items : (k : Code) (directives : Bool) (at : Position) (xs : List Tree) (c d : Place) → ItemsRule In k directives at xs c d → Onward c d
  items k directives at [] c d e = stays e
  items k directives at (x ∷ xs) c d (m, r, rs) = goes (inner r ▸▹ items (directed k directives x) (directs_on directives x) at xs m d rs)

  pub block : {k : Code} {directives : Bool} {x : Tree} {c d : Place} → BlockRule In k directives x c d → Advances c d
  block {k} {directives} {c = c} r = token r.opens refl ▸▹ items k directives nested_item r.items (after c) r.close r.reads_items ▹▹ any_token_to r.next

  -- ---- functions and methods

  pub pattern_item : {p : Purpose} {k : Code} {x : Tree} {c d : Place} → PatternItemRule In p k x c d → Advances c d
  pattern_item (pattern_items.element_rule r) = inner r
  pattern_item (pattern_items.rest_rule y h r a) = any_token ▹▸ inner r

  pub parameters : {k : Code} {ps : List Tree} {c d : Place} → ParametersRule In k ps c d → Advances c d
  parameters {k} {ps} {c} r = token r.opens refl ▸▹ listed (PatternItemRule In binding (with_in k)) (λ x m n q. pattern_item q) true ps (after c) r.close r.reads_patterns ▹▹ any_token_to r.next

  pub function_parts : {k : Code} {is_async is_generator : Bool} {ps : List Tree} {body : Tree} {c d : Place} → FunctionParts In k is_async is_generator ps body c d → Advances c d
  function_parts r = parameters r.reads_parameters ▸▸ block r.reads_body

  pub function : {is_expression : Bool} {k : Code} {ds n x : Tree} {c d : Place} → FunctionRule In is_expression k ds n x c d → Advances c d
  function r = async_word r.reads_async ▹▸ token r.is_function refl ▸▹ star r.reads_star ▹▹ optional_name r.reads_name ▹▹ goes (function_parts r.reads_parts)

  pub method : (Key : Tree → Place → Place → Type 0) (reads : (x : Tree) (c d : Place) → Key x c d → Advances c d) {k : Code} {form : MethodKind} {is_async is_generator : Bool} {y : Tree} {ps : List Tree} {body : Tree} {c d : Place}
      → MethodRule In Key k form is_async is_generator y ps body c d → Advances c d
  method Key reads {y = y} r = method_head r.reads_head ▹▸ reads y r.behind_head r.behind_key r.reads_key ▸▸ function_parts r.reads_parts

  -- ---- classes

  pub decorator : {k : Code} {x : Tree} {c d : Place} → DecoratorRule In k x c d → Advances c d
  decorator (classes.decorator_rule e h r a) = any_token ▹▸ inner r

  pub decorators : {k : Code} {x : Tree} {c d : Place} → DecoratorsRule In k x c d → Onward c d
  decorators (classes.no_decorators e a) = stays e
  decorators {k} {c = c} {d = d} (classes.some_decorators y ys a rs b) = each (DecoratorRule In k) (λ x m n q. decorator q) (y ∷ ys) c d rs

  pub member_key : {k : Code} {x : Tree} {c d : Place} → MemberKeyRule In k x c d → Advances c d
  member_key (classes.member_key r) = key r
  member_key (classes.private_key s w text r a b) = private_name r

  pub field_value : {k : Code} {start : Place} {x : Tree} {c d : Place} → FieldValueRule In k start x c d → Onward c d
  field_value (classes.no_value a b e i j) = stays i
  field_value (classes.a_value h r) = any_token ▹▹ goes (inner r)

  pub core : {k : Code} {is_static is_accessor : Bool} {ds x : Tree} {c m d : Place} → CoreRule In k is_static is_accessor ds x c m d → Advances m d
  core (classes.constructor_rule y ps body i j a b e r f p q g) = key r ▸▸ parameters p ▸▸ block q
  core {k} (classes.method_rule form is_async is_generator y ps body a r b e) = method (MemberKeyRule In k) (λ x m n q. member_key q) r
  core (classes.field_rule y v i j r a p q e) = member_key r ▸▹ field_value p ▹▹ ends q
  core (classes.static_block_rule body a b e r f) = block r

  pub member : {k : Code} {x : Tree} {c d : Place} → MemberRule In k x c d → Advances c d
  member (classes.empty_rule h e a) = token_to h refl e
  member {k} (classes.member_rule ds m r q) = decorators r ▹▸ modifier (is_static_word m) ▹▸ modifier (has_accessor k m) ▹▸ core q

  pub heritage : {k : Code} {x : Tree} {c d : Place} → HeritageRule In k x c d → Onward c d
  heritage (classes.no_heritage e a) = stays e
  heritage (classes.heritage_rule h r) = any_token ▹▹ goes (inner r)

  pub class : {k : Code} {start : Place} {ds n x : Tree} {c d : Place} → ClassRule In k start ds n x c d → Advances c d
  class {k} r =
      token r.is_class refl ▸▹ optional_name r.reads_name ▹▹ heritage r.reads_heritage ▹▹ any_token
      ▹▹ each (λ y i j. In (member_goal (with_in (in_class k)) y i j)) (λ y i j q. inner q) r.members (after r.opening) r.close r.reads_members ▹▹ any_token_to r.next

  -- ---- objects

  pub property : {k : Code} {x : Tree} {c d : Place} → PropertyRule In k x c d → Advances c d
  property (objects.spread_rule e h r a) = any_token ▹▸ inner r
  property (objects.shorthand_rule text s r a) = name r
  property (objects.key_value_rule y v m r h q a) = key r ▸▹ any_token ▹▹ goes (inner q)
  property {k} (objects.getter_rule y body r a) = method (KeyRule In k) (λ x m n q. key q) r
  property {k} (objects.setter_rule y p body r a) = method (KeyRule In k) (λ x m n q. key q) r
  property {k} (objects.method_rule is_async is_generator y ps body r a) = method (KeyRule In k) (λ x m n q. key q) r

  -- ---- templates and links

  pub template_rest : {tagged : Bool} {k : Code} {es qs : List Tree} {c d : Place} → TemplateRest In tagged k es qs c d → Advances c d
  template_rest (templates.last_text e q m r t a b) = inner r ▸▸ one t.reads_text
  template_rest (templates.more_texts e q es qs m i r t s a b) = inner r ▸▸ one t.reads_text ▸▸ template_rest s

  pub template : {tagged : Bool} {k : Code} {es qs : List Tree} {c d : Place} → TemplateRule In tagged k es qs c d → Advances c d
  template (templates.only_text q t a b) = one t.reads_text
  template (templates.first_text q qs m t r a) = one t.reads_text ▸▸ template_rest r

  pub link : {k : Code} {behind_question : Bool} {s : Span} {o b : Tree} {c d : Place} → LinkRule In k behind_question s o b c d → Advances c d
  link (links.name_link text s h r e) = word r
  link (links.private_link p h r e) = private_name r
  link (links.access_link p h r e) = access r
  link (links.arguments_link xs r e) = arguments r

  -- ---- primary and left-hand-side expressions

  pub primary : {k : Code} {x : Tree} {c d : Place} → PrimaryRule In k x c d → Advances c d
  primary (sides.name_rule text s r a b) = name r
  primary (sides.string_rule v w s r a) = one r
  primary (sides.true_rule s r a) = one r
  primary (sides.false_rule s r a) = one r
  primary (sides.null_rule s r a) = one r
  primary (sides.number_rule w s r a) = one r
  primary (sides.big_int_rule w s r a) = one r
  primary (sides.regex_rule exp flags s r e) = one r
  primary (sides.template_rule es qs r e) = template r
  primary (sides.this_rule h e a) = token_to h refl e
  primary {k} (sides.array_rule es m h r g e a) = token h refl ▸▹ elements (ElementRule In k) (λ x i j q. element q) r ▹▹ any_token_to e
  primary {k} {c = c} (sides.object_rule ps m h r g e a) = token h refl ▸▹ listed (PropertyRule In k) (λ x i j q. property q) true ps (after c) m r ▹▹ any_token_to e
  primary (sides.function_rule n f r a) = function r
  primary (sides.class_rule n f r a) = class r
  primary (sides.paren_rule e m h r g i a) = any_token ▹▸ inner r ▸▹ any_token_to i

  pub left_side_rule : {k : Code} {x : Tree} {c d : Place} → LeftSideRule In k x c d → Advances c d
  left_side_rule (sides.primary_rule r) = primary r
  left_side_rule (sides.import_meta_rule h g w e a b) = token h refl ▸▹ any_token ▹▹ any_token_to e
  left_side_rule (sides.new_target_rule H G W N e) = token H refl ▸▹ any_token ▹▹ any_token_to N
  left_side_rule (sides.member_rule o p m r n q a) = left_side_rule r ▸▸ access q
  left_side_rule (sides.super_property_rule p h q a b) = any_token ▹▸ access q
  left_side_rule (sides.call_rule f xs m r n q a) = left_side_rule r ▸▸ arguments q
  left_side_rule (sides.tagged_rule t es qs m r N q e) = left_side_rule r ▸▸ template q
  left_side_rule (sides.chain_rule o b m r H q e) = left_side_rule r ▸▹ any_token ▹▹ goes (link q)
  left_side_rule (sides.linked_rule o b m r N q e) = left_side_rule r ▸▸ link q
  left_side_rule (sides.super_call_rule xs h q a) = any_token ▹▸ arguments q
  left_side_rule (sides.import_call_rule xs h q a) = any_token ▹▸ arguments q
  left_side_rule (sides.new_rule f xs m h r q a) = any_token ▹▸ inner r ▸▸ arguments q
  left_side_rule (sides.bare_new_rule f h r a) = any_token ▹▸ inner r

  -- ---- patterns

  pub pattern_property : {p : Purpose} {k : Code} {x : Tree} {c d : Place} → PatternPropertyRule In p k x c d → Advances c d
  pattern_property (patterns.key_value_rule y v m r h q a) = key r ▸▹ any_token ▹▹ goes (inner q)
  pattern_property (patterns.shorthand_rule text s r a b) = name r
  pattern_property (patterns.default_rule text s v m r h q a) = name r ▸▹ any_token ▹▹ goes (inner q)
  pattern_property (patterns.rest_rule y h r a b) = any_token ▹▸ inner r

  pub pattern_rule : {p : Purpose} {k : Code} {x : Tree} {c d : Place} → PatternRule In p k x c d → Advances c d
  pattern_rule (patterns.binding_name_rule text s a r b) = name r
  pattern_rule (patterns.target_name_rule text s a b r e) = name r
  pattern_rule (patterns.target_rule e a r b f g) = left_side_rule r.0
  pattern_rule {p} {k} (patterns.array_rule es m h r g e a) = token h refl ▸▹ elements (PatternItemRule In p (with_in k)) (λ x i j q. pattern_item q) r ▹▹ any_token_to e
  pattern_rule {p} {k} {c = c} (patterns.object_rule ps m h r g e a) =
      token h refl ▸▹ listed (PatternPropertyRule In p (with_in k)) (λ x i j q. pattern_property q) true ps (after c) m r ▹▹ any_token_to e

  pub pattern_element : {p : Purpose} {k : Code} {x : Tree} {c d : Place} → PatternElementRule In p k x c d → Advances c d
  pattern_element (patterns.bare_rule r a) = pattern_rule r
  pattern_element (patterns.initialized_rule y v m r h q a) = pattern_rule r ▸▹ any_token ▹▹ goes (inner q)

  -- ---- expressions

  pub unary_rule : {k : Code} {x : Tree} {c d : Place} → UnaryRule In k x c d → Advances c d
  unary_rule (exprs.operand_rule r) = left_side_rule r.0
  unary_rule (exprs.unary_rule op e h r a) = any_token ▹▸ inner r
  unary_rule (exprs.prefix_rule op e h r a b) = any_token ▹▸ inner r
  unary_rule (exprs.postfix_rule op e m r a b h i j) = left_side_rule r.0 ▸▹ any_token_to i
  unary_rule (exprs.await_rule e h a r b) = any_token ▹▸ inner r

  pub binary_rule : {k : Code} {n : ℕ} {x : Tree} {c d : Place} → BinaryRule In k n x c d → Advances c d
  binary_rule (exprs.single_rule r) = unary_rule r
  binary_rule (exprs.left_rule op y z m l a b r h q e f g) = binary_rule r ▸▹ any_token ▹▹ goes (inner q)
  binary_rule (exprs.power_rule y z m l r a h q b) = unary_rule r ▸▹ any_token ▹▹ goes (inner q)
  binary_rule (exprs.private_in_rule y z m l b r H q e) = private_operand r ▸▹ any_token ▹▹ goes (inner q)

  pub arrow_head : {k : Code} {ps : List Tree} {c d : Place} → ArrowHeadRule In k ps c d → Advances c d
  arrow_head (exprs.name_head p r a b) = inner r
  arrow_head (exprs.parameters_head r) = parameters r

  pub arrow_body : {k : Code} {is_async : Bool} {x : Tree} {c d : Place} → ArrowBodyRule In k is_async x c d → Advances c d
  arrow_body (exprs.block_body r) = block r
  arrow_body (exprs.expression_body a r) = inner r

  pub assignment_rule : {k : Code} {x : Tree} {c d : Place} → AssignmentRule In k x c d → Advances c d
  assignment_rule (exprs.operators_rule r a) = binary_rule r
  assignment_rule (exprs.conditional_rule t y z i j r h p g q a b) = binary_rule r ▸▹ any_token ▹▹ goes (inner p) ▹▹ any_token ▹▹ goes (inner q)
  assignment_rule (exprs.assign_rule op y z m r a h q b) = left_side_rule r.0 ▸▹ any_token ▹▹ goes (inner q)
  assignment_rule (exprs.destructuring_rule y z m r a h q b) = pattern_rule r ▸▹ any_token ▹▹ goes (inner q)
  assignment_rule (exprs.arrow_rule is_async ps body i j w r h a q b) = async_word w ▹▸ arrow_head r ▸▹ any_token ▹▹ goes (arrow_body q)
  assignment_rule (exprs.bare_yield_rule a h e b f) = token_to h refl e
  assignment_rule (exprs.yield_rule e a h b f r g) = any_token ▹▸ inner r
  assignment_rule (exprs.delegate_rule e a h b f r g) = any_token ▹▸ any_token ▹▸ inner r

  pub expression_rule : {k : Code} {x : Tree} {c d : Place} → ExpressionRule In k x c d → Advances c d
  expression_rule (exprs.assignment_rule r a) = assignment_rule r
  expression_rule {k} {c = c} {d = d} (exprs.sequence_rule e f es r a) = separated (AssignmentRule In k) (λ x i j q. assignment_rule q) (e ∷ f ∷ es) c d r

  pub expr_rule : (class_of : Class) (k : Code) (x : Tree) (c d : Place) → ExprRule In class_of k x c d → Advances c d
  expr_rule expression k x c d r = expression_rule r
  expr_rule assignment k x c d r = assignment_rule r
  expr_rule (operator n) k x c d r = binary_rule r.0
  expr_rule unary k x c d r = unary_rule r.0
  expr_rule left_side k x c d r = left_side_rule r.0
  expr_rule callee k x c d r = left_side_rule r.0.0

  -- ---- decorators

  pub chain : {k : Code} {x : Tree} {c d : Place} → ChainRule In k x c d → Advances c d
  chain (chains.name_rule text s r a) = name r
  chain (chains.member_rule o p m r q a b) = chain r ▸▸ access q
  chain (chains.call_rule f xs m r q a) = chain r ▸▸ arguments q

  pub group : {k : Code} {x : Tree} {c d : Place} → GroupRule In k x c d → Advances c d
  group r = any_token ▹▸ expression_rule r.reads_expression ▸▹ any_token_to r.next

  pub decorated : {k : Code} {x : Tree} {c d : Place} → DecoratedRule In k x c d → Advances c d
  decorated (chains.group_rule r a) = group r
  decorated (chains.group_call_rule e xs m r q a) = group r ▸▸ arguments q
  decorated (chains.chain_rule r a b) = chain r
