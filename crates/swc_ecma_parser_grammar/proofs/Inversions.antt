-- What a reading must be where its first tokens, and those behind an operand, are known. For lists that nothing spells.
use Rattle.std.proofs.Common.{◌≡◌, ℕ, zero, suc, Bool, true, false, not, ◌&&◌, List, [], ◌∷◌, Some, None, ◌⊎◌, inl, inr, refl}
use Rattle.std.specs.Prelude.{codes}
use Rattle.swc_ecma_parser_common.specs.declared.span.Span.{Span}
use Rattle.swc_ecma_parser_token.specs.declared.kind.TokenKind.{TokenKind}
use Rattle.swc_ecma_parser_token.specs.declared.kind.TokenKind.TheVariants as kind
use Rattle.swc_ecma_parser_input.specs.Place.{Place, after}
use Rattle.swc_ecma_parser_model.specs.declared.leaves.MethodKind.{MethodKind}
use Rattle.swc_ecma_parser_model.specs.declared.operators.BinaryOp.{BinaryOp}
use Rattle.swc_ecma_parser_model.specs.Tree as tree
use Rattle.swc_ecma_parser_model.specs.Tree.{Tree, Text}
use Rattle.swc_ecma_parser_model.specs.Forms.{is_pattern_target, is_simple_target}
use Rattle.swc_ecma_parser_grammar.specs.Looks.{kind_at, breaks_at, sees, same_kind, spanned}
use Rattle.swc_ecma_parser_grammar.specs.Names.{Code}
use Rattle.swc_ecma_parser_grammar.specs.Follows.{word_at, is_async_function, no_star, star, AsyncWord, not_async, async_word}
use Rattle.swc_ecma_parser_grammar.specs.language.Goals.{Goal, Purpose, binding, assigning}
use Rattle.swc_ecma_parser_grammar.specs.language.Operators.{unary_operator, update_operator, binary_operator, assign_operator}
use Rattle.swc_ecma_parser_grammar.specs.language.Begins.{awaits}
use Rattle.swc_ecma_parser_grammar.specs.language.Continues.{continues_assignment}
use Rattle.swc_ecma_parser_grammar.specs.language.Lists.{no_comma, last_comma, ReadsListed, Elements, no_elements, hole, last_element, more_elements}
use Rattle.swc_ecma_parser_grammar.specs.language.Parts.{AccessRule, word_access, private_access, bracket_access}
use Rattle.swc_ecma_parser_grammar.specs.language.Templates.{TemplateRule}
use Rattle.swc_ecma_parser_grammar.specs.language.Links.{LinkRule, name_link, private_link, access_link, arguments_link}
use Rattle.swc_ecma_parser_grammar.specs.language.Functions.{MethodHead, method_head, getter_head, setter_head}
use Rattle.swc_ecma_parser_grammar.specs.language.LeftSides.{PrimaryRule, LeftSideRule, primary_rule, import_meta_rule, new_target_rule, member_rule, super_property_rule, call_rule, tagged_rule, chain_rule, linked_rule, super_call_rule, import_call_rule, new_rule, bare_new_rule, OperandRule}
use Rattle.swc_ecma_parser_grammar.specs.language.Patterns.{PatternRule, binding_name_rule, target_name_rule, target_rule, array_rule, object_rule}
use Rattle.swc_ecma_parser_grammar.specs.language.Expressions.{UnaryRule, operand_rule, unary_rule, prefix_rule, postfix_rule, await_rule, BinaryRule, single_rule, left_rule, power_rule, private_in_rule, ArrowHeadRule, name_head, parameters_head, AssignmentRule, operators_rule, conditional_rule, assign_rule, destructuring_rule, arrow_rule, bare_yield_rule, yield_rule, delegate_rule, ExpressionRule, assignment_rule, sequence_rule}
use Rattle.swc_ecma_parser_grammar.specs.language.Reads.{Reads}
use Rattle.swc_ecma_parser_grammar.proofs.Beginnings.{opens, template_opens, one_token, one_name}

-- ---- a place that turned out to be another

pub moved_kind : {what : TokenKind} (c d : Place) → c ≡ d → kind_at c ≡ what → kind_at d ≡ what
moved_kind c d e h = rw e at h

pub moved_operator : {op : BinaryOp} (c d : Place) → c ≡ d → binary_operator (kind_at c) ≡ Some op → binary_operator (kind_at d) ≡ Some op
moved_operator c d e h = rw e at h

-- what must not follow, at the tree and the place that a reading turned out to have
pub stops : (k : Code) (x y : Tree) (c d e : Place) → x ≡ y → d ≡ e → continues_assignment k x c d ≡ false → continues_assignment k y c e ≡ false
stops k x y c d e p q h = rw (p, q) at h

-- ---- left-hand-side expressions and operators

-- the words that begin one which is no primary expression
abbrev pub begins_form : TokenKind → Bool
begins_form kind.New = true
begins_form kind.Super = true
begins_form kind.Import = true
begins_form _ = false

abbrev pub is_access : TokenKind → Bool
is_access kind.Dot = true
is_access kind.LBracket = true
is_access kind.LParen = true
is_access kind.QuestionDot = true
is_access kind.Template = true
is_access kind.TemplateHead = true
is_access _ = false

abbrev pub is_paren : TokenKind → Bool
is_paren kind.LParen = true
is_paren _ = false

-- no operator stands before an operand here
pub record IsUnprefixed (k : Code) (c : Place) : Type 0 where
  pub no_unary : unary_operator (kind_at c) ≡ None
  pub no_update : update_operator (kind_at c) ≡ None
  pub no_await : awaits k.flags c ≡ false

module _ {In : Goal → Type 0} {k : Code} where
  no_access : (m : Place) → is_access (kind_at m) ≡ false → (c : Place) (x : Tree) (d : Place) → c ≡ m → AccessRule In k x c d → ⊥
  no_access m h c x d e (word_access t s f r g) = let i = moved_kind c m e f in cc
  no_access m h c x d e (private_access f r) = let i = moved_kind c m e f in cc
  no_access m h c x d e (bracket_access y j f r g l o) = let i = moved_kind c m e f in cc

  no_link : (m : Place) → is_access (kind_at m) ≡ false → (c : Place) (s : Span) (x y : Tree) (d : Place) → c ≡ m → LinkRule In k false s x y c d → ⊥
  no_link m h c s x y d e (name_link t w f r g) = cc
  no_link m h c s x y d e (private_link p f r g) = cc
  no_link m h c s x y d e (access_link p f r g) = no_access m h c p d e r
  no_link m h c s x y d e (arguments_link a r g) = let i = moved_kind c m e r.opens in cc

  no_template : {tagged : Bool} {es qs : List Tree} (m : Place) → is_access (kind_at m) ≡ false → (c : Place) {d : Place} → c ≡ m → TemplateRule In tagged k es qs c d → ⊥
  no_template m h c e r = elim (template_opens r) [ inl f ↦ let i = moved_kind c m e f in cc | inr f ↦ let i = moved_kind c m e f in cc ]

  -- where nothing goes on with a primary expression, it is all
  pub left_side_primary : (c m : Place) → begins_form (kind_at c) ≡ false → is_access (kind_at m) ≡ false → ((y : Tree) (j : Place) → PrimaryRule In k y c j → j ≡ m)
      → (x : Tree) (d : Place) → LeftSideRule In k x c d → PrimaryRule In k x c d
  left_side_primary c m b a ends x d (primary_rule r) = r
  left_side_primary c m b a ends x d (import_meta_rule e g i j l o) = cc
  left_side_primary c m b a ends x d (new_target_rule e g i j o) = cc
  left_side_primary c m b a ends x d (member_rule o p j r n s e) = absurd (no_access m a j p d (ends o j (left_side_primary c m b a ends o j r)) s)
  left_side_primary c m b a ends x d (super_property_rule p e s g i) = cc
  left_side_primary c m b a ends x d (call_rule y z j r n s e) = absurd (let i = moved_kind j m (ends y j (left_side_primary c m b a ends y j r)) s.opens in cc)
  left_side_primary c m b a ends x d (tagged_rule y es qs j r n s e) = absurd (no_template m a j (ends y j (left_side_primary c m b a ends y j r)) s)
  left_side_primary c m b a ends x d (chain_rule y z j r h s e) = absurd (let i = moved_kind j m (ends y j (left_side_primary c m b a ends y j r)) h in cc)
  left_side_primary c m b a ends x d (linked_rule y z j r n s e) = absurd (no_link m a j (spanned c d) y z d (ends y j (left_side_primary c m b a ends y j r)) s)
  left_side_primary c m b a ends x d (super_call_rule y e s g) = cc
  left_side_primary c m b a ends x d (import_call_rule y e s g) = cc
  left_side_primary c m b a ends x d (new_rule y z j e r s g) = cc
  left_side_primary c m b a ends x d (bare_new_rule y e r g) = cc

  -- none begins where no primary expression does, nor such a word
  pub no_left_side : (c : Place) → begins_form (kind_at c) ≡ false → ((y : Tree) (m : Place) → PrimaryRule In k y c m → ⊥) → (x : Tree) (d : Place) → LeftSideRule In k x c d → ⊥
  no_left_side c h none x d (primary_rule r) = none x d r
  no_left_side c h none x d (import_meta_rule e f g i j l) = cc
  no_left_side c h none x d (new_target_rule e f g i j) = cc
  no_left_side c h none x d (member_rule o p m r n a e) = no_left_side c h none o m r
  no_left_side c h none x d (super_property_rule p e a f g) = cc
  no_left_side c h none x d (call_rule f a m r n s e) = no_left_side c h none f m r
  no_left_side c h none x d (tagged_rule o es qs m r a s e) = no_left_side c h none o m r
  no_left_side c h none x d (chain_rule o p m r a s e) = no_left_side c h none o m r
  no_left_side c h none x d (linked_rule o p m r a s e) = no_left_side c h none o m r
  no_left_side c h none x d (super_call_rule a e s f) = cc
  no_left_side c h none x d (import_call_rule a e s f) = cc
  no_left_side c h none x d (new_rule f a m e r s g) = cc
  no_left_side c h none x d (bare_new_rule f e r g) = cc

  pub unary_operand : (c m : Place) → IsUnprefixed k c → update_operator (kind_at m) ≡ None → ((y : Tree) (j : Place) → OperandRule In k y c j → j ≡ m)
      → (x : Tree) (d : Place) → UnaryRule In k x c d → OperandRule In k x c d
  unary_operand c m h p ends x d (operand_rule r) = r
  unary_operand c m h p ends x d (unary_rule op e f r g) = absurd (let i = h.no_unary in cc)
  unary_operand c m h p ends x d (prefix_rule op e f r g i) = absurd (let j = h.no_update in cc)
  unary_operand c m h p ends x d (postfix_rule op e j r s b f g i) = absurd (let l : update_operator (kind_at m) ≡ Some op = rw (ends e j r) at f in cc)
  unary_operand c m h p ends x d (await_rule e f g r i) = absurd (let j = h.no_await in cc)

  pub no_unary : (c : Place) → IsUnprefixed k c → ((y : Tree) (m : Place) → OperandRule In k y c m → ⊥) → (x : Tree) (d : Place) → UnaryRule In k x c d → ⊥
  no_unary c h none x d (operand_rule r) = none x d r
  no_unary c h none x d (unary_rule op e f r g) = let i = h.no_unary in cc
  no_unary c h none x d (prefix_rule op e f r g i) = let j = h.no_update in cc
  no_unary c h none x d (postfix_rule op e m r s b f g i) = none e m r
  no_unary c h none x d (await_rule e f g r i) = let j = h.no_await in cc

  pub binary_unary : (c m : Place) → (kind_at c ≡ kind.HashIn → ⊥) → binary_operator (kind_at m) ≡ None → ((y : Tree) (j : Place) → UnaryRule In k y c j → j ≡ m)
      → (n : ℕ) (x : Tree) (d : Place) → BinaryRule In k n x c d → UnaryRule In k x c d
  binary_unary c m no_hash h ends n x d (single_rule r) = r
  binary_unary c m no_hash h ends n x d (left_rule op l y j a g o r f s u v q) = absurd (let i = moved_operator j m (ends l j (binary_unary c m no_hash h ends _ l j r)) f in cc)
  binary_unary c m no_hash h ends n x d (power_rule l y j a r f g s q) = absurd (let i = moved_kind j m (ends l j r) g in cc)
  binary_unary c m no_hash h ends n x d (private_in_rule l y j a g r f s q) = absurd (no_hash r.hash)

  pub no_binary : (c : Place) → (kind_at c ≡ kind.HashIn → ⊥) → ((y : Tree) (m : Place) → UnaryRule In k y c m → ⊥) → (n : ℕ) (x : Tree) (d : Place) → BinaryRule In k n x c d → ⊥
  no_binary c no_hash none n x d (single_rule r) = none x d r
  no_binary c no_hash none n x d (left_rule op l y m a g o r f s i j q) = no_binary c no_hash none _ l m r
  no_binary c no_hash none n x d (power_rule l y m a r f g s q) = none l m r
  no_binary c no_hash none n x d (private_in_rule l y m a g r f s q) = no_hash r.hash

-- ---- one token that is all of an operand

no_hash : (c : Place) → opens (kind_at c) ≡ false → kind_at c ≡ kind.HashIn → ⊥
no_hash c h e = cc

pub record IsLone (k : Code) (c : Place) : Type 0 where
  pub no_opening : opens (kind_at c) ≡ false
  pub no_function : is_async_function c ≡ false
  pub no_form : begins_form (kind_at c) ≡ false
  pub unprefixed : IsUnprefixed k c
  pub no_access : is_access (kind_at (after c)) ≡ false
  pub no_postfix : update_operator (kind_at (after c)) ≡ None

module _ {In : Goal → Type 0} {k : Code} where
  lone_primary : (c : Place) → IsLone k c → (x : Tree) (d : Place) → OperandRule In k x c d → PrimaryRule In k x c d
  lone_primary c h x d r = left_side_primary c (after c) h.no_form h.no_access (one_token c h.no_opening h.no_function) x d r.0

  pub lone_operand : (c : Place) → IsLone k c → (x : Tree) (d : Place) → OperandRule In k x c d → d ≡ after c
  lone_operand c h x d r = one_token c h.no_opening h.no_function x d (lone_primary c h x d r)

  lone_unary_operand : (c : Place) → IsLone k c → (x : Tree) (d : Place) → UnaryRule In k x c d → OperandRule In k x c d
  lone_unary_operand c h x d r = unary_operand c (after c) h.unprefixed h.no_postfix (lone_operand c h) x d r

  pub lone_unary : (c : Place) → IsLone k c → (x : Tree) (d : Place) → UnaryRule In k x c d → d ≡ after c
  lone_unary c h x d r = lone_operand c h x d (lone_unary_operand c h x d r)

  pub lone_name : (c : Place) → IsLone k c → kind_at c ≡ kind.Ident → (x : Tree) (d : Place) → UnaryRule In k x c d → (s : Span) × (text : Text) × (x ≡ tree.ident s text)
  lone_name c h e x d r = one_name c e h.no_function x d (lone_primary c h x d (lone_unary_operand c h x d r))

-- ---- patterns that do not begin with a bracket

abbrev pub is_bracket : TokenKind → Bool
is_bracket kind.LBracket = true
is_bracket kind.LBrace = true
is_bracket _ = false

module _ {In : Goal → Type 0} {k : Code} where
  pub no_pattern : (p : Purpose) (c : Place) → is_bracket (kind_at c) ≡ false → (x : Tree) (d : Place) → PatternRule In p k x c d → is_pattern_target x ≡ false
  no_pattern p c h x d (binding_name_rule t s e r f) = rw f refl
  no_pattern p c h x d (target_name_rule t s e g r f) = rw f refl
  no_pattern p c h x d (target_rule y e r s i f) = rw f refl
  no_pattern p c h x d (array_rule xs m e r f g i) = cc
  no_pattern p c h x d (object_rule xs m e r f g i) = cc

  pub bound_name : (p : Purpose) (c : Place) → p ≡ binding → is_bracket (kind_at c) ≡ false → (x : Tree) (d : Place) → PatternRule In p k x c d → d ≡ after c
  bound_name p c b h x d (binding_name_rule t s e r f) = r.reads_word.next
  bound_name p c b h x d (target_name_rule t s e g r f) = cc
  bound_name p c b h x d (target_rule y e r s i f) = cc
  bound_name p c b h x d (array_rule xs m e r f g i) = cc
  bound_name p c b h x d (object_rule xs m e r f g i) = cc

-- ---- assignment expressions

-- what no arrow is before: this place is not the head of one, and nothing is in which a pattern stands before `=`
pub record IsUnassigned (In : Goal → Type 0) (k : Code) (c : Place) : Type 0 where
  pub no_yield : sees kind.Yield c ≡ false
  pub no_simple : (x : Tree) (m : Place) → OperandRule In k x c m → is_simple_target x ≡ true → assign_operator (kind_at m) ≡ None
  pub no_target : (x : Tree) (m : Place) → PatternRule In assigning k x c m → is_pattern_target x ≡ true → kind_at m ≡ kind.Assign → ⊥
  pub no_arrow : (is_async : Bool) (ps : List Tree) (i j : Place) → AsyncWord is_async c i → ArrowHeadRule In k ps i j → kind_at j ≡ kind.Arrow → breaks_at j ≡ false → ⊥

no_word : (c : Place) → sees kind.Yield c ≡ false → kind_at c ≡ kind.Yield → ⊥
unfolding same_kind
no_word c h e = let f : sees kind.Yield c ≡ true = rw e refl in cc

module _ {In : Goal → Type 0} {k : Code} where
  -- so it is made of operands and operators, if it is no conditional
  pub by_operators : (c : Place) → IsUnassigned In k c → ((y : Tree) (m : Place) → BinaryRule In k 1 y c m → kind_at m ≡ kind.QuestionMark → ⊥)
      → (x : Tree) (d : Place) → AssignmentRule In k x c d → BinaryRule In k 1 x c d × (continues_assignment k x c d ≡ false)
  by_operators c h q x d (operators_rule r e) = (r, e)
  by_operators c h q x d (conditional_rule t y z i j r e s f g l o) = absurd (q t i r e)
  by_operators c h q x d (assign_rule op l z m r s e g f) = absurd (let i = h.no_simple l m r s in cc)
  by_operators c h q x d (destructuring_rule l z m r s e g f) = absurd (h.no_target l m r s e)
  by_operators c h q x d (arrow_rule is_async ps body i j r s e b t f) = absurd (h.no_arrow is_async ps i j r s e b)
  by_operators c h q x d (bare_yield_rule g e f l i) = absurd (no_word c h.no_yield e)
  by_operators c h q x d (yield_rule y g e b l r f) = absurd (no_word c h.no_yield e)
  by_operators c h q x d (delegate_rule y g e b l r f) = absurd (no_word c h.no_yield e)

  -- and none where no operand begins
  pub no_assignment : (c : Place) → IsUnassigned In k c → (kind_at c ≡ kind.HashIn → ⊥) → ((y : Tree) (m : Place) → UnaryRule In k y c m → ⊥) → (x : Tree) (d : Place) → AssignmentRule In k x c d → ⊥
  no_assignment c h no_hash none x d r = no_binary c no_hash none 1 x d (by_operators c h (λ y m s e. no_binary c no_hash none 1 y m s) x d r).0

  pub no_expression : (c : Place) → ((y : Tree) (m : Place) → AssignmentRule In k y c m → ⊥) → (x : Tree) (d : Place) → ExpressionRule In k x c d → ⊥
  no_expression c none x d (assignment_rule r e) = none x d r
  no_expression c none x d (sequence_rule e f es (m, r, g, rs) h) = none e m r

-- ---- assignment expressions that begin with one token, before which nothing stands

-- `=>` on the line
abbrev pub arrow_at : Place → Bool
arrow_at d = sees kind.Arrow d && not (breaks_at d)

an_arrow : (c d : Place) → d ≡ after c → kind_at d ≡ kind.Arrow → breaks_at d ≡ false → arrow_at (after c) ≡ true
unfolding same_kind
an_arrow c d e f g = let i = moved_kind d (after c) e f in let j : breaks_at (after c) ≡ false = rw e at g in rw (i, j) refl

pub record IsPlain (c : Place) : Type 0 where
  pub no_async : word_at (codes "async") c ≡ false
  pub no_yield : sees kind.Yield c ≡ false
  pub no_paren : is_paren (kind_at c) ≡ false
  pub no_bracket : is_bracket (kind_at c) ≡ false
  pub no_arrow : arrow_at (after c) ≡ false

no_head : (n : ℕ) (k : Code) (c : Place) → IsPlain c → (is_async : Bool) (ps : List Tree) (i j : Place) → AsyncWord is_async c i → ArrowHeadRule (Reads n) k ps i j
    → kind_at j ≡ kind.Arrow → breaks_at j ≡ false → ⊥
no_head n k c h is_async ps i j (async_word e f g l) r a b = let o = h.no_async in cc
no_head zero k c h is_async ps i j (not_async e f) (name_head p r s g) a b = r
no_head (suc n) k c h is_async ps i j (not_async e f) (name_head p r s g) a b =
    let l : PatternRule (Reads n) binding k p c j = rw f at r in
    let o = an_arrow c j (bound_name binding c refl h.no_bracket p j l) a b in
    let q = h.no_arrow in cc
no_head n k c h is_async ps i j (not_async e f) (parameters_head r) a b = let l = moved_kind i c f r.opens in let o = h.no_paren in cc

pub plain_unassigned : (n : ℕ) (k : Code) (c : Place) → IsPlain c → ((x : Tree) (m : Place) → OperandRule (Reads n) k x c m → is_simple_target x ≡ true → assign_operator (kind_at m) ≡ None)
    → IsUnassigned (Reads n) k c
plain_unassigned n k c h e = record {
  no_yield = h.no_yield;
  no_simple = e;
  no_target = λ x m r s f. let i = no_pattern assigning c h.no_bracket x m r in cc;
  no_arrow = no_head n k c h;
}

-- one token that is all of an assignment expression
pub lone_assignment : {k : Code} (n : ℕ) (c : Place) → IsLone k c → IsPlain c → binary_operator (kind_at (after c)) ≡ None → assign_operator (kind_at (after c)) ≡ None
    → (kind_at (after c) ≡ kind.QuestionMark → ⊥) → (x : Tree) (d : Place) → AssignmentRule (Reads n) k x c d → d ≡ after c
lone_assignment {k = k} n c h p b a q x d r =
    let u = plain_unassigned n k c p (λ y m s e. rw (lone_operand c h y m s) a) in
    let (s, e) = by_operators c u (λ y m s e. q (moved_kind m (after c) (lone_unary c h y m (binary_unary c (after c) (no_hash c h.no_opening) b (lone_unary c h) 1 y m s)) e)) x d r in
    lone_unary c h x d (binary_unary c (after c) (no_hash c h.no_opening) b (lone_unary c h) 1 x d s)

-- ---- lists whose first part ends before no comma

pub short_list : (commas : Bool) (R : Tree → Place → Place → Type 0) (c m : Place) → ((x : Tree) (d : Place) → R x c d → d ≡ m) → (kind_at m ≡ kind.Comma → ⊥)
    → (xs : List Tree) (d : Place) → ReadsListed commas R xs c d → (d ≡ c) ⊎ (d ≡ m)
short_list commas R c m ends bare [] d r = inl r
short_list commas R c m ends bare (x ∷ []) d (j, r, no_comma e) = inr (rw e (ends x j r))
short_list commas R c m ends bare (x ∷ []) d (j, r, last_comma f g e) = absurd (bare (moved_kind j m (ends x j r) g))
short_list commas R c m ends bare (x ∷ y ∷ ys) d (j, r, f, g, rs) = absurd (bare (moved_kind j m (ends x j r) g))

pub short_elements : (R : Tree → Place → Place → Type 0) (c m : Place) → ((x : Tree) (d : Place) → R x c d → d ≡ m) → (kind_at c ≡ kind.Comma → ⊥) → (kind_at m ≡ kind.Comma → ⊥)
    → (xs : List Tree) (d : Place) → Elements R xs c d → (d ≡ c) ⊎ (d ≡ m)
short_elements R c m ends full bare xs d (no_elements e f) = inl f
short_elements R c m ends full bare xs d (hole ys e r f) = absurd (full e)
short_elements R c m ends full bare xs d (last_element y j r (no_comma e) f) = inr (rw e (ends y j r))
short_elements R c m ends full bare xs d (last_element y j r (last_comma g e i) f) = absurd (bare (moved_kind j m (ends y j r) e))
short_elements R c m ends full bare xs d (more_elements y z zs j r e f rs g) = absurd (bare (moved_kind j m (ends y j r) f))

-- ---- keys: nothing stands before one that begins here

pub record IsKeyFirst (c : Place) : Type 0 where
  pub no_async : word_at (codes "async") c ≡ false
  pub no_get : word_at (codes "get") c ≡ false
  pub no_set : word_at (codes "set") c ≡ false
  pub no_star : sees kind.Mul c ≡ false

not_starred : (c m : Place) → sees kind.Mul c ≡ false → m ≡ c → kind_at m ≡ kind.Mul → ⊥
unfolding same_kind
not_starred c m h e f = let g = moved_kind m c e f in let i : sees kind.Mul c ≡ true = rw g refl in cc

pub key_first : (c : Place) → IsKeyFirst c → (f : MethodKind) (is_async is_generator : Bool) (d : Place) → MethodHead f is_async is_generator c d → d ≡ c
key_first c h f a g d (method_head m e (not_async i j) (no_star l o)) = rw (o, j) refl
key_first c h f a g d (method_head m e (not_async i j) (star l o q)) = absurd (not_starred c m h.no_star j o)
key_first c h f a g d (method_head m e (async_word i j l o) q) = let r = h.no_async in cc
key_first c h f a g d (getter_head e i j l o) = let r = h.no_get in cc
key_first c h f a g d (setter_head e i j l o) = let r = h.no_set in cc
