-- Patterns that assign and patterns that bind are the same where names alone stand in them.
use Rattle.std.proofs.Common.{◌≡◌, ℕ, zero, suc, Bool, true, false, true≢false, List, [], ◌∷◌, Option, Some, None, refl, sym, ◌∙◌, ap}
use Rattle.std.specs.Prelude.{if◌then◌else◌}
use Rattle.swc_ecma_parser_token.specs.declared.kind.TokenKind.TheVariants as kind
use Rattle.swc_ecma_parser_input.specs.Place.{Place, after}
use Rattle.swc_ecma_parser_model.specs.Tree as tree
use Rattle.swc_ecma_parser_model.specs.Tree.{Tree, trees, listed}
use Rattle.swc_ecma_parser_model.specs.Forms.{is_rest}
use Rattle.swc_ecma_parser_model.specs.Targets.{binds, all_bind, if_binds}
use Rattle.swc_ecma_parser_grammar.specs.Looks.{kind_at, spanned}
use Rattle.swc_ecma_parser_grammar.specs.Names.{Code}
use Rattle.swc_ecma_parser_grammar.specs.scaffold.Supported.{supported_in, all_supported_in, is_supported_key_in}
use Rattle.swc_ecma_parser_grammar.specs.language.PatternItems.{PatternItemRule}
use Rattle.swc_ecma_parser_grammar.specs.language.Contexts.{with_in}
use Rattle.swc_ecma_parser_grammar.specs.language.Goals.{Goal, Purpose, binding, assigning, pattern_goal, element_goal}
use Rattle.swc_ecma_parser_grammar.specs.language.Lists.{ReadsListed, LastComma, no_comma, last_comma, Elements, no_elements, hole, last_element, more_elements}
use Rattle.swc_ecma_parser_grammar.specs.language.PatternItems as pattern_items
use Rattle.swc_ecma_parser_grammar.specs.language.Patterns as patterns
use Rattle.swc_ecma_parser_grammar.specs.language.Patterns.{PatternPropertyRule, PatternRule, PatternElementRule}
use Rattle.swc_ecma_parser_grammar.specs.language.Reads.{Reads}
use Rattle.swc_ecma_parser_grammar.proofs.Tests.{and_yes, and_both}
use Rattle.swc_ecma_parser_grammar.proofs.Ended.{ends_name, ended_awaits}
use Rattle.swc_ecma_parser_grammar.proofs.SupportedBegins.{supported_as}

-- ---- trees that bind

-- the form of a tree that binds does, and back
binds_as : (x y : Tree) → x ≡ y → binds x ≡ true → binds y ≡ true
binds_as x y e h = sym (ap binds e) ∙ h

binds_of : (x y : Tree) → x ≡ y → binds y ≡ true → binds x ≡ true
binds_of x y e h = ap binds e ∙ h

-- a pattern that is kept where it binds
pub bound_is : (o : Option Tree) (p : Tree) → if_binds o ≡ Some p → (o ≡ Some p) × (binds p ≡ true)
bound_is (Some q) p e = by_test (binds q) refl e
  where
    by_test : (b : Bool) → binds q ≡ b → (if b then Some q else None) ≡ Some p → (Some q ≡ Some p) × (binds p ≡ true)
    by_test true h f = (f, cc)
    by_test false h f = (cc, cc)
bound_is None p e = (cc, cc)

pub is_bound : (o : Option Tree) (p : Tree) → o ≡ Some p → binds p ≡ true → if_binds o ≡ Some p
is_bound o p e h = ap if_binds e ∙ rw h refl

-- ---- lists

-- from one rule to another, in lists of trees that bind
module _ (Rule Other : Tree → Place → Place → Type 0) (small : (x : Tree) (c d : Place) → Rule x c d → binds x ≡ true → Other x c d) where
  listed_again : (commas : Bool) (xs : List Tree) (c d : Place) → ReadsListed commas Rule xs c d → all_bind (trees xs) ≡ true → ReadsListed commas Other xs c d
  listed_again commas [] c d r h = r
  listed_again commas (x ∷ []) c d (m, r, l) h = (m, small x c m r (and_yes (binds x) _ h).0, l)
  listed_again commas (x ∷ y ∷ ys) c d (m, r, i, e, rs) h =
      let g = and_yes (binds x) _ h in (m, small x c m r g.0, i, e, listed_again commas (y ∷ ys) (after m) d rs g.1)

  all_as : (xs ys : List Tree) → xs ≡ ys → all_bind (trees xs) ≡ true → all_bind (trees ys) ≡ true
  all_as xs ys e h = sym (ap (λ l. all_bind (trees l)) e) ∙ h

  elements_again : {xs : List Tree} {c d : Place} → Elements Rule xs c d → all_bind (trees xs) ≡ true → Elements Other xs c d
  elements_again (no_elements e n) h = no_elements e n
  elements_again {xs = xs} (hole ys i rs e) h = hole ys i (elements_again rs (all_as xs (tree.absent ∷ ys) e h)) e
  elements_again {xs = xs} {c = c} (last_element y m r l e) h = last_element y m (small y c m r (and_yes (binds y) _ (all_as xs (y ∷ []) e h)).0) l e
  elements_again {xs = xs} {c = c} (more_elements y z zs m r i j rs e) h =
      let g = and_yes (binds y) _ (all_as xs (y ∷ z ∷ zs) e h) in more_elements y z zs m (small y c m r g.0) i j (elements_again rs g.1) e

-- behind the last part of a list its end stands, or a comma before it
pub last_ends : (commas : Bool) (x : Tree) (c d : Place) → LastComma commas x c d → ends_name (kind_at d) ≡ true → ends_name (kind_at c) ≡ true
last_ends commas x c d (no_comma e) h = ap (λ z. ends_name (kind_at z)) (sym e) ∙ h
last_ends commas x c d (last_comma a j n) h = ap ends_name j

-- and in lists of trees that are supported, which then bind
module _ (m : Bool) (Rule Other : Tree → Place → Place → Type 0)
    (small : (x : Tree) (c d : Place) → Rule x c d → supported_in m x ≡ true → ends_name (kind_at d) ≡ true → Other x c d × (binds x ≡ true)) where
  listed_down : (commas : Bool) (xs : List Tree) (c d : Place) → ReadsListed commas Rule xs c d → all_supported_in m (trees xs) ≡ true → ends_name (kind_at d) ≡ true
      → ReadsListed commas Other xs c d × (all_bind (trees xs) ≡ true)
  listed_down commas [] c d r h l = (r, refl)
  listed_down commas (x ∷ []) c d (i, r, o) h l =
      let (s, b) = small x c i r (and_yes (supported_in m x) _ h).0 (last_ends commas x i d o l) in ((i, s, o), and_both (binds x) true b refl)
  listed_down commas (x ∷ y ∷ ys) c d (i, r, n, e, rs) h l =
      let g = and_yes (supported_in m x) _ h in
      let (s, b) = small x c i r g.0 (ap ends_name e) in
      let (t, a) = listed_down commas (y ∷ ys) (after i) d rs g.1 l in
      ((i, s, n, e, t), and_both (binds x) _ b a)

  supported_all_as : (xs ys : List Tree) → xs ≡ ys → all_supported_in m (trees xs) ≡ true → all_supported_in m (trees ys) ≡ true
  supported_all_as xs ys e h = sym (ap (λ l. all_supported_in m (trees l)) e) ∙ h

  all_of : (xs ys : List Tree) → xs ≡ ys → all_bind (trees ys) ≡ true → all_bind (trees xs) ≡ true
  all_of xs ys e h = ap (λ l. all_bind (trees l)) e ∙ h

  elements_down : {xs : List Tree} {c d : Place} → Elements Rule xs c d → all_supported_in m (trees xs) ≡ true → ends_name (kind_at d) ≡ true
      → Elements Other xs c d × (all_bind (trees xs) ≡ true)
  elements_down {xs = xs} (no_elements e n) h l = (no_elements e n, all_of xs [] e refl)
  elements_down {xs = xs} (hole ys i rs e) h l =
      let (t, a) = elements_down rs (supported_all_as xs (tree.absent ∷ ys) e h) l in (hole ys i t e, all_of xs (tree.absent ∷ ys) e a)
  elements_down {xs = xs} {c = c} {d = d} (last_element y i r o e) h l =
      let (s, b) = small y c i r (and_yes (supported_in m y) _ (supported_all_as xs (y ∷ []) e h)).0 (last_ends true y i d o l) in
      (last_element y i s o e, all_of xs (y ∷ []) e (and_both (binds y) true b refl))
  elements_down {xs = xs} {c = c} (more_elements y z zs i r n j rs e) h l =
      let g = and_yes (supported_in m y) _ (supported_all_as xs (y ∷ z ∷ zs) e h) in
      let (s, b) = small y c i r g.0 (ap ends_name j) in
      let (t, a) = elements_down rs g.1 l in
      (more_elements y z zs i s n j t e, all_of xs (y ∷ z ∷ zs) e (and_both (binds y) _ b a))

-- ---- what assigns binds, where names alone stand in it

abbrev Again : (Goal → Type 0) → (Code → Tree → Place → Place → Goal) → (Code → Tree → Place → Place → Goal) → Type 0
Again In from to = (k : Code) (x : Tree) (c d : Place) → In (from k x c d) → binds x ≡ true → In (to k x c d)

module _ (In : Goal → Type 0) (pattern_small : Again In (pattern_goal assigning) (pattern_goal binding)) (element_small : Again In (element_goal assigning) (element_goal binding)) where
  item_rule_again : (k : Code) (x : Tree) (c d : Place) → PatternItemRule In assigning k x c d → binds x ≡ true → PatternItemRule In binding k x c d
  item_rule_again k x c d (pattern_items.element_rule r) h = pattern_items.element_rule (element_small k x c d r h)
  item_rule_again k x c d (pattern_items.rest_rule y i r e) h = pattern_items.rest_rule y i (pattern_small k y (after c) d r (binds_as x (tree.rest_pat (spanned c d) y) e h)) e

  property_rule_again : (k : Code) (x : Tree) (c d : Place) → PatternPropertyRule In assigning k x c d → binds x ≡ true → PatternPropertyRule In binding k x c d
  property_rule_again k x c d (patterns.key_value_rule key value m r i s e) h =
      patterns.key_value_rule key value m r i (element_small (with_in k) value (after m) d s (binds_as x (tree.key_value_pat_prop (spanned c d) key value) e h)) e
  property_rule_again k x c d (patterns.shorthand_rule text s r i e) h = patterns.shorthand_rule text s r i e
  property_rule_again k x c d (patterns.default_rule text s value m r i v e) h = patterns.default_rule text s value m r i v e
  property_rule_again k x c d (patterns.rest_rule y i r t e) h =
      patterns.rest_rule y i (pattern_small k y (after c) d r (binds_as x (tree.rest_pat (spanned c d) y) e h)) t e

  pattern_rule_again : (k : Code) (x : Tree) (c d : Place) → PatternRule In assigning k x c d → binds x ≡ true → PatternRule In binding k x c d
  pattern_rule_again k x c d (patterns.binding_name_rule text s p r e) h = patterns.binding_name_rule text s refl r e
  pattern_rule_again k x c d (patterns.target_name_rule text s p a r e) h = patterns.binding_name_rule text s refl r e
  pattern_rule_again k x c d (patterns.target_rule y p r t i e) h = absurd (true≢false (sym h ∙ ap binds e))
  pattern_rule_again k x c d (patterns.array_rule xs m i r j n e) h =
      patterns.array_rule xs m i (elements_again _ _ (item_rule_again (with_in k)) r (binds_as x (tree.array_pat (spanned c d) (listed xs)) e h)) j n e
  pattern_rule_again k x c d (patterns.object_rule xs m i r j n e) h =
      patterns.object_rule xs m i (listed_again _ _ (property_rule_again (with_in k)) true xs (after c) m r (binds_as x (tree.object_pat (spanned c d) (listed xs)) e h)) j n e

  element_rule_again : (k : Code) (x : Tree) (c d : Place) → PatternElementRule In assigning k x c d → binds x ≡ true → PatternElementRule In binding k x c d
  element_rule_again k x c d (patterns.bare_rule r i) h = patterns.bare_rule (pattern_rule_again k x c d r h) i
  element_rule_again k x c d (patterns.initialized_rule left right m r i s e) h =
      patterns.initialized_rule left right m (pattern_rule_again k left c m r (binds_as x (tree.assign_pat (spanned c d) left right) e h)) i s e

mutual
  -- a pattern
  pub again : (n : ℕ) (k : Code) (p : Tree) (c d : Place) → Reads n (pattern_goal assigning k p c d) → binds p ≡ true → Reads n (pattern_goal binding k p c d)
  again zero k p c d r h = absurd r
  again (suc n) k p c d r h = pattern_rule_again (Reads n) (again n) (element_again n) k p c d r h

  -- one with a default, or without
  pub element_again : (n : ℕ) (k : Code) (p : Tree) (c d : Place) → Reads n (element_goal assigning k p c d) → binds p ≡ true → Reads n (element_goal binding k p c d)
  element_again zero k p c d r h = absurd r
  element_again (suc n) k p c d r h = element_rule_again (Reads n) (again n) (element_again n) k p c d r h

-- ---- what binds assigns, where it is supported, before what ends a pattern

abbrev Down : (Goal → Type 0) → Bool → (Code → Tree → Place → Place → Goal) → (Code → Tree → Place → Place → Goal) → Type 0
Down In m from to = (k : Code) (x : Tree) (c d : Place) → In (from k x c d) → supported_in m x ≡ true → ends_name (kind_at d) ≡ true → In (to k x c d) × (binds x ≡ true)

module _ (In : Goal → Type 0) (m : Bool) (pattern_small : Down In m (pattern_goal binding) (pattern_goal assigning)) (element_small : Down In m (element_goal binding) (element_goal assigning)) where
  item_rule_down : (k : Code) (x : Tree) (c d : Place) → PatternItemRule In binding k x c d → supported_in m x ≡ true → ends_name (kind_at d) ≡ true
      → PatternItemRule In assigning k x c d × (binds x ≡ true)
  item_rule_down k x c d (pattern_items.element_rule r) h l = let (s, b) = element_small k x c d r h l in (pattern_items.element_rule s, b)
  item_rule_down k x c d (pattern_items.rest_rule y i r e) h l =
      let (s, b) = pattern_small k y (after c) d r (supported_as m x (tree.rest_pat (spanned c d) y) e h) l in
      (pattern_items.rest_rule y i s e, binds_of x (tree.rest_pat (spanned c d) y) e b)

  property_rule_down : (k : Code) (x : Tree) (c d : Place) → PatternPropertyRule In binding k x c d → supported_in m x ≡ true → ends_name (kind_at d) ≡ true
      → PatternPropertyRule In assigning k x c d × (binds x ≡ true)
  property_rule_down k x c d (patterns.key_value_rule key value i r j v e) h l =
      let g = and_yes (is_supported_key_in m key) _ (supported_as m x (tree.key_value_pat_prop (spanned c d) key value) e h) in
      let (s, b) = element_small (with_in k) value (after i) d v g.1 l in
      (patterns.key_value_rule key value i r j s e, binds_of x (tree.key_value_pat_prop (spanned c d) key value) e b)
  property_rule_down k x c d (patterns.shorthand_rule text s r i e) h l = (patterns.shorthand_rule text s r i e, ap binds e)
  property_rule_down k x c d (patterns.default_rule text s value i r j v e) h l = (patterns.default_rule text s value i r j v e, ap binds e)
  property_rule_down k x c d (patterns.rest_rule y i r t e) h l =
      let (s, b) = pattern_small k y (after c) d r (supported_as m x (tree.rest_pat (spanned c d) y) e h) l in
      (patterns.rest_rule y i s t e, binds_of x (tree.rest_pat (spanned c d) y) e b)

  pattern_rule_down : (k : Code) (x : Tree) (c d : Place) → PatternRule In binding k x c d → supported_in m x ≡ true → ends_name (kind_at d) ≡ true
      → PatternRule In assigning k x c d × (binds x ≡ true)
  pattern_rule_down k x c d (patterns.binding_name_rule text s p r e) h l =
      (patterns.target_name_rule text s refl (ended_awaits k.flags c d r.reads_word.next l) r e, ap binds e)
  pattern_rule_down k x c d (patterns.target_name_rule text s p a r e) h l = (patterns.target_name_rule text s refl a r e, ap binds e)
  pattern_rule_down k x c d (patterns.target_rule y p r t i e) h l = absurd (let q : binding ≡ assigning = p in cc)
  pattern_rule_down k x c d (patterns.array_rule xs i o r j n e) h l =
      let (s, b) = elements_down m _ _ (item_rule_down (with_in k)) r (supported_as m x (tree.array_pat (spanned c d) (listed xs)) e h) (ap ends_name j) in
      (patterns.array_rule xs i o s j n e, binds_of x (tree.array_pat (spanned c d) (listed xs)) e b)
  pattern_rule_down k x c d (patterns.object_rule xs i o r j n e) h l =
      let (s, b) = listed_down m _ _ (property_rule_down (with_in k)) true xs (after c) i r (supported_as m x (tree.object_pat (spanned c d) (listed xs)) e h) (ap ends_name j) in
      (patterns.object_rule xs i o s j n e, binds_of x (tree.object_pat (spanned c d) (listed xs)) e b)

  element_rule_down : (k : Code) (x : Tree) (c d : Place) → PatternElementRule In binding k x c d → supported_in m x ≡ true → ends_name (kind_at d) ≡ true
      → PatternElementRule In assigning k x c d × (binds x ≡ true)
  element_rule_down k x c d (patterns.bare_rule r i) h l = let (s, b) = pattern_rule_down k x c d r h l in (patterns.bare_rule s i, b)
  element_rule_down k x c d (patterns.initialized_rule left right i r j v e) h l =
      let g = and_yes (supported_in m left) _ (supported_as m x (tree.assign_pat (spanned c d) left right) e h) in
      let (s, b) = pattern_rule_down k left c i r g.0 (ap ends_name j) in
      (patterns.initialized_rule left right i s j v e, binds_of x (tree.assign_pat (spanned c d) left right) e b)

mutual
  -- a pattern
  pub down : (n : ℕ) (m : Bool) (k : Code) (p : Tree) (c d : Place) → Reads n (pattern_goal binding k p c d) → supported_in m p ≡ true → ends_name (kind_at d) ≡ true
      → Reads n (pattern_goal assigning k p c d) × (binds p ≡ true)
  down zero m k p c d r h l = absurd r
  down (suc n) m k p c d r h l = pattern_rule_down (Reads n) m (down n m) (element_down n m) k p c d r h l

  -- one with a default, or without
  pub element_down : (n : ℕ) (m : Bool) (k : Code) (p : Tree) (c d : Place) → Reads n (element_goal binding k p c d) → supported_in m p ≡ true → ends_name (kind_at d) ≡ true
      → Reads n (element_goal assigning k p c d) × (binds p ≡ true)
  element_down zero m k p c d r h l = absurd r
  element_down (suc n) m k p c d r h l = element_rule_down (Reads n) m (down n m) (element_down n m) k p c d r h l

-- ---- parameters

-- A parameter of an arrow function in parentheses: what could be assigned to and binds, or a rest that is read as it stands.
pub data ArrowPartRule (In : Goal → Type 0) (k : Code) (x : Tree) (c d : Place) : Type 0 where
  part_rule : In (element_goal assigning k x c d) → binds x ≡ true → is_rest x ≡ false → ArrowPartRule In k x c d
  rest_rule : (y : Tree) → kind_at c ≡ kind.DotDotDot → In (pattern_goal binding k y (after c) d) → x ≡ tree.rest_pat (spanned c d) y → ArrowPartRule In k x c d

-- no pattern is a rest
pattern_is_none : {In : Goal → Type 0} {p : Purpose} {k : Code} {x : Tree} {c d : Place} → PatternRule In p k x c d → is_rest x ≡ false
pattern_is_none (patterns.binding_name_rule text s i r e) = ap is_rest e
pattern_is_none (patterns.target_name_rule text s i a r e) = ap is_rest e
pattern_is_none (patterns.target_rule y i r a b e) = ap is_rest e
pattern_is_none (patterns.array_rule xs m i r j n e) = ap is_rest e
pattern_is_none (patterns.object_rule xs m i r j n e) = ap is_rest e

element_is_none : {In : Goal → Type 0} {p : Purpose} {k : Code} {x : Tree} {c d : Place} → PatternElementRule In p k x c d → is_rest x ≡ false
element_is_none (patterns.bare_rule r i) = pattern_is_none r
element_is_none (patterns.initialized_rule left right m r i s e) = ap is_rest e

pub element_no_rest : (n : ℕ) (p : Purpose) (k : Code) (x : Tree) (c d : Place) → Reads n (element_goal p k x c d) → is_rest x ≡ false
element_no_rest zero p k x c d r = absurd r
element_no_rest (suc n) p k x c d r = element_is_none r

-- one parameter as it would be assigned to
pub item_down : (n : ℕ) (m : Bool) (k : Code) (x : Tree) (c d : Place) → PatternItemRule (Reads n) binding k x c d → supported_in m x ≡ true → ends_name (kind_at d) ≡ true
    → PatternItemRule (Reads n) assigning k x c d × (binds x ≡ true)
item_down n m k x c d r h l = item_rule_down (Reads n) m (down n m) (element_down n m) k x c d r h l

-- one parameter, and back
pub parameter_down : (n : ℕ) (m : Bool) (k : Code) (x : Tree) (c d : Place) → PatternItemRule (Reads n) binding k x c d → supported_in m x ≡ true → ends_name (kind_at d) ≡ true
    → ArrowPartRule (Reads n) k x c d
parameter_down n m k x c d (pattern_items.element_rule r) h l =
    let (s, b) = element_down n m k x c d r h l in part_rule s b (element_no_rest n binding k x c d r)
parameter_down n m k x c d (pattern_items.rest_rule y i r e) h l = rest_rule y i r e

pub parameter_again : (n : ℕ) (k : Code) (x : Tree) (c d : Place) → ArrowPartRule (Reads n) k x c d → PatternItemRule (Reads n) binding k x c d
parameter_again n k x c d (part_rule r b i) = pattern_items.element_rule (element_again n k x c d r b)
parameter_again n k x c d (rest_rule y i r e) = pattern_items.rest_rule y i r e

-- all of them, and back
pub parameters_down : (n : ℕ) (m commas : Bool) (k : Code) (ps : List Tree) (c d : Place) → ReadsListed commas (PatternItemRule (Reads n) binding k) ps c d
    → all_supported_in m (trees ps) ≡ true → ends_name (kind_at d) ≡ true → ReadsListed commas (ArrowPartRule (Reads n) k) ps c d
parameters_down n m commas k [] c d r h l = r
parameters_down n m commas k (x ∷ []) c d (i, r, o) h l = (i, parameter_down n m k x c i r (and_yes (supported_in m x) _ h).0 (last_ends commas x i d o l), o)
parameters_down n m commas k (x ∷ y ∷ ys) c d (i, r, j, e, rs) h l =
    let g = and_yes (supported_in m x) _ h in
    (i, parameter_down n m k x c i r g.0 (ap ends_name e), j, e, parameters_down n m commas k (y ∷ ys) (after i) d rs g.1 l)

pub parameters_again : (n : ℕ) (commas : Bool) (k : Code) (ps : List Tree) (c d : Place) → ReadsListed commas (ArrowPartRule (Reads n) k) ps c d
    → ReadsListed commas (PatternItemRule (Reads n) binding k) ps c d
parameters_again n commas k [] c d r = r
parameters_again n commas k (x ∷ []) c d (i, r, l) = (i, parameter_again n k x c i r, l)
parameters_again n commas k (x ∷ y ∷ ys) c d (i, r, j, e, rs) = (i, parameter_again n k x c i r, j, e, parameters_again n commas k (y ∷ ys) (after i) d rs)
