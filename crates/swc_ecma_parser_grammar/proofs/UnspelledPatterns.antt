-- Lists of tokens with brackets that no expression spells, whatever its tree and wherever it ends.
use Rattle.swc_ecma_parser_grammar.specs.Follows.{AsyncWord, not_async, async_word}
use Rattle.std.proofs.Common.{◌≡◌, ℕ, zero, suc, Bool, true, false, List, [], ◌∷◌, ◌⊎◌, inl, inr, refl, ap}
use Rattle.std.specs.Prelude.{codes}
use Rattle.swc_ecma_parser_token.specs.declared.kind.TokenKind.TheVariants as kind
use Rattle.swc_ecma_parser_token.specs.declared.token.Token.TheVariants as token
use Rattle.swc_ecma_parser_input.specs.Place.{Place, after}
use Rattle.swc_ecma_parser_model.specs.declared.leaves.MethodKind.{MethodKind}
use Rattle.swc_ecma_parser_model.specs.declared.leaves.MethodKind.TheVariants as form
use Rattle.swc_ecma_parser_model.specs.Tree.{Tree}
use Rattle.swc_ecma_parser_grammar.specs.Looks.{kind_at, breaks_at, sees}
use Rattle.swc_ecma_parser_grammar.specs.Names.{Code}
use Rattle.swc_ecma_parser_grammar.specs.language.LeftSides.{OperandRule}
use Rattle.swc_ecma_parser_grammar.specs.language.PatternItems.{PatternItemRule, element_rule, rest_rule}
use Rattle.swc_ecma_parser_grammar.specs.language.Contexts.{with_in}
use Rattle.swc_ecma_parser_grammar.specs.language.Goals.{Goal, Purpose, binding, assigning, expr_goal, expression, assignment}
use Rattle.swc_ecma_parser_grammar.specs.language.Parts.{KeyRule, word_key, string_key, number_key, big_int_key, computed_key}
use Rattle.swc_ecma_parser_grammar.specs.language.Functions.{ParametersRule, MethodRule}
use Rattle.swc_ecma_parser_grammar.specs.language.Objects as property
use Rattle.swc_ecma_parser_grammar.specs.language.Objects.{PropertyRule}
use Rattle.swc_ecma_parser_grammar.specs.language.Patterns as pattern
use Rattle.swc_ecma_parser_grammar.specs.language.Patterns.{PatternPropertyRule, PatternRule, PatternElementRule}
use Rattle.swc_ecma_parser_grammar.specs.language.Expressions.{ArrowHeadRule, name_head, parameters_head, AssignmentRule}
use Rattle.swc_ecma_parser_grammar.specs.language.Reads.{Reads}
use Rattle.swc_ecma_parser_grammar.proofs.Spelling.{t, named, equals, start, behind, plain, looks}
use Rattle.swc_ecma_parser_grammar.proofs.Beginnings.{word_of, IsBracketFirst, ByBracket, by_array, by_object, by_paren, by_bracket}
use Rattle.swc_ecma_parser_grammar.proofs.Inversions.{moved_kind, IsUnprefixed, IsLone, IsPlain, IsUnassigned, no_left_side, no_unary, no_assignment, lone_assignment, no_pattern, bound_name, no_expression, short_list, IsKeyFirst, key_first}

abbrev k : Code
k = with_in plain

-- ---- `({a = 1})`

abbrev cover_tokens : Place
cover_tokens =
    start (t token.LParen 0 1 ∷ t token.LBrace 1 2 ∷ t (named (codes "a")) 2 3 ∷ t equals 4 5 ∷ t (token.Num (codes "1")) 6 7 ∷ t token.RBrace 7 8 ∷ t token.RParen 8 9 ∷ [])

-- so many tokens on
abbrev cover : ℕ → Place
cover i = behind i cover_tokens

moved_key : {In : Goal → Type 0} (x : Tree) (c e d : Place) → c ≡ e → KeyRule In k x c d → KeyRule In k x e d
moved_key x c e d h r = rw h at r

-- the key `a` is one token
key_alone : {In : Goal → Type 0} (x : Tree) (d : Place) → KeyRule In k x (cover 2) d → d ≡ cover 3
unfolding looks
key_alone x d (word_key text s r e) = r.reads_word.next
key_alone x d (string_key v w s r e) = r.next
key_alone x d (number_key w s r e) = r.next
key_alone x d (big_int_key w s r e) = r.next
key_alone x d (computed_key r) = let f = r.opens in cc

-- and no method begins with it
key_first_here : IsKeyFirst (cover 2)
unfolding looks
key_first_here = record { no_async = refl; no_get = refl; no_set = refl; no_star = refl }

no_method : {In : Goal → Type 0} (f : MethodKind) (is_async is_generator : Bool) (key : Tree) (ps : List Tree) (body : Tree) (d : Place)
    → MethodRule In (KeyRule In k) k f is_async is_generator key ps body (cover 2) d → ⊥
unfolding looks
no_method f is_async is_generator key ps body d r =
    let e = key_first (cover 2) key_first_here f is_async is_generator r.behind_head r.reads_head in
    let g = moved_kind r.behind_key (cover 3) (key_alone key r.behind_key (moved_key key r.behind_head (cover 2) r.behind_key e r.reads_key)) r.reads_parts.reads_parameters.opens in
    cc

property_alone : {In : Goal → Type 0} (x : Tree) (d : Place) → PropertyRule In k x (cover 2) d → d ≡ cover 3
unfolding looks
property_alone x d (property.spread_rule y e r f) = cc
property_alone x d (property.shorthand_rule text s r e) = r.reads_word.next
property_alone x d (property.key_value_rule key v m r e s f) = let g = moved_kind m (cover 3) (key_alone key m r) e in cc
property_alone x d (property.getter_rule key body r e) = absurd (no_method form.Getter false false key [] body d r)
property_alone x d (property.setter_rule key p body r e) = absurd (no_method form.Setter false false key (p ∷ []) body d r)
property_alone x d (property.method_rule a g key ps body r e) = absurd (no_method form.Method a g key ps body d r)

no_properties : (m : Place) → (m ≡ cover 2) ⊎ (m ≡ cover 3) → kind_at m ≡ kind.RBrace → ⊥
unfolding looks
no_properties m (inl e) f = let g = moved_kind m (cover 2) e f in cc
no_properties m (inr e) f = let g = moved_kind m (cover 3) e f in cc

-- so no object literal stands in the parentheses
brace_first : IsBracketFirst (cover 1)
unfolding looks
brace_first = record { no_template = refl; no_word = refl; no_literal = refl; no_body = refl; no_function = refl }

no_object : {In : Goal → Type 0} (x : Tree) (d : Place) → ByBracket In k x (cover 1) d → ⊥
unfolding looks
no_object x d (by_array xs m e r g i j) = cc
no_object {In = In} x d (by_object xs m e r g i) = no_properties m (short_list true (PropertyRule In k) (cover 2) (cover 3) property_alone (λ h. cc) xs m r) g
no_object x d (by_paren y m e r g i) = cc

no_operand : {In : Goal → Type 0} (x : Tree) (d : Place) → OperandRule In k x (cover 1) d → ⊥
unfolding looks
no_operand x d r = no_left_side (cover 1) refl (λ y m s. no_object y m (by_bracket (cover 1) brace_first y m s)) x d r.0

-- ---- ---- but an object pattern does, up to its `}`

one_alone : IsLone k (cover 4)
unfolding looks
one_alone = record { no_opening = refl; no_function = refl; no_form = refl; unprefixed = record { no_unary = refl; no_update = refl; no_await = refl }; no_access = refl; no_postfix = refl }

one_plain : IsPlain (cover 4)
unfolding looks
one_plain = record { no_async = refl; no_yield = refl; no_paren = refl; no_bracket = refl; no_arrow = refl }

default_alone : (n : ℕ) (x : Tree) (d : Place) → Reads n (expr_goal assignment k x (cover 4) d) → d ≡ cover 5
unfolding looks
default_alone zero x d r = absurd r
default_alone (suc n) x d r = lone_assignment n (cover 4) one_alone one_plain refl refl (λ h. cc) x d r

default_behind : (n : ℕ) (x : Tree) (m d : Place) → m ≡ cover 3 → Reads n (expr_goal assignment k x (after m) d) → d ≡ cover 5
unfolding looks
default_behind n x m d e r = let f : after m ≡ cover 4 = ap after e in default_alone n x d (rw f at r)

pattern_property : (n : ℕ) (p : Purpose) (x : Tree) (d : Place) → PatternPropertyRule (Reads n) p k x (cover 2) d → d ≡ cover 5
unfolding looks
pattern_property n p x d (pattern.key_value_rule key v m r e s f) = absurd (let g = moved_kind m (cover 3) (key_alone key m r) e in cc)
pattern_property n p x d (pattern.shorthand_rule text s r e f) = absurd (let g : sees kind.Assign (cover 3) ≡ false = rw (r.reads_word.next) at e in cc)
pattern_property n p x d (pattern.default_rule text s v m r e w f) = default_behind n v m d r.reads_word.next w
pattern_property n p x d (pattern.rest_rule y e r f g) = absurd cc

behind_brace : (m d : Place) → (m ≡ cover 2) ⊎ (m ≡ cover 5) → kind_at m ≡ kind.RBrace → d ≡ after m → d ≡ cover 6
unfolding looks
behind_brace m d (inl e) f g = absurd (let h = moved_kind m (cover 2) e f in cc)
behind_brace m d (inr e) f g = rw (g, e) refl

object_alone : (n : ℕ) (p : Purpose) (x : Tree) (d : Place) → PatternRule (Reads n) p k x (cover 1) d → d ≡ cover 6
unfolding looks
object_alone n p x d (pattern.binding_name_rule t s e r f) = absurd (let g = word_of r.reads_word in cc)
object_alone n p x d (pattern.target_name_rule t s e g r f) = absurd (let h = word_of r.reads_word in cc)
object_alone n p x d (pattern.target_rule y e r s i f) = absurd (no_operand y d r)
object_alone n p x d (pattern.array_rule xs m e r f g i) = absurd cc
object_alone n p x d (pattern.object_rule xs m e r f g i) =
    behind_brace m d (short_list true (PatternPropertyRule (Reads n) p k) (cover 2) (cover 5) (pattern_property n p) (λ h. cc) xs m r) f g

-- ---- so no expression stands in the parentheses, and no arrow follows them

unprefixed_brace : IsUnprefixed k (cover 1)
unfolding looks
unprefixed_brace = record { no_unary = refl; no_update = refl; no_await = refl }

no_inner_head : (n : ℕ) (is_async : Bool) (ps : List Tree) (i j : Place) → AsyncWord is_async (cover 1) i → ArrowHeadRule (Reads n) k ps i j → kind_at j ≡ kind.Arrow → breaks_at j ≡ false → ⊥
unfolding looks
no_inner_head n is_async ps i j (async_word e f g l) r a b = cc
no_inner_head zero is_async ps i j (not_async e f) (name_head p r s g) a b = r
no_inner_head (suc n) is_async ps i j (not_async e f) (name_head p r s g) a b =
    let l : PatternRule (Reads n) binding k p (cover 1) j = rw f at r in
    let o = moved_kind j (cover 6) (object_alone n binding p j l) a in
    cc
no_inner_head n is_async ps i j (not_async e f) (parameters_head r) a b = let l = moved_kind i (cover 1) f r.opens in cc

inner_unassigned : (n : ℕ) → IsUnassigned (Reads n) k (cover 1)
unfolding looks
inner_unassigned n = record {
  no_yield = refl;
  no_simple = λ x m r s. absurd (no_operand x m r);
  no_target = λ x m r s e. let h = moved_kind m (cover 6) (object_alone n assigning x m r) e in cc;
  no_arrow = no_inner_head n;
}

no_inner : (n : ℕ) (x : Tree) (d : Place) → AssignmentRule (Reads n) k x (cover 1) d → ⊥
unfolding looks
no_inner n x d r = no_assignment (cover 1) (inner_unassigned n) (λ h. cc) (no_unary (cover 1) unprefixed_brace no_operand) x d r

paren_first : IsBracketFirst (cover 0)
unfolding looks
paren_first = record { no_template = refl; no_word = refl; no_literal = refl; no_body = refl; no_function = refl }

no_paren : (n : ℕ) (x : Tree) (d : Place) → ByBracket (Reads n) k x (cover 0) d → ⊥
unfolding looks
no_paren n x d (by_array xs m e r g i j) = cc
no_paren n x d (by_object xs m e r g i) = cc
no_paren zero x d (by_paren y m e r g i) = r
no_paren (suc n) x d (by_paren y m e r g i) = no_expression (cover 1) (no_inner n) y m r

no_outer_operand : (n : ℕ) (x : Tree) (d : Place) → OperandRule (Reads n) k x (cover 0) d → ⊥
unfolding looks
no_outer_operand n x d r = no_left_side (cover 0) refl (λ y m s. no_paren n y m (by_bracket (cover 0) paren_first y m s)) x d r.0

item_element : (n : ℕ) (x : Tree) (d : Place) → PatternElementRule (Reads n) binding k x (cover 1) d → d ≡ cover 6
unfolding looks
item_element n x d (pattern.bare_rule r e) = object_alone n binding x d r
item_element n x d (pattern.initialized_rule l y m r e s f) = absurd (let g = moved_kind m (cover 6) (object_alone n binding l m r) e in cc)

item_alone : (n : ℕ) (x : Tree) (d : Place) → PatternItemRule (Reads n) binding k x (cover 1) d → d ≡ cover 6
unfolding looks
item_alone zero x d (element_rule r) = absurd r
item_alone (suc n) x d (element_rule r) = item_element n x d r
item_alone n x d (rest_rule y e r f) = absurd cc

-- behind the parentheses the list ends
no_arrow_behind : (m j : Place) → (m ≡ cover 1) ⊎ (m ≡ cover 6) → kind_at m ≡ kind.RParen → j ≡ after m → kind_at j ≡ kind.Arrow → ⊥
unfolding looks
no_arrow_behind m j (inl e) f g a = let h = moved_kind m (cover 1) e f in cc
no_arrow_behind m j (inr e) f g a = let h : j ≡ cover 7 = rw (g, e) refl in let i = moved_kind j (cover 7) h a in cc

no_outer_head : (n : ℕ) (is_async : Bool) (ps : List Tree) (i j : Place) → AsyncWord is_async (cover 0) i → ArrowHeadRule (Reads n) k ps i j → kind_at j ≡ kind.Arrow → breaks_at j ≡ false → ⊥
unfolding looks
no_outer_head n is_async ps i j (async_word e f g l) r a b = cc
no_outer_head zero is_async ps i j (not_async e f) (name_head p r s g) a b = r
no_outer_head (suc n) is_async ps i j (not_async e f) (name_head p r s g) a b =
    let l : PatternRule (Reads n) binding k p (cover 0) j = rw f at r in
    let o = moved_kind j (cover 1) (bound_name binding (cover 0) refl refl p j l) a in
    cc
no_outer_head n is_async ps i j (not_async e f) (parameters_head r) a b =
    let s : ParametersRule (Reads n) k ps (cover 0) j = rw f at r in
    no_arrow_behind s.close j (short_list true (PatternItemRule (Reads n) binding k) (cover 1) (cover 6) (item_alone n) (λ h. cc) ps s.close s.reads_patterns) s.closes s.next a

unprefixed_paren : IsUnprefixed k (cover 0)
unfolding looks
unprefixed_paren = record { no_unary = refl; no_update = refl; no_await = refl }

outer_unassigned : (n : ℕ) → IsUnassigned (Reads n) k (cover 0)
unfolding looks
outer_unassigned n = record {
  no_yield = refl;
  no_simple = λ x m r s. absurd (no_outer_operand n x m r);
  no_target = λ x m r s e. let h = no_pattern assigning (cover 0) refl x m r in cc;
  no_arrow = no_outer_head n;
}

no_outer : (n : ℕ) (x : Tree) (d : Place) → AssignmentRule (Reads n) k x (cover 0) d → ⊥
unfolding looks
no_outer n x d r = no_assignment (cover 0) (outer_unassigned n) (λ h. cc) (no_unary (cover 0) unprefixed_paren (no_outer_operand n)) x d r

cover_initializer : (n : ℕ) (x : Tree) (d : Place) → Reads n (expr_goal expression k x cover_tokens d) → ⊥
cover_initializer zero x d r = r
cover_initializer (suc n) x d r = no_expression cover_tokens (no_outer n) x d r
