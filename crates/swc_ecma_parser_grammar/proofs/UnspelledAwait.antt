-- `[await [0]] = x` is spelled by no expression: `await` is an operator there, and no target.
use Rattle.swc_ecma_parser_grammar.specs.Follows.{AsyncWord, not_async, async_word}
use Rattle.std.proofs.Common.{◌≡◌, ℕ, zero, suc, Bool, true, false, List, [], ◌∷◌, ◌⊎◌, inl, inr, refl}
use Rattle.std.specs.Prelude.{codes}
use Rattle.swc_ecma_parser_common.specs.declared.span.Span.{Span}
use Rattle.swc_ecma_parser_token.specs.declared.keyword.Keyword.TheVariants as keywords
use Rattle.swc_ecma_parser_token.specs.declared.kind.TokenKind.TheVariants as kind
use Rattle.swc_ecma_parser_token.specs.declared.token.Token.TheVariants as token
use Rattle.swc_ecma_parser_input.specs.Place.{Place, after}
use Rattle.swc_ecma_parser_model.specs.Tree as tree
use Rattle.swc_ecma_parser_model.specs.Tree.{Tree, listed}
use Rattle.swc_ecma_parser_model.specs.Forms.{is_simple_target, is_pattern_target, is_binding_name}
use Rattle.swc_ecma_parser_grammar.specs.Looks.{kind_at, breaks_at, spanned}
use Rattle.swc_ecma_parser_grammar.specs.Names.{Code}
use Rattle.swc_ecma_parser_grammar.specs.language.PatternItems.{PatternItemRule, element_rule, rest_rule}
use Rattle.swc_ecma_parser_grammar.specs.language.Contexts.{with_in}
use Rattle.swc_ecma_parser_grammar.specs.language.Goals.{binding, assigning, expr_goal, expression, assignment, unary}
use Rattle.swc_ecma_parser_grammar.specs.language.Continues.{continues_assignment}
use Rattle.swc_ecma_parser_grammar.specs.language.Lists.{Elements, no_elements, hole, last_element, more_elements}
use Rattle.swc_ecma_parser_grammar.specs.language.Parts.{ElementRule, plain_element, spread_element}
use Rattle.swc_ecma_parser_grammar.specs.language.LeftSides.{PrimaryRule, OperandRule}
use Rattle.swc_ecma_parser_grammar.specs.language.Patterns.{PatternRule, binding_name_rule, target_name_rule, target_rule, array_rule, object_rule, PatternElementRule, bare_rule, initialized_rule}
use Rattle.swc_ecma_parser_grammar.specs.language.Expressions.{UnaryRule, operand_rule, unary_rule, prefix_rule, postfix_rule, await_rule, BinaryRule, ArrowHeadRule, name_head, parameters_head, AssignmentRule}
use Rattle.swc_ecma_parser_grammar.specs.language.Reads.{Reads}
use Rattle.swc_ecma_parser_grammar.proofs.Spelling.{t, named, keyword, equals, start, behind, plain, looks}
use Rattle.swc_ecma_parser_grammar.proofs.Beginnings.{word_of, IsBracketFirst, ByBracket, by_array, by_object, by_paren, by_bracket}
use Rattle.swc_ecma_parser_grammar.proofs.Inversions.{moved_kind, stops, IsUnprefixed, IsLone, IsPlain, IsUnassigned, left_side_primary, unary_operand, binary_unary, by_operators, plain_unassigned, lone_assignment, no_expression, short_elements}

abbrev k : Code
k = with_in plain

abbrev tokens : Place
tokens =
    start (t token.LBracket 0 1 ∷ t (keyword keywords.Await) 1 6 ∷ t token.LBracket 7 8 ∷ t (token.Num (codes "0")) 8 9 ∷ t token.RBracket 9 10 ∷ t token.RBracket 10 11 ∷ t equals 12 13
    ∷ t (named (codes "x")) 14 15 ∷ [])

-- so many tokens on
abbrev on : ℕ → Place
on i = behind i tokens

-- ---- `0`

zero_alone : IsLone k (on 3)
unfolding looks
zero_alone = record { no_opening = refl; no_function = refl; no_form = refl; unprefixed = record { no_unary = refl; no_update = refl; no_await = refl }; no_access = refl; no_postfix = refl }

zero_plain : IsPlain (on 3)
unfolding looks
zero_plain = record { no_async = refl; no_yield = refl; no_paren = refl; no_bracket = refl; no_arrow = refl }

zero_read : (n : ℕ) (x : Tree) (d : Place) → Reads n (expr_goal assignment k x (on 3) d) → d ≡ on 4
unfolding looks
zero_read zero x d r = absurd r
zero_read (suc n) x d r = lone_assignment n (on 3) zero_alone zero_plain refl refl (λ h. cc) x d r

zero_element : (n : ℕ) (x : Tree) (d : Place) → ElementRule (Reads n) k x (on 3) d → d ≡ on 4
unfolding looks
zero_element n x d (plain_element e r f) = zero_read n e d r
zero_element n x d (spread_element e g r f) = absurd cc

-- ---- `[0]`

behind_zero : (m d : Place) → (m ≡ on 3) ⊎ (m ≡ on 4) → kind_at m ≡ kind.RBracket → d ≡ after m → d ≡ on 5
unfolding looks
behind_zero m d (inl e) f g = absurd (let h = moved_kind m (on 3) e f in cc)
behind_zero m d (inr e) f g = rw (g, e) refl

inner_first : IsBracketFirst (on 2)
unfolding looks
inner_first = record { no_template = refl; no_word = refl; no_literal = refl; no_body = refl; no_function = refl }

inner_array : (n : ℕ) (x : Tree) (d : Place) → ByBracket (Reads n) k x (on 2) d → d ≡ on 5
unfolding looks
inner_array n x d (by_array xs m e r g i j) = behind_zero m d (short_elements (ElementRule (Reads n) k) (on 3) (on 4) (zero_element n) (λ h. cc) (λ h. cc) xs m r) g i
inner_array n x d (by_object xs m e r g i) = absurd cc
inner_array n x d (by_paren y m e r g i) = absurd cc

inner_primary : (n : ℕ) (x : Tree) (d : Place) → PrimaryRule (Reads n) k x (on 2) d → d ≡ on 5
unfolding looks
inner_primary n x d r = inner_array n x d (by_bracket (on 2) inner_first x d r)

inner_operand : (n : ℕ) (x : Tree) (d : Place) → OperandRule (Reads n) k x (on 2) d → d ≡ on 5
unfolding looks
inner_operand n x d r = inner_primary n x d (left_side_primary (on 2) (on 5) refl refl (inner_primary n) x d r.0)

inner_unprefixed : IsUnprefixed k (on 2)
unfolding looks
inner_unprefixed = record { no_unary = refl; no_update = refl; no_await = refl }

awaited : (n : ℕ) (x : Tree) (d : Place) → Reads n (expr_goal unary k x (on 2) d) → d ≡ on 5
unfolding looks
awaited zero x d r = absurd r
awaited (suc n) x d r = inner_operand n x d (unary_operand (on 2) (on 5) inner_unprefixed refl (inner_operand n) x d r.0)

-- ---- `await [0]`

await_unary : (n : ℕ) (x : Tree) (d : Place) → UnaryRule (Reads n) k x (on 1) d → d ≡ on 5
unfolding looks
await_unary n x d (operand_rule r) = absurd (let e = r.1 in cc)
await_unary n x d (unary_rule op e f r g) = absurd cc
await_unary n x d (prefix_rule op e f r g i) = absurd cc
await_unary n x d (postfix_rule op e m r s b f g i) = absurd (let j = r.1 in cc)
await_unary n x d (await_rule e f g r i) = awaited n e d r

await_plain : IsPlain (on 1)
unfolding looks
await_plain = record { no_async = refl; no_yield = refl; no_paren = refl; no_bracket = refl; no_arrow = refl }

await_read : (n : ℕ) (x : Tree) (d : Place) → Reads n (expr_goal assignment k x (on 1) d) → d ≡ on 5
unfolding looks
await_read zero x d r = absurd r
await_read (suc n) x d r =
    let u = plain_unassigned n k (on 1) await_plain (λ y m s e. absurd (let f = s.1 in cc)) in
    let (b, h) = by_operators (on 1) u (λ y m s e. let f = moved_kind m (on 5) (await_unary n y m (binary_unary (on 1) (on 5) (λ h. cc) refl (await_unary n) 1 y m s)) e in cc) x d r in
    await_unary n x d (binary_unary (on 1) (on 5) (λ h. cc) refl (await_unary n) 1 x d b)

await_element : (n : ℕ) (x : Tree) (d : Place) → ElementRule (Reads n) k x (on 1) d → d ≡ on 5
unfolding looks
await_element n x d (plain_element e r f) = await_read n e d r
await_element n x d (spread_element e g r f) = absurd cc

-- ---- `[await [0]]` as an array, which is no target

behind_await : (m d : Place) → (m ≡ on 1) ⊎ (m ≡ on 5) → kind_at m ≡ kind.RBracket → d ≡ after m → d ≡ on 6
unfolding looks
behind_await m d (inl e) f g = absurd (let h = moved_kind m (on 1) e f in cc)
behind_await m d (inr e) f g = rw (g, e) refl

data OuterArray (x : Tree) (d : Place) : Type 0 where
  outer_array : (s : Span) (e : Tree) → d ≡ on 6 → x ≡ tree.array s e → OuterArray x d

outer_first : IsBracketFirst (on 0)
unfolding looks
outer_first = record { no_template = refl; no_word = refl; no_literal = refl; no_body = refl; no_function = refl }

outer_bracket : (n : ℕ) (x : Tree) (d : Place) → ByBracket (Reads n) k x (on 0) d → OuterArray x d
unfolding looks
outer_bracket n x d (by_array xs m e r g i j) =
    outer_array _ _ (behind_await m d (short_elements (ElementRule (Reads n) k) (on 1) (on 5) (await_element n) (λ h. cc) (λ h. cc) xs m r) g i) j
outer_bracket n x d (by_object xs m e r g i) = absurd cc
outer_bracket n x d (by_paren y m e r g i) = absurd cc

outer_end : (x : Tree) (d : Place) → OuterArray x d → d ≡ on 6
outer_end x d (outer_array s e f g) = f

outer_primary : (n : ℕ) (x : Tree) (d : Place) → PrimaryRule (Reads n) k x (on 0) d → OuterArray x d
unfolding looks
outer_primary n x d r = outer_bracket n x d (by_bracket (on 0) outer_first x d r)

outer_operand : (n : ℕ) (x : Tree) (d : Place) → OperandRule (Reads n) k x (on 0) d → OuterArray x d
unfolding looks
outer_operand n x d r = outer_primary n x d (left_side_primary (on 0) (on 6) refl refl (λ y j s. outer_end y j (outer_primary n y j s)) x d r.0)

outer_unprefixed : IsUnprefixed k (on 0)
unfolding looks
outer_unprefixed = record { no_unary = refl; no_update = refl; no_await = refl }

outer_unary : (n : ℕ) (x : Tree) (d : Place) → UnaryRule (Reads n) k x (on 0) d → OuterArray x d
unfolding looks
outer_unary n x d r = outer_operand n x d (unary_operand (on 0) (on 6) outer_unprefixed refl (λ y j s. outer_end y j (outer_operand n y j s)) x d r)

outer_binary : (n : ℕ) (x : Tree) (d : Place) → BinaryRule (Reads n) k 1 x (on 0) d → OuterArray x d
unfolding looks
outer_binary n x d r = outer_unary n x d (binary_unary (on 0) (on 6) (λ h. cc) refl (λ y j s. outer_end y j (outer_unary n y j s)) 1 x d r)

not_simple : (x : Tree) (d : Place) → OuterArray x d → is_simple_target x ≡ true → ⊥
not_simple x d (outer_array s e f g) h = let i : is_simple_target (tree.array s e) ≡ true = rw g at h in cc

-- ---- and no pattern: its one element is neither a name nor a member

no_leaf : (n : ℕ) (x : Tree) (d : Place) → PatternRule (Reads n) assigning k x (on 1) d → ⊥
unfolding looks
no_leaf n x d (binding_name_rule text s e r f) = cc
no_leaf n x d (target_name_rule text s e g r f) = cc
no_leaf n x d (target_rule y e r s i f) = let g = r.1 in cc
no_leaf n x d (array_rule xs m e r f g i) = cc
no_leaf n x d (object_rule xs m e r f g i) = cc

no_element : (n : ℕ) (x : Tree) (d : Place) → PatternElementRule (Reads n) assigning k x (on 1) d → ⊥
no_element n x d (bare_rule r e) = no_leaf n x d r
no_element n x d (initialized_rule l y m r e s f) = no_leaf n l m r

no_item : (n : ℕ) (x : Tree) (d : Place) → PatternItemRule (Reads n) assigning k x (on 1) d → ⊥
unfolding looks
no_item zero x d (element_rule r) = r
no_item (suc n) x d (element_rule r) = no_element n x d r
no_item n x d (rest_rule y e r f) = cc

no_items : (n : ℕ) (xs : List Tree) (d : Place) → Elements (PatternItemRule (Reads n) assigning k) xs (on 1) d → kind_at d ≡ kind.RBracket → ⊥
unfolding looks
no_items n xs d (no_elements e f) g = let h = moved_kind d (on 1) f g in cc
no_items n xs d (hole ys e r f) g = cc
no_items n xs d (last_element y j r l f) g = no_item n y j r
no_items n xs d (more_elements y z zs j r e f rs i) g = no_item n y j r

no_target : (n : ℕ) (x : Tree) (d : Place) → PatternRule (Reads n) assigning k x (on 0) d → is_pattern_target x ≡ true → ⊥
unfolding looks
no_target n x d (binding_name_rule text s e r f) g = let h = word_of r.reads_word in cc
no_target n x d (target_name_rule text s e i r f) g = let h = word_of r.reads_word in cc
no_target n x d (target_rule y e r s i f) g = let h : is_pattern_target (tree.expr_pat y) ≡ true = rw f at g in cc
no_target n x d (array_rule xs m e r f j i) g = no_items n xs m r f
no_target n x d (object_rule xs m e r f j i) g = cc

no_bound : (n : ℕ) (x : Tree) (d : Place) → PatternRule (Reads n) binding k x (on 0) d → is_binding_name x ≡ true → ⊥
unfolding looks
no_bound n x d (binding_name_rule text s e r f) g = let h = word_of r.reads_word in cc
no_bound n x d (target_name_rule text s e i r f) g = cc
no_bound n x d (target_rule y e r s i f) g = cc
no_bound n x d (array_rule xs m e r f j i) g = let h : is_binding_name (tree.array_pat (spanned (on 0) d) (listed xs)) ≡ true = rw i at g in cc
no_bound n x d (object_rule xs m e r f j i) g = cc

no_head : (n : ℕ) (is_async : Bool) (ps : List Tree) (i j : Place) → AsyncWord is_async (on 0) i → ArrowHeadRule (Reads n) k ps i j → kind_at j ≡ kind.Arrow → breaks_at j ≡ false → ⊥
unfolding looks
no_head n is_async ps i j (async_word e f g l) r a b = cc
no_head zero is_async ps i j (not_async e f) (name_head p r s g) a b = r
no_head (suc n) is_async ps i j (not_async e f) (name_head p r s g) a b = let l : PatternRule (Reads n) binding k p (on 0) j = rw f at r in no_bound n p j l s
no_head n is_async ps i j (not_async e f) (parameters_head r) a b = let l = moved_kind i (on 0) f r.opens in cc

-- ---- so nothing stands before the `=`

outer_unassigned : (n : ℕ) → IsUnassigned (Reads n) k (on 0)
unfolding looks
outer_unassigned n = record {
  no_yield = refl;
  no_simple = λ x m r s. absurd (not_simple x m (outer_operand n x m r) s);
  no_target = λ x m r s e. no_target n x m r s;
  no_arrow = no_head n;
}

outer_unconditional : (x : Tree) (m : Place) → OuterArray x m → kind_at m ≡ kind.QuestionMark → ⊥
unfolding looks
outer_unconditional x m (outer_array s e f g) h = let i = moved_kind m (on 6) f h in cc

outer_ends : (x : Tree) (d : Place) → OuterArray x d → continues_assignment k x (on 0) d ≡ false → ⊥
unfolding looks
outer_ends x d (outer_array s e f g) h = let i = stops k x (tree.array s e) (on 0) d (on 6) g f h in cc

no_assignment_here : (n : ℕ) (x : Tree) (d : Place) → AssignmentRule (Reads n) k x (on 0) d → ⊥
no_assignment_here n x d r =
    let (b, h) = by_operators (on 0) (outer_unassigned n) (λ y m s. outer_unconditional y m (outer_binary n y m s)) x d r in
    outer_ends x d (outer_binary n x d b) h

await_target : (n : ℕ) (x : Tree) (d : Place) → Reads n (expr_goal expression k x tokens d) → ⊥
await_target zero x d r = r
await_target (suc n) x d r = no_expression tokens (no_assignment_here n) x d r
