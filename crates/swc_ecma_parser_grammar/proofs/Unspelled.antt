-- Lists of tokens that no expression spells, whatever its tree and wherever it ends.
use Rattle.std.proofs.Common.{◌≡◌, ℕ, zero, suc, ◌≤◌, true, false, [], ◌∷◌, Some, refl, ap, arith}
use Rattle.std.specs.Prelude.{codes}
use Rattle.swc_ecma_parser_common.specs.declared.span.Span.{Span}
use Rattle.swc_ecma_parser_token.specs.declared.kind.TokenKind.TheVariants as kind
use Rattle.swc_ecma_parser_token.specs.declared.operator.BinOpToken.TheVariants as bin
use Rattle.swc_ecma_parser_token.specs.declared.token.Token.TheVariants as token
use Rattle.swc_ecma_parser_input.specs.Place.{Place, after}
use Rattle.swc_ecma_parser_model.specs.declared.operators.UnaryOp.{UnaryOp}
use Rattle.swc_ecma_parser_model.specs.declared.operators.BinaryOp.{BinaryOp}
use Rattle.swc_ecma_parser_model.specs.declared.operators.BinaryOp.TheVariants as binary
use Rattle.swc_ecma_parser_model.specs.Tree as tree
use Rattle.swc_ecma_parser_model.specs.Tree.{Tree, Text}
use Rattle.swc_ecma_parser_grammar.specs.Looks.{kind_at}
use Rattle.swc_ecma_parser_grammar.specs.Names.{Code}
use Rattle.swc_ecma_parser_grammar.specs.language.LeftSides.{OperandRule}
use Rattle.swc_ecma_parser_grammar.specs.language.Contexts.{with_in}
use Rattle.swc_ecma_parser_grammar.specs.language.Goals.{Goal, expr_goal, expression, operator, unary}
use Rattle.swc_ecma_parser_grammar.specs.language.Operators.{binary_operator, precedence, groups_left, mixes, is_unary}
use Rattle.swc_ecma_parser_grammar.specs.language.Continues.{continues_assignment}
use Rattle.swc_ecma_parser_grammar.specs.language.Expressions.{UnaryRule, operand_rule, unary_rule, prefix_rule, postfix_rule, await_rule, BinaryRule, single_rule, left_rule, power_rule, private_in_rule, AssignmentRule}
use Rattle.swc_ecma_parser_grammar.specs.language.Reads.{Reads}
use Rattle.swc_ecma_parser_grammar.proofs.Spelling as spelling
use Rattle.swc_ecma_parser_grammar.proofs.Spelling.{at, t, below, named, start, behind, plain, looks}
use Rattle.swc_ecma_parser_grammar.proofs.Beginnings.{IsNoPrimary, no_primary}
use Rattle.swc_ecma_parser_grammar.proofs.Inversions.{IsLone, IsPlain, IsUnassigned, moved_kind, moved_operator, stops, no_left_side, binary_unary, lone_operand, lone_unary, lone_name, by_operators, no_expression, plain_unassigned}

abbrev k : Code
k = with_in plain

-- ---- `a` and on the next line `=> b`

abbrev arrow_tokens : Place
arrow_tokens = start (t (named (codes "a")) 0 1 ∷ below token.Arrow 2 4 ∷ t (named (codes "b")) 5 6 ∷ [])

arrow_name : IsLone k arrow_tokens
unfolding looks
arrow_name = record { no_opening = refl; no_function = refl; no_form = refl; unprefixed = record { no_unary = refl; no_update = refl; no_await = refl }; no_access = refl; no_postfix = refl }

arrow_plain : IsPlain arrow_tokens
unfolding looks
arrow_plain = record { no_async = refl; no_yield = refl; no_paren = refl; no_bracket = refl; no_arrow = refl }

arrow_unassigned : (n : ℕ) → IsUnassigned (Reads n) k arrow_tokens
unfolding looks
arrow_unassigned n = plain_unassigned n k arrow_tokens arrow_plain (λ y m r s. rw (lone_operand arrow_tokens arrow_name y m r) refl)

arrow_unary : (n : ℕ) (x : Tree) (d : Place) → BinaryRule (Reads n) k 1 x arrow_tokens d → UnaryRule (Reads n) k x arrow_tokens d
unfolding looks
arrow_unary n x d r = binary_unary arrow_tokens (behind 1 arrow_tokens) (λ h. cc) refl (lone_unary arrow_tokens arrow_name) 1 x d r

arrow_unconditional : (n : ℕ) (x : Tree) (d : Place) → BinaryRule (Reads n) k 1 x arrow_tokens d → kind_at d ≡ kind.QuestionMark → ⊥
unfolding looks
arrow_unconditional n x d r e = let f = moved_kind d (behind 1 arrow_tokens) (lone_unary arrow_tokens arrow_name x d (arrow_unary n x d r)) e in cc

no_arrow_below : (n : ℕ) (x : Tree) (d : Place) → AssignmentRule (Reads n) k x arrow_tokens d → ⊥
unfolding looks
no_arrow_below n x d r =
    let (b, h) = by_operators arrow_tokens (arrow_unassigned n) (arrow_unconditional n) x d r in
    let u = arrow_unary n x d b in
    let (s, text, e) = lone_name arrow_tokens arrow_name refl x d u in
    let g = stops k x (tree.ident s text) arrow_tokens d (behind 1 arrow_tokens) e (lone_unary arrow_tokens arrow_name x d u) h in
    cc

arrow_below : (n : ℕ) (x : Tree) (d : Place) → Reads n (expr_goal expression k x arrow_tokens d) → ⊥
arrow_below zero x d r = r
arrow_below (suc n) x d r = no_expression arrow_tokens (no_arrow_below n) x d r

-- ---- `a ?? b || c`

abbrev mixed_tokens : Place
mixed_tokens =
    start (t (named (codes "a")) 0 1 ∷ t (spelling.operator bin.NullishCoalescing) 2 4 ∷ t (named (codes "b")) 5 6 ∷ t (spelling.operator bin.LogicalOr) 7 9 ∷ t (named (codes "c")) 10 11 ∷ [])

-- so many tokens on
abbrev mixed : ℕ → Place
mixed i = behind i mixed_tokens

mixed_first : IsLone k (mixed 0)
unfolding looks
mixed_first = record { no_opening = refl; no_function = refl; no_form = refl; unprefixed = record { no_unary = refl; no_update = refl; no_await = refl }; no_access = refl; no_postfix = refl }

mixed_second : IsLone k (mixed 2)
unfolding looks
mixed_second = record { no_opening = refl; no_function = refl; no_form = refl; unprefixed = record { no_unary = refl; no_update = refl; no_await = refl }; no_access = refl; no_postfix = refl }

mixed_plain : IsPlain mixed_tokens
unfolding looks
mixed_plain = record { no_async = refl; no_yield = refl; no_paren = refl; no_bracket = refl; no_arrow = refl }

mixed_unassigned : (n : ℕ) → IsUnassigned (Reads n) k mixed_tokens
unfolding looks
mixed_unassigned n = plain_unassigned n k mixed_tokens mixed_plain (λ y m r s. rw (lone_operand mixed_tokens mixed_first y m r) refl)

too_loose : (op : BinaryOp) (i : ℕ) → Some binary.LogicalOr ≡ Some op → 2 ≤ i → i ≤ precedence op → ⊥
too_loose op i e h a = let f : binary.LogicalOr ≡ op = cc in let g : 1 ≡ precedence op = ap precedence f in absurd (omega arith)

-- `b` is the right operand of `??`, since `||` binds looser
second_operand : (n i : ℕ) (x : Tree) (d : Place) → 2 ≤ i → BinaryRule (Reads n) k i x (mixed 2) d → d ≡ mixed 3
unfolding looks
second_operand n i x d h (single_rule r) = lone_unary (mixed 2) mixed_second x d r
second_operand n i x d h (left_rule op l y m a g o r f s u v q) =
    let e = second_operand n (precedence op) l m (omega arith) r in
    absurd (too_loose op i (moved_operator m (mixed 3) e f) h a)
second_operand n i x d h (power_rule l y m a r f g s q) = let e = moved_kind m (mixed 3) (lone_unary (mixed 2) mixed_second l m r) g in cc
second_operand n i x d h (private_in_rule l y m a g r f s q) = let e = r.hash in cc

coalesced_right : (n : ℕ) (op : BinaryOp) (y : Tree) (m d : Place) → m ≡ mixed 1 → binary.NullishCoalescing ≡ op → Reads n (expr_goal (operator (suc (precedence op))) k y (after m) d) → d ≡ mixed 3
unfolding looks
coalesced_right zero op y m d e f r = absurd r
coalesced_right (suc n) op y m d e f r =
    let g : after m ≡ mixed 2 = ap after e in
    let h : 1 ≡ precedence op = ap precedence f in
    second_operand n (suc (precedence op)) y d (omega arith) (rw g at r.0)

-- `a`, or `a ?? b`
data FirstOperand (x : Tree) (d : Place) : Type 0 where
  alone : (s : Span) (text : Text) → d ≡ mixed 1 → x ≡ tree.ident s text → FirstOperand x d
  coalesced : (s : Span) (l r : Tree) → d ≡ mixed 3 → x ≡ tree.bin s binary.NullishCoalescing l r → FirstOperand x d

more_operands : (n : ℕ) (op : BinaryOp) (l y x : Tree) (s : Span) (m d : Place) → FirstOperand l m → binary_operator (kind_at m) ≡ Some op
    → Reads n (expr_goal (operator (suc (precedence op))) k y (after m) d) → mixes op l ≡ false → x ≡ tree.bin s op l y → FirstOperand x d
unfolding looks
more_operands n op l y x s m d (alone z w e q) f r h i =
    let g : binary.NullishCoalescing ≡ op = let j = moved_operator m (mixed 1) e f in cc in
    coalesced s l y (coalesced_right n op y m d e g r) (rw g i)
more_operands n op l y x s m d (coalesced z a b e g) f r h i =
    let j : binary.LogicalOr ≡ op = let o = moved_operator m (mixed 3) e f in cc in
    let q : mixes binary.LogicalOr (tree.bin z binary.NullishCoalescing a b) ≡ false = rw (← j, g) at h in
    cc

first_operand : (n i : ℕ) (x : Tree) (d : Place) → BinaryRule (Reads n) k i x (mixed 0) d → FirstOperand x d
unfolding looks
first_operand n i x d (single_rule r) = let (s, text, e) = lone_name (mixed 0) mixed_first refl x d r in alone s text (lone_unary (mixed 0) mixed_first x d r) e
first_operand n i x d (left_rule op l y m a g o r f s u v q) = more_operands n op l y x _ m d (first_operand n (precedence op) l m r) f s u q
first_operand n i x d (power_rule l y m a r f g s q) = let e = moved_kind m (mixed 1) (lone_unary (mixed 0) mixed_first l m r) g in cc
first_operand n i x d (private_in_rule l y m a g r f s q) = let e = r.hash in cc

mixed_unconditional : (x : Tree) (m : Place) → FirstOperand x m → kind_at m ≡ kind.QuestionMark → ⊥
unfolding looks
mixed_unconditional x m (alone s text e f) h = let g = moved_kind m (mixed 1) e h in cc
mixed_unconditional x m (coalesced s l r e f) h = let g = moved_kind m (mixed 3) e h in cc

mixed_ends : (x : Tree) (d : Place) → FirstOperand x d → continues_assignment k x mixed_tokens d ≡ false → ⊥
unfolding looks
mixed_ends x d (alone s text e f) h = let g = stops k x (tree.ident s text) mixed_tokens d (mixed 1) f e h in cc
mixed_ends x d (coalesced s l r e f) h = let g = stops k x (tree.bin s binary.NullishCoalescing l r) mixed_tokens d (mixed 3) f e h in cc

no_mixture : (n : ℕ) (x : Tree) (d : Place) → AssignmentRule (Reads n) k x mixed_tokens d → ⊥
no_mixture n x d r =
    let (b, h) = by_operators mixed_tokens (mixed_unassigned n) (λ y m s. mixed_unconditional y m (first_operand n 1 y m s)) x d r in
    mixed_ends x d (first_operand n 1 x d b) h

unmixed : (n : ℕ) (x : Tree) (d : Place) → Reads n (expr_goal expression k x mixed_tokens d) → ⊥
unmixed zero x d r = r
unmixed (suc n) x d r = no_expression mixed_tokens (no_mixture n) x d r

-- ---- `-a ** b`

abbrev power_tokens : Place
power_tokens = start (t (spelling.operator bin.Sub) 0 1 ∷ t (named (codes "a")) 1 2 ∷ t (spelling.operator bin.Exp) 3 5 ∷ t (named (codes "b")) 6 7 ∷ [])

abbrev power : ℕ → Place
power i = behind i power_tokens

power_begins : IsNoPrimary power_tokens
unfolding looks
power_begins = record { no_word = refl; no_literal = refl; no_opening = refl; no_function = refl }

power_base : IsLone k (power 1)
unfolding looks
power_base = record { no_opening = refl; no_function = refl; no_form = refl; unprefixed = record { no_unary = refl; no_update = refl; no_await = refl }; no_access = refl; no_postfix = refl }

power_plain : IsPlain power_tokens
unfolding looks
power_plain = record { no_async = refl; no_yield = refl; no_paren = refl; no_bracket = refl; no_arrow = refl }

base_alone : (n : ℕ) (x : Tree) (d : Place) → Reads n (expr_goal unary k x (power 1) d) → d ≡ power 2
unfolding looks
base_alone zero x d r = absurd r
base_alone (suc n) x d r = lone_unary (power 1) power_base x d r.0

no_base : {In : Goal → Type 0} (x : Tree) (d : Place) → OperandRule In k x power_tokens d → ⊥
unfolding looks
no_base x d r = no_left_side power_tokens refl (no_primary power_tokens power_begins) x d r.0

-- `-a`
data Negation (x : Tree) (d : Place) : Type 0 where
  negation : (s : Span) (op : UnaryOp) (e : Tree) → d ≡ power 2 → x ≡ tree.unary s op e → Negation x d

negated : (n : ℕ) (x : Tree) (d : Place) → UnaryRule (Reads n) k x power_tokens d → Negation x d
unfolding looks
negated n x d (operand_rule r) = absurd (no_base x d r)
negated n x d (unary_rule op e f r g) = negation _ op e (base_alone n e d r) g
negated n x d (prefix_rule op e f r g i) = cc
negated n x d (postfix_rule op e m r s b f g i) = absurd (no_base e m r)
negated n x d (await_rule e f g r i) = cc

-- it is no base of a power
negated_base : (l : Tree) (m : Place) → Negation l m → is_unary l ≡ false → ⊥
negated_base l m (negation s op e f g) h = let i : is_unary (tree.unary s op e) ≡ false = rw g at h in cc

negated_left : (op : BinaryOp) (l : Tree) (m : Place) → Negation l m → groups_left op ≡ true → binary_operator (kind_at m) ≡ Some op → ⊥
unfolding looks
negated_left op l m (negation s u e f g) h i = let j : binary.Exp ≡ op = let o = moved_operator m (power 2) f i in cc in cc

power_operands : (n i : ℕ) (x : Tree) (d : Place) → BinaryRule (Reads n) k i x power_tokens d → Negation x d
unfolding looks
power_operands n i x d (single_rule r) = negated n x d r
power_operands n i x d (left_rule op l y m a g o r f s u v q) = absurd (negated_left op l m (power_operands n (precedence op) l m r) g f)
power_operands n i x d (power_rule l y m a r f g s q) = absurd (negated_base l m (negated n l m r) f)
power_operands n i x d (private_in_rule l y m a g r f s q) = absurd (let e = r.hash in cc)

power_unconditional : (y : Tree) (m : Place) → Negation y m → kind_at m ≡ kind.QuestionMark → ⊥
unfolding looks
power_unconditional y m (negation s op e f g) h = let i = moved_kind m (power 2) f h in cc

power_ends : (x : Tree) (d : Place) → Negation x d → continues_assignment k x power_tokens d ≡ false → ⊥
unfolding looks
power_ends x d (negation s op e f g) h = let i = stops k x (tree.unary s op e) power_tokens d (power 2) g f h in cc

no_power : (n : ℕ) (x : Tree) (d : Place) → AssignmentRule (Reads n) k x power_tokens d → ⊥
no_power n x d r =
    let (b, h) = by_operators power_tokens (plain_unassigned n k power_tokens power_plain (λ y m s e. absurd (no_base y m s)))
    (λ y m s. power_unconditional y m (power_operands n 1 y m s)) x d r in
    power_ends x d (power_operands n 1 x d b) h

negated_power : (n : ℕ) (x : Tree) (d : Place) → Reads n (expr_goal expression k x power_tokens d) → ⊥
negated_power zero x d r = r
negated_power (suc n) x d r = no_expression power_tokens (no_power n) x d r
