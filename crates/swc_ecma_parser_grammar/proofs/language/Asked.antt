-- What a rule asks of its parts: the goals one level further in. Where these are known, the rule is one whatever reads them, and
-- what it reads is one deeper than the deepest of them.
use Rattle.std.proofs.Common.{◌≡◌, ℕ, suc, ◌≤◌, max, Bool, true, false, ◌||◌, refl, ap, arith}
use Rattle.swc_ecma_parser_token.specs.declared.kind.TokenKind.TheVariants as kind
use Rattle.swc_ecma_parser_model.specs.Tree.{Tree}
use Rattle.swc_ecma_parser_model.specs.Kinds.{is_block, is_if}
use Rattle.swc_ecma_parser_grammar.specs.Looks.{sees}
use Rattle.swc_ecma_parser_grammar.specs.language.Goals.{Goal, expr_goal, callee_goal, pattern_goal, element_goal, stmt_goal, member_goal, decorator_goal, using_goal, attributes_goal, item_goal}
use Rattle.swc_ecma_parser_grammar.specs.Depth.{depth, flat, is_head_decl}

-- how many levels a goal needs; the name behind `await using` in a for head stands one further in than its declarator
abbrev pub goal_depth : Goal → ℕ
goal_depth (expr_goal class k x c d) = depth x
goal_depth (callee_goal k x c d) = depth x
goal_depth (pattern_goal p k x c d) = depth x
goal_depth (element_goal p k x c d) = depth x
goal_depth (stmt_goal k at x c d) = depth x
goal_depth (member_goal k x c d) = depth x
goal_depth (decorator_goal k x c d) = depth x
goal_depth (using_goal k x c d) = suc (depth x)
goal_depth (attributes_goal k x c d) = depth x
goal_depth (item_goal k x c d) = depth x

-- the goals that a rule has for its parts
pub data Asked : Type 0 where
  none : Asked
  one : Goal → Asked
  pair : Asked → Asked → Asked

-- each of them holds
abbrev pub Each : (Goal → Type 0) → Asked → Type 0
Each Holds none = Unit {0}
Each Holds (one g) = Holds g
Each Holds (pair a b) = Each Holds a × Each Holds b

-- the levels that the deepest of them needs
abbrev pub greatest : Asked → ℕ
greatest none = 0
greatest (one g) = goal_depth g
greatest (pair a b) = max (greatest a) (greatest b)

-- a rule by its goals: it is one by other goals wherever these hold, and what it reads is as deep as the deepest of them
pub record Inside (In Out : Goal → Type 0) (Whole : Type 0) (p : ℕ) : Type 0 where
  pub asked : Asked
  pub held : Each In asked
  pub rebuilt : Each Out asked → Whole
  pub exact : p ≡ greatest asked

-- the same of a form, which is one deeper
pub record Level (In Out : Goal → Type 0) (Whole : Type 0) (p : ℕ) : Type 0 where
  pub within : ℕ
  pub inside : Inside In Out Whole within
  pub deeper : p ≡ suc within

module _ {In Out : Goal → Type 0} where
  -- nothing is asked
  pub nothing : {W : Type 0} → W → Inside In Out W 0
  nothing w = record { asked = none; held = tt; rebuilt = λ h. w; exact = refl }

  -- one goal is
  pub part : {W : Type 0} (g : Goal) → In g → (Out g → W) → Inside In Out W (goal_depth g)
  part g h f = record { asked = one g; held = h; rebuilt = f; exact = refl }

  -- what two rules ask together
  pub joined : {V U W : Type 0} {p q : ℕ} → Inside In Out V p → Inside In Out U q → (V → U → W) → Inside In Out W (max p q)
  joined {p = p} {q = q} a b f =
      let e : p ≡ greatest a.asked = a.exact in
      let g : q ≡ greatest b.asked = b.exact in
      record { asked = pair a.asked b.asked; held = (a.held, b.held); rebuilt = λ h. f (a.rebuilt h.0) (b.rebuilt h.1); exact = omega arith }

  pub both : {V U : Type 0} {p q : ℕ} → Inside In Out V p → Inside In Out U q → Inside In Out (V × U) (max p q)
  both a b = joined a b (λ v u. (v, u))

  -- the same goals of another rule, and under another name of their depth
  pub turned : {V W : Type 0} {p : ℕ} → Inside In Out V p → (V → W) → Inside In Out W p
  turned a f = record { asked = a.asked; held = a.held; rebuilt = λ h. f (a.rebuilt h); exact = a.exact }

  pub sized : {V : Type 0} {p q : ℕ} → Inside In Out V p → q ≡ p → Inside In Out V q
  sized {p = p} {q = q} a e = let g : p ≡ greatest a.asked = a.exact in record { asked = a.asked; held = a.held; rebuilt = a.rebuilt; exact = omega arith }

  -- a form with nothing in it, and one with parts
  pub leaf : {W : Type 0} {d : ℕ} → W → d ≡ 1 → Level In Out W d
  leaf w e = record { within = 0; inside = nothing w; deeper = e }

  pub over : {V W : Type 0} {p d : ℕ} → Inside In Out V p → (V → W) → d ≡ suc p → Level In Out W d
  over {p = p} a f e = record { within = p; inside = turned a f; deeper = e }

  -- a form with a part at its own level, and others further in
  pub beside : {V U W : Type 0} {p q d : ℕ} → Level In Out V p → Inside In Out U q → (V → U → W) → d ≡ max p (suc q) → Level In Out W d
  beside {p = p} {q = q} {d = d} a b f e =
      let g : p ≡ suc a.within = a.deeper in
      record { within = max a.within q; inside = joined a.inside b f; deeper = omega arith }

  -- forms at one level
  pub aligned : {V U W : Type 0} {p q d : ℕ} → Level In Out V p → Level In Out U q → (V → U → W) → d ≡ max p q → Level In Out W d
  aligned {p = p} {q = q} {d = d} a b f e =
      let g : p ≡ suc a.within = a.deeper in
      let h : q ≡ suc b.within = b.deeper in
      record { within = max a.within b.within; inside = joined a.inside b.inside f; deeper = omega arith }

  -- a form that is as deep as another at its level: that one has a depth
  pub same : {V W : Type 0} {p d : ℕ} → Level In Out V p → (V → W) → d ≡ p → Level In Out W d
  same {p = p} {d = d} a f e = let g : p ≡ suc a.within = a.deeper in record { within = a.within; inside = turned a.inside f; deeper = omega arith }

  -- a form that has a depth in any case
  pub raised : {V W : Type 0} {p d : ℕ} → Level In Out V p → (V → W) → d ≡ max 1 p → Level In Out W d
  raised {p = p} {d = d} a f e = let g : p ≡ suc a.within = a.deeper in record { within = a.within; inside = turned a.inside f; deeper = omega arith }

-- ---- what is known of the trees that goals read

-- what `Depth` looks at to take a level from a part
abbrev pub is_flat : Tree → Bool
is_flat x = is_block x || is_head_decl x

-- No expression and no pattern is flat, each pattern has a depth, and a statement that is an `if` begins with that word.
abbrev pub Fitting : Goal → Type 0
Fitting (expr_goal class k x c d) = is_flat x ≡ false
Fitting (callee_goal k x c d) = Unit {0}
Fitting (pattern_goal p k x c d) = (is_flat x ≡ false) × (1 ≤ depth x)
Fitting (element_goal p k x c d) = Unit {0}
Fitting (stmt_goal k at x c d) = sees kind.If c ≡ false → is_if x ≡ false
Fitting (member_goal k x c d) = Unit {0}
Fitting (decorator_goal k x c d) = Unit {0}
Fitting (using_goal k x c d) = Unit {0}
Fitting (attributes_goal k x c d) = Unit {0}
Fitting (item_goal k x c d) = Unit {0}

pub or_left : (a b : Bool) → (a || b) ≡ false → a ≡ false
or_left true b h = cc
or_left false b h = refl

pub or_right : (a b : Bool) → (a || b) ≡ false → b ≡ false
or_right true b h = cc
or_right false b h = h

-- what is no block, and no declaration of a head, is as deep there as it is
pub whole_body : (x : Tree) → is_flat x ≡ false → flat (is_block x) (depth x) ≡ depth x
whole_body x h = ap (λ b. flat b (depth x)) (or_left (is_block x) (is_head_decl x) h)

pub whole_head : (x : Tree) → is_flat x ≡ false → flat (is_head_decl x) (depth x) ≡ depth x
whole_head x h = ap (λ b. flat b (depth x)) (or_right (is_block x) (is_head_decl x) h)
