-- The steps of a reader: one that went well, a choice, and a loop.
use Rattle.std.proofs.Common.{◌≡◌, ℕ, zero, suc, ◌<◌, ◌⊎◌, inl, inr, Bool, true, false, cond, length, Ok, Err, refl, ◌∙◌, ap, arith}
use Rattle.std.specs.Prelude.{nat_lt}
use Rattle.std.proofs.lemmas.Bool.{ltb-true, lt-ltb}
use Rattle.swc_ecma_parser_error.specs.Kind.{Fault}
use Rattle.swc_ecma_parser_reader.specs.State.{State, Outcome, Reader, and_then, Step, More, Done, next_turn, after_turn, turns, loop}

-- what a reader that went well did
pub then_ok : {A B : Type 0} (o : Outcome A) (f : A → Reader B) (b : B) (t : State) → and_then o f ≡ Ok (b, t)
    → (a : A) × (s : State) × (o ≡ Ok (a, s)) × (f a s ≡ Ok (b, t))
then_ok (Ok p) f b t h = (p.0, p.1, refl, h)
then_ok (Err e) f b t h = cc

pub chosen : {A : Type 0} (b : Bool) (x y z : A) → cond b x y ≡ z → ((b ≡ true) × (x ≡ z)) ⊎ ((b ≡ false) × (y ≡ z))
chosen true x y z h = inl (refl, h)
chosen false x y z h = inr (refl, h)

-- ---- a loop is one turn, and then the loop again

below_true : (m n : ℕ) → nat_lt m n ≡ true → m < n
below_true m n h = grind (arith, ltb-true)

pub same_if : {X : Type 0} (b : Bool) (x y z : X) → (b ≡ true → x ≡ y) → cond b x z ≡ cond b y z
same_if true x y z h = h refl
same_if false x y z h = refl

below_test : (m n : ℕ) → m < n → nat_lt m n ≡ true
below_test m n h = grind (arith, lt-ltb)

if_true : {X : Type 0} (b : Bool) (x y : X) → b ≡ true → cond b x y ≡ x
if_true b x y e = ap (λ v. cond v x y) e

module _ {A B : Type 0} where
  same_turn : (go other : A → Reader B) (before : ℕ) (s : State) (step : Step A B) → ((a : A) (t : State) → length t.at.left < before → go a t ≡ other a t)
      → next_turn go before s step ≡ next_turn other before s step
  same_turn go other before s (More a) h = same_if (nat_lt (length s.at.left) before) _ _ _ (λ e. h a s (below_true _ _ e))
  same_turn go other before s (Done b) h = refl

  same_after : (go other : A → Reader B) (before : ℕ) (o : Outcome (Step A B)) → ((a : A) (t : State) → length t.at.left < before → go a t ≡ other a t)
      → after_turn go before o ≡ after_turn other before o
  same_after go other before (Ok p) h = same_turn go other before p.1 p.0 h
  same_after go other before (Err e) h = refl

module _ {A B : Type 0} (body : A → Reader (Step A B)) where
  -- enough turns are as good as more
  enough : (m n : ℕ) (a : A) (s : State) → length s.at.left < m → length s.at.left < n → turns body m a s ≡ turns body n a s
  enough zero n a s h k = absurd (omega arith)
  enough (suc m) zero a s h k = absurd (omega arith)
  enough (suc m) (suc n) a s h k =
      same_after (turns body m) (turns body n) (length s.at.left) (body a s) (λ b t below. enough m n b t (omega arith) (omega arith))

  pub loop_turn : (a : A) (s : State) → loop body a s ≡ after_turn (loop body) (length s.at.left) (body a s)
  unfolding loop
  loop_turn a s = same_after (turns body (length s.at.left)) (loop body) (length s.at.left) (body a s)
      (λ b t below. enough (length s.at.left) (suc (length t.at.left)) b t below (omega arith))

  pub loop_more : (a b : A) (s t : State) → body a s ≡ Ok (More b, t) → length t.at.left < length s.at.left → loop body a s ≡ loop body b t
  loop_more a b s t e h = loop_turn a s ∙ ap (after_turn (loop body) (length s.at.left)) e ∙ if_true (nat_lt (length t.at.left) (length s.at.left)) _ _ (below_test _ _ h)

  pub loop_done : (a : A) (b : B) (s t : State) → body a s ≡ Ok (Done b, t) → loop body a s ≡ Ok (b, t)
  loop_done a b s t e = loop_turn a s ∙ ap (after_turn (loop body) (length s.at.left)) e

  pub loop_err : (a : A) (s : State) (e : Fault × State) → body a s ≡ Err e → loop body a s ≡ Err e
  loop_err a s e h = loop_turn a s ∙ ap (after_turn (loop body) (length s.at.left)) h
