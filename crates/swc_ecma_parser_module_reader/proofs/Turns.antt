-- The loop over the statements of a program, turn by turn, as its code meets it.
use Rattle.std.proofs.Common.{◌≡◌, ℕ, zero, suc, ◌-◌, ◌<◌, Bool, true, false, cond, List, [], ◌∷◌, ◌++◌, length, Ok, Err, refl, sym, ◌∙◌, ap, subst}
use Rattle.swc_ecma_parser_error.specs.Kind.{Fault, OutOfMemory}
use Rattle.swc_ecma_parser_model.specs.Tree.{Tree}
use Rattle.swc_ecma_parser_grammar.specs.language.Items.{directed, top_item}
use Rattle.swc_ecma_parser_reader.specs.DecoratedStatements.{stmt_behind}
use Rattle.swc_ecma_parser_reader.specs.DecoratorLevels.{decorated_in}
use Rattle.swc_ecma_parser_reader.specs.Decorators.{Leading, leading}
use Rattle.swc_ecma_parser_reader.specs.Reader.{directs, whole_stmt, plain_stmt}
use Rattle.swc_ecma_parser_reader.specs.State.{State, Outcome, Reader, and_then, too_deep, coded, Step, More, Done, loop, fault_at}
use Rattle.swc_ecma_parser_reader.proofs.Loops.{whole_shorter}
use Rattle.swc_ecma_parser_reader.proofs.Steps.{loop_more, loop_done, loop_err}
use Rattle.swc_ecma_parser_reader.proofs.expressions.Loops.{deeper}
use Rattle.swc_ecma_parser_module_reader.specs.Decorated.{begins_decorators}
use Rattle.swc_ecma_parser_module_reader.specs.Programs.{Front, begins_module, before_module, front_item, front_behind, front_decorated, front_turn}
use Rattle.swc_ecma_parser_module_reader.specs.Turns.{Turn, Statement, Word, as_statement, behind_list, decorated_turn, turn}
use Rattle.swc_ecma_parser_module_reader.proofs.DecoratedItems.{whole_behind}
use Rattle.swc_ecma_parser_module_reader.proofs.Fronts.{deep_then}
use Rattle.swc_ecma_parser_reader.proofs.Meets.{Meets, too_deep_meets}

-- ---- levels

pub turn_lowest : (n : ℕ) (s : State) → n ≡ 0 → decorated_turn n s ≡ too_deep s
unfolding decorated_turn
turn_lowest n s e = rw e refl

pub turn_above : (n : ℕ) (s : State) → 0 < n → decorated_turn n s ≡ and_then (leading (decorated_in (n - 1)) s) (behind_list (n - 1))
unfolding decorated_turn
turn_above n s h = deeper (λ k. decorated_turn k s) n h

-- ---- what a turn makes of what was read

abbrev pub step : List Tree → Turn → Reader (Step (List Tree) Front)
step found (Statement x) = front_item found x
step found (Word v) = λ s. Ok (Done (record { before = found; list = v }), s)

module _ (n : ℕ) (found : List Tree) (s : State) where
  stated_step : (o : Outcome Tree) → and_then o (front_item found) ≡ and_then (and_then o as_statement) (step found)
  stated_step (Ok p) = refl
  stated_step (Err e) = refl

  behind_step : (m : ℕ) (v : Leading) (u : State) → front_behind m found v u ≡ and_then (behind_list m v u) (step found)
  unfolding front_behind behind_list
  behind_step m v u = by_word (begins_module u.at)
    where
      by_word : (w : Bool) → cond w (Ok (Done (record { before = found; list = v }), u)) (and_then (stmt_behind (plain_stmt m) top_item v u) (front_item found))
          ≡ and_then (cond w (Ok (Word v, u)) (and_then (stmt_behind (plain_stmt m) top_item v u) as_statement)) (step found)
      by_word true = refl
      by_word false = stated_step (stmt_behind (plain_stmt m) top_item v u)

  list_step : (m : ℕ) (o : Outcome Leading) → and_then o (front_behind m found) ≡ and_then (and_then o (behind_list m)) (step found)
  list_step m (Ok p) = behind_step m p.0 p.1
  list_step m (Err e) = refl

  level_step : (m : ℕ) → front_decorated m found s ≡ and_then (decorated_turn m s) (step found)
  unfolding front_decorated decorated_turn
  level_step zero = sym (deep_then s (step found))
  level_step (suc m) = list_step m (leading (decorated_in m) s)

  turn_step : before_module s.at ≡ false → front_turn n found s ≡ and_then (turn n s) (step found)
  unfolding front_turn turn
  turn_step e = rw e (by_sign (begins_decorators s.code s.at))
    where
      by_sign : (b : Bool) → cond b (front_decorated n found s) (and_then (whole_stmt n top_item s) (front_item found))
          ≡ and_then (cond b (decorated_turn n s) (and_then (whole_stmt n top_item s) as_statement)) (step found)
      by_sign true = level_step n
      by_sign false = stated_step (whole_stmt n top_item s)

-- ---- a turn that reads a statement reads it as it stands

-- what was read, if it is a statement
abbrev read_of : Outcome Turn → Outcome Tree
read_of (Ok (Statement x, t)) = Ok (x, t)
read_of (Ok (Word v, t)) = Err (fault_at t.at.last OutOfMemory, t)
read_of (Err e) = Err e

read_stated : (o : Outcome Tree) → read_of (and_then o as_statement) ≡ o
read_stated (Ok p) = refl
read_stated (Err e) = refl

module _ (n : ℕ) (s : State) (x : Tree) (t : State) where
  by_behind : (b : begins_decorators s.code s.at ≡ true) (m : ℕ) → n ≡ suc m → (v : Leading) (u : State) → leading (decorated_in m) s ≡ Ok (v, u) → behind_list m v u ≡ Ok (Statement x, t)
      → whole_stmt n top_item s ≡ Ok (x, t)
  unfolding behind_list
  by_behind b m i v u h = by_word (begins_module u.at)
    where
      by_word : (w : Bool) → cond w (Ok (Word v, u)) (and_then (stmt_behind (plain_stmt m) top_item v u) as_statement) ≡ Ok (Statement x, t) → whole_stmt n top_item s ≡ Ok (x, t)
      by_word true g = let h : ◌≡◌ {A = Outcome Tree} (Err (fault_at u.at.last OutOfMemory, u)) (Ok (x, t)) = ap read_of g in cc
      by_word false g = subst (λ k. whole_stmt k top_item s ≡ Ok (x, t)) (sym i) (whole_behind m s b v u h ∙ sym (read_stated (stmt_behind (plain_stmt m) top_item v u)) ∙ ap read_of g)

  by_list : (b : begins_decorators s.code s.at ≡ true) (m : ℕ) → n ≡ suc m → (o : Outcome Leading) → leading (decorated_in m) s ≡ o → and_then o (behind_list m) ≡ Ok (Statement x, t) → whole_stmt n top_item s ≡ Ok (x, t)
  by_list b m i (Ok p) h g = by_behind b m i p.0 p.1 h g
  by_list b m i (Err e) h g = cc

  deep_none : {A : Type 0} → ◌≡◌ {A = Outcome Turn} (too_deep s) (Ok (Statement x, t)) → A
  deep_none h = absurd (subst (Meets (λ _ _. ⊥)) h (too_deep_meets (λ _ _. ⊥) s))

  by_level : (b : begins_decorators s.code s.at ≡ true) (m : ℕ) → n ≡ m → decorated_turn m s ≡ Ok (Statement x, t) → whole_stmt n top_item s ≡ Ok (x, t)
  unfolding decorated_turn
  by_level b zero i g = deep_none g
  by_level b (suc m) i g = by_list b m i (leading (decorated_in m) s) refl g

  pub turn_read : turn n s ≡ Ok (Statement x, t) → whole_stmt n top_item s ≡ Ok (x, t)
  unfolding turn
  turn_read = by_sign (begins_decorators s.code s.at) refl
    where
      by_sign : (b : Bool) → begins_decorators s.code s.at ≡ b → cond b (decorated_turn n s) (and_then (whole_stmt n top_item s) as_statement) ≡ Ok (Statement x, t) → whole_stmt n top_item s ≡ Ok (x, t)
      by_sign true b g = by_level b n refl g
      by_sign false b g = sym (read_stated (whole_stmt n top_item s)) ∙ ap read_of g

  pub turn_shorter : turn n s ≡ Ok (Statement x, t) → length t.at.left < length s.at.left
  turn_shorter h = whole_shorter n top_item s x t (turn_read h)

-- ---- the loop: a turn is refused, the decorators of an import or export end it, a statement is read

module _ (n : ℕ) (found : List Tree) (s : State) (e : before_module s.at ≡ false) where
  pub front_err : (f : Fault × State) → turn n s ≡ Err f → loop (front_turn n) found s ≡ Err f
  front_err f h = loop_err (front_turn n) found s f (turn_step n found s e ∙ ap (λ o. and_then o (step found)) h)

  pub front_word : (v : Leading) (u : State) → turn n s ≡ Ok (Word v, u) → loop (front_turn n) found s ≡ Ok (record { before = found; list = v }, u)
  front_word v u h = loop_done (front_turn n) found (record { before = found; list = v }) s u (turn_step n found s e ∙ ap (λ o. and_then o (step found)) h)

  pub front_read : (b : Bool) → directs true found ≡ b → (x : Tree) (t : State) → turn n s ≡ Ok (Statement x, t)
      → loop (front_turn n) found s ≡ loop (front_turn n) (found ++ x ∷ []) (coded (directed t.code b x) t)
  front_read b k x t h = loop_more (front_turn n) found (found ++ x ∷ []) s (coded (directed t.code b x) t)
      (turn_step n found s e ∙ ap (λ o. and_then o (step found)) h ∙ ap (λ d. Ok (More (found ++ x ∷ []), coded (directed t.code d x) t)) k) (turn_shorter n s x t h)
