-- The statements before module code begins, as the loop over statements alone reads them, and the decorators behind them.
use Rattle.std.proofs.Common.{◌≡◌, ℕ, zero, suc, ◌<◌, Bool, true, false, true≢false, cond, List, [], ◌∷◌, ◌++◌, length, Ok, Err, refl, sym, ◌∙◌, ap, subst, arith}
use Rattle.std.specs.Prelude.{◌||◌, nat_le}
use Rattle.std.proofs.lemmas.Bool.{le-leb, lt-leb}
use Rattle.swc_ecma_parser_common.specs.declared.span.Span.{Span}
use Rattle.swc_ecma_parser_error.specs.Kind.{Fault, OutOfMemory}
use Rattle.swc_ecma_parser_token.specs.declared.token.Token.{Token}
use Rattle.swc_ecma_parser_token.specs.declared.token.Token.TheVariants as token
use Rattle.swc_ecma_parser_token.specs.declared.token.TokenAndSpan.{TokenAndSpan}
use Rattle.swc_ecma_parser_input.specs.Place.{Place}
use Rattle.swc_ecma_parser_model.specs.Tree.{Tree}
use Rattle.swc_ecma_parser_grammar.specs.language.Items.{directed, top_item}
use Rattle.swc_ecma_parser_reader.specs.DecoratedStatements.{stmt_behind}
use Rattle.swc_ecma_parser_reader.specs.DecoratorLevels.{decorated_in}
use Rattle.swc_ecma_parser_reader.specs.Decorators.{Leading, leading, has_any}
use Rattle.swc_ecma_parser_reader.specs.Reader.{directs, items_turn, items, whole_stmt, at_end, plain_stmt}
use Rattle.swc_ecma_parser_reader.specs.State.{State, Outcome, Reader, and_then, too_deep_at, too_deep_in, too_deep, coded, fault_at, Step, Done, loop}
use Rattle.swc_ecma_parser_reader.proofs.Loops.{items_stop, items_more, whole_shorter}
use Rattle.swc_ecma_parser_reader.proofs.Meets.{Answers, Meets, Refuses, Turned, loop_answers, meant}
use Rattle.swc_ecma_parser_reader.proofs.Notes.{or_true}
use Rattle.swc_ecma_parser_module_reader.specs.Decorated.{begins_decorators, no_leading}
use Rattle.swc_ecma_parser_module_reader.specs.Modules.{decorated_item, item_behind, module_item}
use Rattle.swc_ecma_parser_module_reader.specs.Programs.{Front, begins_module, before_module, front_item, front_behind, front_decorated, front_turn, front, first_behind, behind_front}
use Rattle.swc_ecma_parser_module_reader.proofs.DecoratedItems.{whole_above, whole_lowest, whole_behind}
use Rattle.swc_ecma_parser_reader.proofs.Steps.{loop_done}

-- ---- what is too deep is refused, whatever would be read behind it

deep_at : {A B : Type 0} (s : State) (t : Token) (span : Span) (f : A → Reader B) → and_then (too_deep_at s t span) f ≡ too_deep_at s t span
deep_at s (token.Error e) span f = refl
deep_at s _ span f = refl

deep_in : {A B : Type 0} (s : State) (ts : List TokenAndSpan) (f : A → Reader B) → and_then (too_deep_in s ts) f ≡ too_deep_in s ts
deep_in s [] f = refl
deep_in s (t ∷ ts) f = deep_at s t.token t.span f

pub deep_then : {A B : Type 0} (s : State) (f : A → Reader B) → and_then (too_deep s) f ≡ too_deep s
unfolding too_deep
deep_then s f = deep_in s s.at.left f

-- ---- one turn: they end, decorators of an import or an export end them, one is read or refused

module _ (n : ℕ) (found : List Tree) (s : State) (Q : Outcome (Step (List Tree) Front) → Type 0)
    (stops : before_module s.at ≡ true → Q (Ok (Done (record { before = found; list = no_leading s }), s)))
    (stated : before_module s.at ≡ false → Q (and_then (whole_stmt n top_item s) (front_item found)))
    (led : before_module s.at ≡ false → (m : ℕ) → n ≡ suc m → begins_decorators s.code s.at ≡ true → (v : Leading) (t : State) → leading (decorated_in m) s ≡ Ok (v, t) → begins_module t.at ≡ true
    → Q (Ok (Done (record { before = found; list = v }), t))) where
  module _ (e : before_module s.at ≡ false) (b : begins_decorators s.code s.at ≡ true) where
    -- the same of a statement at this level
    at_level : (m : ℕ) → n ≡ m → Q (and_then (whole_stmt m top_item s) (front_item found))
    at_level m k = subst (λ z. Q (and_then (whole_stmt z top_item s) (front_item found))) k (stated e)

    behind_case : (m : ℕ) → n ≡ suc m → (v : Leading) (t : State) → leading (decorated_in m) s ≡ Ok (v, t) → Q (front_behind m found v t)
    unfolding front_behind
    behind_case m k v t h = by_word (begins_module t.at) refl
      where
        by_word : (w : Bool) → begins_module t.at ≡ w → Q (cond w (Ok (Done (record { before = found; list = v }), t)) (and_then (stmt_behind (plain_stmt m) top_item v t) (front_item found)))
        by_word true g = led e m k b v t h g
        by_word false g = subst (λ o. Q (and_then o (front_item found))) (whole_behind m s b v t h) (at_level (suc m) k)

    by_list : (m : ℕ) → n ≡ suc m → (o : Outcome Leading) → leading (decorated_in m) s ≡ o → Q (and_then o (front_behind m found))
    by_list m k (Ok p) h = behind_case m k p.0 p.1 h
    by_list m k (Err f) h = subst (λ o. Q (and_then o (front_item found))) (whole_above m s b ∙ ap (λ o. and_then o (stmt_behind (plain_stmt m) top_item)) h) (at_level (suc m) k)

    by_level : (m : ℕ) → n ≡ m → Q (front_decorated m found s)
    unfolding front_decorated decorated_item
    by_level zero k = subst Q (ap (λ o. and_then o (front_item found)) (sym (whole_lowest s b)) ∙ deep_then s (front_item found)) (at_level zero k)
    by_level (suc m) k = by_list m k (leading (decorated_in m) s) refl

  pub turn_cases : Q (front_turn n found s)
  unfolding front_turn
  turn_cases = by_test (before_module s.at) (begins_decorators s.code s.at) refl refl
    where
      by_test : (e d : Bool) → before_module s.at ≡ e → begins_decorators s.code s.at ≡ d
          → Q (cond e (Ok (Done (record { before = found; list = no_leading s }), s)) (cond d (front_decorated n found s) (and_then (whole_stmt n top_item s) (front_item found))))
      by_test true d g h = stops g
      by_test false true g h = by_level g h n refl
      by_test false false g h = stated g

-- ---- the whole loop, by what holds before each turn

-- behind a statement that was read
abbrev pub pushed_state : List Tree → Tree → State → State
pushed_state found x t = coded (directed t.code (directs true found) x) t

module _ (n : ℕ) (K : List Tree → State → Type 0) (D : Front → State → Type 0) (E : Fault → State → Type 0)
    (ends : (found : List Tree) (s : State) → K found s → before_module s.at ≡ true → D (record { before = found; list = no_leading s }) s)
    (goes : (found : List Tree) (s : State) → K found s → before_module s.at ≡ false → Answers (λ x t. K (found ++ x ∷ []) (pushed_state found x t)) E (whole_stmt n top_item s))
    (leads : (found : List Tree) (s : State) → K found s → before_module s.at ≡ false → (m : ℕ) → n ≡ suc m → begins_decorators s.code s.at ≡ true → (v : Leading) (t : State)
    → leading (decorated_in m) s ≡ Ok (v, t) → begins_module t.at ≡ true → D (record { before = found; list = v }) t)
    (sticks : (s : State) → E (fault_at s.at.last OutOfMemory) s) where
  read_then : (found : List Tree) (o : Outcome Tree) → Answers (λ x t. K (found ++ x ∷ []) (pushed_state found x t)) E o → Answers (Turned (front_turn n) K D E) E (and_then o (front_item found))
  read_then found (Ok p) h = h
  read_then found (Err e) h = h

  pub front_answers : (s : State) → K [] s → Answers D E (front n s)
  unfolding front
  front_answers s k = loop_answers (front_turn n) K D E
      (λ found t g. turn_cases n found t (Answers (Turned (front_turn n) K D E) E) (λ e. ends found t g e) (λ e. read_then found (whole_stmt n top_item t) (goes found t g e))
      (λ e m i b v u h w. leads found t g e m i b v u h w)) sticks [] s k

-- ---- as the loop over statements reads them

abbrev pub Statement : ℕ → State → Outcome Tree
Statement n = whole_stmt n top_item

-- a test that stops nothing that was read before
abbrev Passes : (Place → Bool) → State → Type 0
Passes stops t = (c : Place) → length t.at.left < length c.left → before_module c ≡ false → stops c ≡ false

abbrev Reached : ℕ → State → List Tree → State → Type 0
Reached n s found t = (stops : Place → Bool) → Passes stops t → items (Statement n) stops true s ≡ loop (items_turn (Statement n) stops true) found t

-- one that stops there too
abbrev stops_at : State → Place → Bool
stops_at t c = before_module c || nat_le (length c.left) (length t.at.left)

le_itself : (n : ℕ) → nat_le n n ≡ true
le_itself n = le-leb n n (omega arith)

le_less : (n m : ℕ) → m < n → nat_le n m ≡ false
le_less n m h = lt-leb n m h

stops_there : (t : State) → stops_at t t.at ≡ true
stops_there t = ap (λ b. before_module t.at || b) (le_itself (length t.at.left)) ∙ or_true (before_module t.at)

stops_nothing : (t : State) → Passes (stops_at t) t
stops_nothing t c h e = ap (λ b. b || nat_le (length c.left) (length t.at.left)) e ∙ le_less (length c.left) (length t.at.left) h

-- Where they end: before an import or an export, or behind the list; or at decorators behind which one stands.
pub data Fronts (n : ℕ) (s : State) (w : Front) (u : State) : Type 0 where
  plain_front : items (Statement n) before_module true s ≡ Ok (w.before, u) → before_module u.at ≡ true → w.list ≡ no_leading u → Fronts n s w u
  led_front : (m : ℕ) (t : State) (stops : Place → Bool) → n ≡ suc m → items (Statement n) stops true s ≡ Ok (w.before, t) → begins_decorators t.code t.at ≡ true
      → leading (decorated_in m) t ≡ Ok (w.list, u) → begins_module u.at ≡ true → Fronts n s w u

less_still : (a b c : ℕ) → a < b → b < c → a < c
less_still a b c h g = omega arith

module _ (n : ℕ) (s : State) where
  reached : Reached n s [] s
  unfolding items
  reached stops h = refl

  module _ (found : List Tree) (t : State) (k : Reached n s found t) where
    reached_end : before_module t.at ≡ true → Fronts n s (record { before = found; list = no_leading t }) t
    reached_end e = plain_front (k before_module (λ c l g. g) ∙ items_stop (Statement n) before_module true found t e) e refl

    reached_list : (m : ℕ) → n ≡ suc m → begins_decorators t.code t.at ≡ true → (v : Leading) (u : State) → leading (decorated_in m) t ≡ Ok (v, u) → begins_module u.at ≡ true
        → Fronts n s (record { before = found; list = v }) u
    reached_list m i b v u h w =
        led_front m t (stops_at t) i (k (stops_at t) (stops_nothing t) ∙ items_stop (Statement n) (stops_at t) true found t (stops_there t)) b h w

    reached_more : before_module t.at ≡ false → (x : Tree) (u : State) → whole_stmt n top_item t ≡ Ok (x, u) → Reached n s (found ++ x ∷ []) (pushed_state found x u)
    reached_more e x u h stops p = let l = whole_shorter n top_item t x u h in
        k stops (λ c m g. p c (less_still (length u.at.left) (length t.at.left) (length c.left) l m) g) ∙ items_more (Statement n) stops true found t x u (p t.at l e) h l

    reached_on : before_module t.at ≡ false → (o : Outcome Tree) → whole_stmt n top_item t ≡ o → Meets (λ x u. Reached n s (found ++ x ∷ []) (pushed_state found x u)) o
    reached_on e (Ok p) h = reached_more e p.0 p.1 h
    reached_on e (Err f) h = tt

  pub fronts : Meets (Fronts n s) (front n s)
  fronts = front_answers n (Reached n s) (Fronts n s) Refuses reached_end (λ found t k e. reached_on found t k e (whole_stmt n top_item t) refl)
      (λ found t k e m i b v u h w. reached_list found t k m i b v u h w) (λ t. tt) s reached

-- of a front that was read
pub front_is : (n : ℕ) (s : State) (w : Front) (u : State) → front n s ≡ Ok (w, u) → Fronts n s w u
front_is n s w u h = meant (Fronts n s) Refuses (front n s) (Ok (w, u)) h (fronts n s)

-- decorators behind them stand before an import or an export
pub list_word : (n : ℕ) (s : State) (w : Front) (u : State) → Fronts n s w u → has_any w.list.found ≡ true → (m : ℕ) × (n ≡ suc m) × (begins_module u.at ≡ true)
list_word n s w u (plain_front h e is) a = absurd (true≢false (sym a ∙ ap (λ v. has_any v.found) is))
list_word n s w u (led_front m t stops i h b l e) a = (m, i, e)

-- what is known of an answer of both kinds
pub known_both : {A : Type 0} (P Q : A → State → Type 0) (E : Fault → State → Type 0) (o : Outcome A) → Answers P E o → Meets Q o → Answers (λ a t. P a t × Q a t) E o
known_both P Q E (Ok p) h g = (h, g)
known_both P Q E (Err e) h g = h

-- ---- the items behind them

abbrev pub items_found : ℕ → List Tree → Reader (List Tree)
items_found n found = loop (items_turn (module_item n) at_end true) found

module _ (Q : Outcome (List Tree) → Type 0) (n : ℕ) (v : Leading) (s : State) (led : has_any v.found ≡ true → (m : ℕ) × (n ≡ suc m) × Q (and_then (item_behind m v s) (λ x. items_found n (x ∷ []))))
    (plain : has_any v.found ≡ false → Q (items (module_item n) at_end true s)) where
  first_case : (m : ℕ) × (n ≡ suc m) × Q (and_then (item_behind m v s) (λ x. items_found n (x ∷ []))) → Q (and_then (first_behind n v s) (λ x. items_found n (x ∷ [])))
  unfolding first_behind
  first_case (m, i, q) = subst (λ k. Q (and_then (first_behind k v s) (λ x. items_found n (x ∷ [])))) (sym i) q

  pub behind_front_cases : Q (behind_front n v s)
  unfolding behind_front
  behind_front_cases = by_any (has_any v.found) refl
    where
      by_any : (b : Bool) → has_any v.found ≡ b → Q (cond b (and_then (first_behind n v s) (λ x. items_found n (x ∷ []))) (items (module_item n) at_end true s))
      by_any true h = first_case (led h)
      by_any false h = plain h

-- ---- where they end at once

pub front_stop : (n : ℕ) (found : List Tree) (s : State) → before_module s.at ≡ true → loop (front_turn n) found s ≡ Ok (record { before = found; list = no_leading s }, s)
unfolding front_turn
front_stop n found s e = loop_done (front_turn n) found (record { before = found; list = no_leading s }) s s (rw e refl)
