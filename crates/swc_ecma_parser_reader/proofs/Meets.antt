-- What holds of a reader's answer, rule by rule, and of its loops.
use Rattle.std.proofs.Common.{◌≡◌, ℕ, zero, suc, Bool, true, false, cond, List, [], ◌∷◌, length, Ok, Err, refl, subst, rules}
use Rattle.std.specs.Prelude.{nat_lt}
use denote.Enum.Bare.{same_true}
use Rattle.swc_ecma_parser_common.specs.declared.span.Span.{Span}
use Rattle.swc_ecma_parser_error.specs.Kind.{Kind, Fault, fault_of, OutOfMemory}
use Rattle.swc_ecma_parser_token.specs.contracts.kind.TokenKind.{the_type}
use Rattle.swc_ecma_parser_token.specs.declared.kind.TokenKind.{TokenKind}
use Rattle.swc_ecma_parser_token.specs.declared.token.Token.{Token}
use Rattle.swc_ecma_parser_token.specs.declared.token.Token.TheVariants as token
use Rattle.swc_ecma_parser_token.specs.declared.token.TokenAndSpan.{TokenAndSpan}
use Rattle.swc_ecma_parser_input.specs.TokenSource.{means_out_of_memory}
use Rattle.swc_ecma_parser_input.specs.Place.{Place}
use Rattle.swc_ecma_parser_grammar.specs.Looks.{kind_at, sees, same_kind}
use Rattle.swc_ecma_parser_reader.specs.State.{State, Outcome, Reader, and_then, moved, fault_at, fault, wanted, wanted_in, wanted_at, too_deep, too_deep_in, too_deep_at, refuse, refuse_in, refuse_at, refused, Step, More, Done, next_turn, after_turn, turns, loop}

-- of what was read and the state, or of the fault and the state
abbrev pub Answers : {A : Type 0} → (A → State → Type 0) → (Fault → State → Type 0) → Outcome A → Type 0
Answers P E (Ok p) = P p.0 p.1
Answers P E (Err e) = E e.0 e.1

-- of what was read alone
abbrev pub Refuses : Fault → State → Type 0
Refuses e s = Unit {0}

abbrev pub Meets : {A : Type 0} → (A → State → Type 0) → Outcome A → Type 0
Meets P o = Answers P Refuses o

-- a step, and another behind it
pub answers_then : {A B : Type 0} {P : A → State → Type 0} (Q : B → State → Type 0) (E : Fault → State → Type 0) (o : Outcome A) (f : A → Reader B) → Answers P E o
    → ((a : A) (s : State) → P a s → Answers Q E (f a s)) → Answers Q E (and_then o f)
answers_then Q E (Ok p) f h g = g p.0 p.1 h
answers_then Q E (Err e) f h g = h

-- a choice
pub answers_if : {A : Type 0} (P : A → State → Type 0) (E : Fault → State → Type 0) (b : Bool) (x y : Outcome A) → (b ≡ true → Answers P E x) → (b ≡ false → Answers P E y) → Answers P E (cond b x y)
answers_if P E true x y h g = h refl
answers_if P E false x y h g = g refl

-- the same where refusals do not count
pub meets_then : {A B : Type 0} {P : A → State → Type 0} (Q : B → State → Type 0) (o : Outcome A) (f : A → Reader B) → Meets P o
    → ((a : A) (s : State) → P a s → Meets Q (f a s)) → Meets Q (and_then o f)
meets_then Q (Ok p) f h g = g p.0 p.1 h
meets_then Q (Err e) f h g = tt

-- whatever was read before
pub always : {A B : Type 0} (Q : B → State → Type 0) (o : Outcome A) (f : A → Reader B) → ((a : A) (s : State) → Meets Q (f a s)) → Meets Q (and_then o f)
always Q (Ok p) f h = h p.0 p.1
always Q (Err e) f h = tt

pub meets_if : {A : Type 0} (P : A → State → Type 0) (b : Bool) (x y : Outcome A) → (b ≡ true → Meets P x) → (b ≡ false → Meets P y) → Meets P (cond b x y)
meets_if P true x y h g = h refl
meets_if P false x y h g = g refl

-- ---- refusals answer nothing

module _ {A : Type 0} (P : A → State → Type 0) where
  -- a wanted part that is not there
  wanted_at_meets : (k : Kind) (s : State) (t : Token) (span : Span) → Meets P (wanted_at k s t span)
  wanted_at_meets k s (token.Error e) span = tt
  wanted_at_meets k s _ span = tt

  wanted_in_meets : (k : Kind) (s : State) (ts : List TokenAndSpan) → Meets P (wanted_in k s ts)
  wanted_in_meets k s [] = tt
  wanted_in_meets k s (t ∷ ts) = wanted_at_meets k s t.token t.span

  pub wanted_meets : (k : Kind) (s : State) → Meets P (wanted k s)
  unfolding wanted
  wanted_meets k s = wanted_in_meets k s s.at.left

  -- what would stand too deep
  too_deep_at_meets : (s : State) (t : Token) (span : Span) → Meets P (too_deep_at s t span)
  too_deep_at_meets s (token.Error e) span = tt
  too_deep_at_meets s _ span = tt

  too_deep_in_meets : (s : State) (ts : List TokenAndSpan) → Meets P (too_deep_in s ts)
  too_deep_in_meets s [] = tt
  too_deep_in_meets s (t ∷ ts) = too_deep_at_meets s t.token t.span

  pub too_deep_meets : (s : State) → Meets P (too_deep s)
  unfolding too_deep
  too_deep_meets s = too_deep_in_meets s s.at.left

  -- the parser's own refusals
  refused_meets : (f : Fault) (o : Outcome (Unit {0})) → Meets P (refused f o)
  refused_meets f (Ok p) = tt
  refused_meets f (Err e) = tt

  refuse_at_meets : (k : Kind) (s : State) (t : Token) (span : Span) → Meets P (refuse_at k s t span)
  refuse_at_meets k s (token.Error e) span = meets_if P (means_out_of_memory e.kind) _ _ (λ _. tt) (λ _. refused_meets (fault_at span k) (fault (fault_of e) (moved s)))
  refuse_at_meets k s _ span = tt

  refuse_in_meets : (k : Kind) (s : State) (ts : List TokenAndSpan) → Meets P (refuse_in k s ts)
  refuse_in_meets k s [] = tt
  refuse_in_meets k s (t ∷ ts) = refuse_at_meets k s t.token t.span

  pub refuse_meets : (k : Kind) (s : State) → Meets P (refuse k s)
  unfolding refuse
  refuse_meets k s = refuse_in_meets k s s.at.left

-- ---- a loop keeps what each turn keeps

module _ {A B : Type 0} (body : A → Reader (Step A B)) (Keeps : A → State → Type 0) (Q : B → State → Type 0) (E : Fault → State → Type 0) where
  -- what holds behind a turn that goes on, and behind the last
  abbrev pub Turned : Step A B → State → Type 0
  Turned (More a) s = Keeps a s
  Turned (Done b) s = Q b s

  module _ (turn : (a : A) (s : State) → Keeps a s → Answers Turned E (body a s)) (sticks : (s : State) → E (fault_at s.at.last OutOfMemory) s) where
    -- each turn keeps it, or the loop is stuck
    after_next : (go : A → Reader B) (before : ℕ) (s : State) (step : Step A B) → Turned step s → ((a : A) (t : State) → Keeps a t → Answers Q E (go a t))
        → Answers Q E (next_turn go before s step)
    after_next go before s (More a) h g = answers_if Q E (nat_lt (length s.at.left) before) _ _ (λ _. g a s h) (λ _. sticks s)
    after_next go before s (Done b) h g = h

    after_all : (go : A → Reader B) (before : ℕ) (o : Outcome (Step A B)) → Answers Turned E o → ((a : A) (t : State) → Keeps a t → Answers Q E (go a t))
        → Answers Q E (after_turn go before o)
    after_all go before (Ok p) h g = after_next go before p.1 p.0 h g
    after_all go before (Err e) h g = h

    turns_answer : (n : ℕ) (a : A) (s : State) → Keeps a s → Answers Q E (turns body n a s)
    turns_answer zero a s h = sticks s
    turns_answer (suc n) a s h = after_all (turns body n) (length s.at.left) (body a s) (turn a s h) (turns_answer n)

    -- so the loop answers what its last turn does
    pub loop_answers : (a : A) (s : State) → Keeps a s → Answers Q E (loop body a s)
    unfolding loop
    loop_answers a s h = turns_answer (suc (length s.at.left)) a s h

-- ---- tests

-- a test that a kind stands first says so
pub saw : (c : Place) (k : TokenKind) → sees k c ≡ true → kind_at c ≡ k
unfolding same_kind
saw c k e = same_true the_type (search rules) (kind_at c) k e

-- what holds of an outcome holds of the one it equals
pub meant : {A : Type 0} (P : A → State → Type 0) (E : Fault → State → Type 0) (o o' : Outcome A) → o ≡ o' → Answers P E o → Answers P E o'
meant P E o o' e h = subst (Answers P E) e h
