-- Places whose tokens stand one behind another, how far was read there, and what holds of what was read.
use Rattle.std.proofs.Common.{◌≡◌, ℕ, ◌+◌, ◌≤◌, Bool, true, List, [], ◌∷◌, ◌++◌, length, refl, sym, ap, subst, le_refl, le_trans, leb-true, le-leb, arith}
use Rattle.std.specs.Prelude.{◌&&◌, nat_le}
use Rattle.swc_ecma_parser_common.specs.declared.span.BytePos.{BytePos}
use Rattle.swc_ecma_parser_common.specs.declared.span.Span.{Span}
use Rattle.swc_ecma_parser_token.specs.declared.token.TokenAndSpan.{TokenAndSpan}
use Rattle.swc_ecma_parser_input.specs.TokenSource.{ordered_from}
use Rattle.swc_ecma_parser_input.specs.Place.{Place, after, past}
use Rattle.swc_ecma_parser_model.specs.declared.leaves.Ident.{Ident}
use Rattle.swc_ecma_parser_model.specs.Forms.{span_of}
use Rattle.swc_ecma_parser_model.specs.Tree.{Tree, trees}
use Rattle.swc_ecma_parser_grammar.specs.Looks.{first_start, span_at, start_at}
use Rattle.swc_ecma_parser_grammar.proofs.Tests.{and_yes, and_both}
use Rattle.swc_ecma_parser_reader.specs.Entry.{last_span, IsBehind}
use Rattle.swc_ecma_parser_span_order.specs.Forward.{is_forward, in_order, forward, all_forward}
use Rattle.swc_ecma_parser_reader.specs.State.{State, Reader}
use Rattle.swc_ecma_parser_reader.proofs.Meets.{Meets}
use Rattle.swc_ecma_parser_reader.proofs.expressions.SoundSteps.{meets_as}

-- how far was read
abbrev pub far : Place → ℕ
far c = c.last.hi.0

pub both : {a b : Bool} → a ≡ true → b ≡ true → (a && b) ≡ true
both p q = and_both _ _ p q

-- the tokens of a place stand one behind another
pub record Here (c : Place) : Type 0 where
  pub order : ordered_from c.last.hi.0 c.left ≡ true
  pub last : c.last.lo.0 ≤ c.last.hi.0
  -- what stands first begins at or before its end, which is no earlier than what was read last
  pub goes_on : far c ≤ far (after c)
  pub begins : (span_at c).lo.0 ≤ far (after c)
  pub ends : (span_at c).hi ≡ (after c).last.hi

pub parts : (at : ℕ) (t : TokenAndSpan) (ts : List TokenAndSpan) → ordered_from at (t ∷ ts) ≡ true → (at ≤ t.span.lo.0) × (t.span.lo.0 ≤ t.span.hi.0) × (ordered_from t.span.hi.0 ts ≡ true)
parts at t ts h =
    let b = and_yes (nat_le at t.span.lo.0) _ h in
    let c = and_yes (nat_le t.span.lo.0 t.span.hi.0) _ b.1 in
    (leb-true at t.span.lo.0 b.0, leb-true t.span.lo.0 t.span.hi.0 c.0, c.1)

here_by : (last : Span) (ts : List TokenAndSpan) → last.lo.0 ≤ last.hi.0 → ordered_from last.hi.0 ts ≡ true → Here (record { last = last; left = ts })
unfolding after span_at
here_by last [] f o = record { order = o; last = f; goes_on = le_refl last.hi.0; begins = f; ends = refl }
here_by last (t ∷ ts) f o = let p = parts last.hi.0 t ts o in record { order = o; last = f; goes_on = le_trans p.0 p.1; begins = p.1; ends = refl }

pub here_in_order : (c : Place) → in_order c ≡ true → Here c
here_in_order c h = let p = and_yes (is_forward c.last) _ h in here_by c.last c.left (leb-true c.last.lo.0 c.last.hi.0 p.0) p.1

-- where a whole begins
start_begins_in : (last : Span) (ts : List TokenAndSpan) → ordered_from last.hi.0 ts ≡ true → (first_start last ts).lo.0 ≤ far (past (record { last = last; left = ts }) ts)
start_begins_in last [] o = le_refl last.hi.0
start_begins_in last (t ∷ ts) o = (parts last.hi.0 t ts o).1

pub start_begins : (c : Place) → Here c → (start_at c).lo.0 ≤ far (after c)
unfolding start_at after
start_begins c f = start_begins_in c.last c.left f.order

-- behind the first token
past_here : (last : Span) (ts : List TokenAndSpan) → last.lo.0 ≤ last.hi.0 → ordered_from last.hi.0 ts ≡ true → Here (past (record { last = last; left = ts }) ts)
past_here last [] f o = here_by last [] f o
past_here last (t ∷ ts) f o = let p = parts last.hi.0 t ts o in here_by t.span ts p.1 p.2

here_next : (c : Place) → Here c → Here (after c)
unfolding after
here_next c h = past_here c.last c.left h.last h.order

-- it was read so far
pub record Past (m : ℕ) (c : Place) : Type 0 where
  pub here : Here c
  pub gone : m ≤ far c

-- or so far with the first token
pub record Ahead (m : ℕ) (c : Place) : Type 0 where
  pub here : Here c
  pub ahead : m ≤ far (after c)

pub onward : {m : ℕ} {c : Place} → Past m c → Ahead m c
onward h = record { here = h.here; ahead = le_trans h.gone h.here.goes_on }

pub first : {c : Place} → Here c → Ahead (far (after c)) c
first {c} h = record { here = h; ahead = le_refl (far (after c)) }

pub stands : {c : Place} → Here c → Past (far c) c
stands {c} h = record { here = h; gone = le_refl (far c) }

pub taken : {m : ℕ} {c : Place} → Ahead m c → Past m (after c)
taken {m} {c} h = record { here = here_next c h.here; gone = h.ahead }

pub next : {m : ℕ} {c : Place} → Past m c → Past m (after c)
next h = taken (onward h)

-- behind the first token
pub behind : {c : Place} → Here c → Past (far (after c)) (after c)
behind h = taken (first h)

pub past_less : {m n : ℕ} {c : Place} → m ≤ n → Past n c → Past m c
past_less l h = record { here = h.here; gone = le_trans l h.gone }

pub ahead_less : {m n : ℕ} {c : Place} → m ≤ n → Ahead n c → Ahead m c
ahead_less l h = record { here = h.here; ahead = le_trans l h.ahead }

-- ---- behind some tokens

pub past_some : (m : ℕ) (last : Span) (ts us : List TokenAndSpan) → m ≤ last.hi.0 → last.lo.0 ≤ last.hi.0 → ordered_from last.hi.0 (ts ++ us) ≡ true → Past m (record { last = last_span last ts; left = us })
past_some m last [] us g f o = record { here = here_by last us f o; gone = g }
past_some m last (t ∷ ts) us g f o = let p = parts last.hi.0 t (ts ++ us) o in past_some m t.span ts us (le_trans (le_trans g p.0) p.1) p.1 p.2

pub past_behind : (m : ℕ) (s t : State) → Past m s.at → IsBehind s t → Past m t.at
past_behind m s t h b = subst (λ (z : Span). Past m (record { last = z; left = t.at.left })) (sym b.last)
    (past_some m s.at.last b.read t.at.left h.gone h.here.last (subst (λ z. ordered_from s.at.last.hi.0 z ≡ true) b.tokens h.here.order))

short : (n : ℕ) (ts : List TokenAndSpan) → length ts + 1 ≤ n → n ≡ length ts → ⊥
short n ts h e = omega arith

-- some tokens, one of them at least
past_read : (s t : State) → Here s.at → (read : List TokenAndSpan) → s.at.left ≡ read ++ t.at.left → t.at.last ≡ last_span s.at.last read → length t.at.left + 1 ≤ length s.at.left → Past (far (after s.at)) t.at
unfolding after
past_read s t f [] e l h = absurd (short (length s.at.left) t.at.left h (ap length e))
past_read s t f (u ∷ us) e l h = subst (λ (z : Span). Past (far (after s.at)) (record { last = z; left = t.at.left })) (sym l)
    (subst (λ z. Past (far (past s.at z)) (record { last = last_span u.span us; left = t.at.left })) (sym e) (by_first (parts s.at.last.hi.0 u (us ++ t.at.left) (subst (λ z. ordered_from s.at.last.hi.0 z ≡ true) e f.order))))
  where
    by_first : (s.at.last.hi.0 ≤ u.span.lo.0) × (u.span.lo.0 ≤ u.span.hi.0) × (ordered_from u.span.hi.0 (us ++ t.at.left) ≡ true) → Past u.span.hi.0 (record { last = last_span u.span us; left = t.at.left })
    by_first p = past_some u.span.hi.0 u.span us t.at.left (le_refl u.span.hi.0) p.1 p.2

pub past_taken : (s t : State) → Here s.at → IsBehind s t → length t.at.left + 1 ≤ length s.at.left → Past (far (after s.at)) t.at
unfolding after
past_taken s t f b h = past_read s t f b.read b.tokens b.last h

-- ---- spans

pub span_forward : (c : Place) → Here c → is_forward (span_at c) ≡ true
span_forward c h = le-leb (span_at c).lo.0 (span_at c).hi.0 (subst (λ (z : BytePos). (span_at c).lo.0 ≤ z.0) (sym h.ends) h.begins)

pub span_reaches : (c : Place) → Here c → far (after c) ≤ (span_at c).hi.0
span_reaches c h = subst (λ (z : BytePos). far (after c) ≤ z.0) (sym h.ends) (le_refl (far (after c)))

-- from a start that was read to what was read last
pub since_forward : {m : ℕ} {c : Place} (start : Span) → start.lo.0 ≤ m → Past m c → is_forward (record { lo = start.lo; hi = c.last.hi }) ≡ true
since_forward {m} {c} start b g = le-leb start.lo.0 c.last.hi.0 (le_trans b g.gone)

-- ---- what was read, up to a place

-- a tree that runs forward and ends so far
pub record Whole (m : ℕ) (x : Tree) (c : Place) : Type 0 where
  pub straight : forward x ≡ true
  pub reaches : m ≤ (span_of x).hi.0
  pub place : Past m c

-- one that may be left out
pub record Part (m : ℕ) (x : Tree) (c : Place) : Type 0 where
  pub straight : forward x ≡ true
  pub place : Past m c

pub record Many (m : ℕ) (xs : List Tree) (c : Place) : Type 0 where
  pub straight : all_forward (trees xs) ≡ true
  pub place : Past m c

pub record Named (m : ℕ) (i : Ident) (c : Place) : Type 0 where
  pub straight : is_forward i.span ≡ true
  pub reaches : m ≤ i.span.hi.0
  pub place : Past m c

abbrev pub Passed : {A : Type 0} → ℕ → A → State → Type 0
Passed m x t = Past m t.at

abbrev pub Read : ℕ → Tree → State → Type 0
Read m x t = Whole m x t.at

abbrev pub ReadPart : ℕ → Tree → State → Type 0
ReadPart m x t = Part m x t.at

abbrev pub ReadMany : ℕ → List Tree → State → Type 0
ReadMany m xs t = Many m xs t.at

abbrev pub ReadName : ℕ → Ident → State → Type 0
ReadName m i t = Named m i t.at

pub whole_less : {m n : ℕ} {x : Tree} {c : Place} → m ≤ n → Whole n x c → Whole m x c
whole_less l h = record { straight = h.straight; reaches = le_trans l h.reaches; place = past_less l h.place }

pub part_of : {m : ℕ} {x : Tree} {c : Place} → Whole m x c → Part m x c
part_of h = record { straight = h.straight; place = h.place }

pub many_less : {m n : ℕ} {xs : List Tree} {c : Place} → m ≤ n → Many n xs c → Many m xs c
many_less l h = record { straight = h.straight; place = past_less l h.place }

pub named_less : {m n : ℕ} {i : Ident} {c : Place} → m ≤ n → Named n i c → Named m i c
named_less l h = record { straight = h.straight; reaches = le_trans l h.reaches; place = past_less l h.place }

-- a node from a start to what was read last
pub node : {m : ℕ} {c : Place} (start : Span) (x : Tree) → start.lo.0 ≤ m → Past m c → (is_forward (record { lo = start.lo; hi = c.last.hi }) ≡ true → forward x ≡ true)
    → (span_of x).hi ≡ c.last.hi → Whole m x c
node {m} start x b g f e = record { straight = f (since_forward start b g); reaches = subst (λ (z : BytePos). m ≤ z.0) (sym e) g.gone; place = g }

-- ---- readers

-- what it reads takes the first token at least
abbrev pub Straight : Reader Tree → Type 0
Straight p = (s : State) → Here s.at → Meets (Read (far (after s.at))) (p s)

pub reads : (p : Reader Tree) → Straight p → {m : ℕ} → (s : State) → Ahead m s.at → Meets (Read m) (p s)
reads p below s a = meets_as (p s) (below s a.here) (λ x t h. whole_less a.ahead h)

pub reads_part : (p : Reader Tree) → Straight p → {m : ℕ} → (s : State) → Ahead m s.at → Meets (ReadPart m) (p s)
reads_part p below s a = meets_as (p s) (below s a.here) (λ x t h. part_of (whole_less a.ahead h))

abbrev pub StraightMany : Reader (List Tree) → Type 0
StraightMany p = (s : State) → Here s.at → Meets (ReadMany (far (after s.at))) (p s)

pub reads_many : (p : Reader (List Tree)) → StraightMany p → {m : ℕ} → (s : State) → Ahead m s.at → Meets (ReadMany m) (p s)
reads_many p below s a = meets_as (p s) (below s a.here) (λ x t h. many_less a.ahead h)
