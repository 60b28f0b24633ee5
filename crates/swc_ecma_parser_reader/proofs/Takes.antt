-- A reader never puts tokens back: its steps, and its loops.
use Rattle.std.proofs.Common.{◌≡◌, ◌≢◌, ℕ, zero, suc, ◌+◌, ◌≤◌, Bool, true, false, cond, List, [], ◌∷◌, length, Ok, Err, refl, sym, ap, subst, arith}
use Rattle.std.specs.Prelude.{nat_lt, ◌&&◌, ◌||◌, is_some, codes}
use Rattle.swc_ecma_parser_common.specs.declared.span.Span.{Span}
use Rattle.swc_ecma_parser_error.specs.Kind as faults
use Rattle.swc_ecma_parser_error.specs.Kind.{Kind, Fault, fault_of}
use Rattle.swc_ecma_parser_token.specs.declared.kind.TokenKind.{TokenKind}
use Rattle.swc_ecma_parser_token.specs.declared.kind.TokenKind.TheVariants as kind
use Rattle.swc_ecma_parser_token.specs.declared.token.Token.{Token}
use Rattle.swc_ecma_parser_token.specs.declared.token.Token.TheVariants as token
use Rattle.swc_ecma_parser_token.specs.declared.token.TokenAndSpan.{TokenAndSpan}
use Rattle.swc_ecma_parser_input.specs.TokenSource.{means_out_of_memory}
use Rattle.swc_ecma_parser_input.specs.Place.{Place, past, after}
use Rattle.swc_ecma_parser_model.specs.declared.leaves.Ident.{Ident}
use Rattle.swc_ecma_parser_model.specs.Tree.{Tree}
use Rattle.swc_ecma_parser_model.specs.Forms.{is_ident_named}
use Rattle.swc_ecma_parser_token.specs.Text.{word_text}
use Rattle.swc_ecma_parser_grammar.specs.Looks.{kind_at, sees}
use Rattle.swc_ecma_parser_grammar.specs.Names.{Code, is_name, is_identifier, may_bind_await}
use Rattle.swc_ecma_parser_grammar.specs.Ends.{can_end}
use Rattle.swc_ecma_parser_reader.specs.State.{State, Outcome, Reader, says_out_of_memory, labelled_as, and_then, moved, coded, wanted, wanted_in, wanted_at, too_deep, too_deep_in, too_deep_at, refused, refuse, refuse_in, refuse_at, fault, recorded_in, recorded_at, expect, end, name, name_in, name_by, Step, More, Done, next_turn, after_turn, turns, loop, reference, unclean_name, reject, reject_in, reject_at}
use Rattle.swc_ecma_parser_reader.specs.Reader.{close, note_statement, note_with, optional_end}

-- an answer leaves at least k tokens fewer than n
abbrev pub Falls : {A : Type 0} → ℕ → ℕ → Outcome A → Type 0
Falls k n (Ok p) = length p.1.at.left + k ≤ n
Falls k n (Err e) = Unit {0}

-- what falls from fewer tokens falls from more
pub weaker : {B : Type 0} (j k n m : ℕ) (o : Outcome B) → m + j ≤ n → Falls k m o → Falls (j + k) n o
weaker j k n m (Ok p) h g = omega arith
weaker j k n m (Err e) h g = tt

pub falls_then : {A B : Type 0} (j k n : ℕ) (o : Outcome A) (f : A → Reader B) → Falls j n o → ((a : A) (s : State) → Falls k (length s.at.left) (f a s)) → Falls (j + k) n (and_then o f)
falls_then j k n (Ok p) f h g = weaker j k n (length p.1.at.left) (f p.0 p.1) h (g p.0 p.1)
falls_then j k n (Err e) f h g = tt

-- the last step makes the tree
pub falls_last : {A B : Type 0} (j n : ℕ) (o : Outcome A) (g : A → State → B) → Falls j n o → Falls j n (and_then o (λ a s. Ok (g a s, s)))
falls_last j n (Ok p) g h = h
falls_last j n (Err e) g h = tt

-- the code around is no token
pub falls_coded : {A B : Type 0} (j n : ℕ) (o : Outcome A) (g : A → State → B) (k : A → State → Code) → Falls j n o → Falls j n (and_then o (λ a s. Ok (g a s, coded (k a s) s)))
falls_coded j n (Ok p) g k h = h
falls_coded j n (Err e) g k h = tt

-- nor is what was found
pub falls_found : {A B : Type 0} (j n : ℕ) (o : Outcome A) (f : A → State → State) (g : A → State → B) → ((a : A) (t : State) → (f a t).at ≡ t.at) → Falls j n o
    → Falls j n (and_then o (λ a t. Ok (g a t, f a t)))
falls_found j n (Ok p) f g e h = subst (λ c. length c.left + j ≤ n) (sym (e p.0 p.1)) h
falls_found j n (Err e) f g k h = tt

pub falls_if : {A : Type 0} (k n : ℕ) (b : Bool) (x y : Outcome A) → Falls k n x → Falls k n y → Falls k n (cond b x y)
falls_if k n true x y h g = h
falls_if k n false x y h g = g

-- one token at least is none at least
pub less : {A : Type 0} (n : ℕ) (o : Outcome A) → Falls 1 n o → Falls 0 n o
less n (Ok p) g = omega arith
less n (Err e) g = tt

-- what comes after a step that took a token may take none
pub falls_next : {A B : Type 0} (n : ℕ) (o : Outcome A) (f : A → Reader B) → Falls 1 n o → ((a : A) (s : State) → Falls 0 (length s.at.left) (f a s)) → Falls 1 n (and_then o f)
falls_next n o f h g = falls_then 1 0 n o f h g

-- ---- one token: it is taken wherever one stands

moves_by : (c : Place) (ts : List TokenAndSpan) → c.left ≡ ts → length (past c ts).left ≤ length c.left
moves_by c [] e = omega arith
moves_by c (t ∷ ts) e = let l : length c.left ≡ suc (length ts) = ap length e in omega arith

pub moves : (c : Place) → length (after c).left ≤ length c.left
unfolding after
moves c = moves_by c c.left refl

takes_by : (c : Place) (ts : List TokenAndSpan) → c.left ≡ ts → kind_at c ≢ kind.End → length (past c ts).left + 1 ≤ length c.left
unfolding kind_at
takes_by c [] e h = absurd (h (rw e refl))
takes_by c (t ∷ ts) e h = let l : length c.left ≡ suc (length ts) = ap length e in omega arith

pub takes : (c : Place) → kind_at c ≢ kind.End → length (after c).left + 1 ≤ length c.left
unfolding after
takes c h = takes_by c c.left refl h

-- the same where a token is known to stand
pub takes_one : (c : Place) (t : TokenAndSpan) (ts : List TokenAndSpan) → c.left ≡ t ∷ ts → length (after c).left + 1 ≤ length c.left
unfolding after
takes_one c t ts e = rw e (omega arith)

-- what comes after a skip
pub falls_past : {B : Type 0} (s : State) (o : Outcome B) → kind_at s.at ≢ kind.End → Falls 0 (length (after s.at).left) o → Falls 1 (length s.at.left) o
falls_past s o e h = weaker 1 0 (length s.at.left) (length (after s.at).left) o (takes s.at e) h

pub fewer : {B : Type 0} (k n m : ℕ) (o : Outcome B) → m ≤ n → Falls k m o → Falls k n o
fewer k n m (Ok p) h g = omega arith
fewer k n m (Err e) h g = tt

pub falls_moved : {B : Type 0} (k : ℕ) (s : State) (o : Outcome B) → Falls k (length (after s.at).left) o → Falls k (length s.at.left) o
falls_moved k s o h = fewer k (length s.at.left) (length (after s.at).left) o (moves s.at) h

-- ---- refusals answer nothing

wanted_by : (A : Type 0) (j n : ℕ) (k : Kind) (s : State) (t : Token) (span : Span) → Falls j n (wanted_at {A = A} k s t span)
wanted_by A j n k s (token.Error e) span = tt
wanted_by A j n k s _ span = tt

wanted_from : (A : Type 0) (j n : ℕ) (k : Kind) (s : State) (ts : List TokenAndSpan) → Falls j n (wanted_in {A = A} k s ts)
wanted_from A j n k s [] = tt
wanted_from A j n k s (t ∷ ts) = wanted_by A j n k s t.token t.span

pub wanted_falls : (A : Type 0) (j n : ℕ) (k : Kind) (s : State) → Falls j n (wanted {A = A} k s)
unfolding wanted
wanted_falls A j n k s = wanted_from A j n k s s.at.left

too_deep_by : (A : Type 0) (j n : ℕ) (s : State) (t : Token) (span : Span) → Falls j n (too_deep_at {A = A} s t span)
too_deep_by A j n s (token.Error e) span = tt
too_deep_by A j n s _ span = tt

too_deep_from : (A : Type 0) (j n : ℕ) (s : State) (ts : List TokenAndSpan) → Falls j n (too_deep_in {A = A} s ts)
too_deep_from A j n s [] = tt
too_deep_from A j n s (t ∷ ts) = too_deep_by A j n s t.token t.span

pub too_deep_falls : (A : Type 0) (j n : ℕ) (s : State) → Falls j n (too_deep {A = A} s)
unfolding too_deep
too_deep_falls A j n s = too_deep_from A j n s s.at.left

pub refused_falls : (A : Type 0) (j n : ℕ) (f : Fault) (o : Outcome (Unit {0})) → Falls j n (refused {A = A} f o)
refused_falls A j n f (Ok p) = tt
refused_falls A j n f (Err e) = tt

refuse_by : (A : Type 0) (j n : ℕ) (k : Kind) (s : State) (t : Token) (span : Span) → Falls j n (refuse_at {A = A} k s t span)
refuse_by A j n k s (token.Error e) span = falls_if j n (means_out_of_memory e.kind) _ _ tt (refused_falls A j n _ (fault (fault_of e) (moved s)))
refuse_by A j n k s _ span = tt

refuse_from : (A : Type 0) (j n : ℕ) (k : Kind) (s : State) (ts : List TokenAndSpan) → Falls j n (refuse_in {A = A} k s ts)
refuse_from A j n k s [] = tt
refuse_from A j n k s (t ∷ ts) = refuse_by A j n k s t.token t.span

pub refuse_falls : (A : Type 0) (j n : ℕ) (k : Kind) (s : State) → Falls j n (refuse {A = A} k s)
unfolding refuse
refuse_falls A j n k s = refuse_from A j n k s s.at.left

-- ---- recording takes an error token at most

recorded_by : (f : Fault) (s : State) (t : Token) → Falls 0 (length s.at.left) (recorded_at f s t)
recorded_by f s (token.Error e) = let m = moves s.at in falls_if 0 (length s.at.left) (means_out_of_memory e.kind) _ _ tt (omega arith)
recorded_by f s _ = omega arith

recorded_from : (f : Fault) (s : State) (ts : List TokenAndSpan) → Falls 0 (length s.at.left) (recorded_in f s ts)
recorded_from f s [] = omega arith
recorded_from f s (t ∷ ts) = recorded_by f s t.token

pub fault_falls : (f : Fault) (s : State) → Falls 0 (length s.at.left) (fault f s)
unfolding fault
fault_falls f s = recorded_from f s s.at.left

-- ---- refusals of what was read answer nothing

reject_by : (A : Type 0) (j n : ℕ) (f : Fault) (s : State) (t : Token) → Falls j n (reject_at {A = A} f s t)
reject_by A j n f s (token.Error e) = falls_if j n (means_out_of_memory e.kind) _ _ tt (refused_falls A j n _ (fault (fault_of e) (moved s)))
reject_by A j n f s _ = tt

reject_from : (A : Type 0) (j n : ℕ) (f : Fault) (s : State) (ts : List TokenAndSpan) → Falls j n (reject_in {A = A} f s ts)
reject_from A j n f s [] = tt
reject_from A j n f s (t ∷ ts) = reject_by A j n f s t.token

pub reject_falls : (A : Type 0) (j n : ℕ) (f : Fault) (s : State) → Falls j n (reject {A = A} f s)
unfolding reject
reject_falls A j n f s = reject_from A j n f s s.at.left

-- ---- fixed tokens, ends and names

pub end_falls : (k : Kind) (s : State) → Falls 0 (length s.at.left) (end k s)
unfolding end
end_falls k s = falls_if 0 (length s.at.left) (sees kind.Semi s.at) _ _ (let m = moves s.at in omega arith)
    (falls_if 0 (length s.at.left) (can_end s.at) _ _ (omega arith) (refuse_falls (Unit {0}) 0 (length s.at.left) k s))

pub close_falls : (s : State) → Falls 0 (length s.at.left) (close s)
unfolding close
close_falls s = falls_if 0 (length s.at.left) (sees kind.RBrace s.at) _ _ (let m = moves s.at in omega arith) (fault_falls _ s)

pub expect_falls : (k : TokenKind) (s : State) → Falls 0 (length s.at.left) (expect k s)
unfolding expect
expect_falls k s = falls_if 0 (length s.at.left) (sees k s.at) _ _ (let m = moves s.at in omega arith) (refuse_falls (Unit {0}) 0 (length s.at.left) faults.Expected s)

-- `await` is a token, and an error token may stand behind it
unclean_falls : (i : Ident) (s : State) (t : TokenAndSpan) (ts : List TokenAndSpan) → s.at.left ≡ t ∷ ts → Falls 1 (length s.at.left) (unclean_name i s)
unfolding unclean_name
unclean_falls i s t ts e = falls_if 1 (length s.at.left) (may_bind_await s.code.flags) _ _
    (weaker 1 0 (length s.at.left) (length (after s.at).left) _ (takes_one s.at t ts e) (falls_then 0 0 (length (after s.at).left) (fault _ (moved s)) _ (fault_falls _ (moved s)) (λ _ u. omega arith)))
    (wanted_falls Ident 1 (length s.at.left) faults.ExpectedIdent s)

named_by : (k : Kind) (s : State) (t : TokenAndSpan) (ts : List TokenAndSpan) (u : Token) (span : Span) → s.at.left ≡ t ∷ ts → Falls 1 (length s.at.left) (name_by k s u span)
named_by k s t ts (token.Word w) span e =
    falls_if 1 (length s.at.left) (is_name s.code.flags (word_text w)) _ _ (takes_one s.at t ts e)
    (falls_if 1 (length s.at.left) (is_identifier s.code.flags (word_text w)) _ _ (unclean_falls _ s t ts e) (wanted_falls Ident 1 (length s.at.left) k s))
named_by k s t ts _ span e = wanted_falls Ident 1 (length s.at.left) k s

named_from : (k : Kind) (s : State) (ts : List TokenAndSpan) → s.at.left ≡ ts → Falls 1 (length s.at.left) (name_in k s ts)
named_from k s [] e = wanted_falls Ident 1 (length s.at.left) k s
named_from k s (t ∷ ts) e = named_by k s t ts t.token t.span e

pub name_falls : (k : Kind) (s : State) → Falls 1 (length s.at.left) (name k s)
unfolding name
name_falls k s = named_from k s s.at.left refl

pub reference_falls : (k : Kind) (s : State) → Falls 1 (length s.at.left) (reference k s)
unfolding reference
reference_falls k s = falls_if 1 (length s.at.left) (s.code.flags.in_async && sees kind.Await s.at) _ _ (wanted_falls Ident 1 (length s.at.left) faults.ExpectedIdent s) (name_falls k s)

-- ---- loops

module _ {A B : Type 0} where
  falls_turn : (go : A → Reader B) (n before : ℕ) (s : State) (step : Step A B) → length s.at.left ≤ n
      → ((a : A) (t : State) → Falls 0 (length t.at.left) (go a t)) → Falls 0 n (next_turn go before s step)
  falls_turn go n before s (More a) h g =
      falls_if 0 n (nat_lt (length s.at.left) before) _ _ (weaker 0 0 n (length s.at.left) (go a s) (omega arith) (g a s)) tt
  falls_turn go n before s (Done b) h g = omega arith

  falls_after : (go : A → Reader B) (n before : ℕ) (o : Outcome (Step A B)) → Falls 0 n o
      → ((a : A) (t : State) → Falls 0 (length t.at.left) (go a t)) → Falls 0 n (after_turn go before o)
  falls_after go n before (Ok p) h g = falls_turn go n before p.1 p.0 (omega arith) g
  falls_after go n before (Err e) h g = tt

module _ {A B : Type 0} (body : A → Reader (Step A B)) (h : (a : A) (s : State) → Falls 0 (length s.at.left) (body a s)) where
  turns_fall : (n : ℕ) (a : A) (s : State) → Falls 0 (length s.at.left) (turns body n a s)
  turns_fall zero a s = tt
  turns_fall (suc n) a s = falls_after (turns body n) (length s.at.left) (length s.at.left) (body a s) (h a s) (turns_fall n)

  pub loop_falls : (a : A) (s : State) → Falls 0 (length s.at.left) (loop body a s)
  unfolding loop
  loop_falls a s = turns_fall (suc (length s.at.left)) a s

-- a choice whose test is known
pub falls_where : {A : Type 0} (k n : ℕ) (b : Bool) (x y : Outcome A) → (b ≡ true → Falls k n x) → Falls k n y → Falls k n (cond b x y)
falls_where k n true x y h g = h refl
falls_where k n false x y h g = g

-- and one between readers
pub falls_choice : {A : Type 0} (k n : ℕ) (b : Bool) (p q : Reader A) (s : State) → Falls k n (p s) → Falls k n (q s) → Falls k n (cond b p q s)
falls_choice k n true p q s h g = h
falls_choice k n false p q s h g = g

-- a refusal said otherwise
pub labelled_falls : {A : Type 0} (j n : ℕ) (o : Outcome A) → Falls j n o → Falls j n (labelled_as o)
labelled_falls j n (Ok p) h = h
labelled_falls j n (Err e) h = falls_if j n (is_some e.1.scope.mark || says_out_of_memory e.0.kind) _ _ tt tt

-- a fault of module code is no token, whether recorded or held back
noted_either : (b : Bool) (n : ℕ) (s t : State) → length s.at.left + 0 ≤ n → length t.at.left + 0 ≤ n → length (cond b s t).at.left + 0 ≤ n
noted_either true n s t h g = h
noted_either false n s t h g = g

pub note_falls : (x : Tree) (s : State) → Falls 0 (length s.at.left) (note_statement x s)
unfolding note_statement
note_falls x s = falls_if 0 (length s.at.left) (is_ident_named (codes "interface") x) _ _ (noted_either s.code.flags.module (length s.at.left) _ _ (omega arith) (omega arith)) (omega arith)

pub note_with_falls : (span : Span) (s : State) → Falls 0 (length s.at.left) (note_with span s)
unfolding note_with
note_with_falls span s = noted_either s.code.flags.module (length s.at.left) _ _ (omega arith) (omega arith)

pub optional_end_falls : (s : State) → Falls 0 (length s.at.left) (optional_end s)
unfolding optional_end
optional_end_falls s = falls_if 0 (length s.at.left) (sees kind.Semi s.at) _ _ (let m = moves s.at in omega arith) (omega arith)
