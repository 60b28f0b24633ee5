-- What answers and refusals leave alike: the tokens that are left are the last of those that were, what was read last is the token
-- before them, and the faults that were recorded stand before those that are, as those that were held back do. Neither an answer nor a
-- refusal that says something else has passed a token that memory ran out for. The settings, whether the code is a module's, and the
-- mark are what they were, but for a refusal, which may set the mark.
use Rattle.std.proofs.Common.{◌≡◌, ℕ, zero, suc, List, [], ◌∷◌, ◌++◌, Option, Some, None, Ok, Err, sym, ◌∙◌, ap, refl, append-nil, append_assoc, suc, length, Bool, true, false, true≢false}
use Rattle.std.specs.Prelude.{nat_lt, ◌&&◌, is_some}
use Rattle.swc_ecma_parser_common.specs.declared.span.Span.{Span}
use Rattle.swc_ecma_parser_error.specs.Kind as faults
use Rattle.swc_ecma_parser_error.specs.Kind.{Kind, Fault, fault_of, kind_of}
use Rattle.swc_ecma_parser_error.specs.declared.error.Error.{Error}
use Rattle.swc_ecma_parser_error.specs.declared.kind.SyntaxError.{SyntaxError}
use Rattle.swc_ecma_parser_error.specs.declared.kind.SyntaxError.TheVariants as says
use Rattle.swc_ecma_parser_token.specs.declared.kind.TokenKind.{TokenKind}
use Rattle.swc_ecma_parser_token.specs.declared.kind.TokenKind.TheVariants as kind
use Rattle.swc_ecma_parser_token.specs.declared.token.Token.{Token}
use Rattle.swc_ecma_parser_token.specs.declared.token.Token.TheVariants as token
use Rattle.swc_ecma_parser_token.specs.declared.token.TokenAndSpan.{TokenAndSpan}
use Rattle.swc_ecma_parser_token.specs.Text.{word_text}
use Rattle.swc_ecma_parser_input.specs.TokenSource.{means_out_of_memory, is_out_of_memory}
use Rattle.swc_ecma_parser_input.specs.Place.{after, past}
use Rattle.swc_ecma_parser_model.specs.Tree.{Text}
use Rattle.swc_ecma_parser_grammar.specs.Looks.{kind_at, sees, span_at}
use Rattle.swc_ecma_parser_grammar.specs.Names.{Code, is_name, is_identifier, may_bind_await}
use Rattle.swc_ecma_parser_grammar.specs.Ends.{can_end}
use Rattle.swc_ecma_parser_grammar.specs.Notes.{as_note}
use Rattle.swc_ecma_parser_grammar.specs.Walk.{is_tabled, tabled}
use Rattle.swc_ecma_parser_grammar.proofs.Tabled.{tabled-append}
use Rattle.swc_ecma_parser_reader.specs.State.{State, Outcome, Reader, says_out_of_memory, moved, coded, flagged, marked, noted, holding_back, fault, recorded_in, recorded_at, fault_at, expect, end, name, name_in, name_by, wanted, wanted_in, wanted_at, too_deep, too_deep_in, too_deep_at, refuse, refuse_in, refuse_at, reject, reject_in, reject_at, refused, Step, after_turn, loop, next_turn, turns, More, Done, reference, unclean_name, as_name}
use Rattle.swc_ecma_parser_reader.specs.Reader.{close, shebang_of, shebang_in, shebang_taken, shebang}
use Rattle.swc_ecma_parser_reader.specs.Entry.{last_span, Behind, IsBehind}
use Rattle.swc_ecma_parser_reader.specs.Limits.{has_out_of_memory_token}
use Rattle.swc_ecma_parser_reader.proofs.Meets.{Answers, Meets, answers_if, answers_then, saw}
use Rattle.swc_ecma_parser_reader.proofs.Errors.{is_error, after_remembers, spares_after, fault_here}
use Rattle.swc_ecma_parser_model.specs.declared.leaves.Ident.{Ident}
use Rattle.swc_ecma_parser_input.specs.declared.context.Context.{Context}
use Rattle.swc_ecma_parser_input.specs.declared.syntax.EsSyntax.{EsSyntax}
use Rattle.swc_ecma_parser_reader.specs.declared.mark.Mark.{Mark}
use Rattle.swc_ecma_parser_reader.specs.declared.mark.Mark.TheVariants as mark

-- no token that memory ran out for was passed
abbrev pub Remembers : State → State → Type 0
Remembers b s = has_out_of_memory_token s.at.left ≡ false → has_out_of_memory_token b.at.left ≡ false

-- what stands around is alike: the settings, whether the code is a module's, and the mark
pub record Around (j k : EsSyntax) (a b : Bool) (m n : Option Mark) : Type 0 where
  pub setting : k ≡ j
  pub in_module : b ≡ a
  pub mark : n ≡ m

-- it stays
abbrev pub StaysAround : State → State → Type 0
StaysAround b t = Around b.code.setting t.code.setting b.code.flags.module t.code.flags.module b.scope.mark t.scope.mark

-- the same of a refusal, which may set the mark
pub record AroundUnmarked (j k : EsSyntax) (a b : Bool) (m n : Option Mark) : Type 0 where
  pub setting : k ≡ j
  pub in_module : b ≡ a
  pub mark : is_some n ≡ false → n ≡ m

abbrev pub LeavesAround : State → State → Type 0
LeavesAround b t = AroundUnmarked b.code.setting t.code.setting b.code.flags.module t.code.flags.module b.scope.mark t.scope.mark

-- more is held back, of kinds that no walk finds
abbrev pub IsHeld : List Fault → List Fault → Type 0
IsHeld fs gs = (added : List Fault) × (gs ≡ fs ++ added) × (tabled added ≡ [])

-- nothing is lost, of what was held back neither, no token that memory ran out for was passed, and what stands around stays
abbrev pub NothingLost : State → State → Type 0
NothingLost b s = IsBehind b s × IsHeld b.notes.held_back s.notes.held_back × Remembers b s × StaysAround b s

pub behind_self : (s : State) → NothingLost s s
behind_self s = (
  record { added = []; faults = sym (append-nil s.faults); read = []; tokens = refl; last = refl },
  ([], sym (append-nil s.notes.held_back), refl),
  λ h. h,
  record { setting = refl; in_module = refl; mark = refl },
)

-- what stays stays in a refusal
pub stays_leaves : (b t : State) → StaysAround b t → LeavesAround b t
stays_leaves b t h = record { setting = h.setting; in_module = h.in_module; mark = λ _. h.mark }

-- in one that sets no mark all stays
pub leaves_stays : (b t : State) → is_some t.scope.mark ≡ false → LeavesAround b t → StaysAround b t
leaves_stays b t e h = record { setting = h.setting; in_module = h.in_module; mark = h.mark e }

leaves_then : (b s t : State) → LeavesAround b s → LeavesAround s t → LeavesAround b t
leaves_then b s t h g = record {
  setting = g.setting ∙ h.setting;
  in_module = g.in_module ∙ h.in_module;
  mark = λ e. g.mark e ∙ h.mark (ap is_some (sym (g.mark e)) ∙ e);
}

-- the last of some tokens and of more
last_appended : (s : Span) (ts us : List TokenAndSpan) → last_span s (ts ++ us) ≡ last_span (last_span s ts) us
last_appended s [] us = refl
last_appended s (t ∷ ts) us = last_appended t.span ts us

behind_rest : (b s : State) (ts : List TokenAndSpan) → s.at.left ≡ ts → IsBehind b s → Behind b.faults b.at s.faults (past s.at ts)
behind_rest b s [] e h = h
behind_rest b s (t ∷ ts) e h = record {
  added = h.added;
  faults = h.faults;
  read = h.read ++ t ∷ [];
  tokens = h.tokens ∙ ap (λ z. h.read ++ z) e ∙ sym (append_assoc h.read (t ∷ []) ts);
  last = sym (last_appended b.at.last h.read (t ∷ []));
}

pub behind_next : (b s : State) → IsBehind b s → IsBehind b (moved s)
unfolding after
behind_next b s h = behind_rest b s s.at.left refl h

-- behind what is behind
pub behind_then : (b s t : State) → IsBehind b s → IsBehind s t → IsBehind b t
behind_then b s t h g = record {
  added = h.added ++ g.added;
  faults = g.faults ∙ ap (λ z. z ++ g.added) h.faults ∙ append_assoc b.faults h.added g.added;
  read = h.read ++ g.read;
  tokens = h.tokens ∙ ap (λ z. h.read ++ z) g.tokens ∙ sym (append_assoc h.read g.read t.at.left);
  last = g.last ∙ ap (λ z. last_span z g.read) h.last ∙ sym (last_appended b.at.last h.read g.read);
}

pub none_tabled : (fs gs : List Fault) → tabled fs ≡ [] → tabled gs ≡ [] → tabled (fs ++ gs) ≡ []
none_tabled fs gs h g = tabled-append fs gs ∙ ap (λ z. z ++ tabled gs) h ∙ g

pub held_then : (a b c : List Fault) → IsHeld a b → IsHeld b c → IsHeld a c
held_then a b c h g = (h.0 ++ g.0, g.1 ∙ ap (λ z. z ++ g.0) h.1 ∙ append_assoc a h.0 g.0, none_tabled h.0 g.0 h.2 g.2)

-- behind one more token that memory did not run out for
behind_past : (b s : State) → Remembers s (moved s) → NothingLost b s → NothingLost b (moved s)
behind_past b s r h = (behind_next b s h.0, h.1, (λ g. h.2 (r g)), h.3)

-- the first one is given
pub behind_taken : (b s : State) (u : TokenAndSpan) (ts : List TokenAndSpan) → s.at.left ≡ u ∷ ts → is_out_of_memory u.token ≡ false → NothingLost b s → NothingLost b (moved s)
behind_taken b s u ts e g h = behind_past b s (after_remembers s.at u ts e g) h

-- one of a kind that is no error's
pub behind_after : {j : TokenKind} (b s : State) → kind_at s.at ≡ j → is_error j ≡ false → NothingLost b s → NothingLost b (moved s)
behind_after b s e g h = behind_past b s (spares_after s.at e g).remembers h

pub behind_seen : (b s : State) (j : TokenKind) → sees j s.at ≡ true → is_error j ≡ false → NothingLost b s → NothingLost b (moved s)
behind_seen b s j e g h = behind_after b s (saw s.at j e) g h

-- and behind one more fault
pub behind_noted : (b : State) (f : Fault) (s : State) → NothingLost b s → NothingLost b (noted f s)
behind_noted b f s (h, k, r, w) =
    (record { added = h.added ++ f ∷ []; faults = ap (λ z. z ++ f ∷ []) h.faults ∙ append_assoc b.faults h.added (f ∷ []); read = h.read; tokens = h.tokens; last = h.last }, k, r, w)

-- or behind one more that is held back, of a kind that no walk finds
pub behind_held : (b : State) (f : Fault) (s : State) → is_tabled f.kind ≡ false → NothingLost b s → NothingLost b (holding_back f s)
behind_held b f s e (h, k, r, w) = (
  h,
  (k.0 ++ as_note f ∷ [], ap (λ z. z ++ as_note f ∷ []) k.1 ∙ append_assoc b.notes.held_back k.0 (as_note f ∷ []), none_tabled k.0 (as_note f ∷ []) k.2 (rw e refl)),
  r,
  w,
)

-- or under other code that has the settings and is a module's, or not, as before
pub coded_kept : (b s : State) (k : Code) → k.setting ≡ s.code.setting → k.flags.module ≡ s.code.flags.module → NothingLost b s → NothingLost b (coded k s)
coded_kept b s k e g (h, l, r, w) = (h, l, r, record { setting = e ∙ w.setting; in_module = g ∙ w.in_module; mark = w.mark })

-- or under the flags of a state before
pub flagged_kept : (b s t : State) → NothingLost b s → NothingLost b t → NothingLost b (flagged s.code t)
flagged_kept b s t f (h, l, r, w) = (h, l, r, record { setting = w.setting; in_module = f.3.in_module; mark = w.mark })

abbrev pub Kept : {A : Type 0} → State → A → State → Type 0
Kept b x t = NothingLost b t

-- A refusal loses nothing either, unless it says that memory ran out no token that it ran out for was passed, and what stands around
-- stays, but for the mark.
abbrev pub Lost : State → Fault → State → Type 0
Lost b e t = IsBehind b t × IsHeld b.notes.held_back t.notes.held_back × (says_out_of_memory e.kind ≡ false → Remembers b t) × LeavesAround b t

-- a refusal in a state in which nothing was lost
pub lost : (b : State) (e : Fault) (t : State) → NothingLost b t → Lost b e t
lost b e t h = (h.0, h.1, (λ g. h.2), stays_leaves b t h.3)

-- and in one that is marked
pub marked_lost : (b : State) (e : Fault) (m : Mark) (t : State) → NothingLost b t → Lost b e (marked m t)
marked_lost b e m t h = (h.0, h.1, (λ g. h.2), record { setting = h.3.setting; in_module = h.3.in_module; mark = λ i. absurd (true≢false i) })

pub lost_behind : (b : State) (e : Fault) (t : State) → Lost b e t → IsBehind b t
lost_behind b e t h = h.0

pub lost_remembers : (b : State) (e : Fault) (t : State) → Lost b e t → says_out_of_memory e.kind ≡ false → Remembers b t
lost_remembers b e t h = h.2

pub kept_behind : (b t : State) → NothingLost b t → IsBehind b t
kept_behind b t h = h.0

pub kept_remembers : (b t : State) → NothingLost b t → Remembers b t
kept_remembers b t h = h.2

pub kept_around : (b t : State) → NothingLost b t → StaysAround b t
kept_around b t h = h.3

pub lost_around : (b : State) (e : Fault) (t : State) → Lost b e t → LeavesAround b t
lost_around b e t h = h.3

-- the same, said otherwise
pub answers_as : {A : Type 0} {P Q : A → State → Type 0} (E : Fault → State → Type 0) (o : Outcome A) → Answers P E o → ((a : A) (t : State) → P a t → Q a t) → Answers Q E o
answers_as E (Ok p) h g = g p.0 p.1 h
answers_as E (Err e) h g = h

-- what an answer is besides
pub kept_both : {A : Type 0} (P Q : A → State → Type 0) (E : Fault → State → Type 0) (o : Outcome A) → Answers P E o → Meets Q o → Answers (λ a t. P a t × Q a t) E o
kept_both P Q E (Ok p) h g = (h, g)
kept_both P Q E (Err e) h g = h

-- whatever is known of the place
pub kept_here : {A : Type 0} (b s : State) (o : Outcome A) → Answers (λ _ t. NothingLost b t × (t.at ≡ s.at)) (Lost b) o → Answers (Kept b) (Lost b) o
kept_here b s (Ok p) h = h.0
kept_here b s (Err e) h = h

-- the same of the tokens and of what was recorded alone
abbrev pub Follows : {A : Type 0} → State → A → State → Type 0
Follows b x t = IsBehind b t

pub follows : {A : Type 0} (b : State) (o : Outcome A) → Answers (Kept b) (Lost b) o → Answers (Follows b) (Follows b) o
follows b (Ok p) h = h.0
follows b (Err e) h = h.0

-- the same where the code may become a module's, or a script's: of what stands around nothing is said
abbrev pub LosesNothing : State → State → Type 0
LosesNothing b t = IsBehind b t × IsHeld b.notes.held_back t.notes.held_back × Remembers b t

abbrev pub ItemKept : {A : Type 0} → State → A → State → Type 0
ItemKept b x t = LosesNothing b t

abbrev pub ItemLost : State → Fault → State → Type 0
ItemLost b e t = IsBehind b t × IsHeld b.notes.held_back t.notes.held_back × (says_out_of_memory e.kind ≡ false → Remembers b t)

abbrev pub ItemPasses : {A : Type 0} → Reader A → Type 0
ItemPasses p = (b s : State) → LosesNothing b s → Answers (ItemKept b) (ItemLost b) (p s)

pub item_self : (s : State) → LosesNothing s s
item_self s = let h = behind_self s in (h.0, h.1, h.2)

pub items_follow : {A : Type 0} (b : State) (o : Outcome A) → Answers (ItemKept b) (ItemLost b) o → Answers (Follows b) (Follows b) o
items_follow b (Ok p) h = h.0
items_follow b (Err e) h = h.0

-- what is kept from a state on is kept from one before
pub items_from : {A : Type 0} (b s : State) (o : Outcome A) → LosesNothing b s → Answers (Kept s) (Lost s) o → Answers (ItemKept b) (ItemLost b) o
items_from b s (Ok p) f h = (behind_then b s p.1 f.0 h.0, held_then b.notes.held_back s.notes.held_back p.1.notes.held_back f.1 h.1, λ g. f.2 (h.2 g))
items_from b s (Err e) f h = (behind_then b s e.1 f.0 h.0, held_then b.notes.held_back s.notes.held_back e.1.notes.held_back f.1 h.1, λ j g. f.2 (h.2 j g))

-- a reader that keeps them
abbrev pub Passes : {A : Type 0} → Reader A → Type 0
Passes p = (b s : State) → NothingLost b s → Answers (Kept b) (Lost b) (p s)

-- ---- error tokens

-- what is no error for want of memory says so
memory_told : (k : SyntaxError) → says_out_of_memory (kind_of k) ≡ false → means_out_of_memory k ≡ false
memory_told says.OutOfMemory h = h
memory_told _ h = refl

module _ (b s : State) (h : NothingLost b s) (u : TokenAndSpan) (ts : List TokenAndSpan) (is : s.at.left ≡ u ∷ ts) (e : Error) (g : u.token ≡ token.Error e) where
  -- one that memory did not run out for is read
  pub error_taken : means_out_of_memory e.kind ≡ false → NothingLost b (moved s)
  error_taken j = behind_taken b s u ts is (rw g j) h

  -- any is read, and its fault answered
  pub error_lost : Lost b (fault_of e) (moved s)
  error_lost = (behind_next b s h.0, h.1, (λ j. (error_taken (memory_told e.kind j)).2), stays_leaves b s h.3)

module _ (b s : State) (h : NothingLost b s) where
  recorded_at_keeps : (f : Fault) (u : TokenAndSpan) (ts : List TokenAndSpan) → s.at.left ≡ u ∷ ts → (v : Token) → u.token ≡ v → Answers (Kept b) (Lost b) (recorded_at f s v)
  recorded_at_keeps f u ts is (token.Error e) g = answers_if _ _ (means_out_of_memory e.kind) _ _ (λ _. error_lost b s h u ts is e g)
      (λ j. behind_noted b f (noted (fault_of e) (moved s)) (behind_noted b (fault_of e) (moved s) (error_taken b s h u ts is e g j)))
  recorded_at_keeps f u ts is _ g = behind_noted b f s h

  recorded_in_keeps : (f : Fault) (ts : List TokenAndSpan) → s.at.left ≡ ts → Answers (Kept b) (Lost b) (recorded_in f s ts)
  recorded_in_keeps f [] is = behind_noted b f s h
  recorded_in_keeps f (u ∷ ts) is = recorded_at_keeps f u ts is u.token refl

  pub fault_keeps : (f : Fault) → Answers (Kept b) (Lost b) (fault f s)
  unfolding fault
  fault_keeps f = recorded_in_keeps f s.at.left refl

  -- where no error token stands, none is read
  pub fault_stays : (f : Fault) → is_error (kind_at s.at) ≡ false → Answers (λ _ t. NothingLost b t × (t.at ≡ s.at)) (Lost b) (fault f s)
  fault_stays f e = rw (fault_here s f e) (behind_noted b f s h, refl)

-- ---- refusals

pub refused_keeps : {A : Type 0} (P : A → State → Type 0) (b : State) (f : Fault) (o : Outcome (Unit {0})) → Answers (Kept b) (Lost b) o → Answers P (Lost b) (refused f o)
refused_keeps P b f (Ok p) h = lost b f p.1 h
refused_keeps P b f (Err e) h = h

-- what is told says that memory ran out where it is refused, so the same of a refusal that says so
abbrev pub SaysMemory : Fault → State → Type 0
SaysMemory e t = says_out_of_memory e.kind ≡ true

memory_says : (k : SyntaxError) → means_out_of_memory k ≡ true → says_out_of_memory (kind_of k) ≡ true
memory_says says.OutOfMemory h = refl
memory_says _ h = cc

recorded_at_says : (f : Fault) (s : State) (v : Token) → Answers (λ _ _. Unit {0}) SaysMemory (recorded_at f s v)
recorded_at_says f s (token.Error e) = answers_if _ _ (means_out_of_memory e.kind) _ _ (λ h. memory_says e.kind h) (λ _. tt)
recorded_at_says f s _ = tt

recorded_in_says : (f : Fault) (s : State) (ts : List TokenAndSpan) → Answers (λ _ _. Unit {0}) SaysMemory (recorded_in f s ts)
recorded_in_says f s [] = tt
recorded_in_says f s (u ∷ ts) = recorded_at_says f s u.token

pub fault_says : (f : Fault) (s : State) → Answers (λ _ _. Unit {0}) SaysMemory (fault f s)
unfolding fault
fault_says f s = recorded_in_says f s s.at.left

pub memory_refused_keeps : {A : Type 0} (P : A → State → Type 0) (b : State) (f : Fault) (s : State) (o : Outcome (Unit {0})) → says_out_of_memory f.kind ≡ true → Lost b f s
    → Answers (Kept s) (Lost s) o → Answers (λ _ _. Unit {0}) SaysMemory o → Answers P (Lost b) (refused f o)
memory_refused_keeps P b f s (Ok p) e h g i = (
  behind_then b s p.1 h.0 g.0,
  held_then b.notes.held_back s.notes.held_back p.1.notes.held_back h.1 g.1,
  (λ j. absurd (true≢false (sym e ∙ j))),
  leaves_then b s p.1 h.3 (stays_leaves s p.1 g.3),
)
memory_refused_keeps P b f s (Err p) e h g i = (
  behind_then b s p.1 h.0 g.0,
  held_then b.notes.held_back s.notes.held_back p.1.notes.held_back h.1 g.1,
  (λ j. absurd (true≢false (sym i ∙ j))),
  leaves_then b s p.1 h.3 g.3,
)

module _ {A : Type 0} (P : A → State → Type 0) (b s : State) (h : NothingLost b s) where
  too_deep_at_keeps : (u : TokenAndSpan) (ts : List TokenAndSpan) → s.at.left ≡ u ∷ ts → (v : Token) (span : Span) → u.token ≡ v → Answers P (Lost b) (too_deep_at s v span)
  too_deep_at_keeps u ts is (token.Error e) span g = error_lost b s h u ts is e g
  too_deep_at_keeps u ts is _ span g = marked_lost b (fault_at span faults.TooDeep) mark.TooDeep s h

  too_deep_in_keeps : (ts : List TokenAndSpan) → s.at.left ≡ ts → Answers P (Lost b) (too_deep_in s ts)
  too_deep_in_keeps [] is = lost b (fault_at s.at.last faults.Eof) s h
  too_deep_in_keeps (u ∷ ts) is = too_deep_at_keeps u ts is u.token u.span refl

  pub too_deep_keeps : Answers P (Lost b) (too_deep s)
  unfolding too_deep
  too_deep_keeps = too_deep_in_keeps s.at.left refl

  -- an error token that stands here is read and recorded
  told_keeps : (f g : Fault) → NothingLost b (moved s) → Answers P (Lost b) (refused f (fault g (moved s)))
  told_keeps f g j = refused_keeps P b f (fault g (moved s)) (fault_keeps b (moved s) j g)

  reject_at_keeps : (f : Fault) (u : TokenAndSpan) (ts : List TokenAndSpan) → s.at.left ≡ u ∷ ts → (v : Token) → u.token ≡ v → Answers P (Lost b) (reject_at f s v)
  reject_at_keeps f u ts is (token.Error e) g = answers_if _ _ (means_out_of_memory e.kind) _ _ (λ _. error_lost b s h u ts is e g) (λ j. told_keeps f (fault_of e) (error_taken b s h u ts is e g j))
  reject_at_keeps f u ts is _ g = lost b f s h

  reject_in_keeps : (f : Fault) (ts : List TokenAndSpan) → s.at.left ≡ ts → Answers P (Lost b) (reject_in f s ts)
  reject_in_keeps f [] is = lost b f s h
  reject_in_keeps f (u ∷ ts) is = reject_at_keeps f u ts is u.token refl

module _ {A : Type 0} (P : A → State → Type 0) (k : Kind) (b s : State) (h : NothingLost b s) where
  wanted_at_keeps : (u : TokenAndSpan) (ts : List TokenAndSpan) → s.at.left ≡ u ∷ ts → (v : Token) (span : Span) → u.token ≡ v → Answers P (Lost b) (wanted_at k s v span)
  wanted_at_keeps u ts is (token.Error e) span g = error_lost b s h u ts is e g
  wanted_at_keeps u ts is _ span g = lost b (fault_at span k) s h

  wanted_in_keeps : (ts : List TokenAndSpan) → s.at.left ≡ ts → Answers P (Lost b) (wanted_in k s ts)
  wanted_in_keeps [] is = lost b (fault_at s.at.last faults.Eof) s h
  wanted_in_keeps (u ∷ ts) is = wanted_at_keeps u ts is u.token u.span refl

  pub wanted_keeps : Answers P (Lost b) (wanted k s)
  unfolding wanted
  wanted_keeps = wanted_in_keeps s.at.left refl

  refuse_at_keeps : (u : TokenAndSpan) (ts : List TokenAndSpan) → s.at.left ≡ u ∷ ts → (v : Token) (span : Span) → u.token ≡ v → Answers P (Lost b) (refuse_at k s v span)
  refuse_at_keeps u ts is (token.Error e) span g = answers_if _ _ (means_out_of_memory e.kind) _ _ (λ _. error_lost b s h u ts is e g)
      (λ j. told_keeps P b s h (fault_at span k) (fault_of e) (error_taken b s h u ts is e g j))
  refuse_at_keeps u ts is _ span g = lost b (fault_at span k) s h

  refuse_in_keeps : (ts : List TokenAndSpan) → s.at.left ≡ ts → Answers P (Lost b) (refuse_in k s ts)
  refuse_in_keeps [] is = lost b (fault_at s.at.last k) s h
  refuse_in_keeps (u ∷ ts) is = refuse_at_keeps u ts is u.token u.span refl

  pub refuse_keeps : Answers P (Lost b) (refuse k s)
  unfolding refuse
  refuse_keeps = refuse_in_keeps s.at.left refl

pub reject_keeps : {A : Type 0} (P : A → State → Type 0) (k : Kind) (span : Span) (b s : State) → NothingLost b s → Answers P (Lost b) (reject (fault_at span k) s)
unfolding reject
reject_keeps P k span b s h = reject_in_keeps P b s h (fault_at span k) s.at.left refl

-- ---- ends, fixed tokens and names

module _ (b s : State) (h : NothingLost b s) where
  pub end_keeps : (missing : Kind) → Answers (Kept b) (Lost b) (end missing s)
  unfolding end
  end_keeps missing = answers_if _ _ (sees kind.Semi s.at) _ _ (λ e. behind_seen b s kind.Semi e refl h) (λ _. answers_if _ _ (can_end s.at) _ _ (λ _. h) (λ _. refuse_keeps _ missing b s h))

  pub expect_keeps : (k : TokenKind) → is_error k ≡ false → Answers (Kept b) (Lost b) (expect k s)
  unfolding expect
  expect_keeps k g = answers_if _ _ (sees k s.at) _ _ (λ e. behind_seen b s k e g h) (λ _. refuse_keeps _ faults.Expected b s h)

  pub close_keeps : Answers (Kept b) (Lost b) (close s)
  unfolding close
  close_keeps = answers_if _ _ (sees kind.RBrace s.at) _ _ (λ e. behind_seen b s kind.RBrace e refl h) (λ _. fault_keeps b s h (fault_at (span_at s.at) faults.Expected))

  unclean_keeps : (i : Ident) → NothingLost b (moved s) → Answers (Kept b) (Lost b) (unclean_name i s)
  unfolding unclean_name
  unclean_keeps i g = answers_if _ _ (may_bind_await s.code.flags) _ _ (λ _. answers_then _ _ (fault _ (moved s)) _ (fault_keeps b (moved s) g _) (λ _ t j. j))
      (λ _. wanted_keeps _ faults.ExpectedIdent b s h)

  module _ (missing : Kind) where
    name_by_keeps : (u : TokenAndSpan) (ts : List TokenAndSpan) → s.at.left ≡ u ∷ ts → (v : Token) (span : Span) → u.token ≡ v → Answers (Kept b) (Lost b) (name_by missing s v span)
    name_by_keeps u ts is (token.Word w) span g = let j = behind_taken b s u ts is (rw g refl) h in answers_if _ _ (is_name s.code.flags (word_text w)) _ _ (λ _. j)
        (λ _. answers_if _ _ (is_identifier s.code.flags (word_text w)) _ _ (λ _. unclean_keeps _ j) (λ _. wanted_keeps _ missing b s h))
    name_by_keeps u ts is _ span g = wanted_keeps _ missing b s h

    name_in_keeps : (ts : List TokenAndSpan) → s.at.left ≡ ts → Answers (Kept b) (Lost b) (name_in missing s ts)
    name_in_keeps [] is = wanted_keeps _ missing b s h
    name_in_keeps (u ∷ ts) is = name_by_keeps u ts is u.token u.span refl

    pub name_keeps : Answers (Kept b) (Lost b) (name missing s)
    unfolding name
    name_keeps = name_in_keeps s.at.left refl

    pub reference_keeps : Answers (Kept b) (Lost b) (reference missing s)
    unfolding reference
    reference_keeps = answers_if _ _ (s.code.flags.in_async && sees kind.Await s.at) _ _ (λ _. wanted_keeps _ faults.ExpectedIdent b s h) (λ _. name_keeps)

  pub as_name_keeps : (may_await : Context → Bool) (span : Span) (text : Text) → Answers (Kept b) (Lost b) (as_name may_await span text s)
  unfolding as_name
  as_name_keeps may_await span text = answers_if _ _ (is_name s.code.flags text) _ _ (λ _. h)
      (λ _. answers_if _ _ (may_await s.code.flags && is_identifier s.code.flags text) _ _ (λ _. fault_keeps b s h _) (λ _. reject_keeps _ faults.ExpectedIdent span b s h))

  -- before what is no error token
  pub as_name_stays : (may_await : Context → Bool) (span : Span) (text : Text) → is_error (kind_at s.at) ≡ false
      → Answers (λ _ t. NothingLost b t × (t.at ≡ s.at)) (Lost b) (as_name may_await span text s)
  unfolding as_name
  as_name_stays may_await span text e = answers_if _ _ (is_name s.code.flags text) _ _ (λ _. (h, refl))
      (λ _. answers_if _ _ (may_await s.code.flags && is_identifier s.code.flags text) _ _ (λ _. fault_stays b s h _ e) (λ _. reject_keeps _ faults.ExpectedIdent span b s h))

  shebang_taken_keeps : (ts : List TokenAndSpan) → s.at.left ≡ ts → (o : Option Text) → shebang_in ts ≡ o → Answers (Kept b) (Lost b) (shebang_taken o s)
  shebang_taken_keeps ts is None e = h
  shebang_taken_keeps [] is (Some x) e = cc
  shebang_taken_keeps (u ∷ ts) is (Some x) e = behind_taken b s u ts is (by_token u.token e) h
    where
      by_token : (v : Token) → shebang_of v ≡ Some x → is_out_of_memory v ≡ false
      by_token (token.Error f) g = cc
      by_token _ g = refl

  pub shebang_keeps : Answers (Kept b) (Lost b) (shebang s)
  unfolding shebang
  shebang_keeps = shebang_taken_keeps s.at.left refl (shebang_in s.at.left) refl

-- ---- loops

module _ {A B : Type 0} (body : A → Reader (Step A B)) (b : State) where
  -- what holds before each turn, where nothing is lost
  module _ (K : A → State → Type 0) (keeps : (a : A) (s : State) → K a s → NothingLost b s) where
    abbrev pub Turned : Step A B → State → Type 0
    Turned (More a) s = K a s
    Turned (Done x) s = NothingLost b s

    after_next_keeps : (go : A → Reader B) (before : ℕ) (s : State) (step : Step A B) → Turned step s → ((a : A) (t : State) → K a t → Answers (Kept b) (Lost b) (go a t))
        → Answers (Kept b) (Lost b) (next_turn go before s step)
    after_next_keeps go before s (More a) h g = answers_if _ _ (nat_lt (length s.at.left) before) _ _ (λ _. g a s h) (λ _. lost b (fault_at s.at.last faults.OutOfMemory) s (keeps a s h))
    after_next_keeps go before s (Done x) h g = h

    after_all_keeps : (go : A → Reader B) (before : ℕ) (o : Outcome (Step A B)) → Answers Turned (Lost b) o → ((a : A) (t : State) → K a t → Answers (Kept b) (Lost b) (go a t))
        → Answers (Kept b) (Lost b) (after_turn go before o)
    after_all_keeps go before (Ok p) h g = after_next_keeps go before p.1 p.0 h g
    after_all_keeps go before (Err e) h g = h

    module _ (turn : (a : A) (s : State) → K a s → Answers Turned (Lost b) (body a s)) where
      turns_keep : (n : ℕ) (a : A) (s : State) → K a s → Answers (Kept b) (Lost b) (turns body n a s)
      turns_keep zero a s h = lost b (fault_at s.at.last faults.OutOfMemory) s (keeps a s h)
      turns_keep (suc n) a s h = after_all_keeps (turns body n) (length s.at.left) (body a s) (turn a s h) (turns_keep n)

      -- each turn keeps them, or the loop is stuck
      pub held_loop_keeps : (a : A) (s : State) → K a s → Answers (Kept b) (Lost b) (loop body a s)
      unfolding loop
      held_loop_keeps a s h = turns_keep (suc (length s.at.left)) a s h

  -- nothing more is asked
  turned : (o : Outcome (Step A B)) → Answers (Kept b) (Lost b) o → Answers (Turned (λ a s. NothingLost b s) (λ a s h. h)) (Lost b) o
  turned (Ok p) h = by_step p.0 h
    where
      by_step : (x : Step A B) → NothingLost b p.1 → Turned (λ a s. NothingLost b s) (λ a s h. h) x p.1
      by_step (More a) h = h
      by_step (Done x) h = h
  turned (Err e) h = h

  pub loop_keeps : ((a : A) (s : State) → NothingLost b s → Answers (Kept b) (Lost b) (body a s)) → (a : A) (s : State) → NothingLost b s → Answers (Kept b) (Lost b) (loop body a s)
  loop_keeps turn a s h = held_loop_keeps (λ a s. NothingLost b s) (λ a s h. h) (λ a s h. turned (body a s) (turn a s h)) a s h
