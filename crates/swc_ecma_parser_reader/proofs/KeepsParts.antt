-- What statements are made of loses nothing: what is noted and told of them, and the head of a loop.
use Rattle.swc_ecma_parser_reader.proofs.Errors.{is_error}
use Rattle.swc_ecma_parser_reader.proofs.expressions.KeepSteps.{told_keeps, told_stays, told_says}
use Rattle.swc_ecma_parser_grammar.proofs.Tests.{or_no}
use Rattle.swc_ecma_parser_reader.specs.Reader.{note_with, await_here, unless_awaited, Opening, Nothing, Variables, Expression, as_init, as_left, misdeclared, optional_end, target, misplaced, after_return, Resource, Named, unfollowed}
use Rattle.swc_ecma_parser_model.specs.Tree.{Tree}
use Rattle.swc_ecma_parser_reader.specs.State.{says_out_of_memory, State, Outcome, Reader, noted, holding_back, module_fault, fault_at, refused, labelled_as, name, expect}
use Rattle.swc_ecma_parser_reader.specs.Expressions as exprs
use Rattle.swc_ecma_parser_model.specs.Targets.{as_target}
use Rattle.swc_ecma_parser_grammar.specs.Own.{head_faults}
use Rattle.std.proofs.Common.{◌≡◌, Bool, true, false, cond, Option, Some, None, Ok, Err, refl}
use Rattle.std.specs.Prelude.{◌||◌, is_some}
use Rattle.swc_ecma_parser_common.specs.declared.span.Span.{Span}
use Rattle.swc_ecma_parser_error.specs.Kind as faults
use Rattle.swc_ecma_parser_error.specs.Kind.{Fault}
use Rattle.swc_ecma_parser_token.specs.declared.kind.TokenKind.TheVariants as kind
use Rattle.swc_ecma_parser_model.specs.Forms.{span_of}
use Rattle.swc_ecma_parser_grammar.specs.Looks.{kind_at, sees}
use Rattle.swc_ecma_parser_grammar.specs.Ends.{ends_at}
use Rattle.swc_ecma_parser_grammar.specs.Walk.{is_tabled}
use Rattle.swc_ecma_parser_reader.proofs.Meets.{Answers, answers_then, answers_if}
use Rattle.swc_ecma_parser_reader.proofs.Behind.{NothingLost, Kept, Lost, leaves_stays, behind_self, behind_seen, behind_noted, behind_held, refused_keeps, memory_refused_keeps, wanted_keeps, reject_keeps, expect_keeps, name_keeps}

-- a fault of module code, whether recorded or held back
pub module_fault_keeps : (b : State) (g : Fault) (s : State) → is_tabled g.kind ≡ false → NothingLost b s → NothingLost b (module_fault g s)
module_fault_keeps b g s e f = by_module s.code.flags.module
  where
    by_module : (o : Bool) → NothingLost b (cond o (noted g s) (holding_back g s))
    by_module true = behind_noted b g s f
    by_module false = behind_held b g s e f

pub note_with_keeps : (b : State) (span : Span) (s : State) → NothingLost b s → Answers (Kept b) (Lost b) (note_with span s)
unfolding note_with
note_with_keeps b span s f = module_fault_keeps b (fault_at span faults.WithInStrict) s refl f

pub optional_end_keeps : (b : State) (s : State) → NothingLost b s → Answers (Kept b) (Lost b) (optional_end s)
unfolding optional_end
optional_end_keeps b s f = answers_if _ _ (sees kind.Semi s.at) _ _ (λ seen. behind_seen b s kind.Semi seen refl f) (λ _. f)

-- the fault of a `return` that was refused
pub after_return_keeps : (b : State) (may : Bool) (start : Span) (o : Outcome Tree) → Answers (Kept b) (Lost b) o → Answers (Kept b) (Lost b) (after_return may start o)
unfolding misplaced
after_return_keeps b may start (Ok p) h = answers_then (Kept b) _ (misplaced may start p.1) _ (told_keeps b _ p.1 h) (λ _ t k. k)
after_return_keeps b may start (Err e) h = answers_if (Kept b) (Lost b) (is_some e.1.scope.mark) _ _ (λ _. h) (λ m. by_memory m (says_out_of_memory e.0.kind) refl)
  where
    by_memory : is_some e.1.scope.mark ≡ false → (v : Bool) → says_out_of_memory e.0.kind ≡ v → Answers {A = Tree} (Kept b) (Lost b) (refused e.0 (misplaced may start e.1))
    by_memory m true g = memory_refused_keeps (Kept b) b e.0 e.1 (misplaced may start e.1) g h (told_keeps e.1 _ e.1 (behind_self e.1)) (told_says _ e.1)
    by_memory m false g = refused_keeps (Kept b) b e.0 (misplaced may start e.1) (told_keeps b _ e.1 (h.0, h.1, h.2 g, leaves_stays b e.1 m h.3))

pub target_keeps : (b : State) (s : State) → NothingLost b s → Answers (Kept b) (Lost b) (target s)
unfolding target
target_keeps b s g = answers_if _ _ (ends_at s.at) _ _ (λ _. g)
    (λ _. answers_then (Kept b) _ (name faults.ExpectedIdent s) _ (name_keeps b s g faults.ExpectedIdent) (λ x t k. k))

-- ---- what the head of a loop begins with, as what it is

pub unfollowed_keeps : (b : State) (s : State) → NothingLost b s → Answers (Kept b) (Lost b) (unfollowed s)
unfolding unfollowed
unfollowed_keeps b s f = answers_then _ _ (expect kind.Semi s) _ (expect_keeps b s f kind.Semi refl) (λ _ t g. wanted_keeps _ faults.Unexpected b t g)

pub as_init_keeps : (b : State) (o : Opening) (s : State) → NothingLost b s → Answers (Kept b) (Lost b) (as_init o s)
unfolding exprs.close
as_init_keeps b Nothing s f = f
as_init_keeps b (Variables x) s f = f
as_init_keeps b (Resource x) s f = unfollowed_keeps b s f
as_init_keeps b (Named p) s f = unfollowed_keeps b s f
as_init_keeps b (Expression v) s f = by_mark v.mark
  where
    by_mark : (o : Option Span) → Answers (Kept b) (Lost b) (exprs.unmarked v.x o s)
    by_mark None = f
    by_mark (Some k) = reject_keeps _ faults.AssignProperty k b s f

pub as_left_keeps : (b : State) (o : Opening) (s : State) → NothingLost b s → Answers (λ _ t. NothingLost b t × (t.at ≡ s.at)) (Lost b) (as_left o s)
unfolding exprs.target
as_left_keeps b Nothing s f = wanted_keeps _ faults.Unexpected b s f
as_left_keeps b (Variables x) s f = (f, refl)
as_left_keeps b (Resource x) s f = (f, refl)
as_left_keeps b (Named p) s f = (f, refl)
as_left_keeps b (Expression v) s f = by_target (cond v.comma None (as_target v.x))
  where
    by_target : (o : Option Tree) → Answers (λ _ t. NothingLost b t × (t.at ≡ s.at)) (Lost b) (exprs.target_or v.x o s)
    by_target (Some p) = (f, refl)
    by_target None = reject_keeps _ faults.InvalidPat (span_of v.x) b s f

pub await_here_keeps : (b : State) (s : State) → NothingLost b s → Answers (Kept b) (Lost b) (await_here s)
unfolding await_here
await_here_keeps b s f = answers_if _ _ (sees kind.Await s.at) _ _ (λ seen. behind_seen b s kind.Await seen refl f) (λ _. f)

pub unless_awaited_keeps : (b : State) (word : Option Span) (p : Reader Tree) (s : State) → Answers (Kept b) (Lost b) (p s) → Answers (Kept b) (Lost b) (unless_awaited word p s)
unless_awaited_keeps b None p s h = h
unless_awaited_keeps b (Some w) p s h = answers_then _ _ (p s) _ h (λ _ t k. reject_keeps _ faults.AwaitForStmt w b t k)

pub misdeclared_keeps : (b : State) (refused : Bool) (left : Tree) (s : State) → is_error (kind_at s.at) ≡ false → NothingLost b s
    → Answers (λ _ t. NothingLost b t × (t.at ≡ s.at)) (Lost b) (misdeclared refused left s)
unfolding misdeclared
misdeclared_keeps b refused left s e f = told_stays b (head_faults refused left) s e f

-- a refusal that says where it is
pub labelled_keeps : {A : Type 0} (b : State) (P : A → State → Type 0) (o : Outcome A) → Answers P (Lost b) o → Answers P (Lost b) (labelled_as o)
labelled_keeps b P (Ok p) h = h
labelled_keeps b P (Err e) h = answers_if P (Lost b) (is_some e.1.scope.mark || says_out_of_memory e.0.kind) _ _ (λ _. h)
    (λ g. (h.0, h.1, (λ _. h.2 (or_no (is_some e.1.scope.mark) (says_out_of_memory e.0.kind) g).1), h.3))
