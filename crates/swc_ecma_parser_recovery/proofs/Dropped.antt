-- What is dropped, as its code meets it: an answer, or a refusal that stays one or is dropped too.
use Rattle.std.proofs.Common.{◌≡◌, ◌≢◌, ℕ, Bool, true, false, cond, List, Result, Ok, Err, refl, sym, ap, subst, ◌∙◌, true≢false}
use Rattle.std.specs.Prelude.{◌||◌, is_some, IfOk, IfErr}
use Rattle.swc_ecma_parser_error.specs.declared.error.Error.{Error}
use Rattle.swc_ecma_parser_error.specs.Kind.{Kind, Fault, fault_of, kind_of, OutOfMemory}
use Rattle.swc_ecma_parser_input.specs.declared.context.Context.{Context}
use Rattle.swc_ecma_parser_model.specs.Tree.{Tree, Text}
use Rattle.swc_ecma_parser_grammar.specs.language.Contexts.{with_in}
use Rattle.swc_ecma_parser_grammar.specs.language.Goals.{expression}
use Rattle.swc_ecma_parser_grammar.proofs.Tests.{or_no}
use Rattle.swc_ecma_parser_reader.specs.State.{State, Outcome, Reader, GivesAs, Gives, within, attempted, says_out_of_memory}
use Rattle.swc_ecma_parser_reader.specs.Reader.{expr}
use Rattle.swc_ecma_parser_reader.proofs.Behind.{Passes}
use Rattle.swc_ecma_parser_reader.proofs.Keeps.{expr_keeps}
use Rattle.swc_ecma_parser_reader.proofs.Recovered.{set_back, inside_passes, attempt_answered, attempt_dropped, attempt_refused, answered_module, refused_module}
use Rattle.swc_ecma_parser_recovery.specs.Dropped.{ended, dropped_in}

-- a kind that does not say that memory ran out is another
other_kind : (k : Kind) → says_out_of_memory k ≡ false → k ≢ OutOfMemory
other_kind k h e = true≢false (sym (ap says_out_of_memory e) ∙ h)

memory_kind : (k : Kind) → says_out_of_memory k ≡ true → k ≡ OutOfMemory
memory_kind OutOfMemory h = refl
memory_kind _ h = absurd (true≢false (sym h))

either : (b c : Bool) → c ≡ true → (b || c) ≡ true
either true c h = refl
either false c h = h

-- the kind of a refusal
abbrev refused_by : Outcome (Unit {0}) → Kind
refused_by (Ok p) = OutOfMemory
refused_by (Err e) = e.0.kind

-- of a refusal that does not stay one it is known what stands around
pub refused_module_stays : (b : Bool) (k : Kind) (M : Type 0) → (k ≢ OutOfMemory → M) → false ≡ (b || says_out_of_memory k) → M
refused_module_stays b k M h e = h (other_kind k (or_no b (says_out_of_memory k) (sym e)).1)

module _ {A X : Type 0} (view : X → A) (p : Reader A) (passes : Passes p) (s m u : State) (same : m ≡ s) (flags : Context) (g : flags ≡ m.code.flags) where
  pub module_behind_answer : (read : Result X Error) → GivesAs view (p m) read u → IfOk read (λ _. flags.module ≡ u.code.flags.module)
  module_behind_answer (Ok x) h = ap (λ c. c.module) (g ∙ ap (λ z. z.code.flags) same) ∙ sym (answered_module p s u passes (view x) (ap p (sym same) ∙ h))
  module_behind_answer (Err e) h = tt

  pub module_behind_refusal : (read : Result X Error) → GivesAs view (p m) read u → IfErr read (λ e. kind_of e.kind ≢ OutOfMemory → flags.module ≡ u.code.flags.module)
  module_behind_refusal (Ok x) h = tt
  module_behind_refusal (Err e) h = λ n. ap (λ c. c.module) (g ∙ ap (λ z. z.code.flags) same) ∙ sym (refused_module p s u passes (fault_of e) (ap p (sym same) ∙ h n))

  module _ (labels : List Text) (found : Bool) (l : labels ≡ s.scope.labels) (f : found ≡ s.notes.found_module_item) where
    -- a refusal by another kind is dropped as the reader drops it
    refusal_dropped : (e : Error) (b : Bool) → p s ≡ Err (fault_of e, u) → (is_some u.scope.mark || says_out_of_memory (kind_of e.kind)) ≡ b
        → dropped_in labels found flags (Err (fault_of e, u)) ≡ attempted p s
    refusal_dropped e true q k = ap (λ c. cond c (Err (fault_of e, u)) (Ok (tt, set_back u labels found flags))) k ∙ sym (attempt_refused p s u (fault_of e) q k)
    refusal_dropped e false q k = ap (λ c. cond c (Err (fault_of e, u)) (Ok (tt, set_back u labels found flags))) k
        ∙ sym (attempt_dropped p s labels found flags l f (g ∙ ap (λ z. z.code.flags) same) (fault_of e) u q k)

    -- one for want of memory says nothing of the reader
    memory_refused : (e : Error) → says_out_of_memory (kind_of e.kind) ≡ true → (r : Result (Unit {0}) Error) (w : State) → Gives (Err (fault_of e, u)) r w → Gives (attempted p s) r w
    memory_refused e k (Ok y) w h = cc
    memory_refused e k (Err i) w h = λ n. absurd (n (sym (ap refused_by (h n)) ∙ memory_kind (kind_of e.kind) k))

    told : (e : Error) (b : Bool) → says_out_of_memory (kind_of e.kind) ≡ b → (kind_of e.kind ≢ OutOfMemory → p m ≡ Err (fault_of e, u)) → (r : Result (Unit {0}) Error) (w : State)
        → Gives (dropped_in labels found flags (Err (fault_of e, u))) r w → Gives (attempted p s) r w
    told e true k h r w i = memory_refused e k r w
        (subst (λ o. Gives o r w) (ap (λ c. cond c (Err (fault_of e, u)) (Ok (tt, set_back u labels found flags))) (either (is_some u.scope.mark) (says_out_of_memory (kind_of e.kind)) k)) i)
    told e false k h r w i = subst (λ o. Gives o r w) (refusal_dropped e (is_some u.scope.mark || says_out_of_memory (kind_of e.kind)) (ap p (sym same) ∙ h (other_kind (kind_of e.kind) k)) refl) i

    -- and what the code gives then is what the reader gives
    pub dropped_gives : (read : Result X Error) → GivesAs view (p m) read u → (r : Result (Unit {0}) Error) (w : State) → Gives (dropped_in labels found flags (ended read u)) r w → Gives (attempted p s) r w
    dropped_gives (Ok x) h r w i = subst (λ o. Gives o r w) (sym (attempt_answered p s labels found flags l f (g ∙ ap (λ z. z.code.flags) same) (view x) u (ap p (sym same) ∙ h))) i
    dropped_gives (Err e) h r w i = told e (says_out_of_memory (kind_of e.kind)) refl h r w i

-- an expression that is dropped loses nothing
pub expr_passes : (n : ℕ) → Passes (within with_in (expr n expression))
expr_passes n = inside_passes (expr n expression) (expr_keeps n expression)
