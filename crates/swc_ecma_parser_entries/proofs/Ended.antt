-- What a call came to, as it ends.
use Rattle.std.proofs.Common.{◌≡◌, ◌≢◌, ℕ, Bool, true, false, Result, Ok, Err, None, Some, IsOk, IsErrAnd, OnErr, refl, ap, subst, sym, ◌∙◌, true≢false}
use Rattle.swc_ecma_parser_error.specs.declared.error.Error.{Error}
use Rattle.swc_ecma_parser_error.specs.Kind.{Fault, OutOfMemory, fault_of, kind_of}
use Rattle.swc_ecma_parser_input.specs.declared.context.Context.{Context}
use Rattle.swc_ecma_parser_model.specs.Tree.{Tree}
use Rattle.swc_ecma_parser_reader.specs.Entry.{IsRestored, AnswersScript, AnswersStatement}
use Rattle.swc_ecma_parser_reader.specs.State.{State}
use Rattle.swc_ecma_parser_reader.specs.declared.mark.Mark.TheVariants as mark
use Rattle.swc_ecma_parser_module_reader.specs.Entry.{AnswersModule}
use Rattle.swc_ecma_parser_module_reader.specs.ItemEntry.{AnswersItem}
use Rattle.swc_ecma_parser_module_reader.specs.ProgramEntry.{AnswersProgram}
use Rattle.swc_ecma_parser_grammar.specs.language.Programs as programs
use Rattle.swc_ecma_parser_grammar.specs.language.Programs.{Entry, at_top}
use Rattle.swc_ecma_parser_reader.specs.Reader.{script, whole_stmt}
use Rattle.swc_ecma_parser_reader.specs.State.{Outcome}
use Rattle.swc_ecma_parser_module_reader.specs.Items.{item_whole}
use Rattle.swc_ecma_parser_module_reader.specs.Modules.{module_whole}
use Rattle.swc_ecma_parser_module_reader.specs.Programs.{program_whole}
use Rattle.swc_ecma_parser_entries.specs.Ends.{Ends}
use Rattle.swc_ecma_parser_entries.specs.Refusals.{IsRefusal, IsRefused, Refuses}
use Rattle.swc_ecma_parser_entries.proofs.SetBack.{script_told, module_told, statement_told, program_told, item_told}

module _ {X : Type 0} (outer : Context) (found : Bool) (call left : State) where
  -- what is answered outright
  pub ended_ok : (read told : Result X Error) → Ends read call outer found left told → IsOk read → IsOk told
  ended_ok (Ok x) told (same, is) h = subst IsOk (sym is) h
  ended_ok (Err e) told ends h = absurd (true≢false (sym h))

  -- where memory ran out
  pub ended_memory : (read told : Result X Error) → Ends read call outer found left told → IsErrAnd read (λ e. call.scope.mark ≡ Some mark.OutOfMemory)
      → IsErrAnd told (λ e. kind_of e.kind ≡ OutOfMemory)
  ended_memory (Ok x) told ends h = absurd h
  ended_memory (Err e) told (f, is, t) h = subst (λ r. IsErrAnd r (λ e. kind_of e.kind ≡ OutOfMemory)) (sym is) (t.memory h)

  -- where nothing is marked a refusal is told as it is
  pub ended_fault : (is_fault : Fault) (read told : Result X Error) → Ends read call outer found left told → call.scope.mark ≡ None → IsErrAnd read (λ e. fault_of e ≡ is_fault)
      → IsErrAnd told (λ e. fault_of e ≡ is_fault)
  ended_fault is_fault (Ok x) told ends m h = absurd h
  ended_fault is_fault (Err e) told (f, is, t) m h = subst (λ r. IsErrAnd r (λ z. fault_of z ≡ is_fault)) (sym is) (ap fault_of (t.plain m) ∙ h)

  -- what is left behind a refusal
  pub ended_restored : (s : State) → outer ≡ s.code.flags → found ≡ s.notes.found_module_item → (read told : Result X Error) → Ends read call outer found left told
      → OnErr told (IsRestored s left)
  ended_restored s flags noted (Ok x) told (same, is) = subst (λ r. OnErr r (IsRestored s left)) (sym is) tt
  ended_restored s flags noted (Err e) told (f, is, t) = subst (λ r. OnErr r (IsRestored s left)) (sym is) (record {
    flags = t.flags ∙ flags;
    labels = t.labels;
    found_module_item = t.noted ∙ noted;
  })

  module _ (view : X → Tree) (limit : ℕ) (s : State) where
    pub script_ended : (read told : Result X Error) → Ends read call outer found left told → AnswersScript view limit s read call → AnswersScript view limit s told left
    script_ended (Ok x) told (same, is) h = subst (λ r. AnswersScript view limit s r left) (sym is) (subst (AnswersScript view limit s (Ok x)) (sym same) h)
    script_ended (Err e) told (f, is, t) h = subst (λ r. AnswersScript view limit s r left) (sym is) (script_told X view limit s e f call left t.same t.back h)

    pub module_ended : (read told : Result X Error) → Ends read call outer found left told → AnswersModule view limit s read call → AnswersModule view limit s told left
    module_ended (Ok x) told (same, is) h = subst (λ r. AnswersModule view limit s r left) (sym is) (subst (AnswersModule view limit s (Ok x)) (sym same) h)
    module_ended (Err e) told (f, is, t) h = subst (λ r. AnswersModule view limit s r left) (sym is) (module_told X view limit s e f call left t.same t.back h)

    pub program_ended : (read told : Result X Error) → Ends read call outer found left told → AnswersProgram view limit s read call → AnswersProgram view limit s told left
    program_ended (Ok x) told (same, is) h = subst (λ r. AnswersProgram view limit s r left) (sym is) (subst (AnswersProgram view limit s (Ok x)) (sym same) h)
    program_ended (Err e) told (f, is, t) h = subst (λ r. AnswersProgram view limit s r left) (sym is) (program_told X view limit s e f call left t.same t.back h)

    pub item_ended : (read told : Result X Error) → Ends read call outer found left told → AnswersItem view limit s read call → AnswersItem view limit s told left
    item_ended (Ok x) told (same, is) h = subst (λ r. AnswersItem view limit s r left) (sym is) (subst (AnswersItem view limit s (Ok x)) (sym same) h)
    item_ended (Err e) told (f, is, t) h = subst (λ r. AnswersItem view limit s r left) (sym is) (item_told X view limit s e f call left t.same t.back h)

    pub statement_ended : (include_decl top_level : Bool) → (read told : Result X Error) → Ends read call outer found left told
        → AnswersStatement view limit include_decl top_level s read call → AnswersStatement view limit include_decl top_level s told left
    statement_ended d l (Ok x) told (same, is) h = subst (λ r. AnswersStatement view limit d l s r left) (sym is) (subst (AnswersStatement view limit d l s (Ok x)) (sym same) h)
    statement_ended d l (Err e) told (f, is, t) h = subst (λ r. AnswersStatement view limit d l s r left) (sym is) (statement_told X view limit s e f call left t.same t.back d l h)

-- ---- the faults beside a refusal

module _ (outer : Context) (call left : State) (stay : outer.«module» ≡ false → left.faults ≡ call.faults) (e f : Error) (same : fault_of f ≡ fault_of e) where
  refusal_told : {A : Type 0} (o : Outcome A) → IsRefusal false o e call → IsRefusal outer.«module» o f left
  refusal_told o h = record {
    stopped = h.stopped;
    refused = h.refused ∙ ap (λ z. Err (z, h.stopped)) (sym same);
    faults = λ k. stay k ∙ h.faults refl;
  }

  told_by : (entry : Entry) (limit : ℕ) (s : State) → IsRefused false entry limit s e call → IsRefused outer.«module» entry limit s f left
  told_by programs.script limit s h = refusal_told (script limit s) h
  told_by programs.«module» limit s (u, i, h) = (u, i, refusal_told (module_whole limit u) h)
  told_by programs.program limit s (recorded, held, h) = (recorded, held, refusal_told (program_whole limit recorded s) h)
  told_by programs.module_item limit s (recorded, held, h) = (recorded, held, refusal_told (item_whole limit recorded s) h)
  told_by (programs.stmt top_level) limit s h = refusal_told (whole_stmt limit (at_top false top_level) s) h
  told_by (programs.stmt_list_item top_level) limit s h = refusal_told (whole_stmt limit (at_top true top_level) s) h

module _ {X : Type 0} (outer : Context) (found : Bool) (call left : State) (entry : Entry) (limit : ℕ) (s : State) where
  pub refuses_ended : (read told : Result X Error) → Ends read call outer found left told → Refuses false entry limit s read call → (b : Bool) → outer.«module» ≡ b → Refuses b entry limit s told left
  refuses_ended (Ok x) told (same, is) h b k = subst (λ r. Refuses b entry limit s r left) (sym is) tt
  refuses_ended (Err e) told (f, is, t) h b k = subst (λ r. Refuses b entry limit s r left) (sym is)
      (λ m. subst (λ c. IsRefused c entry limit s f left) k (told_by outer call left t.faults e f (t.same m) entry limit s (h (λ n. m (ap (λ z. z.kind) (t.same m) ∙ n)))))
