-- A refusal in a state that is set back, told as it was or for want of memory.
use Rattle.std.proofs.Common.{◌≡◌, ◌≢◌, ℕ, Bool, [], ◌++◌, Err, refl, sym, ◌∙◌, ap, append_assoc, append-nil}
use Rattle.swc_ecma_parser_error.specs.declared.error.Error.{Error}
use Rattle.swc_ecma_parser_error.specs.Kind.{fault_of, kind_of, OutOfMemory}
use Rattle.swc_ecma_parser_model.specs.Tree.{Tree}
use Rattle.swc_ecma_parser_reader.specs.State.{State}
use Rattle.swc_ecma_parser_reader.specs.Entry.{IsSetBack, AnswersScript, AnswersStatement}
use Rattle.swc_ecma_parser_module_reader.specs.Entry.{AnswersModule}
use Rattle.swc_ecma_parser_module_reader.specs.ItemEntry.{AnswersItem}
use Rattle.swc_ecma_parser_module_reader.specs.ProgramEntry.{AnswersProgram}

pub set_back_self : (s : State) → IsSetBack s s
set_back_self s = record { at = refl; faults = ([], sym (append-nil s.faults)) }

set_back_then : (s t u : State) → IsSetBack s t → IsSetBack t u → IsSetBack s u
set_back_then s t u h g = record {
  at = g.at ∙ h.at;
  faults = (h.faults.0 ++ g.faults.0, g.faults.1 ∙ ap (λ z. z ++ g.faults.0) h.faults.1 ∙ append_assoc s.faults h.faults.0 g.faults.0);
}

-- the same refusal, unless it is now one for want of memory
module _ (X : Type 0) (view : X → Tree) (limit : ℕ) (s : State) (e f : Error) (t u : State) (same : kind_of f.kind ≢ OutOfMemory → fault_of f ≡ fault_of e) (back : IsSetBack t u) where
  other : kind_of f.kind ≢ OutOfMemory → kind_of e.kind ≢ OutOfMemory
  other m = λ k. m (ap (λ z. z.kind) (same m) ∙ k)

  pub script_told : AnswersScript view limit s (Err e) t → AnswersScript view limit s (Err f) u
  script_told h = λ m. let (v, refused, g) = h (other m) in (v, refused ∙ ap (λ z. Err (z, v)) (sym (same m)), set_back_then v t u g back)

  pub module_told : AnswersModule view limit s (Err e) t → AnswersModule view limit s (Err f) u
  module_told h = λ m. let (v, refused, g) = h (other m) in (v, refused ∙ ap (λ z. Err (z, v)) (sym (same m)), set_back_then v t u g back)

  pub statement_told : (include_decl top_level : Bool) → AnswersStatement view limit include_decl top_level s (Err e) t → AnswersStatement view limit include_decl top_level s (Err f) u
  statement_told include_decl top_level h = λ m. let (v, refused, g) = h (other m) in (v, refused ∙ ap (λ z. Err (z, v)) (sym (same m)), set_back_then v t u g back)

  pub program_told : AnswersProgram view limit s (Err e) t → AnswersProgram view limit s (Err f) u
  program_told h = λ m. let (recorded, v, refused, g) = h (other m) in (recorded, v, refused ∙ ap (λ z. Err (z, v)) (sym (same m)), set_back_then v t u g back)

  pub item_told : AnswersItem view limit s (Err e) t → AnswersItem view limit s (Err f) u
  item_told h = λ m. let (recorded, v, refused, g) = h (other m) in (recorded, v, refused ∙ ap (λ z. Err (z, v)) (sym (same m)), set_back_then v t u g back)
