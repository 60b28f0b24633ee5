-- What the entry of the parser promises of a module, by whatever answers as the reader does.
use Rattle.std.proofs.Common.{◌≡◌, ◌≢◌, ℕ, ◌+◌, ◌*◌, ◌≤◌, length, false, List, ◌∷◌, Result, subst, ap, ◌∙◌}
use Rattle.std.specs.Prelude.{IfOk, IfErr, IsErrAnd}
use Rattle.swc_ecma_parser_error.specs.declared.error.Error.{Error}
use Rattle.swc_ecma_parser_error.specs.Kind as faults
use Rattle.swc_ecma_parser_error.specs.Kind.{fault_of, kind_of}
use Rattle.swc_ecma_parser_token.specs.declared.token.Token.TheVariants as token
use Rattle.swc_ecma_parser_token.specs.declared.token.TokenAndSpan.{TokenAndSpan}
use Rattle.swc_ecma_parser_model.specs.Tree.{Tree}
use Rattle.swc_ecma_parser_reader.specs.State.{State}
use Rattle.swc_ecma_parser_reader.specs.Entry.{Stays, unmarked}
use Rattle.swc_ecma_parser_reader.specs.Limits.{IsToldBy, has_out_of_memory_token}
use Rattle.swc_ecma_parser_module_reader.specs.Entry.{IsEntered, SoundModule, GivesSupportedModule, AnswersModule}
use Rattle.swc_ecma_parser_module_reader.proofs.Sound.{module_is_sound, module_lacks_out_of_memory}
use Rattle.swc_ecma_parser_module_reader.proofs.CompleteDecorated.{export_reads}
use Rattle.swc_ecma_parser_module_reader.proofs.CompleteModules.{module_reads}
use Rattle.swc_ecma_parser_module_reader.proofs.Entered.{stays_entered}
use Rattle.swc_ecma_parser_module_reader.proofs.Entries as entries

module _ (X : Type 0) (view : X → Tree) (limit : ℕ) (s u : State) (i : IsEntered (unmarked s) u) (r : Result X Error) (t : State) (h : AnswersModule view limit u r t) where
  pub sound : IfOk r (λ x. SoundModule limit u (view x) t)
  sound = entries.module_sound module_is_sound module_lacks_out_of_memory (module_reads export_reads) X view limit u r t h

  pub complete : GivesSupportedModule view limit u r t
  complete = entries.module_complete module_is_sound module_lacks_out_of_memory (module_reads export_reads) X view limit u r t h

  pub memory : IfOk r (λ x. has_out_of_memory_token s.at.left ≡ false)
  memory = subst (λ c. IfOk r (λ x. has_out_of_memory_token c.left ≡ false)) i.at (entries.module_memory module_is_sound module_lacks_out_of_memory (module_reads export_reads) X view limit u r t h)

  pub fits : 2 * length s.at.left + 2 ≤ limit → IfErr r (λ e. kind_of e.kind ≡ faults.TooDeep → IsToldBy s.at.left (fault_of e))
  fits = subst (λ c. 2 * length c.left + 2 ≤ limit → IfErr r (λ e. kind_of e.kind ≡ faults.TooDeep → IsToldBy c.left (fault_of e))) i.at (entries.module_fits X view limit u r t h)

  pub of_error_token : (v : TokenAndSpan) (vs : List TokenAndSpan) (d : Error) → s.at.left ≡ v ∷ vs → v.token ≡ token.Error d
      → IsErrAnd r (λ e. kind_of e.kind ≢ faults.OutOfMemory → fault_of e ≡ fault_of d)
  of_error_token v vs d e = entries.module_of_error_token X view limit u r t h v vs d (ap (λ c. c.left) i.at ∙ e)

  pub stays : Stays s r t
  stays = stays_entered X view limit s u i r t h
