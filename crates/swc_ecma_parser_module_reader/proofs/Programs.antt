-- What the entry for programs promises: the theorems on the reader put together.
use Rattle.std.proofs.Common.{false, Result}
use Rattle.std.specs.Prelude.{◌≡◌, ℕ, IfOk}
use Rattle.swc_ecma_parser_error.specs.declared.error.Error.{Error}
use Rattle.swc_ecma_parser_model.specs.Tree.{Tree}
use Rattle.swc_ecma_parser_reader.specs.State.{State}
use Rattle.swc_ecma_parser_reader.specs.Limits.{has_out_of_memory_token}
use Rattle.swc_ecma_parser_module_reader.specs.ProgramEntry.{SoundProgram, GivesSupportedProgram, AnswersProgram}
use Rattle.swc_ecma_parser_module_reader.proofs.CompletePrograms.{program_reads}
use Rattle.swc_ecma_parser_module_reader.proofs.ProgramAnswers as answers
use Rattle.swc_ecma_parser_module_reader.proofs.SoundPrograms.{program_is_sound, program_lacks_out_of_memory}

module _ (X : Type 0) (view : X → Tree) (limit : ℕ) (s : State) (r : Result X Error) (t : State) (h : AnswersProgram view limit s r t) where
  pub sound : IfOk r (λ x. SoundProgram limit s (view x) t)
  sound = answers.sound program_is_sound program_lacks_out_of_memory program_reads X view limit s r t h

  pub complete : GivesSupportedProgram view limit s r t
  complete = answers.complete program_is_sound program_lacks_out_of_memory program_reads X view limit s r t h

  pub memory : IfOk r (λ x. has_out_of_memory_token s.at.left ≡ false)
  memory = answers.memory program_is_sound program_lacks_out_of_memory program_reads X view limit s r t h
