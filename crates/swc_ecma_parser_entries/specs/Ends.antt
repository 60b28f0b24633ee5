-- How a call ends.
use Rattle.std.specs.Prelude.{◌≡◌, ◌≢◌, Bool, false, [], None, Some, Result, Ok, Err}
use Rattle.swc_ecma_parser_error.specs.declared.error.Error.{Error}
use Rattle.swc_ecma_parser_error.specs.Kind.{OutOfMemory, fault_of, kind_of}
use Rattle.swc_ecma_parser_input.specs.declared.context.Context.{Context}
use Rattle.swc_ecma_parser_reader.specs.Entry.{IsSetBack}
use Rattle.swc_ecma_parser_reader.specs.State.{State}
use Rattle.swc_ecma_parser_reader.specs.declared.mark.Mark.TheVariants as mark

-- A refusal `e` in a call that came to `call` is told as `f`: the context and what was noted are as before it, no label is left, and
-- what was marked is said.
pub record IsTold (e f : Error) (call : State) (outer : Context) (found_module_item : Bool) (left : State) : Type 0 where
  pub same : kind_of f.kind ≢ OutOfMemory → fault_of f ≡ fault_of e
  pub plain : call.scope.mark ≡ None → f ≡ e
  pub back : IsSetBack call left
  -- in code that is no module's nothing is recorded as it ends
  pub faults : outer.«module» ≡ false → left.faults ≡ call.faults
  pub flags : left.code.flags ≡ outer
  pub labels : left.scope.labels ≡ []
  pub noted : left.notes.found_module_item ≡ found_module_item
  pub memory : call.scope.mark ≡ Some mark.OutOfMemory → kind_of f.kind ≡ OutOfMemory

-- what was read is answered as it is, and a refusal is told
abbrev pub Ends : {X : Type 0} → Result X Error → (call : State) → Context → Bool → (left : State) → Result X Error → Type 0
Ends (Ok x) call outer found_module_item left told = (left ≡ call) × (told ≡ Ok x)
Ends (Err e) call outer found_module_item left told = (f : Error) × (told ≡ Err f) × IsTold e f call outer found_module_item left
