-- Faults and early errors as C takes them.
use Rattle.std.specs.Prelude.{◌≡◌, ◌+◌, ◌≤◌, ◌<◌, ◌⊎◌, ℕ, List, [], ◌++◌, Option, None, Result, Ok, Err, IsUtf8, Some, drop, length, string_bytes, take}
use Rattle.std.specs.List.{AllZip, flat_map}
use Rattle.ecma_answers.specs.declared.options.Options.{Options}
use Rattle.ecma_answers.specs.declared.outcome.Outcome.{Outcome}
use Rattle.ecma_answers.specs.declared.findings.Findings.{Findings}
use Rattle.ecma_answers.specs.declared.told.Point.{Point}
use Rattle.ecma_answers.specs.declared.told.Previous.{Previous}
use Rattle.ecma_answers.specs.declared.told.Severity.{Severity}
use Rattle.ecma_answers.specs.declared.told.Severity.TheVariants as severity
use Rattle.ecma_answers.specs.declared.told.Told.{Told}
use Rattle.ecma_answers.specs.Capped.{left_out}
use Rattle.ecma_answers.specs.Outcomes.{outcome_of}
use Rattle.ecma_answers.specs.Found.{Finds}
use Rattle.ecma_answers.specs.Told.{AllTold}
use Rattle.ecma_link.specs.Asked.{asked}
use Rattle.ecma_link.specs.Calls.{IsReason}
use Rattle.ecma_link.specs.declared.failure.Failure.{Failure}
use Rattle.ecma_link.specs.declared.failure.Failure.TheVariants as failure
use Rattle.ecma_link.specs.declared.faults.EcmaFault.{EcmaFault}
use Rattle.ecma_link.specs.declared.faults.EcmaNeeded.{EcmaNeeded}
use Rattle.ecma_link.specs.declared.faults.EcmaPoint.{EcmaPoint}
use Rattle.ecma_link.specs.declared.options.EcmaOptions.{EcmaOptions}

abbrev pub point_of : Point → EcmaPoint
point_of p = record { byte = p.byte; unit = p.unit; line = p.line; column = p.column }

-- so many of the words from a place on
abbrev pub piece : (words : List ℕ) → (at size : ℕ) → List ℕ
piece words at size = take size (drop at words)

-- another place, which is nowhere where there is none, and the words for it
abbrev pub nowhere : EcmaPoint
nowhere = record { byte = 0; unit = 0; line = 0; column = 0 }

abbrev pub start_of : Option Previous → EcmaPoint
start_of (Some it) = point_of it.start
start_of None = nowhere

abbrev pub end_of : Option Previous → EcmaPoint
end_of (Some it) = point_of it.end
end_of None = nowhere

abbrev pub note_of : Option Previous → List ℕ
note_of (Some it) = it.note.now
note_of None = []

abbrev pub severity_number : Severity → ℕ
severity_number severity.Fault = 0
severity_number severity.Error = 1
severity_number severity.Refusal = 2

-- the words of a fault
abbrev pub words_of : Told → List ℕ
words_of told = told.kind.now ++ (string_bytes told.message ++ note_of told.previous)

-- a fault, with its words among those of all
pub record IsFault (words : List ℕ) (told : Told) (it : EcmaFault) : Type 0 where
  pub size : it.struct_size ≡ 192
  pub severity : it.severity ≡ severity_number told.severity
  pub start : it.start ≡ point_of told.start
  pub end : it.end ≡ point_of told.end
  pub kind_within : it.kind_at + it.kind_length ≤ length words
  pub kind : piece words it.kind_at it.kind_length ≡ told.kind.now
  pub message_within : it.message_at + it.message_length ≤ length words
  pub message : piece words it.message_at it.message_length ≡ string_bytes told.message
  pub previous_start : it.previous_start ≡ start_of told.previous
  pub previous_end : it.previous_end ≡ end_of told.previous
  pub note_within : it.note_at + it.note_length ≤ length words
  pub note : piece words it.note_at it.note_length ≡ note_of told.previous

abbrev pub AreFaults : (words : List ℕ) → List Told → List EcmaFault → Type 0
AreFaults words ts its = AllZip (IsFault words) ts its

-- a text that was read as it is asked for: how it comes out, the faults of it that are asked for, their words and nothing else, and how many more there are
abbrev pub IsCall : EcmaOptions → List ℕ → Outcome → List EcmaFault → List ℕ → (more : ℕ) → Type 0
IsCall given text outcome faults words more =
    IsUtf8 text × ((o : Options) × (asked given ≡ Some o) × ((f : Findings) × Finds o text f
    × (outcome ≡ outcome_of f.reading.tree f.reading.faults.items f.early.items) × ((told : List Told) × AllTold o.max_faults text f told × AreFaults words told faults × (words ≡ flat_map words_of told))
    × (more ≡ left_out o.max_faults (length f.reading.faults.items + length f.early.items))))

-- some answer takes so much room
abbrev pub HasSize : EcmaOptions → List ℕ → EcmaNeeded → Type 0
HasSize given text needed =
    (outcome : Outcome) × (its : List EcmaFault) × (words : List ℕ) × (needed.struct_size ≡ 32) × (length its ≡ needed.faults) × (length words ≡ needed.words)
    × IsCall given text outcome its words needed.more

-- what an answer takes that has nothing
abbrev pub nothing : EcmaNeeded
nothing = record { struct_size = 32; faults = 0; words = 0; more = 0 }

-- How a call ends that has a room of faults and one of bytes. Their fronts are the answer, as much as is needed, and what stands behind stays; or
-- both stay as they were: where one is too short for an answer, of which the size is told, or for another reason, where nothing is needed.
abbrev pub Ends : EcmaOptions → List ℕ → Result Outcome Failure → (old_faults new_faults : List EcmaFault) → (old_words new_words : List ℕ) → EcmaNeeded → Type 0
Ends given text (Ok outcome) old_faults new_faults old_words new_words needed =
    (its : List EcmaFault) × (words : List ℕ) × IsCall given text outcome its words needed.more × (needed.struct_size ≡ 32)
    × (needed.faults ≡ length its) × (needed.faults ≤ length old_faults) × (new_faults ≡ its ++ drop needed.faults old_faults)
    × (needed.words ≡ length words) × (needed.words ≤ length old_words) × (new_words ≡ words ++ drop needed.words old_words)
Ends given text (Err failure.TooShort) old_faults new_faults old_words new_words needed =
    (new_faults ≡ old_faults) × (new_words ≡ old_words) × ((length old_faults < needed.faults) ⊎ (length old_words < needed.words))
    × HasSize given text needed
Ends given text (Err f) old_faults new_faults old_words new_words needed =
    (new_faults ≡ old_faults) × (new_words ≡ old_words) × (needed ≡ nothing) × IsReason given text f
