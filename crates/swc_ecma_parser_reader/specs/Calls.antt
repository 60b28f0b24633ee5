-- What every call of the parser leaves, whatever it answers, and what it says of memory and of the mark.
use Rattle.std.specs.Prelude.{◌≡◌, Bool, true, false, ◌||◌, List, ◌++◌, map, Option, Some, None, Result, Ok, Err}
use Rattle.swc_ecma_parser_error.specs.declared.error.Error.{Error}
use Rattle.swc_ecma_parser_error.specs.Kind.{Kind, Fault, kind_of, TooDeep, OutOfMemory}
use Rattle.swc_ecma_parser_token.specs.declared.token.TokenAndSpan.{TokenAndSpan}
use Rattle.swc_ecma_parser_input.specs.Drawn.{Drawn}
use Rattle.swc_ecma_parser_input.specs.Place.{Place, first, second, lacks_memory}
use Rattle.swc_ecma_parser_input.specs.declared.syntax.EsSyntax.{EsSyntax}
use Rattle.swc_ecma_parser_grammar.specs.Notes.{as_note}
use Rattle.swc_ecma_parser_reader.specs.declared.mark.Mark.{Mark}
use Rattle.swc_ecma_parser_reader.specs.declared.mark.Mark.TheVariants as mark
use Rattle.swc_ecma_parser_reader.specs.Entry.{last_span, IsLater}
use Rattle.swc_ecma_parser_reader.specs.Limits.{has_out_of_memory_token}
use Rattle.swc_ecma_parser_reader.specs.State.{State}

-- whether memory ran out for one of the first two tokens that are left, which are read ahead
abbrev pub lacks_ahead : Place → Bool
lacks_ahead c = lacks_memory (first c.left) || lacks_memory (second c.left)

-- whether a mark says that memory ran out
abbrev pub marks_memory : Option Mark → Bool
marks_memory (Some mark.OutOfMemory) = true
marks_memory _ = false

-- What was held back stays held back, before what the call holds back; or module code began, and it was recorded.
pub data HeldBack (s : State) (fs hs : List Fault) : Type 0 where
  stays_held : IsLater s.notes.held_back hs → HeldBack s fs hs
  was_recorded : (before recorded behind : List Fault) → fs ≡ s.faults ++ (before ++ recorded ++ behind) → IsLater s.notes.held_back (map as_note recorded) → HeldBack s fs hs

-- What a call leaves of a state: the place, the faults, the setting, the mark and what is held back. Tokens were read, of which the
-- last is what was read last. Those behind them are left, but that some may be drawn as ones that memory ran out for. No recorded fault
-- is lost. The setting stays. Unless the mark says so, memory ran out for none that was read and for none of the two that are read
-- ahead.
pub record Left (s : State) (c : Place) (fs : List Fault) (setting : EsSyntax) (m : Option Mark) (hs : List Fault) : Type 0 where
  pub read : List TokenAndSpan
  pub rest : List TokenAndSpan
  pub tokens : s.at.left ≡ read ++ rest
  pub drawn : Drawn rest c.left
  pub last : c.last ≡ last_span s.at.last read
  pub faults : IsLater s.faults fs
  pub same_setting : setting ≡ s.code.setting
  pub lasted : marks_memory m ≡ false → (has_out_of_memory_token read ≡ false) × (lacks_ahead c ≡ false)
  pub held : HeldBack s fs hs

abbrev pub Leaves : State → State → Type 0
Leaves s t = Left s t.at t.faults t.code.setting t.scope.mark t.notes.held_back

-- Of an answer: memory ran out for no token that was read, and for neither of the two that are read ahead.
pub record MemoryLasts (c d : Place) : Type 0 where
  pub read : List TokenAndSpan
  pub tokens : c.left ≡ read ++ d.left
  pub lasted : has_out_of_memory_token read ≡ false
  pub ahead : lacks_ahead d ≡ false

-- what a mark says of a refusal
abbrev pub Says : Option Mark → Kind → Type 0
Says None k = Unit {0}
Says (Some mark.TooDeep) k = k ≡ TooDeep
Says (Some mark.OutOfMemory) k = k ≡ OutOfMemory

-- Nothing is marked behind an answer; a refusal is what the mark says, if there is one. What was marked before the call counts for
-- nothing.
abbrev pub TellsMark : {X : Type 0} → Result X Error → State → Type 0
TellsMark (Ok x) t = t.scope.mark ≡ None
TellsMark (Err e) t = Says t.scope.mark (kind_of e.kind)
