-- What an entry reads: the reader, which is the parser as a function on paper, of the tokens, the code and the limit that a state has.
use Rattle.std.specs.Prelude.{ℕ, true, false, Result}
use Rattle.swc_ecma_parser_error.specs.declared.error.Error.{Error}
use Rattle.swc_ecma_parser_model.specs.Tree.{Tree}
use Rattle.swc_ecma_parser_grammar.specs.language.Programs as programs
use Rattle.swc_ecma_parser_grammar.specs.language.Programs.{Entry}
use Rattle.swc_ecma_parser_reader.specs.Entry.{AnswersScript, AnswersStatement}
use Rattle.swc_ecma_parser_reader.specs.State.{State}
use Rattle.swc_ecma_parser_module_reader.specs.Entry.{IsEntered, AnswersModule}
use Rattle.swc_ecma_parser_module_reader.specs.ItemEntry.{AnswersItem}
use Rattle.swc_ecma_parser_module_reader.specs.ProgramEntry.{AnswersProgram}

-- This outcome is what the reader comes to from a state on, in which nothing is marked: the tree, and the state that is left, every
-- recorded fault in it; or, unless memory ran out, the refusal, its kind and its span, with the place where it was refused and the
-- faults that had been recorded by then. A module is read from where its code begins; of a program and of an item the faults are
-- handed in that are recorded where module code begins, which are those that had been held back (`as_note`).
abbrev pub IsReading : {X : Type 0} → (X → Tree) → Entry → ℕ → State → Result X Error → State → Type 0
IsReading view programs.script limit s result t = AnswersScript view limit s result t
IsReading view programs.«module» limit s result t = (u : State) × IsEntered s u × AnswersModule view limit u result t
IsReading view programs.program limit s result t = AnswersProgram view limit s result t
IsReading view programs.module_item limit s result t = AnswersItem view limit s result t
IsReading view (programs.stmt top_level) limit s result t = AnswersStatement view limit false top_level s result t
IsReading view (programs.stmt_list_item top_level) limit s result t = AnswersStatement view limit true top_level s result t
