-- What a new parser answers, as a whole: of a source, an entry and a limit, the answer, the faults that it recorded, and where it stands.
use Rattle.std.specs.Prelude.{◌≡◌, ◌↔◌, ℕ, ◌+◌, ◌*◌, ◌≤◌, false, List, [], length, Result, Ok, Err, IfOk, IfErr, IsOk, IsErrAnd}
use Rattle.swc_ecma_parser_error.specs.declared.error.Error.{Error}
use Rattle.swc_ecma_parser_error.specs.Kind.{Fault, Eof, TooDeep, fault_of, kind_of}
use Rattle.swc_ecma_parser_input.specs.Place.{Place, outset}
use Rattle.swc_ecma_parser_input.specs.Setting.{setting_of}
use Rattle.swc_ecma_parser_input.specs.TokenSource.{TokenSource, at_start}
use Rattle.swc_ecma_parser_model.specs.Tree.{Tree}
use Rattle.swc_ecma_parser_grammar.specs.Names.{Code}
use Rattle.swc_ecma_parser_grammar.specs.Walk.{walk, env_of, tabled, drops}
use Rattle.swc_ecma_parser_grammar.specs.language.Programs as programs
use Rattle.swc_ecma_parser_grammar.specs.language.Programs.{Entry, Spells, entry_code}
use Rattle.swc_ecma_parser_reader.specs.Entry.{error_tokens, last_span}
use Rattle.swc_ecma_parser_reader.specs.Limits.{IsToldBy}
use Rattle.swc_ecma_parser_reader.specs.State.{State}
use Rattle.swc_ecma_parser_exactness.specs.Decides.{Lasts}
use Rattle.swc_ecma_parser_state.specs.Opened.{opened}
use Rattle.swc_ecma_parser_entries.specs.Refusals.{Refuses}
use Rattle.swc_ecma_parser.specs.Reading.{IsReading}

-- a source of which nothing was recorded nor held back
pub record IsNew (s : TokenSource) : Type 0 where
  pub recorded : s.recorded ≡ []
  pub held_back : s.held_back ≡ []

abbrev pub code_of : TokenSource → Code
code_of s = record { flags = s.context; setting = setting_of s.syntax }

-- this tree is answered, with nothing recorded
abbrev pub IsClean : {X : Type 0} → (X → Tree) → Result X Error → List Fault → Tree → Type 0
IsClean view (Ok y) fs x = (view y ≡ x) × (fs ≡ [])
IsClean view (Err e) fs x = ⊥

-- where a source begins, and behind all of its tokens
abbrev pub start_of : TokenSource → Place
start_of s = outset s.start s.left

abbrev pub end_of : TokenSource → Place
end_of s = record { last = last_span (at_start s) s.left; left = [] }

-- What no tokens are answered with, whatever memory is left: as a whole an answer, as a statement or an item a refusal.
abbrev pub AtEnd : {X : Type 0} → Entry → TokenSource → Result X Error → Type 0
AtEnd programs.script s answer = IsOk answer
AtEnd programs.«module» s answer = IsOk answer
AtEnd programs.program s answer = IsOk answer
AtEnd _ s answer = IsErrAnd answer (λ e. fault_of e ≡ record { span = at_start s; kind = Eof })

-- The whole theorem: of a source, the answer, the faults that were recorded, and the place behind what was read.
pub record Headline {X : Type 0} (view : X → Tree) (entry : Entry) (limit : ℕ) (s : TokenSource) (answer : Result X Error) (fs : List Fault) (d : Place) : Type 0 where
  -- Unless memory ran out: a tree is answered with nothing recorded, and what was read ends in a place, exactly where the tokens up to
  -- there spell it within the limit. So at most one tree is spelled, up to one place.
  pub decides : IsNew s → Lasts answer → (x : Tree) (e : Place) → (IsClean view answer fs x × (d ≡ e)) ↔ Spells limit entry (code_of s) [] x (start_of s) e
  -- Of a tree: where no error token was read and nothing was dropped, the recorded faults of the walk's kinds are its walk.
  pub walk : IsNew s → IfOk answer (λ y. error_tokens s.left ≡ error_tokens d.left → drops fs ≡ false → tabled fs ≡ walk (env_of (entry_code entry (code_of s)) []) (view y))
  -- Whatever comes, unless memory ran out: the tree, or the refusal, and the faults beside it are what the reader comes to, from the
  -- state on in which a parser of the source begins.
  pub reads : Lasts answer → (t : State) × IsReading view entry limit (opened s) answer t × (fs ≡ t.faults) × IfOk answer (λ y. t.at ≡ d)
  -- The faults beside a refusal are the reader's and no others, where the code is no module's; what a program or an item records as
  -- module code begins is what it had held back.
  pub refuses : (t : State) × (fs ≡ t.faults) × Refuses s.context.«module» entry limit (opened s) answer t
  -- A limit of twice the tokens and two is never met: what is refused as too deep is what an error token of the list says.
  pub fits : 2 * length s.left + 2 ≤ limit → IfErr answer (λ e. kind_of e.kind ≡ TooDeep → IsToldBy s.left (fault_of e))
  -- No tokens are never answered with want of memory.
  pub at_end : s.left ≡ [] → AtEnd entry s answer
