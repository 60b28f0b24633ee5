-- What an entry gives, by the grammar and the walk alone.
use Rattle.std.specs.Prelude.{◌≡◌, ◌≢◌, ℕ, suc, ◌≤◌, if◌then◌else◌, Bool, true, false, ◌&&◌, ◌||◌, ◌⊎◌, List, [], ◌∷◌, ◌++◌, Option, None, Result, Ok, Err}
use Rattle.swc_ecma_parser_common.specs.declared.span.Span.{Span}
use Rattle.swc_ecma_parser_error.specs.declared.error.Error.{Error}
use Rattle.swc_ecma_parser_error.specs.Kind.{Kind, Fault, fault_of, kind_of, OutOfMemory, TopLevelAwaitInScript}
use Rattle.swc_ecma_parser_token.specs.declared.kind.TokenKind.TheVariants as kind
use Rattle.swc_ecma_parser_token.specs.declared.token.TokenAndSpan.{TokenAndSpan}
use Rattle.swc_ecma_parser_token.specs.Kind.{token_kind}
use Rattle.swc_ecma_parser_input.specs.Place.{Place}
use Rattle.swc_ecma_parser_model.specs.Tree as tree
use Rattle.swc_ecma_parser_model.specs.Tree.{Tree, Text, listed}
use Rattle.swc_ecma_parser_model.specs.Forms.{span_of}
use Rattle.swc_ecma_parser_grammar.specs.Looks.{kind_at, sees, same_kind, spanned, has_error_token, whole_span}
use Rattle.swc_ecma_parser_grammar.specs.Names.{Code}
use Rattle.swc_ecma_parser_grammar.specs.scaffold.Supported.{supported}
use Rattle.swc_ecma_parser_grammar.specs.language.Contexts.{script_code}
use Rattle.swc_ecma_parser_grammar.specs.language.Noted.{has_meta}
use Rattle.swc_ecma_parser_grammar.specs.language.Programs as programs
use Rattle.swc_ecma_parser_grammar.specs.language.Programs.{Entry, at_top, ReadsEntry, ShebangRule, script_awaits, Spells}
use Rattle.swc_ecma_parser_grammar.specs.Walk.{walk, env_of, tabled, drops}
use Rattle.swc_ecma_parser_reader.specs.Notes.{Notes, notes_with, ◌⊕◌}
use Rattle.swc_ecma_parser_reader.specs.State.{State, GivesAs}
use Rattle.swc_ecma_parser_reader.specs.Reader.{whole_stmt, script}

-- the walk of a script read in a state
abbrev pub script_walk : State → Tree → List Fault
script_walk s x = walk (env_of (script_code s.code) s.scope.labels) x

-- the state after a script, where one of its own statements begins with `await`, or none does
abbrev pub script_left : State → Tree → Place → (awaits : Bool) → State
script_left s x d awaits = record s { at = d; code = script_code s.code; faults = s.faults ++ script_walk s x; notes = s.notes ⊕ notes_with x awaits }

-- whether a fault among these says that a statement of a script begins with `await`
abbrev pub is_top_await : Kind → Bool
is_top_await TopLevelAwaitInScript = true
is_top_await _ = false

abbrev pub tells_top_await : List Fault → Bool
tells_top_await [] = false
tells_top_await (f ∷ fs) = is_top_await f.kind || tells_top_await fs

-- ---- a tree on its tokens, whatever was recorded

-- the span of the last of some tokens, or the one read before them
abbrev pub last_span : Span → List TokenAndSpan → Span
last_span s [] = s
last_span s (t ∷ ts) = last_span t.span ts

-- Tokens were taken from one place to another, one at least, and the last of them is what was read last there.
pub record TakesSome (c d : Place) : Type 0 where
  pub first : TokenAndSpan
  pub others : List TokenAndSpan
  pub tokens : c.left ≡ (first ∷ others) ++ d.left
  pub last : d.last ≡ last_span first.span others

-- whether these are error tokens alone
abbrev pub are_errors : List TokenAndSpan → Bool
are_errors [] = true
are_errors (t ∷ ts) = same_kind (token_kind t.token) kind.Error && are_errors ts

-- No tokens but error tokens were taken from one place to another.
pub record TakesErrors (c d : Place) : Type 0 where
  pub errors : List TokenAndSpan
  pub tokens : c.left ≡ errors ++ d.left
  pub last : d.last ≡ last_span c.last errors
  pub are : are_errors errors ≡ true

-- where a statement begins: with the first of its tokens, or behind decorators that it leaves out
pub data StartsAt (c m : Place) : Type 0 where
  at_once : m ≡ c → StartsAt c m
  behind_decorators : kind_at c ≡ kind.At → TakesSome c m → StartsAt c m

-- Tokens were taken from one place to another, or none.
pub record Taken (c d : Place) : Type 0 where
  pub read : List TokenAndSpan
  pub tokens : c.left ≡ read ++ d.left
  pub last : d.last ≡ last_span c.last read

-- the statement that stands for a `catch` or `finally` behind no `try`
abbrev pub is_stray : Tree → Bool
is_stray (tree.expr_stmt span (tree.invalid word)) = true
is_stray _ = false

-- What is taken behind a statement: error tokens alone, with the faults that are recorded of it, but behind a `catch` or `finally`
-- behind no `try` whatever is dropped.
pub data TakenBehind (x : Tree) (c d : Place) : Type 0 where
  errors_behind : TakesErrors c d → TakenBehind x c d
  dropped_behind : is_stray x ≡ true → Taken c d → TakenBehind x c d

-- A statement on its tokens: it goes from the first of them, or of those behind decorators, to the last, but for what is taken behind
-- it.
pub record StandsAt (x : Tree) (c d : Place) : Type 0 where
  pub start : Place
  pub starts : StartsAt c start
  pub end : Place
  pub takes : TakesSome start end
  pub span : span_of x ≡ spanned start end
  pub behind : TakenBehind x end d

-- Statements on their tokens, one behind another, and whether one of them begins with `await`.
abbrev pub Stand : List Tree → (awaits : Bool) → Place → Place → Type 0
Stand [] awaits c d = (d ≡ c) × (awaits ≡ false)
Stand (x ∷ xs) awaits c d = (m : Place) × StandsAt x c m × (others : Bool) × (awaits ≡ (sees kind.Await c || others)) × Stand xs others m d

-- A script on its tokens: a first line, if there is one, and statements.
pub record StandsAsScript (x : Tree) (awaits : Bool) (c d : Place) : Type 0 where
  pub shebang : Option Text
  pub first : Place
  pub items : List Tree
  pub reads_shebang : ShebangRule c first shebang
  pub stand : Stand items awaits first d
  pub is : x ≡ tree.script (whole_span c d) (listed items) shebang

-- ---- a script

-- An answer: it takes the whole list; where nothing was recorded the list spells it as a script of the language, its walk is empty,
-- and what was noted are its notes; where no error token stands and nothing was dropped, the faults of the table among those
-- recorded are the walk's; and whatever was recorded, its statements stand on the tokens of the list, and that the code is a
-- module's is noted where the tree says so and where one of these statements begins with `await`, and nowhere else. That one does is
-- told, but in code that may be a module's.
pub record SoundScript (limit : ℕ) (s : State) (x : Tree) (t : State) : Type 0 where
  pub code : t.code ≡ script_code s.code
  pub scope : t.scope ≡ s.scope
  pub whole : kind_at t.at ≡ kind.End
  pub added : List Fault
  pub faults : t.faults ≡ s.faults ++ added
  pub spells : added ≡ [] → Spells limit programs.script s.code s.scope.labels x s.at t.at
  pub walked : has_error_token s.at.left ≡ false → drops added ≡ false → tabled added ≡ script_walk s x
  -- whether one of its own statements begins with `await`
  pub awaits : Bool
  pub stands : StandsAsScript x awaits s.at t.at
  pub awaited : (h : added ≡ []) → awaits ≡ script_awaits limit s.code x s.at t.at (spells h).0
  pub told : awaits ≡ true → s.code.flags.can_be_module || tells_top_await added ≡ true
  pub noted : added ≡ [] → t.notes ≡ s.notes ⊕ notes_with x awaits
  pub found : t.notes.found_module_item ≡ (s.notes.found_module_item || (has_meta x || awaits))

-- a script of the language within a limit, of supported forms alone
abbrev pub ReadsSupportedScript : ℕ → Code → Tree → Place → Place → Type 0
ReadsSupportedScript limit k x c d = ReadsEntry limit programs.script k x c d × (supported x ≡ true)

-- at most one supported tree within a limit spells a list, and it ends in one place
abbrev pub IsOneScript : Type 0
IsOneScript = (limit : ℕ) (k : Code) (x y : Tree) (c d e : Place) → ReadsSupportedScript limit k x c d → ReadsSupportedScript limit k y c e → (x ≡ y) × (d ≡ e)

-- a state as a call begins: nothing is marked
abbrev pub unmarked : State → State
unmarked s = record s { scope = record s.scope { mark = None } }

-- A supported tree within the limit that spells the list is the answer, with the faults of the walk and no others, unless memory ran
-- out; where the walk finds some, no error token may stand in the list.
abbrev pub GivesSupportedScript : {X : Type 0} → (X → Tree) → ℕ → State → Result X Error → State → Type 0
GivesSupportedScript view limit s result t =
    (x : Tree) (d : Place) (r : ReadsSupportedScript limit s.code x s.at d) → (script_walk s x ≡ []) ⊎ (has_error_token s.at.left ≡ false)
    → GivesAs view (Ok (x, script_left s x d (script_awaits limit s.code x s.at d r.0))) result t

-- after a refusal: the context is as before the call, no label is left, and the note is as before
pub record IsRestored (s t : State) : Type 0 where
  pub flags : t.code.flags ≡ s.code.flags
  pub labels : t.scope.labels ≡ []
  pub found_module_item : t.notes.found_module_item ≡ s.notes.found_module_item

-- Behind a place of a list: tokens were read from there on, of which the last is what was read last, and faults recorded behind
-- those that were there.
pub record Behind (fs : List Fault) (c : Place) (gs : List Fault) (d : Place) : Type 0 where
  pub added : List Fault
  pub faults : gs ≡ fs ++ added
  pub read : List TokenAndSpan
  pub tokens : c.left ≡ read ++ d.left
  pub last : d.last ≡ last_span c.last read

abbrev pub IsBehind : State → State → Type 0
IsBehind s t = Behind s.faults s.at t.faults t.at

-- Whatever a call answers: the tokens that are left are the last of those that were, what was read last is the token before them,
-- and no recorded fault is lost. Of a refusal for want of memory it is not said.
abbrev pub Stays : {X : Type 0} → State → Result X Error → State → Type 0
Stays s (Ok x) t = IsBehind s t
Stays s (Err e) t = kind_of e.kind ≢ OutOfMemory → IsBehind s t

-- faults that stand behind those that were there
abbrev pub IsLater : List Fault → List Fault → Type 0
IsLater fs gs = (added : List Fault) × (gs ≡ fs ++ added)

-- as much is read; where the code is a module's again, faults that were held back are recorded
pub record IsSetBack (s t : State) : Type 0 where
  pub at : t.at ≡ s.at
  pub faults : IsLater s.faults t.faults

-- what the reader answers, or refuses, with the state set back
abbrev pub AnswersScript : {X : Type 0} → (X → Tree) → ℕ → State → Result X Error → State → Type 0
AnswersScript view limit s (Ok x) t = script limit s ≡ Ok (view x, t)
AnswersScript view limit s (Err e) t = kind_of e.kind ≢ OutOfMemory → (u : State) × (script limit s ≡ Err (fault_of e, u)) × IsSetBack u t

-- ---- one statement, or one that may be a declaration, behind which anything may stand

-- how many error tokens are left
abbrev pub error_tokens : List TokenAndSpan → ℕ
error_tokens [] = 0
error_tokens (t ∷ ts) = if same_kind (token_kind t.token) kind.Error then suc (error_tokens ts) else error_tokens ts

abbrev pub statement_entry : (include_decl top_level : Bool) → Entry
statement_entry false top_level = programs.stmt top_level
statement_entry true top_level = programs.stmt_list_item top_level

-- its walk where it was read
abbrev pub statement_walk : State → Tree → List Fault
statement_walk s x = walk (env_of s.code s.scope.labels) x

-- what it notes: `await` first in one of the top level makes a program a module
abbrev pub statement_notes : (top_level : Bool) → Place → Tree → Notes
statement_notes top_level c x = notes_with x (top_level && sees kind.Await c)

-- the state after it
abbrev pub statement_left : (top_level : Bool) → State → Tree → Place → State
statement_left top_level s x d = record s { at = d; faults = s.faults ++ statement_walk s x; notes = s.notes ⊕ statement_notes top_level s.at x }

-- An answer: the code and the labels around are as before; where nothing was recorded the tokens up to its end spell it as a
-- statement of the language, its walk is empty, and what was noted are its notes; where no error token was read and nothing was
-- dropped, the faults of the table among those recorded are the walk's; and whatever was recorded, it stands on the tokens that were
-- taken, and that the code is a module's is noted where the tree says so and where a statement of the top level begins with `await`,
-- and nowhere else.
pub record SoundStatement (limit : ℕ) (include_decl top_level : Bool) (s : State) (x : Tree) (t : State) : Type 0 where
  pub code : t.code ≡ s.code
  pub scope : t.scope ≡ s.scope
  pub added : List Fault
  pub faults : t.faults ≡ s.faults ++ added
  pub spells : added ≡ [] → Spells limit (statement_entry include_decl top_level) s.code s.scope.labels x s.at t.at
  pub stands : StandsAt x s.at t.at
  -- no error token comes to those that are left, and there are as many where none was read
  pub fewer : error_tokens t.at.left ≤ error_tokens s.at.left
  pub walked : error_tokens s.at.left ≡ error_tokens t.at.left → drops added ≡ false → tabled added ≡ statement_walk s x
  pub noted : added ≡ [] → t.notes ≡ s.notes ⊕ statement_notes top_level s.at x
  pub found : t.notes.found_module_item ≡ (s.notes.found_module_item || (has_meta x || (top_level && sees kind.Await s.at)))

-- a statement of the language within a limit, of supported forms alone
abbrev pub ReadsSupportedStatement : ℕ → (include_decl top_level : Bool) → Code → Tree → Place → Place → Type 0
ReadsSupportedStatement limit include_decl top_level k x c d = ReadsEntry limit (statement_entry include_decl top_level) k x c d × (supported x ≡ true)

-- A supported tree within the limit that tokens from here on spell is the answer, and they are what is read, with the faults of the
-- walk and no others, unless memory ran out; where the walk finds some, no error token may stand right behind them.
abbrev pub GivesSupportedStatement : {X : Type 0} → (X → Tree) → ℕ → (include_decl top_level : Bool) → State → Result X Error → State → Type 0
GivesSupportedStatement view limit include_decl top_level s result t =
    (x : Tree) (d : Place) → ReadsSupportedStatement limit include_decl top_level s.code x s.at d → (statement_walk s x ≡ []) ⊎ (sees kind.Error d ≡ false)
    → GivesAs view (Ok (x, statement_left top_level s x d)) result t

-- what the reader answers, or refuses, with the state set back
abbrev pub AnswersStatement : {X : Type 0} → (X → Tree) → ℕ → (include_decl top_level : Bool) → State → Result X Error → State → Type 0
AnswersStatement view limit include_decl top_level s (Ok x) t = whole_stmt limit (at_top include_decl top_level) s ≡ Ok (view x, t)
AnswersStatement view limit include_decl top_level s (Err e) t = kind_of e.kind ≢ OutOfMemory → (u : State) × (whole_stmt limit (at_top include_decl top_level) s ≡ Err (fault_of e, u)) × IsSetBack u t
