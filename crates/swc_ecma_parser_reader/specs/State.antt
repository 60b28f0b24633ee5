-- What a reader reads from, and the steps that every rule is made of.
use Rattle.std.specs.Prelude.{◌≡◌, ◌≢◌, ℕ, zero, suc, Bool, true, false, ◌&&◌, ◌||◌, if◌then◌else◌, nat_lt, List, [], ◌∷◌, ◌++◌, length, Option, Some, is_some, Result, Ok, Err}
use Rattle.swc_ecma_parser_common.specs.declared.span.Span.{Span}
use Rattle.swc_ecma_parser_error.specs.declared.error.Error.{Error}
use Rattle.swc_ecma_parser_error.specs.Kind as faults
use Rattle.swc_ecma_parser_error.specs.Kind.{Kind, Fault, fault_of, kind_of}
use Rattle.swc_ecma_parser_token.specs.declared.kind.TokenKind.{TokenKind}
use Rattle.swc_ecma_parser_token.specs.declared.kind.TokenKind.TheVariants as kind
use Rattle.swc_ecma_parser_token.specs.declared.token.Token.{Token}
use Rattle.swc_ecma_parser_token.specs.declared.token.Token.TheVariants as token
use Rattle.swc_ecma_parser_token.specs.declared.token.TokenAndSpan.{TokenAndSpan}
use Rattle.swc_ecma_parser_token.specs.Text.{word_text}
use Rattle.swc_ecma_parser_input.specs.TokenSource.{means_out_of_memory}
use Rattle.swc_ecma_parser_input.specs.declared.context.Context.{Context}
use Rattle.swc_ecma_parser_input.specs.Place.{Place, after}
use Rattle.swc_ecma_parser_model.specs.declared.leaves.Ident.{Ident}
use Rattle.swc_ecma_parser_model.specs.Tree.{Text}
use Rattle.swc_ecma_parser_grammar.specs.Looks.{sees, span_at, spanned, whole_span}
use Rattle.swc_ecma_parser_grammar.specs.Names.{Code, is_name, is_identifier, may_bind_await}
use Rattle.swc_ecma_parser_grammar.specs.Ends.{can_end}
use Rattle.swc_ecma_parser_grammar.specs.Follows.{word_at}
use Rattle.swc_ecma_parser_grammar.specs.Notes.{as_note}
use Rattle.swc_ecma_parser_reader.specs.Notes.{Notes}
use Rattle.swc_ecma_parser_reader.specs.declared.mark.Mark.{Mark}
use Rattle.swc_ecma_parser_reader.specs.declared.mark.Mark.TheVariants as mark

-- the labels around, and the mark
pub record Scope : Type 0 where
  pub labels : List Text
  pub mark : Option Mark

pub record State : Type 0 where
  pub at : Place
  pub code : Code
  pub scope : Scope
  -- the faults recorded, and what was noted
  pub faults : List Fault
  pub notes : Notes

-- ---- readers

abbrev pub Outcome : Type 0 → Type 0
Outcome A = Result (A × State) (Fault × State)

abbrev pub Reader : Type 0 → Type 0
Reader A = State → Outcome A

abbrev pub and_then : {A B : Type 0} → Outcome A → (A → Reader B) → Outcome B
and_then (Ok p) f = f p.0 p.1
and_then (Err e) f = Err e

infixl 10 ◌>>=◌
abbrev pub ◌>>=◌ : {A B : Type 0} → Reader A → (A → Reader B) → Reader B
p >>= f = λ s. and_then (p s) f

infixl 10 ◌>>◌
abbrev pub ◌>>◌ : {A B : Type 0} → Reader A → Reader B → Reader B
p >> q = p >>= (λ _. q)

abbrev pub pure : {A : Type 0} → A → Reader A
pure a = λ s. Ok (a, s)

infixr 11 ◌<$>◌
abbrev pub ◌<$>◌ : {A B : Type 0} → (A → B) → Reader A → Reader B
f <$> p = p >>= (λ x. pure (f x))

-- ---- steps

abbrev pub here : Reader Place
here = λ s. Ok (s.at, s)

abbrev pub span_here : Reader Span
span_here = λ s. Ok (span_at s.at, s)

-- from the start of a span to the end of what was read last
abbrev pub since : Span → Reader Span
since start = λ s. Ok (record { lo = start.lo; hi = s.at.last.hi }, s)

abbrev pub moved : State → State
moved s = record s { at = after s.at }

abbrev pub skip : Reader (Unit {0})
skip = λ s. Ok (tt, moved s)

-- what was read since a place
abbrev pub spanned_from : Place → Reader Span
spanned_from c = λ s. Ok (spanned c s.at, s)

-- the same of a whole
abbrev pub whole_from : Place → Reader Span
whole_from c = λ s. Ok (whole_span c s.at, s)

abbrev pub coded : Code → State → State
coded k s = record s { code = k }

-- the flags are what they were
abbrev pub flagged : Code → State → State
flagged k s = coded (record s.code { flags = k.flags }) s

-- a reader under other flags
abbrev pub within : {A : Type 0} → (Code → Code) → Reader A → Reader A
within change p = λ s. and_then (p (coded (change s.code) s)) (λ a t. Ok (a, flagged s.code t))

-- below one more label
abbrev pub below : Text → State → State
below text s = record s { scope = record s.scope { labels = s.scope.labels ++ text ∷ [] } }

-- the labels are what they were
abbrev pub relabelled : Scope → State → State
relabelled w s = record s { scope = record s.scope { labels = w.labels } }

-- a reader below one more label
abbrev pub below_label : {A : Type 0} → Text → Reader A → Reader A
below_label text p = λ s. and_then (p (below text s)) (λ a t. Ok (a, relabelled s.scope t))

-- below no label
abbrev pub unlabelled : State → State
unlabelled s = record s { scope = record s.scope { labels = [] } }

-- whether what makes a program a module was read is what it was
abbrev pub found_as : Notes → State → State
found_as ns s = record s { notes = record s.notes { found_module_item = ns.found_module_item } }

-- A reader of a function's body: no label stands around it, and nothing in it makes a program a module.
abbrev pub enclosed : {A : Type 0} → Reader A → Reader A
enclosed p = λ s. and_then (p (unlabelled s)) (λ a t. Ok (a, found_as s.notes (relabelled s.scope t)))

abbrev pub noted : Fault → State → State
noted f s = record s { faults = s.faults ++ f ∷ [] }

-- what makes a program a module was read
abbrev pub module_found : State → State
module_found s = record s { notes = record s.notes { found_module_item = true } }

abbrev pub note_module_item : Reader (Unit {0})
note_module_item = λ s. Ok (tt, module_found s)

-- a fault that is held back
abbrev pub holding_back : Fault → State → State
holding_back f s = record s { notes = record s.notes { held_back = s.notes.held_back ++ as_note f ∷ [] } }

-- a fault that counts in module code alone
abbrev pub module_fault : Fault → State → State
module_fault f s = if s.code.flags.module then noted f s else holding_back f s

-- ---- recording: an error token that stands here is read and recorded first, and one for want of memory answered

abbrev pub recorded_at : Fault → State → Token → Outcome (Unit {0})
recorded_at f s (token.Error e) = if means_out_of_memory e.kind then Err (fault_of e, moved s) else Ok (tt, noted f (noted (fault_of e) (moved s)))
recorded_at f s _ = Ok (tt, noted f s)

abbrev pub recorded_in : Fault → State → List TokenAndSpan → Outcome (Unit {0})
recorded_in f s [] = Ok (tt, noted f s)
recorded_in f s (t ∷ ts) = recorded_at f s t.token

unfoldable pub fault : Fault → Reader (Unit {0})
fault f = λ s. recorded_in f s s.at.left

-- ---- refusals

abbrev pub fault_at : Span → Kind → Fault
fault_at span kind = record { span = span; kind = kind }

-- the end of what was read last
abbrev pub end_of : Span → Span
end_of span = record { lo = span.hi; hi = span.hi }

-- a part that must stand here does not: at the end the kind is `Eof`, and an error token is read and its fault answered
abbrev pub wanted_at : {A : Type 0} → Kind → State → Token → Span → Outcome A
wanted_at kind s (token.Error e) span = Err (fault_of e, moved s)
wanted_at kind s _ span = Err (fault_at span kind, s)

abbrev pub wanted_in : {A : Type 0} → Kind → State → List TokenAndSpan → Outcome A
wanted_in kind s [] = Err (fault_at (end_of s.at.last) faults.Eof, s)
wanted_in kind s (t ∷ ts) = wanted_at kind s t.token t.span

unfoldable pub wanted : {A : Type 0} → Kind → Reader A
wanted kind = λ s. wanted_in kind s s.at.left

-- what would stand deeper than the limit; the state is marked
abbrev pub marked : Mark → State → State
marked m s = record s { scope = record s.scope { mark = Some m } }

abbrev pub too_deep_at : {A : Type 0} → State → Token → Span → Outcome A
too_deep_at s (token.Error e) span = Err (fault_of e, moved s)
too_deep_at s _ span = Err (fault_at span faults.TooDeep, marked mark.TooDeep s)

abbrev pub too_deep_in : {A : Type 0} → State → List TokenAndSpan → Outcome A
too_deep_in s [] = Err (fault_at (end_of s.at.last) faults.Eof, s)
too_deep_in s (t ∷ ts) = too_deep_at s t.token t.span

unfoldable pub too_deep : {A : Type 0} → Reader A
too_deep = λ s. too_deep_in s s.at.left

-- the parser's own refusal of what stands here; an error token is read and recorded
abbrev pub refused : {A : Type 0} → Fault → Outcome (Unit {0}) → Outcome A
refused f (Ok p) = Err (f, p.1)
refused f (Err e) = Err e

abbrev pub refuse_at : {A : Type 0} → Kind → State → Token → Span → Outcome A
refuse_at kind s (token.Error e) span = if means_out_of_memory e.kind then Err (fault_of e, moved s) else refused (fault_at span kind) (fault (fault_of e) (moved s))
refuse_at kind s _ span = Err (fault_at span kind, s)

abbrev pub refuse_in : {A : Type 0} → Kind → State → List TokenAndSpan → Outcome A
refuse_in kind s [] = Err (fault_at s.at.last kind, s)
refuse_in kind s (t ∷ ts) = refuse_at kind s t.token t.span

unfoldable pub refuse : {A : Type 0} → Kind → Reader A
refuse kind = λ s. refuse_in kind s s.at.left

-- the parser's own refusal of what was read; an error token that stands here is read and recorded
abbrev pub reject_at : {A : Type 0} → Fault → State → Token → Outcome A
reject_at f s (token.Error e) = if means_out_of_memory e.kind then Err (fault_of e, moved s) else refused f (fault (fault_of e) (moved s))
reject_at f s _ = Err (f, s)

abbrev pub reject_in : {A : Type 0} → Fault → State → List TokenAndSpan → Outcome A
reject_in f s [] = Err (f, s)
reject_in f s (t ∷ ts) = reject_at f s t.token

unfoldable pub reject : {A : Type 0} → Fault → Reader A
reject f = λ s. reject_in f s s.at.left

-- whether a kind says that memory ran out
abbrev pub says_out_of_memory : Kind → Bool
says_out_of_memory faults.OutOfMemory = true
says_out_of_memory _ = false

-- the refusal of a part that has a name: at the same place, of the kind that says so. Where the state is marked, or memory ran out,
-- it stays.
abbrev pub labelled_as : {A : Type 0} → Outcome A → Outcome A
labelled_as (Ok p) = Ok p
labelled_as (Err e) = if is_some e.1.scope.mark || says_out_of_memory e.0.kind then Err e else Err (fault_at e.0.span faults.WithLabel, e.1)

unfoldable pub labelled : {A : Type 0} → Reader A → Reader A
labelled p = λ s. labelled_as (p s)

-- ---- what is read and dropped

-- the flags, the labels, and whether what makes a program a module was read, are what they were
abbrev pub put_back : State → State → State
put_back s t = flagged s.code (found_as s.notes (relabelled s.scope t))

-- An answer is dropped, and so is a refusal, but where memory ran out or the state is marked.
abbrev pub dropped_as : {A : Type 0} → State → Outcome A → Outcome (Unit {0})
dropped_as s (Ok p) = Ok (tt, put_back s p.1)
dropped_as s (Err e) = if is_some e.1.scope.mark || says_out_of_memory e.0.kind then Err e else Ok (tt, put_back s e.1)

unfoldable pub attempted : {A : Type 0} → Reader A → Reader (Unit {0})
attempted p = λ s. dropped_as s (p s)

-- ---- fixed tokens, ends and names

unfoldable pub expect : TokenKind → Reader (Unit {0})
expect k = λ s. if sees k s.at then Ok (tt, moved s) else refuse faults.Expected s

-- a word that is no keyword
unfoldable pub expect_word : Text → Reader (Unit {0})
expect_word text = λ s. if word_at text s.at then Ok (tt, moved s) else refuse faults.Expected s

-- the end of a statement
unfoldable pub end : Kind → Reader (Unit {0})
end missing = λ s. if sees kind.Semi s.at then Ok (tt, moved s) else (if can_end s.at then Ok (tt, s) else refuse missing s)

-- `await` where it is no clean name: it is refused in a static block, else it is a fault, which is recorded behind it
unfoldable pub unclean_name : Ident → Reader Ident
unclean_name i = λ s. if may_bind_await s.code.flags then (skip >> (fault (fault_at i.span faults.InvalidIdentInAsync) >> pure i)) s else wanted faults.ExpectedIdent s

abbrev pub name_by : Kind → State → Token → Span → Outcome Ident
name_by kind s (token.Word w) span =
    if is_name s.code.flags (word_text w) then Ok (record { span = span; sym = word_text w }, moved s)
    else if is_identifier s.code.flags (word_text w) then unclean_name (record { span = span; sym = word_text w }) s
    else wanted kind s
name_by kind s _ span = wanted kind s

abbrev pub name_in : Kind → State → List TokenAndSpan → Outcome Ident
name_in kind s [] = wanted kind s
name_in kind s (t ∷ ts) = name_by kind s t.token t.span

unfoldable pub name : Kind → Reader Ident
name kind = λ s. name_in kind s s.at.left

-- a name that refers to something: `await` is none in async code either
unfoldable pub reference : Kind → Reader Ident
reference missing = λ s. if s.code.flags.in_async && sees kind.Await s.at then wanted faults.ExpectedIdent s else name missing s

-- A word that was read before is a name. `await` where it is no clean one is a fault that is recorded, if it may be; any other word
-- is refused.
unfoldable pub as_name : (may_await : Context → Bool) → Span → Text → Reader (Unit {0})
as_name may_await span text = λ s.
    if is_name s.code.flags text then Ok (tt, s)
    else if may_await s.code.flags && is_identifier s.code.flags text then fault (fault_at span faults.InvalidIdentInAsync) s
    else reject (fault_at span faults.ExpectedIdent) s

-- ---- loops, each turn of which takes a token

pub data Step (A B : Type 0) : Type 0 where
  More : A → Step A B
  Done : B → Step A B

-- what no turn comes to
abbrev pub stuck : {A : Type 0} → Reader A
stuck = λ s. Err (fault_at s.at.last faults.OutOfMemory, s)

abbrev pub next_turn : {A B : Type 0} → (A → Reader B) → ℕ → State → Step A B → Outcome B
next_turn go before s (More a) = if nat_lt (length s.at.left) before then go a s else stuck s
next_turn go before s (Done b) = Ok (b, s)

abbrev pub after_turn : {A B : Type 0} → (A → Reader B) → ℕ → Outcome (Step A B) → Outcome B
after_turn go before (Ok p) = next_turn go before p.1 p.0
after_turn go before (Err e) = Err e

abbrev pub turns : {A B : Type 0} → (A → Reader (Step A B)) → ℕ → A → Reader B
turns body zero a = stuck
turns body (suc n) a = λ s. after_turn (turns body n) (length s.at.left) (body a s)

unfoldable pub loop : {A B : Type 0} → (A → Reader (Step A B)) → A → Reader B
loop body a = λ s. turns body (suc (length s.at.left)) a s

-- ---- what a function that reads ensures: the reader's outcome, unless memory ran out

abbrev pub GivesAs : {A B : Type 0} → (A → B) → Outcome B → Result A Error → State → Type 0
GivesAs view outcome (Ok a) new = outcome ≡ Ok (view a, new)
GivesAs view outcome (Err e) new = kind_of e.kind ≢ faults.OutOfMemory → outcome ≡ Err (fault_of e, new)

abbrev pub Gives : {A : Type 0} → Outcome A → Result A Error → State → Type 0
Gives outcome (Ok a) new = outcome ≡ Ok (a, new)
Gives outcome (Err e) new = kind_of e.kind ≢ faults.OutOfMemory → outcome ≡ Err (fault_of e, new)
