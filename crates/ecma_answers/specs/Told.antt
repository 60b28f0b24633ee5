-- What is told of a text, one by one.
use Rattle.std.specs.Prelude.{◌≡◌, ℕ, ◌+◌, List, [], ◌∷◌, ◌++◌, Option, Some, None, Result, Ok, Err, length, string_bytes}
use Rattle.std.specs.List.{AllZip}
use Rattle.swc_ecma_parser_common.specs.declared.span.Span.{Span}
use Rattle.swc_ecma_parser_error.specs.declared.error.Error.{Error}
use Rattle.swc_ecma_parser_error.specs.Kind.{kind_of, name_of}
use Rattle.ecma_estree_text.specs.Places.{offset}
use Rattle.ecma_estree_text.specs.Spots.{spot_at}
use Rattle.ecma_sentences.specs.Message.{message_of}
use Rattle.ecma_sentences.specs.Note.{note_of}
use Rattle.ecma_events.specs.declared.early_error.EarlyError.{EarlyError}
use Rattle.ecma_early.specs.Sentences as early
use Rattle.ecma_faults.specs.Early.{note_at}
use Rattle.ecma_answers.specs.Capped.{early_front, front}
use Rattle.ecma_answers.specs.declared.findings.Findings.{Findings}
use Rattle.ecma_answers.specs.declared.told.Point.{Point}
use Rattle.ecma_answers.specs.declared.told.Previous.{Previous}
use Rattle.ecma_answers.specs.declared.told.Severity.{Severity}
use Rattle.ecma_answers.specs.declared.told.Severity.TheVariants as severity
use Rattle.ecma_answers.specs.declared.told.Told.{Told}

-- a place of a text, by its bytes
abbrev pub point_at : List ℕ → ℕ → Point
point_at text n = record {
  byte = n;
  unit = offset text n;
  line = (spot_at text n).line;
  column = (spot_at text n).column + 1;
}

-- another place, and what stands there
pub record IsAt (text : List ℕ) (other : Span × List ℕ) (it : Previous) : Type 0 where
  pub note : it.note.now ≡ other.1
  pub start : it.start ≡ point_at text other.0.lo.0
  pub end : it.end ≡ point_at text other.0.hi.0

abbrev pub IsPrevious : List ℕ → Option (Span × List ℕ) → Option Previous → Type 0
IsPrevious text None None = Unit {0}
IsPrevious text (Some note) (Some it) = IsAt text note it
IsPrevious text None (Some it) = ⊥
IsPrevious text (Some note) None = ⊥

-- a fault: its kind, its sentence, its place, and the other place that it speaks of
pub record IsTold (text : List ℕ) (s : Severity) (e : Error) (it : Told) : Type 0 where
  pub severity : it.severity ≡ s
  pub kind : it.kind.now ≡ name_of (kind_of e.kind)
  pub message : string_bytes it.message ≡ message_of text e
  pub start : it.start ≡ point_at text e.span.lo.0
  pub end : it.end ≡ point_at text e.span.hi.0
  pub previous : IsPrevious text (note_of text e) it.previous

-- the same of an early error
pub record IsToldEarly (text : List ℕ) (k : EarlyError) (it : Told) : Type 0 where
  pub severity : it.severity ≡ severity.Error
  pub kind : it.kind.now ≡ early.name_of k.kind
  pub message : string_bytes it.message ≡ early.sentence_of k.kind
  pub start : it.start ≡ point_at text k.span.lo.0
  pub end : it.end ≡ point_at text k.span.hi.0
  pub previous : IsPrevious text (note_at k) it.previous

-- faults that were recorded, one for one, and early errors
abbrev pub AreTold : List ℕ → List Error → List Told → Type 0
AreTold text es ts = AllZip (IsTold text severity.Fault) es ts

abbrev pub AreToldEarly : List ℕ → List EarlyError → List Told → Type 0
AreToldEarly text ks ts = AllZip (IsToldEarly text) ks ts

-- why there is no tree, if there is none
abbrev pub IsRefusal : {X : Type 0} → List ℕ → Result X Error → List Told → Type 0
IsRefusal text (Ok x) ts = ts ≡ []
IsRefusal text (Err e) ts = (last : Told) × IsTold text severity.Refusal e last × (ts ≡ last ∷ [])

-- some faults that were recorded, some early errors, and why there is no tree
abbrev pub AreAllTold : {X : Type 0} → List ℕ → Result X Error → List Error → List EarlyError → List Told → Type 0
AreAllTold text tree es ks ts =
    (recorded : List Told) × (errors : List Told) × (refusal : List Told)
    × AreTold text es recorded × AreToldEarly text ks errors × IsRefusal text tree refusal × (ts ≡ recorded ++ (errors ++ refusal))

-- the first of them, as many as are asked for, and why there is no tree
abbrev pub AllTold : (most : ℕ) → List ℕ → Findings → List Told → Type 0
AllTold most text f ts =
    AreAllTold text f.reading.tree (front most f.reading.faults.items) (early_front most (length f.reading.faults.items) f.early.items) ts
