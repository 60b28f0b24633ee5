-- The line of a fault is read back.
use Rattle.std.specs.Prelude.{◌≡◌, ℕ, List, ◌<◌, ◌^◌, Option, Some, None, length}
use Rattle.ecma_estree_json.specs.Json.{Json}
use Rattle.ecma_estree_json.specs.Reading.{parse_json}
use Rattle.ecma_estree_text.specs.Places.{Placed}
use Rattle.ecma_faults.specs.Json.{fault_json}
use Rattle.ecma_faults_json.specs.Faults.{fault}
use Rattle.ecma_sentences.specs.Note.{note_of}
use Rattle.swc_ecma_parser_common.specs.declared.span.Span.{Span}
use Rattle.swc_ecma_parser_error.specs.declared.error.Error.{Error}

-- its offsets are numbers of 64 bits
pub record Fits (s : Span) : Type 0 where
  pub low : s.lo.0 < 2 ^ 64
  pub high : s.hi.0 < 2 ^ 64

abbrev pub NoteFits : Option (Span × List ℕ) → Type 0
NoteFits None = Unit {0}
NoteFits (Some note) = Fits note.0

abbrev pub FaultsReadBack : Type 0
FaultsReadBack =
    (p : Placed) (file severity : List ℕ) (e : Error) (v : Json) → length p.text < 2 ^ 63 → Fits e.span → NoteFits (note_of p.text e)
    → fault p file severity e ≡ Some v → parse_json (fault_json p file severity e) ≡ Some v
