-- A fault as JSON: the object of its line (docs/ESTREE.md, the table of formats).
use Rattle.std.specs.Prelude.{ℕ, List, ◌+◌, cond, codes, Option, Some, None}
use Rattle.ecma_estree_json.specs.Json.{Json, Fields}
use Rattle.ecma_estree_json.specs.Made.{done, field, object, text, count}
use Rattle.ecma_estree_text.specs.Places.{Placed, offset}
use Rattle.ecma_estree_text.specs.Spots.{spot_at}
use Rattle.ecma_estree_text.specs.declared.spot.Spot.{Spot}
use Rattle.ecma_sentences.specs.Message.{message_of}
use Rattle.ecma_sentences.specs.Note.{note_of}
use Rattle.swc_ecma_parser_common.specs.declared.span.Span.{Span}
use Rattle.swc_ecma_parser_error.specs.declared.error.Error.{Error}
use Rattle.swc_ecma_parser_error.specs.Kind.{kind_of, name_of}

-- a line and a column, both from 1
unfoldable pub spot_fields : (line column : List ℕ) → Spot → Option Fields → Option Fields
spot_fields line column p rest = field line (count p.line) (field column (count (p.column + 1)) rest)

-- if lines are known
unfoldable pub place_fields : Placed → (line column : List ℕ) → ℕ → Option Fields → Option Fields
place_fields p line column n rest = cond p.has_locations (spot_fields line column (spot_at p.text n) rest) rest

unfoldable pub offset_fields : Placed → (low high : ℕ) → Option Fields → Option Fields
offset_fields p low high rest =
    field (codes "byteStart") (count low) (field (codes "byteEnd") (count high)
    (field (codes "start") (count (offset p.text low)) (field (codes "end") (count (offset p.text high)) rest)))

unfoldable pub span_fields : Placed → Span → Option Fields → Option Fields
span_fields p s rest =
    offset_fields p s.lo.0 s.hi.0 (place_fields p (codes "line") (codes "column") s.lo.0 (place_fields p (codes "endLine") (codes "endColumn") s.hi.0 rest))

-- the other place that a fault speaks of
unfoldable pub note_field : Placed → Option (Span × List ℕ) → Option Fields → Option Fields
note_field p None rest = rest
note_field p (Some note) rest = field (codes "note") (object (field (codes "message") (text note.1) (span_fields p note.0 done))) rest

-- a fault by what is said of it
unfoldable pub line : Placed → (file severity kind message : List ℕ) → Span → Option (Span × List ℕ) → Option Json
line p file severity kind message s note =
    object (field (codes "file") (text file) (field (codes "severity") (text severity) (field (codes "kind") (text kind) (field (codes "message") (text message)
    (span_fields p s (note_field p note done))))))

unfoldable pub fault : Placed → (file severity : List ℕ) → Error → Option Json
fault p file severity e = line p file severity (name_of (kind_of e.kind)) (message_of p.text e) e.span (note_of p.text e)
