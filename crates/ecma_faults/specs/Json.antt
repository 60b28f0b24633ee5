-- A fault as JSON: one object in a line of its own. Lines and columns are counted from 1.
use Rattle.std.specs.Prelude.{ℕ, List, [], ◌∷◌, ◌++◌, ◌+◌, cond, codes, decimal, Option, Some, None}
use Rattle.swc_ecma_parser_common.specs.declared.span.Span.{Span}
use Rattle.swc_ecma_parser_error.specs.declared.error.Error.{Error}
use Rattle.swc_ecma_parser_error.specs.Kind.{kind_of, name_of}
use Rattle.ecma_estree_text.specs.Places.{Placed, offset}
use Rattle.ecma_estree_text.specs.Quoted.{quoted}
use Rattle.ecma_estree_text.specs.Spots.{spot_at}
use Rattle.ecma_estree_text.specs.declared.spot.Spot.{Spot}
use Rattle.ecma_sentences.specs.Message.{message_of}
use Rattle.ecma_sentences.specs.Note.{note_of}

-- how a further field begins
unfoldable pub key : List ℕ → List ℕ
key name = codes ",\"" ++ (name ++ codes "\":")

unfoldable pub number : List ℕ → ℕ → List ℕ
number name n = key name ++ decimal n

unfoldable pub string : List ℕ → List ℕ → List ℕ
string name text = key name ++ quoted text

abbrev pub spot_json : (line column : List ℕ) → Spot → List ℕ
spot_json line column s = number line s.line ++ number column (s.column + 1)

-- a line and a column, if lines are known
abbrev pub place_json : Placed → (line column : List ℕ) → ℕ → List ℕ
place_json p line column n = cond p.has_locations (spot_json line column (spot_at p.text n)) []

-- two offsets in bytes, and in code units of UTF-16
unfoldable pub offsets_json : Placed → (low high : ℕ) → List ℕ
offsets_json p low high =
    number (codes "byteStart") low ++ (number (codes "byteEnd") high
    ++ (number (codes "start") (offset p.text low) ++ number (codes "end") (offset p.text high)))

-- the fields that tell a place: offsets, lines and columns
unfoldable pub span_json : Placed → Span → List ℕ
span_json p span =
    offsets_json p span.lo.0 span.hi.0
    ++ (place_json p (codes "line") (codes "column") span.lo.0 ++ place_json p (codes "endLine") (codes "endColumn") span.hi.0)

-- how an object begins with a text
unfoldable pub first : List ℕ → List ℕ → List ℕ
first name text = 123 ∷ (quoted name ++ (58 ∷ quoted text))

abbrev pub note_json : Placed → Option (Span × List ℕ) → List ℕ
note_json p None = []
note_json p (Some note) = key (codes "note") ++ (first (codes "message") note.1 ++ (span_json p note.0 ++ codes "}"))

-- what a fault of a text says
unfoldable pub head_json : (text file word : List ℕ) → Error → List ℕ
head_json text file word e =
    first (codes "file") file ++ (string (codes "severity") word
    ++ (string (codes "kind") (name_of (kind_of e.kind)) ++ string (codes "message") (message_of text e)))

-- a fault of a file, with the other place that it speaks of
unfoldable pub fault_json : Placed → (file word : List ℕ) → Error → List ℕ
fault_json p file word e = head_json p.text file word e ++ (span_json p e.span ++ (note_json p (note_of p.text e) ++ codes "}\n"))
