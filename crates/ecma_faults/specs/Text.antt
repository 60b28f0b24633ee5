-- A fault as text: `FILE:LINE:COLUMN: WORD: sentence`, the line, and carets under what is wrong. Lines and columns are counted from 1, and a byte
-- order mark is no column.
use Rattle.std.specs.Prelude.{ℕ, List, [], ◌∷◌, ◌++◌, ◌+◌, cond, codes, decimal, Option, Some, None}
use Rattle.swc_ecma_parser_common.specs.declared.span.Span.{Span}
use Rattle.swc_ecma_parser_error.specs.declared.error.Error.{Error}
use Rattle.ecma_estree_text.specs.Places.{Placed}
use Rattle.ecma_estree_text.specs.Spots.{spot_at}
use Rattle.ecma_estree_text.specs.declared.spot.Spot.{Spot}
use Rattle.ecma_faults.specs.Excerpt.{column_in, excerpt_text}
use Rattle.ecma_sentences.specs.Message.{message_of}
use Rattle.ecma_sentences.specs.Note.{note_of}
use Rattle.ecma_faults.specs.Shown.{name_text}

abbrev pub spot_text : (file text : List ℕ) → Spot → List ℕ
spot_text file text s = name_text file ++ (codes ":" ++ (decimal s.line ++ (codes ":" ++ (decimal (column_in text s + 1) ++ codes ": "))))

-- the place, which stands there if lines are known
abbrev pub place_text : Placed → (file : List ℕ) → ℕ → List ℕ
place_text p file n = cond p.has_locations (spot_text file p.text (spot_at p.text n)) []

-- a place, a word, a sentence, and the line
unfoldable pub told_text : Placed → (file : List ℕ) → Span → (word sentence : List ℕ) → List ℕ
told_text p file span word sentence =
    place_text p file span.lo.0 ++ (word ++ (codes ": " ++ (name_text sentence ++ (codes "\n" ++ excerpt_text p span.lo.0 span.hi.0))))

abbrev pub note_text : Placed → (file : List ℕ) → Option (Span × List ℕ) → List ℕ
note_text p file None = []
note_text p file (Some note) = told_text p file note.0 (codes "note") note.1

-- a fault, and the other place that it speaks of
unfoldable pub fault_text : Placed → (file word : List ℕ) → Error → List ℕ
fault_text p file word e = told_text p file e.span word (message_of p.text e) ++ note_text p file (note_of p.text e)
