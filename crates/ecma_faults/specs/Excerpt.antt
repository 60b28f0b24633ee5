-- The line of a place, and carets under the place. A long line is cut around it. Offsets are in bytes.
use Rattle.std.specs.Prelude.{ℕ, zero, suc, List, [], ◌∷◌, ◌++◌, ◌+◌, ◌-◌, ◌==◌, ◌&&◌, ◌||◌, Bool, true, false, cond, if◌then◌else◌, min, max, nat_lt, length, replicate, codes, chars}
use Rattle.ecma_estree_text.specs.Places.{Placed}
use Rattle.ecma_estree_text.specs.Spots.{spot_at}
use Rattle.ecma_estree_text.specs.declared.spot.Spot.{Spot}
use Rattle.ecma_faults.specs.Shown.{columns, shown_bytes, shown_text, blank_text}
use Rattle.ecma_outline.specs.Piece.{byte_at, is_boundary, piece}

-- a text that begins with the three bytes of a byte order mark, U+FEFF
abbrev pub has_mark : List ℕ → Bool
has_mark text = byte_at text 0 == 239 && byte_at text 1 == 187 && byte_at text 2 == 191

-- the column of a place, in which that mark is not counted
abbrev pub column_in : List ℕ → Spot → ℕ
column_in text s = if s.line == 1 && has_mark text then s.column - 1 else s.column

-- the column of an offset, from 0, in code units of UTF-16; 0 where no columns are known
abbrev pub column_of : Placed → ℕ → ℕ
column_of p n = cond p.has_locations (column_in p.text (spot_at p.text n)) 0

-- a character that ends a line: ECMA-262, "Line Terminators" (section 12.3)
abbrev pub is_line_end : ℕ → Bool
is_line_end c = c == 10 || c == 13 || c == 0x2028 || c == 0x2029

-- The room that a character takes away: its columns, 8 for a tab, and at least 1, so that there is none for many without a width.
abbrev pub cost : ℕ → ℕ
cost c = if c == 9 then 8 else max 1 (columns c)

-- the room that is left behind characters
abbrev pub room_left : (room : ℕ) → List ℕ → ℕ
room_left room [] = room
room_left room (c ∷ cs) = room_left (room - cost c) cs

-- Where the part of the line begins that is shown: the last offset up to one at the start of the line, or from which all but 2 of 40 columns are
-- taken. `edge` is the start of the character before, and `left` is the room that is left there.
abbrev pub left_of : Placed → (edge left : ℕ) → ℕ → ℕ
left_of p edge left n = room_left left (chars (piece p.text n edge))

abbrev pub is_far : Placed → (left : ℕ) → ℕ → Bool
is_far p left n = column_of p n == 0 || nat_lt left 3

unfoldable pub back : Placed → (edge left : ℕ) → ℕ → ℕ
back p edge left zero = 0
back p edge left (suc n) =
    if is_boundary p.text (suc n)
    then (if is_far p (left_of p edge left (suc n)) (suc n) then suc n else back p (suc n) (left_of p edge left (suc n)) n)
    else back p edge left n

abbrev pub start_of : Placed → ℕ → ℕ
start_of p low = back p low 40 low

-- how many columns are left for what stands from the place on
abbrev pub room_of : Placed → (from low : ℕ) → ℕ
room_of p from low = room_left 74 (chars (piece p.text from low))

-- what is shown of characters: those of the line, as far as there is room
abbrev pub line_rest : (room : ℕ) → List ℕ → List ℕ
line_rest room [] = []
line_rest room (c ∷ cs) =
    if is_line_end c then []
    else if nat_lt room (cost c) then codes "..."
    else shown_bytes 9 c ++ line_rest (room - cost c) cs

-- how many columns those take
abbrev pub rest_columns : (room : ℕ) → List ℕ → ℕ
rest_columns room [] = 0
rest_columns room (c ∷ cs) =
    if is_line_end c then 0
    else if nat_lt room (cost c) then 0
    else columns c + rest_columns (room - cost c) cs

-- dots, or blanks under them, where the line does not begin with what is shown
abbrev pub dots : Placed → ℕ → List ℕ → List ℕ
dots p from bytes = if column_of p from == 0 then [] else bytes

-- the line, from an offset on
abbrev pub line_text : Placed → (from room low : ℕ) → List ℕ
line_text p from room low =
    dots p from (codes "...") ++ (shown_text 9 (piece p.text from low)
    ++ (line_rest room (chars (piece p.text low (length p.text))) ++ 10 ∷ []))

-- the carets: one at least
abbrev pub caret_text : Placed → (from room low high : ℕ) → List ℕ
caret_text p from room low high =
    dots p from (codes "   ") ++ (blank_text (piece p.text from low)
    ++ (replicate (max 1 (rest_columns room (chars (piece p.text low high)))) 94 ++ 10 ∷ []))

abbrev both_text : Placed → (from low high : ℕ) → List ℕ
both_text p from low high = line_text p from (room_of p from low) low ++ caret_text p from (room_of p from low) low high

-- both, of a place between two offsets
unfoldable pub excerpt_text : Placed → (low high : ℕ) → List ℕ
excerpt_text p low high = both_text p (start_of p (min low (length p.text))) (min low (length p.text)) high
