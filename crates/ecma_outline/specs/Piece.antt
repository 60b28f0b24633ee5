-- Parts of a text. Offsets are in bytes.
use Rattle.std.specs.Prelude.{ℕ, List, [], ◌&&◌, ◌||◌, Bool, if◌then◌else◌, nat_le, nat_lt, length, slice_index, slice_range}

-- a byte of a text; 0 where there is none
abbrev pub byte_at : List ℕ → ℕ → ℕ
byte_at text n = if nat_lt n (length text) then slice_index text n else 0

-- no character of UTF-8 has its middle there
abbrev pub is_boundary : List ℕ → ℕ → Bool
is_boundary text n = nat_le n (length text) && (nat_lt (slice_index text n) 128 || nat_le 192 (slice_index text n))

-- a part of a text; nothing where it is cut in the midst of a character
unfoldable pub piece : List ℕ → (from to : ℕ) → List ℕ
piece text from to = if nat_le from to && is_boundary text from && is_boundary text to then slice_range text from to else []
