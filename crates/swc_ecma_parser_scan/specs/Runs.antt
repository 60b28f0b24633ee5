-- Bytes that leave a piece as it is.
use Rattle.std.specs.Prelude.{ℕ, Bool, not, ◌==◌, ◌||◌, if◌then◌else◌, bit_and, slice_index}
use Rattle.swc_ecma_parser_scan.specs.declared.run.TheConstants.{CLASSES}
use Rattle.swc_ecma_parser_scan.specs.declared.state.State.{State}
use Rattle.swc_ecma_parser_scan.specs.declared.state.State.TheVariants as state

-- the class of the bytes that leave a state as it is: 1 for names, 2 for strings, 4 for comments of a line, 8 for block
-- comments, and 0 for none
unfoldable pub class_of : State → ℕ
class_of state.Name = 1
class_of (state.Str quote) = if (quote == 39) || (quote == 34) then 2 else 0
class_of state.LineComment = 4
class_of state.Shebang = 4
class_of (state.BlockComment breaks) = 8
class_of _ = 0

-- a byte is of a class
unfoldable pub is_of : ℕ → ℕ → Bool
is_of class b = not (bit_and (slice_index CLASSES b) class == 0)
