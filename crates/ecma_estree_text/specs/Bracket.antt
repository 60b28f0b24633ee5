-- Where a bracket stands that is in no comment.
use Rattle.std.specs.Prelude.{ℕ, Bool, true, false, List, [], ◌∷◌, ◌+◌, ◌==◌, ◌&&◌, ◌||◌, if◌then◌else◌, length, min, drop}
use Rattle.ecma_estree_text.specs.declared.bracket.Mode.{Mode}
use Rattle.ecma_estree_text.specs.declared.bracket.Mode.TheVariants as mode

abbrev line_behind : ℕ → Mode
line_behind b = if b == 10 || b == 13 then mode.Code else if b == 226 then mode.LineFirst else mode.Line

-- where one is behind a byte: 47 is a slash and 42 a star
abbrev pub mode_behind : Mode → ℕ → Mode
mode_behind mode.Code b = if b == 47 then mode.Slash else mode.Code
mode_behind mode.Slash b = if b == 47 then mode.Line else if b == 42 then mode.Block else mode.Code
mode_behind mode.Line b = line_behind b
mode_behind mode.LineFirst b = if b == 128 then mode.LineSecond else line_behind b
mode_behind mode.LineSecond b = if b == 168 || b == 169 then mode.Code else line_behind b
mode_behind mode.Block b = if b == 42 then mode.Star else mode.Block
mode_behind mode.Star b = if b == 47 then mode.Code else if b == 42 then mode.Star else mode.Block

abbrev pub is_code : Mode → Bool
is_code mode.Code = true
is_code _ = false

-- how many bytes stand before the first that is `mark` and in no comment
abbrev pub skipped : ℕ → Mode → List ℕ → ℕ
skipped mark m [] = 0
skipped mark m (b ∷ bs) = if is_code m && (b == mark) then 0 else 1 + skipped mark (mode_behind m b) bs

-- its offset, from an offset on; the end of the text, where there is none
unfoldable pub bracket : List ℕ → ℕ → ℕ → ℕ
bracket text mark from = min from (length text) + skipped mark mode.Code (drop (min from (length text)) text)
