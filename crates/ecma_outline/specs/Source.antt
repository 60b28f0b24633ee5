-- Tokens and brackets of a text by their numbers.
use Rattle.std.specs.Prelude.{ℕ, List, [], ◌+◌, ◌-◌, ◌==◌, ◌||◌, nat_le, nat_lt, if◌then◌else◌, min, length}
use Rattle.ecma_outline.specs.Outline.{Outlined, count_at, lexeme_at, no_lexeme, open_at, outlined}
use Rattle.ecma_outline.specs.Piece.{piece}
use Rattle.ecma_outline.specs.declared.outline.Lexeme.{Lexeme}
use Rattle.ecma_outline.specs.declared.outline.Open.{Open}

-- which token stands at an offset in bytes, or behind it
abbrev pub index : Outlined → List ℕ → ℕ → ℕ
index o text place = count_at o.counts (min place (length text))

abbrev pub lexeme : Outlined → ℕ → Lexeme
lexeme o n = lexeme_at o.lexemes n

abbrev pub lexeme_before : Outlined → (n by : ℕ) → Lexeme
lexeme_before o n by = if nat_le by n then lexeme o (n - by) else no_lexeme

abbrev pub lexeme_behind : Outlined → ℕ → Lexeme
lexeme_behind o n = if nat_lt n (length o.lexemes) then lexeme o (n + 1) else no_lexeme

abbrev pub bracket_at : Outlined → ℕ → Open
bracket_at o n = open_at o.opens n

abbrev pub spelled : List ℕ → Lexeme → List ℕ
spelled text it = piece text it.start it.end

abbrev pub bracket : List ℕ → ℕ → List ℕ
bracket text n = if n == 0 || nat_le (length text) (bracket_at (outlined text) n).at then [] else piece text (bracket_at (outlined text) n).at ((bracket_at (outlined text) n).at + 1)
