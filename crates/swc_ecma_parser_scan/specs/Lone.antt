-- Marks that are a piece of one character, and strings.
use Rattle.std.specs.Str.{chars, IsUtf8}
use Rattle.std.specs.Prelude.{◌≡◌, ℕ, ◌<◌, Bool, List, [], ◌∷◌}
use Rattle.swc_ecma_parser_scan.specs.declared.state.State.{State}
use Rattle.swc_ecma_parser_scan.specs.declared.state.State.TheVariants as state
use Rattle.swc_ecma_parser_scan.specs.declared.state.Mark.{Mark}
use Rattle.swc_ecma_parser_scan.specs.declared.piece.Munched.{Munched}
use Rattle.swc_ecma_parser_scan.specs.Scan.{scan}

-- c, with cs behind it, is a piece of its own
abbrev pub IsAt : ℕ → List ℕ → State → Type 0
IsAt c cs s = (is_first : Bool) → scan is_first c cs ≡ record { taken = []; left = cs; state = s }

-- the same, whatever stands behind c
abbrev pub IsLone : ℕ → Mark → Type 0
IsLone c m = (is_first : Bool) (cs : List ℕ) → scan is_first c cs ≡ record { taken = []; left = cs; state = state.Mark m }

-- the same, where a character of ASCII stands behind c
pub record IsBefore (c : ℕ) (next : ℕ) (s : State) : Type 0 where
  pub ascii : next < 128
  pub alone : (cs : List ℕ) → IsAt c (next ∷ cs) s

-- how far the piece goes that c begins, with cs behind c
pub record IsWhole (c : ℕ) (cs : List ℕ) (m : Munched) : Type 0 where
  pub state : (is_first : Bool) → m.state ≡ (scan is_first c cs).state
  pub rest : (is_first : Bool) → chars m.rest.now ≡ (scan is_first c cs).left
  pub utf8 : IsUtf8 m.rest.now
