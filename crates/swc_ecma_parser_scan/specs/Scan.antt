-- The first piece of a text, by its characters.
use Rattle.std.specs.Prelude.{◌≡◌, ℕ, Bool, List, [], ◌∷◌, ◌++◌, Some, None}
use Rattle.std.specs.Str.{chars, IsUtf8}
use Rattle.swc_ecma_parser_scan.specs.declared.state.State.{State}
use Rattle.swc_ecma_parser_scan.specs.declared.state.State.TheVariants as state
use Rattle.swc_ecma_parser_scan.specs.declared.state.Mark.{Mark}
use Rattle.swc_ecma_parser_scan.specs.declared.state.Mark.TheVariants as mark
use Rattle.swc_ecma_parser_scan.specs.declared.piece.Piece.{Piece}
use Rattle.swc_ecma_parser_scan.specs.Step.{begin, step}

-- what is read: the characters of a piece behind its first one, and those behind the piece
pub record Munched : Type 0 where
  pub taken : List ℕ
  pub left : List ℕ
  pub state : State

-- reading on, as far as the piece goes
unfoldable pub munch : State → List ℕ → Munched
munch s [] = record { taken = []; left = []; state = s }
munch s (c ∷ cs) =
    elim (step s c) as (λ _. Munched) [
      | None ↦ record { taken = []; left = c ∷ cs; state = s }
      | Some t ↦ let m = munch t cs in record { taken = c ∷ m.taken; left = m.left; state = m.state }
    ]

abbrev pub settled_mark : Mark → List ℕ → Munched → Munched
settled_mark mark.DotDot cs m = record { taken = []; left = cs; state = state.Mark mark.Dot }
settled_mark _ cs m = m

abbrev pub settled_at : State → List ℕ → Munched → Munched
settled_at (state.Mark k) cs m = settled_mark k cs m
settled_at _ cs m = m

-- the second dot of `..` is given back: cs stand behind the first character
unfoldable pub settled : List ℕ → Munched → Munched
settled cs m = settled_at m.state cs m

-- the piece that c begins, with cs behind c
unfoldable pub scan : Bool → ℕ → List ℕ → Munched
scan is_first c cs = settled cs (munch (begin is_first c) cs)

-- a text begins with a piece
pub record IsFirstPiece (is_first : Bool) (text : List ℕ) (piece : Piece) : Type 0 where
  pub first : ℕ
  pub behind : List ℕ
  pub begins : chars text ≡ first ∷ behind
  pub state : piece.state ≡ (scan is_first first behind).state
  pub taken : chars piece.text.now ≡ first ∷ (scan is_first first behind).taken
  pub left : chars piece.rest.now ≡ (scan is_first first behind).left
  pub utf8 : IsUtf8 piece.text.now
  pub rest_utf8 : IsUtf8 piece.rest.now
  pub parts : text ≡ piece.text.now ++ piece.rest.now
