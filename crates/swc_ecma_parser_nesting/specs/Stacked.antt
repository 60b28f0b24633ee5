-- Entries of a stack that stand in places of an array, the last of them on top.
use Rattle.std.specs.Prelude.{◌≡◌, ◌≤◌, ℕ, zero, suc, Bool, true, false, if◌then◌else◌, List, [], ◌∷◌, get_or, length}
use Rattle.swc_ecma_parser_nesting.specs.declared.stack.Open.{Open}
use Rattle.swc_ecma_parser_nesting.specs.declared.stack.Open.TheVariants as opened

-- the first so many places, from the last to the first
unfoldable pub stacked : List Open → ℕ → List Open
stacked places zero = []
stacked places (suc n) = get_or places n opened.Nothing ∷ stacked places n

-- what stands on top, if anything does
abbrev pub top_of : List Open → Open
top_of [] = opened.Nothing
top_of (o ∷ os) = o

-- what stands below the top
abbrev pub below_top : List Open → List Open
below_top [] = []
below_top (o ∷ os) = os

unfoldable pub is_question : Open → Bool
is_question opened.Question = true
is_question _ = false

-- what is open below each `?` on top
unfoldable pub past_questions : List Open → List Open
past_questions [] = []
past_questions (o ∷ os) = if is_question o then past_questions os else o ∷ os

-- as many entries as there are places, at most
pub record IsRoom (places : List Open) (count : ℕ) : Type 0 where
  pub is_room : length places ≡ 4097
  pub fits : count ≤ 4097
