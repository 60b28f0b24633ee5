-- Bytes without a quote and without a backslash.
use Rattle.std.specs.Prelude.{ℕ, Bool, true, false, ◌==◌, ◌||◌, if◌then◌else◌, List, [], ◌∷◌}

unfoldable pub is_plain : ℕ → List ℕ → Bool
is_plain quote [] = true
is_plain quote (b ∷ bs) = if (b == quote) || (b == 92) then false else is_plain quote bs
