-- Spaces and line breaks that are ASCII: a place behind some of them.
use Rattle.std.specs.Prelude.{◌≡◌, ℕ, ◌≤◌, Bool, ◌==◌, ◌||◌, length}
use Rattle.swc_ecma_parser_lexer.specs.declared.place.Place.{Place}
use Rattle.swc_ecma_parser_lexer.specs.Collected.{comments_at}
use Rattle.swc_ecma_parser_lexer.specs.Tokens.{AreAlike, Fits, IsBehind}

unfoldable pub is_blank : ℕ → Bool
is_blank b = (b == 32) || (b == 10) || (b == 9) || (b == 13)

unfoldable pub is_break : ℕ → Bool
is_break b = (b == 10) || (b == 13)

-- a place, and one behind blanks that stand there: the same tokens and comments follow
pub record IsBehindBlanks (p : Place) (q : Place) : Type 0 where
  pub start : q.start ≡ p.start
  pub alike : AreAlike p q
  pub behind : IsBehind p q
  pub comments : comments_at p ≡ comments_at q
  pub fits : Fits q
  pub shorter : length q.rest.now ≤ length p.rest.now
