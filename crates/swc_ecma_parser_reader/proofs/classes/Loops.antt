-- Members one behind another, unfolded.
use Rattle.std.proofs.Common.{◌≡◌, ℕ, ◌+◌, ◌≤◌, true, false, List, length, Ok, refl, subst, arith}
use Rattle.swc_ecma_parser_error.specs.Kind.{Fault}
use Rattle.swc_ecma_parser_model.specs.Tree.{Tree}
use Rattle.swc_ecma_parser_grammar.specs.Own.{second_constructor}
use Rattle.swc_ecma_parser_grammar.specs.language.Goals.{left_side}
use Rattle.swc_ecma_parser_reader.specs.State.{State, loop}
use Rattle.swc_ecma_parser_reader.specs.Jumps.{told}
use Rattle.swc_ecma_parser_reader.specs.Members.{Members, with_member, members_turn}
use Rattle.swc_ecma_parser_reader.specs.Reader.{closes, expr, member}
use Rattle.swc_ecma_parser_reader.proofs.Falls.{member_falls}
use Rattle.swc_ecma_parser_reader.proofs.Steps.{loop_more, loop_done}
use Rattle.swc_ecma_parser_reader.proofs.Takes.{Falls}
use Rattle.swc_ecma_parser_reader.proofs.expressions.Falls.{told_falls}
use Rattle.swc_ecma_parser_reader.proofs.expressions.Loops.{shorter_by}

-- what is told leaves no more tokens
pub told_leaves : (fs : List Fault) (t u : State) → told fs t ≡ Ok (tt, u) → length u.at.left ≤ length t.at.left
told_leaves fs t u e = let f : length u.at.left + 0 ≤ length t.at.left = subst (Falls 0 (length t.at.left)) e (told_falls fs t) in omega arith

module _ (n : ℕ) (l : Members) (s : State) where
  pub members_done : closes s.at ≡ true → loop (members_turn (expr n left_side) (member n)) l s ≡ Ok (l.found, s)
  unfolding members_turn
  members_done h = loop_done (members_turn (expr n left_side) (member n)) l l.found s s (rw h refl)

  pub members_more : (x : Tree) (t u : State) → closes s.at ≡ false → member n s ≡ Ok (x, t) → told (second_constructor l.constructed x) t ≡ Ok (tt, u)
      → loop (members_turn (expr n left_side) (member n)) l s ≡ loop (members_turn (expr n left_side) (member n)) (with_member l x) u
  unfolding members_turn
  members_more x t u h e g =
      let a = shorter_by (length s.at.left) (member n s) x t e (member_falls n s) in
      let b = told_leaves (second_constructor l.constructed x) t u g in
      loop_more (members_turn (expr n left_side) (member n)) l (with_member l x) s u (rw (h, e, g) refl) (omega arith)
