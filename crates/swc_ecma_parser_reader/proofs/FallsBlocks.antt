-- Statements one behind another take no token too many; a block takes its braces.
use Rattle.swc_ecma_parser_reader.specs.State.{State, Reader, moved, expect}
use Rattle.swc_ecma_parser_reader.specs.Reader.{closes, close, items_turn, items, block_from, block, braced}
use Rattle.std.proofs.Common.{◌≢◌, Bool, false, List, [], length, arith}
use Rattle.swc_ecma_parser_token.specs.declared.kind.TokenKind.TheVariants as kind
use Rattle.swc_ecma_parser_input.specs.Place.{Place}
use Rattle.swc_ecma_parser_model.specs.Tree.{Tree}
use Rattle.swc_ecma_parser_grammar.specs.Looks.{kind_at}
use Rattle.swc_ecma_parser_reader.proofs.Takes.{Falls, falls_then, falls_last, falls_coded, falls_if, less, falls_next, falls_past, close_falls, expect_falls, loop_falls}
use Rattle.swc_ecma_parser_reader.proofs.expressions.Falls.{expect_takes}

module _ (inner : Reader Tree) (h : (s : State) → Falls 1 (length s.at.left) (inner s)) where
  items_turn_falls : (stops : Place → Bool) (directives : Bool) (found : List Tree) (s : State) → Falls 0 (length s.at.left) (items_turn inner stops directives found s)
  unfolding items_turn
  items_turn_falls stops directives found s = falls_if 0 (length s.at.left) (stops s.at) _ _ (omega arith)
      (falls_coded 0 (length s.at.left) (inner s) _ _ (less (length s.at.left) (inner s) (h s)))

  pub items_fall : (stops : Place → Bool) (directives : Bool) (s : State) → Falls 0 (length s.at.left) (items inner stops directives s)
  unfolding items
  items_fall stops directives s = loop_falls (items_turn inner stops directives) (items_turn_falls stops directives) [] s

  block_from_falls : (directives : Bool) (start : Place) (s : State) → Falls 0 (length s.at.left) (block_from inner directives start s)
  unfolding block_from
  block_from_falls directives start s = falls_then 0 0 (length s.at.left) (items inner closes directives s) _ (items_fall closes directives s) (λ body u.
      falls_last 0 (length u.at.left) (close u) _ (close_falls u))

  pub block_falls : (s : State) → kind_at s.at ≢ kind.End → Falls 1 (length s.at.left) (block inner s)
  unfolding block
  block_falls s e = falls_past s _ e (block_from_falls false s.at (moved s))

  pub braced_falls : (directives : Bool) (s : State) → Falls 0 (length s.at.left) (braced inner directives s)
  unfolding braced
  braced_falls directives s = falls_then 0 0 (length s.at.left) (expect kind.LBrace s) _ (expect_falls kind.LBrace s) (λ _ t. block_from_falls directives s.at t)

  -- `{` is taken
  pub braced_takes : (directives : Bool) (s : State) → Falls 1 (length s.at.left) (braced inner directives s)
  unfolding braced
  braced_takes directives s = falls_next (length s.at.left) (expect kind.LBrace s) _ (expect_takes kind.LBrace (λ z. cc) s) (λ _ t. block_from_falls directives s.at t)
