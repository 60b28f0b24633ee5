-- What stands behind `@` takes a token, and so does a decorator; a list of them may be empty, also one that is read before it is known
-- whose it is.
use Rattle.std.proofs.Common.{List, length, arith}
use Rattle.swc_ecma_parser_common.specs.declared.span.Span.{Span}
use Rattle.swc_ecma_parser_error.specs.Kind as faults
use Rattle.swc_ecma_parser_token.specs.declared.kind.TokenKind.TheVariants as kind
use Rattle.swc_ecma_parser_input.specs.Place.{after}
use Rattle.swc_ecma_parser_model.specs.Tree.{Tree}
use Rattle.swc_ecma_parser_grammar.specs.Looks.{sees, span_at}
use Rattle.swc_ecma_parser_grammar.specs.language.Contexts.{with_in}
use Rattle.swc_ecma_parser_grammar.specs.language.Goals.{Class}
use Rattle.swc_ecma_parser_reader.specs.State.{State, Reader, moved, coded, within, expect, name}
use Rattle.swc_ecma_parser_reader.specs.Expressions.{Cover, accessed, called}
use Rattle.swc_ecma_parser_reader.specs.Decorators.{chain_turn, chain_from, chain, behind_group, group, decorated, decorator, decorators_turn, decorators, Leading, found_before, leading, has_any, misplaced}
use Rattle.swc_ecma_parser_reader.proofs.Takes.{Falls, falls_then, falls_last, falls_coded, falls_if, less, falls_next, falls_moved, name_falls, fault_falls, expect_falls, loop_falls}
use Rattle.swc_ecma_parser_reader.proofs.expressions.Falls.{no_end, falls_when, accessed_falls, called_falls}

module _ (inner : Class → Reader Tree) (below : (class : Class) (s : State) → Falls 1 (length s.at.left) (inner class s))
    (cover : Reader Cover) (below_cover : (s : State) → Falls 1 (length s.at.left) (cover s)) where
  behind_group_falls : (start : Span) (x : Tree) (s : State) → Falls 0 (length s.at.left) (behind_group inner cover start x s)
  unfolding behind_group
  behind_group_falls start x s = falls_when 0 (length s.at.left) (sees kind.LParen s.at) _ _
      (λ e. less (length s.at.left) (called inner cover start x s) (called_falls inner cover below below_cover start x s (no_end s kind.LParen (λ z. cc) e))) (λ _. omega arith)

  chain_turn_falls : (start : Span) (x : Tree) (s : State) → Falls 0 (length s.at.left) (chain_turn inner cover start x s)
  unfolding chain_turn
  chain_turn_falls start x s = falls_if 0 (length s.at.left) (sees kind.Dot s.at) _ _
      (falls_last 0 (length s.at.left) (accessed inner cover start x s) _ (less (length s.at.left) (accessed inner cover start x s) (accessed_falls inner cover below below_cover start x s)))
      (falls_when 0 (length s.at.left) (sees kind.LParen s.at) _ _
      (λ e. falls_last 0 (length s.at.left) (called inner cover start x s) _
      (less (length s.at.left) (called inner cover start x s) (called_falls inner cover below below_cover start x s (no_end s kind.LParen (λ z. cc) e)))) (λ _. omega arith))

  chain_falls : (s : State) → Falls 1 (length s.at.left) (chain inner cover s)
  unfolding chain chain_from
  chain_falls s = falls_next (length s.at.left) (name faults.ExpectedIdent s) _ (name_falls faults.ExpectedIdent s)
      (λ i t. loop_falls (chain_turn inner cover (span_at s.at)) (chain_turn_falls (span_at s.at)) _ t)

  module _ (whole : Reader Tree) (below_whole : (s : State) → Falls 1 (length s.at.left) (whole s)) where
    group_falls : (s : State) → Falls 1 (length s.at.left) (group inner cover whole s)
    unfolding group
    group_falls s = let t = moved s in falls_moved 1 s _ (falls_next (length t.at.left) (within with_in whole t) _
        (falls_coded 1 (length t.at.left) (whole (coded (with_in t.code) t)) _ _ (below_whole (coded (with_in t.code) t))) (λ e u.
        falls_then 0 0 (length u.at.left) (expect kind.RParen u) _ (expect_falls kind.RParen u) (λ _ v. behind_group_falls (span_at (after s.at)) e v)))

    pub decorated_falls : (s : State) → Falls 1 (length s.at.left) (decorated inner cover whole s)
    unfolding decorated
    decorated_falls s = falls_if 1 (length s.at.left) (sees kind.LParen s.at) _ _ (group_falls s) (chain_falls s)

module _ (further : Reader Tree) (below : (s : State) → Falls 1 (length s.at.left) (further s)) where
  pub decorator_falls : (s : State) → Falls 1 (length s.at.left) (decorator further s)
  unfolding decorator
  decorator_falls s = falls_moved 1 s _ (falls_last 1 (length (after s.at).left) (further (moved s)) _ (below (moved s)))

  decorators_turn_falls : (found : List Tree) (s : State) → Falls 0 (length s.at.left) (decorators_turn further found s)
  unfolding decorators_turn
  decorators_turn_falls found s = falls_if 0 (length s.at.left) (sees kind.At s.at) _ _
      (falls_last 0 (length s.at.left) (decorator further s) _ (less (length s.at.left) (decorator further s) (decorator_falls s))) (omega arith)

  pub decorators_fall : (s : State) → Falls 0 (length s.at.left) (decorators further s)
  unfolding decorators
  decorators_fall s = falls_if 0 (length s.at.left) s.code.setting.decorators _ _ (loop_falls (decorators_turn further) decorators_turn_falls _ s) (omega arith)

  pub leading_falls : (s : State) → Falls 0 (length s.at.left) (leading further s)
  unfolding leading
  leading_falls s = falls_last 0 (length s.at.left) (decorators further s) _ (decorators_fall s)

pub misplaced_falls : (v : Leading) (s : State) → Falls 0 (length s.at.left) (misplaced v s)
unfolding misplaced
misplaced_falls v s = falls_if 0 (length s.at.left) (has_any v.found) _ _ (fault_falls _ (found_before v s)) (omega arith)
