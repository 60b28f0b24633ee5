-- `try` takes a token at least.
use Rattle.swc_ecma_parser_reader.specs.State.{State, Reader, moved, within, expect}
use Rattle.swc_ecma_parser_reader.specs.Reader.{braced, is_handled, handled, bound, parameter, finalizer, caught, handler, try_stmt}
use Rattle.swc_ecma_parser_grammar.specs.language.Contexts.{with_in}
use Rattle.std.proofs.Common.{◌≢◌, false, length, arith}
use Rattle.swc_ecma_parser_token.specs.declared.kind.TokenKind.TheVariants as kind
use Rattle.swc_ecma_parser_input.specs.Place.{Place, after}
use Rattle.swc_ecma_parser_model.specs.Tree.{Tree}
use Rattle.swc_ecma_parser_grammar.specs.Looks.{kind_at, sees}
use Rattle.swc_ecma_parser_reader.proofs.Takes.{Falls, falls_then, falls_last, falls_if, less, falls_past, falls_moved, fault_falls, expect_falls}
use Rattle.swc_ecma_parser_reader.proofs.FallsHeads.{whole_falls}
use Rattle.swc_ecma_parser_reader.proofs.FallsBlocks.{braced_falls}

handled_falls : (behind : Place) (s : State) → Falls 0 (length s.at.left) (handled behind s)
unfolding handled
handled_falls behind s = falls_if 0 (length s.at.left) (is_handled behind) _ _ (omega arith) (fault_falls _ s)

module _ (inner : Reader Tree) (h : (s : State) → Falls 1 (length s.at.left) (inner s)) (inner_pat : Reader Tree) (g : (s : State) → Falls 1 (length s.at.left) (inner_pat s)) where
  parameter_falls : (s : State) → Falls 0 (length s.at.left) (parameter inner_pat s)
  unfolding parameter bound
  parameter_falls s = falls_if 0 (length s.at.left) (sees kind.LParen s.at) _ _
      (falls_moved 0 s _ (falls_then 0 0 (length (after s.at).left) (within with_in inner_pat (moved s)) _
      (less (length (after s.at).left) (within with_in inner_pat (moved s)) (whole_falls inner_pat g (moved s))) (λ p t.
      falls_last 0 (length t.at.left) (expect kind.RParen t) _ (expect_falls kind.RParen t)))) (omega arith)

  caught_falls : (start : Place) (s : State) → Falls 0 (length s.at.left) (caught inner inner_pat start s)
  unfolding caught
  caught_falls start s = falls_then 0 0 (length s.at.left) (parameter inner_pat s) _ (parameter_falls s) (λ p t.
      falls_last 0 (length t.at.left) (braced inner false t) _ (braced_falls inner h false t))

  handler_falls : (s : State) → Falls 0 (length s.at.left) (handler inner inner_pat s)
  unfolding handler
  handler_falls s = falls_if 0 (length s.at.left) (sees kind.Catch s.at) _ _ (falls_moved 0 s _ (caught_falls s.at (moved s))) (omega arith)

  finalizer_falls : (s : State) → Falls 0 (length s.at.left) (finalizer inner s)
  unfolding finalizer
  finalizer_falls s = falls_if 0 (length s.at.left) (sees kind.Finally s.at) _ _ (falls_moved 0 s _ (braced_falls inner h false (moved s))) (omega arith)

  pub try_falls : (s : State) → kind_at s.at ≢ kind.End → Falls 1 (length s.at.left) (try_stmt inner inner_pat s)
  unfolding try_stmt
  try_falls s e = falls_past s _ e (falls_then 0 0 (length (after s.at).left) (braced inner false (moved s)) _ (braced_falls inner h false (moved s)) (λ y t.
      falls_then 0 0 (length t.at.left) (handler inner inner_pat t) _ (handler_falls t) (λ z u.
      falls_then 0 0 (length u.at.left) (finalizer inner u) _ (finalizer_falls u) (λ w v.
      falls_last 0 (length v.at.left) (handled t.at v) _ (handled_falls t.at v)))))
