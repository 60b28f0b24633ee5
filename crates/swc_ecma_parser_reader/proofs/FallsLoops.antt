-- `while` and `do` take a token at least, and so does the body of every loop.
use Rattle.swc_ecma_parser_reader.specs.State.{State, Reader, moved, coded, within, expect}
use Rattle.swc_ecma_parser_reader.specs.Reader.{optional_end, head, while_stmt, do_while}
use Rattle.swc_ecma_parser_grammar.specs.language.Contexts.{in_loop}
use Rattle.std.proofs.Common.{◌≢◌, length}
use Rattle.swc_ecma_parser_token.specs.declared.kind.TokenKind.TheVariants as kind
use Rattle.swc_ecma_parser_input.specs.Place.{after}
use Rattle.swc_ecma_parser_model.specs.Tree.{Tree}
use Rattle.swc_ecma_parser_grammar.specs.Looks.{kind_at}
use Rattle.swc_ecma_parser_reader.proofs.Takes.{Falls, falls_then, falls_last, falls_coded, less, falls_past, expect_falls, optional_end_falls}
use Rattle.swc_ecma_parser_reader.proofs.FallsHeads.{head_falls}

module _ (inner : Reader Tree) (h : (s : State) → Falls 1 (length s.at.left) (inner s)) (inner_expr : Reader Tree) (g : (s : State) → Falls 1 (length s.at.left) (inner_expr s)) where
  -- the body of a loop
  pub looped_falls : (s : State) → Falls 0 (length s.at.left) (within in_loop inner s)
  looped_falls s = falls_coded 0 (length s.at.left) (inner (coded (in_loop s.code) s)) _ _ (less (length s.at.left) (inner (coded (in_loop s.code) s)) (h (coded (in_loop s.code) s)))

  pub while_falls : (s : State) → kind_at s.at ≢ kind.End → Falls 1 (length s.at.left) (while_stmt inner inner_expr s)
  unfolding while_stmt
  while_falls s e = falls_past s _ e (falls_then 0 0 (length (after s.at).left) (head inner_expr (moved s)) _ (head_falls inner_expr g (moved s)) (λ x t.
      falls_last 0 (length t.at.left) (within in_loop inner t) _ (looped_falls t)))

  pub do_while_falls : (s : State) → kind_at s.at ≢ kind.End → Falls 1 (length s.at.left) (do_while inner inner_expr s)
  unfolding do_while
  do_while_falls s e = falls_past s _ e (falls_then 0 0 (length (after s.at).left) (within in_loop inner (moved s)) _ (looped_falls (moved s)) (λ x t.
      falls_then 0 0 (length t.at.left) (expect kind.While t) _ (expect_falls kind.While t) (λ _ u.
      falls_then 0 0 (length u.at.left) (head inner_expr u) _ (head_falls inner_expr g u) (λ y v.
      falls_last 0 (length v.at.left) (optional_end v) _ (optional_end_falls v)))))
