-- The expression behind the word of a statement takes a token at least, in parentheses and without them.
use Rattle.swc_ecma_parser_reader.specs.State.{State, Reader, coded, within, expect}
use Rattle.swc_ecma_parser_reader.specs.Reader.{head}
use Rattle.swc_ecma_parser_grammar.specs.language.Contexts.{with_in}
use Rattle.std.proofs.Common.{length}
use Rattle.swc_ecma_parser_token.specs.declared.kind.TokenKind.TheVariants as kind
use Rattle.swc_ecma_parser_model.specs.Tree.{Tree}
use Rattle.swc_ecma_parser_reader.proofs.Takes.{Falls, falls_then, falls_last, falls_coded, less, expect_falls}

module _ (inner : Reader Tree) (h : (s : State) → Falls 1 (length s.at.left) (inner s)) where
  -- the expression of a statement
  pub whole_falls : (s : State) → Falls 1 (length s.at.left) (within with_in inner s)
  whole_falls s = falls_coded 1 (length s.at.left) (inner (coded (with_in s.code) s)) _ _ (h (coded (with_in s.code) s))

module _ (inner : Reader Tree) (h : (s : State) → Falls 1 (length s.at.left) (inner s)) where
  pub head_falls : (s : State) → Falls 0 (length s.at.left) (head inner s)
  unfolding head
  head_falls s = falls_then 0 0 (length s.at.left) (expect kind.LParen s) _ (expect_falls kind.LParen s) (λ _ t.
      falls_then 0 0 (length t.at.left) (within with_in inner t) _ (less (length t.at.left) (within with_in inner t) (whole_falls inner h t)) (λ x u.
      falls_last 0 (length u.at.left) (expect kind.RParen u) _ (expect_falls kind.RParen u)))
