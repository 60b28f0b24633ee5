-- What stands behind `async` at the beginning of the head of a loop: ECMA-262, section 14.7.5.
use Rattle.std.specs.Prelude.{ℕ, if◌then◌else◌, Ok}
use Rattle.swc_ecma_parser_common.specs.declared.span.Span.{Span}
use Rattle.swc_ecma_parser_token.specs.declared.kind.TokenKind.TheVariants as kind
use Rattle.swc_ecma_parser_input.specs.Place.{after}
use Rattle.swc_ecma_parser_model.specs.Tree.{Tree}
use Rattle.swc_ecma_parser_grammar.specs.Looks.{sees}
use Rattle.swc_ecma_parser_reader.specs.State.{Reader, ◌>>=◌, pure}
use Rattle.swc_ecma_parser_reader.specs.Reader.{Opening, Named, Expression, head_behind}

-- it was read as a name, and is one unless `=>` stands behind `of`
unfoldable pub behind_async : ℕ → Span → Tree → Reader Opening
behind_async n start p = λ s. if sees kind.Arrow (after s.at) then (head_behind n start >>= λ v. pure (Expression v)) s else Ok (Named p, s)
