-- A statement begins with decorators or without, and what follows them is a class or a function, an export, or another statement.
use Rattle.std.proofs.Common.{◌≡◌, true, false, cond, ◌∙◌, ap}
use Rattle.std.specs.Prelude.{◌&&◌}
use Rattle.swc_ecma_parser_token.specs.declared.kind.TokenKind.{TokenKind}
use Rattle.swc_ecma_parser_token.specs.declared.kind.TokenKind.TheVariants as kind
use Rattle.swc_ecma_parser_model.specs.Tree.{Tree}
use Rattle.swc_ecma_parser_grammar.specs.declared.position.Position.{Position}
use Rattle.swc_ecma_parser_grammar.specs.Looks.{kind_at, sees, same_kind}
use Rattle.swc_ecma_parser_reader.specs.DecoratedStatements.{decorated_stmt, either_stmt}
use Rattle.swc_ecma_parser_reader.specs.State.{State, Reader}

module _ (plain : Position → Reader Tree) (further : Reader Tree) (at : Position) (s : State) where
  pub either_decorated : sees kind.At s.at && s.code.setting.decorators ≡ true → either_stmt plain further at s ≡ decorated_stmt plain further at s
  unfolding either_stmt
  either_decorated h = ap (λ b. cond b (decorated_stmt plain further at s) (plain at s)) h

  pub either_plain : sees kind.At s.at && s.code.setting.decorators ≡ false → either_stmt plain further at s ≡ plain at s
  unfolding either_stmt
  either_plain h = ap (λ b. cond b (decorated_stmt plain further at s) (plain at s)) h

  -- where no `@` stands
  pub either_elsewhere : sees kind.At s.at ≡ false → either_stmt plain further at s ≡ plain at s
  either_elsewhere h = either_plain (ap (λ b. b && s.code.setting.decorators) h)

  pub either_at : (j : TokenKind) → kind_at s.at ≡ j → same_kind j kind.At ≡ false → either_stmt plain further at s ≡ plain at s
  either_at j e h = either_elsewhere (ap (λ k. same_kind k kind.At) e ∙ h)
