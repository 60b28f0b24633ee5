-- What is said of decorators in more than one place.
use Rattle.std.proofs.Common.{◌≡◌, ℕ, false, List}
use Rattle.std.specs.Prelude.{◌&&◌}
use Rattle.swc_ecma_parser_token.specs.declared.kind.TokenKind.TheVariants as kind
use Rattle.swc_ecma_parser_input.specs.Place.{Place}
use Rattle.swc_ecma_parser_model.specs.Tree.{Tree}
use Rattle.swc_ecma_parser_grammar.specs.Looks.{sees}
use Rattle.swc_ecma_parser_grammar.specs.Names.{Code}
use Rattle.swc_ecma_parser_grammar.specs.scaffold.ReadsSupported.{ReadsDecorators}

-- no further decorator stands here
abbrev pub NoneFollows : Code → Place → Type 0
NoneFollows k d = (k.setting.decorators && sees kind.At d) ≡ false

-- all decorators that stand at a place
abbrev pub DecoratorsRead : ℕ → List Tree → Code → Place → Place → Type 0
DecoratorsRead n ds k c d = ReadsDecorators n k ds c d × NoneFollows k d
