-- Where a list does not end, the tokens have not ended.
use Rattle.std.proofs.Common.{◌≡◌, Bool, true, false, ◌||◌, true≢false}
use Rattle.swc_ecma_parser_token.specs.declared.kind.TokenKind.TheVariants as kind
use Rattle.swc_ecma_parser_input.specs.Place.{Place}
use Rattle.swc_ecma_parser_grammar.specs.Looks.{sees}
use Rattle.swc_ecma_parser_reader.specs.Reader.{at_end, closes}
use Rattle.swc_ecma_parser_lists.specs.Ends.{ends_at}
use Rattle.swc_ecma_parser_lists.specs.declared.lists.ListEnd.{ListEnd}
use Rattle.swc_ecma_parser_lists.specs.declared.lists.ListEnd.TheVariants as end

second : (a b : Bool) → (a || b) ≡ false → b ≡ false
second true b h = absurd (true≢false h)
second false b h = h

pub not_ended : (e : ListEnd) (c : Place) → ends_at e c ≡ false → at_end c ≡ false
unfolding closes at_end
not_ended end.Brace c h = second (sees kind.RBrace c) (sees kind.End c) h
not_ended end.Tokens c h = h
