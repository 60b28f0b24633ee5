-- Automatic semicolon insertion: ECMA-262, section 12.10.
use Rattle.std.specs.Prelude.{◌≡◌, Bool, true, false, ◌||◌}
use Rattle.swc_ecma_parser_token.specs.declared.kind.TokenKind.TheVariants as kind
use Rattle.swc_ecma_parser_input.specs.Place.{Place, after}
use Rattle.swc_ecma_parser_grammar.specs.Looks.{kind_at, breaks_at, sees}

-- where a statement may end without `;`: at the end, before `}`, and where a line break stands before the next token
unfoldable pub can_end : Place → Bool
can_end c = sees kind.End c || (sees kind.RBrace c || breaks_at c)

-- where nothing more of a statement stands: `break`, `continue` and `return` have no operand here
unfoldable pub ends_at : Place → Bool
ends_at c = sees kind.Semi c || can_end c

-- the end of a statement: a `;`, or nothing where it may be left out
pub data Ends (c d : Place) : Type 0 where
  by_semicolon : kind_at c ≡ kind.Semi → d ≡ after c → Ends c d
  by_insertion : sees kind.Semi c ≡ false → can_end c ≡ true → d ≡ c → Ends c d

-- An end that nothing demands, whatever follows: that of `do .. while (..)` alone.
pub data OptionalEnds (c d : Place) : Type 0 where
  by_a_semicolon : kind_at c ≡ kind.Semi → d ≡ after c → OptionalEnds c d
  by_nothing : sees kind.Semi c ≡ false → d ≡ c → OptionalEnds c d
