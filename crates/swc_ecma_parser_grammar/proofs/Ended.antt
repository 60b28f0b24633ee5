-- Behind a pattern in a list, or before its default, no unary expression begins: so `await` there is a name.
use Rattle.std.proofs.Common.{◌≡◌, Bool, true, false, List, [], ◌∷◌, refl}
use Rattle.swc_ecma_parser_token.specs.declared.kind.TokenKind.{TokenKind}
use Rattle.swc_ecma_parser_token.specs.declared.kind.TokenKind.TheVariants as kind
use Rattle.swc_ecma_parser_token.specs.declared.keyword.Keyword.{Keyword}
use Rattle.swc_ecma_parser_token.specs.declared.keyword.Keyword.TheVariants as keyword
use Rattle.swc_ecma_parser_token.specs.declared.token.Token.{Token}
use Rattle.swc_ecma_parser_token.specs.declared.token.Token.TheVariants as token
use Rattle.swc_ecma_parser_token.specs.declared.token.Word.{Word}
use Rattle.swc_ecma_parser_token.specs.declared.token.Word.TheVariants as word
use Rattle.swc_ecma_parser_token.specs.declared.token.TokenAndSpan.{TokenAndSpan}
use Rattle.swc_ecma_parser_token.specs.Kind.{token_kind, word_kind, keyword_kind}
use Rattle.swc_ecma_parser_input.specs.declared.context.Context.{Context}
use Rattle.swc_ecma_parser_input.specs.Place.{Place, after}
use Rattle.swc_ecma_parser_grammar.specs.Looks.{kind_at, first_kind, sees}
use Rattle.swc_ecma_parser_grammar.specs.Names.{token_is_identifier, first_is_identifier, identifier_at}
use Rattle.swc_ecma_parser_grammar.specs.language.Begins.{begins_operand, begins_unary, awaits}
use Rattle.swc_ecma_parser_grammar.proofs.Tests.{and_no}

-- what stands behind a pattern in a list, or before its default; a colon and an arrow too
abbrev pub ends_name : TokenKind → Bool
ends_name kind.Comma = true
ends_name kind.RBracket = true
ends_name kind.RBrace = true
ends_name kind.RParen = true
ends_name kind.Assign = true
ends_name kind.Colon = true
ends_name kind.Arrow = true
ends_name _ = false

-- no word does
keyword_ends : {X : Type 0} (k : Keyword) → ends_name (keyword_kind k) ≡ true → X
keyword_ends keyword.Await e = cc
keyword_ends _ e = cc

pub word_ends : {X : Type 0} (w : Word) → ends_name (word_kind w) ≡ true → X
word_ends (word.Keyword k) e = keyword_ends k e
word_ends _ e = cc

token_ends : (f : Context) (t : Token) → ends_name (token_kind t) ≡ true → token_is_identifier f t ≡ false
token_ends f (token.Word w) e = word_ends w e
token_ends f _ e = refl

first_ends : (f : Context) (ts : List TokenAndSpan) → ends_name (first_kind ts) ≡ true → first_is_identifier f ts ≡ false
first_ends f [] e = refl
first_ends f (t ∷ ts) e = token_ends f t.token e

-- and no operand begins there
operand_ends : (k : TokenKind) → ends_name k ≡ true → begins_operand k ≡ false
operand_ends kind.Comma e = refl
operand_ends kind.RBracket e = refl
operand_ends kind.RBrace e = refl
operand_ends kind.RParen e = refl
operand_ends kind.Assign e = refl
operand_ends kind.Colon e = refl
operand_ends kind.Arrow e = refl
operand_ends _ e = cc

pub unary_ends : (f : Context) (d : Place) → ends_name (kind_at d) ≡ true → begins_unary f d ≡ false
unfolding begins_unary identifier_at kind_at
unary_ends f d e = rw (operand_ends (first_kind d.left) e, first_ends f d.left e) refl

-- a word before it does not await
pub ended_awaits : (f : Context) (c d : Place) → d ≡ after c → ends_name (kind_at d) ≡ true → awaits f c ≡ false
unfolding awaits
ended_awaits f c d n e = rw (← n, unary_ends f d e) (and_no (sees kind.Await c) false refl)
