-- Where no decorators begin: no word, no operator and no expression begins with `@`.
use Rattle.std.proofs.Common.{◌≡◌, Bool, true, false, List, [], ◌∷◌, refl}
use Rattle.std.specs.Prelude.{◌&&◌, ◌||◌}
use Rattle.swc_ecma_parser_token.specs.declared.keyword.Keyword.{Keyword}
use Rattle.swc_ecma_parser_token.specs.declared.keyword.Keyword.TheVariants as keyword
use Rattle.swc_ecma_parser_token.specs.declared.kind.TokenKind.{TokenKind}
use Rattle.swc_ecma_parser_token.specs.declared.kind.TokenKind.TheVariants as kind
use Rattle.swc_ecma_parser_token.specs.declared.token.Token.{Token}
use Rattle.swc_ecma_parser_token.specs.declared.token.Token.TheVariants as token
use Rattle.swc_ecma_parser_token.specs.declared.token.TokenAndSpan.{TokenAndSpan}
use Rattle.swc_ecma_parser_token.specs.declared.token.Word.{Word}
use Rattle.swc_ecma_parser_token.specs.declared.token.Word.TheVariants as word
use Rattle.swc_ecma_parser_token.specs.Kind.{token_kind, word_kind, keyword_kind}
use Rattle.swc_ecma_parser_input.specs.declared.context.Context.{Context}
use Rattle.swc_ecma_parser_input.specs.Place.{Place}
use Rattle.swc_ecma_parser_grammar.specs.Looks.{kind_at, first_kind, sees, same_kind}
use Rattle.swc_ecma_parser_grammar.specs.Names.{Code, token_is_identifier, first_is_identifier, identifier_at}
use Rattle.swc_ecma_parser_grammar.specs.language.Begins.{begins_operand, begins_unary, begins_expression}
use Rattle.swc_ecma_parser_grammar.proofs.Tests.{and_yes, and_no}
use Rattle.swc_ecma_parser_reader.proofs.Meets.{saw}
use Rattle.swc_ecma_parser_module_reader.specs.Decorated.{begins_decorators}

keyword_no_at : (v : Keyword) → same_kind (keyword_kind v) kind.At ≡ false
unfolding same_kind
keyword_no_at keyword.Await = refl
keyword_no_at _ = refl

pub word_no_at : (v : Word) → same_kind (word_kind v) kind.At ≡ false
unfolding same_kind
word_no_at (word.Keyword v) = keyword_no_at v
word_no_at _ = refl

token_no_at : (f : Context) (t : Token) → token_is_identifier f t ≡ true → same_kind (token_kind t) kind.At ≡ false
token_no_at f (token.Word v) e = word_no_at v
token_no_at f _ e = cc

first_no_at : (f : Context) (ts : List TokenAndSpan) → first_is_identifier f ts ≡ true → same_kind (first_kind ts) kind.At ≡ false
first_no_at f [] e = cc
first_no_at f (t ∷ ts) e = token_no_at f t.token e

identifier_no_at : (f : Context) (c : Place) → identifier_at f c ≡ true → sees kind.At c ≡ false
unfolding identifier_at kind_at
identifier_no_at f c e = first_no_at f c.left e

operand_no_at : (j : TokenKind) → begins_operand j ≡ true → same_kind j kind.At ≡ false
unfolding same_kind
operand_no_at kind.At e = cc
operand_no_at _ e = refl

pub expression_no_at : (f : Context) (c : Place) → begins_expression f c ≡ true → sees kind.At c ≡ false
unfolding begins_expression begins_unary same_kind
expression_no_at f c e = by_first (begins_operand (kind_at c)) (identifier_at f c) (sees kind.HashIn c) (f.in_generator && sees kind.Yield c) refl refl refl refl e
  where
    by_first : (a b n g : Bool) → begins_operand (kind_at c) ≡ a → identifier_at f c ≡ b → sees kind.HashIn c ≡ n → (f.in_generator && sees kind.Yield c) ≡ g → ((a || b) || (n || g)) ≡ true → sees kind.At c ≡ false
    by_first true b n g u v z w h = operand_no_at (kind_at c) u
    by_first false true n g u v z w h = identifier_no_at f c v
    by_first false false true g u v z w h = rw (saw c kind.HashIn z) refl
    by_first false false false true u v z w h = rw (saw c kind.Yield (and_yes f.in_generator (sees kind.Yield c) w).1) refl
    by_first false false false false u v z w h = cc

-- where another kind stands no list begins
pub no_list_by : (k : Code) (c : Place) → sees kind.At c ≡ false → begins_decorators k c ≡ false
unfolding begins_decorators
no_list_by k c e = and_no k.setting.decorators (sees kind.At c) e

pub no_list_at : (k : Code) (c : Place) (j : TokenKind) → kind_at c ≡ j → same_kind j kind.At ≡ false → begins_decorators k c ≡ false
no_list_at k c j e h = no_list_by k c (rw e h)
