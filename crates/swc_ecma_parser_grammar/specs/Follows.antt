-- Looks at the tokens that stand next, which several forms have in common: what goes on with a left-hand-side expression, a word by
-- its text, what begins a declaration or an expression statement, and the words that may be left out before a form.
use Rattle.std.specs.Prelude.{Bool, true, false, not, ◌&&◌, ◌||◌, List, [], ◌∷◌, codes, ◌≡◌}
use Rattle.std.specs.Str.{bytes_eq}
use Rattle.swc_ecma_parser_token.specs.declared.kind.TokenKind.TheVariants as kind
use Rattle.swc_ecma_parser_token.specs.declared.token.Token.{Token}
use Rattle.swc_ecma_parser_token.specs.declared.token.Token.TheVariants as token
use Rattle.swc_ecma_parser_token.specs.declared.token.Word.TheVariants as word
use Rattle.swc_ecma_parser_token.specs.declared.token.TokenAndSpan.{TokenAndSpan}
use Rattle.swc_ecma_parser_token.specs.Text.{word_text}
use Rattle.swc_ecma_parser_input.specs.Place.{Place, after}
use Rattle.swc_ecma_parser_model.specs.Tree as tree
use Rattle.swc_ecma_parser_model.specs.Tree.{Tree, Text}
use Rattle.swc_ecma_parser_grammar.specs.declared.position.Position.{Position}
use Rattle.swc_ecma_parser_grammar.specs.Looks.{kind_at, breaks_at, sees}
use Rattle.swc_ecma_parser_grammar.specs.Names.{is_one_of, reserved_words}

-- a template begins here, or the rest of a tagged one
abbrev pub begins_template : Place → Bool
begins_template c = sees kind.Template c || sees kind.TemplateHead c

-- goes on with a member or call expression, with a tagged template or an optional chain, or is a postfix operator, which stands on
-- its operand's line
unfoldable pub continues_left_side : Place → Bool
continues_left_side c =
    sees kind.Dot c
    || (sees kind.LBracket c
    || (sees kind.LParen c || (sees kind.QuestionDot c || (begins_template c || (not (breaks_at c) && (sees kind.PlusPlus c || sees kind.MinusMinus c))))))

-- a word that is no keyword, and has this text
abbrev pub token_is : Text → Token → Bool
token_is text (token.Word (word.Ident t)) = bytes_eq t text
token_is text _ = false

abbrev pub first_is : Text → List TokenAndSpan → Bool
first_is text [] = false
first_is text (t ∷ ts) = token_is text t.token

unfoldable pub word_at : Text → Place → Bool
word_at text c = first_is text c.left

-- `async function` on one line
unfoldable pub is_async_function : Place → Bool
is_async_function c = word_at (codes "async") c && (sees kind.Function (after c) && not (breaks_at (after c)))

-- what makes `let` begin a declaration: `{`, `[`, or a word that can name a binding or is reserved in strict code alone
abbrev pub token_follows_let : Token → Bool
token_follows_let token.LBrace = true
token_follows_let token.LBracket = true
token_follows_let (token.Word w) = not (is_one_of reserved_words (word_text w)) || bytes_eq (word_text w) (codes "enum")
token_follows_let _ = false

abbrev pub first_follows_let : List TokenAndSpan → Bool
first_follows_let [] = false
first_follows_let (t ∷ ts) = token_follows_let t.token

unfoldable pub is_let_declaration : Place → Bool
is_let_declaration c = sees kind.Let c && first_follows_let (after c).left

-- The look-ahead of an expression statement: ECMA-262, section 14.5.
unfoldable pub may_begin_expression_statement : Position → Place → Bool
may_begin_expression_statement at c =
    not (sees kind.LBrace c || (sees kind.Function c || (sees kind.Class c || (sees kind.Import c || (is_async_function c || (at.include_decl && is_let_declaration c))))))

-- `await`, or nothing
pub data AwaitWord (is_await : Bool) (c d : Place) : Type 0 where
  no_await : is_await ≡ false → d ≡ c → AwaitWord is_await c d
  await_word : is_await ≡ true → kind_at c ≡ kind.Await → d ≡ after c → AwaitWord is_await c d

-- `async` on the line of what follows it, or nothing
pub data AsyncWord (is_async : Bool) (c d : Place) : Type 0 where
  not_async : is_async ≡ false → d ≡ c → AsyncWord is_async c d
  async_word : is_async ≡ true → word_at (codes "async") c ≡ true → d ≡ after c → breaks_at d ≡ false → AsyncWord is_async c d

-- the `*` of a generator, or nothing
pub data Star (is_generator : Bool) (c d : Place) : Type 0 where
  no_star : is_generator ≡ false → d ≡ c → Star is_generator c d
  star : is_generator ≡ true → kind_at c ≡ kind.Mul → d ≡ after c → Star is_generator c d

-- what the head of a `for` begins with where it declares nothing: ECMA-262, section 14.7.4
unfoldable pub may_begin_head : Place → Bool
may_begin_head c = not (sees kind.Var c || (sees kind.Const c || (sees kind.Semi c || is_let_declaration c)))

-- A name `async` before `of` on its line is no left side of a head, but behind `for await`. A tree does not tell whether a name is
-- written with an escape, which the standard lets stand here too.
abbrev pub is_bare_async : Tree → Bool
is_bare_async (tree.ident_pat s text) = bytes_eq text (codes "async")
is_bare_async _ = false

unfoldable pub is_async_of : (is_await : Bool) → Tree → Place → Bool
is_async_of is_await left d = not is_await && (is_bare_async left && not (breaks_at d))

-- `import(` and `import.` begin an expression, also a statement's
unfoldable pub begins_import_expression : Place → Bool
begins_import_expression c = sees kind.Import c && (sees kind.LParen (after c) || sees kind.Dot (after c))
