-- Words, private names and what heads an arrow function or a loop, as the reader reads them: ECMA-262, sections 12.7, 15.3, 15.9 and
-- 14.7.5.
use Rattle.std.specs.Prelude.{Bool, true, false, not, ◌&&◌, ◌||◌, if◌then◌else◌, nat_eq, List, [], ◌∷◌, codes, Ok}
use Rattle.swc_ecma_parser_common.specs.declared.span.Span.{Span}
use Rattle.swc_ecma_parser_error.specs.Kind as faults
use Rattle.swc_ecma_parser_token.specs.declared.kind.TokenKind.TheVariants as kind
use Rattle.swc_ecma_parser_token.specs.declared.token.Token.{Token}
use Rattle.swc_ecma_parser_token.specs.declared.token.Token.TheVariants as token
use Rattle.swc_ecma_parser_token.specs.declared.token.TokenAndSpan.{TokenAndSpan}
use Rattle.swc_ecma_parser_token.specs.Text.{word_text}
use Rattle.swc_ecma_parser_input.specs.Place.{Place, after}
use Rattle.swc_ecma_parser_model.specs.declared.leaves.Ident.{Ident}
use Rattle.swc_ecma_parser_model.specs.Tree as tree
use Rattle.swc_ecma_parser_model.specs.Tree.{Tree}
use Rattle.swc_ecma_parser_model.specs.Forms.{is_ident_named}
use Rattle.swc_ecma_parser_grammar.specs.Looks.{breaks_at, sees, span_at}
use Rattle.swc_ecma_parser_grammar.specs.Names.{identifier_at}
use Rattle.swc_ecma_parser_grammar.specs.Follows.{word_at}
use Rattle.swc_ecma_parser_reader.specs.State.{State, Outcome, Reader, ◌>>=◌, ◌>>◌, pure, span_here, since, skip, moved, wanted}

-- ---- words and private names

-- a word, reserved or not
abbrev pub word_by : State → Token → Span → Outcome Ident
word_by s (token.Word w) span = Ok (record { span = span; sym = word_text w }, moved s)
word_by s _ span = wanted faults.ExpectedIdent s

abbrev pub word_in : State → List TokenAndSpan → Outcome Ident
word_in s [] = wanted faults.ExpectedIdent s
word_in s (t ∷ ts) = word_by s t.token t.span

unfoldable pub any_word : Reader Ident
any_word = λ s. word_in s s.at.left

-- a word that begins where the token before it ends
unfoldable pub touching_word : Reader Ident
touching_word = λ s. if nat_eq s.at.last.hi.0 (span_at s.at).lo.0 then any_word s else wanted faults.ExpectedIdent s

-- `#` and its word
unfoldable pub private_name : Reader Tree
private_name = do
  start ← span_here
  skip
  i ← touching_word
  span ← since start
  pure (tree.private_name span i.span i.sym)

-- ---- heads of arrow functions

-- `async` and its arguments on one line
unfoldable pub begins_async_call : Place → Bool
begins_async_call c = word_at (codes "async") c && (sees kind.LParen (after c) && not (breaks_at (after c)))

-- what can stand before `=>`, read from a place where such a call begins or not
abbrev pub is_head : Bool → Tree → Bool
is_head is_async (tree.ident s text) = true
is_head is_async (tree.paren s e) = true
is_head is_async (tree.call s f args) = is_async && is_ident_named (codes "async") f
is_head is_async _ = false

unfoldable pub heads_arrow : Bool → Tree → State → Bool
heads_arrow is_async x s = (is_head is_async x && sees kind.Arrow s.at) || (is_ident_named (codes "async") x && (not (breaks_at s.at) && identifier_at s.code.flags s.at))

-- ---- heads of loops

-- Behind `for await (` the name `async` stands alone before `of` on its line, where no `=>` follows.
unfoldable pub begins_async_of : Place → Bool
begins_async_of c = word_at (codes "async") c && (word_at (codes "of") (after c) && (not (breaks_at (after c)) && not (sees kind.Arrow (after (after c)))))
