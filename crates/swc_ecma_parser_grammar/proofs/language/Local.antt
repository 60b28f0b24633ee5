-- Whether something goes on with an expression depends on the first token behind it alone.
use Rattle.std.proofs.Common.{◌≡◌, ℕ, Bool, false, List, [], ◌∷◌, Option, Some, None, refl, ap, sym, ◌∙◌}
use Rattle.std.specs.Prelude.{codes}
use Rattle.std.specs.Str.{bytes_eq}
use Rattle.swc_ecma_parser_token.specs.declared.kind.TokenKind.{TokenKind}
use Rattle.swc_ecma_parser_token.specs.declared.kind.TokenKind.TheVariants as kind
use Rattle.swc_ecma_parser_token.specs.declared.keyword.Keyword.{Keyword}
use Rattle.swc_ecma_parser_token.specs.declared.keyword.Keyword.TheVariants as keyword
use Rattle.swc_ecma_parser_token.specs.declared.token.Word.TheVariants as word
use Rattle.swc_ecma_parser_token.specs.declared.token.Token.{Token}
use Rattle.swc_ecma_parser_token.specs.declared.token.Token.TheVariants as token
use Rattle.swc_ecma_parser_token.specs.declared.token.TokenAndSpan.{TokenAndSpan}
use Rattle.swc_ecma_parser_token.specs.Kind.{keyword_kind, token_kind}
use Rattle.swc_ecma_parser_token.specs.Text.{keyword_text}
use Rattle.swc_ecma_parser_input.specs.declared.context.Context.{Context}
use Rattle.swc_ecma_parser_input.specs.Place.{Place, after}
use Rattle.swc_ecma_parser_model.specs.Tree as tree
use Rattle.swc_ecma_parser_model.specs.Tree.{Tree, Text}
use Rattle.swc_ecma_parser_grammar.specs.Looks.{first_kind, kind_at}
use Rattle.swc_ecma_parser_grammar.specs.Names.{Code, is_identifier, token_is_identifier, first_is_identifier, identifier_at}
use Rattle.swc_ecma_parser_grammar.specs.Follows.{continues_left_side, token_is, first_is, word_at}
use Rattle.swc_ecma_parser_grammar.specs.language.Begins.{begins_unary, begins_expression}
use Rattle.swc_ecma_parser_grammar.specs.language.Continues.{is_arrow_head, continues_callee, continues_unary, continues_operand, continues_head, continues_conditional, continues_assignment, continues_yield}
use Rattle.swc_ecma_parser_grammar.specs.language.Laws.{token_text, first_text, text_at, Alike, FollowIsLocal}

-- ---- words, by the kind and the text

abbrev is_identifier_text : Context → Option Text → Bool
is_identifier_text f None = false
is_identifier_text f (Some text) = is_identifier f text

token_identifier : (f : Context) (t : Token) → token_is_identifier f t ≡ is_identifier_text f (token_text t)
token_identifier f (token.Word w) = refl
token_identifier f _ = refl

first_identifier : (f : Context) (ts : List TokenAndSpan) → first_is_identifier f ts ≡ is_identifier_text f (first_text ts)
first_identifier f [] = refl
first_identifier f (t ∷ ts) = token_identifier f t.token

identifier_by_text : (f : Context) (c : Place) → identifier_at f c ≡ is_identifier_text f (text_at c)
unfolding identifier_at text_at
identifier_by_text f c = first_identifier f c.left

-- a word that is no keyword
abbrev is_text_of : Text → Option Text → TokenKind → Bool
is_text_of text None k = false
is_text_of text (Some t) kind.Ident = bytes_eq t text
is_text_of text (Some t) _ = false

keyword_word : (text : Text) (k : Keyword) → false ≡ is_text_of text (Some (keyword_text k)) (keyword_kind k)
keyword_word text keyword.Await = refl
keyword_word text _ = refl

token_word : (text : Text) (t : Token) → token_is text t ≡ is_text_of text (token_text t) (token_kind t)
token_word text (token.Word (word.Keyword k)) = keyword_word text k
token_word text (token.Word w) = refl
token_word text t = refl

first_word : (text : Text) (ts : List TokenAndSpan) → first_is text ts ≡ is_text_of text (first_text ts) (first_kind ts)
first_word text [] = refl
first_word text (t ∷ ts) = token_word text t.token

word_by_text : (text : Text) (c : Place) → word_at text c ≡ is_text_of text (text_at c) (kind_at c)
unfolding word_at kind_at text_at
word_by_text text c = first_word text c.left

-- ---- places that are alike

same_identifier : (f : Context) (c d : Place) → Alike c d → identifier_at f c ≡ identifier_at f d
same_identifier f c d h = identifier_by_text f c ∙ ap (is_identifier_text f) h.in_text ∙ sym (identifier_by_text f d)

same_word : (text : Text) (c d : Place) → Alike c d → word_at text c ≡ word_at text d
same_word text c d h = word_by_text text c ∙ ap (is_text_of text (text_at c)) h.in_kind ∙ ap (λ t. is_text_of text t (kind_at d)) h.in_text ∙ sym (word_by_text text d)

left_side : (d e : Place) → Alike d e → continues_left_side d ≡ continues_left_side e
unfolding continues_left_side
left_side d e h = rw (h.in_kind, h.in_break) refl

callee : (d e : Place) → Alike d e → continues_callee d ≡ continues_callee e
unfolding continues_callee
callee d e h = rw h.in_kind refl

unary : (x : Tree) (d e : Place) → Alike d e → continues_unary x d ≡ continues_unary x e
unfolding continues_unary
unary x d e h = rw (left_side d e h) refl

operand : (k : Code) (n : ℕ) (x : Tree) (d e : Place) → Alike d e → continues_operand k n x d ≡ continues_operand k n x e
unfolding continues_operand
operand k n x d e h = rw (unary x d e h, h.in_kind) refl

conditional : (d e : Place) → Alike d e → continues_conditional d ≡ continues_conditional e
unfolding continues_conditional
conditional d e h = rw h.in_kind refl

begins : (f : Context) (d e : Place) → Alike d e → begins_expression f d ≡ begins_expression f e
unfolding begins_expression begins_unary
begins f d e h = rw (h.in_kind, same_identifier f d e h) refl

yield : (k : Code) (d e : Place) → Alike d e → continues_yield k d ≡ continues_yield k e
unfolding continues_yield
yield k d e h = rw (h.in_break, h.in_kind, begins k.flags d e h) refl

arrow_head : (x : Tree) (b c : Place) → Alike b c → Alike (after b) (after c) → is_arrow_head x b ≡ is_arrow_head x c
arrow_head (tree.call s called arguments) b c h i = rw (same_word (codes "async") b c h, i.in_kind, i.in_break) refl
arrow_head x b c h i = refl

head : (k : Code) (x : Tree) (b c d e : Place) → Alike b c → Alike (after b) (after c) → Alike d e → continues_head k x b d ≡ continues_head k x c e
unfolding continues_head
head k x b c d e h i j = rw (arrow_head x b c h i, j.in_kind, j.in_break, same_identifier k.flags d e j) refl

assignment : (k : Code) (x : Tree) (b c d e : Place) → Alike b c → Alike (after b) (after c) → Alike d e → continues_assignment k x b d ≡ continues_assignment k x c e
unfolding continues_assignment
assignment k x b c d e h i j = rw (operand k 1 x d e j, j.in_kind, conditional d e j, head k x b c d e h i j) refl

pub follow_is_local : FollowIsLocal
follow_is_local = record {
  left_side = left_side;
  callee = callee;
  unary = unary;
  operand = operand;
  conditional = conditional;
  yield = yield;
  head = head;
  assignment = assignment;
}
