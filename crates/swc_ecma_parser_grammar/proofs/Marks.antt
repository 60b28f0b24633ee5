-- Where a comma, a semicolon or a colon stands no word does, and a name before a colon is an expression by itself.
use Rattle.std.proofs.Common.{◌≡◌, ℕ, suc, Bool, true, false, List, [], ◌∷◌, refl, true≢false, sym, ◌∙◌, ap}
use Rattle.std.specs.Prelude.{not, ◌&&◌, codes}
use Rattle.swc_ecma_parser_common.specs.declared.span.Span.{Span}
use Rattle.swc_ecma_parser_token.specs.declared.kind.TokenKind.{TokenKind}
use Rattle.swc_ecma_parser_token.specs.declared.kind.TokenKind.TheVariants as kind
use Rattle.swc_ecma_parser_token.specs.declared.keyword.Keyword.{Keyword}
use Rattle.swc_ecma_parser_token.specs.declared.keyword.Keyword.TheVariants as keyword
use Rattle.swc_ecma_parser_token.specs.declared.token.Token.{Token}
use Rattle.swc_ecma_parser_token.specs.declared.token.Token.TheVariants as token
use Rattle.swc_ecma_parser_token.specs.declared.token.Word.{Word}
use Rattle.swc_ecma_parser_token.specs.declared.token.Word.TheVariants as word
use Rattle.swc_ecma_parser_token.specs.declared.token.TokenAndSpan.{TokenAndSpan}
use Rattle.swc_ecma_parser_token.specs.Kind.{token_kind, word_kind, keyword_kind}
use Rattle.swc_ecma_parser_token.specs.Text.{word_text}
use Rattle.swc_ecma_parser_input.specs.declared.context.Context.{Context}
use Rattle.swc_ecma_parser_input.specs.Place.{Place, after}
use Rattle.swc_ecma_parser_model.specs.Tree as tree
use Rattle.swc_ecma_parser_model.specs.Tree.{Text}
use Rattle.swc_ecma_parser_grammar.specs.Looks.{kind_at, breaks_at, sees, same_kind}
use Rattle.swc_ecma_parser_grammar.specs.Names.{Code, is_name, token_is_identifier, first_is_identifier, identifier_at}
use Rattle.swc_ecma_parser_grammar.specs.Follows.{word_at, first_is, token_is, is_async_function, continues_left_side}
use Rattle.swc_ecma_parser_grammar.specs.scaffold.ReadsSupported.{ReadsClass}
use Rattle.swc_ecma_parser_grammar.specs.language.Parts.{ReadsToken}
use Rattle.swc_ecma_parser_grammar.specs.language.Begins.{awaits}
use Rattle.swc_ecma_parser_grammar.specs.language.Continues.{continues_unary, continues_operand, continues_conditional, continues_head, continues_assignment}
use Rattle.swc_ecma_parser_grammar.specs.language.Goals.{expression}
use Rattle.swc_ecma_parser_grammar.specs.language.LeftSides.{primary_rule, name_rule}
use Rattle.swc_ecma_parser_grammar.specs.language.Expressions.{operand_rule, single_rule, operators_rule, assignment_rule}
use Rattle.swc_ecma_parser_grammar.proofs.Naming.{name_is_clean}
use Rattle.swc_ecma_parser_grammar.proofs.Ended.{ends_name, ended_awaits}

abbrev pub is_mark : TokenKind → Bool
is_mark kind.Comma = true
is_mark kind.Semi = true
is_mark kind.Colon = true
is_mark _ = false

keyword_no_mark : (w : Keyword) → is_mark (keyword_kind w) ≡ false
keyword_no_mark keyword.Await = refl
keyword_no_mark _ = refl

word_no_mark : (w : Word) → is_mark (word_kind w) ≡ false
word_no_mark (word.Keyword w) = keyword_no_mark w
word_no_mark _ = refl

token_no_word : (text : Text) (t : Token) → is_mark (token_kind t) ≡ true → token_is text t ≡ false
token_no_word text (token.Word w) h = absurd (true≢false (sym h ∙ word_no_mark w))
token_no_word text _ h = refl

no_word_in : (text : Text) (d : Place) (ts : List TokenAndSpan) → d.left ≡ ts → is_mark (kind_at d) ≡ true → first_is text ts ≡ false
unfolding kind_at
no_word_in text d [] e h = refl
no_word_in text d (t ∷ ts) e h = token_no_word text t.token (rw e at h)

pub no_word : (text : Text) (d : Place) → is_mark (kind_at d) ≡ true → word_at text d ≡ false
unfolding word_at
no_word text d h = no_word_in text d d.left refl h

token_no_name : (f : Context) (t : Token) → is_mark (token_kind t) ≡ true → token_is_identifier f t ≡ false
token_no_name f (token.Word w) h = absurd (true≢false (sym h ∙ word_no_mark w))
token_no_name f _ h = refl

no_name_in : (f : Context) (d : Place) (ts : List TokenAndSpan) → d.left ≡ ts → is_mark (kind_at d) ≡ true → first_is_identifier f ts ≡ false
unfolding kind_at
no_name_in f d [] e h = refl
no_name_in f d (t ∷ ts) e h = token_no_name f t.token (rw e at h)

no_name : (f : Context) (d : Place) → is_mark (kind_at d) ≡ true → identifier_at f d ≡ false
unfolding identifier_at
no_name f d h = no_name_in f d d.left refl h

-- ---- a name before `:`

and_no : (b : Bool) → (b && false) ≡ false
and_no true = refl
and_no false = refl

colon_ends : (d : Place) → kind_at d ≡ kind.Colon → continues_left_side d ≡ false
unfolding continues_left_side same_kind
colon_ends d h = rw (h, and_no (not (breaks_at d))) refl

alone : (k : Code) (text : Text) (s : Span) (c d : Place) → kind_at d ≡ kind.Colon → continues_assignment k (tree.ident s text) c d ≡ false
unfolding continues_assignment continues_operand continues_unary continues_conditional continues_head same_kind
alone k text s c d h =
    rw (
      colon_ends d h,
      no_name k.flags d (ap is_mark h),
      h,
      and_no (not (breaks_at d)),
    ) (and_no _)

function_apart : (c d : Place) → d ≡ after c → kind_at d ≡ kind.Colon → is_async_function c ≡ false
unfolding is_async_function same_kind
function_apart c d e h = rw (← e, h) (and_no (word_at (codes "async") c))

pub awaits_apart : (f : Context) (c : Place) → sees kind.Await c ≡ false → awaits f c ≡ false
unfolding awaits
awaits_apart f c h = rw h refl

pub name_before_colon : (n : ℕ) (k : Code) (w : Word) (s : Span) (c d : Place) → ReadsToken (token.Word w) s c d → is_name k.flags (word_text w) ≡ true → kind_at d ≡ kind.Colon
    → ReadsClass (suc n) expression k (tree.ident s (word_text w)) c d
unfolding same_kind
name_before_colon n k w s c d r f h = (
  assignment_rule
      (operators_rule (single_rule (operand_rule (
        primary_rule (name_rule (word_text w) s (record { word = w; reads_word = r; is_text = refl; is_name = name_is_clean k.flags (word_text w) f }) (function_apart c d r.next h) refl),
        ended_awaits k.flags c d r.next (ap ends_name h),
      ))) (alone k (word_text w) s c d h))
      (ap (λ j. same_kind j kind.Comma) h),
  refl,
)
