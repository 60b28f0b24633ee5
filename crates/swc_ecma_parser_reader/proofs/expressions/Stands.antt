-- Where something stands that is read no error token does.
use Rattle.std.proofs.Common.{◌≡◌, ◌≢◌, Bool, true, false, cond, Option, Some, None, refl, sym, ◌∙◌, ap}
use Rattle.std.specs.Prelude.{codes}
use Rattle.swc_ecma_parser_common.specs.declared.span.Span.{Span}
use Rattle.swc_ecma_parser_token.specs.declared.kind.TokenKind.{TokenKind}
use Rattle.swc_ecma_parser_token.specs.declared.kind.TokenKind.TheVariants as kind
use Rattle.swc_ecma_parser_token.specs.declared.token.Token.{Token}
use Rattle.swc_ecma_parser_token.specs.declared.token.Token.TheVariants as token
use Rattle.swc_ecma_parser_input.specs.declared.context.Context.{Context}
use Rattle.swc_ecma_parser_input.specs.Place.{Place}
use Rattle.swc_ecma_parser_input.specs.TokenSource.{is_out_of_memory}
use Rattle.swc_ecma_parser_model.specs.declared.operators.UpdateOp.{UpdateOp}
use Rattle.swc_ecma_parser_model.specs.Tree.{Tree, Text}
use Rattle.swc_ecma_parser_grammar.specs.Looks.{kind_at, sees, breaks_at}
use Rattle.swc_ecma_parser_grammar.specs.Follows.{word_at}
use Rattle.swc_ecma_parser_grammar.specs.language.Operators.{update_operator}
use Rattle.swc_ecma_parser_grammar.proofs.StatementBegins.{word_place}
use Rattle.swc_ecma_parser_grammar.proofs.Tests.{and_yes}
use Rattle.swc_ecma_parser_reader.specs.Methods.{FunctionForm, expression_form, class_form, modifies, begins_async_method}
use Rattle.swc_ecma_parser_reader.specs.Expressions.{literal_of, regex_of, text_of, postfix_at}
use Rattle.swc_ecma_parser_reader.specs.AsyncArrows.{begins_async_arrow}
use Rattle.swc_ecma_parser_reader.specs.Yields.{begins_yield}
use Rattle.swc_ecma_parser_reader.proofs.Errors.{is_error}
use Rattle.swc_ecma_parser_reader.proofs.Meets.{saw}
use Rattle.swc_ecma_parser_reader.proofs.Words.{begins_function}

-- an operator is no error token
pub not_error : (k : TokenKind) → k ≢ kind.Error → is_error k ≡ false
not_error kind.Error h = absurd (h refl)
not_error _ h = refl

pub no_error_by : {A : Type 0} (f : TokenKind → Option A) (k : TokenKind) (x : A) → f kind.Error ≡ None → f k ≡ Some x → is_error k ≡ false
no_error_by f k x n h = not_error k (λ e. let g : Some x ≡ None = sym h ∙ ap f e ∙ n in cc)

-- one behind an operand stands on its line
pub postfix_stands : (c : Place) (op : UpdateOp) → postfix_at c ≡ Some op → is_error (kind_at c) ≡ false
unfolding postfix_at
postfix_stands c op h = no_error_by update_operator (kind_at c) op refl (by_line (breaks_at c) (update_operator (kind_at c)) h)
  where
    by_line : (b : Bool) (o : Option UpdateOp) → cond b None o ≡ Some op → o ≡ Some op
    by_line true o e = cc
    by_line false o e = e

-- a literal is none either
pub literal_stands : (span : Span) (v : Token) (x : Tree) → literal_of span v ≡ Some x → is_out_of_memory v ≡ false
literal_stands span (token.Error e) x h = cc
literal_stands span _ x h = refl

-- nor is a regular expression, nor the text of a template
pub regex_stands : (span : Span) (v : Token) (x : Tree) → regex_of span v ≡ Some x → is_out_of_memory v ≡ false
regex_stands span (token.Error e) x h = cc
regex_stands span _ x h = refl

pub text_stands : (span : Span) (v : Token) (x : Tree) → text_of span v ≡ Some x → is_out_of_memory v ≡ false
text_stands span (token.Error e) x h = cc
text_stands span _ x h = refl

-- words that begin something
pub modified : (text : Text) (c : Place) → modifies text c ≡ true → kind_at c ≡ kind.Ident
unfolding modifies
modified text c h = word_place text c (and_yes (word_at text c) _ h).0

pub async_modified : (c : Place) → begins_async_method c ≡ true → kind_at c ≡ kind.Ident
unfolding begins_async_method
async_modified c h = modified (codes "async") c (and_yes (modifies (codes "async") c) _ h).0

pub async_arrow_kind : (f : Context) (c : Place) → begins_async_arrow f c ≡ true → kind_at c ≡ kind.Ident
unfolding begins_async_arrow
async_arrow_kind f c h = word_place (codes "async") c (and_yes (word_at (codes "async") c) _ h).0

pub yield_kind : (f : Context) (c : Place) → begins_yield f c ≡ true → kind_at c ≡ kind.Yield
unfolding begins_yield
yield_kind f c h = saw c kind.Yield (and_yes (sees kind.Yield c) _ h).0

-- what stands where a function of a form, or a class, begins
abbrev pub Begins : FunctionForm → Place → Type 0
Begins expression_form c = begins_function c ≡ true
Begins class_form c = kind_at c ≡ kind.Class
Begins _ c = Unit {0}
