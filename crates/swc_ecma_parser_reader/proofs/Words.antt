-- The words that begin a function.
use Rattle.std.proofs.Common.{◌≡◌, Bool, true, false, List, [], ◌∷◌, refl, sym, ◌∙◌, ap, codes}
use Rattle.std.proofs.lemmas.Slice.Eq.{bytes_eq-Decides}
use Rattle.std.specs.Prelude.{◌||◌, not}
use Rattle.std.specs.Str.{bytes_eq}
use Rattle.swc_ecma_parser_token.specs.declared.token.Token.{Token}
use Rattle.swc_ecma_parser_token.specs.declared.token.Token.TheVariants as token
use Rattle.swc_ecma_parser_token.specs.declared.token.Word.TheVariants as word
use Rattle.swc_ecma_parser_token.specs.declared.token.TokenAndSpan.{TokenAndSpan}
use Rattle.swc_ecma_parser_input.specs.declared.context.Context.{Context}
use Rattle.swc_ecma_parser_model.specs.Tree.{Text}
use Rattle.swc_ecma_parser_grammar.specs.Names.{is_name, is_reserved, token_is_identifier, first_is_identifier, name_at, identifier_at, is_clean_name, is_identifier}
use Rattle.swc_ecma_parser_token.specs.declared.kind.TokenKind.TheVariants as kind
use Rattle.swc_ecma_parser_input.specs.Place.{Place, after}
use Rattle.swc_ecma_parser_grammar.specs.Looks.{kind_at, sees, breaks_at, same_kind}
use Rattle.swc_ecma_parser_grammar.specs.Follows.{word_at, first_is, token_is, is_async_function}
use Rattle.swc_ecma_parser_grammar.proofs.StatementBegins.{word_place}
use Rattle.swc_ecma_parser_grammar.proofs.Tests.{and_yes, and_both, and_no, or_none}
use Rattle.swc_ecma_parser_reader.proofs.Meets.{saw}
use Rattle.swc_ecma_parser_grammar.proofs.Naming.{name_is_free}

-- `function`, or `async` before it on one line
unfoldable pub begins_function : Place → Bool
begins_function c = is_async_function c || sees kind.Function c

-- `async` is a name
pub async_kind : (c : Place) → is_async_function c ≡ true → kind_at c ≡ kind.Ident
unfolding is_async_function
async_kind c h = word_place (codes "async") c (and_yes (word_at (codes "async") c) _ h).0

-- before `function` on its line
pub async_parts : (c : Place) → is_async_function c ≡ true → (word_at (codes "async") c ≡ true) × (kind_at (after c) ≡ kind.Function) × (breaks_at (after c) ≡ false)
unfolding is_async_function
async_parts c h =
    let (w, more) = and_yes (word_at (codes "async") c) _ h in
    let (f, line) = and_yes (sees kind.Function (after c)) _ more in
    (w, saw (after c) kind.Function f, not_yes (breaks_at (after c)) line)
  where
    not_yes : (b : Bool) → not b ≡ true → b ≡ false
    not_yes true e = cc
    not_yes false e = refl

pub async_begins : (c : Place) → is_async_function c ≡ true → begins_function c ≡ true
unfolding begins_function
async_begins c h = rw h refl

pub function_begins : (c : Place) → kind_at c ≡ kind.Function → begins_function c ≡ true
unfolding begins_function same_kind
function_begins c h = second (is_async_function c) (sees kind.Function c) (rw h refl)
  where
    second : (a b : Bool) → b ≡ true → (a || b) ≡ true
    second true b e = refl
    second false b e = e

-- without `async` it is the word of functions
pub function_kind : (c : Place) → begins_function c ≡ true → is_async_function c ≡ false → kind_at c ≡ kind.Function
unfolding begins_function
function_kind c b h = saw c kind.Function (other (is_async_function c) (sees kind.Function c) b h)
  where
    other : (a b : Bool) → (a || b) ≡ true → a ≡ false → b ≡ true
    other true b e g = cc
    other false b e g = e

-- `function` itself is no `async`
pub plain_function : (c : Place) → kind_at c ≡ kind.Function → is_async_function c ≡ false
plain_function c e = by_test (is_async_function c) refl
  where
    by_test : (b : Bool) → is_async_function c ≡ b → is_async_function c ≡ false
    by_test false h = h
    by_test true h = let g = sym (async_kind c h) ∙ e in cc

-- neither begins with `await`
pub function_no_await : (c : Place) → begins_function c ≡ true → sees kind.Await c ≡ false
unfolding same_kind
function_no_await c b = by_test (is_async_function c) refl
  where
    by_test : (v : Bool) → is_async_function c ≡ v → sees kind.Await c ≡ false
    by_test true h = rw (async_kind c h) refl
    by_test false h = rw (function_kind c b h) refl

-- `async` is reserved nowhere
pub unreserved : (f : Context) (text : Text) → bytes_eq text (codes "async") ≡ true → is_name f text ≡ true
unfolding is_name is_clean_name is_identifier is_reserved
unreserved f text e = rw ((bytes_eq-Decides text (codes "async")).0 e) (and_both _ _ (ap not (or_none _ _ (and_no f.strict _ refl) (and_no f.in_generator _ refl))) refl)

named_token : (f : Context) (t : Token) → token_is (codes "async") t ≡ true → token_is_identifier f t ≡ true
named_token f (token.Word (word.Ident text)) e = name_is_free f text (unreserved f text e)
named_token f (token.Word _) e = cc
named_token f _ e = cc

named_first : (f : Context) (ts : List TokenAndSpan) → first_is (codes "async") ts ≡ true → first_is_identifier f ts ≡ true
named_first f [] e = cc
named_first f (t ∷ ts) e = named_token f t.token e

pub word_named : (f : Context) (c : Place) → word_at (codes "async") c ≡ true → name_at f c ≡ true
unfolding identifier_at word_at
word_named f c h = named_first f c.left h

pub async_named : (f : Context) (c : Place) → is_async_function c ≡ true → name_at f c ≡ true
async_named f c h = word_named f c (async_parts c h).0

-- as the rule of functions has it
pub async_stands : (c m : Place) → word_at (codes "async") c ≡ true → m ≡ after c → breaks_at m ≡ false → kind_at m ≡ kind.Function → is_async_function c ≡ true
unfolding is_async_function same_kind
async_stands c m w e l h = rw (w, ap kind_at (sym e) ∙ h, ap breaks_at (sym e) ∙ l) refl

-- ---- two tests

pub or_later : (a b : Bool) → b ≡ true → (a || b) ≡ true
or_later true b h = refl
or_later false b h = h

pub or_earlier : (a b : Bool) → (a || b) ≡ true → b ≡ false → a ≡ true
or_earlier true b h g = refl
or_earlier false b h g = let e : true ≡ false = sym h ∙ g in cc

-- what is tested in module code
pub tested : (m : Bool) (b : Bool) → (m ≡ true → b ≡ true) → (not m || b) ≡ true
tested true b h = h refl
tested false b h = refl
