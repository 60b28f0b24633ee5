-- The reader of what stands before the key of a method: ECMA-262, section 15.4; and what is asked of the reader of functions.
use Rattle.std.specs.Prelude.{Bool, true, false, not, ◌&&◌, if◌then◌else◌, codes, Ok}
use Rattle.swc_ecma_parser_common.specs.declared.span.Span.{Span}
use Rattle.swc_ecma_parser_token.specs.declared.kind.TokenKind.{TokenKind}
use Rattle.swc_ecma_parser_token.specs.declared.kind.TokenKind.TheVariants as kind
use Rattle.swc_ecma_parser_input.specs.Place.{Place, after}
use Rattle.swc_ecma_parser_model.specs.Tree.{Tree, Text}
use Rattle.swc_ecma_parser_grammar.specs.Looks.{kind_at, breaks_at, sees}
use Rattle.swc_ecma_parser_grammar.specs.Follows.{word_at}
use Rattle.swc_ecma_parser_reader.specs.State.{Reader, ◌>>=◌, pure, moved, ◌>>◌}

-- an accessor, or a method
pub data MethodForm : Type 0 where
  getter_form : MethodForm
  setter_form : MethodForm
  method_form : (is_async is_generator : Bool) → MethodForm

-- A function or a class that is an expression; a method that begins at a span, from behind its key; a pattern that an arrow function
-- takes as it stands; and the block of an arrow function.
pub data FunctionForm : Type 0 where
  expression_form : FunctionForm
  class_form : FunctionForm
  property_form : MethodForm → Span → Tree → FunctionForm
  parameter_form : FunctionForm
  block_form : (is_async : Bool) → FunctionForm

-- A word before one of these is a key.
abbrev pub ends_key : TokenKind → Bool
ends_key kind.LParen = true
ends_key kind.Comma = true
ends_key kind.Colon = true
ends_key kind.RBrace = true
ends_key kind.Assign = true
ends_key _ = false

-- this word, and no key
unfoldable pub modifies : Text → Place → Bool
modifies text c = word_at text c && not (ends_key (kind_at (after c)))

-- `async` stands on the line of what follows it
unfoldable pub begins_async_method : Place → Bool
begins_async_method c = modifies (codes "async") c && not (breaks_at (after c))

-- the `*` of a generator, if one stands here
unfoldable pub star : Reader Bool
star = λ s. if sees kind.Mul s.at then Ok (true, moved s) else Ok (false, s)

unfoldable pub starred : (is_async : Bool) → Reader MethodForm
starred is_async = do
  is_generator ← star
  pure (method_form is_async is_generator)

-- what stands before a key, if anything does
unfoldable pub method_words : Reader MethodForm
method_words = λ s.
    if modifies (codes "get") s.at then Ok (getter_form, moved s)
    else if modifies (codes "set") s.at then Ok (setter_form, moved s)
    else if begins_async_method s.at then starred true (moved s)
    else starred false s

-- nothing does
abbrev pub is_bare : MethodForm → Bool
is_bare (method_form false false) = true
is_bare _ = false
