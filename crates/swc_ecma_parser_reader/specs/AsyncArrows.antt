-- The reader of async arrow functions, and of what stands in parentheses behind `async`: ECMA-262, sections 15.8 and 15.9.
use Rattle.std.specs.Prelude.{Bool, true, not, ◌&&◌, ◌||◌, if◌then◌else◌, is_some, List, [], ◌∷◌, ◌++◌, codes, Option, Some, None, Ok}
use Rattle.swc_ecma_parser_common.specs.declared.span.Span.{Span}
use Rattle.swc_ecma_parser_error.specs.Kind as faults
use Rattle.swc_ecma_parser_token.specs.declared.kind.TokenKind.TheVariants as kind
use Rattle.swc_ecma_parser_input.specs.declared.context.Context.{Context}
use Rattle.swc_ecma_parser_input.specs.Place.{Place, after}
use Rattle.swc_ecma_parser_model.specs.Tree as tree
use Rattle.swc_ecma_parser_model.specs.Tree.{Tree, listed}
use Rattle.swc_ecma_parser_model.specs.Targets.{as_target, rest_of, if_binds, as_parameter}
use Rattle.swc_ecma_parser_grammar.specs.Looks.{breaks_at, sees, span_at}
use Rattle.swc_ecma_parser_grammar.specs.Names.{name_at}
use Rattle.swc_ecma_parser_grammar.specs.Follows.{word_at}
use Rattle.swc_ecma_parser_grammar.specs.language.Goals.{Class}
use Rattle.swc_ecma_parser_reader.specs.Methods.{FunctionForm, parameter_form}
use Rattle.swc_ecma_parser_reader.specs.Operands.{Cover, close, covered, ident_expr, continued}
use Rattle.swc_ecma_parser_reader.specs.Arrows.{parameter_or, arrow_from}
use Rattle.swc_ecma_parser_reader.specs.State.{Reader, ◌>>=◌, ◌>>◌, pure, span_here, since, skip, moved, refuse, expect, Step, More, Done, loop}

-- `async` and a name on its line
unfoldable pub begins_async_arrow : Context → Place → Bool
begins_async_arrow f c = word_at (codes "async") c && (not (breaks_at (after c)) && name_at f (after c))

-- ---- arguments that may still become parameters: CoverCallExpressionAndAsyncArrowHead of section 15.9

-- an argument, with the dots of a spread
pub record Argument : Type 0 where
  pub dots : Option Span
  pub cover : Cover

-- a comma stands behind it
abbrev pub followed : Argument → Argument
followed a = record { dots = a.dots; cover = record { x = a.cover.x; mark = a.cover.mark; comma = a.cover.comma || is_some a.dots } }

-- as an argument of a call
abbrev pub closed_argument : Argument → Reader Tree
closed_argument a = do
  x ← close a.cover
  pure (tree.element a.dots x)

-- each by itself; the first that is none is refused
abbrev pub closed_arguments : List Argument → Reader (List Tree)
closed_arguments [] = pure []
closed_arguments (a ∷ rest) = do
  x ← closed_argument a
  xs ← closed_arguments rest
  pure (x ∷ xs)

-- as a parameter, with a default or without one; with dots it takes the rest
abbrev pub argument_pattern : Option Span → Tree → Option Tree
argument_pattern None x = as_parameter x
argument_pattern (Some dots) x = if_binds (rest_of dots x (as_target x))

-- no comma stands behind a rest, which is the last
unfoldable pub argument_parameter : Argument → Reader Tree
argument_parameter a = parameter_or a.cover.x (if a.cover.comma then None else argument_pattern a.dots a.cover.x)

abbrev pub argument_parameters : List Argument → Reader (List Tree)
argument_parameters [] = pure []
argument_parameters (a ∷ rest) = do
  p ← argument_parameter a
  ps ← argument_parameters rest
  pure (p ∷ ps)

-- as a call of `async`
unfoldable pub async_called : Span → Tree → List Argument → Reader Tree
async_called start x found = do
  xs ← closed_arguments found
  span ← since start
  pure (tree.call span x (listed xs))

-- ---- what is read one level further in: expressions, and assignment expressions that may still become patterns

module _ (inner : Class → Reader Tree) (cover : Reader Cover) where
  unfoldable pub spread_argument : Reader Argument
  spread_argument = λ s. (do
    skip
    v ← covered inner cover
    pure (record { dots = Some (span_at s.at); cover = v })) s

  unfoldable pub plain_argument : Reader Argument
  plain_argument = do
    v ← covered inner cover
    pure (record { dots = None; cover = v })

  unfoldable pub argument : Reader Argument
  argument = λ s. if sees kind.DotDotDot s.at then spread_argument s else plain_argument s

  -- behind an argument a comma stands, or the end
  abbrev pub behind_either : List Argument → Argument → Reader (Step (List Argument) (List Argument))
  behind_either found a = λ s. if sees kind.RParen s.at then Ok (More (found ++ a ∷ []), s) else (do
    expect kind.Comma
    pure (More (found ++ followed a ∷ []))) s

  unfoldable pub either_turn : List Argument → Reader (Step (List Argument) (List Argument))
  either_turn found = λ s. if sees kind.RParen s.at then Ok (Done found, moved s) else (do
    a ← argument
    behind_either found a) s

  -- from `(` to `)`
  unfoldable pub either_arguments : Reader (List Argument)
  either_arguments = skip >> loop either_turn []

-- ---- with the parameters and blocks of arrow functions

module _ (inner : Class → Reader Tree) (function : FunctionForm → Reader Tree) where
  -- no expression but an arrow function has a name on the line of `async`: `=>` is wanted behind it
  unfoldable pub async_named_arrow : Reader Tree
  async_named_arrow = do
    start ← span_here
    skip
    p ← function parameter_form
    λ s. if sees kind.Arrow s.at then arrow_from inner function true start (p ∷ []) s else refuse faults.Expected s

  module _ (cover : Reader Cover) where
    -- as parameters before `=>`, else as a call, with what goes on with it
    abbrev pub behind_async : Span → Tree → List Argument → Reader Tree
    behind_async start x found = λ s. if sees kind.Arrow s.at then (do
      ps ← argument_parameters found
      arrow_from inner function true start ps) s else (do
        e ← async_called start x found
        continued inner cover start e) s

    unfoldable pub async_grouped : Reader Tree
    async_grouped = do
      start ← span_here
      x ← ident_expr
      found ← either_arguments inner cover
      behind_async start x found
