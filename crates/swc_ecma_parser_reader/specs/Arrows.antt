-- The reader of arrow functions, and of what stands in parentheses where one may begin: ECMA-262, sections 13.2.9 and 15.3.
use Rattle.std.specs.Prelude.{Bool, true, false, not, ◌&&◌, if◌then◌else◌, is_some, List, [], ◌∷◌, ◌++◌, Option, Some, None, Ok}
use Rattle.swc_ecma_parser_common.specs.declared.span.Span.{Span}
use Rattle.swc_ecma_parser_error.specs.Kind as faults
use Rattle.swc_ecma_parser_token.specs.declared.kind.TokenKind.TheVariants as kind
use Rattle.swc_ecma_parser_input.specs.declared.context.Context.{Context}
use Rattle.swc_ecma_parser_input.specs.Place.{Place, after}
use Rattle.swc_ecma_parser_model.specs.Tree as tree
use Rattle.swc_ecma_parser_model.specs.Tree.{Tree, listed}
use Rattle.swc_ecma_parser_model.specs.Forms.{span_of, has_plain_params}
use Rattle.swc_ecma_parser_model.specs.Targets.{as_parameter}
use Rattle.swc_ecma_parser_grammar.specs.Looks.{breaks_at, sees}
use Rattle.swc_ecma_parser_grammar.specs.Names.{name_at}
use Rattle.swc_ecma_parser_grammar.specs.Own.{misplaced_directive}
use Rattle.swc_ecma_parser_grammar.specs.language.Goals.{Class, assignment}
use Rattle.swc_ecma_parser_grammar.specs.language.Contexts.{in_arrow, with_in}
use Rattle.swc_ecma_parser_reader.specs.Jumps.{told}
use Rattle.swc_ecma_parser_reader.specs.Methods.{FunctionForm, parameter_form, block_form}
use Rattle.swc_ecma_parser_reader.specs.Operands.{Cover, close, covered, continued}
use Rattle.swc_ecma_parser_reader.specs.State.{Reader, ◌>>=◌, ◌>>◌, pure, span_here, since, skip, within, enclosed, fault_at, wanted, refuse, reject, expect, Step, More, Done, loop}

-- a name before `=>`, on any line
unfoldable pub begins_named_arrow : Context → Place → Bool
begins_named_arrow f c = name_at f c && sees kind.Arrow (after c)

-- ---- what stands in parentheses: parts, each of which may still become a pattern; a rest behind them, if one stands there; and
-- whether a comma stands behind the last part

pub record Parts : Type 0 where
  pub parts : List Cover
  pub rest : Option Tree
  pub comma : Bool

-- the same, with where the first part begins and where the last ends
pub record Group : Type 0 where
  pub parts : List Cover
  pub rest : Option Tree
  pub comma : Bool
  pub first : Span
  pub last : Span

abbrev pub ended : List Cover → Bool → Parts
ended found comma = record { parts = found; rest = None; comma = comma }

abbrev pub with_rest : List Cover → Tree → Parts
with_rest found p = record { parts = found; rest = Some p; comma = false }

abbrev pub group_of : Parts → Span → Span → Group
group_of g first last = record { parts = g.parts; rest = g.rest; comma = g.comma; first = first; last = last }

-- where the parts end
abbrev pub end_here : Reader Span
end_here = λ s. Ok (s.at.last, s)

-- behind a part a comma stands, or the end
abbrev pub behind_part : List Cover → Reader (Step (List Cover) Parts)
behind_part found = λ s. if sees kind.RParen s.at then Ok (Done (ended found false), s) else (do
  expect kind.Comma
  λ t. if sees kind.RParen t.at then Ok (Done (ended found true), t) else Ok (More found, t)) s

-- ---- as an expression

-- each part by itself; the first that is none is refused
abbrev pub closed_parts : List Cover → Reader (List Tree)
closed_parts [] = pure []
closed_parts (v ∷ vs) = do
  x ← close v
  xs ← closed_parts vs
  pure (x ∷ xs)

-- several parts are a sequence: section 13.16
abbrev pub parted : Span → Span → List Tree → Tree
parted first last (x ∷ []) = x
parted first last xs = tree.seq (record { lo = first.lo; hi = last.hi }) (listed xs)

abbrev pub has_parts : List Cover → Bool
has_parts [] = false
has_parts (v ∷ vs) = true

-- parts, no rest, and no comma behind the last
abbrev pub may_stand_alone : Group → Bool
may_stand_alone g = has_parts g.parts && (not (is_some g.rest) && not g.comma)

unfoldable pub closed_group : Span → Group → Reader Tree
closed_group start g = λ s. if may_stand_alone g then (do
  xs ← closed_parts g.parts
  span ← since start
  pure (tree.paren span (parted g.first g.last xs))) s else wanted faults.Unexpected s

-- ---- as parameters

abbrev pub parameter_or : Tree → Option Tree → Reader Tree
parameter_or x (Some p) = pure p
parameter_or x None = reject (fault_at (span_of x) faults.InvalidPat)

unfoldable pub parameter : Cover → Reader Tree
parameter v = parameter_or v.x (if v.comma then None else as_parameter v.x)

abbrev pub rest_list : Option Tree → List Tree
rest_list (Some p) = p ∷ []
rest_list None = []

-- each part as a parameter, with a rest behind them
abbrev pub parameters_of : List Cover → Option Tree → Reader (List Tree)
parameters_of [] rest = pure (rest_list rest)
parameters_of (v ∷ vs) rest = do
  p ← parameter v
  ps ← parameters_of vs rest
  pure (p ∷ ps)

-- ---- what is read one level further in: expressions, what may still become patterns, and the parameters and blocks of arrow functions

module _ (inner : Class → Reader Tree) (function : FunctionForm → Reader Tree) where
  -- a block, or an expression that does not begin as one
  unfoldable pub arrow_body : (is_async : Bool) → Reader Tree
  arrow_body is_async = λ s. if sees kind.LBrace s.at then function (block_form is_async) s else within (λ k. in_arrow k is_async) (enclosed (inner assignment)) s

  -- from `=>` on, which stands on the line of what is before it
  unfoldable pub arrow_from : (is_async : Bool) → Span → List Tree → Reader Tree
  arrow_from is_async start ps = λ s. if breaks_at s.at then refuse faults.LineBreakBeforeArrow s else (do
    skip
    body ← arrow_body is_async
    span ← since start
    told (misplaced_directive (has_plain_params (listed ps)) body)
    pure (tree.arrow span (listed ps) body is_async)) s

  unfoldable pub named_arrow : Reader Tree
  named_arrow = do
    start ← span_here
    p ← function parameter_form
    arrow_from false start (p ∷ [])

  -- a rest with its dots, which is the last
  unfoldable pub rest_part : List Cover → Reader Parts
  rest_part found = do
    start ← span_here
    skip
    p ← within with_in (function parameter_form)
    span ← since start
    pure (with_rest found (tree.rest_pat span p))

  module _ (cover : Reader Cover) where
    unfoldable pub part_turn : List Cover → Reader (Step (List Cover) Parts)
    part_turn found = λ s.
        if sees kind.DotDotDot s.at then (do
          g ← rest_part found
          pure (Done g)) s
        else (do
          v ← covered inner cover
          behind_part (found ++ v ∷ [])) s

    unfoldable pub group_parts : Reader Parts
    group_parts = λ s. if sees kind.RParen s.at then Ok (ended [] false, s) else loop part_turn [] s

    -- from `(` to `)`
    unfoldable pub group : Reader Group
    group = do
      skip
      first ← span_here
      g ← group_parts
      last ← end_here
      expect kind.RParen
      pure (group_of g first last)

    -- as parameters before `=>`, else as an expression, with what goes on with it
    abbrev pub behind_group : Span → Group → Reader Tree
    behind_group start g = λ s. if sees kind.Arrow s.at then (do
      ps ← parameters_of g.parts g.rest
      arrow_from false start ps) s else (do
        e ← closed_group start g
        continued inner cover start e) s

    unfoldable pub grouped : Reader Tree
    grouped = do
      start ← span_here
      g ← group
      behind_group start g
