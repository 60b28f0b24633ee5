-- The reader of binding patterns, rule by rule: ECMA-262, section 14.3.3. They are read from the tokens, with a default where one
-- stands. What is read one level further in is read by readers of expressions, of patterns and of patterns with their defaults.
use Rattle.std.specs.Prelude.{◌||◌, if◌then◌else◌, List, [], ◌∷◌, ◌++◌, Ok}
use Rattle.swc_ecma_parser_common.specs.declared.span.Span.{Span}
use Rattle.swc_ecma_parser_error.specs.Kind as faults
use Rattle.swc_ecma_parser_token.specs.declared.kind.TokenKind.TheVariants as kind
use Rattle.swc_ecma_parser_model.specs.Tree as tree
use Rattle.swc_ecma_parser_model.specs.Tree.{Tree, Text, listed}
use Rattle.swc_ecma_parser_grammar.specs.Looks.{sees}
use Rattle.swc_ecma_parser_grammar.specs.Names.{may_bind_await}
use Rattle.swc_ecma_parser_grammar.specs.language.Contexts.{with_in}
use Rattle.swc_ecma_parser_grammar.specs.language.Goals.{Class, assignment}
use Rattle.swc_ecma_parser_reader.specs.State.{Reader, ◌>>=◌, ◌>>◌, pure, span_here, since, skip, moved, within, wanted, expect, name, as_name, Step, More, Done, loop}
use Rattle.swc_ecma_parser_reader.specs.Expressions.{Cover, inside, key}

-- a name
unfoldable pub binding : Reader Tree
binding = do
  i ← name faults.ExpectedIdent
  pure (tree.ident_pat i.span i.sym)

module _ (inner : Class → Reader Tree) (cover : Reader Cover) (pattern element : Reader Tree) where
  -- ---- arrays

  -- the rest, which has no default
  unfoldable pub rest : Reader Tree
  rest = do
    start ← span_here
    skip
    p ← within with_in pattern
    span ← since start
    pure (tree.rest_pat span p)

  -- behind an element a comma stands, or the end
  abbrev pub behind_element : List Tree → Reader (Step (List Tree) (List Tree))
  behind_element found = λ s. if sees kind.RBracket s.at then Ok (More found, s) else (do
    expect kind.Comma
    pure (More found)) s

  -- the rest is the last: no comma stands behind it
  abbrev pub behind_rest : List Tree → Reader (Step (List Tree) (List Tree))
  behind_rest found = do
    expect kind.RBracket
    pure (Done found)

  -- an element, or the comma behind a hole
  unfoldable pub array_turn : List Tree → Reader (Step (List Tree) (List Tree))
  array_turn found = λ s.
      if sees kind.RBracket s.at then Ok (Done found, moved s)
      else if sees kind.Comma s.at then Ok (More (found ++ tree.absent ∷ []), moved s)
      else if sees kind.DotDotDot s.at then (do
        x ← rest
        behind_rest (found ++ x ∷ [])) s
      else (do
        x ← within with_in element
        behind_element (found ++ x ∷ [])) s

  -- from `[` on
  unfoldable pub elements : Reader (List Tree)
  elements = skip >> loop array_turn []

  -- ---- the parameters of a function: section 15.1

  -- behind a parameter a comma stands, or the end
  abbrev pub behind_parameter : List Tree → Reader (Step (List Tree) (List Tree))
  behind_parameter found = λ s. if sees kind.RParen s.at then Ok (More found, s) else (do
    expect kind.Comma
    pure (More found)) s

  -- the rest is the last: no comma stands behind it
  abbrev pub behind_rest_parameter : List Tree → Reader (Step (List Tree) (List Tree))
  behind_rest_parameter found = do
    expect kind.RParen
    pure (Done found)

  unfoldable pub parameters_turn : List Tree → Reader (Step (List Tree) (List Tree))
  parameters_turn found = λ s.
      if sees kind.RParen s.at then Ok (Done found, moved s)
      else if sees kind.DotDotDot s.at then (do
        x ← rest
        behind_rest_parameter (found ++ x ∷ [])) s
      else (do
        x ← within with_in element
        behind_parameter (found ++ x ∷ [])) s

  -- from `(` to `)`
  unfoldable pub parameter_list : Reader (List Tree)
  parameter_list = expect kind.LParen >> loop parameters_turn []

  unfoldable pub array : Reader Tree
  array = do
    start ← span_here
    found ← elements
    span ← since start
    pure (tree.array_pat span (listed found))

  -- ---- objects

  -- the rest of an object is a name
  unfoldable pub rest_name : Reader Tree
  rest_name = λ s. if sees kind.LBracket s.at || sees kind.LBrace s.at then wanted faults.ExpectedIdent s else within with_in pattern s

  unfoldable pub rest_property : Reader Tree
  rest_property = do
    start ← span_here
    skip
    p ← rest_name
    span ← since start
    pure (tree.rest_pat span p)

  unfoldable pub key_value : Span → Tree → Reader Tree
  key_value start x = do
    skip
    p ← within with_in element
    span ← since start
    pure (tree.key_value_pat_prop span x p)

  -- a name that is its own key, with its default
  unfoldable pub initialized_name : Span → Span → Text → Reader Tree
  initialized_name start at text = do
    skip
    value ← inside inner cover assignment
    span ← since start
    pure (tree.assign_pat_prop span (tree.ident_pat at text) value)

  -- and without one
  unfoldable pub bare_name : Span → Span → Text → Reader Tree
  bare_name start at text = do
    span ← since start
    pure (tree.assign_pat_prop span (tree.ident_pat at text) tree.absent)

  unfoldable pub named : Span → Span → Text → Reader Tree
  named start at text = do
    as_name may_bind_await at text
    λ s. if sees kind.Assign s.at then initialized_name start at text s else bare_name start at text s

  abbrev pub bare_key : Span → Tree → Reader Tree
  bare_key start (tree.ident at text) = named start at text
  bare_key start _ = wanted faults.Unexpected

  unfoldable pub behind_key : Span → Tree → Reader Tree
  behind_key start x = λ s. if sees kind.Colon s.at then key_value start x s else bare_key start x s

  unfoldable pub property : Reader Tree
  property = do
    start ← span_here
    x ← key inner cover
    behind_key start x

  -- behind a property a comma stands, or the end
  abbrev pub behind_property : List Tree → Reader (Step (List Tree) (List Tree))
  behind_property found = λ s. if sees kind.RBrace s.at then Ok (More found, s) else (do
    expect kind.Comma
    pure (More found)) s

  abbrev pub behind_rest_property : List Tree → Reader (Step (List Tree) (List Tree))
  behind_rest_property found = do
    expect kind.RBrace
    pure (Done found)

  unfoldable pub object_turn : List Tree → Reader (Step (List Tree) (List Tree))
  object_turn found = λ s.
      if sees kind.RBrace s.at then Ok (Done found, moved s)
      else if sees kind.DotDotDot s.at then (do
        x ← rest_property
        behind_rest_property (found ++ x ∷ [])) s
      else (do
        x ← property
        behind_property (found ++ x ∷ [])) s

  -- from `{` on
  unfoldable pub properties : Reader (List Tree)
  properties = skip >> loop object_turn []

  unfoldable pub object : Reader Tree
  object = do
    start ← span_here
    found ← properties
    span ← since start
    pure (tree.object_pat span (listed found))

  -- ---- patterns without and with a default

  unfoldable pub pattern_level : Reader Tree
  pattern_level = λ s.
      if sees kind.LBracket s.at then array s
      else if sees kind.LBrace s.at then object s
      else binding s

  unfoldable pub initialized : Span → Tree → Reader Tree
  initialized start p = do
    skip
    value ← inside inner cover assignment
    span ← since start
    pure (tree.assign_pat span p value)

  -- a default stands at the level of its pattern, and its value one level further in
  unfoldable pub element_level : Reader Tree
  element_level = do
    start ← span_here
    p ← pattern_level
    λ s. if sees kind.Assign s.at then initialized start p s else Ok (p, s)
