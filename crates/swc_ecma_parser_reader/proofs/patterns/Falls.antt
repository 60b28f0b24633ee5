-- A pattern takes a token at least, with a default or without, and no reader of one puts tokens back.
use Rattle.std.proofs.Common.{◌≢◌, List, [], ◌∷◌, ◌++◌, length, arith}
use Rattle.std.specs.Prelude.{◌||◌}
use Rattle.swc_ecma_parser_common.specs.declared.span.Span.{Span}
use Rattle.swc_ecma_parser_error.specs.Kind as faults
use Rattle.swc_ecma_parser_token.specs.declared.kind.TokenKind.TheVariants as kind
use Rattle.swc_ecma_parser_input.specs.Place.{after}
use Rattle.swc_ecma_parser_model.specs.Tree as tree
use Rattle.swc_ecma_parser_model.specs.Tree.{Tree, Text}
use Rattle.swc_ecma_parser_grammar.specs.Looks.{kind_at, sees, span_at}
use Rattle.swc_ecma_parser_grammar.specs.Names.{may_bind_await}
use Rattle.swc_ecma_parser_grammar.specs.language.Contexts.{with_in}
use Rattle.swc_ecma_parser_grammar.specs.language.Goals.{Class, assignment}
use Rattle.swc_ecma_parser_reader.specs.State.{State, Reader, moved, coded, within, expect, name, as_name}
use Rattle.swc_ecma_parser_reader.specs.Expressions.{Cover, inside, key}
use Rattle.swc_ecma_parser_reader.specs.Patterns.{binding, rest, behind_element, behind_rest, array_turn, elements, behind_parameter, behind_rest_parameter, parameters_turn, parameter_list, array, rest_name, rest_property, key_value, initialized_name, bare_name, named, bare_key, behind_key, property, behind_property, behind_rest_property, object_turn, properties, object, pattern_level, initialized, element_level}
use Rattle.swc_ecma_parser_reader.proofs.Takes.{Falls, falls_then, falls_last, falls_coded, falls_if, less, falls_next, moves, falls_past, falls_moved, wanted_falls, expect_falls, name_falls, loop_falls}
use Rattle.swc_ecma_parser_reader.proofs.expressions.Falls.{no_end, falls_when, expect_takes, inside_falls, key_falls, as_name_falls}

binding_falls : (s : State) → Falls 1 (length s.at.left) (binding s)
unfolding binding
binding_falls s = falls_last 1 (length s.at.left) (name faults.ExpectedIdent s) _ (name_falls faults.ExpectedIdent s)

-- `(` is taken: where it does not stand the list is refused
opened_falls : (s : State) → Falls 1 (length s.at.left) (expect kind.LParen s)
opened_falls s = expect_takes kind.LParen (λ z. cc) s

module _ (inner : Class → Reader Tree) (falls : (class : Class) (s : State) → Falls 1 (length s.at.left) (inner class s))
    (cover : Reader Cover) (falls_cover : (s : State) → Falls 1 (length s.at.left) (cover s))
    (pattern : Reader Tree) (pattern_falls : (s : State) → Falls 1 (length s.at.left) (pattern s))
    (element : Reader Tree) (element_falls : (s : State) → Falls 1 (length s.at.left) (element s)) where
  within_pattern_falls : (s : State) → Falls 1 (length s.at.left) (within with_in pattern s)
  within_pattern_falls s = falls_coded 1 (length s.at.left) (pattern (coded (with_in s.code) s)) _ _ (pattern_falls (coded (with_in s.code) s))

  within_element_falls : (s : State) → Falls 1 (length s.at.left) (within with_in element s)
  within_element_falls s = falls_coded 1 (length s.at.left) (element (coded (with_in s.code) s)) _ _ (element_falls (coded (with_in s.code) s))

  -- a value behind `=`
  value_falls : (s : State) → Falls 1 (length s.at.left) (inside inner cover assignment s)
  value_falls s = inside_falls inner cover falls falls_cover assignment s

  -- ---- arrays

  pub rest_falls : (s : State) → Falls 1 (length s.at.left) (rest inner cover pattern element s)
  unfolding rest
  rest_falls s = falls_moved 1 s _ (falls_last 1 (length (after s.at).left) (within with_in pattern (moved s)) _ (within_pattern_falls (moved s)))

  behind_element_falls : (found : List Tree) (s : State) → Falls 0 (length s.at.left) (behind_element inner cover pattern element found s)
  behind_element_falls found s = falls_if 0 (length s.at.left) (sees kind.RBracket s.at) _ _ (omega arith)
      (falls_last 0 (length s.at.left) (expect kind.Comma s) _ (expect_falls kind.Comma s))

  behind_rest_falls : (found : List Tree) (s : State) → Falls 0 (length s.at.left) (behind_rest inner cover pattern element found s)
  behind_rest_falls found s = falls_last 0 (length s.at.left) (expect kind.RBracket s) _ (expect_falls kind.RBracket s)

  array_turn_falls : (found : List Tree) (s : State) → Falls 0 (length s.at.left) (array_turn inner cover pattern element found s)
  unfolding array_turn
  array_turn_falls found s = falls_if 0 (length s.at.left) (sees kind.RBracket s.at) _ _ (let m = moves s.at in omega arith)
      (falls_if 0 (length s.at.left) (sees kind.Comma s.at) _ _ (let m = moves s.at in omega arith)
      (falls_if 0 (length s.at.left) (sees kind.DotDotDot s.at) _ _
      (falls_then 0 0 (length s.at.left) (rest inner cover pattern element s) _ (less (length s.at.left) (rest inner cover pattern element s) (rest_falls s)) (λ x t.
      behind_rest_falls (found ++ x ∷ []) t))
      (falls_then 0 0 (length s.at.left) (within with_in element s) _ (less (length s.at.left) (within with_in element s) (within_element_falls s)) (λ x t.
      behind_element_falls (found ++ x ∷ []) t))))

  array_falls : (s : State) → kind_at s.at ≢ kind.End → Falls 1 (length s.at.left) (array inner cover pattern element s)
  unfolding array elements
  array_falls s e = falls_last 1 (length s.at.left) (elements inner cover pattern element s) _
      (falls_past s _ e (loop_falls (array_turn inner cover pattern element) array_turn_falls [] (moved s)))

  -- ---- parameters

  behind_parameter_falls : (found : List Tree) (s : State) → Falls 0 (length s.at.left) (behind_parameter inner cover pattern element found s)
  behind_parameter_falls found s = falls_if 0 (length s.at.left) (sees kind.RParen s.at) _ _ (omega arith)
      (falls_last 0 (length s.at.left) (expect kind.Comma s) _ (expect_falls kind.Comma s))

  behind_rest_parameter_falls : (found : List Tree) (s : State) → Falls 0 (length s.at.left) (behind_rest_parameter inner cover pattern element found s)
  behind_rest_parameter_falls found s = falls_last 0 (length s.at.left) (expect kind.RParen s) _ (expect_falls kind.RParen s)

  parameters_turn_falls : (found : List Tree) (s : State) → Falls 0 (length s.at.left) (parameters_turn inner cover pattern element found s)
  unfolding parameters_turn
  parameters_turn_falls found s = falls_if 0 (length s.at.left) (sees kind.RParen s.at) _ _ (let m = moves s.at in omega arith)
      (falls_if 0 (length s.at.left) (sees kind.DotDotDot s.at) _ _
      (falls_then 0 0 (length s.at.left) (rest inner cover pattern element s) _ (less (length s.at.left) (rest inner cover pattern element s) (rest_falls s)) (λ x t.
      behind_rest_parameter_falls (found ++ x ∷ []) t))
      (falls_then 0 0 (length s.at.left) (within with_in element s) _ (less (length s.at.left) (within with_in element s) (within_element_falls s)) (λ x t.
      behind_parameter_falls (found ++ x ∷ []) t)))

  pub parameter_list_falls : (s : State) → Falls 1 (length s.at.left) (parameter_list inner cover pattern element s)
  unfolding parameter_list
  parameter_list_falls s = falls_next (length s.at.left) (expect kind.LParen s) _ (opened_falls s) (λ _ t.
      loop_falls (parameters_turn inner cover pattern element) parameters_turn_falls [] t)

  -- ---- objects

  rest_name_falls : (s : State) → Falls 1 (length s.at.left) (rest_name inner cover pattern element s)
  unfolding rest_name
  rest_name_falls s = falls_if 1 (length s.at.left) (sees kind.LBracket s.at || sees kind.LBrace s.at) _ _ (wanted_falls Tree 1 (length s.at.left) faults.ExpectedIdent s)
      (within_pattern_falls s)

  pub rest_property_falls : (s : State) → Falls 1 (length s.at.left) (rest_property inner cover pattern element s)
  unfolding rest_property
  rest_property_falls s = falls_moved 1 s _ (falls_last 1 (length (after s.at).left) (rest_name inner cover pattern element (moved s)) _ (rest_name_falls (moved s)))

  key_value_falls : (start : Span) (x : Tree) (s : State) → Falls 0 (length s.at.left) (key_value inner cover pattern element start x s)
  unfolding key_value
  key_value_falls start x s = falls_moved 0 s _ (falls_last 0 (length (after s.at).left) (within with_in element (moved s)) _
      (less (length (after s.at).left) (within with_in element (moved s)) (within_element_falls (moved s))))

  initialized_name_falls : (start at : Span) (text : Text) (s : State) → Falls 0 (length s.at.left) (initialized_name inner cover pattern element start at text s)
  unfolding initialized_name
  initialized_name_falls start at text s = falls_moved 0 s _ (falls_last 0 (length (after s.at).left) (inside inner cover assignment (moved s)) _
      (less (length (after s.at).left) (inside inner cover assignment (moved s)) (value_falls (moved s))))

  named_falls : (start at : Span) (text : Text) (s : State) → Falls 0 (length s.at.left) (named inner cover pattern element start at text s)
  unfolding named bare_name
  named_falls start at text s = falls_then 0 0 (length s.at.left) (as_name may_bind_await at text s) _ (as_name_falls may_bind_await at text s) (λ _ t.
      falls_if 0 (length t.at.left) (sees kind.Assign t.at) _ _ (initialized_name_falls start at text t) (omega arith))

  bare_key_falls : (start : Span) (x : Tree) (s : State) → Falls 0 (length s.at.left) (bare_key inner cover pattern element start x s)
  bare_key_falls start (tree.ident at text) s = named_falls start at text s
  bare_key_falls start _ s = wanted_falls Tree 0 (length s.at.left) faults.Unexpected s

  behind_key_falls : (start : Span) (x : Tree) (s : State) → Falls 0 (length s.at.left) (behind_key inner cover pattern element start x s)
  unfolding behind_key
  behind_key_falls start x s = falls_if 0 (length s.at.left) (sees kind.Colon s.at) _ _ (key_value_falls start x s) (bare_key_falls start x s)

  pub property_falls : (s : State) → Falls 1 (length s.at.left) (property inner cover pattern element s)
  unfolding property
  property_falls s = falls_next (length s.at.left) (key inner cover s) _ (key_falls inner cover falls falls_cover s) (λ x t. behind_key_falls (span_at s.at) x t)

  behind_property_falls : (found : List Tree) (s : State) → Falls 0 (length s.at.left) (behind_property inner cover pattern element found s)
  behind_property_falls found s = falls_if 0 (length s.at.left) (sees kind.RBrace s.at) _ _ (omega arith)
      (falls_last 0 (length s.at.left) (expect kind.Comma s) _ (expect_falls kind.Comma s))

  behind_rest_property_falls : (found : List Tree) (s : State) → Falls 0 (length s.at.left) (behind_rest_property inner cover pattern element found s)
  behind_rest_property_falls found s = falls_last 0 (length s.at.left) (expect kind.RBrace s) _ (expect_falls kind.RBrace s)

  object_turn_falls : (found : List Tree) (s : State) → Falls 0 (length s.at.left) (object_turn inner cover pattern element found s)
  unfolding object_turn
  object_turn_falls found s = falls_if 0 (length s.at.left) (sees kind.RBrace s.at) _ _ (let m = moves s.at in omega arith)
      (falls_if 0 (length s.at.left) (sees kind.DotDotDot s.at) _ _
      (falls_then 0 0 (length s.at.left) (rest_property inner cover pattern element s) _
      (less (length s.at.left) (rest_property inner cover pattern element s) (rest_property_falls s)) (λ x t. behind_rest_property_falls (found ++ x ∷ []) t))
      (falls_then 0 0 (length s.at.left) (property inner cover pattern element s) _ (less (length s.at.left) (property inner cover pattern element s) (property_falls s)) (λ x t.
      behind_property_falls (found ++ x ∷ []) t)))

  object_falls : (s : State) → kind_at s.at ≢ kind.End → Falls 1 (length s.at.left) (object inner cover pattern element s)
  unfolding object properties
  object_falls s e = falls_last 1 (length s.at.left) (properties inner cover pattern element s) _
      (falls_past s _ e (loop_falls (object_turn inner cover pattern element) object_turn_falls [] (moved s)))

  -- ---- patterns without and with a default

  pub pattern_level_falls : (s : State) → Falls 1 (length s.at.left) (pattern_level inner cover pattern element s)
  unfolding pattern_level
  pattern_level_falls s = falls_when 1 (length s.at.left) (sees kind.LBracket s.at) _ _ (λ e. array_falls s (no_end s kind.LBracket (λ z. cc) e)) (λ _.
      falls_when 1 (length s.at.left) (sees kind.LBrace s.at) _ _ (λ e. object_falls s (no_end s kind.LBrace (λ z. cc) e)) (λ _. binding_falls s))

  initialized_falls : (start : Span) (p : Tree) (s : State) → Falls 0 (length s.at.left) (initialized inner cover pattern element start p s)
  unfolding initialized
  initialized_falls start p s = falls_moved 0 s _ (falls_last 0 (length (after s.at).left) (inside inner cover assignment (moved s)) _
      (less (length (after s.at).left) (inside inner cover assignment (moved s)) (value_falls (moved s))))

  pub element_level_falls : (s : State) → Falls 1 (length s.at.left) (element_level inner cover pattern element s)
  unfolding element_level
  element_level_falls s = falls_next (length s.at.left) (pattern_level inner cover pattern element s) _ (pattern_level_falls s) (λ p t.
      falls_if 0 (length t.at.left) (sees kind.Assign t.at) _ _ (initialized_falls (span_at s.at) p t) (omega arith))
