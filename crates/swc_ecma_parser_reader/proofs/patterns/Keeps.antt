-- Whatever a binding pattern is read as, or refused, the tokens that are left are the last of those that were, and no recorded fault is lost.
use Rattle.std.proofs.Common.{◌≡◌, true, [], refl}
use Rattle.std.specs.Prelude.{◌||◌}
use Rattle.swc_ecma_parser_common.specs.declared.span.Span.{Span}
use Rattle.swc_ecma_parser_error.specs.Kind as faults
use Rattle.swc_ecma_parser_token.specs.declared.kind.TokenKind.TheVariants as kind
use Rattle.swc_ecma_parser_model.specs.Tree as tree
use Rattle.swc_ecma_parser_model.specs.Tree.{Tree, Text}
use Rattle.swc_ecma_parser_grammar.specs.Looks.{kind_at, sees, span_at}
use Rattle.swc_ecma_parser_grammar.specs.Names.{may_bind_await}
use Rattle.swc_ecma_parser_grammar.specs.language.Contexts.{with_in}
use Rattle.swc_ecma_parser_grammar.specs.language.Goals.{Class, assignment}
use Rattle.swc_ecma_parser_reader.specs.State.{State, Reader, moved, coded, within, expect, name, loop, as_name}
use Rattle.swc_ecma_parser_reader.specs.Expressions.{Cover, inside, key}
use Rattle.swc_ecma_parser_reader.specs.Patterns.{binding, rest, array_turn, elements, parameters_turn, parameter_list, array, rest_name, rest_property, key_value, initialized_name, bare_name, named, bare_key, behind_key, property, object_turn, properties, object, pattern_level, initialized, element_level}
use Rattle.swc_ecma_parser_reader.proofs.Meets.{Answers, answers_then, answers_if, saw}
use Rattle.swc_ecma_parser_reader.proofs.Behind.{NothingLost, Kept, Lost, Passes, flagged_kept, behind_after, behind_seen, wanted_keeps, expect_keeps, name_keeps, loop_keeps, as_name_keeps}
use Rattle.swc_ecma_parser_reader.proofs.expressions.Keeps.{inside_keeps, key_keeps}
use Rattle.swc_ecma_parser_reader.proofs.expressions.KeepSteps.{unexpected_keeps}

binding_keeps : (b : State) (s : State) → NothingLost b s → Answers (Kept b) (Lost b) (binding s)
unfolding binding
binding_keeps b s f = answers_then _ _ (name faults.ExpectedIdent s) _ (name_keeps b s f faults.ExpectedIdent) (λ i t g. g)

module _ (inner : Class → Reader Tree) (cover : Reader Cover) (pattern element : Reader Tree)
    (below : (class : Class) → Passes (inner class)) (below_cover : Passes cover) (below_pattern : Passes pattern) (below_element : Passes element) where
  -- ---- what is read one level further in

  module _ (b : State) where
    within_pattern_keeps : (s : State) → NothingLost b s → Answers (Kept b) (Lost b) (within with_in pattern s)
    within_pattern_keeps s f = answers_then (Kept b) _ (pattern (coded (with_in s.code) s)) _ (below_pattern b (coded (with_in s.code) s) f) (λ p t k. flagged_kept b s t f k)

    within_element_keeps : (s : State) → NothingLost b s → Answers (Kept b) (Lost b) (within with_in element s)
    within_element_keeps s f = answers_then (Kept b) _ (element (coded (with_in s.code) s)) _ (below_element b (coded (with_in s.code) s) f) (λ p t k. flagged_kept b s t f k)

    value_keeps : (s : State) → NothingLost b s → Answers (Kept b) (Lost b) (inside inner cover assignment s)
    value_keeps s f = inside_keeps inner cover below below_cover assignment b s f

    rest_keeps : (s : State) → sees kind.DotDotDot s.at ≡ true → NothingLost b s → Answers (Kept b) (Lost b) (rest inner cover pattern element s)
    unfolding rest
    rest_keeps s e f = answers_then _ _ (within with_in pattern (moved s)) _ (within_pattern_keeps (moved s) (behind_seen b s kind.DotDotDot e refl f)) (λ p t g. g)

    many_elements_keeps : (s : State) → NothingLost b s → Answers (Kept b) (Lost b) (loop (array_turn inner cover pattern element) [] s)
    unfolding array_turn
    many_elements_keeps s f = loop_keeps (array_turn inner cover pattern element) b
        (λ found t g. answers_if _ _ (sees kind.RBracket t.at) _ _ (λ seen. behind_seen b t kind.RBracket seen refl g) (λ _.
        answers_if _ _ (sees kind.Comma t.at) _ _ (λ seen. behind_seen b t kind.Comma seen refl g) (λ _.
        answers_if _ _ (sees kind.DotDotDot t.at) _ _
        (λ e. answers_then _ _ (rest inner cover pattern element t) _ (rest_keeps t e g) (λ x u k.
        answers_then _ _ (expect kind.RBracket u) _ (expect_keeps b u k kind.RBracket refl) (λ _ v j. j)))
        (λ _. answers_then _ _ (within with_in element t) _ (within_element_keeps t g) (λ x u k.
        answers_if _ _ (sees kind.RBracket u.at) _ _ (λ _. k) (λ _. answers_then _ _ (expect kind.Comma u) _ (expect_keeps b u k kind.Comma refl) (λ _ v j. j))))))) [] s f

    many_parameters_keeps : (s : State) → NothingLost b s → Answers (Kept b) (Lost b) (loop (parameters_turn inner cover pattern element) [] s)
    unfolding parameters_turn
    many_parameters_keeps s f = loop_keeps (parameters_turn inner cover pattern element) b
        (λ found t g. answers_if _ _ (sees kind.RParen t.at) _ _ (λ seen. behind_seen b t kind.RParen seen refl g) (λ _.
        answers_if _ _ (sees kind.DotDotDot t.at) _ _
        (λ e. answers_then _ _ (rest inner cover pattern element t) _ (rest_keeps t e g) (λ x u k.
        answers_then _ _ (expect kind.RParen u) _ (expect_keeps b u k kind.RParen refl) (λ _ v j. j)))
        (λ _. answers_then _ _ (within with_in element t) _ (within_element_keeps t g) (λ x u k.
        answers_if _ _ (sees kind.RParen u.at) _ _ (λ _. k) (λ _. answers_then _ _ (expect kind.Comma u) _ (expect_keeps b u k kind.Comma refl) (λ _ v j. j)))))) [] s f

    -- ---- properties

    rest_name_keeps : (s : State) → NothingLost b s → Answers (Kept b) (Lost b) (rest_name inner cover pattern element s)
    unfolding rest_name
    rest_name_keeps s f = answers_if _ _ (sees kind.LBracket s.at || sees kind.LBrace s.at) _ _ (λ _. wanted_keeps _ faults.ExpectedIdent b s f)
        (λ _. within_pattern_keeps s f)

    rest_property_keeps : (s : State) → sees kind.DotDotDot s.at ≡ true → NothingLost b s → Answers (Kept b) (Lost b) (rest_property inner cover pattern element s)
    unfolding rest_property
    rest_property_keeps s e f = answers_then _ _ (rest_name inner cover pattern element (moved s)) _ (rest_name_keeps (moved s) (behind_seen b s kind.DotDotDot e refl f)) (λ p t g. g)

    named_keeps : (start at : Span) (text : Text) (s : State) → NothingLost b s → Answers (Kept b) (Lost b) (named inner cover pattern element start at text s)
    unfolding named initialized_name bare_name
    named_keeps start at text s f = answers_then _ _ (as_name may_bind_await at text s) _ (as_name_keeps b s f may_bind_await at text) (λ _ t g.
        answers_if _ _ (sees kind.Assign t.at) _ _
        (λ seen. answers_then _ _ (inside inner cover assignment (moved t)) _ (value_keeps (moved t) (behind_seen b t kind.Assign seen refl g)) (λ e u l. l)) (λ _. g))

    bare_key_keeps : (start : Span) (x : Tree) (s : State) → NothingLost b s → Answers (Kept b) (Lost b) (bare_key inner cover pattern element start x s)
    bare_key_keeps start (tree.ident at text) s f = named_keeps start at text s f
    bare_key_keeps start _ s f = unexpected_keeps b s f _

    behind_key_keeps : (start : Span) (x : Tree) (s : State) → NothingLost b s → Answers (Kept b) (Lost b) (behind_key inner cover pattern element start x s)
    unfolding behind_key key_value
    behind_key_keeps start x s f = answers_if _ _ (sees kind.Colon s.at) _ _
        (λ seen. answers_then _ _ (within with_in element (moved s)) _ (within_element_keeps (moved s) (behind_seen b s kind.Colon seen refl f)) (λ p t g. g)) (λ _. bare_key_keeps start x s f)

    property_keeps : (s : State) → NothingLost b s → Answers (Kept b) (Lost b) (property inner cover pattern element s)
    unfolding property
    property_keeps s f = answers_then _ _ (key inner cover s) _ (key_keeps inner cover below below_cover b s f) (λ x t g. behind_key_keeps (span_at s.at) x t g)

    many_properties_keeps : (s : State) → NothingLost b s → Answers (Kept b) (Lost b) (loop (object_turn inner cover pattern element) [] s)
    unfolding object_turn
    many_properties_keeps s f = loop_keeps (object_turn inner cover pattern element) b
        (λ found t g. answers_if _ _ (sees kind.RBrace t.at) _ _ (λ seen. behind_seen b t kind.RBrace seen refl g) (λ _.
        answers_if _ _ (sees kind.DotDotDot t.at) _ _
        (λ e. answers_then _ _ (rest_property inner cover pattern element t) _ (rest_property_keeps t e g) (λ x u k.
        answers_then _ _ (expect kind.RBrace u) _ (expect_keeps b u k kind.RBrace refl) (λ _ v j. j)))
        (λ _. answers_then _ _ (property inner cover pattern element t) _ (property_keeps t g) (λ x u k.
        answers_if _ _ (sees kind.RBrace u.at) _ _ (λ _. k) (λ _. answers_then _ _ (expect kind.Comma u) _ (expect_keeps b u k kind.Comma refl) (λ _ v j. j)))))) [] s f

  -- ---- arrays, parameters, objects and defaults

  module _ (b : State) where
    elements_keeps : (s : State) → kind_at s.at ≡ kind.LBracket → NothingLost b s → Answers (Kept b) (Lost b) (elements inner cover pattern element s)
    unfolding elements
    elements_keeps s e f =
        let g = behind_after b s e refl f in
        many_elements_keeps b (moved s) g

    array_keeps : (s : State) → kind_at s.at ≡ kind.LBracket → NothingLost b s → Answers (Kept b) (Lost b) (array inner cover pattern element s)
    unfolding array
    array_keeps s e f = answers_then _ _ (elements inner cover pattern element s) _ (elements_keeps s e f) (λ xs t g. g)

    pub parameter_list_keeps : (s : State) → NothingLost b s → Answers (Kept b) (Lost b) (parameter_list inner cover pattern element s)
    unfolding parameter_list
    parameter_list_keeps s f = answers_then _ _ (expect kind.LParen s) _ (expect_keeps b s f kind.LParen refl) (λ _ t g. many_parameters_keeps b t g)

    properties_keeps : (s : State) → kind_at s.at ≡ kind.LBrace → NothingLost b s → Answers (Kept b) (Lost b) (properties inner cover pattern element s)
    unfolding properties
    properties_keeps s e f =
        let g = behind_after b s e refl f in
        many_properties_keeps b (moved s) g

    object_keeps : (s : State) → kind_at s.at ≡ kind.LBrace → NothingLost b s → Answers (Kept b) (Lost b) (object inner cover pattern element s)
    unfolding object
    object_keeps s e f = answers_then _ _ (properties inner cover pattern element s) _ (properties_keeps s e f) (λ xs t g. g)

    pub pattern_level_keeps : (s : State) → NothingLost b s → Answers (Kept b) (Lost b) (pattern_level inner cover pattern element s)
    unfolding pattern_level
    pattern_level_keeps s f = answers_if _ _ (sees kind.LBracket s.at) _ _ (λ e. array_keeps s (saw s.at kind.LBracket e) f) (λ _.
        answers_if _ _ (sees kind.LBrace s.at) _ _ (λ e. object_keeps s (saw s.at kind.LBrace e) f) (λ _. binding_keeps b s f))

    -- a default stands behind `=`
    initialized_keeps : (start : Span) (p : Tree) (s : State) → kind_at s.at ≡ kind.Assign → NothingLost b s → Answers (Kept b) (Lost b) (initialized inner cover pattern element start p s)
    unfolding initialized
    initialized_keeps start p s e f =
        let g = behind_after b s e refl f in
        answers_then _ _ (inside inner cover assignment (moved s)) _ (value_keeps b (moved s) g) (λ x t k. k)

    pub element_level_keeps : (s : State) → NothingLost b s → Answers (Kept b) (Lost b) (element_level inner cover pattern element s)
    unfolding element_level
    element_level_keeps s f = answers_then _ _ (pattern_level inner cover pattern element s) _ (pattern_level_keeps s f) (λ p t g.
        answers_if _ _ (sees kind.Assign t.at) _ _ (λ e. initialized_keeps (span_at s.at) p t (saw t.at kind.Assign e) g) (λ _. g))
