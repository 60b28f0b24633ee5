-- Binding patterns run forward.
use Rattle.std.proofs.Common.{◌≡◌, ℕ, ◌≤◌, true, [], refl}
use Rattle.std.specs.Prelude.{◌||◌}
use Rattle.swc_ecma_parser_common.specs.declared.span.Span.{Span}
use Rattle.swc_ecma_parser_error.specs.Kind as faults
use Rattle.swc_ecma_parser_token.specs.declared.kind.TokenKind.TheVariants as kind
use Rattle.swc_ecma_parser_input.specs.Place.{after}
use Rattle.swc_ecma_parser_model.specs.Tree as tree
use Rattle.swc_ecma_parser_model.specs.Tree.{Tree, Text}
use Rattle.swc_ecma_parser_grammar.specs.Looks.{sees, span_at}
use Rattle.swc_ecma_parser_grammar.specs.Names.{may_bind_await}
use Rattle.swc_ecma_parser_grammar.specs.language.Contexts.{with_in}
use Rattle.swc_ecma_parser_grammar.specs.language.Goals.{Class, assignment}
use Rattle.swc_ecma_parser_reader.specs.Expressions.{Cover, inside, key}
use Rattle.swc_ecma_parser_span_order.specs.Forward.{is_forward}
use Rattle.swc_ecma_parser_reader.specs.Patterns.{binding, rest, array_turn, elements, parameters_turn, parameter_list, array, rest_name, rest_property, key_value, initialized_name, bare_name, named, bare_key, behind_key, property, object_turn, properties, object, pattern_level, initialized, element_level}
use Rattle.swc_ecma_parser_reader.specs.State.{State, Reader, moved, within, expect, name, as_name, loop}
use Rattle.swc_ecma_parser_reader.proofs.Meets.{Meets, Refuses, meets_then, meets_if, wanted_meets, loop_answers}
use Rattle.swc_ecma_parser_span_order.proofs.Operands.{StraightCover, inside_reads, key_straight}
use Rattle.swc_ecma_parser_span_order.proofs.Places.{far, Past, Ahead, Read, ReadMany, Straight, StraightMany, Part, both, onward, first, next, behind, node, reads, part_of}
use Rattle.swc_ecma_parser_span_order.proofs.Steps.{expect_past, expect_first, name_past, as_name_past, within_reads}
use Rattle.swc_ecma_parser_span_order.proofs.Trees.{one_more}

binding_straight : Straight binding
unfolding binding
binding_straight s f = meets_then _ (name faults.ExpectedIdent s) _ (name_past s f faults.ExpectedIdent) (λ i t h. record { straight = h.straight; reaches = h.reaches; place = h.place })

module _ (inner : Class → Reader Tree) (cover : Reader Cover) (pattern element : Reader Tree)
    (below : (class : Class) → Straight (inner class)) (below_cover : StraightCover cover) (below_pattern : Straight pattern) (below_element : Straight element) where
  -- ---- arrays and parameters

  rest_straight : Straight (rest inner cover pattern element)
  unfolding rest
  rest_straight s f = meets_then _ (within with_in pattern (moved s)) _ (within_reads pattern below_pattern {m = far (after s.at)} with_in (moved s) (onward (behind f))) (λ p t h.
      node (span_at s.at) _ f.begins h.place (λ e. both e h.straight) refl)

  array_turns : (m : ℕ) (s : State) → Past m s.at → Meets (ReadMany m) (loop (array_turn inner cover pattern element) [] s)
  unfolding array_turn
  array_turns m s a = loop_answers (array_turn inner cover pattern element) (ReadMany m) (ReadMany m) Refuses
      (λ found t g. meets_if _ (sees kind.RBracket t.at) _ _ (λ _. record { straight = g.straight; place = next g.place })
      (λ _. meets_if _ (sees kind.Comma t.at) _ _ (λ _. one_more g (record { straight = refl; place = next g.place }))
      (λ _. meets_if _ (sees kind.DotDotDot t.at) _ _
      (λ _. meets_then _ (rest inner cover pattern element t) _ (reads (rest inner cover pattern element) rest_straight {m = m} t (onward g.place)) (λ x u h. let k = one_more g (part_of h) in
      meets_then _ (expect kind.RBracket u) _ (expect_past m kind.RBracket u k.place) (λ _ v j. record { straight = k.straight; place = j })))
      (λ _. meets_then _ (within with_in element t) _ (within_reads element below_element {m = m} with_in t (onward g.place)) (λ x u h. let k = one_more g (part_of h) in
      meets_if _ (sees kind.RBracket u.at) _ _ (λ _. k) (λ _. meets_then _ (expect kind.Comma u) _ (expect_past m kind.Comma u k.place) (λ _ v j. record { straight = k.straight; place = j })))))))
      (λ _. tt) [] s (record { straight = refl; place = a })

  array_straight : Straight (array inner cover pattern element)
  unfolding array elements
  array_straight s f = meets_then _ (loop (array_turn inner cover pattern element) [] (moved s)) _ (array_turns (far (after s.at)) (moved s) (behind f)) (λ xs t h.
      node (span_at s.at) _ f.begins h.place (λ e. both e h.straight) refl)

  parameters_turns : (m : ℕ) (s : State) → Past m s.at → Meets (ReadMany m) (loop (parameters_turn inner cover pattern element) [] s)
  unfolding parameters_turn
  parameters_turns m s a = loop_answers (parameters_turn inner cover pattern element) (ReadMany m) (ReadMany m) Refuses
      (λ found t g. meets_if _ (sees kind.RParen t.at) _ _ (λ _. record { straight = g.straight; place = next g.place })
      (λ _. meets_if _ (sees kind.DotDotDot t.at) _ _
      (λ _. meets_then _ (rest inner cover pattern element t) _ (reads (rest inner cover pattern element) rest_straight {m = m} t (onward g.place)) (λ x u h. let k = one_more g (part_of h) in
      meets_then _ (expect kind.RParen u) _ (expect_past m kind.RParen u k.place) (λ _ v j. record { straight = k.straight; place = j })))
      (λ _. meets_then _ (within with_in element t) _ (within_reads element below_element {m = m} with_in t (onward g.place)) (λ x u h. let k = one_more g (part_of h) in
      meets_if _ (sees kind.RParen u.at) _ _ (λ _. k) (λ _. meets_then _ (expect kind.Comma u) _ (expect_past m kind.Comma u k.place) (λ _ v j. record { straight = k.straight; place = j }))))))
      (λ _. tt) [] s (record { straight = refl; place = a })

  pub parameters_straight : StraightMany (parameter_list inner cover pattern element)
  unfolding parameter_list
  parameters_straight s f = meets_then _ (expect kind.LParen s) _ (expect_first (far (after s.at)) kind.LParen s (first f)) (λ _ t g. parameters_turns (far (after s.at)) t g)

  -- ---- objects

  rest_name_reads : {m : ℕ} (s : State) → Ahead m s.at → Meets (Read m) (rest_name inner cover pattern element s)
  unfolding rest_name
  rest_name_reads s a = meets_if _ (sees kind.LBracket s.at || sees kind.LBrace s.at) _ _ (λ _. wanted_meets _ faults.ExpectedIdent s) (λ _. within_reads pattern below_pattern with_in s a)

  rest_property_straight : Straight (rest_property inner cover pattern element)
  unfolding rest_property
  rest_property_straight s f = meets_then _ (rest_name inner cover pattern element (moved s)) _ (rest_name_reads {m = far (after s.at)} (moved s) (onward (behind f))) (λ p t h.
      node (span_at s.at) _ f.begins h.place (λ e. both e h.straight) refl)

  module _ (m : ℕ) (start : Span) (b : start.lo.0 ≤ m) where
    named_reads : (at : Span) (text : Text) (s : State) → is_forward at ≡ true → Past m s.at → Meets (Read m) (named inner cover pattern element start at text s)
    unfolding named initialized_name bare_name
    named_reads at text s h g = meets_then _ (as_name may_bind_await at text s) _ (as_name_past m may_bind_await at text s g) (λ _ t k.
        meets_if _ (sees kind.Assign t.at) _ _
        (λ _. meets_then _ (inside inner cover assignment (moved t)) _ (inside_reads inner cover below below_cover assignment {m = m} (moved t) (onward (next k))) (λ y u j.
        node start (tree.assign_pat_prop _ (tree.ident_pat at text) y) b j.place (λ e. both e (both h j.straight)) refl))
        (λ _. node start (tree.assign_pat_prop _ (tree.ident_pat at text) tree.absent) b k (λ e. both e (both h refl)) refl))

    bare_key_reads : (x : Tree) (s : State) → Part m x s.at → Meets (Read m) (bare_key inner cover pattern element start x s)
    bare_key_reads (tree.ident at text) s h = named_reads at text s h.straight h.place
    bare_key_reads _ s h = wanted_meets _ faults.Unexpected s

    behind_key_reads : (x : Tree) (s : State) → Part m x s.at → Meets (Read m) (behind_key inner cover pattern element start x s)
    unfolding behind_key key_value
    behind_key_reads x s h = meets_if _ (sees kind.Colon s.at) _ _
        (λ _. meets_then _ (within with_in element (moved s)) _ (within_reads element below_element {m = m} with_in (moved s) (onward (next h.place))) (λ p t g.
        node start (tree.key_value_pat_prop _ x p) b g.place (λ e. both e (both h.straight g.straight)) refl))
        (λ _. bare_key_reads x s h)

    initialized_reads : (p : Tree) (s : State) → Read m p s → Meets (Read m) (initialized inner cover pattern element start p s)
    unfolding initialized
    initialized_reads p s h = meets_then _ (inside inner cover assignment (moved s)) _ (inside_reads inner cover below below_cover assignment {m = m} (moved s) (onward (next h.place))) (λ y t g.
        node start (tree.assign_pat _ p y) b g.place (λ e. both e (both h.straight g.straight)) refl)

  property_straight : Straight (property inner cover pattern element)
  unfolding property
  property_straight s f = meets_then _ (key inner cover s) _ (key_straight inner cover below below_cover s f) (λ x t h.
      behind_key_reads (far (after s.at)) (span_at s.at) f.begins x t (part_of h))

  object_turns : (m : ℕ) (s : State) → Past m s.at → Meets (ReadMany m) (loop (object_turn inner cover pattern element) [] s)
  unfolding object_turn
  object_turns m s a = loop_answers (object_turn inner cover pattern element) (ReadMany m) (ReadMany m) Refuses
      (λ found t g. meets_if _ (sees kind.RBrace t.at) _ _ (λ _. record { straight = g.straight; place = next g.place })
      (λ _. meets_if _ (sees kind.DotDotDot t.at) _ _
      (λ _. meets_then _ (rest_property inner cover pattern element t) _ (reads (rest_property inner cover pattern element) rest_property_straight {m = m} t (onward g.place)) (λ x u h.
      let k = one_more g (part_of h) in meets_then _ (expect kind.RBrace u) _ (expect_past m kind.RBrace u k.place) (λ _ v j. record { straight = k.straight; place = j })))
      (λ _. meets_then _ (property inner cover pattern element t) _ (reads (property inner cover pattern element) property_straight {m = m} t (onward g.place)) (λ x u h.
      let k = one_more g (part_of h) in
      meets_if _ (sees kind.RBrace u.at) _ _ (λ _. k) (λ _. meets_then _ (expect kind.Comma u) _ (expect_past m kind.Comma u k.place) (λ _ v j. record { straight = k.straight; place = j }))))))
      (λ _. tt) [] s (record { straight = refl; place = a })

  object_straight : Straight (object inner cover pattern element)
  unfolding object properties
  object_straight s f = meets_then _ (loop (object_turn inner cover pattern element) [] (moved s)) _ (object_turns (far (after s.at)) (moved s) (behind f)) (λ xs t h.
      node (span_at s.at) _ f.begins h.place (λ e. both e h.straight) refl)

  -- ---- patterns without and with a default

  pub pattern_straight : Straight (pattern_level inner cover pattern element)
  unfolding pattern_level
  pattern_straight s f = meets_if _ (sees kind.LBracket s.at) _ _ (λ _. array_straight s f) (λ _. meets_if _ (sees kind.LBrace s.at) _ _ (λ _. object_straight s f) (λ _. binding_straight s f))

  pub element_straight : Straight (element_level inner cover pattern element)
  unfolding element_level
  element_straight s f = meets_then _ (pattern_level inner cover pattern element s) _ (pattern_straight s f) (λ p t h.
      meets_if _ (sees kind.Assign t.at) _ _ (λ _. initialized_reads (far (after s.at)) (span_at s.at) f.begins p t h) (λ _. h))
