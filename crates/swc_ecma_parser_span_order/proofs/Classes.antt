-- Classes and their members run forward.
use Rattle.std.proofs.Common.{◌≡◌, ℕ, ◌≤◌, Bool, true, false, List, [], refl}
use Rattle.std.specs.Prelude.{not, ◌&&◌, ◌||◌, codes}
use Rattle.swc_ecma_parser_common.specs.declared.span.Span.{Span}
use Rattle.swc_ecma_parser_error.specs.Kind as faults
use Rattle.swc_ecma_parser_token.specs.declared.kind.TokenKind.TheVariants as kind
use Rattle.swc_ecma_parser_input.specs.Place.{after}
use Rattle.swc_ecma_parser_model.specs.Forms.{is_constructor_key, span_of, has_plain_params}
use Rattle.swc_ecma_parser_model.specs.Tree as tree
use Rattle.swc_ecma_parser_model.specs.Tree.{Tree, trees, listed}
use Rattle.swc_ecma_parser_grammar.specs.declared.position.Position.{Position}
use Rattle.swc_ecma_parser_grammar.specs.Ends.{can_end, ends_at}
use Rattle.swc_ecma_parser_grammar.specs.Follows.{word_at}
use Rattle.swc_ecma_parser_grammar.specs.Looks.{sees, span_at}
use Rattle.swc_ecma_parser_grammar.specs.Names.{name_at}
use Rattle.swc_ecma_parser_grammar.specs.Own.{only, second_constructor, misplaced_directive}
use Rattle.swc_ecma_parser_grammar.specs.Parameters as formal
use Rattle.swc_ecma_parser_grammar.specs.language.Classes.{is_static_word, is_accessor_word}
use Rattle.swc_ecma_parser_grammar.specs.language.Contexts.{in_class, in_static_block, in_parameters, with_in}
use Rattle.swc_ecma_parser_grammar.specs.language.Goals.{Class, assignment}
use Rattle.swc_ecma_parser_reader.specs.Bodies.{closes, close, braced, named, misdirected, function_body}
use Rattle.swc_ecma_parser_reader.specs.Decorators.{Leading, found_before, leading, has_any, misplaced}
use Rattle.swc_ecma_parser_reader.specs.Expressions.{Cover, private_name, inside}
use Rattle.swc_ecma_parser_span_order.specs.Forward.{all_forward}
use Rattle.swc_ecma_parser_reader.specs.Jumps.{told}
use Rattle.swc_ecma_parser_reader.specs.Members.{static_word, begins_accessor, begins_async_member, member_words, begins_words, begins_block, kind_of_form, form_is_async, form_is_generator, private_faults, parameter_faults, misnamed_by, misnamed, field_end, field_named, private_key, member_key, field_value, field_from, field, method_parts, method, constructor, plain_method, static_block, second_static, before_constructor, behind_key, keyed_member, static_behind, block_behind, behind_accessed_key, accessed_key, accessed, accessor_member, behind_static, full_member, empty_member, member_level, no_members, members_turn, members, extended, surplus, class_parts, named_class, class_decl, class_name, unnamed_class, class_expr, class_stmt}
use Rattle.swc_ecma_parser_reader.specs.Methods.{MethodForm, getter_form, setter_form, method_form, is_bare}
use Rattle.swc_ecma_parser_reader.specs.State.{State, Reader, moved, coded, within, fault, fault_at, expect}
use Rattle.swc_ecma_parser_reader.proofs.Meets.{Meets, Refuses, meets_then, meets_if, wanted_meets, loop_answers}
use Rattle.swc_ecma_parser_reader.proofs.expressions.SoundSteps.{reject_meets, meets_as}
use Rattle.swc_ecma_parser_span_order.proofs.Decorators.{leading_reads, misplaced_ahead}
use Rattle.swc_ecma_parser_span_order.proofs.Functions.{close_past, named_straight, braced_straight, function_body_reads, params_read}
use Rattle.swc_ecma_parser_span_order.proofs.Operands.{StraightCover, starred_ahead, inside_reads, key_straight, moved_on}
use Rattle.swc_ecma_parser_span_order.proofs.Places.{far, Here, Past, Ahead, Passed, Read, ReadPart, ReadMany, Straight, StraightMany, Part, Many, both, onward, first, taken, next, behind, node, reads, reads_part, reads_many, since_forward, past_less, part_of}
use Rattle.swc_ecma_parser_span_order.proofs.Steps.{Looked, fault_past, fault_ahead, told_past, expect_past, private_straight, within_reads}
use Rattle.swc_ecma_parser_span_order.proofs.Trees.{appended, own_forward, parameters_forward, method_forward, field_forward}

-- what it reads takes the first token at least, however its span ends
abbrev pub StraightPart : Reader Tree → Type 0
StraightPart p = (s : State) → Here s.at → Meets (ReadPart (far (after s.at))) (p s)

pub parts_read : (p : Reader Tree) → StraightPart p → {m : ℕ} → (s : State) → Ahead m s.at → Meets (ReadPart m) (p s)
parts_read p below s a = meets_as (p s) (below s a.here) (λ x t h. record { straight = h.straight; place = past_less a.ahead h.place })

-- ---- what stands before a key, and faults

static_ahead : (m : ℕ) (s : State) → Ahead m s.at → Meets (Looked m) (static_word s)
unfolding static_word
static_ahead m s a = meets_if (Looked m) (is_static_word s.at) _ _ (λ _. onward (taken a)) (λ _. a)

words_ahead : (m : ℕ) (s : State) → Ahead m s.at → Meets (Looked m) (member_words s)
unfolding member_words
words_ahead m s a = meets_if (Looked m) (begins_accessor (codes "get") s.at) _ _ (λ _. onward (taken a)) (λ _. meets_if (Looked m) (begins_accessor (codes "set") s.at) _ _ (λ _. onward (taken a))
    (λ _. meets_if (Looked m) (begins_async_member s.at) _ _ (λ _. starred_ahead m true (moved s) (onward (taken a))) (λ _. starred_ahead m false s a)))

misnamed_by_past : (m : ℕ) (form : MethodForm) (start word : Span) (x : Tree) (s : State) → Past m s.at → Meets (Passed m) (misnamed_by form start word x s)
misnamed_by_past m getter_form start word x s h = fault_past m s h _
misnamed_by_past m setter_form start word x s h = fault_past m s h _
misnamed_by_past m (method_form true g) start word x s h = reject_meets (Passed m) _ s
misnamed_by_past m (method_form false g) start word x s h = fault_past m s h _

misnamed_past : (m : ℕ) (form : MethodForm) (start word : Span) (x : Tree) (s : State) → Past m s.at → Meets (Passed m) (misnamed form start word x s)
unfolding misnamed
misnamed_past m form start word x s h = meets_if (Passed m) (is_constructor_key x) _ _ (λ _. misnamed_by_past m form start word x s h) (λ _. h)

field_end_past : (m : ℕ) (s : State) → Past m s.at → Meets (Passed m) (field_end s)
unfolding field_end
field_end_past m s h = meets_if (Passed m) (sees kind.Semi s.at) _ _ (λ _. next h) (λ _. meets_if (Passed m) (can_end s.at) _ _ (λ _. h) (λ _. fault_past m s h _))

field_named_past : (m : ℕ) (x : Tree) (s : State) → Past m s.at → Meets (Passed m) (field_named x s)
unfolding field_named
field_named_past m x s h = meets_if (Passed m) (is_constructor_key x) _ _ (λ _. reject_meets (Passed m) _ s) (λ _. h)

-- ---- keys and fields

module _ (inner : Class → Reader Tree) (cover : Reader Cover) (below : (class : Class) → Straight (inner class)) (below_cover : StraightCover cover) where
  private_key_straight : Straight (private_key inner cover)
  unfolding private_key
  private_key_straight s f = meets_then _ (private_name s) _ (private_straight s f) (λ x t h. meets_then _ (told (private_faults x) t) _ (told_past (far (after s.at)) (private_faults x) t h.place) (λ _ u g. moved_on h g))

  member_key_straight : Straight (member_key inner cover)
  unfolding member_key
  member_key_straight s f = meets_if _ (sees kind.Hash s.at) _ _ (λ _. private_key_straight s f) (λ _. key_straight inner cover below below_cover s f)

  field_value_reads : (m : ℕ) (s : State) → Past m s.at → Meets (ReadPart m) (field_value inner cover s)
  unfolding field_value
  field_value_reads m s h = meets_if _ (sees kind.Assign s.at) _ _
      (λ _. meets_as (inside inner cover assignment (moved s)) (inside_reads inner cover below below_cover assignment {m = m} (moved s) (onward (next h))) (λ x t g. part_of g))
      (λ _. record { straight = refl; place = h })

  field_reads : (m : ℕ) (start : Span) → start.lo.0 ≤ m → (ds : List Tree) → all_forward (trees ds) ≡ true → (is_static is_accessor : Bool) (x : Tree) (s : State) → Part m x s.at
      → Meets (ReadPart m) (field inner cover ds is_static is_accessor start x s)
  unfolding field field_from
  field_reads m start b ds d is_static is_accessor x s h = meets_if _ (sees kind.Assign s.at || ends_at s.at) _ _
      (λ _. meets_then _ (field_named x s) _ (field_named_past m x s h.place) (λ _ t g.
      meets_then _ (field_value inner cover t) _ (field_value_reads m t g) (λ y u k.
      meets_then _ (field_end u) _ (field_end_past m u k.place) (λ _ v j. record { straight = field_forward _ x y is_static is_accessor (listed ds) (since_forward start b j) h.straight k.straight d; place = j }))))
      (λ _. wanted_meets _ faults.Unexpected s)

-- ---- methods and constructors

module _ (stmt : Reader Tree) (params : Reader (List Tree)) (below_stmt : Straight stmt) (below_params : StraightMany params) where
  body_reads : (r g : Bool) {m : ℕ} (s : State) → Ahead m s.at → Meets (Read m) (function_body stmt params r g s)
  body_reads r g s a = function_body_reads stmt below_stmt params below_params r g s a

  module _ (m : ℕ) (start : Span) (b : start.lo.0 ≤ m) where
    method_parts_read : (ds : List Tree) → all_forward (trees ds) ≡ true → (form : MethodForm) (word : Span) (s : State) → Past m s.at → Meets (Read m) (method_parts stmt params ds form start word s)
    unfolding method_parts misdirected
    method_parts_read ds d form word s h =
        meets_then _ (within (λ k. in_parameters k (form_is_async form) (form_is_generator form)) params s) _ (params_read stmt below_stmt params below_params (form_is_async form) (form_is_generator form) {m = m} s (onward h)) (λ ps t i.
        meets_then _ (told (parameter_faults form word ps) t) _ (told_past m (parameter_faults form word ps) t i.place) (λ _ u k.
        meets_then _ (function_body stmt params (form_is_async form) (form_is_generator form) u) _ (body_reads (form_is_async form) (form_is_generator form) {m = m} u (onward k)) (λ body v j.
        meets_then _ (told (misplaced_directive (has_plain_params (formal.parameters ps)) body) v) _ (told_past m (misplaced_directive (has_plain_params (formal.parameters ps)) body) v j.place) (λ _ w l.
        moved_on (node start (tree.function _ (listed ds) (formal.parameters ps) body (form_is_async form) (form_is_generator form)) b j.place (λ e. both e (both d (both (parameters_forward ps i.straight) j.straight))) refl) l))))

    method_reads : (ds : List Tree) → all_forward (trees ds) ≡ true → (is_static : Bool) (form : MethodForm) (word : Span) (x : Tree) (s : State) → Part m x s.at
        → Meets (ReadPart m) (method stmt params ds is_static form start word x s)
    unfolding method
    method_reads ds d is_static form word x s h = meets_then _ (misnamed form start word x s) _ (misnamed_past m form start word x s h.place) (λ _ t g.
        meets_then _ (method_parts stmt params ds form start word t) _ (method_parts_read ds d form word t g) (λ fn u k.
        record { straight = method_forward (span_of fn) x fn (kind_of_form form) is_static (own_forward fn k.straight) h.straight k.straight; place = k.place }))

    constructor_reads : (is_static : Bool) (word : Span) (x : Tree) (s : State) → Part m x s.at → Meets (ReadPart m) (constructor stmt params is_static start word x s)
    unfolding constructor misdirected
    constructor_reads is_static word x s h = meets_then _ (params s) _ (reads_many params below_params {m = m} s (onward h.place)) (λ ps t i.
        meets_then _ (function_body stmt params false false t) _ (body_reads false false {m = m} t (onward i.place)) (λ body u k.
        meets_then _ (told (misplaced_directive (has_plain_params (formal.parameters ps)) body) u) _ (told_past m (misplaced_directive (has_plain_params (formal.parameters ps)) body) u k.place) (λ _ v j.
        meets_then _ (told (only is_static faults.TS1089 word) v) _ (told_past m (only is_static faults.TS1089 word) v j) (λ _ w l.
        record { straight = both (since_forward start b k.place) (both h.straight (both (parameters_forward ps i.straight) k.straight)); place = l }))))

    plain_method_reads : (ds : List Tree) → all_forward (trees ds) ≡ true → (is_static : Bool) (at word : Span) (x : Tree) (s : State) → Part m x s.at
        → Meets (ReadPart m) (plain_method stmt params ds is_static start at word x s)
    unfolding plain_method
    plain_method_reads ds d is_static at word x s h = meets_if _ (is_constructor_key x) _ _ (λ _. constructor_reads is_static at x s h) (λ _. method_reads ds d is_static (method_form false false) word x s h)

    static_block_reads : (s : State) → Ahead m s.at → Meets (ReadPart m) (static_block stmt params start s)
    unfolding static_block
    static_block_reads s a = meets_then _ (within in_static_block (braced stmt false) s) _ (within_reads (braced stmt false) (braced_straight stmt below_stmt false) {m = m} in_static_block s a) (λ body t h.
        record { straight = both (since_forward start b h.place) h.straight; place = h.place })

    second_static_reads : (at : Span) (s : State) → Ahead m s.at → Meets (ReadPart m) (second_static stmt params start at s)
    unfolding second_static
    second_static_reads at s a = meets_then _ (fault (fault_at at faults.TS1184) s) _ (fault_ahead m s a (fault_at at faults.TS1184)) (λ _ t g. static_block_reads (moved t) (onward (taken g)))

-- what is said of decorators before a constructor
before_ahead : (m : ℕ) (v : Leading) (x : Tree) (s : State) → Past m s.at → Meets (Passed m) (before_constructor v x s)
unfolding before_constructor misplaced
before_ahead m v x s h = meets_if (Passed m) (is_constructor_key x) _ _ (λ _. meets_if (Passed m) (has_any v.found) _ _ (λ _. fault_past m (found_before v s) h _) (λ _. h)) (λ _. h)

module _ (inner : Class → Reader Tree) (cover : Reader Cover) (stmt : Reader Tree) (params : Reader (List Tree))
    (below : (class : Class) → Straight (inner class)) (below_cover : StraightCover cover) (below_stmt : Straight stmt) (below_params : StraightMany params) where
  module _ (m : ℕ) (start : Span) (b : start.lo.0 ≤ m) (v : Leading) (d : all_forward (trees v.found) ≡ true) where
    behind_key_reads : (is_static : Bool) (form : MethodForm) (at word : Span) (x : Tree) (s : State) → Part m x s.at
        → Meets (ReadPart m) (behind_key inner cover stmt params v is_static form start at word x s)
    unfolding behind_key
    behind_key_reads is_static form at word x s h = meets_if _ (not (is_bare form)) _ _ (λ _. method_reads stmt params below_stmt below_params m start b v.found d is_static form word x s h)
        (λ _. meets_if _ (sees kind.LParen s.at) _ _
        (λ _. meets_then _ (before_constructor v x s) _ (before_ahead m v x s h.place) (λ _ t g. plain_method_reads stmt params below_stmt below_params m start b v.found d is_static at word x t (record { straight = h.straight; place = g })))
        (λ _. field_reads inner cover below below_cover m start b v.found d is_static false x s h))

    keyed_member_reads : (is_static : Bool) (at : Span) (s : State) → Ahead m s.at → Meets (ReadPart m) (keyed_member inner cover stmt params v is_static start at s)
    unfolding keyed_member
    keyed_member_reads is_static at s a = meets_then _ (member_words s) _ (words_ahead m s a) (λ form t g.
        meets_then _ (member_key inner cover t) _ (reads_part (member_key inner cover) (member_key_straight inner cover below below_cover) t g) (λ x u h. behind_key_reads is_static form at (span_at s.at) x u h))

    block_behind_reads : (is_static : Bool) (at : Span) (s : State) → Ahead m s.at → Meets (ReadPart m) (block_behind inner cover stmt params is_static start at s)
    unfolding block_behind static_behind
    block_behind_reads is_static at s a = meets_if _ (is_static && sees kind.LBrace s.at) _ _ (λ _. static_block_reads stmt params below_stmt below_params m start b s a)
        (λ _. meets_if _ is_static _ _ (λ _. second_static_reads stmt params below_stmt below_params m start b at s a) (λ _. static_block_reads stmt params below_stmt below_params m start b (moved s) (onward (taken a))))

    accessed_key_reads : (is_static : Bool) (at accessor : Span) (s : State) → Ahead m s.at → Meets (ReadPart m) (accessed_key inner cover stmt params v is_static start at accessor s)
    unfolding accessed_key behind_accessed_key
    accessed_key_reads is_static at accessor s a = meets_then _ (member_key inner cover s) _ (reads_part (member_key inner cover) (member_key_straight inner cover below below_cover) {m = m} s a) (λ x t h.
        meets_if _ (sees kind.LParen t.at) _ _
        (λ _. meets_then _ (before_constructor v x t) _ (before_ahead m v x t h.place) (λ _ u g.
        meets_then _ (fault (fault_at accessor faults.TS1184) u) _ (fault_past m u g (fault_at accessor faults.TS1184)) (λ _ w k.
        plain_method_reads stmt params below_stmt below_params m start b v.found d is_static at (span_at s.at) x w (record { straight = h.straight; place = k }))))
        (λ _. field_reads inner cover below below_cover m start b v.found d is_static true x t h))

    accessed_reads : (is_static : Bool) (at accessor : Span) (s : State) → Ahead m s.at → Meets (ReadPart m) (accessed inner cover stmt params v is_static start at accessor s)
    unfolding accessed
    accessed_reads is_static at accessor s a = meets_if _ (begins_block is_static s.at) _ _
        (λ _. meets_then _ (misplaced v s) _ (misplaced_ahead m v s a) (λ _ t g. meets_then _ (fault (fault_at accessor faults.TS1184) t) _ (fault_ahead m t g (fault_at accessor faults.TS1184)) (λ _ u k. block_behind_reads is_static at u k)))
        (λ _. meets_if _ (begins_words s.at) _ _
        (λ _. meets_then _ (fault (fault_at accessor faults.TS1184) s) _ (fault_ahead m s a (fault_at accessor faults.TS1184)) (λ _ t g. keyed_member_reads is_static at t g))
        (λ _. accessed_key_reads is_static at accessor s a))

    behind_static_reads : (is_static : Bool) (at : Span) (s : State) → Ahead m s.at → Meets (ReadPart m) (behind_static inner cover stmt params v is_static start at s)
    unfolding behind_static accessor_member
    behind_static_reads is_static at s a = meets_if _ (is_accessor_word s.code s.at) _ _ (λ _. accessed_reads is_static at (span_at s.at) (moved s) (onward (taken a)))
        (λ _. meets_if _ (is_static && sees kind.LBrace s.at) _ _
        (λ _. meets_then _ (misplaced v s) _ (misplaced_ahead m v s a) (λ _ t g. static_block_reads stmt params below_stmt below_params m start b t g))
        (λ _. meets_if _ (is_static && (word_at (codes "static") s.at && sees kind.LBrace (after s.at))) _ _
        (λ _. meets_then _ (misplaced v s) _ (misplaced_ahead m v s a) (λ _ t g. second_static_reads stmt params below_stmt below_params m start b at t g))
        (λ _. keyed_member_reads is_static at s a)))

  pub member_straight : (further : Reader Tree) → Straight further → StraightPart (member_level inner cover stmt params further)
  unfolding member_level full_member empty_member
  member_straight further below_further s f = meets_if _ (sees kind.Semi s.at) _ _ (λ _. part_of (node (span_at s.at) (tree.empty_member _) f.begins (behind f) (λ e. e) refl))
      (λ _. meets_then _ (leading further s) _ (leading_reads further below_further s f) (λ v t h.
      meets_then _ (static_word t) _ (static_ahead (far (after s.at)) t h.ahead) (λ is_static u a.
      behind_static_reads (far (after s.at)) (span_at s.at) f.begins v h.straight is_static (span_at t.at) u a)))

-- ---- classes

module _ (heritage member : Reader Tree) (below_heritage : Straight heritage) (below_member : StraightPart member) where
  members_read : (m : ℕ) (s : State) → Past m s.at → Meets (ReadMany m) (members heritage member s)
  unfolding members members_turn
  members_read m s h = loop_answers (members_turn heritage member) (λ l t. Many m l.found t.at) (ReadMany m) Refuses
      (λ l t g. meets_if _ (closes t.at) _ _ (λ _. g) (λ _. meets_then _ (member t) _ (parts_read member below_member {m = m} t (onward g.place)) (λ x u k.
      meets_then _ (told (second_constructor l.constructed x) u) _ (told_past m (second_constructor l.constructed x) u k.place) (λ _ v j. record { straight = appended l.found x g.straight k.straight; place = j }))))
      (λ _. tt) no_members s (record { straight = refl; place = h })

  extended_reads : (m : ℕ) (s : State) → Past m s.at → Meets (ReadPart m) (extended heritage member s)
  unfolding extended
  extended_reads m s h = meets_if _ (sees kind.Extends s.at) _ _ (λ _. reads_part heritage below_heritage {m = m} (moved s) (onward (next h))) (λ _. record { straight = refl; place = h })

  surplus_past : (m : ℕ) (s : State) → Past m s.at → Meets (Passed m) (surplus heritage member s)
  unfolding surplus
  surplus_past m s h = meets_if (Passed m) (sees kind.Extends s.at) _ _
      (λ _. meets_then (Passed m) (fault (fault_at (span_at s.at) faults.TS1172) (moved s)) _ (fault_past m (moved s) (next h) (fault_at (span_at s.at) faults.TS1172)) (λ _ t g.
      meets_then (Passed m) (heritage t) _ (reads heritage below_heritage {m = m} t (onward g)) (λ x u k. k.place))) (λ _. h)

  class_parts_read : (m : ℕ) (start : Span) → start.lo.0 ≤ m → (s : State) → Past m s.at → Meets (Read m) (class_parts heritage member start s)
  unfolding class_parts
  class_parts_read m start b s h = meets_then _ (extended heritage member s) _ (extended_reads m s h) (λ x t g.
      meets_then _ (surplus heritage member t) _ (surplus_past m t g.place) (λ _ u k.
      meets_then _ (expect kind.LBrace u) _ (expect_past m kind.LBrace u k) (λ _ v j.
      meets_then _ (within with_in (members heritage member) v) _ (meets_then (ReadMany m) (members heritage member (coded (with_in v.code) v)) _ (members_read m (coded (with_in v.code) v) j) (λ xs w l. l)) (λ xs w l.
      meets_then _ (close w) _ (close_past m w l.place) (λ _ o i. node start (tree.class _ (listed []) (listed xs) x) b i (λ e. both e (both l.straight g.straight)) refl)))))

  named_class_straight : Straight (named_class heritage member)
  unfolding named_class
  named_class_straight s f = meets_then _ (named (moved s)) _ (reads named named_straight {m = far (after s.at)} (moved s) (onward (behind f))) (λ i t h.
      meets_then _ (class_parts heritage member (span_at s.at) t) _ (class_parts_read (far (after s.at)) (span_at s.at) f.begins t h.place) (λ x u k.
      record { straight = both h.straight k.straight; reaches = k.reaches; place = k.place }))

  pub class_decl_straight : Straight (class_decl heritage member)
  unfolding class_decl
  class_decl_straight s f = within_reads (named_class heritage member) named_class_straight in_class s (first f)

  unnamed_class_straight : Straight (unnamed_class heritage member)
  unfolding unnamed_class class_name
  unnamed_class_straight s f = meets_then _ (class_name heritage member (moved s)) _ (meets_if (ReadPart (far (after s.at))) (name_at s.code.flags (after s.at)) _ _
      (λ _. reads_part named named_straight {m = far (after s.at)} (moved s) (onward (behind f))) (λ _. record { straight = refl; place = behind f })) (λ i t h.
      meets_then _ (class_parts heritage member (span_at s.at) t) _ (class_parts_read (far (after s.at)) (span_at s.at) f.begins t h.place) (λ x u k.
      record { straight = both (own_forward x k.straight) (both h.straight k.straight); reaches = k.reaches; place = k.place }))

  pub class_expr_straight : Straight (class_expr heritage member)
  unfolding class_expr
  class_expr_straight s f = within_reads (unnamed_class heritage member) unnamed_class_straight in_class s (first f)

  pub class_stmt_straight : (at : Position) → Straight (class_stmt heritage member at)
  unfolding class_stmt
  class_stmt_straight at s f = meets_if _ at.include_decl _ _ (λ _. class_decl_straight s f)
      (λ _. meets_then _ (fault (fault_at (span_at s.at) faults.DeclNotAllowed) s) _ (fault_ahead (far (after s.at)) s (first f) (fault_at (span_at s.at) faults.DeclNotAllowed)) (λ _ t a.
      reads (class_decl heritage member) class_decl_straight t a))
