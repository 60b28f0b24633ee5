-- Classes and their members lose no token and no recorded fault, and pass no token that memory ran out for.
use Rattle.std.proofs.Common.{◌≡◌, Bool, true, false, List, refl, ◌∙◌, ap}
use Rattle.std.specs.Prelude.{not, ◌&&◌, ◌||◌, codes}
use Rattle.swc_ecma_parser_common.specs.declared.span.Span.{Span}
use Rattle.swc_ecma_parser_error.specs.Kind as faults
use Rattle.swc_ecma_parser_token.specs.declared.kind.TokenKind.TheVariants as kind
use Rattle.swc_ecma_parser_input.specs.Place.{Place, after}
use Rattle.swc_ecma_parser_model.specs.Tree.{Tree}
use Rattle.swc_ecma_parser_model.specs.Forms.{is_constructor_key, span_of}
use Rattle.swc_ecma_parser_grammar.specs.declared.position.Position.{Position}
use Rattle.swc_ecma_parser_grammar.specs.Looks.{kind_at, sees, span_at}
use Rattle.swc_ecma_parser_grammar.specs.Names.{name_at}
use Rattle.swc_ecma_parser_grammar.specs.Ends.{can_end, ends_at}
use Rattle.swc_ecma_parser_grammar.specs.Follows.{word_at}
use Rattle.swc_ecma_parser_grammar.specs.Own.{only, second_constructor}
use Rattle.swc_ecma_parser_grammar.specs.Parameters as formal
use Rattle.swc_ecma_parser_grammar.specs.language.Goals.{Class, assignment}
use Rattle.swc_ecma_parser_grammar.specs.language.Contexts.{in_class, in_static_block, in_parameters, with_in}
use Rattle.swc_ecma_parser_grammar.specs.language.Classes.{is_static_word, is_accessor_word}
use Rattle.swc_ecma_parser_reader.specs.State.{State, Reader, moved, coded, within, fault, fault_at, name, expect}
use Rattle.swc_ecma_parser_reader.specs.Decorators.{Leading, leading, misplaced}
use Rattle.swc_ecma_parser_reader.specs.Jumps.{told}
use Rattle.swc_ecma_parser_reader.specs.Methods.{MethodForm, getter_form, setter_form, method_form, is_bare}
use Rattle.swc_ecma_parser_reader.specs.Expressions.{Cover, private_name}
use Rattle.swc_ecma_parser_reader.specs.Members.{static_word, begins_accessor, begins_async_member, member_words, form_is_async, form_is_generator, private_faults, parameter_faults, misnamed_by, misnamed, field_end, field_named, private_key, member_key, field_value, field_from, field, method_parts, method, constructor, plain_method, static_block, second_static, behind_key, before_constructor, keyed_member, begins_words, begins_block, static_behind, block_behind, behind_accessed_key, accessed_key, accessed, accessor_member, behind_static, full_member, empty_member, member_level, members_turn, no_members, members, extended, surplus, class_parts, named_class, class_decl, class_name, unnamed_class, class_expr, class_stmt}
use Rattle.swc_ecma_parser_reader.specs.Bodies.{braced, close, closes, misdirected, named, function_body}
use Rattle.swc_ecma_parser_grammar.proofs.StatementBegins.{word_place}
use Rattle.swc_ecma_parser_grammar.proofs.Tests.{and_yes}
use Rattle.swc_ecma_parser_reader.proofs.Errors.{is_error}
use Rattle.swc_ecma_parser_reader.proofs.Meets.{Answers, answers_then, answers_if, saw}
use Rattle.swc_ecma_parser_reader.proofs.Behind.{NothingLost, Kept, Lost, Passes, flagged_kept, behind_after, behind_seen, fault_keeps, fault_stays, wanted_keeps, reject_keeps, expect_keeps, close_keeps, name_keeps, loop_keeps}
use Rattle.swc_ecma_parser_reader.proofs.classes.Words.{static_kind, auto_accessor_kind, accessor_kind, async_kind}
use Rattle.swc_ecma_parser_reader.proofs.decorators.Keeps.{leading_keeps, misplaced_keeps, misplaced_stays}
use Rattle.swc_ecma_parser_reader.proofs.expressions.Keeps.{starred_keeps, inside_keeps, key_keeps}
use Rattle.swc_ecma_parser_reader.proofs.expressions.KeepSteps.{other_test, told_keeps, private_keeps}

-- no error token stands where a static block begins
block_is_none : (is_static : Bool) (c : Place) → begins_block is_static c ≡ true → is_error (kind_at c) ≡ false
unfolding begins_block
block_is_none is_static c h = by_brace (is_static && sees kind.LBrace c) refl
  where
    by_brace : (b : Bool) → (is_static && sees kind.LBrace c) ≡ b → is_error (kind_at c) ≡ false
    by_brace true e = ap is_error (saw c kind.LBrace (and_yes is_static _ e).1)
    by_brace false e = ap is_error (word_place (codes "static") c (and_yes (word_at (codes "static") c) _ (other_test (is_static && sees kind.LBrace c) _ h e)).0)

-- ---- what stands before the key of a member, and what is told of it

static_word_keeps : Passes static_word
unfolding static_word
static_word_keeps b s f = answers_if _ _ (is_static_word s.at) _ _ (λ e. behind_after b s (static_kind s.at e) refl f) (λ _. f)

member_words_keeps : Passes member_words
unfolding member_words
member_words_keeps b s f = answers_if _ _ (begins_accessor (codes "get") s.at) _ _ (λ e. behind_after b s (accessor_kind (codes "get") s.at e) refl f)
    (λ _. answers_if _ _ (begins_accessor (codes "set") s.at) _ _ (λ e. behind_after b s (accessor_kind (codes "set") s.at e) refl f)
    (λ _. answers_if _ _ (begins_async_member s.at) _ _ (λ e. starred_keeps true b (moved s) (behind_after b s (async_kind s.at e) refl f)) (λ _. starred_keeps false b s f)))

misnamed_by_keeps : (form : MethodForm) (start word : Span) (x : Tree) → Passes (misnamed_by form start word x)
misnamed_by_keeps getter_form start word x b s f = fault_keeps b s f (fault_at word faults.ConstructorAccessor)
misnamed_by_keeps setter_form start word x b s f = fault_keeps b s f (fault_at word faults.ConstructorAccessor)
misnamed_by_keeps (method_form true is_generator) start word x b s f = reject_keeps _ faults.AsyncConstructor (span_of x) b s f
misnamed_by_keeps (method_form false is_generator) start word x b s f = fault_keeps b s f (fault_at (record { lo = start.lo; hi = s.at.last.hi }) faults.GeneratorConstructor)

misnamed_keeps : (form : MethodForm) (start word : Span) (x : Tree) → Passes (misnamed form start word x)
unfolding misnamed
misnamed_keeps form start word x b s f = answers_if _ _ (is_constructor_key x) _ _ (λ _. misnamed_by_keeps form start word x b s f) (λ _. f)

field_end_keeps : Passes field_end
unfolding field_end
field_end_keeps b s f = answers_if _ _ (sees kind.Semi s.at) _ _ (λ seen. behind_seen b s kind.Semi seen refl f)
    (λ _. answers_if _ _ (can_end s.at) _ _ (λ _. f) (λ _. fault_keeps b s f (fault_at (span_at s.at) faults.TS1005)))

field_named_keeps : (x : Tree) → Passes (field_named x)
unfolding field_named
field_named_keeps x b s f = answers_if _ _ (is_constructor_key x) _ _ (λ _. reject_keeps _ faults.PropertyNamedConstructor (span_of x) b s f) (λ _. f)

module _ (inner : Class → Reader Tree) (cover : Reader Cover) (stmt : Reader Tree) (params : Reader (List Tree)) (below : (class : Class) → Passes (inner class)) (below_cover : Passes cover)
    (below_params : Passes params) (below_body : (w g : Bool) → Passes (function_body stmt params w g)) (below_block : Passes (braced stmt false)) where
  -- ---- keys and fields

  private_key_keeps : (b s : State) → sees kind.Hash s.at ≡ true → NothingLost b s → Answers (Kept b) (Lost b) (private_key inner cover s)
  unfolding private_key
  private_key_keeps b s e f = answers_then _ _ (private_name s) _ (private_keeps b s e f) (λ x t g.
      answers_then (Kept b) _ (told (private_faults x) t) _ (told_keeps b (private_faults x) t g) (λ _ u k. k))

  member_key_keeps : Passes (member_key inner cover)
  unfolding member_key
  member_key_keeps b s f = answers_if _ _ (sees kind.Hash s.at) _ _ (λ e. private_key_keeps b s e f) (λ _. key_keeps inner cover below below_cover b s f)

  field_value_keeps : Passes (field_value inner cover)
  unfolding field_value
  field_value_keeps b s f = answers_if _ _ (sees kind.Assign s.at) _ _ (λ seen. inside_keeps inner cover below below_cover assignment b (moved s) (behind_seen b s kind.Assign seen refl f)) (λ _. f)

  field_from_keeps : (ds : List Tree) (is_static is_accessor : Bool) (start : Span) (x : Tree) → Passes (field_from inner cover ds is_static is_accessor start x)
  unfolding field_from
  field_from_keeps ds is_static is_accessor start x b s f = answers_then _ _ (field_named x s) _ (field_named_keeps x b s f) (λ _ t g.
      answers_then _ _ (field_value inner cover t) _ (field_value_keeps b t g) (λ y u k.
      answers_then (Kept b) _ (field_end u) _ (field_end_keeps b u k) (λ _ v j. j)))

  field_keeps : (ds : List Tree) (is_static is_accessor : Bool) (start : Span) (x : Tree) → Passes (field inner cover ds is_static is_accessor start x)
  unfolding field
  field_keeps ds is_static is_accessor start x b s f = answers_if _ _ (sees kind.Assign s.at || ends_at s.at) _ _ (λ _. field_from_keeps ds is_static is_accessor start x b s f) (λ _. wanted_keeps _ faults.Unexpected b s f)

  -- ---- methods, constructors and static blocks

  method_parts_keeps : (ds : List Tree) (form : MethodForm) (start word : Span) → Passes (method_parts stmt params ds form start word)
  unfolding method_parts misdirected
  method_parts_keeps ds form start word b s f = let a = form_is_async form in let g = form_is_generator form in
      answers_then (Kept b) _ (within (λ k. in_parameters k a g) params s) _
      (answers_then (Kept b) _ (params (coded (in_parameters s.code a g) s)) _ (below_params b (coded (in_parameters s.code a g) s) f) (λ ps t k. flagged_kept b s t f k)) (λ ps t k.
      answers_then (Kept b) _ (told (parameter_faults form word ps) t) _ (told_keeps b (parameter_faults form word ps) t k) (λ _ u j.
      answers_then (Kept b) _ (function_body stmt params a g u) _ (below_body a g b u j) (λ x v h.
      answers_then (Kept b) _ (misdirected (formal.parameters ps) x v) _ (told_keeps b _ v h) (λ _ w z. z))))

  method_keeps : (ds : List Tree) (is_static : Bool) (form : MethodForm) (start word : Span) (x : Tree) → Passes (method stmt params ds is_static form start word x)
  unfolding method
  method_keeps ds is_static form start word x b s f = answers_then _ _ (misnamed form start word x s) _ (misnamed_keeps form start word x b s f) (λ _ t g.
      answers_then (Kept b) _ (method_parts stmt params ds form start word t) _ (method_parts_keeps ds form start word b t g) (λ y u k. k))

  constructor_keeps : (is_static : Bool) (start first : Span) (x : Tree) → Passes (constructor stmt params is_static start first x)
  unfolding constructor misdirected
  constructor_keeps is_static start first x b s f = answers_then (Kept b) _ (params s) _ (below_params b s f) (λ ps t k.
      answers_then (Kept b) _ (function_body stmt params false false t) _ (below_body false false b t k) (λ y u j.
      answers_then (Kept b) _ (misdirected (formal.parameters ps) y u) _ (told_keeps b _ u j) (λ _ v h.
      answers_then (Kept b) _ (told (only is_static faults.TS1089 first) v) _ (told_keeps b (only is_static faults.TS1089 first) v h) (λ _ w z. z))))

  plain_method_keeps : (ds : List Tree) (is_static : Bool) (start first word : Span) (x : Tree) → Passes (plain_method stmt params ds is_static start first word x)
  unfolding plain_method
  plain_method_keeps ds is_static start first word x b s f = answers_if _ _ (is_constructor_key x) _ _ (λ _. constructor_keeps is_static start first x b s f)
      (λ _. method_keeps ds is_static (method_form false false) start word x b s f)

  static_block_keeps : (start : Span) → Passes (static_block stmt params start)
  unfolding static_block
  static_block_keeps start b s f = let t = coded (in_static_block s.code) s in
      answers_then (Kept b) _ (within in_static_block (braced stmt false) s) _ (answers_then (Kept b) _ (braced stmt false t) _ (below_block b t f) (λ x u k. flagged_kept b s u f k)) (λ x u k. k)

  second_static_keeps : (start first : Span) (b s : State) → word_at (codes "static") s.at ≡ true → NothingLost b s → Answers (Kept b) (Lost b) (second_static stmt params start first s)
  unfolding second_static
  second_static_keeps start first b s e f = let w = word_place (codes "static") s.at e in
      answers_then _ _ (fault (fault_at first faults.TS1184) s) _ (fault_stays b s f (fault_at first faults.TS1184) (ap is_error w))
      (λ _ t (g, o). static_block_keeps start b (moved t) (behind_after b t (ap kind_at o ∙ w) refl g))

  -- ---- members

  before_constructor_keeps : (v : Leading) (x : Tree) → Passes (before_constructor v x)
  unfolding before_constructor
  before_constructor_keeps v x b s f = answers_if _ _ (is_constructor_key x) _ _ (λ _. misplaced_keeps v b s f) (λ _. f)

  behind_key_keeps : (v : Leading) (is_static : Bool) (form : MethodForm) (start first word : Span) (x : Tree) → Passes (behind_key inner cover stmt params v is_static form start first word x)
  unfolding behind_key
  behind_key_keeps v is_static form start first word x b s f = answers_if _ _ (not (is_bare form)) _ _ (λ _. method_keeps v.found is_static form start word x b s f)
      (λ _. answers_if _ _ (sees kind.LParen s.at) _ _
      (λ _. answers_then _ _ (before_constructor v x s) _ (before_constructor_keeps v x b s f) (λ _ t g. plain_method_keeps v.found is_static start first word x b t g))
      (λ _. field_keeps v.found is_static false start x b s f))

  keyed_member_keeps : (v : Leading) (is_static : Bool) (start first : Span) → Passes (keyed_member inner cover stmt params v is_static start first)
  unfolding keyed_member
  keyed_member_keeps v is_static start first b s f = answers_then _ _ (member_words s) _ (member_words_keeps b s f) (λ form t g.
      answers_then _ _ (member_key inner cover t) _ (member_key_keeps b t g) (λ x u k. behind_key_keeps v is_static form start first (span_at s.at) x b u k))

  -- behind `accessor`
  static_behind_keeps : (is_static : Bool) (start first : Span) (b s : State) → word_at (codes "static") s.at ≡ true → NothingLost b s
      → Answers (Kept b) (Lost b) (static_behind inner cover stmt params is_static start first s)
  unfolding static_behind
  static_behind_keeps is_static start first b s e f = answers_if _ _ is_static _ _ (λ _. second_static_keeps start first b s e f)
      (λ _. static_block_keeps start b (moved s) (behind_after b s (word_place (codes "static") s.at e) refl f))

  block_behind_keeps : (is_static : Bool) (start first : Span) (b s : State) → begins_block is_static s.at ≡ true → NothingLost b s
      → Answers (Kept b) (Lost b) (block_behind inner cover stmt params is_static start first s)
  unfolding block_behind begins_block
  block_behind_keeps is_static start first b s e f = answers_if _ _ (is_static && sees kind.LBrace s.at) _ _ (λ _. static_block_keeps start b s f)
      (λ g. static_behind_keeps is_static start first b s (and_yes (word_at (codes "static") s.at) _ (other_test (is_static && sees kind.LBrace s.at) _ e g)).0 f)

  behind_accessed_key_keeps : (v : Leading) (is_static : Bool) (start first accessor word : Span) (x : Tree) → Passes (behind_accessed_key inner cover stmt params v is_static start first accessor word x)
  unfolding behind_accessed_key
  behind_accessed_key_keeps v is_static start first accessor word x b s f = let e = fault_at accessor faults.TS1184 in answers_if _ _ (sees kind.LParen s.at) _ _
      (λ _. answers_then _ _ (before_constructor v x s) _ (before_constructor_keeps v x b s f) (λ _ t g.
      answers_then _ _ (fault e t) _ (fault_keeps b t g e) (λ _ u k. plain_method_keeps v.found is_static start first word x b u k)))
      (λ _. field_keeps v.found is_static true start x b s f)

  accessed_key_keeps : (v : Leading) (is_static : Bool) (start first accessor : Span) → Passes (accessed_key inner cover stmt params v is_static start first accessor)
  unfolding accessed_key
  accessed_key_keeps v is_static start first accessor b s f = answers_then _ _ (member_key inner cover s) _ (member_key_keeps b s f) (λ x t g.
      behind_accessed_key_keeps v is_static start first accessor (span_at s.at) x b t g)

  accessed_keeps : (v : Leading) (is_static : Bool) (start first accessor : Span) → Passes (accessed inner cover stmt params v is_static start first accessor)
  unfolding accessed
  accessed_keeps v is_static start first accessor b s f = let e = fault_at accessor faults.TS1184 in answers_if _ _ (begins_block is_static s.at) _ _
      (λ h. let n = block_is_none is_static s.at h in answers_then _ _ (misplaced v s) _ (misplaced_stays v b s n f) (λ _ t (g, o).
      answers_then _ _ (fault e t) _ (fault_stays b t g e (ap (λ c. is_error (kind_at c)) o ∙ n)) (λ _ u (k, p). block_behind_keeps is_static start first b u (ap (begins_block is_static) (p ∙ o) ∙ h) k)))
      (λ _. answers_if _ _ (begins_words s.at) _ _ (λ _. answers_then _ _ (fault e s) _ (fault_keeps b s f e) (λ _ t g. keyed_member_keeps v is_static start first b t g))
      (λ _. accessed_key_keeps v is_static start first accessor b s f))

  accessor_member_keeps : (v : Leading) (is_static : Bool) (start first : Span) (b s : State) → is_accessor_word s.code s.at ≡ true → NothingLost b s
      → Answers (Kept b) (Lost b) (accessor_member inner cover stmt params v is_static start first s)
  unfolding accessor_member
  accessor_member_keeps v is_static start first b s e f = accessed_keeps v is_static start first (span_at s.at) b (moved s) (behind_after b s (auto_accessor_kind s.code s.at e) refl f)

  behind_static_keeps : (v : Leading) (is_static : Bool) (start first : Span) → Passes (behind_static inner cover stmt params v is_static start first)
  unfolding behind_static
  behind_static_keeps v is_static start first b s f = answers_if _ _ (is_accessor_word s.code s.at) _ _ (λ e. accessor_member_keeps v is_static start first b s e f)
      (λ _. answers_if _ _ (is_static && sees kind.LBrace s.at) _ _ (λ _. answers_then _ _ (misplaced v s) _ (misplaced_keeps v b s f) (λ _ t g. static_block_keeps start b t g))
      (λ _. answers_if _ _ (is_static && (word_at (codes "static") s.at && sees kind.LBrace (after s.at))) _ _
      (λ e. let w = (and_yes (word_at (codes "static") s.at) _ (and_yes is_static _ e).1).0 in
      answers_then _ _ (misplaced v s) _ (misplaced_stays v b s (ap is_error (word_place (codes "static") s.at w)) f)
      (λ _ t (g, o). second_static_keeps start first b t (ap (word_at (codes "static")) o ∙ w) g))
      (λ _. keyed_member_keeps v is_static start first b s f)))

  module _ (further : Reader Tree) (below_further : Passes further) where
    full_member_keeps : Passes (full_member inner cover stmt params further)
    unfolding full_member
    full_member_keeps b s f = answers_then _ _ (leading further s) _ (leading_keeps further below_further b s f) (λ v t g.
        answers_then _ _ (static_word t) _ (static_word_keeps b t g) (λ is_static u k. behind_static_keeps v is_static (span_at s.at) (span_at t.at) b u k))

    pub member_level_keeps : Passes (member_level inner cover stmt params further)
    unfolding member_level empty_member
    member_level_keeps b s f = answers_if _ _ (sees kind.Semi s.at) _ _ (λ seen. behind_seen b s kind.Semi seen refl f) (λ _. full_member_keeps b s f)

-- ---- classes

named_keeps : Passes named
unfolding named
named_keeps b s f = answers_then (Kept b) _ (name faults.ExpectedIdent s) _ (name_keeps b s f faults.ExpectedIdent) (λ i t k. k)

module _ (heritage member : Reader Tree) (below_heritage : Passes heritage) (below_member : Passes member) where
  -- members one behind another
  members_keep : Passes (members heritage member)
  unfolding members members_turn
  members_keep b s f = loop_keeps (members_turn heritage member) b (λ l t g. answers_if _ _ (closes t.at) _ _ (λ _. g)
      (λ _. answers_then _ _ (member t) _ (below_member b t g) (λ x u k.
      answers_then _ _ (told (second_constructor l.constructed x) u) _ (told_keeps b (second_constructor l.constructed x) u k) (λ _ v j. j)))) no_members s f

  extended_keeps : Passes (extended heritage member)
  unfolding extended
  extended_keeps b s f = answers_if _ _ (sees kind.Extends s.at) _ _ (λ seen. below_heritage b (moved s) (behind_seen b s kind.Extends seen refl f)) (λ _. f)

  surplus_keeps : Passes (surplus heritage member)
  unfolding surplus
  surplus_keeps b s f = answers_if _ _ (sees kind.Extends s.at) _ _
      (λ seen. answers_then _ _ (fault (fault_at (span_at s.at) faults.TS1172) (moved s)) _ (fault_keeps b (moved s) (behind_seen b s kind.Extends seen refl f) (fault_at (span_at s.at) faults.TS1172)) (λ _ t g.
      answers_then (Kept b) _ (heritage t) _ (below_heritage b t g) (λ x u k. k))) (λ _. f)

  class_parts_keep : (start : Span) → Passes (class_parts heritage member start)
  unfolding class_parts
  class_parts_keep start b s f = answers_then _ _ (extended heritage member s) _ (extended_keeps b s f) (λ x t g.
      answers_then _ _ (surplus heritage member t) _ (surplus_keeps b t g) (λ _ u k.
      answers_then _ _ (expect kind.LBrace u) _ (expect_keeps b u k kind.LBrace refl) (λ _ v j. let w = coded (with_in v.code) v in
      answers_then (Kept b) _ (within with_in (members heritage member) v) _ (answers_then (Kept b) _ (members heritage member w) _ (members_keep b w j) (λ xs o z. flagged_kept b v o j z)) (λ xs o z.
      answers_then (Kept b) _ (close o) _ (close_keeps b o z) (λ _ p h. h)))))

  class_name_keeps : Passes (class_name heritage member)
  unfolding class_name
  class_name_keeps b s f = answers_if _ _ (name_at s.code.flags s.at) _ _ (λ _. named_keeps b s f) (λ _. f)

  unnamed_class_keeps : (b s : State) → kind_at s.at ≡ kind.Class → NothingLost b s → Answers (Kept b) (Lost b) (unnamed_class heritage member s)
  unfolding unnamed_class
  unnamed_class_keeps b s e f = answers_then _ _ (class_name heritage member (moved s)) _ (class_name_keeps b (moved s) (behind_after b s e refl f)) (λ i t g.
      answers_then (Kept b) _ (class_parts heritage member (span_at s.at) t) _ (class_parts_keep (span_at s.at) b t g) (λ x u k. k))

  named_class_keeps : (b s : State) → kind_at s.at ≡ kind.Class → NothingLost b s → Answers (Kept b) (Lost b) (named_class heritage member s)
  unfolding named_class
  named_class_keeps b s e f = answers_then _ _ (named (moved s)) _ (named_keeps b (moved s) (behind_after b s e refl f)) (λ i t g.
      answers_then (Kept b) _ (class_parts heritage member (span_at s.at) t) _ (class_parts_keep (span_at s.at) b t g) (λ x u k. k))

  class_decl_keeps : (b s : State) → kind_at s.at ≡ kind.Class → NothingLost b s → Answers (Kept b) (Lost b) (class_decl heritage member s)
  unfolding class_decl
  class_decl_keeps b s e f = let t = coded (in_class s.code) s in answers_then (Kept b) _ (named_class heritage member t) _ (named_class_keeps b t e f) (λ x u k. flagged_kept b s u f k)

  pub class_expr_keeps : (b s : State) → kind_at s.at ≡ kind.Class → NothingLost b s → Answers (Kept b) (Lost b) (class_expr heritage member s)
  unfolding class_expr
  class_expr_keeps b s e f = let t = coded (in_class s.code) s in answers_then (Kept b) _ (unnamed_class heritage member t) _ (unnamed_class_keeps b t e f) (λ x u k. flagged_kept b s u f k)

  pub class_stmt_keeps : (at : Position) (b s : State) → kind_at s.at ≡ kind.Class → NothingLost b s → Answers (Kept b) (Lost b) (class_stmt heritage member at s)
  unfolding class_stmt
  class_stmt_keeps at b s e f = answers_if _ _ at.include_decl _ _ (λ _. class_decl_keeps b s e f)
      (λ _. answers_then _ _ (fault (fault_at (span_at s.at) faults.DeclNotAllowed) s) _ (fault_stays b s f (fault_at (span_at s.at) faults.DeclNotAllowed) (ap is_error e)) (λ _ t (g, o). class_decl_keeps b t (ap kind_at o ∙ e) g))
