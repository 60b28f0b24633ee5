-- Classes and their members take tokens, one at least.
use Rattle.std.proofs.Common.{◌≡◌, Bool, true, false, List, length, refl, sym, ◌∙◌, ap, arith}
use Rattle.std.specs.Prelude.{not, ◌&&◌, ◌||◌, codes}
use Rattle.swc_ecma_parser_common.specs.declared.span.Span.{Span}
use Rattle.swc_ecma_parser_error.specs.Kind as faults
use Rattle.swc_ecma_parser_token.specs.declared.kind.TokenKind.TheVariants as kind
use Rattle.swc_ecma_parser_input.specs.Place.{after}
use Rattle.swc_ecma_parser_model.specs.Tree.{Tree}
use Rattle.swc_ecma_parser_model.specs.Forms.{is_constructor_key}
use Rattle.swc_ecma_parser_grammar.specs.declared.position.Position.{Position}
use Rattle.swc_ecma_parser_grammar.specs.Looks.{kind_at, sees, span_at}
use Rattle.swc_ecma_parser_grammar.specs.Names.{name_at}
use Rattle.swc_ecma_parser_grammar.specs.Ends.{can_end, ends_at}
use Rattle.swc_ecma_parser_grammar.specs.Follows.{word_at}
use Rattle.swc_ecma_parser_grammar.specs.Parameters.{parameters}
use Rattle.swc_ecma_parser_grammar.specs.language.Goals.{Class, assignment}
use Rattle.swc_ecma_parser_grammar.specs.language.Contexts.{in_class, in_static_block, in_parameters, with_in}
use Rattle.swc_ecma_parser_grammar.specs.language.Classes.{is_static_word, is_accessor_word}
use Rattle.swc_ecma_parser_reader.specs.State.{State, Reader, moved, coded, noted, within, fault, fault_at, name, expect}
use Rattle.swc_ecma_parser_reader.specs.Methods.{MethodForm, getter_form, setter_form, method_form, is_bare}
use Rattle.swc_ecma_parser_reader.specs.Expressions.{Cover, private_name, inside}
use Rattle.swc_ecma_parser_reader.specs.Decorators.{Leading, leading, misplaced}
use Rattle.swc_ecma_parser_reader.specs.Jumps.{told}
use Rattle.swc_ecma_parser_reader.specs.Bodies.{closes, close, braced, named, misdirected, function_body}
use Rattle.swc_ecma_parser_reader.specs.Members.{static_word, begins_accessor, begins_async_member, member_words, private_faults, parameter_faults, misnamed, misnamed_by, field_end, field_named, private_key, member_key, field_value, field_from, field, method_parts, method, constructor, plain_method, static_block, second_static, behind_key, before_constructor, keyed_member, begins_words, begins_block, static_behind, block_behind, behind_accessed_key, accessed_key, accessed, accessor_member, behind_static, full_member, empty_member, member_level, Members, no_members, dropped, members_turn, members, extended, surplus, class_parts, named_class, class_decl, class_name, unnamed_class, class_expr, class_stmt, form_is_async, form_is_generator}
use Rattle.swc_ecma_parser_reader.proofs.Errors.{is_error, fault_here}
use Rattle.swc_ecma_parser_reader.proofs.Takes.{Falls, falls_then, falls_last, falls_coded, falls_found, falls_if, less, falls_next, moves, takes, falls_past, falls_moved, wanted_falls, name_falls, fault_falls, close_falls, expect_falls, loop_falls, reject_falls}
use Rattle.swc_ecma_parser_reader.proofs.decorators.Falls.{leading_falls, misplaced_falls}
use Rattle.swc_ecma_parser_reader.proofs.expressions.Falls.{no_end, falls_when, starred_falls, private_falls, told_falls, inside_falls, key_falls}

-- ---- the words before a key, and faults of keys

static_word_falls : (s : State) → Falls 0 (length s.at.left) (static_word s)
unfolding static_word
static_word_falls s = falls_if 0 (length s.at.left) (is_static_word s.at) _ _ (let m = moves s.at in omega arith) (omega arith)

member_words_falls : (s : State) → Falls 0 (length s.at.left) (member_words s)
unfolding member_words
member_words_falls s = falls_if 0 (length s.at.left) (begins_accessor (codes "get") s.at) _ _ (let m = moves s.at in omega arith)
    (falls_if 0 (length s.at.left) (begins_accessor (codes "set") s.at) _ _ (let m = moves s.at in omega arith)
    (falls_if 0 (length s.at.left) (begins_async_member s.at) _ _ (falls_moved 0 s _ (starred_falls true (moved s))) (starred_falls false s)))

misnamed_by_falls : (form : MethodForm) (start word : Span) (x : Tree) (s : State) → Falls 0 (length s.at.left) (misnamed_by form start word x s)
misnamed_by_falls getter_form start word x s = fault_falls _ s
misnamed_by_falls setter_form start word x s = fault_falls _ s
misnamed_by_falls (method_form true g) start word x s = reject_falls (Unit {0}) 0 (length s.at.left) _ s
misnamed_by_falls (method_form false g) start word x s = fault_falls _ s

misnamed_falls : (form : MethodForm) (start word : Span) (x : Tree) (s : State) → Falls 0 (length s.at.left) (misnamed form start word x s)
unfolding misnamed
misnamed_falls form start word x s = falls_if 0 (length s.at.left) (is_constructor_key x) _ _ (misnamed_by_falls form start word x s) (omega arith)

field_end_falls : (s : State) → Falls 0 (length s.at.left) (field_end s)
unfolding field_end
field_end_falls s = falls_if 0 (length s.at.left) (sees kind.Semi s.at) _ _ (let m = moves s.at in omega arith)
    (falls_if 0 (length s.at.left) (can_end s.at) _ _ (omega arith) (fault_falls _ s))

field_named_falls : (x : Tree) (s : State) → Falls 0 (length s.at.left) (field_named x s)
unfolding field_named
field_named_falls x s = falls_if 0 (length s.at.left) (is_constructor_key x) _ _ (reject_falls (Unit {0}) 0 (length s.at.left) _ s) (omega arith)

module _ (inner : Class → Reader Tree) (below : (class : Class) (s : State) → Falls 1 (length s.at.left) (inner class s))
    (cover : Reader Cover) (below_cover : (s : State) → Falls 1 (length s.at.left) (cover s))
    (stmt : Reader Tree) (params : Reader (List Tree)) (below_params : (s : State) → Falls 0 (length s.at.left) (params s))
    (below_body : (w g : Bool) (s : State) → Falls 0 (length s.at.left) (function_body stmt params w g s)) (below_block : (s : State) → Falls 1 (length s.at.left) (braced stmt false s)) where
  -- ---- keys and fields

  private_key_falls : (s : State) → Falls 1 (length s.at.left) (private_key inner cover s)
  unfolding private_key
  private_key_falls s = falls_next (length s.at.left) (private_name s) _ (private_falls s) (λ x t. falls_last 0 (length t.at.left) (told (private_faults x) t) _ (told_falls (private_faults x) t))

  member_key_falls : (s : State) → Falls 1 (length s.at.left) (member_key inner cover s)
  unfolding member_key
  member_key_falls s = falls_if 1 (length s.at.left) (sees kind.Hash s.at) _ _ (private_key_falls s) (key_falls inner cover below below_cover s)

  field_value_falls : (s : State) → Falls 0 (length s.at.left) (field_value inner cover s)
  unfolding field_value
  field_value_falls s = falls_if 0 (length s.at.left) (sees kind.Assign s.at) _ _
      (falls_moved 0 s _ (less (length (after s.at).left) (inside inner cover assignment (moved s)) (inside_falls inner cover below below_cover assignment (moved s)))) (omega arith)

  field_falls : (ds : List Tree) (b a : Bool) (start : Span) (x : Tree) (s : State) → Falls 0 (length s.at.left) (field inner cover ds b a start x s)
  unfolding field field_from
  field_falls ds b a start x s = falls_if 0 (length s.at.left) (sees kind.Assign s.at || ends_at s.at) _ _
      (falls_then 0 0 (length s.at.left) (field_named x s) _ (field_named_falls x s) (λ _ t.
      falls_then 0 0 (length t.at.left) (field_value inner cover t) _ (field_value_falls t) (λ v u.
      falls_last 0 (length u.at.left) (field_end u) _ (field_end_falls u))))
      (wanted_falls Tree 0 (length s.at.left) faults.Unexpected s)

  -- ---- methods, constructors and static blocks

  method_parts_falls : (ds : List Tree) (form : MethodForm) (start word : Span) (s : State) → Falls 0 (length s.at.left) (method_parts stmt params ds form start word s)
  unfolding method_parts misdirected
  method_parts_falls ds form start word s = let c = in_parameters s.code (form_is_async form) (form_is_generator form) in
      falls_then 0 0 (length s.at.left) (within (λ k. in_parameters k (form_is_async form) (form_is_generator form)) params s) _
      (falls_coded 0 (length s.at.left) (params (coded c s)) _ _ (below_params (coded c s))) (λ ps t.
      falls_then 0 0 (length t.at.left) (told (parameter_faults form word ps) t) _ (told_falls (parameter_faults form word ps) t) (λ _ u.
      falls_then 0 0 (length u.at.left) (function_body stmt params (form_is_async form) (form_is_generator form) u) _ (below_body (form_is_async form) (form_is_generator form) u) (λ x v.
      falls_last 0 (length v.at.left) (misdirected (parameters ps) x v) _ (told_falls _ v))))

  method_falls : (ds : List Tree) (b : Bool) (form : MethodForm) (start word : Span) (x : Tree) (s : State) → Falls 0 (length s.at.left) (method stmt params ds b form start word x s)
  unfolding method
  method_falls ds b form start word x s = falls_then 0 0 (length s.at.left) (misnamed form start word x s) _ (misnamed_falls form start word x s) (λ _ t.
      falls_last 0 (length t.at.left) (method_parts stmt params ds form start word t) _ (method_parts_falls ds form start word t))

  constructor_falls : (b : Bool) (start first : Span) (x : Tree) (s : State) → Falls 0 (length s.at.left) (constructor stmt params b start first x s)
  unfolding constructor misdirected
  constructor_falls b start first x s = falls_then 0 0 (length s.at.left) (params s) _ (below_params s) (λ ps t.
      falls_then 0 0 (length t.at.left) (function_body stmt params false false t) _ (below_body false false t) (λ y u.
      falls_then 0 0 (length u.at.left) (misdirected (parameters ps) y u) _ (told_falls _ u) (λ _ v.
      falls_last 0 (length v.at.left) (told _ v) _ (told_falls _ v))))

  plain_method_falls : (ds : List Tree) (b : Bool) (start first word : Span) (x : Tree) (s : State) → Falls 0 (length s.at.left) (plain_method stmt params ds b start first word x s)
  unfolding plain_method
  plain_method_falls ds b start first word x s = falls_if 0 (length s.at.left) (is_constructor_key x) _ _ (constructor_falls b start first x s) (method_falls ds b (method_form false false) start word x s)

  static_block_falls : (start : Span) (s : State) → Falls 1 (length s.at.left) (static_block stmt params start s)
  unfolding static_block
  static_block_falls start s = let t = coded (in_static_block s.code) s in falls_last 1 (length s.at.left) (within in_static_block (braced stmt false) s) _
      (falls_coded 1 (length s.at.left) (braced stmt false t) _ _ (below_block t))

  second_static_falls : (start first : Span) (s : State) → Falls 1 (length s.at.left) (second_static stmt params start first s)
  unfolding second_static
  second_static_falls start first s = falls_then 0 1 (length s.at.left) (fault (fault_at first faults.TS1184) s) _ (fault_falls _ s) (λ _ t. falls_moved 1 t _ (static_block_falls start (moved t)))

  -- ---- members

  before_constructor_falls : (v : Leading) (x : Tree) (s : State) → Falls 0 (length s.at.left) (before_constructor v x s)
  unfolding before_constructor
  before_constructor_falls v x s = falls_if 0 (length s.at.left) (is_constructor_key x) _ _ (misplaced_falls v s) (omega arith)

  behind_key_falls : (v : Leading) (b : Bool) (form : MethodForm) (start first word : Span) (x : Tree) (s : State) → Falls 0 (length s.at.left) (behind_key inner cover stmt params v b form start first word x s)
  unfolding behind_key
  behind_key_falls v b form start first word x s = falls_if 0 (length s.at.left) (not (is_bare form)) _ _ (method_falls v.found b form start word x s)
      (falls_if 0 (length s.at.left) (sees kind.LParen s.at) _ _
      (falls_then 0 0 (length s.at.left) (before_constructor v x s) _ (before_constructor_falls v x s) (λ _ t. plain_method_falls v.found b start first word x t)) (field_falls v.found b false start x s))

  keyed_member_falls : (v : Leading) (b : Bool) (start first : Span) (s : State) → Falls 1 (length s.at.left) (keyed_member inner cover stmt params v b start first s)
  unfolding keyed_member
  keyed_member_falls v b start first s = falls_then 0 1 (length s.at.left) (member_words s) _ (member_words_falls s) (λ form t.
      falls_next (length t.at.left) (member_key inner cover t) _ (member_key_falls t) (λ x u. behind_key_falls v b form start first (span_at s.at) x u))

  -- behind `accessor`
  static_behind_falls : (b : Bool) (start first : Span) (s : State) → Falls 1 (length s.at.left) (static_behind inner cover stmt params b start first s)
  unfolding static_behind
  static_behind_falls b start first s = falls_if 1 (length s.at.left) b _ _ (second_static_falls start first s) (falls_moved 1 s _ (static_block_falls start (moved s)))

  block_behind_falls : (b : Bool) (start first : Span) (s : State) → Falls 1 (length s.at.left) (block_behind inner cover stmt params b start first s)
  unfolding block_behind
  block_behind_falls b start first s = falls_if 1 (length s.at.left) (b && sees kind.LBrace s.at) _ _ (static_block_falls start s) (static_behind_falls b start first s)

  behind_accessed_key_falls : (v : Leading) (b : Bool) (start first accessor word : Span) (x : Tree) (s : State) → Falls 0 (length s.at.left) (behind_accessed_key inner cover stmt params v b start first accessor word x s)
  unfolding behind_accessed_key
  behind_accessed_key_falls v b start first accessor word x s = falls_if 0 (length s.at.left) (sees kind.LParen s.at) _ _
      (falls_then 0 0 (length s.at.left) (before_constructor v x s) _ (before_constructor_falls v x s) (λ _ t.
      falls_then 0 0 (length t.at.left) (fault (fault_at accessor faults.TS1184) t) _ (fault_falls _ t) (λ _ u. plain_method_falls v.found b start first word x u))) (field_falls v.found b true start x s)

  accessed_key_falls : (v : Leading) (b : Bool) (start first accessor : Span) (s : State) → Falls 1 (length s.at.left) (accessed_key inner cover stmt params v b start first accessor s)
  unfolding accessed_key
  accessed_key_falls v b start first accessor s = falls_next (length s.at.left) (member_key inner cover s) _ (member_key_falls s) (λ x t. behind_accessed_key_falls v b start first accessor (span_at s.at) x t)

  accessor_member_falls : (v : Leading) (b : Bool) (start first : Span) (s : State) → Falls 1 (length s.at.left) (accessor_member inner cover stmt params v b start first s)
  unfolding accessor_member accessed
  accessor_member_falls v b start first s = let m = moved s in let l = length m.at.left in let f = fault_at (span_at s.at) faults.TS1184 in falls_moved 1 s _ (falls_if 1 l (begins_block b m.at) _ _
      (falls_then 0 1 l (misplaced v m) _ (misplaced_falls v m) (λ _ t. falls_then 0 1 (length t.at.left) (fault f t) _ (fault_falls _ t) (λ _ u. block_behind_falls b start first u)))
      (falls_if 1 l (begins_words m.at) _ _ (falls_then 0 1 l (fault f m) _ (fault_falls _ m) (λ _ t. keyed_member_falls v b start first t)) (accessed_key_falls v b start first (span_at s.at) m)))

  behind_static_falls : (v : Leading) (b : Bool) (start first : Span) (s : State) → Falls 1 (length s.at.left) (behind_static inner cover stmt params v b start first s)
  unfolding behind_static
  behind_static_falls v b start first s = let l = length s.at.left in falls_if 1 l (is_accessor_word s.code s.at) _ _ (accessor_member_falls v b start first s)
      (falls_if 1 l (b && sees kind.LBrace s.at) _ _ (falls_then 0 1 l (misplaced v s) _ (misplaced_falls v s) (λ _ t. static_block_falls start t))
      (falls_if 1 l (b && (word_at (codes "static") s.at && sees kind.LBrace (after s.at))) _ _ (falls_then 0 1 l (misplaced v s) _ (misplaced_falls v s) (λ _ t. second_static_falls start first t))
      (keyed_member_falls v b start first s)))

  module _ (further : Reader Tree) (below_further : (s : State) → Falls 1 (length s.at.left) (further s)) where
    full_member_falls : (s : State) → Falls 1 (length s.at.left) (full_member inner cover stmt params further s)
    unfolding full_member
    full_member_falls s = falls_then 0 1 (length s.at.left) (leading further s) _ (leading_falls further below_further s) (λ v t.
        falls_then 0 1 (length t.at.left) (static_word t) _ (static_word_falls t) (λ b u. behind_static_falls v b (span_at s.at) (span_at t.at) u))

    pub member_level_falls : (s : State) → Falls 1 (length s.at.left) (member_level inner cover stmt params further s)
    unfolding member_level empty_member
    member_level_falls s = falls_when 1 (length s.at.left) (sees kind.Semi s.at) _ _ (λ e. takes s.at (no_end s kind.Semi (λ z. cc) e)) (λ _. full_member_falls s)

-- ---- classes

-- their word is taken
module _ (heritage : Reader Tree) (below_heritage : (s : State) → Falls 1 (length s.at.left) (heritage s)) (member : Reader Tree) (below_member : (s : State) → Falls 1 (length s.at.left) (member s)) where
  members_turn_falls : (l : Members) (s : State) → Falls 0 (length s.at.left) (members_turn heritage member l s)
  unfolding members_turn
  members_turn_falls l s = falls_if 0 (length s.at.left) (closes s.at) _ _ (omega arith)
      (falls_then 0 0 (length s.at.left) (member s) _ (less (length s.at.left) (member s) (below_member s)) (λ x t. falls_last 0 (length t.at.left) (told _ t) _ (told_falls _ t)))

  members_fall : (s : State) → Falls 0 (length s.at.left) (members heritage member s)
  unfolding members
  members_fall s = loop_falls (members_turn heritage member) members_turn_falls no_members s

  extended_falls : (s : State) → Falls 0 (length s.at.left) (extended heritage member s)
  unfolding extended
  extended_falls s = falls_if 0 (length s.at.left) (sees kind.Extends s.at) _ _
      (falls_moved 0 s (heritage (moved s)) (less (length (after s.at).left) (heritage (moved s)) (below_heritage (moved s)))) (omega arith)

  dropped_falls : (s : State) → Falls 0 (length s.at.left) (dropped heritage s)
  dropped_falls s = falls_found 0 (length s.at.left) (heritage s) _ _ (λ _ t. refl) (less (length s.at.left) (heritage s) (below_heritage s))

  surplus_falls : (s : State) → Falls 0 (length s.at.left) (surplus heritage member s)
  unfolding surplus
  surplus_falls s = falls_if 0 (length s.at.left) (sees kind.Extends s.at) _ _
      (falls_moved 0 s _ (falls_then 0 0 (length (after s.at).left) (fault (fault_at (span_at s.at) faults.TS1172) (moved s)) _ (fault_falls _ (moved s)) (λ _ t. dropped_falls t))) (omega arith)

  class_parts_falls : (start : Span) (s : State) → Falls 0 (length s.at.left) (class_parts heritage member start s)
  unfolding class_parts
  class_parts_falls start s = falls_then 0 0 (length s.at.left) (extended heritage member s) _ (extended_falls s) (λ x t.
      falls_then 0 0 (length t.at.left) (surplus heritage member t) _ (surplus_falls t) (λ _ u.
      falls_then 0 0 (length u.at.left) (expect kind.LBrace u) _ (expect_falls kind.LBrace u) (λ _ v.
      falls_then 0 0 (length v.at.left) (within with_in (members heritage member) v) _
      (falls_coded 0 (length v.at.left) (members heritage member (coded (with_in v.code) v)) _ _ (members_fall (coded (with_in v.code) v))) (λ xs w.
      falls_last 0 (length w.at.left) (close w) _ (close_falls w)))))

  named_falls : (s : State) → Falls 0 (length s.at.left) (named s)
  unfolding named
  named_falls s = falls_last 0 (length s.at.left) (name faults.ExpectedIdent s) _ (less (length s.at.left) (name faults.ExpectedIdent s) (name_falls faults.ExpectedIdent s))

  class_name_falls : (s : State) → Falls 0 (length s.at.left) (class_name heritage member s)
  unfolding class_name
  class_name_falls s = falls_if 0 (length s.at.left) (name_at s.code.flags s.at) _ _ (named_falls s) (omega arith)

  unnamed_class_falls : (s : State) → kind_at s.at ≡ kind.Class → Falls 1 (length s.at.left) (unnamed_class heritage member s)
  unfolding unnamed_class
  unnamed_class_falls s e = falls_past s _ (λ g. let k = sym g ∙ e in cc) (falls_then 0 0 (length (after s.at).left) (class_name heritage member (moved s)) _ (class_name_falls (moved s)) (λ i t.
      falls_last 0 (length t.at.left) (class_parts heritage member (span_at s.at) t) _ (class_parts_falls (span_at s.at) t)))

  named_class_falls : (s : State) → kind_at s.at ≡ kind.Class → Falls 1 (length s.at.left) (named_class heritage member s)
  unfolding named_class
  named_class_falls s e = falls_past s _ (λ g. let k = sym g ∙ e in cc) (falls_then 0 0 (length (after s.at).left) (named (moved s)) _ (named_falls (moved s)) (λ i t.
      falls_last 0 (length t.at.left) (class_parts heritage member (span_at s.at) t) _ (class_parts_falls (span_at s.at) t)))

  pub class_expr_falls : (s : State) → kind_at s.at ≡ kind.Class → Falls 1 (length s.at.left) (class_expr heritage member s)
  unfolding class_expr
  class_expr_falls s e = let t = coded (in_class s.code) s in falls_coded 1 (length s.at.left) (unnamed_class heritage member t) _ _ (unnamed_class_falls t e)

  class_decl_falls : (s : State) → kind_at s.at ≡ kind.Class → Falls 1 (length s.at.left) (class_decl heritage member s)
  unfolding class_decl
  class_decl_falls s e = let t = coded (in_class s.code) s in falls_coded 1 (length s.at.left) (named_class heritage member t) _ _ (named_class_falls t e)

  pub class_stmt_falls : (at : Position) (s : State) → kind_at s.at ≡ kind.Class → Falls 1 (length s.at.left) (class_stmt heritage member at s)
  unfolding class_stmt
  class_stmt_falls at s e =
      falls_if 1 (length s.at.left) at.include_decl _ _ (class_decl_falls s e) (rw (fault_here s (fault_at (span_at s.at) faults.DeclNotAllowed) (ap is_error e))
      (class_decl_falls (noted (fault_at (span_at s.at) faults.DeclNotAllowed) s) e))
