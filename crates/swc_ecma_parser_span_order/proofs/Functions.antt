-- Statements in braces, functions and methods run forward.
use Rattle.std.proofs.Common.{ℕ, ◌≤◌, Bool, true, false, List, [], ◌∷◌, refl}
use Rattle.swc_ecma_parser_common.specs.declared.span.Span.{Span}
use Rattle.swc_ecma_parser_error.specs.Kind as faults
use Rattle.swc_ecma_parser_token.specs.declared.kind.TokenKind.TheVariants as kind
use Rattle.swc_ecma_parser_input.specs.Place.{Place, after}
use Rattle.swc_ecma_parser_model.specs.Forms.{is_binding_name, is_rest, has_plain_params}
use Rattle.swc_ecma_parser_model.specs.Tree as tree
use Rattle.swc_ecma_parser_model.specs.Tree.{Tree, listed}
use Rattle.swc_ecma_parser_grammar.specs.Follows.{is_async_function}
use Rattle.swc_ecma_parser_grammar.specs.Looks.{sees, span_at, spanned}
use Rattle.swc_ecma_parser_grammar.specs.Names.{name_at}
use Rattle.swc_ecma_parser_grammar.specs.Own.{misplaced_directive}
use Rattle.swc_ecma_parser_grammar.specs.Parameters as formal
use Rattle.swc_ecma_parser_grammar.specs.language.Contexts.{named_by, in_parameters, in_body, in_arrow, with_in}
use Rattle.swc_ecma_parser_grammar.proofs.Tests.{and_yes}
use Rattle.swc_ecma_parser_reader.specs.Bodies.{close, items_turn, items, block_from, block, braced, misdirected, named, function_word, own_name, no_parameter, one_parameter, function_body, function_parts, function_decl, function_expr, getter, setter, plain_method, arrow_block, closes}
use Rattle.swc_ecma_parser_span_order.specs.Forward.{forward}
use Rattle.swc_ecma_parser_reader.specs.Jumps.{told}
use Rattle.swc_ecma_parser_reader.specs.Methods.{property_form, MethodForm, getter_form, setter_form, method_form, star}
use Rattle.swc_ecma_parser_reader.specs.Reader.{function_by}
use Rattle.swc_ecma_parser_reader.specs.State.{State, Reader, moved, within, enclosed, name, expect}
use Rattle.swc_ecma_parser_reader.proofs.Meets.{Meets, Refuses, meets_then, meets_if, loop_answers}
use Rattle.swc_ecma_parser_reader.proofs.expressions.SoundSteps.{reject_meets, meets_as}
use Rattle.swc_ecma_parser_span_order.proofs.Operands.{FunctionsStraight, star_ahead, moved_on}
use Rattle.swc_ecma_parser_span_order.proofs.Places.{far, Past, Ahead, Passed, Read, ReadPart, ReadMany, Straight, StraightMany, Part, both, onward, first, taken, next, behind, node, reads_part}
use Rattle.swc_ecma_parser_span_order.proofs.Steps.{ReadMaybe, fault_past, told_past, expect_first, name_past, name_ahead, ident_whole, within_reads, within_many, enclosed_reads}
use Rattle.swc_ecma_parser_span_order.proofs.Trees.{one_more, own_forward, parameters_forward}

-- ---- statements in braces

pub close_past : (m : ℕ) (s : State) → Past m s.at → Meets (Passed m) (close s)
unfolding close
close_past m s h = meets_if (Passed m) (sees kind.RBrace s.at) _ _ (λ _. next h) (λ _. fault_past m s h _)

pub named_straight : Straight named
unfolding named
named_straight s f = meets_then _ (name faults.ExpectedIdent s) _ (name_past s f faults.ExpectedIdent) (λ i t h. ident_whole i t h)

module _ (inner : Reader Tree) (below : Straight inner) where
  pub items_read : (stops : Place → Bool) (directives : Bool) (m : ℕ) (s : State) → Past m s.at → Meets (ReadMany m) (items inner stops directives s)
  unfolding items items_turn
  items_read stops directives m s h = loop_answers (items_turn inner stops directives) (ReadMany m) (ReadMany m) Refuses
      (λ found t g. meets_if _ (stops t.at) _ _ (λ _. g) (λ _. meets_then _ (inner t) _ (reads_part inner below {m = m} t (onward g.place)) (λ x u k. one_more g k)))
      (λ _. tt) [] s (record { straight = refl; place = h })

  pub block_from_reads : (directives : Bool) (start : Place) (m : ℕ) → (span_at start).lo.0 ≤ m → (s : State) → Past m s.at → Meets (Read m) (block_from inner directives start s)
  unfolding block_from spanned
  block_from_reads directives start m b s h = meets_then _ (items inner closes directives s) _ (items_read closes directives m s h) (λ xs t g.
      meets_then _ (close t) _ (close_past m t g.place) (λ _ u k. node (span_at start) (tree.block _ (listed xs)) b k (λ e. both e g.straight) refl))

  pub block_straight : Straight (block inner)
  unfolding block
  block_straight s f = block_from_reads false s.at (far (after s.at)) f.begins (moved s) (behind f)

  pub braced_straight : (directives : Bool) → Straight (braced inner directives)
  unfolding braced
  braced_straight directives s f = meets_then _ (expect kind.LBrace s) _ (expect_first (far (after s.at)) kind.LBrace s (first f)) (λ _ t g. block_from_reads directives s.at (far (after s.at)) f.begins t g)

-- ---- functions

pub word_past : (m : ℕ) (s : State) → Ahead m s.at → Meets (Passed m) (function_word s)
unfolding function_word
word_past m s a = meets_if (Passed m) (is_async_function s.at) _ _ (λ _. next (taken a)) (λ _. taken a)

pub own_name_reads : (r g : Bool) (m : ℕ) (s : State) → Ahead m s.at → Meets (ReadMaybe m) (own_name r g s)
unfolding own_name
own_name_reads r g m s a = meets_if _ (name_at (named_by s.code r g).flags s.at) _ _
    (λ _. meets_as (within (λ k. named_by k r g) named s) (within_reads named named_straight {m = m} (λ k. named_by k r g) s a) (λ x t h. record { straight = h.straight; ahead = onward h.place }))
    (λ _. record { straight = refl; ahead = a })

no_parameter_past : (m : ℕ) (word : Span) (ps : List Tree) (s : State) → Past m s.at → Meets (Passed m) (no_parameter word ps s)
no_parameter_past m word [] s h = h
no_parameter_past m word (p ∷ ps) s h = reject_meets (Passed m) _ s

one_parameter_reads : (m : ℕ) (word : Span) (ps : List Tree) (s : State) → ReadMany m ps s → Meets (ReadPart m) (one_parameter word ps s)
one_parameter_reads m word [] s h = reject_meets _ _ s
one_parameter_reads m word (p ∷ []) s h = meets_if _ (is_rest p) _ _ (λ _. reject_meets _ _ s) (λ _. record { straight = (and_yes (forward p) _ h.straight).0; place = h.place })
one_parameter_reads m word (p ∷ q ∷ qs) s h = reject_meets _ _ s

module _ (inner : Reader Tree) (below : Straight inner) (params : Reader (List Tree)) (below_params : StraightMany params) where
  pub function_body_reads : (r g : Bool) {m : ℕ} (s : State) → Ahead m s.at → Meets (Read m) (function_body inner params r g s)
  unfolding function_body
  function_body_reads r g s a = within_reads (enclosed (braced inner true)) (λ t f. enclosed_reads (braced inner true) (braced_straight inner below true) t (first f)) (λ k. in_body k r g) s a

  pub params_read : (r g : Bool) {m : ℕ} (s : State) → Ahead m s.at → Meets (ReadMany m) (within (λ k. in_parameters k r g) params s)
  params_read r g s a = within_many params below_params (λ k. in_parameters k r g) s a

  module _ (m : ℕ) (start : Span) (b : start.lo.0 ≤ m) where
    pub function_parts_read : (r g : Bool) (s : State) → Ahead m s.at → Meets (Read m) (function_parts inner params r g start s)
    unfolding function_parts misdirected
    function_parts_read r g s a = meets_then _ (within (λ k. in_parameters k r g) params s) _ (params_read r g {m = m} s a) (λ ps t h.
        meets_then _ (function_body inner params r g t) _ (function_body_reads r g {m = m} t (onward h.place)) (λ body u k.
        meets_then _ (told (misplaced_directive (has_plain_params (formal.parameters ps)) body) u) _ (told_past m (misplaced_directive (has_plain_params (formal.parameters ps)) body) u k.place) (λ _ v j.
        moved_on (node start (tree.function _ (listed []) (formal.parameters ps) body r g) b k.place (λ e. both e (both (parameters_forward ps h.straight) k.straight)) refl) j)))

    getter_reads : (x : Tree) (s : State) → Part m x s.at → Meets (Read m) (getter inner params start x s)
    unfolding getter
    getter_reads x s h = meets_then _ (within (λ k. in_parameters k false false) params s) _ (params_read false false {m = m} s (onward h.place)) (λ ps t g.
        meets_then _ (no_parameter start ps t) _ (no_parameter_past m start ps t g.place) (λ _ u k.
        meets_then _ (function_body inner params false false u) _ (function_body_reads false false {m = m} u (onward k)) (λ body v j.
        node start (tree.getter_prop _ x body) b j.place (λ e. both e (both h.straight j.straight)) refl)))

    setter_reads : (x : Tree) (s : State) → Part m x s.at → Meets (Read m) (setter inner params start x s)
    unfolding setter
    setter_reads x s h = meets_then _ (within (λ k. in_parameters k false false) params s) _ (params_read false false {m = m} s (onward h.place)) (λ ps t g.
        meets_then _ (one_parameter start ps t) _ (one_parameter_reads m start ps t g) (λ p u k.
        meets_then _ (function_body inner params false false u) _ (function_body_reads false false {m = m} u (onward k.place)) (λ body v j.
        meets_then _ (told (misplaced_directive (is_binding_name p) body) v) _ (told_past m (misplaced_directive (is_binding_name p) body) v j.place) (λ _ w i.
        moved_on (node start (tree.setter_prop _ x p body) b j.place (λ e. both e (both h.straight (both k.straight j.straight))) refl) i))))

    plain_method_reads : (r g : Bool) (x : Tree) (s : State) → Part m x s.at → Meets (Read m) (plain_method inner params r g start x s)
    unfolding plain_method
    plain_method_reads r g x s h = meets_then _ (function_parts inner params r g start s) _ (function_parts_read r g s (onward h.place)) (λ fn t k.
        record { straight = both (own_forward fn k.straight) (both h.straight k.straight); reaches = k.reaches; place = k.place })

    method_reads : (form : MethodForm) (x : Tree) (pat inner_class : Reader Tree) (s : State) → Part m x s.at → Meets (Read m) (function_by inner params pat inner_class (property_form form start x) s)
    unfolding function_by
    method_reads getter_form x pat inner_class s h = getter_reads x s h
    method_reads setter_form x pat inner_class s h = setter_reads x s h
    method_reads (method_form r g) x pat inner_class s h = plain_method_reads r g x s h

  pub function_decl_straight : Straight (function_decl inner params)
  unfolding function_decl
  function_decl_straight s f = let m = far (after s.at) in meets_then _ (function_word s) _ (word_past m s (first f)) (λ w t h.
      meets_then _ (star t) _ (star_ahead m t (onward h)) (λ v u a.
      meets_then _ (name faults.ExpectedIdent u) _ (name_ahead {m = m} faults.ExpectedIdent u a) (λ i o k.
      meets_then _ (function_parts inner params w v (span_at s.at) o) _ (function_parts_read m (span_at s.at) f.begins w v o (onward k.place)) (λ fn p j.
      record { straight = both k.straight j.straight; reaches = j.reaches; place = j.place }))))

  function_expr_straight : Straight (function_expr inner params)
  unfolding function_expr
  function_expr_straight s f = let m = far (after s.at) in meets_then _ (function_word s) _ (word_past m s (first f)) (λ w t h.
      meets_then _ (star t) _ (star_ahead m t (onward h)) (λ v u a.
      meets_then _ (own_name w v u) _ (own_name_reads w v m u a) (λ i o k.
      meets_then _ (function_parts inner params w v (span_at s.at) o) _ (function_parts_read m (span_at s.at) f.begins w v o k.ahead) (λ fn p j.
      record { straight = both (own_forward fn j.straight) (both k.straight j.straight); reaches = j.reaches; place = j.place }))))

  arrow_block_straight : (w : Bool) → Straight (arrow_block inner params w)
  unfolding arrow_block
  arrow_block_straight w s f = within_reads (enclosed (braced inner true)) (λ t g. enclosed_reads (braced inner true) (braced_straight inner below true) t (first g)) (λ k. with_in (in_arrow k w)) s (first f)

  -- a function as a part of an expression
  pub functions_straight : (pat inner_class : Reader Tree) → Straight pat → Straight inner_class → FunctionsStraight (function_by inner params pat inner_class)
  unfolding function_by
  functions_straight pat inner_class below_pat below_class = record {
    expressions = function_expr_straight;
    classes = below_class;
    parameters = below_pat;
    blocks = arrow_block_straight;
    methods = λ form start key m s b h. method_reads m start b form key pat inner_class s h;
  }
