-- A function loses nothing, whether it is declared, is an expression or is a method.
use Rattle.swc_ecma_parser_grammar.specs.Parameters.{parameters}
use Rattle.swc_ecma_parser_reader.proofs.Errors.{is_error}
use Rattle.swc_ecma_parser_reader.proofs.Words.{begins_function, async_kind, async_parts, function_begins, function_kind}
use Rattle.swc_ecma_parser_reader.proofs.expressions.Stands.{Begins}
use Rattle.swc_ecma_parser_reader.proofs.expressions.Keeps.{star_keeps}
use Rattle.swc_ecma_parser_reader.proofs.expressions.KeepSteps.{told_keeps}
use Rattle.swc_ecma_parser_reader.specs.Methods.{FunctionForm, expression_form, class_form, property_form, getter_form, setter_form, method_form, parameter_form, block_form, star}
use Rattle.swc_ecma_parser_reader.specs.Reader.{no_parameter, one_parameter, getter, setter, plain_method, arrow_block, function_by, named, own_name, function_expr, function_word, function_decl, function_stmt, function_parts, function_body, misdirected, braced, told}
use Rattle.swc_ecma_parser_grammar.specs.Names.{name_at}
use Rattle.swc_ecma_parser_model.specs.Tree.{Tree}
use Rattle.swc_ecma_parser_reader.specs.State.{below, enclosed, unlabelled, State, Reader, moved, coded, within, fault, fault_at, name}
use Rattle.swc_ecma_parser_grammar.specs.language.Items.{nested_item}
use Rattle.swc_ecma_parser_grammar.specs.Own.{misplaced_directive}
use Rattle.swc_ecma_parser_grammar.specs.language.Contexts.{named_by, in_parameters, in_body, in_arrow, with_in}
use Rattle.swc_ecma_parser_grammar.specs.Follows.{is_async_function}
use Rattle.std.proofs.Common.{◌≡◌, Bool, true, false, List, [], ◌∷◌, refl, ◌∙◌, ap}
use Rattle.swc_ecma_parser_common.specs.declared.span.Span.{Span}
use Rattle.swc_ecma_parser_error.specs.Kind as faults
use Rattle.swc_ecma_parser_token.specs.declared.kind.TokenKind.TheVariants as kind
use Rattle.swc_ecma_parser_model.specs.Forms.{is_binding_name, is_rest}
use Rattle.swc_ecma_parser_grammar.specs.declared.position.Position.{Position}
use Rattle.swc_ecma_parser_grammar.specs.Looks.{kind_at, span_at}
use Rattle.swc_ecma_parser_reader.proofs.Meets.{Answers, answers_then, answers_if}
use Rattle.swc_ecma_parser_reader.proofs.Behind.{NothingLost, Kept, Lost, Passes, flagged_kept, behind_after, fault_stays, reject_keeps, name_keeps}
use Rattle.swc_ecma_parser_reader.proofs.KeepsBelow.{KeepsBelow}
use Rattle.swc_ecma_parser_reader.proofs.KeepsBlocks.{braces_keep}

-- the words that begin a function
pub function_word_keeps : (b t : State) → begins_function t.at ≡ true → NothingLost b t → Answers (Kept b) (Lost b) (function_word t)
unfolding function_word
function_word_keeps b t e g = answers_if _ _ (is_async_function t.at) _ _ (λ h. behind_after b (moved t) (async_parts t.at h).1 refl (behind_after b t (async_kind t.at h) refl g))
    (λ h. behind_after b t (function_kind t.at e h) refl g)

-- the parameter of an accessor
no_parameter_keeps : (word : Span) (ps : List Tree) → Passes (no_parameter word ps)
no_parameter_keeps word [] b s f = f
no_parameter_keeps word (p ∷ ps) b s f = reject_keeps _ faults.GetterParam word b s f

one_parameter_keeps : (word : Span) (ps : List Tree) → Passes (one_parameter word ps)
one_parameter_keeps word [] b s f = reject_keeps _ faults.SetterParam word b s f
one_parameter_keeps word (p ∷ []) b s f = answers_if _ _ (is_rest p) _ _ (λ _. reject_keeps _ faults.RestPatInSetter word b s f) (λ _. f)
one_parameter_keeps word (p ∷ q ∷ qs) b s f = reject_keeps _ faults.SetterParam word b s f

module _ (inner : Reader Tree) (below : Passes inner) where
  module _ (params : Reader (List Tree)) (below_params : Passes params) where
    pub function_params_keep : (r g : Bool) → Passes (within (λ k. in_parameters k r g) params)
    function_params_keep r g b u k = answers_then (Kept b) _ (params (coded (in_parameters u.code r g) u)) _ (below_params b (coded (in_parameters u.code r g) u) k) (λ ps v j. flagged_kept b u v k j)

    pub function_body_keep : (r g : Bool) → Passes (function_body inner params r g)
    unfolding function_body
    function_body_keep r g b v j = answers_then (Kept b) _ (enclosed (braced inner true) (coded (in_body v.code r g) v)) _
        (answers_then (Kept b) _ (braced inner true (unlabelled (coded (in_body v.code r g) v))) _ (braces_keep inner below true b (unlabelled (coded (in_body v.code r g) v)) j) (λ x w z. z))
        (λ x w z. flagged_kept b v w j z)

    -- from behind the name
    function_parts_keep : (r g : Bool) (start : Span) → Passes (function_parts inner params r g start)
    unfolding function_parts misdirected
    function_parts_keep r g start b u k =
        answers_then (Kept b) _ (within (λ k. in_parameters k r g) params u) _ (function_params_keep r g b u k) (λ ps v j.
        answers_then (Kept b) _ (function_body inner params r g v) _ (function_body_keep r g b v j) (λ x w z.
        answers_then (Kept b) _ (misdirected (parameters ps) x w) _ (told_keeps b _ w z) (λ _ a c. c)))

    own_name_keeps : (w v : Bool) → Passes (own_name w v)
    unfolding own_name named
    own_name_keeps w v b t g = let u = coded (named_by t.code w v) t in answers_if _ _ (name_at (named_by t.code w v).flags t.at) _ _
        (λ _. answers_then (Kept b) _ (named u) _ (answers_then (Kept b) _ (name faults.ExpectedIdent u) _ (name_keeps b u g faults.ExpectedIdent) (λ i v k. k)) (λ x v k. flagged_kept b t v g k)) (λ _. g)

    function_expr_keeps : (b t : State) → begins_function t.at ≡ true → NothingLost b t → Answers (Kept b) (Lost b) (function_expr inner params t)
    unfolding function_expr
    function_expr_keeps b t e g = answers_then (Kept b) _ (function_word t) _ (function_word_keeps b t e g) (λ w o m.
        answers_then (Kept b) _ (star o) _ (star_keeps b o m) (λ v r l.
        answers_then (Kept b) _ (own_name w v r) _ (own_name_keeps w v b r l) (λ i u k.
        answers_then (Kept b) _ (function_parts inner params w v (span_at t.at) u) _ (function_parts_keep w v (span_at t.at) b u k) (λ x z j. j))))

    -- methods, from behind their key
    getter_keeps : (start : Span) (x : Tree) → Passes (getter inner params start x)
    unfolding getter
    getter_keeps start x b t g = answers_then (Kept b) _ (within (λ k. in_parameters k false false) params t) _ (function_params_keep false false b t g) (λ ps u k.
        answers_then (Kept b) _ (no_parameter start ps u) _ (no_parameter_keeps start ps b u k) (λ _ v j.
        answers_then (Kept b) _ (function_body inner params false false v) _ (function_body_keep false false b v j) (λ body w z. z)))

    setter_keeps : (start : Span) (x : Tree) → Passes (setter inner params start x)
    unfolding setter
    setter_keeps start x b t g = answers_then (Kept b) _ (within (λ k. in_parameters k false false) params t) _ (function_params_keep false false b t g) (λ ps u k.
        answers_then (Kept b) _ (one_parameter start ps u) _ (one_parameter_keeps start ps b u k) (λ p v j.
        answers_then (Kept b) _ (function_body inner params false false v) _ (function_body_keep false false b v j) (λ body w z.
        answers_then (Kept b) _ (told (misplaced_directive (is_binding_name p) body) w) _ (told_keeps b (misplaced_directive (is_binding_name p) body) w z) (λ _ a c. c))))

    plain_method_keeps : (w v : Bool) (start : Span) (x : Tree) → Passes (plain_method inner params w v start x)
    unfolding plain_method
    plain_method_keeps w v start x b t g = answers_then (Kept b) _ (function_parts inner params w v start t) _ (function_parts_keep w v start b t g) (λ y u k. k)

    -- the block of an arrow function
    arrow_block_keeps : (w : Bool) → Passes (arrow_block inner params w)
    unfolding arrow_block
    arrow_block_keeps w b s f = let t = coded (with_in (in_arrow s.code w)) s in answers_then (Kept b) _ (enclosed (braced inner true) t) _
        (answers_then (Kept b) _ (braced inner true (unlabelled t)) _ (braces_keep inner below true b (unlabelled t) f) (λ x u k. k))
        (λ x u k. flagged_kept b s u f k)

    -- a function as a part of an expression
    pub function_by_keeps : (pat inner_class : Reader Tree) → Passes pat → ((b s : State) → kind_at s.at ≡ kind.Class → NothingLost b s → Answers (Kept b) (Lost b) (inner_class s))
        → (form : FunctionForm) (b t : State) → Begins form t.at → NothingLost b t → Answers (Kept b) (Lost b) (function_by inner params pat inner_class form t)
    unfolding function_by
    function_by_keeps pat inner_class below_pat below_class expression_form b t e g = function_expr_keeps b t e g
    function_by_keeps pat inner_class below_pat below_class class_form b t e g = below_class b t e g
    function_by_keeps pat inner_class below_pat below_class (property_form getter_form start x) b t e g = getter_keeps start x b t g
    function_by_keeps pat inner_class below_pat below_class (property_form setter_form start x) b t e g = setter_keeps start x b t g
    function_by_keeps pat inner_class below_pat below_class (property_form (method_form w v) start x) b t e g = plain_method_keeps w v start x b t g
    function_by_keeps pat inner_class below_pat below_class parameter_form b t e g = below_pat b t g
    function_by_keeps pat inner_class below_pat below_class (block_form w) b t e g = arrow_block_keeps w b t g

module _ (known : KeepsBelow) (at : Position) (b : State) (s : State) (f : NothingLost b s) where
  pub function_keeps : (t : State) → begins_function t.at ≡ true → NothingLost b t → Answers (Kept b) (Lost b) (function_decl (known.inner nested_item) known.inner_params t)
  unfolding function_decl
  function_keeps t e g = answers_then (Kept b) _ (function_word t) _ (function_word_keeps b t e g) (λ w o m.
      answers_then (Kept b) _ (star o) _ (star_keeps b o m) (λ v r l.
      answers_then (Kept b) _ (name faults.ExpectedIdent r) _ (name_keeps b r l faults.ExpectedIdent) (λ i u k.
      answers_then (Kept b) _ (function_parts (known.inner nested_item) known.inner_params w v (span_at t.at) u) _
      (function_parts_keep (known.inner nested_item) (known.below_stmt nested_item) known.inner_params known.below_params w v (span_at t.at) b u k) (λ x z j. j))))

  pub function_stmt_keeps : kind_at s.at ≡ kind.Function → Answers (Kept b) (Lost b) (function_stmt (known.inner nested_item) known.inner_params at s)
  unfolding function_stmt
  function_stmt_keeps e = answers_if _ _ at.include_decl _ _ (λ _. function_keeps s (function_begins s.at e) f) (λ _. answers_then (Kept b) _ (fault (fault_at (span_at s.at) faults.DeclNotAllowed) s) _
      (fault_stays b s f (fault_at (span_at s.at) faults.DeclNotAllowed) (ap is_error e)) (λ _ t (g, o). function_keeps t (function_begins t.at (ap kind_at o ∙ e)) g))
