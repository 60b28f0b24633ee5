-- A function takes a token at least, whether it is declared, is an expression or is a method.
use Rattle.swc_ecma_parser_reader.proofs.Words.{async_kind, function_begins, function_kind, begins_function}
use Rattle.swc_ecma_parser_grammar.specs.Own.{misplaced_directive}
use Rattle.swc_ecma_parser_grammar.specs.Parameters.{parameters}
use Rattle.swc_ecma_parser_reader.proofs.Errors.{is_error, fault_here}
use Rattle.swc_ecma_parser_reader.specs.State.{enclosed, unlabelled, fault_at, noted, State, Reader, coded, within, name}
use Rattle.swc_ecma_parser_reader.specs.Reader.{function_body, function_decl, function_parts, function_stmt, misdirected, function_word, no_parameter, one_parameter, getter, setter, plain_method, arrow_block, function_by, named, own_name, function_expr, braced, told}
use Rattle.swc_ecma_parser_grammar.specs.language.Contexts.{named_by, in_body, in_arrow, in_parameters, with_in}
use Rattle.std.proofs.Common.{◌≡◌, Bool, true, false, List, [], ◌∷◌, length, refl, sym, ◌∙◌, arith, ap}
use Rattle.swc_ecma_parser_common.specs.declared.span.Span.{Span}
use Rattle.swc_ecma_parser_error.specs.Kind as faults
use Rattle.swc_ecma_parser_token.specs.declared.kind.TokenKind.TheVariants as kind
use Rattle.swc_ecma_parser_input.specs.Place.{after}
use Rattle.swc_ecma_parser_model.specs.Tree.{Tree}
use Rattle.swc_ecma_parser_model.specs.Forms.{is_binding_name, is_rest}
use Rattle.swc_ecma_parser_grammar.specs.declared.position.Position.{Position}
use Rattle.swc_ecma_parser_grammar.specs.Looks.{kind_at, span_at}
use Rattle.swc_ecma_parser_grammar.specs.Follows.{is_async_function}
use Rattle.swc_ecma_parser_reader.specs.Methods.{MethodForm, getter_form, setter_form, method_form, property_form, star}
use Rattle.swc_ecma_parser_grammar.specs.Names.{name_at}
use Rattle.swc_ecma_parser_reader.proofs.Takes.{Falls, falls_then, falls_last, falls_coded, falls_found, falls_if, less, falls_next, moves, takes, name_falls, reject_falls}
use Rattle.swc_ecma_parser_reader.proofs.expressions.Falls.{falls_when, star_falls, told_falls}
use Rattle.swc_ecma_parser_reader.proofs.FallsBlocks.{braced_falls, braced_takes}

-- what a function begins with is taken
function_word_falls : (s : State) → begins_function s.at ≡ true → Falls 1 (length s.at.left) (function_word s)
unfolding function_word
function_word_falls s e = falls_when 1 (length s.at.left) (is_async_function s.at) _ _
    (λ h. let b = moves (after s.at) in let c = takes s.at (λ g. let k = sym g ∙ async_kind s.at h in cc) in omega arith)
    (λ h. takes s.at (λ g. let k = sym g ∙ function_kind s.at e h in cc))

module _ (inner : Reader Tree) (h : (s : State) → Falls 1 (length s.at.left) (inner s)) (params : Reader (List Tree)) (g : (s : State) → Falls 0 (length s.at.left) (params s)) where
  pub function_body_falls : (w g : Bool) (s : State) → Falls 0 (length s.at.left) (function_body inner params w g s)
  unfolding function_body
  function_body_falls w g s = let t = coded (in_body s.code w g) s in
      falls_coded 0 (length s.at.left) (enclosed (braced inner true) t) _ _
      (falls_found 0 (length s.at.left) (braced inner true (unlabelled t)) _ _ (λ _ u. refl) (braced_falls inner h true (unlabelled t)))

  function_parts_falls : (w v : Bool) (start : Span) (s : State) → Falls 0 (length s.at.left) (function_parts inner params w v start s)
  unfolding function_parts misdirected
  function_parts_falls w v start s = falls_then 0 0 (length s.at.left) (within (λ k. in_parameters k w v) params s) _
      (falls_coded 0 (length s.at.left) (params (coded (in_parameters s.code w v) s)) _ _ (g (coded (in_parameters s.code w v) s))) (λ ps t.
      falls_then 0 0 (length t.at.left) (function_body inner params w v t) _ (function_body_falls w v t) (λ x u.
      falls_last 0 (length u.at.left) (misdirected (parameters ps) x u) _ (told_falls _ u)))

  pub function_falls : (s : State) → begins_function s.at ≡ true → Falls 1 (length s.at.left) (function_decl inner params s)
  unfolding function_decl
  function_falls s e = falls_next (length s.at.left) (function_word s) _ (function_word_falls s e) (λ w r.
      falls_then 0 0 (length r.at.left) (star r) _ (star_falls r) (λ v u.
      falls_then 0 0 (length u.at.left) (name faults.ExpectedIdent u) _
      (less (length u.at.left) (name faults.ExpectedIdent u) (name_falls faults.ExpectedIdent u)) (λ i t.
      falls_last 0 (length t.at.left) (function_parts inner params w v (span_at s.at) t) _ (function_parts_falls w v (span_at s.at) t))))

  -- a name may stand there or not
  named_own_falls : (s : State) → Falls 0 (length s.at.left) (named s)
  unfolding named
  named_own_falls s = falls_last 0 (length s.at.left) (name faults.ExpectedIdent s) _ (less (length s.at.left) (name faults.ExpectedIdent s) (name_falls faults.ExpectedIdent s))

  own_name_falls : (w v : Bool) (s : State) → Falls 0 (length s.at.left) (own_name w v s)
  unfolding own_name
  own_name_falls w v s = let t = coded (named_by s.code w v) s in
      falls_if 0 (length s.at.left) (name_at (named_by s.code w v).flags s.at) _ _ (falls_coded 0 (length s.at.left) (named t) _ _ (named_own_falls t)) (omega arith)

  pub function_expr_falls : (s : State) → begins_function s.at ≡ true → Falls 1 (length s.at.left) (function_expr inner params s)
  unfolding function_expr
  function_expr_falls s e = falls_next (length s.at.left) (function_word s) _ (function_word_falls s e) (λ w r.
      falls_then 0 0 (length r.at.left) (star r) _ (star_falls r) (λ v u.
      falls_then 0 0 (length u.at.left) (own_name w v u) _ (own_name_falls w v u) (λ i t.
      falls_last 0 (length t.at.left) (function_parts inner params w v (span_at s.at) t) _ (function_parts_falls w v (span_at s.at) t))))

  -- methods, from behind their key
  method_params_falls : (s : State) → Falls 0 (length s.at.left) (within (λ k. in_parameters k false false) params s)
  method_params_falls s = falls_coded 0 (length s.at.left) (params (coded (in_parameters s.code false false) s)) _ _ (g (coded (in_parameters s.code false false) s))

  no_parameter_falls : (word : Span) (ps : List Tree) (s : State) → Falls 0 (length s.at.left) (no_parameter word ps s)
  no_parameter_falls word [] s = omega arith
  no_parameter_falls word (p ∷ ps) s = reject_falls (Unit {0}) 0 (length s.at.left) _ s

  one_parameter_falls : (word : Span) (ps : List Tree) (s : State) → Falls 0 (length s.at.left) (one_parameter word ps s)
  one_parameter_falls word [] s = reject_falls Tree 0 (length s.at.left) _ s
  one_parameter_falls word (p ∷ []) s = falls_if 0 (length s.at.left) (is_rest p) _ _ (reject_falls Tree 0 (length s.at.left) _ s) (omega arith)
  one_parameter_falls word (p ∷ q ∷ qs) s = reject_falls Tree 0 (length s.at.left) _ s

  getter_falls : (start : Span) (x : Tree) (s : State) → Falls 0 (length s.at.left) (getter inner params start x s)
  unfolding getter
  getter_falls start x s = falls_then 0 0 (length s.at.left) (within (λ k. in_parameters k false false) params s) _ (method_params_falls s) (λ ps t.
      falls_then 0 0 (length t.at.left) (no_parameter start ps t) _ (no_parameter_falls start ps t) (λ _ u.
      falls_last 0 (length u.at.left) (function_body inner params false false u) _ (function_body_falls false false u)))

  setter_falls : (start : Span) (x : Tree) (s : State) → Falls 0 (length s.at.left) (setter inner params start x s)
  unfolding setter
  setter_falls start x s = falls_then 0 0 (length s.at.left) (within (λ k. in_parameters k false false) params s) _ (method_params_falls s) (λ ps t.
      falls_then 0 0 (length t.at.left) (one_parameter start ps t) _ (one_parameter_falls start ps t) (λ p u.
      falls_then 0 0 (length u.at.left) (function_body inner params false false u) _ (function_body_falls false false u) (λ body v.
      falls_last 0 (length v.at.left) (told (misplaced_directive (is_binding_name p) body) v) _ (told_falls (misplaced_directive (is_binding_name p) body) v))))

  pub method_falls : (pat inner_class : Reader Tree) (form : MethodForm) (start : Span) (x : Tree) (s : State) → Falls 0 (length s.at.left) (function_by inner params pat inner_class (property_form form start x) s)
  unfolding function_by plain_method
  method_falls pat inner_class getter_form start x s = getter_falls start x s
  method_falls pat inner_class setter_form start x s = setter_falls start x s
  method_falls pat inner_class (method_form w v) start x s = falls_last 0 (length s.at.left) (function_parts inner params w v start s) _ (function_parts_falls w v start s)

  -- no error token stands where the word does
  pub function_stmt_falls : (at : Position) (s : State) → kind_at s.at ≡ kind.Function → Falls 1 (length s.at.left) (function_stmt inner params at s)
  unfolding function_stmt
  function_stmt_falls at s e = let b = function_begins s.at e in
      falls_if 1 (length s.at.left) at.include_decl _ _ (function_falls s b) (rw (fault_here s (fault_at (span_at s.at) faults.DeclNotAllowed) (ap is_error e))
      (function_falls (noted (fault_at (span_at s.at) faults.DeclNotAllowed) s) b))

  -- the block of an arrow function
  pub arrow_block_falls : (w : Bool) (s : State) → Falls 1 (length s.at.left) (arrow_block inner params w s)
  unfolding arrow_block
  arrow_block_falls w s = let t = coded (with_in (in_arrow s.code w)) s in
      falls_coded 1 (length s.at.left) (enclosed (braced inner true) t) _ _
      (falls_found 1 (length s.at.left) (braced inner true (unlabelled t)) _ _ (λ _ u. refl) (braced_takes inner h true (unlabelled t)))
