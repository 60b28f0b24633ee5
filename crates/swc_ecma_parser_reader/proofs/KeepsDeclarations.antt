-- Declarations lose nothing: `var`, `let`, `const` and `using`, and each of their declarators.
use Rattle.swc_ecma_parser_reader.proofs.Errors.{is_error}
use Rattle.swc_ecma_parser_reader.proofs.expressions.KeepSteps.{told_keeps}
use Rattle.swc_ecma_parser_grammar.proofs.Using.{using_stands}
use Rattle.swc_ecma_parser_reader.specs.Reader.{missing_initializer, variables, const_stmt, let_stmt, initialized, ends_declarators, missing_at, no_declarator, declarator, declarators_turn, declarators, declaration_end, misusing, using_from, using_stmt}
use Rattle.swc_ecma_parser_grammar.specs.language.Declarations.{is_using_declaration}
use Rattle.swc_ecma_parser_model.specs.Tree.{Tree}
use Rattle.swc_ecma_parser_reader.specs.State.{State, Reader, moved, coded, within, fault, fault_at, wanted, end}
use Rattle.swc_ecma_parser_model.specs.declared.leaves.VarDeclKind.{VarDeclKind}
use Rattle.swc_ecma_parser_model.specs.declared.leaves.VarDeclKind.TheVariants as decl
use Rattle.swc_ecma_parser_grammar.specs.Variables.{is_const, needs_no_initializer}
use Rattle.swc_ecma_parser_grammar.specs.language.Contexts.{with_in}
use Rattle.swc_ecma_parser_grammar.specs.Follows.{is_let_declaration}
use Rattle.std.proofs.Common.{◌≡◌, Bool, true, false, cond, [], refl, ap}
use Rattle.std.specs.Prelude.{◌&&◌}
use Rattle.swc_ecma_parser_common.specs.declared.span.Span.{Span}
use Rattle.swc_ecma_parser_error.specs.Kind as faults
use Rattle.swc_ecma_parser_token.specs.declared.kind.TokenKind.TheVariants as kind
use Rattle.swc_ecma_parser_grammar.specs.declared.position.Position.{Position}
use Rattle.swc_ecma_parser_grammar.specs.Looks.{kind_at, sees, span_at}
use Rattle.swc_ecma_parser_grammar.specs.language.Goals.{Class, expression, assignment}
use Rattle.swc_ecma_parser_reader.proofs.Meets.{Answers, answers_then, answers_if}
use Rattle.swc_ecma_parser_reader.proofs.Recovered.{declaration_end_keeps}
use Rattle.swc_ecma_parser_reader.proofs.Behind.{NothingLost, Kept, Lost, Passes, flagged_kept, behind_after, behind_seen, fault_keeps, wanted_keeps, reject_keeps, end_keeps, loop_keeps}
use Rattle.swc_ecma_parser_reader.proofs.KeepsBelow.{KeepsBelow}
use Rattle.swc_ecma_parser_reader.proofs.KeepsLabels.{other_keeps}

-- where an initializer is asked for, a fault is recorded, or what was read is refused
missing_keeps : (b : State) (word : VarDeclKind) (span : Span) (p : Tree) (s : State) → NothingLost b s → Answers (Kept b) (Lost b) (missing_initializer word span p s)
missing_keeps b word span p s f = answers_if _ _ (is_const word && s.code.flags.strict) _ _
    (λ _. answers_then (Kept b) _ (fault (fault_at span faults.ConstDeclarationsRequireInitialization) s) _
    (fault_keeps b s f (fault_at span faults.ConstDeclarationsRequireInitialization)) (λ _ t g. g))
    (λ _. reject_keeps _ faults.PatVarWithoutInit span b s f)

module _ (inner_expr : Class → Reader Tree) (inner_pat : Reader Tree) (below_expr : (class : Class) → Passes (inner_expr class)) (below_pat : Passes inner_pat)
    (b : State) (in_head : Bool) (word : VarDeclKind) where
  declarator_keeps : (s : State) → NothingLost b s → Answers (Kept b) (Lost b) (declarator inner_expr inner_pat in_head word s)
  unfolding declarator initialized
  declarator_keeps s f = answers_then _ _ (within with_in inner_pat s) _
      (answers_then (Kept b) _ (inner_pat (coded (with_in s.code) s)) _ (below_pat b (coded (with_in s.code) s) f) (λ p t g. flagged_kept b s t f g)) (λ p t g. answers_if _ _ (sees kind.Assign t.at) _ _
      (λ seen. answers_then _ _ (inner_expr assignment (moved t)) _ (below_expr assignment b (moved t) (behind_seen b t kind.Assign seen refl g)) (λ x u h. h))
      (λ _. answers_if _ _ (needs_no_initializer t.code in_head word p t.at) _ _ (λ _. g)
      (λ _. missing_keeps b word (record { lo = (span_at s.at).lo; hi = t.at.last.hi }) p t g)))

  -- declarators one behind another
  pub declarators_keeps : (s : State) → NothingLost b s → Answers (Kept b) (Lost b) (declarators inner_expr inner_pat in_head word s)
  unfolding declarators declarators_turn no_declarator
  declarators_keeps s f = loop_keeps (declarators_turn inner_expr inner_pat in_head word) b
      (λ xs t g. answers_if _ _ (ends_declarators t.at) _ _ (λ _. answers_then (Kept b) _ (fault _ t) _ (fault_keeps b t g (fault_at (missing_at xs t.at) faults.TS1009)) (λ _ u h. h)) (λ _. answers_then _ _ (declarator inner_expr inner_pat in_head word t) _ (declarator_keeps t g) (λ x u h. answers_if _ _ (sees kind.Comma u.at) _ _ (λ seen. behind_seen b u kind.Comma seen refl h) (λ _. h)))) [] s f

module _ (known : KeepsBelow) (at : Position) (b : State) (s : State) (f : NothingLost b s) where
  pub variables_keeps : (word : VarDeclKind) → is_error (kind_at s.at) ≡ false → Answers (Kept b) (Lost b) (variables known.inner_expr known.inner_pat word s)
  unfolding variables
  variables_keeps word e = let g = behind_after b s refl e f in answers_then _ _ (within with_in (declarators known.inner_expr known.inner_pat false word) (moved s)) _
      (answers_then (Kept b) _ (declarators known.inner_expr known.inner_pat false word (coded (with_in s.code) (moved s))) _
      (declarators_keeps known.inner_expr known.inner_pat known.below_expr known.below_pat b false word (coded (with_in s.code) (moved s)) g) (λ x t k. flagged_kept b (moved s) t g k)) (λ x t k.
      answers_then (Kept b) _ (declaration_end (known.inner_expr expression) t) _ (declaration_end_keeps (known.inner_expr expression) (known.below_expr expression) b t k) (λ _ u j. j))

  pub const_keeps : kind_at s.at ≡ kind.Const → Answers (Kept b) (Lost b) (const_stmt known.inner known.inner_expr known.inner_pat known.inner_head known.inner_params known.inner_member known.inner_operators at s)
  unfolding const_stmt
  const_keeps e = where_declared at.include_decl
    where
      where_declared : (o : Bool) → Answers (Kept b) (Lost b) (cond o (variables known.inner_expr known.inner_pat decl.Const) (wanted faults.Unexpected) s)
      where_declared true = variables_keeps decl.Const (ap is_error e)
      where_declared false = wanted_keeps _ faults.Unexpected b s f

  pub let_keeps : kind_at s.at ≡ kind.Let → Answers (Kept b) (Lost b) (let_stmt known.inner known.inner_expr known.inner_pat known.inner_head known.inner_params known.inner_member known.inner_operators at s)
  unfolding let_stmt
  let_keeps e = answers_if _ _ (at.include_decl && is_let_declaration s.at) _ _ (λ _. variables_keeps decl.Let (ap is_error e)) (λ _. other_keeps known at b s f)

  pub using_keeps : is_using_declaration s.code s.at ≡ true → Answers (Kept b) (Lost b) (using_stmt (declarators known.inner_expr known.inner_pat false decl.Var) s)
  unfolding using_stmt using_from misusing
  using_keeps e = let g = behind_after b s (using_stands s.code s.at e) refl f in answers_then _ _ (within with_in (declarators known.inner_expr known.inner_pat false decl.Var) (moved s)) _
      (answers_then (Kept b) _ (declarators known.inner_expr known.inner_pat false decl.Var (coded (with_in s.code) (moved s))) _
      (declarators_keeps known.inner_expr known.inner_pat known.below_expr known.below_pat b false decl.Var (coded (with_in s.code) (moved s)) g) (λ x t k. flagged_kept b (moved s) t g k)) (λ x t k.
      answers_then (Kept b) _ (misusing (record { lo = (span_at s.at).lo; hi = t.at.last.hi }) x t) _ (told_keeps b _ t k) (λ _ u j.
      answers_then _ _ (end faults.Expected u) _ (end_keeps b u j faults.Expected) (λ _ v g. g)))

pub declarators_keeps_all : (inner_expr : Class → Reader Tree) (inner_pat : Reader Tree) → ((class : Class) → Passes (inner_expr class)) → Passes inner_pat → Passes (declarators inner_expr inner_pat false decl.Var)
declarators_keeps_all inner_expr inner_pat e p b s f = declarators_keeps inner_expr inner_pat e p b false decl.Var s f
