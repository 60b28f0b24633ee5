-- Declarations take a token at least: `var`, `let`, `const` and `using`, and each of their declarators.
use Rattle.swc_ecma_parser_reader.specs.State.{fault_at, State, Reader, moved, coded, within, fault, end}
use Rattle.swc_ecma_parser_reader.specs.Reader.{missing_initializer, uninitialized, initialized, ends_declarators, missing_at, no_declarator, declarator, declarators_turn, declarators, declaration_end, variables, misusing, using_from, using_stmt}
use Rattle.swc_ecma_parser_grammar.specs.language.Contexts.{with_in}
use Rattle.swc_ecma_parser_grammar.specs.Variables.{is_const, needs_no_initializer}
use Rattle.swc_ecma_parser_model.specs.declared.leaves.VarDeclKind.{VarDeclKind}
use Rattle.swc_ecma_parser_model.specs.declared.leaves.VarDeclKind.TheVariants as decl
use Rattle.std.proofs.Common.{◌≢◌, Bool, false, List, [], length, arith}
use Rattle.std.specs.Prelude.{◌&&◌}
use Rattle.swc_ecma_parser_common.specs.declared.span.Span.{Span}
use Rattle.swc_ecma_parser_error.specs.Kind as faults
use Rattle.swc_ecma_parser_token.specs.declared.kind.TokenKind.TheVariants as kind
use Rattle.swc_ecma_parser_input.specs.Place.{after}
use Rattle.swc_ecma_parser_model.specs.Tree.{Tree}
use Rattle.swc_ecma_parser_grammar.specs.Looks.{kind_at, sees, span_at}
use Rattle.swc_ecma_parser_grammar.specs.language.Goals.{Class, expression, assignment}
use Rattle.swc_ecma_parser_reader.proofs.Takes.{Falls, falls_then, falls_last, falls_coded, falls_if, less, falls_next, moves, falls_past, falls_moved, fault_falls, end_falls, loop_falls, reject_falls}
use Rattle.swc_ecma_parser_reader.proofs.Recovered.{declaration_end_falls}
use Rattle.swc_ecma_parser_reader.proofs.Behind.{Passes}
use Rattle.swc_ecma_parser_reader.proofs.expressions.Falls.{told_falls}

-- without initializer an error token is taken at most
missing_falls : (word : VarDeclKind) (span : Span) (p : Tree) (s : State) → Falls 0 (length s.at.left) (missing_initializer word span p s)
missing_falls word span p s = falls_if 0 (length s.at.left) (is_const word && s.code.flags.strict) _ _ (falls_last 0 (length s.at.left) (fault _ s) _ (fault_falls _ s))
    (reject_falls Tree 0 (length s.at.left) _ s)

uninitialized_falls : (in_head : Bool) (word : VarDeclKind) (span : Span) (p : Tree) (s : State) → Falls 0 (length s.at.left) (uninitialized in_head word span p s)
uninitialized_falls in_head word span p s = falls_if 0 (length s.at.left) (needs_no_initializer s.code in_head word p s.at) _ _ (omega arith) (missing_falls word span p s)

module _ (inner_expr : Class → Reader Tree) (g : (class : Class) (s : State) → Falls 1 (length s.at.left) (inner_expr class s))
    (inner : Reader Tree) (h : (s : State) → Falls 1 (length s.at.left) (inner s)) where
  -- a pattern, in which `in` is an operator
  named_falls : (s : State) → Falls 1 (length s.at.left) (within with_in inner s)
  named_falls s = falls_coded 1 (length s.at.left) (inner (coded (with_in s.code) s)) _ _ (h (coded (with_in s.code) s))

  -- `=` is a token, and nothing else is asked of it
  initialized_falls : (start : Span) (p : Tree) (s : State) → Falls 0 (length s.at.left) (initialized inner_expr inner start p s)
  unfolding initialized
  initialized_falls start p s = falls_moved 0 s _ (falls_last 0 (length (after s.at).left) (inner_expr assignment (moved s)) _
      (less (length (after s.at).left) (inner_expr assignment (moved s)) (g assignment (moved s))))

  pub declarator_falls : (in_head : Bool) (word : VarDeclKind) (s : State) → Falls 1 (length s.at.left) (declarator inner_expr inner in_head word s)
  unfolding declarator
  declarator_falls in_head word s = falls_next (length s.at.left) (within with_in inner s) _ (named_falls s) (λ p t.
      falls_if 0 (length t.at.left) (sees kind.Assign t.at) _ _ (initialized_falls (span_at s.at) p t) (uninitialized_falls in_head word _ p t))

  declarators_turn_falls : (in_head : Bool) (word : VarDeclKind) (found : List Tree) (s : State) → Falls 0 (length s.at.left) (declarators_turn inner_expr inner in_head word found s)
  unfolding declarators_turn no_declarator
  declarators_turn_falls in_head word found s = falls_if 0 (length s.at.left) (ends_declarators s.at) _ _ (falls_last 0 (length s.at.left) (fault (fault_at (missing_at found s.at) faults.TS1009) s) _ (fault_falls _ s)) (falls_then 0 0 (length s.at.left) (declarator inner_expr inner in_head word s) _
      (less (length s.at.left) (declarator inner_expr inner in_head word s) (declarator_falls in_head word s)) (λ x t.
      falls_if 0 (length t.at.left) (sees kind.Comma t.at) _ _ (let m = moves t.at in omega arith) (omega arith)))

  pub declarators_fall : (in_head : Bool) (word : VarDeclKind) (s : State) → Falls 0 (length s.at.left) (declarators inner_expr inner in_head word s)
  unfolding declarators
  declarators_fall in_head word s = loop_falls (declarators_turn inner_expr inner in_head word) (declarators_turn_falls in_head word) [] s

  pub variables_falls : Passes (inner_expr expression) → (word : VarDeclKind) (s : State) → kind_at s.at ≢ kind.End → Falls 1 (length s.at.left) (variables inner_expr inner word s)
  unfolding variables
  variables_falls passes word s e = falls_past s _ e (falls_then 0 0 (length (after s.at).left) (within with_in (declarators inner_expr inner false word) (moved s)) _
      (falls_coded 0 (length (after s.at).left) (declarators inner_expr inner false word (coded (with_in s.code) (moved s))) _ _ (declarators_fall false word (coded (with_in s.code) (moved s))))
      (λ found t. falls_last 0 (length t.at.left) (declaration_end (inner_expr expression) t) _ (declaration_end_falls (inner_expr expression) passes t)))

  pub using_falls : (s : State) → kind_at s.at ≢ kind.End → Falls 1 (length s.at.left) (using_stmt (declarators inner_expr inner false decl.Var) s)
  unfolding using_stmt using_from misusing
  using_falls s e = falls_past s _ e (falls_then 0 0 (length (after s.at).left) (within with_in (declarators inner_expr inner false decl.Var) (moved s)) _
      (falls_coded 0 (length (after s.at).left) (declarators inner_expr inner false decl.Var (coded (with_in s.code) (moved s))) _ _ (declarators_fall false decl.Var (coded (with_in s.code) (moved s))))
      (λ found t. falls_then 0 0 (length t.at.left) (misusing (record { lo = (span_at s.at).lo; hi = t.at.last.hi }) found t) _ (told_falls _ t) (λ _ u.
      falls_last 0 (length u.at.left) (end faults.Expected u) _ (end_falls faults.Expected u))))
