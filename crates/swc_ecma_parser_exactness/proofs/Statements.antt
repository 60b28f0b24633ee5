-- Statements and declarations are supported.
use Rattle.std.proofs.Common.{◌≡◌, Bool, true, false, List, [], ◌∷◌, refl, ap}
use Rattle.swc_ecma_parser_input.specs.Place.{Place, after}
use Rattle.swc_ecma_parser_model.specs.declared.leaves.VarDeclKind.{VarDeclKind}
use Rattle.swc_ecma_parser_model.specs.Tree as tree
use Rattle.swc_ecma_parser_model.specs.Tree.{Tree, listed}
use Rattle.swc_ecma_parser_grammar.specs.declared.position.Position.{Position}
use Rattle.swc_ecma_parser_grammar.specs.Looks.{spanned}
use Rattle.swc_ecma_parser_grammar.specs.Names.{Code}
use Rattle.swc_ecma_parser_grammar.specs.language.Goals.{Goal, binding, assigning, expression, assignment, expr_goal, pattern_goal, stmt_goal, using_goal}
use Rattle.swc_ecma_parser_grammar.specs.language.Contexts.{without_in, in_with, in_loop, in_breakable, with_in, head_code}
use Rattle.swc_ecma_parser_grammar.specs.language.Items.{nested_item, sub_statement, labelled_item}
use Rattle.swc_ecma_parser_grammar.specs.language.Declarations as declarations
use Rattle.swc_ecma_parser_grammar.specs.language.Declarations.{DeclaratorRule, VariablesRule, UsingDeclaratorRule, UsingRule}
use Rattle.swc_ecma_parser_grammar.specs.language.ForHeads as heads
use Rattle.swc_ecma_parser_grammar.specs.language.ForHeads.{HeadVariablesRule, InitRule, PartRule, LeftRule, UsingNameRule, UsingHeadRule, OfLeftRule}
use Rattle.swc_ecma_parser_grammar.specs.language.Statements as statements
use Rattle.swc_ecma_parser_grammar.specs.language.Statements.{HeadRule, ReturnedRule, TargetRule, IfRule, ElseRule, CaseRule, CatchRule, FinallyRule, FormRule, StmtRule}
use Rattle.swc_ecma_parser_grammar.proofs.Tests.{and_both}
use Rattle.swc_ecma_parser_grammar.specs.scaffold.Supported.{supported}
use Rattle.swc_ecma_parser_exactness.specs.Supports.{Whole, WholeGoal}
use Rattle.swc_ecma_parser_exactness.proofs.Wholes.{as_form, both, three, EachWhole, list_whole, each_whole, separated_whole}
use Rattle.swc_ecma_parser_exactness.proofs.Parts.{name_supported, items_whole, block_whole, decorators_whole, function_whole, class_whole}

-- the label of `break` and `continue`
target_supported : {k : Code} {x : Tree} {c d : Place} → TargetRule k x c d → supported x ≡ true
target_supported (statements.no_target_rule h i e) = ap supported e
target_supported (statements.target_rule text s h r e) = ap supported e

module _ (In : Goal → Type 0) (small : (g : Goal) → In g → WholeGoal g) where
  -- ---- declarations

  declarator_whole : (k : Code) (loop : Bool) (word : VarDeclKind) (x : Tree) (c d : Place) → DeclaratorRule In k loop word x c d → Whole x
  declarator_whole k loop word x c d (declarations.plain_rule name r h i e) =
      as_form x (tree.declarator (spanned c d) name tree.absent) e (both name tree.absent (small (pattern_goal binding (with_in k) name c d) r) refl)
  declarator_whole k loop word x c d (declarations.initialized_rule name init m r h s e) =
      as_form x (tree.declarator (spanned c d) name init) e
      (both name init (small (pattern_goal binding (with_in k) name c m) r) (small (expr_goal assignment k init (after m) d) s))

  pub variables_whole : (k : Code) (loop : Bool) (word : VarDeclKind) (xs : List Tree) (c d : Place) → VariablesRule In k loop word xs c d → EachWhole xs
  variables_whole k loop word xs c d r = separated_whole (DeclaratorRule In k loop word) (declarator_whole k loop word) xs (after c) d r.1

  using_declarator_whole : (k : Code) (x : Tree) (c d : Place) → UsingDeclaratorRule In k x c d → Whole x
  using_declarator_whole k x c d r =
      as_form x (tree.declarator (spanned c d) r.name r.init) r.is
      (both r.name r.init (small (pattern_goal binding k r.name c r.equals) r.reads_name) (small (expr_goal assignment (with_in k) r.init (after r.equals) d) r.reads_init))

  using_whole : {k : Code} {at : Position} {x : Tree} {c d : Place} → UsingRule In k at x c d → Whole x
  using_whole {k = k} {x = x} {c = c} {d = d} r =
      as_form x (tree.using (spanned c d) r.is_await (listed r.declarators)) r.is
      (list_whole r.declarators (separated_whole (UsingDeclaratorRule In k) (using_declarator_whole k) r.declarators (after r.word) r.behind r.reads))

  -- ---- the heads of `for`

  head_variables_whole : {k : Code} {x : Tree} {c d : Place} → HeadVariablesRule In k x c d → Whole x
  head_variables_whole {k = k} {x = x} {c = c} {d = d} r =
      as_form x (tree.var (spanned c d) r.word (listed r.declarators)) r.is
      (list_whole r.declarators (variables_whole (head_code r.word k) true r.word r.declarators c d r.reads))

  init_whole : {k : Code} {x : Tree} {c d : Place} → InitRule In k x c d → Whole x
  init_whole {x = x} (heads.no_init_rule h i e) = ap supported e
  init_whole (heads.init_variables_rule r) = head_variables_whole r
  init_whole {k = k} {x = x} {c = c} {d = d} (heads.init_expression_rule h r) = small (expr_goal expression (without_in k) x c d) r

  part_whole : {k : Code} {x : Tree} {c d : Place} → PartRule In k x c d → Whole x
  part_whole {x = x} (heads.no_part_rule h e) = ap supported e
  part_whole {k = k} {x = x} {c = c} {d = d} (heads.part_rule r) = small (expr_goal expression (with_in k) x c d) r

  left_whole : {k : Code} {x : Tree} {c d : Place} → LeftRule In k x c d → Whole x
  left_whole (heads.declared_rule r) = head_variables_whole r
  left_whole {k = k} {x = x} {c = c} {d = d} (heads.target_rule h r) = small (pattern_goal assigning (without_in k) x c d) r

  pub using_name_whole : {k : Code} {x : Tree} {c d : Place} → UsingNameRule In k x c d → Whole x
  using_name_whole {k = k} {x = x} {c = c} {d = d} r =
      as_form x (tree.declarator (spanned (after c) d) r.name tree.absent) r.is
      (both r.name tree.absent (small (pattern_goal binding k r.name (after c) d) r.reads_name) refl)

  using_head_whole : {k : Code} {x : Tree} {c d : Place} → UsingHeadRule In k x c d → Whole x
  using_head_whole {x = x} {c = c} {d = d} (heads.using_head_rule y r e) =
      as_form x (tree.using (spanned c d) false (listed (y ∷ []))) e (list_whole (y ∷ []) (using_name_whole r, tt))
  using_head_whole {k = k} {x = x} {c = c} {d = d} (heads.await_using_head_rule y h i l r e) =
      as_form x (tree.using (spanned c d) true (listed (y ∷ []))) e (list_whole (y ∷ []) (small (using_goal k y (after c) d) r, tt))

  of_left_whole : {k : Code} {is_await : Bool} {x : Tree} {c d : Place} → OfLeftRule In k is_await x c d → Whole x
  of_left_whole (heads.of_left_rule r h) = left_whole r
  of_left_whole (heads.of_using_rule h r) = using_head_whole r

  -- ---- parts of statements

  head_whole : {k : Code} {y : Tree} {c d : Place} → HeadRule In k y c d → Whole y
  head_whole {k = k} {y = y} {c = c} r = small (expr_goal expression (with_in k) y (after c) r.close) r.reads

  operand_whole : {k : Code} {x : Tree} {c d : Place} → ReturnedRule In k x c d → Whole x
  operand_whole {x = x} (statements.no_operand_rule h i e) = ap supported e
  operand_whole {k = k} {x = x} {c = c} {d = d} (statements.operand_rule h r) = small (expr_goal expression (with_in k) x c d) r

  mutual
    if_whole : {k : Code} {x : Tree} {c d : Place} → IfRule In k x c d → Whole x
    if_whole {k = k} {x = x} {c = c} {d = d} (statements.if_rule test cons alt m n h r s t e) =
        as_form x (tree.if_stmt (spanned c d) test cons alt) e (three test cons alt (head_whole r) (small (stmt_goal k sub_statement cons m n) s) (else_whole t))

    else_whole : {k : Code} {x : Tree} {c d : Place} → ElseRule In k x c d → Whole x
    else_whole {x = x} (statements.no_else_rule h i e) = ap supported e
    else_whole {k = k} {x = x} {c = c} {d = d} (statements.else_rule h i r) = small (stmt_goal k sub_statement x (after c) d) r
    else_whole (statements.else_if_rule h r) = if_whole r

  case_whole : (k : Code) (x : Tree) (c d : Place) → CaseRule In k x c d → Whole x
  case_whole k x c d (statements.case_clause_rule test xs m h r i s e) =
      as_form x (tree.case (spanned c d) test (listed xs)) e
      (both test (listed xs) (small (expr_goal expression (with_in k) test (after c) m) r) (list_whole xs (items_whole In small k false nested_item xs (after m) d s)))
  case_whole k x c d (statements.default_clause_rule xs h i s e) =
      as_form x (tree.case (spanned c d) tree.absent (listed xs)) e (list_whole xs (items_whole In small k false nested_item xs (after (after c)) d s))

  catch_whole : {k : Code} {x : Tree} {c d : Place} → CatchRule In k x c d → Whole x
  catch_whole {x = x} (statements.no_catch_rule h i e) = ap supported e
  catch_whole {x = x} {c = c} {d = d} (statements.catch_rule body h r e) = as_form x (tree.catch (spanned c d) tree.absent body) e (block_whole In small r)
  catch_whole {k = k} {x = x} {c = c} {d = d} (statements.catch_parameter_rule p body m h i r g s e) =
      as_form x (tree.catch (spanned c d) p body) e (both p body (small (pattern_goal binding (with_in k) p (after (after c)) m) r) (block_whole In small s))

  finally_whole : {k : Code} {x : Tree} {c d : Place} → FinallyRule In k x c d → Whole x
  finally_whole {x = x} (statements.no_finally_rule h i e) = ap supported e
  finally_whole (statements.finally_rule h r) = block_whole In small r

  -- ---- statements

  pub form_whole : {k : Code} {at : Position} {x : Tree} {c d : Place} → FormRule In k at x c d → Whole x
  form_whole {x = x} (statements.class_rule decorators name y m h r s i e) =
      as_form x (tree.class_decl name y) e (both name y (name_supported s.reads_name) (class_whole In small (decorators_whole In small r) s))
  form_whole {x = x} (statements.function_rule decorators name y m r h s i e) =
      as_form x (tree.fn_decl name y) e (both name y (name_supported s.reads_name) (function_whole In small (decorators_whole In small r) s))
  form_whole {k = k} {x = x} {c = c} {d = d} (statements.variables_rule word xs m h r g e) =
      as_form x (tree.var (spanned c d) word (listed xs)) e (list_whole xs (variables_whole (with_in k) false word xs c m r))
  form_whole (statements.using_rule r) = using_whole r
  form_whole (statements.block_rule r) = block_whole In small r
  form_whole {x = x} (statements.empty_rule h i e) = ap supported e
  form_whole {x = x} (statements.debugger_rule h i e) = ap supported e
  form_whole {k = k} {x = x} {c = c} {d = d} (statements.with_rule a y m h r s e) =
      as_form x (tree.with (spanned c d) a y) e (both a y (head_whole r) (small (stmt_goal (in_with k) sub_statement y m d) s))
  form_whole {x = x} {c = c} {d = d} (statements.return_rule a m h r i e) = as_form x (tree.return (spanned c d) a) e (operand_whole r)
  form_whole {k = k} {x = x} {c = c} {d = d} (statements.labeled_rule text s y m r h i e) =
      as_form x (tree.labeled (spanned c d) (tree.ident s text) y) e
      (both (tree.ident s text) y refl (small (stmt_goal (in_breakable k) (labelled_item (after m)) y (after m) d) i))
  form_whole {x = x} {c = c} {d = d} (statements.break_rule label m h r i e) = as_form x (tree.break (spanned c d) label) e (target_supported r)
  form_whole {x = x} {c = c} {d = d} (statements.continue_rule label m h r i e) = as_form x (tree.continue (spanned c d) label) e (target_supported r)
  form_whole (statements.if_statement_rule r) = if_whole r
  form_whole {k = k} {x = x} {c = c} {d = d} (statements.switch_rule a xs m n h r i s j g o e) =
      as_form x (tree.switch (spanned c d) a (listed xs)) e
      (both a (listed xs) (head_whole r) (list_whole xs (each_whole (CaseRule In (in_breakable k)) (case_whole (in_breakable k)) xs (after m) n s)))
  form_whole {k = k} {x = x} {c = c} {d = d} (statements.throw_rule a m h i r g e) = as_form x (tree.throw (spanned c d) a) e (small (expr_goal expression (with_in k) a (after c) m) r)
  form_whole {x = x} {c = c} {d = d} (statements.try_rule body handler finalizer m n h r s t i e) =
      as_form x (tree.try (spanned c d) body handler finalizer) e (three body handler finalizer (block_whole In small r) (catch_whole s) (finally_whole t))
  form_whole {k = k} {x = x} {c = c} {d = d} (statements.while_rule a y m h r s e) =
      as_form x (tree.while (spanned c d) a y) e (both a y (head_whole r) (small (stmt_goal (in_loop k) sub_statement y m d) s))
  form_whole {k = k} {x = x} {c = c} {d = d} (statements.do_while_rule a y m n h r i s g e) =
      as_form x (tree.do_while (spanned c d) a y) e (both a y (head_whole s) (small (stmt_goal (in_loop k) sub_statement y (after c) m) r))
  form_whole {k = k} {x = x} {c = c} {d = d} (statements.for_rule init test step y l m n h i r j s g t o u e) =
      as_form x (tree.for (spanned c d) init test step y) e
      (and_both _ _ (init_whole r) (three test step y (part_whole s) (part_whole t) (small (stmt_goal (in_loop k) sub_statement y (after n) d) u)))
  form_whole {k = k} {x = x} {c = c} {d = d} (statements.for_in_rule left right y m n h i r j s g t e) =
      as_form x (tree.for_in (spanned c d) left right y) e
      (three left right y (left_whole r) (small (expr_goal expression (with_in k) right (after m) n) s) (small (stmt_goal (in_loop k) sub_statement y (after n) d) t))
  form_whole {k = k} {x = x} {c = c} {d = d} (statements.for_of_rule is_await left right y l m n h a i r j s g t e) =
      as_form x (tree.for_of (spanned c d) is_await left right y) e
      (three left right y (of_left_whole r) (small (expr_goal assignment (with_in k) right (after m) n) s) (small (stmt_goal (in_loop k) sub_statement y (after n) d) t))
  form_whole {k = k} {x = x} {c = c} {d = d} (statements.expr_rule a m h r i g e) = as_form x (tree.expr_stmt (spanned c d) a) e (small (expr_goal expression (with_in k) a c m) r)
  form_whole {k = k} {x = x} {c = c} {d = d} (statements.import_expr_rule a m h r g e) = as_form x (tree.expr_stmt (spanned c d) a) e (small (expr_goal expression (with_in k) a c m) r)

  pub stmt_whole : (k : Code) (at : Position) (x : Tree) (c d : Place) → StmtRule In k at x c d → Whole x
  stmt_whole k at x c d r = form_whole r.1
