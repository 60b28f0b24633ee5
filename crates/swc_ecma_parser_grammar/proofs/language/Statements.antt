-- Statements and declarations: what they ask of their parts, and that they are one deeper than these.
use Rattle.std.proofs.Common.{◌≡◌, ℕ, suc, max, Bool, true, false, not, List, refl, ap, arith}
use Rattle.swc_ecma_parser_input.specs.Place.{Place, after}
use Rattle.swc_ecma_parser_model.specs.declared.leaves.VarDeclKind.{VarDeclKind}
use Rattle.swc_ecma_parser_model.specs.Tree.{Tree, trees}
use Rattle.swc_ecma_parser_model.specs.Kinds.{is_if}
use Rattle.swc_ecma_parser_grammar.specs.declared.position.Position.{Position}
use Rattle.swc_ecma_parser_grammar.specs.Names.{Code}
use Rattle.swc_ecma_parser_grammar.specs.Depth.{depth, depths, flat, deeper, is_head_decl}
use Rattle.swc_ecma_parser_grammar.specs.language.Goals.{Goal, binding, assigning, expression, assignment, expr_goal, pattern_goal, stmt_goal, using_goal}
use Rattle.swc_ecma_parser_grammar.specs.language.Contexts.{without_in, in_with, in_loop, in_breakable, with_in, head_code}
use Rattle.swc_ecma_parser_grammar.specs.language.Items.{nested_item, sub_statement}
use Rattle.swc_ecma_parser_grammar.specs.language.Declarations as declarations
use Rattle.swc_ecma_parser_grammar.specs.language.Declarations.{DeclaratorRule, VariablesRule, UsingDeclaratorRule, UsingRule}
use Rattle.swc_ecma_parser_grammar.specs.language.ForHeads as heads
use Rattle.swc_ecma_parser_grammar.specs.language.ForHeads.{HeadVariablesRule, InitRule, PartRule, LeftRule, UsingNameRule, UsingHeadRule, OfLeftRule}
use Rattle.swc_ecma_parser_grammar.specs.language.Statements as statements
use Rattle.swc_ecma_parser_grammar.specs.language.Items.{labelled_item}
use Rattle.swc_ecma_parser_grammar.specs.language.Statements.{HeadRule, ReturnedRule, IfRule, ElseRule, CaseRule, CatchRule, FinallyRule, FormRule, StmtRule}
use Rattle.swc_ecma_parser_grammar.proofs.language.Asked.{Inside, Level, Fitting, whole_head, nothing, part, joined, both, turned, sized, leaf, over, aligned, same}
use Rattle.swc_ecma_parser_grammar.proofs.language.Parts.{body_depth, each_inside, separated_inside, items_inside, block_inside, block_level, function_level, decorators_inside, class_level}

-- what a for head declares, in its place
abbrev pub head_depth : Tree → ℕ
head_depth x = flat (is_head_decl x) (depth x)

-- what stands behind `else`, or nothing
abbrev pub else_depth : Tree → ℕ
else_depth x = deeper (not (is_if x)) (depth x)

is_if_of : {In : Goal → Type 0} {k : Code} {x : Tree} {c d : Place} → IfRule In k x c d → is_if x ≡ true
is_if_of (statements.if_rule test cons alt m n h r s t e) = ap is_if e

module _ (In Out : Goal → Type 0) (fitting : (g : Goal) → In g → Fitting g) where
  -- ---- declarations

  declarator_inside : (k : Code) (loop : Bool) (word : VarDeclKind) (x : Tree) (c d : Place) → DeclaratorRule In k loop word x c d → Inside In Out (DeclaratorRule Out k loop word x c d) (depth x)
  declarator_inside k loop word x c d (declarations.plain_rule name r h i e) =
      let g : depth x ≡ max (depth name) 0 = ap depth e in
      sized (part (pattern_goal binding (with_in k) name c d) r (λ o. declarations.plain_rule name o h i e)) (omega arith)
  declarator_inside k loop word x c d (declarations.initialized_rule name init m r h s e) =
      sized (joined (part (pattern_goal binding (with_in k) name c m) r (λ o. o)) (part (expr_goal assignment k init (after m) d) s (λ o. o)) (λ o w. declarations.initialized_rule name init m o h w e)) (ap depth e)

  pub variables_inside : (k : Code) (loop : Bool) (word : VarDeclKind) (xs : List Tree) (c d : Place) → VariablesRule In k loop word xs c d
      → Inside In Out (VariablesRule Out k loop word xs c d) (depths (trees xs))
  variables_inside k loop word xs c d (h, r) =
      turned (separated_inside (DeclaratorRule In k loop word) (DeclaratorRule Out k loop word) (declarator_inside k loop word) xs (after c) d r) (λ o. (h, o))

  using_declarator_inside : (k : Code) (x : Tree) (c d : Place) → UsingDeclaratorRule In k x c d → Inside In Out (UsingDeclaratorRule Out k x c d) (depth x)
  using_declarator_inside k x c d r =
      sized
      (joined (part (pattern_goal binding k r.name c r.equals) r.reads_name (λ o. o)) (part (expr_goal assignment (with_in k) r.init (after r.equals) d) r.reads_init (λ o. o))
      (λ o w. record { name = r.name; init = r.init; equals = r.equals; reads_name = o; is_name = r.is_name; assigns = r.assigns; reads_init = w; is = r.is }))
      (ap depth r.is)

  using_level : {k : Code} {at : Position} {x : Tree} {c d : Place} → UsingRule In k at x c d → Level In Out (UsingRule Out k at x c d) (depth x)
  using_level {k = k} r =
      over (separated_inside (UsingDeclaratorRule In k) (UsingDeclaratorRule Out k) (using_declarator_inside k) r.declarators (after r.word) r.behind r.reads)
      (λ o. record {
        is_await = r.is_await;
        word = r.word;
        declarators = r.declarators;
        is_read = r.is_read;
        has_place = r.has_place;
        reads_await = r.reads_await;
        on_line = r.on_line;
        begins = r.begins;
        behind = r.behind;
        reads = o;
        ends = r.ends;
        is = r.is;
      }) (ap depth r.is)

  -- ---- the heads of `for`

  head_variables_inside : {k : Code} {x : Tree} {c d : Place} → HeadVariablesRule In k x c d → Inside In Out (HeadVariablesRule Out k x c d) (head_depth x)
  head_variables_inside {k = k} {c = c} {d = d} r =
      sized (turned (variables_inside (head_code r.word k) true r.word r.declarators c d r.reads) (λ o. record { word = r.word; declarators = r.declarators; reads = o; is = r.is })) (ap head_depth r.is)

  init_inside : {k : Code} {x : Tree} {c d : Place} → InitRule In k x c d → Inside In Out (InitRule Out k x c d) (head_depth x)
  init_inside (heads.no_init_rule h i e) = sized (nothing (heads.no_init_rule h i e)) (ap head_depth e)
  init_inside (heads.init_variables_rule r) = turned (head_variables_inside r) heads.init_variables_rule
  init_inside {k = k} {x = x} {c = c} {d = d} (heads.init_expression_rule h r) =
      sized (part (expr_goal expression (without_in k) x c d) r (heads.init_expression_rule h)) (whole_head x (fitting (expr_goal expression (without_in k) x c d) r))

  part_inside : {k : Code} {x : Tree} {c d : Place} → PartRule In k x c d → Inside In Out (PartRule Out k x c d) (depth x)
  part_inside (heads.no_part_rule h e) = sized (nothing (heads.no_part_rule h e)) (ap depth e)
  part_inside {k = k} {x = x} {c = c} {d = d} (heads.part_rule r) = part (expr_goal expression (with_in k) x c d) r heads.part_rule

  left_inside : {k : Code} {x : Tree} {c d : Place} → LeftRule In k x c d → Inside In Out (LeftRule Out k x c d) (head_depth x)
  left_inside (heads.declared_rule r) = turned (head_variables_inside r) heads.declared_rule
  left_inside {k = k} {x = x} {c = c} {d = d} (heads.target_rule h r) =
      sized (part (pattern_goal assigning (without_in k) x c d) r (heads.target_rule h)) (whole_head x (fitting (pattern_goal assigning (without_in k) x c d) r).0)

  pub using_name_inside : {k : Code} {x : Tree} {c d : Place} → UsingNameRule In k x c d → Inside In Out (UsingNameRule Out k x c d) (depth x)
  using_name_inside {k = k} {x = x} {c = c} {d = d} r =
      let g : depth x ≡ max (depth r.name) 0 = ap depth r.is in
      sized (part (pattern_goal binding k r.name (after c) d) r.reads_name (λ o. record { name = r.name; begins = r.begins; no_of = r.no_of; reads_name = o; is_name = r.is_name; is = r.is })) (omega arith)

  using_head_inside : {k : Code} {x : Tree} {c d : Place} → UsingHeadRule In k x c d → Inside In Out (UsingHeadRule Out k x c d) (head_depth x)
  using_head_inside {x = x} (heads.using_head_rule y r e) =
      let g : head_depth x ≡ max (depth y) 0 = ap head_depth e in sized (turned (using_name_inside r) (λ o. heads.using_head_rule y o e)) (omega arith)
  using_head_inside {k = k} {x = x} {c = c} {d = d} (heads.await_using_head_rule y h i l r e) =
      let g : head_depth x ≡ suc (max (depth y) 0) = ap head_depth e in sized (part (using_goal k y (after c) d) r (λ o. heads.await_using_head_rule y h i l o e)) (omega arith)

  of_left_inside : {k : Code} {is_await : Bool} {x : Tree} {c d : Place} → OfLeftRule In k is_await x c d → Inside In Out (OfLeftRule Out k is_await x c d) (head_depth x)
  of_left_inside (heads.of_left_rule r h) = turned (left_inside r) (λ o. heads.of_left_rule o h)
  of_left_inside (heads.of_using_rule h r) = turned (using_head_inside r) (heads.of_using_rule h)

  -- ---- parts of statements

  head_inside : {k : Code} {y : Tree} {c d : Place} → HeadRule In k y c d → Inside In Out (HeadRule Out k y c d) (depth y)
  head_inside {k = k} {y = y} {c = c} r =
      part (expr_goal expression (with_in k) y (after c) r.close) r.reads (λ o. record { close = r.close; opens = r.opens; reads = o; closes = r.closes; next = r.next })

  operand_inside : {k : Code} {x : Tree} {c d : Place} → ReturnedRule In k x c d → Inside In Out (ReturnedRule Out k x c d) (depth x)
  operand_inside (statements.no_operand_rule h i e) = sized (nothing (statements.no_operand_rule h i e)) (ap depth e)
  operand_inside {k = k} {x = x} {c = c} {d = d} (statements.operand_rule h r) = part (expr_goal expression (with_in k) x c d) r (statements.operand_rule h)

  mutual
    if_level : {k : Code} {x : Tree} {c d : Place} → IfRule In k x c d → Level In Out (IfRule Out k x c d) (depth x)
    if_level {k = k} (statements.if_rule test cons alt m n h r s t e) =
        aligned (over (both (head_inside r) (part (stmt_goal k sub_statement cons m n) s (λ o. o))) (λ o. o) refl) (else_level t) (λ o w. statements.if_rule test cons alt m n h o.0 o.1 w e) (ap depth e)

    else_level : {k : Code} {x : Tree} {c d : Place} → ElseRule In k x c d → Level In Out (ElseRule Out k x c d) (else_depth x)
    else_level (statements.no_else_rule h i e) = leaf (statements.no_else_rule h i e) (ap else_depth e)
    else_level {k = k} {x = x} {c = c} {d = d} (statements.else_rule h i r) =
        over (part (stmt_goal k sub_statement x (after c) d) r (λ o. o)) (statements.else_rule h i) (ap (λ b. deeper (not b) (depth x)) (fitting (stmt_goal k sub_statement x (after c) d) r i))
    else_level {x = x} (statements.else_if_rule h r) = same (if_level r) (statements.else_if_rule h) (ap (λ b. deeper (not b) (depth x)) (is_if_of r))

  case_inside : (k : Code) (x : Tree) (c d : Place) → CaseRule In k x c d → Inside In Out (CaseRule Out k x c d) (depth x)
  case_inside k x c d (statements.case_clause_rule test xs m h r i s e) =
      sized (joined (part (expr_goal expression (with_in k) test (after c) m) r (λ o. o)) (items_inside In Out fitting k false nested_item xs (after m) d s) (λ o w. statements.case_clause_rule test xs m h o i w e)) (ap depth e)
  case_inside k x c d (statements.default_clause_rule xs h i s e) =
      let g : depth x ≡ max 0 (depths (trees xs)) = ap depth e in
      sized (turned (items_inside In Out fitting k false nested_item xs (after (after c)) d s) (λ o. statements.default_clause_rule xs h i o e)) (omega arith)

  catch_inside : {k : Code} {x : Tree} {c d : Place} → CatchRule In k x c d → Inside In Out (CatchRule Out k x c d) (depth x)
  catch_inside (statements.no_catch_rule h i e) = sized (nothing (statements.no_catch_rule h i e)) (ap depth e)
  catch_inside {x = x} (statements.catch_rule body h r e) =
      let g : depth x ≡ max 0 (body_depth body) = ap depth e in sized (turned (block_inside In Out fitting r) (λ o. statements.catch_rule body h o e)) (omega arith)
  catch_inside {k = k} {c = c} (statements.catch_parameter_rule p body m h i r g s e) =
      sized (joined (part (pattern_goal binding (with_in k) p (after (after c)) m) r (λ o. o)) (block_inside In Out fitting s) (λ o w. statements.catch_parameter_rule p body m h i o g w e)) (ap depth e)

  finally_inside : {k : Code} {x : Tree} {c d : Place} → FinallyRule In k x c d → Inside In Out (FinallyRule Out k x c d) (body_depth x)
  finally_inside (statements.no_finally_rule h i e) = sized (nothing (statements.no_finally_rule h i e)) (ap body_depth e)
  finally_inside (statements.finally_rule h r) = turned (block_inside In Out fitting r) (statements.finally_rule h)

  -- ---- statements

  form_level : {k : Code} {at : Position} {x : Tree} {c d : Place} → FormRule In k at x c d → Level In Out (FormRule Out k at x c d) (depth x)
  form_level (statements.class_rule decorators name y m h r s i e) =
      same (class_level In Out fitting (decorators_inside In Out fitting r) s) (λ o. statements.class_rule decorators name y m h o.0 o.1 i e) (ap depth e)
  form_level (statements.function_rule decorators name y m r h s i e) =
      same (function_level In Out fitting (decorators_inside In Out fitting r) s) (λ o. statements.function_rule decorators name y m o.0 h o.1 i e) (ap depth e)
  form_level {k = k} {c = c} (statements.variables_rule word xs m h r g e) =
      over (variables_inside (with_in k) false word xs c m r) (λ o. statements.variables_rule word xs m h o g e) (ap depth e)
  form_level (statements.using_rule r) = same (using_level r) statements.using_rule refl
  form_level (statements.block_rule r) = same (block_level In Out fitting r) statements.block_rule refl
  form_level (statements.empty_rule h i e) = leaf (statements.empty_rule h i e) (ap depth e)
  form_level (statements.debugger_rule h i e) = leaf (statements.debugger_rule h i e) (ap depth e)
  form_level {k = k} {d = d} (statements.with_rule a y m h r s e) =
      over (both (head_inside r) (part (stmt_goal (in_with k) sub_statement y m d) s (λ o. o))) (λ o. statements.with_rule a y m h o.0 o.1 e) (ap depth e)
  form_level (statements.return_rule a m h r i e) = over (operand_inside r) (λ o. statements.return_rule a m h o i e) (ap depth e)
  form_level {k = k} {d = d} (statements.labeled_rule text s y m r h i e) =
      over (part (stmt_goal (in_breakable k) (labelled_item (after m)) y (after m) d) i (λ o. o)) (λ o. statements.labeled_rule text s y m r h o e) (ap depth e)
  form_level (statements.break_rule label m h r i e) = leaf (statements.break_rule label m h r i e) (ap depth e)
  form_level (statements.continue_rule label m h r i e) = leaf (statements.continue_rule label m h r i e) (ap depth e)
  form_level (statements.if_statement_rule r) = same (if_level r) statements.if_statement_rule refl
  form_level {k = k} (statements.switch_rule a xs m n h r i s j g o e) =
      over (both (head_inside r) (each_inside (CaseRule In (in_breakable k)) (CaseRule Out (in_breakable k)) (case_inside (in_breakable k)) xs (after m) n s))
      (λ w. statements.switch_rule a xs m n h w.0 i w.1 j g o e) (ap depth e)
  form_level {k = k} {c = c} (statements.throw_rule a m h i r g e) =
      over (part (expr_goal expression (with_in k) a (after c) m) r (λ o. o)) (λ o. statements.throw_rule a m h i o g e) (ap depth e)
  form_level (statements.try_rule body handler finalizer m n h r s t i e) =
      over (both (block_inside In Out fitting r) (both (catch_inside s) (finally_inside t))) (λ o. statements.try_rule body handler finalizer m n h o.0 o.1.0 o.1.1 i e) (ap depth e)
  form_level {k = k} {d = d} (statements.while_rule a y m h r s e) =
      over (both (head_inside r) (part (stmt_goal (in_loop k) sub_statement y m d) s (λ o. o))) (λ o. statements.while_rule a y m h o.0 o.1 e) (ap depth e)
  form_level {k = k} {c = c} (statements.do_while_rule a y m n h r i s g e) =
      over (both (part (stmt_goal (in_loop k) sub_statement y (after c) m) r (λ o. o)) (head_inside s)) (λ o. statements.do_while_rule a y m n h o.0 i o.1 g e) (ap depth e)
  form_level {k = k} {d = d} (statements.for_rule init test step y l m n h i r j s g t o u e) =
      over (both (init_inside r) (both (part_inside s) (both (part_inside t) (part (stmt_goal (in_loop k) sub_statement y (after n) d) u (λ w. w)))))
      (λ w. statements.for_rule init test step y l m n h i w.0 j w.1.0 g w.1.1.0 o w.1.1.1 e) (ap depth e)
  form_level {k = k} {d = d} (statements.for_in_rule left right y m n h i r j s g t e) =
      over (both (left_inside r) (both (part (expr_goal expression (with_in k) right (after m) n) s (λ w. w)) (part (stmt_goal (in_loop k) sub_statement y (after n) d) t (λ w. w))))
      (λ w. statements.for_in_rule left right y m n h i w.0 j w.1.0 g w.1.1 e) (ap depth e)
  form_level {k = k} {d = d} (statements.for_of_rule is_await left right y l m n h a i r j s g t e) =
      over (both (of_left_inside r) (both (part (expr_goal assignment (with_in k) right (after m) n) s (λ w. w)) (part (stmt_goal (in_loop k) sub_statement y (after n) d) t (λ w. w))))
      (λ w. statements.for_of_rule is_await left right y l m n h a i w.0 j w.1.0 g w.1.1 e) (ap depth e)
  form_level {k = k} {c = c} (statements.expr_rule a m h r i g e) = over (part (expr_goal expression (with_in k) a c m) r (λ o. o)) (λ o. statements.expr_rule a m h o i g e) (ap depth e)
  form_level {k = k} {c = c} (statements.import_expr_rule a m h r g e) = over (part (expr_goal expression (with_in k) a c m) r (λ o. o)) (λ o. statements.import_expr_rule a m h o g e) (ap depth e)

  pub stmt_level : (k : Code) (at : Position) (x : Tree) (c d : Place) → StmtRule In k at x c d → Level In Out (StmtRule Out k at x c d) (depth x)
  stmt_level k at x c d r = same (form_level r.1) (λ o. (r.0, o)) refl
