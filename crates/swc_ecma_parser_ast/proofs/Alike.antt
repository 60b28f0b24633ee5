-- At nodes, equality is that of the codes of the views.
use Rattle.std.proofs.Common.{◌≡◌, List, [], ◌∷◌, refl, Bool, false, ◌&&◌, Option, Some, None, map, sym}
use Rattle.std.specs.Option.{option_eq}
use Rattle.std.specs.Cmp.Lexicographic.{pointwise}
use Rattle.swc_ecma_parser_model.specs.Tree.{Tree, trees, listed}
use Rattle.swc_ecma_parser_model.specs.Leaf.{put_assign, put_bool, put_kind, put_method}
use Rattle.swc_ecma_parser_model.specs.Code.{codes}
use Rattle.swc_ecma_parser_model.specs.Same.{same, alike}
use Rattle.swc_ecma_parser_model.specs.Held.{Held, There, same_held, held_absent, absent_held}
use Rattle.swc_ecma_parser_ast.specs.Parts.{view_option}
use Rattle.swc_ecma_parser_ast.specs.Nodes.{there_block_stmt, there_catch_clause, there_expr_or_spread, there_pat, there_var_decl_or_expr}
use Rattle.swc_ecma_parser_ast.specs.Equal.{equal_span, equal_ident, equal_private_name, equal_this_expr, equal_expr_or_spread, equal_array_lit, equal_spread_element, equal_computed_prop_name, equal_prop_name, equal_key_value_prop, equal_assign_prop, equal_block_stmt, equal_getter_prop, equal_binding_ident, equal_array_pat, equal_rest_pat, equal_key_value_pat_prop, equal_assign_pat_prop, equal_object_pat_prop, equal_object_pat, equal_assign_pat, equal_invalid, equal_pat, equal_setter_prop, equal_decorator, equal_param, equal_function, equal_method_prop, equal_prop, equal_prop_or_spread, equal_object_lit, equal_fn_expr, equal_unary_expr, equal_update_expr, equal_bin_expr, equal_member_prop, equal_member_expr, equal_super, equal_super_prop, equal_super_prop_expr, equal_paren_expr, equal_simple_assign_target, equal_assign_target_pat, equal_assign_target, equal_assign_expr, equal_cond_expr, equal_import, equal_callee, equal_call_expr, equal_new_expr, equal_tpl_element, equal_opt_call, equal_opt_chain_base, equal_opt_chain_expr, equal_tpl, equal_tagged_tpl, equal_seq_expr, equal_lit, equal_block_stmt_or_expr, equal_arrow_expr, equal_param_or_ts_param_prop, equal_constructor, equal_class_method, equal_private_method, equal_class_prop, equal_private_prop, equal_empty_stmt, equal_static_block, equal_key, equal_auto_accessor, equal_class_member, equal_class, equal_class_expr, equal_yield_expr, equal_meta_prop_expr, equal_await_expr, equal_expr, equal_class_decl, equal_fn_decl, equal_declarator, equal_var_decl, equal_using_decl, equal_decl, equal_debugger_stmt, equal_with_stmt, equal_return_stmt, equal_labeled_stmt, equal_break_stmt, equal_continue_stmt, equal_if_stmt, equal_switch_case, equal_switch_stmt, equal_throw_stmt, equal_catch_clause, equal_try_stmt, equal_while_stmt, equal_do_while_stmt, equal_var_decl_or_expr, equal_for_stmt, equal_for_head, equal_for_in_stmt, equal_for_of_stmt, equal_expr_stmt, equal_stmt, equal_stmts}
use Rattle.swc_ecma_parser_ast.specs.View.{view_ident, view_this_expr, view_expr_or_spread, view_array_lit, view_spread_element, view_computed_prop_name, view_prop_name, view_key_value_prop, view_assign_prop, view_block_stmt, view_getter_prop, view_binding_ident, view_array_pat, view_rest_pat, view_key_value_pat_prop, view_assign_pat_prop, view_object_pat_prop, view_object_pat, view_assign_pat, view_invalid, view_pat, view_setter_prop, view_decorator, view_param, view_function, view_method_prop, view_prop, view_prop_or_spread, view_object_lit, view_fn_expr, view_unary_expr, view_update_expr, view_bin_expr, view_member_prop, view_member_expr, view_super, view_super_prop, view_super_prop_expr, view_paren_expr, view_simple_assign_target, view_assign_target_pat, view_assign_target, view_assign_expr, view_cond_expr, view_import, view_callee, view_call_expr, view_new_expr, view_tpl_element, view_opt_call, view_opt_chain_base, view_opt_chain_expr, view_tpl, view_tagged_tpl, view_seq_expr, view_lit, view_block_stmt_or_expr, view_arrow_expr, view_param_or_ts_param_prop, view_constructor, view_class_method, view_private_method, view_class_prop, view_private_prop, view_empty_stmt, view_static_block, view_key, view_auto_accessor, view_class_member, view_class, view_class_expr, view_yield_expr, view_meta_prop_expr, view_await_expr, view_expr, view_class_decl, view_fn_decl, view_declarator, view_var_decl, view_using_decl, view_decl, view_debugger_stmt, view_with_stmt, view_return_stmt, view_labeled_stmt, view_break_stmt, view_continue_stmt, view_if_stmt, view_switch_case, view_switch_stmt, view_throw_stmt, view_catch_clause, view_try_stmt, view_while_stmt, view_do_while_stmt, view_var_decl_or_expr, view_for_stmt, view_for_head, view_for_in_stmt, view_for_of_stmt, view_expr_stmt, view_stmt}
use Rattle.swc_ecma_parser_ast.specs.Differ.{alike_as_expr, as_expr_other, other_as_expr}
use Rattle.swc_ecma_parser_model.specs.declared.leaves.TplElement.{TplElement}
use Rattle.swc_ecma_parser_ast.specs.declared.expr.ThisExpr.{ThisExpr}
use Rattle.swc_ecma_parser_ast.specs.declared.call.ExprOrSpread.{ExprOrSpread}
use Rattle.swc_ecma_parser_ast.specs.declared.object.ArrayLit.{ArrayLit}
use Rattle.swc_ecma_parser_ast.specs.declared.object.SpreadElement.{SpreadElement}
use Rattle.swc_ecma_parser_ast.specs.declared.object.ComputedPropName.{ComputedPropName}
use Rattle.swc_ecma_parser_ast.specs.declared.object.PropName.{PropName}
use Rattle.swc_ecma_parser_ast.specs.declared.object.PropName.TheVariants as v_prop_name
use Rattle.swc_ecma_parser_ast.specs.declared.object.KeyValueProp.{KeyValueProp}
use Rattle.swc_ecma_parser_ast.specs.declared.object.AssignProp.{AssignProp}
use Rattle.swc_ecma_parser_ast.specs.declared.stmt.BlockStmt.{BlockStmt}
use Rattle.swc_ecma_parser_ast.specs.declared.object.GetterProp.{GetterProp}
use Rattle.swc_ecma_parser_ast.specs.declared.pat.BindingIdent.{BindingIdent}
use Rattle.swc_ecma_parser_ast.specs.declared.pat.ArrayPat.{ArrayPat}
use Rattle.swc_ecma_parser_ast.specs.declared.pat.RestPat.{RestPat}
use Rattle.swc_ecma_parser_ast.specs.declared.pat.KeyValuePatProp.{KeyValuePatProp}
use Rattle.swc_ecma_parser_ast.specs.declared.pat.AssignPatProp.{AssignPatProp}
use Rattle.swc_ecma_parser_ast.specs.declared.pat.ObjectPatProp.{ObjectPatProp}
use Rattle.swc_ecma_parser_ast.specs.declared.pat.ObjectPatProp.TheVariants as v_object_pat_prop
use Rattle.swc_ecma_parser_ast.specs.declared.pat.ObjectPat.{ObjectPat}
use Rattle.swc_ecma_parser_ast.specs.declared.pat.AssignPat.{AssignPat}
use Rattle.swc_ecma_parser_ast.specs.declared.expr.Invalid.{Invalid}
use Rattle.swc_ecma_parser_ast.specs.declared.pat.Pat.{Pat}
use Rattle.swc_ecma_parser_ast.specs.declared.pat.Pat.TheVariants as v_pat
use Rattle.swc_ecma_parser_ast.specs.declared.object.SetterProp.{SetterProp}
use Rattle.swc_ecma_parser_ast.specs.declared.function.Decorator.{Decorator}
use Rattle.swc_ecma_parser_ast.specs.declared.function.Param.{Param}
use Rattle.swc_ecma_parser_ast.specs.declared.function.Function.{Function}
use Rattle.swc_ecma_parser_ast.specs.declared.object.MethodProp.{MethodProp}
use Rattle.swc_ecma_parser_ast.specs.declared.object.Prop.{Prop}
use Rattle.swc_ecma_parser_ast.specs.declared.object.Prop.TheVariants as v_prop
use Rattle.swc_ecma_parser_ast.specs.declared.object.PropOrSpread.{PropOrSpread}
use Rattle.swc_ecma_parser_ast.specs.declared.object.PropOrSpread.TheVariants as v_prop_or_spread
use Rattle.swc_ecma_parser_ast.specs.declared.object.ObjectLit.{ObjectLit}
use Rattle.swc_ecma_parser_ast.specs.declared.function.FnExpr.{FnExpr}
use Rattle.swc_ecma_parser_ast.specs.declared.expr.UnaryExpr.{UnaryExpr}
use Rattle.swc_ecma_parser_ast.specs.declared.expr.UpdateExpr.{UpdateExpr}
use Rattle.swc_ecma_parser_ast.specs.declared.expr.BinExpr.{BinExpr}
use Rattle.swc_ecma_parser_ast.specs.declared.call.MemberProp.{MemberProp}
use Rattle.swc_ecma_parser_ast.specs.declared.call.MemberProp.TheVariants as v_member_prop
use Rattle.swc_ecma_parser_ast.specs.declared.call.MemberExpr.{MemberExpr}
use Rattle.swc_ecma_parser_ast.specs.declared.call.Super.{Super}
use Rattle.swc_ecma_parser_ast.specs.declared.call.SuperProp.{SuperProp}
use Rattle.swc_ecma_parser_ast.specs.declared.call.SuperProp.TheVariants as v_super_prop
use Rattle.swc_ecma_parser_ast.specs.declared.call.SuperPropExpr.{SuperPropExpr}
use Rattle.swc_ecma_parser_ast.specs.declared.expr.ParenExpr.{ParenExpr}
use Rattle.swc_ecma_parser_ast.specs.declared.target.SimpleAssignTarget.{SimpleAssignTarget}
use Rattle.swc_ecma_parser_ast.specs.declared.target.SimpleAssignTarget.TheVariants as v_simple_assign_target
use Rattle.swc_ecma_parser_ast.specs.declared.target.AssignTargetPat.{AssignTargetPat}
use Rattle.swc_ecma_parser_ast.specs.declared.target.AssignTargetPat.TheVariants as v_assign_target_pat
use Rattle.swc_ecma_parser_ast.specs.declared.target.AssignTarget.{AssignTarget}
use Rattle.swc_ecma_parser_ast.specs.declared.target.AssignTarget.TheVariants as v_assign_target
use Rattle.swc_ecma_parser_ast.specs.declared.target.AssignExpr.{AssignExpr}
use Rattle.swc_ecma_parser_ast.specs.declared.expr.CondExpr.{CondExpr}
use Rattle.swc_ecma_parser_ast.specs.declared.call.Import.{Import}
use Rattle.swc_ecma_parser_ast.specs.declared.call.Callee.{Callee}
use Rattle.swc_ecma_parser_ast.specs.declared.call.Callee.TheVariants as v_callee
use Rattle.swc_ecma_parser_ast.specs.declared.call.CallExpr.{CallExpr}
use Rattle.swc_ecma_parser_ast.specs.declared.call.NewExpr.{NewExpr}
use Rattle.swc_ecma_parser_ast.specs.declared.call.OptCall.{OptCall}
use Rattle.swc_ecma_parser_ast.specs.declared.call.OptChainBase.{OptChainBase}
use Rattle.swc_ecma_parser_ast.specs.declared.call.OptChainBase.TheVariants as v_opt_chain_base
use Rattle.swc_ecma_parser_ast.specs.declared.call.OptChainExpr.{OptChainExpr}
use Rattle.swc_ecma_parser_ast.specs.declared.template.Tpl.{Tpl}
use Rattle.swc_ecma_parser_ast.specs.declared.template.TaggedTpl.{TaggedTpl}
use Rattle.swc_ecma_parser_ast.specs.declared.expr.SeqExpr.{SeqExpr}
use Rattle.swc_ecma_parser_ast.specs.declared.expr.Lit.{Lit}
use Rattle.swc_ecma_parser_ast.specs.declared.expr.Lit.TheVariants as v_lit
use Rattle.swc_ecma_parser_ast.specs.declared.function.BlockStmtOrExpr.{BlockStmtOrExpr}
use Rattle.swc_ecma_parser_ast.specs.declared.function.BlockStmtOrExpr.TheVariants as v_block_stmt_or_expr
use Rattle.swc_ecma_parser_ast.specs.declared.function.ArrowExpr.{ArrowExpr}
use Rattle.swc_ecma_parser_ast.specs.declared.class.ParamOrTsParamProp.{ParamOrTsParamProp}
use Rattle.swc_ecma_parser_ast.specs.declared.class.ParamOrTsParamProp.TheVariants as v_param_or_ts_param_prop
use Rattle.swc_ecma_parser_ast.specs.declared.class.Constructor.{Constructor}
use Rattle.swc_ecma_parser_ast.specs.declared.class.ClassMethod.{ClassMethod}
use Rattle.swc_ecma_parser_ast.specs.declared.class.PrivateMethod.{PrivateMethod}
use Rattle.swc_ecma_parser_ast.specs.declared.member.ClassProp.{ClassProp}
use Rattle.swc_ecma_parser_ast.specs.declared.member.PrivateProp.{PrivateProp}
use Rattle.swc_ecma_parser_ast.specs.declared.stmt.EmptyStmt.{EmptyStmt}
use Rattle.swc_ecma_parser_ast.specs.declared.member.StaticBlock.{StaticBlock}
use Rattle.swc_ecma_parser_ast.specs.declared.member.Key.{Key}
use Rattle.swc_ecma_parser_ast.specs.declared.member.Key.TheVariants as v_key
use Rattle.swc_ecma_parser_ast.specs.declared.member.AutoAccessor.{AutoAccessor}
use Rattle.swc_ecma_parser_ast.specs.declared.class.ClassMember.{ClassMember}
use Rattle.swc_ecma_parser_ast.specs.declared.class.ClassMember.TheVariants as v_class_member
use Rattle.swc_ecma_parser_ast.specs.declared.class.Class.{Class}
use Rattle.swc_ecma_parser_ast.specs.declared.class.ClassExpr.{ClassExpr}
use Rattle.swc_ecma_parser_ast.specs.declared.expr.YieldExpr.{YieldExpr}
use Rattle.swc_ecma_parser_ast.specs.declared.expr.MetaPropExpr.{MetaPropExpr}
use Rattle.swc_ecma_parser_ast.specs.declared.expr.AwaitExpr.{AwaitExpr}
use Rattle.swc_ecma_parser_ast.specs.declared.expr.Expr.{Expr}
use Rattle.swc_ecma_parser_ast.specs.declared.expr.Expr.TheVariants as v_expr
use Rattle.swc_ecma_parser_ast.specs.declared.class.ClassDecl.{ClassDecl}
use Rattle.swc_ecma_parser_ast.specs.declared.function.FnDecl.{FnDecl}
use Rattle.swc_ecma_parser_ast.specs.declared.decl.VarDeclarator.{VarDeclarator}
use Rattle.swc_ecma_parser_ast.specs.declared.decl.VarDecl.{VarDecl}
use Rattle.swc_ecma_parser_ast.specs.declared.decl.UsingDecl.{UsingDecl}
use Rattle.swc_ecma_parser_ast.specs.declared.decl.Decl.{Decl}
use Rattle.swc_ecma_parser_ast.specs.declared.decl.Decl.TheVariants as v_decl
use Rattle.swc_ecma_parser_ast.specs.declared.stmt.DebuggerStmt.{DebuggerStmt}
use Rattle.swc_ecma_parser_ast.specs.declared.stmt.WithStmt.{WithStmt}
use Rattle.swc_ecma_parser_ast.specs.declared.stmt.ReturnStmt.{ReturnStmt}
use Rattle.swc_ecma_parser_ast.specs.declared.stmt.LabeledStmt.{LabeledStmt}
use Rattle.swc_ecma_parser_ast.specs.declared.stmt.BreakStmt.{BreakStmt}
use Rattle.swc_ecma_parser_ast.specs.declared.stmt.ContinueStmt.{ContinueStmt}
use Rattle.swc_ecma_parser_ast.specs.declared.branch.IfStmt.{IfStmt}
use Rattle.swc_ecma_parser_ast.specs.declared.branch.SwitchCase.{SwitchCase}
use Rattle.swc_ecma_parser_ast.specs.declared.branch.SwitchStmt.{SwitchStmt}
use Rattle.swc_ecma_parser_ast.specs.declared.branch.ThrowStmt.{ThrowStmt}
use Rattle.swc_ecma_parser_ast.specs.declared.branch.CatchClause.{CatchClause}
use Rattle.swc_ecma_parser_ast.specs.declared.branch.TryStmt.{TryStmt}
use Rattle.swc_ecma_parser_ast.specs.declared.loops.WhileStmt.{WhileStmt}
use Rattle.swc_ecma_parser_ast.specs.declared.loops.DoWhileStmt.{DoWhileStmt}
use Rattle.swc_ecma_parser_ast.specs.declared.loops.VarDeclOrExpr.{VarDeclOrExpr}
use Rattle.swc_ecma_parser_ast.specs.declared.loops.VarDeclOrExpr.TheVariants as v_var_decl_or_expr
use Rattle.swc_ecma_parser_ast.specs.declared.loops.ForStmt.{ForStmt}
use Rattle.swc_ecma_parser_ast.specs.declared.loops.ForHead.{ForHead}
use Rattle.swc_ecma_parser_ast.specs.declared.loops.ForHead.TheVariants as v_for_head
use Rattle.swc_ecma_parser_ast.specs.declared.loops.ForInStmt.{ForInStmt}
use Rattle.swc_ecma_parser_ast.specs.declared.loops.ForOfStmt.{ForOfStmt}
use Rattle.swc_ecma_parser_ast.specs.declared.stmt.ExprStmt.{ExprStmt}
use Rattle.swc_ecma_parser_ast.specs.declared.stmt.Stmt.{Stmt}
use Rattle.swc_ecma_parser_ast.specs.declared.stmt.Stmt.TheVariants as v_stmt

pub alike_each : {X : Type 0} (equal : X → X → Bool) (view : X → Tree) → ((x y : X) → equal x y ≡ same (view x) (view y))
    → (xs ys : List X) → pointwise equal xs ys ≡ alike (codes (trees (map view xs))) (codes (trees (map view ys)))
alike_each equal view h [] [] = refl
alike_each equal view h (x ∷ xs) (y ∷ ys) = λ k. h x y k && alike_each equal view h xs ys k
alike_each _ _ _ _ _ = refl

pub alike_option : {X : Type 0} (equal : X → X → Bool) (view : X → Tree) → ((x y : X) → equal x y ≡ same (view x) (view y)) → ((x : X) → There (view x))
    → (x y : Option X) → option_eq equal x y ≡ same (view_option view x) (view_option view y)
alike_option equal view h there (Some x) (Some y) = h x y
alike_option equal view h there None None = refl
alike_option equal view h there None (Some y) = sym (absent_held (record { tree = view y; there = there y }))
alike_option equal view h there (Some x) None = sym (held_absent (record { tree = view x; there = there x }))

pub alike_this_expr : (x y : ThisExpr) → equal_this_expr x y ≡ same (view_this_expr x) (view_this_expr y)
alike_this_expr x y = refl

pub alike_expr_or_spread : (x y : ExprOrSpread Held) → equal_expr_or_spread same_held x y ≡ same (view_expr_or_spread x) (view_expr_or_spread y)
alike_expr_or_spread x y = refl

pub alike_array_lit : (x y : ArrayLit Held) → equal_array_lit same_held x y ≡ same (view_array_lit x) (view_array_lit y)
alike_array_lit x y = λ k. equal_span x.span y.span && alike_each (option_eq (equal_expr_or_spread same_held)) (view_option view_expr_or_spread) (alike_option (equal_expr_or_spread same_held) view_expr_or_spread alike_expr_or_spread there_expr_or_spread) x.elems.items y.elems.items k

pub alike_spread_element : (x y : SpreadElement Held) → equal_spread_element same_held x y ≡ same (view_spread_element x) (view_spread_element y)
alike_spread_element x y = refl

pub alike_computed_prop_name : (x y : ComputedPropName Held) → equal_computed_prop_name same_held x y ≡ same (view_computed_prop_name x) (view_computed_prop_name y)
alike_computed_prop_name x y = refl

pub alike_prop_name : (x y : PropName Held) → equal_prop_name same_held x y ≡ same (view_prop_name x) (view_prop_name y)
alike_prop_name (v_prop_name.Ident x) (v_prop_name.Ident y) = refl
alike_prop_name (v_prop_name.Str x) (v_prop_name.Str y) = refl
alike_prop_name (v_prop_name.Num x) (v_prop_name.Num y) = refl
alike_prop_name (v_prop_name.BigInt x) (v_prop_name.BigInt y) = refl
alike_prop_name (v_prop_name.Computed x) (v_prop_name.Computed y) = alike_computed_prop_name x y
alike_prop_name _ _ = refl

pub alike_key_value_prop : (x y : KeyValueProp Held) → equal_key_value_prop same_held x y ≡ same (view_key_value_prop x) (view_key_value_prop y)
alike_key_value_prop x y = λ k. equal_span x.span y.span && (alike_prop_name x.key y.key k && same_held x.value.node y.value.node)

pub alike_assign_prop : (x y : AssignProp Held) → equal_assign_prop same_held x y ≡ same (view_assign_prop x) (view_assign_prop y)
alike_assign_prop x y = refl

pub alike_block_stmt : (x y : BlockStmt Held) → equal_block_stmt same_held x y ≡ same (view_block_stmt x) (view_block_stmt y)
alike_block_stmt x y = refl

pub alike_getter_prop : (x y : GetterProp Held) → equal_getter_prop same_held x y ≡ same (view_getter_prop x) (view_getter_prop y)
alike_getter_prop x y = λ k. equal_span x.span y.span && (alike_prop_name x.key y.key k && alike_option (equal_block_stmt same_held) view_block_stmt alike_block_stmt there_block_stmt x.body y.body k)

pub alike_binding_ident : (x y : BindingIdent) → equal_binding_ident x y ≡ same (view_binding_ident x) (view_binding_ident y)
alike_binding_ident x y = refl

pub alike_array_pat : (x y : ArrayPat Held) → equal_array_pat same_held x y ≡ same (view_array_pat x) (view_array_pat y)
alike_array_pat x y = λ k. equal_span x.span y.span && alike_each (option_eq (λ a b. same_held a.node b.node)) (view_option (λ b. b.node.tree)) (alike_option (λ a b. same_held a.node b.node) (λ b. b.node.tree) (λ a b. refl) (λ b. b.node.there)) x.elems.items y.elems.items k

pub alike_rest_pat : (x y : RestPat Held) → equal_rest_pat same_held x y ≡ same (view_rest_pat x) (view_rest_pat y)
alike_rest_pat x y = refl

pub alike_key_value_pat_prop : (x y : KeyValuePatProp Held) → equal_key_value_pat_prop same_held x y ≡ same (view_key_value_pat_prop x) (view_key_value_pat_prop y)
alike_key_value_pat_prop x y = λ k. equal_span x.span y.span && (alike_prop_name x.key y.key k && same_held x.value.node y.value.node)

pub alike_assign_pat_prop : (x y : AssignPatProp Held) → equal_assign_pat_prop same_held x y ≡ same (view_assign_pat_prop x) (view_assign_pat_prop y)
alike_assign_pat_prop x y = λ k. equal_span x.span y.span && (alike_binding_ident x.key y.key k && alike_option (λ a b. same_held a.node b.node) (λ b. b.node.tree) (λ a b. refl) (λ b. b.node.there) x.value y.value k)

pub alike_object_pat_prop : (x y : ObjectPatProp Held) → equal_object_pat_prop same_held x y ≡ same (view_object_pat_prop x) (view_object_pat_prop y)
alike_object_pat_prop (v_object_pat_prop.KeyValue x) (v_object_pat_prop.KeyValue y) = alike_key_value_pat_prop x y
alike_object_pat_prop (v_object_pat_prop.Assign x) (v_object_pat_prop.Assign y) = alike_assign_pat_prop x y
alike_object_pat_prop (v_object_pat_prop.Rest x) (v_object_pat_prop.Rest y) = alike_rest_pat x y
alike_object_pat_prop _ _ = refl

pub alike_object_pat : (x y : ObjectPat Held) → equal_object_pat same_held x y ≡ same (view_object_pat x) (view_object_pat y)
alike_object_pat x y = λ k. equal_span x.span y.span && alike_each (equal_object_pat_prop same_held) view_object_pat_prop alike_object_pat_prop x.props.items y.props.items k

pub alike_assign_pat : (x y : AssignPat Held) → equal_assign_pat same_held x y ≡ same (view_assign_pat x) (view_assign_pat y)
alike_assign_pat x y = refl

pub alike_invalid : (x y : Invalid) → equal_invalid x y ≡ same (view_invalid x) (view_invalid y)
alike_invalid x y = refl

pub alike_pat : (x y : Pat Held) → equal_pat same_held x y ≡ same (view_pat x) (view_pat y)
alike_pat (v_pat.Ident x) (v_pat.Ident y) = alike_binding_ident x y
alike_pat (v_pat.Array x) (v_pat.Array y) = alike_array_pat x y
alike_pat (v_pat.Rest x) (v_pat.Rest y) = alike_rest_pat x y
alike_pat (v_pat.Object x) (v_pat.Object y) = alike_object_pat x y
alike_pat (v_pat.Assign x) (v_pat.Assign y) = alike_assign_pat x y
alike_pat (v_pat.Invalid x) (v_pat.Invalid y) = refl
alike_pat (v_pat.Expr x) (v_pat.Expr y) = alike_as_expr x.node y.node
alike_pat _ _ = refl

pub alike_setter_prop : (x y : SetterProp Held) → equal_setter_prop same_held x y ≡ same (view_setter_prop x) (view_setter_prop y)
alike_setter_prop x y = λ k. equal_span x.span y.span && (alike_prop_name x.key y.key k && (alike_pat x.param y.param k && alike_option (equal_block_stmt same_held) view_block_stmt alike_block_stmt there_block_stmt x.body y.body k))

pub alike_decorator : (x y : Decorator Held) → equal_decorator same_held x y ≡ same (view_decorator x) (view_decorator y)
alike_decorator x y = refl

pub alike_param : (x y : Param Held) → equal_param same_held x y ≡ same (view_param x) (view_param y)
alike_param x y = λ k. equal_span x.span y.span && (alike_each (equal_decorator same_held) view_decorator alike_decorator x.decorators.items y.decorators.items k && alike_pat x.pat y.pat k)

pub alike_function : (x y : Function Held) → equal_function same_held x y ≡ same (view_function x) (view_function y)
alike_function x y = λ k. equal_span x.span y.span && (alike_each (equal_decorator same_held) view_decorator alike_decorator x.decorators.items y.decorators.items k && (alike_each (equal_param same_held) view_param alike_param x.params.items y.params.items k && (alike_option (equal_block_stmt same_held) view_block_stmt alike_block_stmt there_block_stmt x.body y.body k && (alike (put_bool x.is_async) (put_bool y.is_async) && alike (put_bool x.is_generator) (put_bool y.is_generator)))))

pub alike_method_prop : (x y : MethodProp Held) → equal_method_prop same_held x y ≡ same (view_method_prop x) (view_method_prop y)
alike_method_prop x y = λ k. equal_span x.span y.span && (alike_prop_name x.key y.key k && alike_function x.function.value y.function.value k)

pub alike_prop : (x y : Prop Held) → equal_prop same_held x y ≡ same (view_prop x) (view_prop y)
alike_prop (v_prop.Shorthand x) (v_prop.Shorthand y) = refl
alike_prop (v_prop.KeyValue x) (v_prop.KeyValue y) = alike_key_value_prop x y
alike_prop (v_prop.Assign x) (v_prop.Assign y) = alike_assign_prop x y
alike_prop (v_prop.Getter x) (v_prop.Getter y) = alike_getter_prop x y
alike_prop (v_prop.Setter x) (v_prop.Setter y) = alike_setter_prop x y
alike_prop (v_prop.Method x) (v_prop.Method y) = alike_method_prop x y
alike_prop _ _ = refl

-- a property looks like no spread
prop_spread : (x : Prop Held) (y : SpreadElement Held) → false ≡ same (view_prop x) (view_spread_element y)
prop_spread (v_prop.Shorthand _) _ = refl
prop_spread (v_prop.KeyValue _) _ = refl
prop_spread (v_prop.Assign _) _ = refl
prop_spread (v_prop.Getter _) _ = refl
prop_spread (v_prop.Setter _) _ = refl
prop_spread (v_prop.Method _) _ = refl

spread_prop : (x : SpreadElement Held) (y : Prop Held) → false ≡ same (view_spread_element x) (view_prop y)
spread_prop _ (v_prop.Shorthand _) = refl
spread_prop _ (v_prop.KeyValue _) = refl
spread_prop _ (v_prop.Assign _) = refl
spread_prop _ (v_prop.Getter _) = refl
spread_prop _ (v_prop.Setter _) = refl
spread_prop _ (v_prop.Method _) = refl

pub alike_prop_or_spread : (x y : PropOrSpread Held) → equal_prop_or_spread same_held x y ≡ same (view_prop_or_spread x) (view_prop_or_spread y)
alike_prop_or_spread (v_prop_or_spread.Spread x) (v_prop_or_spread.Spread y) = alike_spread_element x y
alike_prop_or_spread (v_prop_or_spread.Prop x) (v_prop_or_spread.Prop y) = alike_prop x.value y.value
alike_prop_or_spread (v_prop_or_spread.Prop x) (v_prop_or_spread.Spread y) = prop_spread x.value y
alike_prop_or_spread (v_prop_or_spread.Spread x) (v_prop_or_spread.Prop y) = spread_prop x y.value

pub alike_object_lit : (x y : ObjectLit Held) → equal_object_lit same_held x y ≡ same (view_object_lit x) (view_object_lit y)
alike_object_lit x y = λ k. equal_span x.span y.span && alike_each (equal_prop_or_spread same_held) view_prop_or_spread alike_prop_or_spread x.props.items y.props.items k

pub alike_fn_expr : (x y : FnExpr Held) → equal_fn_expr same_held x y ≡ same (view_fn_expr x) (view_fn_expr y)
alike_fn_expr x y = λ k. equal_span x.span y.span && (alike_option equal_ident view_ident (λ a b. refl) (λ x. tt) x.ident y.ident k && alike_function x.function.value y.function.value k)

pub alike_unary_expr : (x y : UnaryExpr Held) → equal_unary_expr same_held x y ≡ same (view_unary_expr x) (view_unary_expr y)
alike_unary_expr x y = refl

pub alike_update_expr : (x y : UpdateExpr Held) → equal_update_expr same_held x y ≡ same (view_update_expr x) (view_update_expr y)
alike_update_expr x y = refl

pub alike_bin_expr : (x y : BinExpr Held) → equal_bin_expr same_held x y ≡ same (view_bin_expr x) (view_bin_expr y)
alike_bin_expr x y = refl

pub alike_member_prop : (x y : MemberProp Held) → equal_member_prop same_held x y ≡ same (view_member_prop x) (view_member_prop y)
alike_member_prop (v_member_prop.Ident x) (v_member_prop.Ident y) = refl
alike_member_prop (v_member_prop.PrivateName x) (v_member_prop.PrivateName y) = refl
alike_member_prop (v_member_prop.Computed x) (v_member_prop.Computed y) = alike_computed_prop_name x y
alike_member_prop _ _ = refl

pub alike_member_expr : (x y : MemberExpr Held) → equal_member_expr same_held x y ≡ same (view_member_expr x) (view_member_expr y)
alike_member_expr x y = λ k. equal_span x.span y.span && (same_held x.obj.node y.obj.node && alike_member_prop x.prop y.prop k)

pub alike_super : (x y : Super) → equal_super x y ≡ same (view_super x) (view_super y)
alike_super x y = refl

pub alike_super_prop : (x y : SuperProp Held) → equal_super_prop same_held x y ≡ same (view_super_prop x) (view_super_prop y)
alike_super_prop (v_super_prop.Ident x) (v_super_prop.Ident y) = refl
alike_super_prop (v_super_prop.Computed x) (v_super_prop.Computed y) = alike_computed_prop_name x y
alike_super_prop _ _ = refl

pub alike_super_prop_expr : (x y : SuperPropExpr Held) → equal_super_prop_expr same_held x y ≡ same (view_super_prop_expr x) (view_super_prop_expr y)
alike_super_prop_expr x y = λ k. equal_span x.span y.span && (alike_super x.obj y.obj k && alike_super_prop x.prop y.prop k)

pub alike_paren_expr : (x y : ParenExpr Held) → equal_paren_expr same_held x y ≡ same (view_paren_expr x) (view_paren_expr y)
alike_paren_expr x y = refl

pub alike_simple_assign_target : (x y : SimpleAssignTarget Held) → equal_simple_assign_target same_held x y ≡ same (view_simple_assign_target x) (view_simple_assign_target y)
alike_simple_assign_target (v_simple_assign_target.Ident x) (v_simple_assign_target.Ident y) = alike_binding_ident x y
alike_simple_assign_target (v_simple_assign_target.Member x) (v_simple_assign_target.Member y) = alike_member_expr x y
alike_simple_assign_target (v_simple_assign_target.SuperProp x) (v_simple_assign_target.SuperProp y) = alike_super_prop_expr x y
alike_simple_assign_target (v_simple_assign_target.Paren x) (v_simple_assign_target.Paren y) = alike_paren_expr x y
alike_simple_assign_target _ _ = refl

pub alike_assign_target_pat : (x y : AssignTargetPat Held) → equal_assign_target_pat same_held x y ≡ same (view_assign_target_pat x) (view_assign_target_pat y)
alike_assign_target_pat (v_assign_target_pat.Array x) (v_assign_target_pat.Array y) = alike_array_pat x y
alike_assign_target_pat (v_assign_target_pat.Object x) (v_assign_target_pat.Object y) = alike_object_pat x y
alike_assign_target_pat _ _ = refl

pub alike_assign_target : (x y : AssignTarget Held) → equal_assign_target same_held x y ≡ same (view_assign_target x) (view_assign_target y)
alike_assign_target (v_assign_target.Simple x) (v_assign_target.Simple y) = alike_simple_assign_target x y
alike_assign_target (v_assign_target.Pat x) (v_assign_target.Pat y) = alike_assign_target_pat x y
alike_assign_target (v_assign_target.Simple (v_simple_assign_target.Ident _)) (v_assign_target.Pat (v_assign_target_pat.Array _)) = refl
alike_assign_target (v_assign_target.Simple (v_simple_assign_target.Ident _)) (v_assign_target.Pat (v_assign_target_pat.Object _)) = refl
alike_assign_target (v_assign_target.Simple (v_simple_assign_target.Member _)) (v_assign_target.Pat (v_assign_target_pat.Array _)) = refl
alike_assign_target (v_assign_target.Simple (v_simple_assign_target.Member _)) (v_assign_target.Pat (v_assign_target_pat.Object _)) = refl
alike_assign_target (v_assign_target.Simple (v_simple_assign_target.SuperProp _)) (v_assign_target.Pat (v_assign_target_pat.Array _)) = refl
alike_assign_target (v_assign_target.Simple (v_simple_assign_target.SuperProp _)) (v_assign_target.Pat (v_assign_target_pat.Object _)) = refl
alike_assign_target (v_assign_target.Simple (v_simple_assign_target.Paren _)) (v_assign_target.Pat (v_assign_target_pat.Array _)) = refl
alike_assign_target (v_assign_target.Simple (v_simple_assign_target.Paren _)) (v_assign_target.Pat (v_assign_target_pat.Object _)) = refl
alike_assign_target (v_assign_target.Pat (v_assign_target_pat.Array _)) (v_assign_target.Simple (v_simple_assign_target.Ident _)) = refl
alike_assign_target (v_assign_target.Pat (v_assign_target_pat.Array _)) (v_assign_target.Simple (v_simple_assign_target.Member _)) = refl
alike_assign_target (v_assign_target.Pat (v_assign_target_pat.Array _)) (v_assign_target.Simple (v_simple_assign_target.SuperProp _)) = refl
alike_assign_target (v_assign_target.Pat (v_assign_target_pat.Array _)) (v_assign_target.Simple (v_simple_assign_target.Paren _)) = refl
alike_assign_target (v_assign_target.Pat (v_assign_target_pat.Object _)) (v_assign_target.Simple (v_simple_assign_target.Ident _)) = refl
alike_assign_target (v_assign_target.Pat (v_assign_target_pat.Object _)) (v_assign_target.Simple (v_simple_assign_target.Member _)) = refl
alike_assign_target (v_assign_target.Pat (v_assign_target_pat.Object _)) (v_assign_target.Simple (v_simple_assign_target.SuperProp _)) = refl
alike_assign_target (v_assign_target.Pat (v_assign_target_pat.Object _)) (v_assign_target.Simple (v_simple_assign_target.Paren _)) = refl

pub alike_assign_expr : (x y : AssignExpr Held) → equal_assign_expr same_held x y ≡ same (view_assign_expr x) (view_assign_expr y)
alike_assign_expr x y = λ k. equal_span x.span y.span && (alike (put_assign x.op) (put_assign y.op) && (alike_assign_target x.left.value y.left.value k && same_held x.right.node y.right.node))

pub alike_cond_expr : (x y : CondExpr Held) → equal_cond_expr same_held x y ≡ same (view_cond_expr x) (view_cond_expr y)
alike_cond_expr x y = refl

pub alike_import : (x y : Import) → equal_import x y ≡ same (view_import x) (view_import y)
alike_import x y = refl

pub alike_callee : (x y : Callee Held) → equal_callee same_held x y ≡ same (view_callee x) (view_callee y)
alike_callee (v_callee.Super x) (v_callee.Super y) = alike_super x y
alike_callee (v_callee.Import x) (v_callee.Import y) = alike_import x y
alike_callee (v_callee.Expr x) (v_callee.Expr y) = alike_as_expr x.node y.node
alike_callee (v_callee.Expr x) (v_callee.Super y) = as_expr_other x.node (view_super y) refl (λ ts. refl)
alike_callee (v_callee.Super x) (v_callee.Expr y) = other_as_expr (view_super x) y.node refl (λ ts. refl)
alike_callee (v_callee.Expr x) (v_callee.Import y) = as_expr_other x.node (view_import y) refl (λ ts. refl)
alike_callee (v_callee.Import x) (v_callee.Expr y) = other_as_expr (view_import x) y.node refl (λ ts. refl)
alike_callee _ _ = refl

pub alike_call_expr : (x y : CallExpr Held) → equal_call_expr same_held x y ≡ same (view_call_expr x) (view_call_expr y)
alike_call_expr x y = λ k. equal_span x.span y.span && (alike_callee x.callee y.callee k && alike_each (equal_expr_or_spread same_held) view_expr_or_spread alike_expr_or_spread x.args.items y.args.items k)

pub alike_new_expr : (x y : NewExpr Held) → equal_new_expr same_held x y ≡ same (view_new_expr x) (view_new_expr y)
alike_new_expr x y = λ k. equal_span x.span y.span && (same_held x.callee.node y.callee.node && alike_option (λ v w. pointwise (equal_expr_or_spread same_held) v.items w.items) (λ v. listed (map view_expr_or_spread v.items)) (λ v w. alike_each (equal_expr_or_spread same_held) view_expr_or_spread alike_expr_or_spread v.items w.items) (λ v. tt) x.args y.args k)

pub alike_tpl_element : (x y : TplElement) → equal_tpl_element x y ≡ same (view_tpl_element x) (view_tpl_element y)
alike_tpl_element x y = refl

pub alike_opt_call : (x y : OptCall Held) → equal_opt_call same_held x y ≡ same (view_opt_call x) (view_opt_call y)
alike_opt_call x y = λ k. equal_span x.span y.span && (alike_as_expr x.callee.node y.callee.node k && alike_each (equal_expr_or_spread same_held) view_expr_or_spread alike_expr_or_spread x.args.items y.args.items k)

pub alike_opt_chain_base : (x y : OptChainBase Held) → equal_opt_chain_base same_held x y ≡ same (view_opt_chain_base x) (view_opt_chain_base y)
alike_opt_chain_base (v_opt_chain_base.Member x) (v_opt_chain_base.Member y) = alike_member_expr x y
alike_opt_chain_base (v_opt_chain_base.Call x) (v_opt_chain_base.Call y) = alike_opt_call x y
alike_opt_chain_base _ _ = refl

pub alike_opt_chain_expr : (x y : OptChainExpr Held) → equal_opt_chain_expr same_held x y ≡ same (view_opt_chain_expr x) (view_opt_chain_expr y)
alike_opt_chain_expr x y = λ k. equal_span x.span y.span && (alike (put_bool x.optional) (put_bool y.optional) && alike_opt_chain_base x.base.value y.base.value k)

pub alike_tpl : (x y : Tpl Held) → equal_tpl same_held x y ≡ same (view_tpl x) (view_tpl y)
alike_tpl x y = λ k. equal_span x.span y.span && (alike_each (λ a b. same_held a.node b.node) (λ b. b.node.tree) (λ a b. refl) x.exprs.items y.exprs.items k && alike_each equal_tpl_element view_tpl_element alike_tpl_element x.quasis.items y.quasis.items k)

pub alike_tagged_tpl : (x y : TaggedTpl Held) → equal_tagged_tpl same_held x y ≡ same (view_tagged_tpl x) (view_tagged_tpl y)
alike_tagged_tpl x y = λ k. equal_span x.span y.span && (same_held x.tag.node y.tag.node && alike_tpl x.tpl.value y.tpl.value k)

pub alike_seq_expr : (x y : SeqExpr Held) → equal_seq_expr same_held x y ≡ same (view_seq_expr x) (view_seq_expr y)
alike_seq_expr x y = λ k. equal_span x.span y.span && alike_each (λ a b. same_held a.node b.node) (λ b. b.node.tree) (λ a b. refl) x.exprs.items y.exprs.items k

pub alike_lit : (x y : Lit) → equal_lit x y ≡ same (view_lit x) (view_lit y)
alike_lit (v_lit.Str x) (v_lit.Str y) = refl
alike_lit (v_lit.Bool x) (v_lit.Bool y) = refl
alike_lit (v_lit.Null x) (v_lit.Null y) = refl
alike_lit (v_lit.Num x) (v_lit.Num y) = refl
alike_lit (v_lit.BigInt x) (v_lit.BigInt y) = refl
alike_lit (v_lit.Regex x) (v_lit.Regex y) = refl
alike_lit _ _ = refl

pub alike_block_stmt_or_expr : (x y : BlockStmtOrExpr Held) → equal_block_stmt_or_expr same_held x y ≡ same (view_block_stmt_or_expr x) (view_block_stmt_or_expr y)
alike_block_stmt_or_expr (v_block_stmt_or_expr.BlockStmt x) (v_block_stmt_or_expr.BlockStmt y) = alike_block_stmt x y
alike_block_stmt_or_expr (v_block_stmt_or_expr.Expr x) (v_block_stmt_or_expr.Expr y) = alike_as_expr x.node y.node
alike_block_stmt_or_expr (v_block_stmt_or_expr.Expr x) (v_block_stmt_or_expr.BlockStmt y) = as_expr_other x.node (view_block_stmt y) refl (λ ts. refl)
alike_block_stmt_or_expr (v_block_stmt_or_expr.BlockStmt x) (v_block_stmt_or_expr.Expr y) = other_as_expr (view_block_stmt x) y.node refl (λ ts. refl)

pub alike_arrow_expr : (x y : ArrowExpr Held) → equal_arrow_expr same_held x y ≡ same (view_arrow_expr x) (view_arrow_expr y)
alike_arrow_expr x y = λ k. equal_span x.span y.span && (alike_each (equal_pat same_held) view_pat alike_pat x.params.items y.params.items k && (alike_block_stmt_or_expr x.body y.body k && alike (put_bool x.is_async) (put_bool y.is_async)))

pub alike_param_or_ts_param_prop : (x y : ParamOrTsParamProp Held) → equal_param_or_ts_param_prop same_held x y ≡ same (view_param_or_ts_param_prop x) (view_param_or_ts_param_prop y)
alike_param_or_ts_param_prop (v_param_or_ts_param_prop.Param x) (v_param_or_ts_param_prop.Param y) = alike_param x y

pub alike_constructor : (x y : Constructor Held) → equal_constructor same_held x y ≡ same (view_constructor x) (view_constructor y)
alike_constructor x y = λ k. equal_span x.span y.span && (alike_prop_name x.key y.key k && (alike_each (equal_param_or_ts_param_prop same_held) view_param_or_ts_param_prop alike_param_or_ts_param_prop x.params.items y.params.items k && alike_option (equal_block_stmt same_held) view_block_stmt alike_block_stmt there_block_stmt x.body y.body k))

pub alike_class_method : (x y : ClassMethod Held) → equal_class_method same_held x y ≡ same (view_class_method x) (view_class_method y)
alike_class_method x y = λ k. equal_span x.span y.span && (alike_prop_name x.key y.key k && (alike_function x.function.value y.function.value k && (alike (put_method x.kind) (put_method y.kind) && alike (put_bool x.is_static) (put_bool y.is_static))))

pub alike_private_method : (x y : PrivateMethod Held) → equal_private_method same_held x y ≡ same (view_private_method x) (view_private_method y)
alike_private_method x y = λ k. equal_span x.span y.span && (equal_private_name x.key y.key && (alike_function x.function.value y.function.value k && (alike (put_method x.kind) (put_method y.kind) && alike (put_bool x.is_static) (put_bool y.is_static))))

pub alike_class_prop : (x y : ClassProp Held) → equal_class_prop same_held x y ≡ same (view_class_prop x) (view_class_prop y)
alike_class_prop x y = λ k. equal_span x.span y.span && (alike_prop_name x.key y.key k && (alike_option (λ a b. same_held a.node b.node) (λ b. b.node.tree) (λ a b. refl) (λ b. b.node.there) x.value y.value k && (alike (put_bool x.is_static) (put_bool y.is_static) && alike_each (equal_decorator same_held) view_decorator alike_decorator x.decorators.items y.decorators.items k)))

pub alike_private_prop : (x y : PrivateProp Held) → equal_private_prop same_held x y ≡ same (view_private_prop x) (view_private_prop y)
alike_private_prop x y = λ k. equal_span x.span y.span && (equal_private_name x.key y.key && (alike_option (λ a b. same_held a.node b.node) (λ b. b.node.tree) (λ a b. refl) (λ b. b.node.there) x.value y.value k && (alike (put_bool x.is_static) (put_bool y.is_static) && alike_each (equal_decorator same_held) view_decorator alike_decorator x.decorators.items y.decorators.items k)))

pub alike_empty_stmt : (x y : EmptyStmt) → equal_empty_stmt x y ≡ same (view_empty_stmt x) (view_empty_stmt y)
alike_empty_stmt x y = refl

pub alike_static_block : (x y : StaticBlock Held) → equal_static_block same_held x y ≡ same (view_static_block x) (view_static_block y)
alike_static_block x y = λ k. equal_span x.span y.span && alike_block_stmt x.body y.body k

pub alike_key : (x y : Key Held) → equal_key same_held x y ≡ same (view_key x) (view_key y)
alike_key (v_key.Private x) (v_key.Private y) = refl
alike_key (v_key.Public x) (v_key.Public y) = alike_prop_name x y
alike_key (v_key.Public (v_prop_name.Ident _)) _ = refl
alike_key (v_key.Public (v_prop_name.Str _)) _ = refl
alike_key (v_key.Public (v_prop_name.Num _)) _ = refl
alike_key (v_key.Public (v_prop_name.BigInt _)) _ = refl
alike_key (v_key.Public (v_prop_name.Computed _)) _ = refl
alike_key _ (v_key.Public (v_prop_name.Ident _)) = refl
alike_key _ (v_key.Public (v_prop_name.Str _)) = refl
alike_key _ (v_key.Public (v_prop_name.Num _)) = refl
alike_key _ (v_key.Public (v_prop_name.BigInt _)) = refl
alike_key _ (v_key.Public (v_prop_name.Computed _)) = refl

pub alike_auto_accessor : (x y : AutoAccessor Held) → equal_auto_accessor same_held x y ≡ same (view_auto_accessor x) (view_auto_accessor y)
alike_auto_accessor x y = λ k. equal_span x.span y.span && (alike_key x.key y.key k && (alike_option (λ a b. same_held a.node b.node) (λ b. b.node.tree) (λ a b. refl) (λ b. b.node.there) x.value y.value k && (alike (put_bool x.is_static) (put_bool y.is_static) && alike_each (equal_decorator same_held) view_decorator alike_decorator x.decorators.items y.decorators.items k)))

pub alike_class_member : (x y : ClassMember Held) → equal_class_member same_held x y ≡ same (view_class_member x) (view_class_member y)
alike_class_member (v_class_member.Constructor x) (v_class_member.Constructor y) = alike_constructor x.value y.value
alike_class_member (v_class_member.Method x) (v_class_member.Method y) = alike_class_method x.value y.value
alike_class_member (v_class_member.PrivateMethod x) (v_class_member.PrivateMethod y) = alike_private_method x.value y.value
alike_class_member (v_class_member.ClassProp x) (v_class_member.ClassProp y) = alike_class_prop x.value y.value
alike_class_member (v_class_member.PrivateProp x) (v_class_member.PrivateProp y) = alike_private_prop x.value y.value
alike_class_member (v_class_member.Empty x) (v_class_member.Empty y) = refl
alike_class_member (v_class_member.StaticBlock x) (v_class_member.StaticBlock y) = alike_static_block x y
alike_class_member (v_class_member.AutoAccessor x) (v_class_member.AutoAccessor y) = alike_auto_accessor x.value y.value
alike_class_member _ _ = refl

pub alike_class : (x y : Class Held) → equal_class same_held x y ≡ same (view_class x) (view_class y)
alike_class x y = λ k. equal_span x.span y.span && (alike_each (equal_decorator same_held) view_decorator alike_decorator x.decorators.items y.decorators.items k && (alike_each (equal_class_member same_held) view_class_member alike_class_member x.body.items y.body.items k && alike_option (λ a b. same_held a.node b.node) (λ b. b.node.tree) (λ a b. refl) (λ b. b.node.there) x.super_class y.super_class k))

pub alike_class_expr : (x y : ClassExpr Held) → equal_class_expr same_held x y ≡ same (view_class_expr x) (view_class_expr y)
alike_class_expr x y = λ k. equal_span x.span y.span && (alike_option equal_ident view_ident (λ a b. refl) (λ x. tt) x.ident y.ident k && alike_class x.class.value y.class.value k)

pub alike_yield_expr : (x y : YieldExpr Held) → equal_yield_expr same_held x y ≡ same (view_yield_expr x) (view_yield_expr y)
alike_yield_expr x y = λ k. equal_span x.span y.span && (alike_option (λ a b. same_held a.node b.node) (λ b. b.node.tree) (λ a b. refl) (λ b. b.node.there) x.arg y.arg k && alike (put_bool x.delegate) (put_bool y.delegate))

pub alike_meta_prop_expr : (x y : MetaPropExpr) → equal_meta_prop_expr x y ≡ same (view_meta_prop_expr x) (view_meta_prop_expr y)
alike_meta_prop_expr x y = refl

pub alike_await_expr : (x y : AwaitExpr Held) → equal_await_expr same_held x y ≡ same (view_await_expr x) (view_await_expr y)
alike_await_expr x y = refl

pub alike_expr : (x y : Expr Held) → equal_expr same_held x y ≡ same (view_expr x) (view_expr y)
alike_expr (v_expr.This x) (v_expr.This y) = alike_this_expr x y
alike_expr (v_expr.Array x) (v_expr.Array y) = alike_array_lit x y
alike_expr (v_expr.Object x) (v_expr.Object y) = alike_object_lit x y
alike_expr (v_expr.Fn x) (v_expr.Fn y) = alike_fn_expr x y
alike_expr (v_expr.Unary x) (v_expr.Unary y) = alike_unary_expr x y
alike_expr (v_expr.Update x) (v_expr.Update y) = alike_update_expr x y
alike_expr (v_expr.Bin x) (v_expr.Bin y) = alike_bin_expr x y
alike_expr (v_expr.Assign x) (v_expr.Assign y) = alike_assign_expr x y
alike_expr (v_expr.Member x) (v_expr.Member y) = alike_member_expr x y
alike_expr (v_expr.SuperProp x) (v_expr.SuperProp y) = alike_super_prop_expr x y
alike_expr (v_expr.Cond x) (v_expr.Cond y) = alike_cond_expr x y
alike_expr (v_expr.Call x) (v_expr.Call y) = alike_call_expr x y
alike_expr (v_expr.New x) (v_expr.New y) = alike_new_expr x y
alike_expr (v_expr.Seq x) (v_expr.Seq y) = alike_seq_expr x y
alike_expr (v_expr.Ident x) (v_expr.Ident y) = refl
alike_expr (v_expr.Lit x) (v_expr.Lit y) = alike_lit x y
alike_expr (v_expr.Arrow x) (v_expr.Arrow y) = alike_arrow_expr x y
alike_expr (v_expr.Class x) (v_expr.Class y) = alike_class_expr x y
alike_expr (v_expr.Yield x) (v_expr.Yield y) = alike_yield_expr x y
alike_expr (v_expr.MetaProp x) (v_expr.MetaProp y) = alike_meta_prop_expr x y
alike_expr (v_expr.Await x) (v_expr.Await y) = alike_await_expr x y
alike_expr (v_expr.Paren x) (v_expr.Paren y) = alike_paren_expr x y
alike_expr (v_expr.Tpl x) (v_expr.Tpl y) = alike_tpl x y
alike_expr (v_expr.TaggedTpl x) (v_expr.TaggedTpl y) = alike_tagged_tpl x y
alike_expr (v_expr.OptChain x) (v_expr.OptChain y) = alike_opt_chain_expr x y
alike_expr (v_expr.PrivateName x) (v_expr.PrivateName y) = refl
alike_expr (v_expr.Invalid x) (v_expr.Invalid y) = alike_invalid x y
alike_expr (v_expr.Lit (v_lit.Str _)) _ = refl
alike_expr (v_expr.Lit (v_lit.Bool _)) _ = refl
alike_expr (v_expr.Lit (v_lit.Null _)) _ = refl
alike_expr (v_expr.Lit (v_lit.Num _)) _ = refl
alike_expr (v_expr.Lit (v_lit.BigInt _)) _ = refl
alike_expr (v_expr.Lit (v_lit.Regex _)) _ = refl
alike_expr _ (v_expr.Lit (v_lit.Str _)) = refl
alike_expr _ (v_expr.Lit (v_lit.Bool _)) = refl
alike_expr _ (v_expr.Lit (v_lit.Null _)) = refl
alike_expr _ (v_expr.Lit (v_lit.Num _)) = refl
alike_expr _ (v_expr.Lit (v_lit.BigInt _)) = refl
alike_expr _ (v_expr.Lit (v_lit.Regex _)) = refl
alike_expr _ _ = refl

pub alike_class_decl : (x y : ClassDecl Held) → equal_class_decl same_held x y ≡ same (view_class_decl x) (view_class_decl y)
alike_class_decl x y = λ k. equal_ident x.ident y.ident && alike_class x.class.value y.class.value k

pub alike_fn_decl : (x y : FnDecl Held) → equal_fn_decl same_held x y ≡ same (view_fn_decl x) (view_fn_decl y)
alike_fn_decl x y = λ k. equal_ident x.ident y.ident && alike_function x.function.value y.function.value k

pub alike_declarator : (x y : VarDeclarator Held) → equal_declarator same_held x y ≡ same (view_declarator x) (view_declarator y)
alike_declarator x y = λ k. equal_span x.span y.span && (alike_pat x.name y.name k && alike_option (λ a b. same_held a.node b.node) (λ b. b.node.tree) (λ a b. refl) (λ b. b.node.there) x.init y.init k)

pub alike_var_decl : (x y : VarDecl Held) → equal_var_decl same_held x y ≡ same (view_var_decl x) (view_var_decl y)
alike_var_decl x y = λ k. equal_span x.span y.span && (alike (put_kind x.kind) (put_kind y.kind) && alike_each (equal_declarator same_held) view_declarator alike_declarator x.decls.items y.decls.items k)

pub alike_using_decl : (x y : UsingDecl Held) → equal_using_decl same_held x y ≡ same (view_using_decl x) (view_using_decl y)
alike_using_decl x y = λ k. equal_span x.span y.span && (alike (put_bool x.is_await) (put_bool y.is_await) && alike_each (equal_declarator same_held) view_declarator alike_declarator x.decls.items y.decls.items k)

pub alike_decl : (x y : Decl Held) → equal_decl same_held x y ≡ same (view_decl x) (view_decl y)
alike_decl (v_decl.Class x) (v_decl.Class y) = alike_class_decl x y
alike_decl (v_decl.Fn x) (v_decl.Fn y) = alike_fn_decl x y
alike_decl (v_decl.Var x) (v_decl.Var y) = alike_var_decl x y
alike_decl (v_decl.Using x) (v_decl.Using y) = alike_using_decl x y
alike_decl _ _ = refl

pub alike_debugger_stmt : (x y : DebuggerStmt) → equal_debugger_stmt x y ≡ same (view_debugger_stmt x) (view_debugger_stmt y)
alike_debugger_stmt x y = refl

pub alike_with_stmt : (x y : WithStmt Held) → equal_with_stmt same_held x y ≡ same (view_with_stmt x) (view_with_stmt y)
alike_with_stmt x y = refl

pub alike_return_stmt : (x y : ReturnStmt Held) → equal_return_stmt same_held x y ≡ same (view_return_stmt x) (view_return_stmt y)
alike_return_stmt x y = λ k. equal_span x.span y.span && alike_option (λ a b. same_held a.node b.node) (λ b. b.node.tree) (λ a b. refl) (λ b. b.node.there) x.arg y.arg k

pub alike_labeled_stmt : (x y : LabeledStmt Held) → equal_labeled_stmt same_held x y ≡ same (view_labeled_stmt x) (view_labeled_stmt y)
alike_labeled_stmt x y = refl

pub alike_break_stmt : (x y : BreakStmt) → equal_break_stmt x y ≡ same (view_break_stmt x) (view_break_stmt y)
alike_break_stmt x y = λ k. equal_span x.span y.span && alike_option equal_ident view_ident (λ a b. refl) (λ x. tt) x.label y.label k

pub alike_continue_stmt : (x y : ContinueStmt) → equal_continue_stmt x y ≡ same (view_continue_stmt x) (view_continue_stmt y)
alike_continue_stmt x y = λ k. equal_span x.span y.span && alike_option equal_ident view_ident (λ a b. refl) (λ x. tt) x.label y.label k

pub alike_if_stmt : (x y : IfStmt Held) → equal_if_stmt same_held x y ≡ same (view_if_stmt x) (view_if_stmt y)
alike_if_stmt x y = λ k. equal_span x.span y.span && (same_held x.test.node y.test.node && (same_held x.cons.node y.cons.node && alike_option (λ a b. same_held a.node b.node) (λ b. b.node.tree) (λ a b. refl) (λ b. b.node.there) x.alt y.alt k))

pub alike_switch_case : (x y : SwitchCase Held) → equal_switch_case same_held x y ≡ same (view_switch_case x) (view_switch_case y)
alike_switch_case x y = λ k. equal_span x.span y.span && (alike_option (λ a b. same_held a.node b.node) (λ b. b.node.tree) (λ a b. refl) (λ b. b.node.there) x.test y.test k && same_held x.cons.node y.cons.node)

pub alike_switch_stmt : (x y : SwitchStmt Held) → equal_switch_stmt same_held x y ≡ same (view_switch_stmt x) (view_switch_stmt y)
alike_switch_stmt x y = λ k. equal_span x.span y.span && (same_held x.discriminant.node y.discriminant.node && alike_each (equal_switch_case same_held) view_switch_case alike_switch_case x.cases.items y.cases.items k)

pub alike_throw_stmt : (x y : ThrowStmt Held) → equal_throw_stmt same_held x y ≡ same (view_throw_stmt x) (view_throw_stmt y)
alike_throw_stmt x y = refl

pub alike_catch_clause : (x y : CatchClause Held) → equal_catch_clause same_held x y ≡ same (view_catch_clause x) (view_catch_clause y)
alike_catch_clause x y = λ k. equal_span x.span y.span && (alike_option (equal_pat same_held) view_pat alike_pat there_pat x.param y.param k && alike_block_stmt x.body y.body k)

pub alike_try_stmt : (x y : TryStmt Held) → equal_try_stmt same_held x y ≡ same (view_try_stmt x) (view_try_stmt y)
alike_try_stmt x y = λ k. equal_span x.span y.span && (alike_block_stmt x.block y.block k && (alike_option (equal_catch_clause same_held) view_catch_clause alike_catch_clause there_catch_clause x.handler y.handler k && alike_option (equal_block_stmt same_held) view_block_stmt alike_block_stmt there_block_stmt x.finalizer y.finalizer k))

pub alike_while_stmt : (x y : WhileStmt Held) → equal_while_stmt same_held x y ≡ same (view_while_stmt x) (view_while_stmt y)
alike_while_stmt x y = refl

pub alike_do_while_stmt : (x y : DoWhileStmt Held) → equal_do_while_stmt same_held x y ≡ same (view_do_while_stmt x) (view_do_while_stmt y)
alike_do_while_stmt x y = refl

pub alike_var_decl_or_expr : (x y : VarDeclOrExpr Held) → equal_var_decl_or_expr same_held x y ≡ same (view_var_decl_or_expr x) (view_var_decl_or_expr y)
alike_var_decl_or_expr (v_var_decl_or_expr.VarDecl x) (v_var_decl_or_expr.VarDecl y) = alike_var_decl x y
alike_var_decl_or_expr (v_var_decl_or_expr.Expr x) (v_var_decl_or_expr.Expr y) = alike_as_expr x.node y.node
alike_var_decl_or_expr (v_var_decl_or_expr.Expr x) (v_var_decl_or_expr.VarDecl y) = as_expr_other x.node (view_var_decl y) refl (λ ts. refl)
alike_var_decl_or_expr (v_var_decl_or_expr.VarDecl x) (v_var_decl_or_expr.Expr y) = other_as_expr (view_var_decl x) y.node refl (λ ts. refl)

pub alike_for_stmt : (x y : ForStmt Held) → equal_for_stmt same_held x y ≡ same (view_for_stmt x) (view_for_stmt y)
alike_for_stmt x y = λ k. equal_span x.span y.span && (alike_option (equal_var_decl_or_expr same_held) view_var_decl_or_expr alike_var_decl_or_expr there_var_decl_or_expr x.init y.init k && (alike_option (λ a b. same_held a.node b.node) (λ b. b.node.tree) (λ a b. refl) (λ b. b.node.there) x.test y.test k && (alike_option (λ a b. same_held a.node b.node) (λ b. b.node.tree) (λ a b. refl) (λ b. b.node.there) x.update y.update k && same_held x.body.node y.body.node)))

pub alike_for_head : (x y : ForHead Held) → equal_for_head same_held x y ≡ same (view_for_head x) (view_for_head y)
alike_for_head (v_for_head.VarDecl x) (v_for_head.VarDecl y) = alike_var_decl x y
alike_for_head (v_for_head.UsingDecl x) (v_for_head.UsingDecl y) = alike_using_decl x y
alike_for_head (v_for_head.Pat x) (v_for_head.Pat y) = alike_pat x y
alike_for_head (v_for_head.Pat (v_pat.Ident _)) _ = refl
alike_for_head (v_for_head.Pat (v_pat.Array _)) _ = refl
alike_for_head (v_for_head.Pat (v_pat.Rest _)) _ = refl
alike_for_head (v_for_head.Pat (v_pat.Object _)) _ = refl
alike_for_head (v_for_head.Pat (v_pat.Assign _)) _ = refl
alike_for_head (v_for_head.Pat (v_pat.Invalid _)) _ = refl
alike_for_head (v_for_head.Pat (v_pat.Expr _)) _ = refl
alike_for_head _ (v_for_head.Pat (v_pat.Ident _)) = refl
alike_for_head _ (v_for_head.Pat (v_pat.Array _)) = refl
alike_for_head _ (v_for_head.Pat (v_pat.Rest _)) = refl
alike_for_head _ (v_for_head.Pat (v_pat.Object _)) = refl
alike_for_head _ (v_for_head.Pat (v_pat.Assign _)) = refl
alike_for_head _ (v_for_head.Pat (v_pat.Invalid _)) = refl
alike_for_head _ (v_for_head.Pat (v_pat.Expr _)) = refl
alike_for_head _ _ = refl

pub alike_for_in_stmt : (x y : ForInStmt Held) → equal_for_in_stmt same_held x y ≡ same (view_for_in_stmt x) (view_for_in_stmt y)
alike_for_in_stmt x y = λ k. equal_span x.span y.span && (alike_for_head x.left y.left k && (same_held x.right.node y.right.node && same_held x.body.node y.body.node))

pub alike_for_of_stmt : (x y : ForOfStmt Held) → equal_for_of_stmt same_held x y ≡ same (view_for_of_stmt x) (view_for_of_stmt y)
alike_for_of_stmt x y = λ k. equal_span x.span y.span && (alike (put_bool x.is_await) (put_bool y.is_await) && (alike_for_head x.left y.left k && (same_held x.right.node y.right.node && same_held x.body.node y.body.node)))

pub alike_expr_stmt : (x y : ExprStmt Held) → equal_expr_stmt same_held x y ≡ same (view_expr_stmt x) (view_expr_stmt y)
alike_expr_stmt x y = refl

pub alike_stmt : (x y : Stmt Held) → equal_stmt same_held x y ≡ same (view_stmt x) (view_stmt y)
alike_stmt (v_stmt.Block x) (v_stmt.Block y) = alike_block_stmt x y
alike_stmt (v_stmt.Empty x) (v_stmt.Empty y) = alike_empty_stmt x y
alike_stmt (v_stmt.Debugger x) (v_stmt.Debugger y) = alike_debugger_stmt x y
alike_stmt (v_stmt.With x) (v_stmt.With y) = alike_with_stmt x y
alike_stmt (v_stmt.Return x) (v_stmt.Return y) = alike_return_stmt x y
alike_stmt (v_stmt.Labeled x) (v_stmt.Labeled y) = alike_labeled_stmt x y
alike_stmt (v_stmt.Break x) (v_stmt.Break y) = alike_break_stmt x y
alike_stmt (v_stmt.Continue x) (v_stmt.Continue y) = alike_continue_stmt x y
alike_stmt (v_stmt.If x) (v_stmt.If y) = alike_if_stmt x y
alike_stmt (v_stmt.Switch x) (v_stmt.Switch y) = alike_switch_stmt x y
alike_stmt (v_stmt.Throw x) (v_stmt.Throw y) = alike_throw_stmt x y
alike_stmt (v_stmt.Try x) (v_stmt.Try y) = alike_try_stmt x.value y.value
alike_stmt (v_stmt.While x) (v_stmt.While y) = alike_while_stmt x y
alike_stmt (v_stmt.DoWhile x) (v_stmt.DoWhile y) = alike_do_while_stmt x y
alike_stmt (v_stmt.For x) (v_stmt.For y) = alike_for_stmt x.value y.value
alike_stmt (v_stmt.ForIn x) (v_stmt.ForIn y) = alike_for_in_stmt x.value y.value
alike_stmt (v_stmt.ForOf x) (v_stmt.ForOf y) = alike_for_of_stmt x.value y.value
alike_stmt (v_stmt.Decl x) (v_stmt.Decl y) = alike_decl x y
alike_stmt (v_stmt.Expr x) (v_stmt.Expr y) = alike_expr_stmt x y
alike_stmt (v_stmt.Decl (v_decl.Class _)) _ = refl
alike_stmt (v_stmt.Decl (v_decl.Fn _)) _ = refl
alike_stmt (v_stmt.Decl (v_decl.Var _)) _ = refl
alike_stmt (v_stmt.Decl (v_decl.Using _)) _ = refl
alike_stmt _ (v_stmt.Decl (v_decl.Class _)) = refl
alike_stmt _ (v_stmt.Decl (v_decl.Fn _)) = refl
alike_stmt _ (v_stmt.Decl (v_decl.Var _)) = refl
alike_stmt _ (v_stmt.Decl (v_decl.Using _)) = refl
alike_stmt _ _ = refl

pub alike_stmts : (xs ys : List (Stmt Held)) → equal_stmts same_held xs ys ≡ alike (codes (trees (map view_stmt xs))) (codes (trees (map view_stmt ys)))
alike_stmts = alike_each (equal_stmt same_held) view_stmt alike_stmt
