-- The derived equality of each type is the one of specs/Equal.antt, whatever its nodes are.
use Rattle.std.proofs.Common.{◌≡◌, List, refl, ◌&&◌}
use Rattle.std.specs.Option.{option_eq}
use Rattle.std.specs.Cmp.Lexicographic.{pointwise}
use Rattle.std.specs.declared.cmp.PartialEq.{Ghosts}
use denote.RattleType.{RattleType}
use mir.Syntax.{Dict}
use Rattle.swc_ecma_parser_ast.specs.Equal.{equal_span, equal_ident, equal_this_expr, equal_expr_or_spread, equal_array_lit, equal_spread_element, equal_computed_prop_name, equal_prop_name, equal_key_value_prop, equal_assign_prop, equal_block_stmt, equal_getter_prop, equal_binding_ident, equal_array_pat, equal_rest_pat, equal_key_value_pat_prop, equal_assign_pat_prop, equal_object_pat_prop, equal_object_pat, equal_assign_pat, equal_invalid, equal_pat, equal_setter_prop, equal_decorator, equal_param, equal_function, equal_method_prop, equal_prop, equal_prop_or_spread, equal_object_lit, equal_fn_expr, equal_unary_expr, equal_update_expr, equal_bin_expr, equal_member_prop, equal_member_expr, equal_super, equal_super_prop, equal_super_prop_expr, equal_paren_expr, equal_simple_assign_target, equal_assign_target_pat, equal_assign_target, equal_assign_expr, equal_cond_expr, equal_import, equal_callee, equal_call_expr, equal_new_expr, equal_tpl_element, equal_opt_call, equal_opt_chain_base, equal_opt_chain_expr, equal_tpl, equal_tagged_tpl, equal_seq_expr, equal_lit, equal_block_stmt_or_expr, equal_arrow_expr, equal_param_or_ts_param_prop, equal_constructor, equal_class_method, equal_private_method, equal_class_prop, equal_private_prop, equal_empty_stmt, equal_static_block, equal_key, equal_auto_accessor, equal_class_member, equal_class, equal_class_expr, equal_yield_expr, equal_meta_prop_expr, equal_await_expr, equal_expr, equal_class_decl, equal_fn_decl, equal_declarator, equal_var_decl, equal_using_decl, equal_decl, equal_debugger_stmt, equal_with_stmt, equal_return_stmt, equal_labeled_stmt, equal_break_stmt, equal_continue_stmt, equal_if_stmt, equal_switch_case, equal_switch_stmt, equal_throw_stmt, equal_catch_clause, equal_try_stmt, equal_while_stmt, equal_do_while_stmt, equal_var_decl_or_expr, equal_for_stmt, equal_for_head, equal_for_in_stmt, equal_for_of_stmt, equal_expr_stmt, equal_stmt, equal_stmts}
use Rattle.swc_ecma_parser_ast.specs.declared.expr.ThisExpr.{ThisExpr}
use Rattle.swc_ecma_parser_ast.specs.declared.call.ExprOrSpread.{ExprOrSpread}
use Rattle.swc_ecma_parser_ast.specs.declared.object.ArrayLit.{ArrayLit}
use Rattle.swc_ecma_parser_ast.specs.declared.object.SpreadElement.{SpreadElement}
use Rattle.swc_ecma_parser_ast.specs.declared.object.ComputedPropName.{ComputedPropName}
use Rattle.swc_ecma_parser_ast.specs.declared.object.PropName.{PropName}
use Rattle.swc_ecma_parser_ast.specs.declared.object.PropName.TheVariants as v_prop_name
use Rattle.swc_ecma_parser_ast.specs.declared.object.KeyValueProp.{KeyValueProp}
use Rattle.swc_ecma_parser_ast.specs.declared.object.AssignProp.{AssignProp}
use Rattle.swc_ecma_parser_ast.specs.declared.stmt.BlockStmt.{BlockStmt}
use Rattle.swc_ecma_parser_ast.specs.declared.object.GetterProp.{GetterProp}
use Rattle.swc_ecma_parser_ast.specs.declared.pat.BindingIdent.{BindingIdent}
use Rattle.swc_ecma_parser_ast.specs.declared.pat.ArrayPat.{ArrayPat}
use Rattle.swc_ecma_parser_ast.specs.declared.pat.RestPat.{RestPat}
use Rattle.swc_ecma_parser_ast.specs.declared.pat.KeyValuePatProp.{KeyValuePatProp}
use Rattle.swc_ecma_parser_ast.specs.declared.pat.AssignPatProp.{AssignPatProp}
use Rattle.swc_ecma_parser_ast.specs.declared.pat.ObjectPatProp.{ObjectPatProp}
use Rattle.swc_ecma_parser_ast.specs.declared.pat.ObjectPatProp.TheVariants as v_object_pat_prop
use Rattle.swc_ecma_parser_ast.specs.declared.pat.ObjectPat.{ObjectPat}
use Rattle.swc_ecma_parser_ast.specs.declared.pat.AssignPat.{AssignPat}
use Rattle.swc_ecma_parser_ast.specs.declared.expr.Invalid.{Invalid}
use Rattle.swc_ecma_parser_ast.specs.declared.pat.Pat.{Pat}
use Rattle.swc_ecma_parser_ast.specs.declared.pat.Pat.TheVariants as v_pat
use Rattle.swc_ecma_parser_ast.specs.declared.object.SetterProp.{SetterProp}
use Rattle.swc_ecma_parser_ast.specs.declared.function.Decorator.{Decorator}
use Rattle.swc_ecma_parser_ast.specs.declared.function.Param.{Param}
use Rattle.swc_ecma_parser_ast.specs.declared.function.Function.{Function}
use Rattle.swc_ecma_parser_ast.specs.declared.object.MethodProp.{MethodProp}
use Rattle.swc_ecma_parser_ast.specs.declared.object.Prop.{Prop}
use Rattle.swc_ecma_parser_ast.specs.declared.object.Prop.TheVariants as v_prop
use Rattle.swc_ecma_parser_ast.specs.declared.object.PropOrSpread.{PropOrSpread}
use Rattle.swc_ecma_parser_ast.specs.declared.object.PropOrSpread.TheVariants as v_prop_or_spread
use Rattle.swc_ecma_parser_ast.specs.declared.object.ObjectLit.{ObjectLit}
use Rattle.swc_ecma_parser_ast.specs.declared.function.FnExpr.{FnExpr}
use Rattle.swc_ecma_parser_ast.specs.declared.expr.UnaryExpr.{UnaryExpr}
use Rattle.swc_ecma_parser_ast.specs.declared.expr.UpdateExpr.{UpdateExpr}
use Rattle.swc_ecma_parser_ast.specs.declared.expr.BinExpr.{BinExpr}
use Rattle.swc_ecma_parser_ast.specs.declared.call.MemberProp.{MemberProp}
use Rattle.swc_ecma_parser_ast.specs.declared.call.MemberProp.TheVariants as v_member_prop
use Rattle.swc_ecma_parser_ast.specs.declared.call.MemberExpr.{MemberExpr}
use Rattle.swc_ecma_parser_ast.specs.declared.call.Super.{Super}
use Rattle.swc_ecma_parser_ast.specs.declared.call.SuperProp.{SuperProp}
use Rattle.swc_ecma_parser_ast.specs.declared.call.SuperProp.TheVariants as v_super_prop
use Rattle.swc_ecma_parser_ast.specs.declared.call.SuperPropExpr.{SuperPropExpr}
use Rattle.swc_ecma_parser_ast.specs.declared.expr.ParenExpr.{ParenExpr}
use Rattle.swc_ecma_parser_ast.specs.declared.target.SimpleAssignTarget.{SimpleAssignTarget}
use Rattle.swc_ecma_parser_ast.specs.declared.target.SimpleAssignTarget.TheVariants as v_simple_assign_target
use Rattle.swc_ecma_parser_ast.specs.declared.target.AssignTargetPat.{AssignTargetPat}
use Rattle.swc_ecma_parser_ast.specs.declared.target.AssignTargetPat.TheVariants as v_assign_target_pat
use Rattle.swc_ecma_parser_ast.specs.declared.target.AssignTarget.{AssignTarget}
use Rattle.swc_ecma_parser_ast.specs.declared.target.AssignTarget.TheVariants as v_assign_target
use Rattle.swc_ecma_parser_ast.specs.declared.target.AssignExpr.{AssignExpr}
use Rattle.swc_ecma_parser_ast.specs.declared.expr.CondExpr.{CondExpr}
use Rattle.swc_ecma_parser_ast.specs.declared.call.Import.{Import}
use Rattle.swc_ecma_parser_ast.specs.declared.call.Callee.{Callee}
use Rattle.swc_ecma_parser_ast.specs.declared.call.Callee.TheVariants as v_callee
use Rattle.swc_ecma_parser_ast.specs.declared.call.CallExpr.{CallExpr}
use Rattle.swc_ecma_parser_ast.specs.declared.call.NewExpr.{NewExpr}
use Rattle.swc_ecma_parser_ast.specs.declared.call.OptCall.{OptCall}
use Rattle.swc_ecma_parser_ast.specs.declared.call.OptChainBase.{OptChainBase}
use Rattle.swc_ecma_parser_ast.specs.declared.call.OptChainBase.TheVariants as v_opt_chain_base
use Rattle.swc_ecma_parser_ast.specs.declared.call.OptChainExpr.{OptChainExpr}
use Rattle.swc_ecma_parser_ast.specs.declared.template.Tpl.{Tpl}
use Rattle.swc_ecma_parser_ast.specs.declared.template.TaggedTpl.{TaggedTpl}
use Rattle.swc_ecma_parser_ast.specs.declared.expr.SeqExpr.{SeqExpr}
use Rattle.swc_ecma_parser_ast.specs.declared.expr.Lit.{Lit}
use Rattle.swc_ecma_parser_ast.specs.declared.expr.Lit.TheVariants as v_lit
use Rattle.swc_ecma_parser_ast.specs.declared.function.BlockStmtOrExpr.{BlockStmtOrExpr}
use Rattle.swc_ecma_parser_ast.specs.declared.function.BlockStmtOrExpr.TheVariants as v_block_stmt_or_expr
use Rattle.swc_ecma_parser_ast.specs.declared.function.ArrowExpr.{ArrowExpr}
use Rattle.swc_ecma_parser_ast.specs.declared.class.ParamOrTsParamProp.{ParamOrTsParamProp}
use Rattle.swc_ecma_parser_ast.specs.declared.class.ParamOrTsParamProp.TheVariants as v_param_or_ts_param_prop
use Rattle.swc_ecma_parser_ast.specs.declared.class.Constructor.{Constructor}
use Rattle.swc_ecma_parser_ast.specs.declared.class.ClassMethod.{ClassMethod}
use Rattle.swc_ecma_parser_ast.specs.declared.class.PrivateMethod.{PrivateMethod}
use Rattle.swc_ecma_parser_ast.specs.declared.member.ClassProp.{ClassProp}
use Rattle.swc_ecma_parser_ast.specs.declared.member.PrivateProp.{PrivateProp}
use Rattle.swc_ecma_parser_ast.specs.declared.stmt.EmptyStmt.{EmptyStmt}
use Rattle.swc_ecma_parser_ast.specs.declared.member.StaticBlock.{StaticBlock}
use Rattle.swc_ecma_parser_ast.specs.declared.member.Key.{Key}
use Rattle.swc_ecma_parser_ast.specs.declared.member.Key.TheVariants as v_key
use Rattle.swc_ecma_parser_ast.specs.declared.member.AutoAccessor.{AutoAccessor}
use Rattle.swc_ecma_parser_ast.specs.declared.class.ClassMember.{ClassMember}
use Rattle.swc_ecma_parser_ast.specs.declared.class.ClassMember.TheVariants as v_class_member
use Rattle.swc_ecma_parser_ast.specs.declared.class.Class.{Class}
use Rattle.swc_ecma_parser_ast.specs.declared.class.ClassExpr.{ClassExpr}
use Rattle.swc_ecma_parser_ast.specs.declared.expr.YieldExpr.{YieldExpr}
use Rattle.swc_ecma_parser_ast.specs.declared.expr.MetaPropExpr.{MetaPropExpr}
use Rattle.swc_ecma_parser_ast.specs.declared.expr.AwaitExpr.{AwaitExpr}
use Rattle.swc_ecma_parser_ast.specs.declared.expr.Expr.{Expr}
use Rattle.swc_ecma_parser_ast.specs.declared.expr.Expr.TheVariants as v_expr
use Rattle.swc_ecma_parser_ast.specs.declared.class.ClassDecl.{ClassDecl}
use Rattle.swc_ecma_parser_ast.specs.declared.function.FnDecl.{FnDecl}
use Rattle.swc_ecma_parser_ast.specs.declared.decl.VarDeclarator.{VarDeclarator}
use Rattle.swc_ecma_parser_ast.specs.declared.decl.VarDecl.{VarDecl}
use Rattle.swc_ecma_parser_ast.specs.declared.decl.UsingDecl.{UsingDecl}
use Rattle.swc_ecma_parser_ast.specs.declared.decl.Decl.{Decl}
use Rattle.swc_ecma_parser_ast.specs.declared.decl.Decl.TheVariants as v_decl
use Rattle.swc_ecma_parser_ast.specs.declared.stmt.DebuggerStmt.{DebuggerStmt}
use Rattle.swc_ecma_parser_ast.specs.declared.stmt.WithStmt.{WithStmt}
use Rattle.swc_ecma_parser_ast.specs.declared.stmt.ReturnStmt.{ReturnStmt}
use Rattle.swc_ecma_parser_ast.specs.declared.stmt.LabeledStmt.{LabeledStmt}
use Rattle.swc_ecma_parser_ast.specs.declared.stmt.BreakStmt.{BreakStmt}
use Rattle.swc_ecma_parser_ast.specs.declared.stmt.ContinueStmt.{ContinueStmt}
use Rattle.swc_ecma_parser_ast.specs.declared.branch.IfStmt.{IfStmt}
use Rattle.swc_ecma_parser_ast.specs.declared.branch.SwitchCase.{SwitchCase}
use Rattle.swc_ecma_parser_ast.specs.declared.branch.SwitchStmt.{SwitchStmt}
use Rattle.swc_ecma_parser_ast.specs.declared.branch.ThrowStmt.{ThrowStmt}
use Rattle.swc_ecma_parser_ast.specs.declared.branch.CatchClause.{CatchClause}
use Rattle.swc_ecma_parser_ast.specs.declared.branch.TryStmt.{TryStmt}
use Rattle.swc_ecma_parser_ast.specs.declared.loops.WhileStmt.{WhileStmt}
use Rattle.swc_ecma_parser_ast.specs.declared.loops.DoWhileStmt.{DoWhileStmt}
use Rattle.swc_ecma_parser_ast.specs.declared.loops.VarDeclOrExpr.{VarDeclOrExpr}
use Rattle.swc_ecma_parser_ast.specs.declared.loops.VarDeclOrExpr.TheVariants as v_var_decl_or_expr
use Rattle.swc_ecma_parser_ast.specs.declared.loops.ForStmt.{ForStmt}
use Rattle.swc_ecma_parser_ast.specs.declared.loops.ForHead.{ForHead}
use Rattle.swc_ecma_parser_ast.specs.declared.loops.ForHead.TheVariants as v_for_head
use Rattle.swc_ecma_parser_ast.specs.declared.loops.ForInStmt.{ForInStmt}
use Rattle.swc_ecma_parser_ast.specs.declared.loops.ForOfStmt.{ForOfStmt}
use Rattle.swc_ecma_parser_ast.specs.declared.stmt.ExprStmt.{ExprStmt}
use Rattle.swc_ecma_parser_ast.specs.declared.stmt.Stmt.{Stmt}
use Rattle.swc_ecma_parser_ast.specs.declared.stmt.Stmt.TheVariants as v_stmt
use Rattle.swc_ecma_parser_ast.specs.contracts.expr.ThisExprPartialEq.TheImpl as i_this_expr
use Rattle.swc_ecma_parser_ast.specs.contracts.call.ExprOrSpreadPartialEq.TheImpl as i_expr_or_spread
use Rattle.swc_ecma_parser_ast.specs.contracts.object.ArrayLitPartialEq.TheImpl as i_array_lit
use Rattle.swc_ecma_parser_ast.specs.contracts.object.SpreadElementPartialEq.TheImpl as i_spread_element
use Rattle.swc_ecma_parser_ast.specs.contracts.object.ComputedPropNamePartialEq.TheImpl as i_computed_prop_name
use Rattle.swc_ecma_parser_ast.specs.contracts.object.PropNamePartialEq.TheImpl as i_prop_name
use Rattle.swc_ecma_parser_ast.specs.contracts.object.KeyValuePropPartialEq.TheImpl as i_key_value_prop
use Rattle.swc_ecma_parser_ast.specs.contracts.object.AssignPropPartialEq.TheImpl as i_assign_prop
use Rattle.swc_ecma_parser_ast.specs.contracts.stmt.BlockStmtPartialEq.TheImpl as i_block_stmt
use Rattle.swc_ecma_parser_ast.specs.contracts.object.GetterPropPartialEq.TheImpl as i_getter_prop
use Rattle.swc_ecma_parser_ast.specs.contracts.pat.BindingIdentPartialEq.TheImpl as i_binding_ident
use Rattle.swc_ecma_parser_ast.specs.contracts.pat.ArrayPatPartialEq.TheImpl as i_array_pat
use Rattle.swc_ecma_parser_ast.specs.contracts.pat.RestPatPartialEq.TheImpl as i_rest_pat
use Rattle.swc_ecma_parser_ast.specs.contracts.pat.KeyValuePatPropPartialEq.TheImpl as i_key_value_pat_prop
use Rattle.swc_ecma_parser_ast.specs.contracts.pat.AssignPatPropPartialEq.TheImpl as i_assign_pat_prop
use Rattle.swc_ecma_parser_ast.specs.contracts.pat.ObjectPatPropPartialEq.TheImpl as i_object_pat_prop
use Rattle.swc_ecma_parser_ast.specs.contracts.pat.ObjectPatPartialEq.TheImpl as i_object_pat
use Rattle.swc_ecma_parser_ast.specs.contracts.pat.AssignPatPartialEq.TheImpl as i_assign_pat
use Rattle.swc_ecma_parser_ast.specs.contracts.expr.InvalidPartialEq.TheImpl as i_invalid
use Rattle.swc_ecma_parser_ast.specs.contracts.pat.PatPartialEq.TheImpl as i_pat
use Rattle.swc_ecma_parser_ast.specs.contracts.object.SetterPropPartialEq.TheImpl as i_setter_prop
use Rattle.swc_ecma_parser_ast.specs.contracts.function.DecoratorPartialEq.TheImpl as i_decorator
use Rattle.swc_ecma_parser_ast.specs.contracts.function.ParamPartialEq.TheImpl as i_param
use Rattle.swc_ecma_parser_ast.specs.contracts.function.FunctionPartialEq.TheImpl as i_function
use Rattle.swc_ecma_parser_ast.specs.contracts.object.MethodPropPartialEq.TheImpl as i_method_prop
use Rattle.swc_ecma_parser_ast.specs.contracts.object.PropPartialEq.TheImpl as i_prop
use Rattle.swc_ecma_parser_ast.specs.contracts.object.PropOrSpreadPartialEq.TheImpl as i_prop_or_spread
use Rattle.swc_ecma_parser_ast.specs.contracts.object.ObjectLitPartialEq.TheImpl as i_object_lit
use Rattle.swc_ecma_parser_ast.specs.contracts.function.FnExprPartialEq.TheImpl as i_fn_expr
use Rattle.swc_ecma_parser_ast.specs.contracts.expr.UnaryExprPartialEq.TheImpl as i_unary_expr
use Rattle.swc_ecma_parser_ast.specs.contracts.expr.UpdateExprPartialEq.TheImpl as i_update_expr
use Rattle.swc_ecma_parser_ast.specs.contracts.expr.BinExprPartialEq.TheImpl as i_bin_expr
use Rattle.swc_ecma_parser_ast.specs.contracts.call.MemberPropPartialEq.TheImpl as i_member_prop
use Rattle.swc_ecma_parser_ast.specs.contracts.call.MemberExprPartialEq.TheImpl as i_member_expr
use Rattle.swc_ecma_parser_ast.specs.contracts.call.SuperPartialEq.TheImpl as i_super
use Rattle.swc_ecma_parser_ast.specs.contracts.call.SuperPropPartialEq.TheImpl as i_super_prop
use Rattle.swc_ecma_parser_ast.specs.contracts.call.SuperPropExprPartialEq.TheImpl as i_super_prop_expr
use Rattle.swc_ecma_parser_ast.specs.contracts.expr.ParenExprPartialEq.TheImpl as i_paren_expr
use Rattle.swc_ecma_parser_ast.specs.contracts.target.SimpleAssignTargetPartialEq.TheImpl as i_simple_assign_target
use Rattle.swc_ecma_parser_ast.specs.contracts.target.AssignTargetPatPartialEq.TheImpl as i_assign_target_pat
use Rattle.swc_ecma_parser_ast.specs.contracts.target.AssignTargetPartialEq.TheImpl as i_assign_target
use Rattle.swc_ecma_parser_ast.specs.contracts.target.AssignExprPartialEq.TheImpl as i_assign_expr
use Rattle.swc_ecma_parser_ast.specs.contracts.expr.CondExprPartialEq.TheImpl as i_cond_expr
use Rattle.swc_ecma_parser_ast.specs.contracts.call.ImportPartialEq.TheImpl as i_import
use Rattle.swc_ecma_parser_ast.specs.contracts.call.CalleePartialEq.TheImpl as i_callee
use Rattle.swc_ecma_parser_ast.specs.contracts.call.CallExprPartialEq.TheImpl as i_call_expr
use Rattle.swc_ecma_parser_ast.specs.contracts.call.NewExprPartialEq.TheImpl as i_new_expr
use Rattle.swc_ecma_parser_ast.specs.contracts.call.OptCallPartialEq.TheImpl as i_opt_call
use Rattle.swc_ecma_parser_ast.specs.contracts.call.OptChainBasePartialEq.TheImpl as i_opt_chain_base
use Rattle.swc_ecma_parser_ast.specs.contracts.call.OptChainExprPartialEq.TheImpl as i_opt_chain_expr
use Rattle.swc_ecma_parser_ast.specs.contracts.template.TplPartialEq.TheImpl as i_tpl
use Rattle.swc_ecma_parser_ast.specs.contracts.template.TaggedTplPartialEq.TheImpl as i_tagged_tpl
use Rattle.swc_ecma_parser_ast.specs.contracts.expr.SeqExprPartialEq.TheImpl as i_seq_expr
use Rattle.swc_ecma_parser_ast.specs.contracts.expr.LitPartialEq.TheImpl as i_lit
use Rattle.swc_ecma_parser_ast.specs.contracts.function.BlockStmtOrExprPartialEq.TheImpl as i_block_stmt_or_expr
use Rattle.swc_ecma_parser_ast.specs.contracts.function.ArrowExprPartialEq.TheImpl as i_arrow_expr
use Rattle.swc_ecma_parser_ast.specs.contracts.class.ParamOrTsParamPropPartialEq.TheImpl as i_param_or_ts_param_prop
use Rattle.swc_ecma_parser_ast.specs.contracts.class.ConstructorPartialEq.TheImpl as i_constructor
use Rattle.swc_ecma_parser_ast.specs.contracts.class.ClassMethodPartialEq.TheImpl as i_class_method
use Rattle.swc_ecma_parser_ast.specs.contracts.class.PrivateMethodPartialEq.TheImpl as i_private_method
use Rattle.swc_ecma_parser_ast.specs.contracts.member.ClassPropPartialEq.TheImpl as i_class_prop
use Rattle.swc_ecma_parser_ast.specs.contracts.member.PrivatePropPartialEq.TheImpl as i_private_prop
use Rattle.swc_ecma_parser_ast.specs.contracts.stmt.EmptyStmtPartialEq.TheImpl as i_empty_stmt
use Rattle.swc_ecma_parser_ast.specs.contracts.member.StaticBlockPartialEq.TheImpl as i_static_block
use Rattle.swc_ecma_parser_ast.specs.contracts.member.KeyPartialEq.TheImpl as i_key
use Rattle.swc_ecma_parser_ast.specs.contracts.member.AutoAccessorPartialEq.TheImpl as i_auto_accessor
use Rattle.swc_ecma_parser_ast.specs.contracts.class.ClassMemberPartialEq.TheImpl as i_class_member
use Rattle.swc_ecma_parser_ast.specs.contracts.class.ClassPartialEq.TheImpl as i_class
use Rattle.swc_ecma_parser_ast.specs.contracts.class.ClassExprPartialEq.TheImpl as i_class_expr
use Rattle.swc_ecma_parser_ast.specs.contracts.expr.YieldExprPartialEq.TheImpl as i_yield_expr
use Rattle.swc_ecma_parser_ast.specs.contracts.expr.MetaPropExprPartialEq.TheImpl as i_meta_prop_expr
use Rattle.swc_ecma_parser_ast.specs.contracts.expr.AwaitExprPartialEq.TheImpl as i_await_expr
use Rattle.swc_ecma_parser_ast.specs.contracts.expr.ExprPartialEq.TheImpl as i_expr
use Rattle.swc_ecma_parser_ast.specs.contracts.class.ClassDeclPartialEq.TheImpl as i_class_decl
use Rattle.swc_ecma_parser_ast.specs.contracts.function.FnDeclPartialEq.TheImpl as i_fn_decl
use Rattle.swc_ecma_parser_ast.specs.contracts.decl.VarDeclaratorPartialEq.TheImpl as i_declarator
use Rattle.swc_ecma_parser_ast.specs.contracts.decl.VarDeclPartialEq.TheImpl as i_var_decl
use Rattle.swc_ecma_parser_ast.specs.contracts.decl.UsingDeclPartialEq.TheImpl as i_using_decl
use Rattle.swc_ecma_parser_ast.specs.contracts.decl.DeclPartialEq.TheImpl as i_decl
use Rattle.swc_ecma_parser_ast.specs.contracts.stmt.DebuggerStmtPartialEq.TheImpl as i_debugger_stmt
use Rattle.swc_ecma_parser_ast.specs.contracts.stmt.WithStmtPartialEq.TheImpl as i_with_stmt
use Rattle.swc_ecma_parser_ast.specs.contracts.stmt.ReturnStmtPartialEq.TheImpl as i_return_stmt
use Rattle.swc_ecma_parser_ast.specs.contracts.stmt.LabeledStmtPartialEq.TheImpl as i_labeled_stmt
use Rattle.swc_ecma_parser_ast.specs.contracts.stmt.BreakStmtPartialEq.TheImpl as i_break_stmt
use Rattle.swc_ecma_parser_ast.specs.contracts.stmt.ContinueStmtPartialEq.TheImpl as i_continue_stmt
use Rattle.swc_ecma_parser_ast.specs.contracts.branch.IfStmtPartialEq.TheImpl as i_if_stmt
use Rattle.swc_ecma_parser_ast.specs.contracts.branch.SwitchCasePartialEq.TheImpl as i_switch_case
use Rattle.swc_ecma_parser_ast.specs.contracts.branch.SwitchStmtPartialEq.TheImpl as i_switch_stmt
use Rattle.swc_ecma_parser_ast.specs.contracts.branch.ThrowStmtPartialEq.TheImpl as i_throw_stmt
use Rattle.swc_ecma_parser_ast.specs.contracts.branch.CatchClausePartialEq.TheImpl as i_catch_clause
use Rattle.swc_ecma_parser_ast.specs.contracts.branch.TryStmtPartialEq.TheImpl as i_try_stmt
use Rattle.swc_ecma_parser_ast.specs.contracts.loops.WhileStmtPartialEq.TheImpl as i_while_stmt
use Rattle.swc_ecma_parser_ast.specs.contracts.loops.DoWhileStmtPartialEq.TheImpl as i_do_while_stmt
use Rattle.swc_ecma_parser_ast.specs.contracts.loops.VarDeclOrExprPartialEq.TheImpl as i_var_decl_or_expr
use Rattle.swc_ecma_parser_ast.specs.contracts.loops.ForStmtPartialEq.TheImpl as i_for_stmt
use Rattle.swc_ecma_parser_ast.specs.contracts.loops.ForHeadPartialEq.TheImpl as i_for_head
use Rattle.swc_ecma_parser_ast.specs.contracts.loops.ForInStmtPartialEq.TheImpl as i_for_in_stmt
use Rattle.swc_ecma_parser_ast.specs.contracts.loops.ForOfStmtPartialEq.TheImpl as i_for_of_stmt
use Rattle.swc_ecma_parser_ast.specs.contracts.stmt.ExprStmtPartialEq.TheImpl as i_expr_stmt
use Rattle.swc_ecma_parser_ast.specs.contracts.stmt.StmtPartialEq.TheImpl as i_stmt
use Rattle.swc_ecma_parser_ast.proofs.DerivedLeaf.{derived_flag, derived_dots, derived_option, derived_each, derived_assign_op, derived_binary_op, derived_meta_prop_kind, derived_method_kind, derived_unary_op, derived_update_op, derived_var_decl_kind, derived_ident, derived_str, derived_bool, derived_null, derived_number, derived_big_int, derived_private_name, derived_regex, derived_tpl_element}

pub derived_this_expr : (x y : ThisExpr) → i_this_expr.ghosts.eq x y ≡ equal_this_expr x y
derived_this_expr x y = refl

pub derived_binding_ident : (x y : BindingIdent) → i_binding_ident.ghosts.eq x y ≡ equal_binding_ident x y
derived_binding_ident x y = λ k. derived_ident x.id y.id k

pub derived_invalid : (x y : Invalid) → i_invalid.ghosts.eq x y ≡ equal_invalid x y
derived_invalid x y = refl

pub derived_super : (x y : Super) → i_super.ghosts.eq x y ≡ equal_super x y
derived_super x y = refl

pub derived_import : (x y : Import) → i_import.ghosts.eq x y ≡ equal_import x y
derived_import x y = refl

pub derived_lit : (x y : Lit) → i_lit.ghosts.eq x y ≡ equal_lit x y
derived_lit (v_lit.Str x) (v_lit.Str y) = derived_str x y
derived_lit (v_lit.Bool x) (v_lit.Bool y) = derived_bool x y
derived_lit (v_lit.Null x) (v_lit.Null y) = derived_null x y
derived_lit (v_lit.Num x) (v_lit.Num y) = derived_number x y
derived_lit (v_lit.BigInt x) (v_lit.BigInt y) = derived_big_int x y
derived_lit (v_lit.Regex x) (v_lit.Regex y) = derived_regex x y
derived_lit _ _ = refl

pub derived_empty_stmt : (x y : EmptyStmt) → i_empty_stmt.ghosts.eq x y ≡ equal_empty_stmt x y
derived_empty_stmt x y = refl

pub derived_meta_prop_expr : (x y : MetaPropExpr) → i_meta_prop_expr.ghosts.eq x y ≡ equal_meta_prop_expr x y
derived_meta_prop_expr x y = λ k. equal_span x.span y.span && derived_meta_prop_kind x.kind y.kind k

pub derived_debugger_stmt : (x y : DebuggerStmt) → i_debugger_stmt.ghosts.eq x y ≡ equal_debugger_stmt x y
derived_debugger_stmt x y = refl

pub derived_break_stmt : (x y : BreakStmt) → i_break_stmt.ghosts.eq x y ≡ equal_break_stmt x y
derived_break_stmt x y = λ k. equal_span x.span y.span && derived_option _ equal_ident derived_ident x.label y.label k

pub derived_continue_stmt : (x y : ContinueStmt) → i_continue_stmt.ghosts.eq x y ≡ equal_continue_stmt x y
derived_continue_stmt x y = λ k. equal_span x.span y.span && derived_option _ equal_ident derived_ident x.label y.label k

module _ (R : RattleType) (g : Ghosts R.Denot) (dict : Dict) where
  pub derived_expr_or_spread : (x y : ExprOrSpread R.Denot) → (i_expr_or_spread.eq-value R g dict).it x y ≡ equal_expr_or_spread g.eq x y
  derived_expr_or_spread x y = λ k. derived_dots x.spread y.spread k && g.eq x.expr.node y.expr.node

  pub derived_array_lit : (x y : ArrayLit R.Denot) → (i_array_lit.eq-value R g dict).it x y ≡ equal_array_lit g.eq x y
  derived_array_lit x y = λ k. equal_span x.span y.span && derived_each _ (option_eq (equal_expr_or_spread g.eq)) (derived_option _ (equal_expr_or_spread g.eq) derived_expr_or_spread) x.elems.items y.elems.items k

  pub derived_spread_element : (x y : SpreadElement R.Denot) → (i_spread_element.eq-value R g dict).it x y ≡ equal_spread_element g.eq x y
  derived_spread_element x y = refl

  pub derived_computed_prop_name : (x y : ComputedPropName R.Denot) → (i_computed_prop_name.eq-value R g dict).it x y ≡ equal_computed_prop_name g.eq x y
  derived_computed_prop_name x y = refl

  pub derived_prop_name : (x y : PropName R.Denot) → (i_prop_name.eq-value R g dict).it x y ≡ equal_prop_name g.eq x y
  derived_prop_name (v_prop_name.Ident x) (v_prop_name.Ident y) = derived_ident x y
  derived_prop_name (v_prop_name.Str x) (v_prop_name.Str y) = derived_str x y
  derived_prop_name (v_prop_name.Num x) (v_prop_name.Num y) = derived_number x y
  derived_prop_name (v_prop_name.BigInt x) (v_prop_name.BigInt y) = derived_big_int x y
  derived_prop_name (v_prop_name.Computed x) (v_prop_name.Computed y) = derived_computed_prop_name x y
  derived_prop_name _ _ = refl

  pub derived_key_value_prop : (x y : KeyValueProp R.Denot) → (i_key_value_prop.eq-value R g dict).it x y ≡ equal_key_value_prop g.eq x y
  derived_key_value_prop x y = λ k. equal_span x.span y.span && (derived_prop_name x.key y.key k && g.eq x.value.node y.value.node)

  pub derived_assign_prop : (x y : AssignProp R.Denot) → (i_assign_prop.eq-value R g dict).it x y ≡ equal_assign_prop g.eq x y
  derived_assign_prop x y = λ k. equal_span x.span y.span && (derived_ident x.key y.key k && g.eq x.value.node y.value.node)

  pub derived_block_stmt : (x y : BlockStmt R.Denot) → (i_block_stmt.eq-value R g dict).it x y ≡ equal_block_stmt g.eq x y
  derived_block_stmt x y = refl

  pub derived_getter_prop : (x y : GetterProp R.Denot) → (i_getter_prop.eq-value R g dict).it x y ≡ equal_getter_prop g.eq x y
  derived_getter_prop x y = λ k. equal_span x.span y.span && (derived_prop_name x.key y.key k && derived_option _ (equal_block_stmt g.eq) derived_block_stmt x.body y.body k)

  pub derived_array_pat : (x y : ArrayPat R.Denot) → (i_array_pat.eq-value R g dict).it x y ≡ equal_array_pat g.eq x y
  derived_array_pat x y = refl

  pub derived_rest_pat : (x y : RestPat R.Denot) → (i_rest_pat.eq-value R g dict).it x y ≡ equal_rest_pat g.eq x y
  derived_rest_pat x y = refl

  pub derived_key_value_pat_prop : (x y : KeyValuePatProp R.Denot) → (i_key_value_pat_prop.eq-value R g dict).it x y ≡ equal_key_value_pat_prop g.eq x y
  derived_key_value_pat_prop x y = λ k. equal_span x.span y.span && (derived_prop_name x.key y.key k && g.eq x.value.node y.value.node)

  pub derived_assign_pat_prop : (x y : AssignPatProp R.Denot) → (i_assign_pat_prop.eq-value R g dict).it x y ≡ equal_assign_pat_prop g.eq x y
  derived_assign_pat_prop x y = λ k. equal_span x.span y.span && (derived_binding_ident x.key y.key k && option_eq (λ a b. g.eq a.node b.node) x.value y.value)

  pub derived_object_pat_prop : (x y : ObjectPatProp R.Denot) → (i_object_pat_prop.eq-value R g dict).it x y ≡ equal_object_pat_prop g.eq x y
  derived_object_pat_prop (v_object_pat_prop.KeyValue x) (v_object_pat_prop.KeyValue y) = derived_key_value_pat_prop x y
  derived_object_pat_prop (v_object_pat_prop.Assign x) (v_object_pat_prop.Assign y) = derived_assign_pat_prop x y
  derived_object_pat_prop (v_object_pat_prop.Rest x) (v_object_pat_prop.Rest y) = derived_rest_pat x y
  derived_object_pat_prop _ _ = refl

  pub derived_object_pat : (x y : ObjectPat R.Denot) → (i_object_pat.eq-value R g dict).it x y ≡ equal_object_pat g.eq x y
  derived_object_pat x y = λ k. equal_span x.span y.span && derived_each _ (equal_object_pat_prop g.eq) derived_object_pat_prop x.props.items y.props.items k

  pub derived_assign_pat : (x y : AssignPat R.Denot) → (i_assign_pat.eq-value R g dict).it x y ≡ equal_assign_pat g.eq x y
  derived_assign_pat x y = refl

  pub derived_pat : (x y : Pat R.Denot) → (i_pat.eq-value R g dict).it x y ≡ equal_pat g.eq x y
  derived_pat (v_pat.Ident x) (v_pat.Ident y) = derived_binding_ident x y
  derived_pat (v_pat.Array x) (v_pat.Array y) = derived_array_pat x y
  derived_pat (v_pat.Rest x) (v_pat.Rest y) = derived_rest_pat x y
  derived_pat (v_pat.Object x) (v_pat.Object y) = derived_object_pat x y
  derived_pat (v_pat.Assign x) (v_pat.Assign y) = derived_assign_pat x y
  derived_pat (v_pat.Invalid x) (v_pat.Invalid y) = derived_invalid x y
  derived_pat (v_pat.Expr x) (v_pat.Expr y) = refl
  derived_pat _ _ = refl

  pub derived_setter_prop : (x y : SetterProp R.Denot) → (i_setter_prop.eq-value R g dict).it x y ≡ equal_setter_prop g.eq x y
  derived_setter_prop x y = λ k. equal_span x.span y.span && (derived_prop_name x.key y.key k && (derived_pat x.param y.param k && derived_option _ (equal_block_stmt g.eq) derived_block_stmt x.body y.body k))

  pub derived_decorator : (x y : Decorator R.Denot) → (i_decorator.eq-value R g dict).it x y ≡ equal_decorator g.eq x y
  derived_decorator x y = refl

  pub derived_param : (x y : Param R.Denot) → (i_param.eq-value R g dict).it x y ≡ equal_param g.eq x y
  derived_param x y = λ k. equal_span x.span y.span && (derived_each _ (equal_decorator g.eq) derived_decorator x.decorators.items y.decorators.items k && derived_pat x.pat y.pat k)

  pub derived_function : (x y : Function R.Denot) → (i_function.eq-value R g dict).it x y ≡ equal_function g.eq x y
  derived_function x y = λ k. equal_span x.span y.span && (derived_each _ (equal_decorator g.eq) derived_decorator x.decorators.items y.decorators.items k && (derived_each _ (equal_param g.eq) derived_param x.params.items y.params.items k && (derived_option _ (equal_block_stmt g.eq) derived_block_stmt x.body y.body k && (derived_flag x.is_async y.is_async k && derived_flag x.is_generator y.is_generator k))))

  pub derived_method_prop : (x y : MethodProp R.Denot) → (i_method_prop.eq-value R g dict).it x y ≡ equal_method_prop g.eq x y
  derived_method_prop x y = λ k. equal_span x.span y.span && (derived_prop_name x.key y.key k && derived_function x.function.value y.function.value k)

  pub derived_prop : (x y : Prop R.Denot) → (i_prop.eq-value R g dict).it x y ≡ equal_prop g.eq x y
  derived_prop (v_prop.Shorthand x) (v_prop.Shorthand y) = derived_ident x y
  derived_prop (v_prop.KeyValue x) (v_prop.KeyValue y) = derived_key_value_prop x y
  derived_prop (v_prop.Assign x) (v_prop.Assign y) = derived_assign_prop x y
  derived_prop (v_prop.Getter x) (v_prop.Getter y) = derived_getter_prop x y
  derived_prop (v_prop.Setter x) (v_prop.Setter y) = derived_setter_prop x y
  derived_prop (v_prop.Method x) (v_prop.Method y) = derived_method_prop x y
  derived_prop _ _ = refl

  pub derived_prop_or_spread : (x y : PropOrSpread R.Denot) → (i_prop_or_spread.eq-value R g dict).it x y ≡ equal_prop_or_spread g.eq x y
  derived_prop_or_spread (v_prop_or_spread.Spread x) (v_prop_or_spread.Spread y) = derived_spread_element x y
  derived_prop_or_spread (v_prop_or_spread.Prop x) (v_prop_or_spread.Prop y) = derived_prop x.value y.value
  derived_prop_or_spread _ _ = refl

  pub derived_object_lit : (x y : ObjectLit R.Denot) → (i_object_lit.eq-value R g dict).it x y ≡ equal_object_lit g.eq x y
  derived_object_lit x y = λ k. equal_span x.span y.span && derived_each _ (equal_prop_or_spread g.eq) derived_prop_or_spread x.props.items y.props.items k

  pub derived_fn_expr : (x y : FnExpr R.Denot) → (i_fn_expr.eq-value R g dict).it x y ≡ equal_fn_expr g.eq x y
  derived_fn_expr x y = λ k. equal_span x.span y.span && (derived_option _ equal_ident derived_ident x.ident y.ident k && derived_function x.function.value y.function.value k)

  pub derived_unary_expr : (x y : UnaryExpr R.Denot) → (i_unary_expr.eq-value R g dict).it x y ≡ equal_unary_expr g.eq x y
  derived_unary_expr x y = λ k. equal_span x.span y.span && (derived_unary_op x.op y.op k && g.eq x.arg.node y.arg.node)

  pub derived_update_expr : (x y : UpdateExpr R.Denot) → (i_update_expr.eq-value R g dict).it x y ≡ equal_update_expr g.eq x y
  derived_update_expr x y = λ k. equal_span x.span y.span && (derived_update_op x.op y.op k && (derived_flag x.prefix y.prefix k && g.eq x.arg.node y.arg.node))

  pub derived_bin_expr : (x y : BinExpr R.Denot) → (i_bin_expr.eq-value R g dict).it x y ≡ equal_bin_expr g.eq x y
  derived_bin_expr x y = λ k. equal_span x.span y.span && (derived_binary_op x.op y.op k && (g.eq x.left.node y.left.node && g.eq x.right.node y.right.node))

  pub derived_member_prop : (x y : MemberProp R.Denot) → (i_member_prop.eq-value R g dict).it x y ≡ equal_member_prop g.eq x y
  derived_member_prop (v_member_prop.Ident x) (v_member_prop.Ident y) = derived_ident x y
  derived_member_prop (v_member_prop.PrivateName x) (v_member_prop.PrivateName y) = derived_private_name x y
  derived_member_prop (v_member_prop.Computed x) (v_member_prop.Computed y) = derived_computed_prop_name x y
  derived_member_prop _ _ = refl

  pub derived_member_expr : (x y : MemberExpr R.Denot) → (i_member_expr.eq-value R g dict).it x y ≡ equal_member_expr g.eq x y
  derived_member_expr x y = λ k. equal_span x.span y.span && (g.eq x.obj.node y.obj.node && derived_member_prop x.prop y.prop k)

  pub derived_super_prop : (x y : SuperProp R.Denot) → (i_super_prop.eq-value R g dict).it x y ≡ equal_super_prop g.eq x y
  derived_super_prop (v_super_prop.Ident x) (v_super_prop.Ident y) = derived_ident x y
  derived_super_prop (v_super_prop.Computed x) (v_super_prop.Computed y) = derived_computed_prop_name x y
  derived_super_prop _ _ = refl

  pub derived_super_prop_expr : (x y : SuperPropExpr R.Denot) → (i_super_prop_expr.eq-value R g dict).it x y ≡ equal_super_prop_expr g.eq x y
  derived_super_prop_expr x y = λ k. equal_span x.span y.span && (derived_super x.obj y.obj k && derived_super_prop x.prop y.prop k)

  pub derived_paren_expr : (x y : ParenExpr R.Denot) → (i_paren_expr.eq-value R g dict).it x y ≡ equal_paren_expr g.eq x y
  derived_paren_expr x y = refl

  pub derived_simple_assign_target : (x y : SimpleAssignTarget R.Denot) → (i_simple_assign_target.eq-value R g dict).it x y ≡ equal_simple_assign_target g.eq x y
  derived_simple_assign_target (v_simple_assign_target.Ident x) (v_simple_assign_target.Ident y) = derived_binding_ident x y
  derived_simple_assign_target (v_simple_assign_target.Member x) (v_simple_assign_target.Member y) = derived_member_expr x y
  derived_simple_assign_target (v_simple_assign_target.SuperProp x) (v_simple_assign_target.SuperProp y) = derived_super_prop_expr x y
  derived_simple_assign_target (v_simple_assign_target.Paren x) (v_simple_assign_target.Paren y) = derived_paren_expr x y
  derived_simple_assign_target _ _ = refl

  pub derived_assign_target_pat : (x y : AssignTargetPat R.Denot) → (i_assign_target_pat.eq-value R g dict).it x y ≡ equal_assign_target_pat g.eq x y
  derived_assign_target_pat (v_assign_target_pat.Array x) (v_assign_target_pat.Array y) = derived_array_pat x y
  derived_assign_target_pat (v_assign_target_pat.Object x) (v_assign_target_pat.Object y) = derived_object_pat x y
  derived_assign_target_pat _ _ = refl

  pub derived_assign_target : (x y : AssignTarget R.Denot) → (i_assign_target.eq-value R g dict).it x y ≡ equal_assign_target g.eq x y
  derived_assign_target (v_assign_target.Simple x) (v_assign_target.Simple y) = derived_simple_assign_target x y
  derived_assign_target (v_assign_target.Pat x) (v_assign_target.Pat y) = derived_assign_target_pat x y
  derived_assign_target _ _ = refl

  pub derived_assign_expr : (x y : AssignExpr R.Denot) → (i_assign_expr.eq-value R g dict).it x y ≡ equal_assign_expr g.eq x y
  derived_assign_expr x y = λ k. equal_span x.span y.span && (derived_assign_op x.op y.op k && (derived_assign_target x.left.value y.left.value k && g.eq x.right.node y.right.node))

  pub derived_cond_expr : (x y : CondExpr R.Denot) → (i_cond_expr.eq-value R g dict).it x y ≡ equal_cond_expr g.eq x y
  derived_cond_expr x y = refl

  pub derived_callee : (x y : Callee R.Denot) → (i_callee.eq-value R g dict).it x y ≡ equal_callee g.eq x y
  derived_callee (v_callee.Super x) (v_callee.Super y) = derived_super x y
  derived_callee (v_callee.Import x) (v_callee.Import y) = derived_import x y
  derived_callee (v_callee.Expr x) (v_callee.Expr y) = refl
  derived_callee _ _ = refl

  pub derived_call_expr : (x y : CallExpr R.Denot) → (i_call_expr.eq-value R g dict).it x y ≡ equal_call_expr g.eq x y
  derived_call_expr x y = λ k. equal_span x.span y.span && (derived_callee x.callee y.callee k && derived_each _ (equal_expr_or_spread g.eq) derived_expr_or_spread x.args.items y.args.items k)

  pub derived_new_expr : (x y : NewExpr R.Denot) → (i_new_expr.eq-value R g dict).it x y ≡ equal_new_expr g.eq x y
  derived_new_expr x y = λ k. equal_span x.span y.span && (g.eq x.callee.node y.callee.node && derived_option _ (λ v w. pointwise (equal_expr_or_spread g.eq) v.items w.items) (λ v w. derived_each _ (equal_expr_or_spread g.eq) derived_expr_or_spread v.items w.items) x.args y.args k)

  pub derived_opt_call : (x y : OptCall R.Denot) → (i_opt_call.eq-value R g dict).it x y ≡ equal_opt_call g.eq x y
  derived_opt_call x y = λ k. equal_span x.span y.span && (g.eq x.callee.node y.callee.node && derived_each _ (equal_expr_or_spread g.eq) derived_expr_or_spread x.args.items y.args.items k)

  pub derived_opt_chain_base : (x y : OptChainBase R.Denot) → (i_opt_chain_base.eq-value R g dict).it x y ≡ equal_opt_chain_base g.eq x y
  derived_opt_chain_base (v_opt_chain_base.Member x) (v_opt_chain_base.Member y) = derived_member_expr x y
  derived_opt_chain_base (v_opt_chain_base.Call x) (v_opt_chain_base.Call y) = derived_opt_call x y
  derived_opt_chain_base _ _ = refl

  pub derived_opt_chain_expr : (x y : OptChainExpr R.Denot) → (i_opt_chain_expr.eq-value R g dict).it x y ≡ equal_opt_chain_expr g.eq x y
  derived_opt_chain_expr x y = λ k. equal_span x.span y.span && (derived_flag x.optional y.optional k && derived_opt_chain_base x.base.value y.base.value k)

  pub derived_tpl : (x y : Tpl R.Denot) → (i_tpl.eq-value R g dict).it x y ≡ equal_tpl g.eq x y
  derived_tpl x y = λ k. equal_span x.span y.span && (pointwise (λ a b. g.eq a.node b.node) x.exprs.items y.exprs.items && derived_each _ equal_tpl_element derived_tpl_element x.quasis.items y.quasis.items k)

  pub derived_tagged_tpl : (x y : TaggedTpl R.Denot) → (i_tagged_tpl.eq-value R g dict).it x y ≡ equal_tagged_tpl g.eq x y
  derived_tagged_tpl x y = λ k. equal_span x.span y.span && (g.eq x.tag.node y.tag.node && derived_tpl x.tpl.value y.tpl.value k)

  pub derived_seq_expr : (x y : SeqExpr R.Denot) → (i_seq_expr.eq-value R g dict).it x y ≡ equal_seq_expr g.eq x y
  derived_seq_expr x y = refl

  pub derived_block_stmt_or_expr : (x y : BlockStmtOrExpr R.Denot) → (i_block_stmt_or_expr.eq-value R g dict).it x y ≡ equal_block_stmt_or_expr g.eq x y
  derived_block_stmt_or_expr (v_block_stmt_or_expr.BlockStmt x) (v_block_stmt_or_expr.BlockStmt y) = derived_block_stmt x y
  derived_block_stmt_or_expr (v_block_stmt_or_expr.Expr x) (v_block_stmt_or_expr.Expr y) = refl
  derived_block_stmt_or_expr _ _ = refl

  pub derived_arrow_expr : (x y : ArrowExpr R.Denot) → (i_arrow_expr.eq-value R g dict).it x y ≡ equal_arrow_expr g.eq x y
  derived_arrow_expr x y = λ k. equal_span x.span y.span && (derived_each _ (equal_pat g.eq) derived_pat x.params.items y.params.items k && (derived_block_stmt_or_expr x.body y.body k && derived_flag x.is_async y.is_async k))

  pub derived_param_or_ts_param_prop : (x y : ParamOrTsParamProp R.Denot) → (i_param_or_ts_param_prop.eq-value R g dict).it x y ≡ equal_param_or_ts_param_prop g.eq x y
  derived_param_or_ts_param_prop (v_param_or_ts_param_prop.Param x) (v_param_or_ts_param_prop.Param y) = derived_param x y

  pub derived_constructor : (x y : Constructor R.Denot) → (i_constructor.eq-value R g dict).it x y ≡ equal_constructor g.eq x y
  derived_constructor x y = λ k. equal_span x.span y.span && (derived_prop_name x.key y.key k && (derived_each _ (equal_param_or_ts_param_prop g.eq) derived_param_or_ts_param_prop x.params.items y.params.items k && derived_option _ (equal_block_stmt g.eq) derived_block_stmt x.body y.body k))

  pub derived_class_method : (x y : ClassMethod R.Denot) → (i_class_method.eq-value R g dict).it x y ≡ equal_class_method g.eq x y
  derived_class_method x y = λ k. equal_span x.span y.span && (derived_prop_name x.key y.key k && (derived_function x.function.value y.function.value k && (derived_method_kind x.kind y.kind k && derived_flag x.is_static y.is_static k)))

  pub derived_private_method : (x y : PrivateMethod R.Denot) → (i_private_method.eq-value R g dict).it x y ≡ equal_private_method g.eq x y
  derived_private_method x y = λ k. equal_span x.span y.span && (derived_private_name x.key y.key k && (derived_function x.function.value y.function.value k && (derived_method_kind x.kind y.kind k && derived_flag x.is_static y.is_static k)))

  pub derived_class_prop : (x y : ClassProp R.Denot) → (i_class_prop.eq-value R g dict).it x y ≡ equal_class_prop g.eq x y
  derived_class_prop x y = λ k. equal_span x.span y.span && (derived_prop_name x.key y.key k && (option_eq (λ a b. g.eq a.node b.node) x.value y.value && (derived_flag x.is_static y.is_static k && derived_each _ (equal_decorator g.eq) derived_decorator x.decorators.items y.decorators.items k)))

  pub derived_private_prop : (x y : PrivateProp R.Denot) → (i_private_prop.eq-value R g dict).it x y ≡ equal_private_prop g.eq x y
  derived_private_prop x y = λ k. equal_span x.span y.span && (derived_private_name x.key y.key k && (option_eq (λ a b. g.eq a.node b.node) x.value y.value && (derived_flag x.is_static y.is_static k && derived_each _ (equal_decorator g.eq) derived_decorator x.decorators.items y.decorators.items k)))

  pub derived_static_block : (x y : StaticBlock R.Denot) → (i_static_block.eq-value R g dict).it x y ≡ equal_static_block g.eq x y
  derived_static_block x y = λ k. equal_span x.span y.span && derived_block_stmt x.body y.body k

  pub derived_key : (x y : Key R.Denot) → (i_key.eq-value R g dict).it x y ≡ equal_key g.eq x y
  derived_key (v_key.Private x) (v_key.Private y) = derived_private_name x y
  derived_key (v_key.Public x) (v_key.Public y) = derived_prop_name x y
  derived_key _ _ = refl

  pub derived_auto_accessor : (x y : AutoAccessor R.Denot) → (i_auto_accessor.eq-value R g dict).it x y ≡ equal_auto_accessor g.eq x y
  derived_auto_accessor x y = λ k. equal_span x.span y.span && (derived_key x.key y.key k && (option_eq (λ a b. g.eq a.node b.node) x.value y.value && (derived_flag x.is_static y.is_static k && derived_each _ (equal_decorator g.eq) derived_decorator x.decorators.items y.decorators.items k)))

  pub derived_class_member : (x y : ClassMember R.Denot) → (i_class_member.eq-value R g dict).it x y ≡ equal_class_member g.eq x y
  derived_class_member (v_class_member.Constructor x) (v_class_member.Constructor y) = derived_constructor x.value y.value
  derived_class_member (v_class_member.Method x) (v_class_member.Method y) = derived_class_method x.value y.value
  derived_class_member (v_class_member.PrivateMethod x) (v_class_member.PrivateMethod y) = derived_private_method x.value y.value
  derived_class_member (v_class_member.ClassProp x) (v_class_member.ClassProp y) = derived_class_prop x.value y.value
  derived_class_member (v_class_member.PrivateProp x) (v_class_member.PrivateProp y) = derived_private_prop x.value y.value
  derived_class_member (v_class_member.Empty x) (v_class_member.Empty y) = derived_empty_stmt x y
  derived_class_member (v_class_member.StaticBlock x) (v_class_member.StaticBlock y) = derived_static_block x y
  derived_class_member (v_class_member.AutoAccessor x) (v_class_member.AutoAccessor y) = derived_auto_accessor x.value y.value
  derived_class_member _ _ = refl

  pub derived_class : (x y : Class R.Denot) → (i_class.eq-value R g dict).it x y ≡ equal_class g.eq x y
  derived_class x y = λ k. equal_span x.span y.span && (derived_each _ (equal_decorator g.eq) derived_decorator x.decorators.items y.decorators.items k && (derived_each _ (equal_class_member g.eq) derived_class_member x.body.items y.body.items k && option_eq (λ a b. g.eq a.node b.node) x.super_class y.super_class))

  pub derived_class_expr : (x y : ClassExpr R.Denot) → (i_class_expr.eq-value R g dict).it x y ≡ equal_class_expr g.eq x y
  derived_class_expr x y = λ k. equal_span x.span y.span && (derived_option _ equal_ident derived_ident x.ident y.ident k && derived_class x.class.value y.class.value k)

  pub derived_yield_expr : (x y : YieldExpr R.Denot) → (i_yield_expr.eq-value R g dict).it x y ≡ equal_yield_expr g.eq x y
  derived_yield_expr x y = λ k. equal_span x.span y.span && (option_eq (λ a b. g.eq a.node b.node) x.arg y.arg && derived_flag x.delegate y.delegate k)

  pub derived_await_expr : (x y : AwaitExpr R.Denot) → (i_await_expr.eq-value R g dict).it x y ≡ equal_await_expr g.eq x y
  derived_await_expr x y = refl

  pub derived_expr : (x y : Expr R.Denot) → (i_expr.eq-value R g dict).it x y ≡ equal_expr g.eq x y
  derived_expr (v_expr.This x) (v_expr.This y) = derived_this_expr x y
  derived_expr (v_expr.Array x) (v_expr.Array y) = derived_array_lit x y
  derived_expr (v_expr.Object x) (v_expr.Object y) = derived_object_lit x y
  derived_expr (v_expr.Fn x) (v_expr.Fn y) = derived_fn_expr x y
  derived_expr (v_expr.Unary x) (v_expr.Unary y) = derived_unary_expr x y
  derived_expr (v_expr.Update x) (v_expr.Update y) = derived_update_expr x y
  derived_expr (v_expr.Bin x) (v_expr.Bin y) = derived_bin_expr x y
  derived_expr (v_expr.Assign x) (v_expr.Assign y) = derived_assign_expr x y
  derived_expr (v_expr.Member x) (v_expr.Member y) = derived_member_expr x y
  derived_expr (v_expr.SuperProp x) (v_expr.SuperProp y) = derived_super_prop_expr x y
  derived_expr (v_expr.Cond x) (v_expr.Cond y) = derived_cond_expr x y
  derived_expr (v_expr.Call x) (v_expr.Call y) = derived_call_expr x y
  derived_expr (v_expr.New x) (v_expr.New y) = derived_new_expr x y
  derived_expr (v_expr.Seq x) (v_expr.Seq y) = derived_seq_expr x y
  derived_expr (v_expr.Ident x) (v_expr.Ident y) = derived_ident x y
  derived_expr (v_expr.Lit x) (v_expr.Lit y) = derived_lit x y
  derived_expr (v_expr.Arrow x) (v_expr.Arrow y) = derived_arrow_expr x y
  derived_expr (v_expr.Class x) (v_expr.Class y) = derived_class_expr x y
  derived_expr (v_expr.Yield x) (v_expr.Yield y) = derived_yield_expr x y
  derived_expr (v_expr.MetaProp x) (v_expr.MetaProp y) = derived_meta_prop_expr x y
  derived_expr (v_expr.Await x) (v_expr.Await y) = derived_await_expr x y
  derived_expr (v_expr.Paren x) (v_expr.Paren y) = derived_paren_expr x y
  derived_expr (v_expr.Tpl x) (v_expr.Tpl y) = derived_tpl x y
  derived_expr (v_expr.TaggedTpl x) (v_expr.TaggedTpl y) = derived_tagged_tpl x y
  derived_expr (v_expr.OptChain x) (v_expr.OptChain y) = derived_opt_chain_expr x y
  derived_expr (v_expr.PrivateName x) (v_expr.PrivateName y) = derived_private_name x y
  derived_expr (v_expr.Invalid x) (v_expr.Invalid y) = derived_invalid x y
  derived_expr _ _ = refl

  pub derived_class_decl : (x y : ClassDecl R.Denot) → (i_class_decl.eq-value R g dict).it x y ≡ equal_class_decl g.eq x y
  derived_class_decl x y = λ k. derived_ident x.ident y.ident k && derived_class x.class.value y.class.value k

  pub derived_fn_decl : (x y : FnDecl R.Denot) → (i_fn_decl.eq-value R g dict).it x y ≡ equal_fn_decl g.eq x y
  derived_fn_decl x y = λ k. derived_ident x.ident y.ident k && derived_function x.function.value y.function.value k

  pub derived_declarator : (x y : VarDeclarator R.Denot) → (i_declarator.eq-value R g dict).it x y ≡ equal_declarator g.eq x y
  derived_declarator x y = λ k. equal_span x.span y.span && (derived_pat x.name y.name k && option_eq (λ a b. g.eq a.node b.node) x.init y.init)

  pub derived_var_decl : (x y : VarDecl R.Denot) → (i_var_decl.eq-value R g dict).it x y ≡ equal_var_decl g.eq x y
  derived_var_decl x y = λ k. equal_span x.span y.span && (derived_var_decl_kind x.kind y.kind k && derived_each _ (equal_declarator g.eq) derived_declarator x.decls.items y.decls.items k)

  pub derived_using_decl : (x y : UsingDecl R.Denot) → (i_using_decl.eq-value R g dict).it x y ≡ equal_using_decl g.eq x y
  derived_using_decl x y = λ k. equal_span x.span y.span && (derived_flag x.is_await y.is_await k && derived_each _ (equal_declarator g.eq) derived_declarator x.decls.items y.decls.items k)

  pub derived_decl : (x y : Decl R.Denot) → (i_decl.eq-value R g dict).it x y ≡ equal_decl g.eq x y
  derived_decl (v_decl.Class x) (v_decl.Class y) = derived_class_decl x y
  derived_decl (v_decl.Fn x) (v_decl.Fn y) = derived_fn_decl x y
  derived_decl (v_decl.Var x) (v_decl.Var y) = derived_var_decl x y
  derived_decl (v_decl.Using x) (v_decl.Using y) = derived_using_decl x y
  derived_decl _ _ = refl

  pub derived_with_stmt : (x y : WithStmt R.Denot) → (i_with_stmt.eq-value R g dict).it x y ≡ equal_with_stmt g.eq x y
  derived_with_stmt x y = refl

  pub derived_return_stmt : (x y : ReturnStmt R.Denot) → (i_return_stmt.eq-value R g dict).it x y ≡ equal_return_stmt g.eq x y
  derived_return_stmt x y = refl

  pub derived_labeled_stmt : (x y : LabeledStmt R.Denot) → (i_labeled_stmt.eq-value R g dict).it x y ≡ equal_labeled_stmt g.eq x y
  derived_labeled_stmt x y = λ k. equal_span x.span y.span && (derived_ident x.label y.label k && g.eq x.body.node y.body.node)

  pub derived_if_stmt : (x y : IfStmt R.Denot) → (i_if_stmt.eq-value R g dict).it x y ≡ equal_if_stmt g.eq x y
  derived_if_stmt x y = refl

  pub derived_switch_case : (x y : SwitchCase R.Denot) → (i_switch_case.eq-value R g dict).it x y ≡ equal_switch_case g.eq x y
  derived_switch_case x y = refl

  pub derived_switch_stmt : (x y : SwitchStmt R.Denot) → (i_switch_stmt.eq-value R g dict).it x y ≡ equal_switch_stmt g.eq x y
  derived_switch_stmt x y = λ k. equal_span x.span y.span && (g.eq x.discriminant.node y.discriminant.node && derived_each _ (equal_switch_case g.eq) derived_switch_case x.cases.items y.cases.items k)

  pub derived_throw_stmt : (x y : ThrowStmt R.Denot) → (i_throw_stmt.eq-value R g dict).it x y ≡ equal_throw_stmt g.eq x y
  derived_throw_stmt x y = refl

  pub derived_catch_clause : (x y : CatchClause R.Denot) → (i_catch_clause.eq-value R g dict).it x y ≡ equal_catch_clause g.eq x y
  derived_catch_clause x y = λ k. equal_span x.span y.span && (derived_option _ (equal_pat g.eq) derived_pat x.param y.param k && derived_block_stmt x.body y.body k)

  pub derived_try_stmt : (x y : TryStmt R.Denot) → (i_try_stmt.eq-value R g dict).it x y ≡ equal_try_stmt g.eq x y
  derived_try_stmt x y = λ k. equal_span x.span y.span && (derived_block_stmt x.block y.block k && (derived_option _ (equal_catch_clause g.eq) derived_catch_clause x.handler y.handler k && derived_option _ (equal_block_stmt g.eq) derived_block_stmt x.finalizer y.finalizer k))

  pub derived_while_stmt : (x y : WhileStmt R.Denot) → (i_while_stmt.eq-value R g dict).it x y ≡ equal_while_stmt g.eq x y
  derived_while_stmt x y = refl

  pub derived_do_while_stmt : (x y : DoWhileStmt R.Denot) → (i_do_while_stmt.eq-value R g dict).it x y ≡ equal_do_while_stmt g.eq x y
  derived_do_while_stmt x y = refl

  pub derived_var_decl_or_expr : (x y : VarDeclOrExpr R.Denot) → (i_var_decl_or_expr.eq-value R g dict).it x y ≡ equal_var_decl_or_expr g.eq x y
  derived_var_decl_or_expr (v_var_decl_or_expr.VarDecl x) (v_var_decl_or_expr.VarDecl y) = derived_var_decl x y
  derived_var_decl_or_expr (v_var_decl_or_expr.Expr x) (v_var_decl_or_expr.Expr y) = refl
  derived_var_decl_or_expr _ _ = refl

  pub derived_for_stmt : (x y : ForStmt R.Denot) → (i_for_stmt.eq-value R g dict).it x y ≡ equal_for_stmt g.eq x y
  derived_for_stmt x y = λ k. equal_span x.span y.span && (derived_option _ (equal_var_decl_or_expr g.eq) derived_var_decl_or_expr x.init y.init k && (option_eq (λ a b. g.eq a.node b.node) x.test y.test && (option_eq (λ a b. g.eq a.node b.node) x.update y.update && g.eq x.body.node y.body.node)))

  pub derived_for_head : (x y : ForHead R.Denot) → (i_for_head.eq-value R g dict).it x y ≡ equal_for_head g.eq x y
  derived_for_head (v_for_head.VarDecl x) (v_for_head.VarDecl y) = derived_var_decl x y
  derived_for_head (v_for_head.UsingDecl x) (v_for_head.UsingDecl y) = derived_using_decl x y
  derived_for_head (v_for_head.Pat x) (v_for_head.Pat y) = derived_pat x y
  derived_for_head _ _ = refl

  pub derived_for_in_stmt : (x y : ForInStmt R.Denot) → (i_for_in_stmt.eq-value R g dict).it x y ≡ equal_for_in_stmt g.eq x y
  derived_for_in_stmt x y = λ k. equal_span x.span y.span && (derived_for_head x.left y.left k && (g.eq x.right.node y.right.node && g.eq x.body.node y.body.node))

  pub derived_for_of_stmt : (x y : ForOfStmt R.Denot) → (i_for_of_stmt.eq-value R g dict).it x y ≡ equal_for_of_stmt g.eq x y
  derived_for_of_stmt x y = λ k. equal_span x.span y.span && (derived_flag x.is_await y.is_await k && (derived_for_head x.left y.left k && (g.eq x.right.node y.right.node && g.eq x.body.node y.body.node)))

  pub derived_expr_stmt : (x y : ExprStmt R.Denot) → (i_expr_stmt.eq-value R g dict).it x y ≡ equal_expr_stmt g.eq x y
  derived_expr_stmt x y = refl

  pub derived_stmt : (x y : Stmt R.Denot) → (i_stmt.eq-value R g dict).it x y ≡ equal_stmt g.eq x y
  derived_stmt (v_stmt.Block x) (v_stmt.Block y) = derived_block_stmt x y
  derived_stmt (v_stmt.Empty x) (v_stmt.Empty y) = derived_empty_stmt x y
  derived_stmt (v_stmt.Debugger x) (v_stmt.Debugger y) = derived_debugger_stmt x y
  derived_stmt (v_stmt.With x) (v_stmt.With y) = derived_with_stmt x y
  derived_stmt (v_stmt.Return x) (v_stmt.Return y) = derived_return_stmt x y
  derived_stmt (v_stmt.Labeled x) (v_stmt.Labeled y) = derived_labeled_stmt x y
  derived_stmt (v_stmt.Break x) (v_stmt.Break y) = derived_break_stmt x y
  derived_stmt (v_stmt.Continue x) (v_stmt.Continue y) = derived_continue_stmt x y
  derived_stmt (v_stmt.If x) (v_stmt.If y) = derived_if_stmt x y
  derived_stmt (v_stmt.Switch x) (v_stmt.Switch y) = derived_switch_stmt x y
  derived_stmt (v_stmt.Throw x) (v_stmt.Throw y) = derived_throw_stmt x y
  derived_stmt (v_stmt.Try x) (v_stmt.Try y) = derived_try_stmt x.value y.value
  derived_stmt (v_stmt.While x) (v_stmt.While y) = derived_while_stmt x y
  derived_stmt (v_stmt.DoWhile x) (v_stmt.DoWhile y) = derived_do_while_stmt x y
  derived_stmt (v_stmt.For x) (v_stmt.For y) = derived_for_stmt x.value y.value
  derived_stmt (v_stmt.ForIn x) (v_stmt.ForIn y) = derived_for_in_stmt x.value y.value
  derived_stmt (v_stmt.ForOf x) (v_stmt.ForOf y) = derived_for_of_stmt x.value y.value
  derived_stmt (v_stmt.Decl x) (v_stmt.Decl y) = derived_decl x y
  derived_stmt (v_stmt.Expr x) (v_stmt.Expr y) = derived_expr_stmt x y
  derived_stmt _ _ = refl

  pub derived_stmts : (xs ys : List (Stmt R.Denot)) → pointwise (i_stmt.eq-value R g dict).it xs ys ≡ equal_stmts g.eq xs ys
  derived_stmts = derived_each (i_stmt.eq-value R g dict).it (equal_stmt g.eq) derived_stmt
