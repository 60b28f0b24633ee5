-- The equality of each type, given one of its nodes: the parts of a node have the equality of their codes.
use Rattle.std.specs.Prelude.{List, Bool, false, ◌&&◌}
use Rattle.std.specs.Option.{option_eq}
use Rattle.std.specs.Cmp.Lexicographic.{pointwise}
use Rattle.swc_ecma_parser_common.specs.declared.span.Span.{Span}
use Rattle.swc_ecma_parser_model.specs.Tree.{Text}
use Rattle.swc_ecma_parser_model.specs.Leaf.{put_assign, put_binary, put_bool, put_dots, put_kind, put_meta, put_method, put_option, put_phase, put_span, put_text, put_unary, put_update}
use Rattle.swc_ecma_parser_model.specs.Same.{alike}
use Rattle.swc_ecma_parser_model.specs.declared.leaves.Ident.{Ident}
use Rattle.swc_ecma_parser_model.specs.declared.leaves.Str.{Str}
use Rattle.swc_ecma_parser_model.specs.declared.leaves.Bool.{Bool as BoolLit}
use Rattle.swc_ecma_parser_model.specs.declared.leaves.Null.{Null}
use Rattle.swc_ecma_parser_model.specs.declared.leaves.Number.{Number}
use Rattle.swc_ecma_parser_model.specs.declared.leaves.BigInt.{BigInt}
use Rattle.swc_ecma_parser_model.specs.declared.leaves.PrivateName.{PrivateName}
use Rattle.swc_ecma_parser_model.specs.declared.leaves.Regex.{Regex}
use Rattle.swc_ecma_parser_model.specs.declared.leaves.TplElement.{TplElement}
use Rattle.swc_ecma_parser_ast.specs.declared.expr.ThisExpr.{ThisExpr}
use Rattle.swc_ecma_parser_ast.specs.declared.call.ExprOrSpread.{ExprOrSpread}
use Rattle.swc_ecma_parser_ast.specs.declared.object.ArrayLit.{ArrayLit}
use Rattle.swc_ecma_parser_ast.specs.declared.object.SpreadElement.{SpreadElement}
use Rattle.swc_ecma_parser_ast.specs.declared.object.ComputedPropName.{ComputedPropName}
use Rattle.swc_ecma_parser_ast.specs.declared.object.PropName.{PropName}
use Rattle.swc_ecma_parser_ast.specs.declared.object.PropName.TheVariants as v_prop_name
use Rattle.swc_ecma_parser_ast.specs.declared.object.KeyValueProp.{KeyValueProp}
use Rattle.swc_ecma_parser_ast.specs.declared.object.AssignProp.{AssignProp}
use Rattle.swc_ecma_parser_ast.specs.declared.stmt.BlockStmt.{BlockStmt}
use Rattle.swc_ecma_parser_ast.specs.declared.object.GetterProp.{GetterProp}
use Rattle.swc_ecma_parser_ast.specs.declared.pat.BindingIdent.{BindingIdent}
use Rattle.swc_ecma_parser_ast.specs.declared.pat.ArrayPat.{ArrayPat}
use Rattle.swc_ecma_parser_ast.specs.declared.pat.RestPat.{RestPat}
use Rattle.swc_ecma_parser_ast.specs.declared.pat.KeyValuePatProp.{KeyValuePatProp}
use Rattle.swc_ecma_parser_ast.specs.declared.pat.AssignPatProp.{AssignPatProp}
use Rattle.swc_ecma_parser_ast.specs.declared.pat.ObjectPatProp.{ObjectPatProp}
use Rattle.swc_ecma_parser_ast.specs.declared.pat.ObjectPatProp.TheVariants as v_object_pat_prop
use Rattle.swc_ecma_parser_ast.specs.declared.pat.ObjectPat.{ObjectPat}
use Rattle.swc_ecma_parser_ast.specs.declared.pat.AssignPat.{AssignPat}
use Rattle.swc_ecma_parser_ast.specs.declared.expr.Invalid.{Invalid}
use Rattle.swc_ecma_parser_ast.specs.declared.pat.Pat.{Pat}
use Rattle.swc_ecma_parser_ast.specs.declared.pat.Pat.TheVariants as v_pat
use Rattle.swc_ecma_parser_ast.specs.declared.object.SetterProp.{SetterProp}
use Rattle.swc_ecma_parser_ast.specs.declared.function.Decorator.{Decorator}
use Rattle.swc_ecma_parser_ast.specs.declared.function.Param.{Param}
use Rattle.swc_ecma_parser_ast.specs.declared.function.Function.{Function}
use Rattle.swc_ecma_parser_ast.specs.declared.object.MethodProp.{MethodProp}
use Rattle.swc_ecma_parser_ast.specs.declared.object.Prop.{Prop}
use Rattle.swc_ecma_parser_ast.specs.declared.object.Prop.TheVariants as v_prop
use Rattle.swc_ecma_parser_ast.specs.declared.object.PropOrSpread.{PropOrSpread}
use Rattle.swc_ecma_parser_ast.specs.declared.object.PropOrSpread.TheVariants as v_prop_or_spread
use Rattle.swc_ecma_parser_ast.specs.declared.object.ObjectLit.{ObjectLit}
use Rattle.swc_ecma_parser_ast.specs.declared.function.FnExpr.{FnExpr}
use Rattle.swc_ecma_parser_ast.specs.declared.expr.UnaryExpr.{UnaryExpr}
use Rattle.swc_ecma_parser_ast.specs.declared.expr.UpdateExpr.{UpdateExpr}
use Rattle.swc_ecma_parser_ast.specs.declared.expr.BinExpr.{BinExpr}
use Rattle.swc_ecma_parser_ast.specs.declared.call.MemberProp.{MemberProp}
use Rattle.swc_ecma_parser_ast.specs.declared.call.MemberProp.TheVariants as v_member_prop
use Rattle.swc_ecma_parser_ast.specs.declared.call.MemberExpr.{MemberExpr}
use Rattle.swc_ecma_parser_ast.specs.declared.call.Super.{Super}
use Rattle.swc_ecma_parser_ast.specs.declared.call.SuperProp.{SuperProp}
use Rattle.swc_ecma_parser_ast.specs.declared.call.SuperProp.TheVariants as v_super_prop
use Rattle.swc_ecma_parser_ast.specs.declared.call.SuperPropExpr.{SuperPropExpr}
use Rattle.swc_ecma_parser_ast.specs.declared.expr.ParenExpr.{ParenExpr}
use Rattle.swc_ecma_parser_ast.specs.declared.target.SimpleAssignTarget.{SimpleAssignTarget}
use Rattle.swc_ecma_parser_ast.specs.declared.target.SimpleAssignTarget.TheVariants as v_simple_assign_target
use Rattle.swc_ecma_parser_ast.specs.declared.target.AssignTargetPat.{AssignTargetPat}
use Rattle.swc_ecma_parser_ast.specs.declared.target.AssignTargetPat.TheVariants as v_assign_target_pat
use Rattle.swc_ecma_parser_ast.specs.declared.target.AssignTarget.{AssignTarget}
use Rattle.swc_ecma_parser_ast.specs.declared.target.AssignTarget.TheVariants as v_assign_target
use Rattle.swc_ecma_parser_ast.specs.declared.target.AssignExpr.{AssignExpr}
use Rattle.swc_ecma_parser_ast.specs.declared.expr.CondExpr.{CondExpr}
use Rattle.swc_ecma_parser_ast.specs.declared.call.Import.{Import}
use Rattle.swc_ecma_parser_ast.specs.declared.call.Callee.{Callee}
use Rattle.swc_ecma_parser_ast.specs.declared.call.Callee.TheVariants as v_callee
use Rattle.swc_ecma_parser_ast.specs.declared.call.CallExpr.{CallExpr}
use Rattle.swc_ecma_parser_ast.specs.declared.call.NewExpr.{NewExpr}
use Rattle.swc_ecma_parser_ast.specs.declared.call.OptCall.{OptCall}
use Rattle.swc_ecma_parser_ast.specs.declared.call.OptChainBase.{OptChainBase}
use Rattle.swc_ecma_parser_ast.specs.declared.call.OptChainBase.TheVariants as v_opt_chain_base
use Rattle.swc_ecma_parser_ast.specs.declared.call.OptChainExpr.{OptChainExpr}
use Rattle.swc_ecma_parser_ast.specs.declared.template.Tpl.{Tpl}
use Rattle.swc_ecma_parser_ast.specs.declared.template.TaggedTpl.{TaggedTpl}
use Rattle.swc_ecma_parser_ast.specs.declared.expr.SeqExpr.{SeqExpr}
use Rattle.swc_ecma_parser_ast.specs.declared.expr.Lit.{Lit}
use Rattle.swc_ecma_parser_ast.specs.declared.expr.Lit.TheVariants as v_lit
use Rattle.swc_ecma_parser_ast.specs.declared.function.BlockStmtOrExpr.{BlockStmtOrExpr}
use Rattle.swc_ecma_parser_ast.specs.declared.function.BlockStmtOrExpr.TheVariants as v_block_stmt_or_expr
use Rattle.swc_ecma_parser_ast.specs.declared.function.ArrowExpr.{ArrowExpr}
use Rattle.swc_ecma_parser_ast.specs.declared.class.ParamOrTsParamProp.{ParamOrTsParamProp}
use Rattle.swc_ecma_parser_ast.specs.declared.class.ParamOrTsParamProp.TheVariants as v_param_or_ts_param_prop
use Rattle.swc_ecma_parser_ast.specs.declared.class.Constructor.{Constructor}
use Rattle.swc_ecma_parser_ast.specs.declared.class.ClassMethod.{ClassMethod}
use Rattle.swc_ecma_parser_ast.specs.declared.class.PrivateMethod.{PrivateMethod}
use Rattle.swc_ecma_parser_ast.specs.declared.member.ClassProp.{ClassProp}
use Rattle.swc_ecma_parser_ast.specs.declared.member.PrivateProp.{PrivateProp}
use Rattle.swc_ecma_parser_ast.specs.declared.stmt.EmptyStmt.{EmptyStmt}
use Rattle.swc_ecma_parser_ast.specs.declared.member.StaticBlock.{StaticBlock}
use Rattle.swc_ecma_parser_ast.specs.declared.member.Key.{Key}
use Rattle.swc_ecma_parser_ast.specs.declared.member.Key.TheVariants as v_key
use Rattle.swc_ecma_parser_ast.specs.declared.member.AutoAccessor.{AutoAccessor}
use Rattle.swc_ecma_parser_ast.specs.declared.class.ClassMember.{ClassMember}
use Rattle.swc_ecma_parser_ast.specs.declared.class.ClassMember.TheVariants as v_class_member
use Rattle.swc_ecma_parser_ast.specs.declared.class.Class.{Class}
use Rattle.swc_ecma_parser_ast.specs.declared.class.ClassExpr.{ClassExpr}
use Rattle.swc_ecma_parser_ast.specs.declared.expr.YieldExpr.{YieldExpr}
use Rattle.swc_ecma_parser_ast.specs.declared.expr.MetaPropExpr.{MetaPropExpr}
use Rattle.swc_ecma_parser_ast.specs.declared.expr.AwaitExpr.{AwaitExpr}
use Rattle.swc_ecma_parser_ast.specs.declared.expr.Expr.{Expr}
use Rattle.swc_ecma_parser_ast.specs.declared.expr.Expr.TheVariants as v_expr
use Rattle.swc_ecma_parser_ast.specs.declared.class.ClassDecl.{ClassDecl}
use Rattle.swc_ecma_parser_ast.specs.declared.function.FnDecl.{FnDecl}
use Rattle.swc_ecma_parser_ast.specs.declared.decl.VarDeclarator.{VarDeclarator}
use Rattle.swc_ecma_parser_ast.specs.declared.decl.VarDecl.{VarDecl}
use Rattle.swc_ecma_parser_ast.specs.declared.decl.UsingDecl.{UsingDecl}
use Rattle.swc_ecma_parser_ast.specs.declared.decl.Decl.{Decl}
use Rattle.swc_ecma_parser_ast.specs.declared.decl.Decl.TheVariants as v_decl
use Rattle.swc_ecma_parser_ast.specs.declared.stmt.DebuggerStmt.{DebuggerStmt}
use Rattle.swc_ecma_parser_ast.specs.declared.stmt.WithStmt.{WithStmt}
use Rattle.swc_ecma_parser_ast.specs.declared.stmt.ReturnStmt.{ReturnStmt}
use Rattle.swc_ecma_parser_ast.specs.declared.stmt.LabeledStmt.{LabeledStmt}
use Rattle.swc_ecma_parser_ast.specs.declared.stmt.BreakStmt.{BreakStmt}
use Rattle.swc_ecma_parser_ast.specs.declared.stmt.ContinueStmt.{ContinueStmt}
use Rattle.swc_ecma_parser_ast.specs.declared.branch.IfStmt.{IfStmt}
use Rattle.swc_ecma_parser_ast.specs.declared.branch.SwitchCase.{SwitchCase}
use Rattle.swc_ecma_parser_ast.specs.declared.branch.SwitchStmt.{SwitchStmt}
use Rattle.swc_ecma_parser_ast.specs.declared.branch.ThrowStmt.{ThrowStmt}
use Rattle.swc_ecma_parser_ast.specs.declared.branch.CatchClause.{CatchClause}
use Rattle.swc_ecma_parser_ast.specs.declared.branch.TryStmt.{TryStmt}
use Rattle.swc_ecma_parser_ast.specs.declared.loops.WhileStmt.{WhileStmt}
use Rattle.swc_ecma_parser_ast.specs.declared.loops.DoWhileStmt.{DoWhileStmt}
use Rattle.swc_ecma_parser_ast.specs.declared.loops.VarDeclOrExpr.{VarDeclOrExpr}
use Rattle.swc_ecma_parser_ast.specs.declared.loops.VarDeclOrExpr.TheVariants as v_var_decl_or_expr
use Rattle.swc_ecma_parser_ast.specs.declared.loops.ForStmt.{ForStmt}
use Rattle.swc_ecma_parser_ast.specs.declared.loops.ForHead.{ForHead}
use Rattle.swc_ecma_parser_ast.specs.declared.loops.ForHead.TheVariants as v_for_head
use Rattle.swc_ecma_parser_ast.specs.declared.loops.ForInStmt.{ForInStmt}
use Rattle.swc_ecma_parser_ast.specs.declared.loops.ForOfStmt.{ForOfStmt}
use Rattle.swc_ecma_parser_ast.specs.declared.stmt.ExprStmt.{ExprStmt}
use Rattle.swc_ecma_parser_ast.specs.declared.stmt.Stmt.{Stmt}
use Rattle.swc_ecma_parser_ast.specs.declared.stmt.Stmt.TheVariants as v_stmt
use Rattle.swc_ecma_parser_ast.specs.declared.script.Script.{Script}
use Rattle.swc_ecma_parser_ast.specs.declared.imports.ModuleExportName.{ModuleExportName}
use Rattle.swc_ecma_parser_ast.specs.declared.imports.ModuleExportName.TheVariants as v_module_export_name
use Rattle.swc_ecma_parser_ast.specs.declared.imports.ImportNamedSpecifier.{ImportNamedSpecifier}
use Rattle.swc_ecma_parser_ast.specs.declared.imports.ImportDefaultSpecifier.{ImportDefaultSpecifier}
use Rattle.swc_ecma_parser_ast.specs.declared.imports.ImportStarAsSpecifier.{ImportStarAsSpecifier}
use Rattle.swc_ecma_parser_ast.specs.declared.imports.ImportSpecifier.{ImportSpecifier}
use Rattle.swc_ecma_parser_ast.specs.declared.imports.ImportSpecifier.TheVariants as v_import_specifier
use Rattle.swc_ecma_parser_ast.specs.declared.imports.ImportDecl.{ImportDecl}
use Rattle.swc_ecma_parser_ast.specs.declared.exports.ExportDecl.{ExportDecl}
use Rattle.swc_ecma_parser_ast.specs.declared.exports.ExportNamespaceSpecifier.{ExportNamespaceSpecifier}
use Rattle.swc_ecma_parser_ast.specs.declared.exports.ExportDefaultSpecifier.{ExportDefaultSpecifier}
use Rattle.swc_ecma_parser_ast.specs.declared.exports.ExportNamedSpecifier.{ExportNamedSpecifier}
use Rattle.swc_ecma_parser_ast.specs.declared.exports.ExportSpecifier.{ExportSpecifier}
use Rattle.swc_ecma_parser_ast.specs.declared.exports.ExportSpecifier.TheVariants as v_export_specifier
use Rattle.swc_ecma_parser_ast.specs.declared.exports.NamedExport.{NamedExport}
use Rattle.swc_ecma_parser_ast.specs.declared.exports.DefaultDecl.{DefaultDecl}
use Rattle.swc_ecma_parser_ast.specs.declared.exports.DefaultDecl.TheVariants as v_default_decl
use Rattle.swc_ecma_parser_ast.specs.declared.exports.ExportDefaultDecl.{ExportDefaultDecl}
use Rattle.swc_ecma_parser_ast.specs.declared.exports.ExportDefaultExpr.{ExportDefaultExpr}
use Rattle.swc_ecma_parser_ast.specs.declared.exports.ExportAll.{ExportAll}
use Rattle.swc_ecma_parser_ast.specs.declared.program.ModuleDecl.{ModuleDecl}
use Rattle.swc_ecma_parser_ast.specs.declared.program.ModuleDecl.TheVariants as v_module_decl
use Rattle.swc_ecma_parser_ast.specs.declared.program.ModuleItem.{ModuleItem}
use Rattle.swc_ecma_parser_ast.specs.declared.program.ModuleItem.TheVariants as v_module_item
use Rattle.swc_ecma_parser_ast.specs.declared.program.Module.{Module}
use Rattle.swc_ecma_parser_ast.specs.declared.program.Program.{Program}
use Rattle.swc_ecma_parser_ast.specs.declared.program.Program.TheVariants as v_program

abbrev pub equal_span : Span → Span → Bool
equal_span x y = alike (put_span x) (put_span y)

abbrev pub equal_text : Text → Text → Bool
equal_text x y = alike (put_text x) (put_text y)

abbrev pub equal_ident : Ident → Ident → Bool
equal_ident x y = equal_span x.span y.span && equal_text x.sym y.sym

abbrev pub equal_str : Str → Str → Bool
equal_str x y = equal_span x.span y.span && (equal_text x.value y.value && equal_text x.raw y.raw)

abbrev pub equal_bool : BoolLit → BoolLit → Bool
equal_bool x y = equal_span x.span y.span && alike (put_bool x.value) (put_bool y.value)

abbrev pub equal_null : Null → Null → Bool
equal_null x y = equal_span x.span y.span

abbrev pub equal_number : Number → Number → Bool
equal_number x y = equal_span x.span y.span && equal_text x.raw y.raw

abbrev pub equal_big_int : BigInt → BigInt → Bool
equal_big_int x y = equal_span x.span y.span && equal_text x.raw y.raw

abbrev pub equal_private_name : PrivateName → PrivateName → Bool
equal_private_name x y = equal_span x.span y.span && (equal_span x.id.span y.id.span && equal_text x.id.sym y.id.sym)

abbrev pub equal_regex : Regex → Regex → Bool
equal_regex x y = equal_span x.span y.span && (equal_text x.exp y.exp && equal_text x.flags y.flags)

abbrev pub equal_tpl_element : TplElement → TplElement → Bool
equal_tpl_element x y = equal_span x.span y.span && (alike (put_bool x.tail) (put_bool y.tail) && (alike (put_option x.cooked) (put_option y.cooked) && equal_text x.raw y.raw))

abbrev pub equal_this_expr : ThisExpr → ThisExpr → Bool
equal_this_expr x y = equal_span x.span y.span

abbrev pub equal_binding_ident : BindingIdent → BindingIdent → Bool
equal_binding_ident x y = equal_ident x.id y.id

abbrev pub equal_invalid : Invalid → Invalid → Bool
equal_invalid x y = equal_span x.span y.span

abbrev pub equal_super : Super → Super → Bool
equal_super x y = equal_span x.span y.span

abbrev pub equal_import : Import → Import → Bool
equal_import x y = equal_span x.span y.span

abbrev pub equal_lit : Lit → Lit → Bool
equal_lit (v_lit.Str x) (v_lit.Str y) = equal_str x y
equal_lit (v_lit.Bool x) (v_lit.Bool y) = equal_bool x y
equal_lit (v_lit.Null x) (v_lit.Null y) = equal_null x y
equal_lit (v_lit.Num x) (v_lit.Num y) = equal_number x y
equal_lit (v_lit.BigInt x) (v_lit.BigInt y) = equal_big_int x y
equal_lit (v_lit.Regex x) (v_lit.Regex y) = equal_regex x y
equal_lit _ _ = false

abbrev pub equal_empty_stmt : EmptyStmt → EmptyStmt → Bool
equal_empty_stmt x y = equal_span x.span y.span

abbrev pub equal_meta_prop_expr : MetaPropExpr → MetaPropExpr → Bool
equal_meta_prop_expr x y = equal_span x.span y.span && alike (put_meta x.kind) (put_meta y.kind)

abbrev pub equal_debugger_stmt : DebuggerStmt → DebuggerStmt → Bool
equal_debugger_stmt x y = equal_span x.span y.span

abbrev pub equal_break_stmt : BreakStmt → BreakStmt → Bool
equal_break_stmt x y = equal_span x.span y.span && option_eq equal_ident x.label y.label

abbrev pub equal_continue_stmt : ContinueStmt → ContinueStmt → Bool
equal_continue_stmt x y = equal_span x.span y.span && option_eq equal_ident x.label y.label

abbrev pub equal_module_export_name : ModuleExportName → ModuleExportName → Bool
equal_module_export_name (v_module_export_name.Ident x) (v_module_export_name.Ident y) = equal_ident x y
equal_module_export_name (v_module_export_name.Str x) (v_module_export_name.Str y) = equal_str x y
equal_module_export_name _ _ = false

abbrev pub equal_import_named_specifier : ImportNamedSpecifier → ImportNamedSpecifier → Bool
equal_import_named_specifier x y = equal_span x.span y.span && (equal_ident x.local y.local && option_eq equal_module_export_name x.imported y.imported)

abbrev pub equal_import_default_specifier : ImportDefaultSpecifier → ImportDefaultSpecifier → Bool
equal_import_default_specifier x y = equal_span x.span y.span && equal_ident x.local y.local

abbrev pub equal_import_star_as_specifier : ImportStarAsSpecifier → ImportStarAsSpecifier → Bool
equal_import_star_as_specifier x y = equal_span x.span y.span && equal_ident x.local y.local

abbrev pub equal_import_specifier : ImportSpecifier → ImportSpecifier → Bool
equal_import_specifier (v_import_specifier.Named x) (v_import_specifier.Named y) = equal_import_named_specifier x y
equal_import_specifier (v_import_specifier.Default x) (v_import_specifier.Default y) = equal_import_default_specifier x y
equal_import_specifier (v_import_specifier.Namespace x) (v_import_specifier.Namespace y) = equal_import_star_as_specifier x y
equal_import_specifier _ _ = false

abbrev pub equal_export_namespace_specifier : ExportNamespaceSpecifier → ExportNamespaceSpecifier → Bool
equal_export_namespace_specifier x y = equal_span x.span y.span && equal_module_export_name x.name y.name

abbrev pub equal_export_default_specifier : ExportDefaultSpecifier → ExportDefaultSpecifier → Bool
equal_export_default_specifier x y = equal_ident x.exported y.exported

abbrev pub equal_export_named_specifier : ExportNamedSpecifier → ExportNamedSpecifier → Bool
equal_export_named_specifier x y = equal_span x.span y.span && (equal_module_export_name x.orig y.orig && option_eq equal_module_export_name x.exported y.exported)

abbrev pub equal_export_specifier : ExportSpecifier → ExportSpecifier → Bool
equal_export_specifier (v_export_specifier.Namespace x) (v_export_specifier.Namespace y) = equal_export_namespace_specifier x y
equal_export_specifier (v_export_specifier.Default x) (v_export_specifier.Default y) = equal_export_default_specifier x y
equal_export_specifier (v_export_specifier.Named x) (v_export_specifier.Named y) = equal_export_named_specifier x y
equal_export_specifier _ _ = false

module _ {N : Type 0} (equal : N → N → Bool) where
  abbrev pub equal_expr_or_spread : ExprOrSpread N → ExprOrSpread N → Bool
  equal_expr_or_spread x y = alike (put_dots x.spread) (put_dots y.spread) && equal x.expr.node y.expr.node

  abbrev pub equal_array_lit : ArrayLit N → ArrayLit N → Bool
  equal_array_lit x y = equal_span x.span y.span && pointwise (option_eq equal_expr_or_spread) x.elems.items y.elems.items

  abbrev pub equal_spread_element : SpreadElement N → SpreadElement N → Bool
  equal_spread_element x y = equal_span x.dot3_token y.dot3_token && equal x.expr.node y.expr.node

  abbrev pub equal_computed_prop_name : ComputedPropName N → ComputedPropName N → Bool
  equal_computed_prop_name x y = equal_span x.span y.span && equal x.expr.node y.expr.node

  abbrev pub equal_prop_name : PropName N → PropName N → Bool
  equal_prop_name (v_prop_name.Ident x) (v_prop_name.Ident y) = equal_ident x y
  equal_prop_name (v_prop_name.Str x) (v_prop_name.Str y) = equal_str x y
  equal_prop_name (v_prop_name.Num x) (v_prop_name.Num y) = equal_number x y
  equal_prop_name (v_prop_name.BigInt x) (v_prop_name.BigInt y) = equal_big_int x y
  equal_prop_name (v_prop_name.Computed x) (v_prop_name.Computed y) = equal_computed_prop_name x y
  equal_prop_name _ _ = false

  abbrev pub equal_key_value_prop : KeyValueProp N → KeyValueProp N → Bool
  equal_key_value_prop x y = equal_span x.span y.span && (equal_prop_name x.key y.key && equal x.value.node y.value.node)

  abbrev pub equal_assign_prop : AssignProp N → AssignProp N → Bool
  equal_assign_prop x y = equal_span x.span y.span && (equal_ident x.key y.key && equal x.value.node y.value.node)

  abbrev pub equal_block_stmt : BlockStmt N → BlockStmt N → Bool
  equal_block_stmt x y = equal_span x.span y.span && equal x.stmts.node y.stmts.node

  abbrev pub equal_getter_prop : GetterProp N → GetterProp N → Bool
  equal_getter_prop x y = equal_span x.span y.span && (equal_prop_name x.key y.key && option_eq equal_block_stmt x.body y.body)

  abbrev pub equal_array_pat : ArrayPat N → ArrayPat N → Bool
  equal_array_pat x y = equal_span x.span y.span && pointwise (option_eq (λ a b. equal a.node b.node)) x.elems.items y.elems.items

  abbrev pub equal_rest_pat : RestPat N → RestPat N → Bool
  equal_rest_pat x y = equal_span x.span y.span && equal x.arg.node y.arg.node

  abbrev pub equal_key_value_pat_prop : KeyValuePatProp N → KeyValuePatProp N → Bool
  equal_key_value_pat_prop x y = equal_span x.span y.span && (equal_prop_name x.key y.key && equal x.value.node y.value.node)

  abbrev pub equal_assign_pat_prop : AssignPatProp N → AssignPatProp N → Bool
  equal_assign_pat_prop x y = equal_span x.span y.span && (equal_binding_ident x.key y.key && option_eq (λ a b. equal a.node b.node) x.value y.value)

  abbrev pub equal_object_pat_prop : ObjectPatProp N → ObjectPatProp N → Bool
  equal_object_pat_prop (v_object_pat_prop.KeyValue x) (v_object_pat_prop.KeyValue y) = equal_key_value_pat_prop x y
  equal_object_pat_prop (v_object_pat_prop.Assign x) (v_object_pat_prop.Assign y) = equal_assign_pat_prop x y
  equal_object_pat_prop (v_object_pat_prop.Rest x) (v_object_pat_prop.Rest y) = equal_rest_pat x y
  equal_object_pat_prop _ _ = false

  abbrev pub equal_object_pat : ObjectPat N → ObjectPat N → Bool
  equal_object_pat x y = equal_span x.span y.span && pointwise equal_object_pat_prop x.props.items y.props.items

  abbrev pub equal_assign_pat : AssignPat N → AssignPat N → Bool
  equal_assign_pat x y = equal_span x.span y.span && (equal x.left.node y.left.node && equal x.right.node y.right.node)

  abbrev pub equal_pat : Pat N → Pat N → Bool
  equal_pat (v_pat.Ident x) (v_pat.Ident y) = equal_binding_ident x y
  equal_pat (v_pat.Array x) (v_pat.Array y) = equal_array_pat x y
  equal_pat (v_pat.Rest x) (v_pat.Rest y) = equal_rest_pat x y
  equal_pat (v_pat.Object x) (v_pat.Object y) = equal_object_pat x y
  equal_pat (v_pat.Assign x) (v_pat.Assign y) = equal_assign_pat x y
  equal_pat (v_pat.Invalid x) (v_pat.Invalid y) = equal_invalid x y
  equal_pat (v_pat.Expr x) (v_pat.Expr y) = equal x.node y.node
  equal_pat _ _ = false

  abbrev pub equal_setter_prop : SetterProp N → SetterProp N → Bool
  equal_setter_prop x y = equal_span x.span y.span && (equal_prop_name x.key y.key && (equal_pat x.param y.param && option_eq equal_block_stmt x.body y.body))

  abbrev pub equal_decorator : Decorator N → Decorator N → Bool
  equal_decorator x y = equal_span x.span y.span && equal x.expr.node y.expr.node

  abbrev pub equal_param : Param N → Param N → Bool
  equal_param x y = equal_span x.span y.span && (pointwise equal_decorator x.decorators.items y.decorators.items && equal_pat x.pat y.pat)

  abbrev pub equal_function : Function N → Function N → Bool
  equal_function x y = equal_span x.span y.span && (pointwise equal_decorator x.decorators.items y.decorators.items && (pointwise equal_param x.params.items y.params.items && (option_eq equal_block_stmt x.body y.body && (alike (put_bool x.is_async) (put_bool y.is_async) && alike (put_bool x.is_generator) (put_bool y.is_generator)))))

  abbrev pub equal_method_prop : MethodProp N → MethodProp N → Bool
  equal_method_prop x y = equal_span x.span y.span && (equal_prop_name x.key y.key && equal_function x.function.value y.function.value)

  abbrev pub equal_prop : Prop N → Prop N → Bool
  equal_prop (v_prop.Shorthand x) (v_prop.Shorthand y) = equal_ident x y
  equal_prop (v_prop.KeyValue x) (v_prop.KeyValue y) = equal_key_value_prop x y
  equal_prop (v_prop.Assign x) (v_prop.Assign y) = equal_assign_prop x y
  equal_prop (v_prop.Getter x) (v_prop.Getter y) = equal_getter_prop x y
  equal_prop (v_prop.Setter x) (v_prop.Setter y) = equal_setter_prop x y
  equal_prop (v_prop.Method x) (v_prop.Method y) = equal_method_prop x y
  equal_prop _ _ = false

  abbrev pub equal_prop_or_spread : PropOrSpread N → PropOrSpread N → Bool
  equal_prop_or_spread (v_prop_or_spread.Spread x) (v_prop_or_spread.Spread y) = equal_spread_element x y
  equal_prop_or_spread (v_prop_or_spread.Prop x) (v_prop_or_spread.Prop y) = equal_prop x.value y.value
  equal_prop_or_spread _ _ = false

  abbrev pub equal_object_lit : ObjectLit N → ObjectLit N → Bool
  equal_object_lit x y = equal_span x.span y.span && pointwise equal_prop_or_spread x.props.items y.props.items

  abbrev pub equal_fn_expr : FnExpr N → FnExpr N → Bool
  equal_fn_expr x y = equal_span x.span y.span && (option_eq equal_ident x.ident y.ident && equal_function x.function.value y.function.value)

  abbrev pub equal_unary_expr : UnaryExpr N → UnaryExpr N → Bool
  equal_unary_expr x y = equal_span x.span y.span && (alike (put_unary x.op) (put_unary y.op) && equal x.arg.node y.arg.node)

  abbrev pub equal_update_expr : UpdateExpr N → UpdateExpr N → Bool
  equal_update_expr x y = equal_span x.span y.span && (alike (put_update x.op) (put_update y.op) && (alike (put_bool x.prefix) (put_bool y.prefix) && equal x.arg.node y.arg.node))

  abbrev pub equal_bin_expr : BinExpr N → BinExpr N → Bool
  equal_bin_expr x y = equal_span x.span y.span && (alike (put_binary x.op) (put_binary y.op) && (equal x.left.node y.left.node && equal x.right.node y.right.node))

  abbrev pub equal_member_prop : MemberProp N → MemberProp N → Bool
  equal_member_prop (v_member_prop.Ident x) (v_member_prop.Ident y) = equal_ident x y
  equal_member_prop (v_member_prop.PrivateName x) (v_member_prop.PrivateName y) = equal_private_name x y
  equal_member_prop (v_member_prop.Computed x) (v_member_prop.Computed y) = equal_computed_prop_name x y
  equal_member_prop _ _ = false

  abbrev pub equal_member_expr : MemberExpr N → MemberExpr N → Bool
  equal_member_expr x y = equal_span x.span y.span && (equal x.obj.node y.obj.node && equal_member_prop x.prop y.prop)

  abbrev pub equal_super_prop : SuperProp N → SuperProp N → Bool
  equal_super_prop (v_super_prop.Ident x) (v_super_prop.Ident y) = equal_ident x y
  equal_super_prop (v_super_prop.Computed x) (v_super_prop.Computed y) = equal_computed_prop_name x y
  equal_super_prop _ _ = false

  abbrev pub equal_super_prop_expr : SuperPropExpr N → SuperPropExpr N → Bool
  equal_super_prop_expr x y = equal_span x.span y.span && (equal_super x.obj y.obj && equal_super_prop x.prop y.prop)

  abbrev pub equal_paren_expr : ParenExpr N → ParenExpr N → Bool
  equal_paren_expr x y = equal_span x.span y.span && equal x.expr.node y.expr.node

  abbrev pub equal_simple_assign_target : SimpleAssignTarget N → SimpleAssignTarget N → Bool
  equal_simple_assign_target (v_simple_assign_target.Ident x) (v_simple_assign_target.Ident y) = equal_binding_ident x y
  equal_simple_assign_target (v_simple_assign_target.Member x) (v_simple_assign_target.Member y) = equal_member_expr x y
  equal_simple_assign_target (v_simple_assign_target.SuperProp x) (v_simple_assign_target.SuperProp y) = equal_super_prop_expr x y
  equal_simple_assign_target (v_simple_assign_target.Paren x) (v_simple_assign_target.Paren y) = equal_paren_expr x y
  equal_simple_assign_target _ _ = false

  abbrev pub equal_assign_target_pat : AssignTargetPat N → AssignTargetPat N → Bool
  equal_assign_target_pat (v_assign_target_pat.Array x) (v_assign_target_pat.Array y) = equal_array_pat x y
  equal_assign_target_pat (v_assign_target_pat.Object x) (v_assign_target_pat.Object y) = equal_object_pat x y
  equal_assign_target_pat _ _ = false

  abbrev pub equal_assign_target : AssignTarget N → AssignTarget N → Bool
  equal_assign_target (v_assign_target.Simple x) (v_assign_target.Simple y) = equal_simple_assign_target x y
  equal_assign_target (v_assign_target.Pat x) (v_assign_target.Pat y) = equal_assign_target_pat x y
  equal_assign_target _ _ = false

  abbrev pub equal_assign_expr : AssignExpr N → AssignExpr N → Bool
  equal_assign_expr x y = equal_span x.span y.span && (alike (put_assign x.op) (put_assign y.op) && (equal_assign_target x.left.value y.left.value && equal x.right.node y.right.node))

  abbrev pub equal_cond_expr : CondExpr N → CondExpr N → Bool
  equal_cond_expr x y = equal_span x.span y.span && (equal x.test.node y.test.node && (equal x.cons.node y.cons.node && equal x.alt.node y.alt.node))

  abbrev pub equal_callee : Callee N → Callee N → Bool
  equal_callee (v_callee.Super x) (v_callee.Super y) = equal_super x y
  equal_callee (v_callee.Import x) (v_callee.Import y) = equal_import x y
  equal_callee (v_callee.Expr x) (v_callee.Expr y) = equal x.node y.node
  equal_callee _ _ = false

  abbrev pub equal_call_expr : CallExpr N → CallExpr N → Bool
  equal_call_expr x y = equal_span x.span y.span && (equal_callee x.callee y.callee && pointwise equal_expr_or_spread x.args.items y.args.items)

  abbrev pub equal_new_expr : NewExpr N → NewExpr N → Bool
  equal_new_expr x y = equal_span x.span y.span && (equal x.callee.node y.callee.node && option_eq (λ v w. pointwise equal_expr_or_spread v.items w.items) x.args y.args)

  abbrev pub equal_opt_call : OptCall N → OptCall N → Bool
  equal_opt_call x y = equal_span x.span y.span && (equal x.callee.node y.callee.node && pointwise equal_expr_or_spread x.args.items y.args.items)

  abbrev pub equal_opt_chain_base : OptChainBase N → OptChainBase N → Bool
  equal_opt_chain_base (v_opt_chain_base.Member x) (v_opt_chain_base.Member y) = equal_member_expr x y
  equal_opt_chain_base (v_opt_chain_base.Call x) (v_opt_chain_base.Call y) = equal_opt_call x y
  equal_opt_chain_base _ _ = false

  abbrev pub equal_opt_chain_expr : OptChainExpr N → OptChainExpr N → Bool
  equal_opt_chain_expr x y = equal_span x.span y.span && (alike (put_bool x.optional) (put_bool y.optional) && equal_opt_chain_base x.base.value y.base.value)

  abbrev pub equal_tpl : Tpl N → Tpl N → Bool
  equal_tpl x y = equal_span x.span y.span && (pointwise (λ a b. equal a.node b.node) x.exprs.items y.exprs.items && pointwise equal_tpl_element x.quasis.items y.quasis.items)

  abbrev pub equal_tagged_tpl : TaggedTpl N → TaggedTpl N → Bool
  equal_tagged_tpl x y = equal_span x.span y.span && (equal x.tag.node y.tag.node && equal_tpl x.tpl.value y.tpl.value)

  abbrev pub equal_seq_expr : SeqExpr N → SeqExpr N → Bool
  equal_seq_expr x y = equal_span x.span y.span && pointwise (λ a b. equal a.node b.node) x.exprs.items y.exprs.items

  abbrev pub equal_block_stmt_or_expr : BlockStmtOrExpr N → BlockStmtOrExpr N → Bool
  equal_block_stmt_or_expr (v_block_stmt_or_expr.BlockStmt x) (v_block_stmt_or_expr.BlockStmt y) = equal_block_stmt x y
  equal_block_stmt_or_expr (v_block_stmt_or_expr.Expr x) (v_block_stmt_or_expr.Expr y) = equal x.node y.node
  equal_block_stmt_or_expr _ _ = false

  abbrev pub equal_arrow_expr : ArrowExpr N → ArrowExpr N → Bool
  equal_arrow_expr x y = equal_span x.span y.span && (pointwise equal_pat x.params.items y.params.items && (equal_block_stmt_or_expr x.body y.body && alike (put_bool x.is_async) (put_bool y.is_async)))

  abbrev pub equal_param_or_ts_param_prop : ParamOrTsParamProp N → ParamOrTsParamProp N → Bool
  equal_param_or_ts_param_prop (v_param_or_ts_param_prop.Param x) (v_param_or_ts_param_prop.Param y) = equal_param x y

  abbrev pub equal_constructor : Constructor N → Constructor N → Bool
  equal_constructor x y = equal_span x.span y.span && (equal_prop_name x.key y.key && (pointwise equal_param_or_ts_param_prop x.params.items y.params.items && option_eq equal_block_stmt x.body y.body))

  abbrev pub equal_class_method : ClassMethod N → ClassMethod N → Bool
  equal_class_method x y = equal_span x.span y.span && (equal_prop_name x.key y.key && (equal_function x.function.value y.function.value && (alike (put_method x.kind) (put_method y.kind) && alike (put_bool x.is_static) (put_bool y.is_static))))

  abbrev pub equal_private_method : PrivateMethod N → PrivateMethod N → Bool
  equal_private_method x y = equal_span x.span y.span && (equal_private_name x.key y.key && (equal_function x.function.value y.function.value && (alike (put_method x.kind) (put_method y.kind) && alike (put_bool x.is_static) (put_bool y.is_static))))

  abbrev pub equal_class_prop : ClassProp N → ClassProp N → Bool
  equal_class_prop x y = equal_span x.span y.span && (equal_prop_name x.key y.key && (option_eq (λ a b. equal a.node b.node) x.value y.value && (alike (put_bool x.is_static) (put_bool y.is_static) && pointwise equal_decorator x.decorators.items y.decorators.items)))

  abbrev pub equal_private_prop : PrivateProp N → PrivateProp N → Bool
  equal_private_prop x y = equal_span x.span y.span && (equal_private_name x.key y.key && (option_eq (λ a b. equal a.node b.node) x.value y.value && (alike (put_bool x.is_static) (put_bool y.is_static) && pointwise equal_decorator x.decorators.items y.decorators.items)))

  abbrev pub equal_static_block : StaticBlock N → StaticBlock N → Bool
  equal_static_block x y = equal_span x.span y.span && equal_block_stmt x.body y.body

  abbrev pub equal_key : Key N → Key N → Bool
  equal_key (v_key.Private x) (v_key.Private y) = equal_private_name x y
  equal_key (v_key.Public x) (v_key.Public y) = equal_prop_name x y
  equal_key _ _ = false

  abbrev pub equal_auto_accessor : AutoAccessor N → AutoAccessor N → Bool
  equal_auto_accessor x y = equal_span x.span y.span && (equal_key x.key y.key && (option_eq (λ a b. equal a.node b.node) x.value y.value && (alike (put_bool x.is_static) (put_bool y.is_static) && pointwise equal_decorator x.decorators.items y.decorators.items)))

  abbrev pub equal_class_member : ClassMember N → ClassMember N → Bool
  equal_class_member (v_class_member.Constructor x) (v_class_member.Constructor y) = equal_constructor x.value y.value
  equal_class_member (v_class_member.Method x) (v_class_member.Method y) = equal_class_method x.value y.value
  equal_class_member (v_class_member.PrivateMethod x) (v_class_member.PrivateMethod y) = equal_private_method x.value y.value
  equal_class_member (v_class_member.ClassProp x) (v_class_member.ClassProp y) = equal_class_prop x.value y.value
  equal_class_member (v_class_member.PrivateProp x) (v_class_member.PrivateProp y) = equal_private_prop x.value y.value
  equal_class_member (v_class_member.Empty x) (v_class_member.Empty y) = equal_empty_stmt x y
  equal_class_member (v_class_member.StaticBlock x) (v_class_member.StaticBlock y) = equal_static_block x y
  equal_class_member (v_class_member.AutoAccessor x) (v_class_member.AutoAccessor y) = equal_auto_accessor x.value y.value
  equal_class_member _ _ = false

  abbrev pub equal_class : Class N → Class N → Bool
  equal_class x y = equal_span x.span y.span && (pointwise equal_decorator x.decorators.items y.decorators.items && (pointwise equal_class_member x.body.items y.body.items && option_eq (λ a b. equal a.node b.node) x.super_class y.super_class))

  abbrev pub equal_class_expr : ClassExpr N → ClassExpr N → Bool
  equal_class_expr x y = equal_span x.span y.span && (option_eq equal_ident x.ident y.ident && equal_class x.class.value y.class.value)

  abbrev pub equal_yield_expr : YieldExpr N → YieldExpr N → Bool
  equal_yield_expr x y = equal_span x.span y.span && (option_eq (λ a b. equal a.node b.node) x.arg y.arg && alike (put_bool x.delegate) (put_bool y.delegate))

  abbrev pub equal_await_expr : AwaitExpr N → AwaitExpr N → Bool
  equal_await_expr x y = equal_span x.span y.span && equal x.arg.node y.arg.node

  abbrev pub equal_expr : Expr N → Expr N → Bool
  equal_expr (v_expr.This x) (v_expr.This y) = equal_this_expr x y
  equal_expr (v_expr.Array x) (v_expr.Array y) = equal_array_lit x y
  equal_expr (v_expr.Object x) (v_expr.Object y) = equal_object_lit x y
  equal_expr (v_expr.Fn x) (v_expr.Fn y) = equal_fn_expr x y
  equal_expr (v_expr.Unary x) (v_expr.Unary y) = equal_unary_expr x y
  equal_expr (v_expr.Update x) (v_expr.Update y) = equal_update_expr x y
  equal_expr (v_expr.Bin x) (v_expr.Bin y) = equal_bin_expr x y
  equal_expr (v_expr.Assign x) (v_expr.Assign y) = equal_assign_expr x y
  equal_expr (v_expr.Member x) (v_expr.Member y) = equal_member_expr x y
  equal_expr (v_expr.SuperProp x) (v_expr.SuperProp y) = equal_super_prop_expr x y
  equal_expr (v_expr.Cond x) (v_expr.Cond y) = equal_cond_expr x y
  equal_expr (v_expr.Call x) (v_expr.Call y) = equal_call_expr x y
  equal_expr (v_expr.New x) (v_expr.New y) = equal_new_expr x y
  equal_expr (v_expr.Seq x) (v_expr.Seq y) = equal_seq_expr x y
  equal_expr (v_expr.Ident x) (v_expr.Ident y) = equal_ident x y
  equal_expr (v_expr.Lit x) (v_expr.Lit y) = equal_lit x y
  equal_expr (v_expr.Arrow x) (v_expr.Arrow y) = equal_arrow_expr x y
  equal_expr (v_expr.Class x) (v_expr.Class y) = equal_class_expr x y
  equal_expr (v_expr.Yield x) (v_expr.Yield y) = equal_yield_expr x y
  equal_expr (v_expr.MetaProp x) (v_expr.MetaProp y) = equal_meta_prop_expr x y
  equal_expr (v_expr.Await x) (v_expr.Await y) = equal_await_expr x y
  equal_expr (v_expr.Paren x) (v_expr.Paren y) = equal_paren_expr x y
  equal_expr (v_expr.Tpl x) (v_expr.Tpl y) = equal_tpl x y
  equal_expr (v_expr.TaggedTpl x) (v_expr.TaggedTpl y) = equal_tagged_tpl x y
  equal_expr (v_expr.OptChain x) (v_expr.OptChain y) = equal_opt_chain_expr x y
  equal_expr (v_expr.PrivateName x) (v_expr.PrivateName y) = equal_private_name x y
  equal_expr (v_expr.Invalid x) (v_expr.Invalid y) = equal_invalid x y
  equal_expr _ _ = false

  abbrev pub equal_class_decl : ClassDecl N → ClassDecl N → Bool
  equal_class_decl x y = equal_ident x.ident y.ident && equal_class x.class.value y.class.value

  abbrev pub equal_fn_decl : FnDecl N → FnDecl N → Bool
  equal_fn_decl x y = equal_ident x.ident y.ident && equal_function x.function.value y.function.value

  abbrev pub equal_declarator : VarDeclarator N → VarDeclarator N → Bool
  equal_declarator x y = equal_span x.span y.span && (equal_pat x.name y.name && option_eq (λ a b. equal a.node b.node) x.init y.init)

  abbrev pub equal_var_decl : VarDecl N → VarDecl N → Bool
  equal_var_decl x y = equal_span x.span y.span && (alike (put_kind x.kind) (put_kind y.kind) && pointwise equal_declarator x.decls.items y.decls.items)

  abbrev pub equal_using_decl : UsingDecl N → UsingDecl N → Bool
  equal_using_decl x y = equal_span x.span y.span && (alike (put_bool x.is_await) (put_bool y.is_await) && pointwise equal_declarator x.decls.items y.decls.items)

  abbrev pub equal_decl : Decl N → Decl N → Bool
  equal_decl (v_decl.Class x) (v_decl.Class y) = equal_class_decl x y
  equal_decl (v_decl.Fn x) (v_decl.Fn y) = equal_fn_decl x y
  equal_decl (v_decl.Var x) (v_decl.Var y) = equal_var_decl x y
  equal_decl (v_decl.Using x) (v_decl.Using y) = equal_using_decl x y
  equal_decl _ _ = false

  abbrev pub equal_with_stmt : WithStmt N → WithStmt N → Bool
  equal_with_stmt x y = equal_span x.span y.span && (equal x.obj.node y.obj.node && equal x.body.node y.body.node)

  abbrev pub equal_return_stmt : ReturnStmt N → ReturnStmt N → Bool
  equal_return_stmt x y = equal_span x.span y.span && option_eq (λ a b. equal a.node b.node) x.arg y.arg

  abbrev pub equal_labeled_stmt : LabeledStmt N → LabeledStmt N → Bool
  equal_labeled_stmt x y = equal_span x.span y.span && (equal_ident x.label y.label && equal x.body.node y.body.node)

  abbrev pub equal_if_stmt : IfStmt N → IfStmt N → Bool
  equal_if_stmt x y = equal_span x.span y.span && (equal x.test.node y.test.node && (equal x.cons.node y.cons.node && option_eq (λ a b. equal a.node b.node) x.alt y.alt))

  abbrev pub equal_switch_case : SwitchCase N → SwitchCase N → Bool
  equal_switch_case x y = equal_span x.span y.span && (option_eq (λ a b. equal a.node b.node) x.test y.test && equal x.cons.node y.cons.node)

  abbrev pub equal_switch_stmt : SwitchStmt N → SwitchStmt N → Bool
  equal_switch_stmt x y = equal_span x.span y.span && (equal x.discriminant.node y.discriminant.node && pointwise equal_switch_case x.cases.items y.cases.items)

  abbrev pub equal_throw_stmt : ThrowStmt N → ThrowStmt N → Bool
  equal_throw_stmt x y = equal_span x.span y.span && equal x.arg.node y.arg.node

  abbrev pub equal_catch_clause : CatchClause N → CatchClause N → Bool
  equal_catch_clause x y = equal_span x.span y.span && (option_eq equal_pat x.param y.param && equal_block_stmt x.body y.body)

  abbrev pub equal_try_stmt : TryStmt N → TryStmt N → Bool
  equal_try_stmt x y = equal_span x.span y.span && (equal_block_stmt x.block y.block && (option_eq equal_catch_clause x.handler y.handler && option_eq equal_block_stmt x.finalizer y.finalizer))

  abbrev pub equal_while_stmt : WhileStmt N → WhileStmt N → Bool
  equal_while_stmt x y = equal_span x.span y.span && (equal x.test.node y.test.node && equal x.body.node y.body.node)

  abbrev pub equal_do_while_stmt : DoWhileStmt N → DoWhileStmt N → Bool
  equal_do_while_stmt x y = equal_span x.span y.span && (equal x.test.node y.test.node && equal x.body.node y.body.node)

  abbrev pub equal_var_decl_or_expr : VarDeclOrExpr N → VarDeclOrExpr N → Bool
  equal_var_decl_or_expr (v_var_decl_or_expr.VarDecl x) (v_var_decl_or_expr.VarDecl y) = equal_var_decl x y
  equal_var_decl_or_expr (v_var_decl_or_expr.Expr x) (v_var_decl_or_expr.Expr y) = equal x.node y.node
  equal_var_decl_or_expr _ _ = false

  abbrev pub equal_for_stmt : ForStmt N → ForStmt N → Bool
  equal_for_stmt x y = equal_span x.span y.span && (option_eq equal_var_decl_or_expr x.init y.init && (option_eq (λ a b. equal a.node b.node) x.test y.test && (option_eq (λ a b. equal a.node b.node) x.update y.update && equal x.body.node y.body.node)))

  abbrev pub equal_for_head : ForHead N → ForHead N → Bool
  equal_for_head (v_for_head.VarDecl x) (v_for_head.VarDecl y) = equal_var_decl x y
  equal_for_head (v_for_head.UsingDecl x) (v_for_head.UsingDecl y) = equal_using_decl x y
  equal_for_head (v_for_head.Pat x) (v_for_head.Pat y) = equal_pat x y
  equal_for_head _ _ = false

  abbrev pub equal_for_in_stmt : ForInStmt N → ForInStmt N → Bool
  equal_for_in_stmt x y = equal_span x.span y.span && (equal_for_head x.left y.left && (equal x.right.node y.right.node && equal x.body.node y.body.node))

  abbrev pub equal_for_of_stmt : ForOfStmt N → ForOfStmt N → Bool
  equal_for_of_stmt x y = equal_span x.span y.span && (alike (put_bool x.is_await) (put_bool y.is_await) && (equal_for_head x.left y.left && (equal x.right.node y.right.node && equal x.body.node y.body.node)))

  abbrev pub equal_expr_stmt : ExprStmt N → ExprStmt N → Bool
  equal_expr_stmt x y = equal_span x.span y.span && equal x.expr.node y.expr.node

  abbrev pub equal_stmt : Stmt N → Stmt N → Bool
  equal_stmt (v_stmt.Block x) (v_stmt.Block y) = equal_block_stmt x y
  equal_stmt (v_stmt.Empty x) (v_stmt.Empty y) = equal_empty_stmt x y
  equal_stmt (v_stmt.Debugger x) (v_stmt.Debugger y) = equal_debugger_stmt x y
  equal_stmt (v_stmt.With x) (v_stmt.With y) = equal_with_stmt x y
  equal_stmt (v_stmt.Return x) (v_stmt.Return y) = equal_return_stmt x y
  equal_stmt (v_stmt.Labeled x) (v_stmt.Labeled y) = equal_labeled_stmt x y
  equal_stmt (v_stmt.Break x) (v_stmt.Break y) = equal_break_stmt x y
  equal_stmt (v_stmt.Continue x) (v_stmt.Continue y) = equal_continue_stmt x y
  equal_stmt (v_stmt.If x) (v_stmt.If y) = equal_if_stmt x y
  equal_stmt (v_stmt.Switch x) (v_stmt.Switch y) = equal_switch_stmt x y
  equal_stmt (v_stmt.Throw x) (v_stmt.Throw y) = equal_throw_stmt x y
  equal_stmt (v_stmt.Try x) (v_stmt.Try y) = equal_try_stmt x.value y.value
  equal_stmt (v_stmt.While x) (v_stmt.While y) = equal_while_stmt x y
  equal_stmt (v_stmt.DoWhile x) (v_stmt.DoWhile y) = equal_do_while_stmt x y
  equal_stmt (v_stmt.For x) (v_stmt.For y) = equal_for_stmt x.value y.value
  equal_stmt (v_stmt.ForIn x) (v_stmt.ForIn y) = equal_for_in_stmt x.value y.value
  equal_stmt (v_stmt.ForOf x) (v_stmt.ForOf y) = equal_for_of_stmt x.value y.value
  equal_stmt (v_stmt.Decl x) (v_stmt.Decl y) = equal_decl x y
  equal_stmt (v_stmt.Expr x) (v_stmt.Expr y) = equal_expr_stmt x y
  equal_stmt _ _ = false

  abbrev pub equal_script : Script N → Script N → Bool
  equal_script x y = equal_span x.span y.span && (pointwise equal_stmt x.body.items y.body.items && alike (put_option x.shebang) (put_option y.shebang))

  abbrev pub equal_import_decl : ImportDecl N → ImportDecl N → Bool
  equal_import_decl x y = equal_span x.span y.span && (pointwise equal_import_specifier x.specifiers.items y.specifiers.items && (equal_str x.src y.src && (option_eq equal_object_lit x.with y.with && alike (put_phase x.phase) (put_phase y.phase))))

  abbrev pub equal_export_decl : ExportDecl N → ExportDecl N → Bool
  equal_export_decl x y = equal_span x.span y.span && equal_decl x.decl y.decl

  abbrev pub equal_named_export : NamedExport N → NamedExport N → Bool
  equal_named_export x y = equal_span x.span y.span && (pointwise equal_export_specifier x.specifiers.items y.specifiers.items && (option_eq equal_str x.src y.src && option_eq equal_object_lit x.with y.with))

  abbrev pub equal_default_decl : DefaultDecl N → DefaultDecl N → Bool
  equal_default_decl (v_default_decl.Class x) (v_default_decl.Class y) = equal_class_expr x y
  equal_default_decl (v_default_decl.Fn x) (v_default_decl.Fn y) = equal_fn_expr x y
  equal_default_decl _ _ = false

  abbrev pub equal_export_default_decl : ExportDefaultDecl N → ExportDefaultDecl N → Bool
  equal_export_default_decl x y = equal_span x.span y.span && equal_default_decl x.decl y.decl

  abbrev pub equal_export_default_expr : ExportDefaultExpr N → ExportDefaultExpr N → Bool
  equal_export_default_expr x y = equal_span x.span y.span && equal x.expr.node y.expr.node

  abbrev pub equal_export_all : ExportAll N → ExportAll N → Bool
  equal_export_all x y = equal_span x.span y.span && (equal_str x.src y.src && option_eq equal_object_lit x.with y.with)

  abbrev pub equal_module_decl : ModuleDecl N → ModuleDecl N → Bool
  equal_module_decl (v_module_decl.Import x) (v_module_decl.Import y) = equal_import_decl x y
  equal_module_decl (v_module_decl.ExportDecl x) (v_module_decl.ExportDecl y) = equal_export_decl x y
  equal_module_decl (v_module_decl.ExportNamed x) (v_module_decl.ExportNamed y) = equal_named_export x y
  equal_module_decl (v_module_decl.ExportDefaultDecl x) (v_module_decl.ExportDefaultDecl y) = equal_export_default_decl x y
  equal_module_decl (v_module_decl.ExportDefaultExpr x) (v_module_decl.ExportDefaultExpr y) = equal_export_default_expr x y
  equal_module_decl (v_module_decl.ExportAll x) (v_module_decl.ExportAll y) = equal_export_all x y
  equal_module_decl _ _ = false

  abbrev pub equal_module_item : ModuleItem N → ModuleItem N → Bool
  equal_module_item (v_module_item.ModuleDecl x) (v_module_item.ModuleDecl y) = equal_module_decl x y
  equal_module_item (v_module_item.Stmt x) (v_module_item.Stmt y) = equal_stmt x y
  equal_module_item _ _ = false

  abbrev pub equal_module : Module N → Module N → Bool
  equal_module x y = equal_span x.span y.span && (pointwise equal_module_item x.body.items y.body.items && alike (put_option x.shebang) (put_option y.shebang))

  abbrev pub equal_program : Program N → Program N → Bool
  equal_program (v_program.Module x) (v_program.Module y) = equal_module x y
  equal_program (v_program.Script x) (v_program.Script y) = equal_script x y
  equal_program _ _ = false

  abbrev pub equal_stmts : List (Stmt N) → List (Stmt N) → Bool
  equal_stmts = pointwise equal_stmt
