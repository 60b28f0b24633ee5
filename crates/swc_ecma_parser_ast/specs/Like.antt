-- Whether two values of a type are alike, given a comparison of spans and one of nodes: the other parts are compared by their codes.
use Rattle.std.specs.Prelude.{List, Bool, true, false, ◌&&◌}
use Rattle.std.specs.Option.{option_eq}
use Rattle.std.specs.Cmp.Lexicographic.{pointwise}
use Rattle.swc_ecma_parser_common.specs.declared.span.Span.{Span}
use Rattle.swc_ecma_parser_model.specs.Tree.{Text}
use Rattle.swc_ecma_parser_model.specs.Leaf.{put_assign, put_binary, put_bool, put_kind, put_meta, put_method, put_phase, put_text, put_unary, put_update}
use Rattle.swc_ecma_parser_model.specs.Same.{alike}
use Rattle.swc_ecma_parser_model.specs.declared.leaves.Ident.{Ident}
use Rattle.swc_ecma_parser_model.specs.declared.leaves.Str.{Str}
use Rattle.swc_ecma_parser_model.specs.declared.leaves.Bool.{Bool as BoolLit}
use Rattle.swc_ecma_parser_model.specs.declared.leaves.Null.{Null}
use Rattle.swc_ecma_parser_model.specs.declared.leaves.Number.{Number}
use Rattle.swc_ecma_parser_model.specs.declared.leaves.BigInt.{BigInt}
use Rattle.swc_ecma_parser_model.specs.declared.leaves.PrivateName.{PrivateName}
use Rattle.swc_ecma_parser_model.specs.declared.leaves.Regex.{Regex}
use Rattle.swc_ecma_parser_model.specs.declared.leaves.TplElement.{TplElement}
use Rattle.swc_ecma_parser_ast.specs.declared.expr.ThisExpr.{ThisExpr}
use Rattle.swc_ecma_parser_ast.specs.declared.call.ExprOrSpread.{ExprOrSpread}
use Rattle.swc_ecma_parser_ast.specs.declared.object.ArrayLit.{ArrayLit}
use Rattle.swc_ecma_parser_ast.specs.declared.object.SpreadElement.{SpreadElement}
use Rattle.swc_ecma_parser_ast.specs.declared.object.ComputedPropName.{ComputedPropName}
use Rattle.swc_ecma_parser_ast.specs.declared.object.PropName.{PropName}
use Rattle.swc_ecma_parser_ast.specs.declared.object.PropName.TheVariants as v_prop_name
use Rattle.swc_ecma_parser_ast.specs.declared.object.KeyValueProp.{KeyValueProp}
use Rattle.swc_ecma_parser_ast.specs.declared.object.AssignProp.{AssignProp}
use Rattle.swc_ecma_parser_ast.specs.declared.stmt.BlockStmt.{BlockStmt}
use Rattle.swc_ecma_parser_ast.specs.declared.object.GetterProp.{GetterProp}
use Rattle.swc_ecma_parser_ast.specs.declared.pat.BindingIdent.{BindingIdent}
use Rattle.swc_ecma_parser_ast.specs.declared.pat.ArrayPat.{ArrayPat}
use Rattle.swc_ecma_parser_ast.specs.declared.pat.RestPat.{RestPat}
use Rattle.swc_ecma_parser_ast.specs.declared.pat.KeyValuePatProp.{KeyValuePatProp}
use Rattle.swc_ecma_parser_ast.specs.declared.pat.AssignPatProp.{AssignPatProp}
use Rattle.swc_ecma_parser_ast.specs.declared.pat.ObjectPatProp.{ObjectPatProp}
use Rattle.swc_ecma_parser_ast.specs.declared.pat.ObjectPatProp.TheVariants as v_object_pat_prop
use Rattle.swc_ecma_parser_ast.specs.declared.pat.ObjectPat.{ObjectPat}
use Rattle.swc_ecma_parser_ast.specs.declared.pat.AssignPat.{AssignPat}
use Rattle.swc_ecma_parser_ast.specs.declared.expr.Invalid.{Invalid}
use Rattle.swc_ecma_parser_ast.specs.declared.pat.Pat.{Pat}
use Rattle.swc_ecma_parser_ast.specs.declared.pat.Pat.TheVariants as v_pat
use Rattle.swc_ecma_parser_ast.specs.declared.object.SetterProp.{SetterProp}
use Rattle.swc_ecma_parser_ast.specs.declared.function.Decorator.{Decorator}
use Rattle.swc_ecma_parser_ast.specs.declared.function.Param.{Param}
use Rattle.swc_ecma_parser_ast.specs.declared.function.Function.{Function}
use Rattle.swc_ecma_parser_ast.specs.declared.object.MethodProp.{MethodProp}
use Rattle.swc_ecma_parser_ast.specs.declared.object.Prop.{Prop}
use Rattle.swc_ecma_parser_ast.specs.declared.object.Prop.TheVariants as v_prop
use Rattle.swc_ecma_parser_ast.specs.declared.object.PropOrSpread.{PropOrSpread}
use Rattle.swc_ecma_parser_ast.specs.declared.object.PropOrSpread.TheVariants as v_prop_or_spread
use Rattle.swc_ecma_parser_ast.specs.declared.object.ObjectLit.{ObjectLit}
use Rattle.swc_ecma_parser_ast.specs.declared.function.FnExpr.{FnExpr}
use Rattle.swc_ecma_parser_ast.specs.declared.expr.UnaryExpr.{UnaryExpr}
use Rattle.swc_ecma_parser_ast.specs.declared.expr.UpdateExpr.{UpdateExpr}
use Rattle.swc_ecma_parser_ast.specs.declared.expr.BinExpr.{BinExpr}
use Rattle.swc_ecma_parser_ast.specs.declared.call.MemberProp.{MemberProp}
use Rattle.swc_ecma_parser_ast.specs.declared.call.MemberProp.TheVariants as v_member_prop
use Rattle.swc_ecma_parser_ast.specs.declared.call.MemberExpr.{MemberExpr}
use Rattle.swc_ecma_parser_ast.specs.declared.call.Super.{Super}
use Rattle.swc_ecma_parser_ast.specs.declared.call.SuperProp.{SuperProp}
use Rattle.swc_ecma_parser_ast.specs.declared.call.SuperProp.TheVariants as v_super_prop
use Rattle.swc_ecma_parser_ast.specs.declared.call.SuperPropExpr.{SuperPropExpr}
use Rattle.swc_ecma_parser_ast.specs.declared.expr.ParenExpr.{ParenExpr}
use Rattle.swc_ecma_parser_ast.specs.declared.target.SimpleAssignTarget.{SimpleAssignTarget}
use Rattle.swc_ecma_parser_ast.specs.declared.target.SimpleAssignTarget.TheVariants as v_simple_assign_target
use Rattle.swc_ecma_parser_ast.specs.declared.target.AssignTargetPat.{AssignTargetPat}
use Rattle.swc_ecma_parser_ast.specs.declared.target.AssignTargetPat.TheVariants as v_assign_target_pat
use Rattle.swc_ecma_parser_ast.specs.declared.target.AssignTarget.{AssignTarget}
use Rattle.swc_ecma_parser_ast.specs.declared.target.AssignTarget.TheVariants as v_assign_target
use Rattle.swc_ecma_parser_ast.specs.declared.target.AssignExpr.{AssignExpr}
use Rattle.swc_ecma_parser_ast.specs.declared.expr.CondExpr.{CondExpr}
use Rattle.swc_ecma_parser_ast.specs.declared.call.Import.{Import}
use Rattle.swc_ecma_parser_ast.specs.declared.call.Callee.{Callee}
use Rattle.swc_ecma_parser_ast.specs.declared.call.Callee.TheVariants as v_callee
use Rattle.swc_ecma_parser_ast.specs.declared.call.CallExpr.{CallExpr}
use Rattle.swc_ecma_parser_ast.specs.declared.call.NewExpr.{NewExpr}
use Rattle.swc_ecma_parser_ast.specs.declared.call.OptCall.{OptCall}
use Rattle.swc_ecma_parser_ast.specs.declared.call.OptChainBase.{OptChainBase}
use Rattle.swc_ecma_parser_ast.specs.declared.call.OptChainBase.TheVariants as v_opt_chain_base
use Rattle.swc_ecma_parser_ast.specs.declared.call.OptChainExpr.{OptChainExpr}
use Rattle.swc_ecma_parser_ast.specs.declared.template.Tpl.{Tpl}
use Rattle.swc_ecma_parser_ast.specs.declared.template.TaggedTpl.{TaggedTpl}
use Rattle.swc_ecma_parser_ast.specs.declared.expr.SeqExpr.{SeqExpr}
use Rattle.swc_ecma_parser_ast.specs.declared.expr.Lit.{Lit}
use Rattle.swc_ecma_parser_ast.specs.declared.expr.Lit.TheVariants as v_lit
use Rattle.swc_ecma_parser_ast.specs.declared.function.BlockStmtOrExpr.{BlockStmtOrExpr}
use Rattle.swc_ecma_parser_ast.specs.declared.function.BlockStmtOrExpr.TheVariants as v_block_stmt_or_expr
use Rattle.swc_ecma_parser_ast.specs.declared.function.ArrowExpr.{ArrowExpr}
use Rattle.swc_ecma_parser_ast.specs.declared.class.ParamOrTsParamProp.{ParamOrTsParamProp}
use Rattle.swc_ecma_parser_ast.specs.declared.class.ParamOrTsParamProp.TheVariants as v_param_or_ts_param_prop
use Rattle.swc_ecma_parser_ast.specs.declared.class.Constructor.{Constructor}
use Rattle.swc_ecma_parser_ast.specs.declared.class.ClassMethod.{ClassMethod}
use Rattle.swc_ecma_parser_ast.specs.declared.class.PrivateMethod.{PrivateMethod}
use Rattle.swc_ecma_parser_ast.specs.declared.member.ClassProp.{ClassProp}
use Rattle.swc_ecma_parser_ast.specs.declared.member.PrivateProp.{PrivateProp}
use Rattle.swc_ecma_parser_ast.specs.declared.stmt.EmptyStmt.{EmptyStmt}
use Rattle.swc_ecma_parser_ast.specs.declared.member.StaticBlock.{StaticBlock}
use Rattle.swc_ecma_parser_ast.specs.declared.member.Key.{Key}
use Rattle.swc_ecma_parser_ast.specs.declared.member.Key.TheVariants as v_key
use Rattle.swc_ecma_parser_ast.specs.declared.member.AutoAccessor.{AutoAccessor}
use Rattle.swc_ecma_parser_ast.specs.declared.class.ClassMember.{ClassMember}
use Rattle.swc_ecma_parser_ast.specs.declared.class.ClassMember.TheVariants as v_class_member
use Rattle.swc_ecma_parser_ast.specs.declared.class.Class.{Class}
use Rattle.swc_ecma_parser_ast.specs.declared.class.ClassExpr.{ClassExpr}
use Rattle.swc_ecma_parser_ast.specs.declared.expr.YieldExpr.{YieldExpr}
use Rattle.swc_ecma_parser_ast.specs.declared.expr.MetaPropExpr.{MetaPropExpr}
use Rattle.swc_ecma_parser_ast.specs.declared.expr.AwaitExpr.{AwaitExpr}
use Rattle.swc_ecma_parser_ast.specs.declared.expr.Expr.{Expr}
use Rattle.swc_ecma_parser_ast.specs.declared.expr.Expr.TheVariants as v_expr
use Rattle.swc_ecma_parser_ast.specs.declared.class.ClassDecl.{ClassDecl}
use Rattle.swc_ecma_parser_ast.specs.declared.function.FnDecl.{FnDecl}
use Rattle.swc_ecma_parser_ast.specs.declared.decl.VarDeclarator.{VarDeclarator}
use Rattle.swc_ecma_parser_ast.specs.declared.decl.VarDecl.{VarDecl}
use Rattle.swc_ecma_parser_ast.specs.declared.decl.UsingDecl.{UsingDecl}
use Rattle.swc_ecma_parser_ast.specs.declared.decl.Decl.{Decl}
use Rattle.swc_ecma_parser_ast.specs.declared.decl.Decl.TheVariants as v_decl
use Rattle.swc_ecma_parser_ast.specs.declared.stmt.DebuggerStmt.{DebuggerStmt}
use Rattle.swc_ecma_parser_ast.specs.declared.stmt.WithStmt.{WithStmt}
use Rattle.swc_ecma_parser_ast.specs.declared.stmt.ReturnStmt.{ReturnStmt}
use Rattle.swc_ecma_parser_ast.specs.declared.stmt.LabeledStmt.{LabeledStmt}
use Rattle.swc_ecma_parser_ast.specs.declared.stmt.BreakStmt.{BreakStmt}
use Rattle.swc_ecma_parser_ast.specs.declared.stmt.ContinueStmt.{ContinueStmt}
use Rattle.swc_ecma_parser_ast.specs.declared.branch.IfStmt.{IfStmt}
use Rattle.swc_ecma_parser_ast.specs.declared.branch.SwitchCase.{SwitchCase}
use Rattle.swc_ecma_parser_ast.specs.declared.branch.SwitchStmt.{SwitchStmt}
use Rattle.swc_ecma_parser_ast.specs.declared.branch.ThrowStmt.{ThrowStmt}
use Rattle.swc_ecma_parser_ast.specs.declared.branch.CatchClause.{CatchClause}
use Rattle.swc_ecma_parser_ast.specs.declared.branch.TryStmt.{TryStmt}
use Rattle.swc_ecma_parser_ast.specs.declared.loops.WhileStmt.{WhileStmt}
use Rattle.swc_ecma_parser_ast.specs.declared.loops.DoWhileStmt.{DoWhileStmt}
use Rattle.swc_ecma_parser_ast.specs.declared.loops.VarDeclOrExpr.{VarDeclOrExpr}
use Rattle.swc_ecma_parser_ast.specs.declared.loops.VarDeclOrExpr.TheVariants as v_var_decl_or_expr
use Rattle.swc_ecma_parser_ast.specs.declared.loops.ForStmt.{ForStmt}
use Rattle.swc_ecma_parser_ast.specs.declared.loops.ForHead.{ForHead}
use Rattle.swc_ecma_parser_ast.specs.declared.loops.ForHead.TheVariants as v_for_head
use Rattle.swc_ecma_parser_ast.specs.declared.loops.ForInStmt.{ForInStmt}
use Rattle.swc_ecma_parser_ast.specs.declared.loops.ForOfStmt.{ForOfStmt}
use Rattle.swc_ecma_parser_ast.specs.declared.stmt.ExprStmt.{ExprStmt}
use Rattle.swc_ecma_parser_ast.specs.declared.stmt.Stmt.{Stmt}
use Rattle.swc_ecma_parser_ast.specs.declared.stmt.Stmt.TheVariants as v_stmt
use Rattle.swc_ecma_parser_ast.specs.declared.script.Script.{Script}
use Rattle.swc_ecma_parser_ast.specs.declared.imports.ModuleExportName.{ModuleExportName}
use Rattle.swc_ecma_parser_ast.specs.declared.imports.ModuleExportName.TheVariants as v_module_export_name
use Rattle.swc_ecma_parser_ast.specs.declared.imports.ImportNamedSpecifier.{ImportNamedSpecifier}
use Rattle.swc_ecma_parser_ast.specs.declared.imports.ImportDefaultSpecifier.{ImportDefaultSpecifier}
use Rattle.swc_ecma_parser_ast.specs.declared.imports.ImportStarAsSpecifier.{ImportStarAsSpecifier}
use Rattle.swc_ecma_parser_ast.specs.declared.imports.ImportSpecifier.{ImportSpecifier}
use Rattle.swc_ecma_parser_ast.specs.declared.imports.ImportSpecifier.TheVariants as v_import_specifier
use Rattle.swc_ecma_parser_ast.specs.declared.imports.ImportDecl.{ImportDecl}
use Rattle.swc_ecma_parser_ast.specs.declared.exports.ExportDecl.{ExportDecl}
use Rattle.swc_ecma_parser_ast.specs.declared.exports.ExportNamespaceSpecifier.{ExportNamespaceSpecifier}
use Rattle.swc_ecma_parser_ast.specs.declared.exports.ExportDefaultSpecifier.{ExportDefaultSpecifier}
use Rattle.swc_ecma_parser_ast.specs.declared.exports.ExportNamedSpecifier.{ExportNamedSpecifier}
use Rattle.swc_ecma_parser_ast.specs.declared.exports.ExportSpecifier.{ExportSpecifier}
use Rattle.swc_ecma_parser_ast.specs.declared.exports.ExportSpecifier.TheVariants as v_export_specifier
use Rattle.swc_ecma_parser_ast.specs.declared.exports.NamedExport.{NamedExport}
use Rattle.swc_ecma_parser_ast.specs.declared.exports.DefaultDecl.{DefaultDecl}
use Rattle.swc_ecma_parser_ast.specs.declared.exports.DefaultDecl.TheVariants as v_default_decl
use Rattle.swc_ecma_parser_ast.specs.declared.exports.ExportDefaultDecl.{ExportDefaultDecl}
use Rattle.swc_ecma_parser_ast.specs.declared.exports.ExportDefaultExpr.{ExportDefaultExpr}
use Rattle.swc_ecma_parser_ast.specs.declared.exports.ExportAll.{ExportAll}
use Rattle.swc_ecma_parser_ast.specs.declared.program.ModuleDecl.{ModuleDecl}
use Rattle.swc_ecma_parser_ast.specs.declared.program.ModuleDecl.TheVariants as v_module_decl
use Rattle.swc_ecma_parser_ast.specs.declared.program.ModuleItem.{ModuleItem}
use Rattle.swc_ecma_parser_ast.specs.declared.program.ModuleItem.TheVariants as v_module_item
use Rattle.swc_ecma_parser_ast.specs.declared.program.Module.{Module}
use Rattle.swc_ecma_parser_ast.specs.declared.program.Program.{Program}
use Rattle.swc_ecma_parser_ast.specs.declared.program.Program.TheVariants as v_program

-- spans are passed over
abbrev pub any_span : Span → Span → Bool
any_span x y = true

abbrev pub like_text : Text → Text → Bool
like_text x y = alike (put_text x) (put_text y)

abbrev pub like_flag : Bool → Bool → Bool
like_flag x y = alike (put_bool x) (put_bool y)

module _ (same_span : Span → Span → Bool) where
  abbrev pub like_ident : Ident → Ident → Bool
  like_ident x y = same_span x.span y.span && like_text x.sym y.sym

  abbrev pub like_str : Str → Str → Bool
  like_str x y = same_span x.span y.span && (like_text x.value y.value && like_text x.raw y.raw)

  abbrev pub like_bool : BoolLit → BoolLit → Bool
  like_bool x y = same_span x.span y.span && like_flag x.value y.value

  abbrev pub like_null : Null → Null → Bool
  like_null x y = same_span x.span y.span

  abbrev pub like_number : Number → Number → Bool
  like_number x y = same_span x.span y.span && like_text x.raw y.raw

  abbrev pub like_big_int : BigInt → BigInt → Bool
  like_big_int x y = same_span x.span y.span && like_text x.raw y.raw

  abbrev pub like_private_name : PrivateName → PrivateName → Bool
  like_private_name x y = same_span x.span y.span && (same_span x.id.span y.id.span && like_text x.id.sym y.id.sym)

  abbrev pub like_regex : Regex → Regex → Bool
  like_regex x y = same_span x.span y.span && (like_text x.exp y.exp && like_text x.flags y.flags)

  abbrev pub like_tpl_element : TplElement → TplElement → Bool
  like_tpl_element x y = same_span x.span y.span && (like_flag x.tail y.tail && (option_eq like_text x.cooked y.cooked && like_text x.raw y.raw))

  abbrev pub like_this_expr : ThisExpr → ThisExpr → Bool
  like_this_expr x y = same_span x.span y.span

  abbrev pub like_binding_ident : BindingIdent → BindingIdent → Bool
  like_binding_ident x y = like_ident x.id y.id

  abbrev pub like_invalid : Invalid → Invalid → Bool
  like_invalid x y = same_span x.span y.span

  abbrev pub like_super : Super → Super → Bool
  like_super x y = same_span x.span y.span

  abbrev pub like_import : Import → Import → Bool
  like_import x y = same_span x.span y.span

  abbrev pub like_lit : Lit → Lit → Bool
  like_lit (v_lit.Str x) (v_lit.Str y) = like_str x y
  like_lit (v_lit.Bool x) (v_lit.Bool y) = like_bool x y
  like_lit (v_lit.Null x) (v_lit.Null y) = like_null x y
  like_lit (v_lit.Num x) (v_lit.Num y) = like_number x y
  like_lit (v_lit.BigInt x) (v_lit.BigInt y) = like_big_int x y
  like_lit (v_lit.Regex x) (v_lit.Regex y) = like_regex x y
  like_lit _ _ = false

  abbrev pub like_empty_stmt : EmptyStmt → EmptyStmt → Bool
  like_empty_stmt x y = same_span x.span y.span

  abbrev pub like_meta_prop_expr : MetaPropExpr → MetaPropExpr → Bool
  like_meta_prop_expr x y = same_span x.span y.span && alike (put_meta x.kind) (put_meta y.kind)

  abbrev pub like_debugger_stmt : DebuggerStmt → DebuggerStmt → Bool
  like_debugger_stmt x y = same_span x.span y.span

  abbrev pub like_break_stmt : BreakStmt → BreakStmt → Bool
  like_break_stmt x y = same_span x.span y.span && option_eq like_ident x.label y.label

  abbrev pub like_continue_stmt : ContinueStmt → ContinueStmt → Bool
  like_continue_stmt x y = same_span x.span y.span && option_eq like_ident x.label y.label

  abbrev pub like_module_export_name : ModuleExportName → ModuleExportName → Bool
  like_module_export_name (v_module_export_name.Ident x) (v_module_export_name.Ident y) = like_ident x y
  like_module_export_name (v_module_export_name.Str x) (v_module_export_name.Str y) = like_str x y
  like_module_export_name _ _ = false

  abbrev pub like_import_named_specifier : ImportNamedSpecifier → ImportNamedSpecifier → Bool
  like_import_named_specifier x y = same_span x.span y.span && (like_ident x.local y.local && option_eq like_module_export_name x.imported y.imported)

  abbrev pub like_import_default_specifier : ImportDefaultSpecifier → ImportDefaultSpecifier → Bool
  like_import_default_specifier x y = same_span x.span y.span && like_ident x.local y.local

  abbrev pub like_import_star_as_specifier : ImportStarAsSpecifier → ImportStarAsSpecifier → Bool
  like_import_star_as_specifier x y = same_span x.span y.span && like_ident x.local y.local

  abbrev pub like_import_specifier : ImportSpecifier → ImportSpecifier → Bool
  like_import_specifier (v_import_specifier.Named x) (v_import_specifier.Named y) = like_import_named_specifier x y
  like_import_specifier (v_import_specifier.Default x) (v_import_specifier.Default y) = like_import_default_specifier x y
  like_import_specifier (v_import_specifier.Namespace x) (v_import_specifier.Namespace y) = like_import_star_as_specifier x y
  like_import_specifier _ _ = false

  abbrev pub like_export_namespace_specifier : ExportNamespaceSpecifier → ExportNamespaceSpecifier → Bool
  like_export_namespace_specifier x y = same_span x.span y.span && like_module_export_name x.name y.name

  abbrev pub like_export_default_specifier : ExportDefaultSpecifier → ExportDefaultSpecifier → Bool
  like_export_default_specifier x y = like_ident x.exported y.exported

  abbrev pub like_export_named_specifier : ExportNamedSpecifier → ExportNamedSpecifier → Bool
  like_export_named_specifier x y = same_span x.span y.span && (like_module_export_name x.orig y.orig && option_eq like_module_export_name x.exported y.exported)

  abbrev pub like_export_specifier : ExportSpecifier → ExportSpecifier → Bool
  like_export_specifier (v_export_specifier.Namespace x) (v_export_specifier.Namespace y) = like_export_namespace_specifier x y
  like_export_specifier (v_export_specifier.Default x) (v_export_specifier.Default y) = like_export_default_specifier x y
  like_export_specifier (v_export_specifier.Named x) (v_export_specifier.Named y) = like_export_named_specifier x y
  like_export_specifier _ _ = false

  module _ {N : Type 0} (like : N → N → Bool) where
    abbrev pub like_expr_or_spread : ExprOrSpread N → ExprOrSpread N → Bool
    like_expr_or_spread x y = option_eq same_span x.spread y.spread && like x.expr.node y.expr.node

    abbrev pub like_array_lit : ArrayLit N → ArrayLit N → Bool
    like_array_lit x y = same_span x.span y.span && pointwise (option_eq like_expr_or_spread) x.elems.items y.elems.items

    abbrev pub like_spread_element : SpreadElement N → SpreadElement N → Bool
    like_spread_element x y = same_span x.dot3_token y.dot3_token && like x.expr.node y.expr.node

    abbrev pub like_computed_prop_name : ComputedPropName N → ComputedPropName N → Bool
    like_computed_prop_name x y = same_span x.span y.span && like x.expr.node y.expr.node

    abbrev pub like_prop_name : PropName N → PropName N → Bool
    like_prop_name (v_prop_name.Ident x) (v_prop_name.Ident y) = like_ident x y
    like_prop_name (v_prop_name.Str x) (v_prop_name.Str y) = like_str x y
    like_prop_name (v_prop_name.Num x) (v_prop_name.Num y) = like_number x y
    like_prop_name (v_prop_name.BigInt x) (v_prop_name.BigInt y) = like_big_int x y
    like_prop_name (v_prop_name.Computed x) (v_prop_name.Computed y) = like_computed_prop_name x y
    like_prop_name _ _ = false

    abbrev pub like_key_value_prop : KeyValueProp N → KeyValueProp N → Bool
    like_key_value_prop x y = same_span x.span y.span && (like_prop_name x.key y.key && like x.value.node y.value.node)

    abbrev pub like_assign_prop : AssignProp N → AssignProp N → Bool
    like_assign_prop x y = same_span x.span y.span && (like_ident x.key y.key && like x.value.node y.value.node)

    abbrev pub like_block_stmt : BlockStmt N → BlockStmt N → Bool
    like_block_stmt x y = same_span x.span y.span && like x.stmts.node y.stmts.node

    abbrev pub like_getter_prop : GetterProp N → GetterProp N → Bool
    like_getter_prop x y = same_span x.span y.span && (like_prop_name x.key y.key && option_eq like_block_stmt x.body y.body)

    abbrev pub like_array_pat : ArrayPat N → ArrayPat N → Bool
    like_array_pat x y = same_span x.span y.span && pointwise (option_eq (λ a b. like a.node b.node)) x.elems.items y.elems.items

    abbrev pub like_rest_pat : RestPat N → RestPat N → Bool
    like_rest_pat x y = same_span x.span y.span && like x.arg.node y.arg.node

    abbrev pub like_key_value_pat_prop : KeyValuePatProp N → KeyValuePatProp N → Bool
    like_key_value_pat_prop x y = same_span x.span y.span && (like_prop_name x.key y.key && like x.value.node y.value.node)

    abbrev pub like_assign_pat_prop : AssignPatProp N → AssignPatProp N → Bool
    like_assign_pat_prop x y = same_span x.span y.span && (like_binding_ident x.key y.key && option_eq (λ a b. like a.node b.node) x.value y.value)

    abbrev pub like_object_pat_prop : ObjectPatProp N → ObjectPatProp N → Bool
    like_object_pat_prop (v_object_pat_prop.KeyValue x) (v_object_pat_prop.KeyValue y) = like_key_value_pat_prop x y
    like_object_pat_prop (v_object_pat_prop.Assign x) (v_object_pat_prop.Assign y) = like_assign_pat_prop x y
    like_object_pat_prop (v_object_pat_prop.Rest x) (v_object_pat_prop.Rest y) = like_rest_pat x y
    like_object_pat_prop _ _ = false

    abbrev pub like_object_pat : ObjectPat N → ObjectPat N → Bool
    like_object_pat x y = same_span x.span y.span && pointwise like_object_pat_prop x.props.items y.props.items

    abbrev pub like_assign_pat : AssignPat N → AssignPat N → Bool
    like_assign_pat x y = same_span x.span y.span && (like x.left.node y.left.node && like x.right.node y.right.node)

    abbrev pub like_pat : Pat N → Pat N → Bool
    like_pat (v_pat.Ident x) (v_pat.Ident y) = like_binding_ident x y
    like_pat (v_pat.Array x) (v_pat.Array y) = like_array_pat x y
    like_pat (v_pat.Rest x) (v_pat.Rest y) = like_rest_pat x y
    like_pat (v_pat.Object x) (v_pat.Object y) = like_object_pat x y
    like_pat (v_pat.Assign x) (v_pat.Assign y) = like_assign_pat x y
    like_pat (v_pat.Invalid x) (v_pat.Invalid y) = like_invalid x y
    like_pat (v_pat.Expr x) (v_pat.Expr y) = like x.node y.node
    like_pat _ _ = false

    abbrev pub like_setter_prop : SetterProp N → SetterProp N → Bool
    like_setter_prop x y = same_span x.span y.span && (like_prop_name x.key y.key && (like_pat x.param y.param && option_eq like_block_stmt x.body y.body))

    abbrev pub like_decorator : Decorator N → Decorator N → Bool
    like_decorator x y = same_span x.span y.span && like x.expr.node y.expr.node

    abbrev pub like_param : Param N → Param N → Bool
    like_param x y = same_span x.span y.span && (pointwise like_decorator x.decorators.items y.decorators.items && like_pat x.pat y.pat)

    abbrev pub like_function : Function N → Function N → Bool
    like_function x y = same_span x.span y.span && (pointwise like_decorator x.decorators.items y.decorators.items && (pointwise like_param x.params.items y.params.items && (option_eq like_block_stmt x.body y.body && (like_flag x.is_async y.is_async && like_flag x.is_generator y.is_generator))))

    abbrev pub like_method_prop : MethodProp N → MethodProp N → Bool
    like_method_prop x y = same_span x.span y.span && (like_prop_name x.key y.key && like_function x.function.value y.function.value)

    abbrev pub like_prop : Prop N → Prop N → Bool
    like_prop (v_prop.Shorthand x) (v_prop.Shorthand y) = like_ident x y
    like_prop (v_prop.KeyValue x) (v_prop.KeyValue y) = like_key_value_prop x y
    like_prop (v_prop.Assign x) (v_prop.Assign y) = like_assign_prop x y
    like_prop (v_prop.Getter x) (v_prop.Getter y) = like_getter_prop x y
    like_prop (v_prop.Setter x) (v_prop.Setter y) = like_setter_prop x y
    like_prop (v_prop.Method x) (v_prop.Method y) = like_method_prop x y
    like_prop _ _ = false

    abbrev pub like_prop_or_spread : PropOrSpread N → PropOrSpread N → Bool
    like_prop_or_spread (v_prop_or_spread.Spread x) (v_prop_or_spread.Spread y) = like_spread_element x y
    like_prop_or_spread (v_prop_or_spread.Prop x) (v_prop_or_spread.Prop y) = like_prop x.value y.value
    like_prop_or_spread _ _ = false

    abbrev pub like_object_lit : ObjectLit N → ObjectLit N → Bool
    like_object_lit x y = same_span x.span y.span && pointwise like_prop_or_spread x.props.items y.props.items

    abbrev pub like_fn_expr : FnExpr N → FnExpr N → Bool
    like_fn_expr x y = same_span x.span y.span && (option_eq like_ident x.ident y.ident && like_function x.function.value y.function.value)

    abbrev pub like_unary_expr : UnaryExpr N → UnaryExpr N → Bool
    like_unary_expr x y = same_span x.span y.span && (alike (put_unary x.op) (put_unary y.op) && like x.arg.node y.arg.node)

    abbrev pub like_update_expr : UpdateExpr N → UpdateExpr N → Bool
    like_update_expr x y = same_span x.span y.span && (alike (put_update x.op) (put_update y.op) && (like_flag x.prefix y.prefix && like x.arg.node y.arg.node))

    abbrev pub like_bin_expr : BinExpr N → BinExpr N → Bool
    like_bin_expr x y = same_span x.span y.span && (alike (put_binary x.op) (put_binary y.op) && (like x.left.node y.left.node && like x.right.node y.right.node))

    abbrev pub like_member_prop : MemberProp N → MemberProp N → Bool
    like_member_prop (v_member_prop.Ident x) (v_member_prop.Ident y) = like_ident x y
    like_member_prop (v_member_prop.PrivateName x) (v_member_prop.PrivateName y) = like_private_name x y
    like_member_prop (v_member_prop.Computed x) (v_member_prop.Computed y) = like_computed_prop_name x y
    like_member_prop _ _ = false

    abbrev pub like_member_expr : MemberExpr N → MemberExpr N → Bool
    like_member_expr x y = same_span x.span y.span && (like x.obj.node y.obj.node && like_member_prop x.prop y.prop)

    abbrev pub like_super_prop : SuperProp N → SuperProp N → Bool
    like_super_prop (v_super_prop.Ident x) (v_super_prop.Ident y) = like_ident x y
    like_super_prop (v_super_prop.Computed x) (v_super_prop.Computed y) = like_computed_prop_name x y
    like_super_prop _ _ = false

    abbrev pub like_super_prop_expr : SuperPropExpr N → SuperPropExpr N → Bool
    like_super_prop_expr x y = same_span x.span y.span && (like_super x.obj y.obj && like_super_prop x.prop y.prop)

    abbrev pub like_paren_expr : ParenExpr N → ParenExpr N → Bool
    like_paren_expr x y = same_span x.span y.span && like x.expr.node y.expr.node

    abbrev pub like_simple_assign_target : SimpleAssignTarget N → SimpleAssignTarget N → Bool
    like_simple_assign_target (v_simple_assign_target.Ident x) (v_simple_assign_target.Ident y) = like_binding_ident x y
    like_simple_assign_target (v_simple_assign_target.Member x) (v_simple_assign_target.Member y) = like_member_expr x y
    like_simple_assign_target (v_simple_assign_target.SuperProp x) (v_simple_assign_target.SuperProp y) = like_super_prop_expr x y
    like_simple_assign_target (v_simple_assign_target.Paren x) (v_simple_assign_target.Paren y) = like_paren_expr x y
    like_simple_assign_target _ _ = false

    abbrev pub like_assign_target_pat : AssignTargetPat N → AssignTargetPat N → Bool
    like_assign_target_pat (v_assign_target_pat.Array x) (v_assign_target_pat.Array y) = like_array_pat x y
    like_assign_target_pat (v_assign_target_pat.Object x) (v_assign_target_pat.Object y) = like_object_pat x y
    like_assign_target_pat _ _ = false

    abbrev pub like_assign_target : AssignTarget N → AssignTarget N → Bool
    like_assign_target (v_assign_target.Simple x) (v_assign_target.Simple y) = like_simple_assign_target x y
    like_assign_target (v_assign_target.Pat x) (v_assign_target.Pat y) = like_assign_target_pat x y
    like_assign_target _ _ = false

    abbrev pub like_assign_expr : AssignExpr N → AssignExpr N → Bool
    like_assign_expr x y = same_span x.span y.span && (alike (put_assign x.op) (put_assign y.op) && (like_assign_target x.left.value y.left.value && like x.right.node y.right.node))

    abbrev pub like_cond_expr : CondExpr N → CondExpr N → Bool
    like_cond_expr x y = same_span x.span y.span && (like x.test.node y.test.node && (like x.cons.node y.cons.node && like x.alt.node y.alt.node))

    abbrev pub like_callee : Callee N → Callee N → Bool
    like_callee (v_callee.Super x) (v_callee.Super y) = like_super x y
    like_callee (v_callee.Import x) (v_callee.Import y) = like_import x y
    like_callee (v_callee.Expr x) (v_callee.Expr y) = like x.node y.node
    like_callee _ _ = false

    abbrev pub like_call_expr : CallExpr N → CallExpr N → Bool
    like_call_expr x y = same_span x.span y.span && (like_callee x.callee y.callee && pointwise like_expr_or_spread x.args.items y.args.items)

    abbrev pub like_new_expr : NewExpr N → NewExpr N → Bool
    like_new_expr x y = same_span x.span y.span && (like x.callee.node y.callee.node && option_eq (λ v w. pointwise like_expr_or_spread v.items w.items) x.args y.args)

    abbrev pub like_opt_call : OptCall N → OptCall N → Bool
    like_opt_call x y = same_span x.span y.span && (like x.callee.node y.callee.node && pointwise like_expr_or_spread x.args.items y.args.items)

    abbrev pub like_opt_chain_base : OptChainBase N → OptChainBase N → Bool
    like_opt_chain_base (v_opt_chain_base.Member x) (v_opt_chain_base.Member y) = like_member_expr x y
    like_opt_chain_base (v_opt_chain_base.Call x) (v_opt_chain_base.Call y) = like_opt_call x y
    like_opt_chain_base _ _ = false

    abbrev pub like_opt_chain_expr : OptChainExpr N → OptChainExpr N → Bool
    like_opt_chain_expr x y = same_span x.span y.span && (like_flag x.optional y.optional && like_opt_chain_base x.base.value y.base.value)

    abbrev pub like_tpl : Tpl N → Tpl N → Bool
    like_tpl x y = same_span x.span y.span && (pointwise (λ a b. like a.node b.node) x.exprs.items y.exprs.items && pointwise like_tpl_element x.quasis.items y.quasis.items)

    abbrev pub like_tagged_tpl : TaggedTpl N → TaggedTpl N → Bool
    like_tagged_tpl x y = same_span x.span y.span && (like x.tag.node y.tag.node && like_tpl x.tpl.value y.tpl.value)

    abbrev pub like_seq_expr : SeqExpr N → SeqExpr N → Bool
    like_seq_expr x y = same_span x.span y.span && pointwise (λ a b. like a.node b.node) x.exprs.items y.exprs.items

    abbrev pub like_block_stmt_or_expr : BlockStmtOrExpr N → BlockStmtOrExpr N → Bool
    like_block_stmt_or_expr (v_block_stmt_or_expr.BlockStmt x) (v_block_stmt_or_expr.BlockStmt y) = like_block_stmt x y
    like_block_stmt_or_expr (v_block_stmt_or_expr.Expr x) (v_block_stmt_or_expr.Expr y) = like x.node y.node
    like_block_stmt_or_expr _ _ = false

    abbrev pub like_arrow_expr : ArrowExpr N → ArrowExpr N → Bool
    like_arrow_expr x y = same_span x.span y.span && (pointwise like_pat x.params.items y.params.items && (like_block_stmt_or_expr x.body y.body && like_flag x.is_async y.is_async))

    abbrev pub like_param_or_ts_param_prop : ParamOrTsParamProp N → ParamOrTsParamProp N → Bool
    like_param_or_ts_param_prop (v_param_or_ts_param_prop.Param x) (v_param_or_ts_param_prop.Param y) = like_param x y

    abbrev pub like_constructor : Constructor N → Constructor N → Bool
    like_constructor x y = same_span x.span y.span && (like_prop_name x.key y.key && (pointwise like_param_or_ts_param_prop x.params.items y.params.items && option_eq like_block_stmt x.body y.body))

    abbrev pub like_class_method : ClassMethod N → ClassMethod N → Bool
    like_class_method x y = same_span x.span y.span && (like_prop_name x.key y.key && (like_function x.function.value y.function.value && (alike (put_method x.kind) (put_method y.kind) && like_flag x.is_static y.is_static)))

    abbrev pub like_private_method : PrivateMethod N → PrivateMethod N → Bool
    like_private_method x y = same_span x.span y.span && (like_private_name x.key y.key && (like_function x.function.value y.function.value && (alike (put_method x.kind) (put_method y.kind) && like_flag x.is_static y.is_static)))

    abbrev pub like_class_prop : ClassProp N → ClassProp N → Bool
    like_class_prop x y = same_span x.span y.span && (like_prop_name x.key y.key && (option_eq (λ a b. like a.node b.node) x.value y.value && (like_flag x.is_static y.is_static && pointwise like_decorator x.decorators.items y.decorators.items)))

    abbrev pub like_private_prop : PrivateProp N → PrivateProp N → Bool
    like_private_prop x y = same_span x.span y.span && (like_private_name x.key y.key && (option_eq (λ a b. like a.node b.node) x.value y.value && (like_flag x.is_static y.is_static && pointwise like_decorator x.decorators.items y.decorators.items)))

    abbrev pub like_static_block : StaticBlock N → StaticBlock N → Bool
    like_static_block x y = same_span x.span y.span && like_block_stmt x.body y.body

    abbrev pub like_key : Key N → Key N → Bool
    like_key (v_key.Private x) (v_key.Private y) = like_private_name x y
    like_key (v_key.Public x) (v_key.Public y) = like_prop_name x y
    like_key _ _ = false

    abbrev pub like_auto_accessor : AutoAccessor N → AutoAccessor N → Bool
    like_auto_accessor x y = same_span x.span y.span && (like_key x.key y.key && (option_eq (λ a b. like a.node b.node) x.value y.value && (like_flag x.is_static y.is_static && pointwise like_decorator x.decorators.items y.decorators.items)))

    abbrev pub like_class_member : ClassMember N → ClassMember N → Bool
    like_class_member (v_class_member.Constructor x) (v_class_member.Constructor y) = like_constructor x.value y.value
    like_class_member (v_class_member.Method x) (v_class_member.Method y) = like_class_method x.value y.value
    like_class_member (v_class_member.PrivateMethod x) (v_class_member.PrivateMethod y) = like_private_method x.value y.value
    like_class_member (v_class_member.ClassProp x) (v_class_member.ClassProp y) = like_class_prop x.value y.value
    like_class_member (v_class_member.PrivateProp x) (v_class_member.PrivateProp y) = like_private_prop x.value y.value
    like_class_member (v_class_member.Empty x) (v_class_member.Empty y) = like_empty_stmt x y
    like_class_member (v_class_member.StaticBlock x) (v_class_member.StaticBlock y) = like_static_block x y
    like_class_member (v_class_member.AutoAccessor x) (v_class_member.AutoAccessor y) = like_auto_accessor x.value y.value
    like_class_member _ _ = false

    abbrev pub like_class : Class N → Class N → Bool
    like_class x y = same_span x.span y.span && (pointwise like_decorator x.decorators.items y.decorators.items && (pointwise like_class_member x.body.items y.body.items && option_eq (λ a b. like a.node b.node) x.super_class y.super_class))

    abbrev pub like_class_expr : ClassExpr N → ClassExpr N → Bool
    like_class_expr x y = same_span x.span y.span && (option_eq like_ident x.ident y.ident && like_class x.class.value y.class.value)

    abbrev pub like_yield_expr : YieldExpr N → YieldExpr N → Bool
    like_yield_expr x y = same_span x.span y.span && (option_eq (λ a b. like a.node b.node) x.arg y.arg && like_flag x.delegate y.delegate)

    abbrev pub like_await_expr : AwaitExpr N → AwaitExpr N → Bool
    like_await_expr x y = same_span x.span y.span && like x.arg.node y.arg.node

    abbrev pub like_expr : Expr N → Expr N → Bool
    like_expr (v_expr.This x) (v_expr.This y) = like_this_expr x y
    like_expr (v_expr.Array x) (v_expr.Array y) = like_array_lit x y
    like_expr (v_expr.Object x) (v_expr.Object y) = like_object_lit x y
    like_expr (v_expr.Fn x) (v_expr.Fn y) = like_fn_expr x y
    like_expr (v_expr.Unary x) (v_expr.Unary y) = like_unary_expr x y
    like_expr (v_expr.Update x) (v_expr.Update y) = like_update_expr x y
    like_expr (v_expr.Bin x) (v_expr.Bin y) = like_bin_expr x y
    like_expr (v_expr.Assign x) (v_expr.Assign y) = like_assign_expr x y
    like_expr (v_expr.Member x) (v_expr.Member y) = like_member_expr x y
    like_expr (v_expr.SuperProp x) (v_expr.SuperProp y) = like_super_prop_expr x y
    like_expr (v_expr.Cond x) (v_expr.Cond y) = like_cond_expr x y
    like_expr (v_expr.Call x) (v_expr.Call y) = like_call_expr x y
    like_expr (v_expr.New x) (v_expr.New y) = like_new_expr x y
    like_expr (v_expr.Seq x) (v_expr.Seq y) = like_seq_expr x y
    like_expr (v_expr.Ident x) (v_expr.Ident y) = like_ident x y
    like_expr (v_expr.Lit x) (v_expr.Lit y) = like_lit x y
    like_expr (v_expr.Arrow x) (v_expr.Arrow y) = like_arrow_expr x y
    like_expr (v_expr.Class x) (v_expr.Class y) = like_class_expr x y
    like_expr (v_expr.Yield x) (v_expr.Yield y) = like_yield_expr x y
    like_expr (v_expr.MetaProp x) (v_expr.MetaProp y) = like_meta_prop_expr x y
    like_expr (v_expr.Await x) (v_expr.Await y) = like_await_expr x y
    like_expr (v_expr.Paren x) (v_expr.Paren y) = like_paren_expr x y
    like_expr (v_expr.Tpl x) (v_expr.Tpl y) = like_tpl x y
    like_expr (v_expr.TaggedTpl x) (v_expr.TaggedTpl y) = like_tagged_tpl x y
    like_expr (v_expr.OptChain x) (v_expr.OptChain y) = like_opt_chain_expr x y
    like_expr (v_expr.PrivateName x) (v_expr.PrivateName y) = like_private_name x y
    like_expr (v_expr.Invalid x) (v_expr.Invalid y) = like_invalid x y
    like_expr _ _ = false

    abbrev pub like_class_decl : ClassDecl N → ClassDecl N → Bool
    like_class_decl x y = like_ident x.ident y.ident && like_class x.class.value y.class.value

    abbrev pub like_fn_decl : FnDecl N → FnDecl N → Bool
    like_fn_decl x y = like_ident x.ident y.ident && like_function x.function.value y.function.value

    abbrev pub like_declarator : VarDeclarator N → VarDeclarator N → Bool
    like_declarator x y = same_span x.span y.span && (like_pat x.name y.name && option_eq (λ a b. like a.node b.node) x.init y.init)

    abbrev pub like_var_decl : VarDecl N → VarDecl N → Bool
    like_var_decl x y = same_span x.span y.span && (alike (put_kind x.kind) (put_kind y.kind) && pointwise like_declarator x.decls.items y.decls.items)

    abbrev pub like_using_decl : UsingDecl N → UsingDecl N → Bool
    like_using_decl x y = same_span x.span y.span && (like_flag x.is_await y.is_await && pointwise like_declarator x.decls.items y.decls.items)

    abbrev pub like_decl : Decl N → Decl N → Bool
    like_decl (v_decl.Class x) (v_decl.Class y) = like_class_decl x y
    like_decl (v_decl.Fn x) (v_decl.Fn y) = like_fn_decl x y
    like_decl (v_decl.Var x) (v_decl.Var y) = like_var_decl x y
    like_decl (v_decl.Using x) (v_decl.Using y) = like_using_decl x y
    like_decl _ _ = false

    abbrev pub like_with_stmt : WithStmt N → WithStmt N → Bool
    like_with_stmt x y = same_span x.span y.span && (like x.obj.node y.obj.node && like x.body.node y.body.node)

    abbrev pub like_return_stmt : ReturnStmt N → ReturnStmt N → Bool
    like_return_stmt x y = same_span x.span y.span && option_eq (λ a b. like a.node b.node) x.arg y.arg

    abbrev pub like_labeled_stmt : LabeledStmt N → LabeledStmt N → Bool
    like_labeled_stmt x y = same_span x.span y.span && (like_ident x.label y.label && like x.body.node y.body.node)

    abbrev pub like_if_stmt : IfStmt N → IfStmt N → Bool
    like_if_stmt x y = same_span x.span y.span && (like x.test.node y.test.node && (like x.cons.node y.cons.node && option_eq (λ a b. like a.node b.node) x.alt y.alt))

    abbrev pub like_switch_case : SwitchCase N → SwitchCase N → Bool
    like_switch_case x y = same_span x.span y.span && (option_eq (λ a b. like a.node b.node) x.test y.test && like x.cons.node y.cons.node)

    abbrev pub like_switch_stmt : SwitchStmt N → SwitchStmt N → Bool
    like_switch_stmt x y = same_span x.span y.span && (like x.discriminant.node y.discriminant.node && pointwise like_switch_case x.cases.items y.cases.items)

    abbrev pub like_throw_stmt : ThrowStmt N → ThrowStmt N → Bool
    like_throw_stmt x y = same_span x.span y.span && like x.arg.node y.arg.node

    abbrev pub like_catch_clause : CatchClause N → CatchClause N → Bool
    like_catch_clause x y = same_span x.span y.span && (option_eq like_pat x.param y.param && like_block_stmt x.body y.body)

    abbrev pub like_try_stmt : TryStmt N → TryStmt N → Bool
    like_try_stmt x y = same_span x.span y.span && (like_block_stmt x.block y.block && (option_eq like_catch_clause x.handler y.handler && option_eq like_block_stmt x.finalizer y.finalizer))

    abbrev pub like_while_stmt : WhileStmt N → WhileStmt N → Bool
    like_while_stmt x y = same_span x.span y.span && (like x.test.node y.test.node && like x.body.node y.body.node)

    abbrev pub like_do_while_stmt : DoWhileStmt N → DoWhileStmt N → Bool
    like_do_while_stmt x y = same_span x.span y.span && (like x.test.node y.test.node && like x.body.node y.body.node)

    abbrev pub like_var_decl_or_expr : VarDeclOrExpr N → VarDeclOrExpr N → Bool
    like_var_decl_or_expr (v_var_decl_or_expr.VarDecl x) (v_var_decl_or_expr.VarDecl y) = like_var_decl x y
    like_var_decl_or_expr (v_var_decl_or_expr.Expr x) (v_var_decl_or_expr.Expr y) = like x.node y.node
    like_var_decl_or_expr _ _ = false

    abbrev pub like_for_stmt : ForStmt N → ForStmt N → Bool
    like_for_stmt x y = same_span x.span y.span && (option_eq like_var_decl_or_expr x.init y.init && (option_eq (λ a b. like a.node b.node) x.test y.test && (option_eq (λ a b. like a.node b.node) x.update y.update && like x.body.node y.body.node)))

    abbrev pub like_for_head : ForHead N → ForHead N → Bool
    like_for_head (v_for_head.VarDecl x) (v_for_head.VarDecl y) = like_var_decl x y
    like_for_head (v_for_head.UsingDecl x) (v_for_head.UsingDecl y) = like_using_decl x y
    like_for_head (v_for_head.Pat x) (v_for_head.Pat y) = like_pat x y
    like_for_head _ _ = false

    abbrev pub like_for_in_stmt : ForInStmt N → ForInStmt N → Bool
    like_for_in_stmt x y = same_span x.span y.span && (like_for_head x.left y.left && (like x.right.node y.right.node && like x.body.node y.body.node))

    abbrev pub like_for_of_stmt : ForOfStmt N → ForOfStmt N → Bool
    like_for_of_stmt x y = same_span x.span y.span && (like_flag x.is_await y.is_await && (like_for_head x.left y.left && (like x.right.node y.right.node && like x.body.node y.body.node)))

    abbrev pub like_expr_stmt : ExprStmt N → ExprStmt N → Bool
    like_expr_stmt x y = same_span x.span y.span && like x.expr.node y.expr.node

    abbrev pub like_stmt : Stmt N → Stmt N → Bool
    like_stmt (v_stmt.Block x) (v_stmt.Block y) = like_block_stmt x y
    like_stmt (v_stmt.Empty x) (v_stmt.Empty y) = like_empty_stmt x y
    like_stmt (v_stmt.Debugger x) (v_stmt.Debugger y) = like_debugger_stmt x y
    like_stmt (v_stmt.With x) (v_stmt.With y) = like_with_stmt x y
    like_stmt (v_stmt.Return x) (v_stmt.Return y) = like_return_stmt x y
    like_stmt (v_stmt.Labeled x) (v_stmt.Labeled y) = like_labeled_stmt x y
    like_stmt (v_stmt.Break x) (v_stmt.Break y) = like_break_stmt x y
    like_stmt (v_stmt.Continue x) (v_stmt.Continue y) = like_continue_stmt x y
    like_stmt (v_stmt.If x) (v_stmt.If y) = like_if_stmt x y
    like_stmt (v_stmt.Switch x) (v_stmt.Switch y) = like_switch_stmt x y
    like_stmt (v_stmt.Throw x) (v_stmt.Throw y) = like_throw_stmt x y
    like_stmt (v_stmt.Try x) (v_stmt.Try y) = like_try_stmt x.value y.value
    like_stmt (v_stmt.While x) (v_stmt.While y) = like_while_stmt x y
    like_stmt (v_stmt.DoWhile x) (v_stmt.DoWhile y) = like_do_while_stmt x y
    like_stmt (v_stmt.For x) (v_stmt.For y) = like_for_stmt x.value y.value
    like_stmt (v_stmt.ForIn x) (v_stmt.ForIn y) = like_for_in_stmt x.value y.value
    like_stmt (v_stmt.ForOf x) (v_stmt.ForOf y) = like_for_of_stmt x.value y.value
    like_stmt (v_stmt.Decl x) (v_stmt.Decl y) = like_decl x y
    like_stmt (v_stmt.Expr x) (v_stmt.Expr y) = like_expr_stmt x y
    like_stmt _ _ = false

    abbrev pub like_script : Script N → Script N → Bool
    like_script x y = same_span x.span y.span && (pointwise like_stmt x.body.items y.body.items && option_eq like_text x.shebang y.shebang)

    abbrev pub like_import_decl : ImportDecl N → ImportDecl N → Bool
    like_import_decl x y = same_span x.span y.span && (pointwise like_import_specifier x.specifiers.items y.specifiers.items && (like_str x.src y.src && (option_eq like_object_lit x.with y.with && alike (put_phase x.phase) (put_phase y.phase))))

    abbrev pub like_export_decl : ExportDecl N → ExportDecl N → Bool
    like_export_decl x y = same_span x.span y.span && like_decl x.decl y.decl

    abbrev pub like_named_export : NamedExport N → NamedExport N → Bool
    like_named_export x y = same_span x.span y.span && (pointwise like_export_specifier x.specifiers.items y.specifiers.items && (option_eq like_str x.src y.src && option_eq like_object_lit x.with y.with))

    abbrev pub like_default_decl : DefaultDecl N → DefaultDecl N → Bool
    like_default_decl (v_default_decl.Class x) (v_default_decl.Class y) = like_class_expr x y
    like_default_decl (v_default_decl.Fn x) (v_default_decl.Fn y) = like_fn_expr x y
    like_default_decl _ _ = false

    abbrev pub like_export_default_decl : ExportDefaultDecl N → ExportDefaultDecl N → Bool
    like_export_default_decl x y = same_span x.span y.span && like_default_decl x.decl y.decl

    abbrev pub like_export_default_expr : ExportDefaultExpr N → ExportDefaultExpr N → Bool
    like_export_default_expr x y = same_span x.span y.span && like x.expr.node y.expr.node

    abbrev pub like_export_all : ExportAll N → ExportAll N → Bool
    like_export_all x y = same_span x.span y.span && (like_str x.src y.src && option_eq like_object_lit x.with y.with)

    abbrev pub like_module_decl : ModuleDecl N → ModuleDecl N → Bool
    like_module_decl (v_module_decl.Import x) (v_module_decl.Import y) = like_import_decl x y
    like_module_decl (v_module_decl.ExportDecl x) (v_module_decl.ExportDecl y) = like_export_decl x y
    like_module_decl (v_module_decl.ExportNamed x) (v_module_decl.ExportNamed y) = like_named_export x y
    like_module_decl (v_module_decl.ExportDefaultDecl x) (v_module_decl.ExportDefaultDecl y) = like_export_default_decl x y
    like_module_decl (v_module_decl.ExportDefaultExpr x) (v_module_decl.ExportDefaultExpr y) = like_export_default_expr x y
    like_module_decl (v_module_decl.ExportAll x) (v_module_decl.ExportAll y) = like_export_all x y
    like_module_decl _ _ = false

    abbrev pub like_module_item : ModuleItem N → ModuleItem N → Bool
    like_module_item (v_module_item.ModuleDecl x) (v_module_item.ModuleDecl y) = like_module_decl x y
    like_module_item (v_module_item.Stmt x) (v_module_item.Stmt y) = like_stmt x y
    like_module_item _ _ = false

    abbrev pub like_module : Module N → Module N → Bool
    like_module x y = same_span x.span y.span && (pointwise like_module_item x.body.items y.body.items && option_eq like_text x.shebang y.shebang)

    abbrev pub like_program : Program N → Program N → Bool
    like_program (v_program.Module x) (v_program.Module y) = like_module x y
    like_program (v_program.Script x) (v_program.Script y) = like_script x y
    like_program _ _ = false

    abbrev pub like_stmts : List (Stmt N) → List (Stmt N) → Bool
    like_stmts = pointwise like_stmt
