-- The model of each type of the tree, one equation for each form.
use Rattle.std.specs.Prelude.{map}
use Rattle.swc_ecma_parser_model.specs.Tree.{Tree, listed}
use Rattle.swc_ecma_parser_model.specs.Tree as tree
use Rattle.swc_ecma_parser_model.specs.Held.{Held}
use Rattle.swc_ecma_parser_ast.specs.Parts.{view_option, as_expr}
use Rattle.swc_ecma_parser_model.specs.declared.leaves.Ident.{Ident}
use Rattle.swc_ecma_parser_model.specs.declared.leaves.Str.{Str}
use Rattle.swc_ecma_parser_model.specs.declared.leaves.Bool.{Bool as BoolLit}
use Rattle.swc_ecma_parser_model.specs.declared.leaves.Null.{Null}
use Rattle.swc_ecma_parser_model.specs.declared.leaves.Number.{Number}
use Rattle.swc_ecma_parser_model.specs.declared.leaves.BigInt.{BigInt}
use Rattle.swc_ecma_parser_model.specs.declared.leaves.PrivateName.{PrivateName}
use Rattle.swc_ecma_parser_model.specs.declared.leaves.Regex.{Regex}
use Rattle.swc_ecma_parser_model.specs.declared.leaves.TplElement.{TplElement}
use Rattle.swc_ecma_parser_ast.specs.declared.expr.ThisExpr.{ThisExpr}
use Rattle.swc_ecma_parser_ast.specs.declared.call.ExprOrSpread.{ExprOrSpread}
use Rattle.swc_ecma_parser_ast.specs.declared.object.ArrayLit.{ArrayLit}
use Rattle.swc_ecma_parser_ast.specs.declared.object.SpreadElement.{SpreadElement}
use Rattle.swc_ecma_parser_ast.specs.declared.object.ComputedPropName.{ComputedPropName}
use Rattle.swc_ecma_parser_ast.specs.declared.object.PropName.{PropName}
use Rattle.swc_ecma_parser_ast.specs.declared.object.PropName.TheVariants as v_prop_name
use Rattle.swc_ecma_parser_ast.specs.declared.object.KeyValueProp.{KeyValueProp}
use Rattle.swc_ecma_parser_ast.specs.declared.object.AssignProp.{AssignProp}
use Rattle.swc_ecma_parser_ast.specs.declared.stmt.BlockStmt.{BlockStmt}
use Rattle.swc_ecma_parser_ast.specs.declared.object.GetterProp.{GetterProp}
use Rattle.swc_ecma_parser_ast.specs.declared.pat.BindingIdent.{BindingIdent}
use Rattle.swc_ecma_parser_ast.specs.declared.pat.ArrayPat.{ArrayPat}
use Rattle.swc_ecma_parser_ast.specs.declared.pat.RestPat.{RestPat}
use Rattle.swc_ecma_parser_ast.specs.declared.pat.KeyValuePatProp.{KeyValuePatProp}
use Rattle.swc_ecma_parser_ast.specs.declared.pat.AssignPatProp.{AssignPatProp}
use Rattle.swc_ecma_parser_ast.specs.declared.pat.ObjectPatProp.{ObjectPatProp}
use Rattle.swc_ecma_parser_ast.specs.declared.pat.ObjectPatProp.TheVariants as v_object_pat_prop
use Rattle.swc_ecma_parser_ast.specs.declared.pat.ObjectPat.{ObjectPat}
use Rattle.swc_ecma_parser_ast.specs.declared.pat.AssignPat.{AssignPat}
use Rattle.swc_ecma_parser_ast.specs.declared.expr.Invalid.{Invalid}
use Rattle.swc_ecma_parser_ast.specs.declared.pat.Pat.{Pat}
use Rattle.swc_ecma_parser_ast.specs.declared.pat.Pat.TheVariants as v_pat
use Rattle.swc_ecma_parser_ast.specs.declared.object.SetterProp.{SetterProp}
use Rattle.swc_ecma_parser_ast.specs.declared.function.Decorator.{Decorator}
use Rattle.swc_ecma_parser_ast.specs.declared.function.Param.{Param}
use Rattle.swc_ecma_parser_ast.specs.declared.function.Function.{Function}
use Rattle.swc_ecma_parser_ast.specs.declared.object.MethodProp.{MethodProp}
use Rattle.swc_ecma_parser_ast.specs.declared.object.Prop.{Prop}
use Rattle.swc_ecma_parser_ast.specs.declared.object.Prop.TheVariants as v_prop
use Rattle.swc_ecma_parser_ast.specs.declared.object.PropOrSpread.{PropOrSpread}
use Rattle.swc_ecma_parser_ast.specs.declared.object.PropOrSpread.TheVariants as v_prop_or_spread
use Rattle.swc_ecma_parser_ast.specs.declared.object.ObjectLit.{ObjectLit}
use Rattle.swc_ecma_parser_ast.specs.declared.function.FnExpr.{FnExpr}
use Rattle.swc_ecma_parser_ast.specs.declared.expr.UnaryExpr.{UnaryExpr}
use Rattle.swc_ecma_parser_ast.specs.declared.expr.UpdateExpr.{UpdateExpr}
use Rattle.swc_ecma_parser_ast.specs.declared.expr.BinExpr.{BinExpr}
use Rattle.swc_ecma_parser_ast.specs.declared.call.MemberProp.{MemberProp}
use Rattle.swc_ecma_parser_ast.specs.declared.call.MemberProp.TheVariants as v_member_prop
use Rattle.swc_ecma_parser_ast.specs.declared.call.MemberExpr.{MemberExpr}
use Rattle.swc_ecma_parser_ast.specs.declared.call.Super.{Super}
use Rattle.swc_ecma_parser_ast.specs.declared.call.SuperProp.{SuperProp}
use Rattle.swc_ecma_parser_ast.specs.declared.call.SuperProp.TheVariants as v_super_prop
use Rattle.swc_ecma_parser_ast.specs.declared.call.SuperPropExpr.{SuperPropExpr}
use Rattle.swc_ecma_parser_ast.specs.declared.expr.ParenExpr.{ParenExpr}
use Rattle.swc_ecma_parser_ast.specs.declared.target.SimpleAssignTarget.{SimpleAssignTarget}
use Rattle.swc_ecma_parser_ast.specs.declared.target.SimpleAssignTarget.TheVariants as v_simple_assign_target
use Rattle.swc_ecma_parser_ast.specs.declared.target.AssignTargetPat.{AssignTargetPat}
use Rattle.swc_ecma_parser_ast.specs.declared.target.AssignTargetPat.TheVariants as v_assign_target_pat
use Rattle.swc_ecma_parser_ast.specs.declared.target.AssignTarget.{AssignTarget}
use Rattle.swc_ecma_parser_ast.specs.declared.target.AssignTarget.TheVariants as v_assign_target
use Rattle.swc_ecma_parser_ast.specs.declared.target.AssignExpr.{AssignExpr}
use Rattle.swc_ecma_parser_ast.specs.declared.expr.CondExpr.{CondExpr}
use Rattle.swc_ecma_parser_ast.specs.declared.call.Import.{Import}
use Rattle.swc_ecma_parser_ast.specs.declared.call.Callee.{Callee}
use Rattle.swc_ecma_parser_ast.specs.declared.call.Callee.TheVariants as v_callee
use Rattle.swc_ecma_parser_ast.specs.declared.call.CallExpr.{CallExpr}
use Rattle.swc_ecma_parser_ast.specs.declared.call.NewExpr.{NewExpr}
use Rattle.swc_ecma_parser_ast.specs.declared.call.OptCall.{OptCall}
use Rattle.swc_ecma_parser_ast.specs.declared.call.OptChainBase.{OptChainBase}
use Rattle.swc_ecma_parser_ast.specs.declared.call.OptChainBase.TheVariants as v_opt_chain_base
use Rattle.swc_ecma_parser_ast.specs.declared.call.OptChainExpr.{OptChainExpr}
use Rattle.swc_ecma_parser_ast.specs.declared.template.Tpl.{Tpl}
use Rattle.swc_ecma_parser_ast.specs.declared.template.TaggedTpl.{TaggedTpl}
use Rattle.swc_ecma_parser_ast.specs.declared.expr.SeqExpr.{SeqExpr}
use Rattle.swc_ecma_parser_ast.specs.declared.expr.Lit.{Lit}
use Rattle.swc_ecma_parser_ast.specs.declared.expr.Lit.TheVariants as v_lit
use Rattle.swc_ecma_parser_ast.specs.declared.function.BlockStmtOrExpr.{BlockStmtOrExpr}
use Rattle.swc_ecma_parser_ast.specs.declared.function.BlockStmtOrExpr.TheVariants as v_block_stmt_or_expr
use Rattle.swc_ecma_parser_ast.specs.declared.function.ArrowExpr.{ArrowExpr}
use Rattle.swc_ecma_parser_ast.specs.declared.class.ParamOrTsParamProp.{ParamOrTsParamProp}
use Rattle.swc_ecma_parser_ast.specs.declared.class.ParamOrTsParamProp.TheVariants as v_param_or_ts_param_prop
use Rattle.swc_ecma_parser_ast.specs.declared.class.Constructor.{Constructor}
use Rattle.swc_ecma_parser_ast.specs.declared.class.ClassMethod.{ClassMethod}
use Rattle.swc_ecma_parser_ast.specs.declared.class.PrivateMethod.{PrivateMethod}
use Rattle.swc_ecma_parser_ast.specs.declared.member.ClassProp.{ClassProp}
use Rattle.swc_ecma_parser_ast.specs.declared.member.PrivateProp.{PrivateProp}
use Rattle.swc_ecma_parser_ast.specs.declared.stmt.EmptyStmt.{EmptyStmt}
use Rattle.swc_ecma_parser_ast.specs.declared.member.StaticBlock.{StaticBlock}
use Rattle.swc_ecma_parser_ast.specs.declared.member.Key.{Key}
use Rattle.swc_ecma_parser_ast.specs.declared.member.Key.TheVariants as v_key
use Rattle.swc_ecma_parser_ast.specs.declared.member.AutoAccessor.{AutoAccessor}
use Rattle.swc_ecma_parser_ast.specs.declared.class.ClassMember.{ClassMember}
use Rattle.swc_ecma_parser_ast.specs.declared.class.ClassMember.TheVariants as v_class_member
use Rattle.swc_ecma_parser_ast.specs.declared.class.Class.{Class}
use Rattle.swc_ecma_parser_ast.specs.declared.class.ClassExpr.{ClassExpr}
use Rattle.swc_ecma_parser_ast.specs.declared.expr.YieldExpr.{YieldExpr}
use Rattle.swc_ecma_parser_ast.specs.declared.expr.MetaPropExpr.{MetaPropExpr}
use Rattle.swc_ecma_parser_ast.specs.declared.expr.AwaitExpr.{AwaitExpr}
use Rattle.swc_ecma_parser_ast.specs.declared.expr.Expr.{Expr}
use Rattle.swc_ecma_parser_ast.specs.declared.expr.Expr.TheVariants as v_expr
use Rattle.swc_ecma_parser_ast.specs.declared.class.ClassDecl.{ClassDecl}
use Rattle.swc_ecma_parser_ast.specs.declared.function.FnDecl.{FnDecl}
use Rattle.swc_ecma_parser_ast.specs.declared.decl.VarDeclarator.{VarDeclarator}
use Rattle.swc_ecma_parser_ast.specs.declared.decl.VarDecl.{VarDecl}
use Rattle.swc_ecma_parser_ast.specs.declared.decl.UsingDecl.{UsingDecl}
use Rattle.swc_ecma_parser_ast.specs.declared.decl.Decl.{Decl}
use Rattle.swc_ecma_parser_ast.specs.declared.decl.Decl.TheVariants as v_decl
use Rattle.swc_ecma_parser_ast.specs.declared.stmt.DebuggerStmt.{DebuggerStmt}
use Rattle.swc_ecma_parser_ast.specs.declared.stmt.WithStmt.{WithStmt}
use Rattle.swc_ecma_parser_ast.specs.declared.stmt.ReturnStmt.{ReturnStmt}
use Rattle.swc_ecma_parser_ast.specs.declared.stmt.LabeledStmt.{LabeledStmt}
use Rattle.swc_ecma_parser_ast.specs.declared.stmt.BreakStmt.{BreakStmt}
use Rattle.swc_ecma_parser_ast.specs.declared.stmt.ContinueStmt.{ContinueStmt}
use Rattle.swc_ecma_parser_ast.specs.declared.branch.IfStmt.{IfStmt}
use Rattle.swc_ecma_parser_ast.specs.declared.branch.SwitchCase.{SwitchCase}
use Rattle.swc_ecma_parser_ast.specs.declared.branch.SwitchStmt.{SwitchStmt}
use Rattle.swc_ecma_parser_ast.specs.declared.branch.ThrowStmt.{ThrowStmt}
use Rattle.swc_ecma_parser_ast.specs.declared.branch.CatchClause.{CatchClause}
use Rattle.swc_ecma_parser_ast.specs.declared.branch.TryStmt.{TryStmt}
use Rattle.swc_ecma_parser_ast.specs.declared.loops.WhileStmt.{WhileStmt}
use Rattle.swc_ecma_parser_ast.specs.declared.loops.DoWhileStmt.{DoWhileStmt}
use Rattle.swc_ecma_parser_ast.specs.declared.loops.VarDeclOrExpr.{VarDeclOrExpr}
use Rattle.swc_ecma_parser_ast.specs.declared.loops.VarDeclOrExpr.TheVariants as v_var_decl_or_expr
use Rattle.swc_ecma_parser_ast.specs.declared.loops.ForStmt.{ForStmt}
use Rattle.swc_ecma_parser_ast.specs.declared.loops.ForHead.{ForHead}
use Rattle.swc_ecma_parser_ast.specs.declared.loops.ForHead.TheVariants as v_for_head
use Rattle.swc_ecma_parser_ast.specs.declared.loops.ForInStmt.{ForInStmt}
use Rattle.swc_ecma_parser_ast.specs.declared.loops.ForOfStmt.{ForOfStmt}
use Rattle.swc_ecma_parser_ast.specs.declared.stmt.ExprStmt.{ExprStmt}
use Rattle.swc_ecma_parser_ast.specs.declared.stmt.Stmt.{Stmt}
use Rattle.swc_ecma_parser_ast.specs.declared.stmt.Stmt.TheVariants as v_stmt
use Rattle.swc_ecma_parser_ast.specs.declared.script.Script.{Script}
use Rattle.swc_ecma_parser_ast.specs.declared.imports.ModuleExportName.{ModuleExportName}
use Rattle.swc_ecma_parser_ast.specs.declared.imports.ModuleExportName.TheVariants as v_module_export_name
use Rattle.swc_ecma_parser_ast.specs.declared.imports.ImportNamedSpecifier.{ImportNamedSpecifier}
use Rattle.swc_ecma_parser_ast.specs.declared.imports.ImportDefaultSpecifier.{ImportDefaultSpecifier}
use Rattle.swc_ecma_parser_ast.specs.declared.imports.ImportStarAsSpecifier.{ImportStarAsSpecifier}
use Rattle.swc_ecma_parser_ast.specs.declared.imports.ImportSpecifier.{ImportSpecifier}
use Rattle.swc_ecma_parser_ast.specs.declared.imports.ImportSpecifier.TheVariants as v_import_specifier
use Rattle.swc_ecma_parser_ast.specs.declared.imports.ImportDecl.{ImportDecl}
use Rattle.swc_ecma_parser_ast.specs.declared.exports.ExportDecl.{ExportDecl}
use Rattle.swc_ecma_parser_ast.specs.declared.exports.ExportNamespaceSpecifier.{ExportNamespaceSpecifier}
use Rattle.swc_ecma_parser_ast.specs.declared.exports.ExportDefaultSpecifier.{ExportDefaultSpecifier}
use Rattle.swc_ecma_parser_ast.specs.declared.exports.ExportNamedSpecifier.{ExportNamedSpecifier}
use Rattle.swc_ecma_parser_ast.specs.declared.exports.ExportSpecifier.{ExportSpecifier}
use Rattle.swc_ecma_parser_ast.specs.declared.exports.ExportSpecifier.TheVariants as v_export_specifier
use Rattle.swc_ecma_parser_ast.specs.declared.exports.NamedExport.{NamedExport}
use Rattle.swc_ecma_parser_ast.specs.declared.exports.DefaultDecl.{DefaultDecl}
use Rattle.swc_ecma_parser_ast.specs.declared.exports.DefaultDecl.TheVariants as v_default_decl
use Rattle.swc_ecma_parser_ast.specs.declared.exports.ExportDefaultDecl.{ExportDefaultDecl}
use Rattle.swc_ecma_parser_ast.specs.declared.exports.ExportDefaultExpr.{ExportDefaultExpr}
use Rattle.swc_ecma_parser_ast.specs.declared.exports.ExportAll.{ExportAll}
use Rattle.swc_ecma_parser_ast.specs.declared.program.ModuleDecl.{ModuleDecl}
use Rattle.swc_ecma_parser_ast.specs.declared.program.ModuleDecl.TheVariants as v_module_decl
use Rattle.swc_ecma_parser_ast.specs.declared.program.ModuleItem.{ModuleItem}
use Rattle.swc_ecma_parser_ast.specs.declared.program.ModuleItem.TheVariants as v_module_item
use Rattle.swc_ecma_parser_ast.specs.declared.program.Module.{Module}
use Rattle.swc_ecma_parser_ast.specs.declared.program.Program.{Program}
use Rattle.swc_ecma_parser_ast.specs.declared.program.Program.TheVariants as v_program

abbrev pub view_ident : Ident → Tree
view_ident x = tree.ident x.span x.sym

abbrev pub view_str : Str → Tree
view_str x = tree.str x.span x.value x.raw

abbrev pub view_bool : BoolLit → Tree
view_bool x = tree.bool x.span x.value

abbrev pub view_null : Null → Tree
view_null x = tree.null x.span

abbrev pub view_number : Number → Tree
view_number x = tree.num x.span x.raw

abbrev pub view_big_int : BigInt → Tree
view_big_int x = tree.big_int x.span x.raw

abbrev pub view_private_name : PrivateName → Tree
view_private_name x = tree.private_name x.span x.id.span x.id.sym

abbrev pub view_regex : Regex → Tree
view_regex x = tree.regex x.span x.exp x.flags

abbrev pub view_tpl_element : TplElement → Tree
view_tpl_element x = tree.quasi x.span x.tail x.cooked x.raw

abbrev pub view_this_expr : ThisExpr → Tree
view_this_expr x = tree.this x.span

abbrev pub view_expr_or_spread : ExprOrSpread Held → Tree
view_expr_or_spread x = tree.element x.spread x.expr.node.tree

abbrev pub view_array_lit : ArrayLit Held → Tree
view_array_lit x = tree.array x.span (listed (map (view_option view_expr_or_spread) x.elems.items))

abbrev pub view_spread_element : SpreadElement Held → Tree
view_spread_element x = tree.spread_prop x.dot3_token x.expr.node.tree

abbrev pub view_computed_prop_name : ComputedPropName Held → Tree
view_computed_prop_name x = tree.computed x.span x.expr.node.tree

abbrev pub view_prop_name : PropName Held → Tree
view_prop_name (v_prop_name.Ident x) = view_ident x
view_prop_name (v_prop_name.Str x) = view_str x
view_prop_name (v_prop_name.Num x) = view_number x
view_prop_name (v_prop_name.BigInt x) = view_big_int x
view_prop_name (v_prop_name.Computed x) = view_computed_prop_name x

abbrev pub view_key_value_prop : KeyValueProp Held → Tree
view_key_value_prop x = tree.key_value_prop x.span (view_prop_name x.key) x.value.node.tree

abbrev pub view_assign_prop : AssignProp Held → Tree
view_assign_prop x = tree.assign_prop x.span (view_ident x.key) x.value.node.tree

abbrev pub view_block_stmt : BlockStmt Held → Tree
view_block_stmt x = tree.block x.span x.stmts.node.tree

abbrev pub view_getter_prop : GetterProp Held → Tree
view_getter_prop x = tree.getter_prop x.span (view_prop_name x.key) (view_option view_block_stmt x.body)

abbrev pub view_binding_ident : BindingIdent → Tree
view_binding_ident x = tree.ident_pat x.id.span x.id.sym

abbrev pub view_array_pat : ArrayPat Held → Tree
view_array_pat x = tree.array_pat x.span (listed (map (view_option (λ b. b.node.tree)) x.elems.items))

abbrev pub view_rest_pat : RestPat Held → Tree
view_rest_pat x = tree.rest_pat x.span x.arg.node.tree

abbrev pub view_key_value_pat_prop : KeyValuePatProp Held → Tree
view_key_value_pat_prop x = tree.key_value_pat_prop x.span (view_prop_name x.key) x.value.node.tree

abbrev pub view_assign_pat_prop : AssignPatProp Held → Tree
view_assign_pat_prop x = tree.assign_pat_prop x.span (view_binding_ident x.key) (view_option (λ b. b.node.tree) x.value)

abbrev pub view_object_pat_prop : ObjectPatProp Held → Tree
view_object_pat_prop (v_object_pat_prop.KeyValue x) = view_key_value_pat_prop x
view_object_pat_prop (v_object_pat_prop.Assign x) = view_assign_pat_prop x
view_object_pat_prop (v_object_pat_prop.Rest x) = view_rest_pat x

abbrev pub view_object_pat : ObjectPat Held → Tree
view_object_pat x = tree.object_pat x.span (listed (map view_object_pat_prop x.props.items))

abbrev pub view_assign_pat : AssignPat Held → Tree
view_assign_pat x = tree.assign_pat x.span x.left.node.tree x.right.node.tree

abbrev pub view_invalid : Invalid → Tree
view_invalid x = tree.invalid x.span

abbrev pub view_pat : Pat Held → Tree
view_pat (v_pat.Ident x) = view_binding_ident x
view_pat (v_pat.Array x) = view_array_pat x
view_pat (v_pat.Rest x) = view_rest_pat x
view_pat (v_pat.Object x) = view_object_pat x
view_pat (v_pat.Assign x) = view_assign_pat x
view_pat (v_pat.Invalid x) = tree.invalid_pat x.span
view_pat (v_pat.Expr x) = tree.expr_pat (as_expr x.node.tree)

abbrev pub view_setter_prop : SetterProp Held → Tree
view_setter_prop x = tree.setter_prop x.span (view_prop_name x.key) (view_pat x.param) (view_option view_block_stmt x.body)

abbrev pub view_decorator : Decorator Held → Tree
view_decorator x = tree.decorator x.span x.expr.node.tree

abbrev pub view_param : Param Held → Tree
view_param x = tree.param x.span (listed (map view_decorator x.decorators.items)) (view_pat x.pat)

abbrev pub view_function : Function Held → Tree
view_function x = tree.function x.span (listed (map view_decorator x.decorators.items)) (listed (map view_param x.params.items)) (view_option view_block_stmt x.body) x.is_async x.is_generator

abbrev pub view_method_prop : MethodProp Held → Tree
view_method_prop x = tree.method_prop x.span (view_prop_name x.key) (view_function x.function.value)

abbrev pub view_prop : Prop Held → Tree
view_prop (v_prop.Shorthand x) = tree.shorthand_prop x.span x.sym
view_prop (v_prop.KeyValue x) = view_key_value_prop x
view_prop (v_prop.Assign x) = view_assign_prop x
view_prop (v_prop.Getter x) = view_getter_prop x
view_prop (v_prop.Setter x) = view_setter_prop x
view_prop (v_prop.Method x) = view_method_prop x

abbrev pub view_prop_or_spread : PropOrSpread Held → Tree
view_prop_or_spread (v_prop_or_spread.Spread x) = view_spread_element x
view_prop_or_spread (v_prop_or_spread.Prop x) = view_prop x.value

abbrev pub view_object_lit : ObjectLit Held → Tree
view_object_lit x = tree.object x.span (listed (map view_prop_or_spread x.props.items))

abbrev pub view_fn_expr : FnExpr Held → Tree
view_fn_expr x = tree.fn_expr x.span (view_option view_ident x.ident) (view_function x.function.value)

abbrev pub view_unary_expr : UnaryExpr Held → Tree
view_unary_expr x = tree.unary x.span x.op x.arg.node.tree

abbrev pub view_update_expr : UpdateExpr Held → Tree
view_update_expr x = tree.update x.span x.op x.prefix x.arg.node.tree

abbrev pub view_bin_expr : BinExpr Held → Tree
view_bin_expr x = tree.bin x.span x.op x.left.node.tree x.right.node.tree

abbrev pub view_member_prop : MemberProp Held → Tree
view_member_prop (v_member_prop.Ident x) = view_ident x
view_member_prop (v_member_prop.PrivateName x) = view_private_name x
view_member_prop (v_member_prop.Computed x) = view_computed_prop_name x

abbrev pub view_member_expr : MemberExpr Held → Tree
view_member_expr x = tree.member x.span x.obj.node.tree (view_member_prop x.prop)

abbrev pub view_super : Super → Tree
view_super x = tree.super_callee x.span

abbrev pub view_super_prop : SuperProp Held → Tree
view_super_prop (v_super_prop.Ident x) = view_ident x
view_super_prop (v_super_prop.Computed x) = view_computed_prop_name x

abbrev pub view_super_prop_expr : SuperPropExpr Held → Tree
view_super_prop_expr x = tree.super_prop x.span x.obj.span (view_super_prop x.prop)

abbrev pub view_paren_expr : ParenExpr Held → Tree
view_paren_expr x = tree.paren x.span x.expr.node.tree

abbrev pub view_simple_assign_target : SimpleAssignTarget Held → Tree
view_simple_assign_target (v_simple_assign_target.Ident x) = tree.ident x.id.span x.id.sym
view_simple_assign_target (v_simple_assign_target.Member x) = view_member_expr x
view_simple_assign_target (v_simple_assign_target.SuperProp x) = view_super_prop_expr x
view_simple_assign_target (v_simple_assign_target.Paren x) = view_paren_expr x

abbrev pub view_assign_target_pat : AssignTargetPat Held → Tree
view_assign_target_pat (v_assign_target_pat.Array x) = view_array_pat x
view_assign_target_pat (v_assign_target_pat.Object x) = view_object_pat x

abbrev pub view_assign_target : AssignTarget Held → Tree
view_assign_target (v_assign_target.Simple x) = view_simple_assign_target x
view_assign_target (v_assign_target.Pat x) = view_assign_target_pat x

abbrev pub view_assign_expr : AssignExpr Held → Tree
view_assign_expr x = tree.assign x.span x.op (view_assign_target x.left.value) x.right.node.tree

abbrev pub view_cond_expr : CondExpr Held → Tree
view_cond_expr x = tree.cond x.span x.test.node.tree x.cons.node.tree x.alt.node.tree

abbrev pub view_import : Import → Tree
view_import x = tree.import_callee x.span

abbrev pub view_callee : Callee Held → Tree
view_callee (v_callee.Super x) = view_super x
view_callee (v_callee.Import x) = view_import x
view_callee (v_callee.Expr x) = as_expr x.node.tree

abbrev pub view_call_expr : CallExpr Held → Tree
view_call_expr x = tree.call x.span (view_callee x.callee) (listed (map view_expr_or_spread x.args.items))

abbrev pub view_new_expr : NewExpr Held → Tree
view_new_expr x = tree.new x.span x.callee.node.tree (view_option (λ v. listed (map view_expr_or_spread v.items)) x.args)

abbrev pub view_opt_call : OptCall Held → Tree
view_opt_call x = tree.call x.span (as_expr x.callee.node.tree) (listed (map view_expr_or_spread x.args.items))

abbrev pub view_opt_chain_base : OptChainBase Held → Tree
view_opt_chain_base (v_opt_chain_base.Member x) = view_member_expr x
view_opt_chain_base (v_opt_chain_base.Call x) = view_opt_call x

abbrev pub view_opt_chain_expr : OptChainExpr Held → Tree
view_opt_chain_expr x = tree.opt_chain x.span x.optional (view_opt_chain_base x.base.value)

abbrev pub view_tpl : Tpl Held → Tree
view_tpl x = tree.tpl x.span (listed (map (λ b. b.node.tree) x.exprs.items)) (listed (map view_tpl_element x.quasis.items))

abbrev pub view_tagged_tpl : TaggedTpl Held → Tree
view_tagged_tpl x = tree.tagged_tpl x.span x.tag.node.tree (view_tpl x.tpl.value)

abbrev pub view_seq_expr : SeqExpr Held → Tree
view_seq_expr x = tree.seq x.span (listed (map (λ b. b.node.tree) x.exprs.items))

abbrev pub view_lit : Lit → Tree
view_lit (v_lit.Str x) = view_str x
view_lit (v_lit.Bool x) = view_bool x
view_lit (v_lit.Null x) = view_null x
view_lit (v_lit.Num x) = view_number x
view_lit (v_lit.BigInt x) = view_big_int x
view_lit (v_lit.Regex x) = view_regex x

abbrev pub view_block_stmt_or_expr : BlockStmtOrExpr Held → Tree
view_block_stmt_or_expr (v_block_stmt_or_expr.BlockStmt x) = view_block_stmt x
view_block_stmt_or_expr (v_block_stmt_or_expr.Expr x) = as_expr x.node.tree

abbrev pub view_arrow_expr : ArrowExpr Held → Tree
view_arrow_expr x = tree.arrow x.span (listed (map view_pat x.params.items)) (view_block_stmt_or_expr x.body) x.is_async

abbrev pub view_param_or_ts_param_prop : ParamOrTsParamProp Held → Tree
view_param_or_ts_param_prop (v_param_or_ts_param_prop.Param x) = view_param x

abbrev pub view_constructor : Constructor Held → Tree
view_constructor x = tree.constructor x.span (view_prop_name x.key) (listed (map view_param_or_ts_param_prop x.params.items)) (view_option view_block_stmt x.body)

abbrev pub view_class_method : ClassMethod Held → Tree
view_class_method x = tree.method x.span (view_prop_name x.key) (view_function x.function.value) x.kind x.is_static

abbrev pub view_private_method : PrivateMethod Held → Tree
view_private_method x = tree.private_method x.span (view_private_name x.key) (view_function x.function.value) x.kind x.is_static

abbrev pub view_class_prop : ClassProp Held → Tree
view_class_prop x = tree.class_prop x.span (view_prop_name x.key) (view_option (λ b. b.node.tree) x.value) x.is_static (listed (map view_decorator x.decorators.items))

abbrev pub view_private_prop : PrivateProp Held → Tree
view_private_prop x = tree.private_prop x.span (view_private_name x.key) (view_option (λ b. b.node.tree) x.value) x.is_static (listed (map view_decorator x.decorators.items))

abbrev pub view_empty_stmt : EmptyStmt → Tree
view_empty_stmt x = tree.empty x.span

abbrev pub view_static_block : StaticBlock Held → Tree
view_static_block x = tree.static_block x.span (view_block_stmt x.body)

abbrev pub view_key : Key Held → Tree
view_key (v_key.Private x) = view_private_name x
view_key (v_key.Public x) = view_prop_name x

abbrev pub view_auto_accessor : AutoAccessor Held → Tree
view_auto_accessor x = tree.auto_accessor x.span (view_key x.key) (view_option (λ b. b.node.tree) x.value) x.is_static (listed (map view_decorator x.decorators.items))

abbrev pub view_class_member : ClassMember Held → Tree
view_class_member (v_class_member.Constructor x) = view_constructor x.value
view_class_member (v_class_member.Method x) = view_class_method x.value
view_class_member (v_class_member.PrivateMethod x) = view_private_method x.value
view_class_member (v_class_member.ClassProp x) = view_class_prop x.value
view_class_member (v_class_member.PrivateProp x) = view_private_prop x.value
view_class_member (v_class_member.Empty x) = tree.empty_member x.span
view_class_member (v_class_member.StaticBlock x) = view_static_block x
view_class_member (v_class_member.AutoAccessor x) = view_auto_accessor x.value

abbrev pub view_class : Class Held → Tree
view_class x = tree.class x.span (listed (map view_decorator x.decorators.items)) (listed (map view_class_member x.body.items)) (view_option (λ b. b.node.tree) x.super_class)

abbrev pub view_class_expr : ClassExpr Held → Tree
view_class_expr x = tree.class_expr x.span (view_option view_ident x.ident) (view_class x.class.value)

abbrev pub view_yield_expr : YieldExpr Held → Tree
view_yield_expr x = tree.yield x.span (view_option (λ b. b.node.tree) x.arg) x.delegate

abbrev pub view_meta_prop_expr : MetaPropExpr → Tree
view_meta_prop_expr x = tree.meta_prop x.span x.kind

abbrev pub view_await_expr : AwaitExpr Held → Tree
view_await_expr x = tree.await x.span x.arg.node.tree

abbrev pub view_expr : Expr Held → Tree
view_expr (v_expr.This x) = view_this_expr x
view_expr (v_expr.Array x) = view_array_lit x
view_expr (v_expr.Object x) = view_object_lit x
view_expr (v_expr.Fn x) = view_fn_expr x
view_expr (v_expr.Unary x) = view_unary_expr x
view_expr (v_expr.Update x) = view_update_expr x
view_expr (v_expr.Bin x) = view_bin_expr x
view_expr (v_expr.Assign x) = view_assign_expr x
view_expr (v_expr.Member x) = view_member_expr x
view_expr (v_expr.SuperProp x) = view_super_prop_expr x
view_expr (v_expr.Cond x) = view_cond_expr x
view_expr (v_expr.Call x) = view_call_expr x
view_expr (v_expr.New x) = view_new_expr x
view_expr (v_expr.Seq x) = view_seq_expr x
view_expr (v_expr.Ident x) = view_ident x
view_expr (v_expr.Lit x) = view_lit x
view_expr (v_expr.Arrow x) = view_arrow_expr x
view_expr (v_expr.Class x) = view_class_expr x
view_expr (v_expr.Yield x) = view_yield_expr x
view_expr (v_expr.MetaProp x) = view_meta_prop_expr x
view_expr (v_expr.Await x) = view_await_expr x
view_expr (v_expr.Paren x) = view_paren_expr x
view_expr (v_expr.Tpl x) = view_tpl x
view_expr (v_expr.TaggedTpl x) = view_tagged_tpl x
view_expr (v_expr.OptChain x) = view_opt_chain_expr x
view_expr (v_expr.PrivateName x) = view_private_name x
view_expr (v_expr.Invalid x) = view_invalid x

abbrev pub view_class_decl : ClassDecl Held → Tree
view_class_decl x = tree.class_decl (view_ident x.ident) (view_class x.class.value)

abbrev pub view_fn_decl : FnDecl Held → Tree
view_fn_decl x = tree.fn_decl (view_ident x.ident) (view_function x.function.value)

abbrev pub view_declarator : VarDeclarator Held → Tree
view_declarator x = tree.declarator x.span (view_pat x.name) (view_option (λ b. b.node.tree) x.init)

abbrev pub view_var_decl : VarDecl Held → Tree
view_var_decl x = tree.var x.span x.kind (listed (map view_declarator x.decls.items))

abbrev pub view_using_decl : UsingDecl Held → Tree
view_using_decl x = tree.using x.span x.is_await (listed (map view_declarator x.decls.items))

abbrev pub view_decl : Decl Held → Tree
view_decl (v_decl.Class x) = view_class_decl x
view_decl (v_decl.Fn x) = view_fn_decl x
view_decl (v_decl.Var x) = view_var_decl x
view_decl (v_decl.Using x) = view_using_decl x

abbrev pub view_debugger_stmt : DebuggerStmt → Tree
view_debugger_stmt x = tree.debugger x.span

abbrev pub view_with_stmt : WithStmt Held → Tree
view_with_stmt x = tree.with x.span x.obj.node.tree x.body.node.tree

abbrev pub view_return_stmt : ReturnStmt Held → Tree
view_return_stmt x = tree.return x.span (view_option (λ b. b.node.tree) x.arg)

abbrev pub view_labeled_stmt : LabeledStmt Held → Tree
view_labeled_stmt x = tree.labeled x.span (view_ident x.label) x.body.node.tree

abbrev pub view_break_stmt : BreakStmt → Tree
view_break_stmt x = tree.break x.span (view_option view_ident x.label)

abbrev pub view_continue_stmt : ContinueStmt → Tree
view_continue_stmt x = tree.continue x.span (view_option view_ident x.label)

abbrev pub view_if_stmt : IfStmt Held → Tree
view_if_stmt x = tree.if_stmt x.span x.test.node.tree x.cons.node.tree (view_option (λ b. b.node.tree) x.alt)

abbrev pub view_switch_case : SwitchCase Held → Tree
view_switch_case x = tree.case x.span (view_option (λ b. b.node.tree) x.test) x.cons.node.tree

abbrev pub view_switch_stmt : SwitchStmt Held → Tree
view_switch_stmt x = tree.switch x.span x.discriminant.node.tree (listed (map view_switch_case x.cases.items))

abbrev pub view_throw_stmt : ThrowStmt Held → Tree
view_throw_stmt x = tree.throw x.span x.arg.node.tree

abbrev pub view_catch_clause : CatchClause Held → Tree
view_catch_clause x = tree.catch x.span (view_option view_pat x.param) (view_block_stmt x.body)

abbrev pub view_try_stmt : TryStmt Held → Tree
view_try_stmt x = tree.try x.span (view_block_stmt x.block) (view_option view_catch_clause x.handler) (view_option view_block_stmt x.finalizer)

abbrev pub view_while_stmt : WhileStmt Held → Tree
view_while_stmt x = tree.while x.span x.test.node.tree x.body.node.tree

abbrev pub view_do_while_stmt : DoWhileStmt Held → Tree
view_do_while_stmt x = tree.do_while x.span x.test.node.tree x.body.node.tree

abbrev pub view_var_decl_or_expr : VarDeclOrExpr Held → Tree
view_var_decl_or_expr (v_var_decl_or_expr.VarDecl x) = view_var_decl x
view_var_decl_or_expr (v_var_decl_or_expr.Expr x) = as_expr x.node.tree

abbrev pub view_for_stmt : ForStmt Held → Tree
view_for_stmt x = tree.for x.span (view_option view_var_decl_or_expr x.init) (view_option (λ b. b.node.tree) x.test) (view_option (λ b. b.node.tree) x.update) x.body.node.tree

abbrev pub view_for_head : ForHead Held → Tree
view_for_head (v_for_head.VarDecl x) = view_var_decl x
view_for_head (v_for_head.UsingDecl x) = view_using_decl x
view_for_head (v_for_head.Pat x) = view_pat x

abbrev pub view_for_in_stmt : ForInStmt Held → Tree
view_for_in_stmt x = tree.for_in x.span (view_for_head x.left) x.right.node.tree x.body.node.tree

abbrev pub view_for_of_stmt : ForOfStmt Held → Tree
view_for_of_stmt x = tree.for_of x.span x.is_await (view_for_head x.left) x.right.node.tree x.body.node.tree

abbrev pub view_expr_stmt : ExprStmt Held → Tree
view_expr_stmt x = tree.expr_stmt x.span x.expr.node.tree

abbrev pub view_stmt : Stmt Held → Tree
view_stmt (v_stmt.Block x) = view_block_stmt x
view_stmt (v_stmt.Empty x) = view_empty_stmt x
view_stmt (v_stmt.Debugger x) = view_debugger_stmt x
view_stmt (v_stmt.With x) = view_with_stmt x
view_stmt (v_stmt.Return x) = view_return_stmt x
view_stmt (v_stmt.Labeled x) = view_labeled_stmt x
view_stmt (v_stmt.Break x) = view_break_stmt x
view_stmt (v_stmt.Continue x) = view_continue_stmt x
view_stmt (v_stmt.If x) = view_if_stmt x
view_stmt (v_stmt.Switch x) = view_switch_stmt x
view_stmt (v_stmt.Throw x) = view_throw_stmt x
view_stmt (v_stmt.Try x) = view_try_stmt x.value
view_stmt (v_stmt.While x) = view_while_stmt x
view_stmt (v_stmt.DoWhile x) = view_do_while_stmt x
view_stmt (v_stmt.For x) = view_for_stmt x.value
view_stmt (v_stmt.ForIn x) = view_for_in_stmt x.value
view_stmt (v_stmt.ForOf x) = view_for_of_stmt x.value
view_stmt (v_stmt.Decl x) = view_decl x
view_stmt (v_stmt.Expr x) = view_expr_stmt x

abbrev pub view_script : Script Held → Tree
view_script x = tree.script x.span (listed (map view_stmt x.body.items)) x.shebang

abbrev pub view_module_export_name : ModuleExportName → Tree
view_module_export_name (v_module_export_name.Ident x) = view_ident x
view_module_export_name (v_module_export_name.Str x) = view_str x

abbrev pub view_import_named_specifier : ImportNamedSpecifier → Tree
view_import_named_specifier x = tree.import_named x.span (view_ident x.local) (view_option view_module_export_name x.imported)

abbrev pub view_import_default_specifier : ImportDefaultSpecifier → Tree
view_import_default_specifier x = tree.import_default x.span (view_ident x.local)

abbrev pub view_import_star_as_specifier : ImportStarAsSpecifier → Tree
view_import_star_as_specifier x = tree.import_namespace x.span (view_ident x.local)

abbrev pub view_import_specifier : ImportSpecifier → Tree
view_import_specifier (v_import_specifier.Named x) = view_import_named_specifier x
view_import_specifier (v_import_specifier.Default x) = view_import_default_specifier x
view_import_specifier (v_import_specifier.Namespace x) = view_import_star_as_specifier x

abbrev pub view_import_decl : ImportDecl Held → Tree
view_import_decl x = tree.import x.span (listed (map view_import_specifier x.specifiers.items)) (view_str x.src) (view_option view_object_lit x.with) x.phase

abbrev pub view_export_decl : ExportDecl Held → Tree
view_export_decl x = tree.export_decl x.span (view_decl x.decl)

abbrev pub view_export_namespace_specifier : ExportNamespaceSpecifier → Tree
view_export_namespace_specifier x = tree.export_namespace x.span (view_module_export_name x.name)

abbrev pub view_export_default_specifier : ExportDefaultSpecifier → Tree
view_export_default_specifier x = tree.export_default (view_ident x.exported)

abbrev pub view_export_named_specifier : ExportNamedSpecifier → Tree
view_export_named_specifier x = tree.export_specifier x.span (view_module_export_name x.orig) (view_option view_module_export_name x.exported)

abbrev pub view_export_specifier : ExportSpecifier → Tree
view_export_specifier (v_export_specifier.Namespace x) = view_export_namespace_specifier x
view_export_specifier (v_export_specifier.Default x) = view_export_default_specifier x
view_export_specifier (v_export_specifier.Named x) = view_export_named_specifier x

abbrev pub view_named_export : NamedExport Held → Tree
view_named_export x = tree.export_named x.span (listed (map view_export_specifier x.specifiers.items)) (view_option view_str x.src) (view_option view_object_lit x.with)

abbrev pub view_default_decl : DefaultDecl Held → Tree
view_default_decl (v_default_decl.Class x) = view_class_expr x
view_default_decl (v_default_decl.Fn x) = view_fn_expr x

abbrev pub view_export_default_decl : ExportDefaultDecl Held → Tree
view_export_default_decl x = tree.export_default_decl x.span (view_default_decl x.decl)

abbrev pub view_export_default_expr : ExportDefaultExpr Held → Tree
view_export_default_expr x = tree.export_default_expr x.span x.expr.node.tree

abbrev pub view_export_all : ExportAll Held → Tree
view_export_all x = tree.export_all x.span (view_str x.src) (view_option view_object_lit x.with)

abbrev pub view_module_decl : ModuleDecl Held → Tree
view_module_decl (v_module_decl.Import x) = view_import_decl x
view_module_decl (v_module_decl.ExportDecl x) = view_export_decl x
view_module_decl (v_module_decl.ExportNamed x) = view_named_export x
view_module_decl (v_module_decl.ExportDefaultDecl x) = view_export_default_decl x
view_module_decl (v_module_decl.ExportDefaultExpr x) = view_export_default_expr x
view_module_decl (v_module_decl.ExportAll x) = view_export_all x

abbrev pub view_module_item : ModuleItem Held → Tree
view_module_item (v_module_item.ModuleDecl x) = view_module_decl x
view_module_item (v_module_item.Stmt x) = view_stmt x

abbrev pub view_module : Module Held → Tree
view_module x = tree.module_program x.span (listed (map view_module_item x.body.items)) x.shebang

abbrev pub view_program : Program Held → Tree
view_program (v_program.Module x) = view_module x
view_program (v_program.Script x) = view_script x
