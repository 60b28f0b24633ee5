-- What is yet to be written, as text.
use Rattle.std.specs.Prelude.{ℕ, List, [], ◌∷◌, ◌++◌, false, map, codes}
use Rattle.ecma_estree_writer.specs.Parts.{node_at, key, word_field, bool_field, end, open_list, end_list, nothing, directive}
use Rattle.ecma_estree_writer.specs.Estree.{Role, plain, directives, members, attributes, function, json, jsons, function_fields, link_role}
use Rattle.ecma_estree_writer.specs.Source.{Source}
use Rattle.ecma_estree_writer.specs.declared.work.Work.{Work}
use Rattle.ecma_estree_writer.specs.declared.work.Work.TheVariants as w
use Rattle.swc_ecma_parser_ast.specs.Parts.{view_option}
use Rattle.swc_ecma_parser_ast.specs.View.{view_block_stmt, view_catch_clause, view_class_member, view_decl, view_declarator, view_decorator, view_export_specifier, view_expr_or_spread, view_function, view_ident, view_import_specifier, view_module_item, view_object_pat_prop, view_param, view_param_or_ts_param_prop, view_pat, view_private_name, view_prop_or_spread, view_stmt, view_str, view_switch_case, view_tpl, view_tpl_element}
use Rattle.swc_ecma_parser_model.specs.Tree.{trees}

abbrev pub work_text : Source → Work → List ℕ
work_text t w.End = end
work_text t w.OpenList = open_list
work_text t w.EndList = end_list
work_text t w.Nothing = nothing
work_text t w.Further = t.fields
work_text t (w.Key name) = key name.now
work_text t (w.Word name word) = word_field name.now word.now
work_text t (w.Bool name value) = bool_field name.now value
work_text t (w.Name x) = json t plain (view_ident x.now)
work_text t (w.PrivateName x) = json t plain (view_private_name x.now)
work_text t (w.Str x) = json t plain (view_str x.now)
work_text t (w.Directive x) = directive (view_str x.now)
work_text t (w.Expr x) = json t plain x.now.node.tree
work_text t (w.Link x) = json t (link_role x.now.node.tree) x.now.node.tree
work_text t (w.Template x) = json t plain (view_tpl x.now)
work_text t (w.Quasi x) = json t plain (view_tpl_element x.now)
work_text t (w.Quasis xs f) = jsons t plain f (trees (map view_tpl_element xs.now))
work_text t (w.Exprs xs f) = jsons t plain f (trees (map (λ b. b.node.tree) xs.now))
work_text t (w.Elements xs f) = jsons t plain f (trees (map (view_option view_expr_or_spread) xs.now))
work_text t (w.Argument x) = json t plain (view_expr_or_spread x.now)
work_text t (w.Arguments xs f) = jsons t plain f (trees (map view_expr_or_spread xs.now))
work_text t (w.Property x) = json t plain (view_prop_or_spread x.now)
work_text t (w.Properties xs f) = jsons t plain f (trees (map view_prop_or_spread xs.now))
work_text t (w.Attribute x) = json t attributes (view_prop_or_spread x.now)
work_text t (w.Attributes xs f) = jsons t attributes f (trees (map view_prop_or_spread xs.now))
work_text t (w.Pat x) = json t plain x.now.node.tree
work_text t (w.Pattern x) = json t plain (view_pat x.now)
work_text t (w.Patterns xs f) = jsons t plain f (trees (map view_pat xs.now))
work_text t (w.PatElements xs f) = jsons t plain f (trees (map (view_option (λ b. b.node.tree)) xs.now))
work_text t (w.PatProperty x) = json t plain (view_object_pat_prop x.now)
work_text t (w.PatProperties xs f) = jsons t plain f (trees (map view_object_pat_prop xs.now))
work_text t (w.Params xs f) = jsons t plain f (trees (map view_param xs.now))
work_text t (w.ConstructorParams xs f) = jsons t plain f (trees (map view_param_or_ts_param_prop xs.now))
work_text t (w.Decorator x) = json t plain (view_decorator x.now)
work_text t (w.Decorators xs f) = jsons t plain f (trees (map view_decorator xs.now))
work_text t (w.Function x start) = json t (function (codes "FunctionExpression") nothing start) (view_function x.now)
work_text t (w.Accessor start end) =
    node_at t (codes "FunctionExpression") start end ++ (function_fields nothing false false false ++ (key (codes "params") ++ open_list))
work_text t (w.ClassBody start end) = node_at t (codes "ClassBody") start end ++ (key (codes "body") ++ open_list)
work_text t (w.Member x) = json t members (view_class_member x.now)
work_text t (w.Members xs f) = jsons t members f (trees (map view_class_member xs.now))
work_text t (w.Stmt x) = json t plain x.now.node.tree
work_text t (w.Statement x) = json t plain (view_stmt x.now)
work_text t (w.Statements xs f) = jsons t plain f (trees (map view_stmt xs.now))
work_text t (w.Directives xs f) = jsons t directives f (trees (map view_stmt xs.now))
work_text t (w.Block x) = json t plain (view_block_stmt x.now)
work_text t (w.Body x) = json t directives (view_block_stmt x.now)
work_text t (w.Case x) = json t plain (view_switch_case x.now)
work_text t (w.Cases xs f) = jsons t plain f (trees (map view_switch_case xs.now))
work_text t (w.Catch x) = json t plain (view_catch_clause x.now)
work_text t (w.Declarator x) = json t plain (view_declarator x.now)
work_text t (w.Declarators xs f) = jsons t plain f (trees (map view_declarator xs.now))
work_text t (w.Declaration x) = json t plain (view_decl x.now)
work_text t (w.Item x) = json t plain (view_module_item x.now)
work_text t (w.Items xs f) = jsons t plain f (trees (map view_module_item xs.now))
work_text t (w.DirectiveItems xs f) = jsons t directives f (trees (map view_module_item xs.now))
work_text t (w.Imports xs f) = jsons t plain f (trees (map view_import_specifier xs.now))
work_text t (w.Exports xs f) = jsons t plain f (trees (map view_export_specifier xs.now))

-- the stack's top is its last
abbrev pub pending : Source → List Work → List ℕ
pending t [] = []
pending t (x ∷ xs) = pending t xs ++ work_text t x
