-- Names that are exported, where a name for all that a module exports stands alone, and where it does not.
use Rattle.std.proofs.Common.{◌≡◌, ◌≢◌, ◌++◌, List, [], ◌∷◌, length, true, false, refl, map, codes, append-nil}
use Rattle.ecma_estree_writer.specs.Estree.{json, plain, bare, attributes, first_or}
use Rattle.ecma_estree_writer.specs.Parts.{node, key, end, open_list, end_list, nothing, comma, is_namespace_alone}
use Rattle.ecma_estree_writer.specs.Source.{Source}
use Rattle.swc_ecma_parser_ast.specs.View.{view_export_specifier, view_export_namespace_specifier, view_module_export_name}
use Rattle.swc_ecma_parser_ast.specs.declared.exports.ExportNamespaceSpecifier.{ExportNamespaceSpecifier}
use Rattle.swc_ecma_parser_ast.specs.declared.exports.ExportSpecifier.{ExportSpecifier}
use Rattle.swc_ecma_parser_ast.specs.declared.imports.ModuleExportName.{ModuleExportName}
use Rattle.swc_ecma_parser_ast.specs.declared.imports.ModuleExportName.TheVariants as n
use Rattle.swc_ecma_parser_common.specs.declared.span.Span.{Span}
use Rattle.swc_ecma_parser_model.specs.Tree as tree
use Rattle.swc_ecma_parser_model.specs.Tree.{Tree, list, listed, also, none}

pub not_one : (x : ExportSpecifier) (xs : List ExportSpecifier) → length xs ≢ 0
    → is_namespace_alone (listed (map view_export_specifier (x ∷ xs))) ≡ false
not_one x [] h = absurd (h refl)
not_one x (y ∷ ys) h = refl

bare_name : (t : Source) (x : ExportNamespaceSpecifier)
    → json t bare (list (also (view_export_namespace_specifier x) none)) ≡ json t plain (view_module_export_name x.name)
unfolding comma
bare_name t x = append-nil (json t plain (view_module_export_name x.name))

pub written_alone : (t : Source) (s : Span) (names src attrs : Tree) (x : ExportNamespaceSpecifier) → names ≡ list (also (view_export_namespace_specifier x) none)
    → json t plain (tree.export_named s names src attrs)
    ≡ node t (codes "ExportAllDeclaration") s ++ (key (codes "exported") ++ (json t plain (view_module_export_name x.name) ++ (key (codes "source") ++ (json t plain src
    ++ (key (codes "attributes") ++ (open_list ++ (json t attributes attrs ++ (end_list ++ end))))))))
written_alone t s names src attrs x h = rw (h, bare_name t x) refl

pub written_in_braces : (t : Source) (s : Span) (names src attrs : Tree) → is_namespace_alone names ≡ false
    → json t plain (tree.export_named s names src attrs)
    ≡ node t (codes "ExportNamedDeclaration") s ++ (key (codes "declaration") ++ (nothing ++ (key (codes "specifiers") ++ (open_list ++ (json t plain names ++ (end_list
    ++ (key (codes "source") ++ (json t plain src ++ (key (codes "attributes") ++ (open_list ++ (json t attributes attrs ++ (end_list ++ end))))))))))))
written_in_braces t s names src attrs h = rw h refl

pub first_name : (t : Source) (x : ModuleExportName) (other : Tree) → first_or t (view_module_export_name x) other ≡ json t plain (view_module_export_name x)
first_name t (n.Ident x) other = refl
first_name t (n.Str x) other = refl
