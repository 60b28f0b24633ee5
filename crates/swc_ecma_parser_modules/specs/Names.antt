-- Names by which modules export something, as parts of the model's tree.
use Rattle.swc_ecma_parser_model.specs.declared.leaves.Str.{Str}
use Rattle.swc_ecma_parser_model.specs.Tree as tree
use Rattle.swc_ecma_parser_model.specs.Tree.{Tree}
use Rattle.swc_ecma_parser_modules.specs.declared.parts.Name.{Name}
use Rattle.swc_ecma_parser_modules.specs.declared.parts.Name.TheVariants as name

abbrev pub str_of : Str → Tree
str_of s = tree.str s.span s.value s.raw

abbrev pub name_of : Name → Tree
name_of (name.Word i) = tree.ident i.span i.sym
name_of (name.Str s) = str_of s
