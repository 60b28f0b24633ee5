-- A literal, a regular expression and a text of a template as trees.
use Rattle.swc_ecma_parser_model.specs.declared.leaves.Regex.{Regex}
use Rattle.swc_ecma_parser_model.specs.declared.leaves.TplElement.{TplElement}
use Rattle.swc_ecma_parser_model.specs.Tree as tree
use Rattle.swc_ecma_parser_model.specs.Tree.{Tree}
use Rattle.swc_ecma_parser_cursor.specs.declared.literal.Literal.{Literal}
use Rattle.swc_ecma_parser_cursor.specs.declared.literal.Literal.TheVariants as literal

abbrev pub literal_tree : Literal → Tree
literal_tree (literal.Str x) = tree.str x.span x.value x.raw
literal_tree (literal.Num x) = tree.num x.span x.raw
literal_tree (literal.BigInt x) = tree.big_int x.span x.raw
literal_tree (literal.Null x) = tree.null x.span
literal_tree (literal.Bool x) = tree.bool x.span x.value

abbrev pub regex_tree : Regex → Tree
regex_tree x = tree.regex x.span x.exp x.flags

abbrev pub quasi_tree : TplElement → Tree
quasi_tree x = tree.quasi x.span x.tail x.cooked x.raw
