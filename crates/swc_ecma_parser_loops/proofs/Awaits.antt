-- The expression `await using`, as the grammar and the tree know it.
use Rattle.std.proofs.Common.{◌≡◌, refl, codes}
use Rattle.swc_ecma_parser_model.specs.Forms.{is_ident_named}
use Rattle.swc_ecma_parser_model.specs.Tree as tree
use Rattle.swc_ecma_parser_model.specs.Tree.{Tree}
use Rattle.swc_ecma_parser_grammar.specs.scaffold.Using.{awaits_using}
use Rattle.swc_ecma_parser_trees.specs.Parts.{awaited}

pub awaits_using_is : (x : Tree) → is_ident_named (codes "using") (awaited x) ≡ awaits_using x
unfolding awaits_using
awaits_using_is (tree.await s e) = refl
awaits_using_is _ = refl
