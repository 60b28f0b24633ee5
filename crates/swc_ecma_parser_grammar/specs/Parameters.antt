-- The parameters of a function as parts of its tree.
use Rattle.std.specs.Prelude.{List, [], map}
use Rattle.swc_ecma_parser_model.specs.Tree as tree
use Rattle.swc_ecma_parser_model.specs.Tree.{Tree, listed}
use Rattle.swc_ecma_parser_model.specs.Forms.{span_of}

-- A parameter of a function is as long as its pattern. No decorators stand before it.
abbrev pub parameter : Tree → Tree
parameter p = tree.param (span_of p) (listed []) p

abbrev pub parameters : List Tree → Tree
parameters ps = listed (map parameter ps)
