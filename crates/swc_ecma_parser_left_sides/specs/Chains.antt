-- What goes on with an expression, as a link of an optional chain.
use Rattle.std.specs.Prelude.{Bool, Ok}
use Rattle.swc_ecma_parser_model.specs.Tree.{Tree}
use Rattle.swc_ecma_parser_reader.specs.State.{Outcome, and_then}
use Rattle.swc_ecma_parser_reader.specs.Expressions as exprs

-- what was read as a link, behind `?.` or not
abbrev pub as_link : (optional : Bool) → Outcome Tree → Outcome Tree
as_link optional o = and_then o (λ y s. Ok (exprs.chain_of optional y, s))

-- what was read behind an expression, which is a link where that is a chain
abbrev pub linked_to : Tree → Outcome Tree → Outcome Tree
linked_to x o = and_then o (λ y s. Ok (exprs.linked x y, s))
