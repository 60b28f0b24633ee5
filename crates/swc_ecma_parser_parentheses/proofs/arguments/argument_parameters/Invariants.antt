use Rattle.std.proofs.Common.{◌≡◌, ◌++◌, length, map}
use Rattle.std.specs.Vec.Iter.{into_iter_items, into_iter_len}
use Rattle.swc_ecma_parser_reader.specs.AsyncArrows.{argument_parameters}
use Rattle.swc_ecma_parser_reader.specs.State.{and_then, pure}
use Rattle.swc_ecma_parser_parentheses.specs.Groups.{argument_of}
use Rattle.swc_ecma_parser_parentheses.proofs.arguments.argument_parameters.Given as goal

-- what all of them give is what was found, before what those that are left give
abbrev pub invariant-arguments : goal.invariant-arguments
invariant-arguments g l =
    let view = argument_of g.T.Trees.expr_of in
    let rest = into_iter_items l.argument-iterator in
    (argument_parameters (map view l.fn.arguments.items) (g.P.Cursor.seen l.fn.p) ≡ and_then (argument_parameters (map view rest) (g.P.Cursor.seen l.p)) (λ xs. pure (map g.T.Trees.pat_of l.found.items ++ xs)))
    × (into_iter_len l.argument-iterator ≡ length rest)
