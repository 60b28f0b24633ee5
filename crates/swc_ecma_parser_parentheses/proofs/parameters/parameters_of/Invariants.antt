use Rattle.std.proofs.Common.{◌≡◌, ◌++◌, length, map, option_map}
use Rattle.std.specs.Vec.Iter.{into_iter_items, into_iter_len}
use Rattle.swc_ecma_parser_reader.specs.Arrows.{parameters_of}
use Rattle.swc_ecma_parser_reader.specs.State.{and_then, pure}
use Rattle.swc_ecma_parser_shared.specs.Covers.{cover_of}
use Rattle.swc_ecma_parser_parentheses.proofs.parameters.parameters_of.Given as goal

-- what all of them give is what was found, before what those that are left give
abbrev pub invariant-parts : goal.invariant-parts
invariant-parts g l =
    let view = cover_of g.T.Trees.expr_of in
    let rest = into_iter_items l.part-iterator in
    (parameters_of (map view l.fn.parts.items) (option_map g.T.Trees.pat_of l.fn.rest) (g.P.Cursor.seen l.fn.p) ≡ and_then (parameters_of (map view rest) (option_map g.T.Trees.pat_of l.rest) (g.P.Cursor.seen l.p)) (λ xs. pure (map g.T.Trees.pat_of l.found.items ++ xs)))
    × (into_iter_len l.part-iterator ≡ length rest)
