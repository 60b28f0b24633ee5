use Rattle.std.proofs.Common.{◌≡◌, length, map}
use Rattle.swc_ecma_parser_reader.specs.State.{loop}
use Rattle.swc_ecma_parser_reader.specs.Reader as rules
use Rattle.swc_ecma_parser_statements.proofs.variables.declarators.Given as goal

-- what the whole loop gives is what the rest of it gives
abbrev pub invariant-declarators : goal.invariant-declarators
invariant-declarators g l =
    let expr = rules.expr (g.G.Readers.depth l.g) in
    let pat = rules.pattern (g.G.Readers.depth l.g) in
    rules.declarators expr pat l.in_head l.word (g.P.Cursor.seen l.fn.p)
    ≡ loop (rules.declarators_turn expr pat l.in_head l.word) (map g.T.BuildsVariables.declarator_of l.found.items) (g.P.Cursor.seen l.p)

abbrev pub decreases-declarators : goal.decreases-declarators
decreases-declarators g l = length (g.P.Cursor.seen l.p).at.left
