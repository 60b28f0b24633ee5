use Rattle.std.proofs.Common.{◌≡◌, map, drop}
use Rattle.swc_ecma_parser_grammar.specs.Own as own
use Rattle.swc_ecma_parser_model.specs.Tree.{trees}
use Rattle.swc_ecma_parser_reader.specs.Reader as rules
use Rattle.swc_ecma_parser_loops.proofs.head.surplus.Given as goal

-- what all of them come to is what the rest of them comes to
abbrev pub invariant-others : goal.invariant-others
invariant-others g l =
    rules.told (own.surplus (trees (map g.T.BuildsVariables.declarator_of l.others))) (g.P.Cursor.seen l.initial.p)
    ≡ rules.told (own.surplus (trees (map g.T.BuildsVariables.declarator_of (drop l.other-index l.others)))) (g.P.Cursor.seen l.p)
