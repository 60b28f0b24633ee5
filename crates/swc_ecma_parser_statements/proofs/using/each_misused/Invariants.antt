use Rattle.std.proofs.Common.{◌≡◌, map, drop}
use Rattle.swc_ecma_parser_grammar.specs.scaffold.Using.{each_misused}
use Rattle.swc_ecma_parser_reader.specs.Jumps.{told}
use Rattle.swc_ecma_parser_statements.proofs.using.each_misused.Given as goal

-- what all of them come to is what the rest of them comes to
abbrev pub invariant-found : goal.invariant-found
invariant-found g l =
    told (each_misused l.span (map g.T.BuildsVariables.declarator_of l.found)) (g.P.Cursor.seen l.initial.p)
    ≡ told (each_misused l.span (map g.T.BuildsVariables.declarator_of (drop l.declarator-index l.found))) (g.P.Cursor.seen l.p)
