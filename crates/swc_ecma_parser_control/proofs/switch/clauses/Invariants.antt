use Rattle.std.proofs.Common.{◌≡◌, length, map}
use Rattle.std.specs.Prelude.{is_some}
use Rattle.swc_ecma_parser_grammar.specs.language.Items.{nested_item}
use Rattle.swc_ecma_parser_grammar.specs.language.Goals.{expression}
use Rattle.swc_ecma_parser_reader.specs.State.{loop}
use Rattle.swc_ecma_parser_reader.specs.Reader as rules
use Rattle.swc_ecma_parser_control.proofs.switch.clauses.Given as goal

-- what the whole loop gives is what the rest of it gives
abbrev pub invariant-clauses : goal.invariant-clauses
invariant-clauses g l =
    let stmt = rules.stmt (g.G.Readers.depth l.g) nested_item in
    let expr = rules.expr (g.G.Readers.depth l.g) expression in
    rules.clauses stmt expr (g.P.Cursor.seen l.fn.p)
    ≡ loop (rules.clauses_turn stmt expr) (record { found = map g.T.BuildsSwitch.case_of l.found.items; has_default = is_some l.previous }) (g.P.Cursor.seen l.p)

abbrev pub decreases-clauses : goal.decreases-clauses
decreases-clauses g l = length (g.P.Cursor.seen l.p).at.left
