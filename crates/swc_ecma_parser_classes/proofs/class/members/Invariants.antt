use Rattle.std.proofs.Common.{◌≡◌, length, map}
use Rattle.swc_ecma_parser_grammar.specs.language.Goals.{left_side}
use Rattle.swc_ecma_parser_reader.specs.State.{loop}
use Rattle.swc_ecma_parser_reader.specs.Members as members
use Rattle.swc_ecma_parser_reader.specs.Reader as rules
use Rattle.swc_ecma_parser_classes.proofs.class.members.Given as goal

-- what the whole loop gives is what the rest of it gives
abbrev pub invariant-members : goal.invariant-members
invariant-members g l =
    let heritage = rules.expr (g.C.ClassReaders.depth l.c) left_side in
    let member = rules.member (g.C.ClassReaders.depth l.c) in
    members.members heritage member (g.P.Cursor.seen l.fn.p)
    ≡ loop (members.members_turn heritage member) (record { found = map g.T.BuildsClass.member_of l.found.items; constructed = l.has_constructor }) (g.P.Cursor.seen l.p)

abbrev pub decreases-members : goal.decreases-members
decreases-members g l = length (g.P.Cursor.seen l.p).at.left
