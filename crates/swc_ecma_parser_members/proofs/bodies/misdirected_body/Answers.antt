use Rattle.swc_ecma_parser_reader.specs.State.{Gives}
use Rattle.swc_ecma_parser_functions.proofs.Parts.{told_late}
use Rattle.swc_ecma_parser_members.proofs.bodies.misdirected_body.Goals as goal

pub returns : goal.returns
returns g c =
    told_late (λ o. Gives o c.misdirected.result (g.P.Cursor.seen c.misdirected.new.p)) c.args.are_plain (g.T.BuildsBlock.block_of c.args.body.now.block) c.args.body.now.strict_directive (g.P.Cursor.seen c.args.p.now)
    c.requires c.misdirected.ensures.plain c.misdirected.ensures.late
