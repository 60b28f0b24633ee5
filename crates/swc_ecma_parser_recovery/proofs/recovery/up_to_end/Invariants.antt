use Rattle.std.proofs.Common.{◌≡◌, length}
use Rattle.swc_ecma_parser_reader.specs.State.{loop}
use Rattle.swc_ecma_parser_reader.specs.Recovery as recovery
use Rattle.swc_ecma_parser_recovery.proofs.recovery.up_to_end.Given as goal

-- what the whole loop gives is what the rest of it gives
abbrev pub invariant-tokens : goal.invariant-tokens
invariant-tokens g l = recovery.up_to_end (g.P.Cursor.seen l.fn.p) ≡ loop recovery.end_turn tt (g.P.Cursor.seen l.p)

abbrev pub decreases-tokens : goal.decreases-tokens
decreases-tokens g l = length (g.P.Cursor.seen l.p).at.left
