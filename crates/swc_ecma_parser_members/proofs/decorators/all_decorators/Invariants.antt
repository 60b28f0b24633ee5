use Rattle.std.proofs.Common.{◌≡◌, [], length, map}
use Rattle.swc_ecma_parser_reader.specs.DecoratorLevels.{decorated_in}
use Rattle.swc_ecma_parser_reader.specs.Decorators.{decorators_turn}
use Rattle.swc_ecma_parser_reader.specs.State.{loop}
use Rattle.swc_ecma_parser_members.proofs.decorators.all_decorators.Given as goal

-- what the whole loop gives is what the rest of it gives
abbrev pub invariant-decorators : goal.invariant-decorators
invariant-decorators g l =
    let turn = decorators_turn (decorated_in (g.G.Readers.depth l.g)) in
    loop turn [] (g.P.Cursor.seen l.fn.p) ≡ loop turn (map g.T.BuildsFunction.decorator_of l.found.items) (g.P.Cursor.seen l.p)

abbrev pub decreases-decorators : goal.decreases-decorators
decreases-decorators g l = length (g.P.Cursor.seen l.p).at.left
