use Rattle.std.proofs.Common.{length, ap, arith}
use Rattle.swc_ecma_parser_nesting.specs.declared.nest.Nest.{Nest}
use Rattle.swc_ecma_parser_nesting.proofs.Rooms.{mark-room, word-room}
use Rattle.swc_ecma_parser_nesting.proofs.nest.Nest.pass.Goals as goal

pub returns-then-is_word-clause-room : goal.returns-then-is_word-clause-room
returns-then-is_word-clause-room c =
    omega (arith, word-room c.args.self.now c.args.kind c.args.name.now c.requires, ap (λ (n : Nest). length n.stack) c.word.ensures)

pub returns-else-is_word-clause-room : goal.returns-else-is_word-clause-room
returns-else-is_word-clause-room c =
    omega (arith, mark-room c.args.self.now c.args.kind c.requires, ap (λ (n : Nest). length n.stack) c.mark.ensures)
