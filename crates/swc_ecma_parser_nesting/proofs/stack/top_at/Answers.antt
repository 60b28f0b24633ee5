use Rattle.std.proofs.Common.{ap, sym, ◌∙◌, arith}
use Rattle.swc_ecma_parser_nesting.specs.Stacked.{stacked, top_of}
use Rattle.swc_ecma_parser_nesting.proofs.Stacks.{none, top-stacked}
use Rattle.swc_ecma_parser_nesting.proofs.stack.top_at.Goals as goal

pub returns-then-count-eq0 : goal.returns-then-count-eq0
returns-then-count-eq0 c = sym (ap (λ n. top_of (stacked c.args.places.now n)) c.if-count-eq0.true ∙ ap top_of (none c.args.places.now))

pub returns-else-count-eq0 : goal.returns-else-count-eq0
returns-else-count-eq0 c = top-stacked c.args.places.now c.args.count (omega (arith, c.if-count-eq0.false))
