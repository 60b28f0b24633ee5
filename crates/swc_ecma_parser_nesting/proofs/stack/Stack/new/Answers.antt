use Rattle.swc_ecma_parser_nesting.proofs.Stacks.{none}
use Rattle.swc_ecma_parser_nesting.proofs.stack.Stack.new.Goals as goal

pub returns : goal.returns
returns c = none _
