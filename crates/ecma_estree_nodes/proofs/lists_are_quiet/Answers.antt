use Rattle.ecma_estree_nodes.proofs.Lists.{lists_quiet}
use Rattle.ecma_estree_nodes.proofs.lists_are_quiet.Goals as goal

pub returns : goal.returns
returns c = lists_quiet
