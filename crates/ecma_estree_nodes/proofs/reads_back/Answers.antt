use Rattle.ecma_estree_nodes.proofs.Trees.{reads_back}
use Rattle.ecma_estree_nodes.proofs.reads_back.Goals as goal

pub returns : goal.returns
returns c = reads_back
