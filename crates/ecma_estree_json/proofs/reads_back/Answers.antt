use Rattle.ecma_estree_json.proofs.Trees.{reads_back}
use Rattle.ecma_estree_json.proofs.reads_back.Goals as goal

pub returns : goal.returns
returns c = reads_back
