use Rattle.ecma_estree_json.proofs.Lists.{lists_are_fields}
use Rattle.ecma_estree_json.proofs.lists_are_fields.Goals as goal

pub returns : goal.returns
returns c = lists_are_fields
