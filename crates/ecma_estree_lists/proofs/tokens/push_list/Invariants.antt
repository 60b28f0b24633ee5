-- What is written and what is yet to be written stay the same together.
use Rattle.std.proofs.Common.{◌≡◌, ◌++◌, drop, true, None}
use Rattle.ecma_estree_lists.specs.Tokens.{token_list}
use Rattle.ecma_estree_lists.proofs.tokens.push_list.Given as goal

abbrev pub invariant-loop-token : goal.invariant-loop-token
invariant-loop-token l = l.out.items ++ token_list l.places l.is_first l.hash (drop l.token-index l.tokens) ≡ l.initial.out.items ++ token_list l.places true None l.tokens
