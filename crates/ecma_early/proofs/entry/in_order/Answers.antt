-- A stable sort by place.
use Rattle.std.proofs.Common.{rules}
use Rattle.std.proofs.lemmas.List.Sorted.{IsNonDecreasingBy-from_sort_by_key, answers_always}
use Rattle.ecma_early.proofs.InOrder.{put_in_order}
use Rattle.ecma_early.specs.Early.{place}
use Rattle.ecma_early.proofs.entry.in_order.Goals as goal

pub returns-clause-order : goal.returns-clause-order
returns-clause-order c = IsNonDecreasingBy-from_sort_by_key place _ c.in_ok-sort_by_key.ensures.sorted (λ a r q k. search rules)

pub returns-clause-errors : goal.returns-clause-errors
returns-clause-errors c = put_in_order _ _ (returns-clause-order c) (c.in_ok-sort_by_key.ensures.stable place (answers_always _ _ _ (λ f a r g h. search rules)))
