-- The comments so far.
use Rattle.std.proofs.Common.{◌≡◌, ◌++◌, take}
use Rattle.std.specs.List.{flat_map}
use Rattle.ecma_estree_lists.specs.Comments.{next_comment}
use Rattle.ecma_estree_lists.proofs.comments.push_rest.Given as goal

abbrev pub invariant-loop-comment : goal.invariant-loop-comment
invariant-loop-comment l = l.out.items ≡ l.initial.out.items ++ flat_map (next_comment l.places) (take l.comment-index l.rest)
