use Rattle.std.proofs.Common.{◌≡◌, take}
use Rattle.swc_ecma_parser_lexer.proofs.comment.CommentList.try_clone.Given as goal

abbrev pub invariant-loop-comment : goal.invariant-loop-comment
invariant-loop-comment l = l.comments.items ≡ take l.comment-index l.comment-items
