-- Whatever the language reads is supported.
use Rattle.std.proofs.Common.{zero, suc}
use Rattle.swc_ecma_parser_grammar.specs.language.Goals.{expr_goal, callee_goal, pattern_goal, element_goal, stmt_goal, member_goal, decorator_goal, using_goal, attributes_goal, item_goal}
use Rattle.swc_ecma_parser_grammar.specs.language.Reads.{Reads}
use Rattle.swc_ecma_parser_grammar.proofs.language.progress.Statements.{progress}
use Rattle.swc_ecma_parser_exactness.specs.Supports.{ReadIsSupported}
use Rattle.swc_ecma_parser_exactness.proofs.Parts.{member_whole}
use Rattle.swc_ecma_parser_exactness.proofs.Expressions.{primary_whole, left_whole, pattern_whole, pattern_element_whole, expr_whole, decorated_whole}
use Rattle.swc_ecma_parser_exactness.proofs.Statements.{using_name_whole, stmt_whole}
use Rattle.swc_ecma_parser_exactness.proofs.Items.{item_whole}

pub reads_whole : ReadIsSupported
reads_whole zero g h = absurd h
reads_whole (suc n) (expr_goal class k x c d) h = expr_whole (Reads n) (reads_whole n) class k x c d h
reads_whole (suc n) (callee_goal k x c d) h = left_whole (Reads n) (reads_whole n) h.0
reads_whole (suc n) (pattern_goal p k x c d) h = pattern_whole (Reads n) (reads_whole n) h
reads_whole (suc n) (element_goal p k x c d) h = pattern_element_whole (Reads n) (reads_whole n) h
reads_whole (suc n) (stmt_goal k at x c d) h = stmt_whole (Reads n) (reads_whole n) k at x c d h
reads_whole (suc n) (member_goal k x c d) h = member_whole (Reads n) (reads_whole n) h
reads_whole (suc n) (decorator_goal k x c d) h = decorated_whole (Reads n) (reads_whole n) h
reads_whole (suc n) (using_goal k x c d) h = using_name_whole (Reads n) (reads_whole n) h
reads_whole (suc n) (attributes_goal k x c d) h = primary_whole (Reads n) (reads_whole n) h.0
reads_whole (suc n) (item_goal k x c d) h = item_whole (Reads n) (reads_whole n) (progress n) h
