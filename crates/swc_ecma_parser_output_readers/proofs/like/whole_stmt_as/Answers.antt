use Rattle.swc_ecma_parser_output_readers.specs.StatementLaws.{stmt_decides}
use Rattle.swc_ecma_parser_output_readers.proofs.like.whole_stmt_as.Goals as goal

pub returns-clause-decides : goal.returns-clause-decides
returns-clause-decides g c = stmt_decides g.Y.IsDirective.held c.args.limit c.args.at _ _ _ c.stmt_made.ensures
