use Rattle.swc_ecma_parser_output_readers.specs.ListLaws.{decides_one}
use Rattle.swc_ecma_parser_output_readers.proofs.like.stmt_like.Goals as goal

pub returns-clause-decides : goal.returns-clause-decides
returns-clause-decides g c =
    decides_one g.P.StmtLikeParser.in_code g.P.StmtLikeParser.language g.P.StmtLikeParser.item g.met.P.StmtLikeParser.is_exact g.Y.IsDirective.held c.args.limit c.args.at _ _ _ c.like_made.ensures
