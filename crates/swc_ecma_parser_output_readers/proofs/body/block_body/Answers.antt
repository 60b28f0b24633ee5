use Rattle.std.specs.Prelude.{map}
use Rattle.swc_ecma_parser_lists.specs.Ends.{ends_at}
use Rattle.swc_ecma_parser_output_readers.specs.ListLaws.{decides_each}
use Rattle.swc_ecma_parser_output_readers.proofs.body.block_body.Goals as goal

pub returns-clause-decides : goal.returns-clause-decides
returns-clause-decides g c =
    decides_each g.P.StmtLikeParser.in_code g.P.StmtLikeParser.language g.P.StmtLikeParser.item g.met.P.StmtLikeParser.is_exact g.met.P.StmtLikeParser.leaves g.met.P.StmtLikeParser.in_strict
    g.met.P.StmtLikeParser.takes (λ found. map g.Y.IsDirective.held found.items) c.args.limit c.args.at (ends_at c.args.end) c.args.directives _ _ _ c.items.ensures.gives
