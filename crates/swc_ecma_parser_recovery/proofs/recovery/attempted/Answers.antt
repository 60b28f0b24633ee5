use Rattle.swc_ecma_parser_grammar.specs.language.Contexts.{with_in}
use Rattle.swc_ecma_parser_grammar.specs.language.Goals.{expression}
use Rattle.swc_ecma_parser_reader.specs.Expressions.{inside}
use Rattle.swc_ecma_parser_reader.specs.Reader.{expr}
use Rattle.swc_ecma_parser_reader.specs.State.{within}
use Rattle.swc_ecma_parser_recovery.proofs.Dropped.{expr_passes, module_behind_refusal, dropped_gives}
use Rattle.swc_ecma_parser_recovery.proofs.recovery.attempted.Goals as goal

pub dropped-requires-clause-refused : goal.dropped-requires-clause-refused
unfolding inside
dropped-requires-clause-refused g c = let n = (g.G.Readers.depth c.args.g.now) in
    module_behind_refusal g.T.Trees.expr_of (within with_in (expr n expression)) (expr_passes n) (g.P.Cursor.seen c.args.p.now) (g.P.Cursor.seen c.copy_around.new.self) (g.P.Cursor.seen c.inside-read.new.p) c.in_ok-around.ensures.state
    c.flags-outer.result c.flags-outer.ensures c.inside-read.result c.inside-read.ensures

pub returns : goal.returns
unfolding inside
returns g c = let n = (g.G.Readers.depth c.args.g.now) in
    dropped_gives g.T.Trees.expr_of (within with_in (expr n expression)) (expr_passes n) (g.P.Cursor.seen c.args.p.now) (g.P.Cursor.seen c.copy_around.new.self) (g.P.Cursor.seen c.inside-read.new.p) c.in_ok-around.ensures.state
    c.flags-outer.result c.flags-outer.ensures c.in_ok-around.around.labels.items c.in_ok-around.around.found_module_item c.in_ok-around.ensures.labels c.in_ok-around.ensures.found
    c.inside-read.result c.inside-read.ensures c.dropped.result (g.P.Cursor.seen c.dropped.new.p) c.dropped.ensures
