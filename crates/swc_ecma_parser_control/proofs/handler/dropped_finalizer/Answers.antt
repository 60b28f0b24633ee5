use Rattle.swc_ecma_parser_trees.specs.Parts.{part_of}
use Rattle.swc_ecma_parser_grammar.specs.language.Items.{nested_item}
use Rattle.swc_ecma_parser_reader.specs.Reader.{stmt, finalizer}
use Rattle.swc_ecma_parser_recovery.proofs.Dropped.{module_behind_answer, module_behind_refusal, dropped_gives}
use Rattle.swc_ecma_parser_control.proofs.Strays.{finalizer_passes}
use Rattle.swc_ecma_parser_control.proofs.handler.dropped_finalizer.Goals as goal

pub dropped-requires-clause-answered : goal.dropped-requires-clause-answered
dropped-requires-clause-answered g c = let n = (g.G.Readers.depth c.args.g.now) in
    module_behind_answer (part_of g.T.BuildsBlock.block_of) (finalizer (stmt n nested_item)) (finalizer_passes n) (g.P.Cursor.seen c.args.p.now) (g.P.Cursor.seen c.copy_around.new.self) (g.P.Cursor.seen c.finalizer-read.new.p) c.in_ok-around.ensures.state
    c.flags-outer.result c.flags-outer.ensures c.finalizer-read.result c.finalizer-read.ensures

pub dropped-requires-clause-refused : goal.dropped-requires-clause-refused
dropped-requires-clause-refused g c = let n = (g.G.Readers.depth c.args.g.now) in
    module_behind_refusal (part_of g.T.BuildsBlock.block_of) (finalizer (stmt n nested_item)) (finalizer_passes n) (g.P.Cursor.seen c.args.p.now) (g.P.Cursor.seen c.copy_around.new.self) (g.P.Cursor.seen c.finalizer-read.new.p) c.in_ok-around.ensures.state
    c.flags-outer.result c.flags-outer.ensures c.finalizer-read.result c.finalizer-read.ensures

pub returns : goal.returns
returns g c = let n = (g.G.Readers.depth c.args.g.now) in
    dropped_gives (part_of g.T.BuildsBlock.block_of) (finalizer (stmt n nested_item)) (finalizer_passes n) (g.P.Cursor.seen c.args.p.now) (g.P.Cursor.seen c.copy_around.new.self) (g.P.Cursor.seen c.finalizer-read.new.p) c.in_ok-around.ensures.state
    c.flags-outer.result c.flags-outer.ensures c.in_ok-around.around.labels.items c.in_ok-around.around.found_module_item c.in_ok-around.ensures.labels c.in_ok-around.ensures.found
    c.finalizer-read.result c.finalizer-read.ensures c.dropped.result (g.P.Cursor.seen c.dropped.new.p) c.dropped.ensures
