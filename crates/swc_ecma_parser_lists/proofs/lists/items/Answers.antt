use Rattle.std.proofs.Common.{◌≡◌, List, Vec, Global, map, refl, subst}
use Rattle.swc_ecma_parser_model.specs.Tree.{Tree}
use Rattle.swc_ecma_parser_reader.specs.Reader.{directs, items, items_turn}
use Rattle.swc_ecma_parser_reader.specs.State.{GivesAs, loop}
use Rattle.swc_ecma_parser_lists.specs.Ends.{ends_at}
use Rattle.swc_ecma_parser_lists.proofs.lists.items.Goals as goal

pub returns-clause-gives : goal.returns-clause-gives
unfolding items
returns-clause-gives g c = subst (λ l. c.args.directives ≡ directs c.args.directives (map g.L.Listed.held l)
    → GivesAs {A = Vec g.row.L-Item.Denot Global} {B = List Tree} (λ found. map g.L.Listed.held found.items) (loop (items_turn (g.L.Listed.item c.args.limit c.args.at) (ends_at c.args.end) c.args.directives) (map g.L.Listed.held l) (g.P.Cursor.seen c.args.p.now)) c.items_behind.result (g.P.Cursor.seen c.items_behind.new.p))
    c.new-none.ensures.items (c.items_behind.ensures.gives c.args.directives) refl
