use Rattle.std.proofs.Common.{map, sym, ◌∙◌}
use Rattle.std.proofs.lemmas.List.{map_push}
use Rattle.std.proofs.lemmas.Result.{err_from_is_err_and}
use Rattle.swc_ecma_parser_grammar.specs.language.Items.{nested_item}
use Rattle.swc_ecma_parser_reader.specs.Reader.{stmt}
use Rattle.swc_ecma_parser_reader.proofs.Loops.{items_err, stmt_shorter}
use Rattle.swc_ecma_parser_bodies.specs.Bodies.{ends_of, directs_of}
use Rattle.swc_ecma_parser_bodies.proofs.Items.{body_more, body_next}
use Rattle.swc_ecma_parser_bodies.proofs.body.body_items.Goals as goal

pub returns-in_err-stmt : goal.returns-in_err-stmt
returns-in_err-stmt g c =
    let p = err_from_is_err_and c.from_residual.result c.from_residual.ensures.1 in
    rw (p.1, p.2) (λ h. c.items.invariant.0
    ∙ items_err (stmt (g.G.Readers.depth c.args.g.now) nested_item) (ends_of c.args.body) (directs_of c.args.body) (map g.T.Trees.stmt_of c.items.found.items) (g.P.Cursor.seen c.items.p) _ (sym c.ends.ensures ∙ c.items-test.true) (c.in_err-stmt.ensures h))

pub items-preserved : goal.items-preserved
items-preserved g c =
    let d = (g.G.Readers.depth c.args.g.now) in
    let s = g.P.Cursor.seen c.items.p in
    let found = map g.T.Trees.stmt_of c.items.found.items in
    let x = c.in_ok-stmt.ensures in
    rw (c.in_ok-pushed.ensures.items, map_push, c.in_ok-pushed.ensures.state, c.direct-directives.ensures.state, c.direct-directives.ensures.next) (
      c.items.invariant.0
          ∙ body_more (stmt d nested_item) (ends_of c.args.body) (directs_of c.args.body) found c.items.directives s _ _ c.items.invariant.1 (sym c.ends.ensures ∙ c.items-test.true) x
          (stmt_shorter d nested_item s _ _ x),
      body_next (directs_of c.args.body) found c.items.directives _ c.items.invariant.1,
    )

pub items-smaller : goal.items-smaller
items-smaller g c = rw (c.in_ok-pushed.ensures.state, c.direct-directives.ensures.state) (stmt_shorter (g.G.Readers.depth c.args.g.now) nested_item (g.P.Cursor.seen c.items.p) _ _ c.in_ok-stmt.ensures)
