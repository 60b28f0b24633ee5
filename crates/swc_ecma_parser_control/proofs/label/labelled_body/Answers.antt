use Rattle.std.proofs.Common.{◌≡◌, Bool, false, Ok, sym, ap, subst, ◌∙◌}
use Rattle.swc_ecma_parser_grammar.specs.declared.position.Position.{Position}
use Rattle.swc_ecma_parser_reader.specs.State.{coded}
use Rattle.swc_ecma_parser_reader.specs.Reader.{stmt}
use Rattle.swc_ecma_parser_control.proofs.Labels.{stepped, reached, labelled_reads, labelled_module}
use Rattle.swc_ecma_parser_control.proofs.label.labelled_body.Goals as goal

pub set_flags-requires-2 : goal.set_flags-requires-2
set_flags-requires-2 g c =
    let s = g.P.Cursor.seen c.args.p.now in
    let u = g.P.Cursor.seen c.push_label.new.self in
    let t = g.P.Cursor.seen c.stmt.new.p in
    let x = g.T.Trees.stmt_of c.in_ok-body.body in
    let item : Bool → Position = λ b. record { include_decl = b; top_level = false } in
    let b = reached c.args.label c.flags-outer.result c.in_breakable.result s (g.P.Cursor.seen c.set_flags.new.self) u c.flags-outer.ensures c.in_breakable.ensures c.set_flags.ensures (stepped _ u c.in_ok-push_label.ensures) in
    let h = subst (λ w. stmt (g.G.Readers.depth c.args.g.now) (item c.sees.result) w ≡ Ok (x, t)) b c.in_ok-body.ensures in
    ap (λ f. f.«module») c.flags-outer.ensures
    ∙ labelled_module (g.G.Readers.depth c.args.g.now) c.args.label s t (g.P.Cursor.seen c.pop_label.new.self) (item c.sees.result) x (ap item c.sees.ensures) h c.pop_label.ensures

pub returns : goal.returns
returns g c =
    let s = g.P.Cursor.seen c.args.p.now in
    let u = g.P.Cursor.seen c.push_label.new.self in
    let t = g.P.Cursor.seen c.stmt.new.p in
    let v = g.P.Cursor.seen c.pop_label.new.self in
    let x = g.T.Trees.stmt_of c.in_ok-body.body in
    let item : Bool → Position = λ b. record { include_decl = b; top_level = false } in
    let b = reached c.args.label c.flags-outer.result c.in_breakable.result s (g.P.Cursor.seen c.set_flags.new.self) u c.flags-outer.ensures c.in_breakable.ensures c.set_flags.ensures (stepped _ u c.in_ok-push_label.ensures) in
    let h = subst (λ w. stmt (g.G.Readers.depth c.args.g.now) (item c.sees.result) w ≡ Ok (x, t)) b c.in_ok-body.ensures in
    labelled_reads (g.G.Readers.depth c.args.g.now) c.args.label s t v (item c.sees.result) x (ap item c.sees.ensures) h c.pop_label.ensures
    ∙ ap (λ w. Ok (x, w)) (ap (λ f. coded (record v.code { flags = f }) v) (sym c.flags-outer.ensures) ∙ sym c.set_flags-2.ensures)
