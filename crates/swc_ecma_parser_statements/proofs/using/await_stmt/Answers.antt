use Rattle.std.proofs.Common.{◌≡◌, true, sym, ap, ◌∙◌}
use Rattle.swc_ecma_parser_input.specs.declared.context.Context.{Context}
use Rattle.swc_ecma_parser_grammar.specs.language.Contexts.{with_in}
use Rattle.swc_ecma_parser_reader.specs.State.{State, moved, coded}
use Rattle.swc_ecma_parser_statements.proofs.AwaitStmt.{was_taken, code_stays}
use Rattle.swc_ecma_parser_statements.proofs.using.await_stmt.Goals as goal

pub set_flags-requires-2 : goal.set_flags-requires-2
set_flags-requires-2 g c =
    let s = g.P.Cursor.seen c.args.p.now in
    let u = g.P.Cursor.seen c.skip.new.self in
    let taken : u ≡ moved s = was_taken s u c.in_ok-skip.field-0 c.in_ok-skip.ensures in
    let inside : g.P.Cursor.seen c.set_flags.new.self ≡ coded (with_in u.code) u =
    c.set_flags.ensures ∙ ap {A = Context} (λ f. coded (record u.code { flags = f }) u) (c.with_in.ensures ∙ ap {A = Context} (λ f. record f { include_in_expr = true }) c.flags-outer.ensures) in
    ap {A = Context} (λ f. f.«module») c.flags-outer.ensures ∙ ap (λ (z : State). z.code.flags.«module») taken
    ∙ sym (code_stays (g.G.Readers.depth c.args.g.now) c.args.at s u (g.P.Cursor.seen c.set_flags.new.self) c.requires.begins taken inside c.span-start.result c.span-start.ensures _ _
    c.in_ok-found.ensures)
