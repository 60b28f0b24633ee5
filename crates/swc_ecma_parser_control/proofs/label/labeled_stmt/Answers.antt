use Rattle.std.proofs.Common.{◌≡◌, Ok, Err, sym, ap, subst, ◌∙◌}
use Rattle.std.specs.Prelude.{IfOk}
use Rattle.std.proofs.lemmas.Result.{err_from_is_err_and}
use Rattle.swc_ecma_parser_common.specs.declared.span.Span.{Span}
use Rattle.swc_ecma_parser_error.specs.Kind.{Fault, fault_of}
use Rattle.swc_ecma_parser_model.specs.Tree as tree
use Rattle.swc_ecma_parser_grammar.specs.Looks.{span_at}
use Rattle.swc_ecma_parser_token.specs.declared.kind.TokenKind.TheVariants as kind
use Rattle.swc_ecma_parser_reader.specs.State.{State, expect}
use Rattle.swc_ecma_parser_reader.specs.Reader.{labeled_stmt, stmt}
use Rattle.swc_ecma_parser_functions.proofs.Parts.{made_gives}
use Rattle.swc_ecma_parser_control.proofs.Labels.{function_err, labeled_found, labeled_err, told_of_function}
use Rattle.swc_ecma_parser_control.proofs.label.labeled_stmt.Goals as goal

pub returns-in_err-labelled_function : goal.returns-in_err-labelled_function
returns-in_err-labelled_function g c =
    let p = err_from_is_err_and c.from_residual-in_err-labelled_function.result c.from_residual-in_err-labelled_function.ensures.1 in
    let label = c.in_ok-label.label in
    let t = g.P.Cursor.seen c.reference.new.self in
    let u = g.P.Cursor.seen c.grown.new.p in
    let v = g.P.Cursor.seen c.labelled_body.new.p in
    let x = g.T.Trees.stmt_of c.in_ok-body.body in
    let text = subst (λ r. IfOk r (λ a. a ≡ label.sym)) c.in_ok-text.ensures.made c.try_clone.ensures in
    let colon = subst (λ w. expect kind.Colon t ≡ Ok (tt, w)) (sym c.in_ok-text.ensures.state) c.in_ok-expect.ensures in
    let e : Fault × State = (fault_of c.in_err-labelled_function.field-0.0, g.P.Cursor.seen c.labelled_function.new.p) in
    rw (p.1, p.2) (λ h. function_err (g.G.Readers.depth c.args.g.now) (g.P.Cursor.seen c.args.p.now) t u v label c.in_ok-text.text x c.in_ok-label.ensures colon c.in_ok-body.ensures text e
    (told_of_function (λ o. o ≡ Err e) c.sees-is_function.result c.next_sees-is_starred.result u.at v x c.stmt_span.result c.sees-is_function.ensures c.next_sees-is_starred.ensures c.stmt_span.ensures (c.in_err-labelled_function.ensures h)))

pub returns-in_err-duplicates : goal.returns-in_err-duplicates
returns-in_err-duplicates g c =
    let p = err_from_is_err_and c.from_residual-in_err-duplicates.result c.from_residual-in_err-duplicates.ensures.1 in
    let label = c.in_ok-label.label in
    let t = g.P.Cursor.seen c.reference.new.self in
    let u = g.P.Cursor.seen c.grown.new.p in
    let v = g.P.Cursor.seen c.labelled_body.new.p in
    let y = g.P.Cursor.seen c.labelled_function.new.p in
    let x = g.T.Trees.stmt_of c.in_ok-body.body in
    let text = subst (λ r. IfOk r (λ a. a ≡ label.sym)) c.in_ok-text.ensures.made c.try_clone.ensures in
    let colon = subst (λ w. expect kind.Colon t ≡ Ok (tt, w)) (sym c.in_ok-text.ensures.state) c.in_ok-expect.ensures in
    let first = told_of_function (λ o. o ≡ Ok (tt, y)) c.sees-is_function.result c.next_sees-is_starred.result u.at v x c.stmt_span.result c.sees-is_function.ensures c.next_sees-is_starred.ensures c.stmt_span.ensures c.in_ok-labelled_function.ensures in
    let e : Fault × State = (fault_of c.in_err-duplicates.field-0.0, g.P.Cursor.seen c.duplicates.new.p) in
    rw (p.1, p.2) (λ h. labeled_err (g.G.Readers.depth c.args.g.now) (g.P.Cursor.seen c.args.p.now) t u v label c.in_ok-text.text x c.in_ok-label.ensures colon c.in_ok-body.ensures text y first e
    (c.in_err-duplicates.ensures h))

pub returns : goal.returns
returns g c =
    let label = c.in_ok-label.label in
    let s = g.P.Cursor.seen c.args.p.now in
    let t = g.P.Cursor.seen c.reference.new.self in
    let u = g.P.Cursor.seen c.grown.new.p in
    let v = g.P.Cursor.seen c.labelled_body.new.p in
    let y = g.P.Cursor.seen c.labelled_function.new.p in
    let w = g.P.Cursor.seen c.duplicates.new.p in
    let x = g.T.Trees.stmt_of c.in_ok-body.body in
    let text = subst (λ r. IfOk r (λ a. a ≡ label.sym)) c.in_ok-text.ensures.made c.try_clone.ensures in
    let colon = subst (λ z. expect kind.Colon t ≡ Ok (tt, z)) (sym c.in_ok-text.ensures.state) c.in_ok-expect.ensures in
    let first = told_of_function (λ o. o ≡ Ok (tt, y)) c.sees-is_function.result c.next_sees-is_starred.result u.at v x c.stmt_span.result c.sees-is_function.ensures c.next_sees-is_starred.ensures c.stmt_span.ensures c.in_ok-labelled_function.ensures in
    let whole : Span → Span = λ start. record { lo = start.lo; hi = v.at.last.hi } in
    let z = tree.labeled (whole (span_at s.at)) (tree.ident label.span label.sym) x in
    made_gives g.T.Trees.stmt_of (labeled_stmt (stmt (g.G.Readers.depth c.args.g.now)) s) z w (g.P.Cursor.seen c.grown-2.new.p) c.grown-2.result c.labeled.result
    (labeled_found (g.G.Readers.depth c.args.g.now) s t u v label c.in_ok-text.text x c.in_ok-label.ensures colon c.in_ok-body.ensures text y first w c.in_ok-duplicates.ensures)
    (subst (λ span. IfOk c.labeled.result (λ a. g.T.Trees.stmt_of a ≡ tree.labeled span (tree.ident label.span label.sym) x)) (c.since-span.ensures ∙ ap whole c.span-start.ensures) c.labeled.ensures)
    c.grown-2.ensures.made c.grown-2.ensures.state c.grown-2.ensures.err
