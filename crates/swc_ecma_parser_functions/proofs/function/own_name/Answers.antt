use Rattle.std.proofs.Common.{Ok, sym, ap, ◌∙◌}
use Rattle.std.proofs.lemmas.Result.{err_from_is_err_and}
use Rattle.swc_ecma_parser_error.specs.Kind.{Fault, fault_of}
use Rattle.swc_ecma_parser_model.specs.Tree as tree
use Rattle.swc_ecma_parser_reader.specs.State.{State, coded}
use Rattle.swc_ecma_parser_functions.proofs.OwnNames.{own_code, back, no_name, name_err, goal_stays, name_found}
use Rattle.swc_ecma_parser_functions.proofs.function.own_name.Goals as goal

pub returns-then-not-name_at : goal.returns-then-not-name_at
returns-then-not-name_at g c =
    let s = g.P.Cursor.seen c.args.p.now in
    let d = g.P.Cursor.seen c.set_flags.new.self in
    let own = own_code c.args.manner.is_async c.args.manner.is_generator c.flags-outer.result c.named_by.result s d c.flags-outer.ensures c.named_by.ensures c.set_flags.ensures in
    no_name c.args.manner.is_async c.args.manner.is_generator s d own (sym c.if-not-name_at.ensures) ∙ ap (λ u. Ok (tree.absent, u)) (sym (c.set_flags-then-not-name_at.ensures ∙ back c.args.manner.is_async c.args.manner.is_generator s d own c.flags-outer.result c.flags-outer.ensures))

pub returns-in_err-name : goal.returns-in_err-name
returns-in_err-name g c =
    let p = err_from_is_err_and c.from_residual.result c.from_residual.ensures.1 in
    let s = g.P.Cursor.seen c.args.p.now in
    let d = g.P.Cursor.seen c.set_flags.new.self in
    let own = own_code c.args.manner.is_async c.args.manner.is_generator c.flags-outer.result c.named_by.result s d c.flags-outer.ensures c.named_by.ensures c.set_flags.ensures in
    let e : Fault × State = (fault_of c.in_err-name.field-0.0, g.P.Cursor.seen c.name.new.self) in
    rw (p.1, p.2) (λ h. name_err c.args.manner.is_async c.args.manner.is_generator s d own (sym c.if-not-name_at.ensures) e (c.in_err-name.ensures h))

pub set_flags-requires-2 : goal.set_flags-requires-2
set_flags-requires-2 g c =
    let s = g.P.Cursor.seen c.args.p.now in
    let d = g.P.Cursor.seen c.set_flags.new.self in
    let own = own_code c.args.manner.is_async c.args.manner.is_generator c.flags-outer.result c.named_by.result s d c.flags-outer.ensures c.named_by.ensures c.set_flags.ensures in
    ap (λ f. f.«module») c.flags-outer.ensures ∙ goal_stays c.args.manner.is_async c.args.manner.is_generator s d own (sym c.if-not-name_at.ensures) c.in_ok-name.name (g.P.Cursor.seen c.name.new.self) c.in_ok-name.ensures

pub returns : goal.returns
returns g c =
    let s = g.P.Cursor.seen c.args.p.now in
    let d = g.P.Cursor.seen c.set_flags.new.self in
    let t = g.P.Cursor.seen c.name.new.self in
    let own = own_code c.args.manner.is_async c.args.manner.is_generator c.flags-outer.result c.named_by.result s d c.flags-outer.ensures c.named_by.ensures c.set_flags.ensures in
    name_found c.args.manner.is_async c.args.manner.is_generator s d own (sym c.if-not-name_at.ensures) c.in_ok-name.name t c.in_ok-name.ensures
    ∙ ap (λ u. Ok (tree.ident c.in_ok-name.name.span c.in_ok-name.name.sym, u)) (sym (c.set_flags-2.ensures ∙ ap (λ f. coded (record t.code { flags = f }) t) c.flags-outer.ensures))
