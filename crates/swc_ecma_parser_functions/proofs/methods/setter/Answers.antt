use Rattle.std.proofs.Common.{◌≡◌, Ok, Err, map, sym, ap, subst, ◌∙◌}
use Rattle.std.specs.Prelude.{IfOk}
use Rattle.std.proofs.lemmas.Result.{err_from_is_err_and}
use Rattle.swc_ecma_parser_common.specs.declared.span.Span.{Span}
use Rattle.swc_ecma_parser_error.specs.Kind.{Fault, fault_of}
use Rattle.swc_ecma_parser_model.specs.Tree as tree
use Rattle.swc_ecma_parser_grammar.specs.Own.{misplaced_directive}
use Rattle.swc_ecma_parser_grammar.specs.language.Items.{nested_item}
use Rattle.swc_ecma_parser_shared.specs.Keys.{key_of}
use Rattle.swc_ecma_parser_reader.specs.Reader as rules
use Rattle.swc_ecma_parser_reader.specs.State.{State}
use Rattle.swc_ecma_parser_reader.specs.Reader.{told, stmt, setter}
use Rattle.swc_ecma_parser_functions.proofs.Parts.{told_late, made_gives}
use Rattle.swc_ecma_parser_functions.proofs.Setters.{setter_err, setter_found}
use Rattle.swc_ecma_parser_functions.proofs.methods.setter.Goals as goal

pub returns-in_err-misdirected : goal.returns-in_err-misdirected
returns-in_err-misdirected g c =
    let q = err_from_is_err_and c.from_residual-in_err-misdirected.result c.from_residual-in_err-misdirected.ensures.1 in
    let s = g.P.Cursor.seen c.args.p.now in
    let t = g.P.Cursor.seen c.parameters_inside.new.p in
    let a = g.P.Cursor.seen c.one_parameter.new.p in
    let u = g.P.Cursor.seen c.function_body.new.p in
    let ps = map g.T.Trees.pat_of c.in_ok-params.params.items in
    let x = g.T.Trees.pat_of c.in_ok-param.param in
    let body = g.T.BuildsBlock.block_of c.in_ok-block.field-0.block in
    let key = key_of g.T.Trees.expr_of c.args.key in
    let e : Fault × State = (fault_of c.in_err-misdirected.field-0.0, g.P.Cursor.seen c.misdirected.new.p) in
    rw (q.1, q.2) (λ h. setter_err (g.G.Readers.depth c.args.g.now) c.args.start key s t a u ps x body c.in_ok-params.ensures c.in_ok-param.ensures c.in_ok-block.ensures.gives e
    (subst (λ b. told (misplaced_directive b body) u ≡ Err e) c.is_binding_name.ensures
    (told_late (λ o. o ≡ Err e) c.is_binding_name.result body c.in_ok-block.field-0.strict_directive u c.in_ok-block.ensures.directive
    (λ b. c.in_err-misdirected.ensures.plain b h) (λ b. c.in_err-misdirected.ensures.late b h))))

pub returns : goal.returns
returns g c =
    let s = g.P.Cursor.seen c.args.p.now in
    let t = g.P.Cursor.seen c.parameters_inside.new.p in
    let a = g.P.Cursor.seen c.one_parameter.new.p in
    let u = g.P.Cursor.seen c.function_body.new.p in
    let v = g.P.Cursor.seen c.misdirected.new.p in
    let w = g.P.Cursor.seen c.grown.new.p in
    let ps = map g.T.Trees.pat_of c.in_ok-params.params.items in
    let x = g.T.Trees.pat_of c.in_ok-param.param in
    let body = g.T.BuildsBlock.block_of c.in_ok-block.field-0.block in
    let key = key_of g.T.Trees.expr_of c.args.key in
    let told_so : told (misplaced_directive c.is_binding_name.result body) u ≡ Ok (tt, v) =
    told_late (λ o. o ≡ Ok (tt, v)) c.is_binding_name.result body c.in_ok-block.field-0.strict_directive u c.in_ok-block.ensures.directive
    c.in_ok-misdirected.ensures.plain c.in_ok-misdirected.ensures.late in
    let found = setter_found (g.G.Readers.depth c.args.g.now) c.args.start key s t a u ps x body c.in_ok-params.ensures c.in_ok-param.ensures c.in_ok-block.ensures.gives v
    (subst (λ b. told (misplaced_directive b body) u ≡ Ok (tt, v)) c.is_binding_name.ensures told_so) in
    let whole : Span = record { lo = c.args.start.lo; hi = u.at.last.hi } in
    let z = tree.setter_prop whole key x body in
    let made : g.T.BuildsKey.key_of c.in_ok-key.key ≡ key = subst (λ r. IfOk r (λ y. g.T.BuildsKey.key_of y ≡ key)) c.in_ok-key.ensures.made c.made_key.ensures in
    let same : tree.setter_prop c.since-span.result (g.T.BuildsKey.key_of c.in_ok-key.key) x body ≡ z =
    ap (λ span. tree.setter_prop span (g.T.BuildsKey.key_of c.in_ok-key.key) x body) c.since-span.ensures ∙ ap (λ y. tree.setter_prop whole y x body) made in
    made_gives g.T.BuildsObject.prop_of (setter (stmt (g.G.Readers.depth c.args.g.now) nested_item) (rules.parameters (g.G.Readers.depth c.args.g.now)) c.args.start key s) z w (g.P.Cursor.seen c.grown-2.new.p) c.grown-2.result
    c.setter_prop.result (found ∙ ap (λ r. Ok (z, r)) (sym c.in_ok-key.ensures.state))
    (subst (λ r. IfOk c.setter_prop.result (λ y. g.T.BuildsObject.prop_of y ≡ r)) same c.setter_prop.ensures)
    c.grown-2.ensures.made c.grown-2.ensures.state c.grown-2.ensures.err
