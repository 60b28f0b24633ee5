use Rattle.std.proofs.Common.{◌≡◌, [], Ok, Err, map, ap, subst, ◌∙◌}
use Rattle.std.specs.Prelude.{IfOk}
use Rattle.std.proofs.lemmas.Result.{err_from_is_err_and}
use Rattle.swc_ecma_parser_common.specs.declared.span.Span.{Span}
use Rattle.swc_ecma_parser_error.specs.Kind.{Fault, fault_of}
use Rattle.swc_ecma_parser_model.specs.Tree as tree
use Rattle.swc_ecma_parser_model.specs.Tree.{Tree, listed, trees}
use Rattle.swc_ecma_parser_model.specs.Forms.{are_plain_params}
use Rattle.swc_ecma_parser_grammar.specs.Parameters.{parameter, parameters}
use Rattle.swc_ecma_parser_grammar.specs.Own.{misplaced_directive}
use Rattle.swc_ecma_parser_grammar.specs.language.Items.{nested_item}
use Rattle.swc_ecma_parser_reader.specs.Reader as rules
use Rattle.swc_ecma_parser_reader.specs.State.{State}
use Rattle.swc_ecma_parser_reader.specs.Dressed.{function_parts_with}
use Rattle.swc_ecma_parser_reader.specs.Reader.{told, stmt}
use Rattle.swc_ecma_parser_functions.proofs.Parts.{told_late, parts_err, parts_found, behind_err, behind_found, made_gives}
use Rattle.swc_ecma_parser_functions.proofs.function.function_parts_with.Goals as goal

pub returns-in_err-misdirected : goal.returns-in_err-misdirected
returns-in_err-misdirected g c =
    let p = err_from_is_err_and c.from_residual-in_err-misdirected.result c.from_residual-in_err-misdirected.ensures.1 in
    let s = g.P.Cursor.seen c.args.p.now in
    let t = g.P.Cursor.seen c.parameters_inside.new.p in
    let u = g.P.Cursor.seen c.function_body.new.p in
    let ps = map g.T.Trees.pat_of c.in_ok-pats.pats.items in
    let body = g.T.BuildsBlock.block_of c.in_ok-block.field-0.block in
    let e : Fault × State = (fault_of c.in_err-misdirected.field-0.0, g.P.Cursor.seen c.misdirected.new.p) in
    let plain : c.are_plain.result ≡ are_plain_params (trees (map parameter ps)) = c.are_plain.ensures ∙ ap (λ xs. are_plain_params (trees (map g.T.BuildsFunction.param_of xs))) c.deref.ensures.value ∙ ap (λ xs. are_plain_params (trees xs)) c.in_ok-params.ensures.made in
    rw (p.1, p.2) (λ h. behind_err (stmt (g.G.Readers.depth c.args.g.now) nested_item) (rules.parameters (g.G.Readers.depth c.args.g.now)) (map g.T.BuildsFunction.decorator_of c.args.decorators.items) c.args.manner.is_async c.args.manner.is_generator c.args.start s e
    (parts_err c.args.manner.is_async c.args.manner.is_generator (g.G.Readers.depth c.args.g.now) c.args.start s t u ps body c.in_ok-pats.ensures c.in_ok-block.ensures.gives e
    (subst (λ b. told (misplaced_directive b body) u ≡ Err e) plain
    (subst (λ w. told (misplaced_directive c.are_plain.result body) w ≡ Err e) c.in_ok-params.ensures.state
    (told_late (λ o. o ≡ Err e) c.are_plain.result body c.in_ok-block.field-0.strict_directive (g.P.Cursor.seen c.as_params.new.p) c.in_ok-block.ensures.directive
    (λ b. c.in_err-misdirected.ensures.plain b h) (λ b. c.in_err-misdirected.ensures.late b h))))))

pub returns : goal.returns
returns g c =
    let s = g.P.Cursor.seen c.args.p.now in
    let t = g.P.Cursor.seen c.parameters_inside.new.p in
    let u = g.P.Cursor.seen c.function_body.new.p in
    let v = g.P.Cursor.seen c.misdirected.new.p in
    let ps = map g.T.Trees.pat_of c.in_ok-pats.pats.items in
    let body = g.T.BuildsBlock.block_of c.in_ok-block.field-0.block in
    let plain : c.are_plain.result ≡ are_plain_params (trees (map parameter ps)) = c.are_plain.ensures ∙ ap (λ xs. are_plain_params (trees (map g.T.BuildsFunction.param_of xs))) c.deref.ensures.value ∙ ap (λ xs. are_plain_params (trees xs)) c.in_ok-params.ensures.made in
    let told_so : told (misplaced_directive (are_plain_params (trees (map parameter ps))) body) u ≡ Ok (tt, v) = subst (λ b. told (misplaced_directive b body) u ≡ Ok (tt, v)) plain
    (subst (λ w. told (misplaced_directive c.are_plain.result body) w ≡ Ok (tt, v)) c.in_ok-params.ensures.state
    (told_late (λ o. o ≡ Ok (tt, v)) c.are_plain.result body c.in_ok-block.field-0.strict_directive (g.P.Cursor.seen c.as_params.new.p) c.in_ok-block.ensures.directive
    c.in_ok-misdirected.ensures.plain c.in_ok-misdirected.ensures.late)) in
    let made : Span → Tree → Tree → Tree → Tree = λ span ds qs b. tree.function span ds qs b c.args.manner.is_async c.args.manner.is_generator in
    let ds = map g.T.BuildsFunction.decorator_of c.args.decorators.items in
    let qs = listed (map g.T.BuildsFunction.param_of c.in_ok-params.params.items) in
    let whole : Span = record { lo = c.args.start.lo; hi = u.at.last.hi } in
    let z = made whole (listed ds) (parameters ps) body in
    let same : made c.since-span.result (listed ds) qs body ≡ z =
    ap (λ span. made span (listed ds) qs body) c.since-span.ensures
    ∙ ap (λ xs. made whole (listed ds) (listed xs) body) c.in_ok-params.ensures.made in
    made_gives g.T.BuildsFunction.function_of (function_parts_with (stmt (g.G.Readers.depth c.args.g.now) nested_item) (rules.parameters (g.G.Readers.depth c.args.g.now)) ds c.args.manner.is_async c.args.manner.is_generator c.args.start s) z v (g.P.Cursor.seen c.grown.new.p) c.grown.result
    c.function-function.result
    (behind_found (stmt (g.G.Readers.depth c.args.g.now) nested_item) (rules.parameters (g.G.Readers.depth c.args.g.now)) ds c.args.manner.is_async c.args.manner.is_generator c.args.start s (made whole (listed []) (parameters ps) body) v
    (parts_found c.args.manner.is_async c.args.manner.is_generator (g.G.Readers.depth c.args.g.now) c.args.start s t u ps body c.in_ok-pats.ensures c.in_ok-block.ensures.gives v told_so))
    (subst (λ q. IfOk c.function-function.result (λ y. g.T.BuildsFunction.function_of y ≡ q)) same c.function-function.ensures)
    c.grown.ensures.made c.grown.ensures.state c.grown.ensures.err
