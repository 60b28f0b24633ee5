use Rattle.std.proofs.Common.{◌≡◌, Ok, Err}
use Rattle.std.proofs.lemmas.Result.{err_from_is_err_and}
use Rattle.swc_ecma_parser_error.specs.Kind.{Fault, fault_of}
use Rattle.swc_ecma_parser_grammar.specs.language.Items.{nested_item}
use Rattle.swc_ecma_parser_model.specs.Tree.{Tree}
use Rattle.swc_ecma_parser_reader.specs.Reader as rules
use Rattle.swc_ecma_parser_reader.specs.State.{State, Reader}
use Rattle.swc_ecma_parser_functions.proofs.Parts.{told_late}
use Rattle.swc_ecma_parser_function_bodies.proofs.Late.{directed_err, directed_found}
use Rattle.swc_ecma_parser_function_bodies.proofs.block.directed_block.Goals as goal

pub returns-in_err-misdirected : goal.returns-in_err-misdirected
returns-in_err-misdirected g c =
    let p = err_from_is_err_and c.from_residual-in_err-misdirected.result c.from_residual-in_err-misdirected.ensures.1 in
    let u = g.P.Cursor.seen c.function_body.new.p in
    let block = g.T.BuildsBlock.block_of c.in_ok-block.field-0.block in
    let body : Reader Tree = rules.function_body (rules.stmt (g.G.Readers.depth c.args.g.now) nested_item) (rules.parameters (g.G.Readers.depth c.args.g.now)) c.args.manner.is_async c.args.manner.is_generator in
    let e : Fault × State = (fault_of c.in_err-misdirected.field-0.0, g.P.Cursor.seen c.misdirected.new.p) in
    rw (p.1, p.2) (λ h. directed_err c.args.is_simple body (g.P.Cursor.seen c.args.p.now) u block c.in_ok-block.ensures.gives e
    (told_late (λ o. o ≡ Err e) c.args.is_simple block c.in_ok-block.field-0.strict_directive u c.in_ok-block.ensures.directive
    (λ b. c.in_err-misdirected.ensures.plain b h) (λ b. c.in_err-misdirected.ensures.late b h)))

pub returns : goal.returns
returns g c =
    let u = g.P.Cursor.seen c.function_body.new.p in
    let v = g.P.Cursor.seen c.misdirected.new.p in
    let block = g.T.BuildsBlock.block_of c.in_ok-block.field-0.block in
    let body : Reader Tree = rules.function_body (rules.stmt (g.G.Readers.depth c.args.g.now) nested_item) (rules.parameters (g.G.Readers.depth c.args.g.now)) c.args.manner.is_async c.args.manner.is_generator in
    directed_found c.args.is_simple body (g.P.Cursor.seen c.args.p.now) u block c.in_ok-block.ensures.gives v
    (told_late (λ o. o ≡ Ok (tt, v)) c.args.is_simple block c.in_ok-block.field-0.strict_directive u c.in_ok-block.ensures.directive
    c.in_ok-misdirected.ensures.plain c.in_ok-misdirected.ensures.late)
