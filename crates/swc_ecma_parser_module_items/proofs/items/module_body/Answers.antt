use Rattle.std.proofs.Common.{◌≡◌, true, false}
use Rattle.swc_ecma_parser_reader.proofs.Empty.{nothing_taken}
use Rattle.swc_ecma_parser_module_items.proofs.items.module_body.Goals as goal

pub returns-in_err-body-clause-outright : goal.returns-in_err-body-clause-outright
returns-in_err-body-clause-outright g c = λ h.
    let k : false ≡ true = c.in_err-body.ensures.outright (nothing_taken (g.P.Cursor.seen c.args.p.now) _ _ h c.in_ok-shebang.ensures.gives) in cc
