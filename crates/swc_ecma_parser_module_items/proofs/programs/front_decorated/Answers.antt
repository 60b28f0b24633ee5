use Rattle.std.proofs.Common.{sym, ◌∙◌, ap}
use Rattle.swc_ecma_parser_reader.specs.State.{and_then}
use Rattle.swc_ecma_parser_module_reader.specs.Turns.{as_statement}
use Rattle.swc_ecma_parser_module_reader.proofs.Fronts.{deep_then}
use Rattle.swc_ecma_parser_module_reader.proofs.Turns.{turn_lowest}
use Rattle.swc_ecma_parser_module_items.proofs.programs.front_decorated.Goals as goal

-- what is too deep is refused as that, whatever was to be read
pub returns-then-limit-eq0 : goal.returns-then-limit-eq0
returns-then-limit-eq0 g c =
    let s = g.P.Cursor.seen c.args.p.now in
    λ m. turn_lowest c.args.limit s c.if-limit-eq0.true ∙ sym (deep_then s as_statement) ∙ ap (λ o. and_then o as_statement) (c.too_deep.ensures m)
