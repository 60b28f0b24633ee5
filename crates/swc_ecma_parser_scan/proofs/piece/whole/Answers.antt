use Rattle.std.proofs.Common.{ap, sym, ◌∙◌}
use Rattle.std.specs.Str.{chars}
use Rattle.swc_ecma_parser_scan.specs.declared.state.State.TheVariants as state
use Rattle.swc_ecma_parser_scan.specs.Scan.{Munched}
use Rattle.swc_ecma_parser_scan.proofs.Lone.{scan-begun, name-begun}
use Rattle.swc_ecma_parser_scan.proofs.piece.whole.Goals as goal

pub returns-then-is_name_start-clause-state : goal.returns-then-is_name_start-clause-state
returns-then-is_name_start-clause-state c =
    let begun = name-begun c.args.is_first c.args.c (sym c.is_name_start.ensures ∙ c.if-is_name_start.true) in
    c.name.ensures.state ∙ ap (λ (m : Munched). m.state) (sym (scan-begun c.args.is_first c.args.c (chars c.args.behind.now) state.Name begun))

pub returns-then-is_name_start-clause-rest : goal.returns-then-is_name_start-clause-rest
returns-then-is_name_start-clause-rest c =
    let begun = name-begun c.args.is_first c.args.c (sym c.is_name_start.ensures ∙ c.if-is_name_start.true) in
    c.name.ensures.rest ∙ ap (λ (m : Munched). m.left) (sym (scan-begun c.args.is_first c.args.c (chars c.args.behind.now) state.Name begun))
