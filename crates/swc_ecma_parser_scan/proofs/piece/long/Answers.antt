use Rattle.std.proofs.Common.{ap, sym, ◌∙◌}
use Rattle.std.specs.Str.{chars}
use Rattle.swc_ecma_parser_scan.specs.Scan.{Munched}
use Rattle.swc_ecma_parser_scan.proofs.Lone.{scan-begun}
use Rattle.swc_ecma_parser_scan.proofs.piece.long.Goals as goal

pub returns-clause-state : goal.returns-clause-state
returns-clause-state c =
    c.other.ensures.state ∙ ap (λ (m : Munched). m.state) (sym (scan-begun c.args.is_first c.args.c (chars c.args.behind.now) c.begin.result (sym c.begin.ensures)))

pub returns-clause-rest : goal.returns-clause-rest
returns-clause-rest c =
    c.other.ensures.rest ∙ ap (λ (m : Munched). m.left) (sym (scan-begun c.args.is_first c.args.c (chars c.args.behind.now) c.begin.result (sym c.begin.ensures)))
