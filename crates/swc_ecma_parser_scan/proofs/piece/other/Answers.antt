use Rattle.std.proofs.Common.{◌∙◌}
use Rattle.std.specs.Str.{chars}
use Rattle.swc_ecma_parser_scan.specs.Scan.{munch}
use Rattle.swc_ecma_parser_scan.proofs.Scans.{settled-same}
use Rattle.swc_ecma_parser_scan.proofs.piece.other.Goals as goal

pub returns-clause-state : goal.returns-clause-state
returns-clause-state c =
    let same = settled-same (chars c.args.behind.now) _ (munch c.args.first (chars c.args.text.now)) c.munch.ensures.state c.munch.ensures.rest in
    c.settle.ensures.state ∙ same.0

pub returns-clause-rest : goal.returns-clause-rest
returns-clause-rest c =
    let same = settled-same (chars c.args.behind.now) _ (munch c.args.first (chars c.args.text.now)) c.munch.ensures.state c.munch.ensures.rest in
    c.settle.ensures.rest ∙ same.1
