use Rattle.std.proofs.Common.{ap, sym, ◌∙◌}
use Rattle.std.specs.Str.{chars}
use Rattle.swc_ecma_parser_scan.specs.declared.state.State.TheVariants as state
use Rattle.swc_ecma_parser_scan.specs.Runs.{class_of}
use Rattle.swc_ecma_parser_scan.specs.Scan.{Munched, munch, settled}
use Rattle.swc_ecma_parser_scan.proofs.Blanks.{alone}
use Rattle.swc_ecma_parser_scan.proofs.Lone.{name-ends}
use Rattle.swc_ecma_parser_scan.proofs.Scans.{settled-same}
use Rattle.swc_ecma_parser_scan.proofs.piece.name.Goals as goal

pub returns-then-is_ascii_ahead-clause-state : goal.returns-then-is_ascii_ahead-clause-state
unfolding settled class_of
returns-then-is_ascii_ahead-clause-state c =
    let run = c.past_run-rest in
    let ends = name-ends run.result.now run.utf8 run.ensures.ends (c.is_ascii_ahead.ensures c.if-is_ascii_ahead.true) in
    let same = settled-same (chars c.args.behind.now) (alone state.Name (chars run.result.now)) (munch state.Name (chars c.args.behind.now))
    (ap (λ (m : Munched). m.state) (sym ends) ∙ run.ensures.state) (ap (λ (m : Munched). m.left) (sym ends) ∙ run.ensures.left) in
    same.0

pub returns-then-is_ascii_ahead-clause-rest : goal.returns-then-is_ascii_ahead-clause-rest
unfolding settled class_of
returns-then-is_ascii_ahead-clause-rest c =
    let run = c.past_run-rest in
    let ends = name-ends run.result.now run.utf8 run.ensures.ends (c.is_ascii_ahead.ensures c.if-is_ascii_ahead.true) in
    let same = settled-same (chars c.args.behind.now) (alone state.Name (chars run.result.now)) (munch state.Name (chars c.args.behind.now))
    (ap (λ (m : Munched). m.state) (sym ends) ∙ run.ensures.state) (ap (λ (m : Munched). m.left) (sym ends) ∙ run.ensures.left) in
    same.1

pub returns-else-is_ascii_ahead-clause-state : goal.returns-else-is_ascii_ahead-clause-state
returns-else-is_ascii_ahead-clause-state c =
    let run = c.past_run-rest in
    let same = settled-same (chars c.args.behind.now) (munch state.Name (chars run.result.now)) (munch state.Name (chars c.args.behind.now)) run.ensures.state run.ensures.left in
    c.long_name.ensures.state ∙ same.0

pub returns-else-is_ascii_ahead-clause-rest : goal.returns-else-is_ascii_ahead-clause-rest
returns-else-is_ascii_ahead-clause-rest c =
    let run = c.past_run-rest in
    let same = settled-same (chars c.args.behind.now) (munch state.Name (chars run.result.now)) (munch state.Name (chars c.args.behind.now)) run.ensures.state run.ensures.left in
    c.long_name.ensures.rest ∙ same.1
