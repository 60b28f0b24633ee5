use Rattle.std.proofs.Common.{◌<◌, length, arith, sym, ap, subst, ◌∙◌, map}
use Rattle.std.specs.List.{between}
use Rattle.std.proofs.lemmas.Grind.{common_steps}
use Rattle.swc_ecma_parser_model.specs.Tree.{trees}
use Rattle.swc_ecma_parser_grammar.specs.Own.{surplus}
use Rattle.swc_ecma_parser_reader.specs.Reader.{told}
use Rattle.swc_ecma_parser_reader.specs.State.{Gives}
use Rattle.swc_ecma_parser_loops.proofs.Misdeclared.{many_declared}
use Rattle.swc_ecma_parser_loops.proofs.head.misdeclared_variables.Goals as goal

pub returns : goal.returns
returns g c =
    let view = g.T.BuildsVariables.declarator_of in
    let x = c.args.declared.now in
    let many : 1 < length x.found.items = grind (arith, common_steps) in
    let same = ap (λ xs. surplus (trees (map view (between 1 (length xs) xs)))) c.as_slice-found.ensures.value in
    subst (λ fs. Gives (told fs (g.P.Cursor.seen c.args.p.now)) c.surplus.result (g.P.Cursor.seen c.surplus.new.p))
    (same ∙ sym (many_declared c.args.refused x.span x.word view x.found.items many)) c.surplus.ensures
