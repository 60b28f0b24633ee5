use Rattle.std.proofs.Common.{◌≡◌, [], subst}
use Rattle.swc_ecma_parser_grammar.specs.Own.{head_faults}
use Rattle.swc_ecma_parser_shared.specs.Covers.{cover_of}
use Rattle.swc_ecma_parser_loops.proofs.Targets.{read_target}
use Rattle.swc_ecma_parser_loops.proofs.head.as_left.Goals as goal

pub returns-in_ok-target-in-Expression-clause-target : goal.returns-in_ok-target-in-Expression-clause-target
returns-in_ok-target-in-Expression-clause-target g c = λ p e refused.
    let q : c.in_ok-target-in-Expression.field-0 ≡ p = cc in
    subst (λ y. head_faults refused (g.T.Trees.pat_of y) ≡ []) q
    (read_target (cover_of g.T.Trees.expr_of c.in-Expression.v) (g.P.Cursor.seen c.args.p.now) _ (g.P.Cursor.seen c.target.new.p) c.in_ok-target-in-Expression.ensures.gives refused)
