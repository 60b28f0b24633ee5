use Rattle.std.proofs.Common.{ap, sym, ◌∙◌}
use Rattle.swc_ecma_parser_scan.specs.Scan.{Munched}
use Rattle.swc_ecma_parser_scan.proofs.Scans.{munch-past, munch-before, munch-nothing}
use Rattle.swc_ecma_parser_scan.proofs.piece.munch.Goals as goal

pub loop-c-init : goal.loop-c-init
loop-c-init c = record {
  text = c.past_run-rest.ensures.utf8;
  state = sym c.past_run-rest.ensures.state;
  left = sym c.past_run-rest.ensures.left;
}

pub loop-c-preserved : goal.loop-c-preserved
loop-c-preserved c =
    let e = munch-past c.loop-c.state c.in-Some-step.next c.in-Some.c _ _ c.in-Some.ensures.begins c.in-Some-step.ensures in
    let run = c.past_run-rest-in-Some-step.ensures in
    record {
      text = run.utf8;
      state = c.loop-c.invariant.state ∙ ap (λ (m : Munched). m.state) e ∙ sym run.state;
      left = c.loop-c.invariant.left ∙ ap (λ (m : Munched). m.left) e ∙ sym run.left;
    }

pub returns-in-None-clause-state : goal.returns-in-None-clause-state
returns-in-None-clause-state c =
    let e = munch-before c.loop-c.state c.in-Some.c _ _ c.in-Some.ensures.begins c.in-None.ensures in
    sym (c.loop-c.invariant.state ∙ ap (λ (m : Munched). m.state) e)

pub returns-in-None-clause-rest : goal.returns-in-None-clause-rest
returns-in-None-clause-rest c =
    let e = munch-before c.loop-c.state c.in-Some.c _ _ c.in-Some.ensures.begins c.in-None.ensures in
    sym (c.loop-c.invariant.left ∙ ap (λ (m : Munched). m.left) e)

pub returns-clause-state : goal.returns-clause-state
returns-clause-state c =
    let e = munch-nothing c.loop-c.state _ c.in_default.ensures in
    sym (c.loop-c.invariant.state ∙ ap (λ (m : Munched). m.state) e)

pub returns-clause-rest : goal.returns-clause-rest
returns-clause-rest c =
    let h = c.in_default.ensures in
    let e = munch-nothing c.loop-c.state _ h in
    h ∙ sym (c.loop-c.invariant.left ∙ ap (λ (m : Munched). m.left) e)
