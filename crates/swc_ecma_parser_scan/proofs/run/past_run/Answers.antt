use Rattle.std.proofs.Common.{◌≡◌, true, length, length-drop, get_or, refl, ap, sym, ◌∙◌, arith}
use Rattle.std.specs.Str.{chars}
use Rattle.std.proofs.lemmas.Str.{IsCharBoundary-from_drop}
use Rattle.swc_ecma_parser_scan.specs.Scan.{munch}
use Rattle.swc_ecma_parser_scan.specs.Runs.{class_of, is_of}
use Rattle.swc_ecma_parser_scan.proofs.Runs.{over}
use Rattle.swc_ecma_parser_scan.proofs.run.past_run.Goals as goal

pub loop-at-init : goal.loop-at-init
loop-at-init c = record { within = omega arith; utf8 = c.utf8.text; state = refl; left = refl }

pub loop-at-preserved : goal.loop-at-preserved
loop-at-preserved c =
    let text = c.args.text.now in
    let at = c.loop-at.at in
    let stays : is_of (class_of c.args.state) (get_or text at 0) ≡ true =
    ap (λ k. is_of k (get_or text at 0)) (sym c.class_of-class.ensures)
    ∙ ap (λ bs. is_of c.class_of-class.result (get_or bs at 0)) (sym c.as_bytes-bytes.ensures.value)
    ∙ sym c.is_of.ensures ∙ c.if-is_of.true in
    let o = over c.args.state text at c.loop-at.invariant.utf8 (omega arith) stays in
    record {
      within = omega arith;
      utf8 = o.utf8;
      state = sym o.state ∙ c.loop-at.invariant.state;
      left = sym o.left ∙ c.loop-at.invariant.left;
    }

pub range_from-requires : goal.range_from-requires
range_from-requires c = λ _. IsCharBoundary-from_drop c.args.text.now c.loop-at.at c.loop-at.invariant.within c.loop-at.invariant.utf8

pub returns-clause-state : goal.returns-clause-state
returns-clause-state c = ap (λ xs. (munch c.args.state (chars xs)).state) c.range_from.ensures.value ∙ c.loop-at.invariant.state

pub returns-clause-left : goal.returns-clause-left
returns-clause-left c = ap (λ xs. (munch c.args.state (chars xs)).left) c.range_from.ensures.value ∙ c.loop-at.invariant.left

pub returns-clause-shorter : goal.returns-clause-shorter
returns-clause-shorter c = omega (arith, ap length c.range_from.ensures.value, length-drop c.loop-at.at c.args.text.now)
