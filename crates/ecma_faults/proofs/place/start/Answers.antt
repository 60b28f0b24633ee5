-- The start of the text.
use Rattle.std.proofs.Common.{◌≡◌, ◌∙◌, sym, ap, arith}
use Rattle.ecma_faults.specs.Excerpt.{back}
use Rattle.ecma_faults.proofs.Back.{back_none}
use Rattle.ecma_faults.proofs.place.start.Goals as goal

pub returns : goal.returns
returns c =
    let none : c.loop-at.at ≡ 0 = omega arith in
    none ∙ sym (back_none c.args.places.now c.loop-at.edge c.loop-at.left)
    ∙ ap (back c.args.places.now c.loop-at.edge c.loop-at.left) (sym none) ∙ c.loop-at.invariant
