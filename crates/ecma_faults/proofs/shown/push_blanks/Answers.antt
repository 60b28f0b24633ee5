-- All characters are read.
use Rattle.std.proofs.Common.{◌≡◌, ◌++◌, ◌∙◌, ap, flat_map}
use Rattle.std.proofs.lemmas.Iterator.{YieldsList-from_chars}
use Rattle.std.proofs.lemmas.Iterator.Consumers.{YieldsList-end}
use Rattle.ecma_faults.specs.Shown.{blank, blank_text}
use Rattle.ecma_faults.proofs.Chars.{all_read}
use Rattle.ecma_faults.proofs.shown.push_blanks.Goals as goal

pub returns : goal.returns
unfolding blank_text
returns c =
    let t = YieldsList-end (YieldsList-from_chars c.args.text.now c.utf8.text cc) c.loop-c.yielded _ c.loop-c.yielded_by _ _ c.in-None.is c.next.ensures.steps in
    c.loop-c.invariant ∙ ap (λ ys. c.args.out.now.items ++ flat_map (blank) ys) (all_read _ _ t.0)
