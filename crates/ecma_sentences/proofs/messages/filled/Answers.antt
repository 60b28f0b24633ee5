-- All characters are read.
use Rattle.std.proofs.Common.{◌≡◌, ◌++◌, ◌∙◌, ap, flat_map}
use Rattle.std.proofs.lemmas.Iterator.{YieldsList-from_chars}
use Rattle.std.proofs.lemmas.Iterator.Consumers.{YieldsList-end}
use Rattle.ecma_situations.specs.Looked.{looked}
use Rattle.ecma_sentences.specs.Message.{filled, part}
use Rattle.ecma_sentences.proofs.Read.{all_read}
use Rattle.ecma_sentences.proofs.messages.filled.Goals as goal

pub returns : goal.returns
unfolding filled
returns c =
    let t = YieldsList-end (YieldsList-from_chars c.args.words.now c.utf8.words cc) c.loop-c.yielded _ c.loop-c.yielded_by _ _ c.in-None.is c.next.ensures.steps in
    c.loop-c.invariant ∙ ap (λ ys. flat_map (part (looked c.args.l.now)) ys) (all_read _ _ t.0)
