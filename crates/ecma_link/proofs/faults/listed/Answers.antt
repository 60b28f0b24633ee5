-- A fault more, and its words.
use Rattle.std.proofs.Common.{◌∙◌, ◌++◌, ap, rules}
use Rattle.ecma_link.specs.Faults.{words_of}
use Rattle.ecma_link.proofs.Words.{faults_more, words_more}
use Rattle.ecma_link.proofs.faults.listed.Goals as goal

pub loop-it-preserved : goal.loop-it-preserved
loop-it-preserved c = (
  search (rules, faults_more),
  words_more c.loop-it.words.items c.fault_of.new.words.items c.args.told.now c.loop-it.it-index c.it-item.result c.loop-it-test.true c.loop-it.invariant.1
      (c.in_ok-fault.ensures.words ∙ ap (λ it. c.loop-it.words.items ++ words_of it) c.it-item.is),
)
