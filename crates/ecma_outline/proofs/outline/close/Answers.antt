-- The end of a text is read as a line break, and one token more stands there.
use Rattle.std.proofs.Common.{rules, refl}
use Rattle.ecma_outline.proofs.Outlines.{finished}
use Rattle.ecma_outline.proofs.outline.close.Goals as goal

pub returns : goal.returns
returns c = finished c.args.text.now c.args.state c.in_ok-last.last c.args.it.now c.step.new.self _ c.requires.read c.in_ok-last.ensures.steps (search rules) refl refl
