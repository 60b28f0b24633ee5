-- One byte more is read, and all are.
use Rattle.std.proofs.Common.{rules, ap, get_or, ◌∙◌}
use Rattle.ecma_outline.specs.Outline.{scanned, step}
use Rattle.ecma_outline.proofs.Outlines.{scan_all, scan_more}
use Rattle.ecma_outline.proofs.outline.take_all.Goals as goal

pub loop-byte-preserved : goal.loop-byte-preserved
loop-byte-preserved c =
    let before = scanned c.loop-byte.state c.loop-byte.it in
    let i = c.loop-byte.byte-index in
    record {
      read = c.in_ok-next.ensures.steps ∙ ap (λ bytes. step before (get_or bytes i 0)) c.as_bytes-byte-items.ensures.value
          ∙ scan_more c.args.text.now i before (search rules) c.loop-byte.invariant.read;
      at = search rules;
      indent = search rules;
    }

pub returns-clause-read : goal.returns-clause-read
returns-clause-read c = scan_all c.args.text.now c.loop-byte.byte-index (scanned c.loop-byte.state c.loop-byte.it) (search rules) c.loop-byte.invariant.read
