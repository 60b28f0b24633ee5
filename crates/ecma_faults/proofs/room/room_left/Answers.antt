-- Which character stands where.
use Rattle.std.proofs.Common.{◌≡◌, ◌∙◌, sym, arith, chars, length}
use Rattle.std.proofs.lemmas.Iterator.{YieldsList-from_chars}
use Rattle.std.proofs.lemmas.Iterator.Consumers.{YieldsList-turn, YieldsList-end}
use Rattle.std.proofs.lemmas.List.{length_push}
use Rattle.ecma_faults.specs.Excerpt.{room_left}
use Rattle.ecma_faults.proofs.Chars.{left_goes, left_all}
use Rattle.ecma_faults.proofs.room.room_left.Goals as goal

pub loop-c-preserved : goal.loop-c-preserved
loop-c-preserved c =
    let t = YieldsList-turn (YieldsList-from_chars c.args.text.now c.utf8.text cc) c.loop-c.yielded _ c.loop-c.yielded_by _ _ c.in-Some.c c.in-Some.is c.next.ensures.steps in
    let next = c.saturating_sub-left.ensures in
    let kept = c.loop-c.invariant.bound in
    record { left = left_goes c.loop-c.left (room_left c.args.room (chars c.args.text.now)) (chars c.args.text.now) (length c.loop-c.yielded) c.in-Some.c c.room_taken.result c.saturating_sub-left.result _ c.loop-c.invariant.left t c.room_taken.ensures.value c.saturating_sub-left.ensures (length_push c.loop-c.yielded c.in-Some.c); bound = omega arith }

pub returns : goal.returns
returns c =
    let t = YieldsList-end (YieldsList-from_chars c.args.text.now c.utf8.text cc) c.loop-c.yielded _ c.loop-c.yielded_by _ _ c.in-None.is c.next.ensures.steps in
    record { value = left_all c.loop-c.left (room_left c.args.room (chars c.args.text.now)) (chars c.args.text.now) (length c.loop-c.yielded) c.loop-c.invariant.left (omega (arith, t.1)); bound = omega arith }
