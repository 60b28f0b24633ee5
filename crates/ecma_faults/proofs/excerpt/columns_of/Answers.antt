-- Which character stands where.
use Rattle.std.proofs.Common.{◌≡◌, ◌<◌, ◌++◌, ◌∙◌, sym, arith, chars, length}
use Rattle.std.proofs.lemmas.Grind.{common_steps}
use Rattle.std.proofs.lemmas.Iterator.{YieldsList-from_chars}
use Rattle.std.proofs.lemmas.Iterator.Consumers.{YieldsList-turn, YieldsList-end}
use Rattle.std.proofs.lemmas.List.{length_push}
use Rattle.ecma_faults.specs.Excerpt.{rest_columns, cost}
use Rattle.ecma_faults.proofs.Chars.{summed_ends, summed_cut, summed_goes, summed_all}
use Rattle.ecma_faults.proofs.excerpt.columns_of.Goals as goal

pub returns-then-ends_line : goal.returns-then-ends_line
returns-then-ends_line c =
    let t = YieldsList-turn (YieldsList-from_chars c.args.text.now c.utf8.text cc) c.loop-c.yielded _ c.loop-c.yielded_by _ _ c.in-Some.c c.in-Some.is c.next.ensures.steps in
    summed_ends c.loop-c.sum (rest_columns c.args.room (chars c.args.text.now)) c.loop-c.left (chars c.args.text.now) (length c.loop-c.yielded) c.in-Some.c c.loop-c.invariant.sum t (sym c.ends_line.ensures ∙ c.if-ends_line.true)

pub returns-then-left-room_taken : goal.returns-then-left-room_taken
returns-then-left-room_taken c =
    let t = YieldsList-turn (YieldsList-from_chars c.args.text.now c.utf8.text cc) c.loop-c.yielded _ c.loop-c.yielded_by _ _ c.in-Some.c c.in-Some.is c.next.ensures.steps in
    let short : c.loop-c.left < cost c.in-Some.c = omega arith in
    summed_cut c.loop-c.sum (rest_columns c.args.room (chars c.args.text.now)) c.loop-c.left (chars c.args.text.now) (length c.loop-c.yielded) c.in-Some.c c.loop-c.invariant.sum t (sym c.ends_line.ensures ∙ c.if-ends_line.false) short

pub loop-c-preserved : goal.loop-c-preserved
loop-c-preserved c =
    let t = YieldsList-turn (YieldsList-from_chars c.args.text.now c.utf8.text cc) c.loop-c.yielded _ c.loop-c.yielded_by _ _ c.in-Some.c c.in-Some.is c.next.ensures.steps in
    record { sum = summed_goes c.loop-c.sum (rest_columns c.args.room (chars c.args.text.now)) c.loop-c.left (chars c.args.text.now) (length c.loop-c.yielded) c.in-Some.c c.width-sum.result c.room_taken-left.result _ c.loop-c.invariant.sum t (sym c.ends_line.ensures ∙ c.if-ends_line.false) (omega arith) c.width-sum.ensures.value c.room_taken-left.ensures.value (length_push c.loop-c.yielded c.in-Some.c); bound = omega arith }

pub returns : goal.returns
returns c =
    let t = YieldsList-end (YieldsList-from_chars c.args.text.now c.utf8.text cc) c.loop-c.yielded _ c.loop-c.yielded_by _ _ c.in-None.is c.next.ensures.steps in
    summed_all c.loop-c.sum (rest_columns c.args.room (chars c.args.text.now)) c.loop-c.left (chars c.args.text.now) (length c.loop-c.yielded) c.loop-c.invariant.sum (omega (arith, t.1))
