-- Which character stands where.
use Rattle.std.proofs.Common.{◌≡◌, ◌<◌, ◌++◌, ◌∙◌, sym, arith, chars, length}
use Rattle.std.proofs.lemmas.Grind.{common_steps}
use Rattle.std.proofs.lemmas.Iterator.{YieldsList-from_chars}
use Rattle.std.proofs.lemmas.Iterator.Consumers.{YieldsList-turn, YieldsList-end}
use Rattle.std.proofs.lemmas.List.{length_push}
use Rattle.ecma_faults.specs.Excerpt.{line_rest, cost}
use Rattle.ecma_faults.proofs.Chars.{written_ends, written_cut, written_goes, written_all}
use Rattle.ecma_faults.proofs.excerpt.push_rest.Goals as goal

pub returns-then-ends_line : goal.returns-then-ends_line
returns-then-ends_line c =
    let t = YieldsList-turn (YieldsList-from_chars c.args.text.now c.utf8.text cc) c.loop-c.yielded _ c.loop-c.yielded_by _ _ c.in-Some.c c.in-Some.is c.next.ensures.steps in
    written_ends c.loop-c.out.items (c.args.out.now.items ++ line_rest c.args.room (chars c.args.text.now)) c.loop-c.left (chars c.args.text.now) (length c.loop-c.yielded) c.in-Some.c c.loop-c.invariant t (sym c.ends_line.ensures ∙ c.if-ends_line.true)

pub returns-then-left-room_taken : goal.returns-then-left-room_taken
returns-then-left-room_taken c =
    let t = YieldsList-turn (YieldsList-from_chars c.args.text.now c.utf8.text cc) c.loop-c.yielded _ c.loop-c.yielded_by _ _ c.in-Some.c c.in-Some.is c.next.ensures.steps in
    let short : c.loop-c.left < cost c.in-Some.c = omega arith in
    let e = written_cut c.loop-c.out.items (c.args.out.now.items ++ line_rest c.args.room (chars c.args.text.now)) c.loop-c.left (chars c.args.text.now) (length c.loop-c.yielded) c.in-Some.c c.loop-c.invariant t (sym c.ends_line.ensures ∙ c.if-ends_line.false) short in
    grind (arith, common_steps)

pub loop-c-preserved : goal.loop-c-preserved
loop-c-preserved c =
    let t = YieldsList-turn (YieldsList-from_chars c.args.text.now c.utf8.text cc) c.loop-c.yielded _ c.loop-c.yielded_by _ _ c.in-Some.c c.in-Some.is c.next.ensures.steps in
    written_goes c.loop-c.out.items (c.args.out.now.items ++ line_rest c.args.room (chars c.args.text.now)) c.loop-c.left (chars c.args.text.now) (length c.loop-c.yielded) c.in-Some.c _ c.room_taken-left.result _ c.loop-c.invariant t (sym c.ends_line.ensures ∙ c.if-ends_line.false) (omega arith) c.in_ok-push_char.ensures c.room_taken-left.ensures.value (length_push c.loop-c.yielded c.in-Some.c)

pub returns : goal.returns
returns c =
    let t = YieldsList-end (YieldsList-from_chars c.args.text.now c.utf8.text cc) c.loop-c.yielded _ c.loop-c.yielded_by _ _ c.in-None.is c.next.ensures.steps in
    written_all c.loop-c.out.items (c.args.out.now.items ++ line_rest c.args.room (chars c.args.text.now)) c.loop-c.left (chars c.args.text.now) (length c.loop-c.yielded) c.loop-c.invariant (omega (arith, t.1))
