use Rattle.std.proofs.Common.{map, sym, ◌∙◌}
use Rattle.std.proofs.lemmas.List.{map_push}
use Rattle.std.proofs.lemmas.Result.{err_from_is_err_and}
use Rattle.swc_ecma_parser_reader.proofs.classes.Loops.{members_more}
use Rattle.swc_ecma_parser_classes.proofs.Members.{members_err, members_told_err, member_shorter}
use Rattle.swc_ecma_parser_classes.proofs.class.members.Goals as goal

pub returns-in_err-member : goal.returns-in_err-member
returns-in_err-member g c =
    let p = err_from_is_err_and c.from_residual.result c.from_residual.ensures.1 in
    rw (p.1, p.2) (λ h. c.members.invariant
    ∙ members_err (g.C.ClassReaders.depth c.args.c.now) (record { found = map g.T.BuildsClass.member_of c.members.found.items; constructed = c.members.has_constructor }) (g.P.Cursor.seen c.members.p) _
    (sym c.closes.ensures ∙ c.members-test.true) (c.in_err-member.ensures h))

pub returns-in_err-second_constructor : goal.returns-in_err-second_constructor
returns-in_err-second_constructor g c =
    let p = err_from_is_err_and c.from_residual-in_err-second_constructor.result c.from_residual-in_err-second_constructor.ensures.1 in
    rw (p.1, p.2) (λ h. c.members.invariant
    ∙ members_told_err (g.C.ClassReaders.depth c.args.c.now) (record { found = map g.T.BuildsClass.member_of c.members.found.items; constructed = c.members.has_constructor }) (g.P.Cursor.seen c.members.p) _ _ _
    (sym c.closes.ensures ∙ c.members-test.true) c.in_ok-member.ensures (c.in_err-second_constructor.ensures h))

pub members-smaller : goal.members-smaller
members-smaller g c =
    rw (c.in_ok-pushed.ensures.state) (member_shorter (g.C.ClassReaders.depth c.args.c.now) _ (g.P.Cursor.seen c.members.p) _ _ _ c.in_ok-member.ensures c.in_ok-second_constructor.ensures)

pub members-preserved : goal.members-preserved
members-preserved g c =
    rw (c.in_ok-pushed.ensures.items, map_push, c.in_ok-pushed.ensures.state, c.with_constructor-has_constructor.ensures) (c.members.invariant
    ∙ members_more (g.C.ClassReaders.depth c.args.c.now) (record { found = map g.T.BuildsClass.member_of c.members.found.items; constructed = c.members.has_constructor }) (g.P.Cursor.seen c.members.p) _ _ _
    (sym c.closes.ensures ∙ c.members-test.true) c.in_ok-member.ensures c.in_ok-second_constructor.ensures)
