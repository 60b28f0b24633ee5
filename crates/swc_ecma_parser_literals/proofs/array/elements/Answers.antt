use Rattle.std.proofs.Common.{◌≡◌, true, false, Err, Ok, ◌<◌, length, refl, sym, subst, ◌∙◌}
use Rattle.std.proofs.lemmas.Result.{err_from_is_err_and}
use Rattle.swc_ecma_parser_error.specs.Kind.{Fault, fault_of}
use Rattle.swc_ecma_parser_token.specs.declared.kind.TokenKind.TheVariants as kind
use Rattle.swc_ecma_parser_trees.specs.Parts.{part_of}
use Rattle.swc_ecma_parser_grammar.specs.Looks.{sees}
use Rattle.swc_ecma_parser_reader.specs.State.{State, expect}
use Rattle.swc_ecma_parser_reader.specs.Expressions.{array_turn}
use Rattle.swc_ecma_parser_reader.specs.Reader.{expr, cover}
use Rattle.swc_ecma_parser_reader.proofs.expressions.Loops.{elements_err, elements_last, elements_more, elements_comma_err, item_shorter, items_shorter}
use Rattle.swc_ecma_parser_shared.specs.Covers.{cover_of, covers_of}
use Rattle.swc_ecma_parser_literals.proofs.Covers.{same_loop, commaed}
use Rattle.swc_ecma_parser_literals.proofs.array.elements.Goals as goal

pub returns-in_err-part : goal.returns-in_err-part
returns-in_err-part g c =
    let p = err_from_is_err_and c.from_residual-in_err-part.result c.from_residual-in_err-part.ensures.1 in
    rw (p.1, p.2) (λ h. c.elements.invariant ∙ elements_err (g.G.Readers.depth c.args.g.now) (covers_of (part_of g.T.BuildsCall.arg_of) c.elements.found) (g.P.Cursor.seen c.elements.p) _
    (sym c.if-sees.ensures) (sym c.if-sees-2.ensures) (c.in_err-part.ensures h))

pub returns-in_err-expect : goal.returns-in_err-expect
returns-in_err-expect g c =
    let p = err_from_is_err_and c.from_residual-in_err-expect.result c.from_residual-in_err-expect.ensures.1 in
    let same = c.in_ok-joined-2.ensures.state in
    let e : Fault × State = (fault_of c.in_err-expect.field-0.0, g.P.Cursor.seen c.expect.new.self) in
    rw (p.1, p.2) (λ h. c.elements.invariant ∙ elements_comma_err (g.G.Readers.depth c.args.g.now) (covers_of (part_of g.T.BuildsCall.arg_of) c.elements.found) (g.P.Cursor.seen c.elements.p)
    _ (g.P.Cursor.seen c.item.new.p) e (sym c.if-sees.ensures) (sym c.if-sees-2.ensures) c.in_ok-part.ensures
    (subst (λ u. sees kind.RBracket u.at ≡ false) same (sym c.if-not-sees.ensures)) (subst (λ u. expect kind.Comma u ≡ Err e) same (c.in_err-expect.ensures h)))

pub elements-preserved : goal.elements-preserved
elements-preserved g c =
    let n = (g.G.Readers.depth c.args.g.now) in
    let view = part_of g.T.BuildsCall.arg_of in
    let same = c.in_ok-joined-2.ensures.state in
    c.elements.invariant
    ∙ elements_last n (covers_of view c.elements.found) (g.P.Cursor.seen c.elements.p) _ (g.P.Cursor.seen c.item.new.p) (sym c.if-sees.ensures) (sym c.if-sees-2.ensures) c.in_ok-part.ensures
    (subst (λ u. sees kind.RBracket u.at ≡ true) same (sym c.if-not-sees.ensures))
    ∙ same_loop (array_turn (expr n) (cover n)) _ _ _ _ (c.in_ok-joined-2.ensures.found view) same

pub elements-preserved-then-not-sees : goal.elements-preserved-then-not-sees
elements-preserved-then-not-sees g c =
    let n = (g.G.Readers.depth c.args.g.now) in
    let view = part_of g.T.BuildsCall.arg_of in
    let same = c.in_ok-joined-2.ensures.state in
    c.elements.invariant
    ∙ elements_more n (covers_of view c.elements.found) (g.P.Cursor.seen c.elements.p) _ (g.P.Cursor.seen c.item.new.p) (g.P.Cursor.seen c.expect.new.self)
    (sym c.if-sees.ensures) (sym c.if-sees-2.ensures) c.in_ok-part.ensures
    (subst (λ u. sees kind.RBracket u.at ≡ false) same (sym c.if-not-sees.ensures))
    (subst (λ u. expect kind.Comma u ≡ Ok (tt, g.P.Cursor.seen c.expect.new.self)) same c.in_ok-expect.ensures)
    ∙ same_loop (array_turn (expr n) (cover n)) _ _ _ _ (commaed (covers_of view c.elements.found) _ _ _ _ (cover_of view c.in_ok-part.part) (c.behind_comma.ensures view) (c.in_ok-joined-2.ensures.found view) c.sees-is_spread.ensures) refl

pub elements-smaller : goal.elements-smaller
elements-smaller g c = subst (λ u. length u.at.left < length (g.P.Cursor.seen c.elements.p).at.left) (sym c.in_ok-joined-2.ensures.state)
    (item_shorter (g.G.Readers.depth c.args.g.now) (g.P.Cursor.seen c.elements.p) _ (g.P.Cursor.seen c.item.new.p) c.in_ok-part.ensures)

pub elements-smaller-then-not-sees : goal.elements-smaller-then-not-sees
elements-smaller-then-not-sees g c = items_shorter (g.G.Readers.depth c.args.g.now) (g.P.Cursor.seen c.elements.p) _ (g.P.Cursor.seen c.item.new.p) c.in_ok-part.ensures
    (g.P.Cursor.seen c.expect.new.self) (subst (λ u. expect kind.Comma u ≡ Ok (tt, g.P.Cursor.seen c.expect.new.self)) c.in_ok-joined-2.ensures.state c.in_ok-expect.ensures)
