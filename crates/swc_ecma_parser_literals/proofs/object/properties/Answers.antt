use Rattle.std.proofs.Common.{◌≡◌, true, false, Err, Ok, ◌<◌, length, refl, sym, ap, subst, ◌∙◌}
use Rattle.std.proofs.lemmas.Result.{err_from_is_err_and}
use Rattle.swc_ecma_parser_error.specs.Kind.{Fault, fault_of}
use Rattle.swc_ecma_parser_token.specs.declared.kind.TokenKind.TheVariants as kind
use Rattle.swc_ecma_parser_grammar.specs.Looks.{sees}
use Rattle.swc_ecma_parser_reader.specs.State.{State, and_then, pure, expect}
use Rattle.swc_ecma_parser_reader.specs.Expressions.{object_turn}
use Rattle.swc_ecma_parser_reader.specs.Reader.{expr, cover, function}
use Rattle.swc_ecma_parser_reader.proofs.expressions.Loops.{properties_done, properties_err, properties_last, properties_more, properties_comma_err, property_shorter, properties_shorter}
use Rattle.swc_ecma_parser_shared.specs.Covers.{cover_of, covers_of}
use Rattle.swc_ecma_parser_literals.proofs.Covers.{same_loop, commaed}
use Rattle.swc_ecma_parser_literals.proofs.object.properties.Goals as goal

pub returns-in_err-part : goal.returns-in_err-part
returns-in_err-part g c =
    let p = err_from_is_err_and c.from_residual-in_err-part.result c.from_residual-in_err-part.ensures.1 in
    rw (p.1, p.2) (λ h. c.properties.invariant ∙ properties_err (g.G.Readers.depth c.args.g.now) (covers_of g.T.BuildsObject.prop_of c.properties.found) (g.P.Cursor.seen c.properties.p) _
    (sym c.sees.ensures ∙ c.if-sees.false) (c.in_err-part.ensures h))

pub returns-in_err-expect : goal.returns-in_err-expect
returns-in_err-expect g c =
    let p = err_from_is_err_and c.from_residual-in_err-expect.result c.from_residual-in_err-expect.ensures.1 in
    let same = c.in_ok-joined.ensures.state in
    let e : Fault × State = (fault_of c.in_err-expect.field-0.0, g.P.Cursor.seen c.expect.new.self) in
    rw (p.1, p.2) (λ h. c.properties.invariant ∙ properties_comma_err (g.G.Readers.depth c.args.g.now) (covers_of g.T.BuildsObject.prop_of c.properties.found) (g.P.Cursor.seen c.properties.p)
    _ (g.P.Cursor.seen c.property.new.p) e (sym c.sees.ensures ∙ c.if-sees.false) c.in_ok-part.ensures
    (subst (λ u. sees kind.RBrace u.at ≡ false) same (sym c.if-not-sees.ensures)) (subst (λ u. expect kind.Comma u ≡ Err e) same (c.in_err-expect.ensures h)))

pub properties-preserved : goal.properties-preserved
properties-preserved g c =
    let n = (g.G.Readers.depth c.args.g.now) in
    let view = g.T.BuildsObject.prop_of in
    let same = c.in_ok-joined.ensures.state in
    c.properties.invariant
    ∙ properties_last n (covers_of view c.properties.found) (g.P.Cursor.seen c.properties.p) _ (g.P.Cursor.seen c.property.new.p) (sym c.sees.ensures ∙ c.if-sees.false) c.in_ok-part.ensures
    (subst (λ u. sees kind.RBrace u.at ≡ true) same (sym c.if-not-sees.ensures))
    ∙ same_loop (object_turn (expr n) (cover n) (function n)) _ _ _ _ (c.in_ok-joined.ensures.found view) same

pub properties-preserved-then-not-sees : goal.properties-preserved-then-not-sees
properties-preserved-then-not-sees g c =
    let n = (g.G.Readers.depth c.args.g.now) in
    let view = g.T.BuildsObject.prop_of in
    let same = c.in_ok-joined.ensures.state in
    c.properties.invariant
    ∙ properties_more n (covers_of view c.properties.found) (g.P.Cursor.seen c.properties.p) _ (g.P.Cursor.seen c.property.new.p) (g.P.Cursor.seen c.expect.new.self)
    (sym c.sees.ensures ∙ c.if-sees.false) c.in_ok-part.ensures
    (subst (λ u. sees kind.RBrace u.at ≡ false) same (sym c.if-not-sees.ensures))
    (subst (λ u. expect kind.Comma u ≡ Ok (tt, g.P.Cursor.seen c.expect.new.self)) same c.in_ok-expect.ensures)
    ∙ same_loop (object_turn (expr n) (cover n) (function n)) _ _ _ _ (commaed (covers_of view c.properties.found) _ _ _ _ (cover_of view c.in_ok-part.part) (c.behind_comma.ensures view) (c.in_ok-joined.ensures.found view) c.sees-is_spread.ensures) refl

pub properties-smaller : goal.properties-smaller
properties-smaller g c = subst (λ u. length u.at.left < length (g.P.Cursor.seen c.properties.p).at.left) (sym c.in_ok-joined.ensures.state)
    (property_shorter (g.G.Readers.depth c.args.g.now) (g.P.Cursor.seen c.properties.p) _ (g.P.Cursor.seen c.property.new.p) c.in_ok-part.ensures)

pub properties-smaller-then-not-sees : goal.properties-smaller-then-not-sees
properties-smaller-then-not-sees g c = properties_shorter (g.G.Readers.depth c.args.g.now) (g.P.Cursor.seen c.properties.p) _ (g.P.Cursor.seen c.property.new.p) c.in_ok-part.ensures
    (g.P.Cursor.seen c.expect.new.self) (subst (λ u. expect kind.Comma u ≡ Ok (tt, g.P.Cursor.seen c.expect.new.self)) c.in_ok-joined.ensures.state c.in_ok-expect.ensures)

pub returns-then-sees : goal.returns-then-sees
returns-then-sees g c =
    let found = covers_of g.T.BuildsObject.prop_of c.properties.found in
    c.properties.invariant
    ∙ properties_done (g.G.Readers.depth c.args.g.now) found (g.P.Cursor.seen c.properties.p) (sym c.sees.ensures ∙ c.if-sees.true)
    ∙ ap (λ o. and_then o (λ _. pure found)) c.in_ok-skip-2.ensures
