use Rattle.std.proofs.Common.{◌≡◌, map, false, Ok, Err, sym, ap, subst, ◌∙◌}
use Rattle.std.proofs.lemmas.List.{map_push}
use Rattle.std.proofs.lemmas.Result.{err_from_is_err_and}
use Rattle.swc_ecma_parser_error.specs.Kind.{Fault, fault_of}
use Rattle.swc_ecma_parser_token.specs.declared.kind.TokenKind.TheVariants as kind
use Rattle.swc_ecma_parser_grammar.specs.Looks.{sees}
use Rattle.swc_ecma_parser_reader.specs.State.{State, expect}
use Rattle.swc_ecma_parser_reader.proofs.patterns.Loops.{properties_rest, properties_rest_err, properties_rest_close_err, properties_err, properties_comma_err}
use Rattle.swc_ecma_parser_patterns.proofs.object_pat.properties.Goals as goal

pub returns-in_err-rest : goal.returns-in_err-rest
returns-in_err-rest g c =
    let p = err_from_is_err_and c.from_residual-in_err-rest.result c.from_residual-in_err-rest.ensures.1 in
    rw (p.1, p.2) (λ h. c.properties.invariant ∙ properties_rest_err (g.G.Readers.depth c.args.g.now) (map g.T.BuildsObjectPat.pat_prop_of c.properties.found.items) (g.P.Cursor.seen c.properties.p)
    (sym c.if-sees.ensures) (sym c.if-sees-2.ensures) _ (c.in_err-rest.ensures h))

pub returns-in_err-expect : goal.returns-in_err-expect
returns-in_err-expect g c =
    let p = err_from_is_err_and c.from_residual-in_err-expect.result c.from_residual-in_err-expect.ensures.1 in
    let e : Fault × State = (fault_of c.in_err-expect.field-0.0, g.P.Cursor.seen c.expect.new.self) in
    rw (p.1, p.2) (λ h. c.properties.invariant ∙ properties_rest_close_err (g.G.Readers.depth c.args.g.now) (map g.T.BuildsObjectPat.pat_prop_of c.properties.found.items) (g.P.Cursor.seen c.properties.p)
    (sym c.if-sees.ensures) (sym c.if-sees-2.ensures) _ (g.P.Cursor.seen c.rest_property.new.p) e c.in_ok-rest.ensures
    (subst (λ u. expect kind.RBrace u ≡ Err e) c.in_ok-pushed.ensures.state (c.in_err-expect.ensures h)))

pub returns-in_err-property : goal.returns-in_err-property
returns-in_err-property g c =
    let p = err_from_is_err_and c.from_residual-in_err-property.result c.from_residual-in_err-property.ensures.1 in
    rw (p.1, p.2) (λ h. c.properties.invariant ∙ properties_err (g.G.Readers.depth c.args.g.now) (map g.T.BuildsObjectPat.pat_prop_of c.properties.found.items) (g.P.Cursor.seen c.properties.p)
    (sym c.if-sees.ensures) (sym c.if-sees-2.ensures) _ (c.in_err-property.ensures h))

pub returns-in_err-expect-2 : goal.returns-in_err-expect-2
returns-in_err-expect-2 g c =
    let p = err_from_is_err_and c.from_residual-in_err-expect-2.result c.from_residual-in_err-expect-2.ensures.1 in
    let same = c.in_ok-pushed-2.ensures.state in
    let e : Fault × State = (fault_of c.in_err-expect-2.field-0.0, g.P.Cursor.seen c.expect-then-not-sees.new.self) in
    rw (p.1, p.2) (λ h. c.properties.invariant ∙ properties_comma_err (g.G.Readers.depth c.args.g.now) (map g.T.BuildsObjectPat.pat_prop_of c.properties.found.items) (g.P.Cursor.seen c.properties.p)
    (sym c.if-sees.ensures) (sym c.if-sees-2.ensures) _ (g.P.Cursor.seen c.property.new.p) e c.in_ok-property.ensures
    (subst (λ u. sees kind.RBrace u.at ≡ false) same (sym c.if-not-sees.ensures)) (subst (λ u. expect kind.Comma u ≡ Err e) same (c.in_err-expect-2.ensures h)))

pub returns-then-sees-2 : goal.returns-then-sees-2
returns-then-sees-2 g c =
    let left = g.P.Cursor.seen c.expect.new.self in
    c.properties.invariant
    ∙ properties_rest (g.G.Readers.depth c.args.g.now) (map g.T.BuildsObjectPat.pat_prop_of c.properties.found.items) (g.P.Cursor.seen c.properties.p) (sym c.if-sees.ensures) (sym c.if-sees-2.ensures) _
    (g.P.Cursor.seen c.rest_property.new.p) left c.in_ok-rest.ensures (subst (λ u. expect kind.RBrace u ≡ Ok (tt, left)) c.in_ok-pushed.ensures.state c.in_ok-expect.ensures)
    ∙ ap (λ found. Ok (found, left)) (sym (map_push g.T.BuildsObjectPat.pat_prop_of c.properties.found.items _) ∙ ap (map g.T.BuildsObjectPat.pat_prop_of) (sym c.in_ok-pushed.ensures.items))
