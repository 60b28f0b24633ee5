use Rattle.std.proofs.Common.{◌≡◌, ◌<◌, false, length, map, Err, Ok, sym, subst, ◌∙◌}
use Rattle.std.proofs.lemmas.List.{map_push}
use Rattle.std.proofs.lemmas.Result.{err_from_is_err_and}
use Rattle.swc_ecma_parser_error.specs.Kind.{Fault, fault_of}
use Rattle.swc_ecma_parser_token.specs.declared.kind.TokenKind.TheVariants as kind
use Rattle.swc_ecma_parser_grammar.specs.Looks.{sees}
use Rattle.swc_ecma_parser_reader.specs.State.{State, expect}
use Rattle.swc_ecma_parser_reader.proofs.patterns.Loops.{parameters_rest, parameters_rest_err, parameters_rest_close_err, parameters_err, parameters_comma_err, element_shorter, elements_shorter}
use Rattle.swc_ecma_parser_patterns.proofs.params.parameters.Goals as goal

pub returns-in_err-rest : goal.returns-in_err-rest
returns-in_err-rest g c =
    let p = err_from_is_err_and c.from_residual-in_err-rest.result c.from_residual-in_err-rest.ensures.1 in
    rw (p.1, p.2) (λ h. c.parameters.invariant ∙ parameters_rest_err (g.G.Readers.depth c.args.g.now) (map g.T.Trees.pat_of c.parameters.found.items) (g.P.Cursor.seen c.parameters.p)
    (sym c.if-sees.ensures) (sym c.if-sees-2.ensures) _ (c.in_err-rest.ensures h))

pub returns-in_err-expect-2 : goal.returns-in_err-expect-2
returns-in_err-expect-2 g c =
    let p = err_from_is_err_and c.from_residual-in_err-expect-2.result c.from_residual-in_err-expect-2.ensures.1 in
    let e : Fault × State = (fault_of c.in_err-expect-2.field-0.0, g.P.Cursor.seen c.expect-then-sees-2.new.self) in
    rw (p.1, p.2) (λ h. c.parameters.invariant ∙ parameters_rest_close_err (g.G.Readers.depth c.args.g.now) (map g.T.Trees.pat_of c.parameters.found.items) (g.P.Cursor.seen c.parameters.p)
    (sym c.if-sees.ensures) (sym c.if-sees-2.ensures) _ (g.P.Cursor.seen c.rest.new.p) e c.in_ok-rest.ensures
    (subst (λ u. expect kind.RParen u ≡ Err e) c.in_ok-pushed.ensures.state (c.in_err-expect-2.ensures h)))

pub returns-then-sees-2 : goal.returns-then-sees-2
returns-then-sees-2 g c = rw (c.in_ok-pushed.ensures.items, map_push) (c.parameters.invariant
    ∙ parameters_rest (g.G.Readers.depth c.args.g.now) (map g.T.Trees.pat_of c.parameters.found.items) (g.P.Cursor.seen c.parameters.p)
    (sym c.if-sees.ensures) (sym c.if-sees-2.ensures) _ (g.P.Cursor.seen c.rest.new.p) (g.P.Cursor.seen c.expect-then-sees-2.new.self) c.in_ok-rest.ensures
    (subst (λ u. expect kind.RParen u ≡ Ok (tt, g.P.Cursor.seen c.expect-then-sees-2.new.self)) c.in_ok-pushed.ensures.state c.in_ok-expect-2.ensures))

pub returns-in_err-parameter : goal.returns-in_err-parameter
returns-in_err-parameter g c =
    let p = err_from_is_err_and c.from_residual-in_err-parameter.result c.from_residual-in_err-parameter.ensures.1 in
    rw (p.1, p.2) (λ h. c.parameters.invariant ∙ parameters_err (g.G.Readers.depth c.args.g.now) (map g.T.Trees.pat_of c.parameters.found.items) (g.P.Cursor.seen c.parameters.p)
    (sym c.if-sees.ensures) (sym c.if-sees-2.ensures) _ (c.in_err-parameter.ensures h))

pub returns-in_err-expect-3 : goal.returns-in_err-expect-3
returns-in_err-expect-3 g c =
    let p = err_from_is_err_and c.from_residual-in_err-expect-3.result c.from_residual-in_err-expect-3.ensures.1 in
    let same = c.in_ok-pushed-2.ensures.state in
    let e : Fault × State = (fault_of c.in_err-expect-3.field-0.0, g.P.Cursor.seen c.expect-in-parameters.new.self) in
    rw (p.1, p.2) (λ h. c.parameters.invariant ∙ parameters_comma_err (g.G.Readers.depth c.args.g.now) (map g.T.Trees.pat_of c.parameters.found.items) (g.P.Cursor.seen c.parameters.p)
    (sym c.if-sees.ensures) (sym c.if-sees-2.ensures) _ (g.P.Cursor.seen c.inner_pat.new.p) e c.in_ok-parameter.ensures
    (subst (λ u. sees kind.RParen u.at ≡ false) same (sym c.if-sees-3.ensures)) (subst (λ u. expect kind.Comma u ≡ Err e) same (c.in_err-expect-3.ensures h)))

pub parameters-smaller-then-sees-3 : goal.parameters-smaller-then-sees-3
parameters-smaller-then-sees-3 g c = subst (λ u. length u.at.left < length (g.P.Cursor.seen c.parameters.p).at.left) (sym c.in_ok-pushed-2.ensures.state)
    (element_shorter (g.G.Readers.depth c.args.g.now) (g.P.Cursor.seen c.parameters.p) _ (g.P.Cursor.seen c.inner_pat.new.p) c.in_ok-parameter.ensures)

pub parameters-smaller : goal.parameters-smaller
parameters-smaller g c = elements_shorter (g.G.Readers.depth c.args.g.now) (g.P.Cursor.seen c.parameters.p) _ (g.P.Cursor.seen c.inner_pat.new.p) c.in_ok-parameter.ensures
    (g.P.Cursor.seen c.expect-in-parameters.new.self)
    (subst (λ u. expect kind.Comma u ≡ Ok (tt, g.P.Cursor.seen c.expect-in-parameters.new.self)) c.in_ok-pushed-2.ensures.state c.in_ok-expect-3.ensures)
