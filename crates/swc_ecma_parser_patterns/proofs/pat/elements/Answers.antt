use Rattle.std.proofs.Common.{◌≡◌, ◌<◌, false, length, map, Err, Ok, sym, subst, ◌∙◌}
use Rattle.std.proofs.lemmas.List.{map_push}
use Rattle.std.proofs.lemmas.Result.{err_from_is_err_and}
use Rattle.swc_ecma_parser_error.specs.Kind.{Fault, fault_of}
use Rattle.swc_ecma_parser_token.specs.declared.kind.TokenKind.TheVariants as kind
use Rattle.swc_ecma_parser_grammar.specs.Looks.{sees}
use Rattle.swc_ecma_parser_trees.specs.Parts.{part_of}
use Rattle.swc_ecma_parser_reader.specs.State.{State, expect}
use Rattle.swc_ecma_parser_reader.proofs.patterns.Loops.{elements_rest, elements_rest_err, elements_rest_close_err, elements_err, elements_comma_err, element_shorter, elements_shorter}
use Rattle.swc_ecma_parser_patterns.proofs.pat.elements.Goals as goal

pub returns-in_err-rest : goal.returns-in_err-rest
returns-in_err-rest g c =
    let p = err_from_is_err_and c.from_residual-in_err-rest.result c.from_residual-in_err-rest.ensures.1 in
    rw (p.1, p.2) (λ h. c.elements.invariant ∙ elements_rest_err (g.G.Readers.depth c.args.g.now) (map (part_of g.T.Trees.pat_of) c.elements.found.items) (g.P.Cursor.seen c.elements.p)
    (sym c.if-sees.ensures) (sym c.if-sees-2.ensures) (sym c.if-sees-3.ensures) _ (c.in_err-rest.ensures h))

pub returns-in_err-expect : goal.returns-in_err-expect
returns-in_err-expect g c =
    let p = err_from_is_err_and c.from_residual-in_err-expect.result c.from_residual-in_err-expect.ensures.1 in
    let e : Fault × State = (fault_of c.in_err-expect.field-0.0, g.P.Cursor.seen c.expect.new.self) in
    rw (p.1, p.2) (λ h. c.elements.invariant ∙ elements_rest_close_err (g.G.Readers.depth c.args.g.now) (map (part_of g.T.Trees.pat_of) c.elements.found.items) (g.P.Cursor.seen c.elements.p)
    (sym c.if-sees.ensures) (sym c.if-sees-2.ensures) (sym c.if-sees-3.ensures) _ (g.P.Cursor.seen c.rest.new.p) e c.in_ok-rest.ensures
    (subst (λ u. expect kind.RBracket u ≡ Err e) c.in_ok-pushed-2.ensures.state (c.in_err-expect.ensures h)))

pub returns-in_err-element : goal.returns-in_err-element
returns-in_err-element g c =
    let p = err_from_is_err_and c.from_residual-in_err-element.result c.from_residual-in_err-element.ensures.1 in
    rw (p.1, p.2) (λ h. c.elements.invariant ∙ elements_err (g.G.Readers.depth c.args.g.now) (map (part_of g.T.Trees.pat_of) c.elements.found.items) (g.P.Cursor.seen c.elements.p)
    (sym c.if-sees.ensures) (sym c.if-sees-2.ensures) (sym c.if-sees-3.ensures) _ (c.in_err-element.ensures h))

pub returns-then-sees-3 : goal.returns-then-sees-3
returns-then-sees-3 g c = rw (c.in_ok-pushed-2.ensures.items, map_push) (c.elements.invariant
    ∙ elements_rest (g.G.Readers.depth c.args.g.now) (map (part_of g.T.Trees.pat_of) c.elements.found.items) (g.P.Cursor.seen c.elements.p)
    (sym c.if-sees.ensures) (sym c.if-sees-2.ensures) (sym c.if-sees-3.ensures) _ (g.P.Cursor.seen c.rest.new.p) (g.P.Cursor.seen c.expect.new.self) c.in_ok-rest.ensures
    (subst (λ u. expect kind.RBracket u ≡ Ok (tt, g.P.Cursor.seen c.expect.new.self)) c.in_ok-pushed-2.ensures.state c.in_ok-expect.ensures))

pub returns-in_err-expect-2 : goal.returns-in_err-expect-2
returns-in_err-expect-2 g c =
    let p = err_from_is_err_and c.from_residual-in_err-expect-2.result c.from_residual-in_err-expect-2.ensures.1 in
    let same = c.in_ok-pushed-3.ensures.state in
    let e : Fault × State = (fault_of c.in_err-expect-2.field-0.0, g.P.Cursor.seen c.expect-in-elements.new.self) in
    rw (p.1, p.2) (λ h. c.elements.invariant ∙ elements_comma_err (g.G.Readers.depth c.args.g.now) (map (part_of g.T.Trees.pat_of) c.elements.found.items) (g.P.Cursor.seen c.elements.p)
    (sym c.if-sees.ensures) (sym c.if-sees-2.ensures) (sym c.if-sees-3.ensures) _ (g.P.Cursor.seen c.inner_pat.new.p) e c.in_ok-element.ensures
    (subst (λ u. sees kind.RBracket u.at ≡ false) same (sym c.if-sees-4.ensures)) (subst (λ u. expect kind.Comma u ≡ Err e) same (c.in_err-expect-2.ensures h)))

pub elements-smaller-then-sees-4 : goal.elements-smaller-then-sees-4
elements-smaller-then-sees-4 g c = subst (λ u. length u.at.left < length (g.P.Cursor.seen c.elements.p).at.left) (sym c.in_ok-pushed-3.ensures.state)
    (element_shorter (g.G.Readers.depth c.args.g.now) (g.P.Cursor.seen c.elements.p) _ (g.P.Cursor.seen c.inner_pat.new.p) c.in_ok-element.ensures)

pub elements-smaller : goal.elements-smaller
elements-smaller g c = elements_shorter (g.G.Readers.depth c.args.g.now) (g.P.Cursor.seen c.elements.p) _ (g.P.Cursor.seen c.inner_pat.new.p) c.in_ok-element.ensures
    (g.P.Cursor.seen c.expect-in-elements.new.self)
    (subst (λ u. expect kind.Comma u ≡ Ok (tt, g.P.Cursor.seen c.expect-in-elements.new.self)) c.in_ok-pushed-3.ensures.state c.in_ok-expect-2.ensures)
