use Rattle.std.proofs.Common.{◌≡◌, ℕ, true, false, List, map, Ok, Err, refl, sym, subst, ◌∙◌}
use Rattle.std.proofs.lemmas.Result.{err_from_is_err_and}
use Rattle.swc_ecma_parser_error.specs.Kind.{Fault, fault_of}
use Rattle.swc_ecma_parser_token.specs.declared.kind.TokenKind.TheVariants as kind
use Rattle.swc_ecma_parser_grammar.specs.Looks.{sees}
use Rattle.swc_ecma_parser_reader.specs.Arrows.{Parts, rest_part, part_turn}
use Rattle.swc_ecma_parser_reader.specs.Operands.{Cover}
use Rattle.swc_ecma_parser_reader.specs.Reader.{expr, cover, function}
use Rattle.swc_ecma_parser_reader.specs.State.{State, Outcome, GivesAs, expect, loop}
use Rattle.swc_ecma_parser_reader.proofs.expressions.Loops.{parts_rest, parts_rest_err, parts_err, parts_comma_err, parts_shorter}
use Rattle.swc_ecma_parser_shared.specs.Covers.{cover_of}
use Rattle.swc_ecma_parser_parentheses.specs.Groups.{parts_of}
use Rattle.swc_ecma_parser_parentheses.proofs.group.group_parts.Goals as goal

module _ (n : ℕ) (found : List Cover) (s : State) (dots : sees kind.DotDotDot s.at ≡ true) where
  gives_rest : (o : Outcome Parts) → rest_part (expr n) (function n) found s ≡ o → loop (part_turn (expr n) (function n) (cover n)) found s ≡ o
  gives_rest (Ok p) e = parts_rest n found s p.0 p.1 dots e
  gives_rest (Err f) e = parts_rest_err n found s f dots e

  -- the rest ends the loop
  is_rest : loop (part_turn (expr n) (function n) (cover n)) found s ≡ rest_part (expr n) (function n) found s
  is_rest = gives_rest (rest_part (expr n) (function n) found s) refl

pub returns-then-sees-2 : goal.returns-then-sees-2
returns-then-sees-2 g c =
    subst (λ o. GivesAs (parts_of g.T.Trees.expr_of g.T.Trees.pat_of) o c.rest_part.result (g.P.Cursor.seen c.rest_part.new.p))
    (sym (c.parts.invariant ∙ is_rest (g.G.Readers.depth c.args.g.now) (map (cover_of g.T.Trees.expr_of) c.parts.found.items) (g.P.Cursor.seen c.parts.p) (sym c.if-sees-2.ensures))) c.rest_part.ensures

pub returns-in_err-part : goal.returns-in_err-part
returns-in_err-part g c =
    let p = err_from_is_err_and c.from_residual.result c.from_residual.ensures.1 in
    rw (p.1, p.2) (λ h. c.parts.invariant ∙ parts_err (g.G.Readers.depth c.args.g.now) (map (cover_of g.T.Trees.expr_of) c.parts.found.items) (g.P.Cursor.seen c.parts.p) _
    (sym c.if-sees-2.ensures) (c.in_err-part.ensures h))

pub returns-in_err-expect : goal.returns-in_err-expect
returns-in_err-expect g c =
    let p = err_from_is_err_and c.from_residual-in_err-expect.result c.from_residual-in_err-expect.ensures.1 in
    let same = c.in_ok-pushed.ensures.state in
    let e : Fault × State = (fault_of c.in_err-expect.field-0.0, g.P.Cursor.seen c.expect.new.self) in
    rw (p.1, p.2) (λ h. c.parts.invariant ∙ parts_comma_err (g.G.Readers.depth c.args.g.now) (map (cover_of g.T.Trees.expr_of) c.parts.found.items) (g.P.Cursor.seen c.parts.p)
    _ (g.P.Cursor.seen c.covered.new.p) e (sym c.if-sees-2.ensures) c.in_ok-part.ensures
    (subst (λ u. sees kind.RParen u.at ≡ false) same (sym c.if-sees-3.ensures)) (subst (λ u. expect kind.Comma u ≡ Err e) same (c.in_err-expect.ensures h)))

pub parts-smaller : goal.parts-smaller
parts-smaller g c = parts_shorter (g.G.Readers.depth c.args.g.now) (g.P.Cursor.seen c.parts.p) _ (g.P.Cursor.seen c.covered.new.p) c.in_ok-part.ensures
    (g.P.Cursor.seen c.expect.new.self) (subst (λ u. expect kind.Comma u ≡ Ok (tt, g.P.Cursor.seen c.expect.new.self)) c.in_ok-pushed.ensures.state c.in_ok-expect.ensures)
