use Rattle.std.proofs.Common.{◌≡◌, ℕ, List, [], ◌∷◌, ◌++◌, length, map, Option, Ok, arith, sym, ap, ◌∙◌}
use Rattle.std.specs.Vec.Iter.{into_iter_items, into_iter_len}
use Rattle.swc_ecma_parser_model.specs.Tree.{Tree}
use Rattle.swc_ecma_parser_reader.specs.Arrows.{rest_list, parameters_of}
use Rattle.swc_ecma_parser_reader.specs.Operands.{Cover}
use Rattle.swc_ecma_parser_reader.specs.State.{State, Outcome, and_then, pure}
use Rattle.swc_ecma_parser_shared.specs.Covers.{cover_of}
use Rattle.swc_ecma_parser_parentheses.proofs.parameters.parameters_of.Goals as goal

-- where no part is left, the rest stands behind what was found
all_found : {X : Type 0} (view : X → Cover) (o : Outcome (List Tree)) (behind : Option Tree) (found more : List Tree) (left : List X) (n : ℕ) (s t : State)
    → o ≡ and_then (parameters_of (map view left) behind s) (λ xs. pure (found ++ xs)) → n ≡ length left → n ≡ 0 → more ≡ found ++ rest_list behind → t ≡ s → o ≡ Ok (more, t)
all_found view o behind found more [] n s t so_far count over added same = so_far ∙ ap (λ xs. Ok (xs, s)) (sym added) ∙ ap (λ u. Ok (more, u)) (sym same)
all_found view o behind found more (x ∷ xs) n s t so_far count over added same = absurd (omega arith)

pub returns : goal.returns
returns g c =
    all_found (cover_of g.T.Trees.expr_of) _ _ (map g.T.Trees.pat_of c.parts.found.items) _ (into_iter_items c.parts.part-iterator) (into_iter_len c.parts.part-iterator)
    (g.P.Cursor.seen c.parts.p) (g.P.Cursor.seen c.add_rest.new.p) c.parts.invariant.0 c.parts.invariant.1 c.in-None.ensures.steps.0 c.in_ok-add_rest.ensures.found c.in_ok-add_rest.ensures.state
