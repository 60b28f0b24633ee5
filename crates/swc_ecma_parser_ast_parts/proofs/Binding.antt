-- Patterns with names alone where targets could stand, by reference.
use Rattle.std.proofs.Common.{arith, ◌≡◌, ℕ, zero, suc, ◌<◌, true, false, ◌||◌, List, [], ◌∷◌, get_or, length, map, refl, ap}
use Rattle.swc_ecma_parser_model.specs.Kinds.{is_expr, is_list, is_stmt}
use Rattle.swc_ecma_parser_model.specs.Size.{tree_size, trees_size}
use Rattle.swc_ecma_parser_model.specs.Targets.{binds}
use Rattle.swc_ecma_parser_model.specs.Tree as tree
use Rattle.swc_ecma_parser_model.specs.Tree.{Tree, trees}

-- what else a node holds binds nothing
pub other_binds : (x : Tree) → (is_expr x || is_stmt x || is_list x) ≡ true → binds x ≡ false
other_binds (tree.ident_pat s text) h = cc
other_binds (tree.array_pat s elems) h = cc
other_binds (tree.object_pat s props) h = cc
other_binds (tree.rest_pat s arg) h = cc
other_binds (tree.assign_pat s left right) h = cc
other_binds (tree.key_value_pat_prop s key value) h = cc
other_binds (tree.assign_pat_prop s key value) h = cc
other_binds tree.absent h = cc
other_binds _ h = refl

-- a part is smaller than its list
pub part_at_falls : {X : Type 0} (v : X → Tree) (xs : List X) (i : ℕ) (x : X) → i < length xs → x ≡ get_or xs i x → tree_size (v x) < trees_size (trees (map v xs))
part_at_falls v [] i x h e = absurd (omega arith)
part_at_falls v (y ∷ xs) zero x h e = let same = ap (λ z. tree_size (v z)) e in omega arith
part_at_falls v (y ∷ xs) (suc i) x h e = omega (arith, part_at_falls v xs i x (omega arith) e)
