-- Each of these is a plain name where all are.
use Rattle.std.proofs.Common.{◌≡◌, ◌&&◌, List, [], ◌∷◌, map, refl, ap}
use Rattle.std.specs.List.{list_all}
use Rattle.swc_ecma_parser_model.specs.Tree.{Tree, trees}
use Rattle.swc_ecma_parser_model.specs.Forms.{is_plain_param, are_plain_params}

pub all_plain : {A : Type 0} (view : A → Tree) (xs : List A) → list_all (λ x. is_plain_param (view x)) xs ≡ are_plain_params (trees (map view xs))
all_plain view [] = refl
all_plain view (x ∷ xs) = ap (λ b. is_plain_param (view x) && b) (all_plain view xs)
