-- The views of parts that may be left out, and of an expression in a place where other forms may stand as well.
use Rattle.std.specs.Prelude.{Bool, true, false, Option, Some, None}
use Rattle.swc_ecma_parser_model.specs.Tree.{Tree, absent, list, none, also}
use Rattle.swc_ecma_parser_model.specs.Kinds.{is_expr}
use Rattle.swc_ecma_parser_model.specs.Held.{There}

abbrev pub view_option : {X : Type 0} → (X → Tree) → Option X → Tree
view_option f None = absent
view_option f (Some x) = f x

-- a tree where it is of the right kind, else a list of it, so that it looks like no other form
abbrev pub marked : Bool → Tree → Tree
marked true t = t
marked false t = list (also t none)

abbrev pub as_expr : Tree → Tree
as_expr t = marked (is_expr t) t

pub there_marked : (b : Bool) (t : Tree) → There t → There (marked b t)
there_marked true t h = h
there_marked false t h = tt
