-- Parts of a node that may be left out, or that a node has or not.
use Rattle.std.specs.Prelude.{Option, Some, None}
use Rattle.swc_ecma_parser_model.specs.declared.leaves.TplElement.{TplElement}
use Rattle.swc_ecma_parser_model.specs.Tree.{Tree, await, absent, quasi}

abbrev pub part_of : {X : Type 0} → (X → Tree) → Option X → Tree
part_of view None = absent
part_of view (Some x) = view x

-- the operand of `await`
abbrev pub awaited : Tree → Tree
awaited (await s arg) = arg
awaited _ = absent

-- a text of a template
abbrev pub quasi_of : TplElement → Tree
quasi_of q = quasi q.span q.tail q.cooked q.raw
