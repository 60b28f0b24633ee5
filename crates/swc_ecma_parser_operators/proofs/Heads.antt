-- What can stand before `=>`, by the questions that the code asks.
use Rattle.std.proofs.Common.{◌≡◌, Bool, true, false, refl}
use Rattle.std.specs.Prelude.{◌&&◌, ◌||◌}
use Rattle.swc_ecma_parser_model.specs.Tree as tree
use Rattle.swc_ecma_parser_model.specs.Tree.{Tree}
use Rattle.swc_ecma_parser_model.specs.Forms.{is_ident, is_paren}
use Rattle.swc_ecma_parser_model.specs.Within.{is_async_call}
use Rattle.swc_ecma_parser_reader.specs.Expressions.{is_head}

and_false : (b : Bool) → (b && false) ≡ false
and_false true = refl
and_false false = refl

pub is_head_by : (is_async : Bool) (x : Tree) → is_head is_async x ≡ (is_ident x || (is_paren x || (is_async && is_async_call x)))
is_head_by is_async (tree.ident s text) = refl
is_head_by is_async (tree.paren s e) = refl
is_head_by is_async (tree.call s f args) = refl
is_head_by is_async _ = rw (and_false is_async) refl
