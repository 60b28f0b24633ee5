-- Keys, as parts of the model's tree.
use Rattle.swc_ecma_parser_model.specs.declared.leaves.Ident.{Ident}
use Rattle.swc_ecma_parser_model.specs.declared.leaves.PrivateName.{PrivateName}
use Rattle.swc_ecma_parser_model.specs.Tree as tree
use Rattle.swc_ecma_parser_model.specs.Tree.{Tree}
use Rattle.swc_ecma_parser_shared.specs.declared.keys.Key.{Key}
use Rattle.swc_ecma_parser_shared.specs.declared.keys.Key.TheVariants as key

abbrev pub word_of : Ident → Tree
word_of i = tree.ident i.span i.sym

abbrev pub private_of : PrivateName → Tree
private_of x = tree.private_name x.span x.id.span x.id.sym

abbrev pub key_of : {E : Type 0} → (E → Tree) → Key E → Tree
key_of view (key.Word i) = word_of i
key_of view (key.Str x) = tree.str x.span x.value x.raw
key_of view (key.Num x) = tree.num x.span x.raw
key_of view (key.BigInt x) = tree.big_int x.span x.raw
key_of view (key.Computed s e) = tree.computed s (view e)
