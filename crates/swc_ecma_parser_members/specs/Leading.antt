-- Decorators that were read before it is known whose they are, as the reader has them.
use Rattle.std.specs.Prelude.{map}
use Rattle.swc_ecma_parser_model.specs.Tree.{Tree}
use Rattle.swc_ecma_parser_reader.specs.Decorators as reader
use Rattle.swc_ecma_parser_members.specs.declared.decorators.Leading.{Leading}

abbrev pub leading_of : {D : Type 0} → (D → Tree) → Leading D → reader.Leading
leading_of view v = record { found = map view v.found.items; place = v.place; module_found = v.module_found }
