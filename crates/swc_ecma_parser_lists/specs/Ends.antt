-- Where a list ends.
use Rattle.std.specs.Prelude.{Bool}
use Rattle.swc_ecma_parser_input.specs.Place.{Place}
use Rattle.swc_ecma_parser_reader.specs.Reader.{at_end, closes}
use Rattle.swc_ecma_parser_lists.specs.declared.lists.ListEnd.{ListEnd}
use Rattle.swc_ecma_parser_lists.specs.declared.lists.ListEnd.TheVariants as end

abbrev pub ends_at : ListEnd → Place → Bool
ends_at end.Brace = closes
ends_at end.Tokens = at_end
