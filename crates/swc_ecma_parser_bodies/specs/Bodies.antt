-- Where the statements of a body end, and whether the first can be directives.
use Rattle.std.specs.Prelude.{Bool, true, false}
use Rattle.swc_ecma_parser_input.specs.Place.{Place}
use Rattle.swc_ecma_parser_reader.specs.Reader.{closes, closes_clause}
use Rattle.swc_ecma_parser_bodies.specs.declared.body.Body.{Body}
use Rattle.swc_ecma_parser_bodies.specs.declared.body.Body.TheVariants as body

abbrev pub ends_of : Body → Place → Bool
ends_of body.Block = closes
ends_of body.Function = closes
ends_of body.Clause = closes_clause

abbrev pub directs_of : Body → Bool
directs_of body.Function = true
directs_of _ = false
