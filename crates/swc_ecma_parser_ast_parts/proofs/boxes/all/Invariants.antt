use Rattle.std.proofs.Common.{◌≡◌, map}
use Rattle.swc_ecma_parser_ast_parts.proofs.boxes.all.Given as goal

abbrev pub invariant-wholes : goal.invariant-wholes
invariant-wholes g l = map g.P.Part.part_view l.found.items ≡ map g.P.Part.whole_view l.yielded
