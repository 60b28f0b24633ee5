use Rattle.std.proofs.Common.{◌≡◌, [], length, map}
use Rattle.swc_ecma_parser_reader.specs.State.{loop}
use Rattle.swc_ecma_parser_module_reader.specs.Imports.{specifiers_turn}
use Rattle.swc_ecma_parser_module_reader.specs.Imports.{import_specifier}
use Rattle.swc_ecma_parser_modules.proofs.imports.named_imports.Given as goal

-- what the whole loop gives is what the rest of it gives
abbrev pub invariant-specifiers : goal.invariant-specifiers
invariant-specifiers g l =
    loop (specifiers_turn import_specifier) [] (g.P.Cursor.seen l.fn.p) ≡ loop (specifiers_turn import_specifier) (map g.T.BuildsImport.import_specifier_of l.found.items) (g.P.Cursor.seen l.p)

abbrev pub decreases-specifiers : goal.decreases-specifiers
decreases-specifiers g l = length (g.P.Cursor.seen l.p).at.left
