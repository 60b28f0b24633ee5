use Rattle.std.proofs.Common.{◌≡◌, map, drop}
use Rattle.swc_ecma_parser_grammar.specs.Own as own
use Rattle.swc_ecma_parser_model.specs.Tree.{trees}
use Rattle.swc_ecma_parser_reader.specs.Jumps.{told}
use Rattle.swc_ecma_parser_modules.proofs.exports.all_misnamed.Given as goal

-- what all of them come to is what the rest of them comes to
abbrev pub invariant-specifiers : goal.invariant-specifiers
invariant-specifiers g l =
    told (own.each_specifier (trees (map g.T.BuildsExport.export_specifier_of l.specifiers))) (g.P.Cursor.seen l.initial.p)
    ≡ told (own.each_specifier (trees (map g.T.BuildsExport.export_specifier_of (drop l.specifier-index l.specifiers)))) (g.P.Cursor.seen l.p)
