use Rattle.std.proofs.Common.{rules, tests}
use Rattle.std.specs.Str.{bytes_eq}
use Rattle.std.proofs.lemmas.Iterator.{YieldsList-from_slice}
use Rattle.std.proofs.lemmas.Iterator.Search.{any_from_yields_List}
use Rattle.swc_ecma_parser_cursor.proofs.names.is_label.Goals as goal

pub returns : goal.returns
returns c = any_from_yields_List (λ label. bytes_eq c.args.text.now label) _ _ c.any.result c.any.ensures.ran (YieldsList-from_slice c.args.labels.now cc) (λ x b q k. search (rules, tests))
