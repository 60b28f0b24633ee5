use Rattle.std.proofs.Common.{◌∙◌, rules, tests}
use Rattle.std.proofs.lemmas.Iterator.{YieldsList-from_slice}
use Rattle.std.proofs.lemmas.Iterator.Search.{all_from_yields_List}
use Rattle.swc_ecma_parser_model.specs.Forms.{is_plain_param}
use Rattle.swc_ecma_parser_functions.proofs.Plain.{all_plain}
use Rattle.swc_ecma_parser_arrows.proofs.arrows.are_plain_patterns.Goals as goal

pub returns : goal.returns
returns g c =
    all_from_yields_List (λ x. is_plain_param (g.T.Trees.pat_of x)) _ _ c.all.result c.all.ensures.ran (YieldsList-from_slice c.args.params.now cc) (λ x b q k. search (rules, tests))
    ∙ all_plain g.T.Trees.pat_of c.args.params.now
