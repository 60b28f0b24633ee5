use Rattle.std.proofs.Common.{◌∙◌, rules, tests}
use Rattle.std.proofs.lemmas.Iterator.{YieldsList-from_slice}
use Rattle.std.proofs.lemmas.Iterator.Search.{all_from_yields_List}
use Rattle.swc_ecma_parser_model.specs.Forms.{is_plain_param}
use Rattle.swc_ecma_parser_outputs.proofs.Plain.{all_plain}
use Rattle.swc_ecma_parser_outputs.proofs.parameters.are_plain.Goals as goal

pub returns : goal.returns
returns g c =
    all_from_yields_List (λ x. is_plain_param (g.P.Parameter.parameter x)) _ _ c.all.result c.all.ensures.ran (YieldsList-from_slice c.args.parameters.now cc) (λ x b q k. search (rules, tests))
    ∙ all_plain g.P.Parameter.parameter c.args.parameters.now
