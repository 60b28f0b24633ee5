use Rattle.std.proofs.Common.{◌∙◌}
use Rattle.swc_ecma_parser_ast.proofs.DerivedLeaf.{derived_text}
use Rattle.swc_ecma_parser_ast.proofs.ignore_span.leaves.AtomEqIgnoreSpan.eq_ignore_span.Goals as goal

pub returns : goal.returns
returns c = c.eq.ensures ∙ derived_text c.args.self.now c.args.other.now
