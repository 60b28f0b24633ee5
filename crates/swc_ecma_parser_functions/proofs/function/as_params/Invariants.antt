use Rattle.std.proofs.Common.{◌≡◌, map}
use Rattle.swc_ecma_parser_grammar.specs.Parameters.{parameter}
use Rattle.swc_ecma_parser_functions.proofs.function.as_params.Given as goal

-- what was made is what came so far
abbrev pub invariant-pats : goal.invariant-pats
invariant-pats g l = (map g.T.BuildsFunction.param_of l.params.items ≡ map parameter (map g.T.Trees.pat_of l.yielded)) × (g.P.Cursor.seen l.p ≡ g.P.Cursor.seen l.initial.p)
