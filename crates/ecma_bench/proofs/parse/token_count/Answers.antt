-- The lexer begins at the text.
use Rattle.std.proofs.Common.{◌≡◌, sym, subst}
use Rattle.std.specs.Prelude.{IfOk}
use Rattle.ecma_bench.specs.Figures.{token_count}
use Rattle.ecma_bench.proofs.Parsed.{counted}
use Rattle.ecma_bench.proofs.parse.token_count.Goals as goal

pub returns-clause-ok : goal.returns-clause-ok
returns-clause-ok c = subst (λ r. IfOk r (λ n. n ≡ token_count c.args.text.now)) (sym c.ok_or.ensures.value)
    (counted c.count.result _ _ _ c.args.text.now _ c.new-lexer.ensures.source c.in_ok-input.ensures.start c.in_ok-input.ensures.text c.count.ensures)
