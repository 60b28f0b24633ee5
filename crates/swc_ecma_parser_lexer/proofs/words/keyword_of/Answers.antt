use Rattle.std.proofs.Common.{ap, sym, ◌∙◌}
use Rattle.std.specs.Str.{bytes_eq}
use Rattle.swc_ecma_parser_lexer.proofs.Candidates.{candidate-right, candidate-wrong, candidate-none}
use Rattle.swc_ecma_parser_lexer.proofs.words.keyword_of.Goals as goal

pub returns-then-eq : goal.returns-then-eq
returns-then-eq c =
    let spelled = ap (λ xs. bytes_eq xs c.args.name.now) (sym c.as_str.ensures) ∙ sym c.eq.ensures ∙ c.if-eq.true in
    sym (candidate-right c.in-Some.keyword c.args.name.now spelled)

pub returns-else-eq : goal.returns-else-eq
returns-else-eq c =
    let spelled = ap (λ xs. bytes_eq xs c.args.name.now) (sym c.as_str.ensures) ∙ sym c.eq.ensures ∙ c.if-eq.false in
    sym (candidate-wrong c.args.name.now c.in-Some.keyword (sym c.in-Some.ensures) spelled)

pub returns-in-None : goal.returns-in-None
returns-in-None c = sym (candidate-none c.args.name.now (sym c.in-None.ensures))
