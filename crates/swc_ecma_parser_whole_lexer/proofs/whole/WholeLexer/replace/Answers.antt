use Rattle.std.proofs.Common.{ap, refl, sym, ◌∙◌}
use Rattle.swc_ecma_parser_input.specs.TokenSource.{is_out_of_memory}
use Rattle.swc_ecma_parser_lexer.specs.Make.{fault}
use Rattle.swc_ecma_parser_whole_lexer.specs.Whole.{nest_settled}
use Rattle.swc_ecma_parser_nesting.specs.Nesting.{pass}
use Rattle.swc_ecma_parser_whole_lexer.proofs.Replaced.{some-found, some-nest, none-found, none-nest, lost-found, lost-nest}
use Rattle.swc_ecma_parser_whole_lexer.proofs.whole.WholeLexer.replace.Goals as goal

pub returns-in-Ok-Some-clause-found : goal.returns-in-Ok-Some-clause-found
returns-in-Ok-Some-clause-found c =
    let made = rw c.in-Ok-Some.field-0-is at c.in-Ok-Some.ensures.token in
    some-found c.args.self.now.nest c.args.found.now.span.lo.0 c.args.found.now.had_line_break c.args.form c.args.text.now c.args.found.now.token c.in-Ok-Some.token c.settle.new.found (sym made) (rw c.in-Ok-Some.field-0-is at c.settle.ensures.found)

pub returns-in-Ok-Some-clause-nest : goal.returns-in-Ok-Some-clause-nest
returns-in-Ok-Some-clause-nest c =
    let made = rw c.in-Ok-Some.field-0-is at c.in-Ok-Some.ensures.token in
    some-nest c.args.self.now.nest c.args.found.now.span.lo.0 c.args.found.now.had_line_break c.args.form c.args.text.now c.args.found.now.token c.in-Ok-Some.token c.settle.new.self.nest (sym made) (rw c.in-Ok-Some.field-0-is at c.settle.ensures.nest)

pub returns-in-Ok-None-clause-found : goal.returns-in-Ok-None-clause-found
returns-in-Ok-None-clause-found c =
    let none = rw c.in-Ok-None.field-0-is at c.in-Ok-None.ensures.token in
    none-found c.args.self.now.nest c.args.found.now.span.lo.0 c.args.found.now.had_line_break c.args.form c.args.text.now c.args.found.now.token _ (sym none) c.settle-in-Ok-None.ensures.found

pub returns-in-Ok-None-clause-nest : goal.returns-in-Ok-None-clause-nest
returns-in-Ok-None-clause-nest c =
    let none = rw c.in-Ok-None.field-0-is at c.in-Ok-None.ensures.token in
    none-nest c.args.self.now.nest c.args.found.now.span.lo.0 c.args.found.now.had_line_break c.args.form c.args.text.now c.args.found.now.token _ (sym none) c.settle-in-Ok-None.ensures.nest

pub returns-in-Err-clause-found : goal.returns-in-Err-clause-found
unfolding fault
returns-in-Err-clause-found c =
    lost-found c.args.self.now.nest c.args.found.now.span.lo.0 c.args.found.now.had_line_break c.args.form c.args.text.now c.args.found.now.token _ refl refl (ap is_out_of_memory c.fault.ensures)

pub returns-in-Err-clause-nest : goal.returns-in-Err-clause-nest
returns-in-Err-clause-nest c =
    lost-nest c.args.self.now.nest c.args.found.now.span.lo.0 c.args.found.now.had_line_break c.args.form c.args.text.now c.args.found.now.token _ c.in-Err.ensures.lost
    (c.pass.ensures.nest ∙ ap (λ k. nest_settled (pass c.args.self.now.nest k _)) c.kind_anew.ensures)
