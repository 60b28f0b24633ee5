use Rattle.std.proofs.Common.{ap, ◌∙◌}
use Rattle.swc_ecma_parser_scan.specs.Scan.{scan}
use Rattle.swc_ecma_parser_scan.proofs.Lone.{lone-40, lone-41, lone-91, lone-93, lone-123, lone-125, lone-59, lone-44, lone-58}
use Rattle.swc_ecma_parser_scan.proofs.piece.lone_mark.Goals as goal

pub returns-in-40 : goal.returns-in-40
returns-in-40 c = λ f cs. ap (λ k. scan f k cs) c.in-40.is ∙ lone-40 f cs

pub returns-in-41 : goal.returns-in-41
returns-in-41 c = λ f cs. ap (λ k. scan f k cs) c.in-41.is ∙ lone-41 f cs

pub returns-in-91 : goal.returns-in-91
returns-in-91 c = λ f cs. ap (λ k. scan f k cs) c.in-91.is ∙ lone-91 f cs

pub returns-in-93 : goal.returns-in-93
returns-in-93 c = λ f cs. ap (λ k. scan f k cs) c.in-93.is ∙ lone-93 f cs

pub returns-in-123 : goal.returns-in-123
returns-in-123 c = λ f cs. ap (λ k. scan f k cs) c.in-123.is ∙ lone-123 f cs

pub returns-in-125 : goal.returns-in-125
returns-in-125 c = λ f cs. ap (λ k. scan f k cs) c.in-125.is ∙ lone-125 f cs

pub returns-in-59 : goal.returns-in-59
returns-in-59 c = λ f cs. ap (λ k. scan f k cs) c.in-59.is ∙ lone-59 f cs

pub returns-in-44 : goal.returns-in-44
returns-in-44 c = λ f cs. ap (λ k. scan f k cs) c.in-44.is ∙ lone-44 f cs

pub returns-in-58 : goal.returns-in-58
returns-in-58 c = λ f cs. ap (λ k. scan f k cs) c.in-58.is ∙ lone-58 f cs
