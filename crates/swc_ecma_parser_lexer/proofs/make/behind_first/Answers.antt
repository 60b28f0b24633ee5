use Rattle.std.proofs.Common.{ap, sym, ◌∙◌}
use Rattle.std.specs.Str.{encode_utf8_all}
use Rattle.std.proofs.lemmas.Str.{encodes-chars}
use Rattle.swc_ecma_parser_lexer.specs.Make.{behind_first, rest_of}
use Rattle.swc_ecma_parser_lexer.proofs.make.behind_first.Goals as goal

pub returns-in-Some : goal.returns-in-Some
unfolding behind_first
returns-in-Some c =
    sym (ap (λ xs. encode_utf8_all (rest_of xs)) c.in-Some.ensures.begins ∙ encodes-chars c.in-Some.behind.now c.in-Some.ensures.utf8)

pub returns-in-None : goal.returns-in-None
unfolding behind_first
returns-in-None c =
    let h = c.in-None.ensures in
    sym (encodes-chars c.args.text.now c.utf8.text) ∙ ap encode_utf8_all h ∙ sym (ap (λ xs. encode_utf8_all (rest_of xs)) h)
