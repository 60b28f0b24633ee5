use Rattle.std.proofs.Common.{◌++◌, append-nil, ap, refl, sym, ◌∙◌, string_bytes}
use Rattle.swc_ecma_parser_whole_lexer.proofs.Turns.{appended, said-more, said-nothing}
use Rattle.swc_ecma_parser_whole_lexer.proofs.names.name_said.Goals as goal

pub loop-c-preserved : goal.loop-c-preserved
loop-c-preserved c =
    let more = said-more c.loop-c.state _ c.in-Some.c _ c.turn_of-turn.result c.in-Some.ensures.begins c.turn_of-turn.ensures in
    record {
      text = c.in-Some.ensures.utf8;
      same = appended _ _ _ _ _ _ _ c.loop-c.invariant.same more c.in_ok-push_some.ensures refl;
    }

pub returns : goal.returns
returns c =
    let h = c.in_default.ensures in
    sym (c.loop-c.invariant.same ∙ ap (λ xs. string_bytes c.loop-c.said ++ xs) (said-nothing c.loop-c.state _ h) ∙ append-nil (string_bytes c.loop-c.said))
