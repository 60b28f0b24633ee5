use Rattle.std.proofs.Common.{ℕ, Option, ◌++◌, append-nil, ap, refl, sym, ◌∙◌, string_bytes}
use Rattle.swc_ecma_parser_whole_lexer.specs.Runs.{bytes_of}
use Rattle.swc_ecma_parser_whole_lexer.proofs.Turns.{appended, feeds-more, feeds-nothing}
use Rattle.swc_ecma_parser_whole_lexer.proofs.template.with_line_feeds.Goals as goal

pub loop-c-preserved : goal.loop-c-preserved
loop-c-preserved c =
    let more = feeds-more c.loop-c.behind_return _ c.in-Some.c _ c.in-Some.ensures.begins in
    record {
      text = c.in-Some.ensures.utf8;
      same = appended _ _ _ _ _ _ _ c.loop-c.invariant.same more
          (c.in_ok-push_some.ensures ∙ ap (λ (x : Option ℕ). string_bytes c.loop-c.out ++ bytes_of x) c.fed.ensures) refl;
    }

pub returns : goal.returns
returns c =
    let h = c.in_default.ensures in
    sym (c.loop-c.invariant.same ∙ ap (λ xs. string_bytes c.loop-c.out ++ xs) (feeds-nothing c.loop-c.behind_return _ h) ∙ append-nil (string_bytes c.loop-c.out))
