use Rattle.std.proofs.Common.{Bool, ◌&&◌, not, ap, sym, ◌∙◌, subst}
use Rattle.std.specs.Prelude.{MatchOption, None, ◌≡◌, List, ℕ, Option}
use Rattle.std.specs.Str.{chars}
use Rattle.swc_ecma_parser_whole_lexer.specs.Names.{past_name}
use Rattle.swc_ecma_parser_whole_lexer.specs.Runs.{HasChars}
use Rattle.swc_ecma_parser_whole_lexer.proofs.Turns.{name-more, name-stop, name-nothing, twice}
use Rattle.swc_ecma_parser_whole_lexer.proofs.names.past_name.Goals as goal

pub loop-c-preserved : goal.loop-c-preserved
loop-c-preserved c = record {
  text = c.in-Some.ensures.utf8;
  same = c.loop-c.invariant.same
      ∙ name-more c.loop-c.is_start c.loop-c.state _ c.in-Some.c _ c.in-Some-step.turn c.in-Some.ensures.begins (sym c.in-Some-step.ensures)
      ∙ ap (λ (v : Bool). past_name (c.loop-c.is_start && not v) c.in-Some-step.turn.state (chars c.in-Some.behind.now)) c.is_none-is_start.ensures
      ∙ ap (λ (v : Bool). past_name (c.loop-c.is_start && v) c.in-Some-step.turn.state (chars c.in-Some.behind.now)) (twice c.is_none-is_start.result);
}

pub returns-in-None : goal.returns-in-None
returns-in-None c =
    let e = c.loop-c.invariant.same ∙ name-stop c.loop-c.is_start c.loop-c.state _ c.in-Some.c _ c.in-Some.ensures.begins (sym c.in-None.ensures) in
    subst (λ (wanted : Option (List ℕ)). MatchOption c.ended.result (wanted ≡ None) (λ rest. HasChars wanted rest.now)) (sym e) c.ended.ensures

pub returns : goal.returns
returns c =
    let h = c.in_default.ensures in
    let e = c.loop-c.invariant.same ∙ name-nothing c.loop-c.is_start c.loop-c.state _ h in
    subst (λ (wanted : Option (List ℕ)). MatchOption c.ended-2.result (wanted ≡ None) (λ rest. HasChars wanted rest.now)) (sym e) c.ended-2.ensures
