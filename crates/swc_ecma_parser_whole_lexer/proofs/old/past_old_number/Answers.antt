use Rattle.std.proofs.Common.{◌≡◌, ℕ, List, Option, None, ap, sym, ◌∙◌, subst, rules}
use Rattle.std.specs.Prelude.{MatchOption}
use Rattle.std.specs.Str.{chars}
use Rattle.swc_ecma_parser_whole_lexer.specs.Old.{past_decimal}
use Rattle.swc_ecma_parser_whole_lexer.specs.Runs.{HasChars}
use Rattle.swc_ecma_parser_whole_lexer.proofs.Turns.{number-new, number-decimal, number-none, number-octal}
use Rattle.swc_ecma_parser_whole_lexer.proofs.old.past_old_number.Goals as goal

pub returns-then-not-is_old : goal.returns-then-not-is_old
returns-then-not-is_old c = number-new (chars c.args.text.now) (sym c.is_old.ensures ∙ c.if-not-is_old.true)

pub returns-then-is_ahead : goal.returns-then-is_ahead
returns-then-is_ahead c =
    let e = number-decimal (chars c.args.text.now) _ (sym c.is_old.ensures ∙ c.if-not-is_old.false) c.past-octals.ensures (sym c.is_ahead.ensures ∙ c.if-is_ahead.true)
    ∙ ap past_decimal (sym c.past.ensures) in
    subst (λ (wanted : Option (List ℕ)). MatchOption c.past_decimal.result (wanted ≡ None) (λ rest. HasChars wanted rest.now)) (sym e) c.past_decimal.ensures

pub returns-then-is_ahead-2 : goal.returns-then-is_ahead-2
returns-then-is_ahead-2 c =
    number-none (chars c.args.text.now) _ (sym c.is_old.ensures ∙ c.if-not-is_old.false) c.past-octals.ensures
    (sym c.is_ahead.ensures ∙ c.if-is_ahead.false) (sym c.is_ahead-else-is_ahead.ensures ∙ c.if-is_ahead-2.true)

pub returns-else-is_ahead-2 : goal.returns-else-is_ahead-2
returns-else-is_ahead-2 c = record {
  found = number-octal (chars c.args.text.now) _ (sym c.is_old.ensures ∙ c.if-not-is_old.false) c.past-octals.ensures
      (sym c.is_ahead.ensures ∙ c.if-is_ahead.false) (sym c.is_ahead-else-is_ahead.ensures ∙ c.if-is_ahead-2.false);
  utf8 = search rules;
}
