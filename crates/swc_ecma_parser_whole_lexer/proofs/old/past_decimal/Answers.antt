use Rattle.std.proofs.Common.{Some, ap, sym, ◌∙◌}
use Rattle.swc_ecma_parser_whole_lexer.specs.Old.{is_decimal}
use Rattle.swc_ecma_parser_whole_lexer.specs.Runs.{begins_with}
use Rattle.swc_ecma_parser_whole_lexer.proofs.Turns.{decimal-is, decimal-not, decimal-nothing, decimal-separated}
use Rattle.swc_ecma_parser_whole_lexer.proofs.old.past_decimal.Goals as goal

pub returns-then-begins_with : goal.returns-then-begins_with
returns-then-begins_with c = decimal-separated _ (ap (begins_with 95) (sym c.past.ensures) ∙ sym c.begins_with.ensures ∙ c.if-begins_with.true)

pub returns-in_err-piece : goal.returns-in_err-piece
returns-in_err-piece c = let h = c.in_err-piece.ensures in rw c.from_residual.ensures (decimal-nothing _ h)

pub returns-then-is_decimal : goal.returns-then-is_decimal
returns-then-is_decimal c =
    let first = c.in_ok-piece.ensures in
    let single = ap (begins_with 95) (sym c.past.ensures) ∙ sym c.begins_with.ensures ∙ c.if-begins_with.false in
    record {
      found = decimal-is _ first.first first.behind first.begins single (ap is_decimal (sym first.state) ∙ sym c.is_decimal.ensures ∙ c.if-is_decimal.true)
          ∙ ap Some (sym first.left);
      utf8 = first.rest_utf8;
    }

pub returns-else-is_decimal : goal.returns-else-is_decimal
returns-else-is_decimal c =
    let first = c.in_ok-piece.ensures in
    let single = ap (begins_with 95) (sym c.past.ensures) ∙ sym c.begins_with.ensures ∙ c.if-begins_with.false in
    decimal-not _ first.first first.behind first.begins single (ap is_decimal (sym first.state) ∙ sym c.is_decimal.ensures ∙ c.if-is_decimal.false)
