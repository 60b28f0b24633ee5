use Rattle.std.proofs.Common.{rules, ◌≡◌, false, Ok, ap, sym, ◌∙◌}
use Rattle.std.specs.Prelude.{not, ◌&&◌, is_none}
use Rattle.swc_ecma_parser_cursor.specs.Literals.{quasi_tree}
use Rattle.swc_ecma_parser_state.proofs.Taken.{text_some}
use Rattle.swc_ecma_parser_state.proofs.cursor.CallCursor.template_text.Goals as goal
use Rattle.swc_ecma_parser_state.proofs.cursor.CallCursor.template_text.Goals.{else-not-tagged-via-then-not-tagged+else-is_none, else-not-tagged-via-else-not-tagged}

pub returns : goal.returns
returns g c =
    let plain : (not c.args.tagged && is_none c.in-Some-text_of.text.cooked) ≡ false = elim c.else-not-tagged.branch [
      | else-not-tagged-via-then-not-tagged+else-is_none w ↦ search rules
      | else-not-tagged-via-else-not-tagged w ↦ search rules
    ] in
    text_some c.args.tagged c.args.self.now c.in-Some.taken c.in-Some-text_of.text (sym c.in-Some.is ∙ c.in_ok-taken.ensures.token) (sym c.in-Some-text_of.ensures) plain
    ∙ ap (λ s. Ok (quasi_tree c.in-Some-text_of.text, s)) (sym c.in_ok-taken.ensures.state)
