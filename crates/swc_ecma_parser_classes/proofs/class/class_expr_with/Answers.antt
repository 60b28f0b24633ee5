use Rattle.std.proofs.Common.{sym, ap, ◌∙◌}
use Rattle.swc_ecma_parser_classes.proofs.Members.{unnamed_class_code}
use Rattle.swc_ecma_parser_classes.proofs.class.class_expr_with.Goals as goal

pub set_flags-requires-2 : goal.set_flags-requires-2
set_flags-requires-2 g c =
    sym (ap (λ k. k.flags.«module») (unnamed_class_code _ _ _ _ _ c.in_ok-class.ensures) ∙ ap (λ s. s.code.flags.«module») c.set_flags.ensures ∙ ap (λ f. f.«module») c.in_class.ensures)
