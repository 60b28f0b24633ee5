-- The place of a condition.
use Rattle.std.proofs.Common.{◌≡◌, ◌≢◌, ◌∙◌, ℕ, List, Some, None, codes, refl, ap, sym}
use Rattle.swc_ecma_parser_error.specs.declared.error.Error.{Error}
use Rattle.swc_ecma_parser_error.specs.declared.kind.SyntaxError.{SyntaxError, out-SyntaxError, roll-SyntaxError, roll-out-SyntaxError}
use Rattle.swc_ecma_parser_error.specs.declared.kind.SyntaxError.TheOpen.{SyntaxError-F}
use Rattle.swc_ecma_parser_error.specs.declared.kind.SyntaxError.TheVariants as kinds
use Rattle.swc_ecma_parser_error.specs.declared.kind.Labelled.{Labelled}
use Rattle.ecma_sentences.specs.Note.{label_in, label_note}

pub label_inner : (labelled : Labelled) → label_note (kinds.WithLabel labelled) ≡ Some (labelled.span, codes "in the condition of this `if`")
label_inner labelled = ap label_in (kinds.outs-WithLabel labelled)

other : (o : SyntaxError-F SyntaxError Error Labelled) → ((l : Labelled) → o ≢ SyntaxError-F.WithLabel l) → label_in o ≡ None
other (SyntaxError-F.WithLabel l) h = absurd (h l refl)
other o h = refl

opened : (k : SyntaxError) (l : Labelled) → out-SyntaxError k ≡ SyntaxError-F.WithLabel l → k ≡ kinds.WithLabel l
opened k l e = sym (roll-out-SyntaxError k) ∙ ap roll-SyntaxError e ∙ kinds.rolls-WithLabel l

pub label_plain : (k : SyntaxError) → ((l : Labelled) → k ≢ kinds.WithLabel l) → label_note k ≡ None
label_plain k h = other (out-SyntaxError k) (λ l e. h l (opened k l e))
