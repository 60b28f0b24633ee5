-- What a fault holds that holds nothing, and what stands in a fault of a condition.
use Rattle.std.proofs.Common.{◌≡◌, ◌≢◌, ◌∙◌, ℕ, List, codes, refl, ap, sym}
use Rattle.swc_ecma_parser_error.specs.declared.error.Error.{Error}
use Rattle.swc_ecma_parser_error.specs.declared.kind.SyntaxError.{SyntaxError, out-SyntaxError, roll-SyntaxError, roll-out-SyntaxError}
use Rattle.swc_ecma_parser_error.specs.declared.kind.SyntaxError.TheOpen.{SyntaxError-F}
use Rattle.swc_ecma_parser_error.specs.declared.kind.SyntaxError.TheVariants as kinds
use Rattle.swc_ecma_parser_error.specs.declared.kind.Labelled.{Labelled}
use Rattle.swc_ecma_parser_error.specs.declared.kind.Texts.{Texts}
use Rattle.ecma_sentences.specs.Payload.{found_of, inner_in, inner_of, wanted_of}

pub wanted_other : (k : SyntaxError) → ((t : Texts) → k ≢ kinds.Expected t) → ((t : Texts) → k ≢ kinds.Unexpected t) → wanted_of k ≡ codes ""
wanted_other (kinds.Expected t) e u = absurd (e t refl)
wanted_other (kinds.Unexpected t) e u = absurd (u t refl)
wanted_other k e u = refl

pub found_other : (k : SyntaxError) → ((t : Texts) → k ≢ kinds.Expected t) → ((t : Texts) → k ≢ kinds.Unexpected t) → found_of k ≡ codes ""
found_other (kinds.Expected t) e u = absurd (e t refl)
found_other (kinds.Unexpected t) e u = absurd (u t refl)
found_other k e u = refl

pub inner_label : (e : Error) (l : Labelled) → e.kind ≡ kinds.WithLabel l → inner_of e ≡ l.inner
inner_label e l h = ap (λ k. inner_in (out-SyntaxError k) e) h ∙ ap (λ o. inner_in o e) (kinds.outs-WithLabel l)

other : (o : SyntaxError-F SyntaxError Error Labelled) (e : Error) → ((l : Labelled) → o ≢ SyntaxError-F.WithLabel l) → inner_in o e ≡ e
other (SyntaxError-F.WithLabel l) e h = absurd (h l refl)
other o e h = refl

opened : (k : SyntaxError) (l : Labelled) → out-SyntaxError k ≡ SyntaxError-F.WithLabel l → k ≡ kinds.WithLabel l
opened k l e = sym (roll-out-SyntaxError k) ∙ ap roll-SyntaxError e ∙ kinds.rolls-WithLabel l

pub inner_plain : (e : Error) → ((l : Labelled) → e.kind ≢ kinds.WithLabel l) → inner_of e ≡ e
inner_plain e h = other (out-SyntaxError e.kind) e (λ l o. h l (opened e.kind l o))
