-- How a call ends, by what it came to.
use Rattle.std.proofs.Common.{◌≡◌, ◌∙◌, ◌+◌, ◌≤◌, ◌<◌, ℕ, List, ◌++◌, Err, None, Ok, Some, ap, arith, drop, inl, inr, length, refl, subst, sym}
use Rattle.std.specs.List.{flat_map}
use Rattle.std.specs.Prelude.{IsUtf8}
use Rattle.ecma_answers.specs.declared.options.Options.{Options}
use Rattle.ecma_answers.specs.declared.outcome.Outcome.{Outcome}
use Rattle.ecma_answers.specs.declared.findings.Findings.{Findings}
use Rattle.ecma_answers.specs.declared.told.Told.{Told}
use Rattle.ecma_answers.specs.Capped.{left_out}
use Rattle.ecma_answers.specs.Outcomes.{outcome_of}
use Rattle.ecma_answers.specs.Found.{Finds}
use Rattle.ecma_answers.specs.Told.{AllTold}
use Rattle.ecma_link.specs.declared.bytes.Wanted.{Wanted}
use Rattle.ecma_link.specs.declared.failure.Failure.{Failure}
use Rattle.ecma_link.specs.declared.failure.Failure.TheVariants as failure
use Rattle.ecma_link.specs.declared.faults.EcmaFault.{EcmaFault}
use Rattle.ecma_link.specs.declared.faults.EcmaNeeded.{EcmaNeeded}
use Rattle.ecma_link.specs.declared.options.EcmaOptions.{EcmaOptions}
use Rattle.ecma_link.specs.Asked.{asked}
use Rattle.ecma_link.specs.Calls.{Ends, HasSize, IsBadText, IsCall, IsReason, IsWritten}
use Rattle.ecma_link.specs.Faults as faults

pub unknown : (given : EcmaOptions) (text : List ℕ) (f : Failure) → asked given ≡ None → f ≡ failure.UnknownOption → IsReason given text f
unknown given text f h e = subst (λ it. IsReason given text it) (sym e) h

pub no_memory : (given : EcmaOptions) (text : List ℕ) (f : Failure) → f ≡ failure.OutOfMemory → IsReason given text f
no_memory given text f e = subst (λ it. IsReason given text it) (sym e) tt

pub bad_text : (given : EcmaOptions) (text : List ℕ) (f : Failure) → IsBadText text f → IsReason given text f
bad_text given text failure.TooShort h = h
bad_text given text failure.OutOfMemory h = tt
bad_text given text failure.NotUtf8 h = h
bad_text given text failure.TooLong h = h
bad_text given text failure.UnknownOption h = absurd h

-- ---- a room of bytes

pub called : (w : Wanted) (given : EcmaOptions) (text chars : List ℕ) (o : Options) (r : Findings) (outcome : Outcome) (bytes : List ℕ)
    → asked given ≡ Some o → chars ≡ text → IsUtf8 text → Finds o chars r → outcome ≡ outcome_of r.reading.tree r.reading.faults.items r.early.items
    → IsWritten w o chars r bytes → IsCall w given text outcome bytes
called w given text chars o r outcome bytes e f utf8 finds out written =
    (utf8, (o, e, (r, subst (λ it. Finds o it r) f finds, out, subst (λ it. IsWritten w o it r bytes) f written)))

pub unanswered : (w : Wanted) (given : EcmaOptions) (text : List ℕ) (f : Failure) (old : List ℕ) → IsReason given text f → Ends w given text (Err f) old old 0
unanswered w given text failure.TooShort old h = absurd h
unanswered w given text failure.OutOfMemory old h = (refl, refl, h)
unanswered w given text failure.NotUtf8 old h = (refl, refl, h)
unanswered w given text failure.TooLong old h = (refl, refl, h)
unanswered w given text failure.UnknownOption old h = (refl, refl, h)

pub too_short : (w : Wanted) (given : EcmaOptions) (text : List ℕ) (f : Failure) (outcome : Outcome) (bytes items old new : List ℕ) (needed : ℕ)
    → f ≡ failure.TooShort → new ≡ old → length old < length items → IsCall w given text outcome bytes → items ≡ bytes → needed ≡ length items
    → Ends w given text (Err f) old new needed
too_short w given text f outcome bytes items old new needed e kept short h same n =
    let is_too_short = subst (λ it. length old < it) (sym n) short in
    let sized : HasSize w given text needed = (outcome, bytes, ap length (sym same) ∙ sym n, h) in
    subst (λ it. Ends w given text (Err it) old new needed) (sym e) (kept, is_too_short, sized)

pub answered : (w : Wanted) (given : EcmaOptions) (text : List ℕ) (outcome : Outcome) (bytes items old new : List ℕ) (needed : ℕ)
    → IsCall w given text outcome bytes → items ≡ bytes → needed ≡ length items → length items ≤ length old → new ≡ items ++ drop (length items) old
    → Ends w given text (Ok outcome) old new needed
answered w given text outcome bytes items old new needed h same e fits front =
    let whole = subst (λ it. IsCall w given text outcome it) (sym same) h in
    (items, whole, e, subst (λ n. n ≤ length old) (sym e) fits, front ∙ ap (λ n. items ++ drop n old) (sym e))

-- ---- a room of faults and one of bytes

pub called_faults : (given : EcmaOptions) (text chars : List ℕ) (o : Options) (r : Findings) (outcome : Outcome) (told slice : List Told)
    → (its : List EcmaFault) (words : List ℕ) (more : ℕ) → asked given ≡ Some o → chars ≡ text → IsUtf8 text → Finds o chars r
    → outcome ≡ outcome_of r.reading.tree r.reading.faults.items r.early.items → AllTold o.max_faults chars r told → slice ≡ told → faults.AreFaults words slice its
    → words ≡ flat_map faults.words_of slice
    → more ≡ left_out o.max_faults (length r.reading.faults.items + length r.early.items) → faults.IsCall given text outcome its words more
called_faults given text chars o r outcome told slice its words more e f utf8 finds out all same are spelled left = (
  utf8,
  (
    o,
    e,
    (
      r,
      subst (λ it. Finds o it r) f finds,
      out,
      (told, subst (λ it. AllTold o.max_faults it r told) f all, subst (λ it. faults.AreFaults words it its) same are, subst (λ it. words ≡ flat_map faults.words_of it) same spelled),
      left,
    ),
  ),
)

pub unanswered_faults : (given : EcmaOptions) (text : List ℕ) (f : Failure) (room : List EcmaFault) (words : List ℕ) → IsReason given text f
    → faults.Ends given text (Err f) room room words words faults.nothing
unanswered_faults given text failure.TooShort room words h = absurd h
unanswered_faults given text failure.OutOfMemory room words h = (refl, refl, refl, h)
unanswered_faults given text failure.NotUtf8 room words h = (refl, refl, refl, h)
unanswered_faults given text failure.TooLong room words h = (refl, refl, refl, h)
unanswered_faults given text failure.UnknownOption room words h = (refl, refl, refl, h)

sized : (given : EcmaOptions) (text : List ℕ) (outcome : Outcome) (its items : List EcmaFault) (words bytes : List ℕ) (more : ℕ) (needed : EcmaNeeded)
    → faults.IsCall given text outcome its words more → items ≡ its → bytes ≡ words → needed ≡ record { struct_size = 32; faults = length items; words = length bytes; more = more }
    → faults.HasSize given text needed
sized given text outcome its items words bytes more needed h same_faults same_words e =
    subst (λ n. faults.HasSize given text n) (sym e) (outcome, its, words, refl, ap length (sym same_faults), ap length (sym same_words), h)

pub too_short_for_faults : (given : EcmaOptions) (text : List ℕ) (outcome : Outcome) (its items room : List EcmaFault) (words bytes kept : List ℕ)
    → (more : ℕ) (needed : EcmaNeeded) → length room < length items → faults.IsCall given text outcome its words more → items ≡ its → bytes ≡ words
    → needed ≡ record { struct_size = 32; faults = length items; words = length bytes; more = more } → faults.Ends given text (Err failure.TooShort) room room kept kept needed
too_short_for_faults given text outcome its items room words bytes kept more needed short h same_faults same_words e =
    let is_too_short = subst (λ n. length room < n.faults) (sym e) short in
    (refl, refl, inl is_too_short, sized given text outcome its items words bytes more needed h same_faults same_words e)

pub too_short_for_words : (given : EcmaOptions) (text : List ℕ) (f : Failure) (outcome : Outcome) (its items room : List EcmaFault)
    → (words bytes old new : List ℕ) (more : ℕ) (needed : EcmaNeeded) → f ≡ failure.TooShort → new ≡ old → length old < length bytes
    → faults.IsCall given text outcome its words more → items ≡ its → bytes ≡ words → needed ≡ record { struct_size = 32; faults = length items; words = length bytes; more = more }
    → faults.Ends given text (Err f) room room old new needed
too_short_for_words given text f outcome its items room words bytes old new more needed e kept short h same_faults same_words n =
    let is_too_short = subst (λ n. length old < n.words) (sym n) short in
    let size = sized given text outcome its items words bytes more needed h same_faults same_words n in
    subst (λ it. faults.Ends given text (Err it) room room old new needed) (sym e) (refl, kept, inr is_too_short, size)

pub answered_faults : (given : EcmaOptions) (text : List ℕ) (outcome : Outcome) (its items : List EcmaFault) (words bytes : List ℕ)
    → (old_faults new_faults : List EcmaFault) (old_words new_words : List ℕ) (more : ℕ) (needed : EcmaNeeded)
    → faults.IsCall given text outcome its words more → items ≡ its → bytes ≡ words → needed ≡ record { struct_size = 32; faults = length items; words = length bytes; more = more }
    → length items ≤ length old_faults → length bytes ≤ length old_words → new_faults ≡ items ++ drop (length items) old_faults
    → new_words ≡ bytes ++ drop (length bytes) old_words → faults.Ends given text (Ok outcome) old_faults new_faults old_words new_words needed
answered_faults given text outcome its items words bytes old_faults new_faults old_words new_words more needed h same_faults same_words e fits_faults fits_words f g =
    let first = subst (λ it. faults.IsCall given text outcome it words more) (sym same_faults) h in
    let whole = subst (λ it. faults.IsCall given text outcome items it more) (sym same_words) first in
    subst (λ n. faults.Ends given text (Ok outcome) old_faults new_faults old_words new_words n) (sym e)
    (items, bytes, whole, refl, refl, fits_faults, f, refl, fits_words, g)

-- a room that was long enough is not too short
pub no_room : (given : EcmaOptions) (text : List ℕ) (f : Failure) (old_faults new_faults : List EcmaFault) (old_words new_words : List ℕ)
    → (needed : EcmaNeeded) (size room : ℕ) → room < size → size ≤ room
    → faults.Ends given text (Err f) old_faults new_faults old_words new_words needed
no_room given text f old_faults new_faults old_words new_words needed size room h k = absurd (omega arith)
