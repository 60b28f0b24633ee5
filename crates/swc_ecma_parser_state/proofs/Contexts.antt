-- Setting a context leaves the tokens, and is what is set.
use Rattle.std.proofs.Common.{◌≡◌, Bool, true, false, cond, List, [], ◌∷◌, ◌++◌, map, refl, sym, ap, ◌∙◌, append-nil}
use Rattle.std.proofs.lemmas.List.{map-append}
use Rattle.swc_ecma_parser_error.specs.declared.error.Error.{Error}
use Rattle.swc_ecma_parser_error.specs.Kind.{Fault, fault_of, faults_of}
use Rattle.swc_ecma_parser_grammar.specs.Notes.{as_note}
use Rattle.swc_ecma_parser_input.specs.declared.context.Context.{Context}
use Rattle.swc_ecma_parser_input.specs.TokenSource as source
use Rattle.swc_ecma_parser_input.specs.TokenSource.{TokenSource}
use Rattle.swc_ecma_parser_input.specs.Buffered as buffered
use Rattle.swc_ecma_parser_input.specs.Buffered.{Buffered}
use Rattle.swc_ecma_parser_reader.specs.Entry.{IsLater}
use Rattle.swc_ecma_parser_reader.specs.Notes.{held_of}

left_of : (b : Bool) (c : Context) (s : TokenSource) → (cond b (record (source.released s) { context = c }) (record s { context = c })).left ≡ s.left
left_of true c s = refl
left_of false c s = refl

pub left_stays : (c : Context) (s : TokenSource) → (source.with_context c s).left ≡ s.left
left_stays c s = left_of c.«module» c s

context_of : (b : Bool) (c : Context) (s : Buffered) → (cond b (record (buffered.released s) { context = c }) (record s { context = c })).context ≡ c
context_of true c s = refl
context_of false c s = refl

pub context_is : (c : Context) (s : Buffered) → (buffered.with_context c s).context ≡ c
context_is c s = context_of c.«module» c s

recorded_of : (b : Bool) (c : Context) (s : Buffered) → IsLater (faults_of s.recorded) (faults_of (cond b (record (buffered.released s) { context = c }) (record s { context = c })).recorded)
recorded_of true c s = (faults_of s.held_back, map-append fault_of s.recorded s.held_back)
recorded_of false c s = ([], sym (append-nil (faults_of s.recorded)))

-- in a module's those that were held back are recorded
pub recorded_stay : (c : Context) (s : Buffered) → IsLater (faults_of s.recorded) (faults_of (buffered.with_context c s).recorded)
recorded_stay c s = recorded_of c.«module» c s

plain_of : (b : Bool) (c : Context) (s : Buffered) → b ≡ false → (cond b (record (buffered.released s) { context = c }) (record s { context = c })).recorded ≡ s.recorded
plain_of true c s h = cc
plain_of false c s h = refl

-- in any other nothing is
pub none_recorded : (c : Context) (s : Buffered) → c.«module» ≡ false → (buffered.with_context c s).recorded ≡ s.recorded
none_recorded c s = plain_of c.«module» c s

-- ---- where module code begins

notes_of_held : (hs : List Error) → map as_note (faults_of hs) ≡ held_of hs
notes_of_held [] = refl
notes_of_held (h ∷ hs) = ap (λ z. as_note (fault_of h) ∷ z) (notes_of_held hs)

module _ {c : Context} (b d : Buffered) (e : d ≡ record (buffered.released b) { context = c }) where
  -- what was held back is recorded
  pub released_faults : (fs : List Fault) × (faults_of d.recorded ≡ faults_of b.recorded ++ fs) × (map as_note fs ≡ held_of b.held_back)
  released_faults = (faults_of b.held_back, ap (λ z. faults_of z.recorded) e ∙ map-append fault_of b.recorded b.held_back, notes_of_held b.held_back)
