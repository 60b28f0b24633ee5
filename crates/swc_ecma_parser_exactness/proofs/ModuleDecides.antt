-- An entry for modules, items or programs that is sound and answers whatever is read decides.
use Rattle.std.proofs.Common.{◌≡◌, ℕ, suc, ◌+◌, true, List, [], ◌∷◌, ◌++◌, map, length, length-append, Result, Ok, Err, IfOk, inl, refl, sym, ◌∙◌, ap, arith}
use Rattle.std.specs.Prelude.{if◌then◌else◌}
use Rattle.swc_ecma_parser_error.specs.declared.error.Error.{Error}
use Rattle.swc_ecma_parser_error.specs.Kind.{Fault}
use Rattle.swc_ecma_parser_input.specs.TokenSource.{ordered_from}
use Rattle.swc_ecma_parser_model.specs.Kinds.{is_module_decl}
use Rattle.swc_ecma_parser_model.specs.Tree.{Tree}
use Rattle.swc_ecma_parser_grammar.specs.Notes.{as_note}
use Rattle.swc_ecma_parser_grammar.specs.language.Programs as programs
use Rattle.swc_ecma_parser_grammar.specs.language.Programs.{is_module_program, Spells}
use Rattle.swc_ecma_parser_grammar.proofs.SupportedIn.{parted}
use Rattle.swc_ecma_parser_reader.specs.State.{State}
use Rattle.swc_ecma_parser_module_reader.specs.Entry.{SoundModule, module_walk, module_left}
use Rattle.swc_ecma_parser_module_reader.specs.ItemEntry.{SoundItemAlone}
use Rattle.swc_ecma_parser_module_reader.specs.ProgramEntry.{SoundProgram, ReadsProgram, program_walk}
use Rattle.swc_ecma_parser_exactness.specs.Completes.{CompletesModule, CompletesItem, CompletesProgram}
use Rattle.swc_ecma_parser_exactness.specs.ModuleDecides.{DecidesModule, DecidesItem, DecidesProgram}
use Rattle.swc_ecma_parser_exactness.proofs.Decides.{none_behind, moved, decides, no_faults}

-- ---- lists of faults

none_in : (fs : List Fault) → length fs ≡ 0 → fs ≡ []
none_in [] e = refl
none_in (f ∷ fs) e = absurd (let l : length (f ∷ fs) ≡ suc (length fs) = refl in omega arith)

mapped : (f : Fault → Fault) (fs : List Fault) → length (map f fs) ≡ length fs
mapped f [] = refl
mapped f (x ∷ xs) = ap suc (mapped f xs)

-- where as many are recorded as had been held back, none stand before them and behind, and no others were held back
record Nothing (before behind held : List Fault) : Type 0 where
  recorded : before ++ behind ≡ []
  held_back : held ≡ []

nothing_else : (fs before old behind new hs held : List Fault) (h : ℕ) → length hs ≡ h → map as_note old ≡ hs ++ held → length (map as_note new) ≡ h
    → fs ++ (before ++ old ++ behind) ≡ fs ++ new → Nothing before behind held
nothing_else fs before old behind new hs held h g a b e =
    let i : length (map as_note old) ≡ length old = mapped as_note old in
    let j : length (map as_note new) ≡ length new = mapped as_note new in
    let l : length (fs ++ (before ++ old ++ behind)) ≡ length (fs ++ new) = ap length e in
    let m : length (fs ++ (before ++ old ++ behind)) ≡ length fs + length (before ++ old ++ behind) = length-append fs (before ++ old ++ behind) in
    let n : length (before ++ old ++ behind) ≡ length (before ++ old) + length behind = length-append (before ++ old) behind in
    let o : length (before ++ old) ≡ length before + length old = length-append before old in
    let p : length (fs ++ new) ≡ length fs + length new = length-append fs new in
    let q : length (map as_note old) ≡ length (hs ++ held) = ap length a in
    let r : length (hs ++ held) ≡ length hs + length held = length-append hs held in
    let u : before ≡ [] = none_in before (omega arith) in
    let v : behind ≡ [] = none_in behind (omega arith) in
    record { recorded = ap (λ z. z ++ behind) u ∙ v; held_back = none_in held (omega arith) }

-- ---- modules

module _ (X : Type 0) (view : X → Tree) (limit : ℕ) (s : State) where
  module_spells : (r : Result X Error) (t : State) → IfOk r (λ y. SoundModule limit s (view y) t)
      → IfOk r (λ y. t.faults ≡ s.faults → Spells limit programs.«module» s.code s.scope.labels (view y) s.at t.at)
  module_spells (Ok y) t h = λ e. h.spells (none_behind s.faults h.added (sym h.faults ∙ e))
  module_spells (Err e) t h = tt

  pub module_decides : (r : Result X Error) (t : State) → ordered_from 0 s.at.left ≡ true → IfOk r (λ y. SoundModule limit s (view y) t) → CompletesModule view limit s r t
      → DecidesModule view limit s r t
  module_decides r t ordered sound completes =
      decides X view s r t (λ x d. Spells limit programs.«module» s.code s.scope.labels x s.at d) (module_spells r t sound) (λ x d h. record {
        left = module_left s x d h.0.0.awaits;
        at = refl;
        faults = no_faults s.faults (module_walk s x) h.1;
        gives = completes x d h.0 (λ e. ordered) (inl h.1);
      })

-- ---- where what had been held back is recorded too

module _ (X : Type 0) (view : X → Tree) (limit : ℕ) (s : State) where
  pub item_decides : (r : Result X Error) (t : State) → ordered_from 0 s.at.left ≡ true → IfOk r (λ y. SoundItemAlone limit s (view y) t) → CompletesItem view limit s r t
      → DecidesItem view limit s r t
  item_decides (Ok y) t ordered sound completes l x d = (
    λ a. let (new, note, e) = a.2 in
        let held : List Fault = if is_module_decl (view y) then s.notes.held_back else [] in
        let n = nothing_else s.faults sound.before sound.recorded sound.behind new held sound.held _ (ap (λ z. length (if is_module_decl z then s.notes.held_back else [])) a.0) sound.recorded_as (ap length note) (sym sound.faults ∙ e) in
        moved (λ z c. Spells limit programs.module_item s.code s.scope.labels z s.at c) a.0 a.1 (sound.spells n.recorded n.held_back),
    λ h. let (before, recorded, behind, walked, first, note, is, left) = completes x d h.0 (λ e. ordered) (inl h.1) in
        let n = parted before behind (walked ∙ h.1) in
        (is, ap (λ u. u.at) left, (recorded, note, ap (λ u. u.faults) left ∙ ap (λ z. s.faults ++ z) (ap (λ z. z ++ recorded ++ behind) n.0 ∙ no_faults recorded behind n.1))),
  )
  item_decides (Err e) t ordered sound completes l x d = (λ a. absurd a, λ h. absurd (l (completes x d h.0 (λ e. ordered) (inl h.1))))

  pub program_decides : (r : Result X Error) (t : State) → ordered_from 0 s.at.left ≡ true → IfOk r (λ y. SoundProgram limit s (view y) t) → CompletesProgram view limit s r t
      → DecidesProgram view limit s r t
  program_decides (Ok y) t ordered sound completes l x d = (
    λ a. let (new, note, e) = a.2 in
        let held : List Fault = if is_module_program (view y) then s.notes.held_back else [] in
        let n = nothing_else s.faults sound.before sound.recorded sound.behind new held sound.held _ (ap (λ z. length (if is_module_program z then s.notes.held_back else [])) a.0) sound.recorded_as (ap length note) (sym sound.faults ∙ e) in
        moved (λ z c. ReadsProgram limit s.notes.found_module_item s.code z s.at c × (program_walk s z ≡ [])) a.0 a.1 (sound.spells n.recorded n.held_back),
    λ h. let (before, recorded, behind, walked, note, is, left) = completes x d h.0 (λ e. ordered) (inl h.1) in
        let n = parted before behind (walked ∙ h.1) in
        (is, ap (λ u. u.at) left, (recorded, note, ap (λ u. u.faults) left ∙ ap (λ z. s.faults ++ z) (ap (λ z. z ++ recorded ++ behind) n.0 ∙ no_faults recorded behind n.1))),
  )
  program_decides (Err e) t ordered sound completes l x d = (λ a. absurd a, λ h. absurd (l (completes x d h.0 (λ e. ordered) (inl h.1))))
