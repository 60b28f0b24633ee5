-- Two parsers of one source, with one limit, that are asked for the same answer the same, unless memory runs out.
use Rattle.std.proofs.Common.{◌≡◌, ◌≢◌, ℕ, Bool, true, false, cond, List, [], ◌∷◌, ◌++◌, map, Option, Result, Ok, Err, refl, sym, ap, ◌∙◌, subst, append-nil, true≢false}
use Rattle.std.specs.Prelude.{◌↔◌, not, ◌&&◌}
use Rattle.swc_ecma_parser_common.specs.declared.span.Span.{Span}
use Rattle.swc_ecma_parser_error.specs.declared.error.Error.{Error}
use Rattle.swc_ecma_parser_error.specs.Kind.{Kind, Fault, WithInStrict, fault_of}
use Rattle.swc_ecma_parser_input.specs.Place.{Place}
use Rattle.swc_ecma_parser_input.specs.TokenSource.{TokenSource}
use Rattle.swc_ecma_parser_model.specs.Tree.{Tree, Text}
use Rattle.swc_ecma_parser_grammar.specs.Notes.{as_note, note_span}
use Rattle.swc_ecma_parser_grammar.specs.language.Programs as programs
use Rattle.swc_ecma_parser_grammar.specs.language.Programs.{Entry, Spells, at_top}
use Rattle.swc_ecma_parser_reader.specs.Reader.{at_end, script, shebang, whole_stmt}
use Rattle.swc_ecma_parser_reader.specs.State.{State, Outcome, and_then, coded}
use Rattle.swc_ecma_parser_module_reader.specs.Entry.{IsEntered}
use Rattle.swc_ecma_parser_module_reader.specs.Modules.{module_code, module_whole}
use Rattle.swc_ecma_parser_module_reader.specs.Programs.{Front, behind_front, entered, front, program_body, program_code, program_whole}
use Rattle.swc_ecma_parser_module_reader.proofs.ProgramLoops.{is_module, is_script, refused_before, refused_behind, refused_first, whole_read, whole_refused}
use Rattle.swc_ecma_parser_exactness.specs.Decides.{Lasts}
use Rattle.swc_ecma_parser_entries.specs.Refusals.{held_behind, program_held}
use Rattle.swc_ecma_parser_state.specs.Opened.{opened}
use Rattle.swc_ecma_parser.specs.Headline.{IsNew, IsClean, Headline, code_of, start_of}
use Rattle.swc_ecma_parser.specs.Same.{IsSame, IsSettled, is_with, has_no_with}
use Rattle.swc_ecma_parser.proofs.Answered.{none_held}

-- a tree is answered with nothing recorded exactly where the tokens spell it up to some place
pub some_place : {X : Type 0} (view : X → Tree) (entry : Entry) (limit : ℕ) (s : TokenSource) (r : Result X Error) (fs : List Fault) (d : Place) → Headline view entry limit s r fs d
    → IsNew s → Lasts r → (x : Tree) → IsClean view r fs x ↔ ((e : Place) × Spells limit entry (code_of s) [] x (start_of s) e)
some_place view entry limit s r fs d h new l x = (λ p. (d, (h.decides new l x d).0 (p, refl)), λ q. ((h.decides new l x q.0).1 q.1).0)

-- ---- one outcome of the reader

module _ {A : Type 0} where
  abbrev value_of : A → Outcome A → A
  value_of a (Ok p) = p.0
  value_of a (Err e) = a

  abbrev refusal_of : Fault → Outcome A → Fault
  refusal_of f (Ok p) = f
  refusal_of f (Err e) = e.0

  abbrev state_of : Outcome A → State
  state_of (Ok p) = p.1
  state_of (Err e) = e.1

module _ {X A : Type 0} (view : X → A) (o : Outcome A) where
  -- an answer or a refusal as the reader has it, with its faults
  abbrev Comes : Result X Error → List Fault → Type 0
  Comes (Ok x) fs = (t : State) × (o ≡ Ok (view x, t)) × (fs ≡ t.faults)
  Comes (Err e) fs = (t : State) × (o ≡ Err (fault_of e, t)) × (fs ≡ t.faults)

  same : (see : A → Tree) (r q : Result X Error) (fs gs : List Fault) → Comes r fs → Comes q gs → IsSame (λ x. see (view x)) r fs q gs
  same see (Ok x) (Ok y) fs gs (t, h, f) (v, k, g) = (ap (λ z. see (value_of (view x) z)) (sym h ∙ k), f ∙ ap (λ z. (state_of z).faults) (sym h ∙ k) ∙ sym g)
  same see (Ok x) (Err e) fs gs (t, h, f) (v, k, g) = cc
  same see (Err e) (Ok y) fs gs (t, h, f) (v, k, g) = cc
  same see (Err e) (Err d) fs gs (t, h, f) (v, k, g) = (ap (refusal_of (fault_of e)) (sym h ∙ k), f ∙ ap (λ z. (state_of z).faults) (sym h ∙ k) ∙ sym g)

-- ---- what a program holds back

abbrev held_told : List Fault → Outcome (Tree × List Fault) → List Fault
held_told hs (Ok p) = p.0.1
held_told hs (Err e) = hs

module _ (n : ℕ) (recorded : List Fault) (s : State) (x : Tree) (hs : List Fault) (t : State) (h : program_body n recorded s ≡ Ok ((x, hs), t)) where
  module _ (first : Option Text) (u : State) (f : shebang s ≡ Ok (first, u)) where
    module _ (w : Front) (v : State) (g : front n u ≡ Ok (w, v)) where
      by_items : (e : at_end v.at && not v.notes.found_module_item ≡ false) (a : Outcome (List Tree)) → behind_front n w.list (entered recorded v) ≡ a → hs ≡ v.notes.held_back
      by_items e (Ok (behind, z)) k = ap (held_told hs) (sym h ∙ is_module n recorded s first u f w v g e behind z k)
      by_items e (Err p) k = let no : program_body n recorded s ≡ Err p = refused_behind n recorded s first u f w v g e p k in cc

      by_end : (b : Bool) → at_end v.at && not v.notes.found_module_item ≡ b → hs ≡ cond b [] v.notes.held_back
      by_end true e = ap (held_told hs) (sym h ∙ is_script n recorded s first u f w v g e)
      by_end false e = by_items e (behind_front n w.list (entered recorded v)) refl

    by_front : (a : Outcome Front) → front n u ≡ a → hs ≡ held_behind a
    by_front (Ok (w, v)) g = by_end w v g (at_end v.at && not v.notes.found_module_item) refl
    by_front (Err e) g = let no : program_body n recorded s ≡ Err e = refused_before n recorded s first u f e g in cc

  by_first : (a : Outcome (Option Text)) → shebang s ≡ a → hs ≡ held_behind (and_then a (λ first. front n))
  by_first (Ok (first, u)) f = by_front first u f (front n u) refl
  by_first (Err e) f = let no : program_body n recorded s ≡ Err e = refused_first n recorded s e f in cc

  body_told : hs ≡ held_behind (and_then (shebang s) (λ first. front n))
  body_told = by_first (shebang s) refl

module _ (n : ℕ) (recorded : List Fault) (s : State) (x : Tree) (hs : List Fault) (t : State) (h : program_whole n recorded s ≡ Ok ((x, hs), t)) where
  by_body : (a : Outcome (Tree × List Fault)) → program_body n recorded (coded (program_code s.code) s) ≡ a → hs ≡ program_held n s
  unfolding program_held
  by_body (Ok (p, u)) k = ap (held_told hs) (sym h ∙ whole_read n recorded s p u k) ∙ body_told n recorded (coded (program_code s.code) s) p.0 p.1 u k
  by_body (Err e) k = let no : program_whole n recorded s ≡ Err e = whole_refused n recorded s e k in cc

  program_told : hs ≡ program_held n s
  program_told = by_body (program_body n recorded (coded (program_code s.code) s)) refl

-- of any other fault a note says all
whole_span : (k : Kind) (s : Span) → is_with k ≡ false → note_span k s ≡ s
whole_span WithInStrict s h = cc
whole_span _ s h = refl

both : (a b : Bool) → (a && b) ≡ true → (a ≡ true) × (b ≡ true)
both true b h = (refl, h)
both false b h = absurd (true≢false (sym h))

unsaid : (b : Bool) → not b ≡ true → b ≡ false
unsaid true h = cc
unsaid false h = refl

same_notes : (fs hs : List Fault) → map as_note fs ≡ hs → has_no_with hs ≡ true → fs ≡ hs
same_notes fs hs e h = sym (all_said fs (ap has_no_with e ∙ h)) ∙ e
  where
    all_said : (fs : List Fault) → has_no_with (map as_note fs) ≡ true → map as_note fs ≡ fs
    all_said [] h = refl
    all_said (f ∷ fs) h =
        let (a, b) = both (not (is_with f.kind)) (has_no_with (map as_note fs)) h in
        let span = whole_span f.kind f.span (unsaid (is_with f.kind) a) in
        λ i. record { span = span i; kind = f.kind } ∷ all_said fs b i

-- ---- module code begins in one state where nothing was held back

none_noted : (fs : List Fault) → map as_note fs ≡ [] → fs ≡ []
none_noted [] h = refl
none_noted (f ∷ fs) h = cc

abbrev in_module : State → State
in_module s = record s { code = module_code s.code; notes = record s.notes { held_back = [] } }

entered_once : (s u : State) → IsEntered s u → s.notes.held_back ≡ [] → u ≡ in_module s
entered_once s u i none =
    let faults : u.faults ≡ s.faults = i.faults ∙ ap (λ z. s.faults ++ z) (none_noted i.recorded (i.recorded_as ∙ none)) ∙ append-nil s.faults in
    λ j. record { at = i.at j; code = i.code j; scope = i.scope j; faults = faults j; notes = i.notes j }

-- ---- each entry

module _ {X : Type 0} (view : X → Tree) (limit : ℕ) (s : TokenSource) (plain : s.context.«module» ≡ false) (fs : List Fault) (d : Place) where
  comes_script : (r : Result X Error) → Headline view programs.script limit s r fs d → Lasts r → Comes view (script limit (opened s)) r fs
  comes_script (Ok x) h l = let (t, k, f, at) = h.reads l in (t, k, f)
  comes_script (Err e) h l = let (t, f, k) = h.refuses in let w = k l in (w.stopped, w.refused, f ∙ w.faults plain)

  comes_stmt : (top_level : Bool) (r : Result X Error) → Headline view (programs.stmt top_level) limit s r fs d → Lasts r → Comes view (whole_stmt limit (at_top false top_level) (opened s)) r fs
  comes_stmt top_level (Ok x) h l = let (t, k, f, at) = h.reads l in (t, k, f)
  comes_stmt top_level (Err e) h l = let (t, f, k) = h.refuses in let w = k l in (w.stopped, w.refused, f ∙ w.faults plain)

  comes_item : (top_level : Bool) (r : Result X Error) → Headline view (programs.stmt_list_item top_level) limit s r fs d → Lasts r
      → Comes view (whole_stmt limit (at_top true top_level) (opened s)) r fs
  comes_item top_level (Ok x) h l = let (t, k, f, at) = h.reads l in (t, k, f)
  comes_item top_level (Err e) h l = let (t, f, k) = h.refuses in let w = k l in (w.stopped, w.refused, f ∙ w.faults plain)

  comes_module : (r : Result X Error) → (opened s).notes.held_back ≡ [] → Headline view programs.«module» limit s r fs d → Lasts r → Comes view (module_whole limit (in_module (opened s))) r fs
  comes_module (Ok x) none h l = let (t, (u, i, k), f, at) = h.reads l in (t, subst (λ z. module_whole limit z ≡ Ok (view x, t)) (entered_once (opened s) u i none) k, f)
  comes_module (Err e) none h l =
      let (t, f, k) = h.refuses in
      let (u, i, w) = k l in (w.stopped, subst (λ z. module_whole limit z ≡ Err (fault_of e, w.stopped)) (entered_once (opened s) u i none) w.refused, f ∙ w.faults plain)

  comes_program : (r : Result X Error) (hs : List Fault) → hs ≡ program_held limit (opened s) → has_no_with hs ≡ true → Headline view programs.program limit s r fs d → Lasts r
      → Comes (λ x. (view x, hs)) (program_whole limit hs (opened s)) r fs
  comes_program (Ok x) hs is settled h l =
      let (t, (recorded, k), f, at) = h.reads l in
      let told : map as_note recorded ≡ hs = program_told limit recorded (opened s) (view x) (map as_note recorded) t k ∙ sym is in (
        t,
        subst (λ z. program_whole limit z (opened s) ≡ Ok ((view x, hs), t)) (same_notes recorded hs told settled)
            (subst (λ z. program_whole limit recorded (opened s) ≡ Ok ((view x, z), t)) told k),
        f,
      )
  comes_program (Err e) hs is settled h l =
      let (t, f, k) = h.refuses in
      let (recorded, told, w) = k l in
      (w.stopped, subst (λ z. program_whole limit z (opened s) ≡ Err (fault_of e, w.stopped)) (same_notes recorded hs (told ∙ sym is) settled) w.refused, f ∙ w.faults plain)

-- ---- two readings of one source

module _ {X : Type 0} (view : X → Tree) (limit : ℕ) (s : TokenSource) (new : IsNew s) (plain : s.context.«module» ≡ false) (r q : Result X Error) (fs gs : List Fault) (d e : Place) where
  pub same_reading : (entry : Entry) → IsSettled entry limit (opened s) → Headline view entry limit s r fs d → Headline view entry limit s q gs e → Lasts r → Lasts q → IsSame view r fs q gs
  same_reading programs.script p h k l m = same view (script limit (opened s)) (λ x. x) r q fs gs (comes_script view limit s plain fs d r h l) (comes_script view limit s plain gs e q k m)
  same_reading programs.«module» p h k l m =
      same view (module_whole limit (in_module (opened s))) (λ x. x) r q fs gs (comes_module view limit s plain fs d r (none_held s new) h l)
      (comes_module view limit s plain gs e q (none_held s new) k m)
  same_reading (programs.stmt top_level) p h k l m =
      same view (whole_stmt limit (at_top false top_level) (opened s)) (λ x. x) r q fs gs (comes_stmt view limit s plain fs d top_level r h l) (comes_stmt view limit s plain gs e top_level q k m)
  same_reading (programs.stmt_list_item top_level) p h k l m =
      same view (whole_stmt limit (at_top true top_level) (opened s)) (λ x. x) r q fs gs (comes_item view limit s plain fs d top_level r h l) (comes_item view limit s plain gs e top_level q k m)
  same_reading programs.program p h k l m =
      let hs = program_held limit (opened s) in
      same (λ x. (view x, hs)) (program_whole limit hs (opened s)) (λ z. z.0) r q fs gs (comes_program view limit s plain fs d r hs refl p h l)
      (comes_program view limit s plain gs e q hs refl p k m)
  same_reading programs.module_item p h k l m = absurd p
