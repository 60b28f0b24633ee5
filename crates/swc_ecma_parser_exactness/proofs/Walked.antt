-- The faults that an answer adds, from what is known of each entry.
use Rattle.std.proofs.Common.{◌≡◌, ℕ, zero, suc, Bool, true, false, cond, List, [], ◌∷◌, ◌++◌, map, Result, Ok, Err, refl, sym, ap, ◌∙◌, true≢false, append-nil}
use Rattle.std.specs.Prelude.{◌||◌, if◌then◌else◌}
use Rattle.std.proofs.lemmas.List.{append_cancel_left}
use Rattle.swc_ecma_parser_error.specs.declared.error.Error.{Error}
use Rattle.swc_ecma_parser_error.specs.Kind.{Fault}
use Rattle.swc_ecma_parser_token.specs.declared.kind.TokenKind.TheVariants as kind
use Rattle.swc_ecma_parser_token.specs.declared.token.TokenAndSpan.{TokenAndSpan}
use Rattle.swc_ecma_parser_token.specs.Kind.{token_kind}
use Rattle.swc_ecma_parser_model.specs.Kinds.{is_module_decl}
use Rattle.swc_ecma_parser_model.specs.Tree.{Tree}
use Rattle.swc_ecma_parser_grammar.specs.Looks.{same_kind, has_error_token}
use Rattle.swc_ecma_parser_grammar.specs.Notes.{as_note}
use Rattle.swc_ecma_parser_grammar.specs.Walk.{is_tabled, is_dropping, tabled, drops, walk, env_of}
use Rattle.swc_ecma_parser_grammar.specs.language.Programs.{is_module_program}
use Rattle.swc_ecma_parser_grammar.proofs.Tabled.{tabled-append}
use Rattle.swc_ecma_parser_reader.specs.Entry.{SoundScript, SoundStatement, error_tokens, script_walk, statement_walk}
use Rattle.swc_ecma_parser_reader.specs.State.{State}
use Rattle.swc_ecma_parser_reader.proofs.Errors.{nothing_at_end}
use Rattle.swc_ecma_parser_module_reader.specs.Entry.{IsEntered, SoundModule}
use Rattle.swc_ecma_parser_module_reader.specs.ItemEntry.{SoundItemAlone, item_walk}
use Rattle.swc_ecma_parser_module_reader.specs.Modules.{module_code}
use Rattle.swc_ecma_parser_module_reader.specs.ProgramEntry.{SoundProgram, program_walk}
use Rattle.swc_ecma_parser_exactness.specs.Walked.{whole_module_walk}

-- ---- lists of faults

-- no error token where none is counted
none_stands : (ts : List TokenAndSpan) → error_tokens ts ≡ 0 → has_error_token ts ≡ false
none_stands [] h = refl
none_stands (t ∷ ts) h = by_kind (same_kind (token_kind t.token) kind.Error) (λ g. none_stands ts g) h
  where
    by_kind : (b : Bool) → (error_tokens ts ≡ 0 → has_error_token ts ≡ false) → cond b (suc (error_tokens ts)) (error_tokens ts) ≡ 0 → (b || has_error_token ts) ≡ false
    by_kind true f g = cc
    by_kind false f g = f g

drops-append : (es fs : List Fault) → drops (es ++ fs) ≡ (drops es || drops fs)
drops-append [] fs = refl
drops-append (e ∷ es) fs = by_kind (is_dropping e.kind) (drops-append es fs)
  where
    by_kind : (b : Bool) → drops (es ++ fs) ≡ (drops es || drops fs) → cond b true (drops (es ++ fs)) ≡ (cond b true (drops es) || drops fs)
    by_kind true h = refl
    by_kind false h = h

neither : (a b : Bool) → (a || b) ≡ false → (a ≡ false) × (b ≡ false)
neither true b h = absurd (true≢false h)
neither false b h = (refl, h)

none_of : (a b : Bool) → a ≡ false → b ≡ false → (a || b) ≡ false
none_of true b h g = h
none_of false b h g = g

-- what is noted has the kind of the fault
none_noted : (fs : List Fault) → tabled (map as_note fs) ≡ [] → tabled fs ≡ []
none_noted [] h = refl
none_noted (f ∷ fs) h = by_kind (is_tabled f.kind) (λ g. none_noted fs g) h
  where
    by_kind : (b : Bool) → (tabled (map as_note fs) ≡ [] → tabled fs ≡ []) → cond b (as_note f ∷ tabled (map as_note fs)) (tabled (map as_note fs)) ≡ [] → cond b (f ∷ tabled fs) (tabled fs) ≡ []
    by_kind true k g = cc
    by_kind false k g = k g

empty_notes : (fs : List Fault) → map as_note fs ≡ [] → fs ≡ []
empty_notes [] h = refl
empty_notes (f ∷ fs) h = cc

none_if : (b : Bool) (hs : List Fault) → hs ≡ [] → (if b then hs else []) ≡ []
none_if true hs h = h
none_if false hs h = refl

-- between what was recorded before and behind stands what was held back
between : (before recorded behind held : List Fault) → map as_note recorded ≡ held → tabled held ≡ [] → drops (before ++ recorded ++ behind) ≡ false
    → (drops (before ++ behind) ≡ false) × (tabled (before ++ recorded ++ behind) ≡ tabled (before ++ behind))
between before recorded behind held e h d =
    let p = neither (drops (before ++ recorded)) (drops behind) (sym (drops-append (before ++ recorded) behind) ∙ d) in
    let q = neither (drops before) (drops recorded) (sym (drops-append before recorded) ∙ p.0) in
    let none : tabled recorded ≡ [] = none_noted recorded (ap tabled e ∙ h) in (
      drops-append before behind ∙ none_of (drops before) (drops behind) q.0 p.1,
      tabled-append (before ++ recorded) behind ∙ ap (λ z. z ++ tabled behind) (tabled-append before recorded ∙ ap (λ z. tabled before ++ z) none ∙ append-nil (tabled before))
          ∙ sym (tabled-append before behind),
    )

-- the same were added
same_added : (s t : State) (fs gs : List Fault) → t.faults ≡ s.faults ++ fs → t.faults ≡ s.faults ++ gs → gs ≡ fs
same_added s t fs gs h g = append_cancel_left s.faults gs fs (sym g ∙ h)

-- ---- each entry

module _ (limit : ℕ) (s : State) (x : Tree) (t : State) (added : List Fault) (is : t.faults ≡ s.faults ++ added) (counts : error_tokens s.at.left ≡ error_tokens t.at.left) (kept : drops added ≡ false) where
  pub script_walked : SoundScript limit s x t → tabled added ≡ script_walk s x
  script_walked p =
      let e : added ≡ p.added = same_added s t p.added added p.faults is in
      ap tabled e ∙ p.walked (none_stands s.at.left (counts ∙ ap error_tokens (nothing_at_end t.at p.whole))) (ap drops (sym e) ∙ kept)

  pub statement_walked : (include_decl top_level : Bool) → SoundStatement limit include_decl top_level s x t → tabled added ≡ statement_walk s x
  statement_walked include_decl top_level p =
      let e : added ≡ p.added = same_added s t p.added added p.faults is in ap tabled e ∙ p.walked counts (ap drops (sym e) ∙ kept)

  module _ (none : s.notes.held_back ≡ []) where
    pub program_walked : SoundProgram limit s x t → tabled added ≡ program_walk s x
    program_walked p =
        let e : added ≡ p.before ++ p.recorded ++ p.behind = same_added s t (p.before ++ p.recorded ++ p.behind) added p.faults is in
        let n : map as_note p.recorded ≡ p.held = p.recorded_as ∙ ap (λ z. z ++ p.held) (none_if (is_module_program x) s.notes.held_back none) in
        let b = between p.before p.recorded p.behind p.held n p.untabled (ap drops (sym e) ∙ kept) in
        ap tabled e ∙ b.1 ∙ p.walked (none_stands s.at.left (counts ∙ ap error_tokens (nothing_at_end t.at p.whole))) b.0

    pub item_walked : SoundItemAlone limit s x t → tabled added ≡ item_walk s x
    item_walked p =
        let e : added ≡ p.before ++ p.recorded ++ p.behind = same_added s t (p.before ++ p.recorded ++ p.behind) added p.faults is in
        let n : map as_note p.recorded ≡ p.held = p.recorded_as ∙ ap (λ z. z ++ p.held) (none_if (is_module_decl x) s.notes.held_back none) in
        let b = between p.before p.recorded p.behind p.held n p.untabled (ap drops (sym e) ∙ kept) in ap tabled e ∙ b.1 ∙ p.walked counts b.0

    pub module_walked : (u : State) → IsEntered s u → SoundModule limit u x t → tabled added ≡ whole_module_walk s x
    module_walked u i p =
        let n : u.faults ≡ s.faults = i.faults ∙ ap (λ z. s.faults ++ z) (empty_notes i.recorded (i.recorded_as ∙ none)) ∙ append-nil s.faults in
        let e : added ≡ p.added = same_added s t p.added added (p.faults ∙ ap (λ z. z ++ p.added) n) is in
        let c : error_tokens u.at.left ≡ 0 = ap (λ c. error_tokens c.left) i.at ∙ counts ∙ ap error_tokens (nothing_at_end t.at p.whole) in
        ap tabled e ∙ p.walked (none_stands u.at.left c) (ap drops (sym e) ∙ kept) ∙ ap (λ k. walk (env_of (module_code k) u.scope.labels) x) i.code
        ∙ ap (λ w. walk (env_of (module_code s.code) w.labels) x) i.scope
