-- What a new parser answers, from what each entry says.
use Rattle.std.proofs.Common.{◌≡◌, ℕ, ◌+◌, ◌*◌, ◌≤◌, Bool, true, false, cond, List, [], ◌∷◌, ◌++◌, length, map, Result, Ok, Err, refl, sym, ap, ◌∙◌, subst, append-nil, true≢false}
use Rattle.std.specs.Prelude.{◌↔◌, ◌||◌, IfOk, IfErr, IsOk, IsErrAnd}
use Rattle.swc_ecma_parser_error.specs.declared.error.Error.{Error}
use Rattle.swc_ecma_parser_error.specs.Kind as kinds
use Rattle.swc_ecma_parser_error.specs.Kind.{Fault, fault_of, faults_of, kind_of, OutOfMemory}
use Rattle.swc_ecma_parser_token.specs.declared.kind.TokenKind.TheVariants as kind
use Rattle.swc_ecma_parser_token.specs.declared.token.TokenAndSpan.{TokenAndSpan}
use Rattle.swc_ecma_parser_input.specs.declared.context.Context.{Context}
use Rattle.swc_ecma_parser_input.specs.Place.{Place, first, second, lacks_memory}
use Rattle.swc_ecma_parser_input.specs.TokenSource.{TokenSource, at_start, released}
use Rattle.swc_ecma_parser_model.specs.Tree.{Tree}
use Rattle.swc_ecma_parser_grammar.specs.Looks.{kind_at}
use Rattle.swc_ecma_parser_grammar.specs.Names.{Code}
use Rattle.swc_ecma_parser_grammar.specs.Notes.{as_note}
use Rattle.swc_ecma_parser_grammar.specs.Walk.{walk, env_of, tabled, drops}
use Rattle.swc_ecma_parser_grammar.specs.language.Programs as programs
use Rattle.swc_ecma_parser_grammar.specs.language.Programs.{Entry, Spells, entry_code, is_module_program}
use Rattle.swc_ecma_parser_module_reader.specs.Entry.{IsEntered}
use Rattle.swc_ecma_parser_module_reader.specs.Modules.{module_code}
use Rattle.swc_ecma_parser_module_reader.specs.ProgramEntry.{ReadsProgram, program_walk}
use Rattle.swc_ecma_parser_reader.specs.Calls.{lacks_ahead}
use Rattle.swc_ecma_parser_reader.specs.Entry.{IsBehind, Stays, error_tokens, last_span, unmarked}
use Rattle.swc_ecma_parser_reader.specs.Limits.{IsToldBy}
use Rattle.swc_ecma_parser_reader.specs.Notes.{held_of}
use Rattle.swc_ecma_parser_reader.specs.State as reader
use Rattle.swc_ecma_parser_reader.specs.State.{State}
use Rattle.swc_ecma_parser_reader.proofs.Errors.{nothing_at_end}
use Rattle.swc_ecma_parser_exactness.specs.Decides.{Lasts, IsAnswer, Decides}
use Rattle.swc_ecma_parser_exactness.specs.ModuleDecides.{IsReleased, DecidesModule, DecidesProgram}
use Rattle.swc_ecma_parser_exactness.specs.Supports.{Ordered}
use Rattle.swc_ecma_parser_exactness.specs.Walked.{Walked}
use Rattle.swc_ecma_parser_state.specs.Opened.{opened}
use Rattle.swc_ecma_parser_entries.specs.Refusals.{IsRefused, Refuses}
use Rattle.swc_ecma_parser.specs.Headline.{IsNew, IsClean, AtEnd, Headline, code_of, start_of, end_of}
use Rattle.swc_ecma_parser.specs.Reading.{IsReading}

-- ---- a new parser

neither : (a b : Bool) → (a || b) ≡ false → (a ≡ false) × (b ≡ false)
neither true b h = absurd (true≢false h)
neither false b h = (refl, h)

-- where memory did not run out as it began, its state is that over the source
module _ (X : Type 0) (s : State) (source : TokenSource)
    (left : lacks_memory (first s.at.left) ≡ false → lacks_memory (second s.at.left) ≡ false → s ≡ opened source) where
  nothing_lasts : {A : Type 0} (r : Result X Error) → IsErrAnd r (λ e. kind_of e.kind ≡ OutOfMemory) → Lasts r → A
  nothing_lasts (Ok x) h l = absurd h
  nothing_lasts (Err e) h l = absurd (l h)

  pub begun_whole : (r : Result X Error) → (lacks_ahead s.at ≡ true → IsErrAnd r (λ e. kind_of e.kind ≡ OutOfMemory)) → Lasts r → s ≡ opened source
  begun_whole r ahead l = by_memory (lacks_ahead s.at) refl
    where
      by_memory : (b : Bool) → lacks_ahead s.at ≡ b → s ≡ opened source
      by_memory true e = nothing_lasts r (ahead e) l
      by_memory false e = let p = neither (lacks_memory (first s.at.left)) (lacks_memory (second s.at.left)) e in left p.0 p.1

module _ (source : TokenSource) (new : IsNew source) where
  nothing_recorded : (b : Bool) (c : Context) → (cond b (record (released source) { context = c }) (record source { context = c })).recorded ≡ []
  nothing_recorded true c = rw (new.recorded, new.held_back) refl
  nothing_recorded false c = new.recorded

  nothing_held : (b : Bool) (c : Context) → (cond b (record (released source) { context = c }) (record source { context = c })).held_back ≡ []
  nothing_held true c = refl
  nothing_held false c = new.held_back

  pub none_recorded : (opened source).faults ≡ []
  none_recorded = ap faults_of (nothing_recorded source.context.«module» source.context)

  pub none_held : (opened source).notes.held_back ≡ []
  none_held = ap held_of (nothing_held source.context.«module» source.context)

-- ---- where it stands

-- a list as long as one of no tokens
nothing_left : (xs ys : List TokenAndSpan) → length xs ≡ length ys → ys ≡ [] → xs ≡ []
nothing_left [] ys h e = refl
nothing_left (x ∷ xs) ys h e = let k : length (x ∷ xs) ≡ 0 = h ∙ ap length e in cc

-- behind all tokens, where none is left
behind_all : (source : TokenSource) (s t : State) → s.at ≡ start_of source → IsBehind s t → kind_at t.at ≡ kind.End → t.at ≡ end_of source
behind_all source s t at b whole =
    let none : t.at.left ≡ [] = nothing_at_end t.at whole in
    let all : b.read ≡ source.left = sym (append-nil b.read) ∙ ap (λ z. b.read ++ z) (sym none) ∙ sym b.tokens ∙ ap (λ c. c.left) at in
    let last : t.at.last ≡ last_span (at_start source) source.left = b.last ∙ ap (λ z. last_span s.at.last z) all ∙ ap (λ c. last_span c.last source.left) at in
    λ i. record { last = last i; left = none i }

-- what is said of an answer
pub of_answer : {X : Type 0} {P Q : X → Type 0} (r : Result X Error) → IfOk r P → ((x : X) → P x → Q x) → IfOk r Q
of_answer (Ok x) h f = f x h
of_answer (Err e) h f = tt

pub answer_at : {X : Type 0} (r : Result X Error) (t : State) (d : Place) → t.at ≡ d → IfOk r (λ y. t.at ≡ d)
answer_at (Ok x) t d h = h
answer_at (Err e) t d h = tt

-- ---- what it answers

none_noted : (fs : List Fault) → map as_note fs ≡ [] → fs ≡ []
none_noted [] h = refl
none_noted (f ∷ fs) h = cc

none_if : (b : Bool) (hs : List Fault) → hs ≡ [] → cond b hs [] ≡ []
none_if true hs h = h
none_if false hs h = refl

module _ {X : Type 0} (view : X → Tree) (s t : State) (fs : List Fault) (taken : fs ≡ t.faults) (none : s.faults ≡ []) (Spelled : Tree → Place → Type 0) (d : Place) where
  pub answered : (r : Result X Error) → IfOk r (λ y. t.at ≡ d) → Decides r (IsAnswer view s r t) Spelled → Lasts r → (x : Tree) (e : Place) → (IsClean view r fs x × (d ≡ e)) ↔ Spelled x e
  answered (Ok y) at h l x e = (
    λ p. (h l x e).0 (p.0.0, at ∙ p.1, sym taken ∙ p.0.1 ∙ sym none),
    λ q. let a = (h l x e).1 q in ((a.0, taken ∙ a.2 ∙ none), sym at ∙ a.1),
  )
  answered (Err f) at h l x e = (λ p. absurd p.0, λ q. absurd ((h l x e).1 q))

  module _ (makes_module : Tree → Bool) (held : s.notes.held_back ≡ []) where
    pub released_clean : (r : Result X Error) → IfOk r (λ y. t.at ≡ d) → Decides r (IsReleased view makes_module s r t) Spelled → Lasts r → (x : Tree) (e : Place)
        → (IsClean view r fs x × (d ≡ e)) ↔ Spelled x e
    released_clean (Ok y) at h l x e = (
      λ p. (h l x e).0 (p.0.0, at ∙ p.1, ([], sym (none_if (makes_module x) s.notes.held_back held), sym taken ∙ p.0.1 ∙ sym none ∙ sym (append-nil s.faults))),
      λ q. let a = (h l x e).1 q in
          let k = none_noted a.2.0 (a.2.1 ∙ none_if (makes_module x) s.notes.held_back held) in ((a.0, taken ∙ a.2.2 ∙ ap (λ z. s.faults ++ z) k ∙ append-nil s.faults ∙ none), sym at ∙ a.1),
    )
    released_clean (Err f) at h l x e = (λ p. absurd p.0, λ q. absurd ((h l x e).1 q))

-- ---- the whole, of a state over a source and a limit `n` that is the one handed in

module _ {X : Type 0} (view : X → Tree) (source : TokenSource) (limit n : ℕ) (is : n ≡ limit) (s t : State) (fs : List Fault) (taken : fs ≡ t.faults) (d : Place) where
  -- where nothing was recorded before, the faults are those that the call added
  walked : IsNew source → (change : Code → Code) (r : Result X Error) → (Lasts r → unmarked s ≡ opened source) → IfOk r (λ y. t.at ≡ d)
      → Walked view (λ x. walk (env_of (change s.code) s.scope.labels) x) s r t
      → IfOk r (λ y. error_tokens source.left ≡ error_tokens d.left → drops fs ≡ false → tabled fs ≡ walk (env_of (change (code_of source)) []) (view y))
  walked new change (Ok y) begun at h = λ counts kept.
      let w = begun tt in
      h fs (sym taken ∙ ap (λ z. z ++ fs) (sym (ap (λ z. z.faults) w ∙ none_recorded source new))) (ap (λ z. z.notes.held_back) w ∙ none_held source new)
      (ap (λ z. error_tokens z.at.left) w ∙ counts ∙ ap (λ c. error_tokens c.left) (sym at)) kept
      ∙ ap (λ z. walk (env_of (change z.code) z.scope.labels) (view y)) w
  walked new change (Err e) begun at h = tt

  fitting : (r : Result X Error) → (Lasts r → unmarked s ≡ opened source)
      → (2 * length s.at.left + 2 ≤ n → IfErr r (λ e. kind_of e.kind ≡ kinds.TooDeep → IsToldBy s.at.left (fault_of e)))
      → 2 * length source.left + 2 ≤ limit → IfErr r (λ e. kind_of e.kind ≡ kinds.TooDeep → IsToldBy source.left (fault_of e))
  fitting (Ok y) begun h enough = tt
  fitting (Err e) begun h enough = λ k.
      let w : s.at.left ≡ source.left = ap (λ z. z.at.left) (begun (λ m. let no : kinds.TooDeep ≡ OutOfMemory = sym k ∙ m in cc)) in
      subst (λ ts. IsToldBy ts (fault_of e)) w (h (subst (λ m. 2 * length s.at.left + 2 ≤ m) (sym is) (subst (λ ts. 2 * length ts + 2 ≤ limit) (sym w) enough)) k)

  refusing : (entry : Entry) (r : Result X Error) → (Lasts r → unmarked s ≡ opened source) → Refuses s.code.flags.«module» entry n (unmarked s) r t
      → Refuses source.context.«module» entry limit (opened source) r t
  refusing entry (Ok y) begun h = tt
  refusing entry (Err e) begun h = λ m.
      subst (λ k. IsRefused source.context.«module» entry k (opened source) e t) is (subst (λ (z : State). IsRefused z.code.flags.«module» entry n z e t) (begun m) (h m))

  -- a whole is read up to the end
  pub at_the_end : (r : Result X Error) → (Lasts r → unmarked s ≡ opened source) → Stays s r t → IfOk r (λ y. kind_at t.at ≡ kind.End) → IfOk r (λ y. t.at ≡ end_of source)
  at_the_end (Ok y) begun b whole = behind_all source s t (ap (λ z. z.at) (begun tt)) b whole
  at_the_end (Err e) begun b whole = tt

module _ {X : Type 0} (view : X → Tree) (source : TokenSource) (limit n : ℕ) (is : n ≡ limit) (s t : State) (fs : List Fault) (taken : fs ≡ t.faults)
    (left : lacks_memory (first s.at.left) ≡ false → lacks_memory (second s.at.left) ≡ false → s ≡ opened source) (len : length s.at.left ≡ length source.left)
    (r : Result X Error) (ahead : lacks_ahead s.at ≡ true → IsErrAnd r (λ e. kind_of e.kind ≡ OutOfMemory)) where
  pub begun : Lasts r → unmarked s ≡ opened source
  begun l = ap unmarked (begun_whole X s source left r ahead l)

  -- where an entry that takes the whole list stands behind it
  pub whole_stands : Stays s r t → IfOk r (λ y. kind_at t.at ≡ kind.End) → IfOk r (λ y. t.at ≡ end_of source)
  whole_stands = at_the_end view source limit n is s t fs taken (end_of source) r begun

  -- no tokens
  pub outright : (s.at.left ≡ [] → IsOk r) → source.left ≡ [] → IsOk r
  outright h e = h (nothing_left s.at.left source.left len e)

  pub at_end : s.at.last ≡ at_start source → (s.at.left ≡ [] → IsErrAnd r (λ e. fault_of e ≡ reader.fault_at (reader.end_of s.at.last) kinds.Eof))
      → source.left ≡ [] → IsErrAnd r (λ e. fault_of e ≡ record { span = at_start source; kind = kinds.Eof })
  at_end last h e = subst (λ p. IsErrAnd r (λ z. fault_of z ≡ reader.fault_at (reader.end_of p) kinds.Eof)) last (h (nothing_left s.at.left source.left len e))

  module _ (d : Place) (stands : IfOk r (λ y. t.at ≡ d)) where
    moved : (A : Tree → Place → Type 0) (entry : Entry) (u : State) (k : Code) → u.code ≡ k → u.scope.labels ≡ [] → u.at ≡ start_of source
        → Decides r A (λ x e. Spells n entry u.code u.scope.labels x u.at e) → Decides r A (λ x e. Spells limit entry k [] x (start_of source) e)
    moved A entry u k code labels at h =
        subst (λ m. Decides r A (λ x e. Spells m entry k [] x (start_of source) e)) is
        (subst (λ c. Decides r A (λ x e. Spells n entry k [] x c e)) at
        (subst (λ ls. Decides r A (λ x e. Spells n entry k ls x u.at e)) labels
        (subst (λ j. Decides r A (λ x e. Spells n entry j u.scope.labels x u.at e)) code h)))

    -- a tree is answered with nothing recorded exactly where the tokens spell it
    abbrev Exactly : Entry → Type 0
    Exactly entry = IsNew source → Lasts r → (x : Tree) (e : Place) → (IsClean view r fs x × (d ≡ e)) ↔ Spells limit entry (code_of source) [] x (start_of source) e

    pub plain_exactly : (entry : Entry) → Decides r (IsAnswer view (unmarked s) r t) (λ x e. Spells n entry s.code s.scope.labels x s.at e) → Exactly entry
    plain_exactly entry h new l =
        let w = begun l in
        answered view (unmarked s) t fs taken (ap (λ z. z.faults) w ∙ none_recorded source new) (λ x e. Spells limit entry (code_of source) [] x (start_of source) e) d r stands
        (moved (IsAnswer view (unmarked s) r t) entry (unmarked s) (code_of source) (ap (λ z. z.code) w) (ap (λ z. z.scope.labels) w) (ap (λ z. z.at) w) h) l

    module _ (ordered : Ordered source.start.0 (start_of source)) where
      in_line : Lasts r → Ordered source.start.0 s.at
      in_line l = subst (λ c. Ordered source.start.0 c) (sym (ap (λ z. z.at) (begun l))) ordered

      pub module_exactly : ((from : ℕ) → Ordered from s.at → (u : State) × IsEntered (unmarked s) u × DecidesModule view n u r t) → Exactly programs.«module»
      module_exactly h new l =
          let w = begun l in
          let (u, i, k) = h source.start.0 (in_line l) in
          let none : u.faults ≡ [] = i.faults ∙ ap (λ z. z ++ i.recorded) (ap (λ z. z.faults) w ∙ none_recorded source new)
          ∙ none_noted i.recorded (i.recorded_as ∙ ap (λ z. z.notes.held_back) w ∙ none_held source new) in
          answered view u t fs taken none (λ x e. Spells limit programs.«module» (code_of source) [] x (start_of source) e) d r stands
          (moved (IsAnswer view u r t) programs.«module» u (module_code (code_of source)) (i.code ∙ ap (λ z. module_code z.code) w)
          (ap (λ z. z.labels) i.scope ∙ ap (λ z. z.scope.labels) w) (i.at ∙ ap (λ z. z.at) w) k) l

      pub item_exactly : (entry : Entry) (makes_module : Tree → Bool)
          → ((from : ℕ) → Ordered from s.at → Decides r (IsReleased view makes_module (unmarked s) r t) (λ x e. Spells n entry s.code s.scope.labels x s.at e)) → Exactly entry
      item_exactly entry makes_module h new l =
          let w = begun l in
          released_clean view (unmarked s) t fs taken (ap (λ z. z.faults) w ∙ none_recorded source new) (λ x e. Spells limit entry (code_of source) [] x (start_of source) e) d
          makes_module (ap (λ z. z.notes.held_back) w ∙ none_held source new) r stands
          (moved (IsReleased view makes_module (unmarked s) r t) entry (unmarked s) (code_of source) (ap (λ z. z.code) w) (ap (λ z. z.scope.labels) w) (ap (λ z. z.at) w)
          (h source.start.0 (in_line l))) l

      pub program_exactly : ((from : ℕ) → Ordered from s.at → DecidesProgram view n (unmarked s) r t) → Exactly programs.program
      program_exactly h new l =
          let w = begun l in
          let A = IsReleased view is_module_program (unmarked s) r t in
          released_clean view (unmarked s) t fs taken (ap (λ z. z.faults) w ∙ none_recorded source new) (λ x e. Spells limit programs.program (code_of source) [] x (start_of source) e) d
          is_module_program (ap (λ z. z.notes.held_back) w ∙ none_held source new) r stands
          (subst (λ m. Decides r A (λ x e. Spells m programs.program (code_of source) [] x (start_of source) e)) is
          (subst (λ (z : State). Decides r A (λ x e. ReadsProgram n z.notes.found_module_item z.code x z.at e × (program_walk z x ≡ []))) w (h source.start.0 (in_line l)))) l

    pub headline : (entry : Entry) → Exactly entry → Walked view (λ x. walk (env_of (entry_code entry s.code) s.scope.labels) x) s r t
        → IsReading view entry n (unmarked s) r t → Refuses s.code.flags.«module» entry n (unmarked s) r t
        → (2 * length s.at.left + 2 ≤ n → IfErr r (λ e. kind_of e.kind ≡ kinds.TooDeep → IsToldBy s.at.left (fault_of e)))
        → (source.left ≡ [] → AtEnd entry source r) → Headline view entry limit source r fs d
    headline entry exactly walks reading refusal fits none = record {
      decides = exactly;
      walk = λ new. walked view source limit n is s t fs taken d new (entry_code entry) r begun stands walks;
      reads = λ l. (t, subst (λ m. IsReading view entry m (opened source) r t) is (subst (λ z. IsReading view entry n z r t) (begun l) reading), taken, stands);
      refuses = (t, taken, refusing view source limit n is s t fs taken d entry r begun refusal);
      fits = fitting view source limit n is s t fs taken d r begun fits;
      at_end = none;
    }
