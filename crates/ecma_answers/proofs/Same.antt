-- Two readings of one text come to the same.
use Rattle.std.proofs.Common.{◌≡◌, ◌∙◌, ℕ, Bool, true, false, List, [], ◌∷◌, if◌then◌else◌, Result, Ok, Err, ap, refl, subst, sym}
use Rattle.swc_ecma_parser_error.specs.declared.error.Error.{Error}
use Rattle.swc_ecma_parser_error.specs.Kind.{Fault, Kind, fault_of, faults_of, kind_of}
use Rattle.swc_ecma_parser_grammar.specs.Walk.{drops}
use Rattle.swc_ecma_parser_grammar.specs.language.Programs as programs
use Rattle.swc_ecma_parser_grammar.specs.language.Programs.{Entry}
use Rattle.swc_ecma_parser_input.specs.TokenSource.{TokenSource}
use Rattle.swc_ecma_parser_model.specs.Tree as model
use Rattle.swc_ecma_parser_state.specs.Opened.{opened}
use Rattle.swc_ecma_parser.specs.Headline.{IsNew}
use Rattle.swc_ecma_parser.specs.Same as parser
use Rattle.swc_ecma_parser.proofs.Same.{same_reading}
use Rattle.ecma_events.specs.declared.early_error.EarlyError.{EarlyError}
use Rattle.ecma_early.specs.Early.{early_of}
use Rattle.swc_ecma_parser_whole_lexer.specs.declared.form.Goal.TheVariants as code
use Rattle.ecma_answers.specs.declared.findings.Findings.{Findings}
use Rattle.ecma_answers.specs.declared.options.Goal.{Goal}
use Rattle.ecma_answers.specs.declared.options.Goal.TheVariants as goal
use Rattle.ecma_answers.specs.declared.options.Options.{Options}
use Rattle.ecma_answers.specs.declared.outcome.Outcome.TheVariants as outcome
use Rattle.ecma_answers.specs.declared.parsing.Reading.{Reading}
use Rattle.ecma_answers.specs.declared.parsing.Tree.{Tree}
use Rattle.ecma_answers.specs.Found.{Finds, early_in, kept}
use Rattle.ecma_answers.specs.Outcomes.{is_too_deep, outcome_of}
use Rattle.ecma_answers.specs.Chosen.{Told, is_clean, prefers_module, told_by, told_of}
use Rattle.ecma_answers.specs.Same.{AreSame, IsSettled, IsSettledIn}
use Rattle.ecma_answers.specs.Spelled.{Decides, IsChosen, IsEither, IsReadAs, IsReadIn, module_source, script_source, view_tree, without_await}
use Rattle.ecma_answers.proofs.Deciding.{is_new, is_new_script, is_no_module, is_no_module_script}

-- as one of the parser's entries
once : (entry : Entry) (limit : ℕ) (s : TokenSource) (r q : Reading) → IsNew s → s.context.«module» ≡ false → parser.IsSettled entry limit (opened s) → IsReadAs entry limit s r → IsReadAs entry limit s q → AreSame r q
once entry limit s r q new plain settled d e =
    same_reading view_tree limit s new plain r.tree q.tree (faults_of r.faults.items) (faults_of q.faults.items) _ _ entry settled d.headline e.headline d.lasts e.lasts

-- what is told of the same
same_told : (x y : Result Tree Error) (es fs : List Error) → parser.IsSame view_tree x (faults_of es) y (faults_of fs) → told_by x es ≡ told_by y fs
same_told (Ok x) (Ok y) es fs h = ap Ok h.1
same_told (Err e) (Err f) es fs h = ap Err h.0
same_told (Ok x) (Err f) es fs h = absurd h
same_told (Err e) (Ok y) es fs h = absurd h

same_told_of : (r q : Reading) → AreSame r q → told_of r ≡ told_of q
same_told_of r q = same_told r.tree q.tree r.faults.items q.faults.items

one_of_both : (b : Bool) (s m t n : Reading) → AreSame s t → AreSame m n → AreSame (if b then m else s) (if b then n else t)
one_of_both true s m t n h k = k
one_of_both false s m t n h k = h

module _ (limit : ℕ) (s m : TokenSource) (new : IsNew m) (new_script : IsNew (without_await s)) (plain : m.context.«module» ≡ false) (plain_script : (without_await s).context.«module» ≡ false) where
  chosen_same : (script other r q : Reading) → AreSame script other → (b : Bool) → IsChosen b limit m script r → IsChosen b limit m other q → AreSame r q
  chosen_same script other r q same true e f = rw (e, f) same
  chosen_same script other r q same false (n, h, e) (k, l, f) =
      let both : AreSame n k = once programs.«module» limit m n k new plain tt h l in
      let prefers = ap (λ (z : Told). prefers_module z (told_of n)) (same_told_of script other same) ∙ ap (prefers_module (told_of other)) (same_told_of n k both) in
      let taken : q ≡ (if prefers_module (told_of script) (told_of n) then k else other) = f ∙ ap (λ (b : Bool). if b then k else other) (sym prefers) in
      rw (e, taken) (one_of_both (prefers_module (told_of script) (told_of n)) script n other k same both)

  pub either_same : (r q : Reading) → IsEither limit s m r → IsEither limit s m q → AreSame r q
  either_same r q h k =
      let same : AreSame h.script k.script = once programs.script limit (without_await s) h.script k.script new_script plain_script tt h.read k.read in
      let clean = ap is_clean (same_told_of h.script k.script same) in
      chosen_same h.script k.script r q same (is_clean (told_of h.script)) h.choice (subst (λ (b : Bool). IsChosen b limit m k.script q) (sym clean) k.choice)

same_in : (g : Goal) (o : Options) (text : List ℕ) (r q : Reading) → IsSettledIn g → IsReadIn g o.language o.limit (script_source o text) (module_source o text) r
    → IsReadIn g o.language o.limit (script_source o text) (module_source o text) q → AreSame r q
same_in goal.Script o text r q settled d e =
    once programs.script o.limit (script_source o text) r q (is_new o.language code.Script o.syntax text) (is_no_module o.language code.Script o.syntax text) tt d e
same_in goal.Module o text r q settled d e =
    once programs.«module» o.limit (module_source o text) r q (is_new o.language code.Module o.syntax text) (is_no_module o.language code.Module o.syntax text) tt d e
same_in goal.Auto o text r q settled d e =
    either_same o.limit (script_source o text) (module_source o text) (is_new o.language code.Module o.syntax text) (is_new_script o.language code.Script o.syntax text)
    (is_no_module o.language code.Module o.syntax text) (is_no_module_script o.language code.Script o.syntax text) r q d e
same_in goal.Program o text r q settled d e = absurd settled

pub one_reading : (o : Options) (text : List ℕ) (r q : Reading) → IsSettled o → Decides o text r → Decides o text q → AreSame r q
one_reading o text r q settled d e = same_in o.goal o text r q settled d.reading e.reading

-- where the same is read, the same early errors are found
same_early : (o : Options) (x y : Result Tree Error) (es fs : List Error) → parser.IsSame view_tree x (faults_of es) y (faults_of fs) → early_in o x es ≡ early_in o y fs
same_early o (Ok x) (Ok y) es fs h =
    ap (λ (t : model.Tree). if o.early then kept (drops (faults_of es)) (early_of t) else []) h.0
    ∙ ap (λ (gs : List Fault). if o.early then kept (drops gs) (early_of (view_tree y)) else []) h.1
same_early o (Err e) (Err f) es fs h = refl
same_early o (Ok x) (Err f) es fs h = absurd h
same_early o (Err e) (Ok y) es fs h = absurd h

pub one_finding : (o : Options) (text : List ℕ) (f g : Findings) → IsSettled o → Finds o text f → Finds o text g → f.early.items ≡ g.early.items
one_finding o text f g settled d e =
    d.early ∙ same_early o f.reading.tree g.reading.tree f.reading.faults.items g.reading.faults.items (one_reading o text f.reading g.reading settled d.decides e.decides)
    ∙ sym e.early

-- beside a tree: something is told or not
beside : (x y : Tree) (es fs : List Error) (ks : List EarlyError) → faults_of es ≡ faults_of fs → outcome_of (Ok x) es ks ≡ outcome_of (Ok y) fs ks
beside x y [] [] [] h = refl
beside x y [] [] (k ∷ ks) h = refl
beside x y [] (f ∷ fs) ks h = cc
beside x y (e ∷ es) [] ks h = cc
beside x y (e ∷ es) (f ∷ fs) ks h = refl

-- a refusal comes out by its kind
refusing : (e f : Error) → fault_of e ≡ fault_of f → kind_of e.kind ≡ kind_of f.kind
refusing e f h = ap (λ (it : Fault). it.kind) h

same_outcome : (x y : Result Tree Error) (es fs : List Error) (ks : List EarlyError) → parser.IsSame view_tree x (faults_of es) y (faults_of fs) → outcome_of x es ks ≡ outcome_of y fs ks
same_outcome (Ok x) (Ok y) es fs ks h = beside x y es fs ks h.1
same_outcome (Err e) (Err f) es fs ks h = ap (λ (k : Kind). if is_too_deep k then outcome.TooDeep else outcome.Refused) (refusing e f h.0)
same_outcome (Ok x) (Err f) es fs ks h = absurd h
same_outcome (Err e) (Ok y) es fs ks h = absurd h

pub one_outcome : (o : Options) (text : List ℕ) (f g : Findings) → IsSettled o → Finds o text f → Finds o text g
    → outcome_of f.reading.tree f.reading.faults.items f.early.items ≡ outcome_of g.reading.tree g.reading.faults.items g.early.items
one_outcome o text f g settled d e =
    same_outcome f.reading.tree g.reading.tree f.reading.faults.items g.reading.faults.items f.early.items (one_reading o text f.reading g.reading settled d.decides e.decides)
    ∙ ap (outcome_of g.reading.tree g.reading.faults.items) (one_finding o text f g settled d e)
