-- What was read, from what the parser decides.
use Rattle.std.proofs.Common.{◌≡◌, ◌≢◌, ◌∙◌, ◌↔◌, ◌⊎◌, inl, inr, ℕ, Bool, true, false, ◌||◌, ◌&&◌, if◌then◌else◌, List, [], ◌∷◌, Result, Ok, Err, ap, arith, length, nat_lt, refl, subst, suc, sym, true≢false}
use Rattle.std.specs.Prelude.{IfOk}
use Rattle.std.proofs.lemmas.Bool.Decides.{nat_tests}
use Rattle.swc_ecma_parser_error.specs.declared.error.Error.{Error}
use Rattle.swc_ecma_parser_error.specs.Kind.{Fault, Kind, OutOfMemory, faults_of}
use Rattle.swc_ecma_parser_exactness.specs.Decides.{Lasts}
use Rattle.swc_ecma_parser_grammar.specs.language.Programs as programs
use Rattle.swc_ecma_parser_grammar.specs.language.Programs.{Entry}
use Rattle.swc_ecma_parser_input.specs.declared.syntax.Syntax.{Syntax}
use Rattle.swc_ecma_parser_input.specs.Place.{Place}
use Rattle.swc_ecma_parser_input.specs.TokenSource.{TokenSource}
use Rattle.swc_ecma_parser_model.specs.Held.{Held}
use Rattle.swc_ecma_parser_model.specs.Tree as model
use Rattle.swc_ecma_parser_ast.specs.declared.script.Script.{Script}
use Rattle.swc_ecma_parser_ast.specs.declared.program.Module.{Module}
use Rattle.swc_ecma_parser_ast.specs.declared.program.Program.{Program}
use Rattle.swc_ecma_parser_ast.specs.View.{view_module, view_program, view_script}
use Rattle.swc_ecma_parser.specs.Headline.{Headline, IsClean, IsNew, end_of}
use Rattle.swc_ecma_parser.proofs.Same.{some_place}
use Rattle.swc_ecma_parser_whole_lexer.specs.declared.form.Goal.{Goal as CodeGoal}
use Rattle.swc_ecma_parser_whole_lexer.specs.declared.form.Goal.TheVariants as code
use Rattle.ecma_answers.specs.declared.options.Goal.{Goal}
use Rattle.ecma_answers.specs.declared.options.Goal.TheVariants as goal
use Rattle.ecma_answers.specs.declared.options.Language.{Language}
use Rattle.ecma_answers.specs.declared.options.Language.TheVariants as language
use Rattle.ecma_answers.specs.declared.options.Options.{Options}
use Rattle.ecma_answers.specs.declared.parsing.Reading.{Reading}
use Rattle.ecma_answers.specs.declared.parsing.Tree.{Tree}
use Rattle.ecma_answers.specs.declared.parsing.Tree.TheVariants as tree
use Rattle.ecma_answers.specs.Chosen.{Told, chosen, has_module_fault, is_clean, prefers_module, told_by, told_of}
use Rattle.ecma_answers.specs.Languages.{source_of}
use Rattle.ecma_answers.specs.Outcomes.{is_out_of_memory}
use Rattle.ecma_answers.specs.Spelled.{Decides, IsChosen, IsEither, IsProgram, IsRead, IsReadAs, IsReadIn, IsTurned, IsWholeProgram, Spells, SpellsAs, SpellsIn, SpellsProgram, has_module, is_clean_module, is_module, module_source, script_source, view_tree, without_await, wrapped}

pub other_kind : (k : Kind) → is_out_of_memory k ≡ false → k ≢ OutOfMemory
other_kind k h e = true≢false (sym (ap is_out_of_memory e) ∙ h)

-- a lexer of either language begins with no faults
pub is_new : (l : Language) (g : CodeGoal) (syntax : Syntax) (text : List ℕ) → IsNew (source_of l g syntax text)
is_new language.Plain g syntax text = record { recorded = refl; held_back = refl }
is_new language.Whole g syntax text = record { recorded = refl; held_back = refl }

pub is_new_script : (l : Language) (g : CodeGoal) (syntax : Syntax) (text : List ℕ) → IsNew (without_await (source_of l g syntax text))
is_new_script language.Plain g syntax text = record { recorded = refl; held_back = refl }
is_new_script language.Whole g syntax text = record { recorded = refl; held_back = refl }

-- and in the code of no module
pub is_no_module : (l : Language) (g : CodeGoal) (syntax : Syntax) (text : List ℕ) → (source_of l g syntax text).context.«module» ≡ false
is_no_module language.Plain g syntax text = refl
is_no_module language.Whole g syntax text = refl

pub is_no_module_script : (l : Language) (g : CodeGoal) (syntax : Syntax) (text : List ℕ) → (without_await (source_of l g syntax text)).context.«module» ≡ false
is_no_module_script language.Plain g syntax text = refl
is_no_module_script language.Whole g syntax text = refl

module _ (limit : ℕ) (s : TokenSource) (fs : List Fault) (d : Place) where
  -- the same of a tree of one of the goals
  pub of_script : (r : Result (Script Held) Error) → Headline view_script programs.script limit s r fs d → Headline view_tree programs.script limit s (wrapped tree.Script r) fs d
  of_script (Ok y) h = record { decides = h.decides; walk = h.walk; reads = h.reads; refuses = h.refuses; fits = h.fits; at_end = h.at_end }
  of_script (Err e) h = record { decides = h.decides; walk = h.walk; reads = h.reads; refuses = h.refuses; fits = h.fits; at_end = h.at_end }

  pub of_module : (r : Result (Module Held) Error) → Headline view_module programs.«module» limit s r fs d → Headline view_tree programs.«module» limit s (wrapped tree.Module r) fs d
  of_module (Ok y) h = record { decides = h.decides; walk = h.walk; reads = h.reads; refuses = h.refuses; fits = h.fits; at_end = h.at_end }
  of_module (Err e) h = record { decides = h.decides; walk = h.walk; reads = h.reads; refuses = h.refuses; fits = h.fits; at_end = h.at_end }

  pub of_program : (r : Result (Program Held) Error) → Headline view_program programs.program limit s r fs d → Headline view_tree programs.program limit s (wrapped tree.Program r) fs d
  of_program (Ok y) h = record { decides = h.decides; walk = h.walk; reads = h.reads; refuses = h.refuses; fits = h.fits; at_end = h.at_end }
  of_program (Err e) h = record { decides = h.decides; walk = h.walk; reads = h.reads; refuses = h.refuses; fits = h.fits; at_end = h.at_end }

-- what holds of an answer, from what holds of it otherwise
pub where_ok : {X E : Type 0} {P Q : X → Type 0} (r : Result X E) → IfOk r P → ((x : X) → P x → Q x) → IfOk r Q
where_ok (Ok x) h f = f x h
where_ok (Err e) h f = tt

-- what was kept is what was read
pub read_as : (entry : Entry) (limit : ℕ) (s : TokenSource) (answer : Result Tree Error) (es : List Error) (reading it : Reading)
    → reading.tree ≡ answer → reading.faults.items ≡ es → Headline view_tree entry limit s answer (faults_of es) (end_of s) → (it ≡ reading) × Lasts it.tree
    → IsReadAs entry limit s it
read_as entry limit s answer es reading it e f h (same, lasts) = record {
  headline = subst (λ (z : Reading). Headline view_tree entry limit s z.tree (faults_of z.faults.items) (end_of s)) (sym same)
      (subst (λ (x : Result Tree Error). Headline view_tree entry limit s x (faults_of reading.faults.items) (end_of s)) (sym e)
      (subst (λ (xs : List Error). Headline view_tree entry limit s answer (faults_of xs) (end_of s)) (sym f) h));
  lasts = lasts;
}

-- a tree is read without a fault exactly where the tokens spell it
spelled_as : (entry : Entry) (limit : ℕ) (s : TokenSource) (r : Reading) → IsNew s → IsReadAs entry limit s r → (x : model.Tree) → IsRead r x ↔ SpellsAs entry limit s x
spelled_as entry limit s r new h x = some_place view_tree entry limit s r.tree (faults_of r.faults.items) (end_of s) h.headline new h.lasts x

-- ---- clean readings

clean_tree : (x : Result Tree Error) (es : List Error) → is_clean (told_by x es) ≡ true → (y : model.Tree) × IsClean view_tree x (faults_of es) y
clean_tree (Ok y) [] h = (view_tree y, (refl, refl))
clean_tree (Ok y) (e ∷ es) h = absurd (true≢false (sym h))
clean_tree (Err e) es h = absurd (true≢false (sym h))

tree_clean : (x : Result Tree Error) (es : List Error) (y : model.Tree) → IsClean view_tree x (faults_of es) y → is_clean (told_by x es) ≡ true
tree_clean (Ok z) [] y h = refl
tree_clean (Ok z) (e ∷ es) y h = let none = h.1 in cc
tree_clean (Err e) es y h = absurd h

-- of no tree, where a reading is not clean
none_read : (r : Reading) → is_clean (told_of r) ≡ false → (x : model.Tree) → ¬ IsRead r x
none_read r h x p = true≢false (sym (tree_clean r.tree r.faults.items x p) ∙ h)

or_true : (b : Bool) → (b || true) ≡ true
or_true true = refl
or_true false = refl

is_less : (n : ℕ) → nat_lt 0 (suc n) ≡ true
is_less n = grind (arith, nat_tests)

or_less : (a b : Bool) → b ≡ true → (a || b) ≡ true
or_less a b h = ap (λ z. a || z) h ∙ or_true a

-- a module that alone is clean is taken
taken : (s m : Told) → is_clean s ≡ false → is_clean m ≡ true → prefers_module s m ≡ true
taken (Ok []) m h k = absurd (true≢false h)
taken (Ok (f ∷ fs)) (Ok []) h k = or_less (has_module_fault (f ∷ fs)) (nat_lt 0 (length (f ∷ fs))) (is_less (length fs))
taken (Ok (f ∷ fs)) (Ok (g ∷ gs)) h k = absurd (true≢false (sym k))
taken (Ok (f ∷ fs)) (Err g) h k = absurd (true≢false (sym k))
taken (Err f) (Ok gs) h k = refl
taken (Err f) (Err g) h k = absurd (true≢false (sym k))

one_of : (P : Reading → Type 0) (b : Bool) (s m : Reading) → P s → P m → P (if b then m else s)
one_of P true s m h k = k
one_of P false s m h k = h

-- ---- a script or a module

module _ (limit : ℕ) (s m : TokenSource) (new : IsNew m) (new_script : IsNew (without_await s)) where
  abbrev AsScript : model.Tree → Type 0
  AsScript x = SpellsAs programs.script limit (without_await s) x

  abbrev AsModule : model.Tree → Type 0
  AsModule x = SpellsAs programs.«module» limit m x

  abbrev Either : model.Tree → Type 0
  Either x = AsScript x ⊎ (((y : model.Tree) → ¬ AsScript y) × AsModule x)

  is_script : (r : Reading) (x y : model.Tree) → ((z : model.Tree) → IsRead r z ↔ AsScript z) → IsRead r y → Either x → IsRead r x
  is_script r x y h k (inl p) = (h x).1 p
  is_script r x y h k (inr q) = absurd (q.0 y ((h y).0 k))

  of_a_module : (x : model.Tree) → ((y : model.Tree) → ¬ AsScript y) → Either x → AsModule x
  of_a_module x none (inl p) = absurd (none x p)
  of_a_module x none (inr q) = q.1

  -- the script is not clean
  again : (script other r : Reading) → ((x : model.Tree) → IsRead script x ↔ AsScript x) → ((x : model.Tree) → IsRead other x ↔ AsModule x) → is_clean (told_of script) ≡ false → (b : Bool) → is_clean (told_of other) ≡ b
      → r ≡ chosen script other → (x : model.Tree) → IsRead r x ↔ Either x
  again script other r h k faulty true clean e x =
      let none : (y : model.Tree) → ¬ AsScript y = λ y p. none_read script faulty y ((h y).1 p) in
      let same : r ≡ other = e ∙ ap (λ (b : Bool). if b then other else script) (taken (told_of script) (told_of other) faulty clean) in
      rw same ((λ p. inr (none, (k x).0 p)), (λ q. (k x).1 (of_a_module x none q)))
  again script other r h k faulty false not_clean e x =
      let none : (y : model.Tree) → ¬ AsScript y = λ y p. none_read script faulty y ((h y).1 p) in
      let unread : (y : model.Tree) → ¬ IsRead (chosen script other) y =
      none_read (chosen script other) (one_of (λ (z : Reading). is_clean (told_of z) ≡ false) (prefers_module (told_of script) (told_of other)) script other faulty not_clean) in
      rw e ((λ p. absurd (unread x p)), (λ q. absurd (none_read other not_clean x ((k x).1 (of_a_module x none q)))))

  chosen_spelled : (script r : Reading) → IsReadAs programs.script limit (without_await s) script → (b : Bool) → is_clean (told_of script) ≡ b → IsChosen b limit m script r
      → (x : model.Tree) → IsRead r x ↔ Either x
  chosen_spelled script r h true clean e x =
      let (y, read) = clean_tree script.tree script.faults.items clean in
      let spelled = spelled_as programs.script limit (without_await s) script new_script h in
      rw e ((λ p. inl ((spelled x).0 p)), is_script script x y spelled read)
  chosen_spelled script r h false faulty (other, k, e) x =
      again script other r (spelled_as programs.script limit (without_await s) script new_script h) (spelled_as programs.«module» limit m other new k) faulty (is_clean (told_of other)) refl e x

  pub either_spelled : (r : Reading) → IsEither limit s m r → (x : model.Tree) → IsRead r x ↔ Either x
  either_spelled r h = chosen_spelled h.script r h.read (is_clean (told_of h.script)) refl h.choice

chosen_lasts : (limit : ℕ) (m : TokenSource) (script r : Reading) → Lasts script.tree → (b : Bool) → IsChosen b limit m script r → Lasts r.tree
chosen_lasts limit m script r h true e = rw e h
chosen_lasts limit m script r h false (other, k, e) =
    rw e (one_of (λ (z : Reading). Lasts z.tree) (prefers_module (told_of script) (told_of other)) script other h k.lasts)

-- ---- a program

-- of a clean reading, whether it is of a module
of_module_tree : (x : Result Tree Error) (es : List Error) (y : model.Tree) → IsClean view_tree x (faults_of es) y → (is_clean (told_by x es) && has_module x) ≡ is_module y
of_module_tree (Ok z) [] y h = ap is_module h.0
of_module_tree (Ok z) (e ∷ es) y h = let none = h.1 in cc
of_module_tree (Err e) es y h = absurd h

-- a clean module is of a tree
module_tree : (x : Result Tree Error) (es : List Error) → (is_clean (told_by x es) && has_module x) ≡ true → (y : model.Tree) × (is_module y ≡ true) × IsClean view_tree x (faults_of es) y
module_tree (Ok z) [] h = (view_tree z, h, (refl, refl))
module_tree (Ok z) (e ∷ es) h = absurd (true≢false (sym h))
module_tree (Err e) es h = absurd (true≢false (sym h))

module _ (limit : ℕ) (s m : TokenSource) (new : IsNew s) (new_module : IsNew m) where
  abbrev First : model.Tree → Type 0
  First x = SpellsAs programs.program limit s x

  abbrev Second : model.Tree → Type 0
  Second x = SpellsAs programs.program limit m x

  -- it was read anew
  back_turned : (first r : Reading) → ((x : model.Tree) → IsRead first x ↔ First x) → ((x : model.Tree) → IsRead r x ↔ Second x) → is_clean_module first ≡ true → (x : model.Tree)
      → SpellsProgram language.Whole limit s m x → IsRead r x
  back_turned first r h k is x (inl p) = absurd (true≢false (sym is ∙ of_module_tree first.tree first.faults.items x ((h x).1 p.1) ∙ p.0))
  back_turned first r h k is x (inr (y, clean, f, g)) = (k x).1 g

  turned : (first r : Reading) (y : model.Tree) → ((x : model.Tree) → IsRead first x ↔ First x) → ((x : model.Tree) → IsRead r x ↔ Second x) → is_clean_module first ≡ true → is_module y ≡ true
      → IsRead first y → (x : model.Tree) → IsRead r x ↔ SpellsProgram language.Whole limit s m x
  turned first r y h k is clean read x = ((λ p. inr (y, clean, (h y).0 read, (k x).0 p)), back_turned first r h k is x)

  -- it was not
  back_kept : (first : Reading) → ((x : model.Tree) → IsRead first x ↔ First x) → is_clean_module first ≡ false → (x : model.Tree) → SpellsProgram language.Whole limit s m x → IsRead first x
  back_kept first h is x (inl p) = (h x).1 p.1
  back_kept first h is x (inr (y, clean, f, g)) = absurd (true≢false (sym clean ∙ sym (of_module_tree first.tree first.faults.items y ((h y).1 f)) ∙ is))

  kept : (first : Reading) → ((x : model.Tree) → IsRead first x ↔ First x) → is_clean_module first ≡ false → (x : model.Tree) → IsRead first x ↔ SpellsProgram language.Whole limit s m x
  kept first h is x = ((λ p. inl (sym (of_module_tree first.tree first.faults.items x p) ∙ is, (h x).0 p)), back_kept first h is x)

  turned_spelled : (first r : Reading) → IsReadAs programs.program limit s first → (b : Bool) → is_clean_module first ≡ b → IsTurned b limit m first r
      → (x : model.Tree) → IsRead r x ↔ SpellsProgram language.Whole limit s m x
  turned_spelled first r h true is k x =
      let (y, clean, read) = module_tree first.tree first.faults.items is in
      turned first r y (spelled_as programs.program limit s first new h) (spelled_as programs.program limit m r new_module k) is clean read x
  turned_spelled first r h false is e x = rw e (kept first (spelled_as programs.program limit s first new h) is x)

  pub program_spelled : (l : Language) (r : Reading) → IsProgram l limit s m r → (x : model.Tree) → IsRead r x ↔ SpellsProgram l limit s m x
  program_spelled language.Plain r h x = spelled_as programs.program limit s r new h x
  program_spelled language.Whole r h x = turned_spelled h.first r h.read (is_clean_module h.first) refl h.turn x

turned_lasts : (limit : ℕ) (m : TokenSource) (first r : Reading) → Lasts first.tree → (b : Bool) → IsTurned b limit m first r → Lasts r.tree
turned_lasts limit m first r h true k = k.lasts
turned_lasts limit m first r h false e = rw e h

program_lasts : (l : Language) (limit : ℕ) (s m : TokenSource) (r : Reading) → IsProgram l limit s m r → Lasts r.tree
program_lasts language.Plain limit s m r h = h.lasts
program_lasts language.Whole limit s m r h = turned_lasts limit m h.first r h.read.lasts (is_clean_module h.first) h.turn

-- ---- what is asked for

abbrev Whole : Goal → Options → List ℕ → Reading → Type 0
Whole g o text r =
    ((x : model.Tree) → IsRead r x ↔ SpellsIn g o.language o.limit (script_source o text) (module_source o text) x)
    × IsReadIn g o.language o.limit (script_source o text) (module_source o text) r

decided_in : (g : Goal) (o : Options) (text : List ℕ) (r : Reading) → o.goal ≡ g → Whole g o text r → Lasts r.tree → Decides o text r
unfolding Spells
decided_in g o text r e h l = let (spelled, reading) = subst (λ (z : Goal). Whole z o text r) (sym e) h in record { spelled = spelled; reading = reading; lasts = l }

abbrev ReadAs : Entry → Options → Reading → TokenSource → Type 0
ReadAs entry o r s = IsReadAs entry o.limit s r

module _ (o : Options) (text : List ℕ) where
  new_code : (g : CodeGoal) → IsNew (source_of o.language g o.syntax text)
  new_code g = is_new o.language g o.syntax text

  pub script_decided : (s : TokenSource) (r : Reading) → s ≡ script_source o text → o.goal ≡ goal.Script → IsReadAs programs.script o.limit s r → Decides o text r
  script_decided s r e g h =
      let k = subst (ReadAs programs.script o r) e h in
      decided_in goal.Script o text r g (spelled_as programs.script o.limit (script_source o text) r (new_code code.Script) k, k) k.lasts

  pub module_decided : (s : TokenSource) (r : Reading) → s ≡ module_source o text → o.goal ≡ goal.Module → IsReadAs programs.«module» o.limit s r → Decides o text r
  module_decided s r e g h =
      let k = subst (ReadAs programs.«module» o r) e h in
      decided_in goal.Module o text r g (spelled_as programs.«module» o.limit (module_source o text) r (new_code code.Module) k, k) k.lasts

  pub program_decided : (r : Reading) → o.goal ≡ goal.Program → IsProgram o.language o.limit (script_source o text) (module_source o text) r → Decides o text r
  program_decided r g h =
      let s = script_source o text in
      let m = module_source o text in
      decided_in goal.Program o text r g (program_spelled o.limit s m (new_code code.Script) (new_code code.Module) o.language r h, h)
      (program_lasts o.language o.limit s m r h)

  pub either_decided : (r : Reading) → o.goal ≡ goal.Auto → IsEither o.limit (script_source o text) (module_source o text) r → Decides o text r
  either_decided r g h =
      let s = script_source o text in
      let m = module_source o text in
      decided_in goal.Auto o text r g (either_spelled o.limit s m (new_code code.Module) (is_new_script o.language code.Script o.syntax text) r h, h)
      (chosen_lasts o.limit m h.script r h.read.lasts (is_clean (told_of h.script)) h.choice)

-- ---- the second reading

module _ (o : Options) (text : List ℕ) (script : Reading) where
  pub again_read : {E : Type 0} (other r : Reading) (s : TokenSource) (answer : Result Reading E) → s ≡ module_source o text → answer ≡ Ok other
      → IfOk answer (IsReadAs programs.«module» o.limit s) → r ≡ chosen script other → IsChosen false o.limit (module_source o text) script r
  again_read {E} other r s answer e f h g =
      let read : IsReadAs programs.«module» o.limit s other = subst (λ (z : Result Reading E). IfOk z (IsReadAs programs.«module» o.limit s)) f h in
      (other, subst (ReadAs programs.«module» o other) e read, g)

  pub either_read : (s : TokenSource) (b : Bool) (r : Reading) → s ≡ without_await (script_source o text) → IsReadAs programs.script o.limit s script
      → b ≡ is_clean (told_of script) → IsChosen b o.limit (module_source o text) script r → IsEither o.limit (script_source o text) (module_source o text) r
  either_read s b r e h f k = record {
    script = script;
    read = subst (ReadAs programs.script o script) e h;
    choice = subst (λ (z : Bool). IsChosen z o.limit (module_source o text) script r) f k;
  }

  pub program_turned : (s : TokenSource) (b : Bool) (r : Reading) → s ≡ script_source o text → IsReadAs programs.program o.limit s script
      → b ≡ is_clean_module script → IsTurned b o.limit (module_source o text) script r → IsWholeProgram o.limit (script_source o text) (module_source o text) r
  program_turned s b r e h f k = record {
    first = script;
    read = subst (ReadAs programs.program o script) e h;
    turn = subst (λ (z : Bool). IsTurned z o.limit (module_source o text) script r) f k;
  }

-- read with the tokens of a module
pub turned_read : (o : Options) (text : List ℕ) (first r : Reading) (m : TokenSource) → m ≡ module_source o text → IsReadAs programs.program o.limit m r → IsTurned true o.limit (module_source o text) first r
turned_read o text first r m e h = subst (ReadAs programs.program o r) e h

-- in one of the languages
pub whole_program : (l : Language) (limit : ℕ) (s m : TokenSource) (r : Reading) → l ≡ language.Whole → IsWholeProgram limit s m r → IsProgram l limit s m r
whole_program l limit s m r e h = subst (λ (z : Language). IsProgram z limit s m r) (sym e) h

pub plain_program : (o : Options) (text : List ℕ) (s : TokenSource) (r : Reading) → o.language ≡ language.Plain → s ≡ script_source o text → IsReadAs programs.program o.limit s r
    → IsProgram o.language o.limit (script_source o text) (module_source o text) r
plain_program o text s r e f h =
    subst (λ (z : Language). IsProgram z o.limit (script_source o text) (module_source o text) r) (sym e) (subst (ReadAs programs.program o r) f h)
