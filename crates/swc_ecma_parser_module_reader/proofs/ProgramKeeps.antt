-- Whatever a program is read as, or refused, the tokens that are left are the last of those that were, what was read last is the
-- token before them, no recorded fault is lost, and no token that memory ran out for is passed.
use Rattle.std.proofs.Common.{ℕ, true, false, List, [], ◌++◌, Option, Result, Ok, Err, ◌∙◌, ap, append_assoc, ◌≡◌, suc, ◌∷◌}
use Rattle.std.specs.Prelude.{not, ◌&&◌}
use Rattle.swc_ecma_parser_error.specs.declared.error.Error.{Error}
use Rattle.swc_ecma_parser_error.specs.Kind.{Fault, fault_of}
use Rattle.swc_ecma_parser_input.specs.Place.{Place}
use Rattle.swc_ecma_parser_model.specs.Tree.{Tree, Text}
use Rattle.swc_ecma_parser_grammar.specs.language.Items.{top_item}
use Rattle.swc_ecma_parser_reader.specs.Reader.{at_end, whole_stmt, shebang, directs, items_turn}
use Rattle.swc_ecma_parser_reader.specs.State.{State, Outcome, Reader, says_out_of_memory, coded}
use Rattle.swc_ecma_parser_reader.specs.Entry.{unmarked, IsBehind, Stays}
use Rattle.swc_ecma_parser_reader.proofs.Behind.{Passes, Remembers, Follows, behind_self, behind_then, shebang_keeps, NothingLost, Kept, Lost, loop_keeps}
use Rattle.swc_ecma_parser_reader.proofs.KeepsBlocks.{directed_keeps, items_keeps}
use Rattle.swc_ecma_parser_reader.proofs.Keeps.{whole_stmt_keeps, outcome_behind}
use Rattle.swc_ecma_parser_reader.proofs.Meets.{Answers, answers_then, answers_if, meant}
use Rattle.swc_ecma_parser_module_reader.specs.Modules.{module_item, item_behind}
use Rattle.swc_ecma_parser_module_reader.specs.Programs.{program_code, entered, as_script, as_module, program_body, program_whole, Front, begins_module, front_turn, front, behind_front}
use Rattle.swc_ecma_parser_module_reader.specs.ProgramEntry.{AnswersProgram}
use Rattle.swc_ecma_parser_module_reader.proofs.Keeps.{module_item_keeps, list_keeps, import_behind_keeps, export_behind_keeps}
use Rattle.swc_ecma_parser_reader.specs.Decorators.{Leading, has_any}
use Rattle.swc_ecma_parser_module_reader.proofs.DecoratedItems.{word_cases}
use Rattle.swc_ecma_parser_module_reader.proofs.Fronts.{turn_cases, fronts, list_word, known_both, behind_front_cases, Fronts}

-- faults are recorded where module code begins, and none is lost
behind_entered : (recorded : List Fault) (b s : State) → IsBehind b s → IsBehind b (entered recorded s)
behind_entered recorded b s f = record {
  added = f.added ++ recorded;
  faults = ap (λ z. z ++ recorded) f.faults ∙ append_assoc b.faults f.added recorded;
  read = f.read;
  tokens = f.tokens;
  last = f.last;
}

-- whatever was held back
abbrev pub Stayed : {A : Type 0} → State → A → State → Type 0
Stayed b x t = IsBehind b t × Remembers b t

abbrev pub Left : State → Fault → State → Type 0
Left b e t = IsBehind b t × (says_out_of_memory e.kind ≡ false → Remembers b t)

-- a reader behind which nothing that was recorded is lost
abbrev pub Leaves : {A : Type 0} → Reader A → Type 0
Leaves p = (b s : State) → IsBehind b s × Remembers b s → Answers (Stayed b) (Left b) (p s)

-- what loses nothing from here on, whatever was held back before
pub from_here : {A : Type 0} (b s : State) (o : Outcome A) → IsBehind b s × Remembers b s → Answers (Kept s) (Lost s) o → Answers (Stayed b) (Left b) o
from_here b s (Ok p) f h = (behind_then b s p.1 f.0 h.0, λ g. f.1 (h.2 g))
from_here b s (Err e) f h = (behind_then b s e.1 f.0 h.0, λ i g. f.1 (h.2 i g))

-- of the tokens and of what was recorded alone
pub only_follows : {A : Type 0} (b : State) (o : Outcome A) → Answers (Stayed b) (Left b) o → Answers (Follows b) (Follows b) o
only_follows b (Ok p) h = h.0
only_follows b (Err e) h = h.0

pub since : {A : Type 0} (p : Reader A) → Passes p → Leaves p
since p k b s f = from_here b s (p s) f (k s s (behind_self s))

-- ---- the statements before module code begins

front_turn_keeps : (n : ℕ) (found : List Tree) → Passes (front_turn n found)
front_turn_keeps n found b s f = turn_cases n found s (Answers (Kept b) (Lost b)) (λ _. f)
    (λ _. answers_then (Kept b) (Lost b) (whole_stmt n top_item s) _ (whole_stmt_keeps n top_item b s f) (λ x t g. directed_keeps b t (directs true found) x g)) (λ e m i d v t h w. list_keeps m b s f v t h)

front_keeps : (n : ℕ) → Passes (front n)
unfolding front
front_keeps n b s f = loop_keeps (front_turn n) b (λ found t g. front_turn_keeps n found b t g) [] s f

-- ---- the items behind them

turn_keeps : (n : ℕ) (found : List Tree) → Passes (items_turn (module_item n) at_end true found)
unfolding items_turn
turn_keeps n found b s f = answers_if _ _ (at_end s.at) _ _ (λ _. f) (λ _. answers_then (Kept b) (Lost b) (module_item n s) _ (module_item_keeps n b s f) (λ x t g. directed_keeps b t (directs true found) x g))

behind_front_keeps : (n : ℕ) (v : Leading) (b s : State) → NothingLost b s → (has_any v.found ≡ true → (m : ℕ) × (n ≡ suc m) × (begins_module s.at ≡ true)) → Answers (Kept b) (Lost b) (behind_front n v s)
behind_front_keeps n v b s f word = behind_front_cases (Answers (Kept b) (Lost b)) n v s (λ a. let (m, i, w) = word a in (
  m,
  i,
  answers_then (Kept b) (Lost b) (item_behind m v s) _
      (word_cases (Answers (Kept b) (Lost b)) m v s w (λ e. import_behind_keeps m v b s e f) (λ e. export_behind_keeps m v b s e f))
      (λ x t g. loop_keeps (items_turn (module_item n) at_end true) b (λ found u h. turn_keeps n found b u h) (x ∷ []) t g),
)) (λ _. items_keeps (module_item n) (module_item_keeps n) at_end true b s f)

-- from where module code begins on
module_keeps : (n : ℕ) (recorded : List Fault) (start : Place) (w : Front) (first : Option Text) (b s : State) → IsBehind b s × Remembers b s
    → (has_any w.list.found ≡ true → (m : ℕ) × (n ≡ suc m) × (begins_module s.at ≡ true)) → Answers (Stayed b) (Left b) (as_module n recorded start w first s)
unfolding as_module
module_keeps n recorded start w first b s f word = let u = entered recorded s in
    answers_then (Stayed b) (Left b) (behind_front n w.list u) _
    (from_here b u (behind_front n w.list u) (behind_entered recorded b s f.0, f.1) (behind_front_keeps n w.list u u (behind_self u) word)) (λ xs v k. k)

body_keeps : (n : ℕ) (recorded : List Fault) → Leaves (program_body n recorded)
unfolding program_body as_script
body_keeps n recorded b s f =
    answers_then (Stayed b) (Left b) (shebang s) _ (since shebang shebang_keeps b s f) (λ o t g.
    answers_then (Stayed b) (Left b) (front n t) _ (known_both (Stayed b) (Fronts n t) (Left b) (front n t) (since (front n) (front_keeps n) b t g) (fronts n t)) (λ w u (k, is).
    answers_if (Stayed b) (Left b) (at_end u.at && not u.notes.found_module_item) _ _ (λ _. k) (λ _. module_keeps n recorded s.at w o b u k (list_word n t w u is))))

pub program_keeps : (n : ℕ) (recorded : List Fault) → Leaves (program_whole n recorded)
unfolding program_whole
program_keeps n recorded b s f =
    let u = coded (program_code s.code) s in
    answers_then (Stayed b) (Left b) (program_body n recorded u) _ (body_keeps n recorded b u f) (λ p t k. k)

-- ---- what answers as the reader does

program_follows : (n : ℕ) (recorded : List Fault) (s : State) → Answers (Follows s) (Follows s) (program_whole n recorded (unmarked s))
program_follows n recorded s = only_follows s (program_whole n recorded (unmarked s)) (program_keeps n recorded s (unmarked s) ((behind_self s).0, λ h. h))

pub program_stays : (X : Type 0) (view : X → Tree) (limit : ℕ) (s : State) (r : Result X Error) (t : State) → AnswersProgram view limit (unmarked s) r t → Stays s r t
program_stays X view limit s (Ok x) t h =
    meant (Follows s) (Follows s) (program_whole limit h.0 (unmarked s)) (Ok (_, t)) h.1 (program_follows limit h.0 s)
program_stays X view limit s (Err e) t h = λ n. let p = h n in
    outcome_behind s (program_whole limit p.0 (unmarked s)) (fault_of e) p.1 t (program_follows limit p.0 s) p.2 p.3
