-- What an item, a module or a program is read as runs forward, whatever is recorded.
use Rattle.std.proofs.Common.{◌≡◌, ℕ, zero, suc, ◌≤◌, Bool, true, false, cond, List, [], ◌∷◌, ◌++◌, map, Result, Ok, Err, refl, subst, le_trans}
use Rattle.std.specs.Prelude.{not, ◌&&◌}
use Rattle.swc_ecma_parser_error.specs.Kind.{Fault}
use Rattle.swc_ecma_parser_error.specs.declared.error.Error.{Error}
use Rattle.swc_ecma_parser_token.specs.declared.kind.TokenKind.TheVariants as kind
use Rattle.swc_ecma_parser_input.specs.Place.{Place, after}
use Rattle.swc_ecma_parser_model.specs.Tree as tree
use Rattle.swc_ecma_parser_model.specs.Tree.{Tree, listed, trees}
use Rattle.swc_ecma_parser_grammar.specs.Looks.{sees, start_at, whole_span}
use Rattle.swc_ecma_parser_grammar.specs.Notes.{as_note}
use Rattle.swc_ecma_parser_grammar.specs.language.Items.{nested_item, top_item}
use Rattle.swc_ecma_parser_grammar.specs.language.Goals.{expression}
use Rattle.swc_ecma_parser_grammar.proofs.Tests.{and_yes}
use Rattle.swc_ecma_parser_reader.specs.DecoratedStatements.{stmt_behind}
use Rattle.swc_ecma_parser_reader.specs.DecoratorLevels.{decorated_in}
use Rattle.swc_ecma_parser_reader.specs.Decorators.{Leading, leading, has_any, misplaced}
use Rattle.swc_ecma_parser_span_order.specs.Forward.{in_order, all_forward, AnswersForward}
use Rattle.swc_ecma_parser_module_span_order.specs.Laws.{ModulesRunForward, ProgramsRunForward, ItemsRunForward}
use Rattle.swc_ecma_parser_reader.specs.Reader.{expr, pattern, member, stmt, parameters, object_alone, items, at_end, whole_stmt, shebang, plain_stmt}
use Rattle.swc_ecma_parser_reader.specs.State.{State, Outcome, Reader, coded}
use Rattle.swc_ecma_parser_reader.proofs.Keeps.{expr_keeps}
use Rattle.swc_ecma_parser_reader.proofs.Meets.{Meets, Refuses, Turned, meets_then, meets_if, meant, too_deep_meets, loop_answers}
use Rattle.swc_ecma_parser_reader.proofs.expressions.SoundSteps.{meets_as}
use Rattle.swc_ecma_parser_span_order.proofs.Decorators.{SomeRead, LeadingRead, leading_reads, misplaced_ahead, stmt_behind_reads}
use Rattle.swc_ecma_parser_span_order.proofs.Entries.{ended_past, shebang_ahead, items_on_read, all_items_read, RunsForward, runs_forward, of_answer, answered_forward}
use Rattle.swc_ecma_parser_span_order.proofs.Levels.{expr_straight, pattern_is_straight, member_is_straight, parameters_are_straight, stmt_straight, plain_stmt_straight, object_alone_straight, decorated_in_straight, whole_straight}
use Rattle.swc_ecma_parser_span_order.proofs.Places.{far, Here, Ahead, Read, ReadMany, Straight, Whole, both, onward, first, node, reads, past_less, ahead_less, here_in_order, start_begins}
use Rattle.swc_ecma_parser_span_order.proofs.Trees.{appended, joined}
use Rattle.swc_ecma_parser_module_reader.specs.Decorated.{begins_decorators, export_with}
use Rattle.swc_ecma_parser_module_reader.specs.Entry.{AnswersModule}
use Rattle.swc_ecma_parser_module_reader.specs.Imports.{import_decl}
use Rattle.swc_ecma_parser_module_reader.specs.ItemEntry.{AnswersItem}
use Rattle.swc_ecma_parser_module_reader.specs.Items.{turned, begun_item, begun, decorated_alone, item_whole}
use Rattle.swc_ecma_parser_module_reader.specs.Modules.{begins_import, import_in, export_in, item_behind, decorated_item, module_item, module_code, module_body, module_whole}
use Rattle.swc_ecma_parser_module_reader.specs.ProgramEntry.{AnswersProgram}
use Rattle.swc_ecma_parser_module_reader.specs.Programs.{begins_module, before_module, program_code, entered, Front, front_behind, front_decorated, front_turn, front, first_behind, behind_front, as_script, as_module, program_body, program_whole}
use Rattle.swc_ecma_parser_module_span_order.proofs.Exports.{export_with_straight, export_item_straight}
use Rattle.swc_ecma_parser_module_span_order.proofs.Imports.{import_straight}

-- ---- items

import_in_straight : (n : ℕ) → Straight (import_in n)
unfolding import_in
import_in_straight zero s f = too_deep_meets _ s
import_in_straight (suc n) s f = import_straight (object_alone n) (object_alone_straight n) s f

export_in_straight : (n : ℕ) → Straight (export_in n)
unfolding export_in
export_in_straight zero s f = too_deep_meets _ s
export_in_straight (suc n) s f = export_item_straight (stmt n nested_item) (expr n) (pattern n) (parameters n) (member n) (object_alone n) (decorated_in n)
    (stmt_straight n nested_item) (expr_straight n) (pattern_is_straight n) (parameters_are_straight n) (member_is_straight n) (object_alone_straight n) (decorated_in_straight n) (expr_keeps n expression) s f

pub item_behind_reads : (n m : ℕ) (v : Leading) (s : State) → LeadingRead m v s.at → Meets (Read m) (item_behind n v s)
unfolding item_behind
item_behind_reads n m v s h = meets_if _ (begins_import s.at) _ _
    (λ _. meets_then _ (misplaced v s) _ (misplaced_ahead m v s h.ahead) (λ _ t a. reads (import_decl (object_alone n)) (import_straight (object_alone n) (object_alone_straight n)) {m = m} t a))
    (λ _. meets_if _ (sees kind.Export s.at) _ _
    (λ _. reads (export_with (stmt n nested_item) (expr n) (pattern n) (parameters n) (member n) (object_alone n) (decorated_in n) v)
    (export_with_straight (stmt n nested_item) (expr n) (pattern n) (parameters n) (member n) (object_alone n) (decorated_in n)
    (stmt_straight n nested_item) (expr_straight n) (pattern_is_straight n) (parameters_are_straight n) (member_is_straight n) (object_alone_straight n) (decorated_in_straight n) (expr_keeps n expression) v h.straight) {m = m} s h.ahead)
    (λ _. stmt_behind_reads (plain_stmt n) (plain_stmt_straight n) top_item m v s h))

decorated_item_straight : (n : ℕ) → Straight (decorated_item n)
unfolding decorated_item
decorated_item_straight zero s f = too_deep_meets _ s
decorated_item_straight (suc n) s f = meets_then _ (leading (decorated_in n) s) _ (leading_reads (decorated_in n) (decorated_in_straight n) s f) (λ v t h. item_behind_reads n (far (after s.at)) v t h)

pub module_item_straight : (n : ℕ) → Straight (module_item n)
unfolding module_item
module_item_straight n s f = meets_if _ (begins_import s.at) _ _ (λ _. import_in_straight n s f)
    (λ _. meets_if _ (sees kind.Export s.at) _ _ (λ _. export_in_straight n s f)
    (λ _. meets_if _ (begins_decorators s.code s.at) _ _ (λ _. decorated_item_straight n s f) (λ _. whole_straight n top_item s f)))

-- ---- a module

module_straight : (n : ℕ) (s : State) → Here s.at → Meets (Read (far (after s.at))) (module_whole n s)
unfolding module_whole module_body whole_span
module_straight n s f = let m = far (after s.at) in let b = coded (module_code s.code) s in
    meets_then (Read (far (after s.at))) (module_body n b) _
    (meets_then (Read (far (after s.at))) (shebang b) _ (shebang_ahead m b (first f)) (λ o t a.
    meets_then _ (items (module_item n) at_end true t) _ (all_items_read (module_item n) (module_item_straight n) m t a) (λ xs u g.
    node (start_at s.at) (tree.module_program _ (listed xs) o) (start_begins s.at f) g.place (λ e. both e g.straight) refl)))
    (λ x t h. h)

-- ---- a program: statements, and decorators behind them

record FrontRead (m : ℕ) (w : Front) (c : Place) : Type 0 where
  before : all_forward (trees w.before) ≡ true
  -- how far the first of the decorators reaches, or what stands there
  bound : ℕ
  enough : m ≤ bound
  list : LeadingRead bound w.list c

front_ahead : {m : ℕ} {w : Front} {c : Place} → FrontRead m w c → Ahead m c
front_ahead h = ahead_less h.enough h.list.ahead

module _ (m : ℕ) where
  -- one statement more
  more_read : (found : List Tree) (x : Tree) (t : State) → all_forward (trees found) ≡ true → Read m x t → SomeRead m (found ++ x ∷ []) t.at
  more_read found x t a k = record { straight = appended found x a k.straight; ahead = onward k.place }

  front_behind_reads : (top n k : ℕ) → m ≤ k → (found : List Tree) → all_forward (trees found) ≡ true → (v : Leading) (s : State) → LeadingRead k v s.at
      → Meets (Turned (front_turn top) (λ xs t. SomeRead m xs t.at) (λ w t. FrontRead m w t.at) Refuses) (front_behind n found v s)
  unfolding front_behind
  front_behind_reads top n k l found a v s h = meets_if _ (begins_module s.at) _ _ (λ _. record { before = a; bound = k; enough = l; list = h })
      (λ _. meets_then _ (stmt_behind (plain_stmt n) top_item v s) _ (stmt_behind_reads (plain_stmt n) (plain_stmt_straight n) top_item k v s h) (λ x t g.
      more_read found x t a (record { straight = g.straight; reaches = le_trans l g.reaches; place = past_less l g.place })))

  front_decorated_reads : (top n : ℕ) (found : List Tree) (s : State) → SomeRead m found s.at
      → Meets (Turned (front_turn top) (λ xs t. SomeRead m xs t.at) (λ w t. FrontRead m w t.at) Refuses) (front_decorated n found s)
  unfolding front_decorated
  front_decorated_reads top zero found s h = too_deep_meets _ s
  front_decorated_reads top (suc n) found s h = meets_then _ (leading (decorated_in n) s) _ (leading_reads (decorated_in n) (decorated_in_straight n) s h.ahead.here) (λ v t g.
      front_behind_reads top n (far (after s.at)) h.ahead.ahead found h.straight v t g)

  front_turn_reads : (n : ℕ) (found : List Tree) (s : State) → SomeRead m found s.at
      → Meets (Turned (front_turn n) (λ xs t. SomeRead m xs t.at) (λ w t. FrontRead m w t.at) Refuses) (front_turn n found s)
  unfolding front_turn
  front_turn_reads n found s h = meets_if _ (before_module s.at) _ _
      (λ _. record { before = h.straight; bound = far (after s.at); enough = h.ahead.ahead; list = record { straight = refl; begins = h.ahead.here.begins; ahead = first h.ahead.here } })
      (λ _. meets_if _ (begins_decorators s.code s.at) _ _ (λ _. front_decorated_reads n n found s h)
      (λ _. meets_then _ (whole_stmt n top_item s) _ (reads (whole_stmt n top_item) (whole_straight n top_item) {m = m} s h.ahead) (λ x t k. more_read found x t h.straight k)))

  front_reads : (n : ℕ) (s : State) → Ahead m s.at → Meets (λ w t. FrontRead m w t.at) (front n s)
  unfolding front
  front_reads n s a = loop_answers (front_turn n) (λ xs t. SomeRead m xs t.at) (λ w t. FrontRead m w t.at) Refuses (λ found t h. front_turn_reads n found t h) (λ _. tt) [] s (record { straight = refl; ahead = a })

  -- ---- the items from there on

  first_behind_reads : (n k : ℕ) (v : Leading) (s : State) → LeadingRead k v s.at → Meets (Read k) (first_behind n v s)
  unfolding first_behind
  first_behind_reads zero k v s h = too_deep_meets _ s
  first_behind_reads (suc n) k v s h = item_behind_reads n k v s h

  behind_front_reads : (n : ℕ) (w : Front) (s : State) → FrontRead m w s.at → Meets (ReadMany m) (behind_front n w.list s)
  unfolding behind_front
  behind_front_reads n w s h = meets_if _ (has_any w.list.found) _ _
      (λ _. meets_then _ (first_behind n w.list s) _ (first_behind_reads n h.bound w.list s h.list) (λ x t g.
      items_on_read (module_item n) (module_item_straight n) m (x ∷ []) t (record { straight = both g.straight refl; ahead = onward (past_less h.enough g.place) })))
      (λ _. all_items_read (module_item n) (module_item_straight n) m s (front_ahead h))

-- a tree, and what was held back
abbrev pub ReadFirst : ℕ → Tree × List Fault → State → Type 0
ReadFirst m p t = Whole m p.0 t.at

program_straight : (n : ℕ) (recorded : List Fault) (s : State) → Here s.at → Meets (ReadFirst (far (after s.at))) (program_whole n recorded s)
unfolding program_whole program_body as_script as_module whole_span at_end
program_straight n recorded s f = let m = far (after s.at) in let b = coded (program_code s.code) s in
    meets_then (ReadFirst (far (after s.at))) (program_body n recorded b) _
    (meets_then (ReadFirst (far (after s.at))) (shebang b) _ (shebang_ahead m b (first f)) (λ o t a.
    meets_then _ (front n t) _ (front_reads m n t a) (λ w u h.
    meets_if _ (at_end u.at && not u.notes.found_module_item) _ _
    (λ e. node (start_at s.at) (tree.script _ (listed w.before) o) (start_begins s.at f) (ended_past m u.at (and_yes (at_end u.at) _ e).0 (front_ahead h)) (λ i. both i h.before) refl)
    (λ _. meets_then _ (behind_front n w.list (entered recorded u)) _ (behind_front_reads m n w (entered recorded u) h) (λ xs v g.
    node (start_at s.at) (tree.module_program _ (listed (w.before ++ xs)) o) (start_begins s.at f) g.place (λ i. both i (joined w.before xs h.before g.straight)) refl)))))
    (λ p t h. h)

-- ---- one item by itself

pub begun_here : (recorded : List Fault) (s : State) → Here s.at → Here (begun_item recorded s).at
unfolding begun_item
begun_here recorded s f = by_word (begins_module s.at)
  where
    by_word : (o : Bool) → Here (cond o (turned recorded s) s).at
    by_word true = f
    by_word false = f

pub begun_leading : (recorded : List Fault) (m : ℕ) (v : Leading) (s : State) → LeadingRead m v s.at → LeadingRead m v (begun_item recorded s).at
unfolding begun_item
begun_leading recorded m v s h = by_word (begins_module s.at)
  where
    by_word : (o : Bool) → LeadingRead m v (cond o (turned recorded s) s).at
    by_word true = h
    by_word false = h

begun_reads : (m : ℕ) (recorded : List Fault) (p : Reader Tree) (s : State) → Meets (Read m) (p (begun_item recorded s)) → Meets (ReadFirst m) (begun recorded p s)
unfolding begun
begun_reads m recorded p s h = meets_then _ (p (begun_item recorded s)) _ h (λ x t k. k)

pub begun_far : (recorded : List Fault) (s : State) → (begun_item recorded s).at ≡ s.at
unfolding begun_item
begun_far recorded s = by_word (begins_module s.at)
  where
    by_word : (o : Bool) → (cond o (turned recorded s) s).at ≡ s.at
    by_word true = refl
    by_word false = refl

decorated_alone_reads : (n : ℕ) (recorded : List Fault) (s : State) → Here s.at → Meets (ReadFirst (far (after s.at))) (decorated_alone n recorded s)
unfolding decorated_alone
decorated_alone_reads zero recorded s f = too_deep_meets _ s
decorated_alone_reads (suc n) recorded s f = meets_then _ (leading (decorated_in n) s) _ (leading_reads (decorated_in n) (decorated_in_straight n) s f) (λ v t h.
    begun_reads (far (after s.at)) recorded (item_behind n v) t (item_behind_reads n (far (after s.at)) v (begun_item recorded t) (begun_leading recorded (far (after s.at)) v t h)))

item_straight : (n : ℕ) (recorded : List Fault) (s : State) → Here s.at → Meets (ReadFirst (far (after s.at))) (item_whole n recorded s)
unfolding item_whole
item_straight n recorded s f = meets_if _ (begins_decorators s.code s.at) _ _ (λ _. decorated_alone_reads n recorded s f)
    (λ _. begun_reads (far (after s.at)) recorded (module_item n) s
    (subst (λ (c : Place). Meets (Read (far (after c))) (module_item n (begun_item recorded s))) (begun_far recorded s) (module_item_straight n (begun_item recorded s) (begun_here recorded s f))))

-- ---- entries

pub module_forward : (n : ℕ) (s : State) → in_order s.at ≡ true → Meets (λ x t. RunsForward x t.at) (module_whole n s)
module_forward n s h = meets_as (module_whole n s) (module_straight n s (here_in_order s.at h)) (λ x t k. runs_forward x t.at k)

pub program_forward : (n : ℕ) (recorded : List Fault) (s : State) → in_order s.at ≡ true → Meets (λ p t. RunsForward p.0 t.at) (program_whole n recorded s)
program_forward n recorded s h = meets_as (program_whole n recorded s) (program_straight n recorded s (here_in_order s.at h)) (λ p t k. runs_forward p.0 t.at k)

pub item_forward : (n : ℕ) (recorded : List Fault) (s : State) → in_order s.at ≡ true → Meets (λ p t. RunsForward p.0 t.at) (item_whole n recorded s)
item_forward n recorded s h = meets_as (item_whole n recorded s) (item_straight n recorded s (here_in_order s.at h)) (λ p t k. runs_forward p.0 t.at k)

-- ---- the laws

pub modules_run_forward : ModulesRunForward
modules_run_forward limit s t x h e = let g = of_answer (λ x t. RunsForward x t.at) (module_whole limit s) x t e (module_forward limit s h) in (g.straight, g.left)

-- the same of an answer with what is still held back
of_pair : (P : Tree × List Fault → State → Type 0) (o : Outcome (Tree × List Fault)) (p : Tree × List Fault) (t : State) → o ≡ Ok (p, t) → Meets P o → P p t
of_pair P o p t e h = subst (λ o. Meets P o) e h

pub programs_run_forward : ProgramsRunForward
programs_run_forward limit recorded held s t x h e =
    let g = of_pair (λ p t. RunsForward p.0 t.at) (program_whole limit recorded s) (x, held) t e (program_forward limit recorded s h) in (g.straight, g.left)

pub items_run_forward : ItemsRunForward
items_run_forward limit recorded held s t x h e =
    let g = of_pair (λ p t. RunsForward p.0 t.at) (item_whole limit recorded s) (x, held) t e (item_forward limit recorded s h) in (g.straight, g.left)

-- ---- what answers as the reader does

module _ (X : Type 0) (view : X → Tree) (limit : ℕ) (s : State) (ordered : in_order s.at ≡ true) where
  pub module_answers_forward : (r : Result X Error) (t : State) → AnswersModule view limit s r t → AnswersForward view r t.at
  module_answers_forward (Ok x) t h = answered_forward view x t.at (meant (λ x t. RunsForward x t.at) Refuses (module_whole limit s) (Ok (view x, t)) h (module_forward limit s ordered))
  module_answers_forward (Err e) t h = tt

  pub item_answers_forward : (r : Result X Error) (t : State) → AnswersItem view limit s r t → AnswersForward view r t.at
  item_answers_forward (Ok x) t h = answered_forward view x t.at
      (meant (λ p t. RunsForward p.0 t.at) Refuses (item_whole limit h.0 s) (Ok ((view x, map as_note h.0), t)) h.1 (item_forward limit h.0 s ordered))
  item_answers_forward (Err e) t h = tt

  pub program_answers_forward : (r : Result X Error) (t : State) → AnswersProgram view limit s r t → AnswersForward view r t.at
  program_answers_forward (Ok x) t h = answered_forward view x t.at
      (meant (λ p t. RunsForward p.0 t.at) Refuses (program_whole limit h.0 s) (Ok ((view x, map as_note h.0), t)) h.1 (program_forward limit h.0 s ordered))
  program_answers_forward (Err e) t h = tt
