-- What a statement or a script is read as runs forward, whatever is recorded.
use Rattle.std.proofs.Common.{◌≡◌, ℕ, ◌≤◌, Bool, true, false, true≢false, List, [], ◌∷◌, Option, Some, None, Result, Ok, Err, refl, sym, ◌∙◌, subst, le-leb, arith}
use Rattle.swc_ecma_parser_common.specs.declared.span.Span.{Span}
use Rattle.swc_ecma_parser_error.specs.declared.error.Error.{Error}
use Rattle.swc_ecma_parser_token.specs.declared.keyword.Keyword.{Keyword}
use Rattle.swc_ecma_parser_token.specs.declared.keyword.Keyword.TheVariants as keyword
use Rattle.swc_ecma_parser_token.specs.declared.kind.TokenKind.TheVariants as kind
use Rattle.swc_ecma_parser_token.specs.declared.operator.AssignOp.{AssignOp}
use Rattle.swc_ecma_parser_token.specs.declared.operator.AssignOp.TheVariants as assign
use Rattle.swc_ecma_parser_token.specs.declared.operator.BinOpToken.{BinOpToken}
use Rattle.swc_ecma_parser_token.specs.declared.operator.BinOpToken.TheVariants as bin
use Rattle.swc_ecma_parser_token.specs.declared.token.Token.{Token}
use Rattle.swc_ecma_parser_token.specs.declared.token.Token.TheVariants as token
use Rattle.swc_ecma_parser_token.specs.declared.token.TokenAndSpan.{TokenAndSpan}
use Rattle.swc_ecma_parser_token.specs.declared.token.Word.{Word}
use Rattle.swc_ecma_parser_token.specs.declared.token.Word.TheVariants as word
use Rattle.swc_ecma_parser_token.specs.Kind.{keyword_kind, bin_op_kind, assign_op_kind, word_kind, token_kind}
use Rattle.swc_ecma_parser_input.specs.Place.{Place, after, past, outset}
use Rattle.swc_ecma_parser_input.specs.TokenSource.{TokenSource, is_ordered}
use Rattle.swc_ecma_parser_model.specs.Tree as tree
use Rattle.swc_ecma_parser_model.specs.Tree.{Tree, Text, listed}
use Rattle.swc_ecma_parser_grammar.specs.declared.position.Position.{Position}
use Rattle.swc_ecma_parser_grammar.specs.Looks.{first_kind, kind_at, sees, same_kind, start_at, whole_span}
use Rattle.swc_ecma_parser_grammar.specs.language.Contexts.{script_code}
use Rattle.swc_ecma_parser_grammar.specs.language.Items.{top_item}
use Rattle.swc_ecma_parser_grammar.specs.language.Programs.{at_top}
use Rattle.swc_ecma_parser_reader.specs.Entry.{unmarked, AnswersScript, AnswersStatement}
use Rattle.swc_ecma_parser_span_order.specs.Forward.{in_order, forward, AnswersForward}
use Rattle.swc_ecma_parser_span_order.specs.Laws.{StatementsRunForward, ScriptsRunForward}
use Rattle.swc_ecma_parser_reader.specs.Reader.{at_end, items_turn, items, whole_stmt, shebang_in, shebang_taken, shebang, script_body, script}
use Rattle.swc_ecma_parser_reader.specs.State.{State, Outcome, Reader, coded, loop}
use Rattle.swc_ecma_parser_reader.proofs.Meets.{Meets, Refuses, meets_then, meets_if, meant, loop_answers}
use Rattle.swc_ecma_parser_reader.proofs.expressions.SoundSteps.{meets_as}
use Rattle.swc_ecma_parser_span_order.proofs.Decorators.{SomeRead}
use Rattle.swc_ecma_parser_span_order.proofs.Levels.{whole_straight}
use Rattle.swc_ecma_parser_span_order.proofs.Places.{far, Here, Past, Ahead, Whole, Read, ReadMany, Straight, both, onward, first, taken, node, reads, here_in_order, start_begins}
use Rattle.swc_ecma_parser_span_order.proofs.Steps.{Looked}
use Rattle.swc_ecma_parser_span_order.proofs.Trees.{appended}

-- ---- where no token is left

keyword_goes_on : (k : Keyword) → same_kind (keyword_kind k) kind.End ≡ false
unfolding same_kind
keyword_goes_on keyword.Await = refl
keyword_goes_on _ = refl

bin_goes_on : (o : BinOpToken) → same_kind (bin_op_kind o) kind.End ≡ false
unfolding same_kind
bin_goes_on bin.Add = refl
bin_goes_on _ = refl

assign_goes_on : (o : AssignOp) → same_kind (assign_op_kind o) kind.End ≡ false
unfolding same_kind
assign_goes_on assign.Assign = refl
assign_goes_on _ = refl

word_goes_on : (w : Word) → same_kind (word_kind w) kind.End ≡ false
unfolding same_kind
word_goes_on (word.Keyword k) = keyword_goes_on k
word_goes_on _ = refl

token_goes_on : (v : Token) → same_kind (token_kind v) kind.End ≡ false
unfolding same_kind
token_goes_on (token.Word w) = word_goes_on w
token_goes_on (token.BinOp o) = bin_goes_on o
token_goes_on (token.AssignOp o) = assign_goes_on o
token_goes_on _ = refl

reached_by : (m : ℕ) (last : Span) (ts : List TokenAndSpan) → same_kind (first_kind ts) kind.End ≡ true → m ≤ far (past (record { last = last; left = ts }) ts) → m ≤ last.hi.0
reached_by m last [] e h = h
reached_by m last (t ∷ ts) e h = absurd (true≢false (sym e ∙ token_goes_on t.token))

pub ended_past : (m : ℕ) (c : Place) → sees kind.End c ≡ true → Ahead m c → Past m c
unfolding kind_at after
ended_past m c e a = record { here = a.here; gone = reached_by m c.last c.left e a.ahead }

-- ---- a script

shebang_taken_ahead : (m : ℕ) (o : Option Text) (s : State) → Ahead m s.at → Meets (Looked m) (shebang_taken o s)
shebang_taken_ahead m None s a = a
shebang_taken_ahead m (Some text) s a = onward (taken a)

pub shebang_ahead : (m : ℕ) (s : State) → Ahead m s.at → Meets (Looked m) (shebang s)
unfolding shebang
shebang_ahead m s a = shebang_taken_ahead m (shebang_in s.at.left) s a

-- items up to the end of the list
module _ (item : Reader Tree) (below : Straight item) (m : ℕ) where
  pub items_on_read : (found : List Tree) (s : State) → SomeRead m found s.at → Meets (ReadMany m) (loop (items_turn item at_end true) found s)
  unfolding items_turn at_end
  items_on_read found s h = loop_answers (items_turn item at_end true) (λ xs t. SomeRead m xs t.at) (ReadMany m) Refuses
      (λ xs t g. meets_if _ (at_end t.at) _ _ (λ e. record { straight = g.straight; place = ended_past m t.at e g.ahead })
      (λ _. meets_then _ (item t) _ (reads item below {m = m} t g.ahead) (λ x u k. record { straight = appended xs x g.straight k.straight; ahead = onward k.place })))
      (λ _. tt) found s h

  pub all_items_read : (s : State) → Ahead m s.at → Meets (ReadMany m) (items item at_end true s)
  unfolding items
  all_items_read s a = items_on_read [] s (record { straight = refl; ahead = a })

pub script_straight : (n : ℕ) (s : State) → Here s.at → Meets (Read (far (after s.at))) (script n s)
unfolding script script_body whole_span
script_straight n s f = let m = far (after s.at) in let b = coded (script_code s.code) s in
    meets_then (Read (far (after s.at))) (script_body n b) _
    (meets_then (Read (far (after s.at))) (shebang b) _ (shebang_ahead m b (first f)) (λ o t a.
    meets_then _ (items (whole_stmt n top_item) at_end true t) _ (all_items_read (whole_stmt n top_item) (whole_straight n top_item) m t a) (λ xs u g.
    node (start_at s.at) (tree.script _ (listed xs) o) (start_begins s.at f) g.place (λ e. both e g.straight) refl)))
    (λ x t h. h)

-- ---- entries

-- what is answered runs forward, and what is left stands in order behind it
pub record RunsForward (x : Tree) (c : Place) : Type 0 where
  pub straight : forward x ≡ true
  pub left : in_order c ≡ true

here_orders : (c : Place) → Here c → in_order c ≡ true
here_orders c h = both (le-leb c.last.lo.0 c.last.hi.0 h.last) h.order

pub runs_forward : {m : ℕ} (x : Tree) (c : Place) → Whole m x c → RunsForward x c
runs_forward x c h = record { straight = h.straight; left = here_orders c h.place.here }

-- a statement
pub statement_forward : (n : ℕ) (at : Position) (s : State) → in_order s.at ≡ true → Meets (λ x t. RunsForward x t.at) (whole_stmt n at s)
statement_forward n at s h = meets_as (whole_stmt n at s) (whole_straight n at s (here_in_order s.at h)) (λ x t k. runs_forward x t.at k)

-- a script
pub script_forward : (n : ℕ) (s : State) → in_order s.at ≡ true → Meets (λ x t. RunsForward x t.at) (script n s)
script_forward n s h = meets_as (script n s) (script_straight n s (here_in_order s.at h)) (λ x t k. runs_forward x t.at k)

-- ---- the laws

module _ (P : Tree → State → Type 0) where
  -- what holds of each answer of a reader holds of this one
  pub of_answer : (o : Outcome Tree) (x : Tree) (t : State) → o ≡ Ok (x, t) → Meets P o → P x t
  of_answer o x t e h = subst (λ o. Meets P o) e h

pub statements_run_forward : StatementsRunForward
statements_run_forward limit at s t x h e = let g = of_answer (λ x t. RunsForward x t.at) (whole_stmt limit at s) x t e (statement_forward limit at s h) in (g.straight, g.left)

pub scripts_run_forward : ScriptsRunForward
scripts_run_forward limit s t x h e = let g = of_answer (λ x t. RunsForward x t.at) (script limit s) x t e (script_forward limit s h) in (g.straight, g.left)

-- what a source hands out that nothing was read from
pub opened_in_order : (s : TokenSource) → is_ordered s ≡ true → in_order (outset s.start s.left) ≡ true
opened_in_order s h = both (le-leb s.start.0 s.start.0 (omega arith)) h

-- ---- what answers as the reader does

pub answered_forward : {X : Type 0} (view : X → Tree) (x : X) (c : Place) → RunsForward (view x) c → AnswersForward view (Ok x) c
answered_forward view x c h = (h.straight, h.left)

module _ (X : Type 0) (view : X → Tree) (limit : ℕ) (s : State) (ordered : in_order s.at ≡ true) where
  pub script_answers_forward : (r : Result X Error) (t : State) → AnswersScript view limit (unmarked s) r t → AnswersForward view r t.at
  script_answers_forward (Ok x) t h = answered_forward view x t.at
      (meant (λ x t. RunsForward x t.at) Refuses (script limit (unmarked s)) (Ok (view x, t)) h (script_forward limit (unmarked s) ordered))
  script_answers_forward (Err e) t h = tt

  pub statement_answers_forward : (include_decl top_level : Bool) (r : Result X Error) (t : State) → AnswersStatement view limit include_decl top_level (unmarked s) r t → AnswersForward view r t.at
  statement_answers_forward include_decl top_level (Ok x) t h = let at = at_top include_decl top_level in answered_forward view x t.at
      (meant (λ x t. RunsForward x t.at) Refuses (whole_stmt limit at (unmarked s)) (Ok (view x, t)) h (statement_forward limit at (unmarked s) ordered))
  statement_answers_forward include_decl top_level (Err e) t h = tt
