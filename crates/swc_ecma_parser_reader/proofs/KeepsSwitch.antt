-- `switch` loses nothing, and neither does any of its clauses.
use Rattle.swc_ecma_parser_reader.proofs.expressions.KeepSteps.{other_test}
use Rattle.swc_ecma_parser_reader.specs.Reader.{items, head, begins_clause, closes_clause, clause_from, default_clause, case_clause, clause, clauses_turn, clauses, switch_stmt}
use Rattle.swc_ecma_parser_model.specs.Tree.{Tree}
use Rattle.swc_ecma_parser_reader.specs.State.{State, moved, coded, within, expect}
use Rattle.swc_ecma_parser_grammar.specs.language.Items.{nested_item}
use Rattle.swc_ecma_parser_grammar.specs.language.Contexts.{in_breakable, with_in}
use Rattle.std.proofs.Common.{◌≡◌, Bool, true, false, [], refl}
use Rattle.swc_ecma_parser_common.specs.declared.span.Span.{Span}
use Rattle.swc_ecma_parser_error.specs.Kind as faults
use Rattle.swc_ecma_parser_token.specs.declared.kind.TokenKind.TheVariants as kind
use Rattle.swc_ecma_parser_model.specs.Tree as tree
use Rattle.swc_ecma_parser_grammar.specs.Looks.{kind_at, sees, span_at}
use Rattle.swc_ecma_parser_grammar.specs.language.Goals.{expression}
use Rattle.swc_ecma_parser_reader.proofs.Meets.{Answers, answers_then, answers_if}
use Rattle.swc_ecma_parser_reader.proofs.Behind.{NothingLost, Kept, Lost, flagged_kept, behind_after, behind_seen, refuse_keeps, expect_keeps, loop_keeps}
use Rattle.swc_ecma_parser_reader.proofs.KeepsBelow.{KeepsBelow}
use Rattle.swc_ecma_parser_reader.proofs.KeepsHeads.{head_keeps}
use Rattle.swc_ecma_parser_reader.proofs.KeepsBlocks.{items_keeps}

module _ (known : KeepsBelow) (b : State) (s : State) (f : NothingLost b s) where
  clause_from_keeps : (start : Span) (test : Tree) (t : State) → NothingLost b t → Answers (Kept b) (Lost b) (clause_from (known.inner nested_item) start test t)
  unfolding clause_from
  clause_from_keeps start test t g = answers_then _ _ (expect kind.Colon t) _ (expect_keeps b t g kind.Colon refl) (λ _ u k.
      answers_then _ _ (items (known.inner nested_item) closes_clause false u) _ (items_keeps (known.inner nested_item) (known.below_stmt nested_item) closes_clause false b u k) (λ xs v j. j))

  clause_keeps : (o : Bool) (t : State) → begins_clause t.at ≡ true → NothingLost b t → Answers (Kept b) (Lost b) (clause (known.inner nested_item) (known.inner_expr expression) o t)
  unfolding clause case_clause default_clause begins_clause
  clause_keeps o t e g = answers_if _ _ (sees kind.Case t.at) _ _
      (λ seen. let h = behind_seen b t kind.Case seen refl g in answers_then _ _ (within with_in (known.inner_expr expression) (moved t)) _
      (answers_then (Kept b) _ (known.inner_expr expression (coded (with_in t.code) (moved t))) _ (known.below_expr expression b (coded (with_in t.code) (moved t)) h) (λ x v k. flagged_kept b (moved t) v h k))
      (λ x u k. clause_from_keeps (span_at t.at) x u k))
      (λ h. let k = behind_seen b t kind.Default (other_test (sees kind.Case t.at) (sees kind.Default t.at) e h) refl g in
      answers_if _ _ o _ _ (λ _. refuse_keeps _ faults.MultipleDefault b (moved t) k) (λ _. clause_from_keeps (span_at t.at) tree.absent (moved t) k))

  clauses_keeps : (t : State) → NothingLost b t → Answers (Kept b) (Lost b) (clauses (known.inner nested_item) (known.inner_expr expression) t)
  unfolding clauses clauses_turn
  clauses_keeps t g = loop_keeps (clauses_turn (known.inner nested_item) (known.inner_expr expression)) b
      (λ l u k. answers_if _ _ (begins_clause u.at) _ _ (λ e. answers_then _ _ (clause (known.inner nested_item) (known.inner_expr expression) l.has_default u) _ (clause_keeps l.has_default u e k) (λ x v j. j)) (λ _. k)) (record { found = []; has_default = false }) t g

  pub switch_keeps : kind_at s.at ≡ kind.Switch → Answers (Kept b) (Lost b) (switch_stmt (known.inner nested_item) (known.inner_expr expression) s)
  unfolding switch_stmt
  switch_keeps e =
      let g = behind_after b s e refl f in
      answers_then _ _ (head (known.inner_expr expression) (moved s)) _ (head_keeps known b (moved s) g) (λ x t k.
      answers_then _ _ (expect kind.LBrace t) _ (expect_keeps b t k kind.LBrace refl) (λ _ u j.
      answers_then _ _ (within in_breakable (clauses (known.inner nested_item) (known.inner_expr expression)) u) _
      (answers_then (Kept b) _ (clauses (known.inner nested_item) (known.inner_expr expression) (coded (in_breakable u.code) u)) _ (clauses_keeps (coded (in_breakable u.code) u) j) (λ x v k. flagged_kept b u v j k)) (λ xs v l.
      answers_then _ _ (expect kind.RBrace v) _ (expect_keeps b v l kind.RBrace refl) (λ _ b a. a))))
