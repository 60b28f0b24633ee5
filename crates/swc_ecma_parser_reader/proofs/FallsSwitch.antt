-- `switch` takes a token at least, and so does each of its clauses.
use Rattle.swc_ecma_parser_reader.specs.State.{State, Reader, moved, coded, within, expect}
use Rattle.swc_ecma_parser_reader.specs.Reader.{items, head, begins_clause, closes_clause, Clauses, clause_from, default_clause, case_clause, clause, clauses_turn, clauses, switch_stmt}
use Rattle.swc_ecma_parser_grammar.specs.language.Contexts.{in_breakable, with_in}
use Rattle.std.proofs.Common.{◌≡◌, ◌≢◌, Bool, true, false, [], length, refl, true≢false, sym, ◌∙◌, arith}
use Rattle.swc_ecma_parser_common.specs.declared.span.Span.{Span}
use Rattle.swc_ecma_parser_error.specs.Kind as faults
use Rattle.swc_ecma_parser_token.specs.declared.kind.TokenKind.TheVariants as kind
use Rattle.swc_ecma_parser_input.specs.Place.{Place, after}
use Rattle.swc_ecma_parser_model.specs.Tree as tree
use Rattle.swc_ecma_parser_model.specs.Tree.{Tree}
use Rattle.swc_ecma_parser_grammar.specs.Looks.{kind_at, sees, same_kind, span_at}
use Rattle.swc_ecma_parser_reader.proofs.Takes.{Falls, falls_where, falls_then, falls_last, falls_coded, falls_if, less, falls_past, refuse_falls, expect_falls, loop_falls}
use Rattle.swc_ecma_parser_reader.proofs.FallsHeads.{whole_falls, head_falls}
use Rattle.swc_ecma_parser_reader.proofs.FallsBlocks.{items_fall}

-- a clause begins with a token
clause_stands : (c : Place) → begins_clause c ≡ true → kind_at c ≢ kind.End
unfolding begins_clause same_kind
clause_stands c e h = true≢false (sym e ∙ rw h refl)

module _ (inner : Reader Tree) (h : (s : State) → Falls 1 (length s.at.left) (inner s)) where
  clause_from_falls : (start : Span) (test : Tree) (s : State) → Falls 0 (length s.at.left) (clause_from inner start test s)
  unfolding clause_from
  clause_from_falls start test s = falls_then 0 0 (length s.at.left) (expect kind.Colon s) _ (expect_falls kind.Colon s) (λ _ t.
      falls_last 0 (length t.at.left) (items inner closes_clause false t) _ (items_fall inner h closes_clause false t))

  default_clause_falls : (b : Bool) (s : State) → kind_at s.at ≢ kind.End → Falls 1 (length s.at.left) (default_clause inner b s)
  unfolding default_clause
  default_clause_falls b s e = falls_past s _ e (falls_if 0 (length (after s.at).left) b _ _ (refuse_falls Tree 0 (length (after s.at).left) faults.MultipleDefault (moved s))
      (clause_from_falls (span_at s.at) tree.absent (moved s)))

  module _ (inner_expr : Reader Tree) (g : (s : State) → Falls 1 (length s.at.left) (inner_expr s)) where
    case_clause_falls : (s : State) → kind_at s.at ≢ kind.End → Falls 1 (length s.at.left) (case_clause inner inner_expr s)
    unfolding case_clause
    case_clause_falls s e = falls_past s _ e (falls_then 0 0 (length (after s.at).left) (within with_in inner_expr (moved s)) _
        (less (length (after s.at).left) (within with_in inner_expr (moved s)) (whole_falls inner_expr g (moved s))) (λ x t. clause_from_falls (span_at s.at) x t))

    -- a clause takes its word
    pub clause_falls : (b : Bool) (s : State) → begins_clause s.at ≡ true → Falls 1 (length s.at.left) (clause inner inner_expr b s)
    unfolding clause
    clause_falls b s e = let k = clause_stands s.at e in falls_if 1 (length s.at.left) (sees kind.Case s.at) _ _ (case_clause_falls s k) (default_clause_falls b s k)

    clauses_turn_falls : (l : Clauses) (s : State) → Falls 0 (length s.at.left) (clauses_turn inner inner_expr l s)
    unfolding clauses_turn
    clauses_turn_falls l s = falls_where 0 (length s.at.left) (begins_clause s.at) _ _
        (λ e. falls_last 0 (length s.at.left) (clause inner inner_expr l.has_default s) _ (less (length s.at.left) (clause inner inner_expr l.has_default s) (clause_falls l.has_default s e))) (omega arith)

    clauses_fall : (s : State) → Falls 0 (length s.at.left) (clauses inner inner_expr s)
    unfolding clauses
    clauses_fall s = loop_falls (clauses_turn inner inner_expr) clauses_turn_falls (record { found = []; has_default = false }) s

    pub switch_falls : (s : State) → kind_at s.at ≢ kind.End → Falls 1 (length s.at.left) (switch_stmt inner inner_expr s)
    unfolding switch_stmt
    switch_falls s e = falls_past s _ e (falls_then 0 0 (length (after s.at).left) (head inner_expr (moved s)) _ (head_falls inner_expr g (moved s)) (λ x t.
        falls_then 0 0 (length t.at.left) (expect kind.LBrace t) _ (expect_falls kind.LBrace t) (λ _ u.
        falls_then 0 0 (length u.at.left) (within in_breakable (clauses inner inner_expr) u) _
        (falls_coded 0 (length u.at.left) (clauses inner inner_expr (coded (in_breakable u.code) u)) _ _ (clauses_fall (coded (in_breakable u.code) u))) (λ xs v.
        falls_last 0 (length v.at.left) (expect kind.RBrace v) _ (expect_falls kind.RBrace v)))))
