-- `try` loses nothing, and neither does a `catch` or a `finally` behind no `try`.
use Rattle.swc_ecma_parser_reader.specs.Reader.{stray, braced, begins_at, is_handled, handled, bound, parameter, finalizer, caught, handler, try_stmt}
use Rattle.swc_ecma_parser_model.specs.Tree.{Tree}
use Rattle.swc_ecma_parser_reader.specs.State.{attempted, below, State, Reader, moved, within, fault, fault_at, expect}
use Rattle.swc_ecma_parser_grammar.specs.language.Items.{nested_item}
use Rattle.swc_ecma_parser_grammar.specs.language.Contexts.{with_in}
use Rattle.std.proofs.Common.{◌≡◌, false, refl}
use Rattle.swc_ecma_parser_error.specs.Kind as faults
use Rattle.swc_ecma_parser_token.specs.declared.kind.TokenKind.TheVariants as kind
use Rattle.swc_ecma_parser_input.specs.Place.{Place}
use Rattle.swc_ecma_parser_grammar.specs.Looks.{kind_at, sees, span_at}
use Rattle.swc_ecma_parser_reader.proofs.Meets.{Answers, answers_then, answers_if}
use Rattle.swc_ecma_parser_reader.proofs.Recovered.{attempted_keeps, inside_passes}
use Rattle.swc_ecma_parser_reader.proofs.Behind.{NothingLost, Kept, Lost, Passes, behind_after, behind_seen, fault_keeps, expect_keeps}
use Rattle.swc_ecma_parser_reader.proofs.KeepsBelow.{KeepsBelow}
use Rattle.swc_ecma_parser_reader.proofs.KeepsBlocks.{braces_keep, braced_keeps}

parameter_keeps : (pat : Reader Tree) → Passes pat → Passes (parameter pat)
unfolding parameter bound
parameter_keeps pat below_pat b t g = answers_if _ _ (sees kind.LParen t.at) _ _ (λ seen. let h = behind_seen b t kind.LParen seen refl g in
    answers_then _ _ (within with_in pat (moved t)) _ (inside_passes pat below_pat b (moved t) h) (λ x v k. answers_then _ _ (expect kind.RParen v) _ (expect_keeps b v k kind.RParen refl) (λ _ w z. z))) (λ _. g)

module _ (inner : Reader Tree) (below : Passes inner) where
  pub finalizer_keeps : Passes (finalizer inner)
  unfolding finalizer
  finalizer_keeps b t g = answers_if _ _ (sees kind.Finally t.at) _ _ (λ seen. braces_keep inner below false b (moved t) (behind_seen b t kind.Finally seen refl g)) (λ _. g)

  module _ (pat : Reader Tree) (below_pat : Passes pat) where
    pub caught_keeps : (start : Place) → Passes (caught inner pat start)
    unfolding caught
    caught_keeps start b t g = answers_then (Kept b) _ (parameter pat t) _ (parameter_keeps pat below_pat b t g) (λ x u k.
        answers_then (Kept b) _ (braced inner false u) _ (braces_keep inner below false b u k) (λ y v j. j))

    pub handler_keeps : Passes (handler inner pat)
    unfolding handler
    handler_keeps b t g = answers_if _ _ (sees kind.Catch t.at) _ _ (λ seen. caught_keeps t.at b (moved t) (behind_seen b t kind.Catch seen refl g)) (λ _. g)

    pub stray_keeps : Passes (stray inner pat)
    unfolding stray
    stray_keeps b s f = answers_then (Kept b) _ (fault (fault_at (span_at s.at) faults.TS1005) s) _ (fault_keeps b s f (fault_at (span_at s.at) faults.TS1005)) (λ _ t g.
        answers_then (Kept b) _ (attempted (handler inner pat) t) _ (attempted_keeps (handler inner pat) handler_keeps b t g) (λ _ u k.
        answers_then (Kept b) _ (attempted (finalizer inner) u) _ (attempted_keeps (finalizer inner) finalizer_keeps b u k) (λ _ v j. j)))

module _ (known : KeepsBelow) (b : State) (s : State) (f : NothingLost b s) where
  handled_keeps : (b : State) (behind : Place) (t : State) → NothingLost b t → Answers (Kept b) (Lost b) (handled behind t)
  unfolding handled
  handled_keeps b behind t g = answers_if _ _ (is_handled behind) _ _ (λ _. g) (λ _. fault_keeps b t g (fault_at (begins_at behind) faults.TS1005))

  pub try_keeps : kind_at s.at ≡ kind.Try → Answers (Kept b) (Lost b) (try_stmt (known.inner nested_item) known.inner_pat s)
  unfolding try_stmt
  try_keeps e =
      let g = behind_after b s e refl f in
      answers_then _ _ (braced (known.inner nested_item) false (moved s)) _ (braced_keeps known b s f false (moved s) g) (λ x t k.
      answers_then _ _ (handler (known.inner nested_item) known.inner_pat t) _ (handler_keeps (known.inner nested_item) (known.below_stmt nested_item) known.inner_pat known.below_pat b t k) (λ y u j.
      answers_then _ _ (finalizer (known.inner nested_item) u) _ (finalizer_keeps (known.inner nested_item) (known.below_stmt nested_item) b u j) (λ z v l.
      answers_then _ _ (handled t.at v) _ (handled_keeps b t.at v l) (λ _ b a. a))))
