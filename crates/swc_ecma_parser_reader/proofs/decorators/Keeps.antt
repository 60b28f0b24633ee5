-- Decorators lose no token and no recorded fault, and pass no token that memory ran out for.
use Rattle.std.proofs.Common.{◌≡◌, true, false, [], refl, ap}
use Rattle.std.specs.Prelude.{◌||◌}
use Rattle.swc_ecma_parser_common.specs.declared.span.Span.{Span}
use Rattle.swc_ecma_parser_error.specs.Kind as faults
use Rattle.swc_ecma_parser_token.specs.declared.kind.TokenKind.TheVariants as kind
use Rattle.swc_ecma_parser_input.specs.Place.{after}
use Rattle.swc_ecma_parser_model.specs.Tree.{Tree}
use Rattle.swc_ecma_parser_grammar.specs.Looks.{kind_at, sees, span_at}
use Rattle.swc_ecma_parser_grammar.specs.language.Contexts.{with_in}
use Rattle.swc_ecma_parser_grammar.specs.language.Goals.{Class}
use Rattle.swc_ecma_parser_reader.specs.State.{State, Reader, moved, coded, within, fault_at, expect, name}
use Rattle.swc_ecma_parser_reader.specs.Expressions.{Cover, accessed, called}
use Rattle.swc_ecma_parser_reader.specs.Decorators.{chain_turn, chain_from, chain, behind_group, group, decorated, decorator, decorators_turn, decorators, Leading, found_before, leading, has_any, misplaced}
use Rattle.swc_ecma_parser_reader.proofs.Meets.{Answers, answers_then, answers_if, saw}
use Rattle.swc_ecma_parser_reader.proofs.Errors.{is_error}
use Rattle.swc_ecma_parser_reader.proofs.Behind.{NothingLost, Kept, Lost, Passes, flagged_kept, behind_seen, fault_keeps, fault_stays, expect_keeps, name_keeps, loop_keeps}
use Rattle.swc_ecma_parser_reader.proofs.expressions.Keeps.{accessed_keeps, called_keeps}

module _ (inner : Class → Reader Tree) (cover : Reader Cover) (below : (class : Class) → Passes (inner class)) (below_cover : Passes cover) where
  behind_group_keeps : (start : Span) (x : Tree) → Passes (behind_group inner cover start x)
  unfolding behind_group
  behind_group_keeps start x b s f = answers_if _ _ (sees kind.LParen s.at) _ _ (λ e. called_keeps inner cover below below_cover b start x s (saw s.at kind.LParen e) f) (λ _. f)

  chain_keeps : Passes (chain inner cover)
  unfolding chain chain_from chain_turn
  chain_keeps b s f = let start = span_at s.at in answers_then _ _ (name faults.ExpectedIdent s) _ (name_keeps b s f faults.ExpectedIdent) (λ i t g.
      loop_keeps (chain_turn inner cover start) b (λ x u k. answers_if _ _ (sees kind.Dot u.at) _ _
      (λ e. answers_then _ _ (accessed inner cover start x u) _ (accessed_keeps inner cover below below_cover b start x u (ap (λ z. z || sees kind.LBracket u.at) e) k) (λ y v j. j))
      (λ _. answers_if _ _ (sees kind.LParen u.at) _ _
      (λ e. answers_then _ _ (called inner cover start x u) _ (called_keeps inner cover below below_cover b start x u (saw u.at kind.LParen e) k) (λ y v j. j)) (λ _. k))) _ t g)

  module _ (whole : Reader Tree) (below_whole : Passes whole) where
    group_keeps : (b s : State) → sees kind.LParen s.at ≡ true → NothingLost b s → Answers (Kept b) (Lost b) (group inner cover whole s)
    unfolding group
    group_keeps b s e f = let t = moved s in let u = coded (with_in t.code) t in let k = behind_seen b s kind.LParen e refl f in
        answers_then (Kept b) _ (within with_in whole t) _ (answers_then (Kept b) _ (whole u) _ (below_whole b u k) (λ x v g. flagged_kept b t v k g)) (λ x v g.
        answers_then _ _ (expect kind.RParen v) _ (expect_keeps b v g kind.RParen refl) (λ _ w k. behind_group_keeps (span_at (after s.at)) x b w k))

    pub decorated_keeps : Passes (decorated inner cover whole)
    unfolding decorated
    decorated_keeps b s f = answers_if _ _ (sees kind.LParen s.at) _ _ (λ e. group_keeps b s e f) (λ _. chain_keeps b s f)

module _ (further : Reader Tree) (below : Passes further) where
  decorator_keeps : (b s : State) → sees kind.At s.at ≡ true → NothingLost b s → Answers (Kept b) (Lost b) (decorator further s)
  unfolding decorator
  decorator_keeps b s e f = answers_then _ _ (further (moved s)) _ (below b (moved s) (behind_seen b s kind.At e refl f)) (λ x t g. g)

  pub decorators_keep : Passes (decorators further)
  unfolding decorators decorators_turn
  decorators_keep b s f = answers_if _ _ s.code.setting.decorators _ _ (λ _. loop_keeps (decorators_turn further) b
      (λ found t g. answers_if _ _ (sees kind.At t.at) _ _ (λ e. answers_then _ _ (decorator further t) _ (decorator_keeps b t e g) (λ x u k. k)) (λ _. g)) [] s f) (λ _. f)

  pub leading_keeps : Passes (leading further)
  unfolding leading
  leading_keeps b s f = answers_then (Kept b) _ (decorators further s) _ (decorators_keep b s f) (λ xs t g. g)

pub misplaced_keeps : (v : Leading) → Passes (misplaced v)
unfolding misplaced
misplaced_keeps v b s f = answers_if _ _ (has_any v.found) _ _ (λ _. fault_keeps b (found_before v s) f (fault_at v.place faults.InvalidLeadingDecorator)) (λ _. f)

-- before what is no error token
pub misplaced_stays : (v : Leading) (b s : State) → is_error (kind_at s.at) ≡ false → NothingLost b s → Answers (λ _ t. NothingLost b t × (t.at ≡ s.at)) (Lost b) (misplaced v s)
unfolding misplaced
misplaced_stays v b s e f = answers_if _ _ (has_any v.found) _ _ (λ _. fault_stays b (found_before v s) f (fault_at v.place faults.InvalidLeadingDecorator) e) (λ _. (f, refl))
