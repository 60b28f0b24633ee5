-- Decorators that nothing takes are recorded where they stand: no token is taken.
use Rattle.std.proofs.Common.{◌≡◌, false, refl}
use Rattle.swc_ecma_parser_error.specs.Kind as faults
use Rattle.swc_ecma_parser_token.specs.declared.kind.TokenKind.TheVariants as kind
use Rattle.swc_ecma_parser_token.specs.declared.kind.TokenKind.{TokenKind}
use Rattle.swc_ecma_parser_grammar.specs.Looks.{kind_at, sees, same_kind}
use Rattle.swc_ecma_parser_reader.specs.Decorators.{Leading, has_any, found_before, misplaced}
use Rattle.swc_ecma_parser_reader.specs.State.{State, fault_at}
use Rattle.swc_ecma_parser_reader.proofs.Errors.{is_error, fault_here}
use Rattle.swc_ecma_parser_reader.proofs.Meets.{Meets, meets_if}

-- unless an error token stands there
no_error : (j : TokenKind) → same_kind j kind.Error ≡ false → is_error j ≡ false
unfolding same_kind
no_error kind.Error h = cc
no_error _ h = refl

pub misplaced_stays : (v : Leading) (s : State) → sees kind.Error s.at ≡ false → Meets (λ _ t. t.at ≡ s.at) (misplaced v s)
unfolding misplaced
misplaced_stays v s h = meets_if _ (has_any v.found) _ _ (λ _. rw (fault_here (found_before v s) (fault_at v.place faults.InvalidLeadingDecorator) (no_error (kind_at s.at) h)) refl) (λ _. refl)
