-- The tokens up to an end, turn by turn.
use Rattle.std.proofs.Common.{◌≡◌, ◌≢◌, ℕ, suc, ◌+◌, ◌<◌, ◌≤◌, Bool, true, false, List, [], ◌∷◌, length, Ok, Err, refl, sym, ◌∙◌, ap, true≢false, arith}
use Rattle.std.specs.Prelude.{◌||◌}
use Rattle.swc_ecma_parser_error.specs.Kind.{Fault}
use Rattle.swc_ecma_parser_token.specs.declared.kind.TokenKind.TheVariants as kind
use Rattle.swc_ecma_parser_token.specs.declared.token.Token.{Token}
use Rattle.swc_ecma_parser_token.specs.declared.token.Token.TheVariants as token
use Rattle.swc_ecma_parser_token.specs.declared.token.TokenAndSpan.{TokenAndSpan}
use Rattle.swc_ecma_parser_input.specs.TokenSource.{means_out_of_memory}
use Rattle.swc_ecma_parser_input.specs.Place.{Place, after}
use Rattle.swc_ecma_parser_grammar.specs.Looks.{kind_at, sees, same_kind}
use Rattle.swc_ecma_parser_grammar.specs.Ends.{can_end}
use Rattle.swc_ecma_parser_grammar.proofs.Tests.{or_no}
use Rattle.swc_ecma_parser_reader.specs.State.{State, moved, loop}
use Rattle.swc_ecma_parser_reader.specs.Recovery.{passed_at, passed_in, any_token, behind_any, end_turn}
use Rattle.swc_ecma_parser_reader.proofs.Meets.{Meets, Refuses, meant, meets_if}
use Rattle.swc_ecma_parser_reader.proofs.Steps.{loop_more, loop_done, loop_err}
use Rattle.swc_ecma_parser_reader.proofs.Takes.{takes}
use Rattle.swc_ecma_parser_reader.proofs.expressions.CompleteKinds.{seen}

-- where a declaration cannot end a token stands
token_stands : (c : Place) → can_end c ≡ false → kind_at c ≢ kind.End
unfolding can_end same_kind
token_stands c h e = true≢false (sym (seen c kind.End e) ∙ (or_no (sees kind.End c) _ h).0)

few_at : (s : State) (t : Token) → Meets (λ _ u. length u.at.left ≤ length (after s.at).left) (passed_at s t)
few_at s (token.Error e) = meets_if _ (means_out_of_memory e.kind) _ _ (λ _. tt) (λ _. omega arith)
few_at s _ = omega arith

few_in : (s : State) (ts : List TokenAndSpan) → s.at.left ≡ ts → Meets (λ _ u. length u.at.left ≤ length (after s.at).left) (passed_in s ts)
few_in s [] q = let e : length s.at.left ≡ 0 = ap length q in omega arith
few_in s (t ∷ ts) q = few_at s t.token

any_few : (s : State) → Meets (λ _ u. length u.at.left ≤ length (after s.at).left) (any_token s)
unfolding any_token
any_few s = few_in s s.at.left refl

-- and it is taken
pub any_shorter : (s : State) (x : Unit {0}) (t : State) → can_end s.at ≡ false → any_token s ≡ Ok (x, t) → length t.at.left < length s.at.left
any_shorter s x t h e =
    let k : length t.at.left ≤ length (after s.at).left = meant (λ _ u. length u.at.left ≤ length (after s.at).left) Refuses (any_token s) (Ok (x, t)) e (any_few s) in
    let g = takes s.at (token_stands s.at h) in omega arith

module _ (x : Unit {0}) (s : State) where
  pub end_semicolon : sees kind.Semi s.at ≡ true → loop end_turn x s ≡ Ok (tt, moved s)
  unfolding end_turn
  end_semicolon h = loop_done end_turn x tt s (moved s) (rw h refl)

  pub end_here : sees kind.Semi s.at ≡ false → can_end s.at ≡ true → loop end_turn x s ≡ Ok (tt, s)
  unfolding end_turn
  end_here h e = loop_done end_turn x tt s s (rw (h, e) refl)

  module _ (h : sees kind.Semi s.at ≡ false) (e : can_end s.at ≡ false) where
    pub end_refused : (f : Fault × State) → any_token s ≡ Err f → loop end_turn x s ≡ Err f
    unfolding end_turn
    end_refused f g = loop_err end_turn x s f (rw (h, e, g) refl)

    pub end_before_error : (y : Unit {0}) (t : State) → any_token s ≡ Ok (y, t) → sees kind.Error t.at ≡ true → loop end_turn x s ≡ Ok (tt, t)
    unfolding end_turn behind_any
    end_before_error y t g i = loop_done end_turn x tt s t (rw (h, e, g, i) refl)

    pub end_more : (y : Unit {0}) (t : State) → any_token s ≡ Ok (y, t) → sees kind.Error t.at ≡ false → loop end_turn x s ≡ loop end_turn tt t
    unfolding end_turn behind_any
    end_more y t g i = loop_more end_turn x tt s t (rw (h, e, g, i) refl) (any_shorter s y t e g)
