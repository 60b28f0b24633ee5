-- A second `extends`.
use Rattle.std.proofs.Common.{◌≡◌, true, false, Ok, Err, refl, sym, ap, ◌∙◌}
use Rattle.swc_ecma_parser_error.specs.Kind as faults
use Rattle.swc_ecma_parser_error.specs.Kind.{Fault}
use Rattle.swc_ecma_parser_token.specs.declared.kind.TokenKind.TheVariants as kind
use Rattle.swc_ecma_parser_model.specs.Tree.{Tree}
use Rattle.swc_ecma_parser_grammar.specs.Looks.{sees, span_at}
use Rattle.swc_ecma_parser_reader.specs.State.{State, Reader, and_then, ◌>>=◌, ◌>>◌, moved, skip, fault, fault_at}
use Rattle.swc_ecma_parser_reader.specs.Members.{dropped, surplus}
use Rattle.swc_ecma_parser_reader.proofs.Meets.{Refuses, meant}

-- a token was taken
was_moved : (s m : State) (x : Unit {0}) → skip s ≡ Ok (x, m) → m ≡ moved s
was_moved s m x e = meant (λ _ u. u ≡ moved s) Refuses (skip s) (Ok (x, m)) e refl

module _ (heritage member : Reader Tree) (s : State) where
  pub surplus_none : sees kind.Extends s.at ≡ false → surplus heritage member s ≡ Ok (tt, s)
  unfolding surplus
  surplus_none h = rw h refl

  module _ (m : State) (x : Unit {0}) (begins : sees kind.Extends s.at ≡ true) (skipped : skip s ≡ Ok (x, m)) where
    surplus_by : surplus heritage member s ≡ and_then (fault (fault_at (span_at s.at) faults.TS1172) m) (λ _. dropped heritage)
    unfolding surplus
    surplus_by = rw begins (ap (λ w. and_then (fault (fault_at (span_at s.at) faults.TS1172) w) (λ _. dropped heritage)) (sym (was_moved s m x skipped)))

    pub surplus_err : (e : Fault × State) → fault (fault_at (span_at s.at) faults.TS1172) m ≡ Err e → surplus heritage member s ≡ Err e
    surplus_err e h = surplus_by ∙ ap (λ o. and_then o (λ _. dropped heritage)) h

    pub surplus_told : (t : State) → fault (fault_at (span_at s.at) faults.TS1172) m ≡ Ok (tt, t) → surplus heritage member s ≡ dropped heritage t
    surplus_told t h = surplus_by ∙ ap (λ o. and_then o (λ _. dropped heritage)) h
