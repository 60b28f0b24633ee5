-- The items of a program that stand behind decorators, as their code meets them.
use Rattle.std.proofs.Common.{◌≡◌, ℕ, true, false, List, [], ◌∷◌, length, Ok, Err, refl, sym, ◌∙◌, ap}
use Rattle.std.specs.Prelude.{◌==◌}
use Rattle.swc_ecma_parser_error.specs.Kind.{Fault}
use Rattle.swc_ecma_parser_model.specs.Tree.{Tree}
use Rattle.swc_ecma_parser_reader.specs.Decorators.{Leading, has_any}
use Rattle.swc_ecma_parser_reader.specs.Reader.{items_turn, at_end}
use Rattle.swc_ecma_parser_reader.specs.State.{State, and_then, loop}
use Rattle.swc_ecma_parser_module_reader.specs.Modules.{module_item}
use Rattle.swc_ecma_parser_module_reader.specs.Programs.{first_behind, behind_front}

pub any_of : (ds : List Tree) → (length ds == 0) ≡ false → has_any ds ≡ true
any_of [] h = cc
any_of (d ∷ ds) h = refl

module _ (n : ℕ) (v : Leading) (s : State) (any : has_any v.found ≡ true) where
  led : behind_front n v s ≡ and_then (first_behind n v s) (λ x. loop (items_turn (module_item n) at_end true) (x ∷ []))
  unfolding behind_front
  led = rw any refl

  pub led_refused : (e : Fault × State) → first_behind n v s ≡ Err e → behind_front n v s ≡ Err e
  led_refused e h = led ∙ ap (λ o. and_then o (λ x. loop (items_turn (module_item n) at_end true) (x ∷ []))) h

  pub led_read : (x : Tree) (t : State) → first_behind n v s ≡ Ok (x, t) → (found : List Tree) → found ≡ x ∷ [] → (u : State) → u ≡ t
      → behind_front n v s ≡ loop (items_turn (module_item n) at_end true) found u
  led_read x t h found e u g =
      led ∙ ap (λ o. and_then o (λ y. loop (items_turn (module_item n) at_end true) (y ∷ []))) h ∙ ap (λ xs. loop (items_turn (module_item n) at_end true) xs t) (sym e)
      ∙ ap (λ w. loop (items_turn (module_item n) at_end true) found w) (sym g)
