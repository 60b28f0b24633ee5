-- One item of a module by itself, as its code meets it.
use Rattle.std.proofs.Common.{◌≡◌, ℕ, ◌-◌, ◌<◌, true, false, List, Ok, Err, refl, ◌∙◌, ap}
use Rattle.swc_ecma_parser_error.specs.Kind.{Fault}
use Rattle.swc_ecma_parser_model.specs.Tree.{Tree}
use Rattle.swc_ecma_parser_reader.specs.DecoratorLevels.{decorated_in}
use Rattle.swc_ecma_parser_reader.specs.Decorators.{Leading, leading}
use Rattle.swc_ecma_parser_reader.specs.State.{State, Outcome, and_then, too_deep}
use Rattle.swc_ecma_parser_reader.proofs.expressions.Loops.{deeper}
use Rattle.swc_ecma_parser_module_reader.specs.Decorated.{begins_decorators}
use Rattle.swc_ecma_parser_module_reader.specs.Items.{begun_item, held_at, begun, decorated_alone, item_whole}
use Rattle.swc_ecma_parser_module_reader.specs.Modules.{item_behind, module_item}
use Rattle.swc_ecma_parser_module_reader.proofs.ItemCases.{with_held}

module _ (n : ℕ) (recorded : List Fault) (s : State) where
  -- without decorators
  pub alone_plain : begins_decorators s.code s.at ≡ false → item_whole n recorded s ≡ with_held (held_at s) (module_item n (begun_item recorded s))
  unfolding item_whole begun
  alone_plain b = rw b refl

  -- with them, in so many levels
  module _ (b : begins_decorators s.code s.at ≡ true) where
    alone_decorated : item_whole n recorded s ≡ decorated_alone n recorded s
    unfolding item_whole
    alone_decorated = rw b refl

    pub alone_deep : n ≡ 0 → ◌≡◌ {A = Outcome (Tree × List Fault)} (item_whole n recorded s) (too_deep s)
    unfolding decorated_alone
    alone_deep e = alone_decorated ∙ ap (λ m. decorated_alone m recorded s) e

    alone_above : 0 < n → item_whole n recorded s ≡ and_then (leading (decorated_in (n - 1)) s) (λ v. begun recorded (item_behind (n - 1) v))
    unfolding decorated_alone
    alone_above h = alone_decorated ∙ deeper (λ m. decorated_alone m recorded s) n h

    pub alone_refused : 0 < n → (e : Fault × State) → leading (decorated_in (n - 1)) s ≡ Err e → item_whole n recorded s ≡ Err e
    alone_refused h e g = alone_above h ∙ ap (λ o. and_then o (λ v. begun recorded (item_behind (n - 1) v))) g

    pub alone_list : 0 < n → (v : Leading) (t : State) → leading (decorated_in (n - 1)) s ≡ Ok (v, t) → item_whole n recorded s ≡ with_held (held_at t) (item_behind (n - 1) v (begun_item recorded t))
    unfolding begun
    alone_list h v t g = alone_above h ∙ ap (λ o. and_then o (λ w. begun recorded (item_behind (n - 1) w))) g
