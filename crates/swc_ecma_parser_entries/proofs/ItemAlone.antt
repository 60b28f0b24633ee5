-- One item by itself, as its code met it.
use Rattle.std.proofs.Common.{◌≡◌, ◌≢◌, ℕ, zero, suc, ◌-◌, ◌<◌, true, false, List, [], map, Result, Ok, Err, refl, sym, ◌∙◌, ap, subst, arith}
use Rattle.std.specs.Prelude.{IfErr}
use Rattle.swc_ecma_parser_error.specs.declared.error.Error.{Error}
use Rattle.swc_ecma_parser_error.specs.Kind.{Fault, fault_of, kind_of, OutOfMemory}
use Rattle.swc_ecma_parser_grammar.specs.Notes.{as_note}
use Rattle.swc_ecma_parser_model.specs.Tree.{Tree}
use Rattle.swc_ecma_parser_reader.specs.DecoratorLevels.{decorated_in}
use Rattle.swc_ecma_parser_reader.specs.Decorators.{Leading, leading}
use Rattle.swc_ecma_parser_reader.specs.State.{State, Outcome, GivesAs, too_deep}
use Rattle.swc_ecma_parser_reader.proofs.expressions.Loops.{deeper}
use Rattle.swc_ecma_parser_entries.specs.Refusals.{held_behind_list, item_held, list_held}
use Rattle.swc_ecma_parser_knot.proofs.Refusals.{too_deep_as}
use Rattle.swc_ecma_parser_module_reader.specs.Decorated.{begins_decorators}
use Rattle.swc_ecma_parser_module_reader.specs.Items.{begun_item, held_at, item_whole}
use Rattle.swc_ecma_parser_module_reader.specs.Modules.{item_behind, module_item}
use Rattle.swc_ecma_parser_module_reader.proofs.ItemCases.{with_held}
use Rattle.swc_ecma_parser_module_reader.proofs.ItemTurns.{alone_plain, alone_deep, alone_refused, alone_list}

above_none : (n : ℕ) → (n ≡ 0 → ⊥) → 0 < n
above_none zero h = absurd (h refl)
above_none (suc n) h = omega arith

module _ {X : Type 0} (view : X → Tree) (n : ℕ) (s : State) where
  -- the item, with what was recorded where module code began
  abbrev pub Alone : Result X Error → State → Type 0
  Alone result u =
      (recorded : List Fault) × GivesAs (λ x. (view x, map as_note recorded)) (item_whole n recorded s) result u
      × IfErr result (λ e. kind_of e.kind ≢ OutOfMemory → map as_note recorded ≡ item_held n s)

  -- of any refusal
  whatever : {P : Type 0} (result : Result X Error) → P → IfErr result (λ e. kind_of e.kind ≢ OutOfMemory → P)
  whatever (Ok x) p = tt
  whatever (Err e) p = λ m. p

  held_plain : begins_decorators s.code s.at ≡ false → item_held n s ≡ held_at s
  unfolding item_held
  held_plain b = rw b refl

  -- what begins in a state is answered
  begun_alone : (recorded : List Fault) (t : State) (o : Outcome Tree) → item_whole n recorded s ≡ with_held (held_at t) o → map as_note recorded ≡ held_at t
      → (result : Result X Error) (u : State) → GivesAs view o result u → GivesAs (λ x. (view x, map as_note recorded)) (item_whole n recorded s) result u
  begun_alone recorded t o e h (Ok x) u g = e ∙ ap (with_held (held_at t)) g ∙ ap (λ z. Ok ((view x, z), u)) (sym h)
  begun_alone recorded t o e h (Err f) u g = λ m. e ∙ ap (with_held (held_at t)) (g m)

  pub plain_alone : begins_decorators s.code s.at ≡ false → (recorded : List Fault) → map as_note recorded ≡ held_at s → (t : State) → t ≡ begun_item recorded s
      → (result : Result X Error) (u : State) → GivesAs view (module_item n t) result u → Alone result u
  plain_alone b recorded h t e result u g =
      (recorded, begun_alone recorded s _ (alone_plain n recorded s b) h result u (subst (λ z. GivesAs view (module_item n z) result u) e g), whatever result (h ∙ sym (held_plain b)))

  module _ (b : begins_decorators s.code s.at ≡ true) where
    held_of_list : item_held n s ≡ list_held n s
    unfolding item_held
    held_of_list = rw b refl

    held_above : 0 < n → item_held n s ≡ held_behind_list (leading (decorated_in (n - 1)) s)
    held_above l = held_of_list ∙ deeper (λ m. list_held m s) n l

    pub deep_alone : n ≡ 0 → (e : Error) (u : State) → (kind_of e.kind ≢ OutOfMemory → ◌≡◌ {A = Outcome Tree} (too_deep s) (Err (fault_of e, u))) → Alone (Err e) u
    deep_alone l e u h = ([], (λ m. alone_deep n [] s b l ∙ too_deep_as s (fault_of e, u) (h m)), λ m. sym (held_of_list ∙ ap (λ k. list_held k s) l))

    pub refused_alone : (n ≡ 0 → ⊥) → (e : Error) (u : State) → (kind_of e.kind ≢ OutOfMemory → leading (decorated_in (n - 1)) s ≡ Err (fault_of e, u)) → Alone (Err e) u
    refused_alone l e u h = ([], (λ m. alone_refused n [] s b (above_none n l) (fault_of e, u) (h m)), λ m. sym (held_above (above_none n l) ∙ ap held_behind_list (h m)))

    pub list_alone : (n ≡ 0 → ⊥) → (v : Leading) (t : State) → leading (decorated_in (n - 1)) s ≡ Ok (v, t) → (recorded : List Fault) → map as_note recorded ≡ held_at t
        → (w : State) → w ≡ begun_item recorded t → (result : Result X Error) (u : State) → GivesAs view (item_behind (n - 1) v w) result u → Alone result u
    list_alone l v t r recorded h w e result u g = (
      recorded,
      begun_alone recorded t _ (alone_list n recorded s b (above_none n l) v t r) h result u (subst (λ z. GivesAs view (item_behind (n - 1) v z) result u) e g),
      whatever result (h ∙ sym (held_above (above_none n l) ∙ ap held_behind_list r)),
    )
