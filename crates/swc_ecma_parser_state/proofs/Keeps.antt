-- What a call keeps of the source, step by step.
use Rattle.std.proofs.Common.{◌≡◌, List, [], ◌++◌, refl, sym, ap, ◌∙◌, append-nil, append_assoc}
use Rattle.swc_ecma_parser_error.specs.declared.error.Error.{Error}
use Rattle.swc_ecma_parser_input.specs.TokenSource.{TokenSource}
use Rattle.swc_ecma_parser_state.specs.Keeps.{Begins, KeepsHeld, stays_held, was_recorded, Keeps}

begins_self : (es : List Error) → Begins es es
begins_self es = ([], sym (append-nil es))

others_more : (es fs gs : List Error) (h : Begins es fs) → fs ++ gs ≡ es ++ (h.0 ++ gs)
others_more es fs gs h = ap (λ z. z ++ gs) h.1 ∙ append_assoc es h.0 gs

more_behind : (es before recorded behind fs gs : List Error) → fs ≡ es ++ (before ++ recorded ++ behind) → fs ++ gs ≡ es ++ (before ++ recorded ++ (behind ++ gs))
more_behind es before recorded behind fs gs h =
    ap (λ z. z ++ gs) h ∙ append_assoc es (before ++ recorded ++ behind) gs
    ∙ ap (λ z. es ++ z) (append_assoc (before ++ recorded) behind gs)

module _ (s : TokenSource) where
  pub keeps_self : Keeps s s
  keeps_self = record { start = refl; syntax = refl; recorded = begins_self s.recorded; held = stays_held (begins_self s.held_back) }

  held_recorded : (t u : TokenSource) (gs : List Error) → u.recorded ≡ t.recorded ++ gs → u.held_back ≡ t.held_back → KeepsHeld s t → KeepsHeld s u
  held_recorded t u gs e f (stays_held h) = stays_held (h.0, f ∙ h.1)
  held_recorded t u gs e f (was_recorded before recorded behind h g) =
      was_recorded before recorded (behind ++ gs) (e ∙ more_behind s.recorded before recorded behind t.recorded gs h) g

  held_later : (t u : TokenSource) (gs : List Error) → u.recorded ≡ t.recorded → u.held_back ≡ t.held_back ++ gs → KeepsHeld s t → KeepsHeld s u
  held_later t u gs e f (stays_held h) = stays_held (h.0 ++ gs, f ∙ others_more s.held_back t.held_back gs h)
  held_later t u gs e f (was_recorded before recorded behind h g) = was_recorded before recorded behind (e ∙ h) g

  held_released : (t u : TokenSource) → u.recorded ≡ t.recorded ++ t.held_back → Begins s.recorded t.recorded → KeepsHeld s t → KeepsHeld s u
  held_released t u e b (stays_held h) =
      was_recorded b.0 t.held_back [] (e ∙ others_more s.recorded t.recorded t.held_back b ∙ ap (λ z. s.recorded ++ z) (sym (append-nil (b.0 ++ t.held_back)))) h
  held_released t u e b (was_recorded before recorded behind h g) =
      was_recorded before recorded (behind ++ t.held_back) (e ∙ more_behind s.recorded before recorded behind t.recorded t.held_back h) g

  module _ (t u : TokenSource) (start : u.start ≡ t.start) (syntax : u.syntax ≡ t.syntax) (h : Keeps s t) where
    pub keeps_recorded : (gs : List Error) → u.recorded ≡ t.recorded ++ gs → u.held_back ≡ t.held_back → Keeps s u
    keeps_recorded gs e f = record {
      start = start ∙ h.start;
      syntax = syntax ∙ h.syntax;
      recorded = (h.recorded.0 ++ gs, e ∙ others_more s.recorded t.recorded gs h.recorded);
      held = held_recorded t u gs e f h.held;
    }

    pub keeps_held : (gs : List Error) → u.recorded ≡ t.recorded → u.held_back ≡ t.held_back ++ gs → Keeps s u
    keeps_held gs e f = record {
      start = start ∙ h.start;
      syntax = syntax ∙ h.syntax;
      recorded = (h.recorded.0, e ∙ h.recorded.1);
      held = held_later t u gs e f h.held;
    }

    pub keeps_released : u.recorded ≡ t.recorded ++ t.held_back → Keeps s u
    keeps_released e = record {
      start = start ∙ h.start;
      syntax = syntax ∙ h.syntax;
      recorded = (h.recorded.0 ++ t.held_back, e ∙ others_more s.recorded t.recorded t.held_back h.recorded);
      held = held_released t u e h.recorded h.held;
    }

  pub keeps_alike : (t u : TokenSource) → u.start ≡ t.start → u.syntax ≡ t.syntax → u.recorded ≡ t.recorded → u.held_back ≡ t.held_back → Keeps s t → Keeps s u
  keeps_alike t u start syntax e f h = keeps_recorded t u start syntax h [] (e ∙ sym (append-nil t.recorded)) f
