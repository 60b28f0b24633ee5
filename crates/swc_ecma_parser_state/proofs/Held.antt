-- A fault of module code, as the state shows it.
use Rattle.std.proofs.Common.{◌≡◌, Bool, true, false, cond, List, [], ◌∷◌, ◌++◌, Option, sym, ap, ◌∙◌}
use Rattle.std.proofs.lemmas.List.{map-append}
use Rattle.swc_ecma_parser_error.specs.declared.error.Error.{Error}
use Rattle.swc_ecma_parser_error.specs.Kind.{fault_of}
use Rattle.swc_ecma_parser_grammar.specs.Notes.{as_note}
use Rattle.swc_ecma_parser_input.specs.Buffered as buffered
use Rattle.swc_ecma_parser_input.specs.Buffered.{Buffered}
use Rattle.swc_ecma_parser_model.specs.Tree.{Text}
use Rattle.swc_ecma_parser_reader.specs.State.{noted, holding_back, module_fault}
use Rattle.swc_ecma_parser_reader.specs.declared.mark.Mark.{Mark}
use Rattle.swc_ecma_parser_state.specs.Contents.{seen}

module _ (labels : List Text) (found : Bool) (m : Option Mark) (f : Error) (b : Buffered) where
  holds_by : (k : Bool) → cond k (noted (fault_of f) (seen (record { buffer = b; labels = labels; found_module_item = found; mark = m }))) (holding_back (fault_of f) (seen (record { buffer = b; labels = labels; found_module_item = found; mark = m })))
      ≡ seen (record { buffer = cond k (buffered.recording f b) (record b { held_back = b.held_back ++ f ∷ [] }); labels = labels; found_module_item = found; mark = m })
  holds_by true = ap (λ fs. record (seen (record { buffer = b; labels = labels; found_module_item = found; mark = m })) { faults = fs }) (sym (map-append fault_of b.recorded (f ∷ [])))
  holds_by false =
      ap (λ hs. record (seen (record { buffer = b; labels = labels; found_module_item = found; mark = m })) { notes = record { held_back = hs; found_module_item = found } })
      (sym (map-append (λ e. as_note (fault_of e)) b.held_back (f ∷ [])))

  pub holds : (d : Buffered) → d ≡ buffered.holding_back f b
      → module_fault (fault_of f) (seen (record { buffer = b; labels = labels; found_module_item = found; mark = m })) ≡ seen (record { buffer = d; labels = labels; found_module_item = found; mark = m })
  holds d e = holds_by b.context.«module» ∙ ap (λ z. seen (record { buffer = z; labels = labels; found_module_item = found; mark = m })) (sym e)
