-- A program that is refused, by where it is, and what had been held back there.
use Rattle.std.proofs.Common.{◌≡◌, ℕ, false, List, [], ◌++◌, map, Option, Ok, Err, refl, sym, ◌∙◌}
use Rattle.std.specs.Prelude.{not, ◌&&◌}
use Rattle.swc_ecma_parser_error.specs.declared.error.Error.{Error}
use Rattle.swc_ecma_parser_error.specs.Kind.{Fault, fault_of}
use Rattle.swc_ecma_parser_model.specs.Tree.{Tree, Text}
use Rattle.swc_ecma_parser_grammar.specs.Notes.{as_note}
use Rattle.swc_ecma_parser_grammar.specs.language.Programs as programs
use Rattle.swc_ecma_parser_reader.specs.Reader.{at_end, shebang}
use Rattle.swc_ecma_parser_reader.specs.State.{State, Outcome, coded}
use Rattle.swc_ecma_parser_module_reader.specs.Programs.{Front, program_code, entered, items_from, behind_front, front}
use Rattle.swc_ecma_parser_module_reader.proofs.ProgramLoops.{refused_first, refused_before, refused_behind, whole_refused}
use Rattle.swc_ecma_parser_entries.specs.Refusals.{IsRefused, program_held}

module _ (n : ℕ) (s : State) where
  abbrev begun : State
  begun = coded (program_code s.code) s

  pub first_refuses : (e : Error) (t : State) → shebang begun ≡ Err (fault_of e, t) → IsRefused false programs.program n s e t
  unfolding program_held
  first_refuses e t h = ([], rw h refl, record { stopped = t; refused = whole_refused n [] s _ (refused_first n [] begun _ h); faults = λ k. refl })

  module _ (first : Option Text) (t : State) (h : shebang begun ≡ Ok (first, t)) where
    pub front_refuses : (e : Error) (u : State) → front n t ≡ Err (fault_of e, u) → IsRefused false programs.program n s e u
    unfolding program_held
    front_refuses e u g = ([], rw (h, g) refl, record { stopped = u; refused = whole_refused n [] s _ (refused_before n [] begun first t h _ g); faults = λ k. refl })

    -- where it is a module, from the state in which module code begins
    module _ (front_read : Front) (u : State) (g : front n t ≡ Ok (front_read, u)) (e : at_end u.at && not u.notes.found_module_item ≡ false) where
      held_is : program_held n s ≡ u.notes.held_back
      unfolding program_held
      held_is = rw (h, g, e) refl

      module _ (recorded : List Fault) (v : State) (enters : v ≡ entered recorded u) (noted : map as_note recorded ≡ u.notes.held_back) where
        pub items_refuse : (f : Error) (w : State) → items_from n front_read v ≡ Err (fault_of f, w) → IsRefused false programs.program n s f w
        items_refuse f w i = (
          recorded,
          noted ∙ sym held_is,
          record {
            stopped = w;
            refused = whole_refused n recorded s _ (refused_behind n recorded begun first t h front_read u g e _ (refused (behind_front n front_read.list (entered recorded u)) refl i));
            faults = λ k. refl;
          },
        )
          where
            refused : (o : Outcome (List Tree)) → behind_front n front_read.list (entered recorded u) ≡ o → items_from n front_read v ≡ Err (fault_of f, w)
                → behind_front n front_read.list (entered recorded u) ≡ Err (fault_of f, w)
            refused (Ok (behind, z)) k j = let q : items_from n front_read v ≡ Ok (front_read.before ++ behind, z) = rw (enters, k) refl in cc
            refused (Err p) k j = let q : items_from n front_read v ≡ Err p = rw (enters, k) refl in k ∙ cc
