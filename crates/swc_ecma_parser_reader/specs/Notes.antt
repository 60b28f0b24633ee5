-- What is noted while a tree is read, beside the faults that are recorded.
use Rattle.std.specs.Prelude.{Bool, false, ◌||◌, List, [], ◌++◌, map}
use Rattle.swc_ecma_parser_error.specs.declared.error.Error.{Error}
use Rattle.swc_ecma_parser_error.specs.Kind.{Fault, fault_of}
use Rattle.swc_ecma_parser_model.specs.Tree.{Tree, Trees}
use Rattle.swc_ecma_parser_grammar.specs.Notes.{notes, all_notes, as_note}
use Rattle.swc_ecma_parser_grammar.specs.language.Noted.{has_meta, any_has_meta}

-- The faults held back until the code is a module's, that of a `with` where it begins alone (`as_note`), and whether something
-- was read that makes a program a module.
pub record Notes : Type 0 where
  pub held_back : List Fault
  pub found_module_item : Bool

abbrev pub no_notes : Notes
no_notes = record { held_back = []; found_module_item = false }

-- errors that are held back, as notes
abbrev pub held_of : List Error → List Fault
held_of = map (λ e. as_note (fault_of e))

-- faults that are held back, and nothing else
abbrev pub held : List Fault → Notes
held fs = record { held_back = fs; found_module_item = false }

-- these, and then those
infixl 65 ◌⊕◌
abbrev pub ◌⊕◌ : Notes → Notes → Notes
m ⊕ n = record { held_back = m.held_back ++ n.held_back; found_module_item = m.found_module_item || n.found_module_item }

-- the notes of a tree
abbrev pub notes_of : Tree → Notes
notes_of x = record { held_back = notes x; found_module_item = has_meta x }

abbrev pub all_notes_of : Trees → Notes
all_notes_of xs = record { held_back = all_notes xs; found_module_item = any_has_meta xs }

-- the same where a statement of the top level begins with `await`, or none does
abbrev pub notes_with : Tree → (awaits : Bool) → Notes
notes_with x awaits = record { held_back = notes x; found_module_item = has_meta x || awaits }

abbrev pub all_notes_with : Trees → (awaits : Bool) → Notes
all_notes_with xs awaits = record { held_back = all_notes xs; found_module_item = any_has_meta xs || awaits }
