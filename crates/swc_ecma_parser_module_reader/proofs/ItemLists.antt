-- What is said of a list of items, and of two together.
use Rattle.std.proofs.Common.{◌≡◌, Bool, true, false, List, [], ◌∷◌, ◌++◌, refl, sym, ◌∙◌, ap, append_assoc}
use Rattle.std.specs.Prelude.{◌||◌}
use Rattle.std.specs.List.{list_any}
use Rattle.swc_ecma_parser_model.specs.Kinds.{is_module_decl}
use Rattle.swc_ecma_parser_model.specs.Tree.{Tree, trees}
use Rattle.swc_ecma_parser_grammar.specs.Notes.{notes, all_notes}
use Rattle.swc_ecma_parser_grammar.specs.language.Noted.{has_meta, any_has_meta}
use Rattle.swc_ecma_parser_reader.proofs.Notes.{or_true, or_assoc}
use Rattle.swc_ecma_parser_module_reader.specs.ProgramEntry.{any_module_decl}

pub notes_joined : (xs ys : List Tree) → all_notes (trees (xs ++ ys)) ≡ all_notes (trees xs) ++ all_notes (trees ys)
notes_joined [] ys = refl
notes_joined (x ∷ xs) ys = ap (λ z. notes x ++ z) (notes_joined xs ys) ∙ sym (append_assoc (notes x) (all_notes (trees xs)) (all_notes (trees ys)))

pub meta_joined : (xs ys : List Tree) → any_has_meta (trees (xs ++ ys)) ≡ (any_has_meta (trees xs) || any_has_meta (trees ys))
meta_joined [] ys = refl
meta_joined (x ∷ xs) ys = ap (λ z. has_meta x || z) (meta_joined xs ys) ∙ sym (or_assoc (has_meta x) (any_has_meta (trees xs)) (any_has_meta (trees ys)))

pub declarations_joined : (xs ys : List Tree) → any_module_decl (trees (xs ++ ys)) ≡ (any_module_decl (trees xs) || any_module_decl (trees ys))
declarations_joined [] ys = refl
declarations_joined (x ∷ xs) ys = ap (λ z. is_module_decl x || z) (declarations_joined xs ys)
    ∙ sym (or_assoc (is_module_decl x) (any_module_decl (trees xs)) (any_module_decl (trees ys)))

-- the tests of the language are those of the trees
pub declarations_listed : (xs : List Tree) → list_any is_module_decl xs ≡ any_module_decl (trees xs)
declarations_listed [] = refl
declarations_listed (x ∷ xs) = ap (λ z. is_module_decl x || z) (declarations_listed xs)

pub meta_listed : (xs : List Tree) → list_any has_meta xs ≡ any_has_meta (trees xs)
meta_listed [] = refl
meta_listed (x ∷ xs) = ap (λ z. has_meta x || z) (meta_listed xs)

-- what makes two lists a module's, by what and by where
pub or_shift : (a b c d e : Bool) → ((a || (b || c)) || (d || e)) ≡ (a || ((b || d) || (c || e)))
or_shift true b c d e = refl
or_shift false true c d e = refl
or_shift false false true d e = sym (or_true d)
or_shift false false false d e = refl
