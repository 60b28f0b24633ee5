-- The faults of what is declared before `in` and `of`, by how many variables there are.
use Rattle.std.proofs.Common.{◌≡◌, ◌<◌, Bool, List, [], ◌∷◌, length, get_or, map, refl, arith}
use Rattle.std.specs.Prelude.{◌&&◌}
use Rattle.std.specs.List.{between}
use Rattle.std.proofs.lemmas.Slice.{between_to_end}
use Rattle.swc_ecma_parser_common.specs.declared.span.Span.{Span}
use Rattle.swc_ecma_parser_error.specs.Kind as faults
use Rattle.swc_ecma_parser_model.specs.declared.leaves.VarDeclKind.{VarDeclKind}
use Rattle.swc_ecma_parser_model.specs.Forms.{span_of}
use Rattle.swc_ecma_parser_model.specs.Tree as tree
use Rattle.swc_ecma_parser_model.specs.Tree.{Tree, listed, trees}
use Rattle.swc_ecma_parser_model.specs.Within.{declared_name, is_initialized}
use Rattle.swc_ecma_parser_grammar.specs.Own.{only, surplus, head_faults}

module _ {D : Type 0} (refused : Bool) (span : Span) (word : VarDeclKind) (view : D → Tree) where
  abbrev declared : List D → Tree
  declared xs = tree.var span word (listed (map view xs))

  pub nothing_declared : (xs : List D) → length xs ≡ 0 → head_faults refused (declared xs) ≡ []
  nothing_declared [] e = refl
  nothing_declared (x ∷ xs) e = absurd (omega arith)

  pub one_declared : (xs : List D) (d : D) → length xs ≡ 1
      → head_faults refused (declared xs) ≡ only (refused && is_initialized (view (get_or xs 0 d))) faults.VarInitializerInForInHead (span_of (declared_name (view (get_or xs 0 d))))
  one_declared [] d e = absurd (omega arith)
  one_declared (x ∷ []) d e = refl
  one_declared (x ∷ y ∷ ys) d e = absurd (omega arith)

  pub many_declared : (xs : List D) → 1 < length xs → head_faults refused (declared xs) ≡ surplus (trees (map view (between 1 (length xs) xs)))
  many_declared [] e = absurd (omega arith)
  many_declared (x ∷ []) e = absurd (omega arith)
  many_declared (x ∷ y ∷ ys) e = let p : between 1 (length (x ∷ y ∷ ys)) (x ∷ y ∷ ys) ≡ y ∷ ys = between_to_end (x ∷ y ∷ ys) 1 (length (x ∷ y ∷ ys)) (omega arith) in rw p refl
