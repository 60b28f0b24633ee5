-- Lines of lists, one behind another.
use Rattle.std.proofs.Common.{◌≡◌, ℕ, List, [], ◌∷◌, ◌++◌, map, refl, ap}
use Rattle.std.specs.List.{flat_map}
use Rattle.swc_ecma_parser_model.specs.Held.{Held}
use Rattle.swc_ecma_parser_model.specs.Tree.{trees}
use Rattle.swc_ecma_parser_ast.specs.declared.program.ModuleItem.{ModuleItem}
use Rattle.swc_ecma_parser_ast.specs.declared.stmt.Stmt.{Stmt}
use Rattle.swc_ecma_parser_ast.specs.View.{view_module_item, view_stmt}
use Rattle.ecma_report.specs.Lines.{item_line, item_lines}

pub item_lines_listed : (xs : List (Stmt Held)) → item_lines (trees (map view_stmt xs)) ≡ flat_map (λ item. item_line (view_stmt item)) xs
item_lines_listed [] = refl
item_lines_listed (x ∷ xs) = ap (λ l. item_line (view_stmt x) ++ l) (item_lines_listed xs)

pub module_lines_listed : (xs : List (ModuleItem Held)) → item_lines (trees (map view_module_item xs)) ≡ flat_map (λ item. item_line (view_module_item item)) xs
module_lines_listed [] = refl
module_lines_listed (x ∷ xs) = ap (λ l. item_line (view_module_item x) ++ l) (module_lines_listed xs)

pub flat_map_map : {A B : Type 0} (f : B → List ℕ) (g : A → B) (xs : List A) → flat_map f (map g xs) ≡ flat_map (λ x. f (g x)) xs
flat_map_map f g [] = refl
flat_map_map f g (x ∷ xs) = ap (λ l. f (g x) ++ l) (flat_map_map f g xs)
