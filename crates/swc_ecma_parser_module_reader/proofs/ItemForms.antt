-- Where an import or an export begins one is read, whatever was recorded, and its walk is that of module code.
use Rattle.std.proofs.Common.{◌≡◌, ℕ, zero, suc, Bool, true, false, List, [], ◌∷◌, ◌++◌, refl, sym, ◌∙◌, ap, subst, codes}
use Rattle.std.specs.Prelude.{◌||◌, ◌&&◌}
use Rattle.swc_ecma_parser_common.specs.declared.span.Span.{Span}
use Rattle.swc_ecma_parser_error.specs.Kind as faults
use Rattle.swc_ecma_parser_token.specs.declared.kind.TokenKind.TheVariants as kind
use Rattle.swc_ecma_parser_input.specs.Place.{after}
use Rattle.swc_ecma_parser_model.specs.declared.leaves.ImportPhase.{ImportPhase}
use Rattle.swc_ecma_parser_model.specs.declared.leaves.ImportPhase.TheVariants as phase
use Rattle.swc_ecma_parser_model.specs.declared.leaves.VarDeclKind.TheVariants as decl
use Rattle.swc_ecma_parser_model.specs.Kinds.{is_module_decl}
use Rattle.swc_ecma_parser_model.specs.Tree as tree
use Rattle.swc_ecma_parser_model.specs.Tree.{Tree, listed, trees}
use Rattle.swc_ecma_parser_model.specs.Forms.{span_of}
use Rattle.swc_ecma_parser_grammar.specs.Looks.{sees, span_at}
use Rattle.swc_ecma_parser_grammar.specs.Names.{name_at}
use Rattle.swc_ecma_parser_grammar.specs.Follows.{word_at, is_let_declaration}
use Rattle.swc_ecma_parser_grammar.specs.Own.{export_faults}
use Rattle.swc_ecma_parser_grammar.specs.Walk as walks
use Rattle.swc_ecma_parser_grammar.specs.Walk.{Env, walk}
use Rattle.swc_ecma_parser_grammar.specs.language.Items.{nested_item}
use Rattle.swc_ecma_parser_grammar.specs.language.Contexts.{with_in}
use Rattle.swc_ecma_parser_grammar.specs.language.Goals.{assignment, left_side}
use Rattle.swc_ecma_parser_grammar.specs.language.Imports.{follows_phase}
use Rattle.swc_ecma_parser_reader.specs.DecoratorLevels.{decorated_in}
use Rattle.swc_ecma_parser_reader.specs.Decorators.{Leading, leading, has_any, misplaced}
use Rattle.swc_ecma_parser_reader.specs.Jumps.{told}
use Rattle.swc_ecma_parser_reader.specs.Members.{class_expr, class_decl}
use Rattle.swc_ecma_parser_reader.specs.Methods.{star}
use Rattle.swc_ecma_parser_reader.specs.Reader as reader
use Rattle.swc_ecma_parser_reader.specs.Reader.{expr, pattern, member, stmt, object_alone, variables, function_decl, function_parts, function_word}
use Rattle.swc_ecma_parser_reader.specs.State.{State, Reader, moved, within, name, end}
use Rattle.swc_ecma_parser_reader.specs.Words.{any_word}
use Rattle.swc_ecma_parser_reader.proofs.Meets.{Meets, always, meets_then, meets_if, too_deep_meets, refuse_meets}
use Rattle.swc_ecma_parser_reader.proofs.expressions.SoundSteps.{meets_as, reject_meets}
use Rattle.swc_ecma_parser_module_reader.specs.Exports.{export_specifier, export_namespace, names_from, own_names, export_names, more_names, namespace_names, export_all, export_star, is_namespace_next, behind_default, is_name_from, name_from, is_default_from, default_from, default_name, default_function, default_expr, begins_default_function, exported_function, exported_class, default_rest, export_default, exported, export_rest, export_named}
use Rattle.swc_ecma_parser_module_reader.specs.Decorated.{with_decorators, none_before, begins_decorators, no_leading, later_alone, later, decorating, by_default, named_with, default_with, behind_export, behind_default_word, export_from, export_item}
use Rattle.swc_ecma_parser_module_reader.specs.Imports.{source, str, attributes, specifiers, default_binding, import_clause, imported, import_from, phase_of, import_phased, is_phase_word, import_decl, begins_clause, import_unphased}
use Rattle.swc_ecma_parser_module_reader.specs.Modules.{begins_import, import_in, export_in, module_item}
use Rattle.swc_ecma_parser_module_reader.specs.Programs.{begins_module}
use Rattle.swc_ecma_parser_module_reader.proofs.DecoratedForms.{IsName, absent_name, Takes, IsFunction, fn_expr_takes, behind_walk}
use Rattle.swc_ecma_parser_module_reader.proofs.SoundExported.{variables_sound, named_plain, parts_form, decl_takes, declared_takes, as_expression_takes}

-- an import or an export, whose walk is that of module code
abbrev pub IsDeclaration : Tree → Type 0
IsDeclaration x = (is_module_decl x ≡ true) × ((env : Env) → walk (walks.env_in_module env) x ≡ walk env x)

abbrev Declared : Tree → State → Type 0
Declared x t = IsDeclaration x

-- ---- imports

module _ (object : Reader Tree) where
  imported_form : (start : Span) (p : ImportPhase) (xs : List Tree) (from : Reader Tree) (s : State) → Meets Declared (imported object start p xs from s)
  unfolding imported
  imported_form start p xs from s = always _ (from s) _ (λ y t. always _ (attributes object t) _ (λ _ u. always _ (end faults.Expected u) _ (λ _ v. (refl, λ env. refl))))

  import_from_form : (start : Span) (p : ImportPhase) (s : State) → Meets Declared (import_from object start p s)
  unfolding import_from
  import_from_form start p s = always _ (import_clause s) _ (λ xs t. imported_form start p xs source t)

  import_phased_form : (start : Span) (s : State) → Meets Declared (import_phased object start s)
  unfolding import_phased
  import_phased_form start s = always _ (any_word s) _ (λ i t. meets_if _ (follows_phase t.code t.at) _ _ (λ _. import_from_form start (phase_of i.sym) t)
      (λ _. always _ (default_binding i t) _ (λ xs u. imported_form start phase.Evaluation xs source u)))

  import_unphased_form : (start : Span) (s : State) → Meets Declared (import_unphased object start s)
  unfolding import_unphased
  import_unphased_form start s = meets_if _ (begins_clause s.code s.at) _ _ (λ _. import_from_form start phase.Evaluation s) (λ _. refuse_meets _ faults.Expected s)

  import_form : (s : State) → Meets Declared (import_decl object s)
  unfolding import_decl
  import_form s = meets_if _ (sees kind.Str (after s.at)) _ _ (λ _. imported_form (span_at s.at) phase.Evaluation [] str (moved s))
      (λ _. meets_if _ (is_phase_word (after s.at)) _ _ (λ _. import_phased_form (span_at s.at) (moved s)) (λ _. import_unphased_form (span_at s.at) (moved s)))

-- ---- names that are exported

module _ (object : Reader Tree) where
  names_from_form : (start : Span) (xs : List Tree) (s : State) → Meets Declared (names_from object start xs s)
  unfolding names_from
  names_from_form start xs s = always _ (source s) _ (λ y t. always _ (attributes object t) _ (λ _ u. always _ (end faults.Expected u) _ (λ _ v. (refl, λ env. refl))))

  own_names_form : (start : Span) (xs : List Tree) (s : State) → Meets Declared (own_names start xs s)
  unfolding own_names
  own_names_form start xs s = always _ (told (export_faults tree.absent (listed xs)) s) _ (λ _ t. always _ (end faults.Expected t) _ (λ _ u. (refl, λ env. refl)))

  export_names_form : (start : Span) (xs : List Tree) (s : State) → Meets Declared (export_names object start xs s)
  unfolding export_names
  export_names_form start xs s = always _ (specifiers export_specifier s) _ (λ ys t. meets_if _ (word_at (codes "from") t.at) _ _ (λ _.
      names_from_form start (xs ++ ys) t) (λ _. own_names_form start (xs ++ ys) t))

  more_names_form : (start : Span) (xs : List Tree) (s : State) → Meets Declared (more_names object start xs s)
  unfolding more_names
  more_names_form start xs s = meets_if _ (s.code.setting.export_default_from && sees kind.Comma s.at) _ _ (λ _. export_names_form start xs (moved s)) (λ _.
      names_from_form start xs s)

  namespace_names_form : (start first : Span) (xs : List Tree) (s : State) → Meets Declared (namespace_names object start first xs s)
  unfolding namespace_names
  namespace_names_form start first xs s = always _ (export_namespace first s) _ (λ x t. more_names_form start (xs ++ x ∷ []) t)

  export_all_form : (start : Span) (s : State) → Meets Declared (export_all object start s)
  unfolding export_all
  export_all_form start s = always _ (source s) _ (λ y t. always _ (attributes object t) _ (λ _ u. always _ (end faults.Expected u) _ (λ _ v. (refl, λ env. refl))))

  export_star_form : (start : Span) (s : State) → Meets Declared (export_star object start s)
  unfolding export_star
  export_star_form start s = meets_if _ (word_at (codes "as") (after s.at)) _ _ (λ _. namespace_names_form start (span_at s.at) [] (moved s)) (λ _. export_all_form start (moved s))

  behind_default_form : (start first : Span) (x : Tree) (s : State) → Meets Declared (behind_default object start first x s)
  unfolding behind_default
  behind_default_form start first x s = meets_if _ (is_namespace_next s.at) _ _ (λ _. namespace_names_form start first (x ∷ []) (moved (moved s))) (λ _.
      more_names_form start (x ∷ []) s)

  name_from_form : (start : Span) (s : State) → Meets Declared (name_from object start s)
  unfolding name_from
  name_from_form start s = always _ (name faults.ExpectedIdent s) _ (λ i t. behind_default_form start (span_at s.at) (tree.export_default (tree.ident i.span i.sym)) t)

-- ---- what is exported

-- its export walks it as module code
abbrev IsBare : Tree → Type 0
IsBare x = (env : Env) (s : Span) → walks.walk_exported env s (walk (walks.env_in_module env) x) x ≡ walk (walks.env_in_module env) x

bare_stays : (x : Tree) → IsBare x → (env : Env) (s : Span)
    → walks.walk_exported (walks.env_in_module env) s (walk (walks.env_in_module env) x) x ≡ walks.walk_exported env s (walk (walks.env_in_module env) x) x
bare_stays x h env s = h (walks.env_in_module env) s ∙ sym (h env s)

-- and so it does with decorators behind its words
takes_stays : (x : Tree) → Takes x → (ds : List Tree) (env : Env) (s : Span) → none_before s.lo (trees ds) ≡ true
    → walks.walk_exported (walks.env_in_module env) s (walk (walks.env_in_module env) (with_decorators ds x)) (with_decorators ds x)
    ≡ walks.walk_exported env s (walk (walks.env_in_module env) (with_decorators ds x)) (with_decorators ds x)
takes_stays x f ds env s h =
    f.walked ds (walks.env_in_module env) s ∙ ap (λ z. z ++ walk (walks.env_in_module env) x) (behind_walk (walks.env_in_module env) s ds h ∙ sym (behind_walk env s ds h)) ∙ sym (f.walked ds env s)

bare_takes : (x : Tree) → Takes x → (env : Env) (s : Span)
    → walks.walk_exported (walks.env_in_module env) s (walk (walks.env_in_module env) x) x ≡ walks.walk_exported env s (walk (walks.env_in_module env) x) x
bare_takes x f env s =
    subst (λ y. walks.walk_exported (walks.env_in_module env) s (walk (walks.env_in_module env) y) y ≡ walks.walk_exported env s (walk (walks.env_in_module env) y) y) f.bare (takes_stays x f [] env s refl)

module _ (inner : Reader Tree) (params : Reader (List Tree)) where
  default_name_form : (s : State) → Meets (λ i t. IsName i) (default_name s)
  unfolding default_name
  default_name_form s = meets_if _ (name_at s.code.flags s.at) _ _ (λ _. named_plain s) (λ _. absent_name)

  default_function_form : (s : State) → Meets (λ x t. Takes x) (default_function inner params s)
  unfolding default_function
  default_function_form s = always _ (function_word s) _ (λ w t. always _ (star t) _ (λ g u. meets_then {P = λ i _. IsName i} _ (default_name u) _ (default_name_form u) (λ i v h.
      meets_then {P = λ x _. IsFunction x} _ (function_parts inner params w g (span_at s.at) v) _ (parts_form inner params w g (span_at s.at) v) (λ x z f. fn_expr_takes (span_of x) i x h f))))

-- ---- exports

module _ (n : ℕ) where
  abbrev inner : Reader Tree
  inner = stmt n nested_item

  abbrev params : Reader (List Tree)
  params = reader.parameters n

  default_expr_form : (start : Span) (s : State) → Meets Declared (default_expr (expr n) start s)
  unfolding default_expr
  default_expr_form start s = always _ (within with_in (expr n assignment) s) _ (λ x t. always _ (end faults.Expected t) _ (λ _ u. (refl, λ env. refl)))

  default_rest_form : (start first : Span) (s : State) → Meets Declared (default_rest inner (expr n) (pattern n) params (member n) (object_alone n) start first s)
  unfolding default_rest default_from
  default_rest_form start first s =
      meets_if _ (is_default_from s.code s.at) _ _ (λ _. behind_default_form (object_alone n) start first (tree.export_default (tree.ident first (codes "default"))) s) (λ _. default_expr_form start s)

  -- a class, and a function
  class_form : (s : State) → Meets (λ x t. Takes x) (class_expr (expr n left_side) (member n) s)
  class_form s = let p = class_expr (expr n left_side) (member n) s in meets_as p (as_expression_takes (expr n left_side) (member n) s) (λ x t h. h.0)

  export_default_form : (start first : Span) (s : State) → Meets Declared (export_default inner (expr n) (pattern n) params (member n) (object_alone n) start first s)
  unfolding export_default exported_class exported_function
  export_default_form start first s =
      meets_if _ (sees kind.Class s.at) _ _ (λ _. meets_then {P = λ x t. Takes x} _ (class_expr (expr n left_side) (member n) s) _ (class_form s) (λ x t h. (refl, λ env. bare_takes x h env _)))
      (λ _. meets_if _ (begins_default_function s.at) _ _
      (λ _. meets_then {P = λ x t. Takes x} _ (default_function inner params s) _ (default_function_form inner params s) (λ x t h. (refl, λ env. bare_takes x h env _)))
      (λ _. default_rest_form start first s))

  exported_form : (start : Span) (declaration : Reader Tree) (s : State) → Meets (λ x t. IsBare x) (declaration s)
      → Meets Declared (exported inner (expr n) (pattern n) params (member n) start declaration s)
  unfolding exported
  exported_form start declaration s p = meets_then {P = λ x t. IsBare x} _ (declaration s) _ p (λ x t h. (refl, λ env. bare_stays x h env _))

  plain_form : (start : Span) (declaration : Reader Tree) (s : State) → Meets (λ x t. Takes x) (declaration s)
      → Meets Declared (exported inner (expr n) (pattern n) params (member n) start declaration s)
  unfolding exported
  plain_form start declaration s p = meets_then {P = λ x t. Takes x} _ (declaration s) _ p (λ x t h. (refl, λ env. bare_takes x h env _))

  export_rest_form : (start : Span) (s : State) → Meets Declared (export_rest inner (expr n) (pattern n) params (member n) (object_alone n) start s)
  unfolding export_rest
  export_rest_form w b =
      meets_if _ (sees kind.LBrace b.at) _ _ (λ _. export_names_form (object_alone n) w [] b)
      (λ _. meets_if _ (sees kind.Mul b.at) _ _ (λ _. export_star_form (object_alone n) w b)
      (λ _. meets_if _ (sees kind.Var b.at) _ _
      (λ h. exported_form w (variables (expr n) (pattern n) decl.Var) b (meets_as (variables (expr n) (pattern n) decl.Var b) (variables_sound n decl.Var b h) (λ x t p. p.1)))
      (λ _. meets_if _ (sees kind.Const b.at) _ _
      (λ h. exported_form w (variables (expr n) (pattern n) decl.Const) b (meets_as (variables (expr n) (pattern n) decl.Const b) (variables_sound n decl.Const b h) (λ x t p.
      p.1)))
      (λ _. meets_if _ (is_let_declaration b.at) _ _
      (λ h. exported_form w (variables (expr n) (pattern n) decl.Let) b (meets_as (variables (expr n) (pattern n) decl.Let b) (variables_sound n decl.Let b h) (λ x t p. p.1)))
      (λ _. meets_if _ (is_name_from b.code b.at) _ _ (λ _. name_from_form (object_alone n) w b) (λ _. refuse_meets _ faults.Expected b))))))

  export_named_form : (start : Span) (s : State) → Meets Declared (export_named inner (expr n) (pattern n) params (member n) (object_alone n) start s)
  unfolding export_named
  export_named_form w b =
      meets_if _ (sees kind.Class b.at) _ _ (λ _. plain_form w (class_decl (expr n left_side) (member n)) b (declared_takes (expr n left_side) (member n) b))
      (λ _. meets_if _ (begins_default_function b.at) _ _ (λ _. plain_form w (function_decl inner params) b (decl_takes inner params b)) (λ _. export_rest_form w b))

  -- ---- with decorators behind the words

  abbrev IsLater : Span → Leading → State → Type 0
  IsLater start r t = none_before start.lo (trees r.found) ≡ true

  later_alone_form : (start : Span) (v w : Leading) (t : State) → Meets (λ _ u. none_before start.lo (trees w.found) ≡ true) (later_alone start v w t)
  unfolding later_alone
  later_alone_form start v w t =
      meets_if _ (sees kind.Export t.at) _ _ (λ _. reject_meets _ _ t)
      (λ _. meets_if _ (has_any v.found) _ _ (λ _. reject_meets _ _ t)
      (λ _. meets_if _ (none_before start.lo (trees w.found)) _ _ (λ h. h) (λ _. reject_meets _ _ t)))

  later_form : (start : Span) (v : Leading) → v.found ≡ [] → (s : State) → Meets (IsLater start) (later (decorated_in n) start v s)
  unfolding later
  later_form start v e s = always _ (leading (decorated_in n) s) _ (λ w t. meets_if _ (has_any w.found) _ _
      (λ _. meets_then _ (later_alone start v w t) _ (later_alone_form start v w t) (λ _ u h. h))
      (λ _. ap (λ xs. none_before start.lo (trees xs)) e))

  decorated_form : (start : Span) (ds : List Tree) → none_before start.lo (trees ds) ≡ true → (declaration : Reader Tree) (s : State) → Meets (λ x t. Takes x) (declaration s)
      → Meets Declared (exported inner (expr n) (pattern n) params (member n) start (decorating ds declaration) s)
  unfolding exported decorating
  decorated_form start ds h declaration s p = meets_then {P = λ y t. (x : Tree) × (y ≡ with_decorators ds x) × Takes x} _ (decorating ds declaration s) _
      (meets_then {P = λ x t. Takes x} _ (declaration s) _ p (λ x t f. (x, refl, f)))
      (λ y t (x, is, f). let span : Span = record { lo = start.lo; hi = t.at.last.hi } in subst (λ v. IsDeclaration (tree.export_decl span v)) (sym is) (refl, λ env. takes_stays x f ds env span h))

  default_decorated_form : (start : Span) (ds : List Tree) → none_before start.lo (trees ds) ≡ true → (declaration : Reader Tree) (s : State) → Meets (λ x t. Takes x) (declaration s)
      → Meets Declared (by_default start (decorating ds declaration) s)
  unfolding by_default decorating
  default_decorated_form start ds h declaration s p = meets_then {P = λ y t. (x : Tree) × (y ≡ with_decorators ds x) × Takes x} _ (decorating ds declaration s) _
      (meets_then {P = λ x t. Takes x} _ (declaration s) _ p (λ x t f. (x, refl, f)))
      (λ y t (x, is, f). let span : Span = record { lo = start.lo; hi = t.at.last.hi } in subst (λ v. IsDeclaration (tree.export_default_decl span v)) (sym is) (refl, λ env. takes_stays x f ds env span h))

  named_with_form : (start : Span) (r : Leading) (s : State) → IsLater start r s → Meets Declared (named_with inner (expr n) (pattern n) params (member n) (object_alone n) (decorated_in n) start r s)
  unfolding named_with
  named_with_form start r s h =
      meets_if _ (sees kind.Class s.at) _ _ (λ _. decorated_form start r.found h (class_decl (expr n left_side) (member n)) s (declared_takes (expr n left_side) (member n) s))
      (λ _. meets_if _ (begins_default_function s.at) _ _ (λ _. decorated_form start r.found h (function_decl inner params) s (decl_takes inner params s))
      (λ _. always _ (misplaced r s) _ (λ _ t. export_rest_form start t)))

  default_with_form : (start first : Span) (r : Leading) (s : State) → IsLater start r s
      → Meets Declared (default_with inner (expr n) (pattern n) params (member n) (object_alone n) (decorated_in n) start first r s)
  unfolding default_with
  default_with_form start first r s h =
      meets_if _ (sees kind.Class s.at) _ _ (λ _. default_decorated_form start r.found h (class_expr (expr n left_side) (member n)) s (class_form s))
      (λ _. meets_if _ (begins_default_function s.at) _ _ (λ _. default_decorated_form start r.found h (default_function inner params) s (default_function_form inner params s))
      (λ _. always _ (misplaced r s) _ (λ _ t. default_rest_form start first t)))

  export_form : (v : Leading) → v.found ≡ [] → (s : State) → Meets Declared (export_from inner (expr n) (pattern n) params (member n) (object_alone n) (decorated_in n) v s)
  unfolding export_from behind_export behind_default_word
  export_form v e s = let w = span_at s.at in let b = moved s in let u = moved b in
      meets_if _ (sees kind.Default b.at) _ _
      (λ _. meets_if _ (has_any v.found || begins_decorators u.code u.at) _ _
      (λ _. meets_then {P = IsLater w} _ (later (decorated_in n) w v u) _ (later_form w v e u) (λ r t h. default_with_form w (span_at b.at) r t h)) (λ _. export_default_form w (span_at b.at) u))
      (λ _. meets_if _ (has_any v.found || begins_decorators b.code b.at) _ _
      (λ _. meets_then {P = IsLater w} _ (later (decorated_in n) w v b) _ (later_form w v e b) (λ r t h. named_with_form w r t h)) (λ _. export_named_form w b))

-- ---- items

import_in_form : (n : ℕ) (s : State) → Meets Declared (import_in n s)
unfolding import_in
import_in_form zero s = too_deep_meets _ s
import_in_form (suc n) s = import_form (object_alone n) s

export_in_form : (n : ℕ) (s : State) → Meets Declared (export_in n s)
unfolding export_in export_item
export_in_form zero s = too_deep_meets _ s
export_in_form (suc n) s = export_form n (no_leading s) refl s

neither : (a b : Bool) → (a || b) ≡ true → a ≡ false → b ≡ false → ⊥
neither true b h e g = cc
neither false b h e g = cc

pub declaration_form : (n : ℕ) (s : State) → begins_module s.at ≡ true → Meets (λ x t. IsDeclaration x) (module_item n s)
unfolding module_item begins_module
declaration_form n s b = meets_if _ (begins_import s.at) _ _ (λ _. import_in_form n s)
    (λ e. meets_if _ (sees kind.Export s.at) _ _ (λ _. export_in_form n s) (λ g. absurd (neither (begins_import s.at) (sees kind.Export s.at) b e g)))
