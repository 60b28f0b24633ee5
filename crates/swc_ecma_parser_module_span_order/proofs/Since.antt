-- An import or an export goes from its word to the end of what was read last, whatever is recorded.
use Rattle.std.proofs.Common.{◌≡◌, List, [], ◌∷◌, ◌++◌, refl}
use Rattle.std.specs.Prelude.{not, ◌&&◌, ◌||◌, codes}
use Rattle.swc_ecma_parser_common.specs.declared.span.Span.{Span}
use Rattle.swc_ecma_parser_error.specs.Kind as faults
use Rattle.swc_ecma_parser_token.specs.declared.kind.TokenKind.TheVariants as kind
use Rattle.swc_ecma_parser_input.specs.Place.{after}
use Rattle.swc_ecma_parser_model.specs.declared.leaves.ImportPhase.{ImportPhase}
use Rattle.swc_ecma_parser_model.specs.declared.leaves.ImportPhase.TheVariants as phase
use Rattle.swc_ecma_parser_model.specs.declared.leaves.VarDeclKind.TheVariants as decl
use Rattle.swc_ecma_parser_model.specs.Forms.{span_of}
use Rattle.swc_ecma_parser_model.specs.Tree as tree
use Rattle.swc_ecma_parser_model.specs.Tree.{Tree, listed}
use Rattle.swc_ecma_parser_grammar.specs.Follows.{word_at, is_let_declaration}
use Rattle.swc_ecma_parser_grammar.specs.Looks.{sees, span_at}
use Rattle.swc_ecma_parser_grammar.specs.Own.{export_faults}
use Rattle.swc_ecma_parser_grammar.specs.language.Contexts.{with_in}
use Rattle.swc_ecma_parser_grammar.specs.language.Exports.{begin_before}
use Rattle.swc_ecma_parser_grammar.specs.language.Goals.{Class, assignment, left_side}
use Rattle.swc_ecma_parser_grammar.specs.language.Imports.{follows_phase}
use Rattle.swc_ecma_parser_reader.specs.Decorators.{Leading, has_any, misplaced}
use Rattle.swc_ecma_parser_reader.specs.Jumps.{told}
use Rattle.swc_ecma_parser_reader.specs.Members.{class_decl, class_expr}
use Rattle.swc_ecma_parser_reader.specs.Reader.{variables, function_decl}
use Rattle.swc_ecma_parser_reader.specs.State.{State, Reader, moved, within, name, end}
use Rattle.swc_ecma_parser_reader.specs.Words.{any_word}
use Rattle.swc_ecma_parser_reader.proofs.Meets.{Meets, always, meets_if, wanted_meets, refuse_meets}
use Rattle.swc_ecma_parser_reader.proofs.expressions.SoundSteps.{reject_meets}
use Rattle.swc_ecma_parser_module_reader.specs.Decorated.{begins_decorators, no_leading, later, decorating, by_default, named_with, default_with, behind_export, behind_default_word, export_from, export_with, export_item}
use Rattle.swc_ecma_parser_module_reader.specs.Exports.{export_specifier, export_namespace, names_from, own_names, export_names, more_names, namespace_names, export_all, export_star, is_namespace_next, behind_default, is_name_from, name_from, is_default_from, default_from, default_function, default_expr, begins_default_function, exported_function, exported_class, default_rest, export_default, exported, export_rest, export_named}
use Rattle.swc_ecma_parser_module_reader.specs.Imports.{str, source, attributes, specifiers, import_clause, default_binding, imported, import_from, phase_of, import_phased, is_phase_word, import_decl, begins_bindings, begins_clause, import_unphased}

abbrev pub Since : Span → Tree → State → Type 0
Since start x t = span_of x ≡ record { lo = start.lo; hi = t.at.last.hi }

-- ---- names

module _ (object : Reader Tree) (start : Span) where
  names_from_since : (xs : List Tree) (s : State) → Meets (Since start) (names_from object start xs s)
  unfolding names_from
  names_from_since xs s = always _ (source s) _ (λ x t. always _ (attributes object t) _ (λ y u. always _ (end faults.Expected u) _ (λ _ v. refl)))

  own_names_since : (xs : List Tree) (s : State) → Meets (Since start) (own_names start xs s)
  unfolding own_names
  own_names_since xs s = always _ (told (export_faults tree.absent (listed xs)) s) _ (λ _ t. always _ (end faults.Expected t) _ (λ _ u. refl))

  export_names_since : (xs : List Tree) (s : State) → Meets (Since start) (export_names object start xs s)
  unfolding export_names
  export_names_since xs s = always _ (specifiers export_specifier s) _ (λ ys t. meets_if _ (word_at (codes "from") t.at) _ _ (λ _. names_from_since (xs ++ ys) t) (λ _. own_names_since (xs ++ ys) t))

  more_names_since : (xs : List Tree) (s : State) → Meets (Since start) (more_names object start xs s)
  unfolding more_names
  more_names_since xs s = meets_if _ (s.code.setting.export_default_from && sees kind.Comma s.at) _ _ (λ _. export_names_since xs (moved s)) (λ _. names_from_since xs s)

  namespace_names_since : (at : Span) (xs : List Tree) (s : State) → Meets (Since start) (namespace_names object start at xs s)
  unfolding namespace_names
  namespace_names_since at xs s = always _ (export_namespace at s) _ (λ x t. more_names_since (xs ++ x ∷ []) t)

  behind_default_since : (at : Span) (x : Tree) (s : State) → Meets (Since start) (behind_default object start at x s)
  unfolding behind_default
  behind_default_since at x s = meets_if _ (is_namespace_next s.at) _ _ (λ _. namespace_names_since at (x ∷ []) (moved (moved s))) (λ _. more_names_since (x ∷ []) s)

  export_all_since : (s : State) → Meets (Since start) (export_all object start s)
  unfolding export_all
  export_all_since s = always _ (source s) _ (λ x t. always _ (attributes object t) _ (λ y u. always _ (end faults.Expected u) _ (λ _ v. refl)))

  export_star_since : (s : State) → Meets (Since start) (export_star object start s)
  unfolding export_star
  export_star_since s = meets_if _ (word_at (codes "as") (after s.at)) _ _ (λ _. namespace_names_since (span_at s.at) [] (moved s)) (λ _. export_all_since (moved s))

  name_from_since : (s : State) → Meets (Since start) (name_from object start s)
  unfolding name_from
  name_from_since s = always _ (name faults.ExpectedIdent s) _ (λ i t. behind_default_since (span_at s.at) (tree.export_default (tree.ident i.span i.sym)) t)

  default_from_since : (at : Span) (s : State) → Meets (Since start) (default_from object start at s)
  unfolding default_from
  default_from_since at s = behind_default_since at (tree.export_default (tree.ident at (codes "default"))) s

-- ---- declarations and defaults

by_default_since : (start : Span) (p : Reader Tree) (s : State) → Meets (Since start) (by_default start p s)
unfolding by_default
by_default_since start p s = always _ (p s) _ (λ x t. refl)

module _ (stmt : Reader Tree) (expr : Class → Reader Tree) (pat : Reader Tree) (params : Reader (List Tree)) (member : Reader Tree) (object further : Reader Tree) where
  module _ (start : Span) where
    exported_since : (p : Reader Tree) (s : State) → Meets (Since start) (exported stmt expr pat params member start p s)
    unfolding exported
    exported_since p s = always _ (p s) _ (λ x t. refl)

    default_rest_since : (at : Span) (s : State) → Meets (Since start) (default_rest stmt expr pat params member object start at s)
    unfolding default_rest default_expr
    default_rest_since at s = meets_if _ (is_default_from s.code s.at) _ _ (λ _. default_from_since object start at s)
        (λ _. always _ (within with_in (expr assignment) s) _ (λ x t. always _ (end faults.Expected t) _ (λ _ u. refl)))

    export_default_since : (at : Span) (s : State) → Meets (Since start) (export_default stmt expr pat params member object start at s)
    unfolding export_default exported_class exported_function
    export_default_since at s = meets_if _ (sees kind.Class s.at) _ _ (λ _. always _ (class_expr (expr left_side) member s) _ (λ x t. refl))
        (λ _. meets_if _ (begins_default_function s.at) _ _ (λ _. always _ (default_function stmt params s) _ (λ x t. refl)) (λ _. default_rest_since at s))

    export_rest_since : (s : State) → Meets (Since start) (export_rest stmt expr pat params member object start s)
    unfolding export_rest
    export_rest_since s = meets_if _ (sees kind.LBrace s.at) _ _ (λ _. export_names_since object start [] s)
        (λ _. meets_if _ (sees kind.Mul s.at) _ _ (λ _. export_star_since object start s)
        (λ _. meets_if _ (sees kind.Var s.at) _ _ (λ _. exported_since (variables expr pat decl.Var) s)
        (λ _. meets_if _ (sees kind.Const s.at) _ _ (λ _. exported_since (variables expr pat decl.Const) s)
        (λ _. meets_if _ (is_let_declaration s.at) _ _ (λ _. exported_since (variables expr pat decl.Let) s)
        (λ _. meets_if _ (is_name_from s.code s.at) _ _ (λ _. name_from_since object start s) (λ _. refuse_meets _ faults.Expected s))))))

    export_named_since : (s : State) → Meets (Since start) (export_named stmt expr pat params member object start s)
    unfolding export_named
    export_named_since s = meets_if _ (sees kind.Class s.at) _ _ (λ _. exported_since (class_decl (expr left_side) member) s)
        (λ _. meets_if _ (begins_default_function s.at) _ _ (λ _. exported_since (function_decl stmt params) s) (λ _. export_rest_since s))

    -- ---- with decorators

    named_with_since : (v : Leading) (s : State) → Meets (Since start) (named_with stmt expr pat params member object further start v s)
    unfolding named_with
    named_with_since v s = meets_if _ (sees kind.Class s.at) _ _ (λ _. exported_since (decorating v.found (class_decl (expr left_side) member)) s)
        (λ _. meets_if _ (begins_default_function s.at) _ _ (λ _. exported_since (decorating v.found (function_decl stmt params)) s)
        (λ _. always _ (misplaced v s) _ (λ _ t. export_rest_since t)))

    default_with_since : (at : Span) (v : Leading) (s : State) → Meets (Since start) (default_with stmt expr pat params member object further start at v s)
    unfolding default_with
    default_with_since at v s = meets_if _ (sees kind.Class s.at) _ _ (λ _. by_default_since start (decorating v.found (class_expr (expr left_side) member)) s)
        (λ _. meets_if _ (begins_default_function s.at) _ _ (λ _. by_default_since start (decorating v.found (default_function stmt params)) s)
        (λ _. always _ (misplaced v s) _ (λ _ t. default_rest_since at t)))

    behind_export_since : (v : Leading) (s : State) → Meets (Since start) (behind_export stmt expr pat params member object further start v s)
    unfolding behind_export
    behind_export_since v s = meets_if _ (has_any v.found || begins_decorators s.code s.at) _ _ (λ _. always _ (later further start v s) _ (λ w t. named_with_since w t)) (λ _. export_named_since s)

    behind_default_word_since : (at : Span) (v : Leading) (s : State) → Meets (Since start) (behind_default_word stmt expr pat params member object further start at v s)
    unfolding behind_default_word
    behind_default_word_since at v s = meets_if _ (has_any v.found || begins_decorators s.code s.at) _ _ (λ _. always _ (later further start v s) _ (λ w t. default_with_since at w t)) (λ _. export_default_since at s)

  export_from_since : (v : Leading) (s : State) → Meets (Since (span_at s.at)) (export_from stmt expr pat params member object further v s)
  unfolding export_from
  export_from_since v s = meets_if _ (sees kind.Default (after s.at)) _ _ (λ _. behind_default_word_since (span_at s.at) (span_at (after s.at)) v (moved (moved s))) (λ _. behind_export_since (span_at s.at) v (moved s))

  pub export_with_since : (v : Leading) (s : State) → Meets (Since (span_at s.at)) (export_with stmt expr pat params member object further v s)
  unfolding export_with
  export_with_since v s = meets_if _ (has_any v.found && not (s.code.setting.decorators_before_export && begin_before (span_at s.at) (listed v.found))) _ _ (λ _. reject_meets _ _ s) (λ _. export_from_since v s)

  pub export_item_since : (s : State) → Meets (Since (span_at s.at)) (export_item stmt expr pat params member object further s)
  unfolding export_item
  export_item_since s = export_from_since (no_leading s) s

-- ---- an import

module _ (object : Reader Tree) where
  module _ (start : Span) where
    imported_since : (p : ImportPhase) (xs : List Tree) (from : Reader Tree) (s : State) → Meets (Since start) (imported object start p xs from s)
    unfolding imported
    imported_since p xs from s = always _ (from s) _ (λ x t. always _ (attributes object t) _ (λ y u. always _ (end faults.Expected u) _ (λ _ v. refl)))

    import_from_since : (p : ImportPhase) (s : State) → Meets (Since start) (import_from object start p s)
    unfolding import_from
    import_from_since p s = always _ (import_clause s) _ (λ xs t. imported_since p xs source t)

    import_phased_since : (s : State) → Meets (Since start) (import_phased object start s)
    unfolding import_phased
    import_phased_since s = always _ (any_word s) _ (λ i t. meets_if _ (follows_phase t.code t.at) _ _ (λ _. import_from_since (phase_of i.sym) t)
        (λ _. always _ (default_binding i t) _ (λ xs u. imported_since phase.Evaluation xs source u)))

    import_unphased_since : (s : State) → Meets (Since start) (import_unphased object start s)
    unfolding import_unphased
    import_unphased_since s = meets_if _ (begins_clause s.code s.at) _ _ (λ _. import_from_since phase.Evaluation s) (λ _. refuse_meets _ faults.Expected s)

  pub import_since : (s : State) → Meets (Since (span_at s.at)) (import_decl object s)
  unfolding import_decl
  import_since s = meets_if _ (sees kind.Str (after s.at)) _ _ (λ _. imported_since (span_at s.at) phase.Evaluation [] str (moved s))
      (λ _. meets_if _ (is_phase_word (after s.at)) _ _ (λ _. import_phased_since (span_at s.at) (moved s)) (λ _. import_unphased_since (span_at s.at) (moved s)))
