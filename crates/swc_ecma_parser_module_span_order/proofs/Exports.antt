-- Exports run forward, with decorators or without.
use Rattle.std.proofs.Common.{◌≡◌, ℕ, ◌≤◌, true, List, [], ◌∷◌, ◌++◌, refl, le_trans}
use Rattle.std.specs.Prelude.{not, ◌&&◌, ◌||◌, codes}
use Rattle.swc_ecma_parser_common.specs.declared.span.Span.{Span}
use Rattle.swc_ecma_parser_error.specs.Kind as faults
use Rattle.swc_ecma_parser_token.specs.declared.kind.TokenKind.TheVariants as kind
use Rattle.swc_ecma_parser_input.specs.Place.{after}
use Rattle.swc_ecma_parser_model.specs.declared.leaves.VarDeclKind.TheVariants as decl
use Rattle.swc_ecma_parser_model.specs.Forms.{span_of}
use Rattle.swc_ecma_parser_model.specs.Tree as tree
use Rattle.swc_ecma_parser_model.specs.Tree.{Tree, listed, trees}
use Rattle.swc_ecma_parser_grammar.specs.Follows.{word_at, is_let_declaration}
use Rattle.swc_ecma_parser_grammar.specs.Looks.{sees, span_at}
use Rattle.swc_ecma_parser_grammar.specs.Names.{name_at}
use Rattle.swc_ecma_parser_grammar.specs.Own.{export_faults}
use Rattle.swc_ecma_parser_grammar.specs.language.Contexts.{with_in}
use Rattle.swc_ecma_parser_grammar.specs.language.Exports.{begin_before}
use Rattle.swc_ecma_parser_grammar.specs.language.Goals.{Class, expression, assignment, left_side}
use Rattle.swc_ecma_parser_grammar.proofs.Tests.{and_yes}
use Rattle.swc_ecma_parser_reader.specs.Decorators.{Leading, leading, has_any, misplaced}
use Rattle.swc_ecma_parser_span_order.specs.Forward.{is_forward, forward, all_forward}
use Rattle.swc_ecma_parser_reader.specs.Jumps.{told}
use Rattle.swc_ecma_parser_reader.specs.Members.{class_decl, class_expr}
use Rattle.swc_ecma_parser_reader.specs.Methods.{star}
use Rattle.swc_ecma_parser_reader.specs.Reader.{variables, function_decl, function_parts, function_word, named}
use Rattle.swc_ecma_parser_reader.specs.State.{State, Reader, moved, within, name, expect_word, end}
use Rattle.swc_ecma_parser_reader.proofs.Behind.{Passes}
use Rattle.swc_ecma_parser_reader.proofs.Meets.{Meets, meets_then, meets_if, wanted_meets, refuse_meets}
use Rattle.swc_ecma_parser_reader.proofs.expressions.SoundSteps.{reject_meets, meets_as}
use Rattle.swc_ecma_parser_span_order.proofs.Classes.{StraightPart, class_decl_straight, class_expr_straight}
use Rattle.swc_ecma_parser_span_order.proofs.Decorators.{leading_past, misplaced_past}
use Rattle.swc_ecma_parser_span_order.proofs.Functions.{named_straight, word_past, function_parts_read, function_decl_straight}
use Rattle.swc_ecma_parser_span_order.proofs.Loops.{variables_straight}
use Rattle.swc_ecma_parser_span_order.proofs.Operands.{star_ahead}
use Rattle.swc_ecma_parser_span_order.proofs.Places.{far, Past, Ahead, Passed, Read, ReadMany, Straight, StraightMany, Part, Many, both, onward, first, next, behind, node, reads, span_forward, part_of, whole_less}
use Rattle.swc_ecma_parser_span_order.proofs.Steps.{ReadMaybe, told_past, expect_word_past, end_past, name_ahead, within_reads}
use Rattle.swc_ecma_parser_span_order.proofs.Trees.{one_more, joined, own_forward}
use Rattle.swc_ecma_parser_module_reader.specs.Decorated.{with_decorators, none_before, begins_decorators, no_leading, later_alone, later, decorating, by_default, named_with, default_with, behind_export, behind_default_word, export_from, export_with, export_item}
use Rattle.swc_ecma_parser_module_reader.specs.Exports.{renamed_export, plain_export, export_specifier, export_namespace, names_from, own_names, export_names, more_names, namespace_names, export_all, export_star, is_namespace_next, behind_default, is_name_from, name_from, is_default_from, default_from, default_name, default_function, default_expr, begins_default_function, exported_function, exported_class, default_rest, export_default, exported, export_rest, export_named}
use Rattle.swc_ecma_parser_module_reader.specs.Imports.{source, module_name, attributes, specifiers}
use Rattle.swc_ecma_parser_module_span_order.proofs.Imports.{source_reads, module_name_straight, attributes_read, specifiers_read}

-- ---- names

export_specifier_straight : Straight export_specifier
unfolding export_specifier renamed_export plain_export
export_specifier_straight s f = let m = far (after s.at) in meets_then _ (module_name s) _ (module_name_straight s f) (λ x t h. meets_if _ (word_at (codes "as") t.at) _ _
    (λ _. meets_then _ (module_name (moved t)) _ (reads module_name module_name_straight {m = m} (moved t) (onward (next h.place))) (λ y u k.
    node (span_at s.at) (tree.export_specifier _ x y) f.begins k.place (λ e. both e (both h.straight k.straight)) refl))
    (λ _. node (span_at s.at) (tree.export_specifier _ x tree.absent) f.begins h.place (λ e. both e (both h.straight refl)) refl))

module _ (object : Reader Tree) (below : Straight object) where
  module _ (m : ℕ) (start : Span) (b : start.lo.0 ≤ m) where
    names_from_read : (xs : List Tree) (s : State) → ReadMany m xs s → Meets (Read m) (names_from object start xs s)
    unfolding names_from
    names_from_read xs s h = meets_then _ (source s) _ (source_reads m s h.place) (λ x t g.
        meets_then _ (attributes object t) _ (attributes_read object below m t g.place) (λ y u k.
        meets_then _ (end faults.Expected u) _ (end_past m faults.Expected u k.place) (λ _ v j.
        node start (tree.export_named _ (listed xs) x y) b j (λ e. both e (both h.straight (both g.straight k.straight))) refl)))

    own_names_read : (xs : List Tree) (s : State) → ReadMany m xs s → Meets (Read m) (own_names start xs s)
    unfolding own_names
    own_names_read xs s h = meets_then _ (told (export_faults tree.absent (listed xs)) s) _ (told_past m (export_faults tree.absent (listed xs)) s h.place) (λ _ t g.
        meets_then _ (end faults.Expected t) _ (end_past m faults.Expected t g) (λ _ u k.
        node start (tree.export_named _ (listed xs) tree.absent tree.absent) b k (λ e. both e (both h.straight refl)) refl))

    export_names_read : (xs : List Tree) (s : State) → ReadMany m xs s → Meets (Read m) (export_names object start xs s)
    unfolding export_names
    export_names_read xs s h = meets_then _ (specifiers export_specifier s) _ (specifiers_read export_specifier export_specifier_straight m s h.place) (λ ys t g.
        let all : Many m (xs ++ ys) t.at = record { straight = joined xs ys h.straight g.straight; place = g.place } in
        meets_if _ (word_at (codes "from") t.at) _ _ (λ _. names_from_read (xs ++ ys) t all) (λ _. own_names_read (xs ++ ys) t all))

    more_names_read : (xs : List Tree) (s : State) → ReadMany m xs s → Meets (Read m) (more_names object start xs s)
    unfolding more_names
    more_names_read xs s h = meets_if _ (s.code.setting.export_default_from && sees kind.Comma s.at) _ _ (λ _. export_names_read xs (moved s) (record { straight = h.straight; place = next h.place })) (λ _. names_from_read xs s h)

    -- the words behind `export` begin at a span that was read
    namespace_names_read : (at : Span) → at.lo.0 ≤ m → (xs : List Tree) (s : State) → ReadMany m xs s → Meets (Read m) (namespace_names object start at xs s)
    unfolding namespace_names export_namespace
    namespace_names_read at a xs s h = meets_then _ (export_namespace at s) _
        (meets_then (Read m) (expect_word (codes "as") s) _ (expect_word_past m (codes "as") s h.place) (λ _ t g.
        meets_then _ (module_name t) _ (reads module_name module_name_straight {m = m} t (onward g)) (λ x u k. node at (tree.export_namespace _ x) a k.place (λ e. both e k.straight) refl)))
        (λ x t g. more_names_read (xs ++ x ∷ []) t (one_more h (part_of g)))

    behind_default_reads : (at : Span) → at.lo.0 ≤ m → (x : Tree) (s : State) → Part m x s.at → Meets (Read m) (behind_default object start at x s)
    unfolding behind_default
    behind_default_reads at a x s h = meets_if _ (is_namespace_next s.at) _ _ (λ _. namespace_names_read at a (x ∷ []) (moved (moved s)) (record { straight = both h.straight refl; place = next (next h.place) }))
        (λ _. more_names_read (x ∷ []) s (record { straight = both h.straight refl; place = h.place }))

    export_all_reads : (s : State) → Past m s.at → Meets (Read m) (export_all object start s)
    unfolding export_all
    export_all_reads s h = meets_then _ (source s) _ (source_reads m s h) (λ x t g.
        meets_then _ (attributes object t) _ (attributes_read object below m t g.place) (λ y u k.
        meets_then _ (end faults.Expected u) _ (end_past m faults.Expected u k.place) (λ _ v j.
        node start (tree.export_all _ x y) b j (λ e. both e (both g.straight k.straight)) refl)))

  module _ (m : ℕ) (start : Span) (b : start.lo.0 ≤ m) where
    export_star_reads : (s : State) → Past m s.at → Meets (Read m) (export_star object start s)
    unfolding export_star
    export_star_reads s h = let l = (onward h).ahead in meets_if _ (word_at (codes "as") (after s.at)) _ _
        (λ _. meets_as (namespace_names object start (span_at s.at) [] (moved s)) (namespace_names_read (far (after s.at)) start (le_trans b l) (span_at s.at) h.here.begins [] (moved s) (record { straight = refl; place = behind h.here }))
        (λ x t k. whole_less l k))
        (λ _. export_all_reads m start b (moved s) (next h))

    name_from_reads : (s : State) → Past m s.at → Meets (Read m) (name_from object start s)
    unfolding name_from
    name_from_reads s h = let l = (onward h).ahead in meets_then _ (name faults.ExpectedIdent s) _ (name_ahead {m = far (after s.at)} faults.ExpectedIdent s (first h.here)) (λ i t g.
        meets_as (behind_default object start (span_at s.at) (tree.export_default (tree.ident i.span i.sym)) t)
        (behind_default_reads (far (after s.at)) start (le_trans b l) (span_at s.at) h.here.begins (tree.export_default (tree.ident i.span i.sym)) t (record { straight = g.straight; place = g.place }))
        (λ x u k. whole_less l k))

-- ---- declarations and defaults

default_name_reads : (m : ℕ) (s : State) → Ahead m s.at → Meets (ReadMaybe m) (default_name s)
unfolding default_name
default_name_reads m s a = meets_if _ (name_at s.code.flags s.at) _ _ (λ _. meets_as (named s) (reads named named_straight {m = m} s a) (λ x t h. record { straight = h.straight; ahead = onward h.place }))
    (λ _. record { straight = refl; ahead = a })

default_function_straight : (stmt : Reader Tree) → Straight stmt → (params : Reader (List Tree)) → StraightMany params → Straight (default_function stmt params)
unfolding default_function
default_function_straight stmt below_stmt params below_params s f = let m = far (after s.at) in meets_then _ (function_word s) _ (word_past m s (first f)) (λ w t h.
    meets_then _ (star t) _ (star_ahead m t (onward h)) (λ v u a.
    meets_then _ (default_name u) _ (default_name_reads m u a) (λ i o k.
    meets_then _ (function_parts stmt params w v (span_at s.at) o) _ (function_parts_read stmt below_stmt params below_params m (span_at s.at) f.begins w v o k.ahead) (λ fn p j.
    record { straight = both (own_forward fn j.straight) (both k.straight j.straight); reaches = j.reaches; place = j.place }))))

-- the same tree with decorators
record WithRead (m : ℕ) (x : Tree) : Type 0 where
  straight : forward x ≡ true
  reaches : m ≤ (span_of x).hi.0

with_forward : (m : ℕ) (ds : List Tree) (x : Tree) → all_forward (trees ds) ≡ true → forward x ≡ true → m ≤ (span_of x).hi.0 → WithRead m (with_decorators ds x)
with_forward m ds (tree.class_decl name (tree.class s decorators body base)) a h g = let p = and_yes (forward name) _ h in let q = and_yes (is_forward s) _ p.1 in let r = and_yes (forward decorators) _ q.1 in
    record { straight = both p.0 (both q.0 (both a r.1)); reaches = g }
with_forward m ds (tree.class_expr o name (tree.class s decorators body base)) a h g = let n = and_yes (is_forward o) _ h in let p = and_yes (forward name) _ n.1 in let q = and_yes (is_forward s) _ p.1 in
    let r = and_yes (forward decorators) _ q.1 in record { straight = both n.0 (both p.0 (both q.0 (both a r.1))); reaches = g }
with_forward m ds (tree.fn_decl name (tree.function s decorators params body w v)) a h g = let p = and_yes (forward name) _ h in let q = and_yes (is_forward s) _ p.1 in let r = and_yes (forward decorators) _ q.1 in
    record { straight = both p.0 (both q.0 (both a r.1)); reaches = g }
with_forward m ds (tree.fn_expr o name (tree.function s decorators params body w v)) a h g = let n = and_yes (is_forward o) _ h in let p = and_yes (forward name) _ n.1 in let q = and_yes (is_forward s) _ p.1 in
    let r = and_yes (forward decorators) _ q.1 in record { straight = both n.0 (both p.0 (both q.0 (both a r.1))); reaches = g }
with_forward m ds x a h g = record { straight = h; reaches = g }

decorating_straight : (ds : List Tree) → all_forward (trees ds) ≡ true → (p : Reader Tree) → Straight p → Straight (decorating ds p)
unfolding decorating
decorating_straight ds a p below s f = meets_then _ (p s) _ (below s f) (λ x t h. let w = with_forward (far (after s.at)) ds x a h.straight h.reaches in
    record { straight = w.straight; reaches = w.reaches; place = h.place })

-- ---- from behind `export` on

module _ (stmt : Reader Tree) (expr : Class → Reader Tree) (pat : Reader Tree) (params : Reader (List Tree)) (member : Reader Tree) (object further : Reader Tree)
    (below_stmt : Straight stmt) (below : (class : Class) → Straight (expr class)) (below_pat : Straight pat) (below_params : StraightMany params) (below_member : StraightPart member)
    (below_object : Straight object) (below_further : Straight further) (passes : Passes (expr expression)) where
  -- decorators behind the words, or those before them
  later_reads : (m : ℕ) (start : Span) (v : Leading) → all_forward (trees v.found) ≡ true → (s : State) → Past m s.at → Meets (λ w t. Many m w.found t.at) (later further start v s)
  unfolding later later_alone
  later_reads m start v a s h = meets_then _ (leading further s) _ (leading_past further below_further m s h) (λ w t g.
      meets_if _ (has_any w.found) _ _
      (λ _. meets_then (λ (x : Leading) (y : State). Many m x.found y.at) (later_alone start v w t) _ (meets_if (Passed m) (sees kind.Export t.at) _ _ (λ _. reject_meets (Passed m) _ t)
      (λ _. meets_if (Passed m) (has_any v.found) _ _ (λ _. reject_meets (Passed m) _ t) (λ _. meets_if (Passed m) (none_before start.lo (trees w.found)) _ _ (λ _. g.place) (λ _. reject_meets (Passed m) _ t))))
      (λ _ u k. record { straight = g.straight; place = k }))
      (λ _. record { straight = a; place = g.place }))

  module _ (m : ℕ) (start : Span) (b : start.lo.0 ≤ m) where
    exported_reads : (p : Reader Tree) → Straight p → (s : State) → Past m s.at → Meets (Read m) (exported stmt expr pat params member start p s)
    unfolding exported
    exported_reads p below_p s h = meets_then _ (p s) _ (reads p below_p {m = m} s (onward h)) (λ x t g. node start (tree.export_decl _ x) b g.place (λ e. both e g.straight) refl)

    by_default_reads : (p : Reader Tree) → Straight p → (s : State) → Past m s.at → Meets (Read m) (by_default start p s)
    unfolding by_default
    by_default_reads p below_p s h = meets_then _ (p s) _ (reads p below_p {m = m} s (onward h)) (λ x t g. node start (tree.export_default_decl _ x) b g.place (λ e. both e g.straight) refl)

    export_rest_reads : (s : State) → Past m s.at → Meets (Read m) (export_rest stmt expr pat params member object start s)
    unfolding export_rest
    export_rest_reads s h = meets_if _ (sees kind.LBrace s.at) _ _ (λ _. export_names_read object below_object m start b [] s (record { straight = refl; place = h }))
        (λ _. meets_if _ (sees kind.Mul s.at) _ _ (λ _. export_star_reads object below_object m start b s h)
        (λ _. meets_if _ (sees kind.Var s.at) _ _ (λ _. exported_reads (variables expr pat decl.Var) (variables_straight expr pat below below_pat passes decl.Var) s h)
        (λ _. meets_if _ (sees kind.Const s.at) _ _ (λ _. exported_reads (variables expr pat decl.Const) (variables_straight expr pat below below_pat passes decl.Const) s h)
        (λ _. meets_if _ (is_let_declaration s.at) _ _ (λ _. exported_reads (variables expr pat decl.Let) (variables_straight expr pat below below_pat passes decl.Let) s h)
        (λ _. meets_if _ (is_name_from s.code s.at) _ _ (λ _. name_from_reads object below_object m start b s h) (λ _. refuse_meets _ faults.Expected s))))))

    export_named_reads : (s : State) → Past m s.at → Meets (Read m) (export_named stmt expr pat params member object start s)
    unfolding export_named
    export_named_reads s h = meets_if _ (sees kind.Class s.at) _ _ (λ _. exported_reads (class_decl (expr left_side) member) (class_decl_straight (expr left_side) member (below left_side) below_member) s h)
        (λ _. meets_if _ (begins_default_function s.at) _ _ (λ _. exported_reads (function_decl stmt params) (function_decl_straight stmt below_stmt params below_params) s h) (λ _. export_rest_reads s h))

    named_with_reads : (v : Leading) (s : State) → Many m v.found s.at → Meets (Read m) (named_with stmt expr pat params member object further start v s)
    unfolding named_with
    named_with_reads v s h = meets_if _ (sees kind.Class s.at) _ _
        (λ _. exported_reads (decorating v.found (class_decl (expr left_side) member)) (decorating_straight v.found h.straight (class_decl (expr left_side) member) (class_decl_straight (expr left_side) member (below left_side) below_member)) s h.place)
        (λ _. meets_if _ (begins_default_function s.at) _ _
        (λ _. exported_reads (decorating v.found (function_decl stmt params)) (decorating_straight v.found h.straight (function_decl stmt params) (function_decl_straight stmt below_stmt params below_params)) s h.place)
        (λ _. meets_then _ (misplaced v s) _ (misplaced_past m v s h.place) (λ _ t g. export_rest_reads t g)))

    behind_export_reads : (v : Leading) → all_forward (trees v.found) ≡ true → (s : State) → Past m s.at → Meets (Read m) (behind_export stmt expr pat params member object further start v s)
    unfolding behind_export
    behind_export_reads v a s h = meets_if _ (has_any v.found || begins_decorators s.code s.at) _ _
        (λ _. meets_then _ (later further start v s) _ (later_reads m start v a s h) (λ w t g. named_with_reads w t g)) (λ _. export_named_reads s h)

    -- the word `default` stands at a span that was read
    module _ (at : Span) (c : at.lo.0 ≤ m) (d : is_forward at ≡ true) where
      default_rest_reads : (s : State) → Past m s.at → Meets (Read m) (default_rest stmt expr pat params member object start at s)
      unfolding default_rest default_from default_expr
      default_rest_reads s h = meets_if _ (is_default_from s.code s.at) _ _
          (λ _. behind_default_reads object below_object m start b at c (tree.export_default (tree.ident at (codes "default"))) s (record { straight = d; place = h }))
          (λ _. meets_then _ (within with_in (expr assignment) s) _ (within_reads (expr assignment) (below assignment) {m = m} with_in s (onward h)) (λ x t g.
          meets_then _ (end faults.Expected t) _ (end_past m faults.Expected t g.place) (λ _ u k. node start (tree.export_default_expr _ x) b k (λ e. both e g.straight) refl)))

      export_default_reads : (s : State) → Past m s.at → Meets (Read m) (export_default stmt expr pat params member object start at s)
      unfolding export_default exported_class exported_function
      export_default_reads s h = meets_if _ (sees kind.Class s.at) _ _
          (λ _. meets_then _ (class_expr (expr left_side) member s) _ (reads (class_expr (expr left_side) member) (class_expr_straight (expr left_side) member (below left_side) below_member) {m = m} s (onward h)) (λ x t g.
          node start (tree.export_default_decl _ x) b g.place (λ e. both e g.straight) refl))
          (λ _. meets_if _ (begins_default_function s.at) _ _
          (λ _. meets_then _ (default_function stmt params s) _ (reads (default_function stmt params) (default_function_straight stmt below_stmt params below_params) {m = m} s (onward h)) (λ x t g.
          node start (tree.export_default_decl _ x) b g.place (λ e. both e g.straight) refl))
          (λ _. default_rest_reads s h))

      default_with_reads : (v : Leading) (s : State) → Many m v.found s.at → Meets (Read m) (default_with stmt expr pat params member object further start at v s)
      unfolding default_with
      default_with_reads v s h = meets_if _ (sees kind.Class s.at) _ _
          (λ _. by_default_reads (decorating v.found (class_expr (expr left_side) member)) (decorating_straight v.found h.straight (class_expr (expr left_side) member) (class_expr_straight (expr left_side) member (below left_side) below_member)) s h.place)
          (λ _. meets_if _ (begins_default_function s.at) _ _
          (λ _. by_default_reads (decorating v.found (default_function stmt params)) (decorating_straight v.found h.straight (default_function stmt params) (default_function_straight stmt below_stmt params below_params)) s h.place)
          (λ _. meets_then _ (misplaced v s) _ (misplaced_past m v s h.place) (λ _ t g. default_rest_reads t g)))

      behind_default_word_reads : (v : Leading) → all_forward (trees v.found) ≡ true → (s : State) → Past m s.at → Meets (Read m) (behind_default_word stmt expr pat params member object further start at v s)
      unfolding behind_default_word
      behind_default_word_reads v a s h = meets_if _ (has_any v.found || begins_decorators s.code s.at) _ _
          (λ _. meets_then _ (later further start v s) _ (later_reads m start v a s h) (λ w t g. default_with_reads w t g)) (λ _. export_default_reads s h)

  -- ---- exports, with what stands before them

  export_from_straight : (v : Leading) → all_forward (trees v.found) ≡ true → Straight (export_from stmt expr pat params member object further v)
  unfolding export_from
  export_from_straight v a s f = let c = behind f in meets_if _ (sees kind.Default (after s.at)) _ _
      (λ _. meets_as (behind_default_word stmt expr pat params member object further (span_at s.at) (span_at (after s.at)) v (moved (moved s)))
      (behind_default_word_reads (far (after (after s.at))) (span_at s.at) (le_trans f.begins c.here.goes_on) (span_at (after s.at)) c.here.begins (span_forward (after s.at) c.here) v a (moved (moved s)) (behind c.here))
      (λ x t k. whole_less c.here.goes_on k))
      (λ _. behind_export_reads (far (after s.at)) (span_at s.at) f.begins v a (moved s) c)

  pub export_with_straight : (v : Leading) → all_forward (trees v.found) ≡ true → Straight (export_with stmt expr pat params member object further v)
  unfolding export_with
  export_with_straight v a s f = meets_if _ (has_any v.found && not (s.code.setting.decorators_before_export && begin_before (span_at s.at) (listed v.found))) _ _ (λ _. reject_meets _ _ s) (λ _. export_from_straight v a s f)

  pub export_item_straight : Straight (export_item stmt expr pat params member object further)
  unfolding export_item
  export_item_straight s f = export_from_straight (no_leading s) refl s f
