-- Trees with decorators: what a class or a function under its name is with a list of them.
use Rattle.std.proofs.Common.{◌≡◌, Bool, true, false, true≢false, List, [], ◌++◌, refl, sym, ◌∙◌, ap, subst, append_assoc}
use Rattle.std.specs.Prelude.{not, ◌&&◌, ◌||◌, nat_lt, if◌then◌else◌}
use Rattle.swc_ecma_parser_common.specs.declared.span.Span.{Span}
use Rattle.swc_ecma_parser_model.specs.Tree as tree
use Rattle.swc_ecma_parser_model.specs.Tree.{Tree, Trees, Text, none, also, listed, trees}
use Rattle.swc_ecma_parser_model.specs.Forms.{span_of, has_plain_params}
use Rattle.swc_ecma_parser_grammar.specs.Notes.{notes}
use Rattle.swc_ecma_parser_grammar.specs.Own.{misplaced_directive}
use Rattle.swc_ecma_parser_grammar.specs.Parameters.{parameters}
use Rattle.swc_ecma_parser_grammar.specs.Walk as walks
use Rattle.swc_ecma_parser_grammar.specs.Walk.{Env, walk, walk_body, walk_class_body, walk_exported, walk_decorators, walk_each_decorator}
use Rattle.swc_ecma_parser_grammar.specs.language.Exports.{all_before}
use Rattle.swc_ecma_parser_grammar.specs.language.Noted.{has_meta}
use Rattle.swc_ecma_parser_reader.specs.Notes.{◌⊕◌, notes_of}
use Rattle.swc_ecma_parser_reader.proofs.Notes.{or_assoc}
use Rattle.swc_ecma_parser_module_reader.specs.Decorated.{with_decorators, none_before}

-- ---- names

-- what a name, or none, has
pub record IsName (i : Tree) : Type 0 where
  pub walked : (env : Env) → walk env i ≡ []
  pub unnoted : notes i ≡ []
  pub no_meta : has_meta i ≡ false

pub ident_name : (s : Span) (text : Text) → IsName (tree.ident s text)
ident_name s text = record { walked = λ env. refl; unnoted = refl; no_meta = refl }

pub absent_name : IsName tree.absent
absent_name = record { walked = λ env. refl; unnoted = refl; no_meta = refl }

-- ---- what takes decorators

-- a tree that holds none, with these before everything else
pub record Takes (x : Tree) : Type 0 where
  pub walked : (ds : List Tree) (env : Env) (s : Span)
      → walk_exported env s (walk (walks.env_in_module env) (with_decorators ds x)) (with_decorators ds x) ≡ walk_decorators env s (listed ds) ++ walk (walks.env_in_module env) x
  pub noted : (ds : List Tree) → notes_of (listed ds) ⊕ notes_of x ≡ notes_of (with_decorators ds x)
  pub bare : with_decorators [] x ≡ x

-- the form of a function without decorators, and that of a class
abbrev pub IsFunction : Tree → Type 0
IsFunction x = (span : Span) × (ps : List Tree) × (body : Tree) × (w : Bool) × (g : Bool) × (x ≡ tree.function span (listed []) (parameters ps) body w g)

abbrev pub IsClass : Tree → Type 0
IsClass x = (span : Span) × (xs : List Tree) × (base : Tree) × (x ≡ tree.class span (listed []) (listed xs) base)

-- lists in the order of the text
behind_function : {A : Type 0} (i d p b m : List A) → i ≡ [] → d ++ p ++ b ++ m ≡ d ++ (i ++ (p ++ b ++ m))
behind_function i d p b m e = rw e (simp (append_assoc) refl)

behind_class : {A : Type 0} (i d p b : List A) → i ≡ [] → d ++ p ++ b ≡ d ++ (i ++ (p ++ b))
behind_class i d p b e = rw e (simp (append_assoc) refl)

notes_behind : {A : Type 0} (i d p b : List A) → i ≡ [] → d ++ (i ++ (p ++ b)) ≡ i ++ (d ++ p ++ b)
notes_behind i d p b e = rw e (simp (append_assoc) refl)

meta_function : (i d p : Bool) → i ≡ false → (d || (i || p)) ≡ (i || (d || p))
meta_function i d p e = rw e refl

meta_class : (i d p b : Bool) → i ≡ false → (d || (i || (p || b))) ≡ (i || ((d || p) || b))
meta_class i d p b e = rw e (sym (or_assoc d p b))

module _ (i : Tree) (h : IsName i) where
  module _ (s : Span) (ps : List Tree) (body : Tree) (w g : Bool) where
    abbrev the_function : Tree
    the_function = tree.function s (listed []) (parameters ps) body w g

    declaration_takes : Takes (tree.fn_decl i the_function)
    declaration_takes = record {
      walked = λ ds env span. let m = walks.env_in_module env in
          behind_function (walk m i) (walk_decorators env span (listed ds)) (walk (walks.env_in_parameters m) (parameters ps)) (walk_body (walks.env_in_body m) body)
          (misplaced_directive (has_plain_params (parameters ps)) body) (h.walked m);
      noted = λ ds k. record {
        held_back = notes_behind (notes i) (notes (listed ds)) (notes (parameters ps)) (notes body) h.unnoted k;
        found_module_item = meta_function (has_meta i) (has_meta (listed ds)) (has_meta (parameters ps)) h.no_meta k;
      };
      bare = refl;
    }

    expression_takes : (r : Span) → Takes (tree.fn_expr r i the_function)
    expression_takes r = record {
      walked = λ ds env span. let m = walks.env_in_module env in
          behind_function (walk m i) (walk_decorators env span (listed ds)) (walk (walks.env_in_parameters m) (parameters ps)) (walk_body (walks.env_in_body m) body)
          (misplaced_directive (has_plain_params (parameters ps)) body) (h.walked m);
      noted = λ ds k. record {
        held_back = notes_behind (notes i) (notes (listed ds)) (notes (parameters ps)) (notes body) h.unnoted k;
        found_module_item = meta_function (has_meta i) (has_meta (listed ds)) (has_meta (parameters ps)) h.no_meta k;
      };
      bare = refl;
    }

  module _ (s : Span) (xs : List Tree) (base : Tree) where
    abbrev the_class : Tree
    the_class = tree.class s (listed []) (listed xs) base

    class_takes : Takes (tree.class_decl i the_class)
    class_takes = record {
      walked = λ ds env span. let c = walks.env_in_class (walks.env_in_module env) in
          behind_class (walk (walks.env_in_module env) i) (walk_decorators env span (listed ds)) (walk c base) (walk_class_body c (listed xs)) (h.walked (walks.env_in_module env));
      noted = λ ds k. record {
        held_back = notes_behind (notes i) (notes (listed ds)) (notes base) (notes (listed xs)) h.unnoted k;
        found_module_item = meta_class (has_meta i) (has_meta (listed ds)) (has_meta base) (has_meta (listed xs)) h.no_meta k;
      };
      bare = refl;
    }

    class_expression_takes : (r : Span) → Takes (tree.class_expr r i the_class)
    class_expression_takes r = record {
      walked = λ ds env span. let c = walks.env_in_class (walks.env_in_module env) in
          behind_class (walk (walks.env_in_module env) i) (walk_decorators env span (listed ds)) (walk c base) (walk_class_body c (listed xs)) (h.walked (walks.env_in_module env));
      noted = λ ds k. record {
        held_back = notes_behind (notes i) (notes (listed ds)) (notes base) (notes (listed xs)) h.unnoted k;
        found_module_item = meta_class (has_meta i) (has_meta (listed ds)) (has_meta base) (has_meta (listed xs)) h.no_meta k;
      };
      bare = refl;
    }

as_form : {x y : Tree} (f : Tree → Tree) → x ≡ y → Takes (f y) → Takes (f x)
as_form f e h = subst (λ z. Takes (f z)) (sym e) h

pub fn_decl_takes : (i x : Tree) → IsName i → IsFunction x → Takes (tree.fn_decl i x)
fn_decl_takes i x h (s, ps, body, w, g, e) = as_form (tree.fn_decl i) e (declaration_takes i h s ps body w g)

pub fn_expr_takes : (r : Span) (i x : Tree) → IsName i → IsFunction x → Takes (tree.fn_expr r i x)
fn_expr_takes r i x h (s, ps, body, w, g, e) = as_form (tree.fn_expr r i) e (expression_takes i h s ps body w g r)

pub class_decl_takes : (i x : Tree) → IsName i → IsClass x → Takes (tree.class_decl i x)
class_decl_takes i x h (s, xs, base, e) = as_form (tree.class_decl i) e (class_takes i h s xs base)

pub class_expr_takes : (r : Span) (i x : Tree) → IsName i → IsClass x → Takes (tree.class_expr r i x)
class_expr_takes r i x h (s, xs, base, e) = as_form (tree.class_expr r i) e (class_expression_takes i h s xs base r)

-- ---- the walk of decorators behind the words of an export

-- each is walked as module code where none begins before the words
pub walked_behind : (env : Env) (s : Span) (ds : Trees) → none_before s.lo ds ≡ true → walk_each_decorator env s ds ≡ walks.walks (walks.env_in_module env) false ds
walked_behind env s none h = refl
walked_behind env s (also d ds) h = by_case (nat_lt (span_of d).lo.0 s.lo.0) h (walked_behind env s ds)
  where
    by_case : (b : Bool) → (not b && none_before s.lo ds) ≡ true → (none_before s.lo ds ≡ true → walk_each_decorator env s ds ≡ walks.walks (walks.env_in_module env) false ds)
        → walk (if b then env else walks.env_in_module env) d ++ walk_each_decorator env s ds ≡ walk (walks.env_in_module env) d ++ walks.walks (walks.env_in_module env) false ds
    by_case true h f = cc
    by_case false h f = ap (λ z. walk (walks.env_in_module env) d ++ z) (f h)

pub behind_walk : (env : Env) (s : Span) (ds : List Tree) → none_before s.lo (trees ds) ≡ true → walk_decorators env s (listed ds) ≡ walk (walks.env_in_module env) (listed ds)
behind_walk env s ds h = walked_behind env s (trees ds) h

-- so the walk has no other code for them in module code
pub decorators_same : (env : Env) (s : Span) (ds : List Tree) → none_before s.lo (trees ds) ≡ true → walk_decorators (walks.env_in_module env) s (listed ds) ≡ walk_decorators env s (listed ds)
decorators_same env s ds h = behind_walk (walks.env_in_module env) s ds h ∙ sym (behind_walk env s ds h)

-- ---- decorators before an export

-- each is walked as the code around
walked_before : (env : Env) (s : Span) (ds : Trees) → all_before s ds ≡ true → walk_each_decorator env s ds ≡ walks.walks env false ds
walked_before env s none h = refl
walked_before env s (also d ds) h = by_case (nat_lt (span_of d).lo.0 s.lo.0) h (walked_before env s ds)
  where
    by_case : (b : Bool) → (b && all_before s ds) ≡ true → (all_before s ds ≡ true → walk_each_decorator env s ds ≡ walks.walks env false ds)
        → walk (if b then env else walks.env_in_module env) d ++ walk_each_decorator env s ds ≡ walk env d ++ walks.walks env false ds
    by_case true h f = ap (λ z. walk env d ++ z) (f h)
    by_case false h f = absurd (true≢false (sym h))

pub before_walk : (env : Env) (s : Span) (ds : List Tree) → all_before s (trees ds) ≡ true → walk_decorators env s (listed ds) ≡ walk env (listed ds)
before_walk env s ds h = walked_before env s (trees ds) h
