-- What imports and exports share, and imports, run forward.
use Rattle.std.proofs.Common.{ℕ, ◌≤◌, List, [], Option, Some, refl}
use Rattle.std.specs.Prelude.{◌||◌, codes}
use Rattle.swc_ecma_parser_common.specs.declared.span.Span.{Span}
use Rattle.swc_ecma_parser_error.specs.Kind as faults
use Rattle.swc_ecma_parser_token.specs.declared.kind.TokenKind.TheVariants as kind
use Rattle.swc_ecma_parser_input.specs.Place.{after}
use Rattle.swc_ecma_parser_model.specs.declared.leaves.Ident.{Ident}
use Rattle.swc_ecma_parser_model.specs.declared.leaves.ImportPhase.{ImportPhase}
use Rattle.swc_ecma_parser_model.specs.declared.leaves.ImportPhase.TheVariants as phase
use Rattle.swc_ecma_parser_model.specs.Tree as tree
use Rattle.swc_ecma_parser_model.specs.Tree.{Tree, listed}
use Rattle.swc_ecma_parser_grammar.specs.Follows.{word_at}
use Rattle.swc_ecma_parser_grammar.specs.Looks.{sees, span_at}
use Rattle.swc_ecma_parser_grammar.specs.Names.{is_name}
use Rattle.swc_ecma_parser_grammar.specs.language.Contexts.{outside_functions}
use Rattle.swc_ecma_parser_grammar.specs.language.Imports.{follows_phase}
use Rattle.swc_ecma_parser_grammar.specs.language.ModuleParts.{begins_attributes}
use Rattle.swc_ecma_parser_reader.specs.Operands.{literal}
use Rattle.swc_ecma_parser_reader.specs.State.{State, Reader, moved, coded, name, expect, expect_word, end, loop}
use Rattle.swc_ecma_parser_reader.specs.Words.{any_word}
use Rattle.swc_ecma_parser_reader.proofs.Meets.{Meets, Refuses, meets_then, meets_if, wanted_meets, loop_answers, refuse_meets}
use Rattle.swc_ecma_parser_reader.proofs.expressions.SoundSteps.{reject_meets}
use Rattle.swc_ecma_parser_span_order.proofs.Operands.{ReadIf, literal_reads, word_straight}
use Rattle.swc_ecma_parser_span_order.proofs.Places.{far, Past, Ahead, Read, ReadPart, ReadMany, ReadName, Straight, Whole, both, onward, next, behind, node, reads, reads_part, past_less, named_less}
use Rattle.swc_ecma_parser_span_order.proofs.Steps.{expect_past, expect_word_past, end_past, any_word_past, name_ahead}
use Rattle.swc_ecma_parser_span_order.proofs.Trees.{one_more}
use Rattle.swc_ecma_parser_module_reader.specs.Imports.{str_or, str, source, module_name, attributes, specifiers_turn, specifiers, same_name, other_name, import_specifier, binding_name, import_namespace, bindings, more_bindings, default_binding, import_clause, imported, import_from, phase_of, import_phased, is_phase_word, import_decl, begins_bindings, begins_clause, import_unphased}

-- ---- what imports and exports share

str_or_reads : (m : ℕ) (o : Option Tree) (s : State) → ReadIf m o s → Meets (Read m) (str_or o s)
str_or_reads m (Some (tree.str span value raw)) s h = h
str_or_reads m _ s h = wanted_meets _ faults.Unexpected s

pub str_straight : Straight str
unfolding str
str_straight s f = meets_if _ (sees kind.Str s.at) _ _ (λ _. meets_then _ (literal s) _ (literal_reads s f) (λ o t h. str_or_reads (far (after s.at)) o t h)) (λ _. wanted_meets _ faults.Unexpected s)

pub source_reads : (m : ℕ) (s : State) → Past m s.at → Meets (Read m) (source s)
unfolding source
source_reads m s h = meets_then _ (expect_word (codes "from") s) _ (expect_word_past m (codes "from") s h) (λ _ t g. reads str str_straight {m = m} t (onward g))

pub module_name_straight : Straight module_name
unfolding module_name
module_name_straight s f = meets_if _ (sees kind.Str s.at) _ _ (λ _. str_straight s f) (λ _. word_straight s f)

pub attributes_read : (object : Reader Tree) → Straight object → (m : ℕ) (s : State) → Past m s.at → Meets (ReadPart m) (attributes object s)
unfolding attributes
attributes_read object below m s h = meets_if _ (begins_attributes s.code s.at) _ _ (λ _. reads_part object below {m = m} (moved s) (onward (next h))) (λ _. record { straight = refl; place = h })

pub specifiers_read : (specifier : Reader Tree) → Straight specifier → (m : ℕ) (s : State) → Past m s.at → Meets (ReadMany m) (specifiers specifier s)
unfolding specifiers specifiers_turn
specifiers_read specifier below m s h = meets_then _ (expect kind.LBrace s) _ (expect_past m kind.LBrace s h) (λ _ t g.
    meets_then _ (loop (specifiers_turn specifier) [] t) _ (loop_answers (specifiers_turn specifier) (ReadMany m) (ReadMany m) Refuses
    (λ found u k. meets_if _ (sees kind.RBrace u.at) _ _ (λ _. k) (λ _. meets_then _ (specifier u) _ (reads_part specifier below {m = m} u (onward k.place)) (λ x v j. let l = one_more k j in
    meets_if _ (sees kind.Comma v.at) _ _ (λ _. record { straight = l.straight; place = next l.place }) (λ _. l))))
    (λ _. tt) [] t (record { straight = refl; place = g })) (λ xs u k.
    meets_then _ (expect kind.RBrace u) _ (expect_past m kind.RBrace u k.place) (λ _ v j. record { straight = k.straight; place = j })))

-- ---- imports

same_name_reads : (m : ℕ) (start : Span) → start.lo.0 ≤ m → (x : Tree) (s : State) → Read m x s → Meets (Read m) (same_name start x s)
same_name_reads m start b (tree.ident span text) s h = meets_if _ (is_name s.code.flags text) _ _ (λ _. node start (tree.import_named _ (tree.ident span text) tree.absent) b h.place (λ e. both e (both h.straight refl)) refl)
    (λ _. reject_meets _ _ s)
same_name_reads m start b (tree.str span value raw) s h = reject_meets _ _ s
same_name_reads m start b _ s h = wanted_meets _ faults.Unexpected s

other_name_reads : (m : ℕ) (start : Span) → start.lo.0 ≤ m → (x : Tree) (s : State) → Read m x s → Meets (Read m) (other_name start x s)
unfolding other_name
other_name_reads m start b x s h = meets_then _ (name faults.ExpectedIdent (moved s)) _ (name_ahead {m = m} faults.ExpectedIdent (moved s) (onward (next h.place))) (λ i t g.
    node start (tree.import_named _ (tree.ident i.span i.sym) x) b g.place (λ e. both e (both g.straight h.straight)) refl)

specifier_straight : Straight import_specifier
unfolding import_specifier
specifier_straight s f = meets_then _ (module_name s) _ (module_name_straight s f) (λ x t h. meets_if _ (word_at (codes "as") t.at) _ _
    (λ _. other_name_reads (far (after s.at)) (span_at s.at) f.begins x t h) (λ _. same_name_reads (far (after s.at)) (span_at s.at) f.begins x t h))

binding_reads : (m : ℕ) (s : State) → Ahead m s.at → Meets (ReadName m) (binding_name s)
unfolding binding_name
binding_reads m s a = let t = coded (outside_functions s.code) s in meets_then (ReadName m) (name faults.ExpectedIdent t) _ (name_ahead {m = m} faults.ExpectedIdent t a) (λ i u h. h)

namespace_reads : (m : ℕ) (s : State) → Past m s.at → Meets (ReadMany m) (import_namespace s)
unfolding import_namespace
namespace_reads m s h = let f = h.here in let k = far (after s.at) in meets_then _ (expect_word (codes "as") (moved s)) _ (expect_word_past k (codes "as") (moved s) (behind f)) (λ _ t g.
    meets_then _ (binding_name t) _ (binding_reads k t (onward g)) (λ i u j.
    let w : Whole k (tree.import_namespace (record { lo = (span_at s.at).lo; hi = u.at.last.hi }) (tree.ident i.span i.sym)) u.at = node (span_at s.at) _ f.begins j.place (λ e. both e j.straight) refl in
    record { straight = both w.straight refl; place = past_less (onward h).ahead w.place }))

bindings_read : (m : ℕ) (s : State) → Past m s.at → Meets (ReadMany m) (bindings s)
unfolding bindings
bindings_read m s h = meets_if _ (sees kind.Mul s.at) _ _ (λ _. namespace_reads m s h) (λ _. specifiers_read import_specifier specifier_straight m s h)

more_bindings_read : (m : ℕ) (s : State) → Past m s.at → Meets (ReadMany m) (more_bindings s)
unfolding more_bindings
more_bindings_read m s h = meets_if _ (sees kind.Comma s.at) _ _ (λ _. meets_if _ (begins_bindings (after s.at)) _ _ (λ _. bindings_read m (moved s) (next h)) (λ _. record { straight = refl; place = next h }))
    (λ _. record { straight = refl; place = h })

default_binding_reads : (m : ℕ) (i : Ident) (s : State) → ReadName m i s → Meets (ReadMany m) (default_binding i s)
unfolding default_binding
default_binding_reads m i s h = meets_then _ (more_bindings s) _ (more_bindings_read m s h.place) (λ xs t g. record { straight = both (both h.straight h.straight) g.straight; place = g.place })

import_clause_reads : (m : ℕ) (s : State) → Past m s.at → Meets (ReadMany m) (import_clause s)
unfolding import_clause
import_clause_reads m s h = meets_if _ (begins_bindings s.at) _ _ (λ _. bindings_read m s h)
    (λ _. meets_then _ (binding_name s) _ (binding_reads m s (onward h)) (λ i t g. default_binding_reads m i t g))

module _ (object : Reader Tree) (below : Straight object) where
  module _ (m : ℕ) (start : Span) (b : start.lo.0 ≤ m) where
    imported_reads : (p : ImportPhase) (xs : List Tree) (from : Reader Tree) → ((t : State) → Past m t.at → Meets (Read m) (from t)) → (s : State) → ReadMany m xs s → Meets (Read m) (imported object start p xs from s)
    unfolding imported
    imported_reads p xs from below_from s h = meets_then _ (from s) _ (below_from s h.place) (λ x t g.
        meets_then _ (attributes object t) _ (attributes_read object below m t g.place) (λ y u k.
        meets_then _ (end faults.Expected u) _ (end_past m faults.Expected u k.place) (λ _ v j.
        node start (tree.import _ (listed xs) x y p) b j (λ e. both e (both h.straight (both g.straight k.straight))) refl)))

    import_from_reads : (p : ImportPhase) (s : State) → Past m s.at → Meets (Read m) (import_from object start p s)
    unfolding import_from
    import_from_reads p s h = meets_then _ (import_clause s) _ (import_clause_reads m s h) (λ xs t g. imported_reads p xs source (λ u k. source_reads m u k) t g)

    import_phased_reads : (s : State) → Past m s.at → Meets (Read m) (import_phased object start s)
    unfolding import_phased
    import_phased_reads s h = meets_then _ (any_word s) _ (any_word_past s h.here) (λ i t g. let n : Past m t.at = past_less (onward h).ahead g.place in
        meets_if _ (follows_phase t.code t.at) _ _ (λ _. import_from_reads (phase_of i.sym) t n)
        (λ _. meets_then _ (default_binding i t) _ (default_binding_reads m i t (named_less (onward h).ahead g)) (λ xs u k. imported_reads phase.Evaluation xs source (λ v j. source_reads m v j) u k)))

    import_unphased_reads : (s : State) → Past m s.at → Meets (Read m) (import_unphased object start s)
    unfolding import_unphased
    import_unphased_reads s h = meets_if _ (begins_clause s.code s.at) _ _ (λ _. import_from_reads phase.Evaluation s h) (λ _. refuse_meets _ faults.Expected s)

  pub import_straight : Straight (import_decl object)
  unfolding import_decl
  import_straight s f = let m = far (after s.at) in meets_if _ (sees kind.Str (after s.at)) _ _
      (λ _. imported_reads m (span_at s.at) f.begins phase.Evaluation [] str (λ t h. reads str str_straight t (onward h)) (moved s) (record { straight = refl; place = behind f }))
      (λ _. meets_if _ (is_phase_word (after s.at)) _ _ (λ _. import_phased_reads m (span_at s.at) f.begins (moved s) (behind f)) (λ _. import_unphased_reads m (span_at s.at) f.begins (moved s) (behind f)))
