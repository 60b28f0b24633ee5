-- Names that are none of the module itself, by what the code asks of an exported name.
use Rattle.std.proofs.Common.{◌≡◌, ℕ, suc, ◌+◌, ◌<◌, arith, length, drop, get_or, map, true, false, List, [], ◌∷◌, ◌++◌, Option, Some, Ok, Err, refl, sym, ◌∙◌, ap}
use Rattle.std.proofs.Math.Seq.{drop-cons}
use Rattle.swc_ecma_parser_error.specs.Kind as faults
use Rattle.swc_ecma_parser_error.specs.Kind.{Fault}
use Rattle.swc_ecma_parser_model.specs.Forms.{span_of, key_text}
use Rattle.swc_ecma_parser_model.specs.Kinds.{is_str}
use Rattle.swc_ecma_parser_model.specs.Tree as tree
use Rattle.swc_ecma_parser_model.specs.Tree.{Tree, Text, trees}
use Rattle.swc_ecma_parser_model.specs.Within.{is_export_namespace, is_export_default, export_name, export_text}
use Rattle.swc_ecma_parser_grammar.specs.Names.{is_one_of, reserved_words}
use Rattle.swc_ecma_parser_grammar.specs.Own.{fault, only, specifier_faults, each_specifier}
use Rattle.swc_ecma_parser_reader.specs.Jumps.{told}
use Rattle.swc_ecma_parser_reader.specs.State.{State, Outcome, and_then}
use Rattle.swc_ecma_parser_reader.specs.State as reader

-- ---- what is told of each

pub namespace_faults : (x : Tree) → is_export_namespace x ≡ true → specifier_faults x ≡ fault faults.ExportExpectFrom (span_of x) ∷ []
namespace_faults (tree.export_namespace s name) e = refl
namespace_faults _ e = cc

pub default_faults : (x : Tree) → is_export_default x ≡ true → specifier_faults x ≡ fault faults.ExportExpectFrom (span_of (export_name x)) ∷ []
default_faults (tree.export_default exported) e = refl
default_faults _ e = cc

named_faults : (s : _) (orig exported : Tree) → is_str orig ≡ true → specifier_faults (tree.export_specifier s orig exported) ≡ fault faults.ExportBindingIsString (span_of orig) ∷ []
named_faults s (tree.str t value raw) exported e = refl
named_faults s _ exported e = cc

pub string_faults : (x : Tree) → is_export_namespace x ≡ false → is_export_default x ≡ false → is_str (export_name x) ≡ true → specifier_faults x ≡ fault faults.ExportBindingIsString (span_of (export_name x)) ∷ []
string_faults (tree.export_specifier s orig exported) h g e = named_faults s orig exported e
string_faults (tree.export_namespace s name) h g e = cc
string_faults (tree.export_default exported) h g e = cc
string_faults _ h g e = cc

worded_faults : (s : _) (orig exported : Tree) (text : Text) → is_str orig ≡ false → Some text ≡ key_text orig
    → specifier_faults (tree.export_specifier s orig exported) ≡ only (is_one_of reserved_words text) faults.ExportExpectFrom (span_of orig)
worded_faults s (tree.ident t word) exported text e h = ap (λ z. only (is_one_of reserved_words z) faults.ExportExpectFrom t) (same h)
  where
    same : ◌≡◌ {A = Option Text} (Some text) (Some word) → word ≡ text
    same i = cc
worded_faults s (tree.str t value raw) exported text e h = cc
worded_faults s _ exported text e h = cc

pub word_faults : (x : Tree) (text : Text) → is_export_namespace x ≡ false → is_export_default x ≡ false → is_str (export_name x) ≡ false → Some text ≡ export_text x
    → specifier_faults x ≡ only (is_one_of reserved_words text) faults.ExportExpectFrom (span_of (export_name x))
word_faults (tree.export_specifier s orig exported) text h g e i = worded_faults s orig exported text e i
word_faults (tree.export_namespace s name) text h g e i = cc
word_faults (tree.export_default exported) text h g e i = cc
word_faults _ text h g e i = cc

-- ---- one behind another

told_behind : (fs gs : List Fault) → ((u : State) → told (fs ++ gs) u ≡ and_then (told fs u) (λ _. told gs)) → (o : Outcome (Unit {0}))
    → and_then o (λ _. told (fs ++ gs)) ≡ and_then (and_then o (λ _. told fs)) (λ _. told gs)
told_behind fs gs h (Ok p) = h p.1
told_behind fs gs h (Err e) = refl

told_then : (fs gs : List Fault) (s : State) → told (fs ++ gs) s ≡ and_then (told fs s) (λ _. told gs)
told_then [] gs s = refl
told_then (f ∷ fs) gs s = told_behind fs gs (λ u. told_then fs gs u) (reader.fault f s)

-- one alone
nothing_more : (o : Outcome (Unit {0})) → and_then o (λ _. told []) ≡ o
nothing_more (Ok p) = refl
nothing_more (Err e) = refl

pub told_one : (f : Fault) (s : State) → told (f ∷ []) s ≡ reader.fault f s
told_one f s = nothing_more (reader.fault f s)

pub told_ok : (fs gs : List Fault) (s t : State) → told fs s ≡ Ok (tt, t) → told (fs ++ gs) s ≡ told gs t
told_ok fs gs s t e = told_then fs gs s ∙ ap (λ o. and_then o (λ _. told gs)) e

pub told_err : (fs gs : List Fault) (s : State) (e : Fault × State) → told fs s ≡ Err e → told (fs ++ gs) s ≡ Err e
told_err fs gs s e h = told_then fs gs s ∙ ap (λ o. and_then o (λ _. told gs)) h

-- what those from one on come to
pub each_from : {X : Type 0} (v : X → Tree) (xs : List X) (i : ℕ) (x : X) → i < length xs → x ≡ get_or xs i x
    → each_specifier (trees (map v (drop i xs))) ≡ specifier_faults (v x) ++ each_specifier (trees (map v (drop (suc i) xs)))
each_from v xs i x h e = ap (λ ys. each_specifier (trees (map v ys))) (drop-cons xs i x h) ∙ ap (λ y. specifier_faults (v y) ++ each_specifier (trees (map v (drop (suc i) xs)))) (sym e)

-- the same with the next number as the code counts it
next_one : (i : ℕ) → suc i ≡ i + 1
next_one i = omega arith

pub each_next : {X : Type 0} (v : X → Tree) (xs : List X) (i : ℕ) → each_specifier (trees (map v (drop (suc i) xs))) ≡ each_specifier (trees (map v (drop (i + 1) xs)))
each_next v xs i = ap (λ j. each_specifier (trees (map v (drop j xs)))) (next_one i)
