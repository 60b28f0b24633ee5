-- What the code of exported classes and functions cites: with decorators they are read step by step as without, and take them last.
use Rattle.std.proofs.Common.{◌≡◌, Bool, List, [], Ok, Err, refl, sym, ◌∙◌, ap}
use Rattle.swc_ecma_parser_common.specs.declared.span.Span.{Span}
use Rattle.swc_ecma_parser_error.specs.Kind as faults
use Rattle.swc_ecma_parser_token.specs.declared.kind.TokenKind.TheVariants as kind
use Rattle.swc_ecma_parser_model.specs.Tree as tree
use Rattle.swc_ecma_parser_model.specs.Tree.{Tree, listed}
use Rattle.swc_ecma_parser_grammar.specs.Looks.{span_at}
use Rattle.swc_ecma_parser_grammar.specs.Parameters.{parameters}
use Rattle.swc_ecma_parser_grammar.specs.language.Contexts.{in_class, in_parameters, with_in}
use Rattle.swc_ecma_parser_reader.specs.Dressed.{class_parts_with, named_class_with, class_decl_with, unnamed_class_with, class_expr_with, function_parts_with, function_decl_with}
use Rattle.swc_ecma_parser_reader.specs.Members.{extended, surplus, members, class_parts, named_class, class_decl, class_name, unnamed_class, class_expr}
use Rattle.swc_ecma_parser_reader.specs.Methods.{star}
use Rattle.swc_ecma_parser_reader.specs.Reader.{close, misdirected, named, function_body, function_word, function_parts, function_decl}
use Rattle.swc_ecma_parser_reader.specs.State.{State, Outcome, Reader, and_then, moved, coded, flagged, within, expect, name}
use Rattle.swc_ecma_parser_module_reader.specs.Decorated.{with_decorators, decorating, default_function_with}
use Rattle.swc_ecma_parser_module_reader.specs.Exports.{default_name, default_function}

-- steps that are the same, and what comes behind them is
then_same : {A B C : Type 0} (o : Outcome A) (f g : A → Reader B) (k l : B → Reader C) → ((a : A) (s : State) → and_then (f a s) k ≡ and_then (g a s) l)
    → and_then (and_then o f) k ≡ and_then (and_then o g) l
then_same (Ok p) f g k l h = h p.0 p.1
then_same (Err e) f g k l h = refl

steps_as : {A B : Type 0} (o : Outcome A) (f g : A → Reader B) → ((a : A) (s : State) → f a s ≡ g a s) → and_then o f ≡ and_then o g
steps_as (Ok p) f g h = h p.0 p.1
steps_as (Err e) f g h = refl

then_as : {A B C : Type 0} (o : Outcome A) (f : A → Reader B) (k : B → Reader C) (g : A → Reader C) → ((a : A) (s : State) → and_then (f a s) k ≡ g a s) → and_then (and_then o f) k ≡ and_then o g
then_as (Ok p) f k g h = h p.0 p.1
then_as (Err e) f k g h = refl

-- two steps behind a first
twice : {A B C : Type 0} (o : Outcome A) (f : A → Reader B) (g : B → Reader C) → and_then (and_then o f) g ≡ and_then o (λ a t. and_then (f a t) g)
twice (Ok p) f g = refl
twice (Err e) f g = refl

flags_last : (k : State) (o : Outcome Tree) (f : Tree → Tree) → and_then (and_then o (λ x t. Ok (x, flagged k.code t))) (λ x t. Ok (f x, t)) ≡ and_then (and_then o (λ x t. Ok (f x, t))) (λ x t. Ok (x, flagged k.code t))
flags_last k (Ok p) f = refl
flags_last k (Err e) f = refl

-- ---- classes

module _ (heritage member : Reader Tree) where
  -- what is done with a class, as far as it is the same of each
  class_steps : (start : Span) (s : State) (f g : Tree → Reader Tree) → ((span : Span) (xs : List Tree) (base : Tree) (t : State) → span.lo ≡ start.lo
      → f (tree.class span (listed []) (listed xs) base) t ≡ g (tree.class span (listed []) (listed xs) base) t) → and_then (class_parts heritage member start s) f ≡ and_then (class_parts heritage member start s) g
  unfolding class_parts
  class_steps start s f g h = then_same (extended heritage member s) _ _ _ _ (λ x t. then_same (surplus heritage member t) _ _ _ _ (λ _ u. then_same (expect kind.LBrace u) _ _ _ _ (λ _ v.
      then_same (within with_in (members heritage member) v) _ _ _ _ (λ xs w. then_same (close w) _ _ _ _ (λ _ o. h (record { lo = start.lo; hi = o.at.last.hi }) xs x o refl)))))

  named_dressed : (ds : List Tree) (s : State) → and_then (named_class heritage member s) (λ x t. Ok (with_decorators ds x, t)) ≡ named_class_with heritage member ds (span_at s.at) s
  unfolding named_class named_class_with class_parts_with
  named_dressed ds s = then_as (named (moved s)) _ _ _ (λ i t. twice (class_parts heritage member (span_at s.at) t) _ _
      ∙ class_steps (span_at s.at) t _ _ (λ span xs base u e. ap (λ z. Ok (tree.class_decl i (tree.class (record { lo = z; hi = span.hi }) (listed ds) (listed xs) base), u)) e)
      ∙ sym (twice (class_parts heritage member (span_at s.at) t) _ _))

  pub class_dressed : (ds : List Tree) (s : State) → decorating ds (class_decl heritage member) s ≡ class_decl_with heritage member ds (span_at s.at) s
  unfolding decorating class_decl class_decl_with
  class_dressed ds s = flags_last s (named_class heritage member (coded (in_class s.code) s)) (with_decorators ds)
      ∙ ap (λ z. and_then z (λ x t. Ok (x, flagged s.code t))) (named_dressed ds (coded (in_class s.code) s))

  unnamed_dressed : (ds : List Tree) (s : State) → and_then (unnamed_class heritage member s) (λ x t. Ok (with_decorators ds x, t)) ≡ unnamed_class_with heritage member ds s
  unfolding unnamed_class unnamed_class_with class_parts_with
  unnamed_dressed ds s = then_as (class_name heritage member (moved s)) _ _ _ (λ i t. twice (class_parts heritage member (span_at s.at) t) _ _
      ∙ class_steps (span_at s.at) t _ _
      (λ span xs base u e. ap (λ z. Ok (tree.class_expr (record { lo = z; hi = span.hi }) i (tree.class (record { lo = z; hi = span.hi }) (listed ds) (listed xs) base), u)) e)
      ∙ sym (twice (class_parts heritage member (span_at s.at) t) _ _))

  pub class_expr_dressed : (ds : List Tree) (s : State) → decorating ds (class_expr heritage member) s ≡ class_expr_with heritage member ds s
  unfolding decorating class_expr class_expr_with
  class_expr_dressed ds s = flags_last s (unnamed_class heritage member (coded (in_class s.code) s)) (with_decorators ds)
      ∙ ap (λ z. and_then z (λ x t. Ok (x, flagged s.code t))) (unnamed_dressed ds (coded (in_class s.code) s))

-- ---- functions

module _ (stmt : Reader Tree) (params : Reader (List Tree)) where
  function_steps : (w v : Bool) (start : Span) (s : State) (f g : Tree → Reader Tree) → ((span : Span) (ps : List Tree) (body : Tree) (t : State)
      → f (tree.function span (listed []) (parameters ps) body w v) t ≡ g (tree.function span (listed []) (parameters ps) body w v) t)
      → and_then (function_parts stmt params w v start s) f ≡ and_then (function_parts stmt params w v start s) g
  unfolding function_parts
  function_steps w v start s f g h = then_same (within (λ k. in_parameters k w v) params s) _ _ _ _ (λ ps t. then_same (function_body stmt params w v t) _ _ _ _ (λ x u.
      then_same (misdirected (parameters ps) x u) _ _ _ _ (λ _ o. h (record { lo = start.lo; hi = u.at.last.hi }) ps x o)))

  pub function_dressed : (ds : List Tree) (s : State) → decorating ds (function_decl stmt params) s ≡ function_decl_with stmt params ds s
  unfolding decorating function_decl function_decl_with function_parts_with
  function_dressed ds s = then_as (function_word s) _ _ _ (λ w t. then_as (star t) _ _ _ (λ g u. then_as (name faults.ExpectedIdent u) _ _ _ (λ i v.
      twice (function_parts stmt params w g (span_at s.at) v) _ _ ∙ function_steps w g (span_at s.at) v _ _ (λ span ps body o. refl) ∙ sym (twice (function_parts stmt params w g (span_at s.at) v) _ _))))

  pub default_function_dressed : (ds : List Tree) (s : State) → decorating ds (default_function stmt params) s ≡ default_function_with stmt params ds s
  unfolding decorating default_function default_function_with function_parts_with
  default_function_dressed ds s = then_as (function_word s) _ _ _ (λ w t. then_as (star t) _ _ _ (λ g u. then_as (default_name u) _ _ _ (λ i v.
      twice (function_parts stmt params w g (span_at s.at) v) _ _ ∙ function_steps w g (span_at s.at) v _ _ (λ span ps body o. refl) ∙ sym (twice (function_parts stmt params w g (span_at s.at) v) _ _))))
