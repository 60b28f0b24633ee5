-- Arrow functions, and what stands in parentheses where one may begin, run forward.
use Rattle.std.proofs.Common.{◌≡◌, ℕ, ◌≤◌, Bool, true, false, cond, List, [], ◌∷◌, ◌++◌, Option, Some, None, refl, le_trans, le-leb}
use Rattle.swc_ecma_parser_common.specs.declared.span.Span.{Span}
use Rattle.swc_ecma_parser_error.specs.Kind as faults
use Rattle.swc_ecma_parser_token.specs.declared.kind.TokenKind.TheVariants as kind
use Rattle.swc_ecma_parser_input.specs.Place.{Place, after}
use Rattle.swc_ecma_parser_model.specs.Forms.{span_of, has_plain_params}
use Rattle.swc_ecma_parser_model.specs.Targets.{as_parameter}
use Rattle.swc_ecma_parser_model.specs.Tree as tree
use Rattle.swc_ecma_parser_model.specs.Tree.{Tree, trees, listed}
use Rattle.swc_ecma_parser_grammar.specs.Looks.{breaks_at, sees, span_at}
use Rattle.swc_ecma_parser_grammar.specs.Own.{misplaced_directive}
use Rattle.swc_ecma_parser_grammar.specs.language.Contexts.{in_arrow, with_in}
use Rattle.swc_ecma_parser_grammar.specs.language.Goals.{Class, assignment}
use Rattle.swc_ecma_parser_grammar.proofs.Tests.{and_yes}
use Rattle.swc_ecma_parser_reader.specs.Arrows.{Parts, Group, closed_parts, parted, has_parts, may_stand_alone, closed_group, parameter_or, parameter, rest_list, parameters_of, arrow_body, arrow_from, named_arrow, rest_part, part_turn, group_parts, group, behind_group, grouped}
use Rattle.swc_ecma_parser_reader.specs.AsyncArrows.{Argument, followed, closed_argument, closed_arguments, argument_pattern, argument_parameter, argument_parameters, async_called, spread_argument, plain_argument, argument, either_turn, either_arguments, async_named_arrow, behind_async, async_grouped}
use Rattle.swc_ecma_parser_reader.specs.Expressions.{Cover, close, covered, ident_expr}
use Rattle.swc_ecma_parser_span_order.specs.Forward.{is_forward, forward, all_forward}
use Rattle.swc_ecma_parser_reader.specs.Jumps.{told}
use Rattle.swc_ecma_parser_reader.specs.Methods.{FunctionForm, parameter_form, block_form}
use Rattle.swc_ecma_parser_reader.specs.State.{State, Reader, moved, within, enclosed, fault_at, expect, loop}
use Rattle.swc_ecma_parser_reader.proofs.Meets.{Meets, Refuses, meets_then, meets_if, wanted_meets, refuse_meets, loop_answers}
use Rattle.swc_ecma_parser_reader.proofs.expressions.SoundSteps.{reject_meets, meets_as}
use Rattle.swc_ecma_parser_span_order.proofs.Operands.{StraightCover, FunctionsStraight, close_meets, moved_on, ident_straight, covered_reads, continued_reads}
use Rattle.swc_ecma_parser_span_order.proofs.Places.{far, Here, Past, Ahead, Read, ReadPart, ReadMany, Straight, Whole, Part, both, onward, first as at_first, next, behind, node, reads, past_less}
use Rattle.swc_ecma_parser_span_order.proofs.Steps.{expect_past, told_past, within_reads, enclosed_reads, dotted_by}
use Rattle.swc_ecma_parser_span_order.proofs.Trees.{ForwardIf, own_forward, parameter_forward, rest_parameter_forward, unless_forward}

-- ---- what stands in parentheses

abbrev cover_trees : List Cover → List Tree
cover_trees [] = []
cover_trees (v ∷ vs) = v.x ∷ cover_trees vs

abbrev AllCover : List Cover → Type 0
AllCover vs = all_forward (trees (cover_trees vs)) ≡ true

one_cover : (vs : List Cover) (v : Cover) → AllCover vs → forward v.x ≡ true → AllCover (vs ++ v ∷ [])
one_cover [] v h g = both g refl
one_cover (w ∷ vs) v h g = let p = and_yes (forward w.x) _ h in both p.0 (one_cover vs v p.1 g)

-- parts, the last of which ends so far
record PartsRead (n : ℕ) (g : Parts) (c : Place) : Type 0 where
  parts : AllCover g.parts
  rest : all_forward (trees (rest_list g.rest)) ≡ true
  place : Past n c

-- parts, or none
record SomeParts (n m : ℕ) (g : Parts) (c : Place) : Type 0 where
  parts : AllCover g.parts
  rest : all_forward (trees (rest_list g.rest)) ≡ true
  reached : has_parts g.parts ≡ true → n ≤ far c
  place : Past m c

record GroupRead (m : ℕ) (g : Group) (c : Place) : Type 0 where
  parts : AllCover g.parts
  rest : all_forward (trees (rest_list g.rest)) ≡ true
  spans : has_parts g.parts ≡ true → is_forward (record { lo = g.first.lo; hi = g.last.hi }) ≡ true
  place : Past m c

closed_parts_read : (m : ℕ) (vs : List Cover) (s : State) → AllCover vs → Past m s.at → Meets (ReadMany m) (closed_parts vs s)
closed_parts_read m [] s h g = record { straight = refl; place = g }
closed_parts_read m (v ∷ vs) s h g = let p = and_yes (forward v.x) _ h in
    meets_then _ (close v s) _ (close_meets (ReadPart m) v s (record { straight = p.0; place = g })) (λ x t k.
    meets_then _ (closed_parts vs t) _ (closed_parts_read m vs t p.1 k.place) (λ xs u j. record { straight = both k.straight j.straight; place = j.place }))

parted_forward : (first last : Span) (xs : List Tree) → is_forward (record { lo = first.lo; hi = last.hi }) ≡ true → all_forward (trees xs) ≡ true → forward (parted first last xs) ≡ true
parted_forward first last [] e h = both e h
parted_forward first last (x ∷ []) e h = (and_yes (forward x) _ h).0
parted_forward first last (x ∷ y ∷ ys) e h = both e h

parameter_or_read : (m : ℕ) (x : Tree) (o : Option Tree) (s : State) → Past m s.at → ForwardIf o → Meets (ReadPart m) (parameter_or x o s)
parameter_or_read m x (Some p) s h g = record { straight = g; place = h }
parameter_or_read m x None s h g = reject_meets _ (fault_at (span_of x) faults.InvalidPat) s

parameter_read : (m : ℕ) (v : Cover) (s : State) → forward v.x ≡ true → Past m s.at → Meets (ReadPart m) (parameter v s)
unfolding parameter
parameter_read m v s h g = parameter_or_read m v.x (cond v.comma None (as_parameter v.x)) s g (unless_forward v.comma (as_parameter v.x) (parameter_forward v.x h))

parameters_read : (m : ℕ) (vs : List Cover) (rest : Option Tree) (s : State) → AllCover vs → all_forward (trees (rest_list rest)) ≡ true → Past m s.at → Meets (ReadMany m) (parameters_of vs rest s)
parameters_read m [] rest s h r g = record { straight = r; place = g }
parameters_read m (v ∷ vs) rest s h r g = let p = and_yes (forward v.x) _ h in
    meets_then _ (parameter v s) _ (parameter_read m v s p.0 g) (λ x t k.
    meets_then _ (parameters_of vs rest t) _ (parameters_read m vs rest t p.1 r k.place) (λ xs u j. record { straight = both k.straight j.straight; place = j.place }))

closed_group_read : (m : ℕ) (start : Span) (b : start.lo.0 ≤ m) (g : Group) (s : State) → GroupRead m g s.at → Meets (Read m) (closed_group start g s)
unfolding closed_group
closed_group_read m start b g s h = meets_if _ (may_stand_alone g) _ _
    (λ e. let p = and_yes (has_parts g.parts) _ e in meets_then _ (closed_parts g.parts s) _ (closed_parts_read m g.parts s h.parts h.place) (λ xs t k.
    node start (tree.paren _ (parted g.first g.last xs)) b k.place (λ i. both i (parted_forward g.first g.last xs (h.spans p.0) k.straight)) refl))
    (λ _. wanted_meets _ faults.Unexpected s)

-- ---- arguments that may still become parameters

abbrev argument_trees : List Argument → List Tree
argument_trees [] = []
argument_trees (a ∷ rest) = tree.element a.dots a.cover.x ∷ argument_trees rest

abbrev AllArgument : List Argument → Type 0
AllArgument found = all_forward (trees (argument_trees found)) ≡ true

one_argument : (found : List Argument) (a : Argument) → AllArgument found → forward (tree.element a.dots a.cover.x) ≡ true → AllArgument (found ++ a ∷ [])
one_argument [] a h g = both g refl
one_argument (w ∷ found) a h g = let p = and_yes (forward (tree.element w.dots w.cover.x)) _ h in both p.0 (one_argument found a p.1 g)

record ArgumentRead (m : ℕ) (a : Argument) (c : Place) : Type 0 where
  straight : forward (tree.element a.dots a.cover.x) ≡ true
  place : Past m c

record ArgumentsRead (m : ℕ) (found : List Argument) (c : Place) : Type 0 where
  all : AllArgument found
  place : Past m c

closed_arguments_read : (m : ℕ) (found : List Argument) (s : State) → AllArgument found → Past m s.at → Meets (ReadMany m) (closed_arguments found s)
closed_arguments_read m [] s h g = record { straight = refl; place = g }
closed_arguments_read m (a ∷ rest) s h g = let p = and_yes (forward (tree.element a.dots a.cover.x)) _ h in
    meets_then _ (closed_argument a s) _ (meets_then {P = λ (x : Tree) (t : State). Part m (tree.element a.dots x) t.at} (ReadPart m) (close a.cover s) _
    (close_meets (λ x t. Part m (tree.element a.dots x) t.at) a.cover s (record { straight = p.0; place = g })) (λ x t k. k)) (λ x t k.
    meets_then _ (closed_arguments rest t) _ (closed_arguments_read m rest t p.1 k.place) (λ xs u j. record { straight = both k.straight j.straight; place = j.place }))

pattern_read : (o : Option Span) (x : Tree) → forward (tree.element o x) ≡ true → ForwardIf (argument_pattern o x)
pattern_read None x h = parameter_forward x (and_yes (is_forward (span_of x)) _ h).1
pattern_read (Some dots) x h = let p = and_yes (is_forward dots) _ h in let q = and_yes (is_forward (span_of (tree.element (Some dots) x))) _ p.1 in rest_parameter_forward dots x q.0 q.1

argument_parameter_read : (m : ℕ) (a : Argument) (s : State) → forward (tree.element a.dots a.cover.x) ≡ true → Past m s.at → Meets (ReadPart m) (argument_parameter a s)
unfolding argument_parameter
argument_parameter_read m a s h g = parameter_or_read m a.cover.x (cond a.cover.comma None (argument_pattern a.dots a.cover.x)) s g
    (unless_forward a.cover.comma (argument_pattern a.dots a.cover.x) (pattern_read a.dots a.cover.x h))

argument_parameters_read : (m : ℕ) (found : List Argument) (s : State) → AllArgument found → Past m s.at → Meets (ReadMany m) (argument_parameters found s)
argument_parameters_read m [] s h g = record { straight = refl; place = g }
argument_parameters_read m (a ∷ rest) s h g = let p = and_yes (forward (tree.element a.dots a.cover.x)) _ h in
    meets_then _ (argument_parameter a s) _ (argument_parameter_read m a s p.0 g) (λ x t k.
    meets_then _ (argument_parameters rest t) _ (argument_parameters_read m rest t p.1 k.place) (λ xs u j. record { straight = both k.straight j.straight; place = j.place }))

async_called_reads : (m : ℕ) (start : Span) (b : start.lo.0 ≤ m) (x : Tree) (found : List Argument) (s : State) → forward x ≡ true → ArgumentsRead m found s.at → Meets (Read m) (async_called start x found s)
unfolding async_called
async_called_reads m start b x found s e h = meets_then _ (closed_arguments found s) _ (closed_arguments_read m found s h.all h.place) (λ xs t k.
    node start (tree.call _ x (listed xs)) b k.place (λ i. both i (both e k.straight)) refl)

-- ---- with what is read one level further in

module _ (inner : Class → Reader Tree) (cover : Reader Cover) (below : (class : Class) → Straight (inner class)) (below_cover : StraightCover cover) where
  spread_argument_reads : (s : State) → Here s.at → Meets (λ a t. ArgumentRead (far (after s.at)) a t.at) (spread_argument inner cover s)
  unfolding spread_argument
  spread_argument_reads s f = let g = behind f in meets_then _ (covered inner cover (moved s)) _ (covered_reads inner cover below below_cover (moved s) (at_first g.here)) (λ v t h. let d = dotted_by s f v.x t.at h in
      record { straight = both d.dots (both d.span d.whole.straight); place = d.whole.place })

  plain_argument_reads : (s : State) → Here s.at → Meets (λ a t. ArgumentRead (far (after s.at)) a t.at) (plain_argument inner cover s)
  unfolding plain_argument
  plain_argument_reads s f = meets_then _ (covered inner cover s) _ (covered_reads inner cover below below_cover s (at_first f)) (λ v t h.
      record { straight = both (own_forward v.x h.straight) h.straight; place = h.place })

  argument_reads : (m : ℕ) (s : State) → Ahead m s.at → Meets (λ a t. ArgumentRead m a t.at) (argument inner cover s)
  unfolding argument
  argument_reads m s b = meets_as (argument inner cover s) (meets_if (λ (a : Argument) (t : State). ArgumentRead (far (after s.at)) a t.at) (sees kind.DotDotDot s.at) _ _ (λ _. spread_argument_reads s b.here) (λ _. plain_argument_reads s b.here))
      (λ v t h. record { straight = h.straight; place = past_less b.ahead h.place })

  either_reads : (m : ℕ) (s : State) → Past m s.at → Meets (λ found t. ArgumentsRead m found t.at) (either_arguments inner cover s)
  unfolding either_arguments either_turn
  either_reads m s h = loop_answers (either_turn inner cover) (λ found t. ArgumentsRead m found t.at) (λ found t. ArgumentsRead m found t.at) Refuses
      (λ found t g. meets_if _ (sees kind.RParen t.at) _ _ (λ _. record { all = g.all; place = next g.place })
      (λ _. meets_then _ (argument inner cover t) _ (argument_reads m t (onward g.place)) (λ a u k.
      meets_if _ (sees kind.RParen u.at) _ _ (λ _. record { all = one_argument found a g.all k.straight; place = k.place })
      (λ _. meets_then _ (expect kind.Comma u) _ (expect_past m kind.Comma u k.place) (λ _ v j. record { all = one_argument found (followed a) g.all k.straight; place = j })))))
      (λ _. tt) [] (moved s) (record { all = refl; place = next h })

  -- ---- arrow functions

  module _ (function : FunctionForm → Reader Tree) (below_function : FunctionsStraight function) where
    arrow_body_reads : (is_async : Bool) {m : ℕ} (s : State) → Ahead m s.at → Meets (Read m) (arrow_body inner function is_async s)
    unfolding arrow_body
    arrow_body_reads is_async s a = meets_if _ (sees kind.LBrace s.at) _ _ (λ _. reads (function (block_form is_async)) (below_function.blocks is_async) s a)
        (λ _. within_reads (enclosed (inner assignment)) (λ t f. enclosed_reads (inner assignment) (below assignment) t (at_first f)) (λ k. in_arrow k is_async) s a)

    pub arrow_from_reads : (m : ℕ) (start : Span) → start.lo.0 ≤ m → (is_async : Bool) (ps : List Tree) (s : State) → ReadMany m ps s → Meets (Read m) (arrow_from inner function is_async start ps s)
    unfolding arrow_from
    arrow_from_reads m start b is_async ps s h = meets_if _ (breaks_at s.at) _ _ (λ _. refuse_meets _ faults.LineBreakBeforeArrow s)
        (λ _. meets_then _ (arrow_body inner function is_async (moved s)) _ (arrow_body_reads is_async {m = m} (moved s) (onward (next h.place))) (λ body t g.
        meets_then _ (told (misplaced_directive (has_plain_params (listed ps)) body) t) _ (told_past m (misplaced_directive (has_plain_params (listed ps)) body) t g.place) (λ _ u k.
        moved_on (node start (tree.arrow _ (listed ps) body is_async) b g.place (λ e. both e (both h.straight g.straight)) refl) k)))

    pub named_arrow_straight : Straight (named_arrow inner function)
    unfolding named_arrow
    named_arrow_straight s f = meets_then _ (function parameter_form s) _ (below_function.parameters s f) (λ p t h.
        arrow_from_reads (far (after s.at)) (span_at s.at) f.begins false (p ∷ []) t (record { straight = both h.straight refl; place = h.place }))

    pub async_named_straight : Straight (async_named_arrow inner function)
    unfolding async_named_arrow
    async_named_straight s f = meets_then _ (function parameter_form (moved s)) _ (reads (function parameter_form) below_function.parameters {m = far (after s.at)} (moved s) (onward (behind f))) (λ p t h.
        meets_if _ (sees kind.Arrow t.at) _ _ (λ _. arrow_from_reads (far (after s.at)) (span_at s.at) f.begins true (p ∷ []) t (record { straight = both h.straight refl; place = h.place }))
        (λ _. refuse_meets _ faults.Expected t))

    rest_part_reads : (n : ℕ) (found : List Cover) (s : State) → Ahead n s.at → AllCover found → Meets (λ g t. PartsRead n g t.at) (rest_part inner function found s)
    unfolding rest_part
    rest_part_reads n found s a h = meets_then _ (within with_in (function parameter_form) (moved s)) _
        (within_reads (function parameter_form) below_function.parameters {m = far (after s.at)} with_in (moved s) (onward (behind a.here))) (λ p t g.
        let w : Whole (far (after s.at)) (tree.rest_pat (record { lo = (span_at s.at).lo; hi = t.at.last.hi }) p) t.at = node (span_at s.at) _ a.here.begins g.place (λ e. both e g.straight) refl in
        record { parts = h; rest = both w.straight refl; place = past_less a.ahead w.place })

    group_loop : (n : ℕ) (s : State) → Ahead n s.at → Meets (λ g t. PartsRead n g t.at) (loop (part_turn inner function cover) [] s)
    unfolding part_turn
    group_loop n s a = loop_answers (part_turn inner function cover) (λ found t. AllCover found × Ahead n t.at) (λ g t. PartsRead n g t.at) Refuses
        (λ found t (h, b). meets_if _ (sees kind.DotDotDot t.at) _ _ (λ _. meets_then _ (rest_part inner function found t) _ (rest_part_reads n found t b h) (λ g u k. k))
        (λ _. meets_then _ (covered inner cover t) _ (covered_reads inner cover below below_cover {m = n} t b) (λ v u k. let all = one_cover found v h k.straight in
        meets_if _ (sees kind.RParen u.at) _ _ (λ _. record { parts = all; rest = refl; place = k.place })
        (λ _. meets_then _ (expect kind.Comma u) _ (expect_past n kind.Comma u k.place) (λ _ w j.
        meets_if _ (sees kind.RParen w.at) _ _ (λ _. record { parts = all; rest = refl; place = j }) (λ _. (all, onward j)))))))
        (λ _. tt) [] s (refl, a)

    group_parts_read : (m : ℕ) (s : State) → Past m s.at → Meets (λ g t. SomeParts (far (after s.at)) m g t.at) (group_parts inner function cover s)
    unfolding group_parts
    group_parts_read m s h = meets_if _ (sees kind.RParen s.at) _ _ (λ _. record { parts = refl; rest = refl; reached = λ e. cc; place = h })
        (λ _. meets_as (loop (part_turn inner function cover) [] s) (group_loop (far (after s.at)) s (at_first h.here)) (λ g t k.
        record { parts = k.parts; rest = k.rest; reached = λ _. k.place.gone; place = past_less (le_trans h.gone h.here.goes_on) k.place }))

    group_reads : (s : State) → Here s.at → Meets (λ g t. GroupRead (far (after s.at)) g t.at) (group inner function cover s)
    unfolding group
    group_reads s f = let c = behind f in meets_then _ (group_parts inner function cover (moved s)) _ (group_parts_read (far (after s.at)) (moved s) c) (λ g t h.
        meets_then _ (expect kind.RParen t) _ (expect_past (far (after s.at)) kind.RParen t h.place) (λ _ u k. record {
          parts = h.parts;
          rest = h.rest;
          spans = λ e. le-leb (span_at (after s.at)).lo.0 t.at.last.hi.0 (le_trans c.here.begins (h.reached e));
          place = k;
        }))

    behind_group_reads : (m : ℕ) (start : Span) → start.lo.0 ≤ m → (g : Group) (s : State) → GroupRead m g s.at → Meets (Read m) (behind_group inner function cover start g s)
    behind_group_reads m start b g s h = meets_if _ (sees kind.Arrow s.at) _ _
        (λ _. meets_then _ (parameters_of g.parts g.rest s) _ (parameters_read m g.parts g.rest s h.parts h.rest h.place) (λ ps t k. arrow_from_reads m start b false ps t k))
        (λ _. meets_then _ (closed_group start g s) _ (closed_group_read m start b g s h) (λ x t k. continued_reads inner cover below below_cover m start b x t k))

    pub grouped_straight : Straight (grouped inner function cover)
    unfolding grouped
    grouped_straight s f = meets_then _ (group inner function cover s) _ (group_reads s f) (λ g t h. behind_group_reads (far (after s.at)) (span_at s.at) f.begins g t h)

    behind_async_reads : (m : ℕ) (start : Span) → start.lo.0 ≤ m → (x : Tree) → forward x ≡ true → (found : List Argument) (s : State) → ArgumentsRead m found s.at
        → Meets (Read m) (behind_async inner function cover start x found s)
    behind_async_reads m start b x e found s h = meets_if _ (sees kind.Arrow s.at) _ _
        (λ _. meets_then _ (argument_parameters found s) _ (argument_parameters_read m found s h.all h.place) (λ ps t k. arrow_from_reads m start b true ps t k))
        (λ _. meets_then _ (async_called start x found s) _ (async_called_reads m start b x found s e h) (λ y t k. continued_reads inner cover below below_cover m start b y t k))

    pub async_grouped_straight : Straight (async_grouped inner function cover)
    unfolding async_grouped
    async_grouped_straight s f = meets_then _ (ident_expr s) _ (ident_straight s f) (λ x t h. meets_then _ (either_arguments inner cover t) _ (either_reads (far (after s.at)) t h.place) (λ found u k.
        behind_async_reads (far (after s.at)) (span_at s.at) f.begins x h.straight found u k))
