-- Decorators, and classes and functions behind them, run forward.
use Rattle.std.proofs.Common.{◌≡◌, ℕ, ◌≤◌, true, List, [], refl, le_trans, le-leb}
use Rattle.std.specs.Prelude.{◌&&◌, ◌||◌}
use Rattle.swc_ecma_parser_common.specs.declared.span.Span.{Span}
use Rattle.swc_ecma_parser_error.specs.Kind as faults
use Rattle.swc_ecma_parser_token.specs.declared.kind.TokenKind.TheVariants as kind
use Rattle.swc_ecma_parser_input.specs.Place.{Place, after}
use Rattle.swc_ecma_parser_model.specs.Forms.{span_of}
use Rattle.swc_ecma_parser_model.specs.Tree as tree
use Rattle.swc_ecma_parser_model.specs.Tree.{Tree, trees}
use Rattle.swc_ecma_parser_grammar.specs.declared.position.Position.{Position}
use Rattle.swc_ecma_parser_grammar.specs.scaffold.Decorated.{class_behind, function_behind, decorated_by}
use Rattle.swc_ecma_parser_grammar.specs.Looks.{sees, span_at}
use Rattle.swc_ecma_parser_grammar.specs.language.Contexts.{with_in}
use Rattle.swc_ecma_parser_grammar.specs.language.Goals.{Class}
use Rattle.swc_ecma_parser_grammar.proofs.Tests.{and_yes}
use Rattle.swc_ecma_parser_reader.specs.DecoratedStatements.{begins_declared, declared_behind, exported_behind, other_behind, stmt_behind, decorated_stmt, either_stmt}
use Rattle.swc_ecma_parser_reader.specs.Decorators.{chain_turn, chain_from, chain, behind_group, group, decorated, Leading, found_before, decorator, decorators_turn, decorators, leading, has_any, misplaced}
use Rattle.swc_ecma_parser_reader.specs.Expressions.{Cover, accessed, called}
use Rattle.swc_ecma_parser_span_order.specs.Forward.{is_forward, forward, all_forward}
use Rattle.swc_ecma_parser_reader.specs.State.{State, Reader, moved, within, expect, name}
use Rattle.swc_ecma_parser_reader.proofs.Meets.{Meets, Refuses, meets_then, meets_if, wanted_meets, loop_answers}
use Rattle.swc_ecma_parser_reader.proofs.expressions.SoundSteps.{reject_meets, meets_as}
use Rattle.swc_ecma_parser_span_order.proofs.Operands.{StraightCover, moved_on, accessed_reads, called_reads}
use Rattle.swc_ecma_parser_span_order.proofs.Places.{far, Here, Past, Ahead, Passed, Read, Straight, Many, both, onward, first, behind, node, reads, whole_less, part_of}
use Rattle.swc_ecma_parser_span_order.proofs.Steps.{Looked, fault_past, fault_ahead, expect_past, name_past, ident_whole, within_reads}
use Rattle.swc_ecma_parser_span_order.proofs.Trees.{appended, one_more}

-- ---- what stands behind `@`

module _ (inner : Class → Reader Tree) (cover : Reader Cover) (below : (class : Class) → Straight (inner class)) (below_cover : StraightCover cover) where
  chain_reads : (m : ℕ) (start : Span) → start.lo.0 ≤ m → (x : Tree) (s : State) → Read m x s → Meets (Read m) (chain_from inner cover start x s)
  unfolding chain_from chain_turn
  chain_reads m start b x s h = loop_answers (chain_turn inner cover start) (Read m) (Read m) Refuses
      (λ y t g. meets_if _ (sees kind.Dot t.at) _ _ (λ _. meets_then _ (accessed inner cover start y t) _ (accessed_reads inner cover below below_cover m start b y t g) (λ z u k. k))
      (λ _. meets_if _ (sees kind.LParen t.at) _ _ (λ _. meets_then _ (called inner cover start y t) _ (called_reads inner cover below below_cover m start b y t g) (λ z u k. k)) (λ _. g)))
      (λ _. tt) x s h

  chain_straight : Straight (chain inner cover)
  unfolding chain
  chain_straight s f = meets_then _ (name faults.ExpectedIdent s) _ (name_past s f faults.ExpectedIdent) (λ i t h. chain_reads (far (after s.at)) (span_at s.at) f.begins (tree.ident i.span i.sym) t (ident_whole i t h))

  group_straight : (whole : Reader Tree) → Straight whole → Straight (group inner cover whole)
  unfolding group behind_group
  group_straight whole below_whole s f = let c = behind f in
      meets_then _ (within with_in whole (moved s)) _ (within_reads whole below_whole {m = far (after (after s.at))} with_in (moved s) (first c.here)) (λ x t h.
      meets_then _ (expect kind.RParen t) _ (expect_past (far (after (after s.at))) kind.RParen t h.place) (λ _ u g. let k = moved_on h g in
      meets_if _ (sees kind.LParen u.at) _ _
      (λ _. meets_as (called inner cover (span_at (after s.at)) x u) (called_reads inner cover below below_cover (far (after (after s.at))) (span_at (after s.at)) c.here.begins x u k) (λ y v j. whole_less c.here.goes_on j))
      (λ _. whole_less c.here.goes_on k)))

  pub decorated_straight : (whole : Reader Tree) → Straight whole → Straight (decorated inner cover whole)
  unfolding decorated
  decorated_straight whole below_whole s f = meets_if _ (sees kind.LParen s.at) _ _ (λ _. group_straight whole below_whole s f) (λ _. chain_straight s f)

-- ---- decorators one behind another

-- a list that may be empty
pub record SomeRead (m : ℕ) (xs : List Tree) (c : Place) : Type 0 where
  pub straight : all_forward (trees xs) ≡ true
  pub ahead : Ahead m c

pub record LeadingRead (m : ℕ) (v : Leading) (c : Place) : Type 0 where
  pub straight : all_forward (trees v.found) ≡ true
  pub begins : v.place.lo.0 ≤ m
  pub ahead : Ahead m c

-- dropped decorators leave what was read as it is
pub misplaced_ahead : (m : ℕ) (v : Leading) (s : State) → Ahead m s.at → Meets (Looked m) (misplaced v s)
unfolding misplaced
misplaced_ahead m v s a = meets_if (Looked m) (has_any v.found) _ _ (λ _. fault_ahead m (found_before v s) a _) (λ _. a)

pub misplaced_past : (m : ℕ) (v : Leading) (s : State) → Past m s.at → Meets (Passed m) (misplaced v s)
unfolding misplaced
misplaced_past m v s h = meets_if (Passed m) (has_any v.found) _ _ (λ _. fault_past m (found_before v s) h _) (λ _. h)

module _ (further : Reader Tree) (below_further : Straight further) where
  decorator_straight : Straight (decorator further)
  unfolding decorator
  decorator_straight s f = meets_then _ (further (moved s)) _ (reads further below_further {m = far (after s.at)} (moved s) (onward (behind f))) (λ x t h. node (span_at s.at) _ f.begins h.place (λ e. both e h.straight) refl)

  pub decorators_read : (m : ℕ) (s : State) → Ahead m s.at → Meets (λ xs t. SomeRead m xs t.at) (decorators further s)
  unfolding decorators decorators_turn
  decorators_read m s a = meets_if _ s.code.setting.decorators _ _
      (λ _. loop_answers (decorators_turn further) (λ xs t. SomeRead m xs t.at) (λ xs t. SomeRead m xs t.at) Refuses
      (λ found t g. meets_if _ (sees kind.At t.at) _ _ (λ _. meets_then _ (decorator further t) _ (reads (decorator further) decorator_straight {m = m} t g.ahead) (λ x u k.
      record { straight = appended found x g.straight k.straight; ahead = onward k.place })) (λ _. g))
      (λ _. tt) [] s (record { straight = refl; ahead = a }))
      (λ _. record { straight = refl; ahead = a })

  -- the same from behind what was read
  pub decorators_past : (m : ℕ) (s : State) → Past m s.at → Meets (λ xs t. Many m xs t.at) (decorators further s)
  unfolding decorators decorators_turn
  decorators_past m s h = meets_if _ s.code.setting.decorators _ _
      (λ _. loop_answers (decorators_turn further) (λ xs t. Many m xs t.at) (λ xs t. Many m xs t.at) Refuses
      (λ found t g. meets_if _ (sees kind.At t.at) _ _ (λ _. meets_then _ (decorator further t) _ (reads (decorator further) decorator_straight {m = m} t (onward g.place)) (λ x u k.
      one_more g (part_of k))) (λ _. g))
      (λ _. tt) [] s (record { straight = refl; place = h }))
      (λ _. record { straight = refl; place = h })

  pub leading_past : (m : ℕ) (s : State) → Past m s.at → Meets (λ v t. Many m v.found t.at) (leading further s)
  unfolding leading
  leading_past m s h = meets_then _ (decorators further s) _ (decorators_past m s h) (λ xs t g. g)

  pub leading_reads : (s : State) → Here s.at → Meets (λ v t. LeadingRead (far (after s.at)) v t.at) (leading further s)
  unfolding leading
  leading_reads s f = meets_then _ (decorators further s) _ (decorators_read (far (after s.at)) s (first f)) (λ xs t h. record { straight = h.straight; begins = f.begins; ahead = h.ahead })

-- ---- what is declared behind them

record Dressed (m : ℕ) (x : Tree) : Type 0 where
  straight : forward x ≡ true
  reaches : m ≤ (span_of x).hi.0

class_forward : (m : ℕ) (start : Span) (ds : List Tree) (x : Tree) → start.lo.0 ≤ m → all_forward (trees ds) ≡ true → forward x ≡ true → m ≤ (span_of x).hi.0 → Dressed m (class_behind start ds x)
class_forward m start ds (tree.class s decorators body base) b a h g = let p = and_yes (is_forward s) _ h in let q = and_yes (forward decorators) _ p.1 in
    record { straight = both (le-leb start.lo.0 s.hi.0 (le_trans b g)) (both a q.1); reaches = g }
class_forward m start ds x b a h g = record { straight = h; reaches = g }

function_forward : (m : ℕ) (ds : List Tree) (x : Tree) → all_forward (trees ds) ≡ true → forward x ≡ true → m ≤ (span_of x).hi.0 → Dressed m (function_behind ds x)
function_forward m ds (tree.function s decorators params body r g) a h k = let p = and_yes (is_forward s) _ h in let q = and_yes (forward decorators) _ p.1 in
    record { straight = both p.0 (both a q.1); reaches = k }
function_forward m ds x a h k = record { straight = h; reaches = k }

declared_forward : (m : ℕ) (start : Span) (ds : List Tree) (x : Tree) → start.lo.0 ≤ m → all_forward (trees ds) ≡ true → forward x ≡ true → m ≤ (span_of x).hi.0 → Dressed m (decorated_by start ds x)
declared_forward m start ds (tree.class_decl name x) b a h g = let p = and_yes (forward name) _ h in let c = class_forward m start ds x b a p.1 g in record { straight = both p.0 c.straight; reaches = c.reaches }
declared_forward m start ds (tree.fn_decl name x) b a h g = let p = and_yes (forward name) _ h in let c = function_forward m ds x a p.1 g in record { straight = both p.0 c.straight; reaches = c.reaches }
declared_forward m start ds x b a h g = record { straight = h; reaches = g }

-- ---- statements that begin with decorators

module _ (plain : Position → Reader Tree) (below : (at : Position) → Straight (plain at)) where
  pub stmt_behind_reads : (at : Position) (m : ℕ) (v : Leading) (s : State) → LeadingRead m v s.at → Meets (Read m) (stmt_behind plain at v s)
  unfolding stmt_behind declared_behind exported_behind other_behind
  stmt_behind_reads at m v s h = meets_if _ (begins_declared s.at) _ _
      (λ _. meets_then _ (plain at s) _ (reads (plain at) (below at) {m = m} s h.ahead) (λ x t k. let d = declared_forward m v.place v.found x h.begins h.straight k.straight k.reaches in
      record { straight = d.straight; reaches = d.reaches; place = k.place }))
      (λ _. meets_if _ (sees kind.Export s.at) _ _
      (λ _. meets_if _ ((s.code.flags.in_class || s.code.flags.in_function) || s.code.setting.decorators_before_export) _ _ (λ _. reads (plain at) (below at) {m = m} s h.ahead) (λ _. reject_meets _ _ s))
      (λ _. meets_if _ (sees kind.Error s.at) _ _ (λ _. wanted_meets _ faults.Unexpected s)
      (λ _. meets_then _ (misplaced v s) _ (misplaced_ahead m v s h.ahead) (λ _ t a. reads (plain at) (below at) {m = m} t a))))

  pub either_straight : (further : Reader Tree) → Straight further → (at : Position) → Straight (either_stmt plain further at)
  unfolding either_stmt decorated_stmt
  either_straight further below_further at s f = meets_if _ (sees kind.At s.at && s.code.setting.decorators) _ _
      (λ _. meets_then _ (leading further s) _ (leading_reads further below_further s f) (λ v t h. stmt_behind_reads at (far (after s.at)) v t h))
      (λ _. below at s f)
