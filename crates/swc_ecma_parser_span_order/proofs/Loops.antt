-- Declarations of variables, and loops, run forward.
use Rattle.std.proofs.Common.{◌≡◌, ℕ, ◌≤◌, Bool, true, false, List, [], Option, Some, None, refl}
use Rattle.std.specs.Prelude.{◌&&◌, codes, is_some}
use Rattle.swc_ecma_parser_common.specs.declared.span.Span.{Span}
use Rattle.swc_ecma_parser_error.specs.Kind as faults
use Rattle.swc_ecma_parser_token.specs.declared.kind.TokenKind.{TokenKind}
use Rattle.swc_ecma_parser_token.specs.declared.kind.TokenKind.TheVariants as kind
use Rattle.swc_ecma_parser_input.specs.Place.{Place, after}
use Rattle.swc_ecma_parser_model.specs.declared.leaves.VarDeclKind.{VarDeclKind}
use Rattle.swc_ecma_parser_model.specs.declared.leaves.VarDeclKind.TheVariants as decl
use Rattle.swc_ecma_parser_model.specs.Tree as tree
use Rattle.swc_ecma_parser_model.specs.Tree.{Tree, listed}
use Rattle.swc_ecma_parser_grammar.specs.declared.position.Position.{Position}
use Rattle.swc_ecma_parser_grammar.specs.Follows.{word_at, is_let_declaration}
use Rattle.swc_ecma_parser_grammar.specs.Looks.{sees, span_at, spanned}
use Rattle.swc_ecma_parser_grammar.specs.Names.{Code}
use Rattle.swc_ecma_parser_grammar.specs.Own.{head_faults}
use Rattle.swc_ecma_parser_grammar.specs.scaffold.Using.{is_await_using_declaration, may_declare_using, awaits_using, declares_behind, stands_in_head}
use Rattle.swc_ecma_parser_grammar.specs.Variables.{is_const, needs_no_initializer}
use Rattle.swc_ecma_parser_grammar.specs.language.Contexts.{in_loop, without_in, with_in, head_code}
use Rattle.swc_ecma_parser_grammar.specs.language.Goals.{Class, expression, assignment}
use Rattle.swc_ecma_parser_reader.specs.Words.{begins_async_of}
use Rattle.swc_ecma_parser_reader.specs.Expressions.{Cover}
use Rattle.swc_ecma_parser_span_order.specs.Forward.{forward}
use Rattle.swc_ecma_parser_reader.specs.Reader.{missing_initializer, uninitialized, ends_declarators, missing_at, no_declarator, initialized, declarator, declarators_turn, declarators, declaration_end, variables, misusing, using_from, using_stmt, await_using_stmt, await_using_or, Opening, Nothing, Variables, Resource, Named, Expression, unfollowed, as_init, as_left, undeclared, head_variables, using_head, named_head, await_or_expression, async_head, head_expression, await_head, async_or_expression, head_target, opening, head_part, await_here, unless_awaited, misdeclared, for_parts, for_in, for_of, for_behind, for_stmt, begins_await_head}
use Rattle.swc_ecma_parser_reader.specs.State.{State, Reader, moved, coded, within, fault, fault_at, expect, end}
use Rattle.swc_ecma_parser_reader.proofs.Behind.{Passes, behind_self}
use Rattle.swc_ecma_parser_reader.proofs.Recovered.{declaration_end_keeps}
use Rattle.swc_ecma_parser_reader.proofs.Meets.{Meets, Refuses, meets_then, meets_if, wanted_meets, loop_answers}
use Rattle.swc_ecma_parser_reader.proofs.expressions.SoundSteps.{reject_meets, meets_as}
use Rattle.swc_ecma_parser_span_order.proofs.Operands.{ReadCover, StraightCover, covers, close_meets, target_reads, moved_on}
use Rattle.swc_ecma_parser_span_order.proofs.Places.{far, Past, Ahead, Passed, Read, ReadPart, ReadMany, Straight, both, onward, first, taken, next, behind, node, reads, reads_part, since_forward, past_less, part_of}
use Rattle.swc_ecma_parser_span_order.proofs.Steps.{fault_past, told_past, expect_past, within_reads, kept_past, end_past}
use Rattle.swc_ecma_parser_span_order.proofs.Trees.{one_more}

-- ---- variables

module _ (m : ℕ) (in_head : Bool) (word : VarDeclKind) (p : Tree) where
  missing_reads : (span : Span) (s : State) → Read m (tree.declarator span p tree.absent) s → Meets (Read m) (missing_initializer word span p s)
  missing_reads span s h = meets_if _ (is_const word && s.code.flags.strict) _ _
      (λ _. meets_then _ (fault (fault_at span faults.ConstDeclarationsRequireInitialization) s) _ (fault_past m s h.place (fault_at span faults.ConstDeclarationsRequireInitialization)) (λ _ t g. moved_on h g))
      (λ _. reject_meets _ _ s)

  uninitialized_reads : (span : Span) (s : State) → Read m (tree.declarator span p tree.absent) s → Meets (Read m) (uninitialized in_head word span p s)
  uninitialized_reads span s h = meets_if _ (needs_no_initializer s.code in_head word p s.at) _ _ (λ _. h) (λ _. missing_reads span s h)

module _ (expr : Class → Reader Tree) (pat : Reader Tree) (below : (class : Class) → Straight (expr class)) (below_pat : Straight pat) where
  declarator_straight : (in_head : Bool) (word : VarDeclKind) → Straight (declarator expr pat in_head word)
  unfolding declarator initialized
  declarator_straight in_head word s f = let m = far (after s.at) in meets_then _ (within with_in pat s) _ (within_reads pat below_pat {m = m} with_in s (first f)) (λ p t h.
      meets_if _ (sees kind.Assign t.at) _ _
      (λ _. meets_then _ (expr assignment (moved t)) _ (reads (expr assignment) (below assignment) {m = m} (moved t) (onward (next h.place))) (λ x u k.
      node (span_at s.at) (tree.declarator _ p x) f.begins k.place (λ e. both e (both h.straight k.straight)) refl))
      (λ _. uninitialized_reads m in_head word p _ t (node (span_at s.at) (tree.declarator _ p tree.absent) f.begins h.place (λ e. both e (both h.straight refl)) refl)))

  pub declarators_read : (in_head : Bool) (word : VarDeclKind) (m : ℕ) (s : State) → Past m s.at → Meets (ReadMany m) (declarators expr pat in_head word s)
  unfolding declarators declarators_turn no_declarator
  declarators_read in_head word m s h = loop_answers (declarators_turn expr pat in_head word) (ReadMany m) (ReadMany m) Refuses
      (λ found t g. meets_if _ (ends_declarators t.at) _ _
      (λ _. meets_then _ (fault (fault_at (missing_at found t.at) faults.TS1009) t) _ (fault_past m t g.place (fault_at (missing_at found t.at) faults.TS1009)) (λ _ u k. record { straight = g.straight; place = k }))
      (λ _. meets_then _ (declarator expr pat in_head word t) _ (reads_part (declarator expr pat in_head word) (declarator_straight in_head word) {m = m} t (onward g.place)) (λ x u k. let l = one_more g k in
      meets_if _ (sees kind.Comma u.at) _ _ (λ _. record { straight = l.straight; place = next l.place }) (λ _. l))))
      (λ _. tt) [] s (record { straight = refl; place = h })

  within_declarators : (in_head : Bool) (word : VarDeclKind) (change : Code → Code) (m : ℕ) (s : State) → Past m s.at → Meets (ReadMany m) (within change (declarators expr pat in_head word) s)
  within_declarators in_head word change m s h = meets_then (ReadMany m) (declarators expr pat in_head word (coded (change s.code) s)) _ (declarators_read in_head word m (coded (change s.code) s) h) (λ xs t k. k)

  pub variables_straight : Passes (expr expression) → (word : VarDeclKind) → Straight (variables expr pat word)
  unfolding variables spanned
  variables_straight passes word s f = let m = far (after s.at) in
      meets_then _ (within with_in (declarators expr pat false word) (moved s)) _ (within_declarators false word with_in m (moved s) (behind f)) (λ xs t h.
      meets_then _ (declaration_end (expr expression) t) _ (kept_past m t h.place (declaration_end (expr expression) t) (declaration_end_keeps (expr expression) passes t t (behind_self t))) (λ _ u g.
      node (span_at s.at) (tree.var _ word (listed xs)) f.begins g (λ e. both e h.straight) refl))

-- what is declared with `using`
module _ (list : Reader (List Tree)) (below_list : (m : ℕ) (s : State) → Past m s.at → Meets (ReadMany m) (list s)) where
  using_from_reads : (is_await : Bool) (m : ℕ) (start : Span) → start.lo.0 ≤ m → (s : State) → Ahead m s.at → Meets (Read m) (using_from list is_await start s)
  unfolding using_from misusing
  using_from_reads is_await m start b s a = meets_then _ (within with_in list (moved s)) _
      (meets_then (ReadMany m) (list (coded (with_in s.code) (moved s))) _ (below_list m (coded (with_in s.code) (moved s)) (taken a)) (λ xs t k. k)) (λ xs t h.
      meets_then _ (misusing (record { lo = start.lo; hi = t.at.last.hi }) xs t) _ (told_past m _ t h.place) (λ _ u g.
      meets_then _ (end faults.Expected u) _ (end_past m faults.Expected u g) (λ _ v j.
      node start (tree.using _ is_await (listed xs)) b j (λ e. both e h.straight) refl)))

  pub using_straight : Straight (using_stmt list)
  unfolding using_stmt
  using_straight s f = using_from_reads false (far (after s.at)) (span_at s.at) f.begins s (first f)

  await_using_straight : Straight (await_using_stmt list)
  unfolding await_using_stmt
  await_using_straight s f = using_from_reads true (far (after s.at)) (span_at s.at) f.begins (moved s) (onward (behind f))

  pub await_using_or_straight : (nests : Bool) (rest : Position → Reader Tree) (at : Position) → Straight (rest at) → Straight (await_using_or list nests rest at)
  unfolding await_using_or
  await_using_or_straight nests rest at below s f = meets_if _ (is_await_using_declaration at s.code s.at && nests) _ _ (λ _. await_using_straight s f) (λ _. below s f)

-- ---- the head of a `for`

abbrev ForwardOpening : Opening → Type 0
ForwardOpening Nothing = Unit {0}
ForwardOpening (Variables x) = forward x ≡ true
ForwardOpening (Resource x) = forward x ≡ true
ForwardOpening (Named x) = forward x ≡ true
ForwardOpening (Expression v) = forward v.x ≡ true

record OpeningRead (m : ℕ) (o : Opening) (c : Place) : Type 0 where
  straight : ForwardOpening o
  place : Past m c

unfollowed_reads : (P : Tree → State → Type 0) (m : ℕ) (s : State) → Past m s.at → Meets P (unfollowed s)
unfolding unfollowed
unfollowed_reads P m s h = meets_then P (expect kind.Semi s) _ (expect_past m kind.Semi s h) (λ _ t g. wanted_meets P faults.Unexpected t)

as_init_reads : (m : ℕ) (o : Opening) (s : State) → OpeningRead m o s.at → Meets (ReadPart m) (as_init o s)
as_init_reads m Nothing s h = record { straight = refl; place = h.place }
as_init_reads m (Variables x) s h = record { straight = h.straight; place = h.place }
as_init_reads m (Resource x) s h = unfollowed_reads _ m s h.place
as_init_reads m (Named x) s h = unfollowed_reads _ m s h.place
as_init_reads m (Expression v) s h = close_meets (ReadPart m) v s (record { straight = h.straight; place = h.place })

as_left_reads : (m : ℕ) (o : Opening) (s : State) → OpeningRead m o s.at → Meets (ReadPart m) (as_left o s)
as_left_reads m Nothing s h = wanted_meets _ faults.Unexpected s
as_left_reads m (Variables x) s h = record { straight = h.straight; place = h.place }
as_left_reads m (Resource x) s h = record { straight = h.straight; place = h.place }
as_left_reads m (Named x) s h = record { straight = h.straight; place = h.place }
as_left_reads m (Expression v) s h = target_reads v s (record { straight = h.straight; place = h.place })

module _ (expr : Class → Reader Tree) (pat : Reader Tree) (below : (class : Class) → Straight (expr class)) (below_pat : Straight pat) where
  head_variables_read : (word : VarDeclKind) (m : ℕ) (s : State) → Past m s.at → Meets (λ o t. OpeningRead m o t.at) (head_variables expr pat word s)
  unfolding head_variables
  head_variables_read word m s h = let f = h.here in meets_then _ (within (head_code word) (declarators expr pat true word) (moved s)) _
      (within_declarators expr pat below below_pat true word (head_code word) (far (after s.at)) (moved s) (behind f)) (λ xs t g.
      record { straight = both (since_forward (span_at s.at) f.begins g.place) g.straight; place = past_less (onward h).ahead g.place })

  using_head_reads : (is_await : Bool) (m : ℕ) (start : Span) → start.lo.0 ≤ m → (s : State) → Past m s.at → Meets (λ o t. OpeningRead m o t.at) (using_head expr pat is_await start s)
  unfolding using_head undeclared
  using_head_reads is_await m start b s h = let f = h.here in meets_then _ (pat s) _ (below_pat s f) (λ p t g. let k : Past m t.at = past_less (onward h).ahead g.place in
      meets_then _ (undeclared (record { lo = start.lo; hi = t.at.last.hi }) t) _ (told_past m _ t k) (λ _ u j.
      record { straight = both (since_forward start b k) (both (both (since_forward (span_at s.at) f.begins g.place) (both g.straight refl)) refl); place = j }))

  module _ (head_cover : Reader Cover) (below_head : StraightCover head_cover) where
    head_cover_reads : (m : ℕ) (s : State) → Ahead m s.at → Meets (ReadCover m) (within without_in head_cover s)
    head_cover_reads m s a = meets_then (ReadCover m) (head_cover (coded (without_in s.code) s)) _ (covers head_cover below_head {m = m} (coded (without_in s.code) s) a) (λ v t h. h)

    named_head_reads : (m : ℕ) (s : State) → Past m s.at → Meets (λ o t. OpeningRead m o t.at) (named_head expr pat s)
    unfolding named_head
    named_head_reads m s h = let f = h.here in meets_then _ (pat s) _ (below_pat s f) (λ p t g. let k : Past m t.at = past_less (onward h).ahead g.place in
        meets_if _ (stands_in_head (after t.at)) _ _
        (λ _. meets_as (using_head expr pat false (span_at s.at) t) (using_head_reads false (far (after s.at)) (span_at s.at) f.begins t g.place) (λ o u j. record { straight = j.straight; place = past_less (onward h).ahead j.place }))
        (λ _. record { straight = g.straight; place = k }))

    await_head_reads : (m : ℕ) (s : State) → Past m s.at → Meets (λ o t. OpeningRead m o t.at) (await_head expr pat head_cover s)
    unfolding await_head await_or_expression
    await_head_reads m s h = let f = h.here in meets_then _ (within without_in head_cover s) _ (head_cover_reads (far (after s.at)) s (first f)) (λ v t g.
        meets_if _ (awaits_using v.x && declares_behind t.code t.at) _ _
        (λ _. meets_as (using_head expr pat true (span_at s.at) t) (using_head_reads true (far (after s.at)) (span_at s.at) f.begins t g.place) (λ o u j. record { straight = j.straight; place = past_less (onward h).ahead j.place }))
        (λ _. record { straight = g.straight; place = past_less (onward h).ahead g.place }))

    head_expression_reads : (m : ℕ) (s : State) → Past m s.at → Meets (λ o t. OpeningRead m o t.at) (head_expression expr pat head_cover s)
    unfolding head_expression
    head_expression_reads m s h = meets_then _ (within without_in head_cover s) _ (head_cover_reads m s (onward h)) (λ v t g. record { straight = g.straight; place = g.place })

    async_or_reads : (m : ℕ) (s : State) → Past m s.at → Meets (λ o t. OpeningRead m o t.at) (async_or_expression expr pat head_cover s)
    unfolding async_or_expression async_head
    async_or_reads m s h = meets_if _ (begins_async_of s.at) _ _
        (λ _. meets_then _ (within without_in pat s) _ (within_reads pat below_pat {m = m} without_in s (onward h)) (λ p t g. record { straight = g.straight; place = g.place }))
        (λ _. head_expression_reads m s h)

    opening_reads : (is_await : Bool) (m : ℕ) (s : State) → Past m s.at → Meets (λ o t. OpeningRead m o t.at) (opening expr pat head_cover is_await s)
    unfolding opening head_target
    opening_reads is_await m s h = meets_if _ (sees kind.Semi s.at) _ _ (λ _. record { straight = tt; place = h })
        (λ _. meets_if _ (sees kind.Var s.at) _ _ (λ _. head_variables_read decl.Var m s h)
        (λ _. meets_if _ (sees kind.Const s.at) _ _ (λ _. head_variables_read decl.Const m s h)
        (λ _. meets_if _ (is_let_declaration s.at) _ _ (λ _. head_variables_read decl.Let m s h)
        (λ _. meets_if _ (may_declare_using s.code s.at) _ _ (λ _. named_head_reads m s h)
        (λ _. meets_if _ (begins_await_head s.at) _ _ (λ _. await_head_reads m s h)
        (λ _. meets_if _ is_await _ _ (λ _. async_or_reads m s h) (λ _. head_expression_reads m s h)))))))

-- ---- loops

head_part_reads : (stops : TokenKind) (expr : Reader Tree) → Straight expr → (m : ℕ) (s : State) → Past m s.at → Meets (ReadPart m) (head_part stops expr s)
unfolding head_part
head_part_reads stops expr below m s h = meets_if _ (sees stops s.at) _ _ (λ _. record { straight = refl; place = h })
    (λ _. meets_as (within with_in expr s) (within_reads expr below {m = m} with_in s (onward h)) (λ x t g. part_of g))

await_here_past : (m : ℕ) (s : State) → Past m s.at → Meets (Passed m) (await_here s)
unfolding await_here
await_here_past m s h = meets_if (Passed m) (sees kind.Await s.at) _ _ (λ _. next h) (λ _. h)

unless_awaited_reads : (m : ℕ) (word : Option Span) (p : Reader Tree) (s : State) → Meets (Read m) (p s) → Meets (Read m) (unless_awaited word p s)
unless_awaited_reads m None p s h = h
unless_awaited_reads m (Some w) p s h = meets_then _ (p s) _ h (λ _ t k. reject_meets _ _ t)

misdeclared_past : (m : ℕ) (refused : Bool) (left : Tree) (s : State) → Past m s.at → Meets (Passed m) (misdeclared refused left s)
unfolding misdeclared
misdeclared_past m refused left s h = told_past m (head_faults refused left) s h

module _ (stmt : Reader Tree) (expr : Class → Reader Tree) (below_stmt : Straight stmt) (below : (class : Class) → Straight (expr class)) where
  module _ (m : ℕ) (start : Span) (b : start.lo.0 ≤ m) where
    body_reads : (s : State) → Past m s.at → Meets (Read m) (within in_loop stmt s)
    body_reads s h = within_reads stmt below_stmt {m = m} in_loop s (onward h)

    for_parts_read : (o : Opening) (s : State) → OpeningRead m o s.at → Meets (Read m) (for_parts stmt expr start o s)
    unfolding for_parts
    for_parts_read o s h = meets_then _ (as_init o s) _ (as_init_reads m o s h) (λ x t g.
        meets_then _ (expect kind.Semi t) _ (expect_past m kind.Semi t g.place) (λ _ t1 p1.
        meets_then _ (head_part kind.Semi (expr expression) t1) _ (head_part_reads kind.Semi (expr expression) (below expression) m t1 p1) (λ y t2 k.
        meets_then _ (expect kind.Semi t2) _ (expect_past m kind.Semi t2 k.place) (λ _ t3 p3.
        meets_then _ (head_part kind.RParen (expr expression) t3) _ (head_part_reads kind.RParen (expr expression) (below expression) m t3 p3) (λ z t4 j.
        meets_then _ (expect kind.RParen t4) _ (expect_past m kind.RParen t4 j.place) (λ _ t5 p5.
        meets_then _ (within in_loop stmt t5) _ (body_reads t5 p5) (λ w u i.
        node start (tree.for _ x y z w) b i.place (λ e. both e (both g.straight (both k.straight (both j.straight i.straight)))) refl)))))))

    for_in_reads : (o : Opening) (s : State) → OpeningRead m o s.at → Meets (Read m) (for_in stmt expr start o s)
    unfolding for_in
    for_in_reads o s h = meets_then _ (as_left o s) _ (as_left_reads m o s h) (λ x t g.
        meets_then _ (misdeclared t.code.flags.strict x t) _ (misdeclared_past m t.code.flags.strict x t g.place) (λ _ t1 p1.
        meets_then _ (within with_in (expr expression) (moved t1)) _ (within_reads (expr expression) (below expression) {m = m} with_in (moved t1) (onward (next p1))) (λ y t2 k.
        meets_then _ (expect kind.RParen t2) _ (expect_past m kind.RParen t2 k.place) (λ _ t3 p3.
        meets_then _ (within in_loop stmt t3) _ (body_reads t3 p3) (λ w u i.
        node start (tree.for_in _ x y w) b i.place (λ e. both e (both g.straight (both k.straight i.straight))) refl)))))

    for_of_reads : (is_await : Bool) (o : Opening) (s : State) → OpeningRead m o s.at → Meets (Read m) (for_of stmt expr is_await start o s)
    unfolding for_of
    for_of_reads is_await o s h = meets_then _ (as_left o s) _ (as_left_reads m o s h) (λ x t g.
        meets_then _ (misdeclared true x t) _ (misdeclared_past m true x t g.place) (λ _ t1 p1.
        meets_then _ (within with_in (expr assignment) (moved t1)) _ (within_reads (expr assignment) (below assignment) {m = m} with_in (moved t1) (onward (next p1))) (λ y t2 k.
        meets_then _ (expect kind.RParen t2) _ (expect_past m kind.RParen t2 k.place) (λ _ t3 p3.
        meets_then _ (within in_loop stmt t3) _ (body_reads t3 p3) (λ w u i.
        node start (tree.for_of _ is_await x y w) b i.place (λ e. both e (both g.straight (both k.straight i.straight))) refl)))))

    for_behind_reads : (word : Option Span) (o : Opening) (s : State) → OpeningRead m o s.at → Meets (Read m) (for_behind stmt expr start word o s)
    unfolding for_behind
    for_behind_reads word o s h = meets_if _ (sees kind.In s.at) _ _ (λ _. unless_awaited_reads m word (for_in stmt expr start o) s (for_in_reads o s h))
        (λ _. meets_if _ (word_at (codes "of") s.at) _ _ (λ _. for_of_reads (is_some word) o s h) (λ _. unless_awaited_reads m word (for_parts stmt expr start o) s (for_parts_read o s h)))

  pub for_straight : (pat : Reader Tree) (head_cover : Reader Cover) → Straight pat → StraightCover head_cover → Straight (for_stmt stmt expr pat head_cover)
  unfolding for_stmt
  for_straight pat head_cover below_pat below_head s f = let m = far (after s.at) in meets_then _ (await_here (moved s)) _ (await_here_past m (moved s) (behind f)) (λ word t h.
      meets_then _ (expect kind.LParen t) _ (expect_past m kind.LParen t h) (λ _ u g.
      meets_then _ (opening expr pat head_cover (is_some word) u) _ (opening_reads expr pat below below_pat head_cover below_head (is_some word) m u g) (λ o v k.
      for_behind_reads m (span_at s.at) f.begins word o v k)))
