-- `for` takes a token at least, whatever its head begins with.
use Rattle.swc_ecma_parser_reader.specs.Words.{begins_async_of}
use Rattle.swc_ecma_parser_reader.specs.State.{and_then, State, Reader, moved, coded, within, name, expect}
use Rattle.swc_ecma_parser_reader.specs.Reader.{await_here, unless_awaited, Opening, Nothing, Variables, Expression, as_init, as_left, head_variables, head_expression, opening, head_part, misdeclared, for_parts, for_in, for_of, for_behind, for_stmt, declarators, Resource, Named, undeclared, using_head, named_head, await_or_expression, await_head, async_head, unfollowed, async_or_expression, head_target, begins_await_head}
use Rattle.swc_ecma_parser_grammar.specs.language.Contexts.{without_in, in_loop, with_in, head_code}
use Rattle.swc_ecma_parser_model.specs.declared.leaves.VarDeclKind.{VarDeclKind}
use Rattle.swc_ecma_parser_model.specs.declared.leaves.VarDeclKind.TheVariants as decl
use Rattle.std.proofs.Common.{◌≢◌, Bool, true, false, length, Option, Some, None, Ok, arith}
use Rattle.std.specs.Prelude.{◌&&◌, is_some, codes}
use Rattle.swc_ecma_parser_common.specs.declared.span.Span.{Span}
use Rattle.swc_ecma_parser_error.specs.Kind as faults
use Rattle.swc_ecma_parser_token.specs.declared.kind.TokenKind.{TokenKind}
use Rattle.swc_ecma_parser_token.specs.declared.kind.TokenKind.TheVariants as kind
use Rattle.swc_ecma_parser_input.specs.Place.{after}
use Rattle.swc_ecma_parser_model.specs.Tree.{Tree}
use Rattle.swc_ecma_parser_grammar.specs.Looks.{kind_at, sees, span_at}
use Rattle.swc_ecma_parser_grammar.specs.Follows.{word_at, is_let_declaration}
use Rattle.swc_ecma_parser_grammar.specs.language.Goals.{Class, expression, assignment}
use Rattle.swc_ecma_parser_reader.specs.Expressions.{Cover}
use Rattle.swc_ecma_parser_reader.proofs.Takes.{Falls, falls_then, falls_last, falls_coded, falls_if, less, moves, falls_past, falls_moved, wanted_falls, expect_falls, reject_falls}
use Rattle.swc_ecma_parser_reader.proofs.expressions.Falls as exprs
use Rattle.swc_ecma_parser_reader.proofs.expressions.Falls.{told_falls}
use Rattle.swc_ecma_parser_grammar.specs.scaffold.Using.{may_declare_using, awaits_using, declares_behind, stands_in_head}
use Rattle.swc_ecma_parser_reader.proofs.FallsHeads.{whole_falls}
use Rattle.swc_ecma_parser_reader.proofs.FallsDeclarations.{declarators_fall}
use Rattle.swc_ecma_parser_reader.proofs.FallsLoops.{looped_falls}

unfollowed_falls : (s : State) → Falls 0 (length s.at.left) (unfollowed s)
unfolding unfollowed
unfollowed_falls s = falls_then 0 0 (length s.at.left) (expect kind.Semi s) _ (expect_falls kind.Semi s) (λ _ t. wanted_falls Tree 0 (length t.at.left) faults.Unexpected t)

as_init_falls : (first : Opening) (s : State) → Falls 0 (length s.at.left) (as_init first s)
as_init_falls Nothing s = omega arith
as_init_falls (Variables x) s = omega arith
as_init_falls (Resource x) s = unfollowed_falls s
as_init_falls (Named p) s = unfollowed_falls s
as_init_falls (Expression v) s = exprs.close_falls v s

as_left_falls : (first : Opening) (s : State) → Falls 0 (length s.at.left) (as_left first s)
as_left_falls Nothing s = wanted_falls Tree 0 (length s.at.left) faults.Unexpected s
as_left_falls (Variables x) s = omega arith
as_left_falls (Resource x) s = omega arith
as_left_falls (Named p) s = omega arith
as_left_falls (Expression v) s = exprs.target_falls v s

await_here_falls : (s : State) → Falls 0 (length s.at.left) (await_here s)
unfolding await_here
await_here_falls s = falls_if 0 (length s.at.left) (sees kind.Await s.at) _ _ (let m = moves s.at in omega arith) (omega arith)

unless_awaited_falls : (word : Option Span) (p : Reader Tree) (s : State) → Falls 0 (length s.at.left) (p s) → Falls 0 (length s.at.left) (unless_awaited word p s)
unless_awaited_falls None p s h = h
unless_awaited_falls (Some w) p s h = falls_then 0 0 (length s.at.left) (p s) _ h (λ _ t. reject_falls Tree 0 (length t.at.left) _ t)

misdeclared_falls : (refused : Bool) (left : Tree) (s : State) → Falls 0 (length s.at.left) (misdeclared refused left s)
unfolding misdeclared
misdeclared_falls refused left s = told_falls _ s

module _ (inner : Reader Tree) (h : (s : State) → Falls 1 (length s.at.left) (inner s)) (inner_expr : Class → Reader Tree)
    (g : (class : Class) (s : State) → Falls 1 (length s.at.left) (inner_expr class s)) (inner_pat : Reader Tree) (i : (s : State) → Falls 1 (length s.at.left) (inner_pat s))
    (inner_cover : Reader Cover) (j : (s : State) → Falls 1 (length s.at.left) (inner_cover s)) where
  head_variables_falls : (word : VarDeclKind) (s : State) → Falls 0 (length s.at.left) (head_variables inner_expr inner_pat word s)
  unfolding head_variables
  head_variables_falls word s = falls_moved 0 s _ (falls_last 0 (length (after s.at).left) (within (head_code word) (declarators inner_expr inner_pat true word) (moved s)) _
      (falls_coded 0 (length (after s.at).left) (declarators inner_expr inner_pat true word (coded (head_code word s.code) (moved s))) _ _
      (declarators_fall inner_expr g inner_pat i true word (coded (head_code word s.code) (moved s)))))

  head_expression_falls : (s : State) → Falls 0 (length s.at.left) (head_expression inner_expr inner_pat inner_cover s)
  unfolding head_expression
  head_expression_falls s = falls_last 0 (length s.at.left) (within without_in inner_cover s) _
      (falls_coded 0 (length s.at.left) (inner_cover (coded (without_in s.code) s)) _ _ (less (length s.at.left) (inner_cover (coded (without_in s.code) s)) (j (coded (without_in s.code) s))))

  using_head_falls : (is_await : Bool) (start : Span) (s : State) → Falls 0 (length s.at.left) (using_head inner_expr inner_pat is_await start s)
  unfolding using_head undeclared
  using_head_falls is_await start s = falls_then 0 0 (length s.at.left) (inner_pat s) _ (less (length s.at.left) (inner_pat s) (i s)) (λ name t. falls_last 0 (length t.at.left) (undeclared (record { lo = start.lo; hi = t.at.last.hi }) t) _ (told_falls _ t))

  named_head_falls : (s : State) → Falls 0 (length s.at.left) (named_head inner_expr inner_pat s)
  unfolding named_head
  named_head_falls s = falls_then 0 0 (length s.at.left) (inner_pat s) _ (less (length s.at.left) (inner_pat s) (i s)) (λ p t.
      falls_if 0 (length t.at.left) (stands_in_head (after t.at)) _ _ (using_head_falls false (span_at s.at) t) (omega arith))

  await_head_falls : (s : State) → Falls 0 (length s.at.left) (await_head inner_expr inner_pat inner_cover s)
  unfolding await_head await_or_expression
  await_head_falls s = falls_then 0 0 (length s.at.left) (within without_in inner_cover s) _
      (falls_coded 0 (length s.at.left) (inner_cover (coded (without_in s.code) s)) _ _ (less (length s.at.left) (inner_cover (coded (without_in s.code) s)) (j (coded (without_in s.code) s)))) (λ v t.
      falls_if 0 (length t.at.left) (awaits_using v.x && declares_behind t.code t.at) _ _ (using_head_falls true (span_at s.at) t) (omega arith))

  async_head_falls : (s : State) → Falls 0 (length s.at.left) (async_head inner_expr inner_pat s)
  unfolding async_head
  async_head_falls s = falls_last 0 (length s.at.left) (within without_in inner_pat s) _ (falls_coded 0 (length s.at.left) (inner_pat (coded (without_in s.code) s)) _ _ (less (length s.at.left) (inner_pat (coded (without_in s.code) s)) (i (coded (without_in s.code) s))))

  head_target_falls : (w : Bool) (s : State) → Falls 0 (length s.at.left) (head_target inner_expr inner_pat inner_cover w s)
  unfolding head_target async_or_expression
  head_target_falls w s = falls_if 0 (length s.at.left) w _ _ (falls_if 0 (length s.at.left) (begins_async_of s.at) _ _ (async_head_falls s) (head_expression_falls s)) (head_expression_falls s)

  opening_falls : (w : Bool) (s : State) → Falls 0 (length s.at.left) (opening inner_expr inner_pat inner_cover w s)
  unfolding opening
  opening_falls w s = falls_if 0 (length s.at.left) (sees kind.Semi s.at) _ _ (omega arith) (falls_if 0 (length s.at.left) (sees kind.Var s.at) _ _ (head_variables_falls decl.Var s)
      (falls_if 0 (length s.at.left) (sees kind.Const s.at) _ _ (head_variables_falls decl.Const s) (falls_if 0 (length s.at.left) (is_let_declaration s.at) _ _ (head_variables_falls decl.Let s)
      (falls_if 0 (length s.at.left) (may_declare_using s.code s.at) _ _ (named_head_falls s) (falls_if 0 (length s.at.left) (begins_await_head s.at) _ _ (await_head_falls s) (head_target_falls w s))))))

  head_part_falls : (behind : TokenKind) (s : State) → Falls 0 (length s.at.left) (head_part behind (inner_expr expression) s)
  unfolding head_part
  head_part_falls behind s =
      falls_if 0 (length s.at.left) (sees behind s.at) _ _ (omega arith) (less (length s.at.left) (within with_in (inner_expr expression) s) (whole_falls (inner_expr expression) (g expression) s))

  -- what is gone through, up to the body
  for_right_falls : {A : Type 0} (class : Class) (s : State) (f : Tree → Tree → State → A)
      → Falls 0 (length s.at.left) (and_then (within with_in (inner_expr class) s) (λ right t. and_then (expect kind.RParen t) (λ _ u. and_then (within in_loop inner u) (λ body v. Ok (f right body v, v)))))
  for_right_falls class s f = falls_then 0 0 (length s.at.left) (within with_in (inner_expr class) s) _
      (less (length s.at.left) (within with_in (inner_expr class) s) (whole_falls (inner_expr class) (g class) s)) (λ right t.
      falls_then 0 0 (length t.at.left) (expect kind.RParen t) _ (expect_falls kind.RParen t) (λ _ u.
      falls_last 0 (length u.at.left) (within in_loop inner u) _ (looped_falls inner h (inner_expr expression) (g expression) u)))

  for_parts_falls : (start : Span) (first : Opening) (s : State) → Falls 0 (length s.at.left) (for_parts inner inner_expr start first s)
  unfolding for_parts
  for_parts_falls start first s = falls_then 0 0 (length s.at.left) (as_init first s) _ (as_init_falls first s) (λ x b.
      falls_then 0 0 (length b.at.left) (expect kind.Semi b) _ (expect_falls kind.Semi b) (λ _ c.
      falls_then 0 0 (length c.at.left) (head_part kind.Semi (inner_expr expression) c) _ (head_part_falls kind.Semi c) (λ y d.
      falls_then 0 0 (length d.at.left) (expect kind.Semi d) _ (expect_falls kind.Semi d) (λ _ f.
      falls_then 0 0 (length f.at.left) (head_part kind.RParen (inner_expr expression) f) _ (head_part_falls kind.RParen f) (λ z k.
      falls_then 0 0 (length k.at.left) (expect kind.RParen k) _ (expect_falls kind.RParen k) (λ _ l.
      falls_last 0 (length l.at.left) (within in_loop inner l) _ (looped_falls inner h (inner_expr expression) (g expression) l)))))))

  for_in_falls : (start : Span) (first : Opening) (s : State) → Falls 0 (length s.at.left) (for_in inner inner_expr start first s)
  unfolding for_in
  for_in_falls start first s = falls_then 0 0 (length s.at.left) (as_left first s) _ (as_left_falls first s) (λ left a.
      falls_then 0 0 (length a.at.left) (misdeclared a.code.flags.strict left a) _ (misdeclared_falls a.code.flags.strict left a) (λ _ b.
      falls_moved 0 b _ (for_right_falls expression (moved b) _)))

  for_of_falls : (is_await : Bool) (start : Span) (first : Opening) (s : State) → Falls 0 (length s.at.left) (for_of inner inner_expr is_await start first s)
  unfolding for_of
  for_of_falls is_await start first s = falls_then 0 0 (length s.at.left) (as_left first s) _ (as_left_falls first s) (λ left a.
      falls_then 0 0 (length a.at.left) (misdeclared true left a) _ (misdeclared_falls true left a) (λ _ b.
      falls_moved 0 b _ (for_right_falls assignment (moved b) _)))

  for_behind_falls : (start : Span) (word : Option Span) (first : Opening) (s : State) → Falls 0 (length s.at.left) (for_behind inner inner_expr start word first s)
  unfolding for_behind
  for_behind_falls start word first s =
      falls_if 0 (length s.at.left) (sees kind.In s.at) _ _ (unless_awaited_falls word (for_in inner inner_expr start first) s (for_in_falls start first s))
      (falls_if 0 (length s.at.left) (word_at (codes "of") s.at) _ _ (for_of_falls (is_some word) start first s)
      (unless_awaited_falls word (for_parts inner inner_expr start first) s (for_parts_falls start first s)))

  pub for_falls : (s : State) → kind_at s.at ≢ kind.End → Falls 1 (length s.at.left) (for_stmt inner inner_expr inner_pat inner_cover s)
  unfolding for_stmt
  for_falls s e = falls_past s _ e (falls_then 0 0 (length (after s.at).left) (await_here (moved s)) _ (await_here_falls (moved s)) (λ word c.
      falls_then 0 0 (length c.at.left) (expect kind.LParen c) _ (expect_falls kind.LParen c) (λ _ a.
      falls_then 0 0 (length a.at.left) (opening inner_expr inner_pat inner_cover (is_some word) a) _ (opening_falls (is_some word) a) (λ first b. for_behind_falls (span_at s.at) word first b))))
