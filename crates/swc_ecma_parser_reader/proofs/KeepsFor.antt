-- `for` loses nothing, whatever its head begins with.
use Rattle.swc_ecma_parser_reader.specs.Words.{begins_async_of}
use Rattle.swc_ecma_parser_reader.proofs.KeepsParts.{as_init_keeps, as_left_keeps, await_here_keeps, unless_awaited_keeps, misdeclared_keeps}
use Rattle.swc_ecma_parser_reader.proofs.Errors.{is_error}
use Rattle.swc_ecma_parser_reader.proofs.SoundParts.{variables_stand}
use Rattle.swc_ecma_parser_reader.proofs.expressions.KeepSteps.{told_keeps}
use Rattle.swc_ecma_parser_grammar.proofs.StatementBegins.{word_place}
use Rattle.swc_ecma_parser_reader.specs.Reader.{await_here, Opening, as_init, as_left, head_variables, head_expression, opening, head_part, misdeclared, for_parts, for_in, for_of, for_behind, for_stmt, declarators, undeclared, using_head, named_head, await_or_expression, await_head, async_head, async_or_expression, head_target, begins_await_head}
use Rattle.swc_ecma_parser_reader.specs.State.{State, moved, coded, within, name, expect}
use Rattle.swc_ecma_parser_grammar.specs.language.Items.{sub_statement}
use Rattle.swc_ecma_parser_model.specs.declared.leaves.VarDeclKind.{VarDeclKind}
use Rattle.swc_ecma_parser_model.specs.declared.leaves.VarDeclKind.TheVariants as decl
use Rattle.swc_ecma_parser_grammar.specs.Variables.{is_var}
use Rattle.swc_ecma_parser_grammar.specs.language.Contexts.{without_in, in_loop, with_in, head_code}
use Rattle.swc_ecma_parser_grammar.specs.Follows.{word_at, is_let_declaration}
use Rattle.std.proofs.Common.{◌≡◌, Bool, true, false, cond, Option, refl, ◌∙◌, ap}
use Rattle.std.specs.Prelude.{◌&&◌, is_some, codes}
use Rattle.swc_ecma_parser_common.specs.declared.span.Span.{Span}
use Rattle.swc_ecma_parser_token.specs.declared.kind.TokenKind.{TokenKind}
use Rattle.swc_ecma_parser_token.specs.declared.kind.TokenKind.TheVariants as kind
use Rattle.swc_ecma_parser_input.specs.Place.{after}
use Rattle.swc_ecma_parser_grammar.specs.Looks.{kind_at, sees, span_at}
use Rattle.swc_ecma_parser_grammar.specs.language.Goals.{Class, expression, assignment}
use Rattle.swc_ecma_parser_reader.proofs.Meets.{Answers, answers_then, answers_if, saw}
use Rattle.swc_ecma_parser_reader.proofs.Behind.{NothingLost, Kept, Lost, flagged_kept, behind_after, expect_keeps}
use Rattle.swc_ecma_parser_grammar.specs.scaffold.Using.{may_declare_using, awaits_using, declares_behind, stands_in_head}
use Rattle.swc_ecma_parser_reader.proofs.KeepsBelow.{KeepsBelow}
use Rattle.swc_ecma_parser_reader.proofs.KeepsDeclarations.{declarators_keeps}
use Rattle.swc_ecma_parser_reader.proofs.KeepsLoops.{looped_keeps}

-- in the head of a loop `in` is an operator or none
head_code_keeps : (b t : State) (o : Bool) → NothingLost b t → NothingLost b (coded (cond o (without_in t.code) (with_in t.code)) t)
head_code_keeps b t true h = h
head_code_keeps b t false h = h

module _ (known : KeepsBelow) (b : State) (s : State) (f : NothingLost b s) where
  head_variables_keeps : (word : VarDeclKind) (t : State) → is_error (kind_at t.at) ≡ false → NothingLost b t → Answers (Kept b) (Lost b) (head_variables known.inner_expr known.inner_pat word t)
  unfolding head_variables
  head_variables_keeps word t e g = let h = behind_after b t refl e g in answers_then _ _ (within (head_code word) (declarators known.inner_expr known.inner_pat true word) (moved t)) _
      (answers_then (Kept b) _ (declarators known.inner_expr known.inner_pat true word (coded (head_code word t.code) (moved t))) _
      (declarators_keeps known.inner_expr known.inner_pat known.below_expr known.below_pat b true word (coded (head_code word t.code) (moved t)) (head_code_keeps b (moved t) (is_var word) h))
      (λ x u k. flagged_kept b (moved t) u h k)) (λ x u k. k)

  using_head_keeps : (is_await : Bool) (start : Span) (t : State) → NothingLost b t → Answers (Kept b) (Lost b) (using_head known.inner_expr known.inner_pat is_await start t)
  unfolding using_head undeclared
  using_head_keeps is_await start t g = answers_then _ _ (known.inner_pat t) _ (known.below_pat b t g) (λ name u k.
      answers_then (Kept b) _ (undeclared (record { lo = start.lo; hi = u.at.last.hi }) u) _ (told_keeps b _ u k) (λ _ v j. j))

  named_head_keeps : (t : State) → NothingLost b t → Answers (Kept b) (Lost b) (named_head known.inner_expr known.inner_pat t)
  unfolding named_head
  named_head_keeps t g = answers_then _ _ (known.inner_pat t) _ (known.below_pat b t g) (λ p u k.
      answers_if _ _ (stands_in_head (after u.at)) _ _ (λ _. using_head_keeps false (span_at t.at) u k) (λ _. k))

  await_head_keeps : (t : State) → NothingLost b t → Answers (Kept b) (Lost b) (await_head known.inner_expr known.inner_pat known.inner_head t)
  unfolding await_head await_or_expression
  await_head_keeps t g = answers_then _ _ (within without_in known.inner_head t) _
      (answers_then (Kept b) _ (known.inner_head (coded (without_in t.code) t)) _ (known.below_head b (coded (without_in t.code) t) g) (λ v u k. flagged_kept b t u g k)) (λ v u k.
      answers_if _ _ (awaits_using v.x && declares_behind u.code u.at) _ _ (λ _. using_head_keeps true (span_at t.at) u k) (λ _. k))

  async_head_keeps : (t : State) → NothingLost b t → Answers (Kept b) (Lost b) (async_head known.inner_expr known.inner_pat t)
  unfolding async_head
  async_head_keeps t g = answers_then _ _ (within without_in known.inner_pat t) _
      (answers_then (Kept b) _ (known.inner_pat (coded (without_in t.code) t)) _ (known.below_pat b (coded (without_in t.code) t) g) (λ p u k. flagged_kept b t u g k)) (λ p u k. k)

  head_expression_keeps : (t : State) → NothingLost b t → Answers (Kept b) (Lost b) (head_expression known.inner_expr known.inner_pat known.inner_head t)
  unfolding head_expression
  head_expression_keeps t g = answers_then _ _ (within without_in known.inner_head t) _
      (answers_then (Kept b) _ (known.inner_head (coded (without_in t.code) t)) _ (known.below_head b (coded (without_in t.code) t) g) (λ v u k. flagged_kept b t u g k)) (λ v u k. k)

  head_target_keeps : (w : Bool) (t : State) → NothingLost b t → Answers (Kept b) (Lost b) (head_target known.inner_expr known.inner_pat known.inner_head w t)
  unfolding head_target async_or_expression
  head_target_keeps w t g = answers_if _ _ w _ _ (λ _. answers_if _ _ (begins_async_of t.at) _ _ (λ _. async_head_keeps t g) (λ _. head_expression_keeps t g)) (λ _. head_expression_keeps t g)

  opening_keeps : (w : Bool) (t : State) → NothingLost b t → Answers (Kept b) (Lost b) (opening known.inner_expr known.inner_pat known.inner_head w t)
  unfolding opening
  opening_keeps w t g = answers_if _ _ (sees kind.Semi t.at) _ _ (λ _. g)
      (λ _. answers_if _ _ (sees kind.Var t.at) _ _ (λ e. head_variables_keeps decl.Var t (variables_stand decl.Var t.at e) g)
      (λ _. answers_if _ _ (sees kind.Const t.at) _ _ (λ e. head_variables_keeps decl.Const t (variables_stand decl.Const t.at e) g)
      (λ _. answers_if _ _ (is_let_declaration t.at) _ _ (λ e. head_variables_keeps decl.Let t (variables_stand decl.Let t.at e) g)
      (λ _. answers_if _ _ (may_declare_using t.code t.at) _ _ (λ _. named_head_keeps t g)
      (λ _. answers_if _ _ (begins_await_head t.at) _ _ (λ _. await_head_keeps t g)
      (λ _. head_target_keeps w t g))))))

  head_part_keeps : (j : TokenKind) (t : State) → NothingLost b t → Answers (Kept b) (Lost b) (head_part j (known.inner_expr expression) t)
  unfolding head_part
  head_part_keeps j t g = answers_if _ _ (sees j t.at) _ _ (λ _. g)
      (λ _. answers_then (Kept b) _ (known.inner_expr expression (coded (with_in t.code) t)) _ (known.below_expr expression b (coded (with_in t.code) t) g) (λ x u k. flagged_kept b t u g k))

  for_parts_keeps : (start : Span) (o : Opening) (t : State) → NothingLost b t
      → Answers (Kept b) (Lost b) (for_parts (known.inner sub_statement) known.inner_expr start o t)
  unfolding for_parts
  for_parts_keeps start o t g =
      answers_then _ _ (as_init o t) _ (as_init_keeps b o t g) (λ x u a.
      answers_then _ _ (expect kind.Semi u) _ (expect_keeps b u a kind.Semi refl) (λ _ v c.
      answers_then _ _ (head_part kind.Semi (known.inner_expr expression) v) _ (head_part_keeps kind.Semi v c) (λ y w d.
      answers_then _ _ (expect kind.Semi w) _ (expect_keeps b w d kind.Semi refl) (λ _ q k.
      answers_then _ _ (head_part kind.RParen (known.inner_expr expression) q) _ (head_part_keeps kind.RParen q k) (λ z p l.
      answers_then _ _ (expect kind.RParen p) _ (expect_keeps b p l kind.RParen refl) (λ _ r j.
      answers_then _ _ (within in_loop (known.inner sub_statement) r) _ (looped_keeps known b s f r j) (λ _ b a. a)))))))

  -- what stands behind `in` and `of`
  behind_keeps : (class : Class) (t : State) → NothingLost b t → Answers (Kept b) (Lost b) (within with_in (known.inner_expr class) t)
  behind_keeps class t g = answers_then (Kept b) _ (known.inner_expr class (coded (with_in t.code) t)) _ (known.below_expr class b (coded (with_in t.code) t) g) (λ x u k. flagged_kept b t u g k)

  for_in_keeps : (start : Span) (o : Opening) (t : State) → is_error (kind_at t.at) ≡ false → NothingLost b t
      → Answers (Kept b) (Lost b) (for_in (known.inner sub_statement) known.inner_expr start o t)
  unfolding for_in
  for_in_keeps start o t e g =
      answers_then _ _ (as_left o t) _ (as_left_keeps b o t g) (λ x u (a, p). let n : is_error (kind_at u.at) ≡ false = ap (λ z. is_error (kind_at z)) p ∙ e in
      answers_then _ _ (misdeclared u.code.flags.strict x u) _ (misdeclared_keeps b u.code.flags.strict x u n a) (λ _ v (c, q).
      answers_then _ _ (within with_in (known.inner_expr expression) (moved v)) _ (behind_keeps expression (moved v) (behind_after b v refl (ap (λ z. is_error (kind_at z)) q ∙ n) c)) (λ y w d.
      answers_then _ _ (expect kind.RParen w) _ (expect_keeps b w d kind.RParen refl) (λ _ r j.
      answers_then _ _ (within in_loop (known.inner sub_statement) r) _ (looped_keeps known b s f r j) (λ _ b a. a)))))

  for_of_keeps : (w : Bool) (start : Span) (o : Opening) (t : State) → is_error (kind_at t.at) ≡ false → NothingLost b t
      → Answers (Kept b) (Lost b) (for_of (known.inner sub_statement) known.inner_expr w start o t)
  unfolding for_of
  for_of_keeps w start o t e g =
      answers_then _ _ (as_left o t) _ (as_left_keeps b o t g) (λ x u (a, p). let n : is_error (kind_at u.at) ≡ false = ap (λ z. is_error (kind_at z)) p ∙ e in
      answers_then _ _ (misdeclared true x u) _ (misdeclared_keeps b true x u n a) (λ _ v (c, q).
      answers_then _ _ (within with_in (known.inner_expr assignment) (moved v)) _ (behind_keeps assignment (moved v) (behind_after b v refl (ap (λ z. is_error (kind_at z)) q ∙ n) c)) (λ y w d.
      answers_then _ _ (expect kind.RParen w) _ (expect_keeps b w d kind.RParen refl) (λ _ r j.
      answers_then _ _ (within in_loop (known.inner sub_statement) r) _ (looped_keeps known b s f r j) (λ _ b a. a)))))

  for_behind_keeps : (start : Span) (word : Option Span) (o : Opening) (t : State) → NothingLost b t
      → Answers (Kept b) (Lost b) (for_behind (known.inner sub_statement) known.inner_expr start word o t)
  unfolding for_behind
  for_behind_keeps start word o t g =
      answers_if _ _ (sees kind.In t.at) _ _ (λ e. unless_awaited_keeps b word (for_in (known.inner sub_statement) known.inner_expr start o) t (for_in_keeps start o t (ap is_error (saw t.at kind.In e)) g))
      (λ _. answers_if _ _ (word_at (codes "of") t.at) _ _ (λ e. for_of_keeps (is_some word) start o t (ap is_error (word_place (codes "of") t.at e)) g)
      (λ _. unless_awaited_keeps b word (for_parts (known.inner sub_statement) known.inner_expr start o) t (for_parts_keeps start o t g)))

  pub for_keeps : kind_at s.at ≡ kind.For → Answers (Kept b) (Lost b) (for_stmt (known.inner sub_statement) known.inner_expr known.inner_pat known.inner_head s)
  unfolding for_stmt
  for_keeps e =
      let g = behind_after b s e refl f in
      answers_then _ _ (await_here (moved s)) _ (await_here_keeps b (moved s) g) (λ word v c.
      answers_then _ _ (expect kind.LParen v) _ (expect_keeps b v c kind.LParen refl) (λ _ t a.
      answers_then _ _ (opening known.inner_expr known.inner_pat known.inner_head (is_some word) t) _ (opening_keeps (is_some word) t a) (λ o u k.
      for_behind_keeps (span_at s.at) word o u k)))
