-- `await using` in the head of a loop: the two words are an expression, one level further in than what they declare, and before a name
-- nothing goes on with it.
use Rattle.std.proofs.Common.{◌≡◌, ℕ, zero, suc, Bool, true, false, not, None, refl, true≢false, sym, ◌∙◌, ap, subst, codes}
use Rattle.std.specs.Prelude.{◌&&◌, ◌||◌}
use Rattle.swc_ecma_parser_common.specs.declared.span.Span.{Span}
use Rattle.swc_ecma_parser_token.specs.declared.kind.TokenKind.{TokenKind}
use Rattle.swc_ecma_parser_token.specs.declared.kind.TokenKind.TheVariants as kind
use Rattle.swc_ecma_parser_input.specs.Place.{Place, after}
use Rattle.swc_ecma_parser_model.specs.Forms.{is_binding_name, is_ident_named}
use Rattle.swc_ecma_parser_model.specs.Tree as tree
use Rattle.swc_ecma_parser_model.specs.Tree.{Tree, Text}
use Rattle.swc_ecma_parser_grammar.specs.Looks.{kind_at, breaks_at, same_kind, spanned}
use Rattle.swc_ecma_parser_grammar.specs.Names.{Code, identifier_at}
use Rattle.swc_ecma_parser_grammar.specs.Follows.{word_at, continues_left_side}
use Rattle.swc_ecma_parser_grammar.specs.scaffold.Using.{awaits_using, declares_behind, stands_in_head}
use Rattle.swc_ecma_parser_grammar.specs.scaffold.Supported.{supported_in}
use Rattle.swc_ecma_parser_grammar.specs.language.Goals.{Goal, binding, expression, unary, expr_goal, pattern_goal, using_goal}
use Rattle.swc_ecma_parser_grammar.specs.language.Contexts.{may_await, without_in}
use Rattle.swc_ecma_parser_grammar.specs.language.Operators.{update_operator}
use Rattle.swc_ecma_parser_grammar.specs.language.Begins.{awaits, begins_unary, begins_operand}
use Rattle.swc_ecma_parser_grammar.specs.language.Continues.{continues_unary, continues_operand, continues_conditional, continues_head, continues_assignment}
use Rattle.swc_ecma_parser_grammar.specs.language.Parts.{ReadsName}
use Rattle.swc_ecma_parser_grammar.specs.language.LeftSides as sides
use Rattle.swc_ecma_parser_grammar.specs.language.LeftSides.{LeftSideRule}
use Rattle.swc_ecma_parser_grammar.specs.language.Expressions as expressions
use Rattle.swc_ecma_parser_grammar.specs.language.Expressions.{UnaryRule, BinaryRule, AssignmentRule, ExpressionRule}
use Rattle.swc_ecma_parser_grammar.specs.language.Patterns.{binding_name_rule, target_name_rule, target_rule, array_rule, object_rule}
use Rattle.swc_ecma_parser_grammar.specs.language.Reads.{Reads}
use Rattle.swc_ecma_parser_grammar.proofs.Tests.{and_yes, and_no}
use Rattle.swc_ecma_parser_grammar.proofs.ExpressionBegins.{await_stands, name_is_identifier}
use Rattle.swc_ecma_parser_grammar.proofs.StatementBegins.{word_place}
use Rattle.swc_ecma_parser_grammar.proofs.Inversions.{is_access}
use Rattle.swc_ecma_parser_grammar.proofs.Using.{no_other, word_no_function}
use Rattle.swc_ecma_parser_grammar.proofs.UsingParts.{using_word, bound_stands}

-- ---- what such a tree is read from

-- of another form
clash : {X : Type 0} (a b : Bool) → a ≡ true → a ≡ b → b ≡ false → X
clash a b h e f = absurd (true≢false (sym h ∙ e ∙ f))

abbrev is_using : Tree → Bool
is_using x = is_ident_named (codes "using") x

-- what is read as `await using`
record IsAwaited (In : Goal → Type 0) (k : Code) (c d : Place) : Type 0 where
  pub operand : Tree
  pub awaits_here : awaits k.flags c ≡ true
  pub may : may_await k ≡ true
  pub reads : In (expr_goal unary k operand (after c) d)
  pub is_name : is_using operand ≡ true

module _ {In : Goal → Type 0} {k : Code} where
  -- a name is one token, however it is written
  left_named : {x : Tree} {c d : Place} → LeftSideRule In k x c d → is_using x ≡ true → d ≡ after c
  left_named (sides.primary_rule (sides.name_rule text s r j e)) h = r.reads_word.next
  left_named (sides.primary_rule (sides.string_rule value raw s r e)) h = clash _ _ h (ap is_using e) refl
  left_named (sides.primary_rule (sides.true_rule s r e)) h = clash _ _ h (ap is_using e) refl
  left_named (sides.primary_rule (sides.false_rule s r e)) h = clash _ _ h (ap is_using e) refl
  left_named (sides.primary_rule (sides.null_rule s r e)) h = clash _ _ h (ap is_using e) refl
  left_named (sides.primary_rule (sides.number_rule raw s r e)) h = clash _ _ h (ap is_using e) refl
  left_named (sides.primary_rule (sides.big_int_rule raw s r e)) h = clash _ _ h (ap is_using e) refl
  left_named (sides.primary_rule (sides.regex_rule exp flags s r e)) h = clash _ _ h (ap is_using e) refl
  left_named (sides.primary_rule (sides.template_rule es qs r e)) h = clash _ _ h (ap is_using e) refl
  left_named (sides.primary_rule (sides.this_rule j n e)) h = clash _ _ h (ap is_using e) refl
  left_named (sides.primary_rule (sides.array_rule xs m j r l n e)) h = clash _ _ h (ap is_using e) refl
  left_named (sides.primary_rule (sides.object_rule xs m j r l n e)) h = clash _ _ h (ap is_using e) refl
  left_named (sides.primary_rule (sides.function_rule name y r e)) h = clash _ _ h (ap is_using e) refl
  left_named (sides.primary_rule (sides.class_rule name y r e)) h = clash _ _ h (ap is_using e) refl
  left_named (sides.primary_rule (sides.paren_rule y m j r l n e)) h = clash _ _ h (ap is_using e) refl
  left_named (sides.import_meta_rule a j w n m e) h = clash _ _ h (ap is_using e) refl
  left_named (sides.new_target_rule H G W N e) h = clash _ _ h (ap is_using e) refl
  left_named (sides.member_rule y p m r n a e) h = clash _ _ h (ap is_using e) refl
  left_named (sides.super_property_rule p a r j e) h = clash _ _ h (ap is_using e) refl
  left_named (sides.call_rule y z m r n a e) h = clash _ _ h (ap is_using e) refl
  left_named (sides.tagged_rule t es qs m r N q e) h = clash _ _ h (ap is_using e) refl
  left_named (sides.chain_rule o b m r H q e) h = clash _ _ h (ap is_using e) refl
  left_named (sides.linked_rule o b m r N q e) h = clash _ _ h (ap is_using e) refl
  left_named (sides.super_call_rule z a r e) h = clash _ _ h (ap is_using e) refl
  left_named (sides.import_call_rule z a r e) h = clash _ _ h (ap is_using e) refl
  left_named (sides.new_rule y z m a r b e) h = clash _ _ h (ap is_using e) refl
  left_named (sides.bare_new_rule y a r e) h = clash _ _ h (ap is_using e) refl

  unary_named : {x : Tree} {c d : Place} → UnaryRule In k x c d → is_using x ≡ true → d ≡ after c
  unary_named (expressions.operand_rule r) h = left_named r.0 h
  unary_named (expressions.unary_rule op y a r e) h = clash _ _ h (ap is_using e) refl
  unary_named (expressions.prefix_rule op y a r t e) h = clash _ _ h (ap is_using e) refl
  unary_named (expressions.postfix_rule op y m r t b a n e) h = clash _ _ h (ap is_using e) refl
  unary_named (expressions.await_rule y a m r e) h = clash _ _ h (ap is_using e) refl

  left_awaits : {x : Tree} {c d : Place} → LeftSideRule In k x c d → awaits_using x ≡ false
  unfolding awaits_using
  left_awaits (sides.primary_rule (sides.name_rule text s r j e)) = ap awaits_using e
  left_awaits (sides.primary_rule (sides.string_rule value raw s r e)) = ap awaits_using e
  left_awaits (sides.primary_rule (sides.true_rule s r e)) = ap awaits_using e
  left_awaits (sides.primary_rule (sides.false_rule s r e)) = ap awaits_using e
  left_awaits (sides.primary_rule (sides.null_rule s r e)) = ap awaits_using e
  left_awaits (sides.primary_rule (sides.number_rule raw s r e)) = ap awaits_using e
  left_awaits (sides.primary_rule (sides.big_int_rule raw s r e)) = ap awaits_using e
  left_awaits (sides.primary_rule (sides.regex_rule exp flags s r e)) = ap awaits_using e
  left_awaits (sides.primary_rule (sides.template_rule es qs r e)) = ap awaits_using e
  left_awaits (sides.primary_rule (sides.this_rule j n e)) = ap awaits_using e
  left_awaits (sides.primary_rule (sides.array_rule xs m j r l n e)) = ap awaits_using e
  left_awaits (sides.primary_rule (sides.object_rule xs m j r l n e)) = ap awaits_using e
  left_awaits (sides.primary_rule (sides.function_rule name y r e)) = ap awaits_using e
  left_awaits (sides.primary_rule (sides.class_rule name y r e)) = ap awaits_using e
  left_awaits (sides.primary_rule (sides.paren_rule y m j r l n e)) = ap awaits_using e
  left_awaits (sides.import_meta_rule a j w n m e) = ap awaits_using e
  left_awaits (sides.new_target_rule H G W N e) = ap awaits_using e
  left_awaits (sides.member_rule y p m r n a e) = ap awaits_using e
  left_awaits (sides.super_property_rule p a r j e) = ap awaits_using e
  left_awaits (sides.call_rule y z m r n a e) = ap awaits_using e
  left_awaits (sides.tagged_rule t es qs m r N q e) = ap awaits_using e
  left_awaits (sides.chain_rule o b m r H q e) = ap awaits_using e
  left_awaits (sides.linked_rule o b m r N q e) = ap awaits_using e
  left_awaits (sides.super_call_rule z a r e) = ap awaits_using e
  left_awaits (sides.import_call_rule z a r e) = ap awaits_using e
  left_awaits (sides.new_rule y z m a r b e) = ap awaits_using e
  left_awaits (sides.bare_new_rule y a r e) = ap awaits_using e

  unary_awaited : {x : Tree} {c d : Place} → UnaryRule In k x c d → awaits_using x ≡ true → IsAwaited In k c d
  unfolding awaits_using
  unary_awaited (expressions.operand_rule r) h = absurd (true≢false (sym h ∙ left_awaits r.0))
  unary_awaited (expressions.unary_rule op y a r e) h = clash _ _ h (ap awaits_using e) refl
  unary_awaited (expressions.prefix_rule op y a r t e) h = clash _ _ h (ap awaits_using e) refl
  unary_awaited (expressions.postfix_rule op y m r t b a n e) h = clash _ _ h (ap awaits_using e) refl
  unary_awaited (expressions.await_rule y a m r e) h = record { operand = y; awaits_here = a; may = m; reads = r; is_name = sym (ap awaits_using e) ∙ h }

  binary_awaited : {n : ℕ} {x : Tree} {c d : Place} → BinaryRule In k n x c d → awaits_using x ≡ true → IsAwaited In k c d
  unfolding awaits_using
  binary_awaited (expressions.single_rule r) h = unary_awaited r h
  binary_awaited (expressions.left_rule op y z m b g a r o s u v e) h = clash _ _ h (ap awaits_using e) refl
  binary_awaited (expressions.power_rule y z m b r u a s e) h = clash _ _ h (ap awaits_using e) refl
  binary_awaited (expressions.private_in_rule y z m l b r H q e) h = clash _ _ h (ap awaits_using e) refl

  assignment_awaited : {x : Tree} {c d : Place} → AssignmentRule In k x c d → awaits_using x ≡ true → IsAwaited In k c d
  unfolding awaits_using
  assignment_awaited (expressions.operators_rule r s) h = binary_awaited r h
  assignment_awaited (expressions.conditional_rule t y z a j r q o b s u e) h = clash _ _ h (ap awaits_using e) refl
  assignment_awaited (expressions.assign_rule op y z m r t a b e) h = clash _ _ h (ap awaits_using e) refl
  assignment_awaited (expressions.destructuring_rule y z m r t a b e) h = clash _ _ h (ap awaits_using e) refl
  assignment_awaited (expressions.arrow_rule a ps y o j r s t b u e) h = clash _ _ h (ap awaits_using e) refl
  assignment_awaited (expressions.bare_yield_rule g a n s e) h = clash _ _ h (ap awaits_using e) refl
  assignment_awaited (expressions.yield_rule y g a b s r e) h = clash _ _ h (ap awaits_using e) refl
  assignment_awaited (expressions.delegate_rule y g a b m r e) h = clash _ _ h (ap awaits_using e) refl

  expression_awaited : {x : Tree} {c d : Place} → ExpressionRule In k x c d → awaits_using x ≡ true → IsAwaited In k c d
  unfolding awaits_using
  expression_awaited (expressions.assignment_rule r e) h = assignment_awaited r h
  expression_awaited (expressions.sequence_rule y z zs r e) h = clash _ _ h (ap awaits_using e) refl

-- the words of such an expression, and the level of the second, which may be written with escapes
pub record AwaitsUsing (n : ℕ) (k : Code) (c d : Place) : Type 0 where
  pub below : ℕ
  pub level : n ≡ suc (suc below)
  pub stands : kind_at c ≡ kind.Await
  pub may : may_await k ≡ true
  pub next : d ≡ after (after c)

pub awaited_words : (n : ℕ) (k : Code) (x : Tree) (c d : Place) → Reads n (expr_goal expression k x c d) → awaits_using x ≡ true → AwaitsUsing n k c d
awaited_words zero k x c d r h = absurd r
awaited_words (suc n) k x c d r h = by_level n (expression_awaited r h)
  where
    by_level : (n : ℕ) → IsAwaited (Reads n) k c d → AwaitsUsing (suc n) k c d
    by_level zero q = absurd q.reads
    by_level (suc n) q = record { below = n; level = refl; stands = await_stands k.flags c q.awaits_here; may = q.may; next = unary_named q.reads.0 q.is_name }

-- ---- the name that is declared, at whatever level

pub name_level : (m n : ℕ) (k : Code) (p : Tree) (c d : Place) → is_binding_name p ≡ true → Reads m (pattern_goal binding k p c d) → Reads (suc n) (pattern_goal binding k p c d)
name_level zero n k p c d h r = absurd r
name_level (suc m) n k p c d h (binding_name_rule text s i r e) = binding_name_rule text s i r e
name_level (suc m) n k p c d h (target_name_rule text s i a r e) = cc
name_level (suc m) n k p c d h (target_rule y i r t u e) = cc
name_level (suc m) n k p c d h (array_rule es j i r l g e) = cc
name_level (suc m) n k p c d h (object_rule ps j i r l g e) = cc

-- read so, it is what the language declares behind `await`
pub await_using_widens : (n : ℕ) (k : Code) (x name : Tree) (c m d : Place) → Reads n (expr_goal expression (without_in k) x c m) → awaits_using x ≡ true → word_at (codes "using") (after c) ≡ true
    → word_at (codes "of") m ≡ false → Reads n (pattern_goal binding k name m d) → is_binding_name name ≡ true → Reads n (using_goal k (tree.declarator (spanned m d) name tree.absent) (after c) d)
await_using_widens n k x name c m d r h w o s i = let q = awaited_words n (without_in k) x c m r h in
    subst (λ l. Reads l (using_goal k (tree.declarator (spanned m d) name tree.absent) (after c) d)) (sym q.level) (record {
      name = name;
      begins = w;
      no_of = ap (word_at (codes "of")) (sym q.next) ∙ o;
      reads_name = subst (λ p. Reads (suc q.below) (pattern_goal binding k name p d)) q.next (name_level n q.below k name m d i s);
      is_name = i;
      is = ap (λ p. tree.declarator (spanned p d) name tree.absent) q.next;
    })

-- ---- before a name nothing goes on with the two words

kind_stops : (j : TokenKind) (b : Bool) → is_access j ≡ false → update_operator j ≡ None
    → (same_kind j kind.Dot
    || (same_kind j kind.LBracket
    || (same_kind j kind.LParen
    || (same_kind j kind.QuestionDot || ((same_kind j kind.Template || same_kind j kind.TemplateHead) || (not b && (same_kind j kind.PlusPlus || same_kind j kind.MinusMinus))))))) ≡ false
unfolding same_kind
kind_stops kind.Dot b e f = cc
kind_stops kind.LBracket b e f = cc
kind_stops kind.LParen b e f = cc
kind_stops kind.QuestionDot b e f = cc
kind_stops kind.Template b e f = cc
kind_stops kind.TemplateHead b e f = cc
kind_stops kind.PlusPlus b e f = cc
kind_stops kind.MinusMinus b e f = cc
kind_stops _ b e f = and_no (not b) _ refl

name_stops : (f : Code) (d : Place) → identifier_at f.flags d ≡ true → continues_left_side d ≡ false
unfolding continues_left_side
name_stops f d i = let o = no_other f.flags d i in kind_stops (kind_at d) (breaks_at d) o.no_access o.no_update

-- `using` as an operand
using_operand : (n : ℕ) (j k : Code) (s : Span) (c : Place) → ReadsName j (codes "using") s c (after c) → word_at (codes "using") c ≡ true → identifier_at k.flags (after c) ≡ true
    → Reads (suc n) (expr_goal unary j (tree.ident s (codes "using")) c (after c))
unfolding awaits continues_unary same_kind
using_operand n j k s c r w i = (
  expressions.operand_rule (sides.primary_rule (sides.name_rule (codes "using") s r (word_no_function k c w i) refl), rw (word_place (codes "using") c w) refl),
  name_stops k (after c) i,
)

-- `await` before it
awaits_name : (j : Code) (c : Place) → kind_at c ≡ kind.Await → identifier_at j.flags (after c) ≡ true → awaits j.flags c ≡ true
unfolding awaits begins_unary same_kind
awaits_name j c e i = rw (e, i) (by_test (begins_operand (kind_at (after c))))
  where
    by_test : (b : Bool) → (b || true) ≡ true
    by_test true = refl
    by_test false = refl

await_ends : (k : Code) (s : Span) (e : Tree) (c m : Place) (f : Code) → identifier_at f.flags m ≡ true → continues_assignment k (tree.await s e) c m ≡ false
unfolding continues_assignment continues_operand continues_unary continues_conditional continues_head
await_ends k s e c m f i = let o = no_other f.flags m i in rw (o.no_binary, o.no_question, o.no_assignment) refl

await_expression : (n : ℕ) (k : Code) (s : Span) (c : Place) → kind_at c ≡ kind.Await → may_await k ≡ true → ReadsName (without_in k) (codes "using") s (after c) (after (after c))
    → word_at (codes "using") (after c) ≡ true → identifier_at k.flags (after (after c)) ≡ true
    → Reads (suc (suc n)) (expr_goal expression (without_in k) (tree.await (spanned c (after (after c))) (tree.ident s (codes "using"))) c (after (after c)))
unfolding may_await
await_expression n k s c e m r w i =
    expressions.assignment_rule
    (expressions.operators_rule
    (expressions.single_rule (expressions.await_rule (tree.ident s (codes "using")) (awaits_name (without_in k) c e (name_is_identifier (without_in k) (codes "using") s (after c) (after (after c)) r)) m
    (using_operand n (without_in k) k s (after c) r w i) refl))
    (await_ends (without_in k) (spanned c (after (after c))) (tree.ident s (codes "using")) c (after (after c)) k i))
    (no_other k.flags (after (after c)) i).no_comma

-- what the language declares behind `await`, as it is read
pub record UsingNarrowed (n : ℕ) (k : Code) (y : Tree) (c d : Place) : Type 0 where
  pub words : Tree
  pub name : Tree
  pub reads_words : Reads n (expr_goal expression (without_in k) words c (after (after c)))
  pub are_words : awaits_using words ≡ true
  pub word : word_at (codes "using") (after c) ≡ true
  pub supports : supported_in k.flags.module words ≡ true
  pub no_of : word_at (codes "of") (after (after c)) ≡ false
  pub reads_name : Reads n (pattern_goal binding k name (after (after c)) d)
  pub is_name : is_binding_name name ≡ true
  pub is : y ≡ tree.declarator (spanned (after (after c)) d) name tree.absent

pub await_using_narrows : (n : ℕ) (k : Code) (y : Tree) (c d : Place) → kind_at c ≡ kind.Await → may_await k ≡ true → Reads n (using_goal k y (after c) d) → UsingNarrowed n k y c d
unfolding awaits_using
await_using_narrows zero k y c d e m r = absurd r
await_using_narrows (suc zero) k y c d e m r = absurd r.reads_name
await_using_narrows (suc (suc n)) k y c d e m r =
    let i = bound_stands (suc n) k r.name (after (after c)) d r.is_name r.reads_name in
    let (s, g) = using_word (without_in k) (after c) r.begins in record {
      words = tree.await (spanned c (after (after c))) (tree.ident s (codes "using"));
      name = r.name;
      reads_words = await_expression n k s c e m g r.begins i;
      are_words = refl;
      word = r.begins;
      supports = refl;
      no_of = r.no_of;
      reads_name = name_level (suc n) (suc n) k r.name (after (after c)) d r.is_name r.reads_name;
      is_name = r.is_name;
      is = r.is;
    }

pub awaited_may : (k : Code) → may_await (without_in k) ≡ true → may_await k ≡ true
unfolding may_await
awaited_may k h = h

-- ---- where a name behind the two words is declared

no_not : (b : Bool) → not b ≡ true → b ≡ false
no_not true h = cc
no_not false h = refl

-- what stands there
pub record DeclaresBehind (k : Code) (c : Place) : Type 0 where
  pub is_set : k.setting.explicit_resource_management ≡ true
  pub named : identifier_at k.flags c ≡ true
  pub no_of : word_at (codes "of") c ≡ false
  pub headed : stands_in_head (after c) ≡ true

pub behind_declares : (k : Code) (c : Place) → declares_behind k c ≡ true → DeclaresBehind k c
unfolding declares_behind
behind_declares k c h =
    let a = and_yes k.setting.explicit_resource_management _ h in
    let b = and_yes (identifier_at k.flags c) _ a.1 in
    let e = and_yes (not (word_at (codes "of") c)) _ b.1 in
    record { is_set = a.0; named = b.0; no_of = no_not (word_at (codes "of") c) e.0; headed = e.1 }

pub declares_so : (k : Code) (c : Place) → k.setting.explicit_resource_management ≡ true → identifier_at k.flags c ≡ true → word_at (codes "of") c ≡ false → stands_in_head (after c) ≡ true
    → declares_behind k c ≡ true
unfolding declares_behind
declares_so k c e f g h = rw (e, f, g, h) refl

pub undeclared_unnamed : (k : Code) (c : Place) → identifier_at k.flags c ≡ false → declares_behind k c ≡ false
unfolding declares_behind
undeclared_unnamed k c h = rw h (and_no k.setting.explicit_resource_management _ refl)

pub undeclared_of : (k : Code) (c : Place) → word_at (codes "of") c ≡ true → declares_behind k c ≡ false
unfolding declares_behind
undeclared_of k c h = rw h (and_no k.setting.explicit_resource_management _ (and_no (identifier_at k.flags c) _ refl))
