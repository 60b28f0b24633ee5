-- Behind `await using` a name on its line goes on with no expression, so where that declares no expression statement begins.
use Rattle.std.proofs.Common.{◌≡◌, ℕ, zero, suc, Bool, true, false, List, refl, sym, ◌∙◌, ap, codes, true≢false}
use Rattle.std.specs.Prelude.{not, ◌||◌}
use Rattle.swc_ecma_parser_token.specs.declared.kind.TokenKind.TheVariants as kind
use Rattle.swc_ecma_parser_input.specs.Place.{Place, after}
use Rattle.swc_ecma_parser_model.specs.Tree.{Tree}
use Rattle.swc_ecma_parser_grammar.specs.declared.position.Position.{Position}
use Rattle.swc_ecma_parser_grammar.specs.Looks.{kind_at, breaks_at, sees, same_kind}
use Rattle.swc_ecma_parser_grammar.specs.Names.{Code}
use Rattle.swc_ecma_parser_grammar.specs.Ends.{Ends, by_semicolon, by_insertion, can_end}
use Rattle.swc_ecma_parser_grammar.specs.Follows.{word_at}
use Rattle.swc_ecma_parser_grammar.specs.scaffold.Using.{is_await_using_declaration}
use Rattle.swc_ecma_parser_grammar.specs.language.LeftSides.{OperandRule}
use Rattle.swc_ecma_parser_grammar.specs.language.Declarations.{is_using_declaration}
use Rattle.swc_ecma_parser_grammar.specs.language.Goals.{Goal, expr_goal, expression}
use Rattle.swc_ecma_parser_grammar.specs.language.Operators.{unary_operator, update_operator}
use Rattle.swc_ecma_parser_grammar.specs.language.Begins.{awaits, begins_unary}
use Rattle.swc_ecma_parser_grammar.specs.language.Expressions.{UnaryRule, operand_rule, unary_rule, prefix_rule, postfix_rule, await_rule, BinaryRule, AssignmentRule, assignment_rule, sequence_rule}
use Rattle.swc_ecma_parser_grammar.specs.language.Reads.{Reads}
use Rattle.swc_ecma_parser_grammar.proofs.ExpressionBegins.{kind_seen}
use Rattle.swc_ecma_parser_grammar.proofs.StatementBegins.{word_place}
use Rattle.swc_ecma_parser_grammar.proofs.Tests.{and_yes}
use Rattle.swc_ecma_parser_grammar.proofs.Inversions.{moved_kind, is_paren, is_bracket, IsPlain, plain_unassigned, by_operators, binary_unary, lone_unary}
use Rattle.swc_ecma_parser_grammar.proofs.Using.{IsNoOther, no_other, using_identifier, using_lone, declares, kind_differs}

no_word : (text : List ℕ) (c : Place) → kind_at c ≡ kind.Await → word_at text c ≡ false
no_word text c a = by_test (word_at text c) refl
  where
    by_test : (b : Bool) → word_at text c ≡ b → word_at text c ≡ false
    by_test true e = absurd (let i : kind.Ident ≡ kind.Await = sym (word_place text c e) ∙ a in cc)
    by_test false e = e

module _ (k : Code) (c : Place) (a : kind_at c ≡ kind.Await) (h : is_using_declaration k (after c) ≡ true) where
  word : word_at (codes "using") (after c) ≡ true
  word = (declares k (after c) h).0

  behind : IsNoOther (after (after c))
  behind = no_other k.flags (after (after c)) (declares k (after c) h).1

  is_operator_here : (j : Code) → awaits j.flags c ≡ true
  unfolding awaits begins_unary same_kind
  is_operator_here j = rw (a, word_place (codes "using") (after c) word, using_identifier j.flags (after c) word) refl

  no_operand : (In : Goal → Type 0) (j : Code) (y : Tree) (m : Place) → OperandRule In j y c m → ⊥
  no_operand In j y m r = true≢false (sym (is_operator_here j) ∙ r.1)

  await_unary : (n : ℕ) (j : Code) (y : Tree) (m : Place) → UnaryRule (Reads n) j y c m → m ≡ after (after c)
  await_unary n j y m (operand_rule r) = absurd (no_operand (Reads n) j y m r)
  await_unary n j y m (unary_rule op e f r g) = absurd (let i = ap unary_operator a in cc)
  await_unary n j y m (prefix_rule op e f r g i) = absurd (let l = ap update_operator a in cc)
  await_unary n j y m (postfix_rule op e i r s b f g l) = absurd (no_operand (Reads n) j e i r)
  await_unary zero j y m (await_rule e f g r i) = absurd r
  await_unary (suc n) j y m (await_rule e f g r i) = lone_unary (after c) (using_lone k (after c) word (declares k (after c) h).1 j) e m r.0

  await_plain : IsPlain c
  unfolding same_kind
  await_plain = record {
    no_async = no_word (codes "async") c a;
    no_yield = rw a refl;
    no_paren = ap is_paren a;
    no_bracket = ap is_bracket a;
    no_arrow = rw (word_place (codes "using") (after c) word) refl;
  }

  await_binary : (n : ℕ) (j : Code) (y : Tree) (m : Place) → BinaryRule (Reads n) j 1 y c m → m ≡ after (after c)
  await_binary n j y m r = await_unary n j y m (binary_unary c (after (after c)) (λ h. let i : kind.Await ≡ kind.HashIn = sym a ∙ h in cc) behind.no_binary (await_unary n j) 1 y m r)

  await_assignment : (n : ℕ) (j : Code) (y : Tree) (m : Place) → AssignmentRule (Reads n) j y c m → m ≡ after (after c)
  unfolding same_kind
  await_assignment n j y m r = await_binary n j y m (by_operators c
      (plain_unassigned n j c await_plain (λ x i r s. absurd (no_operand (Reads n) j x i r)))
      (λ x i r e. kind_differs kind.QuestionMark (after (after c)) behind.no_question (moved_kind i (after (after c)) (await_binary n j x i r) e) refl) y m r).0

  await_alone : (j : Code) (n : ℕ) (y : Tree) (m : Place) → Reads n (expr_goal expression j y c m) → m ≡ after (after c)
  unfolding same_kind
  await_alone j zero y m r = absurd r
  await_alone j (suc n) y m (assignment_rule r e) = await_assignment n j y m r
  await_alone j (suc n) y m (sequence_rule e f es (i, r, g, rs) u) =
      absurd (kind_differs kind.Comma (after (after c)) behind.no_comma (moved_kind i (after (after c)) (await_assignment n j e i r) g) refl)

  -- no statement is an expression that begins so
  pub no_await_statement : (j : Code) (n : ℕ) (y : Tree) (m d : Place) → Reads n (expr_goal expression j y c m) → Ends m d → ⊥
  unfolding same_kind can_end
  no_await_statement j n y m d r (by_semicolon e g) = kind_differs kind.Semi (after (after c)) behind.no_semi (moved_kind m (after (after c)) (await_alone j n y m r) e) refl
  no_await_statement j n y m d r (by_insertion e f g) =
      let i : can_end (after (after c)) ≡ true = rw (await_alone j n y m r) at f in
      let l : can_end (after (after c)) ≡ false = rw (behind.no_end, behind.no_brace, (declares k (after c) h).2) refl in
      cc

  -- nor is it a label
  pub no_await_label : sees kind.Colon (after c) ≡ false
  unfolding same_kind
  no_await_label = rw (word_place (codes "using") (after c) word) refl

-- what it says that `await using` declares here
pub declares_behind_await : (at : Position) (k : Code) (c : Place) → is_await_using_declaration at k c ≡ true
    → (at.include_decl || at.top_level ≡ true) × (kind_at c ≡ kind.Await) × (is_using_declaration k (after c) ≡ true) × (breaks_at (after c) ≡ false)
unfolding is_await_using_declaration
declares_behind_await at k c h =
    let g = and_yes (sees kind.Await c) _ h in
    let i = and_yes (at.include_decl || at.top_level) _ g.1 in
    let j = and_yes (not (breaks_at (after c))) _ i.1 in
    (i.0, kind_seen kind.Await c g.0, j.1, unbroken (breaks_at (after c)) j.0)
  where
    unbroken : (b : Bool) → not b ≡ true → b ≡ false
    unbroken true e = cc
    unbroken false e = refl

pub behind_await_declares : (at : Position) (k : Code) (c : Place) → at.include_decl || at.top_level ≡ true → kind_at c ≡ kind.Await → breaks_at (after c) ≡ false → is_using_declaration k (after c) ≡ true
    → is_await_using_declaration at k c ≡ true
unfolding is_await_using_declaration same_kind
behind_await_declares at k c h e b i = rw (e, h, b, i) refl
