-- Lists that no statement spells, within any levels.
use Rattle.std.proofs.Common.{◌≡◌, ℕ, zero, suc, Bool, true, false, List, [], ◌∷◌, refl, ap, sym, ◌∙◌}
use Rattle.std.specs.Prelude.{codes, None}
use denote.Enum.Bare.{same_false}
use Rattle.swc_ecma_parser_token.specs.declared.kind.TokenKind.{TokenKind}
use Rattle.swc_ecma_parser_token.specs.declared.kind.TokenKind.TheVariants as kind
use Rattle.swc_ecma_parser_token.specs.contracts.kind.TokenKind.{the_type}
use Rattle.swc_ecma_parser_token.specs.declared.keyword.Keyword.TheVariants as keyword
use Rattle.swc_ecma_parser_token.specs.declared.token.Token.TheVariants as token
use Rattle.swc_ecma_parser_input.specs.Place.{Place, after}
use Rattle.swc_ecma_parser_model.specs.declared.leaves.VarDeclKind.{VarDeclKind}
use Rattle.swc_ecma_parser_model.specs.declared.leaves.VarDeclKind.TheVariants as decl
use Rattle.swc_ecma_parser_model.specs.Tree.{Tree}
use Rattle.swc_ecma_parser_grammar.specs.declared.position.Position.{Position}
use Rattle.swc_ecma_parser_grammar.specs.Names.{Code}
use Rattle.swc_ecma_parser_grammar.specs.Looks.{kind_at, sees, same_kind}
use Rattle.swc_ecma_parser_grammar.specs.Ends.{Ends, by_semicolon, by_insertion}
use Rattle.swc_ecma_parser_grammar.specs.Follows.{AwaitWord, no_await, await_word, AsyncWord, not_async, async_word}
use Rattle.swc_ecma_parser_grammar.specs.language.Goals.{expr_goal, expression, stmt_goal, pattern_goal, binding}
use Rattle.swc_ecma_parser_grammar.specs.language.Operators.{binary_operator, assign_operator}
use Rattle.swc_ecma_parser_grammar.specs.language.Contexts.{in_breakable, with_in, head_code}
use Rattle.swc_ecma_parser_grammar.specs.language.Lists.{ReadsEach}
use Rattle.swc_ecma_parser_grammar.specs.language.Items.{nested_item, sub_statement, ItemsRule, BlockRule}
use Rattle.swc_ecma_parser_grammar.specs.language.Classes.{decorator_rule, no_decorators, some_decorators}
use Rattle.swc_ecma_parser_grammar.specs.language.Patterns.{binding_name_rule, target_name_rule, target_rule, array_rule, object_rule}
use Rattle.swc_ecma_parser_grammar.specs.language.Expressions.{AssignmentRule, assignment_rule, sequence_rule}
use Rattle.swc_ecma_parser_grammar.specs.language.Declarations.{DeclaratorRule, plain_rule, initialized_rule, VariablesRule, is_using_declaration}
use Rattle.swc_ecma_parser_grammar.specs.language.ForHeads.{no_init_rule, init_variables_rule, init_expression_rule, LeftRule, declared_rule, target_rule, of_left_rule, of_using_rule}
use Rattle.swc_ecma_parser_grammar.specs.language.Statements.{HeadRule, IfRule, if_rule, ElseRule, no_else_rule, else_rule, else_if_rule, CaseRule, case_clause_rule, default_clause_rule, is_default, at_most_one_default, FormRule, class_rule, function_rule, variables_rule, using_rule, block_rule, empty_rule, debugger_rule, with_rule, return_rule, labeled_rule, break_rule, continue_rule, if_statement_rule, switch_rule, throw_rule, try_rule, while_rule, do_while_rule, for_rule, for_in_rule, for_of_rule, expr_rule, import_expr_rule}
use Rattle.swc_ecma_parser_grammar.specs.language.Reads.{Reads}
use Rattle.swc_ecma_parser_grammar.proofs.Inversions.{IsLone, IsPlain, lone_assignment}
use Rattle.swc_ecma_parser_grammar.proofs.Spelling.{t, below, named, keyword, start, behind, plain}
use Rattle.swc_ecma_parser_grammar.proofs.SpellingItems.{sights}
use Rattle.swc_ecma_parser_grammar.proofs.ExpressionBegins.{kind_seen}
use Rattle.swc_ecma_parser_grammar.proofs.StatementBegins.{ForHead, Cases, three_parts, before_in, before_of, let_stands, import_stands, statement_begun}

-- `throw` and on the next line `a`
abbrev throw_below : Place
throw_below = start (t (keyword keyword.Throw) 0 5 ∷ below (named (codes "a")) 6 7 ∷ [])

nothing_is_thrown_below : (n : ℕ) (k : Code) (at : Position) (x : Tree) (d : Place) → Reads n (stmt_goal k at x throw_below d) → ⊥
unfolding sights
nothing_is_thrown_below zero k at x d r = r
nothing_is_thrown_below (suc n) k at x d r = let b = statement_begun n k at x throw_below d r in cc

-- `catch (e) {} a`: nothing begins so
abbrev stray_catch : Place
stray_catch =
    start (t (keyword keyword.Catch) 0 5 ∷ t token.LParen 6 7 ∷ t (named (codes "e")) 7 8 ∷ t token.RParen 8 9 ∷ t token.LBrace 10 11 ∷ t token.RBrace 11 12 ∷ t (named (codes "a")) 13 14 ∷ [])

no_statement_begins_with_catch : (n : ℕ) (k : Code) (at : Position) (x : Tree) (d : Place) → Reads n (stmt_goal k at x stray_catch d) → ⊥
unfolding sights
no_statement_begins_with_catch zero k at x d r = r
no_statement_begins_with_catch (suc n) k at x d r = statement_begun n k at x stray_catch d r

-- `for (let of x) ;`: `let of` begins a declaration
abbrev for_let : Place
for_let =
    start (t (keyword keyword.For) 0 3 ∷ t token.LParen 4 5 ∷ t (keyword keyword.Let) 5 8 ∷ t (named (codes "of")) 9 11 ∷ t (named (codes "x")) 12 13 ∷ t token.RParen 13 14 ∷ t token.Semi 15 16 ∷ [])

-- the name that is bound is `of`, and behind it stands `x`
binds_of : (n : ℕ) (k : Code) (x : Tree) (d : Place) → Reads n (pattern_goal binding k x (behind 3 for_let) d) → d ≡ behind 4 for_let
unfolding sights
binds_of zero k x d r = absurd r
binds_of (suc n) k x d (binding_name_rule text s h r e) = r.reads_word.next
binds_of (suc n) k x d (target_name_rule text s h g r e) = cc
binds_of (suc n) k x d (target_rule y h r g i e) = cc
binds_of (suc n) k x d (array_rule es m h r g i e) = cc
binds_of (suc n) k x d (object_rule ps m h r g i e) = cc

-- where `x` stands, no other token does
elsewhere : {X : Type 0} {t : TokenKind} {m : Place} → m ≡ behind 4 for_let → kind_at m ≡ t → same_kind kind.Ident t ≡ false → X
unfolding sights
elsewhere {t = t} g e h = let i : kind.Ident ≡ t = sym (ap kind_at g) ∙ e in let j : same_kind kind.Ident kind.Ident ≡ false = rw (← i) at h in cc

declares_of : (n : ℕ) (k : Code) (word : VarDeclKind) (x : Tree) (d : Place) → DeclaratorRule (Reads n) k true word x (behind 3 for_let) d → d ≡ behind 4 for_let
unfolding sights
declares_of n k word x d (plain_rule name r h g e) = binds_of n (with_in k) name d r
declares_of n k word x d (initialized_rule name init m r h i e) = elsewhere (binds_of n (with_in k) name m r) h refl

variables_of : (n : ℕ) (k : Code) (xs : List Tree) (word : VarDeclKind) (d : Place) → VariablesRule (Reads n) k true word xs (behind 2 for_let) d → d ≡ behind 4 for_let
unfolding sights
variables_of n k xs decl.Var d (h, r) = cc
variables_of n k xs decl.Const d (h, r) = cc
variables_of n k [] decl.Let d (h, r) = absurd r
variables_of n k (x ∷ []) decl.Let d (h, (r, e)) = declares_of n k decl.Let x d r
variables_of n k (x ∷ y ∷ ys) decl.Let d (h, (m, r, e, rs)) = elsewhere (declares_of n k decl.Let x m r) e refl

left_of : (n : ℕ) (x : Tree) (d : Place) → LeftRule (Reads n) plain x (behind 2 for_let) d → d ≡ behind 4 for_let
unfolding sights
left_of n x d (declared_rule r) = variables_of n (head_code r.word plain) r.declarators r.word d r.reads
left_of n x d (target_rule h r) = cc

no_head : (n : ℕ) → ForHead (Reads n) plain for_let → ⊥
unfolding sights
no_head n (three_parts x l h (no_init_rule g i e) j) = cc
no_head n (three_parts x l h (init_variables_rule r) j) = elsewhere (variables_of n (head_code r.word plain) r.declarators r.word l r.reads) j refl
no_head n (three_parts x l h (init_expression_rule g r) j) = cc
no_head n (before_in x l h r j) = elsewhere (left_of n x l r) j refl
no_head n (before_of is_await x l m (await_word e h i) g r j) = cc
no_head n (before_of is_await x l m (no_await e h) g (of_using_rule s r) j) = cc
no_head n (before_of is_await x l m (no_await e h) g (of_left_rule r s) j) = let i = rw (left_of n x m (rw h at r)) at j in cc

nothing_begins_with_for_let_of : (n : ℕ) (at : Position) (x : Tree) (d : Place) → Reads n (stmt_goal plain at x for_let d) → ⊥
unfolding sights
nothing_begins_with_for_let_of zero at x d r = r
nothing_begins_with_for_let_of (suc n) at x d r = no_head n (statement_begun n plain at x for_let d r)

-- `{{}}` within one level
abbrev two_blocks : Place
two_blocks = start (t token.LBrace 0 1 ∷ t token.LBrace 1 2 ∷ t token.RBrace 2 3 ∷ t token.RBrace 3 4 ∷ [])

nothing_inside : (k : Code) (xs : List Tree) (d : Place) → ItemsRule (Reads 0) k false nested_item xs (behind 1 two_blocks) d → kind_at d ≡ kind.RBrace → ⊥
unfolding sights
nothing_inside k [] d h e = let i = rw h at e in cc
nothing_inside k (x ∷ xs) d (m, r, rs) e = r

no_room_for_a_block : (k : Code) (at : Position) (x : Tree) (d : Place) → Reads 1 (stmt_goal k at x two_blocks d) → ⊥
unfolding sights
no_room_for_a_block k at x d r = go (statement_begun 0 k at x two_blocks d r)
  where
    go : BlockRule (Reads 0) k false x two_blocks d → ⊥
    go b = nothing_inside k b.items b.close b.reads_items b.closes

-- ---- a name before a token that goes on with nothing

record IsAlone (k : Code) (c : Place) : Type 0 where
  lone : IsLone k c
  plain : IsPlain c
  no_binary : binary_operator (kind_at (after c)) ≡ None
  no_assignment : assign_operator (kind_at (after c)) ≡ None
  no_conditional : same_kind (kind_at (after c)) kind.QuestionMark ≡ false
  no_comma : same_kind (kind_at (after c)) kind.Comma ≡ false

-- a place that turned out to be another, where another token stands
differs : {t : TokenKind} (c d : Place) → d ≡ c → kind_at d ≡ t → same_kind (kind_at c) t ≡ false → ⊥
unfolding same_kind
differs {t = t} c d e f h = same_false the_type (kind_at c) t h (sym (ap kind_at e) ∙ f)

module _ (k : Code) (c : Place) (h : IsAlone k c) where
  -- nothing that it is a part of
  alone_assignment : (n : ℕ) (y : Tree) (m : Place) → AssignmentRule (Reads n) k y c m → m ≡ after c
  alone_assignment n y m r = lone_assignment n c h.lone h.plain h.no_binary h.no_assignment (λ e. differs (after c) (after c) refl e h.no_conditional) y m r

  alone : (n : ℕ) (y : Tree) (m : Place) → Reads n (expr_goal expression k y c m) → m ≡ after c
  alone zero y m r = absurd r
  alone (suc n) y m (assignment_rule r e) = alone_assignment n y m r
  alone (suc n) y m (sequence_rule e f es (i, r, g, rs) u) = absurd (differs (after c) i (alone_assignment n e i r) g h.no_comma)

-- a statement that is a name and its end
module _ (k : Code) (c : Place) (h : IsAlone (with_in k) c) (i : kind_at c ≡ kind.Ident) (u : is_using_declaration k c ≡ false) (l : sees kind.Colon (after c) ≡ false) where
  name_statement : (n : ℕ) (at : Position) (x : Tree) (d : Place) → FormRule (Reads n) k at x c d → Ends (after c) d
  name_statement n at x d (class_rule ds name y m g (no_decorators e f) s j o) = let q : kind_at c ≡ kind.Class = rw e at s.is_class in cc
  name_statement n at x d (class_rule ds name y m g (some_decorators z zs v (q, decorator_rule e w r f, rs) o) s j b) = cc
  name_statement n at x d (function_rule ds name y m (no_decorators e f) g s j o) = absurd (no_function s.is_async s.word (rw e at s.reads_async) s.is_function)
    where
      no_function : (is_async : Bool) (word : Place) → AsyncWord is_async c word → kind_at word ≡ kind.Function → ⊥
      no_function is_async word (not_async e f) g = let q : kind_at c ≡ kind.Function = rw f at g in cc
      no_function is_async word (async_word e f g b) j = let q = h.plain.no_async in cc
  name_statement n at x d (function_rule ds name y m (some_decorators z zs v (q, decorator_rule e w r f, rs) o) g s j b) = cc
  name_statement n at x d (variables_rule decl.Var xs m g r e f) = let q = kind_seen kind.Var c r.0 in cc
  name_statement n at x d (variables_rule decl.Const xs m g r e f) = let q = kind_seen kind.Const c r.0 in cc
  name_statement n at x d (variables_rule decl.Let xs m g r e f) = let q = let_stands c r.0 in cc
  name_statement n at x d (using_rule r) = no_using r.is_await r.word r.reads_await r.begins
    where
      no_using : (is_await : Bool) (word : Place) → AwaitWord is_await c word → is_using_declaration k word ≡ true → Ends (after c) d
      no_using is_await word (no_await e f) g = let q : is_using_declaration k c ≡ true = rw f at g in cc
      no_using is_await word (await_word e f g) j = cc
  name_statement n at x d (block_rule r) = let q = r.opens in cc
  name_statement n at x d (empty_rule g e f) = cc
  name_statement n at x d (debugger_rule g e f) = cc
  name_statement n at x d (with_rule e y m g r s f) = cc
  name_statement n at x d (return_rule e m g r f j) = cc
  name_statement n at x d (labeled_rule text s y m r g e f) = absurd (differs (after c) m r.reads_word.next g l)
  name_statement n at x d (break_rule label m g r e f) = cc
  name_statement n at x d (continue_rule label m g r e f) = cc
  name_statement n at x d (if_statement_rule (if_rule test cons alt m j g r s e f)) = cc
  name_statement n at x d (switch_rule y xs m j g r e s f v w o) = cc
  name_statement n at x d (throw_rule y m g b r e f) = cc
  name_statement n at x d (try_rule body handler finalizer m j g r s e f v) = cc
  name_statement n at x d (while_rule y z m g r s e) = cc
  name_statement n at x d (do_while_rule y z m j g r e s f v) = cc
  name_statement n at x d (for_rule init test next y o m j g e r f s v w q b a) = cc
  name_statement n at x d (for_in_rule left right y m j g e r f s v w b) = cc
  name_statement n at x d (for_of_rule is_await left right y o m j g e f r v s w q b) = cc
  name_statement n at x d (expr_rule y m g r e f j) = rw (alone (with_in k) c h n y m r) at f
  name_statement n at x d (import_expr_rule y m g r e f) = let q = kind_seen kind.Import c (import_stands c g) in cc

-- ---- `if (a) b; else c`: the `if` does not end before `else`

abbrev if_else : Place
if_else =
    start (t (keyword keyword.If) 0 2 ∷ t token.LParen 3 4 ∷ t (named (codes "a")) 4 5 ∷ t token.RParen 5 6 ∷ t (named (codes "b")) 7 8 ∷ t token.Semi 8 9
    ∷ t (keyword keyword.Else) 10 14 ∷ t (named (codes "c")) 15 16 ∷ [])

alone_a : IsAlone (with_in plain) (behind 2 if_else)
unfolding sights
alone_a =
    record {
      lone = record { no_opening = refl; no_function = refl; no_form = refl; unprefixed = record { no_unary = refl; no_update = refl; no_await = refl }; no_access = refl; no_postfix = refl };
      plain = record { no_async = refl; no_yield = refl; no_paren = refl; no_bracket = refl; no_arrow = refl };
      no_binary = refl;
      no_assignment = refl;
      no_conditional = refl;
      no_comma = refl;
    }

alone_b : IsAlone (with_in plain) (behind 4 if_else)
unfolding sights
alone_b =
    record {
      lone = record { no_opening = refl; no_function = refl; no_form = refl; unprefixed = record { no_unary = refl; no_update = refl; no_await = refl }; no_access = refl; no_postfix = refl };
      plain = record { no_async = refl; no_yield = refl; no_paren = refl; no_bracket = refl; no_arrow = refl };
      no_binary = refl;
      no_assignment = refl;
      no_conditional = refl;
      no_comma = refl;
    }

-- the head ends before `b`, and what it guards before `else`
head_of_if : (n : ℕ) (y : Tree) (m : Place) → HeadRule (Reads n) plain y (behind 1 if_else) m → m ≡ behind 4 if_else
unfolding sights
head_of_if n y m r = r.next ∙ ap after (alone (with_in plain) (behind 2 if_else) alone_a n y r.close r.reads)

body_of_if : (n : ℕ) (y : Tree) (m : Place) → Reads n (stmt_goal plain sub_statement y (behind 4 if_else) m) → m ≡ behind 6 if_else
unfolding sights
body_of_if zero y m r = absurd r
body_of_if (suc n) y m (h, r) = ends (name_statement plain (behind 4 if_else) alone_b refl refl refl n sub_statement y m r)
  where
    ends : Ends (behind 5 if_else) m → m ≡ behind 6 if_else
    ends (by_semicolon e f) = f
    ends (by_insertion e f g) = cc

alone_c : IsAlone (with_in plain) (behind 7 if_else)
unfolding sights
alone_c =
    record {
      lone = record { no_opening = refl; no_function = refl; no_form = refl; unprefixed = record { no_unary = refl; no_update = refl; no_await = refl }; no_access = refl; no_postfix = refl };
      plain = record { no_async = refl; no_yield = refl; no_paren = refl; no_bracket = refl; no_arrow = refl };
      no_binary = refl;
      no_assignment = refl;
      no_conditional = refl;
      no_comma = refl;
    }

-- what stands behind `else` does not end before it
nothing_back : (n : ℕ) (y : Tree) → Reads n (stmt_goal plain sub_statement y (behind 7 if_else) (behind 6 if_else)) → ⊥
unfolding sights
nothing_back zero y r = r
nothing_back (suc n) y (h, r) = ends (name_statement plain (behind 7 if_else) alone_c refl refl refl n sub_statement y (behind 6 if_else) r)
  where
    ends : Ends (behind 8 if_else) (behind 6 if_else) → ⊥
    ends (by_semicolon e f) = cc
    ends (by_insertion e f g) = let h = ap (λ (c : Place). c.left) g in cc

no_else : (n : ℕ) (y : Tree) (j : Place) → j ≡ behind 6 if_else → ElseRule (Reads n) plain y j (behind 6 if_else) → ⊥
unfolding sights
no_else n y j g (no_else_rule i l o) = let q = rw g at i in cc
no_else n y j g (else_rule i l r) = nothing_back n y (rw g at r)
no_else n y j g (else_if_rule i (if_rule test cons alt m o h r s e f)) = let q = rw g at h in cc

if_ends_with_its_else : (n : ℕ) (x : Tree) → IfRule (Reads n) plain x if_else (behind 6 if_else) → ⊥
unfolding sights
if_ends_with_its_else n x (if_rule test cons alt m j h r s e f) = no_else n alt j (body_of_if n cons j (rw (head_of_if n test m r) at s)) e

no_if_before_else : (n : ℕ) (at : Position) (x : Tree) → Reads n (stmt_goal plain at x if_else (behind 6 if_else)) → ⊥
unfolding sights
no_if_before_else zero at x r = r
no_if_before_else (suc n) at x r = if_ends_with_its_else n x (statement_begun n plain at x if_else (behind 6 if_else) r)

-- ---- `switch (a) { default: default: }`

abbrev defaults : Place
defaults =
    start (t (keyword keyword.Switch) 0 6 ∷ t token.LParen 7 8 ∷ t (named (codes "a")) 8 9 ∷ t token.RParen 9 10 ∷ t token.LBrace 11 12 ∷ t (keyword keyword.Default) 13 20 ∷ t token.Colon 20 21
    ∷ t (keyword keyword.Default) 22 29 ∷ t token.Colon 29 30 ∷ t token.RBrace 31 32 ∷ [])

alone_value : IsAlone (with_in plain) (behind 2 defaults)
unfolding sights
alone_value =
    record {
      lone = record { no_opening = refl; no_function = refl; no_form = refl; unprefixed = record { no_unary = refl; no_update = refl; no_await = refl }; no_access = refl; no_postfix = refl };
      plain = record { no_async = refl; no_yield = refl; no_paren = refl; no_bracket = refl; no_arrow = refl };
      no_binary = refl;
      no_assignment = refl;
      no_conditional = refl;
      no_comma = refl;
    }

head_of_switch : (n : ℕ) (y : Tree) (m : Place) → HeadRule (Reads n) plain y (behind 1 defaults) m → m ≡ behind 4 defaults
unfolding sights
head_of_switch n y m r = r.next ∙ ap after (alone (with_in plain) (behind 2 defaults) alone_value n y r.close r.reads)

-- no statement begins with `default`
no_statements : (n : ℕ) (k : Code) (xs : List Tree) (d : Place) → ItemsRule (Reads n) k false nested_item xs (behind 7 defaults) d → d ≡ behind 7 defaults
unfolding sights
no_statements n k [] d h = h
no_statements zero k (x ∷ xs) d (m, r, rs) = absurd r
no_statements (suc n) k (x ∷ xs) d (m, r, rs) = absurd (statement_begun n k nested_item x (behind 7 defaults) m r)

first_clause : (n : ℕ) (k : Code) (x : Tree) (d : Place) → CaseRule (Reads n) k x (behind 5 defaults) d → (is_default x ≡ true) × (d ≡ behind 7 defaults)
unfolding sights
first_clause n k x d (case_clause_rule test xs m h r g s e) = cc
first_clause n k x d (default_clause_rule xs h g r e) = (rw e refl, no_statements n k xs d r)

second_clause : (n : ℕ) (k : Code) (x : Tree) (d : Place) → CaseRule (Reads n) k x (behind 7 defaults) d → is_default x ≡ true
unfolding sights
second_clause n k x d (case_clause_rule test xs m h r g s e) = cc
second_clause n k x d (default_clause_rule xs h g r e) = rw e refl

one_too_many : (x y : Tree) (ys : List Tree) → is_default x ≡ true → is_default y ≡ true → at_most_one_default (x ∷ y ∷ ys) ≡ false
one_too_many x y ys h g = rw (h, g) refl

no_clauses : (n : ℕ) (k : Code) (xs : List Tree) (d : Place) → ReadsEach (CaseRule (Reads n) k) xs (behind 5 defaults) d → kind_at d ≡ kind.RBrace → at_most_one_default xs ≡ true → ⊥
unfolding sights
no_clauses n k [] d h e o = let i = rw h at e in cc
no_clauses n k (x ∷ []) d (m, r, h) e o = let i = rw (h, (first_clause n k x m r).1) at e in cc
no_clauses n k (x ∷ y ∷ ys) d (m, r, (j, s, rs)) e o =
    let (f, g) = first_clause n k x m r in
    let i = one_too_many x y ys f (second_clause n k y j (rw g at s)) in
    cc

two_defaults : (n : ℕ) (at : Position) (x : Tree) (d : Place) → Reads n (stmt_goal plain at x defaults d) → ⊥
unfolding sights
two_defaults zero at x d r = r
two_defaults (suc n) at x d r =
    let s : Cases (Reads n) plain defaults d = statement_begun n plain at x defaults d r in
    no_clauses n (in_breakable plain) s.cases s.close_brace (rw (head_of_switch n s.value s.open_brace s.head) at s.reads) s.closes s.one_default
