-- A statement that begins with a word of its own is of that form.
use Rattle.std.proofs.Common.{◌≡◌, ℕ, suc, Bool, true, false, not, ◌&&◌, ◌||◌, List, [], ◌∷◌, codes, refl, ap}
use Rattle.swc_ecma_parser_common.specs.declared.span.Span.{Span}
use Rattle.swc_ecma_parser_token.specs.declared.kind.TokenKind.{TokenKind}
use Rattle.swc_ecma_parser_token.specs.declared.kind.TokenKind.TheVariants as kind
use Rattle.swc_ecma_parser_token.specs.declared.keyword.Keyword.TheVariants as keyword
use Rattle.swc_ecma_parser_token.specs.declared.token.Token.{Token}
use Rattle.swc_ecma_parser_token.specs.declared.token.Token.TheVariants as token
use Rattle.swc_ecma_parser_token.specs.declared.token.Word.TheVariants as word
use Rattle.swc_ecma_parser_token.specs.declared.token.TokenAndSpan.{TokenAndSpan}
use Rattle.swc_ecma_parser_token.specs.Kind.{token_kind}
use Rattle.swc_ecma_parser_input.specs.declared.context.Context.{Context}
use Rattle.swc_ecma_parser_input.specs.Place.{Place, after}
use Rattle.swc_ecma_parser_model.specs.declared.leaves.VarDeclKind.{VarDeclKind}
use Rattle.swc_ecma_parser_model.specs.declared.leaves.VarDeclKind.TheVariants as decl
use Rattle.swc_ecma_parser_model.specs.Tree.{Tree, Text}
use Rattle.swc_ecma_parser_grammar.specs.declared.position.Position.{Position}
use Rattle.swc_ecma_parser_grammar.specs.Looks.{first_kind, kind_at, breaks_at, sees, same_kind}
use Rattle.swc_ecma_parser_grammar.specs.Names.{Code, is_reserved, is_identifier, token_is_identifier, first_is_identifier, identifier_at}
use Rattle.swc_ecma_parser_grammar.specs.Follows.{token_is, first_is, word_at, is_async_function, is_let_declaration, may_begin_expression_statement, begins_import_expression, AwaitWord, no_await, await_word, AsyncWord, not_async, async_word}
use Rattle.swc_ecma_parser_grammar.specs.language.Goals.{Goal, Class, expression, expr_goal, stmt_goal}
use Rattle.swc_ecma_parser_grammar.specs.language.Begins.{begins_operand, begins_unary, begins_expression}
use Rattle.swc_ecma_parser_grammar.specs.language.Parts.{ReadsName}
use Rattle.swc_ecma_parser_grammar.specs.language.Lists.{ReadsEach}
use Rattle.swc_ecma_parser_grammar.specs.language.Items.{BlockRule}
use Rattle.swc_ecma_parser_grammar.specs.language.Classes.{decorator_rule, DecoratorsRule, no_decorators, some_decorators}
use Rattle.swc_ecma_parser_grammar.specs.Variables.{begins_variables}
use Rattle.swc_ecma_parser_grammar.specs.language.Declarations.{is_using_declaration}
use Rattle.swc_ecma_parser_grammar.specs.language.ForHeads.{InitRule, LeftRule, OfLeftRule}
use Rattle.swc_ecma_parser_grammar.specs.language.Statements.{HeadRule, IfRule, if_rule, CaseRule, at_most_one_default, FormRule, class_rule, function_rule, variables_rule, using_rule, block_rule, empty_rule, debugger_rule, with_rule, return_rule, labeled_rule, break_rule, continue_rule, if_statement_rule, switch_rule, throw_rule, try_rule, while_rule, do_while_rule, for_rule, for_in_rule, for_of_rule, expr_rule, import_expr_rule}
use Rattle.swc_ecma_parser_grammar.specs.language.Contexts.{in_breakable, with_in}
use Rattle.swc_ecma_parser_grammar.specs.language.Reads.{Reads}
use Rattle.swc_ecma_parser_grammar.proofs.ExpressionBegins.{and_first, kind_seen, name_is_identifier, expressions_begin}

-- No expression statement begins with these, nor does a label.
abbrev pub has_form : TokenKind → Bool
has_form kind.LBrace = true
has_form kind.Import = true
has_form kind.If = true
has_form kind.For = true
has_form kind.Switch = true
has_form kind.Throw = true
has_form kind.Catch = true
has_form kind.Default = true
has_form _ = false

identifier_has_no_form : (f : Context) (t : Token) → token_is_identifier f t ≡ true → has_form (token_kind t) ≡ false
unfolding is_identifier is_reserved
identifier_has_no_form f (token.Word (word.Keyword keyword.Await)) h = cc
identifier_has_no_form f (token.Word (word.Ident u)) h = cc
identifier_has_no_form f _ h = cc

identifier_place : (f : Context) (c : Place) → identifier_at f c ≡ true → has_form (kind_at c) ≡ false
unfolding identifier_at kind_at
identifier_place f c h = go c.left h
  where
    go : (ts : List TokenAndSpan) → first_is_identifier f ts ≡ true → has_form (first_kind ts) ≡ false
    go [] e = cc
    go (t ∷ ts) e = identifier_has_no_form f t.token e

and_second : (a b : Bool) → a && b ≡ true → b ≡ true
and_second true b h = h
and_second false b h = cc

operand_has_no_form : (t : TokenKind) → begins_operand t ≡ true → same_kind t kind.LBrace ≡ false → same_kind t kind.Import ≡ false → has_form t ≡ false
unfolding same_kind
operand_has_no_form kind.Str h g i = cc
operand_has_no_form _ h g i = cc

-- ---- at a place

none_begins : (f : Context) (c : Place) → begins_expression f c ≡ true → same_kind (kind_at c) kind.LBrace ≡ false → same_kind (kind_at c) kind.Import ≡ false → has_form (kind_at c) ≡ false
unfolding begins_expression begins_unary
none_begins f c h g i = go (begins_operand (kind_at c)) (identifier_at f c) (sees kind.HashIn c) (f.in_generator && sees kind.Yield c) refl refl refl refl h
  where
    go : (a b o e : Bool) → begins_operand (kind_at c) ≡ a → identifier_at f c ≡ b → sees kind.HashIn c ≡ o → f.in_generator && sees kind.Yield c ≡ e → (a || b) || (o || e) ≡ true
        → has_form (kind_at c) ≡ false
    go true b o e u v j w l = operand_has_no_form (kind_at c) u g i
    go false true o e u v j w l = identifier_place f c v
    go false false true e u v j w l = ap has_form (kind_seen kind.HashIn c j)
    go false false false true u v j w l = ap has_form (kind_seen kind.Yield c (and_second _ _ w))
    go false false false false u v j w l = cc

-- ---- statements

-- the head of a `for`, behind its word
pub data ForHead (In : Goal → Type 0) (k : Code) (c : Place) : Type 0 where
  three_parts : (x : Tree) (l : Place) → kind_at (after c) ≡ kind.LParen → InitRule In k x (after (after c)) l → kind_at l ≡ kind.Semi → ForHead In k c
  before_in : (x : Tree) (l : Place) → kind_at (after c) ≡ kind.LParen → LeftRule In k x (after (after c)) l → kind_at l ≡ kind.In → ForHead In k c
  before_of : (is_await : Bool) (x : Tree) (l m : Place) → AwaitWord is_await (after c) l → kind_at l ≡ kind.LParen → OfLeftRule In k is_await x (after l) m
      → word_at (codes "of") m ≡ true → ForHead In k c

pub record Cases (In : Goal → Type 0) (k : Code) (c d : Place) : Type 0 where
  pub value : Tree
  pub cases : List Tree
  pub open_brace : Place
  pub close_brace : Place
  pub head : HeadRule In k value (after c) open_brace
  pub opens : kind_at open_brace ≡ kind.LBrace
  pub reads : ReadsEach (CaseRule In (in_breakable k)) cases (after open_brace) close_brace
  pub one_default : at_most_one_default cases ≡ true
  pub closes : kind_at close_brace ≡ kind.RBrace

-- what a statement is that begins with a token of this kind
abbrev pub Begun : (Goal → Type 0) → Code → Tree → (c d : Place) → TokenKind → Type 0
Begun In k x c d kind.LBrace = BlockRule In k false x c d
Begun In k x c d kind.Import = begins_import_expression c ≡ true
Begun In k x c d kind.If = IfRule In k x c d
Begun In k x c d kind.For = ForHead In k c
Begun In k x c d kind.Switch = Cases In k c d
Begun In k x c d kind.Throw = breaks_at (after c) ≡ false
Begun In k x c d kind.Catch = ⊥
Begun In k x c d kind.Default = ⊥
Begun In k x c d _ = Unit {0}

formless : (In : Goal → Type 0) (k : Code) (x : Tree) (c d : Place) (t : TokenKind) → has_form t ≡ false → Begun In k x c d t
formless In k x c d kind.LBrace h = cc
formless In k x c d kind.Import h = cc
formless In k x c d kind.If h = cc
formless In k x c d kind.For h = cc
formless In k x c d kind.Switch h = cc
formless In k x c d kind.Throw h = cc
formless In k x c d kind.Catch h = cc
formless In k x c d kind.Default h = cc
formless In k x c d _ h = tt

pub word_place : (text : Text) (c : Place) → word_at text c ≡ true → kind_at c ≡ kind.Ident
unfolding word_at kind_at
word_place text c h = go c.left h
  where
    of_token : (t : Token) → token_is text t ≡ true → token_kind t ≡ kind.Ident
    of_token (token.Word (word.Ident u)) e = refl
    of_token _ e = cc

    go : (ts : List TokenAndSpan) → first_is text ts ≡ true → first_kind ts ≡ kind.Ident
    go [] e = cc
    go (t ∷ ts) e = of_token t.token e

first_and_fourth : (a b e f g : Bool) → not (a || (b || (e || (f || g)))) ≡ true → (a ≡ false) × (f ≡ false)
first_and_fourth true b e f g h = cc
first_and_fourth false true e f g h = cc
first_and_fourth false false true f g h = cc
first_and_fourth false false false true g h = cc
first_and_fourth false false false false g h = (refl, refl)

-- what no expression statement begins with, though an expression may
no_brace_no_import : (at : Position) (c : Place) → may_begin_expression_statement at c ≡ true → (sees kind.LBrace c ≡ false) × (sees kind.Import c ≡ false)
unfolding may_begin_expression_statement
no_brace_no_import at c h = first_and_fourth (sees kind.LBrace c) (sees kind.Function c) (sees kind.Class c) (sees kind.Import c) (is_async_function c || (at.include_decl && is_let_declaration c)) h

pub import_stands : (c : Place) → begins_import_expression c ≡ true → sees kind.Import c ≡ true
unfolding begins_import_expression
import_stands c h = and_first _ _ h

pub let_stands : (c : Place) → is_let_declaration c ≡ true → kind_at c ≡ kind.Let
unfolding is_let_declaration
let_stands c h = kind_seen kind.Let c (and_first _ _ h)

module _ (In : Goal → Type 0) (begins : (class : Class) (k : Code) (x : Tree) (c d : Place) → In (expr_goal class k x c d) → begins_expression k.flags c ≡ true) (k : Code) where
  decorators_have_no_form : (ds : Tree) (c m : Place) → DecoratorsRule In k ds c m → has_form (kind_at m) ≡ false → has_form (kind_at c) ≡ false
  decorators_have_no_form ds c m (no_decorators h e) g = rw h at g
  decorators_have_no_form ds c m (some_decorators y ys s (i, decorator_rule e h r f, rs) u) g = ap has_form h

  async_has_no_form : (is_async : Bool) (c m : Place) → AsyncWord is_async c m → kind_at m ≡ kind.Function → has_form (kind_at c) ≡ false
  async_has_no_form is_async c m (not_async e h) g = ap has_form (rw h at g)
  async_has_no_form is_async c m (async_word e h n b) g = ap has_form (word_place (codes "async") c h)

  variables_have_no_form : (word : VarDeclKind) (c : Place) → begins_variables word c ≡ true → has_form (kind_at c) ≡ false
  variables_have_no_form decl.Var c h = ap has_form (kind_seen kind.Var c h)
  variables_have_no_form decl.Const c h = ap has_form (kind_seen kind.Const c h)
  variables_have_no_form decl.Let c h = ap has_form (let_stands c h)

  using_has_no_form : (is_await : Bool) (c m : Place) → AwaitWord is_await c m → is_using_declaration k m ≡ true → has_form (kind_at c) ≡ false
  unfolding is_using_declaration
  using_has_no_form is_await c m (no_await e h) g = ap has_form (rw h at (word_place (codes "using") m (and_first _ _ g)))
  using_has_no_form is_await c m (await_word e h n) g = ap has_form h

  -- a form that none of the words above begins
  other : (x : Tree) (c d : Place) (t : TokenKind) → kind_at c ≡ t → has_form t ≡ false → Begun In k x c d (kind_at c)
  other x c d t h g = formless In k x c d (kind_at c) (rw h g)

  name_has_no_form : (text : Text) (s : Span) (c m : Place) → ReadsName k text s c m → has_form (kind_at c) ≡ false
  name_has_no_form text s c m r = identifier_place k.flags c (name_is_identifier k text s c m r)

  if_begun : (x : Tree) (c d : Place) → IfRule In k x c d → Begun In k x c d (kind_at c)
  if_begun x c d (if_rule test cons alt m n h r s g e) = rw h (if_rule test cons alt m n h r s g e)

  pub form_begun : (at : Position) (x : Tree) (c d : Place) → FormRule In k at x c d → Begun In k x c d (kind_at c)
  form_begun at x c d (class_rule ds name y m h r s g e) = formless In k x c d (kind_at c) (decorators_have_no_form ds c m r (ap has_form s.is_class))
  form_begun at x c d (function_rule ds name y m r h s g e) = formless In k x c d (kind_at c) (decorators_have_no_form ds c m r (async_has_no_form s.is_async m s.word s.reads_async s.is_function))
  form_begun at x c d (variables_rule word xs m h r g e) = formless In k x c d (kind_at c) (variables_have_no_form word c r.0)
  form_begun at x c d (using_rule r) = formless In k x c d (kind_at c) (using_has_no_form r.is_await c r.word r.reads_await r.begins)
  form_begun at x c d (block_rule r) = rw r.opens r
  form_begun at x c d (empty_rule h g e) = other x c d kind.Semi h refl
  form_begun at x c d (debugger_rule h g e) = other x c d kind.Debugger h refl
  form_begun at x c d (with_rule e y m h r s g) = other x c d kind.With h refl
  form_begun at x c d (return_rule e m h r g f) = other x c d kind.Return h refl
  form_begun at x c d (labeled_rule text s y m r h g e) = formless In k x c d (kind_at c) (name_has_no_form text s c m r)
  form_begun at x c d (break_rule label m h r g e) = other x c d kind.Break h refl
  form_begun at x c d (continue_rule label m h r g e) = other x c d kind.Continue h refl
  form_begun at x c d (if_statement_rule r) = if_begun x c d r
  form_begun at x c d (switch_rule y xs m n h r g s o i j e) =
      rw h (record { value = y; cases = xs; open_brace = m; close_brace = n; head = r; opens = g; reads = s; one_default = o; closes = i })
  form_begun at x c d (throw_rule y m h b r g e) = rw h b
  form_begun at x c d (try_rule body handler finalizer m n h r s g i e) = other x c d kind.Try h refl
  form_begun at x c d (while_rule y z m h r s e) = other x c d kind.While h refl
  form_begun at x c d (do_while_rule y z m n h r g s i e) = other x c d kind.Do h refl
  form_begun at x c d (for_rule init test next y l m n h g r i s j u o v e) = rw h (three_parts init l g r i)
  form_begun at x c d (for_in_rule left right y m n h g r i s j u e) = rw h (before_in left m g r i)
  form_begun at x c d (for_of_rule is_await left right y l m n h a g r i s j u e) = rw h (before_of is_await left l m a g r i)
  form_begun at x c d (expr_rule y m h r g i e) =
      let (f, j) = no_brace_no_import at c h in
      formless In k x c d (kind_at c) (none_begins (with_in k).flags c (begins expression (with_in k) y c m r) f j)
  form_begun at x c d (import_expr_rule y m h r g e) = rw (kind_seen kind.Import c (import_stands c h)) h

-- what a statement is, by the token that it begins with
pub statement_begun : (n : ℕ) (k : Code) (at : Position) (x : Tree) (c d : Place) → Reads (suc n) (stmt_goal k at x c d) → Begun (Reads n) k x c d (kind_at c)
statement_begun n k at x c d r = form_begun (Reads n) (expressions_begin n) k at x c d r.1
