-- Statements and declarations: ECMA-262, section 14, one rule for each form.
use Rattle.std.specs.Prelude.{◌≡◌, Bool, true, false, not, ◌&&◌, ◌||◌, if◌then◌else◌, List, [], ◌∷◌, codes}
use Rattle.std.specs.List.{list_any}
use Rattle.swc_ecma_parser_common.specs.declared.span.Span.{Span}
use Rattle.swc_ecma_parser_token.specs.declared.kind.TokenKind.TheVariants as kind
use Rattle.swc_ecma_parser_input.specs.Place.{Place, after}
use Rattle.swc_ecma_parser_model.specs.declared.leaves.VarDeclKind.{VarDeclKind}
use Rattle.swc_ecma_parser_model.specs.Tree as tree
use Rattle.swc_ecma_parser_model.specs.Tree.{Tree, Text, listed}
use Rattle.swc_ecma_parser_model.specs.Forms.{is_absent, is_ident}
use Rattle.swc_ecma_parser_grammar.specs.declared.position.Position.{Position}
use Rattle.swc_ecma_parser_grammar.specs.Looks.{kind_at, breaks_at, sees, spanned}
use Rattle.swc_ecma_parser_grammar.specs.Names.{Code}
use Rattle.swc_ecma_parser_grammar.specs.Ends.{Ends, OptionalEnds, ends_at}
use Rattle.swc_ecma_parser_grammar.specs.Follows.{word_at, is_async_function, may_begin_expression_statement, begins_import_expression, AwaitWord}
use Rattle.swc_ecma_parser_grammar.specs.Variables.{is_var}
use Rattle.swc_ecma_parser_grammar.specs.language.Goals.{Goal, expr_goal, expression, assignment, pattern_goal, binding, stmt_goal}
use Rattle.swc_ecma_parser_grammar.specs.language.Contexts.{in_with, in_loop, in_breakable, with_in}
use Rattle.swc_ecma_parser_grammar.specs.language.Lists.{ReadsEach}
use Rattle.swc_ecma_parser_grammar.specs.language.Items.{nested_item, sub_statement, labelled_item, ItemsRule, BlockRule}
use Rattle.swc_ecma_parser_grammar.specs.language.Functions.{FunctionRule}
use Rattle.swc_ecma_parser_grammar.specs.language.Classes.{DecoratorsRule, ClassRule}
use Rattle.swc_ecma_parser_grammar.specs.language.Declarations.{VariablesRule, UsingRule}
use Rattle.swc_ecma_parser_grammar.specs.language.Parts.{ReadsName}
use Rattle.swc_ecma_parser_grammar.specs.language.ForHeads.{InitRule, PartRule, LeftRule, OfLeftRule}

-- ---- look-aheads and contexts

-- At the top level a statement begins with `await` only in what may be a module's code.
unfoldable pub may_begin_at_top : Code → Position → Place → Bool
may_begin_at_top k at c = not (at.top_level && sees kind.Await c) || k.flags.can_be_module

-- ---- parts that several forms have

-- `( Expression )` behind the word of a statement
pub record HeadRule (In : Goal → Type 0) (k : Code) (e : Tree) (c d : Place) : Type 0 where
  pub close : Place
  pub opens : kind_at c ≡ kind.LParen
  pub reads : In (expr_goal expression (with_in k) e (after c) close)
  pub closes : kind_at close ≡ kind.RParen
  pub next : d ≡ after close

-- what `return` answers, or nothing where the statement can end
pub data ReturnedRule (In : Goal → Type 0) (k : Code) (x : Tree) (c d : Place) : Type 0 where
  no_operand_rule : ends_at c ≡ true → d ≡ c → x ≡ tree.absent → ReturnedRule In k x c d
  operand_rule : ends_at c ≡ false → In (expr_goal expression (with_in k) x c d) → ReturnedRule In k x c d

-- the label of `break` and `continue`: none where the statement can end
pub data TargetRule (k : Code) (x : Tree) (c d : Place) : Type 0 where
  no_target_rule : ends_at c ≡ true → d ≡ c → x ≡ tree.absent → TargetRule k x c d
  target_rule : (text : Text) (s : Span) → ends_at c ≡ false → ReadsName k text s c d → x ≡ tree.ident s text → TargetRule k x c d

-- ---- `if`, section 14.6: an `else` belongs to the nearest `if`, and an `if` behind it stands at the same level

mutual
  pub data IfRule (In : Goal → Type 0) (k : Code) : Tree → Place → Place → Type 0 where
    if_rule : {x : Tree} {c d : Place} (test cons alt : Tree) (m n : Place) → kind_at c ≡ kind.If → HeadRule In k test (after c) m
        → In (stmt_goal k sub_statement cons m n) → ElseRule In k alt n d → x ≡ tree.if_stmt (spanned c d) test cons alt → IfRule In k x c d

  pub data ElseRule (In : Goal → Type 0) (k : Code) : Tree → Place → Place → Type 0 where
    no_else_rule : {x : Tree} {c d : Place} → sees kind.Else c ≡ false → d ≡ c → x ≡ tree.absent → ElseRule In k x c d
    else_rule : {x : Tree} {c d : Place} → kind_at c ≡ kind.Else → sees kind.If (after c) ≡ false → In (stmt_goal k sub_statement x (after c) d) → ElseRule In k x c d
    else_if_rule : {x : Tree} {c d : Place} → kind_at c ≡ kind.Else → IfRule In k x (after c) d → ElseRule In k x c d

-- ---- `switch`, section 14.12

-- CaseClause and DefaultClause: each spans to its last token
pub data CaseRule (In : Goal → Type 0) (k : Code) (x : Tree) (c d : Place) : Type 0 where
  case_clause_rule : (test : Tree) (xs : List Tree) (m : Place) → kind_at c ≡ kind.Case → In (expr_goal expression (with_in k) test (after c) m) → kind_at m ≡ kind.Colon
      → ItemsRule In k false nested_item xs (after m) d → x ≡ tree.case (spanned c d) test (listed xs) → CaseRule In k x c d
  default_clause_rule : (xs : List Tree) → kind_at c ≡ kind.Default → kind_at (after c) ≡ kind.Colon → ItemsRule In k false nested_item xs (after (after c)) d
      → x ≡ tree.case (spanned c d) tree.absent (listed xs) → CaseRule In k x c d

abbrev pub is_default : Tree → Bool
is_default (tree.case s test cons) = is_absent test
is_default _ = false

abbrev pub at_most_one_default : List Tree → Bool
at_most_one_default [] = true
at_most_one_default (x ∷ xs) = if is_default x then not (list_any is_default xs) else at_most_one_default xs

-- ---- `try`, section 14.15

-- Catch, which may be left out
pub data CatchRule (In : Goal → Type 0) (k : Code) (x : Tree) (c d : Place) : Type 0 where
  no_catch_rule : sees kind.Catch c ≡ false → d ≡ c → x ≡ tree.absent → CatchRule In k x c d
  catch_rule : (body : Tree) → kind_at c ≡ kind.Catch → BlockRule In k false body (after c) d → x ≡ tree.catch (spanned c d) tree.absent body → CatchRule In k x c d
  catch_parameter_rule : (p body : Tree) (m : Place) → kind_at c ≡ kind.Catch → kind_at (after c) ≡ kind.LParen → In (pattern_goal binding (with_in k) p (after (after c)) m)
      → kind_at m ≡ kind.RParen → BlockRule In k false body (after m) d → x ≡ tree.catch (spanned c d) p body → CatchRule In k x c d

-- Finally, which may be left out
pub data FinallyRule (In : Goal → Type 0) (k : Code) (x : Tree) (c d : Place) : Type 0 where
  no_finally_rule : sees kind.Finally c ≡ false → d ≡ c → x ≡ tree.absent → FinallyRule In k x c d
  finally_rule : kind_at c ≡ kind.Finally → BlockRule In k false x (after c) d → FinallyRule In k x c d

-- ---- every form, in the order of the model's trees

pub data FormRule (In : Goal → Type 0) (k : Code) (at : Position) (x : Tree) (c d : Place) : Type 0 where
  -- ClassDeclaration, section 15.7: it begins with its decorators
  class_rule : (decorators name y : Tree) (m : Place) → at.include_decl ≡ true → DecoratorsRule In k decorators c m → ClassRule In k c decorators name y m d
      → is_absent name ≡ false → x ≡ tree.class_decl name y → FormRule In k at x c d
  -- FunctionDeclaration and its kin, section 15.2: its decorators, which the crate reads, stand before it. As in the crate, an
  -- async one may stand in the place of any statement.
  function_rule : (decorators name y : Tree) (m : Place) → DecoratorsRule In k decorators c m → at.include_decl || is_async_function m ≡ true
      → FunctionRule In false k decorators name y m d → is_absent name ≡ false → x ≡ tree.fn_decl name y → FormRule In k at x c d
  -- VariableStatement, section 14.3.2, and LexicalDeclaration, 14.3.1
  variables_rule : (word : VarDeclKind) (xs : List Tree) (m : Place) → at.include_decl || is_var word ≡ true → VariablesRule In (with_in k) false word xs c m → Ends m d
      → x ≡ tree.var (spanned c d) word (listed xs) → FormRule In k at x c d
  using_rule : UsingRule In k at x c d → FormRule In k at x c d
  -- section 14.2
  block_rule : BlockRule In k false x c d → FormRule In k at x c d
  -- section 14.4
  empty_rule : kind_at c ≡ kind.Semi → d ≡ after c → x ≡ tree.empty (spanned c d) → FormRule In k at x c d
  -- section 14.16
  debugger_rule : kind_at c ≡ kind.Debugger → Ends (after c) d → x ≡ tree.debugger (spanned c d) → FormRule In k at x c d
  -- section 14.11; in strict code too
  with_rule : (e y : Tree) (m : Place) → kind_at c ≡ kind.With → HeadRule In k e (after c) m → In (stmt_goal (in_with k) sub_statement y m d)
      → x ≡ tree.with (spanned c d) e y → FormRule In k at x c d
  -- section 14.10
  return_rule : (e : Tree) (m : Place) → kind_at c ≡ kind.Return → ReturnedRule In k e (after c) m → Ends m d → x ≡ tree.return (spanned c d) e → FormRule In k at x c d
  -- section 14.13
  labeled_rule : (text : Text) (s : Span) (y : Tree) (m : Place) → ReadsName k text s c m → kind_at m ≡ kind.Colon → In (stmt_goal (in_breakable k) (labelled_item (after m)) y (after m) d)
      → x ≡ tree.labeled (spanned c d) (tree.ident s text) y → FormRule In k at x c d
  -- sections 14.9 and 14.8
  break_rule : (label : Tree) (m : Place) → kind_at c ≡ kind.Break → TargetRule k label (after c) m → Ends m d → x ≡ tree.break (spanned c d) label → FormRule In k at x c d
  continue_rule : (label : Tree) (m : Place) → kind_at c ≡ kind.Continue → TargetRule k label (after c) m → Ends m d → x ≡ tree.continue (spanned c d) label → FormRule In k at x c d
  if_statement_rule : IfRule In k x c d → FormRule In k at x c d
  switch_rule : (e : Tree) (xs : List Tree) (m n : Place) → kind_at c ≡ kind.Switch → HeadRule In k e (after c) m → kind_at m ≡ kind.LBrace → ReadsEach (CaseRule In (in_breakable k)) xs (after m) n
      → at_most_one_default xs ≡ true → kind_at n ≡ kind.RBrace → d ≡ after n → x ≡ tree.switch (spanned c d) e (listed xs) → FormRule In k at x c d
  -- section 14.14
  throw_rule : (e : Tree) (m : Place) → kind_at c ≡ kind.Throw → breaks_at (after c) ≡ false → In (expr_goal expression (with_in k) e (after c) m) → Ends m d
      → x ≡ tree.throw (spanned c d) e → FormRule In k at x c d
  try_rule : (body handler finalizer : Tree) (m n : Place) → kind_at c ≡ kind.Try → BlockRule In k false body (after c) m → CatchRule In k handler m n
      → FinallyRule In k finalizer n d → is_absent handler && is_absent finalizer ≡ false → x ≡ tree.try (spanned c d) body handler finalizer → FormRule In k at x c d
  -- section 14.7.3
  while_rule : (e y : Tree) (m : Place) → kind_at c ≡ kind.While → HeadRule In k e (after c) m → In (stmt_goal (in_loop k) sub_statement y m d)
      → x ≡ tree.while (spanned c d) e y → FormRule In k at x c d
  -- section 14.7.2; as in section 12.10.1 its end is demanded nowhere
  do_while_rule : (e y : Tree) (m n : Place) → kind_at c ≡ kind.Do → In (stmt_goal (in_loop k) sub_statement y (after c) m) → kind_at m ≡ kind.While → HeadRule In k e (after m) n
      → OptionalEnds n d → x ≡ tree.do_while (spanned c d) e y → FormRule In k at x c d
  -- section 14.7.4
  for_rule : (init test update y : Tree) (l m n : Place) → kind_at c ≡ kind.For → kind_at (after c) ≡ kind.LParen → InitRule In k init (after (after c)) l → kind_at l ≡ kind.Semi
      → PartRule In k test (after l) m → kind_at m ≡ kind.Semi → PartRule In k update (after m) n → kind_at n ≡ kind.RParen → In (stmt_goal (in_loop k) sub_statement y (after n) d)
      → x ≡ tree.for (spanned c d) init test update y → FormRule In k at x c d
  -- section 14.7.5
  for_in_rule : (left right y : Tree) (m n : Place) → kind_at c ≡ kind.For → kind_at (after c) ≡ kind.LParen → LeftRule In k left (after (after c)) m → kind_at m ≡ kind.In
      → In (expr_goal expression (with_in k) right (after m) n) → kind_at n ≡ kind.RParen → In (stmt_goal (in_loop k) sub_statement y (after n) d)
      → x ≡ tree.for_in (spanned c d) left right y → FormRule In k at x c d
  for_of_rule : (is_await : Bool) (left right y : Tree) (l m n : Place) → kind_at c ≡ kind.For → AwaitWord is_await (after c) l → kind_at l ≡ kind.LParen
      → OfLeftRule In k is_await left (after l) m → word_at (codes "of") m ≡ true → In (expr_goal assignment (with_in k) right (after m) n) → kind_at n ≡ kind.RParen
      → In (stmt_goal (in_loop k) sub_statement y (after n) d) → x ≡ tree.for_of (spanned c d) is_await left right y → FormRule In k at x c d
  -- section 14.5; a bare name before `:` is a label
  expr_rule : (e : Tree) (m : Place) → may_begin_expression_statement at c ≡ true → In (expr_goal expression (with_in k) e c m) → is_ident e && sees kind.Colon m ≡ false
      → Ends m d → x ≡ tree.expr_stmt (spanned c d) e → FormRule In k at x c d
  -- `import(` and `import.` begin one too
  import_expr_rule : (e : Tree) (m : Place) → begins_import_expression c ≡ true → In (expr_goal expression (with_in k) e c m) → Ends m d
      → x ≡ tree.expr_stmt (spanned c d) e → FormRule In k at x c d

-- a statement in its place
abbrev pub StmtRule : (Goal → Type 0) → Code → Position → Tree → Place → Place → Type 0
StmtRule In k at x c d = (may_begin_at_top k at c ≡ true) × FormRule In k at x c d
