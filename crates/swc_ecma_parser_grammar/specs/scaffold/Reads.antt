-- The small relation: of statements alone, one rule for each form. How their expressions, patterns, parameters and classes are read is
-- given to the rules, and it is as in the language. The theorems on the reader's statements are stated with these rules, and so they
-- remain, though no promise of the parser names them: on supported trees the small relation and the language are one (`proofs/Widens.antt`,
-- `proofs/Narrows.antt`). What has a name in the language is named `Small` here.
use Rattle.std.specs.Prelude.{◌≡◌, Bool, true, false, ◌&&◌, ◌||◌, List, [], ◌∷◌, codes}
use Rattle.swc_ecma_parser_common.specs.declared.span.Span.{Span}
use Rattle.swc_ecma_parser_token.specs.declared.kind.TokenKind.TheVariants as kind
use Rattle.swc_ecma_parser_token.specs.declared.token.Token.TheVariants as token
use Rattle.swc_ecma_parser_token.specs.declared.token.Word.{Word}
use Rattle.swc_ecma_parser_token.specs.Text.{word_text}
use Rattle.swc_ecma_parser_input.specs.Place.{Place, after}
use Rattle.swc_ecma_parser_model.specs.declared.leaves.VarDeclKind.{VarDeclKind}
use Rattle.swc_ecma_parser_model.specs.declared.leaves.VarDeclKind.TheVariants as decl
use Rattle.swc_ecma_parser_model.specs.Tree as tree
use Rattle.swc_ecma_parser_model.specs.Tree.{Tree, listed}
use Rattle.swc_ecma_parser_model.specs.Forms.{is_absent, is_binding_name, is_ident, is_ident_named}
use Rattle.swc_ecma_parser_grammar.specs.declared.position.Position.{Position}
use Rattle.swc_ecma_parser_grammar.specs.Looks.{kind_at, breaks_at, sees, spanned}
use Rattle.swc_ecma_parser_grammar.specs.Names.{Code, is_name}
use Rattle.swc_ecma_parser_grammar.specs.Ends.{Ends, OptionalEnds, ends_at}
use Rattle.swc_ecma_parser_grammar.specs.Follows.{word_at, may_begin_expression_statement, begins_import_expression, may_begin_head, is_async_of, AwaitWord, AsyncWord, Star, is_async_function}
use Rattle.swc_ecma_parser_grammar.specs.Variables.{begins_variables, is_var, needs_no_initializer}
use Rattle.swc_ecma_parser_grammar.specs.scaffold.Using.{may_declare_using, awaits_using, using_faults}
use Rattle.swc_ecma_parser_grammar.specs.Parameters.{parameters}
use Rattle.swc_ecma_parser_grammar.specs.language.Goals.{Class, expression, assignment}
use Rattle.swc_ecma_parser_grammar.specs.language.Contexts.{named_by, in_parameters, in_body, in_loop, in_breakable, in_with, with_in, without_in, head_code}
use Rattle.swc_ecma_parser_grammar.specs.language.Lists.{ReadsSeparated}
use Rattle.swc_ecma_parser_grammar.specs.language.Parts.{ReadsToken}
use Rattle.swc_ecma_parser_grammar.specs.language.Items.{nested_item, sub_statement, labelled_item, directed, directs_on}
use Rattle.swc_ecma_parser_grammar.specs.language.Declarations.{is_using_declaration}

-- VariableDeclaration and LexicalBinding: sections 14.3.2 and 14.3.1. In a pattern `in` is an operator in any case.
pub data SmallDeclaratorRule (Expr Pat : Code → Tree → Place → Place → Type 0) (k : Code) (loop : Bool) (word : VarDeclKind) (x : Tree) (c d : Place) : Type 0 where
  plain_rule : (p : Tree) → Pat (with_in k) p c d → sees kind.Assign d ≡ false → needs_no_initializer k loop word p d ≡ true → x ≡ tree.declarator (spanned c d) p tree.absent
      → SmallDeclaratorRule Expr Pat k loop word x c d
  initialized_rule : (p e : Tree) (m : Place) → Pat (with_in k) p c m → kind_at m ≡ kind.Assign → Expr k e (after m) d → x ≡ tree.declarator (spanned c d) p e
      → SmallDeclaratorRule Expr Pat k loop word x c d

-- statements one behind another, in a body with directives or without
abbrev pub ReadsItems : (Code → Tree → Place → Place → Type 0) → Code → Bool → List Tree → Place → Place → Type 0
ReadsItems Reads k directives [] c d = d ≡ c
ReadsItems Reads k directives (x ∷ xs) c d = (m : Place) × Reads k x c m × ReadsItems Reads (directed k directives x) (directs_on directives x) xs m d

-- statements in braces, with directives or without: sections 14.2 and 15.2
pub record ReadsBraced (Stmt : Code → Position → Tree → Place → Place → Type 0) (directives : Bool) (k : Code) (x : Tree) (c d : Place) : Type 0 where
  pub items : List Tree
  pub close : Place
  pub opens : kind_at c ≡ kind.LBrace
  pub reads_items : ReadsItems (λ j. Stmt j nested_item) k directives items (after c) close
  pub closes : kind_at close ≡ kind.RBrace
  pub next : d ≡ after close
  pub is : x ≡ tree.block (spanned c d) (listed items)

abbrev pub ReadsBlock : (Code → Position → Tree → Place → Place → Type 0) → Code → Tree → Place → Place → Type 0
ReadsBlock Stmt k x c d = ReadsBraced Stmt false k x c d

-- a function as a declaration, whose name is read in the code around: sections 15.2, 15.5, 15.6 and 15.8
pub record ReadsFunction (Stmt : Code → Position → Tree → Place → Place → Type 0) (Params : Code → List Tree → Place → Place → Type 0) (k : Code) (x : Tree) (c d : Place) : Type 0 where
  pub is_async : Bool
  pub is_generator : Bool
  pub name : Word
  pub name_span : Span
  pub patterns : List Tree
  pub body : Tree
  pub word : Place
  pub behind_word : Place
  pub behind_name : Place
  pub middle : Place
  pub reads_async : AsyncWord is_async c word
  pub is_function : kind_at word ≡ kind.Function
  pub reads_star : Star is_generator (after word) behind_word
  pub reads_name : ReadsToken (token.Word name) name_span behind_word behind_name
  pub is_named : is_name k.flags (word_text name) ≡ true
  pub reads_parameters : Params (in_parameters k is_async is_generator) patterns behind_name middle
  pub reads_body : ReadsBraced Stmt true (in_body k is_async is_generator) body middle d
  pub is : x ≡ tree.fn_decl (tree.ident name_span (word_text name)) (tree.function (spanned c d) (listed []) (parameters patterns) body is_async is_generator)

-- the name of a function that is an expression, which is read in the function's own code, or none
pub data OwnNameRule (k : Code) (is_async is_generator : Bool) (x : Tree) (c d : Place) : Type 0 where
  no_own_name_rule : kind_at c ≡ kind.LParen → d ≡ c → x ≡ tree.absent → OwnNameRule k is_async is_generator x c d
  own_name_rule : (w : Word) (s : Span) → ReadsToken (token.Word w) s c d → is_name (named_by k is_async is_generator).flags (word_text w) ≡ true → x ≡ tree.ident s (word_text w)
      → OwnNameRule k is_async is_generator x c d

-- a function as an expression: sections 15.2, 15.5, 15.6 and 15.8
pub record ReadsFunctionExpr (Stmt : Code → Position → Tree → Place → Place → Type 0) (Params : Code → List Tree → Place → Place → Type 0) (k : Code) (x : Tree) (c d : Place) : Type 0 where
  pub is_async : Bool
  pub is_generator : Bool
  pub name : Tree
  pub patterns : List Tree
  pub body : Tree
  pub word : Place
  pub behind_word : Place
  pub behind_name : Place
  pub middle : Place
  pub reads_async : AsyncWord is_async c word
  pub is_function : kind_at word ≡ kind.Function
  pub reads_star : Star is_generator (after word) behind_word
  pub reads_name : OwnNameRule k is_async is_generator name behind_word behind_name
  pub reads_parameters : Params (in_parameters k is_async is_generator) patterns behind_name middle
  pub reads_body : ReadsBraced Stmt true (in_body k is_async is_generator) body middle d
  pub is : x ≡ tree.fn_expr (spanned c d) name (tree.function (spanned c d) (listed []) (parameters patterns) body is_async is_generator)

-- the parameters and the body of a method or an accessor: section 15.4
pub record ReadsParts (Stmt : Code → Position → Tree → Place → Place → Type 0) (Params : Code → List Tree → Place → Place → Type 0) (k : Code) (is_async is_generator : Bool)
    (patterns : List Tree) (body : Tree) (c d : Place) : Type 0 where
  pub middle : Place
  pub reads_parameters : Params (in_parameters k is_async is_generator) patterns c middle
  pub reads_body : ReadsBraced Stmt true (in_body k is_async is_generator) body middle d

-- `( Expression )` behind the word of a statement
pub record ReadsHead (Expr : Class → Code → Tree → Place → Place → Type 0) (k : Code) (e : Tree) (c d : Place) : Type 0 where
  pub close : Place
  pub opens : kind_at c ≡ kind.LParen
  pub reads : Expr expression (with_in k) e (after c) close
  pub closes : kind_at close ≡ kind.RParen
  pub next : d ≡ after close

-- Section 14.6: an `else` belongs to the nearest `if`, and an `if` behind it stands at the same level.
mutual
  pub data SmallIfRule (Stmt : Code → Position → Tree → Place → Place → Type 0) (Expr : Class → Code → Tree → Place → Place → Type 0) (k : Code) : Tree → Place → Place → Type 0 where
    if_rule : {x : Tree} {c d : Place} (test cons alt : Tree) (m n : Place) → kind_at c ≡ kind.If → ReadsHead Expr k test (after c) m → Stmt k sub_statement cons m n
        → SmallElseRule Stmt Expr k alt n d → x ≡ tree.if_stmt (spanned c d) test cons alt → SmallIfRule Stmt Expr k x c d

  pub data SmallElseRule (Stmt : Code → Position → Tree → Place → Place → Type 0) (Expr : Class → Code → Tree → Place → Place → Type 0) (k : Code) : Tree → Place → Place → Type 0 where
    no_else_rule : {x : Tree} {c d : Place} → sees kind.Else c ≡ false → d ≡ c → x ≡ tree.absent → SmallElseRule Stmt Expr k x c d
    else_rule : {x : Tree} {c d : Place} → kind_at c ≡ kind.Else → sees kind.If (after c) ≡ false → Stmt k sub_statement x (after c) d → SmallElseRule Stmt Expr k x c d
    else_if_rule : {x : Tree} {c d : Place} → kind_at c ≡ kind.Else → SmallIfRule Stmt Expr k x (after c) d → SmallElseRule Stmt Expr k x c d

-- the label of `break` and `continue`: none where the statement can end
pub data SmallTargetRule (k : Code) (x : Tree) (c d : Place) : Type 0 where
  no_target_rule : ends_at c ≡ true → d ≡ c → x ≡ tree.absent → SmallTargetRule k x c d
  target_rule : (w : Word) (s : Span) → ends_at c ≡ false → ReadsToken (token.Word w) s c d → is_name k.flags (word_text w) ≡ true → x ≡ tree.ident s (word_text w)
      → SmallTargetRule k x c d

-- what `return` answers: nothing where the statement can end
pub data SmallReturnedRule (Expr : Class → Code → Tree → Place → Place → Type 0) (k : Code) (x : Tree) (c d : Place) : Type 0 where
  no_operand_rule : ends_at c ≡ true → d ≡ c → x ≡ tree.absent → SmallReturnedRule Expr k x c d
  operand_rule : ends_at c ≡ false → Expr expression (with_in k) x c d → SmallReturnedRule Expr k x c d

-- the variables that the head of a `for` declares, without an end
pub record HeadVariables (Expr : Class → Code → Tree → Place → Place → Type 0) (Pat : Code → Tree → Place → Place → Type 0) (k : Code) (x : Tree) (c d : Place) : Type 0 where
  pub word : VarDeclKind
  pub declarators : List Tree
  pub begins : begins_variables word c ≡ true
  pub reads : ReadsSeparated (SmallDeclaratorRule (Expr assignment) Pat (head_code word k) true word) declarators (after c) d
  pub is : x ≡ tree.var (spanned c d) word (listed declarators)

-- the first part of the head of a `for`, where `in` is no operator
pub data SmallInitRule (Expr : Class → Code → Tree → Place → Place → Type 0) (Pat : Code → Tree → Place → Place → Type 0) (k : Code) (x : Tree) (c d : Place) : Type 0 where
  no_init_rule : kind_at c ≡ kind.Semi → d ≡ c → x ≡ tree.absent → SmallInitRule Expr Pat k x c d
  init_variables_rule : HeadVariables Expr Pat k x c d → SmallInitRule Expr Pat k x c d
  init_expression_rule : may_begin_head c ≡ true → Expr expression (without_in k) x c d → SmallInitRule Expr Pat k x c d

-- what takes each value before `in` and `of`: variables that are declared, or a target of assignments
pub data SmallLeftRule (Expr : Class → Code → Tree → Place → Place → Type 0) (Pat Target : Code → Tree → Place → Place → Type 0) (k : Code) (x : Tree) (c d : Place) : Type 0 where
  declared_rule : HeadVariables Expr Pat k x c d → SmallLeftRule Expr Pat Target k x c d
  left_target_rule : may_begin_head c ≡ true → Target (without_in k) x c d → SmallLeftRule Expr Pat Target k x c d

-- What stands before `of`: such variables or such a target, but not `async` on its line unless behind `for await`; or, with the setting,
-- `using` and a plain name that is not `of`, behind `await` on its line too, where the two words are read as the expression that they are.
pub data SmallOfLeftRule (Expr : Class → Code → Tree → Place → Place → Type 0) (Pat Target : Code → Tree → Place → Place → Type 0) (k : Code) (is_await : Bool) (x : Tree) (c d : Place) : Type 0 where
  of_left_rule : SmallLeftRule Expr Pat Target k x c d → is_async_of (is_await && word_at (codes "async") c) x d ≡ false → SmallOfLeftRule Expr Pat Target k is_await x c d
  of_using_rule : (name : Tree) → may_declare_using k c ≡ true → Pat k name (after c) d → is_binding_name name ≡ true
      → x ≡ tree.using (spanned c d) false (listed (tree.declarator (spanned (after c) d) name tree.absent ∷ [])) → SmallOfLeftRule Expr Pat Target k is_await x c d
  of_await_rule : (e name : Tree) (m : Place) → k.setting.explicit_resource_management ≡ true → Expr expression (without_in k) e c m → awaits_using e ≡ true → breaks_at (after c) ≡ false
      → word_at (codes "using") (after c) ≡ true → word_at (codes "of") m ≡ false → Pat k name m d → is_binding_name name ≡ true → x ≡ tree.using (spanned c d) true (listed (tree.declarator (spanned m d) name tree.absent ∷ []))
      → SmallOfLeftRule Expr Pat Target k is_await x c d

-- the second part and the third
pub data SmallPartRule (Expr : Class → Code → Tree → Place → Place → Type 0) (k : Code) (x : Tree) (c d : Place) : Type 0 where
  no_part_rule : d ≡ c → x ≡ tree.absent → SmallPartRule Expr k x c d
  part_rule : Expr expression (with_in k) x c d → SmallPartRule Expr k x c d

-- CaseClause and DefaultClause of section 14.12, behind clauses with a `default` or without: each spans to its last token
pub data SmallCaseRule (Stmt : Code → Position → Tree → Place → Place → Type 0) (Expr : Class → Code → Tree → Place → Place → Type 0) (k : Code) (has_default : Bool) (x : Tree) (c d : Place) : Type 0 where
  case_clause_rule : (test : Tree) (xs : List Tree) (m : Place) → kind_at c ≡ kind.Case → Expr expression (with_in k) test (after c) m → kind_at m ≡ kind.Colon
      → ReadsItems (λ j. Stmt j nested_item) k false xs (after m) d → x ≡ tree.case (spanned c d) test (listed xs) → SmallCaseRule Stmt Expr k has_default x c d
  default_clause_rule : (xs : List Tree) → has_default ≡ false → kind_at c ≡ kind.Default → kind_at (after c) ≡ kind.Colon
      → ReadsItems (λ j. Stmt j nested_item) k false xs (after (after c)) d → x ≡ tree.case (spanned c d) tree.absent (listed xs) → SmallCaseRule Stmt Expr k has_default x c d

-- clauses one behind another, with one `default` at most
abbrev pub ReadsCases : (Code → Position → Tree → Place → Place → Type 0) → (Class → Code → Tree → Place → Place → Type 0) → Code → Bool → List Tree → Place → Place → Type 0
ReadsCases Stmt Expr k has_default [] c d = d ≡ c
ReadsCases Stmt Expr k has_default (x ∷ xs) c d = (m : Place) × SmallCaseRule Stmt Expr k has_default x c m × ReadsCases Stmt Expr k (has_default || sees kind.Default c) xs m d

-- Catch of section 14.15, which may be left out, and so may what it binds
pub data SmallCatchRule (Stmt : Code → Position → Tree → Place → Place → Type 0) (Pat : Code → Tree → Place → Place → Type 0) (k : Code) (x : Tree) (c d : Place) : Type 0 where
  no_catch_rule : sees kind.Catch c ≡ false → d ≡ c → x ≡ tree.absent → SmallCatchRule Stmt Pat k x c d
  catch_rule : (body : Tree) → kind_at c ≡ kind.Catch → ReadsBlock Stmt k body (after c) d → x ≡ tree.catch (spanned c d) tree.absent body → SmallCatchRule Stmt Pat k x c d
  catch_parameter_rule : (p body : Tree) (m : Place) → kind_at c ≡ kind.Catch → kind_at (after c) ≡ kind.LParen → Pat (with_in k) p (after (after c)) m → kind_at m ≡ kind.RParen
      → ReadsBlock Stmt k body (after m) d → x ≡ tree.catch (spanned c d) p body → SmallCatchRule Stmt Pat k x c d

-- Finally of section 14.15, which may be left out
pub data SmallFinallyRule (Stmt : Code → Position → Tree → Place → Place → Type 0) (k : Code) (x : Tree) (c d : Place) : Type 0 where
  no_finally_rule : sees kind.Finally c ≡ false → d ≡ c → x ≡ tree.absent → SmallFinallyRule Stmt k x c d
  finally_rule : kind_at c ≡ kind.Finally → ReadsBlock Stmt k x (after c) d → SmallFinallyRule Stmt k x c d

pub data SmallStmtRule (Stmt : Code → Position → Tree → Place → Place → Type 0) (Expr : Class → Code → Tree → Place → Place → Type 0) (Pat Target : Code → Tree → Place → Place → Type 0)
    (Params : Code → List Tree → Place → Place → Type 0) (Named : Code → (name x : Tree) → Place → Place → Type 0) (k : Code) (at : Position) (x : Tree) (c d : Place) : Type 0 where
  -- section 15.7, where declarations are read
  class_rule : (name y : Tree) → at.include_decl ≡ true → Named k name y c d → is_absent name ≡ false → x ≡ tree.class_decl name y → SmallStmtRule Stmt Expr Pat Target Params Named k at x c d
  -- section 15.2, where declarations are read; as in the crate, an async one may stand in the place of any statement
  function_rule : at.include_decl || is_async_function c ≡ true → ReadsFunction Stmt Params k x c d → SmallStmtRule Stmt Expr Pat Target Params Named k at x c d
  -- section 14.2
  block_rule : ReadsBlock Stmt k x c d → SmallStmtRule Stmt Expr Pat Target Params Named k at x c d
  -- section 14.4
  empty_rule : kind_at c ≡ kind.Semi → d ≡ after c → x ≡ tree.empty (spanned c d) → SmallStmtRule Stmt Expr Pat Target Params Named k at x c d
  -- section 14.16
  debugger_rule : kind_at c ≡ kind.Debugger → Ends (after c) d → x ≡ tree.debugger (spanned c d) → SmallStmtRule Stmt Expr Pat Target Params Named k at x c d
  -- sections 14.3.2 and 14.3.1; `let` and `const` where declarations are read
  variables_rule : (word : VarDeclKind) (xs : List Tree) (m : Place) → at.include_decl || is_var word ≡ true → begins_variables word c ≡ true
      → ReadsSeparated (SmallDeclaratorRule (Expr assignment) Pat (with_in k) false word) xs (after c) m → Ends m d → x ≡ tree.var (spanned c d) word (listed xs)
      → SmallStmtRule Stmt Expr Pat Target Params Named k at x c d
  -- the proposal on explicit resource management: where declarations are read, behind `await` on its line at the top level too, and
  -- the setting says so. What is said of it is said before its end.
  using_rule : (is_await : Bool) (xs : List Tree) (m n : Place) → at.include_decl || (is_await && at.top_level) ≡ true → AwaitWord is_await c m → is_await && breaks_at m ≡ false
      → is_using_declaration k m ≡ true → ReadsSeparated (SmallDeclaratorRule (Expr assignment) Pat (with_in k) false decl.Var) xs (after m) n
      → using_faults k.setting.explicit_resource_management (spanned c n) xs ≡ [] → Ends n d → x ≡ tree.using (spanned c d) is_await (listed xs) → SmallStmtRule Stmt Expr Pat Target Params Named k at x c d
  if_statement_rule : SmallIfRule Stmt Expr k x c d → SmallStmtRule Stmt Expr Pat Target Params Named k at x c d
  -- section 14.11; in module code it is a fault, in strict code it is none
  with_rule : (e y : Tree) (m : Place) → kind_at c ≡ kind.With → k.flags.module ≡ false → ReadsHead Expr k e (after c) m → Stmt (in_with k) sub_statement y m d
      → x ≡ tree.with (spanned c d) e y → SmallStmtRule Stmt Expr Pat Target Params Named k at x c d
  -- section 14.12
  switch_rule : (e : Tree) (xs : List Tree) (m n : Place) → kind_at c ≡ kind.Switch → ReadsHead Expr k e (after c) m → kind_at m ≡ kind.LBrace
      → ReadsCases Stmt Expr (in_breakable k) false xs (after m) n → kind_at n ≡ kind.RBrace → d ≡ after n → x ≡ tree.switch (spanned c d) e (listed xs)
      → SmallStmtRule Stmt Expr Pat Target Params Named k at x c d
  -- section 14.13
  labeled_rule : (w : Word) (s : Span) (y : Tree) (m : Place) → ReadsToken (token.Word w) s c m → is_name k.flags (word_text w) ≡ true → kind_at m ≡ kind.Colon
      → Stmt (in_breakable k) (labelled_item (after m)) y (after m) d → x ≡ tree.labeled (spanned c d) (tree.ident s (word_text w)) y → SmallStmtRule Stmt Expr Pat Target Params Named k at x c d
  -- sections 14.9, 14.8 and 14.10
  break_rule : (label : Tree) (m : Place) → kind_at c ≡ kind.Break → SmallTargetRule k label (after c) m → Ends m d → x ≡ tree.break (spanned c d) label → SmallStmtRule Stmt Expr Pat Target Params Named k at x c d
  continue_rule : (label : Tree) (m : Place) → kind_at c ≡ kind.Continue → SmallTargetRule k label (after c) m → Ends m d → x ≡ tree.continue (spanned c d) label
      → SmallStmtRule Stmt Expr Pat Target Params Named k at x c d
  return_rule : (e : Tree) (m : Place) → kind_at c ≡ kind.Return → SmallReturnedRule Expr k e (after c) m → Ends m d → x ≡ tree.return (spanned c d) e → SmallStmtRule Stmt Expr Pat Target Params Named k at x c d
  -- section 14.14
  throw_rule : (e : Tree) (m : Place) → kind_at c ≡ kind.Throw → breaks_at (after c) ≡ false → Expr expression (with_in k) e (after c) m → Ends m d
      → x ≡ tree.throw (spanned c d) e → SmallStmtRule Stmt Expr Pat Target Params Named k at x c d
  -- section 14.15: it has a catch, a finally, or both
  try_rule : (body handler finalizer : Tree) (m n : Place) → kind_at c ≡ kind.Try → ReadsBlock Stmt k body (after c) m → SmallCatchRule Stmt Pat k handler m n
      → SmallFinallyRule Stmt k finalizer n d → is_absent handler && is_absent finalizer ≡ false → x ≡ tree.try (spanned c d) body handler finalizer → SmallStmtRule Stmt Expr Pat Target Params Named k at x c d
  -- section 14.7.3
  while_rule : (e y : Tree) (m : Place) → kind_at c ≡ kind.While → ReadsHead Expr k e (after c) m → Stmt (in_loop k) sub_statement y m d
      → x ≡ tree.while (spanned c d) e y → SmallStmtRule Stmt Expr Pat Target Params Named k at x c d
  -- section 14.7.2; its end is demanded nowhere
  do_while_rule : (e y : Tree) (m n : Place) → kind_at c ≡ kind.Do → Stmt (in_loop k) sub_statement y (after c) m → kind_at m ≡ kind.While → ReadsHead Expr k e (after m) n
      → OptionalEnds n d → x ≡ tree.do_while (spanned c d) e y → SmallStmtRule Stmt Expr Pat Target Params Named k at x c d
  -- section 14.7.4
  for_rule : (init test update y : Tree) (l m n : Place) → kind_at c ≡ kind.For → kind_at (after c) ≡ kind.LParen → SmallInitRule Expr Pat k init (after (after c)) l → kind_at l ≡ kind.Semi
      → SmallPartRule Expr k test (after l) m → kind_at m ≡ kind.Semi → SmallPartRule Expr k update (after m) n → kind_at n ≡ kind.RParen → Stmt (in_loop k) sub_statement y (after n) d
      → x ≡ tree.for (spanned c d) init test update y → SmallStmtRule Stmt Expr Pat Target Params Named k at x c d
  -- section 14.7.5
  for_in_rule : (left right y : Tree) (m n : Place) → kind_at c ≡ kind.For → kind_at (after c) ≡ kind.LParen → SmallLeftRule Expr Pat Target k left (after (after c)) m → kind_at m ≡ kind.In
      → Expr expression (with_in k) right (after m) n → kind_at n ≡ kind.RParen → Stmt (in_loop k) sub_statement y (after n) d → x ≡ tree.for_in (spanned c d) left right y
      → SmallStmtRule Stmt Expr Pat Target Params Named k at x c d
  for_of_rule : (is_await : Bool) (left right y : Tree) (l m n : Place) → kind_at c ≡ kind.For → AwaitWord is_await (after c) l → kind_at l ≡ kind.LParen
      → SmallOfLeftRule Expr Pat Target k is_await left (after l) m → word_at (codes "of") m ≡ true
      → Expr assignment (with_in k) right (after m) n → kind_at n ≡ kind.RParen → Stmt (in_loop k) sub_statement y (after n) d
      → x ≡ tree.for_of (spanned c d) is_await left right y → SmallStmtRule Stmt Expr Pat Target Params Named k at x c d
  -- section 14.5. A bare name before `:` is a label; in module code the bare name `interface` is none.
  expr_rule : (e : Tree) (m : Place) → may_begin_expression_statement at c ≡ true → Expr expression (with_in k) e c m → is_ident e && sees kind.Colon m ≡ false
      → k.flags.module && is_ident_named (codes "interface") e ≡ false → Ends m d → x ≡ tree.expr_stmt (spanned c d) e → SmallStmtRule Stmt Expr Pat Target Params Named k at x c d
  -- `import(` and `import.` begin one too
  import_rule : (e : Tree) (m : Place) → begins_import_expression c ≡ true → Expr expression (with_in k) e c m → Ends m d → x ≡ tree.expr_stmt (spanned c d) e
      → SmallStmtRule Stmt Expr Pat Target Params Named k at x c d
