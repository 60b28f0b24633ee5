-- The reader, rule by rule.
use Rattle.std.specs.Prelude.{ℕ, zero, suc, Bool, true, false, not, ◌&&◌, ◌||◌, if◌then◌else◌, List, [], ◌∷◌, ◌++◌, length, codes, Option, Some, None, is_some, Ok}
use Rattle.swc_ecma_parser_common.specs.declared.span.Span.{Span}
use Rattle.swc_ecma_parser_error.specs.Kind as faults
use Rattle.swc_ecma_parser_token.specs.declared.kind.TokenKind.{TokenKind}
use Rattle.swc_ecma_parser_token.specs.declared.kind.TokenKind.TheVariants as kind
use Rattle.swc_ecma_parser_token.specs.declared.token.Token.{Token}
use Rattle.swc_ecma_parser_token.specs.declared.token.Token.TheVariants as token
use Rattle.swc_ecma_parser_token.specs.declared.token.TokenAndSpan.{TokenAndSpan}
use Rattle.swc_ecma_parser_input.specs.Place.{Place, after}
use Rattle.swc_ecma_parser_model.specs.declared.leaves.VarDeclKind.{VarDeclKind}
use Rattle.swc_ecma_parser_model.specs.declared.leaves.VarDeclKind.TheVariants as decl
use Rattle.swc_ecma_parser_model.specs.Tree as tree
use Rattle.swc_ecma_parser_model.specs.Tree.{Tree, Text, listed}
use Rattle.swc_ecma_parser_model.specs.Forms.{is_ident, is_ident_named, span_of}
use Rattle.swc_ecma_parser_grammar.specs.declared.position.Position.{Position}
use Rattle.swc_ecma_parser_grammar.specs.Looks.{kind_at, breaks_at, sees, span_at}
use Rattle.swc_ecma_parser_grammar.specs.Names.{Code, name_at}
use Rattle.swc_ecma_parser_grammar.specs.Follows.{word_at, may_begin_expression_statement, begins_import_expression, is_let_declaration, is_async_function}
use Rattle.swc_ecma_parser_grammar.specs.Variables.{is_const, needs_no_initializer}
use Rattle.swc_ecma_parser_grammar.specs.Own.{only, labelled_function, duplicates, head_faults}
use Rattle.swc_ecma_parser_grammar.specs.scaffold.Using.{may_declare_using, awaits_using, declares_behind, stands_in_head}
use Rattle.swc_ecma_parser_grammar.specs.language.Declarations.{is_using_declaration}
use Rattle.swc_ecma_parser_grammar.specs.language.Contexts.{in_loop, in_breakable, in_with, without_in, with_in, head_code, script_code}
use Rattle.swc_ecma_parser_grammar.specs.language.Goals.{Class, expression, assignment, left_side}
use Rattle.swc_ecma_parser_grammar.specs.language.Items.{sub_statement, labelled_item, nested_item, top_item}
use Rattle.swc_ecma_parser_reader.specs.Words.{begins_async_of}
use Rattle.swc_ecma_parser_reader.specs.Expressions as exprs
use Rattle.swc_ecma_parser_reader.specs.Expressions.{Cover}
use Rattle.swc_ecma_parser_reader.specs.Heads.{head_expr, head_behind_async}
use Rattle.swc_ecma_parser_reader.specs.Methods.{FunctionForm, expression_form, class_form, property_form, getter_form, setter_form, method_form, parameter_form, block_form}
unfoldable pub use Rattle.swc_ecma_parser_reader.specs.Bodies.{closes, at_end, close, directs, after_item, items_turn, items, block_from, block, braced, misdirected, named, function_word, own_name, no_parameter, one_parameter, function_body, function_parts, function_decl, function_expr, getter, setter, plain_method, arrow_block}
use Rattle.swc_ecma_parser_reader.specs.Decorators.{decorated}
use Rattle.swc_ecma_parser_reader.specs.DecoratedStatements.{either_stmt}
use Rattle.swc_ecma_parser_reader.specs.Members.{member_level, class_expr, class_stmt}
unfoldable pub use Rattle.swc_ecma_parser_reader.specs.Jumps.{told, target, unbroken, break_stmt, uncontinued, continue_stmt, may_return, misplaced, after_return, operand, returned, return_stmt}
unfoldable pub use Rattle.swc_ecma_parser_reader.specs.Recovery.{any_token, behind_any, end_turn, up_to_end, no_end, declaration_end, is_sign, lacks_end, operators_on, stmt_end}
unfoldable pub use Rattle.swc_ecma_parser_reader.specs.Using.{misusing, using_from, using_stmt, await_using_stmt, await_using_or}
use Rattle.swc_ecma_parser_reader.specs.Patterns.{pattern_level, element_level, parameter_list}
use Rattle.swc_ecma_parser_reader.specs.State.{Reader, ◌>>=◌, ◌>>◌, pure, here, span_here, since, skip, moved, spanned_from, whole_from, coded, flagged, within, below_label, note_module_item, attempted, fault, fault_at, end_of, module_fault, wanted, too_deep, refuse, reject, refused, labelled, reference, expect, end, stuck, Step, More, Done, loop}

-- ---- statements

unfoldable pub empty : Reader Tree
empty = do
  start ← here
  skip
  span ← spanned_from start
  pure (tree.empty span)

unfoldable pub debugger : Reader Tree
debugger = do
  start ← here
  skip
  end faults.Expected
  span ← spanned_from start
  pure (tree.debugger span)

-- Where an initializer is asked for and does not stand: a `const` of strict code goes on behind its fault, another pattern is refused.
abbrev pub missing_initializer : VarDeclKind → Span → Tree → Reader Tree
missing_initializer word span p = λ s. if is_const word && s.code.flags.strict then (do
  fault (fault_at span faults.ConstDeclarationsRequireInitialization)
  pure (tree.declarator span p tree.absent)) s else reject (fault_at span faults.PatVarWithoutInit) s

abbrev pub uninitialized : (in_head : Bool) → VarDeclKind → Span → Tree → Reader Tree
uninitialized in_head word span p = λ s. if needs_no_initializer s.code in_head word p s.at then Ok (tree.declarator span p tree.absent, s) else missing_initializer word span p s

abbrev pub bare_declarator : (in_head : Bool) → VarDeclKind → Span → Tree → Reader Tree
bare_declarator in_head word start p = do
  span ← since start
  uninitialized in_head word span p

-- Before `;` and at the end of the list no declarator begins.
unfoldable pub ends_declarators : Place → Bool
ends_declarators c = sees kind.Semi c || sees kind.End c

-- where one is missing: at the comma before it, or behind the word that begins the declaration
abbrev pub missing_at : List Tree → Place → Span
missing_at [] c = end_of c.last
missing_at (x ∷ xs) c = c.last

-- it is a fault, behind which the declaration goes on without it
unfoldable pub no_declarator : List Tree → Reader (Step (List Tree) (List Tree))
no_declarator found = λ s. (do
  fault (fault_at (missing_at found s.at) faults.TS1009)
  pure (Done found)) s

module _ (expr : Class → Reader Tree) (pat : Reader Tree) where
  -- `=` and what a name is given
  unfoldable pub initialized : Span → Tree → Reader Tree
  initialized start p = do
    skip
    e ← expr assignment
    span ← since start
    pure (tree.declarator span p e)

  -- a variable, in the head of a loop or not
  unfoldable pub declarator : (in_head : Bool) → VarDeclKind → Reader Tree
  declarator in_head word = do
    start ← span_here
    p ← within with_in pat
    λ s. if sees kind.Assign s.at then initialized start p s else bare_declarator in_head word start p s

  unfoldable pub declarators_turn : (in_head : Bool) → VarDeclKind → List Tree → Reader (Step (List Tree) (List Tree))
  declarators_turn in_head word found = λ s. if ends_declarators s.at then no_declarator found s else (do
    x ← declarator in_head word
    λ t. if sees kind.Comma t.at then Ok (More (found ++ x ∷ []), moved t) else Ok (Done (found ++ x ∷ []), t)) s

  unfoldable pub declarators : (in_head : Bool) → VarDeclKind → Reader (List Tree)
  declarators in_head word = loop (declarators_turn in_head word) []

  -- `var`, `let` or `const`
  unfoldable pub variables : VarDeclKind → Reader Tree
  variables word = do
    start ← here
    skip
    found ← within with_in (declarators false word)
    declaration_end (expr expression)
    span ← spanned_from start
    pure (tree.var span word (listed found))

-- in module code `with` is a fault, which is said at that word
unfoldable pub note_with : Span → Reader (Unit {0})
note_with span = λ s. Ok (tt, module_fault (fault_at span faults.WithInStrict) s)

-- the bare name `interface` is a fault in module code
unfoldable pub note_statement : Tree → Reader (Unit {0})
note_statement x = λ s. if is_ident_named (codes "interface") x then Ok (tt, module_fault (fault_at (span_of x) faults.InvalidIdentInStrict) s) else Ok (tt, s)

-- a bare name before `:` is a label and no expression
unfoldable pub no_label : Tree → Reader (Unit {0})
no_label x = λ s. if is_ident x && sees kind.Colon s.at then wanted faults.Unexpected s else Ok (tt, s)

module _ (expr : Reader Tree) (operators : Span → Tree → Reader Tree) where
  unfoldable pub expr_stmt : Reader Tree
  expr_stmt = do
    start ← here
    x ← within with_in expr
    no_label x
    note_statement x
    y ← stmt_end operators (span_at start) x
    span ← spanned_from start
    pure (tree.expr_stmt span y)

  unfoldable pub expr_stmt_at : Position → Reader Tree
  expr_stmt_at at = λ s. if may_begin_expression_statement at s.at then expr_stmt s else wanted faults.Unexpected s

  -- `import` begins no other statement
  unfoldable pub import_stmt_at : Reader Tree
  import_stmt_at = λ s. if begins_import_expression s.at then expr_stmt s else refuse faults.ImportExportInScript s

-- ---- `throw`, `while` and `do`

-- an end that nothing demands
unfoldable pub optional_end : Reader (Unit {0})
optional_end = λ s. if sees kind.Semi s.at then Ok (tt, moved s) else Ok (tt, s)

module _ (expr : Reader Tree) where
  unfoldable pub thrown : Place → Reader Tree
  thrown start = do
    e ← within with_in expr
    end faults.Expected
    span ← spanned_from start
    pure (tree.throw span e)

  -- what is thrown stands on the same line
  unfoldable pub throw : Reader Tree
  throw = do
    start ← here
    skip
    λ s. if breaks_at s.at || sees kind.End s.at then refuse faults.LineBreakInThrow s else thrown start s

  -- `( Expression )` behind the word of a statement
  unfoldable pub head : Reader Tree
  head = do
    expect kind.LParen
    e ← within with_in expr
    expect kind.RParen
    pure e

module _ (stmt : Reader Tree) (expr : Reader Tree) where
  unfoldable pub while_stmt : Reader Tree
  while_stmt = do
    start ← here
    skip
    test ← head expr
    body ← within in_loop stmt
    span ← spanned_from start
    pure (tree.while span test body)

  -- `with`, whose body counts as a function's
  unfoldable pub with_stmt : Reader Tree
  with_stmt = do
    start ← span_here
    skip
    note_with start
    obj ← head expr
    body ← within in_with stmt
    span ← since start
    pure (tree.with span obj body)

  unfoldable pub do_while : Reader Tree
  do_while = do
    start ← here
    skip
    body ← within in_loop stmt
    expect kind.While
    test ← head expr
    optional_end
    span ← spanned_from start
    pure (tree.do_while span test body)

-- ---- `for`

-- what the head of a `for` begins with
pub data Opening : Type 0 where
  Nothing : Opening
  Variables : Tree → Opening
  -- what is declared with `using`
  Resource : Tree → Opening
  -- a name before another
  Named : Tree → Opening
  Expression : Cover → Opening

-- behind a name before another a `;` is asked for, as behind an expression
unfoldable pub unfollowed : Reader Tree
unfollowed = expect kind.Semi >> wanted faults.Unexpected

-- as the first part of three
abbrev pub as_init : Opening → Reader Tree
as_init Nothing = pure tree.absent
as_init (Variables x) = pure x
as_init (Resource x) = unfollowed
as_init (Named p) = unfollowed
as_init (Expression v) = exprs.close v

-- as what takes each value
abbrev pub as_left : Opening → Reader Tree
as_left Nothing = wanted faults.Unexpected
as_left (Variables x) = pure x
as_left (Resource x) = pure x
as_left (Named p) = pure p
as_left (Expression v) = exprs.target v

-- `await` before `using`, which stands on its line
unfoldable pub begins_await_head : Place → Bool
begins_await_head c = sees kind.Await c && (not (breaks_at (after c)) && word_at (codes "using") (after c))

-- nothing is declared with `using` before `in`
unfoldable pub undeclared : Span → Reader (Unit {0})
undeclared span = λ s. told (only (sees kind.In s.at) faults.UsingDeclNotAllowedForForInLoop span) s

module _ (expr : Class → Reader Tree) (pat : Reader Tree) where
  -- what a head declares, without an end
  unfoldable pub head_variables : VarDeclKind → Reader Opening
  head_variables word = do
    start ← span_here
    skip
    found ← within (head_code word) (declarators expr pat true word)
    span ← since start
    pure (Variables (tree.var span word (listed found)))

  -- what `using` declares, behind `await` or not, from the name on
  unfoldable pub using_head : (is_await : Bool) → Span → Reader Opening
  using_head is_await start = do
    first ← span_here
    name ← pat
    span ← since first
    whole ← since start
    undeclared whole
    pure (Resource (tree.using whole is_await (listed (tree.declarator span name tree.absent ∷ []))))

  -- a name before another: `using` declares where `in` or `of` stands behind that
  unfoldable pub named_head : Reader Opening
  named_head = do
    start ← span_here
    p ← pat
    λ s. if stands_in_head (after s.at) then using_head false start s else Ok (Named p, s)

  -- behind what `await` begins: the expression `await using` declares where a name and `in` or `of` stand behind it
  unfoldable pub await_or_expression : Span → Cover → Reader Opening
  await_or_expression start v = λ s. if awaits_using v.x && declares_behind s.code s.at then using_head true start s else Ok (Expression v, s)

  -- `async` before `of`
  unfoldable pub async_head : Reader Opening
  async_head = do
    p ← within without_in pat
    pure (Named p)

  module _ (head_cover : Reader Cover) where
    unfoldable pub head_expression : Reader Opening
    head_expression = do
      v ← within without_in head_cover
      pure (Expression v)

    unfoldable pub await_head : Reader Opening
    await_head = do
      start ← span_here
      v ← within without_in head_cover
      await_or_expression start v

    -- `async` before `of` on its line: a name alone, or the head of an arrow function
    unfoldable pub async_or_expression : Reader Opening
    async_or_expression = λ s. if begins_async_of s.at then async_head s else head_expression s

    unfoldable pub head_target : (is_await : Bool) → Reader Opening
    head_target is_await = λ s. if is_await then async_or_expression s else head_expression s

    unfoldable pub opening : (is_await : Bool) → Reader Opening
    opening is_await = λ s.
        if sees kind.Semi s.at then Ok (Nothing, s)
        else if sees kind.Var s.at then head_variables decl.Var s
        else if sees kind.Const s.at then head_variables decl.Const s
        else if is_let_declaration s.at then head_variables decl.Let s
        else if may_declare_using s.code s.at then named_head s
        else if begins_await_head s.at then await_head s
        else head_target is_await s

-- a part of a head, unless what stands behind it does
unfoldable pub head_part : TokenKind → Reader Tree → Reader Tree
head_part behind expr = λ s. if sees behind s.at then Ok (tree.absent, s) else within with_in expr s

-- where `await` stands, if it does
unfoldable pub await_here : Reader (Option Span)
await_here = λ s. if sees kind.Await s.at then Ok (Some (span_at s.at), moved s) else Ok (None, s)

-- a loop without `of`: with `await` it is refused, behind its body
abbrev pub unless_awaited : Option Span → Reader Tree → Reader Tree
unless_awaited None p = p
unless_awaited (Some word) p = do
  _ ← p
  reject (fault_at word faults.AwaitForStmt)

-- the faults of what is declared before `in` and `of`
unfoldable pub misdeclared : Bool → Tree → Reader (Unit {0})
misdeclared refused left = told (head_faults refused left)

module _ (stmt : Reader Tree) (expr : Class → Reader Tree) where
  -- from behind the first part
  unfoldable pub for_parts : Span → Opening → Reader Tree
  for_parts start first = do
    init ← as_init first
    expect kind.Semi
    test ← head_part kind.Semi (expr expression)
    expect kind.Semi
    next ← head_part kind.RParen (expr expression)
    expect kind.RParen
    body ← within in_loop stmt
    span ← since start
    pure (tree.for span init test next body)

  unfoldable pub for_in : Span → Opening → Reader Tree
  for_in start first = do
    left ← as_left first
    λ s. misdeclared s.code.flags.strict left s
    skip
    right ← within with_in (expr expression)
    expect kind.RParen
    body ← within in_loop stmt
    span ← since start
    pure (tree.for_in span left right body)

  unfoldable pub for_of : (is_await : Bool) → Span → Opening → Reader Tree
  for_of is_await start first = do
    left ← as_left first
    misdeclared true left
    skip
    right ← within with_in (expr assignment)
    expect kind.RParen
    body ← within in_loop stmt
    span ← since start
    pure (tree.for_of span is_await left right body)

  unfoldable pub for_behind : Span → Option Span → Opening → Reader Tree
  for_behind start word first = λ s.
      if sees kind.In s.at then unless_awaited word (for_in start first) s
      else if word_at (codes "of") s.at then for_of (is_some word) start first s
      else unless_awaited word (for_parts start first) s

  unfoldable pub for_stmt : Reader Tree → Reader Cover → Reader Tree
  for_stmt pat head_cover = do
    start ← span_here
    skip
    word ← await_here
    expect kind.LParen
    first ← opening expr pat head_cover (is_some word)
    for_behind start word first

-- ---- `if`: a chain of `else if` is one level

-- an `if` up to its first statement
pub record Link : Type 0 where
  pub start : Span
  pub test : Tree
  pub cons : Tree

-- whether one more `if` of a chain stands behind a link
unfoldable pub goes_on : Place → Bool
goes_on c = sees kind.Else c && sees kind.If (after c)

-- an `if` up to what was read last, with what stands behind its `else`
abbrev pub closed_link : Link → Tree → Reader Tree
closed_link l alt = do
  span ← since l.start
  pure (tree.if_stmt span l.test l.cons alt)

-- a refusal in a condition says that it is one
unfoldable pub condition : Reader Tree → Reader Tree
condition expr = do
  expect kind.LParen
  e ← labelled (within with_in expr)
  expect kind.RParen
  pure e

-- what stands behind an `else`, if there is one
unfoldable pub alternative : Reader Tree → Reader Tree
alternative stmt = λ s. if sees kind.Else s.at then stmt (moved s) else Ok (tree.absent, s)

module _ (stmt : Reader Tree) (expr : Reader Tree) where
  unfoldable pub link_from : Span → Reader Link
  link_from start = do
    test ← condition expr
    cons ← stmt
    pure (record { start = start; test = test; cons = cons })

  unfoldable pub link : Reader Link
  link = do
    start ← span_here
    skip
    link_from start

  abbrev pub behind_link : Reader Tree → Link → Reader Tree
  behind_link rest l = λ s. if goes_on s.at then (rest >>= closed_link l) (moved s) else (alternative stmt >>= closed_link l) s

  -- so many links of a chain at most
  unfoldable pub links : ℕ → Reader Tree
  links zero = stuck
  links (suc n) = link >>= behind_link (links n)

  -- each link takes a token, so there are no more links than tokens
  unfoldable pub if_stmt : Reader Tree
  if_stmt = λ s. links (suc (length s.at.left)) s

-- ---- labels

-- a name and `:`
unfoldable pub begins_label : Code → Place → Bool
begins_label k c = name_at k.flags c && sees kind.Colon (after c)

-- the faults of a label behind what it stands at
unfoldable pub relabels : (label body : Tree) → Reader (Unit {0})
relabels label body = λ s. told (labelled_function s.code.flags.strict body ++ duplicates s.scope.labels label) s

module _ (stmt : Position → Reader Tree) where
  -- what a label stands at
  unfoldable pub labelled_body : Text → Reader Tree
  labelled_body text = λ s. within in_breakable (below_label text (stmt (labelled_item s.at))) s

  unfoldable pub labeled_stmt : Reader Tree
  labeled_stmt = do
    start ← span_here
    i ← reference faults.ExpectedIdent
    expect kind.Colon
    body ← labelled_body i.sym
    span ← since start
    relabels (tree.ident i.span i.sym) body
    pure (tree.labeled span (tree.ident i.span i.sym) body)

  -- a statement that its first token does not tell
  unfoldable pub other_stmt : Reader Tree → (Span → Tree → Reader Tree) → Position → Reader Tree
  other_stmt expr operators at = λ s. if begins_label s.code s.at then labeled_stmt s else expr_stmt_at expr operators at s

-- ---- `switch`

unfoldable pub begins_clause : Place → Bool
begins_clause c = sees kind.Case c || sees kind.Default c

-- a clause's statements end before the next clause, before `}` or at the end of the list
unfoldable pub closes_clause : Place → Bool
closes_clause c = begins_clause c || closes c

-- the clauses so far, and whether a `default` is one of them
pub record Clauses : Type 0 where
  pub found : List Tree
  pub has_default : Bool

module _ (stmt : Reader Tree) where
  -- a clause from its `:` on
  unfoldable pub clause_from : Span → Tree → Reader Tree
  clause_from start test = do
    expect kind.Colon
    body ← items stmt closes_clause false
    span ← since start
    pure (tree.case span test (listed body))

  -- a second `default` is refused behind its word
  unfoldable pub default_clause : Bool → Reader Tree
  default_clause has_default = do
    start ← span_here
    skip
    λ s. if has_default then refuse faults.MultipleDefault s else clause_from start tree.absent s

  module _ (expr : Reader Tree) where
    unfoldable pub case_clause : Reader Tree
    case_clause = do
      start ← span_here
      skip
      test ← within with_in expr
      clause_from start test

    unfoldable pub clause : Bool → Reader Tree
    clause has_default = λ s. if sees kind.Case s.at then case_clause s else default_clause has_default s

    unfoldable pub clauses_turn : Clauses → Reader (Step Clauses (List Tree))
    clauses_turn l = λ s. if begins_clause s.at then (do
      x ← clause l.has_default
      pure (More (record { found = l.found ++ x ∷ []; has_default = l.has_default || sees kind.Default s.at }))) s
        else Ok (Done l.found, s)

    unfoldable pub clauses : Reader (List Tree)
    clauses = loop clauses_turn (record { found = []; has_default = false })

    unfoldable pub switch_stmt : Reader Tree
    switch_stmt = do
      start ← here
      skip
      on ← head expr
      expect kind.LBrace
      found ← within in_breakable clauses
      expect kind.RBrace
      span ← spanned_from start
      pure (tree.switch span on (listed found))

-- ---- `try`

-- the empty span before what stands at a place; at the end of the list, behind what was read last
unfoldable pub begins_at : Place → Span
begins_at c = let span = span_at c in if sees kind.End c then end_of span else record { lo = span.lo; hi = span.lo }

-- what is tried has a catch or a finally behind it
unfoldable pub is_handled : Place → Bool
is_handled c = sees kind.Catch c || sees kind.Finally c

-- or a fault is recorded where they were looked for
unfoldable pub handled : Place → Reader (Unit {0})
handled behind = λ s. if is_handled behind then Ok (tt, s) else fault (fault_at (begins_at behind) faults.TS1005) s

module _ (pat : Reader Tree) where
  -- what a catch binds, in parentheses
  unfoldable pub bound : Reader Tree
  bound = do
    skip
    p ← within with_in pat
    expect kind.RParen
    pure p

  unfoldable pub parameter : Reader Tree
  parameter = λ s. if sees kind.LParen s.at then bound s else Ok (tree.absent, s)

module _ (stmt : Reader Tree) where
  unfoldable pub finalizer : Reader Tree
  finalizer = λ s. if sees kind.Finally s.at then braced stmt false (moved s) else Ok (tree.absent, s)

  module _ (pat : Reader Tree) where
    -- a catch, from behind its word
    unfoldable pub caught : Place → Reader Tree
    caught start = do
      p ← parameter pat
      body ← braced stmt false
      span ← spanned_from start
      pure (tree.catch span p body)

    unfoldable pub handler : Reader Tree
    handler = λ s. if sees kind.Catch s.at then caught s.at (moved s) else Ok (tree.absent, s)

    unfoldable pub try_stmt : Reader Tree
    try_stmt = do
      start ← here
      skip
      body ← braced stmt false
      behind ← here
      h ← handler
      f ← finalizer
      handled behind
      span ← spanned_from start
      pure (tree.try span body h f)

    -- A catch or a finally behind no `try` is a fault of its word. It is read and dropped, with a finally behind a catch.
    unfoldable pub stray : Reader Tree
    stray = do
      word ← span_here
      fault (fault_at word faults.TS1005)
      attempted handler
      attempted finalizer
      pure (tree.expr_stmt word (tree.invalid word))

-- ---- a function or a class as a part of an expression

module _ (stmt : Reader Tree) (params : Reader (List Tree)) where
  module _ (pat inner_class : Reader Tree) where
    unfoldable pub function_by : FunctionForm → Reader Tree
    function_by expression_form = function_expr stmt params
    function_by class_form = inner_class
    function_by (property_form getter_form start key) = getter stmt params start key
    function_by (property_form setter_form start key) = setter stmt params start key
    function_by (property_form (method_form is_async is_generator) start key) = plain_method stmt params is_async is_generator start key
    function_by parameter_form = pat
    function_by (block_form is_async) = arrow_block stmt params is_async

  -- where no declaration is read, its word is a fault
  unfoldable pub function_stmt : Position → Reader Tree
  function_stmt at = λ s. if at.include_decl then function_decl stmt params s else (fault (fault_at (span_at s.at) faults.DeclNotAllowed) >> function_decl stmt params) s

module _ (stmt : Position → Reader Tree) (expr : Class → Reader Tree) (pat : Reader Tree) (head_cover : Reader Cover) (params : Reader (List Tree))
    (member : Reader Tree) (operators : Span → Tree → Reader Tree) where
  -- `const`, where declarations are read
  unfoldable pub const_stmt : Position → Reader Tree
  const_stmt at = if at.include_decl then variables expr pat decl.Const else wanted faults.Unexpected

  -- `let` begins a declaration before what can be declared, where declarations are read; else it is a name
  unfoldable pub let_stmt : Position → Reader Tree
  let_stmt at = λ s. if at.include_decl && is_let_declaration s.at then variables expr pat decl.Let s else other_stmt stmt (expr expression) operators at s

  -- `using` begins a declaration before a name on its line, where declarations are read; else it is a name
  unfoldable pub using_or_other : Position → Reader Tree
  using_or_other at = λ s. if at.include_decl && is_using_declaration s.code s.at then using_stmt (declarators expr pat false decl.Var) s else other_stmt stmt (expr expression) operators at s

  -- an async function may stand in the place of any statement
  unfoldable pub async_or_other : Position → Reader Tree
  async_or_other at = λ s. if is_async_function s.at then function_decl (stmt nested_item) params s else using_or_other at s

  abbrev pub stmt_by : Position → TokenKind → Reader Tree
  stmt_by at kind.LBrace = block (stmt nested_item)
  stmt_by at kind.Semi = empty
  stmt_by at kind.Debugger = debugger
  stmt_by at kind.Var = variables expr pat decl.Var
  stmt_by at kind.Const = const_stmt at
  stmt_by at kind.Let = let_stmt at
  stmt_by at kind.If = if_stmt (stmt sub_statement) (expr expression)
  stmt_by at kind.Switch = switch_stmt (stmt nested_item) (expr expression)
  stmt_by at kind.Break = break_stmt
  stmt_by at kind.Continue = continue_stmt
  stmt_by at kind.Return = return_stmt (expr expression)
  stmt_by at kind.Throw = throw (expr expression)
  stmt_by at kind.Try = try_stmt (stmt nested_item) pat
  stmt_by at kind.Catch = stray (stmt nested_item) pat
  stmt_by at kind.Finally = stray (stmt nested_item) pat
  stmt_by at kind.With = with_stmt (stmt sub_statement) (expr expression)
  stmt_by at kind.While = while_stmt (stmt sub_statement) (expr expression)
  stmt_by at kind.Do = do_while (stmt sub_statement) (expr expression)
  stmt_by at kind.For = for_stmt (stmt sub_statement) expr pat head_cover
  stmt_by at kind.Function = function_stmt (stmt nested_item) params at
  stmt_by at kind.Class = class_stmt (expr left_side) member at
  stmt_by at kind.Ident = async_or_other at
  stmt_by at kind.Import = import_stmt_at (expr expression) operators
  stmt_by at kind.Export = import_stmt_at (expr expression) operators
  stmt_by at _ = other_stmt stmt (expr expression) operators at

  -- without decorators
  unfoldable pub stmt_level : Position → Reader Tree
  stmt_level at = λ s. stmt_by at (kind_at s.at) s

-- whether a part of what stands in so many levels can be read
abbrev pub nests : ℕ → Bool
nests zero = false
nests (suc n) = true

-- ---- in so many levels: the body of a function that is an expression stands at the level of the expressions in what it is part of

unfoldable mutual
  -- an expression of a class
  pub expr : ℕ → Class → Reader Tree
  expr zero class = too_deep
  expr (suc n) class = exprs.expr_level (expr n) (cover n) (function_by (stmt n nested_item) (parameter_list (expr n) (cover n) (pattern n) (element n)) (pattern n) (class_expr (expr n left_side) (member n))) class

  -- an assignment expression that may still become a pattern
  pub cover : ℕ → Reader Cover
  cover zero = too_deep
  cover (suc n) = exprs.cover_expr (expr n) (cover n) (function_by (stmt n nested_item) (parameter_list (expr n) (cover n) (pattern n) (element n)) (pattern n) (class_expr (expr n left_side) (member n)))

  -- what the head of a loop begins with
  pub head_cover : ℕ → Reader Cover
  head_cover zero = too_deep
  head_cover (suc n) = head_expr (expr n) (cover n) (function_by (stmt n nested_item) (parameter_list (expr n) (cover n) (pattern n) (element n)) (pattern n) (class_expr (expr n left_side) (member n)))

  -- a pattern without default
  pub pattern : ℕ → Reader Tree
  pattern zero = too_deep
  pattern (suc n) = pattern_level (expr n) (cover n) (pattern n) (element n)

  -- a pattern with its default, if one stands there
  pub element : ℕ → Reader Tree
  element zero = too_deep
  element (suc n) = element_level (expr n) (cover n) (pattern n) (element n)

  -- what stands behind the `@` of a decorator; an expression in parentheses stands at the level of what it is the whole of
  pub decorated_in : ℕ → Reader Tree
  decorated_in zero = too_deep
  decorated_in (suc n) = decorated (expr n) (cover n) (exprs.expr_level (expr n) (cover n) (function_by (stmt n nested_item) (parameter_list (expr n) (cover n) (pattern n) (element n)) (pattern n) (class_expr (expr n left_side) (member n))) expression)

  -- a member of a class
  pub member : ℕ → Reader Tree
  member zero = too_deep
  member (suc n) = member_level (expr n) (cover n) (stmt n nested_item) (parameter_list (expr n) (cover n) (pattern n) (element n)) (decorated_in n)

  -- the right operand of an operator behind an expression of that level: it stands one level further in
  pub right_operand : ℕ → Class → Reader Tree
  right_operand zero class = too_deep
  right_operand (suc n) class = expr n class

  -- a statement
  pub stmt : ℕ → Position → Reader Tree
  stmt zero at = too_deep
  stmt (suc n) at = either_stmt
      (await_using_or (declarators (expr n) (pattern n) false decl.Var) (nests n) (stmt_level (stmt n) (expr n) (pattern n) (head_cover n) (parameter_list (expr n) (cover n) (pattern n) (element n)) (member n) (exprs.binary_from (right_operand n) (cover n) 1)))
      (decorated_in n) at

-- what the head of a loop begins with, from behind `async`, where a name stands
unfoldable pub head_behind : ℕ → Span → Reader Cover
head_behind zero start = too_deep
head_behind (suc n) start = head_behind_async (expr n) (cover n) (function_by (stmt n nested_item) (parameter_list (expr n) (cover n) (pattern n) (element n)) (pattern n) (class_expr (expr n left_side) (member n))) start

-- the parameters of a function, each with its default, if one stands there
abbrev pub parameters : ℕ → Reader (List Tree)
parameters n = parameter_list (expr n) (cover n) (pattern n) (element n)

-- the operators behind the expression of a statement, with their operands
abbrev pub operators : ℕ → Span → Tree → Reader Tree
operators n = exprs.binary_from (right_operand n) (cover n) 1

-- a statement without decorators
abbrev pub plain_stmt : ℕ → Position → Reader Tree
plain_stmt n = await_using_or (declarators (expr n) (pattern n) false decl.Var) (nests n) (stmt_level (stmt n) (expr n) (pattern n) (head_cover n) (parameters n) (member n) (operators n))

-- a function as a part of an expression
unfoldable pub function : ℕ → FunctionForm → Reader Tree
function n = function_by (stmt n nested_item) (parameters n) (pattern n) (class_expr (expr n left_side) (member n))

-- an object alone, whatever stands behind it, as the attributes of an import are: ECMA-262, section 16.2.2
unfoldable pub object_alone : ℕ → Reader Tree
object_alone zero = too_deep
object_alone (suc n) = exprs.object_level (expr n) (cover n) (function n)

-- ---- the top level: a statement that begins with `await` makes a program a module

-- it is a fault in code that cannot be a module's
unfoldable pub top_await_fault : Reader (Unit {0})
top_await_fault = λ s. if s.code.flags.can_be_module then Ok (tt, s) else fault (fault_at (span_at s.at) faults.TopLevelAwaitInScript) s

unfoldable pub top_await : Position → Reader (Unit {0})
top_await at = λ s. if at.top_level && sees kind.Await s.at then (note_module_item >> top_await_fault) s else Ok (tt, s)

-- a statement that stands in no other
unfoldable pub whole_stmt : ℕ → Position → Reader Tree
whole_stmt n at = top_await at >> stmt n at

-- ---- a script

abbrev pub shebang_of : Token → Option Text
shebang_of (token.Shebang text) = Some text
shebang_of _ = None

abbrev pub shebang_in : List TokenAndSpan → Option Text
shebang_in [] = None
shebang_in (t ∷ ts) = shebang_of t.token

abbrev pub shebang_taken : Option Text → Reader (Option Text)
shebang_taken None = λ s. Ok (None, s)
shebang_taken (Some text) = λ s. Ok (Some text, moved s)

unfoldable pub shebang : Reader (Option Text)
shebang = λ s. shebang_taken (shebang_in s.at.left) s

unfoldable pub script_body : ℕ → Reader Tree
script_body n = do
  start ← here
  first ← shebang
  body ← items (whole_stmt n top_item) at_end true
  span ← whole_from start
  pure (tree.script span (listed body) first)

unfoldable pub script : ℕ → Reader Tree
script n = λ s. (do
  x ← script_body n
  λ t. Ok (x, flagged (script_code s.code) t)) (coded (script_code s.code) s)
