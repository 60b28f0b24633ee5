-- A statement takes a token at least.
-- Each family of statements has a file of its own, `Falls` and its name; here they are tied at all levels.
use Rattle.swc_ecma_parser_reader.proofs.Words.{async_begins}
use Rattle.swc_ecma_parser_grammar.specs.Parameters.{parameters}
use Rattle.swc_ecma_parser_reader.proofs.patterns.Falls as patterns
use Rattle.swc_ecma_parser_reader.specs.Members.{class_expr}
use Rattle.swc_ecma_parser_reader.proofs.classes.Falls as classes
use Rattle.swc_ecma_parser_reader.proofs.decorators.Falls.{decorated_falls}
use Rattle.swc_ecma_parser_reader.proofs.decorators.Taking.{either_falls}
use Rattle.swc_ecma_parser_reader.specs.State.{module_found, State, Reader, coded}
use Rattle.swc_ecma_parser_grammar.specs.language.Declarations.{is_using_declaration}
use Rattle.swc_ecma_parser_grammar.specs.language.Items.{sub_statement, nested_item, top_item}
use Rattle.swc_ecma_parser_reader.specs.Reader.{right_operand, async_or_other, const_stmt, let_stmt, function_by, expr, cover, head_cover, pattern, element, decorated_in, member, function, declarators, at_end, items, stmt_by, stmt_level, stmt, top_await_fault, top_await, whole_stmt, shebang_in, shebang_taken, shebang, script_body, script, using_or_other}
use Rattle.swc_ecma_parser_grammar.specs.language.Contexts.{script_code}
use Rattle.swc_ecma_parser_model.specs.declared.leaves.VarDeclKind.TheVariants as decl
use Rattle.std.proofs.Common.{◌≡◌, ◌≢◌, ℕ, zero, suc, true, false, List, length, Option, Some, None, inl, inr, refl, sym, ◌∙◌, arith}
use Rattle.std.specs.Prelude.{◌&&◌}
use Rattle.swc_ecma_parser_common.specs.declared.span.Span.{Span}
use Rattle.swc_ecma_parser_error.specs.Kind as faults
use Rattle.swc_ecma_parser_token.specs.declared.kind.TokenKind.{TokenKind}
use Rattle.swc_ecma_parser_token.specs.declared.kind.TokenKind.TheVariants as kind
use Rattle.swc_ecma_parser_model.specs.Tree.{Tree, Text}
use Rattle.swc_ecma_parser_grammar.specs.declared.position.Position.{Position}
use Rattle.swc_ecma_parser_grammar.specs.Looks.{kind_at, sees}
use Rattle.swc_ecma_parser_grammar.specs.Follows.{is_let_declaration, is_async_function}
use Rattle.swc_ecma_parser_grammar.specs.language.Goals.{Class, expression, left_side}
use Rattle.swc_ecma_parser_reader.specs.Expressions.{Cover}
use Rattle.swc_ecma_parser_reader.specs.Reader as reader
use Rattle.swc_ecma_parser_reader.proofs.Takes.{Falls, falls_choice, falls_then, falls_last, falls_coded, falls_if, less, moves, wanted_falls, too_deep_falls, fault_falls}
use Rattle.swc_ecma_parser_reader.proofs.Recovered.{Lossless}
use Rattle.swc_ecma_parser_reader.proofs.Keeps.{loses_nothing}
use Rattle.swc_ecma_parser_reader.proofs.Strays.{stray_falls}
use Rattle.swc_ecma_parser_reader.proofs.First.{first_falls}
use Rattle.swc_ecma_parser_reader.proofs.expressions.Falls as exprs
use Rattle.swc_ecma_parser_reader.proofs.expressions.Falls.{falls_when, FunctionsFall}
use Rattle.swc_ecma_parser_grammar.proofs.Using.{using_stands}
use Rattle.swc_ecma_parser_grammar.proofs.Tests.{and_yes}
use Rattle.swc_ecma_parser_reader.proofs.FallsDeclarations.{declarators_fall, variables_falls, using_falls}
use Rattle.swc_ecma_parser_reader.proofs.FallsBlocks.{items_fall, block_falls, braced_takes}
use Rattle.swc_ecma_parser_reader.proofs.FallsSimple.{empty_falls, debugger_falls, import_stmt_at_falls}
use Rattle.swc_ecma_parser_reader.proofs.FallsJumps.{throw_falls, break_falls, continue_falls, return_falls}
use Rattle.swc_ecma_parser_reader.proofs.FallsLoops.{while_falls, do_while_falls}
use Rattle.swc_ecma_parser_reader.proofs.FallsWith.{with_falls}
use Rattle.swc_ecma_parser_reader.proofs.FallsIf.{if_falls}
use Rattle.swc_ecma_parser_reader.proofs.FallsFor.{for_falls}
use Rattle.swc_ecma_parser_reader.proofs.FallsLabels.{other_falls}
use Rattle.swc_ecma_parser_reader.proofs.FallsSwitch.{switch_falls}
use Rattle.swc_ecma_parser_reader.proofs.FallsTry.{try_falls}
use Rattle.swc_ecma_parser_reader.proofs.FallsFunctions.{function_body_falls, function_falls, function_expr_falls, arrow_block_falls, method_falls, function_stmt_falls}

-- ---- each kind of token begins its statement

module _ (inner : Position → Reader Tree) (h : (at : Position) (s : State) → Falls 1 (length s.at.left) (inner at s))
    (inner_expr : Class → Reader Tree) (g : (class : Class) (s : State) → Falls 1 (length s.at.left) (inner_expr class s))
    (inner_pat : Reader Tree) (i : (s : State) → Falls 1 (length s.at.left) (inner_pat s)) (inner_cover : Reader Cover) (j : (s : State) → Falls 1 (length s.at.left) (inner_cover s))
    (inner_params : Reader (List Tree)) (l : (s : State) → Falls 0 (length s.at.left) (inner_params s))
    (inner_member : Reader Tree) (m : (s : State) → Falls 1 (length s.at.left) (inner_member s)) (inner_operators : Span → Tree → Reader Tree) (lossless : Lossless (inner nested_item) (inner_expr expression) inner_pat inner_operators) where
  const_falls : (at : Position) (s : State) → kind_at s.at ≢ kind.End → Falls 1 (length s.at.left) (const_stmt inner inner_expr inner_pat inner_cover inner_params inner_member inner_operators at s)
  unfolding const_stmt
  const_falls at s e = falls_choice 1 (length s.at.left) at.include_decl _ _ s (variables_falls inner_expr g inner_pat i lossless.exprs decl.Const s e) (wanted_falls Tree 1 (length s.at.left) faults.Unexpected s)

  let_falls : (at : Position) (s : State) → kind_at s.at ≢ kind.End → Falls 1 (length s.at.left) (let_stmt inner inner_expr inner_pat inner_cover inner_params inner_member inner_operators at s)
  unfolding let_stmt
  let_falls at s e = falls_if 1 (length s.at.left) (at.include_decl && is_let_declaration s.at) _ _ (variables_falls inner_expr g inner_pat i lossless.exprs decl.Let s e)
      (other_falls inner h (inner_expr expression) (g expression) inner_operators lossless.operations at s)

  using_or_other_falls : (at : Position) (s : State) → Falls 1 (length s.at.left) (using_or_other inner inner_expr inner_pat inner_cover inner_params inner_member inner_operators at s)
  unfolding using_or_other
  using_or_other_falls at s = falls_when 1 (length s.at.left) (at.include_decl && is_using_declaration s.code s.at) _ _
      (λ e. using_falls inner_expr g inner_pat i s (λ n. let o : kind.Ident ≡ kind.End = sym (using_stands s.code s.at (and_yes at.include_decl _ e).1) ∙ n in cc))
      (λ _. other_falls inner h (inner_expr expression) (g expression) inner_operators lossless.operations at s)

  async_or_other_falls : (at : Position) (s : State) → Falls 1 (length s.at.left) (async_or_other inner inner_expr inner_pat inner_cover inner_params inner_member inner_operators at s)
  unfolding async_or_other
  async_or_other_falls at s = falls_when 1 (length s.at.left) (is_async_function s.at) _ _ (λ e. function_falls (inner nested_item) (h nested_item) inner_params l s (async_begins s.at e))
      (λ _. using_or_other_falls at s)

  stmt_by_falls : (at : Position) (k : TokenKind) (s : State) → kind_at s.at ≡ k → Falls 1 (length s.at.left) (stmt_by inner inner_expr inner_pat inner_cover inner_params inner_member inner_operators at k s)
  stmt_by_falls at kind.LBrace s e = block_falls (inner nested_item) (h nested_item) s (λ h. cc)
  stmt_by_falls at kind.Semi s e = empty_falls s (λ h. cc)
  stmt_by_falls at kind.Debugger s e = debugger_falls s (λ h. cc)
  stmt_by_falls at kind.Var s e = variables_falls inner_expr g inner_pat i lossless.exprs decl.Var s (λ h. cc)
  stmt_by_falls at kind.Const s e = const_falls at s (λ h. cc)
  stmt_by_falls at kind.Let s e = let_falls at s (λ h. cc)
  stmt_by_falls at kind.If s e = if_falls (inner sub_statement) (h sub_statement) (inner_expr expression) (g expression) s (λ h. cc)
  stmt_by_falls at kind.Switch s e = switch_falls (inner nested_item) (h nested_item) (inner_expr expression) (g expression) s (λ h. cc)
  stmt_by_falls at kind.Break s e = break_falls s (λ h. cc)
  stmt_by_falls at kind.Continue s e = continue_falls s (λ h. cc)
  stmt_by_falls at kind.Return s e = return_falls (inner_expr expression) (g expression) s (λ h. cc)
  stmt_by_falls at kind.Throw s e = throw_falls (inner_expr expression) (g expression) s (λ h. cc)
  stmt_by_falls at kind.Try s e = try_falls (inner nested_item) (h nested_item) inner_pat i s (λ h. cc)
  stmt_by_falls at kind.Catch s e = stray_falls (inner nested_item) lossless.stmts inner_pat lossless.pats s (inl e)
  stmt_by_falls at kind.Finally s e = stray_falls (inner nested_item) lossless.stmts inner_pat lossless.pats s (inr e)
  stmt_by_falls at kind.With s e = with_falls (inner sub_statement) (h sub_statement) (inner_expr expression) (g expression) s (λ h. cc)
  stmt_by_falls at kind.While s e = while_falls (inner sub_statement) (h sub_statement) (inner_expr expression) (g expression) s (λ h. cc)
  stmt_by_falls at kind.Do s e = do_while_falls (inner sub_statement) (h sub_statement) (inner_expr expression) (g expression) s (λ h. cc)
  stmt_by_falls at kind.For s e = for_falls (inner sub_statement) (h sub_statement) inner_expr g inner_pat i inner_cover j s (λ h. cc)
  stmt_by_falls at kind.Function s e = function_stmt_falls (inner nested_item) (h nested_item) inner_params l at s e
  stmt_by_falls at kind.Class s e = classes.class_stmt_falls (inner_expr left_side) (g left_side) inner_member m at s e
  stmt_by_falls at kind.Ident s e = async_or_other_falls at s
  stmt_by_falls at kind.Import s e = import_stmt_at_falls (inner_expr expression) (g expression) inner_operators lossless.operations s
  stmt_by_falls at kind.Export s e = import_stmt_at_falls (inner_expr expression) (g expression) inner_operators lossless.operations s
  stmt_by_falls at _ s e = other_falls inner h (inner_expr expression) (g expression) inner_operators lossless.operations at s

  pub stmt_level_falls : (at : Position) (s : State) → Falls 1 (length s.at.left) (stmt_level inner inner_expr inner_pat inner_cover inner_params inner_member inner_operators at s)
  unfolding stmt_level
  stmt_level_falls at s = stmt_by_falls at (kind_at s.at) s refl

-- ---- a script

shebang_taken_falls : (s : State) (o : Option Text) → Falls 0 (length s.at.left) (shebang_taken o s)
shebang_taken_falls s None = omega arith
shebang_taken_falls s (Some text) = let m = moves s.at in omega arith

pub shebang_falls : (s : State) → Falls 0 (length s.at.left) (shebang s)
unfolding shebang
shebang_falls s = shebang_taken_falls s (shebang_in s.at.left)

-- ---- all levels

-- in so many levels
record Taken (n : ℕ) : Type 0 where
  exprs : (class : Class) (s : State) → Falls 1 (length s.at.left) (expr n class s)
  covers : (s : State) → Falls 1 (length s.at.left) (cover n s)
  heads : (s : State) → Falls 1 (length s.at.left) (head_cover n s)
  patterns : (s : State) → Falls 1 (length s.at.left) (pattern n s)
  elements : (s : State) → Falls 1 (length s.at.left) (element n s)
  decorateds : (s : State) → Falls 1 (length s.at.left) (decorated_in n s)
  members : (s : State) → Falls 1 (length s.at.left) (member n s)
  stmts : (at : Position) (s : State) → Falls 1 (length s.at.left) (stmt n at s)

module _ (n : ℕ) (b : Taken n) where
  parameters_taken : (s : State) → Falls 0 (length s.at.left) (reader.parameters n s)
  parameters_taken s = less (length s.at.left) (reader.parameters n s)
      (patterns.parameter_list_falls (expr n) b.exprs (cover n) b.covers (pattern n) b.patterns (element n) b.elements s)

  function_taken : FunctionsFall (function n)
  unfolding function function_by
  function_taken = record {
    expressions = function_expr_falls (stmt n nested_item) (b.stmts nested_item) (reader.parameters n) parameters_taken;
    classes = classes.class_expr_falls (expr n left_side) (b.exprs left_side) (member n) b.members;
    methods = method_falls (stmt n nested_item) (b.stmts nested_item) (reader.parameters n) parameters_taken (pattern n) (class_expr (expr n left_side) (member n));
    parameters = b.patterns;
    blocks = arrow_block_falls (stmt n nested_item) (b.stmts nested_item) (reader.parameters n) parameters_taken;
  }

  exprs_taken : (class : Class) (s : State) → Falls 1 (length s.at.left) (expr (suc n) class s)
  unfolding function expr
  exprs_taken = exprs.level_falls (expr n) (cover n) b.exprs b.covers (function n) function_taken

all_taken : (n : ℕ) → Taken n
unfolding function expr cover head_cover pattern element decorated_in member stmt
all_taken zero = record {
  exprs = λ class s. too_deep_falls Tree 1 (length s.at.left) s;
  covers = λ s. too_deep_falls Cover 1 (length s.at.left) s;
  heads = λ s. too_deep_falls Cover 1 (length s.at.left) s;
  patterns = λ s. too_deep_falls Tree 1 (length s.at.left) s;
  elements = λ s. too_deep_falls Tree 1 (length s.at.left) s;
  decorateds = λ s. too_deep_falls Tree 1 (length s.at.left) s;
  members = λ s. too_deep_falls Tree 1 (length s.at.left) s;
  stmts = λ at s. too_deep_falls Tree 1 (length s.at.left) s;
}
all_taken (suc n) = let b = all_taken n in record {
  exprs = exprs_taken n b;
  covers = exprs.cover_expr_falls (expr n) (cover n) b.exprs b.covers (function n) (function_taken n b);
  heads = exprs.head_expr_falls (expr n) (cover n) b.exprs b.covers (function n) (function_taken n b);
  patterns = patterns.pattern_level_falls (expr n) b.exprs (cover n) b.covers (pattern n) b.patterns (element n) b.elements;
  elements = patterns.element_level_falls (expr n) b.exprs (cover n) b.covers (pattern n) b.patterns (element n) b.elements;
  decorateds = decorated_falls (expr n) b.exprs (cover n) b.covers (expr (suc n) expression) (exprs_taken n b expression);
  members = classes.member_level_falls (expr n) b.exprs (cover n) b.covers (stmt n nested_item) (reader.parameters n) (parameters_taken n b)
      (function_body_falls (stmt n nested_item) (b.stmts nested_item) (reader.parameters n) (parameters_taken n b)) (braced_takes (stmt n nested_item) (b.stmts nested_item) false)
      (decorated_in n) b.decorateds;
  stmts = λ at. either_falls (reader.plain_stmt n) at
      (λ s. first_falls (declarators (expr n) (pattern n) false decl.Var) (reader.nests n) (stmt_level (stmt n) (expr n) (pattern n) (head_cover n) (reader.parameters n) (member n) (reader.operators n)) at
      (declarators_fall (expr n) b.exprs (pattern n) b.patterns false decl.Var) s
      (stmt_level_falls (stmt n) b.stmts (expr n) b.exprs (pattern n) b.patterns (head_cover n) b.heads (reader.parameters n) (parameters_taken n b) (member n) b.members (reader.operators n) (loses_nothing n) at s)) (decorated_in n) b.decorateds;
}

-- an expression of any class takes a token, and so does what may still become a pattern
pub expr_falls : (n : ℕ) (class : Class) (s : State) → Falls 1 (length s.at.left) (expr n class s)
expr_falls n = (all_taken n).exprs

pub right_operand_falls : (n : ℕ) (class : Class) (s : State) → Falls 1 (length s.at.left) (right_operand n class s)
unfolding right_operand
right_operand_falls zero class s = too_deep_falls Tree 1 (length s.at.left) s
right_operand_falls (suc n) class s = expr_falls n class s

pub cover_falls : (n : ℕ) (s : State) → Falls 1 (length s.at.left) (cover n s)
cover_falls n = (all_taken n).covers

-- what the head of a loop begins with
pub head_cover_falls : (n : ℕ) (s : State) → Falls 1 (length s.at.left) (head_cover n s)
head_cover_falls n = (all_taken n).heads

-- a pattern, without its default and with it
pub pattern_falls : (n : ℕ) (s : State) → Falls 1 (length s.at.left) (pattern n s)
pattern_falls n = (all_taken n).patterns

pub element_falls : (n : ℕ) (s : State) → Falls 1 (length s.at.left) (element n s)
element_falls n = (all_taken n).elements

-- the parameters of a function, and one that is a part of an expression
pub parameters_fall : (n : ℕ) (s : State) → Falls 0 (length s.at.left) (reader.parameters n s)
parameters_fall n = parameters_taken n (all_taken n)

pub functions_fall : (n : ℕ) → FunctionsFall (function n)
functions_fall n = function_taken n (all_taken n)

-- what stands behind the `@` of a decorator
pub decorated_in_falls : (n : ℕ) (s : State) → Falls 1 (length s.at.left) (decorated_in n s)
decorated_in_falls n = (all_taken n).decorateds

-- a member of a class
pub member_falls : (n : ℕ) (s : State) → Falls 1 (length s.at.left) (member n s)
member_falls n = (all_taken n).members

-- a statement
pub stmt_falls : (n : ℕ) (at : Position) (s : State) → Falls 1 (length s.at.left) (stmt n at s)
stmt_falls n = (all_taken n).stmts

-- ---- a statement that stands in no other

top_await_fault_falls : (s : State) → Falls 0 (length s.at.left) (top_await_fault s)
unfolding top_await_fault
top_await_fault_falls s = falls_if 0 (length s.at.left) s.code.flags.can_be_module _ _ (omega arith) (fault_falls _ s)

top_await_falls : (at : Position) (s : State) → Falls 0 (length s.at.left) (top_await at s)
unfolding top_await
top_await_falls at s = falls_if 0 (length s.at.left) (at.top_level && sees kind.Await s.at) _ _ (top_await_fault_falls (module_found s)) (omega arith)

pub whole_stmt_falls : (n : ℕ) (at : Position) (s : State) → Falls 1 (length s.at.left) (whole_stmt n at s)
unfolding whole_stmt
whole_stmt_falls n at s = falls_then 0 1 (length s.at.left) (top_await at s) _ (top_await_falls at s) (λ a t. stmt_falls n at t)

-- ---- a whole script

script_body_falls : (n : ℕ) (s : State) → Falls 0 (length s.at.left) (script_body n s)
unfolding script_body
script_body_falls n s = falls_then 0 0 (length s.at.left) (shebang s) _ (shebang_falls s) (λ first t.
    falls_last 0 (length t.at.left) (items (whole_stmt n top_item) at_end true t) _ (items_fall (whole_stmt n top_item) (whole_stmt_falls n top_item) at_end true t))

pub script_falls : (n : ℕ) (s : State) → Falls 0 (length s.at.left) (script n s)
unfolding script
script_falls n s = falls_coded 0 (length s.at.left) (script_body n (coded (script_code s.code) s)) _ _ (script_body_falls n (coded (script_code s.code) s))
