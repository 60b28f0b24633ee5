-- Whatever is read takes at least one token: statements, imports, exports, and the goals of every level.
use Rattle.std.proofs.Common.{◌≡◌, zero, suc, ◌+◌, ◌<◌, Bool, true, false, List, ◌∷◌, ◌++◌, length, length-append, ap, refl, subst, arith}
use Rattle.swc_ecma_parser_input.specs.Place.{Place, after}
use Rattle.swc_ecma_parser_model.specs.declared.leaves.VarDeclKind.{VarDeclKind}
use Rattle.swc_ecma_parser_model.specs.declared.leaves.ImportPhase.{ImportPhase}
use Rattle.swc_ecma_parser_model.specs.Tree.{Tree}
use Rattle.swc_ecma_parser_grammar.specs.declared.position.Position.{Position}
use Rattle.swc_ecma_parser_grammar.specs.Names.{Code}
use Rattle.swc_ecma_parser_grammar.specs.Follows.{AwaitWord}
use Rattle.swc_ecma_parser_grammar.specs.Follows as follows
use Rattle.swc_ecma_parser_grammar.specs.language.Goals.{Goal, expr_goal, callee_goal, pattern_goal, element_goal, stmt_goal, member_goal, decorator_goal, using_goal, attributes_goal, item_goal}
use Rattle.swc_ecma_parser_grammar.specs.language.Contexts.{in_breakable, with_in, head_code}
use Rattle.swc_ecma_parser_grammar.specs.language.Items.{nested_item}
use Rattle.swc_ecma_parser_grammar.specs.language.Declarations as declarations
use Rattle.swc_ecma_parser_grammar.specs.language.Declarations.{DeclaratorRule, VariablesRule, UsingDeclaratorRule, UsingRule}
use Rattle.swc_ecma_parser_grammar.specs.language.ForHeads as heads
use Rattle.swc_ecma_parser_grammar.specs.language.ForHeads.{HeadVariablesRule, InitRule, PartRule, LeftRule, UsingNameRule, UsingHeadRule, OfLeftRule}
use Rattle.swc_ecma_parser_grammar.specs.language.Statements as statements
use Rattle.swc_ecma_parser_grammar.specs.language.Statements.{HeadRule, ReturnedRule, TargetRule, IfRule, ElseRule, CaseRule, CatchRule, FinallyRule, FormRule}
use Rattle.swc_ecma_parser_grammar.specs.language.ModuleParts as module_parts
use Rattle.swc_ecma_parser_grammar.specs.language.ModuleParts.{BracedRule, StringRule, FromRule, ModuleNameRule, AttributesRule}
use Rattle.swc_ecma_parser_grammar.specs.language.Imports as imports
use Rattle.swc_ecma_parser_grammar.specs.language.Imports.{ImportSpecifierRule, BindingsRule, MoreBindingsRule, ImportClauseRule, PhaseRule, ImportRule}
use Rattle.swc_ecma_parser_grammar.specs.language.Exports as exports
use Rattle.swc_ecma_parser_grammar.specs.language.Exports.{ExportSpecifierRule, NamespaceExportRule, DefaultExportRule, NamesRule, ExportClauseRule, ExportWords, ExportFrontRule, ExportedRule, DefaultRule, ExportRule}
use Rattle.swc_ecma_parser_grammar.specs.language.ModuleItems as module_items
use Rattle.swc_ecma_parser_grammar.specs.language.ModuleItems.{ItemRule}
use Rattle.swc_ecma_parser_grammar.specs.language.Reads.{Reads}
use Rattle.swc_ecma_parser_grammar.specs.language.Laws.{Advances, begin, end, Progress, Shortens}
use Rattle.swc_ecma_parser_grammar.proofs.language.progress.Steps.{Onward, stays, goes, ◌▸▸◌, ◌▸▹◌, ◌▹▸◌, ◌▹▹◌, token, token_to, any_token, any_token_to, one, ends, optional_ends}
use Rattle.swc_ecma_parser_grammar.proofs.language.progress.Expressions as p
use Rattle.swc_ecma_parser_grammar.proofs.language.progress.Expressions.{each, listed, separated, name, word}

-- ---- words

pub await_word : {is_await : Bool} {c d : Place} → AwaitWord is_await c d → Onward c d
await_word (follows.no_await a e) = stays e
await_word (follows.await_word a h e) = any_token_to e

pub target : {k : Code} {x : Tree} {c d : Place} → TargetRule k x c d → Onward c d
target (statements.no_target_rule a e b) = stays e
target (statements.target_rule text s a r b) = goes (name r)

-- ---- the parts of imports and exports

pub string : {x : Tree} {c d : Place} → StringRule x c d → Advances c d
string r = one r.reads

pub from : (x : Tree) (c d : Place) → FromRule x c d → Advances c d
from x c d r = any_token ▹▸ string r.1

pub module_name : {x : Tree} {c d : Place} → ModuleNameRule x c d → Advances c d
module_name (module_parts.word_name_rule text s r a) = word r
module_name (module_parts.string_name_rule r) = string r

pub braced : (Specifier : Tree → Place → Place → Type 0) (go : (x : Tree) (c d : Place) → Specifier x c d → Advances c d) {xs : List Tree} {c d : Place} → BracedRule Specifier xs c d → Advances c d
braced Specifier go {xs} {c} r = token r.opens refl ▸▹ listed Specifier go true xs (after c) r.close r.reads_specifiers ▹▹ any_token_to r.next

pub import_specifier : {k : Code} {x : Tree} {c d : Place} → ImportSpecifierRule k x c d → Advances c d
import_specifier (imports.named_rule text s r a b) = name r
import_specifier (imports.renamed_rule y text s m r a q b) = module_name r ▸▹ any_token ▹▹ goes (name q)

pub bindings : {k : Code} {xs : List Tree} {c d : Place} → BindingsRule k xs c d → Advances c d
bindings (imports.namespace_rule text s h a r b) = any_token ▹▸ any_token ▹▸ name r
bindings {k} (imports.named_bindings_rule r) = braced (ImportSpecifierRule k) (λ x m n q. import_specifier q) r

pub more_bindings : {k : Code} {xs : List Tree} {c d : Place} → MoreBindingsRule k xs c d → Onward c d
more_bindings (imports.no_more_rule e a) = stays e
more_bindings (imports.comma_rule h e a) = any_token_to e
more_bindings (imports.more_rule h r) = any_token ▹▹ goes (bindings r)

pub import_clause : {k : Code} {xs : List Tree} {c d : Place} → ImportClauseRule k xs c d → Advances c d
import_clause (imports.bindings_rule r) = bindings r
import_clause (imports.default_binding_rule text s ys m r q a) = name r ▸▹ more_bindings q

pub phase : {k : Code} {p : ImportPhase} {c d : Place} → PhaseRule k p c d → Onward c d
phase (imports.source_rule a e b) = any_token_to e
phase (imports.defer_rule a e b) = any_token_to e
phase (imports.evaluation_rule a e b) = stays e

pub export_specifier : {x : Tree} {c d : Place} → ExportSpecifierRule x c d → Advances c d
export_specifier (exports.same_name_rule y r a b) = module_name r
export_specifier (exports.other_name_rule y z m r a q b) = module_name r ▸▹ any_token ▹▹ goes (module_name q)

pub namespace_export : {start : Place} {x : Tree} {c d : Place} → NamespaceExportRule start x c d → Advances c d
namespace_export r = any_token ▹▸ any_token ▹▸ module_name r.reads_name

pub default_export : {k : Code} {x : Tree} {c d : Place} → DefaultExportRule k x c d → Advances c d
default_export (exports.under_name_rule text s r a) = name r
default_export (exports.as_default_rule s h r a) = word r

pub names : {k : Code} {start : Place} {in_braces : Bool} {xs : List Tree} {c d : Place} → NamesRule k start in_braces xs c d → Advances c d
names (exports.braces_rule a r) = braced ExportSpecifierRule (λ x m n q. export_specifier q) r
names (exports.namespace_rule y a r b) = namespace_export r
names (exports.namespace_and_braces_rule y ys m a b r h q e) = namespace_export r ▸▹ any_token ▹▹ goes (braced ExportSpecifierRule (λ x m n q. export_specifier q) q)

pub export_clause : {k : Code} {in_braces : Bool} {xs : List Tree} {c d : Place} → ExportClauseRule k in_braces xs c d → Advances c d
export_clause (exports.names_rule r) = names r
export_clause (exports.default_alone_rule y a b r e) = default_export r
export_clause (exports.default_and_names_rule y ys m a r h q e) = default_export r ▸▹ any_token ▹▹ goes (names q)

pub export_words : {is_default : Bool} {c d : Place} → ExportWords is_default c d → Advances c d
export_words (exports.export_word a h e) = token_to h refl e
export_words (exports.export_default_words a h b e) = token h refl ▸▹ any_token_to e

module _ (In : Goal → Type 0) (go : (g : Goal) → In g → Advances (begin g) (end g)) where
  inner : {g : Goal} → In g → Advances (begin g) (end g)
  inner {g} r = go g r

  -- ---- declarations

  pub declarator : {k : Code} {loop : Bool} {w : VarDeclKind} {x : Tree} {c d : Place} → DeclaratorRule In k loop w x c d → Advances c d
  declarator (declarations.plain_rule n r a b e) = inner r
  declarator (declarations.initialized_rule n v m r h q e) = inner r ▸▹ any_token ▹▹ goes (inner q)

  pub variables : (k : Code) (loop : Bool) (w : VarDeclKind) (xs : List Tree) (c d : Place) → VariablesRule In k loop w xs c d → Advances c d
  variables k loop w xs c d r = any_token ▹▸ separated (DeclaratorRule In k loop w) (λ x i j q. declarator q) xs (after c) d r.1

  pub using_declarator : {k : Code} {x : Tree} {c d : Place} → UsingDeclaratorRule In k x c d → Advances c d
  using_declarator r = inner r.reads_name ▸▹ any_token ▹▹ goes (inner r.reads_init)

  pub using : {k : Code} {at : Position} {x : Tree} {c d : Place} → UsingRule In k at x c d → Advances c d
  using {k} r = await_word r.reads_await ▹▸ any_token ▹▸ separated (UsingDeclaratorRule In k) (λ x i j q. using_declarator q) r.declarators (after r.word) r.behind r.reads ▸▹ ends r.ends

  -- ---- for heads

  pub head_variables : {k : Code} {x : Tree} {c d : Place} → HeadVariablesRule In k x c d → Advances c d
  head_variables {k} {c = c} {d = d} r = variables (head_code r.word k) true r.word r.declarators c d r.reads

  pub init : {k : Code} {x : Tree} {c d : Place} → InitRule In k x c d → Onward c d
  init (heads.no_init_rule a e b) = stays e
  init (heads.init_variables_rule r) = goes (head_variables r)
  init (heads.init_expression_rule a r) = goes (inner r)

  pub part : {k : Code} {x : Tree} {c d : Place} → PartRule In k x c d → Onward c d
  part (heads.no_part_rule e a) = stays e
  part (heads.part_rule r) = goes (inner r)

  pub left : {k : Code} {x : Tree} {c d : Place} → LeftRule In k x c d → Advances c d
  left (heads.declared_rule r) = head_variables r
  left (heads.target_rule a r) = inner r

  pub using_name : {k : Code} {x : Tree} {c d : Place} → UsingNameRule In k x c d → Advances c d
  using_name r = any_token ▹▸ inner r.reads_name

  pub using_head : {k : Code} {x : Tree} {c d : Place} → UsingHeadRule In k x c d → Advances c d
  using_head (heads.using_head_rule y r a) = using_name r
  using_head (heads.await_using_head_rule y h a l r b) = any_token ▹▸ inner r

  pub of_left : {k : Code} {is_await : Bool} {x : Tree} {c d : Place} → OfLeftRule In k is_await x c d → Advances c d
  of_left (heads.of_left_rule r a) = left r
  of_left (heads.of_using_rule a r) = using_head r

  -- ---- statements

  pub head : {k : Code} {x : Tree} {c d : Place} → HeadRule In k x c d → Advances c d
  head r = any_token ▹▸ inner r.reads ▸▹ any_token_to r.next

  pub operand : {k : Code} {x : Tree} {c d : Place} → ReturnedRule In k x c d → Onward c d
  operand (statements.no_operand_rule a e b) = stays e
  operand (statements.operand_rule a r) = goes (inner r)

  mutual
    pub if_chain : {k : Code} {x : Tree} {c d : Place} → IfRule In k x c d → Advances c d
    if_chain (statements.if_rule t y z m n h r q o a) = any_token ▹▸ head r ▸▸ inner q ▸▹ else_part o

    pub else_part : {k : Code} {x : Tree} {c d : Place} → ElseRule In k x c d → Onward c d
    else_part (statements.no_else_rule a e b) = stays e
    else_part (statements.else_rule h a r) = any_token ▹▹ goes (inner r)
    else_part (statements.else_if_rule h r) = any_token ▹▹ goes (if_chain r)

  pub case : {k : Code} {x : Tree} {c d : Place} → CaseRule In k x c d → Advances c d
  case {k} {d = d} (statements.case_clause_rule t xs m h r g q a) = any_token ▹▸ inner r ▸▹ any_token ▹▹ p.items In go k false nested_item xs (after m) d q
  case {k} {c = c} {d = d} (statements.default_clause_rule xs h g q a) = token h refl ▸▹ any_token ▹▹ p.items In go k false nested_item xs (after (after c)) d q

  pub catch : {k : Code} {x : Tree} {c d : Place} → CatchRule In k x c d → Onward c d
  catch (statements.no_catch_rule a e b) = stays e
  catch (statements.catch_rule body h r a) = any_token ▹▹ goes (p.block In go r)
  catch (statements.catch_parameter_rule y body m h g r i q a) = any_token ▹▹ any_token ▹▹ goes (inner r) ▹▹ any_token ▹▹ goes (p.block In go q)

  pub finally : {k : Code} {x : Tree} {c d : Place} → FinallyRule In k x c d → Onward c d
  finally (statements.no_finally_rule a e b) = stays e
  finally (statements.finally_rule h r) = any_token ▹▹ goes (p.block In go r)

  pub form : {k : Code} {at : Position} {x : Tree} {c d : Place} → FormRule In k at x c d → Advances c d
  form (statements.class_rule ds n y m a r q b e) = p.decorators In go r ▹▸ p.class In go q
  form (statements.function_rule ds n y m r a q b e) = p.decorators In go r ▹▸ p.function In go q
  form {k} {c = c} (statements.variables_rule w xs m a r q e) = variables (with_in k) false w xs c m r ▸▹ ends q
  form (statements.using_rule r) = using r
  form (statements.block_rule r) = p.block In go r
  form (statements.empty_rule h e a) = token_to h refl e
  form (statements.debugger_rule h q a) = token h refl ▸▹ ends q
  form (statements.with_rule e y m h r q a) = any_token ▹▸ head r ▸▸ inner q
  form (statements.return_rule e m h r q a) = token h refl ▸▹ operand r ▹▹ ends q
  form (statements.labeled_rule text s y m r h q a) = name r ▸▹ any_token ▹▹ goes (inner q)
  form (statements.break_rule l m h r q a) = token h refl ▸▹ target r ▹▹ ends q
  form (statements.continue_rule l m h r q a) = token h refl ▸▹ target r ▹▹ ends q
  form (statements.if_statement_rule r) = if_chain r
  form {k} (statements.switch_rule e xs m n h r g q a i f b) =
      any_token ▹▸ head r ▸▹ any_token ▹▹ each (CaseRule In (in_breakable k)) (λ x o j q. case q) xs (after m) n q ▹▹ any_token_to f
  form (statements.throw_rule e m h a r q b) = any_token ▹▸ inner r ▸▹ ends q
  form (statements.try_rule body y z m n h r q o a b) = any_token ▹▸ p.block In go r ▸▹ catch q ▹▹ finally o
  form (statements.while_rule e y m h r q a) = any_token ▹▸ head r ▸▸ inner q
  form (statements.do_while_rule e y m n h r g q o a) = any_token ▹▸ inner r ▸▹ any_token ▹▹ goes (head q) ▹▹ optional_ends o
  form (statements.for_rule i t u y l m n h g r j q o s v w a) =
      any_token ▹▸ any_token ▹▸ init r ▹▸ any_token ▹▸ part q ▹▸ any_token ▹▸ part s ▹▸ any_token ▹▸ inner w
  form (statements.for_in_rule y z w m n h g r i q j s a) = any_token ▹▸ any_token ▹▸ left r ▸▹ any_token ▹▹ goes (inner q) ▹▹ any_token ▹▹ goes (inner s)
  form (statements.for_of_rule is_await y z w l m n h v g r i q j s a) =
      any_token ▹▸ await_word v ▹▸ any_token ▹▸ of_left r ▸▹ any_token ▹▹ goes (inner q) ▹▹ any_token ▹▹ goes (inner s)
  form (statements.expr_rule e m a r b q f) = inner r ▸▹ ends q
  form (statements.import_expr_rule e m a r q f) = inner r ▸▹ ends q

  -- ---- imports and exports

  pub attributes : {k : Code} {x : Tree} {c d : Place} → AttributesRule In k x c d → Onward c d
  attributes (module_parts.no_attributes_rule a e b) = stays e
  attributes (module_parts.attributes_rule a r) = any_token ▹▹ goes (inner r)

  pub import : {k : Code} {x : Tree} {c d : Place} → ImportRule In k x c d → Advances c d
  import (imports.bare_import_rule s y m n h r q o a) = any_token ▹▸ string r ▸▹ attributes q ▹▹ ends o
  import (imports.import_rule f xs s y i l m n h r q o v w a) = any_token ▹▸ phase r ▹▸ import_clause q ▸▸ from s l m o ▸▹ attributes v ▹▹ ends w

  pub export_front : {k : Code} {is_default : Bool} {ds : Tree} {c m d : Place} → ExportFrontRule In k is_default ds c m d → Advances c d
  export_front (exports.decorated_before a r b q) = p.decorators In go r ▹▸ export_words q
  export_front {c = c} (exports.decorated_behind n e q r) = subst (λ i. Advances i n) e (export_words q) ▸▹ p.decorators In go r

  pub exported : {k : Code} {ds x : Tree} {c d : Place} → ExportedRule In k ds x c d → Advances c d
  exported (exports.exported_class n y r a b) = p.class In go r
  exported (exports.exported_function n y r a b) = p.function In go r
  exported {k} {c = c} (exports.exported_variables w xs m a r q b) = variables (with_in k) false w xs c m r ▸▹ ends q

  pub default : {k : Code} {ds x : Tree} {c d : Place} → DefaultRule In k ds x c d → Advances c d
  default (exports.default_class n y r a) = p.class In go r
  default (exports.default_function n y r a) = p.function In go r

  pub export : {k : Code} {x : Tree} {c d : Place} → ExportRule In k x c d → Advances c d
  export (exports.export_declaration_rule ds y m n r q a) = export_front r ▸▸ exported q
  export (exports.export_from_rule b xs s y l m n h r q o f a) = any_token ▹▸ export_clause r ▸▸ from s l m q ▸▹ attributes o ▹▹ ends f
  export (exports.export_names_rule xs m h r a q b) = any_token ▹▸ export_clause r ▸▹ ends q
  export (exports.export_default_declaration_rule ds y m n r q a) = export_front r ▸▸ default q
  export (exports.export_default_expression_rule e m h g a r q b) = any_token ▹▸ any_token ▹▸ inner r ▸▹ ends q
  export {c = c} (exports.export_all_rule s y m n h g r q o a) = any_token ▹▸ any_token ▹▸ from s (after (after c)) m r ▸▹ attributes q ▹▹ ends o

  pub item : {k : Code} {x : Tree} {c d : Place} → ItemRule In k x c d → Advances c d
  item (module_items.statement_rule r) = form r.1
  item (module_items.import_item_rule r) = import r
  item (module_items.export_item_rule r) = export r

-- ---- every goal

pub progress : Progress
progress zero g r = absurd r
progress (suc n) (expr_goal class k x c d) r = p.expr_rule (Reads n) (progress n) class k x c d r
progress (suc n) (callee_goal k x c d) r = p.left_side_rule (Reads n) (progress n) r.0
progress (suc n) (pattern_goal q k x c d) r = p.pattern_rule (Reads n) (progress n) r
progress (suc n) (element_goal q k x c d) r = p.pattern_element (Reads n) (progress n) r
progress (suc n) (stmt_goal k at x c d) r = form (Reads n) (progress n) r.1
progress (suc n) (member_goal k x c d) r = p.member (Reads n) (progress n) r
progress (suc n) (decorator_goal k x c d) r = p.decorated (Reads n) (progress n) r
progress (suc n) (using_goal k x c d) r = using_name (Reads n) (progress n) r
progress (suc n) (attributes_goal k x c d) r = p.primary (Reads n) (progress n) r.0
progress (suc n) (item_goal k x c d) r = item (Reads n) (progress n) r

-- a place behind another has fewer tokens left
pub fewer : {c d : Place} → Advances c d → length d.left < length c.left
fewer {c} {d} p =
    let e : length c.left ≡ length (p.others ++ (p.final ∷ d.left)) = ap length p.are_taken in
    let f : length (p.others ++ (p.final ∷ d.left)) ≡ length p.others + length (p.final ∷ d.left) = length-append p.others (p.final ∷ d.left) in omega arith

pub shortens : Shortens
shortens n g r = fewer (progress n g r)
