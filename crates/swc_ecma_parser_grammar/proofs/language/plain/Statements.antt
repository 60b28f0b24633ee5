-- The same of statements, imports and exports, and of every goal.
use Rattle.std.proofs.Common.{◌≡◌, ℕ, zero, suc, Bool, true, false, List, ap, refl, ◌∙◌}
use Rattle.swc_ecma_parser_input.specs.Place.{Place, after}
use Rattle.swc_ecma_parser_model.specs.declared.leaves.VarDeclKind.{VarDeclKind}
use Rattle.swc_ecma_parser_model.specs.Tree.{Tree, trees}
use Rattle.swc_ecma_parser_grammar.specs.declared.position.Position.{Position}
use Rattle.swc_ecma_parser_grammar.specs.Names.{Code}
use Rattle.swc_ecma_parser_grammar.specs.language.Goals.{Goal, expr_goal, callee_goal, pattern_goal, element_goal, stmt_goal, member_goal, decorator_goal, using_goal, attributes_goal, item_goal}
use Rattle.swc_ecma_parser_grammar.specs.language.Contexts.{in_breakable, with_in, head_code}
use Rattle.swc_ecma_parser_grammar.specs.language.Items.{nested_item}
use Rattle.swc_ecma_parser_grammar.specs.language.Declarations as declarations
use Rattle.swc_ecma_parser_grammar.specs.language.Declarations.{DeclaratorRule, VariablesRule, UsingDeclaratorRule, UsingRule}
use Rattle.swc_ecma_parser_grammar.specs.language.ForHeads as heads
use Rattle.swc_ecma_parser_grammar.specs.language.ForHeads.{HeadVariablesRule, InitRule, PartRule, LeftRule, UsingNameRule, UsingHeadRule, OfLeftRule}
use Rattle.swc_ecma_parser_grammar.specs.language.Statements as statements
use Rattle.swc_ecma_parser_grammar.specs.language.Statements.{HeadRule, ReturnedRule, TargetRule, IfRule, ElseRule, CaseRule, CatchRule, FinallyRule, FormRule}
use Rattle.swc_ecma_parser_grammar.specs.language.ModuleParts as module_parts
use Rattle.swc_ecma_parser_grammar.specs.language.ModuleParts.{BracedRule, StringRule, ModuleNameRule, AttributesRule}
use Rattle.swc_ecma_parser_grammar.specs.language.Imports as imports
use Rattle.swc_ecma_parser_grammar.specs.language.Imports.{ImportSpecifierRule, BindingsRule, MoreBindingsRule, ImportClauseRule, ImportRule}
use Rattle.swc_ecma_parser_grammar.specs.language.Exports as exports
use Rattle.swc_ecma_parser_grammar.specs.language.Exports.{ExportSpecifierRule, NamespaceExportRule, DefaultExportRule, NamesRule, ExportClauseRule, ExportFrontRule, ExportedRule, DefaultRule, ExportRule}
use Rattle.swc_ecma_parser_grammar.specs.language.ModuleItems as module_items
use Rattle.swc_ecma_parser_grammar.specs.language.ModuleItems.{ItemRule}
use Rattle.swc_ecma_parser_grammar.specs.language.Reads.{Reads}
use Rattle.swc_ecma_parser_grammar.specs.language.Laws.{Advances, begin, end}
use Rattle.swc_ecma_parser_grammar.specs.language.Plain.{has_new_form, any_has_new_form}
use Rattle.swc_ecma_parser_grammar.proofs.language.progress.Expressions as p
use Rattle.swc_ecma_parser_grammar.proofs.language.progress.Statements as steps
use Rattle.swc_ecma_parser_grammar.proofs.language.plain.Steps.{Plain, Old, AllOld, tree_of, behind, on, next, moved, each_old, listed_old, separated_old}
use Rattle.swc_ecma_parser_grammar.proofs.language.plain.Expressions as old

-- ---- the parts of imports and exports, which hold no expression

string_old : {x : Tree} {c d : Place} → StringRule x c d → Old x
string_old r = ap has_new_form r.is

module_name_old : {x : Tree} {c d : Place} → ModuleNameRule x c d → Old x
module_name_old (module_parts.word_name_rule text s r e) = ap has_new_form e
module_name_old (module_parts.string_name_rule r) = string_old r

all_as : (xs ys : List Tree) → xs ≡ ys → AllOld ys → AllOld xs
all_as xs ys e h = ap (λ l. any_has_new_form (trees l)) e ∙ h

braced_old : (Specifier : Tree → Place → Place → Type 0) (go : (x : Tree) (c d : Place) → Specifier x c d → Advances c d) (old : (x : Tree) (c d : Place) → Specifier x c d → Plain c → Old x)
    {xs : List Tree} {c d : Place} → BracedRule Specifier xs c d → Plain c → AllOld xs
braced_old Specifier go old {xs} {c} r h = listed_old Specifier go old true xs (after c) r.close r.reads_specifiers (next h)

import_specifier_old : (k : Code) (x : Tree) (c d : Place) → ImportSpecifierRule k x c d → Plain c → Old x
import_specifier_old k x c d (imports.named_rule text s r a e) h = ap has_new_form e
import_specifier_old k x c d (imports.renamed_rule y text s m r a q e) h = ap has_new_form e ∙ rw (module_name_old r) refl

bindings_old : {k : Code} {xs : List Tree} {c d : Place} → BindingsRule k xs c d → Plain c → AllOld xs
bindings_old {xs = xs} (imports.namespace_rule text s i a r e) h = ap (λ l. any_has_new_form (trees l)) e
bindings_old {k} (imports.named_bindings_rule r) h = braced_old (ImportSpecifierRule k) (λ x m n q. steps.import_specifier q) (import_specifier_old k) r h

more_bindings_old : {k : Code} {xs : List Tree} {c d : Place} → MoreBindingsRule k xs c d → Plain c → AllOld xs
more_bindings_old (imports.no_more_rule i e) h = ap (λ l. any_has_new_form (trees l)) e
more_bindings_old (imports.comma_rule i n e) h = ap (λ l. any_has_new_form (trees l)) e
more_bindings_old (imports.more_rule i r) h = bindings_old r (next h)

import_clause_old : {k : Code} {xs : List Tree} {c d : Place} → ImportClauseRule k xs c d → Plain c → AllOld xs
import_clause_old (imports.bindings_rule r) h = bindings_old r h
import_clause_old (imports.default_binding_rule text s ys m r q e) h = ap (λ l. any_has_new_form (trees l)) e ∙ more_bindings_old q (behind (p.name r) h)

export_specifier_old : (x : Tree) (c d : Place) → ExportSpecifierRule x c d → Plain c → Old x
export_specifier_old x c d (exports.same_name_rule y r a e) h = ap has_new_form e ∙ rw (module_name_old r) refl
export_specifier_old x c d (exports.other_name_rule y z m r a q e) h = ap has_new_form e ∙ rw (module_name_old r, module_name_old q) refl

namespace_old : {start : Place} {x : Tree} {c d : Place} → NamespaceExportRule start x c d → Old x
namespace_old r = ap has_new_form r.is ∙ module_name_old r.reads_name

default_old : {k : Code} {x : Tree} {c d : Place} → DefaultExportRule k x c d → Old x
default_old (exports.under_name_rule text s r e) = ap has_new_form e
default_old (exports.as_default_rule s i r e) = ap has_new_form e

specifiers_old : {xs : List Tree} {c d : Place} → BracedRule ExportSpecifierRule xs c d → Plain c → AllOld xs
specifiers_old r h = braced_old ExportSpecifierRule (λ x m n q. steps.export_specifier q) export_specifier_old r h

names_old : {k : Code} {start : Place} {in_braces : Bool} {xs : List Tree} {c d : Place} → NamesRule k start in_braces xs c d → Plain c → AllOld xs
names_old (exports.braces_rule a r) h = specifiers_old r h
names_old (exports.namespace_rule y a r e) h = ap (λ l. any_has_new_form (trees l)) e ∙ rw (namespace_old r) refl
names_old (exports.namespace_and_braces_rule y ys m a b r i q e) h =
    ap (λ l. any_has_new_form (trees l)) e ∙ rw (namespace_old r) (specifiers_old q (next (behind (steps.namespace_export r) h)))

export_clause_old : {k : Code} {in_braces : Bool} {xs : List Tree} {c d : Place} → ExportClauseRule k in_braces xs c d → Plain c → AllOld xs
export_clause_old (exports.names_rule r) h = names_old r h
export_clause_old (exports.default_alone_rule y a b r e) h = ap (λ l. any_has_new_form (trees l)) e ∙ rw (default_old r) refl
export_clause_old (exports.default_and_names_rule y ys m a r i q e) h =
    ap (λ l. any_has_new_form (trees l)) e ∙ rw (default_old r) (names_old q (next (behind (steps.default_export r) h)))

module _ (In : Goal → Type 0) (go : (g : Goal) → In g → Advances (begin g) (end g)) (small : (g : Goal) → In g → Plain (begin g) → Old (tree_of g)) where
  inner : {g : Goal} → In g → Plain (begin g) → Old (tree_of g)
  inner {g} r h = small g r h

  passed : {g : Goal} → In g → Plain (begin g) → Plain (end g)
  passed {g} r h = behind (go g r) h

  -- ---- declarations

  declarator_old : (k : Code) (loop : Bool) (w : VarDeclKind) (x : Tree) (c d : Place) → DeclaratorRule In k loop w x c d → Plain c → Old x
  declarator_old k loop w x c d (declarations.plain_rule n r a b e) h = ap has_new_form e ∙ rw (inner r h) refl
  declarator_old k loop w x c d (declarations.initialized_rule n v m r i q e) h = ap has_new_form e ∙ rw (inner r h, inner q (next (passed r h))) refl

  variables_old : (k : Code) (loop : Bool) (w : VarDeclKind) (xs : List Tree) (c d : Place) → VariablesRule In k loop w xs c d → Plain c → AllOld xs
  variables_old k loop w xs c d r h = separated_old (DeclaratorRule In k loop w) (λ x i j q. steps.declarator In go q) (declarator_old k loop w) xs (after c) d r.1 (next h)

  using_declarator_old : (k : Code) (x : Tree) (c d : Place) → UsingDeclaratorRule In k x c d → Plain c → Old x
  using_declarator_old k x c d r h = ap has_new_form r.is ∙ rw (inner r.reads_name h, inner r.reads_init (next (passed r.reads_name h))) refl

  using_old : {k : Code} {at : Position} {x : Tree} {c d : Place} → UsingRule In k at x c d → Plain c → Old x
  using_old {k} r h =
      ap has_new_form r.is ∙ separated_old (UsingDeclaratorRule In k) (λ x i j q. steps.using_declarator In go q) (using_declarator_old k) r.declarators (after r.word) r.behind r.reads
      (next (on (steps.await_word r.reads_await) h))

  -- ---- for heads

  head_variables_old : {k : Code} {x : Tree} {c d : Place} → HeadVariablesRule In k x c d → Plain c → Old x
  head_variables_old {k} {c = c} {d = d} r h = ap has_new_form r.is ∙ variables_old (head_code r.word k) true r.word r.declarators c d r.reads h

  init_old : {k : Code} {x : Tree} {c d : Place} → InitRule In k x c d → Plain c → Old x
  init_old (heads.no_init_rule a i e) h = ap has_new_form e
  init_old (heads.init_variables_rule r) h = head_variables_old r h
  init_old (heads.init_expression_rule a r) h = inner r h

  part_old : {k : Code} {x : Tree} {c d : Place} → PartRule In k x c d → Plain c → Old x
  part_old (heads.no_part_rule i e) h = ap has_new_form e
  part_old (heads.part_rule r) h = inner r h

  left_old : {k : Code} {x : Tree} {c d : Place} → LeftRule In k x c d → Plain c → Old x
  left_old (heads.declared_rule r) h = head_variables_old r h
  left_old (heads.target_rule a r) h = inner r h

  using_name_old : {k : Code} {x : Tree} {c d : Place} → UsingNameRule In k x c d → Plain c → Old x
  using_name_old r h = ap has_new_form r.is ∙ rw (inner r.reads_name (next h)) refl

  using_head_old : {k : Code} {x : Tree} {c d : Place} → UsingHeadRule In k x c d → Plain c → Old x
  using_head_old (heads.using_head_rule y r e) h = ap has_new_form e ∙ rw (using_name_old r h) refl
  using_head_old (heads.await_using_head_rule y i a l r e) h = ap has_new_form e ∙ rw (inner r (next h)) refl

  of_left_old : {k : Code} {is_await : Bool} {x : Tree} {c d : Place} → OfLeftRule In k is_await x c d → Plain c → Old x
  of_left_old (heads.of_left_rule r a) h = left_old r h
  of_left_old (heads.of_using_rule a r) h = using_head_old r h

  -- ---- statements

  head_old : {k : Code} {x : Tree} {c d : Place} → HeadRule In k x c d → Plain c → Old x
  head_old r h = inner r.reads (next h)

  operand_old : {k : Code} {x : Tree} {c d : Place} → ReturnedRule In k x c d → Plain c → Old x
  operand_old (statements.no_operand_rule a i e) h = ap has_new_form e
  operand_old (statements.operand_rule a r) h = inner r h

  target_old : {k : Code} {x : Tree} {c d : Place} → TargetRule k x c d → Old x
  target_old (statements.no_target_rule a i e) = ap has_new_form e
  target_old (statements.target_rule text s a r e) = ap has_new_form e

  mutual
    if_old : {k : Code} {x : Tree} {c d : Place} → IfRule In k x c d → Plain c → Old x
    if_old (statements.if_rule t y z m n i r q o e) h =
        let f = behind (steps.head In go r) (next h) in ap has_new_form e ∙ rw (head_old r (next h), inner q f, else_old o (passed q f)) refl

    else_old : {k : Code} {x : Tree} {c d : Place} → ElseRule In k x c d → Plain c → Old x
    else_old (statements.no_else_rule a i e) h = ap has_new_form e
    else_old (statements.else_rule i a r) h = inner r (next h)
    else_old (statements.else_if_rule i r) h = if_old r (next h)

  case_old : (k : Code) (x : Tree) (c d : Place) → CaseRule In k x c d → Plain c → Old x
  case_old k x c d (statements.case_clause_rule t xs m i r g q e) h =
      ap has_new_form e ∙ rw (inner r (next h), old.items_old In go small k false nested_item xs (after m) d q (next (passed r (next h)))) refl
  case_old k x c d (statements.default_clause_rule xs i g q e) h = ap has_new_form e ∙ old.items_old In go small k false nested_item xs (after (after c)) d q (next (next h))

  catch_old : {k : Code} {x : Tree} {c d : Place} → CatchRule In k x c d → Plain c → Old x
  catch_old (statements.no_catch_rule a i e) h = ap has_new_form e
  catch_old (statements.catch_rule body i r e) h = ap has_new_form e ∙ old.block_old In go small r (next h)
  catch_old (statements.catch_parameter_rule y body m i g r j q e) h =
      let f = next (next h) in ap has_new_form e ∙ rw (inner r f, old.block_old In go small q (next (passed r f))) refl

  finally_old : {k : Code} {x : Tree} {c d : Place} → FinallyRule In k x c d → Plain c → Old x
  finally_old (statements.no_finally_rule a i e) h = ap has_new_form e
  finally_old (statements.finally_rule i r) h = old.block_old In go small r (next h)

  form_old : {k : Code} {at : Position} {x : Tree} {c d : Place} → FormRule In k at x c d → Plain c → Old x
  form_old (statements.class_rule ds n y m a r q b e) h =
      let f = old.class_old In go small q (on (p.decorators In go r) h) (old.decorators_old In go small r h) in ap has_new_form e ∙ rw (f.0, f.1) refl
  form_old (statements.function_rule ds n y m r a q b e) h =
      let f = old.function_old In go small q (on (p.decorators In go r) h) (old.decorators_old In go small r h) in ap has_new_form e ∙ rw (f.0, f.1) refl
  form_old {k} {c = c} (statements.variables_rule w xs m a r q e) h = ap has_new_form e ∙ variables_old (with_in k) false w xs c m r h
  form_old (statements.using_rule r) h = using_old r h
  form_old (statements.block_rule r) h = old.block_old In go small r h
  form_old (statements.empty_rule i n e) h = ap has_new_form e
  form_old (statements.debugger_rule i q e) h = ap has_new_form e
  form_old (statements.with_rule y z m i r q e) h = ap has_new_form e ∙ rw (head_old r (next h), inner q (behind (steps.head In go r) (next h))) refl
  form_old (statements.return_rule y m i r q e) h = ap has_new_form e ∙ operand_old r (next h)
  form_old (statements.labeled_rule text s y m r i q e) h = ap has_new_form e ∙ rw (inner q (next (behind (p.name r) h))) refl
  form_old (statements.break_rule l m i r q e) h = ap has_new_form e ∙ target_old r
  form_old (statements.continue_rule l m i r q e) h = ap has_new_form e ∙ target_old r
  form_old (statements.if_statement_rule r) h = if_old r h
  form_old {k} (statements.switch_rule y xs m n i r g q a j f e) h =
      ap has_new_form e
      ∙ rw (head_old r (next h), each_old (CaseRule In (in_breakable k)) (λ x o l s. steps.case In go s) (case_old (in_breakable k)) xs (after m) n q (next (behind (steps.head In go r) (next h)))) refl
  form_old (statements.throw_rule y m i a r q e) h = ap has_new_form e ∙ inner r (next h)
  form_old (statements.try_rule body y z m n i r q o a e) h =
      let f = behind (p.block In go r) (next h) in
      ap has_new_form e ∙ rw (old.block_old In go small r (next h), catch_old q f, finally_old o (on (steps.catch In go q) f)) refl
  form_old (statements.while_rule y z m i r q e) h = ap has_new_form e ∙ rw (head_old r (next h), inner q (behind (steps.head In go r) (next h))) refl
  form_old (statements.do_while_rule y z m n i r g q o e) h = ap has_new_form e ∙ rw (inner r (next h), head_old q (next (passed r (next h)))) refl
  form_old (statements.for_rule i t u y l m n a g r j q o s v w e) h =
      let f = next (next h) in
      let b = next (on (steps.init In go r) f) in
      let z = next (on (steps.part In go q) b) in
      ap has_new_form e ∙ rw (init_old r f, part_old q b, part_old s z, inner w (next (on (steps.part In go s) z))) refl
  form_old (statements.for_in_rule y z w m n a g r i q j s e) h =
      let f = next (next h) in
      let b = next (behind (steps.left In go r) f) in ap has_new_form e ∙ rw (left_old r f, inner q b, inner s (next (passed q b))) refl
  form_old (statements.for_of_rule is_await y z w l m n a v g r i q j s e) h =
      let f = next (on (steps.await_word v) (next h)) in
      let b = next (behind (steps.of_left In go r) f) in ap has_new_form e ∙ rw (of_left_old r f, inner q b, inner s (next (passed q b))) refl
  form_old (statements.expr_rule y m a r b q e) h = ap has_new_form e ∙ inner r h
  form_old (statements.import_expr_rule y m a r q e) h = ap has_new_form e ∙ inner r h

  -- ---- imports and exports

  attributes_old : {k : Code} {x : Tree} {c d : Place} → AttributesRule In k x c d → Plain c → Old x
  attributes_old (module_parts.no_attributes_rule a i e) h = ap has_new_form e
  attributes_old (module_parts.attributes_rule a r) h = inner r (next h)

  import_old : {k : Code} {x : Tree} {c d : Place} → ImportRule In k x c d → Plain c → Old x
  import_old (imports.bare_import_rule s y m n i r q o e) h = ap has_new_form e ∙ rw (string_old r, attributes_old q (behind (steps.string r) (next h))) refl
  import_old (imports.import_rule f xs s y i l m n a r q o v w e) h =
      let g = on (steps.phase r) (next h) in
      let b = behind (steps.import_clause q) g in
      ap has_new_form e ∙ rw (import_clause_old q g, string_old o.1, attributes_old v (behind (steps.from s l m o) b)) refl

  decorated_front : {k : Code} {is_default : Bool} {ds : Tree} {c m d : Place} → ExportFrontRule In k is_default ds c m d → Plain c → Old ds
  decorated_front (exports.decorated_before a q b w) h = old.decorators_old In go small q h
  decorated_front (exports.decorated_behind n e w q) h = old.decorators_old In go small q (behind (steps.export_words w) (moved e h))

  front_old : {k : Code} {is_default : Bool} {ds : Tree} {c m d : Place} → ExportFrontRule In k is_default ds c m d → Plain c → (Old ds) × (Plain d)
  front_old r h = (decorated_front r h, behind (steps.export_front In go r) h)

  exported_old : {k : Code} {ds x : Tree} {c d : Place} → ExportedRule In k ds x c d → Plain c → Old ds → Old x
  exported_old (exports.exported_class n y r a e) h o = let f = old.class_old In go small r h o in ap has_new_form e ∙ rw (f.0, f.1) refl
  exported_old (exports.exported_function n y r a e) h o = let f = old.function_old In go small r h o in ap has_new_form e ∙ rw (f.0, f.1) refl
  exported_old {k} {c = c} (exports.exported_variables w xs m a r q e) h o = ap has_new_form e ∙ variables_old (with_in k) false w xs c m r h

  default_decl_old : {k : Code} {ds x : Tree} {c d : Place} → DefaultRule In k ds x c d → Plain c → Old ds → Old x
  default_decl_old (exports.default_class n y r e) h o = let f = old.class_old In go small r h o in ap has_new_form e ∙ rw (f.0, f.1) refl
  default_decl_old (exports.default_function n y r e) h o = let f = old.function_old In go small r h o in ap has_new_form e ∙ rw (f.0, f.1) refl

  export_old : {k : Code} {x : Tree} {c d : Place} → ExportRule In k x c d → Plain c → Old x
  export_old (exports.export_declaration_rule ds y m n r q e) h = let f = front_old r h in ap has_new_form e ∙ exported_old q f.1 f.0
  export_old (exports.export_from_rule b xs s y l m n i r q o f e) h =
      ap has_new_form e
      ∙ rw (export_clause_old r (next h), string_old q.1, attributes_old o (behind (steps.from s l m q) (behind (steps.export_clause r) (next h)))) refl
  export_old (exports.export_names_rule xs m i r a q e) h = ap has_new_form e ∙ rw (export_clause_old r (next h)) refl
  export_old (exports.export_default_declaration_rule ds y m n r q e) h = let f = front_old r h in ap has_new_form e ∙ default_decl_old q f.1 f.0
  export_old (exports.export_default_expression_rule y m i g a r q e) h = ap has_new_form e ∙ inner r (next (next h))
  export_old {c = c} (exports.export_all_rule s y m n i g r q o e) h =
      ap has_new_form e ∙ rw (string_old r.1, attributes_old q (behind (steps.from s (after (after c)) m r) (next (next h)))) refl

  item_old : {k : Code} {x : Tree} {c d : Place} → ItemRule In k x c d → Plain c → Old x
  item_old (module_items.statement_rule r) h = form_old r.1 h
  item_old (module_items.import_item_rule r) h = import_old r h
  item_old (module_items.export_item_rule r) h = export_old r h

-- ---- every goal

pub reads_old : (n : ℕ) (g : Goal) → Reads n g → Plain (begin g) → Old (tree_of g)
reads_old zero g r h = absurd r
reads_old (suc n) (expr_goal class k x c d) r h = old.expr_old (Reads n) (steps.progress n) (reads_old n) class k x c d r h
reads_old (suc n) (callee_goal k x c d) r h = (old.left_old (Reads n) (steps.progress n) (reads_old n) r.0 h).0
reads_old (suc n) (pattern_goal q k x c d) r h = (old.pattern_old (Reads n) (steps.progress n) (reads_old n) r h).0
reads_old (suc n) (element_goal q k x c d) r h = old.pattern_element_old (Reads n) (steps.progress n) (reads_old n) r h
reads_old (suc n) (stmt_goal k at x c d) r h = form_old (Reads n) (steps.progress n) (reads_old n) r.1 h
reads_old (suc n) (member_goal k x c d) r h = old.member_old (Reads n) (steps.progress n) (reads_old n) r h
reads_old (suc n) (decorator_goal k x c d) r h = old.decorated_old (Reads n) (steps.progress n) (reads_old n) r h
reads_old (suc n) (using_goal k x c d) r h = using_name_old (Reads n) (steps.progress n) (reads_old n) r h
reads_old (suc n) (attributes_goal k x c d) r h = (old.primary_old (Reads n) (steps.progress n) (reads_old n) r.0 h).0
reads_old (suc n) (item_goal k x c d) r h = item_old (Reads n) (steps.progress n) (reads_old n) r h
