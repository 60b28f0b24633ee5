-- Imports, exports and items are supported, if the tokens are in order where an export has decorators.
use Rattle.std.proofs.Common.{◌≡◌, ℕ, true, false, true≢false, refl, sym, ◌∙◌, ap}
use Rattle.swc_ecma_parser_common.specs.declared.span.Span.{Span}
use Rattle.swc_ecma_parser_input.specs.Place.{Place, after}
use Rattle.swc_ecma_parser_model.specs.Tree as tree
use Rattle.swc_ecma_parser_model.specs.Tree.{Tree, listed}
use Rattle.swc_ecma_parser_grammar.specs.Looks.{spanned}
use Rattle.swc_ecma_parser_grammar.specs.Names.{Code}
use Rattle.swc_ecma_parser_grammar.specs.Parameters.{parameters}
use Rattle.swc_ecma_parser_grammar.specs.language.Goals.{Goal, assignment, expr_goal, attributes_goal}
use Rattle.swc_ecma_parser_grammar.specs.language.Contexts.{in_module, with_in}
use Rattle.swc_ecma_parser_grammar.specs.language.Items.{top_item}
use Rattle.swc_ecma_parser_grammar.specs.language.ModuleParts as parts
use Rattle.swc_ecma_parser_grammar.specs.language.ModuleParts.{AttributesRule}
use Rattle.swc_ecma_parser_grammar.specs.language.Imports as imports
use Rattle.swc_ecma_parser_grammar.specs.language.Imports.{ImportRule}
use Rattle.swc_ecma_parser_grammar.specs.language.Exports as exports
use Rattle.swc_ecma_parser_grammar.specs.language.Exports.{ExportedRule, DefaultRule, ExportRule}
use Rattle.swc_ecma_parser_grammar.specs.language.ModuleItems as items
use Rattle.swc_ecma_parser_grammar.specs.language.ModuleItems.{ItemRule}
use Rattle.swc_ecma_parser_grammar.specs.language.Laws.{Advances, begin, end}
use Rattle.swc_ecma_parser_grammar.proofs.Tests.{and_both}
use Rattle.swc_ecma_parser_grammar.specs.scaffold.Supported.{supported}
use Rattle.swc_ecma_parser_module_reader.specs.Supported.{supported_item}
use Rattle.swc_ecma_parser_exactness.specs.Supports.{Whole, WholeGoal, Ordered, is_astride, needs_order}
use Rattle.swc_ecma_parser_exactness.proofs.Wholes.{list_whole}
use Rattle.swc_ecma_parser_exactness.proofs.Parts.{name_supported, function_parts, class_parts}
use Rattle.swc_ecma_parser_exactness.proofs.Statements.{variables_whole, stmt_whole}
use Rattle.swc_ecma_parser_exactness.proofs.Exported.{second_of_two, WholeFront, front_whole, class_decorated, function_decorated}

-- the form that an item is
as_item : (x y : Tree) → x ≡ y → supported_item y ≡ true → supported_item x ≡ true
as_item x y e f = ap supported_item e ∙ f

-- a statement that is supported is one as an item
statement_item : (x : Tree) → supported x ≡ true → supported_item x ≡ true
statement_item (tree.import s specifiers src attributes phase) h = absurd (true≢false (sym h))
statement_item (tree.export_decl s d) h = absurd (true≢false (sym h))
statement_item (tree.export_named s specifiers src attributes) h = absurd (true≢false (sym h))
statement_item (tree.export_default_decl s d) h = absurd (true≢false (sym h))
statement_item (tree.export_default_expr s e) h = absurd (true≢false (sym h))
statement_item (tree.export_all s src attributes) h = absurd (true≢false (sym h))
statement_item _ h = h

module _ (In : Goal → Type 0) (small : (g : Goal) → In g → WholeGoal g) (go : (g : Goal) → In g → Advances (begin g) (end g)) where
  attributes_whole : {k : Code} {x : Tree} {c d : Place} → AttributesRule In k x c d → Whole x
  attributes_whole {x = x} (parts.no_attributes_rule h i e) = ap supported e
  attributes_whole {k = k} {x = x} {c = c} {d = d} (parts.attributes_rule h r) = small (attributes_goal k x (after c) d) r

  import_whole : {k : Code} {x : Tree} {c d : Place} → ImportRule In k x c d → supported_item x ≡ true
  import_whole {x = x} (imports.bare_import_rule src attributes m n h r s i e) = as_item x _ e (attributes_whole s)
  import_whole {x = x} (imports.import_rule p xs src attributes i l m n h r s t u j e) = as_item x _ e (attributes_whole u)

  -- ---- exports

  -- what is exported, and where its decorators stand, which is known of tokens in order if it has any
  exported_whole : {k : Code} {decorators x : Tree} {c d : Place} (s : Span) (from : ℕ) (start : Place) → ((is_astride s decorators ≡ true → Ordered from start) → WholeFront s decorators)
      → ExportedRule In k decorators x c d → (needs_order (tree.export_decl s x) ≡ true → Ordered from start) → supported_item (tree.export_decl s x) ≡ true
  exported_whole {decorators = ds} {x = x} {c = c} {d = d} s from start front (exports.exported_class name y r h e) o =
      let i : tree.export_decl s x ≡ tree.export_decl s (tree.class_decl name (tree.class (spanned c d) ds (listed r.members) r.heritage)) =
      ap (tree.export_decl s) (e ∙ ap (tree.class_decl name) r.is) in
      let f = front (λ p. o (ap needs_order i ∙ second_of_two _ _ p)) in
      as_item (tree.export_decl s x) (tree.export_decl s (tree.class_decl name (tree.class (spanned c d) (listed f.items) (listed r.members) r.heritage)))
      (i ∙ ap (λ t. tree.export_decl s (tree.class_decl name (tree.class (spanned c d) t (listed r.members) r.heritage))) f.is)
      (and_both _ _ (name_supported r.reads_name) (class_decorated s (spanned c d) f.items r.members r.heritage f.each f.placed (class_parts In small r)))
  exported_whole {decorators = ds} {x = x} {c = c} {d = d} s from start front (exports.exported_function name y r h e) o =
      let i : tree.export_decl s x ≡ tree.export_decl s (tree.fn_decl name (tree.function (spanned c d) ds (parameters r.patterns) r.body r.is_async r.is_generator)) =
      ap (tree.export_decl s) (e ∙ ap (tree.fn_decl name) r.is) in
      let f = front (λ p. o (ap needs_order i ∙ second_of_two _ _ p)) in
      as_item (tree.export_decl s x) (tree.export_decl s (tree.fn_decl name (tree.function (spanned c d) (listed f.items) (parameters r.patterns) r.body r.is_async r.is_generator)))
      (i ∙ ap (λ t. tree.export_decl s (tree.fn_decl name (tree.function (spanned c d) t (parameters r.patterns) r.body r.is_async r.is_generator))) f.is)
      (and_both _ _ (name_supported r.reads_name) (function_decorated s (spanned c d) f.items r.patterns r.body r.is_async r.is_generator f.each f.placed (function_parts In small r.reads_parts)))
  exported_whole {k = k} {x = x} {c = c} {d = d} s from start front (exports.exported_variables word xs m h r i e) o =
      as_item (tree.export_decl s x) (tree.export_decl s (tree.var (spanned c d) word (listed xs))) (ap (tree.export_decl s) e)
      (list_whole xs (variables_whole In small (with_in k) false word xs c m r))

  default_whole : {k : Code} {decorators x : Tree} {c d : Place} (s : Span) (from : ℕ) (start : Place) → ((is_astride s decorators ≡ true → Ordered from start) → WholeFront s decorators)
      → DefaultRule In k decorators x c d → (needs_order (tree.export_default_decl s x) ≡ true → Ordered from start) → supported_item (tree.export_default_decl s x) ≡ true
  default_whole {decorators = ds} {x = x} {c = c} {d = d} s from start front (exports.default_class name y r e) o =
      let i : tree.export_default_decl s x ≡ tree.export_default_decl s (tree.class_expr (spanned c d) name (tree.class (spanned c d) ds (listed r.members) r.heritage)) =
      ap (tree.export_default_decl s) (e ∙ ap (tree.class_expr (spanned c d) name) r.is) in
      let f = front (λ p. o (ap needs_order i ∙ second_of_two _ _ p)) in
      as_item (tree.export_default_decl s x) (tree.export_default_decl s (tree.class_expr (spanned c d) name (tree.class (spanned c d) (listed f.items) (listed r.members) r.heritage)))
      (i ∙ ap (λ t. tree.export_default_decl s (tree.class_expr (spanned c d) name (tree.class (spanned c d) t (listed r.members) r.heritage))) f.is)
      (and_both _ _ (name_supported r.reads_name) (class_decorated s (spanned c d) f.items r.members r.heritage f.each f.placed (class_parts In small r)))
  default_whole {decorators = ds} {x = x} {c = c} {d = d} s from start front (exports.default_function name y r e) o =
      let i : tree.export_default_decl s x ≡ tree.export_default_decl s (tree.fn_expr (spanned c d) name (tree.function (spanned c d) ds (parameters r.patterns) r.body r.is_async r.is_generator)) =
      ap (tree.export_default_decl s) (e ∙ ap (tree.fn_expr (spanned c d) name) r.is) in
      let f = front (λ p. o (ap needs_order i ∙ second_of_two _ _ p)) in
      as_item (tree.export_default_decl s x) (tree.export_default_decl s (tree.fn_expr (spanned c d) name (tree.function (spanned c d) (listed f.items) (parameters r.patterns) r.body r.is_async r.is_generator)))
      (i ∙ ap (λ t. tree.export_default_decl s (tree.fn_expr (spanned c d) name (tree.function (spanned c d) t (parameters r.patterns) r.body r.is_async r.is_generator))) f.is)
      (and_both _ _ (name_supported r.reads_name) (function_decorated s (spanned c d) f.items r.patterns r.body r.is_async r.is_generator f.each f.placed (function_parts In small r.reads_parts)))

  export_whole : {k : Code} {x : Tree} {c d : Place} (from : ℕ) → (needs_order x ≡ true → Ordered from c) → ExportRule In k x c d → supported_item x ≡ true
  export_whole {x = x} {c = c} {d = d} from o (exports.export_declaration_rule decorators y m n r s e) =
      as_item x (tree.export_decl (spanned m d) y) e (exported_whole (spanned m d) from c (λ p. front_whole In small go d from p r) s (λ h. o (ap needs_order e ∙ h)))
  export_whole {x = x} {c = c} {d = d} from o (exports.export_from_rule in_braces xs src attributes l m n h r s t i e) =
      as_item x (tree.export_named (spanned c d) (listed xs) src attributes) e (attributes_whole t)
  export_whole {x = x} {c = c} {d = d} from o (exports.export_names_rule xs m h r i j e) =
      as_item x (tree.export_named (spanned c d) (listed xs) tree.absent tree.absent) e refl
  export_whole {x = x} {c = c} {d = d} from o (exports.export_default_declaration_rule decorators y m n r s e) =
      as_item x (tree.export_default_decl (spanned m d) y) e (default_whole (spanned m d) from c (λ p. front_whole In small go d from p r) s (λ h. o (ap needs_order e ∙ h)))
  export_whole {k = k} {x = x} {c = c} {d = d} from o (exports.export_default_expression_rule a m h i j r g e) =
      as_item x (tree.export_default_expr (spanned c d) a) e (small (expr_goal assignment (with_in (in_module k)) a (after (after c)) m) r)
  export_whole {x = x} {c = c} {d = d} from o (exports.export_all_rule src attributes m n h i r s g e) =
      as_item x (tree.export_all (spanned c d) src attributes) e (attributes_whole s)

  -- ---- items

  pub item_whole : {k : Code} {x : Tree} {c d : Place} → ItemRule In k x c d → (from : ℕ) → (needs_order x ≡ true → Ordered from c) → supported_item x ≡ true
  item_whole {k = k} {x = x} {c = c} {d = d} (items.statement_rule r) from o = statement_item x (stmt_whole In small k top_item x c d r)
  item_whole (items.import_item_rule r) from o = import_whole r
  item_whole (items.export_item_rule r) from o = export_whole from o r
