-- Imports, exports and items: what they ask of their parts, and that they are one deeper than these.
use Rattle.std.proofs.Common.{◌≡◌, suc, Bool, false, List, [], ◌∷◌, refl, ap, arith}
use Rattle.swc_ecma_parser_input.specs.Place.{Place, after}
use Rattle.swc_ecma_parser_model.specs.Tree.{Tree, trees}
use Rattle.swc_ecma_parser_grammar.specs.Names.{Code}
use Rattle.swc_ecma_parser_grammar.specs.Depth.{depth, depths}
use Rattle.swc_ecma_parser_grammar.specs.language.Goals.{Goal, assignment, expr_goal, attributes_goal, item_goal}
use Rattle.swc_ecma_parser_grammar.specs.language.Contexts.{in_module, with_in}
use Rattle.swc_ecma_parser_grammar.specs.language.Items.{top_item, directed, directs_on}
use Rattle.swc_ecma_parser_grammar.specs.language.ModuleParts as parts
use Rattle.swc_ecma_parser_grammar.specs.language.ModuleParts.{AttributesRule}
use Rattle.swc_ecma_parser_grammar.specs.language.Imports as imports
use Rattle.swc_ecma_parser_grammar.specs.language.Imports.{ImportRule}
use Rattle.swc_ecma_parser_grammar.specs.language.Exports as exports
use Rattle.swc_ecma_parser_grammar.specs.language.Exports.{ExportFrontRule, ExportedRule, DefaultRule, ExportRule}
use Rattle.swc_ecma_parser_grammar.specs.language.ModuleItems as items
use Rattle.swc_ecma_parser_grammar.specs.language.ModuleItems.{ItemRule, ModuleItemsRule, behind_item}
use Rattle.swc_ecma_parser_grammar.proofs.language.Asked.{Inside, Level, Fitting, nothing, part, joined, both, turned, sized, leaf, over, same}
use Rattle.swc_ecma_parser_grammar.proofs.language.Parts.{decorators_inside, class_level, function_level}
use Rattle.swc_ecma_parser_grammar.proofs.language.Statements.{variables_inside, stmt_level}

module _ (In Out : Goal → Type 0) (fitting : (g : Goal) → In g → Fitting g) where
  attributes_inside : {k : Code} {x : Tree} {c d : Place} → AttributesRule In k x c d → Inside In Out (AttributesRule Out k x c d) (depth x)
  attributes_inside (parts.no_attributes_rule h i e) = sized (nothing (parts.no_attributes_rule h i e)) (ap depth e)
  attributes_inside {k = k} {x = x} {c = c} {d = d} (parts.attributes_rule h r) = part (attributes_goal k x (after c) d) r (parts.attributes_rule h)

  import_level : {k : Code} {x : Tree} {c d : Place} → ImportRule In k x c d → Level In Out (ImportRule Out k x c d) (depth x)
  import_level (imports.bare_import_rule src attributes m n h r s i e) = over (attributes_inside s) (λ o. imports.bare_import_rule src attributes m n h r o i e) (ap depth e)
  import_level (imports.import_rule p xs src attributes i l m n h r s t u j e) = over (attributes_inside u) (λ o. imports.import_rule p xs src attributes i l m n h r s t o j e) (ap depth e)

  -- ---- exports

  front_inside : {k : Code} {is_default : Bool} {decorators : Tree} {c m d : Place} → ExportFrontRule In k is_default decorators c m d
      → Inside In Out (ExportFrontRule Out k is_default decorators c m d) (depth decorators)
  front_inside (exports.decorated_before h r i s) = turned (decorators_inside In Out fitting r) (λ o. exports.decorated_before h o i s)
  front_inside (exports.decorated_behind n h s r) = turned (decorators_inside In Out fitting r) (λ o. exports.decorated_behind n h s o)

  exported_level : {Before : Type 0} {k : Code} {decorators x : Tree} {c d : Place} → Inside In Out Before (depth decorators) → ExportedRule In k decorators x c d
      → Level In Out (Before × ExportedRule Out k decorators x c d) (depth x)
  exported_level b (exports.exported_class name y r h e) = same (class_level In Out fitting b r) (λ o. (o.0, exports.exported_class name y o.1 h e)) (ap depth e)
  exported_level b (exports.exported_function name y r h e) = same (function_level In Out fitting b r) (λ o. (o.0, exports.exported_function name y o.1 h e)) (ap depth e)
  exported_level {k = k} {decorators = decorators} {x = x} {c = c} b (exports.exported_variables word xs m h r i e) =
      let n : depth decorators ≡ 0 = ap depth h in
      let g : depth x ≡ suc (depths (trees xs)) = ap depth e in
      over (both b (variables_inside In Out fitting (with_in k) false word xs c m r)) (λ o. (o.0, exports.exported_variables word xs m h o.1 i e)) (omega arith)

  default_level : {Before : Type 0} {k : Code} {decorators x : Tree} {c d : Place} → Inside In Out Before (depth decorators) → DefaultRule In k decorators x c d
      → Level In Out (Before × DefaultRule Out k decorators x c d) (depth x)
  default_level b (exports.default_class name y r e) = same (class_level In Out fitting b r) (λ o. (o.0, exports.default_class name y o.1 e)) (ap depth e)
  default_level b (exports.default_function name y r e) = same (function_level In Out fitting b r) (λ o. (o.0, exports.default_function name y o.1 e)) (ap depth e)

  export_level : {k : Code} {x : Tree} {c d : Place} → ExportRule In k x c d → Level In Out (ExportRule Out k x c d) (depth x)
  export_level (exports.export_declaration_rule decorators y m n r s e) =
      same (exported_level (front_inside r) s) (λ o. exports.export_declaration_rule decorators y m n o.0 o.1 e) (ap depth e)
  export_level (exports.export_from_rule in_braces xs src attributes l m n h r s t i e) =
      over (attributes_inside t) (λ o. exports.export_from_rule in_braces xs src attributes l m n h r s o i e) (ap depth e)
  export_level (exports.export_names_rule xs m h r i j e) = leaf (exports.export_names_rule xs m h r i j e) (ap depth e)
  export_level (exports.export_default_declaration_rule decorators y m n r s e) =
      same (default_level (front_inside r) s) (λ o. exports.export_default_declaration_rule decorators y m n o.0 o.1 e) (ap depth e)
  export_level {k = k} {c = c} (exports.export_default_expression_rule a m h i j r g e) =
      over (part (expr_goal assignment (with_in (in_module k)) a (after (after c)) m) r (λ o. o)) (λ o. exports.export_default_expression_rule a m h i j o g e) (ap depth e)
  export_level (exports.export_all_rule src attributes m n h i r s g e) = over (attributes_inside s) (λ o. exports.export_all_rule src attributes m n h i r o g e) (ap depth e)

  -- ---- items

  pub item_level : (k : Code) (x : Tree) (c d : Place) → ItemRule In k x c d → Level In Out (ItemRule Out k x c d) (depth x)
  item_level k x c d (items.statement_rule r) = same (stmt_level In Out fitting k top_item x c d r) items.statement_rule refl
  item_level k x c d (items.import_item_rule r) = same (import_level r) items.import_item_rule refl
  item_level k x c d (items.export_item_rule r) = same (export_level r) items.export_item_rule refl

  pub module_items_inside : (k : Code) (directives : Bool) (xs : List Tree) (awaits : Bool) (c d : Place) → ModuleItemsRule In k directives xs awaits c d
      → Inside In Out (ModuleItemsRule Out k directives xs awaits c d) (depths (trees xs))
  module_items_inside k directives [] awaits c d r = nothing r
  module_items_inside k directives (x ∷ xs) awaits c d (m, others, r, rs, e) =
      joined (part (item_goal k x c m) r (λ o. o)) (module_items_inside (behind_item (directed k directives x) x) (directs_on directives x) xs others m d rs) (λ o os. (m, others, o, os, e))
