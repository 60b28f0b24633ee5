-- The span of whatever is read goes from its first token to its last: statements, imports, exports, and the goals of every level.
use Rattle.std.proofs.Common.{◌≡◌, zero, suc, Bool, true, List, [], ◌∷◌, refl, ap, sym, ◌∙◌}
use Rattle.swc_ecma_parser_input.specs.Place.{Place}
use Rattle.swc_ecma_parser_model.specs.Tree as tree
use Rattle.swc_ecma_parser_model.specs.Tree.{Tree, listed}
use Rattle.swc_ecma_parser_model.specs.Forms.{span_of}
use Rattle.swc_ecma_parser_grammar.specs.declared.position.Position.{Position}
use Rattle.swc_ecma_parser_grammar.specs.Looks.{spanned}
use Rattle.swc_ecma_parser_grammar.specs.Names.{Code}
use Rattle.swc_ecma_parser_grammar.specs.language.Goals.{Goal, expr_goal, callee_goal, pattern_goal, element_goal, stmt_goal, member_goal, decorator_goal, using_goal, attributes_goal, item_goal}
use Rattle.swc_ecma_parser_grammar.specs.Parameters.{parameters}
use Rattle.swc_ecma_parser_grammar.specs.language.Functions.{FunctionRule}
use Rattle.swc_ecma_parser_grammar.specs.language.Classes as classes
use Rattle.swc_ecma_parser_grammar.specs.language.Classes.{DecoratorRule, DecoratorsRule, ClassRule}
use Rattle.swc_ecma_parser_grammar.specs.language.Statements as statements
use Rattle.swc_ecma_parser_grammar.specs.language.Statements.{IfRule, FormRule}
use Rattle.swc_ecma_parser_grammar.specs.language.Imports as imports
use Rattle.swc_ecma_parser_grammar.specs.language.Imports.{ImportRule}
use Rattle.swc_ecma_parser_grammar.specs.language.Exports as exports
use Rattle.swc_ecma_parser_grammar.specs.language.Exports.{ExportFrontRule, ExportedRule, DefaultRule, ExportRule}
use Rattle.swc_ecma_parser_grammar.specs.language.ModuleItems as module_items
use Rattle.swc_ecma_parser_grammar.specs.language.ModuleItems.{ItemRule}
use Rattle.swc_ecma_parser_grammar.specs.language.Reads.{Reads}
use Rattle.swc_ecma_parser_grammar.specs.language.Laws.{Advances, begin, end, is_decorated, leaves_out, BeginsAt, at_once, behind_decorators, IsSpanned, SpansAreTokens}
use Rattle.swc_ecma_parser_grammar.proofs.language.progress.Steps.{◌▸▹◌}
use Rattle.swc_ecma_parser_grammar.proofs.language.progress.Expressions as p
use Rattle.swc_ecma_parser_grammar.proofs.language.progress.Statements.{progress}
use Rattle.swc_ecma_parser_grammar.proofs.language.spans.Expressions as s

-- from its first token on
from_first : {x : Tree} {c d : Place} → span_of x ≡ spanned c d → IsSpanned x c d
from_first {c = c} e = record { start = c; begins = at_once refl; is = e }

-- what may stand before the span of a form
data Leads (ds : Tree) (c m : Place) : Type 0 where
  nothing : m ≡ c → Leads ds c m
  decorators : (y : Tree) (ys : List Tree) → ds ≡ listed (y ∷ ys) → Advances c m → Leads ds c m

begins : {ds x : Tree} {c m : Place} → Leads ds c m → ((y : Tree) (ys : List Tree) → ds ≡ listed (y ∷ ys) → leaves_out x ≡ true) → BeginsAt x c m
begins (nothing e) out = at_once e
begins (decorators y ys e a) out = behind_decorators (out y ys e) a

module _ (In : Goal → Type 0) (go : (g : Goal) → In g → Advances (begin g) (end g)) where
  leads : {k : Code} {ds : Tree} {c m : Place} → DecoratorsRule In k ds c m → Leads ds c m
  leads (classes.no_decorators e a) = nothing e
  leads {k} {m = m} (classes.some_decorators y ys a (i, r, rs) e) =
      decorators y ys e (p.decorator In go r ▸▹ p.each (DecoratorRule In k) (λ x j l q. p.decorator In go q) ys i m rs)

  function_decorated : {is_expression : Bool} {k : Code} {ds n x : Tree} {c d : Place} (y : Tree) (ys : List Tree) → FunctionRule In is_expression k ds n x c d → ds ≡ listed (y ∷ ys) → is_decorated x ≡ true
  function_decorated {c = c} {d = d} y ys r e =
      ap is_decorated r.is ∙ ap (λ z. is_decorated (tree.function (spanned c d) z (parameters r.patterns) r.body r.is_async r.is_generator)) e

  class_decorated : {k : Code} {start : Place} {ds n x : Tree} {c d : Place} (y : Tree) (ys : List Tree) → ClassRule In k start ds n x c d → ds ≡ listed (y ∷ ys) → is_decorated x ≡ true
  class_decorated {start = start} {d = d} y ys r e = ap is_decorated r.is ∙ ap (λ z. is_decorated (tree.class (spanned start d) z (listed r.members) r.heritage)) e

  -- ---- statements

  if_chain : {k : Code} {x : Tree} {c d : Place} → IfRule In k x c d → span_of x ≡ spanned c d
  if_chain (statements.if_rule t y z m n h r q o e) = ap span_of e

  form : {k : Code} {at : Position} {x : Tree} {c d : Place} → FormRule In k at x c d → IsSpanned x c d
  form (statements.class_rule ds n y m a r q b e) = from_first (ap span_of e ∙ s.class In q)
  form (statements.function_rule ds n y m r a q b e) =
      record { start = m; begins = begins (leads r) (λ z zs f. ap leaves_out e ∙ function_decorated z zs q f); is = ap span_of e ∙ s.function In q }
  form (statements.variables_rule w xs m a r q e) = from_first (ap span_of e)
  form (statements.using_rule r) = from_first (ap span_of r.is)
  form (statements.block_rule r) = from_first (ap span_of r.is)
  form (statements.empty_rule h i e) = from_first (ap span_of e)
  form (statements.debugger_rule h q e) = from_first (ap span_of e)
  form (statements.with_rule z y m h r q e) = from_first (ap span_of e)
  form (statements.return_rule z m h r q e) = from_first (ap span_of e)
  form (statements.labeled_rule text t y m r h q e) = from_first (ap span_of e)
  form (statements.break_rule l m h r q e) = from_first (ap span_of e)
  form (statements.continue_rule l m h r q e) = from_first (ap span_of e)
  form (statements.if_statement_rule r) = from_first (if_chain r)
  form (statements.switch_rule z xs m n h r g q a i f e) = from_first (ap span_of e)
  form (statements.throw_rule z m h a r q e) = from_first (ap span_of e)
  form (statements.try_rule body y z m n h r q o a e) = from_first (ap span_of e)
  form (statements.while_rule z y m h r q e) = from_first (ap span_of e)
  form (statements.do_while_rule z y m n h r g q o e) = from_first (ap span_of e)
  form (statements.for_rule i t u y l m n h g r j q o v w b e) = from_first (ap span_of e)
  form (statements.for_in_rule y z w m n h g r i q j v e) = from_first (ap span_of e)
  form (statements.for_of_rule is_await y z w l m n h v g r i q j u e) = from_first (ap span_of e)
  form (statements.expr_rule z m a r b q e) = from_first (ap span_of e)
  form (statements.import_expr_rule z m a r q e) = from_first (ap span_of e)

  -- ---- imports and exports

  import : {k : Code} {x : Tree} {c d : Place} → ImportRule In k x c d → IsSpanned x c d
  import (imports.bare_import_rule z y m n h r q o e) = from_first (ap span_of e)
  import (imports.import_rule f xs z y i l m n h r q o v w e) = from_first (ap span_of e)

  front : {k : Code} {is_default : Bool} {ds : Tree} {c m d : Place} → ExportFrontRule In k is_default ds c m d → Leads ds c m
  front (exports.decorated_before a r b q) = leads r
  front (exports.decorated_behind n e q r) = nothing e

  exported_decorated : {k : Code} {ds x : Tree} {c d : Place} (y : Tree) (ys : List Tree) → ExportedRule In k ds x c d → ds ≡ listed (y ∷ ys) → is_decorated x ≡ true
  exported_decorated y ys (exports.exported_class n z r a e) f = ap is_decorated e ∙ class_decorated y ys r f
  exported_decorated y ys (exports.exported_function n z r a e) f = ap is_decorated e ∙ function_decorated y ys r f
  exported_decorated y ys (exports.exported_variables w xs m a r q e) f = absurd (let g : listed [] ≡ listed (y ∷ ys) = sym a ∙ f in cc)

  default_decorated : {k : Code} {ds x : Tree} {c d : Place} (y : Tree) (ys : List Tree) → DefaultRule In k ds x c d → ds ≡ listed (y ∷ ys) → is_decorated x ≡ true
  default_decorated y ys (exports.default_class n z r e) f = ap is_decorated e ∙ class_decorated y ys r f
  default_decorated y ys (exports.default_function n z r e) f = ap is_decorated e ∙ function_decorated y ys r f

  export : {k : Code} {x : Tree} {c d : Place} → ExportRule In k x c d → IsSpanned x c d
  export (exports.export_declaration_rule ds y m n r q e) =
      record { start = m; begins = begins (front r) (λ z zs f. ap leaves_out e ∙ exported_decorated z zs q f); is = ap span_of e }
  export (exports.export_from_rule b xs z y l m n h r q o f e) = from_first (ap span_of e)
  export (exports.export_names_rule xs m h r a q e) = from_first (ap span_of e)
  export (exports.export_default_declaration_rule ds y m n r q e) =
      record { start = m; begins = begins (front r) (λ z zs f. ap leaves_out e ∙ default_decorated z zs q f); is = ap span_of e }
  export (exports.export_default_expression_rule z m h g a r q e) = from_first (ap span_of e)
  export (exports.export_all_rule z y m n h g r q o e) = from_first (ap span_of e)

  item : {k : Code} {x : Tree} {c d : Place} → ItemRule In k x c d → IsSpanned x c d
  item (module_items.statement_rule r) = form r.1
  item (module_items.import_item_rule r) = import r
  item (module_items.export_item_rule r) = export r

-- ---- every goal

pub spans_are_tokens : SpansAreTokens
spans_are_tokens zero g r = absurd r
spans_are_tokens (suc n) (expr_goal class k x c d) r = s.expr_rule (Reads n) class k x c d r
spans_are_tokens (suc n) (callee_goal k x c d) r = s.left_side_rule (Reads n) r.0
spans_are_tokens (suc n) (pattern_goal q k x c d) r = s.pattern_rule (Reads n) r
spans_are_tokens (suc n) (element_goal q k x c d) r = s.pattern_element (Reads n) r
spans_are_tokens (suc n) (stmt_goal k at x c d) r = form (Reads n) (progress n) r.1
spans_are_tokens (suc n) (member_goal k x c d) r = s.member (Reads n) r
spans_are_tokens (suc n) (decorator_goal k x c d) r = s.decorated (Reads n) r
spans_are_tokens (suc n) (using_goal k x c d) r = ap span_of r.is
spans_are_tokens (suc n) (attributes_goal k x c d) r = s.primary (Reads n) r.0
spans_are_tokens (suc n) (item_goal k x c d) r = item (Reads n) (progress n) r
