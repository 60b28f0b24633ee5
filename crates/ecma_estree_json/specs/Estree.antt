-- A tree as JSON, in the form of acorn: for each form its node with its fields, in their order (docs/ESTREE.md, "Each node"). What a form is
-- called, its fields and their order are acorn's; what ESTree has no form for is said in docs/ESTREE.md.
--
-- A tree that is made by hand may have parts where none stand in a tree of the language: a list in the place of one part, one part in that
-- of a list, the rest of a function or a class without its head. Such a tree is no JSON.
use Rattle.std.specs.Prelude.{◌+◌, ◌-◌, ℕ, List, Bool, true, false, not, Option, Some, None, cond, codes, length}
use Rattle.ecma_estree_json.specs.Json.{Json, Jsons, Fields}
use Rattle.ecma_estree_json.specs.Made.{done, field, object, none, item, list, null, flag, word, text, number}
use Rattle.ecma_estree_json.specs.Parts.{Form, node_at, node, identifier, word_name, literal, big_literal, regex_literal, template_element, parenthesis, function_fields, accessor, member, property, decorators_field, directive_field, phase_fields, and_fields, string_value}
use Rattle.ecma_estree_text.specs.Number.{number_text}
use Rattle.ecma_estree_writer.specs.Estree.{Role, plain, directives, members, attributes, bare, argument, is_bare, is_attributes, is_directives, function_kind, class_kind, is_zero, skips, next, end_of, expr_end, brace, declared, linked, is_link, is_optional, inner}
use Rattle.ecma_estree_writer.specs.Parts.{is_namespace_alone, is_import, is_empty}
use Rattle.ecma_estree_writer.specs.Words.{bool_word, kind_word, using_word, method_word, unary_word, update_word, binary_word, binary_kind, assign_word}
use Rattle.swc_ecma_parser_model.specs.declared.leaves.MetaPropKind.TheVariants as meta
use Rattle.swc_ecma_parser_model.specs.Forms.{span_of, is_absent}
use Rattle.swc_ecma_parser_model.specs.Kinds.{is_block, is_computed}
use Rattle.swc_ecma_parser_model.specs.Tree as tree
use Rattle.swc_ecma_parser_model.specs.Tree.{Tree, Trees}

abbrev mutual
  pub estree : Form → Role → Tree → Option Json
  estree f r tree.absent = cond (is_attributes r) None null
  estree f r (tree.list ts) = picked f r ts
  -- names and literals
  estree f r (tree.ident s name) = identifier f s name
  estree f r (tree.str s value raw) = literal f s (string_value value raw) raw
  estree f r (tree.bool s b) = literal f s (flag b) (bool_word b)
  estree f r (tree.null s) = literal f s null (codes "null")
  estree f r (tree.num s raw) = literal f s (number (number_text raw)) raw
  estree f r (tree.big_int s raw) = big_literal f s raw
  estree f r (tree.regex s exp flags) = regex_literal f s exp flags
  -- further primary expressions
  estree f r (tree.this s) = node f (codes "ThisExpression") s done
  estree f r (tree.array s elems) = node f (codes "ArrayExpression") s (field (codes "elements") (list (items f plain elems)) done)
  estree f r (tree.object s props) = cond (is_attributes r) None (node f (codes "ObjectExpression") s (field (codes "properties") (list (items f plain props)) done))
  estree f r (tree.fn_expr s name fn) = function_node f (function_kind r) (estree f plain name) s.lo.0 fn
  estree f r (tree.class_expr s name body) = class_node f (class_kind r) (estree f plain name) (end_of name) body
  estree f r (tree.paren s e) = estree f plain e
  estree f r (tree.meta_prop s meta.ImportMeta) =
      node f (codes "MetaProperty") s (field (codes "meta") (word_name f (codes "import") s.lo.0 (s.lo.0 + 6))
      (field (codes "property") (word_name f (codes "meta") (s.hi.0 - 4) s.hi.0) done))
  estree f r (tree.meta_prop s meta.NewTarget) =
      node f (codes "MetaProperty") s (field (codes "meta") (word_name f (codes "new") s.lo.0 (s.lo.0 + 3))
      (field (codes "property") (word_name f (codes "target") (s.hi.0 - 6) s.hi.0) done))
  estree f r (tree.invalid s) = node f (codes "Invalid") s done
  -- operators
  estree f r (tree.unary s op arg) =
      node f (codes "UnaryExpression") s (field (codes "operator") (word (unary_word op)) (field (codes "prefix") (flag true)
      (field (codes "argument") (estree f plain arg) done)))
  estree f r (tree.update s op prefix arg) =
      node f (codes "UpdateExpression") s (field (codes "operator") (word (update_word op)) (field (codes "prefix") (flag prefix)
      (field (codes "argument") (estree f plain arg) done)))
  estree f r (tree.bin s op left right) =
      node f (binary_kind op) s (field (codes "left") (estree f plain left) (field (codes "operator") (word (binary_word op))
      (field (codes "right") (estree f plain right) done)))
  estree f r (tree.assign s op left right) =
      node f (codes "AssignmentExpression") s (field (codes "operator") (word (assign_word op)) (field (codes "left") (estree f plain left)
      (field (codes "right") (estree f plain right) done)))
  estree f r (tree.cond s test cons alt) =
      node f (codes "ConditionalExpression") s (field (codes "test") (estree f plain test) (field (codes "consequent") (estree f plain cons)
      (field (codes "alternate") (estree f plain alt) done)))
  estree f r (tree.seq s exprs) = node f (codes "SequenceExpression") s (field (codes "expressions") (list (items f plain exprs)) done)
  -- members and calls
  estree f r (tree.member s obj prop) =
      node f (codes "MemberExpression") s (field (codes "object") (estree f (inner r obj) obj) (field (codes "property") (estree f plain prop)
      (field (codes "computed") (flag (is_computed prop)) (field (codes "optional") (flag (is_optional r)) done))))
  estree f r (tree.super_prop s word prop) =
      node f (codes "MemberExpression") s (field (codes "object") (node f (codes "Super") word done) (field (codes "property") (estree f plain prop)
      (field (codes "computed") (flag (is_computed prop)) (field (codes "optional") (flag false) done))))
  estree f r (tree.call s callee args) =
      cond (is_import callee) (node f (codes "ImportExpression") s (field (codes "source") (estree f (argument 0) args)
      (field (codes "options") (estree f (argument 1) args) done))) (node f (codes "CallExpression") s (field (codes "callee") (estree f (inner r callee) callee)
      (field (codes "arguments") (list (items f plain args)) (field (codes "optional") (flag (is_optional r)) done))))
  estree f r (tree.new s callee args) =
      node f (codes "NewExpression") s (field (codes "callee") (estree f plain callee)
      (field (codes "arguments") (list (cond (is_absent args) none (items f plain args))) done))
  -- templates and optional chains
  estree f r (tree.tpl s exprs quasis) =
      node f (codes "TemplateLiteral") s (field (codes "expressions") (list (items f plain exprs)) (field (codes "quasis") (list (items f plain quasis)) done))
  estree f r (tree.tagged_tpl s tag template) =
      node f (codes "TaggedTemplateExpression") s (field (codes "tag") (estree f plain tag) (field (codes "quasi") (estree f plain template) done))
  estree f r (tree.opt_chain s optional base) =
      cond (is_link r) (estree f (linked optional) base) (node f (codes "ChainExpression") s (field (codes "expression") (estree f (linked optional) base) done))
  estree f r (tree.arrow s params body is_async) =
      node f (codes "ArrowFunctionExpression") s (function_fields null (not (is_block body)) false is_async (field (codes "params") (list (items f plain params))
      (field (codes "body") (cond (is_block body) (estree f directives body) (estree f plain body)) done)))
  estree f r (tree.yield s arg delegate) =
      node f (codes "YieldExpression") s (field (codes "delegate") (flag delegate) (field (codes "argument") (estree f plain arg) done))
  estree f r (tree.await s arg) = node f (codes "AwaitExpression") s (field (codes "argument") (estree f plain arg) done)
  -- parts of expressions
  estree f r (tree.element None e) = estree f plain e
  estree f r (tree.element (Some dots) e) = node_at f (codes "SpreadElement") dots.lo.0 (expr_end e) (field (codes "argument") (estree f plain e) done)
  estree f r (tree.private_name s word name) = node f (codes "PrivateIdentifier") s (field (codes "name") (text name) done)
  estree f r (tree.computed s e) = estree f plain e
  estree f r (tree.super_callee s) = node f (codes "Super") s done
  estree f r (tree.import_callee s) = node f (codes "Import") s done
  estree f r (tree.quasi s tail cooked raw) = template_element f s tail cooked raw
  -- parts of objects
  estree f r (tree.spread_prop dots e) = node_at f (codes "SpreadElement") dots.lo.0 (expr_end e) (field (codes "argument") (estree f plain e) done)
  estree f r (tree.shorthand_prop s name) =
      property f s false true false (field (codes "key") (identifier f s name) (field (codes "value") (identifier f s name)
      (field (codes "kind") (word (codes "init")) done)))
  estree f r (tree.key_value_prop s k value) =
      cond (is_attributes r) (node f (codes "ImportAttribute") s (field (codes "key") (estree f plain k) (field (codes "value") (estree f plain value) done)))
      (property f s false false (is_computed k) (field (codes "key") (estree f plain k) (field (codes "value") (estree f plain value)
      (field (codes "kind") (word (codes "init")) done))))
  estree f r (tree.assign_prop s k value) =
      property f s false true false (field (codes "key") (estree f plain k) (field (codes "value") (node f (codes "AssignmentPattern") s
      (field (codes "left") (estree f plain k) (field (codes "right") (estree f plain value) done))) (field (codes "kind") (word (codes "init")) done)))
  estree f r (tree.getter_prop s k body) =
      property f s false false (is_computed k) (field (codes "key") (estree f plain k) (field (codes "value") (accessor f k s (field (codes "params") (list none)
      (field (codes "body") (estree f directives body) done))) (field (codes "kind") (word (codes "get")) done)))
  estree f r (tree.setter_prop s k pattern body) =
      property f s false false (is_computed k) (field (codes "key") (estree f plain k) (field (codes "value") (accessor f k s
      (field (codes "params") (list (item (estree f plain pattern) none)) (field (codes "body") (estree f directives body) done)))
      (field (codes "kind") (word (codes "set")) done)))
  estree f r (tree.method_prop s k fn) =
      property f s true false (is_computed k) (field (codes "key") (estree f plain k)
      (field (codes "value") (function_node f (codes "FunctionExpression") null (parenthesis f k) fn) (field (codes "kind") (word (codes "init")) done)))
  -- patterns
  estree f r (tree.ident_pat s name) = identifier f s name
  estree f r (tree.array_pat s elems) = node f (codes "ArrayPattern") s (field (codes "elements") (list (items f plain elems)) done)
  estree f r (tree.rest_pat s arg) = node f (codes "RestElement") s (field (codes "argument") (estree f plain arg) done)
  estree f r (tree.object_pat s props) = node f (codes "ObjectPattern") s (field (codes "properties") (list (items f plain props)) done)
  estree f r (tree.key_value_pat_prop s k value) =
      property f s false false (is_computed k) (field (codes "key") (estree f plain k) (field (codes "value") (estree f plain value)
      (field (codes "kind") (word (codes "init")) done)))
  estree f r (tree.assign_pat_prop s k value) =
      property f s false true false (field (codes "key") (estree f plain k) (field (codes "value") (cond (is_absent value) (estree f plain k)
      (node f (codes "AssignmentPattern") s (field (codes "left") (estree f plain k) (field (codes "right") (estree f plain value) done))))
      (field (codes "kind") (word (codes "init")) done)))
  estree f r (tree.assign_pat s left right) =
      node f (codes "AssignmentPattern") s (field (codes "left") (estree f plain left) (field (codes "right") (estree f plain right) done))
  estree f r (tree.expr_pat e) = estree f plain e
  estree f r (tree.invalid_pat s) = node f (codes "Invalid") s done
  -- functions
  estree f r (tree.function s ds params body is_async is_generator) = None
  estree f r (tree.param s ds pat) = estree f plain pat
  estree f r (tree.decorator s e) = node f (codes "Decorator") s (field (codes "expression") (estree f plain e) done)
  -- classes
  estree f r (tree.class s ds body super_class) = None
  estree f r (tree.constructor s k params body) =
      member f (codes "MethodDefinition") s false (is_computed k) (estree f plain k) (field (codes "kind") (word (codes "constructor"))
      (field (codes "value") (accessor f k s (field (codes "params") (list (items f plain params)) (field (codes "body") (estree f directives body) done))) done))
  estree f r (tree.method s k fn kind is_static) =
      member f (codes "MethodDefinition") s is_static (is_computed k) (estree f plain k) (field (codes "kind") (word (method_word kind))
      (field (codes "value") (function_node f (codes "FunctionExpression") null (parenthesis f k) fn) (decorated f fn done)))
  estree f r (tree.private_method s k fn kind is_static) =
      member f (codes "MethodDefinition") s is_static false (estree f plain k) (field (codes "kind") (word (method_word kind))
      (field (codes "value") (function_node f (codes "FunctionExpression") null (parenthesis f k) fn) (decorated f fn done)))
  estree f r (tree.class_prop s k value is_static ds) =
      member f (codes "PropertyDefinition") s is_static (is_computed k) (estree f plain k) (field (codes "value") (estree f plain value)
      (decorators_field (is_empty ds) (items f plain ds) done))
  estree f r (tree.private_prop s k value is_static ds) =
      member f (codes "PropertyDefinition") s is_static false (estree f plain k) (field (codes "value") (estree f plain value)
      (decorators_field (is_empty ds) (items f plain ds) done))
  estree f r (tree.auto_accessor s k value is_static ds) =
      member f (codes "AccessorProperty") s is_static (is_computed k) (estree f plain k) (field (codes "value") (estree f plain value)
      (decorators_field (is_empty ds) (items f plain ds) done))
  estree f r (tree.static_block s body) = node f (codes "StaticBlock") s (field (codes "body") (list (items f bare body)) done)
  estree f r (tree.empty_member s) = None
  -- declarations
  estree f r (tree.class_decl name body) = class_node f (codes "ClassDeclaration") (estree f plain name) (end_of name) body
  estree f r (tree.fn_decl name fn) = function_node f (codes "FunctionDeclaration") (estree f plain name) (span_of fn).lo.0 fn
  estree f r (tree.var s kind decls) =
      node f (codes "VariableDeclaration") s (field (codes "declarations") (list (items f plain decls)) (field (codes "kind") (word (kind_word kind)) done))
  estree f r (tree.using s is_await decls) =
      node f (codes "VariableDeclaration") s (field (codes "declarations") (list (items f plain decls)) (field (codes "kind") (word (using_word is_await)) done))
  estree f r (tree.declarator s name init) =
      node f (codes "VariableDeclarator") s (field (codes "id") (estree f plain name) (field (codes "init") (estree f plain init) done))
  -- statements
  estree f r (tree.block s stmts) = cond (is_bare r) None (node f (codes "BlockStatement") s (field (codes "body") (list (items f r stmts)) done))
  estree f r (tree.empty s) = node f (codes "EmptyStatement") s done
  estree f r (tree.debugger s) = node f (codes "DebuggerStatement") s done
  estree f r (tree.with s obj body) = node f (codes "WithStatement") s (field (codes "object") (estree f plain obj) (field (codes "body") (estree f plain body) done))
  estree f r (tree.return s arg) = node f (codes "ReturnStatement") s (field (codes "argument") (estree f plain arg) done)
  estree f r (tree.labeled s label body) =
      node f (codes "LabeledStatement") s (field (codes "body") (estree f plain body) (field (codes "label") (estree f plain label) done))
  estree f r (tree.break s label) = node f (codes "BreakStatement") s (field (codes "label") (estree f plain label) done)
  estree f r (tree.continue s label) = node f (codes "ContinueStatement") s (field (codes "label") (estree f plain label) done)
  estree f r (tree.if_stmt s test cons alt) =
      node f (codes "IfStatement") s (field (codes "test") (estree f plain test) (field (codes "consequent") (estree f plain cons)
      (field (codes "alternate") (estree f plain alt) done)))
  estree f r (tree.switch s discriminant cases) =
      node f (codes "SwitchStatement") s (field (codes "discriminant") (estree f plain discriminant) (field (codes "cases") (list (items f plain cases)) done))
  estree f r (tree.case s test cons) =
      node f (codes "SwitchCase") s (field (codes "consequent") (list (items f plain cons)) (field (codes "test") (estree f plain test) done))
  estree f r (tree.throw s arg) = node f (codes "ThrowStatement") s (field (codes "argument") (estree f plain arg) done)
  estree f r (tree.try s body handler finalizer) =
      node f (codes "TryStatement") s (field (codes "block") (estree f plain body) (field (codes "handler") (estree f plain handler)
      (field (codes "finalizer") (estree f plain finalizer) done)))
  estree f r (tree.catch s pattern body) =
      node f (codes "CatchClause") s (field (codes "param") (estree f plain pattern) (field (codes "body") (estree f plain body) done))
  estree f r (tree.while s test body) = node f (codes "WhileStatement") s (field (codes "test") (estree f plain test) (field (codes "body") (estree f plain body) done))
  estree f r (tree.do_while s test body) =
      node f (codes "DoWhileStatement") s (field (codes "body") (estree f plain body) (field (codes "test") (estree f plain test) done))
  estree f r (tree.for s init test next body) =
      node f (codes "ForStatement") s (field (codes "init") (estree f plain init) (field (codes "test") (estree f plain test)
      (field (codes "update") (estree f plain next) (field (codes "body") (estree f plain body) done))))
  estree f r (tree.for_in s left right body) =
      node f (codes "ForInStatement") s (field (codes "left") (estree f plain left) (field (codes "right") (estree f plain right)
      (field (codes "body") (estree f plain body) done)))
  estree f r (tree.for_of s is_await left right body) =
      node f (codes "ForOfStatement") s (field (codes "await") (flag is_await) (field (codes "left") (estree f plain left) (field (codes "right") (estree f plain right)
      (field (codes "body") (estree f plain body) done))))
  estree f r (tree.expr_stmt s e) = node f (codes "ExpressionStatement") s (field (codes "expression") (estree f plain e) (directive_field (is_directives r) e done))
  -- imports and exports
  estree f r (tree.import s specifiers src attrs phase) =
      node f (codes "ImportDeclaration") s (field (codes "specifiers") (list (items f plain specifiers)) (field (codes "source") (estree f plain src)
      (field (codes "attributes") (list (items f attributes attrs)) (phase_fields phase done))))
  estree f r (tree.import_named s local imported) =
      node f (codes "ImportSpecifier") s (field (codes "imported") (cond (is_absent imported) (estree f plain local) (estree f plain imported))
      (field (codes "local") (estree f plain local) done))
  estree f r (tree.import_default s local) = node f (codes "ImportDefaultSpecifier") s (field (codes "local") (estree f plain local) done)
  estree f r (tree.import_namespace s local) = node f (codes "ImportNamespaceSpecifier") s (field (codes "local") (estree f plain local) done)
  estree f r (tree.export_decl s decl) =
      node f (codes "ExportNamedDeclaration") s (field (codes "declaration") (estree f plain decl) (field (codes "specifiers") (list none) (field (codes "source") null
      (field (codes "attributes") (list none) done))))
  estree f r (tree.export_named s specifiers src attrs) =
      cond (is_namespace_alone specifiers) (node f (codes "ExportAllDeclaration") s (field (codes "exported") (estree f bare specifiers)
      (field (codes "source") (estree f plain src) (field (codes "attributes") (list (items f attributes attrs)) done)))) (node f (codes "ExportNamedDeclaration") s
      (field (codes "declaration") null (field (codes "specifiers") (list (items f plain specifiers)) (field (codes "source") (estree f plain src)
      (field (codes "attributes") (list (items f attributes attrs)) done)))))
  estree f r (tree.export_default_decl s decl) = node f (codes "ExportDefaultDeclaration") s (field (codes "declaration") (estree f declared decl) done)
  estree f r (tree.export_default_expr s e) = node f (codes "ExportDefaultDeclaration") s (field (codes "declaration") (estree f plain e) done)
  estree f r (tree.export_all s src attrs) =
      node f (codes "ExportAllDeclaration") s (field (codes "exported") null (field (codes "source") (estree f plain src)
      (field (codes "attributes") (list (items f attributes attrs)) done)))
  estree f r (tree.export_namespace s name) =
      cond (is_bare r) (estree f plain name) (node f (codes "ExportNamespaceSpecifier") s (field (codes "exported") (estree f plain name) done))
  estree f r (tree.export_default exported) = node f (codes "ExportDefaultSpecifier") (span_of exported) (field (codes "exported") (estree f plain exported) done)
  estree f r (tree.export_specifier s orig exported) =
      node f (codes "ExportSpecifier") s (field (codes "local") (estree f plain orig)
      (field (codes "exported") (cond (is_absent exported) (estree f plain orig) (estree f plain exported)) done))
  -- wholes: from the start of the text to its end
  estree f r (tree.script s body shebang) =
      node_at f (codes "Program") 0 (length f.source.places.text) (field (codes "body") (list (items f directives body))
      (field (codes "sourceType") (word (codes "script")) (and_fields f.fields done)))
  estree f r (tree.module_program s body shebang) =
      node_at f (codes "Program") 0 (length f.source.places.text) (field (codes "body") (list (items f directives body))
      (field (codes "sourceType") (word (codes "module")) (and_fields f.fields done)))

  -- a function with its kind and name, from a place on
  pub function_node : Form → (kind : List ℕ) → (name : Option Json) → (start : ℕ) → Tree → Option Json
  function_node f kind name start (tree.function s ds params body is_async is_generator) =
      node_at f kind start s.hi.0 (function_fields name false is_generator is_async (field (codes "params") (list (items f plain params))
      (field (codes "body") (estree f directives body) done)))
  function_node f kind name start x = None

  -- a class with its kind and name, which ends at a place if there is one
  pub class_node : Form → (kind : List ℕ) → (name : Option Json) → (name_end : ℕ) → Tree → Option Json
  class_node f kind name name_end (tree.class s ds body super_class) =
      node f kind s (field (codes "id") name (field (codes "superClass") (estree f plain super_class) (field (codes "body")
      (node_at f (codes "ClassBody") (brace f.source s ds super_class name_end) s.hi.0 (field (codes "body") (list (items f members body)) done))
      (decorators_field (is_empty ds) (items f plain ds) done))))
  class_node f kind name name_end x = None

  -- the decorators of a method, which its function has, as a field before others
  pub decorated : Form → Tree → Option Fields → Option Fields
  decorated f (tree.function s ds params body is_async is_generator) rest = decorators_field (is_empty ds) (items f plain ds) rest
  decorated f x rest = None

  -- one of some trees: an argument by its number, `null` where there are fewer, and what stands alone behind the `as` of a namespace
  pub picked : Form → Role → Trees → Option Json
  picked f (argument n) tree.none = null
  picked f (argument n) (tree.also x xs) = cond (is_zero n) (estree f plain x) (picked f (argument (n - 1)) xs)
  picked f bare (tree.also x tree.none) = estree f bare x
  picked f r xs = None

  -- the values of a list
  pub items : Form → Role → Tree → Option Jsons
  items f r (tree.list ts) = all_items f r ts
  -- the attributes of an import are an object, and none are nothing; the statements of a static block are a block
  items f r tree.absent = cond (is_attributes r) none None
  items f r (tree.object s props) = cond (is_attributes r) (items f attributes props) None
  items f r (tree.block s stmts) = cond (is_bare r) (items f plain stmts) None
  items f r x = None

  pub all_items : Form → Role → Trees → Option Jsons
  all_items f (argument n) ts = None
  all_items f r tree.none = none
  all_items f r (tree.also x xs) = cond (skips r x) (all_items f r xs) (item (estree f (next r x) x) (all_items f (next r x) xs))
