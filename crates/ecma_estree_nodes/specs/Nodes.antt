-- The nodes of a tree in the order in which they are written: each with its kind and its place.
use Rattle.std.specs.Prelude.{ℕ, List, [], ◌∷◌, ◌++◌, ◌+◌, ◌-◌, Some, None, cond, codes, length}
use Rattle.ecma_estree_text.specs.Bracket.{bracket}
use Rattle.ecma_estree_text.specs.Places.{offset}
use Rattle.ecma_estree_nodes.specs.Reading.{Node, read}
use Rattle.ecma_estree_writer.specs.Estree.{Role, plain, directives, members, attributes, bare, argument, declared, function, class, json, is_bare, is_attributes, function_kind, class_kind, is_zero, skips, next, end_of, expr_end, brace, method_role, inner, is_link, linked}
use Rattle.ecma_estree_writer.specs.Parts.{is_namespace_alone, is_import, is_empty, text_end}
use Rattle.ecma_estree_writer.specs.Source.{Source}
use Rattle.ecma_estree_writer.specs.Words.{binary_kind}
use Rattle.swc_ecma_parser_common.specs.declared.span.Span.{Span}
use Rattle.swc_ecma_parser_model.specs.declared.leaves.MetaPropKind.TheVariants as meta
use Rattle.swc_ecma_parser_model.specs.Forms.{span_of, is_absent}
use Rattle.swc_ecma_parser_model.specs.Kinds.{is_block}
use Rattle.swc_ecma_parser_model.specs.Tree as tree
use Rattle.swc_ecma_parser_model.specs.Tree.{Tree, Trees, none, also}

-- a node between two offsets in bytes
abbrev pub node_of : Source → (kind : List ℕ) → (start end : ℕ) → Node
node_of t kind start end = record { kind = kind; start = offset t.places.text start; end = offset t.places.text end }

abbrev pub at : Source → (kind : List ℕ) → Span → Node
at t kind s = node_of t kind s.lo.0 s.hi.0

-- the value of a method that has its parameters and its body in itself
abbrev pub method_value : Source → (key : Tree) → Span → Node
method_value t k s = node_of t (codes "FunctionExpression") (bracket t.places.text 40 (span_of k).hi.0) s.hi.0

-- A function or a class has its name as text already: then its nodes are those of that text.
abbrev mutual
  pub nodes : Source → Role → Tree → List Node
  nodes t r tree.absent = []
  nodes t r (tree.list ts) = all_nodes t r ts
  -- names and literals
  nodes t r (tree.ident s name) = at t (codes "Identifier") s ∷ []
  nodes t r (tree.str s value raw) = at t (codes "Literal") s ∷ []
  nodes t r (tree.bool s b) = at t (codes "Literal") s ∷ []
  nodes t r (tree.null s) = at t (codes "Literal") s ∷ []
  nodes t r (tree.num s raw) = at t (codes "Literal") s ∷ []
  nodes t r (tree.big_int s raw) = at t (codes "Literal") s ∷ []
  nodes t r (tree.regex s exp flags) = at t (codes "Literal") s ∷ []
  -- further primary expressions
  nodes t r (tree.this s) = at t (codes "ThisExpression") s ∷ []
  nodes t r (tree.array s elems) = at t (codes "ArrayExpression") s ∷ nodes t plain elems
  nodes t r (tree.object s props) = cond (is_attributes r) (nodes t attributes props) (at t (codes "ObjectExpression") s ∷ nodes t plain props)
  nodes t r (tree.fn_expr s name fn) = nodes t (function (function_kind r) (json t plain name) s.lo.0) fn
  nodes t r (tree.class_expr s name body) = nodes t (class (class_kind r) (json t plain name) (end_of name)) body
  nodes t r (tree.paren s e) = nodes t plain e
  nodes t r (tree.meta_prop s meta.ImportMeta) = at t (codes "MetaProperty") s ∷ node_of t (codes "Identifier") s.lo.0 (s.lo.0 + 6) ∷ node_of t (codes "Identifier") (s.hi.0 - 4) s.hi.0 ∷ []
  nodes t r (tree.meta_prop s meta.NewTarget) = at t (codes "MetaProperty") s ∷ node_of t (codes "Identifier") s.lo.0 (s.lo.0 + 3) ∷ node_of t (codes "Identifier") (s.hi.0 - 6) s.hi.0 ∷ []
  nodes t r (tree.invalid s) = at t (codes "Invalid") s ∷ []
  -- operators
  nodes t r (tree.unary s op arg) = at t (codes "UnaryExpression") s ∷ nodes t plain arg
  nodes t r (tree.update s op prefix arg) = at t (codes "UpdateExpression") s ∷ nodes t plain arg
  nodes t r (tree.bin s op left right) = at t (binary_kind op) s ∷ (nodes t plain left ++ nodes t plain right)
  nodes t r (tree.assign s op left right) = at t (codes "AssignmentExpression") s ∷ (nodes t plain left ++ nodes t plain right)
  nodes t r (tree.cond s test cons alt) = at t (codes "ConditionalExpression") s ∷ (nodes t plain test ++ (nodes t plain cons ++ nodes t plain alt))
  nodes t r (tree.seq s exprs) = at t (codes "SequenceExpression") s ∷ nodes t plain exprs
  -- members and calls
  nodes t r (tree.member s obj prop) = at t (codes "MemberExpression") s ∷ (nodes t (inner r obj) obj ++ nodes t plain prop)
  nodes t r (tree.super_prop s word prop) = at t (codes "MemberExpression") s ∷ at t (codes "Super") word ∷ nodes t plain prop
  nodes t r (tree.call s callee args) =
      cond (is_import callee) (at t (codes "ImportExpression") s ∷ (nodes t (argument 0) args ++ nodes t (argument 1) args)) (at t (codes "CallExpression") s ∷ (nodes t (inner r callee) callee ++ nodes t plain args))
  nodes t r (tree.new s callee args) = at t (codes "NewExpression") s ∷ (nodes t plain callee ++ cond (is_absent args) [] (nodes t plain args))
  nodes t r (tree.tpl s exprs quasis) = at t (codes "TemplateLiteral") s ∷ (nodes t plain exprs ++ nodes t plain quasis)
  nodes t r (tree.tagged_tpl s tag template) = at t (codes "TaggedTemplateExpression") s ∷ (nodes t plain tag ++ nodes t plain template)
  nodes t r (tree.opt_chain s optional base) = cond (is_link r) (nodes t (linked optional) base) (at t (codes "ChainExpression") s ∷ nodes t (linked optional) base)
  nodes t r (tree.arrow s params body is_async) = at t (codes "ArrowFunctionExpression") s ∷ (nodes t plain params ++ cond (is_block body) (nodes t directives body) (nodes t plain body))
  nodes t r (tree.yield s arg delegate) = at t (codes "YieldExpression") s ∷ nodes t plain arg
  nodes t r (tree.await s arg) = at t (codes "AwaitExpression") s ∷ nodes t plain arg
  -- parts of expressions
  nodes t r (tree.element None e) = nodes t plain e
  nodes t r (tree.element (Some dots) e) = node_of t (codes "SpreadElement") dots.lo.0 (expr_end e) ∷ nodes t plain e
  nodes t r (tree.private_name s word name) = at t (codes "PrivateIdentifier") s ∷ []
  nodes t r (tree.computed s e) = nodes t plain e
  nodes t r (tree.super_callee s) = at t (codes "Super") s ∷ []
  nodes t r (tree.import_callee s) = at t (codes "Import") s ∷ []
  nodes t r (tree.quasi s tail cooked raw) = node_of t (codes "TemplateElement") (s.lo.0 + 1) (text_end s tail) ∷ []
  -- parts of objects
  nodes t r (tree.spread_prop dots e) = node_of t (codes "SpreadElement") dots.lo.0 (expr_end e) ∷ nodes t plain e
  nodes t r (tree.shorthand_prop s name) = at t (codes "Property") s ∷ at t (codes "Identifier") s ∷ at t (codes "Identifier") s ∷ []
  nodes t r (tree.key_value_prop s k value) =
      cond (is_attributes r) (at t (codes "ImportAttribute") s ∷ (nodes t plain k ++ nodes t plain value)) (at t (codes "Property") s ∷ (nodes t plain k ++ nodes t plain value))
  nodes t r (tree.assign_prop s k value) = at t (codes "Property") s ∷ (nodes t plain k ++ (at t (codes "AssignmentPattern") s ∷ (nodes t plain k ++ nodes t plain value)))
  nodes t r (tree.getter_prop s k body) = at t (codes "Property") s ∷ (nodes t plain k ++ (method_value t k s ∷ nodes t directives body))
  nodes t r (tree.setter_prop s k pattern body) = at t (codes "Property") s ∷ (nodes t plain k ++ (method_value t k s ∷ (nodes t plain pattern ++ nodes t directives body)))
  nodes t r (tree.method_prop s k fn) = at t (codes "Property") s ∷ (nodes t plain k ++ nodes t (method_role t k) fn)
  -- patterns
  nodes t r (tree.ident_pat s name) = at t (codes "Identifier") s ∷ []
  nodes t r (tree.array_pat s elems) = at t (codes "ArrayPattern") s ∷ nodes t plain elems
  nodes t r (tree.rest_pat s arg) = at t (codes "RestElement") s ∷ nodes t plain arg
  nodes t r (tree.object_pat s props) = at t (codes "ObjectPattern") s ∷ nodes t plain props
  nodes t r (tree.key_value_pat_prop s k value) = at t (codes "Property") s ∷ (nodes t plain k ++ nodes t plain value)
  nodes t r (tree.assign_pat_prop s k value) =
      at t (codes "Property") s ∷ (nodes t plain k ++ (cond (is_absent value) (nodes t plain k) (at t (codes "AssignmentPattern") s ∷ (nodes t plain k ++ nodes t plain value))))
  nodes t r (tree.assign_pat s left right) = at t (codes "AssignmentPattern") s ∷ (nodes t plain left ++ nodes t plain right)
  nodes t r (tree.expr_pat e) = nodes t plain e
  nodes t r (tree.invalid_pat s) = at t (codes "Invalid") s ∷ []
  -- functions
  nodes t (function kind name start) (tree.function s ds params body is_async is_generator) = node_of t kind start s.hi.0 ∷ (read name ++ (nodes t plain params ++ nodes t directives body))
  nodes t r (tree.function s ds params body is_async is_generator) = cond (is_empty ds) [] (nodes t plain ds)
  nodes t r (tree.param s ds pat) = nodes t plain pat
  nodes t r (tree.decorator s e) = at t (codes "Decorator") s ∷ nodes t plain e
  -- classes
  nodes t (class kind name name_end) (tree.class s ds body super_class) =
      at t kind s ∷ (read name ++ (nodes t plain super_class ++ (node_of t (codes "ClassBody") (brace t s ds super_class name_end) s.hi.0 ∷ (nodes t members body ++ cond (is_empty ds) [] (nodes t plain ds)))))
  nodes t r (tree.class s ds body super_class) = []
  nodes t r (tree.constructor s k params body) = at t (codes "MethodDefinition") s ∷ (nodes t plain k ++ (method_value t k s ∷ (nodes t plain params ++ nodes t directives body)))
  nodes t r (tree.method s k fn kind is_static) = at t (codes "MethodDefinition") s ∷ (nodes t plain k ++ (nodes t (method_role t k) fn ++ nodes t plain fn))
  nodes t r (tree.private_method s k fn kind is_static) = at t (codes "MethodDefinition") s ∷ (nodes t plain k ++ (nodes t (method_role t k) fn ++ nodes t plain fn))
  nodes t r (tree.class_prop s k value is_static ds) = at t (codes "PropertyDefinition") s ∷ (nodes t plain k ++ (nodes t plain value ++ cond (is_empty ds) [] (nodes t plain ds)))
  nodes t r (tree.private_prop s k value is_static ds) = at t (codes "PropertyDefinition") s ∷ (nodes t plain k ++ (nodes t plain value ++ cond (is_empty ds) [] (nodes t plain ds)))
  nodes t r (tree.auto_accessor s k value is_static ds) = at t (codes "AccessorProperty") s ∷ (nodes t plain k ++ (nodes t plain value ++ cond (is_empty ds) [] (nodes t plain ds)))
  nodes t r (tree.static_block s body) = at t (codes "StaticBlock") s ∷ nodes t bare body
  nodes t r (tree.empty_member s) = []
  -- declarations
  nodes t r (tree.class_decl name body) = nodes t (class (codes "ClassDeclaration") (json t plain name) (end_of name)) body
  nodes t r (tree.fn_decl name fn) = nodes t (function (codes "FunctionDeclaration") (json t plain name) (span_of fn).lo.0) fn
  nodes t r (tree.var s kind decls) = at t (codes "VariableDeclaration") s ∷ nodes t plain decls
  nodes t r (tree.using s is_await decls) = at t (codes "VariableDeclaration") s ∷ nodes t plain decls
  nodes t r (tree.declarator s name init) = at t (codes "VariableDeclarator") s ∷ (nodes t plain name ++ nodes t plain init)
  -- statements
  nodes t r (tree.block s stmts) = cond (is_bare r) (nodes t plain stmts) (at t (codes "BlockStatement") s ∷ nodes t r stmts)
  nodes t r (tree.empty s) = at t (codes "EmptyStatement") s ∷ []
  nodes t r (tree.debugger s) = at t (codes "DebuggerStatement") s ∷ []
  nodes t r (tree.with s obj body) = at t (codes "WithStatement") s ∷ (nodes t plain obj ++ nodes t plain body)
  nodes t r (tree.return s arg) = at t (codes "ReturnStatement") s ∷ nodes t plain arg
  nodes t r (tree.labeled s label body) = at t (codes "LabeledStatement") s ∷ (nodes t plain body ++ nodes t plain label)
  nodes t r (tree.break s label) = at t (codes "BreakStatement") s ∷ nodes t plain label
  nodes t r (tree.continue s label) = at t (codes "ContinueStatement") s ∷ nodes t plain label
  nodes t r (tree.if_stmt s test cons alt) = at t (codes "IfStatement") s ∷ (nodes t plain test ++ (nodes t plain cons ++ nodes t plain alt))
  nodes t r (tree.switch s discriminant cases) = at t (codes "SwitchStatement") s ∷ (nodes t plain discriminant ++ nodes t plain cases)
  nodes t r (tree.case s test cons) = at t (codes "SwitchCase") s ∷ (nodes t plain cons ++ nodes t plain test)
  nodes t r (tree.throw s arg) = at t (codes "ThrowStatement") s ∷ nodes t plain arg
  nodes t r (tree.try s body handler finalizer) = at t (codes "TryStatement") s ∷ (nodes t plain body ++ (nodes t plain handler ++ nodes t plain finalizer))
  nodes t r (tree.catch s pattern body) = at t (codes "CatchClause") s ∷ (nodes t plain pattern ++ nodes t plain body)
  nodes t r (tree.while s test body) = at t (codes "WhileStatement") s ∷ (nodes t plain test ++ nodes t plain body)
  nodes t r (tree.do_while s test body) = at t (codes "DoWhileStatement") s ∷ (nodes t plain body ++ nodes t plain test)
  nodes t r (tree.for s init test next body) = at t (codes "ForStatement") s ∷ (nodes t plain init ++ (nodes t plain test ++ (nodes t plain next ++ nodes t plain body)))
  nodes t r (tree.for_in s left right body) = at t (codes "ForInStatement") s ∷ (nodes t plain left ++ (nodes t plain right ++ nodes t plain body))
  nodes t r (tree.for_of s is_await left right body) = at t (codes "ForOfStatement") s ∷ (nodes t plain left ++ (nodes t plain right ++ nodes t plain body))
  nodes t r (tree.expr_stmt s e) = at t (codes "ExpressionStatement") s ∷ nodes t plain e
  -- imports and exports
  nodes t r (tree.import s specifiers src attrs phase) = at t (codes "ImportDeclaration") s ∷ (nodes t plain specifiers ++ (nodes t plain src ++ nodes t attributes attrs))
  nodes t r (tree.import_named s local imported) = at t (codes "ImportSpecifier") s ∷ (cond (is_absent imported) (nodes t plain local) (nodes t plain imported) ++ nodes t plain local)
  nodes t r (tree.import_default s local) = at t (codes "ImportDefaultSpecifier") s ∷ nodes t plain local
  nodes t r (tree.import_namespace s local) = at t (codes "ImportNamespaceSpecifier") s ∷ nodes t plain local
  nodes t r (tree.export_decl s decl) = at t (codes "ExportNamedDeclaration") s ∷ nodes t plain decl
  nodes t r (tree.export_named s specifiers src attrs) =
      cond (is_namespace_alone specifiers) (at t (codes "ExportAllDeclaration") s ∷ (nodes t bare specifiers ++ (nodes t plain src ++ nodes t attributes attrs))) (at t (codes "ExportNamedDeclaration") s ∷ (nodes t plain specifiers ++ (nodes t plain src ++ nodes t attributes attrs)))
  nodes t r (tree.export_default_decl s decl) = at t (codes "ExportDefaultDeclaration") s ∷ nodes t declared decl
  nodes t r (tree.export_default_expr s e) = at t (codes "ExportDefaultDeclaration") s ∷ nodes t plain e
  nodes t r (tree.export_all s src attrs) = at t (codes "ExportAllDeclaration") s ∷ (nodes t plain src ++ nodes t attributes attrs)
  nodes t r (tree.export_namespace s name) = cond (is_bare r) (nodes t plain name) (at t (codes "ExportNamespaceSpecifier") s ∷ nodes t plain name)
  nodes t r (tree.export_default exported) = at t (codes "ExportDefaultSpecifier") (span_of exported) ∷ nodes t plain exported
  nodes t r (tree.export_specifier s orig exported) = at t (codes "ExportSpecifier") s ∷ (nodes t plain orig ++ cond (is_absent exported) (nodes t plain orig) (nodes t plain exported))
  -- wholes: from the start of the text to its end
  nodes t r (tree.script s body shebang) = node_of t (codes "Program") 0 (length t.places.text) ∷ (nodes t directives body ++ read t.fields)
  nodes t r (tree.module_program s body shebang) = node_of t (codes "Program") 0 (length t.places.text) ∷ (nodes t directives body ++ read t.fields)

  -- the parts of a list; but an argument is one of them
  pub all_nodes : Source → Role → Trees → List Node
  all_nodes t r none = []
  all_nodes t (argument n) (also x xs) = cond (is_zero n) (nodes t plain x) (all_nodes t (argument (n - 1)) xs)
  all_nodes t r (also x xs) = cond (skips r x) (all_nodes t r xs) (nodes t (next r x) x ++ all_nodes t (next r x) xs)
