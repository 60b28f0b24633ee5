-- A tree as ESTree, in the form of acorn: the text of its JSON. What a form is called, its fields and their order are acorn's; what ESTree
-- has no form for is said in docs/ESTREE.md.
use Rattle.std.specs.Prelude.{ℕ, zero, suc, List, [], ◌++◌, ◌+◌, ◌-◌, Bool, true, false, not, ◌&&◌, Option, Some, None, cond, codes, length, max}
use Rattle.ecma_estree_text.specs.Quoted.{quoted}
use Rattle.ecma_estree_text.specs.Bracket.{bracket}
use Rattle.ecma_estree_text.specs.Number.{number_text}
use Rattle.ecma_estree_text.specs.Strings.{string_text}
use Rattle.ecma_estree_writer.specs.Source.{Source}
use Rattle.ecma_estree_writer.specs.Words.{bool_word, kind_word, using_word, method_word, unary_word, update_word, binary_word, binary_kind, assign_word}
use Rattle.ecma_estree_writer.specs.Parts.{node, node_at, key, word_field, bool_field, end, open_list, end_list, nothing, comma, identifier, word_name, literal, big_literal, regex_literal, template_element, directive, end_of_last, phase_field, is_namespace_alone, is_import, is_empty_member, is_empty}
use Rattle.swc_ecma_parser_ast.specs.Parts.{as_expr}
use Rattle.swc_ecma_parser_common.specs.declared.span.Span.{Span}
use Rattle.swc_ecma_parser_model.specs.declared.leaves.MetaPropKind.TheVariants as meta
use Rattle.swc_ecma_parser_model.specs.Directive.{is_string_statement}
use Rattle.swc_ecma_parser_model.specs.Forms.{span_of, is_absent, is_chain}
use Rattle.swc_ecma_parser_model.specs.Kinds.{is_block, is_computed}
use Rattle.swc_ecma_parser_model.specs.Tree as tree
use Rattle.swc_ecma_parser_model.specs.Tree.{Tree, Trees, none, also}

-- what a tree is written as, where that is not plain
pub data Role : Type 0 where
  plain : Role
  -- statements that may be directives: a body, its list, and what stands in it
  directives : Role
  -- the members of a class
  members : Role
  -- the attributes of an import, which are an object, its list, and a property
  attributes : Role
  -- what stands in the braces of a block, or behind the `as` of a namespace
  bare : Role
  -- an argument of a call, by its number, and `null` where there are fewer
  argument : ℕ → Role
  -- a link of an optional chain within the node of the chain, and the member or call that a link is, with or without `?.` before it
  link : Role
  linked : (optional : Bool) → Role
  -- a function or a class that is exported by default, which is a declaration
  declared : Role
  -- the decorators of a function, as a field
  decorators : Role
  -- a function of a kind and with a name, which is text already, from a place on
  function : (kind name : List ℕ) → (start : ℕ) → Role
  -- a class of a kind and with a name, which ends at a place if there is one
  class : (kind name : List ℕ) → (name_end : ℕ) → Role

abbrev pub is_bare : Role → Bool
is_bare bare = true
is_bare _ = false

abbrev pub is_attributes : Role → Bool
is_attributes attributes = true
is_attributes _ = false

abbrev pub is_directives : Role → Bool
is_directives directives = true
is_directives _ = false

abbrev pub is_link : Role → Bool
is_link link = true
is_link _ = false

abbrev pub is_optional : Role → Bool
is_optional (linked optional) = optional
is_optional _ = false

-- what a link is a link of, which is another link or where the chain begins
abbrev pub link_role : Tree → Role
link_role x = cond (is_chain x) link plain

-- what a member or a call is one of
abbrev pub inner : Role → Tree → Role
inner (linked optional) x = link_role x
inner _ x = plain

abbrev pub function_kind : Role → List ℕ
function_kind declared = codes "FunctionDeclaration"
function_kind _ = codes "FunctionExpression"

abbrev pub class_kind : Role → List ℕ
class_kind declared = codes "ClassDeclaration"
class_kind _ = codes "ClassExpression"

abbrev pub is_zero : ℕ → Bool
is_zero zero = true
is_zero (suc n) = false

-- what is no part of the list that is written
abbrev pub skips : Role → Tree → Bool
skips members x = is_empty_member x
skips _ x = false

-- what a part of a list and the parts behind it are written as
abbrev pub next : Role → Tree → Role
next directives x = cond (is_string_statement x) directives plain
next r x = r

-- the end of a name; 0 of none
abbrev pub end_of : Tree → ℕ
end_of x = cond (is_absent x) 0 (span_of x).hi.0

-- the end of an expression; 0 of what is none
abbrev pub expr_end : Tree → ℕ
expr_end x = (span_of (as_expr x)).hi.0

-- the same of one that may be left out
abbrev pub end_of_optional : Tree → ℕ
end_of_optional x = cond (is_absent x) 0 (expr_end x)

-- where the brace of a class begins: behind what it extends, its name, and its decorators
abbrev pub brace : Source → Span → (decorators super_class : Tree) → (name_end : ℕ) → ℕ
brace text s ds super_class name_end = bracket text.places.text 123 (max (end_of_optional super_class) (max name_end (end_of_last s.lo.0 ds)))

-- a function without a name that is the value of a method, from its parenthesis on
abbrev pub method_role : Source → (key : Tree) → Role
method_role text k = function (codes "FunctionExpression") nothing (bracket text.places.text 40 (span_of k).hi.0)

-- the parts of a function that are before its parameters
abbrev pub function_fields : (name : List ℕ) → (is_expression is_generator is_async : Bool) → List ℕ
function_fields name is_expression is_generator is_async =
    key (codes "id") ++ (name ++ (bool_field (codes "expression") is_expression ++ (bool_field (codes "generator") is_generator ++ bool_field (codes "async") is_async)))

-- how the value of a method begins that has its parameters and its body in itself
abbrev pub accessor : Source → (key : Tree) → Span → List ℕ
accessor text k s =
    node_at text (codes "FunctionExpression") (bracket text.places.text 40 (span_of k).hi.0) s.hi.0 ++ function_fields nothing false false false

-- how a member of a class begins, up to its key
abbrev pub member_head : Source → (kind : List ℕ) → Span → (is_static is_computed_key : Bool) → List ℕ
member_head text kind s is_static is_computed_key =
    node text kind s ++ (bool_field (codes "static") is_static ++ (bool_field (codes "computed") is_computed_key ++ key (codes "key")))

-- how a property begins: whether it is a method, a shorthand, and has a computed key
abbrev pub property : Source → Span → (is_method is_shorthand is_computed_key : Bool) → List ℕ
property text s is_method is_shorthand is_computed_key =
    node text (codes "Property") s ++ (bool_field (codes "method") is_method ++ (bool_field (codes "shorthand") is_shorthand ++ bool_field (codes "computed") is_computed_key))

abbrev mutual
  pub json : Source → Role → Tree → List ℕ
  json t r tree.absent = cond (is_attributes r) [] nothing
  json t r (tree.list ts) = jsons t r true ts
  -- names and literals
  json t r (tree.ident s name) = identifier t s name
  json t r (tree.str s value raw) = literal t s (string_text value raw) raw
  json t r (tree.bool s b) = literal t s (bool_word b) (bool_word b)
  json t r (tree.null s) = literal t s (codes "null") (codes "null")
  json t r (tree.num s raw) = literal t s (number_text raw) raw
  json t r (tree.big_int s raw) = big_literal t s raw
  json t r (tree.regex s exp flags) = regex_literal t s exp flags
  -- further primary expressions
  json t r (tree.this s) = node t (codes "ThisExpression") s ++ end
  json t r (tree.array s elems) = node t (codes "ArrayExpression") s ++ (key (codes "elements") ++ (open_list ++ (json t plain elems ++ (end_list ++ end))))
  json t r (tree.object s props) =
      cond (is_attributes r)
      (json t attributes props)
      (node t (codes "ObjectExpression") s ++ (key (codes "properties") ++ (open_list ++ (json t plain props ++ (end_list ++ end)))))
  json t r (tree.fn_expr s name fn) = json t (function (function_kind r) (json t plain name) s.lo.0) fn
  json t r (tree.class_expr s name body) = json t (class (class_kind r) (json t plain name) (end_of name)) body
  json t r (tree.paren s e) = json t plain e
  json t r (tree.meta_prop s meta.ImportMeta) =
      node t (codes "MetaProperty") s ++ (key (codes "meta") ++ (word_name t (codes "import") s.lo.0 (s.lo.0 + 6) ++ (key (codes "property") ++ (word_name t (codes "meta") (s.hi.0 - 4) s.hi.0 ++ end))))
  json t r (tree.meta_prop s meta.NewTarget) =
      node t (codes "MetaProperty") s ++ (key (codes "meta") ++ (word_name t (codes "new") s.lo.0 (s.lo.0 + 3) ++ (key (codes "property") ++ (word_name t (codes "target") (s.hi.0 - 6) s.hi.0 ++ end))))
  json t r (tree.invalid s) = node t (codes "Invalid") s ++ end
  -- operators
  json t r (tree.unary s op arg) =
      node t (codes "UnaryExpression") s ++ (word_field (codes "operator") (unary_word op) ++ (bool_field (codes "prefix") true ++ (key (codes "argument") ++ (json t plain arg ++ end))))
  json t r (tree.update s op prefix arg) =
      node t (codes "UpdateExpression") s ++ (word_field (codes "operator") (update_word op) ++ (bool_field (codes "prefix") prefix ++ (key (codes "argument") ++ (json t plain arg ++ end))))
  json t r (tree.bin s op left right) =
      node t (binary_kind op) s ++ (key (codes "left") ++ (json t plain left ++ (word_field (codes "operator") (binary_word op) ++ (key (codes "right") ++ (json t plain right ++ end)))))
  json t r (tree.assign s op left right) =
      node t (codes "AssignmentExpression") s ++ (word_field (codes "operator") (assign_word op) ++ (key (codes "left") ++ (json t plain left ++ (key (codes "right") ++ (json t plain right ++ end)))))
  json t r (tree.cond s test cons alt) =
      node t (codes "ConditionalExpression") s ++ (key (codes "test") ++ (json t plain test ++ (key (codes "consequent") ++ (json t plain cons ++ (key (codes "alternate") ++ (json t plain alt ++ end))))))
  json t r (tree.seq s exprs) = node t (codes "SequenceExpression") s ++ (key (codes "expressions") ++ (open_list ++ (json t plain exprs ++ (end_list ++ end))))
  -- members and calls
  json t r (tree.member s obj prop) =
      node t (codes "MemberExpression") s ++ (key (codes "object") ++ (json t (inner r obj) obj ++ (key (codes "property") ++ (json t plain prop ++ (bool_field (codes "computed") (is_computed prop) ++ (bool_field (codes "optional") (is_optional r) ++ end))))))
  json t r (tree.super_prop s word prop) =
      node t (codes "MemberExpression") s ++ (key (codes "object") ++ (node t (codes "Super") word ++ (end ++ (key (codes "property") ++ (json t plain prop ++ (bool_field (codes "computed") (is_computed prop) ++ (bool_field (codes "optional") false ++ end)))))))
  json t r (tree.call s callee args) =
      cond (is_import callee)
      (node t (codes "ImportExpression") s ++ (key (codes "source") ++ (json t (argument 0) args ++ (key (codes "options") ++ (json t (argument 1) args ++ end)))))
      (node t (codes "CallExpression") s ++ (key (codes "callee") ++ (json t (inner r callee) callee ++ (key (codes "arguments") ++ (open_list ++ (json t plain args ++ (end_list ++ (bool_field (codes "optional") (is_optional r) ++ end))))))))
  json t r (tree.new s callee args) =
      node t (codes "NewExpression") s ++ (key (codes "callee") ++ (json t plain callee ++ (key (codes "arguments") ++ (open_list ++ (cond (is_absent args) [] (json t plain args) ++ (end_list ++ end))))))
  -- templates and optional chains
  json t r (tree.tpl s exprs quasis) =
      node t (codes "TemplateLiteral") s ++ (key (codes "expressions") ++ (open_list ++ (json t plain exprs ++ (end_list ++ (key (codes "quasis") ++ (open_list ++ (json t plain quasis ++ (end_list ++ end))))))))
  json t r (tree.tagged_tpl s tag template) =
      node t (codes "TaggedTemplateExpression") s ++ (key (codes "tag") ++ (json t plain tag ++ (key (codes "quasi") ++ (json t plain template ++ end))))
  json t r (tree.opt_chain s optional base) =
      cond (is_link r) (json t (linked optional) base) (node t (codes "ChainExpression") s ++ (key (codes "expression") ++ (json t (linked optional) base ++ end)))
  json t r (tree.arrow s params body is_async) =
      node t (codes "ArrowFunctionExpression") s ++ (function_fields nothing (not (is_block body)) false is_async ++ (key (codes "params") ++ (open_list ++ (json t plain params ++ (end_list ++ (key (codes "body") ++ (cond (is_block body) (json t directives body) (json t plain body) ++ end)))))))
  json t r (tree.yield s arg delegate) =
      node t (codes "YieldExpression") s ++ (bool_field (codes "delegate") delegate ++ (key (codes "argument") ++ (json t plain arg ++ end)))
  json t r (tree.await s arg) = node t (codes "AwaitExpression") s ++ (key (codes "argument") ++ (json t plain arg ++ end))
  -- parts of expressions
  json t r (tree.element None e) = json t plain e
  json t r (tree.element (Some dots) e) =
      node_at t (codes "SpreadElement") dots.lo.0 (expr_end e) ++ (key (codes "argument") ++ (json t plain e ++ end))
  json t r (tree.private_name s word name) = node t (codes "PrivateIdentifier") s ++ (key (codes "name") ++ (quoted name ++ end))
  json t r (tree.computed s e) = json t plain e
  json t r (tree.super_callee s) = node t (codes "Super") s ++ end
  json t r (tree.import_callee s) = node t (codes "Import") s ++ end
  json t r (tree.quasi s tail cooked raw) = template_element t s tail cooked raw
  -- parts of objects
  json t r (tree.spread_prop dots e) =
      node_at t (codes "SpreadElement") dots.lo.0 (expr_end e) ++ (key (codes "argument") ++ (json t plain e ++ end))
  json t r (tree.shorthand_prop s name) =
      property t s false true false ++ (key (codes "key") ++ (identifier t s name ++ (key (codes "value") ++ (identifier t s name ++ (word_field (codes "kind") (codes "init") ++ end)))))
  json t r (tree.key_value_prop s k value) =
      cond (is_attributes r)
      (node t (codes "ImportAttribute") s ++ (key (codes "key") ++ (json t plain k ++ (key (codes "value") ++ (json t plain value ++ end)))))
      (property t s false false (is_computed k) ++ (key (codes "key") ++ (json t plain k ++ (key (codes "value") ++ (json t plain value ++ (word_field (codes "kind") (codes "init") ++ end))))))
  json t r (tree.assign_prop s k value) =
      property t s false true false ++ (key (codes "key") ++ (json t plain k ++ (key (codes "value")
      ++ (node t (codes "AssignmentPattern") s ++ (key (codes "left") ++ (json t plain k ++ (key (codes "right") ++ (json t plain value ++ (end ++ (word_field (codes "kind") (codes "init") ++ end))))))))))
  json t r (tree.getter_prop s k body) =
      property t s false false (is_computed k) ++ (key (codes "key") ++ (json t plain k ++ (key (codes "value")
      ++ (accessor t k s ++ (key (codes "params") ++ (open_list ++ (end_list ++ (key (codes "body") ++ (json t directives body ++ (end ++ (word_field (codes "kind") (codes "get") ++ end)))))))))))
  json t r (tree.setter_prop s k pattern body) =
      property t s false false (is_computed k) ++ (key (codes "key") ++ (json t plain k ++ (key (codes "value")
      ++ (accessor t k s ++ (key (codes "params") ++ (open_list ++ (json t plain pattern ++ (end_list ++ (key (codes "body") ++ (json t directives body ++ (end ++ (word_field (codes "kind") (codes "set") ++ end))))))))))))
  json t r (tree.method_prop s k fn) =
      property t s true false (is_computed k) ++ (key (codes "key") ++ (json t plain k ++ (key (codes "value") ++ (json t (method_role t k) fn ++ (word_field (codes "kind") (codes "init") ++ end)))))
  -- patterns
  json t r (tree.ident_pat s name) = identifier t s name
  json t r (tree.array_pat s elems) = node t (codes "ArrayPattern") s ++ (key (codes "elements") ++ (open_list ++ (json t plain elems ++ (end_list ++ end))))
  json t r (tree.rest_pat s arg) = node t (codes "RestElement") s ++ (key (codes "argument") ++ (json t plain arg ++ end))
  json t r (tree.object_pat s props) = node t (codes "ObjectPattern") s ++ (key (codes "properties") ++ (open_list ++ (json t plain props ++ (end_list ++ end))))
  json t r (tree.key_value_pat_prop s k value) =
      property t s false false (is_computed k) ++ (key (codes "key") ++ (json t plain k ++ (key (codes "value") ++ (json t plain value ++ (word_field (codes "kind") (codes "init") ++ end)))))
  json t r (tree.assign_pat_prop s k value) =
      property t s false true false ++ (key (codes "key") ++ (json t plain k ++ (key (codes "value")
      ++ (cond (is_absent value)
      (json t plain k)
      (node t (codes "AssignmentPattern") s ++ (key (codes "left") ++ (json t plain k ++ (key (codes "right") ++ (json t plain value ++ end)))))
      ++ (word_field (codes "kind") (codes "init") ++ end)))))
  json t r (tree.assign_pat s left right) =
      node t (codes "AssignmentPattern") s ++ (key (codes "left") ++ (json t plain left ++ (key (codes "right") ++ (json t plain right ++ end))))
  json t r (tree.expr_pat e) = json t plain e
  json t r (tree.invalid_pat s) = node t (codes "Invalid") s ++ end
  -- functions
  json t (function kind name start) (tree.function s ds params body is_async is_generator) =
      node_at t kind start s.hi.0 ++ (function_fields name false is_generator is_async ++ (key (codes "params") ++ (open_list ++ (json t plain params ++ (end_list ++ (key (codes "body") ++ (json t directives body ++ end)))))))
  json t r (tree.function s ds params body is_async is_generator) = cond (is_empty ds) [] (key (codes "decorators") ++ (open_list ++ (json t plain ds ++ end_list)))
  json t r (tree.param s ds pat) = json t plain pat
  json t r (tree.decorator s e) = node t (codes "Decorator") s ++ (key (codes "expression") ++ (json t plain e ++ end))
  -- classes
  json t (class kind name name_end) (tree.class s ds body super_class) =
      node t kind s ++ (key (codes "id") ++ (name ++ (key (codes "superClass") ++ (json t plain super_class ++ (key (codes "body")
      ++ (node_at t (codes "ClassBody") (brace t s ds super_class name_end) s.hi.0 ++ (key (codes "body") ++ (open_list ++ (json t members body ++ (end_list ++ (end ++ (cond (is_empty ds) [] (key (codes "decorators") ++ (open_list ++ (json t plain ds ++ end_list))) ++ end))))))))))))
  json t r (tree.class s ds body super_class) = []
  json t r (tree.constructor s k params body) =
      member_head t (codes "MethodDefinition") s false (is_computed k) ++ (json t plain k ++ (word_field (codes "kind") (codes "constructor") ++ (key (codes "value")
      ++ (accessor t k s ++ (key (codes "params") ++ (open_list ++ (json t plain params ++ (end_list ++ (key (codes "body") ++ (json t directives body ++ (end ++ end)))))))))))
  json t r (tree.method s k fn kind is_static) =
      member_head t (codes "MethodDefinition") s is_static (is_computed k) ++ (json t plain k ++ (word_field (codes "kind") (method_word kind) ++ (key (codes "value")
      ++ (json t (method_role t k) fn ++ (json t plain fn ++ end)))))
  json t r (tree.private_method s k fn kind is_static) =
      member_head t (codes "MethodDefinition") s is_static false ++ (json t plain k ++ (word_field (codes "kind") (method_word kind) ++ (key (codes "value")
      ++ (json t (method_role t k) fn ++ (json t plain fn ++ end)))))
  json t r (tree.class_prop s k value is_static ds) =
      member_head t (codes "PropertyDefinition") s is_static (is_computed k) ++ (json t plain k ++ (key (codes "value") ++ (json t plain value
      ++ (cond (is_empty ds) [] (key (codes "decorators") ++ (open_list ++ (json t plain ds ++ end_list))) ++ end))))
  json t r (tree.private_prop s k value is_static ds) =
      member_head t (codes "PropertyDefinition") s is_static false ++ (json t plain k ++ (key (codes "value") ++ (json t plain value
      ++ (cond (is_empty ds) [] (key (codes "decorators") ++ (open_list ++ (json t plain ds ++ end_list))) ++ end))))
  json t r (tree.auto_accessor s k value is_static ds) =
      member_head t (codes "AccessorProperty") s is_static (is_computed k) ++ (json t plain k ++ (key (codes "value") ++ (json t plain value
      ++ (cond (is_empty ds) [] (key (codes "decorators") ++ (open_list ++ (json t plain ds ++ end_list))) ++ end))))
  json t r (tree.static_block s body) = node t (codes "StaticBlock") s ++ (key (codes "body") ++ (open_list ++ (json t bare body ++ (end_list ++ end))))
  json t r (tree.empty_member s) = []
  -- declarations
  json t r (tree.class_decl name body) = json t (class (codes "ClassDeclaration") (json t plain name) (end_of name)) body
  json t r (tree.fn_decl name fn) = json t (function (codes "FunctionDeclaration") (json t plain name) (span_of fn).lo.0) fn
  json t r (tree.var s kind decls) =
      node t (codes "VariableDeclaration") s ++ (key (codes "declarations") ++ (open_list ++ (json t plain decls ++ (end_list ++ (word_field (codes "kind") (kind_word kind) ++ end)))))
  json t r (tree.using s is_await decls) =
      node t (codes "VariableDeclaration") s ++ (key (codes "declarations") ++ (open_list ++ (json t plain decls ++ (end_list ++ (word_field (codes "kind") (using_word is_await) ++ end)))))
  json t r (tree.declarator s name init) =
      node t (codes "VariableDeclarator") s ++ (key (codes "id") ++ (json t plain name ++ (key (codes "init") ++ (json t plain init ++ end))))
  -- statements
  json t r (tree.block s stmts) =
      cond (is_bare r)
      (json t plain stmts)
      (node t (codes "BlockStatement") s ++ (key (codes "body") ++ (open_list ++ (json t r stmts ++ (end_list ++ end)))))
  json t r (tree.empty s) = node t (codes "EmptyStatement") s ++ end
  json t r (tree.debugger s) = node t (codes "DebuggerStatement") s ++ end
  json t r (tree.with s obj body) =
      node t (codes "WithStatement") s ++ (key (codes "object") ++ (json t plain obj ++ (key (codes "body") ++ (json t plain body ++ end))))
  json t r (tree.return s arg) = node t (codes "ReturnStatement") s ++ (key (codes "argument") ++ (json t plain arg ++ end))
  json t r (tree.labeled s label body) =
      node t (codes "LabeledStatement") s ++ (key (codes "body") ++ (json t plain body ++ (key (codes "label") ++ (json t plain label ++ end))))
  json t r (tree.break s label) = node t (codes "BreakStatement") s ++ (key (codes "label") ++ (json t plain label ++ end))
  json t r (tree.continue s label) = node t (codes "ContinueStatement") s ++ (key (codes "label") ++ (json t plain label ++ end))
  json t r (tree.if_stmt s test cons alt) =
      node t (codes "IfStatement") s ++ (key (codes "test") ++ (json t plain test ++ (key (codes "consequent") ++ (json t plain cons ++ (key (codes "alternate") ++ (json t plain alt ++ end))))))
  json t r (tree.switch s discriminant cases) =
      node t (codes "SwitchStatement") s ++ (key (codes "discriminant") ++ (json t plain discriminant ++ (key (codes "cases") ++ (open_list ++ (json t plain cases ++ (end_list ++ end))))))
  json t r (tree.case s test cons) =
      node t (codes "SwitchCase") s ++ (key (codes "consequent") ++ (open_list ++ (json t plain cons ++ (end_list ++ (key (codes "test") ++ (json t plain test ++ end))))))
  json t r (tree.throw s arg) = node t (codes "ThrowStatement") s ++ (key (codes "argument") ++ (json t plain arg ++ end))
  json t r (tree.try s body handler finalizer) =
      node t (codes "TryStatement") s ++ (key (codes "block") ++ (json t plain body ++ (key (codes "handler") ++ (json t plain handler ++ (key (codes "finalizer") ++ (json t plain finalizer ++ end))))))
  json t r (tree.catch s pattern body) =
      node t (codes "CatchClause") s ++ (key (codes "param") ++ (json t plain pattern ++ (key (codes "body") ++ (json t plain body ++ end))))
  json t r (tree.while s test body) =
      node t (codes "WhileStatement") s ++ (key (codes "test") ++ (json t plain test ++ (key (codes "body") ++ (json t plain body ++ end))))
  json t r (tree.do_while s test body) =
      node t (codes "DoWhileStatement") s ++ (key (codes "body") ++ (json t plain body ++ (key (codes "test") ++ (json t plain test ++ end))))
  json t r (tree.for s init test next body) =
      node t (codes "ForStatement") s ++ (key (codes "init") ++ (json t plain init ++ (key (codes "test") ++ (json t plain test ++ (key (codes "update") ++ (json t plain next ++ (key (codes "body") ++ (json t plain body ++ end))))))))
  json t r (tree.for_in s left right body) =
      node t (codes "ForInStatement") s ++ (key (codes "left") ++ (json t plain left ++ (key (codes "right") ++ (json t plain right ++ (key (codes "body") ++ (json t plain body ++ end))))))
  json t r (tree.for_of s is_await left right body) =
      node t (codes "ForOfStatement") s ++ (bool_field (codes "await") is_await ++ (key (codes "left") ++ (json t plain left ++ (key (codes "right") ++ (json t plain right ++ (key (codes "body") ++ (json t plain body ++ end)))))))
  json t r (tree.expr_stmt s e) =
      node t (codes "ExpressionStatement") s ++ (key (codes "expression") ++ (json t plain e ++ (cond (is_directives r) (directive e) [] ++ end)))
  -- imports and exports
  json t r (tree.import s specifiers src attrs phase) =
      node t (codes "ImportDeclaration") s ++ (key (codes "specifiers") ++ (open_list ++ (json t plain specifiers ++ (end_list ++ (key (codes "source") ++ (json t plain src
      ++ (key (codes "attributes") ++ (open_list ++ (json t attributes attrs ++ (end_list ++ (phase_field phase ++ end)))))))))))
  json t r (tree.import_named s local imported) =
      node t (codes "ImportSpecifier") s ++ (key (codes "imported") ++ (cond (is_absent imported) (json t plain local) (json t plain imported) ++ (key (codes "local") ++ (json t plain local ++ end))))
  json t r (tree.import_default s local) = node t (codes "ImportDefaultSpecifier") s ++ (key (codes "local") ++ (json t plain local ++ end))
  json t r (tree.import_namespace s local) = node t (codes "ImportNamespaceSpecifier") s ++ (key (codes "local") ++ (json t plain local ++ end))
  json t r (tree.export_decl s decl) =
      node t (codes "ExportNamedDeclaration") s ++ (key (codes "declaration") ++ (json t plain decl ++ (key (codes "specifiers") ++ (open_list ++ (end_list ++ (key (codes "source") ++ (nothing
      ++ (key (codes "attributes") ++ (open_list ++ (end_list ++ end))))))))))
  json t r (tree.export_named s specifiers src attrs) =
      cond (is_namespace_alone specifiers)
      (node t (codes "ExportAllDeclaration") s ++ (key (codes "exported") ++ (json t bare specifiers ++ (key (codes "source") ++ (json t plain src
      ++ (key (codes "attributes") ++ (open_list ++ (json t attributes attrs ++ (end_list ++ end)))))))))
      (node t (codes "ExportNamedDeclaration") s ++ (key (codes "declaration") ++ (nothing ++ (key (codes "specifiers") ++ (open_list ++ (json t plain specifiers ++ (end_list
      ++ (key (codes "source") ++ (json t plain src ++ (key (codes "attributes") ++ (open_list ++ (json t attributes attrs ++ (end_list ++ end)))))))))))))
  json t r (tree.export_default_decl s decl) = node t (codes "ExportDefaultDeclaration") s ++ (key (codes "declaration") ++ (json t declared decl ++ end))
  json t r (tree.export_default_expr s e) = node t (codes "ExportDefaultDeclaration") s ++ (key (codes "declaration") ++ (json t plain e ++ end))
  json t r (tree.export_all s src attrs) =
      node t (codes "ExportAllDeclaration") s ++ (key (codes "exported") ++ (nothing ++ (key (codes "source") ++ (json t plain src
      ++ (key (codes "attributes") ++ (open_list ++ (json t attributes attrs ++ (end_list ++ end))))))))
  json t r (tree.export_namespace s name) =
      cond (is_bare r) (json t plain name) (node t (codes "ExportNamespaceSpecifier") s ++ (key (codes "exported") ++ (json t plain name ++ end)))
  json t r (tree.export_default exported) =
      node t (codes "ExportDefaultSpecifier") (span_of exported) ++ (key (codes "exported") ++ (json t plain exported ++ end))
  json t r (tree.export_specifier s orig exported) =
      node t (codes "ExportSpecifier") s ++ (key (codes "local") ++ (json t plain orig ++ (key (codes "exported") ++ (cond (is_absent exported) (json t plain orig) (json t plain exported) ++ end))))
  -- wholes: from the start of the text to its end
  json t r (tree.script s body shebang) =
      node_at t (codes "Program") 0 (length t.places.text) ++ (key (codes "body") ++ (open_list ++ (json t directives body ++ (end_list ++ (word_field (codes "sourceType") (codes "script") ++ (t.fields ++ end))))))
  json t r (tree.module_program s body shebang) =
      node_at t (codes "Program") 0 (length t.places.text) ++ (key (codes "body") ++ (open_list ++ (json t directives body ++ (end_list ++ (word_field (codes "sourceType") (codes "module") ++ (t.fields ++ end))))))

  -- the parts of a list; but an argument is one of them
  pub jsons : Source → Role → (is_first : Bool) → Trees → List ℕ
  jsons t (argument n) f none = nothing
  jsons t r f none = []
  jsons t (argument n) f (also x xs) = cond (is_zero n) (json t plain x) (jsons t (argument (n - 1)) f xs)
  jsons t r f (also x xs) = cond (skips r x) (jsons t r f xs) (comma f ++ (json t (next r x) x ++ jsons t (next r x) false xs))

-- what a function has behind its name
abbrev pub function_rest : Source → Tree → List ℕ
function_rest t (tree.function s ds params body is_async is_generator) =
    bool_field (codes "expression") false ++ (bool_field (codes "generator") is_generator ++ (bool_field (codes "async") is_async ++ (key (codes "params") ++ (open_list ++ (json t plain params ++ (end_list ++ (key (codes "body") ++ (json t directives body ++ end))))))))
function_rest t _ = []

-- decorators as a field, where there are some
abbrev pub decorator_field : Source → Tree → List ℕ
decorator_field t ds = cond (is_empty ds) [] (key (codes "decorators") ++ (open_list ++ (json t plain ds ++ end_list)))

-- what a class has behind its name
abbrev pub class_rest : Source → (name_end : ℕ) → Tree → List ℕ
class_rest t name_end (tree.class s ds body super_class) =
    key (codes "superClass") ++ (json t plain super_class ++ (key (codes "body")
    ++ (node_at t (codes "ClassBody") (brace t s ds super_class name_end) s.hi.0 ++ (key (codes "body") ++ (open_list ++ (json t members body ++ (end_list ++ (end ++ (decorator_field t ds ++ end)))))))))
class_rest t name_end _ = []

-- arguments, or nothing
abbrev pub arguments_text : Source → Tree → List ℕ
arguments_text t args = cond (is_absent args) [] (json t plain args)

-- a name, or another where there is none
abbrev pub first_or : Source → (name other : Tree) → List ℕ
first_or t name other = cond (is_absent name) (json t plain other) (json t plain name)
