-- The text of a tree is read as its JSON.
use Rattle.std.proofs.Common.{◌≡◌, ◌<◌, ◌^◌, ◌+◌, ◌-◌, ℕ, List, [], ◌++◌, Bool, true, false, not, cond, refl, codes, length, Option, Some, None}
use Rattle.ecma_estree_json.specs.Estree.{estree, function_node, class_node, decorated, picked, items, all_items}
use Rattle.ecma_estree_json.specs.Json.{Json, Fields}
use Rattle.ecma_estree_json.specs.Law.{ReadsBack}
use Rattle.ecma_estree_json.specs.Made.{none, null}
use Rattle.ecma_estree_json.specs.Parts.{Form, parenthesis}
use Rattle.ecma_estree_json.proofs.Chars.{all_simple}
use Rattle.ecma_estree_json.proofs.Values.{Spells, Leaves, Opens, no_value, no_fields, no_opens, null_spells, number_spells}
use Rattle.ecma_estree_json.proofs.Objects.{whole, none_opens, one_opens, parsed}
use Rattle.ecma_estree_json.proofs.Pieces.{Fits, Listed, no_listed, none_listed, item_listed, either_listed, either_spells, either_opens, nothing_spells, quoted_spells, bool_spells, node_starts, end_reads, last_reads, field_reads, inner_reads, list_reads, empty_reads, word_reads, bool_reads, identifier_spells, word_name_spells, literal_spells, big_literal_spells, regex_spells, element_spells, property_starts, member_starts, accessor_starts, function_fields_read, decorators_read, directive_reads, phase_reads, added_read, bare_reads}
use Rattle.ecma_estree_json.proofs.Strings.{string_spells}
use Rattle.ecma_estree_json.proofs.Words.{function_kind_simple, class_kind_simple, kind_simple, using_simple, method_simple, unary_simple, update_simple, binary_simple, binary_kind_simple, assign_simple}
use Rattle.ecma_estree_text.specs.Number.{number_text}
use Rattle.ecma_estree_writer.specs.Estree.{Role, plain, directives, members, attributes, bare, argument, declared, function, class, json, jsons, is_bare, is_attributes, is_directives, function_kind, class_kind, is_zero, skips, next, end_of, expr_end, brace, method_role, linked, is_link, is_optional, inner}
use Rattle.ecma_estree_writer.specs.Parts.{nothing, is_namespace_alone, is_import, is_empty}
use Rattle.ecma_estree_writer.specs.Words.{bool_word, kind_word, using_word, method_word, unary_word, update_word, binary_word, binary_kind, assign_word}
use Rattle.swc_ecma_parser_model.specs.declared.leaves.MetaPropKind.TheVariants as meta
use Rattle.swc_ecma_parser_model.specs.Forms.{span_of, is_absent}
use Rattle.swc_ecma_parser_model.specs.Kinds.{is_block, is_computed}
use Rattle.swc_ecma_parser_model.specs.Tree as tree
use Rattle.swc_ecma_parser_model.specs.Tree.{Tree, Trees}

mutual
  tree_reads : (f : Form) (r : Role) (x : Tree) → Fits f → Spells (json f.source r x) (estree f r x)
  tree_reads f r tree.absent w = either_spells (is_attributes r) no_value nothing_spells
  tree_reads f r (tree.list ts) w = picked_reads f r ts w
  -- names and literals
  tree_reads f r (tree.ident s name) w = identifier_spells f s name w
  tree_reads f r (tree.str s value raw) w = literal_spells f s raw w (string_spells value raw)
  tree_reads f r (tree.bool s b) w = literal_spells f s (bool_word b) w (bool_spells b)
  tree_reads f r (tree.null s) w = literal_spells f s (codes "null") w null_spells
  tree_reads f r (tree.num s raw) w = literal_spells f s raw w (number_spells (number_text raw))
  tree_reads f r (tree.big_int s raw) w = big_literal_spells f s raw w
  tree_reads f r (tree.regex s exp flags) w = regex_spells f s exp flags w
  -- further primary expressions
  tree_reads f r (tree.this s) w = whole (node_starts f (codes "ThisExpression") s.lo.0 s.hi.0 w refl last_reads)
  tree_reads f r (tree.array s elems) w =
      whole (node_starts f (codes "ArrayExpression") s.lo.0 s.hi.0 w refl (list_reads (codes "elements") refl (items_read f plain elems w) last_reads))
  tree_reads f r (tree.object s props) w =
      either_spells (is_attributes r) no_value (whole (node_starts f (codes "ObjectExpression") s.lo.0 s.hi.0 w refl
      (list_reads (codes "properties") refl (items_read f plain props w) last_reads)))
  tree_reads f r (tree.fn_expr s name fn) w =
      function_reads f (function_kind r) (json f.source plain name) (estree f plain name) s.lo.0 fn w (function_kind_simple r) (tree_reads f plain name w)
  tree_reads f r (tree.class_expr s name body) w =
      class_reads f (class_kind r) (json f.source plain name) (estree f plain name) (end_of name) body w (class_kind_simple r) (tree_reads f plain name w)
  tree_reads f r (tree.paren s e) w = tree_reads f plain e w
  tree_reads f r (tree.meta_prop s meta.ImportMeta) w =
      whole (node_starts f (codes "MetaProperty") s.lo.0 s.hi.0 w refl (field_reads (codes "meta") refl (word_name_spells f (codes "import") s.lo.0 (s.lo.0 + 6) w refl)
      (field_reads (codes "property") refl (word_name_spells f (codes "meta") (s.hi.0 - 4) s.hi.0 w refl) last_reads)))
  tree_reads f r (tree.meta_prop s meta.NewTarget) w =
      whole (node_starts f (codes "MetaProperty") s.lo.0 s.hi.0 w refl (field_reads (codes "meta") refl (word_name_spells f (codes "new") s.lo.0 (s.lo.0 + 3) w refl)
      (field_reads (codes "property") refl (word_name_spells f (codes "target") (s.hi.0 - 6) s.hi.0 w refl) last_reads)))
  tree_reads f r (tree.invalid s) w = whole (node_starts f (codes "Invalid") s.lo.0 s.hi.0 w refl last_reads)
  -- operators
  tree_reads f r (tree.unary s op arg) w =
      whole (node_starts f (codes "UnaryExpression") s.lo.0 s.hi.0 w refl (word_reads (codes "operator") (unary_word op) refl (unary_simple op)
      (bool_reads (codes "prefix") true refl (field_reads (codes "argument") refl (tree_reads f plain arg w) last_reads))))
  tree_reads f r (tree.update s op prefix arg) w =
      whole (node_starts f (codes "UpdateExpression") s.lo.0 s.hi.0 w refl (word_reads (codes "operator") (update_word op) refl (update_simple op)
      (bool_reads (codes "prefix") prefix refl (field_reads (codes "argument") refl (tree_reads f plain arg w) last_reads))))
  tree_reads f r (tree.bin s op left right) w =
      whole (node_starts f (binary_kind op) s.lo.0 s.hi.0 w (binary_kind_simple op) (field_reads (codes "left") refl (tree_reads f plain left w)
      (word_reads (codes "operator") (binary_word op) refl (binary_simple op) (field_reads (codes "right") refl (tree_reads f plain right w) last_reads))))
  tree_reads f r (tree.assign s op left right) w =
      whole (node_starts f (codes "AssignmentExpression") s.lo.0 s.hi.0 w refl (word_reads (codes "operator") (assign_word op) refl (assign_simple op)
      (field_reads (codes "left") refl (tree_reads f plain left w) (field_reads (codes "right") refl (tree_reads f plain right w) last_reads))))
  tree_reads f r (tree.cond s test cons alt) w =
      whole (node_starts f (codes "ConditionalExpression") s.lo.0 s.hi.0 w refl (field_reads (codes "test") refl (tree_reads f plain test w)
      (field_reads (codes "consequent") refl (tree_reads f plain cons w) (field_reads (codes "alternate") refl (tree_reads f plain alt w) last_reads))))
  tree_reads f r (tree.seq s exprs) w =
      whole (node_starts f (codes "SequenceExpression") s.lo.0 s.hi.0 w refl (list_reads (codes "expressions") refl (items_read f plain exprs w) last_reads))
  -- members and calls
  tree_reads f r (tree.member s obj prop) w =
      whole (node_starts f (codes "MemberExpression") s.lo.0 s.hi.0 w refl (field_reads (codes "object") refl (tree_reads f (inner r obj) obj w)
      (field_reads (codes "property") refl (tree_reads f plain prop w) (bool_reads (codes "computed") (is_computed prop) refl
      (bool_reads (codes "optional") (is_optional r) refl last_reads)))))
  tree_reads f r (tree.super_prop s word prop) w =
      whole (node_starts f (codes "MemberExpression") s.lo.0 s.hi.0 w refl (inner_reads (codes "object") refl
      (node_starts f (codes "Super") word.lo.0 word.hi.0 w refl end_reads) (field_reads (codes "property") refl (tree_reads f plain prop w)
      (bool_reads (codes "computed") (is_computed prop) refl (bool_reads (codes "optional") false refl last_reads)))))
  tree_reads f r (tree.call s callee args) w =
      either_spells (is_import callee) (whole (node_starts f (codes "ImportExpression") s.lo.0 s.hi.0 w refl
      (field_reads (codes "source") refl (tree_reads f (argument 0) args w) (field_reads (codes "options") refl (tree_reads f (argument 1) args w) last_reads)))) (whole
      (node_starts f (codes "CallExpression") s.lo.0 s.hi.0 w refl (field_reads (codes "callee") refl (tree_reads f (inner r callee) callee w)
      (list_reads (codes "arguments") refl (items_read f plain args w) (bool_reads (codes "optional") (is_optional r) refl last_reads)))))
  tree_reads f r (tree.new s callee args) w =
      whole (node_starts f (codes "NewExpression") s.lo.0 s.hi.0 w refl (field_reads (codes "callee") refl (tree_reads f plain callee w)
      (list_reads (codes "arguments") refl (either_opens (is_absent args) none_opens (items_read f plain args w)) last_reads)))
  tree_reads f r (tree.tpl s exprs quasis) w =
      whole (node_starts f (codes "TemplateLiteral") s.lo.0 s.hi.0 w refl (list_reads (codes "expressions") refl (items_read f plain exprs w)
      (list_reads (codes "quasis") refl (items_read f plain quasis w) last_reads)))
  tree_reads f r (tree.tagged_tpl s tag template) w =
      whole (node_starts f (codes "TaggedTemplateExpression") s.lo.0 s.hi.0 w refl (field_reads (codes "tag") refl (tree_reads f plain tag w)
      (field_reads (codes "quasi") refl (tree_reads f plain template w) last_reads)))
  tree_reads f r (tree.opt_chain s optional base) w =
      either_spells (is_link r) (tree_reads f (linked optional) base w) (whole (node_starts f (codes "ChainExpression") s.lo.0 s.hi.0 w refl
      (field_reads (codes "expression") refl (tree_reads f (linked optional) base w) last_reads)))
  tree_reads f r (tree.arrow s params body is_async) w =
      whole (node_starts f (codes "ArrowFunctionExpression") s.lo.0 s.hi.0 w refl (function_fields_read nothing (not (is_block body)) false is_async nothing_spells
      (list_reads (codes "params") refl (items_read f plain params w) (field_reads (codes "body") refl
      (either_spells (is_block body) (tree_reads f directives body w) (tree_reads f plain body w)) last_reads))))
  tree_reads f r (tree.yield s arg delegate) w =
      whole (node_starts f (codes "YieldExpression") s.lo.0 s.hi.0 w refl (bool_reads (codes "delegate") delegate refl
      (field_reads (codes "argument") refl (tree_reads f plain arg w) last_reads)))
  tree_reads f r (tree.await s arg) w =
      whole (node_starts f (codes "AwaitExpression") s.lo.0 s.hi.0 w refl (field_reads (codes "argument") refl (tree_reads f plain arg w) last_reads))
  -- parts of expressions
  tree_reads f r (tree.element None e) w = tree_reads f plain e w
  tree_reads f r (tree.element (Some dots) e) w =
      whole (node_starts f (codes "SpreadElement") dots.lo.0 (expr_end e) w refl (field_reads (codes "argument") refl (tree_reads f plain e w) last_reads))
  tree_reads f r (tree.private_name s word name) w =
      whole (node_starts f (codes "PrivateIdentifier") s.lo.0 s.hi.0 w refl (field_reads (codes "name") refl (quoted_spells name) last_reads))
  tree_reads f r (tree.computed s e) w = tree_reads f plain e w
  tree_reads f r (tree.super_callee s) w = whole (node_starts f (codes "Super") s.lo.0 s.hi.0 w refl last_reads)
  tree_reads f r (tree.import_callee s) w = whole (node_starts f (codes "Import") s.lo.0 s.hi.0 w refl last_reads)
  tree_reads f r (tree.quasi s tail cooked raw) w = element_spells f s tail cooked raw w
  -- parts of objects
  tree_reads f r (tree.spread_prop dots e) w =
      whole (node_starts f (codes "SpreadElement") dots.lo.0 (expr_end e) w refl (field_reads (codes "argument") refl (tree_reads f plain e w) last_reads))
  tree_reads f r (tree.shorthand_prop s name) w =
      whole (property_starts f s false true false w (field_reads (codes "key") refl (identifier_spells f s name w)
      (field_reads (codes "value") refl (identifier_spells f s name w) (word_reads (codes "kind") (codes "init") refl refl last_reads))))
  tree_reads f r (tree.key_value_prop s k value) w =
      either_spells (is_attributes r) (whole (node_starts f (codes "ImportAttribute") s.lo.0 s.hi.0 w refl (field_reads (codes "key") refl (tree_reads f plain k w)
      (field_reads (codes "value") refl (tree_reads f plain value w) last_reads)))) (whole (property_starts f s false false (is_computed k) w
      (field_reads (codes "key") refl (tree_reads f plain k w) (field_reads (codes "value") refl (tree_reads f plain value w)
      (word_reads (codes "kind") (codes "init") refl refl last_reads)))))
  tree_reads f r (tree.assign_prop s k value) w =
      whole (property_starts f s false true false w (field_reads (codes "key") refl (tree_reads f plain k w) (inner_reads (codes "value") refl
      (node_starts f (codes "AssignmentPattern") s.lo.0 s.hi.0 w refl (field_reads (codes "left") refl (tree_reads f plain k w)
      (field_reads (codes "right") refl (tree_reads f plain value w) end_reads))) (word_reads (codes "kind") (codes "init") refl refl last_reads))))
  tree_reads f r (tree.getter_prop s k body) w =
      whole (property_starts f s false false (is_computed k) w (field_reads (codes "key") refl (tree_reads f plain k w)
      (inner_reads (codes "value") refl (accessor_starts f k s w (empty_reads (codes "params") refl
      (field_reads (codes "body") refl (tree_reads f directives body w) end_reads))) (word_reads (codes "kind") (codes "get") refl refl last_reads))))
  tree_reads f r (tree.setter_prop s k pattern body) w =
      whole (property_starts f s false false (is_computed k) w (field_reads (codes "key") refl (tree_reads f plain k w)
      (inner_reads (codes "value") refl (accessor_starts f k s w (list_reads (codes "params") refl (one_opens (tree_reads f plain pattern w))
      (field_reads (codes "body") refl (tree_reads f directives body w) end_reads))) (word_reads (codes "kind") (codes "set") refl refl last_reads))))
  tree_reads f r (tree.method_prop s k fn) w =
      whole (property_starts f s true false (is_computed k) w (field_reads (codes "key") refl (tree_reads f plain k w)
      (field_reads (codes "value") refl (function_reads f (codes "FunctionExpression") nothing null (parenthesis f k) fn w refl nothing_spells)
      (word_reads (codes "kind") (codes "init") refl refl last_reads))))
  -- patterns
  tree_reads f r (tree.ident_pat s name) w = identifier_spells f s name w
  tree_reads f r (tree.array_pat s elems) w =
      whole (node_starts f (codes "ArrayPattern") s.lo.0 s.hi.0 w refl (list_reads (codes "elements") refl (items_read f plain elems w) last_reads))
  tree_reads f r (tree.rest_pat s arg) w =
      whole (node_starts f (codes "RestElement") s.lo.0 s.hi.0 w refl (field_reads (codes "argument") refl (tree_reads f plain arg w) last_reads))
  tree_reads f r (tree.object_pat s props) w =
      whole (node_starts f (codes "ObjectPattern") s.lo.0 s.hi.0 w refl (list_reads (codes "properties") refl (items_read f plain props w) last_reads))
  tree_reads f r (tree.key_value_pat_prop s k value) w =
      whole (property_starts f s false false (is_computed k) w (field_reads (codes "key") refl (tree_reads f plain k w)
      (field_reads (codes "value") refl (tree_reads f plain value w) (word_reads (codes "kind") (codes "init") refl refl last_reads))))
  tree_reads f r (tree.assign_pat_prop s k value) w =
      whole (property_starts f s false true false w (field_reads (codes "key") refl (tree_reads f plain k w) (field_reads (codes "value") refl
      (either_spells (is_absent value) (tree_reads f plain k w) (whole (node_starts f (codes "AssignmentPattern") s.lo.0 s.hi.0 w refl
      (field_reads (codes "left") refl (tree_reads f plain k w) (field_reads (codes "right") refl (tree_reads f plain value w) last_reads)))))
      (word_reads (codes "kind") (codes "init") refl refl last_reads))))
  tree_reads f r (tree.assign_pat s left right) w =
      whole (node_starts f (codes "AssignmentPattern") s.lo.0 s.hi.0 w refl (field_reads (codes "left") refl (tree_reads f plain left w)
      (field_reads (codes "right") refl (tree_reads f plain right w) last_reads)))
  tree_reads f r (tree.expr_pat e) w = tree_reads f plain e w
  tree_reads f r (tree.invalid_pat s) w = whole (node_starts f (codes "Invalid") s.lo.0 s.hi.0 w refl last_reads)
  -- functions
  tree_reads f r (tree.function s ds params body is_async is_generator) w = no_value
  tree_reads f r (tree.param s ds pat) w = tree_reads f plain pat w
  tree_reads f r (tree.decorator s e) w =
      whole (node_starts f (codes "Decorator") s.lo.0 s.hi.0 w refl (field_reads (codes "expression") refl (tree_reads f plain e w) last_reads))
  -- classes
  tree_reads f r (tree.class s ds body super_class) w = no_value
  tree_reads f r (tree.constructor s k params body) w =
      whole (member_starts f (codes "MethodDefinition") s false (is_computed k) w refl (tree_reads f plain k w)
      (word_reads (codes "kind") (codes "constructor") refl refl (inner_reads (codes "value") refl (accessor_starts f k s w
      (list_reads (codes "params") refl (items_read f plain params w) (field_reads (codes "body") refl (tree_reads f directives body w) end_reads))) last_reads)))
  tree_reads f r (tree.method s k fn kind is_static) w =
      whole (member_starts f (codes "MethodDefinition") s is_static (is_computed k) w refl (tree_reads f plain k w)
      (word_reads (codes "kind") (method_word kind) refl (method_simple kind)
      (field_reads (codes "value") refl (function_reads f (codes "FunctionExpression") nothing null (parenthesis f k) fn w refl nothing_spells) (decorated_read f fn w last_reads))))
  tree_reads f r (tree.private_method s k fn kind is_static) w =
      whole (member_starts f (codes "MethodDefinition") s is_static false w refl (tree_reads f plain k w)
      (word_reads (codes "kind") (method_word kind) refl (method_simple kind)
      (field_reads (codes "value") refl (function_reads f (codes "FunctionExpression") nothing null (parenthesis f k) fn w refl nothing_spells) (decorated_read f fn w last_reads))))
  tree_reads f r (tree.class_prop s k value is_static ds) w =
      whole (member_starts f (codes "PropertyDefinition") s is_static (is_computed k) w refl (tree_reads f plain k w)
      (field_reads (codes "value") refl (tree_reads f plain value w) (decorators_read (is_empty ds) (items_read f plain ds w) last_reads)))
  tree_reads f r (tree.private_prop s k value is_static ds) w =
      whole (member_starts f (codes "PropertyDefinition") s is_static false w refl (tree_reads f plain k w)
      (field_reads (codes "value") refl (tree_reads f plain value w) (decorators_read (is_empty ds) (items_read f plain ds w) last_reads)))
  tree_reads f r (tree.auto_accessor s k value is_static ds) w =
      whole (member_starts f (codes "AccessorProperty") s is_static (is_computed k) w refl (tree_reads f plain k w)
      (field_reads (codes "value") refl (tree_reads f plain value w) (decorators_read (is_empty ds) (items_read f plain ds w) last_reads)))
  tree_reads f r (tree.static_block s body) w =
      whole (node_starts f (codes "StaticBlock") s.lo.0 s.hi.0 w refl (list_reads (codes "body") refl (items_read f bare body w) last_reads))
  tree_reads f r (tree.empty_member s) w = no_value
  -- declarations
  tree_reads f r (tree.class_decl name body) w =
      class_reads f (codes "ClassDeclaration") (json f.source plain name) (estree f plain name) (end_of name) body w refl (tree_reads f plain name w)
  tree_reads f r (tree.fn_decl name fn) w =
      function_reads f (codes "FunctionDeclaration") (json f.source plain name) (estree f plain name) (span_of fn).lo.0 fn w refl (tree_reads f plain name w)
  tree_reads f r (tree.var s kind decls) w =
      whole (node_starts f (codes "VariableDeclaration") s.lo.0 s.hi.0 w refl (list_reads (codes "declarations") refl (items_read f plain decls w)
      (word_reads (codes "kind") (kind_word kind) refl (kind_simple kind) last_reads)))
  tree_reads f r (tree.using s is_await decls) w =
      whole (node_starts f (codes "VariableDeclaration") s.lo.0 s.hi.0 w refl (list_reads (codes "declarations") refl (items_read f plain decls w)
      (word_reads (codes "kind") (using_word is_await) refl (using_simple is_await) last_reads)))
  tree_reads f r (tree.declarator s name init) w =
      whole (node_starts f (codes "VariableDeclarator") s.lo.0 s.hi.0 w refl (field_reads (codes "id") refl (tree_reads f plain name w)
      (field_reads (codes "init") refl (tree_reads f plain init w) last_reads)))
  -- statements
  tree_reads f r (tree.block s stmts) w =
      either_spells (is_bare r) no_value (whole (node_starts f (codes "BlockStatement") s.lo.0 s.hi.0 w refl
      (list_reads (codes "body") refl (items_read f r stmts w) last_reads)))
  tree_reads f r (tree.empty s) w = whole (node_starts f (codes "EmptyStatement") s.lo.0 s.hi.0 w refl last_reads)
  tree_reads f r (tree.debugger s) w = whole (node_starts f (codes "DebuggerStatement") s.lo.0 s.hi.0 w refl last_reads)
  tree_reads f r (tree.with s obj body) w =
      whole (node_starts f (codes "WithStatement") s.lo.0 s.hi.0 w refl (field_reads (codes "object") refl (tree_reads f plain obj w)
      (field_reads (codes "body") refl (tree_reads f plain body w) last_reads)))
  tree_reads f r (tree.return s arg) w =
      whole (node_starts f (codes "ReturnStatement") s.lo.0 s.hi.0 w refl (field_reads (codes "argument") refl (tree_reads f plain arg w) last_reads))
  tree_reads f r (tree.labeled s label body) w =
      whole (node_starts f (codes "LabeledStatement") s.lo.0 s.hi.0 w refl (field_reads (codes "body") refl (tree_reads f plain body w)
      (field_reads (codes "label") refl (tree_reads f plain label w) last_reads)))
  tree_reads f r (tree.break s label) w =
      whole (node_starts f (codes "BreakStatement") s.lo.0 s.hi.0 w refl (field_reads (codes "label") refl (tree_reads f plain label w) last_reads))
  tree_reads f r (tree.continue s label) w =
      whole (node_starts f (codes "ContinueStatement") s.lo.0 s.hi.0 w refl (field_reads (codes "label") refl (tree_reads f plain label w) last_reads))
  tree_reads f r (tree.if_stmt s test cons alt) w =
      whole (node_starts f (codes "IfStatement") s.lo.0 s.hi.0 w refl (field_reads (codes "test") refl (tree_reads f plain test w)
      (field_reads (codes "consequent") refl (tree_reads f plain cons w) (field_reads (codes "alternate") refl (tree_reads f plain alt w) last_reads))))
  tree_reads f r (tree.switch s discriminant cases) w =
      whole (node_starts f (codes "SwitchStatement") s.lo.0 s.hi.0 w refl (field_reads (codes "discriminant") refl (tree_reads f plain discriminant w)
      (list_reads (codes "cases") refl (items_read f plain cases w) last_reads)))
  tree_reads f r (tree.case s test cons) w =
      whole (node_starts f (codes "SwitchCase") s.lo.0 s.hi.0 w refl (list_reads (codes "consequent") refl (items_read f plain cons w)
      (field_reads (codes "test") refl (tree_reads f plain test w) last_reads)))
  tree_reads f r (tree.throw s arg) w =
      whole (node_starts f (codes "ThrowStatement") s.lo.0 s.hi.0 w refl (field_reads (codes "argument") refl (tree_reads f plain arg w) last_reads))
  tree_reads f r (tree.try s body handler finalizer) w =
      whole (node_starts f (codes "TryStatement") s.lo.0 s.hi.0 w refl (field_reads (codes "block") refl (tree_reads f plain body w)
      (field_reads (codes "handler") refl (tree_reads f plain handler w) (field_reads (codes "finalizer") refl (tree_reads f plain finalizer w) last_reads))))
  tree_reads f r (tree.catch s pattern body) w =
      whole (node_starts f (codes "CatchClause") s.lo.0 s.hi.0 w refl (field_reads (codes "param") refl (tree_reads f plain pattern w)
      (field_reads (codes "body") refl (tree_reads f plain body w) last_reads)))
  tree_reads f r (tree.while s test body) w =
      whole (node_starts f (codes "WhileStatement") s.lo.0 s.hi.0 w refl (field_reads (codes "test") refl (tree_reads f plain test w)
      (field_reads (codes "body") refl (tree_reads f plain body w) last_reads)))
  tree_reads f r (tree.do_while s test body) w =
      whole (node_starts f (codes "DoWhileStatement") s.lo.0 s.hi.0 w refl (field_reads (codes "body") refl (tree_reads f plain body w)
      (field_reads (codes "test") refl (tree_reads f plain test w) last_reads)))
  tree_reads f r (tree.for s init test next body) w =
      whole (node_starts f (codes "ForStatement") s.lo.0 s.hi.0 w refl (field_reads (codes "init") refl (tree_reads f plain init w)
      (field_reads (codes "test") refl (tree_reads f plain test w) (field_reads (codes "update") refl (tree_reads f plain next w)
      (field_reads (codes "body") refl (tree_reads f plain body w) last_reads)))))
  tree_reads f r (tree.for_in s left right body) w =
      whole (node_starts f (codes "ForInStatement") s.lo.0 s.hi.0 w refl (field_reads (codes "left") refl (tree_reads f plain left w)
      (field_reads (codes "right") refl (tree_reads f plain right w) (field_reads (codes "body") refl (tree_reads f plain body w) last_reads))))
  tree_reads f r (tree.for_of s is_await left right body) w =
      whole (node_starts f (codes "ForOfStatement") s.lo.0 s.hi.0 w refl (bool_reads (codes "await") is_await refl
      (field_reads (codes "left") refl (tree_reads f plain left w) (field_reads (codes "right") refl (tree_reads f plain right w)
      (field_reads (codes "body") refl (tree_reads f plain body w) last_reads)))))
  tree_reads f r (tree.expr_stmt s e) w =
      whole (node_starts f (codes "ExpressionStatement") s.lo.0 s.hi.0 w refl (field_reads (codes "expression") refl (tree_reads f plain e w)
      (directive_reads (is_directives r) e last_reads)))
  -- imports and exports
  tree_reads f r (tree.import s specifiers src attrs phase) w =
      whole (node_starts f (codes "ImportDeclaration") s.lo.0 s.hi.0 w refl (list_reads (codes "specifiers") refl (items_read f plain specifiers w)
      (field_reads (codes "source") refl (tree_reads f plain src w) (list_reads (codes "attributes") refl (items_read f attributes attrs w)
      (phase_reads phase last_reads)))))
  tree_reads f r (tree.import_named s local imported) w =
      whole (node_starts f (codes "ImportSpecifier") s.lo.0 s.hi.0 w refl (field_reads (codes "imported") refl
      (either_spells (is_absent imported) (tree_reads f plain local w) (tree_reads f plain imported w))
      (field_reads (codes "local") refl (tree_reads f plain local w) last_reads)))
  tree_reads f r (tree.import_default s local) w =
      whole (node_starts f (codes "ImportDefaultSpecifier") s.lo.0 s.hi.0 w refl (field_reads (codes "local") refl (tree_reads f plain local w) last_reads))
  tree_reads f r (tree.import_namespace s local) w =
      whole (node_starts f (codes "ImportNamespaceSpecifier") s.lo.0 s.hi.0 w refl (field_reads (codes "local") refl (tree_reads f plain local w) last_reads))
  tree_reads f r (tree.export_decl s decl) w =
      whole (node_starts f (codes "ExportNamedDeclaration") s.lo.0 s.hi.0 w refl (field_reads (codes "declaration") refl (tree_reads f plain decl w)
      (empty_reads (codes "specifiers") refl (field_reads (codes "source") refl nothing_spells (empty_reads (codes "attributes") refl last_reads)))))
  tree_reads f r (tree.export_named s specifiers src attrs) w =
      either_spells (is_namespace_alone specifiers) (whole (node_starts f (codes "ExportAllDeclaration") s.lo.0 s.hi.0 w refl
      (field_reads (codes "exported") refl (tree_reads f bare specifiers w) (field_reads (codes "source") refl (tree_reads f plain src w)
      (list_reads (codes "attributes") refl (items_read f attributes attrs w) last_reads))))) (whole
      (node_starts f (codes "ExportNamedDeclaration") s.lo.0 s.hi.0 w refl (field_reads (codes "declaration") refl nothing_spells
      (list_reads (codes "specifiers") refl (items_read f plain specifiers w) (field_reads (codes "source") refl (tree_reads f plain src w)
      (list_reads (codes "attributes") refl (items_read f attributes attrs w) last_reads))))))
  tree_reads f r (tree.export_default_decl s decl) w =
      whole (node_starts f (codes "ExportDefaultDeclaration") s.lo.0 s.hi.0 w refl (field_reads (codes "declaration") refl (tree_reads f declared decl w) last_reads))
  tree_reads f r (tree.export_default_expr s e) w =
      whole (node_starts f (codes "ExportDefaultDeclaration") s.lo.0 s.hi.0 w refl (field_reads (codes "declaration") refl (tree_reads f plain e w) last_reads))
  tree_reads f r (tree.export_all s src attrs) w =
      whole (node_starts f (codes "ExportAllDeclaration") s.lo.0 s.hi.0 w refl (field_reads (codes "exported") refl nothing_spells
      (field_reads (codes "source") refl (tree_reads f plain src w) (list_reads (codes "attributes") refl (items_read f attributes attrs w) last_reads))))
  tree_reads f r (tree.export_namespace s name) w =
      either_spells (is_bare r) (tree_reads f plain name w) (whole (node_starts f (codes "ExportNamespaceSpecifier") s.lo.0 s.hi.0 w refl
      (field_reads (codes "exported") refl (tree_reads f plain name w) last_reads)))
  tree_reads f r (tree.export_default exported) w =
      whole (node_starts f (codes "ExportDefaultSpecifier") (span_of exported).lo.0 (span_of exported).hi.0 w refl
      (field_reads (codes "exported") refl (tree_reads f plain exported w) last_reads))
  tree_reads f r (tree.export_specifier s orig exported) w =
      whole (node_starts f (codes "ExportSpecifier") s.lo.0 s.hi.0 w refl (field_reads (codes "local") refl (tree_reads f plain orig w)
      (field_reads (codes "exported") refl (either_spells (is_absent exported) (tree_reads f plain orig w) (tree_reads f plain exported w)) last_reads)))
  -- wholes: from the start of the text to its end
  tree_reads f r (tree.script s body shebang) w =
      whole (node_starts f (codes "Program") 0 (length f.source.places.text) w refl (list_reads (codes "body") refl (items_read f directives body w)
      (word_reads (codes "sourceType") (codes "script") refl refl (added_read w last_reads))))
  tree_reads f r (tree.module_program s body shebang) w =
      whole (node_starts f (codes "Program") 0 (length f.source.places.text) w refl (list_reads (codes "body") refl (items_read f directives body w)
      (word_reads (codes "sourceType") (codes "module") refl refl (added_read w last_reads))))

  function_reads : (f : Form) (kind text : List ℕ) (name : Option Json) (start : ℕ) (x : Tree) → Fits f → all_simple kind ≡ true → Spells text name
      → Spells (json f.source (function kind text start) x) (function_node f kind name start x)
  function_reads f kind text name start (tree.function s ds params body is_async is_generator) w h g =
      whole (node_starts f kind start s.hi.0 w h (function_fields_read text false is_generator is_async g
      (list_reads (codes "params") refl (items_read f plain params w) (field_reads (codes "body") refl (tree_reads f directives body w) last_reads))))
  function_reads f kind text name start x w h g = no_value

  class_reads : (f : Form) (kind text : List ℕ) (name : Option Json) (name_end : ℕ) (x : Tree) → Fits f → all_simple kind ≡ true → Spells text name
      → Spells (json f.source (class kind text name_end) x) (class_node f kind name name_end x)
  class_reads f kind text name name_end (tree.class s ds body super_class) w h g =
      whole (node_starts f kind s.lo.0 s.hi.0 w h (field_reads (codes "id") refl g (field_reads (codes "superClass") refl (tree_reads f plain super_class w)
      (inner_reads (codes "body") refl (node_starts f (codes "ClassBody") (brace f.source s ds super_class name_end) s.hi.0 w refl
      (list_reads (codes "body") refl (items_read f members body w) end_reads)) (decorators_read (is_empty ds) (items_read f plain ds w) last_reads)))))
  class_reads f kind text name name_end x w h g = no_value

  decorated_read : (f : Form) (x : Tree) → Fits f → {ys zs : List ℕ} {p : Option Fields} → Leaves ys p zs → Leaves (json f.source plain x ++ ys) (decorated f x p) zs
  decorated_read f (tree.function s ds params body is_async is_generator) w a = decorators_read (is_empty ds) (items_read f plain ds w) a
  decorated_read f x w a = no_fields

  picked_reads : (f : Form) (r : Role) (ts : Trees) → Fits f → Spells (jsons f.source r true ts) (picked f r ts)
  picked_reads f (argument n) tree.none w = nothing_spells
  picked_reads f (argument n) (tree.also x xs) w = either_spells (is_zero n) (tree_reads f plain x w) (picked_reads f (argument (n - 1)) xs w)
  picked_reads f bare (tree.also x tree.none) w = bare_reads (tree_reads f bare x w)
  picked_reads f r xs w = no_value

  items_read : (f : Form) (r : Role) (x : Tree) → Fits f → Opens (json f.source r x) (items f r x)
  items_read f r (tree.list ts) w = (all_items_read f r true ts w).opens refl
  items_read f r tree.absent w = either_opens (is_attributes r) none_opens no_opens
  items_read f r (tree.object s props) w = either_opens (is_attributes r) (items_read f attributes props w) no_opens
  items_read f r (tree.block s stmts) w = either_opens (is_bare r) (items_read f plain stmts w) no_opens
  items_read f r x w = no_opens

  all_items_read : (f : Form) (r : Role) (is_first : Bool) (ts : Trees) → Fits f → Listed is_first (jsons f.source r is_first ts) (all_items f r ts)
  all_items_read f (argument n) is_first ts w = no_listed is_first
  all_items_read f r is_first tree.none w = none_listed is_first
  all_items_read f r is_first (tree.also x xs) w =
      either_listed is_first (skips r x) (all_items_read f r is_first xs w) (item_listed is_first (tree_reads f (next r x) x w) (all_items_read f (next r x) false xs w))

pub reads_back : ReadsBack
reads_back f x v bounded adds e = parsed (json f.source plain x) (estree f plain x) v (tree_reads f plain x (record { bounded = bounded; adds = adds })) e
