-- What makes a program a module where no import or export does: an item of its own that begins with `await`, which is told by
-- the tokens (`ModuleItems`), and `import.meta` outside the bodies of functions.
use Rattle.std.specs.Prelude.{Bool, true, false, ◌||◌}
use Rattle.swc_ecma_parser_model.specs.declared.leaves.MetaPropKind.{MetaPropKind}
use Rattle.swc_ecma_parser_model.specs.declared.leaves.MetaPropKind.TheVariants as meta
use Rattle.swc_ecma_parser_model.specs.Tree as tree
use Rattle.swc_ecma_parser_model.specs.Tree.{Tree, Trees, none, also}

-- `new.target` is in no code a module's alone
abbrev pub is_import_meta : MetaPropKind → Bool
is_import_meta meta.ImportMeta = true
is_import_meta meta.NewTarget = false

-- Whether `import.meta` stands in a tree outside the bodies of functions, methods, accessors, constructors and arrows. Their
-- parameters, decorators, fields and static blocks are outside.
abbrev mutual
  pub has_meta : Tree → Bool
  has_meta tree.absent = false
  has_meta (tree.list ts) = any_has_meta ts
  has_meta (tree.ident s text) = false
  has_meta (tree.str s value raw) = false
  has_meta (tree.bool s b) = false
  has_meta (tree.null s) = false
  has_meta (tree.num s raw) = false
  has_meta (tree.big_int s raw) = false
  has_meta (tree.regex s exp flags) = false
  has_meta (tree.this s) = false
  has_meta (tree.array s elems) = has_meta elems
  has_meta (tree.object s props) = has_meta props
  has_meta (tree.fn_expr s name fn) = has_meta name || has_meta fn
  has_meta (tree.class_expr s name body) = has_meta name || has_meta body
  has_meta (tree.paren s e) = has_meta e
  has_meta (tree.meta_prop s kind) = is_import_meta kind
  has_meta (tree.invalid s) = false
  has_meta (tree.unary s op arg) = has_meta arg
  has_meta (tree.update s op prefix arg) = has_meta arg
  has_meta (tree.bin s op left right) = has_meta left || has_meta right
  has_meta (tree.assign s op left right) = has_meta left || has_meta right
  has_meta (tree.cond s test cons alt) = has_meta test || has_meta cons || has_meta alt
  has_meta (tree.seq s exprs) = has_meta exprs
  has_meta (tree.member s obj prop) = has_meta obj || has_meta prop
  has_meta (tree.super_prop s word prop) = has_meta prop
  has_meta (tree.call s callee args) = has_meta callee || has_meta args
  has_meta (tree.new s callee args) = has_meta callee || has_meta args
  has_meta (tree.tpl s exprs quasis) = has_meta exprs
  has_meta (tree.tagged_tpl s tag template) = has_meta tag || has_meta template
  has_meta (tree.opt_chain s optional base) = has_meta base
  has_meta (tree.arrow s params body is_async) = has_meta params
  has_meta (tree.yield s arg delegate) = has_meta arg
  has_meta (tree.await s arg) = has_meta arg
  has_meta (tree.element spread e) = has_meta e
  has_meta (tree.private_name s word text) = false
  has_meta (tree.computed s e) = has_meta e
  has_meta (tree.super_callee s) = false
  has_meta (tree.import_callee s) = false
  has_meta (tree.quasi s tail cooked raw) = false
  has_meta (tree.spread_prop dots e) = has_meta e
  has_meta (tree.shorthand_prop s text) = false
  has_meta (tree.key_value_prop s key value) = has_meta key || has_meta value
  has_meta (tree.assign_prop s key value) = has_meta key || has_meta value
  has_meta (tree.getter_prop s key body) = has_meta key
  has_meta (tree.setter_prop s key p body) = has_meta key || has_meta p
  has_meta (tree.method_prop s key fn) = has_meta key || has_meta fn
  has_meta (tree.ident_pat s text) = false
  has_meta (tree.array_pat s elems) = has_meta elems
  has_meta (tree.rest_pat s arg) = has_meta arg
  has_meta (tree.object_pat s props) = has_meta props
  has_meta (tree.key_value_pat_prop s key value) = has_meta key || has_meta value
  has_meta (tree.assign_pat_prop s key value) = has_meta key || has_meta value
  has_meta (tree.assign_pat s left right) = has_meta left || has_meta right
  has_meta (tree.expr_pat e) = has_meta e
  has_meta (tree.invalid_pat s) = false
  has_meta (tree.function s decorators params body is_async is_generator) = has_meta decorators || has_meta params
  has_meta (tree.param s decorators p) = has_meta decorators || has_meta p
  has_meta (tree.decorator s e) = has_meta e
  has_meta (tree.class s decorators body super_class) = has_meta decorators || has_meta super_class || has_meta body
  has_meta (tree.constructor s key params body) = has_meta key || has_meta params
  has_meta (tree.method s key fn kind is_static) = has_meta key || has_meta fn
  has_meta (tree.private_method s key fn kind is_static) = has_meta key || has_meta fn
  has_meta (tree.class_prop s key value is_static decorators) = has_meta decorators || has_meta key || has_meta value
  has_meta (tree.private_prop s key value is_static decorators) = has_meta decorators || has_meta key || has_meta value
  has_meta (tree.auto_accessor s key value is_static decorators) = has_meta decorators || has_meta key || has_meta value
  has_meta (tree.static_block s body) = has_meta body
  has_meta (tree.empty_member s) = false
  has_meta (tree.class_decl name body) = has_meta name || has_meta body
  has_meta (tree.fn_decl name fn) = has_meta name || has_meta fn
  has_meta (tree.var s kind ds) = has_meta ds
  has_meta (tree.using s is_await ds) = has_meta ds
  has_meta (tree.declarator s name init) = has_meta name || has_meta init
  has_meta (tree.block s stmts) = has_meta stmts
  has_meta (tree.empty s) = false
  has_meta (tree.debugger s) = false
  has_meta (tree.with s obj body) = has_meta obj || has_meta body
  has_meta (tree.return s arg) = has_meta arg
  has_meta (tree.labeled s label body) = has_meta label || has_meta body
  has_meta (tree.break s label) = has_meta label
  has_meta (tree.continue s label) = has_meta label
  has_meta (tree.if_stmt s test cons alt) = has_meta test || has_meta cons || has_meta alt
  has_meta (tree.switch s discriminant cases) = has_meta discriminant || has_meta cases
  has_meta (tree.case s test cons) = has_meta test || has_meta cons
  has_meta (tree.throw s arg) = has_meta arg
  has_meta (tree.try s body handler finalizer) = has_meta body || has_meta handler || has_meta finalizer
  has_meta (tree.catch s p body) = has_meta p || has_meta body
  has_meta (tree.while s test body) = has_meta test || has_meta body
  has_meta (tree.do_while s test body) = has_meta body || has_meta test
  has_meta (tree.for s init test next body) = has_meta init || has_meta test || has_meta next || has_meta body
  has_meta (tree.for_in s left right body) = has_meta left || has_meta right || has_meta body
  has_meta (tree.for_of s is_await left right body) = has_meta left || has_meta right || has_meta body
  has_meta (tree.expr_stmt s e) = has_meta e
  has_meta (tree.import s specifiers src attributes phase) = has_meta specifiers || has_meta src || has_meta attributes
  has_meta (tree.import_named s local imported) = has_meta imported || has_meta local
  has_meta (tree.import_default s local) = has_meta local
  has_meta (tree.import_namespace s local) = has_meta local
  has_meta (tree.export_decl s d) = has_meta d
  has_meta (tree.export_named s specifiers src attributes) = has_meta specifiers || has_meta src || has_meta attributes
  has_meta (tree.export_default_decl s d) = has_meta d
  has_meta (tree.export_default_expr s e) = has_meta e
  has_meta (tree.export_all s src attributes) = has_meta src || has_meta attributes
  has_meta (tree.export_namespace s name) = has_meta name
  has_meta (tree.export_default exported) = has_meta exported
  has_meta (tree.export_specifier s orig exported) = has_meta orig || has_meta exported
  has_meta (tree.script s body shebang) = has_meta body
  has_meta (tree.module_program s body shebang) = has_meta body

  pub any_has_meta : Trees → Bool
  any_has_meta none = false
  any_has_meta (also t ts) = has_meta t || any_has_meta ts
