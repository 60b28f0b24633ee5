-- How deep a tree nests: its greatest level. An item of a whole stands at level 1, and what stands directly inside a
-- statement, an expression, a pattern or a member of a class is one deeper, but for the parts that go before an operator
-- of any kind: they stand as high as the whole. Lists, declarators, parts of objects, names and keys are no level of their own.
use Rattle.std.specs.Prelude.{ℕ, suc, pred, max, Bool, true, false, not}
use Rattle.swc_ecma_parser_model.specs.Tree as tree
use Rattle.swc_ecma_parser_model.specs.Tree.{Tree, Trees, none, also}
use Rattle.swc_ecma_parser_model.specs.Kinds.{is_block, is_function, is_computed, is_if}

-- The block of a body, the function of an object's method and the declaration of a for head are no level of their own: what
-- stands in them stands directly inside their owner.
abbrev pub flat : Bool → ℕ → ℕ
flat true n = pred n
flat false n = n

-- a key counts only where it is computed
abbrev pub counted : Bool → ℕ → ℕ
counted true n = n
counted false n = 0

-- one deeper, where it is so: what a prefix operator stands at, and an `else` that is no further `if`
abbrev pub deeper : Bool → ℕ → ℕ
deeper true n = suc n
deeper false n = n

-- a declaration in a for head; the name of an `await using` there is two deeper than the loop
abbrev pub is_head_decl : Tree → Bool
is_head_decl (tree.var s kind ds) = true
is_head_decl (tree.using s is_await ds) = not is_await
is_head_decl _ = false

abbrev mutual
  pub depth : Tree → ℕ
  depth tree.absent = 0
  depth (tree.list ts) = depths ts
  depth (tree.ident s text) = 1
  depth (tree.str s value raw) = 1
  depth (tree.bool s b) = 1
  depth (tree.null s) = 1
  depth (tree.num s raw) = 1
  depth (tree.big_int s raw) = 1
  depth (tree.regex s exp flags) = 1
  depth (tree.this s) = 1
  depth (tree.array s elems) = suc (depth elems)
  depth (tree.object s props) = suc (depth props)
  depth (tree.fn_expr s name fn) = depth fn
  depth (tree.class_expr s name body) = depth body
  depth (tree.paren s e) = suc (depth e)
  depth (tree.meta_prop s kind) = 1
  depth (tree.invalid s) = 1
  depth (tree.unary s op arg) = suc (depth arg)
  depth (tree.update s op prefix arg) = max 1 (deeper prefix (depth arg))
  depth (tree.bin s op left right) = max (depth left) (suc (depth right))
  depth (tree.assign s op left right) = max (depth left) (suc (depth right))
  depth (tree.cond s test cons alt) = max (depth test) (suc (max (depth cons) (depth alt)))
  depth (tree.seq s exprs) = max 1 (depth exprs)
  depth (tree.member s obj prop) = max (depth obj) (suc (counted (is_computed prop) (depth prop)))
  depth (tree.super_prop s word prop) = suc (counted (is_computed prop) (depth prop))
  depth (tree.call s callee args) = max (depth callee) (suc (depth args))
  depth (tree.new s callee args) = suc (max (depth callee) (depth args))
  depth (tree.tpl s exprs quasis) = suc (depth exprs)
  depth (tree.tagged_tpl s tag template) = max (depth tag) (depth template)
  depth (tree.opt_chain s optional base) = depth base
  depth (tree.arrow s params body is_async) = suc (max (depth params) (flat (is_block body) (depth body)))
  depth (tree.yield s arg delegate) = suc (depth arg)
  depth (tree.await s arg) = suc (depth arg)
  depth (tree.element spread e) = depth e
  depth (tree.private_name s word text) = 0
  depth (tree.computed s e) = depth e
  depth (tree.super_callee s) = 0
  depth (tree.import_callee s) = 0
  depth (tree.quasi s tail cooked raw) = 0
  depth (tree.spread_prop dots e) = depth e
  depth (tree.shorthand_prop s text) = 0
  depth (tree.key_value_prop s key value) = max (counted (is_computed key) (depth key)) (depth value)
  depth (tree.assign_prop s key value) = depth value
  depth (tree.getter_prop s key body) = max (counted (is_computed key) (depth key)) (flat (is_block body) (depth body))
  depth (tree.setter_prop s key p body) = max (counted (is_computed key) (depth key)) (max (depth p) (flat (is_block body) (depth body)))
  depth (tree.method_prop s key fn) = max (counted (is_computed key) (depth key)) (flat (is_function fn) (depth fn))
  depth (tree.ident_pat s text) = 1
  depth (tree.array_pat s elems) = suc (depth elems)
  depth (tree.rest_pat s arg) = max 1 (depth arg)
  depth (tree.object_pat s props) = suc (depth props)
  depth (tree.key_value_pat_prop s key value) = max (counted (is_computed key) (depth key)) (depth value)
  depth (tree.assign_pat_prop s key value) = depth value
  depth (tree.assign_pat s left right) = max (depth left) (suc (depth right))
  depth (tree.expr_pat e) = depth e
  depth (tree.invalid_pat s) = 1
  depth (tree.function s decorators params body is_async is_generator) = suc (max (depth decorators) (max (depth params) (flat (is_block body) (depth body))))
  depth (tree.param s decorators p) = max (depth decorators) (depth p)
  depth (tree.decorator s e) = depth e
  depth (tree.class s decorators body super_class) = suc (max (depth decorators) (max (depth super_class) (depth body)))
  depth (tree.constructor s key params body) = suc (max (counted (is_computed key) (depth key)) (max (depth params) (flat (is_block body) (depth body))))
  depth (tree.method s key fn kind is_static) = max (suc (counted (is_computed key) (depth key))) (depth fn)
  depth (tree.private_method s key fn kind is_static) = max (suc (counted (is_computed key) (depth key))) (depth fn)
  depth (tree.class_prop s key value is_static decorators) = suc (max (depth decorators) (max (counted (is_computed key) (depth key)) (depth value)))
  depth (tree.private_prop s key value is_static decorators) = suc (max (depth decorators) (max (counted (is_computed key) (depth key)) (depth value)))
  depth (tree.auto_accessor s key value is_static decorators) = suc (max (depth decorators) (max (counted (is_computed key) (depth key)) (depth value)))
  depth (tree.static_block s body) = suc (flat (is_block body) (depth body))
  depth (tree.empty_member s) = 1
  depth (tree.class_decl name body) = depth body
  depth (tree.fn_decl name fn) = depth fn
  depth (tree.var s kind ds) = suc (depth ds)
  depth (tree.using s is_await ds) = suc (depth ds)
  depth (tree.declarator s name init) = max (depth name) (depth init)
  depth (tree.block s stmts) = suc (depth stmts)
  depth (tree.empty s) = 1
  depth (tree.debugger s) = 1
  depth (tree.with s obj body) = suc (max (depth obj) (depth body))
  depth (tree.return s arg) = suc (depth arg)
  depth (tree.labeled s label body) = suc (depth body)
  depth (tree.break s label) = 1
  depth (tree.continue s label) = 1
  depth (tree.if_stmt s test cons alt) = max (suc (max (depth test) (depth cons))) (deeper (not (is_if alt)) (depth alt))
  depth (tree.switch s discriminant cases) = suc (max (depth discriminant) (depth cases))
  depth (tree.case s test cons) = max (depth test) (depth cons)
  depth (tree.throw s arg) = suc (depth arg)
  depth (tree.try s body handler finalizer) = suc (max (flat (is_block body) (depth body)) (max (depth handler) (flat (is_block finalizer) (depth finalizer))))
  depth (tree.catch s p body) = max (depth p) (flat (is_block body) (depth body))
  depth (tree.while s test body) = suc (max (depth test) (depth body))
  depth (tree.do_while s test body) = suc (max (depth body) (depth test))
  depth (tree.for s init test next body) = suc (max (flat (is_head_decl init) (depth init)) (max (depth test) (max (depth next) (depth body))))
  depth (tree.for_in s left right body) = suc (max (flat (is_head_decl left) (depth left)) (max (depth right) (depth body)))
  depth (tree.for_of s is_await left right body) = suc (max (flat (is_head_decl left) (depth left)) (max (depth right) (depth body)))
  depth (tree.expr_stmt s e) = suc (depth e)
  depth (tree.import s specifiers src attributes phase) = suc (depth attributes)
  depth (tree.import_named s local imported) = 0
  depth (tree.import_default s local) = 0
  depth (tree.import_namespace s local) = 0
  depth (tree.export_decl s d) = depth d
  depth (tree.export_named s specifiers src attributes) = suc (depth attributes)
  depth (tree.export_default_decl s d) = depth d
  depth (tree.export_default_expr s e) = suc (depth e)
  depth (tree.export_all s src attributes) = suc (depth attributes)
  depth (tree.export_namespace s name) = 0
  depth (tree.export_default exported) = 0
  depth (tree.export_specifier s orig exported) = 0
  depth (tree.script s body shebang) = depth body
  depth (tree.module_program s body shebang) = depth body

  pub depths : Trees → ℕ
  depths none = 0
  depths (also t ts) = max (depth t) (depths ts)
