-- A tree with each of its spans put to another, and one with each put to one and the same.
use Rattle.std.specs.Prelude.{Bool}
use Rattle.std.specs.Option.{option_map}
use Rattle.swc_ecma_parser_common.specs.declared.span.Span.{Span}
use Rattle.swc_ecma_parser_model.specs.Tree as tree
use Rattle.swc_ecma_parser_model.specs.Tree.{Tree, Trees, none, also}
use Rattle.swc_ecma_parser_model.specs.Held.{Held, There}
use Rattle.swc_ecma_parser_model.specs.Same.{same}

abbrev mutual
  pub respan : (Span → Span) → Tree → Tree
  respan f tree.absent = tree.absent
  respan f (tree.list ts) = tree.list (respans f ts)
  respan f (tree.ident s text) = tree.ident (f s) text
  respan f (tree.str s value raw) = tree.str (f s) value raw
  respan f (tree.bool s b) = tree.bool (f s) b
  respan f (tree.null s) = tree.null (f s)
  respan f (tree.num s raw) = tree.num (f s) raw
  respan f (tree.big_int s raw) = tree.big_int (f s) raw
  respan f (tree.regex s exp flags) = tree.regex (f s) exp flags
  respan f (tree.this s) = tree.this (f s)
  respan f (tree.array s elems) = tree.array (f s) (respan f elems)
  respan f (tree.object s props) = tree.object (f s) (respan f props)
  respan f (tree.fn_expr s name fn) = tree.fn_expr (f s) (respan f name) (respan f fn)
  respan f (tree.class_expr s name body) = tree.class_expr (f s) (respan f name) (respan f body)
  respan f (tree.paren s e) = tree.paren (f s) (respan f e)
  respan f (tree.meta_prop s kind) = tree.meta_prop (f s) kind
  respan f (tree.invalid s) = tree.invalid (f s)
  respan f (tree.unary s op arg) = tree.unary (f s) op (respan f arg)
  respan f (tree.update s op prefix arg) = tree.update (f s) op prefix (respan f arg)
  respan f (tree.bin s op left right) = tree.bin (f s) op (respan f left) (respan f right)
  respan f (tree.assign s op left right) = tree.assign (f s) op (respan f left) (respan f right)
  respan f (tree.cond s test cons alt) = tree.cond (f s) (respan f test) (respan f cons) (respan f alt)
  respan f (tree.seq s exprs) = tree.seq (f s) (respan f exprs)
  respan f (tree.member s obj prop) = tree.member (f s) (respan f obj) (respan f prop)
  respan f (tree.super_prop s word prop) = tree.super_prop (f s) (f word) (respan f prop)
  respan f (tree.call s callee args) = tree.call (f s) (respan f callee) (respan f args)
  respan f (tree.new s callee args) = tree.new (f s) (respan f callee) (respan f args)
  respan f (tree.tpl s exprs quasis) = tree.tpl (f s) (respan f exprs) (respan f quasis)
  respan f (tree.tagged_tpl s tag template) = tree.tagged_tpl (f s) (respan f tag) (respan f template)
  respan f (tree.opt_chain s optional base) = tree.opt_chain (f s) optional (respan f base)
  respan f (tree.arrow s params body is_async) = tree.arrow (f s) (respan f params) (respan f body) is_async
  respan f (tree.yield s arg delegate) = tree.yield (f s) (respan f arg) delegate
  respan f (tree.await s arg) = tree.await (f s) (respan f arg)
  respan f (tree.element spread e) = tree.element (option_map f spread) (respan f e)
  respan f (tree.private_name s word text) = tree.private_name (f s) (f word) text
  respan f (tree.computed s e) = tree.computed (f s) (respan f e)
  respan f (tree.super_callee s) = tree.super_callee (f s)
  respan f (tree.import_callee s) = tree.import_callee (f s)
  respan f (tree.quasi s tail cooked raw) = tree.quasi (f s) tail cooked raw
  respan f (tree.spread_prop dots e) = tree.spread_prop (f dots) (respan f e)
  respan f (tree.shorthand_prop s text) = tree.shorthand_prop (f s) text
  respan f (tree.key_value_prop s key value) = tree.key_value_prop (f s) (respan f key) (respan f value)
  respan f (tree.assign_prop s key value) = tree.assign_prop (f s) (respan f key) (respan f value)
  respan f (tree.getter_prop s key body) = tree.getter_prop (f s) (respan f key) (respan f body)
  respan f (tree.setter_prop s key p body) = tree.setter_prop (f s) (respan f key) (respan f p) (respan f body)
  respan f (tree.method_prop s key fn) = tree.method_prop (f s) (respan f key) (respan f fn)
  respan f (tree.ident_pat s text) = tree.ident_pat (f s) text
  respan f (tree.array_pat s elems) = tree.array_pat (f s) (respan f elems)
  respan f (tree.rest_pat s arg) = tree.rest_pat (f s) (respan f arg)
  respan f (tree.object_pat s props) = tree.object_pat (f s) (respan f props)
  respan f (tree.key_value_pat_prop s key value) = tree.key_value_pat_prop (f s) (respan f key) (respan f value)
  respan f (tree.assign_pat_prop s key value) = tree.assign_pat_prop (f s) (respan f key) (respan f value)
  respan f (tree.assign_pat s left right) = tree.assign_pat (f s) (respan f left) (respan f right)
  respan f (tree.expr_pat e) = tree.expr_pat (respan f e)
  respan f (tree.invalid_pat s) = tree.invalid_pat (f s)
  respan f (tree.function s decorators params body is_async is_generator) = tree.function (f s) (respan f decorators) (respan f params) (respan f body) is_async is_generator
  respan f (tree.param s decorators p) = tree.param (f s) (respan f decorators) (respan f p)
  respan f (tree.decorator s e) = tree.decorator (f s) (respan f e)
  respan f (tree.class s decorators body super_class) = tree.class (f s) (respan f decorators) (respan f body) (respan f super_class)
  respan f (tree.constructor s key params body) = tree.constructor (f s) (respan f key) (respan f params) (respan f body)
  respan f (tree.method s key fn kind is_static) = tree.method (f s) (respan f key) (respan f fn) kind is_static
  respan f (tree.private_method s key fn kind is_static) = tree.private_method (f s) (respan f key) (respan f fn) kind is_static
  respan f (tree.class_prop s key value is_static decorators) = tree.class_prop (f s) (respan f key) (respan f value) is_static (respan f decorators)
  respan f (tree.private_prop s key value is_static decorators) = tree.private_prop (f s) (respan f key) (respan f value) is_static (respan f decorators)
  respan f (tree.auto_accessor s key value is_static decorators) = tree.auto_accessor (f s) (respan f key) (respan f value) is_static (respan f decorators)
  respan f (tree.static_block s body) = tree.static_block (f s) (respan f body)
  respan f (tree.empty_member s) = tree.empty_member (f s)
  respan f (tree.class_decl name body) = tree.class_decl (respan f name) (respan f body)
  respan f (tree.fn_decl name fn) = tree.fn_decl (respan f name) (respan f fn)
  respan f (tree.var s kind ds) = tree.var (f s) kind (respan f ds)
  respan f (tree.using s is_await ds) = tree.using (f s) is_await (respan f ds)
  respan f (tree.declarator s name init) = tree.declarator (f s) (respan f name) (respan f init)
  respan f (tree.block s stmts) = tree.block (f s) (respan f stmts)
  respan f (tree.empty s) = tree.empty (f s)
  respan f (tree.debugger s) = tree.debugger (f s)
  respan f (tree.with s obj body) = tree.with (f s) (respan f obj) (respan f body)
  respan f (tree.return s arg) = tree.return (f s) (respan f arg)
  respan f (tree.labeled s label body) = tree.labeled (f s) (respan f label) (respan f body)
  respan f (tree.break s label) = tree.break (f s) (respan f label)
  respan f (tree.continue s label) = tree.continue (f s) (respan f label)
  respan f (tree.if_stmt s test cons alt) = tree.if_stmt (f s) (respan f test) (respan f cons) (respan f alt)
  respan f (tree.switch s discriminant cases) = tree.switch (f s) (respan f discriminant) (respan f cases)
  respan f (tree.case s test cons) = tree.case (f s) (respan f test) (respan f cons)
  respan f (tree.throw s arg) = tree.throw (f s) (respan f arg)
  respan f (tree.try s body handler finalizer) = tree.try (f s) (respan f body) (respan f handler) (respan f finalizer)
  respan f (tree.catch s p body) = tree.catch (f s) (respan f p) (respan f body)
  respan f (tree.while s test body) = tree.while (f s) (respan f test) (respan f body)
  respan f (tree.do_while s test body) = tree.do_while (f s) (respan f test) (respan f body)
  respan f (tree.for s init test next body) = tree.for (f s) (respan f init) (respan f test) (respan f next) (respan f body)
  respan f (tree.for_in s left right body) = tree.for_in (f s) (respan f left) (respan f right) (respan f body)
  respan f (tree.for_of s is_await left right body) = tree.for_of (f s) is_await (respan f left) (respan f right) (respan f body)
  respan f (tree.expr_stmt s e) = tree.expr_stmt (f s) (respan f e)
  respan f (tree.import s specifiers src attributes phase) = tree.import (f s) (respan f specifiers) (respan f src) (respan f attributes) phase
  respan f (tree.import_named s local imported) = tree.import_named (f s) (respan f local) (respan f imported)
  respan f (tree.import_default s local) = tree.import_default (f s) (respan f local)
  respan f (tree.import_namespace s local) = tree.import_namespace (f s) (respan f local)
  respan f (tree.export_decl s d) = tree.export_decl (f s) (respan f d)
  respan f (tree.export_named s specifiers src attributes) = tree.export_named (f s) (respan f specifiers) (respan f src) (respan f attributes)
  respan f (tree.export_default_decl s d) = tree.export_default_decl (f s) (respan f d)
  respan f (tree.export_default_expr s e) = tree.export_default_expr (f s) (respan f e)
  respan f (tree.export_all s src attributes) = tree.export_all (f s) (respan f src) (respan f attributes)
  respan f (tree.export_namespace s name) = tree.export_namespace (f s) (respan f name)
  respan f (tree.export_default exported) = tree.export_default (respan f exported)
  respan f (tree.export_specifier s orig exported) = tree.export_specifier (f s) (respan f orig) (respan f exported)
  respan f (tree.script s body shebang) = tree.script (f s) (respan f body) shebang
  respan f (tree.module_program s body shebang) = tree.module_program (f s) (respan f body) shebang

  pub respans : (Span → Span) → Trees → Trees
  respans f none = none
  respans f (also t ts) = also (respan f t) (respans f ts)

abbrev pub no_span : Span
no_span = record { lo = record { 0 = 0 }; hi = record { 0 = 0 } }

-- each span put to one and the same
abbrev pub unspanned : Tree → Tree
unspanned = respan (λ _. no_span)

-- two nodes that are the same but for spans
abbrev pub like_held : Held → Held → Bool
like_held x y = same (unspanned x.tree) (unspanned y.tree)

-- what is there stays there
pub there_respan : (f : Span → Span) (t : Tree) → There t → There (respan f t)
there_respan f tree.absent h = h
there_respan f _ h = tt

abbrev pub respan_held : (Span → Span) → Held → Held
respan_held f x = record { tree = respan f x.tree; there = there_respan f x.tree x.there }
