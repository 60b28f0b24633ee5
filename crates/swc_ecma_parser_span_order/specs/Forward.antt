-- Whether spans run forward: none ends before it starts.
use Rattle.std.specs.Prelude.{◌≡◌, Bool, true, ◌&&◌, nat_le, Option, Some, None, Result, Ok, Err}
use Rattle.swc_ecma_parser_common.specs.declared.span.Span.{Span}
use Rattle.swc_ecma_parser_error.specs.declared.error.Error.{Error}
use Rattle.swc_ecma_parser_input.specs.Place.{Place}
use Rattle.swc_ecma_parser_input.specs.TokenSource.{ordered_from}
use Rattle.swc_ecma_parser_model.specs.Tree as tree
use Rattle.swc_ecma_parser_model.specs.Tree.{Tree, Trees, none, also}
use Rattle.swc_ecma_parser_model.specs.Forms.{span_of}

abbrev pub is_forward : Span → Bool
is_forward s = nat_le s.lo.0 s.hi.0

abbrev pub is_forward_if : Option Span → Bool
is_forward_if (Some s) = is_forward s
is_forward_if None = true

-- the tokens at a place stand one behind another, and behind what was read last
abbrev pub in_order : Place → Bool
in_order c = is_forward c.last && ordered_from c.last.hi.0 c.left

-- Every span of a tree runs forward, and what dots stand before does from the dots on.
abbrev mutual
  pub forward : Tree → Bool
  -- a part that is left out
  forward tree.absent = true
  -- trees one behind another
  forward (tree.list ts) = all_forward ts
  -- names and literals
  forward (tree.ident s text) = is_forward s
  forward (tree.str s value raw) = is_forward s
  forward (tree.bool s b) = is_forward s
  forward (tree.null s) = is_forward s
  forward (tree.num s raw) = is_forward s
  forward (tree.big_int s raw) = is_forward s
  forward (tree.regex s exp flags) = is_forward s
  -- further primary expressions: the elements of an array are `element` or, for a hole, `absent`
  forward (tree.this s) = is_forward s
  forward (tree.array s elems) = is_forward s && forward elems
  forward (tree.object s props) = is_forward s && forward props
  forward (tree.fn_expr s name fn) = is_forward s && (forward name && forward fn)
  forward (tree.class_expr s name body) = is_forward s && (forward name && forward body)
  forward (tree.paren s expr) = is_forward s && forward expr
  forward (tree.meta_prop s kind) = is_forward s
  -- what no text spells
  forward (tree.invalid s) = is_forward s
  -- operators: what is assigned to is an expression (a bare name `ident`), or an array or object pattern
  forward (tree.unary s op arg) = is_forward s && forward arg
  forward (tree.update s op prefix arg) = is_forward s && forward arg
  forward (tree.bin s op left right) = is_forward s && (forward left && forward right)
  forward (tree.assign s op left right) = is_forward s && (forward left && forward right)
  forward (tree.cond s test cons alt) = is_forward s && (forward test && (forward cons && forward alt))
  forward (tree.seq s exprs) = is_forward s && forward exprs
  -- members and calls: of `new`, no arguments where it has no parentheses
  forward (tree.member s obj prop) = is_forward s && (forward obj && forward prop)
  forward (tree.super_prop s word prop) = is_forward s && (is_forward word && forward prop)
  forward (tree.call s callee args) = is_forward s && (forward callee && forward args)
  forward (tree.new s callee args) = is_forward s && (forward callee && forward args)
  -- templates: the expressions, and the texts around them; a tag stands before a `tpl`
  forward (tree.tpl s exprs quasis) = is_forward s && (forward exprs && forward quasis)
  forward (tree.tagged_tpl s tag template) = is_forward s && (forward tag && forward template)
  forward (tree.quasi s tail cooked raw) = is_forward s
  -- a link of an optional chain, which is a `member` or a `call`
  forward (tree.opt_chain s optional base) = is_forward s && forward base
  -- an arrow's parameters are patterns, its body a `block` or an expression
  forward (tree.arrow s params body is_async) = is_forward s && (forward params && forward body)
  forward (tree.yield s arg delegate) = is_forward s && forward arg
  forward (tree.await s arg) = is_forward s && forward arg
  -- parts of expressions: an element or argument, with its dots where it is spread; `#` and a word; a key in brackets
  forward (tree.element spread expr) = is_forward_if spread && (is_forward (span_of (tree.element spread expr)) && forward expr)
  forward (tree.private_name s word text) = is_forward s && is_forward word
  forward (tree.computed s expr) = is_forward s && forward expr
  -- what `super(..)` and `import(..)` call
  forward (tree.super_callee s) = is_forward s
  forward (tree.import_callee s) = is_forward s
  -- parts of objects: a key is an `ident`, `str`, `num`, `big_int` or `computed`; a spread has its dots' span
  forward (tree.spread_prop dots expr) = is_forward dots && (is_forward (span_of (tree.spread_prop dots expr)) && forward expr)
  forward (tree.shorthand_prop s text) = is_forward s
  forward (tree.key_value_prop s key value) = is_forward s && (forward key && forward value)
  forward (tree.assign_prop s key value) = is_forward s && (forward key && forward value)
  forward (tree.getter_prop s key body) = is_forward s && (forward key && forward body)
  forward (tree.setter_prop s key p body) = is_forward s && (forward key && (forward p && forward body))
  forward (tree.method_prop s key fn) = is_forward s && (forward key && forward fn)
  -- patterns: the key of an `assign_pat_prop` is an `ident_pat`; `expr_pat` is a member or parentheses
  forward (tree.ident_pat s text) = is_forward s
  forward (tree.array_pat s elems) = is_forward s && forward elems
  forward (tree.rest_pat s arg) = is_forward s && forward arg
  forward (tree.object_pat s props) = is_forward s && forward props
  forward (tree.key_value_pat_prop s key value) = is_forward s && (forward key && forward value)
  forward (tree.assign_pat_prop s key value) = is_forward s && (forward key && forward value)
  forward (tree.assign_pat s left right) = is_forward s && (forward left && forward right)
  forward (tree.expr_pat expr) = forward expr
  forward (tree.invalid_pat s) = is_forward s
  -- functions: of a declaration, an expression, a method; its parameters are `param`, its body is a `block`
  forward (tree.function s decorators params body is_async is_generator) = is_forward s && (forward decorators && (forward params && forward body))
  forward (tree.param s decorators pat) = is_forward s && (forward decorators && forward pat)
  forward (tree.decorator s expr) = is_forward s && forward expr
  -- classes: the key of a private member is a `private_name`, that of an `auto_accessor` one or a key of objects
  forward (tree.class s decorators body super_class) = is_forward s && (forward decorators && (forward body && forward super_class))
  forward (tree.constructor s key params body) = is_forward s && (forward key && (forward params && forward body))
  forward (tree.method s key fn kind is_static) = is_forward s && (forward key && forward fn)
  forward (tree.private_method s key fn kind is_static) = is_forward s && (forward key && forward fn)
  forward (tree.class_prop s key value is_static decorators) = is_forward s && (forward key && (forward value && forward decorators))
  forward (tree.private_prop s key value is_static decorators) = is_forward s && (forward key && (forward value && forward decorators))
  forward (tree.auto_accessor s key value is_static decorators) = is_forward s && (forward key && (forward value && forward decorators))
  forward (tree.static_block s body) = is_forward s && forward body
  forward (tree.empty_member s) = is_forward s
  -- declarations
  forward (tree.class_decl name body) = forward name && forward body
  forward (tree.fn_decl name fn) = forward name && forward fn
  forward (tree.var s word decls) = is_forward s && forward decls
  forward (tree.using s is_await decls) = is_forward s && forward decls
  forward (tree.declarator s name init) = is_forward s && (forward name && forward init)
  -- statements; a declaration in the place of one is that declaration
  forward (tree.block s stmts) = is_forward s && forward stmts
  forward (tree.empty s) = is_forward s
  forward (tree.debugger s) = is_forward s
  forward (tree.with s obj body) = is_forward s && (forward obj && forward body)
  forward (tree.return s arg) = is_forward s && forward arg
  forward (tree.labeled s label body) = is_forward s && (forward label && forward body)
  forward (tree.break s label) = is_forward s && forward label
  forward (tree.continue s label) = is_forward s && forward label
  forward (tree.if_stmt s test cons alt) = is_forward s && (forward test && (forward cons && forward alt))
  forward (tree.switch s discriminant cases) = is_forward s && (forward discriminant && forward cases)
  forward (tree.case s test cons) = is_forward s && (forward test && forward cons)
  forward (tree.throw s arg) = is_forward s && forward arg
  forward (tree.try s body handler finalizer) = is_forward s && (forward body && (forward handler && forward finalizer))
  forward (tree.catch s p body) = is_forward s && (forward p && forward body)
  forward (tree.while s test body) = is_forward s && (forward test && forward body)
  forward (tree.do_while s test body) = is_forward s && (forward test && forward body)
  forward (tree.for s init test next body) = is_forward s && (forward init && (forward test && (forward next && forward body)))
  forward (tree.for_in s left right body) = is_forward s && (forward left && (forward right && forward body))
  forward (tree.for_of s is_await left right body) = is_forward s && (forward left && (forward right && forward body))
  forward (tree.expr_stmt s expr) = is_forward s && forward expr
  -- imports and exports: `src` is a `str`, `attributes` an `object`; a name of a module's is an `ident` or a `str`
  forward (tree.import s specifiers src attributes phase) = is_forward s && (forward specifiers && (forward src && forward attributes))
  forward (tree.import_named s local imported) = is_forward s && (forward local && forward imported)
  forward (tree.import_default s local) = is_forward s && forward local
  forward (tree.import_namespace s local) = is_forward s && forward local
  forward (tree.export_decl s decl) = is_forward s && forward decl
  forward (tree.export_named s specifiers src attributes) = is_forward s && (forward specifiers && (forward src && forward attributes))
  forward (tree.export_default_decl s decl) = is_forward s && forward decl
  forward (tree.export_default_expr s expr) = is_forward s && forward expr
  forward (tree.export_all s src attributes) = is_forward s && (forward src && forward attributes)
  forward (tree.export_namespace s name) = is_forward s && forward name
  forward (tree.export_default exported) = forward exported
  forward (tree.export_specifier s orig exported) = is_forward s && (forward orig && forward exported)
  -- wholes: their items, and the text of a first line `#!`
  forward (tree.script s body shebang) = is_forward s && forward body
  forward (tree.module_program s body shebang) = is_forward s && forward body

  pub all_forward : Trees → Bool
  all_forward none = true
  all_forward (also x xs) = forward x && all_forward xs

-- An answer runs forward, and what is left stands in order behind it.
abbrev pub AnswersForward : {X : Type 0} → (X → Tree) → Result X Error → Place → Type 0
AnswersForward view (Ok x) c = (forward (view x) ≡ true) × (in_order c ≡ true)
AnswersForward view (Err e) c = Unit {0}
