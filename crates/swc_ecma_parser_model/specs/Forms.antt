-- What a rule asks of a finished tree.
use Rattle.std.specs.Prelude.{Bool, true, false, not, ◌&&◌, Option, Some, None, codes}
use Rattle.std.specs.Str.{bytes_eq}
use Rattle.swc_ecma_parser_common.specs.declared.span.Span.{Span}
use Rattle.swc_ecma_parser_model.specs.Tree as tree
use Rattle.swc_ecma_parser_model.specs.Tree.{Tree, Trees, none, also, ident, paren, Text}

-- a part that is left out
abbrev pub is_absent : Tree → Bool
is_absent tree.absent = true
is_absent _ = false

-- a bare name, with no parentheses
abbrev pub is_ident : Tree → Bool
is_ident (ident s text) = true
is_ident _ = false

-- this name, bare
abbrev pub is_ident_named : Text → Tree → Bool
is_ident_named name (ident s text) = bytes_eq text name
is_ident_named name _ = false

-- a link of an optional chain, with no parentheses
abbrev pub is_chain : Tree → Bool
is_chain (tree.opt_chain s optional base) = true
is_chain _ = false

abbrev pub is_paren : Tree → Bool
is_paren (paren s e) = true
is_paren _ = false

-- a member of a value or of `super`
abbrev pub is_member : Tree → Bool
is_member (tree.member s obj prop) = true
is_member (tree.super_prop s word prop) = true
is_member _ = false

-- A name or a member, in any number of parentheses: what `++` and `--` stand at and every assignment operator takes.
abbrev pub is_simple_target : Tree → Bool
is_simple_target (ident s text) = true
is_simple_target (tree.member s obj prop) = true
is_simple_target (tree.super_prop s word prop) = true
is_simple_target (paren s e) = is_simple_target e
is_simple_target _ = false

-- an array or object pattern: what `=` takes besides
abbrev pub is_pattern_target : Tree → Bool
is_pattern_target (tree.array_pat s elems) = true
is_pattern_target (tree.object_pat s props) = true
is_pattern_target _ = false

-- a name that is bound, and no pattern
abbrev pub is_binding_name : Tree → Bool
is_binding_name (tree.ident_pat s text) = true
is_binding_name _ = false

abbrev pub is_rest : Tree → Bool
is_rest (tree.rest_pat s arg) = true
is_rest _ = false

-- the text of a key that is a word or a string
abbrev pub key_text : Tree → Option Text
key_text (ident s text) = Some text
key_text (tree.str s value raw) = Some value
key_text _ = None

abbrev key_is : Text → Tree → Bool
key_is word key = elim (key_text key) [ None ↦ false | Some text ↦ bytes_eq text word ]

-- the key `constructor`, as a word or a string, neither private nor computed
abbrev pub is_constructor_key : Tree → Bool
is_constructor_key key = key_is (codes "constructor") key

-- the key `__proto__`, as a word or a string, not computed
abbrev pub is_proto_key : Tree → Bool
is_proto_key key = key_is (codes "__proto__") key

-- a function, a class or a declaration of one that has a name
abbrev pub has_name : Tree → Bool
has_name (tree.fn_expr s name fn) = not (is_absent name)
has_name (tree.class_expr s name body) = not (is_absent name)
has_name (tree.fn_decl name fn) = not (is_absent name)
has_name (tree.class_decl name body) = not (is_absent name)
has_name _ = false

-- a parameter that is a plain name: of a function, or the pattern itself, of an arrow or a setter
abbrev pub is_plain_param : Tree → Bool
is_plain_param (tree.ident_pat s text) = true
is_plain_param (tree.param s decorators pat) = is_binding_name pat
is_plain_param _ = false

abbrev pub are_plain_params : Trees → Bool
are_plain_params none = true
are_plain_params (also p ps) = is_plain_param p && are_plain_params ps

-- a list of parameters, each of them a plain name
abbrev pub has_plain_params : Tree → Bool
has_plain_params (tree.list ps) = are_plain_params ps
has_plain_params _ = true

-- the constructor of a class
abbrev pub is_constructor : Tree → Bool
is_constructor (tree.constructor s key params body) = true
is_constructor _ = false

-- the span of a node; what is no node has an empty one
abbrev pub no_span : Span
no_span = record { lo = record { 0 = 0 }; hi = record { 0 = 0 } }

-- from the dots on, where there are some
abbrev begun : Option Span → Span → Span
begun None s = s
begun (Some dots) s = record { lo = dots.lo; hi = s.hi }

-- What has no span of its own has that of its part.
abbrev pub span_of : Tree → Span
span_of tree.absent = no_span
span_of (tree.list ts) = no_span
span_of (tree.ident s text) = s
span_of (tree.str s value raw) = s
span_of (tree.bool s b) = s
span_of (tree.null s) = s
span_of (tree.num s raw) = s
span_of (tree.big_int s raw) = s
span_of (tree.regex s exp flags) = s
span_of (tree.this s) = s
span_of (tree.array s elems) = s
span_of (tree.object s props) = s
span_of (tree.fn_expr s name fn) = s
span_of (tree.class_expr s name body) = s
span_of (tree.paren s e) = s
span_of (tree.meta_prop s kind) = s
span_of (tree.invalid s) = s
span_of (tree.unary s op arg) = s
span_of (tree.update s op prefix arg) = s
span_of (tree.bin s op left right) = s
span_of (tree.assign s op left right) = s
span_of (tree.cond s test cons alt) = s
span_of (tree.seq s exprs) = s
span_of (tree.member s obj prop) = s
span_of (tree.super_prop s word prop) = s
span_of (tree.call s callee args) = s
span_of (tree.new s callee args) = s
span_of (tree.tpl s exprs quasis) = s
span_of (tree.tagged_tpl s tag template) = s
span_of (tree.opt_chain s optional base) = s
span_of (tree.arrow s params body is_async) = s
span_of (tree.yield s arg delegate) = s
span_of (tree.await s arg) = s
span_of (tree.element spread e) = begun spread (span_of e)
span_of (tree.private_name s word text) = s
span_of (tree.computed s e) = s
span_of (tree.super_callee s) = s
span_of (tree.import_callee s) = s
span_of (tree.quasi s tail cooked raw) = s
span_of (tree.spread_prop dots e) = begun (Some dots) (span_of e)
span_of (tree.shorthand_prop s text) = s
span_of (tree.key_value_prop s key value) = s
span_of (tree.assign_prop s key value) = s
span_of (tree.getter_prop s key body) = s
span_of (tree.setter_prop s key p body) = s
span_of (tree.method_prop s key fn) = s
span_of (tree.ident_pat s text) = s
span_of (tree.array_pat s elems) = s
span_of (tree.rest_pat s arg) = s
span_of (tree.object_pat s props) = s
span_of (tree.key_value_pat_prop s key value) = s
span_of (tree.assign_pat_prop s key value) = s
span_of (tree.assign_pat s left right) = s
span_of (tree.expr_pat e) = span_of e
span_of (tree.invalid_pat s) = s
span_of (tree.function s decorators params body is_async is_generator) = s
span_of (tree.param s decorators p) = s
span_of (tree.decorator s e) = s
span_of (tree.class s decorators body super_class) = s
span_of (tree.constructor s key params body) = s
span_of (tree.method s key fn kind is_static) = s
span_of (tree.private_method s key fn kind is_static) = s
span_of (tree.class_prop s key value is_static decorators) = s
span_of (tree.private_prop s key value is_static decorators) = s
span_of (tree.auto_accessor s key value is_static decorators) = s
span_of (tree.static_block s body) = s
span_of (tree.empty_member s) = s
span_of (tree.class_decl name body) = span_of body
span_of (tree.fn_decl name fn) = span_of fn
span_of (tree.var s kind ds) = s
span_of (tree.using s is_await ds) = s
span_of (tree.declarator s name init) = s
span_of (tree.block s stmts) = s
span_of (tree.empty s) = s
span_of (tree.debugger s) = s
span_of (tree.with s obj body) = s
span_of (tree.return s arg) = s
span_of (tree.labeled s label body) = s
span_of (tree.break s label) = s
span_of (tree.continue s label) = s
span_of (tree.if_stmt s test cons alt) = s
span_of (tree.switch s discriminant cases) = s
span_of (tree.case s test cons) = s
span_of (tree.throw s arg) = s
span_of (tree.try s body handler finalizer) = s
span_of (tree.catch s p body) = s
span_of (tree.while s test body) = s
span_of (tree.do_while s test body) = s
span_of (tree.for s init test next body) = s
span_of (tree.for_in s left right body) = s
span_of (tree.for_of s is_await left right body) = s
span_of (tree.expr_stmt s e) = s
span_of (tree.import s specifiers src attributes phase) = s
span_of (tree.import_named s local imported) = s
span_of (tree.import_default s local) = s
span_of (tree.import_namespace s local) = s
span_of (tree.export_decl s d) = s
span_of (tree.export_named s specifiers src attributes) = s
span_of (tree.export_default_decl s d) = s
span_of (tree.export_default_expr s e) = s
span_of (tree.export_all s src attributes) = s
span_of (tree.export_namespace s name) = s
span_of (tree.export_default exported) = span_of exported
span_of (tree.export_specifier s orig exported) = s
span_of (tree.script s body shebang) = s
span_of (tree.module_program s body shebang) = s
