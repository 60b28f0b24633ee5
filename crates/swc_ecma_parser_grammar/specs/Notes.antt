-- What counts as a fault in module code alone: each `with`, and the bare name `interface` as a statement. They are listed in the
-- order of the text, which is that of a form's parts but where a comment says otherwise.
use Rattle.std.specs.Prelude.{if◌then◌else◌, List, [], ◌∷◌, ◌++◌, codes}
use Rattle.swc_ecma_parser_common.specs.declared.span.Span.{Span}
use Rattle.swc_ecma_parser_error.specs.Kind.{Kind, Fault, InvalidIdentInStrict, WithInStrict}
use Rattle.swc_ecma_parser_model.specs.Tree as tree
use Rattle.swc_ecma_parser_model.specs.Tree.{Tree, Trees, none, also}
use Rattle.swc_ecma_parser_model.specs.Forms.{is_ident_named, span_of}

abbrev pub statement_note : Tree → List Fault
statement_note e = if is_ident_named (codes "interface") e then record { span = span_of e; kind = InvalidIdentInStrict } ∷ [] else []

-- The fault of a `with` is said at that word. A tree does not hold where the word ends, so the note of it has where it begins alone.
abbrev pub note_span : Kind → Span → Span
note_span WithInStrict s = record { lo = s.lo; hi = s.lo }
note_span _ s = s

abbrev pub as_note : Fault → Fault
as_note f = record { span = note_span f.kind f.span; kind = f.kind }

abbrev pub with_note : Span → Fault
with_note s = as_note (record { span = s; kind = WithInStrict })

abbrev mutual
  pub notes : Tree → List Fault
  notes tree.absent = []
  notes (tree.list ts) = all_notes ts
  notes (tree.ident s text) = []
  notes (tree.str s value raw) = []
  notes (tree.bool s b) = []
  notes (tree.null s) = []
  notes (tree.num s raw) = []
  notes (tree.big_int s raw) = []
  notes (tree.regex s exp flags) = []
  notes (tree.this s) = []
  notes (tree.array s elems) = notes elems
  notes (tree.object s props) = notes props
  notes (tree.fn_expr s name fn) = notes name ++ notes fn
  notes (tree.class_expr s name body) = notes name ++ notes body
  notes (tree.paren s e) = notes e
  notes (tree.meta_prop s kind) = []
  notes (tree.invalid s) = []
  notes (tree.unary s op arg) = notes arg
  notes (tree.update s op prefix arg) = notes arg
  notes (tree.bin s op left right) = notes left ++ notes right
  notes (tree.assign s op left right) = notes left ++ notes right
  notes (tree.cond s test cons alt) = notes test ++ notes cons ++ notes alt
  notes (tree.seq s exprs) = notes exprs
  notes (tree.member s obj prop) = notes obj ++ notes prop
  notes (tree.super_prop s word prop) = notes prop
  notes (tree.call s callee args) = notes callee ++ notes args
  notes (tree.new s callee args) = notes callee ++ notes args
  notes (tree.tpl s exprs quasis) = notes exprs
  notes (tree.tagged_tpl s tag template) = notes tag ++ notes template
  notes (tree.opt_chain s optional base) = notes base
  notes (tree.arrow s params body is_async) = notes params ++ notes body
  notes (tree.yield s arg delegate) = notes arg
  notes (tree.await s arg) = notes arg
  notes (tree.element spread e) = notes e
  notes (tree.private_name s word text) = []
  notes (tree.computed s e) = notes e
  notes (tree.super_callee s) = []
  notes (tree.import_callee s) = []
  notes (tree.quasi s tail cooked raw) = []
  notes (tree.spread_prop dots e) = notes e
  notes (tree.shorthand_prop s text) = []
  notes (tree.key_value_prop s key value) = notes key ++ notes value
  notes (tree.assign_prop s key value) = notes key ++ notes value
  notes (tree.getter_prop s key body) = notes key ++ notes body
  notes (tree.setter_prop s key p body) = notes key ++ notes p ++ notes body
  notes (tree.method_prop s key fn) = notes key ++ notes fn
  notes (tree.ident_pat s text) = []
  notes (tree.array_pat s elems) = notes elems
  notes (tree.rest_pat s arg) = notes arg
  notes (tree.object_pat s props) = notes props
  notes (tree.key_value_pat_prop s key value) = notes key ++ notes value
  notes (tree.assign_pat_prop s key value) = notes key ++ notes value
  notes (tree.assign_pat s left right) = notes left ++ notes right
  notes (tree.expr_pat e) = notes e
  notes (tree.invalid_pat s) = []
  notes (tree.function s decorators params body is_async is_generator) = notes decorators ++ notes params ++ notes body
  notes (tree.param s decorators p) = notes decorators ++ notes p
  notes (tree.decorator s e) = notes e
  -- heritage stands before the members
  notes (tree.class s decorators body super_class) = notes decorators ++ notes super_class ++ notes body
  notes (tree.constructor s key params body) = notes key ++ notes params ++ notes body
  -- decorators stand before the key, though the function holds them
  notes (tree.method s key fn kind is_static) = method_notes (notes key) fn
  notes (tree.private_method s key fn kind is_static) = method_notes (notes key) fn
  -- decorators stand before a key
  notes (tree.class_prop s key value is_static decorators) = notes decorators ++ notes key ++ notes value
  notes (tree.private_prop s key value is_static decorators) = notes decorators ++ notes key ++ notes value
  notes (tree.auto_accessor s key value is_static decorators) = notes decorators ++ notes key ++ notes value
  notes (tree.static_block s body) = notes body
  notes (tree.empty_member s) = []
  notes (tree.class_decl name body) = notes name ++ notes body
  notes (tree.fn_decl name fn) = notes name ++ notes fn
  notes (tree.var s kind ds) = notes ds
  notes (tree.using s is_await ds) = notes ds
  notes (tree.declarator s name init) = notes name ++ notes init
  notes (tree.block s stmts) = notes stmts
  notes (tree.empty s) = []
  notes (tree.debugger s) = []
  notes (tree.with s obj body) = with_note s ∷ notes obj ++ notes body
  notes (tree.return s arg) = notes arg
  notes (tree.labeled s label body) = notes label ++ notes body
  notes (tree.break s label) = notes label
  notes (tree.continue s label) = notes label
  notes (tree.if_stmt s test cons alt) = notes test ++ notes cons ++ notes alt
  notes (tree.switch s discriminant cases) = notes discriminant ++ notes cases
  notes (tree.case s test cons) = notes test ++ notes cons
  notes (tree.throw s arg) = notes arg
  notes (tree.try s body handler finalizer) = notes body ++ notes handler ++ notes finalizer
  notes (tree.catch s p body) = notes p ++ notes body
  notes (tree.while s test body) = notes test ++ notes body
  -- the body stands before the test
  notes (tree.do_while s test body) = notes body ++ notes test
  notes (tree.for s init test next body) = notes init ++ notes test ++ notes next ++ notes body
  notes (tree.for_in s left right body) = notes left ++ notes right ++ notes body
  notes (tree.for_of s is_await left right body) = notes left ++ notes right ++ notes body
  notes (tree.expr_stmt s e) = notes e ++ statement_note e
  notes (tree.import s specifiers src attributes phase) = notes specifiers ++ notes src ++ notes attributes
  notes (tree.import_named s local imported) = notes imported ++ notes local
  notes (tree.import_default s local) = notes local
  notes (tree.import_namespace s local) = notes local
  notes (tree.export_decl s d) = notes d
  notes (tree.export_named s specifiers src attributes) = notes specifiers ++ notes src ++ notes attributes
  notes (tree.export_default_decl s d) = notes d
  notes (tree.export_default_expr s e) = notes e
  notes (tree.export_all s src attributes) = notes src ++ notes attributes
  notes (tree.export_namespace s name) = notes name
  notes (tree.export_default exported) = notes exported
  notes (tree.export_specifier s orig exported) = notes orig ++ notes exported
  notes (tree.script s body shebang) = notes body
  notes (tree.module_program s body shebang) = notes body

  -- the function of a method, behind whose decorators the key stands
  pub method_notes : (key : List Fault) → Tree → List Fault
  method_notes key (tree.function s decorators params body is_async is_generator) = notes decorators ++ key ++ notes params ++ notes body
  method_notes key fn = key

  pub all_notes : Trees → List Fault
  all_notes none = []
  all_notes (also t ts) = notes t ++ all_notes ts
