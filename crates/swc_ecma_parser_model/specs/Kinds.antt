-- The kinds of tree that a node may hold, and that a part of a form is.
use Rattle.std.specs.Prelude.{Bool, true, false, ◌||◌}
use Rattle.swc_ecma_parser_model.specs.Tree as tree
use Rattle.swc_ecma_parser_model.specs.Tree.{Tree}

-- an expression of any form; a private name stands before `in` alone
abbrev pub is_expr : Tree → Bool
is_expr (tree.ident s text) = true
is_expr (tree.str s value raw) = true
is_expr (tree.bool s b) = true
is_expr (tree.null s) = true
is_expr (tree.num s raw) = true
is_expr (tree.big_int s raw) = true
is_expr (tree.regex s exp flags) = true
is_expr (tree.this s) = true
is_expr (tree.array s elems) = true
is_expr (tree.object s props) = true
is_expr (tree.fn_expr s name fn) = true
is_expr (tree.class_expr s name body) = true
is_expr (tree.paren s e) = true
is_expr (tree.meta_prop s kind) = true
is_expr (tree.invalid s) = true
is_expr (tree.unary s op arg) = true
is_expr (tree.update s op prefix arg) = true
is_expr (tree.bin s op left right) = true
is_expr (tree.assign s op left right) = true
is_expr (tree.cond s test cons alt) = true
is_expr (tree.seq s exprs) = true
is_expr (tree.member s obj prop) = true
is_expr (tree.super_prop s word prop) = true
is_expr (tree.call s callee args) = true
is_expr (tree.new s callee args) = true
is_expr (tree.tpl s exprs quasis) = true
is_expr (tree.tagged_tpl s tag template) = true
is_expr (tree.opt_chain s optional base) = true
is_expr (tree.private_name s word text) = true
is_expr (tree.arrow s params body is_async) = true
is_expr (tree.yield s arg delegate) = true
is_expr (tree.await s arg) = true
is_expr _ = false

-- a pattern of any form
abbrev pub is_pat : Tree → Bool
is_pat (tree.ident_pat s text) = true
is_pat (tree.array_pat s elems) = true
is_pat (tree.rest_pat s arg) = true
is_pat (tree.object_pat s props) = true
is_pat (tree.assign_pat s left right) = true
is_pat (tree.expr_pat e) = true
is_pat (tree.invalid_pat s) = true
is_pat _ = false

-- a declaration
abbrev pub is_decl : Tree → Bool
is_decl (tree.class_decl name body) = true
is_decl (tree.fn_decl name fn) = true
is_decl (tree.var s kind ds) = true
is_decl (tree.using s is_await ds) = true
is_decl _ = false

-- a statement that is no declaration
abbrev pub is_plain_stmt : Tree → Bool
is_plain_stmt (tree.block s stmts) = true
is_plain_stmt (tree.empty s) = true
is_plain_stmt (tree.debugger s) = true
is_plain_stmt (tree.with s obj body) = true
is_plain_stmt (tree.return s arg) = true
is_plain_stmt (tree.labeled s label body) = true
is_plain_stmt (tree.break s label) = true
is_plain_stmt (tree.continue s label) = true
is_plain_stmt (tree.if_stmt s test cons alt) = true
is_plain_stmt (tree.switch s discriminant cases) = true
is_plain_stmt (tree.throw s arg) = true
is_plain_stmt (tree.try s body handler finalizer) = true
is_plain_stmt (tree.while s test body) = true
is_plain_stmt (tree.do_while s test body) = true
is_plain_stmt (tree.for s init test next body) = true
is_plain_stmt (tree.for_in s left right body) = true
is_plain_stmt (tree.for_of s is_await left right body) = true
is_plain_stmt (tree.expr_stmt s e) = true
is_plain_stmt _ = false

-- a statement of any form, declarations among them
abbrev pub is_stmt : Tree → Bool
is_stmt x = is_plain_stmt x || is_decl x

-- an import or an export
abbrev pub is_module_decl : Tree → Bool
is_module_decl (tree.import s specifiers src attributes phase) = true
is_module_decl (tree.export_decl s d) = true
is_module_decl (tree.export_named s specifiers src attributes) = true
is_module_decl (tree.export_default_decl s d) = true
is_module_decl (tree.export_default_expr s e) = true
is_module_decl (tree.export_all s src attributes) = true
is_module_decl _ = false

-- an item of a module
abbrev pub is_item : Tree → Bool
is_item x = is_module_decl x || is_stmt x

-- trees one behind another
abbrev pub is_list : Tree → Bool
is_list (tree.list ts) = true
is_list _ = false

-- statements in braces
abbrev pub is_block : Tree → Bool
is_block (tree.block s stmts) = true
is_block _ = false

-- parameters and a body, of a declaration, an expression or a method
abbrev pub is_function : Tree → Bool
is_function (tree.function s decorators params body is_async is_generator) = true
is_function _ = false

-- a class without its name
abbrev pub is_class : Tree → Bool
is_class (tree.class s decorators body super_class) = true
is_class _ = false

-- what stands in the braces of a class
abbrev pub is_member_of_class : Tree → Bool
is_member_of_class (tree.constructor s key params body) = true
is_member_of_class (tree.method s key fn kind is_static) = true
is_member_of_class (tree.private_method s key fn kind is_static) = true
is_member_of_class (tree.class_prop s key value is_static decorators) = true
is_member_of_class (tree.private_prop s key value is_static decorators) = true
is_member_of_class (tree.auto_accessor s key value is_static decorators) = true
is_member_of_class (tree.static_block s body) = true
is_member_of_class (tree.empty_member s) = true
is_member_of_class _ = false

-- a part of an object that is no spread
abbrev pub is_prop : Tree → Bool
is_prop (tree.shorthand_prop s text) = true
is_prop (tree.key_value_prop s key value) = true
is_prop (tree.assign_prop s key value) = true
is_prop (tree.getter_prop s key body) = true
is_prop (tree.setter_prop s key p body) = true
is_prop (tree.method_prop s key fn) = true
is_prop _ = false

-- a key of an object's part or of a member that is not private
abbrev pub is_key : Tree → Bool
is_key (tree.ident s text) = true
is_key (tree.str s value raw) = true
is_key (tree.num s raw) = true
is_key (tree.big_int s raw) = true
is_key (tree.computed s e) = true
is_key _ = false

-- the clause of a `try` that takes what is thrown
abbrev pub is_catch : Tree → Bool
is_catch (tree.catch s p body) = true
is_catch _ = false

-- an object, as the attributes of an import are
abbrev pub is_object : Tree → Bool
is_object (tree.object s props) = true
is_object _ = false

-- a string literal, as what an import names
abbrev pub is_str : Tree → Bool
is_str (tree.str s value raw) = true
is_str _ = false

-- a whole
abbrev pub is_program : Tree → Bool
is_program (tree.script s body shebang) = true
is_program (tree.module_program s body shebang) = true
is_program _ = false

-- a key in brackets
abbrev pub is_computed : Tree → Bool
is_computed (tree.computed s e) = true
is_computed _ = false

abbrev pub is_if : Tree → Bool
is_if (tree.if_stmt s test cons alt) = true
is_if _ = false
