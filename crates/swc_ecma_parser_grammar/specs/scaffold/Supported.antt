-- Supported trees, by their forms, one line for each. They told the forms that are read from those that are not. Now all are read, and
-- every tree of the language is supported, so no promise of the parser names them. They remain since the theorems on the reader are
-- stated with them, and say one thing beside the forms: in module code no fault of module code alone stands in a function or an arrow
-- function in an expression, in a method or an accessor, or in a static block.
use Rattle.std.specs.Prelude.{Bool, true, false, not, ◌&&◌, ◌||◌, List, [], ◌∷◌}
use Rattle.swc_ecma_parser_error.specs.Kind.{Fault}
use Rattle.swc_ecma_parser_model.specs.Tree as tree
use Rattle.swc_ecma_parser_model.specs.Tree.{Tree, Trees, none, also}
use Rattle.swc_ecma_parser_grammar.specs.Notes.{notes}
use Rattle.swc_ecma_parser_grammar.specs.language.Parts.{is_private}

-- no decorator
abbrev pub has_none : Tree → Bool
has_none (tree.list none) = true
has_none _ = false

abbrev pub is_clean : List Fault → Bool
is_clean [] = true
is_clean (f ∷ fs) = false

-- no fault of module code alone is in it
abbrev pub has_no_note : Tree → Bool
has_no_note x = is_clean (notes x)

-- whether a tree is made of these forms alone, in module code or elsewhere
abbrev mutual
  pub supported_in : (in_module : Bool) → Tree → Bool
  supported_in m (tree.list ts) = all_supported_in m ts
  -- names, literals, arrays, objects and parentheses: ECMA-262, section 13.2
  supported_in m (tree.ident s text) = true
  supported_in m (tree.str s value raw) = true
  supported_in m (tree.bool s b) = true
  supported_in m (tree.null s) = true
  supported_in m (tree.num s raw) = true
  supported_in m (tree.big_int s raw) = true
  supported_in m (tree.regex s exp flags) = true
  -- templates, with tags or without: sections 13.2.8 and 13.3.11
  supported_in m (tree.tpl s exprs quasis) = supported_in m exprs
  supported_in m (tree.tagged_tpl s tag template) = supported_in m tag && supported_in m template
  supported_in m (tree.array s elems) = supported_in m elems
  supported_in m (tree.object s props) = supported_in m props
  supported_in m (tree.spread_prop dots e) = supported_in m e
  supported_in m (tree.shorthand_prop s text) = true
  supported_in m (tree.key_value_prop s key value) = is_supported_key_in m key && supported_in m value
  -- Methods and accessors, with what is said of functions as expressions: section 15.4
  supported_in m (tree.getter_prop s key body) = is_supported_key_in m key && (supported_in m body && (not m || has_no_note body))
  supported_in m (tree.setter_prop s key p body) = is_supported_key_in m key && ((supported_in m p && supported_in m body) && (not m || (has_no_note p && has_no_note body)))
  supported_in m (tree.method_prop s key fn) = is_supported_key_in m key && (supported_in m fn && (not m || has_no_note fn))
  supported_in m (tree.paren s e) = supported_in m e
  supported_in m (tree.this s) = true
  -- accesses, calls, `import(..)`, `import.meta` and `new`: section 13.3
  supported_in m (tree.meta_prop s kind) = true
  supported_in m (tree.member s obj prop) = supported_in m obj && is_supported_property_in m prop
  supported_in m (tree.super_prop s word prop) = is_supported_property_in m prop
  supported_in m (tree.call s f args) = supported_in m f && supported_in m args
  supported_in m (tree.super_callee s) = true
  supported_in m (tree.import_callee s) = true
  supported_in m (tree.new s f args) = supported_in m f && supported_in m args
  -- optional chains: section 13.3.9
  supported_in m (tree.opt_chain s optional base) = supported_in m base
  supported_in m (tree.element spread e) = supported_in m e
  supported_in m tree.absent = true
  -- operators, conditionals, assignments and sequences: sections 13.4 to 13.16
  -- a private name before `in`: section 13.10
  supported_in m (tree.private_name s word text) = true
  supported_in m (tree.unary s op arg) = supported_in m arg
  supported_in m (tree.update s op prefix arg) = supported_in m arg
  supported_in m (tree.bin s op left right) = supported_in m left && supported_in m right
  supported_in m (tree.assign s op left right) = supported_in m left && supported_in m right
  supported_in m (tree.cond s test cons alt) = supported_in m test && (supported_in m cons && supported_in m alt)
  supported_in m (tree.seq s exprs) = supported_in m exprs
  -- `yield`: section 15.5
  supported_in m (tree.yield s arg delegate) = supported_in m arg
  -- `await`: section 15.8
  supported_in m (tree.await s arg) = supported_in m arg
  -- what `=` assigns to, and what `var` binds: sections 13.15.5 and 14.3.3
  supported_in m (tree.ident_pat s text) = true
  supported_in m (tree.array_pat s elems) = supported_in m elems
  supported_in m (tree.object_pat s props) = supported_in m props
  supported_in m (tree.rest_pat s arg) = supported_in m arg
  supported_in m (tree.key_value_pat_prop s key value) = is_supported_key_in m key && supported_in m value
  supported_in m (tree.assign_pat_prop s key value) = supported_in m key && supported_in m value
  supported_in m (tree.assign_pat s left right) = supported_in m left && supported_in m right
  supported_in m (tree.expr_pat e) = supported_in m e
  -- `var`, `let` and `const`, with initializers or without: sections 14.3.2 and 14.3.1
  supported_in m (tree.var s word ds) = supported_in m ds
  supported_in m (tree.declarator s name init) = supported_in m name && supported_in m init
  -- `using` and `await using`: the proposal on explicit resource management
  supported_in m (tree.using s is_await ds) = supported_in m ds
  -- blocks, empty statements, `debugger` and expression statements: sections 14.2, 14.4, 14.16 and 14.5
  supported_in m (tree.block s stmts) = supported_in m stmts
  supported_in m (tree.empty s) = true
  supported_in m (tree.debugger s) = true
  supported_in m (tree.expr_stmt s e) = supported_in m e
  -- `for` of three parts, with `in` and with `of`: sections 14.7.4 and 14.7.5
  supported_in m (tree.for s init test next body) = supported_in m init && (supported_in m test && (supported_in m next && supported_in m body))
  supported_in m (tree.for_in s left right body) = supported_in m left && (supported_in m right && supported_in m body)
  supported_in m (tree.for_of s is_await left right body) = supported_in m left && (supported_in m right && supported_in m body)
  -- `if`, `switch`, `throw`, `try`, `while` and `do`: sections 14.6, 14.12, 14.14, 14.15, 14.7.3 and 14.7.2
  supported_in m (tree.if_stmt s test cons alt) = supported_in m test && (supported_in m cons && supported_in m alt)
  supported_in m (tree.switch s discriminant cases) = supported_in m discriminant && supported_in m cases
  supported_in m (tree.case s test cons) = supported_in m test && supported_in m cons
  supported_in m (tree.throw s arg) = supported_in m arg
  supported_in m (tree.try s body handler finalizer) = supported_in m body && (supported_in m handler && supported_in m finalizer)
  supported_in m (tree.catch s p body) = supported_in m p && supported_in m body
  supported_in m (tree.while s test body) = supported_in m test && supported_in m body
  supported_in m (tree.do_while s test body) = supported_in m test && supported_in m body
  -- `with`: section 14.11
  supported_in m (tree.with s obj body) = supported_in m obj && supported_in m body
  -- labels, and what they stand at: section 14.13
  supported_in m (tree.labeled s label body) = supported_in m label && supported_in m body
  -- `break`, `continue` and `return`: sections 14.9, 14.8 and 14.10
  supported_in m (tree.break s label) = supported_in m label
  supported_in m (tree.continue s label) = supported_in m label
  supported_in m (tree.return s arg) = supported_in m arg
  -- functions that are declared: sections 15.2, 15.5, 15.6 and 15.8
  supported_in m (tree.fn_decl name fn) = supported_in m name && supported_in m fn
  supported_in m (tree.function s decorators params body is_async is_generator) = supported_in m decorators && (supported_in m params && supported_in m body)
  supported_in m (tree.param s decorators p) = has_none decorators && supported_in m p
  -- Such functions as expressions. In module code nothing in them is a fault of it: section 15.2
  supported_in m (tree.fn_expr s name fn) = supported_in m name && (supported_in m fn && (not m || has_no_note fn))
  -- Arrow functions, with what is said of functions as expressions: sections 15.3 and 15.9
  supported_in m (tree.arrow s params body is_async) = (supported_in m params && supported_in m body) && (not m || has_no_note body)
  -- one decorator: the proposal of decorators
  supported_in m (tree.decorator s e) = supported_in m e
  -- Classes, declared or as expressions: section 15.7. In module code nothing in the functions and static blocks of their members
  -- is a fault of it.
  supported_in m (tree.class_expr s name body) = supported_in m name && supported_in m body
  supported_in m (tree.class_decl name body) = supported_in m name && supported_in m body
  supported_in m (tree.class s decorators body super_class) = supported_in m decorators && (supported_in m super_class && supported_in m body)
  supported_in m (tree.constructor s key params body) = is_supported_key_in m key && ((supported_in m params && supported_in m body) && (not m || (has_no_note params && has_no_note body)))
  supported_in m (tree.method s key fn kind is_static) = is_supported_key_in m key && (is_supported_method_in m fn && (not m || has_no_note fn))
  supported_in m (tree.private_method s key fn kind is_static) = is_supported_property_in m key && (is_supported_method_in m fn && (not m || has_no_note fn))
  supported_in m (tree.class_prop s key value is_static decorators) = supported_in m decorators && (is_supported_key_in m key && supported_in m value)
  supported_in m (tree.private_prop s key value is_static decorators) = supported_in m decorators && (is_supported_property_in m key && supported_in m value)
  -- fields with a getter and a setter, private or not: the proposal of auto-accessors
  supported_in m (tree.auto_accessor s key value is_static decorators) = supported_in m decorators && ((is_supported_key_in m key || is_private key) && supported_in m value)
  supported_in m (tree.static_block s body) = supported_in m body && (not m || has_no_note body)
  supported_in m (tree.empty_member s) = true
  -- section 16.1
  supported_in m (tree.script s body shebang) = supported_in m body
  supported_in m _ = false

  -- the function of a method, which has the decorators of the method
  pub is_supported_method_in : (in_module : Bool) → Tree → Bool
  is_supported_method_in m (tree.function s decorators params body is_async is_generator) = supported_in m decorators && (supported_in m params && supported_in m body)
  is_supported_method_in m _ = false

  -- any word, a private name, or an expression in brackets
  pub is_supported_property_in : (in_module : Bool) → Tree → Bool
  is_supported_property_in m (tree.ident s text) = true
  is_supported_property_in m (tree.private_name s word text) = true
  is_supported_property_in m (tree.computed s e) = supported_in m e
  is_supported_property_in m _ = false

  -- any word, a string, a number, or an expression in brackets
  pub is_supported_key_in : (in_module : Bool) → Tree → Bool
  is_supported_key_in m (tree.ident s text) = true
  is_supported_key_in m (tree.str s value raw) = true
  is_supported_key_in m (tree.num s raw) = true
  is_supported_key_in m (tree.big_int s raw) = true
  is_supported_key_in m (tree.computed s e) = supported_in m e
  is_supported_key_in m _ = false

  pub all_supported_in : (in_module : Bool) → Trees → Bool
  all_supported_in m none = true
  all_supported_in m (also t ts) = supported_in m t && all_supported_in m ts

-- elsewhere than in module code
abbrev pub supported : Tree → Bool
supported x = supported_in false x

abbrev pub all_supported : Trees → Bool
all_supported xs = all_supported_in false xs
