-- The faults that a tree has by the rules, by recursion on the tree: what ECMA-262 calls its early errors, as far as the
-- parser looks for them. Parts are walked in the order of the text, which is that of a form's parts but where a comment says
-- otherwise; a form's own faults stand where the parser comes to know of them.
use Rattle.std.specs.Prelude.{Bool, true, false, ◌&&◌, ◌||◌, nat_lt, if◌then◌else◌, List, [], ◌∷◌, ◌++◌}
use Rattle.swc_ecma_parser_common.specs.declared.span.Span.{Span}
use Rattle.swc_ecma_parser_error.specs.Kind as kind
use Rattle.swc_ecma_parser_error.specs.Kind.{Kind, Fault}
use Rattle.swc_ecma_parser_input.specs.declared.syntax.EsSyntax.{EsSyntax}
use Rattle.swc_ecma_parser_model.specs.Tree as tree
use Rattle.swc_ecma_parser_model.specs.Tree.{Tree, Trees, Text, none, also}
use Rattle.swc_ecma_parser_model.specs.Directive.{is_use_strict}
use Rattle.swc_ecma_parser_model.specs.Kinds.{is_module_decl}
use Rattle.swc_ecma_parser_model.specs.Forms.{span_of, is_constructor, is_plain_param, has_plain_params}
use Rattle.swc_ecma_parser_grammar.specs.Names.{Code}
use Rattle.swc_ecma_parser_grammar.specs.language.Items.{directs_on}
use Rattle.swc_ecma_parser_grammar.specs.Own.{break_faults, continue_faults, return_faults, labelled_function, duplicates, misplaced_directive, second_constructor, head_faults, export_faults}

-- what the walk knows of the code around: the settings, the labels, and whether the code is strict, in a function, and has
-- something to break or to continue
pub record Env : Type 0 where
  pub setting : EsSyntax
  pub labels : List Text
  pub strict : Bool
  pub in_function : Bool
  pub can_break : Bool
  pub can_continue : Bool

abbrev pub env_of : Code → List Text → Env
env_of k labels = record {
  setting = k.setting;
  labels = labels;
  strict = k.flags.strict;
  in_function = k.flags.in_function;
  can_break = k.flags.is_break_allowed;
  can_continue = k.flags.is_continue_allowed;
}

-- what follows a directive that says so is strict
abbrev pub env_directed : Env → Bool → Tree → Env
env_directed env directives x = if directives && is_use_strict x then record env { strict = true } else env

-- the body of a function: no label, nothing to break or to continue, and `return` has a place
abbrev pub env_in_body : Env → Env
env_in_body env = record env { labels = []; in_function = true; can_break = false; can_continue = false }

-- the parameters of functions and methods: `return` has no place in them; those of constructors and arrows change nothing
abbrev pub env_in_parameters : Env → Env
env_in_parameters env = record env { in_function = false }

-- class code is strict from the name on
abbrev pub env_in_class : Env → Env
env_in_class env = record env { strict = true }

-- an import or an export, and what follows it, is strict
abbrev pub env_in_module : Env → Env
env_in_module env = record env { strict = true }

abbrev pub env_in_loop : Env → Env
env_in_loop env = record env { can_break = true; can_continue = true }

-- the cases of a switch, their tests too
abbrev pub env_in_switch : Env → Env
env_in_switch env = record env { can_break = true }

-- what a label stands at; the labels around are listed from the outermost in
abbrev pub env_in_label : Env → Tree → Env
env_in_label env (tree.ident s text) = record env { labels = env.labels ++ text ∷ []; can_break = true }
env_in_label env _ = record env { can_break = true }

-- the body of `with` counts as a function's
abbrev pub env_in_with : Env → Env
env_in_with env = record env { in_function = true }

-- what follows an item of a module
abbrev pub env_behind_item : Env → Tree → Env
env_behind_item env x = if is_module_decl x then env_in_module env else env

-- the code of a decorator of what is exported: it stands before the word `export`, or in the export
abbrev pub decorator_env : Env → (export decorator : Span) → Env
decorator_env env s d = if nat_lt d.lo.0 s.lo.0 then env else env_in_module env

abbrev mutual
  pub walk : Env → Tree → List Fault
  walk env tree.absent = []
  walk env (tree.list ts) = walks env false ts
  walk env (tree.ident s text) = []
  walk env (tree.str s value raw) = []
  walk env (tree.bool s b) = []
  walk env (tree.null s) = []
  walk env (tree.num s raw) = []
  walk env (tree.big_int s raw) = []
  walk env (tree.regex s exp flags) = []
  walk env (tree.this s) = []
  walk env (tree.array s elems) = walk env elems
  walk env (tree.object s props) = walk env props
  walk env (tree.fn_expr s name fn) = walk env name ++ walk env fn
  walk env (tree.class_expr s name body) = walk env name ++ walk env body
  walk env (tree.paren s e) = walk env e
  walk env (tree.meta_prop s kind) = []
  walk env (tree.invalid s) = []
  walk env (tree.unary s op arg) = walk env arg
  walk env (tree.update s op prefix arg) = walk env arg
  walk env (tree.bin s op left right) = walk env left ++ walk env right
  walk env (tree.assign s op left right) = walk env left ++ walk env right
  walk env (tree.cond s test cons alt) = walk env test ++ walk env cons ++ walk env alt
  walk env (tree.seq s exprs) = walk env exprs
  walk env (tree.member s obj prop) = walk env obj ++ walk env prop
  walk env (tree.super_prop s word prop) = walk env prop
  walk env (tree.call s callee args) = walk env callee ++ walk env args
  walk env (tree.new s callee args) = walk env callee ++ walk env args
  -- no fault stands in the texts of a template
  walk env (tree.tpl s exprs quasis) = walk env exprs
  walk env (tree.tagged_tpl s tag template) = walk env tag ++ walk env template
  walk env (tree.opt_chain s optional base) = walk env base
  walk env (tree.arrow s params body is_async) = walk env params ++ walk_arrow_body (env_in_body env) (walk (env_in_body env) body) body ++ misplaced_directive (has_plain_params params) body
  walk env (tree.yield s arg delegate) = walk env arg
  walk env (tree.await s arg) = walk env arg
  walk env (tree.element spread e) = walk env e
  walk env (tree.private_name s word text) = []
  walk env (tree.computed s e) = walk env e
  walk env (tree.super_callee s) = []
  walk env (tree.import_callee s) = []
  walk env (tree.quasi s tail cooked raw) = []
  walk env (tree.spread_prop dots e) = walk env e
  walk env (tree.shorthand_prop s text) = []
  walk env (tree.key_value_prop s key value) = walk env key ++ walk env value
  walk env (tree.assign_prop s key value) = walk env key ++ walk env value
  walk env (tree.getter_prop s key body) = walk env key ++ walk_body (env_in_body env) body
  walk env (tree.setter_prop s key p body) = walk env key ++ walk (env_in_parameters env) p ++ walk_body (env_in_body env) body ++ misplaced_directive (is_plain_param p) body
  walk env (tree.method_prop s key fn) = walk_method env (walk env key) fn
  walk env (tree.ident_pat s text) = []
  walk env (tree.array_pat s elems) = walk env elems
  walk env (tree.rest_pat s arg) = walk env arg
  walk env (tree.object_pat s props) = walk env props
  walk env (tree.key_value_pat_prop s key value) = walk env key ++ walk env value
  walk env (tree.assign_pat_prop s key value) = walk env key ++ walk env value
  walk env (tree.assign_pat s left right) = walk env left ++ walk env right
  walk env (tree.expr_pat e) = walk env e
  walk env (tree.invalid_pat s) = []
  walk env (tree.function s decorators params body is_async is_generator) = walk env decorators ++ walk (env_in_parameters env) params ++ walk_body (env_in_body env) body ++ misplaced_directive (has_plain_params params) body
  walk env (tree.param s decorators p) = walk env decorators ++ walk env p
  walk env (tree.decorator s e) = walk env e
  -- heritage stands before the members
  walk env (tree.class s decorators body super_class) = walk env decorators ++ walk (env_in_class env) super_class ++ walk_class_body (env_in_class env) body
  walk env (tree.constructor s key params body) = walk env key ++ walk env params ++ walk_body (env_in_body env) body ++ misplaced_directive (has_plain_params params) body
  -- decorators stand before the key, though the function holds them
  walk env (tree.method s key fn kind is_static) = walk_method env (walk env key) fn
  walk env (tree.private_method s key fn kind is_static) = walk_method env (walk env key) fn
  -- decorators stand before a key
  walk env (tree.class_prop s key value is_static decorators) = walk env decorators ++ walk env key ++ walk env value
  walk env (tree.private_prop s key value is_static decorators) = walk env decorators ++ walk env key ++ walk env value
  walk env (tree.auto_accessor s key value is_static decorators) = walk env decorators ++ walk env key ++ walk env value
  walk env (tree.static_block s body) = walk env body
  walk env (tree.empty_member s) = []
  walk env (tree.class_decl name body) = walk env name ++ walk env body
  walk env (tree.fn_decl name fn) = walk env name ++ walk env fn
  walk env (tree.var s kind ds) = walk env ds
  walk env (tree.using s is_await ds) = walk env ds
  walk env (tree.declarator s name init) = walk env name ++ walk env init
  walk env (tree.block s stmts) = walk env stmts
  walk env (tree.empty s) = []
  walk env (tree.debugger s) = []
  walk env (tree.with s obj body) = walk env obj ++ walk (env_in_with env) body
  walk env (tree.return s arg) = walk env arg ++ return_faults (env.in_function || env.setting.allow_return_outside_function) s
  walk env (tree.labeled s label body) = walk (env_in_label env label) body ++ labelled_function env.strict body ++ duplicates env.labels label
  walk env (tree.break s label) = break_faults env.can_break env.labels label s
  walk env (tree.continue s label) = continue_faults env.can_continue env.labels label s
  walk env (tree.if_stmt s test cons alt) = walk env test ++ walk env cons ++ walk env alt
  walk env (tree.switch s discriminant cases) = walk env discriminant ++ walk (env_in_switch env) cases
  walk env (tree.case s test cons) = walk env test ++ walk env cons
  walk env (tree.throw s arg) = walk env arg
  walk env (tree.try s body handler finalizer) = walk env body ++ walk env handler ++ walk env finalizer
  walk env (tree.catch s p body) = walk env p ++ walk env body
  walk env (tree.while s test body) = walk env test ++ walk (env_in_loop env) body
  -- the body stands before the test
  walk env (tree.do_while s test body) = walk (env_in_loop env) body ++ walk env test
  walk env (tree.for s init test next body) = walk env init ++ walk env test ++ walk env next ++ walk (env_in_loop env) body
  walk env (tree.for_in s left right body) = walk env left ++ head_faults env.strict left ++ walk env right ++ walk (env_in_loop env) body
  walk env (tree.for_of s is_await left right body) = walk env left ++ head_faults true left ++ walk env right ++ walk (env_in_loop env) body
  walk env (tree.expr_stmt s e) = walk env e
  walk env (tree.import s specifiers src attributes phase) = walk (env_in_module env) specifiers ++ walk (env_in_module env) src ++ walk (env_in_module env) attributes
  walk env (tree.import_named s local imported) = walk env imported ++ walk env local
  walk env (tree.import_default s local) = walk env local
  walk env (tree.import_namespace s local) = walk env local
  walk env (tree.export_decl s d) = walk_exported env s (walk (env_in_module env) d) d
  walk env (tree.export_named s specifiers src attributes) = walk (env_in_module env) specifiers ++ walk (env_in_module env) src ++ walk (env_in_module env) attributes ++ export_faults src specifiers
  walk env (tree.export_default_decl s d) = walk_exported env s (walk (env_in_module env) d) d
  walk env (tree.export_default_expr s e) = walk (env_in_module env) e
  walk env (tree.export_all s src attributes) = walk (env_in_module env) src ++ walk (env_in_module env) attributes
  walk env (tree.export_namespace s name) = walk env name
  walk env (tree.export_default exported) = walk env exported
  walk env (tree.export_specifier s orig exported) = walk env orig ++ walk env exported
  walk env (tree.script s body shebang) = walk_body env body
  walk env (tree.module_program s body shebang) = walk_module env body

  -- a body with directives, in braces or not
  pub walk_body : Env → Tree → List Fault
  walk_body env (tree.list ts) = walks env true ts
  walk_body env (tree.block s stmts) = walk_body env stmts
  walk_body env x = []

  -- the body of an arrow, given the faults of one that is an expression: a block has directives
  pub walk_arrow_body : Env → (plain : List Fault) → Tree → List Fault
  walk_arrow_body env plain (tree.block s stmts) = walk_body env stmts
  walk_arrow_body env plain body = plain

  -- the function of a method, behind whose decorators the key stands
  pub walk_method : Env → (key : List Fault) → Tree → List Fault
  walk_method env key (tree.function s decorators params body is_async is_generator) =
      walk env decorators ++ key ++ walk (env_in_parameters env) params ++ walk_body (env_in_body env) body ++ misplaced_directive (has_plain_params params) body
  walk_method env key fn = key

  pub walk_class_body : Env → Tree → List Fault
  walk_class_body env (tree.list members) = walk_members env false members
  walk_class_body env body = []

  -- each constructor behind the first is a fault of its own
  pub walk_members : Env → Bool → Trees → List Fault
  walk_members env constructed none = []
  walk_members env constructed (also m ms) = walk env m ++ second_constructor constructed m ++ walk_members env (constructed || is_constructor m) ms

  -- what is exported, given the faults that it has in the export: the decorators of a class or a function may stand before that
  pub walk_exported : Env → Span → (plain : List Fault) → Tree → List Fault
  walk_exported env s plain (tree.class_decl name (tree.class t decorators body super_class)) =
      walk_decorators env s decorators ++ walk (env_in_class env) super_class ++ walk_class_body (env_in_class env) body
  walk_exported env s plain (tree.class_expr r name (tree.class t decorators body super_class)) =
      walk_decorators env s decorators ++ walk (env_in_class env) super_class ++ walk_class_body (env_in_class env) body
  walk_exported env s plain (tree.fn_decl name (tree.function t decorators params body is_async is_generator)) =
      walk_decorators env s decorators ++ walk (env_in_parameters (env_in_module env)) params ++ walk_body (env_in_body (env_in_module env)) body ++ misplaced_directive (has_plain_params params) body
  walk_exported env s plain (tree.fn_expr r name (tree.function t decorators params body is_async is_generator)) =
      walk_decorators env s decorators ++ walk (env_in_parameters (env_in_module env)) params ++ walk_body (env_in_body (env_in_module env)) body ++ misplaced_directive (has_plain_params params) body
  walk_exported env s plain d = plain

  pub walk_decorators : Env → Span → Tree → List Fault
  walk_decorators env s (tree.list ds) = walk_each_decorator env s ds
  walk_decorators env s d = []

  pub walk_each_decorator : Env → Span → Trees → List Fault
  walk_each_decorator env s none = []
  walk_each_decorator env s (also d ds) = walk (decorator_env env s (span_of d)) d ++ walk_each_decorator env s ds

  -- the items of a module, with directives
  pub walk_module : Env → Tree → List Fault
  walk_module env (tree.list ts) = walk_items env true ts
  walk_module env x = []

  pub walk_items : Env → Bool → Trees → List Fault
  walk_items env directives none = []
  walk_items env directives (also t ts) = walk env t ++ walk_items (env_behind_item (env_directed env directives t) t) (directs_on directives t) ts

  pub walks : Env → Bool → Trees → List Fault
  walks env directives none = []
  walks env directives (also t ts) = walk env t ++ walks (env_directed env directives t) (directs_on directives t) ts

-- the kinds that the walk finds
abbrev pub is_tabled : Kind → Bool
is_tabled kind.TS1105 = true
is_tabled kind.TS1107 = true
is_tabled kind.TS1115 = true
is_tabled kind.TS1116 = true
is_tabled kind.ReturnNotAllowed = true
is_tabled kind.DuplicateLabel = true
is_tabled kind.LabelledFunctionInStrict = true
is_tabled kind.LabelledGeneratorOrAsync = true
is_tabled kind.DuplicateConstructor = true
is_tabled kind.IllegalLanguageModeDirective = true
is_tabled kind.TooManyVarInForInHead = true
is_tabled kind.VarInitializerInForInHead = true
is_tabled kind.ExportExpectFrom = true
is_tabled kind.ExportBindingIsString = true
is_tabled _ = false

-- the kinds that tell of something read that no tree holds
abbrev pub is_dropping : Kind → Bool
is_dropping kind.TS1005 = true
is_dropping kind.TS1009 = true
is_dropping kind.TS1172 = true
is_dropping kind.TS1184 = true
is_dropping kind.TS1089 = true
is_dropping kind.InvalidLeadingDecorator = true
is_dropping _ = false

abbrev pub tabled : List Fault → List Fault
tabled [] = []
tabled (f ∷ fs) = if is_tabled f.kind then f ∷ tabled fs else tabled fs

abbrev pub drops : List Fault → Bool
drops [] = false
drops (f ∷ fs) = if is_dropping f.kind then true else drops fs
