-- What the walk finds is of the kinds that are tabled.
use Rattle.std.proofs.Common.{◌≡◌, Bool, true, false, not, ◌&&◌, ◌||◌, if◌then◌else◌, List, [], ◌∷◌, ◌++◌, refl, ap, ◌∙◌}
use Rattle.swc_ecma_parser_common.specs.declared.span.Span.{Span}
use Rattle.swc_ecma_parser_error.specs.Kind as kind
use Rattle.swc_ecma_parser_error.specs.Kind.{Kind, Fault}
use Rattle.swc_ecma_parser_model.specs.Tree as tree
use Rattle.swc_ecma_parser_model.specs.Tree.{Tree, Trees, Text, none, also}
use Rattle.swc_ecma_parser_model.specs.Directive.{is_use_strict, is_string_statement}
use Rattle.swc_ecma_parser_model.specs.Forms.{span_of, is_ident_named, is_constructor, is_plain_param, has_plain_params}
use Rattle.swc_ecma_parser_grammar.specs.Names.{is_one_of, reserved_words}
use Rattle.swc_ecma_parser_model.specs.Within.{declared_name, is_initialized}
use Rattle.swc_ecma_parser_grammar.specs.Own.{only, stands_around, break_faults, continue_faults, return_faults, labelled_function, duplicates, first_use_strict, misplaced_directive, second_constructor, surplus, head_faults, specifier_faults, each_specifier, export_faults}
use Rattle.swc_ecma_parser_grammar.specs.Walk.{Env, env_directed, env_in_body, env_in_parameters, env_in_class, env_in_module, env_in_loop, env_in_switch, env_in_label, env_in_with, env_behind_item, decorator_env, walk, walk_body, walk_arrow_body, walk_method, walk_class_body, walk_members, walk_exported, walk_decorators, walk_each_decorator, walk_module, walk_items, walks, is_tabled, tabled}
use Rattle.swc_ecma_parser_grammar.specs.language.Items.{directs_on}
use Rattle.swc_ecma_parser_grammar.specs.language.Laws.{WalkIsTabled}

infixl 5 ◌and◌
abbrev IsTabled : List Fault → Type 0
IsTabled fs = tabled fs ≡ fs

-- ---- lists of faults

kept_or_not : (b : Bool) (f : Fault) (es fs gs : List Fault) → gs ≡ es ++ fs → (if b then f ∷ gs else gs) ≡ (if b then f ∷ es else es) ++ fs
kept_or_not true f es fs gs e = ap (λ hs. f ∷ hs) e
kept_or_not false f es fs gs e = e

pub tabled-append : (es fs : List Fault) → tabled (es ++ fs) ≡ tabled es ++ tabled fs
tabled-append [] fs = refl
tabled-append (e ∷ es) fs = kept_or_not (is_tabled e.kind) e (tabled es) (tabled fs) (tabled (es ++ fs)) (tabled-append es fs)

◌and◌ : {es fs : List Fault} → IsTabled es → IsTabled fs → IsTabled (es ++ fs)
◌and◌ {es} {fs} p q = tabled-append es fs ∙ ap (λ gs. gs ++ tabled fs) p ∙ ap (λ gs. es ++ gs) q

either : (b : Bool) {es fs : List Fault} → IsTabled es → IsTabled fs → IsTabled (if b then es else fs)
either true p q = p
either false p q = q

-- ---- the faults that a form has of its own

of_only : (b : Bool) (k : Kind) (s : Span) → is_tabled k ≡ true → IsTabled (only b k s)
of_only true k s e = rw e
of_only false k s e = refl

of_break_faults : (allowed : Bool) (labels : List Text) (label : Tree) (s : Span) → IsTabled (break_faults allowed labels label s)
of_break_faults allowed labels label s = either (stands_around labels label) (of_only (not allowed) kind.TS1105 s refl) (of_only true kind.TS1116 s refl)

of_continue_faults : (allowed : Bool) (labels : List Text) (label : Tree) (s : Span) → IsTabled (continue_faults allowed labels label s)
of_continue_faults allowed labels label s = either allowed (of_only (not (stands_around labels label)) kind.TS1107 s refl) (of_only true kind.TS1115 s refl)

of_return_faults : (allowed : Bool) (s : Span) → IsTabled (return_faults allowed s)
of_return_faults allowed s = of_only (not allowed) kind.ReturnNotAllowed s refl

of_labelled_function : (strict : Bool) (x : Tree) → IsTabled (labelled_function strict x)
of_labelled_function strict (tree.fn_decl name (tree.function s (tree.list none) params body false is_generator)) =
    of_only strict kind.LabelledFunctionInStrict s refl and of_only is_generator kind.LabelledGeneratorOrAsync s refl
of_labelled_function strict _ = refl

of_duplicates : (labels : List Text) (label : Tree) → IsTabled (duplicates labels label)
of_duplicates [] label = refl
of_duplicates (l ∷ ls) label = of_only (is_ident_named l label) kind.DuplicateLabel (span_of label) refl and of_duplicates ls label

of_first_use_strict : (xs : Trees) → IsTabled (first_use_strict xs)
of_first_use_strict none = refl
of_first_use_strict (also x xs) =
    either (is_use_strict x) (of_only true kind.IllegalLanguageModeDirective (span_of x) refl) (either (is_string_statement x) (of_first_use_strict xs) refl)

of_misplaced_directive : (plain : Bool) (x : Tree) → IsTabled (misplaced_directive plain x)
of_misplaced_directive plain (tree.block s (tree.list xs)) = either plain refl (of_first_use_strict xs)
of_misplaced_directive plain _ = refl

of_second_constructor : (constructed : Bool) (x : Tree) → IsTabled (second_constructor constructed x)
of_second_constructor constructed x = of_only (constructed && is_constructor x) kind.DuplicateConstructor (span_of x) refl

of_surplus : (ds : Trees) → IsTabled (surplus ds)
of_surplus none = refl
of_surplus (also d ds) = of_only true kind.TooManyVarInForInHead (span_of (declared_name d)) refl and of_surplus ds

of_head_faults : (refused : Bool) (x : Tree) → IsTabled (head_faults refused x)
of_head_faults refused (tree.var s word (tree.list (also d none))) = of_only (refused && is_initialized d) kind.VarInitializerInForInHead (span_of (declared_name d)) refl
of_head_faults refused (tree.var s word (tree.list (also d ds))) = of_surplus ds
of_head_faults refused _ = refl

of_specifier_faults : (x : Tree) → IsTabled (specifier_faults x)
of_specifier_faults (tree.export_default exported) = refl
of_specifier_faults (tree.export_namespace s name) = refl
of_specifier_faults (tree.export_specifier s (tree.str t value raw) exported) = refl
of_specifier_faults (tree.export_specifier s (tree.ident t text) exported) = of_only (is_one_of reserved_words text) kind.ExportExpectFrom t refl
of_specifier_faults _ = refl

of_each_specifier : (xs : Trees) → IsTabled (each_specifier xs)
of_each_specifier none = refl
of_each_specifier (also x xs) = of_specifier_faults x and of_each_specifier xs

of_export_faults : (src specifiers : Tree) → IsTabled (export_faults src specifiers)
of_export_faults tree.absent (tree.list xs) = of_each_specifier xs
of_export_faults _ _ = refl

-- ---- the walk

mutual
  of_tree : (env : Env) (x : Tree) → IsTabled (walk env x)
  of_tree env tree.absent = refl
  of_tree env (tree.list ts) = of_trees env false ts
  of_tree env (tree.ident s text) = refl
  of_tree env (tree.str s value raw) = refl
  of_tree env (tree.bool s b) = refl
  of_tree env (tree.null s) = refl
  of_tree env (tree.num s raw) = refl
  of_tree env (tree.big_int s raw) = refl
  of_tree env (tree.regex s exp flags) = refl
  of_tree env (tree.this s) = refl
  of_tree env (tree.array s elems) = of_tree env elems
  of_tree env (tree.object s props) = of_tree env props
  of_tree env (tree.fn_expr s name fn) = of_tree env name and of_tree env fn
  of_tree env (tree.class_expr s name body) = of_tree env name and of_tree env body
  of_tree env (tree.paren s e) = of_tree env e
  of_tree env (tree.meta_prop s kind) = refl
  of_tree env (tree.invalid s) = refl
  of_tree env (tree.unary s op arg) = of_tree env arg
  of_tree env (tree.update s op prefix arg) = of_tree env arg
  of_tree env (tree.bin s op left right) = of_tree env left and of_tree env right
  of_tree env (tree.assign s op left right) = of_tree env left and of_tree env right
  of_tree env (tree.cond s test cons alt) = of_tree env test and of_tree env cons and of_tree env alt
  of_tree env (tree.seq s exprs) = of_tree env exprs
  of_tree env (tree.member s obj prop) = of_tree env obj and of_tree env prop
  of_tree env (tree.super_prop s word prop) = of_tree env prop
  of_tree env (tree.call s callee args) = of_tree env callee and of_tree env args
  of_tree env (tree.new s callee args) = of_tree env callee and of_tree env args
  of_tree env (tree.tpl s exprs quasis) = of_tree env exprs
  of_tree env (tree.tagged_tpl s tag template) = of_tree env tag and of_tree env template
  of_tree env (tree.opt_chain s optional base) = of_tree env base
  of_tree env (tree.arrow s params body is_async) = of_tree env params and of_arrow_body (env_in_body env) (walk (env_in_body env) body) body (of_tree (env_in_body env) body) and of_misplaced_directive (has_plain_params params) body
  of_tree env (tree.yield s arg delegate) = of_tree env arg
  of_tree env (tree.await s arg) = of_tree env arg
  of_tree env (tree.element spread e) = of_tree env e
  of_tree env (tree.private_name s word text) = refl
  of_tree env (tree.computed s e) = of_tree env e
  of_tree env (tree.super_callee s) = refl
  of_tree env (tree.import_callee s) = refl
  of_tree env (tree.quasi s tail cooked raw) = refl
  of_tree env (tree.spread_prop dots e) = of_tree env e
  of_tree env (tree.shorthand_prop s text) = refl
  of_tree env (tree.key_value_prop s key value) = of_tree env key and of_tree env value
  of_tree env (tree.assign_prop s key value) = of_tree env key and of_tree env value
  of_tree env (tree.getter_prop s key body) = of_tree env key and of_body (env_in_body env) body
  of_tree env (tree.setter_prop s key p body) = of_tree env key and of_tree (env_in_parameters env) p and of_body (env_in_body env) body and of_misplaced_directive (is_plain_param p) body
  of_tree env (tree.method_prop s key fn) = of_method env (walk env key) fn (of_tree env key)
  of_tree env (tree.ident_pat s text) = refl
  of_tree env (tree.array_pat s elems) = of_tree env elems
  of_tree env (tree.rest_pat s arg) = of_tree env arg
  of_tree env (tree.object_pat s props) = of_tree env props
  of_tree env (tree.key_value_pat_prop s key value) = of_tree env key and of_tree env value
  of_tree env (tree.assign_pat_prop s key value) = of_tree env key and of_tree env value
  of_tree env (tree.assign_pat s left right) = of_tree env left and of_tree env right
  of_tree env (tree.expr_pat e) = of_tree env e
  of_tree env (tree.invalid_pat s) = refl
  of_tree env (tree.function s decorators params body is_async is_generator) = of_tree env decorators and of_tree (env_in_parameters env) params and of_body (env_in_body env) body and of_misplaced_directive (has_plain_params params) body
  of_tree env (tree.param s decorators p) = of_tree env decorators and of_tree env p
  of_tree env (tree.decorator s e) = of_tree env e
  of_tree env (tree.class s decorators body super_class) = of_tree env decorators and of_tree (env_in_class env) super_class and of_class_body (env_in_class env) body
  of_tree env (tree.constructor s key params body) = of_tree env key and of_tree env params and of_body (env_in_body env) body and of_misplaced_directive (has_plain_params params) body
  of_tree env (tree.method s key fn kind is_static) = of_method env (walk env key) fn (of_tree env key)
  of_tree env (tree.private_method s key fn kind is_static) = of_method env (walk env key) fn (of_tree env key)
  of_tree env (tree.class_prop s key value is_static decorators) = of_tree env decorators and of_tree env key and of_tree env value
  of_tree env (tree.private_prop s key value is_static decorators) = of_tree env decorators and of_tree env key and of_tree env value
  of_tree env (tree.auto_accessor s key value is_static decorators) = of_tree env decorators and of_tree env key and of_tree env value
  of_tree env (tree.static_block s body) = of_tree env body
  of_tree env (tree.empty_member s) = refl
  of_tree env (tree.class_decl name body) = of_tree env name and of_tree env body
  of_tree env (tree.fn_decl name fn) = of_tree env name and of_tree env fn
  of_tree env (tree.var s kind ds) = of_tree env ds
  of_tree env (tree.using s is_await ds) = of_tree env ds
  of_tree env (tree.declarator s name init) = of_tree env name and of_tree env init
  of_tree env (tree.block s stmts) = of_tree env stmts
  of_tree env (tree.empty s) = refl
  of_tree env (tree.debugger s) = refl
  of_tree env (tree.with s obj body) = of_tree env obj and of_tree (env_in_with env) body
  of_tree env (tree.return s arg) = of_tree env arg and of_return_faults (env.in_function || env.setting.allow_return_outside_function) s
  of_tree env (tree.labeled s label body) = of_tree (env_in_label env label) body and of_labelled_function env.strict body and of_duplicates env.labels label
  of_tree env (tree.break s label) = of_break_faults env.can_break env.labels label s
  of_tree env (tree.continue s label) = of_continue_faults env.can_continue env.labels label s
  of_tree env (tree.if_stmt s test cons alt) = of_tree env test and of_tree env cons and of_tree env alt
  of_tree env (tree.switch s discriminant cases) = of_tree env discriminant and of_tree (env_in_switch env) cases
  of_tree env (tree.case s test cons) = of_tree env test and of_tree env cons
  of_tree env (tree.throw s arg) = of_tree env arg
  of_tree env (tree.try s body handler finalizer) = of_tree env body and of_tree env handler and of_tree env finalizer
  of_tree env (tree.catch s p body) = of_tree env p and of_tree env body
  of_tree env (tree.while s test body) = of_tree env test and of_tree (env_in_loop env) body
  of_tree env (tree.do_while s test body) = of_tree (env_in_loop env) body and of_tree env test
  of_tree env (tree.for s init test next body) = of_tree env init and of_tree env test and of_tree env next and of_tree (env_in_loop env) body
  of_tree env (tree.for_in s left right body) = of_tree env left and of_head_faults env.strict left and of_tree env right and of_tree (env_in_loop env) body
  of_tree env (tree.for_of s is_await left right body) = of_tree env left and of_head_faults true left and of_tree env right and of_tree (env_in_loop env) body
  of_tree env (tree.expr_stmt s e) = of_tree env e
  of_tree env (tree.import s specifiers src attributes phase) = of_tree (env_in_module env) specifiers and of_tree (env_in_module env) src and of_tree (env_in_module env) attributes
  of_tree env (tree.import_named s local imported) = of_tree env imported and of_tree env local
  of_tree env (tree.import_default s local) = of_tree env local
  of_tree env (tree.import_namespace s local) = of_tree env local
  of_tree env (tree.export_decl s d) = of_exported env s (walk (env_in_module env) d) d (of_tree (env_in_module env) d)
  of_tree env (tree.export_named s specifiers src attributes) = of_tree (env_in_module env) specifiers and of_tree (env_in_module env) src and of_tree (env_in_module env) attributes and of_export_faults src specifiers
  of_tree env (tree.export_default_decl s d) = of_exported env s (walk (env_in_module env) d) d (of_tree (env_in_module env) d)
  of_tree env (tree.export_default_expr s e) = of_tree (env_in_module env) e
  of_tree env (tree.export_all s src attributes) = of_tree (env_in_module env) src and of_tree (env_in_module env) attributes
  of_tree env (tree.export_namespace s name) = of_tree env name
  of_tree env (tree.export_default exported) = of_tree env exported
  of_tree env (tree.export_specifier s orig exported) = of_tree env orig and of_tree env exported
  of_tree env (tree.script s body shebang) = of_body env body
  of_tree env (tree.module_program s body shebang) = of_module env body

  of_body : (env : Env) (x : Tree) → IsTabled (walk_body env x)
  of_body env (tree.list ts) = of_trees env true ts
  of_body env (tree.block s stmts) = of_body env stmts
  of_body env x = refl

  of_arrow_body : (env : Env) (plain : List Fault) (x : Tree) → IsTabled plain → IsTabled (walk_arrow_body env plain x)
  of_arrow_body env plain (tree.block s stmts) h = of_body env stmts
  of_arrow_body env plain body h = h

  of_method : (env : Env) (key : List Fault) (x : Tree) → IsTabled key → IsTabled (walk_method env key x)
  of_method env key (tree.function s decorators params body is_async is_generator) h = of_tree env decorators and h and of_tree (env_in_parameters env) params and of_body (env_in_body env) body and of_misplaced_directive (has_plain_params params) body
  of_method env key fn h = h

  of_class_body : (env : Env) (x : Tree) → IsTabled (walk_class_body env x)
  of_class_body env (tree.list members) = of_members env false members
  of_class_body env body = refl

  of_members : (env : Env) (constructed : Bool) (xs : Trees) → IsTabled (walk_members env constructed xs)
  of_members env constructed none = refl
  of_members env constructed (also m ms) = of_tree env m and of_second_constructor constructed m and of_members env (constructed || is_constructor m) ms

  of_exported : (env : Env) (s : Span) (plain : List Fault) (x : Tree) → IsTabled plain → IsTabled (walk_exported env s plain x)
  of_exported env s plain (tree.class_decl name (tree.class t decorators body super_class)) h = of_decorators env s decorators and of_tree (env_in_class env) super_class and of_class_body (env_in_class env) body
  of_exported env s plain (tree.class_expr r name (tree.class t decorators body super_class)) h = of_decorators env s decorators and of_tree (env_in_class env) super_class and of_class_body (env_in_class env) body
  of_exported env s plain (tree.fn_decl name (tree.function t decorators params body is_async is_generator)) h = of_decorators env s decorators and of_tree (env_in_parameters (env_in_module env)) params and of_body (env_in_body (env_in_module env)) body and of_misplaced_directive (has_plain_params params) body
  of_exported env s plain (tree.fn_expr r name (tree.function t decorators params body is_async is_generator)) h = of_decorators env s decorators and of_tree (env_in_parameters (env_in_module env)) params and of_body (env_in_body (env_in_module env)) body and of_misplaced_directive (has_plain_params params) body
  of_exported env s plain d h = h

  of_decorators : (env : Env) (s : Span) (x : Tree) → IsTabled (walk_decorators env s x)
  of_decorators env s (tree.list ds) = of_each_decorator env s ds
  of_decorators env s d = refl

  of_each_decorator : (env : Env) (s : Span) (xs : Trees) → IsTabled (walk_each_decorator env s xs)
  of_each_decorator env s none = refl
  of_each_decorator env s (also d ds) = of_tree (decorator_env env s (span_of d)) d and of_each_decorator env s ds

  of_module : (env : Env) (x : Tree) → IsTabled (walk_module env x)
  of_module env (tree.list ts) = of_items env true ts
  of_module env x = refl

  of_items : (env : Env) (directives : Bool) (xs : Trees) → IsTabled (walk_items env directives xs)
  of_items env directives none = refl
  of_items env directives (also t ts) = of_tree env t and of_items (env_behind_item (env_directed env directives t) t) (directs_on directives t) ts

  of_trees : (env : Env) (directives : Bool) (xs : Trees) → IsTabled (walks env directives xs)
  of_trees env directives none = refl
  of_trees env directives (also t ts) = of_tree env t and of_trees (env_directed env directives t) (directs_on directives t) ts

pub walk_is_tabled : WalkIsTabled
walk_is_tabled = of_tree
