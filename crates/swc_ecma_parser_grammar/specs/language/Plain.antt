-- Lists with no token of regular expressions, templates, optional chains, `new.target`, `#a in b` and words with escapes: what is read
-- of them has none of these forms.
use Rattle.std.specs.Prelude.{◌≡◌, ℕ, Bool, true, false, not, ◌&&◌, ◌||◌, List, [], ◌∷◌}
use Rattle.swc_ecma_parser_token.specs.declared.token.Token.{Token}
use Rattle.swc_ecma_parser_token.specs.declared.token.Token.TheVariants as token
use Rattle.swc_ecma_parser_token.specs.declared.token.Word.TheVariants as word
use Rattle.swc_ecma_parser_token.specs.declared.token.TokenAndSpan.{TokenAndSpan}
use Rattle.swc_ecma_parser_input.specs.Place.{Place}
use Rattle.swc_ecma_parser_model.specs.Tree as tree
use Rattle.swc_ecma_parser_model.specs.Tree.{Tree, Trees, none, also}
use Rattle.swc_ecma_parser_grammar.specs.Names.{Code}
use Rattle.swc_ecma_parser_grammar.specs.language.Parts.{is_private}
use Rattle.swc_ecma_parser_grammar.specs.language.Noted.{is_import_meta}
use Rattle.swc_ecma_parser_grammar.specs.language.Programs.{Entry, ReadsEntry}

abbrev pub is_plain_token : Token → Bool
is_plain_token (token.Regex exp flags) = false
is_plain_token (token.Template raw cooked) = false
is_plain_token (token.TemplateHead raw cooked) = false
is_plain_token (token.TemplateMiddle raw cooked) = false
is_plain_token (token.TemplateTail raw cooked) = false
is_plain_token token.QuestionDot = false
is_plain_token token.NewDot = false
is_plain_token token.HashIn = false
is_plain_token (token.Word (word.Escaped text)) = false
is_plain_token _ = true

abbrev pub plain_list : List TokenAndSpan → Bool
plain_list [] = true
plain_list (t ∷ ts) = is_plain_token t.token && plain_list ts

-- Whether one of these forms stands in a tree. A name does not tell how it was written.
abbrev mutual
  pub has_new_form : Tree → Bool
  has_new_form tree.absent = false
  has_new_form (tree.list ts) = any_has_new_form ts
  has_new_form (tree.ident s text) = false
  has_new_form (tree.str s value raw) = false
  has_new_form (tree.bool s b) = false
  has_new_form (tree.null s) = false
  has_new_form (tree.num s raw) = false
  has_new_form (tree.big_int s raw) = false
  has_new_form (tree.regex s exp flags) = true
  has_new_form (tree.this s) = false
  has_new_form (tree.array s elems) = has_new_form elems
  has_new_form (tree.object s props) = has_new_form props
  has_new_form (tree.fn_expr s name fn) = has_new_form name || has_new_form fn
  has_new_form (tree.class_expr s name body) = has_new_form name || has_new_form body
  has_new_form (tree.paren s e) = has_new_form e
  has_new_form (tree.meta_prop s kind) = not (is_import_meta kind)
  has_new_form (tree.invalid s) = false
  has_new_form (tree.unary s op arg) = has_new_form arg
  has_new_form (tree.update s op prefix arg) = has_new_form arg
  has_new_form (tree.bin s op left right) = is_private left || (has_new_form left || has_new_form right)
  has_new_form (tree.assign s op left right) = has_new_form left || has_new_form right
  has_new_form (tree.cond s test cons alt) = has_new_form test || has_new_form cons || has_new_form alt
  has_new_form (tree.seq s exprs) = has_new_form exprs
  has_new_form (tree.member s obj prop) = has_new_form obj || has_new_form prop
  has_new_form (tree.super_prop s word prop) = has_new_form prop
  has_new_form (tree.call s callee args) = has_new_form callee || has_new_form args
  has_new_form (tree.new s callee args) = has_new_form callee || has_new_form args
  has_new_form (tree.tpl s exprs quasis) = true
  has_new_form (tree.tagged_tpl s tag template) = true
  has_new_form (tree.opt_chain s optional base) = true
  has_new_form (tree.arrow s params body is_async) = has_new_form params || has_new_form body
  has_new_form (tree.yield s arg delegate) = has_new_form arg
  has_new_form (tree.await s arg) = has_new_form arg
  has_new_form (tree.element spread e) = has_new_form e
  has_new_form (tree.private_name s word text) = false
  has_new_form (tree.computed s e) = has_new_form e
  has_new_form (tree.super_callee s) = false
  has_new_form (tree.import_callee s) = false
  has_new_form (tree.quasi s tail cooked raw) = true
  has_new_form (tree.spread_prop dots e) = has_new_form e
  has_new_form (tree.shorthand_prop s text) = false
  has_new_form (tree.key_value_prop s key value) = has_new_form key || has_new_form value
  has_new_form (tree.assign_prop s key value) = has_new_form key || has_new_form value
  has_new_form (tree.getter_prop s key body) = has_new_form key || has_new_form body
  has_new_form (tree.setter_prop s key p body) = has_new_form key || has_new_form p || has_new_form body
  has_new_form (tree.method_prop s key fn) = has_new_form key || has_new_form fn
  has_new_form (tree.ident_pat s text) = false
  has_new_form (tree.array_pat s elems) = has_new_form elems
  has_new_form (tree.rest_pat s arg) = has_new_form arg
  has_new_form (tree.object_pat s props) = has_new_form props
  has_new_form (tree.key_value_pat_prop s key value) = has_new_form key || has_new_form value
  has_new_form (tree.assign_pat_prop s key value) = has_new_form key || has_new_form value
  has_new_form (tree.assign_pat s left right) = has_new_form left || has_new_form right
  has_new_form (tree.expr_pat e) = has_new_form e
  has_new_form (tree.invalid_pat s) = false
  has_new_form (tree.function s decorators params body is_async is_generator) = has_new_form decorators || has_new_form params || has_new_form body
  has_new_form (tree.param s decorators p) = has_new_form decorators || has_new_form p
  has_new_form (tree.decorator s e) = has_new_form e
  has_new_form (tree.class s decorators body super_class) = has_new_form decorators || has_new_form super_class || has_new_form body
  has_new_form (tree.constructor s key params body) = has_new_form key || has_new_form params || has_new_form body
  has_new_form (tree.method s key fn kind is_static) = has_new_form key || has_new_form fn
  has_new_form (tree.private_method s key fn kind is_static) = has_new_form key || has_new_form fn
  has_new_form (tree.class_prop s key value is_static decorators) = has_new_form decorators || has_new_form key || has_new_form value
  has_new_form (tree.private_prop s key value is_static decorators) = has_new_form decorators || has_new_form key || has_new_form value
  has_new_form (tree.auto_accessor s key value is_static decorators) = has_new_form decorators || has_new_form key || has_new_form value
  has_new_form (tree.static_block s body) = has_new_form body
  has_new_form (tree.empty_member s) = false
  has_new_form (tree.class_decl name body) = has_new_form name || has_new_form body
  has_new_form (tree.fn_decl name fn) = has_new_form name || has_new_form fn
  has_new_form (tree.var s kind ds) = has_new_form ds
  has_new_form (tree.using s is_await ds) = has_new_form ds
  has_new_form (tree.declarator s name init) = has_new_form name || has_new_form init
  has_new_form (tree.block s stmts) = has_new_form stmts
  has_new_form (tree.empty s) = false
  has_new_form (tree.debugger s) = false
  has_new_form (tree.with s obj body) = has_new_form obj || has_new_form body
  has_new_form (tree.return s arg) = has_new_form arg
  has_new_form (tree.labeled s label body) = has_new_form label || has_new_form body
  has_new_form (tree.break s label) = has_new_form label
  has_new_form (tree.continue s label) = has_new_form label
  has_new_form (tree.if_stmt s test cons alt) = has_new_form test || has_new_form cons || has_new_form alt
  has_new_form (tree.switch s discriminant cases) = has_new_form discriminant || has_new_form cases
  has_new_form (tree.case s test cons) = has_new_form test || has_new_form cons
  has_new_form (tree.throw s arg) = has_new_form arg
  has_new_form (tree.try s body handler finalizer) = has_new_form body || has_new_form handler || has_new_form finalizer
  has_new_form (tree.catch s p body) = has_new_form p || has_new_form body
  has_new_form (tree.while s test body) = has_new_form test || has_new_form body
  has_new_form (tree.do_while s test body) = has_new_form body || has_new_form test
  has_new_form (tree.for s init test next body) = has_new_form init || has_new_form test || has_new_form next || has_new_form body
  has_new_form (tree.for_in s left right body) = has_new_form left || has_new_form right || has_new_form body
  has_new_form (tree.for_of s is_await left right body) = has_new_form left || has_new_form right || has_new_form body
  has_new_form (tree.expr_stmt s e) = has_new_form e
  has_new_form (tree.import s specifiers src attributes phase) = has_new_form specifiers || has_new_form src || has_new_form attributes
  has_new_form (tree.import_named s local imported) = has_new_form imported || has_new_form local
  has_new_form (tree.import_default s local) = has_new_form local
  has_new_form (tree.import_namespace s local) = has_new_form local
  has_new_form (tree.export_decl s d) = has_new_form d
  has_new_form (tree.export_named s specifiers src attributes) = has_new_form specifiers || has_new_form src || has_new_form attributes
  has_new_form (tree.export_default_decl s d) = has_new_form d
  has_new_form (tree.export_default_expr s e) = has_new_form e
  has_new_form (tree.export_all s src attributes) = has_new_form src || has_new_form attributes
  has_new_form (tree.export_namespace s name) = has_new_form name
  has_new_form (tree.export_default exported) = has_new_form exported
  has_new_form (tree.export_specifier s orig exported) = has_new_form orig || has_new_form exported
  has_new_form (tree.script s body shebang) = has_new_form body
  has_new_form (tree.module_program s body shebang) = has_new_form body

  pub any_has_new_form : Trees → Bool
  any_has_new_form none = false
  any_has_new_form (also t ts) = has_new_form t || any_has_new_form ts

-- of a list without such tokens no tree with such a form is read
abbrev pub PlainListsArePlain : Type 0
PlainListsArePlain = (n : ℕ) (entry : Entry) (k : Code) (x : Tree) (c d : Place) → ReadsEntry n entry k x c d → plain_list c.left ≡ true → has_new_form x ≡ false
