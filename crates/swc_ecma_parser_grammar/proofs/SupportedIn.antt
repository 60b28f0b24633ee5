-- What is supported in module code and elsewhere: it is the same, but for what has notes.
use Rattle.std.proofs.Common.{◌≡◌, Bool, true, false, true≢false, cond, List, [], ◌∷◌, ◌++◌, refl, sym, ◌∙◌, ap}
use Rattle.std.specs.Prelude.{◌&&◌, ◌||◌}
use Rattle.swc_ecma_parser_error.specs.Kind.{Fault}
use Rattle.swc_ecma_parser_model.specs.Tree as tree
use Rattle.swc_ecma_parser_model.specs.Tree.{Tree, Trees, none, also}
use Rattle.swc_ecma_parser_model.specs.Kinds.{is_function}
use Rattle.swc_ecma_parser_model.specs.declared.leaves.VarDeclKind.{VarDeclKind}
use Rattle.swc_ecma_parser_grammar.specs.Names.{Code}
use Rattle.swc_ecma_parser_grammar.specs.Notes.{notes, method_notes, all_notes, statement_note}
use Rattle.swc_ecma_parser_grammar.specs.Variables.{is_var}
use Rattle.swc_ecma_parser_grammar.specs.language.Contexts.{without_in, in_strict, with_in, head_code}
use Rattle.swc_ecma_parser_grammar.specs.language.Parts.{is_private}
use Rattle.swc_ecma_parser_grammar.specs.scaffold.Supported.{supported, supported_in, all_supported, all_supported_in, is_supported_key_in, is_supported_property_in, has_none, is_clean, is_supported_method_in}
use Rattle.swc_ecma_parser_grammar.proofs.Tests.{and_yes, and_both}

-- two lists are empty where they are together
pub parted : (fs gs : List Fault) → fs ++ gs ≡ [] → (fs ≡ []) × (gs ≡ [])
parted [] gs e = (refl, e)
parted (f ∷ fs) gs e = (cc, cc)

-- neither the key of a method nor its function has any where the method has none
pub method_parted : (key : List Fault) (fn : Tree) → is_function fn ≡ true → method_notes key fn ≡ [] → (key ≡ []) × (notes fn ≡ [])
method_parted key (tree.function s decorators params body is_async is_generator) f o =
    let n = parted (notes decorators ++ key ++ notes params) (notes body) o in
    let l = parted (notes decorators ++ key) (notes params) n.0 in
    let i = parted (notes decorators) key l.0 in
    (i.1, ap (λ z. z ++ notes params ++ notes body) i.0 ∙ ap (λ z. z ++ notes body) l.1 ∙ n.1)
method_parted key _ f o = absurd (true≢false (sym f))

-- what is supported of a method is a function
pub method_is_function : (m : Bool) (fn : Tree) → is_supported_method_in m fn ≡ true → is_function fn ≡ true
method_is_function m (tree.function s decorators params body is_async is_generator) h = refl
method_is_function m _ h = absurd (true≢false (sym h))

-- one of two, where the first follows from another
either_by : (a b c : Bool) → (a ≡ true → b ≡ true) → (a || c) ≡ true → (b || c) ≡ true
either_by true b c f h = ap (λ z. z || c) (f refl)
either_by false true c f h = refl
either_by false false c f h = h

mutual
  -- what is supported in module code is supported elsewhere
  pub lower : (m : Bool) (x : Tree) → supported_in m x ≡ true → supported x ≡ true
  lower m (tree.list ts) h = lower_all m ts h
  lower m (tree.ident s text) h = h
  lower m (tree.str s value raw) h = refl
  lower m (tree.bool s b) h = refl
  lower m (tree.null s) h = refl
  lower m (tree.num s raw) h = refl
  lower m (tree.big_int s raw) h = refl
  lower m (tree.regex s exp flags) h = refl
  lower m (tree.tpl s exprs quasis) h = lower m exprs h
  lower m (tree.tagged_tpl s tag template) h = let g = and_yes (supported_in m tag) _ h in and_both _ _ (lower m tag g.0) (lower m template g.1)
  lower m (tree.opt_chain s optional base) h = lower m base h
  lower m (tree.private_name s word text) h = refl
  lower m (tree.array s elems) h = lower m elems h
  lower m (tree.object s props) h = lower m props h
  lower m (tree.spread_prop dots e) h = lower m e h
  lower m (tree.shorthand_prop s text) h = h
  lower m (tree.key_value_prop s key value) h = let g = and_yes (is_supported_key_in m key) _ h in and_both _ _ (lower_key m key g.0) (lower m value g.1)
  lower m (tree.getter_prop s key body) h = let g = and_yes (is_supported_key_in m key) _ h in and_both _ _ (lower_key m key g.0) (let i = and_yes (supported_in m body) _ g.1 in and_both _ _ (lower m body i.0) refl)
  lower m (tree.setter_prop s key p body) h = let g = and_yes (is_supported_key_in m key) _ h in and_both _ _ (lower_key m key g.0) (let i = and_yes (supported_in m p && supported_in m body) _ g.1 in let j = and_yes (supported_in m p) _ i.0 in and_both _ _ (and_both _ _ (lower m p j.0) (lower m body j.1)) refl)
  lower m (tree.method_prop s key fn) h = let g = and_yes (is_supported_key_in m key) _ h in and_both _ _ (lower_key m key g.0) (let i = and_yes (supported_in m fn) _ g.1 in and_both _ _ (lower m fn i.0) refl)
  lower m (tree.paren s e) h = lower m e h
  lower m (tree.this s) h = refl
  lower m (tree.meta_prop s kind) h = refl
  lower m (tree.member s obj prop) h = let g = and_yes (supported_in m obj) _ h in and_both _ _ (lower m obj g.0) (lower_property m prop g.1)
  lower m (tree.super_prop s word prop) h = lower_property m prop h
  lower m (tree.call s f args) h = let g = and_yes (supported_in m f) _ h in and_both _ _ (lower m f g.0) (lower m args g.1)
  lower m (tree.super_callee s) h = refl
  lower m (tree.import_callee s) h = refl
  lower m (tree.new s f args) h = let g = and_yes (supported_in m f) _ h in and_both _ _ (lower m f g.0) (lower m args g.1)
  lower m (tree.element spread e) h = lower m e h
  lower m tree.absent h = refl
  lower m (tree.unary s op arg) h = lower m arg h
  lower m (tree.update s op prefix arg) h = lower m arg h
  lower m (tree.bin s op left right) h = let g = and_yes (supported_in m left) _ h in and_both _ _ (lower m left g.0) (lower m right g.1)
  lower m (tree.assign s op left right) h = let g = and_yes (supported_in m left) _ h in and_both _ _ (lower m left g.0) (lower m right g.1)
  lower m (tree.cond s test cons alt) h = let g = and_yes (supported_in m test) _ h in and_both _ _ (lower m test g.0) (let h = and_yes (supported_in m cons) _ g.1 in and_both _ _ (lower m cons h.0) (lower m alt h.1))
  lower m (tree.seq s exprs) h = lower m exprs h
  lower m (tree.yield s arg delegate) h = lower m arg h
  lower m (tree.await s arg) h = lower m arg h
  lower m (tree.ident_pat s text) h = h
  lower m (tree.array_pat s elems) h = lower m elems h
  lower m (tree.object_pat s props) h = lower m props h
  lower m (tree.rest_pat s arg) h = lower m arg h
  lower m (tree.key_value_pat_prop s key value) h = let g = and_yes (is_supported_key_in m key) _ h in and_both _ _ (lower_key m key g.0) (lower m value g.1)
  lower m (tree.assign_pat_prop s key value) h = let g = and_yes (supported_in m key) _ h in and_both _ _ (lower m key g.0) (lower m value g.1)
  lower m (tree.assign_pat s left right) h = let g = and_yes (supported_in m left) _ h in and_both _ _ (lower m left g.0) (lower m right g.1)
  lower m (tree.expr_pat e) h = lower m e h
  lower m (tree.var s word ds) h = lower m ds h
  lower m (tree.declarator s name init) h = let g = and_yes (supported_in m name) _ h in and_both _ _ (lower m name g.0) (lower m init g.1)
  lower m (tree.using s is_await ds) h = lower m ds h
  lower m (tree.block s stmts) h = lower m stmts h
  lower m (tree.empty s) h = refl
  lower m (tree.debugger s) h = refl
  lower m (tree.expr_stmt s e) h = lower m e h
  lower m (tree.for s init test next body) h = let g = and_yes (supported_in m init) _ h in and_both _ _ (lower m init g.0) (let h = and_yes (supported_in m test) _ g.1 in and_both _ _ (lower m test h.0) (let i = and_yes (supported_in m next) _ h.1 in and_both _ _ (lower m next i.0) (lower m body i.1)))
  lower m (tree.for_in s left right body) h = let g = and_yes (supported_in m left) _ h in and_both _ _ (lower m left g.0) (let h = and_yes (supported_in m right) _ g.1 in and_both _ _ (lower m right h.0) (lower m body h.1))
  lower m (tree.for_of s is_await left right body) h = let g = and_yes (supported_in m left) _ h in and_both _ _ (lower m left g.0) (let h = and_yes (supported_in m right) _ g.1 in and_both _ _ (lower m right h.0) (lower m body h.1))
  lower m (tree.if_stmt s test cons alt) h = let g = and_yes (supported_in m test) _ h in and_both _ _ (lower m test g.0) (let h = and_yes (supported_in m cons) _ g.1 in and_both _ _ (lower m cons h.0) (lower m alt h.1))
  lower m (tree.switch s discriminant cases) h = let g = and_yes (supported_in m discriminant) _ h in and_both _ _ (lower m discriminant g.0) (lower m cases g.1)
  lower m (tree.case s test cons) h = let g = and_yes (supported_in m test) _ h in and_both _ _ (lower m test g.0) (lower m cons g.1)
  lower m (tree.throw s arg) h = lower m arg h
  lower m (tree.try s body handler finalizer) h = let g = and_yes (supported_in m body) _ h in and_both _ _ (lower m body g.0) (let h = and_yes (supported_in m handler) _ g.1 in and_both _ _ (lower m handler h.0) (lower m finalizer h.1))
  lower m (tree.catch s p body) h = let g = and_yes (supported_in m p) _ h in and_both _ _ (lower m p g.0) (lower m body g.1)
  lower m (tree.while s test body) h = let g = and_yes (supported_in m test) _ h in and_both _ _ (lower m test g.0) (lower m body g.1)
  lower m (tree.do_while s test body) h = let g = and_yes (supported_in m test) _ h in and_both _ _ (lower m test g.0) (lower m body g.1)
  lower m (tree.with s obj body) h = let g = and_yes (supported_in m obj) _ h in and_both _ _ (lower m obj g.0) (lower m body g.1)
  lower m (tree.labeled s label body) h = let g = and_yes (supported_in m label) _ h in and_both _ _ (lower m label g.0) (lower m body g.1)
  lower m (tree.break s label) h = lower m label h
  lower m (tree.continue s label) h = lower m label h
  lower m (tree.return s arg) h = lower m arg h
  lower m (tree.fn_decl name fn) h = let g = and_yes (supported_in m name) _ h in and_both _ _ (lower m name g.0) (lower m fn g.1)
  lower m (tree.function s decorators params body is_async is_generator) h = let i = and_yes (supported_in m decorators) _ h in and_both _ _ (lower m decorators i.0) (let j = and_yes (supported_in m params) _ i.1 in and_both _ _ (lower m params j.0) (lower m body j.1))
  lower m (tree.param s decorators p) h = let g = and_yes (has_none decorators) _ h in and_both _ _ g.0 (lower m p g.1)
  lower m (tree.fn_expr s name fn) h = let g = and_yes (supported_in m name) _ h in and_both _ _ (lower m name g.0) (let h = and_yes (supported_in m fn) _ g.1 in and_both _ _ (lower m fn h.0) refl)
  lower m (tree.arrow s params body is_async) h = let i = and_yes (supported_in m params && supported_in m body) _ h in let j = and_yes (supported_in m params) _ i.0 in and_both _ _ (and_both _ _ (lower m params j.0) (lower m body j.1)) refl
  lower m (tree.decorator s e) h = lower m e h
  lower m (tree.class_expr s name body) h = let g = and_yes (supported_in m name) _ h in and_both _ _ (lower m name g.0) (lower m body g.1)
  lower m (tree.class_decl name body) h = let g = and_yes (supported_in m name) _ h in and_both _ _ (lower m name g.0) (lower m body g.1)
  lower m (tree.class s decorators body super_class) h = let g = and_yes (supported_in m decorators) _ h in and_both _ _ (lower m decorators g.0) (let i = and_yes (supported_in m super_class) _ g.1 in and_both _ _ (lower m super_class i.0) (lower m body i.1))
  lower m (tree.constructor s key params body) h = let g = and_yes (is_supported_key_in m key) _ h in and_both _ _ (lower_key m key g.0) (let i = and_yes (supported_in m params && supported_in m body) _ g.1 in let j = and_yes (supported_in m params) _ i.0 in and_both _ _ (and_both _ _ (lower m params j.0) (lower m body j.1)) refl)
  lower m (tree.method s key fn kind is_static) h = let g = and_yes (is_supported_key_in m key) _ h in and_both _ _ (lower_key m key g.0) (and_both _ _ (lower_method m fn (and_yes (is_supported_method_in m fn) _ g.1).0) refl)
  lower m (tree.private_method s key fn kind is_static) h = let g = and_yes (is_supported_property_in m key) _ h in and_both _ _ (lower_property m key g.0) (and_both _ _ (lower_method m fn (and_yes (is_supported_method_in m fn) _ g.1).0) refl)
  lower m (tree.class_prop s key value is_static decorators) h = let g = and_yes (supported_in m decorators) _ h in and_both _ _ (lower m decorators g.0) (let i = and_yes (is_supported_key_in m key) _ g.1 in and_both _ _ (lower_key m key i.0) (lower m value i.1))
  lower m (tree.private_prop s key value is_static decorators) h = let g = and_yes (supported_in m decorators) _ h in and_both _ _ (lower m decorators g.0) (let i = and_yes (is_supported_property_in m key) _ g.1 in and_both _ _ (lower_property m key i.0) (lower m value i.1))
  lower m (tree.auto_accessor s key value is_static decorators) h = let g = and_yes (supported_in m decorators) _ h in and_both _ _ (lower m decorators g.0) (let i = and_yes (is_supported_key_in m key || is_private key) _ g.1 in and_both _ _ (either_by (is_supported_key_in m key) (is_supported_key_in false key) (is_private key) (λ e. lower_key m key e) i.0) (lower m value i.1))
  lower m (tree.static_block s body) h = and_both _ _ (lower m body (and_yes (supported_in m body) _ h).0) refl
  lower m (tree.empty_member s) h = refl
  lower m (tree.script s body shebang) h = lower m body h
  lower m _ h = h

  pub lower_method : (m : Bool) (fn : Tree) → is_supported_method_in m fn ≡ true → is_supported_method_in false fn ≡ true
  lower_method m (tree.function s decorators params body is_async is_generator) h = let i = and_yes (supported_in m decorators) _ h in and_both _ _ (lower m decorators i.0) (let j = and_yes (supported_in m params) _ i.1 in and_both _ _ (lower m params j.0) (lower m body j.1))
  lower_method m _ h = h

  pub lower_property : (m : Bool) (x : Tree) → is_supported_property_in m x ≡ true → is_supported_property_in false x ≡ true
  lower_property m (tree.ident s text) h = refl
  lower_property m (tree.private_name s word text) h = refl
  lower_property m (tree.computed s e) h = lower m e h
  lower_property m _ h = h

  pub lower_key : (m : Bool) (x : Tree) → is_supported_key_in m x ≡ true → is_supported_key_in false x ≡ true
  lower_key m (tree.ident s text) h = refl
  lower_key m (tree.str s value raw) h = refl
  lower_key m (tree.num s raw) h = refl
  lower_key m (tree.big_int s raw) h = refl
  lower_key m (tree.computed s e) h = lower m e h
  lower_key m _ h = h

  pub lower_all : (m : Bool) (ts : Trees) → all_supported_in m ts ≡ true → all_supported ts ≡ true
  lower_all m none h = refl
  lower_all m (also t ts) h = let g = and_yes (supported_in m t) _ h in and_both _ _ (lower m t g.0) (lower_all m ts g.1)

mutual
  -- what is supported and has no note is supported in module code
  pub lift : (x : Tree) → supported x ≡ true → notes x ≡ [] → supported_in true x ≡ true
  lift (tree.list ts) h o = lift_all ts h o
  lift (tree.ident s text) h o = h
  lift (tree.str s value raw) h o = refl
  lift (tree.bool s b) h o = refl
  lift (tree.null s) h o = refl
  lift (tree.num s raw) h o = refl
  lift (tree.big_int s raw) h o = refl
  lift (tree.regex s exp flags) h o = refl
  lift (tree.tpl s exprs quasis) h o = lift exprs h o
  lift (tree.tagged_tpl s tag template) h o = let g = and_yes (supported_in false tag) _ h in let n = parted (notes tag) (notes template) o in and_both _ _ (lift tag g.0 n.0) (lift template g.1 n.1)
  lift (tree.opt_chain s optional base) h o = lift base h o
  lift (tree.private_name s word text) h o = refl
  lift (tree.array s elems) h o = lift elems h o
  lift (tree.object s props) h o = lift props h o
  lift (tree.spread_prop dots e) h o = lift e h o
  lift (tree.shorthand_prop s text) h o = h
  lift (tree.key_value_prop s key value) h o = let g = and_yes (is_supported_key_in false key) _ h in and_both _ _ (lift_key key g.0 ((parted (notes key) (notes value) o).0)) (lift value g.1 ((parted (notes key) (notes value) o).1))
  lift (tree.getter_prop s key body) h o = let g = and_yes (is_supported_key_in false key) _ h in let n = parted (notes key) (notes body) o in and_both _ _ (lift_key key g.0 n.0) (let i = and_yes (supported_in false body) _ g.1 in and_both _ _ (lift body i.0 n.1) (ap is_clean n.1))
  lift (tree.setter_prop s key p body) h o = let g = and_yes (is_supported_key_in false key) _ h in let n = parted (notes key ++ notes p) (notes body) o in let l = parted (notes key) (notes p) n.0 in and_both _ _ (lift_key key g.0 l.0) (let i = and_yes (supported_in false p && supported_in false body) _ g.1 in let j = and_yes (supported_in false p) _ i.0 in and_both _ _ (and_both _ _ (lift p j.0 l.1) (lift body j.1 n.1)) (and_both _ _ (ap is_clean l.1) (ap is_clean n.1)))
  lift (tree.method_prop s key fn) h o = let g = and_yes (is_supported_key_in false key) _ h in let n = parted (notes key) (notes fn) o in and_both _ _ (lift_key key g.0 n.0) (let i = and_yes (supported_in false fn) _ g.1 in and_both _ _ (lift fn i.0 n.1) (ap is_clean n.1))
  lift (tree.paren s e) h o = lift e h o
  lift (tree.this s) h o = refl
  lift (tree.meta_prop s kind) h o = refl
  lift (tree.member s obj prop) h o = let g = and_yes (supported_in false obj) _ h in and_both _ _ (lift obj g.0 ((parted (notes obj) (notes prop) o).0)) (lift_property prop g.1 ((parted (notes obj) (notes prop) o).1))
  lift (tree.super_prop s word prop) h o = lift_property prop h o
  lift (tree.call s f args) h o = let g = and_yes (supported_in false f) _ h in and_both _ _ (lift f g.0 ((parted (notes f) (notes args) o).0)) (lift args g.1 ((parted (notes f) (notes args) o).1))
  lift (tree.super_callee s) h o = refl
  lift (tree.import_callee s) h o = refl
  lift (tree.new s f args) h o = let g = and_yes (supported_in false f) _ h in and_both _ _ (lift f g.0 ((parted (notes f) (notes args) o).0)) (lift args g.1 ((parted (notes f) (notes args) o).1))
  lift (tree.element spread e) h o = lift e h o
  lift tree.absent h o = refl
  lift (tree.unary s op arg) h o = lift arg h o
  lift (tree.update s op prefix arg) h o = lift arg h o
  lift (tree.bin s op left right) h o = let g = and_yes (supported_in false left) _ h in and_both _ _ (lift left g.0 ((parted (notes left) (notes right) o).0)) (lift right g.1 ((parted (notes left) (notes right) o).1))
  lift (tree.assign s op left right) h o = let g = and_yes (supported_in false left) _ h in and_both _ _ (lift left g.0 ((parted (notes left) (notes right) o).0)) (lift right g.1 ((parted (notes left) (notes right) o).1))
  lift (tree.cond s test cons alt) h o = let g = and_yes (supported_in false test) _ h in and_both _ _ (lift test g.0 ((parted (notes test) (notes cons) (parted (notes test ++ notes cons) (notes alt) o).0).0)) (let h = and_yes (supported_in false cons) _ g.1 in and_both _ _ (lift cons h.0 ((parted (notes test) (notes cons) (parted (notes test ++ notes cons) (notes alt) o).0).1)) (lift alt h.1 ((parted (notes test ++ notes cons) (notes alt) o).1)))
  lift (tree.seq s exprs) h o = lift exprs h o
  lift (tree.yield s arg delegate) h o = lift arg h o
  lift (tree.await s arg) h o = lift arg h o
  lift (tree.ident_pat s text) h o = h
  lift (tree.array_pat s elems) h o = lift elems h o
  lift (tree.object_pat s props) h o = lift props h o
  lift (tree.rest_pat s arg) h o = lift arg h o
  lift (tree.key_value_pat_prop s key value) h o = let g = and_yes (is_supported_key_in false key) _ h in and_both _ _ (lift_key key g.0 ((parted (notes key) (notes value) o).0)) (lift value g.1 ((parted (notes key) (notes value) o).1))
  lift (tree.assign_pat_prop s key value) h o = let g = and_yes (supported_in false key) _ h in and_both _ _ (lift key g.0 ((parted (notes key) (notes value) o).0)) (lift value g.1 ((parted (notes key) (notes value) o).1))
  lift (tree.assign_pat s left right) h o = let g = and_yes (supported_in false left) _ h in and_both _ _ (lift left g.0 ((parted (notes left) (notes right) o).0)) (lift right g.1 ((parted (notes left) (notes right) o).1))
  lift (tree.expr_pat e) h o = lift e h o
  lift (tree.var s word ds) h o = lift ds h o
  lift (tree.declarator s name init) h o = let g = and_yes (supported_in false name) _ h in and_both _ _ (lift name g.0 ((parted (notes name) (notes init) o).0)) (lift init g.1 ((parted (notes name) (notes init) o).1))
  lift (tree.using s is_await ds) h o = lift ds h o
  lift (tree.block s stmts) h o = lift stmts h o
  lift (tree.empty s) h o = refl
  lift (tree.debugger s) h o = refl
  lift (tree.expr_stmt s e) h o = lift e h ((parted (notes e) (statement_note e) o).0)
  lift (tree.for s init test next body) h o = let g = and_yes (supported_in false init) _ h in and_both _ _ (lift init g.0 ((parted (notes init) (notes test) (parted (notes init ++ notes test) (notes next) (parted (notes init ++ notes test ++ notes next) (notes body) o).0).0).0)) (let h = and_yes (supported_in false test) _ g.1 in and_both _ _ (lift test h.0 ((parted (notes init) (notes test) (parted (notes init ++ notes test) (notes next) (parted (notes init ++ notes test ++ notes next) (notes body) o).0).0).1)) (let i = and_yes (supported_in false next) _ h.1 in and_both _ _ (lift next i.0 ((parted (notes init ++ notes test) (notes next) (parted (notes init ++ notes test ++ notes next) (notes body) o).0).1)) (lift body i.1 ((parted (notes init ++ notes test ++ notes next) (notes body) o).1))))
  lift (tree.for_in s left right body) h o = let g = and_yes (supported_in false left) _ h in and_both _ _ (lift left g.0 ((parted (notes left) (notes right) (parted (notes left ++ notes right) (notes body) o).0).0)) (let h = and_yes (supported_in false right) _ g.1 in and_both _ _ (lift right h.0 ((parted (notes left) (notes right) (parted (notes left ++ notes right) (notes body) o).0).1)) (lift body h.1 ((parted (notes left ++ notes right) (notes body) o).1)))
  lift (tree.for_of s is_await left right body) h o = let g = and_yes (supported_in false left) _ h in and_both _ _ (lift left g.0 ((parted (notes left) (notes right) (parted (notes left ++ notes right) (notes body) o).0).0)) (let h = and_yes (supported_in false right) _ g.1 in and_both _ _ (lift right h.0 ((parted (notes left) (notes right) (parted (notes left ++ notes right) (notes body) o).0).1)) (lift body h.1 ((parted (notes left ++ notes right) (notes body) o).1)))
  lift (tree.if_stmt s test cons alt) h o = let g = and_yes (supported_in false test) _ h in and_both _ _ (lift test g.0 ((parted (notes test) (notes cons) (parted (notes test ++ notes cons) (notes alt) o).0).0)) (let h = and_yes (supported_in false cons) _ g.1 in and_both _ _ (lift cons h.0 ((parted (notes test) (notes cons) (parted (notes test ++ notes cons) (notes alt) o).0).1)) (lift alt h.1 ((parted (notes test ++ notes cons) (notes alt) o).1)))
  lift (tree.switch s discriminant cases) h o = let g = and_yes (supported_in false discriminant) _ h in and_both _ _ (lift discriminant g.0 ((parted (notes discriminant) (notes cases) o).0)) (lift cases g.1 ((parted (notes discriminant) (notes cases) o).1))
  lift (tree.case s test cons) h o = let g = and_yes (supported_in false test) _ h in and_both _ _ (lift test g.0 ((parted (notes test) (notes cons) o).0)) (lift cons g.1 ((parted (notes test) (notes cons) o).1))
  lift (tree.throw s arg) h o = lift arg h o
  lift (tree.try s body handler finalizer) h o = let g = and_yes (supported_in false body) _ h in and_both _ _ (lift body g.0 ((parted (notes body) (notes handler) (parted (notes body ++ notes handler) (notes finalizer) o).0).0)) (let h = and_yes (supported_in false handler) _ g.1 in and_both _ _ (lift handler h.0 ((parted (notes body) (notes handler) (parted (notes body ++ notes handler) (notes finalizer) o).0).1)) (lift finalizer h.1 ((parted (notes body ++ notes handler) (notes finalizer) o).1)))
  lift (tree.catch s p body) h o = let g = and_yes (supported_in false p) _ h in and_both _ _ (lift p g.0 ((parted (notes p) (notes body) o).0)) (lift body g.1 ((parted (notes p) (notes body) o).1))
  lift (tree.while s test body) h o = let g = and_yes (supported_in false test) _ h in and_both _ _ (lift test g.0 ((parted (notes test) (notes body) o).0)) (lift body g.1 ((parted (notes test) (notes body) o).1))
  lift (tree.do_while s test body) h o = let g = and_yes (supported_in false test) _ h in and_both _ _ (lift test g.0 ((parted (notes body) (notes test) o).1)) (lift body g.1 ((parted (notes body) (notes test) o).0))
  lift (tree.with s obj body) h o = cc
  lift (tree.labeled s label body) h o = let g = and_yes (supported_in false label) _ h in and_both _ _ (lift label g.0 ((parted (notes label) (notes body) o).0)) (lift body g.1 ((parted (notes label) (notes body) o).1))
  lift (tree.break s label) h o = lift label h o
  lift (tree.continue s label) h o = lift label h o
  lift (tree.return s arg) h o = lift arg h o
  lift (tree.fn_decl name fn) h o = let g = and_yes (supported_in false name) _ h in and_both _ _ (lift name g.0 ((parted (notes name) (notes fn) o).0)) (lift fn g.1 ((parted (notes name) (notes fn) o).1))
  lift (tree.function s decorators params body is_async is_generator) h o = let i = and_yes (supported_in false decorators) _ h in and_both _ _ (lift decorators i.0 ((parted (notes decorators) (notes params) (parted (notes decorators ++ notes params) (notes body) o).0).0)) (let j = and_yes (supported_in false params) _ i.1 in and_both _ _ (lift params j.0 ((parted (notes decorators) (notes params) (parted (notes decorators ++ notes params) (notes body) o).0).1)) (lift body j.1 ((parted (notes decorators ++ notes params) (notes body) o).1)))
  lift (tree.param s decorators p) h o = let g = and_yes (has_none decorators) _ h in and_both _ _ g.0 (lift p g.1 ((parted (notes decorators) (notes p) o).1))
  lift (tree.fn_expr s name fn) h o = let g = and_yes (supported_in false name) _ h in and_both _ _ (lift name g.0 ((parted (notes name) (notes fn) o).0)) (let h = and_yes (supported_in false fn) _ g.1 in and_both _ _ (lift fn h.0 ((parted (notes name) (notes fn) o).1)) (ap is_clean ((parted (notes name) (notes fn) o).1)))
  lift (tree.arrow s params body is_async) h o = let n = parted (notes params) (notes body) o in let i = and_yes (supported_in false params && supported_in false body) _ h in let j = and_yes (supported_in false params) _ i.0 in and_both _ _ (and_both _ _ (lift params j.0 n.0) (lift body j.1 n.1)) (ap is_clean n.1)
  lift (tree.decorator s e) h o = lift e h o
  lift (tree.class_expr s name body) h o = let g = and_yes (supported_in false name) _ h in let n = parted (notes name) (notes body) o in and_both _ _ (lift name g.0 n.0) (lift body g.1 n.1)
  lift (tree.class_decl name body) h o = let g = and_yes (supported_in false name) _ h in let n = parted (notes name) (notes body) o in and_both _ _ (lift name g.0 n.0) (lift body g.1 n.1)
  lift (tree.class s decorators body super_class) h o = let g = and_yes (supported_in false decorators) _ h in let n = parted (notes decorators ++ notes super_class) (notes body) o in and_both _ _ (lift decorators g.0 ((parted (notes decorators) (notes super_class) n.0).0)) (let i = and_yes (supported_in false super_class) _ g.1 in and_both _ _ (lift super_class i.0 ((parted (notes decorators) (notes super_class) n.0).1)) (lift body i.1 n.1))
  lift (tree.constructor s key params body) h o = let g = and_yes (is_supported_key_in false key) _ h in let n = parted (notes key ++ notes params) (notes body) o in let l = parted (notes key) (notes params) n.0 in and_both _ _ (lift_key key g.0 l.0) (let i = and_yes (supported_in false params && supported_in false body) _ g.1 in let j = and_yes (supported_in false params) _ i.0 in and_both _ _ (and_both _ _ (lift params j.0 l.1) (lift body j.1 n.1)) (and_both _ _ (ap is_clean l.1) (ap is_clean n.1)))
  lift (tree.method s key fn kind is_static) h o = let g = and_yes (is_supported_key_in false key) _ h in let i = and_yes (is_supported_method_in false fn) _ g.1 in let n = method_parted (notes key) fn (method_is_function false fn i.0) o in and_both _ _ (lift_key key g.0 n.0) (and_both _ _ (lift_method fn i.0 n.1) (ap is_clean n.1))
  lift (tree.private_method s key fn kind is_static) h o = let g = and_yes (is_supported_property_in false key) _ h in let i = and_yes (is_supported_method_in false fn) _ g.1 in let n = method_parted (notes key) fn (method_is_function false fn i.0) o in and_both _ _ (lift_property key g.0 n.0) (and_both _ _ (lift_method fn i.0 n.1) (ap is_clean n.1))
  lift (tree.class_prop s key value is_static decorators) h o = let g = and_yes (supported_in false decorators) _ h in let n = parted (notes decorators ++ notes key) (notes value) o in and_both _ _ (lift decorators g.0 ((parted (notes decorators) (notes key) n.0).0)) (let i = and_yes (is_supported_key_in false key) _ g.1 in and_both _ _ (lift_key key i.0 ((parted (notes decorators) (notes key) n.0).1)) (lift value i.1 n.1))
  lift (tree.private_prop s key value is_static decorators) h o = let g = and_yes (supported_in false decorators) _ h in let n = parted (notes decorators ++ notes key) (notes value) o in and_both _ _ (lift decorators g.0 ((parted (notes decorators) (notes key) n.0).0)) (let i = and_yes (is_supported_property_in false key) _ g.1 in and_both _ _ (lift_property key i.0 ((parted (notes decorators) (notes key) n.0).1)) (lift value i.1 n.1))
  lift (tree.auto_accessor s key value is_static decorators) h o = let g = and_yes (supported_in false decorators) _ h in let n = parted (notes decorators ++ notes key) (notes value) o in and_both _ _ (lift decorators g.0 ((parted (notes decorators) (notes key) n.0).0)) (let i = and_yes (is_supported_key_in false key || is_private key) _ g.1 in and_both _ _ (either_by (is_supported_key_in false key) (is_supported_key_in true key) (is_private key) (λ e. lift_key key e ((parted (notes decorators) (notes key) n.0).1)) i.0) (lift value i.1 n.1))
  lift (tree.static_block s body) h o = and_both _ _ (lift body (and_yes (supported_in false body) _ h).0 o) (ap is_clean o)
  lift (tree.empty_member s) h o = refl
  lift (tree.script s body shebang) h o = lift body h o
  lift _ h o = h

  pub lift_method : (fn : Tree) → is_supported_method_in false fn ≡ true → notes fn ≡ [] → is_supported_method_in true fn ≡ true
  lift_method (tree.function s decorators params body is_async is_generator) h o = let i = and_yes (supported_in false decorators) _ h in let n = parted (notes decorators ++ notes params) (notes body) o in let l = parted (notes decorators) (notes params) n.0 in and_both _ _ (lift decorators i.0 l.0) (let j = and_yes (supported_in false params) _ i.1 in and_both _ _ (lift params j.0 l.1) (lift body j.1 n.1))
  lift_method _ h o = h

  pub lift_property : (x : Tree) → is_supported_property_in false x ≡ true → notes x ≡ [] → is_supported_property_in true x ≡ true
  lift_property (tree.ident s text) h o = refl
  lift_property (tree.private_name s word text) h o = refl
  lift_property (tree.computed s e) h o = lift e h o
  lift_property _ h o = h

  pub lift_key : (x : Tree) → is_supported_key_in false x ≡ true → notes x ≡ [] → is_supported_key_in true x ≡ true
  lift_key (tree.ident s text) h o = refl
  lift_key (tree.str s value raw) h o = refl
  lift_key (tree.num s raw) h o = refl
  lift_key (tree.big_int s raw) h o = refl
  lift_key (tree.computed s e) h o = lift e h o
  lift_key _ h o = h

  pub lift_all : (ts : Trees) → all_supported ts ≡ true → all_notes ts ≡ [] → all_supported_in true ts ≡ true
  lift_all none h o = refl
  lift_all (also t ts) h o = let g = and_yes (supported t) _ h in let i = parted (notes t) (all_notes ts) o in and_both _ _ (lift t g.0 i.0) (lift_all ts g.1 i.1)

-- the same of code that is a module's or not
pub lift_in : (m : Bool) (x : Tree) → supported x ≡ true → (m ≡ true → notes x ≡ []) → supported_in m x ≡ true
lift_in true x h o = lift x h (o refl)
lift_in false x h o = h

-- ---- code that is as much of a module as before

-- behind a directive
pub strict_module : (b : Bool) (k : Code) → (cond b (in_strict k) k).flags.module ≡ k.flags.module
strict_module true k = refl
strict_module false k = refl

-- in the first part of a head
pub head_module : (word : VarDeclKind) (k : Code) → (head_code word k).flags.module ≡ k.flags.module
head_module word k = by_test (is_var word)
  where
    by_test : (b : Bool) → (cond b (without_in k) (with_in k)).flags.module ≡ k.flags.module
    by_test true = refl
    by_test false = refl
