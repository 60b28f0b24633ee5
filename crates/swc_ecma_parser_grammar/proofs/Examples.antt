-- Trees whose depth and faults are known by hand. A span that decides nothing is empty.
use Rattle.std.proofs.Common.{◌≡◌, ℕ, true, false, List, [], ◌∷◌, None, refl}
use Rattle.std.specs.Prelude.{codes}
use Rattle.swc_ecma_parser_common.specs.declared.span.Span.{Span}
use Rattle.swc_ecma_parser_error.specs.Kind as kind
use Rattle.swc_ecma_parser_error.specs.Kind.{Kind, Fault}
use Rattle.swc_ecma_parser_model.specs.declared.leaves.VarDeclKind.TheVariants as word
use Rattle.swc_ecma_parser_model.specs.declared.leaves.MethodKind.TheVariants as method
use Rattle.swc_ecma_parser_model.specs.declared.leaves.ImportPhase.TheVariants as phase
use Rattle.swc_ecma_parser_model.specs.declared.operators.BinaryOp.TheVariants as binary
use Rattle.swc_ecma_parser_model.specs.declared.operators.AssignOp.TheVariants as assign
use Rattle.swc_ecma_parser_model.specs.declared.operators.UpdateOp.TheVariants as update
use Rattle.swc_ecma_parser_model.specs.Tree as tree
use Rattle.swc_ecma_parser_model.specs.Tree.{Tree, Text, listed}
use Rattle.swc_ecma_parser_grammar.specs.Depth.{depth}
use Rattle.swc_ecma_parser_grammar.specs.Notes.{notes}
use Rattle.swc_ecma_parser_grammar.specs.Walk.{Env, walk}

abbrev at : ℕ → ℕ → Span
at lo hi = record { lo = record { 0 = lo }; hi = record { 0 = hi } }

abbrev o : Span
o = at 0 0

abbrev fault : Kind → ℕ → ℕ → Fault
fault k lo hi = record { span = at lo hi; kind = k }

abbrev a : Tree
a = tree.ident o (codes "a")

abbrev script : List Tree → Tree
script xs = tree.script o (listed xs) None

abbrev module_of : List Tree → Tree
module_of xs = tree.module_program o (listed xs) None

abbrev stmt : Tree → Tree
stmt e = tree.expr_stmt o e

abbrev block : List Tree → Tree
block xs = tree.block o (listed xs)

abbrev nothing : Tree
nothing = listed []

-- a plain function at a span
abbrev function : Span → (params body : List Tree) → Tree
function s params body = tree.function s nothing (listed params) (block body) false false

abbrev fn_decl : Span → List Tree → Tree
fn_decl s body = tree.fn_decl a (function s [] body)

-- `a: function f(){}` with its function at this span
abbrev labelled : Span → Tree
labelled s = tree.labeled o a (fn_decl s [])

abbrev class : List Tree → Tree
class members = tree.class o nothing (listed members) tree.absent

abbrev param : Tree → Tree
param p = tree.param o nothing p

abbrev b_pat : Tree
b_pat = tree.ident_pat o (codes "b")

-- ---- depth

-- an empty script; `{{}}`
empty_script : depth (script []) ≡ 0
empty_script = refl

blocks : depth (script (block (block [] ∷ []) ∷ [])) ≡ 2
blocks = refl

-- `a + a + a`: a left operand stands as high as the whole; `a ** a ** a`: a right one is one deeper
sums : depth (stmt (tree.bin o binary.Add (tree.bin o binary.Add a a) a)) ≡ 3
sums = refl

powers : depth (stmt (tree.bin o binary.Exp a (tree.bin o binary.Exp a a))) ≡ 4
powers = refl

-- `a(a)++` and `++a`
postfix : depth (stmt (tree.update o update.PlusPlus false (tree.call o a (listed (tree.element None a ∷ []))))) ≡ 3
postfix = refl

prefix : depth (stmt (tree.update o update.PlusPlus true a)) ≡ 3
prefix = refl

-- `[a.b] = a`: what a pattern's leaf holds stands as high as the leaf
leaf : depth (stmt (tree.assign o assign.Assign (tree.array_pat o (listed (tree.expr_pat (tree.member o a a) ∷ []))) a)) ≡ 3
leaf = refl

-- `([[b]]) => a`
arrow : depth (stmt (tree.arrow o (listed (tree.array_pat o (listed (tree.array_pat o (listed (b_pat ∷ [])) ∷ [])) ∷ [])) a false)) ≡ 5
arrow = refl

-- `if (a) a; else if (a) a;`: a chain stands at one level
chain : depth (tree.if_stmt o a (stmt a) (tree.if_stmt o a (stmt a) tree.absent)) ≡ 3
chain = refl

-- `for (var b of a) ;`, `for (using b of a) ;`, `for (await using b of a) ;`
abbrev variables : Tree
variables = listed (tree.declarator o b_pat tree.absent ∷ [])

var_head : depth (tree.for_of o false (tree.var o word.Var variables) a (tree.empty o)) ≡ 2
var_head = refl

using_head : depth (tree.for_of o false (tree.using o false variables) a (tree.empty o)) ≡ 2
using_head = refl

await_head : depth (tree.for_of o false (tree.using o true variables) a (tree.empty o)) ≡ 3
await_head = refl

-- `class A { m() { a; } }`, `class A {;}` and `{ m() { a; } }`: an object's method is no level, a member of a class is one
class_method : depth (tree.class_decl a (class (tree.method o a (function o [] (stmt a ∷ [])) method.Method false ∷ []))) ≡ 4
class_method = refl

class_empty : depth (tree.class_decl a (class (tree.empty_member o ∷ []))) ≡ 2
class_empty = refl

object_method : depth (tree.object o (listed (tree.method_prop o a (function o [] (stmt a ∷ [])) ∷ []))) ≡ 3
object_method = refl

-- `try {} catch (b) { a; }`, `import 'x' with {}`
caught : depth (tree.try o (block []) (tree.catch o b_pat (block (stmt a ∷ []))) tree.absent) ≡ 3
caught = refl

attributes : depth (tree.import o nothing (tree.str o [] []) (tree.object o nothing) phase.Evaluation) ≡ 2
attributes = refl

-- ---- the walk of a script

abbrev plain : Env
plain = record {
  setting = record { decorators = false; decorators_before_export = false; export_default_from = false; import_attributes = false; allow_return_outside_function = false; auto_accessors = false; explicit_resource_management = false };
  labels = [];
  strict = false;
  in_function = false;
  can_break = false;
  can_continue = false;
}

abbrev name : ℕ → ℕ → Text → Tree
name lo hi text = tree.ident (at lo hi) text

-- `a: a: a: ;`
equal_labels : walk plain (tree.labeled o (name 0 1 (codes "a")) (tree.labeled o (name 3 4 (codes "a")) (tree.labeled o (name 6 7 (codes "a")) (tree.empty o))))
    ≡ fault kind.DuplicateLabel 6 7 ∷ fault kind.DuplicateLabel 6 7 ∷ fault kind.DuplicateLabel 3 4 ∷ []
equal_labels = refl

-- `break a;`, `a: break;`, `a: { continue a; }`
unknown_label : walk plain (tree.break (at 0 8) a) ≡ fault kind.TS1116 0 8 ∷ []
unknown_label = refl

labelled_break : walk plain (tree.labeled o a (tree.break o tree.absent)) ≡ []
labelled_break = refl

no_loop : walk plain (tree.labeled o a (block (tree.continue (at 5 16) a ∷ []))) ≡ fault kind.TS1115 5 16 ∷ []
no_loop = refl

-- `switch (a) { case 1: break; default: continue; }`
switched : walk plain (tree.switch o a (listed (tree.case o a (listed (tree.break o tree.absent ∷ [])) ∷ tree.case o tree.absent (listed (tree.continue (at 37 46) tree.absent ∷ [])) ∷ [])))
    ≡ fault kind.TS1115 37 46 ∷ []
switched = refl

-- `for (;;) { function f() { break; } }`, `a: { function f() { break a; } }`
in_function : walk plain (tree.for o tree.absent tree.absent tree.absent (block (fn_decl o (tree.break (at 26 32) tree.absent ∷ []) ∷ []))) ≡ fault kind.TS1105 26 32 ∷ []
in_function = refl

no_label_in_function : walk plain (tree.labeled o a (block (fn_decl o (tree.break (at 20 28) a ∷ []) ∷ []))) ≡ fault kind.TS1116 20 28 ∷ []
no_label_in_function = refl

-- `class A { static { break; } }`, alone and in a loop
abbrev breaking : Tree
breaking = tree.class_decl a (class (tree.static_block o (block (tree.break (at 19 25) tree.absent ∷ [])) ∷ []))

static_break : walk plain breaking ≡ fault kind.TS1105 19 25 ∷ []
static_break = refl

static_break_in_loop : walk plain (tree.for o tree.absent tree.absent tree.absent (block (breaking ∷ []))) ≡ []
static_break_in_loop = refl

-- `for (;;) (() => { continue; });`
in_arrow : walk plain (tree.for o tree.absent tree.absent tree.absent (stmt (tree.arrow o nothing (block (tree.continue (at 18 27) tree.absent ∷ [])) false))) ≡ fault kind.TS1115 18 27 ∷ []
in_arrow = refl

-- `return;`, `with (a) return;`
abbrev returns : Tree
returns = tree.return (at 47 54) tree.absent

outside : walk plain returns ≡ fault kind.ReturnNotAllowed 47 54 ∷ []
outside = refl

in_with_body : walk plain (tree.with o a returns) ≡ []
in_with_body = refl

-- `a = class { static { return; } }` as a parameter inside a function: of a function, of a constructor, of an arrow
abbrev default_class : Tree
default_class = tree.assign_pat o b_pat (tree.class_expr o tree.absent (class (tree.static_block o (block (returns ∷ [])) ∷ [])))

function_param : walk plain (fn_decl o (tree.fn_decl a (function o (param default_class ∷ []) []) ∷ [])) ≡ fault kind.ReturnNotAllowed 47 54 ∷ []
function_param = refl

constructor_param : walk plain (fn_decl o (tree.class_decl a (class (tree.constructor o a (listed (param default_class ∷ [])) (block []) ∷ [])) ∷ [])) ≡ []
constructor_param = refl

arrow_param : walk plain (fn_decl o (stmt (tree.arrow o (listed (default_class ∷ [])) a false) ∷ [])) ≡ []
arrow_param = refl

-- `'use strict'; a: function f(){}`, and with a string before the directive
abbrev use_strict : ℕ → ℕ → Tree
use_strict lo hi = tree.expr_stmt (at lo hi) (tree.str o (codes "use strict") (codes "'use strict'"))

abbrev string : Tree
string = stmt (tree.str o (codes "x") (codes "'x'"))

strict_function : walk plain (script (use_strict 0 13 ∷ labelled (at 17 31) ∷ [])) ≡ fault kind.LabelledFunctionInStrict 17 31 ∷ []
strict_function = refl

second_string : walk plain (script (string ∷ use_strict 5 18 ∷ labelled (at 22 36) ∷ [])) ≡ fault kind.LabelledFunctionInStrict 22 36 ∷ []
second_string = refl

-- a string that is no directive, `'x'; a: function f(){}`, and what stands before the strings, `a; 'use strict'; a: function f(){}`
plain_string : walk plain (script (string ∷ labelled (at 8 22) ∷ [])) ≡ []
plain_string = refl

behind_others : walk plain (script (stmt a ∷ use_strict 3 16 ∷ labelled (at 20 34) ∷ [])) ≡ []
behind_others = refl

-- `{ 'use strict'; } a: function f(){}` and `{ 'use strict'; a: function f(){} }`: a block of its own has no directives
in_a_block : walk plain (script (block (use_strict 2 15 ∷ []) ∷ labelled (at 21 35) ∷ [])) ≡ []
in_a_block = refl

behind_in_a_block : walk plain (script (block (use_strict 2 15 ∷ labelled (at 19 33) ∷ []) ∷ [])) ≡ []
behind_in_a_block = refl

-- `'x'; 'use strict'; 'use strict'; a: function f(){} a: function f(){}`: all that stands behind it
behind_it : walk plain (script (string ∷ use_strict 5 18 ∷ use_strict 19 32 ∷ labelled (at 36 50) ∷ labelled (at 54 68) ∷ []))
    ≡ fault kind.LabelledFunctionInStrict 36 50 ∷ fault kind.LabelledFunctionInStrict 54 68 ∷ []
behind_it = refl

-- `() => { 'use strict'; a: function f(){} }` and `() => { 'x'; 'use strict'; a: function f(){} }`
strict_arrow : walk plain (tree.arrow o nothing (block (use_strict 8 21 ∷ labelled (at 25 39) ∷ [])) false) ≡ fault kind.LabelledFunctionInStrict 25 39 ∷ []
strict_arrow = refl

second_in_an_arrow : walk plain (tree.arrow o nothing (block (string ∷ use_strict 13 26 ∷ labelled (at 30 44) ∷ [])) false) ≡ fault kind.LabelledFunctionInStrict 30 44 ∷ []
second_in_an_arrow = refl

-- `a: function* g() {}`
labelled_generator : walk plain (tree.labeled o a (tree.fn_decl a (tree.function (at 3 19) nothing nothing (block []) false true))) ≡ fault kind.LabelledGeneratorOrAsync 3 19 ∷ []
labelled_generator = refl

-- `function f(a = 1) { 'x'; 'use strict'; }`, `(a = 1) => { 'use strict'; }`
patterned : walk plain (tree.fn_decl a (function o (param (tree.assign_pat o b_pat a) ∷ []) (string ∷ use_strict 25 38 ∷ []))) ≡ fault kind.IllegalLanguageModeDirective 25 38 ∷ []
patterned = refl

patterned_arrow : walk plain (tree.arrow o (listed (tree.assign_pat o b_pat a ∷ [])) (block (use_strict 13 26 ∷ [])) false) ≡ fault kind.IllegalLanguageModeDirective 13 26 ∷ []
patterned_arrow = refl

-- `class A extends (function () { a: function f() {} }) {}`
heritage : walk plain (tree.class_decl a (tree.class o nothing nothing (tree.paren o (tree.fn_expr o tree.absent (function o [] (labelled (at 34 49) ∷ [])))))) ≡ fault kind.LabelledFunctionInStrict 34 49 ∷ []
heritage = refl

-- `class A { constructor() {} constructor() {} }`
constructors : walk plain (tree.class_decl a (class (tree.constructor (at 10 26) a nothing (block []) ∷ tree.constructor (at 27 43) a nothing (block []) ∷ []))) ≡ fault kind.DuplicateConstructor 27 43 ∷ []
constructors = refl

-- `for (var a, b of c) ;`, `for (var i = 0 of {}) ;`, `for (var i = 0 in {}) ;`
two_variables : walk plain (tree.for_of o false (tree.var o word.Var (listed (tree.declarator o b_pat tree.absent ∷ tree.declarator o (tree.ident_pat (at 12 13) (codes "b")) tree.absent ∷ []))) a (tree.empty o))
    ≡ fault kind.TooManyVarInForInHead 12 13 ∷ []
two_variables = refl

abbrev initialized : Tree
initialized = tree.var o word.Var (listed (tree.declarator o (tree.ident_pat (at 9 10) (codes "i")) a ∷ []))

initialized_of : walk plain (tree.for_of o false initialized a (tree.empty o)) ≡ fault kind.VarInitializerInForInHead 9 10 ∷ []
initialized_of = refl

initialized_in : walk plain (tree.for_in o initialized a (tree.empty o)) ≡ []
initialized_in = refl

-- ---- the walk of a module

-- `export { if, 'a' as b };`, and with a source
abbrev exported : Tree → Tree
exported src = tree.export_named o (listed (tree.export_specifier o (name 9 11 (codes "if")) tree.absent ∷ tree.export_specifier o (tree.str (at 13 16) (codes "a") (codes "'a'")) a ∷ [])) src tree.absent

without_source : walk plain (module_of (exported tree.absent ∷ [])) ≡ fault kind.ExportExpectFrom 9 11 ∷ fault kind.ExportBindingIsString 13 16 ∷ []
without_source = refl

with_source : walk plain (module_of (exported (tree.str o [] []) ∷ [])) ≡ []
with_source = refl

-- `export foo, * as bar, { baz }`: a default and a namespace need a source
export_list : walk plain (tree.export_named o (listed (tree.export_default (name 7 10 (codes "foo")) ∷ tree.export_namespace (at 7 20) a ∷ tree.export_specifier o a tree.absent ∷ [])) tree.absent tree.absent)
    ≡ fault kind.ExportExpectFrom 7 10 ∷ fault kind.ExportExpectFrom 7 20 ∷ []
export_list = refl

-- `export @(function () { a: function f(){} }) class A {}` and the decorator before `export`; what follows is strict
abbrev decorated : Span → Span → Tree
decorated export decorator =
    tree.export_decl export (tree.class_decl a (tree.class o (listed (tree.decorator decorator (tree.fn_expr o tree.absent (function o [] (labelled (at 26 40) ∷ []))) ∷ [])) nothing tree.absent))

decorated_behind : walk plain (decorated (at 0 54) (at 7 43)) ≡ fault kind.LabelledFunctionInStrict 26 40 ∷ []
decorated_behind = refl

decorated_before : walk plain (decorated (at 37 54) (at 0 36)) ≡ []
decorated_before = refl

behind_export : walk plain (module_of (labelled (at 3 17) ∷ decorated (at 37 54) (at 0 36) ∷ labelled (at 58 72) ∷ [])) ≡ fault kind.LabelledFunctionInStrict 58 72 ∷ []
behind_export = refl

-- ---- notes

-- `with (a) interface`
noted : notes (tree.with (at 0 18) a (stmt (name 9 18 (codes "interface")))) ≡ fault kind.WithInStrict 0 0 ∷ fault kind.InvalidIdentInStrict 9 18 ∷ []
noted = refl
