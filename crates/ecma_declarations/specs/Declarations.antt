-- What is wrong with the declarations of a tree, by its events: a machine that goes over them with the scopes that are open.
use Rattle.std.specs.Prelude.{ℕ, Bool, true, false, not, ◌&&◌, ◌||◌, if◌then◌else◌, nat_lt, List, [], ◌∷◌, ◌++◌, Option, Some, None, codes}
use Rattle.std.specs.Str.{bytes_eq}
use Rattle.ecma_declarations.specs.Names.{Named, find}
use Rattle.ecma_declarations.specs.declared.names.Found.{Found}
use Rattle.ecma_declarations.specs.declared.scopes.Scope.{Scope}
use Rattle.ecma_events.specs.Event as event
use Rattle.ecma_events.specs.Event.{Event}
use Rattle.ecma_events.specs.declared.early_error.EarlyError.{EarlyError}
use Rattle.ecma_events.specs.declared.early_error.EarlyErrorKind.{EarlyErrorKind}
use Rattle.ecma_events.specs.declared.early_error.EarlyErrorKind.TheVariants as error
use Rattle.ecma_events.specs.declared.event.Binding.{Binding}
use Rattle.ecma_events.specs.declared.event.Binding.TheVariants as binding
use Rattle.ecma_events.specs.declared.event.Region.{Region}
use Rattle.ecma_events.specs.declared.event.Region.TheVariants as region
use Rattle.ecma_events.specs.declared.event.Role.TheVariants as role
use Rattle.swc_ecma_parser_common.specs.declared.span.Span.{Span}
use Rattle.swc_ecma_parser_model.specs.Tree.{Text}

-- the scopes that are open: the innermost, those around it from the inside out, and the names that `var` declares in the innermost function and
-- in those around it. Parameters are among these names, and functions where they are declared as `var` declares
pub record Scopes : Type 0 where
  pub here : Scope
  pub around : List Scope
  pub vars : List Named
  pub outer : List (List Named)

-- a region has names of `var` of its own
abbrev pub has_vars : Region → Bool
has_vars (region.Script directed) = true
has_vars region.Module = true
has_vars (region.Function code) = true
has_vars region.Field = true
has_vars region.StaticBlock = true
has_vars _ = false

-- functions right in a region are declared as `var` declares: TopLevelVarDeclaredNames (8.2.10); of a module they are not (16.2.1.5)
abbrev pub hoists : Region → Bool
hoists (region.Script directed) = true
hoists (region.Function code) = true
hoists region.StaticBlock = true
hoists _ = false

-- a region turns code strict (11.2.2)
abbrev pub turns_strict : Region → Bool
turns_strict (region.Script directed) = directed
turns_strict region.Module = true
turns_strict (region.Function code) = code.is_directed
turns_strict (region.Class derived) = true
turns_strict _ = false

abbrev pub may_repeat : Region → Bool
may_repeat (region.Function code) = code.may_repeat
may_repeat _ = false

abbrev pub is_plain_function : Binding → Bool
is_plain_function binding.PlainFunction = true
is_plain_function _ = false

-- what is declared as `var` declares
abbrev pub is_var : Region → Binding → Bool
is_var r binding.Var = true
is_var r binding.Parameter = true
is_var r binding.PlainFunction = hoists r
is_var r binding.Function = hoists r
is_var r _ = false

abbrev pub error_of : EarlyErrorKind → Span → Option Span → EarlyError
error_of kind span previous = record { kind = kind; span = span; previous = previous }

-- `let` is no name for `let`, `const` and `using` (14.3.1.1, 14.7.5.1)
abbrev pub binds_no_let : Binding → Bool
binds_no_let binding.Let = true
binds_no_let binding.Const = true
binds_no_let binding.Each = true
binds_no_let binding.Using = true
binds_no_let _ = false

abbrev pub let_declared : Binding → Span → Text → List EarlyError
let_declared b s text = if binds_no_let b && bytes_eq text (codes "let") then error_of error.LetDeclared s None ∷ [] else []

-- A name is declared lexically once in a scope (14.2.1, 14.12.1, 14.15.1, 16.1.1, 16.2.1.1). Functions may be declared again by functions where
-- the code is not strict (B.3.2.4, B.3.2.5).
abbrev pub declared_twice : (strict : Bool) → Binding → Span → Option Found → List EarlyError
declared_twice strict b s None = []
declared_twice strict b s (Some d) =
    if not strict && (is_plain_function b && is_plain_function d.binding) then [] else error_of error.DeclaredTwice s (Some d.span) ∷ []

-- two parameters have one name only where the code is not strict, in a function whose parameters are plain names (15.1.1, 15.2.1, 15.3.1)
abbrev pub equal_parameters : (allowed : Bool) → Span → Option Found → List EarlyError
equal_parameters allowed s None = []
equal_parameters allowed s (Some d) = if allowed then [] else error_of error.EqualParameters s (Some d.span) ∷ []

abbrev pub is_parameter : Binding → Bool
is_parameter binding.Parameter = true
is_parameter _ = false

abbrev pub repeated : Scopes → Binding → Span → Text → List EarlyError
repeated c binding.Parameter s text = equal_parameters (may_repeat c.here.region && not c.here.is_strict) s (find text c.vars)
repeated c b s text =
    if is_var c.here.region b then [] else let_declared b s text ++ declared_twice c.here.is_strict b s (find text c.here.names)

-- `catch` of a name alone lets `var` declare it again (B.3.4)
abbrev pub is_catch_name : Binding → Bool
is_catch_name binding.CatchName = true
is_catch_name _ = false

-- the later of two places is wrong, the earlier is told beside it
abbrev pub crossing : Span → Span → EarlyError
crossing s t = if nat_lt t.lo.0 s.lo.0 then error_of error.DeclaredTwice s (Some t) else error_of error.DeclaredTwice t (Some s)

-- A name that is declared lexically in a scope is declared by no `var` in it, so by none that stands behind the start of the scope when the scope ends
-- (14.2.1, 14.7.4.1, 14.7.5.1, 14.12.1, 14.15.1, 15.2.1, 16.1.1, 16.2.1.1).
abbrev pub crossed : (start : ℕ) → Named → Option Found → List EarlyError
crossed start x None = []
crossed start x (Some v) =
    if nat_lt v.span.lo.0 start || is_catch_name x.binding then [] else crossing x.span v.span ∷ []

abbrev pub crossings : (start : ℕ) → (vars names : List Named) → List EarlyError
crossings start vars [] = []
crossings start vars (x ∷ xs) = crossed start x (find x.text vars) ++ crossings start vars xs

-- what an event tells
abbrev pub told : Scopes → Event → List EarlyError
told c event.leave = crossings c.here.start c.vars c.here.names
told c (event.name (role.Declared b exported) s text) = repeated c b s text
-- a `const` has an initializer (14.3.1.1); in strict code the parser tells it
told c (event.bare s) = if c.here.is_strict then [] else error_of error.MissingInitializer s None ∷ []
told c _ = []

abbrev pub scope_of : Region → (start : ℕ) → (strict : Bool) → Scope
scope_of r start strict = record { region = r; start = start; is_strict = strict; names = [] }

abbrev pub entered : Scopes → Region → Span → Scopes
entered c r s = record {
  here = scope_of r s.lo.0 (c.here.is_strict || turns_strict r);
  around = c.here ∷ c.around;
  vars = if has_vars r then [] else c.vars;
  outer = if has_vars r then c.vars ∷ c.outer else c.outer;
}

abbrev pub first_or : {X : Type 0} → X → List X → X
first_or d [] = d
first_or d (x ∷ xs) = x

abbrev pub rest_of : {X : Type 0} → List X → List X
rest_of [] = []
rest_of (x ∷ xs) = xs

abbrev pub left : Scopes → Scopes
left c = record {
  here = first_or c.here c.around;
  around = rest_of c.around;
  vars = if has_vars c.here.region then first_or [] c.outer else c.vars;
  outer = if has_vars c.here.region then rest_of c.outer else c.outer;
}

abbrev pub declared : Scopes → Binding → Span → Text → Scopes
declared c b s text =
    let x : Named = record { text = text; binding = b; span = s } in
    if is_var c.here.region b then record c { vars = c.vars ++ x ∷ [] } else record c { here = record c.here { names = c.here.names ++ x ∷ [] } }

-- the scopes behind an event
abbrev pub next : Scopes → Event → Scopes
next c (event.enter r s) = entered c r s
next c event.leave = left c
next c (event.name (role.Declared b exported) s text) = declared c b s text
next c _ = c

abbrev pub errors : Scopes → List Event → List EarlyError
errors c [] = []
errors c (e ∷ es) = told c e ++ errors (next c e) es

-- before all
abbrev pub start : Scopes
start = record { here = scope_of region.Block 0 false; around = []; vars = []; outer = [] }

abbrev pub errors_of : List Event → List EarlyError
errors_of es = errors start es
