-- Classes and functions that are declared behind decorators, in the small relation: the proposal of decorators.
use Rattle.std.specs.Prelude.{◌≡◌, true, false, ◌||◌, List, ◌∷◌}
use Rattle.swc_ecma_parser_common.specs.declared.span.Span.{Span}
use Rattle.swc_ecma_parser_input.specs.Place.{Place}
use Rattle.swc_ecma_parser_model.specs.Tree as tree
use Rattle.swc_ecma_parser_model.specs.Tree.{Tree, listed}
use Rattle.swc_ecma_parser_model.specs.Forms.{is_absent}
use Rattle.swc_ecma_parser_grammar.specs.declared.position.Position.{Position}
use Rattle.swc_ecma_parser_grammar.specs.Looks.{span_at}
use Rattle.swc_ecma_parser_grammar.specs.Names.{Code}
use Rattle.swc_ecma_parser_grammar.specs.Follows.{is_async_function}
use Rattle.swc_ecma_parser_grammar.specs.scaffold.Reads.{ReadsFunction}

-- A class and a function with the decorators that stand before them: the class begins where it is told, the function leaves them out.
abbrev pub class_behind : (start : Span) → (decorators : List Tree) → Tree → Tree
class_behind start ds (tree.class s decorators body base) = tree.class (record { lo = start.lo; hi = s.hi }) (listed ds) body base
class_behind start ds x = x

abbrev pub function_behind : (decorators : List Tree) → Tree → Tree
function_behind ds (tree.function s decorators params body is_async is_generator) = tree.function s (listed ds) params body is_async is_generator
function_behind ds x = x

-- the same, declared under their names
abbrev pub decorated_by : (start : Span) → (decorators : List Tree) → Tree → Tree
decorated_by start ds (tree.class_decl name x) = tree.class_decl name (class_behind start ds x)
decorated_by start ds (tree.fn_decl name x) = tree.fn_decl name (function_behind ds x)
decorated_by start ds x = x

-- what decorators may stand before: a class, or a function of any kind
pub data DeclaredRule (Stmt : Code → Position → Tree → Place → Place → Type 0) (Params : Code → List Tree → Place → Place → Type 0)
    (Named : Code → (name x : Tree) → Place → Place → Type 0) (k : Code) (at : Position) (x : Tree) (c d : Place) : Type 0 where
  declared_class : (name y : Tree) → at.include_decl ≡ true → Named k name y c d → is_absent name ≡ false → x ≡ tree.class_decl name y → DeclaredRule Stmt Params Named k at x c d
  declared_function : at.include_decl || is_async_function c ≡ true → ReadsFunction Stmt Params k x c d → DeclaredRule Stmt Params Named k at x c d

-- with one decorator at least before it
pub record SmallDecoratedRule (Decorators : Code → List Tree → Place → Place → Type 0) (Declared : Code → Position → Tree → Place → Place → Type 0)
    (k : Code) (at : Position) (x : Tree) (c d : Place) : Type 0 where
  pub first : Tree
  pub others : List Tree
  pub bare : Tree
  pub middle : Place
  pub reads_decorators : Decorators k (first ∷ others) c middle
  pub reads_bare : Declared k at bare middle d
  pub is : x ≡ decorated_by (span_at c) (first ∷ others) bare

-- a statement that begins with decorators, or without
pub data EitherRule (Plain Decorated : Type 0) : Type 0 where
  plain_statement : Plain → EitherRule Plain Decorated
  decorated_statement : Decorated → EitherRule Plain Decorated
