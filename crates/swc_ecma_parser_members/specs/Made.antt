-- The ends of the rules of methods and constructors, which are functions of their own: what is made behind a body.
use Rattle.std.specs.Prelude.{Bool, List}
use Rattle.swc_ecma_parser_common.specs.declared.span.Span.{Span}
use Rattle.swc_ecma_parser_error.specs.Kind as faults
use Rattle.swc_ecma_parser_model.specs.Tree as tree
use Rattle.swc_ecma_parser_model.specs.Tree.{Tree, listed}
use Rattle.swc_ecma_parser_grammar.specs.Own.{only}
use Rattle.swc_ecma_parser_grammar.specs.Parameters as formal
use Rattle.swc_ecma_parser_reader.specs.Members.{form_is_async, form_is_generator}
use Rattle.swc_ecma_parser_reader.specs.Methods.{MethodForm}
use Rattle.swc_ecma_parser_reader.specs.Bodies.{misdirected}
use Rattle.swc_ecma_parser_reader.specs.Jumps.{told}
use Rattle.swc_ecma_parser_reader.specs.State.{Reader, ◌>>=◌, ◌>>◌, pure, since}

-- the function of a method
abbrev pub made_function : List Tree → MethodForm → Span → List Tree → Tree → Reader Tree
made_function decorators form start ps body = do
  span ← since start
  misdirected (formal.parameters ps) body
  pure (tree.function span (listed decorators) (formal.parameters ps) body (form_is_async form) (form_is_generator form))

-- a constructor
abbrev pub made_constructor : (is_static : Bool) → (start first : Span) → Tree → List Tree → Tree → Reader Tree
made_constructor is_static start first x ps body = do
  span ← since start
  misdirected (formal.parameters ps) body
  told (only is_static faults.TS1089 first)
  pure (tree.constructor span x (formal.parameters ps) body)
