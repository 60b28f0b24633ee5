-- Classes and functions with decorators that were read before them, step by step.
use Rattle.std.specs.Prelude.{Bool, if◌then◌else◌, List}
use Rattle.swc_ecma_parser_common.specs.declared.span.Span.{Span}
use Rattle.swc_ecma_parser_error.specs.Kind as faults
use Rattle.swc_ecma_parser_model.specs.Tree as tree
use Rattle.swc_ecma_parser_model.specs.Tree.{Tree}
use Rattle.swc_ecma_parser_model.specs.Forms.{span_of}
use Rattle.swc_ecma_parser_grammar.specs.declared.position.Position.{Position}
use Rattle.swc_ecma_parser_grammar.specs.scaffold.Decorated.{class_behind, function_behind}
use Rattle.swc_ecma_parser_grammar.specs.Looks.{span_at}
use Rattle.swc_ecma_parser_grammar.specs.language.Contexts.{in_class}
use Rattle.swc_ecma_parser_reader.specs.Decorators.{Leading}
use Rattle.swc_ecma_parser_reader.specs.Members.{class_parts, class_name}
use Rattle.swc_ecma_parser_reader.specs.Methods.{star}
use Rattle.swc_ecma_parser_reader.specs.Reader.{named, function_word, function_parts}
use Rattle.swc_ecma_parser_reader.specs.State.{Reader, ◌>>=◌, ◌>>◌, pure, span_here, skip, within, fault, fault_at, name}

module _ (heritage member : Reader Tree) where
  -- from behind the name of a class that begins at `start`
  unfoldable pub class_parts_with : List Tree → Span → Reader Tree
  class_parts_with ds start = do
    x ← class_parts heritage member start
    pure (class_behind start ds x)

  unfoldable pub named_class_with : List Tree → Span → Reader Tree
  named_class_with ds start = do
    skip
    i ← named
    x ← class_parts_with ds start
    pure (tree.class_decl i x)

  unfoldable pub class_decl_with : List Tree → Span → Reader Tree
  class_decl_with ds start = within in_class (named_class_with ds start)

  -- a class that is an expression, which begins at its word
  unfoldable pub unnamed_class_with : List Tree → Reader Tree
  unnamed_class_with ds = do
    start ← span_here
    skip
    i ← class_name heritage member
    x ← class_parts_with ds start
    pure (tree.class_expr (span_of x) i x)

  unfoldable pub class_expr_with : List Tree → Reader Tree
  class_expr_with ds = within in_class (unnamed_class_with ds)

  -- where no declaration is read, its word is a fault
  unfoldable pub class_stmt_with : Position → Leading → Reader Tree
  class_stmt_with at v = λ s.
      if at.include_decl then class_decl_with v.found v.place s else (fault (fault_at (span_at s.at) faults.DeclNotAllowed) >> class_decl_with v.found v.place) s

module _ (stmt : Reader Tree) (params : Reader (List Tree)) where
  -- from behind the name of a function
  unfoldable pub function_parts_with : List Tree → (is_async is_generator : Bool) → Span → Reader Tree
  function_parts_with ds is_async is_generator start = do
    x ← function_parts stmt params is_async is_generator start
    pure (function_behind ds x)

  unfoldable pub function_decl_with : List Tree → Reader Tree
  function_decl_with ds = do
    start ← span_here
    is_async ← function_word
    is_generator ← star
    i ← name faults.ExpectedIdent
    fn ← function_parts_with ds is_async is_generator start
    pure (tree.fn_decl (tree.ident i.span i.sym) fn)

  unfoldable pub function_stmt_with : Position → Leading → Reader Tree
  function_stmt_with at v = λ s.
      if at.include_decl then function_decl_with v.found s else (fault (fault_at (span_at s.at) faults.DeclNotAllowed) >> function_decl_with v.found) s
