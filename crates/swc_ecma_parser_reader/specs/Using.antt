-- The reader of what is declared with `using`: the proposal on explicit resource management, beside ECMA-262, section 14.3.
use Rattle.std.specs.Prelude.{Bool, true, false, ◌&&◌, if◌then◌else◌, List}
use Rattle.swc_ecma_parser_common.specs.declared.span.Span.{Span}
use Rattle.swc_ecma_parser_error.specs.Kind as faults
use Rattle.swc_ecma_parser_model.specs.Tree as tree
use Rattle.swc_ecma_parser_model.specs.Tree.{Tree, listed}
use Rattle.swc_ecma_parser_grammar.specs.declared.position.Position.{Position}
use Rattle.swc_ecma_parser_grammar.specs.language.Contexts.{with_in}
use Rattle.swc_ecma_parser_grammar.specs.scaffold.Using.{using_faults, is_await_using_declaration}
use Rattle.swc_ecma_parser_reader.specs.State.{Reader, ◌>>=◌, ◌>>◌, pure, span_here, since, skip, within, end}
use Rattle.swc_ecma_parser_reader.specs.Jumps.{told}

-- what is said of a declaration that may not stand here, or of its variables
unfoldable pub misusing : Span → List Tree → Reader (Unit {0})
misusing span found = λ s. told (using_faults s.code.setting.explicit_resource_management span found) s

module _ (declarators : Reader (List Tree)) where
  -- from the word on, where it declares; what is said of it is said before its end
  unfoldable pub using_from : (is_await : Bool) → Span → Reader Tree
  using_from is_await start = do
    skip
    found ← within with_in declarators
    so_far ← since start
    misusing so_far found
    end faults.Expected
    span ← since start
    pure (tree.using span is_await (listed found))

  unfoldable pub using_stmt : Reader Tree
  using_stmt = do
    start ← span_here
    using_from false start

  -- behind `await`, of which nothing is said
  unfoldable pub await_using_stmt : Reader Tree
  await_using_stmt = do
    start ← span_here
    skip
    using_from true start

  -- so it begins before anything else is read, where its parts can be
  unfoldable pub await_using_or : (nests : Bool) → (Position → Reader Tree) → Position → Reader Tree
  await_using_or nests rest at = λ s. if is_await_using_declaration at s.code s.at && nests then await_using_stmt s else rest at s
