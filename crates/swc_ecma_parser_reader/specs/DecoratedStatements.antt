-- Statements that begin with decorators: the proposal of decorators. A class and a function take them; before anything else they are
-- dropped, and before an export they are refused, or it is.
use Rattle.std.specs.Prelude.{Bool, ◌&&◌, ◌||◌, if◌then◌else◌}
use Rattle.swc_ecma_parser_error.specs.Kind as faults
use Rattle.swc_ecma_parser_token.specs.declared.kind.TokenKind.TheVariants as kind
use Rattle.swc_ecma_parser_input.specs.Place.{Place}
use Rattle.swc_ecma_parser_model.specs.Tree.{Tree}
use Rattle.swc_ecma_parser_grammar.specs.declared.position.Position.{Position}
use Rattle.swc_ecma_parser_grammar.specs.scaffold.Decorated.{decorated_by}
use Rattle.swc_ecma_parser_grammar.specs.Follows.{is_async_function}
use Rattle.swc_ecma_parser_grammar.specs.Looks.{sees}
use Rattle.swc_ecma_parser_reader.specs.Decorators.{Leading, leading, misplaced}
use Rattle.swc_ecma_parser_reader.specs.State.{Reader, ◌>>=◌, ◌>>◌, pure, fault_at, reject, wanted}

-- whether a class or a function begins here, with `async` before it on its line or without
unfoldable pub begins_declared : Place → Bool
begins_declared c = sees kind.Class c || (sees kind.Function c || is_async_function c)

-- a statement as it is read without decorators
module _ (plain : Position → Reader Tree) where
  -- a class or a function, with the decorators that were read before it
  unfoldable pub declared_behind : Position → Leading → Reader Tree
  declared_behind at v = do
    x ← plain at
    pure (decorated_by v.place v.found x)

  -- No export is a statement. Outside classes and functions the setting says whether decorators may stand before it.
  unfoldable pub exported_behind : Position → Leading → Reader Tree
  exported_behind at v = λ s. if (s.code.flags.in_class || s.code.flags.in_function) || s.code.setting.decorators_before_export then plain at s else reject (fault_at v.place faults.DecoratorOnExport) s

  -- any other statement has none
  unfoldable pub other_behind : Position → Leading → Reader Tree
  other_behind at v = λ s. if sees kind.Error s.at then wanted faults.Unexpected s else (misplaced v >> plain at) s

  unfoldable pub stmt_behind : Position → Leading → Reader Tree
  stmt_behind at v = λ s.
      if begins_declared s.at then declared_behind at v s
      else if sees kind.Export s.at then exported_behind at v s
      else other_behind at v s

  module _ (further : Reader Tree) where
    unfoldable pub decorated_stmt : Position → Reader Tree
    decorated_stmt at = do
      v ← leading further
      stmt_behind at v

    -- without the setting no decorator begins anything
    unfoldable pub either_stmt : Position → Reader Tree
    either_stmt at = λ s. if sees kind.At s.at && s.code.setting.decorators then decorated_stmt at s else plain at s
