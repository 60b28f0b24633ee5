-- Decorators in so many levels: what stands behind `@`, and a list of them.
use Rattle.std.specs.Prelude.{ℕ, List}
use Rattle.swc_ecma_parser_model.specs.Tree.{Tree}
use Rattle.swc_ecma_parser_reader.specs.Decorators.{decorators}
unfoldable pub use Rattle.swc_ecma_parser_reader.specs.Reader.{decorated_in}
use Rattle.swc_ecma_parser_reader.specs.State.{Reader}

-- the decorators of what stands one level further out
abbrev pub decorators_in : ℕ → Reader (List Tree)
decorators_in n = decorators (decorated_in n)
