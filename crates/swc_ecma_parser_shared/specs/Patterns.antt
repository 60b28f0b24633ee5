-- Patterns without and with a default, as they are asked for.
use Rattle.std.specs.Prelude.{ℕ}
use Rattle.swc_ecma_parser_model.specs.Tree.{Tree}
use Rattle.swc_ecma_parser_reader.specs.Reader.{pattern, element}
use Rattle.swc_ecma_parser_reader.specs.State.{Reader}
use Rattle.swc_ecma_parser_shared.specs.declared.grammar.Part.{Part}
use Rattle.swc_ecma_parser_shared.specs.declared.grammar.Part.TheVariants as part

-- what is read in so many levels
abbrev pub read_pat : ℕ → Part → Reader Tree
read_pat n part.Pattern = pattern n
read_pat n part.Element = element n
