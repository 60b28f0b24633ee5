-- What may still become a pattern, by where it stands.
use Rattle.std.specs.Prelude.{ℕ}
use Rattle.swc_ecma_parser_reader.specs.AwaitWords.{awaited_expr, behind_await}
use Rattle.swc_ecma_parser_reader.specs.Expressions.{Cover, cover_expr}
use Rattle.swc_ecma_parser_reader.specs.Heads.{head_expr, head_behind_async}
use Rattle.swc_ecma_parser_reader.specs.Reader.{expr, cover, function, head_cover, head_behind}
use Rattle.swc_ecma_parser_reader.specs.State.{Reader}
use Rattle.swc_ecma_parser_knot.specs.declared.covering.Covering.{Covering}
use Rattle.swc_ecma_parser_knot.specs.declared.covering.Covering.TheVariants as covering

-- what is read in so many levels
abbrev pub covered : ℕ → Covering → Reader Cover
covered n covering.Whole = cover n
covered n covering.Head = head_cover n
covered n (covering.Behind start) = head_behind n start
covered n (covering.BehindAwait start) = behind_await n start

-- the same, where what stands in it is read in so many levels
abbrev pub covered_level : ℕ → Covering → Reader Cover
covered_level n covering.Whole = cover_expr (expr n) (cover n) (function n)
covered_level n covering.Head = head_expr (expr n) (cover n) (function n)
covered_level n (covering.Behind start) = head_behind_async (expr n) (cover n) (function n) start
covered_level n (covering.BehindAwait start) = awaited_expr (expr n) (cover n) (function n) start
