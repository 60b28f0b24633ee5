-- The only keyword that a name may be, by its length and its first two bytes.
use Rattle.std.specs.Prelude.{ℕ, ◌==◌, nat_lt, if◌then◌else◌, List, length, slice_index, Option, Some, None}
use Rattle.swc_ecma_parser_token.specs.declared.keyword.Keyword.{Keyword}
use Rattle.swc_ecma_parser_token.specs.declared.keyword.Keyword.TheVariants as keyword

unfoldable pub of_two : ℕ → Option Keyword
of_two second =
    if second == 102 then Some keyword.If else
    if second == 110 then Some keyword.In else
    if second == 111 then Some keyword.Do else None

unfoldable pub of_three : ℕ → Option Keyword
of_three first =
    if first == 102 then Some keyword.For else
    if first == 108 then Some keyword.Let else
    if first == 110 then Some keyword.New else
    if first == 116 then Some keyword.Try else
    if first == 118 then Some keyword.Var else None

unfoldable pub of_four : ℕ → Option Keyword
of_four first =
    if first == 99 then Some keyword.Case else
    if first == 101 then Some keyword.Else else
    if first == 116 then Some keyword.This else
    if first == 118 then Some keyword.Void else
    if first == 119 then Some keyword.With else None

unfoldable pub of_c_and_four : ℕ → Option Keyword
of_c_and_four second =
    if second == 97 then Some keyword.Catch else
    if second == 108 then Some keyword.Class else
    if second == 111 then Some keyword.Const else None

unfoldable pub of_five : ℕ → ℕ → Option Keyword
of_five first second =
    if first == 97 then Some keyword.Await else
    if first == 98 then Some keyword.Break else
    if first == 99 then of_c_and_four second else
    if first == 115 then Some keyword.Super else
    if first == 116 then Some keyword.Throw else
    if first == 119 then Some keyword.While else
    if first == 121 then Some keyword.Yield else None

unfoldable pub of_six : ℕ → Option Keyword
of_six first =
    if first == 100 then Some keyword.Delete else
    if first == 101 then Some keyword.Export else
    if first == 105 then Some keyword.Import else
    if first == 114 then Some keyword.Return else
    if first == 115 then Some keyword.Switch else
    if first == 116 then Some keyword.TypeOf else None

unfoldable pub of_seven : ℕ → Option Keyword
of_seven first =
    if first == 100 then Some keyword.Default else
    if first == 101 then Some keyword.Extends else
    if first == 102 then Some keyword.Finally else None

unfoldable pub of_eight : ℕ → Option Keyword
of_eight first =
    if first == 99 then Some keyword.Continue else
    if first == 100 then Some keyword.Debugger else
    if first == 102 then Some keyword.Function else None

unfoldable pub of_length : ℕ → ℕ → ℕ → Option Keyword
of_length size first second =
    if size == 2 then of_two second else
    if size == 3 then of_three first else
    if size == 4 then of_four first else
    if size == 5 then of_five first second else
    if size == 6 then of_six first else
    if size == 7 then of_seven first else
    if size == 8 then of_eight first else
    if size == 10 then Some keyword.InstanceOf else None

unfoldable pub candidate : List ℕ → Option Keyword
candidate name =
    if nat_lt (length name) 2 then None else of_length (length name) (slice_index name 0) (slice_index name 1)
