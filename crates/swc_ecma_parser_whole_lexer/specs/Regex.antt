-- Where a regular expression ends.
use Rattle.std.specs.Prelude.{ℕ, Bool, false, ◌==◌, if◌then◌else◌, List, [], ◌∷◌, Option, Some, None}
use Rattle.swc_ecma_parser_scan.specs.Chars.{is_line_break}
use Rattle.swc_ecma_parser_whole_lexer.specs.declared.regex.Body.{Body}
use Rattle.swc_ecma_parser_whole_lexer.specs.declared.regex.Body.TheVariants as body

unfoldable pub body_behind : Body → ℕ → Body
body_behind body.Open c =
    if c == 92 then body.Escape else
    if c == 91 then body.Class else body.Open
body_behind body.Class c =
    if c == 92 then body.ClassEscape else
    if c == 93 then body.Open else body.Class
body_behind body.Escape c = body.Open
body_behind body.ClassEscape c = body.Class

unfoldable pub is_end : Body → ℕ → Bool
is_end body.Open c = c == 47
is_end _ c = false

-- the characters from the last `/` on, where the line does not end before
unfoldable pub past_body : Body → List ℕ → Option (List ℕ)
past_body b [] = None
past_body b (c ∷ cs) =
    if is_line_break c then None else
    if is_end b c then Some (c ∷ cs) else past_body (body_behind b c) cs
