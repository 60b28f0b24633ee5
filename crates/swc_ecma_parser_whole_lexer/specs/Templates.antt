-- The parts of a template: where each ends, and what it says.
use Rattle.std.specs.Prelude.{◌≡◌, ℕ, Bool, true, false, not, ◌==◌, ◌&&◌, ◌||◌, if◌then◌else◌, List, [], ◌∷◌, ◌++◌, Option, Some, None}
use Rattle.std.specs.Str.{chars, IsUtf8}
use Rattle.swc_ecma_parser_token.specs.declared.token.Token.{Token}
use Rattle.swc_ecma_parser_token.specs.declared.token.Token.TheVariants as token
use Rattle.swc_ecma_parser_lexer.specs.declared.escape.Escape.TheVariants as escape
use Rattle.swc_ecma_parser_lexer.specs.Strings.{is_well_escaped, value_of}
use Rattle.swc_ecma_parser_whole_lexer.specs.declared.template.PartEnd.{PartEnd}
use Rattle.swc_ecma_parser_whole_lexer.specs.Runs.{begins_with, bytes_of}

-- the mark that ends a part, and the characters from it on
pub record End : Type 0 where
  pub is_last : Bool
  pub left : List ℕ

unfoldable pub ends_part : Bool → ℕ → List ℕ → Bool
ends_part is_escaped c cs = not is_escaped && ((c == 96) || ((c == 36) && begins_with 123 cs))

unfoldable pub past_part : Bool → List ℕ → Option End
past_part is_escaped [] = None
past_part is_escaped (c ∷ cs) =
    if ends_part is_escaped c cs then Some (record { is_last = c == 96; left = c ∷ cs })
    else past_part (not is_escaped && (c == 92)) cs

-- the same of a text
pub record IsEnd (cs : List ℕ) (e : PartEnd) : Type 0 where
  pub found : past_part false cs ≡ Some (record { is_last = e.is_last; left = chars e.rest.now })
  pub utf8 : IsUtf8 e.rest.now

-- what is written for a character
unfoldable pub fed : Bool → ℕ → Option ℕ
fed behind_return c =
    if c == 13 then Some 10 else
    if behind_return && (c == 10) then None else Some c

-- in UTF-8, with a line feed for each `\r\n` and each `\r`
unfoldable pub with_line_feeds : Bool → List ℕ → List ℕ
with_line_feeds behind_return [] = []
with_line_feeds behind_return (c ∷ cs) = bytes_of (fed behind_return c) ++ with_line_feeds (c == 13) cs

-- what it says, with a grave accent behind it, so that no escape is left open
unfoldable pub cooked : List ℕ → Option (List ℕ)
cooked ended = if is_well_escaped 96 escape.Text ended then Some (value_of 96 escape.Text None ended) else None

unfoldable pub part_token : Bool → Bool → List ℕ → Option (List ℕ) → Token
part_token true true raw said = token.Template raw said
part_token true false raw said = token.TemplateHead raw said
part_token false true raw said = token.TemplateTail raw said
part_token false false raw said = token.TemplateMiddle raw said

-- the token of a part, by what stands between its marks
unfoldable pub part : Bool → Bool → List ℕ → Token
part is_first is_last between =
    let raw = with_line_feeds false (chars between) in
    part_token is_first is_last raw (cooked (chars (raw ++ 96 ∷ [])))
