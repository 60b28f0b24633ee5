-- Names with escapes: where each ends, and what it says.
use Rattle.std.specs.Prelude.{ℕ, Bool, true, false, not, ◌==◌, ◌&&◌, if◌then◌else◌, List, [], ◌∷◌, ◌++◌, Option, Some, None, is_none}
use Rattle.swc_ecma_parser_scan.specs.Chars.{is_name_part, is_name_start}
use Rattle.swc_ecma_parser_lexer.specs.declared.escape.Escape.{Escape}
use Rattle.swc_ecma_parser_lexer.specs.declared.escape.Escape.TheVariants as escape
use Rattle.swc_ecma_parser_lexer.specs.declared.escape.Turn.{Turn}
use Rattle.swc_ecma_parser_lexer.specs.Strings.{escaped, lossy}
use Rattle.swc_ecma_parser_whole_lexer.specs.declared.names.NameTurn.{NameTurn}
use Rattle.swc_ecma_parser_whole_lexer.specs.Runs.{bytes_of}

unfoldable pub is_part : Bool → ℕ → Bool
is_part is_start c = if is_start then is_name_start c else is_name_part c

unfoldable pub silent : Escape → Option NameTurn
silent s = Some (record { state = s; said = None })

unfoldable pub says : Bool → ℕ → Option NameTurn
says is_start c = if is_part is_start c then Some (record { state = escape.Text; said = Some c }) else None

abbrev pub unless_wrong : Escape → Option NameTurn
unless_wrong escape.Wrong = None
unless_wrong s = silent s

abbrev pub turned_to : Bool → Option ℕ → Escape → Option NameTurn
turned_to is_start (Some unit) s = says is_start (lossy unit)
turned_to is_start None s = unless_wrong s

unfoldable pub turned : Bool → Turn → Option NameTurn
turned is_start t = turned_to is_start t.unit t.state

-- one more character, or nothing where it does not belong to the name
unfoldable pub step : Bool → Escape → ℕ → Option NameTurn
step is_start escape.Text c = if c == 92 then silent escape.Backslash else says is_start c
step is_start escape.Backslash c = if c == 117 then silent escape.Unicode else None
step is_start s c = turned is_start (escaped 92 s c)

unfoldable pub is_outside : Escape → Bool
is_outside escape.Text = true
is_outside _ = false

-- a name ends here
unfoldable pub ends : Bool → Escape → List ℕ → Option (List ℕ)
ends is_start s cs = if is_outside s && not is_start then Some cs else None

-- the characters behind a name, where there is one
unfoldable pub past_name : Bool → Escape → List ℕ → Option (List ℕ)
past_name is_start s [] = ends is_start s []
past_name is_start s (c ∷ cs) =
    elim (step is_start s c) as (λ _. Option (List ℕ)) [
      | None ↦ ends is_start s (c ∷ cs)
      | Some t ↦ past_name (is_start && is_none t.said) t.state cs
    ]

abbrev turn_or : Escape → Option NameTurn → NameTurn
turn_or s (Some t) = t
turn_or s None = record { state = s; said = None }

-- the same of a character that belongs to a name
unfoldable pub turn_of : Escape → ℕ → NameTurn
turn_of s c = turn_or s (step false s c)

-- what a name says, in UTF-8; the characters are all its own
unfoldable pub name_said : Escape → List ℕ → List ℕ
name_said s [] = []
name_said s (c ∷ cs) =
    let t = turn_of s c in
    bytes_of t.said ++ name_said t.state cs
