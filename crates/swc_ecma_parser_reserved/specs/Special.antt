-- Texts that are reserved anywhere, or are `await`, by their length and their first two bytes.
use Rattle.std.specs.Prelude.{ℕ, Bool, false, ◌==◌, nat_lt, if◌then◌else◌, List, length, slice_index, codes}
use Rattle.std.specs.Str.{bytes_eq}

unfoldable pub of_e_and_three : List ℕ → ℕ → Bool
of_e_and_three text second =
    if second == 108 then bytes_eq text (codes "else") else
    if second == 110 then bytes_eq text (codes "enum") else false

unfoldable pub of_t_and_three : List ℕ → ℕ → Bool
of_t_and_three text second =
    if second == 104 then bytes_eq text (codes "this") else
    if second == 114 then bytes_eq text (codes "true") else false

unfoldable pub of_c_and_four : List ℕ → ℕ → Bool
of_c_and_four text second =
    if second == 97 then bytes_eq text (codes "catch") else
    if second == 108 then bytes_eq text (codes "class") else
    if second == 111 then bytes_eq text (codes "const") else false

unfoldable pub of_p_and_six : List ℕ → ℕ → Bool
of_p_and_six text second =
    if second == 97 then bytes_eq text (codes "package") else
    if second == 114 then bytes_eq text (codes "private") else false

unfoldable pub of_two : List ℕ → ℕ → Bool
of_two text second =
    if second == 102 then bytes_eq text (codes "if") else
    if second == 110 then bytes_eq text (codes "in") else
    if second == 111 then bytes_eq text (codes "do") else false

unfoldable pub of_three : List ℕ → ℕ → Bool
of_three text first =
    if first == 102 then bytes_eq text (codes "for") else
    if first == 108 then bytes_eq text (codes "let") else
    if first == 110 then bytes_eq text (codes "new") else
    if first == 116 then bytes_eq text (codes "try") else
    if first == 118 then bytes_eq text (codes "var") else false

unfoldable pub of_four : List ℕ → ℕ → ℕ → Bool
of_four text first second =
    if first == 99 then bytes_eq text (codes "case") else
    if first == 101 then of_e_and_three text second else
    if first == 110 then bytes_eq text (codes "null") else
    if first == 116 then of_t_and_three text second else
    if first == 118 then bytes_eq text (codes "void") else
    if first == 119 then bytes_eq text (codes "with") else false

unfoldable pub of_five : List ℕ → ℕ → ℕ → Bool
of_five text first second =
    if first == 97 then bytes_eq text (codes "await") else
    if first == 98 then bytes_eq text (codes "break") else
    if first == 99 then of_c_and_four text second else
    if first == 102 then bytes_eq text (codes "false") else
    if first == 115 then bytes_eq text (codes "super") else
    if first == 116 then bytes_eq text (codes "throw") else
    if first == 119 then bytes_eq text (codes "while") else
    if first == 121 then bytes_eq text (codes "yield") else false

unfoldable pub of_six : List ℕ → ℕ → Bool
of_six text first =
    if first == 100 then bytes_eq text (codes "delete") else
    if first == 101 then bytes_eq text (codes "export") else
    if first == 105 then bytes_eq text (codes "import") else
    if first == 112 then bytes_eq text (codes "public") else
    if first == 114 then bytes_eq text (codes "return") else
    if first == 115 then bytes_eq text (codes "switch") else
    if first == 116 then bytes_eq text (codes "typeof") else false

unfoldable pub of_seven : List ℕ → ℕ → ℕ → Bool
of_seven text first second =
    if first == 100 then bytes_eq text (codes "default") else
    if first == 101 then bytes_eq text (codes "extends") else
    if first == 102 then bytes_eq text (codes "finally") else
    if first == 112 then of_p_and_six text second else false

unfoldable pub of_eight : List ℕ → ℕ → Bool
of_eight text first =
    if first == 99 then bytes_eq text (codes "continue") else
    if first == 100 then bytes_eq text (codes "debugger") else
    if first == 102 then bytes_eq text (codes "function") else false

unfoldable pub of_nine : List ℕ → ℕ → Bool
of_nine text first =
    if first == 105 then bytes_eq text (codes "interface") else
    if first == 112 then bytes_eq text (codes "protected") else false

unfoldable pub of_ten : List ℕ → ℕ → Bool
of_ten text second =
    if second == 109 then bytes_eq text (codes "implements") else
    if second == 110 then bytes_eq text (codes "instanceof") else false

unfoldable pub of_length : List ℕ → ℕ → ℕ → ℕ → Bool
of_length text size first second =
    if size == 2 then of_two text second else
    if size == 3 then of_three text first else
    if size == 4 then of_four text first second else
    if size == 5 then of_five text first second else
    if size == 6 then of_six text first else
    if size == 7 then of_seven text first second else
    if size == 8 then of_eight text first else
    if size == 9 then of_nine text first else
    if size == 10 then of_ten text second else false

-- reserved anywhere, or `await`
unfoldable pub is_special : List ℕ → Bool
is_special text = if nat_lt (length text) 2 then false else of_length text (length text) (slice_index text 0) (slice_index text 1)
