-- JSON strings: RFC 8259, "Strings" (section 7). As few characters are escaped as can be, and the short escapes are used.
use Rattle.std.specs.Prelude.{ℕ, List, [], ◌∷◌, ◌++◌, ◌+◌, ◌-◌, ◌/◌, ◌%◌, ◌==◌, nat_lt, if◌then◌else◌, codes, length, take, drop}
use Rattle.std.specs.List.{flat_map}

abbrev pub hex_digit : ℕ → ℕ
hex_digit n = if nat_lt n 10 then 48 + n else 97 + (n - 10)

-- A byte of UTF-8. 34 is a quote and 92 a backslash; a byte from 128 on is a part of a character that stands as it is.
abbrev pub escaped : ℕ → List ℕ
escaped b =
    if b == 34 then codes "\\\""
    else if b == 92 then codes "\\\\"
    else if b == 8 then codes "\\b"
    else if b == 9 then codes "\\t"
    else if b == 10 then codes "\\n"
    else if b == 12 then codes "\\f"
    else if b == 13 then codes "\\r"
    else if nat_lt b 32 then codes "\\u00" ++ (hex_digit (b / 16) ∷ hex_digit (b % 16) ∷ [])
    else b ∷ []

-- a text in quotes
abbrev pub wrapped : List ℕ → List ℕ
wrapped text = 34 ∷ (flat_map escaped text ++ 34 ∷ [])

unfoldable pub quoted : List ℕ → List ℕ
quoted text = wrapped text

-- a regular expression as it is written, by what stands between its slashes and its flags
abbrev pub regex_text : (exp flags : List ℕ) → List ℕ
regex_text exp flags = codes "/" ++ (exp ++ (codes "/" ++ flags))

-- what stands between the first and the last byte of a text
unfoldable pub inner_quoted : List ℕ → List ℕ
inner_quoted text = wrapped (take (length text - 2) (drop 1 text))
