-- Classes of characters.
use Rattle.std.specs.Prelude.{◌≡◌, ℕ, ◌-◌, ◌<◌, Bool, ◌==◌, ◌&&◌, ◌||◌, nat_le, if◌then◌else◌, List, ◌∷◌, length, Option, Some, None, is_some}
use Rattle.std.specs.Str.{chars, IsUtf8}
use Rattle.unicode_ident.specs.Ident.{is_xid_start, is_xid_continue}
use Rattle.swc_ecma_parser_scan.specs.declared.state.Base.{Base}
use Rattle.swc_ecma_parser_scan.specs.declared.state.Base.TheVariants as base

-- a text begins with a character, and others stand behind it
pub record IsFirst (text : List ℕ) (c : ℕ) (behind : List ℕ) : Type 0 where
  pub begins : chars text ≡ c ∷ chars behind
  pub shorter : length behind < length text
  pub utf8 : IsUtf8 behind

abbrev pub is_between : ℕ → ℕ → ℕ → Bool
is_between low high c = nat_le low c && nat_le c high

unfoldable pub is_space : ℕ → Bool
is_space c =
    (c == 0x9) || (c == 0xb) || (c == 0xc) || (c == 0x20) || (c == 0xa0) || (c == 0xfeff) || (c == 0x1680)
    || is_between 0x2000 0x200a c || (c == 0x202f) || (c == 0x205f) || (c == 0x3000)

unfoldable pub is_line_break : ℕ → Bool
is_line_break c = (c == 0xa) || (c == 0xd) || (c == 0x2028) || (c == 0x2029)

unfoldable pub is_name_start : ℕ → Bool
is_name_start c = (c == 36) || (c == 95) || is_xid_start c

unfoldable pub is_name_part : ℕ → Bool
is_name_part c = (c == 36) || (c == 0x200c) || (c == 0x200d) || is_xid_continue c

unfoldable pub is_digit : ℕ → Bool
is_digit c = is_between 48 57 c

unfoldable pub hex_digit : ℕ → Option ℕ
hex_digit c =
    if is_between 48 57 c then Some (c - 48) else
    if is_between 97 102 c then Some (c - 87) else
    if is_between 65 70 c then Some (c - 55) else None

unfoldable pub is_base_digit : Base → ℕ → Bool
is_base_digit base.Binary c = (c == 48) || (c == 49)
is_base_digit base.Octal c = is_between 48 55 c
is_base_digit base.Hexadecimal c = is_some (hex_digit c)
