-- Where the bytes of an owned text stand.
use Rattle.std.specs.Prelude.{ℕ, List, string_bytes}
use Rattle.swc_ecma_parser_common.specs.declared.atom.Text.{Text}
use Rattle.swc_ecma_parser_common.specs.declared.atom.Text.TheVariants.{Short, Long}

-- the bytes of a text
abbrev pub text_bytes : Text → List ℕ
text_bytes (Short text) = text
text_bytes (Long text) = string_bytes text.value
