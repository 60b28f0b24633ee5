-- How names are kept: a list, and where each stands last.
use Rattle.std.specs.Prelude.{◌≡◌, ℕ, List, map}
use Rattle.std.specs.HashMap.{HashMap, get_by}
use Rattle.std.specs.Str.{bytes_eq}
use Rattle.ecma_exports.specs.Places.{Place, find}
use Rattle.ecma_exports.specs.declared.places.Name.{Name}
use Rattle.swc_ecma_parser_common.specs.declared.span.Span.{Span}
use denote.Ref.{Bor}

abbrev pub placed : Name → Place
placed x = record { text = x.text.now; span = x.span }

-- each name is looked up as the list has it
abbrev pub Agrees : {S : Type 0} → List Name → HashMap (Bor (List ℕ)) Span S → Type 0
Agrees xs m = (q : List ℕ) → get_by (λ k. bytes_eq q k.now) m ≡ find q (map placed xs)
