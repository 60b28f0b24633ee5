-- Names with their places, in the order of the text.
use Rattle.std.specs.Prelude.{if◌then◌else◌, List, [], ◌∷◌, Option, Some, None}
use Rattle.std.specs.Str.{bytes_eq}
use Rattle.swc_ecma_parser_common.specs.declared.span.Span.{Span}
use Rattle.swc_ecma_parser_model.specs.Tree.{Text}

pub record Place : Type 0 where
  pub text : Text
  pub span : Span

abbrev pub or_earlier : Option Span → Option Span → Option Span
or_earlier (Some s) earlier = Some s
or_earlier None earlier = earlier

-- where a name stands last
abbrev pub find : Text → List Place → Option Span
find text [] = None
find text (x ∷ xs) = or_earlier (find text xs) (if bytes_eq x.text text then Some x.span else None)
