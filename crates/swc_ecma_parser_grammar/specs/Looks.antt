-- What stands at a place: its first token, its second, and a line break before either.
use Rattle.std.specs.Prelude.{Bool, false, ◌||◌, List, [], ◌∷◌}
use denote.Enum.Bare.{sameb}
use Rattle.swc_ecma_parser_common.specs.declared.span.Span.{Span}
use Rattle.swc_ecma_parser_token.specs.declared.kind.TokenKind.{TokenKind}
use Rattle.swc_ecma_parser_token.specs.declared.kind.TokenKind.TheVariants as kind
use Rattle.swc_ecma_parser_token.specs.contracts.kind.TokenKind.{the_type}
use Rattle.swc_ecma_parser_token.specs.declared.token.TokenAndSpan.{TokenAndSpan}
use Rattle.swc_ecma_parser_token.specs.Kind.{token_kind}
use Rattle.swc_ecma_parser_input.specs.Place.{Place}

abbrev pub first_kind : List TokenAndSpan → TokenKind
first_kind [] = kind.End
first_kind (t ∷ ts) = token_kind t.token

abbrev pub first_breaks : List TokenAndSpan → Bool
first_breaks [] = false
first_breaks (t ∷ ts) = t.had_line_break

abbrev pub first_span : Span → List TokenAndSpan → Span
first_span last [] = last
first_span last (t ∷ ts) = t.span

-- the kind of the first token; `End` where none is left
unfoldable pub kind_at : Place → TokenKind
kind_at c = first_kind c.left

-- whether a line break stands before the first token
unfoldable pub breaks_at : Place → Bool
breaks_at c = first_breaks c.left

-- the span of the first token, or the one read last
unfoldable pub span_at : Place → Span
span_at c = first_span c.last c.left

unfoldable pub same_kind : TokenKind → TokenKind → Bool
same_kind = sameb the_type

-- whether a token of this kind stands first
abbrev pub sees : TokenKind → Place → Bool
sees k c = same_kind (kind_at c) k

-- from the first token of one place to the last before another
unfoldable pub spanned : Place → Place → Span
spanned c d = record { lo = (span_at c).lo; hi = d.last.hi }

abbrev pub first_start : Span → List TokenAndSpan → Span
first_start last [] = record { lo = last.hi; hi = last.hi }
first_start last (t ∷ ts) = t.span

-- where a whole begins: the span of the first token, or, where none is left, the empty one at the end of what was read last
unfoldable pub start_at : Place → Span
start_at c = first_start c.last c.left

-- the span of a whole: from there to the end of what was read last before another place
unfoldable pub whole_span : Place → Place → Span
whole_span c d = record { lo = (start_at c).lo; hi = d.last.hi }

-- whether an error token stands in a list
abbrev pub has_error_token : List TokenAndSpan → Bool
has_error_token [] = false
has_error_token (t ∷ ts) = same_kind (token_kind t.token) kind.Error || has_error_token ts
