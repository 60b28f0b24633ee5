-- A lexer of the whole language as a source of tokens.
use Rattle.std.specs.Prelude.{ℕ, Bool, false, List, []}
use Rattle.swc_ecma_parser_common.specs.declared.span.BytePos.{BytePos}
use Rattle.swc_ecma_parser_input.specs.declared.context.Context.{Context}
use Rattle.swc_ecma_parser_input.specs.declared.syntax.Syntax.{Syntax}
use Rattle.swc_ecma_parser_input.specs.Faults.{Faults}
use Rattle.swc_ecma_parser_input.specs.TokenSource.{TokenSource}
use Rattle.swc_ecma_parser_lexer.specs.declared.place.Place.{Place}
use Rattle.swc_ecma_parser_lexer.specs.Source.{default_context}
use Rattle.swc_ecma_parser_nesting.specs.declared.nest.Nest.{Nest}
use Rattle.swc_ecma_parser_nesting.specs.Nesting as nesting
use Rattle.swc_ecma_parser_whole_lexer.specs.declared.form.Goal.{Goal}
use Rattle.swc_ecma_parser_whole_lexer.specs.Whole.{tokens, tokens_at}

-- the source that a lexer is at a place, in a nest
abbrev pub source_of : Goal → Nest → Bool → Place → Context → Syntax → Faults → TokenSource
source_of g n is_begun place context syntax faults = record {
  left = tokens_at g n is_begun place;
  context = context;
  syntax = syntax;
  start = place.start;
  recorded = faults.recorded;
  held_back = faults.held_back;
}

-- the source at the start of a text, given by its characters
abbrev pub outset : Goal → Syntax → BytePos → List ℕ → TokenSource
outset g syntax start cs = record {
  left = tokens g start.0 0 false false nesting.outset cs;
  context = default_context;
  syntax = syntax;
  start = start;
  recorded = [];
  held_back = [];
}
