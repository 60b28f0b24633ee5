-- A lexer as a source of tokens.
use Rattle.std.specs.Prelude.{ℕ, false, List, []}
use Rattle.swc_ecma_parser_common.specs.declared.span.BytePos.{BytePos}
use Rattle.swc_ecma_parser_input.specs.declared.context.Context.{Context}
use Rattle.swc_ecma_parser_input.specs.declared.syntax.Syntax.{Syntax}
use Rattle.swc_ecma_parser_input.specs.Faults.{Faults}
use Rattle.swc_ecma_parser_input.specs.TokenSource.{TokenSource}
use Rattle.swc_ecma_parser_lexer.specs.declared.place.Place.{Place}
use Rattle.swc_ecma_parser_lexer.specs.Tokens.{tokens, tokens_at}

-- the source that a lexer is at a place
abbrev pub source_of : Place → Context → Syntax → Faults → TokenSource
source_of place context syntax faults = record {
  left = tokens_at place;
  context = context;
  syntax = syntax;
  start = place.start;
  recorded = faults.recorded;
  held_back = faults.held_back;
}

abbrev pub default_context : Context
default_context = record {
  «module» = false;
  can_be_module = false;
  strict = false;
  in_async = false;
  in_generator = false;
  in_function = false;
  in_parameters = false;
  in_class = false;
  in_static_block = false;
  is_break_allowed = false;
  is_continue_allowed = false;
  include_in_expr = false;
}

-- the source at the start of a text, given by its characters
abbrev pub outset : Syntax → BytePos → List ℕ → TokenSource
outset syntax start cs = record {
  left = tokens start.0 0 false cs;
  context = default_context;
  syntax = syntax;
  start = start;
  recorded = [];
  held_back = [];
}
