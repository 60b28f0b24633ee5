-- The two lists of faults that a source of tokens keeps.
use Rattle.std.specs.Prelude.{List}
use Rattle.swc_ecma_parser_error.specs.declared.error.Error.{Error}

pub record Faults : Type 0 where
  pub recorded : List Error
  pub held_back : List Error
