-- The bodies of functions.
use Rattle.std.specs.Prelude.{Bool}
use Rattle.swc_ecma_parser_model.specs.Tree.{Tree}
use Rattle.swc_ecma_parser_grammar.specs.Own.{misplaced_directive}
use Rattle.swc_ecma_parser_reader.specs.Jumps.{told}
use Rattle.swc_ecma_parser_reader.specs.State.{Reader, ◌>>=◌, ◌>>◌, pure}

-- a body, with the fault of a directive behind parameters that are not plain names
abbrev pub directed_body : (is_simple : Bool) → Reader Tree → Reader Tree
directed_body is_simple body = do
  x ← body
  told (misplaced_directive is_simple x)
  pure x
