-- The end of a declaration. Where it is missing, the declaration goes on behind a fault with what is dropped, up to an end.
-- The end of an expression statement. Where it is missing before an operator, the expression goes on behind a fault.
use Rattle.std.specs.Prelude.{Bool, true, false, not, ◌&&◌, if◌then◌else◌, List, [], ◌∷◌, Option, Some, None, Ok, Err}
use Rattle.swc_ecma_parser_common.specs.declared.span.Span.{Span}
use Rattle.swc_ecma_parser_error.specs.Kind as faults
use Rattle.swc_ecma_parser_error.specs.Kind.{fault_of}
use Rattle.swc_ecma_parser_token.specs.declared.kind.TokenKind.TheVariants as kind
use Rattle.swc_ecma_parser_token.specs.declared.token.Token.{Token}
use Rattle.swc_ecma_parser_token.specs.declared.token.Token.TheVariants as token
use Rattle.swc_ecma_parser_token.specs.declared.token.TokenAndSpan.{TokenAndSpan}
use Rattle.swc_ecma_parser_input.specs.TokenSource.{means_out_of_memory}
use Rattle.swc_ecma_parser_input.specs.Place.{Place}
use Rattle.swc_ecma_parser_model.specs.declared.operators.BinaryOp.{BinaryOp}
use Rattle.swc_ecma_parser_model.specs.declared.operators.BinaryOp.TheVariants as binary
use Rattle.swc_ecma_parser_model.specs.Tree.{Tree}
use Rattle.swc_ecma_parser_grammar.specs.Looks.{kind_at, sees, span_at}
use Rattle.swc_ecma_parser_grammar.specs.Ends.{can_end}
use Rattle.swc_ecma_parser_grammar.specs.language.Contexts.{with_in}
use Rattle.swc_ecma_parser_grammar.specs.language.Operators.{binary_operator}
use Rattle.swc_ecma_parser_reader.specs.State.{State, Outcome, Reader, ◌>>◌, pure, moved, within, attempted, fault, fault_at, end, Step, More, Done, loop}

-- one token, whatever it is, but one that memory ran out for, which is answered
abbrev pub passed_at : State → Token → Outcome (Unit {0})
passed_at s (token.Error e) = if means_out_of_memory e.kind then Err (fault_of e, moved s) else Ok (tt, moved s)
passed_at s _ = Ok (tt, moved s)

abbrev pub passed_in : State → List TokenAndSpan → Outcome (Unit {0})
passed_in s [] = Ok (tt, s)
passed_in s (t ∷ ts) = passed_at s t.token

unfoldable pub any_token : Reader (Unit {0})
any_token = λ s. passed_in s s.at.left

-- behind a token that was passed an error token ends it
unfoldable pub behind_any : Reader (Step (Unit {0}) (Unit {0}))
behind_any = λ s. if sees kind.Error s.at then Ok (Done tt, s) else Ok (More tt, s)

unfoldable pub end_turn : Unit {0} → Reader (Step (Unit {0}) (Unit {0}))
end_turn _ = λ s.
    if sees kind.Semi s.at then Ok (Done tt, moved s)
    else if can_end s.at then Ok (Done tt, s)
    else (any_token >> behind_any) s

-- tokens up to an end, which is read
unfoldable pub up_to_end : Reader (Unit {0})
up_to_end = loop end_turn tt

module _ (expr : Reader Tree) where
  -- an expression is dropped first
  unfoldable pub no_end : Reader (Unit {0})
  no_end = λ s. (do
    fault (fault_at (span_at s.at) faults.TS1005)
    attempted (within with_in expr)
    up_to_end) s

  unfoldable pub declaration_end : Reader (Unit {0})
  declaration_end = λ s. if sees kind.Semi s.at then Ok (tt, moved s) else (if can_end s.at then Ok (tt, s) else no_end s)

-- ---- the end of an expression statement

-- whether an operator between two operands is written with signs, and not with a word
abbrev pub is_sign : Option BinaryOp → Bool
is_sign (Some binary.In) = false
is_sign (Some binary.InstanceOf) = false
is_sign (Some op) = true
is_sign None = false

-- where such an operator stands in the place of an end
unfoldable pub lacks_end : Place → Bool
lacks_end c = is_sign (binary_operator (kind_at c)) && not (can_end c)

module _ (operators : Span → Tree → Reader Tree) where
  -- the operators behind an expression that was read from a place on; no end is asked for behind them
  unfoldable pub operators_on : Span → Tree → Reader Tree
  operators_on start x = λ s. (do
    fault (fault_at (span_at s.at) faults.TS1005)
    within with_in (operators start x)) s

  -- what the whole expression is
  unfoldable pub stmt_end : Span → Tree → Reader Tree
  stmt_end start x = λ s. if lacks_end s.at then operators_on start x s else (end faults.ExpectedSemiForExprStmt >> pure x) s
