-- What is known of the readers one level below a statement: none of them loses anything.
use Rattle.swc_ecma_parser_model.specs.Tree.{Tree}
use Rattle.swc_ecma_parser_reader.specs.State.{Reader}
use Rattle.std.proofs.Common.{List}
use Rattle.swc_ecma_parser_common.specs.declared.span.Span.{Span}
use Rattle.swc_ecma_parser_grammar.specs.declared.position.Position.{Position}
use Rattle.swc_ecma_parser_grammar.specs.language.Goals.{Class}
use Rattle.swc_ecma_parser_reader.specs.Expressions.{Cover}
use Rattle.swc_ecma_parser_reader.proofs.Behind.{Passes}

pub record KeepsBelow : Type 0 where
  -- the readers of the level below
  pub inner : Position → Reader Tree
  pub inner_expr : Class → Reader Tree
  pub inner_pat : Reader Tree
  pub inner_head : Reader Cover
  pub inner_params : Reader (List Tree)
  pub inner_member : Reader Tree
  pub inner_operators : Span → Tree → Reader Tree
  -- none of them loses anything
  pub below_stmt : (at : Position) → Passes (inner at)
  pub below_expr : (class : Class) → Passes (inner_expr class)
  pub below_pat : Passes inner_pat
  pub below_head : Passes inner_head
  pub below_params : Passes inner_params
  pub below_member : Passes inner_member
  pub below_operators : (start : Span) (x : Tree) → Passes (inner_operators start x)
