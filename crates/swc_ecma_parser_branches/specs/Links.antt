-- The links of a chain of `else if`, and what they make around what stands behind the last `else`.
use Rattle.std.specs.Prelude.{List, [], ◌∷◌}
use Rattle.swc_ecma_parser_common.specs.declared.span.Span.{Span}
use Rattle.swc_ecma_parser_model.specs.Tree as tree
use Rattle.swc_ecma_parser_model.specs.Tree.{Tree}
use Rattle.swc_ecma_parser_reader.specs.Reader as rules
use Rattle.swc_ecma_parser_branches.specs.declared.branch.Link.{Link}

abbrev pub link_of : {X S : Type 0} → (X → Tree) → (S → Tree) → Link X S → rules.Link
link_of expr_of stmt_of l = record { start = l.start; test = expr_of l.test; cons = stmt_of l.cons }

-- an `if` up to the end of the token that was read last
abbrev pub closed_as : Span → rules.Link → Tree → Tree
closed_as last l alt = tree.if_stmt (record { lo = l.start.lo; hi = last.hi }) l.test l.cons alt

-- each of them up to there, the first of them outermost
abbrev pub around : Span → List rules.Link → Tree → Tree
around last [] alt = alt
around last (l ∷ ls) alt = closed_as last l (around last ls alt)
