-- What is told one behind another, and the reader of statements that leave what is around them: ECMA-262, sections 14.8 to 14.10.
use Rattle.std.specs.Prelude.{Bool, ◌||◌, if◌then◌else◌, List, [], ◌∷◌, is_some, Ok, Err}
use Rattle.swc_ecma_parser_common.specs.declared.span.Span.{Span}
use Rattle.swc_ecma_parser_error.specs.Kind as faults
use Rattle.swc_ecma_parser_error.specs.Kind.{Fault}
use Rattle.swc_ecma_parser_model.specs.Tree as tree
use Rattle.swc_ecma_parser_model.specs.Tree.{Tree}
use Rattle.swc_ecma_parser_grammar.specs.language.Contexts.{with_in}
use Rattle.swc_ecma_parser_grammar.specs.Ends.{ends_at}
use Rattle.swc_ecma_parser_grammar.specs.Names.{Code}
use Rattle.swc_ecma_parser_grammar.specs.Own.{break_faults, continue_faults, return_faults}
use Rattle.swc_ecma_parser_reader.specs.State.{Outcome, Reader, ◌>>=◌, ◌>>◌, pure, span_here, since, skip, within, fault, refused, name, end}

-- ---- what is told

-- these faults, one behind another
abbrev pub told : List Fault → Reader (Unit {0})
told [] = λ s. Ok (tt, s)
told (f ∷ fs) = fault f >> told fs

-- ---- `break`, `continue` and `return`

-- the label of `break` and `continue`: none where the statement can end
unfoldable pub target : Reader Tree
target = λ s. if ends_at s.at then Ok (tree.absent, s) else (do
  i ← name faults.ExpectedIdent
  pure (tree.ident i.span i.sym)) s

-- nothing to break, or no such label around
unfoldable pub unbroken : Tree → Span → Reader (Unit {0})
unbroken label span = λ s. told (break_faults s.code.flags.is_break_allowed s.scope.labels label span) s

unfoldable pub break_stmt : Reader Tree
break_stmt = do
  start ← span_here
  skip
  label ← target
  end faults.Expected
  span ← since start
  unbroken label span
  pure (tree.break span label)

unfoldable pub uncontinued : Tree → Span → Reader (Unit {0})
uncontinued label span = λ s. told (continue_faults s.code.flags.is_continue_allowed s.scope.labels label span) s

unfoldable pub continue_stmt : Reader Tree
continue_stmt = do
  start ← span_here
  skip
  label ← target
  end faults.Expected
  span ← since start
  uncontinued label span
  pure (tree.continue span label)

-- whether a `return` may stand in this code: a function stands around it, or the setting asks for none
abbrev pub may_return : Code → Bool
may_return k = k.flags.in_function || k.setting.allow_return_outside_function

-- what is told of one that may stand where it does, or may not
unfoldable pub misplaced : (may : Bool) → Span → Reader (Unit {0})
misplaced may start = λ s. told (return_faults may (record { lo = start.lo; hi = s.at.last.hi })) s

-- This is told of a `return` that is refused too, up to what was read, unless the state is marked.
abbrev pub after_return : (may : Bool) → Span → Outcome Tree → Outcome Tree
after_return may start (Ok p) = (misplaced may start >> pure p.0) p.1
after_return may start (Err e) = if is_some e.1.scope.mark then Err e else refused e.0 (misplaced may start e.1)

module _ (expr : Reader Tree) where
  -- what `return` answers: nothing where the statement can end
  unfoldable pub operand : Reader Tree
  operand = λ s. if ends_at s.at then Ok (tree.absent, s) else within with_in expr s

  -- from behind the word
  unfoldable pub returned : Span → Reader Tree
  returned start = do
    x ← operand
    end faults.Expected
    span ← since start
    pure (tree.return span x)

  -- Whether it may stand here is asked of the code around it, and not of that in which it is refused.
  unfoldable pub return_stmt : Reader Tree
  return_stmt = do
    start ← span_here
    skip
    λ s. after_return (may_return s.code) start (returned start s)
