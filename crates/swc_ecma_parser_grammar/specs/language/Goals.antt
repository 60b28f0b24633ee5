-- What can be asked of a stretch of tokens between two places: that they spell this tree. A rule is given the goals that its
-- parts are read by, one level further in.
use Rattle.std.specs.Prelude.{ℕ}
use Rattle.swc_ecma_parser_input.specs.Place.{Place}
use Rattle.swc_ecma_parser_model.specs.Tree.{Tree}
use Rattle.swc_ecma_parser_grammar.specs.declared.position.Position.{Position}
use Rattle.swc_ecma_parser_grammar.specs.Names.{Code}

-- how tightly an expression binds, loosest first: ECMA-262, section 13
pub data Class : Type 0 where
  -- with commas: Expression
  expression : Class
  -- AssignmentExpression
  assignment : Class
  -- the operand of a binary operator: 1 `??` `||`, 2 `&&`, 3 `|`, 4 `^`, 5 `&`, 6 `==`, 7 `<` `in`, 8 `<<`, 9 `+`, 10 `*`, 11 `**`
  operator : ℕ → Class
  -- UnaryExpression
  unary : Class
  -- LeftHandSideExpression
  left_side : Class
  -- what `new` calls: MemberExpression
  callee : Class

-- what a pattern is for: sections 14.3.3 and 13.15.5
pub data Purpose : Type 0 where
  binding : Purpose
  assigning : Purpose

pub data Goal : Type 0 where
  -- an expression of a class; nothing behind it goes on with it
  expr_goal : Class → Code → Tree → Place → Place → Goal
  -- what `new` with arguments calls: its arguments follow
  callee_goal : Code → Tree → Place → Place → Goal
  -- a pattern without default; a name, a member or parentheses too
  pattern_goal : Purpose → Code → Tree → Place → Place → Goal
  -- a pattern with a default or without one: an element, a property's value, a parameter
  element_goal : Purpose → Code → Tree → Place → Place → Goal
  -- a statement
  stmt_goal : Code → Position → Tree → Place → Place → Goal
  -- a member of a class
  member_goal : Code → Tree → Place → Place → Goal
  -- what stands behind the `@` of a decorator
  decorator_goal : Code → Tree → Place → Place → Goal
  -- in a for head what stands behind `await`, from `using` on
  using_goal : Code → Tree → Place → Place → Goal
  -- the attributes of an import: an object, whatever follows it
  attributes_goal : Code → Tree → Place → Place → Goal
  -- an item of a module: a statement, an import or an export
  item_goal : Code → Tree → Place → Place → Goal
