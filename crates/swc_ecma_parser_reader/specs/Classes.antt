-- The classes of expressions as the code names them.
use Rattle.swc_ecma_parser_grammar.specs.declared.class.Class as code
use Rattle.swc_ecma_parser_grammar.specs.declared.class.Class.TheVariants as class
use Rattle.swc_ecma_parser_grammar.specs.language.Goals.{Class, expression, assignment, operator, unary, left_side, callee}

abbrev pub class_of : code.Class → Class
class_of class.Expression = expression
class_of class.Assignment = assignment
class_of (class.Operator n) = operator n
class_of class.Unary = unary
class_of class.LeftSide = left_side
class_of class.Callee = callee
