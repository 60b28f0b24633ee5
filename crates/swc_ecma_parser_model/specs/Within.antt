-- What a rule asks of the parts of a finished tree.
use Rattle.std.specs.Prelude.{Bool, true, false, not, Option, Some, None, codes}
use Rattle.swc_ecma_parser_model.specs.declared.operators.BinaryOp.{BinaryOp}
use Rattle.swc_ecma_parser_model.specs.Tree as tree
use Rattle.swc_ecma_parser_model.specs.Tree.{Tree, Text, absent}
use Rattle.swc_ecma_parser_model.specs.Forms.{is_absent, is_ident_named, is_rest, key_text}

-- an operator before an operand, `await` aside
abbrev pub is_unary_expr : Tree → Bool
is_unary_expr (tree.unary s op arg) = true
is_unary_expr _ = false

abbrev pub is_await_expr : Tree → Bool
is_await_expr (tree.await s arg) = true
is_await_expr _ = false

-- the operator between two operands
abbrev pub binary_operator : Tree → Option BinaryOp
binary_operator (tree.bin s op left right) = Some op
binary_operator _ = None

-- an arrow function whose body is a block
abbrev pub is_block_arrow : Tree → Bool
is_block_arrow (tree.arrow s params (tree.block t stmts) is_async) = true
is_block_arrow _ = false

-- what a call calls
abbrev pub called : Tree → Tree
called (tree.call s f args) = f
called _ = absent

-- a call of the bare name `async`, which looks like the parameters of an arrow function
abbrev pub is_async_call : Tree → Bool
is_async_call x = is_ident_named (codes "async") (called x)

-- a parameter that takes the rest of the arguments
abbrev pub is_rest_param : Tree → Bool
is_rest_param (tree.param s decorators pat) = is_rest pat
is_rest_param _ = false

abbrev pub is_generator_function : Tree → Bool
is_generator_function (tree.function s decorators params body is_async is_generator) = is_generator
is_generator_function _ = false

-- the name or pattern that a declarator declares, and what it is given
abbrev pub declared_name : Tree → Tree
declared_name (tree.declarator s name init) = name
declared_name _ = absent

abbrev pub initial_value : Tree → Tree
initial_value (tree.declarator s name init) = init
initial_value _ = absent

abbrev pub is_initialized : Tree → Bool
is_initialized x = not (is_absent (initial_value x))

-- an export of all that another module exports, and one of what it exports by default
abbrev pub is_export_namespace : Tree → Bool
is_export_namespace (tree.export_namespace s name) = true
is_export_namespace _ = false

abbrev pub is_export_default : Tree → Bool
is_export_default (tree.export_default exported) = true
is_export_default _ = false

-- the first name of an export, a word or a string
abbrev pub export_name : Tree → Tree
export_name (tree.export_namespace s name) = name
export_name (tree.export_default exported) = exported
export_name (tree.export_specifier s orig exported) = orig
export_name _ = absent

-- what it says
abbrev pub export_text : Tree → Option Text
export_text x = key_text (export_name x)
