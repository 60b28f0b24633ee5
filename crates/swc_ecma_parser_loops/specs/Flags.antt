-- The context of what a head declares.
use Rattle.std.specs.Prelude.{true, false}
use Rattle.swc_ecma_parser_input.specs.declared.context.Context.{Context}
use Rattle.swc_ecma_parser_model.specs.declared.leaves.VarDeclKind.{VarDeclKind}
use Rattle.swc_ecma_parser_model.specs.declared.leaves.VarDeclKind.TheVariants as decl

-- in the initializers of `let` and `const` `in` is an operator
abbrev pub head_flags : VarDeclKind → Context → Context
head_flags decl.Var f = record f { include_in_expr = false }
head_flags _ f = record f { include_in_expr = true }
