-- The words that declare variables, and which variables go without initializer: ECMA-262, sections 14.3.1 and 14.3.2.
use Rattle.std.specs.Prelude.{Bool, true, false, not, ◌&&◌, ◌||◌, codes}
use Rattle.swc_ecma_parser_token.specs.declared.kind.TokenKind.TheVariants as kind
use Rattle.swc_ecma_parser_input.specs.Place.{Place}
use Rattle.swc_ecma_parser_model.specs.declared.leaves.VarDeclKind.{VarDeclKind}
use Rattle.swc_ecma_parser_model.specs.declared.leaves.VarDeclKind.TheVariants as decl
use Rattle.swc_ecma_parser_model.specs.Tree.{Tree}
use Rattle.swc_ecma_parser_model.specs.Forms.{is_binding_name}
use Rattle.swc_ecma_parser_grammar.specs.Looks.{sees}
use Rattle.swc_ecma_parser_grammar.specs.Names.{Code}
use Rattle.swc_ecma_parser_grammar.specs.Follows.{word_at, is_let_declaration}

-- the word that begins a declaration of this kind; `let` does so before what can be declared
abbrev pub begins_variables : VarDeclKind → Place → Bool
begins_variables decl.Var c = sees kind.Var c
begins_variables decl.Const c = sees kind.Const c
begins_variables decl.Let c = is_let_declaration c

abbrev pub is_var : VarDeclKind → Bool
is_var decl.Var = true
is_var _ = false

abbrev pub is_const : VarDeclKind → Bool
is_const decl.Const = true
is_const _ = false

-- before `in` and `of` in the head of a loop nothing is asked of a variable
abbrev pub heads_loop : (loop : Bool) → Place → Bool
heads_loop loop d = loop && (sees kind.In d || word_at (codes "of") d)

-- A variable may go without initializer where it is a plain name, in strict code only if it is no `const`, and in the head of a
-- loop before `in` and `of`. The crate asks for the initializer of a `const` in strict code alone.
abbrev pub needs_no_initializer : Code → (loop : Bool) → VarDeclKind → Tree → Place → Bool
needs_no_initializer k loop word name d = heads_loop loop d || (is_binding_name name && not (is_const word && k.flags.strict))
