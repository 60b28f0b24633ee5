-- The code of what a head declares differs in its context alone, which is as much of a module as before.
use Rattle.std.proofs.Common.{◌≡◌, refl}
use Rattle.swc_ecma_parser_input.specs.declared.context.Context.{Context}
use Rattle.swc_ecma_parser_model.specs.declared.leaves.VarDeclKind.{VarDeclKind}
use Rattle.swc_ecma_parser_model.specs.declared.leaves.VarDeclKind.TheVariants as decl
use Rattle.swc_ecma_parser_grammar.specs.Names.{Code}
use Rattle.swc_ecma_parser_grammar.specs.language.Contexts.{head_code}
use Rattle.swc_ecma_parser_loops.specs.Flags.{head_flags}

pub head_code_is : (word : VarDeclKind) (k : Code) → head_code word k ≡ record k { flags = head_flags word k.flags }
head_code_is decl.Var k = refl
head_code_is _ k = refl

pub head_module : (word : VarDeclKind) (f : Context) → (head_flags word f).«module» ≡ f.«module»
head_module decl.Var f = refl
head_module _ f = refl
