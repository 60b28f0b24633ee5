-- How the reader tells where `using` declares, and what of a declaration is a fault: the proposal on explicit resource management,
-- which adds it to ECMA-262, section 14.3.
use Rattle.std.specs.Prelude.{Bool, false, not, ◌&&◌, ◌||◌, List, [], ◌∷◌, ◌++◌, codes}
use Rattle.swc_ecma_parser_common.specs.declared.span.Span.{Span}
use Rattle.swc_ecma_parser_error.specs.Kind as kind
use Rattle.swc_ecma_parser_error.specs.Kind.{Fault}
use Rattle.swc_ecma_parser_token.specs.declared.kind.TokenKind.TheVariants as token
use Rattle.swc_ecma_parser_input.specs.Place.{Place, after}
use Rattle.swc_ecma_parser_model.specs.Tree as tree
use Rattle.swc_ecma_parser_model.specs.Tree.{Tree}
use Rattle.swc_ecma_parser_model.specs.Forms.{is_binding_name, is_ident_named}
use Rattle.swc_ecma_parser_model.specs.Within.{declared_name, is_initialized}
use Rattle.swc_ecma_parser_grammar.specs.declared.position.Position.{Position}
use Rattle.swc_ecma_parser_grammar.specs.Looks.{sees, breaks_at}
use Rattle.swc_ecma_parser_grammar.specs.Names.{Code, identifier_at}
use Rattle.swc_ecma_parser_grammar.specs.Follows.{word_at}
use Rattle.swc_ecma_parser_grammar.specs.Own.{only}
use Rattle.swc_ecma_parser_grammar.specs.language.Declarations.{is_using_declaration}

-- behind `await` on its line, at the top level too
unfoldable pub is_await_using_declaration : Position → Code → Place → Bool
is_await_using_declaration at k c = sees token.Await c && ((at.include_decl || at.top_level) && (not (breaks_at (after c)) && is_using_declaration k (after c)))

-- In the head of a loop it may begin one before a name on any line, which is not `of`, with the setting; and it does where `in` or `of`
-- stands behind the name.
unfoldable pub may_declare_using : Code → Place → Bool
may_declare_using k c = k.setting.explicit_resource_management && (word_at (codes "using") c && (identifier_at k.flags (after c) && not (word_at (codes "of") (after c))))

unfoldable pub stands_in_head : Place → Bool
stands_in_head c = sees token.In c || word_at (codes "of") c

-- The expression `await using`. In such a head, with the setting, it declares a name that stands behind it on any line and is not
-- `of`, where `in` or `of` stands behind the name and the two words stand on one line. The tree does not tell whether the second is
-- written with an escape: the token does.
unfoldable pub awaits_using : Tree → Bool
awaits_using (tree.await s e) = is_ident_named (codes "using") e
awaits_using _ = false

unfoldable pub declares_behind : Code → Place → Bool
declares_behind k c = k.setting.explicit_resource_management && (identifier_at k.flags c && (not (word_at (codes "of") c) && stands_in_head (after c)))

-- A variable of such a declaration is a plain name, and it has an initializer. What is not so is said of the whole declaration.
abbrev pub misused : Span → Tree → List Fault
misused s x = only (not (is_binding_name (declared_name x))) kind.InvalidNameInUsingDecl s ++ only (not (is_initialized x)) kind.InitRequiredForUsingDecl s

abbrev pub each_misused : Span → List Tree → List Fault
each_misused s [] = []
each_misused s (x ∷ xs) = misused s x ++ each_misused s xs

-- the faults of a declaration, which is none but with the setting
abbrev pub using_faults : (is_read : Bool) → Span → List Tree → List Fault
using_faults is_read s xs = only (not is_read) kind.UsingDeclNotEnabled s ++ each_misused s xs
