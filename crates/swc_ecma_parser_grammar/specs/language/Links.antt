-- The links of optional chains: ECMA-262, section 13.3.9.
use Rattle.std.specs.Prelude.{◌≡◌, Bool, true, false, ◌&&◌}
use Rattle.swc_ecma_parser_common.specs.declared.span.Span.{Span}
use Rattle.swc_ecma_parser_token.specs.declared.kind.TokenKind.TheVariants as kind
use Rattle.swc_ecma_parser_input.specs.Place.{Place}
use Rattle.swc_ecma_parser_model.specs.Tree as tree
use Rattle.swc_ecma_parser_model.specs.Tree.{Tree, Text}
use Rattle.swc_ecma_parser_grammar.specs.Looks.{sees}
use Rattle.swc_ecma_parser_grammar.specs.Names.{Code}
use Rattle.swc_ecma_parser_grammar.specs.language.Goals.{Goal}
use Rattle.swc_ecma_parser_grammar.specs.language.Parts.{ReadsWord, PrivateRule, AccessRule, ArgumentsRule}

-- What goes on with an object, as a member or a call of the span of the whole link. Behind `?.` no `.` stands before a name.
pub data LinkRule (In : Goal → Type 0) (k : Code) (behind_question : Bool) (whole : Span) (object base : Tree) (c d : Place) : Type 0 where
  name_link : (text : Text) (s : Span) → behind_question ≡ true → ReadsWord text s c d → base ≡ tree.member whole object (tree.ident s text)
      → LinkRule In k behind_question whole object base c d
  private_link : (name : Tree) → behind_question ≡ true → PrivateRule name c d → base ≡ tree.member whole object name → LinkRule In k behind_question whole object base c d
  access_link : (property : Tree) → behind_question && sees kind.Dot c ≡ false → AccessRule In k property c d → base ≡ tree.member whole object property
      → LinkRule In k behind_question whole object base c d
  arguments_link : (arguments : Tree) → ArgumentsRule In k true arguments c d → base ≡ tree.call whole object arguments → LinkRule In k behind_question whole object base c d
