-- The expressions and the texts of a template, as those of the model; and the text behind an expression.
use Rattle.std.specs.Prelude.{Bool, ◌||◌, if◌then◌else◌, map}
use Rattle.swc_ecma_parser_error.specs.Kind as faults
use Rattle.swc_ecma_parser_token.specs.declared.kind.TokenKind.TheVariants as kind
use Rattle.swc_ecma_parser_model.specs.Tree.{Tree}
use Rattle.swc_ecma_parser_trees.specs.Parts.{quasi_of}
use Rattle.swc_ecma_parser_grammar.specs.Looks.{sees}
use Rattle.swc_ecma_parser_reader.specs.State.{Reader, refuse}
use Rattle.swc_ecma_parser_reader.specs.Expressions as exprs
use Rattle.swc_ecma_parser_left_sides.specs.declared.templates.Pieces.{Pieces}

abbrev pub pieces_of : {E : Type 0} → (E → Tree) → Pieces E → exprs.Pieces
pieces_of view found = record { exprs = map view found.exprs.items; quasis = map quasi_of found.quasis.items }

abbrev pub text_behind : (tagged : Bool) → Reader Tree
text_behind tagged = λ s. if sees kind.TemplateMiddle s.at || sees kind.TemplateTail s.at then exprs.template_text tagged s else refuse faults.Expected s
