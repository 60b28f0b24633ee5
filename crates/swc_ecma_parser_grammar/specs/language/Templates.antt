-- Templates: ECMA-262, section 13.2.8, of the tokens of section 12.9.6.
use Rattle.std.specs.Prelude.{◌≡◌, Bool, true, false, ◌||◌, is_some, List, [], ◌∷◌, Option}
use Rattle.swc_ecma_parser_common.specs.declared.span.Span.{Span}
use Rattle.swc_ecma_parser_token.specs.declared.token.Token.{Token}
use Rattle.swc_ecma_parser_token.specs.declared.token.Token.TheVariants as token
use Rattle.swc_ecma_parser_input.specs.Place.{Place}
use Rattle.swc_ecma_parser_model.specs.Tree as tree
use Rattle.swc_ecma_parser_model.specs.Tree.{Tree, Text}
use Rattle.swc_ecma_parser_grammar.specs.Names.{Code}
use Rattle.swc_ecma_parser_grammar.specs.language.Contexts.{with_in}
use Rattle.swc_ecma_parser_grammar.specs.language.Goals.{Goal, expr_goal, expression}
use Rattle.swc_ecma_parser_grammar.specs.language.Parts.{ReadsToken}

-- A text of a template, as a token of this form. Each escape in it is one, but behind a tag.
pub record TextRule (form : Text → Option Text → Token) (tail tagged : Bool) (x : Tree) (c d : Place) : Type 0 where
  pub raw : Text
  pub cooked : Option Text
  pub span : Span
  pub reads_text : ReadsToken (form raw cooked) span c d
  pub is_right : tagged || is_some cooked ≡ true
  pub is : x ≡ tree.quasi span tail cooked raw

-- From an expression on: one before each text that is left.
pub data TemplateRest (In : Goal → Type 0) (tagged : Bool) (k : Code) : (exprs quasis : List Tree) → Place → Place → Type 0 where
  last_text : {exprs quasis : List Tree} {c d : Place} (e q : Tree) (m : Place) → In (expr_goal expression (with_in k) e c m) → TextRule token.TemplateTail true tagged q m d
      → exprs ≡ e ∷ [] → quasis ≡ q ∷ [] → TemplateRest In tagged k exprs quasis c d
  more_texts : {exprs quasis : List Tree} {c d : Place} (e q : Tree) (es qs : List Tree) (m i : Place) → In (expr_goal expression (with_in k) e c m)
      → TextRule token.TemplateMiddle false tagged q m i → TemplateRest In tagged k es qs i d → exprs ≡ e ∷ es → quasis ≡ q ∷ qs → TemplateRest In tagged k exprs quasis c d

-- It closes: its last token ends it.
pub data TemplateRule (In : Goal → Type 0) (tagged : Bool) (k : Code) (exprs quasis : List Tree) (c d : Place) : Type 0 where
  only_text : (q : Tree) → TextRule token.Template true tagged q c d → exprs ≡ [] → quasis ≡ q ∷ [] → TemplateRule In tagged k exprs quasis c d
  first_text : (q : Tree) (qs : List Tree) (m : Place) → TextRule token.TemplateHead false tagged q c m → TemplateRest In tagged k exprs qs m d → quasis ≡ q ∷ qs
      → TemplateRule In tagged k exprs quasis c d
