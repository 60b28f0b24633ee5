-- The parts that imports and exports share: ECMA-262, section 16.2, and the proposal on import attributes.
use Rattle.std.specs.Prelude.{◌≡◌, Bool, true, false, not, ◌&&◌, ◌||◌, List, codes}
use Rattle.swc_ecma_parser_common.specs.declared.span.Span.{Span}
use Rattle.swc_ecma_parser_token.specs.declared.kind.TokenKind.TheVariants as kind
use Rattle.swc_ecma_parser_token.specs.declared.token.Token.TheVariants as token
use Rattle.swc_ecma_parser_input.specs.Place.{Place, after}
use Rattle.swc_ecma_parser_model.specs.Tree as tree
use Rattle.swc_ecma_parser_model.specs.Tree.{Tree, Text}
use Rattle.swc_ecma_parser_grammar.specs.Looks.{kind_at, breaks_at, sees}
use Rattle.swc_ecma_parser_grammar.specs.Names.{Code}
use Rattle.swc_ecma_parser_grammar.specs.Follows.{word_at}
use Rattle.swc_ecma_parser_grammar.specs.language.Goals.{Goal, attributes_goal}
use Rattle.swc_ecma_parser_grammar.specs.language.Lists.{ReadsListed}
use Rattle.swc_ecma_parser_grammar.specs.language.Parts.{ReadsWord, ReadsToken}

-- specifiers in braces; a comma may stand behind the last
pub record BracedRule (Reads : Tree → Place → Place → Type 0) (xs : List Tree) (c d : Place) : Type 0 where
  pub close : Place
  pub opens : kind_at c ≡ kind.LBrace
  pub reads_specifiers : ReadsListed true Reads xs (after c) close
  pub closes : kind_at close ≡ kind.RBrace
  pub next : d ≡ after close

-- ModuleSpecifier, and a name of a module's that is a string
pub record StringRule (x : Tree) (c d : Place) : Type 0 where
  pub value : Text
  pub raw : Text
  pub span : Span
  pub reads : ReadsToken (token.Str value raw) span c d
  pub is : x ≡ tree.str span value raw

-- FromClause
abbrev pub FromRule : Tree → Place → Place → Type 0
FromRule x c d = (word_at (codes "from") c ≡ true) × StringRule x (after c) d

-- ModuleExportName: any word, reserved ones too, or a string
pub data ModuleNameRule (x : Tree) (c d : Place) : Type 0 where
  word_name_rule : (text : Text) (s : Span) → ReadsWord text s c d → x ≡ tree.ident s text → ModuleNameRule x c d
  string_name_rule : StringRule x c d → ModuleNameRule x c d

-- what brings attributes, on the line of the string before it
unfoldable pub begins_attributes : Code → Place → Bool
begins_attributes k c = k.setting.import_attributes && (not (breaks_at c) && (sees kind.With c || word_at (codes "assert") c))

-- WithClause, which may be left out
pub data AttributesRule (In : Goal → Type 0) (k : Code) (x : Tree) (c d : Place) : Type 0 where
  no_attributes_rule : begins_attributes k c ≡ false → d ≡ c → x ≡ tree.absent → AttributesRule In k x c d
  attributes_rule : begins_attributes k c ≡ true → In (attributes_goal k x (after c) d) → AttributesRule In k x c d
