-- Imports: ECMA-262, section 16.2.2, and the proposals on import attributes and on phases.
use Rattle.std.specs.Prelude.{◌≡◌, Bool, true, false, not, ◌&&◌, ◌||◌, List, [], ◌∷◌, codes}
use Rattle.swc_ecma_parser_common.specs.declared.span.Span.{Span}
use Rattle.swc_ecma_parser_token.specs.declared.kind.TokenKind.TheVariants as kind
use Rattle.swc_ecma_parser_input.specs.Place.{Place, after}
use Rattle.swc_ecma_parser_model.specs.declared.leaves.ImportPhase.{ImportPhase}
use Rattle.swc_ecma_parser_model.specs.declared.leaves.ImportPhase.TheVariants as phase
use Rattle.swc_ecma_parser_model.specs.Tree as tree
use Rattle.swc_ecma_parser_model.specs.Tree.{Tree, Text, listed}
use Rattle.swc_ecma_parser_grammar.specs.Looks.{kind_at, sees, spanned}
use Rattle.swc_ecma_parser_grammar.specs.Names.{Code, identifier_at}
use Rattle.swc_ecma_parser_grammar.specs.Ends.{Ends}
use Rattle.swc_ecma_parser_grammar.specs.Follows.{word_at}
use Rattle.swc_ecma_parser_grammar.specs.language.Goals.{Goal}
use Rattle.swc_ecma_parser_grammar.specs.language.Contexts.{outside_functions}
use Rattle.swc_ecma_parser_grammar.specs.language.Parts.{ReadsName}
use Rattle.swc_ecma_parser_grammar.specs.language.ModuleParts.{BracedRule, StringRule, FromRule, ModuleNameRule, AttributesRule}

-- ---- what is imported

-- ImportSpecifier
pub data ImportSpecifierRule (k : Code) (x : Tree) (c d : Place) : Type 0 where
  named_rule : (text : Text) (s : Span) → ReadsName k text s c d → word_at (codes "as") d ≡ false
      → x ≡ tree.import_named (spanned c d) (tree.ident s text) tree.absent → ImportSpecifierRule k x c d
  renamed_rule : (imported : Tree) (text : Text) (s : Span) (m : Place) → ModuleNameRule imported c m → word_at (codes "as") m ≡ true → ReadsName k text s (after m) d
      → x ≡ tree.import_named (spanned c d) (tree.ident s text) imported → ImportSpecifierRule k x c d

-- NameSpaceImport and NamedImports
pub data BindingsRule (k : Code) (xs : List Tree) (c d : Place) : Type 0 where
  namespace_rule : (text : Text) (s : Span) → kind_at c ≡ kind.Mul → word_at (codes "as") (after c) ≡ true → ReadsName (outside_functions k) text s (after (after c)) d
      → xs ≡ tree.import_namespace (spanned c d) (tree.ident s text) ∷ [] → BindingsRule k xs c d
  named_bindings_rule : BracedRule (ImportSpecifierRule k) xs c d → BindingsRule k xs c d

-- what stands behind a default binding; as in the crate, a comma may stand there with nothing behind it
pub data MoreBindingsRule (k : Code) (xs : List Tree) (c d : Place) : Type 0 where
  no_more_rule : d ≡ c → xs ≡ [] → MoreBindingsRule k xs c d
  comma_rule : kind_at c ≡ kind.Comma → d ≡ after c → xs ≡ [] → MoreBindingsRule k xs c d
  more_rule : kind_at c ≡ kind.Comma → BindingsRule k xs (after c) d → MoreBindingsRule k xs c d

-- ImportClause
pub data ImportClauseRule (k : Code) (xs : List Tree) (c d : Place) : Type 0 where
  bindings_rule : BindingsRule k xs c d → ImportClauseRule k xs c d
  default_binding_rule : (text : Text) (s : Span) (ys : List Tree) (m : Place) → ReadsName (outside_functions k) text s c m → MoreBindingsRule k ys m d
      → xs ≡ tree.import_default s (tree.ident s text) ∷ ys → ImportClauseRule k xs c d

-- ---- when a module is run

-- what stands behind the word of a phase: the bindings, a name that is not `from`, or anything before `from`
unfoldable pub follows_phase : Code → Place → Bool
follows_phase k c =
    sees kind.Mul c || (sees kind.LBrace c || ((identifier_at k.flags c && not (word_at (codes "from") c)) || word_at (codes "from") (after c)))

unfoldable pub begins_phase : Text → Code → Place → Bool
begins_phase word k c = word_at word c && follows_phase k (after c)

-- `source` and `defer` are default bindings where they are no phases
pub data PhaseRule (k : Code) (p : ImportPhase) (c d : Place) : Type 0 where
  source_rule : begins_phase (codes "source") k c ≡ true → d ≡ after c → p ≡ phase.Source → PhaseRule k p c d
  defer_rule : begins_phase (codes "defer") k c ≡ true → d ≡ after c → p ≡ phase.Defer → PhaseRule k p c d
  evaluation_rule : begins_phase (codes "source") k c || begins_phase (codes "defer") k c ≡ false → d ≡ c → p ≡ phase.Evaluation → PhaseRule k p c d

-- ImportDeclaration
pub data ImportRule (In : Goal → Type 0) (k : Code) (x : Tree) (c d : Place) : Type 0 where
  bare_import_rule : (src attributes : Tree) (m n : Place) → kind_at c ≡ kind.Import → StringRule src (after c) m → AttributesRule In k attributes m n → Ends n d
      → x ≡ tree.import (spanned c d) (listed []) src attributes phase.Evaluation → ImportRule In k x c d
  import_rule : (p : ImportPhase) (xs : List Tree) (src attributes : Tree) (i l m n : Place) → kind_at c ≡ kind.Import → PhaseRule k p (after c) i → ImportClauseRule k xs i l
      → FromRule src l m → AttributesRule In k attributes m n → Ends n d → x ≡ tree.import (spanned c d) (listed xs) src attributes p → ImportRule In k x c d
