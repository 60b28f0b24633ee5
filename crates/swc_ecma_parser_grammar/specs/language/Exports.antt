-- Exports: ECMA-262, section 16.2.3, and the proposals of decorators and of `export name from`.
use Rattle.std.specs.Prelude.{◌≡◌, Bool, true, false, not, ◌&&◌, ◌||◌, nat_lt, List, [], ◌∷◌, codes}
use Rattle.swc_ecma_parser_common.specs.declared.span.Span.{Span}
use Rattle.swc_ecma_parser_token.specs.declared.kind.TokenKind.TheVariants as kind
use Rattle.swc_ecma_parser_input.specs.Place.{Place, after}
use Rattle.swc_ecma_parser_model.specs.declared.leaves.VarDeclKind.{VarDeclKind}
use Rattle.swc_ecma_parser_model.specs.Tree as tree
use Rattle.swc_ecma_parser_model.specs.Tree.{Tree, Trees, none, also, Text, listed}
use Rattle.swc_ecma_parser_model.specs.Forms.{is_absent, span_of}
use Rattle.swc_ecma_parser_grammar.specs.Looks.{kind_at, sees, span_at, spanned}
use Rattle.swc_ecma_parser_grammar.specs.Names.{Code}
use Rattle.swc_ecma_parser_grammar.specs.Ends.{Ends}
use Rattle.swc_ecma_parser_grammar.specs.Follows.{word_at, is_async_function}
use Rattle.swc_ecma_parser_grammar.specs.language.Goals.{Goal, expr_goal, assignment}
use Rattle.swc_ecma_parser_grammar.specs.language.Contexts.{in_module, with_in}
use Rattle.swc_ecma_parser_grammar.specs.language.Parts.{ReadsName, ReadsWord}
use Rattle.swc_ecma_parser_grammar.specs.language.Functions.{FunctionRule}
use Rattle.swc_ecma_parser_grammar.specs.language.Classes.{DecoratorsRule, ClassRule}
use Rattle.swc_ecma_parser_grammar.specs.language.Declarations.{VariablesRule}
use Rattle.swc_ecma_parser_grammar.specs.language.ModuleParts.{BracedRule, FromRule, ModuleNameRule, AttributesRule}

-- ---- names that are exported

-- ExportSpecifier
pub data ExportSpecifierRule (x : Tree) (c d : Place) : Type 0 where
  same_name_rule : (orig : Tree) → ModuleNameRule orig c d → word_at (codes "as") d ≡ false → x ≡ tree.export_specifier (spanned c d) orig tree.absent
      → ExportSpecifierRule x c d
  other_name_rule : (orig exported : Tree) (m : Place) → ModuleNameRule orig c m → word_at (codes "as") m ≡ true → ModuleNameRule exported (after m) d
      → x ≡ tree.export_specifier (spanned c d) orig exported → ExportSpecifierRule x c d

-- `* as name`. As in the crate its span begins where the words behind `export` do, at `start`.
pub record NamespaceExportRule (start : Place) (x : Tree) (c d : Place) : Type 0 where
  pub name : Tree
  pub star : kind_at c ≡ kind.Mul
  pub is_named : word_at (codes "as") (after c) ≡ true
  pub reads_name : ModuleNameRule name (after (after c)) d
  pub is : x ≡ tree.export_namespace (spanned start d) name

-- the default of another module, under a name or as the default again
pub data DefaultExportRule (k : Code) (x : Tree) (c d : Place) : Type 0 where
  under_name_rule : (text : Text) (s : Span) → ReadsName k text s c d → x ≡ tree.export_default (tree.ident s text) → DefaultExportRule k x c d
  as_default_rule : (s : Span) → kind_at c ≡ kind.Default → ReadsWord (codes "default") s c d → x ≡ tree.export_default (tree.ident s (codes "default"))
      → DefaultExportRule k x c d

-- a namespace, or names in braces; with the setting both. What does not end in braces comes from another module.
pub data NamesRule (k : Code) (start : Place) (in_braces : Bool) (xs : List Tree) (c d : Place) : Type 0 where
  braces_rule : in_braces ≡ true → BracedRule ExportSpecifierRule xs c d → NamesRule k start in_braces xs c d
  namespace_rule : (y : Tree) → in_braces ≡ false → NamespaceExportRule start y c d → xs ≡ y ∷ [] → NamesRule k start in_braces xs c d
  namespace_and_braces_rule : (y : Tree) (ys : List Tree) (m : Place) → in_braces ≡ true → k.setting.export_default_from ≡ true → NamespaceExportRule start y c m
      → kind_at m ≡ kind.Comma → BracedRule ExportSpecifierRule ys (after m) d → xs ≡ y ∷ ys → NamesRule k start in_braces xs c d

-- with the setting a default may stand before these, or alone
pub data ExportClauseRule (k : Code) (in_braces : Bool) (xs : List Tree) (c d : Place) : Type 0 where
  names_rule : NamesRule k c in_braces xs c d → ExportClauseRule k in_braces xs c d
  default_alone_rule : (y : Tree) → in_braces ≡ false → k.setting.export_default_from ≡ true → DefaultExportRule k y c d → xs ≡ y ∷ [] → ExportClauseRule k in_braces xs c d
  default_and_names_rule : (y : Tree) (ys : List Tree) (m : Place) → k.setting.export_default_from ≡ true → DefaultExportRule k y c m → kind_at m ≡ kind.Comma
      → NamesRule k c in_braces ys (after m) d → xs ≡ y ∷ ys → ExportClauseRule k in_braces xs c d

-- ---- declarations that are exported

-- whether these decorators begin before a place
abbrev pub all_before : Span → Trees → Bool
all_before s none = true
all_before s (also x xs) = nat_lt (span_of x).lo.0 s.lo.0 && all_before s xs

abbrev pub begin_before : Span → Tree → Bool
begin_before s (tree.list xs) = all_before s xs
begin_before s _ = false

-- behind `export`, or behind `export default`
pub data ExportWords (is_default : Bool) (c d : Place) : Type 0 where
  export_word : is_default ≡ false → kind_at c ≡ kind.Export → d ≡ after c → ExportWords is_default c d
  export_default_words : is_default ≡ true → kind_at c ≡ kind.Export → kind_at (after c) ≡ kind.Default → d ≡ after (after c) → ExportWords is_default c d

-- The words, which stand at `m`, with decorators before them or behind them. Those before them are read as the code around, and
-- each begins before the word `export`: so a tree tells them from those behind it.
pub data ExportFrontRule (In : Goal → Type 0) (k : Code) (is_default : Bool) (decorators : Tree) (c m d : Place) : Type 0 where
  decorated_before : k.setting.decorators_before_export ≡ true → DecoratorsRule In k decorators c m → begin_before (span_at m) decorators ≡ true
      → ExportWords is_default m d → ExportFrontRule In k is_default decorators c m d
  decorated_behind : (n : Place) → m ≡ c → ExportWords is_default m n → DecoratorsRule In (in_module k) decorators n d → ExportFrontRule In k is_default decorators c m d

-- the span of an exported class leaves its decorators out
pub data ExportedRule (In : Goal → Type 0) (k : Code) (decorators x : Tree) (c d : Place) : Type 0 where
  exported_class : (name y : Tree) → ClassRule In k c decorators name y c d → is_absent name ≡ false → x ≡ tree.class_decl name y → ExportedRule In k decorators x c d
  exported_function : (name y : Tree) → FunctionRule In false k decorators name y c d → is_absent name ≡ false → x ≡ tree.fn_decl name y → ExportedRule In k decorators x c d
  exported_variables : (word : VarDeclKind) (xs : List Tree) (m : Place) → decorators ≡ listed [] → VariablesRule In (with_in k) false word xs c m → Ends m d
      → x ≡ tree.var (spanned c d) word (listed xs) → ExportedRule In k decorators x c d

-- a default may have no name
pub data DefaultRule (In : Goal → Type 0) (k : Code) (decorators x : Tree) (c d : Place) : Type 0 where
  default_class : (name y : Tree) → ClassRule In k c decorators name y c d → x ≡ tree.class_expr (spanned c d) name y → DefaultRule In k decorators x c d
  default_function : (name y : Tree) → FunctionRule In false k decorators name y c d → x ≡ tree.fn_expr (spanned c d) name y → DefaultRule In k decorators x c d

-- the look-ahead of `export default` before an expression
unfoldable pub may_begin_default : Code → Place → Bool
may_begin_default k c =
    not (sees kind.Function c || (sees kind.Class c || (is_async_function c || (k.setting.export_default_from && word_at (codes "from") c))))

-- ---- ExportDeclaration: what is exported is read as module code, and its span begins at `export`

pub data ExportRule (In : Goal → Type 0) (k : Code) (x : Tree) (c d : Place) : Type 0 where
  export_declaration_rule : (decorators y : Tree) (m n : Place) → ExportFrontRule In k false decorators c m n → ExportedRule In (in_module k) decorators y n d
      → x ≡ tree.export_decl (spanned m d) y → ExportRule In k x c d
  export_from_rule : (in_braces : Bool) (xs : List Tree) (src attributes : Tree) (l m n : Place) → kind_at c ≡ kind.Export
      → ExportClauseRule (in_module k) in_braces xs (after c) l → FromRule src l m → AttributesRule In (in_module k) attributes m n → Ends n d
      → x ≡ tree.export_named (spanned c d) (listed xs) src attributes → ExportRule In k x c d
  -- without a source
  export_names_rule : (xs : List Tree) (m : Place) → kind_at c ≡ kind.Export → ExportClauseRule (in_module k) true xs (after c) m → word_at (codes "from") m ≡ false
      → Ends m d → x ≡ tree.export_named (spanned c d) (listed xs) tree.absent tree.absent → ExportRule In k x c d
  export_default_declaration_rule : (decorators y : Tree) (m n : Place) → ExportFrontRule In k true decorators c m n → DefaultRule In (in_module k) decorators y n d
      → x ≡ tree.export_default_decl (spanned m d) y → ExportRule In k x c d
  export_default_expression_rule : (e : Tree) (m : Place) → kind_at c ≡ kind.Export → kind_at (after c) ≡ kind.Default → may_begin_default k (after (after c)) ≡ true
      → In (expr_goal assignment (with_in (in_module k)) e (after (after c)) m) → Ends m d → x ≡ tree.export_default_expr (spanned c d) e → ExportRule In k x c d
  export_all_rule : (src attributes : Tree) (m n : Place) → kind_at c ≡ kind.Export → kind_at (after c) ≡ kind.Mul → FromRule src (after (after c)) m
      → AttributesRule In (in_module k) attributes m n → Ends n d → x ≡ tree.export_all (spanned c d) src attributes → ExportRule In k x c d
