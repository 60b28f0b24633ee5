-- Lists that no item spells, within any levels.
use Rattle.std.proofs.Common.{◌≡◌, ℕ, zero, suc, true, List, [], ◌∷◌, Option, Bool, false, ◌∙◌, ap, sym}
use Rattle.std.specs.Prelude.{codes}
use Rattle.swc_ecma_parser_token.specs.declared.kind.TokenKind.TheVariants as kind
use Rattle.swc_ecma_parser_token.specs.declared.keyword.Keyword.TheVariants as keyword
use Rattle.swc_ecma_parser_token.specs.declared.token.Token.TheVariants as token
use Rattle.swc_ecma_parser_input.specs.Place.{Place, after}
use Rattle.swc_ecma_parser_model.specs.declared.leaves.VarDeclKind.TheVariants as decl
use Rattle.swc_ecma_parser_model.specs.declared.leaves.ImportPhase.{ImportPhase}
use Rattle.swc_ecma_parser_model.specs.Tree.{Tree, Text}
use Rattle.swc_ecma_parser_grammar.specs.declared.position.Position.{Position}
use Rattle.swc_ecma_parser_grammar.specs.Names.{Code}
use Rattle.swc_ecma_parser_grammar.specs.Looks.{kind_at}
use Rattle.swc_ecma_parser_grammar.specs.Ends.{Ends, by_semicolon, by_insertion}
use Rattle.swc_ecma_parser_grammar.specs.Follows.{AsyncWord, not_async, async_word}
use Rattle.swc_ecma_parser_grammar.specs.language.Goals.{Goal, stmt_goal}
use Rattle.swc_ecma_parser_grammar.specs.language.Contexts.{outside_functions, in_module}
use Rattle.swc_ecma_parser_grammar.specs.language.Lists.{ReadsListed}
use Rattle.swc_ecma_parser_grammar.specs.language.Items.{top_item, ItemsRule}
use Rattle.swc_ecma_parser_grammar.specs.language.ModuleParts.{word_name_rule, string_name_rule}
use Rattle.swc_ecma_parser_grammar.specs.language.Imports.{ImportSpecifierRule, named_rule, renamed_rule, namespace_rule, named_bindings_rule, ImportClauseRule, bindings_rule, default_binding_rule, PhaseRule, source_rule, defer_rule, evaluation_rule, ImportRule, bare_import_rule, import_rule}
use Rattle.swc_ecma_parser_grammar.specs.language.Classes.{decorator_rule, no_decorators, some_decorators}
use Rattle.swc_ecma_parser_grammar.specs.language.Exports as exports
use Rattle.swc_ecma_parser_grammar.specs.language.Exports.{ExportSpecifierRule, same_name_rule, other_name_rule, DefaultExportRule, under_name_rule, as_default_rule, NamesRule, braces_rule, namespace_and_braces_rule, ExportClauseRule, names_rule, default_alone_rule, default_and_names_rule, ExportWords, export_word, export_default_words, ExportFrontRule, decorated_before, decorated_behind, ExportedRule, exported_class, exported_function, exported_variables, ExportRule, export_declaration_rule, export_from_rule, export_names_rule, export_default_declaration_rule, export_default_expression_rule, export_all_rule}
use Rattle.swc_ecma_parser_grammar.specs.language.Reads.{Reads}
use Rattle.swc_ecma_parser_grammar.specs.language.Programs.{Spells, script, entry_code, ShebangRule, some_shebang, no_shebang}
use Rattle.swc_ecma_parser_grammar.proofs.Spelling.{t, named, keyword, start, behind}
use Rattle.swc_ecma_parser_grammar.proofs.SpellingItems.{sights}
use Rattle.swc_ecma_parser_grammar.proofs.Ended.{ends_name, word_ends}
use Rattle.swc_ecma_parser_grammar.proofs.ExpressionBegins.{kind_of_token, name_is_identifier, kind_seen}
use Rattle.swc_ecma_parser_grammar.proofs.StatementBegins.{statement_begun, let_stands}

-- `import 'foo';` in a script
abbrev import_in_script : Place
import_in_script = start (t (keyword keyword.Import) 0 6 ∷ t (token.Str (codes "foo") (codes "'foo'")) 7 12 ∷ t token.Semi 12 13 ∷ [])

no_import_statement : (n : ℕ) (k : Code) (at : Position) (x : Tree) (d : Place) → Reads n (stmt_goal k at x import_in_script d) → ⊥
unfolding sights
no_import_statement zero k at x d r = r
no_import_statement (suc n) k at x d r = let b = statement_begun n k at x import_in_script d r in cc

no_first_line : (first : Place) (line : Option Text) → ShebangRule import_in_script first line → first ≡ import_in_script
unfolding sights
no_first_line first line (some_shebang text s r) = let h = kind_of_token r in cc
no_first_line first line (no_shebang h e) = e

no_import_items : (n : ℕ) (k : Code) (xs : List Tree) (first d : Place) → first ≡ import_in_script → ItemsRule (Reads n) k true top_item xs first d → kind_at d ≡ kind.End → ⊥
unfolding sights
no_import_items n k [] first d h r e = cc
no_import_items n k (x ∷ xs) first d h (m, r, rs) e = no_import_statement n k top_item x m (rw h at r)

no_import_in_a_script : (n : ℕ) (k : Code) (labels : List Text) (x : Tree) (d : Place) → Spells n script k labels x import_in_script d → ⊥
no_import_in_a_script n k labels x d ((r, s), w) = no_import_items n (entry_code script k) r.items r.first d (no_first_line r.first r.shebang r.reads_shebang) r.reads_items r.to_the_end

-- `import { "str" } from "mod"`: a string is no binding
abbrev string_binding : Place
string_binding =
    start (t (keyword keyword.Import) 0 6 ∷ t token.LBrace 7 8 ∷ t (token.Str (codes "str") (codes "\"str\"")) 9 14 ∷ t token.RBrace 15 16 ∷ t (named (codes "from")) 17 21
    ∷ t (token.Str (codes "mod") (codes "\"mod\"")) 22 27 ∷ [])

no_specifier : (k : Code) (x : Tree) (d : Place) → ImportSpecifierRule k x (behind 2 string_binding) d → ⊥
unfolding sights
no_specifier k x d (named_rule text s r g e) = let h = name_is_identifier k text s (behind 2 string_binding) d r in cc
no_specifier k x d (renamed_rule imported text s m (word_name_rule u v r f) g h e) = cc
no_specifier k x d (renamed_rule imported text s m (string_name_rule r) g h e) = let i = rw r.reads.next at g in cc

no_specifiers : (k : Code) (xs : List Tree) (d : Place) → ReadsListed true (ImportSpecifierRule k) xs (behind 2 string_binding) d → kind_at d ≡ kind.RBrace → ⊥
unfolding sights
no_specifiers k [] d h e = let i = rw h at e in cc
no_specifiers k (x ∷ []) d (m, r, rs) e = no_specifier k x m r
no_specifiers k (x ∷ y ∷ ys) d (m, r, f, g, rs) e = no_specifier k x m r

no_clause : (k : Code) (xs : List Tree) (d : Place) → ImportClauseRule k xs (behind 1 string_binding) d → ⊥
unfolding sights
no_clause k xs d (bindings_rule (namespace_rule text s h g r e)) = cc
no_clause k xs d (bindings_rule (named_bindings_rule r)) = no_specifiers k xs r.close r.reads_specifiers r.closes
no_clause k xs d (default_binding_rule text s ys m r g e) = let h = name_is_identifier (outside_functions k) text s (behind 1 string_binding) m r in cc

no_phase : (k : Code) (p : ImportPhase) (d : Place) → PhaseRule k p (behind 1 string_binding) d → d ≡ behind 1 string_binding
unfolding sights
no_phase k p d (source_rule h g e) = cc
no_phase k p d (defer_rule h g e) = cc
no_phase k p d (evaluation_rule h g e) = g

no_string_is_bound : (n : ℕ) (k : Code) (x : Tree) (d : Place) → ImportRule (Reads n) k x string_binding d → ⊥
unfolding sights
no_string_is_bound n k x d (bare_import_rule src attributes m j h r g f e) = let i = kind_of_token r.reads in cc
no_string_is_bound n k x d (import_rule p xs src attributes i l m j h g r s u f e) = no_clause k xs l (rw (no_phase k p i g) at r)

-- `export {} a`: an export without a source ends as a statement does
abbrev export_unended : Place
export_unended = start (t (keyword keyword.Export) 0 6 ∷ t token.LBrace 7 8 ∷ t token.RBrace 8 9 ∷ t (named (codes "a")) 10 11 ∷ [])

no_name_in_braces : (x : Tree) (d : Place) → ExportSpecifierRule x (behind 2 export_unended) d → ⊥
unfolding sights
no_name_in_braces x d (same_name_rule orig (word_name_rule text s r f) g e) = word_ends r.word (ap ends_name (sym (kind_of_token r.reads_word)))
no_name_in_braces x d (same_name_rule orig (string_name_rule r) g e) = let h = kind_of_token r.reads in cc
no_name_in_braces x d (other_name_rule orig other m (word_name_rule text s r f) g q e) = word_ends r.word (ap ends_name (sym (kind_of_token r.reads_word)))
no_name_in_braces x d (other_name_rule orig other m (string_name_rule r) g q e) = let h = kind_of_token r.reads in cc

names_end : (xs : List Tree) (d : Place) → ReadsListed true ExportSpecifierRule xs (behind 2 export_unended) d → d ≡ behind 2 export_unended
names_end [] d h = h
names_end (x ∷ []) d (m, r, rs) = absurd (no_name_in_braces x m r)
names_end (x ∷ y ∷ ys) d (m, r, f, g, rs) = absurd (no_name_in_braces x m r)

braces_end : (k : Code) (first : Place) (b : Bool) (xs : List Tree) (d : Place) → NamesRule k first b xs (behind 1 export_unended) d → d ≡ behind 3 export_unended
unfolding sights
braces_end k first b xs d (braces_rule h r) = r.next ∙ ap after (names_end xs r.close r.reads_specifiers)
braces_end k first b xs d (exports.namespace_rule y h r e) = let i = r.star in cc
braces_end k first b xs d (namespace_and_braces_rule y ys m h i r j q e) = let l = r.star in cc

no_default : (k : Code) (x : Tree) (d : Place) → DefaultExportRule k x (behind 1 export_unended) d → ⊥
unfolding sights
no_default k x d (under_name_rule text s r e) = let h = name_is_identifier k text s (behind 1 export_unended) d r in cc
no_default k x d (as_default_rule s h r e) = cc

clause_ends : (k : Code) (b : Bool) (xs : List Tree) (d : Place) → ExportClauseRule k b xs (behind 1 export_unended) d → d ≡ behind 3 export_unended
clause_ends k b xs d (names_rule r) = braces_end k (behind 1 export_unended) b xs d r
clause_ends k b xs d (default_alone_rule y h i r e) = absurd (no_default k y d r)
clause_ends k b xs d (default_and_names_rule y ys m h r i q e) = absurd (no_default k y m r)

words_end : (b : Bool) (c d : Place) → c ≡ export_unended → ExportWords b c d → (b ≡ false) × (d ≡ behind 1 export_unended)
unfolding sights
words_end b c d h (export_word e f g) = (e, g ∙ ap after h)
words_end b c d h (export_default_words e f i g) = let j = rw h at i in cc

no_function_here : (b : Bool) (word : Place) → AsyncWord b (behind 1 export_unended) word → kind_at word ≡ kind.Function → ⊥
unfolding sights
no_function_here b word (not_async e f) h = let i = rw f at h in cc
no_function_here b word (async_word e f g h) i = cc

no_end_here : (m d : Place) → m ≡ behind 3 export_unended → Ends m d → ⊥
unfolding sights
no_end_here m d h (by_semicolon e f) = let i = rw h at e in cc
no_end_here m d h (by_insertion e f g) = let i = rw h at f in cc

module _ {In : Goal → Type 0} where
  front_ends : (k : Code) (b : Bool) (ds : Tree) (m d : Place) → ExportFrontRule In k b ds export_unended m d → (b ≡ false) × (d ≡ behind 1 export_unended)
  unfolding sights
  front_ends k b ds m d (decorated_before s (no_decorators e f) h w) = words_end b m d e w
  front_ends k b ds m d (decorated_before s (some_decorators y ys i (q, decorator_rule z j r f, rs) g) h w) = cc
  front_ends k b ds m d (decorated_behind n e w (no_decorators f g)) = let q = words_end b m n e w in (q.0, f ∙ q.1)
  front_ends k b ds m d (decorated_behind n e w (some_decorators y ys i (q, decorator_rule z j r f, rs) g)) = let o = rw (words_end b m n e w).1 at j in cc

  no_declaration_here : (k : Code) (ds x : Tree) (c d : Place) → c ≡ behind 1 export_unended → ExportedRule In k ds x c d → ⊥
  unfolding sights
  no_declaration_here k ds x c d h (exported_class name y r g e) = let i = rw h at r.is_class in cc
  no_declaration_here k ds x c d h (exported_function name y r g e) = no_function_here r.is_async r.word (rw h at r.reads_async) r.is_function
  no_declaration_here k ds x c d h (exported_variables decl.Var xs m g r f e) = let i = kind_seen kind.Var (behind 1 export_unended) (rw h at r.0) in cc
  no_declaration_here k ds x c d h (exported_variables decl.Const xs m g r f e) = let i = kind_seen kind.Const (behind 1 export_unended) (rw h at r.0) in cc
  no_declaration_here k ds x c d h (exported_variables decl.Let xs m g r f e) = let i = let_stands (behind 1 export_unended) (rw h at r.0) in cc

  no_unended_export : (k : Code) (x : Tree) (d : Place) → ExportRule In k x export_unended d → ⊥
  unfolding sights
  no_unended_export k x d (export_declaration_rule ds y m n f r e) = no_declaration_here (in_module k) ds y n d (front_ends k false ds m n f).1 r
  no_unended_export k x d (export_from_rule b xs src attributes l m n h r s t i e) = let j = rw (clause_ends (in_module k) b xs l r) at s.0 in cc
  no_unended_export k x d (export_names_rule xs m h r a q e) = no_end_here m d (clause_ends (in_module k) true xs m r) q
  no_unended_export k x d (export_default_declaration_rule ds y m n f r e) = let i = (front_ends k true ds m n f).0 in cc
  no_unended_export k x d (export_default_expression_rule e m h i j r g f) = cc
  no_unended_export k x d (export_all_rule src attributes m n h i s t g e) = cc
