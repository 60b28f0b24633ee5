-- Imports, exports and programs that lists of tokens spell, each with the tree that is known by hand.
use Rattle.std.proofs.Common.{ℕ, true, false, List, [], ◌∷◌, Some, refl}
use Rattle.std.specs.Prelude.{codes}
use Rattle.swc_ecma_parser_token.specs.declared.keyword.Keyword.TheVariants as keyword
use Rattle.swc_ecma_parser_token.specs.declared.operator.BinOpToken.TheVariants as bin
use Rattle.swc_ecma_parser_token.specs.declared.token.Token.TheVariants as token
use Rattle.swc_ecma_parser_input.specs.Place.{Place}
use Rattle.swc_ecma_parser_model.specs.declared.leaves.VarDeclKind.TheVariants as decl
use Rattle.swc_ecma_parser_model.specs.declared.leaves.ImportPhase.TheVariants as phase
use Rattle.swc_ecma_parser_model.specs.declared.leaves.MetaPropKind.TheVariants as meta
use Rattle.swc_ecma_parser_model.specs.Tree as tree
use Rattle.swc_ecma_parser_model.specs.Tree.{Tree, listed}
use Rattle.swc_ecma_parser_grammar.specs.Names.{Code}
use Rattle.swc_ecma_parser_grammar.specs.Ends.{by_semicolon, by_insertion}
use Rattle.swc_ecma_parser_grammar.specs.language.Lists.{no_comma}
use Rattle.swc_ecma_parser_grammar.specs.language.Parts.{no_name}
use Rattle.swc_ecma_parser_grammar.specs.language.Parts.{a_name as given_name}
use Rattle.swc_ecma_parser_grammar.specs.Follows.{no_star, not_async}
use Rattle.swc_ecma_parser_grammar.specs.language.Classes.{decorator_rule, no_decorators, some_decorators, no_heritage}
use Rattle.swc_ecma_parser_grammar.specs.language.LeftSides.{number_rule, function_rule, primary_rule, import_meta_rule}
use Rattle.swc_ecma_parser_grammar.specs.language.Patterns.{binding_name_rule}
use Rattle.swc_ecma_parser_grammar.specs.language.Expressions.{operand_rule, await_rule, single_rule, operators_rule, assignment_rule}
use Rattle.swc_ecma_parser_grammar.specs.language.Decorators.{group_rule}
use Rattle.swc_ecma_parser_grammar.specs.language.Declarations.{initialized_rule}
use Rattle.swc_ecma_parser_grammar.specs.language.Statements.{function_rule as function_declaration_rule}
use Rattle.swc_ecma_parser_grammar.specs.language.Statements.{labeled_rule, variables_rule, empty_rule, expr_rule, import_expr_rule}
use Rattle.swc_ecma_parser_grammar.specs.language.ModuleParts.{word_name_rule, no_attributes_rule}
use Rattle.swc_ecma_parser_grammar.specs.language.Imports.{comma_rule, no_more_rule, default_binding_rule, evaluation_rule, defer_rule, bare_import_rule, import_rule}
use Rattle.swc_ecma_parser_grammar.specs.language.Exports.{same_name_rule, under_name_rule, as_default_rule, braces_rule, namespace_and_braces_rule, names_rule, default_alone_rule, default_and_names_rule, export_word, export_default_words, decorated_before, decorated_behind, exported_class, default_class, default_function, export_declaration_rule, export_from_rule, export_names_rule, export_default_declaration_rule}
use Rattle.swc_ecma_parser_grammar.specs.language.ModuleItems.{statement_rule, import_item_rule, export_item_rule}
use Rattle.swc_ecma_parser_grammar.specs.language.Programs.{Spells, «module», program, module_item, entry_code, some_shebang}
use Rattle.swc_ecma_parser_grammar.proofs.Spelling.{at, t, below, named, keyword, operator, equals, start, behind, plain, a_token, a_word, a_name, operand, value}
use Rattle.swc_ecma_parser_grammar.proofs.SpellingItems.{sights, name_expression, id, bound, expr_stmt, block, module_of, whole_items}

-- nothing: the empty module
empty : Spells 0 «module» plain [] (module_of 0 0 []) (start []) (start [])
unfolding sights
empty = ((whole_items 0 true (entry_code «module» plain) [] false (start []) (start []) refl (refl, refl) refl, λ h. refl), refl)

-- ---- what makes a program a module

-- `await promise`
abbrev awaiting : Place
awaiting = start (t (keyword keyword.Await) 0 5 ∷ t (named (codes "promise")) 6 13 ∷ [])

await_at_the_top : Spells 3 program plain [] (module_of 0 13 (expr_stmt 0 13 (tree.await (at 0 13) (id 6 13 (codes "promise"))) ∷ [])) awaiting (behind 2 awaiting)
unfolding sights
await_at_the_top = (
  (
    whole_items 3 false (entry_code program plain) (_ ∷ []) true awaiting (behind 2 awaiting) refl (
      behind 2 awaiting,
      false,
      statement_rule (
        refl,
        expr_rule _ (behind 2 awaiting) refl
            (assignment_rule (operators_rule (single_rule (await_rule _ refl refl (operand_rule (operand refl), refl) refl)) refl) refl) refl (by_insertion refl refl refl) refl,
      ),
      (refl, refl),
      refl,
    )
        refl,
    λ h. refl,
  ),
  refl,
)

-- `import.meta; a`
abbrev import_meta : Place
import_meta = start (t (keyword keyword.Import) 0 6 ∷ t token.Dot 6 7 ∷ t (named (codes "meta")) 7 11 ∷ t token.Semi 11 12 ∷ t (named (codes "a")) 13 14 ∷ [])

meta_outside_functions : Spells 2 program plain [] (module_of 0 14 (expr_stmt 0 12 (tree.meta_prop (at 0 11) meta.ImportMeta) ∷ expr_stmt 13 14 (id 13 14 (codes "a")) ∷ [])) import_meta (behind 5 import_meta)
unfolding sights
meta_outside_functions = (
  (
    whole_items 2 false (entry_code program plain) (_ ∷ _ ∷ []) false import_meta (behind 5 import_meta) refl (
      behind 4 import_meta,
      false,
      statement_rule (refl, import_expr_rule _ (behind 3 import_meta) refl (assignment_rule (value (import_meta_rule refl refl refl refl refl refl, refl) refl) refl) (by_semicolon refl refl) refl),
      (behind 5 import_meta, false, statement_rule (refl, expr_rule _ (behind 5 import_meta) refl (name_expression refl) refl (by_insertion refl refl refl) refl), (refl, refl), refl),
      refl,
    )
        refl,
    λ h. refl,
  ),
  refl,
)

-- `import 'foo';`
abbrev bare_import : Place
bare_import = start (t (keyword keyword.Import) 0 6 ∷ t (token.Str (codes "foo") (codes "'foo'")) 7 12 ∷ t token.Semi 12 13 ∷ [])

an_import_alone :
    Spells 1 program plain [] (module_of 0 13 (tree.import (at 0 13) (listed []) (tree.str (at 7 12) (codes "foo") (codes "'foo'")) tree.absent phase.Evaluation ∷ [])) bare_import
    (behind 3 bare_import)
unfolding sights
an_import_alone = (
  (
    whole_items 1 false (entry_code program plain) (_ ∷ []) false bare_import (behind 3 bare_import) refl (
      behind 3 bare_import,
      false,
      import_item_rule (bare_import_rule _ _ (behind 2 bare_import) (behind 2 bare_import) refl (record { value = _; raw = _; span = _; reads = a_token; is = refl })
          (no_attributes_rule refl refl refl) (by_semicolon refl refl) refl),
      (refl, refl),
      refl,
    )
        refl,
    λ h. refl,
  ),
  refl,
)

-- `#!/usr/bin/env node` and on the next line `let x = 4`
abbrev shebang : Place
shebang =
    start (t (token.Shebang (codes "/usr/bin/env node")) 0 19 ∷ below (keyword keyword.Let) 20 23 ∷ t (named (codes "x")) 24 25 ∷ t equals 26 27 ∷ t (token.Num (codes "4")) 28 29 ∷ [])

abbrev shebang_tree : Tree
shebang_tree =
    tree.module_program (at 0 29) (listed (tree.var (at 20 29) decl.Let (listed (tree.declarator (at 24 29) (bound 24 25 (codes "x")) (tree.num (at 28 29) (codes "4")) ∷ [])) ∷ []))
    (Some (codes "/usr/bin/env node"))

behind_a_first_line : Spells 2 «module» plain [] shebang_tree shebang (behind 5 shebang)
unfolding sights
behind_a_first_line = (
  (
    record {
      shebang = _;
      first = behind 1 shebang;
      items = _ ∷ [];
      awaits = false;
      reads_shebang = some_shebang _ _ a_token;
      reads_items = (
        behind 5 shebang,
        false,
        statement_rule (
          refl,
          variables_rule decl.Let (_ ∷ []) (behind 5 shebang) refl
              (refl, (initialized_rule _ _ (behind 3 shebang) (binding_name_rule _ _ refl (a_name refl) refl) refl (value (primary_rule (number_rule _ _ a_token refl), refl) refl) refl, refl))
              (by_insertion refl refl refl) refl,
        ),
        (refl, refl),
        refl,
      );
      to_the_end = refl;
      is = refl;
    },
    λ h. refl,
  ),
  refl,
)

-- ---- imports

-- `import a, from 'x'`: nothing stands behind the comma
abbrev comma : Place
comma =
    start (t (keyword keyword.Import) 0 6 ∷ t (named (codes "a")) 7 8 ∷ t token.Comma 8 9 ∷ t (named (codes "from")) 10 14 ∷ t (token.Str (codes "x") (codes "'x'")) 15 18 ∷ [])

abbrev comma_tree : Tree
comma_tree =
    module_of 0 18 (tree.import (at 0 18) (listed (tree.import_default (at 7 8) (id 7 8 (codes "a")) ∷ [])) (tree.str (at 15 18) (codes "x") (codes "'x'")) tree.absent phase.Evaluation ∷ [])

comma_before_from : Spells 1 «module» plain [] comma_tree comma (behind 5 comma)
unfolding sights
comma_before_from = (
  (
    whole_items 1 true (entry_code «module» plain) (_ ∷ []) false comma (behind 5 comma) refl (
      behind 5 comma,
      false,
      import_item_rule (import_rule _ _ _ _ (behind 1 comma) (behind 3 comma) (behind 5 comma) (behind 5 comma) refl (evaluation_rule refl refl refl)
          (default_binding_rule _ _ [] (behind 2 comma) (a_name refl) (comma_rule refl refl refl) refl) (refl, record { value = _; raw = _; span = _; reads = a_token; is = refl })
          (no_attributes_rule refl refl refl) (by_insertion refl refl refl) refl),
      (refl, refl),
      refl,
    )
        refl,
    λ h. refl,
  ),
  refl,
)

-- `import defer from 'x'`: a name
abbrev defer : Place
defer = start (t (keyword keyword.Import) 0 6 ∷ t (named (codes "defer")) 7 12 ∷ t (named (codes "from")) 13 17 ∷ t (token.Str (codes "x") (codes "'x'")) 18 21 ∷ [])

abbrev defer_tree : Tree
defer_tree =
    module_of 0 21 (tree.import (at 0 21) (listed (tree.import_default (at 7 12) (id 7 12 (codes "defer")) ∷ [])) (tree.str (at 18 21) (codes "x") (codes "'x'")) tree.absent
    phase.Evaluation ∷ [])

defer_is_a_name : Spells 1 «module» plain [] defer_tree defer (behind 4 defer)
unfolding sights
defer_is_a_name = (
  (
    whole_items 1 true (entry_code «module» plain) (_ ∷ []) false defer (behind 4 defer) refl (
      behind 4 defer,
      false,
      import_item_rule (import_rule _ _ _ _ (behind 1 defer) (behind 2 defer) (behind 4 defer) (behind 4 defer) refl (evaluation_rule refl refl refl)
          (default_binding_rule _ _ [] (behind 2 defer) (a_name refl) (no_more_rule refl refl) refl) (refl, record { value = _; raw = _; span = _; reads = a_token; is = refl })
          (no_attributes_rule refl refl refl) (by_insertion refl refl refl) refl),
      (refl, refl),
      refl,
    )
        refl,
    λ h. refl,
  ),
  refl,
)

-- `import defer from from 'x'`: a phase, and the name `from`
abbrev defer_from : Place
defer_from =
    start (t (keyword keyword.Import) 0 6 ∷ t (named (codes "defer")) 7 12 ∷ t (named (codes "from")) 13 17 ∷ t (named (codes "from")) 18 22 ∷ t (token.Str (codes "x") (codes "'x'")) 23 26 ∷ [])

abbrev defer_from_tree : Tree
defer_from_tree =
    module_of 0 26 (tree.import (at 0 26) (listed (tree.import_default (at 13 17) (id 13 17 (codes "from")) ∷ [])) (tree.str (at 23 26) (codes "x") (codes "'x'")) tree.absent phase.Defer ∷ [])

defer_is_a_phase : Spells 1 «module» plain [] defer_from_tree defer_from (behind 5 defer_from)
unfolding sights
defer_is_a_phase = (
  (
    whole_items 1 true (entry_code «module» plain) (_ ∷ []) false defer_from (behind 5 defer_from) refl (
      behind 5 defer_from,
      false,
      import_item_rule (import_rule _ _ _ _ (behind 2 defer_from) (behind 3 defer_from) (behind 5 defer_from) (behind 5 defer_from) refl (defer_rule refl refl refl)
          (default_binding_rule _ _ [] (behind 3 defer_from) (a_name refl) (no_more_rule refl refl) refl) (refl, record { value = _; raw = _; span = _; reads = a_token; is = refl })
          (no_attributes_rule refl refl refl) (by_insertion refl refl refl) refl),
      (refl, refl),
      refl,
    )
        refl,
    λ h. refl,
  ),
  refl,
)

-- ---- exports

-- `export {}; with (a) b;`, its first item
abbrev export_nothing : Place
export_nothing =
    start (t (keyword keyword.Export) 0 6 ∷ t token.LBrace 7 8 ∷ t token.RBrace 8 9 ∷ t token.Semi 9 10 ∷ t (keyword keyword.With) 11 15 ∷ t token.LParen 16 17 ∷ t (named (codes "a")) 17 18
    ∷ t token.RParen 18 19 ∷ t (named (codes "b")) 20 21 ∷ t token.Semi 21 22 ∷ [])

an_item_alone : Spells 1 module_item plain [] (tree.export_named (at 0 10) (listed []) tree.absent tree.absent) export_nothing (behind 4 export_nothing)
unfolding sights
an_item_alone = (
  (
    export_item_rule (export_names_rule [] (behind 3 export_nothing) refl
        (names_rule (braces_rule refl (record { close = behind 2 export_nothing; opens = refl; reads_specifiers = refl; closes = refl; next = refl }))) refl (by_semicolon refl refl) refl),
    λ h. refl,
  ),
  refl,
)

-- `export default function(){};`: a function without a name, and an empty statement
abbrev a_function : Place
a_function =
    start (t (keyword keyword.Export) 0 6 ∷ t (keyword keyword.Default) 7 14 ∷ t (keyword keyword.Function) 15 23 ∷ t token.LParen 23 24 ∷ t token.RParen 24 25 ∷ t token.LBrace 25 26
    ∷ t token.RBrace 26 27 ∷ t token.Semi 27 28 ∷ [])

abbrev a_function_tree : Tree
a_function_tree =
    module_of 0 28 (tree.export_default_decl (at 0 27) (tree.fn_expr (at 15 27) tree.absent (tree.function (at 15 27) (listed []) (listed []) (block 25 27 []) false false)) ∷ tree.empty (at 27 28) ∷ [])

a_default_function : Spells 1 «module» plain [] a_function_tree a_function (behind 8 a_function)
unfolding sights
a_default_function = (
  (
    whole_items 1 true (entry_code «module» plain) (_ ∷ _ ∷ []) false a_function (behind 8 a_function) refl (
      behind 7 a_function,
      false,
      export_item_rule (export_default_declaration_rule (listed []) _ a_function (behind 2 a_function)
          (decorated_behind (behind 2 a_function) refl (export_default_words refl refl refl refl) (no_decorators refl refl))
          (default_function _ _ (record {
            is_async = false;
            is_generator = false;
            patterns = [];
            body = _;
            word = behind 2 a_function;
            behind_word = behind 3 a_function;
            behind_name = behind 3 a_function;
            reads_async = not_async refl refl;
            is_function = refl;
            reads_star = no_star refl refl;
            reads_name = no_name refl refl;
            reads_parts = record {
              middle = behind 5 a_function;
              reads_parameters = record { close = behind 4 a_function; opens = refl; reads_patterns = refl; closes = refl; next = refl };
              reads_body = record { items = []; close = behind 6 a_function; opens = refl; reads_items = refl; closes = refl; next = refl; is = refl };
            };
            is = refl;
          }) refl) refl),
      (behind 8 a_function, false, statement_rule (refl, empty_rule refl refl refl), (refl, refl), refl),
      refl,
    )
        refl,
    λ h. refl,
  ),
  refl,
)

-- `export default class {};`
abbrev a_class : Place
a_class =
    start (t (keyword keyword.Export) 0 6 ∷ t (keyword keyword.Default) 7 14 ∷ t (keyword keyword.Class) 15 20 ∷ t token.LBrace 21 22 ∷ t token.RBrace 22 23 ∷ t token.Semi 23 24 ∷ [])

abbrev a_class_tree : Tree
a_class_tree =
    module_of 0 24 (tree.export_default_decl (at 0 23) (tree.class_expr (at 15 23) tree.absent (tree.class (at 15 23) (listed []) (listed []) tree.absent)) ∷ tree.empty (at 23 24) ∷ [])

a_default_class : Spells 1 «module» plain [] a_class_tree a_class (behind 6 a_class)
unfolding sights
a_default_class = (
  (
    whole_items 1 true (entry_code «module» plain) (_ ∷ _ ∷ []) false a_class (behind 6 a_class) refl (
      behind 5 a_class,
      false,
      export_item_rule (export_default_declaration_rule (listed []) _ a_class (behind 2 a_class)
          (decorated_behind (behind 2 a_class) refl (export_default_words refl refl refl refl) (no_decorators refl refl))
          (default_class _ _ (record {
            heritage = _;
            members = [];
            behind_name = behind 3 a_class;
            opening = behind 3 a_class;
            close = behind 4 a_class;
            is_class = refl;
            reads_name = no_name refl refl;
            reads_heritage = no_heritage refl refl;
            opens = refl;
            reads_members = refl;
            closes = refl;
            next = refl;
            is = refl;
          }) refl) refl),
      (behind 6 a_class, false, statement_rule (refl, empty_rule refl refl refl), (refl, refl), refl),
      refl,
    )
        refl,
    λ h. refl,
  ),
  refl,
)

-- ---- with `export name from`

abbrev defaults_from : Code
defaults_from = record plain { setting = record plain.setting { export_default_from = true } }

-- `export default from 'bar';`
abbrev default_from : Place
default_from =
    start (t (keyword keyword.Export) 0 6 ∷ t (keyword keyword.Default) 7 14 ∷ t (named (codes "from")) 15 19 ∷ t (token.Str (codes "bar") (codes "'bar'")) 20 25 ∷ t token.Semi 25 26 ∷ [])

abbrev default_from_tree : Tree
default_from_tree =
    module_of 0 26 (tree.export_named (at 0 26) (listed (tree.export_default (id 7 14 (codes "default")) ∷ [])) (tree.str (at 20 25) (codes "bar") (codes "'bar'")) tree.absent ∷ [])

a_default_again : Spells 1 «module» defaults_from [] default_from_tree default_from (behind 5 default_from)
unfolding sights
a_default_again = (
  (
    whole_items 1 true (entry_code «module» defaults_from) (_ ∷ []) false default_from (behind 5 default_from) refl (
      behind 5 default_from,
      false,
      export_item_rule (export_from_rule false _ _ _ (behind 2 default_from) (behind 4 default_from) (behind 4 default_from) refl
          (default_alone_rule _ refl refl (as_default_rule _ refl a_word refl) refl) (refl, record { value = _; raw = _; span = _; reads = a_token; is = refl })
          (no_attributes_rule refl refl refl) (by_semicolon refl refl) refl),
      (refl, refl),
      refl,
    )
        refl,
    λ h. refl,
  ),
  refl,
)

-- `export * as foo, { bar } from "mod"`
abbrev namespace : Place
namespace =
    start (t (keyword keyword.Export) 0 6 ∷ t (operator bin.Mul) 7 8 ∷ t (named (codes "as")) 9 11 ∷ t (named (codes "foo")) 12 15 ∷ t token.Comma 15 16 ∷ t token.LBrace 17 18
    ∷ t (named (codes "bar")) 19 22 ∷ t token.RBrace 23 24 ∷ t (named (codes "from")) 25 29 ∷ t (token.Str (codes "mod") (codes "\"mod\"")) 30 35 ∷ [])

abbrev namespace_tree : Tree
namespace_tree =
    module_of 0 35 (tree.export_named (at 0 35) (listed (tree.export_namespace (at 7 15) (id 12 15 (codes "foo")) ∷ tree.export_specifier (at 19 22) (id 19 22 (codes "bar")) tree.absent ∷ []))
    (tree.str (at 30 35) (codes "mod") (codes "\"mod\"")) tree.absent ∷ [])

a_namespace_and_names : Spells 1 «module» defaults_from [] namespace_tree namespace (behind 10 namespace)
unfolding sights
a_namespace_and_names = (
  (
    whole_items 1 true (entry_code «module» defaults_from) (_ ∷ []) false namespace (behind 10 namespace) refl (
      behind 10 namespace,
      false,
      export_item_rule (export_from_rule true _ _ _ (behind 8 namespace) (behind 10 namespace) (behind 10 namespace) refl
          (names_rule (namespace_and_braces_rule _ (_ ∷ []) (behind 4 namespace) refl refl
          (record { name = _; star = refl; is_named = refl; reads_name = word_name_rule _ _ a_word refl; is = refl }) refl
          (record { close = behind 7 namespace; opens = refl; reads_specifiers = (behind 7 namespace, same_name_rule _ (word_name_rule _ _ a_word refl) refl refl, no_comma refl); closes = refl; next = refl }) refl))
          (refl, record { value = _; raw = _; span = _; reads = a_token; is = refl }) (no_attributes_rule refl refl refl) (by_insertion refl refl refl) refl),
      (refl, refl),
      refl,
    )
        refl,
    λ h. refl,
  ),
  refl,
)

-- `export foo, * as bar, { baz } from "mod"`: the namespace begins where the words behind `export` do
abbrev all_of_it : Place
all_of_it =
    start (t (keyword keyword.Export) 0 6 ∷ t (named (codes "foo")) 7 10 ∷ t token.Comma 10 11 ∷ t (operator bin.Mul) 12 13 ∷ t (named (codes "as")) 14 16 ∷ t (named (codes "bar")) 17 20
    ∷ t token.Comma 20 21 ∷ t token.LBrace 22 23 ∷ t (named (codes "baz")) 24 27 ∷ t token.RBrace 28 29 ∷ t (named (codes "from")) 30 34 ∷ t (token.Str (codes "mod") (codes "\"mod\"")) 35 40 ∷ [])

abbrev all_of_it_tree : Tree
all_of_it_tree =
    module_of 0 40 (tree.export_named (at 0 40) (listed (tree.export_default (id 7 10 (codes "foo")) ∷ tree.export_namespace (at 7 20) (id 17 20 (codes "bar"))
    ∷ tree.export_specifier (at 24 27) (id 24 27 (codes "baz")) tree.absent ∷ [])) (tree.str (at 35 40) (codes "mod") (codes "\"mod\"")) tree.absent ∷ [])

a_default_a_namespace_and_names : Spells 1 «module» defaults_from [] all_of_it_tree all_of_it (behind 12 all_of_it)
unfolding sights
a_default_a_namespace_and_names = (
  (
    whole_items 1 true (entry_code «module» defaults_from) (_ ∷ []) false all_of_it (behind 12 all_of_it) refl (
      behind 12 all_of_it,
      false,
      export_item_rule (export_from_rule true _ _ _ (behind 10 all_of_it) (behind 12 all_of_it) (behind 12 all_of_it) refl
          (default_and_names_rule _ _ (behind 2 all_of_it) refl (under_name_rule _ _ (a_name refl) refl) refl
          (namespace_and_braces_rule _ (_ ∷ []) (behind 6 all_of_it) refl refl
          (record { name = _; star = refl; is_named = refl; reads_name = word_name_rule _ _ a_word refl; is = refl }) refl
          (record { close = behind 9 all_of_it; opens = refl; reads_specifiers = (behind 9 all_of_it, same_name_rule _ (word_name_rule _ _ a_word refl) refl refl, no_comma refl); closes = refl; next = refl }) refl)
          refl)
          (refl, record { value = _; raw = _; span = _; reads = a_token; is = refl }) (no_attributes_rule refl refl refl) (by_insertion refl refl refl) refl),
      (refl, refl),
      refl,
    )
        refl,
    λ h. refl,
  ),
  refl,
)

-- ---- with decorators

abbrev decorated : Code
decorated = record plain { setting = record plain.setting { decorators = true; decorators_before_export = true } }

-- `@(function () { a: function f(){} }) export class A {}`: the decorator is read as the code before the export, which is not strict
abbrev before_export : Place
before_export =
    start (t token.At 0 1 ∷ t token.LParen 1 2 ∷ t (keyword keyword.Function) 2 10 ∷ t token.LParen 11 12 ∷ t token.RParen 12 13 ∷ t token.LBrace 14 15 ∷ t (named (codes "a")) 16 17
    ∷ t token.Colon 17 18 ∷ t (keyword keyword.Function) 19 27 ∷ t (named (codes "f")) 28 29 ∷ t token.LParen 29 30 ∷ t token.RParen 30 31 ∷ t token.LBrace 31 32 ∷ t token.RBrace 32 33
    ∷ t token.RBrace 34 35 ∷ t token.RParen 35 36 ∷ t (keyword keyword.Export) 37 43 ∷ t (keyword keyword.Class) 44 49 ∷ t (named (codes "A")) 50 51 ∷ t token.LBrace 52 53 ∷ t token.RBrace 53 54 ∷ [])

abbrev a_plain_function : ℕ → ℕ → ℕ → List Tree → Tree
a_plain_function lo body hi xs = tree.function (at lo hi) (listed []) (listed []) (block body hi xs) false false

abbrev before_export_tree : Tree
before_export_tree =
    module_of 0 54 (tree.export_decl (at 37 54) (tree.class_decl (id 50 51 (codes "A")) (tree.class (at 44 54)
    (listed (tree.decorator (at 0 36) (tree.fn_expr (at 2 35) tree.absent (a_plain_function 2 14 35
    (tree.labeled (at 16 33) (id 16 17 (codes "a")) (tree.fn_decl (id 28 29 (codes "f")) (a_plain_function 19 31 33 [])) ∷ []))) ∷ []))
    (listed []) tree.absent)) ∷ [])

decorated_before_export : Spells 4 program decorated [] before_export_tree before_export (behind 21 before_export)
unfolding sights
decorated_before_export = (
  (
    whole_items 4 false (entry_code program decorated) (_ ∷ []) false before_export (behind 21 before_export) refl (
      behind 21 before_export,
      false,
      export_item_rule (export_declaration_rule _ _ (behind 16 before_export) (behind 17 before_export)
          (decorated_before refl (some_decorators _ [] refl (
            behind 16 before_export,
            decorator_rule _ refl (group_rule (record {
              close = behind 15 before_export;
              opens = refl;
              reads_expression = assignment_rule (value (
                primary_rule (function_rule _ _ (record {
                  is_async = false;
                  is_generator = false;
                  patterns = [];
                  body = _;
                  word = behind 2 before_export;
                  behind_word = behind 3 before_export;
                  behind_name = behind 3 before_export;
                  reads_async = not_async refl refl;
                  is_function = refl;
                  reads_star = no_star refl refl;
                  reads_name = no_name refl refl;
                  reads_parts = record {
                    middle = behind 5 before_export;
                    reads_parameters = record { close = behind 4 before_export; opens = refl; reads_patterns = refl; closes = refl; next = refl };
                    reads_body = record {
                      items = _ ∷ [];
                      close = behind 14 before_export;
                      opens = refl;
                      reads_items = (
                        behind 14 before_export,
                        (
                          refl,
                          labeled_rule _ _ _ (behind 7 before_export) (a_name refl) refl (
                            refl,
                            function_declaration_rule (listed []) _ _ (behind 8 before_export) (no_decorators refl refl) refl (record {
                              is_async = false;
                              is_generator = false;
                              patterns = [];
                              body = _;
                              word = behind 8 before_export;
                              behind_word = behind 9 before_export;
                              behind_name = behind 10 before_export;
                              reads_async = not_async refl refl;
                              is_function = refl;
                              reads_star = no_star refl refl;
                              reads_name = given_name _ _ (a_name refl) refl;
                              reads_parts = record {
                                middle = behind 12 before_export;
                                reads_parameters = record { close = behind 11 before_export; opens = refl; reads_patterns = refl; closes = refl; next = refl };
                                reads_body = record { items = []; close = behind 13 before_export; opens = refl; reads_items = refl; closes = refl; next = refl; is = refl };
                              };
                              is = refl;
                            }) refl refl,
                          )
                              refl,
                        ),
                        refl,
                      );
                      closes = refl;
                      next = refl;
                      is = refl;
                    };
                  };
                  is = refl;
                }) refl),
                refl,
              ) refl) refl;
              closes = refl;
              next = refl;
            }) refl) refl,
            refl,
          ) refl) refl (export_word refl refl refl))
          (exported_class _ _ (record {
            heritage = _;
            members = [];
            behind_name = behind 19 before_export;
            opening = behind 19 before_export;
            close = behind 20 before_export;
            is_class = refl;
            reads_name = given_name _ _ (a_name refl) refl;
            reads_heritage = no_heritage refl refl;
            opens = refl;
            reads_members = refl;
            closes = refl;
            next = refl;
            is = refl;
          }) refl refl) refl),
      (refl, refl),
      refl,
    )
        refl,
    λ h. refl,
  ),
  refl,
)
