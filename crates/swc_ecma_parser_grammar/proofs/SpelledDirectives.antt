-- Texts with strings that stand first in a body, or behind others: what they spell, and which faults they have.
use Rattle.std.proofs.Common.{◌≡◌, ℕ, true, false, [], ◌∷◌, refl}
use Rattle.std.specs.Prelude.{codes}
use Rattle.swc_ecma_parser_error.specs.Kind as fault
use Rattle.swc_ecma_parser_token.specs.declared.keyword.Keyword.TheVariants as keyword
use Rattle.swc_ecma_parser_token.specs.declared.token.Token.{Token}
use Rattle.swc_ecma_parser_token.specs.declared.token.Token.TheVariants as token
use Rattle.swc_ecma_parser_input.specs.Place.{Place}
use Rattle.swc_ecma_parser_model.specs.declared.leaves.VarDeclKind.TheVariants as decl
use Rattle.swc_ecma_parser_model.specs.Tree as tree
use Rattle.swc_ecma_parser_model.specs.Tree.{Tree, listed}
use Rattle.swc_ecma_parser_grammar.specs.Ends.{by_semicolon}
use Rattle.swc_ecma_parser_grammar.specs.Follows.{no_star, not_async}
use Rattle.swc_ecma_parser_grammar.specs.Names.{is_clean_name, is_identifier, is_reserved}
use Rattle.swc_ecma_parser_grammar.specs.Walk.{walk, env_of}
use Rattle.swc_ecma_parser_grammar.specs.language.Classes.{no_decorators}
use Rattle.swc_ecma_parser_grammar.specs.language.Contexts.{in_strict}
use Rattle.swc_ecma_parser_grammar.specs.language.Declarations.{plain_rule}
use Rattle.swc_ecma_parser_grammar.specs.language.Expressions.{assignment_rule}
use Rattle.swc_ecma_parser_grammar.specs.language.Items.{directed, directs_on}
use Rattle.swc_ecma_parser_grammar.specs.language.LeftSides.{string_rule, primary_rule}
use Rattle.swc_ecma_parser_grammar.specs.language.Parts.{a_name as given_name}
use Rattle.swc_ecma_parser_grammar.specs.language.Patterns.{binding_name_rule}
use Rattle.swc_ecma_parser_grammar.specs.language.Programs.{Spells, script, entry_code, ReadsEntry}
use Rattle.swc_ecma_parser_grammar.specs.language.Statements.{function_rule, variables_rule, labeled_rule, expr_rule}
use Rattle.swc_ecma_parser_grammar.proofs.Spelling.{at, t, named, keyword as word, start, behind, plain, a_token, a_name, value}
use Rattle.swc_ecma_parser_grammar.proofs.SpellingItems.{sights, name_expression, id, bound, expr_stmt, block, script_of, script_read, whole_script}
use Rattle.swc_ecma_parser_grammar.proofs.SpellingParts.{no_parameters, empty_parts}

abbrev use_strict : Token
use_strict = token.Str (codes "use strict") (codes "'use strict'")

-- the statement, with its `;`
abbrev strict_stmt : ℕ → ℕ → ℕ → Tree
strict_stmt lo hi end = expr_stmt lo end (tree.str (at lo hi) (codes "use strict") (codes "'use strict'"))

-- ---- `function f() { a; 'use strict'; var public; }`: behind another statement it is no directive, and `public` is a name

abbrev behind_others : Place
behind_others =
    start (t (word keyword.Function) 0 8 ∷ t (named (codes "f")) 9 10 ∷ t token.LParen 10 11 ∷ t token.RParen 11 12 ∷ t token.LBrace 13 14 ∷ t (named (codes "a")) 15 16 ∷ t token.Semi 16 17
    ∷ t use_strict 18 30 ∷ t token.Semi 30 31 ∷ t (word keyword.Var) 32 35 ∷ t (named (codes "public")) 36 42 ∷ t token.Semi 42 43 ∷ t token.RBrace 44 45 ∷ [])

abbrev public_declared : Tree
public_declared = tree.var (at 32 43) decl.Var (listed (tree.declarator (at 36 42) (bound 36 42 (codes "public")) tree.absent ∷ []))

abbrev others_body : Tree
others_body = block 13 45 (expr_stmt 15 17 (id 15 16 (codes "a")) ∷ strict_stmt 18 30 31 ∷ public_declared ∷ [])

no_directive_behind_others : Spells 3 script plain []
    (script_of 0 45 (tree.fn_decl (id 9 10 (codes "f")) (tree.function (at 0 45) (listed []) (listed []) others_body false false) ∷ [])) behind_others (behind 13 behind_others)
unfolding sights
no_directive_behind_others =
    whole_script 3 plain (_ ∷ []) behind_others (behind 13 behind_others) refl (
      behind 13 behind_others,
      (
        refl,
        function_rule _ _ _ _ (no_decorators refl refl) refl (record {
          is_async = false;
          is_generator = false;
          patterns = [];
          body = others_body;
          word = behind_others;
          behind_word = behind 1 behind_others;
          behind_name = behind 2 behind_others;
          reads_async = not_async refl refl;
          is_function = refl;
          reads_star = no_star refl refl;
          reads_name = given_name _ _ (a_name refl) refl;
          reads_parts = record {
            middle = behind 4 behind_others;
            reads_parameters = no_parameters (behind 2 behind_others) refl refl;
            reads_body = record {
              items = _ ∷ _ ∷ _ ∷ [];
              close = behind 12 behind_others;
              opens = refl;
              reads_items = (
                behind 7 behind_others,
                (refl, expr_rule _ (behind 6 behind_others) refl (name_expression refl) refl (by_semicolon refl refl) refl),
                (
                  behind 9 behind_others,
                  (
                    refl,
                    expr_rule _ (behind 8 behind_others) refl (assignment_rule (value (primary_rule (string_rule _ _ _ a_token refl), refl) refl) refl) refl (by_semicolon refl refl) refl,
                  ),
                  (
                    behind 12 behind_others,
                    (
                      refl,
                      variables_rule decl.Var (_ ∷ []) (behind 11 behind_others) refl (refl, (plain_rule _ (binding_name_rule _ _ refl (a_name refl) refl) refl refl refl, refl))
                          (by_semicolon refl refl) refl,
                    ),
                    refl,
                  ),
                ),
              );
              closes = refl;
              next = refl;
              is = refl;
            };
          };
          is = refl;
        }) refl refl,
      ),
      refl,
    )
    refl refl

-- ---- `'x'; 'use strict'; a: function f(){}`: each string that stands first is a directive

abbrev second_string : Place
second_string =
    start (t (token.Str (codes "x") (codes "'x'")) 0 3 ∷ t token.Semi 3 4 ∷ t use_strict 5 17 ∷ t token.Semi 17 18 ∷ t (named (codes "a")) 19 20 ∷ t token.Colon 20 21 ∷ t (word keyword.Function) 22 30
    ∷ t (named (codes "f")) 31 32 ∷ t token.LParen 32 33 ∷ t token.RParen 33 34 ∷ t token.LBrace 34 35 ∷ t token.RBrace 35 36 ∷ [])

abbrev first_string : Tree
first_string = expr_stmt 0 4 (tree.str (at 0 3) (codes "x") (codes "'x'"))

abbrev second_string_tree : Tree
second_string_tree =
    script_of 0 36 (first_string ∷ strict_stmt 5 17 18
    ∷ tree.labeled (at 19 36) (id 19 20 (codes "a")) (tree.fn_decl (id 31 32 (codes "f")) (tree.function (at 22 36) (listed []) (listed []) (block 34 36 []) false false)) ∷ [])

labelled_behind_both : ReadsEntry 3 script plain second_string_tree second_string (behind 12 second_string)
    × (walk (env_of (entry_code script plain) []) second_string_tree ≡ record { span = at 22 36; kind = fault.LabelledFunctionInStrict } ∷ [])
unfolding sights
labelled_behind_both = (
  script_read 3 plain (_ ∷ _ ∷ _ ∷ []) second_string (behind 12 second_string) refl (
    behind 2 second_string,
    (refl, expr_rule _ (behind 1 second_string) refl (assignment_rule (value (primary_rule (string_rule _ _ _ a_token refl), refl) refl) refl) refl (by_semicolon refl refl) refl),
    (
      behind 4 second_string,
      (refl, expr_rule _ (behind 3 second_string) refl (assignment_rule (value (primary_rule (string_rule _ _ _ a_token refl), refl) refl) refl) refl (by_semicolon refl refl) refl),
      (
        behind 12 second_string,
        (
          refl,
          labeled_rule _ _ _ (behind 5 second_string) (a_name refl) refl (
            refl,
            function_rule _ _ _ _ (no_decorators refl refl) refl (record {
              is_async = false;
              is_generator = false;
              patterns = [];
              body = block 34 36 [];
              word = behind 6 second_string;
              behind_word = behind 7 second_string;
              behind_name = behind 8 second_string;
              reads_async = not_async refl refl;
              is_function = refl;
              reads_star = no_star refl refl;
              reads_name = given_name _ _ (a_name refl) refl;
              reads_parts = empty_parts (behind 8 second_string) refl refl refl refl;
              is = refl;
            }) refl refl,
          ) refl,
        ),
        refl,
      ),
    ),
  )
      refl,
  refl,
)

-- ---- in a body with directives: `'x'; 'use strict';` makes strict what stands behind it, and there `public` is no name

strict_behind_both : directed (directed plain true first_string) (directs_on true first_string) (strict_stmt 5 17 18) ≡ in_strict plain
strict_behind_both = refl

-- behind `a; 'use strict';` it is not
plain_behind_others : directed (directed plain true public_declared) (directs_on true public_declared) (strict_stmt 18 30 31) ≡ plain
plain_behind_others = refl

no_strict_name : is_clean_name (in_strict plain).flags (codes "public") ≡ false
unfolding is_clean_name is_identifier is_reserved
no_strict_name = refl

a_plain_name : is_clean_name plain.flags (codes "public") ≡ true
unfolding is_clean_name is_identifier is_reserved
a_plain_name = refl
