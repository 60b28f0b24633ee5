-- Lists that are read, with the faults that the walk finds in their trees.
use Rattle.std.proofs.Common.{◌≡◌, ℕ, true, false, List, [], ◌∷◌, refl}
use Rattle.std.specs.Prelude.{codes}
use Rattle.swc_ecma_parser_error.specs.Kind as fault
use Rattle.swc_ecma_parser_error.specs.Kind.{Kind, Fault}
use Rattle.swc_ecma_parser_token.specs.declared.keyword.Keyword.TheVariants as keyword
use Rattle.swc_ecma_parser_token.specs.declared.token.Token.TheVariants as token
use Rattle.swc_ecma_parser_input.specs.Place.{Place}
use Rattle.swc_ecma_parser_model.specs.declared.leaves.VarDeclKind.TheVariants as decl
use Rattle.swc_ecma_parser_model.specs.Tree as tree
use Rattle.swc_ecma_parser_model.specs.Tree.{Tree, listed}
use Rattle.swc_ecma_parser_grammar.specs.Ends.{by_semicolon}
use Rattle.swc_ecma_parser_grammar.specs.Walk.{walk, env_of}
use Rattle.swc_ecma_parser_grammar.specs.Follows.{no_await}
use Rattle.swc_ecma_parser_grammar.specs.language.Lists.{no_comma}
use Rattle.swc_ecma_parser_grammar.specs.language.LeftSides.{number_rule, primary_rule}
use Rattle.swc_ecma_parser_grammar.specs.language.Patterns.{binding_name_rule}
use Rattle.swc_ecma_parser_grammar.specs.language.Expressions.{assignment_rule}
use Rattle.swc_ecma_parser_grammar.specs.language.Declarations.{plain_rule}
use Rattle.swc_ecma_parser_grammar.specs.language.ForHeads.{declared_rule, of_left_rule}
use Rattle.swc_ecma_parser_grammar.specs.language.Statements.{case_clause_rule, default_clause_rule, no_target_rule, empty_rule, labeled_rule, break_rule, continue_rule, switch_rule, for_of_rule}
use Rattle.swc_ecma_parser_grammar.specs.language.ModuleParts.{word_name_rule, string_name_rule}
use Rattle.swc_ecma_parser_grammar.specs.language.Exports.{same_name_rule, other_name_rule, braces_rule, names_rule, export_names_rule}
use Rattle.swc_ecma_parser_grammar.specs.language.ModuleItems.{export_item_rule}
use Rattle.swc_ecma_parser_grammar.specs.language.Programs.{Entry, script, «module», entry_code, ReadsEntry}
use Rattle.swc_ecma_parser_grammar.proofs.Spelling.{at, t, named, keyword, start, behind, plain, a_token, a_word, a_name, name_value, value}
use Rattle.swc_ecma_parser_grammar.proofs.SpellingItems.{sights, name_expression, id, bound, script_of, module_of, script_read, whole_items}

abbrev is_fault : Kind → ℕ → ℕ → Fault
is_fault k lo hi = record { span = at lo hi; kind = k }

-- it is read, and has these faults
abbrev Has : ℕ → Entry → Tree → Place → Place → List Fault → Type 0
Has n entry x c d faults = ReadsEntry n entry plain x c d × (walk (env_of (entry_code entry plain) []) x ≡ faults)

-- `a: a: a: ;`
abbrev labels : Place
labels =
    start (t (named (codes "a")) 0 1 ∷ t token.Colon 1 2 ∷ t (named (codes "a")) 3 4 ∷ t token.Colon 4 5 ∷ t (named (codes "a")) 6 7 ∷ t token.Colon 7 8 ∷ t token.Semi 9 10 ∷ [])

abbrev labels_tree : Tree
labels_tree =
    script_of 0 10 (tree.labeled (at 0 10) (id 0 1 (codes "a")) (tree.labeled (at 3 10) (id 3 4 (codes "a")) (tree.labeled (at 6 10) (id 6 7 (codes "a")) (tree.empty (at 9 10)))) ∷ [])

equal_labels : Has 4 script labels_tree labels (behind 7 labels) (is_fault fault.DuplicateLabel 6 7 ∷ is_fault fault.DuplicateLabel 6 7 ∷ is_fault fault.DuplicateLabel 3 4 ∷ [])
unfolding sights
equal_labels = (
  script_read 4 plain (_ ∷ []) labels (behind 7 labels) refl (
    behind 7 labels,
    (
      refl,
      labeled_rule _ _ _ (behind 1 labels) (a_name refl) refl (
        refl,
        labeled_rule _ _ _ (behind 3 labels) (a_name refl) refl
            (refl, labeled_rule _ _ _ (behind 5 labels) (a_name refl) refl (refl, empty_rule refl refl refl) refl) refl,
      ) refl,
    ),
    refl,
  )
      refl,
  refl,
)

-- `for (var a, b of c) ;`
abbrev two_variables : Place
two_variables =
    start (t (keyword keyword.For) 0 3 ∷ t token.LParen 4 5 ∷ t (keyword keyword.Var) 5 8 ∷ t (named (codes "a")) 9 10 ∷ t token.Comma 10 11 ∷ t (named (codes "b")) 12 13
    ∷ t (named (codes "of")) 14 16 ∷ t (named (codes "c")) 17 18 ∷ t token.RParen 18 19 ∷ t token.Semi 20 21 ∷ [])

abbrev two_variables_tree : Tree
two_variables_tree =
    script_of 0 21 (tree.for_of (at 0 21) false (tree.var (at 5 13) decl.Var (listed (tree.declarator (at 9 10) (bound 9 10 (codes "a")) tree.absent
    ∷ tree.declarator (at 12 13) (bound 12 13 (codes "b")) tree.absent ∷ []))) (id 17 18 (codes "c")) (tree.empty (at 20 21)) ∷ [])

too_many_variables : Has 2 script two_variables_tree two_variables (behind 10 two_variables) (is_fault fault.TooManyVarInForInHead 12 13 ∷ [])
unfolding sights
too_many_variables = (
  script_read 2 plain (_ ∷ []) two_variables (behind 10 two_variables) refl (
    behind 10 two_variables,
    (
      refl,
      for_of_rule false _ _ _ (behind 1 two_variables) (behind 6 two_variables) (behind 8 two_variables) refl (no_await refl refl) refl
          (of_left_rule (declared_rule (record {
            word = decl.Var;
            declarators = _ ∷ _ ∷ [];
            reads = (
              refl,
              (
                behind 4 two_variables,
                plain_rule _ (binding_name_rule _ _ refl (a_name refl) refl) refl refl refl,
                refl,
                (plain_rule _ (binding_name_rule _ _ refl (a_name refl) refl) refl refl refl, refl),
              ),
            );
            is = refl;
          })) refl)
          refl (name_value refl) refl (refl, empty_rule refl refl refl) refl,
    ),
    refl,
  )
      refl,
  refl,
)

-- `switch (a) { case 1: break; default: continue; }`
abbrev clauses : Place
clauses =
    start (t (keyword keyword.Switch) 0 6 ∷ t token.LParen 7 8 ∷ t (named (codes "a")) 8 9 ∷ t token.RParen 9 10 ∷ t token.LBrace 11 12 ∷ t (keyword keyword.Case) 13 17
    ∷ t (token.Num (codes "1")) 18 19 ∷ t token.Colon 19 20 ∷ t (keyword keyword.Break) 21 26 ∷ t token.Semi 26 27 ∷ t (keyword keyword.Default) 28 35 ∷ t token.Colon 35 36
    ∷ t (keyword keyword.Continue) 37 45 ∷ t token.Semi 45 46 ∷ t token.RBrace 47 48 ∷ [])

abbrev clauses_tree : Tree
clauses_tree =
    script_of 0 48 (tree.switch (at 0 48) (id 8 9 (codes "a")) (listed (tree.case (at 13 27) (tree.num (at 18 19) (codes "1")) (listed (tree.break (at 21 27) tree.absent ∷ []))
    ∷ tree.case (at 28 46) tree.absent (listed (tree.continue (at 37 46) tree.absent ∷ [])) ∷ [])) ∷ [])

nothing_to_continue : Has 2 script clauses_tree clauses (behind 15 clauses) (is_fault fault.TS1115 37 46 ∷ [])
unfolding sights
nothing_to_continue = (
  script_read 2 plain (_ ∷ []) clauses (behind 15 clauses) refl (
    behind 15 clauses,
    (
      refl,
      switch_rule _ (_ ∷ _ ∷ []) (behind 4 clauses) (behind 14 clauses) refl (record { close = behind 3 clauses; opens = refl; reads = name_expression refl; closes = refl; next = refl }) refl (
        behind 10 clauses,
        case_clause_rule _ (_ ∷ []) (behind 7 clauses) refl (assignment_rule (value (primary_rule (number_rule _ _ a_token refl), refl) refl) refl) refl
            (behind 10 clauses, (refl, break_rule _ (behind 9 clauses) refl (no_target_rule refl refl refl) (by_semicolon refl refl) refl), refl) refl,
        (
          behind 14 clauses,
          default_clause_rule (_ ∷ []) refl refl
              (behind 14 clauses, (refl, continue_rule _ (behind 13 clauses) refl (no_target_rule refl refl refl) (by_semicolon refl refl) refl), refl) refl,
          refl,
        ),
      )
          refl refl refl refl,
    ),
    refl,
  )
      refl,
  refl,
)

-- `export { if, 'a' as b };`
abbrev reserved_names : Place
reserved_names =
    start (t (keyword keyword.Export) 0 6 ∷ t token.LBrace 7 8 ∷ t (keyword keyword.If) 9 11 ∷ t token.Comma 11 12 ∷ t (token.Str (codes "a") (codes "'a'")) 13 16 ∷ t (named (codes "as")) 17 19
    ∷ t (named (codes "b")) 20 21 ∷ t token.RBrace 22 23 ∷ t token.Semi 23 24 ∷ [])

abbrev reserved_names_tree : Tree
reserved_names_tree =
    module_of 0 24 (tree.export_named (at 0 24) (listed (tree.export_specifier (at 9 11) (id 9 11 (codes "if")) tree.absent
    ∷ tree.export_specifier (at 13 21) (tree.str (at 13 16) (codes "a") (codes "'a'")) (id 20 21 (codes "b")) ∷ [])) tree.absent tree.absent ∷ [])

exported_without_a_source : Has 1 «module» reserved_names_tree reserved_names (behind 9 reserved_names) (is_fault fault.ExportExpectFrom 9 11 ∷ is_fault fault.ExportBindingIsString 13 16 ∷ [])
unfolding sights
exported_without_a_source = (
  (
    whole_items 1 true (entry_code «module» plain) (_ ∷ []) false reserved_names (behind 9 reserved_names) refl (
      behind 9 reserved_names,
      false,
      export_item_rule (export_names_rule (_ ∷ _ ∷ []) (behind 8 reserved_names) refl
          (names_rule (braces_rule refl (record {
            close = behind 7 reserved_names;
            opens = refl;
            reads_specifiers = (
              behind 3 reserved_names,
              same_name_rule _ (word_name_rule _ _ a_word refl) refl refl,
              refl,
              refl,
              (
                behind 7 reserved_names,
                other_name_rule _ _ (behind 5 reserved_names) (string_name_rule (record { value = _; raw = _; span = _; reads = a_token; is = refl })) refl
                    (word_name_rule _ _ a_word refl) refl,
                no_comma refl,
              ),
            );
            closes = refl;
            next = refl;
          })))
          refl (by_semicolon refl refl) refl),
      (refl, refl),
      refl,
    )
        refl,
    λ h. refl,
  ),
  refl,
)
