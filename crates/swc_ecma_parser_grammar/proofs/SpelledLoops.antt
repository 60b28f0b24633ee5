-- Loops that lists of tokens spell, each with the tree that is known by hand.
use Rattle.std.proofs.Common.{true, [], ◌∷◌, refl, arith}
use Rattle.std.specs.Prelude.{codes}
use Rattle.swc_ecma_parser_token.specs.declared.keyword.Keyword.TheVariants as keyword
use Rattle.swc_ecma_parser_token.specs.declared.operator.BinOpToken.TheVariants as bin
use Rattle.swc_ecma_parser_token.specs.declared.token.Token.TheVariants as token
use Rattle.swc_ecma_parser_input.specs.Place.{Place}
use Rattle.swc_ecma_parser_model.specs.declared.leaves.VarDeclKind.TheVariants as decl
use Rattle.swc_ecma_parser_model.specs.declared.operators.BinaryOp.TheVariants as binary
use Rattle.swc_ecma_parser_model.specs.Tree as tree
use Rattle.swc_ecma_parser_model.specs.Tree.{Tree, listed}
use Rattle.swc_ecma_parser_grammar.specs.Ends.{by_semicolon, by_insertion, by_nothing}
use Rattle.swc_ecma_parser_grammar.specs.Follows.{await_word}
use Rattle.swc_ecma_parser_grammar.specs.language.LeftSides.{number_rule, object_rule, primary_rule}
use Rattle.swc_ecma_parser_grammar.specs.language.Patterns.{binding_name_rule}
use Rattle.swc_ecma_parser_grammar.specs.language.Expressions.{left_rule, operators_rule, assignment_rule}
use Rattle.swc_ecma_parser_grammar.specs.language.Declarations.{plain_rule, initialized_rule}
use Rattle.swc_ecma_parser_grammar.specs.language.ForHeads.{no_init_rule, no_part_rule, part_rule, declared_rule, of_left_rule}
use Rattle.swc_ecma_parser_grammar.specs.language.Statements.{if_rule, else_rule, no_target_rule, block_rule, empty_rule, break_rule, continue_rule, if_statement_rule, while_rule, do_while_rule, for_rule, for_in_rule, for_of_rule, expr_rule}
use Rattle.swc_ecma_parser_grammar.specs.language.Programs.{Spells, script, stmt}
use Rattle.swc_ecma_parser_grammar.proofs.Spelling.{at, t, named, keyword, operator, equals, start, behind, plain, a_token, a_name, one, value, name_value}
use Rattle.swc_ecma_parser_grammar.proofs.SpellingItems.{sights, name_expression, id, bound, expr_stmt, block, script_of, whole_script}

-- `while (a) { if (b) break; else continue; }`
abbrev loop : Place
loop =
    start (t (keyword keyword.While) 0 5 ∷ t token.LParen 6 7 ∷ t (named (codes "a")) 7 8 ∷ t token.RParen 8 9 ∷ t token.LBrace 10 11 ∷ t (keyword keyword.If) 12 14 ∷ t token.LParen 15 16
    ∷ t (named (codes "b")) 16 17 ∷ t token.RParen 17 18 ∷ t (keyword keyword.Break) 19 24 ∷ t token.Semi 24 25 ∷ t (keyword keyword.Else) 26 30 ∷ t (keyword keyword.Continue) 31 39
    ∷ t token.Semi 39 40 ∷ t token.RBrace 41 42 ∷ [])

abbrev loop_tree : Tree
loop_tree =
    script_of 0 42 (tree.while (at 0 42) (id 7 8 (codes "a")) (block 10 42 (tree.if_stmt (at 12 40) (id 16 17 (codes "b")) (tree.break (at 19 25) tree.absent)
    (tree.continue (at 31 40) tree.absent) ∷ [])) ∷ [])

break_and_continue : Spells 4 script plain [] loop_tree loop (behind 15 loop)
unfolding sights
break_and_continue =
    whole_script 4 plain (_ ∷ []) loop (behind 15 loop) refl (
      behind 15 loop,
      (
        refl,
        while_rule _ _ (behind 4 loop) refl (record { close = behind 3 loop; opens = refl; reads = name_expression refl; closes = refl; next = refl }) (
          refl,
          block_rule (record {
            items = _ ∷ [];
            close = behind 14 loop;
            opens = refl;
            reads_items = (
              behind 14 loop,
              (
                refl,
                if_statement_rule (if_rule _ _ _ (behind 9 loop) (behind 11 loop) refl
                    (record { close = behind 8 loop; opens = refl; reads = name_expression refl; closes = refl; next = refl })
                    (refl, break_rule _ (behind 10 loop) refl (no_target_rule refl refl refl) (by_semicolon refl refl) refl)
                    (else_rule refl refl (refl, continue_rule _ (behind 13 loop) refl (no_target_rule refl refl refl) (by_semicolon refl refl) refl))
                    refl),
              ),
              refl,
            );
            closes = refl;
            next = refl;
            is = refl;
          }),
        ) refl,
      ),
      refl,
    )
    refl refl

-- `do a; while (b) c`: its end is demanded nowhere
abbrev do_while : Place
do_while =
    start (t (keyword keyword.Do) 0 2 ∷ t (named (codes "a")) 3 4 ∷ t token.Semi 4 5 ∷ t (keyword keyword.While) 6 11 ∷ t token.LParen 12 13 ∷ t (named (codes "b")) 13 14 ∷ t token.RParen 14 15
    ∷ t (named (codes "c")) 16 17 ∷ [])

abbrev do_while_tree : Tree
do_while_tree = script_of 0 17 (tree.do_while (at 0 15) (id 13 14 (codes "b")) (expr_stmt 3 5 (id 3 4 (codes "a"))) ∷ expr_stmt 16 17 (id 16 17 (codes "c")) ∷ [])

ends_anywhere : Spells 3 script plain [] do_while_tree do_while (behind 8 do_while)
unfolding sights
ends_anywhere =
    whole_script 3 plain (_ ∷ _ ∷ []) do_while (behind 8 do_while) refl (
      behind 7 do_while,
      (
        refl,
        do_while_rule _ _ (behind 3 do_while) (behind 7 do_while) refl
            (refl, expr_rule _ (behind 2 do_while) refl (name_expression refl) refl (by_semicolon refl refl) refl) refl
            (record { close = behind 6 do_while; opens = refl; reads = name_expression refl; closes = refl; next = refl }) (by_nothing refl refl) refl,
      ),
      (behind 8 do_while, (refl, expr_rule _ (behind 8 do_while) refl (name_expression refl) refl (by_insertion refl refl refl) refl), refl),
    )
    refl refl

-- `for ( ; { } / 1 ; ) ;`: a head's parts may begin with a brace
abbrev for_object : Place
for_object =
    start (t (keyword keyword.For) 0 3 ∷ t token.LParen 4 5 ∷ t token.Semi 6 7 ∷ t token.LBrace 8 9 ∷ t token.RBrace 10 11 ∷ t (operator bin.Div) 12 13 ∷ t (token.Num (codes "1")) 14 15
    ∷ t token.Semi 16 17 ∷ t token.RParen 18 19 ∷ t token.Semi 20 21 ∷ [])

abbrev for_object_tree : Tree
for_object_tree =
    script_of 0 21 (tree.for (at 0 21) tree.absent (tree.bin (at 8 15) binary.Div (tree.object (at 8 11) (listed [])) (tree.num (at 14 15) (codes "1"))) tree.absent (tree.empty (at 20 21)) ∷ [])

object_in_a_head : Spells 3 script plain [] for_object_tree for_object (behind 10 for_object)
unfolding sights
object_in_a_head =
    whole_script 3 plain (_ ∷ []) for_object (behind 10 for_object) refl (
      behind 10 for_object,
      (
        refl,
        for_rule _ _ _ _ (behind 2 for_object) (behind 7 for_object) (behind 8 for_object) refl refl (no_init_rule refl refl refl) refl
            (part_rule (assignment_rule (operators_rule (left_rule binary.Div _ _ (behind 5 for_object) (omega arith) refl refl
            (one (primary_rule (object_rule [] (behind 4 for_object) refl refl refl refl refl), refl)) refl
            (one (primary_rule (number_rule _ _ a_token refl), refl), refl) refl refl refl) refl) refl))
            refl (no_part_rule refl refl) refl (refl, empty_rule refl refl refl) refl,
      ),
      refl,
    )
    refl refl

-- `for (var i = 0 in {}) ;`: in the initializer `in` is no operator
abbrev for_in : Place
for_in =
    start (t (keyword keyword.For) 0 3 ∷ t token.LParen 4 5 ∷ t (keyword keyword.Var) 5 8 ∷ t (named (codes "i")) 9 10 ∷ t equals 11 12 ∷ t (token.Num (codes "0")) 13 14 ∷ t (keyword keyword.In) 15 17
    ∷ t token.LBrace 18 19 ∷ t token.RBrace 19 20 ∷ t token.RParen 20 21 ∷ t token.Semi 22 23 ∷ [])

abbrev for_in_tree : Tree
for_in_tree =
    script_of 0 23 (tree.for_in (at 0 23) (tree.var (at 5 14) decl.Var (listed (tree.declarator (at 9 14) (bound 9 10 (codes "i")) (tree.num (at 13 14) (codes "0")) ∷ [])))
    (tree.object (at 18 20) (listed [])) (tree.empty (at 22 23)) ∷ [])

initialized_before_in : Spells 2 script plain [] for_in_tree for_in (behind 11 for_in)
unfolding sights
initialized_before_in =
    whole_script 2 plain (_ ∷ []) for_in (behind 11 for_in) refl (
      behind 11 for_in,
      (
        refl,
        for_in_rule _ _ _ (behind 6 for_in) (behind 9 for_in) refl refl
            (declared_rule (record {
              word = decl.Var;
              declarators = _ ∷ [];
              reads = (
                refl,
                (initialized_rule _ _ (behind 4 for_in) (binding_name_rule _ _ refl (a_name refl) refl) refl (value (primary_rule (number_rule _ _ a_token refl), refl) refl) refl, refl),
              );
              is = refl;
            }))
            refl (assignment_rule (value (primary_rule (object_rule [] (behind 8 for_in) refl refl refl refl refl), refl) refl) refl) refl (refl, empty_rule refl refl refl) refl,
      ),
      refl,
    )
    refl refl

-- `for await (const a of b) ;`, as a statement
abbrev for_await : Place
for_await =
    start (t (keyword keyword.For) 0 3 ∷ t (keyword keyword.Await) 4 9 ∷ t token.LParen 10 11 ∷ t (keyword keyword.Const) 11 16 ∷ t (named (codes "a")) 17 18 ∷ t (named (codes "of")) 19 21
    ∷ t (named (codes "b")) 22 23 ∷ t token.RParen 23 24 ∷ t token.Semi 25 26 ∷ [])

abbrev for_await_tree : Tree
for_await_tree =
    tree.for_of (at 0 26) true (tree.var (at 11 18) decl.Const (listed (tree.declarator (at 17 18) (bound 17 18 (codes "a")) tree.absent ∷ []))) (id 22 23 (codes "b")) (tree.empty (at 25 26))

awaited_values : Spells 2 (stmt true) plain [] for_await_tree for_await (behind 9 for_await)
unfolding sights
awaited_values = (
  (
    (
      refl,
      for_of_rule true _ _ _ (behind 2 for_await) (behind 5 for_await) (behind 7 for_await) refl (await_word refl refl refl) refl
          (of_left_rule (declared_rule (record {
            word = decl.Const;
            declarators = _ ∷ [];
            reads = (refl, (plain_rule _ (binding_name_rule _ _ refl (a_name refl) refl) refl refl refl, refl));
            is = refl;
          })) refl)
          refl (name_value refl) refl (refl, empty_rule refl refl refl) refl,
    ),
    λ h. refl,
  ),
  refl,
)
