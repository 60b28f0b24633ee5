-- Statements that lists of tokens spell, each with the tree that is known by hand.
use Rattle.std.proofs.Common.{true, false, [], ◌∷◌, None, refl}
use Rattle.std.specs.Prelude.{codes}
use Rattle.swc_ecma_parser_token.specs.declared.keyword.Keyword.TheVariants as keyword
use Rattle.swc_ecma_parser_token.specs.declared.token.Token.TheVariants as token
use Rattle.swc_ecma_parser_input.specs.Place.{Place}
use Rattle.swc_ecma_parser_model.specs.declared.leaves.VarDeclKind.TheVariants as decl
use Rattle.swc_ecma_parser_model.specs.Tree as tree
use Rattle.swc_ecma_parser_model.specs.Tree.{Tree, listed}
use Rattle.swc_ecma_parser_grammar.specs.Names.{Code}
use Rattle.swc_ecma_parser_grammar.specs.Ends.{by_semicolon, by_insertion}
use Rattle.swc_ecma_parser_grammar.specs.Follows.{no_await, no_star, not_async}
use Rattle.swc_ecma_parser_grammar.specs.language.Lists.{no_comma}
use Rattle.swc_ecma_parser_grammar.specs.language.Parts.{plain_element, word_access, no_name}
use Rattle.swc_ecma_parser_grammar.specs.language.Parts.{a_name as given_name}
use Rattle.swc_ecma_parser_grammar.specs.language.Classes.{no_decorators, member_rule, static_block_rule, no_heritage}
use Rattle.swc_ecma_parser_grammar.specs.language.LeftSides.{string_rule, number_rule, this_rule, class_rule, primary_rule, call_rule}
use Rattle.swc_ecma_parser_grammar.specs.language.LeftSides.{member_rule as access_rule}
use Rattle.swc_ecma_parser_grammar.specs.language.Patterns.{binding_name_rule, rest_rule}
use Rattle.swc_ecma_parser_grammar.specs.language.Patterns.{object_rule as object_pattern_rule}
use Rattle.swc_ecma_parser_grammar.specs.language.Expressions.{operand_rule, await_rule, single_rule, operators_rule, assignment_rule}
use Rattle.swc_ecma_parser_grammar.specs.language.Declarations.{plain_rule, initialized_rule}
use Rattle.swc_ecma_parser_grammar.specs.language.Statements.{if_rule, no_else_rule, else_rule, case_clause_rule, catch_rule, catch_parameter_rule, no_finally_rule, no_operand_rule, no_target_rule, function_rule, variables_rule, using_rule, block_rule, with_rule, return_rule, labeled_rule, break_rule, if_statement_rule, switch_rule, throw_rule, try_rule, expr_rule}
use Rattle.swc_ecma_parser_grammar.specs.language.Programs.{Spells, script, stmt}
use Rattle.swc_ecma_parser_grammar.proofs.Spelling.{at, t, below, named, keyword, equals, start, behind, plain, a_token, a_word, a_name, operand, value, name_value}
use Rattle.swc_ecma_parser_grammar.proofs.SpellingItems.{sights, name_expression, id, bound, expr_stmt, block, script_of, whole_script}

-- nothing: the empty script
empty : Spells 0 script plain [] (script_of 0 0 []) (start []) (start [])
unfolding sights
empty = whole_script 0 plain [] (start []) (start []) refl refl refl refl

-- `{{}}`
abbrev blocks : Place
blocks = start (t token.LBrace 0 1 ∷ t token.LBrace 1 2 ∷ t token.RBrace 2 3 ∷ t token.RBrace 3 4 ∷ [])

blocks_nest : Spells 2 script plain [] (script_of 0 4 (block 0 4 (block 1 3 [] ∷ []) ∷ [])) blocks (behind 4 blocks)
unfolding sights
blocks_nest =
    whole_script 2 plain (_ ∷ []) blocks (behind 4 blocks) refl (
      behind 4 blocks,
      (
        refl,
        block_rule (record {
          items = _ ∷ [];
          close = behind 3 blocks;
          opens = refl;
          reads_items = (behind 3 blocks, (refl, block_rule (record { items = []; close = behind 2 blocks; opens = refl; reads_items = refl; closes = refl; next = refl; is = refl })), refl);
          closes = refl;
          next = refl;
          is = refl;
        }),
      ),
      refl,
    )
    refl refl

-- `{ var a; }`
abbrev var_block : Place
var_block = start (t token.LBrace 0 1 ∷ t (keyword keyword.Var) 2 5 ∷ t (named (codes "a")) 6 7 ∷ t token.Semi 7 8 ∷ t token.RBrace 9 10 ∷ [])

abbrev var_block_tree : Tree
var_block_tree = script_of 0 10 (block 0 10 (tree.var (at 2 8) decl.Var (listed (tree.declarator (at 6 7) (bound 6 7 (codes "a")) tree.absent ∷ [])) ∷ []) ∷ [])

var_in_a_block : Spells 3 script plain [] var_block_tree var_block (behind 5 var_block)
unfolding sights
var_in_a_block =
    whole_script 3 plain (_ ∷ []) var_block (behind 5 var_block) refl (
      behind 5 var_block,
      (
        refl,
        block_rule (record {
          items = _ ∷ [];
          close = behind 4 var_block;
          opens = refl;
          reads_items = (
            behind 4 var_block,
            (
              refl,
              variables_rule decl.Var (_ ∷ []) (behind 3 var_block) refl (refl, (plain_rule _ (binding_name_rule _ _ refl (a_name refl) refl) refl refl refl, refl))
                  (by_semicolon refl refl) refl,
            ),
            refl,
          );
          closes = refl;
          next = refl;
          is = refl;
        }),
      ),
      refl,
    )
    refl refl

-- `if (a) b; else c`
abbrev if_else : Place
if_else =
    start (t (keyword keyword.If) 0 2 ∷ t token.LParen 3 4 ∷ t (named (codes "a")) 4 5 ∷ t token.RParen 5 6 ∷ t (named (codes "b")) 7 8 ∷ t token.Semi 8 9
    ∷ t (keyword keyword.Else) 10 14 ∷ t (named (codes "c")) 15 16 ∷ [])

abbrev if_else_tree : Tree
if_else_tree = script_of 0 16 (tree.if_stmt (at 0 16) (id 4 5 (codes "a")) (expr_stmt 7 9 (id 7 8 (codes "b"))) (expr_stmt 15 16 (id 15 16 (codes "c"))) ∷ [])

else_belongs_to_if : Spells 3 script plain [] if_else_tree if_else (behind 8 if_else)
unfolding sights
else_belongs_to_if =
    whole_script 3 plain (_ ∷ []) if_else (behind 8 if_else) refl (
      behind 8 if_else,
      (
        refl,
        if_statement_rule (if_rule _ _ _ (behind 4 if_else) (behind 6 if_else) refl
            (record { close = behind 3 if_else; opens = refl; reads = name_expression refl; closes = refl; next = refl })
            (refl, expr_rule _ (behind 5 if_else) refl (name_expression refl) refl (by_semicolon refl refl) refl)
            (else_rule refl refl (refl, expr_rule _ (behind 8 if_else) refl (name_expression refl) refl (by_insertion refl refl refl) refl))
            refl),
      ),
      refl,
    )
    refl refl

-- `if (a) let` and on the next line `x`: no declaration stands there
abbrev if_let : Place
if_let =
    start (t (keyword keyword.If) 0 2 ∷ t token.LParen 3 4 ∷ t (named (codes "a")) 4 5 ∷ t token.RParen 5 6 ∷ t (keyword keyword.Let) 7 10
    ∷ below (named (codes "x")) 11 12 ∷ [])

abbrev if_let_tree : Tree
if_let_tree = script_of 0 12 (tree.if_stmt (at 0 10) (id 4 5 (codes "a")) (expr_stmt 7 10 (id 7 10 (codes "let"))) tree.absent ∷ expr_stmt 11 12 (id 11 12 (codes "x")) ∷ [])

let_is_a_name : Spells 3 script plain [] if_let_tree if_let (behind 6 if_let)
unfolding sights
let_is_a_name =
    whole_script 3 plain (_ ∷ _ ∷ []) if_let (behind 6 if_let) refl (
      behind 5 if_let,
      (
        refl,
        if_statement_rule (if_rule _ _ _ (behind 4 if_let) (behind 5 if_let) refl
            (record { close = behind 3 if_let; opens = refl; reads = name_expression refl; closes = refl; next = refl })
            (refl, expr_rule _ (behind 5 if_let) refl (name_expression refl) refl (by_insertion refl refl refl) refl)
            (no_else_rule refl refl refl) refl),
      ),
      (behind 6 if_let, (refl, expr_rule _ (behind 6 if_let) refl (name_expression refl) refl (by_insertion refl refl refl) refl), refl),
    )
    refl refl

-- `let` and on the next line `x`: a declaration
abbrev let_below : Place
let_below = start (t (keyword keyword.Let) 0 3 ∷ below (named (codes "x")) 4 5 ∷ [])

abbrev let_below_tree : Tree
let_below_tree = script_of 0 5 (tree.var (at 0 5) decl.Let (listed (tree.declarator (at 4 5) (bound 4 5 (codes "x")) tree.absent ∷ [])) ∷ [])

let_declares : Spells 2 script plain [] let_below_tree let_below (behind 2 let_below)
unfolding sights
let_declares =
    whole_script 2 plain (_ ∷ []) let_below (behind 2 let_below) refl (
      behind 2 let_below,
      (
        refl,
        variables_rule decl.Let (_ ∷ []) (behind 2 let_below) refl (refl, (plain_rule _ (binding_name_rule _ _ refl (a_name refl) refl) refl refl refl, refl))
            (by_insertion refl refl refl) refl,
      ),
      refl,
    )
    refl refl

-- `let await = 1`: in a script `await` is a name
abbrev let_await : Place
let_await = start (t (keyword keyword.Let) 0 3 ∷ t (keyword keyword.Await) 4 9 ∷ t equals 10 11 ∷ t (token.Num (codes "1")) 12 13 ∷ [])

abbrev let_await_tree : Tree
let_await_tree = script_of 0 13 (tree.var (at 0 13) decl.Let (listed (tree.declarator (at 4 13) (bound 4 9 (codes "await")) (tree.num (at 12 13) (codes "1")) ∷ [])) ∷ [])

await_is_a_name : Spells 2 script plain [] let_await_tree let_await (behind 4 let_await)
unfolding sights
await_is_a_name =
    whole_script 2 plain (_ ∷ []) let_await (behind 4 let_await) refl (
      behind 4 let_await,
      (
        refl,
        variables_rule decl.Let (_ ∷ []) (behind 4 let_await) refl
            (refl, (initialized_rule _ _ (behind 2 let_await) (binding_name_rule _ _ refl (a_name refl) refl) refl (value (primary_rule (number_rule _ _ a_token refl), refl) refl) refl, refl))
            (by_insertion refl refl refl) refl,
      ),
      refl,
    )
    refl refl

-- `using a = b;` where `using` is read: its span holds its `;`
abbrev managing : Code
managing = record plain { setting = record plain.setting { explicit_resource_management = true } }

abbrev using : Place
using = start (t (named (codes "using")) 0 5 ∷ t (named (codes "a")) 6 7 ∷ t equals 8 9 ∷ t (named (codes "b")) 10 11 ∷ t token.Semi 11 12 ∷ [])

abbrev using_tree : Tree
using_tree =
    script_of 0 12 (tree.using (at 0 12) false (listed (tree.declarator (at 6 11) (bound 6 7 (codes "a")) (id 10 11 (codes "b")) ∷ [])) ∷ [])

using_has_its_end : Spells 2 script managing [] using_tree using (behind 5 using)
unfolding sights
using_has_its_end =
    whole_script 2 managing (_ ∷ []) using (behind 5 using) refl (
      behind 5 using,
      (
        refl,
        using_rule (record {
          is_await = false;
          word = using;
          declarators = _ ∷ [];
          is_read = refl;
          has_place = refl;
          reads_await = no_await refl refl;
          on_line = refl;
          begins = refl;
          behind = behind 4 using;
          reads = (
            record {
              name = _;
              init = _;
              equals = behind 2 using;
              reads_name = binding_name_rule _ _ refl (a_name refl) refl;
              is_name = refl;
              assigns = refl;
              reads_init = name_value refl;
              is = refl;
            },
            refl,
          );
          ends = by_semicolon refl refl;
          is = refl;
        }),
      ),
      refl,
    )
    refl refl

-- `using` and on the next line `a`: two names
abbrev using_below : Place
using_below = start (t (named (codes "using")) 0 5 ∷ below (named (codes "a")) 6 7 ∷ [])

using_is_a_name : Spells 2 script managing [] (script_of 0 7 (expr_stmt 0 5 (id 0 5 (codes "using")) ∷ expr_stmt 6 7 (id 6 7 (codes "a")) ∷ [])) using_below (behind 2 using_below)
unfolding sights
using_is_a_name =
    whole_script 2 managing (_ ∷ _ ∷ []) using_below (behind 2 using_below) refl (
      behind 1 using_below,
      (refl, expr_rule _ (behind 1 using_below) refl (name_expression refl) refl (by_insertion refl refl refl) refl),
      (behind 2 using_below, (refl, expr_rule _ (behind 2 using_below) refl (name_expression refl) refl (by_insertion refl refl refl) refl), refl),
    )
    refl refl

-- `{ await using; }`: an `await` expression, where no name follows
abbrev await_using : Place
await_using = start (t token.LBrace 0 1 ∷ t (keyword keyword.Await) 2 7 ∷ t (named (codes "using")) 8 13 ∷ t token.Semi 13 14 ∷ t token.RBrace 15 16 ∷ [])

await_using_a_name : Spells 4 script plain [] (script_of 0 16 (block 0 16 (expr_stmt 2 14 (tree.await (at 2 13) (id 8 13 (codes "using"))) ∷ []) ∷ [])) await_using (behind 5 await_using)
unfolding sights
await_using_a_name =
    whole_script 4 plain (_ ∷ []) await_using (behind 5 await_using) refl (
      behind 5 await_using,
      (
        refl,
        block_rule (record {
          items = _ ∷ [];
          close = behind 4 await_using;
          opens = refl;
          reads_items = (
            behind 4 await_using,
            (
              refl,
              expr_rule _ (behind 3 await_using) refl
                  (assignment_rule (operators_rule (single_rule (await_rule _ refl refl (operand_rule (operand refl), refl) refl)) refl) refl) refl (by_semicolon refl refl) refl,
            ),
            refl,
          );
          closes = refl;
          next = refl;
          is = refl;
        }),
      ),
      refl,
    )
    refl refl

-- `with (a) return;`
abbrev with_return : Place
with_return =
    start (t (keyword keyword.With) 0 4 ∷ t token.LParen 5 6 ∷ t (named (codes "a")) 6 7 ∷ t token.RParen 7 8 ∷ t (keyword keyword.Return) 9 15 ∷ t token.Semi 15 16 ∷ [])

return_in_with : Spells 2 script plain [] (script_of 0 16 (tree.with (at 0 16) (id 6 7 (codes "a")) (tree.return (at 9 16) tree.absent) ∷ [])) with_return (behind 6 with_return)
unfolding sights
return_in_with =
    whole_script 2 plain (_ ∷ []) with_return (behind 6 with_return) refl (
      behind 6 with_return,
      (
        refl,
        with_rule _ _ (behind 4 with_return) refl (record { close = behind 3 with_return; opens = refl; reads = name_expression refl; closes = refl; next = refl })
            (refl, return_rule _ (behind 5 with_return) refl (no_operand_rule refl refl refl) (by_semicolon refl refl) refl) refl,
      ),
      refl,
    )
    refl refl

-- `a: break;`
abbrev labelled : Place
labelled = start (t (named (codes "a")) 0 1 ∷ t token.Colon 1 2 ∷ t (keyword keyword.Break) 3 8 ∷ t token.Semi 8 9 ∷ [])

break_behind_a_label : Spells 2 script plain [] (script_of 0 9 (tree.labeled (at 0 9) (id 0 1 (codes "a")) (tree.break (at 3 9) tree.absent) ∷ [])) labelled (behind 4 labelled)
unfolding sights
break_behind_a_label =
    whole_script 2 plain (_ ∷ []) labelled (behind 4 labelled) refl (
      behind 4 labelled,
      (refl, labeled_rule _ _ _ (behind 1 labelled) (a_name refl) refl (refl, break_rule _ (behind 3 labelled) refl (no_target_rule refl refl refl) (by_semicolon refl refl) refl) refl),
      refl,
    )
    refl refl

-- `throw this`, as a statement
abbrev throw : Place
throw = start (t (keyword keyword.Throw) 0 5 ∷ t (keyword keyword.This) 6 10 ∷ [])

thrown : Spells 2 (stmt true) plain [] (tree.throw (at 0 10) (tree.this (at 6 10))) throw (behind 2 throw)
unfolding sights
thrown = (((refl, throw_rule _ (behind 2 throw) refl refl (assignment_rule (value (primary_rule (this_rule refl refl refl), refl) refl) refl) (by_insertion refl refl refl) refl), λ h. refl), refl)

-- `async` and on the next line `function f(){}`: a name, and a function
abbrev async_below : Place
async_below =
    start (t (named (codes "async")) 0 5 ∷ below (keyword keyword.Function) 6 14 ∷ t (named (codes "f")) 15 16 ∷ t token.LParen 16 17 ∷ t token.RParen 17 18 ∷ t token.LBrace 18 19
    ∷ t token.RBrace 19 20 ∷ [])

abbrev async_below_tree : Tree
async_below_tree =
    script_of 0 20 (expr_stmt 0 5 (id 0 5 (codes "async")) ∷ tree.fn_decl (id 15 16 (codes "f")) (tree.function (at 6 20) (listed []) (listed []) (block 18 20 []) false false) ∷ [])

async_ends_at_the_line : Spells 2 script plain [] async_below_tree async_below (behind 7 async_below)
unfolding sights
async_ends_at_the_line =
    whole_script 2 plain (_ ∷ _ ∷ []) async_below (behind 7 async_below) refl (
      behind 1 async_below,
      (refl, expr_rule _ (behind 1 async_below) refl (name_expression refl) refl (by_insertion refl refl refl) refl),
      (
        behind 7 async_below,
        (
          refl,
          function_rule (listed []) _ _ (behind 1 async_below) (no_decorators refl refl) refl
              (record {
                is_async = false;
                is_generator = false;
                patterns = [];
                body = _;
                word = behind 1 async_below;
                behind_word = behind 2 async_below;
                behind_name = behind 3 async_below;
                reads_async = not_async refl refl;
                is_function = refl;
                reads_star = no_star refl refl;
                reads_name = given_name _ _ (a_name refl) refl;
                reads_parts = record {
                  middle = behind 5 async_below;
                  reads_parameters = record { close = behind 4 async_below; opens = refl; reads_patterns = refl; closes = refl; next = refl };
                  reads_body = record { items = []; close = behind 6 async_below; opens = refl; reads_items = refl; closes = refl; next = refl; is = refl };
                };
                is = refl;
              }) refl refl,
        ),
        refl,
      ),
    )
    refl refl

-- ---- `switch` and `try`

-- `switch (a) { case class { static { break; } }: }`
abbrev switch : Place
switch =
    start (t (keyword keyword.Switch) 0 6 ∷ t token.LParen 7 8 ∷ t (named (codes "a")) 8 9 ∷ t token.RParen 9 10 ∷ t token.LBrace 11 12 ∷ t (keyword keyword.Case) 13 17
    ∷ t (keyword keyword.Class) 18 23 ∷ t token.LBrace 24 25 ∷ t (named (codes "static")) 26 32 ∷ t token.LBrace 33 34 ∷ t (keyword keyword.Break) 35 40 ∷ t token.Semi 40 41
    ∷ t token.RBrace 42 43 ∷ t token.RBrace 44 45 ∷ t token.Colon 45 46 ∷ t token.RBrace 47 48 ∷ [])

abbrev switch_tree : Tree
switch_tree =
    script_of 0 48 (tree.switch (at 0 48) (id 8 9 (codes "a")) (listed (tree.case (at 13 46) (tree.class_expr (at 18 45) tree.absent
    (tree.class (at 18 45) (listed []) (listed (tree.static_block (at 26 43) (block 33 43 (tree.break (at 35 41) tree.absent ∷ [])) ∷ [])) tree.absent)) (listed []) ∷ [])) ∷ [])

break_in_a_test : Spells 4 script plain [] switch_tree switch (behind 16 switch)
unfolding sights
break_in_a_test =
    whole_script 4 plain (_ ∷ []) switch (behind 16 switch) refl (
      behind 16 switch,
      (
        refl,
        switch_rule _ (_ ∷ []) (behind 4 switch) (behind 15 switch) refl (record { close = behind 3 switch; opens = refl; reads = name_expression refl; closes = refl; next = refl }) refl (
          behind 15 switch,
          case_clause_rule _ [] (behind 14 switch) refl (assignment_rule (value (
            primary_rule (class_rule _ _ (record {
              heritage = _;
              members = _ ∷ [];
              behind_name = behind 7 switch;
              opening = behind 7 switch;
              close = behind 13 switch;
              is_class = refl;
              reads_name = no_name refl refl;
              reads_heritage = no_heritage refl refl;
              opens = refl;
              reads_members = (
                behind 13 switch,
                member_rule (listed []) (behind 8 switch) (no_decorators refl refl) (static_block_rule _ refl refl refl (record {
                  items = _ ∷ [];
                  close = behind 12 switch;
                  opens = refl;
                  reads_items = (behind 12 switch, (refl, break_rule _ (behind 11 switch) refl (no_target_rule refl refl refl) (by_semicolon refl refl) refl), refl);
                  closes = refl;
                  next = refl;
                  is = refl;
                }) refl),
                refl,
              );
              closes = refl;
              next = refl;
              is = refl;
            }) refl),
            refl,
          ) refl) refl) refl refl refl,
          refl,
        )
            refl refl refl refl,
      ),
      refl,
    )
    refl refl

-- `try {} catch({ ...a34 }) {}`, as a statement
abbrev try_pattern : Place
try_pattern =
    start (t (keyword keyword.Try) 0 3 ∷ t token.LBrace 4 5 ∷ t token.RBrace 5 6 ∷ t (keyword keyword.Catch) 7 12 ∷ t token.LParen 12 13 ∷ t token.LBrace 13 14 ∷ t token.DotDotDot 15 18
    ∷ t (named (codes "a34")) 18 21 ∷ t token.RBrace 22 23 ∷ t token.RParen 23 24 ∷ t token.LBrace 25 26 ∷ t token.RBrace 26 27 ∷ [])

abbrev try_pattern_tree : Tree
try_pattern_tree =
    tree.try (at 0 27) (block 4 6 [])
    (tree.catch (at 7 27) (tree.object_pat (at 13 23) (listed (tree.rest_pat (at 15 21) (bound 18 21 (codes "a34")) ∷ []))) (block 25 27 [])) tree.absent

caught_in_a_pattern : Spells 3 (stmt true) plain [] try_pattern_tree try_pattern (behind 12 try_pattern)
unfolding sights
caught_in_a_pattern = (
  (
    (
      refl,
      try_rule _ _ _ (behind 3 try_pattern) (behind 12 try_pattern) refl
          (record { items = []; close = behind 2 try_pattern; opens = refl; reads_items = refl; closes = refl; next = refl; is = refl })
          (catch_parameter_rule _ _ (behind 9 try_pattern) refl refl
          (object_pattern_rule (_ ∷ []) (behind 8 try_pattern) refl (behind 8 try_pattern, rest_rule _ refl (binding_name_rule _ _ refl (a_name refl) refl) refl refl, no_comma refl) refl refl refl) refl
          (record { items = []; close = behind 11 try_pattern; opens = refl; reads_items = refl; closes = refl; next = refl; is = refl }) refl)
          (no_finally_rule refl refl refl) refl refl,
    ),
    λ h. refl,
  ),
  refl,
)

-- `try { await; } catch { console.log('caught'); }`
abbrev try_await : Place
try_await =
    start (t (keyword keyword.Try) 0 3 ∷ t token.LBrace 4 5 ∷ t (keyword keyword.Await) 6 11 ∷ t token.Semi 11 12 ∷ t token.RBrace 13 14 ∷ t (keyword keyword.Catch) 15 20 ∷ t token.LBrace 21 22
    ∷ t (named (codes "console")) 23 30 ∷ t token.Dot 30 31 ∷ t (named (codes "log")) 31 34 ∷ t token.LParen 34 35 ∷ t (token.Str (codes "caught") (codes "'caught'")) 35 43
    ∷ t token.RParen 43 44 ∷ t token.Semi 44 45 ∷ t token.RBrace 46 47 ∷ [])

abbrev logged : Tree
logged =
    tree.call (at 23 44) (tree.member (at 23 34) (id 23 30 (codes "console")) (id 31 34 (codes "log"))) (listed (tree.element None (tree.str (at 35 43) (codes "caught") (codes "'caught'")) ∷ []))

abbrev try_await_tree : Tree
try_await_tree =
    script_of 0 47 (tree.try (at 0 47) (block 4 14 (expr_stmt 6 12 (id 6 11 (codes "await")) ∷ [])) (tree.catch (at 15 47) tree.absent (block 21 47 (expr_stmt 23 45 logged ∷ []))) tree.absent ∷ [])

caught_without_a_name : Spells 4 script plain [] try_await_tree try_await (behind 15 try_await)
unfolding sights
caught_without_a_name =
    whole_script 4 plain (_ ∷ []) try_await (behind 15 try_await) refl (
      behind 15 try_await,
      (
        refl,
        try_rule _ _ _ (behind 5 try_await) (behind 15 try_await) refl
            (record {
              items = _ ∷ [];
              close = behind 4 try_await;
              opens = refl;
              reads_items = (behind 4 try_await, (refl, expr_rule _ (behind 3 try_await) refl (name_expression refl) refl (by_semicolon refl refl) refl), refl);
              closes = refl;
              next = refl;
              is = refl;
            })
            (catch_rule _ refl (record {
              items = _ ∷ [];
              close = behind 14 try_await;
              opens = refl;
              reads_items = (
                behind 14 try_await,
                (
                  refl,
                  expr_rule _ (behind 13 try_await) refl
                      (assignment_rule (value (
                        call_rule _ _ (behind 10 try_await)
                            (access_rule _ _ (behind 8 try_await) (operand refl).0 refl (word_access _ _ refl a_word refl) refl)
                            refl
                            (record {
                              elements = _ ∷ [];
                              close = behind 12 try_await;
                              opens = refl;
                              reads_elements = (behind 12 try_await, plain_element _ (value (primary_rule (string_rule _ _ _ a_token refl), refl) refl) refl, no_comma refl);
                              closes = refl;
                              next = refl;
                              is = refl;
                            }) refl,
                        refl,
                      ) refl) refl)
                      refl (by_semicolon refl refl) refl,
                ),
                refl,
              );
              closes = refl;
              next = refl;
              is = refl;
            }) refl)
            (no_finally_rule refl refl refl) refl refl,
      ),
      refl,
    )
    refl refl
