-- Functions, classes and decorators that lists of tokens spell, each with the tree that is known by hand.
use Rattle.std.proofs.Common.{true, false, List, [], ◌∷◌, None, refl}
use Rattle.std.specs.Prelude.{codes}
use Rattle.swc_ecma_parser_token.specs.declared.keyword.Keyword.TheVariants as keywords
use Rattle.swc_ecma_parser_token.specs.declared.operator.BinOpToken.TheVariants as bin
use Rattle.swc_ecma_parser_token.specs.declared.token.Token.TheVariants as token
use Rattle.swc_ecma_parser_input.specs.Place.{Place}
use Rattle.swc_ecma_parser_model.specs.declared.leaves.MethodKind.TheVariants as form
use Rattle.swc_ecma_parser_model.specs.Tree as tree
use Rattle.swc_ecma_parser_model.specs.Tree.{Tree, listed}
use Rattle.swc_ecma_parser_grammar.specs.Names.{Code}
use Rattle.swc_ecma_parser_grammar.specs.Ends.{by_semicolon, by_insertion, ends_at}
use Rattle.swc_ecma_parser_grammar.specs.Follows.{is_let_declaration, may_begin_expression_statement, no_star, star, not_async, async_word}
use Rattle.swc_ecma_parser_grammar.specs.language.PatternItems.{element_rule}
use Rattle.swc_ecma_parser_grammar.specs.language.Contexts.{with_in}
use Rattle.swc_ecma_parser_grammar.specs.language.Goals.{expr_goal, expression, assignment, stmt_goal}
use Rattle.swc_ecma_parser_grammar.specs.language.Items.{top_item}
use Rattle.swc_ecma_parser_grammar.specs.language.Lists.{no_comma}
use Rattle.swc_ecma_parser_grammar.specs.language.Parts as part
use Rattle.swc_ecma_parser_grammar.specs.language.Parts.{no_name, plain_element, word_key}
use Rattle.swc_ecma_parser_grammar.specs.language.Functions.{method_head, getter_head}
use Rattle.swc_ecma_parser_grammar.specs.language.Classes.{decorator_rule, no_decorators, some_decorators, member_key, no_value, method_rule, field_rule, static_block_rule, member_rule, no_heritage, heritage_rule}
use Rattle.swc_ecma_parser_grammar.specs.language.Objects as property
use Rattle.swc_ecma_parser_grammar.specs.language.LeftSides.{number_rule, object_rule, class_rule, function_rule, paren_rule, primary_rule, call_rule}
use Rattle.swc_ecma_parser_grammar.specs.language.Patterns.{initialized_rule}
use Rattle.swc_ecma_parser_grammar.specs.language.Expressions.{operand_rule, await_rule, single_rule, operators_rule, assignment_rule}
use Rattle.swc_ecma_parser_grammar.specs.language.Decorators.{name_rule, chain_rule}
use Rattle.swc_ecma_parser_grammar.specs.language.Statements as statement
use Rattle.swc_ecma_parser_grammar.specs.language.Statements.{may_begin_at_top}
use Rattle.swc_ecma_parser_grammar.specs.language.Reads.{Reads}
use Rattle.swc_ecma_parser_grammar.proofs.Spelling.{at, t, below, named, keyword, operator, equals, start, behind, plain, looks, a_token, a_word, a_name, operand, value, name_value}
use Rattle.swc_ecma_parser_grammar.proofs.SpellingParts.{variable, leaf, bound, no_parameters, empty_body, empty_parts}

-- ---- classes

-- `(class extends a {})`
abbrev heritage_tokens : Place
heritage_tokens =
    start (t token.LParen 0 1 ∷ t (keyword keywords.Class) 1 6 ∷ t (keyword keywords.Extends) 7 14 ∷ t (named (codes "a")) 15 16 ∷ t token.LBrace 17 18 ∷ t token.RBrace 18 19
    ∷ t token.RParen 19 20 ∷ [])

heritage : Reads 3 (expr_goal expression (with_in plain)
    (tree.paren (at 0 20) (tree.class_expr (at 1 19) tree.absent (tree.class (at 1 19) (listed []) (listed []) (variable 15 16 (codes "a"))))) heritage_tokens (behind 7 heritage_tokens))
unfolding looks
heritage =
    assignment_rule (value (
      primary_rule (paren_rule _ _ refl
          (assignment_rule (value (
            primary_rule (class_rule _ _ (record {
              heritage = variable 15 16 (codes "a");
              members = [];
              behind_name = behind 2 heritage_tokens;
              opening = behind 4 heritage_tokens;
              close = behind 5 heritage_tokens;
              is_class = refl;
              reads_name = no_name refl refl;
              reads_heritage = heritage_rule refl ((operand refl).0, refl);
              opens = refl;
              reads_members = refl;
              closes = refl;
              next = refl;
              is = refl;
            }) refl),
            refl,
          ) refl) refl)
          refl refl refl),
      refl,
    ) refl) refl

-- `class A { get` and on the next line `b() {} }`: a getter
abbrev getter_tokens : Place
getter_tokens =
    start (t (keyword keywords.Class) 0 5 ∷ t (named (codes "A")) 6 7 ∷ t token.LBrace 8 9 ∷ t (named (codes "get")) 10 13 ∷ below (named (codes "b")) 14 15 ∷ t token.LParen 15 16
    ∷ t token.RParen 16 17 ∷ t token.LBrace 18 19 ∷ t token.RBrace 19 20 ∷ t token.RBrace 21 22 ∷ [])

abbrev getter : List Tree
getter = tree.method (at 10 20) (variable 14 15 (codes "b")) (tree.function (at 10 20) (listed []) (listed []) (tree.block (at 18 20) (listed [])) false false) form.Getter false ∷ []

class_with_getter : Reads 2 (stmt_goal plain top_item (tree.class_decl (variable 6 7 (codes "A")) (tree.class (at 0 22) (listed []) (listed getter) tree.absent)) getter_tokens (behind 10 getter_tokens))
unfolding looks may_begin_at_top
class_with_getter = (
  refl,
  statement.class_rule _ _ _ _ refl (no_decorators refl refl) (record {
    heritage = tree.absent;
    members = getter;
    behind_name = behind 2 getter_tokens;
    opening = behind 2 getter_tokens;
    close = behind 9 getter_tokens;
    is_class = refl;
    reads_name = part.a_name _ _ (a_name refl) refl;
    reads_heritage = no_heritage refl refl;
    opens = refl;
    reads_members = (
      _,
      member_rule _ _ (no_decorators refl refl) (method_rule form.Getter false false _ _ _ refl
          (record {
            behind_head = behind 4 getter_tokens;
            behind_key = behind 5 getter_tokens;
            reads_head = getter_head refl refl refl refl refl;
            reads_key = member_key (word_key _ _ a_word refl);
            reads_parts = empty_parts (behind 5 getter_tokens) refl refl refl refl;
            arity = refl;
          }) refl refl),
      refl,
    );
    closes = refl;
    next = refl;
    is = refl;
  }) refl refl,
)

-- `class A { async` and on the next line `b() {} }`: a field and a method
abbrev async_tokens : Place
async_tokens =
    start (t (keyword keywords.Class) 0 5 ∷ t (named (codes "A")) 6 7 ∷ t token.LBrace 8 9 ∷ t (named (codes "async")) 10 15 ∷ below (named (codes "b")) 16 17 ∷ t token.LParen 17 18
    ∷ t token.RParen 18 19 ∷ t token.LBrace 20 21 ∷ t token.RBrace 21 22 ∷ t token.RBrace 23 24 ∷ [])

abbrev async_members : List Tree
async_members =
    tree.class_prop (at 10 15) (variable 10 15 (codes "async")) tree.absent false (listed [])
    ∷ tree.method (at 16 22) (variable 16 17 (codes "b")) (tree.function (at 16 22) (listed []) (listed []) (tree.block (at 20 22) (listed [])) false false) form.Method false ∷ []

class_with_async : Reads 2 (stmt_goal plain top_item (tree.class_decl (variable 6 7 (codes "A")) (tree.class (at 0 24) (listed []) (listed async_members) tree.absent)) async_tokens (behind 10 async_tokens))
unfolding looks may_begin_at_top
class_with_async = (
  refl,
  statement.class_rule _ _ _ _ refl (no_decorators refl refl) (record {
    heritage = tree.absent;
    members = async_members;
    behind_name = behind 2 async_tokens;
    opening = behind 2 async_tokens;
    close = behind 9 async_tokens;
    is_class = refl;
    reads_name = part.a_name _ _ (a_name refl) refl;
    reads_heritage = no_heritage refl refl;
    opens = refl;
    reads_members = (
      behind 4 async_tokens,
      member_rule _ _ (no_decorators refl refl) (field_rule _ _ _ _ (member_key (word_key _ _ a_word refl)) refl (no_value refl refl refl refl refl) (by_insertion refl refl refl) refl),
      (
        _,
        member_rule _ _ (no_decorators refl refl) (method_rule form.Method false false _ _ _ refl
            (record {
              behind_head = behind 4 async_tokens;
              behind_key = behind 5 async_tokens;
              reads_head = method_head _ refl (not_async refl refl) (no_star refl refl);
              reads_key = member_key (word_key _ _ a_word refl);
              reads_parts = empty_parts (behind 5 async_tokens) refl refl refl refl;
              arity = refl;
            }) refl refl),
        refl,
      ),
    );
    closes = refl;
    next = refl;
    is = refl;
  }) refl refl,
)

-- `class A { get` and on the next line `*b(){} }`: a field and a generator
abbrev star_tokens : Place
star_tokens =
    start (t (keyword keywords.Class) 0 5 ∷ t (named (codes "A")) 6 7 ∷ t token.LBrace 8 9 ∷ t (named (codes "get")) 10 13 ∷ below (operator bin.Mul) 14 15 ∷ t (named (codes "b")) 15 16
    ∷ t token.LParen 16 17 ∷ t token.RParen 17 18 ∷ t token.LBrace 18 19 ∷ t token.RBrace 19 20 ∷ t token.RBrace 21 22 ∷ [])

abbrev star_members : List Tree
star_members =
    tree.class_prop (at 10 13) (variable 10 13 (codes "get")) tree.absent false (listed [])
    ∷ tree.method (at 14 20) (variable 15 16 (codes "b")) (tree.function (at 14 20) (listed []) (listed []) (tree.block (at 18 20) (listed [])) false true) form.Method false ∷ []

class_with_generator : Reads 2 (stmt_goal plain top_item (tree.class_decl (variable 6 7 (codes "A")) (tree.class (at 0 22) (listed []) (listed star_members) tree.absent)) star_tokens (behind 11 star_tokens))
unfolding looks may_begin_at_top
class_with_generator = (
  refl,
  statement.class_rule _ _ _ _ refl (no_decorators refl refl) (record {
    heritage = tree.absent;
    members = star_members;
    behind_name = behind 2 star_tokens;
    opening = behind 2 star_tokens;
    close = behind 10 star_tokens;
    is_class = refl;
    reads_name = part.a_name _ _ (a_name refl) refl;
    reads_heritage = no_heritage refl refl;
    opens = refl;
    reads_members = (
      behind 4 star_tokens,
      member_rule _ _ (no_decorators refl refl) (field_rule _ _ _ _ (member_key (word_key _ _ a_word refl)) refl (no_value refl refl refl refl refl) (by_insertion refl refl refl) refl),
      (
        _,
        member_rule _ _ (no_decorators refl refl) (method_rule form.Method false true _ _ _ refl
            (record {
              behind_head = behind 5 star_tokens;
              behind_key = behind 6 star_tokens;
              reads_head = method_head _ refl (not_async refl refl) (star refl refl refl);
              reads_key = member_key (word_key _ _ a_word refl);
              reads_parts = empty_parts (behind 6 star_tokens) refl refl refl refl;
              arity = refl;
            }) refl refl),
        refl,
      ),
    );
    closes = refl;
    next = refl;
    is = refl;
  }) refl refl,
)

-- `class Foo { static` and on the next line `{} }`: a static block
abbrev static_tokens : Place
static_tokens =
    start (t (keyword keywords.Class) 0 5 ∷ t (named (codes "Foo")) 6 9 ∷ t token.LBrace 10 11 ∷ t (named (codes "static")) 12 18 ∷ below token.LBrace 19 20 ∷ t token.RBrace 20 21
    ∷ t token.RBrace 22 23 ∷ [])

abbrev static_members : List Tree
static_members = tree.static_block (at 12 21) (tree.block (at 19 21) (listed [])) ∷ []

class_with_static_block : Reads 2 (expr_goal expression (with_in plain)
    (tree.class_expr (at 0 23) (variable 6 9 (codes "Foo")) (tree.class (at 0 23) (listed []) (listed static_members) tree.absent)) static_tokens (behind 7 static_tokens))
unfolding looks
class_with_static_block =
    assignment_rule (value (
      primary_rule (class_rule _ _ (record {
        heritage = tree.absent;
        members = static_members;
        behind_name = behind 2 static_tokens;
        opening = behind 2 static_tokens;
        close = behind 6 static_tokens;
        is_class = refl;
        reads_name = part.a_name _ _ (a_name refl) refl;
        reads_heritage = no_heritage refl refl;
        opens = refl;
        reads_members = (_, member_rule _ _ (no_decorators refl refl) (static_block_rule _ refl refl refl (empty_body (behind 4 static_tokens) refl refl) refl), refl);
        closes = refl;
        next = refl;
        is = refl;
      }) refl),
      refl,
    ) refl) refl

-- `@d class A {}` where decorators are read
abbrev decorating : Code
decorating = record plain { setting = record plain.setting { decorators = true } }

abbrev decorated_tokens : Place
decorated_tokens =
    start (t token.At 0 1 ∷ t (named (codes "d")) 1 2 ∷ t (keyword keywords.Class) 3 8 ∷ t (named (codes "A")) 9 10 ∷ t token.LBrace 11 12 ∷ t token.RBrace 12 13 ∷ [])

abbrev decorator : Tree
decorator = tree.decorator (at 0 2) (variable 1 2 (codes "d"))

decorated_class : Reads 2 (stmt_goal decorating top_item (tree.class_decl (variable 9 10 (codes "A")) (tree.class (at 0 13) (listed (decorator ∷ [])) (listed []) tree.absent)) decorated_tokens (behind 6 decorated_tokens))
unfolding looks may_begin_at_top
decorated_class = (
  refl,
  statement.class_rule _ _ _ _ refl
      (some_decorators decorator [] refl (_, decorator_rule _ refl (chain_rule (name_rule _ _ (a_name refl) refl) refl refl) refl, refl) refl)
      (record {
        heritage = tree.absent;
        members = [];
        behind_name = behind 4 decorated_tokens;
        opening = behind 4 decorated_tokens;
        close = behind 5 decorated_tokens;
        is_class = refl;
        reads_name = part.a_name _ _ (a_name refl) refl;
        reads_heritage = no_heritage refl refl;
        opens = refl;
        reads_members = refl;
        closes = refl;
        next = refl;
        is = refl;
      }) refl refl,
)

-- ---- functions

-- `(function foo() { return 1 })`
abbrev return_tokens : Place
return_tokens =
    start (t token.LParen 0 1 ∷ t (keyword keywords.Function) 1 9 ∷ t (named (codes "foo")) 10 13 ∷ t token.LParen 13 14 ∷ t token.RParen 14 15 ∷ t token.LBrace 16 17
    ∷ t (keyword keywords.Return) 18 24 ∷ t (token.Num (codes "1")) 25 26 ∷ t token.RBrace 27 28 ∷ t token.RParen 28 29 ∷ [])

abbrev returns : List Tree
returns = tree.return (at 18 26) (tree.num (at 25 26) (codes "1")) ∷ []

abbrev returning : Tree
returning = tree.paren (at 0 29) (tree.fn_expr (at 1 28) (variable 10 13 (codes "foo")) (tree.function (at 1 28) (listed []) (listed []) (tree.block (at 16 28) (listed returns)) false false))

returning_function : Reads 4 (expr_goal expression (with_in plain) returning return_tokens (behind 10 return_tokens))
unfolding looks may_begin_at_top ends_at
returning_function =
    assignment_rule (value (
      primary_rule (paren_rule _ _ refl
          (assignment_rule (value (
            primary_rule (function_rule _ _ (record {
              is_async = false;
              is_generator = false;
              patterns = [];
              body = tree.block (at 16 28) (listed returns);
              word = behind 1 return_tokens;
              behind_word = behind 2 return_tokens;
              behind_name = behind 3 return_tokens;
              reads_async = not_async refl refl;
              is_function = refl;
              reads_star = no_star refl refl;
              reads_name = part.a_name _ _ (a_name refl) refl;
              reads_parts = record {
                middle = behind 5 return_tokens;
                reads_parameters = no_parameters (behind 3 return_tokens) refl refl;
                reads_body = record {
                  items = returns;
                  close = behind 8 return_tokens;
                  opens = refl;
                  reads_items = (
                    _,
                    (refl, statement.return_rule _ _ refl (statement.operand_rule refl (assignment_rule (value (primary_rule (number_rule _ _ a_token refl), refl) refl) refl)) (by_insertion refl refl refl) refl),
                    refl,
                  );
                  closes = refl;
                  next = refl;
                  is = refl;
                };
              };
              is = refl;
            }) refl),
            refl,
          ) refl) refl)
          refl refl refl),
      refl,
    ) refl) refl

-- `function foo (x = await) { }`: a name
abbrev default_tokens : Place
default_tokens =
    start (t (keyword keywords.Function) 0 8 ∷ t (named (codes "foo")) 9 12 ∷ t token.LParen 13 14 ∷ t (named (codes "x")) 14 15 ∷ t equals 16 17 ∷ t (keyword keywords.Await) 18 23
    ∷ t token.RParen 23 24 ∷ t token.LBrace 25 26 ∷ t token.RBrace 27 28 ∷ [])

abbrev default_parameter : Tree
default_parameter = tree.assign_pat (at 14 23) (leaf 14 15 (codes "x")) (variable 18 23 (codes "await"))

await_by_default : Reads 3 (stmt_goal plain top_item
    (tree.fn_decl (variable 9 12 (codes "foo")) (tree.function (at 0 28) (listed []) (listed (tree.param (at 14 23) (listed []) default_parameter ∷ [])) (tree.block (at 25 28) (listed [])) false false))
    default_tokens (behind 9 default_tokens))
unfolding looks may_begin_at_top
await_by_default = (
  refl,
  statement.function_rule _ _ _ _ (no_decorators refl refl) refl (record {
    is_async = false;
    is_generator = false;
    patterns = default_parameter ∷ [];
    body = tree.block (at 25 28) (listed []);
    word = default_tokens;
    behind_word = behind 1 default_tokens;
    behind_name = behind 2 default_tokens;
    reads_async = not_async refl refl;
    is_function = refl;
    reads_star = no_star refl refl;
    reads_name = part.a_name _ _ (a_name refl) refl;
    reads_parts = record {
      middle = behind 7 default_tokens;
      reads_parameters = record {
        close = behind 6 default_tokens;
        opens = refl;
        reads_patterns = (_, element_rule (initialized_rule _ _ _ (bound refl) refl (name_value refl) refl), no_comma refl);
        closes = refl;
        next = refl;
      };
      reads_body = empty_body (behind 7 default_tokens) refl refl;
    };
    is = refl;
  }) refl refl,
)

-- `obj({ async f() { await g(); } })`
abbrev object_tokens : Place
object_tokens =
    start (t (named (codes "obj")) 15 18 ∷ t token.LParen 18 19 ∷ t token.LBrace 19 20 ∷ t (named (codes "async")) 21 26 ∷ t (named (codes "f")) 27 28 ∷ t token.LParen 28 29
    ∷ t token.RParen 29 30 ∷ t token.LBrace 31 32 ∷ t (keyword keywords.Await) 33 38 ∷ t (named (codes "g")) 39 40 ∷ t token.LParen 40 41 ∷ t token.RParen 41 42 ∷ t token.Semi 42 43
    ∷ t token.RBrace 44 45 ∷ t token.RBrace 46 47 ∷ t token.RParen 47 48 ∷ t token.Semi 48 49 ∷ [])

abbrev awaiting : List Tree
awaiting = tree.expr_stmt (at 33 43) (tree.await (at 33 42) (tree.call (at 39 42) (variable 39 40 (codes "g")) (listed []))) ∷ []

abbrev methods : List Tree
methods = tree.method_prop (at 21 45) (variable 27 28 (codes "f")) (tree.function (at 21 45) (listed []) (listed []) (tree.block (at 31 45) (listed awaiting)) true false) ∷ []

abbrev argument : List Tree
argument = tree.element None (tree.object (at 19 47) (listed methods)) ∷ []

async_method : Reads 5 (expr_goal assignment (with_in plain) (tree.call (at 15 48) (variable 15 18 (codes "obj")) (listed argument)) object_tokens (behind 16 object_tokens))
unfolding looks may_begin_at_top may_begin_expression_statement is_let_declaration
async_method =
    value (
      call_rule _ _ _ (operand refl).0 refl (record {
        elements = argument;
        close = behind 15 object_tokens;
        opens = refl;
        reads_elements = (
          _,
          plain_element _ (value (
            primary_rule (object_rule methods _ refl (
              _,
              property.method_rule true false _ _ _ (record {
                behind_head = behind 4 object_tokens;
                behind_key = behind 5 object_tokens;
                reads_head = method_head _ refl (async_word refl refl refl refl) (no_star refl refl);
                reads_key = word_key _ _ a_word refl;
                reads_parts = record {
                  middle = behind 7 object_tokens;
                  reads_parameters = no_parameters (behind 5 object_tokens) refl refl;
                  reads_body = record {
                    items = awaiting;
                    close = behind 13 object_tokens;
                    opens = refl;
                    reads_items = (
                      _,
                      (
                        refl,
                        statement.expr_rule _ (behind 12 object_tokens) refl
                            (assignment_rule (operators_rule (single_rule (await_rule _ refl refl (
                              operand_rule (
                                call_rule _ _ _ (operand refl).0 refl
                                    (record { elements = []; close = behind 11 object_tokens; opens = refl; reads_elements = refl; closes = refl; next = refl; is = refl }) refl,
                                refl,
                              ),
                              refl,
                            ) refl)) refl) refl)
                            refl (by_semicolon refl refl) refl,
                      ),
                      refl,
                    );
                    closes = refl;
                    next = refl;
                    is = refl;
                  };
                };
                arity = refl;
              }) refl,
              no_comma refl,
            )
                refl refl refl),
            refl,
          ) refl) refl,
          no_comma refl,
        );
        closes = refl;
        next = refl;
        is = refl;
      }) refl,
      refl,
    ) refl
