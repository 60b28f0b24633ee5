-- Patterns and arrows that lists of tokens spell, each with the tree that is known by hand.
use Rattle.swc_ecma_parser_grammar.specs.Follows.{not_async, async_word}
use Rattle.std.proofs.Common.{true, false, List, [], ◌∷◌, None, refl}
use Rattle.std.specs.Prelude.{codes}
use Rattle.swc_ecma_parser_token.specs.declared.keyword.Keyword.TheVariants as keywords
use Rattle.swc_ecma_parser_token.specs.declared.token.Token.TheVariants as token
use Rattle.swc_ecma_parser_input.specs.Place.{Place}
use Rattle.swc_ecma_parser_model.specs.declared.operators.AssignOp.TheVariants as assign
use Rattle.swc_ecma_parser_model.specs.Tree as tree
use Rattle.swc_ecma_parser_model.specs.Tree.{Tree, listed}
use Rattle.swc_ecma_parser_grammar.specs.language.PatternItems.{element_rule}
use Rattle.swc_ecma_parser_grammar.specs.language.Contexts.{with_in}
use Rattle.swc_ecma_parser_grammar.specs.language.Goals.{expr_goal, expression}
use Rattle.swc_ecma_parser_grammar.specs.language.Lists.{no_comma}
use Rattle.swc_ecma_parser_grammar.specs.language.Parts.{plain_element, word_access, word_key}
use Rattle.swc_ecma_parser_grammar.specs.language.LeftSides as left_side
use Rattle.swc_ecma_parser_grammar.specs.language.LeftSides.{number_rule, paren_rule, primary_rule, member_rule, call_rule, import_call_rule}
use Rattle.swc_ecma_parser_grammar.specs.language.Patterns.{key_value_rule, default_rule, array_rule, object_rule, bare_rule, initialized_rule}
use Rattle.swc_ecma_parser_grammar.specs.language.Expressions.{destructuring_rule, arrow_rule, name_head, parameters_head, block_body, expression_body, assignment_rule}
use Rattle.swc_ecma_parser_grammar.specs.language.Reads.{Reads}
use Rattle.swc_ecma_parser_grammar.proofs.Spelling.{at, t, named, keyword, equals, start, behind, plain, looks, a_token, a_word, a_name, value, name_value}
use Rattle.swc_ecma_parser_grammar.proofs.SpellingParts.{variable, leaf, single, bound, target}

-- ---- assignment patterns

-- `[[a]] = b`
abbrev nested_tokens : Place
nested_tokens =
    start (t token.LBracket 0 1 ∷ t token.LBracket 1 2 ∷ t (named (codes "a")) 2 3 ∷ t token.RBracket 3 4 ∷ t token.RBracket 4 5 ∷ t equals 6 7 ∷ t (named (codes "b")) 8 9 ∷ [])

abbrev nested : Tree
nested = tree.assign (at 0 9) assign.Assign (tree.array_pat (at 0 5) (listed (tree.array_pat (at 1 4) (listed (leaf 2 3 (codes "a") ∷ [])) ∷ []))) (variable 8 9 (codes "b"))

nested_array : Reads 3 (expr_goal expression (with_in plain) nested nested_tokens (behind 7 nested_tokens))
unfolding looks
nested_array =
    assignment_rule (destructuring_rule _ _ _
    (array_rule _ _ refl (single (element_rule (bare_rule (array_rule _ _ refl (single (element_rule (bare_rule (target refl refl) refl))) refl refl refl) refl))) refl refl refl)
    refl refl (name_value refl) refl) refl

-- `({a: [b]} = c)`
abbrev property_tokens : Place
property_tokens =
    start (t token.LParen 0 1 ∷ t token.LBrace 1 2 ∷ t (named (codes "a")) 2 3 ∷ t token.Colon 3 4 ∷ t token.LBracket 5 6 ∷ t (named (codes "b")) 6 7 ∷ t token.RBracket 7 8
    ∷ t token.RBrace 8 9 ∷ t equals 10 11 ∷ t (named (codes "c")) 12 13 ∷ t token.RParen 13 14 ∷ [])

abbrev property : List Tree
property = tree.key_value_pat_prop (at 2 8) (variable 2 3 (codes "a")) (tree.array_pat (at 5 8) (listed (leaf 6 7 (codes "b") ∷ []))) ∷ []

abbrev property_assignment : Tree
property_assignment = tree.paren (at 0 14) (tree.assign (at 1 13) assign.Assign (tree.object_pat (at 1 9) (listed property)) (variable 12 13 (codes "c")))

property_pattern : Reads 4 (expr_goal expression (with_in plain) property_assignment property_tokens (behind 11 property_tokens))
unfolding looks
property_pattern =
    assignment_rule (value (
      primary_rule (paren_rule _ _ refl
          (assignment_rule (destructuring_rule _ _ _
          (object_rule property _ refl (
            _,
            key_value_rule _ _ _ (word_key _ _ a_word refl) refl (bare_rule (array_rule _ _ refl (single (element_rule (bare_rule (target refl refl) refl))) refl refl refl) refl) refl,
            no_comma refl,
          )
          refl refl refl)
          refl refl (name_value refl) refl) refl)
          refl refl refl),
      refl,
    ) refl) refl

-- `({a = 1} = b)`
abbrev default_tokens : Place
default_tokens =
    start (t token.LParen 0 1 ∷ t token.LBrace 1 2 ∷ t (named (codes "a")) 2 3 ∷ t equals 4 5 ∷ t (token.Num (codes "1")) 6 7 ∷ t token.RBrace 7 8 ∷ t equals 9 10
    ∷ t (named (codes "b")) 11 12 ∷ t token.RParen 12 13 ∷ [])

abbrev default : List Tree
default = tree.assign_pat_prop (at 2 7) (leaf 2 3 (codes "a")) (tree.num (at 6 7) (codes "1")) ∷ []

abbrev default_assignment : Tree
default_assignment = tree.paren (at 0 13) (tree.assign (at 1 12) assign.Assign (tree.object_pat (at 1 8) (listed default)) (variable 11 12 (codes "b")))

default_pattern : Reads 3 (expr_goal expression (with_in plain) default_assignment default_tokens (behind 9 default_tokens))
unfolding looks
default_pattern =
    assignment_rule (value (
      primary_rule (paren_rule _ _ refl
          (assignment_rule (destructuring_rule _ _ _
          (object_rule default _ refl (_, default_rule _ _ _ _ (a_name refl) refl (value (primary_rule (number_rule _ _ a_token refl), refl) refl) refl, no_comma refl) refl refl refl)
          refl refl (name_value refl) refl) refl)
          refl refl refl),
      refl,
    ) refl) refl

-- ---- arrows

-- `([[a]]) => b`
abbrev arrow_tokens : Place
arrow_tokens =
    start (t token.LParen 0 1 ∷ t token.LBracket 1 2 ∷ t token.LBracket 2 3 ∷ t (named (codes "a")) 3 4 ∷ t token.RBracket 4 5 ∷ t token.RBracket 5 6 ∷ t token.RParen 6 7
    ∷ t token.Arrow 8 10 ∷ t (named (codes "b")) 11 12 ∷ [])

abbrev nested_parameters : List Tree
nested_parameters = tree.array_pat (at 1 6) (listed (tree.array_pat (at 2 5) (listed (leaf 3 4 (codes "a") ∷ [])) ∷ [])) ∷ []

nested_arrow : Reads 4 (expr_goal expression (with_in plain) (tree.arrow (at 0 12) (listed nested_parameters) (variable 11 12 (codes "b")) false) arrow_tokens (behind 9 arrow_tokens))
unfolding looks
nested_arrow =
    assignment_rule (arrow_rule false nested_parameters _ _ _ (not_async refl refl)
    (parameters_head (record {
      close = behind 6 arrow_tokens;
      opens = refl;
      reads_patterns = (
        _,
        element_rule (bare_rule (array_rule _ _ refl
            (single (element_rule (bare_rule (array_rule _ _ refl (single (element_rule (bare_rule (bound refl) refl))) refl refl refl) refl))) refl refl refl) refl),
        no_comma refl,
      );
      closes = refl;
      next = refl;
    })) refl refl (expression_body refl (name_value refl)) refl) refl

-- `(a, [b]) => c`
abbrev two_tokens : Place
two_tokens =
    start (t token.LParen 0 1 ∷ t (named (codes "a")) 1 2 ∷ t token.Comma 2 3 ∷ t token.LBracket 4 5 ∷ t (named (codes "b")) 5 6 ∷ t token.RBracket 6 7 ∷ t token.RParen 7 8
    ∷ t token.Arrow 9 11 ∷ t (named (codes "c")) 12 13 ∷ [])

abbrev two_parameters : List Tree
two_parameters = leaf 1 2 (codes "a") ∷ tree.array_pat (at 4 7) (listed (leaf 5 6 (codes "b") ∷ [])) ∷ []

two_parameter_arrow : Reads 3 (expr_goal expression (with_in plain) (tree.arrow (at 0 13) (listed two_parameters) (variable 12 13 (codes "c")) false) two_tokens (behind 9 two_tokens))
unfolding looks
two_parameter_arrow =
    assignment_rule (arrow_rule false two_parameters _ _ _ (not_async refl refl)
    (parameters_head (record {
      close = behind 6 two_tokens;
      opens = refl;
      reads_patterns = (
        _,
        element_rule (bare_rule (bound refl) refl),
        refl,
        refl,
        (_, element_rule (bare_rule (array_rule _ _ refl (single (element_rule (bare_rule (bound refl) refl))) refl refl refl) refl), no_comma refl),
      );
      closes = refl;
      next = refl;
    })) refl refl (expression_body refl (name_value refl)) refl) refl

-- `async (a, [b]) => c`
abbrev async_tokens : Place
async_tokens =
    start (t (named (codes "async")) 0 5 ∷ t token.LParen 6 7 ∷ t (named (codes "a")) 7 8 ∷ t token.Comma 8 9 ∷ t token.LBracket 10 11 ∷ t (named (codes "b")) 11 12
    ∷ t token.RBracket 12 13 ∷ t token.RParen 13 14 ∷ t token.Arrow 15 17 ∷ t (named (codes "c")) 18 19 ∷ [])

abbrev async_parameters : List Tree
async_parameters = leaf 7 8 (codes "a") ∷ tree.array_pat (at 10 13) (listed (leaf 11 12 (codes "b") ∷ [])) ∷ []

async_arrow : Reads 3 (expr_goal expression (with_in plain) (tree.arrow (at 0 19) (listed async_parameters) (variable 18 19 (codes "c")) true) async_tokens (behind 10 async_tokens))
unfolding looks
async_arrow =
    assignment_rule (arrow_rule true async_parameters _ _ _ (async_word refl refl refl refl)
    (parameters_head (record {
      close = behind 7 async_tokens;
      opens = refl;
      reads_patterns = (
        _,
        element_rule (bare_rule (bound refl) refl),
        refl,
        refl,
        (_, element_rule (bare_rule (array_rule _ _ refl (single (element_rule (bare_rule (bound refl) refl))) refl refl refl) refl), no_comma refl),
      );
      closes = refl;
      next = refl;
    })) refl refl (expression_body refl (name_value refl)) refl) refl

-- `(a = [b]) => c`: the default is an array, and no pattern
abbrev initial_tokens : Place
initial_tokens =
    start (t token.LParen 0 1 ∷ t (named (codes "a")) 1 2 ∷ t equals 3 4 ∷ t token.LBracket 5 6 ∷ t (named (codes "b")) 6 7 ∷ t token.RBracket 7 8 ∷ t token.RParen 8 9
    ∷ t token.Arrow 10 12 ∷ t (named (codes "c")) 13 14 ∷ [])

abbrev initial_parameters : List Tree
initial_parameters = tree.assign_pat (at 1 8) (leaf 1 2 (codes "a")) (tree.array (at 5 8) (listed (tree.element None (variable 6 7 (codes "b")) ∷ []))) ∷ []

initialized_parameter : Reads 4 (expr_goal expression (with_in plain) (tree.arrow (at 0 14) (listed initial_parameters) (variable 13 14 (codes "c")) false) initial_tokens (behind 9 initial_tokens))
unfolding looks
initialized_parameter =
    assignment_rule (arrow_rule false initial_parameters _ _ _ (not_async refl refl)
    (parameters_head (record {
      close = behind 6 initial_tokens;
      opens = refl;
      reads_patterns = (
        _,
        element_rule (initialized_rule _ _ _ (bound refl) refl
            (value (primary_rule (left_side.array_rule _ _ refl (single (plain_element _ (name_value refl) refl)) refl refl refl), refl) refl) refl),
        no_comma refl,
      );
      closes = refl;
      next = refl;
    })) refl refl (expression_body refl (name_value refl)) refl) refl

-- `import(filePath).then(bar => {})`
abbrev then_tokens : Place
then_tokens =
    start (t (keyword keywords.Import) 0 6 ∷ t token.LParen 6 7 ∷ t (named (codes "filePath")) 7 15 ∷ t token.RParen 15 16 ∷ t token.Dot 16 17 ∷ t (named (codes "then")) 17 21
    ∷ t token.LParen 21 22 ∷ t (named (codes "bar")) 22 25 ∷ t token.Arrow 26 28 ∷ t token.LBrace 29 30 ∷ t token.RBrace 30 31 ∷ t token.RParen 31 32 ∷ [])

abbrev file_path : List Tree
file_path = tree.element None (variable 7 15 (codes "filePath")) ∷ []

abbrev handler : List Tree
handler = tree.element None (tree.arrow (at 22 31) (listed (leaf 22 25 (codes "bar") ∷ [])) (tree.block (at 29 31) (listed [])) false) ∷ []

abbrev then_call : Tree
then_call = tree.call (at 0 32) (tree.member (at 0 21) (tree.call (at 0 16) (tree.import_callee (at 0 6)) (listed file_path)) (variable 17 21 (codes "then"))) (listed handler)

arrow_argument : Reads 3 (expr_goal expression (with_in plain) then_call then_tokens (behind 12 then_tokens))
unfolding looks
arrow_argument =
    assignment_rule (value (
      call_rule _ _ _
          (member_rule _ _ _
          (import_call_rule _ refl
          (record { elements = file_path; close = behind 3 then_tokens; opens = refl; reads_elements = (_, plain_element _ (name_value refl) refl, no_comma refl); closes = refl; next = refl; is = refl })
          refl)
          refl (word_access _ _ refl a_word refl) refl)
          refl
          (record {
            elements = handler;
            close = behind 11 then_tokens;
            opens = refl;
            reads_elements = (
              _,
              plain_element _ (arrow_rule false (leaf 22 25 (codes "bar") ∷ []) _ _ _ (not_async refl refl) (name_head _ (bound refl) refl refl) refl refl
                  (block_body (record { items = []; close = behind 10 then_tokens; opens = refl; reads_items = refl; closes = refl; next = refl; is = refl })) refl) refl,
              no_comma refl,
            );
            closes = refl;
            next = refl;
            is = refl;
          }) refl,
      refl,
    ) refl) refl
