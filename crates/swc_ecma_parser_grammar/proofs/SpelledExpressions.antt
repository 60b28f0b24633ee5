-- Expressions that lists of tokens spell, each with the tree that is known by hand.
use Rattle.std.proofs.Common.{ℕ, true, false, [], ◌∷◌, None, refl, arith}
use Rattle.std.specs.Prelude.{codes}
use Rattle.swc_ecma_parser_token.specs.declared.keyword.Keyword.TheVariants as keyword
use Rattle.swc_ecma_parser_token.specs.declared.operator.BinOpToken.TheVariants as bin
use Rattle.swc_ecma_parser_token.specs.declared.token.Token.TheVariants as token
use Rattle.swc_ecma_parser_input.specs.Place.{Place}
use Rattle.swc_ecma_parser_model.specs.declared.leaves.MetaPropKind.TheVariants as meta
use Rattle.swc_ecma_parser_model.specs.declared.operators.UnaryOp.TheVariants as unary
use Rattle.swc_ecma_parser_model.specs.declared.operators.BinaryOp.TheVariants as binary
use Rattle.swc_ecma_parser_model.specs.Tree as tree
use Rattle.swc_ecma_parser_model.specs.Tree.{Tree, Text, listed}
use Rattle.swc_ecma_parser_grammar.specs.Names.{Code}
use Rattle.swc_ecma_parser_grammar.specs.language.Goals.{expr_goal, expression, assignment}
use Rattle.swc_ecma_parser_grammar.specs.language.Contexts.{in_body, with_in}
use Rattle.swc_ecma_parser_grammar.specs.language.Lists.{no_comma, last_comma, last_element}
use Rattle.swc_ecma_parser_grammar.specs.language.Parts.{plain_element, no_name, word_access}
use Rattle.swc_ecma_parser_grammar.specs.language.Classes.{no_heritage}
use Rattle.swc_ecma_parser_grammar.specs.language.LeftSides.{string_rule, array_rule, class_rule, primary_rule, import_meta_rule, member_rule, call_rule, import_call_rule}
use Rattle.swc_ecma_parser_grammar.specs.language.Expressions.{operand_rule, unary_rule, await_rule, single_rule, left_rule, power_rule, operators_rule, bare_yield_rule, assignment_rule}
use Rattle.swc_ecma_parser_grammar.specs.language.Reads.{Reads}
use Rattle.swc_ecma_parser_grammar.proofs.Spelling.{at, t, below, named, keyword, operator, start, behind, plain, looks, a_token, a_word, operand, one, value, name_value}

abbrev name : ℕ → ℕ → Text → Tree
name lo hi text = tree.ident (at lo hi) text

-- `a` and on the next line `(b)`: one call
abbrev call_tokens : Place
call_tokens = start (t (named (codes "a")) 0 1 ∷ below token.LParen 2 3 ∷ t (named (codes "b")) 3 4 ∷ t token.RParen 4 5 ∷ [])

abbrev call : Tree
call = tree.call (at 0 5) (name 0 1 (codes "a")) (listed (tree.element None (name 3 4 (codes "b")) ∷ []))

call_on_the_next_line : Reads 2 (expr_goal expression (with_in plain) call call_tokens (behind 4 call_tokens))
unfolding looks
call_on_the_next_line =
    assignment_rule (value (
      call_rule _ _ _ (operand refl).0 refl
          (record { elements = tree.element None (name 3 4 (codes "b")) ∷ []; close = behind 3 call_tokens; opens = refl; reads_elements = (behind 3 call_tokens, plain_element _ (name_value refl) refl, no_comma refl); closes = refl; next = refl; is = refl }) refl,
      refl,
    ) refl) refl

-- `x` and on the next line `/ y`: a division
abbrev division_tokens : Place
division_tokens = start (t (named (codes "x")) 0 1 ∷ below (operator bin.Div) 2 3 ∷ t (named (codes "y")) 4 5 ∷ [])

division : Reads 2 (expr_goal expression (with_in plain) (tree.bin (at 0 5) binary.Div (name 0 1 (codes "x")) (name 4 5 (codes "y"))) division_tokens (behind 3 division_tokens))
unfolding looks
division = assignment_rule (operators_rule (left_rule binary.Div _ _ _ (omega arith) refl refl (one (operand refl)) refl (one (operand refl), refl) refl refl refl) refl) refl

-- `a + b + c` groups to the left
abbrev sum_tokens : Place
sum_tokens = start (t (named (codes "a")) 0 1 ∷ t (operator bin.Add) 2 3 ∷ t (named (codes "b")) 4 5 ∷ t (operator bin.Add) 6 7 ∷ t (named (codes "c")) 8 9 ∷ [])

abbrev sum : Tree
sum = tree.bin (at 0 9) binary.Add (tree.bin (at 0 5) binary.Add (name 0 1 (codes "a")) (name 4 5 (codes "b"))) (name 8 9 (codes "c"))

sums_group_left : Reads 2 (expr_goal expression (with_in plain) sum sum_tokens (behind 5 sum_tokens))
unfolding looks
sums_group_left =
    assignment_rule (operators_rule (left_rule binary.Add _ _ _ (omega arith) refl refl
    (left_rule binary.Add _ _ _ (omega arith) refl refl (one (operand refl)) refl (one (operand refl), refl) refl refl refl)
    refl (one (operand refl), refl) refl refl refl) refl) refl

-- `a ** b ** c` groups to the right
abbrev power_tokens : Place
power_tokens = start (t (named (codes "a")) 0 1 ∷ t (operator bin.Exp) 2 4 ∷ t (named (codes "b")) 5 6 ∷ t (operator bin.Exp) 7 9 ∷ t (named (codes "c")) 10 11 ∷ [])

abbrev power : Tree
power = tree.bin (at 0 11) binary.Exp (name 0 1 (codes "a")) (tree.bin (at 5 11) binary.Exp (name 5 6 (codes "b")) (name 10 11 (codes "c")))

powers_group_right : Reads 3 (expr_goal expression (with_in plain) power power_tokens (behind 5 power_tokens))
unfolding looks
powers_group_right =
    assignment_rule (operators_rule (power_rule _ _ _ (omega arith) (operand_rule (operand refl)) refl refl
    (power_rule _ _ _ (omega arith) (operand_rule (operand refl)) refl refl (one (operand refl), refl) refl, refl) refl) refl) refl

-- `!global.ActiveXObject && 'ActiveXObject' in global`, from its first token on
abbrev test_tokens : Place
test_tokens =
    start (t token.Bang 14 15 ∷ t (named (codes "global")) 15 21 ∷ t token.Dot 21 22 ∷ t (named (codes "ActiveXObject")) 22 35 ∷ t (operator bin.LogicalAnd) 36 38
    ∷ t (token.Str (codes "ActiveXObject") (codes "'ActiveXObject'")) 39 54 ∷ t (keyword keyword.In) 55 57 ∷ t (named (codes "global")) 58 64 ∷ t token.Semi 64 65 ∷ [])

abbrev test : Tree
test = tree.bin (at 14 64) binary.LogicalAnd
    (tree.unary (at 14 35) unary.Bang (tree.member (at 15 35) (name 15 21 (codes "global")) (name 22 35 (codes "ActiveXObject"))))
    (tree.bin (at 39 64) binary.In (tree.str (at 39 54) (codes "ActiveXObject") (codes "'ActiveXObject'")) (name 58 64 (codes "global")))

tests : Reads 3 (expr_goal expression (with_in plain) test test_tokens (behind 8 test_tokens))
unfolding looks
tests =
    assignment_rule (operators_rule (left_rule binary.LogicalAnd _ _ _ (omega arith) refl refl
    (single_rule (unary_rule unary.Bang _ refl (operand_rule (member_rule _ _ _ (operand refl).0 refl (word_access _ _ refl a_word refl) refl, refl), refl) refl))
    refl
    (left_rule binary.In _ _ _ (omega arith) refl refl (one (primary_rule (string_rule _ _ _ a_token refl), refl)) refl (one (operand refl), refl) refl refl refl, refl)
    refl refl refl) refl) refl

-- `foo * class {} / bar`: `/` behind a class divides it
abbrev class_operand_tokens : Place
class_operand_tokens =
    start (t (named (codes "foo")) 0 3 ∷ t (operator bin.Mul) 4 5 ∷ t (keyword keyword.Class) 6 11 ∷ t token.LBrace 12 13 ∷ t token.RBrace 13 14 ∷ t (operator bin.Div) 15 16
    ∷ t (named (codes "bar")) 17 20 ∷ t token.Semi 20 21 ∷ [])

abbrev class_operand : Tree
class_operand = tree.bin (at 0 20) binary.Div
    (tree.bin (at 0 14) binary.Mul (name 0 3 (codes "foo")) (tree.class_expr (at 6 14) tree.absent (tree.class (at 6 14) (listed []) (listed []) tree.absent)))
    (name 17 20 (codes "bar"))

class_operands : Reads 2 (expr_goal expression (with_in plain) class_operand class_operand_tokens (behind 7 class_operand_tokens))
unfolding looks
class_operands =
    assignment_rule (operators_rule (left_rule binary.Div _ _ _ (omega arith) refl refl
    (left_rule binary.Mul _ _ _ (omega arith) refl refl (one (operand refl)) refl (
      one (
        primary_rule (class_rule _ _ (record {
          heritage = tree.absent;
          members = [];
          behind_name = behind 3 class_operand_tokens;
          opening = behind 3 class_operand_tokens;
          close = behind 4 class_operand_tokens;
          is_class = refl;
          reads_name = no_name refl refl;
          reads_heritage = no_heritage refl refl;
          opens = refl;
          reads_members = refl;
          closes = refl;
          next = refl;
          is = refl;
        }) refl),
        refl,
      ),
      refl,
    ) refl refl refl)
    refl (one (operand refl), refl) refl refl refl) refl) refl

-- `import('foo',)` with import attributes
abbrev attributed : Code
attributed = record plain { setting = record plain.setting { import_attributes = true } }

abbrev import_tokens : Place
import_tokens =
    start (t (keyword keyword.Import) 0 6 ∷ t token.LParen 6 7 ∷ t (token.Str (codes "foo") (codes "'foo'")) 7 12 ∷ t token.Comma 12 13 ∷ t token.RParen 13 14 ∷ [])

abbrev import_call : Tree
import_call = tree.call (at 0 14) (tree.import_callee (at 0 6)) (listed (tree.element None (tree.str (at 7 12) (codes "foo") (codes "'foo'")) ∷ []))

import_with_a_comma : Reads 2 (expr_goal expression (with_in attributed) import_call import_tokens (behind 5 import_tokens))
unfolding looks
import_with_a_comma =
    assignment_rule (value (
      import_call_rule _ refl (record {
        elements = tree.element None (tree.str (at 7 12) (codes "foo") (codes "'foo'")) ∷ [];
        close = behind 4 import_tokens;
        opens = refl;
        reads_elements = (behind 3 import_tokens, plain_element _ (value (primary_rule (string_rule _ _ _ a_token refl), refl) refl) refl, last_comma refl refl refl);
        closes = refl;
        next = refl;
        is = refl;
      }) refl,
      refl,
    ) refl) refl

-- `import.meta.url` in what may be a module
abbrev maybe_module : Code
maybe_module = record plain { flags = record plain.flags { can_be_module = true } }

abbrev url_tokens : Place
url_tokens =
    start (t (keyword keyword.Import) 12 18 ∷ t token.Dot 18 19 ∷ t (named (codes "meta")) 19 23 ∷ t token.Dot 23 24 ∷ t (named (codes "url")) 24 27 ∷ t token.Semi 27 28 ∷ [])

import_meta_url : Reads 1 (expr_goal assignment (with_in maybe_module) (tree.member (at 12 27) (tree.meta_prop (at 12 23) meta.ImportMeta) (name 24 27 (codes "url"))) url_tokens (behind 5 url_tokens))
unfolding looks
import_meta_url = value (member_rule _ _ _ (import_meta_rule refl refl refl refl refl refl) refl (word_access _ _ refl a_word refl) refl, refl) refl

-- `[await]` where it is a name
abbrev await_tokens : Place
await_tokens = start (t token.LBracket 18 19 ∷ t (keyword keyword.Await) 19 24 ∷ t token.RBracket 24 25 ∷ t token.Semi 25 26 ∷ [])

await_as_a_name : Reads 2 (expr_goal expression (with_in (in_body plain false false)) (tree.array (at 18 25) (listed (tree.element None (name 19 24 (codes "await")) ∷ []))) await_tokens (behind 3 await_tokens))
unfolding looks
await_as_a_name =
    assignment_rule (value (primary_rule (array_rule _ _ refl (last_element _ _ (plain_element _ (name_value refl) refl) (no_comma refl) refl) refl refl refl), refl) refl) refl

-- `await promise` in code that may be a module's
abbrev promise_tokens : Place
promise_tokens = start (t (keyword keyword.Await) 0 5 ∷ t (named (codes "promise")) 6 13 ∷ [])

await_promise : Reads 2 (expr_goal expression (with_in maybe_module) (tree.await (at 0 13) (name 6 13 (codes "promise"))) promise_tokens (behind 2 promise_tokens))
unfolding looks
await_promise = assignment_rule (operators_rule (single_rule (await_rule _ refl refl (operand_rule (operand refl), refl) refl)) refl) refl

-- `yield` at the end of its line has no argument
abbrev yield_tokens : Place
yield_tokens = start (t (keyword keyword.Yield) 16 21 ∷ below (named (codes "a")) 22 23 ∷ t token.RBrace 24 25 ∷ [])

yield_alone : Reads 1 (expr_goal expression (with_in (in_body plain false true)) (tree.yield (at 16 21) tree.absent false) yield_tokens (behind 1 yield_tokens))
unfolding looks
yield_alone = assignment_rule (bare_yield_rule refl refl refl refl refl) refl
