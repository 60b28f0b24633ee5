-- Regular expressions, templates, optional chains, `new.target` and `#a in b` that lists of tokens spell, each with the tree that is known
-- by hand.
use Rattle.std.proofs.Common.{ℕ, true, false, [], ◌∷◌, Some, None, refl, arith}
use Rattle.std.specs.Prelude.{codes}
use Rattle.swc_ecma_parser_token.specs.declared.keyword.Keyword.TheVariants as keyword
use Rattle.swc_ecma_parser_token.specs.declared.token.Token.TheVariants as token
use Rattle.swc_ecma_parser_input.specs.Place.{Place}
use Rattle.swc_ecma_parser_model.specs.declared.leaves.MetaPropKind.TheVariants as meta
use Rattle.swc_ecma_parser_model.specs.declared.operators.BinaryOp.TheVariants as binary
use Rattle.swc_ecma_parser_model.specs.Tree as tree
use Rattle.swc_ecma_parser_model.specs.Tree.{Tree, Text, listed}
use Rattle.swc_ecma_parser_grammar.specs.language.Goals.{expr_goal, expression}
use Rattle.swc_ecma_parser_grammar.specs.language.Contexts.{with_in}
use Rattle.swc_ecma_parser_grammar.specs.language.Lists.{no_comma}
use Rattle.swc_ecma_parser_grammar.specs.language.Parts.{plain_element, word_access}
use Rattle.swc_ecma_parser_grammar.specs.language.Templates.{last_text, only_text, first_text}
use Rattle.swc_ecma_parser_grammar.specs.language.Links.{name_link, access_link, arguments_link}
use Rattle.swc_ecma_parser_grammar.specs.language.LeftSides.{regex_rule, template_rule, primary_rule, new_target_rule, tagged_rule, chain_rule, linked_rule}
use Rattle.swc_ecma_parser_grammar.specs.language.Expressions.{operators_rule, private_in_rule, assignment_rule}
use Rattle.swc_ecma_parser_grammar.specs.language.Reads.{Reads}
use Rattle.swc_ecma_parser_grammar.proofs.Spelling.{at, t, named, keyword, start, behind, plain, looks, a_token, a_word, operand, one, value, name_value}

abbrev name : ℕ → ℕ → Text → Tree
name lo hi text = tree.ident (at lo hi) text

-- `/a/g`
abbrev regex_tokens : Place
regex_tokens = start (t (token.Regex (codes "a") (codes "g")) 0 4 ∷ [])

regular_expression : Reads 1 (expr_goal expression (with_in plain) (tree.regex (at 0 4) (codes "a") (codes "g")) regex_tokens (behind 1 regex_tokens))
unfolding looks
regular_expression = assignment_rule (value (primary_rule (regex_rule _ _ _ a_token refl), refl) refl) refl

-- a template of an expression and two texts: `a${b}c` in its quotes
abbrev template_tokens : Place
template_tokens =
    start (t (token.TemplateHead (codes "a") (Some (codes "a"))) 0 4 ∷ t (named (codes "b")) 4 5 ∷ t (token.TemplateTail (codes "c") (Some (codes "c"))) 5 8 ∷ [])

abbrev template : Tree
template = tree.tpl (at 0 8) (listed (name 4 5 (codes "b") ∷ []))
    (listed (tree.quasi (at 0 4) false (Some (codes "a")) (codes "a") ∷ tree.quasi (at 5 8) true (Some (codes "c")) (codes "c") ∷ []))

template_of_two_texts : Reads 2 (expr_goal expression (with_in plain) template template_tokens (behind 3 template_tokens))
unfolding looks
template_of_two_texts =
    assignment_rule (value (
      primary_rule (template_rule _ _ (first_text _ _ _
          (record { raw = codes "a"; cooked = Some (codes "a"); span = at 0 4; reads_text = a_token; is_right = refl; is = refl })
          (last_text _ _ _ (assignment_rule (name_value refl) refl)
          (record { raw = codes "c"; cooked = Some (codes "c"); span = at 5 8; reads_text = a_token; is_right = refl; is = refl }) refl refl)
          refl) refl),
      refl,
    ) refl) refl

-- behind a tag a text with an escape that is none, so without a value
abbrev tagged_tokens : Place
tagged_tokens = start (t (named (codes "f")) 0 1 ∷ t (token.Template (codes "u") None) 1 5 ∷ [])

abbrev tagged : Tree
tagged = tree.tagged_tpl (at 0 5) (name 0 1 (codes "f")) (tree.tpl (at 1 5) (listed []) (listed (tree.quasi (at 1 5) true None (codes "u") ∷ [])))

template_behind_a_tag : Reads 1 (expr_goal expression (with_in plain) tagged tagged_tokens (behind 2 tagged_tokens))
unfolding looks
template_behind_a_tag =
    assignment_rule (value (
      tagged_rule _ _ _ _ (operand refl).0 refl
          (only_text _ (record { raw = codes "u"; cooked = None; span = at 1 5; reads_text = a_token; is_right = refl; is = refl }) refl refl)
          refl,
      refl,
    ) refl) refl

-- `a?.b.c(d)`: each link has the span from the start of the chain on
abbrev chain_tokens : Place
chain_tokens =
    start (t (named (codes "a")) 0 1 ∷ t token.QuestionDot 1 3 ∷ t (named (codes "b")) 3 4 ∷ t token.Dot 4 5 ∷ t (named (codes "c")) 5 6 ∷ t token.LParen 6 7
    ∷ t (named (codes "d")) 7 8 ∷ t token.RParen 8 9 ∷ [])

abbrev first_link : Tree
first_link = tree.opt_chain (at 0 4) true (tree.member (at 0 4) (name 0 1 (codes "a")) (name 3 4 (codes "b")))

abbrev second_link : Tree
second_link = tree.opt_chain (at 0 6) false (tree.member (at 0 6) first_link (name 5 6 (codes "c")))

abbrev chain : Tree
chain = tree.opt_chain (at 0 9) false (tree.call (at 0 9) second_link (listed (tree.element None (name 7 8 (codes "d")) ∷ [])))

optional_chain : Reads 2 (expr_goal expression (with_in plain) chain chain_tokens (behind 8 chain_tokens))
unfolding looks
optional_chain =
    assignment_rule (value (
      linked_rule _ _ _
          (linked_rule _ _ _
          (chain_rule _ _ _ (operand refl).0 refl (name_link _ _ refl a_word refl) refl)
          refl (access_link _ refl (word_access _ _ refl a_word refl) refl) refl)
          refl
          (arguments_link _ (record {
            elements = tree.element None (name 7 8 (codes "d")) ∷ [];
            close = behind 7 chain_tokens;
            opens = refl;
            reads_elements = (behind 7 chain_tokens, plain_element _ (name_value refl) refl, no_comma refl);
            closes = refl;
            next = refl;
            is = refl;
          }) refl)
          refl,
      refl,
    ) refl) refl

-- `new.target`
abbrev target_tokens : Place
target_tokens = start (t (keyword keyword.New) 0 3 ∷ t token.NewDot 3 4 ∷ t (named (codes "target")) 4 10 ∷ [])

new_target : Reads 1 (expr_goal expression (with_in plain) (tree.meta_prop (at 0 10) meta.NewTarget) target_tokens (behind 3 target_tokens))
unfolding looks
new_target = assignment_rule (value (new_target_rule refl refl refl refl refl, refl) refl) refl

-- `#a in b`
abbrev private_tokens : Place
private_tokens = start (t token.HashIn 0 1 ∷ t (named (codes "a")) 1 2 ∷ t (keyword keyword.In) 3 5 ∷ t (named (codes "b")) 6 7 ∷ [])

abbrev private_in : Tree
private_in = tree.bin (at 0 7) binary.In (tree.private_name (at 0 2) (at 1 2) (codes "a")) (name 6 7 (codes "b"))

private_name_before_in : Reads 2 (expr_goal expression (with_in plain) private_in private_tokens (behind 4 private_tokens))
unfolding looks
private_name_before_in =
    assignment_rule (operators_rule (private_in_rule _ _ _ (omega arith) refl
    (record { text = codes "a"; span = at 1 2; hash = refl; reads_word = a_word; touches = refl; is = refl }) refl (one (operand refl), refl) refl) refl) refl
