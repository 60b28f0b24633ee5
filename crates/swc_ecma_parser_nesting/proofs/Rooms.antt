-- A token opens one bracket at most.
use Rattle.std.proofs.Common.{◌≡◌, ℕ, ◌+◌, ◌≤◌, Bool, true, false, cond, List, [], ◌∷◌, length, refl, ap, arith}
use Rattle.swc_ecma_parser_token.specs.declared.kind.TokenKind.{TokenKind}
use Rattle.swc_ecma_parser_token.specs.declared.kind.TokenKind.TheVariants as kind
use Rattle.swc_ecma_parser_nesting.specs.declared.ahead.Ahead.{Ahead}
use Rattle.swc_ecma_parser_nesting.specs.declared.ahead.Ahead.TheVariants as ahead
use Rattle.swc_ecma_parser_nesting.specs.declared.nest.Nest.{Nest}
use Rattle.swc_ecma_parser_nesting.specs.declared.stack.Open.{Open}
use Rattle.swc_ecma_parser_nesting.specs.declared.stack.Open.TheVariants as opened
use Rattle.swc_ecma_parser_nesting.specs.Stacked.{top_of, below_top, is_question, past_questions}
use Rattle.swc_ecma_parser_nesting.specs.Nesting.{behind_word, body, brace, colon, in_class, is_key, is_member_name, is_name, mark, with_word, word}

-- at most one entry more
abbrev Grows : List Open → List Open → Type 0
Grows os more = length more ≤ length os + 1

same : (os : List Open) → Grows os os
same os = omega arith

below : (os : List Open) → length (below_top os) ≤ length os
below [] = omega arith
below (o ∷ os) = omega arith

questions-choice : (v : Bool) (o : Open) (os less : List Open) → length less ≤ length os → length (cond v less (o ∷ os)) ≤ length (o ∷ os)
questions-choice true o os less h = omega (arith, h)
questions-choice false o os less h = omega arith

questions : (os : List Open) → length (past_questions os) ≤ length os
unfolding past_questions
questions [] = omega arith
questions (o ∷ os) = questions-choice (is_question o) o os (past_questions os) (questions os)

less : (os : List Open) → Grows os (past_questions os)
less os = omega (arith, questions os)

closed : (os : List Open) → Grows os (below_top (past_questions os))
closed os = omega (arith, questions os, below (past_questions os))

in-body : (os : List Open) → Grows os (body os).stack
unfolding body
in-body [] = omega arith
in-body (opened.Class b ∷ os) = omega arith
in-body (opened.Function b ∷ os) = omega arith
in-body (opened.Object ∷ os) = omega arith
in-body (opened.ClassBody b ∷ os) = omega arith
in-body (o ∷ os) = omega arith

in-brace : (a : Ahead) (os : List Open) → Grows os (brace a os).stack
unfolding brace
in-brace ahead.Ended os = in-body os
in-brace ahead.Async os = in-body os
in-brace ahead.AsyncOperand os = in-body os
in-brace ahead.BehindKey os = in-body os
in-brace a os = omega arith

in-colon : (os : List Open) → Grows os (colon os).stack
unfolding colon
in-colon [] = omega arith
in-colon (opened.Question ∷ os) = omega arith
in-colon (opened.Object ∷ os) = omega arith
in-colon (o ∷ os) = omega arith

in-mark : (n : Nest) (k : TokenKind) → Grows n.stack (mark n k).stack
unfolding mark
in-mark n kind.LParen = omega arith
in-mark n kind.RParen = closed n.stack
in-mark n kind.LBracket = omega arith
in-mark n kind.RBracket = closed n.stack
in-mark n kind.LBrace = in-brace n.ahead n.stack
in-mark n kind.RBrace = closed n.stack
in-mark n kind.Semi = less n.stack
in-mark n kind.Colon = in-colon n.stack
in-mark n kind.QuestionMark = omega arith
in-mark n kind.TemplateHead = omega arith
in-mark n kind.TemplateMiddle = less n.stack
in-mark n kind.TemplateTail = closed n.stack
in-mark n k = same n.stack

opens : (a : Ahead) (os : List Open) (k : TokenKind) → Grows os (with_word a os k)
unfolding with_word
opens a os kind.Function = omega arith
opens a os kind.Class = omega arith
opens a os k = same os

word-choice : (v : Bool) (os : List Open) (m n : Nest) → Grows os m.stack → Grows os n.stack → Grows os (cond v m n).stack
word-choice true os m n h k = h
word-choice false os m n h k = k

in-word : (n : Nest) (k : TokenKind) (name : List ℕ) → Grows n.stack (word n k name).stack
unfolding word
in-word n k name =
    word-choice (is_name n.ahead) n.stack _ _ (same n.stack)
    (word-choice (is_member_name n.ahead (top_of n.stack)) n.stack _ _ (same n.stack)
    (word-choice (is_key n.ahead) n.stack _ _ (same n.stack) (opens n.ahead n.stack k)))

pub word-room : (n : Nest) (k : TokenKind) (name : List ℕ) → length n.stack ≤ 4096 → length (word n k name).stack ≤ 4097
word-room n k name h = omega (arith, h, in-word n k name)

pub mark-room : (n : Nest) (k : TokenKind) → length n.stack ≤ 4096 → length (mark n k).stack ≤ 4097
mark-room n k h = omega (arith, h, in-mark n k)
