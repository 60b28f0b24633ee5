-- Lists of tokens with templates, optional chains, `new.target`, `#a in b` and words with escapes that no expression spells, whatever
-- its tree and wherever it ends.
use Rattle.std.proofs.Common.{◌≡◌, ◌⊎◌, inl, inr, ℕ, zero, suc, ◌≤◌, Bool, true, false, List, [], ◌∷◌, Option, Some, None, refl, true≢false, sym, ◌∙◌, ap, arith}
use Rattle.std.specs.Prelude.{codes, is_some}
use Rattle.swc_ecma_parser_common.specs.declared.span.Span.{Span}
use Rattle.swc_ecma_parser_token.specs.declared.keyword.Keyword.TheVariants as keyword
use Rattle.swc_ecma_parser_token.specs.declared.kind.TokenKind.{TokenKind}
use Rattle.swc_ecma_parser_token.specs.declared.kind.TokenKind.TheVariants as kind
use Rattle.swc_ecma_parser_token.specs.declared.operator.BinOpToken.TheVariants as bin
use Rattle.swc_ecma_parser_token.specs.declared.token.Token.{Token}
use Rattle.swc_ecma_parser_token.specs.declared.token.Token.TheVariants as token
use Rattle.swc_ecma_parser_token.specs.declared.token.TokenAndSpan.{TokenAndSpan}
use Rattle.swc_ecma_parser_token.specs.declared.token.Word.{Word}
use Rattle.swc_ecma_parser_token.specs.declared.token.Word.TheVariants as word
use Rattle.swc_ecma_parser_token.specs.Text.{word_text}
use Rattle.swc_ecma_parser_input.specs.Place.{Place, after}
use Rattle.swc_ecma_parser_model.specs.declared.operators.BinaryOp.{BinaryOp}
use Rattle.swc_ecma_parser_model.specs.declared.operators.BinaryOp.TheVariants as binary
use Rattle.swc_ecma_parser_model.specs.Tree as tree
use Rattle.swc_ecma_parser_model.specs.Tree.{Tree, Text}
use Rattle.swc_ecma_parser_model.specs.Forms.{is_chain}
use Rattle.swc_ecma_parser_grammar.specs.Looks.{kind_at, spanned}
use Rattle.swc_ecma_parser_grammar.specs.Names.{Code, is_clean_name}
use Rattle.swc_ecma_parser_grammar.specs.Follows.{is_async_function}
use Rattle.swc_ecma_parser_grammar.specs.language.Contexts.{with_in}
use Rattle.swc_ecma_parser_grammar.specs.language.Goals.{Goal, expr_goal, callee_goal, expression, operator, callee}
use Rattle.swc_ecma_parser_grammar.specs.language.Operators.{update_operator, binary_operator, assign_operator, precedence, is_operator}
use Rattle.swc_ecma_parser_grammar.specs.language.Continues.{continues_callee, continues_assignment}
use Rattle.swc_ecma_parser_grammar.specs.language.Parts.{ReadsName, PrivateOperandRule, AccessRule, word_access, private_access, bracket_access}
use Rattle.swc_ecma_parser_grammar.specs.language.Templates.{TemplateRule, only_text, first_text}
use Rattle.swc_ecma_parser_grammar.specs.language.Links.{LinkRule, name_link, private_link, access_link, arguments_link}
use Rattle.swc_ecma_parser_grammar.specs.language.LeftSides.{PrimaryRule, name_rule, string_rule, true_rule, false_rule, null_rule, number_rule, big_int_rule, regex_rule, template_rule, this_rule, array_rule, object_rule, function_rule, class_rule, paren_rule, LeftSideRule, primary_rule, import_meta_rule, new_target_rule, member_rule, super_property_rule, call_rule, tagged_rule, chain_rule, linked_rule, super_call_rule, import_call_rule, new_rule, bare_new_rule, OperandRule, is_callee}
use Rattle.swc_ecma_parser_grammar.specs.language.Expressions.{UnaryRule, operand_rule, unary_rule, prefix_rule, postfix_rule, await_rule, BinaryRule, single_rule, left_rule, power_rule, private_in_rule, AssignmentRule}
use Rattle.swc_ecma_parser_grammar.specs.language.Reads.{Reads}
use Rattle.swc_ecma_parser_grammar.proofs.Spelling as spelling
use Rattle.swc_ecma_parser_grammar.proofs.Spelling.{t, named, keyword, start, behind, plain, looks}
use Rattle.swc_ecma_parser_grammar.proofs.Beginnings.{is_literal, opens, has_body, kind_of, word_of, template_opens, no_function, IsNoPrimary, no_primary, IsBracketFirst, ByBracket, by_array, by_object, by_paren, by_bracket, one_token, one_name}
use Rattle.swc_ecma_parser_grammar.proofs.Inversions.{IsLone, IsPlain, IsUnprefixed, IsUnassigned, moved_kind, moved_operator, stops, no_left_side, no_unary, lone_operand, lone_unary, lone_name, by_operators, no_assignment, no_expression, plain_unassigned}

abbrev k : Code
k = with_in plain

-- ---- `#` where an operand begins

record IsHash (k : Code) (c : Place) : Type 0 where
  stands : kind_at c ≡ kind.HashIn
  first : IsBracketFirst c
  unprefixed : IsUnprefixed k c
  is_plain : IsPlain c

-- no `in` that is an operator stands behind the name
abbrev NoOperation : Code → Place → Type 0
NoOperation k c = (name : Tree) (m : Place) → is_operator k binary.In ≡ true → PrivateOperandRule name c m → kind_at m ≡ kind.In → ⊥

hash_no_bracket : {In : Goal → Type 0} {k : Code} {x : Tree} {c d : Place} → kind_at c ≡ kind.HashIn → ByBracket In k x c d → ⊥
hash_no_bracket h (by_array xs m e r f g i) = cc
hash_no_bracket h (by_object xs m e r f g) = cc
hash_no_bracket h (by_paren e m f r g i) = cc

module _ {In : Goal → Type 0} {k : Code} where
  hash_operand : (c : Place) → IsHash k c → (x : Tree) (d : Place) → OperandRule In k x c d → ⊥
  hash_operand c h x d r = no_left_side c (rw h.stands refl) (λ y m q. hash_no_bracket h.stands (by_bracket c h.first y m q)) x d r.0

  hash_unary : (c : Place) → IsHash k c → (x : Tree) (d : Place) → UnaryRule In k x c d → ⊥
  hash_unary c h x d r = no_unary c h.unprefixed (hash_operand c h) x d r

  hash_binary : (c : Place) → IsHash k c → NoOperation k c → (n : ℕ) (x : Tree) (d : Place) → BinaryRule In k n x c d → ⊥
  hash_binary c h o n x d (single_rule r) = hash_unary c h x d r
  hash_binary c h o n x d (left_rule op l y m a g i r f s u v q) = hash_binary c h o (precedence op) l m r
  hash_binary c h o n x d (power_rule l y m a r f g s q) = hash_unary c h l m r
  hash_binary c h o n x d (private_in_rule l y m a i r f s q) = o l m i r f

  -- nor where an operator stands before it that binds more tightly than `in`
  tight_binary : (c : Place) → IsHash k c → (n : ℕ) (x : Tree) (d : Place) → 8 ≤ n → BinaryRule In k n x c d → ⊥
  tight_binary c h n x d b (single_rule r) = hash_unary c h x d r
  tight_binary c h n x d b (left_rule op l y m a g i r f s u v q) = tight_binary c h (precedence op) l m (omega arith) r
  tight_binary c h n x d b (power_rule l y m a r f g s q) = hash_unary c h l m r
  tight_binary c h n x d b (private_in_rule l y m a i r f s q) = let e : n ≤ 7 = a in absurd (omega arith)

hash_assignment : (n : ℕ) (k : Code) (c : Place) → IsHash k c → NoOperation k c → (x : Tree) (d : Place) → AssignmentRule (Reads n) k x c d → ⊥
hash_assignment n k c h o x d r =
    let u = plain_unassigned n k c h.is_plain (λ y m s e. absurd (hash_operand c h y m s)) in
    hash_binary c h o 1 x d (by_operators c u (λ y m s e. hash_binary c h o 1 y m s) x d r).0

hash_expression : (n : ℕ) (k : Code) (c : Place) → IsHash k c → NoOperation k c → (x : Tree) (d : Place) → Reads n (expr_goal expression k x c d) → ⊥
hash_expression zero k c h o x d r = r
hash_expression (suc n) k c h o x d r = no_expression c (hash_assignment n k c h o) x d r

-- `#a`
abbrev alone_tokens : Place
alone_tokens = start (t token.HashIn 0 1 ∷ t (named (codes "a")) 1 2 ∷ [])

alone_hash : IsHash k alone_tokens
unfolding looks
alone_hash = record {
  stands = refl;
  first = record { no_template = refl; no_word = refl; no_literal = refl; no_body = refl; no_function = refl };
  unprefixed = record { no_unary = refl; no_update = refl; no_await = refl };
  is_plain = record { no_async = refl; no_yield = refl; no_paren = refl; no_bracket = refl; no_arrow = refl };
}

private_name_alone : (n : ℕ) (x : Tree) (d : Place) → Reads n (expr_goal expression k x alone_tokens d) → ⊥
unfolding looks
private_name_alone n x d r = hash_expression n k alone_tokens alone_hash
    (λ name m i p e. let f = moved_kind m (behind 2 alone_tokens) p.reads_word.reads_word.next e in cc) x d r

-- `#a in b` where `in` is no operator, as in the head of a loop
abbrev head_tokens : Place
head_tokens = start (t token.HashIn 0 1 ∷ t (named (codes "a")) 1 2 ∷ t (keyword keyword.In) 3 5 ∷ t (named (codes "b")) 6 7 ∷ [])

head_hash : IsHash plain head_tokens
unfolding looks
head_hash = record {
  stands = refl;
  first = record { no_template = refl; no_word = refl; no_literal = refl; no_body = refl; no_function = refl };
  unprefixed = record { no_unary = refl; no_update = refl; no_await = refl };
  is_plain = record { no_async = refl; no_yield = refl; no_paren = refl; no_bracket = refl; no_arrow = refl };
}

private_name_in_a_head : (n : ℕ) (x : Tree) (d : Place) → Reads n (expr_goal expression plain x head_tokens d) → ⊥
private_name_in_a_head n x d r = hash_expression n plain head_tokens head_hash (λ name m i p e. cc) x d r

-- `a + #b in c`: `in` binds more loosely than `+`
abbrev sum_tokens : Place
sum_tokens =
    start (t (named (codes "a")) 0 1 ∷ t (spelling.operator bin.Add) 2 3 ∷ t token.HashIn 4 5 ∷ t (named (codes "b")) 5 6 ∷ t (keyword keyword.In) 7 9 ∷ t (named (codes "c")) 10 11 ∷ [])

abbrev sum : ℕ → Place
sum i = behind i sum_tokens

sum_name : IsLone k (sum 0)
unfolding looks
sum_name = record { no_opening = refl; no_function = refl; no_form = refl; unprefixed = record { no_unary = refl; no_update = refl; no_await = refl }; no_access = refl; no_postfix = refl }

sum_plain : IsPlain sum_tokens
unfolding looks
sum_plain = record { no_async = refl; no_yield = refl; no_paren = refl; no_bracket = refl; no_arrow = refl }

sum_hash : IsHash k (sum 2)
unfolding looks
sum_hash = record {
  stands = refl;
  first = record { no_template = refl; no_word = refl; no_literal = refl; no_body = refl; no_function = refl };
  unprefixed = record { no_unary = refl; no_update = refl; no_await = refl };
  is_plain = record { no_async = refl; no_yield = refl; no_paren = refl; no_bracket = refl; no_arrow = refl };
}

sum_unassigned : (n : ℕ) → IsUnassigned (Reads n) k sum_tokens
unfolding looks
sum_unassigned n = plain_unassigned n k sum_tokens sum_plain (λ y m r s. rw (lone_operand sum_tokens sum_name y m r) refl)

-- the right operand is none
no_addend : (n : ℕ) (op : BinaryOp) (y : Tree) (m d : Place) → m ≡ sum 1 → binary_operator (kind_at m) ≡ Some op → Reads n (expr_goal (operator (suc (precedence op))) k y (after m) d) → ⊥
unfolding looks
no_addend zero op y m d e f r = r
no_addend (suc n) op y m d e f r =
    let g : binary.Add ≡ op = let h = moved_operator m (sum 1) e f in cc in
    let p : 9 ≡ precedence op = ap precedence g in
    let s : BinaryRule (Reads n) k (suc (precedence op)) y (sum 2) d = rw e at r.0 in
    tight_binary (sum 2) sum_hash (suc (precedence op)) y d (omega arith) s

sum_unary : (n i : ℕ) (x : Tree) (d : Place) → BinaryRule (Reads n) k i x (sum 0) d → UnaryRule (Reads n) k x (sum 0) d
unfolding looks
sum_unary n i x d (single_rule r) = r
sum_unary n i x d (left_rule op l y m a g o r f s u v q) = absurd (no_addend n op y m d (lone_unary (sum 0) sum_name l m (sum_unary n (precedence op) l m r)) f s)
sum_unary n i x d (power_rule l y m a r f g s q) = absurd (let e = moved_kind m (sum 1) (lone_unary (sum 0) sum_name l m r) g in cc)
sum_unary n i x d (private_in_rule l y m a o r f s q) = absurd (let e = r.hash in cc)

no_sum : (n : ℕ) (x : Tree) (d : Place) → AssignmentRule (Reads n) k x sum_tokens d → ⊥
unfolding looks
no_sum n x d r =
    let (b, h) = by_operators sum_tokens (sum_unassigned n) (λ y m s e. let f = moved_kind m (sum 1) (lone_unary (sum 0) sum_name y m (sum_unary n 1 y m s)) e in cc) x d r in
    let u = sum_unary n 1 x d b in
    let (s, text, e) = lone_name sum_tokens sum_name refl x d u in
    let g = stops k x (tree.ident s text) sum_tokens d (sum 1) e (lone_unary sum_tokens sum_name x d u) h in
    cc

private_name_behind_plus : (n : ℕ) (x : Tree) (d : Place) → Reads n (expr_goal expression k x sum_tokens d) → ⊥
private_name_behind_plus zero x d r = r
private_name_behind_plus (suc n) x d r = no_expression sum_tokens (no_sum n) x d r

-- ---- a template with an escape that is none, behind no tag

abbrev escape_tokens : Place
escape_tokens = start (t (token.Template (codes "u") None) 0 4 ∷ [])

-- what the text of a template says, and what word it is, where one stands first
abbrev cooked_of : Token → Option Text
cooked_of (token.Template raw cooked) = cooked
cooked_of _ = None

abbrev first_cooked : List TokenAndSpan → Option Text
first_cooked [] = None
first_cooked (v ∷ vs) = cooked_of v.token

abbrev word_in : Token → Word
word_in (token.Word w) = w
word_in _ = word.Null

abbrev first_word : List TokenAndSpan → Word
first_word [] = word.Null
first_word (v ∷ vs) = word_in v.token

valueless : {In : Goal → Type 0} {k : Code} {es qs : List Tree} {d : Place} → TemplateRule In false k es qs escape_tokens d → ⊥
unfolding looks
valueless (only_text q r e i) =
    true≢false (sym r.is_right ∙ sym (ap (λ ts. is_some (first_cooked ts)) r.reads_text.is))
valueless (first_text q qs m r s i) = let e = kind_of r.reads_text in cc

escape_primary : {In : Goal → Type 0} {k : Code} (x : Tree) (d : Place) → PrimaryRule In k x escape_tokens d → ⊥
unfolding looks
escape_primary x d (name_rule text s r g e) = let f = word_of r.reads_word in cc
escape_primary x d (string_rule v w s r e) = let f = kind_of r in cc
escape_primary x d (true_rule s r e) = let f = kind_of r in cc
escape_primary x d (false_rule s r e) = let f = kind_of r in cc
escape_primary x d (null_rule s r e) = let f = kind_of r in cc
escape_primary x d (number_rule w s r e) = let f = kind_of r in cc
escape_primary x d (big_int_rule w s r e) = let f = kind_of r in cc
escape_primary x d (regex_rule w v s r e) = let f = kind_of r in cc
escape_primary x d (template_rule es qs r e) = valueless r
escape_primary x d (this_rule e g i) = cc
escape_primary x d (array_rule xs m e r g i j) = cc
escape_primary x d (object_rule xs m e r g i j) = cc
escape_primary x d (function_rule n y r e) = no_function escape_tokens refl refl r.word r.is_async r.reads_async r.is_function
escape_primary x d (class_rule n y r e) = let g = r.is_class in cc
escape_primary x d (paren_rule y m e r g i j) = cc

escape_unprefixed : IsUnprefixed k escape_tokens
unfolding looks
escape_unprefixed = record { no_unary = refl; no_update = refl; no_await = refl }

escape_plain : IsPlain escape_tokens
unfolding looks
escape_plain = record { no_async = refl; no_yield = refl; no_paren = refl; no_bracket = refl; no_arrow = refl }

escape_operand : {In : Goal → Type 0} (x : Tree) (d : Place) → OperandRule In k x escape_tokens d → ⊥
unfolding looks
escape_operand x d r = no_left_side escape_tokens refl escape_primary x d r.0

escape_assignment : (n : ℕ) (x : Tree) (d : Place) → AssignmentRule (Reads n) k x escape_tokens d → ⊥
unfolding looks
escape_assignment n x d r = no_assignment escape_tokens (plain_unassigned n k escape_tokens escape_plain (λ y m s e. absurd (escape_operand y m s))) (λ h. cc)
    (no_unary escape_tokens escape_unprefixed escape_operand) x d r

template_without_a_value : (n : ℕ) (x : Tree) (d : Place) → Reads n (expr_goal expression k x escape_tokens d) → ⊥
template_without_a_value zero x d r = r
template_without_a_value (suc n) x d r = no_expression escape_tokens (escape_assignment n) x d r

-- ---- reserved words, with an escape or without

record IsReserved (k : Code) (c : Place) : Type 0 where
  no_name : (text : Text) (s : Span) (d : Place) → ReadsName k text s c d → ⊥
  no_literal : is_literal (kind_at c) ≡ false
  no_opening : opens (kind_at c) ≡ false
  no_body : has_body (kind_at c) ≡ false
  no_async : is_async_function c ≡ false

reserved_primary : {In : Goal → Type 0} {k : Code} (c : Place) → IsReserved k c → (x : Tree) (d : Place) → PrimaryRule In k x c d → ⊥
reserved_primary c h x d (name_rule text s r g e) = h.no_name text s d r
reserved_primary c h x d (string_rule v w s r e) = let f = kind_of r in let i = h.no_literal in cc
reserved_primary c h x d (true_rule s r e) = let f = kind_of r in let i = h.no_literal in cc
reserved_primary c h x d (false_rule s r e) = let f = kind_of r in let i = h.no_literal in cc
reserved_primary c h x d (null_rule s r e) = let f = kind_of r in let i = h.no_literal in cc
reserved_primary c h x d (number_rule w s r e) = let f = kind_of r in let i = h.no_literal in cc
reserved_primary c h x d (big_int_rule w s r e) = let f = kind_of r in let i = h.no_literal in cc
reserved_primary c h x d (regex_rule w v s r e) = let f = kind_of r in let i = h.no_literal in cc
reserved_primary c h x d (template_rule es qs r e) = let i = h.no_opening in elim (template_opens r) [ inl f ↦ cc | inr f ↦ cc ]
reserved_primary c h x d (this_rule e g i) = let f = h.no_literal in cc
reserved_primary c h x d (array_rule xs m e r g i j) = let f = h.no_opening in cc
reserved_primary c h x d (object_rule xs m e r g i j) = let f = h.no_opening in cc
reserved_primary c h x d (function_rule n y r e) = no_function c h.no_body h.no_async r.word r.is_async r.reads_async r.is_function
reserved_primary c h x d (class_rule n y r e) = let g = r.is_class in let f = h.no_opening in cc
reserved_primary c h x d (paren_rule y m e r g i j) = let f = h.no_opening in cc

-- a word is no name where its text is none
unnamed : (k : Code) (w : Word) (text : Text) (s : Span) (c d : Place) (r : ReadsName k text s c d) → r.word ≡ w → is_clean_name k.flags (word_text w) ≡ false → ⊥
unnamed k w text s c d r e f = true≢false (sym r.is_name ∙ ap (is_clean_name k.flags) (r.is_text ∙ ap word_text e) ∙ f)

-- `if`, written with an escape
abbrev if_tokens : Place
if_tokens = start (t (token.Word (word.Escaped (codes "if"))) 0 7 ∷ [])

if_reserved : IsReserved k if_tokens
unfolding looks
if_reserved = record {
  no_name = λ text s d r. unnamed k (word.Escaped (codes "if")) text s if_tokens d r (sym (ap first_word r.reads_word.is)) refl;
  no_literal = refl;
  no_opening = refl;
  no_body = refl;
  no_async = refl;
}

if_unprefixed : IsUnprefixed k if_tokens
unfolding looks
if_unprefixed = record { no_unary = refl; no_update = refl; no_await = refl }

if_plain : IsPlain if_tokens
unfolding looks
if_plain = record { no_async = refl; no_yield = refl; no_paren = refl; no_bracket = refl; no_arrow = refl }

if_operand : {In : Goal → Type 0} (x : Tree) (d : Place) → OperandRule In k x if_tokens d → ⊥
unfolding looks
if_operand x d r = no_left_side if_tokens refl (reserved_primary if_tokens if_reserved) x d r.0

if_assignment : (n : ℕ) (x : Tree) (d : Place) → AssignmentRule (Reads n) k x if_tokens d → ⊥
unfolding looks
if_assignment n x d r = no_assignment if_tokens (plain_unassigned n k if_tokens if_plain (λ y m s e. absurd (if_operand y m s))) (λ h. cc) (no_unary if_tokens if_unprefixed if_operand) x d r

reserved_word_with_an_escape : (n : ℕ) (x : Tree) (d : Place) → Reads n (expr_goal expression k x if_tokens d) → ⊥
reserved_word_with_an_escape zero x d r = r
reserved_word_with_an_escape (suc n) x d r = no_expression if_tokens (if_assignment n) x d r

-- `new.target`, whose last word is written with an escape
abbrev target_tokens : Place
target_tokens = start (t (keyword keyword.New) 0 3 ∷ t token.NewDot 3 4 ∷ t (token.Word (word.Escaped (codes "target"))) 4 15 ∷ [])

new_reserved : IsReserved k target_tokens
unfolding looks
new_reserved = record {
  no_name = λ text s d r. unnamed k (word.Keyword keyword.New) text s target_tokens d r (sym (ap first_word r.reads_word.is)) refl;
  no_literal = refl;
  no_opening = refl;
  no_body = refl;
  no_async = refl;
}

dot_first : IsNoPrimary (behind 1 target_tokens)
unfolding looks
dot_first = record { no_word = refl; no_literal = refl; no_opening = refl; no_function = refl }

dot_side : {In : Goal → Type 0} (x : Tree) (d : Place) → LeftSideRule In k x (behind 1 target_tokens) d → ⊥
unfolding looks
dot_side x d r = no_left_side (behind 1 target_tokens) refl (no_primary (behind 1 target_tokens) dot_first) x d r

no_called : (n : ℕ) (x : Tree) (d : Place) → Reads n (callee_goal k x (behind 1 target_tokens) d) → ⊥
no_called zero x d r = r
no_called (suc n) x d r = dot_side x d r.0

no_bare_called : (n : ℕ) (x : Tree) (d : Place) → Reads n (expr_goal callee k x (behind 1 target_tokens) d) → ⊥
no_bare_called zero x d r = r
no_bare_called (suc n) x d r = dot_side x d r.0.0

target_side : (n : ℕ) (x : Tree) (d : Place) → LeftSideRule (Reads n) k x target_tokens d → ⊥
unfolding looks
target_side n x d (primary_rule r) = reserved_primary target_tokens new_reserved x d r
target_side n x d (import_meta_rule e f g i j l) = cc
target_side n x d (new_target_rule e f g i j) = cc
target_side n x d (member_rule o p m r a s e) = target_side n o m r
target_side n x d (super_property_rule p e a f g) = cc
target_side n x d (call_rule f a m r s o e) = target_side n f m r
target_side n x d (tagged_rule o es qs m r a s e) = target_side n o m r
target_side n x d (chain_rule o p m r a s e) = target_side n o m r
target_side n x d (linked_rule o p m r a s e) = target_side n o m r
target_side n x d (super_call_rule a e s f) = cc
target_side n x d (import_call_rule a e s f) = cc
target_side n x d (new_rule f a m e r s g) = no_called n f m r
target_side n x d (bare_new_rule f e r g) = no_bare_called n f d r

target_unprefixed : IsUnprefixed k target_tokens
unfolding looks
target_unprefixed = record { no_unary = refl; no_update = refl; no_await = refl }

target_plain : IsPlain target_tokens
unfolding looks
target_plain = record { no_async = refl; no_yield = refl; no_paren = refl; no_bracket = refl; no_arrow = refl }

target_assignment : (n : ℕ) (x : Tree) (d : Place) → AssignmentRule (Reads n) k x target_tokens d → ⊥
unfolding looks
target_assignment n x d r = no_assignment target_tokens (plain_unassigned n k target_tokens target_plain (λ y m s e. absurd (target_side n y m s.0))) (λ h. cc)
    (no_unary target_tokens target_unprefixed (λ y m s. target_side n y m s.0)) x d r

target_with_an_escape : (n : ℕ) (x : Tree) (d : Place) → Reads n (expr_goal expression k x target_tokens d) → ⊥
target_with_an_escape zero x d r = r
target_with_an_escape (suc n) x d r = no_expression target_tokens (target_assignment n) x d r

-- ---- a template behind an optional chain

abbrev begins_access : TokenKind → Bool
begins_access kind.Dot = true
begins_access kind.LBracket = true
begins_access _ = false

no_access_at : {In : Goal → Type 0} {k : Code} {p : Tree} (c m d : Place) → begins_access (kind_at c) ≡ false → m ≡ c → AccessRule In k p m d → ⊥
no_access_at c m d h e (word_access text s f r g) = let i = moved_kind m c e f in cc
no_access_at c m d h e (private_access f r) = let i = moved_kind m c e f in cc
no_access_at c m d h e (bracket_access y j f r g n i) = let l = moved_kind m c e f in cc

abbrev chain_tokens : Place
chain_tokens = start (t (named (codes "a")) 0 1 ∷ t token.QuestionDot 1 3 ∷ t (named (codes "b")) 3 4 ∷ t (token.Template (codes "c") (Some (codes "c"))) 4 7 ∷ [])

abbrev chain : ℕ → Place
chain i = behind i chain_tokens

-- `a`, or `a?.b`
data ChainEnd (x : Tree) (d : Place) : Type 0 where
  name_end : (s : Span) (text : Text) → d ≡ chain 1 → x ≡ tree.ident s text → ChainEnd x d
  link_end : (s : Span) (optional : Bool) (base : Tree) → d ≡ chain 3 → x ≡ tree.opt_chain s optional base → ChainEnd x d

-- what is no chain is the name
by_name : (x : Tree) (d : Place) → ChainEnd x d → is_chain x ≡ false → d ≡ chain 1
by_name x d (name_end s text e f) h = e
by_name x d (link_end s optional base e f) h = absurd (true≢false (sym (ap is_chain f) ∙ h))

by_link : (x : Tree) (d : Place) → ChainEnd x d → is_chain x ≡ true → d ≡ chain 3
by_link x d (name_end s text e f) h = absurd (true≢false (sym h ∙ ap is_chain f))
by_link x d (link_end s optional base e f) h = e

-- and so is what `?.` stands behind
by_question : (x : Tree) (d : Place) → ChainEnd x d → kind_at d ≡ kind.QuestionDot → d ≡ chain 1
unfolding looks
by_question x d (name_end s text e f) h = e
by_question x d (link_end s optional base e f) h = absurd (let g = moved_kind d (chain 3) e h in cc)

module _ {In : Goal → Type 0} where
  no_text : {es qs : List Tree} (m d : Place) → m ≡ chain 1 → TemplateRule In true k es qs m d → ⊥
  unfolding looks
  no_text m d e r = elim (template_opens r) [ inl f ↦ let g = moved_kind m (chain 1) e f in cc | inr f ↦ let g = moved_kind m (chain 1) e f in cc ]

  first_link : (s : Span) (x base : Tree) (m d : Place) → m ≡ chain 1 → LinkRule In k true s x base (after m) d → d ≡ chain 3
  unfolding looks
  first_link s x base m d e (name_link text w h r g) = r.reads_word.next ∙ ap (λ c. after (after c)) e
  first_link s x base m d e (private_link p h r g) = absurd (let f = moved_kind (after m) (chain 2) (ap after e) r.hash in cc)
  first_link s x base m d e (access_link p h r g) = absurd (no_access_at (chain 2) (after m) d refl (ap after e) r)
  first_link s x base m d e (arguments_link a r g) = absurd (let f = moved_kind (after m) (chain 2) (ap after e) r.opens in cc)

  no_link : (s : Span) (x base : Tree) (m d : Place) → m ≡ chain 3 → LinkRule In k false s x base m d → ⊥
  unfolding looks
  no_link s x base m d e (name_link text w h r g) = cc
  no_link s x base m d e (private_link p h r g) = cc
  no_link s x base m d e (access_link p h r g) = no_access_at (chain 3) m d refl e r
  no_link s x base m d e (arguments_link a r g) = let f = moved_kind m (chain 3) e r.opens in cc

  chain_side : (x : Tree) (d : Place) → LeftSideRule In k x chain_tokens d → ChainEnd x d
  unfolding looks
  chain_side x d (primary_rule r) = let (s, text, e) = one_name chain_tokens refl refl x d r in name_end s text (one_token chain_tokens refl refl x d r) e
  chain_side x d (import_meta_rule e f g i j l) = cc
  chain_side x d (new_target_rule e f g i j) = cc
  chain_side x d (member_rule o p m r n s e) = absurd (no_access_at (chain 1) m d refl (by_name o m (chain_side o m r) n) s)
  chain_side x d (super_property_rule p e a f g) = cc
  chain_side x d (call_rule f a m r n s e) = absurd (let g = moved_kind m (chain 1) (by_name f m (chain_side f m r) n) s.opens in cc)
  chain_side x d (tagged_rule o es qs m r n s e) = absurd (no_text m d (by_name o m (chain_side o m r) n) s)
  chain_side x d (chain_rule o base m r h s e) = link_end (spanned chain_tokens d) true base (first_link (spanned chain_tokens d) o base m d (by_question o m (chain_side o m r) h) s) e
  chain_side x d (linked_rule o base m r n s e) = absurd (no_link (spanned chain_tokens d) o base m d (by_link o m (chain_side o m r) n) s)
  chain_side x d (super_call_rule a e s f) = cc
  chain_side x d (import_call_rule a e s f) = cc
  chain_side x d (new_rule f a m e r s g) = cc
  chain_side x d (bare_new_rule f e r g) = cc

-- no operator stands behind it
record IsQuiet (d : Place) : Type 0 where
  no_postfix : update_operator (kind_at d) ≡ None
  no_binary_operator : binary_operator (kind_at d) ≡ None
  no_assignment_operator : assign_operator (kind_at d) ≡ None
  no_power : kind_at d ≡ kind.Exp → ⊥
  no_question : kind_at d ≡ kind.QuestionMark → ⊥

quiet_at : (c d : Place) → d ≡ c → IsQuiet c → IsQuiet d
quiet_at c d e h = rw e h

chain_quiet : (x : Tree) (d : Place) → ChainEnd x d → IsQuiet d
unfolding looks
chain_quiet x d (name_end s text e f) = quiet_at (chain 1) d e (record { no_postfix = refl; no_binary_operator = refl; no_assignment_operator = refl; no_power = λ h. cc; no_question = λ h. cc })
chain_quiet x d (link_end s optional base e f) = quiet_at (chain 3) d e (record { no_postfix = refl; no_binary_operator = refl; no_assignment_operator = refl; no_power = λ h. cc; no_question = λ h. cc })

module _ {In : Goal → Type 0} where
  chain_unary : (x : Tree) (d : Place) → UnaryRule In k x chain_tokens d → ChainEnd x d
  unfolding looks
  chain_unary x d (operand_rule r) = chain_side x d r.0
  chain_unary x d (unary_rule op e f r g) = cc
  chain_unary x d (prefix_rule op e f r g i) = cc
  chain_unary x d (postfix_rule op e m r s b f g i) = absurd (let h = (chain_quiet e m (chain_side e m r.0)).no_postfix in cc)
  chain_unary x d (await_rule e f g r i) = cc

  chain_binary : (i : ℕ) (x : Tree) (d : Place) → BinaryRule In k i x chain_tokens d → ChainEnd x d
  unfolding looks
  chain_binary i x d (single_rule r) = chain_unary x d r
  chain_binary i x d (left_rule op l y m a g o r f s u v q) = absurd (let h = (chain_quiet l m (chain_binary (precedence op) l m r)).no_binary_operator in cc)
  chain_binary i x d (power_rule l y m a r f g s q) = absurd ((chain_quiet l m (chain_unary l m r)).no_power g)
  chain_binary i x d (private_in_rule l y m a o r f s q) = absurd (let e = r.hash in cc)

chain_plain : IsPlain chain_tokens
unfolding looks
chain_plain = record { no_async = refl; no_yield = refl; no_paren = refl; no_bracket = refl; no_arrow = refl }

chain_unassigned : (n : ℕ) → IsUnassigned (Reads n) k chain_tokens
chain_unassigned n = plain_unassigned n k chain_tokens chain_plain (λ y m r s. (chain_quiet y m (chain_side y m r.0)).no_assignment_operator)

-- something goes on with either
chain_goes_on : (x : Tree) (d : Place) → ChainEnd x d → continues_assignment k x chain_tokens d ≡ false → ⊥
unfolding looks
chain_goes_on x d (name_end s text e f) h = let i = stops k x (tree.ident s text) chain_tokens d (chain 1) f e h in cc
chain_goes_on x d (link_end s optional base e f) h = let i = stops k x (tree.opt_chain s optional base) chain_tokens d (chain 3) f e h in cc

no_chain : (n : ℕ) (x : Tree) (d : Place) → AssignmentRule (Reads n) k x chain_tokens d → ⊥
no_chain n x d r =
    let (b, h) = by_operators chain_tokens (chain_unassigned n) (λ y m s e. (chain_quiet y m (chain_binary 1 y m s)).no_question e) x d r in
    chain_goes_on x d (chain_binary 1 x d b) h

template_behind_a_chain : (n : ℕ) (x : Tree) (d : Place) → Reads n (expr_goal expression k x chain_tokens d) → ⊥
template_behind_a_chain zero x d r = r
template_behind_a_chain (suc n) x d r = no_expression chain_tokens (no_chain n) x d r

-- ---- `new a?.b()`

abbrev called_tokens : Place
called_tokens =
    start (t (keyword keyword.New) 0 3 ∷ t (named (codes "a")) 4 5 ∷ t token.QuestionDot 5 7 ∷ t (named (codes "b")) 7 8 ∷ t token.LParen 8 9 ∷ t token.RParen 9 10 ∷ [])

abbrev at_name : Place
at_name = behind 1 called_tokens

abbrev at_question : Place
at_question = behind 2 called_tokens

-- the name alone, or a chain
data Called (x : Tree) (d : Place) : Type 0 where
  name_called : d ≡ at_question → Called x d
  chain_called : (s : Span) (optional : Bool) (base : Tree) → x ≡ tree.opt_chain s optional base → Called x d

no_chain_called : (x : Tree) (d : Place) → Called x d → is_chain x ≡ false → d ≡ at_question
no_chain_called x d (name_called e) h = e
no_chain_called x d (chain_called s optional base e) h = absurd (true≢false (sym (ap is_chain e) ∙ h))

called_callee : (x : Tree) (d : Place) → Called x d → is_callee x ≡ true → d ≡ at_question
called_callee x d (name_called e) h = e
called_callee x d (chain_called s optional base e) h = absurd (true≢false (sym h ∙ ap is_callee e))

module _ {In : Goal → Type 0} where
  no_quoted : {es qs : List Tree} (m d : Place) → m ≡ at_question → TemplateRule In true k es qs m d → ⊥
  unfolding looks
  no_quoted m d e r = elim (template_opens r) [ inl f ↦ let g = moved_kind m at_question e f in cc | inr f ↦ let g = moved_kind m at_question e f in cc ]

  called_side : (x : Tree) (d : Place) → LeftSideRule In k x at_name d → Called x d
  unfolding looks
  called_side x d (primary_rule r) = name_called (one_token at_name refl refl x d r)
  called_side x d (import_meta_rule e f g i j l) = cc
  called_side x d (new_target_rule e f g i j) = cc
  called_side x d (member_rule o p m r n s e) = absurd (no_access_at at_question m d refl (no_chain_called o m (called_side o m r) n) s)
  called_side x d (super_property_rule p e a f g) = cc
  called_side x d (call_rule f a m r n s e) = absurd (let g = moved_kind m at_question (no_chain_called f m (called_side f m r) n) s.opens in cc)
  called_side x d (tagged_rule o es qs m r n s e) = absurd (no_quoted m d (no_chain_called o m (called_side o m r) n) s)
  called_side x d (chain_rule o base m r h s e) = chain_called (spanned at_name d) true base e
  called_side x d (linked_rule o base m r n s e) = chain_called (spanned at_name d) false base e
  called_side x d (super_call_rule a e s f) = cc
  called_side x d (import_call_rule a e s f) = cc
  called_side x d (new_rule f a m e r s g) = cc
  called_side x d (bare_new_rule f e r g) = cc

-- no arguments stand behind what is called
no_arguments : (n : ℕ) (x : Tree) (m : Place) → Reads n (callee_goal k x at_name m) → kind_at m ≡ kind.LParen → ⊥
unfolding looks
no_arguments zero x m r h = r
no_arguments (suc n) x m r h = let f = moved_kind m at_question (called_callee x m (called_side x m r.0) r.1) h in cc

-- and without arguments `?.` must not
no_bare_new : (n : ℕ) (x : Tree) (d : Place) → Reads n (expr_goal callee k x at_name d) → ⊥
unfolding looks
no_bare_new zero x d r = r
no_bare_new (suc n) x d r = let f : continues_callee at_question ≡ false = rw (called_callee x d (called_side x d r.0.0) r.0.1) at r.1 in cc

word_new : IsReserved k called_tokens
unfolding looks
word_new = record {
  no_name = λ text s d r. unnamed k (word.Keyword keyword.New) text s called_tokens d r (sym (ap first_word r.reads_word.is)) refl;
  no_literal = refl;
  no_opening = refl;
  no_body = refl;
  no_async = refl;
}

new_side : (n : ℕ) (x : Tree) (d : Place) → LeftSideRule (Reads n) k x called_tokens d → ⊥
unfolding looks
new_side n x d (primary_rule r) = reserved_primary called_tokens word_new x d r
new_side n x d (import_meta_rule e f g i j l) = cc
new_side n x d (new_target_rule e f g i j) = cc
new_side n x d (member_rule o p m r a s e) = new_side n o m r
new_side n x d (super_property_rule p e a f g) = cc
new_side n x d (call_rule f a m r s o e) = new_side n f m r
new_side n x d (tagged_rule o es qs m r a s e) = new_side n o m r
new_side n x d (chain_rule o p m r a s e) = new_side n o m r
new_side n x d (linked_rule o p m r a s e) = new_side n o m r
new_side n x d (super_call_rule a e s f) = cc
new_side n x d (import_call_rule a e s f) = cc
new_side n x d (new_rule f a m e r s g) = no_arguments n f m r s.opens
new_side n x d (bare_new_rule f e r g) = no_bare_new n f d r

new_unprefixed : IsUnprefixed k called_tokens
unfolding looks
new_unprefixed = record { no_unary = refl; no_update = refl; no_await = refl }

new_plain : IsPlain called_tokens
unfolding looks
new_plain = record { no_async = refl; no_yield = refl; no_paren = refl; no_bracket = refl; no_arrow = refl }

new_assignment : (n : ℕ) (x : Tree) (d : Place) → AssignmentRule (Reads n) k x called_tokens d → ⊥
unfolding looks
new_assignment n x d r = no_assignment called_tokens (plain_unassigned n k called_tokens new_plain (λ y m s e. absurd (new_side n y m s.0))) (λ h. cc)
    (no_unary called_tokens new_unprefixed (λ y m s. new_side n y m s.0)) x d r

chain_behind_new : (n : ℕ) (x : Tree) (d : Place) → Reads n (expr_goal expression k x called_tokens d) → ⊥
chain_behind_new zero x d r = r
chain_behind_new (suc n) x d r = no_expression called_tokens (new_assignment n) x d r
