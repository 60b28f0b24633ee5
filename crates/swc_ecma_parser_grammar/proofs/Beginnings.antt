-- How a primary expression can begin: what a reading must be, by the first token. For lists that nothing spells.
use Rattle.std.proofs.Common.{◌≡◌, ◌⊎◌, inl, inr, Bool, true, false, List, [], ◌∷◌, refl, true≢false, sym, ◌∙◌}
use Rattle.std.specs.Prelude.{codes}
use Rattle.swc_ecma_parser_common.specs.declared.span.Span.{Span}
use Rattle.swc_ecma_parser_token.specs.declared.kind.TokenKind.{TokenKind}
use Rattle.swc_ecma_parser_token.specs.declared.kind.TokenKind.TheVariants as kind
use Rattle.swc_ecma_parser_token.specs.declared.token.Token.{Token}
use Rattle.swc_ecma_parser_token.specs.declared.token.Token.TheVariants as token
use Rattle.swc_ecma_parser_token.specs.declared.token.Word.{Word}
use Rattle.swc_ecma_parser_token.specs.declared.token.TokenAndSpan.{TokenAndSpan}
use Rattle.swc_ecma_parser_token.specs.Kind.{token_kind}
use Rattle.swc_ecma_parser_input.specs.Place.{Place, after}
use Rattle.swc_ecma_parser_model.specs.Tree as tree
use Rattle.swc_ecma_parser_model.specs.Tree.{Tree, Text, listed}
use Rattle.swc_ecma_parser_grammar.specs.Looks.{kind_at, breaks_at, same_kind, spanned}
use Rattle.swc_ecma_parser_grammar.specs.Names.{Code}
use Rattle.swc_ecma_parser_grammar.specs.Follows.{begins_template, word_at, is_async_function, AsyncWord, not_async, async_word}
use Rattle.swc_ecma_parser_grammar.specs.language.Contexts.{with_in}
use Rattle.swc_ecma_parser_grammar.specs.language.Goals.{Goal, expr_goal, expression}
use Rattle.swc_ecma_parser_grammar.specs.language.Lists.{ReadsListed, Elements}
use Rattle.swc_ecma_parser_grammar.specs.language.Parts.{ElementRule, ReadsToken}
use Rattle.swc_ecma_parser_grammar.specs.language.Objects.{PropertyRule}
use Rattle.swc_ecma_parser_grammar.specs.language.Templates.{TemplateRule, only_text, first_text}
use Rattle.swc_ecma_parser_grammar.specs.language.LeftSides.{PrimaryRule, name_rule, string_rule, true_rule, false_rule, null_rule, number_rule, big_int_rule, regex_rule, template_rule, this_rule, array_rule, object_rule, function_rule, class_rule, paren_rule}

-- ---- the kinds of token that begin one

-- a literal, or `this`
abbrev pub is_literal : TokenKind → Bool
is_literal kind.Str = true
is_literal kind.Num = true
is_literal kind.BigInt = true
is_literal kind.Regex = true
is_literal kind.Null = true
is_literal kind.True = true
is_literal kind.False = true
is_literal kind.This = true
is_literal _ = false

-- a function or a class
abbrev pub has_body : TokenKind → Bool
has_body kind.Function = true
has_body kind.Class = true
has_body _ = false

-- any that is more than one token
abbrev pub opens : TokenKind → Bool
opens kind.LBracket = true
opens kind.LBrace = true
opens kind.LParen = true
opens kind.Function = true
opens kind.Class = true
opens kind.Template = true
opens kind.TemplateHead = true
opens kind.HashIn = true
opens _ = false

opens-has_body : (t : TokenKind) → opens t ≡ false → has_body t ≡ false
opens-has_body kind.Function h = cc
opens-has_body kind.Class h = cc
opens-has_body _ h = refl

abbrev pub is_word : Token → Bool
is_word (token.Word w) = true
is_word _ = false

abbrev pub word_first : List TokenAndSpan → Bool
word_first [] = false
word_first (t ∷ ts) = is_word t.token

pub kind_of : {what : Token} {s : Span} {c d : Place} → ReadsToken what s c d → kind_at c ≡ token_kind what
unfolding kind_at
kind_of r = rw r.is refl

pub word_of : {w : Word} {s : Span} {c d : Place} → ReadsToken (token.Word w) s c d → word_first c.left ≡ true
word_of r = rw r.is refl

-- a template begins with a token of its own
pub template_opens : {In : Goal → Type 0} {tagged : Bool} {k : Code} {es qs : List Tree} {c d : Place} → TemplateRule In tagged k es qs c d
    → (kind_at c ≡ kind.Template) ⊎ (kind_at c ≡ kind.TemplateHead)
template_opens (only_text q t e i) = inl (kind_of t.reads_text)
template_opens (first_text q qs m t r i) = inr (kind_of t.reads_text)

template_is_opening : {In : Goal → Type 0} {tagged : Bool} {k : Code} {es qs : List Tree} {c d : Place} → TemplateRule In tagged k es qs c d → opens (kind_at c) ≡ true
template_is_opening r = elim (template_opens r) [ inl e ↦ rw e refl | inr e ↦ rw e refl ]

template_has_body : {In : Goal → Type 0} {tagged : Bool} {k : Code} {es qs : List Tree} {c d : Place} → TemplateRule In tagged k es qs c d → kind_at c ≡ kind.Ident → ⊥
template_has_body r h = elim (template_opens r) [ inl e ↦ let f : kind.Template ≡ kind.Ident = sym e ∙ h in cc | inr e ↦ let f : kind.TemplateHead ≡ kind.Ident = sym e ∙ h in cc ]

async_function : (c : Place) → word_at (codes "async") c ≡ true → kind_at (after c) ≡ kind.Function → breaks_at (after c) ≡ false → is_async_function c ≡ true
unfolding is_async_function same_kind
async_function c g l j = rw (g, l, j) refl

-- neither `function` nor `async function` on one line
pub no_function : (c : Place) → has_body (kind_at c) ≡ false → is_async_function c ≡ false → (m : Place) (is_async : Bool) → AsyncWord is_async c m → kind_at m ≡ kind.Function → ⊥
no_function c h f m is_async (not_async e g) i = let j : kind_at c ≡ kind.Function = rw g at i in cc
no_function c h f m is_async (async_word e g i j) l = let o = async_function c g (rw i at l) (rw i at j) in cc

-- what begins none: neither a word nor a literal, nor what opens one
pub record IsNoPrimary (c : Place) : Type 0 where
  pub no_word : word_first c.left ≡ false
  pub no_literal : is_literal (kind_at c) ≡ false
  pub no_opening : opens (kind_at c) ≡ false
  pub no_function : is_async_function c ≡ false

-- what begins one with a bracket, or none
pub record IsBracketFirst (c : Place) : Type 0 where
  pub no_template : begins_template c ≡ false
  pub no_word : word_first c.left ≡ false
  pub no_literal : is_literal (kind_at c) ≡ false
  pub no_body : has_body (kind_at c) ≡ false
  pub no_function : is_async_function c ≡ false

no_template_here : {In : Goal → Type 0} {tagged : Bool} {k : Code} {es qs : List Tree} (c : Place) {d : Place} → begins_template c ≡ false → TemplateRule In tagged k es qs c d → ⊥
unfolding same_kind
no_template_here c h r = elim (template_opens r) [ inl e ↦ true≢false (rw e at h) | inr e ↦ true≢false (rw e at h) ]

pub data ByBracket (In : Goal → Type 0) (k : Code) (x : Tree) (c d : Place) : Type 0 where
  by_array : (xs : List Tree) (m : Place) → kind_at c ≡ kind.LBracket → Elements (ElementRule In k) xs (after c) m → kind_at m ≡ kind.RBracket → d ≡ after m
      → x ≡ tree.array (spanned c d) (listed xs) → ByBracket In k x c d
  by_object : (xs : List Tree) (m : Place) → kind_at c ≡ kind.LBrace → ReadsListed true (PropertyRule In k) xs (after c) m → kind_at m ≡ kind.RBrace → d ≡ after m
      → ByBracket In k x c d
  by_paren : (e : Tree) (m : Place) → kind_at c ≡ kind.LParen → In (expr_goal expression (with_in k) e (after c) m) → kind_at m ≡ kind.RParen → d ≡ after m
      → ByBracket In k x c d

-- ---- what a reading is, where the first token is known

module _ {In : Goal → Type 0} {k : Code} where
  pub no_primary : (c : Place) → IsNoPrimary c → (x : Tree) (d : Place) → PrimaryRule In k x c d → ⊥
  no_primary c h x d (name_rule text s r g e) = let f = word_of r.reads_word in let i = h.no_word in cc
  no_primary c h x d (string_rule v w s r e) = let f = kind_of r in let i = h.no_literal in cc
  no_primary c h x d (true_rule s r e) = let f = kind_of r in let i = h.no_literal in cc
  no_primary c h x d (false_rule s r e) = let f = kind_of r in let i = h.no_literal in cc
  no_primary c h x d (null_rule s r e) = let f = kind_of r in let i = h.no_literal in cc
  no_primary c h x d (number_rule w s r e) = let f = kind_of r in let i = h.no_literal in cc
  no_primary c h x d (big_int_rule w s r e) = let f = kind_of r in let i = h.no_literal in cc
  no_primary c h x d (regex_rule w v s r e) = let f = kind_of r in let i = h.no_literal in cc
  no_primary c h x d (template_rule es qs r e) = let f = template_is_opening r in let i = h.no_opening in cc
  no_primary c h x d (this_rule e g i) = let f = h.no_literal in cc
  no_primary c h x d (array_rule xs m e r g i j) = let f = h.no_opening in cc
  no_primary c h x d (object_rule xs m e r g i j) = let f = h.no_opening in cc
  no_primary c h x d (function_rule n y r e) = no_function c (opens-has_body _ h.no_opening) h.no_function r.word r.is_async r.reads_async r.is_function
  no_primary c h x d (class_rule n y r e) = let g = r.is_class in let f = h.no_opening in cc
  no_primary c h x d (paren_rule y m e r g i j) = let f = h.no_opening in cc

  pub by_bracket : (c : Place) → IsBracketFirst c → (x : Tree) (d : Place) → PrimaryRule In k x c d → ByBracket In k x c d
  by_bracket c h x d (name_rule text s r g e) = absurd (let f = word_of r.reads_word in let i = h.no_word in cc)
  by_bracket c h x d (string_rule v w s r e) = absurd (let f = kind_of r in let i = h.no_literal in cc)
  by_bracket c h x d (true_rule s r e) = absurd (let f = kind_of r in let i = h.no_literal in cc)
  by_bracket c h x d (false_rule s r e) = absurd (let f = kind_of r in let i = h.no_literal in cc)
  by_bracket c h x d (null_rule s r e) = absurd (let f = kind_of r in let i = h.no_literal in cc)
  by_bracket c h x d (number_rule w s r e) = absurd (let f = kind_of r in let i = h.no_literal in cc)
  by_bracket c h x d (big_int_rule w s r e) = absurd (let f = kind_of r in let i = h.no_literal in cc)
  by_bracket c h x d (regex_rule w v s r e) = absurd (let f = kind_of r in let i = h.no_literal in cc)
  by_bracket c h x d (template_rule es qs r e) = absurd (no_template_here c h.no_template r)
  by_bracket c h x d (this_rule e g i) = absurd (let f = h.no_literal in cc)
  by_bracket c h x d (array_rule xs m e r g i j) = by_array xs m e r g i j
  by_bracket c h x d (object_rule xs m e r g i j) = by_object xs m e r g i
  by_bracket c h x d (function_rule n y r e) = absurd (no_function c h.no_body h.no_function r.word r.is_async r.reads_async r.is_function)
  by_bracket c h x d (class_rule n y r e) = absurd (let g = r.is_class in let f = h.no_body in cc)
  by_bracket c h x d (paren_rule y m e r g i j) = by_paren y m e r g i

  -- one token, where nothing is opened
  pub one_token : (c : Place) → opens (kind_at c) ≡ false → is_async_function c ≡ false → (x : Tree) (d : Place) → PrimaryRule In k x c d → d ≡ after c
  one_token c h f x d (name_rule text s r g e) = r.reads_word.next
  one_token c h f x d (string_rule v w s r e) = r.next
  one_token c h f x d (true_rule s r e) = r.next
  one_token c h f x d (false_rule s r e) = r.next
  one_token c h f x d (null_rule s r e) = r.next
  one_token c h f x d (number_rule w s r e) = r.next
  one_token c h f x d (big_int_rule w s r e) = r.next
  one_token c h f x d (regex_rule w v s r e) = r.next
  one_token c h f x d (template_rule es qs r e) = absurd (let i = template_is_opening r in cc)
  one_token c h f x d (this_rule e g i) = g
  one_token c h f x d (array_rule xs m e r g i j) = cc
  one_token c h f x d (object_rule xs m e r g i j) = cc
  one_token c h f x d (function_rule n y r e) = absurd (no_function c (opens-has_body _ h) f r.word r.is_async r.reads_async r.is_function)
  one_token c h f x d (class_rule n y r e) = let g = r.is_class in cc
  one_token c h f x d (paren_rule y m e r g i j) = cc

  -- a bare name
  pub one_name : (c : Place) → kind_at c ≡ kind.Ident → is_async_function c ≡ false → (x : Tree) (d : Place) → PrimaryRule In k x c d → (s : Span) × (text : Text) × (x ≡ tree.ident s text)
  one_name c h f x d (name_rule text s r g e) = (s, text, e)
  one_name c h f x d (string_rule v w s r e) = let i = kind_of r in cc
  one_name c h f x d (true_rule s r e) = let i = kind_of r in cc
  one_name c h f x d (false_rule s r e) = let i = kind_of r in cc
  one_name c h f x d (null_rule s r e) = let i = kind_of r in cc
  one_name c h f x d (number_rule w s r e) = let i = kind_of r in cc
  one_name c h f x d (big_int_rule w s r e) = let i = kind_of r in cc
  one_name c h f x d (regex_rule w v s r e) = let i = kind_of r in cc
  one_name c h f x d (template_rule es qs r e) = absurd (template_has_body r h)
  one_name c h f x d (this_rule e g i) = cc
  one_name c h f x d (array_rule xs m e r g i j) = cc
  one_name c h f x d (object_rule xs m e r g i j) = cc
  one_name c h f x d (function_rule n y r e) = absurd (no_function c (rw h refl) f r.word r.is_async r.reads_async r.is_function)
  one_name c h f x d (class_rule n y r e) = let g = r.is_class in cc
  one_name c h f x d (paren_rule y m e r g i j) = cc
