-- With which tokens a supported expression begins: but for `{` and `import` with none that begins or ends a statement. A name is
-- no `await`.
use Rattle.std.proofs.Common.{◌≡◌, ◌⊎◌, inl, inr, ℕ, zero, suc, Bool, true, false, true≢false, List, [], ◌∷◌, Some, refl, sym, ◌∙◌, ap}
use Rattle.std.specs.Prelude.{◌&&◌, codes}
use Rattle.swc_ecma_parser_common.specs.declared.span.Span.{Span}
use Rattle.swc_ecma_parser_token.specs.declared.kind.TokenKind.{TokenKind}
use Rattle.swc_ecma_parser_token.specs.declared.kind.TokenKind.TheVariants as kind
use Rattle.swc_ecma_parser_token.specs.declared.keyword.Keyword.TheVariants as keyword
use Rattle.swc_ecma_parser_token.specs.declared.token.Token.{Token}
use Rattle.swc_ecma_parser_token.specs.declared.token.Token.TheVariants as token
use Rattle.swc_ecma_parser_token.specs.declared.token.Word.{Word}
use Rattle.swc_ecma_parser_token.specs.declared.token.Word.TheVariants as word
use Rattle.swc_ecma_parser_token.specs.Kind.{token_kind, word_kind}
use Rattle.swc_ecma_parser_token.specs.Text.{word_text}
use Rattle.swc_ecma_parser_input.specs.declared.context.Context.{Context}
use Rattle.swc_ecma_parser_input.specs.Place.{Place}
use Rattle.swc_ecma_parser_model.specs.declared.operators.UnaryOp.{UnaryOp}
use Rattle.swc_ecma_parser_model.specs.declared.operators.UpdateOp.{UpdateOp}
use Rattle.swc_ecma_parser_model.specs.declared.operators.BinaryOp.TheVariants as binary
use Rattle.swc_ecma_parser_model.specs.Tree as tree
use Rattle.swc_ecma_parser_model.specs.Tree.{Tree, Text, listed}
use Rattle.swc_ecma_parser_model.specs.Forms.{is_pattern_target, is_binding_name}
use Rattle.swc_ecma_parser_grammar.specs.Follows as follows
use Rattle.swc_ecma_parser_grammar.specs.Looks.{kind_at, sees, spanned, same_kind}
use Rattle.swc_ecma_parser_grammar.specs.Names.{Code, is_reserved, is_name, is_identifier}
use Rattle.swc_ecma_parser_grammar.specs.scaffold.Supported.{supported_in}
use Rattle.swc_ecma_parser_grammar.specs.scaffold.ReadsSupported.{ReadsClass}
use Rattle.swc_ecma_parser_grammar.specs.language.Goals.{Goal, expression, binding, assigning, pattern_goal}
use Rattle.swc_ecma_parser_grammar.specs.language.Patterns as patterns
use Rattle.swc_ecma_parser_grammar.specs.language.Operators.{unary_operator, update_operator}
use Rattle.swc_ecma_parser_grammar.specs.language.Parts.{ReadsName, ReadsToken}
use Rattle.swc_ecma_parser_grammar.specs.language.Functions as functions
use Rattle.swc_ecma_parser_grammar.specs.language.LeftSides as sides
use Rattle.swc_ecma_parser_grammar.specs.language.LeftSides.{LeftSideRule, primary_rule, import_meta_rule, new_target_rule, member_rule, super_property_rule, call_rule, tagged_rule, chain_rule, linked_rule, super_call_rule, import_call_rule, new_rule, bare_new_rule}
use Rattle.swc_ecma_parser_grammar.specs.language.Links as links
use Rattle.swc_ecma_parser_grammar.specs.language.Links.{LinkRule}
use Rattle.swc_ecma_parser_grammar.specs.language.Expressions as expressions
use Rattle.swc_ecma_parser_grammar.specs.language.Expressions.{BinaryRule, single_rule, left_rule, power_rule, private_in_rule}
use Rattle.swc_ecma_parser_grammar.specs.language.Reads.{Reads}
use Rattle.swc_ecma_parser_grammar.proofs.Tests.{and_yes}
use Rattle.swc_ecma_parser_grammar.proofs.Naming.{name_is_free, name_is_name}
use Rattle.swc_ecma_parser_grammar.proofs.ExpressionBegins.{await_stands}
use Rattle.swc_ecma_parser_grammar.proofs.StatementBegins.{word_place}
use Rattle.swc_ecma_parser_grammar.proofs.Beginnings.{template_opens}

-- ---- trees that are supported

-- no tree is of a form that is not supported and is supported
pub refuted : {X : Type 0} (m : Bool) (x : Tree) → supported_in m x ≡ false → supported_in m x ≡ true → X
refuted m x e h = cc

-- the form of a tree that is supported is
pub supported_as : (m : Bool) (x y : Tree) → x ≡ y → supported_in m x ≡ true → supported_in m y ≡ true
supported_as m x y e h = sym (ap (supported_in m) e) ∙ h

-- ---- tokens

-- the first token decides for an expression, as far as it decides
abbrev pub opens : TokenKind → Bool
opens kind.Semi = false
opens kind.Debugger = false
opens kind.Export = false
opens kind.Var = false
opens kind.If = false
opens kind.Throw = false
opens kind.Switch = false
opens kind.Case = false
opens kind.Default = false
opens kind.Try = false
opens kind.Catch = false
opens kind.Finally = false
opens kind.With = false
opens kind.While = false
opens kind.Do = false
opens kind.Break = false
opens kind.Continue = false
opens kind.Return = false
opens kind.Error = false
opens kind.For = false
opens kind.RParen = false
opens kind.RBrace = false
opens kind.End = false
opens kind.At = false
opens _ = true

word_opens : (f : Context) (w : Word) → is_identifier f (word_text w) ≡ true → opens (word_kind w) ≡ true
unfolding is_identifier is_reserved
word_opens f (word.Keyword keyword.Debugger) h = cc
word_opens f (word.Keyword keyword.Export) h = cc
word_opens f (word.Keyword keyword.Var) h = cc
word_opens f (word.Keyword keyword.If) h = cc
word_opens f (word.Keyword keyword.Throw) h = cc
word_opens f (word.Keyword keyword.Switch) h = cc
word_opens f (word.Keyword keyword.Case) h = cc
word_opens f (word.Keyword keyword.Default) h = cc
word_opens f (word.Keyword keyword.Try) h = cc
word_opens f (word.Keyword keyword.Catch) h = cc
word_opens f (word.Keyword keyword.Finally) h = cc
word_opens f (word.Keyword keyword.With) h = cc
word_opens f (word.Keyword keyword.While) h = cc
word_opens f (word.Keyword keyword.Do) h = cc
word_opens f (word.Keyword keyword.Break) h = cc
word_opens f (word.Keyword keyword.Continue) h = cc
word_opens f (word.Keyword keyword.Return) h = cc
word_opens f (word.Keyword keyword.For) h = cc
word_opens f _ h = refl

kind_opens : (c : Place) (j : TokenKind) → kind_at c ≡ j → opens j ≡ true → opens (kind_at c) ≡ true
kind_opens c j e h = ap opens e ∙ h

token_opens : (t : Token) (s : Span) (c d : Place) → ReadsToken t s c d → opens (token_kind t) ≡ true → opens (kind_at c) ≡ true
unfolding kind_at
token_opens t s c d r e = rw r.is e

name_opens : (k : Code) (text : Text) (s : Span) (c d : Place) → ReadsName k text s c d → opens (kind_at c) ≡ true
name_opens k text s c d r = token_opens (token.Word r.word) s c d r.reads_word (word_opens k.flags r.word (name_is_free k.flags (word_text r.word) (name_is_name k text s c d r)))

-- a name begins an expression, as far as its kind decides
pub word_begins : (f : Context) (w : Word) (s : Span) (c d : Place) → ReadsToken (token.Word w) s c d → is_name f (word_text w) ≡ true → opens (kind_at c) ≡ true
word_begins f w s c d r h = token_opens (token.Word w) s c d r (word_opens f w (name_is_free f (word_text w) h))

unary_opens : (j : TokenKind) (op : UnaryOp) → unary_operator j ≡ Some op → opens j ≡ true
unary_opens kind.Semi op h = cc
unary_opens kind.Debugger op h = cc
unary_opens kind.Export op h = cc
unary_opens kind.Var op h = cc
unary_opens kind.If op h = cc
unary_opens kind.Throw op h = cc
unary_opens kind.Switch op h = cc
unary_opens kind.Case op h = cc
unary_opens kind.Default op h = cc
unary_opens kind.Try op h = cc
unary_opens kind.Catch op h = cc
unary_opens kind.Finally op h = cc
unary_opens kind.With op h = cc
unary_opens kind.While op h = cc
unary_opens kind.Do op h = cc
unary_opens kind.Break op h = cc
unary_opens kind.Continue op h = cc
unary_opens kind.Return op h = cc
unary_opens kind.Error op h = cc
unary_opens kind.For op h = cc
unary_opens kind.RParen op h = cc
unary_opens kind.RBrace op h = cc
unary_opens kind.End op h = cc
unary_opens kind.At op h = cc
unary_opens _ op h = refl

update_opens : (j : TokenKind) (op : UpdateOp) → update_operator j ≡ Some op → opens j ≡ true
update_opens kind.Semi op h = cc
update_opens kind.Debugger op h = cc
update_opens kind.Export op h = cc
update_opens kind.Var op h = cc
update_opens kind.If op h = cc
update_opens kind.Throw op h = cc
update_opens kind.Switch op h = cc
update_opens kind.Case op h = cc
update_opens kind.Default op h = cc
update_opens kind.Try op h = cc
update_opens kind.Catch op h = cc
update_opens kind.Finally op h = cc
update_opens kind.With op h = cc
update_opens kind.While op h = cc
update_opens kind.Do op h = cc
update_opens kind.Break op h = cc
update_opens kind.Continue op h = cc
update_opens kind.Return op h = cc
update_opens kind.Error op h = cc
update_opens kind.For op h = cc
update_opens kind.RParen op h = cc
update_opens kind.RBrace op h = cc
update_opens kind.End op h = cc
update_opens kind.At op h = cc
update_opens _ op h = refl

-- ---- expressions

module _ (In : Goal → Type 0) (k : Code) where
  -- a function begins with its word, or with `async`
  pub function_begins : {name y : Tree} (c : Place) {d : Place} → functions.FunctionRule In true k (listed []) name y c d → (kind_at c ≡ kind.Function) ⊎ (kind_at c ≡ kind.Ident)
  function_begins c r = by_word r.reads_async
    where
      by_word : follows.AsyncWord r.is_async c r.word → (kind_at c ≡ kind.Function) ⊎ (kind_at c ≡ kind.Ident)
      by_word (follows.not_async e h) = inl (ap kind_at (sym h) ∙ r.is_function)
      by_word (follows.async_word e h g i) = inr (word_place (codes "async") c h)

  function_opens : {name y : Tree} (c : Place) {d : Place} → functions.FunctionRule In true k (listed []) name y c d → opens (kind_at c) ≡ true
  function_opens c r = elim (function_begins c r) [ inl e ↦ kind_opens c kind.Function e refl | inr e ↦ kind_opens c kind.Ident e refl ]

  primary_opens : (x : Tree) (c d : Place) → sides.PrimaryRule In k x c d → supported_in k.flags.module x ≡ true → opens (kind_at c) ≡ true
  primary_opens x c d (sides.name_rule text s r f e) h = name_opens k text s c d r
  primary_opens x c d (sides.string_rule value raw s r e) h = token_opens (token.Str value raw) s c d r refl
  primary_opens x c d (sides.true_rule s r e) h = token_opens (token.Word word.True) s c d r refl
  primary_opens x c d (sides.false_rule s r e) h = token_opens (token.Word word.False) s c d r refl
  primary_opens x c d (sides.null_rule s r e) h = token_opens (token.Word word.Null) s c d r refl
  primary_opens x c d (sides.number_rule raw s r e) h = token_opens (token.Num raw) s c d r refl
  primary_opens x c d (sides.big_int_rule raw s r e) h = token_opens (token.BigInt raw) s c d r refl
  primary_opens x c d (sides.regex_rule exp flags s r e) h = token_opens (token.Regex exp flags) s c d r refl
  primary_opens x c d (sides.template_rule es qs r e) h = elim (template_opens r) [ inl i ↦ kind_opens c kind.Template i refl | inr i ↦ kind_opens c kind.TemplateHead i refl ]
  primary_opens x c d (sides.this_rule i n e) h = kind_opens c kind.This i refl
  primary_opens x c d (sides.array_rule xs m i r j n e) h = kind_opens c kind.LBracket i refl
  primary_opens x c d (sides.object_rule xs m i r j n e) h = kind_opens c kind.LBrace i refl
  primary_opens x c d (sides.function_rule name y r e) h = function_opens c r
  primary_opens x c d (sides.class_rule name y r e) h = kind_opens c kind.Class r.is_class refl
  primary_opens x c d (sides.paren_rule y m i r j n e) h = kind_opens c kind.LParen i refl

  -- the object of a link is supported where the link is
  pub link_opens : {X : Type 0} {behind_question : Bool} {s : Span} {c d : Place} (o b : Tree) → (supported_in k.flags.module o ≡ true → X) → LinkRule In k behind_question s o b c d
      → supported_in k.flags.module b ≡ true → X
  link_opens {s = s} o b f (links.name_link text w i r e) h = f (and_yes (supported_in k.flags.module o) _ (supported_as _ b (tree.member s o (tree.ident w text)) e h)).0
  link_opens {s = s} o b f (links.private_link name i r e) h = f (and_yes (supported_in k.flags.module o) _ (supported_as _ b (tree.member s o name) e h)).0
  link_opens {s = s} o b f (links.access_link property i r e) h = f (and_yes (supported_in k.flags.module o) _ (supported_as _ b (tree.member s o property) e h)).0
  link_opens {s = s} o b f (links.arguments_link arguments r e) h = f (and_yes (supported_in k.flags.module o) _ (supported_as _ b (tree.call s o arguments) e h)).0

  left_side_opens : {x : Tree} {c d : Place} → LeftSideRule In k x c d → supported_in k.flags.module x ≡ true → opens (kind_at c) ≡ true
  left_side_opens {x = x} {c = c} {d = d} (primary_rule r) h = primary_opens x c d r h
  left_side_opens {c = c} (import_meta_rule i j w n m e) h = kind_opens c kind.Import i refl
  left_side_opens {c = c} (new_target_rule i j w n e) h = kind_opens c kind.New i refl
  left_side_opens {x = x} {c = c} {d = d} (member_rule y p m r n a e) h =
      left_side_opens r (and_yes (supported_in k.flags.module y) _ (supported_as _ x (tree.member (spanned c d) y p) e h)).0
  left_side_opens {c = c} (super_property_rule p i a j e) h = kind_opens c kind.Super i refl
  left_side_opens {x = x} {c = c} {d = d} (call_rule y z m r n a e) h = left_side_opens r (and_yes (supported_in k.flags.module y) _ (supported_as _ x (tree.call (spanned c d) y z) e h)).0
  left_side_opens {x = x} {c = c} {d = d} (tagged_rule t es qs m r n q e) h = left_side_opens r (and_yes (supported_in k.flags.module t) _ (supported_as _ x (tree.tagged_tpl (spanned c d) t (tree.tpl (spanned m d) (listed es) (listed qs))) e h)).0
  left_side_opens {x = x} {c = c} {d = d} (chain_rule o b m r i q e) h = link_opens o b (left_side_opens r) q (supported_as _ x (tree.opt_chain (spanned c d) true b) e h)
  left_side_opens {x = x} {c = c} {d = d} (linked_rule o b m r n q e) h = link_opens o b (left_side_opens r) q (supported_as _ x (tree.opt_chain (spanned c d) false b) e h)
  left_side_opens {c = c} (super_call_rule z i a e) h = kind_opens c kind.Super i refl
  left_side_opens {c = c} (import_call_rule z i a e) h = kind_opens c kind.Import i refl
  left_side_opens {c = c} (new_rule y z m i r a e) h = kind_opens c kind.New i refl
  left_side_opens {c = c} (bare_new_rule y i r e) h = kind_opens c kind.New i refl

  unary_rule_opens : (x : Tree) (c d : Place) → expressions.UnaryRule In k x c d → supported_in k.flags.module x ≡ true → opens (kind_at c) ≡ true
  unary_rule_opens x c d (expressions.operand_rule r) h = left_side_opens r.0 h
  unary_rule_opens x c d (expressions.unary_rule op y i r e) h = unary_opens (kind_at c) op i
  unary_rule_opens x c d (expressions.prefix_rule op y i r t e) h = update_opens (kind_at c) op i
  unary_rule_opens x c d (expressions.postfix_rule op y m r t b i n e) h = left_side_opens r.0 (supported_as _ x (tree.update (spanned c d) op false y) e h)
  unary_rule_opens x c d (expressions.await_rule y a m r e) h = kind_opens c kind.Await (await_stands k.flags c a) refl

  binary_opens : {n : ℕ} {x : Tree} {c d : Place} → BinaryRule In k n x c d → supported_in k.flags.module x ≡ true → opens (kind_at c) ≡ true
  binary_opens {x = x} {c = c} {d = d} (single_rule r) h = unary_rule_opens x c d r h
  binary_opens {x = x} {c = c} {d = d} (left_rule op y z m b g i r o s u v e) h = binary_opens r (and_yes (supported_in k.flags.module y) _ (supported_as _ x (tree.bin (spanned c d) op y z) e h)).0
  binary_opens {x = x} {c = c} {d = d} (power_rule y z m b r u i s e) h =
      unary_rule_opens y c m r (and_yes (supported_in k.flags.module y) _ (supported_as _ x (tree.bin (spanned c d) binary.Exp y z) e h)).0
  binary_opens {x = x} {c = c} {d = d} (private_in_rule y z m b g r i s e) h = kind_opens c kind.HashIn r.hash refl

  -- a pattern that is assigned to begins with its bracket or brace
  pattern_opens : (x : Tree) (c d : Place) → patterns.PatternRule In assigning k x c d → is_pattern_target x ≡ true → opens (kind_at c) ≡ true
  pattern_opens x c d (patterns.binding_name_rule text s p r e) h = cc
  pattern_opens x c d (patterns.target_name_rule text s p a r e) h = cc
  pattern_opens x c d (patterns.target_rule y p r t i e) h = cc
  pattern_opens x c d (patterns.array_rule xs m i r j n e) h = kind_opens c kind.LBracket i refl
  pattern_opens x c d (patterns.object_rule xs m i r j n e) h = kind_opens c kind.LBrace i refl

-- a binding pattern of the next level that is a name begins with it
abbrev NameOpens : (In : Goal → Type 0) → Code → Type 0
NameOpens In k = (p : Tree) (c d : Place) → In (pattern_goal binding k p c d) → is_binding_name p ≡ true → supported_in k.flags.module p ≡ true → opens (kind_at c) ≡ true

module _ (In : Goal → Type 0) (k : Code) (small : NameOpens In k) where
  -- an arrow begins with its name or with `(`, or with `async` before them
  arrow_head_opens : (ps : List Tree) (c d : Place) → expressions.ArrowHeadRule In k ps c d → supported_in k.flags.module (listed ps) ≡ true → opens (kind_at c) ≡ true
  arrow_head_opens ps c d (expressions.name_head p r i e) h =
      small p c d r i (and_yes (supported_in k.flags.module p) _ (supported_as _ (listed ps) (listed (p ∷ [])) (ap listed e) h)).0
  arrow_head_opens ps c d (expressions.parameters_head r) h = kind_opens c kind.LParen r.opens refl

  arrow_opens : (a : Bool) (ps : List Tree) (y : Tree) (s : Span) (c i j : Place) → follows.AsyncWord a c i → expressions.ArrowHeadRule In k ps i j
      → supported_in k.flags.module (tree.arrow s (listed ps) y a) ≡ true → opens (kind_at c) ≡ true
  arrow_opens a ps y s c i j (follows.not_async e g) r h =
      let l = (and_yes (supported_in k.flags.module (listed ps) && supported_in k.flags.module y) _ h).0 in
      ap (λ p. opens (kind_at p)) (sym g) ∙ arrow_head_opens ps i j r (and_yes (supported_in k.flags.module (listed ps)) _ l).0
  arrow_opens a ps y s c i j (follows.async_word e w g b) r h = kind_opens c kind.Ident (word_place (codes "async") c w) refl

  assignment_opens : (x : Tree) (c d : Place) → expressions.AssignmentRule In k x c d → supported_in k.flags.module x ≡ true → opens (kind_at c) ≡ true
  assignment_opens x c d (expressions.operators_rule r s) h = binary_opens In k r h
  assignment_opens x c d (expressions.conditional_rule t y z i j r q a b s u e) h = binary_opens In k r (and_yes (supported_in k.flags.module t) _ (supported_as _ x (tree.cond (spanned c d) t y z) e h)).0
  assignment_opens x c d (expressions.assign_rule op y z m r t a b e) h = left_side_opens In k r.0 (and_yes (supported_in k.flags.module y) _ (supported_as _ x (tree.assign (spanned c d) op y z) e h)).0
  assignment_opens x c d (expressions.destructuring_rule y z m r t a b e) h = pattern_opens In k y c m r t
  assignment_opens x c d (expressions.arrow_rule a ps y i j r s t b u e) h = arrow_opens a ps y (spanned c d) c i j r s (supported_as _ x (tree.arrow (spanned c d) (listed ps) y a) e h)
  assignment_opens x c d (expressions.bare_yield_rule g i n s e) h = kind_opens c kind.Yield i refl
  assignment_opens x c d (expressions.yield_rule y g i b s r e) h = kind_opens c kind.Yield i refl
  assignment_opens x c d (expressions.delegate_rule y g i b m r e) h = kind_opens c kind.Yield i refl

  expression_opens : (x : Tree) (c d : Place) → expressions.ExpressionRule In k x c d → supported_in k.flags.module x ≡ true → opens (kind_at c) ≡ true
  expression_opens x c d (expressions.assignment_rule r comma) h = assignment_opens x c d r h
  expression_opens x c d (expressions.sequence_rule y z zs (m, r, i, rs) e) h =
      assignment_opens y c m r (and_yes (supported_in k.flags.module y) _ (supported_as _ x (tree.seq (spanned c d) (listed (y ∷ z ∷ zs))) e h)).0

-- a pattern that is a name
name_pattern_opens : (In : Goal → Type 0) (k : Code) (x : Tree) (c d : Place) → patterns.PatternRule In binding k x c d → is_binding_name x ≡ true
    → supported_in k.flags.module x ≡ true → opens (kind_at c) ≡ true
name_pattern_opens In k x c d (patterns.binding_name_rule text s p r e) i h = name_opens k text s c d r
name_pattern_opens In k x c d (patterns.target_name_rule text s p a r e) i h = cc
name_pattern_opens In k x c d (patterns.target_rule y p r t j e) i h = cc
name_pattern_opens In k x c d (patterns.array_rule xs m j r l n e) i h = absurd (true≢false (sym i ∙ ap is_binding_name e))
name_pattern_opens In k x c d (patterns.object_rule xs m j r l n e) i h = absurd (true≢false (sym i ∙ ap is_binding_name e))

names_open : (n : ℕ) (k : Code) → NameOpens (Reads n) k
names_open zero k p c d r i h = absurd r
names_open (suc n) k p c d r i h = name_pattern_opens (Reads n) k p c d r i h

pub expr_opens : (n : ℕ) (k : Code) (x : Tree) (c d : Place) → ReadsClass n expression k x c d → opens (kind_at c) ≡ true
expr_opens zero k x c d r = absurd r.0
expr_opens (suc n) k x c d r = expression_opens (Reads n) k (names_open n k) x c d r.0 r.1

-- a name is not `import`
word_no_import : (f : Context) (w : Word) → is_identifier f (word_text w) ≡ true → same_kind (word_kind w) kind.Import ≡ false
unfolding is_identifier is_reserved same_kind
word_no_import f (word.Keyword keyword.Import) h = cc
word_no_import f _ h = refl

token_is_none : (t : Token) (s : Span) (c d : Place) (j : TokenKind) → ReadsToken t s c d → same_kind (token_kind t) j ≡ false → sees j c ≡ false
unfolding kind_at
token_is_none t s c d j r e = rw r.is e

pub name_begins : (f : Context) (w : Word) (s : Span) (c d : Place) → ReadsToken (token.Word w) s c d → is_name f (word_text w) ≡ true → sees kind.Import c ≡ false
name_begins f w s c d r h = token_is_none (token.Word w) s c d kind.Import r (word_no_import f w (name_is_free f (word_text w) h))
