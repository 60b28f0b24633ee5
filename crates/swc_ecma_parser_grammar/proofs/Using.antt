-- Behind `using` a name on its line goes on with no expression, so where `using` declares no expression statement begins and no label.
use Rattle.std.proofs.Common.{◌≡◌, ℕ, zero, suc, Bool, true, false, List, [], ◌∷◌, Option, Some, None, refl, sym, ◌∙◌, ap, codes, true≢false}
use Rattle.std.proofs.lemmas.Slice.Eq.{bytes_eq-Decides}
use Rattle.std.specs.Prelude.{not, ◌||◌, is_some}
use Rattle.swc_ecma_parser_common.specs.declared.span.Span.{Span}
use Rattle.swc_ecma_parser_token.specs.declared.keyword.Keyword.TheVariants as keyword
use Rattle.swc_ecma_parser_token.specs.declared.kind.TokenKind.{TokenKind}
use Rattle.swc_ecma_parser_token.specs.declared.kind.TokenKind.TheVariants as kind
use Rattle.swc_ecma_parser_token.specs.declared.token.Token.{Token}
use Rattle.swc_ecma_parser_token.specs.declared.token.Token.TheVariants as token
use Rattle.swc_ecma_parser_token.specs.declared.token.Word.TheVariants as word
use Rattle.swc_ecma_parser_token.specs.declared.token.TokenAndSpan.{TokenAndSpan}
use Rattle.swc_ecma_parser_token.specs.Kind.{token_kind}
use Rattle.swc_ecma_parser_input.specs.declared.context.Context.{Context}
use Rattle.swc_ecma_parser_input.specs.Place.{Place, after}
use Rattle.swc_ecma_parser_model.specs.Forms.{is_ident, is_binding_name}
use Rattle.swc_ecma_parser_model.specs.Tree as tree
use Rattle.swc_ecma_parser_model.specs.Tree.{Tree, Text}
use Rattle.swc_ecma_parser_grammar.specs.Looks.{kind_at, breaks_at, sees, same_kind, first_kind}
use Rattle.swc_ecma_parser_grammar.specs.Names.{Code, is_identifier, is_reserved, token_is_identifier, first_is_identifier, identifier_at}
use Rattle.swc_ecma_parser_grammar.specs.Ends.{Ends, by_semicolon, by_insertion, can_end}
use Rattle.swc_ecma_parser_grammar.specs.Follows.{word_at, token_is, first_is, is_async_function}
use Rattle.swc_ecma_parser_grammar.specs.language.Declarations.{is_using_declaration}
use Rattle.swc_ecma_parser_grammar.specs.language.Goals.{Goal, assigning, pattern_goal, expr_goal, expression}
use Rattle.swc_ecma_parser_grammar.specs.language.Operators.{unary_operator, update_operator, binary_operator, assign_operator}
use Rattle.swc_ecma_parser_grammar.specs.language.Begins.{awaits}
use Rattle.swc_ecma_parser_grammar.specs.language.Expressions.{operand_rule, AssignmentRule, assignment_rule, sequence_rule}
use Rattle.swc_ecma_parser_grammar.specs.language.Patterns.{PatternRule, binding_name_rule, target_name_rule, target_rule, array_rule, object_rule}
use Rattle.swc_ecma_parser_grammar.specs.language.Reads.{Reads}
use Rattle.swc_ecma_parser_grammar.proofs.Tests.{and_yes, and_no, or_no, or_none}
use Rattle.swc_ecma_parser_grammar.proofs.StatementBegins.{word_place}
use Rattle.swc_ecma_parser_grammar.proofs.Beginnings.{opens}
use Rattle.swc_ecma_parser_grammar.proofs.Inversions.{moved_kind, begins_form, is_access, is_paren, is_bracket, IsLone, IsPlain, lone_name, lone_assignment}

-- ---- a name is no token that goes on with what stands before it

abbrev is_operator : TokenKind → Bool
is_operator j = is_some (update_operator j) || (is_some (binary_operator j) || is_some (assign_operator j))

abbrev is_mark : TokenKind → Bool
is_mark j =
    same_kind j kind.QuestionMark || (same_kind j kind.Comma || (same_kind j kind.Arrow || (same_kind j kind.Colon || (same_kind j kind.Semi || (same_kind j kind.RBrace
    || (same_kind j kind.End || same_kind j kind.Function))))))

abbrev goes_on : TokenKind → Bool
goes_on j = is_access j || (is_operator j || is_mark j)

token_goes_on : (f : Context) (t : Token) → token_is_identifier f t ≡ true → goes_on (token_kind t) ≡ false
unfolding is_identifier is_reserved same_kind
token_goes_on f (token.Word (word.Keyword keyword.Await)) h = cc
token_goes_on f (token.Word (word.Ident u)) h = refl
token_goes_on f _ h = cc

name_goes_on : (f : Context) (c : Place) → identifier_at f c ≡ true → goes_on (kind_at c) ≡ false
unfolding identifier_at kind_at
name_goes_on f c h = go c.left h
  where
    go : (ts : List TokenAndSpan) → first_is_identifier f ts ≡ true → goes_on (first_kind ts) ≡ false
    go [] e = cc
    go (t ∷ ts) e = token_goes_on f t.token e

none_of : {A : Type 0} (o : Option A) → is_some o ≡ false → o ≡ None
none_of None e = refl
none_of (Some a) e = cc

-- what a name is not
pub record IsNoOther (c : Place) : Type 0 where
  pub no_access : is_access (kind_at c) ≡ false
  pub no_update : update_operator (kind_at c) ≡ None
  pub no_binary : binary_operator (kind_at c) ≡ None
  pub no_assignment : assign_operator (kind_at c) ≡ None
  pub no_question : sees kind.QuestionMark c ≡ false
  pub no_comma : sees kind.Comma c ≡ false
  pub no_arrow : sees kind.Arrow c ≡ false
  pub no_colon : sees kind.Colon c ≡ false
  pub no_semi : sees kind.Semi c ≡ false
  pub no_brace : sees kind.RBrace c ≡ false
  pub no_end : sees kind.End c ≡ false
  pub no_function : sees kind.Function c ≡ false

pub no_other : (f : Context) (c : Place) → identifier_at f c ≡ true → IsNoOther c
no_other f c h =
    let j = kind_at c in
    let a = or_no (is_access j) _ (name_goes_on f c h) in
    let b = or_no (is_operator j) (is_mark j) a.1 in
    let e = or_no (is_some (update_operator j)) _ b.0 in
    let g = or_no (is_some (binary_operator j)) (is_some (assign_operator j)) e.1 in
    let i = or_no (same_kind j kind.QuestionMark) _ b.1 in
    let l = or_no (same_kind j kind.Comma) _ i.1 in
    let m = or_no (same_kind j kind.Arrow) _ l.1 in
    let n = or_no (same_kind j kind.Colon) _ m.1 in
    let o = or_no (same_kind j kind.Semi) _ n.1 in
    let p = or_no (same_kind j kind.RBrace) _ o.1 in
    let q = or_no (same_kind j kind.End) (same_kind j kind.Function) p.1 in
    record {
      no_access = a.0;
      no_update = none_of _ e.0;
      no_binary = none_of _ g.0;
      no_assignment = none_of _ g.1;
      no_question = i.0;
      no_comma = l.0;
      no_arrow = m.0;
      no_colon = n.0;
      no_semi = o.0;
      no_brace = p.0;
      no_end = q.0;
      no_function = q.1;
    }

-- ---- a word before a name

-- it is all of an operand
lone_word : (f : Context) (c : Place) → kind_at c ≡ kind.Ident → is_async_function c ≡ false → identifier_at f (after c) ≡ true → (j : Code) → IsLone j c
unfolding awaits same_kind
lone_word f c e n h j = let o = no_other f (after c) h in record {
  no_opening = ap opens e;
  no_function = n;
  no_form = ap begins_form e;
  unprefixed = record { no_unary = ap unary_operator e; no_update = ap update_operator e; no_await = rw e refl };
  no_access = o.no_access;
  no_postfix = o.no_update;
}

-- and all of a target
lone_target : {In : Goal → Type 0} (j : Code) (c : Place) → IsLone j c → kind_at c ≡ kind.Ident → (x : Tree) (d : Place) → PatternRule In assigning j x c d
    → (d ≡ after c) × ((s : Span) × (text : Text) × (x ≡ tree.ident_pat s text))
lone_target j c h e x d (binding_name_rule text s i r f) = cc
lone_target j c h e x d (target_name_rule text s i a r f) = (r.reads_word.next, (s, text, f))
lone_target j c h e x d (target_rule y i r t u f) = let (s, text, g) = lone_name c h e y d (operand_rule r) in absurd (true≢false (sym (ap is_ident g) ∙ u))
lone_target j c h e x d (array_rule xs m i r f g l) = cc
lone_target j c h e x d (object_rule xs m i r f g l) = cc

pub word_target : (f : Context) (c : Place) → kind_at c ≡ kind.Ident → is_async_function c ≡ false → identifier_at f (after c) ≡ true → (n : ℕ) (j : Code) (x : Tree) (d : Place)
    → Reads n (pattern_goal assigning j x c d) → (d ≡ after c) × (is_binding_name x ≡ true)
word_target f c e i h zero j x d r = absurd r
word_target f c e i h (suc n) j x d r = let (g, (s, text, l)) = lone_target j c (lone_word f c e i h j) e x d r in (g, ap is_binding_name l)

-- ---- `using` is no other word

no_async : (ts : List TokenAndSpan) → first_is (codes "using") ts ≡ true → first_is (codes "async") ts ≡ false
no_async [] e = cc
no_async (t ∷ ts) e = go t.token e
  where
    go : (t : Token) → token_is (codes "using") t ≡ true → token_is (codes "async") t ≡ false
    go (token.Word (word.Ident u)) h = rw ((bytes_eq-Decides u (codes "using")).0 h) refl
    go _ h = cc

using_no_async : (c : Place) → word_at (codes "using") c ≡ true → word_at (codes "async") c ≡ false
unfolding word_at
using_no_async c h = no_async c.left h

pub kind_differs : (j : TokenKind) (c : Place) → sees j c ≡ false → kind_at c ≡ j → same_kind j j ≡ true → ⊥
kind_differs j c h e s = true≢false (sym s ∙ ap (λ i. same_kind i j) (sym e) ∙ h)

-- it is reserved nowhere
using_token : (f : Context) (t : Token) → token_is (codes "using") t ≡ true → token_is_identifier f t ≡ true
unfolding is_identifier is_reserved
using_token f (token.Word (word.Ident text)) e = rw ((bytes_eq-Decides text (codes "using")).0 e) (ap not (or_none _ _ (and_no f.strict _ refl) (and_no f.in_generator _ refl)))
using_token f _ e = cc

using_first : (f : Context) (ts : List TokenAndSpan) → first_is (codes "using") ts ≡ true → first_is_identifier f ts ≡ true
using_first f [] e = cc
using_first f (t ∷ ts) e = using_token f t.token e

pub using_identifier : (f : Context) (c : Place) → word_at (codes "using") c ≡ true → identifier_at f c ≡ true
unfolding word_at identifier_at
using_identifier f c e = using_first f c.left e

-- ---- where it declares

pub declares : (k : Code) (c : Place) → is_using_declaration k c ≡ true → (word_at (codes "using") c ≡ true) × (identifier_at k.flags (after c) ≡ true) × (breaks_at (after c) ≡ false)
unfolding is_using_declaration
declares k c h = let g = and_yes (word_at (codes "using") c) _ h in let i = and_yes (identifier_at k.flags (after c)) _ g.1 in (g.0, i.0, unbroken (breaks_at (after c)) i.1)
  where
    unbroken : (b : Bool) → not b ≡ true → b ≡ false
    unbroken true e = cc
    unbroken false e = refl

module _ (k : Code) (c : Place) (w : word_at (codes "using") c ≡ true) (i : identifier_at k.flags (after c) ≡ true) where
  behind_word : IsNoOther (after c)
  behind_word = no_other k.flags (after c) i

  pub word_stands : kind_at c ≡ kind.Ident
  word_stands = word_place (codes "using") c w

  pub word_no_function : is_async_function c ≡ false
  unfolding is_async_function
  word_no_function = rw (using_no_async c w) refl

  pub using_lone : (j : Code) → IsLone j c
  using_lone j = lone_word k.flags c word_stands word_no_function i j

  using_plain : IsPlain c
  unfolding same_kind
  using_plain = record {
    no_async = using_no_async c w;
    no_yield = rw word_stands refl;
    no_paren = ap is_paren word_stands;
    no_bracket = ap is_bracket word_stands;
    no_arrow = rw behind_word.no_arrow refl;
  }

  using_assignment : (j : Code) (n : ℕ) (y : Tree) (m : Place) → AssignmentRule (Reads n) j y c m → m ≡ after c
  unfolding same_kind
  using_assignment j n y m r =
      lone_assignment n c (using_lone j) using_plain behind_word.no_binary behind_word.no_assignment (λ e. kind_differs kind.QuestionMark (after c) behind_word.no_question e refl) y m r

  pub using_alone : (j : Code) (n : ℕ) (y : Tree) (m : Place) → Reads n (expr_goal expression j y c m) → m ≡ after c
  unfolding same_kind
  using_alone j zero y m r = absurd r
  using_alone j (suc n) y m (assignment_rule r e) = using_assignment j n y m r
  using_alone j (suc n) y m (sequence_rule e f es (i, r, g, rs) u) =
      absurd (kind_differs kind.Comma (after c) behind_word.no_comma (moved_kind i (after c) (using_assignment j n e i r) g) refl)

module _ (k : Code) (c : Place) (h : is_using_declaration k c ≡ true) where
  pub using_stands : kind_at c ≡ kind.Ident
  using_stands = word_place (codes "using") c (declares k c h).0

  behind_using : IsNoOther (after c)
  behind_using = no_other k.flags (after c) (declares k c h).1

  pub using_no_function : is_async_function c ≡ false
  using_no_function = word_no_function k c (declares k c h).0 (declares k c h).1

  -- no statement is an expression that begins so
  pub no_using_statement : (j : Code) (n : ℕ) (y : Tree) (m d : Place) → Reads n (expr_goal expression j y c m) → Ends m d → ⊥
  unfolding same_kind can_end
  no_using_statement j n y m d r (by_semicolon e g) = kind_differs kind.Semi (after c) behind_using.no_semi (moved_kind m (after c) (using_alone k c (declares k c h).0 (declares k c h).1 j n y m r) e) refl
  no_using_statement j n y m d r (by_insertion e f g) =
      let i : can_end (after c) ≡ true = rw (using_alone k c (declares k c h).0 (declares k c h).1 j n y m r) at f in
      let l : can_end (after c) ≡ false = rw (behind_using.no_end, behind_using.no_brace, (declares k c h).2) refl in
      cc

  -- nor is it a label
  pub no_using_label : sees kind.Colon (after c) ≡ false
  no_using_label = behind_using.no_colon
