-- Lists of tokens with none of the new forms, place by place, and trees without them.
use Rattle.std.proofs.Common.{◌≡◌, Bool, true, false, List, [], ◌∷◌, ◌++◌, ap, refl, sym, ◌∙◌}
use Rattle.std.specs.Prelude.{◌||◌}
use Rattle.swc_ecma_parser_common.specs.declared.span.Span.{Span}
use Rattle.swc_ecma_parser_token.specs.declared.keyword.Keyword.{Keyword}
use Rattle.swc_ecma_parser_token.specs.declared.keyword.Keyword.TheVariants as keyword
use Rattle.swc_ecma_parser_token.specs.declared.operator.BinOpToken.{BinOpToken}
use Rattle.swc_ecma_parser_token.specs.declared.operator.BinOpToken.TheVariants as bin
use Rattle.swc_ecma_parser_token.specs.declared.operator.AssignOp.{AssignOp}
use Rattle.swc_ecma_parser_token.specs.declared.operator.AssignOp.TheVariants as assign_op
use Rattle.swc_ecma_parser_token.specs.declared.kind.TokenKind.{TokenKind}
use Rattle.swc_ecma_parser_token.specs.declared.kind.TokenKind.TheVariants as kind
use Rattle.swc_ecma_parser_token.specs.declared.token.Word.{Word}
use Rattle.swc_ecma_parser_token.specs.declared.token.Word.TheVariants as word
use Rattle.swc_ecma_parser_token.specs.declared.token.Token.{Token}
use Rattle.swc_ecma_parser_token.specs.declared.token.Token.TheVariants as token
use Rattle.swc_ecma_parser_token.specs.declared.token.TokenAndSpan.{TokenAndSpan}
use Rattle.swc_ecma_parser_token.specs.Kind.{keyword_kind, bin_op_kind, assign_op_kind, word_kind, token_kind}
use Rattle.swc_ecma_parser_input.specs.Place.{Place, after}
use Rattle.swc_ecma_parser_model.specs.Tree.{Tree, trees}
use Rattle.swc_ecma_parser_grammar.specs.Looks.{first_kind, kind_at}
use Rattle.swc_ecma_parser_grammar.specs.Parameters.{parameters}
use Rattle.swc_ecma_parser_grammar.specs.language.Goals.{Goal, expr_goal, callee_goal, pattern_goal, element_goal, stmt_goal, member_goal, decorator_goal, using_goal, attributes_goal, item_goal}
use Rattle.swc_ecma_parser_grammar.specs.language.Lists as lists
use Rattle.swc_ecma_parser_grammar.specs.language.Lists.{ReadsEach, ReadsListed, ReadsSeparated, Elements}
use Rattle.swc_ecma_parser_grammar.specs.language.Parts.{ReadsToken}
use Rattle.swc_ecma_parser_grammar.specs.language.Laws.{Advances}
use Rattle.swc_ecma_parser_grammar.specs.language.Plain.{is_plain_token, plain_list, has_new_form, any_has_new_form}
use Rattle.swc_ecma_parser_grammar.proofs.Tests.{and_yes}
use Rattle.swc_ecma_parser_grammar.proofs.language.progress.Steps.{Onward, stays, goes, any_token}

-- a place behind which no token of the new forms stands
pub record Plain (c : Place) : Type 0 where
  pub is : plain_list c.left ≡ true

-- a tree that has none of them
abbrev pub Old : Tree → Type 0
Old x = has_new_form x ≡ false

abbrev pub AllOld : List Tree → Type 0
AllOld xs = any_has_new_form (trees xs) ≡ false

-- the tree that a goal reads
abbrev pub tree_of : Goal → Tree
tree_of (expr_goal class k x c d) = x
tree_of (callee_goal k x c d) = x
tree_of (pattern_goal p k x c d) = x
tree_of (element_goal p k x c d) = x
tree_of (stmt_goal k at x c d) = x
tree_of (member_goal k x c d) = x
tree_of (decorator_goal k x c d) = x
tree_of (using_goal k x c d) = x
tree_of (attributes_goal k x c d) = x
tree_of (item_goal k x c d) = x

-- ---- places

plain_behind : (ts us : List TokenAndSpan) (t : TokenAndSpan) → plain_list (ts ++ (t ∷ us)) ≡ true → plain_list us ≡ true
plain_behind [] us t h = (and_yes (is_plain_token t.token) _ h).1
plain_behind (s ∷ ts) us t h = plain_behind ts us t (and_yes (is_plain_token s.token) _ h).1

pub behind : {c d : Place} → Advances c d → Plain c → Plain d
behind {c} {d} a h = record { is = plain_behind a.others d.left a.final (ap plain_list (sym a.are_taken) ∙ h.is) }

pub on : {c d : Place} → Onward c d → Plain c → Plain d
on (stays e) h = record { is = ap (λ m. plain_list m.left) e ∙ h.is }
on (goes a) h = behind a h

pub next : {c : Place} → Plain c → Plain (after c)
next h = on any_token h

pub moved : {c d : Place} → d ≡ c → Plain c → Plain d
moved e h = on (stays e) h

-- ---- tokens

-- a token of a new form does not stand here
pub no_token : {X : Type 0} {t : Token} {s : Span} {c d : Place} → ReadsToken t s c d → is_plain_token t ≡ false → Plain c → X
no_token r e h = let i = ap plain_list (sym r.is) ∙ h.is in cc

abbrev pub is_plain_kind : TokenKind → Bool
is_plain_kind kind.QuestionDot = false
is_plain_kind kind.NewDot = false
is_plain_kind kind.HashIn = false
is_plain_kind _ = true

plain_keyword : (k : Keyword) → is_plain_kind (keyword_kind k) ≡ true
plain_keyword keyword.Await = refl
plain_keyword _ = refl

plain_binary : (o : BinOpToken) → is_plain_kind (bin_op_kind o) ≡ true
plain_binary bin.EqEq = refl
plain_binary _ = refl

plain_assignment : (o : AssignOp) → is_plain_kind (assign_op_kind o) ≡ true
plain_assignment assign_op.Assign = refl
plain_assignment _ = refl

plain_word : (w : Word) → is_plain_kind (word_kind w) ≡ true
plain_word (word.Keyword k) = plain_keyword k
plain_word word.Null = refl
plain_word _ = refl

plain_token : (t : Token) → is_plain_token t ≡ true → is_plain_kind (token_kind t) ≡ true
plain_token (token.Word w) h = plain_word w
plain_token (token.BinOp o) h = plain_binary o
plain_token (token.AssignOp o) h = plain_assignment o
plain_token token.QuestionDot h = cc
plain_token token.NewDot h = cc
plain_token token.HashIn h = cc
plain_token _ h = refl

pub plain_kind : (c : Place) → Plain c → is_plain_kind (kind_at c) ≡ true
unfolding kind_at
plain_kind c h = go c.left h.is
  where
    go : (ts : List TokenAndSpan) → plain_list ts ≡ true → is_plain_kind (first_kind ts) ≡ true
    go [] e = refl
    go (t ∷ ts) e = plain_token t.token (and_yes (is_plain_token t.token) _ e).0

-- a kind of a new form does not stand here
pub no_kind : {X : Type 0} {t : TokenKind} {c : Place} → kind_at c ≡ t → is_plain_kind t ≡ false → Plain c → X
no_kind {c = c} e f h = let i = plain_kind c h in cc

-- ---- lists

module _ (Reads : Tree → Place → Place → Type 0) (go : (x : Tree) (c d : Place) → Reads x c d → Advances c d) (old : (x : Tree) (c d : Place) → Reads x c d → Plain c → Old x) where
  pub each_old : (xs : List Tree) (c d : Place) → ReadsEach Reads xs c d → Plain c → AllOld xs
  each_old [] c d e h = refl
  each_old (x ∷ xs) c d (m, r, rs) h = rw (old x c m r h, each_old xs m d rs (behind (go x c m r) h)) refl

  pub listed_old : (commas : Bool) (xs : List Tree) (c d : Place) → ReadsListed commas Reads xs c d → Plain c → AllOld xs
  listed_old commas [] c d e h = refl
  listed_old commas (x ∷ []) c d (m, r, l) h = rw (old x c m r h) refl
  listed_old commas (x ∷ y ∷ ys) c d (m, r, a, e, rs) h =
      let i : AllOld (y ∷ ys) = listed_old commas (y ∷ ys) (after m) d rs (next (behind (go x c m r) h)) in rw (old x c m r h) i

  pub separated_old : (xs : List Tree) (c d : Place) → ReadsSeparated Reads xs c d → Plain c → AllOld xs
  separated_old [] c d r h = absurd r
  separated_old (x ∷ []) c d (r, a) h = rw (old x c d r h) refl
  separated_old (x ∷ y ∷ ys) c d (m, r, e, rs) h =
      let i : AllOld (y ∷ ys) = separated_old (y ∷ ys) (after m) d rs (next (behind (go x c m r) h)) in rw (old x c m r h) i

  pub elements_old : {xs : List Tree} {c d : Place} → Elements Reads xs c d → Plain c → AllOld xs
  elements_old (lists.no_elements a e) h = ap (λ l. any_has_new_form (trees l)) a
  elements_old (lists.hole ys e r a) h = ap (λ l. any_has_new_form (trees l)) a ∙ elements_old r (next h)
  elements_old {c = c} (lists.last_element y m r l a) h = ap (λ l. any_has_new_form (trees l)) a ∙ rw (old y c m r h) refl
  elements_old {c = c} (lists.more_elements y z zs m r a e rs b) h =
      let i : AllOld (z ∷ zs) = elements_old rs (next (behind (go y c m r) h)) in ap (λ l. any_has_new_form (trees l)) b ∙ rw (old y c m r h) i

-- parameters are their patterns
pub parameters_old : (ps : List Tree) → AllOld ps → Old (parameters ps)
parameters_old [] h = refl
parameters_old (p ∷ ps) h = let (i, j) = parted (has_new_form p) (any_has_new_form (trees ps)) h in rw i (parameters_old ps j)
  where
    parted : (a b : Bool) → (a || b) ≡ false → (a ≡ false) × (b ≡ false)
    parted true b e = cc
    parted false b e = (refl, e)
