-- What is declared with `using` without a fault is a plain name with an initializer, and a plain name is read in any code alike.
use Rattle.std.proofs.Common.{◌≡◌, ℕ, zero, suc, Bool, true, false, List, [], ◌∷◌, ◌++◌, refl, true≢false, sym, ◌∙◌, ap, codes}
use Rattle.std.proofs.lemmas.Slice.Eq.{bytes_eq-Decides}
use Rattle.std.specs.Prelude.{not}
use Rattle.swc_ecma_parser_common.specs.declared.span.Span.{Span}
use Rattle.swc_ecma_parser_error.specs.Kind.{Kind, Fault}
use Rattle.swc_ecma_parser_error.specs.Kind as kind
use Rattle.swc_ecma_parser_token.specs.declared.kind.TokenKind.TheVariants as token
use Rattle.swc_ecma_parser_token.specs.declared.token.Token.{Token}
use Rattle.swc_ecma_parser_token.specs.declared.token.Token.TheVariants as tokens
use Rattle.swc_ecma_parser_token.specs.declared.token.Word.TheVariants as word
use Rattle.swc_ecma_parser_token.specs.declared.token.TokenAndSpan.{TokenAndSpan}
use Rattle.swc_ecma_parser_input.specs.Place.{Place, after}
use Rattle.swc_ecma_parser_model.specs.Tree as tree
use Rattle.swc_ecma_parser_model.specs.Tree.{Tree}
use Rattle.swc_ecma_parser_model.specs.Forms.{is_absent, is_binding_name}
use Rattle.swc_ecma_parser_model.specs.Within.{declared_name, is_initialized}
use Rattle.swc_ecma_parser_grammar.specs.Looks.{kind_at, same_kind}
use Rattle.swc_ecma_parser_grammar.specs.Names.{Code, is_clean_name, is_identifier, is_reserved, identifier_at}
use Rattle.swc_ecma_parser_grammar.specs.Follows.{word_at, token_is, first_is}
use Rattle.swc_ecma_parser_grammar.specs.Own.{only}
use Rattle.swc_ecma_parser_grammar.specs.scaffold.Using.{may_declare_using, misused, each_misused, using_faults}
use Rattle.swc_ecma_parser_grammar.specs.language.Goals.{binding, assigning, pattern_goal}
use Rattle.swc_ecma_parser_grammar.specs.language.Begins.{awaits}
use Rattle.swc_ecma_parser_grammar.specs.language.Contexts.{without_in, with_in}
use Rattle.swc_ecma_parser_grammar.specs.language.Parts.{ReadsName}
use Rattle.swc_ecma_parser_grammar.specs.language.Patterns.{binding_name_rule, target_name_rule, target_rule, array_rule, object_rule}
use Rattle.swc_ecma_parser_grammar.specs.language.Reads.{Reads}
use Rattle.swc_ecma_parser_grammar.proofs.ExpressionBegins.{name_is_identifier}
use Rattle.swc_ecma_parser_grammar.proofs.Tests.{and_yes, and_both, and_no, or_none}
use Rattle.swc_ecma_parser_grammar.proofs.SupportedIn.{parted}

-- a fault that is none
none_only : (b : Bool) (k : Kind) (s : Span) → only (not b) k s ≡ [] → b ≡ true
none_only true k s e = refl
none_only false k s e = cc

only_none : (b : Bool) (k : Kind) (s : Span) → b ≡ true → only (not b) k s ≡ []
only_none true k s e = refl
only_none false k s e = cc

both_none : (fs gs : List Fault) → fs ≡ [] → gs ≡ [] → fs ++ gs ≡ []
both_none fs gs e f = rw (e, f) refl

used : (s : Span) (x : Tree) → misused s x ≡ [] → (is_binding_name (declared_name x) ≡ true) × (is_initialized x ≡ true)
used s x f =
    let g = parted (only (not (is_binding_name (declared_name x))) kind.InvalidNameInUsingDecl s) (only (not (is_initialized x)) kind.InitRequiredForUsingDecl s) f in
    (none_only (is_binding_name (declared_name x)) kind.InvalidNameInUsingDecl s g.0, none_only (is_initialized x) kind.InitRequiredForUsingDecl s g.1)

-- a variable that has no fault
pub declared : {t : Span} (s : Span) (x name init : Tree) → x ≡ tree.declarator t name init → misused s x ≡ [] → (is_binding_name name ≡ true) × (not (is_absent init) ≡ true)
declared {t = t} s x name init e f = let g = used s x f in (ap (λ y. is_binding_name (declared_name y)) (sym e) ∙ g.0, ap is_initialized (sym e) ∙ g.1)

pub undeclared : {t : Span} (s : Span) (x name init : Tree) → x ≡ tree.declarator t name init → is_binding_name name ≡ true → is_absent init ≡ false → misused s x ≡ []
undeclared {t = t} s x name init e f g =
    both_none _ _ (only_none (is_binding_name (declared_name x)) kind.InvalidNameInUsingDecl s (ap (λ y. is_binding_name (declared_name y)) e ∙ f))
    (only_none (is_initialized x) kind.InitRequiredForUsingDecl s (ap is_initialized e ∙ ap not g))

-- the setting says so
pub set_so : (b : Bool) (s : Span) (xs : List Tree) → using_faults b s xs ≡ [] → (b ≡ true) × (each_misused s xs ≡ [])
set_so b s xs f = let g = parted (only (not b) kind.UsingDeclNotEnabled s) (each_misused s xs) f in (none_only b kind.UsingDeclNotEnabled s g.0, g.1)

pub so_set : (b : Bool) (s : Span) (xs : List Tree) → b ≡ true → each_misused s xs ≡ [] → using_faults b s xs ≡ []
so_set b s xs e f = both_none _ _ (only_none b kind.UsingDeclNotEnabled s e) f

-- ---- a plain name

-- it is read whether `in` is an operator around or not
name_without : {k : Code} {text : tree.Text} {s : Span} {c d : Place} → ReadsName (with_in k) text s c d → ReadsName k text s c d
unfolding is_clean_name is_identifier is_reserved
name_without r = record { word = r.word; reads_word = r.reads_word; is_text = r.is_text; is_name = r.is_name }

name_within : {k : Code} {text : tree.Text} {s : Span} {c d : Place} → ReadsName k text s c d → ReadsName (with_in k) text s c d
unfolding is_clean_name is_identifier is_reserved
name_within r = record { word = r.word; reads_word = r.reads_word; is_text = r.is_text; is_name = r.is_name }

pub unbound : (n : ℕ) (k : Code) (p : Tree) (c d : Place) → is_binding_name p ≡ true → Reads n (pattern_goal binding (with_in k) p c d) → Reads n (pattern_goal binding k p c d)
unbound zero k p c d h r = absurd r
unbound (suc n) k p c d h (binding_name_rule text s i r e) = binding_name_rule text s i (name_without r) e
unbound (suc n) k p c d h (target_name_rule text s i a r e) = cc
unbound (suc n) k p c d h (target_rule y i r t u e) = cc
unbound (suc n) k p c d h (array_rule es m i r j g e) = cc
unbound (suc n) k p c d h (object_rule ps m i r j g e) = cc

pub bound : (n : ℕ) (k : Code) (p : Tree) (c d : Place) → is_binding_name p ≡ true → Reads n (pattern_goal binding k p c d) → Reads n (pattern_goal binding (with_in k) p c d)
bound zero k p c d h r = absurd r
bound (suc n) k p c d h (binding_name_rule text s i r e) = binding_name_rule text s i (name_within r) e
bound (suc n) k p c d h (target_name_rule text s i a r e) = cc
bound (suc n) k p c d h (target_rule y i r t u e) = cc
bound (suc n) k p c d h (array_rule es m i r j g e) = cc
bound (suc n) k p c d h (object_rule ps m i r j g e) = cc

pub bound_stands : (n : ℕ) (k : Code) (p : Tree) (c d : Place) → is_binding_name p ≡ true → Reads n (pattern_goal binding k p c d) → identifier_at k.flags c ≡ true
bound_stands zero k p c d h r = absurd r
bound_stands (suc n) k p c d h (binding_name_rule text s i r e) = name_is_identifier k text s c d r
bound_stands (suc n) k p c d h (target_name_rule text s i a r e) = cc
bound_stands (suc n) k p c d h (target_rule y i r t u e) = cc
bound_stands (suc n) k p c d h (array_rule es m i r j g e) = cc
bound_stands (suc n) k p c d h (object_rule ps m i r j g e) = cc

-- what it binds may be assigned to, but for `await`
pub bound_target : (n : ℕ) (k : Code) (p : Tree) (c d : Place) → kind_at c ≡ token.Ident → is_binding_name p ≡ true → Reads n (pattern_goal binding k p c d)
    → Reads n (pattern_goal assigning (without_in k) p c d)
unfolding awaits same_kind is_clean_name is_identifier is_reserved
bound_target zero k p c d g h r = absurd r
bound_target (suc n) k p c d g h (binding_name_rule text s i r e) = target_name_rule text s refl (rw g refl) (record { word = r.word; reads_word = r.reads_word; is_text = r.is_text; is_name = r.is_name }) e
bound_target (suc n) k p c d g h (target_name_rule text s i a r e) = cc
bound_target (suc n) k p c d g h (target_rule y i r t u e) = cc
bound_target (suc n) k p c d g h (array_rule es m i r j f e) = cc
bound_target (suc n) k p c d g h (object_rule ps m i r j f e) = cc

pub target_bound : (n : ℕ) (k : Code) (p : Tree) (c d : Place) → is_binding_name p ≡ true → Reads n (pattern_goal assigning (without_in k) p c d) → Reads n (pattern_goal binding k p c d)
unfolding is_clean_name is_identifier is_reserved
target_bound zero k p c d h r = absurd r
target_bound (suc n) k p c d h (binding_name_rule text s i r e) = cc
target_bound (suc n) k p c d h (target_name_rule text s i a r e) = binding_name_rule text s refl (record { word = r.word; reads_word = r.reads_word; is_text = r.is_text; is_name = r.is_name }) e
target_bound (suc n) k p c d h (target_rule y i r t u e) = absurd (true≢false (sym h ∙ ap is_binding_name e))
target_bound (suc n) k p c d h (array_rule es m i r j f e) = absurd (true≢false (sym h ∙ ap is_binding_name e))
target_bound (suc n) k p c d h (object_rule ps m i r j f e) = absurd (true≢false (sym h ∙ ap is_binding_name e))

-- `using` is a name by itself, wherever another pattern is read
pub using_word : (k : Code) (c : Place) → word_at (codes "using") c ≡ true → (s : Span) × ReadsName k (codes "using") s c (after c)
unfolding word_at is_clean_name is_identifier is_reserved
using_word k c h = by_first c.left refl h
  where
    by_first : (ts : List TokenAndSpan) → c.left ≡ ts → first_is (codes "using") ts ≡ true → (s : Span) × ReadsName k (codes "using") s c (after c)
    by_first [] e g = cc
    by_first (t ∷ ts) e g = by_token t.token refl g
      where
        by_token : (u : Token) → t.token ≡ u → token_is (codes "using") u ≡ true → (s : Span) × ReadsName k (codes "using") s c (after c)
        by_token (tokens.Word (word.Ident text)) i j = (
          t.span,
          record {
            word = word.Ident text;
            reads_word = record { had_line_break = t.had_line_break; rest = ts; is = e ∙ rw (← i) refl; next = refl };
            is_text = sym ((bytes_eq-Decides text (codes "using")).0 j);
            is_name = and_both _ _ (ap not (or_none _ _ (and_no k.flags.strict _ refl) (and_no k.flags.in_generator _ refl))) refl;
          },
        )
        by_token _ i j = cc

pub using_read : (n : ℕ) (k : Code) (c : Place) → word_at (codes "using") c ≡ true → (i j : Place) (p : Tree) → Reads n (pattern_goal binding k p i j)
    → (s : Span) × Reads n (pattern_goal binding k (tree.ident_pat s (codes "using")) c (after c))
using_read zero k c h i j p r = absurd r
using_read (suc n) k c h i j p r = let (s, g) = using_word k c h in (s, binding_name_rule (codes "using") s refl g refl)

-- ---- in the head of a loop

no_not : (b : Bool) → not b ≡ true → b ≡ false
no_not true h = cc
no_not false h = refl

pub declares_in_head : (k : Code) (c : Place) → may_declare_using k c ≡ true
    → (k.setting.explicit_resource_management ≡ true) × (word_at (codes "using") c ≡ true) × (identifier_at k.flags (after c) ≡ true) × (word_at (codes "of") (after c) ≡ false)
unfolding may_declare_using
declares_in_head k c h =
    let a = and_yes k.setting.explicit_resource_management _ h in
    let b = and_yes (word_at (codes "using") c) _ a.1 in
    let e = and_yes (identifier_at k.flags (after c)) _ b.1 in
    (a.0, b.0, e.0, no_not (word_at (codes "of") (after c)) e.1)

pub in_head_declares : (k : Code) (c : Place) → k.setting.explicit_resource_management ≡ true → word_at (codes "using") c ≡ true → identifier_at k.flags (after c) ≡ true
    → word_at (codes "of") (after c) ≡ false → may_declare_using k c ≡ true
unfolding may_declare_using
in_head_declares k c e f g h = rw (e, f, g, h) refl
