-- Tokens in order: each place stands at or behind the one before, so decorators behind the words of an export do not begin before it.
use Rattle.std.proofs.Common.{◌≡◌, ℕ, ◌≤◌, Bool, true, false, true≢false, List, [], ◌∷◌, ◌++◌, refl, sym, ◌∙◌, ap, subst, arith}
use Rattle.std.proofs.lemmas.Bool.{leb-true, le-leb, ltb-true}
use Rattle.std.specs.Prelude.{◌&&◌, ◌||◌, nat_le, nat_lt}
use Rattle.swc_ecma_parser_common.specs.declared.span.Span.{Span}
use Rattle.swc_ecma_parser_token.specs.declared.token.TokenAndSpan.{TokenAndSpan}
use Rattle.swc_ecma_parser_input.specs.Place.{Place, after}
use Rattle.swc_ecma_parser_input.specs.TokenSource.{ordered_from}
use Rattle.swc_ecma_parser_model.specs.Forms.{span_of}
use Rattle.swc_ecma_parser_model.specs.Tree as tree
use Rattle.swc_ecma_parser_model.specs.Tree.{Tree, Trees, none, also, trees}
use Rattle.swc_ecma_parser_grammar.specs.Looks.{span_at, spanned}
use Rattle.swc_ecma_parser_grammar.specs.Names.{Code}
use Rattle.swc_ecma_parser_grammar.specs.scaffold.Supported.{all_supported}
use Rattle.swc_ecma_parser_grammar.specs.language.Classes.{DecoratorRule, decorator_rule, DecoratorsRule, no_decorators, some_decorators}
use Rattle.swc_ecma_parser_grammar.specs.language.Exports as exports
use Rattle.swc_ecma_parser_grammar.specs.language.Exports.{all_before, ExportedRule, DefaultRule}
use Rattle.swc_ecma_parser_grammar.specs.language.Goals.{Goal}
use Rattle.swc_ecma_parser_grammar.specs.language.Laws.{Advances}
use Rattle.swc_ecma_parser_grammar.proofs.Tests.{and_yes, and_both}
use Rattle.swc_ecma_parser_module_reader.specs.Decorated.{none_before}
use Rattle.swc_ecma_parser_module_reader.specs.Supported.{supported_beside, are_before, is_led_by, is_led, OrderedFor}

-- ---- lists of tokens

abbrev pub InOrder : List TokenAndSpan → Type 0
InOrder ts = ordered_from 0 ts ≡ true

from_zero : (a : ℕ) (ts : List TokenAndSpan) → ordered_from a ts ≡ true → InOrder ts
from_zero a [] h = refl
from_zero a (t ∷ ts) h = and_both (nat_le 0 t.span.lo.0) _ (le-leb 0 t.span.lo.0 (omega arith)) (and_yes (nat_le a t.span.lo.0) _ h).1

-- where the first begins and ends, and what follows it
parts : (a : ℕ) (t : TokenAndSpan) (ts : List TokenAndSpan) → ordered_from a (t ∷ ts) ≡ true → (a ≤ t.span.lo.0) × (t.span.lo.0 ≤ t.span.hi.0) × (ordered_from t.span.hi.0 ts ≡ true)
parts a t ts h =
    let b = and_yes (nat_le a t.span.lo.0) _ h in
    let c = and_yes (nat_le t.span.lo.0 t.span.hi.0) _ b.1 in
    (leb-true a t.span.lo.0 b.0, leb-true t.span.lo.0 t.span.hi.0 c.0, c.1)

ordered_rest : (t : TokenAndSpan) (ts : List TokenAndSpan) → InOrder (t ∷ ts) → InOrder ts
ordered_rest t ts h = from_zero t.span.hi.0 ts (parts 0 t ts h).2

ordered_last : (us ts : List TokenAndSpan) → InOrder (us ++ ts) → InOrder ts
ordered_last [] ts h = h
ordered_last (u ∷ us) ts h = ordered_last us ts (ordered_rest u (us ++ ts) h)

pub advanced : (c d : Place) → Advances c d → InOrder c.left → InOrder d.left
advanced c d p h = ordered_rest p.final d.left (ordered_last p.others (p.final ∷ d.left) (subst InOrder p.are_taken h))

-- ---- places

-- from one place to the next
on_list : (last : Span) (ts : List TokenAndSpan) → InOrder ts → let c : Place = record { last = last; left = ts } in (span_at c).lo.0 ≤ (span_at (after c)).lo.0
unfolding span_at after
on_list last [] h = omega arith
on_list last (t ∷ []) h = omega arith
on_list last (t ∷ (u ∷ us)) h =
    let p = parts 0 t (u ∷ us) h in
    let q = parts t.span.hi.0 u us p.2 in
    let a = p.1 in let b = q.0 in omega arith

pub steps_on : (c : Place) → InOrder c.left → (span_at c).lo.0 ≤ (span_at (after c)).lo.0
steps_on c h = on_list c.last c.left h

rest_list : (last : Span) (ts : List TokenAndSpan) → InOrder ts → InOrder (after (record { last = last; left = ts })).left
unfolding after
rest_list last [] h = h
rest_list last (t ∷ ts) h = ordered_rest t ts h

pub ordered_after : (c : Place) → InOrder c.left → InOrder (after c).left
ordered_after c h = rest_list c.last c.left h

pub not_below : (a b : ℕ) → b ≤ a → nat_lt a b ≡ false
not_below a b h = by_test (nat_lt a b) refl
  where
    by_test : (w : Bool) → nat_lt a b ≡ w → w ≡ false
    by_test true e = let l = ltb-true a b e in absurd (omega arith)
    by_test false e = refl

-- ---- decorators behind the words

-- supported, and none of them begins before the export
abbrev pub supported_behind : Span → Tree → Bool
supported_behind s (tree.list ds) = all_supported ds && none_before s.lo ds
supported_behind s _ = false

one_side : (a b : Bool) → (a || b) ≡ true → b ≡ false → a ≡ true
one_side true b h e = refl
one_side false b h e = absurd (true≢false (sym h ∙ e))

not_before : (s : Span) (ds : Tree) → supported_beside s ds ≡ true → are_before s ds ≡ false → supported_behind s ds ≡ true
not_before s (tree.list none) h e = h
not_before s (tree.list (also x xs)) h e =
    let g = and_yes (all_supported (also x xs)) _ h in
    and_both (all_supported (also x xs)) _ g.0 (one_side (none_before s.lo (also x xs)) (all_before s (also x xs)) g.1 e)
not_before s _ h e = absurd (true≢false (sym h))

-- where the first of them begins no earlier
module _ (In : Goal → Type 0) where
  first_behind : (k : Code) (s : Span) (y : Tree) (xs : Trees) (p i : Place) → DecoratorRule In k y p i → nat_lt (span_at p).lo.0 s.lo.0 ≡ false → all_before s (also y xs) ≡ false
  unfolding spanned
  first_behind k s y xs p i (decorator_rule e a r is) h = ap (λ z. nat_lt (span_of z).lo.0 s.lo.0 && all_before s xs) is ∙ ap (λ b. b && all_before s xs) h

  none_first : (k : Code) (s : Span) (ds : Tree) (p i : Place) → DecoratorsRule In k ds p i → nat_lt (span_at p).lo.0 s.lo.0 ≡ false → are_before s ds ≡ false
  none_first k s ds p i (no_decorators e g) h = ap (are_before s) g
  none_first k s ds p i (some_decorators y ys a (j, r, rs) g) h = ap (are_before s) g ∙ first_behind k s y (trees ys) p j r h

  -- so they are behind it where the tree has any before its export only in tokens in order
  pub behind_only : (k : Code) (s : Span) (ds : Tree) (c p i : Place) (b : Bool) → DecoratorsRule In k ds p i → supported_beside s ds ≡ true → b ≡ are_before s ds → OrderedFor b c
      → (InOrder c.left → s.lo.0 ≤ (span_at p).lo.0) → supported_behind s ds ≡ true
  behind_only k s ds c p i true r h e o g = absurd (true≢false (e ∙ none_first k s ds p i r (not_below (span_at p).lo.0 s.lo.0 (g (o refl)))))
  behind_only k s ds c p i false r h e o g = not_before s ds h (sym e)

-- ---- the tree tells whether an export has decorators before it

pub led_exported : {In : Goal → Type 0} (k : Code) (ds x y : Tree) (s : Span) (c d : Place) → ExportedRule In k ds y c d → x ≡ tree.export_decl s y → is_led x ≡ are_before s ds
led_exported k ds x y s c d (exports.exported_class name z r a e) i = ap is_led (i ∙ ap (tree.export_decl s) e) ∙ ap (is_led_by s) r.is
led_exported k ds x y s c d (exports.exported_function name z r a e) i = ap is_led (i ∙ ap (tree.export_decl s) e) ∙ ap (is_led_by s) r.is
led_exported k ds x y s c d (exports.exported_variables v xs m e r g i) j = ap is_led (j ∙ ap (tree.export_decl s) i) ∙ sym (ap (are_before s) e)

pub led_default : {In : Goal → Type 0} (k : Code) (ds x y : Tree) (s : Span) (c d : Place) → DefaultRule In k ds y c d → x ≡ tree.export_default_decl s y → is_led x ≡ are_before s ds
led_default k ds x y s c d (exports.default_class name z r e) i = ap is_led (i ∙ ap (tree.export_default_decl s) e) ∙ ap (is_led_by s) r.is
led_default k ds x y s c d (exports.default_function name z r e) i = ap is_led (i ∙ ap (tree.export_default_decl s) e) ∙ ap (is_led_by s) r.is
