-- The decorators of what is exported stand before the words of the export or behind them, and a class or a function with such
-- decorators is supported.
use Rattle.std.proofs.Common.{◌≡◌, ℕ, ◌≤◌, Bool, true, false, not, List, [], ◌∷◌, refl, sym, ◌∙◌, ap, subst, le_trans, le-ltb}
use Rattle.std.specs.Prelude.{◌&&◌, ◌||◌, nat_lt}
use Rattle.swc_ecma_parser_common.specs.declared.span.Span.{Span}
use Rattle.swc_ecma_parser_token.specs.declared.kind.TokenKind.TheVariants as kind
use Rattle.swc_ecma_parser_input.specs.Place.{Place, after}
use Rattle.swc_ecma_parser_input.specs.TokenSource.{ordered_from}
use Rattle.swc_ecma_parser_model.specs.Tree as tree
use Rattle.swc_ecma_parser_model.specs.Tree.{Tree, Trees, none, also, trees, listed}
use Rattle.swc_ecma_parser_model.specs.Forms.{span_of}
use Rattle.swc_ecma_parser_grammar.specs.Looks.{span_at, spanned}
use Rattle.swc_ecma_parser_grammar.specs.Names.{Code}
use Rattle.swc_ecma_parser_grammar.specs.Parameters.{parameters}
use Rattle.swc_ecma_parser_grammar.specs.language.Goals.{Goal}
use Rattle.swc_ecma_parser_grammar.specs.language.Lists.{ReadsEach}
use Rattle.swc_ecma_parser_grammar.specs.language.Classes as classes
use Rattle.swc_ecma_parser_grammar.specs.language.Classes.{DecoratorRule, DecoratorsRule}
use Rattle.swc_ecma_parser_grammar.specs.language.Exports as exports
use Rattle.swc_ecma_parser_grammar.specs.language.Exports.{all_before, begin_before, ExportWords, ExportFrontRule}
use Rattle.swc_ecma_parser_grammar.specs.language.Laws.{Advances, begin, end}
use Rattle.swc_ecma_parser_grammar.proofs.Tests.{and_both}
use Rattle.swc_ecma_parser_grammar.proofs.language.progress.Steps.{any_token_to}
use Rattle.swc_ecma_parser_grammar.proofs.language.progress.Expressions as progress
use Rattle.swc_ecma_parser_grammar.specs.scaffold.Supported.{all_supported}
use Rattle.swc_ecma_parser_module_reader.specs.Supported.{on_one_side, supported_beside, supported_decorated}
use Rattle.swc_ecma_parser_module_reader.specs.Decorated.{none_before}
use Rattle.swc_ecma_parser_exactness.specs.Supports.{WholeGoal, Ordered, is_astride}
use Rattle.swc_ecma_parser_exactness.proofs.Wholes.{both, EachWhole, all_whole, list_whole, each_whole, parameters_whole}
use Rattle.swc_ecma_parser_exactness.proofs.Parts.{WholeParts, WholeClass, decorator_whole, decorators_list}
use Rattle.swc_ecma_parser_exactness.proofs.Ordered.{OrderedPast, advanced, onward, begins_later, behind_word}

-- ---- where decorators stand

-- All of them begin before the words of an export, or none does.
pub data Placed (s : Span) (ds : List Tree) : Type 0 where
  placed_before : all_before s (trees ds) ≡ true → Placed s ds
  placed_behind : none_before s.lo (trees ds) ≡ true → Placed s ds

either_side : (s : Span) (ds : List Tree) → on_one_side s (trees ds) ≡ true → Placed s ds
either_side s ds e = by_case (none_before s.lo (trees ds)) refl
  where
    by_case : (b : Bool) → none_before s.lo (trees ds) ≡ b → Placed s ds
    by_case true h = placed_behind h
    by_case false h = placed_before (ap (λ b. b || all_before s (trees ds)) (sym h) ∙ e)

before_as : (s t : Span) (xs : Trees) → s.lo.0 ≡ t.lo.0 → all_before s xs ≡ all_before t xs
before_as s t none e = refl
before_as s t (also x xs) e = ap (λ n. nat_lt (span_of x).lo.0 n && all_before s xs) e ∙ ap (λ b. nat_lt (span_of x).lo.0 t.lo.0 && b) (before_as s t xs e)

-- where an export begins that a span goes from
begins_there : (m d : Place) → (span_at m).lo ≡ (spanned m d).lo
unfolding spanned
begins_there m d = refl

not_less : (a b : ℕ) → b ≤ a → not (nat_lt a b) ≡ true
not_less a b h = ap not (le-ltb a b h)

-- decorators in ordered tokens
module _ (In : Goal → Type 0) (go : (g : Goal) → In g → Advances (begin g) (end g)) where
  decorator_later : {k : Code} {x : Tree} {c d : Place} (s from : ℕ) → s ≤ from → Ordered from c → DecoratorRule In k x c d → not (nat_lt (span_of x).lo.0 s) ≡ true
  decorator_later {x = x} {c = c} {d = d} s from l o (classes.decorator_rule e h r i) =
      let a : (span_of x).lo.0 ≡ (span_at c).lo.0 = ap (λ t. (span_of t).lo.0) i ∙ sym (ap (λ t. t.0) (begins_there c d)) in
      ap (λ n. not (nat_lt n s)) a ∙ not_less (span_at c).lo.0 s (le_trans l (begins_later from c kind.At h refl o))

  each_later : (k : Code) (xs : List Tree) (c d : Place) (s : Span) (from : ℕ) → s.lo.0 ≤ from → Ordered from c → ReadsEach (DecoratorRule In k) xs c d → none_before s.lo (trees xs) ≡ true
  each_later k [] c d s from l o r = refl
  each_later k (x ∷ xs) c d s from l o (m, r, rs) =
      let p = advanced from c m o (progress.decorator In go r) in
      and_both _ _ (decorator_later s.lo.0 from l o r) (each_later k xs m d s p.from (le_trans l p.later) p.ordered rs)

  -- the words that one begins with
  words_behind : {is_default : Bool} {m n : Place} (from : ℕ) → Ordered from m → ExportWords is_default m n → OrderedPast (span_at m).lo.0 n.left
  words_behind {m = m} {n = n} from o (exports.export_word a h e) =
      let p = behind_word from m kind.Export h refl o in
      record { from = p.from; later = p.later; ordered = ap (λ c. ordered_from p.from c.left) e ∙ p.ordered }
  words_behind {m = m} {n = n} from o (exports.export_default_words a h i e) =
      let p = behind_word from m kind.Export h refl o in
      let q = onward p.from (after m) n p.ordered (any_token_to e) in
      record { from = q.from; later = le_trans p.later q.later; ordered = q.ordered }

-- decorators one behind another, before or behind the words
pub record WholeFront (s : Span) (x : Tree) : Type 0 where
  pub items : List Tree
  pub each : EachWhole items
  pub placed : Placed s items
  pub is : x ≡ listed items

module _ (In : Goal → Type 0) (small : (g : Goal) → In g → WholeGoal g) (go : (g : Goal) → In g → Advances (begin g) (end g)) where
  -- on one side, or in order where they stand
  placed_by : (k : Code) (s : Span) (xs : List Tree) (c d : Place) → ReadsEach (DecoratorRule In k) xs c d → (b : Bool) → on_one_side s (trees xs) ≡ b
      → (not b ≡ true → OrderedPast s.lo.0 c.left) → Placed s xs
  placed_by k s xs c d rs true e o = either_side s xs e
  placed_by k s xs c d rs false e o = let p = o refl in placed_behind (each_later In go k xs c d s p.from p.later p.ordered rs)

  front_behind : {k : Code} {x : Tree} {c d : Place} (s : Span) → (is_astride s x ≡ true → OrderedPast s.lo.0 c.left) → DecoratorsRule In k x c d → WholeFront s x
  front_behind s o (classes.no_decorators h e) = record { items = []; each = tt; placed = placed_behind refl; is = e }
  front_behind {k = k} {c = c} {d = d} s o (classes.some_decorators y ys h rs e) = record {
    items = y ∷ ys;
    each = each_whole (DecoratorRule In k) (decorator_whole In small k) (y ∷ ys) c d rs;
    placed = placed_by k s (y ∷ ys) c d rs (on_one_side s (trees (y ∷ ys))) refl (λ p. o (ap (is_astride s) e ∙ p));
    is = e;
  }

  -- of an export whose span begins at its words and ends somewhere
  pub front_whole : {k : Code} {is_default : Bool} {x : Tree} {c m n : Place} (d : Place) (from : ℕ) → (is_astride (spanned m d) x ≡ true → Ordered from c) → ExportFrontRule In k is_default x c m n
      → WholeFront (spanned m d) x
  front_whole {m = m} d from o (exports.decorated_before a r b q) =
      let l = decorators_list In small r in
      record {
        items = l.items;
        each = l.each;
        placed = placed_before (before_as (spanned m d) (span_at m) (trees l.items) (ap (λ p. p.0) (sym (begins_there m d))) ∙ sym (ap (begin_before (span_at m)) l.is) ∙ b);
        is = l.is;
      }
  front_whole {c = c} {m = m} d from o (exports.decorated_behind n e q r) =
      front_behind (spanned m d) (λ h.
      let p = words_behind In go from (ap (λ z. ordered_from from z.left) e ∙ o h) q in
      record { from = p.from; later = subst (λ z. z.0 ≤ p.from) (begins_there m d) p.later; ordered = p.ordered }) r

-- ---- what has them

pub first_of_two : (a b : Bool) → a ≡ true → (a || b) ≡ true
first_of_two a b e = ap (λ z. z || b) e

pub second_of_two : (a b : Bool) → b ≡ true → (a || b) ≡ true
second_of_two true b e = refl
second_of_two false b e = e

beside_of : (s : Span) (ds : List Tree) → Placed s ds → all_supported (trees ds) ≡ true → supported_beside s (listed ds) ≡ true
beside_of s ds (placed_behind h) e = and_both (all_supported (trees ds)) _ e (first_of_two (none_before s.lo (trees ds)) (all_before s (trees ds)) h)
beside_of s ds (placed_before h) e = and_both (all_supported (trees ds)) _ e (second_of_two (none_before s.lo (trees ds)) (all_before s (trees ds)) h)

pub class_decorated : (s t : Span) (ds members : List Tree) (heritage : Tree) → EachWhole ds → Placed s ds → WholeClass members heritage
    → supported_decorated s (tree.class t (listed ds) (listed members) heritage) ≡ true
class_decorated s t ds members heritage w p c =
    and_both _ _ (beside_of s ds p (all_whole ds w)) (both heritage (listed members) c.base (list_whole members c.each))

pub function_decorated : (s t : Span) (ds ps : List Tree) (body : Tree) (a g : Bool) → EachWhole ds → Placed s ds → WholeParts ps body
    → supported_decorated s (tree.function t (listed ds) (parameters ps) body a g) ≡ true
function_decorated s t ds ps body a g w p f =
    and_both _ _ (beside_of s ds p (all_whole ds w)) (both (parameters ps) body (parameters_whole ps f.each) f.inside)
