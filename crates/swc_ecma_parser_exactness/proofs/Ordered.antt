-- Places in an ordered list of tokens: what stands behind a place begins at or after it.
use Rattle.std.proofs.Common.{◌≡◌, ℕ, ◌≤◌, true, List, [], ◌∷◌, ◌++◌, refl, sym, ◌∙◌, ap, le_refl, le_trans, leb-true, le-leb, zero-le}
use Rattle.std.specs.Prelude.{nat_le}
use Rattle.swc_ecma_parser_common.specs.declared.span.Span.{Span}
use Rattle.swc_ecma_parser_token.specs.declared.kind.TokenKind.{TokenKind}
use Rattle.swc_ecma_parser_token.specs.declared.kind.TokenKind.TheVariants as kind
use Rattle.swc_ecma_parser_token.specs.declared.token.TokenAndSpan.{TokenAndSpan}
use Rattle.swc_ecma_parser_input.specs.Place.{Place, past, after}
use Rattle.swc_ecma_parser_input.specs.TokenSource.{ordered_from}
use Rattle.swc_ecma_parser_grammar.specs.Looks.{first_kind, kind_at, first_span, span_at}
use Rattle.swc_ecma_parser_grammar.specs.language.Laws.{Advances}
use Rattle.swc_ecma_parser_grammar.proofs.Tests.{and_yes, and_both}
use Rattle.swc_ecma_parser_grammar.proofs.language.progress.Steps.{Onward, stays, goes, is_some}
use Rattle.swc_ecma_parser_exactness.specs.Supports.{Ordered}

-- tokens in order from a position on, and from no earlier one
pub record OrderedPast (at : ℕ) (ts : List TokenAndSpan) : Type 0 where
  pub from : ℕ
  pub later : at ≤ from
  pub ordered : ordered_from from ts ≡ true

-- those behind the first, and those behind some
behind_one : (at : ℕ) (t : TokenAndSpan) (ts : List TokenAndSpan) → ordered_from at (t ∷ ts) ≡ true → OrderedPast t.span.lo.0 ts
behind_one at t ts h =
    let g = and_yes (nat_le at t.span.lo.0) _ h in
    let i = and_yes (nat_le t.span.lo.0 t.span.hi.0) (ordered_from t.span.hi.0 ts) g.1 in
    record { from = t.span.hi.0; later = leb-true t.span.lo.0 t.span.hi.0 i.0; ordered = i.1 }

first_later : (at : ℕ) (t : TokenAndSpan) (ts : List TokenAndSpan) → ordered_from at (t ∷ ts) ≡ true → at ≤ t.span.lo.0
first_later at t ts h = leb-true at t.span.lo.0 (and_yes (nat_le at t.span.lo.0) _ h).0

past_one : (at : ℕ) (t : TokenAndSpan) (ts : List TokenAndSpan) → ordered_from at (t ∷ ts) ≡ true → OrderedPast at ts
past_one at t ts h = let o = behind_one at t ts h in record { from = o.from; later = le_trans (first_later at t ts h) o.later; ordered = o.ordered }

past_some : (at : ℕ) (ts us : List TokenAndSpan) → ordered_from at (ts ++ us) ≡ true → OrderedPast at us
past_some at [] us h = record { from = at; later = le_refl at; ordered = h }
past_some at (t ∷ ts) us h =
    let o = past_one at t (ts ++ us) h in
    let p = past_some o.from ts us o.ordered in
    record { from = p.from; later = le_trans o.later p.later; ordered = p.ordered }

-- the place behind some tokens
pub advanced : (at : ℕ) (c d : Place) → Ordered at c → Advances c d → OrderedPast at d.left
advanced at c d h p =
    let o = past_some at p.others (p.final ∷ d.left) (sym (ap (ordered_from at) p.are_taken) ∙ h) in
    let q = past_one o.from p.final d.left o.ordered in
    record { from = q.from; later = le_trans o.later q.later; ordered = q.ordered }

pub onward : (at : ℕ) (c d : Place) → Ordered at c → Onward c d → OrderedPast at d.left
onward at c d h (stays e) = record { from = at; later = le_refl at; ordered = ap (λ p. ordered_from at p.left) e ∙ h }
onward at c d h (goes p) = advanced at c d h p

-- what stands first begins there or later
begun : (at : ℕ) (last : Span) (ts : List TokenAndSpan) (k : TokenKind) → first_kind ts ≡ k → is_some k ≡ true → ordered_from at ts ≡ true → at ≤ (first_span last ts).lo.0
begun at last [] k e i h = absurd (let g : is_some kind.End ≡ true = ap is_some e ∙ i in cc)
begun at last (t ∷ ts) k e i h = first_later at t ts h

pub begins_later : (at : ℕ) (c : Place) (k : TokenKind) → kind_at c ≡ k → is_some k ≡ true → Ordered at c → at ≤ (span_at c).lo.0
unfolding kind_at span_at
begins_later at c k e i h = begun at c.last c.left k e i h

-- what stands behind the first token
behind_first : (at : ℕ) (last : Span) (ts : List TokenAndSpan) (k : TokenKind) → first_kind ts ≡ k → is_some k ≡ true → ordered_from at ts ≡ true
    → OrderedPast (first_span last ts).lo.0 (past (record { last = last; left = ts }) ts).left
behind_first at last [] k e i h = absurd (let g : is_some kind.End ≡ true = ap is_some e ∙ i in cc)
behind_first at last (t ∷ ts) k e i h = behind_one at t ts h

pub behind_word : (at : ℕ) (c : Place) (k : TokenKind) → kind_at c ≡ k → is_some k ≡ true → Ordered at c → OrderedPast (span_at c).lo.0 (after c).left
unfolding kind_at span_at after
behind_word at c k e i h = behind_first at c.last c.left k e i h

-- in order from the outset
pub from_outset : (at : ℕ) (ts : List TokenAndSpan) → ordered_from at ts ≡ true → ordered_from 0 ts ≡ true
from_outset at [] h = refl
from_outset at (t ∷ ts) h = and_both _ _ (le-leb 0 t.span.lo.0 zero-le) (and_yes (nat_le at t.span.lo.0) _ h).1
