-- What a call leaves is in order where what it began with was.
use Rattle.std.proofs.Common.{◌≡◌, ℕ, true, List, [], ◌∷◌, ◌++◌, ◌∙◌, sym, ap, refl}
use Rattle.std.specs.Prelude.{◌&&◌, nat_le}
use Rattle.swc_ecma_parser_common.specs.declared.span.Span.{Span}
use Rattle.swc_ecma_parser_token.specs.declared.token.TokenAndSpan.{TokenAndSpan}
use Rattle.swc_ecma_parser_input.specs.Drawn.{Drawn}
use Rattle.swc_ecma_parser_input.specs.TokenSource.{ordered_from}
use Rattle.swc_ecma_parser_grammar.proofs.Tests.{and_yes, and_both}
use Rattle.swc_ecma_parser_reader.specs.Calls.{Leaves}
use Rattle.swc_ecma_parser_reader.specs.Entry.{last_span}
use Rattle.swc_ecma_parser_reader.specs.State.{State}
use Rattle.swc_ecma_parser_span_order.specs.Forward.{is_forward, in_order}

-- tokens that stand for others have their spans
drawn_ordered : (at : ℕ) (ts us : List TokenAndSpan) → Drawn ts us → ordered_from at ts ≡ true → ordered_from at us ≡ true
drawn_ordered at [] us d h = rw d refl
drawn_ordered at (t ∷ ts) [] d h = absurd d
drawn_ordered at (t ∷ ts) (u ∷ us) d h =
    let p = and_yes _ _ h in let q = and_yes _ _ p.1 in rw d.0.span (and_both _ _ p.0 (and_both _ _ q.0 (drawn_ordered t.span.hi.0 ts us d.1 q.1)))

-- behind some tokens the others stand in order too
ordered_behind : (last : Span) (read rest : List TokenAndSpan) → is_forward last ≡ true → ordered_from last.hi.0 (read ++ rest) ≡ true
    → (is_forward (last_span last read) ≡ true) × (ordered_from (last_span last read).hi.0 rest ≡ true)
ordered_behind last [] rest h g = (h, g)
ordered_behind last (t ∷ ts) rest h g = let p = and_yes _ _ g in let q = and_yes _ _ p.1 in ordered_behind t.span ts rest q.0 q.1

pub leaves_in_order : (s t : State) → Leaves s t → in_order s.at ≡ true → in_order t.at ≡ true
leaves_in_order s t l o =
    let p = and_yes _ _ o in
    let q = ordered_behind s.at.last l.read l.rest p.0 (ap (ordered_from s.at.last.hi.0) (sym l.tokens) ∙ p.1) in
    rw l.last (and_both _ _ q.0 (drawn_ordered _ l.rest t.at.left l.drawn q.1))
