-- One turn of the loop over the tokens of `Lexer`, as a step of the source.
use Rattle.std.proofs.Common.{◌≡◌, ℕ, ◌-◌, ◌≤◌, ◌+◌, Bool, true, false, length, List, Some, None, refl, ap, sym, ◌∙◌, subst, arith, length-append}
use Rattle.std.proofs.lemmas.Str.{IsCharBoundary-at_seam, IsUtf8-append}
use Rattle.std.specs.Str.{chars, IsCharBoundary, IsUtf8}
use Rattle.swc_ecma_parser_common.specs.declared.span.BytePos.{BytePos}
use Rattle.swc_ecma_parser_common.specs.declared.span.Span.{Span}
use Rattle.swc_ecma_parser_token.specs.declared.token.TokenAndSpan.{TokenAndSpan}
use Rattle.swc_ecma_parser_input.specs.declared.context.Context.{Context}
use Rattle.swc_ecma_parser_input.specs.declared.syntax.Syntax.{Syntax}
use Rattle.swc_ecma_parser_input.specs.Faults.{Faults}
use Rattle.swc_ecma_parser_input.specs.TokenSource.{TokenSource, Draws, IsDrawn}
use Rattle.swc_ecma_parser_lexer.specs.declared.lexer.Lexer.{Lexer}
use Rattle.swc_ecma_parser_lexer.specs.declared.place.Place.{Place}
use Rattle.swc_ecma_parser_lexer.specs.Source as plain
use Rattle.swc_ecma_parser_lexer.specs.Tokens as read
use Rattle.swc_ecma_parser_lexer.specs.Tokens.{IsReadAt}
use Rattle.swc_ecma_parser_nesting.specs.declared.nest.Nest.{Nest}
use Rattle.swc_ecma_parser_whole_lexer.specs.declared.form.Goal.{Goal}
use Rattle.swc_ecma_parser_whole_lexer.specs.Source.{source_of}
use Rattle.swc_ecma_parser_whole_lexer.specs.Whole.{may_change, nest_behind, nest_settled, settled, tokens_at, tokens_from, IsMoved}
use Rattle.swc_ecma_parser_whole_lexer.proofs.Readings.{stays}
use Rattle.swc_ecma_parser_whole_lexer.proofs.Source.{between, found-at, list-from, nothing-at}

-- a source at another place, in another nest
step-source : (g j : Goal) (n m : Nest) (k i : Bool) (p q z : Place) (c d e : Context) (s u v : Syntax) (f h o : Faults)
    → plain.source_of q d u h ≡ record (plain.source_of p c s f) { left = read.tokens_at q }
    → z.start ≡ q.start → e ≡ d → v ≡ u → o ≡ h
    → source_of j m i z e v o ≡ record (source_of g n k p c s f) { left = tokens_at j m i z }
step-source g j n m k i p q z c d e s u v f h o rest start context syntax faults =
    ap (λ (x : BytePos). record (source_of j m i z e v o) { start = x }) start
    ∙ ap (λ (x : Context). record (source_of j m i z e v o) { start = q.start; context = x }) context
    ∙ ap (λ (x : Syntax). record (source_of j m i z e v o) { start = q.start; context = d; syntax = x }) syntax
    ∙ ap (λ (x : Faults). record (source_of j m i z e v o) { start = q.start; context = d; syntax = u; recorded = x.recorded; held_back = x.held_back }) faults
    ∙ ap (λ (x : TokenSource). record x { left = tokens_at j m i z }) rest

-- the texts at a token and behind it
pub text-utf8 : (p : Place) (t : TokenAndSpan) (q : Place) (r : IsReadAt p t q) → IsUtf8 r.place.rest.now
text-utf8 p t q r =
    subst (λ xs. IsUtf8 xs) (sym r.stands.first.parts) (IsUtf8-append r.piece.text.now r.piece.rest.now r.stands.first.utf8 r.stands.first.rest_utf8)

pub rest-utf8 : (p : Place) (t : TokenAndSpan) (q : Place) (r : IsReadAt p t q) → IsUtf8 q.rest.now
rest-utf8 p t q r = subst (λ xs. IsUtf8 xs) (sym r.past.rest) r.stands.first.rest_utf8

-- where a token begins in the text
pub begins-at : (p : Place) (t : TokenAndSpan) (q : Place) (r : IsReadAt p t q) (m : ℕ) → m ≡ t.span.lo.0 - p.start.0 - p.at → IsCharBoundary p.rest.now m
begins-at p t q r m e =
    subst (λ i. IsCharBoundary p.rest.now i) (sym (e ∙ between p t q r))
    (IsCharBoundary-at_seam p.rest.now r.between.between r.place.rest.now r.between.parts (text-utf8 p t q r))

pub low-at : (p : Place) (t : TokenAndSpan) (q : Place) (r : IsReadAt p t q) → p.start.0 + p.at ≤ t.span.lo.0
low-at p t q r =
    let low : t.span.lo.0 ≡ r.place.start.0 + r.place.at = ap (λ (s : Span). s.lo.0) r.span in
    let start : r.place.start.0 ≡ p.start.0 = ap (λ (b : BytePos). b.0) r.start in
    omega (arith, low, start, r.between.at)

pub not-shorter : (p : Place) (t : TokenAndSpan) (q : Place) (r : IsReadAt p t q) → length r.place.rest.now ≤ length p.rest.now
not-shorter p t q r = omega (arith, ap length r.between.parts, length-append r.between.between r.place.rest.now)

-- the end
pub ends : (g : Goal) (n : Nest) (k : Bool) (first : TokenSource) (p q : Place) (c d : Context) (s u : Syntax) (f h : Faults) → first ≡ source_of g n k p c s f
    → Draws (plain.source_of p c s f) None (plain.source_of q d u h) → Draws first None (source_of g n k q d u h)
ends g n k first p q c d s u f h e drawn = record {
  draws = (ap (λ (x : TokenSource). x.left) e ∙ nothing-at g n k p drawn.draws.0, nothing-at g n k q drawn.draws.1);
  rest = step-source g g n n k k p q q c d d s u u f h h drawn.rest refl refl refl refl ∙ ap (λ (x : TokenSource). record x { left = tokens_at g n k q }) (sym e);
}

-- a token that stays
pub stayed : (g j : Goal) (n m : Nest) (k i : Bool) (first : TokenSource) (p q z : Place) (c d e : Context) (s u v : Syntax) (f h o : Faults) (t out : TokenAndSpan) → first ≡ source_of g n k p c s f
    → Draws (plain.source_of p c s f) (Some t) (plain.source_of q d u h) → IsReadAt p t q → may_change n t.token (chars q.rest.now) ≡ false
    → out ≡ settled (nest_behind n t.token) t → m ≡ nest_settled (nest_behind n t.token) → j ≡ g → i ≡ true → z ≡ q → e ≡ d → v ≡ u → o ≡ h
    → Draws first (Some out) (source_of j m i z e v o)
stayed g j n m k i first p q z c d e s u v f h o t out is drawn r same found nest jg it zq ed vu oh =
    let text = r.place.rest.now in
    let list : first.left ≡ tokens_from g n k q.start t text = ap (λ (x : TokenSource). x.left) is ∙ list-from g n k p t q text r refl in
    let one = stays g n k text q.rest.now t q (found-at p t q text q.rest.now r refl refl) (text-utf8 p t q r) (rest-utf8 p t q r) same in
    let left : tokens_at g (nest_settled (nest_behind n t.token)) true q ≡ tokens_at j m i z =
    ap (λ (x : Goal). tokens_at x (nest_settled (nest_behind n t.token)) true q) (sym jg) ∙ ap (λ (x : Nest). tokens_at j x true q) (sym nest)
    ∙ ap (λ (x : Bool). tokens_at j m x q) (sym it) ∙ ap (tokens_at j m i) (sym zq) in
    record {
      draws =
          subst (λ ts. IsDrawn ts out (tokens_at j m i z)) (sym list)
          (subst (λ ts. IsDrawn (tokens_from g n k q.start t text) out ts) left
          (subst (λ (x : TokenAndSpan). IsDrawn (tokens_from g n k q.start t text) x (tokens_at g (nest_settled (nest_behind n t.token)) true q)) (sym found) one));
      rest =
          step-source g j n m k i p q z c d e s u v f h o drawn.rest (ap (λ (x : Place). x.start) zq) ed vu oh
          ∙ ap (λ (x : TokenSource). record x { left = tokens_at j m i z }) (sym is);
    }

-- a token that is read anew
pub taken : (g j : Goal) (n m : Nest) (k i : Bool) (first : TokenSource) (p : Place) (c : Context) (s : Syntax) (f : Faults) (old new : Lexer) (t out : TokenAndSpan) (text : List ℕ) → first ≡ source_of g n k p c s f
    → Draws (plain.source_of p c s f) (Some t) (plain.source_of old.place old.context old.syntax old.faults) → (r : IsReadAt p t old.place) → text ≡ r.place.rest.now
    → IsDrawn (tokens_from g n k old.place.start t text) out (tokens_at j m i new.place) → IsMoved old new
    → Draws first (Some out) (source_of j m i new.place new.context new.syntax new.faults)
taken g j n m k i first p c s f old new t out text is drawn r at one moved =
    let list : first.left ≡ tokens_from g n k old.place.start t text = ap (λ (x : TokenSource). x.left) is ∙ list-from g n k p t old.place text r at in
    record {
      draws = subst (λ ts. IsDrawn ts out (tokens_at j m i new.place)) (sym list) one;
      rest =
          step-source g j n m k i p old.place new.place c old.context new.context s old.syntax new.syntax f old.faults new.faults drawn.rest moved.start moved.context moved.syntax moved.faults
          ∙ ap (λ (x : TokenSource). record x { left = tokens_at j m i new.place }) (sym is);
    }

-- a token that is read as a comment
pub passed : (g j : Goal) (n m : Nest) (k i : Bool) (first : TokenSource) (p : Place) (c : Context) (s : Syntax) (f : Faults) (old new : Lexer) (t : TokenAndSpan) (text : List ℕ) → first ≡ source_of g n k p c s f
    → Draws (plain.source_of p c s f) (Some t) (plain.source_of old.place old.context old.syntax old.faults) → (r : IsReadAt p t old.place) → text ≡ r.place.rest.now
    → tokens_from g n k old.place.start t text ≡ tokens_at j m i new.place → IsMoved old new
    → first ≡ source_of j m i new.place new.context new.syntax new.faults
passed g j n m k i first p c s f old new t text is drawn r at same moved =
    let list : tokens_at g n k p ≡ tokens_at j m i new.place = list-from g n k p t old.place text r at ∙ same in
    is ∙ ap (λ ts. record (source_of g n k p c s f) { left = ts }) list
    ∙ sym (step-source g j n m k i p old.place new.place c old.context new.context s old.syntax new.syntax f old.faults new.faults drawn.rest moved.start moved.context moved.syntax moved.faults)
