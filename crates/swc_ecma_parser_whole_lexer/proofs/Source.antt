-- What one turn does to the source.
use Rattle.std.proofs.Common.{◌≡◌, ℕ, zero, suc, ◌+◌, ◌-◌, Bool, true, false, nat_eq, ◌||◌, cond, length, drop, List, [], ◌∷◌, refl, ap, sym, ◌∙◌, arith}
use Rattle.std.proofs.Math.Seq.{drop-append_seam}
use Rattle.std.specs.Char.{encode_utf8}
use Rattle.std.specs.Str.{chars}
use Rattle.swc_ecma_parser_common.specs.declared.span.BytePos.{BytePos}
use Rattle.swc_ecma_parser_common.specs.declared.span.Span.{Span}
use Rattle.swc_ecma_parser_token.specs.declared.token.TokenAndSpan.{TokenAndSpan}
use Rattle.swc_ecma_parser_input.specs.declared.context.Context.{Context}
use Rattle.swc_ecma_parser_input.specs.declared.syntax.Syntax.{Syntax}
use Rattle.swc_ecma_parser_input.specs.Faults.{Faults}
use Rattle.swc_ecma_parser_input.specs.TokenSource.{TokenSource}
use Rattle.swc_ecma_parser_scan.specs.Scan.{scan}
use Rattle.swc_ecma_parser_lexer.specs.declared.place.Place.{Place}
use Rattle.swc_ecma_parser_lexer.specs.Source as plain
use Rattle.swc_ecma_parser_lexer.specs.Tokens as read
use Rattle.swc_ecma_parser_lexer.specs.Tokens.{is_skipped, breaks, AreAlike, IsReadAt}
use Rattle.swc_ecma_parser_nesting.specs.declared.nest.Nest.{Nest}
use Rattle.swc_ecma_parser_whole_lexer.specs.declared.form.Goal.{Goal}
use Rattle.swc_ecma_parser_nesting.specs.Nesting as nesting
use Rattle.swc_ecma_parser_whole_lexer.specs.Source.{source_of, outset}
use Rattle.swc_ecma_parser_whole_lexer.specs.Whole.{tokens, tokens_at, tokens_behind, tokens_from, IsFound}
use Rattle.swc_ecma_parser_whole_lexer.proofs.Readings.{blind}

-- The end.

cons-nothing : {X : Type 0} (x : X) (xs : List X) → x ∷ xs ≡ [] → ⊥
cons-nothing x xs e = cc e

blank-choice : (v : Bool) (x : TokenAndSpan) (xs ys : List TokenAndSpan) (us vs : List TokenAndSpan) → (xs ≡ [] → us ≡ []) → cond v xs (x ∷ ys) ≡ [] → cond v us vs ≡ []
blank-choice true x xs ys us vs h e = h e
blank-choice false x xs ys us vs h e = absurd (cons-nothing x ys e)

-- where `Lexer` finds no token, there is none
nothing : (g : Goal) (start skip at : ℕ) (b k : Bool) (n : Nest) (cs : List ℕ) → read.tokens_behind start skip at b cs ≡ [] → tokens_behind g start skip at b k n cs ≡ []
unfolding tokens_behind read.tokens_behind
nothing g start skip at b k n [] e = refl
nothing g start (suc skip) at b k n (c ∷ cs) e = nothing g start skip (at + length (encode_utf8 c)) b k n cs e
nothing g start zero at b k n (c ∷ cs) e =
    let piece = scan (nat_eq at 0) c cs in
    blank-choice (is_skipped piece.state) _ _ _ _ _
    (λ f. nothing g start (length piece.taken) (at + length (encode_utf8 c)) (b || breaks piece.state) k n cs f) e

pub nothing-at : (g : Goal) (n : Nest) (k : Bool) (q : Place) → read.tokens_at q ≡ [] → tokens_at g n k q ≡ []
nothing-at g n k q e = nothing g q.start.0 0 q.at q.had_line_break k n (chars q.rest.now) e

-- places that are alike
pub alike : (g : Goal) (n : Nest) (k : Bool) (p q : Place) → AreAlike p q → q.start ≡ p.start → tokens_at g n k p ≡ tokens_at g n k q
alike g n k p q h e =
    h (λ at b cs. tokens g p.start.0 at b k n cs) (blind g p.start.0 k n)
    ∙ ap (λ (s : BytePos). tokens g s.0 q.at q.had_line_break k n (chars q.rest.now)) (sym e)

-- A token.

pub found-at : (p : Place) (t : TokenAndSpan) (q : Place) (text rest : List ℕ) (r : IsReadAt p t q) → text ≡ r.place.rest.now → rest ≡ q.rest.now → IsFound text rest t q
found-at p t q text rest r e f = record {
  place = r.place;
  piece = r.piece;
  text = sym e;
  rest = sym r.past.rest ∙ sym f;
  fits = r.fits;
  stands = r.stands;
  past = r.past;
  span = r.span;
  had_line_break = r.had_line_break;
  same = r.same;
  lost = r.lost;
}

-- how far it stands from where it was looked for
pub between : (p : Place) (t : TokenAndSpan) (q : Place) (r : IsReadAt p t q) → t.span.lo.0 - p.start.0 - p.at ≡ length r.between.between
between p t q r =
    let low : t.span.lo.0 ≡ r.place.start.0 + r.place.at = ap (λ (s : Span). s.lo.0) r.span in
    let start : r.place.start.0 ≡ p.start.0 = ap (λ (b : BytePos). b.0) r.start in
    omega (arith, low, start, r.between.at)

pub text-at : (p : Place) (t : TokenAndSpan) (q : Place) (r : IsReadAt p t q) (m : ℕ) → m ≡ t.span.lo.0 - p.start.0 - p.at → drop m p.rest.now ≡ r.place.rest.now
text-at p t q r m e =
    ap (λ n. drop n p.rest.now) (e ∙ between p t q r) ∙ ap (drop (length r.between.between)) r.between.parts
    ∙ drop-append_seam r.between.between r.place.rest.now

pub list-from : (g : Goal) (n : Nest) (k : Bool) (p : Place) (t : TokenAndSpan) (q : Place) (text : List ℕ) (r : IsReadAt p t q) → text ≡ r.place.rest.now → tokens_at g n k p ≡ tokens_from g n k q.start t text
list-from g n k p t q text r e =
    let low : t.span.lo.0 ≡ r.place.start.0 + r.place.at = ap (λ (s : Span). s.lo.0) r.span in
    let start : q.start.0 ≡ r.place.start.0 = ap (λ (b : BytePos). b.0) r.past.start in
    let at : r.place.at ≡ t.span.lo.0 - q.start.0 = omega (arith, low, start) in
    alike g n k p r.place r.alike r.start
    ∙ ap (λ (s : BytePos). tokens g s.0 r.place.at r.place.had_line_break k n (chars r.place.rest.now)) (sym r.past.start)
    ∙ ap (λ m. tokens g q.start.0 m r.place.had_line_break k n (chars r.place.rest.now)) at
    ∙ ap (λ v. tokens g q.start.0 (t.span.lo.0 - q.start.0) v k n (chars r.place.rest.now)) (sym r.had_line_break)
    ∙ ap (λ xs. tokens g q.start.0 (t.span.lo.0 - q.start.0) t.had_line_break k n (chars xs)) (sym e)

-- All but the tokens left.

pub rest-of-source : (g : Goal) (n m : Nest) (j k : Bool) (p q : Place) (c d : Context) (s u : Syntax) (f h : Faults)
    → plain.source_of q d u h ≡ record (plain.source_of p c s f) { left = read.tokens_at q }
    → source_of g m k q d u h ≡ record (source_of g n j p c s f) { left = tokens_at g m k q }
rest-of-source g n m j k p q c d s u f h e = ap (λ (x : TokenSource). record x { left = tokens_at g m k q }) e

pub place-of-source : (g : Goal) (n m : Nest) (j k : Bool) (p q : Place) (c : Context) (s : Syntax) (f : Faults) → q.start ≡ p.start → source_of g m k q c s f ≡ record (source_of g n j p c s f) { left = tokens_at g m k q }
place-of-source g n m j k p q c s f e = ap (λ (b : BytePos). record (source_of g n j p c s f) { left = tokens_at g m k q; start = b }) e

-- The start of a text.

pub at-outset : (g : Goal) (place : Place) (c : Context) (s syntax : Syntax) (f : Faults) (start : BytePos) (text : List ℕ)
    → plain.source_of place c s f ≡ plain.outset syntax start (chars text) → place.start ≡ start → place.at ≡ 0 → place.had_line_break ≡ false → place.rest.now ≡ text
    → source_of g nesting.outset false place c s f ≡ outset g syntax start (chars text)
at-outset g place c s syntax f start text e from at broken rest =
    let n = nesting.outset in
    ap (λ (x : TokenSource). record x { left = tokens_at g n false place }) e
    ∙ ap (λ ts. record (plain.outset syntax start (chars text)) { left = ts })
    (ap (λ (b : BytePos). tokens g b.0 place.at place.had_line_break false n (chars place.rest.now)) from
    ∙ ap (λ m. tokens g start.0 m place.had_line_break false n (chars place.rest.now)) at
    ∙ ap (λ v. tokens g start.0 0 v false n (chars place.rest.now)) broken
    ∙ ap (λ xs. tokens g start.0 0 false false n (chars xs)) rest)
