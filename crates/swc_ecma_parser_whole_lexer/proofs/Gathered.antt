-- The comments before the first token of a text, which any list of comments begins with that follows from the pieces.
use Rattle.std.proofs.Common.{◌≡◌, ℕ, zero, suc, ◌+◌, Bool, true, false, nat_eq, ◌||◌, cond, length, List, [], ◌∷◌, ◌++◌, refl, ap, sym, ◌∙◌, arith, append_assoc}
use Rattle.std.specs.Char.{encode_utf8}
use Rattle.std.specs.Str.{chars, encode_utf8_all}
use Rattle.std.proofs.lemmas.Bool.{true≢false}
use Rattle.std.proofs.lemmas.List.{append_cancel_left, append_cancel_right}
use Rattle.swc_ecma_parser_common.specs.declared.comment.Comment.{Comment}
use Rattle.swc_ecma_parser_common.specs.declared.span.BytePos.{BytePos}
use Rattle.swc_ecma_parser_token.specs.declared.token.Token.TheVariants as token
use Rattle.swc_ecma_parser_token.specs.declared.token.TokenAndSpan.{TokenAndSpan}
use Rattle.swc_ecma_parser_scan.specs.declared.piece.Piece.{Piece}
use Rattle.swc_ecma_parser_scan.specs.Scan.{scan}
use Rattle.swc_ecma_parser_scan.specs.Splits.{scan-splits}
use Rattle.swc_ecma_parser_lexer.specs.declared.comment.CommentList.{CommentList}
use Rattle.swc_ecma_parser_lexer.specs.declared.place.Place.{Place}
use Rattle.swc_ecma_parser_lexer.specs.Collected as plain
use Rattle.swc_ecma_parser_lexer.specs.Collected.{piece_comments}
use Rattle.swc_ecma_parser_lexer.specs.Ordered.{length-encodes}
use Rattle.swc_ecma_parser_lexer.specs.Tokens.{breaks, is_skipped, span_at, AreAlike, IsBlind, IsPast, IsToken}
use Rattle.swc_ecma_parser_lexer.proofs.Collections.{reads-none, reads-token}

-- Below, `f` is what follows from a text at a position, behind a line break or not.

-- the same with so many characters of what is left in the piece before
unfoldable pub past : {X : Type 0} → (ℕ → Bool → List ℕ → X) → ℕ → ℕ → Bool → List ℕ → X
past f zero at b cs = f at b cs
past f (suc skip) at b [] = f at b []
past f (suc skip) at b (c ∷ cs) = past f skip (at + length (encode_utf8 c)) b cs

past-all : {X : Type 0} (f : ℕ → Bool → List ℕ → X) (xs ys : List ℕ) (at : ℕ) (b : Bool) → past f (length xs) at b (xs ++ ys) ≡ f (at + length (encode_utf8_all xs)) b ys
unfolding past
past-all f [] ys at b = ap (λ m. f m b ys) (omega arith)
past-all f (c ∷ xs) ys at b = past-all f xs ys (at + length (encode_utf8 c)) b ∙ ap (λ m. f m b ys) (omega (arith, length-encodes c xs))

-- from behind the first character of a piece to behind the piece
pub past-piece : {X : Type 0} (f : ℕ → Bool → List ℕ → X) (at : ℕ) (b is_first : Bool) (c : ℕ) (cs : List ℕ) → past f (length (scan is_first c cs).taken) (at + length (encode_utf8 c)) b cs ≡ f (at + length (encode_utf8_all (c ∷ (scan is_first c cs).taken))) b (scan is_first c cs).left
past-piece f at b is_first c cs =
    let p = scan is_first c cs in
    ap (past f (length p.taken) (at + length (encode_utf8 c)) b) (sym (scan-splits is_first c cs))
    ∙ past-all f p.taken p.left (at + length (encode_utf8 c)) b
    ∙ ap (λ m. f m b p.left) (omega (arith, length-encodes c p.taken))

-- a list that pieces before a token add their comments to
pub record IsGathering (start : ℕ) (f : ℕ → Bool → List ℕ → List Comment) : Type 0 where
  pub gathers : (at : ℕ) (b : Bool) (c : ℕ) (cs : List ℕ) → is_skipped (scan (nat_eq at 0) c cs).state ≡ true
      → f at b (c ∷ cs) ≡ piece_comments (start + at) (scan (nat_eq at 0) c cs).state (encode_utf8_all (c ∷ (scan (nat_eq at 0) c cs).taken)) ++ f (at + length (encode_utf8_all (c ∷ (scan (nat_eq at 0) c cs).taken))) (b || breaks (scan (nat_eq at 0) c cs).state) (scan (nat_eq at 0) c cs).left

-- The place of the first token.

pub record Stop : Type 0 where
  pub at : ℕ
  pub had_line_break : Bool
  pub left : List ℕ

abbrev stopped : ℕ → Bool → List ℕ → Stop
stopped at b cs = record { at = at; had_line_break = b; left = cs }

unfoldable stop_behind : ℕ → ℕ → Bool → List ℕ → Stop
stop_behind skip at b [] = stopped at b []
stop_behind (suc skip) at b (c ∷ cs) = stop_behind skip (at + length (encode_utf8 c)) b cs
stop_behind zero at b (c ∷ cs) =
    cond (is_skipped (scan (nat_eq at 0) c cs).state)
    (stop_behind (length (scan (nat_eq at 0) c cs).taken) (at + length (encode_utf8 c)) (b || breaks (scan (nat_eq at 0) c cs).state) cs)
    (stopped at b (c ∷ cs))

-- and the comments before it
unfoldable pub lead : ℕ → ℕ → ℕ → List ℕ → List Comment
lead start skip at [] = []
lead start (suc skip) at (c ∷ cs) = lead start skip (at + length (encode_utf8 c)) cs
lead start zero at (c ∷ cs) =
    cond (is_skipped (scan (nat_eq at 0) c cs).state)
    (piece_comments (start + at) (scan (nat_eq at 0) c cs).state (encode_utf8_all (c ∷ (scan (nat_eq at 0) c cs).taken))
    ++ lead start (length (scan (nat_eq at 0) c cs).taken) (at + length (encode_utf8 c)) cs)
    []

abbrev at_stop : {X : Type 0} → (ℕ → Bool → List ℕ → X) → Stop → X
at_stop f s = f s.at s.had_line_break s.left

lead-choice : (f : ℕ → Bool → List ℕ → List Comment) (v : Bool) (all found more : List Comment) (one two : Stop)
    → (v ≡ true → all ≡ found ++ (more ++ at_stop f one)) → all ≡ at_stop f two → all ≡ cond v (found ++ more) [] ++ at_stop f (cond v one two)
lead-choice f true all found more one two h k = h refl ∙ sym (append_assoc found more (at_stop f one))
lead-choice f false all found more one two h k = k

gathered : (start : ℕ) (f : ℕ → Bool → List ℕ → List Comment) → IsGathering start f → (skip at : ℕ) (b : Bool) (cs : List ℕ)
    → past f skip at b cs ≡ lead start skip at cs ++ at_stop f (stop_behind skip at b cs)
unfolding lead stop_behind past
gathered start f h zero at b [] = refl
gathered start f h (suc skip) at b [] = refl
gathered start f h (suc skip) at b (c ∷ cs) = gathered start f h skip (at + length (encode_utf8 c)) b cs
gathered start f h zero at b (c ∷ cs) =
    let p = scan (nat_eq at 0) c cs in
    let found = piece_comments (start + at) p.state (encode_utf8_all (c ∷ p.taken)) in
    lead-choice f (is_skipped p.state) (f at b (c ∷ cs)) found (lead start (length p.taken) (at + length (encode_utf8 c)) cs)
    (stop_behind (length p.taken) (at + length (encode_utf8 c)) (b || breaks p.state) cs) (stopped at b (c ∷ cs))
    (λ e. h.gathers at b c cs e
    ∙ ap (λ xs. found ++ xs) (sym (past-piece f at (b || breaks p.state) (nat_eq at 0) c cs))
    ∙ ap (λ xs. found ++ xs) (gathered start f h (length p.taken) (at + length (encode_utf8 c)) (b || breaks p.state) cs))
    refl

-- The same of two places that are alike, at the second of which a token stands.

stop-past : (skip at : ℕ) (b : Bool) (cs : List ℕ) → stop_behind skip at b cs ≡ past (stop_behind 0) skip at b cs
unfolding stop_behind past
stop-past zero at b cs = refl
stop-past (suc skip) at b [] = refl
stop-past (suc skip) at b (c ∷ cs) = stop-past skip (at + length (encode_utf8 c)) b cs

-- a place as a token, so that it is the same in places that are alike
abbrev marked : Stop → List TokenAndSpan
marked s = record { token = token.Num s.left; had_line_break = s.had_line_break; span = span_at s.at 0 } ∷ []

stop-skips : (at : ℕ) (b : Bool) (c : ℕ) (cs : List ℕ) → is_skipped (scan (nat_eq at 0) c cs).state ≡ true
    → stop_behind 0 at b (c ∷ cs) ≡ stop_behind 0 (at + length (encode_utf8_all (c ∷ (scan (nat_eq at 0) c cs).taken))) (b || breaks (scan (nat_eq at 0) c cs).state) (scan (nat_eq at 0) c cs).left
unfolding stop_behind
stop-skips at b c cs e =
    let p = scan (nat_eq at 0) c cs in
    ap (λ v. cond v (stop_behind (length p.taken) (at + length (encode_utf8 c)) (b || breaks p.state) cs) (stopped at b (c ∷ cs))) e
    ∙ stop-past (length p.taken) (at + length (encode_utf8 c)) (b || breaks p.state) cs
    ∙ past-piece (stop_behind 0) at (b || breaks p.state) (nat_eq at 0) c cs

stop-blind : IsBlind (λ at b cs. marked (stop_behind 0 at b cs))
stop-blind = record { skips = λ at b c cs e. ap marked (stop-skips at b c cs e) }

head-same : (x y : TokenAndSpan) (xs ys : List TokenAndSpan) → x ∷ xs ≡ y ∷ ys → x ≡ y
head-same x y xs ys e = cc

raw-same : (xs ys : List ℕ) → token.Num xs ≡ token.Num ys → xs ≡ ys
raw-same xs ys e = cc

marked-same : (s t : Stop) → marked s ≡ marked t → s ≡ t
marked-same s t e =
    let same = head-same _ _ [] [] e in
    ap (λ m. stopped m s.had_line_break s.left) (ap (λ (x : TokenAndSpan). x.span.lo.0) same)
    ∙ ap (λ v. stopped t.at v s.left) (ap (λ (x : TokenAndSpan). x.had_line_break) same)
    ∙ ap (stopped t.at t.had_line_break) (raw-same s.left t.left (ap (λ (x : TokenAndSpan). x.token) same))

stop-token : (q : Place) (piece : Piece) → IsToken q piece → stop_behind 0 q.at q.had_line_break (chars q.rest.now) ≡ stopped q.at q.had_line_break (chars q.rest.now)
unfolding stop_behind
stop-token q piece h =
    let c = h.first.first in
    let cs = h.first.behind in
    let p = scan (nat_eq q.at 0) c cs in
    ap (stop_behind 0 q.at q.had_line_break) h.first.begins
    ∙ ap (λ v. cond v (stop_behind (length p.taken) (q.at + length (encode_utf8 c)) (q.had_line_break || breaks p.state) cs) (stopped q.at q.had_line_break (c ∷ cs)))
    (sym (ap is_skipped h.first.state) ∙ h.kept)
    ∙ ap (stopped q.at q.had_line_break) (sym h.first.begins)

-- the comments between two places
abbrev pub lead_at : Place → List Comment
lead_at p = lead p.start.0 0 p.at (chars p.rest.now)

abbrev pub at_place : {X : Type 0} → (ℕ → Bool → List ℕ → X) → Place → X
at_place f p = f p.at p.had_line_break (chars p.rest.now)

pub gathered-to : (p q : Place) (piece : Piece) (f : ℕ → Bool → List ℕ → List Comment) → IsGathering p.start.0 f → AreAlike p q → IsToken q piece → at_place f p ≡ lead_at p ++ at_place f q
unfolding past
gathered-to p q piece f g h k =
    gathered p.start.0 f g 0 p.at p.had_line_break (chars p.rest.now)
    ∙ ap (λ (s : Stop). lead_at p ++ at_stop f s)
    (marked-same _ _ (h (λ at b cs. marked (stop_behind 0 at b cs)) stop-blind) ∙ stop-token q piece k)

-- The comments as `Lexer` has them.

plain-past : (start skip at : ℕ) (b : Bool) (cs : List ℕ) → plain.comments_behind start skip at cs ≡ past (λ n v xs. plain.comments start n xs) skip at b cs
unfolding plain.comments_behind past
plain-past start zero at b cs = refl
plain-past start (suc skip) at b [] = refl
plain-past start (suc skip) at b (c ∷ cs) = plain-past start skip (at + length (encode_utf8 c)) b cs

plain-gathers : (start : ℕ) → IsGathering start (λ at b cs. plain.comments start at cs)
unfolding plain.comments_behind
plain-gathers start = record {
  gathers = λ at b c cs e.
      let p = scan (nat_eq at 0) c cs in
      ap (λ xs. piece_comments (start + at) p.state (encode_utf8_all (c ∷ p.taken)) ++ xs)
      (plain-past start (length p.taken) (at + length (encode_utf8 c)) b cs
      ∙ past-piece (λ n v xs. plain.comments start n xs) at b (nat_eq at 0) c cs);
}

-- a token adds none
plain-token : (list : CommentList) (q z : Place) (piece : Piece) → IsToken q piece → IsPast q piece z → plain.comments_at q ≡ plain.comments_at z
plain-token list q z piece h k =
    let all : CommentList = record list { is_wanted = true; is_lossy = false } in
    append_cancel_left all.comments.items _ _ ((reads-token all all q q z piece (reads-none all q) h k).comments refl)

pub plain-lead : (list : CommentList) (p q z : Place) (piece : Piece) → AreAlike p q → q.start ≡ p.start → IsToken q piece → IsPast q piece z → plain.comments_at p ≡ lead_at p ++ plain.comments_at z
plain-lead list p q z piece h e k l =
    gathered-to p q piece (λ at b cs. plain.comments p.start.0 at cs) (plain-gathers p.start.0) h k
    ∙ ap (λ (s : BytePos). lead_at p ++ plain.comments s.0 q.at (chars q.rest.now)) (sym e)
    ∙ ap (λ xs. lead_at p ++ xs) (plain-token list q z piece k l)

-- what a list got before some comments, it got before any
pub exchanged : (w v : Bool) (xs ys found behind others : List Comment) → v ≡ w → xs ++ cond w (found ++ behind) [] ≡ ys ++ cond v behind [] → xs ++ cond w (found ++ others) [] ≡ ys ++ cond v others []
exchanged true true xs ys found behind others e h =
    sym (append_assoc xs found others)
    ∙ ap (λ zs. zs ++ others) (append_cancel_right (xs ++ found) ys behind (append_assoc xs found behind ∙ h))
exchanged false false xs ys found behind others e h = h
exchanged true false xs ys found behind others e h = absurd (true≢false (sym e))
exchanged false true xs ys found behind others e h = absurd (true≢false e)
