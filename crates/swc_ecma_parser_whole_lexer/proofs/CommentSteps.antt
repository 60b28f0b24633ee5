-- The comments behind one turn of the source, from what its steps ensure.
use Rattle.std.proofs.Common.{◌≡◌, ℕ, Bool, true, false, not, ◌||◌, List, ◌++◌, refl, ap, sym, ◌∙◌}
use Rattle.std.specs.Str.{chars, IsUtf8}
use Rattle.swc_ecma_parser_common.specs.declared.comment.Comment.{Comment}
use Rattle.swc_ecma_parser_token.specs.declared.token.Token.{Token}
use Rattle.swc_ecma_parser_token.specs.declared.token.TokenAndSpan.{TokenAndSpan}
use Rattle.swc_ecma_parser_input.specs.TokenSource.{is_out_of_memory}
use Rattle.swc_ecma_parser_scan.specs.declared.piece.Piece.{Piece}
use Rattle.swc_ecma_parser_scan.specs.declared.state.State.{State}
use Rattle.swc_ecma_parser_lexer.specs.declared.comment.CommentList.{CommentList}
use Rattle.swc_ecma_parser_lexer.specs.declared.place.Place.{Place}
use Rattle.swc_ecma_parser_lexer.specs.Collected as plain
use Rattle.swc_ecma_parser_lexer.specs.Tokens.{IsReadAt}
use Rattle.swc_ecma_parser_nesting.specs.declared.nest.Nest.{Nest}
use Rattle.swc_ecma_parser_nesting.specs.Nesting.{pass}
use Rattle.swc_ecma_parser_whole_lexer.specs.declared.form.Form.{Form}
use Rattle.swc_ecma_parser_whole_lexer.specs.declared.form.Goal.{Goal}
use Rattle.swc_ecma_parser_whole_lexer.specs.Comments.{comments_at, comments_from, IsReadOn}
use Rattle.swc_ecma_parser_whole_lexer.specs.Forms.{Reading, anew, is_comment, is_kept, kept}
use Rattle.swc_ecma_parser_whole_lexer.specs.Whole.{kind_of, lost_name, may_change, nest_behind, nest_settled, token_at, IsFound, IsPlaceBehind}
use Rattle.swc_ecma_parser_whole_lexer.proofs.Anew.{unchanged, unlost}
use Rattle.swc_ecma_parser_whole_lexer.proofs.Changed.{anew-before, kept-comment, kept-form, lost-as-piece, lost-nest, lost-read, same-bytes, seen, seen-as}
use Rattle.swc_ecma_parser_whole_lexer.proofs.Commented.{comment-comes, read-on, read-to, read-twice, token-comes}
use Rattle.swc_ecma_parser_whole_lexer.proofs.Lost.{lost-as, lost-stays}
use Rattle.swc_ecma_parser_whole_lexer.proofs.Readings.{kept-token, made, reading, stays-behind, text-parts, unlost-made}
use Rattle.swc_ecma_parser_whole_lexer.proofs.Turned.{lost-silent, lost-token, IsSamePiece}

-- A token that memory was found for.

pub comment-comments : (g j : Goal) (n m : Nest) (k i : Bool) (text rest end : List ℕ) (t : TokenAndSpan) (q p z : Place) (h : IsFound text rest t q) (f : Form)
    → is_out_of_memory t.token ≡ false → IsUtf8 text → IsUtf8 end → f ≡ (seen-as g n k t h).form → chars end ≡ (seen-as g n k t h).left → is_comment f ≡ true
    → IsPlaceBehind q.start t.span.lo t.had_line_break text end p → j ≡ g → m ≡ n → i ≡ k → z ≡ p
    → comments_from g n k q.start t text ≡ comments_at j m i z
comment-comments g j n m k i text rest end t q p z h f lost utf8 end_utf8 ef el comment place jg mn ik zp =
    let before = anew-before g n (t.had_line_break || not k) t.token text rest end t q h utf8 end_utf8 el in
    comment-comes g n k text rest before.taken end t q p h (seen-as g n k t h) (seen g n k text rest t q h lost) utf8 end_utf8 before.parts el (ap is_comment (sym ef) ∙ comment) place
    ∙ ap (λ (x : Goal). comments_at x n k p) (sym jg) ∙ ap (λ (x : Nest). comments_at j x k p) (sym mn) ∙ ap (λ (v : Bool). comments_at j m v p) (sym ik) ∙ ap (comments_at j m i) (sym zp)

pub changed-comments : (g j : Goal) (n o m : Nest) (k i : Bool) (text rest u end : List ℕ) (t : TokenAndSpan) (q p z : Place) (h : IsFound text rest t q) (f : Form)
    → is_out_of_memory t.token ≡ false → IsUtf8 text → IsUtf8 end → text ≡ u ++ end → f ≡ (seen-as g n k t h).form → chars end ≡ (seen-as g n k t h).left → is_comment f ≡ false
    → IsPlaceBehind q.start t.span.lo false text end p → o ≡ n
    → m ≡ nest_settled (nest_behind o (token_at t.span.lo.0 t.had_line_break f u t.token).token)
    → j ≡ g → i ≡ true → z ≡ p
    → comments_from g n k q.start t text ≡ comments_at j m i z
changed-comments g j n o m k i text rest u end t q p z h f lost utf8 end_utf8 parts ef el comment place on nest jg it zp =
    let r = seen-as g n k t h in
    let low = t.span.lo.0 in
    let b = t.had_line_break in
    token-comes g j n m k i text rest u end t q p z h r (seen g n k text rest t q h lost) utf8 end_utf8 parts el (ap is_comment (sym ef) ∙ comment) place
    (nest ∙ ap (λ (x : Nest). nest_settled (nest_behind x (token_at low b f u t.token).token)) on ∙ ap (λ (x : Form). nest_settled (nest_behind n (token_at low b x u t.token).token)) ef
    ∙ ap (λ (x : Token). nest_settled (nest_behind n (token_at low b r.form u x).token)) (sym (unlost-made text rest t q h lost)))
    jg it zp

-- A token for which there was no memory.

pub lost-changed-comments : (g j : Goal) (n o m : Nest) (k i : Bool) (text rest u end : List ℕ) (t : TokenAndSpan) (q p z : Place) (h : IsFound text rest t q) (piece : Piece) (f : Form)
    → is_out_of_memory t.token ≡ true → IsSamePiece piece h.piece → IsUtf8 text → IsUtf8 end → text ≡ u ++ end → f ≡ (lost-as-piece t h piece).form → chars end ≡ (lost-as-piece t h piece).left → is_kept f ≡ false
    → IsPlaceBehind q.start t.span.lo false text end p → o ≡ n
    → m ≡ nest_settled (nest_behind o (token_at t.span.lo.0 t.had_line_break f u t.token).token)
    → j ≡ g → i ≡ true → z ≡ p
    → comments_from g n k q.start t text ≡ comments_at j m i z
lost-changed-comments g j n o m k i text rest u end t q p z h piece f lost same utf8 end_utf8 parts ef el own place on nest jg it zp =
    let r = lost-as-piece t h piece in
    let low = t.span.lo.0 in
    let b = t.had_line_break in
    let token = lost-token piece.state (chars text) (chars rest) b low u (made t h) t.token (ap is_kept (sym ef) ∙ own) in
    token-comes g j n m k i text rest u end t q p z h r (lost-read g n k text rest t q h piece lost same) utf8 end_utf8 parts el (lost-silent piece.state (chars text) (chars rest)) place
    (nest ∙ ap (λ (x : Nest). nest_settled (nest_behind x (token_at low b f u t.token).token)) on ∙ ap (λ (x : Form). nest_settled (nest_behind n (token_at low b x u t.token).token)) ef
    ∙ ap (λ (x : TokenAndSpan). nest_settled (nest_behind n x.token)) (sym token))
    jg it zp

pub lost-kept-comments : (g j : Goal) (n o m : Nest) (k i : Bool) (text rest end : List ℕ) (t : TokenAndSpan) (q p z : Place) (h : IsFound text rest t q) (piece : Piece) (f : Form)
    → is_out_of_memory t.token ≡ true → IsSamePiece piece h.piece → IsUtf8 text → IsUtf8 rest → IsUtf8 end → f ≡ (lost-as-piece t h piece).form → chars end ≡ (lost-as-piece t h piece).left → is_kept f ≡ true
    → IsPlaceBehind q.start t.span.lo false text end p → o ≡ n
    → m ≡ nest_settled (pass o (kind_of piece.state) (lost_name piece.state piece.text.now))
    → j ≡ g → i ≡ true → z ≡ p
    → comments_from g n k q.start t text ≡ comments_at j m i z
lost-kept-comments g j n o m k i text rest end t q p z h piece f lost same utf8 rest_utf8 end_utf8 ef el own place on nest jg it zp =
    let u = h.piece.text.now in
    let low = t.span.lo.0 in
    let b = t.had_line_break in
    let known = lost-as g n (b || not k) (chars text) (chars rest) h.piece.state u t.span (h.lost lost) in
    let stays : lost-as-piece t h piece ≡ kept (chars rest) = lost-stays piece.state (chars text) (chars rest) (sym ef ∙ kept-form f own) in
    let ends : chars end ≡ chars rest = el ∙ ap (λ (x : Reading). x.left) stays in
    let parts : text ≡ u ++ end = text-parts text rest t q h ∙ ap (λ xs. u ++ xs) (sym (same-bytes end rest end_utf8 rest_utf8 ends)) in
    let passed : pass o (kind_of piece.state) (lost_name piece.state piece.text.now) ≡ nest_behind n (made t h) =
    ap (λ (x : Nest). pass x (kind_of piece.state) (lost_name piece.state piece.text.now)) on
    ∙ ap (λ (x : State). pass n (kind_of x) (lost_name x piece.text.now)) same.state
    ∙ ap (λ xs. pass n (kind_of h.piece.state) (lost_name h.piece.state xs)) same.text ∙ sym known.nest in
    token-comes g j n m k i text rest u end t q p z h (kept (chars rest)) (lost-read g n k text rest t q h piece lost same ∙ stays) utf8 end_utf8 parts ends (kept-comment (chars rest)) place
    (nest ∙ ap nest_settled (passed ∙ sym (lost-nest n low b u (made t h) (nest_behind n (made t h)) refl)))
    jg it zp

-- A token that cannot change.

pub stayed-comments : (g j : Goal) (n m : Nest) (k i : Bool) (text rest : List ℕ) (t : TokenAndSpan) (q z : Place) (h : IsFound text rest t q) → IsUtf8 text → IsUtf8 rest → may_change n t.token (chars rest) ≡ false
    → m ≡ nest_settled (nest_behind n t.token) → j ≡ g → i ≡ true → z ≡ q
    → comments_from g n k q.start t text ≡ comments_at j m i z
unfolding is_comment
stayed-comments g j n m k i text rest t q z h utf8 rest_utf8 e nest jg it zq =
    let u = h.piece.text.now in
    let lossless = unlost n t.token (chars rest) e in
    let same : reading g n k t h ≡ kept (chars rest) =
    ap (λ (x : Token). anew g n (t.had_line_break || not k) x (chars text) (chars rest)) (unlost-made text rest t q h lossless) ∙ unchanged g n (t.had_line_break || not k) t.token (chars text) (chars rest) e in
    token-comes g j n m k i text rest u rest t q q z h (kept (chars rest)) same utf8 rest_utf8 (text-parts text rest t q h) refl refl (stays-behind text rest t q h)
    (nest ∙ ap (λ (x : TokenAndSpan). nest_settled (nest_behind n x.token)) (sym (kept-token text rest t q h lossless)))
    jg it zq

-- One turn of the loop: `first` are the comments at its beginning.

pub comment-step : (g : Goal) (n : Nest) (k : Bool) (oldest old mid new : CommentList) (first left : List Comment) (p : Place) (t : TokenAndSpan) (q : Place) (text : List ℕ) (r : IsReadAt p t q) → text ≡ r.place.rest.now
    → IsReadOn oldest first old (comments_at g n k p) → plain.IsReadOn old p mid q → comments_from g n k q.start t text ≡ left → new ≡ mid → IsReadOn oldest first new left
comment-step g n k oldest old mid new first left p t q text r e before here same list =
    read-twice oldest old new first (comments_at g n k p) left before
    (read-on old mid new (comments_at g n k p) (comments_from g n k q.start t text) left (read-to g n k old mid p t q text r e here) same list)
