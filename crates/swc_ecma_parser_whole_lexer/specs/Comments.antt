-- The comments of a text, the whole language being read, and those that a lexer has and will get.
use Rattle.std.specs.Prelude.{◌≡◌, ℕ, zero, suc, ◌+◌, ◌-◌, Bool, true, false, not, ◌==◌, ◌||◌, cond, length, take, List, [], ◌∷◌, ◌++◌}
use Rattle.std.specs.Char.{encode_utf8}
use Rattle.std.specs.Str.{chars, encode_utf8_all}
use Rattle.swc_ecma_parser_common.specs.declared.comment.Comment.{Comment}
use Rattle.swc_ecma_parser_common.specs.declared.span.BytePos.{BytePos}
use Rattle.swc_ecma_parser_token.specs.declared.token.TokenAndSpan.{TokenAndSpan}
use Rattle.swc_ecma_parser_scan.specs.Scan.{scan}
use Rattle.swc_ecma_parser_lexer.specs.declared.comment.CommentList.{CommentList}
use Rattle.swc_ecma_parser_lexer.specs.declared.place.Place.{Place}
use Rattle.swc_ecma_parser_lexer.specs.Collected.{piece_comments}
use Rattle.swc_ecma_parser_lexer.specs.Make.{token_of}
use Rattle.swc_ecma_parser_lexer.specs.Tokens.{breaks, is_skipped, span_at}
use Rattle.swc_ecma_parser_nesting.specs.declared.nest.Nest.{Nest}
use Rattle.swc_ecma_parser_nesting.specs.Nesting as nesting
use Rattle.swc_ecma_parser_whole_lexer.specs.declared.form.Goal.{Goal}
use Rattle.swc_ecma_parser_whole_lexer.specs.Forms.{anew, is_comment}
use Rattle.swc_ecma_parser_whole_lexer.specs.Whole.{nest_behind, nest_settled, token_at}

-- The comments of a text that starts at a position, but for those as in HTML. What stands in a token is none. So many
-- characters of what is left still belong to the piece before, and so many bytes of the text stand before what is left.
-- `is_begun`: a token stands before.
unfoldable pub comments_behind : Goal → ℕ → ℕ → ℕ → Bool → Bool → Nest → List ℕ → List Comment
comments_behind g start skip at had_line_break is_begun n [] = []
comments_behind g start (suc skip) at had_line_break is_begun n (c ∷ cs) =
    comments_behind g start skip (at + length (encode_utf8 c)) had_line_break is_begun n cs
comments_behind g start zero at had_line_break is_begun n (c ∷ cs) =
    let piece = scan (at == 0) c cs in
    let behind = at + length (encode_utf8 c) in
    let short = encode_utf8_all (c ∷ piece.taken) in
    let plain = token_of piece.state short (span_at (start + at) (length short)) in
    let read = anew g n (had_line_break || not is_begun) plain (c ∷ cs) piece.left in
    let size = length cs - length read.left in
    let t = token_at (start + at) had_line_break read.form (encode_utf8_all (c ∷ take size cs)) plain in
    let passed = nest_behind n t.token in
    cond (is_skipped piece.state)
    (piece_comments (start + at) piece.state short
    ++ comments_behind g start (length piece.taken) behind (had_line_break || breaks piece.state) is_begun n cs)
    (cond (is_comment read.form) (comments_behind g start size behind had_line_break is_begun n cs)
    (comments_behind g start size behind false true (nest_settled passed) cs))

abbrev pub comments : Goal → ℕ → ℕ → Bool → Bool → Nest → List ℕ → List Comment
comments g start at had_line_break is_begun n cs = comments_behind g start 0 at had_line_break is_begun n cs

-- the comments of a text, given by its characters
abbrev pub comments_of : Goal → ℕ → List ℕ → List Comment
comments_of g start cs = comments g start 0 false false nesting.outset cs

-- the comments behind a place
abbrev pub comments_at : Goal → Nest → Bool → Place → List Comment
comments_at g n is_begun p = comments g p.start.0 p.at p.had_line_break is_begun n (chars p.rest.now)

-- the same from a token on that stands at a position in a text
abbrev pub comments_from : Goal → Nest → Bool → BytePos → TokenAndSpan → List ℕ → List Comment
comments_from g n is_begun start t text = comments g start.0 (t.span.lo.0 - start.0) t.had_line_break is_begun n (chars text)

-- the comments of a list, and those that it gets
abbrev pub collected : CommentList → List Comment → List Comment
collected list behind = list.comments.items ++ cond list.is_wanted behind []

-- A list before some comments, and the list before those that are left of them: none is missed, none comes twice, or a loss
-- is told.
pub record IsReadOn (old : CommentList) (before : List Comment) (new : CommentList) (behind : List Comment) : Type 0 where
  pub comments : new.is_lossy ≡ false → collected old before ≡ collected new behind
  pub lossy : new.is_lossy ≡ false → old.is_lossy ≡ false
  pub unwanted : old.is_wanted ≡ false → new.is_lossy ≡ old.is_lossy
  pub wanted : new.is_wanted ≡ old.is_wanted
