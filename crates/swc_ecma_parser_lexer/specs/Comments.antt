-- The comments that a lexer keeps.
use Rattle.std.specs.Prelude.{◌≡◌, ℕ, ◌-◌, Bool, true, false, length, take, List, [], ◌∷◌, ◌++◌, Option, Some, None}
use Rattle.std.specs.Str.{chars, encode_utf8_all}
use Rattle.swc_ecma_parser_common.specs.declared.comment.Comment.{Comment}
use Rattle.swc_ecma_parser_common.specs.declared.comment.CommentKind.TheVariants as kind
use Rattle.swc_ecma_parser_common.specs.declared.span.Span.{Span}
use Rattle.swc_ecma_parser_scan.specs.declared.state.State.{State}
use Rattle.swc_ecma_parser_scan.specs.declared.state.State.TheVariants as state
use Rattle.swc_ecma_parser_lexer.specs.declared.comment.CommentList.{CommentList}
use Rattle.swc_ecma_parser_lexer.specs.Make.{behind_mark}

unfoldable pub before_last : List ℕ → List ℕ
before_last text = encode_utf8_all (take (length (chars text) - 1) (chars text))

-- the text between the marks of a block comment: each has two characters
unfoldable pub inner_text : List ℕ → List ℕ
inner_text comment = before_last (before_last (behind_mark comment))

-- the comment that a piece is, if it is one
unfoldable pub comment_of : State → List ℕ → Span → Option Comment
comment_of state.LineComment text span = Some (record { kind = kind.Line; span = span; text = behind_mark text })
comment_of (state.BlockCommentEnd breaks) text span = Some (record { kind = kind.Block; span = span; text = inner_text text })
comment_of _ text span = None

pub record IsSameList (a : CommentList) (b : CommentList) : Type 0 where
  pub comments : a.comments.items ≡ b.comments.items
  pub wanted : a.is_wanted ≡ b.is_wanted
  pub lossy : a.is_lossy ≡ b.is_lossy

-- what a piece adds to the comments of a list, which wants them or not
abbrev pub gained : Bool → Option Comment → List Comment
gained true (Some c) = c ∷ []
gained true None = []
gained false found = []

-- A list with what a piece adds, or with a loss told: memory runs out for comments alone.
pub record IsNoted (old : CommentList) (found : Option Comment) (new : CommentList) : Type 0 where
  pub comments : new.is_lossy ≡ false → new.comments.items ≡ old.comments.items ++ gained old.is_wanted found
  pub lossy : new.is_lossy ≡ false → old.is_lossy ≡ false
  pub kept : gained old.is_wanted found ≡ [] → new.is_lossy ≡ old.is_lossy
  pub wanted : new.is_wanted ≡ old.is_wanted
