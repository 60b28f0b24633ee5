-- Comments and tokens as JSON: fields of a whole behind its others (docs/ESTREE.md, "The form of a tree").
use Rattle.std.specs.Prelude.{◌≡◌, ℕ, List, [], ◌∷◌, ◌++◌, ◌<◌, ◌^◌, Option, Some, None, cond, codes, length}
use Rattle.ecma_estree_json.specs.Json as form
use Rattle.ecma_estree_json.specs.Json.{Json, Jsons, Fields}
use Rattle.ecma_estree_json.specs.Law.{AddsFields}
use Rattle.ecma_estree_json.specs.Made.{done, field, object, none, item, list, word, text}
use Rattle.ecma_estree_json.specs.Parts.{place, appended}
use Rattle.ecma_estree_lists.specs.Comments.{kind_word, comments_field}
use Rattle.ecma_estree_lists.specs.Tokens.{token_type, is_passed, value_text, hash_behind, tokens_field}
use Rattle.ecma_estree_text.specs.Places.{Placed}
use Rattle.swc_ecma_parser_common.specs.declared.comment.Comment.{Comment}
use Rattle.swc_ecma_parser_common.specs.declared.span.Span.{Span}
use Rattle.swc_ecma_parser_token.specs.declared.token.Token.{Token}
use Rattle.swc_ecma_parser_token.specs.declared.token.Token.TheVariants as token_form
use Rattle.swc_ecma_parser_token.specs.declared.token.TokenAndSpan.{TokenAndSpan}

unfoldable pub entry : Placed → (kind value : List ℕ) → (start end : ℕ) → Option Fields → Option Json
entry p kind value start end rest = object (field (codes "type") (word kind) (field (codes "value") (text value) (place p start end rest)))

-- what a regular expression has besides
unfoldable pub regex_fields : Token → Option Fields
regex_fields (token_form.Regex exp flags) = field (codes "regex") (object (field (codes "flags") (text flags) (field (codes "pattern") (text exp) done))) done
regex_fields _ = done

abbrev pub comment : Placed → Comment → Option Json
comment p c = entry p (kind_word c.kind) c.text c.span.lo.0 c.span.hi.0 done

abbrev pub all_comments : Placed → List Comment → Option Jsons
all_comments p [] = none
all_comments p (c ∷ cs) = item (comment p c) (all_comments p cs)

-- a token, behind a `#` if it is the name of one
abbrev pub token : Placed → (hash : Option Span) → TokenAndSpan → Option Json
token p None t = entry p (token_type t.token) (value_text p.text t.token t.span) t.span.lo.0 t.span.hi.0 (regex_fields t.token)
token p (Some mark) t = entry p (codes "PrivateIdentifier") (value_text p.text t.token t.span) mark.lo.0 t.span.hi.0 done

abbrev pub all_tokens : Placed → (hash : Option Span) → List TokenAndSpan → Option Jsons
all_tokens p h [] = none
all_tokens p h (t ∷ ts) = cond (is_passed t.token) (all_tokens p (hash_behind t) ts) (item (token p h t) (all_tokens p (hash_behind t) ts))

abbrev pub comments : Placed → List Comment → Option Fields
comments p cs = field (codes "comments") (list (all_comments p cs)) done

abbrev pub tokens : Placed → List TokenAndSpan → Option Fields
tokens p ts = field (codes "tokens") (list (all_tokens p None ts)) done

-- A whole may have comments, tokens, both or none: their texts add these fields.
abbrev pub ListsAreFields : Type 0
ListsAreFields =
    (p : Placed) (cs : List Comment) (ts : List TokenAndSpan) (fs gs : Fields) → length p.text < 2 ^ 63 → comments p cs ≡ Some fs → tokens p ts ≡ Some gs
    → AddsFields [] form.done × (AddsFields (comments_field p cs) fs × (AddsFields (tokens_field p ts) gs × AddsFields (comments_field p cs ++ tokens_field p ts) (appended fs gs)))
