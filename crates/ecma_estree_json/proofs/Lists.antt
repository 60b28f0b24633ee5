-- Comments and tokens are read as fields.
use Rattle.std.proofs.Common.{◌≡◌, ℕ, zero, suc, List, [], ◌∷◌, ◌++◌, ◌+◌, ◌*◌, ◌<◌, ◌≤◌, ◌^◌, Bool, true, false, ◌&&◌, cond, Option, Some, None, arith, refl, ap, sym, ◌∙◌, subst, append_assoc, length-append, codes, decimal, length}
use Rattle.std.specs.List.{flat_map}
use Rattle.std.specs.Str.{bytes_eq}
use Rattle.ecma_estree_json.specs.Json as form
use Rattle.ecma_estree_json.specs.Json.{Json, Jsons, Fields}
use Rattle.ecma_estree_json.specs.Law.{AddsFields}
use Rattle.ecma_estree_json.specs.Lists.{entry, regex_fields, comment, all_comments, token, all_tokens, comments, tokens, ListsAreFields}
use Rattle.ecma_estree_json.specs.Made.{done, field, object, none, item, list, word, text}
use Rattle.ecma_estree_json.specs.Parts.{appended}
use Rattle.ecma_estree_json.specs.Reading.{first, more_fields, fields}
use Rattle.ecma_estree_json.proofs.Chars.{all_simple}
use Rattle.ecma_estree_json.proofs.Numbers.{stops}
use Rattle.ecma_estree_json.proofs.Values.{Value, Spells, Leaves, Opens, Continues, text_spells}
use Rattle.ecma_estree_json.proofs.Objects.{whole, named_text, named_long, named_onto, fields_step, field_leaves, inner_leaves, end_leaves, object_starts, none_opens, none_continues, item_opens, item_continues, list_starts}
use Rattle.ecma_estree_json.proofs.Pieces.{Listed, none_listed, starts_at, spells_at, leaves_at, quoted_spells, type_leaves, place_leaves, stop_of}
use Rattle.ecma_estree_lists.specs.Comments.{kind_word, comment_text, next_comment, comment_list, comments_field}
use Rattle.ecma_estree_lists.specs.Tokens.{keyword_type, name_type, word_type, token_type, is_passed, value_text, regex_field, token_head, token_tail, written, token_text, comma, step_text, is_first_behind, hash_behind, token_list, tokens_field}
use Rattle.ecma_estree_text.specs.Places.{Placed, offset, loc_text, range_text, place_fields}
use Rattle.ecma_estree_text.specs.Quoted.{quoted, wrapped}
use Rattle.swc_ecma_parser_common.specs.declared.comment.Comment.{Comment}
use Rattle.swc_ecma_parser_common.specs.declared.comment.CommentKind.{CommentKind}
use Rattle.swc_ecma_parser_common.specs.declared.comment.CommentKind.TheVariants as kind
use Rattle.swc_ecma_parser_common.specs.declared.span.Span.{Span}
use Rattle.swc_ecma_parser_token.specs.declared.keyword.Keyword.{Keyword}
use Rattle.swc_ecma_parser_token.specs.declared.keyword.Keyword.TheVariants as keyword
use Rattle.swc_ecma_parser_token.specs.declared.token.Token.{Token}
use Rattle.swc_ecma_parser_token.specs.declared.token.Token.TheVariants as token_form
use Rattle.swc_ecma_parser_token.specs.declared.token.TokenAndSpan.{TokenAndSpan}
use Rattle.swc_ecma_parser_token.specs.declared.token.Word.{Word}
use Rattle.swc_ecma_parser_token.specs.declared.token.Word.TheVariants as word_form

-- ---- one comment or token

-- what stands behind the value
abbrev behind_value : Placed → (a b : ℕ) → (more : List ℕ) → List ℕ
behind_value p a b more =
    codes ",\"start\":" ++ (decimal (offset p.text a) ++ (codes ",\"end\":" ++ (decimal (offset p.text b)
    ++ (cond p.has_locations (loc_text p a b) [] ++ (cond p.has_ranges (range_text p a b) [] ++ (more ++ codes "}"))))))

abbrev entry_text : Placed → (kind value : List ℕ) → (a b : ℕ) → (more : List ℕ) → List ℕ
entry_text p kind value a b more = codes "{\"type\":\"" ++ (kind ++ 34 ∷ (codes ",\"value\":" ++ (wrapped value ++ behind_value p a b more)))

entry_spells : (p : Placed) (kind value : List ℕ) (a b : ℕ) (more : List ℕ) {rest : Option Fields} → length p.text < 2 ^ 63 → all_simple kind ≡ true
    → Leaves (more ++ codes "}") rest [] → Spells (entry_text p kind value a b more) (entry p kind value a b rest)
unfolding entry
entry_spells p kind value a b more h k l =
    whole (object_starts (type_leaves kind k (field_leaves (codes "value") refl (text_spells value) (place_leaves p a b h l))))

regex_layout : (exp flags : List ℕ) → (codes ",\"regex\":{\"flags\":" ++ (quoted flags ++ (codes ",\"pattern\":" ++ (quoted exp ++ codes "}")))) ++ codes "}"
    ≡ codes ",\"regex\":{\"flags\":" ++ (quoted flags ++ (codes ",\"pattern\":" ++ (quoted exp ++ codes "}}")))
regex_layout exp flags = simp append_assoc

regex_leaves : (t : Token) → Leaves (regex_field t ++ codes "}") (regex_fields t) []
unfolding regex_field regex_fields
regex_leaves (token_form.Regex exp flags) =
    leaves_at (regex_layout exp flags) (inner_leaves (codes "regex") refl (object_starts (field_leaves (codes "flags") refl (quoted_spells flags)
    (field_leaves (codes "pattern") refl (quoted_spells exp) end_leaves))) end_leaves)
regex_leaves _ = end_leaves

comment_layout : (p : Placed) (c : Comment) → comment_text p c ≡ entry_text p (kind_word c.kind) c.text c.span.lo.0 c.span.hi.0 []
unfolding place_fields quoted
comment_layout p c = simp append_assoc

written_layout : (p : Placed) (kind value : List ℕ) (a b : ℕ) (more : List ℕ) → written p kind value a b more ≡ entry_text p kind value a b more
unfolding written token_head token_tail place_fields
written_layout p kind value a b more = simp append_assoc

kind_simple : (k : CommentKind) → all_simple (kind_word k) ≡ true
unfolding kind_word
kind_simple kind.Line = refl
kind_simple kind.Block = refl

comment_spells : (p : Placed) (c : Comment) → length p.text < 2 ^ 63 → Spells (comment_text p c) (comment p c)
comment_spells p c h = spells_at (comment_layout p c) (entry_spells p (kind_word c.kind) c.text c.span.lo.0 c.span.hi.0 [] h (kind_simple c.kind) end_leaves)

keyword_simple : (k : Keyword) → all_simple (keyword_type k) ≡ true
unfolding keyword_type
keyword_simple keyword.Await = refl
keyword_simple _ = refl

either_simple : (b : Bool) → all_simple (cond b (codes "Keyword") (codes "Identifier")) ≡ true
either_simple true = refl
either_simple false = refl

name_simple : (bs : List ℕ) → all_simple (name_type bs) ≡ true
unfolding name_type
name_simple bs = either_simple (bytes_eq bs (codes "static"))

word_simple : (w : Word) → all_simple (word_type w) ≡ true
unfolding word_type
word_simple (word_form.Keyword k) = keyword_simple k
word_simple word_form.Null = refl
word_simple word_form.True = refl
word_simple word_form.False = refl
word_simple (word_form.Ident bs) = name_simple bs
word_simple (word_form.Escaped bs) = name_simple bs

type_simple : (t : Token) → all_simple (token_type t) ≡ true
unfolding token_type
type_simple (token_form.Word w) = word_simple w
type_simple _ = refl

token_spells : (p : Placed) (hash : Option Span) (t : TokenAndSpan) → length p.text < 2 ^ 63 → Spells (token_text p hash t) (token p hash t)
token_spells p None t h =
    spells_at (written_layout p (token_type t.token) (value_text p.text t.token t.span) t.span.lo.0 t.span.hi.0 (regex_field t.token))
    (entry_spells p (token_type t.token) (value_text p.text t.token t.span) t.span.lo.0 t.span.hi.0 (regex_field t.token) h (type_simple t.token) (regex_leaves t.token))
token_spells p (Some mark) t h =
    spells_at (written_layout p (codes "PrivateIdentifier") (value_text p.text t.token t.span) mark.lo.0 t.span.hi.0 [])
    (entry_spells p (codes "PrivateIdentifier") (value_text p.text t.token t.span) mark.lo.0 t.span.hi.0 [] h refl end_leaves)

-- ---- all of them

further_comments : (p : Placed) (cs : List Comment) → length p.text < 2 ^ 63 → Continues (flat_map (next_comment p) cs) (all_comments p cs)
further_comments p [] h = none_continues
further_comments p (c ∷ cs) h = item_continues (comment_spells p c h) (further_comments p cs h)

comments_open : (p : Placed) (cs : List Comment) → length p.text < 2 ^ 63 → Opens (comment_list p cs) (all_comments p cs)
comments_open p [] h = none_opens
comments_open p (c ∷ cs) h = item_opens (comment_spells p c h) (further_comments p cs h)

step_listed : (is_first passed : Bool) {xs ys : List ℕ} {o : Option Json} {q : Option Jsons} → Spells xs o → Listed (is_first && passed) ys q
    → Listed is_first (cond passed [] (comma is_first ++ xs) ++ ys) (cond passed q (item o q))
step_listed true true a b = b
step_listed false true a b = b
step_listed true false a b = record { opens = λ e. item_opens a (b.continues refl); continues = λ e. cc }
step_listed false false a b = record { opens = λ e. cc; continues = λ e. item_continues a (b.continues refl) }

tokens_listed : (p : Placed) (is_first : Bool) (hash : Option Span) (ts : List TokenAndSpan) → length p.text < 2 ^ 63
    → Listed is_first (token_list p is_first hash ts) (all_tokens p hash ts)
tokens_listed p f hash [] h = none_listed f
tokens_listed p f hash (t ∷ ts) h =
    step_listed f (is_passed t.token) (token_spells p hash t h) (tokens_listed p (is_first_behind f t) (hash_behind t) ts h)

-- ---- as fields

one_added : (word xs : List ℕ) (v : Json) → all_simple word ≡ true → Value xs v → (gs : Fields) (rest more : List ℕ) (k : ℕ)
    → ((n : ℕ) → k ≤ n + 1 → more_fields (suc n) rest ≡ first gs more)
    → (n : ℕ) → 2 * length (44 ∷ named_text word xs) + k ≤ n + 1 → fields n (named_text word xs ++ rest) ≡ first (form.named word v gs) more
one_added word xs v h a gs rest more k f zero l = absurd (omega (arith, named_long word xs))
one_added word xs v h a gs rest more k f (suc zero) l = absurd (omega (arith, named_long word xs))
one_added word xs v h a gs rest more k f (suc (suc n)) l =
    let here : 2 * length xs ≤ n + 1 = omega (arith, named_long word xs) in
    let there : k ≤ n + 1 = omega (arith, named_long word xs) in
    let behind : more_fields (suc n) rest ≡ first gs more = f n there in
    ap (fields (suc (suc n))) (named_onto word xs rest)
    ∙ fields_step (suc n) word (xs ++ rest) v rest gs more h (a.reads n rest here (stop_of rest n gs more behind)) behind

value_added : (word xs : List ℕ) (v : Json) → all_simple word ≡ true → Value xs v → AddsFields (44 ∷ named_text word xs) (form.named word v form.done)
value_added word xs v h a = record { adds = λ gs rest more k f n l. one_added word xs v h a gs rest more k f n l }

some_same : (x y : Fields) → Some x ≡ Some y → x ≡ y
some_same x y h = cc

field_added : (word xs : List ℕ) (o : Option Json) (fs : Fields) → all_simple word ≡ true → Spells xs o → field word o done ≡ Some fs → AddsFields (44 ∷ named_text word xs) fs
unfolding field done
field_added word xs None fs h a e = cc
field_added word xs (Some v) fs h a e = subst (AddsFields (44 ∷ named_text word xs)) (some_same (form.named word v form.done) fs e) (value_added word xs v h (a.is v refl))

appended_on : (fs gs hs : Fields) → appended (appended fs gs) hs ≡ appended fs (appended gs hs)
appended_on form.done gs hs = refl
appended_on (form.named word v fs) gs hs = ap (form.named word v) (appended_on fs gs hs)

none_added : AddsFields [] form.done
none_added = record { adds = λ gs rest more k f n l. f n (omega arith) }

both_added : (xs ys : List ℕ) (fs gs : Fields) → AddsFields xs fs → AddsFields ys gs → AddsFields (xs ++ ys) (appended fs gs)
both_added xs ys fs gs a b = record {
  adds = λ hs rest more k f n l.
      ap (more_fields (suc n)) (append_assoc xs ys rest)
      ∙ a.adds (appended gs hs) (ys ++ rest) more (2 * length ys + k) (λ m g. b.adds hs rest more k f m g) n (omega (arith, length-append xs ys))
      ∙ ap (λ us. first us more) (sym (appended_on fs gs hs));
}

list_spells : {xs : List ℕ} {p : Option Jsons} → Opens xs p → Spells (91 ∷ (xs ++ 93 ∷ [])) (list p)
list_spells a = whole (list_starts a)

comments_added : (p : Placed) (cs : List Comment) (fs : Fields) → length p.text < 2 ^ 63 → comments p cs ≡ Some fs → AddsFields (comments_field p cs) fs
unfolding comments_field
comments_added p cs fs h e = field_added (codes "comments") (91 ∷ (comment_list p cs ++ 93 ∷ [])) (list (all_comments p cs)) fs refl (list_spells (comments_open p cs h)) e

tokens_added : (p : Placed) (ts : List TokenAndSpan) (gs : Fields) → length p.text < 2 ^ 63 → tokens p ts ≡ Some gs → AddsFields (tokens_field p ts) gs
unfolding tokens_field
tokens_added p ts gs h e =
    field_added (codes "tokens") (91 ∷ (token_list p true None ts ++ 93 ∷ [])) (list (all_tokens p None ts)) gs refl (list_spells ((tokens_listed p true None ts h).opens refl)) e

pub lists_are_fields : ListsAreFields
lists_are_fields p cs ts fs gs h e f =
    let a = comments_added p cs fs h e in
    let b = tokens_added p ts gs h f in
    (none_added, (a, (b, both_added (comments_field p cs) (tokens_field p ts) fs gs a b)))
