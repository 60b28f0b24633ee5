-- Comments and tokens are no nodes.
use Rattle.std.proofs.Common.{◌≡◌, ℕ, List, [], ◌∷◌, ◌++◌, Bool, true, false, cond, Option, Some, None, refl, ap, ap₂, sym, ◌∙◌, append_assoc, codes, decimal}
use Rattle.std.specs.List.{flat_map}
use Rattle.std.specs.Str.{bytes_eq}
use Rattle.ecma_estree_lists.specs.Comments.{kind_word, comment_text, next_comment, comment_list, comments_field}
use Rattle.ecma_estree_lists.specs.Tokens.{keyword_type, name_type, word_type, token_type, is_passed, value_text, regex_field, token_head, token_tail, written, token_text, comma, step_text, is_first_behind, hash_behind, token_list, tokens_field}
use Rattle.ecma_estree_nodes.specs.Law.{ListsAreQuiet}
use Rattle.ecma_estree_nodes.specs.Reading.{IsQuiet, behind, named, started, inside, read_from, read}
use Rattle.ecma_estree_nodes.proofs.Pieces.{Reads, skip, neither, none_read, fixed, further_read, to_quote_word, from_quote_word, calm_read, quoted_mark, as_read}
use Rattle.ecma_estree_nodes.proofs.Scan.{all_calm, calm_inside, decimal_calm, wrapped_read}
use Rattle.ecma_estree_text.specs.Places.{Placed, offset, place_fields}
use Rattle.ecma_estree_text.specs.Quoted.{quoted, wrapped}
use Rattle.swc_ecma_parser_common.specs.declared.comment.Comment.{Comment}
use Rattle.swc_ecma_parser_common.specs.declared.comment.CommentKind.{CommentKind}
use Rattle.swc_ecma_parser_common.specs.declared.comment.CommentKind.TheVariants as kind
use Rattle.swc_ecma_parser_common.specs.declared.span.Span.{Span}
use Rattle.swc_ecma_parser_token.specs.declared.keyword.Keyword.{Keyword}
use Rattle.swc_ecma_parser_token.specs.declared.keyword.Keyword.TheVariants as keyword
use Rattle.swc_ecma_parser_token.specs.declared.token.Token.{Token}
use Rattle.swc_ecma_parser_token.specs.declared.token.Token.TheVariants as token
use Rattle.swc_ecma_parser_token.specs.declared.token.TokenAndSpan.{TokenAndSpan}
use Rattle.swc_ecma_parser_token.specs.declared.token.Word.{Word}
use Rattle.swc_ecma_parser_token.specs.declared.token.Word.TheVariants as word

-- what is read in one way is read so in another
same : {xs ys : List ℕ} → ys ≡ xs → Reads xs [] → Reads ys []
same e a = record { reads = λ rest. ap (λ zs. read (zs ++ rest)) e ∙ a.reads rest }

-- ---- an object whose second field is its value

-- what stands behind the word of its kind
abbrev tail_of : (xs rest : List ℕ) → List ℕ
tail_of xs rest = codes ",\"value\":" ++ (xs ++ rest)

unopened : (kind xs rest : List ℕ) → all_calm kind ≡ true → named (Some ((kind ++ (codes "\",\"value\":" ++ xs)) ++ rest)) ≡ []
unopened kind xs rest w =
    ap (λ r. named (Some r)) (append_assoc kind (codes "\",\"value\":" ++ xs) rest)
    ∙ ap₂ (λ k r. started k (behind (codes "\",\"start\":") r)) (to_quote_word kind (tail_of xs rest) w) (from_quote_word kind (tail_of xs rest) w)

passed : (kind xs rest : List ℕ) → all_calm kind ≡ true → read_from inside ((kind ++ (codes "\",\"value\":" ++ xs)) ++ rest) ≡ read (xs ++ rest)
passed kind xs rest w =
    ap (read_from inside) (append_assoc kind (codes "\",\"value\":" ++ xs) rest) ∙ calm_inside kind (codes "\",\"value\":" ++ (xs ++ rest)) w

object_read : (kind xs : List ℕ) → all_calm kind ≡ true → Reads xs [] → Reads (codes "{\"type\":\"" ++ (kind ++ (codes "\",\"value\":" ++ xs))) []
object_read kind xs w x = record { reads = λ rest. ap₂ (λ a b. a ++ b) (unopened kind xs rest w) (passed kind xs rest w ∙ x.reads rest) }

-- ---- its place

decimal_read : (n : ℕ) → Reads (decimal n) []
decimal_read n = calm_read (decimal n) (decimal_calm n)

place_read : (p : Placed) (a b : ℕ) → Reads (place_fields p a b) []
unfolding place_fields
place_read p a b =
    skip (fixed (codes "\"start\":") (λ rest. refl)) (skip (decimal_read (offset p.text a))
    (skip (fixed (codes ",\"end\":") (λ rest. refl)) (skip (decimal_read (offset p.text b)) (further_read p a b))))

tail_read : (p : Placed) (a b : ℕ) → Reads (codes "," ++ (place_fields p a b ++ codes "}")) []
tail_read p a b = skip (fixed (codes ",") (λ rest. refl)) (skip (place_read p a b) (fixed (codes "}") (λ rest. refl)))

-- ---- comments

kind_calm : (k : CommentKind) → all_calm (kind_word k) ≡ true
unfolding kind_word
kind_calm kind.Line = refl
kind_calm kind.Block = refl

comment_read : (p : Placed) (c : Comment) → Reads (comment_text p c) []
comment_read p c = object_read (kind_word c.kind) _ (kind_calm c.kind) (skip (quoted_mark c.text).quiet (tail_read p c.span.lo.0 c.span.hi.0))

next_read : (p : Placed) (c : Comment) → Reads (next_comment p c) []
next_read p c = skip (fixed (codes ",") (λ rest. refl)) (comment_read p c)

nexts_read : (p : Placed) (cs : List Comment) → Reads (flat_map (next_comment p) cs) []
nexts_read p [] = none_read
nexts_read p (c ∷ cs) = skip (next_read p c) (nexts_read p cs)

comments_read : (p : Placed) (cs : List Comment) → Reads (comment_list p cs) []
comments_read p [] = none_read
comments_read p (c ∷ cs) = skip (comment_read p c) (nexts_read p cs)

pub comments_field_read : (p : Placed) (cs : List Comment) → Reads (comments_field p cs) []
unfolding comments_field
comments_field_read p cs = skip (fixed (codes ",\"comments\":[") (λ rest. refl)) (skip (comments_read p cs) (fixed (codes "]") (λ rest. refl)))

-- ---- tokens

keyword_calm : (k : Keyword) → all_calm (keyword_type k) ≡ true
unfolding keyword_type
keyword_calm keyword.Await = refl
keyword_calm _ = refl

either_calm : (b : Bool) → all_calm (cond b (codes "Keyword") (codes "Identifier")) ≡ true
either_calm true = refl
either_calm false = refl

name_calm : (text : List ℕ) → all_calm (name_type text) ≡ true
unfolding name_type
name_calm text = either_calm (bytes_eq text (codes "static"))

word_calm : (w : Word) → all_calm (word_type w) ≡ true
unfolding word_type
word_calm (word.Keyword k) = keyword_calm k
word_calm word.Null = refl
word_calm word.True = refl
word_calm word.False = refl
word_calm (word.Ident text) = name_calm text
word_calm (word.Escaped text) = name_calm text

type_calm : (t : Token) → all_calm (token_type t) ≡ true
unfolding token_type
type_calm (token.Word w) = word_calm w
type_calm _ = refl

regex_read : (t : Token) → Reads (regex_field t) []
unfolding regex_field
regex_read (token.Regex exp flags) =
    skip (fixed (codes ",\"regex\":{\"flags\":") (λ rest. refl)) (skip (quoted_mark flags).quiet
    (skip (fixed (codes ",\"pattern\":") (λ rest. refl)) (skip (quoted_mark exp).quiet (fixed (codes "}") (λ rest. refl)))))
regex_read _ = none_read

written_read : (p : Placed) (kind value : List ℕ) (low high : ℕ) (more : List ℕ) → all_calm kind ≡ true → Reads more [] → Reads (written p kind value low high more) []
unfolding written token_head token_tail
written_read p kind value low high more w m =
    same (ap (λ r. codes "{\"type\":\"" ++ r) (append_assoc kind (codes "\",\"value\":") (wrapped value ++ (codes "," ++ (place_fields p low high ++ (more ++ codes "}"))))))
    (object_read kind (wrapped value ++ (codes "," ++ (place_fields p low high ++ (more ++ codes "}")))) w
    (skip (fixed (wrapped value) (wrapped_read value)) (skip (fixed (codes ",") (λ rest. refl)) (skip (place_read p low high) (skip m (fixed (codes "}") (λ rest. refl)))))))

token_read : (p : Placed) (hash : Option Span) (t : TokenAndSpan) → Reads (token_text p hash t) []
token_read p None t = written_read p (token_type t.token) (value_text p.text t.token t.span) t.span.lo.0 t.span.hi.0 (regex_field t.token) (type_calm t.token) (regex_read t.token)
token_read p (Some mark) t = written_read p (codes "PrivateIdentifier") (value_text p.text t.token t.span) mark.lo.0 t.span.hi.0 [] refl none_read

comma_read : (is_first : Bool) → Reads (comma is_first) []
comma_read true = none_read
comma_read false = fixed (codes ",") (λ rest. refl)

step_read : (p : Placed) (is_first : Bool) (hash : Option Span) (t : TokenAndSpan) → Reads (step_text p is_first hash t) []
step_read p f h t = neither (is_passed t.token) none_read (skip (comma_read f) (token_read p h t))

tokens_read : (p : Placed) (is_first : Bool) (hash : Option Span) (ts : List TokenAndSpan) → Reads (token_list p is_first hash ts) []
tokens_read p f h [] = none_read
tokens_read p f h (t ∷ ts) = skip (step_read p f h t) (tokens_read p (is_first_behind f t) (hash_behind t) ts)

pub tokens_field_read : (p : Placed) (ts : List TokenAndSpan) → Reads (tokens_field p ts) []
unfolding tokens_field
tokens_field_read p ts = skip (fixed (codes ",\"tokens\":[") (λ rest. refl)) (skip (tokens_read p true None ts) (fixed (codes "]") (λ rest. refl)))

-- ---- the law

quiet : {xs : List ℕ} → Reads xs [] → IsQuiet xs
quiet {xs} a =
    let none : read xs ≡ [] = as_read a in
    record { closed = record { closes = λ rest. a.reads rest ∙ ap (λ ms. ms ++ read rest) (sym none) }; no_nodes = none }

pub lists_quiet : ListsAreQuiet
lists_quiet p cs ts =
    (quiet none_read, (quiet (comments_field_read p cs), (quiet (tokens_field_read p ts), quiet (skip (comments_field_read p cs) (tokens_field_read p ts)))))
