-- What a text reads as, from where its parts end.
use Rattle.std.proofs.Common.{◌≡◌, ℕ, ◌-◌, ◌≤◌, ◌++◌, length-append, arith, take, Bool, true, false, cond, length, List, Option, Some, None, ap, sym, ◌∙◌}
use Rattle.std.proofs.lemmas.Str.{chars-append, encodes-append, encodes-chars}
use Rattle.std.proofs.Math.Seq.{take-append_seam}
use Rattle.std.specs.Str.{chars, encode_utf8_all, IsUtf8}
use Rattle.swc_ecma_parser_lexer.specs.declared.escape.Escape.TheVariants as escape
use Rattle.swc_ecma_parser_whole_lexer.specs.declared.form.Form.TheVariants as form
use Rattle.swc_ecma_parser_whole_lexer.specs.declared.regex.Body.TheVariants as body
use Rattle.swc_ecma_parser_whole_lexer.specs.declared.run.Class.TheVariants as class
use Rattle.swc_ecma_parser_whole_lexer.specs.Forms.{behind_first, ended_at, first_of, kept, name, old_number, old_string, part_to, regex, regex_to, template}
use Rattle.swc_ecma_parser_whole_lexer.specs.Names as names
use Rattle.swc_ecma_parser_whole_lexer.specs.Old.{is_old_string, past_old_number}
use Rattle.swc_ecma_parser_whole_lexer.specs.declared.old.Old.TheVariants as old
use Rattle.swc_ecma_parser_whole_lexer.specs.Regex.{past_body}
use Rattle.swc_ecma_parser_whole_lexer.specs.Runs.{behind, past}
use Rattle.swc_ecma_parser_whole_lexer.specs.Templates.{End, past_part}
use Rattle.swc_ecma_parser_whole_lexer.proofs.Suffixes.{body-suffix}

regex-by : (cs inner left : List ℕ) (o : Option (List ℕ)) → inner ≡ behind cs → past_body body.Open inner ≡ o → regex cs left ≡ regex_to inner o left
unfolding regex
regex-by cs inner left o e f = ap (λ xs. regex_to xs (past_body body.Open xs) left) (sym e) ∙ ap (λ x. regex_to inner x left) f

pub regex-closed : (cs inner end left : List ℕ) → chars inner ≡ behind cs → IsUtf8 inner → past_body body.Open (chars inner) ≡ Some (chars end) → IsUtf8 end
    → regex cs left ≡ record { form = form.Regex (length inner - length end); left = past class.NamePart (behind (chars end)) }
regex-closed cs inner end left e u f v =
    regex-by cs (chars inner) left (Some (chars end)) e f
    ∙ ap (λ xs. record { form = form.Regex (length xs - length (encode_utf8_all (chars end))); left = past class.NamePart (behind (chars end)) }) (encodes-chars inner u)
    ∙ ap (λ xs. record { form = form.Regex (length inner - length xs); left = past class.NamePart (behind (chars end)) }) (encodes-chars end v)

pub regex-open : (cs inner left : List ℕ) → inner ≡ behind cs → past_body body.Open inner ≡ None → regex cs left ≡ record { form = form.OpenRegex; left = left }
regex-open cs inner left e f = regex-by cs inner left None e f

pub template-by : (is_first : Bool) (cs inner left : List ℕ) (o : Option End) → inner ≡ behind cs → past_part false inner ≡ o → template is_first cs left ≡ part_to is_first o left
unfolding template
template-by is_first cs inner left o e f = ap (λ xs. part_to is_first (past_part false xs) left) (sym e) ∙ ap (λ x. part_to is_first x left) f

pub name-by : (cs left : List ℕ) (o : Option (List ℕ)) → names.past_name true escape.Text cs ≡ o → name cs left ≡ ended_at form.EscapedName o left
unfolding name
name-by cs left o e = ap (λ x. ended_at form.EscapedName x left) e

pub number-by : (cs left : List ℕ) (o : Option (List ℕ)) → past_old_number cs ≡ o → old_number cs left ≡ ended_at form.OldNumber o left
unfolding old_number
number-by cs left o e = ap (λ x. ended_at form.OldNumber x left) e

-- the body of a regular expression is no longer than what it is read from
pub body-longer : (inner end : List ℕ) → IsUtf8 inner → IsUtf8 end → past_body body.Open (chars inner) ≡ Some (chars end) → length end ≤ length inner
body-longer inner end u v e =
    let h = body-suffix body.Open (chars inner) (chars end) e in
    let bytes : inner ≡ encode_utf8_all h.taken ++ end =
    sym (encodes-chars inner u) ∙ ap encode_utf8_all h.parts ∙ encodes-append h.taken (chars end) ∙ ap (λ xs. encode_utf8_all h.taken ++ xs) (encodes-chars end v) in
    omega (arith, ap length bytes, length-append (encode_utf8_all h.taken) end)

-- the bytes behind the first character
pub behind-bytes : (text r : List ℕ) → chars r ≡ behind (chars text) → IsUtf8 r → behind_first text ≡ r
behind-bytes text r e u = ap encode_utf8_all (sym e) ∙ encodes-chars r u

-- the characters before a rest
pub before-chars : (text u rest : List ℕ) → IsUtf8 u → text ≡ u ++ rest → take (length (chars text) - length (chars rest)) (chars text) ≡ chars u
before-chars text u rest v e =
    let all : chars text ≡ chars u ++ chars rest = ap chars e ∙ chars-append u rest v in
    let size : length (chars text) - length (chars rest) ≡ length (chars u) = omega (arith, ap length all, length-append (chars u) (chars rest)) in
    ap (λ m. take m (chars text)) size ∙ ap (take (length (chars u))) all ∙ take-append_seam (chars u) (chars rest)

pub string-by : (cs left part : List ℕ) (quote : ℕ) (v : Bool) → quote ≡ first_of cs → take (length cs - length left) cs ≡ part → is_old_string quote (old.Plain escape.Text) part ≡ v
    → old_string cs left ≡ cond v (record { form = form.OldString quote; left = left }) (kept left)
unfolding old_string
string-by cs left part quote v q e f =
    ap (λ m. cond (is_old_string m (old.Plain escape.Text) (take (length cs - length left) cs)) (record { form = form.OldString m; left = left }) (kept left)) (sym q)
    ∙ ap (λ xs. cond (is_old_string quote (old.Plain escape.Text) xs) (record { form = form.OldString quote; left = left }) (kept left)) e
    ∙ ap (λ x. cond x (record { form = form.OldString quote; left = left }) (kept left)) f
