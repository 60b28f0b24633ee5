-- The marks of regular expressions and of parts of templates stand where they are cut.
use Rattle.std.proofs.Common.{◌≡◌, ℕ, ◌+◌, ◌-◌, ◌<◌, Bool, true, false, not, ◌&&◌, ◌||◌, ◌==◌, cond, take, length, List, [], ◌∷◌, ◌++◌, Option, Some, None, refl, ap, sym, ◌∙◌, subst, append_assoc, arith, length-append, get_or}
use Rattle.std.proofs.Math.Seq.{get_or-append_seam}
use Rattle.std.proofs.lemmas.Bool.{true≢false, eqb-true}
use Rattle.std.proofs.lemmas.Str.{IsCharBoundary-before_ascii, encode_ascii, encodes-append}
use Rattle.std.specs.Str.{chars, encode_utf8_all, IsCharBoundary}
use Rattle.swc_ecma_parser_error.specs.declared.kind.SyntaxError.{SyntaxError}
use Rattle.swc_ecma_parser_error.specs.declared.kind.SyntaxError.TheVariants as kind
use Rattle.swc_ecma_parser_token.specs.declared.operator.AssignOp.TheVariants as assign
use Rattle.swc_ecma_parser_token.specs.declared.operator.BinOpToken.TheVariants as bin
use Rattle.swc_ecma_parser_token.specs.declared.token.Token.{Token}
use Rattle.swc_ecma_parser_token.specs.declared.token.Token.TheVariants as token
use Rattle.swc_ecma_parser_scan.specs.Chars.{is_line_break}
use Rattle.swc_ecma_parser_lexer.specs.declared.escape.Escape.TheVariants as escape
use Rattle.swc_ecma_parser_nesting.specs.declared.nest.Nest.{Nest}
use Rattle.swc_ecma_parser_nesting.specs.Nesting.{begins_private_operand, begins_regex, ends_substitution, is_behind_new}
use Rattle.swc_ecma_parser_whole_lexer.specs.declared.form.Form.{Form}
use Rattle.swc_ecma_parser_whole_lexer.specs.declared.form.Form.TheVariants as form
use Rattle.swc_ecma_parser_whole_lexer.specs.declared.form.Goal.{Goal}
use Rattle.swc_ecma_parser_whole_lexer.specs.declared.regex.Body.{Body}
use Rattle.swc_ecma_parser_whole_lexer.specs.declared.regex.Body.TheVariants as body
use Rattle.swc_ecma_parser_whole_lexer.specs.declared.run.Class.TheVariants as class
use Rattle.swc_ecma_parser_whole_lexer.specs.Forms.{Reading, anew, behind_first, comment, ended_at, fault_anew, is_script, kept, name, old_number, old_string, only, opens_comment, part_to, question_dot, regex, regex_to, template, Fits, FitsPart, FitsRegex}
use Rattle.swc_ecma_parser_whole_lexer.specs.Names as names
use Rattle.swc_ecma_parser_whole_lexer.specs.Old.{is_old_string, past_old_number}
use Rattle.swc_ecma_parser_whole_lexer.specs.declared.old.Old.TheVariants as old
use Rattle.swc_ecma_parser_whole_lexer.specs.Regex.{body_behind, is_end, past_body}
use Rattle.swc_ecma_parser_whole_lexer.specs.Runs.{begins_with, behind, is_ahead, past}
use Rattle.swc_ecma_parser_whole_lexer.specs.Templates.{End, ends_part, past_part}
use Rattle.swc_ecma_parser_whole_lexer.proofs.Lists.{size_of, suffix-taken}
use Rattle.swc_ecma_parser_whole_lexer.proofs.Suffixes.{IsSuffix, past-suffix, body-suffix, part-suffix}

pub record BeginsWith (k : ℕ) (cs : List ℕ) : Type 0 where
  pub more : List ℕ
  pub is : cs ≡ k ∷ more

-- The end of a regular expression.

slash-end : (b : Body) (c : ℕ) → is_end b c ≡ true → c ≡ 47
unfolding is_end
slash-end body.Open c e = eqb-true c 47 e
slash-end b c e = absurd (cc e)

list-same : (x y : List ℕ) → Some x ≡ Some y → x ≡ y
list-same x y e = cc

body-mark-step : (c : ℕ) (cs end : List ℕ) (r : Option (List ℕ)) (breaks ends : Bool) → (ends ≡ true → c ≡ 47) → (r ≡ Some end → BeginsWith 47 end) → cond breaks None (cond ends (Some (c ∷ cs)) r) ≡ Some end → BeginsWith 47 end
body-mark-step c cs end r true ends z f e = absurd (cc e)
body-mark-step c cs end r false true z f e = record { more = cs; is = sym (list-same _ _ e) ∙ ap (λ x. x ∷ cs) (z refl) }
body-mark-step c cs end r false false z f e = f e

body-mark : (b : Body) (cs end : List ℕ) → past_body b cs ≡ Some end → BeginsWith 47 end
unfolding past_body
body-mark b [] end e = absurd (cc e)
body-mark b (c ∷ cs) end e =
    body-mark-step c cs end (past_body (body_behind b c) cs) (is_line_break c) (is_end b c) (slash-end b c) (body-mark (body_behind b c) cs end) e

-- an ASCII character among others in bytes
ascii-boundary : (t : List ℕ) (k : ℕ) (f : List ℕ) → k < 128 → IsCharBoundary (encode_utf8_all (t ++ k ∷ f)) (length (encode_utf8_all t))
ascii-boundary t k f lt =
    let bytes : encode_utf8_all (t ++ k ∷ f) ≡ encode_utf8_all t ++ k ∷ encode_utf8_all f =
    encodes-append t (k ∷ f) ∙ ap (λ xs. encode_utf8_all t ++ (xs ++ encode_utf8_all f)) (encode_ascii k lt) in
    let at : get_or (encode_utf8_all (t ++ k ∷ f)) (length (encode_utf8_all t)) 0 ≡ k =
    ap (λ xs. get_or xs (length (encode_utf8_all t)) 0) bytes ∙ get_or-append_seam (encode_utf8_all t) k (encode_utf8_all f) 0 in
    IsCharBoundary-before_ascii (encode_utf8_all (t ++ k ∷ f)) (length (encode_utf8_all t))
    (omega (arith, ap length bytes, length-append (encode_utf8_all t) (k ∷ encode_utf8_all f)))
    (omega (arith, at, lt))

inner-bytes : (u : List ℕ) (c : ℕ) (xs : List ℕ) → chars u ≡ c ∷ xs → behind_first u ≡ encode_utf8_all xs
unfolding behind
inner-bytes u c xs e = ap (λ ys. encode_utf8_all (behind ys)) e

-- so far from the end of others
sized : (t end : List ℕ) → length (encode_utf8_all (t ++ end)) - length (encode_utf8_all end) ≡ length (encode_utf8_all t)
sized t end = omega (arith, ap length (encodes-append t end), length-append (encode_utf8_all t) (encode_utf8_all end))

behind-more : {k : ℕ} (cs : List ℕ) (m : BeginsWith k cs) → behind cs ≡ m.more
unfolding behind
behind-more cs m = ap behind m.is

regex-fits : (u : List ℕ) (c : ℕ) (cs end : List ℕ) → IsSuffix end cs → BeginsWith 47 end → chars u ≡ c ∷ take (size_of cs (past class.NamePart (behind end))) cs
    → FitsRegex (length (encode_utf8_all cs) - length (encode_utf8_all end)) (behind_first u)
regex-fits u c cs end h m e =
    let left = past class.NamePart (behind end) in
    let flags : IsSuffix left (behind end) = past-suffix class.NamePart (behind end) in
    let rest : behind end ≡ m.more = behind-more end m in
    let split : end ≡ (47 ∷ flags.taken) ++ left = m.is ∙ ap (λ xs. 47 ∷ xs) (sym rest ∙ flags.parts) in
    let all : cs ≡ (h.taken ++ 47 ∷ flags.taken) ++ left =
    h.parts ∙ ap (λ xs. h.taken ++ xs) split ∙ sym (append_assoc h.taken (47 ∷ flags.taken) left) in
    let inner : behind_first u ≡ encode_utf8_all (h.taken ++ 47 ∷ flags.taken) =
    inner-bytes u c (take (size_of cs left) cs) e ∙ ap encode_utf8_all (suffix-taken left cs (record { taken = h.taken ++ 47 ∷ flags.taken; parts = all })) in
    let size : length (encode_utf8_all cs) - length (encode_utf8_all end) ≡ length (encode_utf8_all h.taken) =
    ap (λ xs. length (encode_utf8_all xs) - length (encode_utf8_all end)) h.parts ∙ sized h.taken end in
    let boundary : IsCharBoundary (behind_first u) (length (encode_utf8_all cs) - length (encode_utf8_all end)) =
    rw (inner, size) (ascii-boundary h.taken 47 flags.taken (omega arith)) in
    record { size = boundary.0; end = boundary }

-- The end of a part of a template.

-- the marks that it ends in
pub record PartMarks (e : End) : Type 0 where
  pub last : e.is_last ≡ true → BeginsWith 96 e.left
  pub sign : e.is_last ≡ false → BeginsWith 36 e.left
  pub brace : e.is_last ≡ false → BeginsWith 123 (behind e.left)

and-none : (v : Bool) → (v && false) ≡ false
and-none true = refl
and-none false = refl

both-left : (a b : Bool) → (a && b) ≡ true → a ≡ true
both-left true b e = refl
both-left false b e = e

both-right : (a b : Bool) → (a && b) ≡ true → b ≡ true
both-right true b e = e
both-right false b e = absurd (cc e)

dollar : (c : ℕ) (cs : List ℕ) (is_escaped last : Bool) → (not is_escaped && (last || ((c == 36) && begins_with 123 cs))) ≡ true → last ≡ false → (c ≡ 36) × BeginsWith 123 cs
unfolding begins_with
dollar c cs true last e f = absurd (cc e)
dollar c cs false true e f = absurd (cc f)
dollar c [] false false e f = absurd (true≢false (sym e ∙ and-none (c == 36)))
dollar c (d ∷ ds) false false e f =
    (eqb-true c 36 (both-left (c == 36) (d == 123) e), record { more = ds; is = ap (λ x. x ∷ ds) (eqb-true d 123 (both-right (c == 36) (d == 123) e)) })

end-same : (x y : End) → Some x ≡ Some y → x ≡ y
end-same x y e = cc

marks-at : (s : Bool) (c : ℕ) (cs : List ℕ) → ends_part s c cs ≡ true → PartMarks (record { is_last = c == 96; left = c ∷ cs })
unfolding ends_part behind
marks-at s c cs e = record {
  last = λ f. record { more = cs; is = ap (λ x. x ∷ cs) (eqb-true c 96 f) };
  sign = λ f. record { more = cs; is = ap (λ x. x ∷ cs) (dollar c cs s (c == 96) e f).0 };
  brace = λ f. (dollar c cs s (c == 96) e f).1;
}

part-mark-step : (s : Bool) (c : ℕ) (cs : List ℕ) (e : End) (r : Option End) (ends : Bool) → (ends ≡ true → PartMarks (record { is_last = c == 96; left = c ∷ cs })) → (r ≡ Some e → PartMarks e) → cond ends (Some (record { is_last = c == 96; left = c ∷ cs })) r ≡ Some e → PartMarks e
part-mark-step s c cs e r true m f h = subst PartMarks (end-same _ _ h) (m refl)
part-mark-step s c cs e r false m f h = f h

part-mark : (s : Bool) (cs : List ℕ) (e : End) → past_part s cs ≡ Some e → PartMarks e
unfolding past_part
part-mark s [] e h = absurd (cc h)
part-mark s (c ∷ cs) e h =
    part-mark-step s c cs e (past_part (not s && (c == 92)) cs) (ends_part s c cs) (marks-at s c cs) (part-mark (not s && (c == 92)) cs e) h

-- what stands before a mark at the end
last-fits : (is_last : Bool) (u : List ℕ) (t : List ℕ) (k : ℕ) (marks : List ℕ) → k < 128 → behind_first u ≡ encode_utf8_all (t ++ k ∷ marks) → length (encode_utf8_all (k ∷ marks)) ≡ cond is_last 1 2 → FitsPart is_last (behind_first u)
last-fits is_last u t k marks lt inner size =
    let long : length (behind_first u) ≡ length (encode_utf8_all t) + cond is_last 1 2 =
    ap length (inner ∙ encodes-append t (k ∷ marks)) ∙ length-append (encode_utf8_all t) (encode_utf8_all (k ∷ marks)) ∙ ap (λ m. length (encode_utf8_all t) + m) size in
    let place : length (behind_first u) - cond is_last 1 2 ≡ length (encode_utf8_all t) = omega (arith, long) in
    record {
      size = omega (arith, long);
      end = rw (place, inner) (ascii-boundary t k marks lt);
    }

one-mark : length (encode_utf8_all (96 ∷ [])) ≡ 1
one-mark = ap (λ xs. length (xs ++ [])) (encode_ascii 96 (omega arith))

two-marks : length (encode_utf8_all (36 ∷ 123 ∷ [])) ≡ 2
two-marks =
    ap (λ xs. length (xs ++ encode_utf8_all (123 ∷ []))) (encode_ascii 36 (omega arith))
    ∙ ap (λ xs. length (36 ∷ (xs ++ []))) (encode_ascii 123 (omega arith))

part-fits : (is_first is_last : Bool) (u : List ℕ) (c : ℕ) (cs : List ℕ) (e : End) → e.is_last ≡ is_last → IsSuffix e.left cs → PartMarks e
    → chars u ≡ c ∷ take (size_of cs (cond is_last (behind e.left) (behind (behind e.left)))) cs → FitsPart is_last (behind_first u)
part-fits is_first true u c cs e f h m g =
    let mark = m.last f in
    let left = behind e.left in
    let split : e.left ≡ (96 ∷ []) ++ left = mark.is ∙ ap (λ xs. 96 ∷ xs) (sym (behind-more e.left mark)) in
    let all : cs ≡ (h.taken ++ 96 ∷ []) ++ left = h.parts ∙ ap (λ xs. h.taken ++ xs) split ∙ sym (append_assoc h.taken (96 ∷ []) left) in
    let inner : behind_first u ≡ encode_utf8_all (h.taken ++ 96 ∷ []) =
    inner-bytes u c (take (size_of cs left) cs) g ∙ ap encode_utf8_all (suffix-taken left cs (record { taken = h.taken ++ 96 ∷ []; parts = all })) in
    last-fits true u h.taken 96 [] (omega arith) inner one-mark
part-fits is_first false u c cs e f h m g =
    let mark = m.sign f in
    let brace = m.brace f in
    let left = behind (behind e.left) in
    let split : e.left ≡ (36 ∷ 123 ∷ []) ++ left =
    mark.is ∙ ap (λ xs. 36 ∷ xs) (sym (behind-more e.left mark) ∙ brace.is ∙ ap (λ xs. 123 ∷ xs) (sym (behind-more (behind e.left) brace))) in
    let all : cs ≡ (h.taken ++ 36 ∷ 123 ∷ []) ++ left = h.parts ∙ ap (λ xs. h.taken ++ xs) split ∙ sym (append_assoc h.taken (36 ∷ 123 ∷ []) left) in
    let inner : behind_first u ≡ encode_utf8_all (h.taken ++ 36 ∷ 123 ∷ []) =
    inner-bytes u c (take (size_of cs left) cs) g ∙ ap encode_utf8_all (suffix-taken left cs (record { taken = h.taken ++ 36 ∷ 123 ∷ []; parts = all })) in
    last-fits false u h.taken 36 (123 ∷ []) (omega arith) inner two-marks

-- Every form that is read.

-- a form that is read from a character on has its marks
abbrev HasMarks : List ℕ → ℕ → List ℕ → Reading → Type 0
HasMarks u c cs r = chars u ≡ c ∷ take (size_of cs r.left) cs → Fits r.form u

choice-marks : (u : List ℕ) (c : ℕ) (cs : List ℕ) (v : Bool) (r s : Reading) → HasMarks u c cs r → HasMarks u c cs s → HasMarks u c cs (cond v r s)
choice-marks u c cs true r s h k = h
choice-marks u c cs false r s h k = k

regex_to-marks : (u : List ℕ) (c : ℕ) (cs left : List ℕ) (o : Option (List ℕ)) → past_body body.Open cs ≡ o → HasMarks u c cs (regex_to cs o left)
regex_to-marks u c cs left (Some end) e g = regex-fits u c cs end (body-suffix body.Open cs end e) (body-mark body.Open cs end e) g
regex_to-marks u c cs left None e g = tt

regex-marks : (u : List ℕ) (c : ℕ) (cs left : List ℕ) → HasMarks u c cs (regex (c ∷ cs) left)
unfolding regex behind
regex-marks u c cs left = regex_to-marks u c cs left (past_body body.Open cs) refl

part_to-marks : (is_first : Bool) (u : List ℕ) (c : ℕ) (cs left : List ℕ) (o : Option End) → past_part false cs ≡ o → HasMarks u c cs (part_to is_first o left)
part_to-marks is_first u c cs left (Some e) h g = part-fits is_first e.is_last u c cs e refl (part-suffix false cs e h) (part-mark false cs e h) g
part_to-marks is_first u c cs left None h g = tt

template-marks : (is_first : Bool) (u : List ℕ) (c : ℕ) (cs left : List ℕ) → HasMarks u c cs (template is_first (c ∷ cs) left)
unfolding template behind
template-marks is_first u c cs left = part_to-marks is_first u c cs left (past_part false cs) refl

named-marks : (u : List ℕ) (c : ℕ) (cs left : List ℕ) (o : Option (List ℕ)) → HasMarks u c cs (ended_at form.EscapedName o left)
named-marks u c cs left (Some end) g = tt
named-marks u c cs left None g = tt

number-marks : (u : List ℕ) (c : ℕ) (cs left : List ℕ) (o : Option (List ℕ)) → HasMarks u c cs (ended_at form.OldNumber o left)
number-marks u c cs left (Some end) g = tt
number-marks u c cs left None g = tt

fault-marks : (k : SyntaxError) (u : List ℕ) (c : ℕ) (cs left : List ℕ) → HasMarks u c cs (fault_anew k (c ∷ cs) left)
unfolding fault_anew name old_number old_string
fault-marks kind.UnexpectedChar u c cs left =
    choice-marks u c cs (begins_with 96 (c ∷ cs)) _ _ (template-marks true u c cs left)
    (choice-marks u c cs (begins_with 92 (c ∷ cs)) _ _ (named-marks u c cs left (names.past_name true escape.Text (c ∷ cs))) (λ g. tt))
fault-marks kind.InvalidNumber u c cs left = number-marks u c cs left (past_old_number (c ∷ cs))
fault-marks kind.InvalidStrEscape u c cs left =
    choice-marks u c cs (is_old_string c (old.Plain escape.Text) (take (length (c ∷ cs) - length left) (c ∷ cs)))
    (record { form = form.OldString c; left = left }) (kept left) (λ g. tt) (λ g. tt)
fault-marks k u c cs left = λ g. tt

only-marks : (v : Bool) (f : Form) (u : List ℕ) → Fits f u → Fits (cond v f form.Kept) u
only-marks true f u h = h
only-marks false f u h = tt

comment-marks : (u : List ℕ) (c : ℕ) (cs : List ℕ) (v : Bool) (left : List ℕ) → HasMarks u c cs (comment v left)
unfolding comment
comment-marks u c cs v left =
    choice-marks u c cs v (record { form = form.Comment; left = past class.Line left }) (kept left) (λ x. tt) (λ x. tt)

pub anew-marks : (g : Goal) (n : Nest) (b : Bool) (t : Token) (u : List ℕ) (c : ℕ) (cs left : List ℕ) → HasMarks u c cs (anew g n b t (c ∷ cs) left)
unfolding anew only question_dot name
anew-marks g n b (token.BinOp bin.Div) u c cs left = choice-marks u c cs (begins_regex n) _ _ (regex-marks u c cs left) (λ x. tt)
anew-marks g n b (token.AssignOp assign.DivAssign) u c cs left = choice-marks u c cs (begins_regex n) _ _ (regex-marks u c cs left) (λ x. tt)
anew-marks g n b token.RBrace u c cs left = choice-marks u c cs (ends_substitution n) _ _ (template-marks false u c cs left) (λ x. tt)
anew-marks g n b token.QuestionMark u c cs left =
    choice-marks u c cs (begins_with 46 left && not (is_ahead class.Digit (behind left)))
    (record { form = form.QuestionDot; left = behind left }) (kept left) (λ x. tt) (λ x. tt)
anew-marks g n b token.Dot u c cs left = λ x. only-marks (is_behind_new n) form.NewDot u tt
anew-marks g n b token.Hash u c cs left = λ x. only-marks (begins_private_operand n) form.HashIn u tt
anew-marks g n b (token.BinOp bin.Lt) u c cs left = comment-marks u c cs (is_script g && opens_comment left) left
anew-marks g n b token.MinusMinus u c cs left = comment-marks u c cs (is_script g && b && begins_with 62 left) left
anew-marks g n b (token.Word w) u c cs left = choice-marks u c cs (begins_with 92 left) _ _ (named-marks u c cs left (names.past_name true escape.Text (c ∷ cs))) (λ x. tt)
anew-marks g n b (token.Error e) u c cs left = fault-marks e.kind u c cs left
anew-marks g n b t u c cs left = λ x. tt
