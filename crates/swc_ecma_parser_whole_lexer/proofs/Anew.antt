-- What a token is read anew as: how far that reaches, and where it is the token itself.
use Rattle.std.proofs.Common.{◌≡◌, ℕ, Bool, true, false, not, ◌&&◌, ◌==◌, cond, List, [], ◌∷◌, Option, Some, None, refl, ap, sym, ◌∙◌, subst}
use Rattle.std.proofs.lemmas.Bool.{eqb-true, true≢false}
use Rattle.swc_ecma_parser_error.specs.declared.kind.SyntaxError.{SyntaxError}
use Rattle.swc_ecma_parser_error.specs.declared.kind.SyntaxError.TheVariants as kind
use Rattle.swc_ecma_parser_token.specs.declared.operator.AssignOp.TheVariants as assign
use Rattle.swc_ecma_parser_token.specs.declared.operator.BinOpToken.TheVariants as bin
use Rattle.swc_ecma_parser_token.specs.declared.token.Token.{Token}
use Rattle.swc_ecma_parser_token.specs.declared.token.Token.TheVariants as token
use Rattle.swc_ecma_parser_input.specs.TokenSource.{is_out_of_memory}
use Rattle.swc_ecma_parser_scan.specs.Scan.{scan}
use Rattle.swc_ecma_parser_lexer.specs.declared.escape.Escape.TheVariants as escape
use Rattle.swc_ecma_parser_nesting.specs.declared.nest.Nest.{Nest}
use Rattle.swc_ecma_parser_nesting.specs.Nesting.{begins_regex, ends_substitution}
use Rattle.swc_ecma_parser_whole_lexer.specs.declared.form.Form.{Form}
use Rattle.swc_ecma_parser_whole_lexer.specs.declared.form.Form.TheVariants as form
use Rattle.swc_ecma_parser_whole_lexer.specs.declared.form.Goal.{Goal}
use Rattle.swc_ecma_parser_whole_lexer.specs.declared.regex.Body.TheVariants as body
use Rattle.swc_ecma_parser_whole_lexer.specs.declared.run.Class.TheVariants as class
use Rattle.swc_ecma_parser_whole_lexer.specs.Forms.{Reading, anew, comment, ended_at, fault_anew, is_script, kept, name, old_number, old_string, only, opens_comment, part_to, question_dot, regex, regex_to, template}
use Rattle.swc_ecma_parser_whole_lexer.specs.Names as names
use Rattle.swc_ecma_parser_whole_lexer.specs.Old.{is_decimal, is_old, past_decimal, past_octals, past_old_number}
use Rattle.swc_ecma_parser_whole_lexer.specs.Regex.{past_body}
use Rattle.swc_ecma_parser_whole_lexer.specs.Runs.{begins_with, behind, is_ahead, is_of, past}
use Rattle.swc_ecma_parser_whole_lexer.specs.Templates.{End, past_part}
use Rattle.swc_ecma_parser_whole_lexer.specs.Whole.{may_change}
use Rattle.swc_ecma_parser_whole_lexer.proofs.Suffixes.{IsSuffix, suffix-more, suffix-on, past-suffix, behind-suffix, body-suffix, part-suffix, name-suffix-behind, scan-suffix}

-- How far it reaches: what is left stands behind the first character.

chosen-suffix : (v : Bool) (r s : Reading) (cs : List ℕ) → IsSuffix r.left cs → IsSuffix s.left cs → IsSuffix (cond v r s).left cs
chosen-suffix true r s cs h k = h
chosen-suffix false r s cs h k = k

chosen : (v : Bool) (xs ys cs : List ℕ) → IsSuffix xs cs → IsSuffix ys cs → IsSuffix (cond v xs ys) cs
chosen true xs ys cs h k = h
chosen false xs ys cs h k = k

regex_to-suffix : (cs left : List ℕ) (o : Option (List ℕ)) → past_body body.Open cs ≡ o → IsSuffix left cs → IsSuffix (regex_to cs o left).left cs
regex_to-suffix cs left (Some end) e h =
    suffix-on (past class.NamePart (behind end)) end cs
    (suffix-on (past class.NamePart (behind end)) (behind end) end (past-suffix class.NamePart (behind end)) (behind-suffix end))
    (body-suffix body.Open cs end e)
regex_to-suffix cs left None e h = h

regex-suffix : (c : ℕ) (cs left : List ℕ) → IsSuffix left cs → IsSuffix (regex (c ∷ cs) left).left cs
unfolding regex behind
regex-suffix c cs left h = regex_to-suffix cs left (past_body body.Open cs) refl h

part_to-suffix : (is_first : Bool) (cs left : List ℕ) (o : Option End) → past_part false cs ≡ o → IsSuffix left cs → IsSuffix (part_to is_first o left).left cs
part_to-suffix is_first cs left (Some end) e h =
    suffix-on (cond end.is_last (behind end.left) (behind (behind end.left))) end.left cs
    (chosen end.is_last (behind end.left) (behind (behind end.left)) end.left (behind-suffix end.left)
    (suffix-on (behind (behind end.left)) (behind end.left) end.left (behind-suffix (behind end.left)) (behind-suffix end.left)))
    (part-suffix false cs end e)
part_to-suffix is_first cs left None e h = h

template-suffix : (is_first : Bool) (c : ℕ) (cs left : List ℕ) → IsSuffix left cs → IsSuffix (template is_first (c ∷ cs) left).left cs
unfolding template behind
template-suffix is_first c cs left h = part_to-suffix is_first cs left (past_part false cs) refl h

ended_at-suffix : (f : Form) (o : Option (List ℕ)) (left cs : List ℕ) → ((end : List ℕ) → o ≡ Some end → IsSuffix end cs) → IsSuffix left cs → IsSuffix (ended_at f o left).left cs
ended_at-suffix f (Some end) left cs h k = h end refl
ended_at-suffix f None left cs h k = k

named-suffix : (c : ℕ) (cs left : List ℕ) → IsSuffix left cs → IsSuffix (name (c ∷ cs) left).left cs
unfolding name
named-suffix c cs left h =
    ended_at-suffix form.EscapedName (names.past_name true escape.Text (c ∷ cs)) left cs (λ end e. name-suffix-behind c cs end e) h

some-same : (x y : List ℕ) → Some x ≡ Some y → x ≡ y
some-same x y e = cc

decimal-choice : (separated is_so : Bool) (x end cs : List ℕ) → IsSuffix x cs → cond separated None (cond is_so (Some x) None) ≡ Some end → IsSuffix end cs
decimal-choice true is_so x end cs h e = absurd (cc e)
decimal-choice false true x end cs h e = subst (λ xs. IsSuffix xs cs) (some-same _ _ e) h
decimal-choice false false x end cs h e = absurd (cc e)

decimal-suffix : (xs end : List ℕ) → past_decimal xs ≡ Some end → IsSuffix end xs
unfolding past_decimal
decimal-suffix [] end e = absurd (cc e)
decimal-suffix (c ∷ cs) end e =
    suffix-more c end cs
    (decimal-choice (begins_with 95 (past class.Digit (c ∷ cs))) (is_decimal (scan false c cs).state) (scan false c cs).left end cs (scan-suffix false c cs) e)

octals-choice : (digit part : Bool) (o : Option (List ℕ)) (octals end cs : List ℕ) → (o ≡ Some end → IsSuffix end cs) → IsSuffix octals cs → cond digit o (cond part None (Some octals)) ≡ Some end → IsSuffix end cs
octals-choice true part o octals end cs h k e = h e
octals-choice false true o octals end cs h k e = absurd (cc e)
octals-choice false false o octals end cs h k e = subst (λ xs. IsSuffix xs cs) (some-same _ _ e) k

-- `0` is an octal digit
zero-suffix : (c : ℕ) (cs end : List ℕ) → c ≡ 48 → past_octals (past class.Octal (c ∷ cs)) (c ∷ cs) ≡ Some end → IsSuffix end cs
unfolding past_octals past is_of
zero-suffix c cs end z e =
    let f : past_octals (past class.Octal (48 ∷ cs)) (48 ∷ cs) ≡ Some end = ap (λ x. past_octals (past class.Octal (x ∷ cs)) (x ∷ cs)) (sym z) ∙ e in
    octals-choice (is_ahead class.Digit (past class.Octal cs)) (is_ahead class.NamePart (past class.Octal cs)) (past_decimal (past class.Zero cs)) (past class.Octal cs) end cs
    (λ i. suffix-on end (past class.Zero cs) cs (decimal-suffix (past class.Zero cs) end i) (past-suffix class.Zero cs)) (past-suffix class.Octal cs) f

old-choice : (v : Bool) (o : Option (List ℕ)) (end : List ℕ) (cs : List ℕ) → (v ≡ true → o ≡ Some end → IsSuffix end cs) → cond v o None ≡ Some end → IsSuffix end cs
old-choice true o end cs h e = h refl e
old-choice false o end cs h e = absurd (cc e)

both : (a b : Bool) → (a && b) ≡ true → a ≡ true
both true b e = refl
both false b e = e

same-number : (c k : ℕ) → (c == k) ≡ true → c ≡ k
same-number c k e = eqb-true c k e

number-suffix : (c : ℕ) (cs end : List ℕ) → past_old_number (c ∷ cs) ≡ Some end → IsSuffix end cs
unfolding past_old_number is_old begins_with
number-suffix c cs end e =
    old-choice (is_old (c ∷ cs)) (past_octals (past class.Octal (c ∷ cs)) (c ∷ cs)) end cs
    (λ v f. zero-suffix c cs end (same-number c 48 (both (c == 48) (is_ahead class.Digit (behind (c ∷ cs))) v)) f) e

numbered-suffix : (c : ℕ) (cs left : List ℕ) → IsSuffix left cs → IsSuffix (old_number (c ∷ cs) left).left cs
unfolding old_number
numbered-suffix c cs left h =
    ended_at-suffix form.OldNumber (past_old_number (c ∷ cs)) left cs (λ end e. number-suffix c cs end e) h

string-suffix : (c : ℕ) (cs left : List ℕ) → IsSuffix left cs → IsSuffix (old_string (c ∷ cs) left).left cs
unfolding old_string
string-suffix c cs left h = chosen-suffix _ _ _ cs h h

comment-suffix : (v : Bool) (left cs : List ℕ) → IsSuffix left cs → IsSuffix (comment v left).left cs
unfolding comment
comment-suffix v left cs h = chosen-suffix v _ _ cs (suffix-on (past class.Line left) left cs (past-suffix class.Line left) h) h

question-suffix : (left cs : List ℕ) → IsSuffix left cs → IsSuffix (question_dot left).left cs
unfolding question_dot
question-suffix left cs h = chosen-suffix _ _ _ cs (suffix-on (behind left) left cs (behind-suffix left) h) h

fault-suffix : (k : SyntaxError) (c : ℕ) (cs left : List ℕ) → IsSuffix left cs → IsSuffix (fault_anew k (c ∷ cs) left).left cs
unfolding fault_anew
fault-suffix kind.UnexpectedChar c cs left h =
    chosen-suffix (begins_with 96 (c ∷ cs)) _ _ cs (template-suffix true c cs left h)
    (chosen-suffix (begins_with 92 (c ∷ cs)) _ _ cs (named-suffix c cs left h) h)
fault-suffix kind.InvalidNumber c cs left h = numbered-suffix c cs left h
fault-suffix kind.InvalidStrEscape c cs left h = string-suffix c cs left h
fault-suffix k c cs left h = h

pub anew-suffix : (g : Goal) (n : Nest) (b : Bool) (t : Token) (c : ℕ) (cs left : List ℕ) → IsSuffix left cs → IsSuffix (anew g n b t (c ∷ cs) left).left cs
unfolding anew only
anew-suffix g n b (token.BinOp bin.Div) c cs left h = chosen-suffix (begins_regex n) _ _ cs (regex-suffix c cs left h) h
anew-suffix g n b (token.AssignOp assign.DivAssign) c cs left h = chosen-suffix (begins_regex n) _ _ cs (regex-suffix c cs left h) h
anew-suffix g n b token.RBrace c cs left h = chosen-suffix (ends_substitution n) _ _ cs (template-suffix false c cs left h) h
anew-suffix g n b token.QuestionMark c cs left h = question-suffix left cs h
anew-suffix g n b token.Dot c cs left h = h
anew-suffix g n b token.Hash c cs left h = h
anew-suffix g n b (token.BinOp bin.Lt) c cs left h = comment-suffix _ left cs h
anew-suffix g n b token.MinusMinus c cs left h = comment-suffix _ left cs h
anew-suffix g n b (token.Word w) c cs left h = chosen-suffix (begins_with 92 left) _ _ cs (named-suffix c cs left h) h
anew-suffix g n b (token.Error e) c cs left h = fault-suffix e.kind c cs left h
anew-suffix g n b t c cs left h = h

-- Where it is the token itself.

and-false : (v : Bool) → (v && false) ≡ false
and-false true = refl
and-false false = refl

silent-comment : (v b : Bool) → (v && b && false) ≡ false
silent-comment true true = refl
silent-comment true false = refl
silent-comment false true = refl
silent-comment false false = refl

pub unchanged : (g : Goal) (n : Nest) (b : Bool) (t : Token) (cs left : List ℕ) → may_change n t left ≡ false → anew g n b t cs left ≡ kept left
unfolding anew may_change only comment question_dot opens_comment
unchanged g n b (token.BinOp bin.Div) cs left e = ap (λ v. cond v (regex cs left) (kept left)) e
unchanged g n b (token.AssignOp assign.DivAssign) cs left e = ap (λ v. cond v (regex cs left) (kept left)) e
unchanged g n b token.RBrace cs left e = ap (λ v. cond v (template false cs left) (kept left)) e
unchanged g n b token.QuestionMark cs left e =
    ap (λ v. cond (v && not (is_ahead class.Digit (behind left))) (record { form = form.QuestionDot; left = behind left }) (kept left)) e
unchanged g n b token.Dot cs left e = ap (λ v. only v form.NewDot left) e
unchanged g n b token.Hash cs left e = ap (λ v. only v form.HashIn left) e
unchanged g n b (token.BinOp bin.Lt) cs left e =
    ap (λ v. comment (is_script g && (v && begins_with 45 (behind left) && begins_with 45 (behind (behind left)))) left) e
    ∙ ap (λ v. comment v left) (and-false (is_script g))
unchanged g n b token.MinusMinus cs left e =
    ap (λ v. comment (is_script g && b && v) left) e
    ∙ ap (λ v. comment v left) (silent-comment (is_script g) b)
unchanged g n b (token.Word w) cs left e = ap (λ v. cond v (name cs left) (kept left)) e
unchanged g n b (token.Error x) cs left e = elim (true≢false e) [ ]
unchanged g n b t cs left e = refl

-- a token that stays was not lost
pub unlost : (n : Nest) (t : Token) (left : List ℕ) → may_change n t left ≡ false → is_out_of_memory t ≡ false
unfolding may_change
unlost n (token.Error x) left e = elim (true≢false e) [ ]
unlost n t left e = refl
