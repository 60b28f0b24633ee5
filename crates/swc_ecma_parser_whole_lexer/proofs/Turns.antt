-- One turn of each loop over a text.
use Rattle.std.proofs.Common.{◌≡◌, ℕ, Bool, true, false, not, ◌&&◌, ◌==◌, cond, List, [], ◌∷◌, ◌++◌, Option, Some, None, is_none, refl, ap, sym, ◌∙◌, append_assoc}
use Rattle.swc_ecma_parser_scan.specs.Chars.{is_line_break}
use Rattle.swc_ecma_parser_scan.specs.Scan.{scan}
use Rattle.swc_ecma_parser_lexer.specs.declared.escape.Escape.{Escape}
use Rattle.swc_ecma_parser_lexer.specs.Strings.{said, said_last}
use Rattle.swc_ecma_parser_whole_lexer.specs.declared.names.NameTurn.{NameTurn}
use Rattle.swc_ecma_parser_whole_lexer.specs.declared.old.Old.{Old}
use Rattle.swc_ecma_parser_whole_lexer.specs.declared.old.OldTurn.{OldTurn}
use Rattle.swc_ecma_parser_whole_lexer.specs.declared.regex.Body.{Body}
use Rattle.swc_ecma_parser_whole_lexer.specs.declared.run.Class.{Class}
use Rattle.swc_ecma_parser_whole_lexer.specs.declared.run.Class.TheVariants as class
use Rattle.swc_ecma_parser_whole_lexer.specs.Names as names
use Rattle.swc_ecma_parser_whole_lexer.specs.Old as old
use Rattle.swc_ecma_parser_whole_lexer.specs.Regex.{body_behind, is_end, past_body}
use Rattle.swc_ecma_parser_whole_lexer.specs.Runs.{begins_with, bytes_of, is_ahead, is_of, past}
use Rattle.swc_ecma_parser_whole_lexer.specs.Templates.{End, ends_part, fed, past_part, with_line_feeds}

-- Runs.

pub past-more : (k : Class) (xs : List ℕ) (c : ℕ) (cs : List ℕ) → xs ≡ c ∷ cs → is_of k c ≡ true → past k xs ≡ past k cs
unfolding past
past-more k xs c cs e f = ap (past k) e ∙ ap (λ v. cond v (past k cs) (c ∷ cs)) f

pub past-stop : (k : Class) (xs : List ℕ) (c : ℕ) (cs : List ℕ) → xs ≡ c ∷ cs → is_of k c ≡ false → past k xs ≡ xs
unfolding past
past-stop k xs c cs e f = ap (past k) e ∙ ap (λ v. cond v (past k cs) (c ∷ cs)) f ∙ sym e

pub past-all : (k : Class) (xs : List ℕ) → xs ≡ [] → past k xs ≡ xs
unfolding past
past-all k xs e = ap (past k) e ∙ sym e

-- Regular expressions.

body-turn : Body → ℕ → List ℕ → Bool → Bool → Option (List ℕ)
body-turn b c cs breaks ends = cond breaks None (cond ends (Some (c ∷ cs)) (past_body (body_behind b c) cs))

body-begins : (b : Body) (xs : List ℕ) (c : ℕ) (cs : List ℕ) → xs ≡ c ∷ cs → past_body b xs ≡ body-turn b c cs (is_line_break c) (is_end b c)
unfolding past_body body-turn
body-begins b xs c cs e = ap (past_body b) e

pub body-break : (b : Body) (xs : List ℕ) (c : ℕ) (cs : List ℕ) → xs ≡ c ∷ cs → is_line_break c ≡ true → past_body b xs ≡ None
unfolding body-turn
body-break b xs c cs e f = body-begins b xs c cs e ∙ ap (λ v. body-turn b c cs v (is_end b c)) f

pub body-end : (b : Body) (xs : List ℕ) (c : ℕ) (cs : List ℕ) → xs ≡ c ∷ cs → is_line_break c ≡ false → is_end b c ≡ true → past_body b xs ≡ Some xs
unfolding body-turn
body-end b xs c cs e f g =
    body-begins b xs c cs e ∙ ap (λ v. body-turn b c cs v (is_end b c)) f ∙ ap (λ v. body-turn b c cs false v) g ∙ ap Some (sym e)

pub body-more : (b : Body) (xs : List ℕ) (c : ℕ) (cs : List ℕ) → xs ≡ c ∷ cs → is_line_break c ≡ false → is_end b c ≡ false → past_body b xs ≡ past_body (body_behind b c) cs
unfolding body-turn
body-more b xs c cs e f g =
    body-begins b xs c cs e ∙ ap (λ v. body-turn b c cs v (is_end b c)) f ∙ ap (λ v. body-turn b c cs false v) g

pub body-nothing : (b : Body) (xs : List ℕ) → xs ≡ [] → past_body b xs ≡ None
unfolding past_body
body-nothing b xs e = ap (past_body b) e

-- Templates.

part-turn : Bool → ℕ → List ℕ → Bool → Option End
part-turn is_escaped c cs ends = cond ends (Some (record { is_last = c == 96; left = c ∷ cs })) (past_part (not is_escaped && (c == 92)) cs)

part-begins : (s : Bool) (xs : List ℕ) (c : ℕ) (cs : List ℕ) → xs ≡ c ∷ cs → past_part s xs ≡ part-turn s c cs (ends_part s c cs)
unfolding past_part part-turn
part-begins s xs c cs e = ap (past_part s) e

pub part-end : (s : Bool) (xs : List ℕ) (c : ℕ) (cs : List ℕ) → xs ≡ c ∷ cs → ends_part s c cs ≡ true → past_part s xs ≡ Some (record { is_last = c == 96; left = xs })
unfolding part-turn
part-end s xs c cs e f =
    part-begins s xs c cs e ∙ ap (part-turn s c cs) f ∙ ap (λ ys. Some (record { is_last = c == 96; left = ys })) (sym e)

pub part-more : (s : Bool) (xs : List ℕ) (c : ℕ) (cs : List ℕ) → xs ≡ c ∷ cs → ends_part s c cs ≡ false → past_part s xs ≡ past_part (not s && (c == 92)) cs
unfolding part-turn
part-more s xs c cs e f = part-begins s xs c cs e ∙ ap (part-turn s c cs) f

pub part-nothing : (s : Bool) (xs : List ℕ) → xs ≡ [] → past_part s xs ≡ None
unfolding past_part
part-nothing s xs e = ap (past_part s) e

pub feeds-more : (b : Bool) (xs : List ℕ) (c : ℕ) (cs : List ℕ) → xs ≡ c ∷ cs → with_line_feeds b xs ≡ bytes_of (fed b c) ++ with_line_feeds (c == 13) cs
unfolding with_line_feeds
feeds-more b xs c cs e = ap (with_line_feeds b) e

pub feeds-nothing : (b : Bool) (xs : List ℕ) → xs ≡ [] → with_line_feeds b xs ≡ []
unfolding with_line_feeds
feeds-nothing b xs e = ap (with_line_feeds b) e

-- Names.

name-turn : Bool → Escape → ℕ → List ℕ → Option NameTurn → Option (List ℕ)
name-turn is_start s c cs None = names.ends is_start s (c ∷ cs)
name-turn is_start s c cs (Some t) = names.past_name (is_start && is_none t.said) t.state cs

name-begins : (b : Bool) (s : Escape) (xs : List ℕ) (c : ℕ) (cs : List ℕ) → xs ≡ c ∷ cs → names.past_name b s xs ≡ name-turn b s c cs (names.step b s c)
unfolding names.past_name name-turn
name-begins b s xs c cs e = ap (names.past_name b s) e

pub name-more : (b : Bool) (s : Escape) (xs : List ℕ) (c : ℕ) (cs : List ℕ) (t : NameTurn) → xs ≡ c ∷ cs → names.step b s c ≡ Some t → names.past_name b s xs ≡ names.past_name (b && is_none t.said) t.state cs
unfolding name-turn
name-more b s xs c cs t e f = name-begins b s xs c cs e ∙ ap (name-turn b s c cs) f

pub name-stop : (b : Bool) (s : Escape) (xs : List ℕ) (c : ℕ) (cs : List ℕ) → xs ≡ c ∷ cs → names.step b s c ≡ None → names.past_name b s xs ≡ names.ends b s xs
unfolding name-turn
name-stop b s xs c cs e f = name-begins b s xs c cs e ∙ ap (name-turn b s c cs) f ∙ ap (names.ends b s) (sym e)

pub name-nothing : (b : Bool) (s : Escape) (xs : List ℕ) → xs ≡ [] → names.past_name b s xs ≡ names.ends b s xs
unfolding names.past_name
name-nothing b s xs e = ap (names.past_name b s) e ∙ ap (names.ends b s) (sym e)

pub said-more : (s : Escape) (xs : List ℕ) (c : ℕ) (cs : List ℕ) (t : NameTurn) → xs ≡ c ∷ cs → t ≡ names.turn_of s c → names.name_said s xs ≡ bytes_of t.said ++ names.name_said t.state cs
unfolding names.name_said
said-more s xs c cs t e f = ap (names.name_said s) e ∙ ap (λ (u : NameTurn). bytes_of u.said ++ names.name_said u.state cs) (sym f)

pub said-nothing : (s : Escape) (xs : List ℕ) → xs ≡ [] → names.name_said s xs ≡ []
unfolding names.name_said
said-nothing s xs e = ap (names.name_said s) e

-- Strings in old forms.

pub old_string-more : (quote : ℕ) (s : Old) (xs : List ℕ) (c : ℕ) (cs : List ℕ) (t : OldTurn) → xs ≡ c ∷ cs → t ≡ old.step quote s c (is_ahead class.Octal cs) → old.is_old_string quote s xs ≡ old.is_old_string quote t.state cs
unfolding old.is_old_string
old_string-more quote s xs c cs t e f = ap (old.is_old_string quote s) e ∙ ap (λ (u : OldTurn). old.is_old_string quote u.state cs) (sym f)

pub old_string-end : (quote : ℕ) (s : Old) (xs : List ℕ) → xs ≡ [] → old.is_old_string quote s xs ≡ old.is_right s
unfolding old.is_old_string
old_string-end quote s xs e = ap (old.is_old_string quote s) e

pub old_value-more : (quote : ℕ) (s : Old) (waiting : Option ℕ) (xs : List ℕ) (c : ℕ) (cs : List ℕ) (t : OldTurn) → xs ≡ c ∷ cs → t ≡ old.step quote s c (is_ahead class.Octal cs) → old.old_value_of quote s waiting xs ≡ (said waiting t.unit).bytes ++ old.old_value_of quote t.state (said waiting t.unit).waiting cs
unfolding old.old_value_of
old_value-more quote s waiting xs c cs t e f =
    ap (old.old_value_of quote s waiting) e
    ∙ ap (λ (u : OldTurn). (said waiting u.unit).bytes ++ old.old_value_of quote u.state (said waiting u.unit).waiting cs) (sym f)

pub old_value-end : (quote : ℕ) (s : Old) (waiting : Option ℕ) (xs : List ℕ) → xs ≡ [] → old.old_value_of quote s waiting xs ≡ said_last waiting
unfolding old.old_value_of
old_value-end quote s waiting xs e = ap (old.old_value_of quote s waiting) e

-- Numbers in old forms.

decimal-turn : List ℕ → ℕ → List ℕ → Bool → Bool → Option (List ℕ)
decimal-turn xs c cs separated is_decimal = cond separated None (cond is_decimal (Some (scan false c cs).left) None)

decimal-begins : (xs : List ℕ) (c : ℕ) (cs : List ℕ) → xs ≡ c ∷ cs → old.past_decimal xs ≡ decimal-turn xs c cs (begins_with 95 (past class.Digit xs)) (old.is_decimal (scan false c cs).state)
unfolding old.past_decimal decimal-turn
decimal-begins xs c cs e =
    ap old.past_decimal e ∙ ap (λ ys. cond (begins_with 95 (past class.Digit ys)) None (cond (old.is_decimal (scan false c cs).state) (Some (scan false c cs).left) None)) (sym e)

pub decimal-nothing : (xs : List ℕ) → xs ≡ [] → old.past_decimal xs ≡ None
unfolding old.past_decimal
decimal-nothing xs e = ap old.past_decimal e

pub decimal-separated : (xs : List ℕ) → begins_with 95 (past class.Digit xs) ≡ true → old.past_decimal xs ≡ None
unfolding decimal-turn old.past_decimal
decimal-separated [] f = refl
decimal-separated (c ∷ cs) f =
    decimal-begins (c ∷ cs) c cs refl ∙ ap (λ v. decimal-turn (c ∷ cs) c cs v (old.is_decimal (scan false c cs).state)) f

pub decimal-is : (xs : List ℕ) (c : ℕ) (cs : List ℕ) → xs ≡ c ∷ cs → begins_with 95 (past class.Digit xs) ≡ false → old.is_decimal (scan false c cs).state ≡ true → old.past_decimal xs ≡ Some (scan false c cs).left
unfolding decimal-turn
decimal-is xs c cs e f g =
    decimal-begins xs c cs e ∙ ap (λ v. decimal-turn xs c cs v (old.is_decimal (scan false c cs).state)) f ∙ ap (λ v. decimal-turn xs c cs false v) g

pub decimal-not : (xs : List ℕ) (c : ℕ) (cs : List ℕ) → xs ≡ c ∷ cs → begins_with 95 (past class.Digit xs) ≡ false → old.is_decimal (scan false c cs).state ≡ false → old.past_decimal xs ≡ None
unfolding decimal-turn
decimal-not xs c cs e f g =
    decimal-begins xs c cs e ∙ ap (λ v. decimal-turn xs c cs v (old.is_decimal (scan false c cs).state)) f ∙ ap (λ v. decimal-turn xs c cs false v) g

pub number-new : (xs : List ℕ) → old.is_old xs ≡ false → old.past_old_number xs ≡ None
unfolding old.past_old_number
number-new xs f = ap (λ v. cond v (old.past_octals (past class.Octal xs) xs) None) f

number-old : (xs : List ℕ) → old.is_old xs ≡ true → old.past_old_number xs ≡ old.past_octals (past class.Octal xs) xs
unfolding old.past_old_number
number-old xs f = ap (λ v. cond v (old.past_octals (past class.Octal xs) xs) None) f

pub number-decimal : (xs octals : List ℕ) → old.is_old xs ≡ true → octals ≡ past class.Octal xs → is_ahead class.Digit octals ≡ true → old.past_old_number xs ≡ old.past_decimal (past class.Zero xs)
unfolding old.past_octals
number-decimal xs octals f e g =
    number-old xs f ∙ ap (λ ys. old.past_octals ys xs) (sym e)
    ∙ ap (λ v. cond v (old.past_decimal (past class.Zero xs)) (cond (is_ahead class.NamePart octals) None (Some octals))) g

pub number-none : (xs octals : List ℕ) → old.is_old xs ≡ true → octals ≡ past class.Octal xs → is_ahead class.Digit octals ≡ false → is_ahead class.NamePart octals ≡ true → old.past_old_number xs ≡ None
unfolding old.past_octals
number-none xs octals f e g h =
    number-old xs f ∙ ap (λ ys. old.past_octals ys xs) (sym e)
    ∙ ap (λ v. cond v (old.past_decimal (past class.Zero xs)) (cond (is_ahead class.NamePart octals) None (Some octals))) g
    ∙ ap (λ v. cond v None (Some octals)) h

pub number-octal : (xs octals : List ℕ) → old.is_old xs ≡ true → octals ≡ past class.Octal xs → is_ahead class.Digit octals ≡ false → is_ahead class.NamePart octals ≡ false → old.past_old_number xs ≡ Some octals
unfolding old.past_octals
number-octal xs octals f e g h =
    number-old xs f ∙ ap (λ ys. old.past_octals ys xs) (sym e)
    ∙ ap (λ v. cond v (old.past_decimal (past class.Zero xs)) (cond (is_ahead class.NamePart octals) None (Some octals))) g
    ∙ ap (λ v. cond v None (Some octals)) h

-- what is appended comes off the rest
pub appended : (all before rest bytes tail after same_tail : List ℕ) → all ≡ before ++ rest → rest ≡ bytes ++ tail → after ≡ before ++ bytes → same_tail ≡ tail → all ≡ after ++ same_tail
appended all before rest bytes tail after same_tail e f g h =
    e ∙ ap (λ xs. before ++ xs) f ∙ sym (append_assoc before bytes tail) ∙ ap (λ xs. xs ++ tail) (sym g) ∙ ap (λ xs. after ++ xs) (sym h)

pub twice : (v : Bool) → not (not v) ≡ v
twice true = refl
twice false = refl
