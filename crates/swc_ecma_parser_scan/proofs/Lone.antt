-- Marks that nothing goes on with, and names that end.
use Rattle.std.proofs.Common.{◌≡◌, ℕ, ◌<◌, Bool, true, false, ◌==◌, ◌||◌, ◌≤◌, inl, inr, drop, cond, List, [], ◌∷◌, ◌++◌, length, get_or, Some, None, refl, ap, sym, ◌∙◌, arith}
use Rattle.std.specs.Str.{chars, IsUtf8}
use Rattle.std.proofs.Math.Bool.{and-false}
use Rattle.std.proofs.Math.Dec.{leb}
use Rattle.std.proofs.lemmas.Bool.{lt-leb, ne_eqb, eq-eqb, eqb-true, or_cases}
use Rattle.std.proofs.lemmas.Str.{encode_ascii, chars_past_char}
use Rattle.unicode_ident.proofs.IdentLemmas.{is_xid_start-ascii}
use Rattle.swc_ecma_parser_scan.specs.declared.state.State.{State}
use Rattle.swc_ecma_parser_scan.specs.declared.state.State.TheVariants as state
use Rattle.swc_ecma_parser_scan.specs.declared.state.Mark.{Mark}
use Rattle.swc_ecma_parser_scan.specs.declared.state.Mark.TheVariants as mark
use Rattle.swc_ecma_parser_scan.specs.declared.state.Number.TheVariants as number
use Rattle.swc_ecma_parser_token.specs.declared.operator.AssignOp.TheVariants as assign
use Rattle.swc_ecma_parser_token.specs.declared.operator.BinOpToken.TheVariants as bin
use Rattle.swc_ecma_parser_scan.specs.Chars.{is_name_start, is_space, is_line_break, is_digit}
use Rattle.swc_ecma_parser_scan.specs.Step.{begin, begin_mark, begin_operator, doubled, only, step, step_bin_op, step_assign_op, step_dot, step_mark, step_name, step_str}
use Rattle.swc_ecma_parser_scan.specs.Scan.{Munched, munch, scan, settled}
use Rattle.swc_ecma_parser_scan.specs.Splits.{munch-end, munch-stop}
use Rattle.swc_ecma_parser_scan.specs.Runs.{is_of}
use Rattle.swc_ecma_parser_scan.specs.Lone.{IsAt, IsBefore, IsLone}
use Rattle.swc_ecma_parser_scan.proofs.Blanks.{alone}
use Rattle.swc_ecma_parser_scan.proofs.Bytes.{agree_below, agree_at, is_plain_part, is_name_part-ascii}
use Rattle.swc_ecma_parser_scan.proofs.Scans.{munch-before, munch-past, settled-same}

-- what a piece is follows from what its first character begins
pub scan-begun : (f : Bool) (c : ℕ) (cs : List ℕ) (s : State) → begin f c ≡ s → scan f c cs ≡ settled cs (munch s cs)
unfolding scan
scan-begun f c cs s e = ap (λ s. settled cs (munch s cs)) e

pub name-begun : (f : Bool) (c : ℕ) → is_name_start c ≡ true → begin f c ≡ state.Name
unfolding begin
name-begun f c e = rw e refl

munch-lone : (m : Mark) → ((d : ℕ) → step (state.Mark m) d ≡ None) → (cs : List ℕ) → munch (state.Mark m) cs ≡ alone (state.Mark m) cs
munch-lone m h [] = munch-end (state.Mark m)
munch-lone m h (d ∷ ds) = munch-stop (state.Mark m) d ds (h d)

lone : (c : ℕ) (m : Mark) → ((f : Bool) → begin f c ≡ state.Mark m) → ((d : ℕ) → step (state.Mark m) d ≡ None) → ((cs : List ℕ) → settled cs (alone (state.Mark m) cs) ≡ alone (state.Mark m) cs) → IsLone c m
lone c m b h k = λ f cs. scan-begun f c cs (state.Mark m) (b f) ∙ ap (settled cs) (munch-lone m h cs) ∙ k cs

pub lone-40 : IsLone 40 mark.LParen
unfolding begin begin_mark is_name_start is_space is_line_break is_digit step step_mark settled
lone-40 = lone 40 mark.LParen (λ f. ap (λ x. cond x state.Name (state.Mark mark.LParen)) (is_xid_start-ascii 40 (omega arith))) (λ d. refl) (λ cs. refl)

pub lone-41 : IsLone 41 mark.RParen
unfolding begin begin_mark is_name_start is_space is_line_break is_digit step step_mark settled
lone-41 = lone 41 mark.RParen (λ f. ap (λ x. cond x state.Name (state.Mark mark.RParen)) (is_xid_start-ascii 41 (omega arith))) (λ d. refl) (λ cs. refl)

pub lone-91 : IsLone 91 mark.LBracket
unfolding begin begin_mark is_name_start is_space is_line_break is_digit step step_mark settled
lone-91 = lone 91 mark.LBracket (λ f. ap (λ x. cond x state.Name (state.Mark mark.LBracket)) (is_xid_start-ascii 91 (omega arith))) (λ d. refl) (λ cs. refl)

pub lone-93 : IsLone 93 mark.RBracket
unfolding begin begin_mark is_name_start is_space is_line_break is_digit step step_mark settled
lone-93 = lone 93 mark.RBracket (λ f. ap (λ x. cond x state.Name (state.Mark mark.RBracket)) (is_xid_start-ascii 93 (omega arith))) (λ d. refl) (λ cs. refl)

pub lone-123 : IsLone 123 mark.LBrace
unfolding begin begin_mark is_name_start is_space is_line_break is_digit step step_mark settled
lone-123 = lone 123 mark.LBrace (λ f. ap (λ x. cond x state.Name (state.Mark mark.LBrace)) (is_xid_start-ascii 123 (omega arith))) (λ d. refl) (λ cs. refl)

pub lone-125 : IsLone 125 mark.RBrace
unfolding begin begin_mark is_name_start is_space is_line_break is_digit step step_mark settled
lone-125 = lone 125 mark.RBrace (λ f. ap (λ x. cond x state.Name (state.Mark mark.RBrace)) (is_xid_start-ascii 125 (omega arith))) (λ d. refl) (λ cs. refl)

pub lone-59 : IsLone 59 mark.Semi
unfolding begin begin_mark is_name_start is_space is_line_break is_digit step step_mark settled
lone-59 = lone 59 mark.Semi (λ f. ap (λ x. cond x state.Name (state.Mark mark.Semi)) (is_xid_start-ascii 59 (omega arith))) (λ d. refl) (λ cs. refl)

pub lone-44 : IsLone 44 mark.Comma
unfolding begin begin_mark is_name_start is_space is_line_break is_digit step step_mark settled
lone-44 = lone 44 mark.Comma (λ f. ap (λ x. cond x state.Name (state.Mark mark.Comma)) (is_xid_start-ascii 44 (omega arith))) (λ d. refl) (λ cs. refl)

pub lone-58 : IsLone 58 mark.Colon
unfolding begin begin_mark is_name_start is_space is_line_break is_digit step step_mark settled
lone-58 = lone 58 mark.Colon (λ f. ap (λ x. cond x state.Name (state.Mark mark.Colon)) (is_xid_start-ascii 58 (omega arith))) (λ d. refl) (λ cs. refl)

-- a mark with a character behind it that it does not go on with
before : (c : ℕ) (d : ℕ) (s : State) → ((f : Bool) → begin f c ≡ s) → step s d ≡ None → ((cs : List ℕ) → settled cs (alone s cs) ≡ alone s cs) → (cs : List ℕ) → IsAt c (d ∷ cs) s
before c d s b h k cs = λ f. scan-begun f c (d ∷ cs) s (b f) ∙ ap (settled (d ∷ cs)) (munch-stop s d cs h) ∙ k (d ∷ cs)

no-digit : (d : ℕ) → 58 ≤ d → is_digit d ≡ false
unfolding is_digit
no-digit d h = rw (lt-leb d 57 (omega (arith, h))) (and-false (leb 48 d))

pub dot-before : (d : ℕ) → 58 ≤ d → (cs : List ℕ) → IsAt 46 (d ∷ cs) (state.Mark mark.Dot)
unfolding begin begin_mark is_name_start is_space is_line_break is_digit step step_mark step_dot only settled
dot-before d h cs =
    before 46 d (state.Mark mark.Dot) (λ f. ap (λ x. cond x state.Name (state.Mark mark.Dot)) (is_xid_start-ascii 46 (omega arith)))
    (ap (λ x. cond x (Some (state.Number number.Fraction)) (cond (d == 46) (Some (state.Mark mark.DotDot)) None)) (no-digit d h)
    ∙ ap (λ x. cond x (Some (state.Mark mark.DotDot)) None) (ne_eqb d 46 (λ e. omega (arith, e, h))))
    (λ cs. refl) cs

pub space-behind-61 : (cs : List ℕ) → IsAt 61 (32 ∷ cs) (state.AssignOp assign.Assign)
unfolding begin begin_mark begin_operator is_name_start is_space is_line_break is_digit step step_mark step_assign_op step_bin_op doubled only settled
space-behind-61 cs =
    before 61 32 (state.AssignOp assign.Assign) (λ f. ap (λ x. cond x state.Name (state.AssignOp assign.Assign)) (is_xid_start-ascii 61 (omega arith))) refl (λ cs. refl) cs

pub space-behind-60 : (cs : List ℕ) → IsAt 60 (32 ∷ cs) (state.BinOp bin.Lt)
unfolding begin begin_mark begin_operator is_name_start is_space is_line_break is_digit step step_mark step_assign_op step_bin_op doubled only settled
space-behind-60 cs =
    before 60 32 (state.BinOp bin.Lt) (λ f. ap (λ x. cond x state.Name (state.BinOp bin.Lt)) (is_xid_start-ascii 60 (omega arith))) refl (λ cs. refl) cs

pub space-behind-62 : (cs : List ℕ) → IsAt 62 (32 ∷ cs) (state.BinOp bin.Gt)
unfolding begin begin_mark begin_operator is_name_start is_space is_line_break is_digit step step_mark step_assign_op step_bin_op doubled only settled
space-behind-62 cs =
    before 62 32 (state.BinOp bin.Gt) (λ f. ap (λ x. cond x state.Name (state.BinOp bin.Gt)) (is_xid_start-ascii 62 (omega arith))) refl (λ cs. refl) cs

pub space-behind-43 : (cs : List ℕ) → IsAt 43 (32 ∷ cs) (state.BinOp bin.Add)
unfolding begin begin_mark begin_operator is_name_start is_space is_line_break is_digit step step_mark step_assign_op step_bin_op doubled only settled
space-behind-43 cs =
    before 43 32 (state.BinOp bin.Add) (λ f. ap (λ x. cond x state.Name (state.BinOp bin.Add)) (is_xid_start-ascii 43 (omega arith))) refl (λ cs. refl) cs

pub space-behind-45 : (cs : List ℕ) → IsAt 45 (32 ∷ cs) (state.BinOp bin.Sub)
unfolding begin begin_mark begin_operator is_name_start is_space is_line_break is_digit step step_mark step_assign_op step_bin_op doubled only settled
space-behind-45 cs =
    before 45 32 (state.BinOp bin.Sub) (λ f. ap (λ x. cond x state.Name (state.BinOp bin.Sub)) (is_xid_start-ascii 45 (omega arith))) refl (λ cs. refl) cs

pub space-behind-42 : (cs : List ℕ) → IsAt 42 (32 ∷ cs) (state.BinOp bin.Mul)
unfolding begin begin_mark begin_operator is_name_start is_space is_line_break is_digit step step_mark step_assign_op step_bin_op doubled only settled
space-behind-42 cs =
    before 42 32 (state.BinOp bin.Mul) (λ f. ap (λ x. cond x state.Name (state.BinOp bin.Mul)) (is_xid_start-ascii 42 (omega arith))) refl (λ cs. refl) cs

pub space-behind-47 : (cs : List ℕ) → IsAt 47 (32 ∷ cs) (state.BinOp bin.Div)
unfolding begin begin_mark begin_operator is_name_start is_space is_line_break is_digit step step_mark step_assign_op step_bin_op doubled only settled
space-behind-47 cs =
    before 47 32 (state.BinOp bin.Div) (λ f. ap (λ x. cond x state.Name (state.BinOp bin.Div)) (is_xid_start-ascii 47 (omega arith))) refl (λ cs. refl) cs

pub space-behind-37 : (cs : List ℕ) → IsAt 37 (32 ∷ cs) (state.BinOp bin.Mod)
unfolding begin begin_mark begin_operator is_name_start is_space is_line_break is_digit step step_mark step_assign_op step_bin_op doubled only settled
space-behind-37 cs =
    before 37 32 (state.BinOp bin.Mod) (λ f. ap (λ x. cond x state.Name (state.BinOp bin.Mod)) (is_xid_start-ascii 37 (omega arith))) refl (λ cs. refl) cs

pub space-behind-124 : (cs : List ℕ) → IsAt 124 (32 ∷ cs) (state.BinOp bin.BitOr)
unfolding begin begin_mark begin_operator is_name_start is_space is_line_break is_digit step step_mark step_assign_op step_bin_op doubled only settled
space-behind-124 cs =
    before 124 32 (state.BinOp bin.BitOr) (λ f. ap (λ x. cond x state.Name (state.BinOp bin.BitOr)) (is_xid_start-ascii 124 (omega arith))) refl (λ cs. refl) cs

pub space-behind-38 : (cs : List ℕ) → IsAt 38 (32 ∷ cs) (state.BinOp bin.BitAnd)
unfolding begin begin_mark begin_operator is_name_start is_space is_line_break is_digit step step_mark step_assign_op step_bin_op doubled only settled
space-behind-38 cs =
    before 38 32 (state.BinOp bin.BitAnd) (λ f. ap (λ x. cond x state.Name (state.BinOp bin.BitAnd)) (is_xid_start-ascii 38 (omega arith))) refl (λ cs. refl) cs

pub space-behind-63 : (cs : List ℕ) → IsAt 63 (32 ∷ cs) (state.Mark mark.QuestionMark)
unfolding begin begin_mark begin_operator is_name_start is_space is_line_break is_digit step step_mark step_assign_op step_bin_op doubled only settled
space-behind-63 cs =
    before 63 32 (state.Mark mark.QuestionMark) (λ f. ap (λ x. cond x state.Name (state.Mark mark.QuestionMark)) (is_xid_start-ascii 63 (omega arith))) refl (λ cs. refl) cs

names-ascii : (b : ℕ) → b < 128 → is_of 1 b ≡ is_plain_part b
unfolding agree_below is_of
names-ascii b h = agree_at (is_of 1) is_plain_part 128 refl b h

name-stops : (b : ℕ) → b < 128 → is_of 1 b ≡ false → step state.Name b ≡ None
unfolding step step_name
name-stops b h e = ap (λ x. cond x (Some state.Name) None) (sym (is_name_part-ascii b h) ∙ sym (names-ascii b h) ∙ e)

pub ascii-ahead : (b : ℕ) (bs : List ℕ) → IsUtf8 (b ∷ bs) → b < 128 → chars (b ∷ bs) ≡ b ∷ chars bs
ascii-ahead b bs u h = chars_past_char (b ∷ bs) bs b u (ap (λ xs. xs ++ bs) (sym (encode_ascii b h)))

-- a name ends before a character of ASCII that is no part of names
pub name-ends : (text : List ℕ) → IsUtf8 text → (0 < length text → is_of 1 (get_or text 0 0) ≡ false) → get_or text 0 0 < 128 → munch state.Name (chars text) ≡ alone state.Name (chars text)
unfolding chars
name-ends [] u e h = munch-end state.Name
name-ends (b ∷ bs) u e h =
    munch-before state.Name b (chars (b ∷ bs)) (chars bs) (ascii-ahead b bs u h) (sym (name-stops b h (e (omega arith))))

-- a mark that ends before the first byte of a text
pub at-text : (c : ℕ) (text : List ℕ) (s : State) → IsUtf8 text → 0 < length text → IsBefore c (get_or text 0 0) s → IsAt c (chars text) s
at-text c [] s u l h = absurd (omega arith)
at-text c (b ∷ bs) s u l h = λ f. ap (scan f c) (ascii-ahead b bs u h.ascii) ∙ h.alone (chars bs) f
    ∙ ap (λ cs. record { taken = []; left = cs; state = s }) (sym (ascii-ahead b bs u h.ascii))

munch-ended : (c : ℕ) (cs : List ℕ) → munch (state.StrEnd c) cs ≡ alone (state.StrEnd c) cs
unfolding step
munch-ended c [] = munch-end (state.StrEnd c)
munch-ended c (d ∷ ds) = munch-stop (state.StrEnd c) d ds refl

step-closed : (c b : ℕ) → b ≡ c → Some (state.StrEnd c) ≡ step (state.Str c) b
unfolding step step_str
step-closed c b e = ap (λ x. cond x (Some (state.StrEnd c)) (cond (b == 92) (Some (state.StrEscape c)) (cond ((b == 10) || (b == 13)) None (Some (state.Str c))))) (sym (eq-eqb b c e))

munch-closed : (c : ℕ) (text : List ℕ) → IsUtf8 text → 0 < length text → c < 128 → get_or text 0 0 ≡ c → munch (state.Str c) (chars text) ≡ record { taken = c ∷ []; left = chars (drop 1 text); state = state.StrEnd c }
munch-closed c [] u l h e = absurd (omega arith)
munch-closed c (b ∷ bs) u l h e =
    munch-past (state.Str c) (state.StrEnd c) b (chars (b ∷ bs)) (chars bs) (ascii-ahead b bs u (omega (arith, h, e))) (step-closed c b e)
    ∙ ap (λ (m : Munched). record { taken = b ∷ m.taken; left = m.left; state = m.state }) (munch-ended c (chars bs))
    ∙ ap (λ k. record { taken = k ∷ []; left = chars bs; state = state.StrEnd c }) e

begin-39 : (f : Bool) → begin f 39 ≡ state.Str 39
unfolding begin is_name_start is_space is_line_break is_digit
begin-39 f = ap (λ x. cond x state.Name (state.Str 39)) (is_xid_start-ascii 39 (omega arith))

begin-34 : (f : Bool) → begin f 34 ≡ state.Str 34
unfolding begin is_name_start is_space is_line_break is_digit
begin-34 f = ap (λ x. cond x state.Name (state.Str 34)) (is_xid_start-ascii 34 (omega arith))

quote-begins : (f : Bool) (c : ℕ) → ((c == 39) || (c == 34)) ≡ true → begin f c ≡ state.Str c
quote-begins f c e = elim (or_cases (c == 39) (c == 34) e) [
  | inl h ↦ rw (eqb-true c 39 h) (begin-39 f)
  | inr h ↦ rw (eqb-true c 34 h) (begin-34 f)
]

pub quote-ascii : (c : ℕ) → ((c == 39) || (c == 34)) ≡ true → c < 128
quote-ascii c e = elim (or_cases (c == 39) (c == 34) e) [
  | inl h ↦ omega (arith, eqb-true c 39 h)
  | inr h ↦ omega (arith, eqb-true c 34 h)
]

-- a string that ends where its quote stands again; the text behind one of its runs is left to read
pub string-whole : (f : Bool) (c : ℕ) (cs text : List ℕ) → ((c == 39) || (c == 34)) ≡ true → IsUtf8 text → 0 < length text → get_or text 0 0 ≡ c → (munch (state.Str c) (chars text)).state ≡ (munch (state.Str c) cs).state → (munch (state.Str c) (chars text)).left ≡ (munch (state.Str c) cs).left → (state.StrEnd c ≡ (scan f c cs).state) × (chars (drop 1 text) ≡ (scan f c cs).left)
unfolding settled
string-whole f c cs text q u l e h k =
    let closed = munch-closed c text u l (quote-ascii c q) e in
    let begun = scan-begun f c cs (state.Str c) (quote-begins f c q) in
    let same = settled-same cs (record { taken = c ∷ []; left = chars (drop 1 text); state = state.StrEnd c }) (munch (state.Str c) cs)
    (ap (λ (m : Munched). m.state) (sym closed) ∙ h) (ap (λ (m : Munched). m.left) (sym closed) ∙ k) in
    (same.0 ∙ ap (λ (m : Munched). m.state) (sym begun), same.1 ∙ ap (λ (m : Munched). m.left) (sym begun))
