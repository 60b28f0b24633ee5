-- How pieces of a text are read that hold no node.
use Rattle.std.proofs.Common.{◌≡◌, ℕ, List, [], ◌∷◌, ◌++◌, ◌+◌, ◌<◌, ◌%◌, ◌/◌, Bool, true, false, not, ◌&&◌, ◌||◌, ◌==◌, ◌^◌, zero, suc, drop, inl, inr, Option, Some, None, nat_lt, if◌then◌else◌, arith, refl, ap, ◌∙◌, append_assoc, codes, decimal, map, encode_utf8}
use Rattle.std.specs.Fmt.{digits, digits_onto, digit_glyph}
use Rattle.std.proofs.lemmas.Bool.Decides.{nat_tests, eqb_tells}
use Rattle.std.specs.List.{flat_map, list_all}
use Rattle.std.specs.Int.Digits.{digits_of, AllBelowBase}
use Rattle.std.proofs.lemmas.Int.Digits.{all_below_base_digits_of}
use Rattle.ecma_estree_text.specs.Number.{is_numeral, is_mark, is_between, point_byte, is_point_next, point_behind, starts_with_point, bare_byte, bare_text, whole_text, double_text, least_short, value_behind, radix_of, number_by, has_leading_zero, is_octal_digit, past_zeros, zero_text, decimal_text, digits_by, number_text, digits_text}
use Rattle.ecma_estree_text.specs.Quoted.{hex_digit, escaped, wrapped}
use Rattle.ecma_estree_text.specs.Strings.{alone_text, character, character_text, four_digits, is_high, is_low, is_read, paired, point_text, points, points_text, string_text, text_at, waiting_behind}
use Rattle.ecma_estree_nodes.specs.Reading.{outside, inside, found, read_from, read}

-- a byte that is no quote, no backslash and no brace
abbrev pub calm : ℕ → Bool
calm b = not (b == 34) && (not (b == 92) && not (b == 123))

abbrev pub all_calm : List ℕ → Bool
all_calm [] = true
all_calm (b ∷ bs) = calm b && all_calm bs

no : (x : Bool) → not x ≡ true → x ≡ false
no true h = cc
no false h = refl

pub and_yes : (a b : Bool) → (a && b) ≡ true → (a ≡ true) × (b ≡ true)
and_yes true b h = (refl, h)
and_yes false b h = cc

pub record Calm (b : ℕ) : Type 0 where
  pub quote : (b == 34) ≡ false
  pub backslash : (b == 92) ≡ false
  pub brace : (b == 123) ≡ false

pub calm_tests : (b : ℕ) → calm b ≡ true → Calm b
calm_tests b h =
    let p = and_yes (not (b == 34)) (not (b == 92) && not (b == 123)) h in
    let q = and_yes (not (b == 92)) (not (b == 123)) p.1 in
    record { quote = no (b == 34) p.0; backslash = no (b == 92) q.0; brace = no (b == 123) q.1 }

pub calm_outside : (xs rest : List ℕ) → all_calm xs ≡ true → read_from outside (xs ++ rest) ≡ read_from outside rest
calm_outside [] rest h = refl
calm_outside (b ∷ bs) rest h =
    let p = and_yes (calm b) (all_calm bs) h in
    let c = calm_tests b p.0 in
    rw (c.quote, c.brace, found) (calm_outside bs rest p.1)

pub calm_inside : (xs rest : List ℕ) → all_calm xs ≡ true → read_from inside (xs ++ rest) ≡ read_from inside rest
calm_inside [] rest h = refl
calm_inside (b ∷ bs) rest h =
    let p = and_yes (calm b) (all_calm bs) h in
    let c = calm_tests b p.0 in
    rw (c.quote, c.backslash) (calm_inside bs rest p.1)

pub calm_append : (xs ys : List ℕ) → all_calm xs ≡ true → all_calm ys ≡ true → all_calm (xs ++ ys) ≡ true
calm_append [] ys h g = g
calm_append (b ∷ bs) ys h g =
    let p = and_yes (calm b) (all_calm bs) h in
    rw (p.0) (calm_append bs ys p.1 g)

if_calm : (t : Bool) (xs ys : List ℕ) → (t ≡ true → all_calm xs ≡ true) → (t ≡ false → all_calm ys ≡ true) → all_calm (if t then xs else ys) ≡ true
if_calm true xs ys x y = x refl
if_calm false xs ys x y = y refl

-- ---- digits

calm_digit : (d : ℕ) → d < 10 → calm (digit_glyph false d) ≡ true
calm_digit d h = grind (arith, nat_tests)

calm_digits : (k n : ℕ) (acc : List ℕ) → all_calm acc ≡ true → all_calm (digits_onto k 10 false n acc) ≡ true
calm_digits zero n acc h = h
calm_digits (suc k) n acc h =
    let more : all_calm (digit_glyph false (n % 10) ∷ acc) ≡ true = rw (calm_digit (n % 10) (omega arith)) h in
    if_calm (n / 10 == 0) (digit_glyph false (n % 10) ∷ acc) (digits_onto k 10 false (n / 10) (digit_glyph false (n % 10) ∷ acc))
    (λ _. more) (λ _. calm_digits k (n / 10) (digit_glyph false (n % 10) ∷ acc) more)

pub decimal_calm : (n : ℕ) → all_calm (decimal n) ≡ true
unfolding digits
decimal_calm n = calm_digits 64 n [] refl

-- ---- numbers

not_numeral : (b c : ℕ) → is_numeral c ≡ false → is_numeral b ≡ true → (b == c) ≡ false
not_numeral b c f h = elim (eqb_tells b c) [ inl p ↦ cc | inr p ↦ p.0 ]

numeral_calm : (b : ℕ) → is_numeral b ≡ true → all_calm (b ∷ []) ≡ true
numeral_calm b h = rw (not_numeral b 34 refl h, not_numeral b 92 refl h, not_numeral b 123 refl h) refl

digit_numeral : (p : Bool) (b : ℕ) → (p && is_between 48 57 b) ≡ true → is_numeral b ≡ true
digit_numeral p b h = rw (and_yes p (is_between 48 57 b) h).1 refl

abbrev numeral : ℕ → List ℕ
numeral b = if is_numeral b then b ∷ [] else []

numeral_read : (b : ℕ) → all_calm (numeral b) ≡ true
numeral_read b = if_calm (is_numeral b) (b ∷ []) [] (numeral_calm b) (λ _. refl)

point_calm : (p : Bool) (b : ℕ) → all_calm (point_byte p b) ≡ true
point_calm p b =
    if_calm (b == 46 || b == 95) [] (if p && is_between 48 57 b then 46 ∷ b ∷ [] else numeral b) (λ _. refl)
    (λ _. if_calm (p && is_between 48 57 b) (46 ∷ b ∷ []) (numeral b) (λ h. numeral_calm b (digit_numeral p b h)) (λ _. numeral_read b))

points_calm : (p : Bool) (bs : List ℕ) → all_calm (point_behind p bs) ≡ true
points_calm p [] = refl
points_calm p (b ∷ bs) = calm_append (point_byte p b) (point_behind (is_point_next p b) bs) (point_calm p b) (points_calm (is_point_next p b) bs)

bare_calm : (bs : List ℕ) → all_calm (bare_text bs) ≡ true
bare_calm [] = refl
bare_calm (b ∷ bs) = calm_append (bare_byte b) (bare_text bs) (if_calm (is_mark b) [] (numeral b) (λ _. refl) (λ _. numeral_read b)) (bare_calm bs)

calm_glyph : (d : ℕ) → d < 10 → calm (48 + d) ≡ true
calm_glyph d h = grind (arith, nat_tests)

calm_glyphs : (ds : List ℕ) → AllBelowBase 10 ds → all_calm (map (λ d. 48 + d) ds) ≡ true
calm_glyphs [] h = refl
calm_glyphs (d ∷ ds) h = rw (calm_glyph d h.0) (calm_glyphs ds h.1)

whole_calm : (n : ℕ) → all_calm (whole_text n) ≡ true
whole_calm n =
    if_calm (n == 0) (codes "0") (map (λ d. 48 + d) (digits_of 10 n)) (λ _. refl)
    (λ _. calm_glyphs (digits_of 10 n) (all_below_base_digits_of 10 n (omega arith)))

double_calm : (n : ℕ) → all_calm (double_text n) ≡ true
double_calm n = if_calm (nat_lt n least_short) (whole_text n) (codes "1e400") (λ _. whole_calm n) (λ _. refl)

number_calm_by : (raw : List ℕ) (o : Option ℕ) → all_calm (number_by raw o) ≡ true
number_calm_by raw None =
    calm_append (if starts_with_point raw then codes "0" else []) (point_behind false raw)
    (if_calm (starts_with_point raw) (codes "0") [] (λ _. refl) (λ _. refl)) (points_calm false raw)
number_calm_by raw (Some radix) = double_calm (value_behind radix 0 (drop 2 raw))

decimal_calm_text : (raw : List ℕ) → all_calm (decimal_text raw) ≡ true
decimal_calm_text raw = number_calm_by raw None

pub number_calm : (raw : List ℕ) → all_calm (number_text raw) ≡ true
unfolding number_text
number_calm raw =
    if_calm (has_leading_zero raw) (zero_text raw) (number_by raw (radix_of raw))
    (λ _. if_calm (list_all is_octal_digit raw) (double_text (value_behind 8 0 raw)) (decimal_text (past_zeros raw))
    (λ _. double_calm (value_behind 8 0 raw)) (λ _. decimal_calm_text (past_zeros raw)))
    (λ _. number_calm_by raw (radix_of raw))

digits_calm_by : (raw : List ℕ) (o : Option ℕ) → all_calm (digits_by raw o) ≡ true
digits_calm_by raw None = bare_calm raw
digits_calm_by raw (Some radix) = whole_calm (value_behind radix 0 (drop 2 raw))

pub digits_calm : (raw : List ℕ) → all_calm (digits_text raw) ≡ true
unfolding digits_text
digits_calm raw = digits_calm_by raw (radix_of raw)

-- ---- strings

hex_quote : (n : ℕ) → (hex_digit n == 34) ≡ false
hex_quote n = grind (arith, nat_tests)

hex_backslash : (n : ℕ) → (hex_digit n == 92) ≡ false
hex_backslash n = grind (arith, nat_tests)

-- what a byte is escaped as, by what it is
abbrev pick : (quote backslash b t n f r low : Bool) → (hex plain : List ℕ) → List ℕ
pick q s b t n f r low hex plain =
    if q then codes "\\\""
    else if s then codes "\\\\"
    else if b then codes "\\b"
    else if t then codes "\\t"
    else if n then codes "\\n"
    else if f then codes "\\f"
    else if r then codes "\\r"
    else if low then hex
    else plain

abbrev Inside : List ℕ → List ℕ → Type 0
Inside xs rest = read_from inside (xs ++ rest) ≡ read_from inside rest

picked : (q s b t n f r low : Bool) (hex plain rest : List ℕ) → Inside hex rest → (q ≡ false → s ≡ false → Inside plain rest) → Inside (pick q s b t n f r low hex plain) rest
picked true s b t n f r low hex plain rest x y = refl
picked false true b t n f r low hex plain rest x y = refl
picked false false true t n f r low hex plain rest x y = refl
picked false false false true n f r low hex plain rest x y = refl
picked false false false false true f r low hex plain rest x y = refl
picked false false false false false true r low hex plain rest x y = refl
picked false false false false false false true low hex plain rest x y = refl
picked false false false false false false false true hex plain rest x y = x
picked false false false false false false false false hex plain rest x y = y refl refl

hex_inside : (a b : ℕ) (rest : List ℕ) → Inside (codes "\\u00" ++ (hex_digit a ∷ hex_digit b ∷ [])) rest
hex_inside a b rest =
    rw (hex_quote a, hex_backslash a, hex_quote b, hex_backslash b) refl

escaped_inside : (b : ℕ) (rest : List ℕ) → Inside (escaped b) rest
escaped_inside b rest =
    picked (b == 34) (b == 92) (b == 8) (b == 9) (b == 10) (b == 12) (b == 13) (nat_lt b 32) (codes "\\u00" ++ (hex_digit (b / 16) ∷ hex_digit (b % 16) ∷ [])) (b ∷ []) rest
    (hex_inside (b / 16) (b % 16) rest) (λ q s. rw (q, s) refl)

text_inside : (s rest : List ℕ) → Inside (flat_map escaped s) rest
text_inside [] rest = refl
text_inside (b ∷ bs) rest = ap (read_from inside) (append_assoc (escaped b) (flat_map escaped bs) rest) ∙ escaped_inside b (flat_map escaped bs ++ rest) ∙ text_inside bs rest

pub wrapped_read : (s rest : List ℕ) → read (wrapped s ++ rest) ≡ read rest
wrapped_read s rest = ap (read_from inside) (append_assoc (flat_map escaped s) (34 ∷ []) rest) ∙ text_inside s (34 ∷ rest)

-- ---- the value of a string literal, which is read from what was written

if_inside : (t : Bool) (xs ys rest : List ℕ) → Inside xs rest → Inside ys rest → Inside (if t then xs else ys) rest
if_inside true xs ys rest x y = x
if_inside false xs ys rest x y = y

both_inside : (xs ys rest : List ℕ) → Inside xs (ys ++ rest) → Inside ys rest → Inside (xs ++ ys) rest
both_inside xs ys rest x y = ap (read_from inside) (append_assoc xs ys rest) ∙ x ∙ y

four_inside : (c : ℕ) (rest : List ℕ) → Inside (four_digits c) rest
four_inside c rest =
    rw (hex_quote (c / 4096 % 16), hex_backslash (c / 4096 % 16), hex_quote (c / 256 % 16), hex_backslash (c / 256 % 16), hex_quote (c / 16 % 16), hex_backslash (c / 16 % 16), hex_quote (c % 16), hex_backslash (c % 16)) refl

character_inside : (k : Option ℕ) (c : ℕ) (rest : List ℕ) → Inside (character_text k c) rest
character_inside None c rest = four_inside c rest
character_inside (Some k) c rest = text_inside (encode_utf8 k) rest

point_inside : (c : ℕ) (rest : List ℕ) → Inside (point_text c) rest
point_inside c rest = character_inside (character c) c rest

alone_inside : (c : ℕ) (rest : List ℕ) → Inside (alone_text c) rest
alone_inside c rest = if_inside (is_high c) [] (point_text c) rest refl (point_inside c rest)

at_inside : (waiting : Option ℕ) (c : ℕ) (rest : List ℕ) → Inside (text_at waiting c) rest
at_inside None c rest = alone_inside c rest
at_inside (Some high) c rest =
    if_inside (is_low c) (point_text (paired high c)) (four_digits high ++ alone_text c) rest (point_inside (paired high c) rest)
    (both_inside (four_digits high) (alone_text c) rest (four_inside high (alone_text c ++ rest)) (alone_inside c rest))

points_inside : (waiting : Option ℕ) (cs rest : List ℕ) → Inside (points_text waiting cs) rest
points_inside None [] rest = refl
points_inside (Some high) [] rest = four_inside high rest
points_inside waiting (c ∷ cs) rest =
    both_inside (text_at waiting c) (points_text (waiting_behind waiting c) cs) rest
    (at_inside waiting c (points_text (waiting_behind waiting c) cs ++ rest)) (points_inside (waiting_behind waiting c) cs rest)

points_read : (cs rest : List ℕ) → read ((34 ∷ (points_text None cs ++ 34 ∷ [])) ++ rest) ≡ read rest
points_read cs rest = ap (read_from inside) (append_assoc (points_text None cs) (34 ∷ []) rest) ∙ points_inside None cs (34 ∷ rest)

either_read : (t : Bool) (xs ys rest : List ℕ) → read (xs ++ rest) ≡ read rest → read (ys ++ rest) ≡ read rest → read ((if t then xs else ys) ++ rest) ≡ read rest
either_read true xs ys rest x y = x
either_read false xs ys rest x y = y

pub string_closed : (value raw rest : List ℕ) → read (string_text value raw ++ rest) ≡ read rest
unfolding string_text
string_closed value raw rest =
    either_read (is_read value raw) (34 ∷ (points_text None (points raw) ++ 34 ∷ [])) (wrapped value) rest (points_read (points raw) rest) (wrapped_read value rest)
