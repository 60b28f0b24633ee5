-- How the value of a string literal is read.
use Rattle.std.proofs.Common.{◌≡◌, ℕ, List, [], ◌∷◌, ◌++◌, ◌+◌, ◌*◌, ◌/◌, ◌%◌, ◌<◌, Bool, true, false, nat_lt, if◌then◌else◌, Option, Some, None, arith, refl, ap, sym, ◌∙◌, append_assoc, append-nil, codes, encode_utf8}
use Rattle.std.specs.List.{flat_map}
use Rattle.ecma_estree_json.specs.Json.{Json}
use Rattle.ecma_estree_json.specs.Made.{text}
use Rattle.ecma_estree_json.specs.Parts.{character_bytes, point_bytes, alone_bytes, bytes_at, last_bytes, points_bytes, string_value}
use Rattle.ecma_estree_json.specs.Reading.{First, first, refused, chars, plain, onto, unit_bytes, hex_value}
use Rattle.ecma_estree_json.proofs.Chars.{escaped_adds, hex_back, onto_none}
use Rattle.ecma_estree_json.proofs.Values.{Spells, text_spells, bytes_spell}
use Rattle.ecma_estree_text.specs.Quoted.{escaped, hex_digit, wrapped}
use Rattle.ecma_estree_text.specs.Strings.{alone_text, character, character_text, four_digits, is_high, is_low, is_read, last_text, paired, point_text, points, points_text, string_text, text_at, waiting_behind}
use Rattle.swc_ecma_parser_model.specs.Tree.{Text}

-- a part of a string adds bytes to it
record Adds (xs bs : List ℕ) : Type 0 where
  adds : (rest : List ℕ) → chars plain (xs ++ rest) ≡ onto bs (chars plain rest)

onto_onto : (xs ys : List ℕ) (r : First (List ℕ)) → onto xs (onto ys r) ≡ onto (xs ++ ys) r
onto_onto xs ys refused = refl
onto_onto xs ys (first zs rest) = ap (λ us. first us rest) (sym (append_assoc xs ys zs))

none_adds : Adds [] []
none_adds = record { adds = λ rest. sym (onto_none (chars plain rest)) }

both_add : {xs ys bs cs : List ℕ} → Adds xs bs → Adds ys cs → Adds (xs ++ ys) (bs ++ cs)
both_add {xs} {ys} {bs} {cs} a b = record {
  adds = λ rest. ap (chars plain) (append_assoc xs ys rest) ∙ a.adds (ys ++ rest) ∙ ap (onto bs) (b.adds rest) ∙ onto_onto bs cs (chars plain rest);
}

if_adds : (t : Bool) {xs ys bs cs : List ℕ} → Adds xs bs → Adds ys cs → Adds (if t then xs else ys) (if t then bs else cs)
if_adds true a b = a
if_adds false a b = b

byte_adds : (b : ℕ) → Adds (escaped b) (b ∷ [])
byte_adds b = record { adds = λ rest. escaped_adds b rest }

text_adds : (bs : List ℕ) → Adds (flat_map escaped bs) bs
text_adds [] = none_adds
text_adds (b ∷ bs) = both_add (byte_adds b) (text_adds bs)

two_digits : (c : ℕ) → (c / 16 % 16) * 16 + c % 16 ≡ c % 256
two_digits c = omega arith

further_digits : (c : ℕ) → c / 4096 % 16 ≡ c / 256 / 16 % 16
further_digits c = let same : c / 4096 ≡ c / 256 / 16 = omega arith in ap (λ n. n % 16) same

first_digits : (c : ℕ) → (c / 4096 % 16) * 16 + c / 256 % 16 ≡ c / 256 % 256
first_digits c = ap (λ n. n * 16 + c / 256 % 16) (further_digits c) ∙ two_digits (c / 256)

halves : (c : ℕ) → (c / 256 % 256) * 256 + c % 256 ≡ c % 65536
halves c = omega arith

joined : (x y z w m p q : ℕ) → z * 16 + w ≡ m → x * 16 + y ≡ p → p * 256 + m ≡ q → (((0 + x) * 16 + y) * 16 + z) * 16 + w ≡ q
joined x y z w m p q a b c = omega arith

four_digits_whole : (c : ℕ) → (((0 + c / 4096 % 16) * 16 + c / 256 % 16) * 16 + c / 16 % 16) * 16 + c % 16 ≡ c % 65536
four_digits_whole c =
    joined (c / 4096 % 16) (c / 256 % 16) (c / 16 % 16) (c % 16) (c % 256) (c / 256 % 256) (c % 65536) (two_digits c) (first_digits c) (halves c)

four_adds : (c : ℕ) → Adds (four_digits c) (unit_bytes (c % 65536))
four_adds c = record {
  adds = λ rest.
      let whole : (((0 + c / 4096 % 16) * 16 + c / 256 % 16) * 16 + c / 16 % 16) * 16 + c % 16 ≡ c % 65536 = four_digits_whole c in
      rw (hex_back (c / 4096 % 16) (omega arith), hex_back (c / 256 % 16) (omega arith), hex_back (c / 16 % 16) (omega arith), hex_back (c % 16) (omega arith), whole)
      (onto_none _ ∙ onto_none _ ∙ onto_none _ ∙ onto_none _ ∙ onto_none _);
}

character_adds : (k : Option ℕ) (c : ℕ) → Adds (character_text k c) (character_bytes k c)
character_adds (Some k) c = text_adds (encode_utf8 k)
character_adds None c = four_adds c

point_adds : (c : ℕ) → Adds (point_text c) (point_bytes c)
point_adds c = character_adds (character c) c

alone_adds : (c : ℕ) → Adds (alone_text c) (alone_bytes c)
alone_adds c = if_adds (is_high c) none_adds (point_adds c)

at_adds : (waiting : Option ℕ) (c : ℕ) → Adds (text_at waiting c) (bytes_at waiting c)
at_adds None c = alone_adds c
at_adds (Some high) c = if_adds (is_low c) (point_adds (paired high c)) (both_add (four_adds high) (alone_adds c))

points_add : (waiting : Option ℕ) (cs : List ℕ) → Adds (points_text waiting cs) (points_bytes waiting cs)
points_add None [] = none_adds
points_add (Some high) [] = four_adds high
points_add waiting (c ∷ cs) = both_add (at_adds waiting c) (points_add (waiting_behind waiting c) cs)

added_whole : (xs bs rest : List ℕ) → Adds xs bs → chars plain (xs ++ 34 ∷ rest) ≡ first bs rest
added_whole xs bs rest a = a.adds (34 ∷ rest) ∙ ap (λ us. first us rest) (append-nil bs)

either_text : (t : Bool) {xs ys : List ℕ} {o p : Option Json} → Spells xs o → Spells ys p → Spells (if t then xs else ys) (if t then o else p)
either_text true a b = a
either_text false a b = b

pub string_spells : (value raw : Text) → Spells (string_text value raw) (string_value value raw)
unfolding string_text string_value
string_spells value raw =
    either_text (is_read value raw)
    (bytes_spell (points_text None (points raw)) (points_bytes None (points raw)) (λ rest. added_whole (points_text None (points raw)) (points_bytes None (points raw)) rest (points_add None (points raw))))
    (text_spells value)
