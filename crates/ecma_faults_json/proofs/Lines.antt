-- How the line of a fault is read.
use Rattle.std.proofs.Common.{◌≡◌, ℕ, suc, List, [], ◌∷◌, ◌++◌, ◌+◌, ◌*◌, ◌<◌, ◌^◌, Bool, true, false, cond, Option, Some, None, arith, refl, ap, sym, ◌∙◌, subst, append_assoc, append-nil, codes, decimal, length}
use Rattle.ecma_estree_json.specs.Json.{Json, Fields}
use Rattle.ecma_estree_json.specs.Made.{done, field, object, text, count}
use Rattle.ecma_estree_json.specs.Reading.{value, alone, parse_json}
use Rattle.ecma_estree_json.specs.Reading.{first as read_first}
use Rattle.ecma_estree_json.proofs.Bounds.{offset_small, IsSmall, spot_small}
use Rattle.ecma_estree_json.proofs.Chars.{all_simple}
use Rattle.ecma_estree_json.proofs.Objects.{named_text, field_leaves, inner_leaves, end_leaves, object_starts}
use Rattle.ecma_estree_json.proofs.Values.{Spells, Starts, Leaves, text_spells, decimal_spells}
use Rattle.ecma_estree_text.specs.Places.{Placed, offset}
use Rattle.ecma_estree_text.specs.Quoted.{quoted}
use Rattle.ecma_estree_text.specs.Spots.{spot_at}
use Rattle.ecma_estree_text.specs.declared.spot.Spot.{Spot}
use Rattle.ecma_faults.specs.Json.{key, number, string, spot_json, place_json, offsets_json, span_json, first, note_json, head_json, fault_json}
use Rattle.ecma_faults_json.specs.Faults.{spot_fields, place_fields, offset_fields, span_fields, note_field, line, fault}
use Rattle.ecma_faults_json.specs.Law.{Fits, NoteFits, FaultsReadBack}
use Rattle.ecma_sentences.specs.Message.{message_of}
use Rattle.ecma_sentences.specs.Note.{note_of}
use Rattle.swc_ecma_parser_common.specs.declared.span.Span.{Span}
use Rattle.swc_ecma_parser_error.specs.declared.error.Error.{Error}
use Rattle.swc_ecma_parser_error.specs.Kind.{kind_of, name_of}

leaves_at : {xs ys zs : List ℕ} {p : Option Fields} → xs ≡ ys → Leaves ys p zs → Leaves xs p zs
leaves_at {xs} {ys} {zs} {p} e a = subst (λ us. Leaves us p zs) (sym e) a

field_layout : (name xs ys : List ℕ) → ((codes ",\"" ++ (name ++ codes "\":")) ++ xs) ++ ys ≡ 44 ∷ named_text name (xs ++ ys)
field_layout name xs ys = simp append_assoc

quoted_spells : (s : List ℕ) → Spells (quoted s) (text s)
unfolding quoted
quoted_spells s = text_spells s

number_leaves : (name : List ℕ) (n : ℕ) {ys zs : List ℕ} {p : Option Fields} → all_simple name ≡ true → n < 2 ^ 64 → Leaves ys p zs
    → Leaves (number name n ++ ys) (field name (count n) p) zs
unfolding number key
number_leaves name n {ys} h b l = leaves_at (field_layout name (decimal n) ys) (field_leaves name h (decimal_spells n b) l)

string_leaves : (name s : List ℕ) {ys zs : List ℕ} {p : Option Fields} → all_simple name ≡ true → Leaves ys p zs
    → Leaves (string name s ++ ys) (field name (text s) p) zs
unfolding string key
string_leaves name s {ys} h l = leaves_at (field_layout name (quoted s) ys) (field_leaves name h (quoted_spells s) l)

spot_leaves : (line column : List ℕ) (q : Spot) {ys zs : List ℕ} {p : Option Fields} → all_simple line ≡ true → all_simple column ≡ true → IsSmall q → Leaves ys p zs
    → Leaves (spot_json line column q ++ ys) (spot_fields line column q p) zs
unfolding spot_fields
spot_leaves line column q {ys} h g s l =
    leaves_at (append_assoc (number line q.line) (number column (q.column + 1)) ys) (number_leaves line q.line h s.line (number_leaves column (q.column + 1) g s.column l))

if_there : (b : Bool) (xs : List ℕ) {ys zs : List ℕ} {o p : Option Fields} → Leaves (xs ++ ys) o zs → Leaves ys p zs → Leaves (cond b xs [] ++ ys) (cond b o p) zs
if_there true xs x y = x
if_there false xs x y = y

place_leaves : (x : Placed) (line column : List ℕ) (n : ℕ) {ys zs : List ℕ} {p : Option Fields} → length x.text < 2 ^ 63 → all_simple line ≡ true → all_simple column ≡ true
    → Leaves ys p zs → Leaves (place_json x line column n ++ ys) (place_fields x line column n p) zs
unfolding place_fields
place_leaves x line column n b h g l = if_there x.has_locations (spot_json line column (spot_at x.text n)) (spot_leaves line column (spot_at x.text n) h g (spot_small x.text n b) l) l

offsets_layout : (a b c d ys : List ℕ) → (a ++ (b ++ (c ++ d))) ++ ys ≡ a ++ (b ++ (c ++ (d ++ ys)))
offsets_layout a b c d ys = simp append_assoc

offsets_leave : (x : Placed) (low high : ℕ) {ys zs : List ℕ} {p : Option Fields} → length x.text < 2 ^ 63 → low < 2 ^ 64 → high < 2 ^ 64 → Leaves ys p zs
    → Leaves (offsets_json x low high ++ ys) (offset_fields x low high p) zs
unfolding offsets_json offset_fields
offsets_leave x low high {ys} b h g l =
    leaves_at (offsets_layout (number (codes "byteStart") low) (number (codes "byteEnd") high) (number (codes "start") (offset x.text low)) (number (codes "end") (offset x.text high)) ys)
    (number_leaves (codes "byteStart") low refl h (number_leaves (codes "byteEnd") high refl g
    (number_leaves (codes "start") (offset x.text low) refl (offset_small x.text low b) (number_leaves (codes "end") (offset x.text high) refl (offset_small x.text high b) l))))

span_layout : (a b c ys : List ℕ) → (a ++ (b ++ c)) ++ ys ≡ a ++ (b ++ (c ++ ys))
span_layout a b c ys = simp append_assoc

span_leaves : (x : Placed) (s : Span) {ys zs : List ℕ} {p : Option Fields} → length x.text < 2 ^ 63 → Fits s → Leaves ys p zs
    → Leaves (span_json x s ++ ys) (span_fields x s p) zs
unfolding span_json span_fields
span_leaves x s {ys} b f l =
    leaves_at (span_layout (offsets_json x s.lo.0 s.hi.0) (place_json x (codes "line") (codes "column") s.lo.0) (place_json x (codes "endLine") (codes "endColumn") s.hi.0) ys)
    (offsets_leave x s.lo.0 s.hi.0 b f.low f.high (place_leaves x (codes "line") (codes "column") s.lo.0 b refl refl
    (place_leaves x (codes "endLine") (codes "endColumn") s.hi.0 b refl refl l)))

-- ---- the other place

message_layout : (t ys : List ℕ) → first (codes "message") t ++ ys ≡ 123 ∷ named_text (codes "message") (quoted t ++ ys)
unfolding first quoted
message_layout t ys = refl

note_layout : (t s ys : List ℕ) → (key (codes "note") ++ (first (codes "message") t ++ (s ++ codes "}"))) ++ ys
    ≡ 44 ∷ named_text (codes "note") (first (codes "message") t ++ (s ++ (codes "}" ++ ys)))
unfolding key
note_layout t s ys = simp append_assoc

note_leaves : (x : Placed) (note : Option (Span × List ℕ)) {ys zs : List ℕ} {p : Option Fields} → length x.text < 2 ^ 63 → NoteFits note → Leaves ys p zs
    → Leaves (note_json x note ++ ys) (note_field x note p) zs
unfolding note_field
note_leaves x None b f l = l
note_leaves x (Some note) {ys} b f l =
    leaves_at (note_layout note.1 (span_json x note.0) ys)
    (inner_leaves (codes "note") refl
    (subst (λ us. Starts us (object (field (codes "message") (text note.1) (span_fields x note.0 done))) ys) (sym (message_layout note.1 (span_json x note.0 ++ (codes "}" ++ ys))))
    (object_starts (field_leaves (codes "message") refl (quoted_spells note.1) (span_leaves x note.0 b f end_leaves)))) l)

-- ---- the whole line

head_layout : (file severity kind message ys : List ℕ)
    → (first (codes "file") file ++ (string (codes "severity") severity ++ (string (codes "kind") kind ++ string (codes "message") message))) ++ ys
    ≡ 123 ∷ named_text (codes "file") (quoted file ++ (string (codes "severity") severity ++ (string (codes "kind") kind ++ (string (codes "message") message ++ ys))))
unfolding first quoted
head_layout file severity kind message ys = simp append_assoc

abbrev line_text : Placed → (file severity kind message : List ℕ) → Span → Option (Span × List ℕ) → List ℕ
line_text x file severity kind message s note =
    (first (codes "file") file ++ (string (codes "severity") severity ++ (string (codes "kind") kind ++ string (codes "message") message)))
    ++ (span_json x s ++ (note_json x note ++ codes "}\n"))

line_starts : (x : Placed) (file severity kind message : List ℕ) (s : Span) (note : Option (Span × List ℕ)) → length x.text < 2 ^ 63 → Fits s → NoteFits note
    → Starts (line_text x file severity kind message s note) (line x file severity kind message s note) (10 ∷ [])
unfolding line
line_starts x file severity kind message s note b f g =
    subst (λ us. Starts us (object (field (codes "file") (text file) (field (codes "severity") (text severity) (field (codes "kind") (text kind)
    (field (codes "message") (text message) (span_fields x s (note_field x note done))))))) (10 ∷ []))
    (sym (head_layout file severity kind message (span_json x s ++ (note_json x note ++ codes "}\n"))))
    (object_starts (field_leaves (codes "file") refl (quoted_spells file) (string_leaves (codes "severity") severity refl
    (string_leaves (codes "kind") kind refl (string_leaves (codes "message") message refl
    (span_leaves x s b f (note_leaves x note b g end_leaves)))))))

fault_starts : (x : Placed) (file severity : List ℕ) (e : Error) → length x.text < 2 ^ 63 → Fits e.span → NoteFits (note_of x.text e)
    → Starts (fault_json x file severity e) (fault x file severity e) (10 ∷ [])
unfolding fault_json head_json fault
fault_starts x file severity e b f g = line_starts x file severity (name_of (kind_of e.kind)) (message_of x.text e) e.span (note_of x.text e) b f g

-- a line feed is white space
line_parsed : (xs : List ℕ) (o : Option Json) (v : Json) → Starts xs o (10 ∷ []) → o ≡ Some v → parse_json xs ≡ Some v
line_parsed xs o v a e =
    let one : 2 * length xs + 1 ≡ suc (2 * length xs) = omega arith in
    let read : value (suc (2 * length xs)) xs ≡ read_first v (10 ∷ []) = ap (value (suc (2 * length xs))) (sym (append-nil xs)) ∙ (a.is v e).reads (2 * length xs) [] (omega arith) in
    ap (λ n. alone (value n xs)) one ∙ ap alone read

pub faults_read_back : FaultsReadBack
faults_read_back x file severity e v b f g h = line_parsed (fault_json x file severity e) (fault x file severity e) v (fault_starts x file severity e b f g) h
