-- How the pieces are read of which a node is written.
use Rattle.std.proofs.Common.{◌≡◌, ℕ, zero, suc, List, [], ◌∷◌, ◌++◌, ◌+◌, ◌-◌, ◌*◌, ◌<◌, ◌≤◌, ◌^◌, Bool, true, false, cond, not, Option, Some, None, arith, refl, ap, ap₂, sym, ◌∙◌, subst, append_assoc, append-nil, length-append, codes, decimal, length, take, drop}
use Rattle.ecma_estree_json.specs.Json as form
use Rattle.ecma_estree_json.specs.Json.{Json, Jsons, Fields}
use Rattle.ecma_estree_json.specs.Law.{AddsFields}
use Rattle.ecma_estree_json.specs.Made.{done, field, object, none, item, list, null, flag, word, text, number, count}
use Rattle.ecma_estree_json.specs.Parts.{Form, spot, loc_field, range_field, place, parenthesis, decorators_field, directive_text, directive_field, phase_fields, appended, and_fields}
use Rattle.ecma_estree_json.specs.Parts.{node_at as node_json, identifier as identifier_json, word_name as word_name_json, literal as literal_json, big_literal as big_literal_json, optional_text as optional_text_json, regex_literal as regex_literal_json, template_element as template_element_json, property as property_json, member as member_json, function_fields as function_fields_json, accessor as accessor_json}
use Rattle.ecma_estree_json.specs.Reading.{First, first, refused, is_numeral, behind_mark, more_fields}
use Rattle.ecma_estree_json.proofs.Bounds.{offset_small, IsSmall, spot_small}
use Rattle.ecma_estree_json.proofs.Chars.{all_simple}
use Rattle.ecma_estree_json.proofs.Numbers.{stops}
use Rattle.ecma_estree_json.proofs.Values.{Value, Leaving, Spells, Starts, Leaves, Opens, Continues, no_value, no_start, no_fields, no_opens, no_continues, leaves_some, spells_some, null_spells, true_spells, false_spells, text_spells, word_spells, number_spells, decimal_spells, mark_not}
use Rattle.ecma_estree_json.proofs.Objects.{whole, named_text, field_leaves, inner_leaves, end_leaves, object_starts, none_opens, none_continues, item_opens, item_continues, one_opens, list_starts}
use Rattle.ecma_estree_json.proofs.Words.{digits_simple}
use Rattle.ecma_estree_text.specs.Bracket.{bracket}
use Rattle.ecma_estree_text.specs.Number.{digits_text}
use Rattle.ecma_estree_text.specs.Places.{Placed, offset, spot_text, spots_text, loc_text, range_text, place_fields}
use Rattle.ecma_estree_text.specs.Quoted.{quoted, inner_quoted, regex_text}
use Rattle.ecma_estree_text.specs.Spots.{spot_at}
use Rattle.ecma_estree_text.specs.declared.spot.Spot.{Spot}
use Rattle.ecma_estree_writer.specs.Estree.{accessor, function_fields, member_head, property}
use Rattle.ecma_estree_writer.specs.Parts.{node_at, key, word_field, bool_field, end, open_list, end_list, nothing, comma, identifier, word_name, literal, big_literal, first_key, optional_text, regex_literal, template_element, text_end, directive, phase_field}
use Rattle.ecma_estree_writer.specs.Words.{bool_word}
use Rattle.swc_ecma_parser_common.specs.declared.span.Span.{Span}
use Rattle.swc_ecma_parser_model.specs.Forms.{span_of}
use Rattle.swc_ecma_parser_model.specs.Tree as tree
use Rattle.swc_ecma_parser_model.specs.Tree.{Tree, Text}
use Rattle.swc_ecma_parser_model.specs.declared.leaves.ImportPhase.{ImportPhase}
use Rattle.swc_ecma_parser_model.specs.declared.leaves.ImportPhase.TheVariants as phase

pub record Fits (f : Form) : Type 0 where
  pub bounded : length f.source.places.text < 2 ^ 63
  pub adds : AddsFields f.source.fields f.fields

-- ---- a text that is another

pub spells_at : {xs ys : List ℕ} {o : Option Json} → xs ≡ ys → Spells ys o → Spells xs o
spells_at {xs} {ys} {o} e a = subst (λ zs. Spells zs o) (sym e) a

pub starts_at : {xs ys zs : List ℕ} {o : Option Json} → xs ≡ ys → Starts ys o zs → Starts xs o zs
starts_at {xs} {ys} {zs} {o} e a = subst (λ us. Starts us o zs) (sym e) a

pub leaves_at : {xs ys zs : List ℕ} {p : Option Fields} → xs ≡ ys → Leaves ys p zs → Leaves xs p zs
leaves_at {xs} {ys} {zs} {p} e a = subst (λ us. Leaves us p zs) (sym e) a

opens_at : {xs ys : List ℕ} {p : Option Jsons} → xs ≡ ys → Opens ys p → Opens xs p
opens_at {xs} {ys} {p} e a = subst (λ us. Opens us p) (sym e) a

-- ---- one or another

pub either_spells : (b : Bool) {xs ys : List ℕ} {o p : Option Json} → Spells xs o → Spells ys p → Spells (cond b xs ys) (cond b o p)
either_spells true x y = x
either_spells false x y = y

pub either_opens : (b : Bool) {xs ys : List ℕ} {o p : Option Jsons} → Opens xs o → Opens ys p → Opens (cond b xs ys) (cond b o p)
either_opens true x y = x
either_opens false x y = y

-- ---- values

pub nothing_spells : Spells nothing null
unfolding nothing
nothing_spells = null_spells

pub quoted_spells : (s : List ℕ) → Spells (quoted s) (text s)
unfolding quoted
quoted_spells s = text_spells s

pub bool_spells : (b : Bool) → Spells (bool_word b) (flag b)
unfolding bool_word
bool_spells true = true_spells
bool_spells false = false_spells

-- ---- fields

key_text : (name xs : List ℕ) → key name ++ xs ≡ 44 ∷ named_text name xs
unfolding key
key_text name xs = ap (λ r. 44 ∷ 34 ∷ r) (append_assoc name (34 ∷ 58 ∷ []) xs)

pub field_reads : (name : List ℕ) {xs ys zs : List ℕ} {o : Option Json} {p : Option Fields} → all_simple name ≡ true → Spells xs o → Leaves ys p zs
    → Leaves (key name ++ (xs ++ ys)) (field name o p) zs
field_reads name {xs} {ys} h a b = leaves_at (key_text name (xs ++ ys)) (field_leaves name h a b)

pub inner_reads : (name : List ℕ) {xs ys zs : List ℕ} {o : Option Json} {p : Option Fields} → all_simple name ≡ true → Starts xs o ys → Leaves ys p zs
    → Leaves (key name ++ xs) (field name o p) zs
inner_reads name {xs} h a b = leaves_at (key_text name xs) (inner_leaves name h a b)

first_text : (name xs : List ℕ) → first_key name ++ xs ≡ 123 ∷ named_text name xs
unfolding first_key
first_text name xs = ap (λ r. 123 ∷ 34 ∷ r) (append_assoc name (34 ∷ 58 ∷ []) xs)

-- an object that is no node, by its first field
first_starts : (name : List ℕ) {xs ys zs : List ℕ} {o : Option Json} {p : Option Fields} → all_simple name ≡ true → Spells xs o → Leaves ys p zs
    → Starts (first_key name ++ (xs ++ ys)) (object (field name o p)) zs
first_starts name {xs} {ys} h a b = starts_at (first_text name (xs ++ ys)) (object_starts (field_leaves name h a b))

no_fields_spell : Spells (codes "{}") (object done)
unfolding object done
no_fields_spell = spells_some (record { reads = λ n rest h s. refl; begins = λ rest. refl })

list_begins : {xs ys : List ℕ} {p : Option Jsons} → Opens xs p → Starts (open_list ++ (xs ++ (end_list ++ ys))) (list p) ys
unfolding open_list end_list
list_begins a = list_starts a

pub list_reads : (name : List ℕ) {xs ys zs : List ℕ} {o : Option Jsons} {p : Option Fields} → all_simple name ≡ true → Opens xs o → Leaves ys p zs
    → Leaves (key name ++ (open_list ++ (xs ++ (end_list ++ ys)))) (field name (list o) p) zs
list_reads name h a b = inner_reads name h (list_begins a) b

pub empty_reads : (name : List ℕ) {ys zs : List ℕ} {p : Option Fields} → all_simple name ≡ true → Leaves ys p zs
    → Leaves (key name ++ (open_list ++ (end_list ++ ys))) (field name (list none) p) zs
empty_reads name h b = list_reads name h none_opens b

pub word_reads : (name w : List ℕ) {ys zs : List ℕ} {p : Option Fields} → all_simple name ≡ true → all_simple w ≡ true → Leaves ys p zs
    → Leaves (word_field name w ++ ys) (field name (word w) p) zs
unfolding word_field
word_reads name w {ys} h g b = leaves_at (append_assoc (key name) (34 ∷ (w ++ 34 ∷ [])) ys) (field_reads name h (word_spells w g) b)

pub bool_reads : (name : List ℕ) (b : Bool) {ys zs : List ℕ} {p : Option Fields} → all_simple name ≡ true → Leaves ys p zs
    → Leaves (bool_field name b ++ ys) (field name (flag b) p) zs
unfolding bool_field
bool_reads name b {ys} h a = leaves_at (append_assoc (key name) (bool_word b) ys) (field_reads name h (bool_spells b) a)

pub end_reads : {ys : List ℕ} → Leaves (end ++ ys) done ys
unfolding end
end_reads = end_leaves

pub last_reads : Leaves end done []
unfolding end
last_reads = end_leaves

-- ---- places

spot_spells : (p : Spot) → IsSmall p → Spells (spot_text p) (spot p)
unfolding spot spot_text
spot_spells p s =
    whole (object_starts (field_leaves (codes "line") refl (decimal_spells p.line s.line)
    (field_leaves (codes "column") refl (decimal_spells p.column (omega (arith, s.column))) end_leaves)))

loc_layout : (p q : Spot) (ys : List ℕ)
    → spots_text p q ++ ys ≡ codes ",\"loc\":{\"start\":" ++ (spot_text p ++ (codes ",\"end\":" ++ (spot_text q ++ (codes "}" ++ ys))))
loc_layout p q ys = simp append_assoc

loc_reads : (x : Placed) (a b : ℕ) {ys zs : List ℕ} {p : Option Fields} → length x.text < 2 ^ 63 → Leaves ys p zs
    → (is_there : Bool) → Leaves (cond is_there (loc_text x a b) [] ++ ys)
    (cond is_there (field (codes "loc") (object (field (codes "start") (spot (spot_at x.text a)) (field (codes "end") (spot (spot_at x.text b)) done))) p) p) zs
loc_reads x a b {ys} h l false = l
loc_reads x a b {ys} h l true =
    leaves_at (loc_layout (spot_at x.text a) (spot_at x.text b) ys)
    (inner_leaves (codes "loc") refl (object_starts (field_leaves (codes "start") refl (spot_spells (spot_at x.text a) (spot_small x.text a h))
    (field_leaves (codes "end") refl (spot_spells (spot_at x.text b) (spot_small x.text b h)) end_leaves))) l)

range_layout : (x : Placed) (a b : ℕ) (ys : List ℕ)
    → range_text x a b ++ ys ≡ codes ",\"range\":[" ++ ((decimal (offset x.text a) ++ (44 ∷ (decimal (offset x.text b) ++ []))) ++ 93 ∷ ys)
range_layout x a b ys = simp (append_assoc, append-nil)

range_reads : (x : Placed) (a b : ℕ) {ys zs : List ℕ} {p : Option Fields} → length x.text < 2 ^ 63 → Leaves ys p zs
    → (is_there : Bool) → Leaves (cond is_there (range_text x a b) [] ++ ys)
    (cond is_there (field (codes "range") (list (item (count (offset x.text a)) (item (count (offset x.text b)) none))) p) p) zs
range_reads x a b {ys} h l false = l
range_reads x a b {ys} h l true =
    leaves_at (range_layout x a b ys)
    (inner_leaves (codes "range") refl (list_starts (item_opens (decimal_spells (offset x.text a) (offset_small x.text a h))
    (item_continues (decimal_spells (offset x.text b) (offset_small x.text b h)) none_continues))) l)

further_reads : (x : Placed) (a b : ℕ) {ys zs : List ℕ} {p : Option Fields} → length x.text < 2 ^ 63 → Leaves ys p zs
    → Leaves (cond x.has_locations (loc_text x a b) [] ++ (cond x.has_ranges (range_text x a b) [] ++ ys)) (loc_field x a b (range_field x a b p)) zs
unfolding loc_field range_field
further_reads x a b h l = loc_reads x a b h (range_reads x a b h l x.has_ranges) x.has_locations

pub place_leaves : (x : Placed) (a b : ℕ) {ys zs : List ℕ} {p : Option Fields} → length x.text < 2 ^ 63 → Leaves ys p zs
    → Leaves (codes ",\"start\":" ++ (decimal (offset x.text a) ++ (codes ",\"end\":" ++ (decimal (offset x.text b)
    ++ (cond x.has_locations (loc_text x a b) [] ++ (cond x.has_ranges (range_text x a b) [] ++ ys)))))) (place x a b p) zs
unfolding place
place_leaves x a b h l =
    field_leaves (codes "start") refl (decimal_spells (offset x.text a) (offset_small x.text a h))
    (field_leaves (codes "end") refl (decimal_spells (offset x.text b) (offset_small x.text b h)) (further_reads x a b h l))

-- ---- nodes

pub type_leaves : (kind : List ℕ) {ys zs : List ℕ} {p : Option Fields} → all_simple kind ≡ true → Leaves ys p zs
    → Leaves (codes ",\"type\":\"" ++ (kind ++ 34 ∷ ys)) (field (codes "type") (word kind) p) zs
type_leaves kind {ys} h a =
    leaves_at (ap (λ r. codes ",\"type\":\"" ++ r) (sym (append_assoc kind (34 ∷ []) ys))) (field_leaves (codes "type") refl (word_spells kind h) a)

layout : (f : Form) (kind : List ℕ) (a b : ℕ) (ys : List ℕ) → node_at f.source kind a b ++ ys
    ≡ codes "{\"type\":\"" ++ (kind ++ 34 ∷ (codes ",\"start\":" ++ (decimal (offset f.source.places.text a) ++ (codes ",\"end\":"
    ++ (decimal (offset f.source.places.text b) ++ (cond f.source.places.has_locations (loc_text f.source.places a b) []
    ++ (cond f.source.places.has_ranges (range_text f.source.places a b) [] ++ ys)))))))
unfolding node_at place_fields
layout f kind a b ys = simp append_assoc

pub node_starts : (f : Form) (kind : List ℕ) (a b : ℕ) {ys zs : List ℕ} {p : Option Fields} → Fits f → all_simple kind ≡ true → Leaves ys p zs
    → Starts (node_at f.source kind a b ++ ys) (node_json f kind a b p) zs
unfolding node_json
node_starts f kind a b {ys} w h l = starts_at (layout f kind a b ys) (object_starts (type_leaves kind h (place_leaves f.source.places a b w.bounded l)))

pub identifier_spells : (f : Form) (s : Span) (name : Text) → Fits f → Spells (identifier f.source s name) (identifier_json f s name)
unfolding identifier identifier_json
identifier_spells f s name w = whole (node_starts f (codes "Identifier") s.lo.0 s.hi.0 w refl (field_reads (codes "name") refl (quoted_spells name) last_reads))

pub word_name_spells : (f : Form) (name : List ℕ) (a b : ℕ) → Fits f → all_simple name ≡ true → Spells (word_name f.source name a b) (word_name_json f name a b)
unfolding word_name word_name_json
word_name_spells f name a b w h = whole (node_starts f (codes "Identifier") a b w refl (word_reads (codes "name") name refl h last_reads))

pub literal_spells : (f : Form) (s : Span) {value : List ℕ} (raw : List ℕ) {o : Option Json} → Fits f → Spells value o
    → Spells (literal f.source s value raw) (literal_json f s o raw)
unfolding literal literal_json
literal_spells f s raw w v =
    whole (node_starts f (codes "Literal") s.lo.0 s.hi.0 w refl (field_reads (codes "value") refl v
    (field_reads (codes "raw") refl (quoted_spells raw) last_reads)))

digits_layout : (raw : Text) → codes "\"" ++ (digits_text raw ++ (codes "\"" ++ end)) ≡ (34 ∷ (digits_text raw ++ 34 ∷ [])) ++ end
digits_layout raw = ap (λ r. 34 ∷ r) (sym (append_assoc (digits_text raw) (34 ∷ []) end))

pub big_literal_spells : (f : Form) (s : Span) (raw : Text) → Fits f → Spells (big_literal f.source s raw) (big_literal_json f s raw)
unfolding big_literal big_literal_json
big_literal_spells f s raw w =
    whole (node_starts f (codes "Literal") s.lo.0 s.hi.0 w refl (field_reads (codes "value") refl nothing_spells
    (field_reads (codes "raw") refl (quoted_spells raw)
    (leaves_at (ap (λ r. key (codes "bigint") ++ r) (digits_layout raw)) (field_reads (codes "bigint") refl (word_spells (digits_text raw) (digits_simple raw)) last_reads)))))

pub regex_spells : (f : Form) (s : Span) (exp flags : Text) → Fits f → Spells (regex_literal f.source s exp flags) (regex_literal_json f s exp flags)
unfolding regex_literal regex_literal_json
regex_spells f s exp flags w =
    whole (node_starts f (codes "Literal") s.lo.0 s.hi.0 w refl (field_reads (codes "value") refl no_fields_spell
    (field_reads (codes "raw") refl (quoted_spells (regex_text exp flags)) (inner_reads (codes "regex") refl
    (first_starts (codes "pattern") refl (quoted_spells exp) (field_reads (codes "flags") refl (quoted_spells flags) end_reads)) last_reads))))

optional_spells : (o : Option Text) → Spells (optional_text o) (optional_text_json o)
optional_spells None = nothing_spells
optional_spells (Some s) = quoted_spells s

pub element_spells : (f : Form) (s : Span) (tail : Bool) (cooked : Option Text) (raw : Text) → Fits f
    → Spells (template_element f.source s tail cooked raw) (template_element_json f s tail cooked raw)
unfolding template_element template_element_json
element_spells f s tail cooked raw w =
    whole (node_starts f (codes "TemplateElement") (s.lo.0 + 1) (text_end s tail) w refl (inner_reads (codes "value") refl
    (first_starts (codes "raw") refl (quoted_spells raw) (field_reads (codes "cooked") refl (optional_spells cooked) end_reads))
    (bool_reads (codes "tail") tail refl last_reads)))

-- ---- how properties, members and functions begin

property_layout : (n a b c ys : List ℕ) → (n ++ (a ++ (b ++ c))) ++ ys ≡ n ++ (a ++ (b ++ (c ++ ys)))
property_layout n a b c ys = simp append_assoc

pub property_starts : (f : Form) (s : Span) (a b c : Bool) {ys zs : List ℕ} {p : Option Fields} → Fits f → Leaves ys p zs
    → Starts (property f.source s a b c ++ ys) (property_json f s a b c p) zs
unfolding property_json
property_starts f s a b c {ys} w l =
    starts_at (property_layout (node_at f.source (codes "Property") s.lo.0 s.hi.0) (bool_field (codes "method") a) (bool_field (codes "shorthand") b) (bool_field (codes "computed") c) ys)
    (node_starts f (codes "Property") s.lo.0 s.hi.0 w refl (bool_reads (codes "method") a refl (bool_reads (codes "shorthand") b refl (bool_reads (codes "computed") c refl l))))

pub member_starts : (f : Form) (kind : List ℕ) (s : Span) (a b : Bool) {xs ys zs : List ℕ} {o : Option Json} {p : Option Fields} → Fits f → all_simple kind ≡ true
    → Spells xs o → Leaves ys p zs → Starts (member_head f.source kind s a b ++ (xs ++ ys)) (member_json f kind s a b o p) zs
unfolding member_json
member_starts f kind s a b {xs} {ys} w h k l =
    starts_at (property_layout (node_at f.source kind s.lo.0 s.hi.0) (bool_field (codes "static") a) (bool_field (codes "computed") b) (key (codes "key")) (xs ++ ys))
    (node_starts f kind s.lo.0 s.hi.0 w h (bool_reads (codes "static") a refl (bool_reads (codes "computed") b refl (field_reads (codes "key") refl k l))))

function_layout : (k n a b c ys : List ℕ) → (k ++ (n ++ (a ++ (b ++ c)))) ++ ys ≡ k ++ (n ++ (a ++ (b ++ (c ++ ys))))
function_layout k n a b c ys = simp append_assoc

pub function_fields_read : (name : List ℕ) (a b c : Bool) {ys zs : List ℕ} {o : Option Json} {p : Option Fields} → Spells name o → Leaves ys p zs
    → Leaves (function_fields name a b c ++ ys) (function_fields_json o a b c p) zs
unfolding function_fields_json
function_fields_read name a b c {ys} n l =
    leaves_at (function_layout (key (codes "id")) name (bool_field (codes "expression") a) (bool_field (codes "generator") b) (bool_field (codes "async") c) ys)
    (field_reads (codes "id") refl n (bool_reads (codes "expression") a refl (bool_reads (codes "generator") b refl (bool_reads (codes "async") c refl l))))

pub accessor_starts : (f : Form) (k : Tree) (s : Span) {ys zs : List ℕ} {p : Option Fields} → Fits f → Leaves ys p zs
    → Starts (accessor f.source k s ++ ys) (accessor_json f k s p) zs
unfolding accessor_json
accessor_starts f k s {ys} w l =
    starts_at (append_assoc (node_at f.source (codes "FunctionExpression") (parenthesis f k) s.hi.0) (function_fields nothing false false false) ys)
    (node_starts f (codes "FunctionExpression") (parenthesis f k) s.hi.0 w refl (function_fields_read nothing false false false nothing_spells l))

-- ---- fields that are there in some cases

decorators_layout : (k o xs e ys : List ℕ) → (k ++ (o ++ (xs ++ e))) ++ ys ≡ k ++ (o ++ (xs ++ (e ++ ys)))
decorators_layout k o xs e ys = simp append_assoc

pub decorators_read : (is_empty : Bool) {xs ys zs : List ℕ} {o : Option Jsons} {p : Option Fields} → Opens xs o → Leaves ys p zs
    → Leaves (cond is_empty [] (key (codes "decorators") ++ (open_list ++ (xs ++ end_list))) ++ ys) (decorators_field is_empty o p) zs
unfolding decorators_field
decorators_read true a l = l
decorators_read false {xs} {ys} a l = leaves_at (decorators_layout (key (codes "decorators")) open_list xs end_list ys) (list_reads (codes "decorators") refl a l)

inner_spells : (s : List ℕ) → Spells (inner_quoted s) (text (take (length s - 2) (drop 1 s)))
unfolding inner_quoted
inner_spells s = text_spells (take (length s - 2) (drop 1 s))

directive_there : (e : Tree) {ys zs : List ℕ} {p : Option Fields} → Leaves ys p zs → Leaves (directive e ++ ys) (directive_text e p) zs
unfolding directive_text
directive_there (tree.str s value raw) {ys} l =
    leaves_at (append_assoc (key (codes "directive")) (inner_quoted raw) ys) (field_reads (codes "directive") refl (inner_spells raw) l)
directive_there _ l = l

pub directive_reads : (b : Bool) (e : Tree) {ys zs : List ℕ} {p : Option Fields} → Leaves ys p zs → Leaves (cond b (directive e) [] ++ ys) (directive_field b e p) zs
unfolding directive_field
directive_reads true e l = directive_there e l
directive_reads false e l = l

pub phase_reads : (x : ImportPhase) {ys zs : List ℕ} {p : Option Fields} → Leaves ys p zs → Leaves (phase_field x ++ ys) (phase_fields x p) zs
unfolding phase_field phase_fields
phase_reads phase.Evaluation l = l
phase_reads phase.Source l = word_reads (codes "phase") (codes "source") refl refl l
phase_reads phase.Defer l = word_reads (codes "phase") (codes "defer") refl refl l

-- what fields are read of begins with no byte of a number
stop_if : (t : Bool) (b : ℕ) (bs : List ℕ) (n : ℕ) (fs : Fields) (more : List ℕ) → is_numeral b ≡ t → more_fields (suc n) (b ∷ bs) ≡ first fs more → not t ≡ true
stop_if false b bs n fs more e h = refl
stop_if true b bs n fs more e h =
    let none_read : more_fields (suc n) (b ∷ bs) ≡ refused = rw (mark_not b 125 bs e refl, more_fields) (rw (mark_not b 44 bs e refl) refl) in
    cc

pub stop_of : (bs : List ℕ) (n : ℕ) (fs : Fields) (more : List ℕ) → more_fields (suc n) bs ≡ first fs more → stops bs ≡ true
stop_of [] n fs more h = refl
stop_of (b ∷ bs) n fs more h = stop_if (is_numeral b) b bs n fs more refl h

added_leaving : (xs ys zs : List ℕ) (fs gs : Fields) → AddsFields xs fs → Leaving ys gs zs → Leaving (xs ++ ys) (appended fs gs) zs
added_leaving xs ys zs fs gs a l =
    let all : (n : ℕ) (rest : List ℕ) → 2 * length (xs ++ ys) ≤ n + 1 → more_fields (suc n) ((xs ++ ys) ++ rest) ≡ first (appended fs gs) (zs ++ rest)
    = λ n rest h. ap (more_fields (suc n)) (append_assoc xs ys rest)
    ∙ a.adds gs (ys ++ rest) (zs ++ rest) (2 * length ys) (λ m g. l.reads m rest g) n (omega (arith, length-append xs ys)) in
    record {
      reads = all;
      stop = λ rest. stop_of ((xs ++ ys) ++ rest) (2 * length (xs ++ ys)) (appended fs gs) (zs ++ rest) (all (2 * length (xs ++ ys)) rest (omega arith));
      longer = let long = l.longer in omega (arith, length-append xs ys);
    }

pub added_read : {f : Form} {ys zs : List ℕ} {p : Option Fields} → Fits f → Leaves ys p zs → Leaves (f.source.fields ++ ys) (and_fields f.fields p) zs
unfolding and_fields
added_read {f} {ys} {zs} {p = None} w l = no_fields
added_read {f} {ys} {zs} {p = Some gs} w l = leaves_some (added_leaving f.source.fields ys zs f.fields gs w.adds (l.is gs refl))

-- ---- the values of a list, the first of which has no comma before it

pub record Listed (is_first : Bool) (xs : List ℕ) (o : Option Jsons) : Type 0 where
  pub opens : is_first ≡ true → Opens xs o
  pub continues : is_first ≡ false → Continues xs o

pub no_listed : (is_first : Bool) {xs : List ℕ} → Listed is_first xs None
no_listed is_first = record { opens = λ e. no_opens; continues = λ e. no_continues }

pub none_listed : (is_first : Bool) → Listed is_first [] none
none_listed is_first = record { opens = λ e. none_opens; continues = λ e. none_continues }

pub either_listed : (is_first b : Bool) {xs ys : List ℕ} {o p : Option Jsons} → Listed is_first xs o → Listed is_first ys p → Listed is_first (cond b xs ys) (cond b o p)
either_listed is_first true x y = x
either_listed is_first false x y = y

pub item_listed : (is_first : Bool) {xs ys : List ℕ} {o : Option Json} {p : Option Jsons} → Spells xs o → Listed false ys p → Listed is_first (comma is_first ++ (xs ++ ys)) (item o p)
unfolding comma
item_listed true a b = record { opens = λ e. item_opens a (b.continues refl); continues = λ e. cc }
item_listed false a b = record { opens = λ e. cc; continues = λ e. item_continues a (b.continues refl) }

-- one that stands alone
pub bare_reads : {xs : List ℕ} {o : Option Json} → Spells xs o → Spells (comma true ++ (xs ++ [])) o
unfolding comma
bare_reads {xs} a = spells_at (append-nil xs) a
