-- How the pieces are read that a node is written of.
use Rattle.std.proofs.Common.{◌≡◌, ℕ, List, [], ◌∷◌, ◌++◌, ◌+◌, ◌-◌, ◌<◌, ◌^◌, Bool, true, false, cond, refl, ap, ap₂, sym, ◌∙◌, append_assoc, append-nil, codes, decimal, length, take, drop, Option, Some, None}
use Rattle.ecma_estree_text.specs.Bracket.{bracket}
use Rattle.ecma_estree_text.specs.Number.{digits_text}
use Rattle.ecma_estree_text.specs.Places.{Placed, offset, spot_text, spots_text, loc_text, range_text, place_fields}
use Rattle.ecma_estree_text.specs.Quoted.{quoted, inner_quoted, regex_text}
use Rattle.ecma_estree_text.specs.Spots.{spot_at}
use Rattle.ecma_estree_text.specs.Strings.{string_text}
use Rattle.ecma_estree_text.specs.declared.spot.Spot.{Spot}
use Rattle.ecma_estree_nodes.specs.Nodes.{node_of, at, method_value}
use Rattle.ecma_estree_nodes.specs.Reading.{Node, inside, to_quote, from_quote, behind, named, started, ended, read_from, read, IsClosed}
use Rattle.ecma_estree_nodes.proofs.Numbers.{stops, Digits, digits_of_decimal, number_stops, offset_small}
use Rattle.ecma_estree_nodes.proofs.Scan.{all_calm, and_yes, calm, calm_tests, calm_outside, calm_inside, decimal_calm, digits_calm, wrapped_read, string_closed}
use Rattle.ecma_estree_writer.specs.Estree.{accessor, function_fields, member_head, property}
use Rattle.ecma_estree_writer.specs.Parts.{node_at, key, word_field, bool_field, end, open_list, end_list, nothing, comma, identifier, word_name, literal, big_literal, first_key, optional_text, regex_literal, template_element, text_end, directive, phase_field}
use Rattle.ecma_estree_writer.specs.Source.{Source}
use Rattle.ecma_estree_writer.specs.Words.{bool_word}
use Rattle.swc_ecma_parser_common.specs.declared.span.Span.{Span}
use Rattle.swc_ecma_parser_model.specs.Forms.{span_of}
use Rattle.swc_ecma_parser_model.specs.Tree as tree
use Rattle.swc_ecma_parser_model.specs.Tree.{Tree, Text}
use Rattle.swc_ecma_parser_model.specs.declared.leaves.ImportPhase.{ImportPhase}
use Rattle.swc_ecma_parser_model.specs.declared.leaves.ImportPhase.TheVariants as phase

-- a text of these nodes, whatever stands behind it
pub record Reads (xs : List ℕ) (ns : List Node) : Type 0 where
  pub reads : (rest : List ℕ) → read (xs ++ rest) ≡ ns ++ read rest

-- a text of no node, which may stand behind a number
pub record Mark (xs : List ℕ) : Type 0 where
  pub quiet : Reads xs []
  pub stop : (rest : List ℕ) → stops (xs ++ rest) ≡ true

pub both : {xs ys : List ℕ} {ns ms : List Node} → Reads xs ns → Reads ys ms → Reads (xs ++ ys) (ns ++ ms)
both {xs} {ys} {ns} {ms} a b = record {
  reads = λ rest. ap read (append_assoc xs ys rest) ∙ a.reads (ys ++ rest) ∙ ap (λ r. ns ++ r) (b.reads rest) ∙ sym (append_assoc ns ms (read rest));
}

pub skip : {xs ys : List ℕ} {ns : List Node} → Reads xs [] → Reads ys ns → Reads (xs ++ ys) ns
skip a b = both a b

pub past : {xs ys : List ℕ} {ns : List Node} → Mark xs → Reads ys ns → Reads (xs ++ ys) ns
past a b = both a.quiet b

pub last : {xs ys : List ℕ} {ns : List Node} → Reads xs ns → Reads ys [] → Reads (xs ++ ys) ns
last {xs} {ys} {ns} a b = record {
  reads = λ rest. ap read (append_assoc xs ys rest) ∙ a.reads (ys ++ rest) ∙ ap (λ r. ns ++ r) (b.reads rest);
}

pub none_read : Reads [] []
none_read = record { reads = λ rest. refl }

pub either : (b : Bool) {xs ys : List ℕ} {ns ms : List Node} → Reads xs ns → Reads ys ms → Reads (cond b xs ys) (cond b ns ms)
either true x y = x
either false x y = y

pub neither : (b : Bool) {xs ys : List ℕ} → Reads xs [] → Reads ys [] → Reads (cond b xs ys) []
neither true x y = x
neither false x y = y

-- a text is read as it is by itself
pub by_itself : {xs : List ℕ} {ns : List Node} → Reads xs ns → Reads xs (read xs)
by_itself {xs} {ns} a =
    let whole : read xs ≡ ns = ap read (sym (append-nil xs)) ∙ a.reads [] ∙ append-nil ns in
    record { reads = λ rest. a.reads rest ∙ ap (λ ms. ms ++ read rest) (sym whole) }

pub as_read : {xs : List ℕ} {ns : List Node} → Reads xs ns → read xs ≡ ns
as_read {xs} {ns} a = ap read (sym (append-nil xs)) ∙ a.reads [] ∙ append-nil ns

-- ---- marks

pub key_mark : (name : List ℕ) → all_calm name ≡ true → Mark (key name)
unfolding key
key_mark name h = record {
  quiet = record { reads = λ rest. ap (read_from inside) (append_assoc name (codes "\":") rest) ∙ calm_inside name (codes "\":" ++ rest) h };
  stop = λ rest. refl;
}

quotes_read : (word : List ℕ) → all_calm word ≡ true → Reads (codes "\"" ++ (word ++ codes "\"")) []
quotes_read word h = record { reads = λ rest. ap (read_from inside) (append_assoc word (codes "\"") rest) ∙ calm_inside word (codes "\"" ++ rest) h }

mark_then : {xs ys : List ℕ} → Mark xs → Reads ys [] → Mark (xs ++ ys)
mark_then {xs} {ys} a b = record { quiet = both a.quiet b; stop = λ rest. ap stops (append_assoc xs ys rest) ∙ a.stop (ys ++ rest) }

pub word_mark : (name word : List ℕ) → all_calm name ≡ true → all_calm word ≡ true → Mark (word_field name word)
unfolding word_field
word_mark name word h g = mark_then (key_mark name h) (quotes_read word g)

pub bool_read : (b : Bool) → Reads (bool_word b) []
unfolding bool_word
bool_read true = record { reads = λ rest. refl }
bool_read false = record { reads = λ rest. refl }

pub bool_mark : (name : List ℕ) (b : Bool) → all_calm name ≡ true → Mark (bool_field name b)
unfolding bool_field
bool_mark name b h = mark_then (key_mark name h) (bool_read b)

pub end_mark : Mark end
unfolding end
end_mark = record { quiet = record { reads = λ rest. refl }; stop = λ rest. refl }

pub open_list_mark : Mark open_list
unfolding open_list
open_list_mark = record { quiet = record { reads = λ rest. refl }; stop = λ rest. refl }

pub end_list_mark : Mark end_list
unfolding end_list
end_list_mark = record { quiet = record { reads = λ rest. refl }; stop = λ rest. refl }

pub nothing_mark : Mark nothing
unfolding nothing
nothing_mark = record { quiet = record { reads = λ rest. refl }; stop = λ rest. refl }

pub comma_read : (is_first : Bool) → Reads (comma is_first) []
unfolding comma
comma_read true = record { reads = λ rest. refl }
comma_read false = record { reads = λ rest. refl }

pub calm_read : (xs : List ℕ) → all_calm xs ≡ true → Reads xs []
calm_read xs h = record { reads = λ rest. calm_outside xs rest h }

pub quoted_mark : (s : List ℕ) → Mark (quoted s)
unfolding quoted
quoted_mark s = record { quiet = record { reads = λ rest. wrapped_read s rest }; stop = λ rest. refl }

pub string_read : (value raw : Text) → Reads (string_text value raw) []
string_read value raw = record { reads = λ rest. string_closed value raw rest }

pub inner_read : (s : List ℕ) → Reads (inner_quoted s) []
unfolding inner_quoted
inner_read s = record { reads = λ rest. wrapped_read (take (length s - 2) (drop 1 s)) rest }

-- a text that is written out
pub fixed : (xs : List ℕ) → ((rest : List ℕ) → read (xs ++ rest) ≡ read rest) → Reads xs []
fixed xs f = record { reads = f }

-- ---- how a node begins

spot_read : (p : Spot) → Reads (spot_text p) []
unfolding spot_text
spot_read p =
    skip (fixed (codes "{\"line\":") (λ rest. refl)) (skip (calm_read (decimal p.line) (decimal_calm p.line))
    (skip (fixed (codes ",\"column\":") (λ rest. refl)) (skip (calm_read (decimal p.column) (decimal_calm p.column)) (fixed (codes "}") (λ rest. refl)))))

spots_read : (p q : Spot) → Reads (spots_text p q) []
spots_read p q =
    skip (fixed (codes ",\"loc\":{\"start\":") (λ rest. refl)) (skip (spot_read p)
    (skip (fixed (codes ",\"end\":") (λ rest. refl)) (skip (spot_read q) (fixed (codes "}") (λ rest. refl)))))

range_read : (x : Placed) (a b : ℕ) → Reads (range_text x a b) []
range_read x a b =
    skip (fixed (codes ",\"range\":[") (λ rest. refl)) (skip (calm_read (decimal (offset x.text a)) (decimal_calm (offset x.text a)))
    (skip (fixed (codes ",") (λ rest. refl)) (skip (calm_read (decimal (offset x.text b)) (decimal_calm (offset x.text b))) (fixed (codes "]") (λ rest. refl)))))

-- what stands behind the two offsets
abbrev pub further : Placed → (a b : ℕ) → List ℕ
further x a b = cond x.has_locations (loc_text x a b) [] ++ cond x.has_ranges (range_text x a b) []

pub further_read : (x : Placed) (a b : ℕ) → Reads (further x a b) []
further_read x a b =
    skip (neither x.has_locations (spots_read (spot_at x.text a) (spot_at x.text b)) none_read) (neither x.has_ranges (range_read x a b) none_read)

stop_of : (b : Bool) (xs rest : List ℕ) → ((r : List ℕ) → stops (xs ++ r) ≡ true) → stops rest ≡ true → stops (cond b xs [] ++ rest) ≡ true
stop_of true xs rest f h = f rest
stop_of false xs rest f h = h

further_stops : (x : Placed) (a b : ℕ) (rest : List ℕ) → stops rest ≡ true → stops (further x a b ++ rest) ≡ true
further_stops x a b rest h =
    ap stops (append_assoc (cond x.has_locations (loc_text x a b) []) (cond x.has_ranges (range_text x a b) []) rest)
    ∙ stop_of x.has_locations (loc_text x a b) (cond x.has_ranges (range_text x a b) [] ++ rest) (λ r. refl)
    (stop_of x.has_ranges (range_text x a b) rest (λ r. refl) h)

-- ---- a word up to its quote

pub to_quote_word : (word rest : List ℕ) → all_calm word ≡ true → to_quote (word ++ 34 ∷ rest) ≡ word
to_quote_word [] rest h = refl
to_quote_word (b ∷ bs) rest h =
    let p = and_yes (calm b) (all_calm bs) h in
    let c = calm_tests b p.0 in
    rw (c.quote) (ap (λ w. b ∷ w) (to_quote_word bs rest p.1))

pub from_quote_word : (word rest : List ℕ) → all_calm word ≡ true → from_quote (word ++ 34 ∷ rest) ≡ 34 ∷ rest
from_quote_word [] rest h = refl
from_quote_word (b ∷ bs) rest h =
    let p = and_yes (calm b) (all_calm bs) h in
    let c = calm_tests b p.0 in
    rw (c.quote) (from_quote_word bs rest p.1)

-- ---- the head of a node, at the digits of its offsets

abbrev made : (kind : List ℕ) → (start end : ℕ) → Node
made kind m n = record { kind = kind; start = m; end = n }

ended_read : (kind : List ℕ) (m n : ℕ) (ds rest : List ℕ) → Digits n ds → stops rest ≡ true → ended kind m (Some (ds ++ rest)) ≡ made kind m n ∷ []
ended_read kind m n ds rest d h = ap (λ k. made kind m k ∷ []) (d.value rest ∙ number_stops n rest h)

started_read : (kind : List ℕ) (m n : ℕ) (cs ds rest : List ℕ) → Digits m cs → Digits n ds → stops rest ≡ true
    → started kind (Some (cs ++ (codes ",\"end\":" ++ (ds ++ rest)))) ≡ made kind m n ∷ []
started_read kind m n cs ds rest c d h =
    ap₂ (λ k r. ended kind k (behind (codes ",\"end\":") r)) (c.value (codes ",\"end\":" ++ (ds ++ rest))) (c.rest (codes ",\"end\":" ++ (ds ++ rest)))
    ∙ ended_read kind m n ds rest d h

-- what stands behind the quote that ends the word
abbrev tail_of : (cs ds rest : List ℕ) → List ℕ
tail_of cs ds rest = codes ",\"start\":" ++ (cs ++ (codes ",\"end\":" ++ (ds ++ rest)))

-- what stands behind the word
abbrev behind_word : (cs ds rest : List ℕ) → List ℕ
behind_word cs ds rest = codes "\",\"start\":" ++ (cs ++ (codes ",\"end\":" ++ (ds ++ rest)))

opened_read : (kind : List ℕ) (m n : ℕ) (cs ds rest : List ℕ) → all_calm kind ≡ true → Digits m cs → Digits n ds → stops rest ≡ true
    → named (Some (kind ++ behind_word cs ds rest)) ≡ made kind m n ∷ []
opened_read kind m n cs ds rest w c d h =
    ap₂ (λ k r. started k (behind (codes "\",\"start\":") r)) (to_quote_word kind (tail_of cs ds rest) w) (from_quote_word kind (tail_of cs ds rest) w)
    ∙ started_read kind m n cs ds rest c d h

passed : (kind cs ds rest : List ℕ) → all_calm kind ≡ true → all_calm cs ≡ true → all_calm ds ≡ true
    → read_from inside (kind ++ behind_word cs ds rest) ≡ read rest
passed kind cs ds rest w c d =
    calm_inside kind (behind_word cs ds rest) w
    ∙ calm_outside cs (codes ",\"end\":" ++ (ds ++ rest)) c
    ∙ calm_outside ds rest d

head_read : (kind : List ℕ) (m n : ℕ) (rest : List ℕ) → all_calm kind ≡ true → m < 2 ^ 64 → n < 2 ^ 64 → stops rest ≡ true
    → read (codes "{\"type\":\"" ++ (kind ++ behind_word (decimal m) (decimal n) rest)) ≡ made kind m n ∷ read rest
head_read kind m n rest w f g h =
    ap₂ (λ a b. a ++ b) (opened_read kind m n (decimal m) (decimal n) rest w (digits_of_decimal m f) (digits_of_decimal n g) h)
    (passed kind (decimal m) (decimal n) rest w (decimal_calm m) (decimal_calm n))

-- the text of a node's head, with what stands behind it
laid_out : (t : Source) (kind : List ℕ) (a b : ℕ) (rest : List ℕ) → node_at t kind a b ++ rest
    ≡ codes "{\"type\":\"" ++ (kind ++ behind_word (decimal (offset t.places.text a)) (decimal (offset t.places.text b)) (further t.places a b ++ rest))
unfolding node_at place_fields
laid_out t kind a b rest = simp append_assoc

pub node_read : (t : Source) (kind : List ℕ) (a b : ℕ) (rest : List ℕ) → length t.places.text < 2 ^ 63 → all_calm kind ≡ true → stops rest ≡ true
    → read (node_at t kind a b ++ rest) ≡ node_of t kind a b ∷ read rest
node_read t kind a b rest f w h =
    ap read (laid_out t kind a b rest)
    ∙ head_read kind (offset t.places.text a) (offset t.places.text b) (further t.places a b ++ rest) w
    (offset_small t.places.text a f) (offset_small t.places.text b f) (further_stops t.places a b rest h)
    ∙ ap (λ ns. node_of t kind a b ∷ ns) ((further_read t.places a b).reads rest)

-- ---- nodes

pub begin_any : (t : Source) (kind : List ℕ) (a b : ℕ) (xs : List ℕ) {ns : List Node} → length t.places.text < 2 ^ 63 → all_calm kind ≡ true
    → ((rest : List ℕ) → stops (xs ++ rest) ≡ true) → Reads xs ns → Reads (node_at t kind a b ++ xs) (node_of t kind a b ∷ ns)
begin_any t kind a b xs {ns} f w stop r = record {
  reads = λ rest. ap read (append_assoc (node_at t kind a b) xs rest) ∙ node_read t kind a b (xs ++ rest) f w (stop rest) ∙ ap (λ ms. node_of t kind a b ∷ ms) (r.reads rest);
}

pub begin : (t : Source) (kind : List ℕ) (a b : ℕ) {xs ys : List ℕ} {ns : List Node} → length t.places.text < 2 ^ 63 → all_calm kind ≡ true
    → Mark xs → Reads ys ns → Reads (node_at t kind a b ++ (xs ++ ys)) (node_of t kind a b ∷ ns)
begin t kind a b {xs} {ys} f w m r = begin_any t kind a b (xs ++ ys) f w (λ rest. ap stops (append_assoc xs ys rest) ∙ m.stop (ys ++ rest)) (past m r)

pub alone : (t : Source) (kind : List ℕ) (a b : ℕ) {xs : List ℕ} → length t.places.text < 2 ^ 63 → all_calm kind ≡ true
    → Mark xs → Reads (node_at t kind a b ++ xs) (node_of t kind a b ∷ [])
alone t kind a b {xs} f w m = begin_any t kind a b xs f w m.stop m.quiet

pub record Fits (t : Source) : Type 0 where
  pub bounded : length t.places.text < 2 ^ 63
  pub closed : IsClosed t.fields

pub fields_read : {t : Source} → Fits t → Reads t.fields (read t.fields)
fields_read {t} f = record { reads = f.closed.closes }

-- ---- pieces with nodes

pub identifier_read : (t : Source) (s : Span) (name : Text) → Fits t → Reads (identifier t s name) (at t (codes "Identifier") s ∷ [])
unfolding identifier
identifier_read t s name f = begin t (codes "Identifier") s.lo.0 s.hi.0 f.bounded refl (key_mark (codes "name") refl) (past (quoted_mark name) end_mark.quiet)

pub word_name_read : (t : Source) (name : List ℕ) (a b : ℕ) → Fits t → all_calm name ≡ true → Reads (word_name t name a b) (node_of t (codes "Identifier") a b ∷ [])
unfolding word_name
word_name_read t name a b f h = begin t (codes "Identifier") a b f.bounded refl (word_mark (codes "name") name refl h) end_mark.quiet

pub literal_read : (t : Source) (s : Span) (value raw : List ℕ) → Fits t → Reads value [] → Reads (literal t s value raw) (at t (codes "Literal") s ∷ [])
unfolding literal
literal_read t s value raw f v =
    begin t (codes "Literal") s.lo.0 s.hi.0 f.bounded refl (key_mark (codes "value") refl)
    (skip v (past (key_mark (codes "raw") refl) (past (quoted_mark raw) end_mark.quiet)))

digits_read : (raw : Text) → Reads (codes "\"" ++ (digits_text raw ++ (codes "\"" ++ end))) []
digits_read raw = record {
  reads = λ rest. ap (read_from inside) (append_assoc (digits_text raw) (codes "\"" ++ end) rest)
      ∙ calm_inside (digits_text raw) ((codes "\"" ++ end) ++ rest) (digits_calm raw) ∙ end_mark.quiet.reads rest;
}

pub big_literal_read : (t : Source) (s : Span) (raw : Text) → Fits t → Reads (big_literal t s raw) (at t (codes "Literal") s ∷ [])
unfolding big_literal
big_literal_read t s raw f =
    begin t (codes "Literal") s.lo.0 s.hi.0 f.bounded refl (key_mark (codes "value") refl)
    (past nothing_mark (past (key_mark (codes "raw") refl) (past (quoted_mark raw) (past (key_mark (codes "bigint") refl) (digits_read raw)))))

pub regex_read : (t : Source) (s : Span) (exp flags : Text) → Fits t → Reads (regex_literal t s exp flags) (at t (codes "Literal") s ∷ [])
unfolding regex_literal first_key
regex_read t s exp flags f =
    begin t (codes "Literal") s.lo.0 s.hi.0 f.bounded refl (key_mark (codes "value") refl)
    (skip (fixed (codes "{}") (λ rest. refl)) (past (key_mark (codes "raw") refl) (past (quoted_mark (regex_text exp flags)) (past (key_mark (codes "regex") refl)
    (skip (fixed (first_key (codes "pattern")) (λ rest. refl)) (past (quoted_mark exp) (past (key_mark (codes "flags") refl) (past (quoted_mark flags)
    (past end_mark end_mark.quiet)))))))))

optional_read : (o : Option Text) → Reads (optional_text o) []
optional_read None = nothing_mark.quiet
optional_read (Some s) = (quoted_mark s).quiet

pub element_read : (t : Source) (s : Span) (tail : Bool) (cooked : Option Text) (raw : Text) → Fits t
    → Reads (template_element t s tail cooked raw) (node_of t (codes "TemplateElement") (s.lo.0 + 1) (text_end s tail) ∷ [])
unfolding template_element first_key
element_read t s tail cooked raw f =
    begin t (codes "TemplateElement") (s.lo.0 + 1) (text_end s tail) f.bounded refl (key_mark (codes "value") refl)
    (skip (fixed (first_key (codes "raw")) (λ rest. refl)) (past (quoted_mark raw) (past (key_mark (codes "cooked") refl) (skip (optional_read cooked)
    (past end_mark (past (bool_mark (codes "tail") tail refl) end_mark.quiet))))))

pub property_read : (t : Source) (s : Span) (is_method is_shorthand is_computed : Bool) → Fits t
    → Reads (property t s is_method is_shorthand is_computed) (at t (codes "Property") s ∷ [])
property_read t s is_method is_shorthand is_computed f =
    begin t (codes "Property") s.lo.0 s.hi.0 f.bounded refl (bool_mark (codes "method") is_method refl)
    (past (bool_mark (codes "shorthand") is_shorthand refl) (bool_mark (codes "computed") is_computed refl).quiet)

pub member_head_read : (t : Source) (kind : List ℕ) (s : Span) (is_static is_computed : Bool) → Fits t → all_calm kind ≡ true
    → Reads (member_head t kind s is_static is_computed) (at t kind s ∷ [])
member_head_read t kind s is_static is_computed f h =
    begin t kind s.lo.0 s.hi.0 f.bounded h (bool_mark (codes "static") is_static refl)
    (past (bool_mark (codes "computed") is_computed refl) (key_mark (codes "key") refl).quiet)

flags_read : (a b c : Bool) → Reads (bool_field (codes "expression") a ++ (bool_field (codes "generator") b ++ bool_field (codes "async") c)) []
flags_read a b c =
    past (bool_mark (codes "expression") a refl) (past (bool_mark (codes "generator") b refl) (bool_mark (codes "async") c refl).quiet)

pub fields_mark : (is_expression is_generator is_async : Bool) → Mark (function_fields nothing is_expression is_generator is_async)
fields_mark a b c = mark_then (key_mark (codes "id") refl) (past nothing_mark (flags_read a b c))

pub named_fields_read : (name : List ℕ) (is_generator is_async : Bool) → Reads name (read name) → Reads (function_fields name false is_generator is_async) (read name)
named_fields_read name b c r = past (key_mark (codes "id") refl) (last r (flags_read false b c))

function_stops : (name more : List ℕ) (is_generator is_async : Bool) (rest : List ℕ) → stops ((function_fields name false is_generator is_async ++ more) ++ rest) ≡ true
function_stops name more b c rest =
    ap stops (append_assoc (function_fields name false b c) more rest)
    ∙ ap stops (append_assoc (key (codes "id")) (name ++ (bool_field (codes "expression") false ++ (bool_field (codes "generator") b ++ bool_field (codes "async") c))) (more ++ rest))
    ∙ (key_mark (codes "id") refl).stop ((name ++ (bool_field (codes "expression") false ++ (bool_field (codes "generator") b ++ bool_field (codes "async") c))) ++ (more ++ rest))

pub begin_function : (t : Source) (kind name : List ℕ) (a b : ℕ) (is_generator is_async : Bool) (more : List ℕ) {ns : List Node} → length t.places.text < 2 ^ 63
    → all_calm kind ≡ true → Reads (function_fields name false is_generator is_async ++ more) ns
    → Reads (node_at t kind a b ++ (function_fields name false is_generator is_async ++ more)) (node_of t kind a b ∷ ns)
begin_function t kind name a b c d more f w r = begin_any t kind a b (function_fields name false c d ++ more) f w (function_stops name more c d) r

pub accessor_read : (t : Source) (k : Tree) (s : Span) → Fits t → Reads (accessor t k s) (method_value t k s ∷ [])
accessor_read t k s f = alone t (codes "FunctionExpression") (bracket t.places.text 40 (span_of k).hi.0) s.hi.0 f.bounded refl (fields_mark false false false)

pub phase_read : (p : ImportPhase) → Reads (phase_field p) []
unfolding phase_field
phase_read phase.Evaluation = none_read
phase_read phase.Source = (word_mark (codes "phase") (codes "source") refl refl).quiet
phase_read phase.Defer = (word_mark (codes "phase") (codes "defer") refl refl).quiet

pub directive_read : (x : Tree) → Reads (directive x) []
directive_read (tree.str s value raw) = past (key_mark (codes "directive") refl) (inner_read raw)
directive_read _ = none_read
