-- What the JSON of nodes is made of.
use Rattle.std.specs.Prelude.{ℕ, List, [], ◌∷◌, ◌++◌, ◌+◌, ◌-◌, ◌%◌, Bool, false, if◌then◌else◌, Option, Some, None, cond, codes, take, drop, length, encode_utf8}
use Rattle.ecma_estree_json.specs.Json as form
use Rattle.ecma_estree_json.specs.Json.{Json, Jsons, Fields}
use Rattle.ecma_estree_json.specs.Made.{done, field, object, none, item, list, null, flag, word, text, count}
use Rattle.ecma_estree_json.specs.Reading.{unit_bytes}
use Rattle.ecma_estree_text.specs.Bracket.{bracket}
use Rattle.ecma_estree_text.specs.Number.{digits_text}
use Rattle.ecma_estree_text.specs.Places.{Placed, offset}
use Rattle.ecma_estree_text.specs.Quoted.{regex_text}
use Rattle.ecma_estree_text.specs.Spots.{spot_at}
use Rattle.ecma_estree_text.specs.Strings.{character, is_high, is_low, is_read, paired, points, waiting_behind}
use Rattle.ecma_estree_text.specs.declared.spot.Spot.{Spot}
use Rattle.ecma_estree_writer.specs.Parts.{text_end}
use Rattle.ecma_estree_writer.specs.Source.{Source}
use Rattle.swc_ecma_parser_common.specs.declared.span.Span.{Span}
use Rattle.swc_ecma_parser_model.specs.declared.leaves.ImportPhase.{ImportPhase}
use Rattle.swc_ecma_parser_model.specs.declared.leaves.ImportPhase.TheVariants as phase
use Rattle.swc_ecma_parser_model.specs.Forms.{span_of}
use Rattle.swc_ecma_parser_model.specs.Tree as tree
use Rattle.swc_ecma_parser_model.specs.Tree.{Tree, Text}

-- what a tree is written from besides itself, and the fields that its whole has behind its others
pub record Form : Type 0 where
  pub source : Source
  pub fields : Fields

-- ---- places: `start` and `end` count code units of UTF-16; `loc` and `range` where they are asked for

unfoldable pub spot : Spot → Option Json
spot p = object (field (codes "line") (count p.line) (field (codes "column") (count p.column) done))

unfoldable pub loc_field : Placed → (start end : ℕ) → Option Fields → Option Fields
loc_field x start end rest =
    cond x.has_locations
    (field (codes "loc") (object (field (codes "start") (spot (spot_at x.text start)) (field (codes "end") (spot (spot_at x.text end)) done))) rest)
    rest

unfoldable pub range_field : Placed → (start end : ℕ) → Option Fields → Option Fields
range_field x start end rest =
    cond x.has_ranges (field (codes "range") (list (item (count (offset x.text start)) (item (count (offset x.text end)) none))) rest) rest

unfoldable pub place : Placed → (start end : ℕ) → Option Fields → Option Fields
place x start end rest =
    field (codes "start") (count (offset x.text start)) (field (codes "end") (count (offset x.text end)) (loc_field x start end (range_field x start end rest)))

-- ---- nodes: their kind, their place, and their fields

unfoldable pub node_at : Form → (kind : List ℕ) → (start end : ℕ) → Option Fields → Option Json
node_at f kind start end fields = object (field (codes "type") (word kind) (place f.source.places start end fields))

abbrev pub node : Form → (kind : List ℕ) → Span → Option Fields → Option Json
node f kind s fields = node_at f kind s.lo.0 s.hi.0 fields

unfoldable pub identifier : Form → Span → Text → Option Json
identifier f s name = node f (codes "Identifier") s (field (codes "name") (text name) done)

-- a word of the language as a name, between two places
unfoldable pub word_name : Form → (name : List ℕ) → (from to : ℕ) → Option Json
word_name f name from to = node_at f (codes "Identifier") from to (field (codes "name") (word name) done)

unfoldable pub literal : Form → Span → (value : Option Json) → (raw : List ℕ) → Option Json
literal f s value raw = node f (codes "Literal") s (field (codes "value") value (field (codes "raw") (text raw) done))

unfoldable pub big_literal : Form → Span → Text → Option Json
big_literal f s raw =
    node f (codes "Literal") s (field (codes "value") null (field (codes "raw") (text raw) (field (codes "bigint") (word (digits_text raw)) done)))

-- a regular expression, whose value JSON has no form for
unfoldable pub regex_literal : Form → Span → (exp flags : Text) → Option Json
regex_literal f s exp flags =
    node f (codes "Literal") s (field (codes "value") (object done) (field (codes "raw") (text (regex_text exp flags))
    (field (codes "regex") (object (field (codes "pattern") (text exp) (field (codes "flags") (text flags) done))) done)))

-- a text, or `null`
abbrev pub optional_text : Option Text → Option Json
optional_text None = null
optional_text (Some t) = text t

-- a text of a template, between its marks
unfoldable pub template_element : Form → Span → (tail : Bool) → (cooked : Option Text) → (raw : Text) → Option Json
template_element f s tail cooked raw =
    node_at f (codes "TemplateElement") (s.lo.0 + 1) (text_end s tail) (field (codes "value") (object (field (codes "raw") (text raw)
    (field (codes "cooked") (optional_text cooked) done))) (field (codes "tail") (flag tail) done))

-- how a property begins
unfoldable pub property : Form → Span → (is_method is_shorthand is_computed_key : Bool) → Option Fields → Option Json
property f s is_method is_shorthand is_computed_key rest =
    node f (codes "Property") s (field (codes "method") (flag is_method) (field (codes "shorthand") (flag is_shorthand) (field (codes "computed") (flag is_computed_key) rest)))

-- how a member of a class begins, up to its key
unfoldable pub member : Form → (kind : List ℕ) → Span → (is_static is_computed_key : Bool) → (key : Option Json) → Option Fields → Option Json
member f kind s is_static is_computed_key k rest =
    node f kind s (field (codes "static") (flag is_static) (field (codes "computed") (flag is_computed_key) (field (codes "key") k rest)))

-- the fields of a function before its parameters
unfoldable pub function_fields : (name : Option Json) → (is_expression is_generator is_async : Bool) → Option Fields → Option Fields
function_fields name is_expression is_generator is_async rest =
    field (codes "id") name (field (codes "expression") (flag is_expression) (field (codes "generator") (flag is_generator) (field (codes "async") (flag is_async) rest)))

-- where the parenthesis of a method stands
abbrev pub parenthesis : Form → (key : Tree) → ℕ
parenthesis f k = bracket f.source.places.text 40 (span_of k).hi.0

-- the value of a method that has its parameters and its body in itself
unfoldable pub accessor : Form → (key : Tree) → Span → Option Fields → Option Json
accessor f k s rest = node_at f (codes "FunctionExpression") (parenthesis f k) s.hi.0 (function_fields null false false false rest)

-- ---- fields that are there in some cases

-- decorators, where there are some
unfoldable pub decorators_field : (is_empty : Bool) → Option Jsons → Option Fields → Option Fields
decorators_field is_empty vs rest = cond is_empty rest (field (codes "decorators") (list vs) rest)

-- what a directive has besides: its text as it was written, without its quotes
unfoldable pub directive_text : Tree → Option Fields → Option Fields
directive_text (tree.str s value raw) rest = field (codes "directive") (text (take (length raw - 2) (drop 1 raw))) rest
directive_text _ rest = rest

unfoldable pub directive_field : (may_be_one : Bool) → Tree → Option Fields → Option Fields
directive_field may_be_one x rest = cond may_be_one (directive_text x rest) rest

-- when a module is run, where a word says so
unfoldable pub phase_fields : ImportPhase → Option Fields → Option Fields
phase_fields phase.Evaluation rest = rest
phase_fields phase.Source rest = field (codes "phase") (word (codes "source")) rest
phase_fields phase.Defer rest = field (codes "phase") (word (codes "defer")) rest

abbrev pub appended : Fields → Fields → Fields
appended form.done gs = gs
appended (form.named name v fs) gs = form.named name v (appended fs gs)

unfoldable pub and_fields : Fields → Option Fields → Option Fields
and_fields fs None = None
and_fields fs (Some gs) = Some (appended fs gs)

-- ---- the value of a string literal, which is read from what was written where the tree holds U+FFFD

-- a character in UTF-8, and a surrogate in three bytes
abbrev pub character_bytes : Option ℕ → ℕ → List ℕ
character_bytes (Some k) c = encode_utf8 k
character_bytes None c = unit_bytes (c % 65536)

abbrev pub point_bytes : ℕ → List ℕ
point_bytes c = character_bytes (character c) c

abbrev pub alone_bytes : ℕ → List ℕ
alone_bytes c = if is_high c then [] else point_bytes c

-- a first half that waits is one character with a second
abbrev pub bytes_at : (waiting : Option ℕ) → ℕ → List ℕ
bytes_at None c = alone_bytes c
bytes_at (Some high) c = if is_low c then point_bytes (paired high c) else unit_bytes (high % 65536) ++ alone_bytes c

abbrev pub last_bytes : (waiting : Option ℕ) → List ℕ
last_bytes None = []
last_bytes (Some high) = unit_bytes (high % 65536)

-- code points in UTF-8
abbrev pub points_bytes : (waiting : Option ℕ) → List ℕ → List ℕ
points_bytes waiting [] = last_bytes waiting
points_bytes waiting (c ∷ cs) = bytes_at waiting c ++ points_bytes (waiting_behind waiting c) cs

unfoldable pub string_value : (value raw : Text) → Option Json
string_value value raw = if is_read value raw then text (points_bytes None (points raw)) else text value
