-- What nodes are made of.
use Rattle.std.specs.Prelude.{ℕ, List, [], ◌++◌, ◌+◌, ◌-◌, Bool, true, false, Option, Some, None, cond, codes, decimal, take, drop, length, max}
use Rattle.ecma_estree_text.specs.Places.{place_fields}
use Rattle.ecma_estree_writer.specs.Source.{Source}
use Rattle.ecma_estree_text.specs.Quoted.{quoted, inner_quoted, regex_text}
use Rattle.ecma_estree_text.specs.Number.{number_text, digits_text}
use Rattle.ecma_estree_writer.specs.Words.{bool_word}
use Rattle.swc_ecma_parser_common.specs.declared.span.Span.{Span}
use Rattle.swc_ecma_parser_model.specs.declared.leaves.ImportPhase.{ImportPhase}
use Rattle.swc_ecma_parser_model.specs.declared.leaves.ImportPhase.TheVariants as phase
use Rattle.swc_ecma_parser_model.specs.Forms.{span_of, is_absent}
use Rattle.swc_ecma_parser_model.specs.Tree as tree
use Rattle.swc_ecma_parser_model.specs.Tree.{Tree, Trees, Text, none, also}

-- how a node begins: its kind and its place
unfoldable pub node_at : Source → (kind : List ℕ) → (start end : ℕ) → List ℕ
node_at s kind start end = codes "{\"type\":\"" ++ (kind ++ (codes "\"," ++ place_fields s.places start end))

abbrev pub node : Source → (kind : List ℕ) → Span → List ℕ
node text kind s = node_at text kind s.lo.0 s.hi.0

-- how a field begins
unfoldable pub key : List ℕ → List ℕ
key name = codes ",\"" ++ (name ++ codes "\":")

-- a field that is a word
unfoldable pub word_field : (name word : List ℕ) → List ℕ
word_field name word = key name ++ (codes "\"" ++ (word ++ codes "\""))

-- a field that is true or false
unfoldable pub bool_field : (name : List ℕ) → Bool → List ℕ
bool_field name b = key name ++ bool_word b

unfoldable pub end : List ℕ
end = codes "}"

unfoldable pub open_list : List ℕ
open_list = codes "["

unfoldable pub end_list : List ℕ
end_list = codes "]"

unfoldable pub nothing : List ℕ
nothing = codes "null"

-- what stands before a part of a list
unfoldable pub comma : (is_first : Bool) → List ℕ
comma true = []
comma false = codes ","

-- a name
unfoldable pub identifier : Source → Span → Text → List ℕ
identifier text s name = node text (codes "Identifier") s ++ (key (codes "name") ++ (quoted name ++ end))

-- a word of the language as a name, between two places
unfoldable pub word_name : Source → (name : List ℕ) → (from to : ℕ) → List ℕ
word_name text name from to = node_at text (codes "Identifier") from to ++ (word_field (codes "name") name ++ end)

unfoldable pub literal : Source → Span → (value raw : List ℕ) → List ℕ
literal text s value raw = node text (codes "Literal") s ++ (key (codes "value") ++ (value ++ (key (codes "raw") ++ (quoted raw ++ end))))

unfoldable pub big_literal : Source → Span → Text → List ℕ
big_literal text s raw =
    node text (codes "Literal") s ++ (key (codes "value") ++ (nothing ++ (key (codes "raw") ++ (quoted raw ++ (key (codes "bigint") ++ (codes "\"" ++ (digits_text raw ++ (codes "\"" ++ end))))))))

-- how an object begins that is no node, up to the value of its first field
unfoldable pub first_key : List ℕ → List ℕ
first_key name = codes "{\"" ++ (name ++ codes "\":")

-- a regular expression, whose value JSON has no form for
unfoldable pub regex_literal : Source → Span → (exp flags : Text) → List ℕ
regex_literal t s exp flags =
    node t (codes "Literal") s ++ (key (codes "value") ++ (codes "{}" ++ (key (codes "raw") ++ (quoted (regex_text exp flags)
    ++ (key (codes "regex") ++ (first_key (codes "pattern") ++ (quoted exp ++ (key (codes "flags") ++ (quoted flags ++ (end ++ end))))))))))

-- a text, or `null`
abbrev pub optional_text : Option Text → List ℕ
optional_text None = nothing
optional_text (Some text) = quoted text

-- where a text of a template ends: its last mark is a backquote, or `${`
abbrev pub text_end : Span → (tail : Bool) → ℕ
text_end s tail = s.hi.0 - cond tail 1 2

-- a text of a template, between its marks
unfoldable pub template_element : Source → Span → (tail : Bool) → (cooked : Option Text) → (raw : Text) → List ℕ
template_element t s tail cooked raw =
    node_at t (codes "TemplateElement") (s.lo.0 + 1) (text_end s tail) ++ (key (codes "value") ++ (first_key (codes "raw") ++ (quoted raw
    ++ (key (codes "cooked") ++ (optional_text cooked ++ (end ++ (bool_field (codes "tail") tail ++ end)))))))

-- what a statement that is a directive has besides
abbrev pub directive : Tree → List ℕ
directive (tree.str s value raw) = key (codes "directive") ++ inner_quoted raw
directive _ = []

-- the end of the last of some trees; else a place
abbrev pub last_end : ℕ → Trees → ℕ
last_end n none = n
last_end n (also x xs) = last_end (span_of x).hi.0 xs

abbrev pub end_of_last : ℕ → Tree → ℕ
end_of_last n (tree.list xs) = last_end n xs
end_of_last n _ = n

-- when a module is run, where a word says so
unfoldable pub phase_field : ImportPhase → List ℕ
phase_field phase.Evaluation = []
phase_field phase.Source = word_field (codes "phase") (codes "source")
phase_field phase.Defer = word_field (codes "phase") (codes "defer")

abbrev is_namespace : Tree → Bool
is_namespace (tree.export_namespace s name) = true
is_namespace _ = false

abbrev is_one : Trees → Bool
is_one (also x none) = is_namespace x
is_one _ = false

-- one specifier alone, a name for all that a module exports
abbrev pub is_namespace_alone : Tree → Bool
is_namespace_alone (tree.list xs) = is_one xs
is_namespace_alone _ = false

abbrev pub is_import : Tree → Bool
is_import (tree.import_callee s) = true
is_import _ = false

abbrev pub is_empty_member : Tree → Bool
is_empty_member (tree.empty_member s) = true
is_empty_member _ = false

abbrev pub is_empty : Tree → Bool
is_empty (tree.list none) = true
is_empty _ = false
