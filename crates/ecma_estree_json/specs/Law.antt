-- What is written of a tree is read back as its JSON.
use Rattle.std.specs.Prelude.{◌≡◌, ℕ, suc, ◌+◌, ◌*◌, ◌<◌, ◌≤◌, ◌^◌, List, ◌++◌, Option, Some, length}
use Rattle.ecma_estree_json.specs.Estree.{estree}
use Rattle.ecma_estree_json.specs.Json.{Json, Fields}
use Rattle.ecma_estree_json.specs.Parts.{Form, appended}
use Rattle.ecma_estree_json.specs.Reading.{first, more_fields, parse_json}
use Rattle.ecma_estree_writer.specs.Estree.{json, plain}
use Rattle.swc_ecma_parser_model.specs.Tree.{Tree}

-- A text adds fields to those of an object: whatever is read of the fields behind it, with it they are read before these. A number bounds how
-- often a reader calls another.
pub record AddsFields (xs : List ℕ) (fs : Fields) : Type 0 where
  pub adds : (gs : Fields) (rest more : List ℕ) (k : ℕ) → ((n : ℕ) → k ≤ n + 1 → more_fields (suc n) rest ≡ first gs more)
      → (n : ℕ) → 2 * length xs + k ≤ n + 1 → more_fields (suc n) (xs ++ rest) ≡ first (appended fs gs) more

-- from the text of a tree, its JSON
abbrev pub ReadsBack : Type 0
ReadsBack =
    (f : Form) (x : Tree) (v : Json) → length f.source.places.text < 2 ^ 63 → AddsFields f.source.fields f.fields
    → estree f plain x ≡ Some v → parse_json (json f.source plain x) ≡ Some v
