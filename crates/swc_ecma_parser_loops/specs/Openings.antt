-- What a head begins with, as the reader knows it.
use Rattle.std.specs.Prelude.{◌≡◌, Bool, [], map}
use Rattle.swc_ecma_parser_model.specs.Tree as tree
use Rattle.swc_ecma_parser_model.specs.Tree.{Tree, listed}
use Rattle.swc_ecma_parser_grammar.specs.Own.{head_faults}
use Rattle.swc_ecma_parser_reader.specs.Reader as rules
use Rattle.swc_ecma_parser_shared.specs.Covers.{cover_of}
use Rattle.swc_ecma_parser_loops.specs.declared.head.Declared.{Declared}
use Rattle.swc_ecma_parser_loops.specs.declared.head.Resources.{Resources}
use Rattle.swc_ecma_parser_loops.specs.declared.head.Opening.{Opening}
use Rattle.swc_ecma_parser_loops.specs.declared.head.Opening.TheVariants as opening
use Rattle.swc_ecma_parser_loops.specs.declared.head.Left.{Left}
use Rattle.swc_ecma_parser_loops.specs.declared.head.Left.TheVariants as left

-- what a head declares
abbrev pub declared_of : {D : Type 0} → (D → Tree) → Declared D → Tree
declared_of view x = tree.var x.span x.word (listed (map view x.found.items))

-- what `using` declares in a head, behind `await` or not
abbrev pub resources_of : {D : Type 0} → (D → Tree) → Resources D → Tree
resources_of view x = tree.using x.span x.is_await (listed (map view x.found.items))

abbrev pub opening_of : {D X N : Type 0} → (D → Tree) → (X → Tree) → (N → Tree) → Opening D X N → rules.Opening
opening_of declarator expr pat opening.Nothing = rules.Nothing
opening_of declarator expr pat (opening.Variables x) = rules.Variables (declared_of declarator x)
opening_of declarator expr pat (opening.Resources x) = rules.Resource (resources_of declarator x)
opening_of declarator expr pat (opening.Named p) = rules.Named (pat p)
opening_of declarator expr pat (opening.Expression v) = rules.Expression (cover_of expr v)

abbrev pub left_of : {D N : Type 0} → (D → Tree) → (N → Tree) → Left D N → Tree
left_of declarator pat (left.Variables x) = declared_of declarator x
left_of declarator pat (left.Resources x) = resources_of declarator x
left_of declarator pat (left.Pattern p) = pat p

-- a pattern that takes each value declares nothing
abbrev pub IsTarget : {D N : Type 0} → (N → Tree) → Left D N → Type 0
IsTarget {D} {N} pat x = (p : N) → x ≡ left.Pattern p → (refused : Bool) → head_faults refused (pat p) ≡ []

-- nor does a name that a head begins with
abbrev pub IsBare : {D X N : Type 0} → (N → Tree) → Opening D X N → Type 0
IsBare {D} {X} {N} pat o = (p : N) → o ≡ opening.Named p → (refused : Bool) → head_faults refused (pat p) ≡ []
