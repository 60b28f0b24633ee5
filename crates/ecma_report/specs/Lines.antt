-- The lines that say what a text parses to. Each ends with a line feed, 10.
use Rattle.std.specs.Prelude.{ℕ, List, [], ◌∷◌, ◌++◌, Result, Ok, Err, codes, decimal}
use Rattle.std.specs.List.{flat_map}
use Rattle.swc_ecma_parser_common.specs.declared.span.Span.{Span}
use Rattle.swc_ecma_parser_error.specs.declared.error.Error.{Error}
use Rattle.swc_ecma_parser_error.specs.Kind.{Fault, fault_of, name_of}
use Rattle.swc_ecma_parser_model.specs.Forms.{span_of}
use Rattle.swc_ecma_parser_model.specs.Tree as tree
use Rattle.swc_ecma_parser_model.specs.Tree.{Tree, Trees}

-- `low..high`
abbrev pub place : Span → List ℕ
place span = decimal span.lo.0 ++ (codes ".." ++ decimal span.hi.0)

-- a node's line: its kind and its place
abbrev pub node_line : List ℕ → Span → List ℕ
node_line kind span = kind ++ (codes " " ++ (place span ++ 10 ∷ []))

-- a fault's line: a word, its place and the name of its kind
abbrev pub fault_line : List ℕ → Fault → List ℕ
fault_line word fault = word ++ (codes " " ++ (place fault.span ++ (codes " " ++ (name_of fault.kind ++ 10 ∷ []))))

-- the name of an item's form; of a declaration, that of its own form
abbrev pub form_name : Tree → List ℕ
form_name (tree.class_decl name body) = codes "Class"
form_name (tree.fn_decl name fn) = codes "Fn"
form_name (tree.var s kind decls) = codes "Var"
form_name (tree.using s is_await decls) = codes "Using"
form_name (tree.block s stmts) = codes "Block"
form_name (tree.empty s) = codes "Empty"
form_name (tree.debugger s) = codes "Debugger"
form_name (tree.with s obj body) = codes "With"
form_name (tree.return s arg) = codes "Return"
form_name (tree.labeled s label body) = codes "Labeled"
form_name (tree.break s label) = codes "Break"
form_name (tree.continue s label) = codes "Continue"
form_name (tree.if_stmt s test cons alt) = codes "If"
form_name (tree.switch s discriminant cases) = codes "Switch"
form_name (tree.throw s arg) = codes "Throw"
form_name (tree.try s body handler finalizer) = codes "Try"
form_name (tree.while s test body) = codes "While"
form_name (tree.do_while s test body) = codes "DoWhile"
form_name (tree.for s init test next body) = codes "For"
form_name (tree.for_in s left right body) = codes "ForIn"
form_name (tree.for_of s is_await left right body) = codes "ForOf"
form_name (tree.expr_stmt s expr) = codes "Expr"
form_name (tree.import s specifiers src attributes phase) = codes "Import"
form_name (tree.export_decl s d) = codes "ExportDecl"
form_name (tree.export_named s specifiers src attributes) = codes "ExportNamed"
form_name (tree.export_default_decl s d) = codes "ExportDefaultDecl"
form_name (tree.export_default_expr s e) = codes "ExportDefaultExpr"
form_name (tree.export_all s src attributes) = codes "ExportAll"
form_name _ = []

-- an item's line, two spaces further in
abbrev pub item_line : Tree → List ℕ
item_line item = codes "  " ++ node_line (form_name item) (span_of item)

abbrev pub item_lines : Trees → List ℕ
item_lines tree.none = []
item_lines (tree.also item items) = item_line item ++ item_lines items

-- the lines of a script or a module: its own, and then those of its items; of one item by itself, its own
abbrev pub whole_lines : Tree → List ℕ
whole_lines (tree.script span (tree.list items) shebang) = node_line (codes "Script") span ++ item_lines items
whole_lines (tree.module_program span (tree.list items) shebang) = node_line (codes "Module") span ++ item_lines items
whole_lines item = item_line item

-- a tree's lines and then its faults, or the faults and then why there is no tree
abbrev pub answer_lines : Result Tree Fault → List Fault → List ℕ
answer_lines (Ok x) faults = whole_lines x ++ flat_map (fault_line (codes "fault")) faults
answer_lines (Err fault) faults = flat_map (fault_line (codes "fault")) faults ++ fault_line (codes "refused") fault

-- a statement's line and then its faults, or the faults and then why there is none
abbrev pub statement_lines : Result Tree Fault → List Fault → List ℕ
statement_lines (Ok x) faults = item_line x ++ flat_map (fault_line (codes "fault")) faults
statement_lines (Err fault) faults = flat_map (fault_line (codes "fault")) faults ++ fault_line (codes "refused") fault

-- an answer as contracts see it
abbrev pub seen : {X : Type 0} → (X → Tree) → Result X Error → Result Tree Fault
seen view (Ok x) = Ok (view x)
seen view (Err e) = Err (fault_of e)
