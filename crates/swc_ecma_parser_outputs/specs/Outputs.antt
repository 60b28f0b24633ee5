-- A function or class in its place.
use Rattle.std.specs.Prelude.{Bool, true, false, ◌&&◌, Option, is_none, if◌then◌else◌}
use Rattle.swc_ecma_parser_common.specs.declared.span.Span.{Span}
use Rattle.swc_ecma_parser_error.specs.Kind.{Kind, ExpectedIdent, OutOfMemory}
use Rattle.swc_ecma_parser_model.specs.declared.leaves.Ident.{Ident}
use Rattle.swc_ecma_parser_model.specs.Forms.{span_of}
use Rattle.swc_ecma_parser_model.specs.Tree as tree
use Rattle.swc_ecma_parser_model.specs.Tree.{Tree}
use Rattle.swc_ecma_parser_trees.specs.Parts.{part_of}

pub data Place : Type 0 where
  expression : Place
  declaration : Place
  -- what a module exports by default, without the words of the export and with them
  by_default : Place
  exported : Place

-- the name that is given, if one is
abbrev pub named : Option Ident → Tree
named name = part_of (λ n. tree.ident n.span n.sym) name

-- A function with its name. A declaration has no span but the function's, and an export beside its own the function's.
abbrev pub function_in : Place → Span → (name fn : Tree) → Tree
function_in expression s name fn = tree.fn_expr s name fn
function_in declaration s name fn = tree.fn_decl name fn
function_in by_default s name fn = tree.fn_expr s name fn
function_in exported s name fn = tree.export_default_decl s (tree.fn_expr (span_of fn) name fn)

-- a class with its name, as `function_in`
abbrev pub class_in : Place → Span → (name body : Tree) → Tree
class_in expression s name body = tree.class_expr s name body
class_in declaration s name body = tree.class_decl name body
class_in by_default s name body = tree.class_expr s name body
class_in exported s name body = tree.export_default_decl s (tree.class_expr (span_of body) name body)

abbrev pub is_expression : Place → Bool
is_expression expression = true
is_expression _ = false

-- whether a name is missing
abbrev pub lacks_name : (is_required : Bool) → Option Ident → Bool
lacks_name is_required name = is_required && is_none name

-- why such a function or class is refused
abbrev pub refusal : (is_required : Bool) → Option Ident → Kind
refusal is_required name = if lacks_name is_required name then ExpectedIdent else OutOfMemory
