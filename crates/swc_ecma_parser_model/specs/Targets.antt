-- What an expression is where it is assigned to: ECMA-262, section 13.15.5. None where it is no target. An array or object
-- becomes a pattern, part by part; a part `name = value` of an object is one of a pattern alone.
use Rattle.std.specs.Prelude.{Bool, true, false, ◌&&◌, Option, Some, None, if◌then◌else◌}
use Rattle.swc_ecma_parser_common.specs.declared.span.Span.{Span}
use Rattle.swc_ecma_parser_model.specs.declared.operators.AssignOp.TheVariants as assign
use Rattle.swc_ecma_parser_model.specs.Tree as tree
use Rattle.swc_ecma_parser_model.specs.Tree.{Tree, Trees, none, also}
use Rattle.swc_ecma_parser_model.specs.Forms.{is_simple_target, span_of}

-- a name or a member, with or without parentheses, as a pattern
abbrev pub leaf : Tree → Tree
leaf (tree.ident s text) = tree.ident_pat s text
leaf x = tree.expr_pat x

-- what stands left of `=`, as a pattern: it is one already, or a name or a member
abbrev pub left_pattern : Tree → Tree
left_pattern (tree.array_pat s elems) = tree.array_pat s elems
left_pattern (tree.object_pat s props) = tree.object_pat s props
left_pattern x = leaf x

abbrev pub simple_target : Tree → Option Tree
simple_target x = if is_simple_target x then Some (leaf x) else None

-- from dots to the end of what they stand before
abbrev pub rest_span : (dots : Span) → Tree → Span
rest_span dots x = record { lo = dots.lo; hi = (span_of x).hi }

abbrev pub rest_of : (dots : Span) → Tree → Option Tree → Option Tree
rest_of dots x (Some p) = Some (tree.rest_pat (rest_span dots x) p)
rest_of dots x None = None

abbrev pub array_of : Span → Option Trees → Option Tree
array_of s (Some xs) = Some (tree.array_pat s (tree.list xs))
array_of s None = None

abbrev pub object_of : Span → Option Trees → Option Tree
object_of s (Some xs) = Some (tree.object_pat s (tree.list xs))
object_of s None = None

abbrev pub key_value_of : Span → Tree → Option Tree → Option Tree
key_value_of s key (Some p) = Some (tree.key_value_pat_prop s key p)
key_value_of s key None = None

abbrev pub before : Option Tree → Option Trees → Option Trees
before (Some x) (Some xs) = Some (also x xs)
before _ _ = None

abbrev pub alone : Option Tree → Option Trees
alone (Some x) = Some (also x none)
alone None = None

abbrev mutual
  -- with a default, where one may stand, or without
  pub as_pattern : (defaults : Bool) → Tree → Option Tree
  as_pattern true (tree.assign s assign.Assign left right) = Some (tree.assign_pat s (left_pattern left) right)
  as_pattern defaults (tree.array s (tree.list xs)) = array_of s (as_elements xs)
  as_pattern defaults (tree.object s (tree.list xs)) = object_of s (as_properties xs)
  as_pattern defaults x = simple_target x

  -- a rest is the last of them
  pub as_elements : Trees → Option Trees
  as_elements none = Some none
  as_elements (also (tree.element (Some dots) x) none) = alone (rest_of dots x (as_pattern false x))
  as_elements (also x xs) = before (as_item x) (as_elements xs)

  pub as_item : Tree → Option Tree
  as_item tree.absent = Some tree.absent
  as_item (tree.element None x) = as_pattern true x
  as_item _ = None

  -- a rest is the last of them, and takes no pattern
  pub as_properties : Trees → Option Trees
  as_properties none = Some none
  as_properties (also (tree.spread_prop dots x) none) = alone (rest_of dots x (simple_target x))
  as_properties (also x xs) = before (as_property x) (as_properties xs)

  pub as_property : Tree → Option Tree
  as_property (tree.key_value_prop s key value) = key_value_of s key (as_pattern true value)
  as_property (tree.shorthand_prop s text) = Some (tree.assign_pat_prop s (tree.ident_pat s text) tree.absent)
  as_property (tree.assign_prop s (tree.ident i text) value) = Some (tree.assign_pat_prop s (tree.ident_pat i text) value)
  as_property _ = None

-- without a default: what stands left of `=`, and behind the dots of a rest
abbrev pub as_target : Tree → Option Tree
as_target = as_pattern false

-- an element, or the value of a property
abbrev pub as_element : Tree → Option Tree
as_element = as_pattern true

-- ---- parameters of arrow functions, which are read as expressions first: section 15.3

-- whether a pattern has names alone where a target could stand; then it binds what it assigns
abbrev mutual
  pub binds : Tree → Bool
  binds (tree.ident_pat s text) = true
  binds (tree.array_pat s (tree.list xs)) = all_bind xs
  binds (tree.object_pat s (tree.list xs)) = all_bind xs
  binds (tree.rest_pat s p) = binds p
  binds (tree.assign_pat s left right) = binds left
  binds (tree.key_value_pat_prop s key p) = binds p
  binds (tree.assign_pat_prop s key value) = true
  -- a hole
  binds tree.absent = true
  binds _ = false

  pub all_bind : Trees → Bool
  all_bind none = true
  all_bind (also x xs) = binds x && all_bind xs

abbrev pub if_binds : Option Tree → Option Tree
if_binds (Some p) = if binds p then Some p else None
if_binds None = None

-- as a parameter, with a default or without one
abbrev pub as_parameter : Tree → Option Tree
as_parameter x = if_binds (as_element x)
