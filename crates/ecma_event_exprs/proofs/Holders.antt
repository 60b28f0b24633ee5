-- The trees that hold a function or a class. Each lemma is of any function, so that no proof of a holder looks into what it holds.
use Rattle.std.proofs.Common.{◌≡◌, ◌∷◌, Bool, List, Result, OnOk}
use Rattle.ecma_events.specs.Event as event
use Rattle.ecma_events.specs.Event.{Event}
use Rattle.ecma_events.specs.declared.event.Binding.TheVariants as binding
use Rattle.ecma_events.specs.declared.event.CodeKind.TheVariants as kind
use Rattle.ecma_events.specs.declared.event.Role.{Role}
use Rattle.ecma_events.specs.declared.event.Role.TheVariants as role
use Rattle.ecma_event_exprs.specs.Events.{class_events, declared, declared_events, default_events, events, function_binding, function_events, key_events, named, prototype}
use Rattle.swc_ecma_parser_common.specs.declared.span.Span.{Span}
use Rattle.swc_ecma_parser_model.specs.declared.leaves.MethodKind.{MethodKind}
use Rattle.swc_ecma_parser_model.specs.Tree as tree
use Rattle.swc_ecma_parser_model.specs.Tree.{Tree, Text}

module _ {X E : Type 0} (res : Result X E) (q rest : List Event) where
  pub fn_expr : (r : Role) (s : Span) (name fn : Tree)
      → OnOk res (q ≡ function_events kind.Function name fn rest) → OnOk res (q ≡ events r (tree.fn_expr s name fn) rest)
  fn_expr r s name fn h = h

  pub class_expr : (r : Role) (s : Span) (name body : Tree)
      → OnOk res (q ≡ class_events name body rest) → OnOk res (q ≡ events r (tree.class_expr s name body) rest)
  class_expr r s name body h = h

  pub method : (r : Role) (s : Span) (key fn : Tree) (k : MethodKind) (is_static : Bool)
      → OnOk res (q ≡ prototype is_static key (key_events key (function_events kind.Method tree.absent fn rest)))
      → OnOk res (q ≡ events r (tree.method s key fn k is_static) rest)
  method r s key fn k is_static h = h

  pub private_method : (r : Role) (s t word : Span) (text : Text) (fn : Tree) (k : MethodKind) (is_static : Bool)
      → OnOk res (q ≡ event.private_member k is_static t text ∷ function_events kind.Method tree.absent fn rest)
      → OnOk res (q ≡ events r (tree.private_method s (tree.private_name t word text) fn k is_static) rest)
  private_method r s t word text fn k is_static h = h

  pub method_prop : (r : Role) (s : Span) (key fn : Tree)
      → OnOk res (q ≡ key_events key (function_events kind.Method tree.absent fn rest)) → OnOk res (q ≡ events r (tree.method_prop s key fn) rest)
  method_prop r s key fn h = h

  pub class_decl : (is_exported : Bool) (name body : Tree)
      → OnOk res (q ≡ named (role.Declared binding.Class is_exported) name (class_events name body rest))
      → OnOk res (q ≡ declared_events is_exported (tree.class_decl name body) rest)
  class_decl is_exported name body h = h

  pub fn_decl : (is_exported : Bool) (name fn : Tree)
      → OnOk res (q ≡ named (role.Declared (function_binding fn) is_exported) name (function_events kind.Function name fn rest))
      → OnOk res (q ≡ declared_events is_exported (tree.fn_decl name fn) rest)
  fn_decl is_exported name fn h = h

  pub default_class : (s : Span) (name body : Tree)
      → OnOk res (q ≡ named (declared binding.Class) name (class_events name body rest)) → OnOk res (q ≡ default_events (tree.class_expr s name body) rest)
  default_class s name body h = h

  pub default_fn : (s : Span) (name fn : Tree)
      → OnOk res (q ≡ named (declared (function_binding fn)) name (function_events kind.Function name fn rest))
      → OnOk res (q ≡ default_events (tree.fn_expr s name fn) rest)
  default_fn s name fn h = h
