-- The trees of modules that are answered whatever the walk finds in them.
use Rattle.std.specs.Prelude.{◌≡◌, Bool, true, false, ◌&&◌, ◌||◌}
use Rattle.swc_ecma_parser_common.specs.declared.span.Span.{Span}
use Rattle.swc_ecma_parser_input.specs.Place.{Place}
use Rattle.swc_ecma_parser_input.specs.TokenSource.{ordered_from}
use Rattle.swc_ecma_parser_model.specs.Tree as tree
use Rattle.swc_ecma_parser_model.specs.Tree.{Tree, Trees, none, also}
use Rattle.swc_ecma_parser_grammar.specs.scaffold.Supported.{supported, all_supported}
use Rattle.swc_ecma_parser_grammar.specs.language.Exports.{all_before}
use Rattle.swc_ecma_parser_module_reader.specs.Decorated.{none_before}

-- whether none of these begins before an export, or all do
abbrev pub on_one_side : Span → Trees → Bool
on_one_side s ds = none_before s.lo ds || all_before s ds

-- decorators of an export that begins at a place
abbrev pub supported_beside : Span → Tree → Bool
supported_beside s (tree.list ds) = all_supported ds && on_one_side s ds
supported_beside s _ = false

-- a class or a function with such decorators
abbrev pub supported_decorated : Span → Tree → Bool
supported_decorated s (tree.class t decorators body base) = supported_beside s decorators && supported (tree.class t (tree.list none) body base)
supported_decorated s (tree.function t decorators params body is_async is_generator) =
    supported_beside s decorators && supported (tree.function t (tree.list none) params body is_async is_generator)
supported_decorated s _ = false

-- Imports and exports, with attributes or without, exports of variables, functions and classes, and of expressions, functions and
-- classes by default, and the statements of scripts. Decorators of a class and of a function stand
-- before the export or behind its words.
abbrev pub supported_item : Tree → Bool
supported_item (tree.import s specifiers src attributes phase) = supported attributes
supported_item (tree.export_decl s (tree.class_decl name x)) = supported name && supported_decorated s x
supported_item (tree.export_decl s (tree.fn_decl name x)) = supported name && supported_decorated s x
supported_item (tree.export_decl s d) = supported d
supported_item (tree.export_named s specifiers src attributes) = supported attributes
supported_item (tree.export_default_decl s (tree.fn_expr t name x)) = supported name && supported_decorated s x
supported_item (tree.export_default_decl s (tree.class_expr t name x)) = supported name && supported_decorated s x
supported_item (tree.export_default_decl s d) = false
supported_item (tree.export_default_expr s e) = supported e
supported_item (tree.export_all s src attributes) = supported attributes
supported_item x = supported x

abbrev pub all_supported_items : Trees → Bool
all_supported_items none = true
all_supported_items (also t ts) = supported_item t && all_supported_items ts

abbrev pub supported_module : Tree → Bool
supported_module (tree.module_program s (tree.list ts) shebang) = all_supported_items ts
supported_module _ = false

-- scripts and modules
abbrev pub supported_program : Tree → Bool
supported_program (tree.script s (tree.list ts) shebang) = all_supported_items ts
supported_program x = supported_module x

-- ---- decorators before an export

-- whether there are any, and they begin before it
abbrev pub are_before : Span → Tree → Bool
are_before s (tree.list (also d ds)) = all_before s (also d ds)
are_before s _ = false

abbrev pub is_led_by : Span → Tree → Bool
is_led_by s (tree.class t decorators body base) = are_before s decorators
is_led_by s (tree.function t decorators params body is_async is_generator) = are_before s decorators
is_led_by s _ = false

-- whether an export begins behind decorators
abbrev pub is_led : Tree → Bool
is_led (tree.export_decl s (tree.class_decl name x)) = is_led_by s x
is_led (tree.export_decl s (tree.fn_decl name x)) = is_led_by s x
is_led (tree.export_default_decl s (tree.fn_expr t name x)) = is_led_by s x
is_led (tree.export_default_decl s (tree.class_expr t name x)) = is_led_by s x
is_led _ = false

abbrev pub any_led : Trees → Bool
any_led none = false
any_led (also t ts) = is_led t || any_led ts

abbrev pub any_led_in : Tree → Bool
any_led_in (tree.script s (tree.list ts) shebang) = any_led ts
any_led_in (tree.module_program s (tree.list ts) shebang) = any_led ts
any_led_in _ = false

-- Where such an export stands, the tokens stand one behind another. Else decorators behind its words could begin before it too, and
-- no tree would tell which of the two it has.
abbrev pub OrderedFor : (is_led : Bool) → Place → Type 0
OrderedFor is_led c = is_led ≡ true → ordered_from 0 c.left ≡ true
