-- The decorators of what is exported, before or behind the words of the export: the proposal of decorators.
use Rattle.std.specs.Prelude.{Bool, true, not, ◌&&◌, ◌||◌, if◌then◌else◌, nat_lt, List, [], Ok}
use Rattle.swc_ecma_parser_common.specs.declared.span.BytePos.{BytePos}
use Rattle.swc_ecma_parser_common.specs.declared.span.Span.{Span}
use Rattle.swc_ecma_parser_error.specs.Kind as faults
use Rattle.swc_ecma_parser_token.specs.declared.kind.TokenKind.TheVariants as kind
use Rattle.swc_ecma_parser_input.specs.Place.{Place}
use Rattle.swc_ecma_parser_model.specs.Tree as tree
use Rattle.swc_ecma_parser_model.specs.Tree.{Tree, Trees, none, also, listed, trees}
use Rattle.swc_ecma_parser_model.specs.Forms.{span_of}
use Rattle.swc_ecma_parser_grammar.specs.Looks.{sees, span_at}
use Rattle.swc_ecma_parser_grammar.specs.Names.{Code}
use Rattle.swc_ecma_parser_grammar.specs.language.Exports.{begin_before}
use Rattle.swc_ecma_parser_grammar.specs.language.Goals.{Class, left_side}
use Rattle.swc_ecma_parser_reader.specs.Decorators.{Leading, leading, has_any, misplaced}
use Rattle.swc_ecma_parser_reader.specs.Dressed.{function_parts_with}
use Rattle.swc_ecma_parser_reader.specs.Members.{class_decl, class_expr}
use Rattle.swc_ecma_parser_reader.specs.Methods.{star}
use Rattle.swc_ecma_parser_reader.specs.Reader.{function_word, function_decl}
use Rattle.swc_ecma_parser_reader.specs.State.{State, Reader, ◌>>=◌, ◌>>◌, pure, span_here, since, skip, fault_at, reject}
use Rattle.swc_ecma_parser_module_reader.specs.Exports.{begins_default_function, default_name, default_function, default_rest, export_default, exported, export_rest, export_named}

-- ---- trees

-- a class or a function with these decorators, under its name
abbrev pub with_decorators : List Tree → Tree → Tree
with_decorators ds (tree.class_decl name (tree.class s decorators body base)) = tree.class_decl name (tree.class s (listed ds) body base)
with_decorators ds (tree.class_expr r name (tree.class s decorators body base)) = tree.class_expr r name (tree.class s (listed ds) body base)
with_decorators ds (tree.fn_decl name (tree.function s decorators params body is_async is_generator)) =
    tree.fn_decl name (tree.function s (listed ds) params body is_async is_generator)
with_decorators ds (tree.fn_expr r name (tree.function s decorators params body is_async is_generator)) =
    tree.fn_expr r name (tree.function s (listed ds) params body is_async is_generator)
with_decorators ds x = x

-- whether none of these begins before a position
abbrev pub none_before : BytePos → Trees → Bool
none_before at none = true
none_before at (also x xs) = not (nat_lt (span_of x).lo.0 at.0) && none_before at xs

-- ---- a list behind a word

-- whether one begins here
unfoldable pub begins_decorators : Code → Place → Bool
begins_decorators k c = k.setting.decorators && sees kind.At c

-- no decorators, where nothing was read
abbrev pub no_leading : State → Leading
no_leading s = record { found = []; place = span_at s.at; module_found = s.notes.found_module_item }

-- Those behind a word, where an export begins at `start`: no further `export` follows them, none stand before it too, and none
-- begins before it.
unfoldable pub later_alone : (start : Span) → (v w : Leading) → Reader (Unit {0})
later_alone start v w = λ s.
    if sees kind.Export s.at then reject (fault_at (span_at s.at) faults.ExportNotAllowed) s
    else if has_any v.found then reject (fault_at w.place faults.TS8038) s
    else if none_before start.lo (trees w.found) then Ok (tt, s)
    else reject (fault_at w.place faults.DecoratorOnExport) s

-- they are those of the export, or those before it are
unfoldable pub later : (further : Reader Tree) → (start : Span) → Leading → Reader Leading
later further start v = do
  w ← leading further
  λ s. if has_any w.found then (later_alone start v w >> pure w) s else Ok (v, s)

-- a class or a function takes them
unfoldable pub decorating : List Tree → Reader Tree → Reader Tree
decorating ds p = do
  x ← p
  pure (with_decorators ds x)

-- a function that is exported by default with these, step by step
unfoldable pub default_function_with : (stmt : Reader Tree) (params : Reader (List Tree)) → List Tree → Reader Tree
default_function_with stmt params ds = do
  start ← span_here
  is_async ← function_word
  is_generator ← star
  i ← default_name
  fn ← function_parts_with stmt params ds is_async is_generator start
  pure (tree.fn_expr (span_of fn) i fn)

-- what is exported by default
unfoldable pub by_default : Span → Reader Tree → Reader Tree
by_default start p = do
  x ← p
  span ← since start
  pure (tree.export_default_decl span x)

-- ---- an export with decorators: a class or a function takes them, and before anything else they are dropped

module _ (stmt : Reader Tree) (expr : Class → Reader Tree) (pat : Reader Tree) (params : Reader (List Tree)) (member : Reader Tree) (object further : Reader Tree) where
  unfoldable pub named_with : (start : Span) → Leading → Reader Tree
  named_with start v = λ s.
      if sees kind.Class s.at then exported stmt expr pat params member start (decorating v.found (class_decl (expr left_side) member)) s
      else if begins_default_function s.at then exported stmt expr pat params member start (decorating v.found (function_decl stmt params)) s
      else (misplaced v >> export_rest stmt expr pat params member object start) s

  unfoldable pub default_with : (start first : Span) → Leading → Reader Tree
  default_with start first v = λ s.
      if sees kind.Class s.at then by_default start (decorating v.found (class_expr (expr left_side) member)) s
      else if begins_default_function s.at then by_default start (decorating v.found (default_function stmt params)) s
      else (misplaced v >> default_rest stmt expr pat params member object start first) s

  -- from behind `export` on, and from behind `export default`
  unfoldable pub behind_export : (start : Span) → Leading → Reader Tree
  behind_export start v = λ s.
      if has_any v.found || begins_decorators s.code s.at then (later further start v >>= named_with start) s
      else export_named stmt expr pat params member object start s

  unfoldable pub behind_default_word : (start first : Span) → Leading → Reader Tree
  behind_default_word start first v = λ s.
      if has_any v.found || begins_decorators s.code s.at then (later further start v >>= default_with start first) s
      else export_default stmt expr pat params member object start first s

  -- an export, with what stands before it
  unfoldable pub export_from : Leading → Reader Tree
  export_from v = do
    start ← span_here
    skip
    λ s. if sees kind.Default s.at then (skip >> behind_default_word start (span_at s.at) v) s else behind_export start v s

  -- those before it have a setting, and each begins before it
  unfoldable pub export_with : Leading → Reader Tree
  export_with v = λ s.
      if has_any v.found && not (s.code.setting.decorators_before_export && begin_before (span_at s.at) (listed v.found))
      then reject (fault_at v.place faults.DecoratorOnExport) s else export_from v s

  unfoldable pub export_item : Reader Tree
  export_item = λ s. export_from (no_leading s) s
