-- The reader of exports: ECMA-262, section 16.2.3, and the proposal of `export name from`.
use Rattle.std.specs.Prelude.{Bool, not, ◌&&◌, ◌||◌, if◌then◌else◌, List, [], ◌∷◌, ◌++◌, codes, Ok}
use Rattle.swc_ecma_parser_common.specs.declared.span.Span.{Span}
use Rattle.swc_ecma_parser_error.specs.Kind as faults
use Rattle.swc_ecma_parser_token.specs.declared.kind.TokenKind.TheVariants as kind
use Rattle.swc_ecma_parser_input.specs.Place.{Place, after}
use Rattle.swc_ecma_parser_model.specs.declared.leaves.VarDeclKind.TheVariants as decl
use Rattle.swc_ecma_parser_model.specs.Tree as tree
use Rattle.swc_ecma_parser_model.specs.Tree.{Tree, listed}
use Rattle.swc_ecma_parser_model.specs.Forms.{span_of}
use Rattle.swc_ecma_parser_grammar.specs.Looks.{sees, span_at}
use Rattle.swc_ecma_parser_grammar.specs.Names.{Code, name_at}
use Rattle.swc_ecma_parser_grammar.specs.Follows.{word_at, is_let_declaration, is_async_function}
use Rattle.swc_ecma_parser_grammar.specs.Own.{export_faults}
use Rattle.swc_ecma_parser_grammar.specs.language.Contexts.{with_in}
use Rattle.swc_ecma_parser_grammar.specs.language.Goals.{Class, assignment, left_side}
use Rattle.swc_ecma_parser_reader.specs.Jumps.{told}
use Rattle.swc_ecma_parser_reader.specs.Members.{class_decl, class_expr}
use Rattle.swc_ecma_parser_reader.specs.Methods.{star}
use Rattle.swc_ecma_parser_reader.specs.Reader.{variables, function_decl, function_parts, function_word, named}
use Rattle.swc_ecma_parser_reader.specs.State.{Reader, ◌>>=◌, ◌>>◌, pure, span_here, since, skip, within, refuse, name, expect_word, end}
use Rattle.swc_ecma_parser_module_reader.specs.Imports.{source, module_name, attributes, specifiers}

-- ---- names that are exported; a reader of their own reads the attributes of another module

unfoldable pub renamed_export : Span → Tree → Reader Tree
renamed_export start orig = do
  skip
  n ← module_name
  span ← since start
  pure (tree.export_specifier span orig n)

unfoldable pub plain_export : Span → Tree → Reader Tree
plain_export start orig = do
  span ← since start
  pure (tree.export_specifier span orig tree.absent)

unfoldable pub export_specifier : Reader Tree
export_specifier = do
  start ← span_here
  orig ← module_name
  λ s. if word_at (codes "as") s.at then renamed_export start orig s else plain_export start orig s

-- `as name`, behind `*`; its span begins with what stands behind `export`
unfoldable pub export_namespace : Span → Reader Tree
export_namespace start = do
  expect_word (codes "as")
  n ← module_name
  span ← since start
  pure (tree.export_namespace span n)

-- from the word `from` on
unfoldable pub names_from : (object : Reader Tree) → Span → List Tree → Reader Tree
names_from object start xs = do
  src ← source
  given ← attributes object
  end faults.Expected
  span ← since start
  pure (tree.export_named span (listed xs) src given)

-- names of the module itself; what is no such name is told before the end
unfoldable pub own_names : Span → List Tree → Reader Tree
own_names start xs = do
  told (export_faults tree.absent (listed xs))
  end faults.Expected
  span ← since start
  pure (tree.export_named span (listed xs) tree.absent tree.absent)

-- names in braces, with those before them
unfoldable pub export_names : (object : Reader Tree) → Span → List Tree → Reader Tree
export_names object start before = do
  xs ← specifiers export_specifier
  λ s. if word_at (codes "from") s.at then names_from object start (before ++ xs) s else own_names start (before ++ xs) s

-- behind a default or a namespace of another module: with the setting names in braces, else the module
unfoldable pub more_names : (object : Reader Tree) → Span → List Tree → Reader Tree
more_names object start before = λ s. if s.code.setting.export_default_from && sees kind.Comma s.at then (do
  skip
  export_names object start before) s else names_from object start before s

-- from the word `as` on, with what stands before the star; the words behind `export` begin at `first`
unfoldable pub namespace_names : (object : Reader Tree) → (start first : Span) → List Tree → Reader Tree
namespace_names object start first before = do
  x ← export_namespace first
  more_names object start (before ++ x ∷ [])

unfoldable pub export_all : (object : Reader Tree) → Span → Reader Tree
export_all object start = do
  src ← source
  given ← attributes object
  end faults.Expected
  span ← since start
  pure (tree.export_all span src given)

-- from `*` on
unfoldable pub export_star : (object : Reader Tree) → Span → Reader Tree
export_star object start = do
  at ← span_here
  skip
  λ s. if word_at (codes "as") s.at then namespace_names object start at [] s else export_all object start s

-- ---- with the setting, the default of another module

unfoldable pub is_namespace_next : Place → Bool
is_namespace_next c = sees kind.Comma c && sees kind.Mul (after c)

-- from behind the default on, which begins at `first`
unfoldable pub behind_default : (object : Reader Tree) → (start first : Span) → Tree → Reader Tree
behind_default object start first x = λ s. if is_namespace_next s.at then (do
  skip
  skip
  namespace_names object start first (x ∷ [])) s else more_names object start (x ∷ []) s

-- under a name, which `await` is not in module code
unfoldable pub is_name_from : Code → Place → Bool
is_name_from k c = k.setting.export_default_from && (name_at k.flags c && not (sees kind.Await c))

unfoldable pub name_from : (object : Reader Tree) → Span → Reader Tree
name_from object start = do
  first ← span_here
  i ← name faults.ExpectedIdent
  behind_default object start first (tree.export_default (tree.ident i.span i.sym))

-- under the word `default`, from behind it on
unfoldable pub is_default_from : Code → Place → Bool
is_default_from k c = k.setting.export_default_from && (word_at (codes "from") c || (sees kind.Comma c && (sees kind.Mul (after c) || sees kind.LBrace (after c))))

unfoldable pub default_from : (object : Reader Tree) → (start first : Span) → Reader Tree
default_from object start first = behind_default object start first (tree.export_default (tree.ident first (codes "default")))

-- ---- declarations and defaults

-- the name of a function that is exported by default, which is read in the code around, or none
unfoldable pub default_name : Reader Tree
default_name = λ s. if name_at s.code.flags s.at then named s else Ok (tree.absent, s)

module _ (stmt : Reader Tree) (params : Reader (List Tree)) where
  unfoldable pub default_function : Reader Tree
  default_function = do
    start ← span_here
    is_async ← function_word
    is_generator ← star
    i ← default_name
    fn ← function_parts stmt params is_async is_generator start
    pure (tree.fn_expr (span_of fn) i fn)

module _ (expr : Class → Reader Tree) where
  unfoldable pub default_expr : Span → Reader Tree
  default_expr start = do
    e ← within with_in (expr assignment)
    end faults.Expected
    span ← since start
    pure (tree.export_default_expr span e)

unfoldable pub begins_default_function : Place → Bool
begins_default_function c = sees kind.Function c || is_async_function c

module _ (stmt : Reader Tree) (expr : Class → Reader Tree) (pat : Reader Tree) (params : Reader (List Tree)) (member : Reader Tree) where
  unfoldable pub exported_function : Span → Reader Tree
  exported_function start = do
    x ← default_function stmt params
    span ← since start
    pure (tree.export_default_decl span x)

  -- a class is read as an expression, whose name may be missing too
  unfoldable pub exported_class : Span → Reader Tree
  exported_class start = do
    x ← class_expr (expr left_side) member
    span ← since start
    pure (tree.export_default_decl span x)

  -- what is neither a class nor a function, from behind `export default` on; the word `default` stands at `first`
  unfoldable pub default_rest : (object : Reader Tree) → (start first : Span) → Reader Tree
  default_rest object start first = λ s. if is_default_from s.code s.at then default_from object start first s else default_expr expr start s

  -- from behind `export default` on
  unfoldable pub export_default : (object : Reader Tree) → (start first : Span) → Reader Tree
  export_default object start first = λ s.
      if sees kind.Class s.at then exported_class start s
      else if begins_default_function s.at then exported_function start s
      else default_rest object start first s

  -- a declaration that is exported
  unfoldable pub exported : Span → Reader Tree → Reader Tree
  exported start declaration = do
    x ← declaration
    span ← since start
    pure (tree.export_decl span x)

  -- what is neither a class nor a function, from behind `export` on; where none of its forms begins, `{` is wanted
  unfoldable pub export_rest : (object : Reader Tree) → Span → Reader Tree
  export_rest object start = λ s.
      if sees kind.LBrace s.at then export_names object start [] s
      else if sees kind.Mul s.at then export_star object start s
      else if sees kind.Var s.at then exported start (variables expr pat decl.Var) s
      else if sees kind.Const s.at then exported start (variables expr pat decl.Const) s
      else if is_let_declaration s.at then exported start (variables expr pat decl.Let) s
      else if is_name_from s.code s.at then name_from object start s
      else refuse faults.Expected s

  -- no default, from behind `export` on
  unfoldable pub export_named : (object : Reader Tree) → Span → Reader Tree
  export_named object start = λ s.
      if sees kind.Class s.at then exported start (class_decl (expr left_side) member) s
      else if begins_default_function s.at then exported start (function_decl stmt params) s
      else export_rest object start s

  -- an export without decorators
  unfoldable pub export_decl : (object : Reader Tree) → Reader Tree
  export_decl object = do
    start ← span_here
    skip
    λ s. if sees kind.Default s.at then (skip >> export_default object start (span_at s.at)) s else export_named object start s
