-- The reader of imports: ECMA-262, section 16.2.2; and of what imports and exports share.
use Rattle.std.specs.Prelude.{Bool, ◌||◌, if◌then◌else◌, List, [], ◌∷◌, ◌++◌, codes, Option, Some, Ok}
use Rattle.std.specs.Str.{bytes_eq}
use Rattle.swc_ecma_parser_common.specs.declared.span.Span.{Span}
use Rattle.swc_ecma_parser_error.specs.Kind as faults
use Rattle.swc_ecma_parser_token.specs.declared.kind.TokenKind.TheVariants as kind
use Rattle.swc_ecma_parser_input.specs.Place.{Place}
use Rattle.swc_ecma_parser_model.specs.declared.leaves.Ident.{Ident}
use Rattle.swc_ecma_parser_model.specs.declared.leaves.ImportPhase.{ImportPhase}
use Rattle.swc_ecma_parser_model.specs.declared.leaves.ImportPhase.TheVariants as phase
use Rattle.swc_ecma_parser_model.specs.Tree as tree
use Rattle.swc_ecma_parser_model.specs.Tree.{Tree, Text, listed}
use Rattle.swc_ecma_parser_grammar.specs.Looks.{sees}
use Rattle.swc_ecma_parser_grammar.specs.Names.{Code, is_name, identifier_at}
use Rattle.swc_ecma_parser_grammar.specs.Follows.{word_at}
use Rattle.swc_ecma_parser_grammar.specs.language.Contexts.{outside_functions}
use Rattle.swc_ecma_parser_grammar.specs.language.Imports.{follows_phase}
use Rattle.swc_ecma_parser_grammar.specs.language.ModuleParts.{begins_attributes}
use Rattle.swc_ecma_parser_reader.specs.Operands.{literal, word_property}
use Rattle.swc_ecma_parser_reader.specs.Words.{any_word}
use Rattle.swc_ecma_parser_reader.specs.State.{Reader, ◌>>=◌, ◌>>◌, pure, span_here, since, skip, moved, within, fault_at, wanted, refuse, reject, name, expect, expect_word, end, Step, More, Done, loop}

-- ---- what imports and exports share

abbrev pub str_or : Option Tree → Reader Tree
str_or (Some (tree.str span value raw)) = pure (tree.str span value raw)
str_or _ = wanted faults.Unexpected

-- a string that must stand here
unfoldable pub str : Reader Tree
str = λ s. if sees kind.Str s.at then (literal >>= str_or) s else wanted faults.Unexpected s

-- from the word `from` on: where the other module is
unfoldable pub source : Reader Tree
source = do
  expect_word (codes "from")
  str

-- the name by which a module exports something: any word, or a string
unfoldable pub module_name : Reader Tree
module_name = λ s. if sees kind.Str s.at then str s else word_property s

-- attributes, a word and the object behind it, or nothing
unfoldable pub attributes : (object : Reader Tree) → Reader Tree
attributes object = λ s. if begins_attributes s.code s.at then object (moved s) else Ok (tree.absent, s)

module _ (specifier : Reader Tree) where
  unfoldable pub specifiers_turn : List Tree → Reader (Step (List Tree) (List Tree))
  specifiers_turn found = λ s. if sees kind.RBrace s.at then Ok (Done found, s) else (do
    x ← specifier
    λ t. if sees kind.Comma t.at then Ok (More (found ++ x ∷ []), moved t) else Ok (Done (found ++ x ∷ []), t)) s

  -- specifiers in braces; a comma may stand behind the last
  unfoldable pub specifiers : Reader (List Tree)
  specifiers = do
    expect kind.LBrace
    xs ← loop specifiers_turn []
    expect kind.RBrace
    pure xs

-- ---- what is imported

-- a name in braces without `as`: neither a reserved word nor a string
abbrev pub same_name : Span → Tree → Reader Tree
same_name start (tree.ident span text) = λ s. if is_name s.code.flags text then (do
  whole ← since start
  pure (tree.import_named whole (tree.ident span text) tree.absent)) s else reject (fault_at span faults.ReservedWordInImport) s
same_name start (tree.str span value raw) = reject (fault_at span faults.ImportBindingIsString)
same_name start _ = wanted faults.Unexpected

-- from `as` on
unfoldable pub other_name : Span → Tree → Reader Tree
other_name start imported = do
  skip
  i ← name faults.ExpectedIdent
  span ← since start
  pure (tree.import_named span (tree.ident i.span i.sym) imported)

unfoldable pub import_specifier : Reader Tree
import_specifier = do
  start ← span_here
  n ← module_name
  λ s. if word_at (codes "as") s.at then other_name start n s else same_name start n s

-- a name that a default or a namespace is bound to
unfoldable pub binding_name : Reader Ident
binding_name = within outside_functions (name faults.ExpectedIdent)

-- `* as name`
unfoldable pub import_namespace : Reader (List Tree)
import_namespace = do
  start ← span_here
  skip
  expect_word (codes "as")
  i ← binding_name
  span ← since start
  pure (tree.import_namespace span (tree.ident i.span i.sym) ∷ [])

unfoldable pub bindings : Reader (List Tree)
bindings = λ s. if sees kind.Mul s.at then import_namespace s else specifiers import_specifier s

-- all names, or names in braces
unfoldable pub begins_bindings : Place → Bool
begins_bindings c = sees kind.Mul c || sees kind.LBrace c

-- behind a default binding; a comma may stand there with nothing behind it
unfoldable pub more_bindings : Reader (List Tree)
more_bindings = λ s. if sees kind.Comma s.at then (do
  skip
  λ t. if begins_bindings t.at then bindings t else Ok ([], t)) s else Ok ([], s)

-- from behind its name on
unfoldable pub default_binding : Ident → Reader (List Tree)
default_binding i = do
  xs ← more_bindings
  pure (tree.import_default i.span (tree.ident i.span i.sym) ∷ xs)

unfoldable pub import_clause : Reader (List Tree)
import_clause = λ s. if begins_bindings s.at then bindings s else (binding_name >>= default_binding) s

-- ---- an import, whose attributes a reader of their own reads

-- from the string on
unfoldable pub imported : (object : Reader Tree) → Span → ImportPhase → List Tree → Reader Tree → Reader Tree
imported object start p xs from = do
  src ← from
  given ← attributes object
  end faults.Expected
  span ← since start
  pure (tree.import span (listed xs) src given p)

-- from what is imported on
unfoldable pub import_from : (object : Reader Tree) → Span → ImportPhase → Reader Tree
import_from object start p = do
  xs ← import_clause
  imported object start p xs source

-- the phase that one of the two words says
abbrev pub phase_of : Text → ImportPhase
phase_of text = if bytes_eq text (codes "source") then phase.Source else phase.Defer

-- such a word is a phase, or a name for the default
unfoldable pub import_phased : (object : Reader Tree) → Span → Reader Tree
import_phased object start = do
  i ← any_word
  λ s. if follows_phase s.code s.at then import_from object start (phase_of i.sym) s else (do
    xs ← default_binding i
    imported object start phase.Evaluation xs source) s

unfoldable pub is_phase_word : Place → Bool
is_phase_word c = word_at (codes "source") c || word_at (codes "defer") c

-- whether what is imported begins here: a name for the default, all names, or names in braces
unfoldable pub begins_clause : Code → Place → Bool
begins_clause k c = begins_bindings c || identifier_at (outside_functions k).flags c

-- an import in no phase, from behind its word on; where nothing that is imported begins, `from` is wanted
unfoldable pub import_unphased : (object : Reader Tree) → Span → Reader Tree
import_unphased object start = λ s. if begins_clause s.code s.at then import_from object start phase.Evaluation s else refuse faults.Expected s

unfoldable pub import_decl : (object : Reader Tree) → Reader Tree
import_decl object = do
  start ← span_here
  skip
  λ s.
      if sees kind.Str s.at then imported object start phase.Evaluation [] str s
      else if is_phase_word s.at then import_phased object start s
      else import_unphased object start s
