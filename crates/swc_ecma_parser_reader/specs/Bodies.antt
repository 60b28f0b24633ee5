-- The reader of statements in braces, of functions and of methods: ECMA-262, sections 14.2 and 15.
use Rattle.std.specs.Prelude.{Bool, true, false, ◌||◌, if◌then◌else◌, List, [], ◌∷◌, ◌++◌, Ok}
use Rattle.swc_ecma_parser_common.specs.declared.span.Span.{Span}
use Rattle.swc_ecma_parser_error.specs.Kind as faults
use Rattle.swc_ecma_parser_token.specs.declared.kind.TokenKind.TheVariants as kind
use Rattle.swc_ecma_parser_input.specs.Place.{Place}
use Rattle.swc_ecma_parser_model.specs.Tree as tree
use Rattle.swc_ecma_parser_model.specs.Tree.{Tree, listed}
use Rattle.swc_ecma_parser_model.specs.Forms.{is_binding_name, is_rest, span_of, has_plain_params}
use Rattle.swc_ecma_parser_grammar.specs.Looks.{sees, span_at}
use Rattle.swc_ecma_parser_grammar.specs.Names.{name_at}
use Rattle.swc_ecma_parser_grammar.specs.Follows.{is_async_function}
use Rattle.swc_ecma_parser_grammar.specs.Parameters as formal
use Rattle.swc_ecma_parser_grammar.specs.Own.{misplaced_directive}
use Rattle.swc_ecma_parser_grammar.specs.language.Items.{directed, directs_on}
use Rattle.swc_ecma_parser_grammar.specs.language.Contexts.{named_by, in_parameters, in_body, in_arrow, with_in}
use Rattle.swc_ecma_parser_reader.specs.Jumps.{told}
use Rattle.swc_ecma_parser_reader.specs.Methods.{star}
use Rattle.swc_ecma_parser_reader.specs.State.{Reader, ◌>>=◌, ◌>>◌, pure, here, span_here, since, skip, moved, spanned_from, coded, within, enclosed, fault, fault_at, reject, name, expect, Step, More, Done, loop}

-- ---- statements in braces

-- a block's statements end before `}` or at the end of the list
unfoldable pub closes : Place → Bool
closes c = sees kind.RBrace c || sees kind.End c

unfoldable pub at_end : Place → Bool
at_end c = sees kind.End c

-- the `}`, or a fault where the list has ended
unfoldable pub close : Reader (Unit {0})
close = λ s. if sees kind.RBrace s.at then skip s else fault (fault_at (span_at s.at) faults.Expected) s

-- whether a statement behind these can be a directive
abbrev pub directs : Bool → List Tree → Bool
directs directives [] = directives
directs directives (x ∷ xs) = directs (directs_on directives x) xs

abbrev pub after_item : Bool → List Tree → Tree → Reader (Step (List Tree) (List Tree))
after_item directives found x = λ s. Ok (More (found ++ x ∷ []), coded (directed s.code (directs directives found) x) s)

module _ (stmt : Reader Tree) where
  unfoldable pub items_turn : (Place → Bool) → Bool → List Tree → Reader (Step (List Tree) (List Tree))
  items_turn stops directives found = λ s. if stops s.at then Ok (Done found, s) else (stmt >>= after_item directives found) s

  -- statements up to a place where they stop, in a body with directives or without
  unfoldable pub items : (Place → Bool) → Bool → Reader (List Tree)
  items stops directives = loop (items_turn stops directives) []

  -- statements in braces, from behind the `{`, with directives or without
  unfoldable pub block_from : Bool → Place → Reader Tree
  block_from directives start = do
    body ← items closes directives
    close
    span ← spanned_from start
    pure (tree.block span (listed body))

  unfoldable pub block : Reader Tree
  block = do
    start ← here
    skip
    block_from false start

  -- statements in braces that must stand here
  unfoldable pub braced : Bool → Reader Tree
  braced directives = do
    start ← here
    expect kind.LBrace
    block_from directives start

-- ---- functions

-- parameters that are no plain names, before a body that says it is strict
unfoldable pub misdirected : (params body : Tree) → Reader (Unit {0})
misdirected params body = told (misplaced_directive (has_plain_params params) body)

unfoldable pub named : Reader Tree
named = do
  i ← name faults.ExpectedIdent
  pure (tree.ident i.span i.sym)

-- the words that begin a function, and whether `async` is one of them
unfoldable pub function_word : Reader Bool
function_word = λ s. if is_async_function s.at then Ok (true, moved (moved s)) else Ok (false, moved s)

-- the name of a function that is an expression, which is read in the function's own code, or none
unfoldable pub own_name : (is_async is_generator : Bool) → Reader Tree
own_name is_async is_generator = λ s. if name_at (named_by s.code is_async is_generator).flags s.at then within (λ k. named_by k is_async is_generator) named s else Ok (tree.absent, s)

-- A getter has no parameter, a setter one, which is no rest; else the word that it begins with is refused.
abbrev pub no_parameter : Span → List Tree → Reader (Unit {0})
no_parameter word [] = pure tt
no_parameter word (p ∷ ps) = reject (fault_at word faults.GetterParam)

abbrev pub one_parameter : Span → List Tree → Reader Tree
one_parameter word (p ∷ []) = λ s. if is_rest p then reject (fault_at word faults.RestPatInSetter) s else Ok (p, s)
one_parameter word _ = reject (fault_at word faults.SetterParam)

module _ (stmt : Reader Tree) (params : Reader (List Tree)) where
  -- a body, which has labels and an entry of its own
  unfoldable pub function_body : (is_async is_generator : Bool) → Reader Tree
  function_body is_async is_generator = within (λ k. in_body k is_async is_generator) (enclosed (braced stmt true))

  -- from behind the name
  unfoldable pub function_parts : (is_async is_generator : Bool) → Span → Reader Tree
  function_parts is_async is_generator start = do
    ps ← within (λ k. in_parameters k is_async is_generator) params
    body ← function_body is_async is_generator
    span ← since start
    misdirected (formal.parameters ps) body
    pure (tree.function span (listed []) (formal.parameters ps) body is_async is_generator)

  unfoldable pub function_decl : Reader Tree
  function_decl = do
    start ← span_here
    is_async ← function_word
    is_generator ← star
    i ← name faults.ExpectedIdent
    fn ← function_parts is_async is_generator start
    pure (tree.fn_decl (tree.ident i.span i.sym) fn)

  -- a function that is an expression, with a name or without one
  unfoldable pub function_expr : Reader Tree
  function_expr = do
    start ← span_here
    is_async ← function_word
    is_generator ← star
    i ← own_name is_async is_generator
    fn ← function_parts is_async is_generator start
    pure (tree.fn_expr (span_of fn) i fn)

  -- ---- methods, from behind their key: section 15.4

  unfoldable pub getter : Span → Tree → Reader Tree
  getter start key = do
    ps ← within (λ k. in_parameters k false false) params
    no_parameter start ps
    body ← function_body false false
    span ← since start
    pure (tree.getter_prop span key body)

  unfoldable pub setter : Span → Tree → Reader Tree
  setter start key = do
    ps ← within (λ k. in_parameters k false false) params
    p ← one_parameter start ps
    body ← function_body false false
    span ← since start
    told (misplaced_directive (is_binding_name p) body)
    pure (tree.setter_prop span key p body)

  unfoldable pub plain_method : (is_async is_generator : Bool) → Span → Tree → Reader Tree
  plain_method is_async is_generator start key = do
    fn ← function_parts is_async is_generator start
    pure (tree.method_prop (span_of fn) key fn)

  -- the block of an arrow function, which has labels and an entry of its own
  unfoldable pub arrow_block : (is_async : Bool) → Reader Tree
  arrow_block is_async = within (λ k. with_in (in_arrow k is_async)) (enclosed (braced stmt true))
