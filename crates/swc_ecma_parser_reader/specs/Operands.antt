-- The reader of what expressions are made of, rule by rule: ECMA-262, section 13. What is read one level further in is read by a reader
-- for each class of expressions.
use Rattle.std.specs.Prelude.{ℕ, suc, Bool, true, false, not, ◌&&◌, ◌||◌, if◌then◌else◌, nat_le, is_some, List, [], ◌∷◌, ◌++◌, codes, Option, Some, None, Ok}
use Rattle.swc_ecma_parser_common.specs.declared.span.Span.{Span}
use Rattle.swc_ecma_parser_error.specs.Kind as faults
use Rattle.swc_ecma_parser_error.specs.Kind.{Kind}
use Rattle.swc_ecma_parser_token.specs.declared.kind.TokenKind.TheVariants as kind
use Rattle.swc_ecma_parser_token.specs.declared.token.Token.{Token}
use Rattle.swc_ecma_parser_token.specs.declared.token.Token.TheVariants as token
use Rattle.swc_ecma_parser_token.specs.declared.token.Word.TheVariants as word
use Rattle.swc_ecma_parser_token.specs.declared.token.TokenAndSpan.{TokenAndSpan}
use Rattle.swc_ecma_parser_input.specs.Place.{Place}
use Rattle.swc_ecma_parser_model.specs.declared.leaves.MetaPropKind.TheVariants as meta
use Rattle.swc_ecma_parser_model.specs.declared.operators.UnaryOp.{UnaryOp}
use Rattle.swc_ecma_parser_model.specs.declared.operators.UpdateOp.{UpdateOp}
use Rattle.swc_ecma_parser_model.specs.declared.operators.BinaryOp.{BinaryOp}
use Rattle.swc_ecma_parser_model.specs.declared.operators.BinaryOp.TheVariants as binary
use Rattle.swc_ecma_parser_model.specs.declared.operators.AssignOp.{AssignOp}
use Rattle.swc_ecma_parser_model.specs.declared.operators.AssignOp.TheVariants as assign
use Rattle.swc_ecma_parser_model.specs.Tree as tree
use Rattle.swc_ecma_parser_model.specs.Tree.{Tree, Text, listed}
use Rattle.swc_ecma_parser_model.specs.Forms.{is_simple_target, is_chain, span_of}
use Rattle.swc_ecma_parser_model.specs.Targets.{as_target}
use Rattle.swc_ecma_parser_grammar.specs.Looks.{kind_at, breaks_at, sees, span_at}
use Rattle.swc_ecma_parser_grammar.specs.Names.{Code, may_refer_to_await}
use Rattle.swc_ecma_parser_grammar.specs.Follows.{word_at, continues_left_side, begins_template}
use Rattle.swc_ecma_parser_grammar.specs.language.Goals.{Class, expression, assignment, operator, unary, callee}
use Rattle.swc_ecma_parser_grammar.specs.language.Contexts.{may_await, with_in}
use Rattle.swc_ecma_parser_grammar.specs.language.Operators.{update_operator, binary_operator, assign_operator, precedence, groups_left, is_operator, mixes, is_unary}
use Rattle.swc_ecma_parser_grammar.specs.language.Continues.{continues_conditional}
unfoldable pub use Rattle.swc_ecma_parser_reader.specs.Words.{word_by, word_in, any_word, touching_word, private_name, begins_async_call, is_head, heads_arrow}
use Rattle.swc_ecma_parser_reader.specs.Templates.{Pieces, is_tail, template_text, first_piece, with_piece, template_of}
use Rattle.swc_ecma_parser_reader.specs.Methods.{MethodForm, FunctionForm, property_form, method_words, is_bare}
use Rattle.swc_ecma_parser_reader.specs.State.{State, Reader, ◌>>=◌, ◌>>◌, pure, span_here, since, skip, moved, note_module_item, within, fault, fault_at, wanted, refuse, reject, expect, reference, as_name, Step, More, Done, loop}

-- ---- literals

abbrev pub literal_of : Span → Token → Option Tree
literal_of span (token.Str value raw) = Some (tree.str span value raw)
literal_of span (token.Num raw) = Some (tree.num span raw)
literal_of span (token.BigInt raw) = Some (tree.big_int span raw)
literal_of span (token.Word word.Null) = Some (tree.null span)
literal_of span (token.Word word.True) = Some (tree.bool span true)
literal_of span (token.Word word.False) = Some (tree.bool span false)
literal_of span _ = None

abbrev pub literal_in : List TokenAndSpan → Option Tree
literal_in [] = None
literal_in (t ∷ ts) = literal_of t.span t.token

abbrev pub taken : Option Tree → Reader (Option Tree)
taken None = λ s. Ok (None, s)
taken (Some x) = λ s. Ok (Some x, moved s)

-- a literal, if one stands here
unfoldable pub literal : Reader (Option Tree)
literal = λ s. taken (literal_in s.at.left) s

-- ---- steps that read nothing further in

unfoldable pub word_property : Reader Tree
word_property = do
  i ← any_word
  pure (tree.ident i.span i.sym)

-- whether a word stands first, reserved or not
abbrev pub token_is_word : Token → Bool
token_is_word (token.Word w) = true
token_is_word _ = false

abbrev pub first_is_word : List TokenAndSpan → Bool
first_is_word [] = false
first_is_word (t ∷ ts) = token_is_word t.token

unfoldable pub is_word_at : Place → Bool
is_word_at c = first_is_word c.left

-- a string or a number as a key
abbrev pub key_or : Option Tree → Reader Tree
key_or (Some (tree.str span value raw)) = pure (tree.str span value raw)
key_or (Some (tree.num span raw)) = pure (tree.num span raw)
key_or (Some (tree.big_int span raw)) = pure (tree.big_int span raw)
key_or _ = wanted faults.ExpectedIdent

unfoldable pub literal_key : Reader Tree
literal_key = literal >>= key_or

-- a key with nothing behind it: a name
unfoldable pub shorthand_name : Span → Text → Reader Tree
shorthand_name span text = do
  as_name may_refer_to_await span text
  pure (tree.shorthand_prop span text)

abbrev pub shorthand : Tree → Reader Tree
shorthand (tree.ident span text) = shorthand_name span text
shorthand _ = wanted faults.Unexpected

-- what stands behind `.`
unfoldable pub dotted : Reader Tree
dotted = λ s. if sees kind.Hash s.at then private_name s else word_property s

unfoldable pub ident_expr : Reader Tree
ident_expr = do
  i ← reference faults.Unexpected
  pure (tree.ident i.span i.sym)

unfoldable pub this : Reader Tree
this = do
  start ← span_here
  skip
  span ← since start
  pure (tree.this span)

-- `import.meta` makes a program a module; it is a fault in code that cannot be a module's
unfoldable pub meta_fault : Span → Reader (Unit {0})
meta_fault span = λ s. if s.code.flags.can_be_module then Ok (tt, s) else fault (fault_at span faults.ImportMetaInScript) s

unfoldable pub import_meta : Span → Reader Tree
import_meta start = λ s. if word_at (codes "meta") s.at then (do
  skip
  span ← since start
  note_module_item
  meta_fault span
  pure (tree.meta_prop span meta.ImportMeta)) s else wanted faults.Unexpected s

-- `new.target` from its word on
unfoldable pub new_target : Span → Reader Tree
new_target start = λ s. if word_at (codes "target") s.at then (do
  skip
  span ← since start
  pure (tree.meta_prop span meta.NewTarget)) s else wanted faults.Unexpected s

-- a member or a call as a link of an optional chain
abbrev pub chain_of : (optional : Bool) → Tree → Tree
chain_of optional base = tree.opt_chain (span_of base) optional base

-- what goes on with an optional chain is a link of it
abbrev pub linked : Tree → Tree → Tree
linked x y = if is_chain x then chain_of false y else y

-- `in` behind a private name
unfoldable pub in_word : Reader (Unit {0})
in_word = λ s. if sees kind.In s.at && s.code.flags.include_in_expr then Ok (tt, moved s) else wanted faults.Unexpected s

-- the loop goes on with it
abbrev pub more : Tree → Reader (Step Tree Tree)
more x = pure (More x)

unfoldable pub bare_new : Span → Tree → Reader Tree
bare_new start x = do
  span ← since start
  pure (tree.new span x tree.absent)

-- nothing goes on with it, a postfix operator either
unfoldable pub closed_left : Tree → Reader Tree
closed_left x = λ s. if continues_left_side s.at then wanted faults.Unexpected s else Ok (x, s)

-- what `++` and `--` stand at
unfoldable pub simple : Tree → Reader (Unit {0})
simple e = λ s. if is_simple_target e then Ok (tt, s) else reject (fault_at (span_of e) faults.NotSimpleAssign) s

unfoldable pub update_behind : Span → Tree → UpdateOp → Reader Tree
update_behind start e op = do
  simple e
  skip
  span ← since start
  pure (tree.update span op false e)

abbrev pub behind_operand : Span → Tree → Option UpdateOp → Reader Tree
behind_operand start e None = pure e
behind_operand start e (Some op) = update_behind start e op

-- an operator behind an operand stands on its line
unfoldable pub postfix_at : Place → Option UpdateOp
postfix_at c = if breaks_at c then None else update_operator (kind_at c)

-- `await` is a fault in the body of a function that is not async, and in parameters
abbrev pub misplaced_await : Code → Kind
misplaced_await k = if k.flags.in_function then faults.AwaitInFunction else faults.AwaitParamInAsync

unfoldable pub await_allowed : (word : Span) → Reader (Unit {0})
await_allowed word = λ s. if may_await s.code then Ok (tt, s) else fault (fault_at word (misplaced_await s.code)) s

-- the class of the right operand
abbrev pub right_class : BinaryOp → Class
right_class op = operator (if groups_left op then suc (precedence op) else precedence op)

-- the operator that stands here, where it is read and binds at least so tightly
abbrev pub read_operator : ℕ → Code → Option BinaryOp → Option BinaryOp
read_operator n k None = None
read_operator n k (Some op) = if is_operator k op && nat_le n (precedence op) then Some op else None

unfoldable pub operator_at : ℕ → State → Option BinaryOp
operator_at n s = read_operator n s.code (binary_operator (kind_at s.at))

-- no unary operator stands left of `**`
unfoldable pub left_operand : BinaryOp → Tree → Reader (Unit {0})
left_operand op x = λ s. if not (groups_left op) && is_unary x then reject (fault_at (span_of x) faults.UnaryInExp) s else Ok (tt, s)

-- `??` does not stand beside `||` and `&&`
unfoldable pub unmixed : Span → BinaryOp → Tree → Tree → Reader Tree
unmixed start op x y = do
  span ← since start
  λ s. if mixes op x || mixes op y then reject (fault_at span faults.NullishCoalescingWithLogicalOp) s else Ok (tree.bin span op x y, s)

-- no assignment operator stands behind a conditional
unfoldable pub unassigned : Tree → Reader Tree
unassigned x = λ s. if continues_conditional s.at then wanted faults.Unexpected s else Ok (x, s)

abbrev pub unassignable : AssignOp → Kind
unassignable assign.Assign = faults.InvalidPat
unassignable _ = faults.NotSimpleAssign

-- the head of an arrow function is no expression
unfoldable pub unheaded : Bool → Tree → Reader Tree
unheaded is_async x = λ s. if heads_arrow is_async x s then wanted faults.Unexpected s else Ok (x, s)

-- ---- what may still become a pattern: sections 13.2.4, 13.2.5 and 13.15.5

-- An expression, or an array or object that may still become a pattern. A part `name = value` stands in it as it was read, and
-- `mark` says where the first is, since no expression has one; `comma` says whether one stands behind a spread, where no
-- pattern has one.
pub record Cover : Type 0 where
  pub x : Tree
  pub mark : Option Span
  pub comma : Bool

-- the parts of such an array or object
pub record Covers : Type 0 where
  pub xs : List Tree
  pub mark : Option Span
  pub comma : Bool

abbrev pub first_mark : Option Span → Option Span → Option Span
first_mark (Some m) later = Some m
first_mark None later = later

abbrev pub no_covers : Covers
no_covers = record { xs = []; mark = None; comma = false }

abbrev pub with_cover : Covers → Cover → Covers
with_cover found v = record { xs = found.xs ++ v.x ∷ []; mark = first_mark found.mark v.mark; comma = found.comma || v.comma }

abbrev pub with_comma : Bool → Covers → Covers
with_comma is_spread found = record { xs = found.xs; mark = found.mark; comma = found.comma || is_spread }

-- what may become a pattern as a whole
abbrev pub is_literal : Tree → Bool
is_literal (tree.array s elems) = true
is_literal (tree.object s props) = true
is_literal _ = false

-- an expression, which stays one
abbrev pub done : Tree → Cover
done x = record { x = x; mark = None; comma = false }

-- as a part of a form
abbrev pub part_as : (Tree → Tree) → Cover → Cover
part_as form v = record { x = form v.x; mark = v.mark; comma = v.comma }

abbrev pub whole_of : (Tree → Tree) → Covers → Cover
whole_of form found = record { x = form (listed found.xs); mark = found.mark; comma = found.comma }

-- as an expression
abbrev pub unmarked : Tree → Option Span → Reader Tree
unmarked x (Some m) = reject (fault_at m faults.AssignProperty)
unmarked x None = pure x

unfoldable pub close : Cover → Reader Tree
close v = unmarked v.x v.mark

-- as what `=` assigns to
abbrev pub target_or : Tree → Option Tree → Reader Tree
target_or x (Some p) = pure p
target_or x None = reject (fault_at (span_of x) faults.InvalidPat)

unfoldable pub target : Cover → Reader Tree
target v = target_or v.x (if v.comma then None else as_target v.x)

-- what goes on with an array or object but `=`
unfoldable pub goes_on : State → Bool
goes_on s = continues_left_side s.at || (is_some (operator_at 1 s) || (sees kind.QuestionMark s.at || continues_conditional s.at))

-- ---- what is read one level further in: expressions, and assignment expressions that may still become patterns

module _ (inner : Class → Reader Tree) (cover : Reader Cover) where
  -- in brackets, braces and parentheses `in` is an operator
  unfoldable pub inside : Class → Reader Tree
  inside class = within with_in (inner class)

  -- ---- accesses and arguments

  unfoldable pub brackets : Reader Tree
  brackets = do
    start ← span_here
    skip
    e ← inside expression
    expect kind.RBracket
    span ← since start
    pure (tree.computed span e)

  -- from `.` or `[` on
  unfoldable pub access : Reader Tree
  access = λ s. if sees kind.Dot s.at then (skip >> dotted) s else brackets s

  -- an argument or an element, with the dots of a spread
  unfoldable pub spread_element : Reader Tree
  spread_element = λ s. (do
    skip
    e ← inside assignment
    pure (tree.element (Some (span_at s.at)) e)) s

  unfoldable pub plain_element : Reader Tree
  plain_element = do
    e ← inside assignment
    pure (tree.element None e)

  unfoldable pub element : Reader Tree
  element = λ s. if sees kind.DotDotDot s.at then spread_element s else plain_element s

  -- a comma before the end is recorded where none may stand there
  abbrev pub behind_comma : Bool → List Tree → Reader (Step (List Tree) (List Tree))
  behind_comma commas found = λ s. if not commas && sees kind.RParen s.at then (do
    fault (fault_at s.at.last faults.TrailingCommaInsideImport)
    pure (More found)) s else Ok (More found, s)

  -- behind an argument a comma stands, or the end
  abbrev pub behind_argument : Bool → List Tree → Reader (Step (List Tree) (List Tree))
  behind_argument commas found = λ s. if sees kind.RParen s.at then Ok (More found, s) else (do
    expect kind.Comma
    behind_comma commas found) s

  unfoldable pub arguments_turn : Bool → List Tree → Reader (Step (List Tree) (List Tree))
  arguments_turn commas found = λ s. if sees kind.RParen s.at then Ok (Done found, moved s) else (do
    x ← element
    behind_argument commas (found ++ x ∷ [])) s

  -- from `(` on; a comma may stand behind the last one, or is recorded there
  unfoldable pub arguments : Bool → Reader (List Tree)
  arguments commas = skip >> loop (arguments_turn commas) []

  -- ---- primary expressions: section 13.2

  unfoldable pub covered : Reader Cover
  covered = within with_in cover

  unfoldable pub spread_item : Reader Cover
  spread_item = λ s. (do
    skip
    v ← covered
    pure (part_as (tree.element (Some (span_at s.at))) v)) s

  unfoldable pub plain_item : Reader Cover
  plain_item = do
    v ← covered
    pure (part_as (tree.element None) v)

  -- an element of an array, with the dots of a spread
  unfoldable pub item : Reader Cover
  item = λ s. if sees kind.DotDotDot s.at then spread_item s else plain_item s

  -- behind an element a comma stands, or the end
  abbrev pub behind_item : Bool → Covers → Reader (Step Covers Covers)
  behind_item is_spread found = λ s. if sees kind.RBracket s.at then Ok (More found, s) else (do
    expect kind.Comma
    pure (More (with_comma is_spread found))) s

  -- an element, or the comma behind a hole
  unfoldable pub array_turn : Covers → Reader (Step Covers Covers)
  array_turn found = λ s.
      if sees kind.RBracket s.at then Ok (Done found, moved s)
      else if sees kind.Comma s.at then Ok (More (with_cover found (done tree.absent)), moved s)
      else (do
        v ← item
        behind_item (sees kind.DotDotDot s.at) (with_cover found v)) s

  -- from `[` on
  unfoldable pub elements : Reader Covers
  elements = skip >> loop array_turn no_covers

  unfoldable pub array : Reader Cover
  array = do
    start ← span_here
    found ← elements
    span ← since start
    pure (whole_of (tree.array span) found)

  -- ---- objects: section 13.2.5

  unfoldable pub computed_key : Reader Tree
  computed_key = do
    start ← span_here
    skip
    e ← inside assignment
    expect kind.RBracket
    span ← since start
    pure (tree.computed span e)

  unfoldable pub key : Reader Tree
  key = λ s.
      if is_word_at s.at then word_property s
      else if sees kind.LBracket s.at then computed_key s
      else literal_key s

  unfoldable pub key_value : Span → Tree → Reader Cover
  key_value start x = do
    skip
    v ← covered
    span ← since start
    pure (part_as (tree.key_value_prop span x) v)

  -- a part that only a pattern has
  unfoldable pub initialized : Span → Tree → Reader Cover
  initialized start x = do
    skip
    value ← inside assignment
    span ← since start
    pure (record { x = tree.assign_prop span x value; mark = Some span; comma = false })

  unfoldable pub initialized_name : Span → Span → Text → Reader Cover
  initialized_name start span text = do
    as_name may_refer_to_await span text
    initialized start (tree.ident span text)

  abbrev pub initialized_key : Span → Tree → Reader Cover
  initialized_key start (tree.ident span text) = initialized_name start span text
  initialized_key start _ = wanted faults.Unexpected

  unfoldable pub bare_key : Tree → Reader Cover
  bare_key x = do
    y ← shorthand x
    pure (done y)

  unfoldable pub behind_key : Span → Tree → Reader Cover
  behind_key start x = λ s.
      if sees kind.Colon s.at then key_value start x s
      else if sees kind.Assign s.at then initialized_key start x s
      else bare_key x s

  unfoldable pub spread_property : Reader Cover
  spread_property = λ s. (do
    skip
    v ← covered
    pure (part_as (tree.spread_prop (span_at s.at)) v)) s

  -- behind a property a comma stands, or the end
  abbrev pub behind_property : Bool → Covers → Reader (Step Covers Covers)
  behind_property is_spread found = λ s. if sees kind.RBrace s.at then Ok (More found, s) else (do
    expect kind.Comma
    pure (More (with_comma is_spread found))) s

  -- what may be a method, which the reader of functions reads
  module _ (function : FunctionForm → Reader Tree) where
    -- a method is no part of a pattern
    unfoldable pub method : MethodForm → Span → Tree → Reader Cover
    method form start x = do
      y ← function (property_form form start x)
      pure (done y)

    -- a plain method has nothing before its key
    unfoldable pub behind_words : MethodForm → Span → Tree → Reader Cover
    behind_words form start x = λ s. if is_bare form && not (sees kind.LParen s.at) then behind_key start x s else method form start x s

    unfoldable pub keyed_property : Reader Cover
    keyed_property = do
      start ← span_here
      form ← method_words
      x ← key
      behind_words form start x

    unfoldable pub property : Reader Cover
    property = λ s. if sees kind.DotDotDot s.at then spread_property s else keyed_property s

    unfoldable pub object_turn : Covers → Reader (Step Covers Covers)
    object_turn found = λ s. if sees kind.RBrace s.at then Ok (Done found, moved s) else (do
      v ← property
      behind_property (sees kind.DotDotDot s.at) (with_cover found v)) s

    -- from `{` on
    unfoldable pub properties : Reader Covers
    properties = skip >> loop object_turn no_covers

    unfoldable pub object : Reader Cover
    object = do
      start ← span_here
      found ← properties
      span ← since start
      pure (whole_of (tree.object span) found)

  -- `()` is no expression: what stands behind it is refused
  unfoldable pub empty_paren : Reader Tree
  empty_paren = skip >> wanted faults.Unexpected

  -- from behind `(` on
  unfoldable pub filled_paren : Span → Reader Tree
  filled_paren start = do
    e ← inside expression
    expect kind.RParen
    span ← since start
    pure (tree.paren span e)

  unfoldable pub paren : Reader Tree
  paren = do
    start ← span_here
    skip
    λ s. if sees kind.RParen s.at then empty_paren s else filled_paren start s

  -- ---- templates: section 13.2.8

  abbrev pub behind_text : Pieces → Tree → Tree → Step Pieces Pieces
  behind_text found e q = if is_tail q then Done (with_piece found e q) else More (with_piece found e q)

  -- an expression, and the text behind it
  unfoldable pub template_turn : (tagged : Bool) → Pieces → Reader (Step Pieces Pieces)
  template_turn tagged found = do
    e ← inside expression
    λ s. if sees kind.TemplateMiddle s.at || sees kind.TemplateTail s.at then (do
      q ← template_text tagged
      pure (behind_text found e q)) s else refuse faults.Expected s

  abbrev pub template_from : (tagged : Bool) → Tree → Reader Pieces
  template_from tagged q = if is_tail q then pure (first_piece q) else loop (template_turn tagged) (first_piece q)

  unfoldable pub template_pieces : (tagged : Bool) → Reader Pieces
  template_pieces tagged = template_text tagged >>= template_from tagged

  unfoldable pub template : Reader Tree
  template = do
    start ← span_here
    found ← template_pieces false
    span ← since start
    pure (template_of span found)

  -- ---- left-hand-side expressions: section 13.3

  unfoldable pub accessed : Span → Tree → Reader Tree
  accessed start x = do
    property ← access
    span ← since start
    pure (tree.member span x property)

  unfoldable pub called : Span → Tree → Reader Tree
  called start x = do
    xs ← arguments true
    span ← since start
    pure (tree.call span x (listed xs))

  -- a template behind its tag, which is no optional chain: section 13.3.11
  unfoldable pub tagged_by : Span → Tree → Reader Tree
  tagged_by start x = do
    place ← span_here
    found ← template_pieces true
    whole ← since place
    span ← since start
    pure (tree.tagged_tpl span x (template_of whole found))

  unfoldable pub tagged : Span → Tree → Reader Tree
  tagged start x = λ s. if is_chain x then wanted faults.Unexpected s else tagged_by start x s

  -- what stands behind `?.`: arguments, brackets or a name
  unfoldable pub named_link : Span → Tree → Reader Tree
  named_link start x = do
    property ← dotted
    span ← since start
    pure (tree.member span x property)

  unfoldable pub behind_question : Span → Tree → Reader Tree
  behind_question start x = λ s.
      if sees kind.LParen s.at then called start x s
      else if sees kind.LBracket s.at then accessed start x s
      else named_link start x s

  unfoldable pub chained : Span → Tree → Reader Tree
  chained start x = do
    skip
    y ← behind_question start x
    pure (chain_of true y)

  -- what goes on with an expression within the loop
  unfoldable pub left_turn : Bool → Span → Tree → Reader (Step Tree Tree)
  left_turn calls start x = λ s.
      if sees kind.Dot s.at || sees kind.LBracket s.at then (accessed start x >>= (λ y. more (linked x y))) s
      else if calls && sees kind.LParen s.at then (called start x >>= (λ y. more (linked x y))) s
      else if begins_template s.at then (tagged start x >>= more) s
      else if calls && sees kind.QuestionDot s.at then (chained start x >>= more) s
      else Ok (Done x, s)

  -- what goes on with an expression that was read from a place on
  unfoldable pub left_from : Bool → Span → Tree → Reader Tree
  left_from calls start x = loop (left_turn calls start) x

  -- `super`, before an access or, where calls are read, arguments
  unfoldable pub super_call : Span → Reader Tree
  super_call start = do
    xs ← arguments true
    span ← since start
    pure (tree.call span (tree.super_callee start) (listed xs))

  -- a private name is no property of it
  unfoldable pub super_property : Reader Tree
  super_property = λ s. if sees kind.Dot s.at then (skip >> word_property) s else brackets s

  unfoldable pub super_access : Span → Reader Tree
  super_access start = do
    property ← super_property
    span ← since start
    pure (tree.super_prop span start property)

  unfoldable pub behind_super : Bool → Span → Reader Tree
  behind_super calls start = λ s.
      if calls && sees kind.LParen s.at then super_call start s
      else if sees kind.Dot s.at || sees kind.LBracket s.at then super_access start s
      else reject (fault_at start faults.InvalidSuper) s

  unfoldable pub super_head : Bool → Reader Tree
  super_head calls = do
    start ← span_here
    skip
    behind_super calls start

  -- what `new` calls, and its arguments, if there are any
  unfoldable pub constructed : Span → Tree → Reader Tree
  constructed start x = do
    xs ← arguments true
    span ← since start
    pure (tree.new span x (listed xs))

  -- nothing goes on with what is called, an optional chain either
  unfoldable pub behind_called : Span → Tree → Reader Tree
  behind_called start x = λ s.
      if sees kind.LParen s.at then constructed start x s
      else if sees kind.QuestionDot s.at then wanted faults.Unexpected s
      else bare_new start x s

  unfoldable pub new_called : Span → Reader Tree
  new_called start = do
    x ← inner callee
    behind_called start x

  unfoldable pub new_head : Reader Tree
  new_head = do
    start ← span_here
    skip
    λ s. if sees kind.NewDot s.at then (skip >> new_target start) s else new_called start s

  -- `import` and its arguments
  unfoldable pub import_call : Span → Reader Tree
  import_call start = λ s. (do
    xs ← arguments s.code.setting.import_attributes
    span ← since start
    pure (tree.call span (tree.import_callee start) (listed xs))) s

  unfoldable pub import_head : Reader Tree
  import_head = do
    start ← span_here
    skip
    λ s.
        if sees kind.LParen s.at then import_call start s
        else if sees kind.Dot s.at then (skip >> import_meta start) s
        else wanted faults.Unexpected s

  -- ---- unary operators: sections 13.4 and 13.5

  unfoldable pub prefixed : UnaryOp → Reader Tree
  prefixed op = do
    start ← span_here
    skip
    e ← inner unary
    span ← since start
    pure (tree.unary span op e)

  unfoldable pub update_before : UpdateOp → Reader Tree
  update_before op = do
    start ← span_here
    skip
    e ← inner unary
    simple e
    span ← since start
    pure (tree.update span op true e)

  -- ---- `await`: section 15.8

  -- where it may not stand the fault is recorded before it is read
  unfoldable pub await_expr : Reader Tree
  await_expr = do
    start ← span_here
    await_allowed start
    skip
    e ← inner unary
    span ← since start
    pure (tree.await span e)

  -- ---- binary operators: sections 13.6 to 13.13

  unfoldable pub operated : Span → Tree → BinaryOp → Reader Tree
  operated start x op = do
    left_operand op x
    skip
    y ← inner (right_class op)
    unmixed start op x y

  abbrev pub binary_by : Span → Tree → Option BinaryOp → Reader (Step Tree Tree)
  binary_by start x None = pure (Done x)
  binary_by start x (Some op) = operated start x op >>= more

  unfoldable pub binary_turn : ℕ → Span → Tree → Reader (Step Tree Tree)
  binary_turn n start x = λ s. binary_by start x (operator_at n s) s

  -- the operators that bind at least so tightly, behind an operand that was read from a place on
  unfoldable pub binary_from : ℕ → Span → Tree → Reader Tree
  binary_from n start x = loop (binary_turn n start) x

  -- a private name, which is the left operand of `in`: section 13.10
  unfoldable pub private_in : Reader Tree
  private_in = do
    start ← span_here
    x ← private_name
    in_word
    y ← inner (right_class binary.In)
    span ← since start
    pure (tree.bin span binary.In x y)

  -- ---- AssignmentExpression: sections 13.14 and 13.15

  unfoldable pub conditional : Span → Tree → Reader Tree
  conditional start test = do
    skip
    yes_case ← inside assignment
    expect kind.Colon
    no_case ← inner assignment
    span ← since start
    unassigned (tree.cond span test yes_case no_case)

  unfoldable pub assigned_to : Span → Tree → AssignOp → Reader Tree
  assigned_to start x op = do
    skip
    y ← inner assignment
    span ← since start
    pure (tree.assign span op x y)

  unfoldable pub assigned : Span → Tree → AssignOp → Reader Tree
  assigned start x op = λ s. if is_simple_target x then assigned_to start x op s else reject (fault_at (span_of x) (unassignable op)) s

  abbrev pub assigned_or : Bool → Span → Tree → Option AssignOp → Reader Tree
  assigned_or is_async start x (Some op) = assigned start x op
  assigned_or is_async start x None = unheaded is_async x

  unfoldable pub behind_operators : Bool → Span → Tree → Reader Tree
  behind_operators is_async start x = λ s. if sees kind.QuestionMark s.at then conditional start x s else assigned_or is_async start x (assign_operator (kind_at s.at)) s

  -- what goes on with an array or object that was read from a place on
  unfoldable pub postfixed : Span → Tree → Reader Tree
  postfixed start x = λ s. behind_operand start x (postfix_at s.at) s

  unfoldable pub continued : Span → Tree → Reader Tree
  continued start x = do
    y ← left_from true start x
    z ← postfixed start y
    w ← binary_from 1 start z
    behind_operators false start w

  unfoldable pub closed : Span → Cover → Reader Cover
  closed start v = do
    x ← close v
    y ← continued start x
    pure (done y)

  unfoldable pub assigned_pattern : Span → Cover → Reader Cover
  assigned_pattern start v = do
    p ← target v
    y ← assigned_to start p assign.Assign
    pure (done y)

  -- it is left open where nothing goes on with it
  unfoldable pub behind_literal : Span → Cover → Reader Cover
  behind_literal start v = λ s.
      if sees kind.Assign s.at then assigned_pattern start v s
      else if goes_on s then closed start v s
      else Ok (v, s)
