-- The reader of classes: ECMA-262, section 15.7. What stands in a class is read one level further in, and what stands in a member one
-- more. Before members decorators are read, and auto-accessors are those of their proposal.
use Rattle.std.specs.Prelude.{Bool, true, false, not, ◌&&◌, ◌||◌, if◌then◌else◌, List, [], ◌∷◌, ◌++◌, codes, Ok}
use Rattle.swc_ecma_parser_common.specs.declared.span.Span.{Span}
use Rattle.swc_ecma_parser_error.specs.Kind as faults
use Rattle.swc_ecma_parser_error.specs.Kind.{Fault}
use Rattle.swc_ecma_parser_token.specs.declared.kind.TokenKind.TheVariants as kind
use Rattle.swc_ecma_parser_input.specs.Place.{Place, after}
use Rattle.swc_ecma_parser_model.specs.declared.leaves.MethodKind.{MethodKind}
use Rattle.swc_ecma_parser_model.specs.declared.leaves.MethodKind.TheVariants as kinds
use Rattle.swc_ecma_parser_model.specs.Tree as tree
use Rattle.swc_ecma_parser_model.specs.Tree.{Tree, Text, listed}
use Rattle.swc_ecma_parser_model.specs.Forms.{is_ident_named, is_constructor, is_constructor_key, is_rest, span_of}
use Rattle.swc_ecma_parser_grammar.specs.declared.position.Position.{Position}
use Rattle.swc_ecma_parser_grammar.specs.Looks.{breaks_at, sees, span_at}
use Rattle.swc_ecma_parser_grammar.specs.Names.{name_at}
use Rattle.swc_ecma_parser_grammar.specs.Ends.{can_end, ends_at}
use Rattle.swc_ecma_parser_grammar.specs.Follows.{word_at}
use Rattle.swc_ecma_parser_grammar.specs.Own.{only, second_constructor}
use Rattle.swc_ecma_parser_grammar.specs.Parameters as formal
use Rattle.swc_ecma_parser_grammar.specs.language.Goals.{Class, assignment}
use Rattle.swc_ecma_parser_grammar.specs.language.Contexts.{in_class, in_static_block, in_parameters, with_in}
use Rattle.swc_ecma_parser_grammar.specs.language.Classes.{ends_key, is_static_word, is_accessor_word, method_member, field_member}
use Rattle.swc_ecma_parser_reader.specs.Decorators.{Leading, leading, misplaced}
use Rattle.swc_ecma_parser_reader.specs.Jumps.{told}
use Rattle.swc_ecma_parser_reader.specs.Methods.{MethodForm, getter_form, setter_form, method_form, starred, is_bare}
use Rattle.swc_ecma_parser_reader.specs.Operands.{Cover, private_name, inside, key}
use Rattle.swc_ecma_parser_reader.specs.Bodies.{closes, close, braced, named, misdirected, function_body}
use Rattle.swc_ecma_parser_reader.specs.State.{Reader, ◌>>=◌, ◌>>◌, and_then, pure, span_here, since, skip, moved, within, found_as, fault, fault_at, wanted, reject, expect, Step, More, Done, loop}

-- ---- what stands before the key of a member

-- `static`, where it is no key
unfoldable pub static_word : Reader Bool
static_word = λ s. if is_static_word s.at then Ok (true, moved s) else Ok (false, s)

-- `get` or `set`, behind which an accessor goes on, also on the next line, but not with `*` there
unfoldable pub begins_accessor : Text → Place → Bool
begins_accessor text c = word_at text c && (not (ends_key (after c)) && not (sees kind.Mul (after c) && breaks_at (after c)))

-- `async`, which is no key, and stands on the line of what follows it
unfoldable pub begins_async_member : Place → Bool
begins_async_member c = word_at (codes "async") c && (not (ends_key (after c)) && not (can_end (after c)))

unfoldable pub member_words : Reader MethodForm
member_words = λ s.
    if begins_accessor (codes "get") s.at then Ok (getter_form, moved s)
    else if begins_accessor (codes "set") s.at then Ok (setter_form, moved s)
    else if begins_async_member s.at then starred true (moved s)
    else starred false s

-- whether one of these words or `*` stands before a key
unfoldable pub begins_words : Place → Bool
begins_words c = begins_accessor (codes "get") c || (begins_accessor (codes "set") c || (begins_async_member c || sees kind.Mul c))

-- whether a static block goes on behind `accessor`, with a `static` of its own or without it
unfoldable pub begins_block : (is_static : Bool) → Place → Bool
begins_block is_static c = (is_static && sees kind.LBrace c) || (word_at (codes "static") c && sees kind.LBrace (after c))

-- as the tree of a member has it
abbrev pub kind_of_form : MethodForm → MethodKind
kind_of_form getter_form = kinds.Getter
kind_of_form setter_form = kinds.Setter
kind_of_form (method_form is_async is_generator) = kinds.Method

abbrev pub form_is_async : MethodForm → Bool
form_is_async (method_form is_async is_generator) = is_async
form_is_async _ = false

abbrev pub form_is_generator : MethodForm → Bool
form_is_generator (method_form is_async is_generator) = is_generator
form_is_generator _ = false

-- ---- faults of members that are recorded

-- a private name `constructor`
abbrev pub private_faults : Tree → List Fault
private_faults (tree.private_name s word text) = only (is_ident_named (codes "constructor") (tree.ident word text)) faults.PrivateConstructor s
private_faults _ = []

-- a rest that a setter takes
abbrev pub rest_faults : List Tree → List Fault
rest_faults [] = []
rest_faults (p ∷ ps) = only (is_rest p) faults.RestPatInSetter (span_of p)

-- parameters of an accessor, said at its word
abbrev pub parameter_faults : MethodForm → Span → List Tree → List Fault
parameter_faults getter_form word [] = []
parameter_faults getter_form word (p ∷ ps) = only true faults.GetterParam word
parameter_faults setter_form word [] = only true faults.SetterParam word
parameter_faults setter_form word (p ∷ []) = rest_faults (p ∷ [])
parameter_faults setter_form word (p ∷ q ∷ qs) = only true faults.SetterParam word ++ rest_faults (p ∷ q ∷ qs)
parameter_faults (method_form is_async is_generator) word ps = []

-- The key `constructor` behind words or `*`: an accessor's is a fault of its word, a generator's is one from the start of the member
-- to the key's end, and an async method is refused at it.
abbrev pub misnamed_by : MethodForm → (start word : Span) → Tree → Reader (Unit {0})
misnamed_by getter_form start word x = fault (fault_at word faults.ConstructorAccessor)
misnamed_by setter_form start word x = fault (fault_at word faults.ConstructorAccessor)
misnamed_by (method_form true is_generator) start word x = reject (fault_at (span_of x) faults.AsyncConstructor)
misnamed_by (method_form false is_generator) start word x = do
  span ← since start
  fault (fault_at span faults.GeneratorConstructor)

unfoldable pub misnamed : MethodForm → (start word : Span) → Tree → Reader (Unit {0})
misnamed form start word x = λ s. if is_constructor_key x then misnamed_by form start word x s else Ok (tt, s)

-- the end of a field, which is recorded where it is missing
unfoldable pub field_end : Reader (Unit {0})
field_end = λ s. if sees kind.Semi s.at then Ok (tt, moved s) else (if can_end s.at then Ok (tt, s) else fault (fault_at (span_at s.at) faults.TS1005) s)

-- what a field that is named `constructor` is refused for
unfoldable pub field_named : Tree → Reader (Unit {0})
field_named x = λ s. if is_constructor_key x then reject (fault_at (span_of x) faults.PropertyNamedConstructor) s else Ok (tt, s)

-- ---- keys and fields: what is read one level further in are expressions

module _ (inner : Class → Reader Tree) (cover : Reader Cover) where
  unfoldable pub private_key : Reader Tree
  private_key = do
    x ← private_name
    told (private_faults x)
    pure x

  unfoldable pub member_key : Reader Tree
  member_key = λ s. if sees kind.Hash s.at then private_key s else key inner cover s

  unfoldable pub field_value : Reader Tree
  field_value = λ s. if sees kind.Assign s.at then inside inner cover assignment (moved s) else Ok (tree.absent, s)

  unfoldable pub field_from : List Tree → (is_static is_accessor : Bool) → Span → Tree → Reader Tree
  field_from decorators is_static is_accessor start x = do
    field_named x
    value ← field_value
    field_end
    span ← since start
    pure (field_member span x value is_static is_accessor (listed decorators))

  unfoldable pub field : List Tree → (is_static is_accessor : Bool) → Span → Tree → Reader Tree
  field decorators is_static is_accessor start x = λ s. if sees kind.Assign s.at || ends_at s.at then field_from decorators is_static is_accessor start x s else wanted faults.Unexpected s

-- ---- methods and constructors: what is read one level further in are statements and parameters

module _ (stmt : Reader Tree) (params : Reader (List Tree)) where
  -- from behind the key; a member begins at a span, and its words at another
  unfoldable pub method_parts : List Tree → MethodForm → (start word : Span) → Reader Tree
  method_parts decorators form start word = do
    ps ← within (λ k. in_parameters k (form_is_async form) (form_is_generator form)) params
    told (parameter_faults form word ps)
    body ← function_body stmt params (form_is_async form) (form_is_generator form)
    span ← since start
    misdirected (formal.parameters ps) body
    pure (tree.function span (listed decorators) (formal.parameters ps) body (form_is_async form) (form_is_generator form))

  unfoldable pub method : List Tree → (is_static : Bool) → MethodForm → (start word : Span) → Tree → Reader Tree
  method decorators is_static form start word x = do
    misnamed form start word x
    fn ← method_parts decorators form start word
    pure (method_member (span_of fn) x fn (kind_of_form form) is_static)

  -- a static one is a fault of its word, which stands first behind any decorators
  unfoldable pub constructor : (is_static : Bool) → (start first : Span) → Tree → Reader Tree
  constructor is_static start first x = do
    ps ← params
    body ← function_body stmt params false false
    span ← since start
    misdirected (formal.parameters ps) body
    told (only is_static faults.TS1089 first)
    pure (tree.constructor span x (formal.parameters ps) body)

  -- before `(`, where no word and no `*` stand before the key
  unfoldable pub plain_method : List Tree → (is_static : Bool) → (start first word : Span) → Tree → Reader Tree
  plain_method decorators is_static start first word x = λ s.
      if is_constructor_key x then constructor is_static start first x s else method decorators is_static (method_form false false) start word x s

  unfoldable pub static_block : Span → Reader Tree
  static_block start = do
    body ← within in_static_block (braced stmt false)
    span ← since start
    pure (tree.static_block span body)

  -- a second `static` is a fault of the first
  unfoldable pub second_static : (start first : Span) → Reader Tree
  second_static start first = do
    fault (fault_at first faults.TS1184)
    skip
    static_block start

-- a constructor has no decorators
unfoldable pub before_constructor : Leading → Tree → Reader (Unit {0})
before_constructor v x = λ s. if is_constructor_key x then misplaced v s else Ok (tt, s)

-- ---- decorators were read before it is known whose they are: those before a constructor or a static block are dropped

module _ (inner : Class → Reader Tree) (cover : Reader Cover) (stmt : Reader Tree) (params : Reader (List Tree)) where
  unfoldable pub behind_key : Leading → (is_static : Bool) → MethodForm → (start first word : Span) → Tree → Reader Tree
  behind_key v is_static form start first word x = λ s.
      if not (is_bare form) then method stmt params v.found is_static form start word x s
      else if sees kind.LParen s.at then (before_constructor v x >> plain_method stmt params v.found is_static start first word x) s
      else field inner cover v.found is_static false start x s

  unfoldable pub keyed_member : Leading → (is_static : Bool) → (start first : Span) → Reader Tree
  keyed_member v is_static start first = do
    word ← span_here
    form ← member_words
    x ← member_key inner cover
    behind_key v is_static form start first word x

  -- ---- behind `accessor`, where it is no key; the word stands at a span

  -- `static` and a block; it is a fault of the `static` before `accessor`, if one stands there
  unfoldable pub static_behind : (is_static : Bool) → (start first : Span) → Reader Tree
  static_behind is_static start first = λ s. if is_static then second_static stmt params start first s else static_block stmt params start (moved s)

  -- a static block, with a `static` of its own or without it
  unfoldable pub block_behind : (is_static : Bool) → (start first : Span) → Reader Tree
  block_behind is_static start first = λ s. if is_static && sees kind.LBrace s.at then static_block stmt params start s else static_behind is_static start first s

  -- a method or a constructor that its `(` tells is a fault of `accessor` too
  unfoldable pub behind_accessed_key : Leading → (is_static : Bool) → (start first accessor word : Span) → Tree → Reader Tree
  behind_accessed_key v is_static start first accessor word x = λ s.
      if sees kind.LParen s.at then (before_constructor v x >> (fault (fault_at accessor faults.TS1184) >> plain_method stmt params v.found is_static start first word x)) s
      else field inner cover v.found is_static true start x s

  unfoldable pub accessed_key : Leading → (is_static : Bool) → (start first accessor : Span) → Reader Tree
  accessed_key v is_static start first accessor = do
    word ← span_here
    x ← member_key inner cover
    behind_accessed_key v is_static start first accessor word x

  -- what is no field is a fault of `accessor`, and read as if the word were not there
  unfoldable pub accessed : Leading → (is_static : Bool) → (start first accessor : Span) → Reader Tree
  accessed v is_static start first accessor = λ s.
      if begins_block is_static s.at then (misplaced v >> (fault (fault_at accessor faults.TS1184) >> block_behind is_static start first)) s
      else if begins_words s.at then (fault (fault_at accessor faults.TS1184) >> keyed_member v is_static start first) s
      else accessed_key v is_static start first accessor s

  unfoldable pub accessor_member : Leading → (is_static : Bool) → (start first : Span) → Reader Tree
  accessor_member v is_static start first = do
    accessor ← span_here
    skip
    accessed v is_static start first accessor

  -- from behind `static`, if it stands there
  unfoldable pub behind_static : Leading → (is_static : Bool) → (start first : Span) → Reader Tree
  behind_static v is_static start first = λ s.
      if is_accessor_word s.code s.at then accessor_member v is_static start first s
      else if is_static && sees kind.LBrace s.at then (misplaced v >> static_block stmt params start) s
      else if is_static && (word_at (codes "static") s.at && sees kind.LBrace (after s.at)) then (misplaced v >> second_static stmt params start first) s
      else keyed_member v is_static start first s

  -- what stands behind the `@` of a decorator is read by a reader of its own
  module _ (further : Reader Tree) where
    unfoldable pub full_member : Reader Tree
    full_member = do
      start ← span_here
      v ← leading further
      first ← span_here
      is_static ← static_word
      behind_static v is_static start first

  unfoldable pub empty_member : Reader Tree
  empty_member = do
    start ← span_here
    skip
    span ← since start
    pure (tree.empty_member span)

  unfoldable pub member_level : Reader Tree → Reader Tree
  member_level further = λ s. if sees kind.Semi s.at then empty_member s else full_member further s

-- ---- classes

-- the members so far, and whether a constructor is one of them
pub record Members : Type 0 where
  pub found : List Tree
  pub constructed : Bool

abbrev pub no_members : Members
no_members = record { found = []; constructed = false }

abbrev pub with_member : Members → Tree → Members
with_member l x = record { found = l.found ++ x ∷ []; constructed = l.constructed || is_constructor x }

-- what is read is dropped, and so is what makes a program a module in it
abbrev pub dropped : Reader Tree → Reader (Unit {0})
dropped p = λ s. and_then (p s) (λ _ t. Ok (tt, found_as s.notes t))

module _ (heritage member : Reader Tree) where
  -- each constructor behind the first is a fault
  unfoldable pub members_turn : Members → Reader (Step Members (List Tree))
  members_turn l = λ s. if closes s.at then Ok (Done l.found, s) else (do
    x ← member
    told (second_constructor l.constructed x)
    pure (More (with_member l x))) s

  unfoldable pub members : Reader (List Tree)
  members = loop members_turn no_members

  -- what the class extends, or nothing
  unfoldable pub extended : Reader Tree
  extended = λ s. if sees kind.Extends s.at then heritage (moved s) else Ok (tree.absent, s)

  -- a second heritage is a fault of its word
  unfoldable pub surplus : Reader (Unit {0})
  surplus = λ s. if sees kind.Extends s.at then (fault (fault_at (span_at s.at) faults.TS1172) >> dropped heritage) (moved s) else Ok (tt, s)

  -- from behind the name
  unfoldable pub class_parts : Span → Reader Tree
  class_parts start = do
    x ← extended
    surplus
    expect kind.LBrace
    found ← within with_in members
    close
    span ← since start
    pure (tree.class span (listed []) (listed found) x)

  unfoldable pub named_class : Reader Tree
  named_class = do
    start ← span_here
    skip
    i ← named
    x ← class_parts start
    pure (tree.class_decl i x)

  unfoldable pub class_decl : Reader Tree
  class_decl = within in_class named_class

  -- the name of a class that is an expression, or none
  unfoldable pub class_name : Reader Tree
  class_name = λ s. if name_at s.code.flags s.at then named s else Ok (tree.absent, s)

  unfoldable pub unnamed_class : Reader Tree
  unnamed_class = do
    start ← span_here
    skip
    i ← class_name
    x ← class_parts start
    pure (tree.class_expr (span_of x) i x)

  unfoldable pub class_expr : Reader Tree
  class_expr = within in_class unnamed_class

  -- where no declaration is read, its word is a fault
  unfoldable pub class_stmt : Position → Reader Tree
  class_stmt at = λ s. if at.include_decl then class_decl s else (fault (fault_at (span_at s.at) faults.DeclNotAllowed) >> class_decl) s
