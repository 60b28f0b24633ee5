-- Classes and decorators: ECMA-262, section 15.7, and the proposals of decorators and of auto-accessors.
use Rattle.std.specs.Prelude.{◌≡◌, Bool, true, false, not, ◌&&◌, ◌||◌, if◌then◌else◌, List, [], ◌∷◌, codes}
use Rattle.swc_ecma_parser_common.specs.declared.span.Span.{Span}
use Rattle.swc_ecma_parser_token.specs.declared.kind.TokenKind.TheVariants as kind
use Rattle.swc_ecma_parser_input.specs.Place.{Place, after}
use Rattle.swc_ecma_parser_model.specs.declared.leaves.MethodKind.{MethodKind}
use Rattle.swc_ecma_parser_model.specs.Tree as tree
use Rattle.swc_ecma_parser_model.specs.Tree.{Tree, Text, listed}
use Rattle.swc_ecma_parser_model.specs.Forms.{is_ident_named, is_constructor_key}
use Rattle.swc_ecma_parser_grammar.specs.Looks.{kind_at, breaks_at, sees, spanned}
use Rattle.swc_ecma_parser_grammar.specs.Names.{Code}
use Rattle.swc_ecma_parser_grammar.specs.Ends.{Ends, can_end}
use Rattle.swc_ecma_parser_grammar.specs.Follows.{word_at}
use Rattle.swc_ecma_parser_grammar.specs.language.Goals.{Goal, expr_goal, assignment, left_side, member_goal, decorator_goal}
use Rattle.swc_ecma_parser_grammar.specs.language.Contexts.{in_class, in_static_block, in_body, with_in}
use Rattle.swc_ecma_parser_grammar.specs.language.Lists.{ReadsEach}
use Rattle.swc_ecma_parser_grammar.specs.language.Parts.{OptionalName, PrivateRule, KeyRule, is_private}
use Rattle.swc_ecma_parser_grammar.specs.language.Items.{BlockRule}
use Rattle.swc_ecma_parser_grammar.specs.Parameters.{parameters}
use Rattle.swc_ecma_parser_grammar.specs.language.Functions.{ParametersRule, MethodRule}

-- ---- decorators

pub data DecoratorRule (In : Goal → Type 0) (k : Code) (x : Tree) (c d : Place) : Type 0 where
  decorator_rule : (e : Tree) → kind_at c ≡ kind.At → In (decorator_goal k e (after c) d) → x ≡ tree.decorator (spanned c d) e → DecoratorRule In k x c d

-- none, or with the setting at least one
pub data DecoratorsRule (In : Goal → Type 0) (k : Code) (x : Tree) (c d : Place) : Type 0 where
  no_decorators : d ≡ c → x ≡ listed [] → DecoratorsRule In k x c d
  some_decorators : (y : Tree) (ys : List Tree) → k.setting.decorators ≡ true → ReadsEach (DecoratorRule In k) (y ∷ ys) c d → x ≡ listed (y ∷ ys) → DecoratorsRule In k x c d

-- ---- what stands before the key of a member

-- Each of these words is a key too. Which it is, the token behind it says, and whether that stands on a new line:
--
--   word           next token        on a new line   the word is
--   static         ( = ; }           or not          the key
--                  any other         or not          a modifier, before { that of a static block
--   accessor       ( = ; }           or not          the key
--                  any other         yes             the key of a field that ends there
--                  any other         no              a modifier with the setting, and else the key
--   get, set       ( = ; }           or not          the key
--                  *                 yes             the key of a field that ends there
--                  any other         or not          the beginning of an accessor
--   async          ( = ; }           or not          the key
--                  any other         yes             the key of a field that ends there
--                  any other         no              a modifier of a method
--
-- `static` stands first, behind it `accessor` or one of `get`, `set` and `async`, and any further word is a key. The first two are told
-- by the rules below, the others by those of methods (`MethodHead`) and of fields (`FieldValueRule`, `Ends`), of which one alone fits.

-- `static` and `accessor` are keys before these
unfoldable pub ends_key : Place → Bool
ends_key c = sees kind.LParen c || (sees kind.Assign c || (sees kind.RBrace c || sees kind.Semi c))

unfoldable pub is_static_word : Place → Bool
is_static_word c = word_at (codes "static") c && not (ends_key (after c))

-- `accessor` is a key also where a field of that name can end
unfoldable pub is_accessor_word : Code → Place → Bool
is_accessor_word k c = k.setting.auto_accessors && (word_at (codes "accessor") c && (not (ends_key (after c)) && not (can_end (after c))))

-- behind a word, where it is a modifier
abbrev pub behind_modifier : Bool → Place → Place
behind_modifier true c = after c
behind_modifier false c = c

-- ---- keys of members: ClassElementName

-- a private one is not named `constructor`
pub data MemberKeyRule (In : Goal → Type 0) (k : Code) (x : Tree) (c d : Place) : Type 0 where
  member_key : KeyRule In k x c d → MemberKeyRule In k x c d
  private_key : (s word : Span) (text : Text) → PrivateRule x c d → x ≡ tree.private_name s word text → is_ident_named (codes "constructor") (tree.ident word text) ≡ false
      → MemberKeyRule In k x c d

-- a private key makes a private member
abbrev pub method_member : Span → (key fn : Tree) → MethodKind → (is_static : Bool) → Tree
method_member s key fn form is_static = if is_private key then tree.private_method s key fn form is_static else tree.method s key fn form is_static

abbrev pub field_member : Span → (key value : Tree) → (is_static is_accessor : Bool) → (decorators : Tree) → Tree
field_member s key value is_static true decorators = tree.auto_accessor s key value is_static decorators
field_member s key value is_static false decorators =
    if is_private key then tree.private_prop s key value is_static decorators else tree.class_prop s key value is_static decorators

-- ---- fields: FieldDefinition

-- behind a key that is the word `get` or `set`, with no escape, an accessor goes on, also on the next line, but not with `*` there
unfoldable pub is_accessor_key : (start c : Place) → Bool
is_accessor_key start c = (word_at (codes "get") start || word_at (codes "set") start) && (not (ends_key c) && not (sees kind.Mul c && breaks_at c))

-- `= ..`, or nothing where neither a method nor an accessor goes on, behind a key that begins at `start`
pub data FieldValueRule (In : Goal → Type 0) (k : Code) (start : Place) (x : Tree) (c d : Place) : Type 0 where
  no_value : sees kind.Assign c ≡ false → sees kind.LParen c ≡ false → is_accessor_key start c ≡ false → d ≡ c → x ≡ tree.absent → FieldValueRule In k start x c d
  a_value : kind_at c ≡ kind.Assign → In (expr_goal assignment (with_in k) x (after c) d) → FieldValueRule In k start x c d

-- ---- members: ClassElement

-- a member from its key on; it began at `c`, and these words and decorators stand before the place `m`
pub data CoreRule (In : Goal → Type 0) (k : Code) (is_static is_accessor : Bool) (decorators x : Tree) (c m d : Place) : Type 0 where
  -- only the word and the string `constructor` are the constructor's key; it is not static
  constructor_rule : (key : Tree) (patterns : List Tree) (body : Tree) (i j : Place) → is_static ≡ false → is_accessor ≡ false → decorators ≡ listed []
      → KeyRule In k key m i → is_constructor_key key ≡ true → ParametersRule In k patterns i j → BlockRule In (in_body k false false) true body j d
      → x ≡ tree.constructor (spanned c d) key (parameters patterns) body → CoreRule In k is_static is_accessor decorators x c m d
  method_rule : (form : MethodKind) (is_async is_generator : Bool) (key : Tree) (patterns : List Tree) (body : Tree) → is_accessor ≡ false
      → MethodRule In (MemberKeyRule In k) k form is_async is_generator key patterns body m d → is_constructor_key key ≡ false
      → x ≡ method_member (spanned c d) key (tree.function (spanned c d) decorators (parameters patterns) body is_async is_generator) form is_static
      → CoreRule In k is_static is_accessor decorators x c m d
  field_rule : (key value : Tree) (i j : Place) → MemberKeyRule In k key m i → is_constructor_key key ≡ false → FieldValueRule In k m value i j → Ends j d
      → x ≡ field_member (spanned c d) key value is_static is_accessor decorators → CoreRule In k is_static is_accessor decorators x c m d
  -- ClassStaticBlock: its `{` stands on any line
  static_block_rule : (body : Tree) → is_static ≡ true → is_accessor ≡ false → decorators ≡ listed [] → BlockRule In (in_static_block k) false body m d
      → x ≡ tree.static_block (spanned c d) body → CoreRule In k is_static is_accessor decorators x c m d

-- the modifiers that stand at a place, and what is behind them
abbrev pub behind_static : Place → Place
behind_static c = behind_modifier (is_static_word c) c

abbrev pub has_accessor : Code → Place → Bool
has_accessor k c = is_accessor_word k (behind_static c)

abbrev pub behind_accessor : Code → Place → Place
behind_accessor k c = behind_modifier (has_accessor k c) (behind_static c)

pub data MemberRule (In : Goal → Type 0) (k : Code) (x : Tree) (c d : Place) : Type 0 where
  empty_rule : kind_at c ≡ kind.Semi → d ≡ after c → x ≡ tree.empty_member (spanned c d) → MemberRule In k x c d
  member_rule : (decorators : Tree) (m : Place) → DecoratorsRule In k decorators c m
      → CoreRule In k (is_static_word m) (has_accessor k m) decorators x c (behind_accessor k m) d → MemberRule In k x c d

-- ---- classes: ClassTail

-- what the class extends, or nothing
pub data HeritageRule (In : Goal → Type 0) (k : Code) (x : Tree) (c d : Place) : Type 0 where
  no_heritage : d ≡ c → x ≡ tree.absent → HeritageRule In k x c d
  heritage_rule : kind_at c ≡ kind.Extends → In (expr_goal left_side k x (after c) d) → HeritageRule In k x c d

-- A class from the word `class` on, with a name or without one. Class code is strict from the name on. Its decorators are given:
-- they stand before it, and its span begins with them where it is a statement, at `start`.
pub record ClassRule (In : Goal → Type 0) (k : Code) (start : Place) (decorators name x : Tree) (c d : Place) : Type 0 where
  pub heritage : Tree
  pub members : List Tree
  pub behind_name : Place
  pub opening : Place
  pub close : Place
  pub is_class : kind_at c ≡ kind.Class
  pub reads_name : OptionalName (in_class k) name (after c) behind_name
  pub reads_heritage : HeritageRule In (in_class k) heritage behind_name opening
  pub opens : kind_at opening ≡ kind.LBrace
  pub reads_members : ReadsEach (λ y i j. In (member_goal (with_in (in_class k)) y i j)) members (after opening) close
  pub closes : kind_at close ≡ kind.RBrace
  pub next : d ≡ after close
  pub is : x ≡ tree.class (spanned start d) decorators (listed members) heritage
