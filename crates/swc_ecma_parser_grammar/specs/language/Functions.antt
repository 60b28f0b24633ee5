-- Functions and methods: ECMA-262, section 15.
use Rattle.std.specs.Prelude.{◌≡◌, Bool, true, false, not, List, [], ◌∷◌, codes}
use Rattle.swc_ecma_parser_token.specs.declared.kind.TokenKind.TheVariants as kind
use Rattle.swc_ecma_parser_input.specs.Place.{Place, after}
use Rattle.swc_ecma_parser_model.specs.declared.leaves.MethodKind.{MethodKind}
use Rattle.swc_ecma_parser_model.specs.declared.leaves.MethodKind.TheVariants as method
use Rattle.swc_ecma_parser_model.specs.Tree as tree
use Rattle.swc_ecma_parser_model.specs.Tree.{Tree}
use Rattle.swc_ecma_parser_model.specs.Forms.{is_rest}
use Rattle.swc_ecma_parser_grammar.specs.Looks.{kind_at, spanned}
use Rattle.swc_ecma_parser_grammar.specs.Names.{Code}
use Rattle.swc_ecma_parser_grammar.specs.Follows.{word_at, AsyncWord, Star}
use Rattle.swc_ecma_parser_grammar.specs.Parameters.{parameters}
use Rattle.swc_ecma_parser_grammar.specs.language.Goals.{Goal, binding}
use Rattle.swc_ecma_parser_grammar.specs.language.Contexts.{named_by, in_parameters, in_body, with_in}
use Rattle.swc_ecma_parser_grammar.specs.language.Lists.{ReadsListed}
use Rattle.swc_ecma_parser_grammar.specs.language.Parts.{OptionalName}
use Rattle.swc_ecma_parser_grammar.specs.language.PatternItems.{PatternItemRule}
use Rattle.swc_ecma_parser_grammar.specs.language.Items.{BlockRule}

-- ---- parameters: FormalParameters of section 15.1

-- A comma may stand behind the last that is no rest.
pub record ParametersRule (In : Goal → Type 0) (k : Code) (patterns : List Tree) (c d : Place) : Type 0 where
  pub close : Place
  pub opens : kind_at c ≡ kind.LParen
  pub reads_patterns : ReadsListed true (PatternItemRule In binding (with_in k)) patterns (after c) close
  pub closes : kind_at close ≡ kind.RParen
  pub next : d ≡ after close

-- ---- parameters and body, from `(` to `}`

pub record FunctionParts (In : Goal → Type 0) (k : Code) (is_async is_generator : Bool) (patterns : List Tree) (body : Tree) (c d : Place) : Type 0 where
  pub middle : Place
  pub reads_parameters : ParametersRule In (in_parameters k is_async is_generator) patterns c middle
  pub reads_body : BlockRule In (in_body k is_async is_generator) true body middle d

-- ---- functions: sections 15.2, 15.5, 15.6 and 15.8

-- An expression's name is read in the function's own code, a declaration's in the code around.
abbrev pub name_code : (is_expression : Bool) → Code → (is_async is_generator : Bool) → Code
name_code true k is_async is_generator = named_by k is_async is_generator
name_code false k is_async is_generator = k

-- A function from `async` or `function` on, with a name or without one. Its decorators are given: they stand before it, and its
-- span leaves them out.
pub record FunctionRule (In : Goal → Type 0) (is_expression : Bool) (k : Code) (decorators name x : Tree) (c d : Place) : Type 0 where
  pub is_async : Bool
  pub is_generator : Bool
  pub patterns : List Tree
  pub body : Tree
  pub word : Place
  pub behind_word : Place
  pub behind_name : Place
  pub reads_async : AsyncWord is_async c word
  pub is_function : kind_at word ≡ kind.Function
  pub reads_star : Star is_generator (after word) behind_word
  pub reads_name : OptionalName (name_code is_expression k is_async is_generator) name behind_word behind_name
  pub reads_parts : FunctionParts In k is_async is_generator patterns body behind_name d
  pub is : x ≡ tree.function (spanned c d) decorators (parameters patterns) body is_async is_generator

-- ---- methods: MethodDefinition of section 15.4, in objects and in classes

-- what stands before the key
pub data MethodHead (form : MethodKind) (is_async is_generator : Bool) (c d : Place) : Type 0 where
  method_head : (m : Place) → form ≡ method.Method → AsyncWord is_async c m → Star is_generator m d → MethodHead form is_async is_generator c d
  getter_head : form ≡ method.Getter → is_async ≡ false → is_generator ≡ false → word_at (codes "get") c ≡ true → d ≡ after c → MethodHead form is_async is_generator c d
  setter_head : form ≡ method.Setter → is_async ≡ false → is_generator ≡ false → word_at (codes "set") c ≡ true → d ≡ after c → MethodHead form is_async is_generator c d

-- a getter has no parameter, a setter one, which is no rest
abbrev pub takes : MethodKind → List Tree → Bool
takes method.Method ps = true
takes method.Getter [] = true
takes method.Getter (p ∷ ps) = false
takes method.Setter [] = false
takes method.Setter (p ∷ []) = not (is_rest p)
takes method.Setter (p ∷ q ∷ qs) = false

pub record MethodRule (In : Goal → Type 0) (Key : Tree → Place → Place → Type 0) (k : Code) (form : MethodKind) (is_async is_generator : Bool)
    (key : Tree) (patterns : List Tree) (body : Tree) (c d : Place) : Type 0 where
  pub behind_head : Place
  pub behind_key : Place
  pub reads_head : MethodHead form is_async is_generator c behind_head
  pub reads_key : Key key behind_head behind_key
  pub reads_parts : FunctionParts In k is_async is_generator patterns body behind_key d
  pub arity : takes form patterns ≡ true
