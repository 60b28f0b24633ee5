-- Variables and what is declared with `using`: ECMA-262, section 14.3, and the proposal on explicit resource management.
use Rattle.std.specs.Prelude.{◌≡◌, Bool, true, false, not, ◌&&◌, ◌||◌, List, codes}
use Rattle.swc_ecma_parser_token.specs.declared.kind.TokenKind.TheVariants as kind
use Rattle.swc_ecma_parser_input.specs.Place.{Place, after}
use Rattle.swc_ecma_parser_model.specs.declared.leaves.VarDeclKind.{VarDeclKind}
use Rattle.swc_ecma_parser_model.specs.Tree as tree
use Rattle.swc_ecma_parser_model.specs.Tree.{Tree, listed}
use Rattle.swc_ecma_parser_model.specs.Forms.{is_binding_name}
use Rattle.swc_ecma_parser_grammar.specs.declared.position.Position.{Position}
use Rattle.swc_ecma_parser_grammar.specs.Looks.{kind_at, breaks_at, sees, spanned}
use Rattle.swc_ecma_parser_grammar.specs.Names.{Code, identifier_at}
use Rattle.swc_ecma_parser_grammar.specs.Ends.{Ends}
use Rattle.swc_ecma_parser_grammar.specs.Follows.{word_at, AwaitWord}
use Rattle.swc_ecma_parser_grammar.specs.Variables.{begins_variables, needs_no_initializer}
use Rattle.swc_ecma_parser_grammar.specs.language.Lists.{ReadsSeparated}
use Rattle.swc_ecma_parser_grammar.specs.language.Contexts.{with_in}
use Rattle.swc_ecma_parser_grammar.specs.language.Goals.{Goal, expr_goal, assignment, pattern_goal, binding}

-- ---- variables: sections 14.3.1 and 14.3.2

-- VariableDeclaration and LexicalBinding. In a pattern `in` is an operator in any case.
pub data DeclaratorRule (In : Goal → Type 0) (k : Code) (loop : Bool) (word : VarDeclKind) (x : Tree) (c d : Place) : Type 0 where
  plain_rule : (name : Tree) → In (pattern_goal binding (with_in k) name c d) → sees kind.Assign d ≡ false → needs_no_initializer k loop word name d ≡ true
      → x ≡ tree.declarator (spanned c d) name tree.absent → DeclaratorRule In k loop word x c d
  initialized_rule : (name init : Tree) (m : Place) → In (pattern_goal binding (with_in k) name c m) → kind_at m ≡ kind.Assign
      → In (expr_goal assignment k init (after m) d) → x ≡ tree.declarator (spanned c d) name init → DeclaratorRule In k loop word x c d

-- the word and its declarators, without an end
abbrev pub VariablesRule : (Goal → Type 0) → Code → (loop : Bool) → VarDeclKind → List Tree → Place → Place → Type 0
VariablesRule In k loop word xs c d = (begins_variables word c ≡ true) × ReadsSeparated (DeclaratorRule In k loop word) xs (after c) d

-- ---- `using` and `await using`

-- `using` begins a declaration before a name on its line
unfoldable pub is_using_declaration : Code → Place → Bool
is_using_declaration k c = word_at (codes "using") c && (identifier_at k.flags (after c) && not (breaks_at (after c)))

-- a plain name with its initializer
pub record UsingDeclaratorRule (In : Goal → Type 0) (k : Code) (x : Tree) (c d : Place) : Type 0 where
  pub name : Tree
  pub init : Tree
  pub equals : Place
  pub reads_name : In (pattern_goal binding k name c equals)
  pub is_name : is_binding_name name ≡ true
  pub assigns : kind_at equals ≡ kind.Assign
  pub reads_init : In (expr_goal assignment (with_in k) init (after equals) d)
  pub is : x ≡ tree.declarator (spanned c d) name init

-- Where declarations are read; behind `await`, which stands on its line, at the top level of any entry too.
pub record UsingRule (In : Goal → Type 0) (k : Code) (at : Position) (x : Tree) (c d : Place) : Type 0 where
  pub is_await : Bool
  pub word : Place
  pub declarators : List Tree
  pub is_read : k.setting.explicit_resource_management ≡ true
  pub has_place : at.include_decl || (is_await && at.top_level) ≡ true
  pub reads_await : AwaitWord is_await c word
  pub on_line : is_await && breaks_at word ≡ false
  pub begins : is_using_declaration k word ≡ true
  pub behind : Place
  pub reads : ReadsSeparated (UsingDeclaratorRule In k) declarators (after word) behind
  pub ends : Ends behind d
  pub is : x ≡ tree.using (spanned c d) is_await (listed declarators)
