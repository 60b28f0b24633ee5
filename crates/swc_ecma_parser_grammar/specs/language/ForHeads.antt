-- The heads of `for` statements: ECMA-262, sections 14.7.4 and 14.7.5.
use Rattle.std.specs.Prelude.{◌≡◌, Bool, true, false, ◌&&◌, List, [], ◌∷◌, codes}
use Rattle.swc_ecma_parser_token.specs.declared.kind.TokenKind.TheVariants as kind
use Rattle.swc_ecma_parser_input.specs.Place.{Place, after}
use Rattle.swc_ecma_parser_model.specs.declared.leaves.VarDeclKind.{VarDeclKind}
use Rattle.swc_ecma_parser_model.specs.Tree as tree
use Rattle.swc_ecma_parser_model.specs.Tree.{Tree, listed}
use Rattle.swc_ecma_parser_model.specs.Forms.{is_binding_name}
use Rattle.swc_ecma_parser_grammar.specs.Looks.{kind_at, breaks_at, sees, spanned}
use Rattle.swc_ecma_parser_grammar.specs.Names.{Code}
use Rattle.swc_ecma_parser_grammar.specs.Follows.{word_at, may_begin_head, is_async_of}
use Rattle.swc_ecma_parser_grammar.specs.language.Goals.{Goal, expr_goal, expression, pattern_goal, binding, assigning, using_goal}
use Rattle.swc_ecma_parser_grammar.specs.language.Contexts.{may_await, without_in, with_in, head_code}
use Rattle.swc_ecma_parser_grammar.specs.language.Declarations.{VariablesRule}

-- the variables that a head declares, without an end
pub record HeadVariablesRule (In : Goal → Type 0) (k : Code) (x : Tree) (c d : Place) : Type 0 where
  pub word : VarDeclKind
  pub declarators : List Tree
  pub reads : VariablesRule In (head_code word k) true word declarators c d
  pub is : x ≡ tree.var (spanned c d) word (listed declarators)

-- ---- `for (init; test; update)`

-- the first part
pub data InitRule (In : Goal → Type 0) (k : Code) (x : Tree) (c d : Place) : Type 0 where
  no_init_rule : sees kind.Semi c ≡ true → d ≡ c → x ≡ tree.absent → InitRule In k x c d
  init_variables_rule : HeadVariablesRule In k x c d → InitRule In k x c d
  init_expression_rule : may_begin_head c ≡ true → In (expr_goal expression (without_in k) x c d) → InitRule In k x c d

-- the second and the third, which stand before a `;` and a `)`
pub data PartRule (In : Goal → Type 0) (k : Code) (x : Tree) (c d : Place) : Type 0 where
  no_part_rule : d ≡ c → x ≡ tree.absent → PartRule In k x c d
  part_rule : In (expr_goal expression (with_in k) x c d) → PartRule In k x c d

-- ---- `for (left in right)` and `for (left of right)`

-- what takes each value: variables that are declared, or a target of assignments
pub data LeftRule (In : Goal → Type 0) (k : Code) (x : Tree) (c d : Place) : Type 0 where
  declared_rule : HeadVariablesRule In k x c d → LeftRule In k x c d
  target_rule : may_begin_head c ≡ true → In (pattern_goal assigning (without_in k) x c d) → LeftRule In k x c d

-- `using` and a plain name, which is not `of`
pub record UsingNameRule (In : Goal → Type 0) (k : Code) (x : Tree) (c d : Place) : Type 0 where
  pub name : Tree
  pub begins : word_at (codes "using") c ≡ true
  pub no_of : word_at (codes "of") (after c) ≡ false
  pub reads_name : In (pattern_goal binding k name (after c) d)
  pub is_name : is_binding_name name ≡ true
  pub is : x ≡ tree.declarator (spanned (after c) d) name tree.absent

-- `using`, or `await using` on one line where an `await` expression may stand. Behind `await` the name is one level further in.
pub data UsingHeadRule (In : Goal → Type 0) (k : Code) (x : Tree) (c d : Place) : Type 0 where
  using_head_rule : (y : Tree) → UsingNameRule In k y c d → x ≡ tree.using (spanned c d) false (listed (y ∷ [])) → UsingHeadRule In k x c d
  await_using_head_rule : (y : Tree) → kind_at c ≡ kind.Await → may_await k ≡ true → breaks_at (after c) ≡ false → In (using_goal k y (after c) d)
      → x ≡ tree.using (spanned c d) true (listed (y ∷ [])) → UsingHeadRule In k x c d

-- the left side before `of`: behind `for await` it may be the word `async`
pub data OfLeftRule (In : Goal → Type 0) (k : Code) (is_await : Bool) (x : Tree) (c d : Place) : Type 0 where
  of_left_rule : LeftRule In k x c d → is_async_of (is_await && word_at (codes "async") c) x d ≡ false → OfLeftRule In k is_await x c d
  of_using_rule : k.setting.explicit_resource_management ≡ true → UsingHeadRule In k x c d → OfLeftRule In k is_await x c d
