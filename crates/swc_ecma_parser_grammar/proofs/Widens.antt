-- What the rules of the first forms read, the whole language reads, and it is supported.
use Rattle.swc_ecma_parser_grammar.specs.Parameters.{parameters}
use Rattle.std.proofs.Common.{◌≡◌, ℕ, zero, suc, Bool, true, false, rules, List, [], ◌∷◌, Option, refl, ◌∙◌, ap, subst}
use Rattle.std.specs.List.{list_any}
use Rattle.std.specs.Prelude.{◌&&◌, ◌||◌}
use denote.Enum.Bare.{true_same, same_true}
use Rattle.swc_ecma_parser_common.specs.declared.span.Span.{Span}
use Rattle.swc_ecma_parser_token.specs.contracts.kind.TokenKind.{the_type}
use Rattle.swc_ecma_parser_token.specs.declared.kind.TokenKind.{TokenKind}
use Rattle.swc_ecma_parser_token.specs.declared.kind.TokenKind.TheVariants as kind
use Rattle.swc_ecma_parser_input.specs.Place.{Place, after}
use Rattle.swc_ecma_parser_model.specs.declared.leaves.VarDeclKind.{VarDeclKind}
use Rattle.swc_ecma_parser_model.specs.declared.leaves.VarDeclKind.TheVariants as decl
use Rattle.swc_ecma_parser_model.specs.Tree as tree
use Rattle.swc_ecma_parser_model.specs.Tree.{Tree, Text, trees, listed}
use Rattle.swc_ecma_parser_model.specs.Forms.{is_absent}
use Rattle.swc_ecma_parser_model.specs.Directive.{is_use_strict}
use Rattle.swc_ecma_parser_grammar.specs.declared.position.Position.{Position}
use Rattle.swc_ecma_parser_grammar.specs.Looks.{kind_at, breaks_at, sees, same_kind, span_at, spanned}
use Rattle.swc_ecma_parser_grammar.specs.Names.{Code}
use Rattle.swc_ecma_parser_grammar.specs.Ends.{Ends}
use Rattle.swc_ecma_parser_grammar.specs.Follows.{AwaitWord}
use Rattle.swc_ecma_parser_grammar.specs.scaffold.Using.{misused, each_misused, using_faults}
use Rattle.swc_ecma_parser_grammar.specs.scaffold.Reads.{SmallDeclaratorRule, plain_rule, initialized_rule, ReadsItems, SmallStmtRule, block_rule, empty_rule, debugger_rule, variables_rule, using_rule, if_statement_rule, SmallTargetRule, no_target_rule, target_rule, SmallReturnedRule, no_operand_rule, operand_rule, break_rule, continue_rule, return_rule, labeled_rule, HeadVariables, SmallInitRule, no_init_rule, init_variables_rule, init_expression_rule, SmallLeftRule, declared_rule, left_target_rule, for_in_rule, for_of_rule, SmallPartRule, no_part_rule, part_rule, for_rule, SmallCaseRule, case_clause_rule, default_clause_rule, ReadsCases, switch_rule, throw_rule, try_rule, with_rule, while_rule, do_while_rule, expr_rule, import_rule, ReadsBlock, SmallCatchRule, no_catch_rule, catch_rule, catch_parameter_rule, SmallFinallyRule, no_finally_rule, finally_rule, ReadsHead, SmallIfRule, if_rule, SmallElseRule, no_else_rule, else_rule, else_if_rule, ReadsBraced, ReadsFunction, class_rule, function_rule, SmallOfLeftRule, of_left_rule, of_using_rule, of_await_rule}
use Rattle.swc_ecma_parser_grammar.specs.scaffold.Entries.{ReadsScript, ReadsShebang, some_shebang, no_shebang, small_items_await, small_script_awaits}
use Rattle.swc_ecma_parser_grammar.specs.scaffold.Decorated.{decorated_by, DeclaredRule, declared_class, declared_function, SmallDecoratedRule, EitherRule, plain_statement, decorated_statement}
use Rattle.swc_ecma_parser_grammar.specs.scaffold.Supported.{supported_in, all_supported_in}
use Rattle.swc_ecma_parser_grammar.specs.scaffold.ReadsSupported.{ReadsClass, ReadsPat, ReadsTarget, ReadsStmt, ReadsTop, ReadsParams, ReadsNamedClass, ReadsDecorators, ReadsDeclared}
use Rattle.swc_ecma_parser_grammar.specs.language.Declarations.{is_using_declaration}
use Rattle.swc_ecma_parser_grammar.specs.language.Goals.{expression, assignment, expr_goal, stmt_goal}
use Rattle.swc_ecma_parser_grammar.specs.language.Contexts.{in_loop, in_breakable, in_with, without_in, with_in, head_code, script_code}
use Rattle.swc_ecma_parser_grammar.specs.language.ForHeads as heads
use Rattle.swc_ecma_parser_grammar.specs.language.Classes as classes
use Rattle.swc_ecma_parser_grammar.specs.language.Functions as functions
use Rattle.swc_ecma_parser_grammar.specs.language.Parts as parts
use Rattle.swc_ecma_parser_grammar.specs.language.Declarations as declarations
use Rattle.swc_ecma_parser_grammar.specs.language.Items.{sub_statement, labelled_item, ItemsRule, BlockRule, directed, directs_on, nested_item, top_item}
use Rattle.swc_ecma_parser_grammar.specs.language.Lists.{ReadsEach, ReadsSeparated}
use Rattle.swc_ecma_parser_grammar.specs.language.Statements as statements
use Rattle.swc_ecma_parser_grammar.specs.language.Statements.{is_default, at_most_one_default, may_begin_at_top}
use Rattle.swc_ecma_parser_grammar.specs.language.Reads.{Reads}
use Rattle.swc_ecma_parser_grammar.specs.language.Programs as programs
use Rattle.swc_ecma_parser_grammar.specs.language.Programs.{ReadsEntry}
use Rattle.swc_ecma_parser_token.specs.Text.{word_text}
use Rattle.swc_ecma_parser_grammar.proofs.Tests.{and_both}
use Rattle.swc_ecma_parser_grammar.proofs.Decorated.{decorated_supported}
use Rattle.swc_ecma_parser_grammar.proofs.Naming.{name_is_clean}
use Rattle.swc_ecma_parser_grammar.proofs.SupportedIn.{strict_module, head_module, parted}
use Rattle.swc_ecma_parser_grammar.proofs.UsingParts.{declared, set_so, unbound, declares_in_head}
use Rattle.swc_ecma_parser_grammar.proofs.AwaitHeads.{awaited_words, awaited_may, await_using_widens}
use Rattle.swc_ecma_parser_grammar.proofs.language.Shapes.{expr_stands}

-- ---- declarators

declarator_supported : (n : ℕ) (k : Code) (loop : Bool) (word : VarDeclKind) (x : Tree) (c d : Place) → SmallDeclaratorRule (ReadsClass n assignment) (ReadsPat n) k loop word x c d → supported_in k.flags.module x ≡ true
declarator_supported n k loop word x c d (plain_rule p r h b e) = ap (supported_in k.flags.module) e ∙ and_both _ _ r.1 refl
declarator_supported n k loop word x c d (initialized_rule p y m r h s e) = ap (supported_in k.flags.module) e ∙ and_both _ _ r.1 s.1

declarator_widens : (n : ℕ) (k : Code) (loop : Bool) (word : VarDeclKind) (x : Tree) (c d : Place) → SmallDeclaratorRule (ReadsClass n assignment) (ReadsPat n) k loop word x c d
    → declarations.DeclaratorRule (Reads n) k loop word x c d
declarator_widens n k loop word x c d (plain_rule p r h b e) = declarations.plain_rule p r.0 h b e
declarator_widens n k loop word x c d (initialized_rule p y m r h s e) = declarations.initialized_rule p y m r.0 h s.0 e

module _ (Rule Other : Tree → Place → Place → Type 0) (widen : (x : Tree) (c d : Place) → Rule x c d → Other x c d) where
  -- with commas between, each by itself
  separated_widen : (xs : List Tree) (c d : Place) → ReadsSeparated Rule xs c d → ReadsSeparated Other xs c d
  separated_widen [] c d h = h
  separated_widen (x ∷ []) c d (r, e) = (widen x c d r, e)
  separated_widen (x ∷ y ∷ ys) c d (m, r, e, rs) = (m, widen x c m r, e, separated_widen (y ∷ ys) (after m) d rs)

module _ (m : Bool) (Rule : Tree → Place → Place → Type 0) (small : (x : Tree) (c d : Place) → Rule x c d → supported_in m x ≡ true) where
  separated_supported : (xs : List Tree) (c d : Place) → ReadsSeparated Rule xs c d → all_supported_in m (trees xs) ≡ true
  separated_supported [] c d h = absurd h
  separated_supported (x ∷ []) c d (r, e) = and_both _ _ (small x c d r) refl
  separated_supported (x ∷ y ∷ ys) c d (i, r, e, rs) = and_both _ _ (small x c i r) (separated_supported (y ∷ ys) (after i) d rs)

-- ---- statements

-- what stands in another statement begins with any word
nested : (k : Code) (at : Position) (c : Place) → at.top_level ≡ false → may_begin_at_top k at c ≡ true
unfolding may_begin_at_top
nested k at c h = rw h refl

seen : (c : Place) (j : TokenKind) → kind_at c ≡ j → sees j c ≡ true
unfolding same_kind
seen c j e = true_same the_type (kind_at c) j e

pub saw : (c : Place) (j : TokenKind) → sees j c ≡ true → kind_at c ≡ j
unfolding same_kind
saw c j e = same_true the_type (search rules) (kind_at c) j e

target_supported : {k : Code} {x : Tree} {c d : Place} → SmallTargetRule k x c d → supported_in k.flags.module x ≡ true
target_supported {k = k} (no_target_rule h g e) = ap (supported_in k.flags.module) e
target_supported {k = k} (target_rule w s h r f e) = ap (supported_in k.flags.module) e ∙ refl

operand_supported : (n : ℕ) {k : Code} {x : Tree} {c d : Place} → SmallReturnedRule (ReadsClass n) k x c d → supported_in k.flags.module x ≡ true
operand_supported n {k = k} (no_operand_rule h g e) = ap (supported_in k.flags.module) e
operand_supported n (operand_rule h r) = r.1

target_widens : {k : Code} {x : Tree} {c d : Place} → SmallTargetRule k x c d → statements.TargetRule k x c d
target_widens (no_target_rule h g e) = statements.no_target_rule h g e
target_widens {k = k} (target_rule w s h r f e) =
    statements.target_rule (word_text w) s h (record { word = w; reads_word = r; is_text = refl; is_name = name_is_clean k.flags (word_text w) f }) e

operand_widens : (n : ℕ) {k : Code} {x : Tree} {c d : Place} → SmallReturnedRule (ReadsClass n) k x c d → statements.ReturnedRule (Reads n) k x c d
operand_widens n (no_operand_rule h g e) = statements.no_operand_rule h g e
operand_widens n (operand_rule h r) = statements.operand_rule h r.0

declarators_supported : (n : ℕ) (k : Code) (loop : Bool) (word : VarDeclKind) (xs : List Tree) (c d : Place)
    → ReadsSeparated (SmallDeclaratorRule (ReadsClass n assignment) (ReadsPat n) k loop word) xs c d → all_supported_in k.flags.module (trees xs) ≡ true
declarators_supported n k loop word = separated_supported k.flags.module (SmallDeclaratorRule (ReadsClass n assignment) (ReadsPat n) k loop word) (declarator_supported n k loop word)

declarators_widen : (n : ℕ) (k : Code) (loop : Bool) (word : VarDeclKind) (xs : List Tree) (c d : Place)
    → ReadsSeparated (SmallDeclaratorRule (ReadsClass n assignment) (ReadsPat n) k loop word) xs c d → ReadsSeparated (declarations.DeclaratorRule (Reads n) k loop word) xs c d
declarators_widen n k loop word =
    separated_widen (SmallDeclaratorRule (ReadsClass n assignment) (ReadsPat n) k loop word) (declarations.DeclaratorRule (Reads n) k loop word) (declarator_widens n k loop word)

-- ---- what is declared with `using`

module _ (n : ℕ) (k : Code) where
  using_declarator_widens : (s : Span) (x : Tree) (c d : Place) → SmallDeclaratorRule (ReadsClass n assignment) (ReadsPat n) (with_in k) false decl.Var x c d → misused s x ≡ []
      → declarations.UsingDeclaratorRule (Reads n) k x c d
  using_declarator_widens s x c d (plain_rule p r h b e) f = let g = declared s x p tree.absent e f in cc
  using_declarator_widens s x c d (initialized_rule p y m r h q e) f = let g = declared s x p y e f in record {
    name = p;
    init = y;
    equals = m;
    reads_name = unbound n k p c m g.0 r.0;
    is_name = g.0;
    assigns = h;
    reads_init = q.0;
    is = e;
  }

  using_declarators_widen : (s : Span) (xs : List Tree) (c d : Place) → ReadsSeparated (SmallDeclaratorRule (ReadsClass n assignment) (ReadsPat n) (with_in k) false decl.Var) xs c d → each_misused s xs ≡ []
      → ReadsSeparated (declarations.UsingDeclaratorRule (Reads n) k) xs c d
  using_declarators_widen s [] c d r f = r
  using_declarators_widen s (x ∷ []) c d (r, e) f = (using_declarator_widens s x c d r (parted (misused s x) [] f).0, e)
  using_declarators_widen s (x ∷ y ∷ ys) c d (m, r, e, rs) f =
      let g = parted (misused s x) _ f in (m, using_declarator_widens s x c m r g.0, e, using_declarators_widen s (y ∷ ys) (after m) d rs g.1)

  using_widens : (at : Position) (x : Tree) (c d : Place) (is_await : Bool) (xs : List Tree) (m i : Place) → at.include_decl || (is_await && at.top_level) ≡ true → AwaitWord is_await c m
      → is_await && breaks_at m ≡ false → is_using_declaration k m ≡ true → ReadsSeparated (SmallDeclaratorRule (ReadsClass n assignment) (ReadsPat n) (with_in k) false decl.Var) xs (after m) i
      → using_faults k.setting.explicit_resource_management (spanned c i) xs ≡ [] → Ends i d → x ≡ tree.using (spanned c d) is_await (listed xs) → declarations.UsingRule (Reads n) k at x c d
  using_widens at x c d v xs m i a w l b r f u e = let g = set_so k.setting.explicit_resource_management (spanned c i) xs f in record {
    is_await = v;
    word = m;
    declarators = xs;
    is_read = g.0;
    has_place = a;
    reads_await = w;
    on_line = l;
    begins = b;
    behind = i;
    reads = using_declarators_widen (spanned c i) xs (after m) i r g.1;
    ends = u;
    is = e;
  }

  declared_supported : (s : Span) (xs : List Tree) (c d : Place) → ReadsSeparated (SmallDeclaratorRule (ReadsClass n assignment) (ReadsPat n) (with_in k) false decl.Var) xs c d
      → all_supported_in k.flags.module (trees xs) ≡ true
  declared_supported s xs c d r = declarators_supported n (with_in k) false decl.Var xs c d r

-- ---- heads

head_variables_supported : (n : ℕ) {k : Code} {x : Tree} {c d : Place} → HeadVariables (ReadsClass n) (ReadsPat n) k x c d → supported_in k.flags.module x ≡ true
head_variables_supported n {k = k} {c = c} {d = d} r = ap (supported_in k.flags.module) r.is
    ∙ subst (λ m. all_supported_in m (trees r.declarators) ≡ true) (head_module r.word k) (declarators_supported n (head_code r.word k) true r.word r.declarators (after c) d r.reads)

head_variables_widen : (n : ℕ) {k : Code} {x : Tree} {c d : Place} → HeadVariables (ReadsClass n) (ReadsPat n) k x c d → heads.HeadVariablesRule (Reads n) k x c d
head_variables_widen n {k = k} {c = c} {d = d} r = record {
  word = r.word;
  declarators = r.declarators;
  reads = (r.begins, declarators_widen n (head_code r.word k) true r.word r.declarators (after c) d r.reads);
  is = r.is;
}

init_supported : (n : ℕ) {k : Code} {x : Tree} {c d : Place} → SmallInitRule (ReadsClass n) (ReadsPat n) k x c d → supported_in k.flags.module x ≡ true
init_supported n {k = k} (no_init_rule h g e) = ap (supported_in k.flags.module) e
init_supported n (init_variables_rule r) = head_variables_supported n r
init_supported n (init_expression_rule h r) = r.1

left_supported : (n : ℕ) {k : Code} {x : Tree} {c d : Place} → SmallLeftRule (ReadsClass n) (ReadsPat n) (ReadsTarget n) k x c d → supported_in k.flags.module x ≡ true
left_supported n (declared_rule r) = head_variables_supported n r
left_supported n (left_target_rule h r) = r.1

of_left_supported : (n : ℕ) {w : Bool} {k : Code} {x : Tree} {c d : Place} → SmallOfLeftRule (ReadsClass n) (ReadsPat n) (ReadsTarget n) k w x c d → supported_in k.flags.module x ≡ true
of_left_supported n (of_left_rule r i) = left_supported n r
of_left_supported n {k = k} (of_using_rule name h r i e) = ap (supported_in k.flags.module) e ∙ rw r.1 refl
of_left_supported n {k = k} (of_await_rule y name m s r u l w o q i e) = ap (supported_in k.flags.module) e ∙ rw q.1 refl

part_supported : (n : ℕ) {k : Code} {x : Tree} {c d : Place} → SmallPartRule (ReadsClass n) k x c d → supported_in k.flags.module x ≡ true
part_supported n {k = k} (no_part_rule g e) = ap (supported_in k.flags.module) e
part_supported n (part_rule r) = r.1

init_widens : (n : ℕ) {k : Code} {x : Tree} {c d : Place} → SmallInitRule (ReadsClass n) (ReadsPat n) k x c d → heads.InitRule (Reads n) k x c d
init_widens n {c = c} (no_init_rule h g e) = heads.no_init_rule (seen c kind.Semi h) g e
init_widens n (init_variables_rule r) = heads.init_variables_rule (head_variables_widen n r)
init_widens n (init_expression_rule h r) = heads.init_expression_rule h r.0

left_widens : (n : ℕ) {k : Code} {x : Tree} {c d : Place} → SmallLeftRule (ReadsClass n) (ReadsPat n) (ReadsTarget n) k x c d → heads.LeftRule (Reads n) k x c d
left_widens n (declared_rule r) = heads.declared_rule (head_variables_widen n r)
left_widens n (left_target_rule h r) = heads.target_rule h r.0

of_left_widens : (n : ℕ) {w : Bool} {k : Code} {x : Tree} {c d : Place} → SmallOfLeftRule (ReadsClass n) (ReadsPat n) (ReadsTarget n) k w x c d → heads.OfLeftRule (Reads n) k w x c d
of_left_widens n (of_left_rule r i) = heads.of_left_rule (left_widens n r) i
of_left_widens n {k = k} {c = c} {d = d} (of_using_rule name h r i e) =
    let g = declares_in_head k c h in
    heads.of_using_rule g.0 (heads.using_head_rule (tree.declarator (spanned (after c) d) name tree.absent) (record { name = name; begins = g.1; no_of = g.3; reads_name = r.0; is_name = i; is = refl }) e)
of_left_widens n {k = k} {c = c} {d = d} (of_await_rule y name m s r u l w o q i e) =
    let g = awaited_words n (without_in k) y c m r.0 u in
    heads.of_using_rule s (heads.await_using_head_rule (tree.declarator (spanned m d) name tree.absent) g.stands (awaited_may k g.may) l (await_using_widens n k y name c m d r.0 u w o q.0 i) e)

part_widens : (n : ℕ) {k : Code} {x : Tree} {c d : Place} → SmallPartRule (ReadsClass n) k x c d → heads.PartRule (Reads n) k x c d
part_widens n (no_part_rule g e) = heads.no_part_rule g e
part_widens n (part_rule r) = heads.part_rule r.0

-- parameters are as their patterns are
pub parameters_same : (m : Bool) (ps : List Tree) → supported_in m (parameters ps) ≡ all_supported_in m (trees ps)
parameters_same m [] = refl
parameters_same m (p ∷ ps) = ap (λ b. supported_in m p && b) (parameters_same m ps)

module _ (Item : Code → Tree → Place → Place → Type 0) (small : (k : Code) (x : Tree) (c d : Place) → Item k x c d → supported_in k.flags.module x ≡ true) where
  items_supported : (k : Code) (directives : Bool) (xs : List Tree) (c d : Place) → ReadsItems Item k directives xs c d → all_supported_in k.flags.module (trees xs) ≡ true
  items_supported k directives [] c d h = refl
  items_supported k directives (x ∷ xs) c d (m, r, rs) = and_both _ _ (small k x c m r)
      (subst (λ b. all_supported_in b (trees xs) ≡ true) (strict_module (directives && is_use_strict x) k) (items_supported (directed k directives x) (directs_on directives x) xs m d rs))

module _ (n : ℕ) (small : (k : Code) (at : Position) (x : Tree) (c d : Place) → ReadsStmt n k at x c d → supported_in k.flags.module x ≡ true) where
  nested_supported : (k : Code) (directives : Bool) (xs : List Tree) (c d : Place) → ReadsItems (λ j. ReadsStmt n j nested_item) k directives xs c d → all_supported_in k.flags.module (trees xs) ≡ true
  nested_supported = items_supported (λ j. ReadsStmt n j nested_item) (λ k x c d r. small k nested_item x c d r)

  pub braced_supported : (directives : Bool) {k : Code} {x : Tree} {c d : Place} → ReadsBraced (ReadsStmt n) directives k x c d → supported_in k.flags.module x ≡ true
  braced_supported directives {k = k} {c = c} r = ap (supported_in k.flags.module) r.is ∙ nested_supported k directives r.items (after c) r.close r.reads_items

  block_supported : {k : Code} {x : Tree} {c d : Place} → ReadsBlock (ReadsStmt n) k x c d → supported_in k.flags.module x ≡ true
  block_supported r = braced_supported false r

  case_supported : {k : Code} {b : Bool} {x : Tree} {c d : Place} → SmallCaseRule (ReadsStmt n) (ReadsClass n) k b x c d → supported_in k.flags.module x ≡ true
  case_supported {k = k} {d = d} (case_clause_rule test xs m h r i s e) = ap (supported_in k.flags.module) e ∙ and_both (supported_in k.flags.module test) _ r.1 (nested_supported k false xs (after m) d s)
  case_supported {k = k} {c = c} {d = d} (default_clause_rule xs o h i s e) = ap (supported_in k.flags.module) e ∙ nested_supported k false xs (after (after c)) d s

  cases_supported : (k : Code) (b : Bool) (xs : List Tree) (c d : Place) → ReadsCases (ReadsStmt n) (ReadsClass n) k b xs c d → all_supported_in k.flags.module (trees xs) ≡ true
  cases_supported k b [] c d h = refl
  cases_supported k b (x ∷ xs) c d (m, r, rs) = and_both (supported_in k.flags.module x) _ (case_supported r) (cases_supported k (b || sees kind.Default c) xs m d rs)

  catch_supported : {k : Code} {x : Tree} {c d : Place} → SmallCatchRule (ReadsStmt n) (ReadsPat n) k x c d → supported_in k.flags.module x ≡ true
  catch_supported {k = k} (no_catch_rule h i e) = ap (supported_in k.flags.module) e
  catch_supported {k = k} (catch_rule body h r e) = ap (supported_in k.flags.module) e ∙ block_supported r
  catch_supported {k = k} (catch_parameter_rule p body m h i r j s e) = ap (supported_in k.flags.module) e ∙ and_both (supported_in k.flags.module p) _ r.1 (block_supported s)

  finally_supported : {k : Code} {x : Tree} {c d : Place} → SmallFinallyRule (ReadsStmt n) k x c d → supported_in k.flags.module x ≡ true
  finally_supported {k = k} (no_finally_rule h i e) = ap (supported_in k.flags.module) e
  finally_supported (finally_rule h r) = block_supported r

  mutual
    if_supported : {k : Code} {x : Tree} {c d : Place} → SmallIfRule (ReadsStmt n) (ReadsClass n) k x c d → supported_in k.flags.module x ≡ true
    if_supported {k = k} (if_rule test cons alt m i h r s o e) = ap (supported_in k.flags.module) e ∙ and_both (supported_in k.flags.module test) _ r.reads.1 (and_both (supported_in k.flags.module cons) _ (small k sub_statement cons m i s) (else_supported o))

    else_supported : {k : Code} {x : Tree} {c d : Place} → SmallElseRule (ReadsStmt n) (ReadsClass n) k x c d → supported_in k.flags.module x ≡ true
    else_supported {k = k} (no_else_rule h i e) = ap (supported_in k.flags.module) e
    else_supported {k = k} {x = x} {c = c} {d = d} (else_rule h i s) = small k sub_statement x (after c) d s
    else_supported (else_if_rule h r) = if_supported r

  function_supported : {k : Code} {x : Tree} {c d : Place} → ReadsFunction (ReadsStmt n) (ReadsParams n) k x c d → supported_in k.flags.module x ≡ true
  function_supported {k = k} r =
      ap (supported_in k.flags.module) r.is ∙ and_both _ _ refl
      (and_both (supported_in k.flags.module (parameters r.patterns)) _ (parameters_same k.flags.module r.patterns ∙ r.reads_parameters.1) (braced_supported true r.reads_body))

  rule_supported : (k : Code) (at : Position) (x : Tree) (c d : Place) → SmallStmtRule (ReadsStmt n) (ReadsClass n) (ReadsPat n) (ReadsTarget n) (ReadsParams n) (ReadsNamedClass n) k at x c d → supported_in k.flags.module x ≡ true
  rule_supported k at x c d (class_rule name y a r b e) = ap (supported_in k.flags.module) e ∙ r.1
  rule_supported k at x c d (function_rule a r) = function_supported r
  rule_supported k at x c d (block_rule r) = block_supported r
  rule_supported k at x c d (empty_rule h g e) = ap (supported_in k.flags.module) e
  rule_supported k at x c d (debugger_rule h g e) = ap (supported_in k.flags.module) e
  rule_supported k at x c d (variables_rule word xs m a h r g e) = ap (supported_in k.flags.module) e ∙ declarators_supported n (with_in k) false word xs (after c) m r
  rule_supported k at x c d (using_rule v xs m i a w l b r f u e) = ap (supported_in k.flags.module) e ∙ declared_supported n k (spanned c i) xs (after m) i r
  rule_supported k at x c d (if_statement_rule r) = if_supported r
  rule_supported k at x c d (switch_rule y xs m i h r j s g t e) = ap (supported_in k.flags.module) e ∙ and_both (supported_in k.flags.module y) _ r.reads.1 (cases_supported (in_breakable k) false xs (after m) i s)
  rule_supported k at x c d (labeled_rule w s y m r f h t e) =
      ap (supported_in k.flags.module) e ∙ and_both _ _ refl (small (in_breakable k) (labelled_item (after m)) y (after m) d t)
  rule_supported k at x c d (break_rule y m h r g e) = ap (supported_in k.flags.module) e ∙ target_supported r
  rule_supported k at x c d (continue_rule y m h r g e) = ap (supported_in k.flags.module) e ∙ target_supported r
  rule_supported k at x c d (return_rule y m h r g e) = ap (supported_in k.flags.module) e ∙ operand_supported n r
  rule_supported k at x c d (for_rule a b f y l m i h g r j s o t p u e) =
      ap (supported_in k.flags.module) e ∙ and_both (supported_in k.flags.module a) _ (init_supported n r) (and_both (supported_in k.flags.module b) _ (part_supported n s) (and_both (supported_in k.flags.module f) _ (part_supported n t) (small (in_loop k) sub_statement y (after i) d u)))
  rule_supported k at x c d (for_in_rule a b y m i h g r j s o t e) =
      ap (supported_in k.flags.module) e ∙ and_both (supported_in k.flags.module a) _ (left_supported n r) (and_both (supported_in k.flags.module b) _ s.1 (small (in_loop k) sub_statement y (after i) d t))
  rule_supported k at x c d (for_of_rule w a b y l m i h v g r j s o t e) =
      ap (supported_in k.flags.module) e ∙ and_both (supported_in k.flags.module a) _ (of_left_supported n r) (and_both (supported_in k.flags.module b) _ s.1 (small (in_loop k) sub_statement y (after i) d t))
  rule_supported k at x c d (throw_rule y m h b r g e) = ap (supported_in k.flags.module) e ∙ r.1
  rule_supported k at x c d (try_rule y z w m i h r s t a e) = ap (supported_in k.flags.module) e ∙ and_both (supported_in k.flags.module y) _ (block_supported r) (and_both (supported_in k.flags.module z) _ (catch_supported s) (finally_supported t))
  rule_supported k at x c d (with_rule y z m h o r s e) = ap (supported_in k.flags.module) e ∙ and_both (supported_in k.flags.module y) _ r.reads.1 (small (in_with k) sub_statement z m d s)
  rule_supported k at x c d (while_rule y z m h r s e) = ap (supported_in k.flags.module) e ∙ and_both (supported_in k.flags.module y) _ r.reads.1 (small (in_loop k) sub_statement z m d s)
  rule_supported k at x c d (do_while_rule y z m i h s j r g e) = ap (supported_in k.flags.module) e ∙ and_both (supported_in k.flags.module y) _ r.reads.1 (small (in_loop k) sub_statement z (after c) m s)
  rule_supported k at x c d (expr_rule y m h r a b g e) = ap (supported_in k.flags.module) e ∙ r.1
  rule_supported k at x c d (import_rule y m h r g e) = ap (supported_in k.flags.module) e ∙ r.1

  declared_supported_by : (k : Code) (at : Position) (x : Tree) (c d : Place) → DeclaredRule (ReadsStmt n) (ReadsParams n) (ReadsNamedClass n) k at x c d → supported_in k.flags.module x ≡ true
  declared_supported_by k at x c d (declared_class name y a r b e) = ap (supported_in k.flags.module) e ∙ r.1
  declared_supported_by k at x c d (declared_function a r) = function_supported r

  statement_supported : (k : Code) (at : Position) (x : Tree) (c d : Place) → EitherRule (SmallStmtRule (ReadsStmt n) (ReadsClass n) (ReadsPat n) (ReadsTarget n) (ReadsParams n) (ReadsNamedClass n) k at x c d)
      (SmallDecoratedRule (ReadsDecorators n) (ReadsDeclared n) k at x c d) → supported_in k.flags.module x ≡ true
  statement_supported k at x c d (plain_statement r) = rule_supported k at x c d r
  statement_supported k at x c d (decorated_statement r) = ap (supported_in k.flags.module) r.is
      ∙ decorated_supported k.flags.module (span_at c) (r.first ∷ r.others) r.bare r.reads_decorators.1 (declared_supported_by k at r.bare r.middle d r.reads_bare)

pub stmt_supported : (n : ℕ) (k : Code) (at : Position) (x : Tree) (c d : Place) → ReadsStmt n k at x c d → supported_in k.flags.module x ≡ true
stmt_supported zero k at x c d h = absurd h
stmt_supported (suc n) k at x c d h = statement_supported n (stmt_supported n) k at x c d h

-- what an expression is stands there
pub stands_there : (n : ℕ) (k : Code) (x : Tree) (c d : Place) → Reads n (expr_goal expression k x c d) → is_absent x ≡ false
stands_there zero k x c d h = absurd h
stands_there (suc n) k x c d h = expr_stands (Reads n) expression k x c d h

pub value_stands : (n : ℕ) (k : Code) (x : Tree) (c d : Place) → Reads n (expr_goal assignment k x c d) → is_absent x ≡ false
value_stands zero k x c d h = absurd h
value_stands (suc n) k x c d h = expr_stands (Reads n) assignment k x c d h

either_no : (a b : Bool) → a ≡ false → b ≡ false → (a || b) ≡ false
either_no true b h g = cc
either_no false b h g = g

module _ (n : ℕ) (at : Position) (Item : Code → Tree → Place → Place → Type 0) (widen : (k : Code) (x : Tree) (c d : Place) → Item k x c d → Reads n (stmt_goal k at x c d)) where
  items_widen : (k : Code) (directives : Bool) (xs : List Tree) (c d : Place) → ReadsItems Item k directives xs c d → ItemsRule (Reads n) k directives at xs c d
  items_widen k directives [] c d h = h
  items_widen k directives (x ∷ xs) c d (m, r, rs) = (m, widen k x c m r, items_widen (directed k directives x) (directs_on directives x) xs m d rs)

  -- and where one of them begins with `await` is as it was
  items_await_as : (k : Code) (directives : Bool) (xs : List Tree) (c d : Place) (r : ReadsItems Item k directives xs c d)
      → programs.items_await (Reads n) k directives at xs c d (items_widen k directives xs c d r) ≡ small_items_await Item k directives xs c d r
  unfolding items_widen
  items_await_as k directives [] c d r = refl
  items_await_as k directives (x ∷ xs) c d (m, r, rs) = ap (λ b. sees kind.Await c || b) (items_await_as (directed k directives x) (directs_on directives x) xs m d rs)

module _ (n : ℕ) (widen : (k : Code) (at : Position) (x : Tree) (c d : Place) → may_begin_at_top k at c ≡ true → ReadsStmt n k at x c d → Reads n (stmt_goal k at x c d)) where
  -- what stands in another
  inner : (k : Code) (at : Position) (x : Tree) (c d : Place) → at.top_level ≡ false → ReadsStmt n k at x c d → Reads n (stmt_goal k at x c d)
  inner k at x c d h r = widen k at x c d (nested k at c h) r

  nested_widen : (k : Code) (directives : Bool) (xs : List Tree) (c d : Place) → ReadsItems (λ j. ReadsStmt n j nested_item) k directives xs c d → ItemsRule (Reads n) k directives nested_item xs c d
  nested_widen = items_widen n nested_item (λ j. ReadsStmt n j nested_item) (λ k x c d r. inner k nested_item x c d refl r)

  head_widens : {k : Code} {x : Tree} {c d : Place} → ReadsHead (ReadsClass n) k x c d → statements.HeadRule (Reads n) k x c d
  head_widens r = record { close = r.close; opens = r.opens; reads = r.reads.0; closes = r.closes; next = r.next }

  pub braced_widens : (directives : Bool) {k : Code} {x : Tree} {c d : Place} → ReadsBraced (ReadsStmt n) directives k x c d → BlockRule (Reads n) k directives x c d
  braced_widens directives {k = k} {c = c} r = record {
    items = r.items;
    close = r.close;
    opens = r.opens;
    reads_items = nested_widen k directives r.items (after c) r.close r.reads_items;
    closes = r.closes;
    next = r.next;
    is = r.is;
  }

  block_widens : {k : Code} {x : Tree} {c d : Place} → ReadsBlock (ReadsStmt n) k x c d → BlockRule (Reads n) k false x c d
  block_widens r = braced_widens false r

  case_widens : {k : Code} {b : Bool} {x : Tree} {c d : Place} → SmallCaseRule (ReadsStmt n) (ReadsClass n) k b x c d → statements.CaseRule (Reads n) k x c d
  case_widens {k = k} {d = d} (case_clause_rule test xs m h r i s e) = statements.case_clause_rule test xs m h r.0 i (nested_widen k false xs (after m) d s) e
  case_widens {k = k} {c = c} {d = d} (default_clause_rule xs o h i s e) = statements.default_clause_rule xs h i (nested_widen k false xs (after (after c)) d s) e

  cases_widen : (k : Code) (b : Bool) (xs : List Tree) (c d : Place) → ReadsCases (ReadsStmt n) (ReadsClass n) k b xs c d → ReadsEach (statements.CaseRule (Reads n) k) xs c d
  cases_widen k b [] c d h = h
  cases_widen k b (x ∷ xs) c d (m, r, rs) = (m, case_widens r, cases_widen k (b || sees kind.Default c) xs m d rs)

  -- no `default` behind one, and one at most where there is none before
  none_more : (k : Code) (xs : List Tree) (c d : Place) → ReadsCases (ReadsStmt n) (ReadsClass n) k true xs c d → list_any is_default xs ≡ false
  none_more k [] c d h = refl
  none_more k (x ∷ xs) c d (m, case_clause_rule test ys i h r j s e, rs) = either_no _ _ (ap is_default e ∙ stands_there n (with_in k) test (after c) i r.0) (none_more k xs m d rs)
  none_more k (x ∷ xs) c d (m, default_clause_rule ys o h j s e, rs) = cc

  one_at_most : (k : Code) (xs : List Tree) (c d : Place) → ReadsCases (ReadsStmt n) (ReadsClass n) k false xs c d → at_most_one_default xs ≡ true
  unfolding same_kind
  one_at_most k [] c d h = refl
  one_at_most k (x ∷ xs) c d (m, case_clause_rule test ys i h r j s e, rs) =
      rw (ap is_default e ∙ stands_there n (with_in k) test (after c) i r.0) (one_at_most k xs m d (subst (λ b. ReadsCases (ReadsStmt n) (ReadsClass n) k b xs m d) (ap (λ j. same_kind j kind.Default) h) rs))
  one_at_most k (x ∷ xs) c d (m, default_clause_rule ys o h j s e, rs) =
      rw (e, none_more k xs m d (subst (λ b. ReadsCases (ReadsStmt n) (ReadsClass n) k b xs m d) (ap (λ j. same_kind j kind.Default) h) rs)) refl

  catch_widens : {k : Code} {x : Tree} {c d : Place} → SmallCatchRule (ReadsStmt n) (ReadsPat n) k x c d → statements.CatchRule (Reads n) k x c d
  catch_widens (no_catch_rule h i e) = statements.no_catch_rule h i e
  catch_widens (catch_rule body h r e) = statements.catch_rule body h (block_widens r) e
  catch_widens (catch_parameter_rule p body m h i r j s e) = statements.catch_parameter_rule p body m h i r.0 j (block_widens s) e

  finally_widens : {k : Code} {x : Tree} {c d : Place} → SmallFinallyRule (ReadsStmt n) k x c d → statements.FinallyRule (Reads n) k x c d
  finally_widens (no_finally_rule h i e) = statements.no_finally_rule h i e
  finally_widens (finally_rule h r) = statements.finally_rule h (block_widens r)

  mutual
    if_widens : {k : Code} {x : Tree} {c d : Place} → SmallIfRule (ReadsStmt n) (ReadsClass n) k x c d → statements.IfRule (Reads n) k x c d
    if_widens {k = k} (if_rule test cons alt m i h r s o e) = statements.if_rule test cons alt m i h (head_widens r) (inner k sub_statement cons m i refl s) (else_widens o) e

    else_widens : {k : Code} {x : Tree} {c d : Place} → SmallElseRule (ReadsStmt n) (ReadsClass n) k x c d → statements.ElseRule (Reads n) k x c d
    else_widens (no_else_rule h i e) = statements.no_else_rule h i e
    else_widens {k = k} {x = x} {c = c} {d = d} (else_rule h i s) = statements.else_rule h i (inner k sub_statement x (after c) d refl s)
    else_widens (else_if_rule h r) = statements.else_if_rule h (if_widens r)

  -- a function, with whatever decorators stand before it
  function_widens : (k : Code) (ds x : Tree) (c d : Place) (r : ReadsFunction (ReadsStmt n) (ReadsParams n) k x c d)
      → functions.FunctionRule (Reads n) false k ds (tree.ident r.name_span (word_text r.name)) (tree.function (spanned c d) ds (parameters r.patterns) r.body r.is_async r.is_generator) c d
  function_widens k ds x c d r = record {
    is_async = r.is_async;
    is_generator = r.is_generator;
    patterns = r.patterns;
    body = r.body;
    word = r.word;
    behind_word = r.behind_word;
    behind_name = r.behind_name;
    reads_async = r.reads_async;
    is_function = r.is_function;
    reads_star = r.reads_star;
    reads_name = parts.a_name (word_text r.name) r.name_span (record { word = r.name; reads_word = r.reads_name; is_text = refl; is_name = name_is_clean k.flags (word_text r.name) r.is_named }) refl;
    reads_parts = record { middle = r.middle; reads_parameters = r.reads_parameters.0; reads_body = braced_widens true r.reads_body };
    is = refl;
  }

  form_widens : (k : Code) (at : Position) (x : Tree) (c d : Place) → SmallStmtRule (ReadsStmt n) (ReadsClass n) (ReadsPat n) (ReadsTarget n) (ReadsParams n) (ReadsNamedClass n) k at x c d → statements.FormRule (Reads n) k at x c d
  form_widens k at x c d (class_rule name y a r b e) = statements.class_rule (listed []) name y c a (classes.no_decorators refl refl) r.0 b e
  form_widens k at x c d (function_rule a r) = statements.function_rule (listed []) _ _ c (classes.no_decorators refl refl) a (function_widens k (listed []) x c d r) refl r.is
  form_widens k at x c d (block_rule r) = statements.block_rule (block_widens r)
  form_widens k at x c d (empty_rule h g e) = statements.empty_rule h g e
  form_widens k at x c d (debugger_rule h g e) = statements.debugger_rule h g e
  form_widens k at x c d (variables_rule word xs m a h r g e) = statements.variables_rule word xs m a (h, declarators_widen n (with_in k) false word xs (after c) m r) g e
  form_widens k at x c d (using_rule v xs m i a w l b r f u e) = statements.using_rule (using_widens n k at x c d v xs m i a w l b r f u e)
  form_widens k at x c d (if_statement_rule r) = statements.if_statement_rule (if_widens r)
  form_widens k at x c d (switch_rule y xs m i h r j s g t e) =
      statements.switch_rule y xs m i h (head_widens r) j (cases_widen (in_breakable k) false xs (after m) i s) (one_at_most (in_breakable k) xs (after m) i s) g t e
  form_widens k at x c d (labeled_rule w s y m r f h t e) =
      statements.labeled_rule (word_text w) s y m (record { word = w; reads_word = r; is_text = refl; is_name = name_is_clean k.flags (word_text w) f }) h
      (inner (in_breakable k) (labelled_item (after m)) y (after m) d refl t) e
  form_widens k at x c d (break_rule y m h r g e) = statements.break_rule y m h (target_widens r) g e
  form_widens k at x c d (continue_rule y m h r g e) = statements.continue_rule y m h (target_widens r) g e
  form_widens k at x c d (return_rule y m h r g e) = statements.return_rule y m h (operand_widens n r) g e
  form_widens k at x c d (for_rule a b f y l m i h g r j s o t p u e) =
      statements.for_rule a b f y l m i h g (init_widens n r) j (part_widens n s) o (part_widens n t) p (inner (in_loop k) sub_statement y (after i) d refl u) e
  form_widens k at x c d (for_in_rule a b y m i h g r j s o t e) =
      statements.for_in_rule a b y m i h g (left_widens n r) j s.0 o (inner (in_loop k) sub_statement y (after i) d refl t) e
  form_widens k at x c d (for_of_rule w a b y l m i h v g r j s o t e) =
      statements.for_of_rule w a b y l m i h v g (of_left_widens n r) j s.0 o (inner (in_loop k) sub_statement y (after i) d refl t) e
  form_widens k at x c d (throw_rule y m h b r g e) = statements.throw_rule y m h b r.0 g e
  form_widens k at x c d (try_rule y z w m i h r s t a e) = statements.try_rule y z w m i h (block_widens r) (catch_widens s) (finally_widens t) a e
  form_widens k at x c d (with_rule y z m h o r s e) = statements.with_rule y z m h (head_widens r) (inner (in_with k) sub_statement z m d refl s) e
  form_widens k at x c d (while_rule y z m h r s e) = statements.while_rule y z m h (head_widens r) (inner (in_loop k) sub_statement z m d refl s) e
  form_widens k at x c d (do_while_rule y z m i h s j r g e) = statements.do_while_rule y z m i h (inner (in_loop k) sub_statement z (after c) m refl s) j (head_widens r) g e
  form_widens k at x c d (expr_rule y m h r a b g e) = statements.expr_rule y m h r.0 a g e
  form_widens k at x c d (import_rule y m h r g e) = statements.import_expr_rule y m h r.0 g e

  -- a class or a function behind decorators
  decorated_widens : (k : Code) (at : Position) (x : Tree) (c d : Place) → SmallDecoratedRule (ReadsDecorators n) (ReadsDeclared n) k at x c d → statements.FormRule (Reads n) k at x c d
  unfolding spanned
  decorated_widens k at x c d r = by_kind r.bare r.reads_bare r.is
    where
      ds : List Tree
      ds = r.first ∷ r.others

      by_kind : (y : Tree) → ReadsDeclared n k at y r.middle d → x ≡ decorated_by (span_at c) ds y → statements.FormRule (Reads n) k at x c d
      by_kind y (declared_class name z a (q, h) b e) i = statements.class_rule (listed ds) name (tree.class (spanned c d) (listed ds) (listed q.members) q.heritage) r.middle a r.reads_decorators.0 (record {
        heritage = q.heritage;
        members = q.members;
        behind_name = q.behind_name;
        opening = q.opening;
        close = q.close;
        is_class = q.is_class;
        reads_name = q.reads_name;
        reads_heritage = q.reads_heritage;
        opens = q.opens;
        reads_members = q.reads_members;
        closes = q.closes;
        next = q.next;
        is = refl;
      }) b (i ∙ ap (decorated_by (span_at c) ds) (e ∙ ap (tree.class_decl name) q.is))
      by_kind y (declared_function a q) i = statements.function_rule (listed ds) _ _ r.middle r.reads_decorators.0 a (function_widens k (listed ds) y r.middle d q) refl
          (i ∙ ap (decorated_by (span_at c) ds) q.is)

  either_widens : (k : Code) (at : Position) (x : Tree) (c d : Place) → EitherRule (SmallStmtRule (ReadsStmt n) (ReadsClass n) (ReadsPat n) (ReadsTarget n) (ReadsParams n) (ReadsNamedClass n) k at x c d)
      (SmallDecoratedRule (ReadsDecorators n) (ReadsDeclared n) k at x c d) → statements.FormRule (Reads n) k at x c d
  either_widens k at x c d (plain_statement r) = form_widens k at x c d r
  either_widens k at x c d (decorated_statement r) = decorated_widens k at x c d r

pub stmt_widens : (n : ℕ) (k : Code) (at : Position) (x : Tree) (c d : Place) → may_begin_at_top k at c ≡ true → ReadsStmt n k at x c d → Reads n (stmt_goal k at x c d)
stmt_widens zero k at x c d b h = absurd h
stmt_widens (suc n) k at x c d b h = (b, either_widens n (stmt_widens n) k at x c d h)

-- one that stands in no other
pub top_widens : (n : ℕ) (k : Code) (at : Position) (x : Tree) (c d : Place) → ReadsTop n k at x c d → Reads n (stmt_goal k at x c d)
top_widens n k at x c d r = stmt_widens n k at x c d r.1 r.0

-- ---- scripts

pub shebang_widens : (c d : Place) (o : Option Text) → ReadsShebang c d o → programs.ShebangRule c d o
shebang_widens c d _ (some_shebang text s r) = programs.some_shebang text s r
shebang_widens c d _ (no_shebang h n) = programs.no_shebang h n

-- a script is no module
no_module : (n : ℕ) (k : Code) (x : Tree) (c d : Place) → ReadsScript n k x c d → programs.is_module_code (script_code k) x ≡ false
no_module n k x c d r = ap (programs.is_module_code (script_code k)) r.is

never : {X : Type 0} (b : Bool) → b ≡ false → b ≡ true → X
never b h g = cc

pub script_widens : (n : ℕ) (k : Code) (x : Tree) (c d : Place) → ReadsScript n k x c d → ReadsEntry n programs.script k x c d
script_widens n k x c d r = (
  record {
    shebang = r.shebang;
    first = r.first;
    items = r.items;
    reads_shebang = shebang_widens c r.first r.shebang r.reads_shebang;
    reads_items = items_widen n top_item (λ j. ReadsTop n j top_item) (λ j y a b q. top_widens n j top_item y a b q) (script_code k) true r.items r.first d r.reads_items;
    to_the_end = r.whole;
    is = r.is;
  },
  λ m. never (programs.is_module_code (script_code k) x) (no_module n k x c d r) m,
)

-- it makes no module of itself that was none
pub script_awaits_as : (n : ℕ) (k : Code) (x : Tree) (c d : Place) (r : ReadsScript n k x c d) → programs.script_awaits n k x c d (script_widens n k x c d r) ≡ small_script_awaits n k x c d r
unfolding script_widens
script_awaits_as n k x c d r = items_await_as n top_item (λ j. ReadsTop n j top_item) (λ j y a b q. top_widens n j top_item y a b q) (script_code k) true r.items r.first d r.reads_items
