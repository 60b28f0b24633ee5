-- What the whole language reads and is supported, the rules of the first forms read.
use Rattle.swc_ecma_parser_grammar.specs.language.Parts.{ReadsName}
use Rattle.swc_ecma_parser_grammar.proofs.StatementBegins.{word_place}
use Rattle.swc_ecma_parser_model.specs.Forms.{is_absent}
use Rattle.swc_ecma_parser_common.specs.declared.span.Span.{Span}
use Rattle.swc_ecma_parser_grammar.specs.Parameters.{parameters}
use Rattle.std.proofs.Common.{◌≡◌, ℕ, zero, suc, Bool, true, false, cond, List, [], ◌∷◌, ◌++◌, Option, refl, true≢false, sym, ◌∙◌, ap, subst, codes}
use Rattle.std.specs.Prelude.{not, ◌&&◌, ◌||◌, if◌then◌else◌}
use Rattle.std.specs.List.{list_any}
use Rattle.swc_ecma_parser_error.specs.Kind.{Fault}
use Rattle.swc_ecma_parser_token.specs.declared.kind.TokenKind.TheVariants as kind
use Rattle.swc_ecma_parser_grammar.specs.Follows.{is_async_function, word_at, Star, AsyncWord}
use Rattle.swc_ecma_parser_input.specs.Place.{Place, after}
use Rattle.swc_ecma_parser_model.specs.declared.leaves.VarDeclKind.{VarDeclKind}
use Rattle.swc_ecma_parser_model.specs.declared.leaves.VarDeclKind.TheVariants as decl
use Rattle.swc_ecma_parser_model.specs.Tree as tree
use Rattle.swc_ecma_parser_model.specs.Tree.{Tree, Text, trees, listed, absent}
use Rattle.swc_ecma_parser_model.specs.Directive.{is_use_strict}
use Rattle.swc_ecma_parser_grammar.specs.declared.position.Position.{Position}
use Rattle.swc_ecma_parser_grammar.specs.Looks.{kind_at, sees, same_kind, spanned, breaks_at, whole_span}
use Rattle.swc_ecma_parser_grammar.specs.Names.{Code}
use Rattle.swc_ecma_parser_grammar.specs.scaffold.Reads.{SmallDeclaratorRule, plain_rule, initialized_rule, ReadsItems, SmallStmtRule, block_rule, empty_rule, debugger_rule, variables_rule, using_rule, if_statement_rule, SmallTargetRule, no_target_rule, target_rule, SmallReturnedRule, no_operand_rule, operand_rule, break_rule, continue_rule, return_rule, case_clause_rule, default_clause_rule, ReadsCases, switch_rule, throw_rule, try_rule, with_rule, while_rule, do_while_rule, expr_rule, import_rule, ReadsBlock, SmallCatchRule, no_catch_rule, catch_rule, catch_parameter_rule, SmallFinallyRule, no_finally_rule, finally_rule, ReadsHead, SmallIfRule, if_rule, SmallElseRule, no_else_rule, else_rule, else_if_rule, ReadsBraced, ReadsFunction, class_rule, function_rule, labeled_rule, HeadVariables, SmallInitRule, no_init_rule, init_variables_rule, init_expression_rule, SmallLeftRule, declared_rule, left_target_rule, for_in_rule, for_of_rule, SmallPartRule, no_part_rule, part_rule, for_rule, SmallOfLeftRule, of_left_rule, of_using_rule, of_await_rule}
use Rattle.swc_ecma_parser_grammar.specs.scaffold.Entries.{ReadsScript, ReadsShebang, some_shebang, no_shebang, small_items_await, small_script_awaits}
use Rattle.swc_ecma_parser_grammar.specs.scaffold.Using.{misused, each_misused}
use Rattle.swc_ecma_parser_grammar.specs.Notes.{notes, all_notes, statement_note, with_note}
use Rattle.swc_ecma_parser_grammar.specs.scaffold.Decorated.{declared_class, declared_function, SmallDecoratedRule, EitherRule, plain_statement, decorated_statement}
use Rattle.swc_ecma_parser_grammar.specs.scaffold.Supported.{supported, supported_in, all_supported_in}
use Rattle.swc_ecma_parser_grammar.specs.scaffold.ReadsSupported.{ReadsClass, ReadsPat, ReadsTarget, ReadsStmt, ReadsTop, ReadsParams, ReadsNamedClass, ReadsDecorators, ReadsDeclared}
use Rattle.swc_ecma_parser_grammar.specs.language.Goals.{assignment, stmt_goal}
use Rattle.swc_ecma_parser_grammar.specs.language.Contexts.{in_loop, in_breakable, in_with, with_in, head_code, script_code}
use Rattle.swc_ecma_parser_grammar.specs.language.ForHeads as heads
use Rattle.swc_ecma_parser_grammar.specs.language.Classes as classes
use Rattle.swc_ecma_parser_grammar.specs.language.Functions as functions
use Rattle.swc_ecma_parser_grammar.specs.language.Parts as parts
use Rattle.swc_ecma_parser_grammar.specs.language.Declarations as declarations
use Rattle.swc_ecma_parser_grammar.specs.language.Items.{sub_statement, labelled_item, ItemsRule, BlockRule, directed, directs_on, nested_item, top_item}
use Rattle.swc_ecma_parser_grammar.specs.language.Lists.{ReadsEach, ReadsSeparated}
use Rattle.swc_ecma_parser_grammar.specs.language.Statements as statements
use Rattle.swc_ecma_parser_grammar.specs.language.Statements.{is_default, at_most_one_default}
use Rattle.swc_ecma_parser_grammar.specs.language.Reads.{Reads}
use Rattle.swc_ecma_parser_grammar.specs.language.Programs as programs
use Rattle.swc_ecma_parser_grammar.specs.language.Programs.{ReadsEntry}
use Rattle.swc_ecma_parser_grammar.proofs.Tests.{and_yes}
use Rattle.swc_ecma_parser_grammar.proofs.SupportedIn.{strict_module, head_module}
use Rattle.swc_ecma_parser_grammar.proofs.SupportedBegins.{supported_as}
use Rattle.swc_ecma_parser_grammar.proofs.Unnoted.{Quiet, quiet_first, quiet_last, quiet_as}
use Rattle.swc_ecma_parser_grammar.proofs.Naming.{name_is_name}
use Rattle.swc_ecma_parser_grammar.proofs.UsingParts.{undeclared, so_set, bound, bound_stands, in_head_declares}
use Rattle.swc_ecma_parser_grammar.proofs.AwaitHeads.{await_using_narrows}
use Rattle.swc_ecma_parser_grammar.proofs.Widens.{saw, stands_there, value_stands, parameters_same}
use Rattle.swc_ecma_parser_grammar.proofs.language.Asked.{or_left, or_right}

-- ---- declarators

declarator_narrows : (n : ℕ) (k : Code) (loop : Bool) (word : VarDeclKind) (x : Tree) (c d : Place) → declarations.DeclaratorRule (Reads n) k loop word x c d → supported_in k.flags.module x ≡ true
    → SmallDeclaratorRule (ReadsClass n assignment) (ReadsPat n) k loop word x c d
declarator_narrows n k loop word x c d (declarations.plain_rule name r a b e) h =
    let g = and_yes (supported_in k.flags.module name) _ (supported_as _ x (tree.declarator (spanned c d) name tree.absent) e h) in plain_rule name (r, g.0) a b e
declarator_narrows n k loop word x c d (declarations.initialized_rule name init m r a s e) h =
    let g = and_yes (supported_in k.flags.module name) _ (supported_as _ x (tree.declarator (spanned c d) name init) e h) in
    initialized_rule name init m (r, g.0) a (s, g.1) e

module _ (b : Bool) (Rule Other : Tree → Place → Place → Type 0) (narrow : (x : Tree) (c d : Place) → Rule x c d → supported_in b x ≡ true → Other x c d) where
  -- with commas between, each by itself
  separated_narrow : (xs : List Tree) (c d : Place) → ReadsSeparated Rule xs c d → all_supported_in b (trees xs) ≡ true → ReadsSeparated Other xs c d
  separated_narrow [] c d r h = r
  separated_narrow (x ∷ []) c d (r, e) h = (narrow x c d r (and_yes (supported_in b x) _ h).0, e)
  separated_narrow (x ∷ y ∷ ys) c d (m, r, e, rs) h = let g = and_yes (supported_in b x) _ h in (m, narrow x c m r g.0, e, separated_narrow (y ∷ ys) (after m) d rs g.1)

declarators_narrow : (n : ℕ) (k : Code) (loop : Bool) (word : VarDeclKind) (xs : List Tree) (c d : Place) → ReadsSeparated (declarations.DeclaratorRule (Reads n) k loop word) xs c d
    → all_supported_in k.flags.module (trees xs) ≡ true → ReadsSeparated (SmallDeclaratorRule (ReadsClass n assignment) (ReadsPat n) k loop word) xs c d
declarators_narrow n k loop word =
    separated_narrow k.flags.module (declarations.DeclaratorRule (Reads n) k loop word) (SmallDeclaratorRule (ReadsClass n assignment) (ReadsPat n) k loop word) (declarator_narrows n k loop word)

-- ---- statements

target_narrows : {k : Code} {x : Tree} {c d : Place} → statements.TargetRule k x c d → supported_in k.flags.module x ≡ true → SmallTargetRule k x c d
target_narrows (statements.no_target_rule i g e) h = no_target_rule i g e
target_narrows {k = k} {x = x} {c = c} {d = d} (statements.target_rule text s i r e) h =
    target_rule r.word s i r.reads_word (name_is_name k text s c d r) (e ∙ ap (tree.ident s) r.is_text)

operand_narrows : (n : ℕ) {k : Code} {x : Tree} {c d : Place} → statements.ReturnedRule (Reads n) k x c d → supported_in k.flags.module x ≡ true → SmallReturnedRule (ReadsClass n) k x c d
operand_narrows n (statements.no_operand_rule i g e) h = no_operand_rule i g e
operand_narrows n (statements.operand_rule i r) h = operand_rule i (r, h)

-- ---- what is declared with `using`

module _ (n : ℕ) (k : Code) where
  using_declarator_narrows : (x : Tree) (c d : Place) → declarations.UsingDeclaratorRule (Reads n) k x c d → supported_in k.flags.module x ≡ true
      → SmallDeclaratorRule (ReadsClass n assignment) (ReadsPat n) (with_in k) false decl.Var x c d
  using_declarator_narrows x c d r h =
      let g = and_yes (supported_in k.flags.module r.name) _ (supported_as _ x (tree.declarator (spanned c d) r.name r.init) r.is h) in
      initialized_rule r.name r.init r.equals (bound n k r.name c r.equals r.is_name r.reads_name, g.0) r.assigns (r.reads_init, g.1) r.is

  declarator_used : (s : Span) (x : Tree) (c d : Place) → declarations.UsingDeclaratorRule (Reads n) k x c d → misused s x ≡ []
  declarator_used s x c d r = undeclared s x r.name r.init r.is r.is_name (value_stands n (with_in k) r.init (after r.equals) d r.reads_init)

  declarators_used : (s : Span) (xs : List Tree) (c d : Place) → ReadsSeparated (declarations.UsingDeclaratorRule (Reads n) k) xs c d → each_misused s xs ≡ []
  declarators_used s [] c d r = absurd r
  declarators_used s (x ∷ []) c d (r, e) = ap (λ fs. fs ++ []) (declarator_used s x c d r)
  declarators_used s (x ∷ y ∷ ys) c d (m, r, e, rs) = ap (λ fs. fs ++ each_misused s (y ∷ ys)) (declarator_used s x c m r) ∙ declarators_used s (y ∷ ys) (after m) d rs

  using_narrows : (at : Position) (x : Tree) (c d : Place) → declarations.UsingRule (Reads n) k at x c d → supported_in k.flags.module x ≡ true
      → SmallStmtRule (ReadsStmt n) (ReadsClass n) (ReadsPat n) (ReadsTarget n) (ReadsParams n) (ReadsNamedClass n) k at x c d
  using_narrows at x c d r h =
      let f = supported_as _ x (tree.using (spanned c d) r.is_await (listed r.declarators)) r.is h in
      using_rule r.is_await r.declarators r.word r.behind r.has_place r.reads_await r.on_line r.begins
      (separated_narrow k.flags.module (declarations.UsingDeclaratorRule (Reads n) k) (SmallDeclaratorRule (ReadsClass n assignment) (ReadsPat n) (with_in k) false decl.Var) using_declarator_narrows r.declarators (after r.word) r.behind r.reads f)
      (so_set k.setting.explicit_resource_management (spanned c r.behind) r.declarators r.is_read (declarators_used (spanned c r.behind) r.declarators (after r.word) r.behind r.reads)) r.ends r.is

-- ---- the head of a `for`

head_variables_narrow : (n : ℕ) {k : Code} {x : Tree} {c d : Place} → heads.HeadVariablesRule (Reads n) k x c d → supported_in k.flags.module x ≡ true → HeadVariables (ReadsClass n) (ReadsPat n) k x c d
head_variables_narrow n {k = k} {x = x} {c = c} {d = d} r h = record {
  word = r.word;
  declarators = r.declarators;
  begins = r.reads.0;
  reads = declarators_narrow n (head_code r.word k) true r.word r.declarators (after c) d r.reads.1
      (subst (λ b. all_supported_in b (trees r.declarators) ≡ true) (sym (head_module r.word k)) (supported_as _ x (tree.var (spanned c d) r.word (listed r.declarators)) r.is h));
  is = r.is;
}

init_narrows : (n : ℕ) {k : Code} {x : Tree} {c d : Place} → heads.InitRule (Reads n) k x c d → supported_in k.flags.module x ≡ true → SmallInitRule (ReadsClass n) (ReadsPat n) k x c d
init_narrows n {c = c} (heads.no_init_rule i g e) h = no_init_rule (saw c kind.Semi i) g e
init_narrows n (heads.init_variables_rule r) h = init_variables_rule (head_variables_narrow n r h)
init_narrows n (heads.init_expression_rule i r) h = init_expression_rule i (r, h)

left_narrows : (n : ℕ) {k : Code} {x : Tree} {c d : Place} → heads.LeftRule (Reads n) k x c d → supported_in k.flags.module x ≡ true → SmallLeftRule (ReadsClass n) (ReadsPat n) (ReadsTarget n) k x c d
left_narrows n (heads.declared_rule r) h = declared_rule (head_variables_narrow n r h)
left_narrows n (heads.target_rule i r) h = left_target_rule i (r, h)

of_left_narrows : (n : ℕ) (is_await : Bool) {k : Code} {x : Tree} {c d : Place} → heads.OfLeftRule (Reads n) k is_await x c d → supported_in k.flags.module x ≡ true
    → SmallOfLeftRule (ReadsClass n) (ReadsPat n) (ReadsTarget n) k is_await x c d
of_left_narrows n is_await (heads.of_left_rule r i) h = of_left_rule (left_narrows n r h) i
of_left_narrows n is_await {k = k} {x = x} {c = c} {d = d} (heads.of_using_rule i (heads.using_head_rule y r e)) h =
    let f = e ∙ ap (λ z. tree.using (spanned c d) false (listed (z ∷ []))) r.is in
    let g = and_yes (supported_in k.flags.module (tree.declarator (spanned (after c) d) r.name tree.absent)) true
    (supported_as k.flags.module x (tree.using (spanned c d) false (listed (tree.declarator (spanned (after c) d) r.name tree.absent ∷ []))) f h) in
    of_using_rule r.name (in_head_declares k c i r.begins (bound_stands n k r.name (after c) d r.is_name r.reads_name) r.no_of) (r.reads_name, (and_yes (supported_in k.flags.module r.name) true g.0).0) r.is_name f
of_left_narrows n is_await {k = k} {x = x} {c = c} {d = d} (heads.of_using_rule i (heads.await_using_head_rule y a b l r e)) h =
    let q = await_using_narrows n k y c d a b r in
    let f = e ∙ ap (λ z. tree.using (spanned c d) true (listed (z ∷ []))) q.is in
    let g = and_yes (supported_in k.flags.module (tree.declarator (spanned (after (after c)) d) q.name tree.absent)) true
    (supported_as k.flags.module x (tree.using (spanned c d) true (listed (tree.declarator (spanned (after (after c)) d) q.name tree.absent ∷ []))) f h) in
    of_await_rule q.words q.name (after (after c)) i (q.reads_words, q.supports) q.are_words l q.word q.no_of (q.reads_name, (and_yes (supported_in k.flags.module q.name) true g.0).0) q.is_name f

part_narrows : (n : ℕ) {k : Code} {x : Tree} {c d : Place} → heads.PartRule (Reads n) k x c d → supported_in k.flags.module x ≡ true → SmallPartRule (ReadsClass n) k x c d
part_narrows n (heads.no_part_rule g e) h = no_part_rule g e
part_narrows n (heads.part_rule r) h = part_rule (r, h)

-- what is not noted in module code is no bare name `interface` there
unnamed : (m b : Bool) (f : Fault) → (m ≡ true → (if b then f ∷ [] else []) ≡ []) → m && b ≡ false
unnamed true true f q = let e : f ∷ [] ≡ [] = q refl in cc
unnamed true false f q = refl
unnamed false b f q = refl

-- ---- functions

-- `function` is no `async`
no_async_function : (c : Place) → kind_at c ≡ kind.Function → is_async_function c ≡ false
unfolding is_async_function
no_async_function c e = by_word (word_at (codes "async") c) refl
  where
    by_word : (b : Bool) → word_at (codes "async") c ≡ b → (b && (sees kind.Function (after c) && not (breaks_at (after c)))) ≡ false
    by_word true h = let g : kind.Ident ≡ kind.Function = sym (word_place (codes "async") c h) ∙ e in cc
    by_word false h = refl

declared_here : (a b : Bool) → a || b ≡ true → b ≡ false → a ≡ true
declared_here true b h g = refl
declared_here false b h g = absurd (true≢false (sym h ∙ g))

-- no `with` stands in it either
no_with : (b : Bool) (f : Fault) (fs : List Fault) → (b ≡ true → f ∷ fs ≡ []) → b ≡ false
no_with true f fs q = let e : f ∷ fs ≡ [] = q refl in cc
no_with false f fs q = refl

module _ (n : ℕ) (at : Position) (Item : Code → Tree → Place → Place → Type 0)
    (narrow : (k : Code) (x : Tree) (c d : Place) → Quiet k (notes x) → Reads n (stmt_goal k at x c d) → supported_in k.flags.module x ≡ true → Item k x c d) where
  items_narrow : (k : Code) (directives : Bool) (xs : List Tree) (c d : Place) → Quiet k (all_notes (trees xs)) → ItemsRule (Reads n) k directives at xs c d
      → all_supported_in k.flags.module (trees xs) ≡ true → ReadsItems Item k directives xs c d
  items_narrow k directives [] c d o r h = r
  items_narrow k directives (x ∷ xs) c d o (m, r, rs) h =
      let g = and_yes (supported_in k.flags.module x) _ h in
      let q = quiet_last k (notes x) _ o in (
        m,
        narrow k x c m (quiet_first k (notes x) _ o) r g.0,
        items_narrow (directed k directives x) (directs_on directives x) xs m d (λ b. q (sym (strict_module (directives && is_use_strict x) k) ∙ b)) rs
            (subst (λ b. all_supported_in b (trees xs) ≡ true) (sym (strict_module (directives && is_use_strict x) k)) g.1),
      )

  -- and where one of them begins with `await` is as it was
  items_await_as : (k : Code) (directives : Bool) (xs : List Tree) (c d : Place) (o : Quiet k (all_notes (trees xs))) (r : ItemsRule (Reads n) k directives at xs c d)
      (h : all_supported_in k.flags.module (trees xs) ≡ true) → small_items_await Item k directives xs c d (items_narrow k directives xs c d o r h) ≡ programs.items_await (Reads n) k directives at xs c d r
  unfolding items_narrow
  items_await_as k directives [] c d o r h = refl
  items_await_as k directives (x ∷ xs) c d o (m, r, rs) h = ap (λ b. sees kind.Await c || b) (items_await_as (directed k directives x) (directs_on directives x) xs m d _ rs _)

module _ (n : ℕ) (narrow : (k : Code) (at : Position) (x : Tree) (c d : Place) → Quiet k (notes x) → Reads n (stmt_goal k at x c d) → supported_in k.flags.module x ≡ true → ReadsStmt n k at x c d) where
  nested_narrow : (k : Code) (directives : Bool) (xs : List Tree) (c d : Place) → Quiet k (all_notes (trees xs)) → ItemsRule (Reads n) k directives nested_item xs c d
      → all_supported_in k.flags.module (trees xs) ≡ true → ReadsItems (λ j. ReadsStmt n j nested_item) k directives xs c d
  nested_narrow = items_narrow n nested_item (λ j. ReadsStmt n j nested_item) (λ k x c d q r h. narrow k nested_item x c d q r h)

  head_narrows : {k : Code} {x : Tree} {c d : Place} → statements.HeadRule (Reads n) k x c d → supported_in k.flags.module x ≡ true → ReadsHead (ReadsClass n) k x c d
  head_narrows r h = record { close = r.close; opens = r.opens; reads = (r.reads, h); closes = r.closes; next = r.next }

  pub braced_narrows : (directives : Bool) {k : Code} {x : Tree} {c d : Place} → Quiet k (notes x) → BlockRule (Reads n) k directives x c d → supported_in k.flags.module x ≡ true → ReadsBraced (ReadsStmt n) directives k x c d
  braced_narrows directives {k = k} {x = x} {c = c} {d = d} o r h = record {
    items = r.items;
    close = r.close;
    opens = r.opens;
    reads_items = nested_narrow k directives r.items (after c) r.close (quiet_as k x (tree.block (spanned c d) (listed r.items)) r.is o) r.reads_items (supported_as _ x (tree.block (spanned c d) (listed r.items)) r.is h);
    closes = r.closes;
    next = r.next;
    is = r.is;
  }

  block_narrows : {k : Code} {x : Tree} {c d : Place} → Quiet k (notes x) → BlockRule (Reads n) k false x c d → supported_in k.flags.module x ≡ true → ReadsBlock (ReadsStmt n) k x c d
  block_narrows o r h = braced_narrows false o r h

  -- Clauses with a `default` before them or without: where one is, none is behind it.
  abbrev Defaults : Bool → List Tree → Type 0
  Defaults true xs = list_any is_default xs ≡ false
  Defaults false xs = at_most_one_default xs ≡ true

  behind_case : (b : Bool) (x : Tree) (xs : List Tree) (j : Bool) → is_default x ≡ false → j ≡ false → Defaults b (x ∷ xs) → Defaults (b || j) xs
  behind_case true x xs j i e h = or_right (is_default x) _ h
  behind_case false x xs true i e h = cc
  behind_case false x xs false i e h = sym (ap (λ b. cond b (not (list_any is_default xs)) (at_most_one_default xs)) i) ∙ h

  behind_default : (b : Bool) (x : Tree) (xs : List Tree) (j : Bool) → is_default x ≡ true → j ≡ true → Defaults b (x ∷ xs) → (b ≡ false) × Defaults (b || j) xs
  behind_default true x xs j i e h = absurd (true≢false (sym i ∙ or_left (is_default x) _ h))
  behind_default false x xs false i e h = cc
  behind_default false x xs true i e h = (refl, no_not (list_any is_default xs) (sym (ap (λ b. cond b (not (list_any is_default xs)) (at_most_one_default xs)) i) ∙ h))
    where
      no_not : (b : Bool) → not b ≡ true → b ≡ false
      no_not true e = cc
      no_not false e = refl

  cases_narrow : (k : Code) (b : Bool) (xs : List Tree) (c d : Place) → Quiet k (all_notes (trees xs)) → ReadsEach (statements.CaseRule (Reads n) k) xs c d → Defaults b xs
      → all_supported_in k.flags.module (trees xs) ≡ true → ReadsCases (ReadsStmt n) (ReadsClass n) k b xs c d
  unfolding same_kind
  cases_narrow k b [] c d o r h g = r
  cases_narrow k b (x ∷ xs) c d o (m, statements.case_clause_rule test ys i a r j s e, rs) h g =
      let f = and_yes (supported_in k.flags.module x) _ g in
      let l = and_yes (supported_in k.flags.module test) _ (supported_as _ x (tree.case (spanned c m) test (listed ys)) e f.0) in
      let q = quiet_as k x (tree.case (spanned c m) test (listed ys)) e (quiet_first k (notes x) _ o) in (
        m,
        case_clause_rule test ys i a (r, l.0) j (nested_narrow k false ys (after i) m (quiet_last k (notes test) _ q) s l.1) e,
        cases_narrow k (b || sees kind.Default c) xs m d (quiet_last k (notes x) _ o) rs (behind_case b x xs (sees kind.Default c) (ap is_default e ∙ stands_there n (with_in k) test (after c) i r) (ap (λ j. same_kind j kind.Default) a) h) f.1,
      )
  cases_narrow k b (x ∷ xs) c d o (m, statements.default_clause_rule ys a j s e, rs) h g =
      let f = and_yes (supported_in k.flags.module x) _ g in
      let l = supported_as _ x (tree.case (spanned c m) tree.absent (listed ys)) e f.0 in
      let v = behind_default b x xs (sees kind.Default c) (ap is_default e) (ap (λ j. same_kind j kind.Default) a) h in
      let q = quiet_as k x (tree.case (spanned c m) tree.absent (listed ys)) e (quiet_first k (notes x) _ o) in (
        m,
        default_clause_rule ys v.0 a j (nested_narrow k false ys (after (after c)) m q s l) e,
        cases_narrow k (b || sees kind.Default c) xs m d (quiet_last k (notes x) _ o) rs v.1 f.1,
      )

  catch_narrows : {k : Code} {x : Tree} {c d : Place} → Quiet k (notes x) → statements.CatchRule (Reads n) k x c d → supported_in k.flags.module x ≡ true → SmallCatchRule (ReadsStmt n) (ReadsPat n) k x c d
  catch_narrows o (statements.no_catch_rule i j e) h = no_catch_rule i j e
  catch_narrows {k = k} {x = x} {c = c} {d = d} o (statements.catch_rule body i r e) h =
      catch_rule body i (block_narrows (quiet_as k x (tree.catch (spanned c d) tree.absent body) e o) r (supported_as _ x (tree.catch (spanned c d) tree.absent body) e h)) e
  catch_narrows {k = k} {x = x} {c = c} {d = d} o (statements.catch_parameter_rule p body m i j r l s e) h =
      let g = and_yes (supported_in k.flags.module p) _ (supported_as _ x (tree.catch (spanned c d) p body) e h) in
      let q = quiet_last k (notes p) (notes body) (quiet_as k x (tree.catch (spanned c d) p body) e o) in
      catch_parameter_rule p body m i j (r, g.0) l (block_narrows q s g.1) e

  finally_narrows : {k : Code} {x : Tree} {c d : Place} → Quiet k (notes x) → statements.FinallyRule (Reads n) k x c d → supported_in k.flags.module x ≡ true → SmallFinallyRule (ReadsStmt n) k x c d
  finally_narrows o (statements.no_finally_rule i j e) h = no_finally_rule i j e
  finally_narrows o (statements.finally_rule i r) h = finally_rule i (block_narrows o r h)

  mutual
    if_narrows : {k : Code} {x : Tree} {c d : Place} → Quiet k (notes x) → statements.IfRule (Reads n) k x c d → supported_in k.flags.module x ≡ true → SmallIfRule (ReadsStmt n) (ReadsClass n) k x c d
    if_narrows {k = k} {x = x} {c = c} {d = d} o (statements.if_rule test cons alt m i j r s t e) h =
        let g = and_yes (supported_in k.flags.module test) _ (supported_as _ x (tree.if_stmt (spanned c d) test cons alt) e h) in
        let f = and_yes (supported_in k.flags.module cons) _ g.1 in
        let q = quiet_as k x (tree.if_stmt (spanned c d) test cons alt) e o in
        if_rule test cons alt m i j (head_narrows r g.0) (narrow k sub_statement cons m i (quiet_last k (notes test) (notes cons) (quiet_first k (notes test ++ notes cons) (notes alt) q)) s f.0)
        (else_narrows (quiet_last k (notes test ++ notes cons) (notes alt) q) t f.1) e

    else_narrows : {k : Code} {x : Tree} {c d : Place} → Quiet k (notes x) → statements.ElseRule (Reads n) k x c d → supported_in k.flags.module x ≡ true → SmallElseRule (ReadsStmt n) (ReadsClass n) k x c d
    else_narrows o (statements.no_else_rule i j e) h = no_else_rule i j e
    else_narrows {k = k} {x = x} {c = c} {d = d} o (statements.else_rule i j s) h = else_rule i j (narrow k sub_statement x (after c) d o s h)
    else_narrows o (statements.else_if_rule i r) h = else_if_rule i (if_narrows o r h)

  -- a function without its decorators
  bare_function : (k : Code) (x : Tree) (c d : Place) (w g : Bool) (text : Text) (sp : Span) (ps : List Tree) (body : Tree) (word behind_word behind_name : Place)
      → AsyncWord w c word → kind_at word ≡ kind.Function → Star g (after word) behind_word → (r : ReadsName k text sp behind_word behind_name)
      → functions.FunctionParts (Reads n) k w g ps body behind_name d → supported_in k.flags.module (parameters ps) && supported_in k.flags.module body ≡ true → Quiet k (notes body)
      → x ≡ tree.fn_decl (tree.ident sp text) (tree.function (spanned c d) (listed []) (parameters ps) body w g) → ReadsFunction (ReadsStmt n) (ReadsParams n) k x c d
  bare_function k x c d w g text sp ps body word bw bn a f s r p h q e =
      let u = and_yes (supported_in k.flags.module (parameters ps)) _ h in record {
        is_async = w;
        is_generator = g;
        name = r.word;
        name_span = sp;
        patterns = ps;
        body = body;
        word = word;
        behind_word = bw;
        behind_name = bn;
        middle = p.middle;
        reads_async = a;
        is_function = f;
        reads_star = s;
        reads_name = r.reads_word;
        is_named = name_is_name k text sp bw bn r;
        reads_parameters = (p.reads_parameters, sym (parameters_same k.flags.module ps) ∙ u.0);
        reads_body = braced_narrows true q p.reads_body u.1;
        is = e ∙ ap (λ b. tree.fn_decl (tree.ident sp b) (tree.function (spanned c d) (listed []) (parameters ps) body w g)) r.is_text;
      }

  abbrev Narrowed : Code → Position → Tree → Place → Place → Type 0
  Narrowed k at x c d = EitherRule (SmallStmtRule (ReadsStmt n) (ReadsClass n) (ReadsPat n) (ReadsTarget n) (ReadsParams n) (ReadsNamedClass n) k at x c d)
      (SmallDecoratedRule (ReadsDecorators n) (ReadsDeclared n) k at x c d)

  -- with a name, and behind decorators or none
  function_narrows : (k : Code) (at : Position) (a name x y : Tree) (c m d : Place) → Quiet k (notes y) → classes.DecoratorsRule (Reads n) k a c m → at.include_decl || is_async_function m ≡ true
      → (s : functions.FunctionRule (Reads n) false k a name y m d) → parts.OptionalName k name s.behind_word s.behind_name → is_absent name ≡ false → supported_in k.flags.module y ≡ true
      → x ≡ tree.fn_decl name y → Narrowed k at x c d
  function_narrows k at a name x y c m d o v i s (parts.no_name j u) b t e = absurd (true≢false (sym (ap is_absent u) ∙ b))
  function_narrows k at a name x y c m d o v i s (parts.a_name text sp r u) b t e =
      let g = and_yes (supported_in k.flags.module a) _ (supported_as _ y (tree.function (spanned m d) a (parameters s.patterns) s.body s.is_async s.is_generator) s.is t) in
      let bare = tree.fn_decl (tree.ident sp text) (tree.function (spanned m d) (listed []) (parameters s.patterns) s.body s.is_async s.is_generator) in
      let q = quiet_last k (notes a ++ notes (parameters s.patterns)) (notes s.body) (quiet_as k y (tree.function (spanned m d) a (parameters s.patterns) s.body s.is_async s.is_generator) s.is o) in
      behind v g.0 (bare_function k bare m d s.is_async s.is_generator text sp s.patterns s.body s.word s.behind_word s.behind_name s.reads_async s.is_function s.reads_star r s.reads_parts g.1 q refl)
      (e ∙ ap (λ z. tree.fn_decl z y) u ∙ ap (tree.fn_decl (tree.ident sp text)) s.is)
    where
      behind : classes.DecoratorsRule (Reads n) k a c m → supported_in k.flags.module a ≡ true
          → ReadsFunction (ReadsStmt n) (ReadsParams n) k (tree.fn_decl (tree.ident sp text) (tree.function (spanned m d) (listed []) (parameters s.patterns) s.body s.is_async s.is_generator)) m d
          → x ≡ tree.fn_decl (tree.ident sp text) (tree.function (spanned m d) a (parameters s.patterns) s.body s.is_async s.is_generator) → Narrowed k at x c d
      behind (classes.no_decorators g l) h f j = plain_statement (function_rule (subst (λ z. at.include_decl || is_async_function z ≡ true) g i)
          (subst (λ z. ReadsFunction (ReadsStmt n) (ReadsParams n) k x z d) g
          (subst (λ z. ReadsFunction (ReadsStmt n) (ReadsParams n) k z m d)
          (sym (j ∙ ap (λ z. tree.fn_decl (tree.ident sp text) (tree.function (spanned m d) z (parameters s.patterns) s.body s.is_async s.is_generator)) l)) f)))
      behind (classes.some_decorators z zs w q l) h f j = decorated_statement (record {
        first = z;
        others = zs;
        bare = tree.fn_decl (tree.ident sp text) (tree.function (spanned m d) (listed []) (parameters s.patterns) s.body s.is_async s.is_generator);
        middle = m;
        reads_decorators = (classes.some_decorators z zs w q refl, sym (ap (supported_in k.flags.module) l) ∙ h);
        reads_bare = declared_function i f;
        is = j ∙ ap (λ z. tree.fn_decl (tree.ident sp text) (tree.function (spanned m d) z (parameters s.patterns) s.body s.is_async s.is_generator)) l;
      })

  -- of four, the second apart from the others
  second_apart : (a b c d : Bool) → a && (b && (c && d)) ≡ true → (b ≡ true) × (a && (c && d) ≡ true)
  second_apart true true c d h = (refl, h)
  second_apart true false c d h = cc
  second_apart false b c d h = cc

  -- a class behind decorators or none
  class_narrows : (k : Code) (at : Position) (a name x y : Tree) (c m d : Place) → classes.DecoratorsRule (Reads n) k a c m → at.include_decl ≡ true → classes.ClassRule (Reads n) k c a name y m d
      → is_absent name ≡ false → x ≡ tree.class_decl name y → supported_in k.flags.module x ≡ true → Narrowed k at x c d
  unfolding spanned
  class_narrows k at a name x y c m d (classes.some_decorators z zs v r l) i s b e h =
      let whole = tree.class (spanned c d) a (listed s.members) s.heritage in
      let bare = tree.class (spanned m d) (listed []) (listed s.members) s.heritage in
      let e' : x ≡ tree.class_decl name whole = e ∙ ap (tree.class_decl name) s.is in
      let g = second_apart (supported_in k.flags.module name) (supported_in k.flags.module a) (supported_in k.flags.module s.heritage) (all_supported_in k.flags.module (trees s.members))
      (supported_as k.flags.module x (tree.class_decl name whole) e' h) in
      decorated_statement (record {
        first = z;
        others = zs;
        bare = tree.class_decl name bare;
        middle = m;
        reads_decorators = (classes.some_decorators z zs v r refl, sym (ap (supported_in k.flags.module) l) ∙ g.0);
        reads_bare = declared_class name bare i (
          record {
            heritage = s.heritage;
            members = s.members;
            behind_name = s.behind_name;
            opening = s.opening;
            close = s.close;
            is_class = s.is_class;
            reads_name = s.reads_name;
            reads_heritage = s.reads_heritage;
            opens = s.opens;
            reads_members = s.reads_members;
            closes = s.closes;
            next = s.next;
            is = refl;
          },
          g.1,
        ) b refl;
        is = e' ∙ ap (λ z. tree.class_decl name (tree.class (spanned c d) z (listed s.members) s.heritage)) l;
      })
  class_narrows k at a name x y c m d (classes.no_decorators g l) i s b e h = plain_statement (class_rule name y i
      (subst (λ p. classes.ClassRule (Reads n) k c (listed []) name y p d) g (subst (λ z. classes.ClassRule (Reads n) k c z name y m d) l s), supported_as _ x (tree.class_decl name y) e h) b e)

  -- what a form narrows to: a class or a function has decorators or none
  abbrev FormNarrowed : (k : Code) (at : Position) (x : Tree) (c d : Place) → statements.FormRule (Reads n) k at x c d → Type 0
  FormNarrowed k at x c d (statements.class_rule a name y m i r s b e) = Narrowed k at x c d
  FormNarrowed k at x c d (statements.function_rule a name y m r i s b e) = Narrowed k at x c d
  FormNarrowed k at x c d _ = SmallStmtRule (ReadsStmt n) (ReadsClass n) (ReadsPat n) (ReadsTarget n) (ReadsParams n) (ReadsNamedClass n) k at x c d

  form_narrows : (k : Code) (at : Position) (x : Tree) (c d : Place) → Quiet k (notes x) → (r : statements.FormRule (Reads n) k at x c d) → supported_in k.flags.module x ≡ true
      → FormNarrowed k at x c d r
  form_narrows k at x c d o (statements.class_rule a name y m i r s b e) h = class_narrows k at a name x y c m d r i s b e h
  form_narrows k at x c d o (statements.function_rule a name y m r i s b e) h =
      let g = and_yes (supported_in k.flags.module name) _ (supported_as _ x (tree.fn_decl name y) e h) in
      let q = quiet_last k (notes name) (notes y) (quiet_as k x (tree.fn_decl name y) e o) in
      function_narrows k at a name x y c m d q r i s s.reads_name b g.1 e
  form_narrows k at x c d o (statements.variables_rule word xs m i (b, r) g e) h =
      variables_rule word xs m i b (declarators_narrow n (with_in k) false word xs (after c) m r (supported_as _ x (tree.var (spanned c d) word (listed xs)) e h)) g e
  form_narrows k at x c d o (statements.using_rule r) h = using_narrows n k at x c d r h
  form_narrows k at x c d o (statements.block_rule r) h = block_rule (block_narrows o r h)
  form_narrows k at x c d o (statements.empty_rule i n e) h = empty_rule i n e
  form_narrows k at x c d o (statements.debugger_rule i g e) h = debugger_rule i g e
  form_narrows k at x c d o (statements.with_rule y z m i r s e) h =
      let g = and_yes (supported_in k.flags.module y) _ (supported_as _ x (tree.with (spanned c d) y z) e h) in
      let q = no_with k.flags.module (with_note (spanned c d)) (notes y ++ notes z) (quiet_as k x (tree.with (spanned c d) y z) e o) in
      with_rule y z m i q (head_narrows r g.0) (narrow (in_with k) sub_statement z m d (λ a. absurd (true≢false (sym a ∙ q))) s g.1) e
  form_narrows k at x c d o (statements.return_rule y m i r g e) h = return_rule y m i (operand_narrows n r (supported_as _ x (tree.return (spanned c d) y) e h)) g e
  form_narrows k at x c d o (statements.labeled_rule text s y m r i t e) h =
      let g = and_yes (supported_in k.flags.module (tree.ident s text)) _ (supported_as _ x (tree.labeled (spanned c d) (tree.ident s text) y) e h) in
      labeled_rule r.word s y m r.reads_word (name_is_name k text s c m r) i (narrow (in_breakable k) (labelled_item (after m)) y (after m) d (quiet_as k x (tree.labeled (spanned c d) (tree.ident s text) y) e o) t g.1)
      (e ∙ ap (λ v. tree.labeled (spanned c d) (tree.ident s v) y) r.is_text)
  form_narrows k at x c d o (statements.break_rule y m i r g e) h = break_rule y m i (target_narrows r (supported_as _ x (tree.break (spanned c d) y) e h)) g e
  form_narrows k at x c d o (statements.continue_rule y m i r g e) h = continue_rule y m i (target_narrows r (supported_as _ x (tree.continue (spanned c d) y) e h)) g e
  form_narrows k at x c d o (statements.if_statement_rule r) h = if_statement_rule (if_narrows o r h)
  form_narrows k at x c d o (statements.switch_rule y xs m l i r j s a b t e) h =
      let g = and_yes (supported_in k.flags.module y) _ (supported_as _ x (tree.switch (spanned c d) y (listed xs)) e h) in
      switch_rule y xs m l i (head_narrows r g.0) j (cases_narrow (in_breakable k) false xs (after m) l (quiet_last k (notes y) _ (quiet_as k x (tree.switch (spanned c d) y (listed xs)) e o)) s a g.1) b t e
  form_narrows k at x c d o (statements.throw_rule y m i b r g e) h = throw_rule y m i b (r, supported_as _ x (tree.throw (spanned c d) y) e h) g e
  form_narrows k at x c d o (statements.try_rule y z w m l i r s t a e) h =
      let g = and_yes (supported_in k.flags.module y) _ (supported_as _ x (tree.try (spanned c d) y z w) e h) in
      let f = and_yes (supported_in k.flags.module z) _ g.1 in
      let q = quiet_as k x (tree.try (spanned c d) y z w) e o in
      let b = quiet_first k (notes y ++ notes z) (notes w) q in
      try_rule y z w m l i (block_narrows (quiet_first k (notes y) (notes z) b) r g.0) (catch_narrows (quiet_last k (notes y) (notes z) b) s f.0)
      (finally_narrows (quiet_last k (notes y ++ notes z) (notes w) q) t f.1) a e
  form_narrows k at x c d o (statements.while_rule y z m i r s e) h =
      let g = and_yes (supported_in k.flags.module y) _ (supported_as _ x (tree.while (spanned c d) y z) e h) in
      while_rule y z m i (head_narrows r g.0) (narrow (in_loop k) sub_statement z m d (quiet_last k (notes y) (notes z) (quiet_as k x (tree.while (spanned c d) y z) e o)) s g.1) e
  form_narrows k at x c d o (statements.do_while_rule y z m l i s j r t e) h =
      let g = and_yes (supported_in k.flags.module y) _ (supported_as _ x (tree.do_while (spanned c d) y z) e h) in
      do_while_rule y z m l i (narrow (in_loop k) sub_statement z (after c) m (quiet_first k (notes z) (notes y) (quiet_as k x (tree.do_while (spanned c d) y z) e o)) s g.1) j (head_narrows r g.0) t e
  form_narrows k at x c d o (statements.for_rule a b f y l m p i j r q s t u v w e) h =
      let g = and_yes (supported_in k.flags.module a) _ (supported_as _ x (tree.for (spanned c d) a b f y) e h) in
      let z = and_yes (supported_in k.flags.module b) _ g.1 in
      let r' = and_yes (supported_in k.flags.module f) _ z.1 in
      let o' = quiet_last k (notes a ++ notes b ++ notes f) (notes y) (quiet_as k x (tree.for (spanned c d) a b f y) e o) in
      for_rule a b f y l m p i j (init_narrows n r g.0) q (part_narrows n s z.0) t (part_narrows n u r'.0) v (narrow (in_loop k) sub_statement y (after p) d o' w r'.1) e
  form_narrows k at x c d o (statements.for_in_rule a b y l m i j r q s t u e) h =
      let g = and_yes (supported_in k.flags.module a) _ (supported_as _ x (tree.for_in (spanned c d) a b y) e h) in
      let f = and_yes (supported_in k.flags.module b) _ g.1 in
      let o' = quiet_last k (notes a ++ notes b) (notes y) (quiet_as k x (tree.for_in (spanned c d) a b y) e o) in
      for_in_rule a b y l m i j (left_narrows n r g.0) q (s, f.0) t (narrow (in_loop k) sub_statement y (after m) d o' u f.1) e
  form_narrows k at x c d o (statements.for_of_rule w a b y l m p i j q r t s u v e) h =
      let f = and_yes (supported_in k.flags.module a) _ (supported_as _ x (tree.for_of (spanned c d) w a b y) e h) in
      let f' = and_yes (supported_in k.flags.module b) _ f.1 in
      for_of_rule w a b y l m p i j q (of_left_narrows n w r f.0) t (s, f'.0) u
      (narrow (in_loop k) sub_statement y (after p) d (quiet_last k (notes a ++ notes b) (notes y) (quiet_as k x (tree.for_of (spanned c d) w a b y) e o)) v f'.1) e
  form_narrows k at x c d o (statements.expr_rule y m i r l g e) h =
      let q = quiet_last k (notes y) (statement_note y) (quiet_as k x (tree.expr_stmt (spanned c d) y) e o) in
      expr_rule y m i (r, supported_as _ x (tree.expr_stmt (spanned c d) y) e h) l (unnamed k.flags.module _ _ q) g e
  form_narrows k at x c d o (statements.import_expr_rule y m i r g e) h = import_rule y m i (r, supported_as _ x (tree.expr_stmt (spanned c d) y) e h) g e

  -- with decorators before a class or a function, or without
  either_narrows : (k : Code) (at : Position) (x : Tree) (c d : Place) → Quiet k (notes x) → statements.FormRule (Reads n) k at x c d → supported_in k.flags.module x ≡ true → Narrowed k at x c d
  either_narrows k at x c d o (statements.class_rule a name y m i r s b e) h = form_narrows k at x c d o (statements.class_rule a name y m i r s b e) h
  either_narrows k at x c d o (statements.function_rule a name y m r i s b e) h = form_narrows k at x c d o (statements.function_rule a name y m r i s b e) h
  either_narrows k at x c d o r h = plain_statement (form_narrows k at x c d o r h)

-- a statement that has no notes where the code is a module's
pub stmt_narrows : (n : ℕ) (k : Code) (at : Position) (x : Tree) (c d : Place) → Quiet k (notes x) → Reads n (stmt_goal k at x c d) → supported_in k.flags.module x ≡ true → ReadsStmt n k at x c d
stmt_narrows zero k at x c d o r h = absurd r
stmt_narrows (suc n) k at x c d o r h = either_narrows n (stmt_narrows n) k at x c d o r.1 h

-- one that stands in no other
pub top_narrows : (n : ℕ) (k : Code) (at : Position) (x : Tree) (c d : Place) → Quiet k (notes x) → Reads n (stmt_goal k at x c d) → supported_in k.flags.module x ≡ true → ReadsTop n k at x c d
top_narrows zero k at x c d o r h = absurd r
top_narrows (suc n) k at x c d o r h = (stmt_narrows (suc n) k at x c d o r h, r.0)

-- ---- scripts

shebang_narrows : (c d : Place) (o : Option Text) → programs.ShebangRule c d o → ReadsShebang c d o
shebang_narrows c d _ (programs.some_shebang text s r) = some_shebang text s r
shebang_narrows c d _ (programs.no_shebang h n) = no_shebang h n

-- a script is no module code
never_module : {X : Type 0} → false ≡ true → X
never_module e = cc

pub script_narrows : (n : ℕ) (k : Code) (x : Tree) (c d : Place) → ReadsEntry n programs.script k x c d → supported x ≡ true → ReadsScript n k x c d
script_narrows n k x c d (r, notes) h = record {
  shebang = r.shebang;
  first = r.first;
  reads_shebang = shebang_narrows c r.first r.shebang r.reads_shebang;
  items = r.items;
  reads_items = items_narrow n top_item (λ j. ReadsTop n j top_item) (λ j y a b q s g. top_narrows n j top_item y a b q s g) (script_code k) true r.items r.first d never_module r.reads_items
      (supported_as _ x (tree.script (whole_span c d) (listed r.items) r.shebang) r.is h);
  whole = r.to_the_end;
  is = r.is;
}

-- it makes a module of itself where the whole language says so
pub script_awaits_as : (n : ℕ) (k : Code) (x : Tree) (c d : Place) (r : ReadsEntry n programs.script k x c d) (h : supported x ≡ true)
    → small_script_awaits n k x c d (script_narrows n k x c d r h) ≡ programs.script_awaits n k x c d r
unfolding script_narrows
script_awaits_as n k x c d (r, notes) h = items_await_as n top_item (λ j. ReadsTop n j top_item) (λ j y a b q s g. top_narrows n j top_item y a b q s g) (script_code k) true r.items r.first d
    never_module r.reads_items (supported_as _ x (tree.script (whole_span c d) (listed r.items) r.shebang) r.is h)
