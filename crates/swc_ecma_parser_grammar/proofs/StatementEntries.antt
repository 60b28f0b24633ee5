-- What an entry reads for one statement: in module code too, where the rules of the first forms read nothing that is noted.
use Rattle.swc_ecma_parser_grammar.proofs.Tests.{and_yes}
use Rattle.swc_ecma_parser_grammar.specs.language.PatternItems.{PatternItemRule}
use Rattle.swc_ecma_parser_grammar.specs.language.Lists.{ReadsListed, ReadsSeparated}
use Rattle.swc_ecma_parser_grammar.specs.Parameters.{parameters}
use Rattle.std.proofs.Common.{◌≡◌, ℕ, zero, suc, Bool, true, false, true≢false, List, [], ◌∷◌, ◌++◌, refl, sym, ◌∙◌, ap}
use Rattle.std.specs.Prelude.{◌&&◌, ◌||◌, if◌then◌else◌}
use Rattle.swc_ecma_parser_error.specs.Kind.{Fault}
use Rattle.swc_ecma_parser_token.specs.declared.kind.TokenKind.TheVariants as kind
use Rattle.swc_ecma_parser_input.specs.Place.{Place, after}
use Rattle.swc_ecma_parser_model.specs.declared.leaves.VarDeclKind.{VarDeclKind}
use Rattle.swc_ecma_parser_model.specs.Tree as tree
use Rattle.swc_ecma_parser_model.specs.Tree.{Tree, trees, listed}
use Rattle.swc_ecma_parser_model.specs.Directive.{is_use_strict}
use Rattle.swc_ecma_parser_model.specs.Kinds.{is_module_decl}
use Rattle.swc_ecma_parser_grammar.specs.declared.position.Position.{Position}
use Rattle.swc_ecma_parser_grammar.specs.Looks.{sees, span_at}
use Rattle.swc_ecma_parser_grammar.specs.Names.{Code}
use Rattle.swc_ecma_parser_grammar.specs.Notes.{notes, all_notes, statement_note}
use Rattle.swc_ecma_parser_grammar.specs.scaffold.Reads.{SmallDeclaratorRule, plain_rule, initialized_rule, ReadsItems, SmallStmtRule, block_rule, empty_rule, debugger_rule, variables_rule, using_rule, if_statement_rule, SmallTargetRule, no_target_rule, target_rule, SmallReturnedRule, no_operand_rule, operand_rule, break_rule, continue_rule, return_rule, labeled_rule, HeadVariables, SmallInitRule, no_init_rule, init_variables_rule, init_expression_rule, SmallLeftRule, declared_rule, left_target_rule, for_in_rule, for_of_rule, SmallPartRule, no_part_rule, part_rule, for_rule, SmallCaseRule, case_clause_rule, default_clause_rule, ReadsCases, switch_rule, throw_rule, try_rule, with_rule, while_rule, do_while_rule, expr_rule, import_rule, ReadsBlock, SmallCatchRule, no_catch_rule, catch_rule, catch_parameter_rule, SmallFinallyRule, no_finally_rule, finally_rule, ReadsHead, SmallIfRule, if_rule, SmallElseRule, no_else_rule, else_rule, else_if_rule, ReadsBraced, ReadsFunction, class_rule, function_rule, SmallOfLeftRule, of_left_rule, of_using_rule, of_await_rule}
use Rattle.swc_ecma_parser_grammar.specs.scaffold.Decorated.{declared_class, declared_function, SmallDecoratedRule, EitherRule, plain_statement, decorated_statement}
use Rattle.swc_ecma_parser_grammar.specs.scaffold.Supported.{supported, supported_in, all_supported_in}
use Rattle.swc_ecma_parser_grammar.specs.scaffold.ReadsSupported.{ReadsClass, ReadsPat, ReadsTarget, ReadsStmt, ReadsTop, ReadsParams, ReadsNamedClass, ReadsDecorators, ReadsDeclared}
use Rattle.swc_ecma_parser_grammar.specs.language.Goals.{binding, assigning, expression, assignment, stmt_goal}
use Rattle.swc_ecma_parser_grammar.specs.language.Contexts.{in_module, in_loop, in_breakable, with_in, head_code}
use Rattle.swc_ecma_parser_grammar.specs.language.Items.{sub_statement, labelled_item, directed, directs_on, nested_item}
use Rattle.swc_ecma_parser_grammar.specs.language.Reads.{Reads}
use Rattle.swc_ecma_parser_grammar.specs.language.Programs.{is_module_program, is_module_code}
use Rattle.swc_ecma_parser_grammar.proofs.Unnoted.{joined, expr_unnoted, pattern_unnoted, import_unnoted, parameter_unnoted, class_unnoted, decorators_unnoted}
use Rattle.swc_ecma_parser_grammar.proofs.Decorated.{decorated_unnoted}
use Rattle.swc_ecma_parser_grammar.proofs.Widens.{top_widens, stmt_supported}
use Rattle.swc_ecma_parser_grammar.proofs.SupportedIn.{strict_module, head_module, lower, lift_in}
use Rattle.swc_ecma_parser_grammar.proofs.Narrows.{top_narrows}

-- ---- parts

declarator_unnoted : (n : ℕ) (k : Code) (loop : Bool) (word : VarDeclKind) (x : Tree) (c d : Place) → k.flags.module ≡ true → SmallDeclaratorRule (ReadsClass n assignment) (ReadsPat n) k loop word x c d → notes x ≡ []
declarator_unnoted n k loop word x c d o (plain_rule p r h b e) = ap notes e ∙ joined (notes p) [] (pattern_unnoted n binding (with_in k) p c d o r.0 r.1) refl
declarator_unnoted n k loop word x c d o (initialized_rule p y m r h s e) =
    ap notes e ∙ joined (notes p) (notes y) (pattern_unnoted n binding (with_in k) p c m o r.0 r.1) (expr_unnoted n assignment k y (after m) d o s.0 s.1)

declarators_unnoted : (n : ℕ) (k : Code) (loop : Bool) (word : VarDeclKind) (xs : List Tree) (c d : Place)
    → k.flags.module ≡ true → ReadsSeparated (SmallDeclaratorRule (ReadsClass n assignment) (ReadsPat n) k loop word) xs c d → all_notes (trees xs) ≡ []
declarators_unnoted n k loop word [] c d o r = refl
declarators_unnoted n k loop word (x ∷ []) c d o (r, e) = joined (notes x) [] (declarator_unnoted n k loop word x c d o r) refl
declarators_unnoted n k loop word (x ∷ y ∷ ys) c d o (m, r, e, rs) =
    joined (notes x) _ (declarator_unnoted n k loop word x c m o r) (declarators_unnoted n k loop word (y ∷ ys) (after m) d o rs)

target_unnoted : {k : Code} {x : Tree} {c d : Place} → SmallTargetRule k x c d → notes x ≡ []
target_unnoted (no_target_rule h g e) = ap notes e
target_unnoted (target_rule w s h r f e) = ap notes e

operand_unnoted : (n : ℕ) {k : Code} {x : Tree} {c d : Place} → k.flags.module ≡ true → SmallReturnedRule (ReadsClass n) k x c d → notes x ≡ []
operand_unnoted n o (no_operand_rule h g e) = ap notes e
operand_unnoted n {k = k} {x = x} {c = c} {d = d} o (operand_rule h r) = expr_unnoted n expression (with_in k) x c d o r.0 r.1

head_variables_unnoted : (n : ℕ) {k : Code} {x : Tree} {c d : Place} → k.flags.module ≡ true → HeadVariables (ReadsClass n) (ReadsPat n) k x c d → notes x ≡ []
head_variables_unnoted n {k = k} {c = c} {d = d} o r = ap notes r.is ∙ declarators_unnoted n (head_code r.word k) true r.word r.declarators (after c) d (head_module r.word k ∙ o) r.reads

init_unnoted : (n : ℕ) {k : Code} {x : Tree} {c d : Place} → k.flags.module ≡ true → SmallInitRule (ReadsClass n) (ReadsPat n) k x c d → notes x ≡ []
init_unnoted n o (no_init_rule h g e) = ap notes e
init_unnoted n o (init_variables_rule r) = head_variables_unnoted n o r
init_unnoted n {x = x} {c = c} {d = d} o (init_expression_rule h r) = expr_unnoted n expression _ x c d o r.0 r.1

left_unnoted : (n : ℕ) {k : Code} {x : Tree} {c d : Place} → k.flags.module ≡ true → SmallLeftRule (ReadsClass n) (ReadsPat n) (ReadsTarget n) k x c d → notes x ≡ []
left_unnoted n o (declared_rule r) = head_variables_unnoted n o r
left_unnoted n {x = x} {c = c} {d = d} o (left_target_rule h r) = pattern_unnoted n assigning _ x c d o r.0 r.1

of_left_unnoted : (n : ℕ) {w : Bool} {k : Code} {x : Tree} {c d : Place} → k.flags.module ≡ true → SmallOfLeftRule (ReadsClass n) (ReadsPat n) (ReadsTarget n) k w x c d → notes x ≡ []
of_left_unnoted n o (of_left_rule r i) = left_unnoted n o r
of_left_unnoted n {k = k} {c = c} {d = d} o (of_using_rule name h r i e) = ap notes e ∙ rw (pattern_unnoted n binding k name (after c) d o r.0 r.1) refl
of_left_unnoted n {k = k} {d = d} o (of_await_rule y name m s r u l w h q i e) = ap notes e ∙ rw (pattern_unnoted n binding k name m d o q.0 q.1) refl

part_unnoted : (n : ℕ) {k : Code} {x : Tree} {c d : Place} → k.flags.module ≡ true → SmallPartRule (ReadsClass n) k x c d → notes x ≡ []
part_unnoted n o (no_part_rule g e) = ap notes e
part_unnoted n {k = k} {x = x} {c = c} {d = d} o (part_rule r) = expr_unnoted n expression (with_in k) x c d o r.0 r.1

head_unnoted : (n : ℕ) {k : Code} {x : Tree} {c d : Place} → k.flags.module ≡ true → ReadsHead (ReadsClass n) k x c d → notes x ≡ []
head_unnoted n {k = k} {x = x} {c = c} o r = expr_unnoted n expression (with_in k) x (after c) r.close o r.reads.0 r.reads.1

patterns_unnoted : (n : ℕ) (k : Code) (ps : List Tree) (c d : Place) → k.flags.module ≡ true → ReadsListed true (PatternItemRule (Reads n) binding k) ps c d → all_supported_in k.flags.module (trees ps) ≡ true → notes (parameters ps) ≡ []
patterns_unnoted n k [] c d o r h = refl
patterns_unnoted n k (x ∷ []) c d o (m, r, l) h = joined (notes x) [] (parameter_unnoted n k x c m o r (and_yes (supported_in k.flags.module x) _ h).0) refl
patterns_unnoted n k (x ∷ y ∷ ys) c d o (m, r, b, e, rs) h =
    let g = and_yes (supported_in k.flags.module x) _ h in joined (notes x) _ (parameter_unnoted n k x c m o r g.0) (patterns_unnoted n k (y ∷ ys) (after m) d o rs g.1)

pub params_unnoted : (n : ℕ) {k : Code} (ps : List Tree) {c d : Place} → k.flags.module ≡ true → ReadsParams n k ps c d → notes (parameters ps) ≡ []
params_unnoted n {k = k} ps {c = c} o r = patterns_unnoted n (with_in k) ps (after c) r.0.close o r.0.reads_patterns r.1

-- ---- statements of module code

-- an expression that is a statement of it is no bare name `interface`
bare_unnoted : (m b : Bool) (f : Fault) → m && b ≡ false → m ≡ true → (if b then f ∷ [] else []) ≡ []
bare_unnoted true true f h e = cc
bare_unnoted true false f h e = refl
bare_unnoted false b f h e = cc

module _ (n : ℕ) (small : (k : Code) (at : Position) (x : Tree) (c d : Place) → k.flags.module ≡ true → ReadsStmt n k at x c d → notes x ≡ []) where
  items_unnoted : (k : Code) (directives : Bool) (at : Position) (xs : List Tree) (c d : Place) → k.flags.module ≡ true → ReadsItems (λ j. ReadsStmt n j at) k directives xs c d
      → all_notes (trees xs) ≡ []
  items_unnoted k directives at [] c d o r = refl
  items_unnoted k directives at (x ∷ xs) c d o (m, r, rs) =
      joined (notes x) _ (small k at x c m o r) (items_unnoted (directed k directives x) (directs_on directives x) at xs m d (strict_module (directives && is_use_strict x) k ∙ o) rs)

  pub braced_unnoted : (directives : Bool) {k : Code} {x : Tree} {c d : Place} → k.flags.module ≡ true → ReadsBraced (ReadsStmt n) directives k x c d → notes x ≡ []
  braced_unnoted directives {k = k} {c = c} o r = ap notes r.is ∙ items_unnoted k directives nested_item r.items (after c) r.close o r.reads_items

  block_unnoted : {k : Code} {x : Tree} {c d : Place} → k.flags.module ≡ true → ReadsBlock (ReadsStmt n) k x c d → notes x ≡ []
  block_unnoted o r = braced_unnoted false o r

  case_unnoted : {k : Code} {b : Bool} {x : Tree} {c d : Place} → k.flags.module ≡ true → SmallCaseRule (ReadsStmt n) (ReadsClass n) k b x c d → notes x ≡ []
  case_unnoted {k = k} {c = c} {d = d} o (case_clause_rule test xs m h r i s e) =
      ap notes e ∙ joined (notes test) _ (expr_unnoted n expression (with_in k) test (after c) m o r.0 r.1) (items_unnoted k false nested_item xs (after m) d o s)
  case_unnoted {k = k} {c = c} {d = d} o (default_clause_rule xs l h i s e) = ap notes e ∙ items_unnoted k false nested_item xs (after (after c)) d o s

  cases_unnoted : (k : Code) (b : Bool) (xs : List Tree) (c d : Place) → k.flags.module ≡ true → ReadsCases (ReadsStmt n) (ReadsClass n) k b xs c d → all_notes (trees xs) ≡ []
  cases_unnoted k b [] c d o h = refl
  cases_unnoted k b (x ∷ xs) c d o (m, r, rs) = joined (notes x) _ (case_unnoted o r) (cases_unnoted k (b || sees kind.Default c) xs m d o rs)

  catch_unnoted : {k : Code} {x : Tree} {c d : Place} → k.flags.module ≡ true → SmallCatchRule (ReadsStmt n) (ReadsPat n) k x c d → notes x ≡ []
  catch_unnoted o (no_catch_rule h i e) = ap notes e
  catch_unnoted o (catch_rule body h r e) = ap notes e ∙ block_unnoted o r
  catch_unnoted {c = c} o (catch_parameter_rule p body m h i r j s e) =
      ap notes e ∙ joined (notes p) (notes body) (pattern_unnoted n binding _ p (after (after c)) m o r.0 r.1) (block_unnoted o s)

  finally_unnoted : {k : Code} {x : Tree} {c d : Place} → k.flags.module ≡ true → SmallFinallyRule (ReadsStmt n) k x c d → notes x ≡ []
  finally_unnoted o (no_finally_rule h i e) = ap notes e
  finally_unnoted o (finally_rule h r) = block_unnoted o r

  mutual
    if_unnoted : {k : Code} {x : Tree} {c d : Place} → k.flags.module ≡ true → SmallIfRule (ReadsStmt n) (ReadsClass n) k x c d → notes x ≡ []
    if_unnoted {k = k} o (if_rule test cons alt m i h r s t e) =
        ap notes e ∙ joined (notes test ++ notes cons) (notes alt) (joined (notes test) (notes cons) (head_unnoted n o r) (small k sub_statement cons m i o s)) (else_unnoted o t)

    else_unnoted : {k : Code} {x : Tree} {c d : Place} → k.flags.module ≡ true → SmallElseRule (ReadsStmt n) (ReadsClass n) k x c d → notes x ≡ []
    else_unnoted o (no_else_rule h i e) = ap notes e
    else_unnoted {k = k} {x = x} {c = c} {d = d} o (else_rule h i s) = small k sub_statement x (after c) d o s
    else_unnoted o (else_if_rule h r) = if_unnoted o r

  function_unnoted : {k : Code} {x : Tree} {c d : Place} → k.flags.module ≡ true → ReadsFunction (ReadsStmt n) (ReadsParams n) k x c d → notes x ≡ []
  function_unnoted o r = ap notes r.is ∙ joined (notes (parameters r.patterns)) (notes r.body) (params_unnoted n r.patterns o r.reads_parameters) (braced_unnoted true o r.reads_body)

  rule_unnoted : (k : Code) (at : Position) (x : Tree) (c d : Place) → k.flags.module ≡ true → SmallStmtRule (ReadsStmt n) (ReadsClass n) (ReadsPat n) (ReadsTarget n) (ReadsParams n) (ReadsNamedClass n) k at x c d → notes x ≡ []
  rule_unnoted k at x c d o (class_rule name y a r b e) = ap notes e ∙ class_unnoted n k name y c d o r.0 r.1
  rule_unnoted k at x c d o (function_rule a r) = function_unnoted o r
  rule_unnoted k at x c d o (block_rule r) = block_unnoted o r
  rule_unnoted k at x c d o (empty_rule h g e) = ap notes e
  rule_unnoted k at x c d o (debugger_rule h g e) = ap notes e
  rule_unnoted k at x c d o (variables_rule word xs m a h r g e) = ap notes e ∙ declarators_unnoted n (with_in k) false word xs (after c) m o r
  rule_unnoted k at x c d o (using_rule v xs m i a w l b r f u e) = ap notes e ∙ declarators_unnoted n (with_in k) false _ xs (after m) i o r
  rule_unnoted k at x c d o (if_statement_rule r) = if_unnoted o r
  rule_unnoted k at x c d o (switch_rule y xs m i h r j s g t e) = ap notes e ∙ joined (notes y) _ (head_unnoted n o r) (cases_unnoted (in_breakable k) false xs (after m) i o s)
  rule_unnoted k at x c d o (labeled_rule w s y m r f h t e) = ap notes e ∙ small (in_breakable k) (labelled_item (after m)) y (after m) d o t
  rule_unnoted k at x c d o (break_rule y m h r g e) = ap notes e ∙ target_unnoted r
  rule_unnoted k at x c d o (continue_rule y m h r g e) = ap notes e ∙ target_unnoted r
  rule_unnoted k at x c d o (return_rule y m h r g e) = ap notes e ∙ operand_unnoted n o r
  rule_unnoted k at x c d o (for_rule a b f y l m i h g r j s p t q u e) =
      ap notes e ∙ joined (notes a ++ notes b ++ notes f) (notes y)
      (joined (notes a ++ notes b) (notes f) (joined (notes a) (notes b) (init_unnoted n o r) (part_unnoted n o s)) (part_unnoted n o t)) (small (in_loop k) sub_statement y (after i) d o u)
  rule_unnoted k at x c d o (for_in_rule a b y m i h g r j s p t e) =
      ap notes e ∙ joined (notes a ++ notes b) (notes y) (joined (notes a) (notes b) (left_unnoted n o r) (expr_unnoted n expression (with_in k) b (after m) i o s.0 s.1))
      (small (in_loop k) sub_statement y (after i) d o t)
  rule_unnoted k at x c d o (for_of_rule w a b y l m i h v g r j s p t e) =
      ap notes e ∙ joined (notes a ++ notes b) (notes y) (joined (notes a) (notes b) (of_left_unnoted n o r) (expr_unnoted n assignment (with_in k) b (after m) i o s.0 s.1))
      (small (in_loop k) sub_statement y (after i) d o t)
  rule_unnoted k at x c d o (throw_rule y m h b r g e) = ap notes e ∙ expr_unnoted n expression (with_in k) y (after c) m o r.0 r.1
  rule_unnoted k at x c d o (try_rule y z w m i h r s t a e) =
      ap notes e ∙ joined (notes y ++ notes z) (notes w) (joined (notes y) (notes z) (block_unnoted o r) (catch_unnoted o s)) (finally_unnoted o t)
  rule_unnoted k at x c d o (with_rule y z m h p r s e) = absurd (true≢false (sym o ∙ p))
  rule_unnoted k at x c d o (while_rule y z m h r s e) = ap notes e ∙ joined (notes y) (notes z) (head_unnoted n o r) (small (in_loop k) sub_statement z m d o s)
  rule_unnoted k at x c d o (do_while_rule y z m i h s j r g e) = ap notes e ∙ joined (notes z) (notes y) (small (in_loop k) sub_statement z (after c) m o s) (head_unnoted n o r)
  rule_unnoted k at x c d o (expr_rule y m h r a b g e) =
      ap notes e ∙ joined (notes y) (statement_note y) (expr_unnoted n expression (with_in k) y c m o r.0 r.1) (bare_unnoted k.flags.module _ _ b o)
  rule_unnoted k at x c d o (import_rule y m h r g e) =
      ap notes e ∙ joined (notes y) (statement_note y) (expr_unnoted n expression (with_in k) y c m o r.0 r.1) (import_unnoted n (with_in k) y c m r h)

  declared_unnoted : (k : Code) (at : Position) (x : Tree) (c d : Place) → k.flags.module ≡ true → ReadsDeclared n k at x c d → notes x ≡ []
  declared_unnoted k at x c d o (declared_class name y a r b e) = ap notes e ∙ class_unnoted n k name y c d o r.0 r.1
  declared_unnoted k at x c d o (declared_function a r) = function_unnoted o r

  -- behind decorators
  either_unnoted : (k : Code) (at : Position) (x : Tree) (c d : Place) → k.flags.module ≡ true → EitherRule (SmallStmtRule (ReadsStmt n) (ReadsClass n) (ReadsPat n) (ReadsTarget n) (ReadsParams n) (ReadsNamedClass n) k at x c d)
      (SmallDecoratedRule (ReadsDecorators n) (ReadsDeclared n) k at x c d) → notes x ≡ []
  either_unnoted k at x c d o (plain_statement r) = rule_unnoted k at x c d o r
  either_unnoted k at x c d o (decorated_statement r) = ap notes r.is ∙ decorated_unnoted (span_at c) (r.first ∷ r.others) r.bare
      (decorators_unnoted n k (listed (r.first ∷ r.others)) c r.middle o r.reads_decorators.0 r.reads_decorators.1) (declared_unnoted k at r.bare r.middle d o r.reads_bare)

pub stmt_unnoted : (n : ℕ) (k : Code) (at : Position) (x : Tree) (c d : Place) → k.flags.module ≡ true → ReadsStmt n k at x c d → notes x ≡ []
stmt_unnoted zero k at x c d o r = absurd r
stmt_unnoted (suc n) k at x c d o r = either_unnoted n (stmt_unnoted n) k at x c d o r

-- ---- what a statement is part of

-- no supported tree is an import or an export, and one that is a module is not supported
no_module_decl : (x : Tree) → supported x ≡ true → is_module_decl x ≡ false
no_module_decl (tree.import s specifiers src attributes phase) h = cc
no_module_decl (tree.export_decl s y) h = cc
no_module_decl (tree.export_named s specifiers src attributes) h = cc
no_module_decl (tree.export_default_decl s y) h = cc
no_module_decl (tree.export_default_expr s e) h = cc
no_module_decl (tree.export_all s src attributes) h = cc
no_module_decl _ h = refl

no_module_program : (x : Tree) → supported x ≡ true → is_module_program x ≡ false
no_module_program (tree.module_program s body shebang) h = cc
no_module_program _ h = refl

-- module code is that behind a statement too
stays_module : (k : Code) (x : Tree) → k.flags.module ≡ true → is_module_code k x ≡ true
stays_module k x o = by_form (is_module_decl x) (is_module_program x)
  where
    by_form : (b p : Bool) → (if b then in_module k else k).flags.module || p ≡ true
    by_form true p = refl
    by_form false p = rw o refl

-- and a statement that is supported makes none of it
was_module : (k : Code) (x : Tree) → supported x ≡ true → is_module_code k x ≡ true → k.flags.module ≡ true
was_module k x h e = by_form (is_module_decl x) (is_module_program x) (no_module_decl x h) (no_module_program x h) e
  where
    by_form : (b p : Bool) → b ≡ false → p ≡ false → (if b then in_module k else k).flags.module || p ≡ true → k.flags.module ≡ true
    by_form true p f g e = cc
    by_form false true f g e = cc
    by_form false false f g e = in_first k.flags.module e
      where
        in_first : (b : Bool) → b || false ≡ true → b ≡ true
        in_first true e = refl
        in_first false e = e

-- ---- the two laws, for what an entry asks for

abbrev pub ReadsStatement : ℕ → Code → Position → Tree → Place → Place → Type 0
ReadsStatement n k at x c d = Reads n (stmt_goal k at x c d) × (is_module_code k x ≡ true → notes x ≡ [])

pub statement_widens : (n : ℕ) (k : Code) (at : Position) (x : Tree) (c d : Place) → ReadsTop n k at x c d → ReadsStatement n k at x c d × (supported x ≡ true)
statement_widens n k at x c d r =
    let h = lower k.flags.module x (stmt_supported n k at x c d r.0) in
    ((top_widens n k at x c d r, λ e. stmt_unnoted n k at x c d (was_module k x h e) r.0), h)

pub statement_narrows : (n : ℕ) (k : Code) (at : Position) (x : Tree) (c d : Place) → ReadsStatement n k at x c d → supported x ≡ true → ReadsTop n k at x c d
statement_narrows n k at x c d r h = let q : k.flags.module ≡ true → notes x ≡ [] = λ o. r.1 (stays_module k x o) in top_narrows n k at x c d q r.0 (lift_in k.flags.module x h q)
