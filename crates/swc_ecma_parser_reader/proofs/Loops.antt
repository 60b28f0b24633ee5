-- The turns of the loops, and the levels, in the shapes that a loop over tokens and a recursion meet them.
use Rattle.std.proofs.Common.{◌≡◌, ℕ, ◌-◌, ◌<◌, Bool, true, false, List, [], ◌∷◌, ◌++◌, length, Ok, Err, refl, arith}
use Rattle.std.specs.Prelude.{◌||◌}
use Rattle.swc_ecma_parser_error.specs.Kind as faults
use Rattle.swc_ecma_parser_error.specs.Kind.{Fault}
use Rattle.swc_ecma_parser_token.specs.declared.kind.TokenKind.TheVariants as kind
use Rattle.swc_ecma_parser_input.specs.Place.{Place, after}
use Rattle.swc_ecma_parser_model.specs.declared.leaves.VarDeclKind.{VarDeclKind}
use Rattle.swc_ecma_parser_model.specs.Tree as tree
use Rattle.swc_ecma_parser_model.specs.Tree.{Tree}
use Rattle.swc_ecma_parser_grammar.specs.declared.position.Position.{Position}
use Rattle.swc_ecma_parser_grammar.specs.Looks.{sees}
use Rattle.swc_ecma_parser_grammar.specs.Names.{name_at}
use Rattle.swc_ecma_parser_grammar.specs.language.Items.{directed, directs_on, nested_item}
use Rattle.swc_ecma_parser_grammar.specs.language.Contexts.{named_by}
use Rattle.swc_ecma_parser_grammar.specs.language.Goals.{expression}
use Rattle.swc_ecma_parser_reader.specs.Members.{member_level}
use Rattle.swc_ecma_parser_reader.specs.State.{State, Reader, coded, moved, within, too_deep, fault, fault_at, loop}
use Rattle.swc_ecma_parser_reader.specs.Reader.{ends_declarators, missing_at, no_declarator, declarator, declarators_turn, directs, items_turn, begins_clause, Clauses, clause, clauses_turn, named, own_name, stmt, whole_stmt, expr, cover, pattern, decorated_in, member, parameters, plain_stmt}
use Rattle.swc_ecma_parser_reader.specs.DecoratedStatements.{either_stmt}
use Rattle.swc_ecma_parser_reader.proofs.Steps.{loop_more, loop_done, loop_err}
use Rattle.swc_ecma_parser_reader.proofs.Takes.{moves}
use Rattle.swc_ecma_parser_reader.proofs.Falls.{stmt_falls, whole_stmt_falls, expr_falls, pattern_falls}
use Rattle.swc_ecma_parser_reader.proofs.FallsDeclarations.{declarator_falls}
use Rattle.swc_ecma_parser_reader.proofs.FallsSwitch.{clause_falls}
use Rattle.swc_ecma_parser_reader.proofs.expressions.Loops.{shorter_by, deeper}

-- ---- what takes a token leaves fewer

pub stmt_shorter : (n : ℕ) (at : Position) (s : State) (x : Tree) (t : State) → stmt n at s ≡ Ok (x, t) → length t.at.left < length s.at.left
stmt_shorter n at s x t e = shorter_by (length s.at.left) (stmt n at s) x t e (stmt_falls n at s)

pub whole_shorter : (n : ℕ) (at : Position) (s : State) (x : Tree) (t : State) → whole_stmt n at s ≡ Ok (x, t) → length t.at.left < length s.at.left
whole_shorter n at s x t e = shorter_by (length s.at.left) (whole_stmt n at s) x t e (whole_stmt_falls n at s)

pub declarator_shorter : (n : ℕ) (in_head : Bool) (word : VarDeclKind) (s : State) (x : Tree) (t : State) → declarator (expr n) (pattern n) in_head word s ≡ Ok (x, t) → length t.at.left < length s.at.left
declarator_shorter n in_head word s x t e = shorter_by (length s.at.left) (declarator (expr n) (pattern n) in_head word s) x t e (declarator_falls (expr n) (expr_falls n) (pattern n) (pattern_falls n) in_head word s)

-- a turn that takes a declarator and the comma behind it
pub declarators_shorter : (n : ℕ) (in_head : Bool) (word : VarDeclKind) (s : State) (x : Tree) (t : State) → declarator (expr n) (pattern n) in_head word s ≡ Ok (x, t) → length (after t.at).left < length s.at.left
declarators_shorter n in_head word s x t e = let a = declarator_shorter n in_head word s x t e in let b = moves t.at in omega arith

-- ---- statements one behind another: the list ends, an item fails, an item is read

module _ (item : Reader Tree) (stops : Place → Bool) (directives : Bool) (found : List Tree) (s : State) where
  pub items_stop : stops s.at ≡ true → loop (items_turn item stops directives) found s ≡ Ok (found, s)
  unfolding items_turn
  items_stop e = loop_done (items_turn item stops directives) found found s s (rw e refl)

  pub items_err : (e : Fault × State) → stops s.at ≡ false → item s ≡ Err e → loop (items_turn item stops directives) found s ≡ Err e
  unfolding items_turn
  items_err e h g = loop_err (items_turn item stops directives) found s e (rw (h, g) refl)

  pub items_more : (x : Tree) (t : State) → stops s.at ≡ false → item s ≡ Ok (x, t) → length t.at.left < length s.at.left
      → loop (items_turn item stops directives) found s ≡ loop (items_turn item stops directives) (found ++ x ∷ []) (coded (directed t.code (directs directives found) x) t)
  unfolding items_turn
  items_more x t h g k = loop_more (items_turn item stops directives) found (found ++ x ∷ []) s (coded (directed t.code (directs directives found) x) t) (rw (h, g) refl) k

-- whether a directive can stand behind one item more
pub directs_push : (directives : Bool) (found : List Tree) (x : Tree) → directs directives (found ++ x ∷ []) ≡ directs_on (directs directives found) x
directs_push directives [] x = refl
directs_push directives (y ∷ ys) x = directs_push (directs_on directives y) ys x

-- ---- declarators with commas between

module _ (n : ℕ) (in_head : Bool) (word : VarDeclKind) (found : List Tree) (s : State) where
  pub declarators_err : (e : Fault × State) → ends_declarators s.at ≡ false → declarator (expr n) (pattern n) in_head word s ≡ Err e → loop (declarators_turn (expr n) (pattern n) in_head word) found s ≡ Err e
  unfolding declarators_turn
  declarators_err e b h = loop_err (declarators_turn (expr n) (pattern n) in_head word) found s e (rw (b, h) refl)

  -- where one is missing
  pub declarators_miss : (t : State) → ends_declarators s.at ≡ true → fault (fault_at (missing_at found s.at) faults.TS1009) s ≡ Ok (tt, t)
      → loop (declarators_turn (expr n) (pattern n) in_head word) found s ≡ Ok (found, t)
  unfolding declarators_turn no_declarator
  declarators_miss t b h = loop_done (declarators_turn (expr n) (pattern n) in_head word) found found s t (rw (b, h) refl)

  pub declarators_miss_err : (e : Fault × State) → ends_declarators s.at ≡ true → fault (fault_at (missing_at found s.at) faults.TS1009) s ≡ Err e
      → loop (declarators_turn (expr n) (pattern n) in_head word) found s ≡ Err e
  unfolding declarators_turn no_declarator
  declarators_miss_err e b h = loop_err (declarators_turn (expr n) (pattern n) in_head word) found s e (rw (b, h) refl)

  pub declarators_done : (x : Tree) (t : State) → ends_declarators s.at ≡ false → declarator (expr n) (pattern n) in_head word s ≡ Ok (x, t) → sees kind.Comma t.at ≡ false → loop (declarators_turn (expr n) (pattern n) in_head word) found s ≡ Ok (found ++ x ∷ [], t)
  unfolding declarators_turn
  declarators_done x t b h e = loop_done (declarators_turn (expr n) (pattern n) in_head word) found (found ++ x ∷ []) s t (rw (b, h, e) refl)

  pub declarators_more : (x : Tree) (t : State) → ends_declarators s.at ≡ false → declarator (expr n) (pattern n) in_head word s ≡ Ok (x, t) → sees kind.Comma t.at ≡ true
      → loop (declarators_turn (expr n) (pattern n) in_head word) found s ≡ loop (declarators_turn (expr n) (pattern n) in_head word) (found ++ x ∷ []) (moved t)
  unfolding declarators_turn
  declarators_more x t b h e = loop_more (declarators_turn (expr n) (pattern n) in_head word) found (found ++ x ∷ []) s (moved t) (rw (b, h, e) refl) (declarators_shorter n in_head word s x t h)

-- ---- the clauses of a `switch`

module _ (n : ℕ) (l : Clauses) (s : State) where
  pub clauses_done : begins_clause s.at ≡ false → loop (clauses_turn (stmt n nested_item) (expr n expression)) l s ≡ Ok (l.found, s)
  unfolding clauses_turn
  clauses_done e = loop_done (clauses_turn (stmt n nested_item) (expr n expression)) l l.found s s (rw e refl)

  pub clauses_err : (e : Fault × State) → begins_clause s.at ≡ true → clause (stmt n nested_item) (expr n expression) l.has_default s ≡ Err e
      → loop (clauses_turn (stmt n nested_item) (expr n expression)) l s ≡ Err e
  unfolding clauses_turn
  clauses_err e h g = loop_err (clauses_turn (stmt n nested_item) (expr n expression)) l s e (rw (h, g) refl)

  pub clause_shorter : (x : Tree) (t : State) → begins_clause s.at ≡ true → clause (stmt n nested_item) (expr n expression) l.has_default s ≡ Ok (x, t) → length t.at.left < length s.at.left
  clause_shorter x t h e = shorter_by (length s.at.left) (clause (stmt n nested_item) (expr n expression) l.has_default s) x t e
      (clause_falls (stmt n nested_item) (stmt_falls n nested_item) (expr n expression) (expr_falls n expression) l.has_default s h)

  pub clauses_more : (x : Tree) (t : State) → begins_clause s.at ≡ true → clause (stmt n nested_item) (expr n expression) l.has_default s ≡ Ok (x, t)
      → loop (clauses_turn (stmt n nested_item) (expr n expression)) l s
      ≡ loop (clauses_turn (stmt n nested_item) (expr n expression)) (record { found = l.found ++ x ∷ []; has_default = l.has_default || sees kind.Default s.at }) t
  unfolding clauses_turn
  clauses_more x t h e = loop_more (clauses_turn (stmt n nested_item) (expr n expression)) l (record { found = l.found ++ x ∷ []; has_default = l.has_default || sees kind.Default s.at }) s t
      (rw (h, e) refl) (clause_shorter x t h e)

-- ---- levels, where a number is 0 or not

pub stmt_lowest : (n : ℕ) (at : Position) (s : State) → n ≡ 0 → stmt n at s ≡ too_deep s
unfolding stmt
stmt_lowest n at s e = rw e refl

pub stmt_above : (n : ℕ) (at : Position) (s : State) → 0 < n → stmt n at s ≡ either_stmt (plain_stmt (n - 1)) (decorated_in (n - 1)) at s
unfolding stmt
stmt_above n at s h = deeper (λ k. stmt k at s) n h

pub member_lowest : (n : ℕ) (s : State) → n ≡ 0 → member n s ≡ too_deep s
unfolding member
member_lowest n s e = rw e refl

pub member_above : (n : ℕ) (s : State) → 0 < n → member n s ≡ member_level (expr (n - 1)) (cover (n - 1)) (stmt (n - 1) nested_item) (parameters (n - 1)) (decorated_in (n - 1)) s
unfolding member
member_above n s h = deeper (λ k. member k s) n h

-- ---- the name of a function that is an expression

pub named_own : (w g : Bool) (s : State) → name_at (named_by s.code w g).flags s.at ≡ true → own_name w g s ≡ within (λ k. named_by k w g) named s
unfolding own_name
named_own w g s e = rw e refl

pub no_own_name : (w g : Bool) (s : State) → name_at (named_by s.code w g).flags s.at ≡ false → own_name w g s ≡ Ok (tree.absent, s)
unfolding own_name
no_own_name w g s e = rw e refl
