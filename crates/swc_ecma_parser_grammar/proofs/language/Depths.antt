-- A tree is read within so many levels exactly where it is read within some, and is no deeper than that.
use Rattle.std.proofs.Common.{◌≡◌, ℕ, zero, suc, ◌≤◌, Bool, true, false, ◌||◌, Option, refl, ap, ◌∙◌, arith}
use Rattle.swc_ecma_parser_common.specs.declared.span.Span.{Span}
use Rattle.swc_ecma_parser_input.specs.Place.{Place}
use Rattle.swc_ecma_parser_model.specs.Tree.{Tree, Text, listed}
use Rattle.swc_ecma_parser_grammar.specs.Looks.{whole_span}
use Rattle.swc_ecma_parser_grammar.specs.Names.{Code}
use Rattle.swc_ecma_parser_grammar.specs.Depth.{depth}
use Rattle.swc_ecma_parser_grammar.specs.Levels.{LevelsAreDepth}
use Rattle.swc_ecma_parser_grammar.specs.language.Goals.{Goal, expr_goal, callee_goal, pattern_goal, element_goal, stmt_goal, member_goal, decorator_goal, using_goal, attributes_goal, item_goal}
use Rattle.swc_ecma_parser_grammar.specs.language.Items.{top_item}
use Rattle.swc_ecma_parser_grammar.specs.language.Reads.{Reads}
use Rattle.swc_ecma_parser_grammar.specs.language.Programs.{Entry, script, «module», program, module_item, stmt, stmt_list_item, ScriptRule, is_module_body, whole, ModuleRule, at_top, EntryRule, entry_code, ReadsEntry}
use Rattle.swc_ecma_parser_grammar.proofs.language.Asked.{goal_depth, Asked, none, one, pair, Each, greatest, Inside, Level, Fitting, part, turned, sized, over, same}
use Rattle.swc_ecma_parser_grammar.proofs.language.Parts.{items_inside, member_level}
use Rattle.swc_ecma_parser_grammar.proofs.language.Expressions.{primary_level, left_level, pattern_level, pattern_element_level, expr_level, decorated_level}
use Rattle.swc_ecma_parser_grammar.proofs.language.Statements.{using_name_inside, stmt_level}
use Rattle.swc_ecma_parser_grammar.proofs.language.ModuleItems.{item_level, module_items_inside}
use Rattle.swc_ecma_parser_grammar.proofs.language.Shapes.{expr_is, pattern_is, stmt_is}

-- ---- goals

some_depth : {In Out : Goal → Type 0} {W : Type 0} (p : ℕ) → Level In Out W p → 1 ≤ p
some_depth p a = let g : p ≡ suc a.within = a.deeper in omega arith

-- the trees that goals read are as `Fitting` says
fitting : (n : ℕ) (g : Goal) → Reads n g → Fitting g
fitting zero g h = absurd h
fitting (suc n) (expr_goal class k x c d) h = expr_is (Reads n) class k x c d h
fitting (suc n) (callee_goal k x c d) h = tt
fitting (suc n) (pattern_goal p k x c d) h = (pattern_is (Reads n) h, some_depth (depth x) (pattern_level (Reads n) (Reads n) (fitting n) h))
fitting (suc n) (element_goal p k x c d) h = tt
fitting (suc n) (stmt_goal k at x c d) h = stmt_is (Reads n) k at x c d h
fitting (suc n) (member_goal k x c d) h = tt
fitting (suc n) (decorator_goal k x c d) h = tt
fitting (suc n) (using_goal k x c d) h = tt
fitting (suc n) (attributes_goal k x c d) h = tt
fitting (suc n) (item_goal k x c d) h = tt

-- what a goal asks of its parts: it is one deeper than the deepest of them
reads_level : (m n : ℕ) (g : Goal) → Reads (suc m) g → Level (Reads m) (Reads n) (Reads (suc n) g) (goal_depth g)
reads_level m n (expr_goal class k x c d) h = expr_level (Reads m) (Reads n) (fitting m) class k x c d h
reads_level m n (callee_goal k x c d) h = same (left_level (Reads m) (Reads n) (fitting m) h.0) (λ o. (o, h.1)) refl
reads_level m n (pattern_goal p k x c d) h = pattern_level (Reads m) (Reads n) (fitting m) h
reads_level m n (element_goal p k x c d) h = pattern_element_level (Reads m) (Reads n) (fitting m) h
reads_level m n (stmt_goal k at x c d) h = stmt_level (Reads m) (Reads n) (fitting m) k at x c d h
reads_level m n (member_goal k x c d) h = member_level (Reads m) (Reads n) (fitting m) h
reads_level m n (decorator_goal k x c d) h = decorated_level (Reads m) (Reads n) (fitting m) h
reads_level m n (using_goal k x c d) h = over (using_name_inside (Reads m) (Reads n) (fitting m) h) (λ o. o) refl
reads_level m n (attributes_goal k x c d) h = same (primary_level (Reads m) (Reads n) (fitting m) h.0) (λ o. (o, h.1)) refl
reads_level m n (item_goal k x c d) h = item_level (Reads m) (Reads n) (fitting m) k x c d h

each_fits : (In : Goal → Type 0) (n : ℕ) → ((g : Goal) → In g → goal_depth g ≤ n) → (a : Asked) → Each In a → greatest a ≤ n
each_fits In n fits none h = omega arith
each_fits In n fits (one g) h = fits g h
each_fits In n fits (pair a b) h = let f = each_fits In n fits a h.0 in let g = each_fits In n fits b h.1 in omega arith

each_kept : (In Out : Goal → Type 0) (n : ℕ) → ((g : Goal) → In g → goal_depth g ≤ n → Out g) → (a : Asked) → Each In a → greatest a ≤ n → Each Out a
each_kept In Out n keep none h l = tt
each_kept In Out n keep (one g) h l = keep g h l
each_kept In Out n keep (pair a b) h l = (each_kept In Out n keep a h.0 (omega arith), each_kept In Out n keep b h.1 (omega arith))

inside_fits : {In Out : Goal → Type 0} {W : Type 0} {p : ℕ} (n : ℕ) → ((g : Goal) → In g → goal_depth g ≤ n) → Inside In Out W p → p ≤ n
inside_fits {In = In} {p = p} n fits a =
    let e : p ≡ greatest a.asked = a.exact in
    let f = each_fits In n fits a.asked a.held in omega arith

inside_kept : {In Out : Goal → Type 0} {W : Type 0} {p : ℕ} (n : ℕ) → ((g : Goal) → In g → goal_depth g ≤ n → Out g) → Inside In Out W p → p ≤ n → W
inside_kept {In = In} {Out = Out} {p = p} n keep a l =
    let e : p ≡ greatest a.asked = a.exact in a.rebuilt (each_kept In Out n keep a.asked a.held (omega arith))

-- no goal is deeper than its levels
pub reads_fit : (n : ℕ) (g : Goal) → Reads n g → goal_depth g ≤ n
reads_fit zero g h = absurd h
reads_fit (suc n) g h =
    let a = reads_level n n g h in
    let e : goal_depth g ≡ suc a.within = a.deeper in
    let f = inside_fits n (reads_fit n) a.inside in omega arith

-- what is read within some levels is read within any that are as many as it is deep
pub reads_kept : (m n : ℕ) (g : Goal) → Reads m g → goal_depth g ≤ n → Reads n g
reads_kept zero n g h l = absurd h
reads_kept (suc m) zero g h l =
    let a = reads_level m m g h in
    let e : goal_depth g ≡ suc a.within = a.deeper in absurd (omega arith)
reads_kept (suc m) (suc n) g h l =
    let a = reads_level m n g h in
    let e : goal_depth g ≡ suc a.within = a.deeper in
    inside_kept n (reads_kept m n) a.inside (omega arith)

-- ---- entries

-- a module and a script are as deep as their items
whole_depth : (is_module : Bool) (s : Span) (body : Tree) (shebang : Option Text) → depth (whole is_module s body shebang) ≡ depth body
whole_depth true s body shebang = refl
whole_depth false s body shebang = refl

module _ (In Out : Goal → Type 0) (fits : (g : Goal) → In g → Fitting g) where
  script_inside : {k : Code} {x : Tree} {c d : Place} → ScriptRule In k x c d → Inside In Out (ScriptRule Out k x c d) (depth x)
  script_inside {k = k} {d = d} r =
      sized
      (turned (items_inside In Out fits k true top_item r.items r.first d r.reads_items)
      (λ o. record { shebang = r.shebang; first = r.first; items = r.items; reads_shebang = r.reads_shebang; reads_items = o; to_the_end = r.to_the_end; is = r.is }))
      (ap depth r.is)

  module_inside : {is_certain : Bool} {k : Code} {x : Tree} {c d : Place} → ModuleRule In is_certain k x c d → Inside In Out (ModuleRule Out is_certain k x c d) (depth x)
  module_inside {is_certain = is_certain} {k = k} {c = c} {d = d} r =
      sized
      (turned (module_items_inside In Out fits k true r.items r.awaits r.first d r.reads_items)
      (λ o. record {
        shebang = r.shebang;
        first = r.first;
        items = r.items;
        awaits = r.awaits;
        reads_shebang = r.reads_shebang;
        reads_items = o;
        to_the_end = r.to_the_end;
        is = r.is;
      }))
      (ap depth r.is ∙ whole_depth (is_certain || is_module_body r.items r.awaits) (whole_span c d) (listed r.items) r.shebang)

  entry_inside : (entry : Entry) (k : Code) (x : Tree) (c d : Place) → EntryRule In entry k x c d → Inside In Out (EntryRule Out entry k x c d) (depth x)
  entry_inside script k x c d r = script_inside r
  entry_inside «module» k x c d r = module_inside r
  entry_inside program k x c d r = module_inside r
  entry_inside module_item k x c d r = part (item_goal k x c d) r (λ o. o)
  entry_inside (stmt top_level) k x c d r = part (stmt_goal k (at_top false top_level) x c d) r (λ o. o)
  entry_inside (stmt_list_item top_level) k x c d r = part (stmt_goal k (at_top true top_level) x c d) r (λ o. o)

pub entry_fits : (n : ℕ) (entry : Entry) (k : Code) (x : Tree) (c d : Place) → ReadsEntry n entry k x c d → depth x ≤ n
entry_fits n entry k x c d r = inside_fits n (reads_fit n) (entry_inside (Reads n) (Reads n) (fitting n) entry (entry_code entry k) x c d r.0)

pub entry_kept : (m n : ℕ) (entry : Entry) (k : Code) (x : Tree) (c d : Place) → ReadsEntry m entry k x c d → depth x ≤ n → ReadsEntry n entry k x c d
entry_kept m n entry k x c d r l = (inside_kept n (reads_kept m n) (entry_inside (Reads m) (Reads n) (fitting m) entry (entry_code entry k) x c d r.0) l, r.1)

-- the two together
pub levels_are_depth : LevelsAreDepth
levels_are_depth n entry k x c d = (λ r. ((n, r), entry_fits n entry k x c d r), λ p. entry_kept p.0.0 n entry k x c d p.0.1 p.1)
