-- Code of a module: imports and exports leave it as it is, and so do directives. Other code becomes a module's behind an import or an export.
use Rattle.std.proofs.Common.{◌≡◌, Bool, true, false, cond, List, [], ◌∷◌, ◌++◌, refl, sym, ◌∙◌, ap, subst}
use Rattle.std.specs.Prelude.{◌&&◌}
use Rattle.swc_ecma_parser_model.specs.Directive.{is_use_strict}
use Rattle.swc_ecma_parser_model.specs.Kinds.{is_module_decl}
use Rattle.swc_ecma_parser_input.specs.Place.{Place}
use Rattle.swc_ecma_parser_model.specs.Tree.{Tree, Text, trees}
use Rattle.swc_ecma_parser_grammar.specs.Names.{Code}
use Rattle.swc_ecma_parser_grammar.specs.Walk as walks
use Rattle.swc_ecma_parser_grammar.specs.Walk.{Env, env_of, walk, walk_items}
use Rattle.swc_ecma_parser_grammar.specs.language.Items.{directed, directs_on}
use Rattle.swc_ecma_parser_grammar.specs.language.Contexts.{in_module, in_strict}
use Rattle.swc_ecma_parser_grammar.specs.language.Goals.{Goal}
use Rattle.swc_ecma_parser_grammar.specs.language.ModuleItems.{ModuleItemsRule, behind_item}
use Rattle.swc_ecma_parser_module_reader.specs.Modules.{module_code}

abbrev pub IsModule : Code → Type 0
IsModule k = (k.flags.«module» ≡ true) × (k.flags.strict ≡ true)

pub in_module_same : (k : Code) → IsModule k → ◌≡◌ {A = Code} (in_module k) k
in_module_same k (m, s) = λ i. record k { flags = record k.flags { «module» = sym m i; strict = sym s i } }

-- ---- module code stays what it is

strict_same : (k : Code) → IsModule k → ◌≡◌ {A = Code} (in_strict k) k
strict_same k (m, s) = λ i. record k { flags = record k.flags { strict = sym s i } }

pub directed_same : (k : Code) → IsModule k → (directives : Bool) (x : Tree) → directed k directives x ≡ k
directed_same k m directives x = by_test (directives && is_use_strict x)
  where
    by_test : (b : Bool) → cond b (in_strict k) k ≡ k
    by_test true = strict_same k m
    by_test false = refl

pub behind_same : (k : Code) → IsModule k → (directives : Bool) (x : Tree) → behind_item (directed k directives x) x ≡ k
behind_same k m directives x = ap (λ j. behind_item j x) (directed_same k m directives x) ∙ by_test (is_module_decl x)
  where
    by_test : (b : Bool) → cond b (in_module k) k ≡ k
    by_test true = in_module_same k m
    by_test false = refl

-- and so does what the walk knows of it
pub module_env : (k : Code) (labels : List Text) → IsModule k → ◌≡◌ {A = Env} (walks.env_in_module (env_of k labels)) (env_of k labels)
module_env k labels (m, s) = λ i. record (env_of k labels) { strict = sym s i }

env_strict : (env : Env) → env.strict ≡ true → (b : Bool) → ◌≡◌ {A = Env} (cond b (record env { strict = true }) env) env
env_strict env h true = λ i. record env { strict = sym h i }
env_strict env h false = refl

pub env_same : (env : Env) → env.strict ≡ true → (directives : Bool) (x : Tree) → walks.env_behind_item (walks.env_directed env directives x) x ≡ env
env_same env h directives x = ap (λ v. walks.env_behind_item v x) (env_strict env h (directives && is_use_strict x)) ∙ env_strict env h (is_module_decl x)

-- ---- in module code it does not matter whether a directive can stand first

pub undirected : (In : Goal → Type 0) (k : Code) → IsModule k → (zs : List Tree) (a b awaits : Bool) (c d : Place) → ModuleItemsRule In k a zs awaits c d → ModuleItemsRule In k b zs awaits c d
undirected In k o [] a b awaits c d r = r
undirected In k o (z ∷ zs) a b awaits c d (i, others, q, qs, e) = (
  i,
  others,
  q,
  subst (λ j. ModuleItemsRule In j (directs_on b z) zs others i d) (sym (behind_same k o b z))
      (undirected In k o zs (directs_on a z) (directs_on b z) others i d (subst (λ j. ModuleItemsRule In j (directs_on a z) zs others i d) (behind_same k o a z) qs)),
  e,
)

pub undirected_walk : (env : Env) → env.strict ≡ true → (zs : List Tree) (a b : Bool) → walk_items env a (trees zs) ≡ walk_items env b (trees zs)
undirected_walk env h [] a b = refl
undirected_walk env h (z ∷ zs) a b = ap (λ v. walk env z ++ walk_items v (directs_on a z) (trees zs)) (env_same env h a z)
    ∙ ap (λ v. walk env z ++ v) (undirected_walk env h zs (directs_on a z) (directs_on b z))
    ∙ ap (λ v. walk env z ++ walk_items v (directs_on b z) (trees zs)) (sym (env_same env h b z))

-- ---- code that is none yet

-- code that may be a module's becomes one's as behind an import
pub entered_code : (k : Code) → k.flags.can_be_module ≡ true → ◌≡◌ {A = Code} (module_code k) (in_module k)
entered_code k h = λ i. record k { flags = record k.flags { «module» = true; can_be_module = sym h i; strict = true } }

-- a directive leaves it alone whether it may be
pub directed_may : (k : Code) (directives : Bool) (x : Tree) → k.flags.can_be_module ≡ true → (directed k directives x).flags.can_be_module ≡ true
directed_may k directives x h = by_test (directives && is_use_strict x)
  where
    by_test : (b : Bool) → (cond b (in_strict k) k).flags.can_be_module ≡ true
    by_test true = h
    by_test false = h

-- behind an import or an export the code is a module's, whatever stood before, and for the walk it is strict
pub declared_code : (k : Code) (directives : Bool) (y : Tree) → is_module_decl y ≡ true → behind_item (directed k directives y) y ≡ in_module k
declared_code k directives y d = ap (λ b. cond b (in_module (directed k directives y)) (directed k directives y)) d ∙ by_test (directives && is_use_strict y)
  where
    by_test : (b : Bool) → in_module (cond b (in_strict k) k) ≡ in_module k
    by_test true = refl
    by_test false = refl

pub declared_env : (env : Env) (directives : Bool) (y : Tree) → is_module_decl y ≡ true → walks.env_behind_item (walks.env_directed env directives y) y ≡ walks.env_in_module env
declared_env env directives y d = ap (λ b. cond b (walks.env_in_module (walks.env_directed env directives y)) (walks.env_directed env directives y)) d ∙ by_test (directives && is_use_strict y)
  where
    by_test : (b : Bool) → walks.env_in_module (cond b (record env { strict = true }) env) ≡ walks.env_in_module env
    by_test true = refl
    by_test false = refl

-- so it does not matter there either whether a directive could stand before it
pub declared_rule : (In : Goal → Type 0) (k : Code) (a b : Bool) (y : Tree) (ys : List Tree) (awaits : Bool) (c d : Place) → is_module_decl y ≡ true
    → ModuleItemsRule In (behind_item (directed k a y) y) (directs_on a y) ys awaits c d → ModuleItemsRule In (behind_item (directed k b y) y) (directs_on b y) ys awaits c d
declared_rule In k a b y ys awaits c d e r =
    subst (λ j. ModuleItemsRule In j (directs_on b y) ys awaits c d) (sym (declared_code k b y e))
    (undirected In (in_module k) (refl, refl) ys (directs_on a y) (directs_on b y) awaits c d (subst (λ j. ModuleItemsRule In j (directs_on a y) ys awaits c d) (declared_code k a y e) r))

pub declared_walk : (env : Env) (a b : Bool) (y : Tree) (ys : List Tree) → is_module_decl y ≡ true → walk_items env a (trees (y ∷ ys)) ≡ walk_items env b (trees (y ∷ ys))
declared_walk env a b y ys e = ap (λ v. walk env y ++ walk_items v (directs_on a y) (trees ys)) (declared_env env a y e)
    ∙ ap (λ v. walk env y ++ v) (undirected_walk (walks.env_in_module env) refl ys (directs_on a y) (directs_on b y))
    ∙ ap (λ v. walk env y ++ walk_items v (directs_on b y) (trees ys)) (sym (declared_env env b y e))

-- behind a statement it is what its directive made of it
pub stated_code : (k : Code) (x : Tree) → is_module_decl x ≡ false → behind_item k x ≡ k
stated_code k x h = ap (λ b. cond b (in_module k) k) h

pub stated_env : (env : Env) (x : Tree) → is_module_decl x ≡ false → walks.env_behind_item env x ≡ env
stated_env env x h = ap (λ b. cond b (walks.env_in_module env) env) h
