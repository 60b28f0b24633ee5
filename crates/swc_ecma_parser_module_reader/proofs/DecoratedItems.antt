-- An item that begins with decorators is a statement, as it is read without modules, or an import or an export stands behind them.
use Rattle.std.proofs.Common.{◌≡◌, ◌⊎◌, inl, inr, ℕ, zero, suc, Bool, true, false, true≢false, cond, List, [], ◌∷◌, ◌++◌, Ok, Err, refl, sym, ◌∙◌, ap, subst}
use Rattle.std.specs.Prelude.{◌&&◌, ◌||◌}
use Rattle.swc_ecma_parser_token.specs.declared.kind.TokenKind.TheVariants as kind
use Rattle.swc_ecma_parser_input.specs.Place.{Place}
use Rattle.swc_ecma_parser_model.specs.Tree.{Tree}
use Rattle.swc_ecma_parser_grammar.specs.Looks.{sees, same_kind}
use Rattle.swc_ecma_parser_grammar.specs.Names.{Code}
use Rattle.swc_ecma_parser_grammar.specs.language.Items.{top_item}
use Rattle.swc_ecma_parser_grammar.proofs.Tests.{and_yes, and_both, or_no}
use Rattle.swc_ecma_parser_reader.specs.DecoratedStatements.{stmt_behind, decorated_stmt}
use Rattle.swc_ecma_parser_reader.specs.DecoratorLevels.{decorated_in}
use Rattle.swc_ecma_parser_reader.specs.Decorators.{Leading, decorator, decorators_turn, decorators, leading, has_any}
use Rattle.swc_ecma_parser_reader.specs.Reader.{stmt, top_await, whole_stmt, plain_stmt}
use Rattle.swc_ecma_parser_reader.specs.State.{State, Outcome, Reader, and_then}
use Rattle.swc_ecma_parser_reader.proofs.Meets.{Meets, Refuses, meets_then, meets_if, always, Turned, loop_answers, saw}
use Rattle.swc_ecma_parser_reader.proofs.decorators.Either.{either_decorated}
use Rattle.swc_ecma_parser_module_reader.specs.Decorated.{begins_decorators}
use Rattle.swc_ecma_parser_module_reader.specs.Modules.{begins_import, import_in, export_in, import_behind, export_behind, item_behind, decorated_item, module_item}
use Rattle.swc_ecma_parser_module_reader.specs.Programs.{begins_module}

-- ---- where they begin

pub signs : (k : Code) (c : Place) → begins_decorators k c ≡ true → (k.setting.decorators ≡ true) × (sees kind.At c ≡ true)
unfolding begins_decorators
signs k c b = and_yes k.setting.decorators (sees kind.At c) b

pub stands : (k : Code) (c : Place) → begins_decorators k c ≡ true → sees kind.At c && k.setting.decorators ≡ true
stands k c b = let g = signs k c b in and_both (sees kind.At c) k.setting.decorators g.1 g.0

-- there is one at least
some_push : (xs : List Tree) (x : Tree) → has_any (xs ++ x ∷ []) ≡ true
some_push [] x = refl
some_push (y ∷ ys) x = refl

-- one was read, or stands here
abbrev Goes : List Tree → State → Type 0
Goes xs t = (has_any xs ≡ true) ⊎ (sees kind.At t.at ≡ true)

ended : (xs : List Tree) (t : State) → Goes xs t → sees kind.At t.at ≡ false → has_any xs ≡ true
ended xs t (inl h) e = h
ended xs t (inr h) e = absurd (true≢false (sym h ∙ e))

module _ (further : Reader Tree) where
  any_turn : (xs : List Tree) (t : State) → Goes xs t → Meets (Turned (decorators_turn further) Goes (λ ys u. has_any ys ≡ true) Refuses) (decorators_turn further xs t)
  unfolding decorators_turn
  any_turn xs t g = meets_if _ (sees kind.At t.at) _ _ (λ _. always _ (decorator further t) _ (λ x u. inl (some_push xs x))) (λ e. ended xs t g e)

  any_found : (s : State) → s.code.setting.decorators ≡ true → sees kind.At s.at ≡ true → Meets (λ xs t. has_any xs ≡ true) (decorators further s)
  unfolding decorators
  any_found s a b = meets_if _ s.code.setting.decorators _ _ (λ _. loop_answers (decorators_turn further) Goes (λ xs t. has_any xs ≡ true) Refuses any_turn (λ t. tt) [] s (inr b))
      (λ h. absurd (true≢false (sym a ∙ h)))

  pub leading_any : (s : State) → begins_decorators s.code s.at ≡ true → Meets (λ v t. has_any v.found ≡ true) (leading further s)
  unfolding leading
  leading_any s b = let g = signs s.code s.at b in meets_then {P = λ xs t. has_any xs ≡ true} _ (decorators further s) _ (any_found s g.0 g.1) (λ xs t h. h)

-- ---- statements

-- no `await` stands there
whole_goes : (n : ℕ) (s : State) → sees kind.At s.at ≡ true → whole_stmt n top_item s ≡ stmt n top_item s
unfolding whole_stmt top_await same_kind
whole_goes n s e = rw (saw s.at kind.At e) refl

pub whole_above : (n : ℕ) (s : State) → begins_decorators s.code s.at ≡ true
    → whole_stmt (suc n) top_item s ≡ and_then (leading (decorated_in n) s) (stmt_behind (plain_stmt n) top_item)
unfolding stmt decorated_stmt
whole_above n s b = whole_goes (suc n) s (signs s.code s.at b).1 ∙ either_decorated (plain_stmt n) (decorated_in n) top_item s (stands s.code s.at b)

pub whole_lowest : (s : State) → begins_decorators s.code s.at ≡ true → decorated_item zero s ≡ whole_stmt zero top_item s
unfolding decorated_item stmt
whole_lowest s b = sym (whole_goes zero s (signs s.code s.at b).1)

-- behind a list that was read
pub whole_behind : (n : ℕ) (s : State) → begins_decorators s.code s.at ≡ true → (v : Leading) (t : State) → leading (decorated_in n) s ≡ Ok (v, t)
    → whole_stmt (suc n) top_item s ≡ stmt_behind (plain_stmt n) top_item v t
whole_behind n s b v t h = whole_above n s b ∙ ap (λ o. and_then o (stmt_behind (plain_stmt n) top_item)) h

-- where neither word stands behind the list
pub behind_stated : (n : ℕ) (v : Leading) (t : State) → begins_module t.at ≡ false → item_behind n v t ≡ stmt_behind (plain_stmt n) top_item v t
unfolding item_behind begins_module
behind_stated n v t w = let g = or_no (begins_import t.at) (sees kind.Export t.at) w in rw (g.0, g.1) refl

-- ---- what is known of a statement, of an import and of an export behind decorators is known of an item

module _ (Q : Outcome Tree → Type 0) where
  -- where one of the two words stands
  pub word_cases : (n : ℕ) (v : Leading) (t : State) → begins_module t.at ≡ true → (begins_import t.at ≡ true → Q (import_behind n v t)) → (sees kind.Export t.at ≡ true → Q (export_behind n v t))
      → Q (item_behind n v t)
  unfolding item_behind begins_module
  word_cases n v t w imports exports = by_word (begins_import t.at) (sees kind.Export t.at) refl refl w
    where
      by_word : (i e : Bool) → begins_import t.at ≡ i → sees kind.Export t.at ≡ e → (i || e) ≡ true
          → Q (cond i (import_behind n v t) (cond e (export_behind n v t) (stmt_behind (plain_stmt n) top_item v t)))
      by_word true e f g h = imports f
      by_word false true f g h = exports g
      by_word false false f g h = absurd (true≢false (sym h))

  module _ (n : ℕ) (s : State) (b : begins_decorators s.code s.at ≡ true) (stated : Q (whole_stmt (suc n) top_item s)) (v : Leading) (t : State) (h : leading (decorated_in n) s ≡ Ok (v, t))
      (imports : begins_import t.at ≡ true → Q (import_behind n v t)) (exports : sees kind.Export t.at ≡ true → Q (export_behind n v t)) where
    pub behind_cases : Q (item_behind n v t)
    unfolding item_behind
    behind_cases = by_word (begins_import t.at) (sees kind.Export t.at) refl refl
      where
        by_word : (i e : Bool) → begins_import t.at ≡ i → sees kind.Export t.at ≡ e → Q (cond i (import_behind n v t) (cond e (export_behind n v t) (stmt_behind (plain_stmt n) top_item v t)))
        by_word true e f g = imports f
        by_word false true f g = exports g
        by_word false false f g = subst Q (whole_behind n s b v t h) stated

  module _ (n : ℕ) (s : State) (b : begins_decorators s.code s.at ≡ true) (stated : Q (whole_stmt (suc n) top_item s))
      (imports : (v : Leading) (t : State) → leading (decorated_in n) s ≡ Ok (v, t) → begins_import t.at ≡ true → Q (import_behind n v t))
      (exports : (v : Leading) (t : State) → leading (decorated_in n) s ≡ Ok (v, t) → sees kind.Export t.at ≡ true → Q (export_behind n v t)) where
    by_list : (o : Outcome Leading) → leading (decorated_in n) s ≡ o → Q (and_then o (item_behind n))
    by_list (Ok p) h = behind_cases n s b stated p.0 p.1 h (imports p.0 p.1 h) (exports p.0 p.1 h)
    by_list (Err e) h = subst Q (whole_above n s b ∙ ap (λ o. and_then o (stmt_behind (plain_stmt n) top_item)) h) stated

    pub decorated_cases : Q (decorated_item (suc n) s)
    unfolding decorated_item
    decorated_cases = by_list (leading (decorated_in n) s) refl

  -- an item, with decorators or without
  pub item_cases : (n : ℕ) (s : State) → (begins_import s.at ≡ true → Q (import_in n s)) → (sees kind.Export s.at ≡ true → Q (export_in n s)) → Q (whole_stmt n top_item s)
      → ((m : ℕ) → n ≡ suc m → begins_decorators s.code s.at ≡ true → (v : Leading) (t : State) → leading (decorated_in m) s ≡ Ok (v, t)
      → (begins_import t.at ≡ true → Q (import_behind m v t)) × (sees kind.Export t.at ≡ true → Q (export_behind m v t)))
      → Q (module_item n s)
  unfolding module_item
  item_cases n s imports exports stated led = by_first (begins_import s.at) (sees kind.Export s.at) (begins_decorators s.code s.at) refl refl refl
    where
      decorated : (m : ℕ) → n ≡ m → begins_decorators s.code s.at ≡ true → Q (decorated_item m s)
      decorated zero e b = subst Q (sym (whole_lowest s b)) (subst (λ m. Q (whole_stmt m top_item s)) e stated)
      decorated (suc m) e b = decorated_cases m s b (subst (λ k. Q (whole_stmt k top_item s)) e stated) (λ v t h. (led m e b v t h).0) (λ v t h. (led m e b v t h).1)

      by_first : (i e d : Bool) → begins_import s.at ≡ i → sees kind.Export s.at ≡ e → begins_decorators s.code s.at ≡ d
          → Q (cond i (import_in n s) (cond e (export_in n s) (cond d (decorated_item n s) (whole_stmt n top_item s))))
      by_first true e d f g h = imports f
      by_first false true d f g h = exports g
      by_first false false true f g h = decorated n refl h
      by_first false false false f g h = stated
